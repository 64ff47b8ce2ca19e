-- A token that may stand after each part.
use Rattle.std.proofs.Common.{refl}
use Rattle.ob_token.specs.declared.token.Mark.TheVariants as M
use Rattle.ob_token.specs.declared.token.Lexeme.TheVariants as L
use Rattle.ob_token.specs.declared.token.Token.{Token}
use Rattle.ob_condition.proofs.Told.{of}
use Rattle.ob_condition.proofs.GoodConditions.{AfterColumn, AfterConj}

pub column_end : (t : Token) × AfterColumn t
column_end = (of (L.Mark M.Semicolon), refl)

pub conj_end : (t : Token) × AfterConj t
conj_end = (of (L.Mark M.Semicolon), (refl, refl))
