use Rattle.std.proofs.Common.{◌≡◌, IsUtf8, subst, sym}
use Rattle.ob_mark.proofs.MarkLemmas.{utf8_bytes}
use Rattle.ob_mark.proofs.identity.id_behind.Goals as goal

pub returns-in-Err-clause-read : goal.returns-in-Err-clause-read
returns-in-Err-clause-read c = λ id within is.
    absurd (c.in-Err.ensures.cases.0 (subst IsUtf8 (sym is) (utf8_bytes id)))
