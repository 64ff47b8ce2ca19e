use Rattle.std.proofs.Common.{◌≤◌, ◌<◌, length, subst, sym}
use Rattle.ob_token.specs.declared.lex.Lexed.{Lexed}
use Rattle.ob_token.proofs.Pieces.{piece_fits, piece_moves}
use Rattle.ob_token.proofs.lex.front.Goals as goal

pub returns-clause-fits : goal.returns-clause-fits
returns-clause-fits c = subst (λ (p : Lexed). p.len ≤ length c.args.bytes.now) (sym c.piece_of.ensures) (piece_fits c.args.bytes.now)

pub returns-clause-moves : goal.returns-clause-moves
returns-clause-moves c lt = subst (λ (p : Lexed). 0 < p.len) (sym c.piece_of.ensures) (piece_moves c.args.bytes.now lt)
