use Rattle.std.proofs.Common.{◌≡◌, ◌∙◌, Bool, true, false, Some, ap}
use Rattle.std.specs.Result.{result_unwrap_or}
use Rattle.ob_row.proofs.row.decode.Goals as goal

pub returns-else-unwrap_or-clause-cell : goal.returns-else-unwrap_or-clause-cell
returns-else-unwrap_or-clause-cell c = λ r begins.
    let yes : c.unwrap_or.result ≡ true = c.unwrap_or.ensures ∙ ap (λ o. result_unwrap_or o false) (c.read.ensures.spelled (Some r) begins) in
    never c.unwrap_or.result yes c.if-unwrap_or.false
  where
    never : {A : Type 0} (b : Bool) → b ≡ true → b ≡ false → A
    never true is not = absurd (cc not)
    never false is not = absurd (cc is)
