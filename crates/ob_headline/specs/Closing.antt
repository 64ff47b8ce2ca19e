-- The line that ends an answer.
use Rattle.std.specs.Prelude.{ℕ, Bool, true, false, List, [], ◌++◌, codes, decimal}
use Rattle.ob_verdict.specs.declared.outcome.Outcome.{Outcome}
use Rattle.ob_verdict.specs.declared.outcome.Outcome.TheVariants.{Created, Inserted, Changed, Deleted, Dropped, Rows, Refused}
use Rattle.ob_print.specs.Lines.{refusal_line}

-- the rows of a SELECT are ended by their number, which stands with them
abbrev pub closing_line : Outcome → List ℕ
closing_line Created = codes "= created\n"
closing_line Inserted = codes "= inserted\n"
closing_line (Changed n) = codes "= " ++ (decimal n ++ codes " updated\n")
closing_line (Deleted n) = codes "= " ++ (decimal n ++ codes " deleted\n")
closing_line Dropped = codes "= dropped\n"
closing_line (Rows k) = []
closing_line (Refused refusal) = refusal_line refusal

abbrev pub is_refused : Outcome → Bool
is_refused Created = false
is_refused Inserted = false
is_refused (Changed n) = false
is_refused (Deleted n) = false
is_refused Dropped = false
is_refused (Rows k) = false
is_refused (Refused refusal) = true
