-- The events of rows.
use Rattle.std.proofs.Common.{IsTrue, List, [], ◌∷◌, refl}
use Rattle.std.specs.List.{list_all}
use Rattle.ob_base.specs.Events.{row_events}
use Rattle.ob_base.specs.declared.shown.Shown.{Shown}
use Rattle.ob_verdict.specs.Outcomes.{is_row}

pub are_rows : (shown : List (List Shown)) → IsTrue (list_all is_row (row_events shown))
are_rows [] = refl
are_rows (x ∷ xs) = are_rows xs
