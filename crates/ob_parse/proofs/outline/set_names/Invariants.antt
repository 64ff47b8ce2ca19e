use Rattle.std.proofs.Common.{◌≡◌, map, take}
use Rattle.ob_sql.specs.declared.stmt.Set.{Set}
use Rattle.ob_parse.proofs.outline.set_names.Given as goal

abbrev pub invariant-loop-set : goal.invariant-loop-set
invariant-loop-set l = l.found.items ≡ map (λ (s : Set). s.column) (take l.set-index l.sets)
