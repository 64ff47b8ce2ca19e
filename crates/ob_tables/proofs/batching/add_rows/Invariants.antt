use Rattle.ob_tables.proofs.Words.{false, IsCell, map, refusal_by, rows_in, take, ◌++◌, ◌≡◌}
use Rattle.std.specs.List.{All}
use Rattle.ob_tables.proofs.batching.add_rows.Given as goal

abbrev pub invariant-loop-insert : goal.invariant-loop-insert
invariant-loop-insert l =
    record {
      rows : l.rows.items ≡ l.initial.rows.items ++ rows_in false l.public l.schema (take l.insert-index l.rest);
      held : All (All IsCell) l.rows.items;
      refusals : l.refusals.items ≡ map (refusal_by false l.public) (take l.insert-index l.rest);
    }
