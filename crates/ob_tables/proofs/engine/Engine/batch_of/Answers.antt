use Rattle.std.proofs.Common.{◌≡◌, [], ◌∷◌, ◌++◌, List, false, sym, ◌∙◌, ap}
use Rattle.ob_row.specs.Rows.{Row}
use Rattle.ob_tables.specs.Batch.{row_of, rows_in}
use Rattle.ob_tables.proofs.BatchLoops.{batch_few}
use Rattle.ob_tables.proofs.engine.Engine.batch_of.Goals as goal

pub of_rows-requires : goal.of_rows-requires
of_rows-requires g c =
    let one = c.in-Ok.ensures.rows ∙ ap (λ (l : List Row). l ++ row_of c.args.schema.now c.args.first.now ∷ []) c.new-rows.ensures.items in
    batch_few false c.args.self.now.public c.args.schema.now c.args.rest.now (row_of c.args.schema.now c.args.first.now) _ _ one c.in-Ok-add_rows.ensures.rows c.requires.few
