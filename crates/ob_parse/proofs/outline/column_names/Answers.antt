use Rattle.std.proofs.Common.{[], ◌∷◌, ◌++◌, refl, ◌∙◌, ap}
use Rattle.ob_parse.proofs.Keeping.{kept_more, kept_all}
use Rattle.ob_parse.proofs.outline.column_names.Goals as goal

pub loop-column-preserved : goal.loop-column-preserved
loop-column-preserved c =
    kept_more (λ l. l) (λ x. x ∷ []) (λ l x. refl) c.args.columns.now c.loop-column.column-index c.column-item.result c.loop-column.found.items c.push.new.self.items
    c.loop-column-test.true c.column-item.is c.loop-column.invariant (c.in-Ok.ensures.items ∙ ap (λ x. c.loop-column.found.items ++ x ∷ []) c.copied_column.ensures)

pub returns : goal.returns
returns c =
    kept_all (λ l. l) c.args.columns.now c.loop-column.column-index c.loop-column.found.items c.from_vec.result c.loop-column-test.false c.loop-column.invariant c.from_vec.ensures
