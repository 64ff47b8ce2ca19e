use Rattle.std.proofs.Common.{map, refl, subst}
use Rattle.ob_row.specs.Slots.{Slots, kept}
use Rattle.ob_row.specs.Truth.{is_true}
use Rattle.ob_blocks.proofs.Changes.{map_at-map}
use Rattle.ob_flat.specs.Slots.{Spelt}
use Rattle.ob_large.proofs.changing.UnselectedRework.rework.Goals as goal

pub returns-clause-told : goal.returns-clause-told
returns-clause-told c = λ slots spelt.
    let f = kept (is_true c.args.self.now.pred.now) in
    let changed = c.in_ok-change_rows.ensures.told slots spelt in
    (map f slots, refl, subst (λ (l : Slots). Spelt c.args.schema.now l c.change_rows.new.rows) (map_at-map f c.args.first slots) changed.1)
