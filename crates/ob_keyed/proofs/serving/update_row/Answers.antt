use Rattle.std.proofs.Common.{ℕ, List, w64, refl, sym, ◌∙◌, ap, subst}
use Rattle.std.specs.List.{All}
use Rattle.std.proofs.lemmas.Int.{to_z-of_z}
use Rattle.ob_row.specs.declared.cell.Cell.{Cell}
use Rattle.ob_mean.specs.Step.{set_cells}
use Rattle.ob_keyed.specs.Asking.{IsSet}
use Rattle.ob_keyed.proofs.Arms.{change_gone}
use Rattle.ob_keyed.proofs.Asked.{change_fits, update_asks}
use Rattle.ob_keyed.proofs.serving.update_row.Goals as goal

pub sought_key-key-requires : goal.sought_key-key-requires
sought_key-key-requires g c = update_asks _ _ c.args.index.now c.requires.stmt.0 c.args.sets.now c.args.cond.now c.requires.stmt.1.2

pub access-requires-clause-op : goal.access-requires-clause-op
access-requires-clause-op g c =
    change_fits _ _ c.args.index.now c.requires.stmt.0 c.args.sets.now c.args.cond.now c.as_slice-2.result.now c.requires.stmt.1.2
    (c.as_slice-2.ensures.value ∙ c.in-Ok.ensures.value ∙ ap (set_cells c.args.sets.now) c.as_slice.ensures.value)
    (subst (λ (xs : List (ℕ × Cell)). All IsSet xs) (sym c.as_slice-2.ensures.value) c.in-Ok.ensures.held)

pub returns-clause-gone : goal.returns-clause-gone
returns-clause-gone g c = λ table.
    let fits = change_fits _ _ c.args.index.now c.requires.stmt.0 c.args.sets.now c.args.cond.now c.as_slice-2.result.now c.requires.stmt.1.2
    (c.as_slice-2.ensures.value ∙ c.in-Ok.ensures.value ∙ ap (set_cells c.args.sets.now) c.as_slice.ensures.value)
    (subst (λ (xs : List (ℕ × Cell)). All IsSet xs) (sym c.as_slice-2.ensures.value) c.in-Ok.ensures.held) in
    change_gone c.args.index.now c.access.new.index c.args.draw c.access.result _ _ _ fits c.access.ensures.gone table c.args.sets.now c.args.cond.now c.sought_key-key.result c.as_slice-2.result.now
    c.sought_key-key.ensures (c.as_slice-2.ensures.value ∙ c.in-Ok.ensures.value ∙ ap (set_cells c.args.sets.now) c.as_slice.ensures.value) (sym (to_z-of_z w64 c.sought_key-key.result (record { sfits = c.sought_key-key.type_inv })), refl)
