use Rattle.std.proofs.Common.{◌≡◌, Some, refl, sym, ◌∙◌, subst}
use Rattle.std.specs.List.{All}
use Rattle.ob_row.specs.declared.cell.Cell.TheVariants.{Int}
use Rattle.ob_row.specs.Rows.{Row, cell_at}
use Rattle.ob_row.specs.Spelling.{IsCell}
use Rattle.ob_keyed.proofs.Arms.{put_gone}
use Rattle.ob_keyed.proofs.Asked.{put_fits}
use Rattle.ob_keyed.proofs.Fitting.{key_again}
use Rattle.ob_keyed.proofs.serving.insert_row.Goals as goal

pub key_of-key-requires-clause-fits : goal.key_of-key-requires-clause-fits
key_of-key-requires-clause-fits g c =
    put_fits _ _ c.args.index.now c.requires.stmt.0 c.args.columns.now c.args.values.now c.as_slice.result.now c.requires.stmt.1.2 (c.as_slice.ensures.value ∙ c.in-Ok.ensures.value)
    (subst (λ (r : Row). All IsCell r) (sym c.as_slice.ensures.value) c.in-Ok.ensures.held)

pub key_of-key-requires-clause-key : goal.key_of-key-requires-clause-key
key_of-key-requires-clause-key g c = c.requires.index.stored.shaped.key

pub access-requires-clause-op : goal.access-requires-clause-op
access-requires-clause-op g c =
    let index = c.args.index.now in
    let cells = c.as_slice-2.result.now in
    let key = c.requires.index.stored.shaped.key in
    let fits = put_fits _ _ index c.requires.stmt.0 c.args.columns.now c.args.values.now cells c.requires.stmt.1.2 (c.as_slice-2.ensures.value ∙ c.in-Ok.ensures.value)
    (subst (λ (r : Row). All IsCell r) (sym c.as_slice-2.ensures.value) c.in-Ok.ensures.held) in (
      fits,
      key_again index.schema cells index.key c.key_of-key.result fits key.within key.int
          (subst (λ (r : Row). cell_at r index.key ≡ Some (Int c.key_of-key.result)) (c.as_slice.ensures.value ∙ sym c.as_slice-2.ensures.value) c.key_of-key.ensures),
    )

pub returns-clause-gone : goal.returns-clause-gone
returns-clause-gone g c = λ table.
    let index = c.args.index.now in
    let cells = c.as_slice-2.result.now in
    let key = c.requires.index.stored.shaped.key in
    let fits = put_fits _ _ index c.requires.stmt.0 c.args.columns.now c.args.values.now cells c.requires.stmt.1.2 (c.as_slice-2.ensures.value ∙ c.in-Ok.ensures.value)
    (subst (λ (r : Row). All IsCell r) (sym c.as_slice-2.ensures.value) c.in-Ok.ensures.held) in
    let own = key_again index.schema cells index.key c.key_of-key.result fits key.within key.int
    (subst (λ (r : Row). cell_at r index.key ≡ Some (Int c.key_of-key.result)) (c.as_slice.ensures.value ∙ sym c.as_slice-2.ensures.value) c.key_of-key.ensures) in
    put_gone index c.access.new.index c.args.draw c.access.result _ _ _ (fits, own) c.access.ensures.gone table c.args.columns.now c.args.values.now cells
    (c.as_slice-2.ensures.value ∙ c.in-Ok.ensures.value) refl
