use Rattle.std.proofs.Common.{◌≡◌, ℤ, sym, ◌∙◌, ap, arith, Some, w64, to_z, of_z}
use Rattle.std.proofs.lemmas.Int.{to_z-of_z}
use Rattle.std.proofs.lemmas.Option.{get_or_from_slice_get}
use Rattle.ob_row.specs.declared.cell.Cell.TheVariants.{Int}
use Rattle.ob_oram.proofs.Keys.{fits_length}
use Rattle.ob_keyed.proofs.Fitting.{int_at}
use Rattle.ob_keyed.proofs.asking.key_of.Goals as goal

pub bounds-cells-from : goal.bounds-cells-from
bounds-cells-from c =
    let size = fits_length c.args.schema.now c.args.cells.now c.requires.fits in
    let within = c.requires.key.within in
    omega (arith, size, within, c.from.ensures)

pub unreachable-requires : goal.unreachable-requires
unreachable-requires c =
    let there = int_at c.args.schema.now c.args.cells.now c.args.place c.requires.fits c.requires.key.within c.requires.key.int in
    let is = get_or_from_slice_get c.args.cells.now c.args.place (Int there.number) c.index-cells-from.result there.is in
    absurd (cc (is, c.from.ensures, c.index-cells-from.is, c.in-Text.is))

pub returns : goal.returns
returns c =
    let there = int_at c.args.schema.now c.args.cells.now c.args.place c.requires.fits c.requires.key.within c.requires.key.int in
    let is = get_or_from_slice_get c.args.cells.now c.args.place (Int there.number) c.index-cells-from.result there.is in
    let same : there.number ≡ c.in-Int.key = cc (is, c.from.ensures, c.index-cells-from.is, c.in-Int.is) in
    there.is ∙ ap (λ (z : ℤ). Some (Int z)) (sym (to_z-of_z w64 there.number there.fits) ∙ ap (λ (z : ℤ). to_z w64 (of_z w64 z)) same)
