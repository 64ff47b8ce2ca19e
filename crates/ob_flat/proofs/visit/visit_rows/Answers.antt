use Rattle.std.proofs.Common.{◌+◌, ◌<◌, ◌≤◌, ℕ, List, None, length, slice_index_or, refl, sym, ◌∙◌, ap, subst}
use Rattle.std.proofs.lemmas.List.{take_all}
use Rattle.ob_base.specs.Schemas.{width}
use Rattle.ob_blocks.specs.Blocks.{scanned}
use Rattle.ob_flat.proofs.Loops.{below_all, at_end, nearer, same_most, row_w32, row_index, row_index_w32, row_offset, row_next, row_first}
use Rattle.ob_row.specs.Spelling.{Begins}
use Rattle.ob_blocks.proofs.Blocks.{scanned-more}
use Rattle.ob_vault.proofs.RowsLemmas.{same_at}
use Rattle.ob_flat.proofs.visit.visit_rows.Goals as goal

pub loop-z-preserved : goal.loop-z-preserved
loop-z-preserved g c =
    let z = c.loop-z.z in
    record {
      suits = subst (g.V.Visit.Suits c.args.flat.now c.visit.new.self) (row_next c.args.first z) c.in-Ok.ensures.suits;
      told = λ slots spelt.
          let below : z < length slots = below_all c.loop-z-test.true (sym spelt.count) in
          let row = same_at c.args.rows.now z c.index-rows-z.result c.loop-z-test.true c.index-rows-z.is in
          let here = subst (Begins c.args.flat.now.schema (slice_index_or slots z None)) row (spelt.each z c.loop-z-test.true) in
          c.in-Ok.ensures.told (slice_index_or slots z None) here ∙ ap (λ s. g.V.Visit.after c.args.flat.now s (c.args.first + z) (slice_index_or slots z None)) (c.loop-z.invariant.told slots spelt)
          ∙ sym (scanned-more (g.V.Visit.after c.args.flat.now) c.args.first z c.args.visit.now slots None below);
    }

pub loop-z-init : goal.loop-z-init
loop-z-init g c = record {
  suits = subst (g.V.Visit.Suits c.args.flat.now c.args.visit.now) (row_first c.args.first) c.requires.suits;
  told = λ slots spelt. refl;
}

pub overflow_cast-z : goal.overflow_cast-z
overflow_cast-z g c = row_w32 c.args.first c.loop-z-test.true c.requires.index

pub overflow_add-first : goal.overflow_add-first
overflow_add-first g c = row_index_w32 c.args.first c.loop-z-test.true c.requires.index

pub offset_bounds-rows-z : goal.offset_bounds-rows-z
offset_bounds-rows-z g c = row_offset c.args.first c.loop-z-test.true c.requires.index

pub bounds-rows-z : goal.bounds-rows-z
bounds-rows-z g c = c.loop-z-test.true

pub visit-requires-clause-wide : goal.visit-requires-clause-wide
visit-requires-clause-wide g c =
    subst (λ (r : List ℕ). width c.args.flat.now.schema ≤ length r) (same_at c.args.rows.now c.loop-z.z c.index-rows-z.result c.loop-z-test.true c.index-rows-z.is) (c.requires.wide.wide c.loop-z.z c.loop-z-test.true)

pub visit-requires-clause-index : goal.visit-requires-clause-index
visit-requires-clause-index g c = row_index c.args.first c.loop-z-test.true c.requires.index

pub visit-requires-clause-suits : goal.visit-requires-clause-suits
visit-requires-clause-suits g c = c.loop-z.invariant.suits

pub returns-in-Err-clause-told : goal.returns-in-Err-clause-told
returns-in-Err-clause-told g c = λ slots spelt.
    let z = c.loop-z.z in
    let row = same_at c.args.rows.now z c.index-rows-z.result c.loop-z-test.true c.index-rows-z.is in
    c.in-Err.ensures.told (slice_index_or slots z None) (subst (Begins c.args.flat.now.schema (slice_index_or slots z None)) row (spelt.each z c.loop-z-test.true))

pub loop-z-smaller : goal.loop-z-smaller
loop-z-smaller g c = nearer c.loop-z.z (length c.args.rows.now) c.loop-z-test.true

pub returns-clause-suits : goal.returns-clause-suits
returns-clause-suits g c =
    subst (λ (n : ℕ). g.V.Visit.Suits c.args.flat.now c.loop-z.visit (c.args.first + n)) (at_end c.loop-z.auto.z-end c.loop-z-test.false refl) c.loop-z.invariant.suits

pub returns-clause-told : goal.returns-clause-told
returns-clause-told g c = λ slots spelt.
    c.loop-z.invariant.told slots spelt ∙ ap (scanned (g.V.Visit.after c.args.flat.now) c.args.first c.args.visit.now) (take_all c.loop-z.z slots (same_most spelt.count c.loop-z-test.false))
