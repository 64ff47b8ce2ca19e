use Rattle.std.proofs.Common.{◌≡◌, ◌<◌, ◌+◌, ◌++◌, [], ◌∷◌, ℕ, None, true, false, length, take, slice_index_or, sym, ◌∙◌, ap, subst, arith, length-append, append_assoc, below_more}
use Rattle.std.proofs.lemmas.List.{append-nil, take_all}
use Rattle.ob_vault.specs.Rows.{SameSizes}
use Rattle.ob_vault.proofs.RowsLemmas.{same_at, sizes_trans}
use Rattle.ob_row.specs.Slots.{Slots, is_selected}
use Rattle.ob_row.specs.Spelling.{Begins}
use Rattle.ob_row.specs.Truth.{is_true}
use Rattle.ob_flat.specs.Slots.{AreSlots}
use Rattle.ob_flat.proofs.Rows.{slots_of}
use Rattle.ob_small.specs.Keeping.{chosen, AreKept}
use Rattle.ob_small.proofs.Choosing.{chosen_more}
use Rattle.ob_small.proofs.keeping.keep_rows.Goals as goal
use Rattle.ob_small.proofs.keeping.keep_rows.Goals.{then-selected, else-selected}

pub loop-z-preserved : goal.loop-z-preserved
loop-z-preserved c =
    let z = c.loop-z.z in
    let p = is_true c.args.pred.now in
    let columns = c.args.schema.now in
    let rows = c.args.rows.now in
    let was = c.loop-z.invariant in
    let row = same_at rows z c.index-rows-z.result c.loop-z-test.true c.index-rows-z.is in
    record {
      few = elim c.if-selected.branch [ then-selected w ↦ omega (arith, w.n-is, was.few) | else-selected w ↦ omega (arith, w.n-is, was.few) ];
      read = below_more _ _ was.read (c.in-Ok.ensures.malformed.0, subst (Begins columns c.in-Ok.ensures.malformed.0) (sym row) c.in-Ok.ensures.malformed.1);
      same = elim c.if-selected.branch [
        | then-selected w ↦ subst (SameSizes c.args.kept.now) (sym w.kept-is) (sizes_trans _ _ _ was.same w.keep_row.ensures.size)
        | else-selected w ↦ subst (SameSizes c.args.kept.now) (sym w.kept-is) was.same
      ];
      spells = λ are. elim c.if-selected.branch [
        | then-selected w ↦
            let again = same_at rows z w.index-rows-z-then-selected.result c.loop-z-test.true w.index-rows-z-then-selected.is in
            let slot = c.in-Ok.ensures.malformed in
            subst (AreSlots columns) (sym w.kept-is) (w.keep_row.ensures.keeps.spells (slot.0, subst (Begins columns slot.0) (sym row ∙ again) slot.1) (was.spells are))
        | else-selected w ↦ subst (AreSlots columns) (sym w.kept-is) (was.spells are)
      ];
      told = λ before slots spelt size keeps.
          let inside : z < length slots = omega (arith, spelt.count, c.loop-z-test.true) in
          let slot = slice_index_or slots z None in
          let begins = spelt.each z c.loop-z-test.true in
          let told = was.told before slots spelt size keeps in
          let is : c.in-Ok.selected ≡ is_selected p slot = cc (c.in-Ok.ensures.truth slot (subst (Begins columns slot) row begins)) in
          let so_far = before ++ chosen p (take z slots) in
          elim c.if-selected.branch [
            | then-selected w ↦
                let again = same_at rows z w.index-rows-z-then-selected.result c.loop-z-test.true w.index-rows-z-then-selected.is in
                let next : so_far ++ slot ∷ [] ≡ before ++ chosen p (take (z + 1) slots) =
                append_assoc before (chosen p (take z slots)) (slot ∷ []) ∙ ap (λ (l : Slots). before ++ l) (sym (chosen_more p slots z true inside (sym is ∙ w.if-selected.true))) in
                let kept = w.keep_row.ensures.keeps.told slot so_far (subst (Begins columns slot) again begins) told.0 told.1 in (
                  w.n-is ∙ ap (λ (n : ℕ). n + 1) told.0 ∙ sym (length-append so_far (slot ∷ [])) ∙ ap length next,
                  subst (AreKept columns (before ++ chosen p (take (z + 1) slots)) c.args.from c.args.k) (sym w.kept-is) (subst (λ (l : Slots). AreKept columns l c.args.from c.args.k w.keep_row.new.kept) next kept),
                )
            | else-selected w ↦
                let next : so_far ≡ before ++ chosen p (take (z + 1) slots) =
                ap (λ (l : Slots). before ++ l) (sym (append-nil (chosen p (take z slots))) ∙ sym (chosen_more p slots z false inside (sym is ∙ w.if-selected.false))) in (
                  w.n-is ∙ told.0 ∙ ap length next,
                  subst (AreKept columns (before ++ chosen p (take (z + 1) slots)) c.args.from c.args.k) (sym w.kept-is) (subst (λ (l : Slots). AreKept columns l c.args.from c.args.k c.loop-z.kept) next told.1),
                )
          ];
    }

pub returns-clause-keeps : goal.returns-clause-keeps
returns-clause-keeps c =
    let columns = c.args.schema.now in
    let rows = c.args.rows.now in
    let p = is_true c.args.pred.now in
    let all = c.loop-z.invariant in
    record {
      most = omega (arith, all.few, c.loop-z.auto.z-end);
      read = slots_of columns rows (λ j below. all.read j (omega (arith, below, c.loop-z-test.false)));
      malformed = tt;
      spells = all.spells;
      told = λ before slots spelt size keeps.
          let whole : take c.loop-z.z slots ≡ slots = take_all c.loop-z.z slots (omega (arith, spelt.count, c.loop-z-test.false)) in
          let told = all.told before slots spelt size keeps in (
            told.0 ∙ ap (λ (l : Slots). length (before ++ chosen p l)) whole,
            subst (λ (l : Slots). AreKept columns (before ++ chosen p l) c.args.from c.args.k c.loop-z.kept) whole told.1,
          );
    }

pub returns-in-Err-clause-keeps : goal.returns-in-Err-clause-keeps
returns-in-Err-clause-keeps c =
    let columns = c.args.schema.now in
    let rows = c.args.rows.now in
    let row = same_at rows c.loop-z.z c.index-rows-z.result c.loop-z-test.true c.index-rows-z.is in
    record {
      most = tt;
      read = tt;
      malformed = λ slots spelt. let slot = slice_index_or slots c.loop-z.z None in absurd (cc (c.in-Err.ensures.truth slot (subst (Begins columns slot) row (spelt.each c.loop-z.z c.loop-z-test.true))));
      spells = tt;
      told = λ before slots spelt size keeps. tt;
    }
