use Rattle.std.proofs.Common.{◌≡◌, ◌≤◌, ◌<◌, ◌+◌, ◌*◌, ◌%◌, min, ℕ, Bool, None, inl, inr, length, take, slice_index_or, sym, ◌∙◌, ap, subst, arith}
use Rattle.std.proofs.lemmas.Result.{err_from_is_err_and}
use Rattle.std.proofs.Math.Nat.{mod-lt}
use Rattle.ob_base.specs.Lists.{each}
use Rattle.ob_base.specs.Schemas.{Columns, width}
use Rattle.ob_script.specs.Parts.{slots_in}
use Rattle.ob_vault.specs.Calls.{Went, one}
use Rattle.ob_vault.specs.Places.{at, RowsFit}
use Rattle.ob_vault.proofs.RowsLemmas.{same_at}
use Rattle.ob_vault.proofs.Runs.{went_none, went_each, tells_went, fit_same, fit_trans, seals_none}
use Rattle.ob_vault.proofs.WordLemmas.{asks_after, honest_before, honest_after}
use Rattle.ob_row.specs.Slots.{Slots, is_selected}
use Rattle.ob_row.specs.Spelling.{Begins}
use Rattle.ob_row.specs.Truth.{is_true}
use Rattle.ob_blocks.specs.Blocks.{scanned}
use Rattle.ob_blocks.proofs.Blocks.{scanned-more}
use Rattle.ob_flat.specs.Flats.{IsInTurn, HoldsSlots}
use Rattle.ob_flat.proofs.Rooms.{same_rows}
use Rattle.ob_flat.proofs.Runs.{pass_each}
use Rattle.ob_flat.proofs.Tables.{index_fits}
use Rattle.ob_flat.proofs.WordLemmas.{seals_any, seals_after, tampered_in}
use Rattle.ob_cont.specs.Putting.{order_for, put_if, put_at, put_part, SpellsSlot, place_of}
use Rattle.ob_cont.specs.Selecting.{IsDue}
use Rattle.ob_cont.proofs.Counting.{slot_inside, done_before, done_after, slot_past, all_slots, puts}
use Rattle.ob_cont.proofs.Puts.{place_within}
use Rattle.ob_cont.proofs.filling.put_block.Goals as goal
use Rattle.ob_cont.proofs.filling.put_block.Goals.{then-i-flat+in_ok-put_row-in-Ok, else-i-flat}

pub holds-requires : goal.holds-requires
holds-requires g c =
    let row = same_at c.args.rows.now c.loop-z.z c.index-rows-z.result c.loop-z-test.true c.index-rows-z.is in
    omega (arith, c.requires.block.wide.wide c.loop-z.z c.loop-z-test.true, ap length row)

pub overflow_add-i : goal.overflow_add-i
overflow_add-i g c =
    let block = c.requires.block in
    omega (arith, block.count, c.loop-z-test.true, index_fits (length c.args.held.now) c.args.flat.now.capacity c.args.u c.requires.due.some c.requires.due.most block.size.most block.within)

pub unreachable-requires : goal.unreachable-requires
unreachable-requires g c =
    let is = c.requires.block.spells in
    let z = c.loop-z.z in
    let slot = slice_index_or is.slots z None in
    let row = same_at c.args.rows.now z c.index-rows-z.result c.loop-z-test.true c.index-rows-z.is in
    absurd (cc (c.in-Err.ensures.truth slot (subst (Begins c.args.flat.now.schema slot) row (is.spelt.each z c.loop-z-test.true))))

pub put_row-requires : goal.put_row-requires
put_row-requires g c =
    let pack = length c.args.held.now in
    let to = c.args.to.now in
    let columns = c.args.flat.now.schema in
    let u = c.args.u in
    let z = c.loop-z.z in
    let all = slots_in pack c.args.flat.now.capacity u in
    let due = c.requires.due in
    let block = c.requires.block in
    let rows = c.args.rows.now in
    let same = c.loop-z.invariant.same in
    let below : z < pack = omega (arith, block.count, c.loop-z-test.true) in
    let inside = slot_inside pack c.args.flat.now.capacity u z below c.if-i-flat.true in
    let before = done_before all z inside in
    let now = at g.R.Revisions.state c.loop-z.vault (g.S.BlockStore.state c.loop-z.store) in
    let asks = asks_after {m = 2} c.requires.asks c.loop-z.invariant.went (omega (arith, puts to.region pack to.capacity u (min z all), inside, before)) in
    let row = same_at rows z c.index-rows-z-then-i-flat.result c.loop-z-test.true c.index-rows-z-then-i-flat.is in
    let slot = slice_index_or block.spells.slots z None in
    let spells : SpellsSlot columns c.index-rows-z-then-i-flat.result = record {
      wide = omega (arith, block.wide.wide z c.loop-z-test.true, ap length row);
      slot = slot;
      begins = subst (Begins columns slot) row (block.spells.spelt.each z c.loop-z-test.true);
    } in
    let here : IsDue pack to (u * pack + z) now = record {
      some = due.some;
      most = due.most;
      size = due.size;
      turn = subst (λ (n : ℕ). IsInTurn (order_for pack) pack to (place_of pack to.capacity (u * pack + n)) now) before c.loop-z.invariant.turn;
    } in
    let fit = fit_same _ _ _ same c.requires.fit in
    record {
      spare = record { ready = asks.ready; spare = asks.spare };
      few = omega (arith, asks.few);
      due = subst (λ (n : ℕ). IsDue n to (u * pack + z) now) (sym same.count) here;
      fit = subst (λ (n : ℕ). RowsFit c.loop-z.held (n * width to.schema)) (sym same.count) fit;
      row = subst (λ (s : Columns). SpellsSlot s c.index-rows-z-then-i-flat.result) (sym c.requires.schema) spells;
    }

-- no slot was put yet
started : (n : ℕ) → min 0 n ≡ 0
started n = omega arith

pub loop-z-init : goal.loop-z-init
loop-z-init g c =
    let pack = length c.args.held.now in
    let to = c.args.to.now in
    let u = c.args.u in
    let old = at g.R.Revisions.state c.args.vault.now (g.S.BlockStore.state c.args.store.now) in
    let none = sym (started (slots_in pack c.args.flat.now.capacity u)) in
    let first : u * pack ≡ u * pack + min 0 (slots_in pack c.args.flat.now.capacity u) = omega (arith, none) in
    record {
      went = subst (λ (n : ℕ). Went (each n (put_part to.region pack to.capacity u)) (one to.region) old old) none (went_none _ _ c.requires.asks.ready);
      seals = seals_any (λ good. seals_none good _);
      same = same_rows c.args.held.now;
      turn = subst (λ (i : ℕ). IsInTurn (order_for pack) pack to (place_of pack to.capacity i) old) first c.requires.due.turn;
      rows = λ tells rows. rows;
      told = λ honest slots made spelt holds. subst (λ (n : ℕ). HoldsSlots pack to (scanned (put_at to.capacity (is_true c.args.pred.now)) (u * pack) made (take n slots)) old) none holds;
    }

pub returns-in_err-put_row-in-Ok-clause-held : goal.returns-in_err-put_row-in-Ok-clause-held
returns-in_err-put_row-in-Ok-clause-held g c = fit_trans _ _ _ c.loop-z.invariant.same c.put_row.ensures.held

pub returns-in_err-put_row-in-Ok-clause-puts : goal.returns-in_err-put_row-in-Ok-clause-puts
returns-in_err-put_row-in-Ok-clause-puts g c =
    let p = err_from_is_err_and c.from_residual.result c.from_residual.ensures.1 in
    let pack = length c.args.held.now in
    let flat = c.args.flat.now in
    let to = c.args.to.now in
    let u = c.args.u in
    let z = c.loop-z.z in
    let rows = c.args.rows.now in
    let all = slots_in pack flat.capacity u in
    let before = c.loop-z.invariant in
    let puts = rw before.same.count at c.in_err-put_row-in-Ok.ensures.puts in
    let cut = puts.ran.err in
    let below : z < pack = omega (arith, c.requires.block.count, c.loop-z-test.true) in
    let inside = slot_inside pack flat.capacity u z below c.if-i-flat.true in
    let within = place_within pack to.capacity ((u * pack + z) % to.capacity) c.requires.due.some (mod-lt (u * pack + z) c.requires.due.size.least) in
    let went = rw (done_before all z inside) at before.went in
    rw (p.1, p.2) (record {
      ran = record { ok = tt; err = pass_each (one to.region) (put_part to.region pack to.capacity u) _ _ _ _ all z inside went cut };
      never = elim puts.never [ inl failed ↦ inl failed | inr there ↦ inr (tampered_in within there) ];
      seals = seals_after before.went.lasts before.seals puts.seals;
      turn = tt;
      rows = tt;
      told = λ honest slots made spelt holds.
          let slot = slice_index_or slots z None in
          let row = same_at rows z c.index-rows-z-then-i-flat.result c.loop-z-test.true c.index-rows-z-then-i-flat.is in
          let begins = subst (λ (s : Columns). Begins s slot c.index-rows-z-then-i-flat.result) (sym c.requires.schema) (subst (Begins flat.schema slot) row (spelt.each z c.loop-z-test.true)) in
          puts.told (honest_after before.went honest) slot _ begins (before.told (honest_before cut.lasts honest) slots made spelt holds);
    })

pub loop-z-preserved : goal.loop-z-preserved
loop-z-preserved g c =
    let pack = length c.args.held.now in
    let flat = c.args.flat.now in
    let to = c.args.to.now in
    let u = c.args.u in
    let z = c.loop-z.z in
    let rows = c.args.rows.now in
    let p = is_true c.args.pred.now in
    let before = c.loop-z.invariant in
    let all = slots_in pack flat.capacity u in
    let part = put_part to.region pack to.capacity u in
    let first = same_at rows z c.index-rows-z.result c.loop-z-test.true c.index-rows-z.is in
    let old = at g.R.Revisions.state c.args.vault.now (g.S.BlockStore.state c.args.store.now) in
    elim c.if-i-flat.branch [
      | then-i-flat+in_ok-put_row-in-Ok w ↦
          let below : z < pack = omega (arith, c.requires.block.count, c.loop-z-test.true) in
          let inside = slot_inside pack flat.capacity u z below w.if-i-flat.true in
          let b = done_before all z inside in
          let n = done_after all z inside in
          let puts = rw before.same.count at w.in_ok-put_row-in-Ok.ensures.puts in
          let now = at g.R.Revisions.state w.put_row.new.vault (g.S.BlockStore.state w.put_row.new.store) in
          rw (w.store-is, w.vault-is, w.held-is) (record {
            went = subst (λ (m : ℕ). Went (each m part) (one to.region) old now) (sym n) (went_each (one to.region) part _ _ _ z (rw b at before.went) puts.ran.ok);
            seals = seals_after before.went.lasts before.seals puts.seals;
            same = fit_trans _ _ _ before.same w.put_row.ensures.held;
            turn = subst (λ (m : ℕ). IsInTurn (order_for pack) pack to (place_of pack to.capacity m) now) (omega (arith, n)) puts.turn;
            rows = λ tells is. puts.rows (tells_went _ _ _ _ before.went tells) (before.rows tells is);
            told = λ honest slots made spelt holds.
                let slot = slice_index_or slots z None in
                let row = same_at rows z w.index-rows-z-then-i-flat.result c.loop-z-test.true w.index-rows-z-then-i-flat.is in
                let here = spelt.each z c.loop-z-test.true in
                let begins = subst (λ (s : Columns). Begins s slot w.index-rows-z-then-i-flat.result) (sym c.requires.schema) (subst (Begins flat.schema slot) row here) in
                let selected : c.in-Ok.selected ≡ is_selected p slot = cc (c.in-Ok.ensures.truth slot (subst (Begins flat.schema slot) first here)) in
                let f = put_at to.capacity p in
                let so_far = scanned f (u * pack) made (take (min z all) slots) in
                let was = before.told (honest_before puts.ran.ok.lasts honest) slots made spelt holds in
                let next : put_if c.in-Ok.selected ((u * pack + z) % to.capacity) slot so_far ≡ scanned f (u * pack) made (take (min (z + 1) all) slots) =
                ap (λ (b : Bool). put_if b ((u * pack + z) % to.capacity) slot so_far) selected
                ∙ ap (λ (m : ℕ). f (scanned f (u * pack) made (take m slots)) (u * pack + z) slot) b
                ∙ sym (scanned-more f (u * pack) z made slots None (omega (arith, spelt.count, c.loop-z-test.true)))
                ∙ ap (λ (m : ℕ). scanned f (u * pack) made (take m slots)) (sym n) in
                subst (λ (l : Slots). HoldsSlots pack to l now) next (puts.told (honest_after before.went honest) slot so_far begins was);
          })
      | else-i-flat w ↦
          let same = sym (slot_past pack flat.capacity u z w.if-i-flat.false) in
          let now = at g.R.Revisions.state c.loop-z.vault (g.S.BlockStore.state c.loop-z.store) in
          rw (w.store-is, w.vault-is, w.held-is) (record {
            went = subst (λ (m : ℕ). Went (each m part) (one to.region) old now) same before.went;
            seals = before.seals;
            same = before.same;
            turn = subst (λ (m : ℕ). IsInTurn (order_for pack) pack to (place_of pack to.capacity (u * pack + m)) now) same before.turn;
            rows = before.rows;
            told = λ honest slots made spelt holds. subst (λ (m : ℕ). HoldsSlots pack to (scanned (put_at to.capacity p) (u * pack) made (take m slots)) now) same (before.told honest slots made spelt holds);
          })
    ]

whole : (rows pack z : ℕ) → rows ≡ pack → rows ≤ z → pack ≤ z
whole rows pack z same past = omega (arith, same, past)

pub returns-clause-held : goal.returns-clause-held
returns-clause-held g c = c.loop-z.invariant.same

pub returns-clause-puts : goal.returns-clause-puts
returns-clause-puts g c =
    let pack = length c.args.held.now in
    let to = c.args.to.now in
    let u = c.args.u in
    let now = at g.R.Revisions.state c.loop-z.vault (g.S.BlockStore.state c.loop-z.store) in
    let before = c.loop-z.invariant in
    let all = all_slots pack c.args.flat.now.capacity u c.loop-z.z (whole (length c.args.rows.now) pack c.loop-z.z c.requires.block.count c.loop-z-test.false) in
    record {
      ran = record { ok = rw all at before.went; err = tt };
      never = tt;
      seals = before.seals;
      turn = subst (λ (n : ℕ). IsInTurn (order_for pack) pack to (place_of pack to.capacity (u * pack + n)) now) all before.turn;
      rows = before.rows;
      told = λ honest slots made spelt holds.
          subst (λ (n : ℕ). HoldsSlots pack to (scanned (put_at to.capacity (is_true c.args.pred.now)) (u * pack) made (take n slots)) now) all (before.told honest slots made spelt holds);
    }
