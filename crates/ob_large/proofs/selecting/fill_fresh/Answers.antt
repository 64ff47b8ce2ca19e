use Rattle.std.proofs.Common.{◌≡◌, ◌+◌, ◌*◌, ℕ, List, [], ◌∷◌, inl, inr, length, refl, ap, subst, arith}
use Rattle.std.proofs.lemmas.Result.{err_from_is_err_and}
use Rattle.ob_script.specs.Parts.{copy_part}
use Rattle.ob_vault.specs.State.{World}
use Rattle.ob_vault.specs.Places.{at}
use Rattle.ob_vault.proofs.Runs.{fit_same, fit_trans, own_lasts}
use Rattle.ob_row.specs.Slots.{Slots}
use Rattle.ob_blocks.specs.Blocks.{map_at}
use Rattle.ob_flat.specs.declared.flat.Flat.{Flat}
use Rattle.ob_flat.specs.Flats.{IsMade, Represents}
use Rattle.ob_vault.specs.Words.{IsHonest}
use Rattle.ob_flat.specs.Words.{IsTable, blocks_of, moved}
use Rattle.ob_flat.proofs.Tables.{copies}
use Rattle.ob_vault.proofs.WordLemmas.{asks_fewer, asks_after}
use Rattle.ob_flat.proofs.WordLemmas.{ran_more}
use Rattle.ob_large.proofs.Selected.{fills_after}
use Rattle.ob_large.proofs.selecting.fill_fresh.Goals as goal

-- a copy has the slots of the table
copied : {A : Type 0} (i : ℕ) (xs : List A) → map_at (λ k x. x) i xs ≡ xs
copied i [] = refl
copied {A = A} i (x ∷ xs) = ap (λ (l : List A). x ∷ l) (copied (i + 1) xs)

copied_slots : (pack : ℕ) (made : Flat) (old mid : World) (is : Slots → Type 0) {k : Slots → Type 0}
    → (IsHonest old mid → (slots : Slots) → is slots → k slots × Represents pack made (map_at (λ i x. x) 0 slots) mid)
    → IsHonest old mid → (slots : Slots) → is slots → Represents pack made slots mid
copied_slots pack made old mid is told honest slots here = subst (λ (l : Slots). Represents pack made l mid) (copied 0 slots) (told honest slots here).1

pub swap_blocks-requires : goal.swap_blocks-requires
swap_blocks-requires g c =
    let old = at g.R.Revisions.state c.args.vault.now (g.S.BlockStore.state c.args.store.now) in
    record {
      asks = asks_fewer {m = 2 * blocks_of (length c.args.rows.now) c.args.flat.now} c.requires.asks (omega arith);
      table = c.requires.table;
      made = subst (λ (f : Flat). IsMade (length c.args.rows.now) f old) c.requires.new.same c.requires.new.made;
      apart = c.requires.new.apart;
      fit = c.requires.fit;
      suits = tt;
      past = λ i behind. refl;
    }

pub returns-in_err-swap_blocks-clause-rows : goal.returns-in_err-swap_blocks-clause-rows
returns-in_err-swap_blocks-clause-rows g c = c.swap_blocks.ensures.rows

pub returns-in_err-swap_blocks-clause-fills : goal.returns-in_err-swap_blocks-clause-fills
returns-in_err-swap_blocks-clause-fills g c =
    let p = err_from_is_err_and c.from_residual.result c.from_residual.ensures.1 in
    let flat = c.args.flat.now in
    let to = c.args.to.now.region in
    let blocks = blocks_of (length c.args.rows.now) flat in
    let swaps = c.in_err-swap_blocks.ensures.swaps in
    rw (p.1, p.2) (record {
      ran = ran_more (copy_part flat.region to blocks) (copy_part to to blocks) swaps.ran.err;
      never = elim swaps.never [ inl failed ↦ inl failed | inr there ↦ inr (inl there) ];
      seals = swaps.seals;
      table = tt;
      holds = tt;
      told = swaps.told;
    })

pub empty_unselected-requires : goal.empty_unselected-requires
empty_unselected-requires g c =
    let rows = c.args.rows.now in
    let flat = c.args.flat.now in
    let to = c.args.to.now in
    let same = c.requires.new.same in
    let sizes = c.swap_blocks.ensures.rows in
    let swaps = c.in_ok-swap_blocks.ensures.swaps in
    let mid = at g.R.Revisions.state c.swap_blocks.new.vault (g.S.BlockStore.state c.swap_blocks.new.store) in
    let asks = asks_after {m = 2 * blocks_of (length rows) flat} c.requires.asks swaps.ran.ok (omega (arith, copies flat.region to.region (blocks_of (length rows) flat))) in
    let table : IsTable (length rows) (moved flat to.region) mid = record { some = c.requires.table.some; most = c.requires.table.most; size = c.requires.table.size; written = swaps.table } in
    let fit = fit_same rows c.swap_blocks.new.rows _ sizes c.requires.fit in
    record {
      asks = rw (sizes.count, same) asks;
      table = rw (sizes.count, same) table;
      own = own_lasts _ _ _ swaps.ran.ok.lasts to.region c.requires.new.made.own;
      fit = rw (sizes.count, same) fit;
    }

pub returns-in_err-empty_unselected-clause-rows : goal.returns-in_err-empty_unselected-clause-rows
returns-in_err-empty_unselected-clause-rows g c = fit_trans _ _ _ c.swap_blocks.ensures.rows c.empty_unselected.ensures.rows

pub returns-in_err-empty_unselected-clause-fills : goal.returns-in_err-empty_unselected-clause-fills
returns-in_err-empty_unselected-clause-fills g c =
    let p = err_from_is_err_and c.from_residual-in_err-empty_unselected.result c.from_residual-in_err-empty_unselected.ensures.1 in
    let swaps = c.in_ok-swap_blocks.ensures.swaps in
    let old = at g.R.Revisions.state c.args.vault.now (g.S.BlockStore.state c.args.store.now) in
    let mid = at g.R.Revisions.state c.swap_blocks.new.vault (g.S.BlockStore.state c.swap_blocks.new.store) in
    let copies = copied_slots (length c.args.rows.now) (moved c.args.flat.now c.args.to.now.region) old mid _ swaps.told in
    let empties = rw (c.swap_blocks.ensures.rows.count, c.requires.new.same) at c.in_err-empty_unselected.ensures.empties in
    rw (p.1, p.2) (fills_after _ _ _ _ _ _ _ _ swaps.ran.ok swaps.seals swaps.holds copies empties)

pub returns-clause-rows : goal.returns-clause-rows
returns-clause-rows g c = fit_trans _ _ _ c.swap_blocks.ensures.rows c.empty_unselected.ensures.rows

pub returns-clause-fills : goal.returns-clause-fills
returns-clause-fills g c =
    let swaps = c.in_ok-swap_blocks.ensures.swaps in
    let old = at g.R.Revisions.state c.args.vault.now (g.S.BlockStore.state c.args.store.now) in
    let mid = at g.R.Revisions.state c.swap_blocks.new.vault (g.S.BlockStore.state c.swap_blocks.new.store) in
    let copies = copied_slots (length c.args.rows.now) (moved c.args.flat.now c.args.to.now.region) old mid _ swaps.told in
    let empties = rw (c.swap_blocks.ensures.rows.count, c.requires.new.same) at c.in_ok-empty_unselected.ensures.empties in
    fills_after _ _ _ _ _ _ _ _ swaps.ran.ok swaps.seals swaps.holds copies empties
