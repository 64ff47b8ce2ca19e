-- A path and the stash that are written one after the other.
use Rattle.std.proofs.Common.{◌≡◌, ◌⊎◌, ◌≤◌, ◌<◌, ◌+◌, ◌/◌, ◌^◌, inl, inr, ℕ, true, false, IsTrue, List, ◌++◌, None, Result, Ok, Err, length, map, get_or, sym, ◌∙◌, ap, subst, arith}
use Rattle.std.specs.List.{All}
use Rattle.std.proofs.lemmas.Bool.{cases_Bool, cases_lt}
use Rattle.std.proofs.lemmas.List.{map-append, length-map, get_or_default, get_or_past}
use Rattle.std.proofs.lemmas.Simd.{map-map}
use Rattle.ob_base.specs.declared.access.Access.{Access}
use Rattle.ob_base.specs.declared.access.Access.TheVariants.{Write}
use Rattle.ob_vault.specs.declared.region.Order.{Order}
use Rattle.ob_vault.specs.declared.region.Order.TheVariants.{Round, Any}
use Rattle.ob_vault.specs.State.{World}
use Rattle.ob_vault.specs.Tied.{Holds}
use Rattle.ob_vault.specs.Calls.{Went, Lasts, one, two}
use Rattle.ob_vault.specs.Words.{MayAsk}
use Rattle.ob_vault.proofs.Runs.{went_join, went_wider, tells_went, seals_join, holds_rows, lives_lasts, own_lasts, turn_lasts, written_lasts as place_lasts}
use Rattle.ob_vault.proofs.WordLemmas.{asks_after}
use Rattle.ob_row.specs.Rows.{Row}
use Rattle.ob_row.specs.Slots.{Slots}
use Rattle.ob_row.specs.Spelling.{slot_bytes}
use Rattle.ob_flat.specs.declared.flat.Flat.{Flat}
use Rattle.ob_flat.specs.declared.fault.OpErr.TheVariants as OpErrs
use Rattle.ob_flat.specs.Flats.{IsInTurn, IsWritten, Represents}
use Rattle.ob_flat.specs.Passes.{PassCut}
use Rattle.ob_flat.specs.Slots.{FitsSlot, Spelt}
use Rattle.ob_flat.proofs.Rows.{spelt_fits}
use Rattle.ob_flat.proofs.Runs.{pass_more, pass_after, pass_wider}
use Rattle.ob_flat.proofs.Tables.{represents_lasts, written_lasts}
use Rattle.ob_path.specs.Paths.{is_on_path, path_slot}
use Rattle.ob_tree.specs.Scripts.{numbers, path_places, WriteTree, WriteStash}
use Rattle.ob_tree.specs.Slotwise.{LaysOut}
use Rattle.ob_path.specs.States.{State}
use Rattle.ob_tree.proofs.LayLemmas.{path_place_of, off_path}
use Rattle.ob_oram.specs.declared.fault.OramErr.{OramErr}
use Rattle.ob_oram.specs.declared.index.Index.{Index}
use Rattle.ob_oram.specs.declared.walk.Walk.{Walk}
use Rattle.ob_base.specs.Indexes.{path_blocks}
use Rattle.ob_oram.specs.Indexes.{IsStored, LiesAs, SealsIndex, tree_of, stash_of}
use Rattle.ob_oram.specs.Scripts.{access_in, write_script}
use Rattle.ob_oram.specs.Walks.{blocks_in}
use Rattle.ob_oram.specs.Walking.{WritesWalk, places_in, region_in, walk_writes}
use Rattle.ob_oram.specs.Halves.{WritesIndex, leaf_blocks, stash_blocks}
use Rattle.ob_oram.proofs.SlotBlocks.{slot_held, slots_held}
use Rattle.ob_oram.proofs.WalkScripts.{length-places_in}

-- the accesses of the model's two parts are those of the two walks
pub writes_two : (index : Index) (leaf : ℕ) → write_script index leaf ≡ walk_writes index (leaf_blocks index leaf) ++ walk_writes index (stash_blocks index)
writes_two index leaf =
    map-append (access_in index) (map (λ i. WriteTree i) (path_places index.height leaf)) (map (λ i. WriteStash i) (numbers 0 index.slots))
    ∙ ap (λ l. l ++ map (access_in index) (map (λ i. WriteStash i) (numbers 0 index.slots))) (map-map (access_in index) (λ i. WriteTree i) (path_places index.height leaf))
    ∙ ap (λ l. walk_writes index (leaf_blocks index leaf) ++ l) (map-map (access_in index) (λ i. WriteStash i) (numbers 0 index.slots))

length-walk_writes : (index : Index) (walk : Walk) → length (walk_writes index walk) ≡ blocks_in walk
length-walk_writes index walk = length-map (places_in walk) (λ place. Write (region_in index walk) place) ∙ length-places_in walk

-- there are accesses left for the second
pub asks_second : (index : Index) (leaf : ℕ) (old mid : World) → MayAsk (index.slots + path_blocks index.height) old → Went (walk_writes index (leaf_blocks index leaf)) (one index.tree) old mid → MayAsk index.slots mid
asks_second index leaf old mid asks went = asks_after {m = index.slots} asks went (omega (arith, length-walk_writes index (leaf_blocks index leaf)))

-- a table in turn that wasn't touched
pub in_turn_lasts : (order : Order) (flat : Flat) (some : ℕ → Type 0) (a b : World) → Lasts some a b → (some flat.region → ⊥) → IsInTurn order 1 flat 0 a → IsInTurn order 1 flat 0 b
in_turn_lasts order flat some a b lasts off is = record {
  own = own_lasts some a b lasts flat.region is.own;
  lives = lives_lasts some a b lasts _ _ off is.lives;
  turn = turn_lasts some a b lasts _ _ off is.turn;
  written = λ p below. place_lasts some a b lasts flat.region p off (is.written p below);
}

was_written : (order : Order) (flat : Flat) (place : ℕ) (w : World) → IsInTurn order 1 flat place w → IsWritten 1 flat w
was_written order flat place w is = record { order = order; lives = is.lives; written = is.written }

module _ (index : Index) (leaf : ℕ) (below : leaf < 2 ^ index.height) (rows : List (List ℕ)) (old : World) (stored : IsStored index old) where
  abbrev first : List Access
  first = walk_writes index (leaf_blocks index leaf)

  abbrev second : List Access
  second = walk_writes index (stash_blocks index)

  not_stash : index.stash ≡ index.tree → ⊥
  not_stash same = stored.apart (sym same)

  -- the path's ended early
  pub writes_first : (e : OramErr) (new : World) → WritesWalk {T = Unit {0}} index (leaf_blocks index leaf) rows (Err e) old new → WritesIndex {T = Unit {0}} index leaf rows (Err e) old new
  writes_first e new walk = record {
    ok = tt;
    err = (
      walk.err.0,
      subst (λ l. PassCut OpErrs.Failed l (two index.tree index.stash) old new) (sym (writes_two index leaf))
          (pass_more (two index.tree index.stash) old new OpErrs.Failed first second
          (pass_wider (one index.tree) old new (two index.tree index.stash) (λ q s. inl s) OpErrs.Failed first walk.err.1)),
    );
    seals = record { seals = λ good fine other. walk.seals.seals good fine };
    tree = walk.written;
    stash = written_lasts 1 (stash_of index) (one index.tree) old new walk.err.1.lasts not_stash (was_written Round (stash_of index) 0 old stored.stash);
    tree_turn = tt;
    stash_turn = tt;
    told = tt;
  }

  module _ (mid : World) (before : WritesWalk {T = Unit {0}} index (leaf_blocks index leaf) rows (Ok tt) old mid) where
    wide : Went (walk_writes index (leaf_blocks index leaf)) (two index.tree index.stash) old mid
    wide = went_wider (one index.tree) old mid (two index.tree index.stash) (λ q s. inl s) first before.ok

    stash_mid : IsInTurn Round 1 (stash_of index) 0 mid
    stash_mid = in_turn_lasts Round (stash_of index) (one index.tree) old mid before.ok.lasts not_stash stored.stash

    both_sealed : (r : Result (Unit {0}) OramErr) (new : World) → WritesWalk index (stash_blocks index) rows r mid new → SealsIndex index old new
    both_sealed r new walk = record { seals = λ good fine other. seals_join good old mid new before.ok.lasts.later (before.seals.seals good fine) (walk.seals.seals good other) }

    -- the slots of the tree after the writes of the path
    module _ (tells : IsTrue old.store.tells) (slots : Slots) (spelt : Spelt index.schema slots rows) (s t : State Row) (lies : LiesAs index s old) (lays : LaysOut index.height leaf slots s t) where
      slots_fit : All (FitsSlot index.schema) slots
      slots_fit = spelt_fits index.schema slots rows spelt

      fit_slot : (j : ℕ) → FitsSlot index.schema (get_or slots j None)
      fit_slot j = by_place (cases_lt j (length slots))
        where
          by_place : (j < length slots) ⊎ (length slots ≤ j) → FitsSlot index.schema (get_or slots j None)
          by_place (inl inside) = slots_fit j None inside
          by_place (inr past) = subst (FitsSlot index.schema) (sym (get_or_past slots j None past)) tt

      tree_size : length t.tree ≡ (tree_of index).capacity
      tree_size = lays.size ∙ lies.tree.size

      tree_fits : (p : ℕ) → p < length t.tree → (is_on_path index.height leaf (p / 4) ≡ true) ⊎ (is_on_path index.height leaf (p / 4) ≡ false) → FitsSlot index.schema (get_or t.tree p None)
      tree_fits p inside (inl on) =
          let c = path_place_of index.height leaf below p on in
          subst (FitsSlot index.schema) (sym (lays.path c.0 c.1) ∙ ap (λ k. get_or t.tree k None) c.2) (fit_slot (path_slot index.height c.0))
      tree_fits p inside (inr off) = subst (FitsSlot index.schema) (sym (lays.off p off)) (lies.tree.fits p None (omega (arith, inside, lays.size)))

      tree_holds : (p : ℕ) → p < (tree_of index).capacity → (is_on_path index.height leaf (p / 4) ≡ true) ⊎ (is_on_path index.height leaf (p / 4) ≡ false) → Holds index.tree p (slot_bytes index.schema (get_or t.tree p None)) mid
      tree_holds p inside (inl on) =
          let c = path_place_of index.height leaf below p on in
          let here : slot_bytes index.schema (get_or slots (path_slot index.height c.0) None) ≡ slot_bytes index.schema (get_or t.tree p None) = ap (slot_bytes index.schema) (sym (lays.path c.0 c.1) ∙ ap (λ k. get_or t.tree k None) c.2) in
          holds_rows _ _ _ _ _ here (subst (λ x. Holds index.tree x (slot_bytes index.schema (get_or slots (path_slot index.height c.0) None)) mid) c.2 (before.told tells slots spelt c.0 c.1))
      tree_holds p inside (inr off) =
          holds_rows _ _ _ _ _ (ap (slot_bytes index.schema) (sym (lays.off p off)))
          (before.others p _ (λ c within same. off_path index.height leaf below p off c within same) (slot_held (tree_of index) s.tree old lies.tree p inside))

      pub tree_written : Represents 1 (tree_of index) t.tree mid
      tree_written = slots_held (tree_of index) t.tree mid tree_size
          (λ p d inside. subst (FitsSlot index.schema) (get_or_default t.tree p None d inside) (tree_fits p inside (cases_Bool (is_on_path index.height leaf (p / 4)))))
          (λ p inside. tree_holds p inside (cases_Bool (is_on_path index.height leaf (p / 4))))

      module _ (new : World) (walk : WritesWalk {T = Unit {0}} index (stash_blocks index) rows (Ok tt) mid new) where
        pub stash_written : Represents 1 (stash_of index) t.stash new
        stash_written = slots_held (stash_of index) t.stash new (lays.stash_size ∙ lies.stash.size)
            (λ i d inside. subst (FitsSlot index.schema) (sym (lays.stash i (omega (arith, inside, lays.stash_size))) ∙ get_or_default t.stash i None d inside) (fit_slot (path_blocks index.height + i)))
            (λ i inside. holds_rows _ _ _ _ _ (ap (slot_bytes index.schema) (sym (lays.stash i (omega (arith, inside, lies.stash.size)))))
            (walk.told (tells_went (one index.tree) first old mid before.ok tells) slots spelt i inside))

        pub tree_stays : Represents 1 (tree_of index) t.tree new
        tree_stays = represents_lasts 1 (tree_of index) (one index.stash) mid new walk.ok.lasts stored.apart t.tree tree_written

    -- the path and the stash were written, or the stash's ended early
    pub writes_second : (r : Result (Unit {0}) OramErr) (new : World) → WritesWalk index (stash_blocks index) rows r mid new → WritesIndex index leaf rows r old new
    writes_second (Ok v) new walk = record {
      ok = subst (λ l. Went l (two index.tree index.stash) old new) (sym (writes_two index leaf))
          (went_join (two index.tree index.stash) old mid new first second wide (went_wider (one index.stash) mid new (two index.tree index.stash) (λ q s. inr s) second walk.ok));
      err = tt;
      seals = both_sealed (Ok v) new walk;
      tree = written_lasts 1 (tree_of index) (one index.stash) mid new walk.ok.lasts stored.apart before.written;
      stash = walk.written;
      tree_turn = in_turn_lasts Any (tree_of index) (one index.stash) mid new walk.ok.lasts stored.apart before.turn;
      stash_turn = walk.turn;
      told = λ tells slots spelt s t lies lays. (tree_stays tells slots spelt s t lies lays new walk, stash_written tells slots spelt s t lies lays new walk);
    }
    writes_second (Err e) new walk = record {
      ok = tt;
      err = (
        walk.err.0,
        subst (λ l. PassCut OpErrs.Failed l (two index.tree index.stash) old new) (sym (writes_two index leaf))
            (pass_after (two index.tree index.stash) old mid new OpErrs.Failed first second wide
            (pass_wider (one index.stash) mid new (two index.tree index.stash) (λ q s. inr s) OpErrs.Failed second walk.err.1)),
      );
      seals = both_sealed (Err e) new walk;
      tree = written_lasts 1 (tree_of index) (one index.stash) mid new walk.err.1.lasts stored.apart before.written;
      stash = walk.written;
      tree_turn = tt;
      stash_turn = tt;
      told = tt;
    }
