-- A walk that is read block by block into a buffer.
use Rattle.std.proofs.Common.{◌≡◌, ◌≢◌, ◌⊎◌, ◌≤◌, ◌<◌, ◌+◌, ◌*◌, inl, inr, ℕ, zero, suc, true, false, List, [], Option, Some, None, Ok, Err, cond, length, take, get_or, set, refl, sym, ◌∙◌, ap, subst, arith, get_or-set_same, get_or-set_other}
use Rattle.std.specs.Prelude.{nat_lt}
use Rattle.std.specs.Option.{option_map}
use Rattle.std.proofs.lemmas.Bool.{cases_eq, cases_lt, cases_Bool, ltb-true}
use Rattle.std.proofs.lemmas.List.{length-set}
use Rattle.ob_base.specs.Accesses.{read_at}
use Rattle.ob_base.specs.Lists.{each}
use Rattle.ob_base.specs.Schemas.{width}
use Rattle.ob_vault.specs.State.{World}
use Rattle.ob_vault.specs.Rows.{row_at}
use Rattle.ob_vault.specs.Calls.{Went, none}
use Rattle.ob_vault.specs.Words.{SealsAll}
use Rattle.ob_vault.specs.Tied.{Holds}
use Rattle.ob_vault.proofs.Runs.{went_each, none_went, holds_rows}
use Rattle.ob_row.specs.Rows.{Row}
use Rattle.ob_row.specs.Slots.{Slots}
use Rattle.ob_row.specs.Spelling.{Begins, slot_bytes}
use Rattle.ob_row.proofs.SpellingLemmas.{slots-same}
use Rattle.ob_flat.specs.Flats.{Represents}
use Rattle.ob_flat.specs.Slots.{FitsSlot}
use Rattle.ob_flat.specs.declared.fault.OpErr.TheVariants as OpErrs
use Rattle.ob_flat.specs.Passes.{PassCut}
use Rattle.ob_flat.specs.Words.{HasSpare}
use Rattle.ob_store.proofs.Steps.{length-each}
use Rattle.ob_flat.proofs.Runs.{pass_each}
use Rattle.ob_flat.proofs.Tables.{represents_lasts}
use Rattle.ob_flat.proofs.WordLemmas.{sealed_after, tampered_in}
use Rattle.ob_oram.specs.declared.fault.OramErr.{OramErr}
use Rattle.ob_oram.specs.declared.fault.OramErr.TheVariants.{Failed, Tampered, StashFull}
use Rattle.ob_oram.specs.declared.held.Held.{Held}
use Rattle.ob_oram.specs.declared.held.Remap.{Remap}
use Rattle.ob_oram.specs.declared.index.Index.{Index}
use Rattle.ob_oram.specs.declared.walk.Walk.{Walk}
use Rattle.ob_oram.specs.declared.walk.Walk.TheVariants.{Stash, Path}
use Rattle.ob_oram.specs.Buffers.{held_of}
use Rattle.ob_oram.specs.Indexes.{key_of}
use Rattle.ob_oram.specs.Opens.{IsOpen, OpensRow, keyed_slot, leaf_with}
use Rattle.ob_oram.specs.Walks.{blocks_in, place_in, slot_in}
use Rattle.ob_oram.specs.Walking.{IsWalkOf, OpensBlock, OpensFirst, OpensWalk, ReadsRow, ReadsWalk, RefusesRow, RefusesWalk, region_in, table_in}
use Rattle.ob_oram.proofs.Creates.{one_each}
use Rattle.ob_oram.proofs.WalkRows.{place_below}
use Rattle.ob_oram.proofs.WalkScripts.{reads_each}
use Rattle.ob_oram.proofs.SlotBlocks.{slot_held}

pub schema_is : (index : Index) (walk : Walk) → (table_in index walk).schema ≡ index.schema
schema_is index (Stash slots height) = refl
schema_is index (Path height leaf) = refl

-- a block of a walk holds its slot
pub table_holds : (index : Index) (walk : Walk) (table : Slots) (w : World) → Represents 1 (table_in index walk) table w → (p : ℕ) → p < (table_in index walk).capacity
    → Holds (region_in index walk) p (slot_bytes index.schema (get_or table p None)) w
table_holds index walk table w is p below = holds_rows _ _ _ _ _ (ap (λ s. slot_bytes s (get_or table p None)) (schema_is index walk)) (slot_held (table_in index walk) table w is p below)

-- a row that lies open has a key of the index
pub keyed_in : (index : Index) (slot : Option Row) (row : Row) → keyed_slot index slot ≡ Some row → key_of index row < index.capacity
keyed_in index None row is = absurd (cc)
keyed_in index (Some other) row is = by_test (cases_Bool (nat_lt (key_of index other) index.capacity))
  where
    by_test : ((nat_lt (key_of index other) index.capacity ≡ true) ⊎ (nat_lt (key_of index other) index.capacity ≡ false)) → key_of index row < index.capacity
    by_test (inl inside) =
        let same : Some other ≡ Some row = subst (λ b. cond b (Some other) None ≡ Some row) inside is in
        let one : other ≡ row = cc in
        subst (λ r. key_of index r < index.capacity) one (ltb-true (key_of index other) index.capacity inside)
    by_test (inr past) = let never : None ≡ Some row = subst (λ b. cond b (Some other) None ≡ Some row) past is in absurd (cc)

-- one slot of a buffer is written
module _ (index : Index) (remap : Remap) (slots : Slots) (buffer : List (Option Held)) (list : List (List ℕ)) (is : IsOpen index remap slots buffer list)
    (i : ℕ) (slot : Option Row) (held : Option Held) (bytes : List ℕ) (inside : i < length buffer) (opens : OpensRow index remap slot held bytes) (keyed : (row : Row) → slot ≡ Some row → key_of index row < index.capacity) where
  in_slots : i < length slots
  in_slots = omega (arith, inside, is.sees.count)

  in_list : i < length list
  in_list = omega (arith, inside, is.sees.same)

  set_begins : (j : ℕ) → j < length (set buffer i held) → (j ≡ i) ⊎ (j ≢ i) → Begins index.schema (get_or (set slots i slot) j None) (row_at (set list i bytes) j)
  set_begins j below (inl here) =
      subst (λ k. Begins index.schema (get_or (set slots i slot) k None) (row_at (set list i bytes) k)) (sym here)
      (subst (λ s. Begins index.schema s (row_at (set list i bytes) i)) (sym (get_or-set_same slots i slot None in_slots))
      (subst (Begins index.schema slot) (sym (get_or-set_same list i bytes [] in_list)) opens.begins))
  set_begins j below (inr other) =
      subst (λ s. Begins index.schema s (row_at (set list i bytes) j)) (sym (get_or-set_other slots i j slot None other))
      (subst (Begins index.schema (get_or slots j None)) (sym (get_or-set_other list i j bytes [] other)) (is.sees.begins j (omega (arith, below, length-set buffer i held))))

  set_held : (j : ℕ) → (j ≡ i) ⊎ (j ≢ i) → get_or (set buffer i held) j None ≡ option_map (held_of (key_of index) (leaf_with index remap)) (get_or (set slots i slot) j None)
  set_held j (inl here) =
      ap (λ k. get_or (set buffer i held) k None) here
      ∙ get_or-set_same buffer i held None inside
      ∙ opens.held_is
      ∙ ap (option_map (held_of (key_of index) (leaf_with index remap))) (sym (get_or-set_same slots i slot None in_slots) ∙ ap (λ k. get_or (set slots i slot) k None) (sym here))
  set_held j (inr other) =
      get_or-set_other buffer i j held None other
      ∙ is.sees.held j
      ∙ ap (option_map (held_of (key_of index) (leaf_with index remap))) (sym (get_or-set_other slots i j slot None other))

  set_keyed : (j : ℕ) (row : Row) → get_or (set slots i slot) j None ≡ Some row → (j ≡ i) ⊎ (j ≢ i) → key_of index row < index.capacity
  set_keyed j row at (inl here) = keyed row (sym (get_or-set_same slots i slot None in_slots) ∙ ap (λ k. get_or (set slots i slot) k None) (sym here) ∙ at)
  set_keyed j row at (inr other) = is.keyed.within j row (sym (get_or-set_other slots i j slot None other) ∙ at)

  pub open_set : IsOpen index remap (set slots i slot) (set buffer i held) (set list i bytes)
  open_set = record {
    sees = record {
      count = length-set slots i slot ∙ is.sees.count ∙ sym (length-set buffer i held);
      same = length-set list i bytes ∙ is.sees.same ∙ sym (length-set buffer i held);
      begins = λ j below. set_begins j below (cases_eq j i);
      held = λ j. set_held j (cases_eq j i);
    };
    keyed = record { within = λ j row at. set_keyed j row at (cases_eq j i) };
  }

-- bytes spell one slot
pub one_slot : (index : Index) (remap : Remap) (a b : Option Row) (held other : Option Held) (bytes : List ℕ) → OpensRow index remap a held bytes → OpensRow index remap b other bytes → a ≡ b
one_slot index remap a b held other bytes first second = slots-same index.schema a b (take (width index.schema) bytes) first.begins second.begins

-- the slots of a walk are apart
pub slot_apart : (walk : Walk) (c d : ℕ) → c < d → d < blocks_in walk → slot_in walk d ≢ slot_in walk c
slot_apart (Stash slots height) c d less within = λ same. absurd (omega (arith, less, same))
slot_apart (Path height leaf) c d less within = λ same. absurd (omega (arith, less, same, within))

pub slot_below : (index : Index) (walk : Walk) (c : ℕ) → IsWalkOf index walk → c < blocks_in walk → slot_in walk c < index.slots + 4 * (index.height + 1)
slot_below index (Stash slots height) c is within = omega (arith, within, is.0, is.1)
slot_below index (Path height leaf) c is within = omega (arith, within, is.0)

-- what was opened into slots that are as they were
pub opens_same : (index : Index) (walk : Walk) (a b : Slots) (n : ℕ) (old new : World) → ((c : ℕ) → c < n → get_or b (slot_in walk c) None ≡ get_or a (slot_in walk c) None) → OpensFirst index walk a n old new → OpensFirst index walk b n old new
opens_same index walk a b zero old new same is = is
opens_same index walk a b (suc n) old new same is = (
  is.0,
  opens_same index walk a b n old is.0 (λ c below. same c (omega (arith, below))) is.1,
  subst (λ (s : Option Row). OpensBlock index walk n s is.0 new) (sym (same n (omega arith))) is.2,
)

-- the first c blocks of a walk were read
pub record ReadsFirst (index : Index) (walk : Walk) (c : ℕ) (old now : World) : Type 0 where
  pub went : Went (each c (λ d. read_at (region_in index walk) (place_in walk d))) none old now
  pub seals : SealsAll old now

-- and there are accesses left for the others
pub spare_left : (index : Index) (walk : Walk) (c : ℕ) (old now : World) → HasSpare (blocks_in walk) old → ReadsFirst index walk c old now → c < blocks_in walk → HasSpare 1 now
spare_left index walk c old now enough first within = record {
  ready = first.went.lasts.ready;
  spare = omega (arith, enough.spare, first.went.spare, length-each (λ d. read_at (region_in index walk) (place_in walk d)) 1 (λ d. refl) c, within);
}

-- one more is read
module _ (index : Index) (remap : Remap) (walk : Walk) (c : ℕ) (is : IsWalkOf index walk) (within : c < blocks_in walk) (old mid new : World) (before : ReadsFirst index walk c old mid) where
  pub reads_more : (held : Option Held) (bytes : List ℕ) → ReadsRow index remap walk c (Ok held) bytes mid new → ReadsFirst index walk (c + 1) old new
  reads_more held bytes row = record {
    went = went_each none (λ d. read_at (region_in index walk) (place_in walk d)) old mid new c before.went row.ok;
    seals = sealed_after before.went.lasts before.seals row.seals.seals;
  }

  -- or the walk ends there
  refuses : (e : OramErr) → RefusesRow e index walk c mid new → RefusesWalk e index walk old new
  refuses Failed row =
      subst (λ l. PassCut OpErrs.Failed l none old new) (reads_each index walk is)
      (pass_each none (λ d. read_at (region_in index walk) (place_in walk d)) old mid new OpErrs.Failed (blocks_in walk) c within before.went row)
  refuses (Tampered q x) row = (
    subst (λ l. PassCut (OpErrs.Tampered q x) l none old new) (reads_each index walk is)
        (pass_each none (λ d. read_at (region_in index walk) (place_in walk d)) old mid new (OpErrs.Tampered q x) (blocks_in walk) c within before.went row.0),
    tampered_in (omega (arith, place_below index walk c is within, one_each (table_in index walk).capacity)) row.1,
  )
  refuses StashFull row = absurd row

  pub reads_ended : {T : Type 0} (e : OramErr) (bytes : List ℕ) → ReadsRow index remap walk c (Err e) bytes mid new → ReadsWalk {T = T} index walk (Err e) old new
  reads_ended e bytes row = record {
    ok = tt;
    err = refuses e row.err;
    seals = sealed_after before.went.lasts before.seals row.seals.seals;
    told = λ table lies nolie.
        let below = place_below index walk c is within in
        let now = represents_lasts 1 (table_in index walk) none old mid before.went.lasts (λ s. s) table lies in
        let fits : FitsSlot index.schema (get_or table (place_in walk c) None) = subst (λ s. FitsSlot s (get_or table (place_in walk c) None)) (schema_is index walk) (now.fits (place_in walk c) None (omega (arith, below, now.size))) in
        row.told (get_or table (place_in walk c) None) fits (table_holds index walk table mid now (place_in walk c) below) nolie;
  }

  -- its slot is that of its block
  module _ (buffer : List (Option Held)) (list : List (List ℕ)) (slots after : Slots) (opened : IsOpen index remap after buffer list) (first : OpensWalk index walk c slots after old mid)
      (inside : slot_in walk c < length buffer) (held : Option Held) (bytes : List ℕ) (row : ReadsRow index remap walk c (Ok held) bytes mid new) where
    abbrev read_slot : Option Row
    read_slot = keyed_slot index row.opens.0

    pub opens_slot : IsOpen index remap (set after (slot_in walk c) read_slot) (set buffer (slot_in walk c) held) (set list (slot_in walk c) bytes)
    opens_slot = open_set index remap after buffer list opened (slot_in walk c) read_slot held bytes inside row.opens.1 (λ r at. keyed_in index row.opens.0 r at)

    opens_others : (j : ℕ) → ((d : ℕ) → d < c + 1 → slot_in walk d ≢ j) → get_or (set after (slot_in walk c) read_slot) j None ≡ get_or slots j None
    opens_others j off =
        get_or-set_other after (slot_in walk c) j read_slot None (λ same. off c (omega arith) (sym same))
        ∙ first.others j (λ d below. off d (omega (arith, below)))

    opens_blocks : OpensFirst index walk (set after (slot_in walk c) read_slot) (c + 1) old new
    opens_blocks =
        let next : suc c ≡ c + 1 = omega arith in
        let now : Slots = set after (slot_in walk c) read_slot in
        subst (λ (n : ℕ). OpensFirst index walk now n old new) next (
          mid,
          opens_same index walk after now c old mid (λ d below. get_or-set_other after (slot_in walk c) (slot_in walk d) read_slot None (λ same. slot_apart walk d c below within (sym same))) first.blocks,
          subst (λ (s : Option Row). OpensBlock index walk c s mid new) (sym (get_or-set_same after (slot_in walk c) read_slot None (omega (arith, inside, opened.sees.count)))) row.opens.2,
        )

    opens_told : (table : Slots) → Represents 1 (table_in index walk) table old → new.store.lie ≡ None → (d : ℕ) → d < c + 1 → (d < c) ⊎ (c ≤ d)
        → get_or (set after (slot_in walk c) read_slot) (slot_in walk d) None ≡ keyed_slot index (get_or table (place_in walk d) None)
    opens_told table lies nolie d below (inl earlier) =
        get_or-set_other after (slot_in walk c) (slot_in walk d) read_slot None (λ same. slot_apart walk d c earlier within (sym same))
        ∙ first.told table lies (none_went none mid new (read_at (region_in index walk) (place_in walk c)) row.ok nolie) d earlier
    opens_told table lies nolie d below (inr last) =
        let here : d ≡ c = omega (arith, below, last) in
        let low = place_below index walk c is within in
        let now = represents_lasts 1 (table_in index walk) none old mid before.went.lasts (λ s. s) table lies in
        let fits : FitsSlot index.schema (get_or table (place_in walk c) None) = subst (λ s. FitsSlot s (get_or table (place_in walk c) None)) (schema_is index walk) (now.fits (place_in walk c) None (omega (arith, low, now.size))) in
        let told = row.told (get_or table (place_in walk c) None) fits (table_holds index walk table mid now (place_in walk c) low) nolie in
        ap (λ k. get_or (set after (slot_in walk c) read_slot) (slot_in walk k) None) here
        ∙ get_or-set_same after (slot_in walk c) read_slot None (omega (arith, inside, opened.sees.count))
        ∙ one_slot index remap read_slot (keyed_slot index (get_or table (place_in walk c) None)) held held bytes row.opens.1 told
        ∙ ap (λ k. keyed_slot index (get_or table (place_in walk k) None)) (sym here)

    pub opens_more : OpensWalk index walk (c + 1) slots (set after (slot_in walk c) read_slot) old new
    opens_more = record {
      others = opens_others;
      blocks = opens_blocks;
      told = λ table lies nolie d below. opens_told table lies nolie d below (cases_lt d c);
    }

-- nothing was read yet
pub opens_none : (index : Index) (walk : Walk) (slots : Slots) (w : World) → OpensWalk index walk 0 slots slots w w
opens_none index walk slots w = record { others = λ j off. refl; blocks = refl; told = λ table lies nolie d below. absurd (omega (arith, below)) }

-- all was
pub reads_all : {T : Type 0} (index : Index) (walk : Walk) (c : ℕ) (v : T) (old new : World) → IsWalkOf index walk → c ≡ blocks_in walk → ReadsFirst index walk c old new → ReadsWalk index walk (Ok v) old new
reads_all index walk c v old new is last all = record {
  ok = subst (λ l. Went l none old new) (reads_each index walk is) (subst (λ n. Went (each n (λ d. read_at (region_in index walk) (place_in walk d))) none old new) last all.went);
  err = tt;
  seals = all.seals;
  told = λ table lies nolie. tt;
}
