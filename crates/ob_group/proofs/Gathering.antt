-- The groups of a table that is read block by block, while other calls are made between its own.
use Rattle.std.proofs.Common.{◌≡◌, ◌≤◌, ◌<◌, ◌+◌, ◌*◌, ◌++◌, ℕ, Bool, inl, inr, List, [], None, Ok, Err, length, take, sym, ◌∙◌, ap, subst, arith}
use Rattle.std.specs.Prelude.{filter}
use Rattle.std.proofs.lemmas.Bool.{cases_lt}
use Rattle.std.proofs.lemmas.List.{take_all}
use Rattle.std.proofs.lemmas.List.Sums.{fold-append}
use Rattle.ob_base.specs.declared.emit.EmitErr.{EmitErr}
use Rattle.ob_base.specs.declared.schema.Kind.{Kind}
use Rattle.ob_base.specs.declared.shown.Shown.{Shown}
use Rattle.ob_base.specs.Events.{Event, row_events, IsEmitted, IsHalted}
use Rattle.ob_base.specs.Schemas.{kind_width}
use Rattle.ob_order.specs.Buckets.{BucketsState, AreBucketed}
use Rattle.ob_store.proofs.Steps.{none_before}
use Rattle.ob_vault.specs.State.{World}
use Rattle.ob_vault.specs.Calls.{Lasts, none}
use Rattle.ob_row.specs.declared.aggregate.Item.{Item}
use Rattle.ob_row.specs.Rows.{Row}
use Rattle.ob_row.specs.Slots.{Slots, rows as rows_in}
use Rattle.ob_row.specs.Spelling.{kind_at}
use Rattle.ob_row.specs.Totals.{group_heads, grouped}
use Rattle.ob_blocks.proofs.Blocks.{take_blocks}
use Rattle.ob_flat.specs.declared.flat.Flat.{Flat}
use Rattle.ob_flat.specs.Emission.{SlotsToEnd}
use Rattle.ob_flat.specs.Flats.{Represents, whole_blocks}
use Rattle.ob_flat.specs.Scans.{MayScan}
use Rattle.ob_flat.specs.Words.{blocks_of}
use Rattle.ob_flat.proofs.Rows.{wide_same}
use Rattle.ob_flat.proofs.Scanning.{may_scan_lasts}
use Rattle.ob_flat.proofs.Tables.{index_in, represents_before, whole_size}
use Rattle.ob_group.specs.Answers.{answer_of}
use Rattle.ob_group.specs.Grouping.{Group, put_slot, aggs_of, groups_of, groups_shown}
use Rattle.ob_group.specs.Held.{AreGroups, HasGroups, MayGrow}
use Rattle.ob_group.specs.Labels.{header}
use Rattle.ob_group.specs.Passes.{AreGroupRows, EmitsGroups}
use Rattle.ob_group.specs.Steps.{GathersAt, AreGathered}
use Rattle.ob_group.proofs.Answering.{seen_shown, seen_number, too_many}
use Rattle.ob_group.proofs.SlotLemmas.{groups_weak, groups_none}

-- ---- the slots of so many blocks
pub none_taken : (pack : ℕ) (all : Slots) → [] ≡ take (0 * pack) all
none_taken pack all = let none : 0 ≡ 0 * pack = omega arith in ap (λ (n : ℕ). take n all) none

one_more : (u pack : ℕ) → u * pack + pack ≡ (u + 1) * pack
one_more u pack = grind arith

-- they are few, and so are those of all blocks
pub room_at : {pack : ℕ} {flat : Flat} {w : World} (place : ℕ) → MayScan pack flat w → place < blocks_of pack flat → place * pack + pack ≤ 2147483648
room_at {pack = pack} {flat = flat} place table below = index_in pack (blocks_of pack flat) place table.most table.size.blocks below

few_all : (pack blocks : ℕ) → pack ≤ 16 → blocks ≤ 134217728 → blocks * pack ≤ 2147483648
few_all pack blocks few most =
    let all : blocks * pack ≤ 134217728 * 16 = grind arith in
    omega (arith, all)

pub size_most : (a b n : ℕ) → a ≡ b → n ≡ b → n ≤ a
size_most a b n same size = omega (arith, same, size)

-- ---- the groups
module _ (pack : ℕ) (flat : Flat) (p : Row → Bool) (key : ℕ) (items : List Item) where
  abbrev kind : Kind
  kind = kind_at flat.schema key

  abbrev count : ℕ
  count = length items

  -- before the first block
  pub gathered_none : (groups : List (List ℕ)) (buckets : BucketsState) (w : World) → MayScan pack flat w → AreGroupRows groups → length groups ≤ buckets.most → AreBucketed 0 (kind_width kind) 0 groups buckets
      → AreGathered pack flat p key items 0 0 groups buckets w
  gathered_none groups buckets w table places most none =
      let zero : 0 ≡ 0 * pack = omega arith in
      record {
        table = table;
        places = places;
        most = most;
        kept = λ few. none;
        seen = [];
        are = subst (λ (m : ℕ). AreGroups kind m count 0 [] groups) zero (groups_none kind count groups);
        told = λ slots is nolie. none_taken pack (whole_blocks pack flat.capacity slots);
      }

  module _ (done n : ℕ) (groups : List (List ℕ)) (buckets : BucketsState) (w : World) (is : AreGathered pack flat p key items done n groups buckets w) where
    -- after other calls: what represents the table then did so before, and no lie then was none before
    pub gathered_stays : (v : World) → MayScan pack flat v → (v.store.lie ≡ None → w.store.lie ≡ None) → ((slots : Slots) → Represents pack flat slots v → Represents pack flat slots w)
        → AreGathered pack flat p key items done n groups buckets v
    gathered_stays v table honest before = record {
      table = table;
      places = is.places;
      most = is.most;
      kept = is.kept;
      seen = is.seen;
      are = is.are;
      told = λ slots held nolie. is.told slots (before slots held) (honest nolie);
    }

    pub gathered_lasts : (some : ℕ → Type 0) (v : World) → Lasts some w v → (some flat.region → ⊥) → AreGathered pack flat p key items done n groups buckets v
    gathered_lasts some v lasts off = gathered_stays v (may_scan_lasts pack flat some w v lasts off is.table) (none_before _ _ lasts.later) (represents_before pack flat some w v lasts off)

    -- there is room for the rows of one block more
    pub gathered_may : done < blocks_of pack flat → MayGrow kind count n pack groups
    gathered_may below = record { groups = groups_of p key items is.seen; m = done * pack; room = room_at done is.table below; are = is.are }

  -- one block more
  pub gathered_next : (place seen n : ℕ) (groups_old groups_new : List (List ℕ)) (buckets_old buckets_new : BucketsState) (old new : World) → place < blocks_of pack flat → buckets_new.most ≡ buckets_old.most
      → GathersAt pack flat p key items place seen (Ok n) groups_old groups_new buckets_new old new
      → AreGathered pack flat p key items place seen groups_old buckets_old old → AreGathered pack flat p key items (place + 1) n groups_new buckets_new new
  gathered_next place seen n groups_old groups_new buckets_old buckets_new old new below same at was =
      let lasts = at.ran.ok.lasts in
      let block = at.held.block in
      let grown = at.held.put (groups_of p key items was.seen) (place * pack) (room_at place was.table below) was.are in
      let joined = sym (fold-append (put_slot p key (aggs_of items)) [] was.seen block) in
      record {
        table = may_scan_lasts pack flat none old new lasts (λ s. s) was.table;
        places = record { wide = wide_same _ _ _ at.size was.places.wide; few = subst (λ (k : ℕ). k ≤ 4294967295) (sym at.size.count) was.places.few };
        most = omega (arith, at.size.count, same, was.most);
        kept = at.kept;
        seen = was.seen ++ block;
        are = subst (λ (m : ℕ). AreGroups kind m count n (groups_of p key items (was.seen ++ block)) groups_new) (one_more place pack)
            (subst (λ (gs : List Group). AreGroups kind (place * pack + pack) count n gs groups_new) joined grown);
        told = λ slots held nolie.
            let whole = whole_blocks pack flat.capacity slots in
            let before = represents_before pack flat none old new lasts (λ s. s) slots held in
            ap (λ (l : Slots). l ++ block) (was.told slots before (none_before _ _ lasts.later nolie))
            ∙ ap (λ (l : Slots). take (place * pack) whole ++ l) (at.held.told slots before nolie)
            ∙ sym (take_blocks pack whole place);
      }

  -- ---- all blocks
  module _ (done n : ℕ) (groups : List (List ℕ)) (buckets : BucketsState) (w : World) (all : done ≡ blocks_of pack flat) (is : AreGathered pack flat p key items done n groups buckets w) where
    pub gathered_all : (slots : Slots) → Represents pack flat slots w → w.store.lie ≡ None → is.seen ≡ whole_blocks pack flat.capacity slots
    gathered_all slots held nolie =
        let end : done * pack ≡ blocks_of pack flat * pack = ap (λ (k : ℕ). k * pack) all in
        is.told slots held nolie ∙ take_all (done * pack) (whole_blocks pack flat.capacity slots) (size_most _ _ _ end (whole_size pack flat slots _ held is.table.some))

    pub gathered_are : AreGroups kind 2147483648 count n (groups_of p key items is.seen) groups
    gathered_are =
        let few : done * pack ≤ 2147483648 = subst (λ (k : ℕ). k * pack ≤ 2147483648) (sym all) (few_all pack (blocks_of pack flat) is.table.most is.table.size.blocks) in
        groups_weak kind (done * pack) 2147483648 count n _ groups few is.are

    -- they may be emitted
    pub gathered_has : HasGroups kind count n groups
    gathered_has = record { groups = groups_of p key items is.seen; are = gathered_are }

    module _ (below : key < length flat.schema) where
      -- as many groups as keys, or too many
      pub gathered_number : (slots : Slots) → Represents pack flat slots w → w.store.lie ≡ None → n ≤ length groups → n ≡ length (group_heads key (filter p (rows_in slots)))
      gathered_number slots held nolie few = sym (is.are.all few) ∙ seen_number p key items flat.schema _ slots is.seen below held.fits (gathered_all slots held nolie)

      pub gathered_answer : (slots : Slots) → Represents pack flat slots w → w.store.lie ≡ None → answer_of (length groups) n ≡ answer_of (length groups) (length (group_heads key (filter p (rows_in slots))))
      gathered_answer slots held nolie = elim (cases_lt (length groups) n) [
        | inl more ↦
            let number = seen_number p key items flat.schema _ slots is.seen below held.fits (gathered_all slots held nolie) in
            sym (too_many (length groups) n more) ∙ too_many (length groups) _ (omega (arith, is.are.more more, number))
        | inr few ↦ ap (answer_of (length groups)) (gathered_number slots held nolie few)
      ]

      gathered_shown : (s : SlotsToEnd pack flat w w) → groups_shown items (groups_of p key items is.seen) ≡ grouped key items (filter p (rows_in s.slots))
      gathered_shown s = seen_shown p key items flat.schema _ s.slots is.seen below s.is.fits (gathered_all s.slots s.is s.nolie)

      -- what was emitted of them are the groups of the table
      module _ {E T : Type 0} (grew cut : E → E → List Event → Type 0) (faults : E → ℕ) (a b : E) where
        pub gathered_emitted : (x : T) → EmitsGroups grew cut faults kind items n groups (header flat.schema key items) (Ok x) a b
            → IsEmitted grew (header flat.schema key items) (λ (s : SlotsToEnd pack flat w w). grouped key items (filter p (rows_in s.slots))) 0 n a b
        unfolding gathered_has
        gathered_emitted x given =
            let e = given.emitted in
            record { rows = e.rows; count = e.count; leads = e.leads; told = λ s. e.told gathered_has ∙ gathered_shown s }

        pub gathered_halted : (e : EmitErr) → EmitsGroups {T = T} grew cut faults kind items n groups (header flat.schema key items) (Err e) a b
            → IsHalted grew cut (λ (s : SlotsToEnd pack flat w w). header flat.schema key items ++ row_events (grouped key items (filter p (rows_in s.slots)))) a b
        unfolding gathered_has
        gathered_halted e given =
            let h = given.halted in
            record {
              events = h.events;
              ends = h.ends;
              told = λ s. let r = h.told gathered_has in (r.0, r.1 ∙ ap (λ (l : List (List Shown)). header flat.schema key items ++ row_events l) (gathered_shown s));
            }
