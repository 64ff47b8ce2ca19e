-- How a SELECT of rows in flight stands after each step.
use Rattle.std.proofs.Common.{◌≡◌, ◌<◌, ◌≤◌, ◌+◌, ◌-◌, ◌*◌, ◌∷◌, ◌++◌, ℕ, zero, suc, Bool, true, false, not, List, [], refl, sym, ◌∙◌, ap, subst, arith}
use Rattle.std.specs.Prelude.{Option, Some, None, Ok, length, min, nat_lt, take, drop, if◌then◌else◌}
use Rattle.std.proofs.lemmas.List.{append-nil}
use Rattle.std.proofs.lemmas.List.Filters.{length-filter_both}
use Rattle.ob_base.specs.declared.config.Plan.TheVariants.{Small}
use Rattle.ob_base.specs.declared.seen.End.TheVariants.{Whole}
use Rattle.ob_base.specs.declared.seen.Seen.{Seen}
use Rattle.ob_base.specs.declared.shown.Shown.{Shown}
use Rattle.ob_base.specs.Events.{Event}
use Rattle.ob_base.specs.Schemas.{width}
use Rattle.ob_emit.specs.Emitting.{HasEmitted}
use Rattle.ob_emit.proofs.BlocksEmitted.{emitted_begins}
use Rattle.ob_flat.specs.Creates.{MakesTable}
use Rattle.ob_flat.specs.Flats.{IsSized, Represents, table_region}
use Rattle.ob_flat.specs.Scans.{MayScan}
use Rattle.ob_flat.proofs.Scanning.{may_scan_lasts}
use Rattle.ob_flat.proofs.Tables.{fits_sized, written_flat}
use Rattle.ob_mean.specs.Verdict.{counted}
use Rattle.ob_row.specs.Slots.{Slots, is_selected}
use Rattle.ob_row.specs.Spelling.{Begins}
use Rattle.ob_row.specs.Truth.{is_true}
use Rattle.ob_select.specs.Selecting.{Selection, places, shown_rows}
use Rattle.ob_small.specs.Keeping.{chosen}
use Rattle.ob_small.specs.Selection as Smalls
use Rattle.ob_small.proofs.Lengths.{product_within}
use Rattle.ob_small.specs.Steps.{CollectsBlock, IsFilledTo, IsUnordered, WritesBlock}
use Rattle.ob_small.proofs.Steps.{collected_lasts, collected_next, collected_none, collected_whole, filled_at, filled_flat, filled_next, filled_none, unordered_made, unordered_put}
use Rattle.ob_vault.specs.declared.region.Order.TheVariants.{Any}
use Rattle.ob_vault.specs.Calls.{Lasts, none, one}
use Rattle.ob_vault.specs.Rows.{Wide, row_at}
use Rattle.ob_vault.specs.State.{World}
use Rattle.ob_vault.specs.Tied.{Ready}
use Rattle.ob_vault.proofs.Runs.{lives_apart}
use Rattle.ob_stages.specs.declared.rows.Stage.{Stage}
use Rattle.ob_stages.specs.declared.rows.Stage.TheVariants.{Count, Make, Read, Write, Emit, Over}
use Rattle.ob_stages.specs.RowsStates.{RowsAt, HasCounted, HasRegion, IsCounting, IsFlown, IsPlaced, PlacedAt, ShownAt, after_read, after_write, emits_before, is_over, is_passed, kept_blocks, known, known_by, part_blocks, passes_pad, reads_before, result_in, rows_skeleton, seen_taking, small, table_blocks, taken, whole_length, writes_before}
use Rattle.ob_verdict.specs.declared.outcome.Outcome.{Outcome}
use Rattle.ob_stages.specs.RowsHolds.{Collected, EndedAt, HasFilled, Holds, HoldsAt, IsCountOf, IsCutOff, IsToEnd, Picked, all_selected, events_if, head_of, is_headless, is_shown, left_of, outcome_of, seen_ended}
use Rattle.ob_stages.specs.RowsLaws.{count_lasts, has_filled_lasts}
use Rattle.ob_stages.specs.RowsSteps.{Clears, counted_to, counted_whole, gone_to}
use Rattle.ob_stages.proofs.RowsGoing.{stepped}
use Rattle.ob_stages.proofs.RowsMeans.{count_places, events_meant, outcome_meant, seen_meant, shown_count}
use Rattle.ob_stages.proofs.RowsPlaces.{booked_at, booked_counting, counted_on, counting, counting_booked, counting_next, fill_last, less_so, made_next, none_next, not_less, part_full, part_last, part_some, pass_next, passes_some, placed_next, read_last, read_next, region_on, results_some, table_some, write_next}

-- what is a region apart from the next
pub table_apart : (g : RowsAt) (w : World) → Ready w → MayScan g.q.public.pack g.q.flat w → g.q.flat.region ≡ w.vault.next → ⊥
table_apart g w ready table same =
    lives_apart g.q.flat.region (table_region table.written.order g.q.public.pack g.q.flat.schema g.q.flat.capacity) w ready table.written.lives same

-- one that has its end before it
pub ended_to : (g : RowsAt) (events : List Event) (w : World) → g.failed ≡ false → g.outcome ≡ None → IsToEnd g events w → EndedAt g.failed g.outcome g events w
ended_to g events w unfailed unended is =
    subst (λ (f : Bool). EndedAt f g.outcome g events w) (sym unfailed) (subst (λ (o : Option Outcome). EndedAt false o g events w) (sym unended) is)

pub ended_cut : (g : RowsAt) (events : List Event) (w : World) → g.failed ≡ true → g.outcome ≡ None → IsCutOff g.q g.seen g.asked events w → EndedAt g.failed g.outcome g events w
ended_cut g events w failed unended is =
    subst (λ (f : Bool). EndedAt f g.outcome g events w) (sym failed) (subst (λ (o : Option Outcome). EndedAt true o g events w) (sym unended) is)

-- ---- the count
-- no more are selected than there are slots
chosen_few : (q : Selection) (slots : Slots) (n : ℕ) → length slots ≡ q.flat.capacity → n ≡ length (chosen (is_true q.condition) slots) → min n q.flat.capacity ≡ n
chosen_few q slots n size is = omega (arith, size, is, length-filter_both (is_selected (is_true q.condition)) (λ slot. not (is_selected (is_true q.condition) slot)) (λ slot. refl) slots)

-- the same count, whatever else has changed
pub recount : (g h : RowsAt) (w : World) → h.q ≡ g.q → h.k ≡ g.k → IsCountOf g w (all_selected g) → IsCountOf h w (all_selected h)
recount g h w q_is k_is is =
    subst (λ (x : RowsAt). IsCountOf x w (all_selected x)) (λ i. record h { q = sym q_is i; k = sym k_is i })
    (let here : IsCountOf (record h { q = g.q; k = g.k }) w (all_selected (record h { q = g.q; k = g.k })) = record { told = is.told } in here)

-- ---- the count
module _ (g : RowsAt) (kept : List (List ℕ)) (events : List Event) (u n : ℕ) (old new : World) (same : g.stage ≡ Count u) (is : Holds g kept events old)
    (block : CollectsBlock g.q.public.pack g.q.flat (is_true g.q.condition) u g.k 0 0 [] [] (Ok n) old new) where
  at : IsCounting g u
  at = counting g is.placed u same

  held : (events ≡ []) × Picked g u g.k old
  held = subst (λ (s : Stage). HoldsAt s g kept events old) same is.at

  lasts : Lasts none old new
  lasts = block.ran.ok.lasts

  table : MayScan g.q.public.pack g.q.flat new
  table = may_scan_lasts g.q.public.pack g.q.flat none old new lasts (λ s. s) is.table

  going : is_over g.stage ≡ false
  going = ap is_over same

  picked : Picked g (u + 1) n new
  picked = collected_next g.q.public.pack g.q.flat (is_true g.q.condition) 0 0 u g.k n [] [] old new at.below block held.1

  -- a block is left
  counts_on : u + 1 < table_blocks g.q → Holds (gone_to (Count (u + 1)) (record g { k = n })) kept events new
  counts_on below = record {
    ready = lasts.ready;
    placed = placed_next g is.placed going (Count (u + 1)) g.region n g.shown (g.booked - 1) g.seen
        (counting_next g is.placed u same n picked.few below)
        (subst (λ (s : Stage). ShownAt s g.shown) same is.placed.shown) (counting_booked g is.placed u same n);
    table = table;
    at = (held.0, picked);
  }

  module _ (last : table_blocks g.q ≤ u + 1) (k : ℕ) (k_is : k ≡ min n g.q.flat.capacity) where
    few : k ≤ g.q.flat.capacity
    few = omega (arith, k_is)

    -- none is left
    told : (slots : Slots) → Represents g.q.public.pack g.q.flat slots new → new.store.lie ≡ None → k ≡ length (chosen (is_true g.q.condition) slots)
    told slots held_now nolie =
        let all : u + 1 ≡ table_blocks g.q = omega (arith, at.below, last) in
        let count = (collected_whole g.q.public.pack g.q.flat (is_true g.q.condition) 0 0 (u + 1) n [] new all picked slots held_now nolie).count in
        k_is ∙ chosen_few g.q slots n held_now.size count ∙ count

    unshown : g.shown ≡ 0
    unshown = subst (λ (s : Stage). ShownAt s g.shown) same is.placed.shown

    -- its result is made next
    makes_next : (seen : Seen) → (g.q.public.pad ≡ None → 1 ≤ k) → seen ≡ seen_taking g.q.public.pad k → Holds (gone_to Make (record g { k = k; seen = seen })) kept events new
    makes_next seen some takes = record {
      ready = lasts.ready;
      placed = placed_next g is.placed going Make g.region k g.shown (g.booked - 1) seen (made_next g is.placed u same last k seen (g.booked - 1) few some takes) unshown (counting_booked g is.placed u same k);
      table = table;
      at = (held.0, record { told = told });
    }

    -- or it has no rows
    module _ (unpadded : g.q.public.pad ≡ None) (zero_is : k ≡ 0) where
      h : RowsAt
      h = gone_to Over (record g { k = 0; seen = record g.seen { k = Some 0 } })

      seen_is : record g.seen { k = Some 0 } ≡ counted 0 None None Whole
      seen_is = ap (λ (s : Seen). record s { k = Some 0 }) at.seen

      none_passed : is_passed g.q.public.pad 0 ≡ false
      none_passed = ap (λ (o : Option ℕ). is_passed o 0) unpadded

      none_headed : is_headless g.q.public.pad 0 ≡ true
      none_headed = ap (λ (o : Option ℕ). is_headless o 0) unpadded

      head_is : events ++ left_of (is_headless g.q.public.pad 0) g.q ≡ events_if true g.q []
      head_is = (λ i. held.0 i ++ left_of (none_headed i) g.q) ∙ sym (append-nil (head_of g.q))

      ends_none : IsToEnd (gone_to Over (record g { k = 0; seen = record g.seen { k = Some 0 } })) events new
      ends_none = record {
        seen = seen_is ∙ sym (ap (λ (o : Option ℕ). seen_ended o 0) unpadded);
        few = (omega arith, omega (arith, unshown));
        rows = [];
        is = head_is ∙ ap (λ (b : Bool). events_if (not b) g.q []) (sym none_passed);
        count = λ unpassed. unshown;
        told = λ slots held_now honest.
            let none = sym (sym zero_is ∙ told slots held_now honest.nolie) in
            let count : length (places g.q slots) ≡ 0 = sym (count_places g.q slots) ∙ none in
            let passed : is_passed g.q.public.pad (length (places g.q slots)) ≡ false = ap (is_passed g.q.public.pad) count ∙ none_passed in (
              (λ i. outcome_of (none_passed i) (unshown i)) ∙ sym (outcome_meant g.q is.placed.flown.planner slots ∙ (λ i. outcome_of (passed i) (count i))),
              seen_is ∙ sym (seen_meant g.q is.placed.flown.planner slots ∙ (λ i. seen_ended (unpadded i) (count i))),
              head_is
                  ∙ ap (λ (l : List (List Shown)). events_if true g.q l) (sym (no_rows (shown_rows g.q slots) (shown_count g.q is.placed.flown.planner slots ∙ count)))
                  ∙ sym (events_meant g.q is.placed.flown.planner slots ∙ ap (λ (b : Bool). events_if (not b) g.q (shown_rows g.q slots)) passed),
            );
      }
        where
          no_rows : (l : List (List Shown)) → length l ≡ 0 → l ≡ []
          no_rows [] none = refl
          no_rows (x ∷ l) none = absurd (omega (arith, none))

      ends_next : Holds (gone_to Over (record g { k = 0; seen = record g.seen { k = Some 0 } })) kept events new
      ends_next = record {
        ready = lasts.ready;
        placed = placed_next g is.placed going Over g.region 0 g.shown (g.booked - 1) (record g.seen { k = Some 0 })
            (none_next g is.placed u same last (record g.seen { k = Some 0 }) (g.booked - 1) unpadded seen_is) tt
            (omega (arith, booked_counting g is.placed u same, ap (λ (o : Option ℕ). known_by o (table_blocks g.q) (whole_length g.q g.k)) unpadded, at.asked, at.below, last));
        table = table;
        at = (
          record { below = λ r mine. absurd (cc (at.region, mine)); gone = λ r mine. absurd (cc (at.region, mine)) },
          ended_to (gone_to Over (record g { k = 0; seen = record g.seen { k = Some 0 } })) events new (is.placed.unfailed going) (is.placed.unended going) ends_none,
        );
      }

    by_count : (pad : Option ℕ) (c : ℕ) → g.q.public.pad ≡ pad → k ≡ c → Holds (counted_whole pad c (record g { k = c })) kept events new
    by_count None zero unpadded c_is = ends_next unpadded c_is
    by_count None (suc c) unpadded c_is =
        subst (λ (m : ℕ). Holds (gone_to Make (record g { k = m; seen = record g.seen { k = Some m; plan = Some Small } })) kept events new) c_is
        (makes_next (record g.seen { k = Some k; plan = Some Small }) (λ none. omega (arith, c_is)) (ap (λ (s : Seen). record s { k = Some k; plan = Some Small }) at.seen ∙ sym (ap (λ (o : Option ℕ). seen_taking o k) unpadded)))
    by_count (Some pad) c padded c_is =
        subst (λ (m : ℕ). Holds (gone_to Make (record g { k = m })) kept events new) c_is
        (makes_next g.seen (λ none. absurd (cc (none, padded))) (at.seen ∙ sym (ap (λ (o : Option ℕ). seen_taking o k) padded)))

  pub holds_counted : Holds (counted_to u n g) kept events new
  holds_counted = by_test (nat_lt (u + 1) (table_blocks g.q)) refl
    where
      by_test : (b : Bool) → nat_lt (u + 1) (table_blocks g.q) ≡ b
          → Holds (if b then gone_to (Count (u + 1)) (record g { k = n }) else counted_whole g.q.public.pad (min n g.q.flat.capacity) (record g { k = min n g.q.flat.capacity })) kept events new
      by_test true less = counts_on (less_so _ _ less)
      by_test false more = by_count (not_less _ _ more) (min n g.q.flat.capacity) refl g.q.public.pad (min n g.q.flat.capacity) refl refl

-- ---- the make
module _ (g : RowsAt) (kept after : List (List ℕ)) (events : List Event) (b : ℕ) (old new : World) (same : g.stage ≡ Make) (is : Holds g kept events old)
    (makes : MakesTable Any g.q.public.pack (result_in g.q g.k old.vault.next) (Ok old.vault.next) old new) where
  made_at : HasCounted g (table_blocks g.q) × (g.region ≡ None)
  made_at = subst (λ (s : Stage). PlacedAt s g) same is.placed.at

  made_held : (events ≡ []) × IsCountOf g old (all_selected g)
  made_held = subst (λ (s : Stage). HoldsAt s g kept events old) same is.at

  made_lasts : Lasts (one old.vault.next) old new
  made_lasts = makes.ran.ok.lasts

  made_apart : g.q.flat.region ≡ old.vault.next → ⊥
  made_apart = table_apart g old is.ready is.table

  made_table : MayScan g.q.public.pack g.q.flat new
  made_table = may_scan_lasts g.q.public.pack g.q.flat (one old.vault.next) old new made_lasts made_apart is.table

  abbrev made_to : RowsAt
  made_to = stepped g (Read 0 0 0) (Some old.vault.next) g.k g.shown b g.seen

  pub holds_made : b ≡ whole_length g.q g.k - (g.asked + 1) → ((i : ℕ) → i < length after → Begins g.q.flat.schema None (row_at after i))
      → Holds (stepped g (Read 0 0 0) (Some old.vault.next) g.k g.shown b g.seen) after events new
  holds_made booked empty = record {
    ready = made_lasts.ready;
    placed = placed_next g is.placed (ap is_over same) (Read 0 0 0) (Some old.vault.next) g.k g.shown b g.seen (
      record { counted = counted_on g (table_blocks g.q) (reads_before g.q 0 0) (Read 0 0 0) (Some old.vault.next) g.shown b made_at.0 (omega arith); own = old.vault.next; region = refl; apart = made_apart },
      omega (arith, passes_some g.q (rows_skeleton g.select) is.placed.flown g.k made_at.0.some),
      omega (arith, table_some g.q (rows_skeleton g.select) is.placed.flown),
    ) (subst (λ (s : Stage). ShownAt s g.shown) same is.placed.shown) booked;
    table = made_table;
    at = (
      made_held.0,
      recount g made_to new refl refl (count_lasts g (one old.vault.next) old new made_lasts made_apart (all_selected g) made_held.1),
      collected_none g.q.public.pack g.q.flat (is_true g.q.condition) ((0 * kept_blocks g.q) * g.q.public.pack) (taken g.q g.k) after new made_table empty,
      record {
        own = old.vault.next;
        region = refl;
        unordered = unordered_made g.q.public.pack (result_in g.q g.k old.vault.next) old.vault.next old new makes;
        filled = filled_at (small g.q g.k) (result_in g.q g.k old.vault.next) (let zero : 0 ≡ 0 * kept_blocks g.q = omega arith in zero) (filled_none (small g.q g.k) (result_in g.q g.k old.vault.next) new);
      },
    );
  }

-- ---- the passes
-- its result may be read
pub result_may : (g : RowsAt) (w : World) → IsFlown g.q (rows_skeleton g.select) → {done : ℕ} → HasCounted g done → (own : ℕ) {x : ℕ} → x ≡ Smalls.results (small g.q g.k) → (is : HasFilled g x w)
    → MayScan g.q.public.pack (result_in g.q g.k is.own) w
result_may g w flown counted own {x} all is =
    let sized : IsSized g.q.flat.schema (taken g.q g.k) = record { some = flown.size.some; few = flown.size.few; wide = flown.size.wide; least = counted.some; most = omega (arith, counted.most, flown.size.most) } in
    let flat = filled_flat (small g.q g.k) (result_in g.q g.k is.own) x w all refl is.filled is.unordered in
    record {
      some = flown.settings.pack_least;
      most = flown.settings.pack_most;
      size = fits_sized g.q.public.pack g.q.flat.schema (taken g.q g.k) flown.settings.pack_least sized;
      written = written_flat g.q.public.pack (result_in g.q g.k is.own) w flat;
    }

-- where a step is behind, it has booked one less
pub booked_next : (g : RowsAt) (is : IsPlaced g) (stage next : Stage) → g.stage ≡ stage → known stage g.q.public.pad (table_blocks g.q) (whole_length g.q g.k) ≡ whole_length g.q g.k
    → known next g.q.public.pad (table_blocks g.q) (whole_length g.q g.k) ≡ whole_length g.q g.k → g.booked - 1 ≡ known next g.q.public.pad (table_blocks g.q) (whole_length g.q g.k) - (g.asked + 1)
booked_next g is stage next same known_is next_is = omega (arith, booked_at g is stage same, known_is, next_is)

-- the same regions, whatever else has changed
pub refilled : (g h : RowsAt) (x y : ℕ) (w : World) → h.q ≡ g.q → h.k ≡ g.k → h.region ≡ g.region → x ≡ y → HasFilled g x w → HasFilled h y w
refilled g h x y w q_is k_is r_is x_is is =
    subst (λ (a : RowsAt). HasFilled a y w) (λ i. record h { q = sym q_is i; k = sym k_is i; region = sym r_is i })
    (let here : HasFilled (record h { q = g.q; k = g.k; region = g.region }) y w = record { own = is.own; region = is.region; unordered = is.unordered; filled = filled_at (small g.q g.k) (result_in g.q g.k is.own) x_is is.filled } in here)

module _ (g : RowsAt) (kept after : List (List ℕ)) (events : List Event) (pass u seen n : ℕ) (old new : World) (same : g.stage ≡ Read pass u seen) (is : Holds g kept events old)
    (block : CollectsBlock g.q.public.pack g.q.flat (is_true g.q.condition) u seen ((pass * kept_blocks g.q) * g.q.public.pack) (taken g.q g.k) kept after (Ok n) old new) where
  read_at_ : HasRegion g (reads_before g.q pass u) × (pass < Smalls.passes (small g.q g.k)) × (u < table_blocks g.q)
  read_at_ = subst (λ (s : Stage). PlacedAt s g) same is.placed.at

  read_held : (events ≡ []) × IsCountOf g old (all_selected g) × Collected g pass u seen kept old × HasFilled g (pass * kept_blocks g.q) old
  read_held = subst (λ (s : Stage). HoldsAt s g kept events old) same is.at

  read_lasts : Lasts none old new
  read_lasts = block.ran.ok.lasts

  read_collected : Collected g pass (u + 1) n after new
  read_collected =
      collected_next g.q.public.pack g.q.flat (is_true g.q.condition) ((pass * kept_blocks g.q) * g.q.public.pack) (taken g.q g.k) u seen n kept after old new read_at_.2 block read_held.2

  read_count : IsCountOf g new (all_selected g)
  read_count = count_lasts g none old new read_lasts (λ s. s) (all_selected g) read_held.1

  read_filled : HasFilled g (pass * kept_blocks g.q) new
  read_filled = has_filled_lasts g none old new read_lasts (λ s. s) read_held.3.own read_held.3.region (λ s. s) (pass * kept_blocks g.q) read_held.3

  read_unshown : g.shown ≡ 0
  read_unshown = subst (λ (s : Stage). ShownAt s g.shown) same is.placed.shown

  abbrev read_to : Stage → RowsAt
  read_to stage = stepped g stage g.region g.k g.shown (g.booked - 1) g.seen

  read_next_stage : u + 1 < table_blocks g.q → Holds (read_to (Read pass (u + 1) n)) after events new
  read_next_stage below = record {
    ready = read_lasts.ready;
    placed = placed_next g is.placed (ap is_over same) (Read pass (u + 1) n) g.region g.k g.shown (g.booked - 1) g.seen
        (region_on g (reads_before g.q pass u) (reads_before g.q pass (u + 1)) (Read pass (u + 1) n) g.shown (g.booked - 1) read_at_.0 (read_next g.q pass u), read_at_.1, below)
        read_unshown (booked_next g is.placed (Read pass u seen) (Read pass (u + 1) n) same refl refl);
    table = read_collected.table;
    at = (read_held.0, recount g (read_to (Read pass (u + 1) n)) new refl refl read_count, read_collected, refilled g (read_to (Read pass (u + 1) n)) _ _ new refl refl refl refl read_filled);
  }

  read_last_stage : table_blocks g.q ≤ u + 1 → Holds (read_to (Write pass 0)) after events new
  read_last_stage last =
      let all : u + 1 ≡ table_blocks g.q = omega (arith, read_at_.2, last) in
      record {
        ready = read_lasts.ready;
        placed = placed_next g is.placed (ap is_over same) (Write pass 0) g.region g.k g.shown (g.booked - 1) g.seen (
          region_on g (reads_before g.q pass u) (writes_before g.q pass 0) (Write pass 0) g.shown (g.booked - 1) read_at_.0 (read_last g.q pass u all),
          read_at_.1,
          part_some g.q (rows_skeleton g.select) is.placed.flown g.k pass read_at_.1,
        )
            read_unshown (booked_next g is.placed (Read pass u seen) (Write pass 0) same refl refl);
        table = read_collected.table;
        at = (
          read_held.0,
          recount g (read_to (Write pass 0)) new refl refl read_count,
          (n, subst (λ (m : ℕ). Collected g pass m n after new) all read_collected),
          refilled g (read_to (Write pass 0)) (pass * kept_blocks g.q) (pass * kept_blocks g.q + 0) new refl refl refl (omega arith) read_filled,
        );
      }

  pub holds_read : Holds (read_to (after_read g pass u n)) after events new
  holds_read = by_test (nat_lt (u + 1) (table_blocks g.q)) refl
    where
      by_test : (b : Bool) → nat_lt (u + 1) (table_blocks g.q) ≡ b → Holds (read_to (if b then Read pass (u + 1) n else Write pass 0)) after events new
      by_test true less = read_next_stage (less_so _ _ less)
      by_test false more = read_last_stage (not_less _ _ more)

-- a place of a part of the kept rows
pub kept_inside : (q : Selection) (k pass x size : ℕ) → size ≡ kept_blocks q * q.public.pack → x < part_blocks q k pass → x * q.public.pack + q.public.pack ≤ size
kept_inside q k pass x size is below =
    let most : (x + 1) * q.public.pack ≤ kept_blocks q * q.public.pack = product_within (x + 1) (kept_blocks q) q.public.pack (omega (arith, below)) in
    let more : (x + 1) * q.public.pack ≡ x * q.public.pack + q.public.pack = grind arith in
    omega (arith, is, most, more)

module _ (g : RowsAt) (kept after : List (List ℕ)) (events : List Event) (pass x own : ℕ) (old new : World) (same : g.stage ≡ Write pass x) (region : g.region ≡ Some own) (is : Holds g kept events old)
    (space : length kept ≡ kept_blocks g.q * g.q.public.pack)
    (block : WritesBlock {T = Unit {0}} g.q.public.pack (result_in g.q g.k own) (pass * kept_blocks g.q + x) (take g.q.public.pack (drop (x * g.q.public.pack) kept)) (Ok tt) old new) where
  write_at_ : HasRegion g (writes_before g.q pass x) × (pass < Smalls.passes (small g.q g.k)) × (x < part_blocks g.q g.k pass)
  write_at_ = subst (λ (s : Stage). PlacedAt s g) same is.placed.at

  write_held : (events ≡ []) × IsCountOf g old (all_selected g) × ((seen : ℕ) × Collected g pass (table_blocks g.q) seen kept old) × HasFilled g (pass * kept_blocks g.q + x) old
  write_held = subst (λ (s : Stage). HoldsAt s g kept events old) same is.at

  write_lasts : Lasts (one own) old new
  write_lasts = block.ran.ok.lasts

  write_off : g.q.flat.region ≡ own → ⊥
  write_off here = write_at_.0.apart (here ∙ (let e : own ≡ write_at_.0.own = cc (region, write_at_.0.region) in e))

  write_own : write_held.3.own ≡ own
  write_own = cc (write_held.3.region, region)

  write_table : MayScan g.q.public.pack g.q.flat new
  write_table = may_scan_lasts g.q.public.pack g.q.flat (one own) old new write_lasts write_off is.table

  write_count : IsCountOf g new (all_selected g)
  write_count = count_lasts g (one own) old new write_lasts write_off (all_selected g) write_held.1

  write_collected : Collected g pass (table_blocks g.q) write_held.2.0 kept new
  write_collected =
      collected_lasts g.q.public.pack g.q.flat (is_true g.q.condition) ((pass * kept_blocks g.q) * g.q.public.pack) (taken g.q g.k) (table_blocks g.q) write_held.2.0 kept (one own) old new write_lasts write_off write_held.2.1

  write_filled : HasFilled g (pass * kept_blocks g.q + x + 1) new
  write_filled = record {
    own = own;
    region = region;
    unordered = unordered_put g.q.public.pack (result_in g.q g.k own) (pass * kept_blocks g.q + x) old new block.only (subst (λ (r : ℕ). IsUnordered g.q.public.pack (result_in g.q g.k r) old) write_own write_held.3.unordered);
    filled = filled_next (small g.q g.k) (result_in g.q g.k own) (pass * kept_blocks g.q) x write_held.2.0 kept tt old new refl write_off (kept_inside g.q g.k pass x (length kept) space write_at_.2)
        write_held.2.1 block (subst (λ (r : ℕ). IsFilledTo (small g.q g.k) (result_in g.q g.k r) (pass * kept_blocks g.q + x) old) write_own write_held.3.filled);
  }

  write_unshown : g.shown ≡ 0
  write_unshown = subst (λ (s : Stage). ShownAt s g.shown) same is.placed.shown

  abbrev write_to : Stage → RowsAt
  write_to stage = stepped g stage g.region g.k g.shown (g.booked - 1) g.seen

  -- the next of its blocks
  writes_next : x + 1 < part_blocks g.q g.k pass → after ≡ kept → Holds (write_to (Write pass (x + 1))) after events new
  writes_next below stays = record {
    ready = write_lasts.ready;
    placed = placed_next g is.placed (ap is_over same) (Write pass (x + 1)) g.region g.k g.shown (g.booked - 1) g.seen
        (region_on g (writes_before g.q pass x) (writes_before g.q pass (x + 1)) (Write pass (x + 1)) g.shown (g.booked - 1) write_at_.0 (write_next g.q pass x), write_at_.1, below)
        write_unshown (booked_next g is.placed (Write pass x) (Write pass (x + 1)) same refl refl);
    table = write_table;
    at = (
      write_held.0,
      recount g (write_to (Write pass (x + 1))) new refl refl write_count,
      (write_held.2.0, subst (λ (l : List (List ℕ)). Collected g pass (table_blocks g.q) write_held.2.0 l new) (sym stays) write_collected),
      refilled g (write_to (Write pass (x + 1))) (pass * kept_blocks g.q + x + 1) (pass * kept_blocks g.q + (x + 1)) new refl refl refl (omega arith) write_filled,
    );
  }

  -- the next pass
  writes_pass : part_blocks g.q g.k pass ≤ x + 1 → pass + 1 < Smalls.passes (small g.q g.k) → ((i : ℕ) → i < length after → Begins g.q.flat.schema None (row_at after i)) → Holds (write_to (Read (pass + 1) 0 0)) after events new
  writes_pass last below empty =
      let full = part_full g.q (rows_skeleton g.select) is.placed.flown g.k pass below in
      let all : x + 1 ≡ kept_blocks g.q = omega (arith, full, last, write_at_.2) in
      let more : (pass + 1) * kept_blocks g.q ≡ pass * kept_blocks g.q + kept_blocks g.q = grind arith in
      record {
        ready = write_lasts.ready;
        placed = placed_next g is.placed (ap is_over same) (Read (pass + 1) 0 0) g.region g.k g.shown (g.booked - 1) g.seen
            (region_on g (writes_before g.q pass x) (reads_before g.q (pass + 1) 0) (Read (pass + 1) 0 0) g.shown (g.booked - 1) write_at_.0 (pass_next g.q pass x all), below, omega (arith, table_some g.q (rows_skeleton g.select) is.placed.flown))
            write_unshown (booked_next g is.placed (Write pass x) (Read (pass + 1) 0 0) same refl refl);
        table = write_table;
        at = (
          write_held.0,
          recount g (write_to (Read (pass + 1) 0 0)) new refl refl write_count,
          collected_none g.q.public.pack g.q.flat (is_true g.q.condition) (((pass + 1) * kept_blocks g.q) * g.q.public.pack) (taken g.q g.k) after new write_table empty,
          refilled g (write_to (Read (pass + 1) 0 0)) (pass * kept_blocks g.q + x + 1) ((pass + 1) * kept_blocks g.q) new refl refl refl (omega (arith, all, more)) write_filled,
        );
      }

  -- the result is read back
  writes_last : part_blocks g.q g.k pass ≤ x + 1 → Smalls.passes (small g.q g.k) ≤ pass + 1 → Holds (write_to (Emit 0)) after events new
  unfolding write_filled refilled
  writes_last last end =
      let part = part_last g.q (rows_skeleton g.select) is.placed.flown g.k pass write_at_.1 end in
      let all : x + 1 ≡ part_blocks g.q g.k pass = omega (arith, last, write_at_.2) in
      let filled = refilled g (write_to (Emit 0)) (pass * kept_blocks g.q + x + 1) (Smalls.results (small g.q g.k)) new refl refl refl (omega (arith, part, all)) write_filled in
      let may : MayScan g.q.public.pack (result_in g.q g.k own) new = result_may g new is.placed.flown write_at_.0.counted own (omega (arith, part, all)) write_filled in
      record {
        ready = write_lasts.ready;
        placed = placed_next g is.placed (ap is_over same) (Emit 0) g.region g.k g.shown (g.booked - 1) g.seen
            (region_on g (writes_before g.q pass x) (emits_before g.q g.k 0) (Emit 0) g.shown (g.booked - 1) write_at_.0 (fill_last g.q (rows_skeleton g.select) is.placed.flown g.k pass x write_at_.1 end all), omega (arith, results_some g.q (rows_skeleton g.select) is.placed.flown g.k write_at_.0.counted.some))
            tt (booked_next g is.placed (Write pass x) (Emit 0) same refl refl);
        table = write_table;
        at = (
          recount g (write_to (Emit 0)) new refl refl write_count,
          record {
            rows = [];
            is = write_held.0 ∙ sym (unbegun (passes_pad g));
            passed = λ passed. write_unshown;
            filled = filled;
            read = record {
              may = may;
              emitted = λ unpassed. subst (λ (m : ℕ). HasEmitted g.q.public.pack (result_in g.q g.k own) g.q.cols 0 m [] new) (sym write_unshown) (emitted_begins g.q.public.pack (result_in g.q g.k own) g.q.cols new may);
            };
          },
        );
      }
    where
      unbegun : (passed : Bool) → events_if (is_shown passed 0) g.q [] ≡ []
      unbegun true = refl
      unbegun false = refl

  pub holds_written : (wide : Wide (width g.q.flat.schema) kept) → length after ≡ length kept → Clears (after_write g pass x) kept after → Holds (write_to (after_write g pass x)) after events new
  holds_written wide long clears = by_test (nat_lt (x + 1) (part_blocks g.q g.k pass)) refl clears
    where
      by_pass : (b : Bool) → part_blocks g.q g.k pass ≤ x + 1 → nat_lt (pass + 1) (Smalls.passes (small g.q g.k)) ≡ b → Clears (if b then Read (pass + 1) 0 0 else Emit 0) kept after
          → Holds (write_to (if b then Read (pass + 1) 0 0 else Emit 0)) after events new
      by_pass true last less clears = writes_pass last (less_so _ _ less) (λ i below. clears g.q.flat.schema wide i (omega (arith, below, long)))
      by_pass false last more clears = writes_last last (not_less _ _ more)

      by_test : (b : Bool) → nat_lt (x + 1) (part_blocks g.q g.k pass) ≡ b
          → Clears (if b then Write pass (x + 1) else (if nat_lt (pass + 1) (Smalls.passes (small g.q g.k)) then Read (pass + 1) 0 0 else Emit 0)) kept after
          → Holds (write_to (if b then Write pass (x + 1) else (if nat_lt (pass + 1) (Smalls.passes (small g.q g.k)) then Read (pass + 1) 0 0 else Emit 0))) after events new
      by_test true less clears = writes_next (less_so _ _ less) clears
      by_test false more clears = by_pass (nat_lt (pass + 1) (Smalls.passes (small g.q g.k))) (not_less _ _ more) refl clears
