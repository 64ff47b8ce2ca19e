-- A block of the result of a SELECT of rows in flight that is read back, and its rows emitted.
use Rattle.std.proofs.Common.{◌≡◌, inr, ◌<◌, ◌≤◌, ◌+◌, ◌-◌, ◌*◌, ◌==◌, ◌∷◌, ◌++◌, ℕ, zero, suc, Bool, true, false, not, List, [], refl, sym, ◌∙◌, ap, subst, arith, append_assoc}
use Rattle.std.specs.Prelude.{Some, length, nat_lt, if◌then◌else◌}
use Rattle.std.proofs.lemmas.Bool.Decides.{nat_tests}
use Rattle.std.proofs.lemmas.List.{append-nil, map-append}
use Rattle.ob_base.specs.declared.shown.Shown.{Shown}
use Rattle.ob_base.specs.Events.{Event, Leads, row_events}
use Rattle.ob_emit.specs.Emitting.{HasEmitted, block_shown, table_shown}
use Rattle.ob_emit.proofs.BlocksEmitted.{emitted_part}
use Rattle.ob_flat.specs.declared.flat.Flat.{Flat}
use Rattle.ob_flat.specs.Emission.{SlotsToHalt}
use Rattle.ob_flat.specs.Flats.{Represents}
use Rattle.ob_flat.proofs.Scanning.{may_scan_lasts}
use Rattle.ob_mean.specs.Prints.{Begun}
use Rattle.ob_row.specs.Slots.{Slots}
use Rattle.ob_select.specs.Selecting.{Selection, answer_events, shown_rows}
use Rattle.ob_small.specs.Selection as Smalls
use Rattle.ob_vault.specs.Calls.{Lasts, none}
use Rattle.ob_vault.specs.State.{World}
use Rattle.ob_vault.specs.Tied.{IsUnfit}
use Rattle.ob_vault.specs.Words.{IsHonest}
use Rattle.ob_stages.specs.declared.rows.Stage.{Stage}
use Rattle.ob_stages.specs.declared.rows.Stage.TheVariants.{Emit, Discard}
use Rattle.ob_stages.specs.RowsStates.{RowsAt, HasRegion, PlacedAt, after_emit, emits_before, is_over, is_passed, passes_pad, result_in, rows_skeleton, small}
use Rattle.ob_stages.specs.RowsHolds.{HasBegun, HasFilled, HasRead, HasShown, Holds, HoldsAt, IsCountOf, all_selected, events_if, head_of, is_shown, left_of}
use Rattle.ob_stages.specs.RowsLaws.{count_lasts, has_filled_lasts}
use Rattle.ob_stages.proofs.RowsGoing.{stepped}
use Rattle.ob_stages.proofs.RowsMeans.{events_meant, result_shown}
use Rattle.ob_stages.proofs.RowsPlaces.{less_so, not_less, placed_next, region_on}
use Rattle.ob_stages.proofs.RowsStands.{booked_next, recount, refilled}
use Rattle.ob_stages.proofs.RowsWay.{count_is, result_held}

-- ---- events
-- the header before the first block
head_then : (passed : Bool) (x : ℕ) (q : Selection) (rows more : List (List Shown)) → passed ≡ false → (x ≡ 0 → rows ≡ [])
    → events_if (is_shown passed x) q rows ++ (left_of (x == 0) q ++ row_events more) ≡ events_if true q (rows ++ more)
head_then true x q rows more unpassed none = absurd (cc unpassed)
head_then false zero q rows more unpassed none = ap (λ (l : List (List Shown)). events_if true q (l ++ more)) (sym (none refl))
head_then false (suc x) q rows more unpassed none =
    (λ i. events_if (lt_is x i) q rows ++ (left_of (eq_is x i) q ++ row_events more))
    ∙ append_assoc (head_of q) (row_events rows) (row_events more) ∙ ap (λ (l : List Event). head_of q ++ l) (sym (map-append _ rows more))
  where
    lt_is : (x : ℕ) → nat_lt 0 (suc x) ≡ true
    lt_is x = grind (arith, nat_tests)

    eq_is : (x : ℕ) → (suc x == 0) ≡ false
    eq_is x = grind (arith, nat_tests)

-- and before what of a block was emitted
head_now : (x : ℕ) (q : Selection) (rows : List (List Shown)) → (x ≡ 0 → rows ≡ []) → events_if (is_shown false x) q rows ++ left_of (x == 0) q ≡ head_of q ++ row_events rows
head_now x q rows none =
    ap (λ (l : List Event). events_if (is_shown false x) q rows ++ l) (sym (append-nil (left_of (x == 0) q)))
    ∙ head_then false x q rows [] refl none ∙ ap (events_if true q) (append-nil rows)

-- no row was emitted before the first block
none_before_first : (pack : ℕ) (fresh : Flat) (cols : List ℕ) (x k : ℕ) (rows : List (List Shown)) (w : World) → HasEmitted pack fresh cols x k rows w → x ≡ 0 → rows ≡ []
none_before_first pack fresh cols x k rows w is first = empty rows (omega (arith, is.count, is.most.0, ap (λ (n : ℕ). n * pack) first))
  where
    empty : (l : List (List Shown)) → length l ≡ 0 → l ≡ []
    empty [] nothing = refl
    empty (r ∷ l) nothing = absurd (omega (arith, nothing))

-- nothing more was emitted
pub leads_none : {E : Type 0} (grew : E → E → List Event → Type 0) (a b : E) → b ≡ a → Leads grew grew a b []
leads_none grew a b same = λ s events is. subst (λ (l : List Event). grew s b l) (sym (append-nil events)) (subst (λ (o : _). grew s o events) (sym same) is)

pub leads_both : {E : Type 0} (grew to : E → E → List Event → Type 0) (a b c : E) (x y : List Event) → Leads grew grew a b x → Leads grew to b c y → Leads grew to a c (x ++ y)
leads_both grew to a b c x y first second = λ s events is. subst (to s c) (append_assoc events x y) (second s (events ++ x) (first s events is))

module _ {E : Type 0} (grew cut : E → E → List Event → Type 0) (faults : E → ℕ)
    (g : RowsAt) (kept : List (List ℕ)) (events : List Event) (x own : ℕ) (old : World) (same : g.stage ≡ Emit x) (region : g.region ≡ Some own) (is : Holds g kept events old) where
  pub emit_at : HasRegion g (emits_before g.q g.k x) × (x < Smalls.results (small g.q g.k))
  emit_at = subst (λ (s : Stage). PlacedAt s g) same is.placed.at

  pub emit_held : IsCountOf g old (all_selected g) × HasShown g x events old
  emit_held = subst (λ (s : Stage). HoldsAt s g kept events old) same is.at

  pub shown : HasShown g x events old
  shown = emit_held.1

  own_is : shown.filled.own ≡ own
  own_is = cc (shown.filled.region, region)

  abbrev pub fresh : Flat
  fresh = result_in g.q g.k own

  pub emit_read : HasRead g own x shown.rows old
  emit_read = subst (λ (r : ℕ). HasRead g r x shown.rows old) own_is shown.read

  first_none : passes_pad g ≡ false → x ≡ 0 → shown.rows ≡ []
  first_none unpassed first = none_before_first g.q.public.pack (result_in g.q g.k own) g.q.cols x g.shown shown.rows old (emit_read.emitted unpassed) first

  events_now : passes_pad g ≡ false → events ++ left_of (x == 0) g.q ≡ head_of g.q ++ row_events shown.rows
  events_now unpassed =
      ap (λ (l : List Event). l ++ left_of (x == 0) g.q) (shown.is ∙ ap (λ (b : Bool). events_if (is_shown b x) g.q shown.rows) unpassed)
      ∙ head_now x g.q shown.rows (first_none unpassed)

  -- the slots of its result
  pub held_now : (slots : Slots) → Represents g.q.public.pack g.q.flat slots old → IsHonest old old → Represents g.q.public.pack (result_in g.q g.k own) (Smalls.result_slots (small g.q g.k) slots) old
  held_now slots held honest =
      subst (λ (r : ℕ). Represents g.q.public.pack (result_in g.q g.k r) (Smalls.result_slots (small g.q g.k) slots) old) own_is
      (result_held g (rows_skeleton g.select) is.placed.flown old slots held honest x events shown)

  meant_now : (slots : Slots) → Represents g.q.public.pack g.q.flat slots old → IsHonest old old → passes_pad g ≡ false
      → head_of g.q ++ row_events (table_shown g.q.cols (Smalls.result_slots (small g.q g.k) slots)) ≡ answer_events g.q slots
  meant_now slots held honest unpassed =
      let count = count_is g old (rows_skeleton g.select) is.placed.flown slots held honest.nolie emit_held.0 in
      ap (λ (l : List (List Shown)). events_if true g.q l) (result_shown g.q is.placed.flown.planner slots g.k count held.size unpassed)
      ∙ ap (λ (b : Bool). events_if (not b) g.q (shown_rows g.q slots)) (sym unpassed ∙ ap (is_passed g.q.public.pad) count)
      ∙ sym (events_meant g.q is.placed.flown.planner slots)

  -- a part of a block's rows is one of what is meant
  pub part_begun : (later : World) (part : List Event) (slots : Slots) → Represents g.q.public.pack g.q.flat slots old → IsHonest old old → IsUnfit later → passes_pad g ≡ false
      → ((s : SlotsToHalt g.q.public.pack (result_in g.q g.k own) old later) → (rest : List Event) × (part ++ rest ≡ row_events (block_shown g.q.public.pack (result_in g.q g.k own) g.q.cols x s.slots)))
      → Begun (events ++ (left_of (x == 0) g.q ++ part)) (answer_events g.q slots)
  part_begun later part slots held honest unfit unpassed told =
      let here : SlotsToHalt g.q.public.pack (result_in g.q g.k own) old later = record { slots = Smalls.result_slots (small g.q g.k) slots; is = held_now slots held honest; nolie = honest.nolie; unfit = unfit } in
      let behind = emitted_part g.q.public.pack (result_in g.q g.k own) g.q.cols x g.shown shown.rows old (emit_read.emitted unpassed) later emit_at.1 here part (told here) in (
        behind.0,
        ap (λ (l : List Event). l ++ behind.0) (sym (append_assoc events (left_of (x == 0) g.q) part) ∙ ap (λ (l : List Event). l ++ part) (events_now unpassed) ∙ append_assoc (head_of g.q) (row_events shown.rows) part)
            ∙ append_assoc (head_of g.q) (row_events shown.rows ++ part) behind.0
            ∙ ap (λ (l : List Event). head_of g.q ++ l) behind.1 ∙ meant_now slots held honest unpassed,
      )

  -- ---- a block went well
  emit_count : (new : World) → Lasts none old new → IsCountOf g new (all_selected g)
  emit_count new lasts = count_lasts g none old new lasts (λ s. s) (all_selected g) emit_held.0

  emit_filled : (new : World) → Lasts none old new → HasFilled g (Smalls.results (small g.q g.k)) new
  emit_filled new lasts = has_filled_lasts g none old new lasts (λ s. s) own region (λ s. s) (Smalls.results (small g.q g.k)) shown.filled

  abbrev pub emit_to : Stage → (n : ℕ) → RowsAt
  emit_to stage n = stepped g stage g.region g.k n (g.booked - 1) g.seen

  -- what was emitted by then stands after it
  shown_next : (n : ℕ) (more : List Event) (rows : List (List Shown)) (stage : Stage) (new : World) → Lasts none old new → (passes_pad g ≡ true → n ≡ 0)
      → events ++ more ≡ events_if (is_shown (passes_pad g) (x + 1)) g.q rows
      → (passes_pad g ≡ false → HasEmitted g.q.public.pack (result_in g.q g.k own) g.q.cols (x + 1) n rows new) → HasShown (emit_to stage n) (x + 1) (events ++ more) new
  shown_next n more rows stage new lasts passed is_events emitted =
      let filled = refilled g (emit_to stage n) _ _ new refl refl refl refl (emit_filled new lasts) in
      let mine : filled.own ≡ own = cc (filled.region, region) in
      record {
        rows = rows;
        is = is_events;
        passed = passed;
        filled = filled;
        read = subst (λ (r : ℕ). HasRead (emit_to stage n) r (x + 1) rows new) (sym mine)
            (record { may = may_scan_lasts g.q.public.pack (result_in g.q g.k own) none old new lasts (λ s. s) emit_read.may; emitted = emitted });
      }

  emits_on : (n : ℕ) (more : List Event) (new : World) → Lasts none old new → x + 1 < Smalls.results (small g.q g.k) → HasShown (emit_to (Emit (x + 1)) n) (x + 1) (events ++ more) new → Holds (emit_to (Emit (x + 1)) n) kept (events ++ more) new
  emits_on n more new lasts below next = record {
    ready = lasts.ready;
    placed = placed_next g is.placed (ap is_over same) (Emit (x + 1)) g.region g.k n (g.booked - 1) g.seen
        (region_on g (emits_before g.q g.k x) (emits_before g.q g.k (x + 1)) (Emit (x + 1)) n (g.booked - 1) emit_at.0 (omega arith), below) tt (booked_next g is.placed (Emit x) (Emit (x + 1)) same refl refl);
    table = may_scan_lasts g.q.public.pack g.q.flat none old new lasts (λ s. s) is.table;
    at = (recount g (emit_to (Emit (x + 1)) n) new refl refl (emit_count new lasts), next);
  }

  emits_last : (n : ℕ) (more : List Event) (new : World) → Lasts none old new → Smalls.results (small g.q g.k) ≤ x + 1 → HasShown (emit_to Discard n) (x + 1) (events ++ more) new → Holds (emit_to Discard n) kept (events ++ more) new
  emits_last n more new lasts last next =
      let all : x + 1 ≡ Smalls.results (small g.q g.k) = omega (arith, emit_at.1, last) in
      record {
        ready = lasts.ready;
        placed = placed_next g is.placed (ap is_over same) Discard g.region g.k n (g.booked - 1) g.seen
            (region_on g (emits_before g.q g.k x) (emits_before g.q g.k (Smalls.results (small g.q g.k))) Discard n (g.booked - 1) emit_at.0 (omega (arith, all))) tt (booked_next g is.placed (Emit x) Discard same refl refl);
        table = may_scan_lasts g.q.public.pack g.q.flat none old new lasts (λ s. s) is.table;
        at = (recount g (emit_to Discard n) new refl refl (emit_count new lasts), subst (λ (m : ℕ). HasShown (emit_to Discard n) m (events ++ more) new) all next);
      }

  pub holds_emitted : (n : ℕ) (more : List Event) (rows : List (List Shown)) (new : World) → Lasts none old new → (passes_pad g ≡ true → n ≡ 0)
      → events ++ more ≡ events_if (is_shown (passes_pad g) (x + 1)) g.q rows
      → (passes_pad g ≡ false → HasEmitted g.q.public.pack (result_in g.q g.k own) g.q.cols (x + 1) n rows new)
      → Holds (emit_to (after_emit g x) n) kept (events ++ more) new
  holds_emitted n more rows new lasts passed is_events emitted = by_test (nat_lt (x + 1) (Smalls.results (small g.q g.k))) refl
    where
      by_test : (b : Bool) → nat_lt (x + 1) (Smalls.results (small g.q g.k)) ≡ b → Holds (emit_to (if b then Emit (x + 1) else Discard) n) kept (events ++ more) new
      by_test true less = emits_on n more new lasts (less_so _ _ less) (shown_next n more rows (Emit (x + 1)) new lasts passed is_events emitted)
      by_test false last = emits_last n more new lasts (not_less _ _ last) (shown_next n more rows Discard new lasts passed is_events emitted)

  -- events after a block
  pub events_next : (more : List (List Shown)) → passes_pad g ≡ false → events ++ (left_of (x == 0) g.q ++ row_events more) ≡ events_if (is_shown (passes_pad g) (x + 1)) g.q (shown.rows ++ more)
  events_next more unpassed =
      ap (λ (l : List Event). l ++ (left_of (x == 0) g.q ++ row_events more)) (shown.is ∙ ap (λ (b : Bool). events_if (is_shown b x) g.q shown.rows) unpassed)
      ∙ head_then false x g.q shown.rows more refl (first_none unpassed)
      ∙ (λ i. events_if (sym (begun_next x) i) g.q (shown.rows ++ more)) ∙ ap (λ (b : Bool). events_if (is_shown b (x + 1)) g.q (shown.rows ++ more)) (sym unpassed)
    where
      begun_next : (x : ℕ) → is_shown false (x + 1) ≡ true
      begun_next x = grind (arith, nat_tests)

  pub events_passed : passes_pad g ≡ true → events ++ [] ≡ events_if (is_shown (passes_pad g) (x + 1)) g.q shown.rows
  events_passed passed =
      append-nil events ∙ shown.is ∙ ap (λ (b : Bool). events_if (is_shown b x) g.q shown.rows) passed
      ∙ sym (ap (λ (b : Bool). events_if (is_shown b (x + 1)) g.q shown.rows) passed)

  pub shape_next : (more : List (List Shown)) → passes_pad g ≡ false → HasBegun g.q (events ++ (left_of (x == 0) g.q ++ row_events more))
  shape_next more unpassed = inr (
    shown.rows ++ more,
    events_next more unpassed ∙ ap (λ (b : Bool). events_if (is_shown b (x + 1)) g.q (shown.rows ++ more)) unpassed ∙ (λ i. events_if (begun_next x i) g.q (shown.rows ++ more)),
  )
    where
      begun_next : (x : ℕ) → is_shown false (x + 1) ≡ true
      begun_next x = grind (arith, nat_tests)
