-- What a SELECT of rows in flight means, whose plan is always Small.
use Rattle.std.proofs.Common.{◌≡◌, ◌≤◌, ◌++◌, ℕ, suc, Bool, true, false, not, List, [], ◌∷◌, refl, sym, ◌∙◌, ap, subst, arith}
use Rattle.std.specs.Prelude.{Option, Some, None, length, map, nat_lt, if◌then◌else◌}
use Rattle.std.proofs.lemmas.List.{length-map}
use Rattle.std.proofs.lemmas.Bool.Decides.{nat_tests}
use Rattle.ob_base.specs.Lists.{places_from}
use Rattle.ob_base.specs.declared.config.Plan.{Plan}
use Rattle.ob_base.specs.declared.config.Plan.TheVariants.{Small}
use Rattle.ob_base.specs.declared.config.Planner.{Planner}
use Rattle.ob_base.specs.declared.config.Planner.TheVariants.{Forced}
use Rattle.ob_base.specs.declared.config.Public.{Public}
use Rattle.ob_base.specs.declared.refusal.Refusal.{Refusal}
use Rattle.ob_base.specs.declared.refusal.Refusal.TheVariants.{PadPassed}
use Rattle.ob_base.specs.declared.shown.Shown.{Shown}
use Rattle.ob_base.specs.Events.{row_events}
use Rattle.ob_base.specs.Plans.{choose, choose_padded, padded_rows}
use Rattle.ob_emit.specs.Emitting.{table_shown}
use Rattle.ob_mean.specs.Verdict.{bucket_size, forced_refusal, plan_for, refusal_by, rows_refusal, seen_by, seen_with}
use Rattle.ob_row.specs.Results as Results
use Rattle.ob_row.specs.Rows.{Row}
use Rattle.ob_row.specs.Slots.{Slots, is_consecutive, is_selected, rows, slot_at, small_slots}
use Rattle.ob_row.specs.Totals.{printed}
use Rattle.ob_row.specs.Truth.{is_true}
use Rattle.ob_select.specs.Selecting.{Selection, answer_events, emitted_unless, places, result_of, selection_seen, shown_rows, shown_where}
use Rattle.ob_select.proofs.ResultRows.{length-chosen, rows-fitted}
use Rattle.ob_verdict.proofs.ResultLemmas.{rows-small_slots}
use Rattle.ob_small.specs.Keeping.{chosen}
use Rattle.ob_small.specs.Selection as Smalls
use Rattle.ob_small.proofs.Choosing.{filter-small}
use Rattle.ob_verdict.specs.Laws.{last_plan, result_plan}
use Rattle.ob_stages.specs.RowsStates.{is_passed, small, taken, taken_by}
use Rattle.ob_stages.specs.RowsHolds.{answered_by, events_if, head_of, meant_outcome, outcome_of, seen_ended}

-- no more places than elements
places_few : {A : Type 0} (test : A → Bool) (n : ℕ) (xs : List A) → length (places_from n test xs) ≤ length xs
places_few test n [] = omega arith
places_few test n (x ∷ xs) =
    let rest = places_few test (suc n) xs in
    elim (test x) as (λ b. length (if b then n ∷ places_from (suc n) test xs else places_from (suc n) test xs) ≤ suc (length xs)) [ true ↦ omega (arith, rest) | false ↦ omega (arith, rest) ]

-- as many slots are selected as have places
pub count_places : (q : Selection) (slots : Slots) → length (chosen (is_true q.condition) slots) ≡ length (places q slots)
count_places q slots =
    ap (λ (l : Slots). length l) (filter-small (is_true q.condition) slots) ∙ length-map (places q slots) (slot_at slots)

module _ (p : Public) (small_only : p.planner ≡ Forced Small) where
  plan_is : (n : ℕ) (chosen_at : List ℕ) → plan_for p n chosen_at ≡ Small
  plan_is n chosen_at = ap (λ (planner : Planner). choose planner p.pack p.buffer n (length chosen_at) (is_consecutive chosen_at)) small_only

  seen_is : (pad : Option ℕ) (n : ℕ) (chosen_at : List ℕ) → seen_by pad p n chosen_at ≡ seen_ended pad (length chosen_at)
  seen_is None n [] = refl
  seen_is None n (i ∷ is) = ap (λ (plan : Plan). seen_with p plan (i ∷ is)) (plan_is n (i ∷ is))
  seen_is (Some pad) n chosen_at = refl

  -- more rows than results are padded to are refused, and no others
  abbrev pub refused_if : Bool → Option Refusal
  refused_if true = Some PadPassed
  refused_if false = None

  if_refused : (b : Bool) → (if b then Some PadPassed else None) ≡ refused_if b
  if_refused true = refl
  if_refused false = refl

  refusal_is : (pad : Option ℕ) (chosen_at : List ℕ) → refusal_by pad p chosen_at ≡ refused_if (is_passed pad (length chosen_at))
  refusal_is None [] = refl
  refusal_is None (i ∷ is) = ap (λ (planner : Planner). forced_refusal p planner (i ∷ is)) small_only
  refusal_is (Some pad) chosen_at = if_refused (nat_lt pad (length chosen_at))

  result_plan_is : (pad : Option ℕ) (n : ℕ) (chosen_at : List ℕ) → result_plan pad p n chosen_at ≡ Small
  result_plan_is None n chosen_at = ap (λ (plan : Plan). last_plan p plan chosen_at) (plan_is n chosen_at)
  result_plan_is (Some pad) n chosen_at = ap (λ (planner : Planner). choose_padded planner p.pack p.buffer n (padded_rows pad n)) small_only

module _ (q : Selection) (small_only : q.public.planner ≡ Forced Small) (slots : Slots) where
  abbrev pub count_of : ℕ
  count_of = length (places q slots)

  abbrev pub passes : Bool
  passes = is_passed q.public.pad count_of

  pub seen_meant : selection_seen q slots ≡ seen_ended q.public.pad count_of
  seen_meant = seen_is q.public small_only q.public.pad (length slots) (places q slots)

  refusal_meant : rows_refusal q.public (places q slots) ≡ refused_if q.public small_only passes
  refusal_meant = refusal_is q.public small_only q.public.pad (places q slots)

  answered : (b : Bool) → answered_by (refused_if q.public small_only b) count_of ≡ outcome_of b count_of
  answered true = refl
  answered false = refl

  pub outcome_meant : meant_outcome q slots ≡ outcome_of passes count_of
  outcome_meant = ap (λ (r : Option Refusal). answered_by r count_of) refusal_meant ∙ answered passes

  result_meant : result_of q slots ≡ small_slots (is_true q.condition) slots
  result_meant =
      ap (λ (plan : Plan). Results.result_slots plan count_of (bucket_size q.public) (is_true q.condition) slots)
      (result_plan_is q.public small_only q.public.pad (length slots) (places q slots))

  shown_all : (at : List ℕ) → shown_where at (map (printed q.cols) (rows (map (slot_at slots) at))) ≡ map (printed q.cols) (rows (map (slot_at slots) at))
  shown_all [] = refl
  shown_all (i ∷ is) = refl

  pub shown_meant : shown_rows q slots ≡ table_shown q.cols (small_slots (is_true q.condition) slots)
  shown_meant = ap (λ (l : Slots). shown_where (places q slots) (map (printed q.cols) (rows l))) result_meant ∙ shown_all (places q slots)

  emitted_by : (b : Bool) → emitted_unless (refused_if q.public small_only b) (head_of q ++ row_events (shown_rows q slots)) ≡ events_if (not b) q (shown_rows q slots)
  emitted_by true = refl
  emitted_by false = refl

  pub events_meant : answer_events q slots ≡ events_if (not passes) q (shown_rows q slots)
  events_meant = ap (λ (r : Option Refusal). emitted_unless r (head_of q ++ row_events (shown_rows q slots))) refusal_meant ∙ emitted_by passes

  -- as many rows as its result takes, or fewer
  count_few : (pad : Option ℕ) (k : ℕ) → k ≡ count_of → is_passed pad k ≡ false → length (small_slots (is_true q.condition) slots) ≤ taken_by pad (length slots) k
  count_few None k same unpassed = omega (arith, same, length-map (places q slots) (slot_at slots))
  count_few (Some pad) k same unpassed =
      let all = length-map (places q slots) (slot_at slots) in
      omega (arith, same, all, not_less pad k unpassed, within)
    where
      not_less : (a b : ℕ) → nat_lt a b ≡ false → b ≤ a
      not_less a b is = grind (arith, nat_tests)

      within : length (places q slots) ≤ length slots
      within = places_few (is_selected (is_true q.condition)) 0 slots

  -- the rows of its result are those that are meant
  pub result_shown : (k : ℕ) → k ≡ count_of → length slots ≡ q.flat.capacity → is_passed q.public.pad k ≡ false
      → table_shown q.cols (Smalls.result_slots (small q k) slots) ≡ shown_rows q slots
  result_shown k same size unpassed =
      let few = subst (λ (n : ℕ). length (small_slots (is_true q.condition) slots) ≤ taken_by q.public.pad n k) size (count_few q.public.pad k same unpassed) in
      ap (map (printed q.cols)) (rows-fitted (taken q k) (small_slots (is_true q.condition) slots) few) ∙ sym shown_meant

  -- as many as are selected
  pub shown_count : length (shown_rows q slots) ≡ count_of
  shown_count =
      ap (λ (l : List (List Shown)). length l) shown_meant ∙ length-map (rows (small_slots (is_true q.condition) slots)) (printed q.cols)
      ∙ ap (λ (l : List Row). length l) (rows-small_slots (is_true q.condition) slots) ∙ sym (length-chosen (is_true q.condition) 0 slots)
