-- What is told of a selection, by what is told of its steps.
use Rattle.std.proofs.Common.{◌≡◌, ◌⊎◌, inl, inr, ◌≤◌, ℕ, Bool, IsTrue, ◌++◌, Option, None, Some, Ok, length, refl, sym, ◌∙◌, ap, subst, arith}
use Rattle.std.specs.Prelude.{map}
use Rattle.std.specs.Option.{option_map}
use Rattle.ob_base.specs.declared.config.Plan.{Plan}
use Rattle.ob_base.specs.declared.config.Plan.TheVariants.{Continuous, Hash}
use Rattle.ob_base.specs.declared.config.Planner.{Planner}
use Rattle.ob_base.specs.declared.config.Planner.TheVariants.{Auto, Cheapest, Forced}
use Rattle.ob_base.specs.declared.refusal.Refusal.{Refusal}
use Rattle.ob_base.specs.declared.refusal.Refusal.TheVariants.{Overflow}
use Rattle.ob_base.specs.Events.{row_events}
use Rattle.ob_base.specs.Plans.{choose}
use Rattle.ob_row.specs.Slots.{Slots, rows, is_consecutive}
use Rattle.ob_row.specs.Results.{result_slots, unplaced}
use Rattle.ob_row.specs.Totals.{printed}
use Rattle.ob_row.specs.Truth.{is_true}
use Rattle.ob_store.proofs.Steps as Stores
use Rattle.ob_vault.specs.State.{World}
use Rattle.ob_vault.specs.Calls.{Lasts, none, one}
use Rattle.ob_vault.proofs.Runs.{tells_went}
use Rattle.ob_flat.specs.declared.counting.Counted.{Counted}
use Rattle.ob_flat.specs.Counted.{CountsRows}
use Rattle.ob_flat.specs.Flats.{Represents}
use Rattle.ob_flat.proofs.Sinks.{none_before}
use Rattle.ob_flat.proofs.Tables.{represents_lasts}
use Rattle.ob_mean.specs.Verdict.{counted, bucket_size, fallback, first_unplaced, plan_for}
use Rattle.ob_verdict.specs.Laws.{result_plan}
use Rattle.ob_select.specs.declared.selecting.Selected.TheVariants.{Rows, Refused}
use Rattle.ob_select.specs.Selecting.{Selection, SelectsToEnd, SelectsToHalt, places, selected_as, emitted_unless, result_of, shown_rows, selection_answer, answer_events, selection_seen}
use Rattle.ob_select.specs.Results.{Planned, planned, PlannedToEnd, PlannedToHalt, Suits, left_out, held_slots, held_shown, held_events, held_answer, head_of}
use Rattle.ob_select.proofs.ResultRows.{left_hash}
use Rattle.ob_select.proofs.SelectRuns.{counts_of}
use Rattle.ob_select.proofs.SelectMeans.{Lasts as IsLast, seen_is_first, last_is_first, refuses_none, shown_some}

fallback_none : (planner : Planner) → fallback planner None ≡ None
fallback_none Auto = refl
fallback_none other = refl

-- rows are answered only where none was left out
pub rows_left : (o : Option ℕ) (n k : ℕ) → Rows n ≡ selected_as (option_map Overflow o) k → None ≡ o
rows_left None n k is = refl
rows_left (Some i) n k is = absurd (cc is)

pub refused_left : (o : Option ℕ) (why : Refusal) (k : ℕ) → Refused why ≡ selected_as (option_map Overflow o) k → (i : ℕ) × (o ≡ Some i)
refused_left None why k is = absurd (cc is)
refused_left (Some i) why k is = (i, refl)

pub none_or_some : (o : Option ℕ) → (None ≡ o) ⊎ ((i : ℕ) × (o ≡ Some i))
none_or_some None = inl refl
none_or_some (Some i) = inr (i, refl)

module _ (q : Selection) (k : ℕ) (c : Bool) (plan : Plan) (old mid : World) (is : CountsRows q.public.pack q.flat (is_true q.condition) (Ok (record { k = k; consecutive = c })) old mid) where
  abbrev pub r : Planned
  r = planned q plan k

  pub counted_is : (slots : Slots) → Represents q.public.pack q.flat slots old → mid.store.lie ≡ None → (k ≡ length (places q slots)) × (c ≡ is_consecutive (places q slots))
  counted_is slots held nolie = let told = is.told slots held nolie in (ap (λ (x : Counted). x.k) told, ap (λ (x : Counted). x.consecutive) told)

  pub held_mid : (slots : Slots) → Represents q.public.pack q.flat slots old → Represents q.public.pack q.flat slots mid
  held_mid slots held = represents_lasts q.public.pack q.flat none old mid is.ran.ok.lasts (λ none. none) slots held

  module _ (side : plan ≡ Continuous → IsTrue c) where
    pub suits_mid : (slots : Slots) → Represents q.public.pack q.flat slots old → mid.store.lie ≡ None → Suits r slots
    suits_mid slots held nolie = let are = counted_is slots held nolie in record { count = are.0; consecutive = λ same. subst (λ (b : Bool). IsTrue b) are.1 (side same) }

    module _ (g : ℕ) (new : World) (lasts : Lasts (one g) mid new) where
      abbrev pub end_back : SelectsToEnd q old new → PlannedToEnd r mid new
      end_back s =
          let nolie = Stores.none_before mid.store new.store lasts.later s.nolie in
          record { honest = record { tells = tells_went none (counts_of q) old mid is.ran.ok s.tells; nolie = s.nolie }; slots = s.slots; is = held_mid s.slots s.is; suits = suits_mid s.slots s.is nolie }

      abbrev pub halt_back : SelectsToHalt q old new → PlannedToHalt r mid new
      halt_back s =
          let nolie = none_before none (one g) (counts_of q) old mid new is.ran.ok lasts s.nolie s.unfit in
          record { tells = tells_went none (counts_of q) old mid is.ran.ok s.tells; slots = s.slots; is = held_mid s.slots s.is; suits = suits_mid s.slots s.is nolie; nolie = nolie; unfit = s.unfit }

    -- of slots that are counted so
    module _ (slots : Slots) (size : length slots ≡ q.flat.capacity) (suits : Suits r slots) (same : c ≡ is_consecutive (places q slots)) (least : 1 ≤ k)
        (chosen : plan ≡ choose q.public.planner q.public.pack q.public.buffer q.flat.capacity k c) (unpadded : q.public.pad ≡ None) where
      some : 1 ≤ length (places q slots)
      some = omega (arith, least, suits.count)

      pub is_plan : plan ≡ plan_for q.public (length slots) (places q slots)
      is_plan = chosen ∙ (λ i. choose q.public.planner q.public.pack q.public.buffer (sym size i) (suits.count i) (same i))

      unplaced_is : first_unplaced q.public (places q slots) ≡ unplaced k (bucket_size q.public) (places q slots)
      unplaced_is = ap (λ (n : ℕ). unplaced n (bucket_size q.public) (places q slots)) (sym suits.count)

      -- none was left out
      module _ (left : None ≡ left_out r slots) where
        room : plan ≡ Hash → first_unplaced q.public (places q slots) ≡ None
        room hashed = unplaced_is ∙ left_hash r slots plan left hashed

        is_last : IsLast q.public (places q slots) plan
        is_last = (suits.consecutive, λ hashed. ap (fallback q.public.planner) (room hashed) ∙ fallback_none q.public.planner)

        result_is : held_slots r slots ≡ result_of q slots
        result_is =
            let plans : plan ≡ result_plan q.public.pad q.public (length slots) (places q slots)
            = sym (last_is_first q.public (places q slots) (length slots) plan some is_plan unpadded is_last) ∙ sym (ap (λ (pad : Option ℕ). result_plan pad q.public (length slots) (places q slots)) unpadded) in
            λ i. result_slots (plans i) (suits.count i) (bucket_size q.public) (is_true q.condition) slots

        pub shown_is : held_shown r slots ≡ shown_rows q slots
        shown_is = ap (λ (l : Slots). map (printed q.cols) (rows l)) result_is ∙ sym (shown_some (places q slots) (map (printed q.cols) (rows (result_of q slots))) some)

        pub seen_last : counted k (Some plan) None Rattle.ob_base.specs.declared.seen.End.TheVariants.Whole ≡ selection_seen q slots
        seen_last = ap (λ (n : ℕ). counted n (Some plan) None Rattle.ob_base.specs.declared.seen.End.TheVariants.Whole) suits.count ∙ sym (seen_is_first q.public (places q slots) (length slots) plan some is_plan unpadded is_last)

        refusal_last : None ≡ Rattle.ob_mean.specs.Verdict.rows_refusal q.public (places q slots)
        refusal_last = sym (refuses_none q.public (places q slots) (length slots) plan some is_plan unpadded suits.consecutive room)

        pub answer_last : held_answer r slots ≡ selection_answer q slots
        answer_last = (λ i. selected_as (option_map Overflow (sym left i)) k) ∙ (λ i. selected_as (refusal_last i) (suits.count i))

        pub events_last : held_events r slots ≡ answer_events q slots
        events_last = (λ i. emitted_unless (option_map Overflow (sym left i)) (head_of q ++ row_events (held_shown r slots))) ∙ (λ i. emitted_unless (refusal_last i) (head_of q ++ row_events (shown_is i)))
