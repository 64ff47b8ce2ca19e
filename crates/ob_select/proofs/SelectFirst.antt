-- What is told of a selection that its first plan ended.
use Rattle.std.proofs.Common.{◌≡◌, ◌≢◌, ◌⊎◌, inl, inr, ◌≤◌, ◌+◌, ◌-◌, ℕ, Bool, IsTrue, List, [], ◌++◌, append_assoc, Option, None, Some, Result, Ok, Err, length, refl, sym, ◌∙◌, ap, subst, arith}
use Rattle.std.specs.Prelude.{IsSome, IfErr, IfOk, MatchResult}
use Rattle.std.specs.Option.{option_map}
use Rattle.ob_base.specs.declared.config.Plan.{Plan}
use Rattle.ob_base.specs.declared.config.Plan.TheVariants.{Small, Large, Continuous, Hash}
use Rattle.ob_base.specs.declared.config.Planner.{Planner}
use Rattle.ob_base.specs.declared.config.Planner.TheVariants.{Auto, Cheapest, Forced}
use Rattle.ob_base.specs.declared.refusal.Refusal.{Refusal}
use Rattle.ob_base.specs.declared.refusal.Refusal.TheVariants.{Overflow}
use Rattle.ob_base.specs.declared.access.Access.{Access}
use Rattle.ob_base.specs.declared.seen.Seen.{Seen}
use Rattle.ob_base.specs.declared.seen.End.TheVariants.{Whole}
use Rattle.ob_base.specs.Events.{Event, row_events}
use Rattle.ob_base.specs.Plans.{choose}
use Rattle.ob_base.proofs.PlanLemmas.{forced_hash}
use Rattle.ob_row.specs.Slots.{Slots, is_consecutive}
use Rattle.ob_row.specs.Truth.{is_true}
use Rattle.ob_store.specs.State.{FalseRead}
use Rattle.ob_vault.specs.State.{World}
use Rattle.ob_vault.specs.Tied.{ReadsIn, Ready}
use Rattle.ob_vault.specs.Calls.{one}
use Rattle.ob_flat.specs.Words.{PassRan}
use Rattle.ob_flat.specs.declared.fault.OpErr.{OpErr}
use Rattle.ob_flat.specs.declared.fault.OpErr.TheVariants.{Failed, Sink, NoMemory}
use Rattle.ob_flat.specs.Counted.{CountsRows}
use Rattle.ob_mean.specs.Verdict.{counted, bucket_size, fallback, first_unplaced}
use Rattle.ob_flat.specs.Passes.{is_of_access}
use Rattle.ob_select.specs.declared.selecting.Selected.{Selected}
use Rattle.ob_select.specs.declared.selecting.Selected.TheVariants.{Rows, Refused}
use Rattle.ob_select.specs.Selecting.{Selection, HoldsSeen, counted_after, SelectsToEnd, SelectsToHalt, EmitsSelected, places, selected_as, emitted_unless, selection_answer, answer_events, selection_seen, selection_script}
use Rattle.ob_select.specs.Results.{Planned, planned, SelectsBy, left_out, whole_part, left_by, held_shown, held_events, head_of}
use Rattle.ob_select.proofs.ResultReads.{emitted_from}
use Rattle.ob_select.specs.Settings.{AreSettings}
use Rattle.ob_select.proofs.ResultParts.{length_hash}
use Rattle.ob_select.proofs.ResultSteps.{began-few}
use Rattle.ob_select.proofs.SelectHeld.{counted_held, walking_held, walked_hash, done_behind, done_within}
use Rattle.ob_select.proofs.SelectMeans.{seen_is_first, seen_second, refuses_forced}
use Rattle.ob_select.proofs.UntilLemmas.{until_from}
use Rattle.ob_select.specs.Halting.{EmitsUntil}
use Rattle.ob_select.proofs.LieLemmas.{ran_in}
use Rattle.ob_select.proofs.SelectRuns.{counts_of, script_is, next_counted}
use Rattle.ob_select.proofs.SelectTold.{suits_mid, rows_left, refused_left, none_or_some, counted_is, end_back, halt_back, is_plan, shown_is, seen_last, answer_last, events_last}

-- what may be answered at last where a plan was taken first
abbrev pub IsFinal : Selection → Selected → Type 0
IsFinal q (Rows n) = Unit {0}
IsFinal q (Refused why) = q.public.planner ≢ Auto

left_hashed : (r : Planned) (plan : Plan) (slots : Slots) (i : ℕ) → left_by r plan slots ≡ Some i → plan ≡ Hash
left_hashed r Hash slots i is = refl
left_hashed r other slots i is = absurd (cc is)

left_place : (r : Planned) (plan : Plan) (slots : Slots) (i : ℕ) → left_by r plan slots ≡ Some i → Rattle.ob_row.specs.Results.unplaced r.k (bucket_size r.selection.public) (places r.selection slots) ≡ Some i
left_place r Hash slots i is = is
left_place r other slots i is = absurd (cc is)

fallback_other : (planner : Planner) (left : Option ℕ) → planner ≢ Auto → fallback planner left ≡ None
fallback_other Auto left other = absurd (other refl)
fallback_other Cheapest left other = refl
fallback_other (Forced plan) left other = refl

module _ (q : Selection) (k : ℕ) (c : Bool) (plan : Plan) (old mid : World) (is : CountsRows q.public.pack q.flat (is_true q.condition) (Ok (record { k = k; consecutive = c })) old mid)
    (side : plan ≡ Continuous → IsTrue c) (least : 1 ≤ k) (chosen : plan ≡ choose q.public.planner q.public.pack q.public.buffer q.flat.capacity k c) (unpadded : q.public.pad ≡ None) where
  -- whatever is left out, k and the plan are seen
  module _ (mid_slots : Slots) (size : length mid_slots ≡ q.flat.capacity) (suits : Rattle.ob_select.specs.Results.Suits (planned q plan k) mid_slots) (same : c ≡ is_consecutive (places q mid_slots)) where
    some : 1 ≤ length (places q mid_slots)
    some = omega (arith, least, suits.count)

    planned_so : plan ≡ Rattle.ob_mean.specs.Verdict.plan_for q.public (length mid_slots) (places q mid_slots)
    planned_so = is_plan q k c plan old mid is side mid_slots size suits same least chosen unpadded

    placed_so : (i : ℕ) → left_out (planned q plan k) mid_slots ≡ Some i → first_unplaced q.public (places q mid_slots) ≡ Some i
    placed_so i left = ap (λ (n : ℕ). Rattle.ob_row.specs.Results.unplaced n (bucket_size q.public) (places q mid_slots)) (sym suits.count) ∙ left_place (planned q plan k) plan mid_slots i left

    other_seen : q.public.planner ≢ Auto → counted k (Some plan) None Whole ≡ selection_seen q mid_slots
    other_seen other = ap (λ (n : ℕ). counted n (Some plan) None Whole) suits.count
        ∙ sym (seen_is_first q.public (places q mid_slots) (length mid_slots) plan some planned_so unpadded (suits.consecutive, λ hashed. fallback_other q.public.planner _ other))

    other_answer : (i : ℕ) → left_out (planned q plan k) mid_slots ≡ Some i → q.public.planner ≢ Auto → Refused (Overflow i) ≡ selection_answer q mid_slots
    other_answer i left other =
        let hashed = left_hashed (planned q plan k) plan mid_slots i left in
        let refuses = refuses_forced q.public (places q mid_slots) (length mid_slots) plan some planned_so unpadded i (forced_hash plan q.public.planner q.public.pack q.public.buffer q.flat.capacity k c chosen hashed other) (placed_so i left) in
        sym (ap (λ (o : Option Refusal). selected_as o (length (places q mid_slots))) refuses)

    -- what is seen of it
    pub seen_cases : (selection_seen q mid_slots ≡ counted k (Some plan) None Whole) ⊎ ((plan ≡ Hash) × IsSome (left_out (planned q plan k) mid_slots) × (selection_seen q mid_slots ≡ counted k (Some Hash) (Some Small) Whole))
    seen_cases = elim (none_or_some (left_out (planned q plan k) mid_slots)) [
      | inl none ↦ inl (sym (seen_last q k c plan old mid is side mid_slots size suits same least chosen unpadded none))
      | inr left ↦ by_planner q.public.planner refl left.0 left.1
    ]
      where
        by_planner : (planner : Planner) → q.public.planner ≡ planner → (i : ℕ) → left_out (planned q plan k) mid_slots ≡ Some i
            → (selection_seen q mid_slots ≡ counted k (Some plan) None Whole) ⊎ ((plan ≡ Hash) × IsSome (left_out (planned q plan k) mid_slots) × (selection_seen q mid_slots ≡ counted k (Some Hash) (Some Small) Whole))
        by_planner (Forced taken) is_it i left = inl (sym (other_seen (λ auto. cc (sym is_it ∙ auto))))
        by_planner Cheapest is_it i left = inl (sym (other_seen (λ auto. cc (sym is_it ∙ auto))))
        by_planner Auto is_it i left =
            let hashed = left_hashed (planned q plan k) plan mid_slots i left in
            inr (
              hashed,
              ap Rattle.std.specs.Prelude.is_some left,
              seen_second q.public (places q mid_slots) (length mid_slots) plan some planned_so unpadded i hashed is_it (placed_so i left) ∙ ap (λ (n : ℕ). counted n (Some Hash) (Some Small) Whole) (sym suits.count),
            )

  -- the accesses of these slots begin with those of the count and of the first plan
  first_script : (slots : Slots) → length slots ≡ q.flat.capacity → Rattle.ob_select.specs.Results.Suits (planned q plan k) slots → c ≡ is_consecutive (places q slots)
      → (more : List Access) × (selection_script q (selection_seen q slots) old.vault.next ≡ counts_of q ++ (whole_part (planned q plan k) old.vault.next ++ more))
  first_script slots size suits same = elim (seen_cases slots size suits same) [
    | inl seen ↦ ([], ap (λ (x : Seen). selection_script q x old.vault.next) seen ∙ script_is q (counted k (Some plan) None Whole) old.vault.next unpadded)
    | inr both ↦ (
      whole_part (planned q Small k) (old.vault.next + 1) ++ [],
      ap (λ (x : Seen). selection_script q x old.vault.next) both.2 ∙ script_is q (counted k (Some Hash) (Some Small) Whole) old.vault.next unpadded
          ∙ ap (λ (p : Plan). counts_of q ++ (whole_part (planned q p k) old.vault.next ++ (whole_part (planned q Small k) (old.vault.next + 1) ++ []))) (sym both.0),
    )
  ]

  pub first_begun : {T : Type 0} (ready : Ready old) (new : World) (result : Result T OpErr) → PassRan (whole_part (planned q plan k) mid.vault.next) (one mid.vault.next) result mid new → (s : SelectsToEnd q old old)
      → mid.store.lie ≡ None → (lie : FalseRead) → new.store.lie ≡ Some lie → ReadsIn lie (old.store.asked ++ selection_script q (selection_seen q s.slots) old.vault.next)
  first_begun ready new result ran s nolie lie told =
      let are = counted_is q k c plan old mid is s.slots s.is nolie in
      let script = first_script s.slots s.is.size (suits_mid q k c plan old mid is side s.slots s.is nolie) are.1 in
      let part = whole_part (planned q plan k) old.vault.next ++ script.0 in
      subst (ReadsIn lie)
      (ap (λ (n : ℕ). mid.store.asked ++ (whole_part (planned q plan k) n ++ script.0)) (next_counted q old mid ready is.ran.ok)
      ∙ ap (λ (l : List Access). l ++ part) is.ran.ok.did.asked ∙ append_assoc old.store.asked (counts_of q) part ∙ ap (λ (l : List Access). old.store.asked ++ l) (sym script.1))
      (ran_in result (whole_part (planned q plan k) mid.vault.next) script.0 mid new lie ran nolie told)

  module _ {E : Type 0} (grew cut : E → E → List Event → Type 0) (faults : E → ℕ) (new : World) (out_old out_new : E) where
    pub first_emitted : (result : Result Selected OpErr) → SelectsBy grew cut faults (planned q plan k) result mid new out_old out_new → IfOk result (λ a. EmitsSelected grew q a old new out_old out_new)
    first_emitted (Ok (Rows n)) by =
        let back = end_back q k c plan old mid is side mid.vault.next new by.ran.ok.lasts in
        emitted_from back (λ s. shown_is q k c plan old mid is side s.slots s.is.size (back s).suits (counted_is q k c plan old mid is s.slots s.is (nolie s)).1 least chosen unpadded (rows_left _ n k (by.told (back s)))) by.emitted
      where
        nolie : SelectsToEnd q old new → mid.store.lie ≡ None
        nolie s = Rattle.ob_store.proofs.Steps.none_before mid.store new.store by.ran.ok.lasts.later s.nolie
    first_emitted (Ok (Refused why)) by = by.emitted
    first_emitted (Err e) by = tt

    pub first_told : (result : Result Selected OpErr) → IfOk result (IsFinal q) → SelectsBy grew cut faults (planned q plan k) result mid new out_old out_new → (s : SelectsToEnd q old new)
        → MatchResult result (λ answer. (answer ≡ selection_answer q s.slots) × (counted k (Some plan) None Whole ≡ selection_seen q s.slots)) (λ e. (e ≡ Failed) ⊎ (e ≡ Sink) ⊎ (e ≡ NoMemory))
    first_told (Ok (Rows n)) last by s =
        let back = end_back q k c plan old mid is side mid.vault.next new by.ran.ok.lasts in
        let nolie = Rattle.ob_store.proofs.Steps.none_before mid.store new.store by.ran.ok.lasts.later s.nolie in
        let same = (counted_is q k c plan old mid is s.slots s.is nolie).1 in
        let left = rows_left _ n k (by.told (back s)) in (
          by.told (back s) ∙ answer_last q k c plan old mid is side s.slots s.is.size (back s).suits same least chosen unpadded left,
          seen_last q k c plan old mid is side s.slots s.is.size (back s).suits same least chosen unpadded left,
        )
    first_told (Ok (Refused why)) last by s =
        let back = end_back q k c plan old mid is side mid.vault.next new by.ran.ok.lasts in
        let nolie = Rattle.ob_store.proofs.Steps.none_before mid.store new.store by.ran.ok.lasts.later s.nolie in
        let same = (counted_is q k c plan old mid is s.slots s.is nolie).1 in
        let left = refused_left _ why k (by.told (back s)) in (
          by.told (back s) ∙ ap (λ (o : Option ℕ). selected_as (option_map Overflow o) k) left.1 ∙ other_answer s.slots s.is.size (back s).suits same left.0 left.1 last,
          other_seen s.slots s.is.size (back s).suits same last,
        )
    first_told (Err e) last by s = by.told (end_back q k c plan old mid is side mid.vault.next new by.ran.err.lasts s)

    halt_nolie : (e : OpErr) → SelectsBy grew cut faults (planned q plan k) (Err e) mid new out_old out_new → SelectsToHalt q old new → mid.store.lie ≡ None
    halt_nolie e by s = (halt_back q k c plan old mid is side mid.vault.next new by.ran.err.lasts s).nolie

    -- what was emitted of it is a first part of the answer
    part : (e : OpErr) (by : SelectsBy grew cut faults (planned q plan k) (Err e) mid new out_old out_new) (s : SelectsToHalt q old new)
        → (held_events (planned q plan k) s.slots ≡ answer_events q s.slots) ⊎ (held_events (planned q plan k) s.slots ≡ [])
    part e by s =
        let back = halt_back q k c plan old mid is side mid.vault.next new by.ran.err.lasts in
        elim (none_or_some (left_out (planned q plan k) s.slots)) [
          | inl none ↦ inl (events_last q k c plan old mid is side s.slots s.is.size (back s).suits (counted_is q k c plan old mid is s.slots s.is (back s).nolie).1 least chosen unpadded none)
          | inr left ↦ inr (ap (λ (o : Option ℕ). emitted_unless (option_map Overflow o) (head_of q ++ row_events (held_shown (planned q plan k) s.slots))) left.1)
        ]

    pub first_halted : (result : Result Selected OpErr) → SelectsBy grew cut faults (planned q plan k) result mid new out_old out_new
        → IfErr result (λ e. EmitsUntil grew cut e (head_of q) (λ (s : SelectsToHalt q old new). answer_events q s.slots) out_old out_new)
    first_halted (Ok answer) by = tt
    first_halted (Err e) by =
        until_from grew cut (head_of q) e (λ s. held_events (planned q plan k) s.slots) (λ s. answer_events q s.slots) out_old out_new (halt_back q k c plan old mid is side mid.vault.next new by.ran.err.lasts) (part e by) by.halted

    pub first_held : AreSettings q.public → length mid.store.asked ≡ length old.store.asked + counted_after q → 1 ≤ counted_after q → (result : Result Selected OpErr)
        → SelectsBy grew cut faults (planned q plan k) result mid new out_old out_new → (s : SelectsToHalt q old new)
        → IfErr result (λ e. HoldsSeen q s.slots (is_of_access e) (length new.store.asked - length old.store.asked) (counted k (Some plan) None Whole))
    first_held settings long counts (Ok answer) by s = tt
    first_held settings long counts (Err e) by s =
        let back = halt_back q k c plan old mid is side mid.vault.next new by.ran.err.lasts in
        let n = length new.store.asked - length old.store.asked in
        let more = (began-few _ mid new by.ran.err.began).1 in
        let enough = done_behind e n (counted_after q) (omega (arith, long, more)) (λ access. omega (arith, long, by.some access)) in
        elim (seen_cases s.slots s.is.size (back s).suits (counted_is q k c plan old mid is s.slots s.is (back s).nolie).1) [
          | inl seen ↦ counted_held q s.slots k (Some plan) (is_of_access e) n seen enough
          | inr both ↦
              let within = done_within e (counted_after q) (length new.store.asked - length mid.store.asked) n (length (whole_part (planned q plan k) mid.vault.next)) (omega (arith, long, more)) counts (by.before (back s) both.1) in
              let size : length (whole_part (planned q plan k) mid.vault.next) ≡ length (whole_part (planned q Hash k) 0)
              = ap (λ (x : Plan). length (whole_part (planned q x k) mid.vault.next)) both.0 ∙ length_hash q k mid.vault.next settings ∙ sym (length_hash q k 0 settings) in
              subst (λ (x : Plan). HoldsSeen q s.slots (is_of_access e) n (counted k (Some x) None Whole)) (sym both.0)
              (walking_held q s.slots k (is_of_access e) n both.2 enough (omega (arith, within, size, walked_hash q k settings unpadded)))
        ]
