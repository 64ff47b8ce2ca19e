-- What a padded selection tells, by what is told of its steps.
use Rattle.std.proofs.Common.{◌≡◌, ◌⊎◌, inl, inr, ◌≤◌, ◌+◌, ◌-◌, ℕ, Bool, List, [], ◌∷◌, ◌++◌, append_assoc, append-nil, Option, None, Some, Result, Ok, Err, length, refl, sym, ◌∙◌, ap, subst, arith, length-append}
use Rattle.std.specs.Prelude.{is_some, IfErr, IfOk, MatchResult, map}
use Rattle.std.proofs.lemmas.List.{length-map}
use Rattle.ob_base.specs.declared.access.Access.{Access}
use Rattle.ob_base.specs.declared.config.Plan.{Plan}
use Rattle.ob_base.specs.declared.config.Plan.TheVariants.{Small, Large, Continuous, Hash}
use Rattle.ob_base.specs.declared.config.Planner.TheVariants.{Forced}
use Rattle.ob_base.specs.declared.refusal.Refusal.TheVariants as Refusals
use Rattle.ob_base.specs.declared.seen.Seen.{Seen}
use Rattle.ob_base.specs.declared.seen.End.TheVariants.{Whole}
use Rattle.ob_base.specs.declared.shown.Shown.{Shown}
use Rattle.ob_base.specs.Events.{Event, row_events}
use Rattle.ob_base.specs.Plans.{IsPadded, MayPad, choose_padded, padded_rows}
use Rattle.ob_room.specs.RoomState.{RoomState}
use Rattle.ob_row.specs.Slots.{Slots, rows}
use Rattle.ob_row.specs.Results.{result_slots}
use Rattle.ob_row.specs.Totals.{printed}
use Rattle.ob_row.specs.Truth.{is_true}
use Rattle.ob_script.specs.Script.{behind_count, extent_of}
use Rattle.ob_script.proofs.Lengths.{length-count_part}
use Rattle.ob_store.specs.State.{FalseRead}
use Rattle.ob_store.proofs.Steps as Stores
use Rattle.ob_vault.specs.State.{World}
use Rattle.ob_vault.specs.Tied.{ReadsIn, Ready}
use Rattle.ob_vault.specs.Calls.{Went, Lasts, none, one}
use Rattle.ob_vault.proofs.Runs.{went_spent, seals_join, tells_went}
use Rattle.ob_flat.specs.declared.fault.OpErr.{OpErr}
use Rattle.ob_flat.specs.declared.fault.OpErr.TheVariants.{Failed, Sink, NoMemory}
use Rattle.ob_flat.specs.Counted.{CountsRows}
use Rattle.ob_flat.specs.Passes.{is_of_access}
use Rattle.ob_flat.specs.Words.{PassRan}
use Rattle.ob_flat.proofs.Sinks.{none_before}
use Rattle.ob_flat.proofs.Tables.{blocks_few}
use Rattle.ob_flat.proofs.WordLemmas.{ran_lasts}
use Rattle.ob_mean.specs.Verdict.{bucket_size, ended as seen_to, padded_refusal, refusal_by, rows_refusal, seen_by}
use Rattle.ob_verdict.specs.Laws.{result_plan}
use Rattle.ob_select.specs.declared.selecting.Selected.{Selected}
use Rattle.ob_select.specs.declared.selecting.Selected.TheVariants.{Rows, Refused}
use Rattle.ob_select.specs.Settings.{IsFree}
use Rattle.ob_select.specs.Halting.{EmitsUntil}
use Rattle.ob_select.specs.Selecting.{Selection, MaySelect, SelectsFrom, SelectsToEnd, SelectsToHalt, EmitsSelected, EndsSelected, EndsPadded, places, selected_as, emitted_unless, shown_where, shown_rows, result_of, selection_seen, selection_answer, answer_events, selection_script, region_of, counted_after, padded_after, from}
use Rattle.ob_select.specs.Results.{Planned, IsPlanned, left_by, held_slots, PlannedToEnd, PlannedToHalt, SelectsBy, Suits, MayAnswer, padded_to, whole_part, held_shown, held_events, held_answer, head_of}
use Rattle.ob_select.proofs.ResultPadded.{may_choose, rows_of_padded}
use Rattle.ob_select.proofs.ResultParts.{buffered_some}
use Rattle.ob_select.proofs.ResultRows.{held_count}
use Rattle.ob_select.proofs.ResultSteps.{if_err_map}
use Rattle.ob_select.proofs.SelectLength.{result_length}
use Rattle.ob_select.proofs.SelectHeld.{nothing_held}
use Rattle.ob_select.proofs.ResultReads.{emitted_from}
use Rattle.ob_select.proofs.LieLemmas.{lie_before, ran_in, went_in}
use Rattle.ob_select.proofs.UntilLemmas.{until_from}
use Rattle.ob_select.proofs.SelectEnds.{count_some, on_err_of}
use Rattle.ob_select.proofs.SelectRuns.{counts_of, none_above, none_still, none_again, next_counted, place_in, not_empty, ran_first}
use Rattle.ob_select.proofs.SelectTold.{counted_is, held_mid}

-- a plan that may be taken for a padded result asks for no order of the rows
side_of : (plan : Plan) → MayPad (Forced plan) → plan ≡ Continuous → ⊥
side_of Small may is = cc is
side_of Large may is = cc is
side_of Continuous may is = absurd may
side_of Hash may is = absurd may

-- where none is selected, none is printed
shown_padded : (chosen : List ℕ) (shown : List (List Shown)) → length shown ≡ length chosen → shown ≡ shown_where chosen shown
shown_padded [] [] same = refl
shown_padded [] (x ∷ shown) same = absurd (omega (arith, same))
shown_padded (i ∷ is) shown same = refl

left_padded : (r : Planned) (plan : Plan) (slots : Slots) → MayPad (Forced plan) → None ≡ left_by r plan slots
left_padded r Small slots may = refl
left_padded r Large slots may = refl
left_padded r Continuous slots may = absurd may
left_padded r Hash slots may = absurd may

if_err_any : {T F : Type 0} (x : Result T F) → IfErr x (λ e. Unit {0})
if_err_any (Ok v) = tt
if_err_any (Err e) = tt

module _ (q : Selection) (pad : ℕ) (is_pad : q.public.pad ≡ Some pad) where
  -- ---- by the definitions
  seen_padded : (slots : Slots) → seen_to Whole ≡ selection_seen q slots
  seen_padded slots = sym (ap (λ (o : Option ℕ). seen_by o q.public (length slots) (places q slots)) is_pad)

  refusal_padded : (slots : Slots) → padded_refusal pad (places q slots) ≡ rows_refusal q.public (places q slots)
  refusal_padded slots = sym (ap (λ (o : Option ℕ). refusal_by o q.public (places q slots)) is_pad)

  script_padded : (seen : Seen) (g k : ℕ) → counts_of q ++ (whole_part (padded_to q pad k) g ++ []) ≡ selection_script q seen g
  script_padded seen g k = sym (ap (λ (o : Option ℕ). counts_of q ++ behind_count o q.public seen g (extent_of (region_of q)) []) is_pad)

  plan_padded : (slots : Slots) (k : ℕ) → length slots ≡ q.flat.capacity → (padded_to q pad k).plan ≡ result_plan q.public.pad q.public (length slots) (places q slots)
  plan_padded slots k size =
      ap (λ (n : ℕ). choose_padded q.public.planner q.public.pack q.public.buffer n (padded_rows pad n)) (sym size)
      ∙ sym (ap (λ (o : Option ℕ). result_plan o q.public (length slots) (places q slots)) is_pad)

  pub pad_some : IsPadded q.public.pad q.public.planner → (1 ≤ pad) × MayPad q.public.planner
  pad_some is = let all = subst (λ (o : Option ℕ). IsPadded o q.public.planner) is_pad is in (all.0, all.2)

  ends_padded : EndsPadded q (seen_to Whole)
  ends_padded = record { padded = ap is_some is_pad; nothing = refl }

  module _ (k : ℕ) (c : Bool) (old mid : World) (is : CountsRows q.public.pack q.flat (is_true q.condition) (Ok (record { k = k; consecutive = c })) old mid) (may_plan : MayPad q.public.planner) where
    abbrev r : Planned
    r = padded_to q pad k

    count : Went (counts_of q) none old mid
    count = is.ran.ok

    may_taken : MayPad (Forced r.plan)
    may_taken = may_choose q.public.planner q.public.pack q.public.buffer q.flat.capacity (padded_rows pad q.flat.capacity) may_plan

    suits : (slots : Slots) → k ≡ length (places q slots) → Suits r slots
    suits slots is = record { count = is; consecutive = λ same. absurd (side_of r.plan may_taken same) }

    shown_is : (slots : Slots) → length slots ≡ q.flat.capacity → k ≡ length (places q slots) → held_shown r slots ≡ shown_rows q slots
    shown_is slots size is =
        let result_is : held_slots r slots ≡ result_of q slots = λ i. result_slots (plan_padded slots k size i) (is i) (bucket_size q.public) (is_true q.condition) slots in
        let many = held_count r slots (suits slots is) (rows_of_padded r.plan k may_taken) (left_padded r r.plan slots may_taken) in
        ap (λ (l : Slots). map (printed q.cols) (rows l)) result_is
        ∙ shown_padded (places q slots) (map (printed q.cols) (rows (result_of q slots)))
        (length-map (rows (result_of q slots)) (printed q.cols) ∙ ap (λ (l : Slots). length (rows l)) (sym result_is) ∙ many ∙ is)

    answer_is : (slots : Slots) → k ≡ length (places q slots) → held_answer r slots ≡ selection_answer q slots
    answer_is slots is = λ i. selected_as (refusal_padded slots i) (is i)

    events_is : (slots : Slots) → length slots ≡ q.flat.capacity → k ≡ length (places q slots) → held_events r slots ≡ answer_events q slots
    events_is slots size is = λ i. emitted_unless (refusal_padded slots i) (head_of q ++ row_events (shown_is slots size is i))

    module _ (g : ℕ) (new : World) (lasts : Lasts (one g) mid new) where
      end_count : (s : SelectsToEnd q old new) → k ≡ length (places q s.slots)
      end_count s = (counted_is q k c Small old mid is s.slots s.is (Stores.none_before mid.store new.store lasts.later s.nolie)).0

      abbrev end_back : SelectsToEnd q old new → PlannedToEnd r mid new
      end_back s = record {
        honest = record { tells = tells_went none (counts_of q) old mid count s.tells; nolie = s.nolie };
        slots = s.slots;
        is = held_mid q k c Small old mid is s.slots s.is;
        suits = suits s.slots (end_count s);
      }

      halt_nolie : SelectsToHalt q old new → mid.store.lie ≡ None
      halt_nolie s = none_before none (one g) (counts_of q) old mid new count lasts s.nolie s.unfit

      halt_count : (s : SelectsToHalt q old new) → k ≡ length (places q s.slots)
      halt_count s = (counted_is q k c Small old mid is s.slots s.is (halt_nolie s)).0

      abbrev halt_back : SelectsToHalt q old new → PlannedToHalt r mid new
      halt_back s = record {
        tells = tells_went none (counts_of q) old mid count s.tells;
        slots = s.slots;
        is = held_mid q k c Small old mid is s.slots s.is;
        suits = suits s.slots (halt_count s);
        nolie = halt_nolie s;
        unfit = s.unfit;
      }

    module _ {E : Type 0} (grew cut : E → E → List Event → Type 0) (faults : E → ℕ) (new : World) (out_old out_new : E) where
      emitted_padded : (result : Result Selected OpErr) → SelectsBy grew cut faults r result mid new out_old out_new → IfOk result (λ a. EmitsSelected grew q a old new out_old out_new)
      emitted_padded (Ok (Rows n)) by =
          let lasts = by.ran.ok.lasts in
          emitted_from (end_back mid.vault.next new lasts) (λ s. shown_is s.slots s.is.size (end_count mid.vault.next new lasts s)) by.emitted
      emitted_padded (Ok (Refused why)) by = by.emitted
      emitted_padded (Err e) by = tt

      told_padded : (result : Result Selected OpErr) → SelectsBy grew cut faults r result mid new out_old out_new → (s : SelectsToEnd q old new)
          → MatchResult result (λ answer. (answer ≡ selection_answer q s.slots) × (seen_to Whole ≡ selection_seen q s.slots)) (λ e. (e ≡ Failed) ⊎ (e ≡ Sink) ⊎ (e ≡ NoMemory))
      told_padded (Ok answer) by s =
          let lasts = by.ran.ok.lasts in
          (by.told (end_back mid.vault.next new lasts s) ∙ answer_is s.slots (end_count mid.vault.next new lasts s), seen_padded s.slots)
      told_padded (Err e) by s = by.told (end_back mid.vault.next new by.ran.err.lasts s)

      halted_padded : (result : Result Selected OpErr) → SelectsBy grew cut faults r result mid new out_old out_new
          → IfErr result (λ e. EmitsUntil grew cut e (head_of q) (λ (s : SelectsToHalt q old new). answer_events q s.slots) out_old out_new)
      halted_padded (Ok answer) by = tt
      halted_padded (Err e) by =
          let lasts = by.ran.err.lasts in
          until_from grew cut (head_of q) e (λ s. held_events r s.slots) (λ s. answer_events q s.slots) out_old out_new (halt_back mid.vault.next new lasts)
          (λ s. inl (events_is s.slots s.is.size (halt_count mid.vault.next new lasts s))) by.halted

      ended_padded : (result : Result Selected OpErr) → IfOk result (MayAnswer r.plan (Some pad)) → IfOk result (λ a. EndsSelected q a (seen_to Whole))
      ended_padded (Ok (Rows n)) answers = inr ends_padded
      ended_padded (Ok (Refused Refusals.PadPassed)) answers = ends_padded
      ended_padded (Ok (Refused (Refusals.Overflow i))) answers = absurd (cc answers.1)
      ended_padded (Ok (Refused _)) answers = absurd answers
      ended_padded (Err e) answers = tt

    begun_padded : {T : Type 0} (ready : Ready old) (new : World) (result : Result T OpErr) → PassRan (whole_part r mid.vault.next) (one mid.vault.next) result mid new → (s : SelectsToEnd q old old)
        → mid.store.lie ≡ None → (lie : FalseRead) → new.store.lie ≡ Some lie → ReadsIn lie (old.store.asked ++ selection_script q (selection_seen q s.slots) old.vault.next)
    begun_padded ready new result ran s nolie lie told =
        let part = whole_part r old.vault.next ++ [] in
        subst (ReadsIn lie)
        (ap (λ (n : ℕ). mid.store.asked ++ (whole_part r n ++ [])) (next_counted q old mid ready count)
        ∙ ap (λ (l : List Access). l ++ part) count.did.asked ∙ append_assoc old.store.asked (counts_of q) part
        ∙ ap (λ (l : List Access). old.store.asked ++ l) (script_padded (selection_seen q s.slots) old.vault.next k))
        (ran_in result (whole_part r mid.vault.next) [] mid new lie ran nolie told)

    -- ---- the end
    pub end_padded : {E : Type 0} (grew cut : E → E → List Event → Type 0) (faults : E → ℕ) (room : RoomState) → MaySelect q room old → (result : Result Selected OpErr) (new : World) (out_old out_new : E)
        → SelectsBy grew cut faults r result mid new out_old out_new → SelectsFrom grew cut faults q result (seen_to Whole) old new out_old out_new
    end_padded grew cut faults room may result new out_old out_new by =
        let lasts = ran_lasts result by.ran in
        let same = next_counted q old mid may.ready count in
        let script = script_padded (seen_to Whole) old.vault.next k in
        record {
          ran = subst (λ (x : List Access). PassRan x (from old.vault.next) result old new) script (ran_first q old mid may.ready count result r new by.ran);
          gone = none_again old.vault.next mid.vault.next mid new lasts by.gone (none_still old.vault.next old mid count.lasts (none_above old may.ready));
          spare = by.spare;
          seals = λ good fine. seals_join good old mid new count.lasts.later (is.seals.seals good) (by.seals good fine);
          leaf = refl;
          holds = tt;
          ended = ended_padded grew cut faults new out_old out_new result by.may;
          reached = on_err_of result (record { count = λ some. absurd (cc some); walk = λ some. absurd (cc some) });
          memory = λ none.
              let m = by.memory none in
              record {
                done = counts_of q ++ m.done;
                rest = m.rest;
                split = append_assoc (counts_of q) m.done m.rest ∙ ap (λ (x : List Access). counts_of q ++ x) (m.split ∙ ap (λ (n : ℕ). whole_part r n) same ∙ sym (append-nil (whole_part r old.vault.next))) ∙ script;
                asked = m.asked ∙ ap (λ (x : List Access). x ++ m.done) count.did.asked ∙ append_assoc old.store.asked (counts_of q) m.done;
                some = not_empty (counts_of q ++ m.done) (omega (arith, count_some q room old may, length-count_part q.flat.region (counted_after q), length-append (counts_of q) m.done));
                place = place_in q.public (seen_to Whole) (counts_of q) m.done m.rest (inr (ap is_some is_pad)) (λ none. absurd (cc none)) m.place;
              };
          emitted = emitted_padded grew cut faults new out_old out_new result by;
          halted = halted_padded grew cut faults new out_old out_new result by;
          sink = by.sink;
          told = told_padded grew cut faults new out_old out_new result by;
          begun = λ s lie told. elim (lie_before mid.store new.store lie lasts.later told) [
            | inl nolie ↦ begun_padded may.ready new result by.ran s nolie lie told
            | inr early ↦ went_in (counts_of q) _ old mid lie count s.nolie early
          ];
          held = λ s. if_err_map result (λ e is. nothing_held q s.slots (is_of_access e) (length new.store.asked - length old.store.asked) (sym (seen_padded s.slots))) (if_err_any result);
        }

    -- what is asked
    pub planned_padded : (room : RoomState) → MaySelect q room old → (fresh : RoomState) → IsFree q.public fresh → IsPlanned r fresh mid
    planned_padded room may fresh free =
        let all = pad_some may.settings.padded in
        let pads = all.0 in
        record {
          settings = may.settings;
          free = free;
          ready = count.lasts.ready;
          few = omega (arith, may.few, went_spent none (counts_of q) old mid count, length-count_part q.flat.region (counted_after q), blocks_few q.public.pack q.flat.capacity may.settings.pack_least, may.size.most);
          flat = is.source;
          size = may.size;
          columns = may.columns;
          some = omega (arith, pads, may.size.least);
          most = omega arith;
        }

    pub spare_padded : (room : RoomState) → MaySelect q room old → q.ending + length (whole_part r mid.vault.next) ≤ mid.store.spare
    spare_padded room may =
        let kept = subst (λ (o : Option ℕ). counted_after q + padded_after o q + q.ending ≤ old.store.spare) is_pad may.spare in
        let long = result_length q.public may.settings.pack_least (buffered_some q.public may.settings) (Some r.plan) r.taken mid.vault.next 0 (region_of q) in
        omega (arith, kept, long, count.spare, length-count_part q.flat.region (counted_after q))
