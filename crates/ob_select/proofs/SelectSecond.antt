-- What is told of a selection where Small took the place of a Hash.
use Rattle.std.proofs.Common.{◌≡◌, ◌⊎◌, inl, ◌≤◌, ◌+◌, ◌-◌, ℕ, Bool, IsTrue, List, [], ◌++◌, append_assoc, Option, None, Some, Result, Ok, Err, length, refl, sym, ◌∙◌, ap, subst, arith}
use Rattle.std.specs.Prelude.{IfErr, IfOk, MatchResult, map}
use Rattle.ob_base.specs.declared.config.Plan.TheVariants.{Small, Hash}
use Rattle.ob_base.specs.declared.config.Planner.TheVariants.{Auto}
use Rattle.ob_base.specs.declared.refusal.Refusal.TheVariants.{Overflow}
use Rattle.ob_base.specs.declared.access.Access.{Access}
use Rattle.ob_base.specs.declared.seen.Seen.{Seen}
use Rattle.ob_base.specs.declared.seen.End.TheVariants.{Whole}
use Rattle.ob_base.specs.Events.{Event, row_events}
use Rattle.ob_base.specs.Plans.{choose}
use Rattle.ob_row.specs.Slots.{Slots, rows, is_consecutive}
use Rattle.ob_row.specs.Results.{result_slots, unplaced}
use Rattle.ob_row.specs.Totals.{printed}
use Rattle.ob_row.specs.Truth.{is_true}
use Rattle.ob_store.proofs.Steps as Stores
use Rattle.ob_vault.specs.State.{World}
use Rattle.ob_store.specs.State.{FalseRead}
use Rattle.ob_vault.specs.Tied.{ReadsIn, Ready}
use Rattle.ob_vault.specs.Calls.{Went, Lasts, none, one}
use Rattle.ob_vault.proofs.Runs.{went_join, went_wider, went_length, tells_went, lives_apart}
use Rattle.ob_flat.specs.declared.fault.OpErr.{OpErr}
use Rattle.ob_flat.specs.declared.fault.OpErr.TheVariants.{Failed, Sink, NoMemory}
use Rattle.ob_flat.specs.Counted.{CountsRows}
use Rattle.ob_flat.specs.Flats.{Represents}
use Rattle.ob_flat.proofs.Sinks.{none_before}
use Rattle.ob_flat.proofs.Tables.{represents_lasts}
use Rattle.ob_mean.specs.Verdict.{counted, bucket_size, first_unplaced, plan_for, rows_refusal}
use Rattle.ob_flat.specs.Passes.{is_of_access}
use Rattle.ob_verdict.specs.Laws.{result_plan}
use Rattle.ob_select.specs.Settings.{AreSettings}
use Rattle.ob_select.specs.declared.selecting.Selected.{Selected}
use Rattle.ob_select.specs.declared.selecting.Selected.TheVariants.{Rows, Refused}
use Rattle.ob_select.specs.Selecting.{Selection, HoldsSeen, SelectsToEnd, SelectsToHalt, EmitsSelected, counted_after, from, places, selected_as, emitted_unless, result_of, shown_rows, selection_answer, answer_events, selection_seen, selection_script}
use Rattle.ob_select.specs.Results.{planned, PlannedToEnd, PlannedToHalt, SelectsBy, Suits, whole_part, held_shown, held_events, held_answer, head_of}
use Rattle.ob_select.proofs.ResultParts.{length_hash}
use Rattle.ob_select.proofs.ResultReads.{emitted_from}
use Rattle.ob_select.proofs.UntilLemmas.{until_from}
use Rattle.ob_select.specs.Halting.{EmitsUntil}
use Rattle.ob_select.proofs.ResultSteps.{began-few}
use Rattle.ob_select.proofs.SelectRuns.{counts_of, script_is, none_from, one_from, next_counted, next_made}
use Rattle.ob_select.proofs.LieLemmas.{ran_in}
use Rattle.ob_select.proofs.SelectMeans.{seen_second, last_second, refuses_free, shown_some}
use Rattle.ob_select.proofs.SelectTold.{refused_left, counted_is, held_mid}
use Rattle.ob_select.proofs.SelectHeld.{walked_held, walked_hash, done_behind}

module _ (q : Selection) (k : ℕ) (c : Bool) (old mid : World) (ready : Ready old) (is : CountsRows q.public.pack q.flat (is_true q.condition) (Ok (record { k = k; consecutive = c })) old mid)
    (least : 1 ≤ k) (free : q.public.planner ≡ Auto) (chosen : Hash ≡ choose q.public.planner q.public.pack q.public.buffer q.flat.capacity k c) (unpadded : q.public.pad ≡ None) where
  -- slots of which one finds no bucket
  module _ (slots : Slots) (size : length slots ≡ q.flat.capacity) (count : k ≡ length (places q slots)) (same : c ≡ is_consecutive (places q slots))
      (j : ℕ) (left : unplaced k (bucket_size q.public) (places q slots) ≡ Some j) where
    some : 1 ≤ length (places q slots)
    some = omega (arith, least, count)

    so : Hash ≡ plan_for q.public (length slots) (places q slots)
    so = chosen ∙ (λ i. choose q.public.planner q.public.pack q.public.buffer (sym size i) (count i) (same i))

    left_so : first_unplaced q.public (places q slots) ≡ Some j
    left_so = ap (λ (n : ℕ). unplaced n (bucket_size q.public) (places q slots)) (sym count) ∙ left

    seen_so : counted k (Some Hash) (Some Small) Whole ≡ selection_seen q slots
    seen_so = ap (λ (n : ℕ). counted n (Some Hash) (Some Small) Whole) count ∙ sym (seen_second q.public (places q slots) (length slots) Hash some so unpadded j refl free left_so)

    last_so : Small ≡ result_plan q.public.pad q.public (length slots) (places q slots)
    last_so = sym (ap (λ (pad : Option ℕ). result_plan pad q.public (length slots) (places q slots)) unpadded ∙ last_second q.public (places q slots) (length slots) Hash some so unpadded j refl free left_so)

    shown_so : held_shown (planned q Small k) slots ≡ shown_rows q slots
    shown_so =
        ap (λ (l : Slots). map (printed q.cols) (rows l)) (λ i. result_slots (last_so i) (count i) (bucket_size q.public) (is_true q.condition) slots)
        ∙ sym (shown_some (places q slots) (map (printed q.cols) (rows (result_of q slots))) some)

    none_refused : None ≡ rows_refusal q.public (places q slots)
    none_refused = sym (refuses_free q.public (places q slots) (length slots) Hash some so unpadded free)

    answer_so : held_answer (planned q Small k) slots ≡ selection_answer q slots
    answer_so = λ i. selected_as (none_refused i) (count i)

    events_so : held_events (planned q Small k) slots ≡ answer_events q slots
    events_so = λ i. emitted_unless (none_refused i) (head_of q ++ row_events (shown_so i))

  module _ {E : Type 0} (grew cut : E → E → List Event → Type 0) (faults : E → ℕ) (i : ℕ) (late new : World) (out out_new : E)
      (first : SelectsBy grew cut faults (planned q Hash k) (Ok (Refused (Overflow i))) mid late out out) where
    whole : Went (whole_part (planned q Hash k) mid.vault.next) (one mid.vault.next) mid late
    whole = first.ran.ok

    suits_hash : (slots : Slots) → k ≡ length (places q slots) → Suits (planned q Hash k) slots
    suits_hash slots count = record { count = count; consecutive = λ hashed. absurd (cc hashed) }

    pub suits_small : (slots : Slots) → k ≡ length (places q slots) → Suits (planned q Small k) slots
    suits_small slots count = record { count = count; consecutive = λ small. absurd (cc small) }

    pub held_late : (slots : Slots) → Represents q.public.pack q.flat slots old → Represents q.public.pack q.flat slots late
    held_late slots held =
        represents_lasts q.public.pack q.flat (one mid.vault.next) mid late whole.lasts (lives_apart _ _ _ is.ran.ok.lasts.ready is.source.made.lives) slots (held_mid q k c Small old mid is slots held)

    pub tells_late : IsTrue old.store.tells → IsTrue late.store.tells
    tells_late tells = tells_went (one mid.vault.next) (whole_part (planned q Hash k) mid.vault.next) mid late whole (tells_went none (counts_of q) old mid is.ran.ok tells)

    -- a row of these slots was left out
    left_of : IsTrue old.store.tells → (slots : Slots) → Represents q.public.pack q.flat slots old → late.store.lie ≡ None → (j : ℕ) × (unplaced k (bucket_size q.public) (places q slots) ≡ Some j)
    left_of tells slots held nolie =
        let before = Stores.none_before mid.store late.store whole.lasts.later nolie in
        refused_left _ (Overflow i) k (first.told (record {
          honest = record { tells = tells_went none (counts_of q) old mid is.ran.ok tells; nolie = nolie };
          slots = slots;
          is = held_mid q k c Small old mid is slots held;
          suits = suits_hash slots (counted_is q k c Small old mid is slots held before).0;
        }))

    pub are : (slots : Slots) → Represents q.public.pack q.flat slots old → late.store.lie ≡ None → (k ≡ length (places q slots)) × (c ≡ is_consecutive (places q slots))
    are slots held nolie = counted_is q k c Small old mid is slots held (Stores.none_before mid.store late.store whole.lasts.later nolie)

    module _ (lasts : Lasts (one late.vault.next) late new) where
      abbrev pub end_late : SelectsToEnd q old new → late.store.lie ≡ None
      end_late s = Stores.none_before late.store new.store lasts.later s.nolie

      pub halt_late : SelectsToHalt q old new → late.store.lie ≡ None
      halt_late s =
          let next = next_counted q old mid ready is.ran.ok in
          let all = went_join (from old.vault.next) old mid late (counts_of q) (whole_part (planned q Hash k) mid.vault.next)
          (went_wider none old mid (from old.vault.next) (none_from old.vault.next) (counts_of q) is.ran.ok)
          (went_wider (one mid.vault.next) mid late (from old.vault.next) (λ x. one_from old.vault.next mid.vault.next x (omega (arith, next))) (whole_part (planned q Hash k) mid.vault.next) whole) in
          none_before (from old.vault.next) (one late.vault.next) _ old late new all lasts s.nolie s.unfit

      abbrev pub end_small : (s : SelectsToEnd q old new) → PlannedToEnd (planned q Small k) late new
      end_small s = record { honest = record { tells = tells_late s.tells; nolie = s.nolie }; slots = s.slots; is = held_late s.slots s.is; suits = suits_small s.slots (are s.slots s.is (end_late s)).0 }

      abbrev pub halt_small : (s : SelectsToHalt q old new) → PlannedToHalt (planned q Small k) late new
      halt_small s = record { tells = tells_late s.tells; slots = s.slots; is = held_late s.slots s.is; suits = suits_small s.slots (are s.slots s.is (halt_late s)).0; nolie = halt_late s; unfit = s.unfit }

      pub end_shown : (s : SelectsToEnd q old new) → held_shown (planned q Small k) s.slots ≡ shown_rows q s.slots
      end_shown s =
          let a = are s.slots s.is (end_late s) in
          let l = left_of s.tells s.slots s.is (end_late s) in
          shown_so s.slots s.is.size a.0 a.1 l.0 l.1

      halt_events : (s : SelectsToHalt q old new) → held_events (planned q Small k) s.slots ≡ answer_events q s.slots
      halt_events s =
          let a = are s.slots s.is (halt_late s) in
          let l = left_of s.tells s.slots s.is (halt_late s) in
          events_so s.slots s.is.size a.0 a.1 l.0 l.1

    pub second_emitted : (result : Result Selected OpErr) → SelectsBy grew cut faults (planned q Small k) result late new out out_new → IfOk result (λ a. EmitsSelected grew q a old new out out_new)
    second_emitted (Ok (Rows n)) by = emitted_from (end_small by.ran.ok.lasts) (end_shown by.ran.ok.lasts) by.emitted
    second_emitted (Ok (Refused why)) by = by.emitted
    second_emitted (Err e) by = tt

    pub second_told : (result : Result Selected OpErr) → SelectsBy grew cut faults (planned q Small k) result late new out out_new → (s : SelectsToEnd q old new)
        → MatchResult result (λ answer. (answer ≡ selection_answer q s.slots) × (counted k (Some Hash) (Some Small) Whole ≡ selection_seen q s.slots)) (λ e. (e ≡ Failed) ⊎ (e ≡ Sink) ⊎ (e ≡ NoMemory))
    second_told (Ok answer) by s =
        let a = are s.slots s.is (end_late by.ran.ok.lasts s) in
        let l = left_of s.tells s.slots s.is (end_late by.ran.ok.lasts s) in
        (by.told (end_small by.ran.ok.lasts s) ∙ answer_so s.slots s.is.size a.0 a.1 l.0 l.1, seen_so s.slots s.is.size a.0 a.1 l.0 l.1)
    second_told (Err e) by s = by.told (end_small by.ran.err.lasts s)

    pub second_halted : (result : Result Selected OpErr) → SelectsBy grew cut faults (planned q Small k) result late new out out_new
        → IfErr result (λ e. EmitsUntil grew cut e (head_of q) (λ (s : SelectsToHalt q old new). answer_events q s.slots) out out_new)
    second_halted (Ok answer) by = tt
    second_halted (Err e) by =
        until_from grew cut (head_of q) e (λ s. held_events (planned q Small k) s.slots) (λ s. answer_events q s.slots) out out_new (halt_small by.ran.err.lasts) (λ s. inl (halt_events by.ran.err.lasts s)) by.halted

    pub second_begun : (result : Result Selected OpErr) → SelectsBy grew cut faults (planned q Small k) result late new out out_new → (s : SelectsToEnd q old old) → late.store.lie ≡ None
        → (lie : FalseRead) → new.store.lie ≡ Some lie → ReadsIn lie (old.store.asked ++ selection_script q (selection_seen q s.slots) old.vault.next)
    second_begun result by s nolie lie told =
        let a = are s.slots s.is nolie in
        let l = left_of s.tells s.slots s.is nolie in
        let same = next_counted q old mid ready is.ran.ok in
        let next = next_made (planned q Hash k) mid late is.ran.ok.lasts.ready whole in
        let after : late.vault.next ≡ old.vault.next + 1 = omega (arith, same, next) in
        let hash = whole_part (planned q Hash k) old.vault.next in
        let small = whole_part (planned q Small k) (old.vault.next + 1) ++ [] in
        subst (ReadsIn lie)
        (ap (λ (n : ℕ). late.store.asked ++ (whole_part (planned q Small k) n ++ [])) after
        ∙ ap (λ (x : List Access). x ++ small) (whole.did.asked ∙ ap (λ (n : ℕ). mid.store.asked ++ whole_part (planned q Hash k) n) same) ∙ append_assoc mid.store.asked hash small
        ∙ ap (λ (x : List Access). x ++ (hash ++ small)) is.ran.ok.did.asked ∙ append_assoc old.store.asked (counts_of q) (hash ++ small)
        ∙ ap (λ (x : List Access). old.store.asked ++ x) (sym (script_is q (counted k (Some Hash) (Some Small) Whole) old.vault.next unpadded)) ∙ ap (λ (x : Seen). old.store.asked ++ selection_script q x old.vault.next) (seen_so s.slots s.is.size a.0 a.1 l.0 l.1))
        (ran_in result (whole_part (planned q Small k) late.vault.next) [] late new lie by.ran nolie told)

    pub second_held : AreSettings q.public → length mid.store.asked ≡ length old.store.asked + counted_after q → (result : Result Selected OpErr)
        → SelectsBy grew cut faults (planned q Small k) result late new out out_new → (s : SelectsToHalt q old new)
        → IfErr result (λ e. HoldsSeen q s.slots (is_of_access e) (length new.store.asked - length old.store.asked) (counted k (Some Hash) (Some Small) Whole))
    second_held settings long (Ok answer) by s = tt
    second_held settings long (Err e) by s =
        let nolie = halt_late by.ran.err.lasts s in
        let a = are s.slots s.is nolie in
        let l = left_of s.tells s.slots s.is nolie in
        let n = length new.store.asked - length old.store.asked in
        let more = (began-few _ late new by.ran.err.began).1 in
        let through = went_length (one mid.vault.next) (whole_part (planned q Hash k) mid.vault.next) mid late whole in
        let size = length_hash q k mid.vault.next settings in
        let zeros = length_hash q k 0 settings in
        let until = walked_hash q k settings unpadded in
        walked_held q s.slots k (is_of_access e) n (sym (seen_so s.slots s.is.size a.0 a.1 l.0 l.1))
        (done_behind e n (counted_after q) (omega (arith, long, more, through)) (λ access. omega (arith, long, more, through, size)))
        (done_behind e n _ (omega (arith, long, more, through, size, zeros, until)) (λ access. omega (arith, long, more, through, size, zeros, until)))
