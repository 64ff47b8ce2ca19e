-- How a selection ends.
use Rattle.std.proofs.Common.{◌≡◌, ◌⊎◌, inl, inr, ◌≤◌, ◌<◌, ◌+◌, ◌-◌, ◌*◌, mul-le-mul, ℕ, suc, zero, Bool, true, false, IsTrue, List, [], ◌++◌, Option, None, Some, Result, Ok, Err, length, refl, sym, ◌∙◌, ap, subst, arith, append_assoc, length-append, append-nil}
use Rattle.std.specs.Prelude.{IfErr, IfOk, OnErr}
use Rattle.ob_base.specs.declared.access.Access.{Access}
use Rattle.ob_base.specs.declared.config.Plan.{Plan}
use Rattle.ob_base.specs.declared.config.Plan.TheVariants.{Small, Continuous, Hash}
use Rattle.ob_base.specs.declared.config.Planner.{Planner}
use Rattle.ob_base.specs.declared.config.Planner.TheVariants.{Auto, Forced}
use Rattle.ob_base.specs.declared.refusal.Refusal.{Refusal}
use Rattle.ob_base.specs.declared.refusal.Refusal.TheVariants as Refusals
use Rattle.ob_base.specs.declared.seen.End.TheVariants.{Whole, AfterCount}
use Rattle.ob_base.specs.Events.{Event, row_events}
use Rattle.ob_base.specs.Plans.{choose}
use Rattle.ob_base.proofs.PlanLemmas.{forced_hash}
use Rattle.ob_base.proofs.EventLemmas.{emitted_head}
use Rattle.ob_room.specs.RoomState.{RoomState}
use Rattle.ob_row.specs.Truth.{is_true}
use Rattle.ob_base.specs.declared.seen.Seen.{Seen}
use Rattle.ob_script.specs.Script.{after_count, extent_of}
use Rattle.ob_script.proofs.Lengths.{length-count_part}
use Rattle.ob_vault.specs.State.{World}
use Rattle.ob_vault.specs.Calls.{Went, none, one}
use Rattle.ob_vault.specs.Numbers.{spent}
use Rattle.ob_vault.proofs.Runs.{went_length, went_spent, went_wider, went_none, seals_join}
use Rattle.ob_flat.specs.declared.counting.Counted.{Counted}
use Rattle.ob_flat.specs.declared.fault.OpErr.{OpErr}
use Rattle.ob_flat.specs.declared.fault.OpErr.TheVariants.{Failed, Tampered, Sink, NoMemory}
use Rattle.ob_flat.specs.Counted.{CountsRows}
use Rattle.ob_flat.specs.Passes.{PassCause, is_of_access}
use Rattle.ob_flat.specs.Words.{PassRan}
use Rattle.ob_flat.proofs.Runs.{pass_more, pass_wider}
use Rattle.ob_flat.proofs.Tables.{blocks_hold}
use Rattle.ob_flat.proofs.WordLemmas.{ran_lasts}
use Rattle.ob_mean.specs.Verdict.{counted, plan_for, ended as seen_to}
use Rattle.ob_select.specs.declared.selecting.Selected.{Selected}
use Rattle.ob_select.specs.declared.selecting.Selected.TheVariants.{Rows, Refused}
use Rattle.ob_select.specs.Selecting.{Selection, MaySelect, SelectsFrom, SelectsToEnd, SelectsToHalt, EmitsSelected, places, selected_as, shown_rows, result_of, selection_seen, selection_answer, answer_events, emitted_unless, EndsSelected, IsCountOf, selection_script, region_of, counted_after, from}
use Rattle.ob_vault.proofs.Runs.{lives_apart}
use Rattle.ob_flat.proofs.Tables.{blocks_few, flat_lasts}
use Rattle.ob_select.specs.Settings.{IsFree}
use Rattle.ob_select.specs.Results.{IsPlanned, planned, whole_part, SelectsBy, EmitsHead, MayAnswer, head_of}
use Rattle.ob_select.proofs.ResultParts.{length_hash}
use Rattle.ob_select.proofs.ResultSteps.{err_is, sink_none, first_block, began-few}
use Rattle.ob_select.proofs.SelectTold.{counted_is}
use Rattle.ob_select.proofs.UntilLemmas.{until_none, until_given}
use Rattle.ob_select.proofs.LieLemmas.{cut_in, lie_before, went_in}
use Rattle.ob_select.proofs.SelectSecond.{second_begun, second_emitted, second_halted, second_told, second_held}
use Rattle.ob_select.proofs.SelectFirst.{IsFinal, first_begun, first_emitted, first_told, first_halted, first_held}
use Rattle.ob_select.proofs.SelectHeld.{uncounted_held, counted_held, walked_hash, done_behind}
use Rattle.ob_select.proofs.SelectMeans.{seen_none, refusal_none, shown_none, seen_apart, refuses_apart}
use Rattle.ob_select.proofs.ResultReads.{emitted_from}
use Rattle.ob_flat.proofs.Sinks.{none_before}
use Rattle.ob_flat.specs.Flats.{Represents}
use Rattle.ob_row.specs.Slots.{Slots}
use Rattle.std.specs.Prelude.{map}
use Rattle.ob_row.specs.Slots.{rows, is_consecutive}
use Rattle.ob_row.specs.Totals.{printed}
use Rattle.ob_select.proofs.SelectRuns.{counts_of, script_is, none_above, none_still, none_again, none_from, ran_first, ran_second, next_counted, next_made, place_in, not_empty}

-- a selection counts at least one block
pub count_some : (q : Selection) (room : RoomState) (w : World) → MaySelect q room w → 1 ≤ counted_after q
count_some q room w may =
    let pack = may.settings.pack_least in
    first_block q.flat.capacity (counted_after q) q.public.pack may.size.least (blocks_hold q.public.pack q.flat.capacity pack)

pub counts_at : (q : Selection) (pack : ℕ) (result : Result Counted OpErr) (old mid : World) → pack ≡ q.public.pack → CountsRows pack q.flat (is_true q.condition) result old mid → CountsRows q.public.pack q.flat (is_true q.condition) result old mid
counts_at q pack result old mid same is = subst (λ (p : ℕ). CountsRows p q.flat (is_true q.condition) result old mid) same is

pub on_err_of : {T F P : Type 0} (x : Result T F) → P → OnErr x P
on_err_of (Ok v) h = tt
on_err_of (Err e) h = h

ran_long : {T : Type 0} {some : ℕ → Type 0} {x : List Access} {a b : World} (result : Result T OpErr) → PassRan x some result a b → length a.store.asked ≤ length b.store.asked
ran_long {T} {some} {x} {a} {b} (Ok v) ran = omega (arith, went_length some x a b ran.ok)
ran_long {T} {some} {x} {a} {b} (Err e) ran = (began-few x a b ran.err.began).1

module _ {E : Type 0} (grew cut : E → E → List Event → Type 0) (faults : E → ℕ) (q : Selection) (room : RoomState) (old mid : World) (may : MaySelect q room old) where
  -- the count failed
  pub end_uncounted : (e : OpErr) (out : E) → CountsRows q.public.pack q.flat (is_true q.condition) (Err e) old mid → SelectsFrom grew cut faults q (Err e) (seen_to Whole) old mid out out
  end_uncounted e out is = record {
    ran = record { ok = tt; err = pass_more (from old.vault.next) old mid e (counts_of q) _ (pass_wider none old mid (from old.vault.next) (none_from old.vault.next) e (counts_of q) is.ran.err) };
    gone = none_still old.vault.next old mid is.ran.err.lasts (none_above old may.ready);
    spare = tt;
    seals = λ good fine. is.seals.seals good;
    leaf = refl;
    holds = tt;
    ended = tt;
    reached = record { count = λ some. absurd (cc some); walk = λ some. absurd (cc some) };
    memory = λ none. absurd (never (err_is none));
    emitted = tt;
    halted = until_none grew cut (head_of q) e _ out no_sink;
    sink = sink_none Selected e _ no_sink;
    told = λ s. inl (is.told s.slots s.is s.nolie);
    begun = λ s lie told. cut_in e (counts_of q) _ old mid lie is.ran.err s.nolie told;
    held = λ s. uncounted_held q s.slots e (length mid.store.asked - length old.store.asked) may.settings of_access (omega (arith, (began-few (counts_of q) old mid is.ran.err.began).0, length-count_part q.flat.region (counted_after q))) (count_some q room old may);
  }
    where
      of_access : is_of_access e ≡ true
      of_access = elim is.never [ inl f ↦ ap is_of_access f | inr t ↦ ap is_of_access t.is ]

      no_sink : e ≡ Sink → ⊥
      no_sink sink = elim is.never [ inl f ↦ cc (f, sink) | inr t ↦ cc (t.is, sink) ]

      never : e ≡ NoMemory → ⊥
      never none = elim is.never [ inl f ↦ cc (f, none) | inr t ↦ cc (t.is, none) ]

  module _ (unpadded : q.public.pad ≡ None) (k : ℕ) (c : Bool) (is : CountsRows q.public.pack q.flat (is_true q.condition) (Ok (record { k = k; consecutive = c })) old mid) where
    count : Went (counts_of q) none old mid
    count = is.ran.ok

    long : length mid.store.asked ≡ length old.store.asked + counted_after q
    long = omega (arith, went_length none (counts_of q) old mid count, length-count_part q.flat.region (counted_after q))

    -- nothing was asked after the count
    ran_alone : (result : Result Selected OpErr) → IfErr result (λ e. (e ≡ Sink) ⊎ (e ≡ NoMemory)) → PassRan (counts_of q ++ []) (from old.vault.next) result old mid
    ran_alone (Ok answer) never = record { ok = subst (λ (x : List Access). Went x (from old.vault.next) old mid) (sym (append-nil (counts_of q))) (went_wider none old mid (from old.vault.next) (none_from old.vault.next) (counts_of q) count); err = tt }
    ran_alone (Err e) never =
        let went = went_wider none old mid (from old.vault.next) (none_from old.vault.next) (counts_of q) count in
        record { ok = tt; err = record { lasts = went.lasts; began = record { done = counts_of q; rest = []; split = refl; asked = went.did.asked }; asks = asks e never; cause = cause e never } }
      where
        asks : (e : OpErr) → (e ≡ Sink) ⊎ (e ≡ NoMemory) → IsTrue (is_of_access e) → length old.store.asked < length mid.store.asked
        asks e never is = let none : is_of_access e ≡ false = elim never [ inl sink ↦ ap is_of_access sink | inr memory ↦ ap is_of_access memory ] in absurd (cc (none, is))

        cause : (e : OpErr) → (e ≡ Sink) ⊎ (e ≡ NoMemory) → PassCause e old mid
        cause Sink never = (count.did.faults, count.calm)
        cause NoMemory never = (count.did.faults, count.calm)
        cause Failed never = absurd (elim never [ inl e ↦ cc e | inr e ↦ cc e ])
        cause (Tampered r x) never = absurd (elim never [ inl e ↦ cc e | inr e ↦ cc e ])

    by_script : (seen : Seen) (result : Result Selected OpErr) (new : World) → PassRan (counts_of q ++ after_count q.public seen seen.k old.vault.next (extent_of (region_of q)) []) (from old.vault.next) result old new
        → PassRan (selection_script q seen old.vault.next) (from old.vault.next) result old new
    by_script seen result new ran = subst (λ (x : List Access). PassRan x (from old.vault.next) result old new) (sym (script_is q seen old.vault.next unpadded)) ran

    is_count : IsCountOf q k
    is_count = record { unpadded = unpadded; most = is.most }

    gone_alone : (x : ℕ) → old.vault.next ≤ x → mid.vault.revs.live x ≡ None
    gone_alone = none_still old.vault.next old mid count.lasts (none_above old may.ready)

    halt_nolie : SelectsToHalt q old mid → mid.store.lie ≡ None
    halt_nolie s = none_before none none (counts_of q) old mid mid count (went_none none mid count.lasts.ready).lasts s.nolie s.unfit

    no_places : (slots : Slots) → Represents q.public.pack q.flat slots old → mid.store.lie ≡ None → k ≡ 0 → length (places q slots) ≡ 0
    no_places slots held nolie empty = sym (counted_is q k c Small old mid is slots held nolie).0 ∙ empty

    none_shown : (slots : Slots) → length (places q slots) ≡ 0 → [] ≡ shown_rows q slots
    none_shown slots empty = sym (shown_none (places q slots) (map (printed q.cols) (rows (result_of q slots))) empty)

    none_events : (slots : Slots) → length (places q slots) ≡ 0 → head_of q ++ [] ≡ answer_events q slots
    none_events slots empty = λ i. emitted_unless (sym (refusal_none q.public (places q slots) empty unpadded) i) (head_of q ++ row_events (none_shown slots empty i))

    none_seen : (slots : Slots) → length (places q slots) ≡ 0 → k ≡ 0 → counted k None None Whole ≡ selection_seen q slots
    none_seen slots empty zeros = ap (λ (n : ℕ). counted n None None Whole) zeros ∙ sym (seen_none q.public (length slots) (places q slots) empty unpadded)

    none_answer : (slots : Slots) → length (places q slots) ≡ 0 → Rows 0 ≡ selection_answer q slots
    none_answer slots empty = sym (λ i. selected_as (refusal_none q.public (places q slots) empty unpadded i) (empty i))

    -- no row was counted
    pub end_none : (result : Result Selected OpErr) (out_old out_new : E) → k ≡ 0 → EmitsHead grew cut faults (head_of q) result out_old out_new
        → SelectsFrom grew cut faults q result (counted k None None Whole) old mid out_old out_new
    end_none (Ok answer) out_old out_new empty head = record {
      ran = by_script (counted k None None Whole) (Ok answer) mid (ran_alone (Ok answer) tt);
      gone = gone_alone;
      spare = omega (arith, may.spare, count.spare, length-count_part q.flat.region (counted_after q));
      seals = λ good fine. is.seals.seals good;
      leaf = refl;
      holds = (is_count, inl empty);
      ended = subst (λ (a : Selected). EndsSelected q a (counted k None None Whole)) (sym head.ok.0) (inl (record { counted = k; count = refl; end = refl; none = λ same. empty }));
      reached = tt;
      memory = λ none. absurd (cc none);
      emitted = subst (λ (a : Selected). EmitsSelected grew q a old mid out_old out_new) (sym head.ok.0)
          (emitted_from {S = SelectsToEnd q old mid} (λ s. s) (λ s. none_shown s.slots (no_places s.slots s.is s.nolie empty)) (emitted_head grew (head_of q) out_old out_new head.ok.1));
      halted = tt;
      sink = head.sink;
      told = λ s. let none = no_places s.slots s.is s.nolie empty in (head.ok.0 ∙ none_answer s.slots none, none_seen s.slots none empty);
      held = λ s. tt;
      begun = λ s lie told. went_in (counts_of q) _ old mid lie count s.nolie told;
    }
    end_none (Err e) out_old out_new empty head = record {
      ran = by_script (counted k None None Whole) (Err e) mid (ran_alone (Err e) head.err.0);
      gone = gone_alone;
      spare = tt;
      seals = λ good fine. is.seals.seals good;
      leaf = refl;
      holds = (is_count, inl empty);
      ended = tt;
      reached = record { count = λ some. omega (arith, long); walk = λ some. absurd (cc some) };
      memory = λ none. record {
        done = counts_of q;
        rest = [];
        split = append-nil (counts_of q) ∙ sym (append-nil (counts_of q)) ∙ sym (script_is q (counted k None None Whole) old.vault.next unpadded);
        asked = count.did.asked;
        some = not_empty (counts_of q) (omega (arith, count_some q room old may, length-count_part q.flat.region (counted_after q)));
        place = inr (inr (inl refl, refl, record { events = head_of q; ends = head.err.1 }));
      };
      emitted = tt;
      halted = until_given grew cut (head_of q) e _ out_old out_new head.err.0 (record { events = head_of q; ends = head.err.1; told = λ s. ([], none_events s.slots (no_places s.slots s.is (halt_nolie s) empty)) });
      sink = head.sink;
      told = λ s. elim head.err.0 [ inl s ↦ inr (inl s) | inr m ↦ inr (inr m) ];
      begun = λ s lie told. went_in (counts_of q) _ old mid lie count s.nolie told;
      held = λ s. counted_held q s.slots k None (is_of_access e) (length mid.store.asked - length old.store.asked) (sym (none_seen s.slots (no_places s.slots s.is (halt_nolie s) empty) empty))
          (done_behind e _ (counted_after q) (omega (arith, long)) (λ access. absurd (elim head.err.0 [ inl sink ↦ cc (sym access ∙ ap is_of_access sink) | inr none ↦ cc (sym access ∙ ap is_of_access none) ])));
    }

    -- Continuous was forced, and refused
    pub end_refused : (out : E) → 1 ≤ k → q.public.planner ≡ Forced Continuous → c ≡ false → SelectsFrom grew cut faults q (Ok (Refused Refusals.NotConsecutive)) (counted k None None AfterCount) old mid out out
    end_refused out least forced apart = record {
      ran = by_script (counted k None None AfterCount) (Ok (Refused Refusals.NotConsecutive)) mid (ran_alone (Ok (Refused Refusals.NotConsecutive)) tt);
      gone = gone_alone;
      spare = omega (arith, may.spare, count.spare, length-count_part q.flat.region (counted_after q));
      seals = λ good fine. is.seals.seals good;
      leaf = refl;
      holds = (is_count, inr forced);
      ended = record { k = k; some = least; count = refl; forced = forced; plan = refl; end = refl };
      reached = tt;
      memory = λ none. absurd (cc none);
      emitted = refl;
      halted = tt;
      sink = refl;
      told = λ s.
          let are = counted_is q k c Continuous old mid is s.slots s.is s.nolie in
          let some : 1 ≤ length (places q s.slots) = omega (arith, least, are.0) in
          let off = sym are.1 ∙ apart in
          let so : Continuous ≡ plan_for q.public (length s.slots) (places q s.slots) = sym (ap (λ (planner : Planner). choose planner q.public.pack q.public.buffer (length s.slots) (length (places q s.slots)) (is_consecutive (places q s.slots))) forced) in (
            sym (ap (λ (o : Option Refusal). selected_as o (length (places q s.slots))) (refuses_apart q.public (places q s.slots) (length s.slots) Continuous some so unpadded forced off)),
            ap (λ (n : ℕ). counted n None None AfterCount) are.0 ∙ sym (seen_apart q.public (places q s.slots) (length s.slots) Continuous some so unpadded refl off),
          );
      held = λ s. tt;
      begun = λ s lie told. went_in (counts_of q) _ old mid lie count s.nolie told;
    }

    module _ (plan : Plan) (side : plan ≡ Continuous → IsTrue c) (least : 1 ≤ k) (chosen : plan ≡ choose q.public.planner q.public.pack q.public.buffer q.flat.capacity k c) where
      first_ended : (result : Result Selected OpErr) → IfOk result (IsFinal q) → IfOk result (MayAnswer plan None) → IfOk result (λ a. EndsSelected q a (counted k (Some plan) None Whole))
      first_ended (Ok (Rows n)) final answers = inl (record { counted = k; count = refl; end = refl; none = λ none. absurd (cc none) })
      first_ended (Ok (Refused (Refusals.Overflow i))) final answers =
          record { forced = forced_hash plan q.public.planner q.public.pack q.public.buffer q.flat.capacity k c chosen answers.0 final; plan = ap Some answers.0; second = refl; end = refl }
      first_ended (Err e) final answers = tt
      first_ended (Ok (Refused Refusals.PadPassed)) final answers = absurd (cc answers)
      first_ended (Ok (Refused _)) final answers = absurd answers

      -- the first plan's result came to an end
      pub end_first : (result : Result Selected OpErr) (new : World) (out_old out_new : E) → IfOk result (IsFinal q) → SelectsBy grew cut faults (planned q plan k) result mid new out_old out_new
          → SelectsFrom grew cut faults q result (counted k (Some plan) None Whole) old new out_old out_new
      end_first result new out_old out_new final by =
          let lasts = ran_lasts result by.ran in
          let same = next_counted q old mid may.ready count in
          let ran = ran_first q old mid may.ready count result (planned q plan k) new by.ran in
          record {
            ran = by_script (counted k (Some plan) None Whole) result new ran;
            gone = none_again old.vault.next mid.vault.next mid new lasts by.gone gone_alone;
            spare = by.spare;
            seals = λ good fine. seals_join good old mid new count.lasts.later (is.seals.seals good) (by.seals good fine);
            leaf = refl;
            holds = (is_count, record { some = least; consecutive = c; chosen = chosen });
            ended = first_ended result final by.may;
            reached = on_err_of result (record { count = λ some. omega (arith, long, ran_long result by.ran); walk = λ some. absurd (cc some) });
            memory = λ none.
                let m = by.memory none in
                record {
                  done = counts_of q ++ m.done;
                  rest = m.rest;
                  split = append_assoc (counts_of q) m.done m.rest ∙ ap (λ (x : List Access). counts_of q ++ x) (m.split ∙ ap (λ (n : ℕ). whole_part (planned q plan k) n) same ∙ sym (append-nil (whole_part (planned q plan k) old.vault.next)))
                      ∙ sym (script_is q (counted k (Some plan) None Whole) old.vault.next unpadded);
                  asked = m.asked ∙ ap (λ (x : List Access). x ++ m.done) count.did.asked ∙ append_assoc old.store.asked (counts_of q) m.done;
                  some = not_empty (counts_of q ++ m.done) (omega (arith, count_some q room old may, length-count_part q.flat.region (counted_after q), length-append (counts_of q) m.done));
                  place = place_in q.public (counted k (Some plan) None Whole) (counts_of q) m.done m.rest (inl refl) (λ none. (unpadded, refl)) m.place;
                };
            emitted = first_emitted q k c plan old mid is side least chosen unpadded grew cut faults new out_old out_new result by;
            halted = first_halted q k c plan old mid is side least chosen unpadded grew cut faults new out_old out_new result by;
            sink = by.sink;
            told = first_told q k c plan old mid is side least chosen unpadded grew cut faults new out_old out_new result final by;
            begun = λ s lie told. elim (lie_before mid.store new.store lie lasts.later told) [
              | inl nolie ↦ first_begun q k c plan old mid is side least chosen unpadded may.ready new result by.ran s nolie lie told
              | inr early ↦ went_in (counts_of q) _ old mid lie count s.nolie early
            ];
            held = λ s. first_held q k c plan old mid is side least chosen unpadded grew cut faults new out_old out_new may.settings long (count_some q room old may) result by s;
          }

    -- Small took the place of a Hash that left a row out
    module _ (least : 1 ≤ k) (free : q.public.planner ≡ Auto) (chosen : Hash ≡ choose q.public.planner q.public.pack q.public.buffer q.flat.capacity k c) (i : ℕ) (late : World) (out : E)
        (first : SelectsBy grew cut faults (planned q Hash k) (Ok (Refused (Refusals.Overflow i))) mid late out out) where
      second_ended : (result : Result Selected OpErr) → IfOk result (MayAnswer Small None) → IfOk result (λ a. EndsSelected q a (counted k (Some Hash) (Some Small) Whole))
      second_ended (Ok (Rows n)) answers = inl (record { counted = k; count = refl; end = refl; none = λ none. absurd (cc none) })
      second_ended (Ok (Refused (Refusals.Overflow i))) answers = absurd (cc answers.0)
      second_ended (Ok (Refused Refusals.PadPassed)) answers = absurd (cc answers)
      second_ended (Ok (Refused _)) answers = absurd answers
      second_ended (Err e) answers = tt

      end_second : (result : Result Selected OpErr) (new : World) (out_new : E) → SelectsBy grew cut faults (planned q Small k) result late new out out_new
          → SelectsFrom grew cut faults q result (counted k (Some Hash) (Some Small) Whole) old new out out_new
      end_second result new out_new by =
          let lasts = ran_lasts result by.ran in
          let same = next_counted q old mid may.ready count in
          let next = next_made (planned q Hash k) mid late count.lasts.ready first.ran.ok in
          let after : late.vault.next ≡ old.vault.next + 1 = omega (arith, same, next) in
          let done = counts_of q ++ whole_part (planned q Hash k) old.vault.next in
          let asked : late.store.asked ≡ old.store.asked ++ done
          = first.ran.ok.did.asked ∙ ap (λ (n : ℕ). mid.store.asked ++ whole_part (planned q Hash k) n) same ∙ ap (λ (x : List Access). x ++ whole_part (planned q Hash k) old.vault.next) count.did.asked ∙ append_assoc old.store.asked (counts_of q) (whole_part (planned q Hash k) old.vault.next) in
          let more = went_length (one mid.vault.next) (whole_part (planned q Hash k) mid.vault.next) mid late first.ran.ok in
          record {
            ran = by_script (counted k (Some Hash) (Some Small) Whole) result new (ran_second q old mid may.ready count result (planned q Hash k) (planned q Small k) late new first.ran.ok by.ran);
            gone = none_again old.vault.next late.vault.next late new lasts by.gone (none_again old.vault.next mid.vault.next mid late first.ran.ok.lasts first.gone gone_alone);
            spare = by.spare;
            seals = λ good fine. seals_join good old mid new count.lasts.later (is.seals.seals good) (seals_join good mid late new first.ran.ok.lasts.later (first.seals good fine) (by.seals good fine));
            leaf = refl;
            holds = (is_count, record { some = least; consecutive = c; chosen = chosen }, free);
            ended = second_ended result by.may;
            reached = on_err_of result (record {
              count = λ some. omega (arith, long, more, ran_long result by.ran);
              walk = λ some. omega (arith, long, more, ran_long result by.ran, walked_hash q k may.settings unpadded, length_hash q k mid.vault.next may.settings, length_hash q k 0 may.settings);
            });
            memory = λ none.
                let m = by.memory none in
                record {
                  done = done ++ m.done;
                  rest = m.rest;
                  split = append_assoc done m.done m.rest ∙ ap (λ (x : List Access). done ++ x) (m.split ∙ ap (λ (n : ℕ). whole_part (planned q Small k) n) after ∙ sym (append-nil (whole_part (planned q Small k) (old.vault.next + 1))))
                      ∙ append_assoc (counts_of q) (whole_part (planned q Hash k) old.vault.next) (whole_part (planned q Small k) (old.vault.next + 1) ++ [])
                      ∙ sym (script_is q (counted k (Some Hash) (Some Small) Whole) old.vault.next unpadded);
                  asked = m.asked ∙ ap (λ (x : List Access). x ++ m.done) asked ∙ append_assoc old.store.asked done m.done;
                  some = not_empty (done ++ m.done) (omega (arith, count_some q room old may, length-count_part q.flat.region (counted_after q), length-append done m.done, length-append (counts_of q) (whole_part (planned q Hash k) old.vault.next)));
                  place = place_in q.public (counted k (Some Hash) (Some Small) Whole) done m.done m.rest (inl refl) (λ none. (unpadded, refl)) m.place;
                };
            emitted = second_emitted q k c old mid may.ready is least free chosen unpadded grew cut faults i late new out out_new first result by;
            halted = second_halted q k c old mid may.ready is least free chosen unpadded grew cut faults i late new out out_new first result by;
            sink = by.sink;
            told = second_told q k c old mid may.ready is least free chosen unpadded grew cut faults i late new out out_new first result by;
            begun = λ s lie told. elim (lie_before late.store new.store lie lasts.later told) [
              | inl nolie ↦ second_begun q k c old mid may.ready is least free chosen unpadded grew cut faults i late new out out_new first result by s nolie lie told
              | inr before ↦ elim (lie_before mid.store late.store lie first.ran.ok.lasts.later before) [
                | inl nolie ↦ first_begun q k c Hash old mid is (λ hashed. absurd (cc hashed)) least chosen unpadded may.ready late (Ok (Refused (Refusals.Overflow i))) first.ran s nolie lie before
                | inr early ↦ went_in (counts_of q) _ old mid lie count s.nolie early
              ]
            ];
            held = second_held q k c old mid may.ready is least free chosen unpadded grew cut faults i late new out out_new first may.settings long result by;
          }

      pub end_second_at : (result : Result Selected OpErr) (new : World) (out_mid out_new : E) → out_mid ≡ out → SelectsBy grew cut faults (planned q Small k) result late new out_mid out_new
          → SelectsFrom grew cut faults q result (counted k (Some Hash) (Some Small) Whole) old new out out_new
      end_second_at result new out_mid out_new same by = end_second result new out_new (subst (λ (o : E). SelectsBy grew cut faults (planned q Small k) result late new o out_new) same by)

-- ---- what the plans ask
pub some_of : (k : ℕ) → (k ≡ 0 → ⊥) → 1 ≤ k
some_of zero off = absurd (off refl)
some_of (suc k) off = omega arith

hashed_by : (plan : Plan) (why : Refusal) → MayAnswer plan None (Refused why) → (i : ℕ) × (why ≡ Refusals.Overflow i) × (plan ≡ Hash)
hashed_by plan (Refusals.Overflow i) is = (i, refl, is.0)
hashed_by plan Refusals.PadPassed is = absurd (cc is)
hashed_by plan _ is = absurd is

pub hashed_first : {E : Type 0} (grew cut : E → E → List Event → Type 0) (faults : E → ℕ) (q : Selection) (plan : Plan) (k : ℕ) (why : Refusal) (mid late : World) (out_old out_new : E)
    → SelectsBy grew cut faults (planned q plan k) (Ok (Refused why)) mid late out_old out_new
    → (i : ℕ) × (plan ≡ Hash) × (out_new ≡ out_old) × SelectsBy grew cut faults (planned q Hash k) (Ok (Refused (Refusals.Overflow i))) mid late out_old out_old
hashed_first grew cut faults q plan k why mid late out_old out_new is =
    let h = hashed_by plan why is.may in
    let same : out_new ≡ out_old = is.emitted in (
      h.0,
      h.2,
      same,
      subst (λ out. SelectsBy grew cut faults (planned q Hash k) (Ok (Refused (Refusals.Overflow h.0))) mid late out_old out) same
          (subst (λ (p : Plan). SelectsBy grew cut faults (planned q p k) (Ok (Refused (Refusals.Overflow h.0))) mid late out_old out_new) h.2
          (subst (λ (w : Refusal). SelectsBy grew cut faults (planned q plan k) (Ok (Refused w)) mid late out_old out_new) h.1 is)),
    )

module _ (q : Selection) (room : RoomState) (old mid : World) (may : MaySelect q room old) (k : ℕ) (c : Bool) (is : CountsRows q.public.pack q.flat (is_true q.condition) (Ok (record { k = k; consecutive = c })) old mid)
    (least : 1 ≤ k) (fresh : RoomState) (free : IsFree q.public fresh) where
  counted_few : spent mid ≤ spent old + 16777216
  counted_few = omega (arith, went_spent none (counts_of q) old mid is.ran.ok, length-count_part q.flat.region (counted_after q), blocks_few q.public.pack q.flat.capacity may.settings.pack_least, may.size.most)

  pub planned_first : (plan : Plan) → IsPlanned (planned q plan k) fresh mid
  planned_first plan = record {
    settings = may.settings;
    free = free;
    ready = is.ran.ok.lasts.ready;
    few = omega (arith, may.few, counted_few);
    flat = is.source;
    size = may.size;
    columns = may.columns;
    some = least;
    most = is.most;
  }

  pub planned_second : (late : World) → Went (whole_part (planned q Hash k) mid.vault.next) (one mid.vault.next) mid late → IsPlanned (planned q Small k) fresh late
  planned_second late went =
      let off = lives_apart _ _ _ is.ran.ok.lasts.ready is.source.made.lives in
      let k_few : k ≤ 16777216 = omega (arith, is.most, may.size.most) in
      let deep : k * q.public.depth ≤ 16777216 * 8 = mul-le-mul k_few may.settings.depth_most in
      let four : 4 * q.public.depth ≤ 4 * 8 = let d = may.settings.depth_most in omega (arith, d) in
      let all : 4 * q.public.depth * q.flat.capacity ≤ 4 * 8 * 16777216 = mul-le-mul four may.size.most in
      let blocks = blocks_few q.public.pack q.flat.capacity may.settings.pack_least in
      record {
        settings = may.settings;
        free = free;
        ready = went.lasts.ready;
        few = omega (arith, may.few, counted_few, went_spent (one mid.vault.next) _ mid late went, length_hash q k mid.vault.next may.settings, deep, all, blocks, may.size.most);
        flat = flat_lasts q.public.pack q.flat (one mid.vault.next) mid late went.lasts off is.source;
        size = may.size;
        columns = may.columns;
        some = least;
        most = is.most;
      }
