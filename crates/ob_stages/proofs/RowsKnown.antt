-- What a flight reads of a SELECT of rows: what is known of it on its way, and that what it means may turn out to be served.
use Rattle.std.proofs.Common.{◌≡◌, inl, inr, ◌≤◌, ℕ, zero, suc, Bool, true, false, List, refl, sym, ◌∙◌, ap, subst, arith}
use Rattle.std.specs.Prelude.{Option, Some, None, if◌then◌else◌, length}
use Rattle.ob_base.specs.declared.refusal.Refusal.{Refusal}
use Rattle.ob_base.specs.declared.refusal.Refusal.TheVariants as Refusals
use Rattle.ob_base.specs.declared.seen.End.TheVariants.{Whole, Cut}
use Rattle.ob_base.specs.declared.seen.Seen.{Seen}
use Rattle.ob_base.specs.Events.{Event}
use Rattle.ob_flat.specs.Flats.{Represents}
use Rattle.ob_row.specs.Slots.{Slots}
use Rattle.ob_script.specs.Script.{whole_script}
use Rattle.ob_select.specs.Selecting.{HoldsSeen, answer_events, places, selection_seen}
use Rattle.ob_small.specs.Selection as Smalls
use Rattle.ob_vault.specs.State.{World}
use Rattle.ob_vault.specs.Words.{IsHonest}
use Rattle.ob_verdict.specs.declared.outcome.Outcome.{Outcome}
use Rattle.ob_verdict.specs.declared.outcome.Outcome.TheVariants as Outcomes
use Rattle.ob_stages.specs.declared.rows.Stage.{Stage}
use Rattle.ob_stages.specs.declared.rows.Stage.TheVariants.{Count, Make, Read, Write, Emit, Discard, Over}
use Rattle.ob_stages.specs.Going.{GoesOn}
use Rattle.ob_stages.specs.RowsActs.{takes_seen}
use Rattle.ob_stages.specs.RowsStates.{RowsAt, HasAsked, HasCounted, IsPlaced, MaySee, MayServe, MayTake, PlacedAt, emits_before, end_by, is_over, reads_before, rows_skeleton, seen_taking, small, table_blocks, taken_by, writes_before}
use Rattle.ob_stages.specs.RowsHolds.{AnswersRows, EndedAt, Holds, HoldsAt, IsCountOf, IsCutOff, IsGone, IsOnWay, MayBeCut, all_selected, seen_ended}
use Rattle.ob_stages.proofs.RowsFinish.{over_is}
use Rattle.ob_stages.proofs.RowsGoing.{IsBehind, behind_at}
use Rattle.ob_stages.proofs.RowsMeans.{seen_meant}
use Rattle.ob_stages.proofs.RowsPlaces.{within_count, within_takes}
use Rattle.ob_stages.proofs.RowsWay.{begun_more, count_is, second_none, way_of}

-- on its way
pub rows_way : (g : RowsAt) (kept : List (List ℕ)) (events : List Event) (w : World) → Holds g kept events w → is_over g.stage ≡ false → (slots : Slots) → Represents g.q.public.pack g.q.flat slots w → IsHonest w w → IsOnWay g events slots
rows_way g kept events w is going slots held honest =
    let known = way_of g kept events w is going slots held honest in
    record { held = known.held; begun = begun_more events (answer_events g.q slots) _ known.begun }

ended_end : (pad : Option ℕ) (k : ℕ) → (seen_ended pad k).end ≡ Whole
ended_end None zero = refl
ended_end None (suc k) = refl
ended_end (Some pad) k = refl

-- one that takes some rows
taking_is : (pad : Option ℕ) (slots k : ℕ) → 1 ≤ taken_by pad slots k → seen_ended pad k ≡ seen_taking pad k
taking_is None slots zero some = absurd (omega (arith, some))
taking_is None slots (suc k) some = refl
taking_is (Some pad) slots k some = refl

module _ (g : RowsAt) (kept : List (List ℕ)) (events : List Event) (w : World) (is : Holds g kept events w) (slots : Slots) (held : Represents g.q.public.pack g.q.flat slots w) (honest : IsHonest w w) where
  meaning : selection_seen g.q slots ≡ seen_ended g.q.public.pad (length (places g.q slots))
  meaning = seen_meant g.q is.placed.flown.planner slots

  goes_meant : GoesOn g.asked (selection_seen g.q slots).end
  goes_meant =
      let whole : (selection_seen g.q slots).end ≡ Whole = ap (λ (s : Seen). s.end) meaning ∙ ended_end g.q.public.pad (length (places g.q slots)) in
      subst (GoesOn g.asked) (sym whole) tt

  -- after its count
  takes_meant : (done : ℕ) → HasCounted g done → IsCountOf g w (all_selected g) → MayTake g (selection_seen g.q slots)
  takes_meant done at count =
      let same = count_is g w (rows_skeleton g.select) is.placed.flown slots held honest.nolie count in
      (goes_meant, takes_seen g.q.public.pad g.k (selection_seen g.q slots) (meaning ∙ ap (seen_ended g.q.public.pad) (sym same) ∙ taking_is g.q.public.pad g.q.flat.capacity g.k at.some))

  -- one that has ended
  whole_only : {P : Type 0} → g.seen.end ≡ Whole → MayBeCut g.q g.asked g.seen → P
  whole_only whole cut = elim cut [
    | inl none ↦ absurd (cc (whole, ap (λ (s : Seen). s.end) none))
    | inr some ↦ let is = some.is in absurd (cc (whole, ap (λ (s : Seen). s.end) is))
  ]

  refused_seen : (r : Refusal) → g.seen.end ≡ Whole → AnswersRows g.q (Outcomes.Refused r) g.seen g.asked events w → selection_seen g.q slots ≡ g.seen
  refused_seen Refusals.PadPassed whole answers = sym (answers.1.told slots held honest).1
  refused_seen Refusals.StoreFault whole answers = whole_only whole answers.seen
  refused_seen _ whole answers = absurd answers

  outcome_seen : (o : Outcome) → g.seen.end ≡ Whole → AnswersRows g.q o g.seen g.asked events w → selection_seen g.q slots ≡ g.seen
  outcome_seen (Outcomes.Rows n) whole answers = sym (answers.1.told slots held honest).1
  outcome_seen (Outcomes.Refused r) whole answers = refused_seen r whole answers
  outcome_seen _ whole answers = absurd answers

  ended_seen : (o : Option Outcome) → g.seen.end ≡ Whole → EndedAt false o g events w → selection_seen g.q slots ≡ g.seen
  ended_seen None whole ended = sym (ended.told slots held honest).1
  ended_seen (Some o) whole ended = outcome_seen o whole ended

  end_whole : HasAsked g → g.failed ≡ false → g.seen.end ≡ Whole
  end_whole asked unfailed = asked.end ∙ ap (λ (f : Bool). end_by f g.asked) unfailed

  may_meant : (stage : Stage) → g.failed ≡ false → PlacedAt stage g → HoldsAt stage g kept events w → MaySee stage g (selection_seen g.q slots)
  may_meant (Count u) unfailed at now = goes_meant
  may_meant Make unfailed at now = takes_meant (table_blocks g.q) at.0 now.1
  may_meant (Read pass u seen) unfailed at now = takes_meant (reads_before g.q pass u) at.0.counted now.1
  may_meant (Write pass x) unfailed at now = takes_meant (writes_before g.q pass x) at.0.counted now.1
  may_meant (Emit x) unfailed at now = takes_meant (emits_before g.q g.k x) at.0.counted now.0
  may_meant Discard unfailed at now = takes_meant (emits_before g.q g.k (Smalls.results (small g.q g.k))) at.counted now.0
  may_meant Over unfailed at now = ended_seen g.outcome (end_whole at unfailed) (subst (λ (f : Bool). EndedAt f g.outcome g events w) unfailed now.1)

  -- what it means may be served
  pub rows_meant : g.failed ≡ false → MayServe g (record { skeleton = rows_skeleton g.select; seen = selection_seen g.q slots })
  rows_meant unfailed = record {
    placed = is.placed;
    same = refl;
    second = second_none g.q (rows_skeleton g.select) is.placed.flown slots;
    may = may_meant g.stage unfailed is.placed.at is.at;
  }

  -- ---- one that the store failed
  cut_only : {P : Type 0} → g.seen.end ≡ Cut g.asked → g.seen.end ≡ Whole → P
  cut_only cut whole = absurd (cc (cut, whole))

  refused_cut : (r : Refusal) → g.seen.end ≡ Cut g.asked → AnswersRows g.q (Outcomes.Refused r) g.seen g.asked events w → IsCutOff g.q g.seen g.asked events w
  refused_cut Refusals.PadPassed cut answers = let refuses = answers.0 in cut_only cut (ap (λ (s : Seen). s.end) refuses.seen)
  refused_cut Refusals.StoreFault cut answers = answers
  refused_cut _ cut answers = absurd answers

  outcome_cut : (o : Outcome) → g.seen.end ≡ Cut g.asked → AnswersRows g.q o g.seen g.asked events w → IsCutOff g.q g.seen g.asked events w
  outcome_cut (Outcomes.Rows n) cut answers = let so = answers.0 in cut_only cut (ap (λ (s : Seen). s.end) so.seen ∙ ended_end g.q.public.pad so.k)
  outcome_cut (Outcomes.Refused r) cut answers = refused_cut r cut answers
  outcome_cut _ cut answers = absurd answers

  ended_cut : (o : Option Outcome) → g.seen.end ≡ Cut g.asked → EndedAt true o g events w → IsCutOff g.q g.seen g.asked events w
  ended_cut None cut ended = ended
  ended_cut (Some o) cut ended = outcome_cut o cut ended

  failed_over : g.failed ≡ true → g.stage ≡ Over
  failed_over failed = by_test (is_over g.stage) refl
    where
      by_test : (b : Bool) → is_over g.stage ≡ b → g.stage ≡ Over
      by_test true over = over_is g.stage over
      by_test false open_ = absurd (cc (failed, is.placed.unfailed open_))

  module _ (failed : g.failed ≡ true) where
    cut_asked_all : HasAsked g
    cut_asked_all = subst (λ (s : Stage). PlacedAt s g) (failed_over failed) is.placed.at

    end_cut : g.seen.end ≡ Cut g.asked
    end_cut = cut_asked_all.end ∙ ap (λ (f : Bool). end_by f g.asked) failed

    -- how it was cut off
    pub rows_cut : IsCutOff g.q g.seen g.asked events w
    rows_cut =
        let now : IsGone g.region w × EndedAt g.failed g.outcome g events w = subst (λ (s : Stage). HoldsAt s g kept events w) (failed_over failed) is.at in
        ended_cut g.outcome end_cut (subst (λ (f : Bool). EndedAt f g.outcome g events w) failed now.1)

    cut_leaf : MayBeCut g.q g.asked g.seen → g.seen.leaf ≡ None
    cut_leaf cut = elim cut [
      | inl none ↦ ap (λ (s : Seen). s.leaf) none
      | inr some ↦ let is = some.is in ap (λ (s : Seen). s.leaf) is ∙ taking_leaf g.q.public.pad some.k
    ]
      where
        taking_leaf : (pad : Option ℕ) (k : ℕ) → (seen_taking pad k).leaf ≡ None
        taking_leaf None k = refl
        taking_leaf (Some pad) k = refl

    -- what it means, cut off so, may be served
    pub rows_meant_cut : (y : Seen) → HoldsSeen g.q slots true g.asked y → y.leaf ≡ None → y.end ≡ Cut g.asked → MayServe g (record { skeleton = rows_skeleton g.select; seen = y })
    rows_meant_cut y holds leaf end =
        let mine = (rows_cut.told slots held honest).0 in
        let same : y ≡ g.seen = λ i. record {
          k = (holds.k ∙ sym mine.k) i;
          plan = (holds.plan ∙ sym mine.plan) i;
          then = (holds.second ∙ sym mine.second) i;
          leaf = (leaf ∙ sym (cut_leaf rows_cut.seen)) i;
          end = (end ∙ sym end_cut) i;
        } in
        record {
          placed = is.placed;
          same = refl;
          second = ap (λ (s : Seen). s.then) same ∙ cut_asked_all.second;
          may = subst (λ (s : Stage). MaySee s g y) (sym (failed_over failed)) same;
        }

-- ---- what is seen, whatever the store gave
-- it is cut off where the store failed it, and no sooner
pub rows_end : (g : RowsAt) → IsPlaced g → g.seen.end ≡ (if g.failed then Cut g.asked else Whole)
rows_end g is = at_stage g.stage refl is.at
  where
    unfailed_end : g.failed ≡ false → g.seen.end ≡ Whole → g.seen.end ≡ (if g.failed then Cut g.asked else Whole)
    unfailed_end unfailed whole = whole ∙ sym (ap (λ (f : Bool). if f then Cut g.asked else Whole) unfailed)

    taking_end : (pad : Option ℕ) (k : ℕ) → (seen_taking pad k).end ≡ Whole
    taking_end None k = refl
    taking_end (Some pad) k = refl

    counted_end : (n : ℕ) → HasCounted g n → g.failed ≡ false → g.seen.end ≡ (if g.failed then Cut g.asked else Whole)
    counted_end n at unfailed = unfailed_end unfailed (ap (λ (s : Seen). s.end) at.seen ∙ taking_end g.q.public.pad g.k)

    by_failed : (f : Bool) → end_by f g.asked ≡ (if f then Cut g.asked else Whole)
    by_failed true = refl
    by_failed false = refl

    at_stage : (stage : Stage) → g.stage ≡ stage → PlacedAt stage g → g.seen.end ≡ (if g.failed then Cut g.asked else Whole)
    at_stage (Count u) same at = unfailed_end (is.unfailed (ap is_over same)) (ap (λ (s : Seen). s.end) at.seen)
    at_stage Make same at = counted_end (table_blocks g.q) at.0 (is.unfailed (ap is_over same))
    at_stage (Read pass u seen) same at = counted_end (reads_before g.q pass u) at.0.counted (is.unfailed (ap is_over same))
    at_stage (Write pass x) same at = counted_end (writes_before g.q pass x) at.0.counted (is.unfailed (ap is_over same))
    at_stage (Emit x) same at = counted_end (emits_before g.q g.k x) at.0.counted (is.unfailed (ap is_over same))
    at_stage Discard same at = counted_end (emits_before g.q g.k (Smalls.results (small g.q g.k))) at.counted (is.unfailed (ap is_over same))
    at_stage Over same at = at.end ∙ by_failed g.failed

-- no more was asked than the statement asks
pub rows_within : (g : RowsAt) → IsPlaced g → g.asked ≤ length (whole_script g.q.public (rows_skeleton g.select) g.seen)
rows_within g is = at_stage g.stage is.at
  where
    behind : IsBehind g → g.asked ≤ length (whole_script g.q.public (rows_skeleton g.select) g.seen)
    behind b = within_takes g is.flown g.seen g.k g.asked (takes_seen g.q.public.pad g.k g.seen b.counted.seen) (omega (arith, b.counted.asked, b.within))

    at_stage : (stage : Stage) → PlacedAt stage g → g.asked ≤ length (whole_script g.q.public (rows_skeleton g.select) g.seen)
    at_stage (Count u) at = within_count g is.flown g.seen g.asked (omega (arith, at.asked, at.below))
    at_stage Make at = behind (behind_at g is Make refl at)
    at_stage (Read pass u seen) at = behind (behind_at g is (Read pass u seen) refl at)
    at_stage (Write pass x) at = behind (behind_at g is (Write pass x) refl at)
    at_stage (Emit x) at = behind (behind_at g is (Emit x) refl at)
    at_stage Discard at = behind (behind_at g is Discard refl at)
    at_stage Over at = at.within
