-- How all stand after an end.
use Rattle.std.proofs.Common.{◌≡◌, inl, inr, ℕ, ◌+◌, ◌*◌, ◌<◌, List, [], ◌∷◌, ◌++◌, Some, None, Option, length, sym, ◌∙◌, ap, subst, arith}
use Rattle.std.specs.Prelude.{is_some, slice_get, slice_set}
use Rattle.std.proofs.lemmas.Bool.{cases_eq}
use Rattle.ob_base.specs.Events.{Event}
use Rattle.ob_base.specs.declared.config.Public.{Public}
use Rattle.ob_script.specs.Flights.{acted}
use Rattle.ob_script.specs.Trace.{Served}
use Rattle.ob_vault.specs.Numbers.{spent}
use Rattle.ob_vault.specs.State.{World}
use Rattle.ob_vault.specs.Tied.{Ready}
use Rattle.ob_verdict.specs.declared.outcome.Outcome.{Outcome}
use Rattle.ob_inflight.specs.AfterTurns.{AreFlying, IsMade, LeavesRest}
use Rattle.ob_inflight.specs.Closing.{Closed, RisesBy, events_at, outcome_at}
use Rattle.ob_inflight.specs.Kinds.{Kind, Moment, moment, share_at}
use Rattle.ob_script.specs.FlightLaws.{one_if, total}
use Rattle.ob_inflight.specs.Progress.{Progress, flying_of}
use Rattle.ob_inflight.proofs.Lists.{length-set_at}
use Rattle.ob_script.proofs.FlightEnds.{total_set}
use Rattle.std.proofs.lemmas.Option.{same_Some}
use Rattle.ob_inflight.proofs.Turning.{outcome_open}
use Rattle.ob_inflight.proofs.Standing.{Here, There, ended_here, ended_there, get_now, get_then, now_at, outcome_here, outcome_there}

-- the same number of each
pub same_total : {F : Type 0} (n : F → ℕ) (fs gs : List F) (i : ℕ) (f g : F) → slice_get fs i ≡ Some f → gs ≡ slice_set fs i g → n g ≡ n f → total n gs ≡ total n fs
same_total n fs gs i f g at is same = let sum = total_set n fs i f g at in let e = ap (total n) is in omega (arith, sum, e, same)

module _ {F : Type 0} (k : Kind F) (p : Public) (share : ℕ) (ended : List Closed) (current more : List Event) (last now : Moment F) (stand : AreFlying k p share ended current last)
    (i : ℕ) (f g : F) (at : slice_get last.flyers i ≡ Some f) (flyers : now.flyers ≡ slice_set last.flyers i g) (kept : now.kept ≡ last.kept) (world : now.world ≡ last.world) (first : i ≡ length ended)
    (outcome : Outcome) (answered : k.progress g ≡ record (k.progress f) { outcome = Some outcome }) (needs : (q : ℕ) → k.Needs g q → k.Needs f q) where
  pub stand_ends : k.Holds g (share_at share i now.kept) (current ++ more) now.world → AreFlying k p share (ended ++ (record { outcome = outcome; events = current ++ more }) ∷ []) [] now
  stand_ends holds =
      let closed : Closed = record { outcome = outcome; events = current ++ more } in
      record {
        ready = subst (λ (w : World). Ready w) (sym world) stand.ready;
        holds = λ j h get. elim (now_at last.flyers i f g at now.flyers flyers j h get) [
          | Here here is ↦
              let there : j ≡ length ended = here ∙ first in
              let events : events_at (ended ++ closed ∷ []) [] j ≡ current ++ more = ap (events_at (ended ++ closed ∷ []) []) there ∙ ended_here ended closed in
              subst (λ (x : F). k.Holds x (share_at share j now.kept) (events_at (ended ++ closed ∷ []) [] j) now.world) (sym is)
              (subst (λ (m : ℕ). k.Holds g (share_at share m now.kept) (events_at (ended ++ closed ∷ []) [] j) now.world) (sym here)
              (subst (λ (e : List Event). k.Holds g (share_at share i now.kept) e now.world) (sym events) holds))
          | There off was ↦
              let events = ended_there ended closed current j (λ e. off (e ∙ sym first)) in
              subst (λ (e : List Event). k.Holds h (share_at share j now.kept) e now.world) (sym events)
              (subst (λ (w : World). k.Holds h (share_at share j now.kept) (events_at ended current j) w) (sym world)
              (subst (λ (l : List (List ℕ)). k.Holds h (share_at share j l) (events_at ended current j) last.world) (sym kept) (stand.holds j h was)))
        ];
        outcome = λ j h get. elim (now_at last.flyers i f g at now.flyers flyers j h get) [
          | Here here is ↦
              let there : j ≡ length ended = here ∙ first in
              ap (λ (x : F). (k.progress x).outcome) is ∙ ap (λ (q : Progress). q.outcome) answered ∙ sym (outcome_here ended closed) ∙ ap (outcome_at (ended ++ closed ∷ [])) (sym there)
          | There off was ↦ stand.outcome j h was ∙ sym (outcome_there ended closed j (λ e. off (e ∙ sym first)))
        ];
        public = λ j h get. elim (now_at last.flyers i f g at now.flyers flyers j h get) [
          | Here here is ↦ ap (λ (x : F). (k.progress x).public) is ∙ ap (λ (q : Progress). q.public) answered ∙ stand.public i f at
          | There off was ↦ stand.public j h was
        ];
        apart = λ j l h m get_h get_m different q own need. elim (now_at last.flyers i f g at now.flyers flyers j h get_h) [
          | Here here is ↦ elim (now_at last.flyers i f g at now.flyers flyers l m get_m) [
            | Here too is_m ↦ absurd (different (here ∙ sym too))
            | There off was ↦ stand.apart i l f m at was (λ e. off (sym e)) q (sym (ap (λ (q : Progress). q.region) answered) ∙ sym (ap (λ (x : F). (k.progress x).region) is) ∙ own) need
          ]
          | There off was ↦ elim (now_at last.flyers i f g at now.flyers flyers l m get_m) [
            | Here too is_m ↦ stand.apart j i h f was at off q own (needs q (subst (λ (x : F). k.Needs x q) is_m need))
            | There off_too was_too ↦ stand.apart j l h m was was_too different q own need
          ]
        ];
        below = λ j h get q own. elim (now_at last.flyers i f g at now.flyers flyers j h get) [
          | Here here is ↦ subst (λ (w : World). q < w.vault.next) (sym world) (stand.below i f at q (sym (ap (λ (q : Progress). q.region) answered) ∙ sym (ap (λ (x : F). (k.progress x).region) is) ∙ own))
          | There off was ↦ subst (λ (w : World). q < w.vault.next) (sym world) (stand.below j h was q own)
        ];
        spare =
            let e = same_total (λ (h : F). (k.progress h).booked) last.flyers now.flyers i f g at flyers (ap (λ (q : Progress). q.booked) answered) in
            let s = ap (λ (w : World). w.store.spare) world in
            omega (arith, e, s, stand.spare);
        few = λ j h get. elim (now_at last.flyers i f g at now.flyers flyers j h get) [
          | Here here is ↦ let e = ap (λ (x : F). (k.progress x).booked) is ∙ ap (λ (q : Progress). q.booked) answered in omega (arith, e, stand.few i f at)
          | There off was ↦ stand.few j h was
        ];
        most = λ j h get yet.
            let e = same_total (λ (h : F). (k.progress h).most) last.flyers now.flyers i f g at flyers (ap (λ (q : Progress). q.most) answered) in
            let s = ap spent world in
            elim (now_at last.flyers i f g at now.flyers flyers j h get) [
              | Here here is ↦ omega (arith, e, s, stand.most i f at (sym (ap (λ (q : Progress). q.over) answered) ∙ sym (ap (λ (x : F). (k.progress x).over) is) ∙ yet))
              | There off was ↦ omega (arith, e, s, stand.most j h was yet)
            ];
        several = let e = ap (λ (l : List F). length l) flyers ∙ length-set_at last.flyers i g in omega (arith, e, stand.several);
        shares = ap (λ (l : List (List ℕ)). length l) kept ∙ stand.shares ∙ ap (λ (m : ℕ). m * share) (sym (ap (λ (l : List F). length l) flyers ∙ length-set_at last.flyers i g));
        narrow = stand.narrow;
      }

  pub rest_ends : (start : Moment F) → LeavesRest k p start last → LeavesRest k p start now
  rest_ends start rest = subst (λ (w : World). LeavesRest k p start (moment now.flyers now.kept w)) (sym world) (record {
    lasts = rest.lasts;
    own = λ j h get q own. elim (now_at last.flyers i f g at now.flyers flyers j h get) [
      | Here here is ↦ rest.own i f at q (sym (ap (λ (q : Progress). q.region) answered) ∙ sym (ap (λ (x : F). (k.progress x).region) is) ∙ own)
      | There off was ↦ rest.own j h was q own
    ];
    made = λ q least less. made_before (rest.made q least less);
    faults = subst (λ (n : ℕ). RisesBy n start.world.store.faults last.world.store.faults)
        (sym (same_total (λ (h : F). one_if (k.progress h).failed) last.flyers now.flyers i f g at flyers (ap (λ (q : Progress). one_if q.failed) answered))) rest.faults;
    calm = rest.calm;
    seals = rest.seals;
  })
    where
      made_before : {q : ℕ} → IsMade k q last → IsMade k q (moment now.flyers now.kept last.world)
      made_before {q} was = elim (cases_eq was.place i) [
        | inl here ↦
            let is : was.flyer ≡ f = same_Some _ _ (sym was.at ∙ ap (slice_get last.flyers) here ∙ at) in
            record {
              place = i;
              flyer = g;
              at = get_now last.flyers i f g at now.flyers flyers;
              made = ap (λ (q : Progress). q.region) answered ∙ ap (λ (x : F). (k.progress x).region) (sym is) ∙ was.made;
            }
        | inr off ↦ record { place = was.place; flyer = was.flyer; at = get_then last.flyers i f g at now.flyers flyers was.place was.flyer off was.at; made = was.made }
      ]

  -- its end is an act
  pub ends_acts : (k.progress g).asked + one_if (is_some (k.progress g).outcome) ≡ (k.progress f).asked + one_if (is_some (k.progress f).outcome) + 1
  ends_acts =
      let asked : (k.progress g).asked ≡ (k.progress f).asked = ap (λ (q : Progress). q.asked) answered in
      let now_is : one_if (is_some (k.progress g).outcome) ≡ 1 = ap (λ (q : Progress). one_if (is_some q.outcome)) answered in
      let was : one_if (is_some (k.progress f).outcome) ≡ 0 = ap (λ (o : Option Outcome). one_if (is_some o)) (stand.outcome i f at ∙ outcome_open ended i (omega (arith, first))) in
      omega (arith, asked, now_is, was)

  pub ends_flying : (x : Served) → acted None (flying_of (k.progress f) x) ≡ flying_of (k.progress g) x
  ends_flying x = ap (λ (q : Progress). flying_of q x) (sym answered)
