-- How all stand after one turn.
use Rattle.std.proofs.Common.{◌≡◌, ◌⊎◌, inl, inr, ℕ, zero, suc, ◌+◌, ◌*◌, ◌<◌, ◌≤◌, Bool, true, false, List, [], ◌∷◌, ◌++◌, Some, None, length, refl, sym, ◌∙◌, ap, subst, arith}
use Rattle.std.specs.Prelude.{is_some, slice_get, slice_set}
use Rattle.std.proofs.lemmas.Bool.{cases_eq, cases_lt}
use Rattle.std.proofs.lemmas.Option.{same_Some, slice_get_within}
use Rattle.ob_base.specs.Events.{Event}
use Rattle.ob_base.specs.declared.config.Public.{Public}
use Rattle.ob_flat.specs.Flats.{Accepts}
use Rattle.ob_script.specs.Flights.{made_by}
use Rattle.ob_script.specs.Trace.{Served}
use Rattle.ob_vault.proofs.Runs.{lasts_trans, lasts_wider, seals_join}
use Rattle.ob_vault.specs.Calls.{Lasts}
use Rattle.ob_vault.specs.Rows.{SameSizes}
use Rattle.ob_inflight.specs.AfterTurns.{AllFit, AllMay, AreFlying, IsMade, KeepCourse, KeepsOn, LeavesRest, booked_by, failed_of, most_of}
use Rattle.ob_inflight.specs.Closing.{Closed, events_at, outcome_at}
use Rattle.ob_inflight.specs.Kinds.{Kind, Moment, share_at}
use Rattle.ob_inflight.specs.Leaving.{Leaves, own_or_next}
use Rattle.ob_script.specs.FlightLaws.{one_if, total}
use Rattle.ob_inflight.specs.Progress.{KeepsCourse, Progress, Steps}
use Rattle.ob_inflight.proofs.Acts.{next_made, region_below, region_new, region_own, region_stays, rises_join, spent_more, step_asked, step_calm, step_faults, step_lasts}
use Rattle.ob_inflight.proofs.Lists.{length-set_at}
use Rattle.ob_script.proofs.FlightEnds.{total_set}
use Rattle.ob_script.proofs.ListPlaces.{get_set_same, get_set_other}
use Rattle.ob_inflight.proofs.Turning.{Laws, may_before}

-- ---- events
pub events_here : (ended : List Closed) (current : List Event) → events_at ended current (length ended) ≡ current
events_here [] current = refl
events_here (one ∷ ended) current = events_here ended current

pub events_there : (ended : List Closed) (a b : List Event) (i : ℕ) → (i ≡ length ended → ⊥) → events_at ended a i ≡ events_at ended b i
events_there [] a b zero off = absurd (off refl)
events_there [] a b (suc i) off = refl
events_there (one ∷ ended) a b zero off = refl
events_there (one ∷ ended) a b (suc i) off = events_there ended a b i (λ e. off (ap suc e))

-- one more has ended
pub ended_here : (ended : List Closed) (one : Closed) → events_at (ended ++ one ∷ []) [] (length ended) ≡ one.events
ended_here [] one = refl
ended_here (first ∷ ended) one = ended_here ended one

pub ended_there : (ended : List Closed) (one : Closed) (current : List Event) (i : ℕ) → (i ≡ length ended → ⊥) → events_at (ended ++ one ∷ []) [] i ≡ events_at ended current i
ended_there [] one current zero off = absurd (off refl)
ended_there [] one current (suc zero) off = refl
ended_there [] one current (suc (suc i)) off = refl
ended_there (first ∷ ended) one current zero off = refl
ended_there (first ∷ ended) one current (suc i) off = ended_there ended one current i (λ e. off (ap suc e))

pub outcome_here : (ended : List Closed) (one : Closed) → outcome_at (ended ++ one ∷ []) (length ended) ≡ Some one.outcome
outcome_here [] one = refl
outcome_here (first ∷ ended) one = outcome_here ended one

pub outcome_there : (ended : List Closed) (one : Closed) (i : ℕ) → (i ≡ length ended → ⊥) → outcome_at (ended ++ one ∷ []) i ≡ outcome_at ended i
outcome_there [] one zero off = absurd (off refl)
outcome_there [] one (suc i) off = refl
outcome_there (first ∷ ended) one zero off = refl
outcome_there (first ∷ ended) one (suc i) off = outcome_there ended one i (λ e. off (ap suc e))

-- ---- one of them is replaced
module _ {F : Type 0} (fs : List F) (i : ℕ) (f g : F) (at : slice_get fs i ≡ Some f) where
  -- who is at a place now: that one, or who was
  pub data Now (gs : List F) (j : ℕ) (h : F) : Type 0 where
    Here : j ≡ i → h ≡ g → Now gs j h
    There : (j ≡ i → ⊥) → slice_get fs j ≡ Some h → Now gs j h

  pub now_at : (gs : List F) → gs ≡ slice_set fs i g → (j : ℕ) (h : F) → slice_get gs j ≡ Some h → Now gs j h
  now_at gs is j h get =
      let got : slice_get (slice_set fs i g) j ≡ Some h = ap (λ (l : List F). slice_get l j) (sym is) ∙ get in
      elim (cases_eq j i) [
        | inl here ↦ Here here (sym (same_Some _ _ (sym (get_set_same fs i f g at) ∙ ap (slice_get (slice_set fs i g)) (sym here) ∙ got)))
        | inr off ↦ There off (sym (get_set_other fs i j g off) ∙ got)
      ]

  pub get_now : (gs : List F) → gs ≡ slice_set fs i g → slice_get gs i ≡ Some g
  get_now gs is = ap (λ (l : List F). slice_get l i) is ∙ get_set_same fs i f g at

  pub get_then : (gs : List F) → gs ≡ slice_set fs i g → (j : ℕ) (h : F) → (j ≡ i → ⊥) → slice_get fs j ≡ Some h → slice_get gs j ≡ Some h
  get_then gs is j h off get = ap (λ (l : List F). slice_get l j) is ∙ get_set_other fs i j g off ∙ get

-- ---- a step
module _ {F : Type 0} (k : Kind F) (laws : Laws k) (p : Public) (share : ℕ) (ended : List Closed) (current later : List Event) (last now : Moment F)
    (stand : AreFlying k p share ended current last) (i : ℕ) (f g : F) (at : slice_get last.flyers i ≡ Some f) (flyers : now.flyers ≡ slice_set last.flyers i g)
    (kept : (j : ℕ) → j < length last.flyers → (j ≡ i → ⊥) → share_at share j now.kept ≡ share_at share j last.kept) (others : ℕ)
    (steps : Steps others (k.progress f) (k.progress g) (k.May f) (k.May g) (k.Needs f) (k.Needs g) last.world now.world) where
  lasts : Lasts (own_or_next (k.progress f).region last.world.vault.next) last.world now.world
  lasts = step_lasts steps.access (k.progress f).region last.world now.world (k.progress g).failed steps.went

  pub step_next : now.world.vault.next ≡ last.world.vault.next + made_by (Some steps.access)
  step_next = next_made steps.access last.world now.world stand.ready lasts.ready lasts.start (step_asked steps.access (k.progress f).region last.world now.world (k.progress g).failed steps.went)

  -- the others need no region that the step may change
  others_leave : (j : ℕ) (h : F) → slice_get last.flyers j ≡ Some h → (j ≡ i → ⊥) → Leaves (k.Needs h) last.world now.world
  others_leave j h get off = lasts_wider (own_or_next (k.progress f).region last.world.vault.next) last.world now.world (λ q. k.Needs h q → ⊥)
      (λ q some need. elim some [
        | inl own ↦ stand.apart i j f h at get (λ e. off (sym e)) q own need
        | inr next ↦ absurd (omega (arith, next, laws.below h (share_at share j last.kept) (events_at ended current j) last.world q (stand.holds j h get) need))
      ]) lasts

  -- it was yet to ask
  left : (k.progress f).over ≡ false
  left =
      let may = laws.served f (share_at share i last.kept) (events_at ended current i) last.world (stand.holds i f at) in
      is_left (k.progress f).over (λ over. let none = (laws.acts f (k.progress f).served last.world.vault.next may).over over in let some = steps.next (k.progress f).served may in cc (none, some))
    where
      is_left : (b : Bool) → (b ≡ true → ⊥) → b ≡ false
      is_left true never = absurd (never refl)
      is_left false never = refl

  pub stand_step : others + (k.progress f).booked ≡ booked_by k last.flyers → length now.kept ≡ length last.kept
      → ((j : ℕ) → (j ≡ i → ⊥) → events_at ended later j ≡ events_at ended current j) → k.Holds g (share_at share i now.kept) (events_at ended later i) now.world
      → AreFlying k p share ended later now
  stand_step rest count same holds = record {
    ready = lasts.ready;
    holds = λ j h get. elim (now_at last.flyers i f g at now.flyers flyers j h get) [
      | Here here is ↦ subst (λ (x : F). k.Holds x (share_at share j now.kept) (events_at ended later j) now.world) (sym is)
          (subst (λ (m : ℕ). k.Holds g (share_at share m now.kept) (events_at ended later m) now.world) (sym here) holds)
      | There off was ↦
          let then = laws.frames h (share_at share j last.kept) (events_at ended current j) last.world now.world (others_leave j h was off) (stand.holds j h was) in
          let rows = kept j (slice_get_within last.flyers j h was) off in
          subst (λ (l : List (List ℕ)). k.Holds h l (events_at ended later j) now.world) (sym rows)
          (subst (λ (e : List Event). k.Holds h (share_at share j last.kept) e now.world) (sym (same j off)) then)
    ];
    outcome = λ j h get. elim (now_at last.flyers i f g at now.flyers flyers j h get) [
      | Here here is ↦ ap (λ (x : F). (k.progress x).outcome) is ∙ steps.outcome ∙ stand.outcome i f at ∙ ap (outcome_at ended) (sym here)
      | There off was ↦ stand.outcome j h was
    ];
    public = λ j h get. elim (now_at last.flyers i f g at now.flyers flyers j h get) [
      | Here here is ↦ ap (λ (x : F). (k.progress x).public) is ∙ steps.course.public ∙ stand.public i f at
      | There off was ↦ stand.public j h was
    ];
    apart = λ j l h m get_h get_m different q own need. elim (now_at last.flyers i f g at now.flyers flyers j h get_h) [
      | Here here is ↦ elim (now_at last.flyers i f g at now.flyers flyers l m get_m) [
        | Here too is_m ↦ absurd (different (here ∙ sym too))
        | There off was ↦ elim (region_own last.world.vault.next (k.progress f).region (k.progress g).region steps.access steps.region q (ap (λ (x : F). (k.progress x).region) (sym is) ∙ own)) [
          | inl before ↦ stand.apart i l f m at was (λ e. off (sym e)) q before need
          | inr next ↦ absurd (omega (arith, next, laws.below m (share_at share l last.kept) (events_at ended current l) last.world q (stand.holds l m was) need))
        ]
      ]
      | There off was ↦ elim (now_at last.flyers i f g at now.flyers flyers l m get_m) [
        | Here too is_m ↦ elim (steps.needs q (subst (λ (x : F). k.Needs x q) is_m need)) [
          | inl before ↦ stand.apart j i h f was at off q own before
          | inr next ↦ absurd (omega (arith, next, stand.below j h was q own))
        ]
        | There off_too was_too ↦ stand.apart j l h m was was_too different q own need
      ]
    ];
    below = λ j h get q own. elim (now_at last.flyers i f g at now.flyers flyers j h get) [
      | Here here is ↦
          let less = region_below last.world.vault.next (k.progress f).region (k.progress g).region steps.access steps.region q (stand.below i f at q) (ap (λ (x : F). (k.progress x).region) (sym is) ∙ own) in
          omega (arith, less, step_next)
      | There off was ↦ let less = stand.below j h was q own in omega (arith, less, step_next)
    ];
    spare =
        let sum = total_set (λ (h : F). (k.progress h).booked) last.flyers i f g at in
        let is : booked_by k now.flyers ≡ total (λ (h : F). (k.progress h).booked) (slice_set last.flyers i g) = ap (booked_by k) flyers in
        omega (arith, sum, is, rest, steps.books.spare);
    few = λ j h get. elim (now_at last.flyers i f g at now.flyers flyers j h get) [
      | Here here is ↦ let e = ap (λ (x : F). (k.progress x).booked) is in omega (arith, e, steps.books.few)
      | There off was ↦ stand.few j h was
    ];
    most = λ j h get yet.
        let sum = total_set (λ (h : F). (k.progress h).most) last.flyers i f g at in
        let is : most_of k now.flyers ≡ total (λ (h : F). (k.progress h).most) (slice_set last.flyers i g) = ap (most_of k) flyers in
        let more = spent_more steps.access last.world now.world lasts.start (step_asked steps.access (k.progress f).region last.world now.world (k.progress g).failed steps.went) in
        omega (arith, sum, is, more, steps.books.most, stand.most i f at left);
    several = let e = ap (λ (l : List F). length l) flyers ∙ length-set_at last.flyers i g in omega (arith, e, stand.several);
    shares = count ∙ stand.shares ∙ ap (λ (m : ℕ). m * share) (sym (ap (λ (l : List F). length l) flyers ∙ length-set_at last.flyers i g));
    narrow = stand.narrow;
  }

  -- what has changed since the start
  pub rest_step : (start : Moment F) → LeavesRest k p start last → LeavesRest k p start now
  rest_step start rest = record {
    lasts = lasts_trans (λ q. start.world.vault.next ≤ q) start.world last.world now.world rest.lasts
        (lasts_wider (own_or_next (k.progress f).region last.world.vault.next) last.world now.world (λ q. start.world.vault.next ≤ q) within lasts);
    own = λ j h get q own. elim (now_at last.flyers i f g at now.flyers flyers j h get) [
      | Here here is ↦ within q (region_own last.world.vault.next (k.progress f).region (k.progress g).region steps.access steps.region q (ap (λ (x : F). (k.progress x).region) (sym is) ∙ own))
      | There off was ↦ rest.own j h was q own
    ];
    made = λ q least less. elim (cases_lt_next q) [
      | inl before ↦ made_before (rest.made q least before)
      | inr after ↦ record {
        place = i;
        flyer = g;
        at = get_now last.flyers i f g at now.flyers flyers;
        made = region_new last.world.vault.next (k.progress f).region (k.progress g).region steps.access steps.region q after (omega (arith, less, step_next));
      }
    ];
    faults =
        let sum = total_set (λ (h : F). one_if (k.progress h).failed) last.flyers i f g at in
        let is : failed_of k now.flyers ≡ total (λ (h : F). one_if (k.progress h).failed) (slice_set last.flyers i g) = ap (failed_of k) flyers in
        let none : one_if (k.progress f).failed ≡ 0 = ap one_if steps.unfailed in
        rises_join (failed_of k last.flyers) (one_if (k.progress g).failed) (failed_of k now.flyers) start.world.store.faults last.world.store.faults now.world.store.faults (omega (arith, sum, is, none)) rest.faults
        (step_faults steps.access (k.progress f).region last.world now.world (k.progress g).failed steps.went);
    calm = λ calm. step_calm steps.access (k.progress f).region last.world now.world (k.progress g).failed steps.went (rest.calm calm);
    seals = λ good accepts. seals_join good start.world last.world now.world rest.lasts.later (rest.seals good accepts)
        (steps.seals good (λ columns region. subst (λ (n : ℕ). Accepts good n columns region) (sym (ap (λ (q : Public). q.pack) (stand.public i f at))) (accepts columns region)));
  }
    where
      cases_lt_next : (q : ℕ) → (q < last.world.vault.next) ⊎ (last.world.vault.next ≤ q)
      cases_lt_next q = cases_lt q last.world.vault.next

      within : (q : ℕ) → own_or_next (k.progress f).region last.world.vault.next q → start.world.vault.next ≤ q
      within q some = elim some [
        | inl own ↦ rest.own i f at q own
        | inr next ↦ let e = rest.lasts.shapes.next in omega (arith, next, e)
      ]

      made_before : {q : ℕ} → IsMade k q last → IsMade k q now
      made_before {q} was = elim (cases_eq was.place i) [
        | inl here ↦
            let is : was.flyer ≡ f = same_Some _ _ (sym was.at ∙ ap (slice_get last.flyers) here ∙ at) in
            record {
              place = i;
              flyer = g;
              at = get_now last.flyers i f g at now.flyers flyers;
              made = region_stays last.world.vault.next (k.progress f).region (k.progress g).region steps.access steps.region q (ap (λ (x : F). (k.progress x).region) (sym is) ∙ was.made);
            }
        | inr off ↦ record { place = was.place; flyer = was.flyer; at = get_then last.flyers i f g at now.flyers flyers was.place was.flyer off was.at; made = was.made }
      ]

-- ---- the rows of those that have not ended
pub fit_next : {F : Type 0} (k : Kind F) (laws : Laws k) (share : ℕ) (rows_old rows_new : List (List ℕ)) (last now : Moment F) (i : ℕ) (f g : F) → slice_get last.flyers i ≡ Some f → now.flyers ≡ slice_set last.flyers i g
    → SameSizes rows_old rows_new → ((j : ℕ) → j < length last.flyers → (j ≡ i → ⊥) → share_at share j now.kept ≡ share_at share j last.kept)
    → ((k.progress g).outcome ≡ None → k.Fits g rows_new (share_at share i now.kept)) → AllFit k share rows_old last → AllFit k share rows_new now
fit_next {F} k laws share rows_old rows_new last now i f g at flyers same kept fits all = record {
  each = λ j h get going. elim (now_at last.flyers i f g at now.flyers flyers j h get) [
    | Here here is ↦ subst (λ (x : F). k.Fits x rows_new (share_at share j now.kept)) (sym is)
        (subst (λ (m : ℕ). k.Fits g rows_new (share_at share m now.kept)) (sym here) (fits (ap (λ (x : F). (k.progress x).outcome) (sym is) ∙ going)))
    | There off was ↦
        let rows = kept j (slice_get_within last.flyers j h was) off in
        let one = all.each j h was going in
        laws.refits h rows_old (share_at share j last.kept) rows_new (share_at share j now.kept) same (same_rows (sym rows)) one
  ];
}
  where
    same_rows : {a b : List (List ℕ)} → a ≡ b → SameSizes a b
    same_rows {a} e = subst (λ (l : List (List ℕ)). SameSizes a l) e (record { count = refl; sizes = λ j. refl })

-- ---- what they serve
pub course_next : {F : Type 0} (k : Kind F) (start last now : Moment F) (i : ℕ) (f g : F) → slice_get last.flyers i ≡ Some f → now.flyers ≡ slice_set last.flyers i g → KeepsCourse (k.progress f) (k.progress g)
    → KeepCourse k start last → KeepCourse k start now
course_next {F} k start last now i f g at flyers same course = record {
  size = ap (λ (l : List F). length l) flyers ∙ length-set_at last.flyers i g ∙ course.size;
  each = λ j a b get_a get_b. elim (now_at last.flyers i f g at now.flyers flyers j b get_b) [
    | Here here is ↦
        let was = course.each j a f get_a (ap (slice_get last.flyers) here ∙ at) in
        let it : Progress → Type 0 = λ q. KeepsCourse (k.progress a) q in
        subst it (ap k.progress (sym is)) (record { stmt = same.stmt ∙ was.stmt; flat = same.flat ∙ was.flat; refusal = same.refusal ∙ was.refusal; public = same.public ∙ was.public })
    | There off was ↦ course.each j a b get_a was
  ];
}

-- ---- what was so is so after one turn more
-- of those that had ended none was picked
pub keeps_next : {F : Type 0} (k : Kind F) (before more : List Closed) (last now : Moment F) (i : ℕ) (f g : F) → slice_get last.flyers i ≡ Some f → now.flyers ≡ slice_set last.flyers i g
    → (k.progress f).outcome ≡ None → ((k.progress f).failed ≡ true → ((k.progress g).served ≡ (k.progress f).served) × ((k.progress g).failed ≡ true)) → ((x : Served) → k.May g x → k.May f x)
    → KeepsOn k before (before ++ more) last now
keeps_next {F} k before more last now i f g at flyers going seen may = record {
  size = ap (λ (l : List F). length l) flyers ∙ length-set_at last.flyers i g;
  more = more;
  first = refl;
  same = λ j a b get_a get_b is. elim (now_at last.flyers i f g at now.flyers flyers j b get_b) [
    | Here here it ↦
        let was : a ≡ f = same_Some _ _ (sym get_a ∙ ap (slice_get last.flyers) here ∙ at) in
        let none : is_some (k.progress a).outcome ≡ false = ap (λ (x : F). is_some (k.progress x).outcome) was ∙ ap is_some going in
        absurd (cc (is, none))
    | There off was ↦ let it : a ≡ b = same_Some _ _ (sym get_a ∙ was) in ap (λ (x : F). k.progress x) (sym it)
  ];
  failed = λ j a b get_a get_b is. elim (now_at last.flyers i f g at now.flyers flyers j b get_b) [
    | Here here it ↦
        let was : a ≡ f = same_Some _ _ (sym get_a ∙ ap (slice_get last.flyers) here ∙ at) in
        let kept = seen (ap (λ (x : F). (k.progress x).failed) (sym was) ∙ is) in
        (ap (λ (x : F). (k.progress x).served) it ∙ kept.0 ∙ ap (λ (x : F). (k.progress x).served) (sym was), ap (λ (x : F). (k.progress x).failed) it ∙ kept.1)
    | There off was ↦
        let it : a ≡ b = same_Some _ _ (sym get_a ∙ was) in
        (ap (λ (x : F). (k.progress x).served) (sym it), ap (λ (x : F). (k.progress x).failed) (sym it) ∙ is)
  ];
  may = λ xs all. may_before k last.flyers xs i f g at may (subst (λ (fs : List F). AllMay k.May fs xs) flyers all);
}
