-- One turn of statements in flight.
use Rattle.std.proofs.Common.{◌≡◌, ◌⊎◌, inl, inr, ℕ, zero, suc, ◌+◌, ◌<◌, ◌≤◌, ◌^◌, Bool, true, false, List, [], ◌∷◌, ◌++◌, Some, None, Option, map, length, drop, refl, sym, ◌∙◌, ap, subst, arith, length-append}
use Rattle.std.specs.Prelude.{Ok, Err, is_some, slice_get, slice_set}
use Rattle.std.proofs.lemmas.Bool.{cases_eq}
use Rattle.std.proofs.lemmas.List.{append-nil, length-drop, length-map}
use Rattle.std.proofs.lemmas.Option.{same_Some, slice_get_within}
use Rattle.ob_base.specs.Events.{Event}
use Rattle.ob_base.specs.declared.access.Access.{Access}
use Rattle.ob_base.specs.declared.config.Public.{Public}
use Rattle.ob_flat.specs.declared.fault.OpErr.{OpErr}
use Rattle.ob_script.specs.Flights.{Flight, accesses_in, entry_of, place_by, prints, turns}
use Rattle.ob_script.specs.Trace.{Served}
use Rattle.ob_store.proofs.Steps.{later_refl}
use Rattle.ob_store.specs.Runs.{Later}
use Rattle.ob_vault.proofs.Runs.{lasts_trans, lasts_wider, seals_join, seals_none}
use Rattle.ob_vault.proofs.WorldSteps.{lasts_none}
use Rattle.ob_vault.specs.Rows.{SameSizes}
use Rattle.ob_flat.specs.Flats.{Accepts}
use Rattle.ob_verdict.specs.declared.outcome.Outcome.{Outcome}
use Rattle.ob_inflight.specs.AfterTurns.{AllFit, AllMay, AreBoarded, AreFlying, IsInFlight, IsBegun, KeepsOn, LeavesRest, most_of, setting_off}
use Rattle.ob_inflight.specs.Answers.{More}
use Rattle.ob_inflight.specs.Closing.{Closed, ClosesAll, RisesBy, events_at}
use Rattle.ob_inflight.specs.FlightOutcome.{HasFlown, StopsFlight, StopsInClosing, StopsInFinish}
use Rattle.ob_inflight.specs.Kinds.{Kind, Moment, Taker, moment, share_at}
use Rattle.ob_inflight.specs.Leaving.{own_or_next}
use Rattle.ob_inflight.specs.Parts.{EndsAt, EndsInClosing, EndsInFinish, EndsWhole, HasTurned, MayEnd, MayStep, MayTurn, StepsAt, TakesTurn, left_to}
use Rattle.ob_inflight.specs.Picking.{going}
use Rattle.ob_script.specs.FlightLaws.{one_if, total}
use Rattle.ob_inflight.specs.Progress.{KeepsCourse, Progress}
use Rattle.ob_inflight.proofs.Acts.{reads_calm, reads_cut, calm_none, rises_none, step_asked, step_calm, step_lasts, stops_faults}
use Rattle.ob_inflight.proofs.Emitting.{emitted_ends, emitted_more}
use Rattle.ob_inflight.proofs.Ending.{ends_acts, ends_flying, rest_ends, same_total, stand_ends}
use Rattle.ob_inflight.proofs.Lists.{get_some, length-set_at, total_few}
use Rattle.ob_script.proofs.FlightEnds.{total_none, total_set, total_part}
use Rattle.ob_inflight.proofs.Picks.{IsGoing, picked_going, going_some}
use Rattle.ob_inflight.proofs.Standing.{course_next, events_here, events_there, fit_next, keeps_next, rest_step, stand_step, step_next}
use Rattle.ob_inflight.proofs.Stopping.{began_next, begun_next, keeps_same, past_now, past_still, went_on}
use Rattle.ob_inflight.proofs.Turning.{Laws, asks_none, asks_some, log_on, outcome_open, turn_on, turned_next, turned_none}

-- ---- who was picked
get_drop : {A : Type 0} (n : ℕ) (xs : List A) (m : ℕ) → slice_get (drop n xs) m ≡ slice_get xs (n + m)
get_drop zero xs m = let e : m ≡ 0 + m = omega arith in ap (slice_get xs) e
get_drop (suc n) [] m = refl
get_drop (suc n) (x ∷ xs) m = let e : suc n + m ≡ suc (n + m) = omega arith in get_drop n xs m ∙ ap (slice_get (x ∷ xs)) (sym e)

get_map : {A B : Type 0} (f : A → B) (xs : List A) (m : ℕ) (x : A) → slice_get xs m ≡ Some x → slice_get (map f xs) m ≡ Some (f x)
get_map f [] m x at = cc
get_map f (y ∷ xs) zero x at = ap (λ z. Some (f z)) (same_Some _ _ at)
get_map f (y ∷ xs) (suc m) x at = get_map f xs m x at

pub record IsPicked {F : Type 0} (k : Kind F) (e i : ℕ) (fs : List F) : Type 0 where
  pub after : e ≤ i
  pub within : i < length fs
  pub first : (f : F) → slice_get fs i ≡ Some f → (k.progress f).prints ≡ true → i ≡ e

pub is_picked : {F : Type 0} (k : Kind F) (word e i : ℕ) (fs : List F) → e < length fs → i < length fs
    → ((none : ℕ) → i ≡ place_by word none (going true e (map (λ (f : F). (k.progress f).prints) (drop e fs)))) → IsPicked k e i fs
is_picked {F} k word e i fs some less place =
    let bs : List Bool = map (λ (f : F). (k.progress f).prints) (drop e fs) in
    let o : IsGoing true e i bs = subst (λ (j : ℕ). IsGoing true e j bs) (sym (place 0)) (picked_going word 0 e bs (more (drop e fs) refl)) in
    record {
      after = omega (arith, o.is);
      within = less;
      first = λ f at printing.
          let there : slice_get (drop e fs) o.at ≡ Some f = get_drop e fs o.at ∙ ap (slice_get fs) (sym o.is) ∙ at in
          let same : o.printing ≡ (k.progress f).prints = same_Some _ _ (sym o.get ∙ get_map (λ (f : F). (k.progress f).prints) (drop e fs) o.at f there) in
          omega (arith, o.is, (o.quiet (same ∙ printing)).0);
    }
  where
    more : (gs : List F) → drop e fs ≡ gs → 1 ≤ length (going true e (map (λ (f : F). (k.progress f).prints) gs))
    more [] is =
        let first = get_some fs e some in
        let e_plus : e + 0 ≡ e = omega arith in
        absurd (cc (sym (get_drop e fs 0 ∙ ap (slice_get fs) e_plus ∙ first.1) ∙ ap (λ (l : List F). slice_get l 0) is))
    more (g ∷ gs) is = going_some e (k.progress g).prints (map (λ (f : F). (k.progress f).prints) gs)

pub picked_by : {F : Type 0} (k : Kind F) (word count e i : ℕ) (fs : List F) → count ≡ e → count < length fs → i < length fs
    → ((none : ℕ) → i ≡ place_by word none (going true count (map (λ (f : F). (k.progress f).prints) (drop count fs)))) → IsPicked k e i fs
picked_by k word count e i fs counts some within place = subst (λ (m : ℕ). IsPicked k m i fs) counts (is_picked k word count i fs some within place)

pub picked_within : {F : Type 0} (prints : F → Bool) (word e i : ℕ) (fs : List F) → e < length fs → 1 ≤ length (going true e (map prints (drop e fs)))
    → ((none : ℕ) → i ≡ place_by word none (going true e (map prints (drop e fs)))) → i < length fs
picked_within {F} prints word e i fs some one place =
    let bs : List Bool = map prints (drop e fs) in
    let o : IsGoing true e i bs = subst (λ (j : ℕ). IsGoing true e j bs) (sym (place 0)) (picked_going word 0 e bs one) in
    omega (arith, o.is, slice_get_within bs o.at o.printing o.get, length-map (drop e fs) prints, length-drop e fs, some)

pub over_prints : {F : Type 0} (k : Kind F) (laws : Laws k) (f : F) (x : Served) (n : ℕ) → k.May f x → (k.progress f).over ≡ true → (k.progress f).prints ≡ true
over_prints k laws f x n may over = sym (laws.acts f x n may).prints ∙ ap (prints (k.progress f).region) ((laws.acts f x n may).over over)

module _ {F : Type 0} (k : Kind F) (laws : Laws k) (p : Public) (share : ℕ) (rows : List (List ℕ)) (ended : List Closed) (current : List Event) (last : Moment F)
    (stand : AreFlying k p share ended current last) (fit : AllFit k share rows last) (i : ℕ) (f : F) (at : slice_get last.flyers i ≡ Some f) (after : length ended ≤ i) where
  outcome_none : (k.progress f).outcome ≡ None
  outcome_none = stand.outcome i f at ∙ outcome_open ended i after

  pub may_step : (k.progress f).over ≡ false → MayStep k share i rows last
  may_step left =
      let most = total_part (λ (h : F). (k.progress h).most) last.flyers i f at in
      let small = total_few (λ (h : F). (k.progress h).booked) (2 ^ 59) last.flyers stand.few in
      record {
        flyer = f;
        at = at;
        several = stand.several;
        shares = stand.shares;
        narrow = stand.narrow;
        ready = stand.ready;
        few = omega (arith, most, stand.most i f at left);
        spare = stand.spare;
        small = omega (arith, small, stand.several);
        left = left;
        fits = fit.each i f at outcome_none;
        held = record { events = events_at ended current i; holds = stand.holds i f at };
      }

  pub may_end : (k.progress f).over ≡ true → MayEnd k share i last.flyers last.kept
  may_end over = record {
    flyer = f;
    at = at;
    several = stand.several;
    shares = stand.shares;
    narrow = stand.narrow;
    over = over;
    going = outcome_none;
    held = record { world = last.world; held = record { events = events_at ended current i; holds = stand.holds i f at } };
  }

  -- one that is over is the first that has not ended
  pub over_first : IsPicked k (length ended) i last.flyers → (k.progress f).over ≡ true → i ≡ length ended
  over_first picked over = picked.first f at (over_prints k laws f (k.progress f).served 0 (laws.served f (share_at share i last.kept) (events_at ended current i) last.world (stand.holds i f at)) over)

-- what a step may change was made since the start
own_within : {F : Type 0} (k : Kind F) (p : Public) (start last : Moment F) (rest : LeavesRest k p start last) (i : ℕ) (f : F) → slice_get last.flyers i ≡ Some f
    → (q : ℕ) → own_or_next (k.progress f).region last.world.vault.next q → start.world.vault.next ≤ q
own_within k p start last rest i f at q some = elim some [
  | inl own ↦ rest.own i f at q own
  | inr next ↦ let e = rest.lasts.shapes.next in omega (arith, next, e)
]

module _ {F E : Type 0} (k : Kind F) (t : Taker E) (laws : Laws k) (words : ℕ → ℕ) (n share count : ℕ) (rows_old rows_new : List (List ℕ)) (start last now : Moment F)
    (out_start out_old out_new : E) (turned : HasTurned k t words n share count rows_old start last out_start out_old) (i : ℕ)
    (place : (none : ℕ) → i ≡ place_by (words n) none (going true (length turned.ended) (map (λ (f : F). (k.progress f).prints) (drop (length turned.ended) last.flyers))))
    (picked : IsPicked k (length turned.ended) i last.flyers) (same : SameSizes rows_old rows_new) where
  abbrev e : ℕ
  e = length turned.ended

  -- ---- a step
  module _ (count_kept : length now.kept ≡ length last.kept) {T : Type 0} (x : T) (did : StepsAt k t share i (Ok x) rows_new last now out_old out_new) where
    -- what it emitted
    step_more : More t.grew (k.progress did.before).prints (k.Holds did.after (share_at share i now.kept)) (events_at turned.ended turned.current i) now.world out_old out_new
    step_more = did.tells.ok (events_at turned.ended turned.current i) (turned.aloft.stand.holds i did.before did.at)

    step_keeps : KeepsOn k turned.ended turned.ended last now
    step_keeps =
        subst (λ (l : List Closed). KeepsOn k turned.ended l last now) (append-nil turned.ended)
        (keeps_next k turned.ended [] last now i did.before did.after did.at did.flyers (turned.aloft.stand.outcome i did.before did.at ∙ outcome_open turned.ended i picked.after)
        (λ is. absurd (let no = did.steps.unfailed in cc (is, no))) did.steps.may)

    step_later : Later last.world.store now.world.store
    step_later = (step_lasts did.steps.access (k.progress did.before).region last.world now.world (k.progress did.after).failed did.steps.went).later

    step_in_flight : IsInFlight k words (n + 1) turned.public share turned.ended (turned.current ++ step_more.more) start now
    step_in_flight =
        let f = did.before in
        let g = did.after in
        let steps = did.steps in
        let stand = turned.aloft.stand in
        let more = step_more in
        let later : List Event = turned.current ++ more.more in
        let next = λ (x : Served) (may : k.May f x). steps.next x may in
        let went = steps.went in
        let v = now.world in
        let asked = step_asked steps.access (k.progress f).region last.world v (k.progress g).failed went in
        record {
          stand = stand_step k laws turned.public share turned.ended turned.current later last now stand i f g did.at did.flyers did.kept did.others steps did.rest count_kept
              (λ j off. others_same more.more (quiet_off more.quiet) j off) (holds_now more.more (quiet_off more.quiet) more.holds);
          turned = turned_next k laws words n turned.public share turned.ended turned.current start last stand turned.aloft.turned i f did.at place (Some steps.access) next g now did.flyers steps.may
              (λ x. λ j. record { served = x; asked = sym steps.asked j; region = sym steps.region.now j; ended = is_some (sym steps.outcome j) })
              (step_next k laws turned.public share turned.ended turned.current later last now stand i f g did.at did.flyers did.kept did.others steps)
              (asked ∙ ap (λ (l : List Access). last.world.store.asked ++ l) (sym (asks_some steps.access)))
              (let o = ap (λ (o : Option Outcome). one_if (is_some o)) steps.outcome in omega (arith, steps.asked, o));
          rest = rest_step k laws turned.public share turned.ended turned.current later last now stand i f g did.at did.flyers did.kept did.others steps start turned.aloft.rest;
          course = course_next k start last now i f g did.at did.flyers steps.course turned.aloft.course;
        }
      where
        quiet_off : {more : List Event} {P : Type 0} → ((k.progress did.before).prints ≡ false → (more ≡ []) × P) → (i ≡ e → ⊥) → more ≡ []
        quiet_off {more} quiet off = go (k.progress did.before).prints refl
          where
            go : (b : Bool) → (k.progress did.before).prints ≡ b → more ≡ []
            go true is = absurd (off (picked.first did.before did.at is))
            go false is = (quiet is).0

        -- the events of the others are as they were
        others_same : (more : List Event) → ((i ≡ e → ⊥) → more ≡ []) → (j : ℕ) → (j ≡ i → ⊥) → events_at turned.ended (turned.current ++ more) j ≡ events_at turned.ended turned.current j
        others_same more none j off = elim (cases_eq j e) [
          | inl here ↦
              let gone = none (λ it. off (here ∙ sym it)) in
              ap (λ (l : List Event). events_at turned.ended (turned.current ++ l) j) gone ∙ ap (λ (l : List Event). events_at turned.ended l j) (append-nil turned.current)
          | inr away ↦ events_there turned.ended (turned.current ++ more) turned.current j away
        ]

        holds_now : (more : List Event) → ((i ≡ e → ⊥) → more ≡ []) → k.Holds did.after (share_at share i now.kept) (events_at turned.ended turned.current i ++ more) now.world
            → k.Holds did.after (share_at share i now.kept) (events_at turned.ended (turned.current ++ more) i) now.world
        holds_now more none holds = subst (λ (l : List Event). k.Holds did.after (share_at share i now.kept) l now.world) events holds
          where
            events : events_at turned.ended turned.current i ++ more ≡ events_at turned.ended (turned.current ++ more) i
            events = elim (cases_eq i e) [
              | inl here ↦
                  ap (λ (j : ℕ). events_at turned.ended turned.current j ++ more) here ∙ ap (λ (l : List Event). l ++ more) (events_here turned.ended turned.current)
                  ∙ sym (events_here turned.ended (turned.current ++ more)) ∙ ap (events_at turned.ended (turned.current ++ more)) (sym here)
              | inr away ↦
                  ap (λ (l : List Event). events_at turned.ended turned.current i ++ l) (none away) ∙ append-nil (events_at turned.ended turned.current i)
                  ∙ events_there turned.ended turned.current (turned.current ++ more) i away
            ]

    pub step_turns : HasTurned k t words (n + 1) share count rows_new start now out_start out_new
    step_turns =
        let f = did.before in
        let g = did.after in
        let steps = did.steps in
        let stand = turned.aloft.stand in
        let next = λ (x : Served) (may : k.May f x). steps.next x may in
        let went = steps.went in
        let v = now.world in
        let asked = step_asked steps.access (k.progress f).region last.world v (k.progress g).failed went in
        let long = ap (λ (l : List F). length l) did.flyers ∙ length-set_at last.flyers i g in
        record {
          public = turned.public;
          ended = turned.ended;
          current = turned.current ++ step_more.more;
          aloft = step_in_flight;
          fit = fit_next k laws share rows_old rows_new last now i f g did.at did.flyers same did.kept (λ going. did.fits) turned.fit;
          counts = turned.counts;
          within = omega (arith, long, turned.within);
          emitted = emitted_more t.grew t.closed turned.ended turned.current step_more.more out_start out_old out_new turned.emitted step_more.leads;
          over = λ all. absurd (omega (arith, all, long, picked.after, picked.within));
          past = past_now k words turned.public share (n + 1) turned.ended (turned.current ++ step_more.more) start now step_in_flight
              (λ m less. past_still k words turned.public share n turned.ended turned.ended start last now step_keeps step_later turned.past m (omega (arith, less)));
          went = went_on k words turned.public share n turned.ended turned.ended turned.current start last now turned.aloft step_keeps step_later (turned.aloft.turned.log ++ entry_of i (Some steps.access))
              (λ xs all. ap (λ (s : Flight). s.log) (turn_on k laws words n turned.public share turned.ended turned.current start last stand turned.aloft.turned i f did.at place (Some steps.access) next xs all)) turned.went;
          begun = begun_next k words n turned.public share turned.ended turned.current start last turned.aloft now (steps.access ∷ []) [] asked
              (λ xs all. log_on k laws words n turned.public share turned.ended turned.current start last stand turned.aloft.turned i f did.at place (Some steps.access) next xs all
              ∙ ap (λ (l : List Access). accesses_in turned.aloft.turned.log ++ l) (asks_some steps.access))
              (λ lie none is. reads_calm v lie is (step_calm steps.access (k.progress f).region last.world v (k.progress g).failed went (calm_none last.world none)))
              step_later turned.ended step_keeps turned.past turned.begun;
        }

  -- it gave up
  module _ (err : OpErr) {T : Type 0} (did : StepsAt {T = T} k t share i (Err err) rows_new last now out_old out_new) where
    pub step_stops : StopsFlight k t words share err start now out_start out_new
    step_stops =
        let f = did.before in
        let stops = did.stops in
        let stand = turned.aloft.stand in
        let part = did.tells.err (events_at turned.ended turned.current i) (stand.holds i f did.at) in
        let next = λ (x : Served) (may : k.May f x). stops.next x may in
        let v = now.world in
        let lasts = stops.cut.lasts in
        let log = λ (xs : List Served) (all : AllMay k.May last.flyers xs). log_on k laws words n turned.public share turned.ended turned.current start last stand turned.aloft.turned i f did.at place (Some stops.access) next xs all
        ∙ ap (λ (l : List Access). accesses_in turned.aloft.turned.log ++ l) (asks_some stops.access ∙ sym stops.cut.began.split) in
        record {
          public = turned.public;
          turn = n;
          ended = turned.ended;
          current = turned.current;
          last = last;
          aloft = turned.aloft;
          out_last = out_old;
          emitted = turned.emitted;
          place = i;
          act = Some stops.access;
          log = λ xs all. ap (λ (s : Flight). s.log) (turn_on k laws words n turned.public share turned.ended turned.current start last stand turned.aloft.turned i f did.at place (Some stops.access) next xs all);
          by = inl (record {
            before = f;
            after = did.after;
            at = did.at;
            flyers = did.flyers;
            going = stand.outcome i f did.at ∙ outcome_open turned.ended i picked.after;
            stops = stops;
            asks = refl;
            first = picked.first f did.at;
            part = part.part;
            ends = λ printing. part.leads printing turned.emitted.between turned.current turned.emitted.now;
            quiet = part.quiet;
            halts = part.halts;
          });
          began = began_next k words n turned.public share turned.ended turned.current start last turned.aloft now stops.cut.began.done stops.cut.began.rest stops.cut.began.asked log;
          lasts = lasts_trans (λ q. start.world.vault.next ≤ q) start.world last.world v turned.aloft.rest.lasts
              (lasts_wider (own_or_next (k.progress f).region last.world.vault.next) last.world v (λ q. start.world.vault.next ≤ q)
              (own_within k turned.public start last turned.aloft.rest i f did.at) lasts);
          faults = stops_faults err last.world v stops.never stops.cut.cause;
          seals = λ good accepts. seals_join good start.world last.world v turned.aloft.rest.lasts.later (turned.aloft.rest.seals good accepts)
              (stops.seals good (λ columns region. subst (λ (n : ℕ). Accepts good n columns region) (sym (ap (λ (q : Public). q.pack) (stand.public i f did.at))) (accepts columns region)));
          begun = begun_next k words n turned.public share turned.ended turned.current start last turned.aloft (moment last.flyers last.kept v) stops.cut.began.done stops.cut.began.rest stops.cut.began.asked log
              (λ lie none is. reads_cut err (stops.access ∷ []) (own_or_next (k.progress f).region last.world.vault.next) last.world v lie none is stops.cut)
              lasts.later turned.ended (keeps_same k turned.ended last (moment last.flyers last.kept v) refl) turned.past turned.begun;
          past = past_still k words turned.public share n turned.ended turned.ended start last (moment last.flyers last.kept v)
              (keeps_same k turned.ended last (moment last.flyers last.kept v) refl) lasts.later turned.past;
          went = went_on k words turned.public share n turned.ended turned.ended turned.current start last (moment last.flyers last.kept v) turned.aloft
              (keeps_same k turned.ended last (moment last.flyers last.kept v) refl) lasts.later (turned.aloft.turned.log ++ entry_of i (Some stops.access))
              (λ xs all. ap (λ (s : Flight). s.log) (turn_on k laws words n turned.public share turned.ended turned.current start last stand turned.aloft.turned i f did.at place (Some stops.access) next xs all)) turned.went;
        }

-- ---- an end
module _ {F E : Type 0} (k : Kind F) (t : Taker E) (laws : Laws k) (words : ℕ → ℕ) (n share count : ℕ) (rows : List (List ℕ)) (start last : Moment F) (gs : List F)
    (out_start out_old out_new : E) (turned : HasTurned k t words n share count rows start last out_start out_old) (i : ℕ)
    (place : (none : ℕ) → i ≡ place_by (words n) none (going true (length turned.ended) (map (λ (f : F). (k.progress f).prints) (drop (length turned.ended) last.flyers))))
    (within : i < length last.flyers) (first : i ≡ length turned.ended) (f : F) (at : slice_get last.flyers i ≡ Some f) (over : (k.progress f).over ≡ true) where
  now : Moment F
  now = moment gs last.kept last.world

  -- it stands with the events of the first that has not ended
  holds_first : k.Holds f (share_at share i last.kept) turned.current last.world
  holds_first = subst (λ (l : List Event). k.Holds f (share_at share i last.kept) l last.world) (ap (events_at turned.ended turned.current) first ∙ events_here turned.ended turned.current) (turned.aloft.stand.holds i f at)

  log_none : (xs : List Served) → AllMay k.May last.flyers xs → accesses_in (turns words (n + 1) (setting_off turned.public start.world.vault.next xs)).log ≡ accesses_in turned.aloft.turned.log ++ ([] ++ [])
  log_none xs all = log_on k laws words n turned.public share turned.ended turned.current start last turned.aloft.stand turned.aloft.turned i f at place None (λ x may. (laws.acts f x last.world.vault.next may).over over) xs all
      ∙ ap (λ (l : List Access). accesses_in turned.aloft.turned.log ++ l) asks_none

  log_end : (xs : List Served) → AllMay k.May last.flyers xs → (turns words (n + 1) (setting_off turned.public start.world.vault.next xs)).log ≡ turned.aloft.turned.log ++ entry_of i None
  log_end xs all = ap (λ (s : Flight). s.log) (turn_on k laws words n turned.public share turned.ended turned.current start last turned.aloft.stand turned.aloft.turned i f at place None (λ x may. (laws.acts f x last.world.vault.next may).over over) xs all)

  asked_none : last.world.store.asked ≡ last.world.store.asked ++ []
  asked_none = sym (append-nil last.world.store.asked)

  begun_over : (hs : List F) (ended : List Closed) → KeepsOn k turned.ended ended last (moment hs last.kept last.world) → IsBegun k words turned.public share ended start (moment hs last.kept last.world)
  begun_over hs ended keeps = begun_next k words n turned.public share turned.ended turned.current start last turned.aloft (moment hs last.kept last.world) [] [] asked_none log_none
      (λ lie none is. absurd (cc (none, is))) (later_refl last.world.store) ended keeps turned.past turned.begun

  module _ (own : List (List ℕ)) (is_own : own ≡ share_at share i last.kept) (g : F) (flyers : gs ≡ slice_set last.flyers i g) (needs : (q : ℕ) → k.Needs g q → k.Needs f q) (may : (x : Served) → k.May g x → k.May f x) where
    end_more : (whole : EndsWhole k t i own f g out_old out_new) → More t.grew true (k.Holds g own) turned.current last.world out_old whole.between
    end_more whole = whole.finishes turned.current last.world (subst (λ (l : List (List ℕ)). k.Holds f l turned.current last.world) (sym is_own) holds_first)

    abbrev closed_so : EndsWhole k t i own f g out_old out_new → Closed
    closed_so whole = record { outcome = whole.outcome; events = turned.current ++ (end_more whole).more }

    end_keeps : (whole : EndsWhole k t i own f g out_old out_new) → KeepsOn k turned.ended (turned.ended ++ closed_so whole ∷ []) last (moment gs last.kept last.world)
    end_keeps whole = keeps_next k turned.ended (closed_so whole ∷ []) last (moment gs last.kept last.world) i f g at flyers (turned.aloft.stand.outcome i f at ∙ outcome_open turned.ended i (omega (arith, first)))
        (λ is. (ap (λ (q : Progress). q.served) whole.answered, ap (λ (q : Progress). q.failed) whole.answered ∙ is)) may

    end_in_flight : (whole : EndsWhole k t i own f g out_old out_new) → IsInFlight k words (n + 1) turned.public share (turned.ended ++ closed_so whole ∷ []) [] start (moment gs last.kept last.world)
    end_in_flight whole =
        let stand = turned.aloft.stand in
        let finished = end_more whole in
        let now : Moment F = moment gs last.kept last.world in
        let same : KeepsCourse (k.progress f) (k.progress g) = record { stmt = ap (λ (q : Progress). q.stmt) whole.answered; flat = ap (λ (q : Progress). q.flat) whole.answered; refusal = ap (λ (q : Progress). q.refusal) whole.answered; public = ap (λ (q : Progress). q.public) whole.answered } in
        record {
          stand = stand_ends k turned.public share turned.ended turned.current finished.more last now stand i f g at flyers refl refl first whole.outcome whole.answered needs
              (subst (λ (l : List (List ℕ)). k.Holds g l (turned.current ++ finished.more) last.world) is_own finished.holds);
          turned = turned_next k laws words n turned.public share turned.ended turned.current start last stand turned.aloft.turned i f at place None (λ x may. (laws.acts f x last.world.vault.next may).over over) g now flyers may
              (ends_flying k turned.public share turned.ended turned.current finished.more last now stand i f g at flyers refl refl first whole.outcome whole.answered needs)
              (omega arith)
              (asked_none ∙ ap (λ (l : List Access). last.world.store.asked ++ l) (sym asks_none))
              (ends_acts k turned.public share turned.ended turned.current finished.more last now stand i f g at flyers refl refl first whole.outcome whole.answered needs);
          rest = rest_ends k turned.public share turned.ended turned.current finished.more last now stand i f g at flyers refl refl first whole.outcome whole.answered needs start turned.aloft.rest;
          course = course_next k start last now i f g at flyers same turned.aloft.course;
        }

    pub end_turns : (starts : (s : E) → t.grew s s []) → EndsWhole k t i own f g out_old out_new → HasTurned k t words (n + 1) share (count + 1) rows start (moment gs last.kept last.world) out_start out_new
    end_turns starts whole =
        let finished = end_more whole in
        let now : Moment F = moment gs last.kept last.world in
        let long = ap (λ (l : List F). length l) flyers ∙ length-set_at last.flyers i g in
        let one_more = length-append turned.ended (closed_so whole ∷ []) in
        record {
          public = turned.public;
          ended = turned.ended ++ closed_so whole ∷ [];
          current = [];
          aloft = end_in_flight whole;
          fit = fit_next k laws share rows rows last now i f g at flyers (record { count = refl; sizes = λ j. refl }) (λ j less off. refl)
              (λ going. absurd (cc (going, ap (λ (q : Progress). q.outcome) whole.answered))) turned.fit;
          counts = omega (arith, turned.counts, one_more);
          within = omega (arith, one_more, long, first, within);
          emitted = record {
            between = out_new;
            took = emitted_ends t.grew t.closed turned.ended turned.current finished.more whole.outcome out_start out_old whole.between out_new turned.emitted finished.leads
                (subst (λ (m : ℕ). t.closed whole.between out_new m whole.outcome) first whole.closes);
            now = starts out_new;
          };
          over = λ all. refl;
          past = past_now k words turned.public share (n + 1) (turned.ended ++ closed_so whole ∷ []) [] start now (end_in_flight whole)
              (λ m less. past_still k words turned.public share n turned.ended (turned.ended ++ closed_so whole ∷ []) start last now (end_keeps whole) (later_refl last.world.store) turned.past m (omega (arith, less)));
          went = went_on k words turned.public share n turned.ended (turned.ended ++ closed_so whole ∷ []) turned.current start last now turned.aloft (end_keeps whole) (later_refl last.world.store)
              (turned.aloft.turned.log ++ entry_of i None) log_end turned.went;
          begun = begun_over gs (turned.ended ++ closed_so whole ∷ []) (end_keeps whole);
        }

    -- it gave up
    stops_ending : (err : OpErr)
        → (StopsInFinish k t err turned.ended turned.current i None last (moment gs last.kept last.world) turned.emitted.between out_new
        ⊎ StopsInClosing k t share err turned.ended i None last (moment gs last.kept last.world) turned.emitted.between out_new)
        → StopsFlight k t words share err start (moment gs last.kept last.world) out_start out_new
    stops_ending err by = record {
      public = turned.public;
      turn = n;
      ended = turned.ended;
      current = turned.current;
      last = last;
      aloft = turned.aloft;
      out_last = out_old;
      emitted = turned.emitted;
      place = i;
      act = None;
      log = λ xs all. ap (λ (s : Flight). s.log) (turn_on k laws words n turned.public share turned.ended turned.current start last turned.aloft.stand turned.aloft.turned i f at place None (λ x may. (laws.acts f x last.world.vault.next may).over over) xs all);
      by = inr by;
      began = began_next k words n turned.public share turned.ended turned.current start last turned.aloft (moment gs last.kept last.world) [] [] asked_none log_none;
      lasts = turned.aloft.rest.lasts;
      faults = refl;
      seals = turned.aloft.rest.seals;
      past = turned.past;
      went = went_on k words turned.public share n turned.ended turned.ended turned.current start last (moment last.flyers last.kept last.world) turned.aloft
          (keeps_same k turned.ended last (moment last.flyers last.kept last.world) refl) (later_refl last.world.store) (turned.aloft.turned.log ++ entry_of i None) log_end turned.went;
      begun = begun_over last.flyers turned.ended (keeps_same k turned.ended last (moment last.flyers last.kept last.world) refl);
    }

    pub end_stops : (err : OpErr) → EndsInFinish k t own err f g out_old out_new ⊎ EndsInClosing k t i own err f g out_old out_new
        → StopsFlight k t words share err start (moment gs last.kept last.world) out_start out_new
    end_stops err by = elim by [
      | inl finish ↦
          let holds = subst (λ (l : List (List ℕ)). k.Holds f l turned.current last.world) (sym is_own) holds_first in
          let part = finish.finishes turned.current last.world holds in
          stops_ending err (inl (record {
            before = f;
            after = g;
            first = first;
            none = refl;
            at = at;
            flyers = flyers;
            over = over;
            same = finish.same;
            world = refl;
            error = finish.error;
            is = finish.is;
            part = part.part;
            ends = part.leads refl turned.emitted.between turned.current turned.emitted.now;
            halts = part.halts;
          }))
      | inr closing ↦
          let holds = subst (λ (l : List (List ℕ)). k.Holds f l turned.current last.world) (sym is_own) holds_first in
          let finished = closing.finishes turned.current last.world holds in
          stops_ending err (inr (record {
            before = f;
            after = g;
            first = first;
            none = refl;
            at = at;
            flyers = flyers;
            over = over;
            outcome = closing.outcome;
            answered = closing.answered;
            world = refl;
            error = closing.error;
            is = closing.is;
            events = turned.current ++ finished.more;
            holds = subst (λ (l : List (List ℕ)). k.Holds g l (turned.current ++ finished.more) last.world) is_own finished.holds;
            took = closing.between;
            grew = finished.leads turned.emitted.between turned.current turned.emitted.now;
            parted = closing.parted;
          }))
    ]

-- ---- whatever the turns before were
module _ {F E : Type 0} (k : Kind F) (t : Taker E) (laws : Laws k) (word share count : ℕ) (rows_old rows_new : List (List ℕ)) (last : Moment F) (out_old out_new : E) (i : ℕ)
    (place : (none : ℕ) → i ≡ place_by word none (going true count (map (λ (f : F). (k.progress f).prints) (drop count last.flyers)))) (within : i < length last.flyers) (some : count < length last.flyers) where
  place_then : (words : ℕ → ℕ) (n e : ℕ) → words n ≡ word → count ≡ e → (none : ℕ) → i ≡ place_by (words n) none (going true e (map (λ (f : F). (k.progress f).prints) (drop e last.flyers)))
  place_then words n e w counts none = place none ∙ (λ j. place_by (sym w j) none (going true (counts j) (map (λ (f : F). (k.progress f).prints) (drop (counts j) last.flyers))))

  picked_then : (words : ℕ → ℕ) (n e : ℕ) → words n ≡ word → count ≡ e → IsPicked k e i last.flyers
  picked_then words n e w counts = is_picked k (words n) e i last.flyers (omega (arith, counts, some)) within (place_then words n e w counts)

  module _ (now : Moment F) (same : SameSizes rows_old rows_new) where
    pub takes_step : {T : Type 0} (x : T) → length now.kept ≡ length last.kept → StepsAt k t share i (Ok x) rows_new last now out_old out_new
        → TakesTurn k t word share count (Ok count) rows_old rows_new last now out_old out_new
    takes_step x count_kept did words n start out_start w turned =
        step_turns k t laws words n share count rows_old rows_new start last now out_start out_old out_new turned i (place_then words n (length turned.ended) w turned.counts)
        (picked_then words n (length turned.ended) w turned.counts) same count_kept x did

    pub takes_stop : {T : Type 0} (e : OpErr) → StepsAt {T = T} k t share i (Err e) rows_new last now out_old out_new
        → TakesTurn k t word share count (Err e) rows_old rows_new last now out_old out_new
    takes_stop {T} e did words n start out_start w turned =
        step_stops k t laws words n share count rows_old rows_new start last now out_start out_old out_new turned i (place_then words n (length turned.ended) w turned.counts)
        (picked_then words n (length turned.ended) w turned.counts) same e did

  module _ (gs : List F) (f : F) (at : slice_get last.flyers i ≡ Some f) (over : (k.progress f).over ≡ true) where
    -- it is over, so it is the first that has not ended
    first_then : (words : ℕ → ℕ) (n : ℕ) (start : Moment F) (out_start : E) → words n ≡ word → (turned : HasTurned k t words n share count rows_old start last out_start out_old) → i ≡ length turned.ended
    first_then words n start out_start w turned =
        let picked = picked_then words n (length turned.ended) w turned.counts in
        over_first k laws turned.public share rows_old turned.ended turned.current last turned.aloft.stand turned.fit i f at picked.after picked over

    same_flyer : (x : F) → slice_get last.flyers i ≡ Some x → x ≡ f
    same_flyer x get = same_Some _ _ (sym get ∙ at)

    pub takes_end : {T : Type 0} (x : T) → ((s : E) → t.grew s s []) → EndsAt k t i (share_at share i last.kept) (Ok x) last.flyers gs out_old out_new
        → TakesTurn k t word share count (Ok (count + 1)) rows_old rows_old last (moment gs last.kept last.world) out_old out_new
    takes_end x starts did words n start out_start w turned =
        end_turns k t laws words n share count rows_old start last gs out_start out_old out_new turned i (place_then words n (length turned.ended) w turned.counts) within
        (first_then words n start out_start w turned) did.before did.at (ap (λ (y : F). (k.progress y).over) (same_flyer did.before did.at) ∙ over)
        (share_at share i last.kept) refl did.after did.flyers did.needs did.may starts did.ends

    pub takes_end_stop : {T : Type 0} (e : OpErr) → EndsAt {T = T} k t i (share_at share i last.kept) (Err e) last.flyers gs out_old out_new
        → TakesTurn k t word share count (Err e) rows_old rows_old last (moment gs last.kept last.world) out_old out_new
    takes_end_stop {T} e did words n start out_start w turned =
        end_stops k t laws words n share count rows_old start last gs out_start out_old out_new turned i (place_then words n (length turned.ended) w turned.counts) within
        (first_then words n start out_start w turned) did.before did.at (ap (λ (y : F). (k.progress y).over) (same_flyer did.before did.at) ∙ over)
        (share_at share i last.kept) refl did.after did.flyers did.needs did.may e did.ends

-- less is left to do after an end
pub ends_less : {F E T : Type 0} (k : Kind F) (t : Taker E) (count i : ℕ) (own : List (List ℕ)) (x : T) (last gs : List F) (out_old out_new : E) → count < length last
    → EndsAt k t i own (Ok x) last gs out_old out_new → left_to k (count + 1) gs < left_to k count last
ends_less {F} k t count i own x last gs out_old out_new some did =
    let most = same_total (λ (h : F). (k.progress h).most) last gs i did.before did.after did.at did.flyers (ap (λ (q : Progress). q.most) did.ends.answered) in
    let long = ap (λ (l : List F). length l) did.flyers ∙ length-set_at last i did.after in
    omega (arith, most, long, some)

pub steps_less : {F E T : Type 0} (k : Kind F) (t : Taker E) (share count i : ℕ) (x : T) (rows : List (List ℕ)) (last now : Moment F) (out_old out_new : E)
    → StepsAt k t share i (Ok x) rows last now out_old out_new → left_to k count now.flyers < left_to k count last.flyers
steps_less {F} k t share count i x rows last now out_old out_new did =
    let sum = total_set (λ (h : F). (k.progress h).most) last.flyers i did.before did.after did.at in
    let is : most_of k now.flyers ≡ total (λ (h : F). (k.progress h).most) (slice_set last.flyers i did.after) = ap (most_of k) did.flyers in
    let long = ap (λ (l : List F). length l) did.flyers ∙ length-set_at last.flyers i did.after in
    omega (arith, sum, is, long, did.steps.books.most)

-- before the first turn
in_flight_first : {F : Type 0} (k : Kind F) (words : ℕ → ℕ) (share : ℕ) (rows : List (List ℕ)) (start : Moment F) → (boarded : AreBoarded k share rows start) → IsInFlight k words 0 boarded.public share [] [] start start
in_flight_first {F} k words share rows start boarded = record {
  stand = boarded.stand;
  turned = turned_none k words boarded.public start boarded.unasked boarded.unmade (λ i f at. boarded.stand.outcome i f at) (total_none (λ (f : F). (k.progress f).asked + one_if (is_some (k.progress f).outcome)) start.flyers
      (λ i f at. let o : one_if (is_some (k.progress f).outcome) ≡ 0 = ap (λ (o : Option Outcome). one_if (is_some o)) (boarded.stand.outcome i f at) in omega (arith, o, boarded.unasked i f at)));
  rest = record {
    lasts = lasts_none (λ q. start.world.vault.next ≤ q) start.world boarded.stand.ready;
    own = λ i f at q own. absurd (cc (own, boarded.unmade i f at));
    made = λ q least less. absurd (omega (arith, least, less));
    faults = subst (λ (n : ℕ). RisesBy n start.world.store.faults start.world.store.faults)
        (sym (total_none (λ (f : F). one_if (k.progress f).failed) start.flyers (λ i f at. ap one_if (boarded.unfailed i f at)))) (rises_none start.world.store.faults);
    calm = λ calm. calm;
    seals = λ good accepts. seals_none good start.world;
  };
  course = record {
    size = refl;
    each = λ i f g at get. let same : f ≡ g = same_Some _ _ (sym at ∙ get) in subst (λ (h : F). KeepsCourse (k.progress f) (k.progress h)) same (record { stmt = refl; flat = refl; refusal = refl; public = refl });
  };
}

pub turned_first : {F E : Type 0} (k : Kind F) (t : Taker E) (starts : (s : E) → t.grew s s []) (words : ℕ → ℕ) (share : ℕ) (rows : List (List ℕ)) (start : Moment F) (out : E)
    → AreBoarded k share rows start → HasTurned k t words 0 share 0 rows start start out out
turned_first {F} {E} k t starts words share rows start out boarded = record {
  public = boarded.public;
  ended = [];
  current = [];
  aloft = in_flight_first k words share rows start boarded;
  fit = boarded.fit;
  counts = refl;
  within = omega arith;
  emitted = record { between = out; took = refl; now = starts out };
  over = λ all. refl;
  past = past_now k words boarded.public share 0 [] [] start start (in_flight_first k words share rows start boarded) (λ m less. absurd (omega (arith, less)));
  went = λ m less. absurd (omega (arith, less));
  begun = λ none lie is. absurd (cc (none, is));
}

-- the loop may take one more
pub may_turn : {F E : Type 0} (k : Kind F) (t : Taker E) (words : ℕ → ℕ) (n share count : ℕ) (rows : List (List ℕ)) (start now : Moment F) (out_old out_new : E)
    → HasTurned k t words n share count rows start now out_old out_new → count < length now.flyers → MayTurn k share count rows now
may_turn k t words n share count rows start now out_old out_new turned less = record {
  public = turned.public;
  ended = turned.ended;
  current = turned.current;
  stand = turned.aloft.stand;
  fit = turned.fit;
  counts = turned.counts;
  some = omega (arith, turned.counts, less);
}

-- or all have ended
pub has_flown : {F E : Type 0} (k : Kind F) (t : Taker E) (words left : ℕ → ℕ) (n share count : ℕ) (rows : List (List ℕ)) (start now : Moment F) (out_old out_new : E)
    → HasTurned k t words n share count rows start now out_old out_new → length now.flyers ≤ count → ((i : ℕ) → left i ≡ words (n + i)) → HasFlown k t words left share start now out_old out_new
has_flown {F} {E} k t words left n share count rows start now out_old out_new turned done rest =
    let all : length turned.ended ≡ length now.flyers = omega (arith, turned.counts, turned.within, done) in
    record {
      public = turned.public;
      turn = n;
      ended = turned.ended;
      aloft = ended_all turned.current turned.aloft all;
      all = all;
      took = subst (λ (s : E). ClosesAll t.grew t.closed 0 turned.ended out_old s) (sym (turned.over all)) turned.emitted.took;
      rest = rest;
      past = turned.past;
      went = turned.went;
      begun = turned.begun;
    }
  where
    -- nothing more is emitted for any of them
    ended_all : (current : List Event) → IsInFlight k words n turned.public share turned.ended current start now → length turned.ended ≡ length now.flyers → IsInFlight k words n turned.public share turned.ended [] start now
    ended_all current aloft all = record {
      stand = record {
        ready = aloft.stand.ready;
        holds = λ i f at.
            subst (λ (l : List Event). k.Holds f (share_at share i now.kept) l now.world)
            (events_there turned.ended current [] i (λ same. absurd (omega (arith, same, all, slice_get_within now.flyers i f at)))) (aloft.stand.holds i f at);
        outcome = aloft.stand.outcome;
        public = aloft.stand.public;
        apart = aloft.stand.apart;
        below = aloft.stand.below;
        spare = aloft.stand.spare;
        few = aloft.stand.few;
        most = aloft.stand.most;
        several = aloft.stand.several;
        shares = aloft.stand.shares;
        narrow = aloft.stand.narrow;
      };
      turned = aloft.turned;
      rest = aloft.rest;
      course = aloft.course;
    }
