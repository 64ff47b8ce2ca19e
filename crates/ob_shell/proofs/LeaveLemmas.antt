-- What a session leaves whose tables are saved: the mark that is held, and the tables that rest for it.
use Rattle.ob_shell.proofs.Words.{after, AllInsert, Answer, ap, AreByRegion, AreDraws, arith, asked_of, Base, batch_most, BeginsToSave, Bool, Draws, drop, Ending, Err, false, first_draws, FromEach, How, if◌then◌else◌, inl, inr, is_full_now, IsHonest, IsTrue, KeeperState, KeySet, length, length-append, length-map, List, Machine, map, Mark, None, Ok, Option, Outcome, pair_of, Public, public_of, Ran, refl, Represents, RestsAlike, RestsOn, RevState, Position, Seen, Session, session_of, settle_all, skeleton, Some, SpellFirst, Spelt, standing, statements, statements_of, Stmt, Story, subst, sym, Tables, take, take-append-drop, true, ℕ, [], ◌++◌, ◌+◌, ◌<◌, ◌∙◌, ◌∷◌, ◌≡◌, ◌≢◌, ◌⊎◌}
use Rattle.ob_base.specs.declared.refusal.Stop.TheVariants as Stops
use Rattle.ob_headline.proofs.EffectLemmas.{left_refused, left_served}
use Rattle.ob_headline.specs.Bases.{HoldsFrom, Opened, drawing, session_at}
use Rattle.ob_headline.specs.Flights.{at_position, positions as positions_from, positions_of, words_of}
use Rattle.ob_headline.specs.Meaning.{AnswersFrom, session_after}
use Rattle.ob_headline.specs.SavedHeadline.{LeavesSaved, MayTake, MayTakeMore, RestsBehind, left_by}
use Rattle.ob_mean.specs.Replay.{Broken, draws_taken, head_of, rest_of}
use Rattle.ob_shell.proofs.FlightFacts.{drop_more}
use Rattle.ob_shell.proofs.FlightLeaves.{left_first}
use Rattle.ob_shell.proofs.LeavePath.{Along, BeginsPositions, EndsAlong, HaveFlown, HaveLanded, IsLast, IsPositionOf, IsStopped, IsWith, Path, StandsSo, in_flight_along, in_flight_so, answered_along, answered_so, ended_along, ends_so, over_along, over_so, passed_along, passed_so, together_along, together_so}
use Rattle.ob_shell.proofs.LeaveSteps.{HoldsMark, Saves, mark_answered, mark_still, mark_stopped, read_below, rests_now, rests_past, rests_stay, saves_on, saves_still}
use Rattle.ob_shell.proofs.LeaveTables.{Resting, last_answered, last_stopped, none_earlier, rests_then}
use Rattle.ob_shell.proofs.ReplayLemmas.{free_holds, holds_free}
use Rattle.ob_shell.proofs.WalkEntries.{positions_at}
use Rattle.ob_shell.specs.Steps.{GoTogether, Holds, Owed, StaysAs, TakesOwed, draws_behind, has_failed, tables_behind}

-- ---- along the statements
module _ {R : Type 0} (state : R → RevState) (ending : Ending) (m2 : Machine R) where
  none_still : (m0 m1 : Machine R) → StaysAs m0 m1 → m1.store.lie ≡ None → m0.store.lie ≡ None
  none_still m0 m1 same none = ap (λ (m : Machine R). m.store.lie) (sym same) ∙ none

  none_last : (m0 : Machine R) (x : Spelt) → m2.store.lie ≡ None → EndsAlong state ending m0 m2 x → m0.store.lie ≡ None
  none_last m0 (Err at) none passed = none_still m0 m2 passed.same none
  none_last m0 (Ok stmt) none (inl stop) = none_earlier m0.store m2.store stop.does.ran.later none
  none_last m0 (Ok stmt) none (inr last) = elim last.done [
    | inl done ↦ none_earlier m0.store m2.store done.does.ran.later none
    | inr with ↦ none_still m0 m2 with.same none
  ]

  -- no lie was told before one in which none is
  none_path : (m0 : Machine R) (d : Draws) (tables : Tables) (positions : List Position) (spelt : List Spelt) (answers : List Answer) (broken : Broken) → m2.store.lie ≡ None → Path state ending m0 m2 d tables positions spelt answers broken → m0.store.lie ≡ None
  none_path m0 d tables positions spelt answers broken none (over_so over) = ap (λ (m : Machine R). m.store.lie) (sym over.same) ∙ none
  none_path m0 d tables positions spelt answers broken none (ends_so {x = x} sits last) = none_last m0 x none last
  none_path m0 d tables positions spelt answers broken none (in_flight_so flown left) = none_earlier m0.store m2.store flown.later none
  none_path m0 d tables positions spelt answers broken none (passed_so {m1 = m1} {spelt = behind} {answers = given} passed path) = none_still m0 m1 passed.same (none_path m1 d tables positions behind given (rest_of broken) none path)
  none_path m0 d tables positions spelt answers broken none (answered_so {m1 = m1} {positions = vs} {spelt = behind} {answers = given} sits so path) =
      let there = none_path m1 _ _ vs behind given (rest_of broken) none path in
      elim so.served [
        | inl served ↦ none_earlier m0.store m1.store served.done.does.ran.later there
        | inr joins ↦ none_still m0 m1 joins.same there
      ]
  none_path m0 d tables positions spelt answers broken none (together_so {m1 = m1} flown {positions = vs} stmts {more = behind} up {answers = given} lands long leaves path) =
      none_earlier m0.store m1.store lands.landed.flown.later (none_path m1 d tables vs behind given (drop (length stmts) broken) none path)

  module _ (salt : List ℕ) (base : Base) (keys : KeySet) where
    -- after a flight a machine saves its tables as it did
    saves_landed : (m0 m1 : Machine R) → HaveLanded state m0 m1 → Saves state salt base keys m0 → Saves state salt base keys m1
    saves_landed m0 m1 landed old = record {
      agrees = landed.agrees;
      saves = ap (λ (p : Public). p.save) landed.public ∙ old.saves;
      pack = ap (λ (p : Public). p.pack) landed.public ∙ old.pack;
      most = ap batch_most landed.public ∙ old.most;
      start = landed.start ∙ old.start;
      keyed = landed.keys ∙ old.keyed;
    }

    mark_flown : (secret : List ℕ) (held : Mark) (m0 m1 : Machine R) → HaveFlown state m0 m1 → HoldsMark state secret salt base keys held m0 → HoldsMark state secret salt base keys held m1
    mark_flown secret held m0 m1 flown holds = record { mark = holds.mark; is = ap (λ (k : KeeperState). k.held) flown.keeper ∙ holds.is; which = holds.which }

    -- the mark is one of the run's own, or the one that was held
    module _ (secret : List ℕ) (of : AreByRegion secret keys) (held : Mark) (salted : (q : ℕ) → base.start.region < q → (pair_of keys q).salt ≡ Some salt) where
      mark_last : (m0 : Machine R) (x : Spelt) → Saves state salt base keys m0 → HoldsMark state secret salt base keys held m0 → EndsAlong state ending m0 m2 x → HoldsMark state secret salt base keys held m2
      mark_last m0 (Err at) old holds passed = mark_still state secret salt base keys held m0 m2 passed.same holds
      mark_last m0 (Ok stmt) old holds (inl stop) = mark_stopped state secret salt base keys of held salted m0 m2 stmt old stop.run stop.does holds
      mark_last m0 (Ok stmt) old holds (inr last) = elim last.done [
        | inl done ↦ mark_answered state secret salt base keys of held salted m0 m2 stmt old last.outcome done.does holds
        | inr with ↦ mark_still state secret salt base keys held m0 m2 with.same holds
      ]

      mark_along : (m0 : Machine R) (spelt : List Spelt) (answers : List Answer) → Saves state salt base keys m0 → HoldsMark state secret salt base keys held m0 → Along state ending m0 m2 spelt answers → HoldsMark state secret salt base keys held m2
      mark_along m0 spelt answers old holds (over_along over) = subst (HoldsMark state secret salt base keys held) (sym over.same) holds
      mark_along m0 spelt answers old holds (ended_along {x = x} last) = mark_last m0 x old holds last
      mark_along m0 spelt answers old holds (in_flight_along flown) = mark_flown secret held m0 m2 flown holds
      mark_along m0 spelt answers old holds (passed_along {m1 = m1} {spelt = behind} {answers = given} passed along) =
          mark_along m1 behind given (saves_still state salt base keys m0 m1 passed.same old) (mark_still state secret salt base keys held m0 m1 passed.same holds) along
      mark_along m0 spelt answers old holds (answered_along {m1 = m1} {stmt = stmt} {one = one} {spelt = behind} {answers = given} (inl done) along) =
          mark_along m1 behind given (saves_on state salt base keys m0 m1 stmt one.outcome done.does old) (mark_answered state secret salt base keys of held salted m0 m1 stmt old one.outcome done.does holds) along
      mark_along m0 spelt answers old holds (answered_along {m1 = m1} {spelt = behind} {answers = given} (inr with) along) =
          mark_along m1 behind given (saves_still state salt base keys m0 m1 with.same old) (mark_still state secret salt base keys held m0 m1 with.same holds) along
      mark_along m0 spelt answers old holds (together_along {m1 = m1} flown {more = behind} up {answers = given} landed along) =
          mark_along m1 behind given (saves_landed m0 m1 landed old) (mark_flown secret held m0 m1 landed.flown holds) along

    module _ (secret : List ℕ) (of : AreByRegion secret keys) (none : m2.store.lie ≡ None) where
      -- the statements that took effect with the one begun
      abbrev pub behind : List Stmt
      behind = statements_of m2.owed

      pub record BeginsThem (spelt : List Spelt) (answers : List Answer) : Type 0 where
        pub begun : Stmt
        pub last : drop (length answers) spelt ≡ Ok begun ∷ []
        pub table : List ℕ
        pub insert : AllInsert table (begun ∷ behind)

      pub record MayBehind (spelt : List Spelt) (answers : List Answer) : Type 0 where
        pub more : MayTakeMore ending
        pub few : length behind < batch_most base.public
        pub together : behind ≢ [] → BeginsThem spelt answers

      -- for the mark that is held in the end these tables rest, by whether one more text took effect, and others with it
      pub record Left (spelt : List Spelt) (answers : List Answer) (left : Option (List Stmt) → Tables) : Type 0 where
        pub more : Option (List Stmt)
        pub unanswered : (stmts : List Stmt) → more ≡ Some stmts → (stmts ≡ behind) × MayBehind spelt answers
        pub mark : Mark
        pub is : m2.keeper.held ≡ Some mark
        pub rests : RestsAlike secret mark m2.store.kept (left more)

      left_none : (spelt : List Spelt) (answers : List Answer) (m0 : Machine R) (tables : Tables) (left : Option (List Stmt) → Tables) → left None ≡ tables → StaysAs m0 m2 → Resting state secret salt base keys of m0 tables → Left spelt answers left
      left_none spelt answers m0 tables left is same rests = record {
        more = None;
        unanswered = λ stmts more. absurd (cc more);
        mark = rests.mark;
        is = ap (λ (m : Machine R). m.keeper.held) same ∙ rests.is;
        rests = subst (λ (ts : Tables). RestsAlike secret rests.mark m2.store.kept ts) (sym is)
            (subst (λ (m : Machine R). RestsAlike secret rests.mark m.store.kept tables) (sym same) (rests_now secret rests.mark tables (public_of m0.engine) m0.store.kept rests.on));
      }

      left_as : (spelt spelt_too : List Spelt) (answers answers_too : List Answer) (left other : Option (List Stmt) → Tables) → ((more : Option (List Stmt)) → left more ≡ other more)
          → drop (length answers) spelt ≡ drop (length answers_too) spelt_too → Left spelt_too answers_too other → Left spelt answers left
      left_as spelt spelt_too answers answers_too left other same begun rest = record {
        more = rest.more;
        unanswered = λ stmts is.
            let may = rest.unanswered stmts is in (
              may.0,
              record {
                more = may.1.more;
                few = may.1.few;
                together = λ some. let them = may.1.together some in record { begun = them.begun; last = begun ∙ them.last; table = them.table; insert = them.insert };
              },
            );
        mark = rest.mark;
        is = rest.is;
        rests = subst (λ (ts : Tables). RestsAlike secret rest.mark m2.store.kept ts) (sym (same rest.more)) rest.rests;
      }

      -- several flew, of which the last weren't answered
      rests_flown : (m0 m1 : Machine R) (tables : Tables) → HaveFlown state m0 m1 → Saves state salt base keys m0 → (rests : Resting state secret salt base keys of m0 tables) → RestsOn secret rests.mark (public_of m0.engine) m1.store.kept tables
      rests_flown m0 m1 tables flown old rests =
          rests_stay secret rests.mark tables (public_of m0.engine) m0.store.kept m1.store.kept rests.on (λ q read. flown.kept q (read_below state m0.engine m0.store rests.on.region q old.agrees rests.on.below read))

      left_in_flight : (spelt : List Spelt) (answers : List Answer) (m0 : Machine R) (tables : Tables) (left : Option (List Stmt) → Tables) → left None ≡ tables → HaveFlown state m0 m2 → Saves state salt base keys m0 → Resting state secret salt base keys of m0 tables
          → Left spelt answers left
      left_in_flight spelt answers m0 tables left is flown old rests = record {
        more = None;
        unanswered = λ stmts more. absurd (cc more);
        mark = rests.mark;
        is = ap (λ (k : KeeperState). k.held) flown.keeper ∙ rests.is;
        rests = subst (λ (ts : Tables). RestsAlike secret rests.mark m2.store.kept ts) (sym is) (rests_now secret rests.mark tables (public_of m0.engine) m2.store.kept (rests_flown m0 m2 tables flown old rests));
      }

      over_still : (m0 : Machine R) → m2 ≡ m0 → StaysAs m0 m2
      over_still m0 same = ap (λ (m : Machine R). standing m m2.owed m2.gathered) same

      rests_free : (m : Machine R) (d : Draws) (tables : Tables) → m.owed ≡ [] → Resting state secret salt base keys of m (tables_behind m d tables) → Resting state secret salt base keys of m tables
      rests_free m d tables free rests = subst (Resting state secret salt base keys of m) (ap (λ (owed : List Owed). settle_all d (public_of m.engine) (asked_of m) (statements_of owed) tables) free) rests

      rests_owing : (m : Machine R) (d : Draws) (tables : Tables) → m.owed ≡ [] → Resting state secret salt base keys of m tables → Resting state secret salt base keys of m (tables_behind m d tables)
      rests_owing m d tables free rests = subst (Resting state secret salt base keys of m) (sym (ap (λ (owed : List Owed). settle_all d (public_of m.engine) (asked_of m) (statements_of owed) tables) free)) rests

      rests_still : (m0 m1 : Machine R) → StaysAs m0 m1 → (ts us : Tables) → ts ≡ us → Resting state secret salt base keys of m0 ts → Resting state secret salt base keys of m1 us
      rests_still m0 m1 same ts us is rests = record {
        mark = rests.mark;
        is = ap (λ (m : Machine R). m.keeper.held) same ∙ rests.is;
        on = subst (λ (m : Machine R). RestsOn secret rests.mark (public_of m.engine) m.store.kept us) (sym same) (subst (RestsOn secret rests.mark (public_of m0.engine) m0.store.kept) is rests.on);
      }

      tables_none : (m0 m1 : Machine R) (d : Draws) (tables : Tables) → m0.owed ≡ [] → m1.owed ≡ [] → tables_behind m0 d tables ≡ tables_behind m1 d tables
      tables_none m0 m1 d tables free owed =
          ap (λ (l : List Owed). settle_all d (public_of m0.engine) (asked_of m0) (statements_of l) tables) free ∙ sym (ap (λ (l : List Owed). settle_all d (public_of m1.engine) (asked_of m1) (statements_of l) tables) owed)

      -- after a flight
      rests_landed : (m0 m1 : Machine R) (tables : Tables) → HaveLanded state m0 m1 → Saves state salt base keys m0 → Resting state secret salt base keys of m0 tables → Resting state secret salt base keys of m1 tables
      rests_landed m0 m1 tables landed old rests = record {
        mark = rests.mark;
        is = ap (λ (k : KeeperState). k.held) landed.flown.keeper ∙ rests.is;
        on = rests_past secret rests.mark tables (public_of m0.engine) (public_of m1.engine) m1.store.kept (ap (λ (r : Public). r.tables) landed.public) landed.more (rests_flown m0 m1 tables landed.flown old rests);
      }

      -- after one that was answered
      pub record RestsNext (m1 : Machine R) (d : Draws) (tables : Tables) : Type 0 where
        pub saves : Saves state salt base keys m1
        pub tells : IsTrue m1.store.tells
        pub rests : Resting state secret salt base keys of m1 (tables_behind m1 d tables)

      next_rests : (m0 m1 : Machine R) (d : Draws) (tables : Tables) (stmt : Stmt) (one : Answer) (how : How) → Saves state salt base keys m0 → AreDraws m0.engine d → IsTrue m0.store.tells → Holds state m0 d tables
          → Resting state secret salt base keys of m0 (tables_behind m0 d tables) → m1.store.lie ≡ None → StandsSo state m0 m1 d tables stmt one how
          → RestsNext m1 (after how (session_of m0 d tables) stmt).draws (after how (session_of m0 d tables) stmt).tables
      next_rests m0 m1 d tables stmt one how old drawn tells holds rests honest so =
          let behind_it = after how (session_of m0 d tables) stmt in
          elim so.served [
            | inl served ↦
                let does = served.done.does in
                let draws : draws_behind m0 m1 stmt d ≡ behind_it.draws = ap (λ (x : Seen). record d { drawn = d.drawn + draws_taken (public_of m0.engine) (skeleton stmt) x.end }) served.seen in
                record {
                  saves = saves_on state salt base keys m0 m1 stmt one.outcome does old;
                  tells = subst (λ (b : Bool). IsTrue b) (sym does.ran.later.tells) tells;
                  rests = subst (λ (e : Draws). Resting state secret salt base keys of m1 (tables_behind m1 e behind_it.tables)) draws
                      (rests_then state secret salt base keys of m0 m1 stmt old d drawn tables tells (free_holds state m0 d tables does.free holds) (rests_free m0 d tables does.free rests) honest one.outcome served.done how served.seen);
                }
            | inr joins ↦ record {
              saves = saves_still state salt base keys m0 m1 joins.same old;
              tells = subst (λ (m : Machine R). IsTrue m.store.tells) (sym joins.same) tells;
              rests = rests_still m0 m1 joins.same (tables_behind m0 d tables) (tables_behind m1 behind_it.draws behind_it.tables)
                  (sym (ap (λ (e : Draws). tables_behind m1 e behind_it.tables) joins.draws ∙ joins.still)) rests;
            }
          ]

      -- where it took effect
      may_behind : (m0 : Machine R) (stmt : Stmt) → Saves state salt base keys m0 → GoTogether (public_of m0.engine) stmt m2.owed → MayTakeMore ending → MayBehind (Ok stmt ∷ []) []
      may_behind m0 stmt old along more = record {
        more = more;
        few = let less = along.few in let long = length-map m2.owed (λ (one : Owed). one.stmt) in omega (arith, less, long, old.most);
        together = λ some. elim along.alike [
          | inl off ↦ absurd (some (ap statements_of off))
          | inr all ↦ record { begun = stmt; last = refl; table = all.0; insert = all.1 }
        ];
      }

      -- of the one begun: the tables that are left where nothing more took effect, and where those did
      record TablesLeft (m0 : Machine R) (d : Draws) (tables : Tables) (stmt : Stmt) (left : Option (List Stmt) → Tables) : Type 0 where
        still : left None ≡ tables
        took : left (Some behind) ≡ settle_all d (public_of m0.engine) (asked_of m0) (stmt ∷ behind) tables

      position_same : (m0 : Machine R) (d : Draws) (tables : Tables) (v : Position) (t : Session) → IsPositionOf state m0 v → t.tables ≡ tables → t.draws ≡ d → at_position v t ≡ session_of m0 d tables
      position_same m0 d tables v t sits ts ds = λ i. record { public = sits.public i; tables = ts i; asked = sits.asked i; draws = ds i }

      left_begun : (m0 : Machine R) (d : Draws) (tables : Tables) (v : Position) (positions : List Position) (t : Session) (stmt : Stmt) (broken : Broken) → IsPositionOf state m0 v → t.tables ≡ tables → t.draws ≡ d → TablesLeft m0 d tables stmt (λ o. left_by o (v ∷ positions) t (Ok stmt ∷ []) [] broken)
      unfolding session_after statements
      left_begun m0 d tables v positions t stmt broken sits ts ds = record {
        still = left_first (v ∷ positions) t (Ok stmt ∷ []) broken ∙ ts;
        took = ap (λ (u : Session). settle_all u.draws u.public u.asked (stmt ∷ behind) u.tables) (position_same m0 d tables v t sits ts ds);
      }

      left_rests : (m0 : Machine R) (d : Draws) (tables : Tables) (stmt : Stmt) (left : Option (List Stmt) → Tables) → TablesLeft m0 d tables stmt left → (more : Bool) (mark : Mark) → Saves state salt base keys m0 → GoTogether (public_of m0.engine) stmt m2.owed
          → (more ≡ true → MayTakeMore ending) → m2.keeper.held ≡ Some mark → RestsAlike secret mark m2.store.kept (if more then settle_all d (public_of m0.engine) (asked_of m0) (stmt ∷ behind) tables else tables) → Left (Ok stmt ∷ []) [] left
      left_rests m0 d tables stmt left at false mark old along may is rests = record {
        more = None;
        unanswered = λ stmts more. absurd (cc more);
        mark = mark;
        is = is;
        rests = subst (λ (ts : Tables). RestsAlike secret mark m2.store.kept ts) (sym at.still) rests;
      }
      left_rests m0 d tables stmt left at true mark old along may is rests = record {
        more = Some behind;
        unanswered = λ stmts more. let same : behind ≡ stmts = cc more in (sym same, may_behind m0 stmt old along (may refl));
        mark = mark;
        is = is;
        rests = subst (λ (ts : Tables). RestsAlike secret mark m2.store.kept ts) (sym at.took) rests;
      }

      -- one that was carried out with the one before it, and whose line was lost
      with_left : (m0 : Machine R) (d : Draws) (tables : Tables) (stmt : Stmt) (outcome : Outcome) (left : Option (List Stmt) → Tables) → TablesLeft m0 d tables stmt left → Saves state salt base keys m0 → Resting state secret salt base keys of m0 (tables_behind m0 d tables)
          → ending ≡ Ran (Err Stops.SinkFault) → IsWith state m0 m2 stmt outcome → Left (Ok stmt ∷ []) [] left
      with_left m0 d tables stmt outcome left at old rests ends with = by_failed (has_failed m0.gathered.batch) with.owed
        where
          there : RestsAlike secret rests.mark m2.store.kept (tables_behind m0 d tables)
          there = subst (λ (m : Machine R). RestsAlike secret rests.mark m.store.kept (tables_behind m0 d tables)) (sym with.same) (rests_now secret rests.mark (tables_behind m0 d tables) (public_of m0.engine) m0.store.kept rests.on)

          held : m2.keeper.held ≡ Some rests.mark
          held = ap (λ (m : Machine R). m.keeper.held) with.same ∙ rests.is

          owing : (l : List Owed) → m0.owed ≡ l → tables_behind m0 d tables ≡ settle_all d (public_of m0.engine) (asked_of m0) (statements_of l) tables
          owing l is = ap (λ (owed : List Owed). settle_all d (public_of m0.engine) (asked_of m0) (statements_of owed) tables) is

          by_failed : (failed : Bool) → TakesOwed failed (record { stmt = stmt; outcome = outcome }) m0.owed m2.owed → Left (Ok stmt ∷ []) [] left
          by_failed true off = left_rests m0 d tables stmt left at false rests.mark old with.along (λ more. absurd (cc more)) held (subst (λ (ts : Tables). RestsAlike secret rests.mark m2.store.kept ts) (owing [] off.0) there)
          by_failed false is =
              left_rests m0 d tables stmt left at true rests.mark old with.along (λ more. inl ends) held (subst (λ (ts : Tables). RestsAlike secret rests.mark m2.store.kept ts) (owing (record { stmt = stmt; outcome = outcome } ∷ m2.owed) is) there)

      -- of the one begun
      left_end : (m0 : Machine R) (d : Draws) (tables : Tables) (stmt : Stmt) (left : Option (List Stmt) → Tables) → TablesLeft m0 d tables stmt left → Saves state salt base keys m0 → AreDraws m0.engine d → IsTrue m0.store.tells → Holds state m0 d tables
          → Resting state secret salt base keys of m0 (tables_behind m0 d tables) → IsStopped state ending m0 m2 stmt ⊎ IsLast state ending m0 m2 stmt → Left (Ok stmt ∷ []) [] left
      left_end m0 d tables stmt left at old drawn tells holds rests (inl stop) =
          let free = stop.does.free in
          let last = last_stopped state secret salt base keys of m0 m2 stmt old d drawn tables tells (free_holds state m0 d tables free holds) (rests_free m0 d tables free rests) none ending stop.run stop.ends stop.does in
          left_rests m0 d tables stmt left at last.more last.mark old stop.does.along last.unanswered last.is last.resting
      left_end m0 d tables stmt left at old drawn tells holds rests (inr end) = elim end.done [
        | inl done ↦
            let free = done.does.free in
            let last = last_answered state secret salt base keys of m0 m2 stmt old d drawn tables tells (free_holds state m0 d tables free holds) (rests_free m0 d tables free rests) none ending end.ends end.outcome done in
            left_rests m0 d tables stmt left at last.more last.mark old done.does.along last.unanswered last.is last.resting
        | inr with ↦ with_left m0 d tables stmt end.outcome left at old rests end.ends with
      ]

      -- of the text begun
      left_text : (m0 : Machine R) (d : Draws) (tables : Tables) (x : Spelt) (positions : List Position) (broken : Broken) → Saves state salt base keys m0 → AreDraws m0.engine d → IsTrue m0.store.tells → Holds state m0 d tables → Resting state secret salt base keys of m0 (tables_behind m0 d tables)
          → (t : Session) → t.tables ≡ tables → t.draws ≡ d → BeginsPositions state m0 x positions → EndsAlong state ending m0 m2 x → Left (x ∷ []) [] (λ more. left_by more positions t (x ∷ []) [] broken)
      left_text m0 d tables (Err at) positions broken old drawn tells holds rests t ts ds sits passed =
          left_none (Err at ∷ []) [] m0 tables (λ more. left_by more positions t (Err at ∷ []) [] broken) (left_first positions t (Err at ∷ []) broken ∙ ts) passed.same (rests_free m0 d tables passed.free rests)
      left_text m0 d tables (Ok stmt) [] broken old drawn tells holds rests t ts ds sits last = absurd sits
      left_text m0 d tables (Ok stmt) (v ∷ positions) broken old drawn tells holds rests t ts ds sits last =
          left_end m0 d tables stmt (λ more. left_by more (v ∷ positions) t (Ok stmt ∷ []) [] broken) (left_begun m0 d tables v positions t stmt broken sits ts ds) old drawn tells holds rests last

      -- along all of them, from a session with these tables and draws
      left_along : (m0 : Machine R) (d : Draws) (tables : Tables) (positions : List Position) (spelt : List Spelt) (answers : List Answer) (broken : Broken) → Saves state salt base keys m0 → AreDraws m0.engine d → IsTrue m0.store.tells → Holds state m0 d tables
          → Resting state secret salt base keys of m0 (tables_behind m0 d tables) → (t : Session) → t.tables ≡ tables → t.draws ≡ d → Path state ending m0 m2 d tables positions spelt answers broken → Left spelt answers (λ more. left_by more positions t spelt answers broken)
      left_along m0 d tables positions spelt answers broken old drawn tells holds rests t ts ds (over_so over) =
          left_none [] [] m0 tables (λ more. left_by more positions t [] [] broken) (left_first positions t [] broken ∙ ts) (over_still m0 over.same) (rests_free m0 d tables over.free rests)
      left_along m0 d tables positions spelt answers broken old drawn tells holds rests t ts ds (ends_so {x = x} sits last) = left_text m0 d tables x positions broken old drawn tells holds rests t ts ds sits last
      left_along m0 d tables positions spelt answers broken old drawn tells holds rests t ts ds (in_flight_so flown left) =
          left_in_flight spelt answers m0 tables (λ more. left_by more positions t spelt answers broken) (left t ts ds) flown old (rests_free m0 d tables flown.free rests)
      left_along m0 d tables positions spelt answers broken old drawn tells holds rests t ts ds (passed_so {m1 = m1} {at = at} {one = one} {spelt = behind_it} {answers = given} passed path) =
          let same = passed.same in
          let on : Resting state secret salt base keys of m1 (tables_behind m1 d tables) = rests_still m0 m1 same (tables_behind m0 d tables) (tables_behind m1 d tables) (tables_none m0 m1 d tables passed.free passed.owed) rests in
          let rest = left_along m1 d tables positions behind_it given (rest_of broken) (saves_still state salt base keys m0 m1 same old)
          (subst (λ (m : Machine R). AreDraws m.engine d) (sym same) drawn) (subst (λ (m : Machine R). IsTrue m.store.tells) (sym same) tells)
          (holds_free state m1 d tables passed.owed (subst (λ (m : Machine R). Represents state m.engine m.store tables) (sym same) (free_holds state m0 d tables passed.free holds))) on t ts ds path in
          left_as (Err at ∷ behind_it) behind_it (one ∷ given) given (λ more. left_by more positions t (Err at ∷ behind_it) (one ∷ given) broken) (λ more. left_by more positions t behind_it given (rest_of broken))
          (λ more. left_refused more positions t behind_it one given broken at) refl rest
      left_along m0 d tables positions spelt answers broken old drawn tells holds rests t ts ds (answered_so {m1 = m1} {v = v} {positions = vs} {stmt = stmt} {one = one} {spelt = behind_it} {answers = given} sits so path) =
          let how = head_of broken in
          let after_it = after how (session_of m0 d tables) stmt in
          let none_there = none_path m1 after_it.draws after_it.tables vs behind_it given (rest_of broken) none path in
          let next = next_rests m0 m1 d tables stmt one how old drawn tells holds rests none_there so in
          let same = position_same m0 d tables v t sits ts ds in
          let u = after how (at_position v t) stmt in
          let rest = left_along m1 after_it.draws after_it.tables vs behind_it given (rest_of broken) next.saves so.drawn next.tells so.holds next.rests u
          (ap (λ (y : Session). (after how y stmt).tables) same) (ap (λ (y : Session). (after how y stmt).draws) same) path in
          left_as (Ok stmt ∷ behind_it) behind_it (one ∷ given) given (λ more. left_by more (v ∷ vs) t (Ok stmt ∷ behind_it) (one ∷ given) broken) (λ more. left_by more vs u behind_it given (rest_of broken))
          (λ more. left_served more vs t behind_it one given broken v stmt (subst (λ (y : Session). is_full_now y stmt ≡ false) (sym same) so.room)) refl rest
      left_along m0 d tables positions spelt answers broken old drawn tells holds rests t ts ds (together_so {m1 = m1} flown {positions = vs} stmts {more = behind_it} up {answers = given} lands long leaves path) =
          let landed = lands.landed in
          let on = leaves t ts ds in
          let own = rests_landed m0 m1 tables landed old (rests_free m0 d tables landed.flown.free rests) in
          let rest = left_along m1 d tables vs behind_it given (drop (length stmts) broken) (saves_landed m0 m1 landed old) lands.drawn (subst (λ (b : Bool). IsTrue b) (sym landed.flown.later.tells) tells) lands.holds
          (rests_owing m1 d tables landed.flown.owed own) on.behind (on.tables ∙ ts) (on.draws ∙ ds) path in
          let flown_texts : List Spelt = map Ok stmts in
          let ups : length flown_texts ≡ length stmts = length-map stmts Ok in
          let sum = length-append up given in
          left_as (flown_texts ++ behind_it) behind_it (up ++ given) given (λ more. left_by more (flown ++ vs) t (flown_texts ++ behind_it) (up ++ given) broken) (λ more. left_by more vs on.behind behind_it given (drop (length stmts) broken))
          on.left (drop_more flown_texts behind_it (length given) (length (up ++ given)) (omega (arith, ups, sum, long))) rest

-- the last of these is the one after so many
last_of : (n m : ℕ) → n ≡ m → (spelt : List Spelt) (begun : Stmt) → drop n spelt ≡ Ok begun ∷ [] → spelt ≡ take m spelt ++ Ok begun ∷ []
last_of n m same spelt begun is =
    let there : drop m spelt ≡ Ok begun ∷ [] = subst (λ (k : ℕ). drop k spelt ≡ Ok begun ∷ []) same is in
    sym (take-append-drop m spelt) ∙ ap (λ (l : List Spelt). take m spelt ++ l) there

-- ---- what follows for each session that statements may go on from
from_both : (base : Base) (P Q T : Session → Type 0) → ((tables : Tables) → P (session_at base tables) → Q (session_at base tables) → T (session_at base tables)) → FromEach base P → FromEach base Q → FromEach base T
from_both base P Q T follows first second = go base.opened first second
  where
    go : (o : Option Opened) → HoldsFrom o base P → HoldsFrom o base Q → HoldsFrom o base T
    go None p q = follows [] p q
    go (Some o) p q = λ tables rested. follows tables (p tables rested) (q tables rested)

-- ---- a session whose tables are saved leaves them so
-- of statements that were carried out along these machines, and answered as the model does
module _ {R : Type 0} (state : R → RevState) (secret salt : List ℕ) (base : Base) (keys : KeySet) (m0 m2 : Machine R) (begins : BeginsToSave state secret salt base keys m0) (words : m0.flights.words ≡ words_of base) (ending : Ending) (story : Story)
    (along : Along state ending m0 m2 story.spelt story.answers) (each : length story.answers ≡ length story.served)
    (follow : SpellFirst (story.served ++ story.more) (story.spelt ++ map Ok (statements_of m2.owed)))
    (meant : IsTrue m0.store.tells → m2.store.lie ≡ None → (tables : Tables) → Holds state m0 (first_draws keys) tables
    → (broken : Broken) × AnswersFrom ending (positions_at m0 story.entries) (session_of m0 (first_draws keys) tables) story.spelt broken story.answers (story.seen ++ story.last) story.part
    × Path state ending m0 m2 (first_draws keys) tables (positions_at m0 story.entries) story.spelt story.answers broken) where
  abbrev d0 : Draws
  d0 = first_draws keys

  here : (tables : Tables) → session_of m0 d0 tables ≡ drawing keys (session_at base tables)
  here tables = λ i. record { public = begins.public i; tables = tables; asked = begins.count i; draws = d0 }

  positions_same : positions_at m0 story.entries ≡ positions_of base story.entries
  positions_same = λ i. positions_from (words i) 0 (begins.public i) (begins.count i) story.entries

  saves0 : Saves state salt base keys m0
  saves0 = record { agrees = begins.agrees; saves = begins.saves; pack = ap (λ (p : Public). p.pack) begins.public; most = ap batch_most begins.public; start = begins.start; keyed = begins.keyed }

  module _ (held : Mark) (is : m0.keeper.held ≡ Some held) where
    holds2 : HoldsMark state secret salt base keys held m2
    holds2 =
        mark_along state ending m2 salt base keys secret begins.of held begins.salted m0 story.spelt story.answers saves0
        (record { mark = held; is = is; which = inl refl }) along

    rests_behind : IsHonest m0.store m2.store → (tables : Tables) → Represents state m0.engine m0.store tables → RestsOn secret held base.public m0.store.kept tables
        → RestsBehind base secret keys ending story holds2.mark m2.store.kept (session_at base tables)
    rests_behind honest tables represents on =
        let holds = holds_free state m0 d0 tables begins.free represents in
        let from = meant honest.tells honest.no_lie tables holds in
        let none : tables_behind m0 d0 tables ≡ tables = ap (λ (owed : List Owed). settle_all d0 (public_of m0.engine) (asked_of m0) (statements_of owed) tables) begins.free in
        let rest = left_along state ending m2 salt base keys secret begins.of honest.no_lie m0 d0 tables (positions_at m0 story.entries) story.spelt story.answers from.0 saves0 begins.drawn honest.tells holds
        (record {
          mark = held;
          is = is;
          on = subst (λ (ts : Tables). RestsOn secret held (public_of m0.engine) m0.store.kept ts) (sym none) (subst (λ (p : Public). RestsOn secret held p m0.store.kept tables) (sym begins.public) on);
        }) (session_of m0 d0 tables) refl refl from.2 in
        let same : rest.mark ≡ holds2.mark = let one = rest.is in let other = holds2.is in cc (one, other) in
        record {
          broken = from.0;
          answered = subst (λ (vs : List Position). AnswersFrom ending vs (drawing keys (session_at base tables)) story.spelt from.0 story.answers (story.seen ++ story.last) story.part) positions_same
              (subst (λ (s : Session). AnswersFrom ending (positions_at m0 story.entries) s story.spelt from.0 story.answers (story.seen ++ story.last) story.part) (here tables) from.1);
          more = rest.more;
          unanswered = λ stmts some. let may = rest.unanswered stmts some in may_take stmts may.0 may.1;
          rests = subst (λ (m : Mark). RestsAlike secret m m2.store.kept (left_by rest.more (positions_of base story.entries) (drawing keys (session_at base tables)) story.spelt story.answers from.0)) same
              (subst (λ (ts : Tables). RestsAlike secret rest.mark m2.store.kept ts) (λ i. left_by rest.more (positions_same i) (here tables i) story.spelt story.answers from.0) rest.rests);
        }
      where
        may_take : (stmts : List Stmt) → stmts ≡ statements_of m2.owed → MayBehind state ending m2 salt base keys secret begins.of honest.no_lie story.spelt story.answers → MayTake (batch_most base.public) ending story stmts
        may_take stmts same may = record {
          more = may.more;
          along = record {
            few = subst (λ (l : List Stmt). length l < batch_most base.public) (sym same) may.few;
            spell = subst (λ (l : List Stmt). SpellFirst (story.served ++ story.more) (story.spelt ++ map Ok l)) (sym same) follow;
            together = λ some.
                let them = may.together (λ off. some (same ∙ off)) in
                record {
                  begun = them.begun;
                  last = last_of (length story.answers) (length story.served) each story.spelt them.begun them.last;
                  table = them.table;
                  insert = subst (λ (l : List Stmt). AllInsert them.table (them.begun ∷ l)) (sym same) them.insert;
                };
          };
        }

  pub leaves_saved : LeavesSaved secret salt base keys ending story m0.store m2.store m0.keeper m2.keeper
  leaves_saved = record {
    told = λ held is. (
      (holds2 held is).mark,
      (holds2 held is).is,
      record {
        which = (holds2 held is).which;
        rests = λ honest.
            from_both base (λ s. Represents state m0.engine m0.store s.tables) (λ s. RestsOn secret held base.public m0.store.kept s.tables)
            (λ s. RestsBehind base secret keys ending story (holds2 held is).mark m2.store.kept s) (rests_behind held is honest) begins.held (begins.rests held is);
      },
    );
  }
