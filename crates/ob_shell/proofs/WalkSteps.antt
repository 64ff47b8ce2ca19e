-- A walk over the texts that were answered, one by one.
use Rattle.ob_shell.proofs.Words.{Access, after, Answer, ap, append_assoc, AreDraws, arith, asked_of, Begins, begins_batch, Bool, by_fault, cut_off, Disturbance, Draws, drop, End, end_cut, Ending, engine_start, Err, false, Flights, Gathered, Gathering, How, if◌then◌else◌, indexes_of, inl, inr, inserts_into, is_cut, is_fault, is_some, IsBefore, IsSteady, IsTrue, KeySet, length, length-append, FalseRead, List, Machine, may_fly, met_script, most_flown, next, None, Ok, Option, option_map, Public, public_of, refl, refusal_now, Represents, RevState, Rises, RisesBy, script, Position, Seen, seen_of, seen_or_cut, Session, session_of, skeleton, Some, SpellFirst, Spelt, standing, Start, statements, Stmt, subst, suc, sym, Tables, take, take-append-le, true, ℕ, [], ◌++◌, ◌+◌, ◌∙◌, ◌∷◌, ◌≡◌, ◌≤◌, ◌⊎◌}
use Rattle.ob_exec.proofs.LeavesRead.{behind}
use Rattle.ob_headline.specs.Accesses.{AreSeen, LeavesInFlight, StopsWithin, any_cut, cut_in_flight}
use Rattle.ob_headline.specs.Disturbed.{MeantUntil}
use Rattle.ob_headline.specs.Flights.{GoesOn, after_entries, position_alone, whole_of}
use Rattle.ob_headline.specs.Meaning.{AnswersFrom, AnswersIn, AnswersMeant, session_after}
use Rattle.ob_mean.specs.Batches.{and_one, begun_by, gathering_after, goes_into}
use Rattle.ob_mean.specs.Replay.{Alone, Broken, draws_taken, how_now, seen_now}
use Rattle.ob_script.specs.Flights.{Alone as AloneTurn, Entry as Turn, trace_in}
use Rattle.ob_script.specs.Trace.{Served as Entry}
use Rattle.ob_shell.proofs.DisturbLemmas.{before_less, begins_more, crosses, few_or_more}
use Rattle.ob_shell.proofs.FailureLemmas.{answered, beside_more, cut_rises, cuts_more, fails_more, own_rises, uncut_rises}
use Rattle.ob_shell.proofs.EndLemmas.{alone_joins, failed_by, same_by, says}
use Rattle.ob_shell.proofs.FlightMeant.{Told, one_told}
use Rattle.ob_shell.proofs.HowLemmas.{StartsApart, gathered_by, how_alone, meets_first, met_room, met_trace, starts_as, then_select}
use Rattle.ob_shell.proofs.LeafLemmas.{Reads, given_after, reads_more, reads_unasked}
use Rattle.ob_shell.proofs.LeavePath.{Along, IsPositionOf, Path, StandsSo, answered_along, answered_so, passed_along, passed_so}
use Rattle.ob_shell.proofs.ReplayLemmas.{counts_on, draws_after, free_holds, holds_free, stands_after}
use Rattle.ob_shell.proofs.PositionLemmas.{after_alone_then, trace_alone_then}
use Rattle.ob_shell.proofs.WalkEntries.{alone_entries, most_at, refused_entries, positions_at, positions_more, trace_at, whole_alone}
use Rattle.ob_shell.proofs.WalkLemmas.{AfterTexts, EarlyFrom, Full, Walked, answered_by, early_answered, none_saved, or_first, or_rest, reads_true, refused_is, world}
use Rattle.ob_shell.proofs.WithLemmas.{batched, failed_with, means_with, meant_with, next_with, room_with, script_with, seen_with, uncut_with, with_apart, with_failed, with_grounded, with_joins, with_lawful, with_plan, with_says}
use Rattle.ob_shell.specs.Steps.{Holds, Misspelt, ServedStatement, ServedWith, StaysAs, has_failed}
use Rattle.ob_vault.specs.Tied.{IsUnfit, TagFits}

-- ---- the walk
module _ {R : Type 0} (state : R → RevState) where
  -- one text more
  -- one of which nothing was asked: the machine stands where it stood
  module _ {Lost : Type 0} (ending : Ending) (m0 m1 m m2 : Machine R) (texts more : List (List ℕ)) (answers : List Answer) (part : List ℕ) (same : StaysAs m0 m1) where
    here_again : Walked state Lost ending m1 m m2 texts more answers part → Walked state Lost ending (standing m0 m1.owed m1.gathered) m m2 texts more answers part
    here_again = subst (λ (x : Machine R). Walked state Lost ending x m m2 texts more answers part) same

  path_again : (ending : Ending) (m0 m1 m2 : Machine R) (d : Draws) (tables : Tables) (positions : List Position) (spelt : List Spelt) (answers : List Answer) (broken : Broken) → StaysAs m0 m1
      → Path state ending (standing m0 m1.owed m1.gathered) m2 d tables positions spelt answers broken → Path state ending m1 m2 d tables positions spelt answers broken
  path_again ending m0 m1 m2 d tables positions spelt answers broken same = subst (λ (x : Machine R). Path state ending x m2 d tables positions spelt answers broken) (sym same)

  pub more_refused : {Lost : Type 0} (ending : Ending) (m0 m1 m m2 : Machine R) (text : List ℕ) (texts more : List (List ℕ)) (one : Answer) (answers : List Answer) (part : List ℕ) → StaysAs m0 m1 → Misspelt m0 m1 text one
      → Walked state Lost ending m1 m m2 texts more answers part → Walked state Lost ending m0 m m2 (text ∷ texts) more (one ∷ answers) part
  unfolding SpellFirst AreSeen AnswersFrom any_cut statements session_after
  more_refused {Lost = Lost} ending m0 m1 m m2 text texts more one answers part same bad there =
      let rest = here_again ending m0 m1 m m2 texts more answers part same there in
      let is = refused_is state m0 m1 text one bad in
      let fresh = standing m0 m1.owed m1.gathered in
      let none : m1.gathered.batch ≡ None = ap (λ (x : Gathered). x.batch) bad.gathered in
      let on : (d : Draws) (tables : Tables) → Holds state m0 d tables → Holds state fresh d tables = λ d tables held. holds_free state fresh d tables bad.owed (free_holds state m0 d tables bad.free held) in
      record {
        spelt = Err bad.at ∷ rest.spelt;
        spells = (bad.spells, rest.spells);
        follow = (bad.spells, rest.follow);
        reached = omega (arith, rest.reached);
        begun = omega (arith, rest.begun);
        each = ap (λ (n : ℕ). suc n) rest.each;
        seen = rest.seen;
        last = rest.last;
        entries = rest.entries;
        entered = refused_entries m0 fresh bad.at rest.entries rest.spelt rest.seen rest.last (ap (λ (x : Gathered). x.flown) bad.gathered) refl refl refl rest.entered;
        in_access = rest.in_access;
        each_seen = rest.each_seen;
        lawful = λ most old fails d drawn g. (
          is,
          subst (λ (o : Option Gathering). AreSeen (StopsWithin ending (RisesBy most old m2.store.faults) (Full state m2)) (positions_at m0 rest.entries) o rest.spelt answers (rest.seen ++ rest.last)) none
              (rest.lawful most old fails d drawn g),
        );
        aloft = rest.aloft;
        on = rest.on;
        passed = rest.passed;
        stands = rest.stands;
        asked = rest.asked;
        keys = rest.keys;
        start = rest.start;
        from_closing = rest.from_closing;
        along = passed_along (record { same = same; free = bad.free; owed = bad.owed }) (subst (λ (y : Machine R). Along state ending y m2 rest.spelt answers) (sym same) rest.along);
        public = rest.public;
        save = rest.save;
        unfailed = rest.unfailed;
        cuts = rest.cuts;
        failed = λ alone.
            let own : is_fault one.outcome ≡ false = ap is_fault bad.refused in
            fails_more one answers m0.store.faults m0.store.faults m2.store.faults (own_rises one.outcome m0.store.faults m0.store.faults own refl) (rest.failed alone);
        drawn = rest.drawn;
        lie = rest.lie;
        meant = λ d drawn tells calm unfit tables held.
            let from = rest.meant d drawn tells calm unfit tables (on d tables held) in
            record {
              broken = Alone ∷ from.broken;
              meant = (is, from.meant);
              behind = record { whole = from.behind.whole; path = passed_so (record { same = same; free = bad.free; owed = bad.owed }) (path_again ending m0 m1 m2 d tables (positions_at m0 rest.entries) rest.spelt answers from.broken same from.behind.path) };
            };
        untampered = λ d drawn tells tables held honest. rest.untampered d drawn tells tables (on d tables held) honest;
        early = λ d drawn tells steady tables held sound n before few.
            early_answered state n (most_at m0) m0.flights.words m0.gathered.batch (positions_at m0 rest.entries) (session_of m0 d tables) m0.store.asked m2.store.asked bad.at rest.spelt one answers (rest.seen ++ rest.last) is
            (subst (λ (o : Option Gathering). EarlyFrom state n (most_at m0) m0.flights.words o (positions_at m0 rest.entries) (session_of m0 d tables) m0.store.asked m2.store.asked rest.spelt answers (rest.seen ++ rest.last)) none
            (rest.early d drawn tells steady tables (on d tables held) (ap has_failed none) n before few));
      }

  -- no lie was told before
  none_before : (o : Option FalseRead) (m1 m2 : Machine R) → m1.store.lie ≡ o → ((lie : FalseRead) → m1.store.lie ≡ Some lie → m2.store.lie ≡ Some lie) → m2.store.lie ≡ None → m1.store.lie ≡ None
  none_before None m1 m2 is stays none = is
  none_before (Some lie) m1 m2 is stays none = absurd (cc (stays lie is, none))

  -- where no call failed the store failed none
  unfaulted : (m0 m1 : Machine R) (text : List ℕ) (one : Answer) → ServedStatement state m0 m1 text one → m1.store.faults ≡ 0 → is_fault one.outcome ≡ false
  unfaulted m0 m1 text one did none = go (is_fault one.outcome) did.does.ran.cause.0
    where
      go : (failed : Bool) → by_fault failed (Rises m0.store.faults m1.store.faults) (m1.store.faults ≡ m0.store.faults) → failed ≡ false
      go true rose = absurd (omega (arith, rose, none))
      go false kept = refl

  begun_sound : (o : Option (List ℕ)) (cut : Bool) → cut ≡ false → has_failed (option_map (λ (table : List ℕ). record { table = table; count = 1; failed = cut }) o) ≡ false
  begun_sound None cut own = refl
  begun_sound (Some table) cut own = own

  sound_after : (p : Public) (m : ℕ) (g : Option Gathering) (stmt : Stmt) (end : End) → goes_into p g (skeleton stmt) ≡ false → is_cut end ≡ false → has_failed (gathering_after p m g stmt end) ≡ false
  sound_after p m g stmt end off own =
      ap (λ (b : Bool). has_failed (if b then option_map and_one g else if begins_batch p m stmt then begun_by (skeleton stmt) end else None)) off ∙ go (begins_batch p m stmt)
    where
      go : (b : Bool) → has_failed (if b then begun_by (skeleton stmt) end else None) ≡ false
      go true = begun_sound (inserts_into (skeleton stmt)) (is_cut end) own
      go false = refl

  -- one statement more, and then those of which the rest tells
  early_served : (m0 m1 m2 : Machine R) (tables : Tables) (text : List ℕ) (one : Answer) (did : ServedStatement state m0 m1 text one) (n : ℕ) (positions : List Position) (spelt : List Spelt) (answers : List Answer) (seen : List Entry)
      → (d : Draws) → AreDraws m0.engine d → IsTrue m0.store.tells → IsSteady m0.store → Represents state m0.engine m0.store tables → IsBefore m0.store.disturbed n → length m0.store.asked ≤ n
      → (asked : List Access) → m2.store.asked ≡ m1.store.asked ++ asked → StartsApart (most_at m1) (public_of m1.engine) m1.gathered.flown spelt
      → ((later : Draws) → AreDraws m1.engine later → (after_it : Tables) → Holds state m1 later after_it → has_failed m1.gathered.batch ≡ false → length m1.store.asked ≤ n
      → EarlyFrom state n (most_at m1) m1.flights.words m1.gathered.batch positions (session_of m1 later after_it) m1.store.asked m2.store.asked spelt answers seen)
      → EarlyFrom state n (most_at m0) m0.flights.words m0.gathered.batch (position_alone (public_of m0.engine) (asked_of m0) (record { skeleton = skeleton did.stmt; seen = seen_of m1.engine }) ∷ positions) (session_of m0 d tables) m0.store.asked m2.store.asked (Ok did.stmt ∷ spelt) (one ∷ answers)
      (record { skeleton = skeleton did.stmt; seen = seen_of m1.engine } ∷ seen)
  unfolding MeantUntil trace_in
  early_served m0 m1 m2 tables text one did n positions spelt answers seen d drawn tells steady held before few asked grew starts rest =
      let s = session_of m0 d tables in
      let p = public_of m0.engine in
      let sk = skeleton did.stmt in
      let most = most_at m0 in
      let words = m0.flights.words in
      let later = did.does.ran.later in
      let public_is : public_of m1.engine ≡ next p sk (seen_of m1.engine) = did.does.ran.goes_on.public in
      let most_is : most_at m1 ≡ most = λ i. most_flown (did.does.flights i).settings (public_is i) in
      let asked_is : length m1.store.asked ≡ length m0.store.asked + length (script p sk (seen_of m1.engine)) = ap length did.does.ran.asked ∙ length-append m0.store.asked (script p sk (seen_of m1.engine)) in
      let cross = crosses state m0 m1 d drawn tables did.stmt (Ok one.outcome) did.does tells steady held n before few in
      let g = m0.gathered.batch in
      let alone : how_now g s did.stmt ≡ Alone = how_alone most words g s did.stmt spelt did.does.alone.batch in
      let apart : may_fly p sk ≡ true → StartsApart most (after Alone s did.stmt).public 1 spelt = λ fly.
      let one_more : m1.gathered.flown ≡ 1 = ap (λ (x : Gathered). x.flown) did.gathered ∙ ap (λ (b : Bool). if b then 0 + 1 else 0) fly in
      let tables_are : (public_of m1.engine).tables ≡ p.tables = ap (λ (q : Public). q.tables) public_is ∙ then_select p sk (seen_of m1.engine).end fly in
      starts_as most (public_of m1.engine) (after Alone s did.stmt).public 1 spelt (then_select p sk (seen_now s did.stmt).end fly ∙ sym tables_are)
      (subst (λ (k : ℕ). StartsApart k (public_of m1.engine) 1 spelt) most_is (subst (λ (k : ℕ). StartsApart (most_at m1) (public_of m1.engine) k spelt) one_more starts)) in
      let first = meets_first most words g s did.stmt spelt did.does.alone.batch apart in
      let split : m0.store.asked ++ met_trace most words g s (Ok did.stmt ∷ spelt) ≡ (m0.store.asked ++ met_script s did.stmt) ++ first.tail =
      ap (λ (l : List Access). m0.store.asked ++ l) first.asks ∙ sym (append_assoc m0.store.asked (met_script s did.stmt) first.tail) in
      elim (few_or_more (length m1.store.asked) n) [
        | inl within ↦
            let quiet = (later.steady steady).quiet (before_less m1.store.disturbed (length m1.store.asked) n within (subst (λ (o : Option (List Disturbance)). IsBefore o n) (sym later.disturbed) before)) in
            let by = answered_by state m0 m1 tables text one did d drawn (record { tells = tells; held = held; nolie = quiet.lie }) in
            let whole : by.how ≡ Alone = by.whole quiet.faults in
            let seen_is : seen_of m1.engine ≡ seen_now s did.stmt = by.seen ∙ ap (λ (o : How). seen_or_cut o s did.stmt) whole in
            let answer : AnswersMeant s did.stmt one = subst (λ (o : How). AnswersIn o s did.stmt one) whole by.answer in
            let behind = after Alone s did.stmt in
            let held_there : Holds state m1 behind.draws behind.tables = subst (λ (o : How). Holds state m1 (after o s did.stmt).draws (after o s did.stmt).tables) whole by.held in
            let stands : behind ≡ session_of m1 behind.draws behind.tables = stands_after state m0 m1 d tables text one did Alone seen_is in
            let gathers : m1.gathered.batch ≡ gathered_by Alone g s did.stmt = ap (λ (x : Gathered). x.batch) did.gathered ∙ ap (λ (x : Seen). gathering_after p s.asked g did.stmt x.end) seen_is in
            let own : is_fault one.outcome ≡ false = unfaulted m0 m1 text one did quiet.faults in
            let sound : has_failed m1.gathered.batch ≡ false = ap (λ (x : Gathered). has_failed x.batch) did.gathered ∙ sound_after p s.asked g did.stmt (seen_of m1.engine).end did.does.alone.batch (ap is_cut did.does.ran.ends ∙ end_cut one.outcome _ ∙ own) in
            let there = rest behind.draws (draws_after state m0 m1 d tables text one did Alone seen_is drawn) behind.tables held_there sound within in
            let there_so : EarlyFrom state n most words (gathered_by Alone g s did.stmt) positions behind m1.store.asked m2.store.asked spelt answers seen =
            subst (λ (k : ℕ). EarlyFrom state n k words (gathered_by Alone g s did.stmt) positions behind m1.store.asked m2.store.asked spelt answers seen) most_is
            (subst (λ (f : Flights). EarlyFrom state n (most_at m1) f.words (gathered_by Alone g s did.stmt) positions behind m1.store.asked m2.store.asked spelt answers seen) did.does.flights
            (subst (λ (o : Option Gathering). EarlyFrom state n (most_at m1) m1.flights.words o positions behind m1.store.asked m2.store.asked spelt answers seen) gathers
            (subst (λ (x : Session). EarlyFrom state n (most_at m1) m1.flights.words m1.gathered.batch positions x m1.store.asked m2.store.asked spelt answers seen) (sym stands) there))) in
            let behind_trace = met_trace most words (gathered_by Alone g s did.stmt) behind spelt in
            let all : met_trace most words g s (Ok did.stmt ∷ spelt) ≡ script p sk (seen_now s did.stmt) ++ behind_trace = ap (trace_in words 0 p) (met_room most words g s did.stmt spelt Alone alone (λ fly. (refl, apart fly)) by.room) in
            let joined : m1.store.asked ++ behind_trace ≡ m0.store.asked ++ met_trace most words g s (Ok did.stmt ∷ spelt) =
            ap (λ (l : List Access). l ++ behind_trace) (did.does.ran.asked ∙ ap (λ (x : Seen). m0.store.asked ++ script p sk x) seen_is)
            ∙ append_assoc m0.store.asked (script p sk (seen_now s did.stmt)) behind_trace ∙ ap (λ (l : List Access). m0.store.asked ++ l) (sym all) in
            record {
              meant = λ few_here. (
                by.room,
                answer,
                seen_is ∙ ap (λ (h : How). seen_or_cut h s did.stmt) (sym alone),
                subst (λ (h : How). MeantUntil n (gathered_by h g s did.stmt) positions (after h s did.stmt) spelt answers seen) (sym alone) there_so.meant,
              );
              begins = subst (λ (l : List Access). Begins (take n m2.store.asked) l) joined there_so.begins;
              quiet = λ le. there_so.quiet (subst (λ (l : List Access). length l ≤ n) (sym joined) le);
            }
        | inr past ↦
            let part : take n m2.store.asked ≡ take n m1.store.asked = ap (take n) grew ∙ take-append-le n m1.store.asked asked (omega (arith, past)) in
            record {
              meant = λ few_here. absurd (omega (arith, few_here, asked_is, past));
              begins = subst (λ (l : List Access). Begins l (m0.store.asked ++ met_trace most words g s (Ok did.stmt ∷ spelt))) (sym part)
                  (subst (λ (l : List Access). Begins (take n m1.store.asked) l) (sym split) (begins_more (take n m1.store.asked) (m0.store.asked ++ met_script s did.stmt) first.tail cross.begins));
              quiet = λ le. absurd (
                  let long = ap length split in
                  let parts = length-append (m0.store.asked ++ met_script s did.stmt) first.tail in
                  let within = cross.within (omega (arith, le, long, parts)) in omega (arith, within, past));
            }
      ]

  unfit_before : (m1 m2 : Machine R) → m2.engine.vault.keys ≡ m1.engine.vault.keys → engine_start m2.engine ≡ engine_start m1.engine → ((lie : FalseRead) → m1.store.lie ≡ Some lie → m2.store.lie ≡ Some lie) → IsUnfit (world state m2) → IsUnfit (world state m1)
  unfit_before m1 m2 keys start stays unfit = record {
    unfit = λ lie is fits. unfit.unfit lie (stays lie is)
        (subst (λ (x : Start). TagFits m2.engine.vault.keys x lie) (sym start) (subst (λ (k : KeySet). TagFits k (engine_start m1.engine) lie) (sym keys) fits));
  }

  -- what was asked of a statement and then of the texts after it
  module _ (m0 m1 : Machine R) (text : List ℕ) (one : Answer) (did : ServedStatement state m0 m1 text one) where
    abbrev p_here : Public
    p_here = public_of m0.engine

    abbrev x_here : Entry
    x_here = record { skeleton = skeleton did.stmt; seen = seen_of m1.engine }

    asks_on : asked_of m1 ≡ asked_of m0 + length (script p_here (skeleton did.stmt) (seen_of m1.engine))
    asks_on = counts_on m0 m1 (script p_here (skeleton did.stmt) (seen_of m1.engine)) did.does.ran.start did.does.ran.asked

    words_on : m1.flights.words ≡ m0.flights.words
    words_on = ap (λ (f : Flights). f.words) did.does.flights

    asked_more : (asked : List Access) (entries : List Turn) → asked ≡ m1.store.asked ++ trace_at m1 entries → asked ≡ m0.store.asked ++ trace_at m0 (AloneTurn x_here ∷ entries)
    asked_more asked entries is =
        let here = script p_here (skeleton did.stmt) (seen_of m1.engine) in
        is ∙ ap (λ (l : List Access). l ++ trace_at m1 entries) did.does.ran.asked ∙ append_assoc m0.store.asked here (trace_at m1 entries)
        ∙ ap (λ (l : List Access). m0.store.asked ++ l) (sym (trace_alone_then m0.flights.words m1.flights.words p_here (public_of m1.engine) (asked_of m0) (asked_of m1) x_here words_on did.does.ran.goes_on.public asks_on entries))

    positions_on : (entries : List Turn) → position_alone p_here (asked_of m0) x_here ∷ positions_at m1 entries ≡ positions_at m0 (AloneTurn x_here ∷ entries)
    positions_on entries = sym (positions_more m0 m1 did.stmt (seen_of m1.engine) did.does.flights did.does.ran.goes_on.public asks_on entries)

    after_on : (entries : List Turn) → after_entries m1.flights.words 0 (public_of m1.engine) entries ≡ after_entries m0.flights.words 0 p_here (AloneTurn x_here ∷ entries)
    after_on entries = sym (after_alone_then m0.flights.words m1.flights.words p_here (public_of m1.engine) (asked_of m0) (asked_of m1) x_here words_on did.does.ran.goes_on.public asks_on entries)

  pub more_served : {Lost : Type 0} (ending : Ending) (m0 m1 m m2 : Machine R) (text : List ℕ) (texts more : List (List ℕ)) (one : Answer) (answers : List Answer) (part : List ℕ) → ServedStatement state m0 m1 text one
      → Walked state Lost ending m1 m m2 texts more answers part → Walked state Lost ending m0 m m2 (text ∷ texts) more (one ∷ answers) part
  unfolding SpellFirst AreSeen AnswersFrom any_cut statements
  more_served {Lost = Lost} ending m0 m1 m m2 text texts more one answers part did rest =
      let p = public_of m0.engine in
      let sk = skeleton did.stmt in
      let here = seen_of m1.engine in
      let x : Entry = record { skeleton = sk; seen = here } in
      let all = rest.seen ++ rest.last in
      let there = positions_on m0 m1 text one did rest.entries in
      let public_is : public_of m1.engine ≡ next p sk here = did.does.ran.goes_on.public in
      let rises = cut_rises one.outcome (is_cut here.end) m0.store.faults m1.store.faults (ap is_cut did.does.ran.ends ∙ end_cut one.outcome _) did.does.ran.cause.0 in
      record {
        spelt = Ok did.stmt ∷ rest.spelt;
        spells = (did.spells, rest.spells);
        follow = (did.spells, rest.follow);
        reached = omega (arith, rest.reached);
        begun = omega (arith, rest.begun);
        each = ap (λ (n : ℕ). suc n) rest.each;
        seen = x ∷ rest.seen;
        last = rest.last;
        entries = AloneTurn x ∷ rest.entries;
        entered = alone_entries m0 m1 did.stmt here did.does.flights public_is (asks_on m0 m1 text one did) rest.entries rest.spelt rest.seen rest.last did.does.alone.flown (ap (λ (y : Gathered). y.flown) did.gathered) rest.entered;
        in_access = rest.in_access;
        each_seen = ap (λ (n : ℕ). suc n) rest.each_seen;
        lawful = λ most old fails d drawn g.
            subst (λ (vs : List Position). AreSeen (StopsWithin ending (RisesBy most old m2.store.faults) (Full state m2)) vs m0.gathered.batch (Ok did.stmt ∷ rest.spelt) (one ∷ answers) (x ∷ all)) there (
              refl,
              did.does.lawful,
              (
                says (refusal_now p (asked_of m0) did.stmt) p did.stmt one here did.events did.does.early did.emits did.printed (ap is_cut did.does.ran.ends ∙ end_cut one.outcome _)
                    did.planned,
                failed_by m0.gathered.batch one.outcome here.end _ did.does.ran.ends,
                did.planned,
                alone_joins p (asked_of m0) m0.gathered.batch did.stmt here (Ok one.outcome) _ did.does.alone.batch did.does.ran.ends,
              ),
              subst (λ (o : Option Gathering). AreSeen (StopsWithin ending (RisesBy most old m2.store.faults) (Full state m2)) (positions_at m1 rest.entries) o rest.spelt answers all) (ap (λ (y : Gathered). y.batch) did.gathered)
                  (rest.lawful most old (λ beside. fails (beside_more x rest.seen m0.store.faults m1.store.faults m2.store.faults rises beside))
                  (behind d (draws_taken p sk here.end)) (did.does.ran.goes_on.drawn d drawn) (given_after state m0 m1 did.stmt (Ok one.outcome) did.does d drawn g did.does.ran.goes_on.lives)),
            );
        aloft = subst (λ (vs : List Position). LeavesInFlight ending m2.store.asked (drop (suc (length rest.seen)) vs) (statements (drop (length texts) rest.spelt)) rest.last) there rest.aloft;
        on = subst (λ (vs : List Position). GoesOn (drop (suc (length rest.seen)) vs) ⊎ Lost) there rest.on;
        passed = asked_more m0 m1 text one did m.store.asked (whole_of (length rest.seen) rest.entries) rest.passed ∙ ap (λ (es : List Turn). m0.store.asked ++ trace_at m0 es) (sym (whole_alone (length rest.seen) x rest.entries));
        stands = rest.stands ∙ after_on m0 m1 text one did (whole_of (length rest.seen) rest.entries) ∙ ap (λ (es : List Turn). after_entries m0.flights.words 0 p es) (sym (whole_alone (length rest.seen) x rest.entries));
        asked = asked_more m0 m1 text one did m2.store.asked rest.entries rest.asked;
        keys = rest.keys ∙ did.does.ran.keys;
        start = rest.start ∙ did.does.ran.start;
        from_closing = λ unsaved. rest.from_closing (ap (λ (q : Public). q.save) did.does.ran.goes_on.public ∙ unsaved) ∙ did.does.ran.from_closing (none_saved p sk unsaved);
        along = answered_along (inl (record { does = did.does; owes = did.owes })) rest.along;
        public = λ whole. rest.public whole ∙ after_on m0 m1 text one did rest.entries;
        save = rest.save ∙ ap (λ (q : Public). q.save) did.does.ran.goes_on.public;
        unfailed = λ not.
            rest.unfailed (or_rest (is_cut here.end) (any_cut all) not)
            ∙ same_by one.outcome (world state m0) (world state m1) here.end _ did.does.ran.cause did.does.ran.ends (or_first (is_cut here.end) (any_cut all) not);
        cuts = subst (λ (vs : List Position). RisesBy (cut_off (x ∷ rest.seen) + cut_in_flight (drop (suc (length rest.seen)) vs) rest.last) m0.store.faults m2.store.faults) there
            (cuts_more x rest.seen (cut_in_flight (drop (length rest.seen) (positions_at m1 rest.entries)) rest.last) m0.store.faults m1.store.faults m2.store.faults rises rest.cuts);
        failed = λ alone.
            fails_more one answers m0.store.faults m1.store.faults m2.store.faults (answered one.outcome m0.store.faults m1.store.faults did.does.ran.cause.0)
            (rest.failed (ap (λ (q : Public). q.batch) did.does.ran.goes_on.public ∙ alone));
        drawn = λ d drawn g.
            subst (λ (vs : List Position). Reads d (indexes_of m0.engine) g vs (x ∷ all)) there
            (reads_more state m0 m1 did.stmt (Ok one.outcome) did.does d drawn g (positions_at m1 rest.entries) all did.does.ran.goes_on.lives
            (λ h. rest.drawn (behind d (draws_taken p sk here.end)) (did.does.ran.goes_on.drawn d drawn) h));
        lie = λ lie it. rest.lie lie (did.does.ran.later.lie lie it);
        meant = λ d drawn tells calm unfit tables held.
            let s = session_of m0 d tables in
            let now = free_holds state m0 d tables did.does.free held in
            let by = answered_by state m0 m1 tables text one did d drawn (reads_true state m0 m1 tables text one did tells now calm (unfit_before m1 m2 rest.keys rest.start rest.lie unfit)) in
            let behind_it = after by.how s did.stmt in
            let from = rest.meant behind_it.draws (draws_after state m0 m1 d tables text one did by.how by.seen drawn) (subst (λ (b : Bool). IsTrue b) (sym did.does.ran.later.tells) tells) (did.does.ran.cause.1 calm) unfit behind_it.tables by.held in
            let stands = stands_after state m0 m1 d tables text one did by.how by.seen in
            let inner = AfterTexts state ending m1 m2 behind_it.draws behind_it.tables (positions_at m1 rest.entries) rest.spelt answers in
            let outer : List Position → Broken → Tables → Type 0 = λ vs. AfterTexts state ending m0 m2 d tables vs (Ok did.stmt ∷ rest.spelt) (one ∷ answers) in
            let first : StandsSo state m0 m1 d tables did.stmt one by.how = record {
              room = by.room;
              served = inl (record { done = record { does = did.does; owes = did.owes }; seen = by.seen });
              drawn = draws_after state m0 m1 d tables text one did by.how by.seen drawn;
              holds = by.held;
            } in
            subst (λ (vs : List Position). Told ending vs s (Ok did.stmt ∷ rest.spelt) (one ∷ answers) (x ∷ all) part (outer vs)) there
            (one_told ending (position_alone p (asked_of m0) x) s did.stmt by.how one x (positions_at m1 rest.entries) rest.spelt answers all part inner (outer (position_alone p (asked_of m0) x ∷ positions_at m1 rest.entries)) by.room by.cuts by.answer by.seen
            (subst (λ (y : Session). Told ending (positions_at m1 rest.entries) y rest.spelt answers all part inner) (sym stands) from)
            (λ broken ts b. record { whole = b.whole; path = answered_so (record { public = refl; asked = refl }) first b.path }));
        untampered = λ d drawn tells tables held honest.
            let none : m1.store.lie ≡ None = none_before m1.store.lie m1 m2 refl rest.lie honest in
            let by = answered_by state m0 m1 tables text one did d drawn (record { tells = tells; held = free_holds state m0 d tables did.does.free held; nolie = none }) in
            let behind_it = after by.how (session_of m0 d tables) did.stmt in
            rest.untampered behind_it.draws (draws_after state m0 m1 d tables text one did by.how by.seen drawn) (subst (λ (b : Bool). IsTrue b) (sym did.does.ran.later.tells) tells) behind_it.tables by.held honest;
        early = λ d drawn tells steady tables held sound n before few.
            subst (λ (vs : List Position). EarlyFrom state n (most_at m0) m0.flights.words m0.gathered.batch vs (session_of m0 d tables) m0.store.asked m2.store.asked (Ok did.stmt ∷ rest.spelt) (one ∷ answers) (x ∷ all)) there
            (early_served m0 m1 m2 tables text one did n (positions_at m1 rest.entries) rest.spelt answers all d drawn tells steady (free_holds state m0 d tables did.does.free held) before few (trace_at m1 rest.entries) rest.asked rest.entered.starts
            (λ later drawn_later after_it held_after sound_after few_there.
            rest.early later drawn_later (subst (λ (b : Bool). IsTrue b) (sym did.does.ran.later.tells) tells) (did.does.ran.later.steady steady) after_it held_after sound_after n
            (subst (λ (o : Option (List Disturbance)). IsBefore o n) (sym did.does.ran.later.disturbed) before) few_there));
      }

  -- ---- one that was carried out with the INSERT before it
  -- what holds before the first disturbance
  early_with : (m0 m1 m2 : Machine R) (text : List ℕ) (one : Answer) (with : ServedWith m0 m1 text one) (same : StaysAs m0 m1) (d : Draws) (tables : Tables) (held : Holds state m0 d tables) (n : ℕ) (positions : List Position) (spelt : List Spelt) (answers : List Answer) (seen : List Entry)
      → has_failed m0.gathered.batch ≡ false
      → EarlyFrom state n (most_at m0) m0.flights.words m1.gathered.batch positions (session_of m0 d (after (means_with state m0 m1 text one with same d tables held).how (session_of m0 d tables) with.stmt).tables) m0.store.asked m2.store.asked spelt answers seen
      → EarlyFrom state n (most_at m0) m0.flights.words m0.gathered.batch (position_alone (public_of m0.engine) (asked_of m0) (record { skeleton = skeleton with.stmt; seen = seen_with state m0 m1 text one with }) ∷ positions) (session_of m0 d tables) m0.store.asked m2.store.asked (Ok with.stmt ∷ spelt) (one ∷ answers)
      (record { skeleton = skeleton with.stmt; seen = seen_with state m0 m1 text one with } ∷ seen)
  unfolding MeantUntil trace_in
  early_with m0 m1 m2 text one with same d tables held n positions spelt answers seen sound rest =
      let by = means_with state m0 m1 text one with same d tables held in
      let g = m0.gathered.batch in
      let s = session_of m0 d tables in
      let p = public_of m0.engine in
      let sk = skeleton with.stmt in
      let most = most_at m0 in
      let words = m0.flights.words in
      let how_is : by.how ≡ how_now g s with.stmt = by.plain sound in
      let gathers : m1.gathered.batch ≡ gathered_by by.how g s with.stmt = ap (λ (x : Gathered). x.batch) with.gathered ∙ ap (λ (x : Seen). gathering_after p s.asked g with.stmt x.end) by.seen in
      let there : EarlyFrom state n most words (gathered_by by.how g s with.stmt) positions (after by.how s with.stmt) m0.store.asked m2.store.asked spelt answers seen =
      subst (λ (o : Option Gathering). EarlyFrom state n most words o positions (after by.how s with.stmt) m0.store.asked m2.store.asked spelt answers seen) gathers
      (subst (λ (x : Session). EarlyFrom state n most words m1.gathered.batch positions x m0.store.asked m2.store.asked spelt answers seen) (sym by.stands) rest) in
      let none : script p sk (seen_or_cut by.how s with.stmt) ≡ [] = ap (script p sk) (sym by.seen) ∙ script_with state m0 m1 text one with in
      let behind_trace = met_trace most words (gathered_by by.how g s with.stmt) (after by.how s with.stmt) spelt in
      let off : may_fly p sk ≡ false = with_grounded state m0 m1 text one with in
      let all : met_trace most words g s (Ok with.stmt ∷ spelt) ≡ behind_trace =
      ap (trace_in words 0 p) (met_room most words g s with.stmt spelt by.how (sym how_is) (λ fly. absurd (cc (off, fly))) (room_with state m0 m1 text one with same d tables held))
      ∙ ap (λ (l : List Access). l ++ behind_trace) none in
      record {
        meant = λ few. (
          room_with state m0 m1 text one with same d tables held,
          meant_with g s with.stmt one by.how how_is by.answer,
          by.seen ∙ ap (λ (h : How). seen_or_cut h s with.stmt) how_is,
          subst (λ (h : How). MeantUntil n (gathered_by h g s with.stmt) positions (after h s with.stmt) spelt answers seen) how_is there.meant,
        );
        begins = subst (λ (l : List Access). Begins (take n m2.store.asked) (m0.store.asked ++ l)) (sym all) there.begins;
        quiet = λ le. there.quiet (subst (λ (l : List Access). length (m0.store.asked ++ l) ≤ n) all le);
      }

  -- the path over it
  path_with : (ending : Ending) (m0 m1 m2 : Machine R) (text : List ℕ) (one : Answer) (with : ServedWith m0 m1 text one) (same : StaysAs m0 m1) (d : Draws) (tables : Tables) (held : Holds state m0 d tables)
      (v : Position) (positions : List Position) (spelt : List Spelt) (answers : List Answer) (broken : Broken) → AreDraws m0.engine d → IsPositionOf state m0 v
      → Path state ending (standing m0 m1.owed m1.gathered) m2 d (after (means_with state m0 m1 text one with same d tables held).how (session_of m0 d tables) with.stmt).tables positions spelt answers broken
      → Path state ending m0 m2 d tables (v ∷ positions) (Ok with.stmt ∷ spelt) (one ∷ answers) ((means_with state m0 m1 text one with same d tables held).how ∷ broken)
  path_with ending m0 m1 m2 text one with same d tables held v positions spelt answers broken drawn sits rest =
      let by = means_with state m0 m1 text one with same d tables held in
      let s = session_of m0 d tables in
      let behind = after by.how s with.stmt in
      let draws : behind.draws ≡ d = ap (λ (x : Session). x.draws) by.stands in
      answered_so sits (record {
        room = room_with state m0 m1 text one with same d tables held;
        served = inr (record { same = same; draws = draws; still = by.still });
        drawn = subst (λ (x : Machine R). AreDraws x.engine behind.draws) (sym same) (subst (AreDraws m0.engine) (sym draws) drawn);
        holds = subst (λ (e : Draws). Holds state m1 e behind.tables) (sym draws) by.holds;
      }) (subst (λ (e : Draws). Path state ending m1 m2 e behind.tables positions spelt answers broken) (sym draws) (path_again ending m0 m1 m2 d behind.tables positions spelt answers broken same rest))

  pub more_with : {Lost : Type 0} (ending : Ending) (m0 m1 m m2 : Machine R) (text : List ℕ) (texts more : List (List ℕ)) (one : Answer) (answers : List Answer) (part : List ℕ) → StaysAs m0 m1 → ServedWith m0 m1 text one
      → Walked state Lost ending m1 m m2 texts more answers part → Walked state Lost ending m0 m m2 (text ∷ texts) more (one ∷ answers) part
  unfolding SpellFirst AreSeen AnswersFrom any_cut statements
  more_with {Lost = Lost} ending m0 m1 m m2 text texts more one answers part same with there =
      let rest = here_again ending m0 m1 m m2 texts more answers part same there in
      let fresh = standing m0 m1.owed m1.gathered in
      let p = public_of m0.engine in
      let sk = skeleton with.stmt in
      let here = seen_with state m0 m1 text one with in
      let x : Entry = record { skeleton = sk; seen = here } in
      let all = rest.seen ++ rest.last in
      let still : next p sk here ≡ p = next_with state m0 m1 text one with in
      let none : script p sk here ≡ [] = script_with state m0 m1 text one with in
      let off = uncut_with state m0 m1 text one with in
      let count : asked_of m0 ≡ asked_of m0 + length (script p sk here) = let long = ap length none in omega (arith, long) in
      let vs : position_alone p (asked_of m0) x ∷ positions_at m0 rest.entries ≡ positions_at m0 (AloneTurn x ∷ rest.entries) = sym (positions_more m0 fresh with.stmt here refl (sym still) count rest.entries) in
      let traces : (entries : List Turn) → trace_at m0 entries ≡ trace_at m0 (AloneTurn x ∷ entries) = λ entries.
      sym (trace_alone_then m0.flights.words m0.flights.words p p (asked_of m0) (asked_of m0) x refl (sym still) count entries ∙ ap (λ (l : List Access). l ++ trace_at m0 entries) none) in
      let on : (d : Draws) (tables : Tables) → (held : Holds state m0 d tables) → Holds state (standing m0 m1.owed m1.gathered) d (after (means_with state m0 m1 text one with same d tables held).how (session_of m0 d tables) with.stmt).tables =
      λ d tables held. subst (λ (y : Machine R). Holds state y d (after (means_with state m0 m1 text one with same d tables held).how (session_of m0 d tables) with.stmt).tables) same (means_with state m0 m1 text one with same d tables held).holds in
      record {
        spelt = Ok with.stmt ∷ rest.spelt;
        spells = (with.spells, rest.spells);
        follow = (with.spells, rest.follow);
        reached = omega (arith, rest.reached);
        begun = omega (arith, rest.begun);
        each = ap (λ (n : ℕ). suc n) rest.each;
        seen = x ∷ rest.seen;
        last = rest.last;
        entries = AloneTurn x ∷ rest.entries;
        entered = alone_entries m0 fresh with.stmt here refl (sym still) count rest.entries rest.spelt rest.seen rest.last (with_apart state m0 m1 text one with (most_at m0) m0.gathered.flown) (ap (λ (y : Gathered). y.flown) with.gathered) rest.entered;
        in_access = rest.in_access;
        each_seen = ap (λ (n : ℕ). suc n) rest.each_seen;
        lawful = λ most old fails d drawn g.
            subst (λ (l : List Position). AreSeen (StopsWithin ending (RisesBy most old m2.store.faults) (Full state m2)) l m0.gathered.batch (Ok with.stmt ∷ rest.spelt) (one ∷ answers) (x ∷ all)) vs (
              refl,
              with_lawful state m0 m1 text one with,
              (with_says state m0 m1 text one with, with_failed state m0 m1 text one with, with_plan state m0 m1 text one with, with_joins state m0 m1 text one with),
              subst (λ (o : Option Gathering). AreSeen (StopsWithin ending (RisesBy most old m2.store.faults) (Full state m2)) (positions_at m0 rest.entries) o rest.spelt answers all) (ap (λ (y : Gathered). y.batch) with.gathered)
                  (rest.lawful most old (λ beside. fails (beside_more x rest.seen m0.store.faults m0.store.faults m2.store.faults (uncut_rises (is_cut here.end) m0.store.faults m0.store.faults off refl) beside)) d drawn g),
            );
        aloft = subst (λ (l : List Position). LeavesInFlight ending m2.store.asked (drop (suc (length rest.seen)) l) (statements (drop (length texts) rest.spelt)) rest.last) vs rest.aloft;
        on = subst (λ (l : List Position). GoesOn (drop (suc (length rest.seen)) l) ⊎ Lost) vs rest.on;
        passed = rest.passed ∙ ap (λ (l : List Access). m0.store.asked ++ l) (traces (whole_of (length rest.seen) rest.entries)) ∙ ap (λ (es : List Turn). m0.store.asked ++ trace_at m0 es) (sym (whole_alone (length rest.seen) x rest.entries));
        stands =
            rest.stands ∙ sym (after_alone_then m0.flights.words m0.flights.words p p (asked_of m0) (asked_of m0) x refl (sym still) count (whole_of (length rest.seen) rest.entries))
            ∙ ap (λ (es : List Turn). after_entries m0.flights.words 0 p es) (sym (whole_alone (length rest.seen) x rest.entries));
        asked = rest.asked ∙ ap (λ (l : List Access). m0.store.asked ++ l) (traces rest.entries);
        keys = rest.keys;
        start = rest.start;
        from_closing = rest.from_closing;
        along = answered_along (inr (record { same = same; along = with.along; owed = with.owed })) (subst (λ (y : Machine R). Along state ending y m2 rest.spelt answers) (sym same) rest.along);
        public = λ whole. rest.public whole ∙ sym (after_alone_then m0.flights.words m0.flights.words p p (asked_of m0) (asked_of m0) x refl (sym still) count rest.entries);
        save = rest.save;
        unfailed = λ not. rest.unfailed (or_rest (is_cut here.end) (any_cut all) not);
        cuts = subst (λ (l : List Position). RisesBy (cut_off (x ∷ rest.seen) + cut_in_flight (drop (suc (length rest.seen)) l) rest.last) m0.store.faults m2.store.faults) vs
            (cuts_more x rest.seen (cut_in_flight (drop (length rest.seen) (positions_at m0 rest.entries)) rest.last) m0.store.faults m0.store.faults m2.store.faults (uncut_rises (is_cut here.end) m0.store.faults m0.store.faults off refl) rest.cuts);
        failed = λ alone. absurd (let some = batched state m0 m1 text one with in let not = ap is_some alone in cc (some, not));
        drawn = λ d drawn g. subst (λ (l : List Position). Reads d (indexes_of m0.engine) g l (x ∷ all)) vs (reads_unasked d (indexes_of m0.engine) g (position_alone p (asked_of m0) x) (positions_at m0 rest.entries) x all refl (rest.drawn d drawn g));
        lie = rest.lie;
        meant = λ d drawn tells calm unfit tables held.
            let s = session_of m0 d tables in
            let by = means_with state m0 m1 text one with same d tables held in
            let behind_it = after by.how s with.stmt in
            let from = rest.meant d drawn tells calm unfit behind_it.tables (on d tables held) in
            let inner = AfterTexts state ending fresh m2 d behind_it.tables (positions_at m0 rest.entries) rest.spelt answers in
            let outer : List Position → Broken → Tables → Type 0 = λ l. AfterTexts state ending m0 m2 d tables l (Ok with.stmt ∷ rest.spelt) (one ∷ answers) in
            subst (λ (l : List Position). Told ending l s (Ok with.stmt ∷ rest.spelt) (one ∷ answers) (x ∷ all) part (outer l)) vs
            (one_told ending (position_alone p (asked_of m0) x) s with.stmt by.how one x (positions_at m0 rest.entries) rest.spelt answers all part inner (outer (position_alone p (asked_of m0) x ∷ positions_at m0 rest.entries)) (room_with state m0 m1 text one with same d tables held) by.cuts by.answer by.seen
            (subst (λ (y : Session). Told ending (positions_at m0 rest.entries) y rest.spelt answers all part inner) (sym by.stands) from)
            (λ broken ts b. record { whole = b.whole; path = path_with ending m0 m1 m2 text one with same d tables held (position_alone p (asked_of m0) x) (positions_at m0 rest.entries) rest.spelt answers broken drawn (record { public = refl; asked = refl }) b.path }));
        untampered = λ d drawn tells tables held honest. rest.untampered d drawn tells (after (means_with state m0 m1 text one with same d tables held).how (session_of m0 d tables) with.stmt).tables (on d tables held) honest;
        early = λ d drawn tells steady tables held sound n before few.
            let by = means_with state m0 m1 text one with same d tables held in
            subst (λ (l : List Position). EarlyFrom state n (most_at m0) m0.flights.words m0.gathered.batch l (session_of m0 d tables) m0.store.asked m2.store.asked (Ok with.stmt ∷ rest.spelt) (one ∷ answers) (x ∷ all)) vs
            (early_with m0 m1 m2 text one with same d tables held n (positions_at m0 rest.entries) rest.spelt answers all sound
            (rest.early d drawn tells steady (after by.how (session_of m0 d tables) with.stmt).tables (on d tables held) (failed_with state m0 m1 text one with ∙ sound) n before few));
      }
