-- A walk over the texts that were answered, and the one begun, as far as the first.
use Rattle.ob_shell.proofs.Words.{Access, after, Answer, ap, append-nil, append_cancel_left, AreDraws, arith, asked_of, Begins, Bool, by_fault, closing_line, cut_off, Does, Draws, drop, Ending, EndsUntampered, engine_start, Err, Event, events_text, false, Gathering, Given, How, indexes_of, inl, inr, is_cut, is_fault, is_full_now, IsBefore, IsSteady, IsTrue, KeySet, length, FalseRead, List, Machine, map, met_script, None, Ok, opened_from, Option, Outcome, PrintsUntil, Public, public_of, Ran, ReadsTrueUntil, refl, Represents, Result, RevState, RisesBy, RunStop, script, Position, Seen, seen_of, seen_or_cut, Session, session_of, session_stop, Skeleton, skeleton, Some, SpellFirst, Spelt, statements, statements_of, Stmt, subst, sym, Tables, take, true, whole_script, World, world_of, ℕ, [], ◌&&◌, ◌++◌, ◌+◌, ◌-◌, ◌<◌, ◌||◌, ◌∙◌, ◌∷◌, ◌≡◌, ◌≤◌, ◌⊎◌}
use Rattle.std.specs.Prelude.{max}
use Rattle.ob_base.specs.declared.refusal.Stop.TheVariants.{NoMemory, StashFull}
use Rattle.ob_tables.proofs.EmitLemmas.{unfit_none}
use Rattle.ob_exec.specs.Ran.{StopsWhere}
use Rattle.ob_select.specs.Memory.{AtMake, starts_with_make}
use Rattle.ob_tables.specs.Running.{RunCause}
use Rattle.ob_tables.specs.Telling.{IsNotTampered, Meant, ReadsTrue, is_refused}
use Rattle.ob_tables.specs.declared.stop.RunStop.TheVariants as Runs
use Rattle.ob_headline.specs.Failures.{FailsBeside, failures}
use Rattle.ob_headline.specs.Disturbed.{MeantUntil, meant_entries}
use Rattle.ob_headline.specs.Flights.{GoesOn, after_entries, position_alone, positions, whole_of}
use Rattle.ob_headline.specs.FullStash.{ReadsFullStash}
use Rattle.ob_headline.specs.Words.{refused_at}
use Rattle.ob_headline.specs.Accesses.{AreSeen, LeavesInFlight, StopsWithin, cut_in_flight, WantsMemory, any_cut, ends_within, may_end}
use Rattle.ob_headline.specs.Meaning.{AnswersFrom, AnswersIn, BeginsAnswer, session_after}
use Rattle.ob_keyed.specs.Serving.{Overfills}
use Rattle.ob_mean.specs.Replay.{Alone, Broken, CutAfter, IsCutOff, cut_at, draws_taken, is_access, seen_now}
use Rattle.ob_script.specs.Saved.{left_by}
use Rattle.ob_script.specs.Script.{changes_tables, is_saved, save_part}
use Rattle.ob_script.specs.Flights.{Alone as AloneTurn, Entry as Turn, trace_in}
use Rattle.ob_script.specs.Trace.{Served as Entry}
use Rattle.ob_seal.specs.Draws.{draw_of}
use Rattle.ob_shell.proofs.DisturbLemmas.{begins_more, crosses, take_begins}
use Rattle.ob_shell.proofs.EndLemmas.{alone_joins, rose_by, same_by}
use Rattle.ob_shell.proofs.FailureLemmas.{beside_none, cuts_none, fails_none}
use Rattle.ob_shell.proofs.FlightMeant.{Told}
use Rattle.ob_shell.proofs.HowLemmas.{meets_alone, met_trace}
use Rattle.ob_shell.proofs.LeavePath.{Along, Path, ended_along, ends_so, over_along, over_so}
use Rattle.ob_shell.proofs.LeafLemmas.{Reads, drawn_leaves, reads_last, reads_none, reads_unasked}
use Rattle.ob_shell.proofs.ReplayLemmas.{cut_early, cut_within, free_holds, holds_free, outcome_cases}
use Rattle.ob_shell.proofs.StopLemmas.{only_memory, only_sink, only_stash, stop_untampered, tampered_as}
use Rattle.ob_shell.proofs.WalkEntries.{EntriesSo, most_at, no_entries, none_refused, one_entry, positions_at, trace_at}
use Rattle.ob_shell.proofs.WithLemmas.{means_with, room_with, script_with, seen_with, uncut_with, with_apart, with_joins, with_lawful}
use Rattle.ob_shell.specs.Steps.{CutStep, Finished, Follow, Holds, Idle, IsUndone, Misspelt, Owed, Owes, ServedStatement, ServedWith, StaysAs, draws_behind, has_failed, settled_by}
use Rattle.ob_vault.specs.Tied.{Untampered, IsUnfit}

-- ---- a stop that is none by a block
sink_untampered : (run : RunStop) → run ≡ Runs.SinkFault → IsNotTampered run
sink_untampered run fault = ap is_refused fault

memory_untampered : (run : RunStop) → run ≡ Runs.NoMemory → IsNotTampered run
memory_untampered run wanting = ap is_refused wanting

pub or_first : (a b : Bool) → (a || b) ≡ false → a ≡ false
or_first true b is = is
or_first false b is = refl

pub or_rest : (a b : Bool) → (a || b) ≡ false → b ≡ false
or_rest true b is = absurd (cc is)
or_rest false b is = is

-- the input was read to its end
abbrev pub EndsWhole : Ending → Type 0
EndsWhole (Ran (Ok refused)) = Unit {0}
EndsWhole other = ⊥

-- ---- where tables are saved
-- none are after any statement, where the settings don't say so
pub none_saved : (p : Public) (outline : Skeleton) → p.save ≡ false → is_saved p outline ≡ false
none_saved p outline unsaved = go (changes_tables outline) where
  go : (b : Bool) → (b && p.save) ≡ false
  go true = unsaved
  go false = refl

either_first : (a b : Bool) → a ≡ true → (a || b) ≡ true
either_first true b is = refl
either_first false b is = absurd (cc is)

either_last : (a b : Bool) → b ≡ true → (a || b) ≡ true
either_last true b is = refl
either_last false b is = is

-- before that nothing of a closing was asked
at_closing : (p : Public) (outline : Skeleton) (rest : List Access) → rest ≡ save_part p outline (left_by p outline) → IsTrue (starts_with_make rest)
at_closing p outline rest is = subst (λ (l : List Access). IsTrue (starts_with_make l)) (sym is) refl

-- ---- the walk
module _ {R : Type 0} (state : R → RevState) where
  abbrev pub world : Machine R → World
  world m = world_of state m.engine m.store

  -- too many rows were read until this machine stopped
  abbrev pub Full : Machine R → Public → Stmt → Seen → Type 0
  Full m p stmt seen = ReadsFullStash m.engine.vault.keys (engine_start m.engine) m.store p stmt seen

  -- what holds before the first disturbance, which comes after n accesses
  pub record EarlyFrom (n most : ℕ) (words : ℕ → ℕ) (g : Option Gathering) (positions : List Position) (s : Session) (asked0 asked2 : List Access) (spelt : List Spelt) (answers : List Answer) (seen : List Entry) : Type 0 where
    pub meant : MeantUntil n g positions s spelt answers seen
    pub begins : Begins (take n asked2) (asked0 ++ met_trace most words g s spelt)
    pub quiet : length (asked0 ++ met_trace most words g s spelt) ≤ n → length asked2 ≤ n

  abbrev pub EarlyAt : (m0 m2 : Machine R) → List Turn → List Spelt → List Answer → List Entry → Type 0
  EarlyAt m0 m2 entries spelt answers all =
      (d : Draws) → AreDraws m0.engine d → IsTrue m0.store.tells → IsSteady m0.store → (tables : Tables) → Holds state m0 d tables → has_failed m0.gathered.batch ≡ false → (n : ℕ) → IsBefore m0.store.disturbed n → length m0.store.asked ≤ n
      → EarlyFrom n (most_at m0) m0.flights.words m0.gathered.batch (positions_at m0 entries) (session_of m0 d tables) m0.store.asked m2.store.asked spelt answers all

  -- of texts of which nothing was asked, and none was answered
  early_still : (n most : ℕ) (words : ℕ → ℕ) (g : Option Gathering) (positions : List Position) (s : Session) (asked0 asked2 : List Access) (spelt : List Spelt) (seen : List Entry) → MeantUntil n g positions s spelt [] seen → asked2 ≡ asked0 → length asked0 ≤ n
      → EarlyFrom n most words g positions s asked0 asked2 spelt [] seen
  early_still n most words g positions s asked0 asked2 spelt seen meant same few = record {
    meant = meant;
    begins = subst (λ (l : List Access). Begins (take n l) (asked0 ++ met_trace most words g s spelt)) (sym same)
        (begins_more (take n asked0) asked0 (met_trace most words g s spelt) (take_begins n asked0));
    quiet = λ le. omega (arith, few, ap length same);
  }

  -- a text that is no statement
  pub early_answered : (n most : ℕ) (words : ℕ → ℕ) (g : Option Gathering) (positions : List Position) (s : Session) (asked0 asked2 : List Access) (at : ℕ) (spelt : List Spelt) (one : Answer) (answers : List Answer) (seen : List Entry) → one ≡ refused_at at
      → EarlyFrom n most words None positions s asked0 asked2 spelt answers seen → EarlyFrom n most words g positions s asked0 asked2 (Err at ∷ spelt) (one ∷ answers) seen
  unfolding MeantUntil meant_entries
  early_answered n most words g positions s asked0 asked2 at spelt one answers seen is rest = record { meant = (is, rest.meant); begins = rest.begins; quiet = rest.quiet }

  -- a statement was begun
  early_one : (m0 m2 : Machine R) (tables : Tables) (stmt : Stmt) (result : Result Outcome RunStop) (n most : ℕ) (words : ℕ → ℕ) (positions : List Position) (seen : List Entry) → (d : Draws) → AreDraws m0.engine d → Does state m0 m2 stmt result → IsTrue m0.store.tells → IsSteady m0.store
      → Represents state m0.engine m0.store tables → IsBefore m0.store.disturbed n → length m0.store.asked ≤ n
      → EarlyFrom n most words m0.gathered.batch positions (session_of m0 d tables) m0.store.asked m2.store.asked (Ok stmt ∷ []) [] seen
  unfolding MeantUntil
  early_one m0 m2 tables stmt result n most words positions seen d drawn does tells steady held before few =
      let cross = crosses state m0 m2 d drawn tables stmt result does tells steady held n before few in
      let s = session_of m0 d tables in
      let same : met_trace most words m0.gathered.batch s (Ok stmt ∷ []) ≡ met_script s stmt = meets_alone most words m0.gathered.batch s stmt does.alone.batch in
      record {
        meant = tt;
        begins = subst (λ (l : List Access). Begins (take n m2.store.asked) (m0.store.asked ++ l)) (sym same) cross.begins;
        quiet = λ le. cross.within (subst (λ (l : List Access). length (m0.store.asked ++ l) ≤ n) same le);
      }

  -- what is known after the texts: the tables, where all were answered, and the way there
  pub record AfterTexts (ending : Ending) (m0 m2 : Machine R) (d : Draws) (tables : Tables) (positions : List Position) (spelt : List Spelt) (answers : List Answer) (broken : Broken) (after_it : Tables) : Type 0 where
    pub whole : EndsWhole ending → Represents state m2.engine m2.store after_it
    pub path : Path state ending m0 m2 d tables positions spelt answers broken

  -- from the first machine to the second these texts were answered so, and to the third one more was begun, or a flight, of
  -- which all that had ended were answered, unless it was for this cause
  pub record Walked (Lost : Type 0) (ending : Ending) (m0 m1 m2 : Machine R) (texts more : List (List ℕ)) (answers : List Answer) (part : List ℕ) : Type 0 where
    pub spelt : List Spelt
    pub spells : SpellFirst (texts ++ more) spelt
    pub follow : SpellFirst (texts ++ more) (spelt ++ map Ok (statements_of m2.owed))
    pub reached : length texts ≤ length spelt
    pub each : length answers ≡ length texts
    pub seen : List Entry
    pub last : List Entry
    pub begun : length spelt ≤ length texts + max 1 (length last)
    pub entries : List Turn
    pub entered : EntriesSo m0 entries spelt seen last
    pub in_access : ends_within ending ≡ true → length last ≡ 1
    pub each_seen : length seen ≡ length (statements (take (length texts) spelt))
    pub lawful : (most old : ℕ) → (FailsBeside seen m0.store.faults m2.store.faults → RisesBy most old m2.store.faults) → (d : Draws) → AreDraws m0.engine d → Given d (indexes_of m0.engine)
        → AreSeen (StopsWithin ending (RisesBy most old m2.store.faults) (Full m2)) (positions_at m0 entries) m0.gathered.batch spelt answers (seen ++ last)
    pub aloft : LeavesInFlight ending m2.store.asked (drop (length seen) (positions_at m0 entries)) (statements (drop (length texts) spelt)) last
    pub on : GoesOn (drop (length seen) (positions_at m0 entries)) ⊎ Lost
    pub passed : m1.store.asked ≡ m0.store.asked ++ trace_at m0 (whole_of (length seen) entries)
    pub stands : public_of m1.engine ≡ after_entries m0.flights.words 0 (public_of m0.engine) (whole_of (length seen) entries)
    pub asked : m2.store.asked ≡ m0.store.asked ++ trace_at m0 entries
    pub keys : m2.engine.vault.keys ≡ m0.engine.vault.keys
    pub start : engine_start m2.engine ≡ engine_start m0.engine
    pub from_closing : (public_of m0.engine).save ≡ false → opened_from m2.engine ≡ opened_from m0.engine
    pub public : EndsWhole ending → public_of m2.engine ≡ after_entries m0.flights.words 0 (public_of m0.engine) entries
    pub save : (public_of m1.engine).save ≡ (public_of m0.engine).save
    pub unfailed : any_cut (seen ++ last) ≡ false → m2.store.faults ≡ m0.store.faults
    pub cuts : RisesBy (cut_off seen + cut_in_flight (drop (length seen) (positions_at m0 entries)) last) m0.store.faults m2.store.faults
    pub failed : (public_of m0.engine).batch ≡ None → RisesBy (failures answers) m0.store.faults m2.store.faults
    pub drawn : (d : Draws) → AreDraws m0.engine d → (g : Given d (indexes_of m0.engine)) → Reads d (indexes_of m0.engine) g (positions_at m0 entries) (seen ++ last)
    pub lie : (lie : FalseRead) → m0.store.lie ≡ Some lie → m2.store.lie ≡ Some lie
    pub meant : (d : Draws) → AreDraws m0.engine d → IsTrue m0.store.tells → Untampered (world m0) → IsUnfit (world m2) → (tables : Tables) → Holds state m0 d tables
        → Told ending (positions_at m0 entries) (session_of m0 d tables) spelt answers (seen ++ last) part (AfterTexts ending m0 m2 d tables (positions_at m0 entries) spelt answers)
    pub untampered : (d : Draws) → AreDraws m0.engine d → IsTrue m0.store.tells → (tables : Tables) → Holds state m0 d tables → m2.store.lie ≡ None → EndsUntampered ending
    pub early : EarlyAt m0 m2 entries spelt answers (seen ++ last)
    pub along : Along state ending m0 m2 spelt answers

  -- ---- after the texts that were answered
  follow_none : (texts : List (List ℕ)) (owed : List Owed) → owed ≡ [] → SpellFirst texts (map Ok (statements_of owed))
  unfolding SpellFirst
  follow_none texts owed none = subst (λ (l : List Owed). SpellFirst texts (map Ok (statements_of l))) (sym none) tt

  follow_first : (text : List ℕ) (texts : List (List ℕ)) (owed : List Owed) → Follow (text ∷ texts) owed → SpellFirst texts (map Ok (statements_of owed))
  unfolding SpellFirst
  follow_first text texts [] follow = tt
  follow_first text texts (one ∷ owed) follow = follow

  -- nothing was done
  pub walked_none : {Lost : Type 0} (ending : Ending) (m0 m2 : Machine R) (more : List (List ℕ)) (part : List ℕ) → IsUndone m0 m2 part → EndsUntampered ending → (ends_within ending ≡ true → ⊥) → Walked Lost ending m0 m0 m2 [] more [] part
  unfolding SpellFirst AreSeen AnswersFrom any_cut statements positions trace_in whole_of session_after after_entries MeantUntil
  walked_none ending m0 m2 more part rests fine off =
      let same = rests.machine in
      record {
        spelt = [];
        spells = tt;
        follow = follow_none more m2.owed (ap (λ (m : Machine R). m.owed) same ∙ rests.free);
        reached = omega arith;
        begun = omega arith;
        each = refl;
        seen = [];
        last = [];
        entries = [];
        entered = no_entries m0;
        aloft = tt;
        on = inl tt;
        in_access = λ ends. absurd (off ends);
        each_seen = refl;
        lawful = λ most old fails d drawn g. refl;
        passed = sym (append-nil m0.store.asked);
        stands = refl;
        asked = ap (λ (m : Machine R). m.store.asked) same ∙ sym (append-nil m0.store.asked);
        keys = ap (λ (m : Machine R). m.engine.vault.keys) same;
        start = ap (λ (m : Machine R). engine_start m.engine) same;
        from_closing = λ unsaved. ap (λ (m : Machine R). opened_from m.engine) same;
        along = over_along (record { same = same; free = rests.free });
        public = λ whole. ap (λ (m : Machine R). public_of m.engine) same;
        save = refl;
        unfailed = λ not. ap (λ (m : Machine R). m.store.faults) same;
        cuts = cuts_none _ _ (let still = ap (λ (m : Machine R). m.store.faults) same in omega (arith, still));
        failed = λ alone. fails_none _ _ (let still = ap (λ (m : Machine R). m.store.faults) same in omega (arith, still));
        drawn = λ d drawn g. reads_none d (indexes_of m0.engine) g (positions_at m0 []);
        lie = λ lie is. ap (λ (m : Machine R). m.store.lie) same ∙ is;
        meant = λ d drawn tells calm unfit tables held. record {
          broken = [];
          meant = (refl, rests.none);
          behind = record {
            whole = λ whole. subst (λ (m : Machine R). Represents state m.engine m.store tables) (sym same) (free_holds state m0 d tables rests.free held);
            path = over_so (record { same = same; free = rests.free });
          };
        };
        untampered = λ d drawn tells tables held honest. fine;
        early = λ d drawn tells steady tables held sound n before few. early_still n (most_at m0) m0.flights.words m0.gathered.batch (positions_at m0 []) (session_of m0 d tables) m0.store.asked m2.store.asked [] [] tt (ap (λ (m : Machine R). m.store.asked) same) few;
      }

  -- a stop that comes within a statement alone comes where it may
  stops_where : (run : RunStop) (p : Public) (outline : Skeleton) → StopsWhere p outline (Err run) → may_end (Ran (Err (session_stop run))) p outline ≡ true
  stops_where Runs.StoreFault p outline stops = elim stops [ inl access ↦ either_first (is_access p outline) (is_saved p outline) access | inr saved ↦ either_last (is_access p outline) (is_saved p outline) saved ]
  stops_where Runs.StashFull p outline stops = stops
  stops_where Runs.KeeperFault p outline stops = stops
  stops_where other p outline stops = refl

  -- and that is neither want of memory nor a sink's fault
  memory_ends : (run : RunStop) → run ≡ Runs.NoMemory → ends_within (Ran (Err (session_stop run))) ≡ true → ⊥
  memory_ends run memory ends = cc (ap (λ (r : RunStop). ends_within (Ran (Err (session_stop r)))) memory, ends)

  sink_ends : (run : RunStop) → run ≡ Runs.SinkFault → ends_within (Ran (Err (session_stop run))) ≡ true → ⊥
  sink_ends run fault ends = cc (ap (λ (r : RunStop). ends_within (Ran (Err (session_stop r)))) fault, ends)

  -- a statement was stopped
  wants : (m0 m2 : Machine R) (stmt : Stmt) (run : RunStop) → Does state m0 m2 stmt (Err run) → Ran (Err (session_stop run)) ≡ Ran (Err NoMemory)
      → WantsMemory (public_of m0.engine) stmt (seen_of m2.engine)
  wants m0 m2 stmt run does is =
      let lacks = does.memory (ap (λ (r : RunStop). Err r) (only_memory run (cc is))) in
      let p = public_of m0.engine in
      let done : lacks.done ≡ script p (skeleton stmt) (seen_of m2.engine) = append_cancel_left m0.store.asked _ _ (sym lacks.asked ∙ does.ran.asked) in
      record {
        rest = lacks.rest;
        split = subst (λ (l : List Access). l ++ lacks.rest ≡ whole_script p (skeleton stmt) (seen_of m2.engine)) done lacks.split;
        place = elim lacks.place [
          | inl make ↦ inl (subst (λ (l : List Access). AtMake l) done make)
          | inr (inl before) ↦ inr (inl before)
          | inr (inr (inl emits)) ↦ inr (inr (inl emits.0))
          | inr (inr (inr saving)) ↦ inr (inr (inr (saving.0, at_closing p (skeleton stmt) lacks.rest saving.1)))
        ];
      }

  -- at a full stash too many rows were read
  full_stash : (m0 m2 : Machine R) (stmt : Stmt) (run : RunStop) → Does state m0 m2 stmt (Err run) → (d : Draws) → AreDraws m0.engine d → Given d (indexes_of m0.engine) → run ≡ Runs.StashFull
      → Full m2 (public_of m0.engine) stmt (seen_of m2.engine)
  full_stash m0 m2 stmt run does d drawn g is =
      let fills = does.full (ap (λ (r : RunStop). Err r) is) d drawn in
      let draws : (n : ℕ) → d.draw n ≡ draw_of m2.engine.vault.keys n = λ n. drawn.draw n ∙ ap (λ (k : KeySet). draw_of k n) (sym does.ran.keys) in
      record {
        index = fills.index;
        count = asked_of m0;
        on = fills.on;
        leaves = drawn_leaves d (indexes_of m0.engine) g (draw_of m2.engine.vault.keys) draws fills.place fills.index fills.get;
        leaf = fills.leaf;
        shown = fills.shown;
        next = d.drawn;
        old = fills.old;
        new = world m2;
        ends = record { keys_are = refl; start_is = refl; store_is = refl };
        over = subst (λ (n : ℕ). Overfills stmt fills.index n fills.leaf fills.old (world m2)) (draws d.drawn) fills.over;
      }

  -- at a full stash nothing was emitted, so nothing is printed
  nothing_printed : (run : RunStop) (part : List ℕ) (events : List Event) → run ≡ Runs.StashFull → events ≡ [] → PrintsUntil (session_stop run) part (events_text events) → part ≡ []
  unfolding events_text
  nothing_printed run part events stash none printed =
      let as_text : part ≡ events_text events = subst (λ (r : RunStop). PrintsUntil (session_stop r) part (events_text events)) stash printed in
      as_text ∙ ap events_text none

  stopped_part : (m0 m2 : Machine R) (tables : Tables) (text : List ℕ) (run : RunStop) (part : List ℕ) → (d : Draws) → AreDraws m0.engine d → (cut : CutStep state m0 m2 text run part)
      → ReadsTrueUntil state m0.engine m0.store m2.engine m2.store tables
      → BeginsAnswer (Ran (Err (session_stop run))) (position_alone (public_of m0.engine) (asked_of m0) (record { skeleton = skeleton cut.stmt; seen = seen_of m2.engine }) ∷ []) (session_of m0 d tables) (Ok cut.stmt) [] (record { skeleton = skeleton cut.stmt; seen = seen_of m2.engine } ∷ []) part
  stopped_part m0 m2 tables text run part d drawn cut reads =
      let n = length m2.store.asked - length m0.store.asked in
      let seen_is = cut.does.means.held tables d drawn reads in
      inl (record {
        started = cut_early state m0 m2 tables cut.stmt (Err run) d cut.does (is_refused run) n seen_is reads.held;
        n = n;
        within = cut_within state m0 m2 tables cut.stmt (Err run) d cut.does (is_refused run) n seen_is;
        seen = subst (λ (failed : Bool). seen_of m2.engine ≡ cut_at failed n (public_of m0.engine) (skeleton cut.stmt) (seen_now (session_of m0 d tables) cut.stmt)) (tampered_as run) seen_is;
        events = cut.events;
        begun = cut.emitted tables reads;
        printed = cut.printed;
        full = λ is.
            let told = cut.does.means.full tables d drawn reads in
            let stash : run ≡ Runs.StashFull = only_stash run (cc is) in
            (told.full stash, told.reads stash, nothing_printed run part cut.events stash (cut.silent stash) cut.printed);
        bound = (cut.does.means.full tables d drawn reads).bound;
      })

  pub walked_cut : {Lost : Type 0} (m0 m2 : Machine R) (text : List ℕ) (more : List (List ℕ)) (run : RunStop) (part : List ℕ) → Follow (text ∷ more) m2.owed → CutStep state m0 m2 text run part
      → Walked Lost (Ran (Err (session_stop run))) m0 m0 m2 [] (text ∷ more) [] part
  unfolding SpellFirst AreSeen AnswersFrom any_cut statements positions trace_in whole_of session_after after_entries MeantUntil
  walked_cut m0 m2 text more run part follow cut =
      let sk = skeleton cut.stmt in
      let here = seen_of m2.engine in
      record {
        spelt = Ok cut.stmt ∷ [];
        spells = (cut.spells, tt);
        follow = (cut.spells, follow_first text more m2.owed follow);
        reached = omega arith;
        begun = omega arith;
        each = refl;
        seen = [];
        last = record { skeleton = sk; seen = here } ∷ [];
        entries = AloneTurn (record { skeleton = sk; seen = here }) ∷ [];
        entered = one_entry m0 cut.stmt here cut.does.alone.flown;
        aloft = tt;
        on = inl tt;
        in_access = λ ends. refl;
        each_seen = refl;
        lawful = λ most old fails d drawn g. (
          refl,
          (
            cut.does.lawful,
            (
              (
                (λ is. wants m0 m2 cut.stmt run cut.does is),
                (λ is off. inl (cut.does.emits (ap (λ (r : RunStop). Err r) (only_sink run (cc is))))),
                (λ ends. stops_where run (public_of m0.engine) sk cut.does.ran.stops),
                (λ is. full_stash m0 m2 cut.stmt run cut.does d drawn g (only_stash run (cc is))),
              ),
              alone_joins (public_of m0.engine) (asked_of m0) m0.gathered.batch cut.stmt here (Err run) _ cut.does.alone.batch cut.does.ran.ends,
            ),
          ),
          refl,
        );
        passed = sym (append-nil m0.store.asked);
        stands = refl;
        asked = cut.does.ran.asked ∙ ap (λ xs. m0.store.asked ++ xs) (sym (append-nil (script (public_of m0.engine) sk here)));
        keys = cut.does.ran.keys;
        start = cut.does.ran.start;
        from_closing = λ unsaved. cut.does.ran.from_closing (none_saved (public_of m0.engine) sk unsaved);
        along = ended_along (inl (record { run = run; ends = refl; does = cut.does }));
        public = λ whole. absurd whole;
        save = refl;
        unfailed = λ not. absurd (cc (ap is_cut cut.does.ran.ends, or_first (is_cut here.end) false not));
        cuts = cuts_none _ _ cut.does.ran.later.faults;
        failed = λ alone. fails_none _ _ cut.does.ran.later.faults;
        drawn = reads_last state m0 m2 cut.stmt (Err run) cut.does;
        lie = cut.does.ran.later.lie;
        meant = λ d drawn tells calm unfit tables held.
            record {
              broken = [];
              meant = stopped_part m0 m2 tables text run part d drawn cut (record { tells = tells; held = free_holds state m0 d tables cut.does.free held; calm = calm; unfit = unfit });
              behind = record { whole = λ whole. absurd whole; path = ends_so (record { public = refl; asked = refl }) (inl (record { run = run; ends = refl; does = cut.does })) };
            };
        untampered = λ d drawn tells tables held honest. stop_untampered run (cut.does.means.honest tables (record { tells = tells; held = free_holds state m0 d tables cut.does.free held; nolie = honest }));
        early = λ d drawn tells steady tables held sound n before few. early_one m0 m2 tables cut.stmt (Err run) n (most_at m0) m0.flights.words _ _ d drawn cut.does tells steady (free_holds state m0 d tables cut.does.free held) before few;
      }

  -- how the model answers a statement that was answered
  pub record AnsweredBy (m0 m1 : Machine R) (d : Draws) (tables : Tables) (stmt : Stmt) (one : Answer) : Type 0 where
    pub room : is_full_now (session_of m0 d tables) stmt ≡ false
    pub how : How
    pub cuts : IsCutOff how (session_of m0 d tables) stmt
    pub answer : AnswersIn how (session_of m0 d tables) stmt one
    pub seen : seen_of m1.engine ≡ seen_or_cut how (session_of m0 d tables) stmt
    pub held : Holds state m1 (after how (session_of m0 d tables) stmt).draws (after how (session_of m0 d tables) stmt).tables
    pub whole : m1.store.faults ≡ 0 → how ≡ Alone

  both_of : (failed : Bool) (a b c e : Type 0) → by_fault failed a b → by_fault failed c e → by_fault failed (a × c) (b × e)
  both_of true a b c e x y = (x, y)
  both_of false a b c e x y = (x, y)

  -- where it stands after one that the store didn't fail
  held_behind : (m0 m1 : Machine R) (d : Draws) (tables : Tables) (stmt : Stmt) (outcome : Outcome) → Owes m0 m1 stmt d tables → Meant state stmt (statements_of m1.owed) (asked_of m0) d tables outcome m0.engine m1.engine m1.store
      → Holds state m1 (draws_behind m0 m1 stmt d) (settled_by m0 stmt d tables)
  held_behind m0 m1 d tables stmt outcome owes meant = record { listed = owes.listed; held = subst (Represents state m1.engine m1.store) (sym owes.same) meant.held; owed = owes.answered }

  pub answered_by : (m0 m1 : Machine R) (tables : Tables) (text : List ℕ) (one : Answer) (did : ServedStatement state m0 m1 text one) → (d : Draws) → AreDraws m0.engine d → ReadsTrue state m0.engine m0.store m1.store tables
      → AnsweredBy m0 m1 d tables did.stmt one
  answered_by m0 m1 tables text one did d drawn reads =
      let n = length m1.store.asked - length m0.store.asked in
      let p = public_of m0.engine in
      let sk = skeleton did.stmt in
      let told = both_of (is_fault one.outcome) _ _ _ _ (did.does.means.told tables d drawn reads) (did.owes tables d drawn reads) in
      elim (outcome_cases one.outcome _ _ _ _ told (did.emitted tables reads)) [
        | inl both ↦ record {
          room = did.does.means.room tables d drawn reads;
          how = Alone;
          cuts = tt;
          answer = record { outcome = both.0.0.answer; events = did.events; prints = both.1; bytes = did.printed };
          seen = both.0.0.seen;
          held = subst (λ (x : Seen). Holds state m1 (record d { drawn = d.drawn + draws_taken p sk x.end }) (settled_by m0 did.stmt d tables)) both.0.0.seen (held_behind m0 m1 d tables did.stmt one.outcome both.0.1 both.0.0);
          whole = λ none. refl;
        }
        | inr by ↦ let some : length m0.store.asked < length m1.store.asked = did.does.ran.asks (ap is_fault by.is) in
            record {
              room = did.does.means.room tables d drawn reads;
              how = CutAfter n;
              cuts = (
                cut_early state m0 m1 tables did.stmt _ d did.does true n by.told.0.seen reads.held,
                by.told.0.unindexed,
                omega (arith, some),
                cut_within state m0 m1 tables did.stmt _ d did.does true n by.told.0.seen,
              );
              answer = record { outcome = by.is; events = did.events; unfinished = by.too; bytes = did.printed };
              seen = by.told.0.seen;
              held = holds_free state m1 _ tables by.told.1 by.told.0.held;
              whole = λ none. let rose = (subst (λ (o : Outcome). RunCause (Ok o) (world m0) (world m1)) by.is did.does.ran.cause).0 in absurd (omega (arith, rose, none));
            }
      ]

  pub reads_true : (m0 m1 : Machine R) (tables : Tables) (text : List ℕ) (one : Answer) (did : ServedStatement state m0 m1 text one) → IsTrue m0.store.tells → Represents state m0.engine m0.store tables
      → Untampered (world m0) → IsUnfit (world m1) → ReadsTrue state m0.engine m0.store m1.store tables
  reads_true m0 m1 tables text one did tells held calm unfit = record { tells = tells; held = held; nolie = unfit_none (world m1) (did.does.ran.cause.1 calm) unfit }

  -- a text was answered, and a sink failed
  not_full : (run : RunStop) → run ≡ Runs.SinkFault → Ran (Err (session_stop run)) ≡ Ran (Err StashFull) → ⊥
  not_full run fault is = cc (ap session_stop fault, is)

  not_memory : (run : RunStop) → run ≡ Runs.SinkFault → Ran (Err (session_stop run)) ≡ Ran (Err NoMemory) → ⊥
  not_memory run fault is = cc (ap session_stop fault, is)

  walked_done : {Lost : Type 0} (m0 m2 : Machine R) (text : List ℕ) (more : List (List ℕ)) (run : RunStop) (one : Answer) (part : List ℕ) → part ≡ one.bytes → run ≡ Runs.SinkFault → Follow (text ∷ more) m2.owed → ServedStatement state m0 m2 text one
      → Walked Lost (Ran (Err (session_stop run))) m0 m0 m2 [] (text ∷ more) [] part
  unfolding SpellFirst AreSeen AnswersFrom any_cut statements positions trace_in whole_of session_after after_entries MeantUntil
  walked_done m0 m2 text more run one part is fault follow did =
      let sk = skeleton did.stmt in
      let here = seen_of m2.engine in
      record {
        spelt = Ok did.stmt ∷ [];
        spells = (did.spells, tt);
        follow = (did.spells, follow_first text more m2.owed follow);
        reached = omega arith;
        begun = omega arith;
        each = refl;
        seen = [];
        last = record { skeleton = sk; seen = here } ∷ [];
        entries = AloneTurn (record { skeleton = sk; seen = here }) ∷ [];
        entered = one_entry m0 did.stmt here did.does.alone.flown;
        aloft = tt;
        on = inl tt;
        in_access = λ ends. refl;
        each_seen = refl;
        lawful = λ most old fails d drawn g. (
          refl,
          (
            did.does.lawful,
            (
              (
                (λ is. absurd (not_memory run fault is)),
                (λ is off. inr (fails (beside_none _ _ (rose_by one.outcome (world m0) (world m2) here.end _ did.does.ran.cause did.does.ran.ends off)))),
                (λ ends. absurd (sink_ends run fault ends)),
                (λ is. absurd (not_full run fault is)),
              ),
              alone_joins (public_of m0.engine) (asked_of m0) m0.gathered.batch did.stmt here (Ok one.outcome) _ did.does.alone.batch did.does.ran.ends,
            ),
          ),
          refl,
        );
        passed = sym (append-nil m0.store.asked);
        stands = refl;
        asked = did.does.ran.asked ∙ ap (λ xs. m0.store.asked ++ xs) (sym (append-nil (script (public_of m0.engine) sk here)));
        keys = did.does.ran.keys;
        start = did.does.ran.start;
        from_closing = λ unsaved. did.does.ran.from_closing (none_saved (public_of m0.engine) sk unsaved);
        along = ended_along (inr (record { ends = ap (λ (r : RunStop). Ran (Err (session_stop r))) fault; outcome = one.outcome; done = inl (record { does = did.does; owes = did.owes }) }));
        public = λ whole. absurd whole;
        save = refl;
        unfailed = λ not. same_by one.outcome (world m0) (world m2) here.end _ did.does.ran.cause did.does.ran.ends (or_first (is_cut here.end) false not);
        cuts = cuts_none _ _ did.does.ran.later.faults;
        failed = λ alone. fails_none _ _ did.does.ran.later.faults;
        drawn = reads_last state m0 m2 did.stmt (Ok one.outcome) did.does;
        lie = did.does.ran.later.lie;
        meant = λ d drawn tells calm unfit tables held.
            let by = answered_by m0 m2 tables text one did d drawn (reads_true m0 m2 tables text one did tells (free_holds state m0 d tables did.does.free held) calm unfit) in
            record {
              broken = [];
              meant = inr (record { fault = ap (λ (r : RunStop). Ran (Err (session_stop r))) fault; room = by.room; how = by.how; cuts = by.cuts; seen = by.seen; answer = one; answers = by.answer; whole = is });
              behind = record { whole = λ whole. absurd whole; path = ends_so (record { public = refl; asked = refl }) (inr (record { ends = ap (λ (r : RunStop). Ran (Err (session_stop r))) fault; outcome = one.outcome; done = inl (record { does = did.does; owes = did.owes }) })) };
            };
        untampered = λ d drawn tells tables held honest. stop_untampered run (sink_untampered run fault);
        early = λ d drawn tells steady tables held sound n before few. early_one m0 m2 tables did.stmt (Ok one.outcome) n (most_at m0) m0.flights.words _ _ d drawn did.does tells steady (free_holds state m0 d tables did.does.free held) before few;
      }

  pub refused_is : (m0 m1 : Machine R) (text : List ℕ) (one : Answer) → (bad : Misspelt m0 m1 text one) → one ≡ refused_at bad.at
  refused_is m0 m1 text one bad = λ i. record { outcome = bad.refused i; bytes = (bad.line ∙ ap closing_line bad.refused) i; plan = bad.unplanned i }

  walked_refused : {Lost : Type 0} (ending : Ending) (m0 m2 : Machine R) (text : List ℕ) (more : List (List ℕ)) (one : Answer) (part : List ℕ) → part ≡ one.bytes → StaysAs m0 m2 → Misspelt m0 m2 text one → EndsUntampered ending → (ends_within ending ≡ true → ⊥)
      → Walked Lost ending m0 m0 m2 [] (text ∷ more) [] part
  unfolding SpellFirst AreSeen AnswersFrom any_cut statements positions trace_in whole_of session_after after_entries MeantUntil
  walked_refused ending m0 m2 text more one part is same bad fine off = record {
    spelt = Err bad.at ∷ [];
    spells = (bad.spells, tt);
    follow = (bad.spells, follow_none more m2.owed bad.owed);
    reached = omega arith;
    begun = omega arith;
    each = refl;
    seen = [];
    last = [];
    entries = [];
    entered = none_refused m0 bad.at;
    aloft = tt;
    on = inl tt;
    in_access = λ ends. absurd (off ends);
    each_seen = refl;
    lawful = λ most old fails d drawn g. refl;
    passed = sym (append-nil m0.store.asked);
    stands = refl;
    asked = ap (λ (m : Machine R). m.store.asked) same ∙ sym (append-nil m0.store.asked);
    keys = ap (λ (m : Machine R). m.engine.vault.keys) same;
    start = ap (λ (m : Machine R). engine_start m.engine) same;
    from_closing = λ unsaved. ap (λ (m : Machine R). opened_from m.engine) same;
    along = ended_along (record { same = same; free = bad.free; owed = bad.owed });
    public = λ whole. ap (λ (m : Machine R). public_of m.engine) same;
    save = refl;
    unfailed = λ not. ap (λ (m : Machine R). m.store.faults) same;
    cuts = cuts_none _ _ (let still = ap (λ (m : Machine R). m.store.faults) same in omega (arith, still));
    failed = λ alone. fails_none _ _ (let still = ap (λ (m : Machine R). m.store.faults) same in omega (arith, still));
    drawn = λ d drawn g. reads_none d (indexes_of m0.engine) g (positions_at m0 []);
    lie = λ lie it. ap (λ (m : Machine R). m.store.lie) same ∙ it;
    meant = λ d drawn tells calm unfit tables held. record {
      broken = [];
      meant = is ∙ ap (λ (a : Answer). a.bytes) (refused_is m0 m2 text one bad);
      behind = record {
        whole = λ whole. subst (λ (m : Machine R). Represents state m.engine m.store tables) (sym same) (free_holds state m0 d tables bad.free held);
        path = ends_so tt (record { same = same; free = bad.free; owed = bad.owed });
      };
    };
    untampered = λ d drawn tells tables held honest. fine;
    early = λ d drawn tells steady tables held sound n before few. early_still n (most_at m0) m0.flights.words m0.gathered.batch (positions_at m0 []) (session_of m0 d tables) m0.store.asked m2.store.asked (Err bad.at ∷ []) [] tt (ap (λ (m : Machine R). m.store.asked) same) few;
  }

  -- one that was carried out with the INSERT before it was answered, and a sink failed
  walked_with : {Lost : Type 0} (m0 m2 : Machine R) (text : List ℕ) (more : List (List ℕ)) (run : RunStop) (one : Answer) (part : List ℕ) → part ≡ one.bytes → run ≡ Runs.SinkFault → Follow (text ∷ more) m2.owed → StaysAs m0 m2 → ServedWith m0 m2 text one
      → Walked Lost (Ran (Err (session_stop run))) m0 m0 m2 [] (text ∷ more) [] part
  unfolding SpellFirst AreSeen AnswersFrom any_cut statements positions trace_in whole_of session_after after_entries MeantUntil
  walked_with m0 m2 text more run one part is fault follow same with =
      let sk = skeleton with.stmt in
      let here = seen_with state m0 m2 text one with in
      let off = uncut_with state m0 m2 text one with in
      let none : script (public_of m0.engine) sk here ≡ [] = script_with state m0 m2 text one with in
      let still = ap (λ (m : Machine R). m.store.faults) same in
      record {
        spelt = Ok with.stmt ∷ [];
        spells = (with.spells, tt);
        follow = (with.spells, follow_first text more m2.owed follow);
        reached = omega arith;
        begun = omega arith;
        each = refl;
        seen = [];
        last = record { skeleton = sk; seen = here } ∷ [];
        entries = AloneTurn (record { skeleton = sk; seen = here }) ∷ [];
        entered = one_entry m0 with.stmt here (with_apart state m0 m2 text one with (most_at m0) m0.gathered.flown);
        aloft = tt;
        on = inl tt;
        in_access = λ ends. refl;
        each_seen = refl;
        lawful = λ most old fails d drawn g. (
          refl,
          (
            with_lawful state m0 m2 text one with,
            (
              ((λ is. absurd (not_memory run fault is)), (λ is cut. absurd (cc (cut, off))), (λ ends. absurd (sink_ends run fault ends)), (λ is. absurd (not_full run fault is))),
              with_joins state m0 m2 text one with,
            ),
          ),
          refl,
        );
        passed = sym (append-nil m0.store.asked);
        stands = refl;
        asked = ap (λ (m : Machine R). m.store.asked) same ∙ sym (append-nil m0.store.asked) ∙ ap (λ (l : List Access). m0.store.asked ++ (l ++ [])) (sym none);
        keys = ap (λ (m : Machine R). m.engine.vault.keys) same;
        start = ap (λ (m : Machine R). engine_start m.engine) same;
        from_closing = λ unsaved. ap (λ (m : Machine R). opened_from m.engine) same;
        along = ended_along (inr (record { ends = ap (λ (r : RunStop). Ran (Err (session_stop r))) fault; outcome = one.outcome; done = inr (record { same = same; along = with.along; owed = with.owed }) }));
        public = λ whole. absurd whole;
        save = refl;
        unfailed = λ not. still;
        cuts = cuts_none _ _ (omega (arith, still));
        failed = λ alone. fails_none _ _ (omega (arith, still));
        drawn = λ d drawn g. reads_unasked d (indexes_of m0.engine) g (position_alone (public_of m0.engine) (asked_of m0) (record { skeleton = sk; seen = here })) [] (record { skeleton = sk; seen = here }) [] refl (reads_none d (indexes_of m0.engine) g []);
        lie = λ lie it. ap (λ (m : Machine R). m.store.lie) same ∙ it;
        meant = λ d drawn tells calm unfit tables held.
            let by = means_with state m0 m2 text one with same d tables held in
            record {
              broken = [];
              meant = inr (record { fault = ap (λ (r : RunStop). Ran (Err (session_stop r))) fault; room = room_with state m0 m2 text one with same d tables held; how = by.how; cuts = by.cuts; seen = by.seen; answer = one; answers = by.answer; whole = is });
              behind = record { whole = λ whole. absurd whole; path = ends_so (record { public = refl; asked = refl }) (inr (record { ends = ap (λ (r : RunStop). Ran (Err (session_stop r))) fault; outcome = one.outcome; done = inr (record { same = same; along = with.along; owed = with.owed }) })) };
            };
        untampered = λ d drawn tells tables held honest. stop_untampered run (sink_untampered run fault);
        early = λ d drawn tells steady tables held sound n before few. early_still n (most_at m0) m0.flights.words m0.gathered.batch _ (session_of m0 d tables) m0.store.asked m2.store.asked (Ok with.stmt ∷ []) _ tt (ap (λ (m : Machine R). m.store.asked) same) few;
      }

  pub walked_done_so : {Lost : Type 0} (m1 m2 : Machine R) (text : List ℕ) (more : List (List ℕ)) (run : RunStop) (part : List ℕ) (done : Finished state m1 m2 text run part) → Follow (text ∷ more) m2.owed → Walked Lost (Ran (Err (session_stop run))) m1 m1 m2 [] (text ∷ more) [] part
  walked_done_so m1 m2 text more run part done follow = elim done.step.done [
    | inl still ↦ elim still.why [
      | inl bad ↦ walked_refused _ m1 m2 text more done.answer part done.whole still.same bad (stop_untampered run (sink_untampered run done.fault)) (sink_ends run done.fault)
      | inr with ↦ walked_with m1 m2 text more run done.answer part done.whole done.fault follow still.same with
    ]
    | inr did ↦ walked_done m1 m2 text more run done.answer part done.whole done.fault follow did
  ]

  pub walked_idle : {Lost : Type 0} (m1 m2 : Machine R) (more : List (List ℕ)) (run : RunStop) (part : List ℕ) → Idle m1 m2 run part → Walked Lost (Ran (Err (session_stop run))) m1 m1 m2 [] more [] part
  walked_idle m1 m2 more run part idle = walked_none _ m1 m2 more part idle.rests (stop_untampered run (memory_untampered run idle.memory)) (memory_ends run idle.memory)
