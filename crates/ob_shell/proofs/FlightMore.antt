-- One step more of a walk: texts that were answered together.
use Rattle.ob_shell.proofs.Words.{All, Answer, ap, append_assoc, AreDraws, arith, Bool, cut_off, Draws, drop, Ending, engine_start, false, Given, Index, indexes_of, IsTrue, KeySet, length, length-append, length-map, FalseRead, List, Machine, map, None, Ok, Option, Public, public_of, ReadsTrueUntil, refl, RevState, RisesBy, Position, served_as, session_of, Some, SpellFirst, Spelt, Start, statements, statements_of, StepTogether, Stmt, subst, sym, Tables, turns_of, ℕ, ◌++◌, ◌+◌, ◌<◌, ◌∙◌, ◌∷◌, ◌≡◌, ◌⊎◌}
use Rattle.ob_base.specs.Indexes.{leaf_of_draw}
use Rattle.ob_exec.proofs.LeavesRead.{KeyAt, Unread}
use Rattle.ob_headline.specs.Accesses.{AreSeen, LeavesInFlight, StopsWithin, any_cut, cut_in_flight}
use Rattle.ob_headline.specs.Flights.{GoesOn, after_entries, whole_of}
use Rattle.ob_mean.specs.Replay.{Broken}
use Rattle.ob_script.proofs.FlightLemmas.{next_after}
use Rattle.ob_script.specs.Flights.{Entry as Turn}
use Rattle.ob_script.specs.Trace.{Served as Entry}
use Rattle.ob_shell.proofs.UntamperedLemmas.{first_calm}
use Rattle.ob_shell.proofs.FlightCuts.{any_first, any_rest, cut_same, failed_same, failures_more, none_cut}
use Rattle.ob_shell.proofs.FlightFacts.{all_mean, all_means, drop_more, spell_flown, spelt_long, statements_more}
use Rattle.ob_shell.proofs.FlightLeaves.{leaves_flown}
use Rattle.ob_shell.proofs.FlightMeant.{AreStill, Told, told_as, told_same, whole_meant}
use Rattle.ob_shell.proofs.FlightSeen.{answered_long, cut_more}
use Rattle.ob_shell.proofs.FlightWalk.{after_on, all_fs, aloft, answered, are_served, are_stmts, flown_drawn, flown_entries, flown_seen, long_in_flight, long_fs, public_on, positions_on, stood, trace_on, turn_of}
use Rattle.ob_shell.proofs.FlownLists.{StmtInFlight, positions_in, stmts_in}
use Rattle.ob_shell.proofs.LeafLemmas.{Reads}
use Rattle.ob_shell.proofs.LeavePath.{HaveLanded, Path, together_along, together_so}
use Rattle.ob_shell.proofs.ReplayLemmas.{free_holds, holds_free, no_lie}
use Rattle.ob_shell.proofs.WalkEntries.{positions_at, trace_at, whole_flown}
use Rattle.ob_shell.proofs.WalkLemmas.{AfterTexts, EarlyAt, Full, Walked, world}
use Rattle.ob_shell.specs.Steps.{Holds}
use Rattle.ob_vault.specs.Tied.{Untampered, IsUnfit, TagFits}

-- what is known of the keys of indexes is of the same ones
abbrev given_by : (d : Draws) (xs ys : List Index) → xs ≡ ys → Given d xs → Given d ys
given_by d xs ys same g = record {
  number = g.number;
  leaf = subst (λ (zs : List Index). (k j : ℕ) → (a : KeyAt zs k j) → a.leaf ≡ leaf_of_draw a.index.height (d.draw (g.number k j))) same g.leaf;
  below = subst (λ (zs : List Index). (k j : ℕ) → KeyAt zs k j → g.number k j < d.drawn) same g.below;
  apart = subst (λ (zs : List Index). (k j l i : ℕ) → KeyAt zs k j → KeyAt zs l i → g.number k j ≡ g.number l i → (k ≡ l) × (j ≡ i)) same g.apart;
}

module _ {R : Type 0} (state : R → RevState) (m0 m1 : Machine R) (flown : List (List ℕ)) (given : List Answer) (step : StepTogether state m0 m1 flown given) where
  abbrev pub here : List StmtInFlight
  here = all_fs state m0 m1 flown given step

  abbrev pub up : List Entry
  up = aloft state m0 m1 flown given step

  abbrev pub spelt_up : List Spelt
  spelt_up = map Ok (stmts_in here)

  abbrev pub at_turn : Turn
  at_turn = turn_of state m0 m1 flown given step

  long_spelt : length spelt_up ≡ length here
  long_spelt = length-map (stmts_in here) Ok ∙ length-map here (λ (f : StmtInFlight). f.stmt)

  long_texts : length flown ≡ length here
  long_texts = spelt_long flown step.stmts step.spelt ∙ sym (long_fs state m0 m1 flown given step)

  long_given : length given ≡ length here
  long_given = answered_long here given (answered state m0 m1 flown given step)

  long_up : length up ≡ length here
  long_up = long_in_flight state m0 m1 flown given step ∙ sym (long_fs state m0 m1 flown given step)

  -- the store's failures
  cuts_up : RisesBy (cut_off up) m0.store.faults m1.store.faults
  cuts_up =
      let same : cut_off up ≡ cut_off (served_as step.stmts step.seens) = ap cut_off (are_served state m0 m1 flown given step) in
      let among = cut_same step.stmts step.seens step.flew.ran.long in
      let least = step.flew.ran.failures.least in
      omega (arith, same, among, least)

  none_up : any_cut up ≡ false → m1.store.faults ≡ m0.store.faults
  none_up not =
      let same : cut_off up ≡ cut_off (served_as step.stmts step.seens) = ap cut_off (are_served state m0 m1 flown given step) in
      let among = cut_same step.stmts step.seens step.flew.ran.long in
      let zero = none_cut up not in
      step.flew.ran.failures.none (omega (arith, same, among, zero))

  -- the tables and the keeper
  landed : HaveLanded state m0 m1
  landed = record {
    flown = record {
      free = step.may.free;
      owed = step.may.owed;
      keeper = step.may.keeper;
      later = step.flew.ran.ran.later;
      kept = λ q below. step.flew.ran.ran.untouched.rests q (λ above. omega (arith, below, above));
    };
    agrees = step.flew.ran.ran.goes_on.agrees;
    public =
        let on = public_on state m0 m1 flown given step in
        on ∙ (λ i. record (public_of m0.engine) { next_region = (sym on i).next_region });
    more =
        let on = ap (λ (q : Public). q.next_region) (public_on state m0 m1 flown given step) in
        let next = next_after (public_of m0.engine) up m0.flights.words (turns_of (public_of m0.engine) up) in
        omega (arith, on, next);
    keys = step.flew.ran.ran.keys;
    start = step.flew.ran.ran.start;
  }

  -- over tables that are held
  module _ (d : Draws) (drawn : AreDraws m0.engine d) (tables : Tables) (held : Holds state m0 d tables) (tells : IsTrue m0.store.tells) (calm : Untampered (world state m0)) (unfit : IsUnfit (world state m1)) where
    reads : ReadsTrueUntil state m0.engine m0.store m1.engine m1.store tables
    reads = record { tells = tells; held = free_holds state m0 d tables step.may.free held; calm = calm; unfit = unfit }

    held_on : Holds state m1 d tables
    held_on = holds_free state m1 d tables step.may.owed (step.flew.ran.means.held tables reads)

    told_up : (ending : Ending) (positions : List Position) (spelt : List Spelt) (answers : List Answer) (seen : List Entry) (part : List ℕ) (Inner : Broken → Tables → Type 0) → Told ending positions (session_of m1 d tables) spelt answers seen part Inner
        → Told ending (positions_in here ++ positions) (session_of m0 d tables) (spelt_up ++ spelt) (given ++ answers) (up ++ seen) part (λ broken ts. AreStill (session_of m0 d tables) here given broken × Inner (drop (length here) broken) ts)
    told_up ending positions spelt answers seen part Inner rest =
        whole_meant ending (session_of m0 d tables) positions spelt answers seen part Inner (λ t ts ds. told_same ending (session_of m1 d tables) t ts ds positions spelt answers seen part Inner rest) here given
        (all_mean (session_of m0 d tables) here given (stood state m0 m1 flown given step)
        (all_means state m0 m1 step.stmts step.seens step.flew.ended (Ok tt) step.may step.flew.ran None d tables held.listed reads) (answered state m0 m1 flown given step))
        (session_of m0 d tables) refl refl

  unfit_on : (m2 : Machine R) → m2.engine.vault.keys ≡ m1.engine.vault.keys → engine_start m2.engine ≡ engine_start m1.engine → ((lie : FalseRead) → m1.store.lie ≡ Some lie → m2.store.lie ≡ Some lie) → IsUnfit (world state m2) → IsUnfit (world state m1)
  unfit_on m2 keys start stays unfit = record {
    unfit = λ lie is fits. unfit.unfit lie (stays lie is)
        (subst (λ (x : Start). TagFits m2.engine.vault.keys x lie) (sym start) (subst (λ (k : KeySet). TagFits k (engine_start m1.engine) lie) (sym keys) fits));
  }

  none_on : (o : Option FalseRead) (m2 : Machine R) → m1.store.lie ≡ o → ((lie : FalseRead) → m1.store.lie ≡ Some lie → m2.store.lie ≡ Some lie) → m2.store.lie ≡ None → m1.store.lie ≡ None
  none_on None m2 is stays none = is
  none_on (Some lie) m2 is stays none = absurd (cc (stays lie is, none))

  -- the indexes are as they were
  abbrev same_indexes : indexes_of m0.engine ≡ indexes_of m1.engine
  same_indexes = sym step.flew.ran.ran.indexes

  abbrev given_on : (d : Draws) → Given d (indexes_of m0.engine) → Given d (indexes_of m1.engine)
  given_on d g = given_by d (indexes_of m0.engine) (indexes_of m1.engine) same_indexes g

  reads_on : (d : Draws) (g : Given d (indexes_of m0.engine)) (positions : List Position) (seen : List Entry) → Reads d (indexes_of m1.engine) (given_on d g) positions seen → Reads d (indexes_of m0.engine) g positions seen
  reads_on d g positions seen reads = record {
    numbers = reads.numbers;
    are = reads.are;
    apart = reads.apart;
    unread = subst (λ (xs : List Index). All (Unread d xs g.number) reads.numbers) (sym same_indexes) reads.unread;
  }

  pub more_flown : {Lost : Type 0} (ending : Ending) (m m2 : Machine R) (texts more : List (List ℕ)) (answers : List Answer) (part : List ℕ) (rest : Walked state Lost ending m1 m m2 texts more answers part)
      → EarlyAt state m0 m2 (at_turn ∷ rest.entries) (spelt_up ++ rest.spelt) (given ++ answers) ((up ++ rest.seen) ++ rest.last)
      → Walked state Lost ending m0 m m2 (flown ++ texts) more (given ++ answers) part
  more_flown {Lost = Lost} ending m m2 texts more answers part rest early =
      let p = public_of m0.engine in
      let s1 : length (spelt_up ++ rest.spelt) ≡ length here + length rest.spelt = length-append spelt_up rest.spelt ∙ ap (λ (n : ℕ). n + length rest.spelt) long_spelt in
      let t1 : length (flown ++ texts) ≡ length here + length texts = length-append flown texts ∙ ap (λ (n : ℕ). n + length texts) long_texts in
      let a1 : length (given ++ answers) ≡ length here + length answers = length-append given answers ∙ ap (λ (n : ℕ). n + length answers) long_given in
      let u1 : length (up ++ rest.seen) ≡ length here + length rest.seen = length-append up rest.seen ∙ ap (λ (n : ℕ). n + length rest.seen) long_up in
      let all = rest.seen ++ rest.last in
      let joined : up ++ all ≡ (up ++ rest.seen) ++ rest.last = sym (append_assoc up rest.seen rest.last) in
      let there = positions_on state m0 m1 flown given step rest.entries in
      let spells_up : (xs : List Spelt) → SpellFirst (texts ++ more) xs → SpellFirst ((flown ++ texts) ++ more) (spelt_up ++ xs) = λ xs ok.
      subst (λ (l : List (List ℕ)). SpellFirst l (spelt_up ++ xs)) (sym (append_assoc flown texts more))
      (subst (λ (l : List Stmt). SpellFirst (flown ++ (texts ++ more)) (map Ok l ++ xs)) (sym (are_stmts state m0 m1 flown given step)) (spell_flown flown (texts ++ more) step.stmts xs step.spelt ok)) in
      let stmts_long : length (stmts_in here) ≡ length here = length-map here (λ (f : StmtInFlight). f.stmt) in
      record {
        spelt = spelt_up ++ rest.spelt;
        spells = spells_up rest.spelt rest.spells;
        follow = subst (λ (l : List Spelt). SpellFirst ((flown ++ texts) ++ more) l) (sym (append_assoc spelt_up rest.spelt (map Ok (statements_of m2.owed)))) (spells_up (rest.spelt ++ map Ok (statements_of m2.owed)) rest.follow);
        reached = let few = rest.reached in omega (arith, few, s1, t1);
        each = let same = rest.each in omega (arith, same, a1, t1);
        seen = up ++ rest.seen;
        last = rest.last;
        begun = let few = rest.begun in omega (arith, few, s1, t1);
        entries = at_turn ∷ rest.entries;
        entered = flown_entries state m0 m1 flown given step rest.entries rest.spelt rest.seen rest.last rest.entered;
        in_access = rest.in_access;
        each_seen =
            let behind = statements_more (stmts_in here) (length texts) (length (flown ++ texts)) rest.spelt (omega (arith, t1, stmts_long)) in
            let same = rest.each_seen in omega (arith, behind, same, u1, stmts_long);
        lawful = λ most old fails d drawn g.
            subst (λ (l : List Entry). AreSeen (StopsWithin ending (RisesBy most old m2.store.faults) (Full state m2)) (positions_at m0 (at_turn ∷ rest.entries)) m0.gathered.batch (spelt_up ++ rest.spelt) (given ++ answers) l) joined
            (flown_seen state m0 m1 flown given step (StopsWithin ending (RisesBy most old m2.store.faults) (Full state m2)) m0.gathered.batch rest.entries rest.spelt answers all
            (rest.lawful most old (λ beside. fails (
            let first = cuts_up in
            let sum = cut_more up rest.seen in
            let second : RisesBy (cut_off rest.seen + 1) m1.store.faults m2.store.faults = beside in
            omega (arith, first, sum, second))) d (step.flew.ran.ran.drawn d drawn) (given_on d g)));
        aloft =
            let positions_behind = drop_more (positions_in here) (positions_at m1 rest.entries) (length rest.seen) (length (up ++ rest.seen)) (omega (arith, u1, length-map here (λ (f : StmtInFlight). f.position))) in
            let spelt_behind = drop_more spelt_up rest.spelt (length texts) (length (flown ++ texts)) (omega (arith, t1, long_spelt)) in
            subst (λ (vs : List Position). LeavesInFlight ending m2.store.asked (drop (length (up ++ rest.seen)) vs) (statements (drop (length (flown ++ texts)) (spelt_up ++ rest.spelt))) rest.last) there
            (subst (λ (xs : List Spelt). LeavesInFlight ending m2.store.asked (drop (length (up ++ rest.seen)) (positions_in here ++ positions_at m1 rest.entries)) (statements xs) rest.last) (sym spelt_behind)
            (subst (λ (vs : List Position). LeavesInFlight ending m2.store.asked vs (statements (drop (length texts) rest.spelt)) rest.last) (sym positions_behind) rest.aloft));
        on =
            let positions_behind = drop_more (positions_in here) (positions_at m1 rest.entries) (length rest.seen) (length (up ++ rest.seen)) (omega (arith, u1, length-map here (λ (f : StmtInFlight). f.position))) in
            subst (λ (vs : List Position). GoesOn (drop (length (up ++ rest.seen)) vs) ⊎ Lost) there (subst (λ (vs : List Position). GoesOn vs ⊎ Lost) (sym positions_behind) rest.on);
        passed =
            let same : length (up ++ rest.seen) ≡ length up + length rest.seen = length-append up rest.seen in
            trace_on state m0 m1 flown given step m.store.asked (whole_of (length rest.seen) rest.entries) rest.passed
            ∙ ap (λ (es : List Turn). m0.store.asked ++ trace_at m0 es) (sym (whole_flown (length rest.seen) up None rest.entries))
            ∙ ap (λ (n : ℕ). m0.store.asked ++ trace_at m0 (whole_of n (at_turn ∷ rest.entries))) (sym same);
        stands =
            let same : length (up ++ rest.seen) ≡ length up + length rest.seen = length-append up rest.seen in
            rest.stands ∙ after_on state m0 m1 flown given step (whole_of (length rest.seen) rest.entries)
            ∙ ap (λ (es : List Turn). after_entries m0.flights.words 0 p es) (sym (whole_flown (length rest.seen) up None rest.entries))
            ∙ ap (λ (n : ℕ). after_entries m0.flights.words 0 p (whole_of n (at_turn ∷ rest.entries))) (sym same);
        asked = trace_on state m0 m1 flown given step m2.store.asked rest.entries rest.asked;
        keys = rest.keys ∙ step.flew.ran.ran.keys;
        start = rest.start ∙ step.flew.ran.ran.start;
        from_closing = λ unsaved. rest.from_closing (ap (λ (q : Public). q.save) (public_on state m0 m1 flown given step) ∙ unsaved) ∙ step.flew.ran.ran.from_closing;
        public = λ whole. rest.public whole ∙ after_on state m0 m1 flown given step rest.entries;
        save = rest.save ∙ ap (λ (q : Public). q.save) (public_on state m0 m1 flown given step);
        unfailed = λ not.
            let both : any_cut (up ++ all) ≡ false = subst (λ (l : List Entry). any_cut l ≡ false) (sym joined) not in
            rest.unfailed (any_rest up all both) ∙ none_up (any_first up all both);
        cuts =
            let first = cuts_up in
            let sum = cut_more up rest.seen in
            let second = rest.cuts in
            let positions_behind = drop_more (positions_in here) (positions_at m1 rest.entries) (length rest.seen) (length (up ++ rest.seen)) (omega (arith, u1, length-map here (λ (f : StmtInFlight). f.position))) in
            subst (λ (vs : List Position). RisesBy (cut_off (up ++ rest.seen) + cut_in_flight (drop (length (up ++ rest.seen)) vs) rest.last) m0.store.faults m2.store.faults) there
            (subst (λ (vs : List Position). RisesBy (cut_off (up ++ rest.seen) + cut_in_flight vs rest.last) m0.store.faults m2.store.faults) (sym positions_behind) (omega (arith, first, sum, second)));
        failed = λ alone.
            let first = cuts_up in
            let same = failed_same here given (stood state m0 m1 flown given step) (answered state m0 m1 flown given step) in
            let sum = failures_more given answers in
            let second = rest.failed (ap (λ (q : Public). q.batch) (public_on state m0 m1 flown given step) ∙ alone) in
            omega (arith, first, same, sum, second);
        drawn = λ d drawn g.
            subst (λ (l : List Entry). Reads d (indexes_of m0.engine) g (positions_at m0 (at_turn ∷ rest.entries)) l) joined
            (flown_drawn state m0 m1 flown given step d g rest.entries all (reads_on d g (positions_at m1 rest.entries) all (rest.drawn d (step.flew.ran.ran.drawn d drawn) (given_on d g))));
        lie = λ lie it. rest.lie lie (step.flew.ran.ran.later.lie lie it);
        meant = λ d drawn tells calm unfit tables held.
            let unfit1 = unfit_on m2 rest.keys rest.start rest.lie unfit in
            let on = held_on d drawn tables held tells calm unfit1 in
            let from = rest.meant d (step.flew.ran.ran.drawn d drawn) (subst (λ (b : Bool). IsTrue b) (sym step.flew.ran.ran.later.tells) tells) (step.flew.ran.cause calm) unfit tables on in
            let s = session_of m0 d tables in
            let Inner = AfterTexts state ending m1 m2 d tables (positions_at m1 rest.entries) rest.spelt answers in
            let Outer : List Position → Broken → Tables → Type 0 = λ vs. AfterTexts state ending m0 m2 d tables vs (spelt_up ++ rest.spelt) (given ++ answers) in
            let up_told = told_up d drawn tables held tells calm unfit1 ending (positions_at m1 rest.entries) rest.spelt answers all part Inner from in
            subst (λ (l : List Entry). Told ending (positions_at m0 (at_turn ∷ rest.entries)) s (spelt_up ++ rest.spelt) (given ++ answers) l part (Outer (positions_at m0 (at_turn ∷ rest.entries)))) joined
            (subst (λ (vs : List Position). Told ending vs s (spelt_up ++ rest.spelt) (given ++ answers) (up ++ all) part (Outer vs)) there
            (told_as ending (positions_in here ++ positions_at m1 rest.entries) s (spelt_up ++ rest.spelt) (given ++ answers) (up ++ all) part (λ broken ts. AreStill s here given broken × Inner (drop (length here) broken) ts)
            (Outer (positions_in here ++ positions_at m1 rest.entries))
            (λ broken ts b. record {
              whole = b.1.whole;
              path = together_so (positions_in here) (stmts_in here) given (record { landed = landed; drawn = step.flew.ran.ran.drawn d drawn; holds = on }) (omega (arith, long_given, stmts_long))
                  (leaves_flown s here (positions_at m1 rest.entries) rest.spelt given answers broken long_given b.0)
                  (subst (λ (n : ℕ). Path state ending m1 m2 d tables (positions_at m1 rest.entries) rest.spelt answers (drop n broken)) (sym stmts_long) b.1.path);
            }) up_told));
        untampered = λ d drawn tells tables held honest.
            let none1 : m1.store.lie ≡ None = none_on m1.store.lie m2 refl rest.lie honest in
            let none0 : m0.store.lie ≡ None = no_lie m0.store.lie m0.store m1.store refl step.flew.ran.ran.later none1 in
            let unfit1 : IsUnfit (world state m1) = record { unfit = λ lie is. absurd (cc (none1, is)) } in
            rest.untampered d (step.flew.ran.ran.drawn d drawn) (subst (λ (b : Bool). IsTrue b) (sym step.flew.ran.ran.later.tells) tells) tables
            (held_on d drawn tables held tells (first_calm state m0.engine m0.store none0) unfit1) honest;
        early = early;
        along = together_along spelt_up given landed rest.along;
      }
