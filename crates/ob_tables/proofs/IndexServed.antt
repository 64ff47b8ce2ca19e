-- A statement on an index is served by its access.
use Rattle.ob_tables.proofs.Words.{access_script, Agrees, answer_labels, ap, append-nil, AreDraws, Bool, count_of, draw_at, drawn_by, DrawPlace, Draws, draws_taken, Engine, Err, Event, false, Global, Got, got_in, got_outcome, Held, Index, IsAccessed, IsDone, IsHonest, IsTrue, KeepsSealed, Keyed, later_rests, Lawful, length, List, MatchResult, Means, None, Ok, OramErr, Outcome, RanStatement, ReadsTrue, refl, refusal_now, Result, RevState, RoomState, RunStop, Seals, seals_join, seals_rests, seen_cut, seen_whole, Serves, skeleton, Stmt, stop_of, Stored, StoreState, subst, sym, Tables, true, Vault, Vec, verdict, Whole, World, world_of, ℕ, [], ◌%◌, ◌+◌, ◌-◌, ◌^◌, ◌∙◌, ◌≡◌}
use Rattle.ob_store.specs.Calls.{ChangesNothing}
use Rattle.ob_vault.specs.Places.{at}
use Rattle.ob_tables.specs.declared.stop.RunStop.TheVariants as Stops
use Rattle.ob_tables.specs.Running.{SinkStops}
use Rattle.ob_tables.specs.Serving.{Answered, StopsEmission}
use Rattle.ob_tables.specs.Telling.{IsNotTampered, is_refused}
use Rattle.ob_tables.proofs.BegunLemmas.{run_reads}
use Rattle.ob_tables.proofs.IndexKinds.{drew_one, next_place, tables_stay}
use Rattle.ob_tables.proofs.IndexMeans.{begun_access, told_access, told_keyed, lies_before, seen_access_cut, stood}
use Rattle.ob_tables.proofs.IndexRuns.{all, got_answered, ran_as, ran_whole_access, served, from_old, on, ran_as_stopped, ran_stopped_access, short}
use Rattle.ob_tables.proofs.RunLemmas.{engine_left}
use Rattle.ob_tables.proofs.ToldLemmas.{refused_none}
use Rattle.ob_oram.specs.declared.fault.OramErr.TheVariants as OramErrs
use Rattle.ob_mean.specs.Keyed.{Ask}
use Rattle.ob_keyed.specs.Meaning.{AnswersAsk, StopsAsk}
use Rattle.ob_keyed.proofs.Told.{finds_access}
use Rattle.ob_tables.proofs.IndexFound.{partly_none}
use Rattle.ob_tables.proofs.IndexStops.{fills, stops_within}
use Rattle.ob_tables.proofs.HeldLemmas.{held_headings}

-- an access stops for neither want of memory nor an emitter, before anything is emitted
abbrev pub IsOfOthers : RunStop → Type 0
IsOfOthers Stops.NoMemory = Unit {0}
IsOfOthers Stops.SinkFault = Unit {0}
IsOfOthers _ = ⊥

none_other : (e : OramErr) → IsOfOthers (stop_of e) → ⊥
none_other OramErrs.Failed other = other
none_other another other = other

of_access : {P : Type 0} (e : OramErr) (stop : RunStop) → IsOfOthers stop → ◌≡◌ {A = Result Outcome RunStop} (Err (stop_of e)) (Err stop) → P
of_access e stop other is =
    let same : stop_of e ≡ stop = cc is in
    absurd (none_other e (subst (λ (x : RunStop). IsOfOthers x) (sym same) other))

stops_silent : {E : Type 0} (grew cut : E → E → List Event → Type 0) (e : OramErr) (out : E) → grew out out [] → StopsEmission grew cut (stop_of e) out out []
stops_silent grew cut OramErrs.Failed out starts = (starts, refl)
stops_silent grew cut (OramErrs.Tampered q x) out starts = starts
stops_silent grew cut OramErrs.StashFull out starts = (starts, refl)

no_sink : (e : OramErr) (n : ℕ) → SinkStops (Err (stop_of e)) n n
no_sink OramErrs.Failed n = refl
no_sink other n = refl

module _ {R : Type 0} (state : R → RevState) (stmt : Stmt) (old : Engine R) (s s1 : StoreState) (v : Vault R) (room : RoomState) (t : StoreState) (k draw : ℕ) (keyed : Keyed) (indexes : Vec Index Global) (draws : DrawPlace)
    (agrees : Agrees state old s) (rests : ChangesNothing s s1) (now : refusal_now old.public (count_of old s) stmt ≡ None)
    (accessed : IsAccessed stmt k old.public.tables old.indexes.items)
    (done : IsDone stmt k draw keyed old.indexes.items indexes.items old.room room (at state old.vault s1) (at state v t))
    (drew : draw ≡ draw_at old.draws.key old.draws.next) (next : draws ≡ record old.draws { next = (old.draws.next + 1) % 2 ^ 67 }) where
  abbrev before : World
  before = at state old.vault s1

  abbrev after : World
  after = at state v t

  -- nothing lies in clear
  pub sealed_access : (new : Engine R) → world_of state new t ≡ after → KeepsSealed state old s new t
  sealed_access new same good accepts single =
      let seals = (served state stmt old s s1 v room t k draw keyed indexes draws agrees rests now accessed done).asked.seals in
      subst (λ (w : World). Seals good (world_of state old s) w) (sym same)
      (seals_join good (world_of state old s) before after (later_rests s s1 rests) (seals_rests _ s s1 rests good)
      (seals.seals good (single done.before.schema done.before.tree) (single done.before.schema done.before.stash)))

  -- ---- it went to its end
  module _ (got : Got) (answers : keyed.result ≡ Ok got) (lives : old.ended ≡ false) where
    abbrev outcome : Outcome
    outcome = got_outcome stmt (got_in got)

    abbrev new : Engine R
    new = engine_left old indexes draws v room old.public.tables (seen_whole keyed.leaf) old.ended

    one : drawn_by old.public (skeleton stmt) ≡ 1
    one = let here = accessed.is.here in drew_one old.public accessed.place accessed.is.table accessed.name agrees.tables.names here.get here.named accessed.is.of.indexed stmt accessed.keyed

    drawn : (d : Draws) → AreDraws old d → draws.next ≡ (d.drawn + draws_taken old.public (skeleton stmt) Whole) % 2 ^ 67
    drawn d of =
        ap (λ (p : DrawPlace). p.next) next ∙ next_place old.draws.next d.drawn 1 of.next ∙ ap (λ (n : ℕ). (d.drawn + n) % 2 ^ 67) (sym one)

    pub ran : RanStatement state (skeleton stmt) (Ok outcome) old s new t
    ran =
        let here = accessed.is.here in
        ran_whole_access state stmt old s s1 v room t k draw keyed indexes draws agrees rests now accessed done got answers drew one outcome lives (got_answered stmt (got_in got))
        (tables_stay old.public accessed.place accessed.is.table accessed.name agrees.tables.names here.get here.named accessed.is.of.indexed stmt accessed.keyed)
        (ap (λ (p : DrawPlace). p.key) next) drawn

    pub means_access : Means state stmt [] (Ok outcome) old s new t
    means_access = record {
      told = λ tables d of reads. told_access state stmt old s s1 v room t k draw keyed indexes draws agrees rests now accessed done drew got answers tables d of reads;
      room = λ tables d of reads. (told_keyed state stmt old s s1 v room t k draw keyed indexes draws agrees rests now accessed done drew got answers tables d of reads).room;
      honest = λ tables reads. tt;
      held = λ tables d of reads. tt;
      full = λ tables d of reads. tt;
      begun = λ tables d of reads lie told.
          let went = all state stmt old s s1 v room t k draw keyed indexes draws agrees rests now accessed done got answers in
          begun_access state stmt old s s1 v room t k draw keyed indexes draws agrees rests now accessed done drew (access_script done.before keyed.leaf) [] (append-nil _) went.did.asked tables d of reads lie
          (run_reads (Ok outcome) (world_of state old s) (world_of state new t) lie ran.cause reads.nolie told);
    }

    -- it is what a statement does, by what it emitted
    pub serves_access : {E : Type 0} (grew cut : E → E → List Event → Type 0) (faults : E → ℕ) (out_old out_new : E) → Answered state grew stmt outcome old s t out_old out_new → faults out_new ≡ faults out_old
        → Serves state grew cut faults stmt (Ok outcome) old s new t out_old out_new
    serves_access grew cut faults out_old out_new answered sink = record {
      ran = ran;
      early = refused_none (refusal_now old.public (count_of old s) stmt) (Ok outcome) new.seen now (λ is. absurd (cc is));
      lawful = (ran_as state stmt old s s1 v room t k draw keyed indexes draws agrees rests now accessed done got answers).lawful;
      memory = λ is. absurd (cc is);
      full = λ is. absurd (cc is);
      seals = sealed_access new refl;
      answered = answered;
      stopped = tt;
      sink = sink;
      emits = λ is. absurd (cc is);
      means = means_access;
    }

  -- ---- it gave up
  module _ (e : OramErr) (stops : keyed.result ≡ Err e) (n : ℕ) (count : n ≡ length t.asked - length s.asked) where
    abbrev ended : Engine R
    ended = engine_left old indexes draws v room old.public.tables (seen_cut old.public.stash keyed.leaf n) true

    pub ran_stop : RanStatement state (skeleton stmt) (Err (stop_of e)) old s ended t
    ran_stop = ran_stopped_access state stmt old s s1 v room t k draw keyed indexes draws agrees rests now accessed done e stops drew n count

    -- no block that is as it was written was refused
    never_tampered : (tables : Tables) → ReadsTrue state old s t tables → IsNotTampered (stop_of e)
    never_tampered tables reads =
        let honest : IsHonest before after = record { tells = subst (λ (b : Bool). IsTrue b) (sym rests.tells) reads.tells; nolie = reads.nolie } in
        let stood_is = stood state stmt old s s1 v room t k draw keyed indexes draws agrees rests now accessed done drew tables reads.held in
        let keyed_on = on state stmt old s s1 v room t k draw keyed indexes draws agrees rests now accessed done in
        let found = finds_access old.public (count_of old s) tables stmt stood_is.table done.before keyed_on (held_headings old.public.pack old.indexes.items old.public.tables tables (world_of state old s) reads.held.held) stood_is.found in
        let told = (served state stmt old s s1 v room t k draw keyed indexes draws agrees rests now accessed done).told honest stood_is.table found.ask found.index_is found.asked
        (lies_before state stmt old s s1 v room t k draw keyed indexes draws agrees rests now accessed done drew tables reads.held) in
        by_stop stood_is.table done.after found.ask e (subst (λ (r : Result Got OramErr). MatchResult r (λ g. AnswersAsk stood_is.table done.after found.ask draw g after) (λ f. StopsAsk stood_is.table done.after found.ask draw f after)) stops told)
      where
        by_stop : (h : Stored Held) (left : Index) (ask : Ask) (f : OramErr) → StopsAsk h left ask draw f after → IsNotTampered (stop_of f)
        by_stop h left ask OramErrs.Failed told = refl
        by_stop h left ask (OramErrs.Tampered q z) told = absurd told
        by_stop h left ask OramErrs.StashFull told = refl

    means_stop : Means state stmt [] (Err (stop_of e)) old s ended t
    means_stop = record {
      told = λ tables d of reads. tt;
      room = λ tables d of reads. tt;
      honest = never_tampered;
      held = λ tables d of reads.
          seen_access_cut state stmt old s s1 v room t k draw keyed indexes draws agrees rests now accessed done drew (is_refused (stop_of e)) n count ended refl tables d of reads.held;
      full = λ tables d of reads. stops_within state stmt old s s1 v room t k draw keyed indexes draws agrees rests now accessed done drew e stops n count tables d of reads;
      begun = λ tables d of reads lie told.
          let cut = short state stmt old s s1 v room t k draw keyed indexes draws agrees rests now accessed done e stops in
          begun_access state stmt old s s1 v room t k draw keyed indexes draws agrees rests now accessed done drew cut.began.done cut.began.rest cut.began.split
          (from_old state stmt old s s1 v room t k draw keyed indexes draws agrees rests now accessed done cut.began.done cut.began.asked) tables d of reads lie
          (run_reads (Err (stop_of e)) (world_of state old s) (world_of state ended t) lie ran_stop.cause reads.nolie told);
    }

    lawful_stop : Lawful old.public (count_of old s) stmt (seen_cut old.public.stash keyed.leaf n)
    lawful_stop =
        let same : length t.asked - length s1.asked ≡ n = (λ i. length t.asked - length (rests.asked i)) ∙ sym count in
        subst (λ (m : ℕ). Lawful old.public (count_of old s) stmt (seen_cut old.public.stash keyed.leaf m)) same
        (ran_as_stopped state stmt old s s1 v room t k draw keyed indexes draws agrees rests now accessed done e stops).lawful

    -- it is what a statement does, of which nothing was emitted
    pub serves_stop : {E : Type 0} (grew cut : E → E → List Event → Type 0) (faults : E → ℕ) (out : E) → grew out out []
        → Serves state grew cut faults stmt (Err (stop_of e)) old s ended t out out
    serves_stop grew cut faults out starts = record {
      ran = ran_stop;
      early = refused_none (refusal_now old.public (count_of old s) stmt) (Err (stop_of e)) (seen_cut old.public.stash keyed.leaf n) now (λ is. absurd (cc is));
      lawful = lawful_stop;
      memory = λ is. of_access e Stops.NoMemory tt is;
      full = λ is d of. fills state stmt old s s1 v room t k draw keyed indexes draws agrees rests now accessed done drew e stops n count (cc is) d of;
      seals = sealed_access ended refl;
      answered = tt;
      stopped = record {
        events = [];
        ends = stops_silent grew cut e out starts;
        told = λ tables reads. partly_none (answer_labels stmt old.public) (verdict old.public (count_of old s) tables stmt);
      };
      sink = no_sink e (faults out);
      emits = λ is. of_access e Stops.SinkFault tt is;
      means = means_stop;
    }
