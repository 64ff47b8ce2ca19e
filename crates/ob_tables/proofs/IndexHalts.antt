-- A statement on an index whose access is done, and whose emitter gave up.
use Rattle.ob_tables.proofs.Words.{Access, access_script, Agrees, answer_labels, answer_of, ap, append-nil, arith, Bool, count_of, draw_at, DrawPlace, EmitErr, EmitsGot, Engine, Err, Event, Global, Got, got_in, held_if, Index, inl, inr, is_stop, IsAccessed, IsDone, IsSome, Keyed, Lawful, length, length-append, List, Means, nat_lt, nat_tests, None, Ok, Option, printed_places, RanStatement, ReadsTrue, refl, refusal_now, RevState, RoomState, RunStop, Seen, seen_cut, seen_whole, Serves, skeleton, Some, Stmt, StoreState, subst, sym, Tables, true, two, Vault, Vec, verdict, Went, whole_run, World, world_of, ℕ, [], ◌%◌, ◌+◌, ◌-◌, ◌<◌, ◌^◌, ◌∙◌, ◌≡◌}
use Rattle.ob_base.specs.declared.emit.EmitErr.TheVariants as EmitErrs
use Rattle.ob_emit.specs.Emitting.{labels_of}
use Rattle.ob_store.specs.Calls.{ChangesNothing}
use Rattle.ob_vault.specs.Places.{at}
use Rattle.ob_flat.specs.declared.fault.OpErr.TheVariants as OpErrs
use Rattle.ob_oram.specs.Scripts.{read_script, write_script}
use Rattle.ob_oram.proofs.AccessRuns.{access_parts, length-reads}
use Rattle.ob_script.specs.Script.{index_part_of}
use Rattle.ob_select.specs.Memory.{AtEmission}
use Rattle.ob_sql.specs.declared.stmt.SelectRows.{SelectRows}
use Rattle.ob_sql.specs.declared.stmt.Stmt.TheVariants.{Create, Insert, Update, Delete, Drop as DropTable, SelectRows as RowsStmt, SelectTotals as TotalsStmt}
use Rattle.ob_verdict.specs.Outcomes.{MayEmit, Partly}
use Rattle.ob_keyed.specs.Emitting.{EmitsFound, answer_events}
use Rattle.ob_keyed.proofs.Seen.{script_is, shows_script}
use Rattle.ob_tables.specs.declared.stop.RunStop.TheVariants as Stops
use Rattle.ob_tables.specs.Running.{SinkStops}
use Rattle.ob_tables.specs.Serving.{StopsEmission}
use Rattle.ob_tables.specs.Telling.{IsNotTampered, ReadsTrueUntil, is_refused}
use Rattle.ob_tables.specs.Stops.{error_of}
use Rattle.ob_tables.proofs.BegunLemmas.{run_reads}
use Rattle.ob_tables.proofs.EmitLemmas.{unfit_none}
use Rattle.ob_tables.proofs.IndexEmits.{found_prints}
use Rattle.ob_tables.proofs.IndexMeans.{begun_access, seen_access_cut, told_keyed}
use Rattle.ob_tables.proofs.IndexRuns.{all, asked_ok, on, ran_as_cut, ran_emission}
use Rattle.ob_tables.proofs.IndexServed.{IsOfOthers, sealed_access}
use Rattle.ob_tables.proofs.RunLemmas.{engine_left, unsaved}
use Rattle.ob_script.proofs.SavedParts.{whole_is}
use Rattle.ob_tables.proofs.ToldLemmas.{refused_none}

-- a stop that an emitter makes
never_full : (stop : RunStop) → IsOfOthers stop → stop ≡ Stops.StashFull → ⊥
never_full Stops.NoMemory other is = absurd (cc is)
never_full Stops.SinkFault other is = absurd (cc is)
never_full another other is = other

refuses_none : (stop : RunStop) → IsOfOthers stop → IsNotTampered stop
refuses_none Stops.NoMemory other = refl
refuses_none Stops.SinkFault other = refl
refuses_none another other = absurd other

ends_cut : {E : Type 0} (grew cut : E → E → List Event → Type 0) (stop : RunStop) (a b : E) (part : List Event) → IsOfOthers stop → cut a b part → StopsEmission grew cut stop a b part
ends_cut grew cut Stops.NoMemory a b part other ends = inr ends
ends_cut grew cut Stops.SinkFault a b part other ends = ends
ends_cut grew cut another a b part other ends = absurd other

module _ {R : Type 0} (state : R → RevState) (stmt : Stmt) (old : Engine R) (s s1 : StoreState) (v : Vault R) (room : RoomState) (t : StoreState) (k draw : ℕ) (keyed : Keyed) (indexes : Vec Index Global) (draws : DrawPlace)
    (agrees : Agrees state old s) (rests : ChangesNothing s s1) (now : refusal_now old.public (count_of old s) stmt ≡ None)
    (accessed : IsAccessed stmt k old.public.tables old.indexes.items)
    (done : IsDone stmt k draw keyed old.indexes.items indexes.items old.room room (at state old.vault s1) (at state v t))
    (drew : draw ≡ draw_at old.draws.key old.draws.next) (next : draws ≡ record old.draws { next = (old.draws.next + 1) % 2 ^ 67 }) (got : Got) (answers : keyed.result ≡ Ok got) (n : ℕ) (count : n ≡ length t.asked - length s.asked)
    {E : Type 0} (grew cut : E → E → List Event → Type 0) (faults : E → ℕ) (starts : (a : E) → grew a a []) (out_old out_new : E) where
  abbrev x : Index
  x = done.before

  abbrev after : World
  after = at state v t

  abbrev now_seen : Seen
  now_seen = seen_cut old.public.stash keyed.leaf n

  abbrev halted : Engine R
  halted = engine_left old indexes draws v room old.public.tables now_seen true

  went : Went (access_script x keyed.leaf) (two x.tree x.stash) (world_of state old s) after
  went = all state stmt old s s1 v room t k draw keyed indexes draws agrees rests now accessed done got answers

  -- more was asked than its stash
  past_stash : old.public.stash < n
  past_stash =
      let asked = ap (λ (l : List Access). length l) went.did.asked ∙ length-append s.asked (access_script x keyed.leaf) in
      let parts = ap (λ (l : List Access). length l) (access_parts x keyed.leaf) ∙ length-append (read_script x keyed.leaf) (write_script x keyed.leaf) in
      let reads = length-reads x keyed.leaf in
      let slots = (agrees.fit k x done.get).slots in
      omega (arith, count, asked, parts, reads, slots)

  leaf_seen : held_if (nat_lt old.public.stash n) (Some keyed.leaf) ≡ Some keyed.leaf
  leaf_seen =
      let past = past_stash in
      let more : nat_lt old.public.stash n ≡ true = grind (arith, nat_tests) in
      ap (λ (b : Bool). held_if b (Some keyed.leaf)) more

  -- all of its accesses were asked
  all_asked : whole_run old.public (skeleton stmt) now_seen ≡ access_script x keyed.leaf
  all_asked =
      let keyed_on = on state stmt old s s1 v room t k draw keyed indexes draws agrees rests now accessed done in
      let below = (asked_ok state stmt old s s1 v room t k draw keyed indexes draws agrees rests now accessed done got answers).below in
      let m = count_of old s in
      whole_is old.public (skeleton stmt) now_seen (unsaved state old s k x agrees done.get)
      ∙ script_is old.public m stmt x keyed_on now_seen
      ∙ ap (λ (o : Option ℕ). index_part_of old.public o keyed_on.table) leaf_seen
      ∙ sym (script_is old.public m stmt x keyed_on (seen_whole keyed.leaf))
      ∙ (shows_script old.public m stmt x keyed_on keyed.leaf below).whole

  lawful_halt : Lawful old.public (count_of old s) stmt now_seen
  lawful_halt =
      let same : length t.asked - length s1.asked ≡ n = (λ i. length t.asked - length (rests.asked i)) ∙ sym count in
      subst (λ (i : ℕ). Lawful old.public (count_of old s) stmt (seen_cut old.public.stash keyed.leaf i)) same
      (ran_as_cut state stmt old s s1 v room t k draw keyed indexes draws agrees rests now accessed done got answers).lawful

  true_until : (tables : Tables) → ReadsTrueUntil state old s halted t tables → ReadsTrue state old s t tables
  true_until tables reads = record { tells = reads.tells; held = reads.held; nolie = unfit_none after (went.calm reads.calm) reads.unfit }

  module _ (q : SelectRows) (stmt_is : stmt ≡ RowsStmt q) where
    abbrev cols : List ℕ
    cols = printed_places q x.schema

    -- where rows are emitted
    at_emission : AtEmission old.public stmt now_seen []
    at_emission = subst (λ (z : Stmt). AtEmission old.public z now_seen []) (sym stmt_is) (inr (subst (λ (o : Option ℕ). IsSome o) (sym leaf_seen) refl, refl))

    module _ (stop : RunStop) (other : IsOfOthers stop) (ran : RanStatement state (skeleton stmt) (Err stop) old s halted t) where
      means_halt : Means state stmt [] (Err stop) old s halted t
      means_halt = record {
        told = λ tables d of reads. tt;
        room = λ tables d of reads. tt;
        honest = λ tables reads. refuses_none stop other;
        held = λ tables d of reads.
            seen_access_cut state stmt old s s1 v room t k draw keyed indexes draws agrees rests now accessed done drew (is_refused stop) n count halted refl tables d of reads.held;
        full = λ tables d of reads. record {
          full = λ is. absurd (never_full stop other is);
          reads = λ is. absurd (never_full stop other is);
          bound = λ is.
              let free = (told_keyed state stmt old s s1 v room t k draw keyed indexes draws agrees rests now accessed done drew got answers tables d of (true_until tables reads)).room in
              absurd (cc (is, free));
        };
        begun = λ tables d of reads lie told.
            begun_access state stmt old s s1 v room t k draw keyed indexes draws agrees rests now accessed done drew (access_script x keyed.leaf) [] (append-nil _) went.did.asked tables d of reads lie
            (run_reads (Err stop) (world_of state old s) (world_of state halted t) lie ran.cause reads.nolie told);
      }

      serves_by : (error : EmitErr) (is : EmitsFound {T = Unit {0}} grew cut faults x.schema cols (got_in got) (Err error) out_old out_new) → SinkStops (Err stop) (faults out_old) (faults out_new)
          → Serves state grew cut faults stmt (Err stop) old s halted t out_old out_new
      serves_by error is sink =
          let part = is.gives.err.0 in
          let ends = is.gives.err.1 out_old [] (starts out_old) in
          record {
            ran = ran;
            early = refused_none (refusal_now old.public (count_of old s) stmt) (Err stop) now_seen now (λ end. absurd (cc end));
            lawful = lawful_halt;
            memory = λ wants. record {
              done = access_script x keyed.leaf;
              rest = [];
              split = append-nil _ ∙ sym all_asked;
              asked = went.did.asked;
              place = inr (inr (at_emission, record { events = part; ends = ends }));
            };
            full = λ full. absurd (never_full stop other (cc full));
            seals = sealed_access state stmt old s s1 v room t k draw keyed indexes draws agrees rests now accessed done drew next halted refl;
            answered = tt;
            stopped = record {
              events = part;
              ends = ends_cut grew cut stop out_old out_new part other ends;
              told = λ tables reads. subst (λ (z : Stmt). Partly (answer_labels z old.public) (verdict old.public (count_of old s) tables z) part) (sym stmt_is) (record {
                whole = answer_events (labels_of x.schema cols) is.rows;
                prints = found_prints state stmt old s s1 v room t k draw keyed indexes draws agrees rests now accessed done drew got answers grew starts out_old out_new q stmt_is is.rows is.shown tables (true_until tables reads);
                begun = is.gives.err.2;
              });
            };
            sink = sink;
            emits = λ fault. subst (λ (z : Stmt). MayEmit z) (sym stmt_is) tt;
            means = means_halt;
          }

    -- by the emitter's error
    serves_halt : (error : EmitErr) → EmitsFound {T = Unit {0}} grew cut faults x.schema cols (got_in got) (Err error) out_old out_new
        → Serves state grew cut faults stmt (answer_of (error_of error)) old s (engine_left old indexes draws v room old.public.tables now_seen (is_stop (answer_of (error_of error)))) t out_old out_new
    serves_halt EmitErrs.Failed is =
        serves_by Stops.SinkFault tt (ran_emission state stmt old s s1 v room t k draw keyed indexes draws agrees rests now accessed done got answers drew OpErrs.Sink n (inl refl) count) EmitErrs.Failed is is.gives.cause
    serves_halt EmitErrs.NoMemory is =
        serves_by Stops.NoMemory tt (ran_emission state stmt old s s1 v room t k draw keyed indexes draws agrees rests now accessed done got answers drew OpErrs.NoMemory n (inr refl) count) EmitErrs.NoMemory is is.gives.cause

  -- nothing else emits
  halted_by : (z : Stmt) → stmt ≡ z → (error : EmitErr) → EmitsGot {T = Unit {0}} grew cut faults z x.schema (got_in got) (Err error) out_old out_new
      → Serves state grew cut faults stmt (answer_of (error_of error)) old s (engine_left old indexes draws v room old.public.tables now_seen (is_stop (answer_of (error_of error)))) t out_old out_new
  halted_by (RowsStmt q) is error emits = serves_halt q is error emits
  halted_by other is error emits = absurd emits.never

  pub serves_halted : (error : EmitErr) → EmitsGot {T = Unit {0}} grew cut faults stmt x.schema (got_in got) (Err error) out_old out_new
      → Serves state grew cut faults stmt (answer_of (error_of error)) old s (engine_left old indexes draws v room old.public.tables now_seen (is_stop (answer_of (error_of error)))) t out_old out_new
  serves_halted error emits = halted_by stmt refl error emits
