-- A SELECT of rows that was stopped, or that the store cut off.
use Rattle.ob_exec.proofs.Words.{Access, accessed, Agrees, answer_events, answer_labels, answer_of, ap, AreDraws, AreInPlace, arith, at, Bool, closing, count_of, Cut, cut_at, database, Draws, early_held, early_refusal, Engine, Err, Event, false, from, HaltsRows, Hash, HasHalted, Head, header, headings, headings_of, HoldsRows, IfErr, IfOk, if◌then◌else◌, inl, inr, is_access, is_late, is_of_access, is_refused, is_stop, IsNotTampered, IsUnfit, labels_of, Lasts, Leads, LeavesNone, length, length-append, FalseRead, limits_of, List, MayHold, None, none_before, OpErr, Option, others_of, Outcome, PassCut, places, Plan, Public, ReadsIn, ReadsTrue, ReadsTrueUntil, refl, refusal_now, RefusedEarly, region_below, Result, RevState, RoomState, row_events, rows, rows_script, run_script, RunStop, Same, same_script, SealsRows, Seen, Selected, selection, selection_answer, selection_seen, Serves, SinkCause, SinkStops, skeleton, slots_of, Small, Some, source_rows, SourceToEnd, SourceToHalt, Static, Stopped, StoreState, subst, sym, Tables, true, until_end, UsesRoomFor, Vault, World, world_of, ℕ, [], ◌++◌, ◌-◌, ◌∙◌, ◌∷◌, ◌≡◌, ◌≤◌, ◌⊎◌}
use Rattle.ob_tables.specs.declared.stop.RunStop.TheVariants as Stops
use Rattle.ob_row.specs.Slots.{is_consecutive}
use Rattle.ob_base.specs.declared.config.Plan.TheVariants.{Large, Continuous}
use Rattle.ob_flat.specs.declared.fault.OpErr.TheVariants as OpErrs
use Rattle.ob_sql.specs.declared.stmt.SelectRows.{SelectRows}
use Rattle.ob_sql.specs.declared.stmt.Stmt.TheVariants.{SelectRows as RowsStmt}
use Rattle.ob_mean.specs.Verdict.{plan_for, seen, seen_by, seen_with}
use Rattle.ob_tables.specs.Running.{stops_access}
use Rattle.ob_tables.specs.Serving.{Answered, StopsEmission}
use Rattle.ob_select.specs.Halting.{EmitsUntil, TakesPart}
use Rattle.ob_tables.proofs.EmitLemmas.{lie_none}
use Rattle.ob_select.proofs.UntilLemmas.{until_failed, until_more}
use Rattle.ob_exec.specs.Sources.{LacksRowMemory, ReachesRows, ReadsMeant, rows_skeleton}
use Rattle.ob_tables.specs.Telling.{Represents, SeenCut, Told, meant_script}
use Rattle.ob_tables.proofs.HeldLemmas.{held_headings, held_kept, held_plain}
use Rattle.ob_tables.proofs.PlainLemmas.{none_room, pass_stops}
use Rattle.ob_exec.proofs.RowsLawful.{lawful_cut}
use Rattle.ob_exec.proofs.RowsMeaning.{rows_partly, rows_seen, rows_unfinished, rows_unread}
use Rattle.ob_exec.proofs.RowsOfTable.{cut_of_rows}
use Rattle.ob_exec.proofs.RowsRun.{rows_after, rows_cut}
use Rattle.ob_tables.proofs.TableLemmas.{beside_below}
use Rattle.ob_tables.proofs.RunLemmas.{no_access, only_memory}
use Rattle.ob_verdict.proofs.RowEvents.{are_rows}

pub unfit_none : (w : World) → w.store.lie ≡ None → IsUnfit w
unfit_none w none = record { unfit = λ lie is. absurd (cc (is, none)) }

-- what is known of the source of a SELECT of rows
pub record IsSource (p : Public) (select : SelectRows) : Type 0 where
  pub unkeyed : is_access p (skeleton (RowsStmt select)) ≡ false
  pub labelled : labels_of (selection p select).flat.schema (selection p select).cols ≡ answer_labels (RowsStmt select) p
  pub rows_are : (tables : Tables) → AreInPlace p.stash tables → headings tables ≡ headings_of p.tables → Same (source_rows select.source (database tables)) (rows (slots_of p select tables))

-- what was emitted of it is a first part of all events of its answer
pub record StopsRows {E : Type 0} (grew cut : E → E → List Event → Type 0) (p : Public) (select : SelectRows) (error : OpErr) (now : Seen) (old new : World) (out_old out_new : E) : Type 0 where
  pub ran : PassCut error (rows_script p select now) (from old.vault.next) old new
  pub leaves : LeavesNone old new
  pub seals : SealsRows p.pack old new
  pub holds : MayHold (selection p select) now.k now.plan now.then
  pub leaf : now.leaf ≡ None
  pub reached : ReachesRows p select now (length new.store.asked - length old.store.asked)
  pub memory : error ≡ OpErrs.NoMemory → LacksRowMemory p select now old new (HasHalted (Leads grew cut) out_old out_new)
  pub halted : EmitsUntil grew cut error (header (selection p select).flat.schema (selection p select).cols)
      (λ (s : SourceToHalt p old new). answer_events (selection p select) (slots_of p select s.tables) ++ closing (selection_answer (selection p select) (slots_of p select s.tables))) out_old out_new
  pub failed : error ≡ OpErrs.Failed → TakesPart grew (header (selection p select).flat.schema (selection p select).cols)
      (λ (s : SourceToHalt p old new). answer_events (selection p select) (slots_of p select s.tables)) out_old out_new
  pub honest : SourceToEnd p old new → (error ≡ OpErrs.Failed) ⊎ (error ≡ OpErrs.Sink) ⊎ (error ≡ OpErrs.NoMemory)
  pub held : (s : SourceToHalt p old new) → HoldsRows p select (slots_of p select s.tables) (is_of_access error) (length new.store.asked - length old.store.asked) now
  pub begun : ReadsMeant p select old new

-- a SELECT of rows comes to its end, or is refused after its count
until_rows : (pad : Option ℕ) (p : Public) (n : ℕ) (places : List ℕ) (all : List Access) → until_end (seen_by pad p n places).end all ≡ all
until_rows (Some pad) p n places all = refl
until_rows None p n [] all = refl
until_rows None p n (i ∷ is) all = by (plan_for p n (i ∷ is))
  where
    side : (b : Bool) (x y : Seen) → until_end x.end all ≡ all → until_end y.end all ≡ all → until_end (if b then x else y).end all ≡ all
    side true x y one two = one
    side false x y one two = two

    by : (plan : Plan) → until_end (seen_with p plan (i ∷ is)).end all ≡ all
    by Continuous = side (is_consecutive (i ∷ is)) _ _ refl refl
    by other = refl

pub stops_halted : {E : Type 0} {grew cut : E → E → List Event → Type 0} {p : Public} {select : SelectRows} {error : OpErr} {now : Seen} {old new : World} {out_old out_new : E}
    → HaltsRows grew cut p select error now old new out_old out_new → StopsRows grew cut p select error now old new out_old out_new
stops_halted {grew = grew} {cut = cut} {p = p} {select = select} {error = error} {old = old} {new = new} {out_old = out_old} {out_new = out_new} is = record {
  ran = is.ran;
  leaves = is.leaves;
  seals = is.seals;
  holds = is.holds;
  leaf = is.leaf;
  reached = is.reached;
  memory = is.memory;
  halted = until_more grew cut (header (selection p select).flat.schema (selection p select).cols) error (λ (s : SourceToHalt p old new). answer_events (selection p select) (slots_of p select s.tables))
      (λ s. closing (selection_answer (selection p select) (slots_of p select s.tables))) out_old out_new is.halted;
  failed = λ failed. until_failed grew cut (header (selection p select).flat.schema (selection p select).cols) error (λ (s : SourceToHalt p old new). answer_events (selection p select) (slots_of p select s.tables)) out_old out_new failed is.halted;
  honest = is.honest;
  held = is.held;
  begun = is.begun;
}

pub early_none : (p : Public) (m : ℕ) (select : SelectRows) (result : Result Outcome RunStop) (now : Seen) → refusal_now p m (RowsStmt select) ≡ None → (now.end ≡ Static → ⊥)
    → RefusedEarly (refusal_now p m (RowsStmt select)) result now
early_none p m select result now none started = subst (λ o. RefusedEarly o result now) (sym none) started

sink_of : (e : OpErr) (a b : ℕ) → SinkCause {T = Selected} (Err e) a b → SinkStops (answer_of e) a b
sink_of OpErrs.Failed a b cause = cause
sink_of other a b cause = cause

module _ {R : Type 0} (state : R → RevState) (old : Engine R) (s : StoreState) (v : Vault R) (room : RoomState) (t : StoreState) (select : SelectRows)
    (agrees : Agrees state old s) (free : refusal_now old.public (count_of old s) (RowsStmt select) ≡ None) (source : IsSource old.public select)
    (lasts : Lasts (from old.vault.next) (world_of state old s) (at state v t)) where
  abbrev pub before : World
  before = world_of state old s

  abbrev pub after : World
  after = at state v t

  -- what is known of the tables
  abbrev pub to_end : (tables : Tables) → ReadsTrue state old s t tables → SourceToEnd old.public before after
  to_end tables reads = record { tells = reads.tells; tables = tables; indexes = old.indexes.items; held = reads.held.held; in_place = reads.held.in_place; nolie = reads.nolie }

  abbrev pub to_halt : (tables : Tables) → ReadsTrue state old s t tables → SourceToHalt old.public before after
  to_halt tables reads = record {
    tells = reads.tells;
    tables = tables;
    indexes = old.indexes.items;
    held = reads.held.held;
    in_place = reads.held.in_place;
    nolie = none_before _ _ lasts.later reads.nolie;
    unfit = unfit_none after reads.nolie;
  }

  abbrev pub until : (now : Seen) (ended : Bool) (tables : Tables) → ReadsTrueUntil state old s (rows_after old v room now ended) t tables → SourceToHalt old.public before after
  until now ended tables reads = record {
    tells = reads.tells;
    tables = tables;
    indexes = old.indexes.items;
    held = reads.held.held;
    in_place = reads.held.in_place;
    nolie = lie_none (from old.vault.next) before after lasts reads.calm reads.unfit;
    unfit = reads.unfit;
  }

  pub still_held : (now : Seen) (ended : Bool) (tables : Tables) → Represents state old s tables → Represents state (rows_after old v room now ended) t tables
  still_held now ended tables is = record {
    held = held_kept (from old.vault.next) old.public.pack old.indexes.items old.public.tables tables before after lasts
        (λ i u here above. let below = region_below old.public.pack i old.public.tables u before agrees.ready agrees.tables here in omega (arith, below, above))
        (λ k x get above.
        let below = beside_below old.public.pack old.public.tables (others_of old.closing old.indexes.items) x.stash before agrees.ready agrees.tables (agrees.tables.stand k x get).beside in
        omega (arith, below, above)) is.held;
    in_place = is.in_place;
  }

  module _ (tables : Tables) (stands : Represents state old s tables) where
    pub headed : headings tables ≡ headings_of old.public.tables
    headed = held_headings old.public.pack old.indexes.items old.public.tables tables before stands.held

    pub flat : accessed tables (RowsStmt select) ≡ None
    flat = held_plain old.public old.indexes.items tables before (RowsStmt select) stands.held source.unkeyed

    pub early : early_refusal (is_late (count_of old s)) (limits_of old.public) (headings tables) (RowsStmt select) ≡ None
    early = early_held old.public (count_of old s) (RowsStmt select) tables old.indexes.items before None stands.held free

    pub rows_of : Same (source_rows select.source (database tables)) (rows (slots_of old.public select tables))
    rows_of = source.rows_are tables stands.in_place headed

    seen_cut : (d : Draws) (failed : Bool) (now : Seen) (n : ℕ) → n ≡ length t.asked - length s.asked → now.leaf ≡ None
        → HoldsRows old.public select (slots_of old.public select tables) failed (length t.asked - length s.asked) now
        → record now { end = Cut n } ≡ cut_at failed (length t.asked - length s.asked) old.public (rows_skeleton select) (seen d old.public (count_of old s) tables (RowsStmt select))
    seen_cut d failed now n count leaf holds =
        let none = rows_unread old.public (count_of old s) select tables headed stands.in_place flat early agrees.settings.pack_least agrees.settings.blocks agrees.settings.padded source.labelled rows_of in
        ap (λ (k : ℕ). record now { end = Cut k }) count
        ∙ cut_of_rows old.public select (slots_of old.public select tables) (seen d old.public (count_of old s) tables (RowsStmt select))
        (rows_seen old.public (count_of old s) select tables headed stands.in_place flat early agrees.settings.pack_least agrees.settings.blocks agrees.settings.padded source.labelled rows_of d)
        none failed (length t.asked - length s.asked) now holds leaf

  pub rows_begun : ReadsMeant old.public select before after → (tables : Tables) (d : Draws) → AreDraws old d → ReadsTrue state old s s tables → (lie : FalseRead) → t.lie ≡ Some lie
      → ReadsIn lie (s.asked ++ meant_script d old.public (count_of old s) tables (RowsStmt select))
  rows_begun begun tables d of reads lie told =
      let q = selection old.public select in
      let slots = slots_of old.public select tables in
      let meant = rows_seen old.public (count_of old s) select tables (headed tables reads.held) reads.held.in_place (flat tables reads.held) (early tables reads.held) agrees.settings.pack_least agrees.settings.blocks agrees.settings.padded source.labelled (rows_of tables reads.held) d in
      subst (λ (l : List Access). ReadsIn lie (s.asked ++ l))
      (sym (ap (run_script old.public (rows_skeleton select)) meant ∙ until_rows old.public.pad old.public (length slots) (places q slots) (rows_script old.public select (selection_seen q slots))))
      (begun (record { tells = reads.tells; tables = tables; indexes = old.indexes.items; held = reads.held.held; in_place = reads.held.in_place; nolie = reads.nolie }) lie told)

  module _ {E : Type 0} (grew cut : E → E → List Event → Type 0) (faults : E → ℕ) (starts : (x : E) → grew x x []) (now : Seen) (n : ℕ) (out_old out_new : E)
      (count : n ≡ length t.asked - length s.asked) where
    abbrev stopped_engine : OpErr → Engine R
    stopped_engine e = rows_after old v room (record now { end = Cut n }) (is_stop (answer_of e))

    stop_told : (e : OpErr) → StopsRows grew cut old.public select e now before after out_old out_new → (tables : Tables) (d : Draws) → ReadsTrue state old s t tables
        → IfOk (answer_of e) (λ outcome. Told state (RowsStmt select) [] d tables outcome old s (stopped_engine e) t)
    stop_told OpErrs.Failed is tables d reads = record {
      unindexed = flat tables reads.held;
      seen = seen_cut tables reads.held d true now n count is.leaf (is.held (to_halt tables reads));
      held = still_held (record now { end = Cut n }) false tables reads.held;
    }
    stop_told other is tables d reads = tt

    stop_honest : (e : OpErr) → StopsRows grew cut old.public select e now before after out_old out_new → (tables : Tables) → ReadsTrue state old s t tables → IfErr (answer_of e) IsNotTampered
    stop_honest OpErrs.Failed is tables reads = tt
    stop_honest (OpErrs.Tampered q x) is tables reads = elim (is.honest (to_end tables reads)) [
      | inl failed ↦ absurd (cc failed)
      | inr other ↦ elim other [ inl sink ↦ absurd (cc sink) | inr memory ↦ absurd (cc memory) ]
    ]
    stop_honest OpErrs.Sink is tables reads = refl
    stop_honest OpErrs.NoMemory is tables reads = refl

    stop_held : (e : OpErr) → StopsRows grew cut old.public select e now before after out_old out_new → (tables : Tables) (d : Draws) → ReadsTrueUntil state old s (stopped_engine e) t tables
        → IfErr (answer_of e) (λ stop. SeenCut (is_refused stop) d (RowsStmt select) tables old s (stopped_engine e) t)
    stop_held OpErrs.Failed is tables d reads = tt
    stop_held (OpErrs.Tampered q x) is tables d reads = seen_cut tables reads.held d true now n count is.leaf (is.held (until (record now { end = Cut n }) true tables reads))
    stop_held OpErrs.Sink is tables d reads = seen_cut tables reads.held d false now n count is.leaf (is.held (until (record now { end = Cut n }) true tables reads))
    stop_held OpErrs.NoMemory is tables d reads = seen_cut tables reads.held d false now n count is.leaf (is.held (until (record now { end = Cut n }) true tables reads))

    stop_answered : (e : OpErr) → StopsRows grew cut old.public select e now before after out_old out_new
        → IfOk (answer_of e) (λ outcome. Answered state grew (RowsStmt select) outcome old s t out_old out_new)
    stop_answered OpErrs.Failed is =
        let part = is.failed refl in
        record {
          events = part.events;
          took = part.leads out_old [] (starts out_old);
          emits = record {
            rows = row_events part.rows;
            are_rows = are_rows part.rows;
            is = elim part.is [ inl none ↦ inl none | inr begun ↦ inr (begun ∙ ap (λ (labels : List (List ℕ)). Head labels ∷ row_events part.rows) source.labelled) ];
          };
          told = λ tables reads.
              let rest = part.told (to_halt tables reads) in
              rows_unfinished old.public (count_of old s) select tables (headed tables reads.held) reads.held.in_place (flat tables reads.held) (early tables reads.held)
              agrees.settings.pack_least agrees.settings.blocks agrees.settings.padded source.labelled (rows_of tables reads.held) part.events rest.0 rest.1;
        }
    stop_answered other is = tt

    abbrev All : SourceToHalt old.public before after → List Event
    All x = answer_events (selection old.public select) (slots_of old.public select x.tables) ++ closing (selection_answer (selection old.public select) (slots_of old.public select x.tables))

    stop_partly : (e : OpErr) (stop : RunStop) (events : List Event) → StopsEmission grew cut stop out_old out_new events → ((x : SourceToHalt old.public before after) → (rest : List Event) × (events ++ rest ≡ All x))
        → Stopped state grew cut (RowsStmt select) stop old s (stopped_engine e) t out_old out_new
    stop_partly e stop events ends told = record {
      events = events;
      ends = ends;
      told = λ tables reads.
          rows_partly old.public (count_of old s) select tables (headed tables reads.held) reads.held.in_place (flat tables reads.held) (early tables reads.held)
          agrees.settings.pack_least agrees.settings.blocks agrees.settings.padded source.labelled (rows_of tables reads.held) events (told (until (record now { end = Cut n }) (is_stop (answer_of e)) tables reads));
    }

    stop_stopped : (e : OpErr) → StopsRows grew cut old.public select e now before after out_old out_new
        → IfErr (answer_of e) (λ stop. Stopped state grew cut (RowsStmt select) stop old s (stopped_engine e) t out_old out_new)
    stop_stopped OpErrs.Failed is = tt
    stop_stopped (OpErrs.Tampered q x) is = let part = is.halted in stop_partly (OpErrs.Tampered q x) (Stops.Tampered q x) part.events (part.leads out_old [] (starts out_old)) part.told
    stop_stopped OpErrs.Sink is = let part = is.halted in stop_partly OpErrs.Sink Stops.SinkFault part.events (part.ends out_old [] (starts out_old)) part.told
    stop_stopped OpErrs.NoMemory is = let part = is.halted in stop_partly OpErrs.NoMemory Stops.NoMemory part.events (part.ends out_old [] (starts out_old)) part.told

    few : (e : OpErr) → PassCut e (rows_script old.public select now) (from old.vault.next) before after → n ≤ length (rows_script old.public select now)
    few e cut =
        let asked = ap length cut.began.asked in
        let split = ap length cut.began.split in
        let sum = length-append s.asked cut.began.done in
        let parts = length-append cut.began.done cut.began.rest in
        omega (arith, asked, split, sum, parts, count)

    cut_static : Cut n ≡ Static → ⊥
    cut_static is = cc

    -- it is what a SELECT does that was cut off
    pub serves_stopped : (e : OpErr) → UsesRoomFor old.room room before after → StopsRows grew cut old.public select e now before after out_old out_new
        → SinkCause {T = Selected} (Err e) (faults out_old) (faults out_new)
        → Serves state grew cut faults (RowsStmt select) (answer_of e) old s (stopped_engine e) t out_old out_new
    serves_stopped e used is sink = record {
      ran = rows_cut state old s v room t select agrees used source.unkeyed e now n is.leaf count is.ran is.leaves;
      early = early_none old.public (count_of old s) select (answer_of e) (record now { end = Cut n }) free cut_static;
      lawful = lawful_cut old.public select source.unkeyed (count_of old s) free now n is.holds is.leaf (subst (λ (k : ℕ). ReachesRows old.public select now k) (sym count) is.reached) (few e is.ran);
      memory = λ wanted.
          let lacks = is.memory (only_memory e wanted) in
          record {
            done = lacks.done;
            rest = lacks.rest;
            split = lacks.split ∙ same_script old.public (rows_skeleton select) now (Cut n);
            asked = lacks.asked;
            place = elim lacks.place [
              | inl make ↦ inl make
              | inr other ↦ inr (elim other [
                | inl before ↦ inl before
                | inr emits ↦ inr (inl (emits.0, emits.1), record { events = emits.2.events; ends = emits.2.ends out_old [] (starts out_old) })
              ])
            ];
          };
      full = λ full. absurd (no_access e (ap stops_access full));
      seals = λ good accepts single. (is.seals) good accepts;
      answered = stop_answered e is;
      stopped = stop_stopped e is;
      sink = sink_of e _ _ sink;
      emits = λ is. tt;
      means = record {
        told = λ tables d of reads. stop_told e is tables d reads;
        room = λ tables d of reads. none_room old.public tables (RowsStmt select) (flat tables reads.held) d (count_of old s) (answer_of e);
        honest = stop_honest e is;
        held = λ tables d of reads. stop_held e is tables d reads;
        full = λ tables d of reads. pass_stops old.public tables (RowsStmt select) (flat tables reads.held) d (count_of old s) _ e;
        begun = rows_begun is.begun;
      };
    }
