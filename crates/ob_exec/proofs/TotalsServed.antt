-- A SELECT of totals, after its pass.
use Rattle.ob_exec.proofs.Words.{Agrees, Answer, answer_labels, answer_of, answered, ap, append-nil, AreHeld, arith, at, blocks_for, Bool, buffered, ChangesNothing, Columns, Condition, count_of, Cut, database, Draws, early_held, early_refusal, Emits, Engine, Err, Event, false, flat_of, HasHalted, Heading, heading_found, headings, headings_of, Held, held_at, IfErr, IfOk, if◌then◌else◌, inl, inr, is_late, is_refused, is_stop, IsAt, IsNotTampered, Lasts, Leads, length, limits_of, List, None, none, Ok, OpErr, Option, option_map_or, Outcome, Partly, partly_none, Prints, Public, refl, Refusal, refusal_now, RevState, RoomState, rows, RunStop, Serves, SinkCause, SinkStops, skeleton, Some, Stmt, Stopped, Stored, stored_at, StoreState, subst, sym, Tables, true, Unfinished, Vault, verdict, went_rests, where_at, Whole, World, world_of, ℕ, [], ◌-◌, ◌∙◌, ◌≡◌, ◌≤◌, ◌⊎◌}
use Rattle.std.proofs.Common.{filter}
use Rattle.std.specs.Option.{option_map, option_or}
use Rattle.ob_base.specs.declared.refusal.Refusal.TheVariants.{TooManyGroups, StoreFault}
use Rattle.ob_tables.specs.declared.stop.RunStop.TheVariants as Stops
use Rattle.ob_base.specs.declared.schema.Table.{Table}
use Rattle.ob_row.specs.Rows.{Row}
use Rattle.ob_row.specs.Truth.{is_true}
use Rattle.ob_row.proofs.BagLemmas.{Same-refl}
use Rattle.ob_flat.specs.declared.fault.OpErr.TheVariants as OpErrs
use Rattle.ob_flat.specs.declared.flat.Flat.{Flat}
use Rattle.ob_flat.specs.Emission.{SlotsToEnd}
use Rattle.ob_flat.specs.Flats.{Represents as FlatRepresents}
use Rattle.ob_flat.proofs.Resting.{represents_rests}
use Rattle.ob_sql.specs.declared.stmt.SelectTotals.{SelectTotals}
use Rattle.ob_sql.specs.declared.stmt.Stmt.TheVariants.{SelectTotals as TotalsStmt}
use Rattle.ob_sql.specs.Skeleton.{named_by}
use Rattle.std.specs.List.{flat_map}
use Rattle.ob_mean.specs.declared.answer.Answer.TheVariants as A
use Rattle.ob_names.specs.Names.{columns_at}
use Rattle.ob_mean.specs.Settle.{settle}
use Rattle.ob_mean.specs.Step.{accepted_answer, overgroups, rows_at, totals_answer}
use Rattle.ob_mean.specs.Verdict.{refusal, seen, ended as seen_to}
use Rattle.ob_mean.proofs.VerdictLemmas.{heading-stored, headings-database, stored-database, refused_late}
use Rattle.ob_verdict.specs.declared.outcome.Outcome.TheVariants.{Refused}
use Rattle.ob_tables.specs.Running.{stops_access}
use Rattle.ob_verdict.specs.Outcomes.{outcome_of}
use Rattle.ob_select.specs.Selecting.{UsesRoom}
use Rattle.ob_tables.specs.Serving.{StopsEmission}
use Rattle.ob_tables.proofs.BegunLemmas.{begun_plain}
use Rattle.ob_tables.specs.Telling.{Represents}
use Rattle.ob_exec.specs.Totalling.{MayTotal, Totals, ends_by}
use Rattle.ob_stages.specs.Totalling.{IsTotalled, TotalsFit, labels_at, totalled_answer}
use Rattle.ob_tables.proofs.FoundLemmas.{shape_found}
use Rattle.ob_tables.proofs.HeldLemmas.{Beside}
use Rattle.ob_tables.proofs.PlainLemmas.{none_room, none_stops, pass_stops, settle_is}
use Rattle.ob_base.specs.declared.schema.Shape.TheVariants.{Flat as FlatShape}
use Rattle.ob_mean.specs.Replay.{has_index}
use Rattle.ob_verdict.proofs.NamesFlatProof.{names_flat}
use Rattle.std.proofs.lemmas.List.Elements.{All-head}
use Rattle.ob_tables.proofs.LawfulLemmas.{lawful_now}
use Rattle.ob_tables.proofs.ReadLemmas.{cut_after, held_read, read_cut, read_done, read_flat, read_size, reads, reads_is, went_all}
use Rattle.ob_tables.proofs.RunLemmas.{IsAnswered, engine_after, no_access, ran_no_room, only_memory}
use Rattle.ob_tables.proofs.SealLemmas.{keeps_pass, keeps_rests}
use Rattle.ob_tables.proofs.ToldLemmas.{cut_seen, refused_none, started_seen, told_whole, followed_same}
use Rattle.ob_stages.proofs.TotalsLemmas.{totals_fit}
use Rattle.ob_tables.proofs.EmitLemmas.{lie_none}

-- ---- what it means
-- nothing beside the refusal of too many groups
either_none : (b : Bool) (answer : Answer) → answered (option_or (if b then Some TooManyGroups else None) None) answer ≡ answered (if b then Some TooManyGroups else None) answer
either_none true answer = refl
either_none false answer = refl

pub verdict_is : (p : Public) (m : ℕ) (tables : Tables) (s : SelectTotals) (x : Stored Held) → early_refusal (is_late m) (limits_of p) (headings tables) (TotalsStmt s) ≡ None
    → stored_at s.table tables ≡ Some x → verdict p m tables (TotalsStmt s) ≡ totalled_answer (buffered p.pack p.buffer) x.heading.schema s x.held.slots
verdict_is p m tables s x early found =
    let places = buffered p.pack p.buffer in
    let columns_is : columns_at s.table (headings (database tables)) ≡ x.heading.schema =
    ap (columns_at s.table) (headings-database tables)
    ∙ ap (λ (o : Option Heading). option_map_or (λ (h : Heading). h.schema) o []) (heading-stored s.table tables ∙ ap (option_map (λ (u : Stored Held). u.heading)) found) in
    let rows_is : rows_at s.table (database tables) ≡ rows x.held.slots =
    ap (λ (o : Option (Stored (List Row))). option_map_or (λ (u : Stored (List Row)). u.held) o [])
    (stored-database s.table tables ∙ ap (option_map (λ (u : Stored Held). record { heading = u.heading; held = rows u.held.slots })) found) in
    ap (λ (o : Option Refusal). answered o (accepted_answer (database tables) (TotalsStmt s))) (refused_late p m tables (TotalsStmt s) early)
    ∙ (λ i.
    let chosen = filter (is_true (where_at s.cond (columns_is i))) (rows_is i) in
    answered (option_or (if overgroups places s.group (columns_is i) chosen then Some TooManyGroups else None) None) (A.Rows (totals_answer s (columns_is i) chosen)))
    ∙ either_none (overgroups places s.group x.heading.schema (filter (is_true (where_at s.cond x.heading.schema)) (rows x.held.slots))) _

is_answered : (outcome : Outcome) → IsTotalled outcome → IsAnswered outcome
is_answered outcome (inl (k, is)) = subst (λ (o : Outcome). IsAnswered o) (sym is) (record { whole = λ n. refl; own = refl })
is_answered outcome (inr is) = subst (λ (o : Outcome). IsAnswered o) (sym is) (record { whole = λ n. refl; own = refl })

-- ---- how an error of its pass is answered
if_failed : (P : Outcome → Type 0) (e : OpErr) → (e ≡ OpErrs.Failed → P (Refused StoreFault)) → IfOk (answer_of e) P
if_failed P OpErrs.Failed h = h refl
if_failed P (OpErrs.Tampered q x) h = tt
if_failed P OpErrs.Sink h = tt
if_failed P OpErrs.NoMemory h = tt

on_stop : {E : Type 0} (grew cut : E → E → List Event → Type 0) (P : RunStop → Type 0) (events : List Event) (a b : E) → grew a a [] → (e : OpErr) → Leads grew (ends_by grew cut e) a b events
    → ((stop : RunStop) → StopsEmission grew cut stop a b events → P stop) → IfErr (answer_of e) P
on_stop grew cut P events a b starts OpErrs.Failed leads h = tt
on_stop grew cut P events a b starts (OpErrs.Tampered q x) leads h = h (Stops.Tampered q x) (leads a [] starts)
on_stop grew cut P events a b starts OpErrs.Sink leads h = h Stops.SinkFault (leads a [] starts)
on_stop grew cut P events a b starts OpErrs.NoMemory leads h = h Stops.NoMemory (inr (leads a [] starts))

-- want of memory after all accesses was the emitter's
given_up : {E : Type 0} (grew cut : E → E → List Event → Type 0) (events : List Event) (a b : E) → grew a a [] → (e : OpErr) → e ≡ OpErrs.NoMemory → Leads grew (ends_by grew cut e) a b events → HasHalted cut a b
given_up grew cut events a b starts OpErrs.NoMemory is leads = record { events = events; ends = leads a [] starts }
given_up grew cut events a b starts other is leads = absurd (cc is)

if_stop : (P : RunStop → Type 0) (e : OpErr) → ((stop : RunStop) → P stop) → IfErr (answer_of e) P
if_stop P OpErrs.Failed h = tt
if_stop P (OpErrs.Tampered q x) h = h (Stops.Tampered q x)
if_stop P OpErrs.Sink h = h Stops.SinkFault
if_stop P OpErrs.NoMemory h = h Stops.NoMemory

sink_of : (e : OpErr) (a b : ℕ) → SinkCause {T = Outcome} (Err e) a b → SinkStops (answer_of e) a b
sink_of OpErrs.Failed a b is = is
sink_of other a b is = is

not_tampered : (e : OpErr) → (e ≡ OpErrs.Failed) ⊎ (e ≡ OpErrs.Sink) ⊎ (e ≡ OpErrs.NoMemory) → IfErr (answer_of e) IsNotTampered
not_tampered e (inl is) = subst (λ (x : OpErr). IfErr (answer_of x) IsNotTampered) (sym is) tt
not_tampered e (inr (inl is)) = subst (λ (x : OpErr). IfErr (answer_of x) IsNotTampered) (sym is) refl
not_tampered e (inr (inr is)) = subst (λ (x : OpErr). IfErr (answer_of x) IsNotTampered) (sym is) refl

-- nothing was emitted where the store failed
pub unfinished_none : (labels : List (List ℕ)) (answer : Answer) → Unfinished labels answer []
unfinished_none labels (A.Rows rows) = record { printed = rows; same = Same-refl rows; begun = (_, refl) }
unfinished_none labels other = refl

-- ---- all of it
module _ {R E : Type 0} (state : R → RevState) (grew cut : E → E → List Event → Type 0) (faults : E → ℕ) (starts : (a : E) → grew a a [])
    (old : Engine R) (s s1 : StoreState) (q : SelectTotals) (i : ℕ) (table : Table)
    (agrees : Agrees state old s) (rests : ChangesNothing s s1) (here : IsAt q.table i table old.public.tables)
    (allowed : refusal_now old.public (count_of old s) (TotalsStmt q) ≡ None) where
  abbrev stmt : Stmt
  stmt = TotalsStmt q

  abbrev places : ℕ
  places = buffered old.room.pack old.room.rows

  abbrev cs : Columns
  cs = table.heading.schema

  abbrev was : World
  was = at state old.vault s1

  labels_are : answer_labels stmt old.public ≡ labels_at cs q
  labels_are =
      ap (λ (c : Columns). labels_at c q)
      (ap (λ (o : Option Heading). option_map_or (λ (h : Heading). h.schema) o []) (heading_found q.table old.public.tables i table agrees.tables.names here.get here.named))

  -- its table is flat
  shape : table.heading.shape ≡ FlatShape
  shape =
      shape_found q.table old.public.tables i table agrees.tables.names here.get here.named
      (All-head (λ (name : List ℕ). has_index old.public name ≡ false) q.table [] (names_flat old.public (is_late (count_of old s)) (limits_of old.public) stmt allowed refl))

  beside : (tables : Tables) → Represents state old s tables → Beside old.public.pack q.table table tables (world_of state old s)
  beside tables held = held_at old.public.pack old.indexes.items q.table old.public.tables tables i table (world_of state old s) agrees.tables.names held.held here.get here.named shape

  before : (tables : Tables) (held : Represents state old s tables) → FlatRepresents old.room.pack (flat_of table) (beside tables held).table.held.slots was
  before tables held =
      represents_rests _ s s1 rests old.room.pack (flat_of table) (beside tables held).table.held.slots
      (subst (λ (n : ℕ). FlatRepresents n (flat_of table) (beside tables held).table.held.slots (world_of state old s)) (sym agrees.room.pack) (beside tables held).represents)

  verdict_at : (tables : Tables) (held : Represents state old s tables) → verdict old.public (count_of old s) tables stmt ≡ totalled_answer places cs q (beside tables held).table.held.slots
  verdict_at tables held =
      let x = beside tables held in
      verdict_is old.public (count_of old s) tables q x.table (early_held old.public (count_of old s) stmt tables old.indexes.items (world_of state old s) None held.held allowed) x.found
      ∙ (λ j. totalled_answer (buffered (sym agrees.room.pack j) (sym agrees.room.rows j)) (x.heading j).schema q x.table.held.slots)

  seen_whole : (tables : Tables) (d : Draws) → Represents state old s tables → seen d old.public (count_of old s) tables stmt ≡ seen_to Whole
  seen_whole tables d held = started_seen old.public (count_of old s) stmt allowed tables d old.indexes.items (world_of state old s) refl held.held

  settled_at : (tables : Tables) (d : Draws) → Represents state old s tables → settle d old.public (count_of old s) tables stmt ≡ tables
  settled_at tables d held =
      settle_is old.public tables stmt refl d (count_of old s)
      ∙ followed_same (refusal old.public (count_of old s) tables stmt) tables

  -- what its pass asks, once the store has room
  pub may_total : (flat : Flat) (condition : Condition) → flat ≡ flat_of table → condition ≡ where_at q.cond flat.schema → (n : ℕ) → n ≡ blocks_for old.public.pack flat.capacity → n ≤ s1.spare
      → MayTotal flat condition q old.room was
  may_total flat condition flat_is meant n blocks spare =
      let least = agrees.settings.pack_least in
      let most = agrees.settings.most in
      let pack = agrees.room.pack in
      let rows_are = agrees.room.rows in
      let blocks_are : blocks_for old.room.pack flat.capacity ≡ blocks_for old.public.pack flat.capacity = ap (λ (n : ℕ). blocks_for n flat.capacity) pack in
      let columns_are : columns_at q.table (headings_of old.public.tables) ≡ flat.schema =
      ap (λ (o : Option Heading). option_map_or (λ (h : Heading). h.schema) o []) (heading_found q.table old.public.tables i table agrees.tables.names here.get here.named)
      ∙ sym (ap (λ (f : Flat). f.schema) flat_is) in
      record {
        some = omega (arith, least, pack);
        few = omega (arith, most, rows_are);
        idle = agrees.room.idle;
        spare = record { ready = (went_rests _ s s1 rests none agrees.ready).lasts.ready; spare = omega (arith, spare, blocks, blocks_are) };
        written = read_flat state old s s1 i table agrees rests here.get shape flat flat_is;
        size = read_size state old s s1 i table agrees rests here.get shape flat flat_is;
        meant = meant;
        items = subst (λ (columns : Columns). TotalsFit columns q) columns_are (totals_fit (is_late (count_of old s)) (limits_of old.public) (headings_of old.public.tables) q allowed);
      }

  -- no memory before the first access
  pub serves_none : (out : E)
      → Serves state grew cut faults stmt (Err Stops.NoMemory) old s (engine_after old old.vault old.room old.public.tables (Cut 0) true) s1 out out
  serves_none out =
      let new = engine_after old old.vault old.room old.public.tables (Cut 0) true in
      let same : length s1.asked ≡ length s.asked = ap length rests.asked in
      let ran = ran_no_room state (skeleton stmt) old s s1 old.public.tables agrees rests in
      let early = refused_none (refusal_now old.public (count_of old s) stmt) (Err Stops.NoMemory) new.seen allowed (λ is. absurd (cc is)) in
      record {
        ran = ran;
        early = early;
        lawful = lawful_now old.public (count_of old s) stmt (Err Stops.NoMemory) new.seen s.asked s1.asked refl refl refl (λ is. absurd (cc is)) early ran.asked ran.ends;
        memory = λ is. record { done = []; rest = _; split = refl; asked = rests.asked ∙ sym (append-nil s.asked); place = inl (inl refl) };
        full = λ is. absurd (cc is);
        seals = keeps_rests state old s s1 rests new refl;
        answered = tt;
        stopped = record { events = []; ends = inl (starts out); told = λ tables reads. partly_none _ _ };
        sink = refl;
        emits = λ is. tt;
        means = record {
          told = λ tables d of reads. tt;
          room = λ tables d of reads. tt;
          honest = λ tables reads. refl;
          held = λ tables d of reads. cut_seen false old.public (skeleton stmt) 0 _ _ (seen_whole tables d reads.held) (omega (arith, same));
          full = λ tables d of reads. none_stops old.public tables stmt refl d (count_of old s) _ Stops.NoMemory tt;
          begun = λ tables d of reads. begun_plain state stmt (Err Stops.NoMemory) old s new s1 tables d refl refl ran (seen_whole tables d reads.held) reads.nolie;
        };
      }

  module _ (v : Vault R) (room : RoomState) (t : StoreState) (uses : UsesRoom old.room room) (out_old out_new : E) where
    abbrev now : World
    now = at state v t

    -- its slots, and all that was read is as it was written
    ended_with : (tables : Tables) (held : Represents state old s tables) → t.lie ≡ None → SlotsToEnd old.room.pack (flat_of table) was now
    ended_with tables held nolie = record { slots = (beside tables held).table.held.slots; is = before tables held; nolie = nolie }

    still_held : (tables : Tables) → Represents state old s tables → Lasts none (world_of state old s) now → AreHeld old.public.pack old.indexes.items old.public.tables tables now
    still_held tables held lasts = held_read state old s s1 v room t q.table (flat_map named_by q.items) q.group i table agrees rests uses here tables held.held lasts

    -- it went to its end
    pub serves_done : (outcome : Outcome) → old.ended ≡ false → Totals grew cut faults places old.room.pack (flat_of table) q (Ok outcome) was now out_old out_new
        → Serves state grew cut faults stmt (Ok outcome) old s (engine_after old v room old.public.tables Whole old.ended) t out_old out_new
    unfolding beside ended_with
    serves_done outcome lives totals =
        let new = engine_after old v room old.public.tables Whole old.ended in
        let whole = is_answered outcome totals.whole in
        let went = went_all state old s s1 v room t q.table (flat_map named_by q.items) q.group i table agrees rests uses here totals.ran.ok in
        let ran = read_done state old s s1 v room t q.table (flat_map named_by q.items) q.group i table agrees rests uses here outcome whole totals.ran.ok lives in
        let early = refused_none (refusal_now old.public (count_of old s) stmt) (Ok outcome) new.seen allowed (λ is. absurd (cc is)) in
        let given = totals.emitted in
        record {
          ran = ran;
          early = early;
          lawful = lawful_now old.public (count_of old s) stmt (Ok outcome) new.seen s.asked t.asked refl refl refl (λ is. absurd (cc is)) early ran.asked ran.ends;
          memory = λ is. absurd (cc is);
          full = λ is. absurd (cc is);
          seals = keeps_pass state old s s1 rests agrees new t now refl (λ good accepts. totals.seals.seals good);
          answered = record {
            events = given.events;
            took = given.leads out_old [] (starts out_old);
            emits = subst (λ (l : List (List ℕ)). Emits stmt l outcome given.events) (sym labels_are) given.emits;
            told = λ tables reads.
                told_whole outcome _ _ whole
                (subst (λ (l : List (List ℕ)). Prints l (verdict old.public (count_of old s) tables stmt) given.events) (sym labels_are)
                (subst (λ (a : Answer). Prints (labels_at cs q) a given.events) (sym (verdict_at tables reads.held)) (given.told (ended_with tables reads.held reads.nolie))));
          };
          stopped = tt;
          sink = totals.sink;
          emits = λ is. tt;
          means = record {
            told = λ tables d of reads.
                told_whole outcome _ _ whole (record {
                  answer = totals.told (ended_with tables reads.held reads.nolie) ∙ ap (outcome_of stmt) (sym (verdict_at tables reads.held));
                  seen = sym (seen_whole tables d reads.held);
                  held = subst (λ (ts : Tables). Represents state new t ts) (sym (settled_at tables d reads.held)) (record { held = still_held tables reads.held went.lasts; in_place = reads.held.in_place });
                });
            room = λ tables d of reads. none_room old.public tables stmt refl d (count_of old s) (Ok outcome);
            honest = λ tables reads. tt;
            held = λ tables d of reads. tt;
            full = λ tables d of reads. tt;
            begun = λ tables d of reads. begun_plain state stmt (Ok outcome) old s new t tables d refl refl ran (seen_whole tables d reads.held) reads.nolie;
          };
        }

    -- its pass gave up
    pub serves_cut : (e : OpErr) (n : ℕ) → n ≡ length t.asked - length s.asked → Totals grew cut faults places old.room.pack (flat_of table) q (Err e) was now out_old out_new
        → Serves state grew cut faults stmt (answer_of e) old s (engine_after old v room old.public.tables (Cut n) (is_stop (answer_of e))) t out_old out_new
    serves_cut e n count totals =
        let new = engine_after old v room old.public.tables (Cut n) (is_stop (answer_of e)) in
        let all = cut_after state old s s1 v room t q.table (flat_map named_by q.items) q.group i table agrees rests uses here e totals.ran.err in
        let ran = read_cut state old s s1 v room t q.table (flat_map named_by q.items) q.group i table agrees rests uses here e n totals.ran.err count in
        let early = refused_none (refusal_now old.public (count_of old s) stmt) (answer_of e) new.seen allowed (λ is. absurd (cc is)) in
        let given = totals.halted in
        record {
          ran = ran;
          early = early;
          lawful = lawful_now old.public (count_of old s) stmt (answer_of e) new.seen s.asked t.asked refl refl refl (λ is. absurd (cc is)) early ran.asked ran.ends;
          memory = λ is.
              let went = went_all state old s s1 v room t q.table (flat_map named_by q.items) q.group i table agrees rests uses here (totals.after (ap Err (only_memory e is))) in
              record {
                done = reads state old s s1 v room t q.table (flat_map named_by q.items) q.group i table agrees rests uses here;
                rest = [];
                split = append-nil _ ∙ sym (reads_is state old s s1 v room t q.table (flat_map named_by q.items) q.group i table agrees rests uses here (Cut n));
                asked = went.did.asked;
                place = inr (inr (refl, given_up grew cut given.events out_old out_new (starts out_old) e (only_memory e is) given.ends));
              };
          full = λ full. absurd (no_access e (ap stops_access full));
          seals = keeps_pass state old s s1 rests agrees new t now refl (λ good accepts. totals.seals.seals good);
          answered = if_failed _ e (λ is. record {
            events = [];
            took = subst (λ (o : E). grew out_old o []) (sym (totals.failed (ap Err is))) (starts out_old);
            emits = refl;
            told = λ tables reads. unfinished_none _ _;
          });
          stopped = on_stop grew cut (λ stop. Stopped state grew cut stmt stop old s new t out_old out_new) given.events out_old out_new (starts out_old) e given.ends (λ stop ends. record {
            events = given.events;
            ends = ends;
            told = λ tables reads.
                let x = beside tables reads.held in
                let held = before tables reads.held in
                let none_before : s1.lie ≡ None = rests.lie ∙ lie_none none (world_of state old s) now all.lasts reads.calm reads.unfit in
                subst (λ (l : List (List ℕ)). Partly l (verdict old.public (count_of old s) tables stmt) given.events) (sym labels_are)
                (subst (λ (a : Answer). Partly (labels_at cs q) a given.events) (sym (verdict_at tables reads.held))
                (given.told (record { slots = x.table.held.slots; is = held; nolie = none_before; unfit = reads.unfit })));
          });
          sink = sink_of e (faults out_old) (faults out_new) totals.sink;
          emits = λ is. tt;
          means = record {
            told = λ tables d of reads. if_failed _ e (λ is. record {
              unindexed = refl;
              seen = cut_seen true old.public (skeleton stmt) n _ _ (seen_whole tables d reads.held) count;
              held = record { held = still_held tables reads.held all.lasts; in_place = reads.held.in_place };
            });
            room = λ tables d of reads. none_room old.public tables stmt refl d (count_of old s) (answer_of e);
            honest = λ tables reads. not_tampered e (totals.told (ended_with tables reads.held reads.nolie));
            full = λ tables d of reads. pass_stops old.public tables stmt refl d (count_of old s) _ e;
            held = λ tables d of reads. if_stop _ e (λ stop. cut_seen (is_refused stop) old.public (skeleton stmt) n _ _ (seen_whole tables d reads.held) count);
            begun = λ tables d of reads. begun_plain state stmt (answer_of e) old s new t tables d refl refl ran (seen_whole tables d reads.held) reads.nolie;
          };
        }
