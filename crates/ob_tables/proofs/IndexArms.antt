-- How a statement on an index is served, by the arms of its access.
use Rattle.ob_tables.proofs.Words.{Agrees, answer_of, Columns, count_of, draw_at, DrawPlace, EmitErr, EmitsGot, Engine, Err, Event, false, Global, Got, got_in, got_outcome, Index, is_stop, IsAccessed, IsDone, Keyed, length, List, None, Ok, OpErr, OramErr, Outcome, refusal_now, RevState, RoomState, RunStop, Seen, seen_cut, seen_whole, Serves, Stmt, stop_of, StoreState, subst, sym, true, Vault, Vec, ℕ, [], ◌%◌, ◌+◌, ◌-◌, ◌^◌, ◌≡◌}
use Rattle.ob_store.specs.Calls.{ChangesNothing}
use Rattle.ob_vault.specs.Places.{at}
use Rattle.ob_tables.specs.Stops.{error_of}
use Rattle.ob_tables.proofs.IndexEmits.{answered_got}
use Rattle.ob_tables.proofs.IndexHalts.{serves_halted}
use Rattle.ob_tables.proofs.IndexServed.{serves_access, serves_stop}
use Rattle.ob_tables.proofs.RunLemmas.{engine_left}

module _ {R : Type 0} (state : R → RevState) (stmt : Stmt) (old : Engine R) (s s1 : StoreState) (v : Vault R) (room : RoomState) (t : StoreState) (k draw : ℕ) (keyed : Keyed) (indexes : Vec Index Global) (draws : DrawPlace)
    (agrees : Agrees state old s) (rests : ChangesNothing s s1) (now : refusal_now old.public (count_of old s) stmt ≡ None)
    (accessed : IsAccessed stmt k old.public.tables old.indexes.items)
    (done : IsDone stmt k draw keyed old.indexes.items indexes.items old.room room (at state old.vault s1) (at state v t))
    (drew : draw ≡ draw_at old.draws.key old.draws.next) (next : draws ≡ record old.draws { next = (old.draws.next + 1) % 2 ^ 67 })
    {E : Type 0} (grew cut : E → E → List Event → Type 0) (faults : E → ℕ) (starts : (a : E) → grew a a []) (out_old out_new : E) where
  -- it went to its end, and its answer was emitted
  pub arm_whole : (got : Got) → keyed.result ≡ Ok got → old.ended ≡ false → (columns : Columns) → columns ≡ done.before.schema
      → EmitsGot {T = Unit {0}} grew cut faults stmt columns (got_in got) (Ok tt) out_old out_new → (seen : Seen) → seen ≡ seen_whole keyed.leaf → (outcome : Outcome) → outcome ≡ got_outcome stmt (got_in got)
      → Serves state grew cut faults stmt (Ok outcome) old s (engine_left old indexes draws v room old.public.tables seen old.ended) t out_old out_new
  arm_whole got answers lives columns columns_are emits seen seen_is outcome outcome_is =
      let emitted = subst (λ (cs : Columns). EmitsGot {T = Unit {0}} grew cut faults stmt cs (got_in got) (Ok tt) out_old out_new) columns_are emits in
      let answered = answered_got state stmt old s s1 v room t k draw keyed indexes draws agrees rests now accessed done drew got answers grew starts out_old out_new cut faults emitted in
      let serves = serves_access state stmt old s s1 v room t k draw keyed indexes draws agrees rests now accessed done drew next got answers lives grew cut faults out_old out_new answered.0 answered.1 in
      subst (λ (o : Outcome). Serves state grew cut faults stmt (Ok o) old s (engine_left old indexes draws v room old.public.tables seen old.ended) t out_old out_new) (sym outcome_is)
      (subst (λ (n : Seen). Serves state grew cut faults stmt (Ok (got_outcome stmt (got_in got))) old s (engine_left old indexes draws v room old.public.tables n old.ended) t out_old out_new) (sym seen_is) serves)

  -- its emitter gave up
  pub arm_halted : (got : Got) → keyed.result ≡ Ok got → (n : ℕ) → n ≡ length t.asked - length s.asked → (columns : Columns) → columns ≡ done.before.schema
      → (error : EmitErr) → EmitsGot {T = Unit {0}} grew cut faults stmt columns (got_in got) (Err error) out_old out_new → (seen : Seen) → seen ≡ seen_cut old.public.stash keyed.leaf n → (made : OpErr) → made ≡ error_of error
      → Serves state grew cut faults stmt (answer_of made) old s (engine_left old indexes draws v room old.public.tables seen (is_stop (answer_of made))) t out_old out_new
  arm_halted got answers n count columns columns_are error emits seen seen_is made made_is =
      let emitted = subst (λ (cs : Columns). EmitsGot {T = Unit {0}} grew cut faults stmt cs (got_in got) (Err error) out_old out_new) columns_are emits in
      let serves = serves_halted state stmt old s s1 v room t k draw keyed indexes draws agrees rests now accessed done drew next got answers n count grew cut faults starts out_old out_new error emitted in
      subst (λ (e : OpErr). Serves state grew cut faults stmt (answer_of e) old s (engine_left old indexes draws v room old.public.tables seen (is_stop (answer_of e))) t out_old out_new) (sym made_is)
      (subst (λ (x : Seen). Serves state grew cut faults stmt (answer_of (error_of error)) old s (engine_left old indexes draws v room old.public.tables x (is_stop (answer_of (error_of error)))) t out_old out_new) (sym seen_is) serves)

  -- it gave up
  pub arm_stopped : (e : OramErr) → keyed.result ≡ Err e → (n : ℕ) → n ≡ length t.asked - length s.asked → (seen : Seen) → seen ≡ seen_cut old.public.stash keyed.leaf n → (stop : RunStop) → stop ≡ stop_of e
      → Serves state grew cut faults stmt (Err stop) old s (engine_left old indexes draws v room old.public.tables seen true) t out_old out_old
  arm_stopped e stops n count seen seen_is stop stop_is =
      let serves = serves_stop state stmt old s s1 v room t k draw keyed indexes draws agrees rests now accessed done drew next e stops n count grew cut faults out_old (starts out_old) in
      subst (λ (x : RunStop). Serves state grew cut faults stmt (Err x) old s (engine_left old indexes draws v room old.public.tables seen true) t out_old out_old) (sym stop_is)
      (subst (λ (x : Seen). Serves state grew cut faults stmt (Err (stop_of e)) old s (engine_left old indexes draws v room old.public.tables x true) t out_old out_old) (sym seen_is) serves)
