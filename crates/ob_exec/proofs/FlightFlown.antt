-- What SELECTs in flight do, from how they set off and what their turns came to.
use Rattle.ob_exec.proofs.Words.{Agrees, ap, arith, at, ChangesNothing, count_of, Engine, engine_behind, Err, Event, false, flight_kind, flight_progress, halt_of, IfErr, is_late, IsFree, length, List, map, Ok, OnOk, OpErr, Outcome, RanFlight, Result, RevState, RoomState, SinkCause, Stmt, StoreState, taker_of, true, Vault, world_of, ℕ, ◌+◌, ◌≡◌, ◌≤◌}
use Rattle.std.proofs.Common.{max}
use Rattle.std.specs.Result.{is_err}
use Rattle.ob_inflight.specs.FlightOutcome.{HasFlown, StopsFlight}
use Rattle.ob_inflight.specs.Kinds.{moment}
use Rattle.ob_script.proofs.Steady.{all_steady}
use Rattle.ob_select.proofs.RoomLemmas.{free_after}
use Rattle.ob_stages.specs.declared.flight.Flight.{Flight}
use Rattle.ob_exec.specs.Boarding.{AreAboard}
use Rattle.ob_exec.specs.InFlight.{AreFlight}
use Rattle.ob_exec.specs.RanFlight.{halted}
use Rattle.ob_exec.proofs.FlightBoards.{boards}
use Rattle.ob_exec.proofs.FlightEnd.{flight_ended}
use Rattle.ob_exec.proofs.FlightHalted.{flight_halted}
use Rattle.ob_exec.proofs.StageKinds.{flight_stage}

module _ {R E : Type 0} (state : R → RevState) (grew cut : E → E → List Event → Type 0) (closed parted : E → E → ℕ → Outcome → Type 0) (faults : E → ℕ)
    (old : Engine R) (s s1 : StoreState) (agrees : Agrees state old s) (rests : ChangesNothing s s1) (stmts : List Stmt) (flown : AreFlight old.public (count_of old s) stmts)
    (flights fs : List Flight) (aboard : AreAboard (is_late (count_of old s)) (length stmts) old.public stmts flights) (words left : ℕ → ℕ) (share rows : ℕ)
    (v : Vault R) (room : RoomState) (t : StoreState) (room_is : room ≡ record old.room { high = max old.room.high (old.room.pack + rows) }) (out_old out_new : E) where
  free : IsFree old.public room
  free = free_after old.public old.room room (max old.room.high (old.room.pack + rows)) agrees.room room_is

  high_is : room.high ≡ max old.room.high (old.room.pack + rows)
  high_is = ap (λ (r : RoomState). r.high) room_is

  high_kept : old.room.high ≤ room.high
  high_kept = let is = high_is in omega (arith, is)

  high_some : 1 ≤ room.high
  high_some = let is = high_is in let pack = agrees.room.pack in let least = agrees.settings.pack_least in omega (arith, is, pack, least)

  flies_well : {T : Type 0} (x : T) → ((shares kept : List (List ℕ)) × HasFlown flight_kind (taker_of grew cut closed parted) words left share (moment flights shares (world_of state old s1)) (moment fs kept (at state v t)) out_old out_new)
      → faults out_new ≡ faults out_old
      → RanFlight {T = T} state grew cut closed parted faults words left stmts (map (λ (f : Flight). (flight_progress f).served.seen) fs) (Ok x) old s (engine_behind old v room false) t out_old out_new
  flies_well x (shares, kept, has) quiet =
      flight_ended state grew cut closed parted faults flight_kind old s s1 agrees rests (flight_stage (count_of old s)) all_steady stmts words left share flights fs shares kept v room t free
      (boards state old s s1 agrees rests stmts flown flights aboard shares) out_old out_new has x quiet high_kept high_some

  flies_ill : {T : Type 0} (e : OpErr) → ((shares kept : List (List ℕ)) × StopsFlight flight_kind (taker_of grew cut closed parted) words share e (moment flights shares (world_of state old s1)) (moment fs kept (at state v t)) out_old out_new)
      → SinkCause {T = T} (Err e) (faults out_old) (faults out_new)
      → RanFlight {T = T} state grew cut closed parted faults words left stmts (map (λ (f : Flight). (flight_progress f).served.seen) fs) (Err (halt_of e)) old s (engine_behind old v room true) t out_old out_new
  flies_ill {T} e (shares, kept, has) sink =
      flight_halted state grew cut closed parted faults flight_kind old s s1 agrees rests (flight_stage (count_of old s)) all_steady stmts words left share e flights fs shares kept v room t free
      (boards state old s s1 agrees rests stmts flown flights aboard shares) out_old out_new has T sink high_kept high_some

  pub flies_by : {T : Type 0} (result : Result T OpErr)
      → OnOk result ((shares kept : List (List ℕ)) × HasFlown flight_kind (taker_of grew cut closed parted) words left share (moment flights shares (world_of state old s1)) (moment fs kept (at state v t)) out_old out_new)
      → IfErr result (λ e. (shares kept : List (List ℕ)) × StopsFlight flight_kind (taker_of grew cut closed parted) words share e (moment flights shares (world_of state old s1)) (moment fs kept (at state v t)) out_old out_new)
      → SinkCause result (faults out_old) (faults out_new)
      → RanFlight {T = T} state grew cut closed parted faults words left stmts (map (λ (f : Flight). (flight_progress f).served.seen) fs) (halted result) old s (engine_behind old v room (is_err result)) t out_old out_new
  flies_by (Ok x) has stops sink = flies_well x has sink
  flies_by {T} (Err e) has stops sink = flies_ill {T = T} e stops sink
