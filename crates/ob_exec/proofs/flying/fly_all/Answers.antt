use Rattle.ob_exec.proofs.Words.{ap, arith, at_ok, Bool, count_of, engine_behind, Err, flight_kind, flight_progress, length, List, map, nat_le, RanFlight, rests_refl, Seen, subst, sym, true, world_of, ℕ, ◌*◌, ◌+◌, ◌-◌, ◌^◌, ◌∙◌, ◌≡◌, ◌≤◌}
use Rattle.std.proofs.Common.{◌/◌}
use Rattle.std.specs.List.{All}
use Rattle.std.proofs.lemmas.List.{take_at}
use Rattle.ob_stages.specs.declared.flight.Flight.{Flight}
use Rattle.ob_tables.specs.declared.stop.RunStop.TheVariants as Stops
use Rattle.ob_exec.specs.Boarding.{AreAboard, MaySetOff, seen_first}
use Rattle.ob_exec.specs.InFlight.{FliesBy}
use Rattle.ob_exec.specs.RanFlight.{halted}
use Rattle.ob_exec.proofs.BoardOne.{late_same}
use Rattle.ob_exec.proofs.FlightBoards.{booked_most, may_fly_by, may_set_off, rows_fit}
use Rattle.ob_exec.proofs.FlightFlown.{flies_by}
use Rattle.ob_exec.proofs.FlightNothing.{flight_unasked}
use Rattle.ob_exec.proofs.flying.fly_all.Goals as goal

pub overflow_sub-share : goal.overflow_sub-share
overflow_sub-share g c =
    let by = may_fly_by g.R.Revisions.state c.args.engine.now (g.S.BlockStore.state c.args.store.now) c.args.stmts.now c.requires.agrees c.requires.flight in
    omega (arith, by.share, c.from-pack.ensures)

pub board_all-requires-clause-settings : goal.board_all-requires-clause-settings
board_all-requires-clause-settings g c = may_fly_by g.R.Revisions.state c.args.engine.now (g.S.BlockStore.state c.args.store.now) c.args.stmts.now c.requires.agrees c.requires.flight

pub board_all-requires-clause-fly : goal.board_all-requires-clause-fly
board_all-requires-clause-fly g c =
    let m = count_of c.args.engine.now (g.S.BlockStore.state c.args.store.now) in
    subst (λ (late : Bool). All (FliesBy late c.args.engine.now.public) c.args.stmts.now) (sym (late_same m c.spent-late.result c.spent-late.ensures)) c.requires.flight.each

pub returns-in_default-clause-ran : goal.returns-in_default-clause-ran
returns-in_default-clause-ran g c =
    let old = c.args.engine.now in
    let s = g.S.BlockStore.state c.args.store.now in
    let stmts = c.args.stmts.now in
    let seens = c.see_first.ensures ∙ ap (λ (late : Bool). map (seen_first late old.public) stmts) (late_same (count_of old s) c.spent-late.result c.spent-late.ensures) in
    subst (λ (xs : List Seen). RanFlight {T = Unit {0}} g.R.Revisions.state g.E.Emit.grew g.E.Emit.cut g.E.FlightOut.closed g.E.FlightOut.parted g.E.Emit.faults (g.T.Turns.word c.args.turns.now)
    (g.T.Turns.word c.args.turns.now) stmts xs (Err Stops.NoMemory) old s (engine_behind old old.vault old.room true) s c.args.out.now c.args.out.now) (sym seens)
    (flight_unasked g.R.Revisions.state g.E.Emit.grew g.E.Emit.cut g.E.FlightOut.closed g.E.FlightOut.parted g.E.Emit.faults g.met.E.Emit.starts old s s c.requires.agrees (rests_refl s) stmts c.requires.flight
    (g.T.Turns.word c.args.turns.now) (g.T.Turns.word c.args.turns.now) c.args.out.now)

pub booked_by-requires : goal.booked_by-requires
booked_by-requires g c =
    let by = may_fly_by g.R.Revisions.state c.args.engine.now (g.S.BlockStore.state c.args.store.now) c.args.stmts.now c.requires.agrees c.requires.flight in
    booked_most (nat_le (2 ^ 63) c.spent-late.result) (length c.args.stmts.now) c.args.engine.now.public c.args.stmts.now c.deref.result.now
    (subst (λ (fs : List Flight). AreAboard (nat_le (2 ^ 63) c.spent-late.result) (length c.args.stmts.now) c.args.engine.now.public c.args.stmts.now fs) (sym c.deref.ensures.value) c.in-Ok.ensures) by.few

pub returns-then-is_err-clause-ran : goal.returns-then-is_err-clause-ran
returns-then-is_err-clause-ran g c =
    let old = c.args.engine.now in
    let s = g.S.BlockStore.state c.args.store.now in
    let s1 = g.S.BlockStore.state c.reserve.new.self in
    let stmts = c.args.stmts.now in
    let seens = c.see_first.ensures ∙ ap (λ (late : Bool). map (seen_first late old.public) stmts) (late_same (count_of old s) c.spent-late.result c.spent-late.ensures) in
    subst (λ (xs : List Seen). RanFlight {T = Unit {0}} g.R.Revisions.state g.E.Emit.grew g.E.Emit.cut g.E.FlightOut.closed g.E.FlightOut.parted g.E.Emit.faults (g.T.Turns.word c.args.turns.now)
    (g.T.Turns.word c.args.turns.now) stmts xs (Err Stops.NoMemory) old s (engine_behind old old.vault old.room true) s1 c.args.out.now c.args.out.now) (sym seens)
    (flight_unasked g.R.Revisions.state g.E.Emit.grew g.E.Emit.cut g.E.FlightOut.closed g.E.FlightOut.parted g.E.Emit.faults g.met.E.Emit.starts old s s1 c.requires.agrees c.reserve.ensures.rests stmts c.requires.flight
    (g.T.Turns.word c.args.turns.now) (g.T.Turns.word c.args.turns.now) c.args.out.now)

pub fly_in_room-flown-requires-clause-rows : goal.fly_in_room-flown-requires-clause-rows
fly_in_room-flown-requires-clause-rows g c =
    let old = c.args.engine.now in
    let by = may_fly_by g.R.Revisions.state old (g.S.BlockStore.state c.args.store.now) c.args.stmts.now c.requires.agrees c.requires.flight in
    let n = length c.args.stmts.now in
    let buffer = old.public.buffer in
    let several = by.several in
    let fit = rows_fit n old.public.pack buffer (omega (arith, several)) by.settings.pack_least by.share in
    let size : length c.deref_mut.result.now ≡ n = ap length c.deref_mut.ensures.value ∙ c.in-Ok.ensures.size in
    let from = c.from-pack.ensures in
    subst (λ (m : ℕ). m ≤ old.room.rows)
    (λ i. sym c.requires.agrees.room.pack i + sym size i * ((buffer / n - 2 * sym from i) / sym from i * sym from i))
    (let rows = c.requires.agrees.room.rows in omega (arith, fit, rows))

pub fly_in_room-flown-requires-clause-boarded : goal.fly_in_room-flown-requires-clause-boarded
fly_in_room-flown-requires-clause-boarded g c =
    let state = g.R.Revisions.state in
    let old = c.args.engine.now in
    let s = g.S.BlockStore.state c.args.store.now in
    let s1 = g.S.BlockStore.state c.reserve.new.self in
    let stmts = c.args.stmts.now in
    let n = length stmts in
    let buffer = old.public.buffer in
    let flights = c.deref_mut.result.now in
    let late = late_same (count_of old s) c.spent-late.result c.spent-late.ensures in
    let aboard = subst (λ (b : Bool). AreAboard b n old.public stmts flights) late
    (subst (λ (fs : List Flight). AreAboard (nat_le (2 ^ 63) c.spent-late.result) n old.public stmts fs) (sym c.deref_mut.ensures.value) c.in-Ok.ensures) in
    let spare = at_ok c.reserve.result _ (sym c.is_err.ensures.value ∙ c.if-is_err.false) c.reserve.ensures.spare in
    let same : c.deref.result.now ≡ flights = c.deref.ensures.value ∙ sym c.deref_mut.ensures.value in
    let booked = c.booked_by.ensures ∙ ap (λ (fs : List Flight). Rattle.ob_inflight.specs.AfterTurns.booked_by flight_kind fs) same in
    let from = c.from-pack.ensures in
    subst (λ (pack : ℕ). MaySetOff flight_kind pack ((buffer / n - 2 * c.from-pack.result) / c.from-pack.result * c.from-pack.result) flights (world_of state old s1)) (sym c.requires.agrees.room.pack)
    (subst (λ (share : ℕ). MaySetOff flight_kind old.public.pack share flights (world_of state old s1)) (λ i. (buffer / n - 2 * sym from i) / sym from i * sym from i)
    (may_set_off state old s s1 c.requires.agrees c.reserve.ensures.rests stmts c.requires.flight flights aboard (omega (arith, booked, spare))))

pub returns-clause-ran : goal.returns-clause-ran
returns-clause-ran g c =
    let state = g.R.Revisions.state in
    let old = c.args.engine.now in
    let s = g.S.BlockStore.state c.args.store.now in
    let s1 = g.S.BlockStore.state c.reserve.new.self in
    let t = g.S.BlockStore.state c.fly_in_room-flown.new.store in
    let stmts = c.args.stmts.now in
    let n = length stmts in
    let buffer = old.public.buffer in
    let flights = c.deref_mut.result.now in
    let fs = c.fly_in_room-flown.new.flyers in
    let share = (buffer / n - 2 * c.from-pack.result) / c.from-pack.result * c.from-pack.result in
    let aboard = subst (λ (b : Bool). AreAboard b n old.public stmts flights) (late_same (count_of old s) c.spent-late.result c.spent-late.ensures)
    (subst (λ (fs : List Flight). AreAboard (nat_le (2 ^ 63) c.spent-late.result) n old.public stmts fs) (sym c.deref_mut.ensures.value) c.in-Ok.ensures) in
    let seens : c.see_all.new.seens ≡ map (λ (f : Flight). (flight_progress f).served.seen) fs =
    c.see_all.ensures ∙ ap (map (λ (f : Flight). (flight_progress f).served.seen)) (c.deref-2.ensures.value ∙ take_at fs _ c.in-Ok.flights.len (c.fly_in_room-flown.ensures.size ∙ c.deref_mut.ensures.len)) in
    let v = c.fly_in_room-flown.new.vault in
    let room = c.fly_in_room-flown.new.room in
    let result = c.fly_in_room-flown.result in
    subst (λ (xs : List Seen). RanFlight {T = Unit {0}} state g.E.Emit.grew g.E.Emit.cut g.E.FlightOut.closed g.E.FlightOut.parted g.E.Emit.faults (g.T.Turns.word c.args.turns.now)
    (g.T.Turns.word c.fly_in_room-flown.new.turns) stmts xs (halted result) old s (engine_behind old v room (Rattle.std.specs.Result.is_err result)) t c.args.out.now c.fly_in_room-flown.new.out) (sym seens)
    (flies_by state g.E.Emit.grew g.E.Emit.cut g.E.FlightOut.closed g.E.FlightOut.parted g.E.Emit.faults old s s1 c.requires.agrees c.reserve.ensures.rests stmts c.requires.flight flights fs aboard
    (g.T.Turns.word c.args.turns.now) (g.T.Turns.word c.fly_in_room-flown.new.turns) share (length flights * share) v room t c.fly_in_room-flown.ensures.room c.args.out.now c.fly_in_room-flown.new.out
    result c.fly_in_room-flown.ensures.flown c.fly_in_room-flown.ensures.stopped c.fly_in_room-flown.ensures.sink)
