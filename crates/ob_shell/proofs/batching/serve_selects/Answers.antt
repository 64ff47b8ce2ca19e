use Rattle.ob_shell.proofs.Words.{arith, count_of, flights_of, length, machine_of, public_of}
use Rattle.ob_shell.proofs.FlightTakes.{are_flight, first_at, first_may, flight_served, flown_few, only_one, single_begins}
use Rattle.ob_shell.proofs.TakesLemmas.{single_served}
use Rattle.ob_shell.proofs.batching.serve_selects.Goals as goal

pub serve_flight-requires : goal.serve_flight-requires
serve_flight-requires g c =
    let p = public_of c.args.engine.now in
    let stmts = c.args.stmts.now in
    let flown = c.requires.flown.1 in
    record {
      agrees = c.requires.ready.agrees;
      lives = c.requires.ready.lives;
      flight = are_flight p (count_of c.args.engine.now (g.S.BlockStore.state c.args.store.now)) stmts flown.fly (omega (arith, c.if-stmts-ge2.true)) (flown_few c.requires.flown.0 p (length stmts) flown.few);
      took = c.requires.took;
    }

pub returns-then-stmts-ge2-clause-serves : goal.returns-then-stmts-ge2-clause-serves
returns-then-stmts-ge2-clause-serves g c = λ settings flown.
    flight_served g.R.Revisions.state (g.B.Commit.Saves c.args.commit.now) c.args.tracing settings c.args.turns.now.last c.serve_flight.new.turns.last c.args.stmts.now c.args.tally c.args.engine.now c.serve_flight.new.engine (g.S.BlockStore.state c.args.store.now) (g.S.BlockStore.state c.serve_flight.new.store) (g.B.Commit.state c.args.commit.now)
    (omega (arith, c.if-stmts-ge2.true)) flown c.requires.ready c.serve_flight.result c.serve_flight.ensures.runs c.serve_flight.ensures.traced c.serve_flight.ensures.traced_stop

pub serve_stmt-requires : goal.serve_stmt-requires
serve_stmt-requires g c = record {
  alone = single_begins (public_of c.args.engine.now) (count_of c.args.engine.now (g.S.BlockStore.state c.args.store.now)) c.index-stmts-0.result (first_may (public_of c.args.engine.now) c.args.stmts.now c.index-stmts-0.result c.requires.flown.1.fly (first_at c.args.stmts.now c.index-stmts-0.result c.requires.some c.index-stmts-0.is));
  ready = c.requires.ready;
  took = c.requires.took;
}

pub returns-clause-serves : goal.returns-clause-serves
returns-clause-serves g c = λ settings flown.
    let one = c.index-stmts-0.result in
    let may = first_may (public_of c.args.engine.now) c.args.stmts.now one flown.fly (first_at c.args.stmts.now one c.requires.some c.index-stmts-0.is) in
    let there = g.S.BlockStore.state c.args.store.now in
    rw (only_one c.args.stmts.now one (omega (arith, c.if-stmts-ge2.false)) (first_at c.args.stmts.now one c.requires.some c.index-stmts-0.is))
    (single_served {m0 = machine_of c.args.engine.now there (g.B.Commit.state c.args.commit.now) (flights_of settings c.args.turns.now.last)} one c.args.tally c.serve_stmt.result may (c.serve_stmt.ensures.serves (flights_of settings c.args.turns.now.last)) c.serve_stmt.ensures.traced c.serve_stmt.ensures.traced_stop)
