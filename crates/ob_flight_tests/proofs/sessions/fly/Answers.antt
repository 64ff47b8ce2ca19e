use Rattle.std.proofs.Common.{◌≤◌, length, subst}
use Rattle.std.specs.List.{All}
use Rattle.ob_base.specs.declared.config.Public.{Public}
use Rattle.ob_exec.specs.InFlight.{FliesBy, flight_most}
use Rattle.ob_mean.specs.Verdict.{is_late}
use Rattle.ob_tables.specs.Agreeing.{count_of}
use Rattle.ob_flight_tests.proofs.sessions.fly.Goals as goal

pub run_flight-requires-clause-flight : goal.run_flight-requires-clause-flight
run_flight-requires-clause-flight g c =
    let stmts = c.args.stmts.now in
    let late = is_late (count_of c.args.engine.now (g.S.BlockStore.state c.args.store.now)) in
    let few = c.are_few.ensures c.if-not-are_few.false in
    record {
      each = subst (λ (p : Public). All (FliesBy late p) stmts) c.public-public.ensures
          (c.all_fly.ensures c.if-not-all_fly.false late);
      some = few.0;
      few = subst (λ (p : Public). length stmts ≤ flight_most p) c.public-public.ensures few.1;
    }
