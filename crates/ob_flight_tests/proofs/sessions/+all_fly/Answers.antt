use Rattle.std.proofs.Common.{rules, ◌≡◌, ◌∷◌, sym, subst}
use Rattle.std.proofs.lemmas.List.Elements.{All-cons}
use Rattle.std.specs.List.{All}
use Rattle.ob_exec.specs.InFlight.{FliesBy}
use Rattle.ob_flight_tests.proofs.sessions.+all_fly.Goals as goal

pub returns-then-flies : goal.returns-then-flies
returns-then-flies t c = λ all late.
    let flies = FliesBy late c.args.public.now in
    let split : c.args.stmts.now ≡ c.in-Some.stmt.now ∷ c.in-Some.stmts.now = search rules in
    subst (All flies) (sym split)
    (All-cons flies c.in-Some.stmt.now c.in-Some.stmts.now (c.flies.ensures c.if-flies.true late) (c.all_fly.ensures all late))
