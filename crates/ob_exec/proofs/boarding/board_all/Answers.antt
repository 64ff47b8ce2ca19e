use Rattle.ob_exec.proofs.Words.{ap, arith, inl, inr, IsAboard, length, length-append, List, slice_get, Stmt, subst, sym, [], ◌∙◌, ◌∷◌}
use Rattle.std.proofs.lemmas.Option.{get_or_from_slice_get}
use Rattle.ob_stages.specs.declared.flight.Flight.{Flight}
use Rattle.ob_exec.specs.InFlight.{FliesBy}
use Rattle.ob_exec.proofs.FlightLists.{get_more}
use Rattle.ob_exec.proofs.boarding.board_all.Goals as goal

pub board-requires-clause-flies : goal.board-requires-clause-flies
board-requires-clause-flies c =
    subst (λ (stmt : Stmt). FliesBy c.args.late c.args.public.now stmt) (sym c.stmt-item.is) (c.requires.fly c.loop-stmt.stmt-index c.stmt-item.result c.loop-stmt-test.true)

pub loop-stmt-preserved : goal.loop-stmt-preserved
loop-stmt-preserved c =
    let before = c.loop-stmt.invariant in
    let stmts = c.args.stmts.now in
    let flights = c.loop-stmt.flights.items in
    let pushed = c.in-Ok-push.ensures.items in
    record {
      size = let long = ap length pushed ∙ length-append flights (c.in-Ok.flight ∷ []) in let size = before.size in omega (arith, long, size);
      each = λ i stmt f there at. elim (get_more flights c.in-Ok.flight i f (ap (λ (l : List Flight). slice_get l i) (sym pushed) ∙ at)) [
        | inl old ↦ before.each i stmt f there old
        | inr new ↦
            let is = c.stmt-item.is ∙ get_or_from_slice_get stmts c.loop-stmt.stmt-index stmt c.stmt-item.result (ap (slice_get stmts) (sym (new.0 ∙ before.size)) ∙ there) in
            subst (λ (x : Flight). IsAboard c.args.late (length stmts) c.args.public.now stmt x) new.1
            (subst (λ (x : Stmt). IsAboard c.args.late (length stmts) c.args.public.now x c.in-Ok.flight) is c.in-Ok.ensures)
      ];
    }
