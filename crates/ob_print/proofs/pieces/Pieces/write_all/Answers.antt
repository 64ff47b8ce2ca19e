use Rattle.std.proofs.Common.{◌≡◌, [], ◌++◌, false, true, refl, ◌∙◌, arith}
use Rattle.ob_print.specs.Sent.{sends_none}
use Rattle.ob_print.proofs.CutLemmas.{Outputs-by, Outputs-fault}
use Rattle.ob_print.proofs.SentLemmas.{Sends-lose, Sends-step, rest_behind}
use Rattle.ob_print.proofs.pieces.Pieces.write_all.Goals as goal

pub loop-rest-init : goal.loop-rest-init
loop-rest-init g c = record {
  so_far = ([], refl, sends_none _ _);
  same_sink = refl;
  faults = refl;
  late = λ few. (refl, few);
}

pub returns-in_err-flush-clause-sends : goal.returns-in_err-flush-clause-sends
returns-in_err-flush-clause-sends g c =
    let before = c.loop-rest.invariant.so_far in
    let failed = c.from_residual.ensures.0 in
    let all = rest_behind c.args.piece.now before.0 c.loop-rest.rest.now c.split_at.result.0.now c.split_at.result.1.now _ before.1 c.split_at.ensures.front c.split_at.ensures.back in
    Sends-lose c.args.piece.now _ c.split_at.result.1.now all
    (Sends-step before.0 c.split_at.result.0.now before.2 c.in-Ok.ensures.ok (Outputs-fault failed c.flush.ensures.cut) c.flush.ensures.empty) failed

pub loop-rest-preserved : goal.loop-rest-preserved
loop-rest-preserved g c =
    let before = c.loop-rest.invariant in
    let so_far = before.so_far in
    record {
      so_far = (
        so_far.0 ++ c.split_at.result.0.now,
        rest_behind c.args.piece.now so_far.0 c.loop-rest.rest.now c.split_at.result.0.now c.split_at.result.1.now _ so_far.1 c.split_at.ensures.front c.split_at.ensures.back,
        Sends-step so_far.0 c.split_at.result.0.now so_far.2 c.in-Ok.ensures.ok (Outputs-by (λ (h : false ≡ true). absurd (cc)) c.in_ok-flush.ensures.cut) c.flush.ensures.empty,
      );
      same_sink = c.flush.ensures.same_sink ∙ before.same_sink;
      faults = c.in_ok-flush.ensures.cause.kept ∙ before.faults;
      late = λ few. let fits = (before.late few).1 in absurd (omega arith);
    }
