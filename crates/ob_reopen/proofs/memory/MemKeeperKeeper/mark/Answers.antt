use Rattle.std.proofs.Common.{Some, ap}
use Rattle.std.proofs.lemmas.Result.{err_from_is_err_and}
use Rattle.ob_reopen.proofs.memory.MemKeeperKeeper.mark.Goals as goal

pub returns-in_err-call-clause-gives : goal.returns-in_err-call-clause-gives
returns-in_err-call-clause-gives c =
    let p = err_from_is_err_and c.from_residual.result c.from_residual.ensures.1 in
    let held = c.call.ensures.mark in
    rw (p.1) (record {
      cause = c.in_err-call.ensures.cause;
      faults = c.call.ensures.faults;
      within = tt;
      told = tt;
      stays = ap Some held;
      drawn = c.call.ensures.calls.drawn;
    })
