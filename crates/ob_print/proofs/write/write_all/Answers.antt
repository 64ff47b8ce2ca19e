use Rattle.std.proofs.Common.{◌++◌, take, ◌∙◌}
use Rattle.std.proofs.KnownBytes.{Appends-trans}
use Rattle.ob_print.proofs.Printing.{write_step}
use Rattle.ob_print.proofs.write.write_all.Goals as goal

pub loop-rest-preserved : goal.loop-rest-preserved
loop-rest-preserved g c =
    let before = c.loop-rest.invariant in (
      before.0 ++ take c.in_ok-n.n c.loop-rest.rest.now,
      write_step c.args.piece.now before.0 c.loop-rest.rest.now c.in_ok-n.n before.1,
      Appends-trans _ _ _ _ _ before.2 c.in_ok-n.ensures.bytes,
      c.in_ok-n.ensures.cause.kept ∙ before.3,
    )
