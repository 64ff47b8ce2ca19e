use Rattle.ob_pass_tests.proofs.Passes.{made_beside, made_has, made_rests}
use Rattle.ob_pass_tests.proofs.blocks.session.Goals as goal

pub made-requires : goal.made-requires
made-requires g c = c.requires

pub answered-requires : goal.answered-requires
answered-requires g c = record { rest = made_rests c.in_ok-left.ensures c.requires; table = made_has c.in_ok-left.ensures }

pub made-requires-2 : goal.made-requires-2
made-requires-2 g c = made_rests c.in_ok-left.ensures c.requires

pub joined-requires : goal.joined-requires
joined-requires g c =
    let left = c.in_ok-left.ensures in
    let right = c.in_ok-right.ensures in
    record {
      rest = made_rests right (made_rests left c.requires);
      left = made_beside right _ (made_has left);
      right = made_has right;
    }
