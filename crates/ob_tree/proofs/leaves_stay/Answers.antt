use Rattle.ob_tree.proofs.AccessLemmas.{leaf_below, leaves_below_after}
use Rattle.ob_tree.proofs.RunLemmas.{leaves_kept}
use Rattle.ob_tree.proofs.leaves_stay.Goals as goal

pub returns : goal.returns
returns g c = record {
  read = λ h draw k s below. leaf_below g.R.Keyed.key h s draw k below;
  after = λ h draw s op w below e. leaves_below_after g.R.Keyed.key h s op draw w below e;
  count = λ h draw s op w e. leaves_kept g.R.Keyed.key h s op draw w e;
}
