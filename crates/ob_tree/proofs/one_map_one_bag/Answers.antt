use Rattle.ob_tree.proofs.AccessLemmas.{put_in_single}
use Rattle.ob_tree.proofs.PlaceLemmas.{one_bag, stands_for, stands_too}
use Rattle.ob_tree.proofs.one_map_one_bag.Goals as goal

pub returns : goal.returns
returns g c = record {
  bag = λ h k s t m a b. one_bag g.R.Keyed.key h k s t m a b;
  taken = λ h draw s m op rep keeps. put_in_single g.R.Keyed.key h s m op draw rep keeps;
  map = λ h s st. stands_for g.R.Keyed.key h s st;
  stands = λ h s m rep. stands_too g.R.Keyed.key h s m rep;
}
