use Rattle.std.proofs.Common.{None, length}
use Rattle.ob_path.specs.Paths.{path_up}
use Rattle.ob_tree.proofs.PathLemmas.{apart_path}
use Rattle.ob_tree.proofs.PlaceLemmas.{untouched_slot, filled_bucket, path_inside}
use Rattle.ob_tree.proofs.slots_behind.Goals as goal

pub returns : goal.returns
returns g c = record {
  untouched = λ h leaf p fits e below size off. untouched_slot fits (path_up h leaf) e (apart_path h leaf (length e.tree) below size) p None off;
  filled = λ h leaf j fits e below size within. filled_bucket fits (path_up h leaf) e (apart_path h leaf (length e.tree) below size) j (path_inside h leaf j within);
}
