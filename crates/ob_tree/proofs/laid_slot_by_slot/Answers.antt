use Rattle.std.proofs.Common.{length}
use Rattle.ob_path.specs.Paths.{path_up}
use Rattle.ob_tree.proofs.PathLemmas.{apart_path}
use Rattle.ob_tree.proofs.PlaceLemmas.{laid_in_tree, laid_in_stash, path_inside}
use Rattle.ob_tree.proofs.SlotwiseLemmas.{laid_by_slots, behind_by_slots}
use Rattle.ob_tree.proofs.laid_slot_by_slot.Goals as goal

pub returns : goal.returns
returns g c = record {
  slots = λ fits bs t e h. laid_by_slots fits bs t e h;
  behind = λ fits bs t e. behind_by_slots fits bs t e;
  tree = λ h leaf t j fits e below size within. laid_in_tree fits t (path_up h leaf) e (apart_path h leaf (length e.tree) below size) j (path_inside h leaf j within);
  stash = λ fits bs t e. laid_in_stash fits t bs e;
}
