use Rattle.std.proofs.Common.{length, ap, ◌∙◌, ◌*◌, ◌+◌}
use Rattle.ob_path.specs.Paths.{path_up}
use Rattle.ob_path.specs.Access.{fits_by}
use Rattle.ob_tree.specs.Slotwise.{slot_tests}
use Rattle.ob_tree.proofs.SlotwiseLemmas.{laid_by_slots, behind_by_slots}
use Rattle.ob_tree.specs.Places.{tests, InPlace}
use Rattle.ob_tree.proofs.HeightLemmas.{laid_agree, path_agrees}
use Rattle.ob_tree.proofs.heights_are_paths.Goals as goal

pub returns : goal.returns
returns g c =
    let key = g.R.Keyed.key in
    record {
      laid = λ h leaf t lf leaves e below each fit.
          (laid_agree (InPlace key lf h leaves) (tests lf leaf h 0 (4 * (h + 1) + t)) (slot_tests (fits_by key h leaves) (path_up h leaf) t) e.left (path_agrees key lf h leaf leaves below t) each).0
          ∙ laid_by_slots (fits_by key h leaves) (path_up h leaf) t e fit;
      full = λ h leaf t lf leaves e below each.
          ap length ((laid_agree (InPlace key lf h leaves) (tests lf leaf h 0 (4 * (h + 1) + t)) (slot_tests (fits_by key h leaves) (path_up h leaf) t) e.left (path_agrees key lf h leaf leaves below t) each).1)
          ∙ behind_by_slots (fits_by key h leaves) (path_up h leaf) t e;
    }
