use Rattle.ob_script.proofs.SavedParts.{next_is, next_saved, run_is, run_makes, script_saved}
use Rattle.ob_script.proofs.laws.saved_scripts.Goals as goal

pub returns : goal.returns
returns c = record {
  unsaved = run_is;
  unsaved_next = next_is;
  saved = λ p s seen saves changes. script_saved p seen s saves changes;
  saved_next = λ p s seen saves changes. next_saved p seen s saves changes;
  made = λ p s seen saves changes. run_makes p seen s saves changes;
}
