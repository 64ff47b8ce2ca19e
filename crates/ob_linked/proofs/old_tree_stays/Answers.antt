use Rattle.ob_linked.proofs.LinkedLemmas.{stays, writes_spare, torn_spare}
use Rattle.ob_linked.proofs.old_tree_stays.Goals as goal

pub returns : goal.returns
returns g c = record {
  stays = λ n t path old new lies only. stays t n path old new lies only;
  writes = λ t done rest rows run number cells. writes_spare t done rest rows run number cells;
  torn = λ t path old new b s only on is. torn_spare t path old new b s only on is;
}
