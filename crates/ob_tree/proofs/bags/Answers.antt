use Rattle.ob_tree.proofs.RowLemmas.{Same-firsts, Same-by_key}
use Rattle.ob_tree.proofs.bags.Goals as goal

pub returns : goal.returns
returns g c = record {
  taken = λ n p all. Same-firsts n p all;
  ordered = λ all. Same-by_key g.R.Keyed.key all;
}
