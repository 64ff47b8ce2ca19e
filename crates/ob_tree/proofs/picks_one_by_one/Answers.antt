use Rattle.ob_tree.proofs.OrderLemmas.{by_key-Same, least_first, none_first, one_by_one}
use Rattle.ob_tree.proofs.picks_one_by_one.Goals as goal

pub returns : goal.returns
returns g c = record {
  any_order = λ xs ys single s. by_key-Same g.R.Keyed.key xs ys single s;
  least = λ p row rest all single s passes each. least_first g.R.Keyed.key p row rest all single s passes each;
  none = λ n p all each. none_first p g.R.Keyed.key n all each;
  more = λ n p all. one_by_one p n all;
}
