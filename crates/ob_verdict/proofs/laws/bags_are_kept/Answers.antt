use Rattle.ob_row.proofs.BagLemmas.{Same-refl, Same-sym, Same-trans, Same-append, Same-map, Same-filter}
use Rattle.ob_verdict.proofs.laws.bags_are_kept.Goals as goal

pub returns : goal.returns
returns c c2 = record {
  same = λ xs. Same-refl xs;
  turned = λ xs ys s. Same-sym xs ys s;
  chained = λ xs ys zs s t. Same-trans xs ys zs s t;
  joined = λ xs ys us vs s t. Same-append xs ys us vs s t;
  mapped = λ f xs ys s. Same-map f xs ys s;
  filtered = λ p xs ys s. Same-filter p xs ys s;
}
