use Rattle.ob_tree.proofs.AccessLemmas.{full_from, full_only, stash_kept}
use Rattle.ob_tree.proofs.full_exactly.Goals as goal

pub returns : goal.returns
returns g c = record {
  full = λ h draw s op more. full_from g.R.Keyed.key h s op draw more;
  only = λ h draw s op e. full_only g.R.Keyed.key h s op draw e;
  stash = λ h draw s op w e. stash_kept g.R.Keyed.key h s op draw w e;
}
