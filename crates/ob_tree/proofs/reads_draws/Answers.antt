use Rattle.ob_tree.proofs.RunLemmas.{run_reads, draw_last, draw_own, created_apart}
use Rattle.ob_tree.proofs.reads_draws.Goals as goal

pub returns : goal.returns
returns g c = record {
  leaves = λ h next s d given ops is. run_reads g.R.Keyed.key h d ops s next given is;
  last = λ next i given ks within in_range. draw_last ks next given i within in_range;
  own = λ next i given ks within past. draw_own ks next given i within past;
  once = λ first n ks. created_apart first n ks;
}
