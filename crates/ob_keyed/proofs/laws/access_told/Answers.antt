use Rattle.ob_keyed.proofs.Joining.{told_ok, told_err}
use Rattle.ob_keyed.proofs.laws.access_told.Goals as goal

pub returns : goal.returns
returns c = record {
  ok = λ t index left op ask draw got old new is asks accesses honest lies. told_ok t index left op ask draw old new is asks honest lies got accesses;
  err = λ t index left op ask draw e old new is asks accesses honest lies. told_err t index left op ask draw old new is asks honest lies e accesses;
}
