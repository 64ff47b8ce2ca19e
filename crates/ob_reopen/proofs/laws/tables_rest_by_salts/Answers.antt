use Rattle.ob_reopen.proofs.SavedLemmas.{rests_plain, rests_salted, rests_under}
use Rattle.ob_reopen.proofs.laws.tables_rest_by_salts.Goals as goal

pub returns : goal.returns
returns c = record {
  under = rests_under;
  plain = rests_plain;
  salted = rests_salted;
}
