use Rattle.ob_script.proofs.Unasked.{asks_none, leaves_nothing, stays_public}
use Rattle.ob_script.proofs.laws.joined_asks_nothing.Goals as goal

pub returns : goal.returns
returns c = record {
  asks = asks_none;
  leaves = leaves_nothing;
  stays = stays_public;
}
