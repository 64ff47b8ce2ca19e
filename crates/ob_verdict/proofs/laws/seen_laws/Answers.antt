use Rattle.ob_verdict.proofs.SeenProof.{access_shows_leaf, shows_kind_alone, padded_shows_kind, plan_is_whole, cheapest_accepts, cheapest_shows, shows_plan_alone, shows_not_consecutive}
use Rattle.ob_verdict.proofs.LawfulProof.{seen_is_lawful, cut_is_lawful, joined_is_lawful}
use Rattle.ob_verdict.proofs.laws.seen_laws.Goals as goal

pub returns : goal.returns
returns c = record {
  kind_alone = shows_kind_alone;
  leaf = access_shows_leaf;
  padded = padded_shows_kind;
  plan_is_whole = plan_is_whole;
  plan_alone = shows_plan_alone;
  cheapest_shows = cheapest_shows;
  cheapest_accepts = cheapest_accepts;
  one_refusal_shows = shows_not_consecutive;
  lawful = seen_is_lawful;
  cut_is_lawful = cut_is_lawful;
  joined_is_lawful = joined_is_lawful;
}
