use Rattle.ob_script.proofs.Makes.{makes-closing_part, makes-count_part, makes-create_part, makes-insert_part, makes-rewrite_part, makes-small_part, makes-large_part, makes-continuous_part, makes-hash_part, makes-emission_part, makes-join_part, makes-access_part, makes-index_part}
use Rattle.ob_script.proofs.laws.part_makes.Goals as goal

pub returns : goal.returns
returns c = record {
  create = makes-create_part;
  insert = makes-insert_part;
  rewrite = makes-rewrite_part;
  closing = makes-closing_part;
  count = makes-count_part;
  small = makes-small_part;
  large = makes-large_part;
  continuous = makes-continuous_part;
  hash = makes-hash_part;
  emission = makes-emission_part;
  join = makes-join_part;
  access = makes-access_part;
  index = makes-index_part;
}
