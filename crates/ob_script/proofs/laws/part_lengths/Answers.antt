use Rattle.ob_script.proofs.Lengths.{length-count_part}
use Rattle.ob_script.proofs.Numbers.{length-closing_part, length-create_part, length-insert_part, length-rewrite_part, length-small_part, length-large_part, length-continuous_part, length-hash_part, length-emission_part, length-join_part, length-access_part, length-index_part}
use Rattle.ob_script.proofs.laws.part_lengths.Goals as goal

pub returns : goal.returns
returns c = record {
  create = length-create_part;
  insert = length-insert_part;
  rewrite = length-rewrite_part;
  closing = length-closing_part;
  count = length-count_part;
  small = length-small_part;
  large = length-large_part;
  continuous = length-continuous_part;
  hash = length-hash_part;
  emission = length-emission_part;
  join = length-join_part;
  access = length-access_part;
  index = length-index_part;
}
