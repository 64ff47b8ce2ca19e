use Rattle.std.proofs.Common.{ap}
use Rattle.ob_base.specs.Schemas.{kind_width}
use Rattle.ob_pass_bench.proofs.Columns.{has_more}
use Rattle.ob_pass_bench.proofs.schemas.with_number.Goals as goal

pub returns : goal.returns
returns c = λ count width has. rw c.push.ensures (has_more count width 8 c.args.schema c.column.result (ap kind_width c.column.ensures) has)
