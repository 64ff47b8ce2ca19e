use Rattle.ob_linked.proofs.WritingLemmas.{lies_before, behind_ok}
use Rattle.ob_linked.proofs.writing.write_path.Goals as goal

pub returns : goal.returns
returns g c = record {
  before = λ n t is lies. lies_before t c.args.run c.args.path.now n (g.B.Buckets.cells c.args.region.now) (g.B.Buckets.cells c.write_steps.new.region) is c.write_steps.ensures.keeps lies;
  behind = behind_ok c.args.run c.args.number c.args.path.now (g.B.Buckets.cells c.args.region.now) (g.B.Buckets.cells c.write_steps.new.region) c.write_steps.result c.write_steps.ensures.ok;
}
