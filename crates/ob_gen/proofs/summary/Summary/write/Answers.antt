use Rattle.std.proofs.Common.{◌∙◌, ap}
use Rattle.std.specs.List.{concat}
use Rattle.ob_gen.proofs.Summing.{summary_is}
use Rattle.ob_gen.proofs.summary.Summary.write.Goals as goal

pub returns-clause-ok : goal.returns-clause-ok
returns-clause-ok g c = rw (ap concat c.lines.ensures ∙ summary_is c.args.self.now) at c.write_lines.ensures.ok

pub returns-clause-cut : goal.returns-clause-cut
returns-clause-cut g c = rw (ap concat c.lines.ensures ∙ summary_is c.args.self.now) at c.write_lines.ensures.cut
