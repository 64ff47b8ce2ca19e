use Rattle.std.proofs.Common.{codes}
use Rattle.ob_mark.specs.Marks.{bytes_text}
use Rattle.ob_mark.proofs.Appending.{then_part}
use Rattle.ob_mark.proofs.identity.spell_id.Goals as goal

pub returns : goal.returns
returns g c = then_part c.put_digits.result _ _ _ (codes "ribquince 1 ") (bytes_text c.args.id.now) c.in_ok-put.ensures c.put_digits.ensures
