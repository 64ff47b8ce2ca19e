use Rattle.std.proofs.Common.{length}
use Rattle.ob_group.proofs.fields.+show_items.Given as goal

abbrev pub decreases-show_items : goal.decreases-show_items
decreases-show_items l = length l.items.now
