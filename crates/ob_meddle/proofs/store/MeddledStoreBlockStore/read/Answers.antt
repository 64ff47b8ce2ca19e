use Rattle.std.proofs.Common.{rules, Some, sym, ◌∙◌}
use Rattle.ob_store.proofs.GaveLemmas.{gave_read}
use Rattle.ob_meddle.proofs.ShowLemmas.{asks_same, asks_caught}
use Rattle.ob_meddle.proofs.store.MeddledStoreBlockStore.read.Goals as goal

pub returns-then-is_none-clause-asks : goal.returns-then-is_none-clause-asks
returns-then-is_none-clause-asks c = let begun = c.begin.ensures in asks_caught _ c.args.self.now c.begin.new.self _ _ _ _ _ _ begun.asked begun.past begun.spare begun.list begun.reopened begun.faults begun.slips (Some c.new.result) (search rules) (search rules) (search rules)

pub returns-else-read-clause-asks : goal.returns-else-read-clause-asks
returns-else-read-clause-asks c = let begun = c.begin.ensures in asks_same _ c.args.self.now c.begin.new.self _ _ _ _ _ _ begun.asked begun.past begun.spare begun.list begun.reopened begun.faults begun.slips begun.caught

pub returns-then-is_none-clause-gave : goal.returns-then-is_none-clause-gave
returns-then-is_none-clause-gave c = gave_read _ _ _ _ _ c.begin.ensures.asked ∙ sym c.read.ensures.bytes

pub returns-else-read-clause-gave : goal.returns-else-read-clause-gave
returns-else-read-clause-gave c = gave_read _ _ _ _ _ c.begin.ensures.asked ∙ sym c.read.ensures.bytes
