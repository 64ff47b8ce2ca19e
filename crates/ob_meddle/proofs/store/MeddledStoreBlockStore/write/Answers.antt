use Rattle.ob_meddle.proofs.ShowLemmas.{asks_same}
use Rattle.ob_meddle.proofs.store.MeddledStoreBlockStore.write.Goals as goal

pub returns-clause-asks : goal.returns-clause-asks
returns-clause-asks c = let begun = c.begin.ensures in asks_same _ c.args.self.now c.begin.new.self _ _ _ _ _ _ begun.asked begun.past begun.spare begun.list begun.reopened begun.faults begun.slips begun.caught
