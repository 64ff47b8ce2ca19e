use Rattle.std.proofs.Common.{length, rules}
use Rattle.ob_store.specs.Logs.{asked_of}
use Rattle.ob_meddle.specs.Held.{rest_of}
use Rattle.ob_meddle.proofs.StoreLemmas.{fresh_more, honest_added}
use Rattle.ob_meddle.proofs.ShowLemmas.{asks_same}
use Rattle.ob_meddle.proofs.store.MeddledStoreBlockStore.make.Goals as goal

pub invariant_of-self : goal.invariant_of-self
invariant_of-self c =
    let old = c.args.self.now in
    let mid = c.begin.new.self in
    let add = c.add.ensures in
    record {
      fresh = fresh_more mid.list (asked_of old.log) (asked_of mid.log) _ c.begin.ensures.asked c.add.new.usable;
      few = mid.few;
      counted = mid.counted;
      honest = λ still. honest_added mid.list (length (asked_of mid.log)) c.args.region mid.regions c.add.new.regions (rest_of c.in-Ok.made) c.add.result
          add.rest c.in-Ok.ensures.unwritten add.others add.stands add.none add.stay (mid.honest still);
      early = mid.early;
      caused = mid.caused;
    }

pub returns-in-Err-clause-asks : goal.returns-in-Err-clause-asks
returns-in-Err-clause-asks c = let begun = c.begin.ensures in asks_same _ c.args.self.now c.begin.new.self _ _ _ _ _ _ begun.asked begun.past begun.spare begun.list begun.reopened begun.faults begun.slips begun.caught

pub returns-in-Err-add-clause-asks : goal.returns-in-Err-add-clause-asks
returns-in-Err-add-clause-asks c = let begun = c.begin.ensures in asks_same _ c.args.self.now c.begin.new.self _ _ _ _ _ _ begun.asked begun.past begun.spare begun.list begun.reopened begun.faults begun.slips begun.caught

pub returns-in-Ok-add-clause-asks : goal.returns-in-Ok-add-clause-asks
returns-in-Ok-add-clause-asks c = let begun = c.begin.ensures in asks_same _ c.args.self.now c.begin.new.self _ _ _ _ _ _ begun.asked begun.past begun.spare begun.list begun.reopened begun.faults begun.slips begun.caught

pub returns-in_err-begin-clause-made : goal.returns-in_err-begin-clause-made
returns-in_err-begin-clause-made c = record {
  list = search rules;
  fails = search rules;
  does = search rules;
  zeros = search rules;
  others = search rules;
  stays = search rules;
  rests = search rules;
  rests_stay = search rules;
}
