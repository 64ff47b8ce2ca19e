use Rattle.ob_meddle.proofs.store.MeddledStoreBlockStore.reserve.Goals as goal

pub invariant_of-self : goal.invariant_of-self
invariant_of-self c =
    let old = c.args.self.now in
    let same = c.reserve.ensures.asked in
    record {
      fresh = rw same old.fresh;
      few = rw same old.few;
      counted = rw same old.counted;
      honest = rw same old.honest;
      early = rw same old.early;
      caused = old.caused;
    }
