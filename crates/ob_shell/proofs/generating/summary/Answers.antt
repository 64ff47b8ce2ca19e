use Rattle.ob_shell.proofs.generating.summary.Goals as goal

pub returns : goal.returns
returns g c =
    let digest = c.finish.ensures (g.S.BlockStore.state c.args.store.now).asked c.requires in
    λ i. record { tally = c.args.tally; accesses = c.count.ensures i; trace = digest i }
