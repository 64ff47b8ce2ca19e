use Rattle.ob_exec.proofs.commit.NoCommitCommit.save.Goals as goal

pub returns-clause-saves : goal.returns-clause-saves
returns-clause-saves g c = λ save. absurd (c.requires.saves save)
