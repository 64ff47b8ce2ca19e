use Rattle.ob_storage_tests.proofs.runs.+in_memory.Given as goal

abbrev pub decreases-in_memory : goal.decreases-in_memory
decreases-in_memory l = l.most
