use Rattle.ob_storage_tests.proofs.runs.+go_on.Given as goal

abbrev pub decreases-go_on : goal.decreases-go_on
decreases-go_on l = l.most
