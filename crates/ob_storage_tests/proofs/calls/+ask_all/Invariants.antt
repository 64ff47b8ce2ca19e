use Rattle.ob_storage_tests.proofs.calls.+ask_all.Given as goal

abbrev pub decreases-ask_all : goal.decreases-ask_all
decreases-ask_all g l = l.most
