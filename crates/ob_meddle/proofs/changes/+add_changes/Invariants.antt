use Rattle.ob_meddle.proofs.changes.+add_changes.Given as goal

abbrev pub decreases-add_changes : goal.decreases-add_changes
decreases-add_changes l = l.most
