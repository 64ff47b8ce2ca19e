use Rattle.ob_reopen.proofs.parsing.+add_columns.Given as goal

abbrev pub decreases-add_columns : goal.decreases-add_columns
decreases-add_columns l = l.count
