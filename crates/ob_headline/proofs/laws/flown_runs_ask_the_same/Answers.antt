use Rattle.ob_headline.proofs.SameEntries.{ask_by_entries}
use Rattle.ob_headline.proofs.laws.flown_runs_ask_the_same.Goals as goal

pub returns : goal.returns
returns c = ask_by_entries
