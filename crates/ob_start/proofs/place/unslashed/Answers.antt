use Rattle.ob_start.proofs.Slashes.{trimmed}
use Rattle.ob_start.proofs.place.unslashed.Goals as goal

pub returns : goal.returns
returns c = trimmed c.args.name.now c.trim_end_matches.result.now c.trim_end_matches.ensures.matches
