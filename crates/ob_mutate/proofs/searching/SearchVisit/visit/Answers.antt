use Rattle.ob_mutate.proofs.Keys.{key_within}
use Rattle.ob_mutate.proofs.searching.SearchVisit.visit.Goals as goal

pub has_key-requires-clause-within : goal.has_key-requires-clause-within
has_key-requires-clause-within c = key_within c.args.flat.now.schema c.args.self.now.cells.now c.args.self.now.key c.requires.suits.0 c.requires.suits.1
