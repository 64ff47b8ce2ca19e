use Rattle.std.proofs.Common.{Some, sym, subst}
use Rattle.ob_row.specs.Spelling.{Begins}
use Rattle.ob_row.proofs.SpellingLemmas.{row_bytes-begin}
use Rattle.ob_mutate.proofs.inserting.PutChange.change.Goals as goal

pub returns-then-eq-clause-spells : goal.returns-then-eq-clause-spells
returns-then-eq-clause-spells c =
    let cells = c.args.self.now.cells.now in
    let columns = c.args.schema.now in
    (Some cells, subst (Begins columns (Some cells)) (sym c.encode.ensures.value) (row_bytes-begin columns cells _ c.requires.suits))
