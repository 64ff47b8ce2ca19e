use Rattle.std.proofs.Common.{Some, Option, refl, sym, subst}
use Rattle.ob_row.specs.Rows.{Row}
use Rattle.ob_row.specs.Spelling.{Begins, FitsColumns}
use Rattle.ob_row.proofs.SpellingLemmas.{row_bytes-begin}
use Rattle.ob_mutate.proofs.putting.PutsChange.change.Goals as goal

pub encode-requires-clause-fits : goal.encode-requires-clause-fits
encode-requires-clause-fits c =
    let inside = c.in-Some.ensures.inside in
    subst (FitsColumns c.args.schema.now) (sym inside.2) (c.requires.suits.2 inside.0 inside.1)

pub returns-in-Some-clause-spells : goal.returns-in-Some-clause-spells
returns-in-Some-clause-spells c =
    let cells = c.in-Some.cells.now in
    let columns = c.args.schema.now in
    let inside = c.in-Some.ensures.inside in
    let fits = subst (FitsColumns columns) (sym inside.2) (c.requires.suits.2 inside.0 inside.1) in
    (Some cells, subst (Begins columns (Some cells)) (sym c.encode.ensures.value) (row_bytes-begin columns cells _ fits))

pub returns-in-Some-clause-told : goal.returns-in-Some-clause-told
returns-in-Some-clause-told c = λ slot begins.
    let cells = c.in-Some.cells.now in
    let columns = c.args.schema.now in
    let inside = c.in-Some.ensures.inside in
    let fits = subst (FitsColumns columns) (sym inside.2) (c.requires.suits.2 inside.0 inside.1) in
    let spelt = subst (Begins columns (Some cells)) (sym c.encode.ensures.value) (row_bytes-begin columns cells _ fits) in
    (refl, subst (λ (o : Option Row). Begins columns o c.encode.new.row) (sym (c.in-Some.ensures.some slot)) spelt)
