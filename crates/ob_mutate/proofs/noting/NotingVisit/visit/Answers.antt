use Rattle.std.proofs.Common.{subst, sym}
use Rattle.ob_mutate.specs.Batches.{NotesState}
use Rattle.ob_mutate.proofs.Noted.{StayNotes, kept_rows, noted_more, rows_marked}
use Rattle.ob_mutate.proofs.noting.NotingVisit.visit.Goals as goal

pub note_key-requires-clause-marked : goal.note_key-requires-clause-marked
note_key-requires-clause-marked c = rows_marked c.args.flat.now.schema c.args.self.now.kept.now (kept_rows c.args.flat.now.schema c.args.self.now.batch.now c.args.self.now.kept.now c.requires.suits.2)

pub returns-then-i-flat-clause-suits : goal.returns-then-i-flat-clause-suits
returns-then-i-flat-clause-suits c =
    let was = c.requires.suits in
    let flat = c.args.flat.now in
    let kept = c.args.self.now.kept.now in
    let stay = subst (λ (n : NotesState). StayNotes c.args.i flat.capacity kept n) (sym c.note_free.ensures) (noted_more c.args.i flat.capacity kept c.args.self.now.notes c.if-i-flat.true was.4 was.5 was.6) in
    (was.0, was.1, was.2, was.3, stay.are, stay.none, stay.rises)
