use Rattle.std.proofs.Common.{[], ◌∷◌, ◌++◌, sym, ◌∙◌, ap}
use Rattle.ob_mutate.specs.declared.inserting.Inserted.{Inserted}
use Rattle.ob_mutate.specs.Batches.{NotesState, taken_after}
use Rattle.ob_mutate.proofs.Foreseen.{foresees_next}
use Rattle.ob_mutate.proofs.admitting.admit_row.Goals as goal

pub returns-in-Done-clause-told : goal.returns-in-Done-clause-told
returns-in-Done-clause-told c = λ row slots begins sees.
    let i = c.args.i in
    let n = c.args.notes.now in
    let told = c.answer_row-answer.ensures.told row slots begins sees in
    let there = c.answer_row-answer.ensures.there in
    let take = c.take.ensures in (
      told.0,
      foresees_next c.args.schema.now c.args.kept.now n c.take.new.self row slots i begins.fits sees
          (ap (λ (m : NotesState). m.free) take ∙ ap (λ (m : NotesState). m.free) there)
          (ap (λ (m : NotesState). m.most) take ∙ ap (λ (m : NotesState). m.most) there)
          (ap (λ (m : NotesState). m.taken) take ∙ ap (λ (m : NotesState). m.taken ++ i ∷ []) there ∙ ap (λ (a : Inserted). taken_after a i n.taken) (sym c.in-Done.is ∙ told.0))
          (rw (sym (ap (λ (m : NotesState). m.there) take)) at told.1),
    )
