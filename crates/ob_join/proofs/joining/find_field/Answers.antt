use Rattle.ob_join.proofs.Fields.{found_at, found_nowhere}
use Rattle.ob_join.proofs.joining.find_field.Goals as goal

pub returns-in-Some-clause-some : goal.returns-in-Some-clause-some
returns-in-Some-clause-some c = λ cell held slots spelt.
    found_at c.args.schema.now c.args.column c.requires.within c.offset-at.result c.offset-at.ensures c.args.field.now cell held slots c.args.kept.now spelt c.in-Some.i c.in-Some.ensures.some

pub returns-in-None-clause-none : goal.returns-in-None-clause-none
returns-in-None-clause-none c = λ cell held slots spelt.
    found_nowhere c.args.schema.now c.args.column c.requires.within c.offset-at.result c.offset-at.ensures c.args.field.now cell held slots c.args.kept.now spelt c.in-None.ensures.none
