use Rattle.std.proofs.Common.{◌∙◌, ap}
use Rattle.std.specs.List.{position}
use Rattle.ob_base.specs.declared.schema.Column.{Column}
use Rattle.ob_base.specs.Schemas.{Columns}
use Rattle.ob_mutate.proofs.Keys.{key_position}
use Rattle.ob_mutate.proofs.searching.key_place.Goals as goal

pub returns-in-Some : goal.returns-in-Some
returns-in-Some c = c.in-Some.ensures.value ∙ ap (λ (l : Columns). position (λ (c : Column). c.key) l) c.as_slice.ensures.value ∙ key_position c.args.schema.now

pub returns-in-None : goal.returns-in-None
returns-in-None c = c.in-None.ensures.value ∙ ap (λ (l : Columns). position (λ (c : Column). c.key) l) c.as_slice.ensures.value ∙ key_position c.args.schema.now
