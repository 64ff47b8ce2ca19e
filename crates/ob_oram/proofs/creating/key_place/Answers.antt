use Rattle.std.proofs.Common.{◌≡◌, ◌∙◌, ap, subst}
use Rattle.ob_oram.proofs.Keys.{key_position}
use Rattle.ob_oram.specs.Keys.{IsIntKey}
use Rattle.ob_oram.proofs.creating.key_place.Goals as goal

pub unreachable-requires : goal.unreachable-requires
unreachable-requires c =
    let is = c.key_index.ensures.value ∙ ap (λ l. Rattle.std.specs.List.position (λ x. x.key) l) c.as_slice.ensures.value ∙ key_position c.args.schema.now ∙ c.requires.1.primary in
    absurd (cc (is, c.in-None.is))

pub returns : goal.returns
returns c =
    let is = c.key_index.ensures.value ∙ ap (λ l. Rattle.std.specs.List.position (λ x. x.key) l) c.as_slice.ensures.value ∙ key_position c.args.schema.now ∙ c.requires.1.primary in
    let same : c.requires.0 ≡ c.in-Some.place = cc (is, c.in-Some.is) in
    subst (IsIntKey c.args.schema.now) same c.requires.1
