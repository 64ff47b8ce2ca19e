use Rattle.std.proofs.Common.{[], ◌∷◌, ◌++◌, refl, ◌∙◌, ap}
use Rattle.ob_parse.proofs.Keeping.{kept_more, kept_all}
use Rattle.ob_parse.proofs.outline.names.Goals as goal

pub loop-name-preserved : goal.loop-name-preserved
loop-name-preserved c =
    kept_more (λ l. l) (λ x. x ∷ []) (λ l x. refl) c.args.names.now c.loop-name.name-index c.name-item.result c.loop-name.found.items c.push.new.self.items c.loop-name-test.true
    c.name-item.is c.loop-name.invariant (c.in-Ok.ensures.items ∙ ap (λ x. c.loop-name.found.items ++ x ∷ []) c.copied.ensures)

pub returns : goal.returns
returns c =
    kept_all (λ l. l) c.args.names.now c.loop-name.name-index c.loop-name.found.items c.from_vec.result c.loop-name-test.false c.loop-name.invariant c.from_vec.ensures
