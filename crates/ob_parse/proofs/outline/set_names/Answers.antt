use Rattle.std.proofs.Common.{[], ◌∷◌, ◌++◌, map, ◌∙◌, ap}
use Rattle.std.proofs.lemmas.List.{map_push}
use Rattle.ob_sql.specs.declared.stmt.Set.{Set}
use Rattle.ob_parse.proofs.Keeping.{kept_more, kept_all}
use Rattle.ob_parse.proofs.outline.set_names.Goals as goal

pub loop-set-preserved : goal.loop-set-preserved
loop-set-preserved c =
    kept_more (map (λ (s : Set). s.column)) (λ (s : Set). s.column ∷ []) (map_push (λ (s : Set). s.column)) c.args.sets.now c.loop-set.set-index c.set-item.result
    c.loop-set.found.items c.push.new.self.items c.loop-set-test.true c.set-item.is c.loop-set.invariant
    (c.in-Ok.ensures.items ∙ ap (λ x. c.loop-set.found.items ++ x ∷ []) c.copied.ensures)

pub returns : goal.returns
returns c =
    kept_all (map (λ (s : Set). s.column)) c.args.sets.now c.loop-set.set-index c.loop-set.found.items c.from_vec.result c.loop-set-test.false c.loop-set.invariant c.from_vec.ensures
