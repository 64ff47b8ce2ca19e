use Rattle.std.proofs.Common.{◌≡◌, Option, length, rules, tests, subst, ◌∙◌, slice_index_or}
use Rattle.std.specs.Prelude.{◌<◌, ℕ, MatchOption}
use Rattle.std.specs.List.{AllWithin, HoldsAt}
use Rattle.std.proofs.lemmas.Iterator.{IsFirst-from_position, YieldsList-from_slice}
use Rattle.std.proofs.lemmas.Option.{slice_get-get_or}
use Rattle.ob_oram.specs.declared.index.Index.{Index}
use Rattle.ob_tables.proofs.engine.Engine.index_of.Goals as goal

pub returns : goal.returns
returns g c =
    let all = c.args.self.now.indexes.items in
    let region = c.args.region in
    let found = IsFirst-from_position _ _ c.position.result (λ (x : Index). x.tree ≡ region) (λ (x : Index). x.tree ≡ region → ⊥) c.position.ensures.ran
    (YieldsList-from_slice all (c.iter.ensures.rest ∙ c.deref.ensures.value)) (λ x q k. search (rules, tests)) (λ x q k. search (rules, tests)) in
    let at = subst (λ (r : Option ℕ). MatchOption r (AllWithin (λ (x : Index). x.tree ≡ region → ⊥) all 0 (length all))
    (λ i. (i < length all) × HoldsAt (λ (x : Index). x.tree ≡ region) all i × AllWithin (λ (x : Index). x.tree ≡ region → ⊥) all 0 i)) c.in-Some.is found in (
      slice_index_or all c.in-Some.k c.requires.index,
      slice_get-get_or all c.in-Some.k c.requires.index at.0,
      at.1 c.requires.index,
    )
