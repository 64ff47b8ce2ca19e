use Rattle.std.proofs.Common.{◌≡◌, ◌&&◌, Bool, rules, tests, sym, ◌∙◌, ap}
use Rattle.std.specs.List.{list_all}
use Rattle.std.proofs.lemmas.Iterator.{YieldsList-from_slice}
use Rattle.std.proofs.lemmas.Iterator.Search.{all_from_yields_List}
use Rattle.ob_store.specs.Logs.{is_block, is_raised, access_at}
use Rattle.ob_store.proofs.runs.is_turn.Goals as goal

pub returns-then-all : goal.returns-then-all
returns-then-all c =
    let steps : c.all.result ≡ list_all is_block c.args.cycle.now =
    all_from_yields_List is_block _ _ _ c.all.ensures.ran (YieldsList-from_slice c.args.cycle.now cc) (λ x b q k. search (rules, tests)) in
    c.is_raised.ensures ∙ ap (λ (b : Bool). b && is_raised 1 (access_at c.args.cycle.now 0) c.args.access) (sym (sym steps ∙ c.if-all.true))
