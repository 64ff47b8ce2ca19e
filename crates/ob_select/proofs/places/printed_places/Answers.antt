use Rattle.std.proofs.Common.{◌++◌, ℕ, true, List, map, length-append, sym, ◌∙◌, ap}
use Rattle.std.specs.Prelude.{Option}
use Rattle.std.specs.Option.{option_map_or}
use Rattle.ob_base.specs.declared.skeleton.ColumnName.{ColumnName}
use Rattle.ob_base.specs.Lists.{tabulate, places_of}
use Rattle.ob_names.specs.Names.{place_of}
use Rattle.ob_select.proofs.PlaceLemmas.{all_places}
use Rattle.ob_select.proofs.places.printed_places.Goals as goal

pub returns-in-None : goal.returns-in-None
returns-in-None c =
    let columns = c.args.left.now ++ c.args.right.now in
    c.first_places.ensures
    ∙ ap (λ (n : ℕ). tabulate n (λ i. i)) (sym (length-append c.args.left.now c.args.right.now))
    ∙ sym (all_places columns)
    ∙ sym (ap (λ (o : Option (List ColumnName)). option_map_or (map (λ (name : ColumnName). place_of name columns)) o (places_of (λ _. true) columns)) c.in-None.is)
