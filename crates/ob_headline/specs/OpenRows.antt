-- Open rows.
use Rattle.std.specs.Prelude.{ℕ, ◌≤◌, List, IsTrue, Option}
use Rattle.std.specs.List.{list_any}
use Rattle.ob_base.specs.declared.access.Access.{Access}
use Rattle.ob_base.specs.declared.config.Config.{Config}
use Rattle.ob_select.specs.Opening.{is_of_rows}
use Rattle.ob_headline.specs.Words.{rows_in}

-- never more than the settings say, and at least one where a block was read or written
pub record OpenRows (settings : Option Config) (high : ℕ) (asked : List Access) : Type 0 where
  pub most_open : high ≤ rows_in settings
  pub some_open : IsTrue (list_any is_of_rows asked) → 1 ≤ high
