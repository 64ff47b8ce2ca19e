-- What is true of each row of totals.
use Rattle.std.specs.Prelude.{◌≡◌, ◌≤◌, length}
use Rattle.ob_group.specs.declared.accs.Accs.TheInside.{Inside}

-- it has at most as many cells as there are places
pub record IsAccs (a : Inside) : Type 0 where
  pub size : length a.cells ≡ 32
  pub few : a.count ≤ 32
