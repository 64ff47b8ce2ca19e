-- The bytes that the text of a cell may have.
use Rattle.std.specs.Prelude.{ℕ, List, IsTrue}
use Rattle.std.specs.Int.{is_in_range}
use Rattle.std.specs.List.{list_all}

-- each is one of printable ASCII
abbrev pub IsPrintable : List ℕ → Type 0
IsPrintable text = IsTrue (list_all (is_in_range 0x20 0x7E) text)
