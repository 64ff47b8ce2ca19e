-- The bytes of a text, one after the other.
use Rattle.std.proofs.Common.{◌≡◌, ℕ, ◌+◌, ◌≤◌, List, [], ◌++◌, length, drop, Bool, true, arith}
use Rattle.std.proofs.lemmas.List.{drop_all}
use Rattle.ob_token.specs.Bytes.{unquoted}

-- what the loop over a text's bytes keeps
abbrev pub Unquoted : List ℕ → ℕ → Bool → List ℕ → Type 0
Unquoted bytes i inside found = unquoted true bytes ≡ found ++ unquoted inside (drop i bytes)

pub nothing_behind : (bytes : List ℕ) (i : ℕ) → length bytes ≤ i → drop (i + 1) bytes ≡ []
nothing_behind bytes i le = drop_all (i + 1) bytes (omega (arith, le))
