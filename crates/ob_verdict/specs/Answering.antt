-- What an access answers, as its statement means it for the rows that there were.
use Rattle.std.specs.Prelude.{◌≡◌, ◌↔◌, ◌<◌, ◌≤◌, ℕ, true, false, List, [], ◌∷◌, filter, count_by, Some}
use Rattle.ob_row.specs.Rows.{Row, has_key}
use Rattle.ob_row.specs.Truth.{is_true}
use Rattle.ob_path.specs.Access.{Got, Absent, Found, Done, Duplicate, OutOfRange}
use Rattle.ob_row.specs.Keys.{row_key}
use Rattle.ob_mean.specs.Keyed.{Ask, Find, Put, Set, Take}
use Rattle.ob_verdict.specs.Asking.{key_is}

-- the rows of an answer, and how many were changed
abbrev pub found : Got Row → List Row
found Absent = []
found (Found row) = row ∷ []
found Done = []
found Duplicate = []
found OutOfRange = []

abbrev pub changed : Got Row → ℕ
changed Absent = 0
changed (Found row) = 0
changed Done = 1
changed Duplicate = 0
changed OutOfRange = 0

-- a row that is put in is refused exactly where its key is there or is none of the n keys, and else it is done
pub record PutAnswer (n place : ℕ) (row : Row) (all : List Row) (got : Got Row) : Type 0 where
  pub duplicate : (got ≡ Duplicate) ↔ (has_key (Some place) row all ≡ true)
  pub range : (got ≡ OutOfRange) ↔ (n ≤ row_key n place row)
  pub done : (got ≡ Done) ↔ ((has_key (Some place) row all ≡ false) × (row_key n place row < n))

-- the rows that a SELECT of this key selects, and the number of those that an UPDATE or DELETE of this key changes
abbrev pub Answered : (n place : ℕ) → Ask → (all : List Row) → Got Row → Type 0
Answered n place (Find z) all got = filter (is_true (key_is place z)) all ≡ found got
Answered n place (Put row) all got = PutAnswer n place row all got
Answered n place (Set z sets) all got = count_by (is_true (key_is place z)) all ≡ changed got
Answered n place (Take z) all got = count_by (is_true (key_is place z)) all ≡ changed got
