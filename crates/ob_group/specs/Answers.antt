-- What a grouping pass answers.
use Rattle.std.specs.Prelude.{ℕ, nat_lt, if◌then◌else◌}
use Rattle.ob_group.specs.declared.grouping.Grouped.{Grouped}
use Rattle.ob_group.specs.declared.grouping.Grouped.TheVariants.{Groups, TooMany}

-- what is true where there were so many groups, and where there were too many
abbrev pub MatchGrouped : Grouped → (ℕ → Type 0) → Type 0 → Type 0
MatchGrouped (Groups n) few many = few n
MatchGrouped TooMany few many = many

-- the answer to n groups, where there may be at most so many
abbrev pub answer_of : (most n : ℕ) → Grouped
answer_of most n = if nat_lt most n then TooMany else Groups n
