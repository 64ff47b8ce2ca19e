-- What is counted of the statements of a run.
use Rattle.std.specs.Prelude.{ℕ, ◌+◌, ◌-◌, ◌^◌, min, Bool, Option, Some, None, if◌then◌else◌}
use Rattle.ob_base.specs.declared.config.Plan.{Plan}
use Rattle.ob_base.specs.declared.config.Plan.TheVariants.{Small, Large, Continuous, Hash}
use Rattle.ob_gen.specs.declared.tally.Tally.{Tally}

-- a count of 64 bits with so many more; it stays at its last value
abbrev pub raised : (count more : ℕ) → ℕ
raised count more = min (count + more) (2 ^ 64 - 1)

abbrev pub one_if : Bool → ℕ
one_if b = if b then 1 else 0

abbrev pub empty_tally : Tally
empty_tally =
    record { statements = 0; refused = 0; rows = 0; small = 0; large = 0; continuous = 0; hash = 0 }

-- with one more statement, which was refused or not, and whose answer has so many rows
abbrev pub with_answer : Tally → (refused : Bool) (rows : ℕ) → Tally
with_answer t refused rows = record t {
  statements = raised t.statements 1;
  refused = raised t.refused (one_if refused);
  rows = raised t.rows rows;
}

-- with one more statement of which this plan was seen
abbrev pub with_plan : Tally → Option Plan → Tally
with_plan t None = t
with_plan t (Some Small) = record t { small = raised t.small 1 }
with_plan t (Some Large) = record t { large = raised t.large 1 }
with_plan t (Some Continuous) = record t { continuous = raised t.continuous 1 }
with_plan t (Some Hash) = record t { hash = raised t.hash 1 }
