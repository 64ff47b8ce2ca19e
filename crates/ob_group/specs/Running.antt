-- Aggregates of the rows so far.
use Rattle.std.specs.Prelude.{◌≤◌, ◌<◌, ◌*◌, ◌^◌, ℕ, ℤ, pos, nat_abs, ◌+ℤ◌, List, [], ◌∷◌, map, fold, take, length, ⊤, Bool, Option, Some, None, IfSome, if◌then◌else◌}
use Rattle.std.specs.Int.{int_min, int_max}
use Rattle.ob_base.specs.declared.shown.Shown.{Shown}
use Rattle.ob_base.specs.declared.shown.Shown.TheVariants.{Int as ShownInt, Null}
use Rattle.ob_row.specs.declared.aggregate.Agg.{Agg}
use Rattle.ob_row.specs.declared.aggregate.Agg.TheVariants.{CountAll, Count, Sum, Min, Max}
use Rattle.ob_row.specs.Rows.{Row, cell_at}
use Rattle.ob_row.specs.Slots.{Slots}
use Rattle.ob_row.specs.Totals.{int_of}

-- the totals of some aggregates
abbrev pub Sums : Type 0
Sums = List (Option ℤ)

-- the integers that are taken together stand in a column of the table
abbrev pub IsWithin : ℕ → Agg → Type 0
IsWithin n CountAll = ⊤
IsWithin n (Count i) = ⊤
IsWithin n (Sum i) = i < n
IsWithin n (Min i) = i < n
IsWithin n (Max i) = i < n

abbrev pub AreWithin : ℕ → List Agg → Type 0
AreWithin n [] = ⊤
AreWithin n (agg ∷ aggs) = IsWithin n agg × AreWithin n aggs

-- how two values are taken together
abbrev pub together : Agg → ℤ → ℤ → ℤ
together CountAll = ◌+ℤ◌
together (Count i) = ◌+ℤ◌
together (Sum i) = ◌+ℤ◌
together (Min i) = int_min
together (Max i) = int_max

-- the value of no rows
abbrev pub start : Agg → Option ℤ
start CountAll = Some (pos 0)
start (Count i) = Some (pos 0)
start (Sum i) = None
start (Min i) = None
start (Max i) = None

-- what one row gives
abbrev pub part : Agg → Row → Option ℤ
part CountAll row = Some (pos 1)
part (Count i) row = Some (pos 1)
part (Sum i) row = int_of (cell_at row i)
part (Min i) row = int_of (cell_at row i)
part (Max i) row = int_of (cell_at row i)

abbrev pub joined : (ℤ → ℤ → ℤ) → Option ℤ → Option ℤ → Option ℤ
joined f None y = y
joined f (Some x) None = Some x
joined f (Some x) (Some y) = Some (f x y)

-- a total with one more row
abbrev pub grown : Row → Agg → Option ℤ → Option ℤ
grown row agg total = joined (together agg) total (part agg row)

abbrev pub starts : List Agg → List (Option ℤ)
starts aggs = map start aggs

-- the totals with one more row
abbrev pub grown_all : List Agg → Row → List (Option ℤ) → List (Option ℤ)
grown_all [] row totals = totals
grown_all (agg ∷ aggs) row [] = []
grown_all (agg ∷ aggs) row (total ∷ totals) = grown row agg total ∷ grown_all aggs row totals

-- with the row of one more slot, if it has one that passes the test
abbrev pub seen_slot : (Row → Bool) → List Agg → List (Option ℤ) → Option Row → List (Option ℤ)
seen_slot p aggs totals None = totals
seen_slot p aggs totals (Some row) = if p row then grown_all aggs row totals else totals

-- with those of these slots
abbrev pub sums_with : (Row → Bool) → List Agg → Sums → Slots → Sums
sums_with p aggs sums slots = fold (seen_slot p aggs) sums slots

abbrev pub sums_of : (Row → Bool) → List Agg → Slots → Sums
sums_of p aggs slots = sums_with p aggs (starts aggs) slots

-- a total as it is printed
abbrev pub total_shown : Option ℤ → Shown
total_shown None = Null
total_shown (Some x) = ShownInt x

-- and those of these aggregates, which are the first
abbrev pub sums_shown : List Agg → Sums → List Shown
sums_shown aggs sums = map total_shown (take (length aggs) sums)

-- totals of at most n rows
abbrev pub AreUpTo : ℕ → List (Option ℤ) → Type 0
AreUpTo n [] = ⊤
AreUpTo n (total ∷ totals) = IfSome total (λ x. nat_abs x ≤ n * 2 ^ 63) × AreUpTo n totals
