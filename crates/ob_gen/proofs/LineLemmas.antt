-- The next of the lines that are left.
use Rattle.std.proofs.Common.{◌≡◌, ℕ, zero, suc, ◌+◌, ◌-◌, ◌<◌, ◌≤◌, List, [], ◌∷◌, ◌++◌, length, drop, Some, ap, subst, arith, drop-cons, add-one}
use Rattle.std.specs.Prelude.{slice_get}
use Rattle.std.proofs.lemmas.Option.{slice_get_within, get_or_from_slice_get}
use Rattle.std.proofs.Math.ListN.{drop_of_length-le}
use Rattle.ob_gen.specs.Generated.{digit_of, lines_left, next_number, row_line, row_lines, statement_lines, table_line}

-- after the table's line
rows_begin : (x n : ℕ) → row_lines x 1 n ++ statement_lines n ≡ lines_left x n 2
rows_begin x n =
    let all : n - 0 ≡ n = omega arith in
    let none : 0 - n ≡ 0 = omega arith in
    rw (all, none)

pub left_table : (x n : ℕ) → lines_left x n 1 ≡ table_line n ∷ lines_left x n 2
left_table x n = ap (λ (l : List (List ℕ)). table_line n ∷ l) (rows_begin x n)

-- a row
row_next : (x n k : ℕ) → k < n
    → lines_left x n (suc (suc k)) ≡ row_line (k + 1) (digit_of (next_number x)) ∷ lines_left (next_number x) n (suc (suc (suc k)))
unfolding row_lines
row_next x n k lt =
    let more : n - k ≡ suc (n - suc k) = omega arith in
    let here : k - n ≡ 0 = omega arith in
    let there : suc k - n ≡ 0 = omega arith in
    rw (more, here, there, add-one)

pub left_row : (x n p : ℕ) → 2 ≤ p → p < n + 2
    → lines_left x n p ≡ row_line (p - 1) (digit_of (next_number x)) ∷ lines_left (next_number x) n (p + 1)
left_row x n zero two within = absurd (omega arith)
left_row x n (suc zero) two within = absurd (omega arith)
left_row x n (suc (suc k)) two within =
    let id : suc (suc k) - 1 ≡ k + 1 = omega arith in
    let next : suc (suc k) + 1 ≡ suc (suc (suc k)) = omega arith in
    rw (id, next) (row_next x n k (omega arith))

-- a statement after the rows
statement_next : (x n k : ℕ) (line : List ℕ) → n ≤ k → slice_get (statement_lines n) (k - n) ≡ Some line
    → lines_left x n (suc (suc k)) ≡ line ∷ lines_left x n (suc (suc (suc k)))
unfolding row_lines
statement_next x n k line ge at =
    let none : n - k ≡ 0 = omega arith in
    let gone : n - suc k ≡ 0 = omega arith in
    let next : suc k - n ≡ suc (k - n) = omega arith in
    let all = statement_lines n in
    rw (none, gone, next)
    (subst (λ (l : List ℕ). drop (k - n) all ≡ l ∷ drop (suc (k - n)) all) (get_or_from_slice_get all (k - n) line line at)
    (drop-cons all (k - n) line (slice_get_within all (k - n) line at)))

pub left_statement : (x n p : ℕ) (line : List ℕ) → n + 2 ≤ p → slice_get (statement_lines n) (p - n - 2) ≡ Some line
    → lines_left x n p ≡ line ∷ lines_left x n (p + 1)
left_statement x n zero line behind at = absurd (omega arith)
left_statement x n (suc zero) line behind at = absurd (omega arith)
left_statement x n (suc (suc k)) line behind at =
    let place : suc (suc k) - n - 2 ≡ k - n = omega arith in
    let next : suc (suc k) + 1 ≡ suc (suc (suc k)) = omega arith in
    rw next (statement_next x n k line (omega arith) (rw place at at))

-- none is left
pub left_none : (x n p : ℕ) → n + 14 ≤ p → lines_left x n p ≡ []
unfolding row_lines
left_none x n zero all = absurd (omega arith)
left_none x n (suc zero) all = absurd (omega arith)
left_none x n (suc (suc k)) all =
    let none : n - k ≡ 0 = omega arith in
    let twelve : length (statement_lines n) ≤ k - n = omega arith in
    rw none (drop_of_length-le (statement_lines n) twelve)
