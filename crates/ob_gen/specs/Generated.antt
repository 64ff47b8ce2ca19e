-- The generated text: a secret, a table of n rows, and statements over it.
use Rattle.std.specs.Prelude.{ℕ, zero, suc, ◌+◌, ◌-◌, ◌*◌, ◌/◌, ◌%◌, ◌^◌, List, [], ◌∷◌, ◌++◌, codes, decimal, drop, replicate}
use Rattle.std.specs.List.{concat}

-- ---- the rows

-- the number that follows in the linear congruential sequence modulo 2^64 with the multiplier and the increment of
-- MMIX (Knuth, The Art of Computer Programming 2, 3.3.4)
abbrev pub next_number : ℕ → ℕ
next_number x = (x * 6364136223846793005 + 1442695040888963407) % (2 ^ 64)

-- the digit that a number gives: its high bits, from bit 33 on, modulo 10
abbrev pub digit_of : ℕ → ℕ
digit_of x = (x / (2 ^ 33)) % 10

abbrev pub row_line : (id v : ℕ) → List ℕ
row_line id v = codes "INSERT INTO g VALUES (" ++ (decimal id ++ (codes ", " ++ (decimal v ++ codes ");\n")))

-- the lines of so many rows, from this id on: each takes the next number of the sequence, after x, and holds its digit
unfoldable pub row_lines : (x id rows : ℕ) → List (List ℕ)
row_lines x id zero = []
row_lines x id (suc rows) = row_line id (digit_of (next_number x)) ∷ row_lines (next_number x) (id + 1) rows

-- ---- the other lines

-- 64 digits 0
abbrev pub secret_line : List ℕ
secret_line = replicate 64 48 ++ codes "\n"

abbrev pub table_line : ℕ → List ℕ
table_line n = codes "CREATE TABLE g (id INT PRIMARY KEY, v INT) CAPACITY " ++ (decimal n ++ codes ";\n")

-- the statements after the rows
abbrev pub statement_lines : ℕ → List (List ℕ)
statement_lines n =
    codes "SELECT * FROM g WHERE v = 3;\n"
    ∷ (codes "SELECT id FROM g WHERE id > " ++ (decimal (n / 4) ++ codes ";\n"))
    ∷ codes "SELECT v FROM g WHERE v <> 9;\n"
    ∷ codes "SELECT v, COUNT(*) FROM g GROUP BY v;\n"
    ∷ codes "UPDATE g SET v = 10 WHERE v = 1;\n"
    ∷ codes "DELETE FROM g WHERE v = 2;\n"
    ∷ codes "CREATE TABLE h (k INT) CAPACITY 4;\n"
    ∷ codes "INSERT INTO h VALUES (1);\n"
    ∷ codes "SELECT * FROM g JOIN h ON g.id = h.k;\n"
    ∷ codes "SELECT COUNT(*), SUM(v) FROM g;\n"
    ∷ codes "DROP TABLE g;\n"
    ∷ codes "DROP TABLE h;\n"
    ∷ []

-- ---- the text

-- its lines, where the sequence begins after x, and the table has n rows
abbrev pub lines : (x n : ℕ) → List (List ℕ)
lines x n = secret_line ∷ table_line n ∷ (row_lines x 1 n ++ statement_lines n)

unfoldable pub generated : (x n : ℕ) → List ℕ
generated x n = concat (lines x n)

-- the lines that are left after the first so many of them, where x is the last number of the sequence that was taken
abbrev pub lines_left : (x n passed : ℕ) → List (List ℕ)
lines_left x n zero = lines x n
lines_left x n (suc zero) = table_line n ∷ (row_lines x 1 n ++ statement_lines n)
lines_left x n (suc (suc k)) = row_lines x (k + 1) (n - k) ++ drop (k - n) (statement_lines n)

-- what contracts see of the source of the text
pub record GeneratedState : Type 0 where
  -- the bytes still to come
  pub left : List ℕ
  -- how many its last call gave
  pub gave : ℕ
