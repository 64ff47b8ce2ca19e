-- Worked examples of the generated text.
use Rattle.std.proofs.Common.{◌≡◌, [], ◌∷◌, ◌++◌, codes, refl}
use Rattle.std.specs.Fmt.{digits}
use Rattle.ob_gen.specs.Generated.{digit_of, generated, next_number, row_lines}

-- the sequence after 0 begins so, and its digits are 7, 4 and 7
first_number : next_number 0 ≡ 1442695040888963407
first_number = refl

second_number : next_number 1442695040888963407 ≡ 1876011003808476466
second_number = refl

third_number : next_number 1876011003808476466 ≡ 11166244414315200793
third_number = refl

three_rows : row_lines 0 1 3
    ≡ codes "INSERT INTO g VALUES (1, 7);\n" ∷ codes "INSERT INTO g VALUES (2, 4);\n" ∷ codes "INSERT INTO g VALUES (3, 7);\n" ∷ []
unfolding digits row_lines
three_rows = refl

-- a sequence whose products are greater than 2^64
late_digit : digit_of (next_number 12345678901234567890) ≡ 1
late_digit = refl

-- the whole text for a table of one row
whole_text : generated 0 1
    ≡ codes "0000000000000000000000000000000000000000000000000000000000000000\n" ++
    (codes "CREATE TABLE g (id INT PRIMARY KEY, v INT) CAPACITY 1;\n" ++
    (codes "INSERT INTO g VALUES (1, 7);\n" ++
    (codes "SELECT * FROM g WHERE v = 3;\n" ++
    (codes "SELECT id FROM g WHERE id > 0;\n" ++
    (codes "SELECT v FROM g WHERE v <> 9;\n" ++
    (codes "SELECT v, COUNT(*) FROM g GROUP BY v;\n" ++
    (codes "UPDATE g SET v = 10 WHERE v = 1;\n" ++
    (codes "DELETE FROM g WHERE v = 2;\n" ++
    (codes "CREATE TABLE h (k INT) CAPACITY 4;\n" ++
    (codes "INSERT INTO h VALUES (1);\n" ++
    (codes "SELECT * FROM g JOIN h ON g.id = h.k;\n" ++
    (codes "SELECT COUNT(*), SUM(v) FROM g;\n" ++
    (codes "DROP TABLE g;\n" ++
    codes "DROP TABLE h;\n")))))))))))))
unfolding digits generated row_lines
whole_text = refl
