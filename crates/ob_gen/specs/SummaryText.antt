-- The text of a summary.
use Rattle.std.specs.Prelude.{ℕ, List, [], ◌∷◌, ◌++◌, codes, decimal, length}
use Rattle.std.specs.List.{concat}
use Rattle.hex.specs.Hex.{encode_lower}
use Rattle.sha2.specs.Sha256.{sha256}
use Rattle.ob_base.specs.declared.access.Access.{Access}
use Rattle.ob_print.specs.Lines.{trace_text}
use Rattle.ob_gen.specs.declared.summary.Summary.{Summary}
use Rattle.ob_gen.specs.declared.tally.Tally.{Tally}

-- the SHA-256 (FIPS 180-4) of the text of accesses
abbrev pub digest_of : List Access → List ℕ
digest_of asked = sha256 (trace_text asked)

-- of a run that asked these accesses, whether or not they were traced
abbrev pub summary_of : Tally → List Access → Summary
summary_of tally asked =
    record { tally = tally; accesses = length asked; trace = digest_of asked }

-- a name and a count
abbrev pub count_line : List ℕ → ℕ → List ℕ
count_line name n = name ++ (decimal n ++ codes "\n")

-- a digest in hexadecimal digits
abbrev pub trace_line : List ℕ → List ℕ
trace_line digest = codes "trace " ++ (encode_lower digest ++ codes "\n")

abbrev pub summary_lines : Summary → List (List ℕ)
summary_lines s =
    count_line (codes "statements ") s.tally.statements
    ∷ count_line (codes "refused ") s.tally.refused
    ∷ count_line (codes "rows ") s.tally.rows
    ∷ count_line (codes "accesses ") s.accesses
    ∷ count_line (codes "small ") s.tally.small
    ∷ count_line (codes "large ") s.tally.large
    ∷ count_line (codes "continuous ") s.tally.continuous
    ∷ count_line (codes "hash ") s.tally.hash
    ∷ trace_line s.trace
    ∷ []

unfoldable pub summary_text : Summary → List ℕ
summary_text s = concat (summary_lines s)
