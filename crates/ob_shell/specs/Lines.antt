-- The lines of a batch's answers.
use Rattle.std.specs.Prelude.{ℕ, ◌≡◌, ◌≤◌, ◌⊎◌, List, [], ◌∷◌, ◌++◌, map, Option, None, Result, Ok, Err}
use Rattle.std.specs.Io.KnownBytes.{Appends}
use Rattle.ob_base.specs.Counts.{Rises}
use Rattle.ob_headline.specs.Closing.{closing_line}
use Rattle.ob_headline.specs.Words.{Answer, Faults, SinksRose, Took, printed}
use Rattle.ob_print.specs.Cuts.{Outputs}
use Rattle.ob_verdict.specs.declared.outcome.Outcome.{Outcome}

-- an answer of which nothing except its line is printed, and no plan is seen
abbrev pub line_answer : Outcome → Answer
line_answer outcome = record { outcome = outcome; bytes = closing_line outcome; plan = None }

abbrev pub line_answers : List Outcome → List Answer
line_answers outcomes = map line_answer outcomes

-- some lines were written, and then a sink took the next one, or a first part of it where it failed
pub record LinesCut (outcomes : List Outcome) (written0 written1 : Option (List ℕ)) (Lost : Type 0)
    : Type 0 where
  pub done : List Outcome
  pub one : Outcome
  pub rest : List Outcome
  pub parts : outcomes ≡ done ++ one ∷ rest
  pub whole : Took written0 written1 (printed (line_answers done))
  pub cut : Outputs written0 written1 Lost (printed (line_answers done) ++ closing_line one)

-- the same of a batch whose accesses are traced after its first line: that was done where a line was lost after it
pub record BatchCut (outcomes : List Outcome) (written0 written1 traced0 traced1 : Option (List ℕ))
    (text : List ℕ) (out0 out1 : ℕ) : Type 0 where
  pub lines : LinesCut outcomes written0 written1 (Rises out0 out1)
  pub traced : Outputs traced0 traced1 (Unit {0}) text
  pub behind : (lines.done ≡ []) ⊎ Appends traced0 traced1 text

-- no count rose, or that of a sink
abbrev pub SinksCause : {T E : Type 0} → (old new : Faults) → Result T E → Type 0
SinksCause old new (Ok x) = (new.out ≡ old.out) × (new.trace ≡ old.trace)
SinksCause old new (Err e) = SinksRose old new × (old.out ≤ new.out) × (old.trace ≤ new.trace)
