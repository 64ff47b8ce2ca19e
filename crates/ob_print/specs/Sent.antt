-- What becomes of bytes that wait for their sink.
use Rattle.std.specs.Prelude.{ℕ, ◌≡◌, ◌⊎◌, List, [], ◌++◌, Option, refl}
use Rattle.std.specs.Io.KnownBytes.{Appends}
use Rattle.std.proofs.Common.{inl}
use Rattle.std.proofs.KnownBytes.{Appends-nil}

-- these bytes came after those that waited, and a sink took the first of all of them; the others wait, except for those that
-- were lost after a fault
pub record Sends (written0 written1 : Option (List ℕ)) (waiting0 waiting1 : List ℕ)
    (Fault : Type 0) (bytes : List ℕ) : Type 0 where
  pub sent : List ℕ
  pub appends : Appends written0 written1 sent
  pub lost : List ℕ
  pub joined : waiting0 ++ bytes ≡ (sent ++ waiting1) ++ lost
  pub all : (lost ≡ []) ⊎ Fault

pub sends_none : (written : Option (List ℕ)) (waiting : List ℕ)
    → Sends written written waiting waiting ⊥ []
sends_none written waiting =
    record { sent = []; appends = Appends-nil written; lost = []; joined = refl; all = inl refl }
