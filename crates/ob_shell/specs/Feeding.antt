-- What a feed of single bytes takes from its source.
use Rattle.std.specs.Prelude.{ℕ, ◌≡◌, ◌+◌, ◌<◌, ◌≤◌, min, List, [], ◌∷◌, ◌++◌, length, Option, Some, None, Result, Ok, Err}
use Rattle.std.specs.Io.KnownBytes.{Consumes, IsAtEnd}
use Rattle.ob_base.specs.Counts.{Rises}
use Rattle.ob_shell.specs.declared.feed.Halt.{Halt}
use Rattle.ob_shell.specs.declared.feed.Halt.TheVariants.{SourceFault, InputLimit}

-- the bytes that were read and not yet handed on, how many were read in all, and how many may be
pub record Fetch : Type 0 where
  pub unread : List ℕ
  pub taken : ℕ
  pub limit : ℕ

-- the bytes that were not handed on came by the source's last read, which gave so many: at most 4,096, if there was one
pub record IsFedBy (f : Fetch) (gave : ℕ) : Type 0 where
  pub late : length f.unread ≤ gave
  pub few : min gave f.taken ≤ 4096

-- from one state to a later one these bytes were handed on
pub record Fed (old new : Fetch) (left0 left1 : Option (List ℕ)) (bytes : List ℕ) : Type 0 where
  pub piece : List ℕ
  pub consumed : Consumes left0 left1 piece
  pub joined : old.unread ++ piece ≡ bytes ++ new.unread
  pub taken : new.taken ≡ old.taken + length piece
  pub limit : new.limit ≡ old.limit

-- the byte that was handed on, if any
abbrev pub bytes_of : Result (Option ℕ) Halt → List ℕ
bytes_of (Ok (Some b)) = b ∷ []
bytes_of (Ok None) = []
bytes_of (Err h) = []

-- when each answer comes
abbrev pub FetchCause : (new : Fetch) (left1 : Option (List ℕ)) (gave faults0 faults1 : ℕ)
    → Result (Option ℕ) Halt → Type 0
FetchCause new left1 gave faults0 faults1 (Ok (Some b)) =
    (faults1 ≡ faults0) × (b < 256) × (length new.unread < gave)
FetchCause new left1 gave faults0 faults1 (Ok None) =
    (faults1 ≡ faults0) × (new.unread ≡ []) × IsAtEnd left1 × (new.taken < new.limit)
FetchCause new left1 gave faults0 faults1 (Err SourceFault) =
    Rises faults0 faults1 × (new.unread ≡ [])
FetchCause new left1 gave faults0 faults1 (Err InputLimit) =
    (faults1 ≡ faults0) × (new.unread ≡ []) × (new.taken ≡ new.limit)

-- the same over many bytes: when the reading halts
abbrev pub HaltCause : {T : Type 0} (faults0 faults1 taken limit : ℕ) → Result T Halt → Type 0
HaltCause faults0 faults1 taken limit (Ok x) = faults1 ≡ faults0
HaltCause faults0 faults1 taken limit (Err SourceFault) = Rises faults0 faults1
HaltCause faults0 faults1 taken limit (Err InputLimit) = (faults1 ≡ faults0) × (taken ≡ limit)
