-- The status of a run, and why it ends.
use Rattle.std.specs.Prelude.{ℕ, ◌≡◌, ◌<◌, ◌≤◌, ◌+◌, ◌^◌, ◌⊎◌, ⊤, Bool, true, false, List, [], ◌∷◌, ◌++◌, length, IsSome, None, Ok, Err, Some}
use Rattle.ob_base.specs.Counts.{Rises}
use Rattle.ob_base.specs.declared.access.Access.{Access}
use Rattle.ob_base.specs.declared.access.Access.TheVariants.{Read}
use Rattle.ob_base.specs.declared.refusal.Stop.TheVariants.{Tampered, SourceFault, SinkFault, NoMemory, InputLimit, StoreFault, StashFull, KeeperFault}
use Rattle.ob_headline.specs.Bases.{Base, FromEach}
use Rattle.ob_headline.specs.Flights.{FliesNone}
use Rattle.ob_headline.specs.KeyLine.{LineTaken, after_line, first_line, has_lf, line_max, secret_of}
use Rattle.ob_headline.specs.Texts.{is_over, rest_of as pending_of}
use Rattle.ob_headline.specs.declared.ending.Ending.{Ending}
use Rattle.ob_headline.specs.declared.ending.Ending.TheVariants.{Usage, BadKey, Ran}
use Rattle.ob_headline.specs.Words.{Outside, SinksRose, NoneRose, IsHonest, Answer, any_refused}
use Rattle.ob_headline.specs.Endings.{status_of}
use Rattle.ob_headline.specs.Settings.{limit_of}
use Rattle.ob_headline.specs.Story.{Story}
use Rattle.ob_store.specs.State.{StoreState}
use Rattle.ob_vault.specs.State.{earlier}

-- the first line is a secret
abbrev pub HasSecret : List ℕ → Type 0
HasSecret taken = IsSome (secret_of (first_line taken))

-- of the texts nothing is left
pub record AllServed (more : List (List ℕ)) (part : List ℕ) : Type 0 where
  pub no_more : more ≡ []
  pub no_part : part ≡ []

-- the input was read to its end, within its limits, and all of it was served
pub record ReadWhole (max : ℕ) (taken : List ℕ) (ended : Bool) (more : List (List ℕ))
    (part : List ℕ) : Type 0 where
  pub secret : HasSecret taken
  pub whole : ended ≡ true
  pub all : AllServed more part
  pub short : is_over (pending_of [] (after_line taken)) ≡ false
  pub within : length taken < max

-- the source failed after these bytes, and all of them was served
pub record ReadUntilFault (taken : List ℕ) (ended : Bool) (more : List (List ℕ))
    (part : List ℕ) : Type 0 where
  pub line : HasSecret taken ⊎ ((has_lf taken ≡ false) × (length taken < line_max))
  pub cut : ended ≡ false
  pub all : AllServed more part
  pub short : is_over (pending_of [] (after_line taken)) ≡ false

-- a text, or the whole input, has come to its limit, and all that was taken was served
pub record ReadToLimit (max : ℕ) (taken : List ℕ) (ended : Bool) (more : List (List ℕ))
    (part : List ℕ) : Type 0 where
  pub secret : HasSecret taken
  pub cut : ended ≡ false
  pub all : AllServed more part
  pub limit : (is_over (pending_of [] (after_line taken)) ≡ true) ⊎ (length taken ≡ max)

-- the last access was a read of this place
pub record EndsAtRead (region place : ℕ) (asked : List Access) : Type 0 where
  pub before : List Access
  pub is : asked ≡ before ++ Read region place ∷ []

-- tables were to be saved, and no number is left that a mark may name
pub record IsUsedUp (base : Base) (store : StoreState) : Type 0 where
  pub saves : base.public.save ≡ true
  pub late : 2 ^ 63 ≤ earlier base.start + length store.asked + 1

-- the store failed, or has no number left
abbrev pub StoreFails : Base → (old new : StoreState) → Type 0
StoreFails base old new = Rises old.faults new.faults ⊎ IsUsedUp base new

-- a count of faults stays where statements are served alone, and else it stays or rises
abbrev pub StaysAlone : (Alone : Type 0) → (old new : ℕ) → Type 0
StaysAlone Alone old new = (Alone → new ≡ old) × ((new ≡ old) ⊎ Rises old new)

-- the source didn't fail; where statements may wait to be served together while more is read, it may have, before one of them
-- was stopped
abbrev pub SourceStays : Base → (old new : Outside) → Type 0
SourceStays base old new =
    StaysAlone ((base.public.batch ≡ None) × FliesNone base) old.faults.source new.faults.source

-- of the words, the bytes taken, what was served, the store and the counts of faults; a keeper is handed something only where
-- tables are saved
abbrev pub Because : Base → Ending → (Takes : Type 0) (max : ℕ) (taken : List ℕ) (ended : Bool)
    (more : List (List ℕ)) (answers : List Answer) (part : List ℕ) (old new : Outside) → Type 0
Because base Usage Takes max taken ended more answers part old new =
    (¬ Takes) × (taken ≡ []) × (new.faults.source ≡ old.faults.source)
Because base BadKey Takes max taken ended more answers part old new =
    Takes × (secret_of (first_line taken) ≡ None) × LineTaken taken new.left
    × (new.faults.source ≡ old.faults.source)
Because base (Ran (Ok refused)) Takes max taken ended more answers part old new =
    Takes × (refused ≡ any_refused answers) × ReadWhole max taken ended more part
    × NoneRose old.faults new.faults
Because base (Ran (Err (Tampered region place))) Takes max taken ended more answers part old new =
    Takes × HasSecret taken × FromEach base (λ s. ¬ IsHonest old.store new.store)
    × EndsAtRead region place new.store.asked × SourceStays base old new
Because base (Ran (Err SourceFault)) Takes max taken ended more answers part old new =
    Takes × ReadUntilFault taken ended more part × Rises old.faults.source new.faults.source
Because base (Ran (Err SinkFault)) Takes max taken ended more answers part old new =
    Takes × HasSecret taken × SinksRose old.faults new.faults
    × SourceStays base old new
Because base (Ran (Err NoMemory)) Takes max taken ended more answers part old new =
    SourceStays base old new
Because base (Ran (Err InputLimit)) Takes max taken ended more answers part old new =
    Takes × ReadToLimit max taken ended more part × (new.faults.source ≡ old.faults.source)
Because base (Ran (Err StoreFault)) Takes max taken ended more answers part old new =
    Takes × HasSecret taken × StoreFails base old.store new.store
    × SourceStays base old new
Because base (Ran (Err StashFull)) Takes max taken ended more answers part old new =
    Takes × HasSecret taken × SourceStays base old new
Because base (Ran (Err KeeperFault)) Takes max taken ended more answers part old new =
    Takes × HasSecret taken × (base.public.save ≡ true)
    × SourceStays base old new

-- an input that keeps to the limits: its first line is a secret, and neither it nor a text of it is too long
pub record KeepsLimits (max : ℕ) (input : List ℕ) : Type 0 where
  pub secret : HasSecret input
  pub short : length input < max
  pub texts : is_over (pending_of [] (after_line input)) ≡ false

-- the input was read to its end, or memory was wanting, or a block was not what was written there, or the store failed, or
-- the stash of an index was full, or, where tables are saved, the keeper failed
abbrev pub IsCompleted : (honest faulted saving : Type 0) → Ending → Type 0
IsCompleted honest faulted saving (Ran (Ok refused)) = ⊤
IsCompleted honest faulted saving (Ran (Err (Tampered region place))) = ¬ honest
IsCompleted honest faulted saving (Ran (Err NoMemory)) = ⊤
IsCompleted honest faulted saving (Ran (Err StoreFault)) = faulted
IsCompleted honest faulted saving (Ran (Err StashFull)) = ⊤
IsCompleted honest faulted saving (Ran (Err KeeperFault)) = saving
IsCompleted honest faulted saving _ = ⊥

-- it says how the run ended, for its cause; and one that nothing hinders comes to the end of its input
pub record Status (base : Base) (Takes : Type 0) (taken : List ℕ) (ended : Bool)
    (ending : Ending) (story : Story) (old new : Outside) (said : ℕ) : Type 0 where
  pub status : said ≡ status_of ending
  pub because : Because base ending Takes (limit_of base.settings) taken ended story.more
      story.answers story.part old new
  pub completes : Takes → (input : List ℕ) → old.left ≡ Some input
      → KeepsLimits (limit_of base.settings) input
      → ¬ Rises old.faults.source new.faults.source → ¬ SinksRose old.faults new.faults
      → FromEach base (λ s. IsCompleted (IsHonest old.store new.store)
      (StoreFails base old.store new.store) (base.public.save ≡ true) ending)
