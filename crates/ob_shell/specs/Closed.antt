-- The last line of a run.
use Rattle.std.specs.Prelude.{ℕ, ◌≡◌, ◌≤◌, List, [], Option, Err}
use Rattle.ob_base.specs.Counts.{Rises}
use Rattle.ob_base.specs.declared.refusal.Stop.TheVariants.{NoMemory}
use Rattle.ob_headline.specs.declared.ending.Ending.{Ending}
use Rattle.ob_headline.specs.declared.ending.Ending.TheVariants.{Usage, Ran}
use Rattle.ob_print.specs.Cuts.{Outputs}
use Rattle.ob_words.specs.declared.words.WordsErr.{WordsErr}
use Rattle.ob_words.specs.declared.words.WordsErr.TheVariants as Words
use Rattle.ob_store.specs.State.{StoreState}

-- nothing more was written, and no call failed
pub record Unwritten (written0 written1 : Option (List ℕ)) (faults0 faults1 : ℕ) : Type 0 where
  pub written : written1 ≡ written0
  pub faults : faults1 ≡ faults0

-- the line was written, or cut by a fault
pub record LineWritten (line : List ℕ) (written0 written1 : Option (List ℕ)) (faults0 faults1 : ℕ) : Type 0 where
  pub cut : Outputs written0 written1 (Rises faults0 faults1) line
  pub later : faults0 ≤ faults1
  pub empty : line ≡ [] → faults1 ≡ faults0

-- nothing was read, and nothing asked of the store
pub record Untouched (left0 left1 : Option (List ℕ)) (store0 store1 : StoreState) : Type 0 where
  pub unread : left1 ≡ left0
  pub unasked : store1 ≡ store0

-- how a run ends whose words were not read
abbrev pub refused_by : WordsErr → Ending
refused_by Words.Usage = Usage
refused_by Words.NoMemory = Ran (Err NoMemory)
