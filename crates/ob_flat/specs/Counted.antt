-- What a counting pass does.
use Rattle.std.specs.Prelude.{◌≡◌, ◌⊎◌, ◌≤◌, ℕ, Bool, None, Result, IfOk, IfErr, MatchResult, length}
use Rattle.ob_script.specs.Parts.{count_part}
use Rattle.ob_vault.specs.State.{World}
use Rattle.ob_vault.specs.Calls.{none}
use Rattle.ob_vault.specs.Words.{SealsAll}
use Rattle.ob_row.specs.Rows.{Row}
use Rattle.ob_row.specs.Slots.{Slots, selected, is_consecutive}
use Rattle.ob_flat.specs.declared.counting.Counted.{Counted}
use Rattle.ob_flat.specs.declared.flat.Flat.{Flat}
use Rattle.ob_flat.specs.declared.fault.OpErr.{OpErr}
use Rattle.ob_flat.specs.declared.fault.OpErr.TheVariants.{Failed}
use Rattle.ob_flat.specs.Flats.{IsFlat, Represents}
use Rattle.ob_flat.specs.Words.{PassRan, TamperedIn, blocks_of}

-- how many rows are selected, and whether one follows the other
abbrev pub count_of : (Row → Bool) → Slots → Counted
count_of p slots = record {
  k = length (selected p slots);
  consecutive = is_consecutive (selected p slots);
}

-- each block was read once, in order, and the selected rows counted
pub record CountsRows (pack : ℕ) (flat : Flat) (p : Row → Bool)
    (result : Result Counted OpErr) (old new : World) : Type 0 where
  pub ran : PassRan (count_part flat.region (blocks_of pack flat)) none result old new
  pub never : IfErr result (λ e. (e ≡ Failed) ⊎ TamperedIn pack flat e new)
  pub seals : SealsAll old new
  pub source : IsFlat pack flat new
  pub most : IfOk result (λ counted. counted.k ≤ flat.capacity)
  pub told : (slots : Slots) → Represents pack flat slots old → new.store.lie ≡ None
      → MatchResult result (λ counted. counted ≡ count_of p slots) (λ e. e ≡ Failed)
