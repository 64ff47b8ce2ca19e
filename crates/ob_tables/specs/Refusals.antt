-- Refusals, and when they come.
use Rattle.std.specs.Prelude.{◌≡◌, ℕ, false}
use Rattle.ob_base.specs.declared.refusal.Refusal.{Refusal}
use Rattle.ob_base.specs.declared.refusal.Refusal.TheVariants.{Duplicate, Full, KeyRange, TooManyGroups, NotConsecutive, Overflow, StoreFault, PadPassed}
use Rattle.ob_base.specs.declared.seen.End.{End}
use Rattle.ob_base.specs.declared.seen.End.TheVariants.{Static, Whole, AfterCount, Cut}
use Rattle.ob_base.specs.Refusals.{is_store_fault}

-- a refusal that is none by the store
abbrev pub IsNoFault : Refusal → Type 0
IsNoFault r = is_store_fault r ≡ false

-- how a statement of n accesses ends that is refused so: by the store in the midst, where rows aren't consecutive
-- after its count, by its rows at its end, and before any access otherwise
abbrev pub refused_end : Refusal → (n : ℕ) → End
refused_end StoreFault n = Cut n
refused_end NotConsecutive n = AfterCount
refused_end Duplicate n = Whole
refused_end Full n = Whole
refused_end KeyRange n = Whole
refused_end TooManyGroups n = Whole
refused_end (Overflow i) n = Whole
refused_end PadPassed n = Whole
refused_end _ n = Static
