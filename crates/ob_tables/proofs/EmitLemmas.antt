-- The rows that are selected and emitted, and reads of blocks that were changed.
use Rattle.ob_tables.proofs.Words.{ap, Untampered, is_true, IsTrue, Lasts, length, FalseRead, List, None, Option, refl, rows, Slots, Some, subst, suc, sym, TagFits, World, ℕ, [], ◌∷◌, ◌≡◌}
use Rattle.ob_base.specs.declared.shown.Shown.{Shown}
use Rattle.ob_base.specs.Lists.{places_from}
use Rattle.ob_row.specs.Condition.{All}
use Rattle.ob_row.specs.Slots.{is_selected, selected}
use Rattle.ob_vault.specs.Tied.{IsUnfit}

-- ---- a count
-- the selected places, where every row is selected
places_all : (n : ℕ) (slots : Slots) → length (places_from n (is_selected (is_true All)) slots) ≡ length (rows slots)
places_all n [] = refl
places_all n (None ∷ slots) = places_all (suc n) slots
places_all n (Some row ∷ slots) = ap suc (places_all (suc n) slots)

pub selected_all : (slots : Slots) → length (selected (is_true All) slots) ≡ length (rows slots)
selected_all slots = places_all 0 slots

-- a block that was changed and doesn't fit was not read
pub unfit_none : (w : World) → Untampered w → IsUnfit w → w.store.lie ≡ None
unfit_none w calm unfit = go w.store.lie refl
  where
    go : (o : Option FalseRead) → w.store.lie ≡ o → w.store.lie ≡ None
    go None is = is
    go (Some lie) is = absurd (unfit.unfit lie is (calm.calm lie is))

-- no changed block was read, where none that fits was, and none that doesn't was later
pub lie_none : (some : ℕ → Type 0) (a b : World) → Lasts some a b → Untampered a → IsUnfit b → a.store.lie ≡ None
lie_none some a b lasts calm unfit = go a.store.lie refl
  where
    go : (o : Option FalseRead) → a.store.lie ≡ o → a.store.lie ≡ None
    go None is = is
    go (Some lie) is =
        absurd (unfit.unfit lie (lasts.later.lie lie is) (subst (λ k. TagFits k b.vault.start lie) (sym lasts.keys) (subst (λ x. TagFits a.vault.keys x lie) (sym lasts.start) (calm.calm lie is))))
