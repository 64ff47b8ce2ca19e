-- The region of a joined table.
use Rattle.std.proofs.Common.{◌≡◌, ◌+◌, ◌*◌, ◌++◌, ◌≤◌, ℕ, List, length, sym, ◌∙◌, ap, subst, arith, length-append}
use Rattle.std.specs.Int.{div_ceil}
use Rattle.std.specs.Prelude.{◌⊎◌, Result, MatchResult}
use Rattle.ob_base.specs.declared.access.Access.{Access}
use Rattle.ob_base.specs.Accesses.{make_at}
use Rattle.ob_base.specs.Joins.{chunks}
use Rattle.ob_base.specs.Limits.{buffered_blocks}
use Rattle.ob_base.specs.Numbers.{blocks_for}
use Rattle.ob_base.specs.Schemas.{Columns, width}
use Rattle.ob_store.specs.State.{StoreState}
use Rattle.ob_store.specs.Runs.{Did}
use Rattle.ob_vault.specs.State.{World}
use Rattle.ob_vault.specs.Calls.{Went}
use Rattle.ob_row.specs.Slots.{Slots}
use Rattle.ob_row.specs.Results.{joined}
use Rattle.ob_flat.specs.declared.fault.OpErr.{OpErr}
use Rattle.ob_flat.specs.declared.fault.OpErr.TheVariants as OpErrs
use Rattle.ob_flat.specs.declared.flat.Flat.{Flat}
use Rattle.ob_flat.specs.Flats.{Represents}
use Rattle.ob_flat.specs.Passes.{PassCut}
use Rattle.ob_join.specs.Joining.{joined_in}
use Rattle.ob_join.proofs.Pairs.{width-join}
use Rattle.ob_join.proofs.Results.{whole_product}

-- as many blocks, and as wide
module _ (g n m w v : ℕ) (some : ℕ → Type 0) (a b : World) (blocks : n ≡ m) (wide : w ≡ v) where
  script : make_at g n w ≡ make_at g m v
  script = ap (λ (k : ℕ). make_at g k w) blocks ∙ ap (make_at g m) wide

  pub went_make : Went (make_at g n w) some a b → Went (make_at g m v) some a b
  went_make went = subst (λ (l : List Access). Went l some a b) script went

  pub cut_make : (e : OpErr) → PassCut e (make_at g n w) some a b → PassCut e (make_at g m v) some a b
  cut_make e cut = subst (λ (l : List Access). PassCut e l some a b) script cut

pub did_make : (g n m w v : ℕ) (blocks : n ≡ m) (wide : w ≡ v) {s t : StoreState} → Did (make_at g n w) s t → Did (make_at g m v) s t
did_make g n m w v blocks wide {s} {t} did = subst (λ (l : List Access). Did l s t) (λ i. make_at g (blocks i) (wide i)) did

-- its capacity, by its blocks
pub capacity_is : (pack left right q a c b : ℕ) → a ≡ div_ceil left pack → c ≡ div_ceil a q → b ≡ div_ceil right pack → c * b * pack ≡ div_ceil (blocks_for pack left) q * blocks_for pack right * pack
capacity_is pack left right q a c b lefts chunked rights =
    ap (λ (n : ℕ). n * b * pack) (chunked ∙ ap (λ (n : ℕ). div_ceil n q) lefts) ∙ ap (λ (n : ℕ). div_ceil (blocks_for pack left) q * n * pack) rights

pub blocks_are : (pack left right q a c b : ℕ) → 1 ≤ pack → a ≡ div_ceil left pack → c ≡ div_ceil a q → b ≡ div_ceil right pack → blocks_for pack (c * b * pack) ≡ div_ceil (blocks_for pack left) q * blocks_for pack right
blocks_are pack left right q a c b some lefts chunked rights =
    ap (blocks_for pack) (capacity_is pack left right q a c b lefts chunked rights) ∙ whole_product (div_ceil (blocks_for pack left) q * blocks_for pack right) pack some

-- a left row is no wider than a joined one
pub left_narrow : (l r : Columns) → width l ≤ width (l ++ r)
left_narrow l r = omega (arith, width-join l r)

-- nor a right one
pub right_narrow : (l r : Columns) → width r ≤ width (l ++ r)
right_narrow l r = omega (arith, width-join l r)

-- the slots of all chunks, by the tables' capacities
pub joined_is : (i j pack room n m : ℕ) (left right : Slots) → length left ≡ n → length right ≡ m
    → joined_in i j (pack * buffered_blocks pack room) (chunks pack room n) (blocks_for pack m * pack) left right ≡ joined i j pack room left right
joined_is i j pack room n m left right first second =
    ap (λ (k : ℕ). joined_in i j (pack * buffered_blocks pack room) (chunks pack room k) (blocks_for pack m * pack) left right) (sym first)
    ∙ ap (λ (k : ℕ). joined_in i j (pack * buffered_blocks pack room) (chunks pack room (length left)) (blocks_for pack k * pack) left right) (sym second)

-- a result has other slots where these are the same
pub told_is : (pack : ℕ) (r : Result Flat OpErr) (x y : Slots) (w : World) → x ≡ y
    → MatchResult r (λ fresh. Represents pack fresh x w) (λ e. (e ≡ OpErrs.Failed) ⊎ (e ≡ OpErrs.NoMemory)) → MatchResult r (λ fresh. Represents pack fresh y w) (λ e. (e ≡ OpErrs.Failed) ⊎ (e ≡ OpErrs.NoMemory))
told_is pack r x y w same told = subst (λ (l : Slots). MatchResult r (λ fresh. Represents pack fresh l w) (λ e. (e ≡ OpErrs.Failed) ⊎ (e ≡ OpErrs.NoMemory))) same told

-- its columns are those of both tables
pub columns_few : (l r : Columns) → length (l ++ r) ≤ 32 → length l + length r ≤ 32
columns_few l r few = omega (arith, few, length-append l r)
