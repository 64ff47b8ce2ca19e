-- Loops over the blocks of a table.
use Rattle.std.proofs.Common.{◌≡◌, ◌<◌, ◌≤◌, ◌+◌, ◌*◌, ◌^◌, ◌-◌, ◌==◌, if◌then◌else◌, ℕ, Bool, true, false, List, take, count_by, refl, sym, ◌∙◌, ap, subst, arith, Fits, w32, w64}
use Rattle.ob_base.specs.declared.access.Access.{Access}
use Rattle.ob_base.specs.Lists.{each}
use Rattle.ob_base.specs.Numbers.{blocks_for}
use Rattle.ob_blocks.specs.Blocks.{scanned}
use Rattle.ob_vault.specs.declared.region.Order.{Order}
use Rattle.ob_vault.specs.State.{World}
use Rattle.ob_vault.specs.Tied.{Lives, OnTurn, Written}
use Rattle.ob_vault.specs.Calls.{Went}
use Rattle.ob_flat.specs.declared.flat.Flat.{Flat}
use Rattle.ob_flat.specs.Flats.{IsFlat, table_region}
use Rattle.ob_flat.proofs.Tables.{at_last}

-- a block of the loop is one of the table
pub below_all : {i m n : ℕ} → i < m → m ≡ n → i < n
below_all {i} below same = subst (λ (k : ℕ). i < k) same below

pub no_less : (n : ℕ) → n < 0 → ⊥
no_less n below = omega arith

-- the loop ends after the last one
pub at_end : {i m n : ℕ} → i ≤ m → m ≤ i → m ≡ n → i ≡ n
at_end most least same = omega arith

-- and comes nearer to it
pub nearer : (i n : ℕ) → i < n → n - (i + 1) < n - i
nearer i n below = omega arith

pub pack_fits : (n : ℕ) → n ≤ 16 → Fits w32 n
pack_fits n few = omega arith

-- what is counted in the blocks so far, and in the next
pub count_fits : (k n block pack u : ℕ) → k ≤ u * pack → n ≤ block → block ≡ pack → u * pack + pack ≤ 16777232 → Fits w32 (k + n)
count_fits k n block pack u few most size room = omega arith

-- an index of its slots
pub index_w32 : (u pack : ℕ) → u * pack + pack ≤ 2147483648 → Fits w32 (u * pack)
index_w32 u pack room = omega arith

-- one more access is left, of as many as there are blocks
pub spare_more : {all now asked i n : ℕ} → n ≤ all → all ≤ now + asked → asked ≡ i → i < n → 1 ≤ now
spare_more enough spare same below = omega arith

pub one_of_two : {n : ℕ} → 2 ≤ n → 1 ≤ n
one_of_two enough = omega arith

pub one_is_left : {n m : ℕ} → 2 ≤ n → n ≤ m + 1 → 1 ≤ m
one_is_left enough spare = omega arith

pub less_same : {i j n : ℕ} → i ≡ j → j < n → i < n
less_same same less = omega arith

-- a region is made before its blocks are written
pub spare_first : {s : ℕ} (n : ℕ) → 1 + n ≤ s → 1 ≤ s
spare_first n enough = omega arith

pub spare_rest : {n s t k : ℕ} → 1 + n ≤ s → s ≤ t + 1 → k ≡ n → k ≤ t
spare_rest enough spare same = omega arith

pub few_first : {n : ℕ} → n < 2 ^ 63 + 2 ^ 59 → n < 2 ^ 63 + 2 ^ 60
few_first few = omega arith

pub few_left : {new old : ℕ} → old < 2 ^ 63 + 2 ^ 59 → new ≡ old + 1 → new < 2 ^ 63 + 2 ^ 59 + 1
few_left few more = omega (arith, few, more)

-- nothing before the first one
pub zero_times : (n : ℕ) → 0 ≡ 0 * n
zero_times n = omega arith

pub none_counted : (n : ℕ) → 0 ≤ 0 * n
none_counted n = omega arith

pub count_start : {A : Type 0} (p : A → Bool) (l : List A) (n : ℕ) → 0 ≡ count_by p (take (0 * n) l)
count_start p l n =
    let start : 0 ≡ count_by p (take 0 l) = refl in
    start ∙ ap (λ (k : ℕ). count_by p (take k l)) (zero_times n)

pub scan_start : {A B : Type 0} (step : B → ℕ → A → B) (b : B) (l : List A) (n : ℕ) → b ≡ scanned step 0 b (take (0 * n) l)
scan_start step b l n =
    let start : b ≡ scanned step 0 b (take 0 l) = refl in
    start ∙ ap (λ (k : ℕ). scanned step 0 b (take k l)) (zero_times n)

-- the first place is in turn
pub first_place : (n : ℕ) → ◌≡◌ {A = ℕ} (if 0 == n then 0 else 0) 0
first_place n = either (0 == n)
  where
    either : (b : Bool) → ◌≡◌ {A = ℕ} (if b then 0 else 0) 0
    either true = refl
    either false = refl

-- all was asked
pub went_all : {i n : ℕ} {some : ℕ → Type 0} {a b : World} (part : ℕ → List Access) → i ≡ n → Went (each i part) some a b → Went (each n part) some a b
went_all {i} {n} {some} {a} {b} part last went = subst (λ (k : ℕ). Went (each k part) some a b) last went

-- the blocks of a table were written
pub flat_all : (pack i : ℕ) (order : Order) (flat : Flat) (w : World) → i ≡ blocks_for pack flat.capacity → Lives flat.region (table_region order pack flat.schema flat.capacity) w
    → OnTurn flat.region (table_region order pack flat.schema flat.capacity) (if i == blocks_for pack flat.capacity then 0 else i) w → ((p : ℕ) → p < i → Written flat.region p w) → IsFlat pack flat w
flat_all pack i order flat w last lives turn written = record {
  made = record { order = order; lives = lives; turn = subst (λ (x : ℕ). OnTurn flat.region (table_region order pack flat.schema flat.capacity) x w) (at_last i (blocks_for pack flat.capacity) last) turn };
  written = λ p below. written p (below_all below (sym last));
}

-- a row of a block, and its index
pub row_w32 : {z n : ℕ} (first : ℕ) → z < n → first + n ≤ 2147483648 → Fits w32 z
row_w32 first below room = omega arith

pub row_index : {z n : ℕ} (first : ℕ) → z < n → first + n ≤ 2147483648 → first + z < 2147483648
row_index first below room = omega arith

pub row_index_w32 : {z n : ℕ} (first : ℕ) → z < n → first + n ≤ 2147483648 → Fits w32 (first + z)
row_index_w32 first below room = omega arith

pub row_offset : {z n : ℕ} (first : ℕ) → z < n → first + n ≤ 2147483648 → Fits w64 (z * 24)
row_offset first below room = omega arith

pub row_next : (first z : ℕ) → (first + z) + 1 ≡ first + (z + 1)
row_next first z = omega arith

pub row_first : (first : ℕ) → first ≡ first + 0
row_first first = omega arith

-- after the last one
pub most_all : {i m n : ℕ} → i ≤ m → m ≤ n → i ≤ n
most_all few most = omega arith

pub same_most : {i m n : ℕ} → i ≡ m → m ≤ n → i ≤ n
same_most {n = n} same most = subst (λ (k : ℕ). k ≤ n) (sym same) most

pub at_most_itself : (n : ℕ) → n ≤ n
at_most_itself n = omega arith

-- a row after another
pub passed : {i j : ℕ} → i + 1 ≤ j → i ≤ j
passed past = omega arith

pub not_passed : {i j : ℕ} → j ≡ i → i + 1 ≤ j → ⊥
not_passed same past = omega arith

pub below_end : {j k n i : ℕ} → j < k → k ≡ n → n ≤ i → j < i
below_end below same most = omega arith
