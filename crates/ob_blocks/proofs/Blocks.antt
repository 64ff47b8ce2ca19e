-- Blocks of r slots.
use Rattle.std.proofs.Common.{◌≡◌, ◌≤◌, ◌<◌, ◌+◌, ◌*◌, ◌-◌, ℕ, zero, suc, Bool, List, [], ◌∷◌, ◌++◌, Option, None, length, replicate, take, drop, count_by, slice_index_or, if◌then◌else◌, refl, sym, ◌∙◌, ap, arith, length-append, append_assoc}
use Rattle.std.proofs.lemmas.List.{get_or-take, get_or-drop, length-replicate, length-take, length-drop, take_all, take_more, drop-replicate, take-append-drop, take-append-le, drop-append-le}
use Rattle.std.proofs.lemmas.List.Sums.{sum_by-append, sum_by-cons}
use Rattle.std.proofs.lemmas.List.Elements as elements
use Rattle.std.proofs.lemmas.Slice.{drop-append-drop}
use Rattle.std.proofs.Math.Seq.{take-add, take-append_seam, drop-append_seam}
use Rattle.std.specs.List.{All}
use Rattle.ob_blocks.specs.Blocks.{none_of, up_to, block_at, with_block, scanned}

-- the elements up to the next block
pub take_blocks : {A : Type 0} (r : ℕ) (all : List A) (u : ℕ) → take ((u + 1) * r) all ≡ take (u * r) all ++ block_at r all u
take_blocks r all u = let next : (u + 1) * r ≡ u * r + r = grind arith in ap (λ (n : ℕ). take n all) next ∙ take-add (u * r) r all

-- a block has r elements
pub length-block : {A : Type 0} (r : ℕ) (all : List A) (u blocks : ℕ) → u < blocks → length all ≡ blocks * r → length (block_at r all u) ≡ r
length-block r all u blocks below size =
    let fits : u * r + r ≤ blocks * r = grind arith in
    omega (arith, fits, length-take r (drop (u * r) all), length-drop (u * r) all)

pub length-before : {A : Type 0} (r : ℕ) (all : List A) (u blocks : ℕ) → u ≤ blocks → length all ≡ blocks * r → length (take (u * r) all) ≡ u * r
length-before r all u blocks below size =
    let fits : u * r ≤ blocks * r = grind arith in
    omega (arith, fits, length-take (u * r) all)

pub all_block : {A : Type 0} (P : A → Type 0) (r : ℕ) (all : List A) (u : ℕ) → All P all → All P (block_at r all u)
all_block P r all u is = elements.All-take P r (drop (u * r) all) (elements.All-drop P (u * r) all is)

-- a list with another block p
module _ {A : Type 0} (r blocks : ℕ) (all : List A) (size : length all ≡ blocks * r) (p : ℕ) (below : p < blocks) (block : List A) (whole : length block ≡ r) where
  before : length (take (p * r) all) ≡ p * r
  before = length-before r all p blocks (omega (arith, below)) size

  next : (p + 1) * r ≡ p * r + r
  next = grind arith

  fits : p * r + r ≤ blocks * r
  fits = let room : (p + 1) * r ≤ blocks * r = grind arith in omega (arith, room, next)

  pub length-with_block : length (with_block r all p block) ≡ blocks * r
  length-with_block =
      omega (arith, before, whole, size, next, fits, length-append (take (p * r) all) (block ++ drop ((p + 1) * r) all), length-append block (drop ((p + 1) * r) all), length-drop ((p + 1) * r) all)

  pub block_same : block_at r (with_block r all p block) p ≡ block
  block_same =
      let tail = drop ((p + 1) * r) all in
      ap (λ (n : ℕ). take r (drop n (with_block r all p block))) (sym before)
      ∙ ap (take r) (drop-append_seam (take (p * r) all) (block ++ tail))
      ∙ ap (λ (n : ℕ). take n (block ++ tail)) (sym whole) ∙ take-append_seam block tail

  one_before : (x : ℕ) (ys : List A) → x < p → block_at r (take (p * r) all ++ ys) x ≡ take r (drop (x * r) (take (p * r) all))
  one_before x ys earlier =
      let room : x * r + r ≤ p * r = (let step : (x + 1) * r ≤ p * r = grind arith in let one : (x + 1) * r ≡ x * r + r = grind arith in omega (arith, step, one)) in
      ap (take r) (drop-append-le (x * r) (take (p * r) all) ys (omega (arith, room, before)))
      ∙ take-append-le r (drop (x * r) (take (p * r) all)) ys (omega (arith, room, before, length-drop (x * r) (take (p * r) all)))

  pub block_before : (x : ℕ) → x < p → block_at r (with_block r all p block) x ≡ block_at r all x
  block_before x earlier =
      one_before x (block ++ drop ((p + 1) * r) all) earlier ∙ sym (one_before x (drop (p * r) all) earlier) ∙ ap (λ (l : List A). block_at r l x) (take-append-drop (p * r) all)

  pub block_after : (x : ℕ) → p < x → block_at r (with_block r all p block) x ≡ block_at r all x
  block_after x later =
      let room : (p + 1) * r ≤ x * r = grind arith in
      let front : length (take (p * r) all ++ block) ≡ (p + 1) * r = omega (arith, before, whole, next, length-append (take (p * r) all) block) in
      ap (λ (l : List A). block_at r l x) (sym (append_assoc (take (p * r) all) block (drop ((p + 1) * r) all)))
      ∙ ap (take r) (drop-append-drop ((p + 1) * r) all (take (p * r) all ++ block) (x * r) room front)

  pub all_with_block : (P : A → Type 0) → All P all → All P block → All P (with_block r all p block)
  all_with_block P is here =
      elements.All-append P (take (p * r) all) (block ++ drop ((p + 1) * r) all) (elements.All-take P (p * r) all is)
      (elements.All-append P block (drop ((p + 1) * r) all) here (elements.All-drop P ((p + 1) * r) all is))

module _ {A : Type 0} where
  pub length-up_to : (n : ℕ) (slots : List (Option A)) → length slots ≤ n → length (up_to n slots) ≡ n
  length-up_to n slots fits = omega (arith, length-append slots (none_of (n - length slots)), length-replicate {A = Option A} (n - length slots) None)

  pub all_up_to : (P : Option A → Type 0) (n : ℕ) (slots : List (Option A)) → P None → All P slots → All P (up_to n slots)
  all_up_to P n slots none is = elements.All-append P slots (none_of (n - length slots)) is (elements.All-replicate P (n - length slots) None none)

-- the first and the other elements
pub all_first : {A : Type 0} (P : A → Type 0) (x : A) (xs : List A) → All P (x ∷ xs) → P x
all_first P x xs is = is 0 x (omega arith)

pub all_rest : {A : Type 0} (P : A → Type 0) (x : A) (xs : List A) → All P (x ∷ xs) → All P xs
all_rest P x xs is = λ k d below. is (suc k) d (omega arith)

-- a state that has seen more
module _ {A S : Type 0} (f : S → ℕ → A → S) where
  pub scanned-append : (i : ℕ) (s : S) (xs ys : List A) → scanned f i s (xs ++ ys) ≡ scanned f (i + length xs) (scanned f i s xs) ys
  scanned-append i s [] ys = ap (λ (n : ℕ). scanned f n s ys) (omega arith)
  scanned-append i s (x ∷ xs) ys = scanned-append (i + 1) (f s i x) xs ys ∙ ap (λ (n : ℕ). scanned f n (scanned f (i + 1) (f s i x) xs) ys) (omega arith)

  -- one element
  pub scanned-more : (i k : ℕ) (s : S) (xs : List A) (d : A) → k < length xs → scanned f i s (take (k + 1) xs) ≡ f (scanned f i s (take k xs)) (i + k) (slice_index_or xs k d)
  scanned-more i k s xs d below =
      ap (scanned f i s) (take_more xs k d below) ∙ scanned-append i s (take k xs) (slice_index_or xs k d ∷ [])
      ∙ ap (λ (n : ℕ). f (scanned f i s (take k xs)) n (slice_index_or xs k d)) (omega (arith, length-take k xs))

  -- one block
  pub scanned-block : (r blocks u : ℕ) (s : S) (all : List A) → u < blocks → length all ≡ blocks * r
      → scanned f 0 s (take ((u + 1) * r) all) ≡ scanned f (u * r) (scanned f 0 s (take (u * r) all)) (block_at r all u)
  scanned-block r blocks u s all below size =
      ap (scanned f 0 s) (take_blocks r all u) ∙ scanned-append 0 s (take (u * r) all) (block_at r all u)
      ∙ ap (λ (n : ℕ). scanned f n (scanned f 0 s (take (u * r) all)) (block_at r all u)) (omega (arith, length-before r all u blocks (omega arith) size))

  -- all blocks
  pub scanned-all : (r blocks u : ℕ) (s : S) (all : List A) → u ≡ blocks → length all ≡ blocks * r → scanned f 0 s (take (u * r) all) ≡ scanned f 0 s all
  scanned-all r blocks u s all last size = ap (scanned f 0 s) (take_all (u * r) all (omega (arith, ap (λ (n : ℕ). n * r) last)))

  -- slots that change nothing
  pub scanned-same : (i n : ℕ) (s : S) (x : A) → ((k : ℕ) → i ≤ k → f s k x ≡ s) → scanned f i s (replicate n x) ≡ s
  scanned-same i zero s x same = refl
  scanned-same i (suc n) s x same =
      ap (λ (t : S). scanned f (i + 1) t (replicate n x)) (same i (omega arith)) ∙ scanned-same (i + 1) n s x (λ k past. same k (omega arith))

-- what is counted in a list, by its first element
abbrev pub ones : {A : Type 0} → (A → Bool) → A → ℕ
ones p x = if p x then 1 else 0

pub one_at_most : (b : Bool) → (if b then 1 else 0) ≤ 1
one_at_most b = grind arith

abbrev one_if : Bool → ℕ
one_if b = if b then 1 else 0

-- one more block, of what a test counts
pub count_next : {A : Type 0} (p : A → Bool) (r : ℕ) (all : List A) (u k n : ℕ) → k ≡ count_by p (take (u * r) all) → n ≡ count_by p (block_at r all u) → k + n ≡ count_by p (take ((u + 1) * r) all)
count_next p r all u k n is add = omega (arith, ap (count_by p) (take_blocks r all u) ∙ sum_by-append (ones p) (take (u * r) all) (block_at r all u))

pub count_whole : {A : Type 0} (p : Option A → Bool) (blocks r : ℕ) (slots : List (Option A)) → p None ≡ Rattle.std.proofs.Common.false → length slots ≤ blocks * r → count_by p (take (blocks * r) (up_to (blocks * r) slots)) ≡ count_by p slots
count_whole {A = A} p blocks r slots none fits =
    ap (count_by p) (take_all (blocks * r) (up_to (blocks * r) slots) (omega (arith, length-up_to (blocks * r) slots fits)))
    ∙ sum_by-append (ones p) slots (none_of (blocks * r - length slots)) ∙ omega (arith, zero_of (blocks * r - length slots))
  where
    zero_of : (n : ℕ) → count_by p (replicate n None) ≡ 0
    zero_of zero = refl
    zero_of (suc n) = omega (arith, sum_by-cons (ones p) None (replicate n None), ap (λ (b : Bool). one_if b) none, zero_of n)

pub replicate_join : {A : Type 0} (m n : ℕ) (x : A) → replicate m x ++ replicate n x ≡ replicate (m + n) x
replicate_join zero n x = ap (λ (k : ℕ). replicate k x) (omega arith)
replicate_join {A = A} (suc m) n x = let next : suc (m + n) ≡ suc m + n = omega arith in ap (λ (l : List A). x ∷ l) (replicate_join m n x) ∙ ap (λ (k : ℕ). replicate k x) next

pub take_replicate : {A : Type 0} (k n : ℕ) (x : A) → k ≤ n → take k (replicate n x) ≡ replicate k x
take_replicate zero n x fits = refl
take_replicate (suc k) zero x fits = absurd (omega arith)
take_replicate {A = A} (suc k) (suc n) x fits = ap (λ (l : List A). x ∷ l) (take_replicate k n x (omega arith))

-- a block of a table with no rows
pub block_none : {A : Type 0} (r n blocks p : ℕ) → n ≤ blocks * r → p < blocks → block_at r (up_to {A = A} (blocks * r) (none_of n)) p ≡ none_of r
block_none {A = A} r n blocks p fits below =
    let none : Option A = None in
    let size : length (replicate n none) ≡ n = length-replicate n none in
    let whole : up_to (blocks * r) (replicate n none) ≡ replicate (blocks * r) none =
    ap (λ (k : ℕ). replicate n none ++ replicate (blocks * r - k) none) size ∙ replicate_join n (blocks * r - n) none ∙ ap (λ (k : ℕ). replicate k none) (omega arith) in
    let room : p * r + r ≤ blocks * r = grind arith in
    ap (λ (l : List (Option A)). block_at r l p) whole ∙ ap (take r) (drop-replicate (p * r) (blocks * r) none) ∙ take_replicate r (blocks * r - p * r) none (omega arith)

-- element z of block u
pub block-element : {A : Type 0} (r u z : ℕ) (all : List A) (d : A) → z < r → slice_index_or (block_at r all u) z d ≡ slice_index_or all (u * r + z) d
block-element r u z all d below = get_or-take r (drop (u * r) all) z d below ∙ get_or-drop (u * r) all z d
