-- A list whose first blocks are changed.
use Rattle.std.proofs.Common.{◌≡◌, ◌<◌, ◌≤◌, ◌+◌, ◌*◌, ℕ, List, ◌++◌, length, map, take, drop, sym, ◌∙◌, ap, arith, append_assoc}
use Rattle.std.proofs.lemmas.List.{length-map, map-append, take_all, append-nil}
use Rattle.std.proofs.Math.Nat.{zero-mul}
use Rattle.std.proofs.Math.ListN.{drop_of_length-le}
use Rattle.std.proofs.Math.Seq.{take-append_seam, drop-append_seam, drop-append-add, drop-drop}
use Rattle.ob_blocks.specs.Blocks.{block_at, with_block}
use Rattle.ob_blocks.proofs.Blocks.{length-before, take_blocks}

-- f of the elements of the first u blocks of r, and the others as they are
abbrev pub half : {A : Type 0} → (A → A) → (r u : ℕ) → List A → List A
half f r u all = map f (take (u * r) all) ++ drop (u * r) all

pub half-none : {A : Type 0} (f : A → A) (r : ℕ) (all : List A) → half f r 0 all ≡ all
half-none f r all = ap (λ (n : ℕ). map f (take n all) ++ drop n all) (zero-mul r)

module _ {A : Type 0} (f : A → A) (r blocks : ℕ) (all : List A) (size : length all ≡ blocks * r) where
  front : (u : ℕ) → u ≤ blocks → length (map f (take (u * r) all)) ≡ u * r
  front u below = length-map (take (u * r) all) f ∙ length-before r all u blocks below size

  -- the next block is as it was
  pub half-block : (u : ℕ) → u < blocks → block_at r (half f r u all) u ≡ block_at r all u
  half-block u below =
      ap (λ (n : ℕ). take r (drop n (half f r u all))) (sym (front u (omega (arith, below)))) ∙ ap (take r) (drop-append_seam (map f (take (u * r) all)) (drop (u * r) all))

  -- and is changed
  pub half-next : (u : ℕ) → u < blocks → with_block r (half f r u all) u (map f (block_at r all u)) ≡ half f r (u + 1) all
  half-next u below =
      let xs = map f (take (u * r) all) in
      let ys = drop (u * r) all in
      let long = front u (omega (arith, below)) in
      let next : (u + 1) * r ≡ u * r + r = grind arith in
      let past : length xs + r ≡ (u + 1) * r = omega (arith, long, next) in
      let first : take (u * r) (xs ++ ys) ≡ xs = ap (λ (n : ℕ). take n (xs ++ ys)) (sym long) ∙ take-append_seam xs ys in
      let rest : drop ((u + 1) * r) (xs ++ ys) ≡ drop ((u + 1) * r) all =
      ap (λ (n : ℕ). drop n (xs ++ ys)) (sym past) ∙ drop-append-add xs ys r ∙ drop-drop r (u * r) all ∙ ap (λ (n : ℕ). drop n all) (sym next) in
      ap (λ (l : List A). l ++ (map f (block_at r all u) ++ drop ((u + 1) * r) (xs ++ ys))) first
      ∙ ap (λ (l : List A). xs ++ (map f (block_at r all u) ++ l)) rest
      ∙ sym (append_assoc xs (map f (block_at r all u)) (drop ((u + 1) * r) all))
      ∙ ap (λ (l : List A). l ++ drop ((u + 1) * r) all) (sym (map-append f (take (u * r) all) (block_at r all u)) ∙ ap (map f) (sym (take_blocks r all u)))

  pub half-all : (u : ℕ) → u ≡ blocks → half f r u all ≡ map f all
  half-all u last =
      let whole : length all ≤ u * r = omega (arith, size, ap (λ (n : ℕ). n * r) last) in
      ap (λ (l : List A). map f l ++ drop (u * r) all) (take_all (u * r) all whole) ∙ ap (λ (l : List A). map f all ++ l) (drop_of_length-le all whole) ∙ append-nil (map f all)
