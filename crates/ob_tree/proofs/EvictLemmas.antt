-- What eviction leaves in the tree, and what it leaves over.
use Rattle.std.proofs.Common.{◌≡◌, ◌≤◌, ℕ, zero, suc, ◌-◌, ◌+◌, ◌*◌, ◌/◌, Bool, true, false, ◌==◌, ◌⊎◌, inl, inr, List, [], ◌∷◌, ◌++◌, Some, None, length, get_or, replicate, map, refl, sym, ap, ◌∙◌, subst, append_assoc}
use Rattle.std.specs.Prelude.{filter}
use Rattle.std.specs.List.{list_any, flat_map, All}
use Rattle.std.proofs.lemmas.Bool.{ne_eqb, or_from, cases_eq}
use Rattle.std.proofs.lemmas.List.{append-nil}
use Rattle.std.proofs.lemmas.List.Elements.{All-head, All-tail, All-take, filter_passes}
use Rattle.ob_row.specs.Bags.{Same}
use Rattle.ob_path.specs.Rows.{rows, slots_of, firsts, except_firsts}
use Rattle.ob_path.specs.States.{bucket, with_bucket}
use Rattle.ob_path.specs.Access.{Evicted, fill, evict}
use Rattle.ob_row.proofs.BagLemmas.{Same-trans}
use Rattle.ob_tree.proofs.Moves.{Same-is, Same-left, Same-right, Same-to_end}
use Rattle.ob_tree.proofs.RowLemmas.{rows-append, rows-slots_of, length-slots_of, length-firsts, Same-firsts}
use Rattle.ob_tree.proofs.PathLemmas.{Apart}
use Rattle.ob_tree.proofs.TreeLemmas.{exchanged, length-with_bucket, other_buckets, slot_inside, slot_outside}

pub no_row : {R : Type 0} (n i : ℕ) (row : R) → get_or (replicate n None) i None ≡ Some row → ⊥
no_row zero i row e = cc
no_row (suc n) zero row e = cc
no_row (suc n) (suc i) row e = no_row n i row e

-- a row of slots is one of the rows that they were made of
slot_has : {R : Type 0} (P : R → Type 0) (n : ℕ) (all : List R) → All P all → (i : ℕ) (row : R) → get_or (map (λ r. Some r) all ++ replicate n None) i None ≡ Some row → P row
slot_has P n [] each i row e = absurd (no_row n i row e)
slot_has P n (r ∷ all) each zero row e = let is : r ≡ row = cc in subst P is (All-head P r all each)
slot_has P n (r ∷ all) each (suc i) row e = slot_has P n all (All-tail P r all each) i row e

module _ {R : Type 0} (fits : ℕ → R → Bool) where
  pub four_slots : (b : ℕ) (left : List R) → length (slots_of 4 (firsts 4 (fits b) left)) ≡ 4
  four_slots b left = length-slots_of 4 (firsts 4 (fits b) left) (length-firsts 4 (fits b) left)

  pub slot_fits : (b i : ℕ) (left : List R) (row : R) → get_or (slots_of 4 (firsts 4 (fits b) left)) i None ≡ Some row → fits b row ≡ true
  slot_fits b i left row e =
      slot_has (λ r. fits b r ≡ true) (4 - length (firsts 4 (fits b) left)) (firsts 4 (fits b) left)
      (All-take (λ r. fits b r ≡ true) 4 (filter (fits b) left) (filter_passes (fits b) left)) i row e

  pub length-fill : (b : ℕ) (e : Evicted R) → 4 * b + 4 ≤ length e.tree → length (fill fits b e).tree ≡ length e.tree
  length-fill b e within = length-with_bucket e.tree b (slots_of 4 (firsts 4 (fits b) e.left)) (four_slots b e.left) within

  pub apart_fill : (b : ℕ) (bs : List ℕ) (e : Evicted R) → Apart (length e.tree) (b ∷ bs) → Apart (length (fill fits b e).tree) bs
  apart_fill b bs e apart = subst (λ n. Apart n bs) (sym (length-fill b e apart.0)) apart.2

  pub length-evict : (bs : List ℕ) (e : Evicted R) → Apart (length e.tree) bs → length (evict fits bs e).tree ≡ length e.tree
  length-evict [] e apart = refl
  length-evict (b ∷ bs) e apart = length-evict bs (fill fits b e) (apart_fill b bs e apart) ∙ length-fill b e apart.0

  -- one bucket's rows and those left are what there was, with what the bucket had
  filled : (b : ℕ) (e : Evicted R) → Same ((rows (fill fits b e).tree ++ (fill fits b e).left) ++ rows (bucket e.tree b)) (rows e.tree ++ e.left)
  filled b e =
      let taken = firsts 4 (fits b) e.left in
      let kept = except_firsts 4 (fits b) e.left in
      let tree = with_bucket e.tree b (slots_of 4 taken) in
      let old = rows (bucket e.tree b) in
      Same-trans ((rows tree ++ kept) ++ old) ((rows tree ++ old) ++ kept) (rows e.tree ++ e.left) (Same-to_end (rows tree) kept old)
      (Same-trans ((rows tree ++ old) ++ kept) ((rows e.tree ++ rows (slots_of 4 taken)) ++ kept) (rows e.tree ++ e.left)
      (Same-left (rows tree ++ old) (rows e.tree ++ rows (slots_of 4 taken)) kept (exchanged e.tree b (slots_of 4 taken)))
      (Same-trans ((rows e.tree ++ rows (slots_of 4 taken)) ++ kept) (rows e.tree ++ (taken ++ kept)) (rows e.tree ++ e.left)
      (Same-is _ _ (ap (λ w. (rows e.tree ++ w) ++ kept) (rows-slots_of 4 taken) ∙ append_assoc (rows e.tree) taken kept))
      (Same-right (rows e.tree) (taken ++ kept) e.left (Same-firsts 4 (fits b) e.left))))

  -- eviction keeps all rows, and puts out what the buckets had
  pub evicted_same : (bs : List ℕ) (e : Evicted R) → Apart (length e.tree) bs
      → Same ((rows (evict fits bs e).tree ++ (evict fits bs e).left) ++ rows (flat_map (bucket e.tree) bs)) (rows e.tree ++ e.left)
  evicted_same [] e apart = Same-is _ _ (append-nil (rows e.tree ++ e.left))
  evicted_same (b ∷ bs) e apart =
      let to = fill fits b e in
      let end = evict fits bs to in
      let all = rows end.tree ++ end.left in
      let others = rows (flat_map (bucket e.tree) bs) in
      let mine = rows (bucket e.tree b) in
      let same : flat_map (bucket to.tree) bs ≡ flat_map (bucket e.tree) bs = other_buckets e.tree b (slots_of 4 (firsts 4 (fits b) e.left)) (four_slots b e.left) apart.0 bs apart.1 in
      let rest : Same (all ++ others) (rows to.tree ++ to.left) =
      subst (λ w. Same (all ++ rows w) (rows to.tree ++ to.left)) same (evicted_same bs to (apart_fill b bs e apart)) in
      Same-trans (all ++ rows (bucket e.tree b ++ flat_map (bucket e.tree) bs)) ((all ++ mine) ++ others) (rows e.tree ++ e.left)
      (Same-is _ _ (ap (λ w. all ++ w) (rows-append (bucket e.tree b) (flat_map (bucket e.tree) bs)) ∙ sym (append_assoc all mine others)))
      (Same-trans ((all ++ mine) ++ others) ((all ++ others) ++ mine) (rows e.tree ++ e.left) (Same-to_end all mine others)
      (Same-trans ((all ++ others) ++ mine) ((rows to.tree ++ to.left) ++ mine) (rows e.tree ++ e.left) (Same-left (all ++ others) (rows to.tree ++ to.left) mine rest) (filled b e)))

  -- a row of the tree fits its bucket, or was there before, in a bucket that was not filled
  pub evicted_slot : (bs : List ℕ) (e : Evicted R) → Apart (length e.tree) bs → (p : ℕ) (row : R) → get_or (evict fits bs e).tree p None ≡ Some row
      → (fits (p / 4) row ≡ true) ⊎ ((get_or e.tree p None ≡ Some row) × (list_any (λ c. c == p / 4) bs ≡ false))
  evicted_slot [] e apart p row is = inr (is, refl)
  evicted_slot (b ∷ bs) e apart p row is = first_here (evicted_slot bs (fill fits b e) (apart_fill b bs e apart) p row is) (cases_eq (p / 4) b)
    where
      first_here : (fits (p / 4) row ≡ true) ⊎ ((get_or (fill fits b e).tree p None ≡ Some row) × (list_any (λ c. c == p / 4) bs ≡ false)) → (p / 4 ≡ b) ⊎ (p / 4 ≡ b → ⊥)
          → (fits (p / 4) row ≡ true) ⊎ ((get_or e.tree p None ≡ Some row) × (list_any (λ c. c == p / 4) (b ∷ bs) ≡ false))
      first_here (inl fit) which = inl fit
      first_here (inr was) (inl here) =
          inl (subst (λ c. fits c row ≡ true) (sym here)
          (slot_fits b (p - 4 * b) e.left row (sym (slot_inside e.tree b (slots_of 4 (firsts 4 (fits b) e.left)) (four_slots b e.left) apart.0 p None here) ∙ was.0)))
      first_here (inr was) (inr off) =
          inr (
            sym (slot_outside e.tree b (slots_of 4 (firsts 4 (fits b) e.left)) (four_slots b e.left) apart.0 p None off) ∙ was.0,
            or_from (b == p / 4) (list_any (λ c. c == p / 4) bs) (ne_eqb b (p / 4) (λ same. off (sym same))) was.1,
          )
