-- One bucket of a tree is written.
use Rattle.std.proofs.Common.{◌≡◌, ◌≤◌, ◌<◌, ◌≢◌, ℕ, ◌-◌, ◌+◌, ◌*◌, ◌/◌, false, ◌==◌, ◌⊎◌, inl, inr, List, [], ◌∷◌, ◌++◌, Option, length, take, drop, get_or, refl, sym, ap, ◌∙◌, arith, length-append, append_assoc}
use Rattle.std.specs.List.{list_any, flat_map}
use Rattle.std.proofs.lemmas.Bool.{eqb-false, or_parts, cases_order}
use Rattle.std.proofs.lemmas.List.{length-drop, length-take-le, take-append-drop, drop-drop, drop-take, take-take, take-append-le, drop_at, get_or-take, get_or-drop, get_or_append_left, get_or-append_right}
use Rattle.ob_row.specs.Bags.{Same}
use Rattle.ob_path.specs.Rows.{rows}
use Rattle.ob_path.specs.States.{bucket, with_bucket}
use Rattle.ob_row.proofs.BagLemmas.{Same-trans}
use Rattle.ob_tree.proofs.Moves.{Same-is, Same-left, Same-to_end}
use Rattle.ob_tree.proofs.RowLemmas.{rows-append}

pub bucket_parts : {R : Type 0} (tree : List (Option R)) (b : ℕ) → tree ≡ take (4 * b) tree ++ bucket tree b ++ drop (4 * b + 4) tree
bucket_parts tree b =
    sym (take-append-drop (4 * b) tree)
    ∙ ap (λ w. take (4 * b) tree ++ w) (sym (take-append-drop 4 (drop (4 * b) tree)) ∙ ap (λ w. bucket tree b ++ w) (drop-drop 4 (4 * b) tree))
    ∙ sym (append_assoc (take (4 * b) tree) (bucket tree b) (drop (4 * b + 4) tree))

Same-exchange : {A : Type 0} (a n c o : List A) → Same (((a ++ n) ++ c) ++ o) (((a ++ o) ++ c) ++ n)
Same-exchange a n c o =
    Same-trans (((a ++ n) ++ c) ++ o) (((a ++ c) ++ n) ++ o) (((a ++ o) ++ c) ++ n) (Same-left ((a ++ n) ++ c) ((a ++ c) ++ n) o (Same-to_end a n c))
    (Same-trans (((a ++ c) ++ n) ++ o) (((a ++ c) ++ o) ++ n) (((a ++ o) ++ c) ++ n) (Same-to_end (a ++ c) n o) (Same-left ((a ++ c) ++ o) ((a ++ o) ++ c) n (Same-to_end a c o)))

rows_parts : {R : Type 0} (a n c : List (Option R)) → rows (a ++ n ++ c) ≡ (rows a ++ rows n) ++ rows c
rows_parts a n c = rows-append (a ++ n) c ∙ ap (λ w. w ++ rows c) (rows-append a n)

-- what a bucket had goes out, and its new rows come in
pub exchanged : {R : Type 0} (tree : List (Option R)) (b : ℕ) (slots : List (Option R)) → Same (rows (with_bucket tree b slots) ++ rows (bucket tree b)) (rows tree ++ rows slots)
exchanged tree b slots =
    let a = take (4 * b) tree in
    let c = drop (4 * b + 4) tree in
    Same-trans (rows (with_bucket tree b slots) ++ rows (bucket tree b)) (((rows a ++ rows slots) ++ rows c) ++ rows (bucket tree b)) (rows tree ++ rows slots)
    (Same-is _ _ (ap (λ w. w ++ rows (bucket tree b)) (rows_parts a slots c)))
    (Same-trans (((rows a ++ rows slots) ++ rows c) ++ rows (bucket tree b)) (((rows a ++ rows (bucket tree b)) ++ rows c) ++ rows slots) (rows tree ++ rows slots)
    (Same-exchange (rows a) (rows slots) (rows c) (rows (bucket tree b)))
    (Same-is _ _ (ap (λ w. w ++ rows slots) (sym (rows_parts a (bucket tree b) c) ∙ ap rows (sym (bucket_parts tree b))))))

module _ {R : Type 0} (tree : List (Option R)) (b : ℕ) (slots : List (Option R)) (four : length slots ≡ 4) (within : 4 * b + 4 ≤ length tree) where
  private_front : length (take (4 * b) tree) ≡ 4 * b
  private_front = length-take-le (4 * b) tree (omega arith)

  front_and_slots : length (take (4 * b) tree ++ slots) ≡ 4 * b + 4
  front_and_slots = omega (arith, length-append (take (4 * b) tree) slots, private_front)

  pub length-with_bucket : length (with_bucket tree b slots) ≡ length tree
  length-with_bucket = omega (arith, length-append (take (4 * b) tree ++ slots) (drop (4 * b + 4) tree), front_and_slots, length-drop (4 * b + 4) tree)

  pub take-with_bucket : (n : ℕ) → n ≤ 4 * b → take n (with_bucket tree b slots) ≡ take n tree
  take-with_bucket n low =
      ap (take n) (append_assoc (take (4 * b) tree) slots (drop (4 * b + 4) tree))
      ∙ take-append-le n (take (4 * b) tree) (slots ++ drop (4 * b + 4) tree) (omega (arith, private_front))
      ∙ take-take n (4 * b) tree low

  pub drop-with_bucket : (n : ℕ) → 4 * b + 4 ≤ n → drop n (with_bucket tree b slots) ≡ drop n tree
  drop-with_bucket n high =
      let same : (4 * b + 4) + (n - (4 * b + 4)) ≡ n = omega arith in
      ap (λ k. drop k (with_bucket tree b slots)) (sym same)
      ∙ sym (drop-drop (n - (4 * b + 4)) (4 * b + 4) (with_bucket tree b slots))
      ∙ ap (drop (n - (4 * b + 4))) (drop_at (take (4 * b) tree ++ slots) (drop (4 * b + 4) tree) (4 * b + 4) front_and_slots)
      ∙ drop-drop (n - (4 * b + 4)) (4 * b + 4) tree
      ∙ ap (λ k. drop k tree) same

  pub other_bucket : (c : ℕ) → c ≢ b → bucket (with_bucket tree b slots) c ≡ bucket tree c
  other_bucket c off = by_order (cases_order c b)
    where
      by_order : (c ≡ b) ⊎ ((c < b) ⊎ (b < c)) → bucket (with_bucket tree b slots) c ≡ bucket tree c
      by_order (inl is) = absurd (off is)
      by_order (inr (inl less)) =
          sym (drop-take (4 * c) 4 (with_bucket tree b slots))
          ∙ ap (drop (4 * c)) (take-with_bucket (4 * c + 4) (omega (arith, less)))
          ∙ drop-take (4 * c) 4 tree
      by_order (inr (inr more)) = ap (take 4) (drop-with_bucket (4 * c) (omega (arith, more)))

  pub other_buckets : (bs : List ℕ) → list_any (λ c. c == b) bs ≡ false → flat_map (bucket (with_bucket tree b slots)) bs ≡ flat_map (bucket tree) bs
  other_buckets [] off = refl
  other_buckets (c ∷ bs) off =
      let both = or_parts (c == b) (list_any (λ x. x == b) bs) off in
      let here : bucket (with_bucket tree b slots) c ≡ bucket tree c = other_bucket c (eqb-false c b both.0) in
      let there : flat_map (bucket (with_bucket tree b slots)) bs ≡ flat_map (bucket tree) bs = other_buckets bs both.1 in
      cc

  pub slot_inside : (p : ℕ) (d : Option R) → p / 4 ≡ b → get_or (with_bucket tree b slots) p d ≡ get_or slots (p - 4 * b) d
  slot_inside p d is =
      get_or_append_left (take (4 * b) tree ++ slots) (drop (4 * b + 4) tree) d p (omega (arith, front_and_slots, is))
      ∙ get_or-append_right (take (4 * b) tree) slots (4 * b) p d private_front (omega (arith, is))

  pub slot_outside : (p : ℕ) (d : Option R) → p / 4 ≢ b → get_or (with_bucket tree b slots) p d ≡ get_or tree p d
  slot_outside p d off = by_order (cases_order (p / 4) b)
    where
      by_order : (p / 4 ≡ b) ⊎ ((p / 4 < b) ⊎ (b < p / 4)) → get_or (with_bucket tree b slots) p d ≡ get_or tree p d
      by_order (inl is) = absurd (off is)
      by_order (inr (inl less)) =
          let low : p < 4 * b = omega (arith, less) in
          sym (get_or-take (4 * b) (with_bucket tree b slots) p d low)
          ∙ ap (λ w. get_or w p d) (take-with_bucket (4 * b) (omega arith))
          ∙ get_or-take (4 * b) tree p d low
      by_order (inr (inr more)) =
          let same : (4 * b + 4) + (p - (4 * b + 4)) ≡ p = omega (arith, more) in
          ap (λ k. get_or (with_bucket tree b slots) k d) (sym same)
          ∙ sym (get_or-drop (4 * b + 4) (with_bucket tree b slots) (p - (4 * b + 4)) d)
          ∙ ap (λ w. get_or w (p - (4 * b + 4)) d) (drop-with_bucket (4 * b + 4) (omega arith))
          ∙ get_or-drop (4 * b + 4) tree (p - (4 * b + 4)) d
          ∙ ap (λ k. get_or tree k d) same
