-- The blocks of a path one after the other, and the slots that an access opens.
use Rattle.std.proofs.Common.{◌≡◌, ◌≤◌, ◌<◌, ℕ, zero, suc, ◌-◌, ◌+◌, ◌*◌, ◌/◌, ◌%◌, ◌^◌, inl, inr, List, [], ◌∷◌, ◌++◌, Option, None, length, drop, get_or, refl, sym, ap, ◌∙◌, arith, length-append}
use Rattle.std.specs.List.{flat_map}
use Rattle.std.proofs.lemmas.Bool.{cases_lt}
use Rattle.std.proofs.lemmas.List.{append-nil, ext_get_or, get_or_append_left, get_or-append_right, get_or-reverse, length-take-le, length-drop, length-reverse, get_or-take, get_or-drop}
use Rattle.ob_row.specs.Bags.{Same}
use Rattle.ob_script.specs.Parts.{bucket_at, path_place}
use Rattle.ob_path.specs.Paths.{above, upward, path, path_up, path_slot}
use Rattle.ob_path.specs.Rows.{rows}
use Rattle.ob_path.specs.States.{State, bucket}
use Rattle.ob_path.specs.Access.{take_path}
use Rattle.ob_tree.specs.Scripts.{numbers, path_places}
use Rattle.ob_tree.specs.Slotwise.{open_slots}
use Rattle.ob_row.proofs.BagLemmas.{Same-trans}
use Rattle.ob_tree.proofs.Moves.{Same-is, Same-swapped}
use Rattle.ob_tree.proofs.RowLemmas.{rows-append}
use Rattle.ob_tree.proofs.PathLemmas.{above_less, length-upward, power_next, power_some}
use Rattle.ob_tree.proofs.MeetLemmas.{path_at, up_no_more}
use Rattle.ob_tree.proofs.RunLemmas.{length-numbers, get_or-numbers}

-- lists of four in a row
pub length-fours : {A B : Type 0} (f : A → List B) (xs : List A) (a : A) → ((i : ℕ) → i < length xs → length (f (get_or xs i a)) ≡ 4) → length (flat_map f xs) ≡ 4 * length xs
length-fours f [] a four = refl
length-fours f (x ∷ xs) a four = omega (arith, length-append (f x) (flat_map f xs), four 0 (omega arith), length-fours f xs a (λ i below. four (suc i) (omega (arith, below))))

pub get_or-fours : {A B : Type 0} (f : A → List B) (xs : List A) (a : A) → ((i : ℕ) → i < length xs → length (f (get_or xs i a)) ≡ 4) → (j z : ℕ) (d : B) → j < length xs → z < 4
    → get_or (flat_map f xs) (4 * j + z) d ≡ get_or (f (get_or xs j a)) z d
get_or-fours f [] a four j z d below less = absurd (omega (arith, below))
get_or-fours f (x ∷ xs) a four zero z d below less =
    let first : 4 * 0 + z ≡ z = omega arith in
    ap (λ i. get_or (f x ++ flat_map f xs) i d) first ∙ get_or_append_left (f x) (flat_map f xs) d z (omega (arith, less, four 0 (omega arith)))
get_or-fours f (x ∷ xs) a four (suc j) z d below less =
    let behind : 4 * suc j + z - 4 ≡ 4 * j + z = omega arith in
    get_or-append_right (f x) (flat_map f xs) 4 (4 * suc j + z) d (four 0 (omega arith)) (omega arith)
    ∙ ap (λ i. get_or (flat_map f xs) i d) behind
    ∙ get_or-fours f xs a (λ i inside. four (suc i) (omega (arith, inside))) j z d (omega (arith, below)) less

-- the buckets of a path grow from the root down
up_grows : (n b i j : ℕ) → 2 ^ n ≤ b + 1 → i < j → j ≤ n → get_or (upward (suc n) b) j 0 < get_or (upward (suc n) b) i 0
up_grows n b i zero low less within = absurd (omega (arith, less))
up_grows zero b i (suc j) low less within = absurd (omega (arith, within))
up_grows (suc n) b zero (suc j) low less within =
    let some : 1 ≤ b = omega (arith, power_next n, power_some n, low) in
    omega (arith, up_no_more (suc n) (above b) j, above_less b some)
up_grows (suc n) b (suc i) (suc j) low less within = up_grows n (above b) i j (omega (arith, power_next n, power_some n, low)) (omega (arith, less)) (omega (arith, within))

module _ (h leaf : ℕ) (below : leaf < 2 ^ h) where
  size : length (path_up h leaf) ≡ suc h
  size = length-upward (suc h) (2 ^ h - 1 + leaf)

  -- block c of a path from the root down
  pub path_place_at : (c : ℕ) → c < 4 * (h + 1) → get_or (path_places h leaf) c 0 ≡ path_place h leaf c
  path_place_at c within =
      let j : c / 4 < suc h = omega (arith, within) in
      let rest : length (path_up h leaf) - 1 - c / 4 ≡ h - c / 4 = omega (arith, size) in
      let whole : c ≡ 4 * (c / 4) + c % 4 = omega arith in
      let bucket_is : get_or (path h leaf) (c / 4) 0 ≡ bucket_at h leaf (h - c / 4) =
      get_or-reverse (path_up h leaf) (c / 4) 0 (omega (arith, j, size)) ∙ ap (λ i. get_or (path_up h leaf) i 0) rest ∙ path_at h leaf (h - c / 4) below (omega arith) in
      ap (λ i. get_or (path_places h leaf) i 0) whole
      ∙ get_or-fours (λ b. numbers (4 * b) 4) (path h leaf) 0 (λ i inside. length-numbers (4 * get_or (path h leaf) i 0) 4) (c / 4) (c % 4) 0 (omega (arith, j, size, length-reverse (path_up h leaf))) (omega arith)
      ∙ get_or-numbers 4 (4 * get_or (path h leaf) (c / 4) 0) (c % 4) 0 (omega arith)
      ∙ ap (λ b. 4 * b + c % 4) bucket_is

  -- lies in the tree, and apart from any other
  pub path_place_below : (c : ℕ) → c < 4 * (h + 1) → path_place h leaf c < 4 * (2 ^ (h + 1) - 1)
  path_place_below c within =
      let next : h + 1 ≡ suc h = omega arith in
      let most = up_no_more (suc h) (2 ^ h - 1 + leaf) (h - c / 4) in
      omega (arith, most, path_at h leaf (h - c / 4) below (omega arith), power_some h, ap (λ k. 2 ^ k) next ∙ power_next h, below)

  grows : (i j : ℕ) → i < j → j ≤ h → bucket_at h leaf (h - i) < bucket_at h leaf (h - j)
  grows i j less within =
      let up = up_grows h (2 ^ h - 1 + leaf) (h - j) (h - i) (omega (arith, power_some h)) (omega (arith, less, within)) (omega arith) in
      omega (arith, up, path_at h leaf (h - i) below (omega arith), path_at h leaf (h - j) below (omega arith))

  pub path_place_apart : (c d : ℕ) → c < d → d < 4 * (h + 1) → path_place h leaf c < path_place h leaf d
  path_place_apart c d less within = elim (cases_lt (c / 4) (d / 4)) [
    | inl lower ↦ let more = grows (c / 4) (d / 4) lower (omega (arith, within)) in omega (arith, more)
    | inr not ↦
        let same : c / 4 ≡ d / 4 = omega (arith, not, less) in
        let bucket_same : (2 ^ h + leaf) / 2 ^ (h - c / 4) ≡ (2 ^ h + leaf) / 2 ^ (h - d / 4) = ap (λ i. (2 ^ h + leaf) / 2 ^ (h - i)) same in
        omega (arith, same, bucket_same, less)
  ]

  module _ {R : Type 0} (s : State R) (long : length s.tree ≡ 4 * (2 ^ (h + 1) - 1)) where
    four : (i : ℕ) → i < length (path_up h leaf) → length (bucket s.tree (get_or (path_up h leaf) i 0)) ≡ 4
    four i inside =
        let next : h + 1 ≡ suc h = omega arith in
        let b = get_or (path_up h leaf) i 0 in
        let most : b ≤ 2 ^ h - 1 + leaf = up_no_more (suc h) (2 ^ h - 1 + leaf) i in
        length-take-le 4 (drop (4 * b) s.tree) (omega (arith, length-drop (4 * b) s.tree, most, long, power_some h, ap (λ k. 2 ^ k) next ∙ power_next h, below))

    -- how many slots are opened, and which
    pub length-path_slots : length (flat_map (bucket s.tree) (path_up h leaf)) ≡ 4 * (h + 1)
    length-path_slots = omega (arith, length-fours (bucket s.tree) (path_up h leaf) 0 four, size)

    pub open_in_path : (j z : ℕ) → j ≤ h → z < 4 → get_or (open_slots h leaf s) (4 * j + z) None ≡ get_or s.tree (4 * get_or (path_up h leaf) j 0 + z) None
    open_in_path j z within less =
        let front = flat_map (bucket s.tree) (path_up h leaf) in
        let b = get_or (path_up h leaf) j 0 in
        get_or_append_left (front ++ s.stash) (None ∷ []) None (4 * j + z) (omega (arith, length-append front s.stash, length-path_slots, within, less))
        ∙ get_or_append_left front s.stash None (4 * j + z) (omega (arith, length-path_slots, within, less))
        ∙ get_or-fours (bucket s.tree) (path_up h leaf) 0 four j z None (omega (arith, within, size)) less
        ∙ get_or-take 4 (drop (4 * b) s.tree) z None less
        ∙ get_or-drop (4 * b) s.tree z None

    pub open_in_stash : (i : ℕ) → i < length s.stash → get_or (open_slots h leaf s) (4 * (h + 1) + i) None ≡ get_or s.stash i None
    open_in_stash i within =
        let front = flat_map (bucket s.tree) (path_up h leaf) in
        let rest : 4 * (h + 1) + i - 4 * (h + 1) ≡ i = omega arith in
        get_or_append_left (front ++ s.stash) (None ∷ []) None (4 * (h + 1) + i) (omega (arith, length-append front s.stash, length-path_slots, within))
        ∙ get_or-append_right front s.stash (4 * (h + 1)) (4 * (h + 1) + i) None length-path_slots (omega arith)
        ∙ ap (λ k. get_or s.stash k None) rest

    pub length-open_slots : length (open_slots h leaf s) ≡ 4 * (h + 1) + length s.stash + 1
    length-open_slots =
        let front = flat_map (bucket s.tree) (path_up h leaf) in
        omega (arith, length-append (front ++ s.stash) (None ∷ []), length-append front s.stash, length-path_slots)

    pub open_last : get_or (open_slots h leaf s) (4 * (h + 1) + length s.stash) None ≡ None
    open_last =
        let front = flat_map (bucket s.tree) (path_up h leaf) in
        let long : length (front ++ s.stash) ≡ 4 * (h + 1) + length s.stash = omega (arith, length-append front s.stash, length-path_slots) in
        let rest : 4 * (h + 1) + length s.stash - (4 * (h + 1) + length s.stash) ≡ 0 = omega arith in
        get_or-append_right (front ++ s.stash) (None ∷ []) (4 * (h + 1) + length s.stash) (4 * (h + 1) + length s.stash) None long (omega arith)
        ∙ ap (λ k. get_or (None ∷ []) k None) rest

    -- a buffer that was read block by block has these slots
    pub open_slots_are : (slots : List (Option R)) → length slots ≡ 4 * (h + 1) + length s.stash + 1
        → ((c : ℕ) → c < 4 * (h + 1) → get_or slots (path_slot h c) None ≡ get_or s.tree (path_place h leaf c) None)
        → ((i : ℕ) → i < length s.stash → get_or slots (4 * (h + 1) + i) None ≡ get_or s.stash i None)
        → get_or slots (4 * (h + 1) + length s.stash) None ≡ None
        → slots ≡ open_slots h leaf s
    open_slots_are slots count in_path in_stash last = ext_get_or None slots (open_slots h leaf s) (count ∙ sym length-open_slots) each
      where
        from_path : (i : ℕ) → i < 4 * (h + 1) → get_or slots i None ≡ get_or (open_slots h leaf s) i None
        from_path i within =
            let c = path_slot h i in
            let upper : c / 4 ≡ h - i / 4 = omega arith in
            let rest : c % 4 ≡ i % 4 = omega arith in
            let back : h - c / 4 ≡ i / 4 = omega (arith, upper, within) in
            let here : 4 * (h - c / 4) + c % 4 ≡ i = omega (arith, back, rest) in
            let there : 4 * (i / 4) + i % 4 ≡ i = omega arith in
            let b : get_or (path_up h leaf) (i / 4) 0 ≡ bucket_at h leaf (h - c / 4) = path_at h leaf (i / 4) below (omega (arith, within)) ∙ ap (bucket_at h leaf) (sym back) in
            ap (λ k. get_or slots k None) (sym here)
            ∙ in_path c (omega (arith, within, upper, rest))
            ∙ ap (λ k. get_or s.tree (4 * k + c % 4) None) (sym b)
            ∙ ap (λ k. get_or s.tree (4 * get_or (path_up h leaf) (i / 4) 0 + k) None) rest
            ∙ sym (open_in_path (i / 4) (i % 4) (omega (arith, within)) (omega arith))
            ∙ ap (λ k. get_or (open_slots h leaf s) k None) there

        from_stash : (i : ℕ) → 4 * (h + 1) ≤ i → i < 4 * (h + 1) + length s.stash → get_or slots i None ≡ get_or (open_slots h leaf s) i None
        from_stash i past within =
            let here : 4 * (h + 1) + (i - 4 * (h + 1)) ≡ i = omega (arith, past) in
            ap (λ k. get_or slots k None) (sym here)
            ∙ in_stash (i - 4 * (h + 1)) (omega (arith, past, within))
            ∙ sym (open_in_stash (i - 4 * (h + 1)) (omega (arith, past, within)))
            ∙ ap (λ k. get_or (open_slots h leaf s) k None) here

        each : (i : ℕ) → i < length slots → get_or slots i None ≡ get_or (open_slots h leaf s) i None
        each i inside = elim (cases_lt i (4 * (h + 1))) [
          | inl front ↦ from_path i front
          | inr past ↦ elim (cases_lt i (4 * (h + 1) + length s.stash)) [
            | inl middle ↦ from_stash i (omega (arith, past)) middle
            | inr end ↦
                let here : i ≡ 4 * (h + 1) + length s.stash = omega (arith, end, inside, count) in
                ap (λ k. get_or slots k None) here ∙ last ∙ sym open_last ∙ ap (λ k. get_or (open_slots h leaf s) k None) (sym here)
          ]
        ]

-- they have the rows of the path and of the stash
pub rows-open_slots : {R : Type 0} (h leaf : ℕ) (s : State R) → Same (rows (open_slots h leaf s)) (take_path h s leaf)
rows-open_slots h leaf s =
    let front = flat_map (bucket s.tree) (path_up h leaf) in
    Same-trans (rows (open_slots h leaf s)) (rows front ++ rows s.stash) (take_path h s leaf)
    (Same-is _ _ (rows-append (front ++ s.stash) (None ∷ []) ∙ append-nil (rows (front ++ s.stash)) ∙ rows-append front s.stash))
    (Same-swapped (rows front) (rows s.stash))
