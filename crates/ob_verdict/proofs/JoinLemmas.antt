-- The rows of a joined region are the pairs.
use Rattle.std.proofs.Common.{◌≡◌, ℕ, suc, zero, ◌*◌, ◌<◌, ◌≤◌, Bool, true, false, List, [], ◌∷◌, ◌++◌, map, take, drop, length, mul-pos, ◌-◌, append-nil, refl, sym, ◌∙◌, ap, subst, arith}
use Rattle.std.specs.Prelude.{filter, flat_map, Some, None, find, ◌||◌, option_to_list}
use Rattle.std.specs.Option.{option_map}
use Rattle.std.specs.List.{list_any}
use Rattle.std.proofs.lemmas.List.Elements.{filter_map-append}
use Rattle.std.proofs.lemmas.List.Folds.{list_any-append}
use Rattle.std.proofs.lemmas.Grind.{flat_map-append}
use Rattle.std.proofs.Math.Seq.{take-add}
use Rattle.std.proofs.Math.Nat.{zero-mul, suc-mul}
use Rattle.std.proofs.lemmas.List.{take-append-drop}
use Rattle.ob_base.specs.Lists.{each, has_repeats}
use Rattle.std.specs.Prelude.{replicate}
use Rattle.ob_row.specs.Bags.{Same}
use Rattle.ob_row.specs.Rows.{Row, agree_at, pairs, AreDistinct}
use Rattle.ob_row.proofs.BagLemmas.{Same-append}
use Rattle.ob_row.proofs.PairLemmas.{pairs-by_right}
use Rattle.ob_row.specs.Slots.{Slots, rows}
use Rattle.std.proofs.lemmas.Grind.{div_ceil_times}
use Rattle.ob_base.specs.Joins.{chunks}
use Rattle.ob_base.specs.Limits.{buffered, buffered_blocks}
use Rattle.ob_base.specs.Numbers.{blocks_for}
use Rattle.ob_script.proofs.Numbers.{ceil-ceil}
use Rattle.ob_row.specs.Results.{joined, joined_chunk, joined_slot, padded, chunk}

pub rows-append : (xs ys : Slots) → rows (xs ++ ys) ≡ rows xs ++ rows ys
rows-append xs ys = filter_map-append (λ slot. slot) xs ys

either_false : (a b : Bool) → (a || b) ≡ false → (a ≡ false) × (b ≡ false)
either_false true b h = absurd (cc)
either_false false b h = (refl, h)

both_false : (a b : Bool) → a ≡ false → b ≡ false → (a || b) ≡ false
both_false a b h k = (λ t. h t || b) ∙ k

distinct-append : {A : Type 0} (eq : A → A → Bool) (xs ys : List A) → has_repeats eq (xs ++ ys) ≡ false → (has_repeats eq xs ≡ false) × (has_repeats eq ys ≡ false)
distinct-append eq [] ys h = (refl, h)
distinct-append eq (x ∷ xs) ys h =
    let n = either_false (list_any (eq x) (xs ++ ys)) (has_repeats eq (xs ++ ys)) h in
    let m = either_false (list_any (eq x) xs) (list_any (eq x) ys) (sym (list_any-append (eq x) xs ys) ∙ n.0) in
    let r = distinct-append eq xs ys n.1 in
    (both_false (list_any (eq x) xs) (has_repeats eq xs) m.0 r.0, r.1)

pub rows-nothing : (n : ℕ) → rows (replicate n None) ≡ []
rows-nothing zero = refl
rows-nothing (suc n) = rows-nothing n

-- empty slots at the end have no rows
pub rows-padded : (n : ℕ) (slots : Slots) → rows (padded n slots) ≡ rows slots
rows-padded n slots = rows-append slots (replicate (n - length slots) None) ∙ ap (λ w. rows slots ++ w) (rows-nothing (n - length slots)) ∙ append-nil (rows slots)

take_all : {A : Type 0} (n : ℕ) (xs : List A) → length xs ≤ n → take n xs ≡ xs
take_all zero [] h = refl
take_all zero (x ∷ xs) h = absurd (omega arith)
take_all (suc n) [] h = refl
take_all (suc n) (x ∷ xs) h = ap (λ w. x ∷ w) (take_all n xs (omega arith))

module _ (i j : ℕ) where
  -- each right row with the left row that agrees with it
  abbrev matched : List Row → List Row → List Row
  matched left right = flat_map (λ b. map (λ a. a ++ b) (option_to_list (find (λ a. agree_at i j a b) left))) right

  rows-matched : (left : List Row) (right : Slots) → rows (map (joined_slot i j left) right) ≡ matched left (rows right)
  rows-matched left [] = refl
  rows-matched left (None ∷ right) = rows-matched left right
  rows-matched left (Some b ∷ right) =
      elim (find (λ a. agree_at i j a b) left) as (λ o. rows (option_map (λ a. a ++ b) o ∷ map (joined_slot i j left) right) ≡ map (λ a. a ++ b) (option_to_list o) ++ matched left (rows right))
      [ None ↦ rows-matched left right | Some a ↦ ap (λ w. (a ++ b) ∷ w) (rows-matched left right) ]

  -- a part of the left slots, then the whole
  module _ (s n' : ℕ) (left right : Slots) (distinct : AreDistinct i (rows left)) where
    abbrev after_chunks : ℕ → Slots
    after_chunks n = each n (λ q. joined_chunk i j n' (chunk s q left) right)

    distinct_chunk : (n : ℕ) → AreDistinct i (rows (chunk s n left))
    distinct_chunk n =
        let whole = ap rows (take-append-drop (n * s) left) in
        let parts = sym (rows-append (take (n * s) left) (drop (n * s) left)) ∙ whole in
        let later : AreDistinct i (rows (drop (n * s) left)) =
        (distinct-append (agree_at i i) (rows (take (n * s) left)) (rows (drop (n * s) left)) (ap (has_repeats (agree_at i i)) parts ∙ distinct)).1 in
        let again = sym (rows-append (take s (drop (n * s) left)) (drop s (drop (n * s) left))) ∙ ap rows (take-append-drop s (drop (n * s) left)) in
        (distinct-append (agree_at i i) (rows (chunk s n left)) (rows (drop s (drop (n * s) left))) (ap (has_repeats (agree_at i i)) again ∙ later)).0

    one_chunk : (n : ℕ) → Same (pairs i j (rows (chunk s n left)) (rows right)) (rows (joined_chunk i j n' (chunk s n left) right))
    one_chunk n =
        subst (λ w. Same (pairs i j (rows (chunk s n left)) (rows right)) w) (sym (rows-padded n' (map (joined_slot i j (rows (chunk s n left))) right) ∙ rows-matched (rows (chunk s n left)) right))
        (pairs-by_right i j (rows (chunk s n left)) (rows right) (distinct_chunk n))

    more : (n : ℕ) → pairs i j (rows (take (suc n * s) left)) (rows right) ≡ pairs i j (rows (take (n * s) left)) (rows right) ++ pairs i j (rows (chunk s n left)) (rows right)
    more n =
        ap (λ w. pairs i j (rows (take w left)) (rows right)) (suc-mul n s)
        ∙ ap (λ w. pairs i j (rows w) (rows right)) (take-add (n * s) s left)
        ∙ ap (λ w. pairs i j w (rows right)) (rows-append (take (n * s) left) (chunk s n left))
        ∙ flat_map-append (λ a. map (λ b. a ++ b) (filter (agree_at i j a) (rows right))) (rows (take (n * s) left)) (rows (chunk s n left))

    many : (n : ℕ) → Same (pairs i j (rows (take (n * s) left)) (rows right)) (rows (after_chunks n))
    many zero = subst (λ w. Same (pairs i j (rows (take w left)) (rows right)) []) (sym (zero-mul s)) refl
    many (suc n) =
        subst (λ w. Same w (rows (after_chunks (suc n)))) (sym (more n))
        (subst (λ w. Same (pairs i j (rows (take (n * s) left)) (rows right) ++ pairs i j (rows (chunk s n left)) (rows right)) w)
        (sym (rows-append (after_chunks n) (joined_chunk i j n' (chunk s n left) right)))
        (Same-append _ _ _ _ (many n) (one_chunk n)))

    pub rows-chunks : (n : ℕ) → length left ≤ n * s → Same (pairs i j (rows left) (rows right)) (rows (after_chunks n))
    rows-chunks n all = subst (λ w. Same (pairs i j (rows w) (rows right)) (rows (after_chunks n))) (take_all (n * s) left all) (many n)

-- as many chunks as there are hold all left slots
chunks_hold : (pack room n : ℕ) → 1 ≤ pack → 1 ≤ buffered_blocks pack room → n ≤ chunks pack room n * buffered pack room
chunks_hold pack room n some pos =
    let s = buffered pack room in
    let both : 0 < s = mul-pos some pos in
    let by_rows = ceil-ceil n pack (buffered_blocks pack room) some pos in
    let d = div_ceil_times n s both in
    subst (λ c. n ≤ c * s) (sym by_rows) d.0

pub rows-joined : (i j pack room : ℕ) (left right : Slots) → AreDistinct i (rows left) → 1 ≤ pack → 1 ≤ buffered_blocks pack room →
    Same (pairs i j (rows left) (rows right)) (rows (joined i j pack room left right))
rows-joined i j pack room left right distinct some pos =
    rows-chunks i j (buffered pack room) (blocks_for pack (length right) * pack) left right distinct (chunks pack room (length left)) (chunks_hold pack room (length left) some pos)
