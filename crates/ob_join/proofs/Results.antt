-- The joined slots: their blocks, their number, and that they fit.
use Rattle.std.proofs.Common.{◌≡◌, ◌≤◌, ◌<◌, ◌+◌, ◌-◌, ◌*◌, ℕ, zero, suc, min, Bool, true, false, List, [], ◌∷◌, ◌++◌, Option, Some, None, length, map, take, drop, replicate, cond, inl, inr, refl, sym, ◌∙◌, ap, subst, arith}
use Rattle.std.specs.Prelude.{find}
use Rattle.std.specs.Int.{div_ceil}
use Rattle.std.specs.List.{All}
use Rattle.std.proofs.lemmas.Bool.{cases_lt}
use Rattle.std.proofs.lemmas.Grind.{div_ceil_times}
use Rattle.std.proofs.lemmas.List.{drop-append-le, take-append-le, take_all, append-nil, length-map, length-drop, drop-replicate}
use Rattle.std.proofs.lemmas.List.Elements as elements
use Rattle.std.proofs.Math.Seq.{drop-append-add}
use Rattle.ob_base.specs.Lists.{each}
use Rattle.ob_base.specs.Numbers.{blocks_for}
use Rattle.ob_base.specs.Schemas.{Columns}
use Rattle.ob_script.proofs.Eaches.{length-even}
use Rattle.ob_vault.specs.State.{World}
use Rattle.ob_vault.specs.Tied.{Holds}
use Rattle.ob_vault.proofs.RowsLemmas.{rows_room}
use Rattle.ob_row.specs.Rows.{Row, agree_at}
use Rattle.ob_row.specs.Slots.{Slots, rows}
use Rattle.ob_row.specs.Spelling.{FitsColumns}
use Rattle.ob_row.specs.Results.{joined_slot, joined_chunk, chunk}
use Rattle.ob_blocks.specs.Blocks.{none_of, up_to, block_at}
use Rattle.ob_blocks.proofs.Blocks.{length-up_to, all_up_to}
use Rattle.ob_flat.specs.declared.flat.Flat.{Flat}
use Rattle.ob_flat.specs.Slots.{FitsSlot, block_bytes}
use Rattle.ob_flat.specs.Flats.{Represents, whole_blocks}
use Rattle.ob_flat.proofs.Tables.{blocks_hold}
use Rattle.ob_join.specs.Joining.{blocks_from, joined_in}
use Rattle.ob_join.specs.Filling.{HoldsFirst}
use Rattle.ob_join.proofs.Pairs.{fits-join}
use Rattle.ob_join.proofs.Windows.{product_within}

-- a block of one of some lists of one length
each_block : {A : Type 0} (f : ℕ → List A) (r m n q d : ℕ) → ((q : ℕ) → length (f q) ≡ m) → q < n → d + r ≤ m → take r (drop (q * m + d) (each n f)) ≡ take r (drop d (f q))
each_block f r m zero q d size below fits = absurd (omega arith)
each_block f r m (suc n) q d size below fits =
    let long : length (each n f) ≡ n * m = length-even n m f (λ v b. size v) in
    elim (cases_lt q n) [
      | inl less ↦
          let room : q * m + m ≤ n * m = rows_room q n m less in
          ap (take r) (drop-append-le (q * m + d) (each n f) (f n) (omega (arith, long, room, fits)))
          ∙ take-append-le r (drop (q * m + d) (each n f)) (f n) (omega (arith, long, room, fits, length-drop (q * m + d) (each n f)))
          ∙ each_block f r m n q d size less fits
      | inr more ↦
          let is : q ≡ n = omega (arith, below, more) in
          let start : q * m + d ≡ length (each n f) + d = omega (arith, long, ap (λ (k : ℕ). k * m) is) in
          ap (λ (k : ℕ). take r (drop k (each n f ++ f n))) start ∙ ap (take r) (drop-append-add (each n f) (f n) d) ∙ ap (λ (k : ℕ). take r (drop d (f k))) (sym is)
    ]

pub length-joined_chunk : (i j n : ℕ) (left right : Slots) → length right ≤ n → length (joined_chunk i j n left right) ≡ n
length-joined_chunk i j n left right fits = length-up_to n (map (joined_slot i j (rows left)) right) (omega (arith, fits, length-map right (joined_slot i j (rows left))))

pub length-joined : (i j s chunks n : ℕ) (left right : Slots) → length right ≤ n → length (joined_in i j s chunks n left right) ≡ chunks * n
length-joined i j s chunks n left right fits = length-even chunks n (λ q. joined_chunk i j n (chunk s q left) right) (λ q b. length-joined_chunk i j n (chunk s q left) right fits)

index : (q rights v r : ℕ) → (q * rights + v) * r ≡ q * (rights * r) + v * r
index q rights v r = grind arith

-- block v of chunk q
joined_at : (i j s chunks rights r q v : ℕ) (left right : Slots) → length right ≤ rights * r → q < chunks → v < rights
    → block_at r (joined_in i j s chunks (rights * r) left right) (q * rights + v) ≡ block_at r (joined_chunk i j (rights * r) (chunk s q left) right) v
joined_at i j s chunks rights r q v left right fits below inside =
    let f : ℕ → Slots = λ k. joined_chunk i j (rights * r) (chunk s k left) right in
    ap (λ (d : ℕ). take r (drop d (each chunks f))) (index q rights v r)
    ∙ each_block f r (rights * r) chunks q (v * r) (λ k. length-joined_chunk i j (rights * r) (chunk s k left) right fits) below (rows_room v rights r inside)

-- empty slots have no rows
rows_none : (s k : ℕ) → rows (take s (replicate k None)) ≡ []
rows_none zero k = refl
rows_none (suc s) zero = refl
rows_none (suc s) (suc k) = rows_none s k

rows_nil : (s d : ℕ) → rows (take s (drop d [])) ≡ []
rows_nil zero zero = refl
rows_nil (suc s) zero = refl
rows_nil zero (suc d) = refl
rows_nil (suc s) (suc d) = refl

rows_padded : (s d m : ℕ) (slots : Slots) → rows (take s (drop d (slots ++ none_of m))) ≡ rows (take s (drop d slots))
rows_padded s d m [] = let none : Option Row = None in ap (λ (l : Slots). rows (take s l)) (drop-replicate d m none) ∙ rows_none s (m - d) ∙ sym (rows_nil s d)
rows_padded zero zero m (x ∷ slots) = refl
rows_padded (suc s) zero m (None ∷ slots) = rows_padded s zero m slots
rows_padded (suc s) zero m (Some a ∷ slots) = ap (λ (l : List Row). a ∷ l) (rows_padded s zero m slots)
rows_padded s (suc d) m (x ∷ slots) = rows_padded s d m slots

-- no chunk begins past the blocks
pub chunk_inside : (blocks q j : ℕ) → 1 ≤ q → j < div_ceil blocks q → j * q < blocks
chunk_inside blocks q j some below =
    let most : (j + 1) * q ≤ div_ceil blocks q * q = grind arith in
    let next : (j + 1) * q ≡ j * q + q = grind arith in
    omega (arith, most, next, (div_ceil_times blocks q (omega arith)).1)

-- the real rows of the blocks that are kept are those of the chunk
chunk_rows : (pack capacity buffered q : ℕ) (slots : Slots) → length slots ≡ capacity → 1 ≤ pack → 1 ≤ buffered → q < div_ceil (blocks_for pack capacity) buffered
    → rows (blocks_from pack capacity (q * buffered) (min buffered (blocks_for pack capacity - q * buffered)) slots) ≡ rows (chunk (pack * buffered) q slots)
chunk_rows pack capacity buffered q slots size some least below =
    let lefts = blocks_for pack capacity in
    let first = q * buffered in
    let n = min buffered (lefts - first) in
    let s = pack * buffered in
    let whole = whole_blocks pack capacity slots in
    let part = drop (first * pack) whole in
    let inside : first < lefts = chunk_inside lefts buffered q least below in
    let long : length whole ≡ lefts * pack = length-up_to (lefts * pack) slots (omega (arith, size, blocks_hold pack capacity some)) in
    let start : first * pack ≡ q * s = grind arith in
    let turned : s ≡ buffered * pack = grind arith in
    let taken : take (n * pack) part ≡ take s part = elim (cases_lt (lefts - first) buffered) [
      | inl less ↦
          let is : n + first ≡ lefts = omega (arith, less, inside) in
          let sum : (n + first) * pack ≡ n * pack + first * pack = grind arith in
          let rest : length part ≡ n * pack = omega (arith, length-drop (first * pack) whole, long, sum, ap (λ (k : ℕ). k * pack) is) in
          let most : n * pack ≤ buffered * pack = product_within n buffered pack (omega arith) in
          take_all (n * pack) part (omega (arith, rest)) ∙ sym (take_all s part (omega (arith, rest, most, turned)))
      | inr more ↦
          let is : n ≡ buffered = omega (arith, more) in
          ap (λ (k : ℕ). take k part) (ap (λ (k : ℕ). k * pack) is ∙ sym turned)
    ] in
    ap rows taken ∙ rows_padded s (first * pack) (lefts * pack - length slots) slots ∙ ap (λ (d : ℕ). rows (take s (drop d slots))) start

-- block v that the kept blocks of chunk q give
pub joined_kept : (i j pack capacity buffered rights q v : ℕ) (left right : Slots) → length left ≡ capacity → length right ≤ rights * pack → 1 ≤ pack → 1 ≤ buffered
    → q < div_ceil (blocks_for pack capacity) buffered → v < rights
    → block_at pack (joined_in i j (pack * buffered) (div_ceil (blocks_for pack capacity) buffered) (rights * pack) left right) (q * rights + v)
    ≡ block_at pack (joined_chunk i j (rights * pack) (blocks_from pack capacity (q * buffered) (min buffered (blocks_for pack capacity - q * buffered)) left) right) v
joined_kept i j pack capacity buffered rights q v left right size fits some least below inside =
    joined_at i j (pack * buffered) (div_ceil (blocks_for pack capacity) buffered) rights pack q v left right fits below inside
    ∙ ap (λ (l : List Row). block_at pack (up_to (rights * pack) (map (joined_slot i j l) right)) v) (sym (chunk_rows pack capacity buffered q left size some least below))

-- they fit both schemas
found_fits : (columns : Columns) (p : Row → Bool) (slots : Slots) (a : Row) → All (FitsSlot columns) slots → find p (rows slots) ≡ Some a → FitsColumns columns a
found_fits columns p [] a fits is = absurd (cc is)
found_fits columns p (None ∷ slots) a fits is = found_fits columns p slots a (elements.All-tail (FitsSlot columns) None slots fits) is
found_fits columns p (Some x ∷ slots) a fits is = go (p x) is (found_fits columns p slots a (elements.All-tail (FitsSlot columns) (Some x) slots fits))
  where
    go : (b : Bool) → cond b (Some x) (find p (rows slots)) ≡ Some a → (find p (rows slots) ≡ Some a → FitsColumns columns a) → FitsColumns columns a
    go true is rest = let same : x ≡ a = cc is in subst (FitsColumns columns) same (elements.All-head (FitsSlot columns) (Some x) slots fits)
    go false is rest = rest is

slot_fits : (l r : Columns) (i j : ℕ) (left : Slots) (slot : Option Row) → All (FitsSlot l) left → FitsSlot r slot → FitsSlot (l ++ r) (joined_slot i j (rows left) slot)
slot_fits l r i j left None all fits = tt
slot_fits l r i j left (Some b) all fits = go (find (λ a. agree_at i j a b) (rows left)) refl
  where
    go : (o : Option Row) → find (λ a. agree_at i j a b) (rows left) ≡ o → FitsSlot (l ++ r) (Rattle.std.specs.Option.option_map (λ (a : Row). a ++ b) o)
    go None is = tt
    go (Some a) is = fits-join l r a b (found_fits l (λ a. agree_at i j a b) left a all is) fits

joined_fits : (l r : Columns) (i j s chunks n : ℕ) (left right : Slots) → All (FitsSlot l) left → All (FitsSlot r) right → All (FitsSlot (l ++ r)) (joined_in i j s chunks n left right)
joined_fits l r i j s zero n left right first second = elements.All-nil (FitsSlot (l ++ r))
joined_fits l r i j s (suc chunks) n left right first second =
    let own = chunk s chunks left in
    let kept : All (FitsSlot l) own = elements.All-take (FitsSlot l) s (drop (chunks * s) left) (elements.All-drop (FitsSlot l) (chunks * s) left first) in
    let f = joined_slot i j (rows own) in
    elements.All-append (FitsSlot (l ++ r)) (joined_in i j s chunks n left right) (joined_chunk i j n own right) (joined_fits l r i j s chunks n left right first second)
    (all_up_to (FitsSlot (l ++ r)) n (map f right) tt (elements.All-map (FitsSlot (l ++ r)) f right (elements.All-weaker (FitsSlot r) (λ slot. FitsSlot (l ++ r) (f slot)) (λ slot fits. slot_fits l r i j own slot kept fits) right second)))

pub whole_product : (n r : ℕ) → 1 ≤ r → div_ceil (n * r) r ≡ n
whole_product n r some = grind arith

full : (n : ℕ) (slots : Slots) → length slots ≡ n → up_to n slots ≡ slots
full n slots size = let none : n - length slots ≡ 0 = omega (arith, size) in ap (λ (k : ℕ). slots ++ none_of k) none ∙ append-nil slots

-- a region that holds their blocks is a table of them
pub represents_joined : (l r : Columns) (i j s chunks rights pack : ℕ) (flat : Flat) (left right : Slots) (w : World) → flat.schema ≡ l ++ r → flat.capacity ≡ chunks * rights * pack → 1 ≤ pack → length right ≤ rights * pack
    → All (FitsSlot l) left → All (FitsSlot r) right → HoldsFirst pack flat (joined_in i j s chunks (rights * pack) left right) (chunks * rights) w → Represents pack flat (joined_in i j s chunks (rights * pack) left right) w
represents_joined l r i j s chunks rights pack flat left right w schema capacity some fits first second holds =
    let all = joined_in i j s chunks (rights * pack) left right in
    let product : chunks * (rights * pack) ≡ chunks * rights * pack = grind arith in
    let size : length all ≡ flat.capacity = length-joined i j s chunks (rights * pack) left right fits ∙ product ∙ sym capacity in
    let blocks : blocks_for pack flat.capacity ≡ chunks * rights = ap (blocks_for pack) capacity ∙ whole_product (chunks * rights) pack some in
    let whole : whole_blocks pack flat.capacity all ≡ all = full (blocks_for pack flat.capacity * pack) all (size ∙ capacity ∙ ap (λ (k : ℕ). k * pack) (sym blocks)) in
    record {
      size = size;
      fits = subst (λ (c : Columns). All (FitsSlot c) all) (sym schema) (joined_fits l r i j s chunks (rights * pack) left right first second);
      holds = λ p below. subst (λ (l : Slots). Holds flat.region p (block_bytes flat.schema (block_at pack l p)) w) (sym whole) (holds.holds p (omega (arith, below, blocks)));
    }
