-- The bytes of a joined row, and the row that one is joined with.
use Rattle.std.proofs.Common.{◌≡◌, ◌≤◌, ◌<◌, ◌+◌, ◌-◌, ℕ, zero, suc, Bool, true, false, List, [], ◌∷◌, ◌++◌, Option, Some, None, length, take, drop, slice_index_or, cond, refl, sym, ◌∙◌, ap, subst, arith, append_assoc}
use Rattle.std.specs.Prelude.{find, is_some, slice_get, replicate}
use Rattle.std.proofs.lemmas.List.{take_more, take_at, drop-take, take-append-drop}
use Rattle.std.proofs.lemmas.List.Sums.{sum_by-append}
use Rattle.ob_base.specs.declared.schema.Column.{Column}
use Rattle.ob_base.specs.Schemas.{Columns, kind_width, width}
use Rattle.std.specs.Option.{option_map}
use Rattle.ob_row.specs.declared.cell.Cell.{Cell}
use Rattle.ob_row.specs.Rows.{Row, cell_at, options_eq}
use Rattle.ob_row.specs.Results.{joined_slot}
use Rattle.ob_row.specs.Slots.{Slots, rows, is_selected}
use Rattle.ob_join.specs.Joining.{IsPartner}
use Rattle.ob_row.specs.Spelling.{FitsColumns, Begins, cells_width, cell_bytes, cells_bytes, row_bytes}

pub width-join : (l r : Columns) → width (l ++ r) + 1 ≡ width l + width r
width-join l r = omega (arith, sum_by-append (λ (c : Column). kind_width c.kind) l r)

pub fits-join : (l r : Columns) (a b : Row) → FitsColumns l a → FitsColumns r b → FitsColumns (l ++ r) (a ++ b)
fits-join [] r [] b h k = k
fits-join [] r (x ∷ a) b h k = absurd h
fits-join (c ∷ l) r [] b h k = absurd h
fits-join (c ∷ l) r (x ∷ a) b h k = (h.0, fits-join l r a b h.1 k)

bytes-join : (l r : Columns) (a b : Row) → FitsColumns l a → cells_bytes (l ++ r) (a ++ b) ≡ cells_bytes l a ++ cells_bytes r b
bytes-join [] r [] b h = refl
bytes-join [] r (x ∷ a) b h = absurd h
bytes-join (c ∷ l) r [] b h = absurd h
bytes-join (c ∷ l) r (x ∷ a) b h =
    ap (λ (t : List ℕ). cell_bytes c.kind x ++ t) (bytes-join l r a b h.1) ∙ sym (append_assoc (cell_bytes c.kind x) (cells_bytes l a) (cells_bytes r b))

-- a left row, and the cells of a right row after it
begins-join : (l r : Columns) (a b : Row) (left right behind : List ℕ) → Begins l (Some a) left → Begins r (Some b) right
    → Begins (l ++ r) (Some (a ++ b)) (take (width l) left ++ (drop 1 (take (width r) right) ++ behind))
begins-join l r a b left right behind first second =
    let is : take (width l) left ++ (drop 1 (take (width r) right) ++ behind) ≡ row_bytes (l ++ r) (a ++ b) ++ behind =
    ap (λ (t : List ℕ). t ++ (drop 1 (take (width r) right) ++ behind)) first.is
    ∙ ap (λ (t : List ℕ). row_bytes l a ++ (drop 1 t ++ behind)) second.is
    ∙ sym (append_assoc (row_bytes l a) (cells_bytes r b) behind)
    ∙ ap (λ (t : List ℕ). (1 ∷ t) ++ behind) (sym (bytes-join l r a b first.fits)) in
    subst (Begins (l ++ r) (Some (a ++ b))) (sym is) (Rattle.ob_row.proofs.SpellingLemmas.row_bytes-begin (l ++ r) (a ++ b) behind (fits-join l r a b first.fits second.fits))

-- as they are written over the first bytes of another row
pub pair_written : (l r : Columns) (a b : Row) (left right to new : List ℕ) (n : ℕ) → Begins l (Some a) left → Begins r (Some b) right → length new ≡ length to
    → new ≡ take (width l) left ++ (take (width r - 1) (drop 1 right) ++ drop n to) → Begins (l ++ r) (Some (a ++ b)) (take (length to) (new ++ drop (length new) to))
pair_written l r a b left right to new n first second size is =
    let less : width r - 1 ≡ cells_width r = omega arith in
    let cells : take (width r - 1) (drop 1 right) ≡ drop 1 (take (width r) right) =
    ap (λ (k : ℕ). take k (drop 1 right)) less ∙ sym (drop-take 1 (cells_width r) right) in
    subst (Begins (l ++ r) (Some (a ++ b)))
    (sym (take_at new (drop (length new) to) (length to) size ∙ is ∙ ap (λ (t : List ℕ). take (width l) left ++ (t ++ drop n to)) cells))
    (begins-join l r a b left right (drop n to) first second)

rows-append : (xs ys : Slots) → rows (xs ++ ys) ≡ rows xs ++ rows ys
rows-append [] ys = refl
rows-append (None ∷ xs) ys = rows-append xs ys
rows-append (Some a ∷ xs) ys = ap (λ (l : List Row). a ∷ l) (rows-append xs ys)

find-append : (p : Row → Bool) (xs ys : List Row) → find p xs ≡ None → find p (xs ++ ys) ≡ find p ys
find-append p [] ys none = refl
find-append p (x ∷ xs) ys none = go (p x) none (find-append p xs ys)
  where
    go : (b : Bool) → cond b (Some x) (find p xs) ≡ None → (find p xs ≡ None → find p (xs ++ ys) ≡ find p ys) → cond b (Some x) (find p (xs ++ ys)) ≡ find p ys
    go true none rest = absurd (cc none)
    go false none rest = rest none

-- no row before agrees, and neither does this slot
pub find_past : (p : Row → Bool) (slots : Slots) (i : ℕ) → i < length slots → find p (rows (take i slots)) ≡ None → is_selected p (slice_index_or slots i None) ≡ false
    → find p (rows (take (i + 1) slots)) ≡ None
find_past p slots i below none not =
    ap (λ (l : Slots). find p (rows l)) (take_more slots i None below) ∙ ap (find p) (rows-append (take i slots) (slice_index_or slots i None ∷ []))
    ∙ find-append p (rows (take i slots)) (rows (slice_index_or slots i None ∷ [])) none ∙ go (slice_index_or slots i None) not
  where
    go : (s : Option Row) → is_selected p s ≡ false → find p (rows (s ∷ [])) ≡ None
    go None not = refl
    go (Some a) not = ap (λ (b : Bool). cond b (Some a) None) not

-- the first slot that agrees
pub partner : (p : Row → Bool) (slots : Slots) (i : ℕ) → i < length slots → find p (rows (take i slots)) ≡ None → is_selected p (slice_index_or slots i None) ≡ true → IsPartner p slots i
partner p slots i below none agrees = go (slice_index_or slots i None) refl agrees
  where
    rest : Slots
    rest = drop (i + 1) slots

    split : slots ≡ take i slots ++ (slice_index_or slots i None ∷ rest)
    split = sym (take-append-drop (i + 1) slots) ∙ ap (λ (l : Slots). l ++ rest) (take_more slots i None below) ∙ append_assoc (take i slots) (slice_index_or slots i None ∷ []) rest

    first : (s : Option Row) → slice_index_or slots i None ≡ s → find p (rows slots) ≡ find p (rows (s ∷ rest))
    first s is = ap (λ (l : Slots). find p (rows l)) split ∙ ap (find p) (rows-append (take i slots) (slice_index_or slots i None ∷ rest))
        ∙ find-append p (rows (take i slots)) (rows (slice_index_or slots i None ∷ rest)) none ∙ ap (λ (s : Option Row). find p (rows (s ∷ rest))) is

    go : (s : Option Row) → slice_index_or slots i None ≡ s → is_selected p s ≡ true → IsPartner p slots i
    go None is agrees = absurd (cc agrees)
    go (Some a) is agrees = record { row = a; is = is; found = first (Some a) is ∙ ap (λ (b : Bool). cond b (Some a) (find p (rows rest))) agrees }

-- what a right row with this cell is joined to
pub joined_found : (i j : ℕ) (left : List Row) (b : Row) (cell : Cell) (o : Option Row) → slice_get b j ≡ Some cell → find (λ a. options_eq (cell_at a i) (Some cell)) left ≡ o
    → joined_slot i j left (Some b) ≡ option_map (λ a. a ++ b) o
joined_found i j left b cell o is found =
    ap (λ (x : Option Cell). option_map (λ (a : Row). a ++ b) (find (λ (a : Row). options_eq (cell_at a i) x) left)) is ∙ ap (option_map (λ (a : Row). a ++ b)) found

-- an empty slot is zeros
pub dummy : (columns : Columns) (slot : Option Row) (n : ℕ) (row : List ℕ) → slot ≡ None → width columns ≤ n → row ≡ replicate n 0 → Begins columns slot row
dummy columns slot n row none wide is =
    subst (λ (s : Option Row). Begins columns s row) (sym none) (subst (Begins columns None) (sym is) (Rattle.ob_row.proofs.SpellingLemmas.zeros-begin columns n wide))

pub empty_joins : (i j : ℕ) (left : List Row) (slot : Option Row) → is_some slot ≡ false → joined_slot i j left slot ≡ None
empty_joins i j left None not = refl
empty_joins i j left (Some b) not = absurd (cc not)

-- no row before the i-th passes, where no slot before it does
pub none_before : (p : Row → Bool) (slots : Slots) (i : ℕ) → i ≤ length slots → ((j : ℕ) → j < i → is_selected p (slice_index_or slots j None) ≡ false) → find p (rows (take i slots)) ≡ None
none_before p slots zero within off = refl
none_before p slots (suc i) within off =
    let inside : i < length slots = omega (arith, within) in
    let next = find_past p slots i inside (none_before p slots i (omega (arith, within)) (λ j less. off j (omega (arith, less)))) (off i (omega arith)) in
    let one : i + 1 ≡ suc i = omega arith in
    subst (λ (k : ℕ). find p (rows (take k slots)) ≡ None) one next
