-- The first empty slot, and a row with the key.
use Rattle.std.proofs.Common.{◌≡◌, ◌≢◌, ◌≤◌, ◌<◌, ◌+◌, ◌-◌, ◌==◌, ◌&&◌, ◌||◌, ℕ, suc, Bool, true, false, not, nat_lt, List, [], ◌∷◌, Option, Some, None, IfSome, is_some, length, if◌then◌else◌, refl, sym, ◌∙◌, ap, arith}
use Rattle.std.proofs.lemmas.Bool.Decides.{nat_tests}
use Rattle.std.specs.List.{list_any}
use Rattle.ob_base.specs.Schemas.{Columns, key_place}
use Rattle.ob_row.specs.Rows.{Row, has_key}
use Rattle.ob_blocks.specs.Blocks.{scanned, map_at, up_to, none_of}
use Rattle.ob_blocks.proofs.Blocks.{scanned-append, scanned-same}
use Rattle.ob_row.specs.Slots.{Slots, rows, fill_first}
use Rattle.ob_mutate.specs.declared.searching.Finds.{Finds}
use Rattle.ob_mutate.specs.declared.inserting.Inserted.{Inserted}
use Rattle.ob_mutate.specs.declared.inserting.Inserted.TheVariants.{Done, Duplicate, Full}
use Rattle.ob_mutate.specs.Searches.{agrees, found, free_from, put_at}
use Rattle.ob_mutate.specs.Inserting.{insert_answer, slots_after}

-- what is kept of the first empty slot
abbrev first_of : Option ℕ → Option ℕ → Option ℕ
first_of None later = later
first_of (Some i) later = Some i

-- whether some row has the key, and one was found before
abbrev any_of : Option ℕ → Row → Slots → Bool
any_of key row slots = list_any (agrees key row) (rows slots)

less : (i n : ℕ) → i < n → nat_lt i n ≡ true
less i n below = grind (arith, nat_tests)

past : (i n : ℕ) → n ≤ i → nat_lt i n ≡ false
past i n beyond = grind (arith, nat_tests)

-- what is true once the slots were seen
record IsFound (key : Option ℕ) (row : Row) (i : ℕ) (slots : Slots) (old new : Finds) : Type 0 where
  free : new.free ≡ first_of old.free (free_from i slots)
  duplicate : new.duplicate ≡ (old.duplicate || any_of key row slots)

or_false : (b : Bool) → (b || false) ≡ b
or_false true = refl
or_false false = refl

seen : (key : Option ℕ) (row : Row) (n i : ℕ) (f : Finds) (slots : Slots) → i + length slots ≤ n → IsFound key row i slots f (scanned (found key row n) i f slots)
seen key row n i f [] fits = record { free = go f.free refl; duplicate = sym (or_false f.duplicate) }
  where
    go : (o : Option ℕ) → f.free ≡ o → f.free ≡ first_of f.free None
    go None is = is ∙ sym (ap (λ (o : Option ℕ). first_of o None) is)
    go (Some j) is = is ∙ sym (ap (λ (o : Option ℕ). first_of o None) is)
seen key row n i f (None ∷ slots) fits = go (seen key row n (i + 1) (found key row n f i None) slots (omega (arith, fits))) f.free refl
  where
    g : Finds
    g = found key row n f i None

    go : IsFound key row (i + 1) slots g (scanned (found key row n) (i + 1) g slots) → (o : Option ℕ) → f.free ≡ o → IsFound key row i (None ∷ slots) f (scanned (found key row n) (i + 1) g slots)
    go rest None is =
        let now : g ≡ record f { free = Some i } = ap (λ (b : Bool). if b && not (is_some f.free) then record f { free = Some i } else f) (less i n (omega (arith, fits))) ∙ ap (λ (o : Option ℕ). if true && not (is_some o) then record f { free = Some i } else f) is in
        record {
          free = rest.free ∙ ap (λ (h : Finds). first_of h.free (free_from (i + 1) slots)) now ∙ sym (ap (λ (o : Option ℕ). first_of o (Some i)) is);
          duplicate = rest.duplicate ∙ ap (λ (h : Finds). h.duplicate || any_of key row slots) now;
        }
    go rest (Some j) is =
        let now : g ≡ f = ap (λ (b : Bool). if b && not (is_some f.free) then record f { free = Some i } else f) (less i n (omega (arith, fits))) ∙ ap (λ (o : Option ℕ). if true && not (is_some o) then record f { free = Some i } else f) is in
        record {
          free = rest.free ∙ ap (λ (h : Finds). first_of h.free (free_from (i + 1) slots)) now ∙ ap (λ (o : Option ℕ). first_of o (free_from (i + 1) slots)) is ∙ sym (ap (λ (o : Option ℕ). first_of o (Some i)) is);
          duplicate = rest.duplicate ∙ ap (λ (h : Finds). h.duplicate || any_of key row slots) now;
        }
seen key row n i f (Some other ∷ slots) fits = go (seen key row n (i + 1) (found key row n f i (Some other)) slots (omega (arith, fits))) (agrees key row other) refl
  where
    g : Finds
    g = found key row n f i (Some other)

    or_or : (a c : Bool) → (true || c) ≡ (a || (true || c))
    or_or true c = refl
    or_or false c = refl

    go : IsFound key row (i + 1) slots g (scanned (found key row n) (i + 1) g slots) → (b : Bool) → agrees key row other ≡ b → IsFound key row i (Some other ∷ slots) f (scanned (found key row n) (i + 1) g slots)
    go rest true is =
        let now : g ≡ record f { duplicate = true } = ap (λ (b : Bool). if b then record f { duplicate = true } else f) is in
        record {
          free = rest.free ∙ ap (λ (h : Finds). first_of h.free (free_from (i + 1) slots)) now;
          duplicate = rest.duplicate ∙ ap (λ (h : Finds). h.duplicate || any_of key row slots) now ∙ or_or f.duplicate (any_of key row slots) ∙ sym (ap (λ (b : Bool). f.duplicate || (b || any_of key row slots)) is);
        }
    go rest false is =
        let now : g ≡ f = ap (λ (b : Bool). if b then record f { duplicate = true } else f) is in
        record {
          free = rest.free ∙ ap (λ (h : Finds). first_of h.free (free_from (i + 1) slots)) now;
          duplicate = rest.duplicate ∙ ap (λ (h : Finds). h.duplicate || any_of key row slots) now ∙ sym (ap (λ (b : Bool). f.duplicate || (b || any_of key row slots)) is);
        }

any_key : (key : Option ℕ) (row : Row) (others : List Row) → list_any (agrees key row) others ≡ has_key key row others
any_key None row [] = refl
any_key None row (other ∷ others) = any_key None row others
any_key (Some place) row others = refl

-- what the whole table shows
pub record IsSearched (key : Option ℕ) (row : Row) (slots : Slots) (new : Finds) : Type 0 where
  pub free : new.free ≡ free_from 0 slots
  pub duplicate : new.duplicate ≡ has_key key row (rows slots)

pub searched : (key : Option ℕ) (row : Row) (n m : ℕ) (slots : Slots) → length slots ≡ n → IsSearched key row slots (scanned (found key row n) 0 (record { free = None; duplicate = false }) (up_to m slots))
searched key row n m slots size =
    let start : Finds = record { free = None; duplicate = false } in
    let all = seen key row n 0 start slots (omega (arith, size)) in
    let f = scanned (found key row n) 0 start slots in
    let behind = scanned-append (found key row n) 0 start slots (none_of (m - length slots))
    ∙ scanned-same (found key row n) (0 + length slots) (m - length slots) f None (λ k beyond. ap (λ (b : Bool). if b && not (is_some f.free) then record f { free = Some k } else f) (past k n (omega (arith, size, beyond)))) in
    record {
      free = ap (λ (h : Finds). h.free) behind ∙ all.free;
      duplicate = ap (λ (h : Finds). h.duplicate) behind ∙ all.duplicate ∙ any_key key row (rows slots);
    }

-- the row in the first empty slot
eq_is : (a : ℕ) → (a == a) ≡ true
eq_is a = grind (arith, nat_tests)

eq_other : (a b : ℕ) → a ≢ b → (a == b) ≡ false
eq_other a b off = grind (arith, nat_tests)

put_past : (target i : ℕ) (row : Row) (slots : Slots) → target < i → map_at (put_at (Some target) row) i slots ≡ slots
put_past target i row [] beyond = refl
put_past target i row (slot ∷ slots) beyond =
    cc (ap (λ (b : Bool). if b then Some row else slot) (eq_other i target (λ e. absurd (omega (arith, e, beyond)))), put_past target (i + 1) row slots (omega (arith, beyond)))

free_after : (i target : ℕ) (slots : Slots) → free_from i slots ≡ Some target → i ≤ target
free_after i target [] is = absurd (cc is)
free_after i target (None ∷ slots) is = let same : i ≡ target = cc is in omega (arith, same)
free_after i target (Some row ∷ slots) is = omega (arith, free_after (i + 1) target slots is)

put_first : (i target : ℕ) (row : Row) (slots : Slots) → free_from i slots ≡ Some target → map_at (put_at (Some target) row) i slots ≡ fill_first row slots
put_first i target row [] is = absurd (cc is)
put_first i target row (None ∷ slots) is =
    let same : i ≡ target = cc is in
    cc (ap (λ (n : ℕ). if i == n then Some row else None) (sym same) ∙ ap (λ (b : Bool). if b then Some row else None) (eq_is i), put_past target (i + 1) row slots (omega (arith, same)))
put_first i target row (Some other ∷ slots) is =
    cc (ap (λ (b : Bool). if b then Some row else Some other) (eq_other i target (λ e. absurd (omega (arith, e, free_after (i + 1) target slots is)))), put_first (i + 1) target row slots is)

put_none : (i : ℕ) (row : Row) (slots : Slots) → map_at (put_at None row) i slots ≡ slots
put_none i row [] = refl
put_none i row (slot ∷ slots) = ap (λ (l : Slots). slot ∷ l) (put_none (i + 1) row slots)

-- whether there is one
few_rows : (slots : Slots) → length (rows slots) ≤ length slots
few_rows [] = omega arith
few_rows (None ∷ slots) = omega (arith, few_rows slots)
few_rows (Some row ∷ slots) = omega (arith, few_rows slots)

free_some : (i : ℕ) (slots : Slots) → (if length (rows slots) == length slots then Full else Done) ≡ (if is_some (free_from i slots) then Done else Full)
free_some i [] = ap (λ (b : Bool). if b then Full else Done) (eq_is 0)
free_some i (None ∷ slots) = ap (λ (b : Bool). if b then Full else Done) (eq_other (length (rows slots)) (suc (length slots)) (λ e. absurd (omega (arith, e, few_rows slots))))
free_some i (Some row ∷ slots) = ap (λ (b : Bool). if b then Full else Done) (same (length (rows slots)) (length slots)) ∙ free_some (i + 1) slots
  where
    same : (a b : ℕ) → (suc a == suc b) ≡ (a == b)
    same a b = grind (arith, nat_tests)

-- the answer, and what the copying pass leaves
pub record IsAnswered (columns : Columns) (row : Row) (slots : Slots) (f : Finds) : Type 0 where
  pub answer : (if f.duplicate then Duplicate else (if is_some f.free then Done else Full)) ≡ insert_answer columns row slots
  pub after : map_at (put_at (if f.duplicate then None else f.free) row) 0 slots ≡ slots_after (insert_answer columns row slots) row slots

pub answered : (columns : Columns) (row : Row) (slots : Slots) (f : Finds) → IsSearched (key_place columns) row slots f → IsAnswered columns row slots f
answered columns row slots f is = go (has_key (key_place columns) row (rows slots)) (free_from 0 slots) refl refl
  where
    full : Inserted
    full = if length (rows slots) == length slots then Full else Done

    go : (b : Bool) (o : Option ℕ) → has_key (key_place columns) row (rows slots) ≡ b → free_from 0 slots ≡ o → IsAnswered columns row slots f
    go true o key free =
        let dup : f.duplicate ≡ true = is.duplicate ∙ key in
        let ans : insert_answer columns row slots ≡ Duplicate = ap (λ (b : Bool). if b then Duplicate else full) key in
        record {
          answer = ap (λ (b : Bool). if b then Duplicate else (if is_some f.free then Done else Full)) dup ∙ sym ans;
          after = ap (λ (b : Bool). map_at (put_at (if b then None else f.free) row) 0 slots) dup ∙ put_none 0 row slots ∙ sym (ap (λ (a : Inserted). slots_after a row slots) ans);
        }
    go false None key free =
        let dup : f.duplicate ≡ false = is.duplicate ∙ key in
        let none : f.free ≡ None = is.free ∙ free in
        let ans : insert_answer columns row slots ≡ Full = ap (λ (b : Bool). if b then Duplicate else full) key ∙ free_some 0 slots ∙ ap (λ (o : Option ℕ). if is_some o then Done else Full) free in
        record {
          answer = ap (λ (b : Bool). if b then Duplicate else (if is_some f.free then Done else Full)) dup ∙ ap (λ (o : Option ℕ). if is_some o then Done else Full) none ∙ sym ans;
          after = ap (λ (b : Bool). map_at (put_at (if b then None else f.free) row) 0 slots) dup ∙ ap (λ (o : Option ℕ). map_at (put_at o row) 0 slots) none ∙ put_none 0 row slots ∙ sym (ap (λ (a : Inserted). slots_after a row slots) ans);
        }
    go false (Some target) key free =
        let dup : f.duplicate ≡ false = is.duplicate ∙ key in
        let some : f.free ≡ Some target = is.free ∙ free in
        let ans : insert_answer columns row slots ≡ Done = ap (λ (b : Bool). if b then Duplicate else full) key ∙ free_some 0 slots ∙ ap (λ (o : Option ℕ). if is_some o then Done else Full) free in
        record {
          answer = ap (λ (b : Bool). if b then Duplicate else (if is_some f.free then Done else Full)) dup ∙ ap (λ (o : Option ℕ). if is_some o then Done else Full) some ∙ sym ans;
          after = ap (λ (b : Bool). map_at (put_at (if b then None else f.free) row) 0 slots) dup ∙ ap (λ (o : Option ℕ). map_at (put_at o row) 0 slots) some ∙ put_first 0 target row slots free ∙ sym (ap (λ (a : Inserted). slots_after a row slots) ans);
        }

-- no row is put past the capacity
pub past_target : (t : Option ℕ) (duplicate : Bool) (free : Option ℕ) (row : Row) (capacity : ℕ) → t ≡ (if duplicate then None else free) → IfSome free (λ slot. slot < capacity)
    → (i : ℕ) → capacity ≤ i → put_at t row i None ≡ None
past_target t true free row capacity is within i past = ap (λ (o : Option ℕ). put_at o row i None) is
past_target t false None row capacity is within i past = ap (λ (o : Option ℕ). put_at o row i None) is
past_target t false (Some slot) row capacity is within i past =
    ap (λ (o : Option ℕ). put_at o row i None) is ∙ ap (λ (b : Bool). if b then Some row else None) (eq_other i slot (λ same. absurd (omega (arith, same, within, past))))

-- what a visitor keeps beside its finds
pub finds_of : {S : Type 0} (view : S → Finds) (same : S → S → Type 0) (f : S → ℕ → Option Row → S) (key : Option ℕ) (row : Row) (n i : ℕ) (s : S) (slots : Slots)
    → ((a b c : S) → same a b → same b c → same a c)
    → ((t : S) (i : ℕ) (slot : Option Row) → same s t → (view (f t i slot) ≡ found key row n (view t) i slot) × same t (f t i slot))
    → (t : S) → same s t → view (scanned f i t slots) ≡ scanned (found key row n) i (view t) slots
finds_of view same f key row n i s [] trans steps t is = refl
finds_of view same f key row n i s (slot ∷ slots) trans steps t is =
    let both = steps t i slot is in
    finds_of view same f key row n (i + 1) s slots trans steps (f t i slot) (trans s t (f t i slot) is both.1) ∙ ap (λ (t : Finds). scanned (found key row n) (i + 1) t slots) both.0
