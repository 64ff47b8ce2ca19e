-- What a row of a batch is answered, by what was noted of the slots.
use Rattle.std.proofs.Common.{◌≡◌, ◌≢◌, ◌<◌, ◌≤◌, ◌+◌, ◌-◌, ◌==◌, ◌||◌, ℕ, zero, suc, min, Bool, true, false, if◌then◌else◌, List, [], ◌∷◌, Option, Some, None, IfSome, length, take, drop, length-append, refl, sym, ◌∙◌, ap, subst, arith}
use Rattle.std.specs.Prelude.{slice_get, bytes_eq}
use Rattle.std.specs.List.{All, list_any}
use Rattle.std.specs.Option.{option_map_or}
use Rattle.std.proofs.lemmas.Bool.Decides.{nat_tests}
use Rattle.ob_base.specs.Schemas.{Columns, key_place, kind_width, width}
use Rattle.ob_order.specs.Orders.{KnowsKeys, admitted, keys_after, has_key as holds_key}
use Rattle.ob_order.specs.declared.admitting.Admitted.TheVariants as Admits
use Rattle.ob_row.specs.declared.cell.Cell.{Cell}
use Rattle.ob_row.specs.Rows.{Row, agree_at, has_key, options_eq}
use Rattle.ob_row.specs.Slots.{Slots, rows, fill_first}
use Rattle.ob_row.specs.Spelling.{Begins, FitsColumns, FitsKind, cell_bytes, kind_at}
use Rattle.ob_row.proofs.PlaceLemmas.{located, row_field, same_fields}
use Rattle.ob_row.proofs.SpellingLemmas.{length-cell_bytes}
use Rattle.ob_flat.specs.Slots.{FitsSlot}
use Rattle.ob_mutate.specs.declared.inserting.Inserted.{Inserted}
use Rattle.ob_mutate.specs.declared.inserting.Inserted.TheVariants.{Done, Duplicate, Full}
use Rattle.ob_mutate.specs.Inserting.{insert_answer, slots_after}
use Rattle.ob_mutate.specs.Batches.{Foresees, KnowsSlots, NotesState, cell_field, inserted_as, inserted_one, taken_after}
use Rattle.ob_mutate.proofs.Filled.{count_frees, done_spare}

eq_is : (a b : ℕ) → a ≡ b → (a == b) ≡ true
eq_is a b same = grind (arith, nat_tests)

eq_other : (a b : ℕ) → a ≢ b → (a == b) ≡ false
eq_other a b off = grind (arith, nat_tests)

is_same : (a b : ℕ) → (a == b) ≡ true → a ≡ b
is_same a b is = grind (arith, nat_tests)

few_rows : (slots : Slots) → length (rows slots) ≤ length slots
few_rows slots = omega (arith, count_frees 0 slots)

-- ---- the field of a row's cell
module _ (columns : Columns) (place : ℕ) (below : place < length columns) where
  abbrev kind : Rattle.ob_base.specs.declared.schema.Kind.Kind
  kind = kind_at columns place

  abbrev field : Row → List ℕ
  field row = cell_field columns place row

  record KeyCell (row : Row) : Type 0 where
    cell : Cell
    is : slice_get row place ≡ Some cell
    fits : FitsKind kind cell

  key_cell : (row : Row) → FitsColumns columns row → KeyCell row
  key_cell row fits = let l = located columns row place [] fits below in record { cell = l.cell; is = l.is; fits = l.field.fits }

  cell_is : (row : Row) (x : Cell) → slice_get row place ≡ Some x → field row ≡ cell_bytes kind x
  cell_is row x is = ap (λ (o : Option Cell). option_map_or (cell_bytes kind) o []) is

  pub own_field : (row : Row) (bytes : List ℕ) → Begins columns (Some row) bytes → take (kind_width kind) (drop (width (take place columns)) bytes) ≡ field row
  own_field row bytes begins = let l = row_field columns row place bytes begins below in l.field.is ∙ sym (cell_is row l.cell l.is)

  pub field_long : (row : Row) → FitsColumns columns row → length (field row) ≡ kind_width kind
  field_long row fits = let k = key_cell row fits in ap (λ (l : List ℕ). length l) (cell_is row k.cell k.is) ∙ length-cell_bytes kind k.cell k.fits

  pub fields_agree : (a b : Row) → FitsColumns columns a → FitsColumns columns b → bytes_eq (field a) (field b) ≡ agree_at place place a b
  fields_agree a b a_fits b_fits =
      let x = key_cell a a_fits in
      let y = key_cell b b_fits in
      same_fields kind x.cell y.cell (field a) (field b) (record { fits = x.fits; is = cell_is a x.cell x.is }) (record { fits = y.fits; is = cell_is b y.cell y.is })
      ∙ ap (λ (o : Option Cell). options_eq o (Some y.cell)) (sym x.is)
      ∙ ap (λ (o : Option Cell). options_eq (slice_get a place) o) (sym y.is)

-- ---- one more row
or_swap : (a b c : Bool) → (a || (b || c)) ≡ (b || (a || c))
or_swap true true c = refl
or_swap true false c = refl
or_swap false true c = refl
or_swap false false c = refl

any_fill : (p : Row → Bool) (row : Row) (slots : Slots) → length (rows slots) < length slots → list_any p (rows (fill_first row slots)) ≡ (p row || list_any p (rows slots))
any_fill p row [] some = absurd (omega (arith, some))
any_fill p row (None ∷ slots) some = refl
any_fill p row (Some other ∷ slots) some =
    ap (λ (b : Bool). p other || b) (any_fill p row slots (omega (arith, some))) ∙ or_swap (p other) (p row) (list_any p (rows slots))

fill_long : (row : Row) (slots : Slots) → length (fill_first row slots) ≡ length slots
fill_long row [] = refl
fill_long row (None ∷ slots) = refl
fill_long row (Some other ∷ slots) = omega (arith, fill_long row slots)

fill_more : (row : Row) (slots : Slots) → length (rows slots) < length slots → length (rows (fill_first row slots)) ≡ length (rows slots) + 1
fill_more row [] some = absurd (omega (arith, some))
fill_more row (None ∷ slots) some = omega arith
fill_more row (Some other ∷ slots) some = omega (arith, fill_more row slots (omega (arith, some)))

pub all_cons : {X : Type 0} (P : X → Type 0) (x : X) (xs : List X) → P x → All P xs → All P (x ∷ xs)
all_cons {X} P x xs first rest = go
  where
    go : All P (x ∷ xs)
    go zero d inside = first
    go (suc k) d inside = rest k d (omega (arith, inside))

pub all_tail : {X : Type 0} (P : X → Type 0) (x : X) (xs : List X) → All P (x ∷ xs) → All P xs
all_tail P x xs are k d inside = are (suc k) d (omega (arith, inside))

fill_fits : (columns : Columns) (row : Row) (slots : Slots) → FitsColumns columns row → All (FitsSlot columns) slots → All (FitsSlot columns) (fill_first row slots)
fill_fits columns row [] fits are = are
fill_fits columns row (None ∷ slots) fits are = all_cons (FitsSlot columns) (Some row) slots fits (all_tail (FitsSlot columns) None slots are)
fill_fits columns row (Some other ∷ slots) fits are =
    all_cons (FitsSlot columns) (Some other) (fill_first row slots) (are 0 None (omega arith)) (fill_fits columns row slots fits (all_tail (FitsSlot columns) (Some other) slots are))

-- ---- what it is answered
abbrev answer_by : (b f : Bool) → Inserted
answer_by b f = if b then Duplicate else (if f then Full else Done)

answer_is : (columns : Columns) (row : Row) (slots : Slots) (b f : Bool) → has_key (key_place columns) row (rows slots) ≡ b → (length (rows slots) == length slots) ≡ f → insert_answer columns row slots ≡ answer_by b f
answer_is columns row slots b f key full =
    ap (λ (d : Bool). if d then Duplicate else (if length (rows slots) == length slots then Full else Done)) key ∙ ap (λ (d : Bool). answer_by b d) full

module _ (columns : Columns) (place : ℕ) (below : place < length columns) (key : key_place columns ≡ Some place) (kept : List (List ℕ)) (there after : List Bool) (slots : Slots) (ks : KnowsSlots columns place kept there slots) (row : Row) (fits : FitsColumns columns row) (own : List ℕ) (is : own ≡ cell_field columns place row) (free : ℕ) (full : (free == 0) ≡ (length (rows slots) == length slots)) (knowing : KnowsKeys (width (take place columns)) (kind_width (kind_at columns place)) kept (keys_after own ks.keys free) after) where
  abbrev keys : List (List ℕ)
  keys = ks.keys

  has_is : has_key (key_place columns) row (rows slots) ≡ holds_key own keys
  has_is = ap (λ (k : Option ℕ). has_key k row (rows slots)) key ∙ sym (ks.are row fits) ∙ ap (λ (l : List ℕ). holds_key l keys) (sym is)

  pub record IsAdmitted : Type 0 where
    pub answer : inserted_as (admitted own keys free) ≡ insert_answer columns row slots
    pub knows : KnowsSlots columns place kept after (inserted_one columns row slots)

  pub admit_keyed : IsAdmitted
  admit_keyed = go (holds_key own keys) (free == 0) refl refl
    where
      admitted_by : (b f : Bool) → holds_key own keys ≡ b → (free == 0) ≡ f → inserted_as (admitted own keys free) ≡ inserted_as (if b then Admits.Duplicate else (if f then Admits.Full else Admits.Done))
      admitted_by b f held none =
          ap (λ (d : Bool). inserted_as (if d then Admits.Duplicate else (if free == 0 then Admits.Full else Admits.Done))) held
          ∙ ap (λ (d : Bool). inserted_as (if b then Admits.Duplicate else (if d then Admits.Full else Admits.Done))) none

      keys_by : (b f : Bool) → holds_key own keys ≡ b → (free == 0) ≡ f → keys_after own keys free ≡ (if b then keys else (if f then keys else own ∷ keys))
      keys_by b f held none =
          ap (λ (d : Bool). if d then keys else (if free == 0 then keys else own ∷ keys)) held ∙ ap (λ (d : Bool). if b then keys else (if d then keys else own ∷ keys)) none

      known : (all : List (List ℕ)) → keys_after own keys free ≡ all → KnowsKeys (width (take place columns)) (kind_width (kind_at columns place)) kept all after
      known all same = subst (λ (l : List (List ℕ)). KnowsKeys (width (take place columns)) (kind_width (kind_at columns place)) kept l after) same knowing

      go : (b f : Bool) → holds_key own keys ≡ b → (free == 0) ≡ f → IsAdmitted
      go true f held none =
          let a = answer_is columns row slots true f (has_is ∙ held) (sym full ∙ none) in
          record {
            answer = admitted_by true f held none ∙ sym a;
            knows = subst (λ (x : Inserted). KnowsSlots columns place kept after (slots_after x row slots)) (sym a)
                (record { keys = keys; knows = known keys (keys_by true f held none); are = ks.are });
          }
      go false true held none =
          let a = answer_is columns row slots false true (has_is ∙ held) (sym full ∙ none) in
          record {
            answer = admitted_by false true held none ∙ sym a;
            knows = subst (λ (x : Inserted). KnowsSlots columns place kept after (slots_after x row slots)) (sym a)
                (record { keys = keys; knows = known keys (keys_by false true held none); are = ks.are });
          }
      go false false held none =
          let a = answer_is columns row slots false false (has_is ∙ held) (sym full ∙ none) in
          let some = done_spare columns row slots a in
          record {
            answer = admitted_by false false held none ∙ sym a;
            knows = subst (λ (x : Inserted). KnowsSlots columns place kept after (slots_after x row slots)) (sym a)
                (record {
                  keys = own ∷ keys;
                  knows = known (own ∷ keys) (keys_by false false held none);
                  are = λ other other_fits.
                      ap (λ (b : Bool). b || holds_key (cell_field columns place other) keys) (ap (bytes_eq (cell_field columns place other)) is ∙ fields_agree columns place below other row other_fits fits)
                      ∙ ap (λ (b : Bool). agree_at place place other row || b) (ks.are other other_fits)
                      ∙ sym (any_fill (agree_at place place other) row slots some);
                });
          }

-- without a primary key
pub admit_unkeyed : (columns : Columns) (row : Row) (slots : Slots) (free : ℕ) → key_place columns ≡ None → (free == 0) ≡ (length (rows slots) == length slots) → (if free == 0 then Full else Done) ≡ insert_answer columns row slots
admit_unkeyed columns row slots free none full =
    ap (λ (b : Bool). if b then Full else Done) full
    ∙ sym (ap (λ (k : Option ℕ). if has_key k row (rows slots) then Duplicate else (if length (rows slots) == length slots then Full else Done)) none)

-- ---- whether a slot is left
pub none_left : (columns : Columns) (kept : List (List ℕ)) (n : NotesState) (slots : Slots) → Foresees columns kept n slots → length n.taken < n.most → length n.taken ≤ length n.free
    → (length n.free - length n.taken == 0) ≡ (length (rows slots) == length slots)
none_left columns kept n slots sees few room = go (length n.free - length n.taken == 0) refl
  where
    go : (b : Bool) → (length n.free - length n.taken == 0) ≡ b → b ≡ (length (rows slots) == length slots)
    go true is =
        let none = is_same (length n.free - length n.taken) 0 is in
        sym (eq_is (length (rows slots)) (length slots) (omega (arith, none, few, room, sees.count, sees.noted, few_rows slots)))
    go false is = sym (eq_other (length (rows slots)) (length slots) (λ same. absurd (cc (is, eq_is (length n.free - length n.taken) 0 (omega (arith, same, few, room, sees.count, sees.noted))))))

-- ---- what is foreseen after it
pub foresees_next : (columns : Columns) (kept : List (List ℕ)) (n m : NotesState) (row : Row) (slots : Slots) (i : ℕ) → FitsColumns columns row → Foresees columns kept n slots
    → m.free ≡ n.free → m.most ≡ n.most → m.taken ≡ taken_after (insert_answer columns row slots) i n.taken
    → IfSome (key_place columns) (λ place. KnowsSlots columns place kept m.there (inserted_one columns row slots)) → Foresees columns kept m (inserted_one columns row slots)
foresees_next columns kept n m row slots i fits sees free most taken knows = record {
  fits = fine (insert_answer columns row slots);
  knows = knows;
  spare = sees.spare;
  count = counts (insert_answer columns row slots) refl taken;
  noted = ap (λ (l : List ℕ). length l) free ∙ sees.noted ∙ ap (λ (k : ℕ). min k sees.spare) (sym most);
}
  where
    fine : (a : Inserted) → All (FitsSlot columns) (slots_after a row slots)
    fine Done = fill_fits columns row slots fits sees.fits
    fine Duplicate = sees.fits
    fine Full = sees.fits

    counts : (a : Inserted) → insert_answer columns row slots ≡ a → m.taken ≡ taken_after a i n.taken → length (rows (slots_after a row slots)) + sees.spare ≡ length (slots_after a row slots) + length m.taken
    counts Done is more =
        let some = done_spare columns row slots is in
        omega (arith, sees.count, fill_more row slots some, fill_long row slots, ap (λ (l : List ℕ). length l) more, length-append n.taken (i ∷ []))
    counts Duplicate is more = omega (arith, sees.count, ap (λ (l : List ℕ). length l) more)
    counts Full is more = omega (arith, sees.count, ap (λ (l : List ℕ). length l) more)
