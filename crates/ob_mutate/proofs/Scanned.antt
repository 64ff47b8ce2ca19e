-- What is noted once all slots were seen.
use Rattle.std.proofs.Common.{◌≡◌, ◌<◌, ◌≤◌, ◌+◌, ◌-◌, ◌||◌, ◌++◌, ◌∙◌, ℕ, min, Bool, true, false, nat_lt, if◌then◌else◌, List, [], ◌∷◌, Option, Some, None, IfSome, length, take, replicate, slice_index_or, length-append, append_assoc, refl, sym, ap, subst, arith}
use Rattle.std.specs.List.{All, list_any}
use Rattle.std.proofs.lemmas.Bool.Decides.{nat_tests}
use Rattle.std.proofs.lemmas.List.{append-nil, get_or-replicate, length-replicate, length-take, take_all, take_at}
use Rattle.ob_base.specs.Schemas.{Columns, key_place, kind_width, width}
use Rattle.ob_order.specs.Orders.{KnowsKeys, OrderState, is_marked, has_key as holds_key}
use Rattle.ob_order.proofs.NotingLemmas.{noted_knows}
use Rattle.ob_blocks.specs.Blocks.{map_at, none_of, scanned, up_to}
use Rattle.ob_blocks.proofs.Blocks.{scanned-append, scanned-same}
use Rattle.ob_row.specs.Rows.{Row, agree_at}
use Rattle.ob_row.specs.Slots.{Slots, rows}
use Rattle.ob_row.specs.Spelling.{FitsColumns, kind_at}
use Rattle.ob_flat.specs.Slots.{FitsSlot}
use Rattle.ob_mutate.specs.declared.noting.Noting.{Noting}
use Rattle.ob_mutate.specs.Batches.{AreListed, AreRows, Foresees, KnowsSlots, NotesState, cell_field, frees_from, inserted_all, noted_slot, put_into, rows_of, start_notes, taken_all, told_key}
use Rattle.ob_mutate.proofs.Filled.{count_frees, filled}
use Rattle.ob_mutate.proofs.Foreseen.{all_tail, field_long, fields_agree}
use Rattle.ob_mutate.proofs.Noted.{rows_marked}

less : (i n : ℕ) → i < n → nat_lt i n ≡ true
less i n below = grind (arith, nat_tests)

past : (i n : ℕ) → n ≤ i → nat_lt i n ≡ false
past i n beyond = grind (arith, nat_tests)

test_less : (i n : ℕ) → nat_lt i n ≡ true → i < n
test_less i n is = grind (arith, nat_tests)

not_less : (i n : ℕ) → nat_lt i n ≡ false → n ≤ i
not_less i n is = grind (arith, nat_tests)

-- ---- the notes
abbrev pub told_all : Columns → Option ℕ → List (List ℕ) → Slots → List Bool → List Bool
told_all columns key kept [] there = there
told_all columns key kept (None ∷ slots) there = told_all columns key kept slots there
told_all columns key kept (Some row ∷ slots) there = told_all columns key kept slots (told_key columns key kept row there)

pub record AreSeen (columns : Columns) (key : Option ℕ) (kept : List (List ℕ)) (i : ℕ) (slots : Slots) (n m : NotesState) : Type 0 where
  pub most : m.most ≡ n.most
  pub taken : m.taken ≡ n.taken
  pub free : m.free ≡ take n.most (n.free ++ frees_from i slots)
  pub there : m.there ≡ told_all columns key kept slots n.there

module _ (columns : Columns) (key : Option ℕ) (kept : List (List ℕ)) (capacity : ℕ) where
  abbrev pub step : NotesState → ℕ → Option Row → NotesState
  step = noted_slot columns key kept capacity

  seen : (i : ℕ) (n : NotesState) (slots : Slots) → i + length slots ≤ capacity → length n.free ≤ n.most → AreSeen columns key kept i slots n (scanned step i n slots)
  seen i n [] fits few = record { most = refl; taken = refl; free = sym (ap (take n.most) (append-nil n.free) ∙ take_all n.most n.free few); there = refl }
  seen i n (Some row ∷ slots) fits few =
      let rest = seen (i + 1) (step n i (Some row)) slots (omega (arith, fits)) few in
      record { most = rest.most; taken = rest.taken; free = rest.free; there = rest.there }
  seen i n (None ∷ slots) fits few = go (nat_lt (length n.free) n.most) refl (λ m few_more. seen (i + 1) m slots (omega (arith, fits)) few_more)
    where
      go : (b : Bool) → nat_lt (length n.free) n.most ≡ b → ((m : NotesState) → length m.free ≤ m.most → AreSeen columns key kept (i + 1) slots m (scanned step (i + 1) m slots))
          → AreSeen columns key kept i (None ∷ slots) n (scanned step (i + 1) (step n i None) slots)
      go true is more =
          let next : NotesState = record n { free = n.free ++ i ∷ [] } in
          let now : step n i None ≡ next = ap (λ (b : Bool). if b then (if nat_lt (length n.free) n.most then next else n) else n) (less i capacity (omega (arith, fits))) ∙ ap (λ (b : Bool). if b then next else n) is in
          let rest = more next (longer n.free n.most is) in
          subst (λ (m : NotesState). AreSeen columns key kept i (None ∷ slots) n (scanned step (i + 1) m slots)) (sym now)
          (record { most = rest.most; taken = rest.taken; free = rest.free ∙ ap (take n.most) (append_assoc n.free (i ∷ []) (frees_from (i + 1) slots)); there = rest.there })
        where
          longer : (free : List ℕ) (most : ℕ) → nat_lt (length free) most ≡ true → length (free ++ i ∷ []) ≤ most
          longer free most is = omega (arith, length-append free (i ∷ []), test_less (length free) most is)
      go false is more =
          let next : NotesState = record n { free = n.free ++ i ∷ [] } in
          let now : step n i None ≡ n = ap (λ (b : Bool). if b then (if nat_lt (length n.free) n.most then next else n) else n) (less i capacity (omega (arith, fits))) ∙ ap (λ (b : Bool). if b then next else n) is in
          let rest = more n few in
          let whole : length n.free ≡ n.most = omega (arith, few, not_less (length n.free) n.most is) in
          let first = take_at n.free (frees_from (i + 1) slots) n.most whole in
          let second = take_at n.free (i ∷ frees_from (i + 1) slots) n.most whole in
          subst (λ (m : NotesState). AreSeen columns key kept i (None ∷ slots) n (scanned step (i + 1) m slots)) (sym now)
          (record { most = rest.most; taken = rest.taken; free = rest.free ∙ first ∙ sym second; there = rest.there })

  -- and slots past the capacity change nothing
  pub seen_whole : (n : NotesState) (m : ℕ) (slots : Slots) → length slots ≡ capacity → length n.free ≤ n.most → AreSeen columns key kept 0 slots n (scanned step 0 n (up_to m slots))
  seen_whole n m slots size few =
      let all = seen 0 n slots (omega (arith, size)) few in
      let f = scanned step 0 n slots in
      let behind = scanned-append step 0 n slots (none_of (m - length slots))
      ∙ scanned-same step (0 + length slots) (m - length slots) f None (λ k beyond. ap (λ (b : Bool). if b then (if nat_lt (length f.free) f.most then record f { free = f.free ++ k ∷ [] } else f) else f) (past k capacity (omega (arith, size, beyond)))) in
      subst (AreSeen columns key kept 0 slots n) (sym behind) all

-- ---- the keys
or_swap : (a b c : Bool) → ((a || b) || c) ≡ (b || (a || c))
or_swap true true c = refl
or_swap true false c = refl
or_swap false true c = refl
or_swap false false c = refl

module _ (columns : Columns) (place : ℕ) (below : place < length columns) (kept : List (List ℕ)) (marked : (q : ℕ) → q < length kept → is_marked (slice_index_or kept q []) ≡ true) where
  abbrev keys_on : Slots → List (List ℕ) → List (List ℕ)
  keys_on [] keys = keys
  keys_on (None ∷ slots) keys = keys_on slots keys
  keys_on (Some row ∷ slots) keys = keys_on slots (cell_field columns place row ∷ keys)

  abbrev Knows : List (List ℕ) → List Bool → Type 0
  Knows keys there = KnowsKeys (width (take place columns)) (kind_width (kind_at columns place)) kept keys there

  told_knows : (slots : Slots) (keys : List (List ℕ)) (there : List Bool) → All (FitsSlot columns) slots → Knows keys there → Knows (keys_on slots keys) (told_all columns (Some place) kept slots there)
  told_knows [] keys there fits known = known
  told_knows (None ∷ slots) keys there fits known = told_knows slots keys there (all_tail (FitsSlot columns) None slots fits) known
  told_knows (Some row ∷ slots) keys there fits known =
      let fit : FitsColumns columns row = fits 0 None (omega arith) in
      told_knows slots (cell_field columns place row ∷ keys) (told_key columns (Some place) kept row there) (all_tail (FitsSlot columns) (Some row) slots fits)
      (noted_knows (width (take place columns)) (kind_width (kind_at columns place)) kept (cell_field columns place row) (field_long columns place below row fit) marked keys there known)

  keys_are : (slots : Slots) (keys : List (List ℕ)) (row : Row) → All (FitsSlot columns) slots → FitsColumns columns row
      → holds_key (cell_field columns place row) (keys_on slots keys) ≡ (holds_key (cell_field columns place row) keys || list_any (agree_at place place row) (rows slots))
  keys_are [] keys row fits fit = or_none (holds_key (cell_field columns place row) keys)
    where
      or_none : (b : Bool) → b ≡ (b || false)
      or_none true = refl
      or_none false = refl
  keys_are (None ∷ slots) keys row fits fit = keys_are slots keys row (all_tail (FitsSlot columns) None slots fits) fit
  keys_are (Some other ∷ slots) keys row fits fit =
      let others = list_any (agree_at place place row) (rows slots) in
      let before = holds_key (cell_field columns place row) keys in
      keys_are slots (cell_field columns place other ∷ keys) row (all_tail (FitsSlot columns) (Some other) slots fits) fit
      ∙ ap (λ (b : Bool). (b || before) || others) (fields_agree columns place below row other fit (fits 0 None (omega arith)))
      ∙ or_swap (agree_at place place row other) before others

  none_known : Knows [] (replicate (length kept) false)
  none_known = record {
    size = length-replicate (length kept) false;
    knows = λ i j inside first. get_or-replicate (length kept) j false false first.inside;
  }

  knows_all : (slots : Slots) → All (FitsSlot columns) slots → KnowsSlots columns place kept (told_all columns (Some place) kept slots (replicate (length kept) false)) slots
  knows_all slots fits = record {
    keys = keys_on slots [];
    knows = told_knows slots [] (replicate (length kept) false) fits none_known;
    are = λ row fit. keys_are slots [] row fits fit;
  }

-- ---- what they foresee
pub record AreRead (columns : Columns) (kept : List (List ℕ)) (slots : Slots) (n : NotesState) : Type 0 where
  pub sees : Foresees columns kept n slots
  pub free : n.free ≡ take (length kept) (frees_from 0 slots)

pub all_read : (columns : Columns) (kept : List (List ℕ)) (capacity m : ℕ) (slots : Slots) → IfSome (key_place columns) (λ place. place < length columns) → AreRows columns kept → All (FitsSlot columns) slots → length slots ≡ capacity
    → AreRead columns kept slots (scanned (noted_slot columns (key_place columns) kept capacity) 0 (start_notes (length kept)) (up_to m slots))
all_read columns kept capacity m slots within are fits size = record {
  sees = record {
    fits = fits;
    knows = go (key_place columns) within all.there;
    spare = length (frees_from 0 slots);
    count = omega (arith, count_frees 0 slots, ap (λ (l : List ℕ). length l) all.taken);
    noted = ap (λ (l : List ℕ). length l) all.free ∙ length-take (length kept) (frees_from 0 slots) ∙ ap (λ (k : ℕ). min k (length (frees_from 0 slots))) (sym all.most);
  };
  free = all.free;
}
  where
    end : NotesState
    end = scanned (noted_slot columns (key_place columns) kept capacity) 0 (start_notes (length kept)) (up_to m slots)

    all : AreSeen columns (key_place columns) kept 0 slots (start_notes (length kept)) end
    all = seen_whole columns (key_place columns) kept capacity (start_notes (length kept)) m slots size (omega arith)

    go : (key : Option ℕ) → IfSome key (λ place. place < length columns) → end.there ≡ told_all columns key kept slots (replicate (length kept) false) → IfSome key (λ place. KnowsSlots columns place kept end.there slots)
    go None below is = tt
    go (Some place) below is = subst (λ (l : List Bool). KnowsSlots columns place kept l slots) (sym is) (knows_all columns place below kept (rows_marked columns kept are) slots fits)

-- what the visitor is then
pub noting_all : (columns : Columns) (capacity : ℕ) (i : ℕ) (s : Noting) (slots : Slots)
    → scanned (λ (t : Noting) (j : ℕ) (slot : Option Row). record t { notes = noted_slot columns t.key t.kept.now capacity t.notes j slot }) i s slots
    ≡ record s { notes = scanned (noted_slot columns s.key s.kept.now capacity) i s.notes slots }
noting_all columns capacity i s [] = refl
noting_all columns capacity i s (slot ∷ slots) = noting_all columns capacity (i + 1) (record s { notes = noted_slot columns s.key s.kept.now capacity s.notes i slot }) slots

-- the primary key is a column's
pub listed_within : (columns : Columns) (key : Option ℕ) (kept : List (List ℕ)) (order : OrderState) → AreListed columns key kept order → IfSome key (λ place. place < length columns)
listed_within columns None kept order listed = tt
listed_within columns (Some place) kept order listed = listed.0

-- what was noted at the end
pub record IsNoted (columns : Columns) (start end : Noting) (slots : Slots) : Type 0 where
  pub read : AreRead columns end.kept.now slots end.notes
  pub batch : end.batch.now ≡ start.batch.now
  pub kept : end.kept.now ≡ start.kept.now

pub all_noted : (columns : Columns) (capacity m : ℕ) (start end : Noting) (slots : Slots) → start.key ≡ key_place columns → start.notes ≡ start_notes (length start.kept.now)
    → AreListed columns (key_place columns) start.kept.now start.order.now → AreRows columns start.kept.now → All (FitsSlot columns) slots → length slots ≡ capacity
    → end ≡ scanned (λ (t : Noting) (j : ℕ) (slot : Option Row). record t { notes = noted_slot columns t.key t.kept.now capacity t.notes j slot }) 0 start (up_to m slots)
    → IsNoted columns start end slots
all_noted columns capacity m start end slots key notes listed are fits size is =
    let kept = start.kept.now in
    let whole = up_to m slots in
    let seen : end ≡ record start { notes = scanned (noted_slot columns start.key kept capacity) 0 start.notes whole } = is ∙ noting_all columns capacity 0 start whole in
    let read = all_read columns kept capacity m slots (listed_within columns (key_place columns) kept start.order.now listed) are fits size in
    let noted = subst (λ (n : NotesState). AreRead columns kept slots (scanned (noted_slot columns (key_place columns) kept capacity) 0 n whole)) (sym notes) read in
    let keyed = subst (λ (k : Option ℕ). AreRead columns kept slots (scanned (noted_slot columns k kept capacity) 0 start.notes whole)) (sym key) noted in
    record {
      read = subst (λ (s : Noting). AreRead columns s.kept.now slots s.notes) (sym seen) keyed;
      batch = ap (λ (s : Noting). s.batch.now) seen;
      kept = ap (λ (s : Noting). s.kept.now) seen;
    }

-- and what is put then
pub all_put : (columns : Columns) (batch : List Row) (kept : List (List ℕ)) (slots : Slots) (n : NotesState) (free taken : List ℕ) → AreRead columns kept slots n → length kept ≡ length batch → free ≡ n.free
    → rows_of batch taken ≡ taken_all columns batch slots → map_at (put_into free (rows_of batch taken)) 0 slots ≡ inserted_all columns batch slots
all_put columns batch kept slots n free taken read count is rows_are =
    ap (λ (l : List Row). map_at (put_into free l) 0 slots) rows_are
    ∙ ap (λ (l : List ℕ). map_at (put_into l (taken_all columns batch slots)) 0 slots) (is ∙ read.free)
    ∙ filled columns batch (length kept) slots (omega (arith, count))
