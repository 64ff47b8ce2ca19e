-- An operation on the rows that lie open.
use Rattle.std.proofs.Common.{◌≡◌, ◌≢◌, ◌≤◌, ◌<◌, inl, inr, ℕ, ℤ, Bool, Bor, List, [], ◌∷◌, ◌++◌, Option, Some, None, length, get_or, set, replicate, refl, sym, ◌∙◌, ap, subst, arith, get_or-set_same, get_or-set_other}
use Rattle.std.specs.List.{All}
use Rattle.std.specs.Option.{option_map}
use Rattle.std.specs.Prelude.{filter, map, ◌==◌}
use Rattle.std.proofs.lemmas.Bool.{cases_lt}
use Rattle.std.proofs.lemmas.List.{set-get_or, length-set}
use Rattle.std.proofs.lemmas.List.Elements.{All-head, All-tail}
use Rattle.std.proofs.lemmas.Option.{slice_get-get_or, slice_get_past}
use Rattle.ob_base.specs.Schemas.{Columns, width}
use Rattle.ob_vault.specs.Rows.{row_at}
use Rattle.ob_row.specs.declared.cell.Cell.{Cell}
use Rattle.ob_row.specs.Bags.{Same}
use Rattle.ob_row.specs.Rows.{Row, cell_at, with_cells}
use Rattle.ob_row.specs.Slots.{Slots}
use Rattle.ob_row.specs.Spelling.{Begins, row_bytes}
use Rattle.ob_row.proofs.SpellingLemmas.{row_bytes-begin, zeros-begin}
use Rattle.ob_row.proofs.BagLemmas.{Same-refl, Same-trans}
use Rattle.ob_flat.proofs.Rows.{row_is}
use Rattle.ob_path.specs.Access as Tree
use Rattle.ob_path.specs.Rows.{rows, list_of, except_firsts}
use Rattle.ob_tree.specs.Runs.{KeepsKey}
use Rattle.ob_tree.proofs.ServeLemmas.{rows-set_some, set_none-empty, applied_found, answer_found, applied_absent, answer_absent, applied_past, answer_past}
use Rattle.ob_oram.specs.declared.held.Held.{Held}
use Rattle.ob_oram.specs.declared.held.Remap.{Remap}
use Rattle.ob_oram.specs.declared.index.Index.{Index}
use Rattle.ob_oram.specs.declared.op.Op.{Op}
use Rattle.ob_oram.specs.declared.op.Op.TheVariants.{Get, Insert, Change, Remove}
use Rattle.ob_oram.specs.declared.op.Got.{Got}
use Rattle.ob_oram.specs.declared.op.Got.TheVariants as Gots
use Rattle.ob_oram.specs.Buffers.{HasAt, NoneHas, held_of}
use Rattle.ob_oram.specs.Indexes.{IsShaped, key_of, leaves_of}
use Rattle.ob_row.specs.Keys.{key_number, cell_number}
use Rattle.ob_oram.specs.Opens.{AreKeyed, IsOpen, OpensRow, ServesRows, leaf_with, leaves_with, tree_key}
use Rattle.ob_oram.specs.Ops.{FitsOp, FitsSet, key_of_op, op_in, got_in, keys_behind, with_new}
use Rattle.ob_oram.proofs.Crowding.{counts, tally_set, weigh}
use Rattle.ob_oram.proofs.KeysBehind.{any_there, new_none, new_past, new_there, none_except, none_there, one_except, passing, passing_cons, passing_keys}
use Rattle.ob_oram.proofs.WalkReads.{open_set}

-- a cell elsewhere leaves that of the key
cell-set_other : (row : Row) (i j : ℕ) (x : Cell) → j ≢ i → cell_at (set row i x) j ≡ cell_at row j
cell-set_other row i j x other = elim (cases_lt j (length row)) [
  | inl inside ↦
      slice_get-get_or (set row i x) j x (omega (arith, inside, length-set row i x))
      ∙ ap (λ c. Some c) (get_or-set_other row i j x x other)
      ∙ sym (slice_get-get_or row j x inside)
  | inr past ↦ slice_get_past (set row i x) j (omega (arith, past, length-set row i x)) ∙ sym (slice_get_past row j past)
]

pub cell-with_cells : (columns : Columns) (place : ℕ) (sets : List (ℕ × Cell)) (row : Row) → All (FitsSet columns place) sets → cell_at (with_cells sets row) place ≡ cell_at row place
cell-with_cells columns place [] row fits = refl
cell-with_cells columns place (s ∷ sets) row fits =
    cell-with_cells columns place sets (set row s.0 s.1) (All-tail (FitsSet columns place) s sets fits)
    ∙ cell-set_other row s.0 place s.1 (λ same. (All-head (FitsSet columns place) s sets fits).off (sym same))

-- an operation keeps the key of a row
pub keeps_key : (index : Index) (op : Op) → FitsOp index.schema index.key op → KeepsKey (key_of index) (op_in index.capacity op)
keeps_key index (Change key sets) fits = λ row. ap (cell_number index.capacity) (cell-with_cells index.schema index.key sets.now row fits)
keeps_key index other fits = tt

-- and has the key that it says
pub tree_key_is : (index : Index) (op : Op) → FitsOp index.schema index.key op → tree_key index op ≡ key_number index.capacity (key_of_op op)
tree_key_is index (Insert key cells) fits = ap (cell_number index.capacity) fits.1
tree_key_is index other fits = refl

-- the row of an entry of the buffer
pub record RowAt (index : Index) (slots : Slots) (i key : ℕ) : Type 0 where
  pub row : Row
  pub is : get_or slots i None ≡ Some row
  pub same : key_of index row ≡ key

module _ (index : Index) (remap : Remap) (slots : Slots) (buffer : List (Option Held)) (list : List (List ℕ)) (opened : IsOpen index remap slots buffer list) where
  pub row_here : (key i : ℕ) → HasAt key buffer i → RowAt index slots i key
  row_here key i here = of_slot (get_or slots i None) refl (sym (opened.sees.held i) ∙ here.is)
    where
      of_slot : (s : Option Row) → get_or slots i None ≡ s → option_map (held_of (key_of index) (leaf_with index remap)) (get_or slots i None) ≡ Some here.held → RowAt index slots i key
      of_slot None is held = absurd (cc)
      of_slot (Some row) is held =
          let one : Some (held_of (key_of index) (leaf_with index remap) row) ≡ Some here.held = sym (ap (option_map (held_of (key_of index) (leaf_with index remap))) is) ∙ held in
          let same : held_of (key_of index) (leaf_with index remap) row ≡ here.held = cc in
          record { row = row; is = is; same = ap (λ (h : Held). h.key) same ∙ here.same }

  pub no_row_here : (key : ℕ) → NoneHas key buffer → (j : ℕ) (row : Row) → get_or slots j None ≡ Some row → key_of index row ≢ key
  no_row_here key none j row is = none.none j (held_of (key_of index) (leaf_with index remap) row) (opened.sees.held j ∙ ap (option_map (held_of (key_of index) (leaf_with index remap))) is)

-- no row has the key
module _ (index : Index) (slots : Slots) where
  abbrev Absent : Op → Type 0
  Absent op = (j : ℕ) (row : Row) → get_or slots j None ≡ Some row → key_of index row ≡ tree_key index op → ⊥

  abbrev keys : List ℕ
  keys = map (key_of index) (rows slots)

  -- the keys stand as they stood
  keys_stand : (op : Op) → keys_behind index.capacity op keys ≡ keys → (p : ℕ → Bool)
      → length (filter (λ (r : Row). p (key_of index r)) (rows slots)) ≡ length (filter p (keys_behind index.capacity op keys))
  keys_stand op same p = sym (ap (passing p) same ∙ passing_keys (key_of index) p (rows slots))

  serves_as : (op : Op) → tree_key index op < index.capacity → Absent op → Tree.after (op_in index.capacity op) None ≡ None → Tree.got (op_in index.capacity op) None ≡ Tree.Absent → keys_behind index.capacity op keys ≡ keys
      → ServesRows index op slots slots Gots.None
  serves_as op within absent none answer stand = record {
    bag = λ single. subst (λ o. Same (list_of o ++ rows slots) (Tree.applied (key_of index) index.capacity (op_in index.capacity op) (rows slots))) none
        (applied_absent (key_of index) index.capacity (op_in index.capacity op) slots absent within);
    answer = λ single. sym (answer_absent (key_of index) index.capacity (op_in index.capacity op) slots absent within ∙ answer);
    keys = keys_stand op stand;
  }

  pub serves_absent : (op : Op) → ((key : ℤ) (cells : Bor (List Cell)) → op ≡ Insert key cells → ⊥) → tree_key index op < index.capacity → Absent op → ServesRows index op slots slots Gots.None
  serves_absent (Get key) not within absent = serves_as (Get key) within absent refl refl refl
  serves_absent (Insert key cells) not within absent = absurd (not key cells refl)
  serves_absent (Change key sets) not within absent = serves_as (Change key sets) within absent refl refl refl
  serves_absent (Remove key) not within absent = serves_as (Remove key) within absent refl refl
      (none_except (key_number index.capacity key) keys (none_there (key_of index) (key_number index.capacity key) slots absent))

  pub serves_insert : (key : ℤ) (cells : Bor (List Cell)) (last : ℕ) → last < length slots → get_or slots last None ≡ None → tree_key index (Insert key cells) < index.capacity → Absent (Insert key cells)
      → tree_key index (Insert key cells) ≡ key_number index.capacity key → ServesRows index (Insert key cells) slots (set slots last (Some cells.now)) Gots.Done
  serves_insert key cells last inside empty within absent named =
      let op = Tree.Insert cells.now in
      let whole : rows (set slots last None) ≡ rows slots = ap rows (set_none-empty slots last empty) in
      record {
        bag = λ single.
            Same-trans (rows (set slots last (Some cells.now))) (cells.now ∷ rows slots) (Tree.applied (key_of index) index.capacity op (rows slots))
            (subst (λ l. Same (rows (set slots last (Some cells.now))) (cells.now ∷ l)) whole (rows-set_some slots last cells.now inside))
            (applied_absent (key_of index) index.capacity op slots absent within);
        answer = λ single. sym (answer_absent (key_of index) index.capacity op slots absent within);
        keys = λ p.
            let q : Row → Bool = λ row. p (key_of index row) in
            let k = key_number index.capacity key in
            let changed = tally_set q slots last (Some cells.now) inside in
            let none = ap (weigh q) empty in
            let one : weigh q (Some cells.now) ≡ counts (p k) = ap (λ (j : ℕ). counts (p j)) named in
            let behind : passing p (with_new index.capacity k keys) ≡ passing p (k ∷ keys) =
            ap (passing p) (new_none index.capacity k keys (omega (arith, named, within)) (none_there (key_of index) k slots (λ j row is same. absent j row is (same ∙ sym named)))) in
            omega (arith, changed, none, one, behind, passing_cons p k keys, passing_keys (key_of index) p (rows slots));
      }

-- the row that is put in, as the buffer has it
module _ (index : Index) (remap : Remap) (shaped : IsShaped index) (key : ℤ) (cells : Bor (List Cell)) (fits : FitsOp index.schema index.key (Insert key cells)) (mine : remap.key ≡ key_number index.capacity key) (within : remap.key < index.capacity) where
  key_is : key_of index cells.now ≡ remap.key
  key_is = ap (cell_number index.capacity) fits.1 ∙ sym mine

  leaf_is : leaf_with index remap cells.now ≡ remap.leaf
  leaf_is = ap (λ k. get_or (leaves_with index remap) k 0) key_is ∙ get_or-set_same (leaves_of index) remap.key remap.leaf 0 (omega (arith, within, shaped.leaves.count))

  pub opens_insert : (bytes behind : List ℕ) → bytes ≡ row_bytes index.schema cells.now ++ behind → OpensRow index remap (Some cells.now) (Some (record { key = remap.key; leaf = remap.leaf })) bytes
  opens_insert bytes behind is = record {
    begins = subst (Begins index.schema (Some cells.now)) (sym is) (row_bytes-begin index.schema cells.now behind fits.0);
    held_is = λ i. Some (record { key = sym key_is i; leaf = sym leaf_is i });
  }

  pub keyed_insert : (row : Row) → Some cells.now ≡ Some row → key_of index row < index.capacity
  keyed_insert row is = let one : cells.now ≡ row = cc in subst (λ r. key_of index r < index.capacity) one (omega (arith, key_is, within))

-- there is a row with the key
module _ (index : Index) (slots : Slots) (i : ℕ) (row : Row) (is : get_or slots i None ≡ Some row) where
  slot_rows : (o : Option Row) → i < length slots → Same (rows (set slots i o)) (list_of o ++ rows (set slots i None))
  slot_rows None inside = Same-refl (rows (set slots i None))
  slot_rows (Some new) inside = rows-set_some slots i new inside

  -- another row with its key stands there
  as_many : (p : ℕ → Bool) (new : Row) → key_of index new ≡ key_of index row → i < length slots
      → length (filter (λ (r : Row). p (key_of index r)) (rows (set slots i (Some new)))) ≡ passing p (map (key_of index) (rows slots))
  as_many p new same inside =
      let q : Row → Bool = λ r. p (key_of index r) in
      let changed = tally_set q slots i (Some new) inside in
      let here : weigh q (get_or slots i None) ≡ weigh q (Some new) = ap (weigh q) is ∙ ap (λ (k : ℕ). counts (p k)) (sym same) in
      omega (arith, changed, here, passing_keys (key_of index) p (rows slots))

  -- or none
  one_less : (p : ℕ → Bool) (k : ℕ) → key_of index row ≡ k → i < length slots
      → length (filter (λ (r : Row). p (key_of index r)) (rows (set slots i None))) ≡ passing p (except_firsts 1 (λ j. j == k) (map (key_of index) (rows slots)))
  one_less p k mine inside =
      let q : Row → Bool = λ r. p (key_of index r) in
      let changed = tally_set q slots i None inside in
      let here : weigh q (get_or slots i None) ≡ counts (p k) = ap (weigh q) is ∙ ap (λ (j : ℕ). counts (p j)) mine in
      let none : weigh q None ≡ 0 = refl in
      let one = one_except p k (map (key_of index) (rows slots)) (any_there (key_of index) k slots i row is mine) in
      omega (arith, changed, here, none, one, passing_keys (key_of index) p (rows slots))

  keys_found : (op : Op) → i < length slots → key_of index row ≡ key_number index.capacity (key_of_op op)
      → ((new : Row) → Tree.after (op_in index.capacity op) (Some row) ≡ Some new → key_of index new ≡ key_of index row) → (p : ℕ → Bool)
      → length (filter (λ (r : Row). p (key_of index r)) (rows (set slots i (Tree.after (op_in index.capacity op) (Some row))))) ≡ passing p (keys_behind index.capacity op (map (key_of index) (rows slots)))
  keys_found (Get key) inside mine keeps p = as_many p row refl inside
  keys_found (Insert key cells) inside mine keeps p =
      as_many p row refl inside
      ∙ sym (ap (passing p) (new_there index.capacity (key_number index.capacity key) (map (key_of index) (rows slots)) (any_there (key_of index) (key_number index.capacity key) slots i row is mine)))
  keys_found (Change key sets) inside mine keeps p = as_many p (with_cells sets.now row) (keeps (with_cells sets.now row) refl) inside
  keys_found (Remove key) inside mine keeps p = one_less p (key_number index.capacity key) mine inside

  pub serves_found : (op : Op) (got : Got) → i < length slots → key_of index row ≡ tree_key index op → tree_key index op ≡ key_number index.capacity (key_of_op op) → tree_key index op < index.capacity
      → got_in got ≡ Tree.got (op_in index.capacity op) (Some row) → ((new : Row) → Tree.after (op_in index.capacity op) (Some row) ≡ Some new → key_of index new ≡ key_of index row)
      → ServesRows index op slots (set slots i (Tree.after (op_in index.capacity op) (Some row))) got
  serves_found op got inside mine named within answer keeps =
      let model = op_in index.capacity op in
      record {
        bag = λ single.
            Same-trans (rows (set slots i (Tree.after model (Some row)))) (list_of (Tree.after model (Some row)) ++ rows (set slots i None)) (Tree.applied (key_of index) index.capacity model (rows slots))
            (slot_rows (Tree.after model (Some row)) inside)
            (applied_found (key_of index) index.capacity model slots i row is mine single within);
        answer = λ single. answer ∙ sym (answer_found (key_of index) index.capacity model slots i row is mine single within);
        keys = keys_found op inside (mine ∙ named) keeps;
      }

  -- which stays
  pub serves_kept : (op : Op) (got : Got) → i < length slots → key_of index row ≡ tree_key index op → tree_key index op ≡ key_number index.capacity (key_of_op op) → tree_key index op < index.capacity → got_in got ≡ Tree.got (op_in index.capacity op) (Some row)
      → Tree.after (op_in index.capacity op) (Some row) ≡ Some row → ServesRows index op slots slots got
  serves_kept op got inside mine named within answer stays =
      let same : set slots i (Tree.after (op_in index.capacity op) (Some row)) ≡ slots = ap (set slots i) (stays ∙ sym is) ∙ set-get_or slots i None in
      subst (λ after. ServesRows index op slots after got) same (serves_found op got inside mine named within answer
      (λ new at. let one : Some row ≡ Some new = sym stays ∙ at in let e : row ≡ new = cc one in ap (key_of index) (sym e)))

  module _ (remap : Remap) (buffer : List (Option Held)) (list : List (List ℕ)) (opened : IsOpen index remap slots buffer list) (inside : i < length buffer) where
    pub begins_row : (d : List ℕ) → Begins index.schema (Some row) (get_or list i d)
    begins_row d =
        subst (Begins index.schema (Some row)) (sym (row_is list i d (omega (arith, inside, opened.sees.same))))
        (subst (λ s. Begins index.schema s (row_at list i)) is (opened.sees.begins i inside))

    -- or is changed, except for its key
    pub opens_changed : (new : Row) (bytes : List ℕ) → key_of index new ≡ key_of index row → Begins index.schema (Some new) bytes → IsOpen index remap (set slots i (Some new)) buffer (set list i bytes)
    opens_changed new bytes same begins =
        let held : get_or buffer i None ≡ option_map (held_of (key_of index) (leaf_with index remap)) (Some new) =
        opened.sees.held i ∙ ap (option_map (held_of (key_of index) (leaf_with index remap))) is ∙ (λ j. Some (record { key = sym same j; leaf = get_or (leaves_with index remap) (sym same j) 0 })) in
        subst (λ b. IsOpen index remap (set slots i (Some new)) b (set list i bytes)) (set-get_or buffer i None)
        (open_set index remap slots buffer list opened i (Some new) (get_or buffer i None) bytes inside (record { begins = begins; held_is = held })
        (λ r at. let one : new ≡ r = cc at in subst (λ x. key_of index x < index.capacity) one (omega (arith, same, opened.keyed.within i row is))))

    -- or is taken out
    pub opens_removed : (bytes old : List ℕ) → bytes ≡ replicate (length old) 0 → width index.schema ≤ length old → IsOpen index remap (set slots i None) (set buffer i None) (set list i bytes)
    opens_removed bytes old zeros wide =
        open_set index remap slots buffer list opened i None None bytes inside
        (record { begins = subst (Begins index.schema None) (sym zeros) (zeros-begin index.schema (length old) wide); held_is = refl })
        (λ r at. absurd (cc at))

-- there is no such key
module _ (index : Index) (slots : Slots) (keyed : AreKeyed index slots) where
  stand_past : (op : Op) → index.capacity ≤ key_number index.capacity (key_of_op op) → keys_behind index.capacity op (map (key_of index) (rows slots)) ≡ map (key_of index) (rows slots)
  stand_past (Get key) past = refl
  stand_past (Insert key cells) past = new_past index.capacity (key_number index.capacity key) (map (key_of index) (rows slots)) past
  stand_past (Change key sets) past = refl
  stand_past (Remove key) past =
      let k = key_number index.capacity key in
      none_except k (map (key_of index) (rows slots)) (none_there (key_of index) k slots (λ j row is same. absurd (omega (arith, keyed.within j row is, same, past))))

  pub serves_past : (op : Op) → index.capacity ≤ tree_key index op → tree_key index op ≡ key_number index.capacity (key_of_op op) → ServesRows index op slots slots Gots.OutOfRange
  serves_past op past named = record {
    bag = λ single. applied_past (key_of index) index.capacity (op_in index.capacity op) slots past;
    answer = λ single. sym (answer_past (key_of index) index.capacity (op_in index.capacity op) slots past);
    keys = keys_stand index slots op (stand_past op (omega (arith, past, named)));
  }
