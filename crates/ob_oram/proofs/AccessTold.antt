-- What an access does to an index as it lies, where the store tells.
use Rattle.std.proofs.Common.{◌≡◌, ◌<◌, ◌+◌, ◌-◌, ◌*◌, ℕ, Bool, true, false, List, Option, Some, None, Ok, length, get_or, set, refl, sym, ◌∙◌, ap, subst, arith}
use Rattle.std.specs.Prelude.{◌↔◌}
use Rattle.std.proofs.lemmas.List.{length-replicate}
use Rattle.std.specs.List.{All}
use Rattle.std.proofs.lemmas.Bool.{false≢true}
use Rattle.ob_vault.specs.State.{World}
use Rattle.ob_vault.specs.Calls.{Went, none}
use Rattle.ob_vault.specs.Words.{IsHonest}
use Rattle.ob_vault.proofs.Runs.{tells_went}
use Rattle.ob_vault.proofs.WordLemmas.{honest_before}
use Rattle.ob_vault.specs.Rows.{SameSizes}
use Rattle.ob_row.specs.Rows.{Row}
use Rattle.ob_row.specs.Slots.{Slots, empty_slots}
use Rattle.ob_row.specs.Bags.{Same}
use Rattle.ob_flat.specs.Flats.{Represents as HoldsSlots}
use Rattle.ob_flat.specs.Slots.{Spelt}
use Rattle.ob_flat.proofs.Tables.{represents_lasts}
use Rattle.ob_path.specs.Access as Tree
use Rattle.ob_path.specs.Rows.{rows, with_key, first, Single}
use Rattle.ob_tree.specs.Runs.{map_after, map_answer, KeepsKey}
use Rattle.ob_tree.specs.Slotwise.{open_slots, LaysOut}
use Rattle.ob_path.specs.States.{State, Represents, Stands, map_of}
use Rattle.ob_tree.proofs.AccessLemmas.{went}
use Rattle.ob_tree.proofs.LayLemmas.{All-rows, goes_on, stops_full, single_rows, single_open, applied_open, first_open}
use Rattle.ob_tree.proofs.PlaceLemmas.{stands_for, stands_too}
use Rattle.ob_tree.proofs.RunLemmas.{access_answers}
use Rattle.ob_oram.specs.declared.index.Index.{Index}
use Rattle.ob_oram.specs.declared.held.Held.{Held}
use Rattle.ob_oram.specs.declared.held.Remap.{Remap}
use Rattle.ob_oram.specs.declared.op.Op.{Op}
use Rattle.ob_oram.specs.declared.op.Got.{Got}
use Rattle.ob_oram.specs.declared.op.Got.TheVariants as Gots
use Rattle.ob_oram.specs.Buffers.{IsBuffer, Places}
use Rattle.ob_base.specs.Indexes.{path_blocks, leaf_of_draw, rows_open}
use Rattle.ob_oram.specs.Indexes.{IsShaped, IsMap, IsStoredAs, LiesAs, leaves_of, key_of, tree_of, stash_of}
use Rattle.ob_row.specs.Keys.{key_number}
use Rattle.ob_oram.specs.Opens.{AreKeyed, ServesRows, leaf_with, tree_key}
use Rattle.ob_oram.specs.Opened.{OpensIndex}
use Rattle.ob_oram.specs.Ops.{FitsOp, key_of_op, op_in, got_in}
use Rattle.ob_oram.specs.Scripts.{read_script}
use Rattle.ob_oram.specs.Halves.{WritesIndex}
use Rattle.ob_oram.specs.Accessing.{Answers, AnswersMap, HasLeaves, leaf_read, leaves_after, remap_of}
use Rattle.ob_oram.proofs.OpRows.{keeps_key, tree_key_is}
use Rattle.ob_oram.proofs.Seeing.{same_buffer, buffer_same}
use Rattle.ob_oram.proofs.AccessRuns.{as_left}

-- the buffer of an access, where the index is known as it lies
module _ (index : Index) (op : Op) (draw : ℕ) (fits : FitsOp index.schema index.key op) (shaped : IsShaped index) (tree stash : Slots) where
  abbrev s : State Row
  s = record { tree = tree; stash = stash; leaves = leaves_of index }

  abbrev key : Row → ℕ
  key = key_of index

  abbrev model : Tree.Op Row
  model = op_in index.capacity op

  abbrev drawn : ℕ
  drawn = leaf_of_draw index.height draw

  abbrev model_leaf : ℕ
  model_leaf = Tree.leaf_read index.height s (tree_key index op) draw

  pub leaf_same : leaf_read index op draw ≡ Tree.leaf_read index.height s (tree_key index op) draw
  leaf_same = ap (λ k. get_or (leaves_of index) k drawn) (sym (tree_key_is index op fits))

  pub leaves_same : Tree.leaves_after index.height s (tree_key index op) draw ≡ leaves_after index op draw
  leaves_same = ap (λ k. set (leaves_of index) k drawn) (tree_key_is index op fits)

  module _ (size : length stash ≡ index.slots) (stands : Stands (key_of index) index.height s) (slots served placed : Slots) (got : Got) (n : ℕ) (done : Bool) (n_is : n ≡ path_blocks index.height + index.slots)
      (opened : slots ≡ open_slots index.height (leaf_read index op draw) s) (serves : ServesRows index op slots served got) (keyed : AreKeyed index served)
      (places : Places (key_of index) (leaf_with index (remap_of index op draw)) (leaf_read index op draw) index.height n served placed done) where
    rep : Represents key index.height s (map_of key s)
    rep = stands_for key index.height s stands

    keeps : KeepsKey key model
    keeps = keeps_key index op fits

    opened_model : slots ≡ open_slots index.height model_leaf s
    opened_model = opened ∙ ap (λ l. open_slots index.height l s) leaf_same

    places_model : Places key (λ row. get_or (Tree.leaves_after index.height s (tree_key index op) draw) (key row) 0) model_leaf index.height (4 * (index.height + 1) + length s.stash) served placed done
    places_model =
        let count : n ≡ 4 * (index.height + 1) + length s.stash = omega (arith, n_is, size) in
        subst (λ k. Places key (λ row. get_or (Tree.leaves_after index.height s (tree_key index op) draw) (key row) 0) model_leaf index.height k served placed done) count
        (subst (λ l. Places key (λ row. get_or (Tree.leaves_after index.height s (tree_key index op) draw) (key row) 0) l index.height n served placed done) leaf_same
        (subst (λ (ls : List ℕ). Places key (λ row. get_or ls (key row) 0) (leaf_read index op draw) index.height n served placed done) (sym leaves_same) places))

    keys : length s.leaves ≡ index.capacity
    keys = shaped.leaves.count

    bag : Same (rows served) (Tree.applied key (length s.leaves) model (Tree.take_path index.height s model_leaf))
    bag = subst (λ c. Same (rows served) (Tree.applied key c model (Tree.take_path index.height s model_leaf))) (sym keys)
        (applied_open key index.height s (map_of key s) model draw rep slots opened_model index.capacity (rows served) (serves.bag (single_open key index.height s (map_of key s) model draw rep slots opened_model)))

    ranged : All (λ (r : Row). key r < length s.leaves) (rows served)
    ranged = All-rows (λ (r : Row). key r < length s.leaves) served (λ j row is. omega (arith, keys, keyed.within j row is))

    single : Single key (rows served)
    single = single_rows key index.height s (map_of key s) model draw rep keeps served bag ranged

    -- it goes on where each row found a slot
    pub goes_told : done ≡ true → (Tree.access key index.height s model draw ≡ Some (went key index.height s model draw)) × LaysOut index.height (leaf_read index op draw) placed s (went key index.height s model draw).state
    goes_told is =
        let both = goes_on key index.height s (map_of key s) model draw rep keeps served bag ranged placed ((places_model.full single).0 is) (places_model.placed single is) in
        (both.0, subst (λ l. LaysOut index.height l placed s (went key index.height s model draw).state) (sym leaf_same) both.1)

    -- and stops where one didn't
    pub stops_told : done ≡ false → Tree.access key index.height s model draw ≡ None
    stops_told is = stops_full key index.height s (map_of key s) model draw rep keeps served bag ranged (λ none. false≢true (sym is ∙ (places_model.full single).1 none))

    pub answers_told : got_in got ≡ (went key index.height s model draw).got
    answers_told =
        serves.answer (single_open key index.height s (map_of key s) model draw rep slots opened_model)
        ∙ ap (Tree.answer index.capacity (tree_key index op) model) (first_open key index.height s (map_of key s) model draw rep slots opened_model)
        ∙ ap (λ c. Tree.answer c (tree_key index op) model (first (with_key key (tree_key index op) (Tree.take_path index.height s model_leaf)))) (sym keys)

-- an index as it lies has its own leaves
pub own_leaves : (index : Index) (s : State Row) (w : World) → LiesAs index s w → s ≡ record { tree = s.tree; stash = s.stash; leaves = leaves_of index }
own_leaves index s w lies = ap (λ l. record { tree = s.tree; stash = s.stash; leaves = l }) lies.leaves

-- the path and the stash were read, served and put in their places in the buffer
pub record Arranged (index : Index) (op : Op) (draw : ℕ) (slots served placed : Slots) (got : Got) (done : Bool) (old mid : World) : Type 0 where
  pub count : ℕ
  pub count_is : count ≡ path_blocks index.height + index.slots
  pub opens : OpensIndex index (leaf_read index op draw) slots old mid
  pub serves : ServesRows index op slots served got
  pub keyed : AreKeyed index served
  pub places : Places (key_of index) (leaf_with index (remap_of index op draw)) (leaf_read index op draw) index.height count served placed done

module _ (index : Index) (op : Op) (draw : ℕ) (fits : FitsOp index.schema index.key op) (shaped : IsShaped index) (slots served placed : Slots) (got : Got) (old mid : World) (reads : Went (read_script index (leaf_read index op draw)) none old mid) where
  own_lies : (s : State Row) → IsStoredAs index s old → IsStoredAs index (record { tree = s.tree; stash = s.stash; leaves = leaves_of index }) old
  own_lies s lies = subst (λ st. IsStoredAs index st old) (own_leaves index s old lies.lies) lies

  own_open : (done : Bool) → Arranged index op draw slots served placed got done old mid → IsHonest old mid → (s : State Row) → IsStoredAs index s old
      → slots ≡ open_slots index.height (leaf_read index op draw) (record { tree = s.tree; stash = s.stash; leaves = leaves_of index })
  own_open done arranged honest s lies = arranged.opens.told honest s lies ∙ ap (open_slots index.height (leaf_read index op draw)) (own_leaves index s old lies.lies)

  -- a row was left over
  pub told_full : Arranged index op draw slots served placed got false old mid → (s : State Row) → IsHonest old mid → IsStoredAs index s old → Tree.access (key_of index) index.height s (op_in index.capacity op) draw ≡ None
  told_full arranged s honest lies =
      let own = own_lies s lies in
      subst (λ st. Tree.access (key_of index) index.height st (op_in index.capacity op) draw ≡ None) (sym (own_leaves index s old lies.lies))
      (stops_told index op draw fits shaped s.tree s.stash lies.lies.stash.size own.stands slots served placed got arranged.count false arranged.count_is (own_open false arranged honest s lies) arranged.serves arranged.keyed arranged.places refl)

  -- none was
  pub told_room : Arranged index op draw slots served placed got true old mid → (s : State Row) → IsHonest old mid → IsStoredAs index s old → Tree.access (key_of index) index.height s (op_in index.capacity op) draw ≡ None → ⊥
  told_room arranged s honest lies none =
      let own = own_lies s lies in
      let goes = goes_told index op draw fits shaped s.tree s.stash lies.lies.stash.size own.stands slots served placed got arranged.count true arranged.count_is (own_open true arranged honest s lies) arranged.serves arranged.keyed arranged.places refl in
      let none_own = subst (λ st. Tree.access (key_of index) index.height st (op_in index.capacity op) draw ≡ None) (own_leaves index s old lies.lies) none in
      absurd (cc (goes.0, none_own))

  module _ (arranged : Arranged index op draw slots served placed got true old mid) (rows : List (List ℕ)) (spelt : Spelt index.schema placed rows) (new : World) (writes : WritesIndex {T = Unit {0}} index (leaf_read index op draw) rows (Ok tt) mid new)
      (left : Index) (has : HasLeaves (leaves_after index op draw) index left) where
    -- all was written
    pub told_answers : IsHonest old new → (s : State Row) → IsStoredAs index s old → Answers index left op draw s got new
    told_answers honest s lies =
        let key = key_of index in
        let model = op_in index.capacity op in
        let own = own_lies s lies in
        let before : IsHonest old mid = honest_before writes.ok.lasts honest in
        let opened = own_open true arranged before s lies in
        let st : State Row = record { tree = s.tree; stash = s.stash; leaves = leaves_of index } in
        let to = went key index.height st model draw in
        let goes = goes_told index op draw fits shaped s.tree s.stash lies.lies.stash.size own.stands slots served placed got arranged.count true arranged.count_is opened arranged.serves arranged.keyed arranged.places refl in
        let lay : LiesAs index st mid = record {
          tree = represents_lasts 1 (tree_of index) none old mid reads.lasts (λ q. q) s.tree lies.lies.tree;
          stash = represents_lasts 1 (stash_of index) none old mid reads.lasts (λ q. q) s.stash lies.lies.stash;
          leaves = refl;
        } in
        let tables = writes.told (tells_went none (read_script index (leaf_read index op draw)) old mid reads honest.tells) placed spelt st to.state lay goes.1 in
        let stands = stands_too key index.height to.state _ (access_answers key index.height st (map_of key st) model draw to (stands_for key index.height st own.stands) (keeps_key index op fits) goes.0).1 in
        record {
          went = to;
          is = subst (λ x. Tree.access key index.height x model draw ≡ Some to) (sym (own_leaves index s old lies.lies)) goes.0;
          answer = answers_told index op draw fits shaped s.tree s.stash lies.lies.stash.size own.stands slots served placed got arranged.count true arranged.count_is opened arranged.serves arranged.keyed arranged.places;
          lies = record {
            lies = record {
              tree = as_left index left (leaves_after index op draw) has (λ i. HoldsSlots 1 (tree_of i) to.state.tree new) tables.0;
              stash = as_left index left (leaves_after index op draw) has (λ i. HoldsSlots 1 (stash_of i) to.state.stash new) tables.1;
              leaves = leaves_same index op draw fits shaped s.tree s.stash ∙ sym has.leaves;
            };
            stands = as_left index left (leaves_after index op draw) has (λ i. Stands (key_of i) i.height to.state) stands;
          };
        }

    -- so it answers what a map answers
    pub told_map : IsHonest old new → (m : ℕ → Option Row) → IsMap index m old → AnswersMap index left op m got new
    told_map honest m is =
        let key = key_of index in
        let model = op_in index.capacity op in
        let lies : IsStoredAs index is.state old = record { lies = is.lies; stands = stands_too key index.height is.state m is.represents } in
        let answers = told_answers honest is.state lies in
        let keys : length is.state.leaves ≡ index.capacity = ap length is.lies.leaves ∙ shaped.leaves.count in
        let laws = access_answers key index.height is.state m model draw answers.went is.represents (keeps_key index op fits) answers.is in
        record {
          answer = answers.answer ∙ laws.0 ∙ ap (λ n. map_answer key n model m) keys;
          map = record {
            state = answers.went.state;
            lies = answers.lies.lies;
            represents = as_left index left (leaves_after index op draw) has (λ i. Represents (key_of i) i.height answers.went.state (map_after key index.capacity model m))
                (subst (λ n. Represents key index.height answers.went.state (map_after key n model m)) keys laws.1);
          };
        }

-- the rows after it all are as wide as those before
pub still_even : (w : ℕ) (a b d e : List (List ℕ)) → IsBuffer w a → SameSizes a b → SameSizes b d → length e ≡ length d → (IsBuffer w d → IsBuffer w e) → SameSizes a e
still_even w a b d e even first second count keeps =
    buffer_same w a e (count ∙ second.count ∙ first.count) even (keeps (same_buffer w b d second (same_buffer w a b first even)))

-- the same from what the calls say
pub arranged_by : (index : Index) (op : Op) (draw : ℕ) (remap : Remap) (leaf n : ℕ) (slots served placed : Slots) (got : Got) (done : Bool) (old mid : World) → remap ≡ remap_of index op draw → leaf ≡ leaf_read index op draw → n ≡ path_blocks index.height + index.slots
    → OpensIndex index leaf slots old mid → ServesRows index op slots served got → AreKeyed index served → Places (key_of index) (leaf_with index remap) leaf index.height n served placed done → Arranged index op draw slots served placed got done old mid
arranged_by index op draw remap leaf n slots served placed got done old mid remap_is leaf_is n_is opens serves keyed places = record {
  count = n;
  count_is = n_is;
  opens = subst (λ l. OpensIndex index l slots old mid) leaf_is opens;
  serves = serves;
  keyed = keyed;
  places = subst (λ l. Places (key_of index) (leaf_with index (remap_of index op draw)) l index.height n served placed done) leaf_is
      (subst (λ r. Places (key_of index) (leaf_with index r) leaf index.height n served placed done) remap_is places);
}

pub leaf_read_is : (index : Index) (op : Op) (draw leaf : ℕ) (remap : Remap) → remap ≡ remap_of index op draw → leaf ≡ get_or (leaves_of index) remap.key remap.leaf → leaf ≡ leaf_read index op draw
leaf_read_is index op draw leaf remap remap_is is = is ∙ ap (λ (r : Remap). get_or (leaves_of index) r.key r.leaf) remap_is

-- the buffer has a slot for each block, and one more
pub all_slots : (index : Index) (buffer : List (Option Held)) (a b d : List (List ℕ)) → length (empty_slots (rows_open index.height index.slots)) ≡ length buffer → length a ≡ length buffer → length b ≡ length a → length d ≡ length b
    → length d - 1 ≡ path_blocks index.height + index.slots
all_slots index buffer a b d count same read served = omega (arith, count, same, read, served, length-replicate {A = Option Row} (rows_open index.height index.slots) None)

-- a key is out of range where the answer says so
pub range_is : (index : Index) (op : Op) (draw : ℕ) {remap : Remap} {got : Got} → remap ≡ remap_of index op draw → (got ≡ Gots.OutOfRange) ↔ (remap.key ≡ index.capacity) → (got ≡ Gots.OutOfRange) ↔ (key_number index.capacity (key_of_op op) ≡ index.capacity)
range_is index op draw {remap} {got} is range = subst (λ (r : Remap). (got ≡ Gots.OutOfRange) ↔ (r.key ≡ index.capacity)) is range
