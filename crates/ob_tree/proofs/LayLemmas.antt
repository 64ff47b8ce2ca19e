-- What lies in the tree and in the stash after an access, where the slots of a buffer were written to them.
use Rattle.std.proofs.Common.{◌≡◌, ◌≤◌, ◌<◌, ℕ, zero, suc, ◌-◌, ◌+◌, ◌*◌, ◌/◌, ◌%◌, ◌^◌, Bool, true, false, ◌⊎◌, ◌==◌, inl, inr, List, [], ◌∷◌, Option, Some, None, length, take, drop, get_or, refl, sym, ap, ◌∙◌, subst, arith, length-append}
use Rattle.std.specs.List.{list_any, All}
use Rattle.std.proofs.lemmas.Bool.{eq-eqb, ne_eqb, cases_eq, cases_lt, le-leb, both_ways}
use Rattle.std.proofs.lemmas.List.{length-set, get_or-take, get_or-drop, get_or_append_left, get_or-append_right}
use Rattle.std.proofs.lemmas.List.Elements.{All-nil, All-cons, All-head, All-tail}
use Rattle.std.proofs.lemmas.List.Folds.{list_any_at}
use Rattle.ob_row.specs.Bags.{Same}
use Rattle.ob_script.specs.Parts.{bucket_at, path_place}
use Rattle.ob_path.specs.Paths.{path_up, is_on_path, path_slot}
use Rattle.ob_path.specs.Rows.{rows, slots_of, by_key, with_key, list_of, first, Single}
use Rattle.ob_path.specs.States.{State, Represents, held, bucket}
use Rattle.ob_path.specs.Access.{Op, Evicted, evict, evicted, fits_by, leaf_read, leaves_after, take_path, applied, key_of, access}
use Rattle.ob_tree.specs.Runs.{KeepsKey}
use Rattle.ob_tree.specs.Places.{tests, InPlace}
use Rattle.ob_tree.specs.Slotwise.{laid, laid_slots, left_behind, slot_tests, open_slots, LaysOut}
use Rattle.ob_row.proofs.BagLemmas.{Same-sym, Same-trans, Same-filter}
use Rattle.ob_tree.proofs.Moves.{Same-one}
use Rattle.ob_tree.proofs.KeyLemmas.{applied_same, first-list_of}
use Rattle.ob_tree.proofs.PathLemmas.{Apart, apart_path, length-upward}
use Rattle.ob_tree.proofs.EvictLemmas.{length-evict}
use Rattle.ob_tree.proofs.RowLemmas.{length-slots_of, Same-by_key}
use Rattle.ob_tree.proofs.MeetLemmas.{path_at}
use Rattle.ob_tree.proofs.OrderLemmas.{All-Same, by_key-Same, Single-Same}
use Rattle.ob_tree.proofs.PlaceLemmas.{list_of-first, path_inside, untouched_slot, laid_in_tree, laid_in_stash}
use Rattle.ob_tree.proofs.WalkLemmas.{rows-open_slots}
use Rattle.ob_tree.proofs.HeightLemmas.{laid_agree, path_agrees}
use Rattle.ob_tree.proofs.SlotwiseLemmas.{laid_by_slots, behind_by_slots}
use Rattle.ob_tree.proofs.AccessLemmas.{went, full_from, put_in_single, taken_single, leaf_below, leaves_below}

-- a slot of a bucket
slot_in : {R : Type 0} (tree : List (Option R)) (b z : ℕ) → z < 4 → get_or (bucket tree b) z None ≡ get_or tree (4 * b + z) None
slot_in tree b z less = get_or-take 4 (drop (4 * b) tree) z None less ∙ get_or-drop (4 * b) tree z None

-- a bucket of a path is one of its buckets from the root down
one_of : (bs : List ℕ) (b : ℕ) → list_any (λ c. c == b) bs ≡ true → (j : ℕ) × (j < length bs) × (get_or bs j 0 ≡ b)
one_of [] b is = absurd (cc)
one_of (c ∷ bs) b is = by_test (one_of bs b) (cases_eq c b)
  where
    by_test : (list_any (λ x. x == b) bs ≡ true → (j : ℕ) × (j < length bs) × (get_or bs j 0 ≡ b)) → (c ≡ b) ⊎ (c ≡ b → ⊥) → (j : ℕ) × (j < length (c ∷ bs)) × (get_or (c ∷ bs) j 0 ≡ b)
    by_test go (inl same) = (0, omega arith, same)
    by_test go (inr off) =
        let not_so : (c == b) ≡ false = ne_eqb c b off in
        let rest = go (rw not_so at is) in
        (suc rest.0, omega (arith, rest.1), rest.2)

module _ (h leaf : ℕ) (below : leaf < 2 ^ h) where
  -- a place on the path is that of one of its blocks
  pub path_place_of : (p : ℕ) → is_on_path h leaf (p / 4) ≡ true → (c : ℕ) × (c < 4 * (h + 1)) × (path_place h leaf c ≡ p)
  path_place_of p is =
      let here = one_of (path_up h leaf) (p / 4) is in
      let j = here.0 in
      let within : j ≤ h = omega (arith, here.1, length-upward (suc h) (2 ^ h - 1 + leaf)) in
      let c = 4 * (h - j) + p % 4 in
      let upper : c / 4 ≡ h - j = omega arith in
      let rest : c % 4 ≡ p % 4 = omega arith in
      let back : h - c / 4 ≡ j = omega (arith, upper, within) in
      let b : bucket_at h leaf (h - c / 4) ≡ p / 4 = ap (bucket_at h leaf) back ∙ sym (path_at h leaf j below within) ∙ here.2 in
      (c, omega (arith, upper, rest, within), omega (arith, b, rest))

  -- and no other is
  pub off_path : (p : ℕ) → is_on_path h leaf (p / 4) ≡ false → (c : ℕ) → c < 4 * (h + 1) → path_place h leaf c ≡ p → ⊥
  off_path p not_so c within same =
      let j : h - c / 4 ≤ h = omega arith in
      let b : get_or (path_up h leaf) (h - c / 4) 0 ≡ p / 4 = path_at h leaf (h - c / 4) below j ∙ omega (arith, same) in
      both_ways (is_on_path h leaf (p / 4)) not_so (list_any_at (λ x. x == p / 4) (path_up h leaf) (h - c / 4) 0 (path_inside h leaf (h - c / 4) j) (eq-eqb (get_or (path_up h leaf) (h - c / 4) 0) (p / 4) b))

  -- a buffer that has the slots of an eviction
  module _ {R : Type 0} (fits : ℕ → R → Bool) (s : State R) (left : List R) (leaves : List ℕ) (slots : List (Option R)) (long : length s.tree ≡ 4 * (2 ^ (h + 1) - 1)) where
    abbrev start : Evicted R
    start = record { tree = s.tree; left = left }

    abbrev end : Evicted R
    end = evict fits (path_up h leaf) start

    pub lays_out : length end.left ≤ length s.stash → take (4 * (h + 1) + length s.stash) slots ≡ laid fits (path_up h leaf) (length s.stash) left
        → LaysOut h leaf slots s (record { tree = end.tree; stash = slots_of (length s.stash) end.left; leaves = leaves })
    lays_out fit is = record {
      size = length-evict fits (path_up h leaf) start apart;
      stash_size = length-slots_of (length s.stash) end.left fit;
      path = λ c within.
          let j : h - c / 4 ≤ h = omega arith in
          let z : c % 4 < 4 = omega arith in
          let b : bucket_at h leaf (h - c / 4) ≡ get_or (path_up h leaf) (h - c / 4) 0 = sym (path_at h leaf (h - c / 4) below j) in
          ap (λ k. get_or end.tree (4 * k + c % 4) None) b
          ∙ sym (slot_in end.tree (get_or (path_up h leaf) (h - c / 4) 0) (c % 4) z)
          ∙ ap (λ l. get_or l (c % 4) None) (sym (laid_in_tree fits (length s.stash) (path_up h leaf) start apart (h - c / 4) (path_inside h leaf (h - c / 4) j)))
          ∙ slot_in all (h - c / 4) (c % 4) z
          ∙ front (path_slot h c) (omega arith);
      off = λ p not_so. untouched_slot fits (path_up h leaf) start apart p None not_so;
      stash = λ i within.
          let past : 4 * length (path_up h leaf) ≡ 4 * (h + 1) = omega (arith, length-upward (suc h) (2 ^ h - 1 + leaf)) in
          ap (λ l. get_or l i None) (sym (laid_in_stash fits (length s.stash) (path_up h leaf) start))
          ∙ ap (λ k. get_or (drop k all) i None) past
          ∙ get_or-drop (4 * (h + 1)) all i None
          ∙ front (4 * (h + 1) + i) (omega (arith, within));
    }
      where
        apart : Apart (length s.tree) (path_up h leaf)
        apart = apart_path h leaf (length s.tree) below long

        all : List (Option R)
        all = laid fits (path_up h leaf) (length s.stash) left

        front : (i : ℕ) → i < 4 * (h + 1) + length s.stash → get_or all i None ≡ get_or slots i None
        front i within = ap (λ l. get_or l i None) (sym is) ∙ get_or-take (4 * (h + 1) + length s.stash) slots i None within

-- rows in slots that each have a property
pub All-rows : {R : Type 0} (P : R → Type 0) (slots : List (Option R)) → ((j : ℕ) (row : R) → get_or slots j None ≡ Some row → P row) → All P (rows slots)
All-rows P [] each = All-nil P
All-rows P (None ∷ slots) each = All-rows P slots (λ j row is. each (suc j) row is)
All-rows P (Some r ∷ slots) each = All-cons P r (rows slots) (each 0 r refl) (All-rows P slots (λ j row is. each (suc j) row is))

All-each : {R : Type 0} (P Q : R → Type 0) → ((r : R) → P r → Q r) → (all : List R) → All P all → All Q all
All-each P Q more all each = λ j d inside. more (get_or all j d) (each j d inside)

-- an access, where a loop over the slots of a buffer put its rows in their places
module _ {R : Type 0} (key : R → ℕ) (h : ℕ) (s : State R) (m : ℕ → Option R) (op : Op R) (draw : ℕ) (rep : Represents key h s m) (keeps : KeepsKey key op) (slots : List (Option R))
    (bag : Same (rows slots) (applied key (length s.leaves) op (take_path h s (leaf_read h s (key_of key op) draw)))) (ranged : All (λ (r : R). key r < length s.leaves) (rows slots)) where
  abbrev leaf : ℕ
  leaf = leaf_read h s (key_of key op) draw

  abbrev leaves : List ℕ
  leaves = leaves_after h s (key_of key op) draw

  abbrev lf : R → ℕ
  lf row = get_or leaves (key row) 0

  abbrev put_in : List R
  put_in = applied key (length s.leaves) op (take_path h s leaf)

  abbrev start_of : Evicted R
  start_of = record { tree = s.tree; left = by_key key put_in }

  pub single_rows : Single key (rows slots)
  single_rows = Single-Same key put_in (rows slots) (Same-sym (rows slots) put_in bag) (put_in_single key h s m op draw rep keeps)

  ordered : by_key key (rows slots) ≡ by_key key put_in
  ordered = by_key-Same key (rows slots) put_in single_rows bag

  below_leaf : leaf < 2 ^ h
  below_leaf = leaf_below key h s draw (key_of key op) rep.leaves

  in_place : All (InPlace key lf h leaves) (by_key key put_in)
  in_place =
      All-Same (InPlace key lf h leaves) (by_key key put_in) put_in (Same-by_key key put_in)
      (All-Same (InPlace key lf h leaves) put_in (rows slots) (Same-sym (rows slots) put_in bag)
      (All-each (λ (r : R). key r < length s.leaves) (InPlace key lf h leaves)
      (λ r within. record { mine = refl; below = leaves_below key h s draw (key_of key op) rep.leaves (key r) (omega (arith, within, length-set s.leaves (key_of key op) (draw % 2 ^ h))) })
      (rows slots) ranged))

  agree : (laid_slots (tests lf leaf h 0 (4 * (h + 1) + length s.stash)) (by_key key put_in) ≡ laid_slots (slot_tests (fits_by key h leaves) (path_up h leaf) (length s.stash)) (by_key key put_in))
      × (left_behind (tests lf leaf h 0 (4 * (h + 1) + length s.stash)) (by_key key put_in) ≡ left_behind (slot_tests (fits_by key h leaves) (path_up h leaf) (length s.stash)) (by_key key put_in))
  agree = laid_agree (InPlace key lf h leaves) (tests lf leaf h 0 (4 * (h + 1) + length s.stash)) (slot_tests (fits_by key h leaves) (path_up h leaf) (length s.stash)) (by_key key put_in) (path_agrees key lf h leaf leaves below_leaf (length s.stash)) in_place

  behind : length (left_behind (tests lf leaf h 0 (4 * (h + 1) + length s.stash)) (by_key key (rows slots))) ≡ length (evicted key h s op draw).left - length s.stash
  behind =
      ap (λ l. length (left_behind (tests lf leaf h 0 (4 * (h + 1) + length s.stash)) l)) ordered
      ∙ ap length agree.1
      ∙ behind_by_slots (fits_by key h leaves) (path_up h leaf) (length s.stash) start_of

  pub stops_full : (length (left_behind (tests lf leaf h 0 (4 * (h + 1) + length s.stash)) (by_key key (rows slots))) ≡ 0 → ⊥) → access key h s op draw ≡ None
  stops_full some = elim (cases_lt (length s.stash) (length (evicted key h s op draw).left)) [
    | inl more ↦ full_from key h s op draw more
    | inr fit ↦ absurd (some (behind ∙ omega (arith, fit)))
  ]

  pub goes_on : (after : List (Option R)) → length (left_behind (tests lf leaf h 0 (4 * (h + 1) + length s.stash)) (by_key key (rows slots))) ≡ 0
      → take (4 * (h + 1) + length s.stash) after ≡ laid_slots (tests lf leaf h 0 (4 * (h + 1) + length s.stash)) (by_key key (rows slots))
      → (access key h s op draw ≡ Some (went key h s op draw)) × LaysOut h leaf after s (went key h s op draw).state
  goes_on after none is =
      let fit : length (evicted key h s op draw).left ≤ length s.stash = omega (arith, behind, none) in
      let test = le-leb (length (evicted key h s op draw).left) (length s.stash) fit in
      let put : take (4 * (h + 1) + length s.stash) after ≡ laid (fits_by key h leaves) (path_up h leaf) (length s.stash) (by_key key put_in) =
      is ∙ ap (laid_slots (tests lf leaf h 0 (4 * (h + 1) + length s.stash))) ordered ∙ agree.0 ∙ laid_by_slots (fits_by key h leaves) (path_up h leaf) (length s.stash) start_of fit in
      ((rw test refl), lays_out h leaf below_leaf (fits_by key h leaves) s (by_key key put_in) leaves after rep.size fit put)

pub rows-All : {R : Type 0} (P : R → Type 0) (slots : List (Option R)) → All P (rows slots) → (j : ℕ) (row : R) → get_or slots j None ≡ Some row → P row
rows-All P [] each j row is = absurd (cc)
rows-All P (None ∷ slots) each zero row is = absurd (cc)
rows-All P (None ∷ slots) each (suc j) row is = rows-All P slots each j row is
rows-All P (Some r ∷ slots) each zero row is = let same : r ≡ row = cc in subst P same (All-head P r (rows slots) each)
rows-All P (Some r ∷ slots) each (suc j) row is = rows-All P slots (All-tail P r (rows slots) each) j row is

-- each row of an index has a property
module _ {R : Type 0} (P : R → Type 0) (s : State R) (each : All P (held s)) where
  pub tree_rows : (j : ℕ) (row : R) → get_or s.tree j None ≡ Some row → P row
  tree_rows = rows-All P s.tree (λ j d inside. subst P (get_or_append_left (rows s.tree) (rows s.stash) d j inside) (each j d (omega (arith, inside, length-append (rows s.tree) (rows s.stash)))))

  pub stash_rows : (j : ℕ) (row : R) → get_or s.stash j None ≡ Some row → P row
  stash_rows = rows-All P s.stash (λ j d inside.
      let here : length (rows s.tree) + j - length (rows s.tree) ≡ j = omega arith in
      subst P (get_or-append_right (rows s.tree) (rows s.stash) (length (rows s.tree)) (length (rows s.tree) + j) d refl (omega arith) ∙ ap (λ k. get_or (rows s.stash) k d) here)
      (each (length (rows s.tree) + j) d (omega (arith, inside, length-append (rows s.tree) (rows s.stash)))))

-- the same, where the rows were served among the slots of a path and of the stash
module _ {R : Type 0} (key : R → ℕ) (h : ℕ) (s : State R) (m : ℕ → Option R) (op : Op R) (draw : ℕ) (rep : Represents key h s m) (slots : List (Option R)) (opened : slots ≡ open_slots h (leaf_read h s (key_of key op) draw) s) where
  abbrev taken : List R
  taken = take_path h s (leaf_read h s (key_of key op) draw)

  same_taken : Same (rows slots) taken
  same_taken = subst (λ l. Same (rows l) taken) (sym opened) (rows-open_slots h (leaf_read h s (key_of key op) draw) s)

  pub single_open : Single key (rows slots)
  single_open = Single-Same key taken (rows slots) (Same-sym (rows slots) taken same_taken) (taken_single key h s m op draw rep)

  with_key_one : with_key key (key_of key op) (rows slots) ≡ list_of (first (with_key key (key_of key op) (rows slots)))
  with_key_one = list_of-first (with_key key (key_of key op) (rows slots)) (single_open (key_of key op))

  pub applied_open : (n : ℕ) (served : List R) → Same served (applied key n op (rows slots)) → Same served (applied key n op taken)
  applied_open n served bag =
      Same-trans served (applied key n op (rows slots)) (applied key n op taken) bag
      (applied_same key n op (rows slots) taken (first (with_key key (key_of key op) (rows slots))) with_key_one same_taken)

  pub first_open : first (with_key key (key_of key op) (rows slots)) ≡ first (with_key key (key_of key op) taken)
  first_open =
      let back : Same (with_key key (key_of key op) taken) (with_key key (key_of key op) (rows slots)) = Same-filter (λ r. key r == key_of key op) taken (rows slots) (Same-sym (rows slots) taken same_taken) in
      let one : with_key key (key_of key op) taken ≡ list_of (first (with_key key (key_of key op) (rows slots))) =
      Same-one (with_key key (key_of key op) taken) (first (with_key key (key_of key op) (rows slots))) (subst (λ l. Same (with_key key (key_of key op) taken) l) with_key_one back) in
      sym (ap first one ∙ first-list_of (first (with_key key (key_of key op) (rows slots))))
