-- An access keeps what an index stands for.
use Rattle.std.proofs.Common.{◌≡◌, ◌≤◌, ◌<◌, ℕ, ◌/◌, ◌%◌, ◌^◌, Bool, true, false, cond, ◌&&◌, ◌==◌, ◌⊎◌, inl, inr, List, [], ◌∷◌, ◌++◌, Option, Some, None, ◌+◌, length, length-append, get_or, refl, sym, ap, ◌∙◌, subst, arith, append_assoc}
use Rattle.std.specs.Prelude.{nat_lt, nat_le}
use Rattle.std.specs.List.{list_any, flat_map}
use Rattle.std.proofs.lemmas.Bool.{ltb-true, le-ltb, leb-true, leb-false, lt-leb, ne_eqb, cases_eq, cases_lt, cases_Bool, false≢true, both_ways, and_right}
use Rattle.std.proofs.lemmas.List.{append-nil, length-set, get_or_past, get_or_default, get_or-set_same, get_or-set_other, set_past}
use Rattle.std.proofs.lemmas.List.Elements.{filter-append}
use Rattle.ob_row.specs.Bags.{Same}
use Rattle.ob_path.specs.Paths.{path_up, is_on_path}
use Rattle.ob_path.specs.Rows.{rows, slots_of, with_key, except_firsts, by_key, list_of, first, Single}
use Rattle.ob_path.specs.States.{State, Represents, held, leaf_of, bucket}
use Rattle.ob_path.specs.Access.{Op, key_of, applied, answer, take_path, Evicted, fill, evict, leaf_read, leaves_after, fits_by, evicted, Went, access}
use Rattle.ob_tree.specs.Runs.{KeepsKey, map_after, map_answer}
use Rattle.ob_row.proofs.BagLemmas.{Same-trans, Same-sym, Same-filter}
use Rattle.ob_tree.proofs.Moves.{Same-is, Same-left, Same-right, Same-to_end, Same-cancel_end, Same-one}
use Rattle.ob_tree.proofs.RowLemmas.{rows-slots_of, Same-by_key, length-slots_of}
use Rattle.ob_tree.proofs.PathLemmas.{Apart, apart_path, power_some}
use Rattle.ob_tree.proofs.EvictLemmas.{length-evict, evicted_same, evicted_slot}
use Rattle.ob_tree.proofs.OrderLemmas.{length-Same}
use Rattle.ob_tree.proofs.KeyLemmas.{at_applied, none_at, applied_apart, applied_same, first-list_of}

-- where nothing is to be put in, nothing is left
none_left : {R : Type 0} (fits : ℕ → R → Bool) (bs : List ℕ) (e : Evicted R) → e.left ≡ [] → (evict fits bs e).left ≡ []
none_left fits [] e none = none
none_left fits (b ∷ bs) e none = none_left fits bs (fill fits b e) (ap (except_firsts 4 (fits b)) none)

-- the index after an access that goes on
abbrev pub went : {R : Type 0} → (R → ℕ) → ℕ → State R → Op R → ℕ → Went R
went key h s op draw = let k = key_of key op in record {
  got = answer (length s.leaves) k op (first (with_key key k (take_path h s (leaf_read h s k draw))));
  state = record { tree = (evicted key h s op draw).tree; stash = slots_of (length s.stash) (evicted key h s op draw).left; leaves = leaves_after h s k draw };
}

some_only : {A : Type 0} (b : Bool) (x y : A) → cond b (Some x) None ≡ Some y → x ≡ y
some_only true x y e = cc
some_only false x y e = absurd (cc)

none_only : {A : Type 0} (b : Bool) (x : A) → cond b (Some x) None ≡ None → b ≡ false
none_only true x e = absurd (cc)
none_only false x e = refl

pub went_is : {R : Type 0} (key : R → ℕ) (h : ℕ) (s : State R) (op : Op R) (draw : ℕ) (w : Went R) → access key h s op draw ≡ Some w → went key h s op draw ≡ w
went_is key h s op draw w e = some_only (nat_le (length (evicted key h s op draw).left) (length s.stash)) (went key h s op draw) w e

pub full_from : {R : Type 0} (key : R → ℕ) (h : ℕ) (s : State R) (op : Op R) (draw : ℕ) → length s.stash < length (evicted key h s op draw).left → access key h s op draw ≡ None
full_from key h s op draw more = let e : nat_le (length (evicted key h s op draw).left) (length s.stash) ≡ false = lt-leb (length (evicted key h s op draw).left) (length s.stash) more in rw e

pub full_only : {R : Type 0} (key : R → ℕ) (h : ℕ) (s : State R) (op : Op R) (draw : ℕ) → access key h s op draw ≡ None → length s.stash < length (evicted key h s op draw).left
full_only key h s op draw e = leb-false (length (evicted key h s op draw).left) (length s.stash) (none_only (nat_le (length (evicted key h s op draw).left) (length s.stash)) (went key h s op draw) e)

module _ {R : Type 0} (key : R → ℕ) (h : ℕ) (s : State R) (draw k : ℕ) where
  mod_less : draw % 2 ^ h < 2 ^ h
  mod_less = let some = power_some h in omega (arith, some)

  pub leaves_below : ((j : ℕ) → j < length s.leaves → leaf_of s j < 2 ^ h) → (j : ℕ) → j < length (leaves_after h s k draw) → get_or (leaves_after h s k draw) j 0 < 2 ^ h
  leaves_below below j within = by_key (cases_eq j k)
    where
      inside : j < length s.leaves
      inside = omega (arith, within, length-set s.leaves k (draw % 2 ^ h))

      by_key : (j ≡ k) ⊎ (j ≡ k → ⊥) → get_or (leaves_after h s k draw) j 0 < 2 ^ h
      by_key (inl is) = subst (λ i. get_or (leaves_after h s k draw) i 0 < 2 ^ h) (sym is)
          (subst (λ v. v < 2 ^ h) (sym (get_or-set_same s.leaves k (draw % 2 ^ h) 0 (subst (λ i. i < length s.leaves) is inside))) mod_less)
      by_key (inr off) = subst (λ v. v < 2 ^ h) (sym (get_or-set_other s.leaves k j (draw % 2 ^ h) 0 off)) (below j inside)

  pub leaf_below : ((j : ℕ) → j < length s.leaves → leaf_of s j < 2 ^ h) → leaf_read h s k draw < 2 ^ h
  leaf_below below = by_range (cases_lt k (length s.leaves))
    where
      by_range : (k < length s.leaves) ⊎ (length s.leaves ≤ k) → leaf_read h s k draw < 2 ^ h
      by_range (inl in_range) = subst (λ v. v < 2 ^ h) (get_or_default s.leaves k 0 (draw % 2 ^ h) in_range) (below k in_range)
      by_range (inr past) = subst (λ v. v < 2 ^ h) (sym (get_or_past s.leaves k (draw % 2 ^ h) past)) mod_less

module _ {R : Type 0} (key : R → ℕ) (h : ℕ) (s : State R) (m : ℕ → Option R) (op : Op R) (draw : ℕ) (rep : Represents key h s m) where
  path_apart : Apart (length s.tree) (path_up h (leaf_read h s (key_of key op) draw))
  path_apart = apart_path h (leaf_read h s (key_of key op) draw) (length s.tree) (leaf_below key h s draw (key_of key op) rep.leaves) rep.size

  -- the rows of the tree that are not on the path
  abbrev aside : List R
  aside = rows (evict (λ b r. false) (path_up h (leaf_read h s (key_of key op) draw)) (record { tree = s.tree; left = [] })).tree

  abbrev on_path : List R
  on_path = rows (flat_map (bucket s.tree) (path_up h (leaf_read h s (key_of key op) draw)))

  split_tree : Same (aside ++ on_path) (rows s.tree)
  split_tree =
      let e : Evicted R = record { tree = s.tree; left = [] } in
      let none : (evict (λ b r. false) (path_up h (leaf_read h s (key_of key op) draw)) e).left ≡ [] = none_left (λ b r. false) (path_up h (leaf_read h s (key_of key op) draw)) e refl in
      Same-trans (aside ++ on_path) ((aside ++ (evict (λ b r. false) (path_up h (leaf_read h s (key_of key op) draw)) e).left) ++ on_path) (rows s.tree)
      (Same-is _ _ (ap (λ w. w ++ on_path) (sym (append-nil aside)) ∙ ap (λ w. (aside ++ w) ++ on_path) (sym none)))
      (Same-trans ((aside ++ (evict (λ b r. false) (path_up h (leaf_read h s (key_of key op) draw)) e).left) ++ on_path) (rows s.tree ++ []) (rows s.tree)
      (evicted_same (λ b r. false) (path_up h (leaf_read h s (key_of key op) draw)) e path_apart)
      (Same-is _ _ (append-nil (rows s.tree))))

  split_held : Same (held s) (aside ++ take_path h s (leaf_read h s (key_of key op) draw))
  split_held =
      Same-trans (rows s.tree ++ rows s.stash) ((aside ++ on_path) ++ rows s.stash) (aside ++ (rows s.stash ++ on_path)) (Same-left (rows s.tree) (aside ++ on_path) (rows s.stash) (Same-sym (aside ++ on_path) (rows s.tree) split_tree))
      (Same-trans ((aside ++ on_path) ++ rows s.stash) ((aside ++ rows s.stash) ++ on_path) (aside ++ (rows s.stash ++ on_path)) (Same-to_end aside on_path (rows s.stash)) (Same-is _ _ (append_assoc aside (rows s.stash) on_path)))

  -- a row of a bucket that is not on the path has another key
  pub other_key : (p : ℕ) (row : R) → get_or s.tree p None ≡ Some row → list_any (λ c. c == p / 4) (path_up h (leaf_read h s (key_of key op) draw)) ≡ false → key_of key op < length s.leaves → key row ≡ key_of key op → ⊥
  other_key p row is off in_range same =
      let here : is_on_path h (leaf_of s (key row)) (p / 4) ≡ true = rep.placed p row is in
      let leaf : leaf_of s (key row) ≡ leaf_read h s (key_of key op) draw = ap (λ i. get_or s.leaves i 0) same ∙ get_or_default s.leaves (key_of key op) 0 (draw % 2 ^ h) in_range in
      both_ways (is_on_path h (leaf_read h s (key_of key op) draw) (p / 4)) off (subst (λ l. is_on_path h l (p / 4) ≡ true) leaf here)

  aside_none : nat_lt (key_of key op) (length s.leaves) ≡ true → with_key key (key_of key op) aside ≡ []
  aside_none in_range = none_at key (key_of key op) (evict (λ b r. false) (path_up h (leaf_read h s (key_of key op) draw)) (record { tree = s.tree; left = [] })).tree (λ p row is. by_slot p row (evicted_slot (λ b r. false) (path_up h (leaf_read h s (key_of key op) draw)) (record { tree = s.tree; left = [] }) path_apart p row is))
    where
      by_slot : (p : ℕ) (row : R) → ((false ≡ true) ⊎ ((get_or s.tree p None ≡ Some row) × (list_any (λ c. c == p / 4) (path_up h (leaf_read h s (key_of key op) draw)) ≡ false))) → (key row == key_of key op) ≡ false
      by_slot p row (inl never) = absurd (false≢true never)
      by_slot p row (inr was) = ne_eqb (key row) (key_of key op) (other_key p row was.0 was.1 (ltb-true (key_of key op) (length s.leaves) in_range))

  -- the rows after an access are those before it, with the operation applied
  pub held_after : Same (held (went key h s op draw).state) (applied key (length s.leaves) op (held s))
  held_after =
      let n = length s.leaves in
      let taken = take_path h s (leaf_read h s (key_of key op) draw) in
      let put_in = applied key n op taken in
      let e = evicted key h s op draw in
      let kept : Same ((rows e.tree ++ e.left) ++ on_path) (rows s.tree ++ by_key key put_in) =
      evicted_same (fits_by key h (leaves_after h s (key_of key op) draw)) (path_up h (leaf_read h s (key_of key op) draw)) (record { tree = s.tree; left = by_key key put_in }) path_apart in
      let with_aside : Same (rows s.tree ++ by_key key put_in) ((aside ++ put_in) ++ on_path) =
      Same-trans (rows s.tree ++ by_key key put_in) ((aside ++ on_path) ++ put_in) ((aside ++ put_in) ++ on_path)
      (Same-trans (rows s.tree ++ by_key key put_in) (rows s.tree ++ put_in) ((aside ++ on_path) ++ put_in) (Same-right (rows s.tree) (by_key key put_in) put_in (Same-by_key key put_in)) (Same-left (rows s.tree) (aside ++ on_path) put_in (Same-sym (aside ++ on_path) (rows s.tree) split_tree)))
      (Same-to_end aside on_path put_in) in
      let cancelled : Same (rows e.tree ++ e.left) (aside ++ put_in) =
      Same-cancel_end on_path (rows e.tree ++ e.left) (aside ++ put_in) (Same-trans ((rows e.tree ++ e.left) ++ on_path) (rows s.tree ++ by_key key put_in) ((aside ++ put_in) ++ on_path) kept with_aside) in
      Same-trans (rows e.tree ++ rows (slots_of (length s.stash) e.left)) (rows e.tree ++ e.left) (applied key n op (held s)) (Same-is _ _ (ap (λ w. rows e.tree ++ w) (rows-slots_of (length s.stash) e.left)))
      (Same-trans (rows e.tree ++ e.left) (aside ++ put_in) (applied key n op (held s)) cancelled
      (Same-trans (aside ++ put_in) (applied key n op (aside ++ taken)) (applied key n op (held s)) (applied_apart key n op aside taken aside_none)
      (Same-sym (applied key n op (held s)) (applied key n op (aside ++ taken)) (applied_same key n op (held s) (aside ++ taken) (m (key_of key op)) (rep.rows (key_of key op)) split_held))))

  pub got_is : (went key h s op draw).got ≡ map_answer key (length s.leaves) op m
  got_is = by_range (cases_Bool (nat_lt (key_of key op) (length s.leaves)))
    where
      by_range : ((nat_lt (key_of key op) (length s.leaves) ≡ true) ⊎ (nat_lt (key_of key op) (length s.leaves) ≡ false)) → (went key h s op draw).got ≡ map_answer key (length s.leaves) op m
      by_range (inr past) = rw past refl
      by_range (inl in_range) =
          let k = key_of key op in
          let taken = take_path h s (leaf_read h s k draw) in
          let all : with_key key k (aside ++ taken) ≡ list_of (m k) =
          Same-one (with_key key k (aside ++ taken)) (m k) (subst (λ w. Same (with_key key k (aside ++ taken)) w) (rep.rows k) (Same-filter (λ r. key r == k) (aside ++ taken) (held s) (Same-sym (held s) (aside ++ taken) split_held))) in
          let mine : with_key key k taken ≡ list_of (m k) = ap (λ w. w ++ with_key key k taken) (sym (aside_none in_range)) ∙ sym (filter-append (λ r. key r == k) aside taken) ∙ all in
          ap (λ w. answer (length s.leaves) k op (first w)) mine ∙ ap (answer (length s.leaves) k op) (first-list_of (m k))

  row_placed : (p : ℕ) (row : R) → get_or (evicted key h s op draw).tree p None ≡ Some row → is_on_path h (get_or (leaves_after h s (key_of key op) draw) (key row) 0) (p / 4) ≡ true
  row_placed p row is = by_slot (evicted_slot (fits_by key h (leaves_after h s (key_of key op) draw)) (path_up h (leaf_read h s (key_of key op) draw)) (record { tree = s.tree; left = by_key key (applied key (length s.leaves) op (take_path h s (leaf_read h s (key_of key op) draw))) }) path_apart p row is)
    where
      same_leaf : (get_or s.tree p None ≡ Some row) → (list_any (λ c. c == p / 4) (path_up h (leaf_read h s (key_of key op) draw)) ≡ false) → (key row ≡ key_of key op) ⊎ (key row ≡ key_of key op → ⊥) → (key_of key op < length s.leaves) ⊎ (length s.leaves ≤ key_of key op)
          → leaf_of s (key row) ≡ get_or (leaves_after h s (key_of key op) draw) (key row) 0
      same_leaf was off (inr other) range = sym (get_or-set_other s.leaves (key_of key op) (key row) (draw % 2 ^ h) 0 other)
      same_leaf was off (inl same) (inl in_range) = absurd (other_key p row was off in_range same)
      same_leaf was off (inl same) (inr past) = ap (λ l. get_or l (key row) 0) (sym (set_past s.leaves (key_of key op) (draw % 2 ^ h) past))

      by_slot : ((fits_by key h (leaves_after h s (key_of key op) draw) (p / 4) row ≡ true) ⊎ ((get_or s.tree p None ≡ Some row) × (list_any (λ c. c == p / 4) (path_up h (leaf_read h s (key_of key op) draw)) ≡ false)))
          → is_on_path h (get_or (leaves_after h s (key_of key op) draw) (key row) 0) (p / 4) ≡ true
      by_slot (inl fits) = fits
      by_slot (inr was) = subst (λ l. is_on_path h l (p / 4) ≡ true) (same_leaf was.0 was.1 (cases_eq (key row) (key_of key op)) (cases_lt (key_of key op) (length s.leaves))) (rep.placed p row was.0)

  pub represents_after : KeepsKey key op → Represents key h (went key h s op draw).state (map_after key (length s.leaves) op m)
  represents_after keeps = record {
    size = length-evict (fits_by key h (leaves_after h s (key_of key op) draw)) (path_up h (leaf_read h s (key_of key op) draw)) (record { tree = s.tree; left = by_key key (applied key (length s.leaves) op (take_path h s (leaf_read h s (key_of key op) draw))) }) path_apart ∙ rep.size;
    leaves = leaves_below key h s draw (key_of key op) rep.leaves;
    range = λ j past. still_none j (subst (λ n. n ≤ j) (length-set s.leaves (key_of key op) (draw % 2 ^ h)) past) (cases_eq j (key_of key op));
    rows = λ j. Same-one (with_key key j (held (went key h s op draw).state)) (map_after key (length s.leaves) op m j)
        (subst (λ w. Same (with_key key j (held (went key h s op draw).state)) w) (at_applied key (length s.leaves) op keeps m (held s) rep.rows j)
        (Same-filter (λ r. key r == j) (held (went key h s op draw).state) (applied key (length s.leaves) op (held s)) held_after));
    placed = row_placed;
  }
    where
      still_none : (j : ℕ) → length s.leaves ≤ j → (j ≡ key_of key op) ⊎ (j ≡ key_of key op → ⊥) → map_after key (length s.leaves) op m j ≡ None
      still_none j past (inl same) =
          let e : nat_lt (key_of key op) (length s.leaves) ≡ false = le-ltb (key_of key op) (length s.leaves) (subst (λ i. length s.leaves ≤ i) same past) in
          rw e (rep.range j past)
      still_none j past (inr off) =
          let e : (nat_lt (key_of key op) (length s.leaves) && (j == key_of key op)) ≡ false = and_right (nat_lt (key_of key op) (length s.leaves)) (j == key_of key op) (ne_eqb j (key_of key op) off) in
          rw e (rep.range j past)

  pub held_after_some : (w : Went R) → access key h s op draw ≡ Some w → Same (held w.state) (applied key (length s.leaves) op (held s))
  held_after_some w e = subst (λ (v : Went R). Same (held v.state) (applied key (length s.leaves) op (held s))) (went_is key h s op draw w e) held_after

fits_only : {A : Type 0} (b : Bool) (x y : A) → cond b (Some x) None ≡ Some y → b ≡ true
fits_only true x y e = refl
fits_only false x y e = absurd (cc)

pub stash_kept : {R : Type 0} (key : R → ℕ) (h : ℕ) (s : State R) (op : Op R) (draw : ℕ) (w : Went R) → access key h s op draw ≡ Some w → length w.state.stash ≡ length s.stash
stash_kept {R} key h s op draw w e =
    let fits : length (evicted key h s op draw).left ≤ length s.stash = leb-true (length (evicted key h s op draw).left) (length s.stash) (fits_only (nat_le (length (evicted key h s op draw).left) (length s.stash)) (went key h s op draw) w e) in
    ap (λ (v : Went R). length v.state.stash) (sym (went_is key h s op draw w e)) ∙ length-slots_of (length s.stash) (evicted key h s op draw).left fits

pub leaves_below_after : {R : Type 0} (key : R → ℕ) (h : ℕ) (s : State R) (op : Op R) (draw : ℕ) (w : Went R) → ((j : ℕ) → j < length s.leaves → leaf_of s j < 2 ^ h) → access key h s op draw ≡ Some w
    → (j : ℕ) → j < length w.state.leaves → leaf_of w.state j < 2 ^ h
leaves_below_after {R} key h s op draw w below e =
    subst (λ (v : Went R). (j : ℕ) → j < length v.state.leaves → leaf_of v.state j < 2 ^ h) (went_is key h s op draw w e) (leaves_below key h s draw (key_of key op) below)

-- the rows of a path and of the stash have distinct keys
pub taken_single : {R : Type 0} (key : R → ℕ) (h : ℕ) (s : State R) (m : ℕ → Option R) (op : Op R) (draw : ℕ) → Represents key h s m → Single key (take_path h s (leaf_read h s (key_of key op) draw))
taken_single {R} key h s m op draw rep k =
    let taken = take_path h s (leaf_read h s (key_of key op) draw) in
    let others = aside key h s m op draw rep in
    let count : length (with_key key k (others ++ taken)) ≡ length (list_of (m k)) =
    length-Same (with_key key k (others ++ taken)) (with_key key k (held s)) (Same-filter (λ r. key r == k) (others ++ taken) (held s) (Same-sym (held s) (others ++ taken) (split_held key h s m op draw rep)))
    ∙ ap length (rep.rows k) in
    let parts : length (with_key key k (others ++ taken)) ≡ length (with_key key k others) + length (with_key key k taken) =
    ap length (filter-append (λ r. key r == k) others taken) ∙ length-append (with_key key k others) (with_key key k taken) in
    omega (arith, count, parts, at_most (m k))
  where
    at_most : (o : Option R) → length (list_of o) ≤ 1
    at_most None = omega arith
    at_most (Some r) = omega arith

-- the rows that are to be put in again have distinct keys
pub put_in_single : {R : Type 0} (key : R → ℕ) (h : ℕ) (s : State R) (m : ℕ → Option R) (op : Op R) (draw : ℕ) → Represents key h s m → KeepsKey key op
    → Single key (applied key (length s.leaves) op (take_path h s (leaf_read h s (key_of key op) draw)))
put_in_single {R} key h s m op draw rep keeps k =
    let n = length s.leaves in
    let taken = take_path h s (leaf_read h s (key_of key op) draw) in
    let others = aside key h s m op draw rep in
    let put_in = applied key n op taken in
    let whole : Same (others ++ put_in) (applied key n op (held s)) =
    Same-trans (others ++ put_in) (applied key n op (others ++ taken)) (applied key n op (held s)) (applied_apart key n op others taken (aside_none key h s m op draw rep))
    (Same-sym (applied key n op (held s)) (applied key n op (others ++ taken)) (applied_same key n op (held s) (others ++ taken) (m (key_of key op)) (rep.rows (key_of key op)) (split_held key h s m op draw rep))) in
    let count : length (with_key key k (others ++ put_in)) ≡ length (list_of (map_after key n op m k)) =
    length-Same (with_key key k (others ++ put_in)) (with_key key k (applied key n op (held s))) (Same-filter (λ r. key r == k) (others ++ put_in) (applied key n op (held s)) whole)
    ∙ ap length (at_applied key n op keeps m (held s) rep.rows k) in
    let parts : length (with_key key k (others ++ put_in)) ≡ length (with_key key k others) + length (with_key key k put_in) =
    ap length (filter-append (λ r. key r == k) others put_in) ∙ length-append (with_key key k others) (with_key key k put_in) in
    omega (arith, count, parts, at_most (map_after key n op m k))
  where
    at_most : (o : Option R) → length (list_of o) ≤ 1
    at_most None = omega arith
    at_most (Some r) = omega arith
