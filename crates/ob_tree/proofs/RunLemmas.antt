-- Lists of accesses.
use Rattle.std.proofs.Common.{◌≡◌, ◌≤◌, ◌<◌, ◌≢◌, ℕ, zero, suc, ◌-◌, ◌+◌, ◌*◌, ◌%◌, ◌^◌, true, false, cond, ◌==◌, ◌⊎◌, inl, inr, List, [], ◌∷◌, ◌++◌, Option, Some, None, length, take, map, replicate, get_or, set, refl, sym, ap, ◌∙◌, subst, arith, length-append}
use Rattle.std.specs.List.{flat_map, All, AllPairs}
use Rattle.std.proofs.lemmas.Bool.{cases_eq, cases_lt, false≢true, eq-eqb, ne_eqb}
use Rattle.std.proofs.lemmas.List.{length-set, length-replicate, length-map, length-reverse, get_or_past, get_or_default, get_or-set_same, get_or-set_other, map-set, get_or-map}
use Rattle.std.proofs.lemmas.List.Elements.{All-cons, All-nil}
use Rattle.ob_path.specs.Paths.{path, path_up}
use Rattle.ob_path.specs.Rows.{rows, with_key}
use Rattle.ob_path.specs.States.{State, Represents}
use Rattle.ob_path.specs.Access.{Op, key_of, leaf_read, Went, access}
use Rattle.ob_tree.specs.Scripts.{numbers, path_places, read_script, access_script, ReadStash, ReadTree, WriteTree, WriteStash}
use Rattle.ob_tree.specs.Runs.{created, goes, run, map_after, map_answer, map_answers, KeepsKey, AllKeep, RunsAsMap, leaf_at, draws_read, last_given, run_leaves, with_draws, ReadsDraws}
use Rattle.ob_tree.proofs.RowLemmas.{rows-none}
use Rattle.ob_tree.proofs.PathLemmas.{length-upward}
use Rattle.ob_tree.proofs.EvictLemmas.{no_row}
use Rattle.ob_tree.proofs.AccessLemmas.{went_is, got_is, represents_after}

pub created_represents : {R : Type 0} (key : R → ℕ) (h t : ℕ) (leaves : List ℕ) → ((k : ℕ) → k < length leaves → get_or leaves k 0 < 2 ^ h) → Represents {R = R} key h (created h t leaves) (λ k. None)
created_represents {R} key h t leaves below = record {
  size = length-replicate (4 * (2 ^ (h + 1) - 1)) None;
  leaves = below;
  range = λ k past. refl;
  rows = λ k. ap (with_key key k) (ap (λ w. w ++ rows (replicate t None)) (rows-none (4 * (2 ^ (h + 1) - 1))) ∙ rows-none t);
  placed = λ p row is. absurd (no_row (4 * (2 ^ (h + 1) - 1)) p row is);
}

-- an access that goes on
pub access_answers : {R : Type 0} (key : R → ℕ) (h : ℕ) (s : State R) (m : ℕ → Option R) (op : Op R) (draw : ℕ) (w : Went R) → Represents key h s m → KeepsKey key op → access key h s op draw ≡ Some w
    → (w.got ≡ map_answer key (length s.leaves) op m) × Represents key h w.state (map_after key (length s.leaves) op m)
access_answers key h s m op draw w rep keeps e =
    subst (λ v. (v.got ≡ map_answer key (length s.leaves) op m) × Represents key h v.state (map_after key (length s.leaves) op m)) (went_is key h s op draw w e)
    (got_is key h s m op draw rep, represents_after key h s m op draw rep keeps)

pub leaves_kept : {R : Type 0} (key : R → ℕ) (h : ℕ) (s : State R) (op : Op R) (draw : ℕ) (w : Went R) → access key h s op draw ≡ Some w → length w.state.leaves ≡ length s.leaves
leaves_kept key h s op draw w e =
    ap (λ (v : Went _). length v.state.leaves) (sym (went_is key h s op draw w e)) ∙ length-set s.leaves (key_of key op) (draw % 2 ^ h)

pub run_as_map : {R : Type 0} (key : R → ℕ) (h : ℕ) (ops : List (Op R × ℕ)) (s : State R) (m : ℕ → Option R) → Represents key h s m → AllKeep key ops → RunsAsMap key h (length s.leaves) m ops (run key h s ops)
run_as_map key h [] s m rep keep = record { more = []; gots = refl; whole = λ e. refl; represents = rep }
run_as_map {R} key h (x ∷ rest) s m rep keep = by_access (access key h s x.0 x.1) refl (λ to m2 rep2. run_as_map key h rest to m2 rep2 keep.1)
  where
    by_access : (o : Option (Went R)) → access key h s x.0 x.1 ≡ o
        → ((to : State R) (m2 : ℕ → Option R) → Represents key h to m2 → RunsAsMap key h (length to.leaves) m2 rest (run key h to rest))
        → RunsAsMap key h (length s.leaves) m (x ∷ rest) (goes s (λ to. run key h to rest) o)
    by_access None e go = record { more = map_answers key (length s.leaves) m (x ∷ rest); gots = refl; whole = λ not_so. absurd (false≢true (sym not_so)); represents = rep }
    by_access (Some w) e go =
        let step = access_answers key h s m x.0 x.1 w rep keep.0 e in
        let there = subst (λ n. RunsAsMap key h n (map_after key (length s.leaves) x.0 m) rest (run key h w.state rest)) (leaves_kept key h s x.0 x.1 w e) (go w.state (map_after key (length s.leaves) x.0 m) step.1) in
        record { more = there.more; gots = ap (λ g. g ∷ ((run key h w.state rest).gots ++ there.more)) step.0 ∙ ap (λ l. map_answer key (length s.leaves) x.0 m ∷ l) there.gots; whole = there.whole; represents = there.represents }

pub run_reads : {R : Type 0} (key : R → ℕ) (h : ℕ) (d : ℕ → ℕ) (ops : List (Op R)) (s : State R) (next : ℕ) (given : List ℕ) → s.leaves ≡ map (leaf_at h d) given → ReadsDraws key h s d next given ops
run_reads key h d [] s next given is = record { more = []; leaves = refl; whole = λ e. refl }
run_reads {R} key h d (op ∷ ops) s next given is = by_access (access key h s op (d next)) refl (λ to is2. run_reads key h d ops to (suc next) (set given (key_of key op) next) is2)
  where
    head : leaf_read h s (key_of key op) (d next) ≡ leaf_at h d (get_or given (key_of key op) next)
    head = by_range (cases_lt (key_of key op) (length given))
      where
        by_range : (key_of key op < length given) ⊎ (length given ≤ key_of key op) → leaf_read h s (key_of key op) (d next) ≡ leaf_at h d (get_or given (key_of key op) next)
        by_range (inl in_range) = ap (λ l. get_or l (key_of key op) (d next % 2 ^ h)) is ∙ get_or-map (leaf_at h d) given (key_of key op) next (d next % 2 ^ h) in_range
        by_range (inr past) =
            ap (λ l. get_or l (key_of key op) (d next % 2 ^ h)) is
            ∙ get_or_past (map (leaf_at h d) given) (key_of key op) (d next % 2 ^ h) (omega (arith, past, length-map given (leaf_at h d)))
            ∙ ap (leaf_at h d) (sym (get_or_past given (key_of key op) next past))

    by_access : (o : Option (Went R)) → access key h s op (d next) ≡ o
        → ((to : State R) → to.leaves ≡ map (leaf_at h d) (set given (key_of key op) next) → ReadsDraws key h to d (suc next) (set given (key_of key op) next) ops)
        → ReadsDraws key h s d next given (op ∷ ops)
    by_access None e go = record {
      more = map (leaf_at h d) (draws_read (suc next) (set given (key_of key op) next) (map (key_of key) ops));
      leaves = rw e (ap (λ l. l ∷ map (leaf_at h d) (draws_read (suc next) (set given (key_of key op) next) (map (key_of key) ops))) head);
      whole = rw e (λ not_so. absurd (false≢true (sym not_so)));
    }
    by_access (Some w) e go =
        let after_is : w.state.leaves ≡ map (leaf_at h d) (set given (key_of key op) next) =
        ap (λ (v : Went R). v.state.leaves) (sym (went_is key h s op (d next) w e)) ∙ ap (λ l. set l (key_of key op) (d next % 2 ^ h)) is ∙ sym (map-set (leaf_at h d) given (key_of key op) next) in
        let there = go w.state after_is in
        record {
          more = there.more;
          leaves = rw e (ap (λ l. l ∷ (run_leaves key h w.state (with_draws d (suc next) ops) ++ there.more)) head ∙ ap (λ l. leaf_at h d (get_or given (key_of key op) next) ∷ l) there.leaves);
          whole = rw e there.whole;
        }

-- what holds of the draws given and of all later ones holds of those read
drawn_all : (P : ℕ → Type 0) (ks : List ℕ) (next : ℕ) (given : List ℕ) → ((j : ℕ) (d : ℕ) → j < length given → P (get_or given j d)) → ((i : ℕ) → next ≤ i → P i) → All P (draws_read next given ks)
drawn_all P [] next given old new = All-nil P
drawn_all P (k ∷ ks) next given old new = All-cons P (get_or given k next) (draws_read (suc next) (set given k next) ks) (here (cases_lt k (length given))) (drawn_all P ks (suc next) (set given k next) (λ j d within. there j d within (cases_eq j k)) (λ i more. new i (omega (arith, more))))
  where
    here : (k < length given) ⊎ (length given ≤ k) → P (get_or given k next)
    here (inl in_range) = old k next in_range
    here (inr past) = subst P (sym (get_or_past given k next past)) (new next (omega arith))

    there : (j d : ℕ) → j < length (set given k next) → (j ≡ k) ⊎ (j ≡ k → ⊥) → P (get_or (set given k next) j d)
    there j d within (inl same) =
        subst (λ i. P (get_or (set given k next) i d)) (sym same)
        (subst P (sym (get_or-set_same given k next d (subst (λ i. i < length given) same (omega (arith, within, length-set given k next))))) (new next (omega arith)))
    there j d within (inr off) = subst P (sym (get_or-set_other given k j next d off)) (old j d (omega (arith, within, length-set given k next)))

pairs_cons : (x : ℕ) (xs : List ℕ) → All (λ y. x ≢ y) xs → AllPairs (λ a b. a ≢ b) xs → AllPairs (λ a b. a ≢ b) (x ∷ xs)
pairs_cons x xs first rest zero zero d less within = absurd (omega (arith, less))
pairs_cons x xs first rest zero (suc j) d less within = first j d (omega (arith, within))
pairs_cons x xs first rest (suc i) zero d less within = absurd (omega (arith, less))
pairs_cons x xs first rest (suc i) (suc j) d less within = rest i j d (omega (arith, less)) (omega (arith, within))

-- no draw is read twice
pub draws_apart : (ks : List ℕ) (next : ℕ) (given : List ℕ) → AllPairs (λ a b. a ≢ b) given → ((j d : ℕ) → j < length given → get_or given j d < next) → AllPairs (λ a b. a ≢ b) (draws_read next given ks)
draws_apart [] next given apart below = λ i j d less within. absurd (omega (arith, within))
draws_apart (k ∷ ks) next given apart below =
    pairs_cons (get_or given k next) (draws_read (suc next) (set given k next) ks)
    (drawn_all (λ y. get_or given k next ≢ y) ks (suc next) (set given k next) (λ j d within. other j d (subst (λ n. j < n) (length-set given k next) within) (cases_eq j k)) (λ i more same. absurd (omega (arith, more, same, at_most (cases_lt k (length given))))))
    (draws_apart ks (suc next) (set given k next)
    (λ i j d less within. set_apart i j d less (subst (λ n. j < n) (length-set given k next) within) (cases_eq i k) (cases_eq j k))
    (λ j d within. set_below j d (subst (λ n. j < n) (length-set given k next) within) (cases_eq j k)))
  where
    at_most : (k < length given) ⊎ (length given ≤ k) → get_or given k next ≤ next
    at_most (inl in_range) = omega (arith, below k next in_range)
    at_most (inr past) = omega (arith, get_or_past given k next past)

    differ : (i j d : ℕ) → i < length given → j < length given → (i ≡ j → ⊥) → get_or given i d ≢ get_or given j d
    differ i j d hi hj off same = by_order (cases_lt i j)
      where
        by_order : (i < j) ⊎ (j ≤ i) → ⊥
        by_order (inl less) = apart i j d less hj same
        by_order (inr more) = apart j i d (omega (arith, more, λ (e : i ≡ j). off e)) hi (sym same)

    same_at : (i d : ℕ) → i ≡ k → i < length given → get_or (set given k next) i d ≡ next
    same_at i d same within = ap (λ a. get_or (set given k next) a d) same ∙ get_or-set_same given k next d (subst (λ a. a < length given) same within)

    other : (j d : ℕ) → j < length given → (j ≡ k) ⊎ (j ≡ k → ⊥) → get_or given k next ≢ get_or (set given k next) j d
    other j d within (inl same) equal = absurd (omega (arith, equal, same_at j d same within, below k next (subst (λ a. a < length given) same within)))
    other j d within (inr off) equal = by_range (cases_lt k (length given))
      where
        by_range : (k < length given) ⊎ (length given ≤ k) → ⊥
        by_range (inl in_range) = differ k j d in_range within (λ e. off (sym e)) (get_or_default given k d next in_range ∙ equal ∙ get_or-set_other given k j next d off)
        by_range (inr past) = omega (arith, equal, get_or_past given k next past, get_or-set_other given k j next d off, below j d within)

    set_below : (j d : ℕ) → j < length given → (j ≡ k) ⊎ (j ≡ k → ⊥) → get_or (set given k next) j d < suc next
    set_below j d within (inl same) = omega (arith, same_at j d same within)
    set_below j d within (inr off) = omega (arith, get_or-set_other given k j next d off, below j d within)

    set_apart : (i j d : ℕ) → i < j → j < length given → (i ≡ k) ⊎ (i ≡ k → ⊥) → (j ≡ k) ⊎ (j ≡ k → ⊥) → get_or (set given k next) i d ≢ get_or (set given k next) j d
    set_apart i j d less within (inl one) (inl two) equal = absurd (omega (arith, less, one, two))
    set_apart i j d less within (inl one) (inr two) equal = absurd (omega (arith, equal, same_at i d one (omega (arith, less, within)), get_or-set_other given k j next d two, below j d within))
    set_apart i j d less within (inr one) (inl two) equal = absurd (omega (arith, equal, same_at j d two within, get_or-set_other given k i next d one, below i d (omega (arith, less, within))))
    set_apart i j d less within (inr one) (inr two) equal = apart i j d less within (sym (get_or-set_other given k i next d one) ∙ equal ∙ get_or-set_other given k j next d two)

pub length-numbers : (i n : ℕ) → length (numbers i n) ≡ n
length-numbers i zero = refl
length-numbers i (suc n) = ap suc (length-numbers (suc i) n)

pub get_or-numbers : (n i j d : ℕ) → j < n → get_or (numbers i n) j d ≡ i + j
get_or-numbers zero i j d within = absurd (omega (arith, within))
get_or-numbers (suc n) i zero d within = omega arith
get_or-numbers (suc n) i (suc j) d within = get_or-numbers n (suc i) j d (omega (arith, within)) ∙ omega arith

length-places : (bs : List ℕ) → length (flat_map (λ b. numbers (4 * b) 4) bs) ≡ 4 * length bs
length-places [] = refl
length-places (b ∷ bs) = omega (arith, length-places bs)

pub length-path_places : (h leaf : ℕ) → length (path_places h leaf) ≡ 4 * (h + 1)
length-path_places h leaf = omega (arith, length-places (path h leaf), length-reverse (path_up h leaf), length-upward (suc h) (2 ^ h - 1 + leaf))

pub length-read_script : (t h leaf : ℕ) → length (read_script t h leaf) ≡ t + 4 * (h + 1)
length-read_script t h leaf = omega (
  arith,
  length-append (map (λ i. ReadStash i) (numbers 0 t)) (map (λ i. ReadTree i) (path_places h leaf)),
  length-map (numbers 0 t) (λ i. ReadStash i),
  length-map (path_places h leaf) (λ i. ReadTree i),
  length-numbers 0 t,
  length-path_places h leaf,
)

pub length-access_script : (t h leaf : ℕ) → length (access_script t h leaf) ≡ 2 * t + 8 * (h + 1)
length-access_script t h leaf = omega (
  arith,
  length-read_script t h leaf,
  length-append (read_script t h leaf) (map (λ i. WriteTree i) (path_places h leaf) ++ map (λ i. WriteStash i) (numbers 0 t)),
  length-append (map (λ i. WriteTree i) (path_places h leaf)) (map (λ i. WriteStash i) (numbers 0 t)),
  length-map (numbers 0 t) (λ i. WriteStash i),
  length-map (path_places h leaf) (λ i. WriteTree i),
  length-numbers 0 t,
  length-path_places h leaf,
)

-- the draw of a key among n is the one that it had last
pub draw_last : (ks : List ℕ) (next : ℕ) (given : List ℕ) (i : ℕ) → i < length ks → get_or ks i 0 < length given
    → get_or (draws_read next given ks) i 0 ≡ last_given next (get_or ks i 0) (get_or given (get_or ks i 0) 0) (take i ks)
draw_last [] next given i within in_range = absurd (omega (arith, within))
draw_last (k ∷ ks) next given zero within in_range = get_or_default given k next 0 in_range
draw_last (k ∷ ks) next given (suc i) within in_range =
    draw_last ks (suc next) (set given k next) i (omega (arith, within)) (omega (arith, in_range, length-set given k next))
    ∙ ap (λ w. last_given (suc next) (get_or ks i 0) w (take i ks)) (by_key (cases_eq k (get_or ks i 0)))
  where
    by_key : (k ≡ get_or ks i 0) ⊎ (k ≡ get_or ks i 0 → ⊥) → get_or (set given k next) (get_or ks i 0) 0 ≡ cond (k == get_or ks i 0) next (get_or given (get_or ks i 0) 0)
    by_key (inl same) =
        let e : (k == get_or ks i 0) ≡ true = eq-eqb k (get_or ks i 0) same in
        rw e (ap (λ j. get_or (set given j next) (get_or ks i 0) 0) same ∙ get_or-set_same given (get_or ks i 0) next 0 in_range)
    by_key (inr off) =
        let e : (k == get_or ks i 0) ≡ false = ne_eqb k (get_or ks i 0) off in
        rw e (get_or-set_other given k (get_or ks i 0) next 0 (λ same. off (sym same)))

-- any other access reads its own draw
pub draw_own : (ks : List ℕ) (next : ℕ) (given : List ℕ) (i : ℕ) → i < length ks → length given ≤ get_or ks i 0 → get_or (draws_read next given ks) i 0 ≡ next + i
draw_own [] next given i within past = absurd (omega (arith, within))
draw_own (k ∷ ks) next given zero within past = get_or_past given k next past ∙ omega arith
draw_own (k ∷ ks) next given (suc i) within past =
    draw_own ks (suc next) (set given k next) i (omega (arith, within)) (omega (arith, past, length-set given k next)) ∙ omega arith

pub created_apart : (first n : ℕ) (ks : List ℕ) → AllPairs (λ a b. a ≢ b) (draws_read (first + n) (numbers first n) ks)
created_apart first n ks = draws_apart ks (first + n) (numbers first n)
    (λ i j d less within same. absurd (omega (arith, less, same, get_or-numbers n first i d (omega (arith, less, within, length-numbers first n)), get_or-numbers n first j d (omega (arith, within, length-numbers first n)))))
    (λ j d within. omega (arith, within, length-numbers first n, get_or-numbers n first j d (omega (arith, within, length-numbers first n))))
