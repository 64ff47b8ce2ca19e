-- Where an access of an index writes, and which regions are an index's after a statement.
use Rattle.ob_headline.proofs.Words.{Access, AfterCount, ap, arith, Bool, by_shape, columns_of, count_part, Cut, Discard, each, End, false, Flat, height_of, if◌then◌else◌, Indexed, inl, inr, is_access, Batched, List, Make, next, None, not, Open, Option, path_read, path_write, Public, Read, read_at, refl, script, Seen, Shape, Skeleton, slice_get, Some, Static, Stored, stored_at, stored_regions, subst, suc, sym, Table, tables_after, tables_then, take, true, Whole, Write, write_at, zero, ℕ, [], ⊤, ◌*◌, ◌++◌, ◌+◌, ◌∙◌, ◌∷◌, ◌≡◌, ◌≤◌, ◌⊎◌}
use Rattle.std.specs.Prelude.{bytes_eq, filter}
use Rattle.std.proofs.Common.{cond}
use Rattle.ob_base.specs.declared.skeleton.Skeleton.TheVariants.{Create, Insert, Update, Delete, Drop as DropTable, Rows, Groups}
use Rattle.ob_headline.proofs.FullLemmas.{on_index}
use Rattle.ob_headline.specs.Shown.{IsOfIndex, OfIndex, WritesIndexes}
use Rattle.ob_script.specs.Script.{index_part_of, until_end, whole_script}
use Rattle.ob_script.specs.Tables.{moved, moved_to}

-- ---- accesses of which each write goes to such a region
module _ (P : ℕ → Type 0) where
  abbrev pub Onto : List Access → Type 0
  Onto [] = ⊤
  Onto (Write q x ∷ rest) = P q × Onto rest
  Onto (Make q blocks len ∷ rest) = Onto rest
  Onto (Read q x ∷ rest) = Onto rest
  Onto (Discard q ∷ rest) = Onto rest
  Onto (Open q blocks len ∷ rest) = Onto rest

  pub onto_both : (xs ys : List Access) → Onto xs → Onto ys → Onto (xs ++ ys)
  onto_both [] ys a b = b
  onto_both (Write q x ∷ xs) ys a b = (a.0, onto_both xs ys a.1 b)
  onto_both (Make q blocks len ∷ xs) ys a b = onto_both xs ys a b
  onto_both (Read q x ∷ xs) ys a b = onto_both xs ys a b
  onto_both (Discard q ∷ xs) ys a b = onto_both xs ys a b
  onto_both (Open q blocks len ∷ xs) ys a b = onto_both xs ys a b

  pub onto_each : (m : ℕ) (f : ℕ → List Access) → ((i : ℕ) → Onto (f i)) → Onto (each m f)
  onto_each zero f all = tt
  onto_each (suc m) f all = onto_both (each m f) (f m) (onto_each m f all) (all m)

  onto_first : (k : ℕ) (xs : List Access) → Onto xs → Onto (take k xs)
  onto_first zero xs a = tt
  onto_first (suc k) [] a = tt
  onto_first (suc k) (Write q x ∷ xs) a = (a.0, onto_first k xs a.1)
  onto_first (suc k) (Make q blocks len ∷ xs) a = onto_first k xs a
  onto_first (suc k) (Read q x ∷ xs) a = onto_first k xs a
  onto_first (suc k) (Discard q ∷ xs) a = onto_first k xs a
  onto_first (suc k) (Open q blocks len ∷ xs) a = onto_first k xs a

  onto_until : (end : End) (all : List Access) → Onto all → Onto (until_end end all)
  onto_until Static all a = tt
  onto_until Whole all a = a
  onto_until AfterCount all a = a
  onto_until Batched all a = tt
  onto_until (Cut k) all a = onto_first k all a

  pub onto_at : (xs : List Access) (i q x : ℕ) → Onto xs → slice_get xs i ≡ Some (Write q x) → P q
  onto_at [] i q x a is = absurd (cc is)
  onto_at (Write r y ∷ xs) zero q x a is = let same : r ≡ q = cc is in subst P same a.0
  onto_at (Make r blocks len ∷ xs) zero q x a is = absurd (cc is)
  onto_at (Read r y ∷ xs) zero q x a is = absurd (cc is)
  onto_at (Discard r ∷ xs) zero q x a is = absurd (cc is)
  onto_at (Open r blocks len ∷ xs) zero q x a is = absurd (cc is)
  onto_at (Write r y ∷ xs) (suc i) q x a is = onto_at xs i q x a.1 is
  onto_at (Make r blocks len ∷ xs) (suc i) q x a is = onto_at xs i q x a is
  onto_at (Read r y ∷ xs) (suc i) q x a is = onto_at xs i q x a is
  onto_at (Discard r ∷ xs) (suc i) q x a is = onto_at xs i q x a is
  onto_at (Open r blocks len ∷ xs) (suc i) q x a is = onto_at xs i q x a is

  -- an access of an index writes to its two regions
  index_onto : (p : Public) (leaf : Option ℕ) (t : Stored ℕ) → P t.held → P (t.held + 1) → Onto (index_part_of p leaf t)
  index_onto p None t tree stash = onto_each p.stash (read_at (t.held + 1)) (λ i. tt)
  index_onto p (Some leaf) t tree stash =
      let h = height_of t.heading.capacity in
      let reads = each (4 * (h + 1)) (path_read t.held h leaf) in
      let writes = each (4 * (h + 1)) (path_write t.held h leaf) in
      let last = each p.stash (write_at (t.held + 1)) in
      onto_both (count_part (t.held + 1) p.stash) (reads ++ (writes ++ last)) (onto_each p.stash (read_at (t.held + 1)) (λ i. tt))
      (onto_both reads (writes ++ last) (onto_each (4 * (h + 1)) (path_read t.held h leaf) (λ c. tt))
      (onto_both writes last (onto_each (4 * (h + 1)) (path_write t.held h leaf) (λ c. (tree, tt))) (onto_each p.stash (write_at (t.held + 1)) (λ i. (stash, tt)))))

-- ---- the regions of an index that is found by its name
of_region : (name : List ℕ) (ts : List Table) (u : Stored ℕ) → stored_at name (stored_regions ts) ≡ Some u → u.heading.shape ≡ Indexed → (q : ℕ) → (q ≡ u.held) ⊎ (q ≡ u.held + 1) → OfIndex ts q
of_region name [] u is indexed q at = absurd (cc is)
of_region name (t ∷ ts) u is indexed q at = split (bytes_eq t.heading.name name) is (λ there. of_region name ts u there indexed q at)
  where
    here : Stored ℕ
    here = record { heading = t.heading; held = t.region }

    split : (b : Bool) → (if b then Some here else stored_at name (stored_regions ts)) ≡ Some u → (stored_at name (stored_regions ts) ≡ Some u → OfIndex ts q) → OfIndex (t ∷ ts) q
    split true is later =
        let same : here ≡ u = cc is in
        inl (ap (λ (v : Stored ℕ). v.heading.shape) same ∙ indexed, elim at [ inl tree ↦ inl (tree ∙ ap (λ (v : Stored ℕ). v.held) (sym same)) | inr stash ↦ inr (stash ∙ ap (λ (v : Stored ℕ). v.held + 1) (sym same)) ])
    split false is later = inr (later is)

pub writes_indexes : (p : Public) (s : Skeleton) (seen : Seen) → is_access p s ≡ true → WritesIndexes p.tables (script p s seen)
writes_indexes p s seen keyed =
    let on = on_index p s keyed in
    let at = of_region on.name p.tables on.table on.found on.indexed in
    let whole = subst (Onto (OfIndex p.tables)) (sym (on.whole seen)) (index_onto (OfIndex p.tables) p seen.leaf on.table (at on.table.held (inl refl)) (at (on.table.held + 1) (inr refl))) in
    record { each = λ i q x wrote. onto_at (OfIndex p.tables) (script p s seen) i q x (onto_until (OfIndex p.tables) seen.end (whole_script p s seen) whole) wrote.is }

-- ---- an index stays where it is, and a new one has regions of its own
added : (ts : List Table) (t : Table) (q : ℕ) → OfIndex (ts ++ t ∷ []) q → OfIndex ts q ⊎ IsOfIndex t q
added [] t q of = elim of [ inl new ↦ inr new | inr none ↦ absurd none ]
added (u ∷ ts) t q of = elim of [
  | inl first ↦ inl (inl first)
  | inr rest ↦ elim (added ts t q rest) [ inl old ↦ inl (inr old) | inr new ↦ inr new ]
]

moved_one : (t : Table) (region q : ℕ) (b : Bool) → IsOfIndex (if b then moved_to region t else t) q → IsOfIndex t q
moved_one t region q false of = of
moved_one t region q true of = go t.heading.shape refl of
  where
    go : (shape : Shape) → t.heading.shape ≡ shape → IsOfIndex (by_shape shape (record t { region = region }) t) q → IsOfIndex t q
    go Flat is of = let indexed = of.0 in absurd (cc (is, indexed))
    go Indexed is of = of

moved_index : (name : List ℕ) (region q : ℕ) (ts : List Table) → OfIndex (moved name region ts) q → OfIndex ts q
moved_index name region q [] of = of
moved_index name region q (t ∷ ts) of = elim of [
  | inl first ↦ inl (moved_one t region q (bytes_eq t.heading.name name) first)
  | inr rest ↦ inr (moved_index name region q ts rest)
]

kept_index : (keeps : Table → Bool) (q : ℕ) (ts : List Table) → OfIndex (filter keeps ts) q → OfIndex ts q
kept_index keeps q [] of = of
kept_index keeps q (t ∷ ts) of = split (keeps t) of (kept_index keeps q ts)
  where
    split : (b : Bool) → OfIndex (cond b (t ∷ filter keeps ts) (filter keeps ts)) q → (OfIndex (filter keeps ts) q → OfIndex ts q) → OfIndex (t ∷ ts) q
    split true of later = elim of [ inl first ↦ inl first | inr rest ↦ inr (later rest) ]
    split false of later = inr (later of)

pub next_index : (p : Public) (s : Skeleton) (seen : Seen) (q : ℕ) → OfIndex (next p s seen).tables q → OfIndex p.tables q ⊎ (p.next_region ≤ q)
next_index p s seen q of = by_end seen.end of
  where
    new_one : (t : Table) → t.region ≡ p.next_region → IsOfIndex t q → p.next_region ≤ q
    new_one t is of = elim of.1 [ inl tree ↦ omega (arith, is, tree) | inr stash ↦ omega (arith, is, stash) ]

    behind : (s : Skeleton) → OfIndex (tables_after p s) q → OfIndex p.tables q ⊎ (p.next_region ≤ q)
    behind (Create table cs n shape) of =
        let made : Table = record { heading = record { name = table; schema = columns_of table cs; capacity = n; shape = shape }; region = p.next_region } in
        elim (added p.tables made q of) [ inl old ↦ inl old | inr new ↦ inr (new_one made refl new) ]
    behind (Insert table cs) of = inl (moved_index table p.next_region q p.tables of)
    behind (Update table cs) of = inl (moved_index table p.next_region q p.tables of)
    behind (Delete table) of = inl (moved_index table p.next_region q p.tables of)
    behind (DropTable table) of = inl (kept_index (λ (t : Table). not (bytes_eq t.heading.name table)) q p.tables of)
    behind (Rows source cs) of = inl of
    behind (Groups table cs key) of = inl of

    by_end : (end : End) → OfIndex (tables_then p s end) q → OfIndex p.tables q ⊎ (p.next_region ≤ q)
    by_end Whole of = behind s of
    by_end other of = inl of
