-- What is asked of a statement by its meaning, also where it meets a full stash.
use Rattle.ob_headline.proofs.Words.{Access, ap, append_assoc, arith, Bool, by_shape, count_part, drop, each, false, Flat, Heading, headings, headings_of, height_of, if◌then◌else◌, Indexed, insert_part, is_access, is_full_now, is_none, is_some, length, length-append, limits_of, List, nat_lt, nat_tests, None, Option, option_map, option_map_or, path_read, path_write, Public, Read, refl, rewrite_part, script, Seen, seen_now, served_full, Session, Shape, Skeleton, skeleton, Some, Stmt, Stored, stored_at, stored_regions, subst, suc, sym, take, take-append-drop, take-append-le, true, write_at, zero, ℕ, [], ◌*◌, ◌++◌, ◌+◌, ◌∙◌, ◌∷◌, ◌≡◌, ◌≤◌}
use Rattle.std.proofs.lemmas.List.{take_at}
use Rattle.ob_base.specs.Indexes.{path_blocks}
use Rattle.ob_base.specs.declared.skeleton.Skeleton.TheVariants.{Insert as InsertSkeleton, Update as UpdateSkeleton, Delete as DeleteSkeleton, Rows}
use Rattle.ob_base.specs.declared.skeleton.Source.TheVariants.{Table as OneTable}
use Rattle.ob_headline.specs.Words.{Begins}
use Rattle.ob_mean.proofs.VerdictLemmas.{access_is, started}
use Rattle.ob_mean.specs.Lawful.{capacity_at, height_at}
use Rattle.ob_mean.specs.Refusals.{is_indexed}
use Rattle.ob_mean.specs.Replay.{cut_at, has_index, held_if, reads_of}
use Rattle.ob_mean.specs.Verdict.{Accessed, accessed_now, gone, is_late, leaf_gone, seen_access}
use Rattle.ob_script.proofs.Lengths.{length-count_part, length-path_reads}
use Rattle.ob_script.specs.Script.{behind_change, flat_script, index_part_of, mutation_script, shape_script, whole_script, with_table}
use Rattle.ob_store.specs.State.{FalseRead}
use Rattle.ob_vault.specs.Tied.{ReadsIn}
use Rattle.ob_verdict.proofs.AccessedProof.{access_public}
use Rattle.ob_verdict.proofs.LawfulProof.{heading_region, height_public, no_region_index, region_index}
use Rattle.ob_verdict.proofs.SeenProof.{access_shows_leaf}

-- ---- a session of one statement
-- what is seen of it: all of it, or what was asked until its full stash
abbrev pub met : Session → Stmt → Seen
met s stmt = if is_full_now s stmt then (served_full s stmt).seen else seen_now s stmt

-- its accesses
abbrev pub met_script : Session → Stmt → List Access
met_script s stmt = script s.public (skeleton stmt) (met s stmt)

pub met_room : (s : Session) (stmt : Stmt) → is_full_now s stmt ≡ false → met s stmt ≡ seen_now s stmt
met_room s stmt room = ap (λ (full : Bool). if full then (served_full s stmt).seen else seen_now s stmt) room

pub met_full : (s : Session) (stmt : Stmt) → is_full_now s stmt ≡ true → met s stmt ≡ (served_full s stmt).seen
met_full s stmt full = ap (λ (b : Bool). if b then (served_full s stmt).seen else seen_now s stmt) full

-- ---- the accesses of an access of an index
-- the reads, and the writes after them
abbrev reads_part : Public → (leaf : ℕ) → Stored ℕ → List Access
reads_part p leaf t = count_part (t.held + 1) p.stash ++ each (4 * (height_of t.heading.capacity + 1)) (path_read t.held (height_of t.heading.capacity) leaf)

abbrev writes_part : Public → (leaf : ℕ) → Stored ℕ → List Access
writes_part p leaf t = each (4 * (height_of t.heading.capacity + 1)) (path_write t.held (height_of t.heading.capacity) leaf) ++ each p.stash (write_at (t.held + 1))

parted : (p : Public) (leaf : ℕ) (t : Stored ℕ) → index_part_of p (Some leaf) t ≡ reads_part p leaf t ++ writes_part p leaf t
parted p leaf t = sym (append_assoc (count_part (t.held + 1) p.stash) (each (4 * (height_of t.heading.capacity + 1)) (path_read t.held (height_of t.heading.capacity) leaf)) (writes_part p leaf t))

reads_long : (p : Public) (leaf : ℕ) (t : Stored ℕ) → length (reads_part p leaf t) ≡ p.stash + path_blocks (height_of t.heading.capacity)
reads_long p leaf t =
    let h = height_of t.heading.capacity in
    omega (arith, length-append (count_part (t.held + 1) p.stash) (each (4 * (h + 1)) (path_read t.held h leaf)), length-count_part (t.held + 1) p.stash, length-path_reads t.held h leaf)

-- ---- which are no reads
abbrev is_read : Access → Bool
is_read (Read q x) = true
is_read _ = false

abbrev NoReads : List Access → Type 0
NoReads [] = Unit {0}
NoReads (a ∷ more) = (is_read a ≡ false) × NoReads more

no_more : (xs ys : List Access) → NoReads xs → NoReads ys → NoReads (xs ++ ys)
no_more [] ys none more = more
no_more (x ∷ xs) ys none more = (none.0, no_more xs ys none.1 more)

each_none : (n : ℕ) (f : ℕ → List Access) → ((i : ℕ) → NoReads (f i)) → NoReads (each n f)
each_none zero f none = tt
each_none (suc n) f none = no_more (each n f) (f n) (each_none n f none) (none n)

writes_none : (p : Public) (leaf : ℕ) (t : Stored ℕ) → NoReads (writes_part p leaf t)
writes_none p leaf t =
    no_more (each (4 * (height_of t.heading.capacity + 1)) (path_write t.held (height_of t.heading.capacity) leaf)) (each p.stash (write_at (t.held + 1)))
    (each_none (4 * (height_of t.heading.capacity + 1)) (path_write t.held (height_of t.heading.capacity) leaf) (λ c. (refl, tt)))
    (each_none p.stash (write_at (t.held + 1)) (λ i. (refl, tt)))

-- a read among accesses is one of the first, where no read comes after them
module _ (r : Access) (rest : List Access) (reads : is_read r ≡ true) where
  none_there : (x w : List Access) → NoReads w → x ++ r ∷ rest ≡ w → ⊥
  none_there [] [] off e = absurd (cc e)
  none_there [] (c ∷ w) off e = let same : r ≡ c = cc e in absurd (cc (ap (λ (a : Access). is_read a) same, reads, off.0))
  none_there (d ∷ x) [] off e = absurd (cc e)
  none_there (d ∷ x) (c ∷ w) off e = none_there x w off.1 (cc e)

  within_first : (x a w : List Access) → NoReads w → x ++ r ∷ rest ≡ a ++ w → (more : List Access) × (x ++ r ∷ more ≡ a)
  within_first x [] w off e = absurd (none_there x w off e)
  within_first [] (c ∷ a) w off e = let same : r ≡ c = cc e in (a, ap (λ (b : Access). b ∷ a) same)
  within_first (d ∷ x) (c ∷ a) w off e =
      let same : d ≡ c = cc e in
      let later = within_first x a w off (cc e) in
      (later.0, λ j. same j ∷ later.1 j)

reads_first : (lie : FalseRead) (a w : List Access) → NoReads w → ReadsIn lie (a ++ w) → ReadsIn lie a
reads_first lie a w off reads =
    let first = within_first (Read lie.region lie.place) reads.rest refl lie.before a w off reads.is in
    record { rest = first.0; is = first.1 }

-- ---- a statement that accesses an index, by what is public
pub record OnIndex (p : Public) (sk : Skeleton) : Type 0 where
  pub name : List ℕ
  pub table : Stored ℕ
  pub found : stored_at name (stored_regions p.tables) ≡ Some table
  pub indexed : table.heading.shape ≡ Indexed
  pub height : height_at p sk ≡ height_of table.heading.capacity
  pub whole : (x : Seen) → whole_script p sk x ≡ index_part_of p x.leaf table

module _ (p : Public) (name : List ℕ) (indexed : has_index p name ≡ true) where
  -- the index of this name
  record IsThere : Type 0 where
    table : Stored ℕ
    found : stored_at name (stored_regions p.tables) ≡ Some table
    shaped : table.heading.shape ≡ Indexed
    height : height_of (capacity_at name (headings_of p.tables)) ≡ height_of table.heading.capacity
    whole : (leaf : Option ℕ) (f : Stored ℕ → List Access) → with_table name p (shape_script p leaf f) ≡ index_part_of p leaf table

  index_there : IsThere
  index_there = go (stored_at name (stored_regions p.tables)) refl
    where
      of_shape : (t : Stored ℕ) (shape : Shape) → is_indexed shape ≡ true → (leaf : Option ℕ) (f : Stored ℕ → List Access) → by_shape shape (f t) (index_part_of p leaf t) ≡ index_part_of p leaf t
      of_shape t Flat keyed leaf f = absurd (cc keyed)
      of_shape t Indexed keyed leaf f = refl

      is_shaped : (shape : Shape) → is_indexed shape ≡ true → shape ≡ Indexed
      is_shaped Flat keyed = absurd (cc keyed)
      is_shaped Indexed keyed = refl

      go : (o : Option (Stored ℕ)) → stored_at name (stored_regions p.tables) ≡ o → IsThere
      go None none = absurd (let no = no_region_index p name none in cc (indexed, no))
      go (Some t) found = record {
        table = t;
        found = found;
        shaped = is_shaped t.heading.shape (sym (region_index p name t found) ∙ indexed);
        height = ap height_of (ap (λ (o : Option Heading). option_map_or (λ (h : Heading). h.capacity) o 0) (heading_region p name ∙ ap (option_map (λ (u : Stored ℕ). u.heading)) found));
        whole = λ leaf f. ap (λ (o : Option (Stored ℕ)). option_map_or (shape_script p leaf f) o []) found ∙ of_shape t t.heading.shape (sym (region_index p name t found) ∙ indexed) leaf f;
      }

-- a statement accesses the index of its table
pub on_index : (p : Public) (sk : Skeleton) → is_access p sk ≡ true → OnIndex p sk
on_index p (InsertSkeleton table cs) keyed =
    let there = index_there p table keyed in
    record { name = table; table = there.table; found = there.found; indexed = there.shaped; height = there.height; whole = λ x. there.whole x.leaf (mutation_script p insert_part (behind_change p (InsertSkeleton table cs))) }
on_index p (UpdateSkeleton table cs) keyed =
    let there = index_there p table keyed in
    record { name = table; table = there.table; found = there.found; indexed = there.shaped; height = there.height; whole = λ x. there.whole x.leaf (mutation_script p rewrite_part (behind_change p (UpdateSkeleton table cs))) }
on_index p (DeleteSkeleton table) keyed =
    let there = index_there p table keyed in
    record { name = table; table = there.table; found = there.found; indexed = there.shaped; height = there.height; whole = λ x. there.whole x.leaf (mutation_script p rewrite_part (behind_change p (DeleteSkeleton table))) }
on_index p (Rows (OneTable name) cs) keyed =
    let there = index_there p name keyed in
    record { name = name; table = there.table; found = there.found; indexed = there.shaped; height = there.height; whole = λ x. there.whole x.leaf (flat_script p x) }
on_index p other keyed = absurd (cc keyed)

-- ---- a statement that meets a full stash
-- what it would ask, and of that what it asks: the reads
record FullParts (s : Session) (stmt : Stmt) : Type 0 where
  front : List Access
  rest : List Access
  whole : script s.public (skeleton stmt) (seen_now s stmt) ≡ front ++ rest
  part : script s.public (skeleton stmt) (served_full s stmt).seen ≡ front
  long : length front ≡ reads_of s stmt
  none : NoReads rest

-- of two first parts the shorter is one of the other
begins_less : (a b w : List Access) → Begins a w → Begins b w → length a ≤ length b → Begins a b
begins_less a b w one other few =
    let first : take (length a) b ≡ a =
    sym (take-append-le (length a) b other.rest few) ∙ ap (take (length a)) (sym other.joined ∙ one.joined) ∙ take_at a one.rest (length a) refl in
    record { rest = drop (length a) b; joined = sym (take-append-drop (length a) b) ∙ ap (λ (l : List Access). l ++ drop (length a) b) first }

behind_stash : (stash height n : ℕ) → n ≡ stash + 4 * (height + 1) → nat_lt stash n ≡ true
behind_stash stash height n is = grind (arith, nat_tests)

module _ (s : Session) (stmt : Stmt) (same : headings s.tables ≡ headings_of s.public.tables) where
  full_parts : is_full_now s stmt ≡ true → FullParts s stmt
  full_parts full = go (accessed_now s.public s.asked s.tables stmt) refl full
    where
      go : (o : Option Accessed) → accessed_now s.public s.asked s.tables stmt ≡ o → option_map_or (λ (a : Accessed). is_none (gone s.draws a)) o false ≡ true → FullParts s stmt
      go None is full = absurd (cc full)
      go (Some a) is full =
          let p = s.public in
          let sk = skeleton stmt in
          let n = reads_of s stmt in
          let both = started p s.asked s.tables stmt a is in
          let reads : n ≡ p.stash + path_blocks (height_of a.table.heading.capacity) =
          ap (λ (o : Option Accessed). option_map_or (λ (b : Accessed). p.stash + path_blocks (height_of b.table.heading.capacity)) o 0) both.1 in
          let keyed : is_access p sk ≡ true = access_public p s.tables same (is_late s.asked) (limits_of p) stmt both.0 ∙ ap is_some both.1 in
          let shown : seen_now s stmt ≡ seen_access s.draws a = access_shows_leaf s.draws p s.asked s.tables stmt a both.0 both.1 in
          let of = on_index p sk keyed in
          let leaf = leaf_gone s.draws a in
          let height : height_of of.table.heading.capacity ≡ height_of a.table.heading.capacity =
          sym of.height ∙ height_public p s.tables stmt a same (access_is s.tables stmt a both.1).found in
          let long : length (reads_part p leaf of.table) ≡ n = reads_long p leaf of.table ∙ ap (λ (h : ℕ). p.stash + path_blocks h) height ∙ sym reads in
          let over : nat_lt p.stash n ≡ true = behind_stash p.stash (height_of a.table.heading.capacity) n reads in
          let held : held_if (nat_lt p.stash n) (seen_now s stmt).leaf ≡ Some leaf = λ j. held_if (over j) (shown j).leaf in
          record {
            front = reads_part p leaf of.table;
            rest = writes_part p leaf of.table;
            whole = ap (script p sk) shown ∙ of.whole (seen_access s.draws a) ∙ parted p leaf of.table;
            part = ap (take n) (of.whole (cut_at false n p sk (seen_now s stmt)) ∙ ap (λ (o : Option ℕ). index_part_of p o of.table) held ∙ parted p leaf of.table)
                ∙ take_at (reads_part p leaf of.table) (writes_part p leaf of.table) n long;
            long = long;
            none = writes_none p leaf of.table;
          }

  asked_full : (full : is_full_now s stmt ≡ true) → met_script s stmt ≡ (full_parts full).front
  asked_full full = ap (script s.public (skeleton stmt)) (met_full s stmt full) ∙ (full_parts full).part

  -- a changed block that it reads is one that it reads until then
  pub met_reads : (lie : FalseRead) (before : List Access) → ReadsIn lie (before ++ script s.public (skeleton stmt) (seen_now s stmt)) → ReadsIn lie (before ++ met_script s stmt)
  met_reads lie before reads = go (is_full_now s stmt) refl
    where
      go : (b : Bool) → is_full_now s stmt ≡ b → ReadsIn lie (before ++ met_script s stmt)
      go false room = subst (λ (x : Seen). ReadsIn lie (before ++ script s.public (skeleton stmt) x)) (sym (met_room s stmt room)) reads
      go true full =
          let parts = full_parts full in
          subst (λ (l : List Access). ReadsIn lie (before ++ l)) (sym (asked_full full))
          (reads_first lie (before ++ parts.front) parts.rest parts.none
          (subst (λ (l : List Access). ReadsIn lie l) (ap (λ (l : List Access). before ++ l) parts.whole ∙ sym (append_assoc before parts.front parts.rest)) reads))

  -- a first part of what it asks, that is no longer than the reads of a full one, is one of what it asks until then
  pub met_begins : (part : List Access) → Begins part (script s.public (skeleton stmt) (seen_now s stmt)) → (is_full_now s stmt ≡ true → length part ≤ reads_of s stmt) → Begins part (met_script s stmt)
  met_begins part begins few = go (is_full_now s stmt) refl
    where
      go : (b : Bool) → is_full_now s stmt ≡ b → Begins part (met_script s stmt)
      go false room = subst (λ (x : Seen). Begins part (script s.public (skeleton stmt) x)) (sym (met_room s stmt room)) begins
      go true full =
          let parts = full_parts full in
          subst (λ (l : List Access). Begins part l) (sym (asked_full full))
          (begins_less part parts.front (script s.public (skeleton stmt) (seen_now s stmt)) begins (record { rest = parts.rest; joined = parts.whole })
          (omega (arith, few full, parts.long)))
