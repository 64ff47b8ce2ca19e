-- What is seen of an access, and the accesses that follow from it.
use Rattle.std.proofs.Common.{◌≡◌, inl, ◌+◌, ◌*◌, ◌<◌, ◌≤◌, ◌^◌, ℕ, Bool, true, false, nat_lt, List, [], ◌++◌, length, take, Option, Some, None, refl, sym, ◌∙◌, ap, subst, arith}
use Rattle.std.specs.Prelude.{◌&&◌, is_some, nat_le, not}
use Rattle.std.specs.Option.{option_map_or}
use Rattle.std.proofs.Math.Seq.{take-append_seam}
use Rattle.std.proofs.lemmas.Bool.Decides.{nat_tests}
use Rattle.std.proofs.lemmas.List.{take-append-le}
use Rattle.ob_base.specs.declared.access.Access.{Access}
use Rattle.ob_base.specs.declared.config.Public.{Public}
use Rattle.ob_base.specs.declared.schema.Heading.{Heading}
use Rattle.ob_base.specs.declared.schema.Shape.{Shape}
use Rattle.ob_base.specs.declared.seen.Seen.{Seen}
use Rattle.ob_base.specs.declared.seen.End.TheVariants.{Cut}
use Rattle.ob_base.specs.declared.skeleton.Source.{Source}
use Rattle.ob_base.specs.declared.skeleton.Source.TheVariants.{Table as OneTable, Join}
use Rattle.ob_base.specs.declared.skeleton.Skeleton.TheVariants.{Rows}
use Rattle.ob_base.specs.Accesses.{write_at}
use Rattle.ob_base.specs.Indexes.{by_shape, height_of}
use Rattle.ob_base.specs.Lists.{each}
use Rattle.ob_base.specs.Stored.{Stored, headings_of}
use Rattle.ob_mean.specs.Keyed.{keyed_name, one_table}
use Rattle.ob_mean.specs.Lawful.{Lawful, capacity_at, height_at, is_counted, selects_rows}
use Rattle.ob_mean.specs.Replay.{count_end, done_of, has_index, held_if, is_access, walk_end}
use Rattle.ob_mean.specs.Verdict.{ended}
use Rattle.ob_oram.specs.declared.index.Index.{Index}
use Rattle.ob_oram.specs.Scripts.{access_script}
use Rattle.ob_oram.proofs.Scripting.{scripts_join}
use Rattle.ob_script.specs.Parts.{access_part, count_part, insert_part, path_read, path_write, rewrite_part}
use Rattle.ob_script.specs.Script.{behind_change, flat_script, index_part_of, mutation_script, shape_script, source_script, whole_script, with_table}
use Rattle.ob_script.proofs.Lengths.{length-count_part}
use Rattle.ob_sql.specs.declared.stmt.Stmt.{Stmt}
use Rattle.ob_sql.specs.declared.stmt.Stmt.TheVariants.{Create, Insert, Update, Delete, Drop as DropTable, SelectRows as RowsStmt, SelectTotals as TotalsStmt}
use Rattle.ob_sql.specs.Skeleton.{skeleton}
use Rattle.ob_verdict.specs.Outcomes.{refusal_now}
use Rattle.ob_keyed.specs.Asking.{IsKeyed}
use Rattle.ob_keyed.specs.Seeing.{CutsAlike, ShowsScript, seen_cut, seen_whole}
use Rattle.ob_keyed.proofs.Asked.{heading_is, index_is}
use Rattle.ob_keyed.proofs.Joining.{height_is}

and_no : (b : Bool) → (b && false) ≡ false
and_no true = refl
and_no false = refl

module _ (p : Public) (m : ℕ) (stmt : Stmt) (index : Index) (on : IsKeyed p m stmt index) where
  -- ---- its script
  shape_is : (f : Stored ℕ → List Access) (leaf : Option ℕ) → with_table on.name p (shape_script p leaf f) ≡ index_part_of p leaf on.table
  shape_is f leaf =
      ap (λ (o : Option (Stored ℕ)). option_map_or (shape_script p leaf f) o []) on.found
      ∙ ap (λ (s : Shape). by_shape s (f on.table) (index_part_of p leaf on.table)) on.shaped

  named : (name : List ℕ) (f : Stored ℕ → List Access) (leaf : Option ℕ) → name ≡ on.name → with_table name p (shape_script p leaf f) ≡ index_part_of p leaf on.table
  named name f leaf same = ap (λ (n : List ℕ). with_table n p (shape_script p leaf f)) same ∙ shape_is f leaf

  script_by : (s : Stmt) (seen : Seen) → keyed_name s ≡ Some on.name → whole_script p (skeleton s) seen ≡ index_part_of p seen.leaf on.table
  script_by (Insert table columns values) seen keyed =
      named table (mutation_script p insert_part (behind_change p (skeleton (Insert table columns values)))) seen.leaf (cc keyed)
  script_by (Update table sets cond) seen keyed =
      named table (mutation_script p rewrite_part (behind_change p (skeleton (Update table sets cond)))) seen.leaf (cc keyed)
  script_by (Delete table cond) seen keyed =
      named table (mutation_script p rewrite_part (behind_change p (skeleton (Delete table cond)))) seen.leaf (cc keyed)
  script_by (RowsStmt q) seen keyed = of_source q.source keyed
    where
      of_source : (source : Source) → one_table source ≡ Some on.name → source_script p seen source ≡ index_part_of p seen.leaf on.table
      of_source (OneTable name) is = named name (flat_script p seen) seen.leaf (cc is)
      of_source (Join a b left equals) is = absurd (cc is)
  script_by other seen keyed = absurd (cc keyed)

  pub script_is : (seen : Seen) → whole_script p (skeleton stmt) seen ≡ index_part_of p seen.leaf on.table
  script_is seen = script_by stmt seen on.keyed

  -- ---- what is public of it
  access_by : (s : Stmt) → keyed_name s ≡ Some on.name → is_access p (skeleton s) ≡ true
  access_by (Insert table columns values) keyed = let same : table ≡ on.name = cc keyed in ap (has_index p) same ∙ index_is p m stmt index on
  access_by (Update table sets cond) keyed = let same : table ≡ on.name = cc keyed in ap (has_index p) same ∙ index_is p m stmt index on
  access_by (Delete table cond) keyed = let same : table ≡ on.name = cc keyed in ap (has_index p) same ∙ index_is p m stmt index on
  access_by (RowsStmt q) keyed = of_source q.source keyed
    where
      of_source : (source : Source) → one_table source ≡ Some on.name → is_access p (Rows source q.list) ≡ true
      of_source (OneTable name) is = let same : name ≡ on.name = cc is in ap (has_index p) same ∙ index_is p m stmt index on
      of_source (Join a b left equals) is = absurd (cc is)
  access_by other keyed = absurd (cc keyed)

  capacity_is : (name : List ℕ) → name ≡ on.name → height_of (capacity_at name (headings_of p.tables)) ≡ index.height
  capacity_is name same =
      ap (λ (n : List ℕ). height_of (capacity_at n (headings_of p.tables))) same
      ∙ ap (λ (o : Option Heading). height_of (option_map_or (λ (h : Heading). h.capacity) o 0)) (heading_is p m stmt index on)
      ∙ sym (height_is on.table.heading index on.is)

  height_by : (s : Stmt) → keyed_name s ≡ Some on.name → height_at p (skeleton s) ≡ index.height
  height_by (Insert table columns values) keyed = capacity_is table (cc keyed)
  height_by (Update table sets cond) keyed = capacity_is table (cc keyed)
  height_by (Delete table cond) keyed = capacity_is table (cc keyed)
  height_by (RowsStmt q) keyed = of_source q.source keyed
    where
      of_source : (source : Source) → one_table source ≡ Some on.name → height_at p (Rows source q.list) ≡ index.height
      of_source (OneTable name) is = capacity_is name (cc is)
      of_source (Join a b left equals) is = absurd (cc is)
  height_by other keyed = absurd (cc keyed)

  pub height_at_is : height_at p (skeleton stmt) ≡ index.height
  height_at_is = height_by stmt on.keyed

  pub accesses : is_access p (skeleton stmt) ≡ true
  accesses = access_by stmt on.keyed

  uncounted : is_counted p stmt ≡ false
  uncounted = ap (λ (b : Bool). selects_rows stmt && not b) accesses ∙ and_no (selects_rows stmt)

  not_early : is_some (refusal_now p m stmt) ≡ true → ⊥
  not_early some = let none = ap is_some on.accepted in absurd (cc (some, none))

  -- ---- for a leaf of its tree
  module _ (leaf : ℕ) (below : leaf < 2 ^ index.height) where
    low : leaf < 2 ^ height_at p (skeleton stmt)
    low = subst (λ (h : ℕ). leaf < 2 ^ h) (sym (height_by stmt on.keyed)) below

    part_is : index_part_of p (Some leaf) on.table ≡ access_script index leaf
    part_is =
        (λ j. access_part (sym on.tree j) (sym on.stash j) (sym on.slots j) (sym (height_is on.table.heading index on.is) j) leaf)
        ∙ sym (scripts_join index leaf below)

    -- after the reads of its stash
    abbrev behind : List Access
    behind =
        each (4 * (height_of on.table.heading.capacity + 1)) (path_read on.table.held (height_of on.table.heading.capacity) leaf)
        ++ (each (4 * (height_of on.table.heading.capacity + 1)) (path_write on.table.held (height_of on.table.heading.capacity) leaf)
        ++ each p.stash (write_at (on.table.held + 1)))

    few_stash : (n : ℕ) → nat_lt p.stash n ≡ false → n ≤ length (count_part (on.table.held + 1) p.stash)
    few_stash n is =
        let few : n ≤ p.stash = grind (arith, nat_tests) in
        subst (λ (k : ℕ). n ≤ k) (sym (length-count_part (on.table.held + 1) p.stash)) few

    stash_first : (n : ℕ) → nat_lt p.stash n ≡ false → take n (index_part_of p None on.table) ≡ take n (index_part_of p (Some leaf) on.table)
    stash_first n is = sym (take-append-le n (count_part (on.table.held + 1) p.stash) behind (few_stash n is))

    cut_is : (done rest : List Access) → done ++ rest ≡ access_script index leaf → (b : Bool) → nat_lt p.stash (length done) ≡ b
        → take (length done) (index_part_of p (held_if b (Some leaf)) on.table) ≡ done
    cut_is done rest split true is = ap (λ (xs : List Access). take (length done) xs) (part_is ∙ sym split) ∙ take-append_seam done rest
    cut_is done rest split false is =
        stash_first (length done) is ∙ ap (λ (xs : List Access). take (length done) xs) (part_is ∙ sym split) ∙ take-append_seam done rest

    long_is : (n : ℕ) → n ≤ length (access_script index leaf) → (b : Bool) → nat_lt p.stash n ≡ b → n ≤ length (index_part_of p (held_if b (Some leaf)) on.table)
    long_is n long true is = subst (λ (xs : List Access). n ≤ length xs) (sym part_is) long
    long_is n long false is = few_stash n is

    lawful_by : (n : ℕ) → n ≤ length (access_script index leaf) → (b : Bool) → nat_lt p.stash n ≡ b → Lawful p m stmt (record (ended (Cut n)) { leaf = held_if b (Some leaf) })
    lawful_by n long true is =
        let more : p.stash + 1 ≤ n = grind (arith, nat_tests) in
        record {
          static = (λ e. absurd (cc e), λ some. absurd (not_early some));
          holds = tt;
          leaf = (accesses, low, more);
          cut = subst (λ (xs : List Access). n ≤ length xs) (sym (script_is (record (ended (Cut n)) { leaf = Some leaf }))) (long_is n long true is);
        }
    lawful_by n long false is =
        let few : n ≤ p.stash = grind (arith, nat_tests) in
        record {
          static = (λ e. absurd (cc e), λ some. absurd (not_early some));
          holds = tt;
          leaf = λ yes. few;
          cut = subst (λ (xs : List Access). n ≤ length xs) (sym (script_is (ended (Cut n)))) (long_is n long false is);
        }

    pub shows_script : ShowsScript p m stmt index leaf
    shows_script = record {
      whole = script_is (seen_whole leaf) ∙ part_is;
      cut = λ done rest split.
          ap (λ (xs : List Access). take (length done) xs) (script_is (seen_cut p.stash leaf (length done)))
          ∙ cut_is done rest split (nat_lt p.stash (length done)) refl;
      lawful = record {
        static = (λ e. absurd (cc e), λ some. absurd (not_early some));
        holds = inl uncounted;
        leaf = (accesses, low, tt);
        cut = tt;
      };
      lawful_cut = λ n long. lawful_by n long (nat_lt p.stash n) refl;
    }

held_none : {A : Type 0} (b : Bool) → held_if {A = A} b None ≡ None
held_none true = refl
held_none false = refl

pub cuts_alike : CutsAlike
cuts_alike failed n p s leaf = λ j. record {
  k = held_none (nat_le (count_end p s) (done_of failed n)) j;
  plan = held_none (nat_le (count_end p s) (done_of failed n)) j;
  then = held_none (nat_le (walk_end p s (seen_whole leaf)) (done_of failed n)) j;
  leaf = held_if (nat_lt p.stash n) (Some leaf);
  end = Cut n;
}
