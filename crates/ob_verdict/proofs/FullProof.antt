-- What is seen of a statement that met a full stash is lawful.
use Rattle.std.proofs.Common.{◌≡◌, ℕ, ◌+◌, ◌*◌, true, false, List, [], length, Option, Some, None, sym, ◌∙◌, ap, refl, arith}
use Rattle.std.specs.Prelude.{is_some}
use Rattle.std.specs.Option.{is_none, option_map, option_map_or}
use Rattle.ob_base.specs.declared.access.Access.{Access}
use Rattle.ob_base.specs.declared.config.Public.{Public}
use Rattle.ob_base.specs.declared.schema.Heading.{Heading}
use Rattle.ob_base.specs.declared.schema.Shape.{Shape}
use Rattle.ob_base.specs.declared.schema.Shape.TheVariants.{Flat, Indexed}
use Rattle.ob_base.specs.declared.seen.End.TheVariants.{Whole}
use Rattle.ob_base.specs.declared.seen.Seen.{Seen}
use Rattle.ob_base.specs.declared.skeleton.Skeleton.{Skeleton}
use Rattle.ob_base.specs.declared.skeleton.Skeleton.TheVariants.{Create as CreateSkeleton, Insert as InsertSkeleton, Update as UpdateSkeleton, Delete as DeleteSkeleton, Drop as DropSkeleton, Rows, Groups}
use Rattle.ob_base.specs.declared.skeleton.Source.TheVariants.{Table as OneTable, Join}
use Rattle.ob_base.specs.Indexes.{by_shape, height_of, path_blocks}
use Rattle.ob_base.specs.Stored.{Stored, headings_of, stored_at, stored_regions}
use Rattle.ob_script.specs.Parts.{insert_part, rewrite_part}
use Rattle.ob_script.specs.Script.{behind_change, flat_script, index_part_of, mutation_script, shape_script, whole_script, with_table}
use Rattle.ob_script.proofs.Numbers.{length-access_part}
use Rattle.ob_sql.specs.Skeleton.{skeleton}
use Rattle.ob_mean.specs.Lawful.{Lawful, capacity_at, height_at}
use Rattle.ob_mean.specs.Refusals.{is_indexed, limits_of}
use Rattle.ob_mean.specs.Replay.{has_index, is_access, reads_of, served_full}
use Rattle.ob_mean.specs.Verdict.{Accessed, accessed_now, ended, gone, is_late, leaf_gone, seen, seen_access}
use Rattle.ob_mean.proofs.VerdictLemmas.{access_is, started}
use Rattle.ob_verdict.specs.Full.{FullIsLawful}
use Rattle.ob_verdict.proofs.AccessedProof.{access_public}
use Rattle.ob_verdict.proofs.LawfulProof.{cut_is_lawful, heading_region, height_public, no_region_index, region_index}
use Rattle.ob_verdict.proofs.SeenProof.{access_shows_leaf}

-- the accesses of an access for this leaf
module _ (p : Public) (name : List ℕ) (f : Stored ℕ → List Access) (leaf : ℕ) (indexed : has_index p name ≡ true) where
  abbrev asked : ℕ → ℕ
  asked height = 2 * p.stash + 8 * (height + 1)

  of_shape : (t : Stored ℕ) (shape : Shape) → is_indexed shape ≡ true → length (by_shape shape (f t) (index_part_of p (Some leaf) t)) ≡ asked (height_of t.heading.capacity)
  of_shape t Flat keyed = absurd (cc keyed)
  of_shape t Indexed keyed = length-access_part t.held (t.held + 1) p.stash (height_of t.heading.capacity) leaf

  height_is : (t : Stored ℕ) → stored_at name (stored_regions p.tables) ≡ Some t → height_of (capacity_at name (headings_of p.tables)) ≡ height_of t.heading.capacity
  height_is t found =
      ap height_of (ap (λ (o : Option Heading). option_map_or (λ (h : Heading). h.capacity) o 0) (heading_region p name ∙ ap (option_map (λ (u : Stored ℕ). u.heading)) found))

  access_of : length (with_table name p (shape_script p (Some leaf) f)) ≡ asked (height_of (capacity_at name (headings_of p.tables)))
  access_of = go (stored_at name (stored_regions p.tables)) refl
    where
      go : (o : Option (Stored ℕ)) → stored_at name (stored_regions p.tables) ≡ o → length (option_map_or (shape_script p (Some leaf) f) o []) ≡ asked (height_of (capacity_at name (headings_of p.tables)))
      go None none = absurd (let no = no_region_index p name none in cc (indexed, no))
      go (Some t) found = of_shape t t.heading.shape (sym (region_index p name t found) ∙ indexed) ∙ ap asked (sym (height_is t found))

access_asks : (p : Public) (s : Skeleton) (leaf : ℕ) → is_access p s ≡ true → length (whole_script p s (record (ended Whole) { leaf = Some leaf })) ≡ 2 * p.stash + 8 * (height_at p s + 1)
access_asks p (InsertSkeleton table cs) leaf keyed = access_of p table (mutation_script p insert_part (behind_change p (InsertSkeleton table cs))) leaf keyed
access_asks p (UpdateSkeleton table cs) leaf keyed = access_of p table (mutation_script p rewrite_part (behind_change p (UpdateSkeleton table cs))) leaf keyed
access_asks p (DeleteSkeleton table) leaf keyed = access_of p table (mutation_script p rewrite_part (behind_change p (DeleteSkeleton table))) leaf keyed
access_asks p (Rows (OneTable name) cs) leaf keyed = access_of p name (flat_script p (record (ended Whole) { leaf = Some leaf })) leaf keyed
access_asks p other leaf keyed = absurd (cc keyed)

pub full_is_lawful : FullIsLawful
full_is_lawful s stmt some same place full = go (accessed_now s.public s.asked s.tables stmt) refl full
  where
    go : (o : Option Accessed) → accessed_now s.public s.asked s.tables stmt ≡ o → option_map_or (λ a. is_none (gone s.draws a)) o false ≡ true → Lawful s.public s.asked stmt (served_full s stmt).seen
    go None is full = absurd (cc full)
    go (Some a) is full =
        let both = started s.public s.asked s.tables stmt a is in
        let reads : reads_of s stmt ≡ s.public.stash + path_blocks (height_of a.table.heading.capacity) =
        ap (λ (o : Option Accessed). option_map_or (λ (b : Accessed). s.public.stash + path_blocks (height_of b.table.heading.capacity)) o 0) both.1 in
        let keyed : is_access s.public (skeleton stmt) ≡ true = access_public s.public s.tables same (is_late s.asked) (limits_of s.public) stmt both.0 ∙ ap is_some both.1 in
        let shown : seen s.draws s.public s.asked s.tables stmt ≡ seen_access s.draws a = access_shows_leaf s.draws s.public s.asked s.tables stmt a both.0 both.1 in
        let asks = ap (λ (x : Seen). length (whole_script s.public (skeleton stmt) x)) shown ∙ access_asks s.public (skeleton stmt) (leaf_gone s.draws a) keyed in
        let height = height_public s.public s.tables stmt a same (access_is s.tables stmt a both.1).found in
        cut_is_lawful s.draws s.public s.asked s.tables stmt false (reads_of s stmt) some same place both.0 (omega (arith, reads, asks, height))
