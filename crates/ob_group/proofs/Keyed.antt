-- Groups in the buckets of their keys.
use Rattle.std.proofs.Common.{◌≡◌, ◌<◌, inl, inr, ℕ, true, false, List, [], length, take, slice_set, Option, Some, sym, ◌∙◌, ap, subst, arith, get_or-set_same, get_or-set_other}
use Rattle.std.specs.Prelude.{bytes_eq, unwrap_or}
use Rattle.std.specs.Cmp.Lexicographic.{bytes_decides}
use Rattle.std.proofs.lemmas.Bool.{cases_eq}
use Rattle.ob_base.specs.declared.schema.Kind.{Kind}
use Rattle.ob_base.specs.Schemas.{kind_width}
use Rattle.ob_order.specs.Buckets.{BucketsState, AreBucketed, NoneHas}
use Rattle.ob_order.proofs.BucketLemmas.{bucketed_where_same}
use Rattle.ob_row.specs.declared.cell.Cell.{Cell}
use Rattle.ob_row.specs.Fields.{HoldsCell}
use Rattle.ob_row.specs.Rows.{cell_eq}
use Rattle.ob_row.specs.Spelling.{cell_bytes}
use Rattle.ob_row.proofs.PlaceLemmas.{same_fields, is_false}
use Rattle.ob_row.proofs.SpellingLemmas.{length-cell_bytes}
use Rattle.ob_vault.specs.Rows.{row_at}
use Rattle.ob_group.specs.Grouping.{Group}
use Rattle.ob_group.specs.Running.{Sums}
use Rattle.ob_group.specs.Held.{HoldsKey, HoldsGroup}
use Rattle.ob_group.proofs.GroupBytes.{key_field, holds_key}

-- ---- a group has a key where its row begins with the key's field
module _ (kind : Kind) (x y : Cell) (field row : List ℕ) (own : HoldsKey kind x row) (held : HoldsCell kind y field) where
  size : length field ≡ kind_width kind
  size = ap length held.is ∙ length-cell_bytes kind y held.fits

  same_key : bytes_eq (take (kind_width kind) row) field ≡ cell_eq x y
  same_key = same_fields kind x y (take (kind_width kind) row) field (key_field kind x row own) held

  pub is_on : take (length field) row ≡ field → cell_eq x y ≡ true
  is_on same = sym same_key ∙ (bytes_decides (take (kind_width kind) row) field).1 (ap (λ (n : ℕ). take n row) (sym size) ∙ same)

  pub is_off : (take (length field) row ≡ field → ⊥) → cell_eq x y ≡ false
  is_off not =
      is_false (cell_eq x y) (λ same. not (ap (λ (n : ℕ). take n row) size ∙ (bytes_decides (take (kind_width kind) row) field).0 (same_key ∙ same)))

-- ---- a group that has more rows keeps its key's bytes
pub key_stays : (kind : Kind) (m k count : ℕ) (g h : Group) (old new : List ℕ) → HoldsGroup kind m count g old → HoldsGroup kind k count h new → g.0 ≡ h.0 → take (kind_width kind) new ≡ take (kind_width kind) old
key_stays kind m k count g h old new first second same =
    let keys : first.key ≡ second.key = ap (λ (o : Option Cell). unwrap_or o first.key) (sym first.same ∙ same ∙ second.same) in
    (key_field kind second.key new (holds_key kind k count h new second)).is ∙ ap (cell_bytes kind) (sym keys)
    ∙ sym (key_field kind first.key old (holds_key kind m count g old first)).is

-- ---- groups in the buckets of their keys
module _ (width n : ℕ) (rows : List (List ℕ)) (buckets : BucketsState) (are : AreBucketed 0 width n rows buckets) where
  -- another row than theirs is written
  pub bucketed_beside : (bytes : List ℕ) → AreBucketed 0 width n (slice_set rows n bytes) buckets
  bucketed_beside bytes =
      bucketed_where_same 0 width n rows (slice_set rows n bytes) buckets are
      (λ p below. ap (take width) (get_or-set_other rows n p bytes [] (λ same. absurd (omega (arith, below, same)))))

  -- the key of the row that is written stays
  pub bucketed_same : (i : ℕ) (bytes : List ℕ) → i < length rows → take width bytes ≡ take width (row_at rows i) → AreBucketed 0 width n (slice_set rows i bytes) buckets
  bucketed_same i bytes inside same =
      bucketed_where_same 0 width n rows (slice_set rows i bytes) buckets are
      (λ p below. elim (cases_eq p i) [
        | inl here ↦
            subst (λ (q : ℕ). take width (row_at (slice_set rows i bytes) q) ≡ take width (row_at rows q)) (sym here)
            (ap (take width) (get_or-set_same rows i bytes [] inside) ∙ same)
        | inr other ↦ ap (take width) (get_or-set_other rows i p bytes [] other)
      ])

-- none has a field beside the row that is written
pub none_beside : (field : List ℕ) (n : ℕ) (rows : List (List ℕ)) (bytes : List ℕ) → NoneHas 0 field n rows → NoneHas 0 field n (slice_set rows n bytes)
none_beside field n rows bytes none = λ p below has.
    none p below (sym (ap (take (length field)) (get_or-set_other rows n p bytes [] (λ same. absurd (omega (arith, below, same))))) ∙ has)

-- a new group's row begins with its key's field
pub begins_with : (kind : Kind) (m count : ℕ) (x : Cell) (totals : Sums) (field row : List ℕ) → HoldsGroup kind m count (Some x, totals) row → HoldsCell kind x field → take (length field) row ≡ field
begins_with kind m count x totals field row group held =
    let same : x ≡ group.key = ap (λ (o : Option Cell). unwrap_or o x) group.same in
    let own = subst (λ (key : Cell). HoldsKey kind key row) (sym same) (holds_key kind m count (Some x, totals) row group) in
    ap (λ (w : ℕ). take w row) (size kind x x field row own held) ∙ (key_field kind x row own).is ∙ sym held.is
