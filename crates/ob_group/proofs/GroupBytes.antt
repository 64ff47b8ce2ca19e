-- The key of a group and its totals, in the bytes that hold them.
use Rattle.std.proofs.Common.{◌≡◌, ◌≤◌, ◌*◌, ℕ, List, [], ◌∷◌, ◌++◌, length, take, drop, Option, Some, refl, sym, ◌∙◌, subst, ap, arith, length-append}
use Rattle.std.specs.Prelude.{IfSome}
use Rattle.std.proofs.lemmas.List.{take_at, drop_at, length-map}
use Rattle.ob_base.specs.declared.schema.Kind.{Kind}
use Rattle.ob_base.specs.Schemas.{kind_width}
use Rattle.ob_row.specs.declared.aggregate.Item.{Item}
use Rattle.ob_row.specs.declared.cell.Cell.{Cell}
use Rattle.ob_row.specs.Spelling.{cell_bytes}
use Rattle.ob_row.specs.Fields.{HoldsCell}
use Rattle.ob_row.proofs.SpellingLemmas.{length-cell_bytes, cell_bytes-same}
use Rattle.ob_group.specs.Running.{Sums, start, starts}
use Rattle.ob_group.specs.Grouping.{Group, agg_of, aggs_of}
use Rattle.ob_group.specs.Held.{total_bytes, totals_bytes, HoldTotals, HoldsKey, HoldsGroup}
use Rattle.ob_group.proofs.Bounds.{starts_up_to, up_to_more}

length-totals : (ts : Sums) → length (totals_bytes ts) ≡ 16 * length ts
length-totals [] = refl
length-totals (t ∷ ts) = omega (arith, length-append (total_bytes t) (totals_bytes ts), length-totals ts)

length-starts : (items : List Item) → length (starts (aggs_of items)) ≡ length items
length-starts items = length-map (aggs_of items) start ∙ length-map items agg_of

module _ (kind : Kind) (x : Cell) (bytes : List ℕ) (held : HoldsKey kind x bytes) where
  key_size : length (cell_bytes kind x) ≡ kind_width kind
  key_size = length-cell_bytes kind x held.fits

  pub key_enough : kind_width kind ≤ length bytes
  key_enough = omega (arith, ap (λ (l : List ℕ). length l) held.is, length-append (cell_bytes kind x) held.behind, key_size)

  -- the key's field
  pub key_field : HoldsCell kind x (take (kind_width kind) bytes)
  key_field = record { fits = held.fits; is = ap (take (kind_width kind)) held.is ∙ take_at (cell_bytes kind x) held.behind (kind_width kind) key_size }

  -- the cell that was found there is the key
  pub found_key : (y : Cell) (found : Option Cell) (field : List ℕ) → field ≡ take (kind_width kind) bytes → IfSome found (λ (z : Cell). HoldsCell kind z field) → found ≡ Some y → y ≡ x
  found_key y found field front some is =
      let own : HoldsCell kind y field = subst (λ (o : Option Cell). IfSome o (λ (z : Cell). HoldsCell kind z field)) is some in
      cell_bytes-same kind y x own.fits held.fits (sym own.is ∙ front ∙ key_field.is)

module _ (kind : Kind) (m count : ℕ) (g : Group) (bytes : List ℕ) (held : HoldsGroup kind m count g bytes) where
  pub holds_key : HoldsKey kind held.key bytes
  holds_key = record { fits = held.fits; behind = totals_bytes g.1 ++ held.behind; is = held.is }

  rest_is : drop (kind_width kind) bytes ≡ totals_bytes g.1 ++ held.behind
  rest_is = ap (drop (kind_width kind)) held.is ∙ drop_at (cell_bytes kind held.key) (totals_bytes g.1 ++ held.behind) (kind_width kind) (length-cell_bytes kind held.key held.fits)

  totals_size : length (totals_bytes g.1) ≡ 16 * count
  totals_size = length-totals g.1 ∙ ap (λ (n : ℕ). 16 * n) held.size

  pub rest_enough : 16 * count ≤ length (drop (kind_width kind) bytes)
  rest_enough = omega (arith, ap (λ (l : List ℕ). length l) rest_is, length-append (totals_bytes g.1) held.behind, totals_size)

  pub totals_field : HoldTotals m count g.1 (take (16 * count) (drop (kind_width kind) bytes))
  totals_field = record { size = held.size; few = held.few; is = ap (take (16 * count)) rest_is ∙ take_at (totals_bytes g.1) held.behind (16 * count) totals_size }

  -- other totals are put in their place
  pub changed_totals : (n : ℕ) (ts : Sums) (front fields behind : List ℕ) → front ≡ take (kind_width kind) bytes → HoldTotals n count ts fields → HoldsGroup kind n count (g.0, ts) (front ++ (fields ++ behind))
  changed_totals n ts front fields behind same totals = record {
    key = held.key;
    same = held.same;
    fits = held.fits;
    size = totals.size;
    few = totals.few;
    behind = behind;
    is = ap (λ (l : List ℕ). l ++ (fields ++ behind)) (same ∙ (key_field kind held.key bytes holds_key).is)
        ∙ ap (λ (l : List ℕ). cell_bytes kind held.key ++ (l ++ behind)) totals.is;
  }

  -- it holds them for more rows, too
  pub holds_more : (n : ℕ) → m ≤ n → HoldsGroup kind n count g bytes
  holds_more n more = record { key = held.key; same = held.same; fits = held.fits; size = held.size; few = up_to_more m n g.1 more held.few; behind = held.behind; is = held.is }

-- a group of no rows, whose key has this field
pub started : (kind : Kind) (x : Cell) (items : List Item) (front fields behind : List ℕ) → HoldsCell kind x front → fields ≡ totals_bytes (starts (aggs_of items))
    → HoldsGroup kind 0 (length items) (Some x, starts (aggs_of items)) (front ++ (fields ++ behind))
started kind x items front fields behind key totals = record {
  key = x;
  same = refl;
  fits = key.fits;
  size = length-starts items;
  few = starts_up_to (aggs_of items);
  behind = behind;
  is = ap (λ (l : List ℕ). l ++ (fields ++ behind)) key.is ∙ ap (λ (l : List ℕ). cell_bytes kind x ++ (l ++ behind)) totals;
}

-- a row that was written whole
pub written : (old new : List ℕ) → length new ≡ length old → take (length old) (new ++ drop (length new) old) ≡ new
written old new same = take_at new (drop (length new) old) (length old) same
