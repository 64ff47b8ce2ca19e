-- What a visitor that adds up rows has seen.
use Rattle.std.proofs.Common.{◌≡◌, ℕ, zero, suc, ◌+◌, ◌-◌, Bool, true, false, cond, List, [], ◌∷◌, length, filter, take, Option, Some, None, if◌then◌else◌, refl, ◌∙◌, ap}
use Rattle.std.proofs.lemmas.List.Sums.{fold-append}
use Rattle.ob_row.specs.declared.aggregate.Agg.{Agg}
use Rattle.ob_row.specs.Rows.{Row}
use Rattle.ob_row.specs.Slots.{Slots, rows}
use Rattle.ob_row.specs.Truth.{is_true}
use Rattle.ob_blocks.specs.Blocks.{scanned, up_to, none_of}
use Rattle.ob_group.specs.declared.aggregation.Adding.{Adding}
use Rattle.ob_group.specs.Running.{Sums, grown, grown_all, seen_slot, sums_with}
use Rattle.ob_group.proofs.Grown.{grown_by}

module _ (p : Row → Bool) (aggs : List Agg) where
  -- the rows that pass the test
  sums_rows : (ts : Sums) (slots : Slots) → sums_with p aggs ts slots ≡ grown_by aggs ts (filter p (rows slots))
  sums_rows ts [] = refl
  sums_rows ts (None ∷ slots) = sums_rows ts slots
  sums_rows ts (Some row ∷ slots) =
      elim (p row) as (λ (b : Bool). sums_with p aggs (if b then grown_all aggs row ts else ts) slots ≡ grown_by aggs ts (cond b (row ∷ filter p (rows slots)) (filter p (rows slots)))) [
        | true ↦ sums_rows (grown_all aggs row ts) slots
        | false ↦ sums_rows ts slots
      ]

  sums_none : (ts : Sums) (n : ℕ) → sums_with p aggs ts (none_of n) ≡ ts
  sums_none ts zero = refl
  sums_none ts (suc n) = sums_none ts n

  -- and no more after them
  pub sums_table : (m : ℕ) (ts : Sums) (slots : Slots) → sums_with p aggs ts (up_to m slots) ≡ grown_by aggs ts (filter p (rows slots))
  sums_table m ts slots =
      fold-append (seen_slot p aggs) ts slots (none_of (m - length slots))
      ∙ sums_none (sums_with p aggs ts slots) (m - length slots)
      ∙ sums_rows ts slots

-- only the totals of the aggregates grow
take_grown : (aggs : List Agg) (row : Row) (ts : Sums) → take (length aggs) (grown_all aggs row ts) ≡ grown_all aggs row (take (length aggs) ts)
take_grown [] row ts = refl
take_grown (agg ∷ aggs) row [] = refl
take_grown (agg ∷ aggs) row (t ∷ ts) = ap (λ (l : Sums). grown row agg t ∷ l) (take_grown aggs row ts)

take_seen : (p : Row → Bool) (aggs : List Agg) (ts : Sums) (slot : Option Row) → take (length aggs) (seen_slot p aggs ts slot) ≡ seen_slot p aggs (take (length aggs) ts) slot
take_seen p aggs ts None = refl
take_seen p aggs ts (Some row) =
    elim (p row) as (λ (b : Bool). take (length aggs) (if b then grown_all aggs row ts else ts) ≡ (if b then grown_all aggs row (take (length aggs) ts) else take (length aggs) ts)) [
      | true ↦ take_grown aggs row ts
      | false ↦ refl
    ]

pub take_sums : (p : Row → Bool) (aggs : List Agg) (ts : Sums) (slots : Slots) → take (length aggs) (sums_with p aggs ts slots) ≡ sums_with p aggs (take (length aggs) ts) slots
take_sums p aggs ts [] = refl
take_sums p aggs ts (slot ∷ slots) = take_sums p aggs (seen_slot p aggs ts slot) slots ∙ ap (λ (l : Sums). sums_with p aggs l slots) (take_seen p aggs ts slot)

abbrev pub after : Adding → ℕ → Option Row → Adding
after s i slot = record s { totals = seen_slot (is_true s.pred.now) s.aggs.now s.totals slot }

pub totals_after : (s : Adding) (i : ℕ) (slots : Slots) → (scanned after i s slots).totals ≡ sums_with (is_true s.pred.now) s.aggs.now s.totals slots
totals_after s i [] = refl
totals_after s i (slot ∷ slots) = totals_after (after s i slot) (i + 1) slots
