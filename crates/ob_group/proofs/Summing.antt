-- The totals of a table that is read block by block, while other calls are made between its own.
use Rattle.std.proofs.Common.{◌≡◌, ◌+◌, ◌*◌, ℕ, Bool, List, None, Ok, length, filter, map, take, sym, ◌∙◌, ap, subst, arith}
use Rattle.std.proofs.lemmas.List.{take_all}
use Rattle.std.proofs.lemmas.List.Sums.{fold-append}
use Rattle.ob_store.proofs.Steps.{none_before}
use Rattle.ob_vault.specs.State.{World}
use Rattle.ob_vault.specs.Calls.{Lasts, none}
use Rattle.ob_row.specs.declared.aggregate.Agg.{Agg}
use Rattle.ob_row.specs.Rows.{Row}
use Rattle.ob_row.specs.Slots.{Slots, rows as rows_in}
use Rattle.ob_row.specs.Totals.{totals}
use Rattle.ob_blocks.specs.Blocks.{block_at, up_to}
use Rattle.ob_blocks.proofs.Blocks.{take_blocks}
use Rattle.ob_flat.specs.declared.flat.Flat.{Flat}
use Rattle.ob_flat.specs.Flats.{Represents, whole_blocks}
use Rattle.ob_flat.specs.Scans.{MayScan}
use Rattle.ob_flat.specs.Words.{blocks_of}
use Rattle.ob_flat.proofs.Scanning.{may_scan_lasts}
use Rattle.ob_flat.proofs.Tables.{represents_before, whole_size}
use Rattle.ob_group.specs.Running.{Sums, AreUpTo, starts, seen_slot, sums_with, sums_of, sums_shown, total_shown}
use Rattle.ob_group.specs.Steps.{AggregatesAt, AreSummed}
use Rattle.ob_group.proofs.Gathering.{none_taken, size_most}
use Rattle.ob_group.proofs.Seen.{sums_table, take_sums}
use Rattle.ob_group.proofs.Grown.{totals_are}

module _ (p : Row → Bool) (aggs : List Agg) where
  -- those of all slots, with empty ones after them, are the aggregates
  pub sums_whole : (m : ℕ) (slots : Slots) → map total_shown (sums_of p aggs (up_to m slots)) ≡ totals aggs (filter p (rows_in slots))
  sums_whole m slots = ap (map total_shown) (sums_table p aggs m (starts aggs) slots) ∙ totals_are aggs (filter p (rows_in slots))

module _ (pack : ℕ) (flat : Flat) (p : Row → Bool) (aggs : List Agg) where
  abbrev whole : Slots → Slots
  whole slots = whole_blocks pack flat.capacity slots

  -- before the first block
  pub summed_none : (sums : Sums) (w : World) → MayScan pack flat w → AreUpTo 0 sums → take (length aggs) sums ≡ starts aggs → AreSummed pack flat p aggs 0 sums w
  summed_none sums w table few is =
      let zero : 0 ≡ 0 * pack = omega arith in
      record {
        table = table;
        few = subst (λ (m : ℕ). AreUpTo m sums) zero few;
        told = λ slots held nolie. is ∙ ap (sums_of p aggs) (none_taken pack (whole slots));
      }

  module _ (done : ℕ) (sums : Sums) (w : World) (is : AreSummed pack flat p aggs done sums w) where
    -- after other calls: what represents the table then did so before, and no lie then was none before
    pub summed_stays : (v : World) → MayScan pack flat v → (v.store.lie ≡ None → w.store.lie ≡ None) → ((slots : Slots) → Represents pack flat slots v → Represents pack flat slots w) → AreSummed pack flat p aggs done sums v
    summed_stays v table honest before = record { table = table; few = is.few; told = λ slots held nolie. is.told slots (before slots held) (honest nolie) }

    pub summed_lasts : (some : ℕ → Type 0) (v : World) → Lasts some w v → (some flat.region → ⊥) → AreSummed pack flat p aggs done sums v
    summed_lasts some v lasts off = summed_stays v (may_scan_lasts pack flat some w v lasts off is.table) (none_before _ _ lasts.later) (represents_before pack flat some w v lasts off)

    -- all blocks: the row of the answer
    pub summed_shown : done ≡ blocks_of pack flat → (slots : Slots) → Represents pack flat slots w → w.store.lie ≡ None → sums_shown aggs sums ≡ totals aggs (filter p (rows_in slots))
    summed_shown all slots held nolie =
        let end : done * pack ≡ blocks_of pack flat * pack = ap (λ (k : ℕ). k * pack) all in
        let last = take_all (done * pack) (whole slots) (size_most _ _ _ end (whole_size pack flat slots _ held is.table.some)) in
        ap (map total_shown) (is.told slots held nolie ∙ ap (sums_of p aggs) last) ∙ sums_whole p aggs (blocks_of pack flat * pack) slots

  -- one block more
  pub summed_next : (place : ℕ) (sums_old sums_new : Sums) (old new : World) → AggregatesAt {T = Unit {0}} pack flat p aggs place (Ok tt) sums_old sums_new old new
      → AreSummed pack flat p aggs place sums_old old → AreSummed pack flat p aggs (place + 1) sums_new new
  summed_next place sums_old sums_new old new at was =
      let lasts = at.ran.ok.lasts in
      record {
        table = may_scan_lasts pack flat none old new lasts (λ s. s) was.table;
        few = at.few;
        told = λ slots held nolie.
            let before = represents_before pack flat none old new lasts (λ s. s) slots held in
            let block = block_at pack (whole slots) place in
            ap (take (length aggs)) (at.told slots before nolie)
            ∙ take_sums p aggs sums_old block
            ∙ ap (λ (l : Sums). sums_with p aggs l block) (was.told slots before (none_before _ _ lasts.later nolie))
            ∙ sym (fold-append (seen_slot p aggs) (starts aggs) (take (place * pack) (whole slots)) block)
            ∙ ap (sums_of p aggs) (sym (take_blocks pack (whole slots) place));
      }
