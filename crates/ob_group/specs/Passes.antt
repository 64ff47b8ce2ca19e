-- What the passes do that aggregate and group.
use Rattle.std.specs.Prelude.{◌≡◌, [], ◌∷◌, ◌⊎◌, ◌<◌, ◌≤◌, ◌+◌, ◌++◌, ◌*◌, ℕ, min, Bool, List, ⊤, None, Some, filter, length, Result, OnOk, OnErr, IfOk, IfErr, MatchResult}
use Rattle.ob_base.specs.declared.emit.EmitErr.{EmitErr}
use Rattle.ob_base.specs.declared.schema.Kind.{Kind}
use Rattle.ob_base.specs.declared.shown.Shown.{Shown}
use Rattle.ob_base.specs.Events.{Event, row_events, EmitCause, IsEmitted, IsHalted}
use Rattle.ob_base.specs.Limits.{buffered_blocks}
use Rattle.ob_base.specs.Schemas.{Columns, width}
use Rattle.ob_script.specs.Parts.{count_part}
use Rattle.ob_row.specs.declared.aggregate.Agg.{Agg}
use Rattle.ob_row.specs.declared.aggregate.Item.{Item}
use Rattle.ob_row.specs.declared.cell.Malformed.{Malformed}
use Rattle.ob_row.specs.Rows.{Row}
use Rattle.ob_row.specs.Slots.{Slots, rows as rows_in}
use Rattle.ob_row.specs.Spelling.{Begins, kind_at}
use Rattle.ob_row.specs.Totals.{totals, group_heads, grouped}
use Rattle.ob_vault.specs.State.{World}
use Rattle.ob_vault.specs.Calls.{Went, none}
use Rattle.ob_vault.specs.Rows.{SameSizes, Wide}
use Rattle.ob_vault.specs.Words.{SealsAll}
use Rattle.ob_flat.specs.declared.flat.Flat.{Flat}
use Rattle.ob_flat.specs.declared.fault.OpErr.{OpErr}
use Rattle.ob_flat.specs.declared.fault.OpErr.TheVariants.{Failed, Tampered, Sink, NoMemory}
use Rattle.ob_flat.specs.Slots.{Spelt, AreSlots}
use Rattle.ob_flat.specs.Flats.{IsFlat, Represents, whole_blocks}
use Rattle.ob_flat.specs.Passes.{SinkCause}
use Rattle.ob_flat.specs.Words.{PassRan, TamperedIn, blocks_of}
use Rattle.ob_flat.specs.Emission.{SlotsToEnd, SlotsToHalt}
use Rattle.ob_group.specs.declared.grouping.Grouped.{Grouped}
use Rattle.ob_group.specs.Running.{AreWithin}
use Rattle.ob_group.specs.Grouping.{Group, aggs_of, group_with, groups_with, groups_of, group_shown, groups_shown}
use Rattle.ob_group.specs.Held.{HoldsGroup, AreGroups, IsGroup, HasGroups}
use Rattle.ob_group.specs.Labels.{header}
use Rattle.ob_group.specs.Answers.{MatchGrouped, answer_of}

-- aggregates over columns of a table, at most as many as it may have
pub record AreAggs (columns : Columns) (aggs : List Agg) : Type 0 where
  pub few : length aggs ≤ 32
  pub within : AreWithin (length columns) aggs

-- items of groups by the column at a place, at most as many
pub record AreItems (columns : Columns) (place : ℕ) (items : List Item) : Type 0 where
  pub key : place < length columns
  pub few : length items ≤ 32
  pub within : AreWithin (length columns) (aggs_of items)

-- each block was read once, in order, and the aggregates of the selected rows made
pub record Aggregates (pack : ℕ) (flat : Flat) (p : Row → Bool) (aggs : List Agg)
    (result : Result (List Shown) OpErr) (old new : World) : Type 0 where
  pub ran : PassRan (count_part flat.region (blocks_of pack flat)) none result old new
  pub never : IfErr result (λ e. (e ≡ Failed) ⊎ TamperedIn pack flat e new)
  pub seals : SealsAll old new
  pub source : IsFlat pack flat new
  pub cells : IfOk result (λ accs. length accs ≡ length aggs)
  pub told : (slots : Slots) → Represents pack flat slots old → new.store.lie ≡ None
      → MatchResult result
      (λ accs. accs ≡ totals aggs (filter p (rows_in slots))) (λ e. e ≡ Failed)

-- the first bytes spell a row
pub record IsRow (columns : Columns) (row : List ℕ) : Type 0 where
  pub wide : width columns ≤ length row
  pub cells : Row
  pub is : Begins columns (Some cells) row

-- it was added to a group
pub record AddsTo (columns : Columns) (kind : Kind) (items : List Item)
    (row group_old group_new : List ℕ) : Type 0 where
  pub size : length group_new ≡ length group_old
  pub told : (cells : Row) → Begins columns (Some cells) row
      → (g : Group) (m : ℕ) → m ≤ 2147483648 → HoldsGroup kind m (length items) g group_old
      → HoldsGroup kind (m + 1) (length items) (group_with (aggs_of items) cells g) group_new

-- how many blocks of groups are kept at once: a table's slots have no more groups
abbrev pub kept_blocks : (pack rows : ℕ) → Flat → ℕ
kept_blocks pack rows flat = min (buffered_blocks pack rows) (blocks_of pack flat)

-- how many rows are open: those of a block, and the groups
abbrev pub open_rows : (pack rows : ℕ) → Flat → ℕ
open_rows pack rows flat = pack + kept_blocks pack rows flat * pack

-- rows that may hold a group each
pub record AreGroupRows (rows : List (List ℕ)) : Type 0 where
  pub wide : Wide 768 rows
  pub few : length rows ≤ 4294967295

-- the selected rows of a block were put to their groups, which then are n
pub record PutsRows (p : Row → Bool) (columns : Columns) (key : ℕ) (items : List Item)
    (rows : List (List ℕ)) (seen n : ℕ) (groups_old groups_new : List (List ℕ)) : Type 0 where
  pub slots : Slots
  pub spelt : Spelt columns slots rows
  pub put : (gs : List Group) (m : ℕ) → m + length rows ≤ 2147483648
      → AreGroups (kind_at columns key) m (length items) seen gs groups_old
      → AreGroups (kind_at columns key) (m + length rows) (length items) n
      (groups_with p key (aggs_of items) gs slots) groups_new

-- they were, behind as many groups as were seen, or a row was malformed
pub record GathersBlock (p : Row → Bool) (columns : Columns) (key : ℕ) (items : List Item)
    (rows : List (List ℕ)) (seen : ℕ) (result : Result ℕ Malformed)
    (groups_old groups_new : List (List ℕ)) : Type 0 where
  pub size : SameSizes groups_old groups_new
  pub held : IfOk result (λ n. PutsRows p columns key items rows seen n groups_old groups_new)
  pub malformed : OnErr result (AreSlots columns rows → ⊥)

-- the groups of the slots of a table, n of them
pub record Gathered (pack : ℕ) (flat : Flat) (p : Row → Bool) (key : ℕ) (items : List Item)
    (groups : List (List ℕ)) (n : ℕ) (old new : World) : Type 0 where
  pub seen : Slots
  pub are : AreGroups (kind_at flat.schema key) 2147483648 (length items) n
      (groups_of p key items seen) groups
  pub told : (slots : Slots) → Represents pack flat slots old → new.store.lie ≡ None
      → seen ≡ whole_blocks pack flat.capacity slots

-- each block was read once, in order, and the selected rows put to their groups
pub record Gathers (pack : ℕ) (flat : Flat) (p : Row → Bool) (key : ℕ) (items : List Item)
    (groups : List (List ℕ)) (result : Result ℕ OpErr) (old new : World) : Type 0 where
  pub ran : PassRan (count_part flat.region (blocks_of pack flat)) none result old new
  pub never : IfErr result (λ e. (e ≡ Failed) ⊎ TamperedIn pack flat e new)
  pub seals : SealsAll old new
  pub source : IsFlat pack flat new
  pub held : IfOk result (λ n. Gathered pack flat p key items groups n old new)
  pub told : (slots : Slots) → Represents pack flat slots old → new.store.lie ≡ None
      → IfErr result (λ e. e ≡ Failed)

-- the row of a group was emitted
pub record EmitsGroup {E T : Type 0} (grew cut : E → E → List Event → Type 0) (faults : E → ℕ)
    (kind : Kind) (items : List Item) (row : List ℕ)
    (result : Result T EmitErr) (out_old out_new : E) : Type 0 where
  pub emitted : OnOk result (IsEmitted grew []
      (λ (s : IsGroup kind (length items) row). group_shown items s.group ∷ []) 0 1 out_old out_new)
  pub halted : OnErr result (IsHalted grew cut
      (λ (s : IsGroup kind (length items) row). row_events (group_shown items s.group ∷ []))
      out_old out_new)
  pub cause : EmitCause result (faults out_old) (faults out_new)

-- the rows of n groups were, after this header
pub record EmitsGroups {E T : Type 0} (grew cut : E → E → List Event → Type 0) (faults : E → ℕ)
    (kind : Kind) (items : List Item) (n : ℕ) (rows : List (List ℕ)) (head : List Event)
    (result : Result T EmitErr) (out_old out_new : E) : Type 0 where
  pub emitted : OnOk result (IsEmitted grew head
      (λ (s : HasGroups kind (length items) n rows). groups_shown items s.groups)
      0 n out_old out_new)
  pub halted : OnErr result (IsHalted grew cut
      (λ (s : HasGroups kind (length items) n rows).
      head ++ row_events (groups_shown items s.groups))
      out_old out_new)
  pub cause : EmitCause result (faults out_old) (faults out_new)

-- each block was read once, in order, and then the groups of the selected rows emitted, unless they
-- were more than there are places
pub record GroupsRows {E : Type 0} (grew cut : E → E → List Event → Type 0) (faults : E → ℕ)
    (places pack : ℕ) (flat : Flat) (p : Row → Bool) (key : ℕ) (items : List Item)
    (result : Result Grouped OpErr) (old new : World) (out_old out_new : E) : Type 0 where
  pub ran : PassRan (count_part flat.region (blocks_of pack flat)) none result old new
  pub never : IfErr result (λ e. (e ≡ Failed) ⊎ (e ≡ Sink) ⊎ (e ≡ NoMemory)
      ⊎ TamperedIn pack flat e new)
  pub seals : SealsAll old new
  pub source : IsFlat pack flat new
  pub most : IfOk result (λ answer. MatchGrouped answer (λ n. n ≤ places) ⊤)
  pub emitted : IfOk result (λ answer. MatchGrouped answer
      (λ n. IsEmitted grew (header flat.schema key items)
      (λ (s : SlotsToEnd pack flat old new). grouped key items (filter p (rows_in s.slots)))
      0 n out_old out_new)
      (out_new ≡ out_old))
  pub halted : IfErr result (λ e. (e ≡ Sink) ⊎ (e ≡ NoMemory) → IsHalted grew cut
      (λ (s : SlotsToHalt pack flat old new). header flat.schema key items
      ++ row_events (grouped key items (filter p (rows_in s.slots))))
      out_old out_new)
  pub cause : SinkCause result (faults out_old) (faults out_new)
  pub before : IfErr result (λ e.
      (e ≡ Failed) ⊎ ((region : ℕ) × (place : ℕ) × (e ≡ Tampered region place))
      → out_new ≡ out_old)
  pub after : IfErr result (λ e. (e ≡ Sink) ⊎ (e ≡ NoMemory)
      → Went (count_part flat.region (blocks_of pack flat)) none old new)
  pub few : IfErr result (λ e. (e ≡ Sink) ⊎ (e ≡ NoMemory)
      → (slots : Slots) → Represents pack flat slots old → new.store.lie ≡ None
      → length (group_heads key (filter p (rows_in slots))) ≤ places)
  pub told : (slots : Slots) → Represents pack flat slots old → new.store.lie ≡ None
      → MatchResult result
      (λ answer. answer ≡ answer_of places (length (group_heads key (filter p (rows_in slots)))))
      (λ e. (e ≡ Failed) ⊎ (e ≡ Sink) ⊎ (e ≡ NoMemory))
