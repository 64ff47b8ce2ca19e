-- One block of a pass, and how far a pass has come that goes block by block, with other calls between its own.
use Rattle.std.specs.Prelude.{◌≡◌, ◌⊎◌, ◌≤◌, ◌+◌, ◌++◌, ◌*◌, ℕ, Bool, List, [], ◌∷◌, None, map, take, length, Result, OnOk, OnErr, IfOk, IfErr, MatchResult}
use Rattle.ob_base.specs.declared.emit.EmitErr.{EmitErr}
use Rattle.ob_base.specs.Accesses.{read_at}
use Rattle.ob_base.specs.Events.{Event, Head, Row as RowEvent, EmitCause, Leads}
use Rattle.ob_base.specs.Schemas.{Columns}
use Rattle.ob_order.specs.Buckets.{BucketsState}
use Rattle.ob_row.specs.declared.aggregate.Agg.{Agg}
use Rattle.ob_row.specs.declared.aggregate.Item.{Item}
use Rattle.ob_row.specs.Rows.{Row}
use Rattle.ob_row.specs.Slots.{Slots}
use Rattle.ob_row.specs.Spelling.{kind_at}
use Rattle.ob_vault.specs.State.{World}
use Rattle.ob_vault.specs.Calls.{none}
use Rattle.ob_vault.specs.Rows.{SameSizes}
use Rattle.ob_vault.specs.Words.{SealsAll}
use Rattle.ob_blocks.specs.Blocks.{block_at}
use Rattle.ob_flat.specs.declared.flat.Flat.{Flat}
use Rattle.ob_flat.specs.declared.fault.OpErr.{OpErr}
use Rattle.ob_flat.specs.declared.fault.OpErr.TheVariants.{Failed}
use Rattle.ob_flat.specs.Flats.{Represents, whole_blocks}
use Rattle.ob_flat.specs.Scans.{MayScan}
use Rattle.ob_flat.specs.Words.{PassRan, TamperedAt}
use Rattle.ob_group.specs.Running.{Sums, AreUpTo, sums_with, sums_of, sums_shown}
use Rattle.ob_group.specs.Grouping.{Group, aggs_of, groups_with, groups_of}
use Rattle.ob_group.specs.Held.{AreGroups, KeepsGroups}
use Rattle.ob_group.specs.Labels.{agg_label}
use Rattle.ob_group.specs.Passes.{AreGroupRows}

-- ---- totals
-- one block was read, and its selected rows added to the sums
pub record AggregatesAt {T : Type 0} (pack : ℕ) (flat : Flat) (p : Row → Bool) (aggs : List Agg)
    (place : ℕ) (result : Result T OpErr) (sums_old sums_new : Sums) (old new : World)
    : Type 0 where
  pub ran : PassRan (read_at flat.region place) none result old new
  pub never : IfErr result (λ e. (e ≡ Failed) ⊎ TamperedAt pack flat place e new)
  pub seals : SealsAll old new
  pub few : OnOk result (AreUpTo ((place + 1) * pack) sums_new)
  pub kept : OnErr result (sums_new ≡ sums_old)
  pub told : (slots : Slots) → Represents pack flat slots old → new.store.lie ≡ None
      → MatchResult result
      (λ _. sums_new ≡ sums_with p aggs sums_old
      (block_at pack (whole_blocks pack flat.capacity slots) place))
      (λ e. e ≡ Failed)

-- the sums are those of so many blocks of a table, whatever was asked of other regions between the reads
pub record AreSummed (pack : ℕ) (flat : Flat) (p : Row → Bool) (aggs : List Agg) (done : ℕ)
    (sums : Sums) (w : World) : Type 0 where
  pub table : MayScan pack flat w
  pub few : AreUpTo (done * pack) sums
  pub told : (slots : Slots) → Represents pack flat slots w → w.store.lie ≡ None
      → take (length aggs) sums
      ≡ sums_of p aggs (take (done * pack) (whole_blocks pack flat.capacity slots))

-- the header of their answer, and its row
abbrev pub totals_events : Columns → List Agg → Sums → List Event
totals_events columns aggs sums =
    Head (map (agg_label columns) aggs) ∷ RowEvent (sums_shown aggs sums) ∷ []

-- these events were emitted, or the output ends within a first part of them
pub record EmitsAll {E T : Type 0} (grew cut : E → E → List Event → Type 0) (faults : E → ℕ)
    (events : List Event) (result : Result T EmitErr) (out_old out_new : E) : Type 0 where
  pub ok : OnOk result (Leads grew grew out_old out_new events)
  pub err : OnErr result ((part : List Event) × Leads grew cut out_old out_new part
      × ((rest : List Event) × (part ++ rest ≡ events)))
  pub cause : EmitCause result (faults out_old) (faults out_new)

-- ---- groups
-- the rows of one block's slots were put to the groups, which then are n
pub record PutsBlock (pack : ℕ) (flat : Flat) (p : Row → Bool) (key : ℕ) (items : List Item)
    (place seen n : ℕ) (groups_old groups_new : List (List ℕ)) (old new : World) : Type 0 where
  pub block : Slots
  pub put : (gs : List Group) (m : ℕ) → m + pack ≤ 2147483648
      → AreGroups (kind_at flat.schema key) m (length items) seen gs groups_old
      → AreGroups (kind_at flat.schema key) (m + pack) (length items) n
      (groups_with p key (aggs_of items) gs block) groups_new
  pub told : (slots : Slots) → Represents pack flat slots old → new.store.lie ≡ None
      → block ≡ block_at pack (whole_blocks pack flat.capacity slots) place

-- one block was read, and its selected rows put to the groups, behind as many as were seen
pub record GathersAt (pack : ℕ) (flat : Flat) (p : Row → Bool) (key : ℕ) (items : List Item)
    (place seen : ℕ) (result : Result ℕ OpErr) (groups_old groups_new : List (List ℕ))
    (buckets : BucketsState) (old new : World) : Type 0 where
  pub ran : PassRan (read_at flat.region place) none result old new
  pub never : IfErr result (λ e. (e ≡ Failed) ⊎ TamperedAt pack flat place e new)
  pub seals : SealsAll old new
  pub size : SameSizes groups_old groups_new
  pub kept : IfOk result (λ n. KeepsGroups (kind_at flat.schema key) n groups_new buckets)
  pub held : IfOk result (λ n.
      PutsBlock pack flat p key items place seen n groups_old groups_new old new)
  pub told : (slots : Slots) → Represents pack flat slots old → new.store.lie ≡ None
      → IfErr result (λ e. e ≡ Failed)

-- the groups of so many blocks of a table, n of them, are in these rows and buckets, likewise
pub record AreGathered (pack : ℕ) (flat : Flat) (p : Row → Bool) (key : ℕ) (items : List Item)
    (done n : ℕ) (groups : List (List ℕ)) (buckets : BucketsState) (w : World) : Type 0 where
  pub table : MayScan pack flat w
  pub places : AreGroupRows groups
  pub most : length groups ≤ buckets.most
  pub kept : KeepsGroups (kind_at flat.schema key) n groups buckets
  pub seen : Slots
  pub are : AreGroups (kind_at flat.schema key) (done * pack) (length items) n
      (groups_of p key items seen) groups
  pub told : (slots : Slots) → Represents pack flat slots w → w.store.lie ≡ None
      → seen ≡ take (done * pack) (whole_blocks pack flat.capacity slots)
