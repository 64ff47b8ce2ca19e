-- What the tables of an engine hold, and what a statement means for them.
use Rattle.std.specs.Prelude.{Bool, true, false, ◌≡◌, ◌≤◌, ◌+◌, ◌-◌, ⊤, ℕ, List, [], ◌∷◌, length, slice_get, IsTrue, Some, None}
use Rattle.std.specs.Option.{option_map_or}
use Rattle.ob_base.specs.declared.access.Access.{Access}
use Rattle.ob_base.specs.declared.config.Public.{Public}
use Rattle.ob_tables.specs.declared.stop.RunStop.{RunStop}
use Rattle.ob_tables.specs.declared.stop.RunStop.TheVariants.{Tampered, StashFull}
use Rattle.ob_base.specs.declared.schema.Shape.{Shape}
use Rattle.ob_base.specs.declared.schema.Shape.TheVariants.{Flat, Indexed}
use Rattle.ob_base.specs.Indexes.{height_of, path_blocks}
use Rattle.ob_base.specs.Stored.{Stored}
use Rattle.ob_oram.specs.Indexes.{IsStoredAs}
use Rattle.ob_oram.specs.declared.index.Index.{Index}
use Rattle.ob_base.specs.declared.schema.Table.{Table}
use Rattle.ob_base.specs.Events.{Event}
use Rattle.ob_store.specs.State.{StoreState}
use Rattle.ob_script.specs.Saved.{run_script}
use Rattle.ob_vault.specs.State.{RevState, World}
use Rattle.ob_vault.specs.Tied.{Untampered, IsUnfit}
use Rattle.ob_vault.specs.Calls.{Seals}
use Rattle.ob_flat.specs.Flats as F
use Rattle.ob_sql.specs.declared.stmt.Stmt.{Stmt}
use Rattle.ob_sql.specs.Skeleton.{skeleton}
use Rattle.ob_mean.specs.Verdict.{Draws, Held, Tables, accessed, index_of, is_full, verdict, seen}
use Rattle.ob_mean.specs.Batches.{settle_all}
use Rattle.ob_mean.specs.Replay.{cut_at}
use Rattle.ob_mean.specs.Prints.{Prints, Unfinished, labels_of}
use Rattle.ob_base.specs.Stored.{headings_of}
use Rattle.ob_select.specs.Selecting.{AcceptsRows}
use Rattle.ob_tables.specs.declared.engine.Engine.{Engine}
use Rattle.ob_verdict.specs.declared.outcome.Outcome.{Outcome}
use Rattle.ob_tables.specs.Engines.{flat_of}
use Rattle.ob_tables.specs.Agreeing.{world_of, count_of}
use Rattle.ob_tables.specs.Running.{is_fault}
use Rattle.ob_verdict.specs.Laws.{AreInPlace}
use Rattle.ob_verdict.specs.Outcomes.{outcome_of, by_fault}

-- ---- the tables
-- the region of a flat table holds its slots; and what an index is to hold lies in its tree, its stash and its leaves
abbrev pub HoldsTable : Shape → (pack : ℕ) → List Index → Table → Stored Held → World → Type 0
HoldsTable Flat pack indexes t held w = F.Represents pack (flat_of t) held.held.slots w
HoldsTable Indexed pack indexes t held w =
    (k : ℕ) (x : Index) → slice_get indexes k ≡ Some x → x.tree ≡ t.region → IsStoredAs x (index_of held.heading held.held) w

-- each table holds what the table in place does that stands beside it
abbrev pub AreHeld : (pack : ℕ) → List Index → List Table → Tables → World → Type 0
AreHeld pack indexes [] [] w = ⊤
AreHeld pack indexes [] (held ∷ tables) w = ⊥
AreHeld pack indexes (t ∷ ts) [] w = ⊥
AreHeld pack indexes (t ∷ ts) (held ∷ tables) w =
    (held.heading ≡ t.heading) × HoldsTable t.heading.shape pack indexes t held w × AreHeld pack indexes ts tables w

-- an engine and its store hold these tables in place, whose primary keys are distinct
pub record Represents {R : Type 0} (state : R → RevState) (e : Engine R) (s : StoreState) (tables : Tables) : Type 0 where
  pub held : AreHeld e.public.pack e.indexes.items e.public.tables tables (world_of state e s)
  pub in_place : AreInPlace e.public.stash tables

-- the store told what it holds, the engine and it held these tables, and each block that was read is the one written last
pub record ReadsTrue {R : Type 0} (state : R → RevState) (old : Engine R) (s t : StoreState) (tables : Tables) : Type 0 where
  pub tells : IsTrue s.tells
  pub held : Represents state old s tables
  pub nolie : t.lie ≡ None

-- the same until a statement ended, maybe with the first block that isn't and doesn't fit either
pub record ReadsTrueUntil {R : Type 0} (state : R → RevState) (old : Engine R) (s : StoreState) (new : Engine R) (t : StoreState) (tables : Tables) : Type 0 where
  pub tells : IsTrue s.tells
  pub held : Represents state old s tables
  pub calm : Untampered (world_of state old s)
  pub unfit : IsUnfit (world_of state new t)

-- ---- the accesses
-- those of a statement by its meaning, before which m were asked
abbrev pub meant_script : Draws → Public → (m : ℕ) → Tables → Stmt → List Access
meant_script d p m tables stmt = run_script p (skeleton stmt) (seen d p m tables stmt)

-- a statement that went to its end, or was refused before: its answer is the verdict, and what is seen and what the tables are
-- follows from the tables before, of which m accesses were asked; the tables are those after others too that it was served with
pub record Meant {R : Type 0} (state : R → RevState) (stmt : Stmt) (owed : List Stmt) (m : ℕ) (d : Draws) (tables : Tables) (outcome : Outcome) (old new : Engine R) (t : StoreState) : Type 0 where
  pub answer : outcome ≡ outcome_of stmt (verdict old.public m tables stmt)
  pub seen : new.seen ≡ seen d old.public m tables stmt
  pub held : Represents state new t (settle_all d old.public m (stmt ∷ owed) tables)

-- what is seen of one that was cut off, at an access that failed or after one
abbrev pub SeenCut : {R : Type 0} → (failed : Bool) → Draws → Stmt → Tables → (old : Engine R) → StoreState → (new : Engine R) → StoreState → Type 0
SeenCut failed d stmt tables old s new t =
    new.seen ≡ cut_at failed (length t.asked - length s.asked) old.public (skeleton stmt) (seen d old.public (count_of old s) tables stmt)

-- one that the store cut off, which accesses no index: the tables are as they were
pub record Kept {R : Type 0} (state : R → RevState) (stmt : Stmt) (d : Draws) (tables : Tables) (old : Engine R) (s : StoreState) (new : Engine R) (t : StoreState) : Type 0 where
  pub unindexed : accessed tables stmt ≡ None
  pub seen : SeenCut true d stmt tables old s new t
  pub held : Represents state new t tables

-- a statement that was answered
abbrev pub Told : {R : Type 0} → (R → RevState) → Stmt → (owed : List Stmt) → Draws → Tables → Outcome → (old : Engine R) → StoreState → (new : Engine R) → StoreState → Type 0
Told state stmt owed d tables outcome old s new t =
    by_fault (is_fault outcome) (Kept state stmt d tables old s new t) (Meant state stmt owed (count_of old s) d tables outcome old new t)

-- whether the access that a statement was stopped at is the last, and was not carried out
abbrev pub is_refused : RunStop → Bool
is_refused (Tampered region place) = true
is_refused _ = false

-- a read that gave what was written is not refused as tampered
abbrev pub IsNotTampered : RunStop → Type 0
IsNotTampered stop = is_refused stop ≡ false

-- ---- a full stash
-- the reads of an access, after which a full stash ends the session
abbrev pub access_reads : Public → Tables → Stmt → ℕ
access_reads p tables stmt = option_map_or (λ a. p.stash + path_blocks (height_of a.table.heading.capacity)) (accessed tables stmt) 0

-- a stop after n accesses: at a full stash it is the meaning's that is, and all was read; and where the meaning's is full no
-- more is asked
pub record StopsFull (d : Draws) (p : Public) (m : ℕ) (tables : Tables) (stmt : Stmt) (n : ℕ) (stop : RunStop) : Type 0 where
  pub full : stop ≡ StashFull → is_full d p m tables stmt ≡ true
  pub reads : stop ≡ StashFull → n ≡ access_reads p tables stmt
  pub bound : is_full d p m tables stmt ≡ true → n ≤ access_reads p tables stmt

-- ---- what was emitted
-- the labels of a statement's answer
abbrev pub answer_labels : Stmt → Public → List (List ℕ)
answer_labels stmt p = labels_of stmt (headings_of p.tables)

-- the events of an answer, or of one that the store cut off
abbrev pub Emitted : Stmt → Public → (m : ℕ) → Tables → Outcome → List Event → Type 0
Emitted stmt p m tables outcome events =
    by_fault (is_fault outcome)
    (Unfinished (answer_labels stmt p) (verdict p m tables stmt) events)
    (Prints (answer_labels stmt p) (verdict p m tables stmt) events)

-- ---- nothing lies in clear
-- where each block of a live region was sealed, of rows that are good, under the position of the last write to its place,
-- and once a call has failed of a write to it, it is
abbrev pub KeepsSealed : {R : Type 0} → (R → RevState) → (old : Engine R) → StoreState → (new : Engine R) → StoreState → Type 0
KeepsSealed state old s new t = (good : ℕ → List ℕ → Bool) → AcceptsRows good old.public.pack → AcceptsRows good 1 → Seals good (world_of state old s) (world_of state new t)
