-- An index in a store beside the index of SQL's meaning.
use Rattle.std.specs.Prelude.{◌≡◌, ℕ, Some, None, ⊤}
use Rattle.ob_base.specs.declared.schema.Heading.{Heading}
use Rattle.ob_base.specs.Indexes.{height_of}
use Rattle.ob_base.specs.Stored.{Stored}
use Rattle.ob_mean.specs.Keyed.{Ask, Find, Put, Set, Take, op_of}
use Rattle.ob_mean.specs.Verdict.{index_of, went, Held}
use Rattle.ob_oram.specs.declared.fault.OramErr.{OramErr}
use Rattle.ob_oram.specs.declared.fault.OramErr.TheVariants.{Failed, Tampered, StashFull}
use Rattle.ob_oram.specs.declared.index.Index.{Index}
use Rattle.ob_oram.specs.declared.op.Got.{Got}
use Rattle.ob_oram.specs.declared.op.Op.{Op}
use Rattle.ob_oram.specs.declared.op.Op.TheVariants as Ops
use Rattle.ob_oram.specs.Indexes.{IsShaped, IsStoredAs, LiesAs}
use Rattle.ob_oram.specs.Ops.{got_in}
use Rattle.ob_row.specs.Keys.{key_in}
use Rattle.ob_row.specs.Rows.{Row}
use Rattle.ob_path.specs.Access as Tree
use Rattle.ob_path.specs.Access.{Went}
use Rattle.ob_vault.specs.State.{World}

-- an index with the columns of this heading and as many keys
pub record IsIndexOf (h : Heading) (index : Index) : Type 0 where
  pub schema : index.schema ≡ h.schema
  pub capacity : index.capacity ≡ h.capacity
  pub shaped : IsShaped index

-- the operation is what a statement asks
abbrev pub Asks : Ask → Op → Type 0
Asks (Find z) (Ops.Get key) = z ≡ key
Asks (Put row) (Ops.Insert key cells) = row ≡ cells.now
Asks (Set z sets) (Ops.Change key changes) = (z ≡ key) × (sets ≡ changes.now)
Asks (Take z) (Ops.Remove key) = z ≡ key
Asks ask op = ⊥

-- the leaf that the access of the meaning reads
abbrev pub leaf_went : (draw : ℕ) → Stored Held → Ask → ℕ
leaf_went draw t ask =
    Tree.leaf_read (height_of t.heading.capacity) (index_of t.heading t.held)
    (Tree.key_of (key_in t.heading) (op_of t.heading.capacity ask)) draw

-- it answers what the access of the meaning answers, and lies as that leaves it
pub record AnswersAsk (t : Stored Held) (left : Index) (ask : Ask) (draw : ℕ) (got : Got)
    (new : World) : Type 0 where
  pub meant : Went Row
  pub is : went draw t ask ≡ Some meant
  pub answer : got_in got ≡ meant.got
  pub lies : IsStoredAs left meant.state new

-- the stash is full in the meaning, and the index lies as before
pub record IsFullAsk (t : Stored Held) (left : Index) (ask : Ask) (draw : ℕ)
    (new : World) : Type 0 where
  pub full : went draw t ask ≡ None
  pub lies : LiesAs left (index_of t.heading t.held) new

-- why it gave no answer: a call of the store failed, or its stash is full, as the meaning's is
abbrev pub StopsAsk : Stored Held → Index → Ask → ℕ → OramErr → World → Type 0
StopsAsk t left ask draw Failed new = ⊤
StopsAsk t left ask draw (Tampered q x) new = ⊥
StopsAsk t left ask draw StashFull new = IsFullAsk t left ask draw new
