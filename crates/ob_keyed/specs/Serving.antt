-- What a statement on an index does.
use Rattle.std.specs.Prelude.{◌≡◌, ◌<◌, ◌^◌, ℕ, Some, None, Result, Err, OnOk, OnErr, IfErr, MatchResult, slice_index_or, slice_set}
use Rattle.ob_base.specs.declared.schema.Heading.{Heading}
use Rattle.ob_base.specs.Indexes.{leaf_of_draw}
use Rattle.ob_base.specs.Stored.{Stored}
use Rattle.ob_mean.specs.Keyed.{Ask, ask_of}
use Rattle.ob_mean.specs.Verdict.{Held, index_of, went}
use Rattle.ob_oram.specs.declared.fault.OramErr.{OramErr}
use Rattle.ob_oram.specs.declared.fault.OramErr.TheVariants.{StashFull}
use Rattle.ob_oram.specs.declared.index.Index.{Index}
use Rattle.ob_oram.specs.declared.op.Got.{Got}
use Rattle.ob_oram.specs.declared.op.Op.{Op}
use Rattle.ob_oram.specs.Accessing.{Accesses, ReadsTooMany, leaf_read}
use Rattle.ob_oram.specs.Indexes.{IsEnded, IsIndex, IsStoredAs, SealsIndex, leaves_of}
use Rattle.ob_oram.specs.Ops.{FitsOp}
use Rattle.ob_oram.specs.Scripts.{access_script}
use Rattle.ob_oram.specs.Short.{AccessShort, AsksReads}
use Rattle.ob_sql.specs.declared.stmt.Stmt.{Stmt}
use Rattle.ob_vault.specs.State.{World}
use Rattle.ob_vault.specs.Calls.{Went, two}
use Rattle.ob_vault.specs.Words.{IsHonest}
use Rattle.ob_keyed.specs.declared.keyed.Keyed.{Keyed}
use Rattle.ob_keyed.specs.Meaning.{AnswersAsk, Asks, IsIndexOf, StopsAsk, leaf_went}

-- it accessed the index by this operation
pub record Gone (index left : Index) (op : Op) (draw : ℕ) (keyed : Keyed)
    (old new : World) : Type 0 where
  pub leaf : keyed.leaf ≡ leaf_read index op draw
  pub accesses : Accesses index left op draw keyed.result old new

-- which is that of what it asks of the index
pub record GoneBy (stmt : Stmt) (index left : Index) (draw : ℕ) (keyed : Keyed)
    (old new : World) : Type 0 where
  pub ask : Ask
  pub op : Op
  pub asks : Asks ask op
  pub fits : FitsOp index.schema index.key op
  pub asked : (h : Heading) → h.schema ≡ index.schema → ask_of h stmt ≡ Some ask
  pub gone : Gone index left op draw keyed old new

-- ---- whatever the store answers
-- the whole script of the leaf was asked, or a first part of it; the index lies in the same regions, and no other region
-- has changed
pub record Asked (index left : Index) (leaf : ℕ) (result : Result Got OramErr)
    (old new : World) : Type 0 where
  pub ok : OnOk result (Went (access_script index leaf) (two index.tree index.stash) old new)
  pub err : IfErr result (λ e. AccessShort e index leaf old new)
  pub below : leaf < 2 ^ index.height
  pub seals : SealsIndex index old new
  pub same : left ≡ record index { leaves = left.leaves; buffer = left.buffer }
  pub stands : OnOk result (IsIndex left new)
  -- after a stop it isn't accessed again
  pub ended : OnErr result (IsEnded left)

-- the leaf of some key was read, or that of the draw where the index has no such key; after an answer the key has that of
-- the draw
pub record ReadsLeaf (index left : Index) (draw leaf : ℕ) (result : Result Got OramErr) : Type 0 where
  pub key : ℕ
  pub read : leaf ≡ slice_index_or (leaves_of index) key (leaf_of_draw index.height draw)
  pub moved : OnOk result
      (leaves_of left ≡ slice_set (leaves_of index) key (leaf_of_draw index.height draw))

-- more rows were read on the path of this leaf and in the stash than fit after what the statement asks
pub record Overfills (stmt : Stmt) (index : Index) (draw leaf : ℕ) (old new : World) : Type 0 where
  pub ask : Ask
  pub op : Op
  pub asks : Asks ask op
  pub asked : (h : Heading) → h.schema ≡ index.schema → ask_of h stmt ≡ Some ask
  pub read : leaf ≡ leaf_read index op draw
  pub too_many : ReadsTooMany index op draw old new

-- ---- by the meaning, of the table of a heading that asks this of it
-- the leaf is that of the meaning's access, whatever is read
abbrev pub ShowsLeaf : Stmt → Index → (draw leaf : ℕ) → Type 0
ShowsLeaf stmt index draw leaf = (t : Stored Held) (ask : Ask) → IsIndexOf t.heading index
    → ask_of t.heading stmt ≡ Some ask → t.held.leaves ≡ leaves_of index
    → leaf ≡ leaf_went draw t ask

-- and so are the answer and the index, where nobody changed a block, or its stash is full there too
abbrev pub TellsAccess : Stmt → (index left : Index) → ℕ → Result Got OramErr → (old new : World)
    → Type 0
TellsAccess stmt index left draw result old new = IsHonest old new → (t : Stored Held) (ask : Ask)
    → IsIndexOf t.heading index → ask_of t.heading stmt ≡ Some ask
    → IsStoredAs index (index_of t.heading t.held) old → MatchResult result
    (λ got. AnswersAsk t left ask draw got new) (λ e. StopsAsk t left ask draw e new)

-- where the meaning's stash is full no write is asked
abbrev pub AsksRoom : Stmt → Index → ℕ → (old new : World) → Type 0
AsksRoom stmt index draw old new = IsHonest old new → (t : Stored Held) (ask : Ask)
    → IsIndexOf t.heading index → ask_of t.heading stmt ≡ Some ask
    → IsStoredAs index (index_of t.heading t.held) old → went draw t ask ≡ None
    → AsksReads index old new

pub record ServesKeyed (stmt : Stmt) (index left : Index) (draw : ℕ) (keyed : Keyed)
    (old new : World) : Type 0 where
  pub asked : Asked index left keyed.leaf keyed.result old new
  pub keys : ReadsLeaf index left draw keyed.leaf keyed.result
  -- the stash is full only where too many rows were read
  pub full : keyed.result ≡ Err StashFull → Overfills stmt index draw keyed.leaf old new
  pub leaf : ShowsLeaf stmt index draw keyed.leaf
  pub told : TellsAccess stmt index left draw keyed.result old new
  pub room : AsksRoom stmt index draw old new
