-- What is seen of a statement on an index.
use Rattle.std.specs.Prelude.{◌≡◌, ◌≤◌, ◌-◌, ◌++◌, nat_lt, ℕ, Bool, List, Some, Result, Ok, Err, length}
use Rattle.ob_base.specs.declared.access.Access.{Access}
use Rattle.ob_base.specs.declared.config.Public.{Public}
use Rattle.ob_base.specs.declared.seen.Seen.{Seen}
use Rattle.ob_base.specs.declared.seen.End.TheVariants.{Whole, Cut}
use Rattle.ob_base.specs.declared.skeleton.Skeleton.{Skeleton}
use Rattle.ob_mean.specs.Lawful.{Lawful}
use Rattle.ob_mean.specs.Replay.{cut_at, held_if}
use Rattle.ob_mean.specs.Verdict.{ended}
use Rattle.ob_oram.specs.declared.fault.OramErr.{OramErr}
use Rattle.ob_oram.specs.declared.index.Index.{Index}
use Rattle.ob_oram.specs.declared.op.Got.{Got}
use Rattle.ob_oram.specs.Scripts.{access_script}
use Rattle.ob_script.specs.Script.{script}
use Rattle.ob_sql.specs.declared.stmt.Stmt.{Stmt}
use Rattle.ob_sql.specs.Skeleton.{skeleton}
use Rattle.ob_store.specs.State.{StoreState}
use Rattle.ob_vault.specs.State.{World}
use Rattle.ob_keyed.specs.Asking.{IsKeyed}
use Rattle.ob_keyed.specs.Serving.{Asked}

-- its leaf, where it went to its end
abbrev pub seen_whole : (leaf : ℕ) → Seen
seen_whole leaf = record (ended Whole) { leaf = Some leaf }

-- or once more was asked than its stash of so many slots, where it was cut off after n accesses
abbrev pub seen_cut : (slots leaf n : ℕ) → Seen
seen_cut slots leaf n = record (ended (Cut n)) { leaf = held_if (nat_lt slots n) (Some leaf) }

-- its accesses follow from what is public and from that, and so much may be seen
pub record ShowsScript (p : Public) (m : ℕ) (stmt : Stmt) (index : Index) (leaf : ℕ) : Type 0 where
  pub whole : script p (skeleton stmt) (seen_whole leaf) ≡ access_script index leaf
  pub cut : (done rest : List Access) → done ++ rest ≡ access_script index leaf
      → script p (skeleton stmt) (seen_cut p.stash leaf (length done)) ≡ done
  pub lawful : Lawful p m stmt (seen_whole leaf)
  pub lawful_cut : (n : ℕ) → n ≤ length (access_script index leaf)
      → Lawful p m stmt (seen_cut p.stash leaf n)

-- of what is seen of a whole one that is left where it is cut off, whether its last access failed or not
abbrev pub CutsAlike : Type 0
CutsAlike = (failed : Bool) (n : ℕ) (p : Public) (s : Skeleton) (leaf : ℕ)
    → cut_at failed n p s (seen_whole leaf) ≡ seen_cut p.stash leaf n

-- ---- what was asked of a store
-- by what came of its access, after so many accesses
abbrev pub seen_by : (slots leaf : ℕ) → Result Got OramErr → (n : ℕ) → Seen
seen_by slots leaf (Ok got) n = seen_whole leaf
seen_by slots leaf (Err e) n = seen_cut slots leaf n

-- it is what follows from what was seen, and that is lawful
pub record RanAs (p : Public) (m : ℕ) (stmt : Stmt) (seen : Seen) (s t : StoreState) : Type 0 where
  pub asked : t.asked ≡ s.asked ++ script p (skeleton stmt) seen
  pub lawful : Lawful p m stmt seen

abbrev pub KeyedRan : Type 0
KeyedRan = (p : Public) (m : ℕ) (stmt : Stmt) (index left : Index) (leaf : ℕ)
    (result : Result Got OramErr) (old new : World) → IsKeyed p m stmt index
    → Asked index left leaf result old new → RanAs p m stmt
    (seen_by p.stash leaf result (length new.store.asked - length old.store.asked))
    old.store new.store

-- also where it is cut off after its access, by the emitter
abbrev pub KeyedCut : Type 0
KeyedCut = (p : Public) (m : ℕ) (stmt : Stmt) (index left : Index) (leaf : ℕ)
    (got : Got) (old new : World) → IsKeyed p m stmt index
    → Asked index left leaf (Ok got) old new → RanAs p m stmt
    (seen_cut p.stash leaf (length new.store.asked - length old.store.asked))
    old.store new.store
