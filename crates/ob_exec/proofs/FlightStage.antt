-- What a flight takes from its statements: how each stands, whatever the store answers, and what it means.
use Rattle.ob_exec.proofs.Words.{Access, act_of, answer_labels, AreHeld, AreInPlace, AreNamed, Bool, Closed, count_end, Cut, cut_at, Draws, drop, Emits, Emitted, Event, false, flat_of, Index, is_access, is_cut, is_of_access, is_some, IsAt, IsMeant, IsTrue, IsUnfit, Kind, labels_of, length, List, None, OpErr, Option, Outcome, Partly, Progress, Public, refusal_now, Seen, selection, Served, skeleton, Some, Tables, true, verdict, whole_script, World, ℕ, [], ◌++◌, ◌+◌, ◌-◌, ◌∷◌, ◌≡◌, ◌≤◌, ◌⊎◌}
use Rattle.std.specs.Prelude.{option_map}
use Rattle.ob_base.specs.declared.schema.Shape.TheVariants.{Flat as FlatShape}
use Rattle.ob_base.specs.declared.schema.Table.{Table}
use Rattle.ob_flat.specs.declared.fault.OpErr.TheVariants as OpErrs
use Rattle.ob_mean.specs.Refusals.{tables_of}
use Rattle.ob_mean.specs.Verdict.{seen as seen_by}
use Rattle.ob_select.specs.Memory.{AtEmission, AtResult, is_make}
use Rattle.ob_sql.specs.declared.stmt.SelectRows.{SelectRows}
use Rattle.ob_sql.specs.declared.stmt.Stmt.TheVariants.{SelectRows as RowsStmt}
use Rattle.ob_exec.specs.InFlight.{IsFlown}

-- a world holds these tables, the store tells, and each block that was read is the one written last
pub record HoldNow (p : Public) (indexes : List Index) (tables : Tables) (w : World) : Type 0 where
  pub tells : IsTrue w.store.tells
  pub held : AreHeld p.pack indexes p.tables tables w
  pub in_place : AreInPlace p.stash tables
  pub nolie : w.store.lie ≡ None

-- the flat table of a statement that isn't refused before any access, found by its name
pub record HasTable (pr : Progress) : Type 0 where
  pub name : List ℕ
  pub place : ℕ
  pub table : Table
  pub reads : tables_of pr.stmt ≡ name ∷ []
  pub plain : is_access pr.public (skeleton pr.stmt) ≡ false
  pub here : IsAt name place table pr.public.tables
  pub shape : table.heading.shape ≡ FlatShape
  pub is : pr.flat ≡ flat_of table
  pub names : AreNamed pr.public.tables
  -- the header of its rows is that of its answer
  pub labelled : (select : SelectRows) → pr.stmt ≡ RowsStmt select
      → labels_of (selection pr.public select).flat.schema (selection pr.public select).cols ≡ answer_labels (RowsStmt select) pr.public

-- by what it goes: its refusal before any access is that of its meaning, and else it has its table
pub record IsSet (m : ℕ) (pr : Progress) : Type 0 where
  pub refusal : pr.refusal ≡ refusal_now pr.public m pr.stmt
  pub table : pr.refusal ≡ None → HasTable pr

-- what it was answered, once it has ended
abbrev pub closed_of : Option Outcome → List Event → Option Closed
closed_of outcome events = option_map (λ (o : Outcome). record { outcome = o; events = events }) outcome

-- by how much the store was asked
abbrev pub more_asked : (w v : World) → ℕ
more_asked w v = length v.store.asked - length w.store.asked

-- all that it asks, by what is seen of it
abbrev pub whole_of : Progress → List Access
whole_of pr = whole_script pr.public (skeleton pr.stmt) pr.served.seen

-- a make was asked
pub record AsksMake (w v : World) : Type 0 where
  pub access : Access
  pub make : IsTrue (is_make access)
  pub asked : v.store.asked ≡ w.store.asked ++ access ∷ []

-- where a statement wants memory: at a make, before that of its result, where it is yet to ask, or where it prints
abbrev pub LacksHere : Progress → (w v : World) → Type 0
LacksHere pr w v =
    AsksMake w v
    ⊎ ((pr.over ≡ false) × (v.store.asked ≡ w.store.asked)
    × AtResult pr.public pr.stmt pr.served.seen (drop pr.asked (whole_of pr)))
    ⊎ ((pr.prints ≡ true)
    × AtEmission pr.public pr.stmt pr.served.seen (drop (pr.asked + more_asked w v) (whole_of pr)))

-- what it shows in the end if nothing is changed, or did until the store failed it
abbrev pub shown_of : (failed : Bool) → Draws → (m : ℕ) → Tables → Progress → Seen
shown_of false d m tables pr = seen_by d pr.public m tables pr.stmt
shown_of true d m tables pr =
    cut_at true pr.asked pr.public (skeleton pr.stmt) (seen_by d pr.public m tables pr.stmt)

pub record IsStage {F : Type 0} (k : Kind F) (m : ℕ) : Type 0 where
  pub served : (f : F) (kept : List (List ℕ)) (events : List Event) (w : World) → k.Holds f kept events w
      → k.May f (k.progress f).served
  -- of what may turn out to be served
  pub outline : (f : F) (x : Served) → k.May f x → x.skeleton ≡ skeleton (k.progress f).stmt
  pub single : (f : F) (x : Served) → k.May f x → x.seen.then ≡ None
  pub failed : (f : F) (kept : List (List ℕ)) (events : List Event) (w : World) → k.Holds f kept events w
      → is_cut (k.progress f).served.seen.end ≡ (k.progress f).failed
  pub cut : (f : F) (kept : List (List ℕ)) (events : List Event) (w : World) → k.Holds f kept events w
      → (k.progress f).failed ≡ true → (k.progress f).served.seen.end ≡ Cut (k.progress f).asked
  -- where it is over nothing is left to ask
  pub over : (f : F) (kept : List (List ℕ)) (events : List Event) (w : World) → k.Holds f kept events w
      → (k.progress f).over ≡ true → (n : ℕ) → act_of (k.progress f) (k.progress f).served n ≡ None
  pub gone : (f : F) (kept : List (List ℕ)) (events : List Event) (w : World) → k.Holds f kept events w
      → is_some (k.progress f).outcome ≡ true → (q : ℕ) → (k.progress f).region ≡ Some q → w.vault.revs.live q ≡ None
  pub stands : (f : F) (kept : List (List ℕ)) (events : List Event) (w : World) → k.Holds f kept events w
      → IsSet m (k.progress f)
      → IsFlown (k.progress f).public m (k.progress f).asked (k.progress f).stmt
      (k.progress f).served.seen (closed_of (k.progress f).outcome events)
  pub emits : (f : F) (kept : List (List ℕ)) (events : List Event) (w : World) → k.Holds f kept events w
      → IsSet m (k.progress f) → (o : Outcome) → (k.progress f).outcome ≡ Some o
      → Emits (k.progress f).stmt (answer_labels (k.progress f).stmt (k.progress f).public) o events
  -- by its meaning
  pub told : (f : F) (kept : List (List ℕ)) (events : List Event) (w : World) → k.Holds f kept events w
      → IsSet m (k.progress f) → (indexes : List Index) (tables : Tables) (d : Draws)
      → HoldNow (k.progress f).public indexes tables w
      → IsMeant d (k.progress f).public m (k.progress f).asked (k.progress f).asked tables
      (k.progress f).stmt (k.progress f).served.seen (closed_of (k.progress f).outcome events)
  pub emitted : (f : F) (kept : List (List ℕ)) (events : List Event) (w : World) → k.Holds f kept events w
      → IsSet m (k.progress f) → (indexes : List Index) (tables : Tables)
      → HoldNow (k.progress f).public indexes tables w → (o : Outcome) → (k.progress f).outcome ≡ Some o
      → Emitted (k.progress f).stmt (k.progress f).public m tables o events
  pub partly : (f : F) (kept : List (List ℕ)) (events : List Event) (w : World) → k.Holds f kept events w
      → IsSet m (k.progress f) → (indexes : List Index) (tables : Tables)
      → HoldNow (k.progress f).public indexes tables w
      → Partly (answer_labels (k.progress f).stmt (k.progress f).public)
      (verdict (k.progress f).public m tables (k.progress f).stmt) events
  pub means : (f : F) (kept : List (List ℕ)) (events : List Event) (w : World) → k.Holds f kept events w
      → IsSet m (k.progress f) → (indexes : List Index) (tables : Tables) (d : Draws)
      → HoldNow (k.progress f).public indexes tables w
      → k.May f (record {
        skeleton = skeleton (k.progress f).stmt;
        seen = shown_of (k.progress f).failed d m tables (k.progress f);
      })
  -- where it gave up
  pub halted : (f : F) (kept : List (List ℕ)) (events part : List Event) (e : OpErr) (w v : World)
      → k.Holds f kept events w → k.Halts f events part e w v → IsSet m (k.progress f)
      → (indexes : List Index) (tables : Tables) → HoldNow (k.progress f).public indexes tables w → IsUnfit v
      → Partly (answer_labels (k.progress f).stmt (k.progress f).public)
      (verdict (k.progress f).public m tables (k.progress f).stmt) (events ++ part)
  pub honest : (f : F) (kept : List (List ℕ)) (events part : List Event) (q x : ℕ) (w v : World)
      → k.Holds f kept events w → k.Halts f events part (OpErrs.Tampered q x) w v → IsSet m (k.progress f)
      → (indexes : List Index) (tables : Tables) → HoldNow (k.progress f).public indexes tables w
      → v.store.lie ≡ None → ⊥
  pub stays : (f : F) (kept : List (List ℕ)) (events part : List Event) (e : OpErr) (w v : World)
      → k.Holds f kept events w → k.Halts f events part e w v → IsSet m (k.progress f)
      → is_of_access e ≡ false
      → (count_end (k.progress f).public (skeleton (k.progress f).stmt) ≤ (k.progress f).asked)
      ⊎ (v.store.asked ≡ w.store.asked)
  pub memory : (f : F) (kept : List (List ℕ)) (events part : List Event) (w v : World)
      → k.Holds f kept events w → k.Halts f events part OpErrs.NoMemory w v → IsSet m (k.progress f)
      → (k.progress f).outcome ≡ None → LacksHere (k.progress f) w v
