-- How far a statement in flight is, and what a step of it does.
use Rattle.std.specs.Prelude.{◌≡◌, ◌⊎◌, ◌<◌, ◌≤◌, ◌+◌, ◌^◌, ⊤, ℕ, Bool, true, false, List, [], ◌∷◌, Option, Some, None, Result, IfOk, OnErr, is_some}
use Rattle.ob_base.specs.declared.access.Access.{Access}
use Rattle.ob_base.specs.declared.access.Access.TheVariants.{Make, Read, Write, Discard, Open}
use Rattle.ob_base.specs.declared.config.Public.{Public}
use Rattle.ob_base.specs.declared.emit.EmitErr.{EmitErr}
use Rattle.ob_base.specs.declared.refusal.Refusal.{Refusal}
use Rattle.ob_base.specs.Schemas.{Columns}
use Rattle.ob_flat.specs.declared.fault.OpErr.{OpErr}
use Rattle.ob_flat.specs.declared.fault.OpErr.TheVariants.{Failed, Sink}
use Rattle.ob_flat.specs.declared.flat.Flat.{Flat}
use Rattle.ob_flat.specs.Flats.{Accepts}
use Rattle.ob_flat.specs.Passes.{PassCut}
use Rattle.ob_script.specs.Trace.{Served}
use Rattle.ob_script.specs.Flights.{Flying, next_act, prints, region_after}
use Rattle.ob_sql.specs.declared.stmt.Stmt.{Stmt}
use Rattle.ob_vault.specs.Calls.{Seals, Went}
use Rattle.ob_vault.specs.State.{World}
use Rattle.ob_verdict.specs.declared.outcome.Outcome.{Outcome}
use Rattle.ob_inflight.specs.Leaving.{own_or_next}

-- how far a statement is
pub record Progress : Type 0 where
  -- the statement, the table that it reads, why it is refused before any access, and what its flight goes by, except for the
  -- next region: these stay
  pub stmt : Stmt
  pub flat : Flat
  pub refusal : Option Refusal
  pub public : Public
  -- what is seen of it so far
  pub served : Served
  -- how many accesses it asked
  pub asked : ℕ
  -- the region that it made
  pub region : Option ℕ
  -- whether all was asked, and whether its next act prints
  pub over : Bool
  pub prints : Bool
  -- whether the store failed it
  pub failed : Bool
  -- its answer, once it has ended
  pub outcome : Option Outcome
  -- for how many of its accesses the store has room, and how many it asks from here at most
  pub booked : ℕ
  pub most : ℕ

-- it serves the same statement by the same settings
pub record KeepsCourse (before after : Progress) : Type 0 where
  pub stmt : after.stmt ≡ before.stmt
  pub flat : after.flat ≡ before.flat
  pub refusal : after.refusal ≡ before.refusal
  pub public : after.public ≡ before.public

-- and nothing more was seen of it
pub record StaysAs (before after : Progress) : Type 0 where
  pub course : KeepsCourse before after
  pub served : after.served ≡ before.served
  pub asked : after.asked ≡ before.asked
  pub region : after.region ≡ before.region
  pub failed : after.failed ≡ before.failed
  pub outcome : after.outcome ≡ before.outcome

-- the same settings with this next region
abbrev pub numbered : ℕ → Public → Public
numbered n p = record p { next_region = n }

-- a statement on its way, if this turns out to be served
abbrev pub flying_of : Progress → Served → Flying
flying_of p x = record { served = x; asked = p.asked; region = p.region; ended = is_some p.outcome }

-- its next act, where this is the next region
abbrev pub act_of : Progress → Served → ℕ → Option Access
act_of p x n = next_act (numbered n p.public) (flying_of p x)

-- its next act prints, and is none, where that is said
pub record ActsAs (p : Progress) (x : Served) (n : ℕ) : Type 0 where
  pub prints : prints p.region (act_of p x n) ≡ p.prints
  pub over : p.over ≡ true → act_of p x n ≡ None

-- blocks of rows or dummies, of this many slots, are sealed where they lie
abbrev pub SealsBlocks : (pack : ℕ) → (old new : World) → Type 0
SealsBlocks pack old new =
    (good : ℕ → List ℕ → Bool)
    → ((columns : Columns) (region : ℕ) → Accepts good pack columns region)
    → Seals good old new

-- one access was asked; where the store failed the statement, that was it
abbrev pub WentOrFailed : (failed : Bool) → Access → (own : Option ℕ) → (old new : World) → Type 0
WentOrFailed false access own old new = Went (access ∷ []) (own_or_next own old.vault.next) old new
WentOrFailed true access own old new =
    PassCut Failed (access ∷ []) (own_or_next own old.vault.next) old new

-- one that is made is the next one, and it has made none before
abbrev pub MakesNext : Access → (next : ℕ) → (before : Option ℕ) → Type 0
MakesNext (Make q blocks len) next before = (q ≡ next) × (before ≡ None)
MakesNext (Read q place) next before = ⊤
MakesNext (Write q place) next before = ⊤
MakesNext (Discard q) next before = ⊤
MakesNext (Open q blocks len) next before = ⊤

-- the region that it made, after this access
pub record KeepsRegion (access : Access) (next : ℕ) (before after : Option ℕ) : Type 0 where
  pub now : after ≡ region_after (Some access) before
  pub makes : MakesNext access next before

-- the store has room for what it has booked, beside the others, and less is left to ask
pub record Books (others : ℕ) (before after : Progress) (new : World) : Type 0 where
  pub spare : others + after.booked ≤ new.store.spare
  pub few : after.booked ≤ 2 ^ 59
  pub most : after.most < before.most

-- a step asks the next access of all that may turn out to be served
pub record Steps (others : ℕ) (before after : Progress) (May_old May_new : Served → Type 0)
    (Needs_old Needs_new : ℕ → Type 0) (old new : World) : Type 0 where
  pub access : Access
  pub next : (x : Served) → May_old x → act_of before x old.vault.next ≡ Some access
  pub may : (x : Served) → May_new x → May_old x
  pub went : WentOrFailed after.failed access before.region old new
  pub course : KeepsCourse before after
  pub asked : after.asked ≡ before.asked + 1
  pub region : KeepsRegion access old.vault.next before.region after.region
  pub unfailed : before.failed ≡ false
  pub outcome : after.outcome ≡ before.outcome
  pub books : Books others before after new
  pub needs : (q : ℕ) → Needs_new q → Needs_old q ⊎ (q ≡ old.vault.next)
  pub seals : SealsBlocks before.public.pack old new

-- a step that gave up asked its next access, or none where memory was wanted; what is seen of it is what was seen before
pub record StopsStep (e : OpErr) (before after : Progress) (May_old : Served → Type 0)
    (old new : World) : Type 0 where
  pub access : Access
  pub next : (x : Served) → May_old x → act_of before x old.vault.next ≡ Some access
  pub cut : PassCut e (access ∷ []) (own_or_next before.region old.vault.next) old new
  pub never : e ≡ Failed → ⊥
  pub emits : e ≡ Sink → before.prints ≡ true
  pub stays : StaysAs before after
  pub seals : SealsBlocks before.public.pack old new

-- one that has ended has its answer, and is else as it was
pub record Ends (result : Result Outcome EmitErr) (before after : Progress) : Type 0 where
  pub ok : IfOk result (λ outcome. after ≡ record before { outcome = Some outcome })
  pub err : OnErr result (after ≡ before)
