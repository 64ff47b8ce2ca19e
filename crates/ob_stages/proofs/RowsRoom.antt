-- Room for the result of a SELECT of rows in flight, and its region.
use Rattle.std.proofs.Common.{◌≡◌, ◌≤◌, ◌+◌, ◌-◌, ℕ, subst}
use Rattle.std.specs.Prelude.{None, Result, Ok, Err}
use Rattle.ob_flat.specs.declared.fault.OpErr.{OpErr}
use Rattle.ob_flat.specs.Creates.{MakesTable, table_of}
use Rattle.ob_store.specs.State.{StoreState}
use Rattle.ob_vault.specs.declared.region.Order.TheVariants.{Any}
use Rattle.ob_vault.specs.State.{World}
use Rattle.ob_stages.specs.declared.rows.Stage.{Stage}
use Rattle.ob_stages.specs.declared.rows.Stage.TheVariants.{Make}
use Rattle.ob_stages.specs.RowsStates.{RowsAt, HasCounted, IsPlaced, PlacedAt, result_in, table_blocks, taken, whole_length}
use Rattle.ob_stages.specs.RowsSteps.{TakesRoom}

-- it has counted, and has no region yet
pub made_from : (g : RowsAt) → IsPlaced g → g.stage ≡ Make → HasCounted g (table_blocks g.q) × (g.region ≡ None)
made_from g is same = subst (λ (s : Stage). PlacedAt s g) same is.at

-- ---- room for its region and for what follows
-- it is taken, or there is none
pub room_taken : {E : Type 0} (g : RowsAt) (others n : ℕ) (result : Result ℕ E) (s t : StoreState) → result ≡ Ok n → TakesRoom g others result s t → (n ≡ whole_length g.q g.k - g.asked) × (others + n ≤ t.spare)
room_taken {E} g others n result s t is takes = let here : TakesRoom {E = E} g others (Ok n) s t = subst (λ (r : Result ℕ E). TakesRoom g others r s t) is takes in here.spare

pub room_none : {E : Type 0} (g : RowsAt) (others : ℕ) (e : E) (result : Result ℕ E) (s t : StoreState) → result ≡ Err e → TakesRoom g others result s t → g.q.public.pad ≡ None
room_none {E} g others e result s t is takes = let here : TakesRoom {E = E} g others (Err e) s t = subst (λ (r : Result ℕ E). TakesRoom g others r s t) is takes in here.padded

-- ---- its region, in the words of the flight
pub makes_as : (g : RowsAt) (pack capacity own : ℕ) (result found : Result ℕ OpErr) (old new : World) → pack ≡ g.q.public.pack → capacity ≡ taken g.q g.k → result ≡ found → MakesTable Any pack (table_of g.q.flat.schema capacity own) result old new
    → MakesTable Any g.q.public.pack (result_in g.q g.k own) found old new
makes_as g pack capacity own result found old new pack_is capacity_is is made =
    subst (λ (r : Result ℕ OpErr). MakesTable Any g.q.public.pack (result_in g.q g.k own) r old new) is
    (subst (λ (n : ℕ). MakesTable Any g.q.public.pack (table_of g.q.flat.schema n own) result old new) capacity_is
    (subst (λ (n : ℕ). MakesTable Any n (table_of g.q.flat.schema capacity own) result old new) pack_is made))

-- it is the next one
pub makes_next : (g : RowsAt) (own n : ℕ) (old new : World) → MakesTable Any g.q.public.pack (result_in g.q g.k own) (Ok n) old new → MakesTable Any g.q.public.pack (result_in g.q g.k own) (Ok own) old new
makes_next g own n old new made = subst (λ (m : ℕ). MakesTable Any g.q.public.pack (result_in g.q g.k own) (Ok m) old new) made.number made
