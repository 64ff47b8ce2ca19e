-- A padded result, and where more rows are selected than it is padded to.
use Rattle.std.proofs.Common.{◌≡◌, ◌<◌, ◌≤◌, ◌*◌, ℕ, Bool, true, false, List, None, Some, Result, length, sym, ◌∙◌, ap, subst, arith}
use Rattle.std.specs.Prelude.{nat_le, nat_lt, if◌then◌else◌}
use Rattle.std.proofs.lemmas.Bool.Decides.{nat_tests}
use Rattle.ob_base.specs.declared.config.Plan.{Plan}
use Rattle.ob_base.specs.declared.config.Plan.TheVariants.{Small, Large, Continuous, Hash}
use Rattle.ob_base.specs.declared.config.Planner.{Planner}
use Rattle.ob_base.specs.declared.config.Planner.TheVariants.{Auto, Cheapest, Forced}
use Rattle.ob_base.specs.declared.refusal.Refusal.TheVariants.{PadPassed}
use Rattle.ob_base.specs.Limits.{buffered}
use Rattle.ob_base.specs.Plans.{MayPad, choose_padded, large_length, padded_rows, small_length}
use Rattle.ob_base.specs.Schemas.{width}
use Rattle.ob_room.specs.RoomState.{RoomState}
use Rattle.ob_script.specs.Sizes.{HasRows}
use Rattle.ob_vault.specs.State.{World}
use Rattle.ob_blocks.specs.Idle.{IsIdle}
use Rattle.ob_flat.specs.declared.flat.Flat.{Flat}
use Rattle.ob_flat.specs.declared.fault.OpErr.{OpErr}
use Rattle.ob_flat.specs.Flats.{IsWritten}
use Rattle.ob_hash.specs.declared.selecting.Placed.{Placed}
use Rattle.ob_mean.specs.Verdict.{padded_refusal}
use Rattle.ob_select.specs.Selecting.{Selection}
use Rattle.ob_select.specs.Results.{Planned, MakesResult, padded, padded_to}

-- the plan of a padded result may be taken
may_if : (b : Bool) → MayPad (Forced (if b then Small else Large))
may_if true = tt
may_if false = tt

pub may_choose : (planner : Planner) (pack rows n q : ℕ) → MayPad planner → MayPad (Forced (choose_padded planner pack rows n q))
may_choose Auto pack rows n q may = may_if (nat_le q (4 * buffered pack rows))
may_choose Cheapest pack rows n q may = may_if (nat_le (small_length pack rows n q) (large_length pack n))
may_choose (Forced plan) pack rows n q may = may

-- and goes by no rows
pub rows_of_padded : (plan : Plan) (k : ℕ) → MayPad (Forced plan) → HasRows plan k
rows_of_padded Small k may = tt
rows_of_padded Large k may = tt
rows_of_padded Continuous k may = absurd may
rows_of_padded Hash k may = absurd may

-- by what its code computes
pub padded_at : (q : Selection) (plan : Plan) (rows pad k : ℕ) → rows ≡ padded_rows pad q.flat.capacity → plan ≡ choose_padded q.public.planner q.public.pack q.public.buffer q.flat.capacity rows
    → padded q plan rows pad k ≡ padded_to q pad k
padded_at q plan rows pad k is so =
    let plan_is : plan ≡ choose_padded q.public.planner q.public.pack q.public.buffer q.flat.capacity (padded_rows pad q.flat.capacity)
    = so ∙ ap (choose_padded q.public.planner q.public.pack q.public.buffer q.flat.capacity) is in
    λ i. padded q (plan_is i) (is i) pad k

-- the rows that are selected, and the padding
within : (pad n : ℕ) → n ≤ pad → nat_lt pad n ≡ false
within pad n le = grind (arith, nat_tests)

beyond : (pad n : ℕ) → pad < n → nat_lt pad n ≡ true
beyond pad n lt = grind (arith, nat_tests)

pub pad_holds : (pad k : ℕ) (places : List ℕ) → k ≡ length places → k ≤ pad → None ≡ padded_refusal pad places
pad_holds pad k places count off = sym (ap (λ (b : Bool). if b then Some PadPassed else None) (within pad (length places) (omega (arith, count, off))))

pub pad_passed : (pad k : ℕ) (places : List ℕ) → k ≡ length places → pad < k → Some PadPassed ≡ padded_refusal pad places
pad_passed pad k places count more = sym (ap (λ (b : Bool). if b then Some PadPassed else None) (beyond pad (length places) (omega (arith, count, more))))

pub padded_goes : (q : Selection) (pad k : ℕ) → MayPad q.public.planner → HasRows (padded_to q pad k).plan k
padded_goes q pad k may =
    rows_of_padded (padded_to q pad k).plan k (may_choose q.public.planner q.public.pack q.public.buffer q.flat.capacity (padded_rows pad q.flat.capacity) may)

pub padded_fits : (pad n k : ℕ) → k ≤ pad → k ≤ n → k ≤ padded_rows pad n
padded_fits pad n k off most = omega (arith, off, most)

-- ---- of an equal pack and an equal region
pub written_at : (p q : ℕ) (f h : Flat) (w : World) → p ≡ q → f ≡ h → IsWritten q h w → IsWritten p f w
written_at p q f h w pack same is = subst (λ (x : Flat). IsWritten p x w) (sym same) (subst (λ (n : ℕ). IsWritten n h w) (sym pack) is)

pub idle_at : (old new : RoomState) (f h : Flat) → new ≡ record old { high = new.high } → f ≡ h → width h.schema ≤ 1024 → IsIdle 1024 old → IsIdle (width f.schema) new
idle_at old new f h room same few idle =
    subst (λ (x : Flat). IsIdle (width x.schema) new) (sym same)
    (subst (λ (x : RoomState). IsIdle (width h.schema) x) (sym room) (record { free = idle.free; shelf = idle.shelf; enough = idle.enough; wide = omega (arith, few, idle.wide) }))

pub made_at : (q : Selection) (plan : Plan) (rows pad k : ℕ) (result : Result Placed OpErr) (old new : World) → padded q plan rows pad k ≡ padded_to q pad k
    → MakesResult (padded q plan rows pad k) result old new → MakesResult (padded_to q pad k) result old new
made_at q plan rows pad k result old new same is = subst (λ (r : Planned). MakesResult r result old new) same is
