-- A second plan comes after a first, and nothing is held of either before.
use Rattle.ob_exec.proofs.Words.{AfterCount, ap, arith, Bool, End, false, Hash, held_if, if◌then◌else◌, length, List, nat_le, nat_tests, None, Option, Plan, Public, refl, Seen, Small, Some, sym, true, Whole, ℕ, [], ◌<◌, ◌∷◌, ◌≡◌}
use Rattle.ob_base.specs.declared.config.Plan.TheVariants.{Large, Continuous}
use Rattle.ob_row.specs.Slots.{is_consecutive}
use Rattle.ob_mean.specs.Verdict.{fallback, first_unplaced, plan_for, seen_by, seen_rows, seen_with}
use Rattle.ob_exec.proofs.RowsLawful.{seen_as}

pub data Seconded (now : Seen) : Type 0 where
  alone : (is : now.then ≡ None) → Seconded now
  followed : (k : ℕ) (plan second : Plan) (end : End) (is : now ≡ seen_as (Some k) (Some plan) (Some second) end) → Seconded now

hash_seconded : (k : ℕ) (second : Option Plan) → Seconded (seen_as (Some k) (Some Hash) second Whole)
hash_seconded k None = alone refl
hash_seconded k (Some second) = followed k Hash second Whole refl

by_turn : (b : Bool) (k : ℕ) → Seconded (if b then seen_as (Some k) (Some Continuous) None Whole else seen_as (Some k) None None AfterCount)
by_turn true k = alone refl
by_turn false k = alone refl

with_seconded : (p : Public) (plan : Plan) (places : List ℕ) → Seconded (seen_with p plan places)
with_seconded p Small places = alone refl
with_seconded p Large places = alone refl
with_seconded p Continuous places = by_turn (is_consecutive places) (length places)
with_seconded p Hash places = hash_seconded (length places) (fallback p.planner (first_unplaced p places))

by_seconded : (pad : Option ℕ) (p : Public) (n : ℕ) (places : List ℕ) → Seconded (seen_by pad p n places)
by_seconded None p n [] = alone refl
by_seconded None p n (i ∷ is) = with_seconded p (plan_for p n (i ∷ is)) (i ∷ is)
by_seconded (Some pad) p n places = alone refl

pub rows_seconded : (p : Public) (n : ℕ) (places : List ℕ) → Seconded (seen_rows p n places)
rows_seconded p n places = by_seconded p.pad p n places

-- nothing is held before
pub held_none : {A : Type 0} (o : Option A) (m n : ℕ) → n < m → None ≡ held_if (nat_le m n) o
held_none {A} o m n less = sym (ap (λ (b : Bool). held_if b o) off)
  where
    off : nat_le m n ≡ false
    off = grind (arith, nat_tests)
