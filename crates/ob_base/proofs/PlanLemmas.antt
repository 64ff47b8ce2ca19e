-- What the planner may choose.
use Rattle.std.proofs.Common.{◌≡◌, ◌≢◌, ◌⊎◌, ◌≤◌, ◌*◌, ℕ, Bool, true, false, nat_le, min, arith, refl, inl, inr, sym, ◌∙◌, ap}
use Rattle.std.specs.Prelude.{cond}
use Rattle.std.proofs.lemmas.Bool.{leb-true, leb-false}
use Rattle.ob_base.specs.declared.config.Plan.{Plan}
use Rattle.ob_base.specs.declared.config.Plan.TheVariants.{Small, Large, Continuous, Hash}
use Rattle.ob_base.specs.declared.config.Planner.{Planner}
use Rattle.ob_base.specs.declared.config.Planner.TheVariants.{Auto, Cheapest, Forced}
use Rattle.ob_base.specs.Limits.{buffered}
use Rattle.ob_base.specs.Plans.{choose, continuous_length, large_length, least, small_length}

-- the plan with the least length is Small, Large, or where the rows lie side by side Continuous
pub by_least : (P : Plan → Type 0) (small continuous large : ℕ) (consecutive : Bool) → P Small → P Large → (consecutive ≡ true → P Continuous)
    → P (least small continuous large consecutive)
by_least P small continuous large false a b c = elim (nat_le small large) as (λ x. P (cond x Small Large)) [ true ↦ a | false ↦ b ]
by_least P small continuous large true a b c =
    elim (nat_le small (min continuous large)) as (λ x. P (cond x Small (cond (nat_le continuous large) Continuous Large))) [
      | true ↦ a
      | false ↦ elim (nat_le continuous large) as (λ x. P (cond x Continuous Large)) [ true ↦ c refl | false ↦ b ]
    ]

-- no length of a plan that may be taken is less
abbrev Least : (f : Plan → ℕ) → (consecutive : Bool) → Plan → Type 0
Least f consecutive plan = (f plan ≤ f Small) × (f plan ≤ f Large) × (consecutive ≡ true → f plan ≤ f Continuous)

apart : (f : Plan → ℕ) → Least f false (least (f Small) (f Continuous) (f Large) false)
apart f = go (nat_le (f Small) (f Large)) refl where
  go : (x : Bool) → nat_le (f Small) (f Large) ≡ x → Least f false (cond x Small Large)
  go true e = (omega arith, leb-true (f Small) (f Large) e, λ h. absurd (cc h))
  go false e = (omega (arith, leb-false (f Small) (f Large) e), omega arith, λ h. absurd (cc h))

side_by_side : (f : Plan → ℕ) → Least f true (least (f Small) (f Continuous) (f Large) true)
side_by_side f = go (nat_le (f Small) (min (f Continuous) (f Large))) refl where
  other : (x : Bool) → nat_le (f Continuous) (f Large) ≡ x → min (f Continuous) (f Large) ≤ f Small → Least f true (cond x Continuous Large)
  other true e less = let h = leb-true (f Continuous) (f Large) e in (omega (arith, h, less), h, λ _. omega arith)
  other false e less = let h = leb-false (f Continuous) (f Large) e in (omega (arith, h, less), omega arith, λ _. omega (arith, h))

  go : (x : Bool) → nat_le (f Small) (min (f Continuous) (f Large)) ≡ x → Least f true (cond x Small (cond (nat_le (f Continuous) (f Large)) Continuous Large))
  go true e = let h = leb-true (f Small) (min (f Continuous) (f Large)) e in (omega arith, omega (arith, h), λ _. omega (arith, h))
  go false e = other (nat_le (f Continuous) (f Large)) refl (let h = leb-false (f Small) (min (f Continuous) (f Large)) e in omega (arith, h))

-- by the lengths of all plans, no plan that may be taken is shorter than the one with the least of three, where Hash is not
-- shorter than Large
pub least_shortest : (f : Plan → ℕ) (consecutive : Bool) (plan : Plan) → f Large ≤ f Hash → (plan ≡ Continuous → consecutive ≡ true)
    → f (least (f Small) (f Continuous) (f Large) consecutive) ≤ f plan
least_shortest f consecutive plan longer fits = go plan fits where
  all : (c : Bool) → Least f c (least (f Small) (f Continuous) (f Large) c)
  all false = apart f
  all true = side_by_side f

  go : (plan : Plan) → (plan ≡ Continuous → consecutive ≡ true) → f (least (f Small) (f Continuous) (f Large) consecutive) ≤ f plan
  go Small fits = (all consecutive).0
  go Large fits = (all consecutive).1
  go Continuous fits = (all consecutive).2 (fits refl)
  go Hash fits = let h = (all consecutive).1 in omega (arith, h, longer)

pub never_hash : (small continuous large : ℕ) (consecutive : Bool) → least small continuous large consecutive ≢ Hash
never_hash small continuous large consecutive =
    by_least (λ (plan : Plan). plan ≢ Hash) small continuous large consecutive (λ h. absurd (cc h)) (λ h. absurd (cc h)) (λ is h. absurd (cc h))

pub not_apart : (small continuous large : ℕ) (consecutive : Bool) → least small continuous large consecutive ≡ Continuous → consecutive ≡ true
not_apart small continuous large consecutive =
    by_least (λ (plan : Plan). plan ≡ Continuous → consecutive ≡ true) small continuous large consecutive (λ h. absurd (cc h)) (λ h. absurd (cc h)) (λ is h. is)

-- ---- what the planner chooses
-- Continuous for rows side by side, or because it is forced
pub continuous_by : (planner : Planner) (pack rows n k : ℕ) (consecutive : Bool) → choose planner pack rows n k consecutive ≡ Continuous
    → (planner ≡ Forced Continuous) ⊎ (consecutive ≡ true)
continuous_by (Forced plan) pack rows n k consecutive h = inl (ap Forced h)
continuous_by Cheapest pack rows n k consecutive h = inr (not_apart (small_length pack rows n k) (continuous_length pack n k) (large_length pack n) consecutive h)
continuous_by Auto pack rows n k consecutive h = inr (go (nat_le k (4 * buffered pack rows)) consecutive (nat_le (3 * n) (4 * k)) h) where
  go : (a b c : Bool) → cond a Small (cond b Continuous (cond c Large Hash)) ≡ Continuous → b ≡ true
  go true b c e = absurd (cc e)
  go false true c e = refl
  go false false true e = absurd (cc e)
  go false false false e = absurd (cc e)

-- Hash by the rows that may be buffered, or because it is forced
pub hash_by : (planner : Planner) (pack rows n k : ℕ) (consecutive : Bool) → choose planner pack rows n k consecutive ≡ Hash → (planner ≡ Forced Hash) ⊎ (planner ≡ Auto)
hash_by (Forced plan) pack rows n k consecutive h = inl (ap Forced h)
hash_by Cheapest pack rows n k consecutive h = absurd (never_hash (small_length pack rows n k) (continuous_length pack n k) (large_length pack n) consecutive h)
hash_by Auto pack rows n k consecutive h = inr refl

-- for rows that lie apart Continuous is forced
pub forced_apart : (plan : Plan) (planner : Planner) (pack rows n k : ℕ) (consecutive : Bool) → plan ≡ choose planner pack rows n k consecutive → plan ≡ Continuous
    → consecutive ≡ false → planner ≡ Forced Continuous
forced_apart plan planner pack rows n k consecutive chosen is apart =
    elim (continuous_by planner pack rows n k consecutive (sym chosen ∙ is)) [ inl forced ↦ forced | inr side ↦ absurd (cc (sym side ∙ apart)) ]

-- Hash that isn't chosen by the rows that may be buffered is forced
pub forced_hash : (plan : Plan) (planner : Planner) (pack rows n k : ℕ) (consecutive : Bool) → plan ≡ choose planner pack rows n k consecutive → plan ≡ Hash
    → planner ≢ Auto → planner ≡ Forced Hash
forced_hash plan planner pack rows n k consecutive chosen is other =
    elim (hash_by planner pack rows n k consecutive (sym chosen ∙ is)) [ inl forced ↦ forced | inr auto ↦ absurd (other auto) ]
