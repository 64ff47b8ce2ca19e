-- The plan with the shortest script.
use Rattle.std.proofs.Common.{◌≡◌, ◌≢◌, ℕ, ◌+◌, ◌*◌, ◌≤◌, length, ◌∙◌, ap, subst, arith}
use Rattle.std.specs.Prelude.{Bool, true, false, Some}
use Rattle.std.proofs.lemmas.List.{length-append}
use Rattle.std.proofs.Math.Nat.{le-mul_of_pos_right, mul-le-mul_left, mul-le-mul_right}
use Rattle.ob_base.specs.declared.config.Plan.{Plan}
use Rattle.ob_base.specs.declared.config.Plan.TheVariants.{Small, Large, Continuous, Hash}
use Rattle.ob_base.specs.declared.config.Planner.TheVariants.{Cheapest}
use Rattle.ob_base.specs.declared.config.Public.{Public}
use Rattle.ob_base.specs.Limits.{buffered_blocks}
use Rattle.ob_base.specs.Numbers.{blocks_for}
use Rattle.ob_base.specs.Plans.{choose, choose_padded, continuous_length, large_length, least, small_length}
use Rattle.ob_base.proofs.PlanLemmas.{least_shortest}
use Rattle.ob_script.specs.declared.extent.Extent.{Extent}
use Rattle.ob_script.specs.Parts.{emission_part}
use Rattle.ob_script.specs.Script.{blocks_of, plan_part, result_blocks, result_part, rows_width}
use Rattle.ob_script.specs.Sizes.{IsPublic}
use Rattle.ob_script.proofs.Few.{buffer_some}
use Rattle.ob_script.proofs.Numbers.{ceil_least, length-continuous_part, length-emission_part, length-hash_part, length-large_part, length-small_part}

module _ (p : Public) (k g : ℕ) (t : Extent) (h : IsPublic p) where
  abbrev length_by : Plan → ℕ
  length_by plan = length (result_part p (Some plan) k g t)

  both : (plan : Plan) → length_by plan ≡ length (plan_part p plan k g t) + (result_blocks p plan k t + 1)
  both plan =
      length-append (plan_part p plan k g t) (emission_part g (result_blocks p plan k t))
      ∙ ap (λ n. length (plan_part p plan k g t) + n) (length-emission_part g (result_blocks p plan k t))

  small_is : length_by Small ≡ small_length p.pack p.buffer t.slots k
  small_is =
      let e = length-small_part t.region g (blocks_of p t) (blocks_for p.pack k) (buffered_blocks p.pack p.buffer) (rows_width p t) (buffer_some p h) in
      omega (arith, both Small, e)

  continuous_is : length_by Continuous ≡ continuous_length p.pack t.slots k
  continuous_is =
      let e = length-continuous_part t.region g p.pack t.slots k (rows_width p t) h.pack_some in
      omega (arith, both Continuous, e)

  large_is : length_by Large ≡ large_length p.pack t.slots
  large_is =
      let e = length-large_part t.region g (blocks_of p t) (rows_width p t) in
      omega (arith, both Large, e)

  -- Hash asks each slot for two buckets of a block or more, and no table has more blocks than slots
  hash_longer : length_by Large ≤ length_by Hash
  hash_longer =
      let e = length-hash_part t.region g p.pack t.slots k p.depth (rows_width p t) h.pack_some in
      let deep : 4 * 1 ≤ 4 * p.depth = mul-le-mul_left 4 h.depth_some in
      let buckets : 4 * 1 * t.slots ≤ 4 * p.depth * t.slots = mul-le-mul_right t.slots deep in
      let few : blocks_for p.pack t.slots ≤ t.slots = ceil_least t.slots p.pack t.slots h.pack_some (le-mul_of_pos_right {m = p.pack} t.slots h.pack_some) in
      omega (arith, both Hash, e, buckets, few, large_is)

  pub shortest : (consecutive : Bool) (plan : Plan) → (plan ≡ Continuous → consecutive ≡ true)
      → length (result_part p (Some (choose Cheapest p.pack p.buffer t.slots k consecutive)) k g t) ≤ length (result_part p (Some plan) k g t)
  shortest consecutive plan fits =
      let same : least (length_by Small) (length_by Continuous) (length_by Large) consecutive ≡ choose Cheapest p.pack p.buffer t.slots k consecutive
      = λ i. least (small_is i) (continuous_is i) (large_is i) consecutive in
      subst (λ (taken : Plan). length_by taken ≤ length_by plan) same (least_shortest length_by consecutive plan hash_longer fits)

  -- rows of a padded result are taken not to lie side by side
  pub padded_shortest : (plan : Plan) → plan ≢ Continuous
      → length (result_part p (Some (choose_padded Cheapest p.pack p.buffer t.slots k)) k g t) ≤ length (result_part p (Some plan) k g t)
  padded_shortest plan apart = shortest false plan (λ e. absurd (apart e))
