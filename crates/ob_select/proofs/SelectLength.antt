-- How much is asked of a selection doesn't hang on the numbers of its regions.
use Rattle.std.proofs.Common.{◌≡◌, ◌<◌, ◌+◌, ◌*◌, ℕ, suc, List, ◌++◌, length, Option, Some, None, refl, sym, ◌∙◌, ap, length-append}
use Rattle.ob_base.specs.declared.access.Access.{Access}
use Rattle.ob_base.specs.declared.config.Plan.{Plan}
use Rattle.ob_base.specs.declared.config.Plan.TheVariants.{Small, Large, Continuous, Hash}
use Rattle.ob_base.specs.declared.config.Public.{Public}
use Rattle.ob_base.specs.declared.seen.Seen.{Seen}
use Rattle.ob_base.specs.Lists.{each}
use Rattle.ob_base.specs.Stored.{Stored}
use Rattle.ob_base.specs.Accesses.{discard_at}
use Rattle.ob_base.specs.Limits.{buffered_blocks}
use Rattle.ob_base.specs.Numbers.{blocks_for}
use Rattle.ob_base.specs.Plans.{choose_padded, padded_rows}
use Rattle.ob_script.specs.Parts.{continuous_block, continuous_part, copy_part, count_part, create_part, emission_part, hash_block, hash_part, large_part}
use Rattle.ob_script.specs.Script.{after_count, behind_count, blocks_of, extent_of, padded_part, plan_part, result_blocks, result_part, rows_width, select_part}
use Rattle.ob_script.proofs.Lengths.{length-buckets, length-copy_part, length-count_part, length-passes, length-turns, length-writes}

both_length : (a b c d : List Access) → length a ≡ length b → length c ≡ length d → length (a ++ c) ≡ length (b ++ d)
both_length a b c d first second = length-append a c ∙ (λ i. first i + second i) ∙ sym (length-append b d)

large_length : (t g blocks width : ℕ) → length (large_part t g blocks width) ≡ suc (blocks * 2 + blocks * 2)
large_length t g blocks width =
    ap suc (length-append (copy_part t g blocks) (copy_part g g blocks) ∙ (λ i. length-copy_part t g blocks i + length-copy_part g g blocks i))

continuous_length : (t g h pack n k width : ℕ) → 0 < pack → length (continuous_part t g pack n k width) ≡ length (continuous_part t h pack n k width)
continuous_length t g h pack n k width some =
    both_length (create_part g (blocks_for pack k) width) (create_part h (blocks_for pack k) width) (each (blocks_for pack n) (continuous_block t g pack n k)) (each (blocks_for pack n) (continuous_block t h pack n k))
    (ap suc (length-writes g (blocks_for pack k) ∙ sym (length-writes h (blocks_for pack k))))
    (length-turns t g pack n k some ∙ sym (length-turns t h pack n k some))

hash_length : (t g h pack n k depth width : ℕ) → 0 < pack → length (hash_part t g pack n k depth width) ≡ length (hash_part t h pack n k depth width)
hash_length t g h pack n k depth width some =
    both_length (create_part g (k * depth) width) (create_part h (k * depth) width) (each (blocks_for pack n) (hash_block t g pack n k depth)) (each (blocks_for pack n) (hash_block t h pack n k depth))
    (ap suc (length-writes g (k * depth) ∙ sym (length-writes h (k * depth))))
    (length-buckets t g pack n k depth some ∙ sym (length-buckets t h pack n k depth some))

emission_length : (g h blocks : ℕ) → length (emission_part g blocks) ≡ length (emission_part h blocks)
emission_length g h blocks =
    both_length (count_part g blocks) (count_part h blocks) (discard_at g) (discard_at h) (length-count_part g blocks ∙ sym (length-count_part h blocks)) refl

module _ (p : Public) (some : 0 < p.pack) (enough : 0 < buffered_blocks p.pack p.buffer) where
  plan_length : (plan : Plan) (k g h : ℕ) (t : Stored ℕ) → length (plan_part p plan k g (extent_of t)) ≡ length (plan_part p plan k h (extent_of t))
  plan_length Small k g h t =
      ap suc (length-passes t.held g (blocks_of p (extent_of t)) (blocks_for p.pack k) (buffered_blocks p.pack p.buffer) enough
      ∙ sym (length-passes t.held h (blocks_of p (extent_of t)) (blocks_for p.pack k) (buffered_blocks p.pack p.buffer) enough))
  plan_length Large k g h t =
      large_length t.held g (blocks_of p (extent_of t)) (rows_width p (extent_of t)) ∙ sym (large_length t.held h (blocks_of p (extent_of t)) (rows_width p (extent_of t)))
  plan_length Continuous k g h t = continuous_length t.held g h p.pack t.heading.capacity k (rows_width p (extent_of t)) some
  plan_length Hash k g h t = hash_length t.held g h p.pack t.heading.capacity k p.depth (rows_width p (extent_of t)) some

  pub result_length : (plan : Option Plan) (k g h : ℕ) (t : Stored ℕ) → length (result_part p plan k g (extent_of t)) ≡ length (result_part p plan k h (extent_of t))
  result_length None k g h t = refl
  result_length (Some plan) k g h t =
      both_length (plan_part p plan k g (extent_of t)) (plan_part p plan k h (extent_of t))
      (emission_part g (result_blocks p plan k (extent_of t))) (emission_part h (result_blocks p plan k (extent_of t)))
      (plan_length plan k g h t) (emission_length g h (result_blocks p plan k (extent_of t)))

  after_length : (now : Seen) (k : Option ℕ) (g h : ℕ) (t : Stored ℕ) (ending : List Access)
      → length (after_count p now k g (extent_of t) ending) ≡ length (after_count p now k h (extent_of t) ending)
  after_length now None g h t ending = refl
  after_length now (Some k) g h t ending =
      both_length (result_part p now.plan k g (extent_of t)) (result_part p now.plan k h (extent_of t))
      (result_part p now.then k (g + 1) (extent_of t) ++ ending) (result_part p now.then k (h + 1) (extent_of t) ++ ending)
      (result_length now.plan k g h t)
      (both_length (result_part p now.then k (g + 1) (extent_of t)) (result_part p now.then k (h + 1) (extent_of t)) ending ending (result_length now.then k (g + 1) (h + 1) t) refl)

  behind_length : (pad : Option ℕ) (now : Seen) (g h : ℕ) (t : Stored ℕ) (ending : List Access)
      → length (behind_count pad p now g (extent_of t) ending) ≡ length (behind_count pad p now h (extent_of t) ending)
  behind_length None now g h t ending = after_length now now.k g h t ending
  behind_length (Some pad) now g h t ending =
      let q = padded_rows pad t.heading.capacity in
      both_length (padded_part p pad g (extent_of t)) (padded_part p pad h (extent_of t)) ending ending
      (result_length (Some (choose_padded p.planner p.pack p.buffer t.heading.capacity q)) q g h t) refl

  pub select_length : (now : Seen) (g h : ℕ) (t : Stored ℕ) (ending : List Access)
      → length (select_part p now g (extent_of t) ending) ≡ length (select_part p now h (extent_of t) ending)
  select_length now g h t ending =
      both_length (count_part t.held (blocks_of p (extent_of t))) (count_part t.held (blocks_of p (extent_of t)))
      (behind_count p.pad p now g (extent_of t) ending) (behind_count p.pad p now h (extent_of t) ending) refl (behind_length p.pad now g h t ending)
