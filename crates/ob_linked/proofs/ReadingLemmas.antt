-- A path that is read by the version of its first bucket.
use Rattle.std.proofs.Common.{◌≡◌, ◌≢◌, ◌<◌, ℕ, ◌+◌, ◌*◌, inl, inr, List, [], ◌∷◌, Result, Ok, Err, OnOk, length, refl, sym, ap, ◌∙◌, arith}
use Rattle.std.specs.Prelude.{if◌then◌else◌}
use Rattle.std.proofs.lemmas.Bool.{cases_eq, ne_eqb, eq-eqb}
use Rattle.ob_path.specs.Paths.{above}
use Rattle.ob_linked.specs.declared.version.Version.{Version}
use Rattle.ob_linked.specs.declared.writing.Step.{Step}
use Rattle.ob_linked.specs.declared.reading.Contents.{Contents}
use Rattle.ob_linked.specs.declared.reading.ReadErr.{ReadErr}
use Rattle.ob_linked.specs.Linked.{Block, Tree, AreApart, IsSealed, place_of, block_at}
use Rattle.ob_linked.specs.Writing.{sealed_as, IsStepOf}
use Rattle.ob_linked.specs.Reading.{WasSealed, child_of, Below, AreRead, Told}

abbrev pub step_of : ℕ → Version → Contents → Step
step_of b v c = record { bucket = b; version = v; left = c.left; right = c.right; rows = c.rows }

module _ (made : List (Block ℕ)) (b : ℕ) (v : Version) (c : Contents) (was : WasSealed made b v c) (apart : AreApart made) (n : ℕ) (t : Tree ℕ) (is_sealed : IsSealed made n t) (same : v ≡ t.version b) (within : b < n) where
  block_is : sealed_as b v c.rows c.left c.right ≡ block_at t b
  block_is = apart.apart (sealed_as b v c.rows c.left c.right) (block_at t b) was.is (is_sealed.each b within) (ap (λ (x : Version). place_of b x.side) same) same

  left_is : c.left ≡ t.version (2 * b + 1)
  left_is = ap (λ (x : Block ℕ). x.body.left) block_is

  right_is : c.right ≡ t.version (2 * b + 2)
  right_is = ap (λ (x : Block ℕ). x.body.right) block_is

  step_is : IsStepOf t (step_of b v c)
  step_is = record { version = same; left = left_is; right = right_is }

  child_is : (d : ℕ) → d ≢ 0 → above d ≡ b → child_of c b d ≡ t.version d
  child_is d some up = elim (cases_eq d (2 * b + 1)) [
    | inl here ↦ ap (λ test. if test then c.left else c.right) (eq-eqb d (2 * b + 1) here) ∙ left_is ∙ ap (λ x. t.version x) (sym here)
    | inr off ↦ ap (λ test. if test then c.left else c.right) (ne_eqb d (2 * b + 1) off) ∙ right_is ∙ ap (λ x. t.version x) (other off)
  ]
    where
      other : (d ≡ 2 * b + 1 → ⊥) → 2 * b + 2 ≡ d
      other off = omega (arith, up, some, off)

below_within : (n b : ℕ) (more : List ℕ) → Below n b more → b < n
below_within n b [] within = within
below_within n b (d ∷ more) (within, some, up, goes) = within

pub told_end : (made : List (Block ℕ)) (b : ℕ) (v : Version) (c : Contents) → WasSealed made b v c → (rest : List Step) → length rest ≡ 0 → Told made v (b ∷ []) (step_of b v c ∷ rest)
told_end made b v c was [] none = record { told = λ apart n t is_sealed starts. record { are = refl; steps_are = (step_is made b v c was apart n t is_sealed starts.0 starts.1, tt) } }
told_end made b v c was (s ∷ rest) none = absurd (omega (arith, none))

pub told_more : (made : List (Block ℕ)) (b d : ℕ) (more : List ℕ) (v next : Version) (c : Contents) → WasSealed made b v c → next ≡ child_of c b d → (result : Result (Unit {0}) ReadErr) (steps : List Step)
    → OnOk result (Told made next (d ∷ more) steps) → OnOk result (Told made v (b ∷ d ∷ more) (step_of b v c ∷ steps))
told_more made b d more v next c was is (Err e) steps none = tt
told_more made b d more v next c was is (Ok u) steps rest = record { told = λ apart n t is_sealed starts. by apart n t is_sealed starts.0 starts.1.0 starts.1.1 starts.1.2 starts.1.3 }
  where
    by : AreApart made → (n : ℕ) (t : Tree ℕ) → IsSealed made n t → v ≡ t.version b → b < n → d ≢ 0 → above d ≡ b → Below n d more → AreRead t (b ∷ d ∷ more) (step_of b v c ∷ steps)
    by apart n t is_sealed same within some up goes =
        let below = rest.told apart n t is_sealed (is ∙ child_is made b v c was apart n t is_sealed same within d some up, goes) in
        record { are = ap (λ xs. b ∷ xs) below.are; steps_are = (step_is made b v c was apart n t is_sealed same within, below.steps_are) }
