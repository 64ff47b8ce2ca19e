-- The keys of a region in a run with a salt are those of its own salt.
use Rattle.std.proofs.Common.{◌≡◌, ◌≢◌, inl, inr, arith, zero, suc, ℕ, ◌<◌, ◌==◌, Bool, true, false, List, [], ◌∷◌, Option, Some, map, if◌then◌else◌, refl, sym, ◌∙◌, ap}
use Rattle.std.proofs.lemmas.Bool.{cases_eq}
use Rattle.std.proofs.lemmas.Bool.Decides.{nat_tests}
use Rattle.std.specs.Prelude.{slice_get}
use Rattle.ob_seal.specs.declared.Salted.{Salted}
use Rattle.ob_seal.specs.declared.pairs.Pair.{Pair}
use Rattle.ob_seal.specs.KeySet.{KeySet, pair_in, pair_of}
use Rattle.ob_seal.specs.Sealed.{AreBefore, AreOfSecret, AreSaltsOf, IsEarlier, held_of, keys_of, keys_salted, pair_by, relisted, salt_at}

module _ (secret salt : List ℕ) where
  chosen : (b : Bool) (x y : Option (List ℕ)) → (if b then pair_by secret x else pair_by secret y) ≡ pair_by secret (if b then x else y)
  chosen true x y = refl
  chosen false x y = refl

  among : (earlier : List Salted) (q : ℕ) → pair_in (pair_by secret (Some salt)) (map (held_of secret) earlier) q ≡ pair_by secret (salt_at salt earlier q)
  unfolding pair_in salt_at
  among [] q = refl
  among (e ∷ es) q =
      ap (λ (p : Pair). if e.region == q then pair_by secret e.salt else p) (among es q)
      ∙ chosen (e.region == q) e.salt (salt_at salt es q)

  pub salted_pair : (earlier : List Salted) (q : ℕ) → pair_of (keys_salted secret salt earlier) q ≡ pair_by secret (salt_at salt earlier q)
  salted_pair earlier q = among earlier q

module _ (s t : List ℕ) (earlier : List Salted) (r q : ℕ) (rs : List ℕ) where
  chosen_salt : Bool → Option (List ℕ)
  chosen_salt b = if b then salt_at s earlier r else salt_at t (relisted s earlier rs) q

  salt_here : r ≡ q → salt_at t (relisted s earlier (r ∷ rs)) q ≡ salt_at s earlier q
  unfolding salt_at chosen_salt
  salt_here same =
      let test : (r == q) ≡ true = grind (arith, nat_tests) in
      ap chosen_salt test ∙ ap (salt_at s earlier) same

  salt_further : r ≢ q → salt_at t (relisted s earlier (r ∷ rs)) q ≡ salt_at t (relisted s earlier rs) q
  unfolding salt_at chosen_salt
  salt_further off =
      let test : (r == q) ≡ false = grind (arith, nat_tests) in
      ap chosen_salt test

-- a run that lists regions of one before it, each with its salt, knows the same salt of each
kept_salt : (s t : List ℕ) (earlier : List Salted) (regions : List ℕ) (i q : ℕ) → slice_get regions i ≡ Some q → salt_at t (relisted s earlier regions) q ≡ salt_at s earlier q
kept_salt s t earlier [] zero q is = absurd (cc is)
kept_salt s t earlier [] (suc i) q is = absurd (cc is)
kept_salt s t earlier (r ∷ rs) zero q is = let same : r ≡ q = cc is in salt_here s t earlier r q rs same
kept_salt s t earlier (r ∷ rs) (suc i) q is = elim (cases_eq r q) [
  | inl same ↦ salt_here s t earlier r q rs same
  | inr off ↦ salt_further s t earlier r q rs off ∙ kept_salt s t earlier rs i q is
]

-- runs of one secret, under whatever salts of theirs, have the same keys for a region of which they know the same salt
pub salts_agree : (secret s t : List ℕ) (one other : List Salted) (q : ℕ) → salt_at s one q ≡ salt_at t other q → pair_of (keys_salted secret s one) q ≡ pair_of (keys_salted secret t other) q
salts_agree secret s t one other q same = salted_pair secret s one q ∙ ap (pair_by secret) same ∙ sym (salted_pair secret t other q)

pub relisted_pair : (secret s t : List ℕ) (earlier : List Salted) (regions : List ℕ) (i q : ℕ) → slice_get regions i ≡ Some q
    → pair_of (keys_salted secret t (relisted s earlier regions)) q ≡ pair_of (keys_salted secret s earlier) q
relisted_pair secret s t earlier regions i q is = salts_agree secret t s (relisted s earlier regions) earlier q (kept_salt s t earlier regions i q is)

-- a region after those of earlier runs has the run's own salt
own_salt : (salt : List ℕ) (earlier : List Salted) (q : ℕ) → AreBefore q earlier → salt_at salt earlier q ≡ Some salt
unfolding salt_at
own_salt salt [] q before = refl
own_salt salt (e ∷ es) q before =
    let less : e.region < q = before.0 in
    let off : e.region ≢ q = λ same. absurd (omega (arith, same, less)) in
    let test : (e.region == q) ≡ false = grind (arith, nat_tests) in
    ap (λ (b : Bool). if b then e.salt else salt_at salt es q) test ∙ own_salt salt es q before.1

pub own_pair : (secret salt : List ℕ) (earlier : List Salted) (q : ℕ) → AreBefore q earlier → pair_of (keys_salted secret salt earlier) q ≡ pair_by secret (Some salt)
own_pair secret salt earlier q before = salted_pair secret salt earlier q ∙ ap (pair_by secret) (own_salt salt earlier q before)

-- ---- a run that lists regions with the salts that other keys of the secret have for them, has those keys for them
module _ (secret salt : List ℕ) (keys : KeySet) where
  found : (earlier : List Salted) (q : ℕ) → AreSaltsOf keys earlier → IsEarlier q earlier → salt_at salt earlier q ≡ (pair_of keys q).salt
  unfolding salt_at
  found [] q are is = absurd is
  found (e ∷ es) q are is = elim (cases_eq e.region q) [
    | inl same ↦
        let test : (e.region == q) ≡ true = grind (arith, nat_tests) in
        ap (λ (b : Bool). if b then e.salt else salt_at salt es q) test ∙ are.0 ∙ ap (λ (r : ℕ). (pair_of keys r).salt) same
    | inr off ↦
        let test : (e.region == q) ≡ false = grind (arith, nat_tests) in
        let further : IsEarlier q es = elim is [ inl same ↦ absurd (off same) | inr more ↦ more ] in
        ap (λ (b : Bool). if b then e.salt else salt_at salt es q) test ∙ found es q are.1 further
  ]

  pub known_pair : (earlier : List Salted) (q : ℕ) → AreOfSecret secret keys → AreSaltsOf keys earlier → IsEarlier q earlier → pair_of (keys_salted secret salt earlier) q ≡ pair_of keys q
  known_pair earlier q of are is = salted_pair secret salt earlier q ∙ ap (pair_by secret) (found earlier q are is) ∙ sym (of q)

pub salted_of_secret : (secret salt : List ℕ) (earlier : List Salted) → AreOfSecret secret (keys_salted secret salt earlier)
salted_of_secret secret salt earlier q =
    let is = salted_pair secret salt earlier q in
    is ∙ ap (pair_by secret) (ap (λ (p : Pair). p.salt) (sym is))

pub plain_of_secret : (secret : List ℕ) → AreOfSecret secret (keys_of secret)
unfolding pair_in
plain_of_secret secret q = refl
