-- The numbers that the places of a closing and its tables have once they are open.
use Rattle.ob_tables.proofs.Words.{ap, arith, cases_eq, cases_lt, Closing, false, if◌then◌else◌, inl, inr, IsReopened, KeySet, length, FalseRead, List, Listed, nat_tests, refl, slice_get, Some, Start, subst, suc, sym, TagFits, take, World, zero, ℕ, [], ◌&&◌, ◌+◌, ◌-◌, ◌<◌, ◌==◌, ◌∙◌, ◌∷◌, ◌≡◌, ◌≢◌, ◌≤◌}
use Rattle.std.proofs.Common.{ltb}
use Rattle.ob_base.specs.Accesses.{number_from}
use Rattle.ob_seal.specs.Sealed.{tag_of}
use Rattle.ob_vault.specs.State.{from_earlier}
use Rattle.ob_vault.specs.Tied.{at_of}
use Rattle.ob_reopen.specs.Limits.{blocks_of}
use Rattle.ob_reopen.specs.Openings.{IsNumbered, IsOf}
use Rattle.ob_reopen.proofs.TableLemmas.{is_of}
use Rattle.ob_reopen.specs.Reopened.{number_given, opened_start}

-- ---- the test of a place
test_in : (q r x n a b : ℕ) → q ≡ r → x < n → (if (q == r) && ltb x n then a else b) ≡ a
test_in q r x n a b same below = grind (arith, nat_tests)

test_past : (q r x n a b : ℕ) → n ≤ x → (if (q == r) && ltb x n then a else b) ≡ b
test_past q r x n a b past = grind (arith, nat_tests)

test_off : (q r x n a b : ℕ) → q ≢ r → (if (q == r) && ltb x n then a else b) ≡ b
test_off q r x n a b off = grind (arith, nat_tests)

-- ---- the closing's own
pub given_first : (closing : Closing) (w : World) → IsNumbered closing w → (q x : ℕ) → w.vault.start.given q x ≡ number_given closing [] q x
given_first closing w numbered q x = elim (cases_eq q closing.region) [
  | inl here ↦ elim (cases_lt x closing.blocks) [
    | inl below ↦
        subst (λ (r : ℕ). w.vault.start.given r x ≡ closing.number + x) (sym here) (numbered.here x below)
        ∙ sym (test_in q closing.region x closing.blocks (closing.number + x) 0 here below)
    | inr past ↦
        numbered.others q x (λ same below. absurd (omega (arith, past, below)))
        ∙ sym (test_past q closing.region x closing.blocks (closing.number + x) 0 past)
  ]
  | inr off ↦
      numbered.others q x (λ same below. absurd (off same))
      ∙ sym (test_off q closing.region x closing.blocks (closing.number + x) 0 off)
]

-- the start of a vault that opened it
pub start_first : (closing : Closing) (a w : World) → a.vault.start ≡ from_earlier (closing.number + closing.blocks - 1) closing.region
    → w.vault.start.writes ≡ a.vault.start.writes → w.vault.start.region ≡ a.vault.start.region → ((q : ℕ) → w.vault.start.linked q ≡ a.vault.start.linked q) → IsNumbered closing w
    → w.vault.start ≡ opened_start closing []
start_first closing a w started writes region linked numbered =
    let count : w.vault.start.writes ≡ closing.number + closing.blocks - 1 = writes ∙ ap (λ (s : Start). s.writes) started in
    let last : w.vault.start.region ≡ closing.region = region ∙ ap (λ (s : Start). s.region) started in
    let none : (q : ℕ) → w.vault.start.linked q ≡ false = λ q. linked q ∙ ap (λ (s : Start). s.linked q) started in
    λ i. record { writes = count i; region = last i; given = λ q x. given_first closing w numbered q x i; linked = λ q. none q i }

-- ---- those of its tables
-- whether one of these tables gives a place this number
abbrev Gives : Closing → (n : ℕ) → List Listed → (q x : ℕ) → Type 0
Gives closing n ts q x = (i : ℕ) (t : Listed) → slice_get ts i ≡ Some t → q ≡ t.table.region → x < blocks_of closing.pack t → n ≡ t.number + x

-- or none of them gives it any
abbrev GivesNone : Closing → List Listed → (q x : ℕ) → Type 0
GivesNone closing ts q x = (i : ℕ) (t : Listed) → slice_get ts i ≡ Some t → q ≡ t.table.region → x < blocks_of closing.pack t → ⊥

none_more : (closing : Closing) (t : Listed) (ts : List Listed) (q x : ℕ) → (q ≡ t.table.region → x < blocks_of closing.pack t → ⊥) → GivesNone closing ts q x → GivesNone closing (t ∷ ts) q x
none_more closing t ts q x none off zero u is = let same : t ≡ u = cc is in subst (λ (v : Listed). q ≡ v.table.region → x < blocks_of closing.pack v → ⊥) same none
none_more closing t ts q x none off (suc i) u is = off i u is

-- a place that has its number by one of these tables, or by none
given_at : (closing : Closing) (n : ℕ) (ts : List Listed) (q x : ℕ) → Gives closing n ts q x → (GivesNone closing ts q x → n ≡ number_given closing [] q x) → n ≡ number_given closing ts q x
given_at closing n [] q x hit miss = miss (λ i t is here below. cc is)
given_at closing n (t ∷ ts) q x hit miss =
    let rest : (q ≡ t.table.region → x < blocks_of closing.pack t → ⊥) → n ≡ number_given closing ts q x =
    λ none. given_at closing n ts q x (λ i u is. hit (suc i) u is) (λ off. miss (none_more closing t ts q x none off)) in
    elim (cases_eq q t.table.region) [
      | inl here ↦ elim (cases_lt x (blocks_of closing.pack t)) [
        | inl below ↦ hit 0 t refl here below ∙ sym (test_in q t.table.region x (blocks_of closing.pack t) (t.number + x) (number_given closing ts q x) here below)
        | inr past ↦
            rest (λ same below. absurd (omega (arith, past, below)))
            ∙ sym (test_past q t.table.region x (blocks_of closing.pack t) (t.number + x) (number_given closing ts q x) past)
      ]
      | inr off ↦
          rest (λ same below. off same)
          ∙ sym (test_off q t.table.region x (blocks_of closing.pack t) (t.number + x) (number_given closing ts q x) off)
    ]

module _ (closing : Closing) (listed : List Listed) (a b : World) (numbered : IsNumbered closing a)
    (given : (q x : ℕ) → (IsOf listed q → ⊥) → b.vault.start.given q x ≡ a.vault.start.given q x)
    (tables : (i : ℕ) (t : Listed) → slice_get listed i ≡ Some t → IsReopened closing.pack t a b) where
  -- a place that none of them gave a number has the one that it had
  stayed : (q x : ℕ) → ((i : ℕ) (t : Listed) → slice_get listed i ≡ Some t → q ≡ t.table.region → x < blocks_of closing.pack t → ⊥) → b.vault.start.given q x ≡ a.vault.start.given q x
  stayed q x none = elim (is_of listed q) [
    | inr off ↦ given q x off
    | inl of ↦ elim (cases_lt x (blocks_of closing.pack of.table)) [
      | inl below ↦ absurd (none of.place of.table of.is (sym of.region) below)
      | inr past ↦
          subst (λ (r : ℕ). b.vault.start.given r x ≡ a.vault.start.given r x) of.region ((tables of.place of.table of.is).beyond x past)
    ]
  ]

  given_all : (q x : ℕ) → b.vault.start.given q x ≡ number_given closing listed q x
  given_all q x =
      given_at closing (b.vault.start.given q x) listed q x
      (λ i t is here below. subst (λ (r : ℕ). b.vault.start.given r x ≡ t.number + x) (sym here) ((tables i t is).given x below))
      (λ none. stayed q x none ∙ given_first closing a numbered q x)

  -- the start of a vault that opened them
  pub start_all : a.vault.start ≡ opened_start closing [] → b.vault.start.writes ≡ a.vault.start.writes → b.vault.start.region ≡ a.vault.start.region
      → ((q : ℕ) → b.vault.start.linked q ≡ a.vault.start.linked q) → b.vault.start ≡ opened_start closing listed
  start_all was writes region linked =
      let count : b.vault.start.writes ≡ closing.number + closing.blocks - 1 = writes ∙ ap (λ (s : Start). s.writes) was in
      let last : b.vault.start.region ≡ closing.region = region ∙ ap (λ (s : Start). s.region) was in
      let none : (q : ℕ) → b.vault.start.linked q ≡ false = λ q. linked q ∙ ap (λ (s : Start). s.linked q) was in
      λ i. record { writes = count i; region = last i; given = λ q x. given_all q x i; linked = λ q. none q i }

-- ---- a block that was changed
-- none of the tables gives a place of the closing another number
given_closing : (closing : Closing) (ts : List Listed) (q x : ℕ) → q ≡ closing.region → ((i : ℕ) (t : Listed) → slice_get ts i ≡ Some t → t.table.region < closing.region)
    → number_given closing ts q x ≡ number_given closing [] q x
given_closing closing [] q x here below = refl
given_closing closing (t ∷ ts) q x here below =
    let less = below 0 t refl in
    test_off q t.table.region x (blocks_of closing.pack t) (t.number + x) (number_given closing ts q x) (λ same. omega (arith, same, here, less))
    ∙ given_closing closing ts q x here (λ i u is. below (suc i) u is)

-- so the tag of one that fits there fits with the tables, too
pub fits_listed : (closing : Closing) (keys : KeySet) (listed : List Listed) (lie : FalseRead) → lie.region ≡ closing.region
    → ((i : ℕ) (t : Listed) → slice_get listed i ≡ Some t → t.table.region < closing.region)
    → TagFits keys (opened_start closing []) lie → TagFits keys (opened_start closing listed) lie
fits_listed closing keys listed lie here below fits = record {
  tag = fits.tag
      ∙ ap (λ (n : ℕ). tag_of keys (at_of lie.region lie.place (number_from (closing.number + closing.blocks - 1) n lie.region lie.place lie.before)) (take (length lie.bytes - 32) lie.bytes))
      (sym (given_closing closing listed lie.region lie.place here below));
}

pub fits_as : (k l : KeySet) (s t : Start) (lie : FalseRead) → k ≡ l → s ≡ t → TagFits k s lie → TagFits l t lie
fits_as k l s t lie keys start fits = subst (λ (x : Start). TagFits l x lie) start (subst (λ (x : KeySet). TagFits x s lie) keys fits)
