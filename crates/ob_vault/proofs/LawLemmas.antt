-- Why no two writes have one number, and what a tag that fits at two heads shows.
use Rattle.std.proofs.Common.{◌≡◌, ◌≢◌, inl, inr, ◌<◌, ◌≤◌, ◌+◌, ◌-◌, ℕ, zero, suc, List, [], ◌∷◌, Some, length, length-append, drop, take, slice_get, refl, sym, ◌∙◌, ap, subst, arith}
use Rattle.std.proofs.lemmas.List.{take_at, drop_at}
use Rattle.ob_base.specs.declared.access.Access.{Access}
use Rattle.ob_base.specs.declared.access.Access.TheVariants.{Make, Read, Write, Discard, Open}
use Rattle.ob_base.specs.Accesses.{writes, nth_write}
use Rattle.ob_base.proofs.AccessLemmas.{number_own, write_named, write_apart}
use Rattle.ob_store.specs.State.{FalseRead}
use Rattle.ob_seal.specs.KeySet.{KeySet, pair_at}
use Rattle.ob_seal.specs.Sealed.{AreBefore, InRange, TwoSalts, TwoTexts, sealed, ciphered, keys_salted, pair_by, tag_of}
use Rattle.ob_seal.specs.declared.Salted.{Salted}
use Rattle.ob_seal.proofs.Salts.{own_pair}
use Rattle.ob_seal.proofs.Spans.{of_one}
use Rattle.ob_seal.specs.declared.At.{At}
use Rattle.ob_seal.proofs.HeadsApart.{heads_apart, length-tag_of, salts_apart}
use Rattle.ob_vault.specs.State.{Start, World}
use Rattle.ob_vault.specs.Numbers.{MayWrite, IsNumber, IsWrite, WritesBehind, last_number, write_number}
use Rattle.ob_vault.specs.Tied.{IsOwn, Tied, TagFits, at_lie, at_of}

pub writes_apart : (w : World) (i j q x r y : ℕ) → IsWrite i q x w → IsWrite j r y w → write_number i w ≡ write_number j w → i ≡ j
writes_apart w i j q x r y is at same = write_apart w.store.asked i j q x r y is.is at.is (omega (arith, same))

pub write_is : (w : World) (i q x : ℕ) → IsWrite i q x w → IsNumber w q x (write_number i w)
write_is w i q x is =
    let n = writes (take i w.store.asked) + 1 in
    let own : w.vault.start.writes + n - w.vault.start.writes ≡ n = omega arith in
    inl (ap (λ (k : ℕ). nth_write k w.store.asked) own ∙ write_named w.store.asked i q x is.is)

pub last_is : (w : World) (q x : ℕ) → last_number w q x ≢ 0 → IsNumber w q x (last_number w q x)
last_is w q x some = elim (number_own w.vault.start.writes (w.vault.start.given q x) q x w.store.asked) [
  | inl given ↦ inr (given, some)
  | inr own ↦ inl own.1
]

-- no write has the number 0
none_first : (asked : List Access) (p : ℕ × ℕ) → nth_write 0 asked ≡ Some p → ⊥
unfolding nth_write
none_first [] p is = cc is
none_first (Write q x ∷ rest) p is = none_first rest p is
none_first (Make q blocks len ∷ rest) p is = none_first rest p is
none_first (Read q x ∷ rest) p is = none_first rest p is
none_first (Discard q ∷ rest) p is = none_first rest p is
none_first (Open q blocks len ∷ rest) p is = none_first rest p is

-- a number of an earlier run is none of this one
early : (w : World) (q x r y n : ℕ) → Tied w → nth_write (n - w.vault.start.writes) w.store.asked ≡ Some (q, x) → n ≡ w.vault.start.given r y → ⊥
early w q x r y n tied is given =
    let none : n - w.vault.start.writes ≡ 0 = omega (arith, given, tied.start.within r y) in
    none_first w.store.asked (q, x) (ap (λ (k : ℕ). nth_write k w.store.asked) (sym none) ∙ is)

pub numbers_alone : (w : World) (q x r y n : ℕ) → Tied w → IsNumber w q x n → IsNumber w r y n → (q ≡ r) × (x ≡ y)
numbers_alone w q x r y n tied (inl is) (inl at) = let both : ◌≡◌ {A = ℕ × ℕ} (q, x) (r, y) = cc (is, at) in (ap (λ (p : ℕ × ℕ). p.0) both, ap (λ (p : ℕ × ℕ). p.1) both)
numbers_alone w q x r y n tied (inl is) (inr given) = absurd (early w q x r y n tied is given.0)
numbers_alone w q x r y n tied (inr given) (inl at) = absurd (early w r y q x n tied at given.0)
numbers_alone w q x r y n tied (inr one) (inr other) = tied.start.alone q x r y (sym one.0 ∙ other.0) (λ zero. one.1 (one.0 ∙ zero))

-- a write is to a region after this one, where each is
written_behind : (start : Start) (asked : List Access) (i q x : ℕ) → WritesBehind start asked → slice_get asked i ≡ Some (Write q x) → MayWrite start q
written_behind start [] zero q x all is = absurd (cc is)
written_behind start [] (suc i) q x all is = absurd (cc is)
written_behind start (Make r blocks len ∷ rest) zero q x all is = absurd (cc is)
written_behind start (Read r y ∷ rest) zero q x all is = absurd (cc is)
written_behind start (Discard r ∷ rest) zero q x all is = absurd (cc is)
written_behind start (Open r blocks len ∷ rest) zero q x all is = absurd (cc is)
written_behind start (Write r y ∷ rest) zero q x all is = let same : r ≡ q = cc is in subst (MayWrite start) same all.0
written_behind start (Make r blocks len ∷ rest) (suc i) q x all is = written_behind start rest i q x all is
written_behind start (Read r y ∷ rest) (suc i) q x all is = written_behind start rest i q x all is
written_behind start (Discard r ∷ rest) (suc i) q x all is = written_behind start rest i q x all is
written_behind start (Open r blocks len ∷ rest) (suc i) q x all is = written_behind start rest i q x all is
written_behind start (Write r y ∷ rest) (suc i) q x all is = written_behind start rest i q x all.1 is

pub writes_own : (w : World) (i q x : ℕ) → Tied w → IsWrite i q x w → MayWrite w.vault.start q
writes_own w i q x tied is = written_behind w.vault.start w.store.asked i q x tied.own is.is

-- what regions are before, is after them further on, too
before_more : (q r : ℕ) (earlier : List Salted) → r ≤ q → AreBefore r earlier → AreBefore q earlier
before_more q r [] more before = tt
before_more q r (e ∷ es) more before = (omega (arith, more, before.0), before_more q r es more before.1)

-- what a run with a salt writes is sealed under that
pub writes_salted : (secret salt : List ℕ) (earlier : List Salted) (w : World) (i q x : ℕ) → Tied w → w.vault.keys ≡ keys_salted secret salt earlier → AreBefore (w.vault.start.region + 1) earlier → IsWrite i q x w → IsOwn q w
    → (n : ℕ) → pair_at w.vault.keys (at_of q x n) ≡ pair_by secret (Some salt)
writes_salted secret salt earlier w i q x tied keys before is mine n =
    let own = mine.above in
    ap (λ (k : KeySet). pair_at k (at_of q x n)) keys ∙ of_one (keys_salted secret salt earlier) (at_of q x n) tt
    ∙ own_pair secret salt earlier q (before_more q (w.vault.start.region + 1) earlier (omega (arith, own)) before)

-- the tag of a block that was sealed under some keys, and is taken under others
taken_tag : (k l : KeySet) (start : Start) (lie : FalseRead) (a : At) (rows : List ℕ) → lie.bytes ≡ sealed k a rows → TagFits l start lie
    → tag_of k a (ciphered k a rows) ≡ tag_of l (at_lie start lie) (ciphered k a rows)
taken_tag k l start lie a rows is fits =
    let text = ciphered k a rows in
    let tag = tag_of k a text in
    let size : length lie.bytes - 32 ≡ length text = omega (arith, ap length is, length-append text tag, length-tag_of k a text) in
    let front : take (length lie.bytes - 32) lie.bytes ≡ text = (λ i. take (size i) (is i)) ∙ take_at text tag (length text) refl in
    let behind : drop (length lie.bytes - 32) lie.bytes ≡ tag = (λ i. drop (size i) (is i)) ∙ drop_at text tag (length text) refl in
    sym behind ∙ fits.tag ∙ ap (tag_of l (at_lie start lie)) front

pub lies_apart : (keys : KeySet) (start : Start) (lie : FalseRead) (a : At) (rows : List ℕ) → lie.bytes ≡ sealed keys a rows → InRange a → InRange (at_lie start lie) → a ≢ at_lie start lie
    → TagFits keys start lie → TwoTexts keys
lies_apart keys start lie a rows is fa fb off fits =
    heads_apart keys a (at_lie start lie) (ciphered keys a rows) fa fb off (taken_tag keys keys start lie a rows is fits)

pub lies_salted : (k l : KeySet) (start : Start) (lie : FalseRead) (a : At) (rows : List ℕ) → lie.bytes ≡ sealed k a rows → (pair_at k a).salt ≢ (pair_at l (at_lie start lie)).salt
    → TagFits l start lie → TwoSalts k l
lies_salted k l start lie a rows is off fits = salts_apart k l a (at_lie start lie) (ciphered k a rows) off (taken_tag k l start lie a rows is fits)
