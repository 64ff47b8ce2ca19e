-- Keys that are the same for each block of a region are the same for the region, and the other way round where one run
-- alone writes to it.
use Rattle.std.proofs.Common.{◌≡◌, ◌≤◌, ◌+◌, ◌==◌, ◌&&◌, nat_le, arith, ℕ, Bool, true, false, List, [], ◌∷◌, if◌then◌else◌, refl, sym, ◌∙◌, ap, subst}
use Rattle.std.proofs.lemmas.Bool.Decides.{nat_tests}
use Rattle.ob_seal.specs.KeySet.{AreAlike, IsOfOne, KeySet, keyed_by, pair_at, pair_in, pair_of, pair_upto}
use Rattle.ob_seal.specs.declared.At.{At}
use Rattle.ob_seal.specs.declared.pairs.Pair.{Pair}
use Rattle.ob_seal.specs.declared.pairs.Span.{Span}
use Rattle.ob_seal.proofs.Spans.{of_one}

pub alike_back : (k l : KeySet) (q : ℕ) → AreAlike k l q → AreAlike l k q
alike_back k l q same = record { each = λ at is. sym (same.each at is) }

pub ones_alike : (k l : KeySet) (q : ℕ) → IsOfOne k q → IsOfOne l q → pair_of k q ≡ pair_of l q → AreAlike k l q
ones_alike k l q one other same = record {
  each = λ at is.
      of_one k at (subst (IsOfOne k) (sym is) one) ∙ ap (pair_of k) is ∙ same ∙ sym (of_one l at (subst (IsOfOne l) (sym is) other) ∙ ap (pair_of l) is);
}

-- a number that each span is before
past : List Span → ℕ
past [] = 0
past (s ∷ spans) = s.upto + 1 + past spans

no_more : (b : Bool) → (b && false) ≡ false
no_more true = refl
no_more false = refl

past_all : (found : Pair) (spans : List Span) (q n : ℕ) → past spans ≤ n → pair_upto found spans q n ≡ found
unfolding pair_upto past
past_all found [] q n above = refl
past_all found (s ∷ spans) q n above =
    let late : nat_le n s.upto ≡ false = grind (arith, nat_tests) in
    ap (λ (b : Bool). if ((s.region == q) && b) then s.pair else pair_upto found spans q n) late
    ∙ ap (λ (b : Bool). if b then s.pair else pair_upto found spans q n) (no_more (s.region == q))
    ∙ past_all found spans q n (omega arith)

abbrev past_of : KeySet → ℕ
past_of (keyed_by own earlier spans draw) = past spans

past_pair : (k : KeySet) (q n : ℕ) → past_of k ≤ n → pair_at k (record { region = q; place = 0; number = n }) ≡ pair_of k q
past_pair (keyed_by own earlier spans draw) q n above = past_all (pair_in own earlier q) spans q n above

pub pair_alike : (k l : KeySet) (q : ℕ) → AreAlike k l q → pair_of k q ≡ pair_of l q
pair_alike k l q same =
    let n = past_of k + past_of l in
    sym (past_pair k q n (omega arith)) ∙ same.each (record { region = q; place = 0; number = n }) refl ∙ past_pair l q n (omega arith)
