-- The keys of a number of a region, looked up span by span.
use Rattle.std.proofs.Common.{◌≡◌, ℕ, ◌+◌, ◌<◌, ◌≤◌, ◌==◌, ◌&&◌, nat_le, Bool, true, false, arith, List, [], ◌∷◌, length, drop, get_or, if◌then◌else◌, refl, sym, ◌∙◌, ap, subst}
use Rattle.std.proofs.lemmas.List.{drop_more, drop_all}
use Rattle.ob_seal.specs.declared.At.{At}
use Rattle.ob_seal.specs.declared.pairs.Pair.{Pair}
use Rattle.ob_seal.specs.declared.pairs.Span.{Span}
use Rattle.ob_seal.specs.KeySet.{KeySet, keyed_by, HasNone, IsOfOne, pair_at, pair_of, pair_in, pair_upto}

module _ (found : Pair) (spans : List Span) (q n i : ℕ) (s : Span) (less : i < length spans) (is : s ≡ get_or spans i s) where
  chosen : Bool → Pair
  chosen b = if b then s.pair else pair_upto found (drop (i + 1) spans) q n

  one_more : pair_upto found (drop i spans) q n ≡ chosen ((s.region == q) && nat_le n s.upto)
  unfolding pair_upto chosen
  one_more =
      ap (λ (hs : List Span). pair_upto found hs q n) (drop_more spans i s less)
      ∙ ap (λ (x : Span). pair_upto found (x ∷ drop (i + 1) spans) q n) (sym is)

  pub span_here : ((s.region == q) && nat_le n s.upto) ≡ true → pair_upto found (drop i spans) q n ≡ s.pair
  unfolding chosen
  span_here test = one_more ∙ ap chosen test

  pub span_next : ((s.region == q) && nat_le n s.upto) ≡ false → pair_upto found (drop i spans) q n ≡ pair_upto found (drop (i + 1) spans) q n
  unfolding chosen
  span_next test = one_more ∙ ap chosen test

pub span_none : (found : Pair) (spans : List Span) (q n i : ℕ) → length spans ≤ i → pair_upto found (drop i spans) q n ≡ found
unfolding pair_upto
span_none found spans q n i past = ap (λ (hs : List Span). pair_upto found hs q n) (drop_all i spans past)

pub span_empty : (found : Pair) (q n : ℕ) → pair_upto found [] q n ≡ found
unfolding pair_upto
span_empty found q n = refl

no_span : (found : Pair) (spans : List Span) (q n : ℕ) → HasNone q spans → pair_upto found spans q n ≡ found
unfolding pair_upto
no_span found [] q n none = refl
no_span found (s ∷ spans) q n none = ap (λ (b : Bool). if (b && nat_le n s.upto) then s.pair else pair_upto found spans q n) none.0 ∙ no_span found spans q n none.1

pub of_one : (keys : KeySet) (at : At) → IsOfOne keys at.region → pair_at keys at ≡ pair_of keys at.region
of_one (keyed_by own earlier spans draw) at none = no_span (pair_in own earlier at.region) spans at.region at.number none
