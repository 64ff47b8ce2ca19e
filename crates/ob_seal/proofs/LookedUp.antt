-- The keys of a region, looked up entry by entry.
use Rattle.std.proofs.Common.{◌≡◌, ℕ, ◌+◌, ◌<◌, ◌≤◌, ◌==◌, ◌≢◌, Bool, true, false, arith, List, [], ◌∷◌, length, drop, get_or, if◌then◌else◌, refl, sym, ◌∙◌, ap, subst}
use Rattle.std.proofs.lemmas.List.{drop_more, drop_all}
use Rattle.std.proofs.lemmas.Bool.Decides.{nat_tests}
use Rattle.ob_seal.specs.declared.pairs.Held.{Held}
use Rattle.ob_seal.specs.declared.pairs.Pair.{Pair}
use Rattle.ob_seal.specs.KeySet.{NoneAbove, pair_in}

module _ (own : Pair) (held : List Held) (q i : ℕ) (h : Held) (less : i < length held) (is : h ≡ get_or held i h) where
  chosen : Bool → Pair
  chosen b = if b then h.pair else pair_in own (drop (i + 1) held) q

  one_more : pair_in own (drop i held) q ≡ chosen (h.region == q)
  unfolding pair_in chosen
  one_more =
      ap (λ (hs : List Held). pair_in own hs q) (drop_more held i h less)
      ∙ ap (λ (x : Held). pair_in own (x ∷ drop (i + 1) held) q) (sym is)

  pub pair_here : h.region ≡ q → pair_in own (drop i held) q ≡ h.pair
  unfolding chosen
  pair_here same =
      let test : (h.region == q) ≡ true = grind (arith, nat_tests) in
      one_more ∙ ap chosen test

  pub pair_next : h.region ≢ q → pair_in own (drop i held) q ≡ pair_in own (drop (i + 1) held) q
  unfolding chosen
  pair_next off =
      let test : (h.region == q) ≡ false = grind (arith, nat_tests) in
      one_more ∙ ap chosen test

pub pair_none : (own : Pair) (held : List Held) (q i : ℕ) → length held ≤ i → pair_in own (drop i held) q ≡ own
unfolding pair_in
pair_none own held q i past = ap (λ (hs : List Held). pair_in own hs q) (drop_all i held past)

-- a region above all of them has the run's own
pub pair_above : (own : Pair) (held : List Held) (most q : ℕ) → NoneAbove most held → most < q → pair_in own held q ≡ own
unfolding pair_in
pair_above own [] most q none above = refl
pair_above own (h ∷ held) most q none above =
    let least = none.0 in
    let off : h.region ≢ q = λ same. absurd (omega (arith, same, least, above)) in
    let test : (h.region == q) ≡ false = grind (arith, nat_tests) in
    ap (λ (b : Bool). if b then h.pair else pair_in own held q) test ∙ pair_above own held most q none.1 above

-- what none is above that stands further on in a list, nor an entry, none is above from that entry on
pub none_more : (most i : ℕ) (held : List Held) (h : Held) → i < length held → h ≡ get_or held i h → h.region ≤ most → NoneAbove most (drop (i + 1) held) → NoneAbove most (drop i held)
none_more most i held h less is least none =
    let first : drop i held ≡ h ∷ drop (i + 1) held = drop_more held i h less ∙ ap (λ (x : Held). x ∷ drop (i + 1) held) (sym is) in
    subst (NoneAbove most) (sym first) (least, none)

pub none_left : (most i : ℕ) (held : List Held) → length held ≤ i → NoneAbove most (drop i held)
none_left most i held past = subst (NoneAbove most) (sym (drop_all i held past)) tt
