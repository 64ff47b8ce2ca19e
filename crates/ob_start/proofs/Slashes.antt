-- The slashes at the end of a name.
use Rattle.std.proofs.Common.{◌≡◌, ◌∙◌, ◌+◌, ◌-◌, ◌<◌, ◌≤◌, ℕ, List, [], ◌∷◌, ◌++◌, None, Some, length, slice_index, take, lit<, le_of_eq, ap, arith, sym, ⊎_elim}
use Rattle.std.proofs.lemmas.Bool.{cases_order, eq-eqb, ne_eqb}
use Rattle.std.proofs.lemmas.List.{get_or-take, length-drop, length-take-le, take-take, take_all, take_more}
use Rattle.std.proofs.lemmas.List.Sums.{suffix_len_is}
use Rattle.std.proofs.lemmas.Str.{encode_ascii}
use Rattle.std.proofs.lemmas.Str.Pattern.{drop_at_char}
use Rattle.std.specs.Str.Pattern.{CutsSuffixes, FindsCharSuffix, IsFullyTrimmed, IsTrimEndMatches}
use Rattle.ob_file.specs.Paths.{is_slash}
use Rattle.ob_start.specs.Places.{unslashed}

module _ (s : List ℕ) where
  -- all after this part are slashes
  abbrev IsFront : List ℕ → Type 0
  IsFront r = (length r ≤ length s) × (r ≡ take (length r) s) × ((k : ℕ) → length r ≤ k → k < length s → slice_index s k ≡ 47)

  one_less : (m r : List ℕ) (n : ℕ) → IsFront m → FindsCharSuffix 47 m (Some n) → r ≡ take (length m - n) m → IsFront r
  one_less m r n front found is =
      let found_at = drop_at_char 47 m (length m - n) (length m) found.1 (lit< tt) in
      let width : n ≡ 1 = found.0 in
      let some : 0 < length m = omega (arith, ap length found_at, length-drop (length m - n) m, width) in
      let shorter : length r ≡ length m - 1 = omega (arith, ap length is, length-take-le (length m - n) m (omega arith), width) in
      let whole : r ≡ take (length r) m = is ∙ ap (λ k. take k m) (omega (arith, shorter, width)) in
      let last : slice_index m (length r) ≡ 47 = ap (λ k. slice_index m k) (omega (arith, shorter, width)) ∙ found.1.byte (lit< tt) in (
        omega (arith, front.0, shorter),
        whole ∙ ap (take (length r)) front.1 ∙ take-take (length r) (length m) s (omega (arith, shorter)),
        λ k low high. ⊎_elim
            (λ same. ap (slice_index s) same ∙ sym (get_or-take (length m) s (length r) 0 (omega (arith, shorter, some))) ∙ ap (λ l. slice_index l (length r)) (sym front.1) ∙ last)
            (λ others. ⊎_elim (λ less. absurd (omega (arith, low, less))) (λ more. front.2 k (omega (arith, shorter, more)) high) others)
            (cases_order k (length r)),
      )

  cut : (ns r : List ℕ) → CutsSuffixes (FindsCharSuffix 47) s ns r → IsFront r
  cut [] r is = (le_of_eq (ap length is), is ∙ sym (take_all (length r) s (omega (arith, ap length is))), λ k low high. absurd (omega (arith, ap length is, low, high)))
  cut (n ∷ ns) r (m, cuts, found, is) = one_less m r n (cut ns m cuts) found is

-- the last byte that is left is none
none_left : (r : List ℕ) → IsFullyTrimmed (FindsCharSuffix 47) r → 0 < length r → slice_index r (length r - 1) ≡ 47 → ⊥
none_left r (None, found, zero_long) some is =
    found (take (length r - 1) r) (sym (take_all (length r - 1 + 1) r (omega (arith, some))) ∙ take_more r (length r - 1) 0 (omega (arith, some))
    ∙ ap (λ c. take (length r - 1) r ++ c ∷ []) is ∙ ap (λ l. take (length r - 1) r ++ l) (sym (encode_ascii 47 (lit< tt))))
none_left r (Some n, found, zero_long) some is = omega (arith, found.0, zero_long)

pub trimmed : (s r : List ℕ) → IsTrimEndMatches (FindsCharSuffix 47) s r → r ≡ unslashed s
trimmed s r ((ns, cuts), fully) =
    let front = cut s ns r cuts in
    let long = suffix_len_is is_slash s (length r) 0 front.0 (λ k low high. eq-eqb _ 47 (front.2 k low high))
    (λ some. ne_eqb _ 47 (λ is. none_left r fully some (ap (λ l. slice_index l (length r - 1)) front.1 ∙ get_or-take (length r) s (length r - 1) 0 (omega (arith, some)) ∙ is))) in
    front.1 ∙ ap (λ k. take k s) (omega (arith, long, front.0))
