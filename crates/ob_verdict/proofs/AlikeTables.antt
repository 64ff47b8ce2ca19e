-- What stands at a name after tables in place were changed, added or dropped.
use Rattle.std.proofs.Common.{◌≡◌, ◌⊎◌, inl, inr, ℕ, suc, ◌+◌, Bool, true, false, cond, List, [], ◌∷◌, ◌++◌, map, length, length-append, Option, Some, None, refl, sym, ◌∙◌, ap, subst, arith}
use Rattle.std.specs.Prelude.{bytes_eq, if◌then◌else◌}
use Rattle.std.specs.List.{list_any}
use Rattle.std.specs.Option.{option_map, option_or}
use Rattle.std.proofs.lemmas.List.{map_push}
use Rattle.std.proofs.lemmas.Slice.Eq.{bytes_eq-Decides}
use Rattle.ob_base.specs.declared.schema.Heading.{Heading}
use Rattle.ob_base.specs.Lists.{has_repeats}
use Rattle.ob_base.specs.Stored.{AreApart, Stored, changed_at, dropped_at, has_table, headings, stored_at}
use Rattle.ob_mean.specs.Verdict.{Held, Tables}
use Rattle.ob_mean.proofs.EarlyLemmas.{neither}
use Rattle.ob_verdict.proofs.InPlaceProof.{none_either}
use Rattle.ob_verdict.proofs.MovingProof.{other_name, same_name}
use Rattle.ob_verdict.specs.Alike.{AreAlike}

-- two names are the same, or not
pub name_cases : (a b : List ℕ) → (a ≡ b) ⊎ (a ≡ b → ⊥)
name_cases a b = go (bytes_eq a b) refl
  where
    go : (t : Bool) → bytes_eq a b ≡ t → (a ≡ b) ⊎ (a ≡ b → ⊥)
    go true is = inl (same_name a b is)
    go false is = inr (λ same. let hit = (bytes_eq-Decides a b).1 same in absurd (cc (hit, is)))

abbrev pub names_of : List Heading → List (List ℕ)
names_of hs = map (λ (h : Heading). h.name) hs

-- ---- the same tables
pub alike_same : (ts : Tables) → AreApart (headings ts) → AreAlike ts ts
alike_same ts apart = record { count = refl; found = λ name. refl; apart = apart; too = apart }

pub alike_turned : (ts us : Tables) → AreAlike ts us → AreAlike us ts
alike_turned ts us alike = record { count = sym alike.count; found = λ name. sym (alike.found name); apart = alike.too; too = alike.apart }

pub alike_chained : (ts us vs : Tables) → AreAlike ts us → AreAlike us vs → AreAlike ts vs
alike_chained ts us vs first second = record {
  count = first.count ∙ second.count;
  found = λ name. first.found name ∙ second.found name;
  apart = first.apart;
  too = second.too;
}

-- ---- one more
pub stored_more : (name : List ℕ) (ts more : Tables) → stored_at name (ts ++ more) ≡ option_or (stored_at name ts) (stored_at name more)
stored_more name [] more = refl
stored_more name (t ∷ ts) more =
    elim (bytes_eq t.heading.name name) as (λ b. cond b (Some t) (stored_at name (ts ++ more)) ≡ option_or (cond b (Some t) (stored_at name ts)) (stored_at name more))
    [ true ↦ refl | false ↦ stored_more name ts more ]

any_more : (name : List ℕ) (h : Heading) (hs : List Heading) → bytes_eq name h.name ≡ false → list_any (bytes_eq name) (names_of hs) ≡ false → list_any (bytes_eq name) (names_of (hs ++ h ∷ [])) ≡ false
any_more name h [] off none = none_either (bytes_eq name h.name) false off refl
any_more name h (g ∷ gs) off none =
    let both = neither (bytes_eq name g.name) (list_any (bytes_eq name) (names_of gs)) none in
    none_either (bytes_eq name g.name) (list_any (bytes_eq name) (names_of (gs ++ h ∷ []))) both.0 (any_more name h gs off both.1)

apart_more : (h : Heading) (hs : List Heading) → AreApart hs → has_table h.name hs ≡ false → AreApart (hs ++ h ∷ [])
apart_more h [] apart new = refl
apart_more h (g ∷ gs) apart new =
    let both = neither (list_any (bytes_eq g.name) (names_of gs)) (has_repeats bytes_eq (names_of gs)) apart in
    let off = neither (bytes_eq g.name h.name) (has_table h.name gs) new in
    none_either (list_any (bytes_eq g.name) (names_of (gs ++ h ∷ []))) (has_repeats bytes_eq (names_of (gs ++ h ∷ [])))
    (any_more g.name h gs off.0 both.0) (apart_more h gs both.1 off.1)

apart_added : (t : Stored Held) (ts : Tables) → AreApart (headings ts) → has_table t.heading.name (headings ts) ≡ false → AreApart (headings (ts ++ t ∷ []))
apart_added t ts apart new =
    subst AreApart (sym (map_push (λ (u : Stored Held). u.heading) ts t)) (apart_more t.heading (headings ts) apart new)

pub alike_added : (t : Stored Held) (ts us : Tables) → AreAlike ts us → has_table t.heading.name (headings ts) ≡ false → has_table t.heading.name (headings us) ≡ false → AreAlike (ts ++ t ∷ []) (us ++ t ∷ [])
alike_added t ts us alike new too = record {
  count = length-append ts (t ∷ []) ∙ ap (λ (n : ℕ). n + 1) alike.count ∙ sym (length-append us (t ∷ []));
  found = λ name.
      stored_more name ts (t ∷ []) ∙ ap (λ (o : Option (Stored Held)). option_or o (stored_at name (t ∷ []))) (alike.found name) ∙ sym (stored_more name us (t ∷ []));
  apart = apart_added t ts alike.apart new;
  too = apart_added t us alike.too too;
}

-- ---- one changed
abbrev pub with_slots : (Held → Held) → Stored Held → Stored Held
with_slots f t = record { heading = t.heading; held = f t.held }

module _ (name : List ℕ) (f : Held → Held) where
  pub headings_changed : (ts : Tables) → headings (changed_at name f ts) ≡ headings ts
  headings_changed [] = refl
  headings_changed (t ∷ ts) =
      elim (bytes_eq t.heading.name name) as (λ b. headings (if b then with_slots f t ∷ ts else t ∷ changed_at name f ts) ≡ t.heading ∷ headings ts)
      [ true ↦ refl | false ↦ ap (λ (hs : List Heading). t.heading ∷ hs) (headings_changed ts) ]

  length-changed : (ts : Tables) → length (changed_at name f ts) ≡ length ts
  length-changed [] = refl
  length-changed (t ∷ ts) =
      elim (bytes_eq t.heading.name name) as (λ b. length (if b then with_slots f t ∷ ts else t ∷ changed_at name f ts) ≡ suc (length ts))
      [ true ↦ refl | false ↦ ap suc (length-changed ts) ]

  pub changed_here : (ts : Tables) → stored_at name (changed_at name f ts) ≡ option_map (with_slots f) (stored_at name ts)
  changed_here [] = refl
  changed_here (t ∷ ts) = go (bytes_eq t.heading.name name) refl (changed_here ts) where
    go : (b : Bool) → bytes_eq t.heading.name name ≡ b → stored_at name (changed_at name f ts) ≡ option_map (with_slots f) (stored_at name ts)
        → stored_at name (if b then with_slots f t ∷ ts else t ∷ changed_at name f ts) ≡ option_map (with_slots f) (cond b (Some t) (stored_at name ts))
    go true is rest = ap (λ (b : Bool). cond b (Some (with_slots f t)) (stored_at name ts)) is
    go false is rest = ap (λ (b : Bool). cond b (Some t) (stored_at name (changed_at name f ts))) is ∙ rest

  changed_others : (other : List ℕ) (ts : Tables) → (other ≡ name → ⊥) → stored_at other (changed_at name f ts) ≡ stored_at other ts
  changed_others other [] off = refl
  changed_others other (t ∷ ts) off = go (bytes_eq t.heading.name name) refl (changed_others other ts off) where
    go : (b : Bool) → bytes_eq t.heading.name name ≡ b → stored_at other (changed_at name f ts) ≡ stored_at other ts
        → stored_at other (if b then with_slots f t ∷ ts else t ∷ changed_at name f ts) ≡ cond (bytes_eq t.heading.name other) (Some t) (stored_at other ts)
    go true is rest =
        let no = other_name t.heading.name other (λ same. off (sym same ∙ same_name t.heading.name name is)) in
        ap (λ (b : Bool). cond b (Some (with_slots f t)) (stored_at other ts)) no ∙ sym (ap (λ (b : Bool). cond b (Some t) (stored_at other ts)) no)
    go false is rest = ap (cond (bytes_eq t.heading.name other) (Some t)) rest

  pub alike_changed : (ts us : Tables) → AreAlike ts us → AreAlike (changed_at name f ts) (changed_at name f us)
  alike_changed ts us alike = record {
    count = length-changed ts ∙ alike.count ∙ sym (length-changed us);
    found = λ other. elim (name_cases other name) [
      | inl same ↦ subst (λ (n : List ℕ). stored_at n (changed_at name f ts) ≡ stored_at n (changed_at name f us)) (sym same)
          (changed_here ts ∙ ap (option_map (with_slots f)) (alike.found name) ∙ sym (changed_here us))
      | inr off ↦ changed_others other ts off ∙ alike.found other ∙ sym (changed_others other us off)
    ];
    apart = subst AreApart (sym (headings_changed ts)) alike.apart;
    too = subst AreApart (sym (headings_changed us)) alike.too;
  }

-- ---- one dropped
abbrev counted : {A : Type 0} → Option A → ℕ
counted None = 0
counted (Some x) = 1

pub any_found : (name of : List ℕ) (ts : Tables) → name ≡ of → list_any (bytes_eq name) (names_of (headings ts)) ≡ false → stored_at of ts ≡ None
any_found name of [] same none = refl
any_found name of (t ∷ ts) same none =
    let both = neither (bytes_eq name t.heading.name) (list_any (bytes_eq name) (names_of (headings ts))) none in
    let off = other_name t.heading.name of (λ is. let hit = (bytes_eq-Decides name t.heading.name).1 (same ∙ sym is) in absurd (cc (hit, both.0))) in
    ap (λ (b : Bool). cond b (Some t) (stored_at of ts)) off ∙ any_found name of ts same both.1

module _ (name : List ℕ) where
  dropped_count : (ts : Tables) → length (dropped_at name ts) + counted (stored_at name ts) ≡ length ts
  dropped_count [] = refl
  dropped_count (t ∷ ts) =
      elim (bytes_eq t.heading.name name) as (λ b. length (if b then ts else t ∷ dropped_at name ts) + counted (cond b (Some t) (stored_at name ts)) ≡ suc (length ts))
      [ true ↦ omega (arith) | false ↦ let rest = dropped_count ts in omega (arith, rest) ]

  dropped_here : (ts : Tables) → AreApart (headings ts) → stored_at name (dropped_at name ts) ≡ None
  dropped_here [] apart = refl
  dropped_here (t ∷ ts) apart =
      let both = neither (list_any (bytes_eq t.heading.name) (names_of (headings ts))) (has_repeats bytes_eq (names_of (headings ts))) apart in
      go both.0 (bytes_eq t.heading.name name) refl (dropped_here ts both.1) where
        go : list_any (bytes_eq t.heading.name) (names_of (headings ts)) ≡ false → (b : Bool) → bytes_eq t.heading.name name ≡ b → stored_at name (dropped_at name ts) ≡ None
            → stored_at name (if b then ts else t ∷ dropped_at name ts) ≡ None
        go none true is rest = any_found t.heading.name name ts (same_name t.heading.name name is) none
        go none false is rest = ap (λ (b : Bool). cond b (Some t) (stored_at name (dropped_at name ts))) is ∙ rest

  dropped_others : (other : List ℕ) (ts : Tables) → (other ≡ name → ⊥) → stored_at other (dropped_at name ts) ≡ stored_at other ts
  dropped_others other [] off = refl
  dropped_others other (t ∷ ts) off = go (bytes_eq t.heading.name name) refl (dropped_others other ts off) where
    go : (b : Bool) → bytes_eq t.heading.name name ≡ b → stored_at other (dropped_at name ts) ≡ stored_at other ts
        → stored_at other (if b then ts else t ∷ dropped_at name ts) ≡ cond (bytes_eq t.heading.name other) (Some t) (stored_at other ts)
    go true is rest =
        let no = other_name t.heading.name other (λ same. off (sym same ∙ same_name t.heading.name name is)) in
        sym (ap (λ (b : Bool). cond b (Some t) (stored_at other ts)) no)
    go false is rest = ap (cond (bytes_eq t.heading.name other) (Some t)) rest

  any_dropped : (of : List ℕ) (ts : Tables) → list_any (bytes_eq of) (names_of (headings ts)) ≡ false → list_any (bytes_eq of) (names_of (headings (dropped_at name ts))) ≡ false
  any_dropped of [] none = refl
  any_dropped of (t ∷ ts) none =
      let both = neither (bytes_eq of t.heading.name) (list_any (bytes_eq of) (names_of (headings ts))) none in
      let rest = any_dropped of ts both.1 in
      elim (bytes_eq t.heading.name name) as (λ b. list_any (bytes_eq of) (names_of (headings (if b then ts else t ∷ dropped_at name ts))) ≡ false)
      [ true ↦ both.1 | false ↦ none_either (bytes_eq of t.heading.name) (list_any (bytes_eq of) (names_of (headings (dropped_at name ts)))) both.0 rest ]

  dropped_apart : (ts : Tables) → AreApart (headings ts) → AreApart (headings (dropped_at name ts))
  dropped_apart [] apart = refl
  dropped_apart (t ∷ ts) apart =
      let both = neither (list_any (bytes_eq t.heading.name) (names_of (headings ts))) (has_repeats bytes_eq (names_of (headings ts))) apart in
      let rest = dropped_apart ts both.1 in
      elim (bytes_eq t.heading.name name) as (λ b. AreApart (headings (if b then ts else t ∷ dropped_at name ts))) [
        | true ↦ both.1
        | false ↦ none_either (list_any (bytes_eq t.heading.name) (names_of (headings (dropped_at name ts)))) (has_repeats bytes_eq (names_of (headings (dropped_at name ts))))
            (any_dropped t.heading.name ts both.0) rest
      ]

  pub alike_dropped : (ts us : Tables) → AreAlike ts us → AreAlike (dropped_at name ts) (dropped_at name us)
  alike_dropped ts us alike = record {
    count =
        let first = dropped_count ts in
        let second = dropped_count us in
        let one = ap (λ (o : Option (Stored Held)). counted o) (alike.found name) in
        let many = alike.count in
        omega (arith, first, second, one, many);
    found = λ other. elim (name_cases other name) [
      | inl same ↦ subst (λ (n : List ℕ). stored_at n (dropped_at name ts) ≡ stored_at n (dropped_at name us)) (sym same) (dropped_here ts alike.apart ∙ sym (dropped_here us alike.too))
      | inr off ↦ dropped_others other ts off ∙ alike.found other ∙ sym (dropped_others other us off)
    ];
    apart = dropped_apart ts alike.apart;
    too = dropped_apart us alike.too;
  }
