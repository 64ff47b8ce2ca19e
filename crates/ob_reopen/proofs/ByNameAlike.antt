-- Tables in order of their names are the same tables.
use Rattle.std.proofs.Common.{◌≡◌, ℕ, zero, suc, ◌+◌, Bool, true, false, cond, List, [], ◌∷◌, length, Option, Some, None, refl, sym, ◌∙◌, ap, arith}
use Rattle.std.specs.Prelude.{bytes_eq, fold}
use Rattle.std.specs.List.{insert, list_any, prefix_len}
use Rattle.std.specs.Option.{option_or}
use Rattle.std.proofs.lemmas.Slice.Eq.{bytes_eq-Decides}
use Rattle.ob_base.specs.Lists.{has_repeats}
use Rattle.ob_base.specs.Stored.{AreApart, Stored, headings, stored_at}
use Rattle.ob_mean.specs.Verdict.{Held, Tables}
use Rattle.ob_mean.proofs.EarlyLemmas.{neither}
use Rattle.ob_reopen.specs.Resting.{by_name, is_before, placed}
use Rattle.ob_verdict.proofs.AlikeTables.{any_found, names_of}
use Rattle.ob_verdict.proofs.InPlaceProof.{none_either}
use Rattle.ob_verdict.proofs.MovingProof.{other_name, same_name}
use Rattle.ob_verdict.specs.Alike.{AreAlike}

other_way : (a b : List ℕ) → bytes_eq a b ≡ false → bytes_eq b a ≡ false
other_way a b off = other_name b a (λ same. let hit = (bytes_eq-Decides a b).1 (sym same) in absurd (cc (hit, off)))

-- no table of these has its name
abbrev IsOff : Stored Held → Tables → Type 0
IsOff t us = list_any (bytes_eq t.heading.name) (names_of (headings us)) ≡ false

abbrev AreOff : Tables → Tables → Type 0
AreOff us [] = Unit {0}
AreOff us (t ∷ ts) = IsOff t us × AreOff us ts

all_off : (ts : Tables) → AreOff [] ts
all_off [] = tt
all_off (t ∷ ts) = (refl, all_off ts)

-- ---- one more
length-insert : (us : Tables) (n : ℕ) (t : Stored Held) → length (insert us n t) ≡ suc (length us)
length-insert [] zero t = refl
length-insert [] (suc n) t = refl
length-insert (u ∷ us) zero t = refl
length-insert (u ∷ us) (suc n) t = ap suc (length-insert us n t)

any_insert : (name : List ℕ) (us : Tables) (n : ℕ) (t : Stored Held) → bytes_eq name t.heading.name ≡ false → list_any (bytes_eq name) (names_of (headings us)) ≡ false
    → list_any (bytes_eq name) (names_of (headings (insert us n t))) ≡ false
any_insert name [] zero t off none = none_either (bytes_eq name t.heading.name) false off refl
any_insert name [] (suc n) t off none = none_either (bytes_eq name t.heading.name) false off refl
any_insert name (u ∷ us) zero t off none = none_either (bytes_eq name t.heading.name) (list_any (bytes_eq name) (names_of (headings (u ∷ us)))) off none
any_insert name (u ∷ us) (suc n) t off none =
    let both = neither (bytes_eq name u.heading.name) (list_any (bytes_eq name) (names_of (headings us))) none in
    none_either (bytes_eq name u.heading.name) (list_any (bytes_eq name) (names_of (headings (insert us n t)))) both.0 (any_insert name us n t off both.1)

apart_insert : (us : Tables) (n : ℕ) (t : Stored Held) → AreApart (headings us) → IsOff t us → AreApart (headings (insert us n t))
apart_insert [] zero t apart off = refl
apart_insert [] (suc n) t apart off = refl
apart_insert (u ∷ us) zero t apart off = none_either (list_any (bytes_eq t.heading.name) (names_of (headings (u ∷ us)))) (has_repeats bytes_eq (names_of (headings (u ∷ us)))) off apart
apart_insert (u ∷ us) (suc n) t apart off =
    let both = neither (list_any (bytes_eq u.heading.name) (names_of (headings us))) (has_repeats bytes_eq (names_of (headings us))) apart in
    let here = neither (bytes_eq t.heading.name u.heading.name) (list_any (bytes_eq t.heading.name) (names_of (headings us))) off in
    none_either (list_any (bytes_eq u.heading.name) (names_of (headings (insert us n t)))) (has_repeats bytes_eq (names_of (headings (insert us n t))))
    (any_insert u.heading.name us n t (other_way t.heading.name u.heading.name here.0) both.0) (apart_insert us n t both.1 here.1)

-- the first of two that don't both hold
swapped : {A : Type 0} (b c : Bool) (x y z : A) → (b ≡ true → c ≡ true → ⊥) → cond b x (cond c y z) ≡ cond c y (cond b x z)
swapped true true x y z never = absurd (never refl refl)
swapped true false x y z never = refl
swapped false true x y z never = refl
swapped false false x y z never = refl

insert_found : (name : List ℕ) (us : Tables) (n : ℕ) (t : Stored Held) → IsOff t us → stored_at name (insert us n t) ≡ cond (bytes_eq t.heading.name name) (Some t) (stored_at name us)
insert_found name [] zero t off = refl
insert_found name [] (suc n) t off = refl
insert_found name (u ∷ us) zero t off = refl
insert_found name (u ∷ us) (suc n) t off =
    let here = neither (bytes_eq t.heading.name u.heading.name) (list_any (bytes_eq t.heading.name) (names_of (headings us))) off in
    ap (cond (bytes_eq u.heading.name name) (Some u)) (insert_found name us n t here.1)
    ∙ swapped (bytes_eq u.heading.name name) (bytes_eq t.heading.name name) (Some u) (Some t) (stored_at name us)
    (λ one two.
    let same = same_name t.heading.name name two ∙ sym (same_name u.heading.name name one) in
    let hit = (bytes_eq-Decides t.heading.name u.heading.name).1 same in
    cc (hit, here.0))

-- ---- all of them
off_insert : (us ts : Tables) (n : ℕ) (t : Stored Held) → list_any (bytes_eq t.heading.name) (names_of (headings ts)) ≡ false → AreOff us ts → AreOff (insert us n t) ts
off_insert us [] n t none off = tt
off_insert us (u ∷ ts) n t none off =
    let both = neither (bytes_eq t.heading.name u.heading.name) (list_any (bytes_eq t.heading.name) (names_of (headings ts))) none in
    (any_insert u.heading.name us n t (other_way t.heading.name u.heading.name both.0) off.0, off_insert us ts n t both.1 off.1)

module _ (name : List ℕ) where
  turned : (us ts : Tables) (t : Stored Held) → IsOff t us → (b : Bool) → bytes_eq t.heading.name name ≡ b
      → option_or (cond b (Some t) (stored_at name us)) (stored_at name ts) ≡ option_or (stored_at name us) (cond b (Some t) (stored_at name ts))
  turned us ts t off true is = sym (ap (λ (o : Option (Stored Held)). option_or o (Some t)) (any_found t.heading.name name us (same_name t.heading.name name is) off))
  turned us ts t off false is = refl

  fold_found : (us ts : Tables) → AreApart (headings ts) → AreOff us ts → stored_at name (fold placed us ts) ≡ option_or (stored_at name us) (stored_at name ts)
  fold_found us [] apart off = none_left (stored_at name us)
    where
      none_left : (o : Option (Stored Held)) → o ≡ option_or o None
      none_left None = refl
      none_left (Some t) = refl
  fold_found us (t ∷ ts) apart off =
      let both = neither (list_any (bytes_eq t.heading.name) (names_of (headings ts))) (has_repeats bytes_eq (names_of (headings ts))) apart in
      let n = prefix_len (is_before t) us in
      fold_found (insert us n t) ts both.1 (off_insert us ts n t both.0 off.1)
      ∙ ap (λ (o : Option (Stored Held)). option_or o (stored_at name ts)) (insert_found name us n t off.0)
      ∙ turned us ts t off.0 (bytes_eq t.heading.name name) refl

fold_count : (us ts : Tables) → length (fold placed us ts) ≡ length us + length ts
fold_count us [] = omega (arith)
fold_count us (t ∷ ts) =
    let n = prefix_len (is_before t) us in
    let more = length-insert us n t in
    fold_count (insert us n t) ts ∙ omega (arith, more)

fold_apart : (us ts : Tables) → AreApart (headings us) → AreApart (headings ts) → AreOff us ts → AreApart (headings (fold placed us ts))
fold_apart us [] apart too off = apart
fold_apart us (t ∷ ts) apart too off =
    let both = neither (list_any (bytes_eq t.heading.name) (names_of (headings ts))) (has_repeats bytes_eq (names_of (headings ts))) too in
    let n = prefix_len (is_before t) us in
    fold_apart (insert us n t) ts (apart_insert us n t apart off.0) both.1 (off_insert us ts n t both.0 off.1)

pub named_alike : (tables : Tables) → AreApart (headings tables) → AreAlike tables (by_name tables)
named_alike tables apart = record {
  count = let many = fold_count [] tables in omega (arith, many);
  found = λ name. sym (fold_found name [] tables apart (all_off tables));
  apart = apart;
  too = fold_apart [] tables refl apart (all_off tables);
}
