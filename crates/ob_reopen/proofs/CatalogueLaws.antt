-- Tables that a closing may list are a catalogue, once they are in order of their names.
use Rattle.std.proofs.Common.{◌≡◌, ◌≢◌, ◌⊎◌, inl, inr, ℕ, zero, suc, ◌+◌, ◌≤◌, Bool, true, false, not, ◌&&◌, ◌||◌, ◌==◌, nat_le, IsTrue, if◌then◌else◌, List, [], ◌∷◌, length, take, map, fold, insert, Ordering, Less, Equal, Greater, Some, refl, sym, ◌∙◌, ap, subst, arith}
use Rattle.std.proofs.lemmas.Bool.{and_parts, and_from, or_left, or_right, le-leb, ne_eqb, not_from_false}
use Rattle.std.proofs.lemmas.Cmp.{nat_list_cmp_total}
use Rattle.std.proofs.lemmas.List.{length-map}
use Rattle.std.specs.Prelude.{slice_get}
use Rattle.std.specs.Cmp.Lexicographic.{slice_cmp}
use Rattle.std.specs.FinMap.{nat_cmp-IsAntisymmetric, slice_cmp-IsAntisymmetric}
use Rattle.std.specs.List.{list_all, prefix_len}
use Rattle.std.specs.Ordering.{is_lt, nat_cmp, ordering_reverse}
use Rattle.ob_base.specs.declared.schema.Table.{Table}
use Rattle.ob_seal.specs.KeySet.{KeySet}
use Rattle.ob_vault.specs.State.{RevState}
use Rattle.ob_reopen.specs.declared.closing.Closing.{Closing}
use Rattle.ob_reopen.specs.declared.listed.Listed.{Listed}
use Rattle.ob_reopen.specs.Limits.{IsCatalogue, IsListed, are_apart, end_of}
use Rattle.ob_reopen.specs.Writings.{ListsAll, MayList, StandApart, catalogue_of, is_before, listed_of, placed}

-- ---- a table is put after the first ones that have a smaller name
abbrev put : List Listed → Listed → List Listed
put [] t = t ∷ []
put (u ∷ us) t = if is_before t u then u ∷ put us t else t ∷ u ∷ us

put_more : (b : Bool) (u : Listed) (us : List Listed) (t : Listed) (n : ℕ) → insert us n t ≡ put us t → insert (u ∷ us) (if b then 1 + n else 0) t ≡ (if b then u ∷ put us t else t ∷ u ∷ us)
put_more true u us t n is =
    let next : 1 + n ≡ suc n = omega arith in
    ap (λ (k : ℕ). insert (u ∷ us) k t) next ∙ ap (λ (l : List Listed). u ∷ l) is
put_more false u us t n is = refl

placed_is : (us : List Listed) (t : Listed) → placed us t ≡ put us t
placed_is [] t = refl
placed_is (u ∷ us) t = put_more (is_before t u) u us t (prefix_len (is_before t) us) (placed_is us t)

fold_is : (us ts : List Listed) → fold placed us ts ≡ fold put us ts
fold_is us [] = refl
fold_is us (t ∷ ts) = ap (λ (l : List Listed). fold placed l ts) (placed_is us t) ∙ fold_is (put us t) ts

length-put : (us : List Listed) (t : Listed) → length (put us t) ≡ suc (length us)
length-put [] t = refl
length-put (u ∷ us) t = elim (is_before t u) as (λ b. length (if b then u ∷ put us t else t ∷ u ∷ us) ≡ suc (suc (length us))) [
  | true ↦ ap suc (length-put us t)
  | false ↦ refl
]

length-fold : (us ts : List Listed) → length (fold put us ts) ≡ length us + length ts
length-fold us [] = omega arith
length-fold us (t ∷ ts) = let n = length-put us t in length-fold (put us t) ts ∙ omega (arith, n)

-- ---- what is so of each table
abbrev Each : (Listed → Type 0) → List Listed → Type 0
Each P [] = Unit {0}
Each P (t ∷ ts) = P t × Each P ts

each_all : (P : Listed → Type 0) → ((t : Listed) → P t) → (ts : List Listed) → Each P ts
each_all P fine [] = tt
each_all P fine (t ∷ ts) = (fine t, each_all P fine ts)

each_both : (P Q R : Listed → Type 0) → ((t : Listed) → P t → Q t → R t) → (ts : List Listed) → Each P ts → Each Q ts → Each R ts
each_both P Q R both [] ps qs = tt
each_both P Q R both (t ∷ ts) ps qs = (both t ps.0 qs.0, each_both P Q R both ts ps.1 qs.1)

each_at : (P : Listed → Type 0) (ts : List Listed) → Each P ts → (i : ℕ) (t : Listed) → slice_get ts i ≡ Some t → P t
each_at P [] all i t is = absurd (cc is)
each_at P (u ∷ us) all zero t is = let same : u ≡ t = cc is in subst P same all.0
each_at P (u ∷ us) all (suc i) t is = each_at P us all.1 i t is

each_of : (P : Listed → Type 0) (keys : KeySet) (revs : RevState) (tables : List Table) → ((i : ℕ) (t : Table) → slice_get tables i ≡ Some t → P (listed_of keys revs t)) → Each P (map (listed_of keys revs) tables)
each_of P keys revs [] fine = tt
each_of P keys revs (t ∷ ts) fine = (fine zero t refl, each_of P keys revs ts (λ i u is. fine (suc i) u is))

each_put : (P : Listed → Type 0) (us : List Listed) (t : Listed) → P t → Each P us → Each P (put us t)
each_put P [] t fine all = (fine, tt)
each_put P (u ∷ us) t fine all = elim (is_before t u) as (λ b. Each P (if b then u ∷ put us t else t ∷ u ∷ us)) [
  | true ↦ (all.0, each_put P us t fine all.1)
  | false ↦ (fine, all)
]

each_fold : (P : Listed → Type 0) (us ts : List Listed) → Each P us → Each P ts → Each P (fold put us ts)
each_fold P us [] all more = all
each_fold P us (t ∷ ts) all more = each_fold P (put us t) ts (each_put P us t more.0 all) more.1

-- ---- names in order
-- whether the first has the smaller name
abbrev is_smaller : Listed → Listed → Bool
is_smaller t u = is_before u t

less_is : (o : Ordering) → is_lt o ≡ true → o ≡ Less
less_is Less is = refl
less_is Equal is = absurd (cc is)
less_is Greater is = absurd (cc is)

other_way : (o r : Ordering) → r ≡ ordering_reverse o → is_lt r ≡ false → (o ≡ Equal → ⊥) → is_lt o ≡ true
other_way Less r back above off = refl
other_way Equal r back above off = absurd (off refl)
other_way Greater r back above off = let yes : is_lt r ≡ true = ap is_lt back in absurd (cc (yes, above))

smaller_trans : (t u v : Listed) → is_smaller t u ≡ true → is_smaller u v ≡ true → is_smaller t v ≡ true
smaller_trans t u v first second =
    ap is_lt (nat_list_cmp_total.trans t.table.heading.name u.table.heading.name v.table.heading.name (less_is _ first) (less_is _ second))

smaller_else : (t u : Listed) → t.table.heading.name ≢ u.table.heading.name → is_smaller u t ≡ false → is_smaller t u ≡ true
smaller_else t u off above =
    let x = t.table.heading.name in
    let y = u.table.heading.name in
    other_way (slice_cmp nat_cmp x y) (slice_cmp nat_cmp y x) (nat_list_cmp_total.antisymm y x) above
    (λ tie. off (slice_cmp-IsAntisymmetric nat_cmp-IsAntisymmetric x y tie))

-- ---- tables that stand apart
both_apart : (less : Bool) (r s e f m n : ℕ) → less ≡ true → r ≢ s → (e ≤ n) ⊎ (f ≤ m) → IsTrue (less && not (r == s) && (nat_le e n || nat_le f m))
both_apart less r s e f m n is off numbers =
    let either : (nat_le e n || nat_le f m) ≡ true = elim numbers [
      | inl le ↦ or_left (nat_le e n) (nat_le f m) (le-leb e n le)
      | inr le ↦ or_right (nat_le e n) (nat_le f m) (le-leb f m le)
    ] in
    and_from (less && not (r == s)) (nat_le e n || nat_le f m)
    (and_from less (not (r == s)) is (not_from_false (r == s) (ne_eqb r s off))) either

apart_is : (pack : ℕ) (t u : Listed) → is_smaller t u ≡ true → StandApart pack t u → IsTrue (are_apart pack t u)
apart_is pack t u less apart =
    both_apart (is_smaller t u) t.table.region u.table.region (end_of pack t) (end_of pack u) t.number u.number less apart.regions apart.numbers

smaller_is : (less other more : Bool) → IsTrue (less && other && more) → less ≡ true
smaller_is less other more is = (and_parts less other (and_parts (less && other) more is).0).0

turned : (pack : ℕ) (t u : Listed) → StandApart pack t u → StandApart pack u t
turned pack t u apart = record {
  names = λ same. apart.names (sym same);
  regions = λ same. apart.regions (sym same);
  numbers = elim apart.numbers [ inl le ↦ inr le | inr le ↦ inl le ];
}

-- ---- each table is apart from those after it
abbrev Sorted : ℕ → List Listed → Type 0
Sorted pack [] = Unit {0}
Sorted pack (t ∷ ts) = Each (λ (u : Listed). IsTrue (are_apart pack t u)) ts × Sorted pack ts

abbrev AllApart : ℕ → List Listed → Type 0
AllApart pack [] = Unit {0}
AllApart pack (t ∷ ts) = Each (StandApart pack t) ts × AllApart pack ts

all_apart : (pack : ℕ) (keys : KeySet) (revs : RevState) (tables : List Table)
    → ((i j : ℕ) (t u : Table) → slice_get tables i ≡ Some t → slice_get tables j ≡ Some u → i ≢ j → StandApart pack (listed_of keys revs t) (listed_of keys revs u))
    → AllApart pack (map (listed_of keys revs) tables)
all_apart pack keys revs [] apart = tt
all_apart pack keys revs (t ∷ ts) apart = (
  each_of (StandApart pack (listed_of keys revs t)) keys revs ts (λ i u is. apart zero (suc i) t u refl is (λ same. omega (arith, same))),
  all_apart pack keys revs ts (λ i j u v at there off. apart (suc i) (suc j) u v at there (λ same. off (omega (arith, same)))),
)

module _ (pack : ℕ) where
  -- the first of them comes before those that come after another one
  first_of_all : (t u : Listed) (us : List Listed) → is_smaller t u ≡ true → Each (λ (v : Listed). IsTrue (are_apart pack u v)) us → Each (λ (v : Listed). StandApart pack v t) us
      → Each (λ (v : Listed). IsTrue (are_apart pack t v)) us
  first_of_all t u us less behind apart =
      each_both (λ (v : Listed). IsTrue (are_apart pack u v)) (λ (v : Listed). StandApart pack v t) (λ (v : Listed). IsTrue (are_apart pack t v))
      (λ v after off. apart_is pack t v (smaller_trans t u v less (smaller_is (is_smaller u v) _ _ after)) (turned pack v t off))
      us behind apart

  sorted_put : (us : List Listed) (t : Listed) → Sorted pack us → Each (λ (u : Listed). StandApart pack u t) us → Sorted pack (put us t)
  sorted_put [] t up apart = (tt, tt)
  sorted_put (u ∷ us) t up apart =
      elim (is_before t u) as (λ b. is_before t u ≡ b → Sorted pack (if b then u ∷ put us t else t ∷ u ∷ us)) [
        | true ↦ λ is. (each_put (λ (v : Listed). IsTrue (are_apart pack u v)) us t (apart_is pack u t is apart.0) up.0, sorted_put us t up.1 apart.1)
        | false ↦ λ is.
            let off = turned pack u t apart.0 in
            let less = smaller_else t u off.names is in
            ((apart_is pack t u less off, first_of_all t u us less up.0 apart.1), up)
      ] refl

  sorted_fold : (us ts : List Listed) → Sorted pack us → AllApart pack ts → Each (λ (t : Listed). Each (λ (u : Listed). StandApart pack u t) us) ts → Sorted pack (fold put us ts)
  sorted_fold us [] up apart from = up
  sorted_fold us (t ∷ ts) up apart from =
      sorted_fold (put us t) ts (sorted_put us t up from.0) apart.1
      (each_both (StandApart pack t) (λ (v : Listed). Each (λ (u : Listed). StandApart pack u v) us) (λ (v : Listed). Each (λ (u : Listed). StandApart pack u v) (put us t))
      (λ v one all. each_put (λ (u : Listed). StandApart pack u v) us t one all) ts apart.0 from.1)

  -- and so from those before it
  apart_at : (ts : List Listed) → Sorted pack ts → (i : ℕ) (t : Listed) → slice_get ts i ≡ Some t → IsTrue (list_all (λ (u : Listed). are_apart pack u t) (take i ts))
  apart_at [] up i t is = absurd (cc is)
  apart_at (u ∷ us) up zero t is = refl
  apart_at (u ∷ us) up (suc i) t is =
      and_from (are_apart pack u t) (list_all (λ (v : Listed). are_apart pack v t) (take i us))
      (each_at (λ (v : Listed). IsTrue (are_apart pack u v)) us up.0 i t is) (apart_at us up.1 i t is)

pub catalogue_is : (closing : Closing) (keys : KeySet) (revs : RevState) (tables : List Table) → MayList closing keys revs tables → IsCatalogue closing (catalogue_of keys revs tables)
catalogue_is closing keys revs tables may =
    let ts = map (listed_of keys revs) tables in
    let pack = closing.pack in
    let listed = each_fold (IsListed closing) [] ts tt (each_of (IsListed closing) keys revs tables may.each) in
    let alone = each_all (λ (t : Listed). Each (λ (u : Listed). StandApart pack u t) []) (λ t. tt) ts in
    let sorted = sorted_fold pack [] ts tt (all_apart pack keys revs tables may.apart) alone in
    let n = length-fold [] ts in
    let m = length-map tables (listed_of keys revs) in
    subst (IsCatalogue closing) (sym (fold_is [] ts)) (record {
      are = record {
        each = λ i t is. record {
          listed = each_at (IsListed closing) (fold put [] ts) listed i t is;
          apart = apart_at pack (fold put [] ts) sorted i t is;
        };
      };
      count = omega (arith, n, m, may.count);
    })

-- ---- no table is lost, and none is added
abbrev Has : List Listed → Listed → Type 0
Has us t = (j : ℕ) × (slice_get us j ≡ Some t)

has_behind : (u : Listed) (us : List Listed) (t : Listed) → Has us t → Has (u ∷ us) t
has_behind u us t (j, is) = (suc j, is)

has_put : (us : List Listed) (t u : Listed) (j : ℕ) → slice_get us j ≡ Some u → Has (put us t) u
has_put [] t u j is = absurd (cc is)
has_put (x ∷ xs) t u zero is = elim (is_before t x) as (λ b. Has (if b then x ∷ put xs t else t ∷ x ∷ xs) u) [ true ↦ (zero, is) | false ↦ (suc zero, is) ]
has_put (x ∷ xs) t u (suc j) is = elim (is_before t x) as (λ b. Has (if b then x ∷ put xs t else t ∷ x ∷ xs) u) [
  | true ↦ has_behind x (put xs t) u (has_put xs t u j is)
  | false ↦ (suc (suc j), is)
]

put_has : (us : List Listed) (t : Listed) → Has (put us t) t
put_has [] t = (zero, refl)
put_has (x ∷ xs) t = elim (is_before t x) as (λ b. Has (if b then x ∷ put xs t else t ∷ x ∷ xs) t) [
  | true ↦ has_behind x (put xs t) t (put_has xs t)
  | false ↦ (zero, refl)
]

has_fold : (us ts : List Listed) (u : Listed) → Has us u → Has (fold put us ts) u
has_fold us [] u has = has
has_fold us (t ∷ ts) u (j, is) = has_fold (put us t) ts u (has_put us t u j is)

fold_has : (us ts : List Listed) (i : ℕ) (t : Listed) → slice_get ts i ≡ Some t → Has (fold put us ts) t
fold_has us [] i t is = absurd (cc is)
fold_has us (x ∷ xs) zero t is = let same : x ≡ t = cc is in subst (Has (fold put (put us x) xs)) same (has_fold (put us x) xs x (put_has us x))
fold_has us (x ∷ xs) (suc i) t is = fold_has (put us x) xs i t is

mapped : (keys : KeySet) (revs : RevState) (tables : List Table) (i : ℕ) (t : Table) → slice_get tables i ≡ Some t → slice_get (map (listed_of keys revs) tables) i ≡ Some (listed_of keys revs t)
mapped keys revs [] i t is = absurd (cc is)
mapped keys revs (x ∷ xs) zero t is = let same : x ≡ t = cc is in ap (λ (u : Table). Some (listed_of keys revs u)) same
mapped keys revs (x ∷ xs) (suc i) t is = mapped keys revs xs i t is

-- one of these tables
abbrev IsOne : KeySet → RevState → List Table → Listed → Type 0
IsOne keys revs tables x = (i : ℕ) × (t : Table) × (slice_get tables i ≡ Some t) × (x ≡ listed_of keys revs t)

pub catalogue_has : (keys : KeySet) (revs : RevState) (tables : List Table) → ListsAll keys revs tables (catalogue_of keys revs tables)
catalogue_has keys revs tables =
    let ts = map (listed_of keys revs) tables in
    let ones = each_fold (IsOne keys revs tables) [] ts tt (each_of (IsOne keys revs tables) keys revs tables (λ i t is. (i, t, is, refl))) in
    let n = length-fold [] ts in
    let m = length-map tables (listed_of keys revs) in
    subst (ListsAll keys revs tables) (sym (fold_is [] ts)) (record {
      has = λ i t is. fold_has [] ts i (listed_of keys revs t) (mapped keys revs tables i t is);
      only = λ j x is. each_at (IsOne keys revs tables) (fold put [] ts) ones j x is;
      count = omega (arith, n, m);
    })
