-- The first row of each group, with one row more after the others.
use Rattle.std.proofs.Common.{◌≡◌, ℕ, Bool, true, false, List, [], ◌∷◌, ◌++◌, refl, sym, ◌∙◌, ap, subst, cond}
use Rattle.std.specs.Prelude.{filter, Option, Some, None, not, ◌||◌, if◌then◌else◌}
use Rattle.std.specs.List.{list_any}
use Rattle.std.proofs.lemmas.Bool.Decides.{Decides-int_eq}
use Rattle.std.proofs.lemmas.List.Elements.{filter-append}
use Rattle.std.proofs.lemmas.Slice.Eq.{bytes_eq-Decides}
use Rattle.ob_base.specs.Lists.{distinct, has_repeats}
use Rattle.ob_row.specs.Rows.{Row, agree_at, cell_at, cell_eq, options_eq}
use Rattle.ob_row.specs.declared.cell.Cell.{Cell}
use Rattle.ob_row.specs.declared.cell.Cell.TheVariants.{Int, Text}
use Rattle.ob_row.proofs.PlaceLemmas.{cell_eq-same, is_false}

pub cell_eq-refl : (x : Cell) → cell_eq x x ≡ true
cell_eq-refl (Int x) = (Decides-int_eq x x).1 refl
cell_eq-refl (Text t) = (bytes_eq-Decides t t).1 refl

options_eq-same : (x y : Option Cell) → options_eq x y ≡ true → x ≡ y
options_eq-same None y h = cc
options_eq-same (Some x) None h = cc
options_eq-same (Some x) (Some y) h = ap Some (cell_eq-same x y h)

-- what agrees with a row has its key
pub agrees : (key : ℕ) (a b : Row) → agree_at key key a b ≡ true → cell_at a key ≡ cell_at b key
agrees key a b h = options_eq-same (cell_at a key) (cell_at b key) h

pub agree-sym : (key : ℕ) (a b : Row) → agree_at key key a b ≡ true → agree_at key key b a ≡ true
agree-sym key a b h =
    let same = agrees key a b h in
    subst (λ (x : Option Cell). options_eq (cell_at b key) x ≡ true) (sym same) (subst (λ (x : Option Cell). options_eq x (cell_at b key) ≡ true) same h)

pub agree-trans : (key : ℕ) (a b c : Row) → agree_at key key a b ≡ true → agree_at key key b c ≡ true → agree_at key key a c ≡ true
agree-trans key a b c h k = subst (λ (x : Option Cell). options_eq (cell_at a key) x ≡ true) (agrees key b c k) h

pub neither : (a b : Bool) → (a || b) ≡ false → (a ≡ false) × (b ≡ false)
neither true b h = cc
neither false b h = (refl, h)

module _ {A : Type 0} where
  -- a filter that keeps all that pass another test
  any-filter : (q r : A → Bool) (xs : List A) → ((x : A) → q x ≡ true → r x ≡ true) → list_any q (filter r xs) ≡ list_any q xs
  any-filter q r [] keeps = refl
  any-filter q r (x ∷ xs) keeps =
      let rest = any-filter q r xs keeps in
      let split : (b : Bool) → r x ≡ b → list_any q (cond b (x ∷ filter r xs) (filter r xs)) ≡ (q x || list_any q xs) =
      λ b. elim b as (λ (b : Bool). r x ≡ b → list_any q (cond b (x ∷ filter r xs) (filter r xs)) ≡ (q x || list_any q xs)) [
        | true ↦ λ e. ap (λ (t : Bool). q x || t) rest
        | false ↦ λ e.
            let off : q x ≡ false = is_false (q x) (λ h. cc (keeps x h, e)) in
            rest ∙ ap (λ (t : Bool). t || list_any q xs) (sym off)
      ] in
      split (r x) refl

  -- what a filter left out isn't there
  any-off : (q r : A → Bool) (xs : List A) → list_any q xs ≡ false → list_any q (filter r xs) ≡ false
  any-off q r [] none = refl
  any-off q r (x ∷ xs) none =
      let n = neither (q x) (list_any q xs) none in
      let rest = any-off q r xs n.1 in
      elim (r x) as (λ (b : Bool). list_any q (cond b (x ∷ filter r xs) (filter r xs)) ≡ false) [ true ↦ ap (λ (t : Bool). t || list_any q (filter r xs)) n.0 ∙ rest | false ↦ rest ]

  any-not : (q : A → Bool) (xs : List A) → list_any q (filter (λ x. not (q x)) xs) ≡ false
  any-not q [] = refl
  any-not q (x ∷ xs) =
      let rest = any-not q xs in
      let split : (b : Bool) → q x ≡ b → list_any q (cond (not b) (x ∷ filter (λ x. not (q x)) xs) (filter (λ x. not (q x)) xs)) ≡ false =
      λ b. elim b as (λ (b : Bool). q x ≡ b → list_any q (cond (not b) (x ∷ filter (λ x. not (q x)) xs) (filter (λ x. not (q x)) xs)) ≡ false) [
        | true ↦ λ e. rest
        | false ↦ λ e. ap (λ (t : Bool). t || list_any q (filter (λ x. not (q x)) xs)) e ∙ rest
      ] in
      split (q x) refl

  no_repeats-filter : (eq : A → A → Bool) (r : A → Bool) (xs : List A) → has_repeats eq xs ≡ false → has_repeats eq (filter r xs) ≡ false
  no_repeats-filter eq r [] none = refl
  no_repeats-filter eq r (x ∷ xs) none =
      let n = neither (list_any (eq x) xs) (has_repeats eq xs) none in
      let rest = no_repeats-filter eq r xs n.1 in
      elim (r x) as (λ (b : Bool). has_repeats eq (cond b (x ∷ filter r xs) (filter r xs)) ≡ false) [
        | true ↦ ap (λ (t : Bool). t || has_repeats eq (filter r xs)) (any-off (eq x) r xs n.0) ∙ rest
        | false ↦ rest
      ]

  pub distinct-once : (eq : A → A → Bool) (xs : List A) → has_repeats eq (distinct eq xs) ≡ false
  distinct-once eq [] = refl
  distinct-once eq (x ∷ xs) =
      ap (λ (t : Bool). t || has_repeats eq (filter (λ y. not (eq x y)) (distinct eq xs))) (any-not (eq x) (distinct eq xs))
      ∙ no_repeats-filter eq (λ y. not (eq x y)) (distinct eq xs) (distinct-once eq xs)

module _ (key : ℕ) (x : Row) where
  abbrev eq : Row → Row → Bool
  eq = agree_at key key

  -- whether one of them has the key of x
  abbrev pub is_old : List Row → Bool
  is_old heads = list_any (λ h. eq h x) heads

  abbrev pub more : Bool → List Row
  more old = if old then [] else x ∷ []

  -- a row of another key stands in the way of none
  beside : (y : Row) (xs : List Row) → eq y x ≡ false → is_old (filter (λ z. not (eq y z)) xs) ≡ is_old xs
  beside y xs off = any-filter (λ h. eq h x) (λ z. not (eq y z)) xs (λ z is. ap not (is_false (eq y z) (λ h. cc (agree-trans key y z x h is, off))))

  pub heads-more : (xs : List Row) → distinct eq (xs ++ x ∷ []) ≡ distinct eq xs ++ more (is_old (distinct eq xs))
  heads-more [] = refl
  heads-more (y ∷ xs) =
      let others = λ (l : List Row). filter (λ z. not (eq y z)) l in
      let heads = distinct eq xs in
      let rest : others (distinct eq (xs ++ x ∷ [])) ≡ others heads ++ others (more (is_old heads)) =
      ap others (heads-more xs) ∙ filter-append (λ z. not (eq y z)) heads (more (is_old heads)) in
      ap (λ (l : List Row). y ∷ l) (rest ∙ ap (λ (l : List Row). others heads ++ l) (last y heads (eq y x) refl))
    where
      last : (y : Row) (heads : List Row) (b : Bool) → eq y x ≡ b → filter (λ z. not (eq y z)) (more (is_old heads)) ≡ more (b || is_old (filter (λ z. not (eq y z)) heads))
      last y heads true e =
          elim (is_old heads) as (λ (o : Bool). filter (λ z. not (eq y z)) (more o) ≡ []) [ true ↦ refl | false ↦ ap (λ (b : Bool). cond (not b) (x ∷ []) []) e ]
      last y heads false e =
          let same = beside y heads e in
          elim (is_old heads) as (λ (o : Bool). filter (λ z. not (eq y z)) (more o) ≡ more o) [ true ↦ refl | false ↦ ap (λ (b : Bool). cond (not b) (x ∷ []) []) e ]
          ∙ ap more (sym same)

  -- a row of a new key has no other in its group
  pub none_before : (xs : List Row) → is_old (distinct eq xs) ≡ false → filter (eq x) xs ≡ []
  none_before [] new = refl
  none_before (y ∷ xs) new =
      let n = neither (eq y x) (is_old (filter (λ z. not (eq y z)) (distinct eq xs))) new in
      let rest = none_before xs (sym (beside y (distinct eq xs) n.0) ∙ n.1) in
      let off : eq x y ≡ false = is_false (eq x y) (λ h. cc (agree-sym key x y h, n.0)) in
      ap (λ (b : Bool). cond b (y ∷ filter (eq x) xs) (filter (eq x) xs)) off ∙ rest
