-- The row of an INSERT that is not refused early fits its table.
use Rattle.std.proofs.Common.{◌≡◌, ℕ, suc, ◌+◌, ◌≤◌, Bool, true, false, List, [], ◌∷◌, ◌++◌, map, length, refl, sym, ◌∙◌, ap, subst, cond, inl, inr, append-nil, arith}
use Rattle.std.specs.Prelude.{Option, Some, None, All, not, ◌||◌, ◌==◌, nat_lt, bytes_eq, unwrap_or, zip, find, flat_map, slice_get}
use Rattle.std.specs.List.{list_any}
use Rattle.std.specs.Option.{option_map_or}
use Rattle.std.proofs.lemmas.Bool.{cases_Bool, cond_both, cond-true, cond-false, false_from_ne_true, true_from_ne_false, true≢false, false≢true, not-false, not_from_true}
use Rattle.std.proofs.lemmas.Bool.Decides.{Decides-eqb, nat_tests}
use Rattle.std.proofs.lemmas.List.{length-map}
use Rattle.std.proofs.lemmas.List.Elements.{All-head, All-tail}
use Rattle.std.proofs.lemmas.Slice.Eq.{bytes_eq-Decides}
use Rattle.ob_base.specs.declared.schema.Kind.{Kind}
use Rattle.ob_base.specs.declared.schema.Kind.TheVariants.{Int as IntKind, Varchar}
use Rattle.ob_base.specs.declared.schema.Column.{Column}
use Rattle.ob_base.specs.declared.schema.Heading.{Heading}
use Rattle.ob_base.specs.declared.skeleton.ColumnName.{ColumnName}
use Rattle.ob_base.specs.Lists.{has_repeats, places_from, places_of, first}
use Rattle.ob_base.specs.Schemas.{Columns}
use Rattle.ob_base.specs.Stored.{heading_at}
use Rattle.ob_row.specs.declared.cell.Cell.{Cell}
use Rattle.ob_row.specs.Rows.{Row}
use Rattle.ob_row.specs.Spelling.{FitsKind, IsCell, FitsColumns}
use Rattle.ob_sql.specs.declared.stmt.Literal.{Literal}
use Rattle.ob_sql.specs.declared.stmt.Literal.TheVariants.{Int as IntLiteral, OutOfRange, Text as TextLiteral, TooLong}
use Rattle.ob_sql.specs.declared.stmt.Stmt.TheVariants.{Insert}
use Rattle.ob_names.specs.Names.{is_named, unqualified, columns_at, means_one}
use Rattle.ob_mean.specs.Conditions.{literal_cell}
use Rattle.ob_names.specs.Kinds.{is_of_kind, is_too_large_for, at_kind}
use Rattle.ob_mean.specs.Refusals.{insert_columns, is_incomplete, early_refusal, Limits}
use Rattle.ob_mean.specs.Step.{given_cell, new_row}
use Rattle.ob_mean.proofs.EarlyLemmas.{allowed, neither}

both_false : (a b : Bool) → a ≡ false → b ≡ false → (a || b) ≡ false
both_false a b h k = (λ t. h t || b) ∙ k

second_of : (a b : Bool) → (a || b) ≡ true → a ≡ false → b ≡ true
second_of true b h k = cc
second_of false b h k = h

-- the second of two put in another's place
either_with : (a b c : Bool) → (a || b) ≡ true → (b ≡ true → c ≡ true) → (a || c) ≡ true
either_with true b c h k = refl
either_with false b c h k = k h

-- ---- names
same_name : (a b : List ℕ) → bytes_eq a b ≡ true → a ≡ b
same_name a b h = (bytes_eq-Decides a b).0 h

other_name : (a b : List ℕ) → bytes_eq a b ≡ false → bytes_eq b a ≡ false
other_name a b h = false_from_ne_true (bytes_eq b a) (λ e. true≢false (sym ((bytes_eq-Decides a b).1 (sym (same_name b a e))) ∙ h))

-- all names but the first that is x
abbrev without : List ℕ → List (List ℕ) → List (List ℕ)
without x [] = []
without x (y ∷ ys) = cond (bytes_eq x y) ys (y ∷ without x ys)

length-without : (x : List ℕ) (ys : List (List ℕ)) → list_any (bytes_eq x) ys ≡ true → length ys ≡ suc (length (without x ys))
length-without x [] h = absurd (false≢true h)
length-without x (y ∷ ys) h =
    cond_both (bytes_eq x y) ys (y ∷ without x ys) (λ w. suc (length ys) ≡ suc (length w)) (λ _. refl)
    (λ e. ap suc (length-without x ys (second_of (bytes_eq x y) (list_any (bytes_eq x) ys) h e)))

stays : (x z : List ℕ) (ys : List (List ℕ)) → bytes_eq x z ≡ false → list_any (bytes_eq z) ys ≡ true → list_any (bytes_eq z) (without x ys) ≡ true
stays x z [] other h = h
stays x z (y ∷ ys) other h =
    cond_both (bytes_eq x y) ys (y ∷ without x ys) (λ w. list_any (bytes_eq z) w ≡ true)
    (λ same. second_of (bytes_eq z y) (list_any (bytes_eq z) ys) h (other_name y z (subst (λ w. bytes_eq w z ≡ false) (same_name x y same) other)))
    (λ _. either_with (bytes_eq z y) (list_any (bytes_eq z) ys) (list_any (bytes_eq z) (without x ys)) h (stays x z ys other))

-- whether some of the names are not among the others
abbrev lacks_some : (names others : List (List ℕ)) → Bool
lacks_some names others = list_any (λ name. not (list_any (bytes_eq name) others)) names

all_stay : (x : List ℕ) (xs ys : List (List ℕ)) → list_any (bytes_eq x) xs ≡ false → lacks_some xs ys ≡ false → lacks_some xs (without x ys) ≡ false
all_stay x [] ys none h = refl
all_stay x (z ∷ xs) ys none h =
    let a = neither (bytes_eq x z) (list_any (bytes_eq x) xs) none in
    let b = neither (not (list_any (bytes_eq z) ys)) (lacks_some xs ys) h in
    both_false (not (list_any (bytes_eq z) (without x ys))) (lacks_some xs (without x ys))
    (not_from_true (list_any (bytes_eq z) (without x ys)) (stays x z ys a.0 (not-false (list_any (bytes_eq z) ys) b.0)))
    (all_stay x xs ys a.1 b.1)

-- names without repeats that are all among others are no more than those
no_more : (xs ys : List (List ℕ)) → has_repeats bytes_eq xs ≡ false → lacks_some xs ys ≡ false → length xs ≤ length ys
no_more [] ys r h = omega arith
no_more (x ∷ xs) ys r h =
    let a = neither (list_any (bytes_eq x) xs) (has_repeats bytes_eq xs) r in
    let b = neither (not (list_any (bytes_eq x) ys)) (lacks_some xs ys) h in
    let l = length-without x ys (not-false (list_any (bytes_eq x) ys) b.0) in
    let m = no_more xs (without x ys) a.1 (all_stay x xs ys a.0 b.1) in
    omega arith

-- ---- the columns that names mean
abbrev names_of : Columns → List (List ℕ)
names_of cs = map (λ (c : Column). c.name) cs

no_place : (k : ℕ) (name : List ℕ) (cs : Columns) → list_any (bytes_eq name) (names_of cs) ≡ false → places_from k (is_named (unqualified name)) cs ≡ []
no_place k name [] h = refl
no_place k name (c ∷ cs) h =
    let a = neither (bytes_eq name c.name) (list_any (bytes_eq name) (names_of cs)) h in
    cond-false (bytes_eq name c.name) (k ∷ places_from (suc k) (is_named (unqualified name)) cs) (places_from (suc k) (is_named (unqualified name)) cs) a.0
    ∙ no_place (suc k) name cs a.1

is_column : (name : List ℕ) (cs : Columns) → means_one cs (unqualified name) ≡ true → list_any (bytes_eq name) (names_of cs) ≡ true
is_column name cs h =
    true_from_ne_false (list_any (bytes_eq name) (names_of cs)) (λ e. true≢false (sym h ∙ ap (λ (l : List ℕ). length l == 1) (no_place 0 name cs e)))

are_columns : (names : List (List ℕ)) (cs : Columns) → list_any (λ name. not (means_one cs name)) (map unqualified names) ≡ false → lacks_some names (names_of cs) ≡ false
are_columns [] cs h = refl
are_columns (n ∷ names) cs h =
    let a = neither (not (means_one cs (unqualified n))) (list_any (λ name. not (means_one cs name)) (map unqualified names)) h in
    both_false (not (list_any (bytes_eq n) (names_of cs))) (lacks_some names (names_of cs))
    (not_from_true (list_any (bytes_eq n) (names_of cs)) (is_column n cs (not-false (means_one cs (unqualified n)) a.0)))
    (are_columns names cs a.1)

first_found : {A : Type 0} (n : ℕ) (p : A → Bool) (xs : List A) (x : A) → find p xs ≡ Some x → (i : ℕ) × (first (places_from n p xs) ≡ Some (n + i)) × (slice_get xs i ≡ Some x)
first_found {A} n p [] x = λ h. absurd (cc)
first_found {A} n p (y ∷ ys) x =
    elim (p y) as (λ b. cond b (Some y) (find p ys) ≡ Some x → (i : ℕ) × (first (cond b (n ∷ places_from (suc n) p ys) (places_from (suc n) p ys)) ≡ Some (n + i)) × (slice_get (y ∷ ys) i ≡ Some x)) [
      | true ↦ λ h. (0, ap Some (omega arith), h)
      | false ↦ λ h. let r = first_found (suc n) p ys x h in (suc r.0, r.1 ∙ ap Some (omega arith), r.2)
    ]

place_is : {A : Type 0} (p : A → Bool) (xs : List A) (x : A) → find p xs ≡ Some x → slice_get xs (unwrap_or (first (places_of p xs)) 0) ≡ Some x
place_is p xs x h =
    let r = first_found 0 p xs x h in
    let e : 0 + r.0 ≡ r.0 = omega arith in
    ap (λ o. slice_get xs (unwrap_or o 0)) r.1 ∙ ap (slice_get xs) e ∙ r.2

-- the test at the column that the name means
kind_found : (test : Kind → Bool) (name : List ℕ) (cs : Columns) (c : Column) → find (λ (d : Column). bytes_eq name d.name) cs ≡ Some c → at_kind test (unqualified name) cs ≡ test c.kind
kind_found test name cs c h = ap (λ o. option_map_or (λ (d : Column). test d.kind) o false) (place_is (is_named (unqualified name)) cs c h)

-- each of ds is the first of its name among cs
abbrev AreFound : (cs ds : Columns) → Type 0
AreFound cs [] = Unit {0}
AreFound cs (d ∷ ds) = (find (λ (c : Column). bytes_eq d.name c.name) cs ≡ Some d) × AreFound cs ds

further : (x : Column) (cs ds : Columns) → list_any (bytes_eq x.name) (names_of ds) ≡ false → AreFound cs ds → AreFound (x ∷ cs) ds
further x cs [] h found = tt
further x cs (d ∷ ds) h found =
    let a = neither (bytes_eq x.name d.name) (list_any (bytes_eq x.name) (names_of ds)) h in
    (cond-false (bytes_eq d.name x.name) (Some x) (find (λ (c : Column). bytes_eq d.name c.name) cs) (other_name x.name d.name a.0) ∙ found.0, further x cs ds a.1 found.1)

all_found : (cs : Columns) → has_repeats bytes_eq (names_of cs) ≡ false → AreFound cs cs
all_found [] h = tt
all_found (c ∷ cs) h =
    let a = neither (list_any (bytes_eq c.name) (names_of cs)) (has_repeats bytes_eq (names_of cs)) h in
    (cond-true (bytes_eq c.name c.name) (Some c) (find (λ (d : Column). bytes_eq c.name d.name) cs) ((bytes_eq-Decides c.name c.name).1 refl), further c cs cs a.0 (all_found cs a.1))

-- ---- cells
-- a column whose name is given takes a literal beside it, of which neither test holds
literal_of : (p q : ColumnName × Literal → Bool) (c : Column) (names : List (List ℕ)) (values : List Literal) →
    length names ≤ length values → list_any (bytes_eq c.name) names ≡ true →
    list_any p (zip (map unqualified names) values) ≡ false → list_any q (zip (map unqualified names) values) ≡ false →
    (v : Literal) × (given_cell (zip names values) c ≡ literal_cell v ∷ []) × (p (unqualified c.name, v) ≡ false) × (q (unqualified c.name, v) ≡ false)
literal_of p q c [] values l h hp hq = absurd (false≢true h)
literal_of p q c (n ∷ names) [] l h hp hq = absurd (omega arith)
literal_of p q c (n ∷ names) (v ∷ values) l h hp hq =
    let a = neither (p (unqualified n, v)) (list_any p (zip (map unqualified names) values)) hp in
    let b = neither (q (unqualified n, v)) (list_any q (zip (map unqualified names) values)) hq in
    let rest = find (λ (g : List ℕ × Literal). bytes_eq c.name g.0) (zip names values) in
    let cell : Option (List ℕ × Literal) → List Cell = λ o. option_map_or (λ (g : List ℕ × Literal). literal_cell g.1 ∷ []) o [] in
    elim (cases_Bool (bytes_eq c.name n)) [
      | inl same ↦
          let e : n ≡ c.name = sym (same_name c.name n same) in
          (v, ap cell (cond-true (bytes_eq c.name n) (Some (n, v)) rest same), subst (λ m. p (unqualified m, v) ≡ false) e a.0, subst (λ m. q (unqualified m, v) ≡ false) e b.0)
      | inr other ↦
          let r = literal_of p q c names values (omega arith) (second_of (bytes_eq c.name n) (list_any (bytes_eq c.name) names) h other) a.1 b.1 in
          (r.0, ap cell (cond-false (bytes_eq c.name n) (Some (n, v)) rest other) ∙ r.1, r.2, r.3)
    ]

at_most : (n m : ℕ) → nat_lt n m ≡ false → m ≤ n
at_most n m h = grind (arith, nat_tests)

pub fits_kind : (k : Kind) (v : Literal) → is_of_kind k v ≡ true → is_too_large_for k v ≡ false → IsCell (literal_cell v) → FitsKind k (literal_cell v)
fits_kind IntKind (IntLiteral x) h l cell = cell
fits_kind IntKind OutOfRange h l cell = absurd (true≢false l)
fits_kind IntKind (TextLiteral t) h l cell = absurd (false≢true h)
fits_kind IntKind TooLong h l cell = absurd (false≢true h)
fits_kind (Varchar n) (IntLiteral x) h l cell = absurd (false≢true h)
fits_kind (Varchar n) OutOfRange h l cell = absurd (false≢true h)
fits_kind (Varchar n) (TextLiteral t) h l cell = (at_most n (length t) l, cell.1)
fits_kind (Varchar n) TooLong h l cell = absurd (true≢false l)

fits_next : (c : Column) (ds : Columns) (front : List Cell) (x : Cell) (rest : Row) → front ≡ x ∷ [] → (IsCell x → FitsKind c.kind x) → (All IsCell rest → FitsColumns ds rest) →
    All IsCell (front ++ rest) → FitsColumns (c ∷ ds) (front ++ rest)
fits_next c ds front x rest e f g =
    subst (λ w. All IsCell (w ++ rest) → FitsColumns (c ∷ ds) (w ++ rest)) (sym e) (λ cells. (f (All-head IsCell x rest cells), g (All-tail IsCell x rest cells)))

-- whether a literal is of another kind than its column, or too large for it
abbrev is_mistyped : Columns → ColumnName × Literal → Bool
is_mistyped cs a = not (at_kind (λ k. is_of_kind k a.1) a.0 cs)

abbrev is_oversized : Columns → ColumnName × Literal → Bool
is_oversized cs a = at_kind (λ k. is_too_large_for k a.1) a.0 cs

-- the cells of some of the columns
fits_part : (cs ds : Columns) (names : List (List ℕ)) (values : List Literal) →
    length names ≤ length values → AreFound cs ds → list_any (λ (c : Column). not (list_any (bytes_eq c.name) names)) ds ≡ false →
    list_any (is_mistyped cs) (zip (map unqualified names) values) ≡ false → list_any (is_oversized cs) (zip (map unqualified names) values) ≡ false →
    All IsCell (flat_map (given_cell (zip names values)) ds) → FitsColumns ds (flat_map (given_cell (zip names values)) ds)
fits_part cs [] names values l found given typed sized = λ cells. tt
fits_part cs (d ∷ ds) names values l found given typed sized =
    let a = neither (not (list_any (bytes_eq d.name) names)) (list_any (λ (c : Column). not (list_any (bytes_eq c.name) names)) ds) given in
    let r = literal_of (is_mistyped cs) (is_oversized cs) d names values l (not-false (list_any (bytes_eq d.name) names) a.0) typed sized in
    let of_kind : is_of_kind d.kind r.0 ≡ true =
    sym (kind_found (λ k. is_of_kind k r.0) d.name cs d found.0) ∙ not-false (at_kind (λ k. is_of_kind k r.0) (unqualified d.name) cs) r.2 in
    let not_large : is_too_large_for d.kind r.0 ≡ false = sym (kind_found (λ k. is_too_large_for k r.0) d.name cs d found.0) ∙ r.3 in
    fits_next d ds (given_cell (zip names values) d) (literal_cell r.0) (flat_map (given_cell (zip names values)) ds) r.1
    (fits_kind d.kind r.0 of_kind not_large) (fits_part cs ds names values l found.1 a.1 typed sized)

-- no more names than columns
few_names : (columns : Option (List (List ℕ))) (cs : Columns) → has_repeats bytes_eq (unwrap_or columns []) ≡ false →
    list_any (λ name. not (means_one cs name)) (map unqualified (unwrap_or columns [])) ≡ false → length (insert_columns columns cs) ≤ length cs
few_names None cs r h = let e = length-map cs (λ (c : Column). c.name) in omega arith
few_names (Some names) cs r h =
    let e = length-map cs (λ (c : Column). c.name) in
    let m = no_more names (names_of cs) r (are_columns names cs h) in
    omega arith

fits_columns : (cs : Columns) (columns : Option (List (List ℕ))) (values : List Literal) → has_repeats bytes_eq (names_of cs) ≡ false →
    has_repeats bytes_eq (unwrap_or columns []) ≡ false → list_any (λ name. not (means_one cs name)) (map unqualified (unwrap_or columns [])) ≡ false →
    is_incomplete cs columns values ≡ false →
    list_any (is_mistyped cs) (zip (map unqualified (insert_columns columns cs)) values) ≡ false →
    list_any (is_oversized cs) (zip (map unqualified (insert_columns columns cs)) values) ≡ false →
    All IsCell (new_row cs columns values) → FitsColumns cs (new_row cs columns values)
fits_columns cs columns values distinct once known complete typed sized =
    let a = neither (list_any (λ (c : Column). not (list_any (bytes_eq c.name) (insert_columns columns cs))) cs) (not (length values == length cs)) complete in
    let e : length values ≡ length cs = (Decides-eqb (length values) (length cs)).0 (not-false (length values == length cs) a.1) in
    let m = few_names columns cs once known in
    fits_part cs cs (insert_columns columns cs) values (omega arith) (all_found cs distinct) a.0 typed sized

-- the first and the last of four conditions
first_and_last : (a b c d : Bool) → (a || b || c || d) ≡ false → (a ≡ false) × (d ≡ false)
first_and_last true b c d h = cc
first_and_last false true c d h = cc
first_and_last false false true d h = cc
first_and_last false false false d h = (refl, h)

-- the row of an INSERT that is not refused early fits the columns at the table's name
insert_fits_at : (late : Bool) (limits : Limits) (hs : List Heading) (table : List ℕ) (columns : Option (List (List ℕ))) (values : List Literal) →
    early_refusal late limits hs (Insert table columns values) ≡ None → has_repeats bytes_eq (names_of (columns_at table hs)) ≡ false →
    All IsCell (new_row (columns_at table hs) columns values) → FitsColumns (columns_at table hs) (new_row (columns_at table hs) columns values)
insert_fits_at late limits hs table columns values none distinct =
    let cs = columns_at table hs in
    let a = allowed late limits hs (Insert table columns values) none in
    let given = zip (map unqualified (insert_columns columns cs)) values in
    let known = map unqualified (unwrap_or columns []) in
    let lacks = neither (list_any (λ name. not (means_one cs name)) (known ++ [])) false a.columns in
    let types = first_and_last (list_any (is_mistyped cs) given) false false (is_incomplete cs columns values) a.types in
    let sizes = neither (list_any (is_oversized cs) given) false a.values in
    fits_columns cs columns values distinct a.names (ap (list_any (λ name. not (means_one cs name))) (sym (append-nil known)) ∙ lacks.0) types.1 types.0 sizes.0

-- and those of the heading that stands at the table's name
pub insert_fits : (late : Bool) (limits : Limits) (hs : List Heading) (table : List ℕ) (h : Heading) (columns : Option (List (List ℕ))) (values : List Literal) →
    early_refusal late limits hs (Insert table columns values) ≡ None → heading_at table hs ≡ Some h →
    has_repeats bytes_eq (map (λ (c : Column). c.name) h.schema) ≡ false →
    All IsCell (new_row h.schema columns values) → FitsColumns h.schema (new_row h.schema columns values)
insert_fits late limits hs table h columns values none stands =
    subst (λ cs. has_repeats bytes_eq (names_of cs) ≡ false → All IsCell (new_row cs columns values) → FitsColumns cs (new_row cs columns values))
    (ap (λ o. option_map_or (λ (g : Heading). g.schema) o []) stands)
    (insert_fits_at late limits hs table columns values none)
