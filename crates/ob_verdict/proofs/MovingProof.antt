-- What stands at a name after a statement.
use Rattle.std.proofs.Common.{◌≡◌, ◌≢◌, ℕ, Bool, true, false, List, [], ◌∷◌, ◌++◌, map, refl, sym, ◌∙◌, ap, cond}
use Rattle.std.specs.Prelude.{Option, Some, None, filter, not, bytes_eq}
use Rattle.std.specs.List.{list_any}
use Rattle.std.specs.Option.{option_map}
use Rattle.std.proofs.lemmas.Slice.Eq.{bytes_eq-Decides}
use Rattle.ob_base.specs.declared.schema.Heading.{Heading}
use Rattle.ob_base.specs.declared.schema.Shape.{Shape}
use Rattle.ob_base.specs.declared.schema.Shape.TheVariants.{Flat, Indexed}
use Rattle.ob_base.specs.declared.schema.Table.{Table}
use Rattle.ob_base.specs.Indexes.{by_shape}
use Rattle.ob_base.specs.Lists.{has_repeats}
use Rattle.ob_base.specs.Schemas.{columns_of}
use Rattle.ob_base.specs.Stored.{Stored, AreApart, has_table, headings_of, stored_region}
use Rattle.ob_mean.proofs.EarlyLemmas.{neither}
use Rattle.ob_script.specs.Tables.{moved, moved_to}
use Rattle.ob_verdict.proofs.InPlaceProof.{none_either}
use Rattle.ob_verdict.specs.Moving.{table_at, Moves, CreatesNew, DropsOne}

pub same_name : (a b : List ℕ) → bytes_eq a b ≡ true → a ≡ b
same_name a b = (bytes_eq-Decides a b).0

pub is_name : (a : List ℕ) → bytes_eq a a ≡ true
is_name a = (bytes_eq-Decides a a).1 refl

is_false : (b : Bool) → (b ≡ true → ⊥) → b ≡ false
is_false true h = absurd (h refl)
is_false false h = refl

pub other_name : (a b : List ℕ) → a ≢ b → bytes_eq a b ≡ false
other_name a b off = is_false (bytes_eq a b) (λ e. off (same_name a b e))

abbrev as_moved : ℕ → Stored ℕ → Stored ℕ
as_moved region t = record { heading = t.heading; held = by_shape t.heading.shape region t.held }

abbrev at_region : ℕ → Option (Stored ℕ) → Option (Stored ℕ)
at_region region o = option_map (as_moved region) o

moved_as : (region : ℕ) (t : Table) → stored_region (moved_to region t) ≡ as_moved region (stored_region t)
moved_as region t =
    elim t.heading.shape as (λ (s : Shape). stored_region (by_shape s (record t { region = region }) t) ≡ record { heading = t.heading; held = by_shape s region t.region })
    [ Flat ↦ refl | Indexed ↦ refl ]

-- the first of two
abbrev first_at : List ℕ → Stored ℕ → Option (Stored ℕ) → Option (Stored ℕ)
first_at name t rest = cond (bytes_eq t.heading.name name) (Some t) rest

moved_here : (name : List ℕ) (region : ℕ) (ts : List Table) → table_at name (moved name region ts) ≡ at_region region (table_at name ts)
moved_here name region [] = refl
moved_here name region (t ∷ ts) = go (bytes_eq t.heading.name name) refl (moved_here name region ts) where
  go : (b : Bool) → bytes_eq t.heading.name name ≡ b → table_at name (moved name region ts) ≡ at_region region (table_at name ts)
      → table_at name (cond b (moved_to region t) t ∷ moved name region ts) ≡ at_region region (cond b (Some (stored_region t)) (table_at name ts))
  go true e rest =
      ap (λ u. first_at name u (table_at name (moved name region ts))) (moved_as region t)
      ∙ ap (λ b. cond b (Some (as_moved region (stored_region t))) (table_at name (moved name region ts))) e
  go false e rest = ap (λ b. cond b (Some (stored_region t)) (table_at name (moved name region ts))) e ∙ rest

moved_others : (name other : List ℕ) (region : ℕ) (ts : List Table) → other ≢ name → table_at other (moved name region ts) ≡ table_at other ts
moved_others name other region [] off = refl
moved_others name other region (t ∷ ts) off = go (bytes_eq t.heading.name name) refl (moved_others name other region ts off) where
  go : (b : Bool) → bytes_eq t.heading.name name ≡ b → table_at other (moved name region ts) ≡ table_at other ts
      → table_at other (cond b (moved_to region t) t ∷ moved name region ts) ≡ cond (bytes_eq t.heading.name other) (Some (stored_region t)) (table_at other ts)
  go true e rest =
      let here = same_name t.heading.name name e in
      let no = other_name t.heading.name other (λ f. off (sym f ∙ here)) in
      ap (λ u. first_at other u (table_at other (moved name region ts))) (moved_as region t)
      ∙ ap (λ b. cond b (Some (as_moved region (stored_region t))) (table_at other (moved name region ts))) no
      ∙ rest ∙ sym (ap (λ b. cond b (Some (stored_region t)) (table_at other ts)) no)
  go false e rest = ap (cond (bytes_eq t.heading.name other) (Some (stored_region t))) rest

moved_headings : (name : List ℕ) (region : ℕ) (ts : List Table) → headings_of (moved name region ts) ≡ headings_of ts
moved_headings name region [] = refl
moved_headings name region (t ∷ ts) = go (bytes_eq t.heading.name name) (moved_headings name region ts) where
  go : (b : Bool) → headings_of (moved name region ts) ≡ headings_of ts → headings_of (cond b (moved_to region t) t ∷ moved name region ts) ≡ headings_of (t ∷ ts)
  go true rest = λ i. (moved_as region t i).heading ∷ rest i
  go false rest = ap (λ hs. t.heading ∷ hs) rest

pub moves : (name : List ℕ) (region : ℕ) (ts : List Table) → Moves name region ts
moves name region ts = record { here = moved_here name region ts; others = λ other off. moved_others name other region ts off; headings = moved_headings name region ts }

-- ---- a new table
added_here : (t : Table) (ts : List Table) → has_table t.heading.name (headings_of ts) ≡ false → table_at t.heading.name (ts ++ t ∷ []) ≡ Some (stored_region t)
added_here t [] new = ap (λ b. cond b (Some (stored_region t)) None) (is_name t.heading.name)
added_here t (u ∷ ts) new =
    let both = neither (bytes_eq u.heading.name t.heading.name) (has_table t.heading.name (headings_of ts)) new in
    ap (λ b. cond b (Some (stored_region u)) (table_at t.heading.name (ts ++ t ∷ []))) both.0 ∙ added_here t ts both.1

added_others : (t : Table) (other : List ℕ) (ts : List Table) → other ≢ t.heading.name → table_at other (ts ++ t ∷ []) ≡ table_at other ts
added_others t other [] off = ap (λ b. cond b (Some (stored_region t)) None) (other_name t.heading.name other (λ e. off (sym e)))
added_others t other (u ∷ ts) off = ap (cond (bytes_eq u.heading.name other) (Some (stored_region u))) (added_others t other ts off)

abbrev names : List Table → List (List ℕ)
names ts = map (λ (h : Heading). h.name) (headings_of ts)

any_added : (name : List ℕ) (t : Table) (ts : List Table) → bytes_eq name t.heading.name ≡ false → list_any (bytes_eq name) (names ts) ≡ false → list_any (bytes_eq name) (names (ts ++ t ∷ [])) ≡ false
any_added name t [] off none = none_either (bytes_eq name t.heading.name) false off refl
any_added name t (u ∷ ts) off none =
    let both = neither (bytes_eq name u.heading.name) (list_any (bytes_eq name) (names ts)) none in
    none_either (bytes_eq name u.heading.name) (list_any (bytes_eq name) (names (ts ++ t ∷ []))) both.0 (any_added name t ts off both.1)

added_apart : (t : Table) (ts : List Table) → AreApart (headings_of ts) → has_table t.heading.name (headings_of ts) ≡ false → AreApart (headings_of (ts ++ t ∷ []))
added_apart t [] apart new = refl
added_apart t (u ∷ ts) apart new =
    let both = neither (list_any (bytes_eq u.heading.name) (names ts)) (has_repeats bytes_eq (names ts)) apart in
    let off = neither (bytes_eq u.heading.name t.heading.name) (has_table t.heading.name (headings_of ts)) new in
    none_either (list_any (bytes_eq u.heading.name) (names (ts ++ t ∷ []))) (has_repeats bytes_eq (names (ts ++ t ∷ [])))
    (any_added u.heading.name t ts off.0 both.0) (added_apart t ts both.1 off.1)

pub creates_new : CreatesNew
creates_new p table columns capacity shape apart new =
    let t : Table = record { heading = record { name = table; schema = columns_of table columns; capacity = capacity; shape = shape }; region = p.next_region } in
    record { here = added_here t p.tables new; others = λ other off. added_others t other p.tables off; apart = added_apart t p.tables apart new }

-- ---- a table that was dropped
abbrev kept : List ℕ → List Table → List Table
kept name ts = filter (λ (t : Table). not (bytes_eq t.heading.name name)) ts

dropped_here : (name : List ℕ) (ts : List Table) → table_at name (kept name ts) ≡ None
dropped_here name [] = refl
dropped_here name (t ∷ ts) = go (bytes_eq t.heading.name name) refl (dropped_here name ts) where
  go : (b : Bool) → bytes_eq t.heading.name name ≡ b → table_at name (kept name ts) ≡ None → table_at name (cond (not b) (t ∷ kept name ts) (kept name ts)) ≡ None
  go true e rest = rest
  go false e rest = ap (λ b. cond b (Some (stored_region t)) (table_at name (kept name ts))) e ∙ rest

dropped_others : (name other : List ℕ) (ts : List Table) → other ≢ name → table_at other (kept name ts) ≡ table_at other ts
dropped_others name other [] off = refl
dropped_others name other (t ∷ ts) off = go (bytes_eq t.heading.name name) refl (dropped_others name other ts off) where
  go : (b : Bool) → bytes_eq t.heading.name name ≡ b → table_at other (kept name ts) ≡ table_at other ts
      → table_at other (cond (not b) (t ∷ kept name ts) (kept name ts)) ≡ cond (bytes_eq t.heading.name other) (Some (stored_region t)) (table_at other ts)
  go true e rest =
      let no = other_name t.heading.name other (λ f. off (sym f ∙ same_name t.heading.name name e)) in
      rest ∙ sym (ap (λ b. cond b (Some (stored_region t)) (table_at other ts)) no)
  go false e rest = ap (cond (bytes_eq t.heading.name other) (Some (stored_region t))) rest

any_kept : (name of : List ℕ) (ts : List Table) → list_any (bytes_eq of) (names ts) ≡ false → list_any (bytes_eq of) (names (kept name ts)) ≡ false
any_kept name of [] none = refl
any_kept name of (t ∷ ts) none =
    let both = neither (bytes_eq of t.heading.name) (list_any (bytes_eq of) (names ts)) none in
    let rest = any_kept name of ts both.1 in
    elim (bytes_eq t.heading.name name) as (λ b. list_any (bytes_eq of) (names (cond (not b) (t ∷ kept name ts) (kept name ts))) ≡ false)
    [ true ↦ rest | false ↦ none_either (bytes_eq of t.heading.name) (list_any (bytes_eq of) (names (kept name ts))) both.0 rest ]

dropped_apart : (name : List ℕ) (ts : List Table) → AreApart (headings_of ts) → AreApart (headings_of (kept name ts))
dropped_apart name [] apart = refl
dropped_apart name (t ∷ ts) apart =
    let both = neither (list_any (bytes_eq t.heading.name) (names ts)) (has_repeats bytes_eq (names ts)) apart in
    let rest = dropped_apart name ts both.1 in
    elim (bytes_eq t.heading.name name) as (λ b. AreApart (headings_of (cond (not b) (t ∷ kept name ts) (kept name ts))))
    [ true ↦ rest | false ↦ none_either (list_any (bytes_eq t.heading.name) (names (kept name ts))) (has_repeats bytes_eq (names (kept name ts))) (any_kept name t.heading.name ts both.0) rest ]

pub drops_one : DropsOne
drops_one p table apart = record { here = dropped_here table p.tables; others = λ other off. dropped_others table other p.tables off; apart = dropped_apart table p.tables apart }
