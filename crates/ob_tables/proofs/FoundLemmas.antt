-- The table that a statement names, where it is not refused early.
use Rattle.ob_tables.proofs.Words.{ap, Bool, bytes_eq, false, has_table, Heading, heading-stored, heading_at, headings, headings_of, is_index, IsAt, List, not, option_map, refl, slice_get, Some, Stored, stored_regions, suc, sym, true, ℕ, [], ◌||◌, ◌∙◌, ◌∷◌, ◌≡◌}
use Rattle.ob_base.specs.declared.schema.Table.{Table}
use Rattle.ob_base.specs.declared.schema.Shape.TheVariants.{Flat as FlatShape}
use Rattle.ob_tables.proofs.HeldLemmas.{heading_flat}
use Rattle.ob_tables.proofs.TableLemmas.{AreNamed, NamedFlat, named, stored_found}

region_headings : (ts : List Table) → headings (stored_regions ts) ≡ headings_of ts
region_headings [] = refl
region_headings (t ∷ ts) = ap (λ (hs : List Heading). t.heading ∷ hs) (region_headings ts)

-- the heading of a table is found by its name
pub heading_found : (name : List ℕ) (ts : List Table) (i : ℕ) (t : Table) → AreNamed ts → slice_get ts i ≡ Some t → t.heading.name ≡ name → heading_at name (headings_of ts) ≡ Some t.heading
heading_found name ts i t names at is =
    ap (heading_at name) (sym (region_headings ts)) ∙ heading-stored name (stored_regions ts) ∙ ap (option_map (λ (u : Stored ℕ). u.heading)) (stored_found name ts i t names at is)

-- it is flat, where the name is no index's
pub shape_found : (name : List ℕ) (ts : List Table) (i : ℕ) (t : Table) → AreNamed ts → slice_get ts i ≡ Some t → t.heading.name ≡ name → is_index (headings_of ts) name ≡ false → t.heading.shape ≡ FlatShape
shape_found name ts i t names at is none = heading_flat name (headings_of ts) t.heading none (heading_found name ts i t names at is)

pub named_flat : (name : List ℕ) (ts : List Table) → AreNamed ts → is_index (headings_of ts) name ≡ false → NamedFlat name ts
named_flat name ts names none = λ i t at is. shape_found name ts i t names at is none

-- no table has the name
pub absent : (name : List ℕ) (ts : List Table) → ((i : ℕ) (t : Table) → IsAt name i t ts → ⊥) → has_table name (headings_of ts) ≡ false
absent name [] none = refl
absent name (t ∷ ts) none = head (bytes_eq t.heading.name name) refl (absent name ts (λ i u is. none (suc i) u (record { get = is.get; named = is.named })))
  where
    head : (b : Bool) → bytes_eq t.heading.name name ≡ b → has_table name (headings_of ts) ≡ false → (bytes_eq t.heading.name name || has_table name (headings_of ts)) ≡ false
    head true is rest = absurd (none 0 t (record { get = refl; named = named t.heading.name name is }))
    head false is rest = ap (λ (b : Bool). b || has_table name (headings_of ts)) is ∙ rest

-- a statement that is not refused early names a table that is there
pub is_there : (there : Bool) → (not there || false) ≡ false → there ≡ true
is_there true is = refl
is_there false is = absurd (cc is)
