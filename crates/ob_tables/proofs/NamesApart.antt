-- No two tables of an engine have one name.
use Rattle.ob_tables.proofs.Words.{arith, bytes_eq, false, has_repeats, headings_of, List, refl, slice_get, Some, suc, ℕ, [], ◌∷◌, ◌≡◌}
use Rattle.std.specs.List.{list_any}
use Rattle.ob_base.specs.declared.schema.Table.{Table}
use Rattle.ob_base.specs.Stored.{AreApart}
use Rattle.ob_tables.proofs.TableLemmas.{AreNamed}
use Rattle.ob_verdict.proofs.AlikeTables.{names_of}
use Rattle.ob_verdict.proofs.InPlaceProof.{none_either}
use Rattle.ob_verdict.proofs.MovingProof.{other_name}

none_named : (name : List ℕ) (ts : List Table) → ((j : ℕ) (u : Table) → slice_get ts j ≡ Some u → name ≡ u.heading.name → ⊥) → list_any (bytes_eq name) (names_of (headings_of ts)) ≡ false
none_named name [] off = refl
none_named name (t ∷ ts) off =
    none_either (bytes_eq name t.heading.name) (list_any (bytes_eq name) (names_of (headings_of ts))) (other_name name t.heading.name (off 0 t refl))
    (none_named name ts (λ j u is. off (suc j) u is))

pub named_apart : (ts : List Table) → AreNamed ts → AreApart (headings_of ts)
named_apart [] names = refl
named_apart (t ∷ ts) names =
    none_either (list_any (bytes_eq t.heading.name) (names_of (headings_of ts))) (has_repeats bytes_eq (names_of (headings_of ts)))
    (none_named t.heading.name ts (λ j u is same. omega (arith, names 0 (suc j) t u refl is same)))
    (named_apart ts (λ j k u v js ks same. omega (arith, names (suc j) (suc k) u v js ks same)))
