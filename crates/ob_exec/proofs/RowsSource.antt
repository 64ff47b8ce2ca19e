-- The rows of the source of a SELECT.
use Rattle.ob_exec.proofs.Words.{ap, AreInPlace, buffered_blocks, database, false, Heading, heading_at, headings, Held, List, None, Option, option_map_or, Public, refl, rows, Same, Some, source_rows, source_slots, Stored, stored_at, subst, sym, Tables, true, ℕ, [], ◌∷◌, ◌≡◌, ◌≤◌}
use Rattle.std.proofs.Common.{◌==◌, cond}
use Rattle.std.specs.Prelude.{bytes_eq}
use Rattle.std.proofs.lemmas.Bool.Decides.{Decides-eqb}
use Rattle.ob_base.specs.declared.skeleton.ColumnName.{ColumnName}
use Rattle.ob_base.specs.declared.skeleton.Source.TheVariants.{Join}
use Rattle.ob_base.specs.Schemas.{key_place}
use Rattle.ob_row.specs.Rows.{AreDistinct, Row, keys_repeat, pairs}
use Rattle.ob_row.proofs.BagLemmas.{Same-refl}
use Rattle.ob_names.specs.Names.{columns_at}
use Rattle.ob_mean.specs.Refusals.{joins_off_key_at}
use Rattle.ob_mean.specs.Step.{join_places, rows_at}
use Rattle.ob_mean.proofs.VerdictLemmas.{headings-database}
use Rattle.ob_verdict.proofs.JoinLemmas.{rows-joined}
use Rattle.ob_mean.specs.Verdict.{slots_at}
use Rattle.std.proofs.lemmas.Bool.{not-false}

-- ---- rows
pub table_rows : (name : List ℕ) (ts : Tables) → rows_at name (database ts) ≡ rows (slots_at name ts)
table_rows name [] = refl
table_rows name (t ∷ ts) =
    elim (bytes_eq t.heading.name name) as (λ b. option_map_or (λ (x : Stored (List Row)). x.held) (cond b (Some (record { heading = t.heading; held = rows t.held.slots })) (stored_at name (database ts))) [] ≡ rows (option_map_or (λ (x : Stored Held). x.held.slots) (cond b (Some t) (stored_at name ts)) []))
    [ true ↦ refl | false ↦ table_rows name ts ]

pub table_same : (name : List ℕ) (ts : Tables) → Same (rows_at name (database ts)) (rows (slots_at name ts))
table_same name ts = subst (λ (w : List Row). Same (rows_at name (database ts)) w) (table_rows name ts) (Same-refl _)

-- ---- a join's are the pairs
keys_distinct : (stash : ℕ) (name : List ℕ) (ts : Tables) → AreInPlace stash ts → keys_repeat (key_place (columns_at name (headings ts))) (rows (slots_at name ts)) ≡ false
keys_distinct stash name [] in_place = refl
keys_distinct stash name (t ∷ ts) in_place =
    elim (bytes_eq t.heading.name name) as (λ b. keys_repeat (key_place (option_map_or (λ (g : Heading). g.schema) (cond b (Some t.heading) (heading_at name (headings ts))) [])) (rows (option_map_or (λ (x : Stored Held). x.held.slots) (cond b (Some t) (stored_at name ts)) [])) ≡ false)
    [ true ↦ in_place.0.keys | false ↦ keys_distinct stash name ts in_place.1 ]

key_is : (o : Option ℕ) (i : ℕ) → option_map_or (λ j. i == j) o false ≡ true → o ≡ Some i
key_is None i is = absurd (cc is)
key_is (Some j) i is = ap (λ (k : ℕ). Some k) (sym ((Decides-eqb i j).0 is))

pub join_same : (p : Public) (a b : List ℕ) (on equals : ColumnName) (ts : Tables) → 1 ≤ p.pack → 1 ≤ buffered_blocks p.pack p.buffer → AreInPlace p.stash ts
    → joins_off_key_at (headings ts) (Join a b on equals) ≡ false → Same (source_rows (Join a b on equals) (database ts)) (rows (source_slots p (Join a b on equals) ts))
join_same p a b on equals ts some enough in_place on_key =
    let places = join_places (Join a b on equals) (headings ts) in
    let key = key_is (key_place (columns_at a (headings ts))) places.0 (not-false _ on_key) in
    let distinct : AreDistinct places.0 (rows (slots_at a ts)) = subst (λ (o : Option ℕ). keys_repeat o (rows (slots_at a ts)) ≡ false) key (keys_distinct p.stash a ts in_place) in
    subst (λ (w : List Row). Same w (rows (source_slots p (Join a b on equals) ts)))
    (λ t. pairs (join_places (Join a b on equals) (sym (headings-database ts) t)).0 (join_places (Join a b on equals) (sym (headings-database ts) t)).1 (sym (table_rows a ts) t) (sym (table_rows b ts) t))
    (rows-joined places.0 places.1 p.pack p.buffer (slots_at a ts) (slots_at b ts) distinct some enough)
