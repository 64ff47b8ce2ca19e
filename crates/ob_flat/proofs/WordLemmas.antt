-- The words of the passes' contracts, from one call to the next.
use Rattle.std.proofs.Common.{[], ◌≡◌, ◌⊎◌, inl, inr, ◌<◌, ◌≤◌, ◌*◌, ◌/◌, ◌++◌, ℕ, Bool, List, None, Result, Ok, Err, length, refl, sym, ◌∙◌, ap, subst}
use Rattle.ob_base.specs.declared.access.Access.{Access}
use Rattle.ob_base.specs.Schemas.{Columns, width}
use Rattle.ob_vault.specs.declared.region.Order.{Order}
use Rattle.ob_vault.specs.State.{World}
use Rattle.ob_vault.specs.Tied.{Lives}
use Rattle.ob_vault.specs.declared.fault.VaultErr.{VaultErr}
use Rattle.ob_vault.specs.declared.fault.VaultErr.TheVariants as VaultErrs
use Rattle.ob_vault.specs.Rows.{joined, Wide}
use Rattle.ob_vault.specs.Calls.{Went, CutShort, Cause, Seals, Lasts, Unfit, Unsealed, one}
use Rattle.ob_vault.specs.Words.{SealsAll}
use Rattle.ob_vault.proofs.WordLemmas.{unfit_lasts, opened_lasts}
use Rattle.ob_vault.proofs.Runs.{went_join, seals_join, shape_lasts}
use Rattle.ob_flat.specs.declared.fault.OpErr.{OpErr}
use Rattle.ob_flat.specs.declared.fault.OpErr.TheVariants.{Failed, Tampered}
use Rattle.ob_flat.specs.declared.flat.Flat.{Flat}
use Rattle.ob_flat.specs.Flats.{IsFlat, table_region}
use Rattle.ob_row.specs.Slots.{Slots}
use Rattle.ob_flat.specs.Slots.{Spelt}
use Rattle.ob_flat.specs.Passes.{PassCut, pass_error}
use Rattle.ob_flat.specs.Words.{PassRan, IsMalformed, TamperedAt, TamperedIn, SealsTable, Makes, blocks_of}
use Rattle.ob_flat.proofs.Rows.{spelt_joined, width_each}
use Rattle.ob_flat.proofs.Runs.{pass_more, pass_after, pass_then}

-- a run of two parts, the first of which was cut, or went whole
pub ran_more : {T : Type 0} {some : ℕ → Type 0} {a b : World} {e : OpErr} (x y : List Access) → PassCut e x some a b → PassRan {T = T} (x ++ y) some (Err e) a b
ran_more x y cut = record { ok = tt; err = pass_more _ _ _ _ x y cut }

pub ran_after : {T : Type 0} {some : ℕ → Type 0} {a b c : World} (r : Result T OpErr) (x y : List Access) → Went x some a b → PassRan y some r b c → PassRan (x ++ y) some r a c
ran_after (Ok v) x y went ran = record { ok = went_join _ _ _ _ x y went ran.ok; err = tt }
ran_after (Err e) x y went ran = record { ok = tt; err = pass_after _ _ _ _ e x y went ran.err }

pub ran_lasts : {T : Type 0} {some : ℕ → Type 0} {a b : World} {x : List Access} (r : Result T OpErr) → PassRan x some r a b → Lasts some a b
ran_lasts (Ok v) ran = ran.ok.lasts
ran_lasts (Err e) ran = ran.err.lasts

-- a refusal stays what it was while a region is forgotten
module _ {some : ℕ → Type 0} {a b : World} (went : Went [] some a b) (same : b.store ≡ a.store) where
  why_after : {pack place : ℕ} {flat : Flat} → Unfit flat.region place a ⊎ IsMalformed pack flat place a → Unfit flat.region place b ⊎ IsMalformed pack flat place b
  why_after why = elim why [
    | inl unfit ↦ inl (unfit_lasts _ _ _ _ same some went.lasts unfit)
    | inr rows ↦ inr (record { bytes = rows.bytes; opened = opened_lasts _ _ _ _ same some went.lasts rows.bytes rows.opened; none = rows.none })
  ]

  pub tampered_after : {pack : ℕ} {flat : Flat} {e : OpErr} → TamperedIn pack flat e a → TamperedIn pack flat e b
  tampered_after is = record { place = is.place; below = is.below; is = is.is; why = why_after is.why }

pub tampered_in : {pack place : ℕ} {flat : Flat} {e : OpErr} {w : World} → place < blocks_of pack flat → TamperedAt pack flat place e w → TamperedIn pack flat e w
tampered_in {place = place} below is = record { place = place; below = below; is = is.is; why = is.why }

-- the vault gave up a read
pub get_refused : (pack : ℕ) (flat : Flat) (place : ℕ) {some : ℕ → Type 0} {x : List Access} {a b : World} (e : VaultErr) → CutShort e x some a b
    → (e ≡ VaultErrs.Failed) ⊎ (e ≡ VaultErrs.Tampered flat.region place) → (pass_error e ≡ Failed) ⊎ TamperedAt pack flat place (pass_error e) b
get_refused pack flat place {a = a} {b = b} e cut never = elim never [
  | inl failed ↦ inl (ap pass_error failed)
  | inr is ↦ inr (record { is = ap pass_error is; why = inl (subst (λ (e : VaultErr). Cause e a b) is cut.cause).2 })
]

-- what was sealed there are no rows
pub rows_malformed : {pack place : ℕ} {flat : Flat} {w : World} (n : ℕ) (rows : List (List ℕ)) → 1 ≤ pack → n ≡ pack → length rows ≡ pack → Wide (width flat.schema) rows
    → Unsealed flat.region place (joined ((pack * width flat.schema) / n) rows) w → ((slots : Slots) → Spelt flat.schema slots rows → ⊥)
    → TamperedAt pack flat place (Tampered flat.region place) w
rows_malformed {pack = pack} {flat = flat} n rows some same size wide opened none = record {
  is = refl;
  why = inr (record {
    bytes = joined ((pack * width flat.schema) / n) rows;
    opened = opened;
    none = λ slots long fits is. none slots (spelt_joined flat.schema slots rows wide (long ∙ sym size) fits (ap (λ (v : ℕ). joined v rows) (sym each) ∙ is));
  });
}
  where
    each : (pack * width flat.schema) / n ≡ width flat.schema
    each = ap (λ (k : ℕ). (pack * width flat.schema) / k) same ∙ width_each pack (width flat.schema) some

-- what a region takes
pub seals_any : {pack region : ℕ} {columns : Columns} {a b : World} → ((good : ℕ → List ℕ → Bool) → Seals good a b) → SealsTable pack columns region a b
seals_any all = record { seals = λ good fine. all good }

pub sealed_after : {some : ℕ → Type 0} {a b c : World} → Lasts some a b → SealsAll a b → ((good : ℕ → List ℕ → Bool) → Seals good b c) → SealsAll a c
sealed_after lasts first second = record { seals = λ good. seals_join good _ _ _ lasts.later (first.seals good) (second good) }

pub seals_after : {some : ℕ → Type 0} {pack region : ℕ} {columns : Columns} {a b c : World} → Lasts some a b → SealsTable pack columns region a b → SealsTable pack columns region b c → SealsTable pack columns region a c
seals_after lasts first second = record { seals = λ good fine. seals_join good _ _ _ lasts.later (first.seals good fine) (second.seals good fine) }

-- a table's region was made
module _ (order : Order) (pack : ℕ) (made : Flat) (old mid : World) (x : List Access) (went : Went x (one made.region) old mid) (seals : (good : ℕ → List ℕ → Bool) → Seals good old mid) where
  -- and filled
  pub makes_ok : (new : World) → Lives made.region (table_region order pack made.schema made.capacity) mid → Lasts (one made.region) mid new → IsFlat pack made new
      → SealsTable pack made.schema made.region mid new → Makes order pack made (Ok made) old new
  makes_ok new lives lasts filled sealed = record {
    value = refl;
    lives = shape_lasts (one made.region) _ _ made.region (table_region order pack made.schema made.capacity) _ went.lasts.ready lasts lives filled.made.lives;
    flat = filled;
    gone = tt;
    seals = seals_after went.lasts (seals_any seals) sealed;
  }

  -- or not, and forgotten
  pub makes_err : (e : OpErr) (late new : World) → Lasts (one made.region) mid late → SealsTable pack made.schema made.region mid late → ((good : ℕ → List ℕ → Bool) → Seals good late new)
      → new.vault.revs.live made.region ≡ None → Makes order pack made (Err e) old new
  makes_err e late new lasts sealed forgot gone = record {
    value = tt;
    lives = tt;
    flat = tt;
    gone = gone;
    seals = seals_after went.lasts (seals_any seals) (seals_after lasts sealed (seals_any forgot));
  }

  pub cut_forgot : {T : Type 0} (e : OpErr) (y : List Access) (late new : World) → PassRan {T = T} y (one made.region) (Err e) mid late → Went [] (one made.region) late new → new.store ≡ late.store
      → PassCut e (x ++ y) (one made.region) old new
  cut_forgot {T} e y late new ran forgot same = pass_then (one made.region) e _ old late new (ran_after {T = T} (Err e) x y went ran).err forgot same
