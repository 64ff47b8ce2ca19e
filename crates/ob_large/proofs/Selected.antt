-- A Large selection, from one step to the next.
use Rattle.std.proofs.Common.{◌≡◌, ◌*◌, inl, inr, ℕ, Bool, IsTrue, List, [], None, Result, Ok, Err}
use Rattle.std.proofs.lemmas.Result.{on_ok_weaker, IfErr-weaker}
use Rattle.ob_base.specs.Accesses.{make_at}
use Rattle.ob_base.specs.Schemas.{width}
use Rattle.ob_script.specs.Parts.{copy_part}
use Rattle.ob_row.specs.Rows.{Row}
use Rattle.ob_row.specs.Slots.{Slots}
use Rattle.ob_vault.specs.declared.region.Order.TheVariants.{Round}
use Rattle.ob_vault.specs.State.{World}
use Rattle.ob_vault.specs.Tied.{Ready, Lives}
use Rattle.ob_vault.specs.Calls.{Went, Seals, one}
use Rattle.ob_vault.proofs.Runs.{lives_apart, tells_went}
use Rattle.ob_flat.specs.declared.flat.Flat.{Flat}
use Rattle.ob_flat.specs.declared.fault.OpErr.{OpErr}
use Rattle.ob_flat.specs.Flats.{HoldsRows, Represents, table_region}
use Rattle.ob_vault.specs.Words.{IsHonest}
use Rattle.ob_flat.specs.Words.{SealsTable, IsTable, blocks_of, moved}
use Rattle.ob_flat.proofs.Runs.{not_memory}
use Rattle.ob_flat.proofs.Tables.{flat_lasts, represents_lasts}
use Rattle.ob_vault.proofs.WordLemmas.{honest_before, honest_after, honest_same}
use Rattle.ob_flat.proofs.WordLemmas.{makes_ok, makes_err, cut_forgot, tampered_after, ran_after, ran_lasts, seals_after}
use Rattle.ob_large.specs.Selecting.{Empties, Fills, Selects, fill_script}

-- a table was copied, and then the copy gone through
pub fills_after : {T : Type 0} (pack : ℕ) (flat : Flat) (to : ℕ) (p : Row → Bool) (r : Result T OpErr) (old mid new : World)
    → Went (copy_part flat.region to (blocks_of pack flat)) (one to) old mid → SealsTable pack flat.schema to old mid
    → (IsTrue old.store.tells → HoldsRows pack (moved flat to) mid)
    → (IsHonest old mid → (slots : Slots) → Represents pack flat slots old → Represents pack (moved flat to) slots mid)
    → Empties pack (moved flat to) p r mid new → Fills pack flat to p r old new
fills_after pack flat to p r old mid new went seals rows copied empties =
    let lasts = ran_lasts r empties.ran in
    record {
      ran = ran_after r (copy_part flat.region to (blocks_of pack flat)) (copy_part to to (blocks_of pack flat)) went empties.ran;
      never = IfErr-weaker r _ _ (λ e err. elim err [ inl failed ↦ inl failed | inr there ↦ inr (inr there) ]) empties.never;
      seals = seals_after went.lasts seals empties.seals;
      table = empties.table;
      holds = on_ok_weaker r (λ more tells. more (tells_went _ _ _ _ went tells) (rows tells)) empties.holds;
      told = λ honest slots is. empties.told (honest_after went honest) slots (copied (honest_before lasts honest) slots is);
    }

-- a region was made, and filled
module _ (pack : ℕ) (flat : Flat) (p : Row → Bool) (old mid : World) (ready : Ready old) (table : IsTable pack flat old)
    (went : Went (make_at old.vault.next (blocks_of pack flat) (pack * width flat.schema)) (one old.vault.next) old mid) (seals : (good : ℕ → List ℕ → Bool) → Seals good old mid) where
  off : flat.region ≡ old.vault.next → ⊥
  off = lives_apart _ _ _ ready table.written.made.lives

  pub selects_ok : {T : Type 0} (u : T) (new : World) → Lives old.vault.next (table_region Round pack flat.schema flat.capacity) mid
      → Fills pack flat old.vault.next p (Ok u) mid new → Selects pack flat p (Ok (moved flat old.vault.next)) old new
  selects_ok u new lives fills =
      let next = old.vault.next in
      let made = make_at next (blocks_of pack flat) (pack * width flat.schema) in
      let filled = ran_after (Ok u) made (fill_script pack flat next) went fills.ran in
      record {
        ran = record { ok = filled.ok; err = tt };
        never = tt;
        memory = record { did = λ is. absurd (cc is) };
        makes = makes_ok Round pack (moved flat next) _ _ made went seals _ lives fills.ran.ok.lasts fills.table fills.seals;
        holds = λ tells. fills.holds (tells_went _ _ _ _ went tells);
        source = flat_lasts pack flat (one next) _ _ filled.ok.lasts off table.written;
        told = λ honest slots is. fills.told (honest_after went honest) slots (represents_lasts pack flat (one next) _ _ went.lasts off slots is);
      }

  -- or was cut, and is forgotten
  pub selects_err : {T : Type 0} (e : OpErr) (late new : World) → Fills {T = T} pack flat old.vault.next p (Err e) mid late
      → Went [] (one old.vault.next) late new → new.store ≡ late.store → ((good : ℕ → List ℕ → Bool) → Seals good late new) → new.vault.revs.live old.vault.next ≡ None
      → Selects pack flat p (Err e) old new
  selects_err {T} e late new fills forgot same sealed gone =
      let next = old.vault.next in
      let made = make_at next (blocks_of pack flat) (pack * width flat.schema) in
      let ended = cut_forgot Round pack (moved flat next) _ _ made went seals e (fill_script pack flat next) late new fills.ran forgot same in
      record {
        ran = record { ok = tt; err = ended };
        never = elim fills.never [
          | inl failed ↦ inl failed
          | inr (inl there) ↦ inr (inr (inl (tampered_after forgot same there)))
          | inr (inr there) ↦ inr (inr (inr (tampered_after forgot same there)))
        ];
        memory = record { did = λ is. elim fills.never [ inl failed ↦ not_memory failed is | inr (inl there) ↦ absurd (cc (is, there.is)) | inr (inr there) ↦ absurd (cc (is, there.is)) ] };
        makes = makes_err Round pack (moved flat next) _ _ made went seals e _ _ fills.ran.err.lasts fills.seals sealed gone;
        holds = tt;
        source = flat_lasts pack flat (one next) _ _ ended.lasts off table.written;
        told = λ honest slots is. inl (fills.told (honest_after went (honest_same same honest)) slots (represents_lasts pack flat (one next) _ _ went.lasts off slots is));
      }
