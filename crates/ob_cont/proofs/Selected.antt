-- A Continuous selection, from one step to the next.
use Rattle.std.proofs.Common.{◌≡◌, ◌≤◌, ◌*◌, inl, inr, ℕ, IsTrue, Ok, Err, length, refl, subst, arith}
use Rattle.std.proofs.lemmas.List.{length-replicate}
use Rattle.ob_base.specs.Numbers.{blocks_for}
use Rattle.ob_row.specs.Results.{RowTest, continuous_slots}
use Rattle.ob_row.specs.Slots.{Slots, selected, is_consecutive, empty_slots}
use Rattle.ob_vault.specs.State.{World}
use Rattle.ob_vault.specs.Tied.{Ready}
use Rattle.ob_vault.specs.Calls.{one}
use Rattle.ob_vault.specs.Words.{IsHonest}
use Rattle.ob_vault.specs.VaultCalls.{Forgets}
use Rattle.ob_vault.proofs.Runs.{lives_apart, tells_went, shape_lasts}
use Rattle.ob_vault.proofs.WordLemmas.{honest_after, honest_same}
use Rattle.ob_blocks.specs.Blocks.{none_of}
use Rattle.ob_flat.specs.declared.flat.Flat.{Flat}
use Rattle.ob_flat.specs.declared.fault.OpErr.{OpErr}
use Rattle.ob_flat.specs.Flats.{HoldsSlots, Represents, table_region, whole_blocks}
use Rattle.ob_flat.specs.Words.{IsTable}
use Rattle.ob_flat.specs.Creates.{CreatesRegion, create_script, table_of}
use Rattle.ob_flat.proofs.Runs.{pass_then, not_memory}
use Rattle.ob_flat.proofs.Tables.{flat_lasts, represents_lasts, holds_whole, slots_rows}
use Rattle.ob_flat.proofs.WordLemmas.{ran_after, seals_any, seals_after, tampered_after}
use Rattle.ob_cont.specs.Putting.{order_for, put_slots}
use Rattle.ob_cont.specs.Selecting.{Fills, Selects, fill_script}
use Rattle.ob_cont.proofs.Due.{represents_held}
use Rattle.ob_cont.proofs.Places.{length-put_slots, put_consecutive}
use Rattle.ob_cont.proofs.Puts.{put_whole}

-- k slots that were put have those of as many selected rows that follow one another
exact_after : (pack k : ℕ) (p : RowTest) (fresh : Flat) (w : World) (slots : Slots) → k ≡ length (selected p slots) → IsTrue (is_consecutive (selected p slots))
    → Represents pack fresh (put_slots k p slots) w → Represents pack fresh (continuous_slots k p slots) w
exact_after pack k p fresh w slots number consecutive is = subst (λ (l : Slots). Represents pack fresh l w) (put_consecutive k p slots consecutive (omega (arith, number))) is

-- a region was made and filled with dummies, and then with the selected rows
module _ (pack : ℕ) (flat : Flat) (p : RowTest) (k region : ℕ) (old mid : World) (ready : Ready old) (table : IsTable pack flat old) (least : 1 ≤ k)
    (creates : CreatesRegion (order_for pack) pack (table_of flat.schema k old.vault.next) (Ok region) old mid) where
  off : flat.region ≡ old.vault.next → ⊥
  off = lives_apart _ _ _ ready table.written.made.lives

  abbrev to : Flat
  to = table_of flat.schema k old.vault.next

  empty : IsTrue old.store.tells → HoldsSlots pack to (whole_blocks pack k (none_of k)) mid
  empty tells = holds_whole pack to (empty_slots k) mid table.some (creates.told tells)

  pub selects_ok : {T : Type 0} (u : T) (new : World) → Fills pack flat p to (Ok u) mid new → Selects pack flat p k (Ok to) old new
  selects_ok u new fills =
      let next = old.vault.next in
      let went = creates.ran.ok in
      let filled = ran_after (Ok u) (create_script pack to) (fill_script pack flat to) went fills.ran in
      let told : IsHonest old new → (slots : Slots) → Represents pack flat slots old → Represents pack to (put_slots k p slots) new =
      λ honest slots is.
      let mine = represents_lasts pack flat (one next) old mid went.lasts off slots is in
      let all = fills.told (honest_after went honest) slots (whole_blocks pack k (none_of k)) mine (empty honest.tells) in
      represents_held pack to (put_slots k p slots) new (length-put_slots k p slots)
      (subst (λ (l : Slots). HoldsSlots pack to l new) (put_whole k (blocks_for pack k * pack) 0 p (none_of k) slots least (length-replicate k _)) all) in
      record {
        ran = record { ok = filled.ok; err = tt };
        never = tt;
        memory = record { did = λ is. absurd (cc is) };
        value = refl;
        lives = shape_lasts (one next) _ _ next (table_region (order_for pack) pack flat.schema k) _ went.lasts.ready fills.ran.ok.lasts creates.lives fills.written.lives;
        written = fills.written;
        rows = λ tells. fills.rows (tells_went _ _ _ _ went tells) (slots_rows pack to _ mid (empty tells) table.some);
        gone = tt;
        seals = seals_after went.lasts creates.seals fills.seals;
        source = flat_lasts pack flat (one next) _ _ filled.ok.lasts off table.written;
        told = told;
        exact = λ honest slots number consecutive is. exact_after pack k p to new slots number consecutive (told honest slots is);
      }

  -- or it was cut, and is forgotten
  pub selects_err : {T : Type 0} (e : OpErr) (late new : World) → Fills {T = T} pack flat p to (Err e) mid late → Forgets old.vault.next late new → new.store ≡ late.store
      → Selects pack flat p k (Err e) old new
  selects_err {T} e late new fills forgets same =
      let next = old.vault.next in
      let went = creates.ran.ok in
      let forgot = forgets.went fills.ran.err.lasts.ready in
      let cut = (ran_after {T = T} (Err e) (create_script pack to) (fill_script pack flat to) went fills.ran).err in
      let ended = pass_then (one next) e _ old late new cut forgot same in
      record {
        ran = record { ok = tt; err = ended };
        never = elim fills.never [
          | inl failed ↦ inl failed
          | inr (inl there) ↦ inr (inr (inl (tampered_after forgot same there)))
          | inr (inr there) ↦ inr (inr (inr (tampered_after forgot same there)))
        ];
        memory = record { did = λ is. elim fills.never [ inl failed ↦ not_memory failed is | inr (inl there) ↦ absurd (cc (is, there.is)) | inr (inr there) ↦ absurd (cc (is, there.is)) ] };
        value = tt;
        lives = tt;
        written = tt;
        rows = tt;
        gone = forgets.gone;
        seals = seals_after went.lasts creates.seals (seals_after fills.ran.err.lasts fills.seals (seals_any forgets.seals));
        source = flat_lasts pack flat (one next) _ _ ended.lasts off table.written;
        told = λ honest slots is.
            let mine = represents_lasts pack flat (one next) old mid went.lasts off slots is in
            inl (fills.told (honest_after went (honest_same same honest)) slots (whole_blocks pack k (none_of k)) mine (empty honest.tells));
        exact = λ honest slots number consecutive is. tt;
      }
