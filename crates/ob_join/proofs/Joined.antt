-- A join, from one step to the next.
use Rattle.std.proofs.Common.{◌≡◌, inl, inr, ℕ, Bool, List, [], None, Ok, Err}
use Rattle.std.specs.Prelude.{◌⊎◌}
use Rattle.ob_store.specs.Runs.{Did}
use Rattle.ob_vault.specs.declared.region.Order.TheVariants.{Round}
use Rattle.ob_vault.specs.State.{World}
use Rattle.ob_vault.specs.Tied.{Ready, Lives}
use Rattle.ob_vault.specs.Calls.{Went, Seals, Lasts, one}
use Rattle.ob_vault.proofs.Runs.{lives_apart}
use Rattle.ob_flat.specs.declared.fault.OpErr.{OpErr}
use Rattle.ob_flat.specs.declared.fault.OpErr.TheVariants.{Failed, NoMemory}
use Rattle.ob_flat.specs.Flats.{table_region}
use Rattle.ob_flat.specs.Passes.{PassCut}
use Rattle.ob_flat.proofs.Runs.{not_memory}
use Rattle.ob_flat.proofs.Tables.{flat_lasts, represents_lasts}
use Rattle.ob_vault.proofs.WordLemmas.{honest_after, honest_same}
use Rattle.ob_flat.proofs.WordLemmas.{makes_ok, makes_err, cut_forgot, tampered_after, ran_more, ran_after, seals_any}
use Rattle.ob_join.specs.Join.{Join, MayJoin, Fills, Joins, TellsSlots, table, make_script, fill_script, result_slots}

module _ (j : Join) (old : World) (ready : Ready old) (may : MayJoin j old) where
  off_left : j.left.region ≡ old.vault.next → ⊥
  off_left = lives_apart _ _ _ ready may.left.made.lives

  off_right : j.right.region ≡ old.vault.next → ⊥
  off_right = lives_apart _ _ _ ready may.right.made.lives

  -- both tables are as they were, and may be joined
  pub may_lasts : (new : World) → Lasts (one old.vault.next) old new → MayJoin j new
  may_lasts new lasts = record {
    left = flat_lasts j.pack j.left (one old.vault.next) _ _ lasts off_left may.left;
    right = flat_lasts j.pack j.right (one old.vault.next) _ _ lasts off_right may.right;
    left_size = may.left_size;
    right_size = may.right_size;
    sized = may.sized;
    lcol = may.lcol;
    rcol = may.rcol;
  }

  -- the region was not made
  pub joins_none : (e : OpErr) (new : World) → PassCut e (make_script j old.vault.next) (one old.vault.next) old new → (e ≡ Failed) ⊎ (e ≡ NoMemory)
      → (e ≡ NoMemory → Did (make_script j old.vault.next) old.store new.store) → new.vault.revs.live old.vault.next ≡ None → ((good : ℕ → List ℕ → Bool) → Seals good old new) → Joins j (Err e) old new
  joins_none e new cut never did gone sealed =
      let still = may_lasts new cut.lasts in
      record {
        ran = ran_more (make_script j old.vault.next) (fill_script j old.vault.next) cut;
        never = elim never [ inl failed ↦ inl failed | inr none ↦ inr (inl none) ];
        memory = record { did = λ is. did (cc is) };
        makes = record { value = tt; lives = tt; flat = tt; gone = gone; seals = seals_any sealed };
        left = still.left;
        right = still.right;
      }

  module _ (mid : World) (went : Went (make_script j old.vault.next) (one old.vault.next) old mid) (seals : (good : ℕ → List ℕ → Bool) → Seals good old mid) where
    -- it was, and filled
    pub joins_ok : {T : Type 0} (u : T) (new : World) → Lives old.vault.next (table_region Round j.pack (table j 0).schema (table j 0).capacity) mid
        → Fills j old.vault.next (Ok u) mid new → Joins j (Ok (table j old.vault.next)) old new
    joins_ok u new lives fills =
        let next = old.vault.next in
        let filled = ran_after (Ok u) (make_script j next) (fill_script j next) went fills.ran in
        let still = may_lasts new filled.ok.lasts in
        record {
          ran = record { ok = filled.ok; err = tt };
          never = tt;
          memory = record { did = λ is. absurd (cc is) };
          makes = makes_ok Round j.pack (table j next) _ _ (make_script j next) went seals _ lives fills.ran.ok.lasts fills.filled fills.seals;
          left = still.left;
          right = still.right;
        }

    -- or was cut, and is forgotten
    pub joins_err : {T : Type 0} (e : OpErr) (late new : World) → Fills {T = T} j old.vault.next (Err e) mid late
        → Went [] (one old.vault.next) late new → new.store ≡ late.store → ((good : ℕ → List ℕ → Bool) → Seals good late new) → new.vault.revs.live old.vault.next ≡ None
        → Joins j (Err e) old new
    joins_err {T} e late new fills forgot same sealed gone =
        let next = old.vault.next in
        let ended = cut_forgot Round j.pack (table j next) _ _ (make_script j next) went seals e (fill_script j next) late new fills.ran forgot same in
        let still = may_lasts new ended.lasts in
        record {
          ran = record { ok = tt; err = ended };
          never = elim fills.never [
            | inl failed ↦ inl failed
            | inr (inl there) ↦ inr (inr (inl (tampered_after forgot same there)))
            | inr (inr there) ↦ inr (inr (inr (tampered_after forgot same there)))
          ];
          memory = record { did = λ is. elim fills.never [ inl failed ↦ not_memory failed is | inr (inl there) ↦ absurd (cc (is, there.is)) | inr (inr there) ↦ absurd (cc (is, there.is)) ] };
          makes = makes_err Round j.pack (table j next) _ _ (make_script j next) went seals e _ _ fills.ran.err.lasts fills.seals sealed gone;
          left = still.left;
          right = still.right;
        }

    -- what is told of it
    pub tells_ok : {T : Type 0} (u : T) (new : World) → Fills j old.vault.next (Ok u) mid new → TellsSlots j (result_slots j) (Ok (table j old.vault.next)) old new
    tells_ok u new fills = record {
      told = λ honest left right first second. fills.told (honest_after went honest) left right
          (represents_lasts j.pack j.left (one old.vault.next) _ _ went.lasts off_left left first) (represents_lasts j.pack j.right (one old.vault.next) _ _ went.lasts off_right right second);
    }

    pub tells_err : {T : Type 0} (e : OpErr) (late new : World) → Fills {T = T} j old.vault.next (Err e) mid late → new.store ≡ late.store → TellsSlots j (result_slots j) (Err e) old new
    tells_err e late new fills same = record {
      told = λ honest left right first second. inl (fills.told (honest_after went (honest_same same honest)) left right
          (represents_lasts j.pack j.left (one old.vault.next) _ _ went.lasts off_left left first) (represents_lasts j.pack j.right (one old.vault.next) _ _ went.lasts off_right right second));
    }
