-- A Small selection, from one step to the next.
use Rattle.std.proofs.Common.{◌≡◌, ◌-◌, inl, inr, ℕ, Bool, List, [], ◌++◌, None, Ok, Err, length, sym, ◌∙◌, ap, subst, arith}
use Rattle.std.specs.Prelude.{◌⊎◌}
use Rattle.std.proofs.lemmas.List.{length-map, take_all, append-nil}
use Rattle.ob_row.specs.Slots.{Slots, slot_at, selected, small_slots}
use Rattle.ob_vault.specs.declared.region.Order.TheVariants.{Round}
use Rattle.ob_vault.specs.State.{World}
use Rattle.ob_vault.specs.Tied.{Ready, Lives}
use Rattle.ob_vault.specs.Words.{IsHonest}
use Rattle.ob_vault.specs.Calls.{Went, Seals, one}
use Rattle.ob_vault.proofs.Runs.{lives_apart, tells_went}
use Rattle.ob_vault.proofs.WordLemmas.{honest_after, honest_same}
use Rattle.ob_blocks.specs.Blocks.{none_of}
use Rattle.ob_flat.specs.declared.fault.OpErr.{OpErr}
use Rattle.ob_flat.specs.declared.fault.OpErr.TheVariants.{Failed, NoMemory}
use Rattle.ob_flat.specs.Flats.{Represents, table_region}
use Rattle.ob_flat.specs.Passes.{PassCut}
use Rattle.ob_flat.specs.Words.{IsTable, NoMemoryBehind}
use Rattle.ob_flat.specs.Creates.{make_script}
use Rattle.ob_flat.proofs.Runs.{not_memory}
use Rattle.ob_flat.proofs.Tables.{flat_lasts, represents_lasts}
use Rattle.ob_flat.proofs.WordLemmas.{makes_ok, makes_err, cut_forgot, tampered_after, ran_more, ran_after, seals_any}
use Rattle.ob_small.specs.Keeping.{fitted}
use Rattle.ob_small.specs.Selection.{Selection, Fills, Selects, table, fill_script, result_slots}

-- as many slots as there are selected rows
fitted_all : (slots : Slots) → fitted (length slots) slots ≡ slots
fitted_all slots =
    let whole = take_all (length slots) slots (omega arith) in
    let none : length slots - length slots ≡ 0 = omega arith in
    ap (λ (l : Slots). l ++ none_of (length slots - length l)) whole ∙ ap (λ (n : ℕ). slots ++ none_of n) none ∙ append-nil slots

pub result_exact : (s : Selection) (slots : Slots) → s.k ≡ length (selected s.p slots) → result_slots s slots ≡ small_slots s.p slots
result_exact s slots same =
    let count : s.k ≡ length (small_slots s.p slots) = same ∙ sym (length-map (selected s.p slots) (slot_at slots)) in
    ap (λ (n : ℕ). fitted n (small_slots s.p slots)) count ∙ fitted_all (small_slots s.p slots)

-- a region was made, and filled
module _ (s : Selection) (old : World) (ready : Ready old) (is_table : IsTable s.pack s.flat old) where
  off : s.flat.region ≡ old.vault.next → ⊥
  off = lives_apart _ _ _ ready is_table.written.made.lives

  -- it was not made
  pub selects_none : (e : OpErr) (new : World) → PassCut e (make_script s.pack (table s old.vault.next)) (one old.vault.next) old new → (e ≡ Failed) ⊎ (e ≡ NoMemory)
      → NoMemoryBehind {T = ℕ} (make_script s.pack (table s old.vault.next)) (Err e) old new → new.vault.revs.live old.vault.next ≡ None → ((good : ℕ → List ℕ → Bool) → Seals good old new) → Selects s (Err e) old new
  selects_none e new cut never memory gone sealed =
      let next = old.vault.next in
      record {
        ran = ran_more (make_script s.pack (table s next)) (fill_script s next) cut;
        never = elim never [ inl failed ↦ inl failed | inr none ↦ inr (inl none) ];
        memory = record { did = λ is. memory.did (cc is) };
        makes = record { value = tt; lives = tt; flat = tt; gone = gone; seals = seals_any sealed };
        rows = tt;
        source = flat_lasts s.pack s.flat (one next) _ _ cut.lasts off is_table.written;
        told = λ honest slots is. never;
        exact = λ honest slots same is. tt;
      }

  module _ (mid : World) (went : Went (make_script s.pack (table s old.vault.next)) (one old.vault.next) old mid) (seals : (good : ℕ → List ℕ → Bool) → Seals good old mid) where
    pub selects_ok : {T : Type 0} (u : T) (new : World) → Lives old.vault.next (table_region Round s.pack s.flat.schema s.k) mid
        → Fills s old.vault.next (Ok u) mid new → Selects s (Ok (table s old.vault.next)) old new
    selects_ok u new lives fills =
        let next = old.vault.next in
        let made = make_script s.pack (table s next) in
        let filled = ran_after (Ok u) made (fill_script s next) went fills.ran in
        let told : IsHonest old new → (slots : Slots) → Represents s.pack s.flat slots old → Represents s.pack (table s next) (result_slots s slots) new =
        λ honest slots is. fills.told (honest_after went honest) slots (represents_lasts s.pack s.flat (one next) _ _ went.lasts off slots is) in
        record {
          ran = record { ok = filled.ok; err = tt };
          never = tt;
          memory = record { did = λ is. absurd (cc is) };
          makes = makes_ok Round s.pack (table s next) _ _ made went seals _ lives fills.ran.ok.lasts fills.filled fills.seals;
          rows = λ tells. fills.rows (tells_went _ _ _ _ went tells);
          source = flat_lasts s.pack s.flat (one next) _ _ filled.ok.lasts off is_table.written;
          told = told;
          exact = λ honest slots same is. subst (λ (l : Slots). Represents s.pack (table s next) l new) (result_exact s slots same) (told honest slots is);
        }

    -- or was cut, and is forgotten
    pub selects_err : {T : Type 0} (e : OpErr) (late new : World) → Fills {T = T} s old.vault.next (Err e) mid late
        → Went [] (one old.vault.next) late new → new.store ≡ late.store → ((good : ℕ → List ℕ → Bool) → Seals good late new) → new.vault.revs.live old.vault.next ≡ None
        → Selects s (Err e) old new
    selects_err {T} e late new fills forgot same sealed gone =
        let next = old.vault.next in
        let made = make_script s.pack (table s next) in
        let ended = cut_forgot Round s.pack (table s next) _ _ made went seals e (fill_script s next) late new fills.ran forgot same in
        record {
          ran = record { ok = tt; err = ended };
          never = elim fills.never [ inl failed ↦ inl failed | inr there ↦ inr (inr (tampered_after forgot same there)) ];
          memory = record { did = λ is. elim fills.never [ inl failed ↦ not_memory failed is | inr there ↦ absurd (cc (is, there.is)) ] };
          makes = makes_err Round s.pack (table s next) _ _ made went seals e _ _ fills.ran.err.lasts fills.seals sealed gone;
          rows = tt;
          source = flat_lasts s.pack s.flat (one next) _ _ ended.lasts off is_table.written;
          told = λ honest slots is. inl (fills.told (honest_after went (honest_same same honest)) slots (represents_lasts s.pack s.flat (one next) _ _ went.lasts off slots is));
          exact = λ honest slots count is. tt;
        }
