-- A selection into buckets, from one step to the next.
use Rattle.std.proofs.Common.{◌≡◌, ◌*◌, inl, inr, ℕ, Bool, List, [], Option, None, Ok, Err, refl, sym, ◌∙◌, subst}
use Rattle.ob_base.specs.Schemas.{width}
use Rattle.ob_script.specs.Parts.{create_part}
use Rattle.ob_row.specs.Results.{RowTest, hash_slots}
use Rattle.ob_vault.specs.declared.region.Order.TheVariants.{Any}
use Rattle.ob_vault.specs.State.{World}
use Rattle.ob_vault.specs.Tied.{IsOwn}
use Rattle.ob_vault.specs.Calls.{Went, Seals, one}
use Rattle.ob_vault.proofs.Runs.{tells_went, turn_any}
use Rattle.ob_vault.proofs.WordLemmas.{honest_after, honest_same}
use Rattle.ob_flat.specs.declared.flat.Flat.{Flat}
use Rattle.ob_flat.specs.declared.fault.OpErr.{OpErr}
use Rattle.ob_flat.specs.Flats.{IsFlat, HoldsRows, Represents, table_region}
use Rattle.ob_flat.specs.Words.{IsTable}
use Rattle.ob_flat.specs.Creates.{CreatesRegion}
use Rattle.ob_flat.proofs.Runs.{not_memory, pass_then}
use Rattle.ob_flat.proofs.Tables.{flat_lasts, represents_lasts, holds_whole, slots_rows}
use Rattle.ob_flat.proofs.WordLemmas.{ran_more, ran_after, seals_any, seals_after, tampered_after}
use Rattle.ob_hash.specs.declared.selecting.Placed.{Placed}
use Rattle.ob_hash.specs.Answers.{flat_of, overflow_of}
use Rattle.ob_hash.specs.Hashing.{Layout, IsHashed, IsOpen, IsSource, bucket_size, table_script}
use Rattle.ob_hash.specs.Selecting.{Hashes, Selects}
use Rattle.ob_hash.proofs.Sizes.{result_blocks}
use Rattle.ob_hash.proofs.Whole.{begins_empty, is_result}

-- a region that was made may be written in any order
pub made_open : (l : Layout) {old : World} (mid : World) → IsOwn l.table.region mid → CreatesRegion Any l.pack l.table (Ok l.table.region) old mid → IsOpen l mid
made_open l mid own created = record { own = own; lives = created.lives; turn = turn_any l.table.region (table_region Any l.pack l.table.schema l.table.capacity) 0 mid refl; written = created.table.written }

module _ (l : Layout) (flat : Flat) (p : RowTest) (old : World) (is : IsHashed l) (source : IsSource l flat) (table : IsTable l.pack flat old) where
  -- the region was not made, or not filled
  pub selects_none : (e : OpErr) (new : World) → CreatesRegion Any l.pack l.table (Err e) old new → Selects l flat p (Err e) old new
  selects_none e new created =
      let made = rw (result_blocks is) at created.ran.err in
      record {
        ran = ran_more (create_part l.table.region (l.k * l.depth) (l.pack * width l.table.schema)) (table_script l flat) made;
        never = elim created.never [ inl failed ↦ inl failed | inr none ↦ inr (inl none) ];
        memory = record { did = λ none. created.memory.did (cc none) };
        makes = record { value = tt; lives = tt; flat = tt; gone = created.gone; seals = created.seals };
        size = tt;
        rows = tt;
        source = flat_lasts l.pack flat (one l.table.region) _ _ made.lasts source.apart table.written;
        told = λ honest slots here. created.never;
      }

  -- it was
  module _ (mid : World) (created : CreatesRegion Any l.pack l.table (Ok l.table.region) old mid) where
    went : Went (create_part l.table.region (l.k * l.depth) (l.pack * width l.table.schema)) (one l.table.region) old mid
    went = rw (result_blocks is) at created.ran.ok

    -- and its buckets filled
    pub selects_ok : (placed : Placed) (first : Option ℕ) (new : World) → flat_of placed ≡ l.table → overflow_of placed ≡ first → Hashes l flat p (Ok first) mid new → Selects l flat p (Ok placed) old new
    selects_ok placed first new value overflow hashes =
        let filled = ran_after (Ok first) (create_part l.table.region (l.k * l.depth) (l.pack * width l.table.schema)) (table_script l flat) went hashes.keeps.ran in
        let stays = hashes.keeps.stays in
        let written : IsFlat l.pack l.table new = record { made = record { order = Any; lives = stays.lives; turn = stays.turn }; written = stays.written } in
        record {
          ran = record { ok = filled.ok; err = tt };
          never = tt;
          memory = record { did = λ none. absurd (cc none) };
          makes = record {
            value = value;
            lives = stays.lives;
            flat = subst (λ (made : Flat). IsFlat l.pack made new) (sym value) written;
            gone = tt;
            seals = seals_after went.lasts created.seals hashes.keeps.seals;
          };
          size = is.size;
          rows = λ tells.
              let empty = slots_rows l.pack l.table _ mid (holds_whole l.pack l.table _ mid is.some (created.told tells)) is.some in
              subst (λ (made : Flat). HoldsRows l.pack made new) (sym value) (hashes.keeps.rows (tells_went _ _ _ _ went tells) empty);
          source = flat_lasts l.pack flat (one l.table.region) _ _ filled.ok.lasts source.apart table.written;
          told = λ honest slots here.
              let later = honest_after went honest in
              let told = hashes.told later slots (represents_lasts l.pack flat (one l.table.region) _ _ went.lasts source.apart slots here) (begins_empty l mid is slots (created.told honest.tells)) in
              (overflow ∙ told.0, subst (λ (made : Flat). Represents l.pack made (hash_slots l.k (bucket_size l) p slots) new) (sym value) (is_result l new is (hash_slots l.k (bucket_size l) p slots) told.1));
        }

    -- or that was cut, and is forgotten
    pub selects_err : (e : OpErr) (late new : World) → Hashes l flat p (Err e) mid late → Went [] (one l.table.region) late new → new.store ≡ late.store → ((good : ℕ → List ℕ → Bool) → Seals good late new)
        → new.vault.revs.live l.table.region ≡ None → Selects l flat p (Err e) old new
    selects_err e late new hashes forgot same sealed gone =
        let cut = ran_after {T = Option ℕ} (Err e) (create_part l.table.region (l.k * l.depth) (l.pack * width l.table.schema)) (table_script l flat) went hashes.keeps.ran in
        let ended = pass_then (one l.table.region) e _ old late new cut.err forgot same in
        record {
          ran = record { ok = tt; err = ended };
          never = elim hashes.never [
            | inl failed ↦ inl failed
            | inr (inl there) ↦ inr (inr (inl (tampered_after forgot same there)))
            | inr (inr there) ↦ inr (inr (inr (tampered_after forgot same there)))
          ];
          memory = record { did = λ none. elim hashes.never [ inl failed ↦ not_memory failed none | inr (inl there) ↦ absurd (cc (none, there.is)) | inr (inr there) ↦ absurd (cc (none, there.is)) ] };
          makes = record { value = tt; lives = tt; flat = tt; gone = gone; seals = seals_after went.lasts created.seals (seals_after hashes.keeps.ran.err.lasts hashes.keeps.seals (seals_any sealed)) };
          size = tt;
          rows = tt;
          source = flat_lasts l.pack flat (one l.table.region) _ _ ended.lasts source.apart table.written;
          told = λ honest slots here.
              let later = honest_after went (honest_same same honest) in
              inl (hashes.told later slots (represents_lasts l.pack flat (one l.table.region) _ _ went.lasts source.apart slots here) (begins_empty l mid is slots (created.told honest.tells)));
        }
