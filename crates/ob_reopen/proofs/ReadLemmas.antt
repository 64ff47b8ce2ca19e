-- Reading the blocks of a closing, one after the other.
use Rattle.std.proofs.Common.{◌≡◌, ◌⊎◌, inl, inr, ℕ, ◌+◌, ◌-◌, ◌/◌, ◌<◌, ◌≤◌, List, [], ◌++◌, length, take, None, Ok, Err, refl, sym, ◌∙◌, ap, subst, arith}
use Rattle.std.proofs.lemmas.List.{take_all}
use Rattle.std.specs.Prelude.{slice_index_or, Bool}
use Rattle.ob_base.specs.Accesses.{read_at}
use Rattle.ob_base.specs.Lists.{each}
use Rattle.ob_vault.specs.declared.fault.VaultErr.{VaultErr}
use Rattle.ob_vault.specs.declared.fault.VaultErr.TheVariants as VaultErrs
use Rattle.ob_vault.specs.State.{World}
use Rattle.ob_vault.specs.Rows.{joined}
use Rattle.ob_vault.specs.Tied.{Ready, Lives, Holds}
use Rattle.ob_vault.specs.Calls.{Went, Cause, Seals, Unsealed, none}
use Rattle.ob_vault.specs.VaultCalls.{Gets}
use Rattle.ob_vault.specs.Words.{SealsAll}
use Rattle.ob_vault.proofs.Runs.{went_none, went_join, went_each, seals_none, seals_join, lives_went, holds_went, none_went}
use Rattle.ob_reopen.specs.declared.closing.Closing.{Closing}
use Rattle.ob_reopen.specs.declared.listed.Listed.{Listed}
use Rattle.ob_reopen.specs.declared.fault.OpenErr.TheVariants.{Failed, Tampered}
use Rattle.ob_reopen.specs.Limits.{AreListed, IsCatalogue}
use Rattle.ob_reopen.specs.Spelling.{catalogue_rows}
use Rattle.ob_reopen.specs.Closings.{closing_region}
use Rattle.ob_reopen.specs.Openings.{open_error, IsOpen, IsRowAt, AddsRow, IsNoRow, ClosingTampered, HoldsRows, ReadsBlocks}
use Rattle.ob_reopen.proofs.CatalogueLemmas.{none_listed, added_listed, added_count, texts, length-texts, texts_are, texts_more, row_at as row_is, read_more}
use Rattle.ob_reopen.proofs.Runs.{opens_went, opens_cut, opens_refused, part_each, part_of}

-- so many of its blocks were read, and list these tables
pub record ReadSoFar (closing : Closing) (place : ℕ) (listed : List Listed) (old now : World) : Type 0 where
  pub went : Went (each place (read_at closing.region)) none old now
  pub seals : SealsAll old now
  pub count : length listed ≡ place - 1
  pub are : AreListed closing listed
  pub spelled : (rows : List (List ℕ)) → HoldsRows closing rows old → now.store.lie ≡ None → take place rows ≡ take place (texts closing listed)
  pub read : (rows : List (List ℕ)) → HoldsRows closing rows old → now.store.lie ≡ None → (whole : List Listed) → IsCatalogue closing whole
      → rows ≡ catalogue_rows closing.region whole → listed ≡ take (place - 1) whole

pub read_none : (closing : Closing) (listed : List Listed) (w : World) → Ready w → listed ≡ [] → ReadSoFar closing 0 listed w w
read_none closing listed w ready empty = record {
  went = went_none none w ready;
  seals = record { seals = λ good. seals_none good w };
  count = ap (λ (l : List Listed). length l) empty;
  are = subst (AreListed closing) (sym empty) (none_listed closing);
  spelled = λ rows holds nolie. refl;
  read = λ rows holds nolie whole catalogue are. empty;
}

-- ---- the block that is read next
module _ (closing : Closing) (place : ℕ) (listed : List Listed) (before after : List (List ℕ)) (old now new : World)
    (opened : IsOpen closing old) (below : place < closing.blocks) (so_far : ReadSoFar closing place listed old now) where
  lives : Lives closing.region (closing_region closing) now
  lives = lives_went none old now (each place (read_at closing.region)) closing.region (closing_region closing) so_far.went (λ s. s) opened.lives

  holds : (rows : List (List ℕ)) → HoldsRows closing rows old → Holds closing.region place (slice_index_or rows place []) now
  holds rows is = holds_went none old now (each place (read_at closing.region)) closing.region place (slice_index_or rows place []) so_far.went (λ s. s) (is.holds place below)

  sealed_on : ((good : ℕ → List ℕ → Bool) → Seals good now new) → SealsAll old new
  sealed_on seals = record { seals = λ good. seals_join good old now new so_far.went.lasts.later (so_far.seals.seals good) (seals good) }

  -- it was refused
  module _ {T : Type 0} (e : VaultErr) (gets : Gets {T = T} closing.region place before after (Err e) now new) where
    refused : (open_error e ≡ Failed) ⊎ ClosingTampered closing (open_error e) new
    refused = elim gets.never [
      | inl failed ↦ inl (ap open_error failed)
      | inr there ↦
          let cause : Cause (VaultErrs.Tampered closing.region place) now new = subst (λ (d : VaultErr). Cause d now new) there gets.err.cause in
          inr (record { place = place; below = below; is = ap open_error there; why = inl cause.2 })
    ]

    pub reads_cut : ReadsBlocks closing (Err (open_error e)) old new
    reads_cut = record {
      opens = record {
        ok = tt;
        err = part_each none (read_at closing.region) old now new (open_error e) closing.blocks place below
            (opens_went (each place (read_at closing.region)) none old now so_far.went) (opens_cut e (read_at closing.region place) none now new gets.err);
      };
      never = refused;
      catalogue = tt;
      seals = sealed_on gets.seals;
      told = λ honest rows is. record {
        spelled = tt;
        read = λ whole catalogue are. inl (ap open_error (gets.told (slice_index_or rows place []) (closing_region closing) lives (is.sizes place below) (holds rows is) honest.nolie));
      };
    }

  -- it was read, and these are its bytes
  module _ {T : Type 0} (value : T) (gets : Gets closing.region place before after (Ok value) now new) (bytes : List ℕ) (is : joined (1024 / length before) after ≡ bytes) where
    went : Went (each (place + 1) (read_at closing.region)) none old new
    went = went_each none (read_at closing.region) old now new place so_far.went gets.ok

    row : (rows : List (List ℕ)) → HoldsRows closing rows old → new.store.lie ≡ None → slice_index_or rows place [] ≡ bytes
    row rows held nolie = sym (gets.told (slice_index_or rows place []) (closing_region closing) lives (held.sizes place below) (holds rows held) nolie) ∙ is

    early : new.store.lie ≡ None → now.store.lie ≡ None
    early nolie = none_went none now new (read_at closing.region place) gets.ok nolie

    pub read_next : (more : List Listed) → AddsRow closing place bytes listed more → ReadSoFar closing (place + 1) more old new
    read_next more adds = record {
      went = went;
      seals = sealed_on gets.seals;
      count = omega (arith, added_count closing place bytes listed more so_far.count adds);
      are = added_listed closing place bytes listed more so_far.are adds;
      spelled = λ rows held nolie.
          texts_more closing place rows listed more (omega (arith, below, held.count)) so_far.count (so_far.spelled rows held (early nolie))
          (subst (λ (b : List ℕ). AddsRow closing place b listed more) (sym (row rows held nolie)) adds);
      read = λ rows held nolie whole catalogue are.
          read_more closing rows whole catalogue are place listed more below (so_far.read rows held (early nolie) whole catalogue are)
          (subst (λ (b : List ℕ). AddsRow closing place b listed more) (sym (row rows held nolie)) adds)
          ∙ ap (λ (n : ℕ). take n whole) (omega arith);
    }

    -- and no row of the closing
    module _ (off : IsRowAt closing listed place bytes → ⊥) where
      no_row : IsNoRow closing place new
      no_row = record {
        bytes = bytes;
        opened = subst (λ (b : List ℕ). Unsealed closing.region place b new) is (gets.opened (closing_region closing) lives);
        before = listed;
        listed = so_far.are;
        count = so_far.count;
        none = off;
      }

      pub reads_refused : ReadsBlocks closing (Err (Tampered closing.region place)) old new
      reads_refused = record {
        opens = record {
          ok = tt;
          err = part_of none (read_at closing.region) old new (Tampered closing.region place) closing.blocks place below
              (opens_refused none old new closing.region place (each place (read_at closing.region)) (opens_went (each place (read_at closing.region) ++ read_at closing.region place) none old new
              (went_join none old now new (each place (read_at closing.region)) (read_at closing.region place) so_far.went gets.ok)));
        };
        never = inr (record { place = place; below = below; is = refl; why = inr no_row });
        catalogue = tt;
        seals = sealed_on gets.seals;
        told = λ honest rows held. record {
          spelled = tt;
          read = λ whole catalogue are.
              let at = row_is closing rows whole catalogue are place listed below (so_far.read rows held (early honest.nolie) whole catalogue are) in
              absurd (off (subst (IsRowAt closing listed place) (row rows held honest.nolie) at));
        };
      }

-- ---- all of them were read
pub reads_all : (closing : Closing) (place : ℕ) (listed : List Listed) (old new : World) → 1 ≤ closing.blocks → place ≡ closing.blocks → ReadSoFar closing place listed old new → ReadsBlocks closing (Ok listed) old new
reads_all closing place listed old new some end so_far =
    let count : length listed + 1 ≡ closing.blocks = omega (arith, so_far.count, end, some) in
    record {
      opens = record {
        ok = opens_went (each closing.blocks (read_at closing.region)) none old new (subst (λ (n : ℕ). Went (each n (read_at closing.region)) none old new) end so_far.went);
        err = tt;
      };
      never = tt;
      catalogue = record { are = so_far.are; count = count };
      seals = so_far.seals;
      told = λ honest rows held. record {
        spelled =
            sym (take_all place rows (omega (arith, held.count, end)))
            ∙ so_far.spelled rows held honest.nolie
            ∙ take_all place (texts closing listed) (omega (arith, length-texts closing listed, count, end))
            ∙ texts_are closing listed count;
        read = λ whole catalogue are.
            so_far.read rows held honest.nolie whole catalogue are ∙ take_all (place - 1) whole (omega (arith, catalogue.count, end));
      };
    }
