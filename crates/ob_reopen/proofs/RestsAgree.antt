-- What rests under some keys rests under others that are the same for the closing's region and for those of its tables.
use Rattle.std.proofs.Common.{◌≡◌, ℕ, suc, ◌+◌, List, [], ◌∷◌, Option, Some, refl, ◌∙◌, ap}
use Rattle.std.specs.Prelude.{slice_get}
use Rattle.ob_mean.specs.Verdict.{Tables}
use Rattle.ob_row.specs.Slots.{Slots}
use Rattle.ob_seal.specs.KeySet.{AreAlike, KeySet}
use Rattle.ob_seal.specs.declared.pairs.Pair.{Pair}
use Rattle.ob_seal.proofs.Agree.{sealed_agree}
use Rattle.ob_store.specs.State.{KeptRegion}
use Rattle.ob_vault.specs.Tied.{at_of}
use Rattle.ob_reopen.specs.declared.closing.Closing.{Closing}
use Rattle.ob_reopen.specs.declared.listed.Listed.{Listed}
use Rattle.ob_reopen.proofs.AlikeKeys.{pair_alike}
use Rattle.ob_reopen.proofs.ReadsRekeyed.{rows_agree}
use Rattle.ob_reopen.specs.Resting.{AreKept, KeepsTable, IsAtRest, kept_block}

module _ (k l : KeySet) (kept : ℕ → Option KeptRegion) where
  table_agree : (pack : ℕ) (t : Listed) (slots : Slots) → AreAlike k l t.table.region → KeepsTable k pack t slots kept → KeepsTable l pack t slots kept
  table_agree pack t slots same keeps = record {
    size = keeps.size;
    fits = keeps.fits;
    salt = keeps.salt ∙ ap (λ (p : Pair). p.salt) (pair_alike k l t.table.region same);
    region = keeps.region;
    is = keeps.is;
    blocks = keeps.blocks;
    len = keeps.len;
    whole = keeps.whole;
    holds = λ p below. keeps.holds p below ∙ ap Some (sealed_agree k l (at_of t.table.region p (t.number + p)) (same.each _ refl) (kept_block pack t slots p));
  }

  tables_agree : (pack : ℕ) (listed : List Listed) (tables : Tables) → ((i : ℕ) (t : Listed) → slice_get listed i ≡ Some t → AreAlike k l t.table.region)
      → AreKept k pack listed tables kept → AreKept l pack listed tables kept
  tables_agree pack [] [] same are = tt
  tables_agree pack [] (x ∷ xs) same are = absurd are
  tables_agree pack (t ∷ ts) [] same are = absurd are
  tables_agree pack (t ∷ ts) (x ∷ xs) same are = (
    are.0,
    table_agree pack t x.held.slots (same 0 t refl) are.1,
    tables_agree pack ts xs (λ i u is. same (suc i) u is) are.2,
  )

  pub rests_agree : (closing : Closing) (tables : Tables) (rests : IsAtRest k closing kept tables) → AreAlike k l closing.region
      → ((i : ℕ) (t : Listed) → slice_get rests.listed i ≡ Some t → AreAlike k l t.table.region) → IsAtRest l closing kept tables
  rests_agree closing tables rests own each = record {
    listed = rests.listed;
    closing_is = record {
      catalogue = rests.closing_is.catalogue;
      rows = rows_agree k l closing _ kept own rests.closing_is.rows;
    };
    held = tables_agree closing.pack rests.listed tables each rests.held;
    in_place = rests.in_place;
  }
