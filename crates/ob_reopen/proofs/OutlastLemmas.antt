-- What rests in a store stays while the regions that it is read from do.
use Rattle.std.proofs.Common.{◌≡◌, ◌∷◌, [], ℕ, suc, List, Option, Some, inl, inr, refl, ◌∙◌}
use Rattle.std.specs.Prelude.{slice_get}
use Rattle.ob_reopen.specs.Resting.{AreKept, IsNeeded, KeepsTable, IsAtRest}
use Rattle.ob_mean.specs.Verdict.{Tables}
use Rattle.ob_reopen.specs.declared.closing.Closing.{Closing}
use Rattle.ob_reopen.specs.declared.listed.Listed.{Listed}
use Rattle.ob_row.specs.Slots.{Slots}
use Rattle.ob_seal.specs.KeySet.{KeySet}
use Rattle.ob_store.specs.State.{KeptRegion}

module _ (keys : KeySet) (old new : ℕ → Option KeptRegion) where
  table_lasts : (pack : ℕ) (t : Listed) (slots : Slots) → KeepsTable keys pack t slots old → new t.table.region ≡ old t.table.region → KeepsTable keys pack t slots new
  table_lasts pack t slots keeps same = record {
    size = keeps.size;
    fits = keeps.fits;
    salt = keeps.salt;
    region = keeps.region;
    is = same ∙ keeps.is;
    blocks = keeps.blocks;
    len = keeps.len;
    whole = keeps.whole;
    holds = keeps.holds;
  }

  tables_last : (pack : ℕ) (listed : List Listed) (tables : Tables) → ((i : ℕ) (t : Listed) → slice_get listed i ≡ Some t → new t.table.region ≡ old t.table.region)
      → AreKept keys pack listed tables old → AreKept keys pack listed tables new
  tables_last pack [] [] same kept = tt
  tables_last pack [] (held ∷ tables) same kept = absurd kept
  tables_last pack (t ∷ ts) [] same kept = absurd kept
  tables_last pack (t ∷ ts) (held ∷ tables) same kept =
      (kept.0, table_lasts pack t held.held.slots kept.1 (same 0 t refl), tables_last pack ts tables (λ i u is. same (suc i) u is) kept.2)

  pub rests_last : (closing : Closing) (tables : Tables) (rests : IsAtRest keys closing old tables) → ((q : ℕ) → IsNeeded closing rests.listed q → new q ≡ old q) → IsAtRest keys closing new tables
  rests_last closing tables rests same =
      let rows = rests.closing_is.rows in
      record {
        listed = rests.listed;
        closing_is = record {
          catalogue = rests.closing_is.catalogue;
          rows = record {
            region = rows.region;
            is = same closing.region (inl refl) ∙ rows.is;
            blocks = rows.blocks;
            len = rows.len;
            whole = rows.whole;
            count = rows.count;
            sizes = rows.sizes;
            holds = rows.holds;
          };
        };
        held = tables_last closing.pack rests.listed tables (λ i t is. same t.table.region (inr (i, t, is, refl))) rests.held;
        in_place = rests.in_place;
      }

  -- it lists the same tables
  pub listed_last : (closing : Closing) (tables : Tables) (rests : IsAtRest keys closing old tables) (same : (q : ℕ) → IsNeeded closing rests.listed q → new q ≡ old q)
      → (rests_last closing tables rests same).listed ≡ rests.listed
  unfolding rests_last
  listed_last closing tables rests same = refl
