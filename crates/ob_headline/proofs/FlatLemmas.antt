-- What statements go on from is flat.
use Rattle.ob_headline.proofs.Words.{ap, AreFlat, Closing, Config, End, false, Flat, Heading, headings, headings_of, is_access, KeptRegion, KeySet, List, Listed, map, None, Option, Public, public_with, refl, Skeleton, slice_get, Some, suc, Tables, zero, ℕ, [], ◌∙◌, ◌∷◌, ◌≡◌}
use Rattle.ob_mean.specs.Lawful.{HoldsLeaf}
use Rattle.ob_reopen.specs.Limits.{IsCatalogue}
use Rattle.ob_reopen.specs.Reopened.{opened_public}
use Rattle.ob_reopen.specs.Resting.{AreKept, IsAtRest}

-- each table is flat, by what is public
abbrev pub IsFlat : Public → Type 0
IsFlat p = AreFlat (headings_of p.tables)

-- ---- a statement
-- one that accesses no index holds no leaf
pub no_leaf : (p : Public) (s : Skeleton) (leaf : Option ℕ) (end : End) → is_access p s ≡ false → HoldsLeaf p s leaf end → leaf ≡ None
no_leaf p s None end none holds = refl
no_leaf p s (Some leaf) end none holds = let is = holds.0 in absurd (cc (is, none))

-- ---- where a run begins
pub start_flat : (settings : Option Config) → IsFlat (public_with settings)
start_flat None = tt
start_flat (Some config) = tt

-- a closing lists flat tables alone
each_listed : (closing : Closing) (listed : List Listed) → IsCatalogue closing listed → (i : ℕ) (t : Listed) → slice_get listed i ≡ Some t → t.table.heading.shape ≡ Flat
each_listed closing listed catalogue i t is = (catalogue.are.each i t is).listed.flat

all_listed : (listed : List Listed) → ((i : ℕ) (t : Listed) → slice_get listed i ≡ Some t → t.table.heading.shape ≡ Flat) → AreFlat (headings_of (map (λ (t : Listed). t.table) listed))
all_listed [] each = tt
all_listed (t ∷ ts) each = (each zero t refl, all_listed ts (λ i u is. each (suc i) u is))

pub opened_flat : (config : Config) (closing : Closing) (listed : List Listed) → IsCatalogue closing listed → IsFlat (opened_public config closing listed)
opened_flat config closing listed catalogue = all_listed listed (each_listed closing listed catalogue)

-- and those that rested are
kept_flat : (keys : KeySet) (pack : ℕ) (listed : List Listed) (tables : Tables) (kept : ℕ → Option KeptRegion) → ((i : ℕ) (t : Listed) → slice_get listed i ≡ Some t → t.table.heading.shape ≡ Flat)
    → AreKept keys pack listed tables kept → AreFlat (headings tables)
kept_flat keys pack [] [] kept each are = tt
kept_flat keys pack [] (held ∷ tables) kept each are = absurd are
kept_flat keys pack (t ∷ ts) [] kept each are = absurd are
kept_flat keys pack (t ∷ ts) (held ∷ tables) kept each are =
    (ap (λ (h : Heading). h.shape) are.0 ∙ each zero t refl, kept_flat keys pack ts tables kept (λ i u is. each (suc i) u is) are.2)

pub rested_flat : (keys : KeySet) (closing : Closing) (kept : ℕ → Option KeptRegion) (tables : Tables) → IsAtRest keys closing kept tables → AreFlat (headings tables)
rested_flat keys closing kept tables rests =
    kept_flat keys closing.pack rests.listed tables kept (each_listed closing rests.listed rests.closing_is.catalogue) rests.held
