-- What rests in a store under a secret, and the keys under which a run that saves its tables goes on from it.
use Rattle.std.specs.Prelude.{◌≡◌, ℕ, List, ◌∷◌, Option, map}
use Rattle.ob_mean.specs.Verdict.{Tables}
use Rattle.ob_seal.specs.KeySet.{IsOfOne, KeySet, pair_of}
use Rattle.ob_seal.specs.Sealed.{AreOfSecret, keys_salted}
use Rattle.ob_seal.specs.declared.Salted.{Salted}
use Rattle.ob_store.specs.State.{KeptRegion}
use Rattle.ob_reopen.specs.Resting.{IsNeeded, IsAtRest}
use Rattle.ob_reopen.specs.declared.closing.Closing.{Closing}
use Rattle.ob_reopen.specs.declared.listed.Listed.{Listed}

-- the region of a table that is listed, with the salt of the run that made it
abbrev pub salted_of : Listed → Salted
salted_of t = record { region = t.table.region; salt = t.salt }

-- the regions of a closing and of the tables that it lists, where the run that wrote it had this salt, or none
abbrev pub salted_regions : (closed : Option (List ℕ)) → Closing → List Listed → List Salted
salted_regions closed closing listed =
    record { region = closing.region; salt = closed } ∷ map salted_of listed

-- the keys of a run with this salt that goes on from them
abbrev pub reopening_keys : (secret salt : List ℕ) → (closed : Option (List ℕ)) → Closing
    → List Listed → KeySet
reopening_keys secret salt closed closing listed =
    keys_salted secret salt (salted_regions closed closing listed)

-- these tables rest under keys of the secret, the closing under those of this salt, or of none; one run alone wrote to
-- each region that the closing needs
pub record RestsBy (secret : List ℕ) (closed : Option (List ℕ)) (closing : Closing)
    (kept : ℕ → Option KeptRegion) (tables : Tables) : Type 0 where
  pub keys : KeySet
  pub of : AreOfSecret secret keys
  pub own : closed ≡ (pair_of keys closing.region).salt
  pub rests : IsAtRest keys closing kept tables
  pub ones : (q : ℕ) → IsNeeded closing rests.listed q → IsOfOne keys q
