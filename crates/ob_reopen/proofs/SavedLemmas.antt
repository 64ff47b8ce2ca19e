-- What rests under a secret rests under the keys of each run that goes on from it.
use Rattle.std.proofs.Common.{◌≡◌, inl, inr, ℕ, zero, suc, List, [], ◌∷◌, Option, Some, None, map, refl, sym, ap}
use Rattle.std.specs.Prelude.{slice_get}
use Rattle.ob_mean.specs.Verdict.{Tables}
use Rattle.ob_seal.specs.KeySet.{AreAlike, KeySet, pair_in}
use Rattle.ob_seal.specs.Sealed.{AreBefore, AreSaltsOf, IsEarlier, keys_of, keys_salted, pair_by}
use Rattle.ob_seal.specs.declared.Salted.{Salted}
use Rattle.ob_seal.specs.declared.pairs.Pair.{Pair}
use Rattle.ob_seal.proofs.Salts.{known_pair, own_pair, plain_of_secret, salted_of_secret}
use Rattle.ob_store.specs.State.{KeptRegion}
use Rattle.ob_reopen.specs.declared.closing.Closing.{Closing}
use Rattle.ob_reopen.specs.declared.listed.Listed.{Listed}
use Rattle.ob_reopen.specs.Resting.{AreKept, IsNeeded, IsAtRest}
use Rattle.ob_reopen.specs.Saved.{RestsBy, reopening_keys, salted_of, salted_regions}
use Rattle.ob_reopen.proofs.AlikeKeys.{ones_alike}
use Rattle.ob_reopen.proofs.RestsAgree.{rests_agree}

-- the salts that are listed are those of the keys
salts_kept : (keys : KeySet) (pack : ℕ) (listed : List Listed) (tables : Tables) (kept : ℕ → Option KeptRegion) → AreKept keys pack listed tables kept → AreSaltsOf keys (map salted_of listed)
salts_kept keys pack [] [] kept are = tt
salts_kept keys pack [] (x ∷ xs) kept are = absurd are
salts_kept keys pack (t ∷ ts) [] kept are = absurd are
salts_kept keys pack (t ∷ ts) (x ∷ xs) kept are = (are.1.salt, salts_kept keys pack ts xs kept are.2)

-- and each table's region is one of them
is_salted : (listed : List Listed) (i : ℕ) (t : Listed) → slice_get listed i ≡ Some t → IsEarlier t.table.region (map salted_of listed)
is_salted [] zero t is = absurd (cc is)
is_salted [] (suc i) t is = absurd (cc is)
is_salted (u ∷ us) zero t is = let same : u ≡ t = cc is in inl (ap (λ (x : Listed). x.table.region) same)
is_salted (u ∷ us) (suc i) t is = inr (is_salted us i t is)

pub rests_under : (secret salt : List ℕ) (closed : Option (List ℕ)) (closing : Closing) (kept : ℕ → Option KeptRegion) (tables : Tables) (by : RestsBy secret closed closing kept tables)
    → IsAtRest (reopening_keys secret salt closed closing by.rests.listed) closing kept tables
rests_under secret salt closed closing kept tables by =
    let listed = by.rests.listed in
    let regions = salted_regions closed closing listed in
    let are : AreSaltsOf by.keys regions = (by.own, salts_kept by.keys closing.pack listed tables kept by.rests.held) in
    let keys = reopening_keys secret salt closed closing listed in
    let alike : (q : ℕ) → IsNeeded closing listed q → IsEarlier q regions → AreAlike by.keys keys q =
    λ q needed is. ones_alike by.keys keys q (by.ones q needed) tt (sym (known_pair secret salt by.keys regions q by.of are is)) in
    rests_agree by.keys (reopening_keys secret salt closed closing listed) kept closing tables by.rests
    (alike closing.region (inl refl) (inl refl))
    (λ i t is. alike t.table.region (inr (i, t, is, refl)) (inr (is_salted listed i t is)))

pub rests_plain : (secret : List ℕ) (closing : Closing) (kept : ℕ → Option KeptRegion) (tables : Tables) → IsAtRest (keys_of secret) closing kept tables → RestsBy secret None closing kept tables
unfolding pair_in
rests_plain secret closing kept tables rests = record {
  keys = keys_of secret;
  of = plain_of_secret secret;
  own = refl;
  rests = rests;
  ones = λ q needed. tt;
}

pub rests_salted : (secret salt : List ℕ) (earlier : List Salted) (closing : Closing) (kept : ℕ → Option KeptRegion) (tables : Tables) → AreBefore closing.region earlier
    → IsAtRest (keys_salted secret salt earlier) closing kept tables → RestsBy secret (Some salt) closing kept tables
rests_salted secret salt earlier closing kept tables before rests = record {
  keys = keys_salted secret salt earlier;
  of = salted_of_secret secret salt earlier;
  own = ap (λ (p : Pair). p.salt) (sym (own_pair secret salt earlier closing.region before));
  rests = rests;
  ones = λ q needed. tt;
}
