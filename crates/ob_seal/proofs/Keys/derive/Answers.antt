use Rattle.std.proofs.Common.{◌≡◌, List, ℕ, [], ◌++◌, None, ◌∙◌, ap}
use Rattle.std.proofs.lemmas.List.{append-nil}
use Rattle.std.specs.Prelude.{codes}
use Rattle.ob_hmac.specs.Hmac.{hmac}
use Rattle.ob_seal.specs.declared.pairs.Pair.{Pair}
use Rattle.ob_seal.specs.KeySet.{keyed_by}
use Rattle.ob_seal.specs.Sealed.{keys_of, pair_by}
use Rattle.ob_seal.proofs.Keys.derive.Goals as goal

-- the keys of a secret and the seed of draws
are_keys : (secret root draw : List ℕ) (own : Pair) → root ≡ secret → own ≡ pair_by root None → draw ≡ hmac root (codes "oblidb draw" ++ [])
    → keyed_by own [] [] draw ≡ keys_of secret
are_keys secret root draw own is o d = λ i.
    keyed_by ((o ∙ ap (λ r. pair_by r None) is) i) [] []
    ((d ∙ ap (hmac root) (append-nil (codes "oblidb draw")) ∙ ap (λ r. hmac r (codes "oblidb draw")) is) i)

pub returns : goal.returns
returns c = are_keys c.args.secret.now _ _ _ c.new-root.ensures c.pair_for.ensures c.key_for.ensures
