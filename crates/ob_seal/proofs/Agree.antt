-- Where two sets of keys have the same for a region, its blocks are the same.
use Rattle.std.proofs.Common.{◌≡◌, ℕ, List, ◌++◌, ap}
use Rattle.ob_hmac.specs.Hmac.{hmac}
use Rattle.ob_seal.specs.declared.At.{At}
use Rattle.ob_seal.specs.declared.pairs.Pair.{Pair}
use Rattle.ob_seal.specs.KeySet.{KeySet, pair_at}
use Rattle.ob_seal.specs.Stream.{xor_stream}
use Rattle.ob_seal.specs.Sealed.{ciphered, sealed, tag_head, tag_of}

module _ (k l : KeySet) (at : At) (agree : pair_at k at ≡ pair_at l at) where
  pub tag_agree : (text : List ℕ) → tag_of k at text ≡ tag_of l at text
  unfolding tag_of
  tag_agree text = ap (λ (p : Pair). hmac p.mac (tag_head at ++ text)) agree

  pub ciphered_agree : (row : List ℕ) → ciphered k at row ≡ ciphered l at row
  unfolding ciphered
  ciphered_agree row = ap (λ (p : Pair). xor_stream p.cipher at.number row) agree

  pub sealed_agree : (row : List ℕ) → sealed k at row ≡ sealed l at row
  sealed_agree row = λ i. ciphered_agree row i ++ tag_agree (ciphered_agree row i) i
