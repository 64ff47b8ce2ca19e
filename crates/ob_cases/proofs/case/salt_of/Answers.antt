use Rattle.std.proofs.Common.{◌≡◌, List, ℕ, Ok, Err, Result, MatchResult, refl, sym, ◌∙◌, subst, arith}
use Rattle.hex.proofs.HexLemmas.{decode_of-ok, decode_sized-ok, decode_sized-twice}
use Rattle.hex.specs.Hex.{decode_sized}
use Rattle.hex.specs.declared.error.FromHexError.{FromHexError}
use Rattle.ob_reopen.specs.Keepers.{AreSaltBytes}
use Rattle.ob_cases.proofs.case.salt_of.Goals as goal

-- what decodes to 16 bytes is a salt
decoded : (digits out : List ℕ) (r : Result Unit FromHexError) (d : Result (List ℕ) FromHexError) → r ≡ Ok tt → decode_sized digits 16 ≡ d
    → MatchResult d (λ bytes. (r ≡ Ok tt) × (out ≡ bytes)) (λ e. r ≡ Err e) → AreSaltBytes out
decoded digits out r (Ok bytes) ok is (same, value) =
    let twice = decode_sized-ok digits 16 bytes is in
    let parts = decode_of-ok digits bytes (sym (decode_sized-twice digits 16 twice) ∙ is) in
    subst AreSaltBytes (sym value) (record { long = omega (arith, twice, parts.2); each = parts.3 })
decoded digits out r (Err e) ok is value = absurd (cc (ok, value))

pub returns-in-Ok : goal.returns-in-Ok
returns-in-Ok c = decoded c.as_bytes.result.now _ _ (decode_sized c.as_bytes.result.now 16) c.in-Ok.is refl c.decode_to_slice.ensures.value
