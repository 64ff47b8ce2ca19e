use Rattle.std.proofs.Common.{◌≡◌}
use Rattle.hex.specs.Hex.{encode_lower}
use Rattle.ob_mark.proofs.MarkLemmas.{hex_is_word}
use Rattle.ob_mark.proofs.mark.salted.Goals as goal

pub returns-in_err-digits-clause-read : goal.returns-in_err-digits-clause-read
returns-in_err-digits-clause-read c = λ salt rest bytes is. absurd (c.in_err-digits.ensures.read (encode_lower salt) rest (hex_is_word salt) is)

pub returns-in_err-bytes_of-clause-read : goal.returns-in_err-bytes_of-clause-read
returns-in_err-bytes_of-clause-read c = λ salt rest bytes is.
    let parts = c.in_ok-digits.ensures.read (encode_lower salt) rest (hex_is_word salt) is in
    absurd (cc (c.in_err-bytes_of.ensures.read salt bytes parts.0))

pub returns-clause-read : goal.returns-clause-read
returns-clause-read c = λ salt rest bytes is.
    let parts = c.in_ok-digits.ensures.read (encode_lower salt) rest (hex_is_word salt) is in
    (cc (c.in_ok-bytes_of.ensures.read salt bytes parts.0), parts.1)
