use Rattle.std.proofs.Common.{◌≡◌, ◌∙◌, sym, ap, Some}
use Rattle.std.specs.Cmp.Lexicographic.{bytes_decides}
use Rattle.hex.specs.Hex.{encode_lower}
use Rattle.ob_mark.proofs.MarkLemmas.{decoded_salt, salt_decoded}
use Rattle.ob_mark.proofs.mark.bytes_of.Goals as goal

pub returns-in_default-clause-read : goal.returns-in_default-clause-read
returns-in_default-clause-read c = λ salt bytes is.
    let read = salt_decoded _ _ salt _ bytes (c.as_bytes.ensures.value ∙ is) c.decode_to_slice.ensures.value in
    absurd (cc (c.in_default.is, read.0))

pub returns-then-eq-clause-spelt : goal.returns-then-eq-clause-spelt
returns-then-eq-clause-spelt c =
    let same = (bytes_decides c.as_bytes-2.result.now c.as_slice.result.now).0 (sym c.eq.ensures ∙ c.if-eq.true) in (
      cc (same, c.as_bytes-2.ensures.value, c.as_slice.ensures, c.in-Ok-encode_to_slice.ensures.written),
      decoded_salt c.as_bytes.result.now _ _ c.in-Ok.is c.decode_to_slice.ensures.value,
    )

pub returns-then-eq-clause-read : goal.returns-then-eq-clause-read
returns-then-eq-clause-read c = λ salt bytes is.
    let read = salt_decoded _ _ salt _ bytes (c.as_bytes.ensures.value ∙ is) c.decode_to_slice.ensures.value in
    ap Some read.1

pub returns-else-eq-clause-read : goal.returns-else-eq-clause-read
returns-else-eq-clause-read c = λ salt bytes is.
    let read = salt_decoded _ _ salt _ bytes (c.as_bytes.ensures.value ∙ is) c.decode_to_slice.ensures.value in
    let spelt : c.as_slice.result.now ≡ encode_lower c.decode_to_slice.new.out = cc (c.as_slice.ensures, c.in-Ok-encode_to_slice.ensures.written) in
    let text : c.as_bytes-2.result.now ≡ c.as_slice.result.now = c.as_bytes-2.ensures.value ∙ is ∙ sym (spelt ∙ ap encode_lower read.1) in
    absurd (cc (c.eq.ensures, c.if-eq.false, (bytes_decides c.as_bytes-2.result.now c.as_slice.result.now).1 text))
