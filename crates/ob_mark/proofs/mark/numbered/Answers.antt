use Rattle.std.proofs.Common.{decimal}
use Rattle.ob_mark.proofs.MarkLemmas.{digits_are_word}
use Rattle.ob_mark.proofs.mark.numbered.Goals as goal

pub returns-in_err-digits-clause-read : goal.returns-in_err-digits-clause-read
returns-in_err-digits-clause-read c = λ n rest few is. absurd (c.in_err-digits.ensures.read (decimal n) rest (digits_are_word n few) is)

pub returns-in_err-number_of-clause-read : goal.returns-in_err-number_of-clause-read
returns-in_err-number_of-clause-read c = λ n rest few is.
    let parts = c.in_ok-digits.ensures.read (decimal n) rest (digits_are_word n few) is in
    absurd (cc (c.in_err-number_of.ensures.read n few parts.0))

pub returns-clause-read : goal.returns-clause-read
returns-clause-read c = λ n rest few is.
    let parts = c.in_ok-digits.ensures.read (decimal n) rest (digits_are_word n few) is in
    (cc (c.in_ok-number_of.ensures.read n few parts.0), parts.1)
