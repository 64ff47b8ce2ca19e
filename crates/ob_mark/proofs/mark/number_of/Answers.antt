use Rattle.std.proofs.Common.{◌≡◌, ◌∙◌, ap, sym}
use Rattle.std.proofs.lemmas.Fmt.{parse-decimal}
use Rattle.std.specs.Cmp.Lexicographic.{bytes_decides}
use Rattle.std.specs.Result.{result_ok}
use Rattle.ob_mark.proofs.mark.number_of.Goals as goal

pub returns-in_err-n-clause-read : goal.returns-in_err-n-clause-read
returns-in_err-n-clause-read c = λ n few is.
    let parsed = parse-decimal 64 n c.args.digits.now c.parse.result few few is c.parse.ensures.value.0 in
    absurd (cc (sym c.in_err-n.was ∙ c.ok.ensures.value ∙ ap result_ok parsed))

pub returns-then-eq-clause-read : goal.returns-then-eq-clause-read
returns-then-eq-clause-read c = λ n few is.
    let parsed = parse-decimal 64 n c.args.digits.now c.parse.result few few is c.parse.ensures.value.0 in
    cc (c.in_ok-n.was, c.ok.ensures.value, ap result_ok parsed)

pub returns-else-eq-clause-read : goal.returns-else-eq-clause-read
returns-else-eq-clause-read c = λ n few is.
    let parsed = parse-decimal 64 n c.args.digits.now c.parse.result few few is c.parse.ensures.value.0 in
    let same : c.in_ok-n.n ≡ n = cc (c.in_ok-n.was, c.ok.ensures.value, ap result_ok parsed) in
    let text : c.format.result.now ≡ c.args.digits.now = cc (c.format.ensures.text, same, is) in
    absurd (cc (c.eq.ensures, c.if-eq.false, (bytes_decides c.format.result.now c.args.digits.now).1 text))
