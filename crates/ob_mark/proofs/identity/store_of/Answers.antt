use Rattle.std.proofs.Common.{◌≡◌, ◌∙◌, IsUtf8, codes, subst, sym}
use Rattle.ob_mark.specs.Marks.{bytes_text}
use Rattle.ob_mark.proofs.FirstParts.{rest_is}
use Rattle.ob_mark.proofs.MarkLemmas.{never_refused, utf8_bytes}
use Rattle.ob_mark.proofs.identity.store_of.Goals as goal

pub returns-in_err-text-clause-read : goal.returns-in_err-text-clause-read
returns-in_err-text-clause-read c = λ id within is.
    let rest : c.in_ok-rest.rest.now ≡ bytes_text id = c.in_ok-rest.ensures.cases.1 ∙ rest_is c.args.line.now (codes "store ") (bytes_text id) is in
    absurd (never_refused c.from_utf8.result _ _ _ (sym c.in_err-text.was ∙ c.ok.ensures.value) c.from_utf8.ensures.cases (subst IsUtf8 (sym rest) (utf8_bytes id)))
