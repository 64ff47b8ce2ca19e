use Rattle.std.proofs.Common.{◌≡◌, ◌∙◌, codes, subst, sym}
use Rattle.std.specs.Cmp.Lexicographic.{bytes_decides}
use Rattle.ob_mark.specs.Marks.{Spells}
use Rattle.ob_mark.proofs.MarkLemmas.{accepted, never_refused, reads_others, utf8_spelt}
use Rattle.ob_mark.proofs.mark.mark_of.Goals as goal

pub returns-in_err-line-clause-read : goal.returns-in_err-line-clause-read
returns-in_err-line-clause-read c = λ mark spells.
    absurd (never_refused c.from_utf8.result _ _ _ (sym c.in_err-line.was ∙ c.ok.ensures.value) c.from_utf8.ensures.cases (utf8_spelt c.args.text.now mark spells))

pub returns-else-eq-2-clause-read : goal.returns-else-eq-2-clause-read
returns-else-eq-2-clause-read c = λ mark spells.
    let line = c.in_ok-line.line.now in
    let same = (accepted c.from_utf8.result _ _ c.in_ok-line.line (sym c.in_ok-line.was ∙ c.ok.ensures.value) c.from_utf8.ensures.cases).0 in
    let used : line ≡ codes "in use\n" → ⊥ = λ is. cc (c.eq.ensures, c.if-eq.false, (bytes_decides line (codes "in use\n")).1 is) in
    let begun : line ≡ codes "begun\n" → ⊥ = λ is. cc (c.eq-else-eq.ensures, c.if-eq-2.false, (bytes_decides line (codes "begun\n")).1 is) in
    reads_others line c.named_of.result used begun c.named_of.ensures.closed c.named_of.ensures.saved mark (subst (λ t. Spells t mark) (sym same) spells)
