use Rattle.std.proofs.Common.{◌++◌, codes}
use Rattle.std.specs.Cmp.Lexicographic.{bytes_decides}
use Rattle.ob_mark.specs.Marks.{numbers_text, salts_text}
use Rattle.ob_mark.proofs.MarkLemmas.{closed_is_word, saved_is_word}
use Rattle.ob_mark.proofs.mark.named_of.Goals as goal

pub returns-in_err-head-clause-closed : goal.returns-in_err-head-clause-closed
returns-in_err-head-clause-closed c = λ region blocks number pack spells.
    absurd (c.in_err-head.ensures.read (codes "closed") (numbers_text region blocks number pack (codes "\n")) closed_is_word spells.1)

pub returns-in_err-head-clause-saved : goal.returns-in_err-head-clause-saved
returns-in_err-head-clause-saved c = λ region blocks number pack salt check spells.
    absurd (c.in_err-head.ensures.read (codes "saved") (numbers_text region blocks number pack (codes " " ++ salts_text salt check)) saved_is_word spells.3)

pub returns-else-eq-2-clause-closed : goal.returns-else-eq-2-clause-closed
returns-else-eq-2-clause-closed c = λ region blocks number pack spells.
    let parts = c.in_ok-head.ensures.read (codes "closed") (numbers_text region blocks number pack (codes "\n")) closed_is_word spells.1 in
    absurd (cc (c.eq.ensures, c.if-eq.false, (bytes_decides c.in_ok-head.head.now (codes "closed")).1 parts.0))

pub returns-else-eq-2-clause-saved : goal.returns-else-eq-2-clause-saved
returns-else-eq-2-clause-saved c = λ region blocks number pack salt check spells.
    let parts = c.in_ok-head.ensures.read (codes "saved") (numbers_text region blocks number pack (codes " " ++ salts_text salt check)) saved_is_word spells.3 in
    absurd (cc (c.eq-else-eq.ensures, c.if-eq-2.false, (bytes_decides c.in_ok-head.head.now (codes "saved")).1 parts.0))
