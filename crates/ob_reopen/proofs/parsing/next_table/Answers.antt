use Rattle.std.proofs.Common.{◌≡◌, sym, ◌∙◌, subst}
use Rattle.ob_reopen.specs.Limits.{GoesOn}
use Rattle.ob_reopen.proofs.LimitLemmas.{fits_text}
use Rattle.ob_reopen.proofs.parsing.next_table.Goals as goal

pub returns-then-goes_on-clause-told : goal.returns-then-goes_on-clause-told
returns-then-goes_on-clause-told c = λ t on is.
    sym c.in_ok-listed.was ∙ c.table_in.ensures.told t (fits_text c.args.closing t c.requires.marked on.listed) is

pub returns-else-goes_on-clause-told : goal.returns-else-goes_on-clause-told
returns-else-goes_on-clause-told c = λ t on is.
    let told = c.table_in.ensures.told t (fits_text c.args.closing t c.requires.marked on.listed) is in
    let same : t ≡ c.in_ok-listed.listed = cc (told, c.in_ok-listed.was) in
    absurd (c.if-goes_on.ensures.no (subst (GoesOn c.args.closing c.args.before.now) same on))
