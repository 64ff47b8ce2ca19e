use Rattle.std.proofs.Common.{◌≡◌, ◌∙◌, List, take, sym, ap, subst}
use Rattle.ob_reopen.specs.declared.listed.Listed.{Listed}
use Rattle.ob_reopen.specs.Limits.{GoesOn}
use Rattle.ob_reopen.proofs.CatalogueLemmas.{adds_row}
use Rattle.ob_reopen.proofs.reading.add_row.Goals as goal

pub returns-in-Some-clause-yes : goal.returns-in-Some-clause-yes
returns-in-Some-clause-yes c =
    let text : c.split_at.result.0.now ≡ take 1024 c.args.row.now = c.split_at.ensures.front ∙ ap (take 1024) c.bytes.ensures in
    let before : c.deref.result.now ≡ c.args.listed.now.items = c.deref.ensures.value in
    let on = subst (λ (l : List Listed). GoesOn c.args.closing l c.in-Some.next) before c.in-Some.ensures.listed in
    adds_row c.args.closing c.args.place (take 1024 c.args.row.now) c.args.listed.now.items c.push_reserved.new.self.items c.in-Some.next c.if-place-eq0.false on
    (sym text ∙ c.in-Some.ensures.spelled) c.push_reserved.ensures.items
    (λ u goes is. cc (c.next_table.ensures.told u (subst (λ (l : List Listed). GoesOn c.args.closing l u) (sym before) goes) (text ∙ is), c.in-Some.is))
