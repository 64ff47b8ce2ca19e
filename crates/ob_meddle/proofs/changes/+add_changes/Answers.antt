use Rattle.std.proofs.Common.{rules, ◌≡◌, Some, None, sym, ◌∙◌, ap}
use Rattle.ob_meddle.specs.Changes.{front, rest, comma, change}
use Rattle.ob_meddle.proofs.ChangeLemmas.{extends_one, extends_more, no_changes, bad_first, bad_rest}
use Rattle.ob_meddle.proofs.changes.+add_changes.Goals as goal

pub returns-in-None-rest-clause-ok : goal.returns-in-None-rest-clause-ok
returns-in-None-rest-clause-ok t c =
    let first : change (front comma c.args.text.now) ≡ Some c.in-Some.change = ap change (sym c.parted.ensures.front) ∙ sym c.change.ensures ∙ c.in-Some.is in
    let none : rest comma c.args.text.now ≡ None = search rules in
    extends_one c.args.most c.args.text.now c.in-Some.change c.args.list.now.items c.push.new.self.items (search rules) first none c.in-Ok.ensures.items

pub returns-in-Some-rest-clause-ok : goal.returns-in-Some-rest-clause-ok
returns-in-Some-rest-clause-ok t c =
    let first : change (front comma c.args.text.now) ≡ Some c.in-Some.change = ap change (sym c.parted.ensures.front) ∙ sym c.change.ensures ∙ c.in-Some.is in
    let after : rest comma c.args.text.now ≡ Some c.in-Some-rest.rest.now = search rules in
    extends_more c.add_changes.result c.args.most c.args.text.now c.in-Some-rest.rest.now c.in-Some.change c.args.list.now.items c.push.new.self.items c.add_changes.new.list.items (search rules) first after c.in-Ok.ensures.items c.add_changes.ensures.ok

pub returns-then-most-eq0-clause-malformed : goal.returns-then-most-eq0-clause-malformed
returns-then-most-eq0-clause-malformed t c = λ is. no_changes c.args.most c.args.text.now (search rules)

pub returns-in-None-clause-malformed : goal.returns-in-None-clause-malformed
returns-in-None-clause-malformed t c = λ is.
    let first : change (front comma c.args.text.now) ≡ None = ap change (sym c.parted.ensures.front) ∙ sym c.change.ensures ∙ c.in-None.is in
    bad_first c.args.most c.args.text.now (search rules) first

pub returns-in-Some-rest-clause-malformed : goal.returns-in-Some-rest-clause-malformed
returns-in-Some-rest-clause-malformed t c = λ is.
    let after : rest comma c.args.text.now ≡ Some c.in-Some-rest.rest.now = search rules in
    bad_rest c.args.most c.args.text.now c.in-Some-rest.rest.now (search rules) after (c.add_changes.ensures.malformed is)
