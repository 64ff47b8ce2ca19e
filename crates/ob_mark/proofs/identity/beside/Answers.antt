use Rattle.std.proofs.Common.{◌≡◌, ◌∙◌, Some, subst, sym}
use Rattle.ob_mark.specs.Marks.{Spells, mark_text, store_text}
use Rattle.ob_mark.proofs.HeldLemmas.{back_is, front_is, front_long, no_shorter, store_long}
use Rattle.ob_mark.proofs.identity.beside.Goals as goal

pub returns-then-text-lt-STORE-clause-read : goal.returns-then-text-lt-STORE-clause-read
returns-then-text-lt-STORE-clause-read c = λ mark id holds.
    absurd (no_shorter c.args.text.now (mark_text mark) (store_text (Some id)) holds.is (store_long id holds.id) c.if-text-lt-STORE.true)

pub returns-in_err-id-clause-read : goal.returns-in_err-id-clause-read
returns-in_err-id-clause-read c = λ mark id holds.
    let long = front_long c.args.text.now (mark_text mark) (store_text (Some id)) holds.is (store_long id holds.id) in
    let back = back_is c.args.text.now (mark_text mark) (store_text (Some id)) _ holds.is long in
    absurd (cc (c.in_err-id.ensures.read id holds.id (c.split_at.ensures.back ∙ back)))

pub returns-in_err-mark-clause-read : goal.returns-in_err-mark-clause-read
returns-in_err-mark-clause-read c = λ mark id holds.
    let long = front_long c.args.text.now (mark_text mark) (store_text (Some id)) holds.is (store_long id holds.id) in
    let front = front_is c.args.text.now (mark_text mark) (store_text (Some id)) _ holds.is long in
    absurd (cc (c.in_err-mark.ensures.read mark (subst (λ t. Spells t mark) (sym (c.split_at.ensures.front ∙ front)) holds.mark)))

pub returns-clause-read : goal.returns-clause-read
returns-clause-read c = λ mark id holds.
    let long = front_long c.args.text.now (mark_text mark) (store_text (Some id)) holds.is (store_long id holds.id) in
    let front = front_is c.args.text.now (mark_text mark) (store_text (Some id)) _ holds.is long in
    let back = back_is c.args.text.now (mark_text mark) (store_text (Some id)) _ holds.is long in
    let first : c.in_ok-mark.mark ≡ mark = cc (c.in_ok-mark.ensures.read mark (subst (λ t. Spells t mark) (sym (c.split_at.ensures.front ∙ front)) holds.mark)) in
    let second : c.in_ok-id.id ≡ id = cc (c.in_ok-id.ensures.read id holds.id (c.split_at.ensures.back ∙ back)) in
    λ i. Some (record { mark = first i; id = Some (second i) })
