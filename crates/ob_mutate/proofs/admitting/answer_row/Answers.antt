use Rattle.std.proofs.Common.{◌≡◌, ◌<◌, ◌==◌, ℕ, Some, Option, IfSome, length, take, sym, ◌∙◌, ap, subst, arith}
use Rattle.ob_base.specs.Schemas.{key_place, kind_width, width}
use Rattle.ob_order.specs.Orders.{field_at}
use Rattle.ob_row.specs.Spelling.{kind_at}
use Rattle.ob_mutate.specs.Batches.{KnowsSlots, inserted_as, inserted_one}
use Rattle.ob_mutate.proofs.Noted.{rows_marked}
use Rattle.ob_mutate.proofs.Foreseen.{admit_keyed, field_long, none_left, own_field}
use Rattle.ob_mutate.proofs.admitting.answer_row.Goals as goal

pub admit-requires-clause-marked : goal.admit-requires-clause-marked
admit-requires-clause-marked c = rows_marked c.args.schema.now c.args.kept.now c.requires.rows

pub admit-requires-clause-wide : goal.admit-requires-clause-wide
admit-requires-clause-wide c =
    let columns = c.args.schema.now in
    let place = c.in-Some.place in
    let kept = c.args.kept.now in
    let i = c.args.i in
    let below = (rw c.in-Some.is at c.requires.listed).0 in
    let own = c.requires.rows.each i c.requires.inside in
    let len : c.width-len.result ≡ kind_width (kind_at columns place) = c.width-len.ensures.value ∙ ap kind_width c.kind_at.ensures in
    ap (λ (a : ℕ). length (field_at a c.width-len.result kept i)) c.offset-at.ensures
    ∙ ap (λ (l : ℕ). length (field_at (width (take place columns)) l kept i)) len
    ∙ ap length (own_field columns place below own.0 _ own.1)
    ∙ field_long columns place below own.0 own.1.fits
    ∙ sym len

pub returns-in-Some-clause-told : goal.returns-in-Some-clause-told
returns-in-Some-clause-told c = λ row slots begins sees.
    let columns = c.args.schema.now in
    let place = c.in-Some.place in
    let kept = c.args.kept.now in
    let i = c.args.i in
    let n = c.args.notes.now in
    let key : key_place columns ≡ Some place = sym c.requires.key ∙ c.in-Some.is in
    let below = (rw c.in-Some.is at c.requires.listed).0 in
    let len : c.width-len.result ≡ kind_width (kind_at columns place) = c.width-len.ensures.value ∙ ap kind_width c.kind_at.ensures in
    let ks : KnowsSlots columns place kept n.there slots = rw key at sees.knows in
    let answer = rw (c.offset-at.ensures, len) at c.admit.ensures.answer in
    let knows = rw (c.offset-at.ensures, len) at c.admit.ensures.knows in
    let few : length n.taken < n.most = omega (arith, c.requires.before, c.requires.inside, c.requires.notes.most) in
    let full = ap (λ (k : ℕ). k == 0) c.spare-free.ensures ∙ none_left columns kept n slots sees few c.requires.room in
    let own = field_at (width (take place columns)) (kind_width (kind_at columns place)) kept i in
    let all = admit_keyed columns place below key kept n.there c.admit.new.self.there slots ks row begins.fits own (own_field columns place below row _ begins) c.spare-free.result full (knows ks.keys ks.knows) in (
      c.inserted_as.ensures ∙ ap inserted_as (answer ks.keys ks.knows) ∙ all.answer,
      subst (λ (k : Option ℕ). IfSome k (λ p. KnowsSlots columns p kept c.admit.new.self.there (inserted_one columns row slots))) (sym key) all.knows,
    )
