use Rattle.std.proofs.Common.{arith, sym, ◌∙◌, ap}
use Rattle.ob_seal.specs.KeySet.{KeySet, held_in, pair_at, pair_in, pair_of, pair_upto, spans_in}
use Rattle.ob_seal.proofs.Spans.{span_empty}
use Rattle.ob_seal.proofs.Keys.pair_at.Goals as goal

pub returns-in-None : goal.returns-in-None
returns-in-None c =
    let at = c.args.at in
    let inside = c.self.inside in
    let found = pair_in inside.own (held_in inside.earlier) at.region in
    c.pair_of-found.ensures
    ∙ sym (ap (λ (k : KeySet). pair_of k at.region) c.self.view_is)
    ∙ sym (span_empty found at.region at.number)
    ∙ sym (ap (λ spans. pair_upto found (spans_in spans) at.region at.number) c.in-None.is)
    ∙ ap (λ (k : KeySet). pair_at k at) c.self.view_is
