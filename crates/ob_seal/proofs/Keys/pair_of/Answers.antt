use Rattle.std.proofs.Common.{arith, sym, ◌∙◌, ap}
use Rattle.ob_seal.specs.KeySet.{KeySet, held_in, pair_in, pair_of}
use Rattle.ob_seal.proofs.LookedUp.{pair_above}
use Rattle.ob_seal.proofs.Keys.pair_of.Goals as goal

pub returns-then-region-self : goal.returns-then-region-self
returns-then-region-self c =
    let q = c.args.region in
    let keys = c.self.inside in
    sym (pair_above keys.own (held_in keys.earlier) keys.greatest q c.self.invariant (omega arith)) ∙ ap (λ (k : KeySet). pair_of k q) c.self.view_is

pub returns-in-None : goal.returns-in-None
unfolding pair_in
returns-in-None c =
    let q = c.args.region in
    sym (ap (λ e. pair_in c.self.inside.own (held_in e) q) c.in-None.is) ∙ ap (λ (k : KeySet). pair_of k q) c.self.view_is
