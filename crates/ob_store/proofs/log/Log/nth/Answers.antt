use Rattle.std.proofs.Common.{◌≤◌, ◌-◌, ◌∙◌, ap, arith, length, length-append, slice_get, sym}
use Rattle.ob_store.specs.Logs.{LogState, asked_of, spelt}
use Rattle.ob_store.proofs.LogLemmas.{get_behind}
use Rattle.ob_store.proofs.log.Log.nth.Goals as goal

pub overflow_sub-i : goal.overflow_sub-i
overflow_sub-i c = omega (arith, c.requires.has, c.self.invariant.count, ap (λ (s : LogState). length s.past) c.self.view_is)

pub nth-requires : goal.nth-requires
nth-requires c =
    omega (
      arith,
      c.requires.has,
      c.requires.within,
      c.self.invariant.count,
      ap (λ (s : LogState). length s.past) c.self.view_is,
      ap (λ (s : LogState). length (asked_of s)) c.self.view_is,
      length-append c.self.inside.past.accesses (spelt c.self.inside.runs.runs),
    )

pub returns : goal.returns
returns c =
    let past = c.self.inside.past.accesses in
    let kept = spelt c.self.inside.runs.runs in
    let behind : length past ≤ c.args.i = omega (arith, c.requires.has, ap (λ (s : LogState). length s.past) c.self.view_is) in
    ap (λ (s : LogState). slice_get (asked_of s) c.args.i) (sym c.self.view_is)
    ∙ get_behind past kept c.args.i behind
    ∙ (λ j. slice_get kept (c.args.i - sym c.self.invariant.count j))
    ∙ c.nth.ensures
