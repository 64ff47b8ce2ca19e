use Rattle.std.proofs.Common.{◌≡◌, ◌++◌, ◌∙◌, [], List, ap, append-nil, arith, length, length-append, refl, sym}
use Rattle.ob_base.specs.declared.access.Access.{Access}
use Rattle.ob_store.specs.Logs.{LogState, Run, asked_of, spelt}
use Rattle.ob_store.proofs.LogLemmas.{spelt-nil}
use Rattle.ob_store.proofs.log.Log.let_go.Goals as goal

pub overflow_add-self : goal.overflow_add-self
overflow_add-self c = omega (arith, c.self.invariant.few, c.count.ensures)

pub invariant_of-self : goal.invariant_of-self
invariant_of-self c =
    let size = ap length c.joined-self-inside.ensures in
    let parts = length-append c.self.inside.past.accesses (spelt c.self.inside.runs.runs) in
    let none = ap (λ (runs : List Run). length (spelt runs)) c.clear.ensures.runs in
    let nil = ap length spelt-nil in
    record {
      count = omega (arith, c.self.invariant.count, c.count.ensures, size, parts);
      few = omega (arith, c.self.invariant.few, c.count.ensures, none, nil);
    }

pub returns-clause-past : goal.returns-clause-past
returns-clause-past c = c.joined-self-inside.ensures ∙ ap asked_of c.self.view_is

pub returns-clause-asked : goal.returns-clause-asked
returns-clause-asked c =
    (λ i. c.joined-self-inside.ensures i ++ spelt (c.clear.ensures.runs i)) ∙ ap (λ (l : List Access). (c.self.inside.past.accesses ++ spelt c.self.inside.runs.runs) ++ l) spelt-nil
    ∙ append-nil (c.self.inside.past.accesses ++ spelt c.self.inside.runs.runs) ∙ ap asked_of c.self.view_is

pub returns-clause-spare : goal.returns-clause-spare
returns-clause-spare c =
    let size = ap length c.joined-self-inside.ensures in
    let parts = length-append c.self.inside.past.accesses (spelt c.self.inside.runs.runs) in
    let none = ap (λ (runs : List Run). length (spelt runs)) c.clear.ensures.runs in
    let nil = ap length spelt-nil in
    let spare = c.clear.ensures.spare in
    let old = ap (λ (s : LogState). s.spare) c.self.view_is in
    omega (arith, size, parts, none, nil, spare, old)
