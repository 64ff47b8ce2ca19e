use Rattle.std.proofs.Common.{◌≡◌, ◌+◌, ◌*◌, ℕ, suc, List, [], ◌∷◌, ap, sym, subst, ◌∙◌, arith}
use Rattle.ob_linked.specs.Writing.{Writes, child_version}
use Rattle.ob_linked.proofs.WritingLemmas.{writes_more, writes_spoiled}
use Rattle.ob_linked.proofs.writing.+write_steps.Goals as goal

pub returns-in-Ok : goal.returns-in-Ok
returns-in-Ok g t c =
    let s = c.in-Some.step.now in
    let below = c.in-Some.below.now in
    let run = c.args.run in
    let number = c.args.number in
    let next : number + 1 ≡ suc number = omega arith in
    let left = c.version_below-left.ensures ∙ ap (λ b. child_version (2 * b + 1) s.left below run (number + 1)) c.from-bucket.ensures ∙ ap (λ n. child_version (2 * s.bucket + 1) s.left below run n) next in
    let right = c.version_below-right.ensures ∙ ap (λ b. child_version (2 * b + 2) s.right below run (number + 1)) c.from-bucket.ensures ∙ ap (λ n. child_version (2 * s.bucket + 2) s.right below run n) next in
    subst (λ path. Writes path run number c.write_steps.result (g.B.Buckets.cells c.args.region.now) (g.B.Buckets.cells c.write_steps.new.region)) (sym c.in-Some.ensures.cases.0)
    (writes_more s below run number _ _ _ _ _ left right c.in-Ok.ensures.ok c.write_steps.result
    (subst (λ n. Writes below run n c.write_steps.result (g.B.Buckets.cells c.put.new.self) (g.B.Buckets.cells c.write_steps.new.region)) next c.write_steps.ensures))

pub returns-in-Err : goal.returns-in-Err
returns-in-Err g t c =
    subst (λ path. Writes path c.args.run c.args.number (Rattle.std.proofs.Common.Err c.in-Err.e) (g.B.Buckets.cells c.args.region.now) (g.B.Buckets.cells c.put.new.self)) (sym c.in-Some.ensures.cases.0)
    (writes_spoiled c.in-Some.step.now c.in-Some.below.now c.args.run c.args.number _ _ c.in-Err.e c.in-Err.ensures.err)
