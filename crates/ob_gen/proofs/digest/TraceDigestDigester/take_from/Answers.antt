use Rattle.std.proofs.Common.{◌++◌, ◌≤◌, List, ℕ, sym, ap, ◌∙◌, arith, length, subst, take}
use Rattle.ob_print.specs.Lines.{trace_text}
use Rattle.sha2.specs.Hashers.{Holds256}
use Rattle.ob_gen.proofs.Digesting.{text_all, text_more}
use Rattle.ob_gen.proofs.digest.TraceDigestDigester.take_from.Goals as goal

pub loop-i-init : goal.loop-i-init
loop-i-init g c = λ took. took

pub loop-i-preserved : goal.loop-i-preserved
loop-i-preserved g c =
    let asked = (g.S.BlockStore.state c.args.store.now).asked in
    let line = c.as_bytes.ensures ∙ c.access_line-line.ensures in
    let before = trace_text (take c.loop-i.i asked) in
    λ took. subst (Holds256 c.update.new.self) (ap (λ (l : List ℕ). before ++ l) line ∙ sym (text_more asked c.loop-i.i c.nth.result c.nth.ensures))
    (c.update.ensures before (c.loop-i.invariant took))

pub returns : goal.returns
returns g c =
    let asked = (g.S.BlockStore.state c.args.store.now).asked in
    let end : length asked ≤ c.loop-i.i = omega arith in
    record { took = λ took. subst (Holds256 c.loop-i.self.hasher) (text_all asked c.loop-i.i end) (c.loop-i.invariant took) }
