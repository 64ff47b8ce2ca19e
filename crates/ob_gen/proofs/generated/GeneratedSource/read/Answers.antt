use Rattle.std.proofs.Common.{◌∙◌, ◌≡◌, sym, ap, subst, arith, length, List, ℕ}
use Rattle.ob_gen.specs.Generated.{GeneratedState, lines_left}
use Rattle.ob_gen.specs.declared.generated.Generated.TheInside.{Inside}
use Rattle.ob_gen.proofs.Reading.{IsAtHand, line_goes_on, line_taken, read_gives}
use Rattle.ob_gen.proofs.generated.GeneratedSource.read.Goals as goal
use Rattle.ob_gen.proofs.generated.GeneratedSource.read.Goals.{then-self-as_bytes+in-Some, else-self-as_bytes}

-- of the fields
abbrev Holds : List ℕ → Inside → Type 0
Holds all g = IsAtHand all g.line g.at (lines_left g.lines.number g.lines.rows g.lines.passed)

pub returns-clause-bytes : goal.returns-clause-bytes
returns-clause-bytes c =
    let all = c.args.self.now.left in
    let line = c.self.inside.line in
    let at = c.self.inside.at in
    let before = sym (ap (λ (s : GeneratedState). s.left) c.self.view_is) in
    let length_is : length c.as_bytes.result.now ≡ length line = ap length c.as_bytes.ensures in
    let hand : Holds all c.if-self-as_bytes.self-inside = elim c.if-self-as_bytes.branch [
      | then-self-as_bytes+in-Some w ↦ subst (Holds all) (sym w.self-inside-is)
          (line_taken all line _ at _ _ before (omega (arith, length_is, w.if-self-as_bytes.true)) w.in-Some.ensures.line w.in-Some.ensures.some)
      | else-self-as_bytes w ↦ subst (Holds all) (sym w.self-inside-is)
          (line_goes_on all line at _ before c.self.invariant (λ e. w.if-self-as_bytes.false (e ∙ sym length_is)))
    ] in
    read_gives all _ _ _ _ _ _ _ hand c.as_bytes-2.ensures c.min-n.ensures c.copy_from_slice.ensures.after
