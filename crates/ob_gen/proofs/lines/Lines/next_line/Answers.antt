use Rattle.std.proofs.Common.{refl, arith}
use Rattle.ob_gen.proofs.LineLemmas.{left_none, left_row, left_statement, left_table}
use Rattle.ob_gen.proofs.lines.Lines.next_line.Goals as goal
use Rattle.ob_gen.proofs.lines.Lines.next_line.Goals.{then-passed-eq0, else-passed-eq0+then-passed-eq1, else-passed-eq0+else-passed-eq1+then-passed-self, else-passed-eq0+else-passed-eq1+else-passed-self+then-passed-self-2}

pub returns-else-passed-self-2-clause-line : goal.returns-else-passed-self-2-clause-line
returns-else-passed-self-2-clause-line c =
    let none = left_none c.args.self.now.number c.args.self.now.rows c.args.self.now.passed (omega arith) in (none, none)

pub returns-clause-line : goal.returns-clause-line
returns-clause-line c =
    let x = c.args.self.now.number in
    let n = c.args.self.now.rows in
    let passed = c.args.self.now.passed in
    elim c.if-passed-eq0.branch [
      | then-passed-eq0 w ↦ rw (w.line-is, w.self-is, w.secret_line-line.ensures, w.if-passed-eq0.true) refl
      | else-passed-eq0+then-passed-eq1 w ↦ rw (w.line-is, w.self-is, w.table_line.ensures, w.if-passed-eq1.true) (left_table x n)
      | else-passed-eq0+else-passed-eq1+then-passed-self w ↦ rw (w.line-is, w.self-is, w.row_line.ensures, w.digit_of.ensures, w.next_number-self.ensures) (left_row x n passed (omega arith) (omega arith))
      | else-passed-eq0+else-passed-eq1+else-passed-self+then-passed-self-2 w ↦ rw (w.line-is, w.self-is) (left_statement x n passed _ (omega arith) w.statement_line.ensures)
    ]
