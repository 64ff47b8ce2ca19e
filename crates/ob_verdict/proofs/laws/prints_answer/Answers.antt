use Rattle.ob_verdict.proofs.AnswerProof.{prints_answer}
use Rattle.ob_verdict.proofs.laws.prints_answer.Goals as goal

pub returns : goal.returns
returns c = prints_answer
