use Rattle.ob_turns.proofs.Draws.{first_word, words_behind}
use Rattle.ob_turns.proofs.drawn.DrawnTurnsTurns.next.Goals as goal

pub returns-clause-value : goal.returns-clause-value
returns-clause-value c = first_word _ _ c.next_draw-self.ensures

pub returns-clause-rest : goal.returns-clause-rest
returns-clause-rest c = words_behind _ _ c.next_draw-self.ensures
