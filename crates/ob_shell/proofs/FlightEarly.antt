-- Statements that fly before the first disturbance: each that had ended by then is answered and seen as it is meant.
use Rattle.ob_shell.proofs.Words.{Answer, answer_labels, ap, headings, headings_of, outcome_of, Session, ℕ, ◌∙◌, ◌≡◌, ◌≤◌}
use Rattle.ob_headline.proofs.FlightPositions.{FlownUntil}
use Rattle.ob_headline.specs.Flights.{at_position}
use Rattle.ob_mean.specs.Prints.{Prints}
use Rattle.ob_mean.specs.Replay.{Alone}
use Rattle.ob_mean.specs.Verdict.{seen as seen_by, verdict}
use Rattle.ob_shell.proofs.FlightSeen.{IsAnswerOf, Stood, flown_bytes}
use Rattle.ob_shell.proofs.FlownLists.{StmtInFlight, served_of}
use Rattle.ob_shell.proofs.SelectLemmas.{leaves_all, room_flown}

-- as it is meant, over the tables of a session
pub record MeantBy (s : Session) (f : StmtInFlight) (one : Answer) (answer : IsAnswerOf f one) : Type 0 where
  pub answered : answer.how.outcome ≡ outcome_of f.stmt (verdict f.position.public f.position.asked s.tables f.stmt)
  pub shown : f.seen ≡ seen_by s.draws f.position.public f.position.asked s.tables f.stmt
  pub prints : Prints (answer_labels f.stmt f.position.public) (verdict f.position.public f.position.asked s.tables f.stmt) answer.how.events

module _ (n : ℕ) (s : Session) (f : StmtInFlight) (one : Answer) (stood : Stood f) (answer : IsAnswerOf f one) (listed : headings s.tables ≡ headings_of f.position.public.tables)
    (meant : f.position.until ≤ n → MeantBy s f one answer) where
  pub flown_until : FlownUntil n s f.position f.stmt one (served_of f)
  flown_until =
      let stays = leaves_all Alone (at_position f.position s) f.stmt tt listed stood.fly in
      record {
        flies = stood.fly;
        room = λ few. room_flown f.position.public f.position.asked s.tables listed f.stmt stood.fly s.draws;
        answers = λ few.
            let m = meant few in
            record { outcome = ap (λ (a : Answer). a.outcome) answer.is ∙ m.answered; events = answer.how.events; prints = m.prints; bytes = flown_bytes f one stood answer };
        seen = λ few. (meant few).shown;
        tables = stays.tables;
        draws = stays.draws;
      }
