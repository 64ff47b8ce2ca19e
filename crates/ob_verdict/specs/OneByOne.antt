-- Where the store never fails, a session whose INSERTs are served together answers what it answers one by one.
use Rattle.std.specs.Prelude.{◌≡◌, ◌<◌, ◌^◌, List, [], None}
use Rattle.ob_mean.specs.Replay.{Session, Spelt, after_all, answers, hows}

-- the same answers, and the same tables after them, slot by slot
pub record AnswersAsOneByOne (s : Session) (texts : List Spelt) : Type 0 where
  pub answers : answers s texts (hows None s texts) ≡ answers s texts []
  pub tables : (after_all s texts (hows None s texts)).tables ≡ (after_all s texts []).tables

-- until so many accesses were asked that no statement is served
abbrev pub BatchesAnswerAlike : Type 0
BatchesAnswerAlike = (s : Session) (texts : List Spelt) → (after_all s texts (hows None s texts)).asked < 2 ^ 63 → (after_all s texts []).asked < 2 ^ 63
    → AnswersAsOneByOne s texts
