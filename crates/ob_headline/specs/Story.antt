-- What became of the texts of a run.
use Rattle.std.specs.Prelude.{ℕ, List, []}
use Rattle.ob_mean.specs.Replay.{Spelt}
use Rattle.ob_script.specs.Flights.{Entry}
use Rattle.ob_script.specs.Trace.{Served}
use Rattle.ob_headline.specs.Words.{Answer}

-- These texts were answered, and more were not. Those that were answered, and at most one that was begun, or a flight that
-- was, spell statements, or places where they are refused. So each was answered, and this part was printed of the first one
-- begun. So the statements are seen that were answered, and so those begun; and these were served alone, or together.
pub record Story : Type 0 where
  pub served : List (List ℕ)
  pub more : List (List ℕ)
  pub spelt : List Spelt
  pub answers : List Answer
  pub part : List ℕ
  pub seen : List Served
  pub last : List Served
  pub entries : List Entry

-- none was answered
abbrev pub unserved : (more : List (List ℕ)) → Story
unserved more = record {
  served = [];
  more = more;
  spelt = [];
  answers = [];
  part = [];
  seen = [];
  last = [];
  entries = [];
}
