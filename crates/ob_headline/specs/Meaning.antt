-- What the model answers.
use Rattle.std.specs.Prelude.{ℕ, ◌≡◌, ◌≤◌, ◌+◌, ◌⊎◌, ⊤, true, false, if◌then◌else◌, Option, Some, List, [], ◌∷◌, ◌++◌, length, None, Ok, Err}
use Rattle.ob_base.specs.Events.{Event}
use Rattle.ob_base.specs.Stored.{headings, headings_of}
use Rattle.ob_base.specs.declared.refusal.Refusal.TheVariants.{StoreFault}
use Rattle.ob_base.specs.declared.refusal.Stop.{Stop}
use Rattle.ob_base.specs.declared.refusal.Stop.TheVariants.{NoMemory, SinkFault, StashFull}
use Rattle.ob_base.specs.declared.seen.Seen.{Seen}
use Rattle.ob_verdict.specs.Outcomes.{outcome_of, Partly}
use Rattle.ob_verdict.specs.declared.outcome.Outcome.TheVariants.{Refused}
use Rattle.ob_headline.specs.Closing.{closing_line}
use Rattle.ob_headline.specs.Endings.{is_tampered}
use Rattle.ob_headline.specs.Flights.{EndedBy, OnBy, Position, LeftAt, at_next, at_position}
use Rattle.ob_headline.specs.declared.ending.Ending.{Ending}
use Rattle.ob_headline.specs.declared.ending.Ending.TheVariants.{Ran}
use Rattle.ob_mean.specs.Prints.{Prints, Unfinished, labels_of}
use Rattle.ob_mean.specs.Refusals.{early_refusal, limits_of}
use Rattle.ob_mean.specs.Replay.{Session, Spelt, Broken, How, Alone, CutAfter, With, CutWith, IsCutOff, after, cut_at, head_of, is_full_now, reads_of, rest_of, seen_now, seen_or_cut}
use Rattle.ob_mean.specs.Verdict.{is_late, verdict}
use Rattle.ob_mean.specs.declared.answer.Answer.{Answer as Meaning}
use Rattle.ob_print.specs.Cuts.{IsCutOf}
use Rattle.ob_print.specs.Rows.{events_text}
use Rattle.ob_script.specs.Script.{whole_script}
use Rattle.ob_script.specs.Trace.{Served}
use Rattle.ob_sql.specs.Skeleton.{skeleton}
use Rattle.ob_sql.specs.declared.stmt.Stmt.{Stmt}
use Rattle.ob_headline.specs.Words.{Answer, refused_at}
use Rattle.ob_mean.specs.Standing.{StandsMeant}

-- an answer is its header, its rows in some order and their number, or its one line
pub record AnswersAs (labels : List (List ℕ)) (stmt : Stmt) (meaning : Meaning)
    (answer : Answer) : Type 0 where
  pub outcome : answer.outcome ≡ outcome_of stmt meaning
  pub events : List Event
  pub prints : Prints labels meaning events
  pub bytes : answer.bytes ≡ events_text events ++ closing_line answer.outcome

-- the store cut the statement off, or the one with which it was served: a first part of its header and rows, and the line of
-- a store that failed
pub record CutOff (labels : List (List ℕ)) (meaning : Meaning) (answer : Answer) : Type 0 where
  pub outcome : answer.outcome ≡ Refused StoreFault
  pub events : List Event
  pub unfinished : Unfinished labels meaning events
  pub bytes : answer.bytes ≡ events_text events ++ closing_line answer.outcome

-- as it is meant, and where the store failed
abbrev pub AnswersMeant : Session → Stmt → Answer → Type 0
AnswersMeant s stmt answer =
    AnswersAs (labels_of stmt (headings_of s.public.tables)) stmt
    (verdict s.public s.asked s.tables stmt) answer

abbrev pub AnswersCut : Session → Stmt → Answer → Type 0
AnswersCut s stmt answer =
    CutOff (labels_of stmt (headings_of s.public.tables)) (verdict s.public s.asked s.tables stmt)
    answer

abbrev pub AnswersIn : How → Session → Stmt → Answer → Type 0
AnswersIn Alone s stmt answer = AnswersMeant s stmt answer
AnswersIn (CutAfter n) s stmt answer = AnswersCut s stmt answer
AnswersIn With s stmt answer = AnswersMeant s stmt answer
AnswersIn CutWith s stmt answer = AnswersCut s stmt answer

-- what was emitted until a stop is printed; where memory was wanting, maybe for the last of it, a first part
abbrev pub PrintsUntil : Stop → (part text : List ℕ) → Type 0
PrintsUntil NoMemory part text = IsCutOf part text
PrintsUntil _ part text = part ≡ text

abbrev pub PrintsTo : Ending → (part text : List ℕ) → Type 0
PrintsTo (Ran (Err stop)) part text = PrintsUntil stop part text
PrintsTo _ part text = part ≡ text

-- of the one begun: it was stopped after n of its accesses, of which the last was refused as tampered or none was, and
-- a first part of its header and rows was emitted until then; where the model's index is full it is stopped after the
-- reads of its access at the latest, and a stop for that comes nowhere else
pub record StopsAt (ending : Ending) (s : Session) (stmt : Stmt) (here : Seen)
    (part : List ℕ) : Type 0 where
  pub started : early_refusal (is_late s.asked) (limits_of s.public) (headings s.tables)
      stmt ≡ None
  pub n : ℕ
  pub within : n ≤ length (whole_script s.public (skeleton stmt) (seen_now s stmt))
  pub seen : here ≡ cut_at (is_tampered ending) n s.public (skeleton stmt) (seen_now s stmt)
  pub events : List Event
  pub begun : Partly (labels_of stmt (headings_of s.public.tables))
      (verdict s.public s.asked s.tables stmt) events
  pub printed : PrintsTo ending part (events_text events)
  pub full : ending ≡ Ran (Err StashFull)
      → (is_full_now s stmt ≡ true) × (n ≡ reads_of s stmt) × (part ≡ [])
  pub bound : is_full_now s stmt ≡ true → n ≤ reads_of s stmt

-- or it was answered, and a sink failed within its last line or after it
pub record AnswersLast (ending : Ending) (s : Session) (stmt : Stmt) (here : Seen)
    (part : List ℕ) : Type 0 where
  pub fault : ending ≡ Ran (Err SinkFault)
  pub room : is_full_now s stmt ≡ false
  pub how : How
  pub cuts : IsCutOff how s stmt
  pub seen : here ≡ seen_or_cut how s stmt
  pub answer : Answer
  pub answers : AnswersIn how s stmt answer
  pub whole : part ≡ answer.bytes

-- ---- one that flies
-- how many of its accesses were carried out when its flight was left
abbrev pub done_in : Ending → LeftAt → ℕ
done_in ending stand = if is_tampered ending then stand.before else stand.own

-- it was served
pub record HasEnded (s : Session) (stmt : Stmt) (here : Seen) : Type 0 where
  pub how : How
  pub cuts : IsCutOff how s stmt
  pub seen : here ≡ seen_or_cut how s stmt

-- so, if it had ended when its flight was left, or it stands there
abbrev pub StandsIn : Ending → Position → LeftAt → Session → Stmt → Seen → Type 0
StandsIn ending v stand s stmt here =
    (EndedBy (Some stand) v × HasEnded s stmt here)
    ⊎ (OnBy (Some stand) v × StandsMeant s.draws s.public s.asked stand.own (done_in ending stand)
    s.tables stmt here here.end)

-- it hadn't ended before, and a first part of its header and rows was emitted until then
pub record EmitsPart (ending : Ending) (v : Position) (stand : LeftAt) (s : Session) (stmt : Stmt)
    (part : List ℕ) : Type 0 where
  pub on : v.asked + stand.all ≤ v.until
  pub events : List Event
  pub begun : Partly (labels_of stmt (headings_of s.public.tables))
      (verdict s.public s.asked s.tables stmt) events
  pub printed : PrintsTo ending part (events_text events)

-- or all of its answer was emitted: its line is cut, for want of memory, or a sink took less than all that had ended
pub record EmitsAll (ending : Ending) (s : Session) (stmt : Stmt) (here : Seen)
    (part : List ℕ) : Type 0 where
  pub how : How
  pub cuts : IsCutOff how s stmt
  pub seen : here ≡ seen_or_cut how s stmt
  pub answer : Answer
  pub answers : AnswersIn how s stmt answer
  pub printed : PrintsTo ending part answer.bytes

abbrev pub StandsThere : Option LeftAt → Ending → Position → Session → Stmt → Seen → Type 0
StandsThere None ending v s stmt here = ⊥
StandsThere (Some stand) ending v s stmt here = StandsIn ending v stand s stmt here

-- of those after it in its flight nothing was printed
unfoldable pub StandBehind : Ending → List Position → Session → List Spelt → List Served → Type 0
StandBehind ending positions s [] seen = ⊤
StandBehind ending positions s (Err at ∷ spelt) seen = ⊥
StandBehind ending [] s (Ok stmt ∷ spelt) seen = ⊥
StandBehind ending (v ∷ positions) s (Ok stmt ∷ spelt) [] = ⊥
StandBehind ending (v ∷ positions) s (Ok stmt ∷ spelt) (x ∷ seen) =
    StandsThere v.left ending v (at_position v s) stmt x.seen
    × StandBehind ending positions s spelt seen

-- ---- the first that was begun
-- by its flight, if that was left, or alone
abbrev pub BeginsAt : Option LeftAt → Ending → Position → Session → Stmt → Seen → (part : List ℕ)
    → (behind : Type 0) → Type 0
BeginsAt None ending v s stmt here part behind =
    StopsAt ending s stmt here part ⊎ AnswersLast ending s stmt here part
BeginsAt (Some stand) ending v s stmt here part behind =
    StandsIn ending v stand s stmt here
    × (EmitsPart ending v stand s stmt part ⊎ EmitsAll ending s stmt here part) × behind

abbrev pub BeginsAnswer : Ending → List Position → Session → Spelt → (behind : List Spelt)
    → List Served → (part : List ℕ) → Type 0
BeginsAnswer ending positions s (Err at) behind seen part = part ≡ (refused_at at).bytes
BeginsAnswer ending [] s (Ok stmt) behind seen part = ⊥
BeginsAnswer ending (v ∷ positions) s (Ok stmt) behind [] part = ⊥
BeginsAnswer ending (v ∷ positions) s (Ok stmt) behind (x ∷ seen) part =
    BeginsAt v.left ending v (at_position v s) stmt x.seen part
    (StandBehind ending positions s behind seen)

-- ---- all of them
-- from a session of the model on: these statements, of which none meets a full stash, some are served with an INSERT before
-- them, some fly, and the store cut some off, each at one of its accesses, are answered so, this is seen of each, and what was
-- printed after them is a first part of the next answer
unfoldable pub AnswersFrom : Ending → List Position → Session → List Spelt → Broken → List Answer
    → List Served → (part : List ℕ) → Type 0
AnswersFrom ending positions s [] broken answers seen part = (answers ≡ []) × (part ≡ [])
AnswersFrom ending positions s (x ∷ spelt) broken [] seen part =
    BeginsAnswer ending positions s x spelt seen part
AnswersFrom ending positions s (Err at ∷ spelt) broken (one ∷ more) seen part =
    (one ≡ refused_at at) × AnswersFrom ending positions s spelt (rest_of broken) more seen part
AnswersFrom ending positions s (Ok stmt ∷ spelt) broken (one ∷ more) [] part = ⊥
AnswersFrom ending [] s (Ok stmt ∷ spelt) broken (one ∷ more) (x ∷ seen) part = ⊥
AnswersFrom ending (v ∷ positions) s (Ok stmt ∷ spelt) broken (one ∷ more) (x ∷ seen) part =
    (is_full_now (at_position v s) stmt ≡ false) × IsCutOff (head_of broken) (at_position v s) stmt
    × AnswersIn (head_of broken) (at_position v s) stmt one
    × (x.seen ≡ seen_or_cut (head_of broken) (at_position v s) stmt)
    × AnswersFrom ending positions (after (head_of broken) (at_position v s) stmt) spelt (rest_of broken)
    more seen part

-- the session after these texts: these tables and these draws, by what the next statement goes by
unfoldable pub session_after : List Position → Session → List Spelt → Broken → Session
session_after positions s [] broken = at_next positions s
session_after positions s (Err at ∷ spelt) broken = session_after positions s spelt (rest_of broken)
session_after [] s (Ok stmt ∷ spelt) broken = s
session_after (v ∷ positions) s (Ok stmt ∷ spelt) broken =
    if is_full_now (at_position v s) stmt then at_position v s
    else session_after positions (after (head_of broken) (at_position v s) stmt) spelt (rest_of broken)
