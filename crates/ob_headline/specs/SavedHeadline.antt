-- The headline of a run that saves its tables: an opening, a session that goes on from it, and what is held and rests once it
-- ended, in whichever way.
use Rattle.std.specs.Prelude.{ℕ, ◌≡◌, ◌≢◌, ◌<◌, ◌⊎◌, Bool, List, [], ◌∷◌, ◌++◌, length, map, take, drop, Option, Some, None, Ok, Err}
use Rattle.ob_base.specs.Counts.{Rises}
use Rattle.ob_base.specs.declared.config.Config.{Config}
use Rattle.ob_reopen.specs.declared.mark.Mark.{Mark}
use Rattle.ob_base.specs.declared.refusal.Stop.TheVariants.{KeeperFault, SinkFault}
use Rattle.ob_headline.specs.Bases.{Base, FromEach, drawing, flying}
use Rattle.ob_headline.specs.Batches.{AllInsert}
use Rattle.ob_headline.specs.Headline.{Headline}
use Rattle.ob_headline.specs.Keeping.{kept_status}
use Rattle.ob_headline.specs.KeptHeadline.{Unkeyed, Unserved, begun_at}
use Rattle.ob_headline.specs.KeyLine.{first_line, secret_of}
use Rattle.ob_headline.specs.Flights.{Position, positions_of}
use Rattle.ob_headline.specs.Meaning.{AnswersFrom, session_after}
use Rattle.ob_headline.specs.Saving.{BeganSaved, NotBegunSaved, RestsAlike}
use Rattle.ob_headline.specs.Statements.{SpellFirst, statements}
use Rattle.ob_headline.specs.Story.{Story}
use Rattle.ob_headline.specs.Words.{Answer, IsHonest, Outside}
use Rattle.ob_headline.specs.declared.ending.Ending.{Ending}
use Rattle.ob_headline.specs.declared.ending.Ending.TheVariants.{Ran}
use Rattle.ob_headline.specs.declared.ending.KeptEnding.{KeptEnding}
use Rattle.ob_headline.specs.declared.ending.KeptEnding.TheVariants.{Plain}
use Rattle.ob_headline.specs.declared.ending.Report.{Report}
use Rattle.ob_headline.specs.declared.flight.FlightSettings.{FlightSettings}
use Rattle.ob_mean.specs.Batches.{batch_most, settle_all}
use Rattle.ob_mean.specs.Replay.{Broken, Session, Spelt}
use Rattle.ob_mean.specs.Verdict.{Tables}
use Rattle.ob_reopen.specs.Closings.{saved_mark}
use Rattle.ob_reopen.specs.Keepers.{KeeperState}
use Rattle.ob_reopen.specs.declared.closing.Closing.{Closing}
use Rattle.ob_seal.specs.KeySet.{KeySet}
use Rattle.ob_seal.specs.Sealed.{check_of}
use Rattle.ob_sql.specs.declared.stmt.Stmt.{Stmt}
use Rattle.ob_store.specs.State.{KeptRegion, StoreState}

-- ---- before a statement is served
-- it ended at what the keeper held, or gave, while tables were opened, or right after that
abbrev pub UnbegunSaved : (settings : Option Config) → (Takes : Type 0) → (tracing : Bool)
    → (old new : Outside) → (keeper0 keeper1 : KeeperState) → (ending : KeptEnding)
    → (answers : List Answer) → (report : Report) → Type 0
UnbegunSaved settings Takes tracing old new keeper0 keeper1 ending answers report =
    Unserved (λ config secret. NotBegunSaved config secret ending old.store new.store
    old.faults.trace new.faults.trace keeper0 keeper1) settings Takes tracing old new ending
    answers report

-- ---- what a session leaves
-- the session of the model after the texts that were answered
abbrev pub answered_by : List Position → Session → List Spelt → List Answer → Broken → Session
answered_by positions s spelt answers broken =
    session_after positions s (take (length answers) spelt) (take (length answers) broken)

-- the statements after them that took effect: none, or the next one, and these
abbrev pub taken_by : (more : Option (List Stmt)) → List Spelt → List Answer → List Stmt
taken_by None spelt answers = []
taken_by (Some behind) spelt answers =
    statements (take 1 (drop (length answers) spelt)) ++ behind

-- the tables after all of them, of which the store cut off none except answered ones
abbrev pub left_by : (more : Option (List Stmt)) → List Position → Session → List Spelt
    → List Answer → Broken → Tables
left_by more positions s spelt answers broken =
    let t = answered_by positions s spelt answers broken in
    settle_all t.draws t.public t.asked (taken_by more spelt answers) t.tables

-- the text begun and these statements are INSERTs into one table
pub record InsertTogether (story : Story) (behind : List Stmt) : Type 0 where
  pub begun : Stmt
  pub last : story.spelt ≡ take (length story.served) story.spelt ++ Ok begun ∷ []
  pub table : List ℕ
  pub insert : AllInsert table (begun ∷ behind)

-- the texts after the one begun spell these statements, which are served with it, if there are any: no more than a batch may
-- have
pub record GoAlong (most : ℕ) (story : Story) (behind : List Stmt) : Type 0 where
  pub few : length behind < most
  pub spell : SpellFirst (story.served ++ story.more) (story.spelt ++ map Ok behind)
  pub together : behind ≢ [] → InsertTogether story behind

-- a text takes effect that isn't answered only where its answer's sink failed, or the keeper, which may hold the new mark
abbrev pub MayTakeMore : Ending → Type 0
MayTakeMore ending = (ending ≡ Ran (Err SinkFault)) ⊎ (ending ≡ Ran (Err KeeperFault))

-- then those do that are served with it
pub record MayTake (most : ℕ) (ending : Ending) (story : Story) (behind : List Stmt)
    : Type 0 where
  pub more : MayTakeMore ending
  pub along : GoAlong most story behind

-- the tables after the texts that were answered, or after one more and what is served with it, rest for this mark under the
-- secret
pub record RestsBehind (base : Base) (secret : List ℕ) (keys : KeySet) (ending : Ending)
    (story : Story) (mark : Mark) (kept : ℕ → Option KeptRegion) (s : Session) : Type 0 where
  pub broken : Broken
  pub answered : AnswersFrom ending (positions_of base story.entries) (drawing keys s) story.spelt
      broken story.answers (story.seen ++ story.last) story.part
  pub more : Option (List Stmt)
  pub unanswered : (behind : List Stmt) → more ≡ Some behind
      → MayTake (batch_most base.public) ending story behind
  pub rests : RestsAlike secret mark kept (left_by more (positions_of base story.entries)
      (drawing keys s) story.spelt story.answers broken)

-- the mark of a closing that the run wrote, under its own salt, with the check value of that under its secret
pub record SavesAs (secret salt : List ℕ) (base : Base) (mark : Mark) : Type 0 where
  pub closing : Closing
  pub is : mark ≡ saved_mark closing salt (check_of secret (Some salt))
  pub pack : closing.pack ≡ base.public.pack
  pub region : base.start.region < closing.region
  pub number : base.start.writes < closing.number

-- this mark is the one that was held when the session began, or one of its own; and where the store tells what it holds and
-- gave what was written, the tables rest for it
pub record LeavesMark (secret salt : List ℕ) (base : Base) (keys : KeySet) (ending : Ending)
    (story : Story) (begun new : StoreState) (held mark : Mark) : Type 0 where
  pub which : (mark ≡ held) ⊎ SavesAs secret salt base mark
  pub rests : IsHonest begun new
      → FromEach base (λ s. RestsBehind base secret keys ending story mark new.kept s)

-- however a session ended, and whichever calls of the store and of the keeper failed, a keeper that tells holds such a mark:
-- so it is at each moment at which a run may be killed, since that is as if each later call failed
pub record LeavesSaved (secret salt : List ℕ) (base : Base) (keys : KeySet) (ending : Ending)
    (story : Story) (begun new : StoreState) (keeper0 keeper1 : KeeperState) : Type 0 where
  pub told : (held : Mark) → keeper0.held ≡ Some held → (mark : Mark)
      × (keeper1.held ≡ Some mark)
      × LeavesMark secret salt base keys ending story begun new held mark

-- the keeper's count of faults rose exactly where the session ended for that
abbrev pub CountsKeeper : Ending → (old new : KeeperState) → Type 0
CountsKeeper (Ran (Err KeeperFault)) old new = Rises old.faults new.faults
CountsKeeper _ old new = new.faults ≡ old.faults

-- ---- a session
-- the keeper gave a mark from which the run could begin, and a salt; a session went on from the tables that were opened, if
-- any were, under keys of the secret and of the salts, and nothing comes after it
pub record SessionSaved (settings : Option Config) (flight : Option FlightSettings)
    (Takes : Type 0) (tracing : Bool) (old new : Outside) (keeper0 keeper1 : KeeperState)
    (ending : KeptEnding) (answers : List Answer) (report : Report) : Type 0 where
  pub takes : Takes
  pub config : Config
  pub set : settings ≡ Some config
  pub secret : List ℕ
  pub salt : List ℕ
  pub keys : KeySet
  pub base : Base
  pub opened : StoreState
  pub traced : Option (List ℕ)
  pub begun : KeeperState
  pub began : BeganSaved config secret salt keys tracing base old.store opened old.traced traced
      keeper0 begun
  pub session : Headline (flying flight base) (λ taken. keys) Takes tracing
      (begun_at old opened traced) new report
  pub keyed : secret_of (first_line session.taken) ≡ Some secret
  pub is : ending ≡ Plain session.ending
  pub answered : answers ≡ session.story.answers
  pub keeper : CountsKeeper session.ending begun keeper1
  -- the salt is the one that the keeper drew last
  pub drew : keeper1.drawn ≡ Some salt
  -- of a keeper that told what it held from the first on
  pub leaves : (held : Mark) → keeper0.held ≡ Some held
      → LeavesSaved secret salt (flying flight base) keys session.ending session.story opened
      new.store begun keeper1

-- one of the three
abbrev pub RunSaved : Option Config → Option FlightSettings → (Takes : Type 0) → (tracing : Bool)
    → (old new : Outside) → (keeper0 keeper1 : KeeperState) → KeptEnding → List Answer → Report
    → Type 0
RunSaved settings flight Takes tracing old new keeper0 keeper1 ending answers report =
    Unkeyed settings flight Takes tracing old new keeper0 keeper1 ending answers report
    ⊎ (UnbegunSaved settings Takes tracing old new keeper0 keeper1 ending answers report
    ⊎ SessionSaved settings flight Takes tracing old new keeper0 keeper1 ending answers report)

-- of words that the program takes, or doesn't, of the settings that they spell, and of how SELECTs fly then, if they do
pub record SavedHeadline (settings : Option Config) (flight : Option FlightSettings)
    (Takes : Type 0) (tracing : Bool) (old new : Outside) (keeper0 keeper1 : KeeperState)
    (report : Report) : Type 0 where
  pub ending : KeptEnding
  pub status : report.status ≡ kept_status ending
  pub answers : List Answer
  pub ran : RunSaved settings flight Takes tracing old new keeper0 keeper1 ending answers report
