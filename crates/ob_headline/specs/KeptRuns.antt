-- Runs whose tables are kept, each over the mark and the store that the one before it left.
use Rattle.std.specs.Prelude.{ℕ, ◌≡◌, ◌≤◌, ◌<◌, ◌+◌, ◌^◌, ⊤, Bool, IsTrue, List, [], ◌∷◌, ◌++◌, length, Option, Some, None, Ok}
use Rattle.std.proofs.Common.{inl, inr}
use Rattle.clap.specs.Words.{Text}
use Rattle.ob_base.specs.Accesses.{writes}
use Rattle.ob_base.specs.declared.config.Config.{Config}
use Rattle.ob_reopen.specs.declared.mark.Mark.{Mark}
use Rattle.ob_headline.specs.Bases.{drawing, flying, start}
use Rattle.ob_headline.specs.Failures.{failures}
use Rattle.ob_headline.specs.Flights.{positions_alone, trace_of}
use Rattle.ob_headline.specs.KeptHeadline.{RunKept}
use Rattle.ob_headline.specs.KeptMarks.{KeptRun}
use Rattle.ob_headline.specs.Reruns.{EndsWell}
use Rattle.ob_headline.specs.Settings.{settings_of}
use Rattle.ob_headline.specs.Usage.{kept_usage}
use Rattle.ob_headline.specs.Words.{Answer, Outside, any_refused}
use Rattle.ob_headline.specs.Meaning.{AnswersFrom}
use Rattle.ob_headline.specs.declared.ending.Ending.TheVariants.{Ran}
use Rattle.ob_headline.specs.declared.ending.KeptEnding.{KeptEnding}
use Rattle.ob_headline.specs.declared.ending.Report.{Report}
use Rattle.ob_headline.specs.declared.flight.FlightSettings.{FlightSettings}
use Rattle.ob_mean.specs.Replay.{Broken, Session, Spelt, after_all}
use Rattle.ob_reopen.specs.Keepers.{KeeperState}
use Rattle.ob_script.specs.Trace.{Served}
use Rattle.ob_seal.specs.Sealed.{keys_of}
use Rattle.ob_store.specs.State.{KeptRegion}

-- a run with `--keep` that reads its input
pub record OneRun (words : List Text) : Type 0 where
  pub old : Outside
  pub new : Outside
  pub keeper0 : KeeperState
  pub keeper1 : KeeperState
  pub report : Report
  pub run : KeptRun words old new keeper0 keeper1 report

-- ---- what a run is, by how far it came
-- its secret, where it was taken
abbrev pub secret_in : {settings : Option Config} {flight : Option FlightSettings}
    {Takes : Type 0} {tracing : Bool} {old new : Outside} {keeper0 keeper1 : KeeperState}
    {ending : KeptEnding} {answers : List Answer} {report : Report}
    → RunKept settings flight Takes tracing old new keeper0 keeper1 ending answers report
    → Option (List ℕ)
secret_in (inl run) = None
secret_in (inr (inl run)) = Some run.secret
secret_in (inr (inr run)) = Some run.secret

-- what its texts spell
abbrev pub spelt_in : {settings : Option Config} {flight : Option FlightSettings}
    {Takes : Type 0} {tracing : Bool} {old new : Outside} {keeper0 keeper1 : KeeperState}
    {ending : KeptEnding} {answers : List Answer} {report : Report}
    → RunKept settings flight Takes tracing old new keeper0 keeper1 ending answers report
    → List Spelt
spelt_in (inl run) = []
spelt_in (inr (inl run)) = []
spelt_in (inr (inr run)) = run.session.story.spelt

-- what is seen of its statements
abbrev pub seen_in : {settings : Option Config} {flight : Option FlightSettings}
    {Takes : Type 0} {tracing : Bool} {old new : Outside} {keeper0 keeper1 : KeeperState}
    {ending : KeptEnding} {answers : List Answer} {report : Report}
    → RunKept settings flight Takes tracing old new keeper0 keeper1 ending answers report
    → List Served
seen_in (inl run) = []
seen_in (inr (inl run)) = []
seen_in (inr (inr run)) = run.session.story.seen ++ run.session.story.last

-- how many accesses its statements came to, counted on from where its numbers are
abbrev pub count_in : {settings : Option Config} {flight : Option FlightSettings}
    {Takes : Type 0} {tracing : Bool} {old new : Outside} {keeper0 keeper1 : KeeperState}
    {ending : KeptEnding} {answers : List Answer} {report : Report}
    → RunKept settings flight Takes tracing old new keeper0 keeper1 ending answers report → ℕ
count_in (inl run) = 0
count_in (inr (inl run)) = 0
count_in {flight = flight} (inr (inr run)) =
    run.base.count + length (trace_of (flying flight run.base) run.session.story.entries)

-- ---- runs that answer as one
-- it has this secret and came to its end, the store tells what it holds, gave what was written and failed at no statement,
-- and no statement came so late that it is refused for that
pub record GoesWell {words : List Text} (secret : List ℕ) (one : OneRun words) : Type 0 where
  pub keyed : secret_in one.run.ran ≡ Some secret
  pub well : EndsWell one.report.status (failures one.run.answers)
  pub tells : IsTrue one.old.store.tells
  pub honest : one.new.store.lie ≡ None
  pub early : count_in one.run.ran < 2 ^ 63

-- each run goes well, over the mark and the regions that the one before it left
abbrev pub GoOn : {words : List Text} → (secret : List ℕ) → (held : Option Mark)
    → (kept : ℕ → Option KeptRegion) → List (OneRun words) → Type 0
GoOn secret held kept [] = ⊤
GoOn secret held kept (one ∷ runs) =
    (one.keeper0.held ≡ held) × ((q : ℕ) → one.old.store.kept q ≡ kept q)
    × GoesWell secret one × GoOn secret one.keeper1.held one.new.store.kept runs

-- what all texts spell, how they were answered, and what is seen of them
abbrev pub all_spelt : {words : List Text} → List (OneRun words) → List Spelt
all_spelt [] = []
all_spelt (one ∷ runs) = spelt_in one.run.ran ++ all_spelt runs

abbrev pub all_answers : {words : List Text} → List (OneRun words) → List Answer
all_answers [] = []
all_answers (one ∷ runs) = one.run.answers ++ all_answers runs

abbrev pub all_seen : {words : List Text} → List (OneRun words) → List Served
all_seen [] = []
all_seen (one ∷ runs) = seen_in one.run.ran ++ all_seen runs

-- the model's session without tables that draws the numbers of this secret
abbrev pub first_of : List Text → (secret : List ℕ) → Session
first_of words secret = drawing (keys_of secret) (start (settings_of kept_usage words))

-- they are answered as one run over all these texts answers them, from no tables, where none of them comes too late there:
-- a run in which the same ones are served with an INSERT before them
pub record AnswerAsOne {words : List Text} (secret : List ℕ) (runs : List (OneRun words))
    : Type 0 where
  pub hows : Broken
  pub alone : (first_of words secret).public.batch ≡ None → hows ≡ []
  pub answered : (after_all (first_of words secret) (all_spelt runs) hows).asked < 2 ^ 63
      → AnswersFrom (Ran (Ok (any_refused (all_answers runs))))
      (positions_alone (first_of words secret) (all_seen runs)) (first_of words secret)
      (all_spelt runs) hows (all_answers runs) (all_seen runs) []

-- ---- numbers over runs
-- a run by any words
pub record AnyRun : Type 0 where
  pub words : List Text
  pub one : OneRun words

-- each run goes on from the mark that the one before it left, whatever else became of it
abbrev pub AreChained : (held : Option Mark) → List AnyRun → Type 0
AreChained held [] = ⊤
AreChained held (run ∷ runs) =
    (run.one.keeper0.held ≡ held) × AreChained run.one.keeper1.held runs

-- the numbers that its writes go on from are no less than n
abbrev pub GoesOnFrom : {settings : Option Config} {flight : Option FlightSettings}
    {Takes : Type 0} {tracing : Bool} {old new : Outside} {keeper0 keeper1 : KeeperState}
    {ending : KeptEnding} {answers : List Answer} {report : Report} → (n : ℕ)
    → RunKept settings flight Takes tracing old new keeper0 keeper1 ending answers report → Type 0
GoesOnFrom n (inl run) = ⊤
GoesOnFrom n (inr (inl run)) = ⊤
GoesOnFrom n (inr (inr run)) = n ≤ run.base.start.writes

-- the greatest number that it wrote under, or n where it wrote nothing
abbrev pub numbered_in : {settings : Option Config} {flight : Option FlightSettings}
    {Takes : Type 0} {tracing : Bool} {old new : Outside} {keeper0 keeper1 : KeeperState}
    {ending : KeptEnding} {answers : List Answer} {report : Report} → (n : ℕ)
    → RunKept settings flight Takes tracing old new keeper0 keeper1 ending answers report → ℕ
numbered_in n (inl run) = n
numbered_in n (inr (inl run)) = n
numbered_in {new = new} n (inr (inr run)) = run.base.start.writes + writes new.store.asked

-- the writes of each run have greater numbers than those of all runs before it
abbrev pub NumberOn : (n : ℕ) → List AnyRun → Type 0
NumberOn n [] = ⊤
NumberOn n (run ∷ runs) =
    GoesOnFrom n run.one.run.ran × NumberOn (numbered_in n run.one.run.ran) runs
