-- Runs that save their tables, each over the mark and the store that the one before it left, whatever became of that.
use Rattle.std.specs.Prelude.{ℕ, ◌≡◌, ◌≢◌, ◌⊎◌, ◌<◌, ◌+◌, ◌^◌, ⊤, Bool, false, IsTrue, if◌then◌else◌, List, [], ◌∷◌, ◌++◌, length, map, take, slice_get, Option, Some, None, Ok, Err}
use Rattle.std.proofs.Common.{inl, inr}
use Rattle.clap.specs.Words.{Text}
use Rattle.ob_base.specs.Refusals.{is_store_fault}
use Rattle.ob_base.specs.declared.access.Access.{Access}
use Rattle.ob_base.specs.declared.config.Config.{Config}
use Rattle.ob_reopen.specs.declared.mark.Mark.{Mark}
use Rattle.ob_reopen.specs.declared.mark.Mark.TheVariants.{Fresh, InUse, Closed, Begun, Saved}
use Rattle.ob_headline.specs.Bases.{Base, flying, start}
use Rattle.ob_headline.specs.Flights.{trace_of}
use Rattle.ob_headline.specs.KeptHeadline.{PassesBoth, begun_at}
use Rattle.ob_headline.specs.Meaning.{AnswersMeant}
use Rattle.ob_headline.specs.Reruns.{SomeRun, of_saving}
use Rattle.ob_headline.specs.SavedHeadline.{MayTake, RunSaved, SavedHeadline, SavesAs, SessionSaved}
use Rattle.ob_headline.specs.Saving.{RestsAlike, RestsAt, begun_mark}
use Rattle.ob_headline.specs.Settings.{IsTakenSaved, flight_of, saved_settings_of}
use Rattle.ob_headline.specs.Shown.{Shows, Wrote, number_at}
use Rattle.ob_headline.specs.Usage.{is_traced, saved_usage}
use Rattle.ob_headline.specs.Words.{Answer, Outside, refused_at}
use Rattle.ob_headline.specs.declared.ending.KeptEnding.{KeptEnding}
use Rattle.ob_headline.specs.declared.ending.KeptEnding.TheVariants.{OtherKey, OtherPack, KeeperFault}
use Rattle.ob_headline.specs.declared.ending.Report.{Report}
use Rattle.ob_headline.specs.declared.flight.FlightSettings.{FlightSettings}
use Rattle.ob_mean.specs.Batches.{batch_most}
use Rattle.ob_mean.specs.Replay.{Alone, Session, Spelt, after, after_all, is_full_now}
use Rattle.ob_mean.specs.Verdict.{Tables}
use Rattle.ob_reopen.specs.Keepers.{KeeperState}
use Rattle.ob_seal.specs.KeySet.{KeySet, pair_at}
use Rattle.ob_seal.specs.Sealed.{check_of}
use Rattle.ob_sql.specs.declared.stmt.Stmt.{Stmt}
use Rattle.ob_store.specs.State.{KeptRegion, StoreState}
use Rattle.ob_vault.specs.Tied.{at_of}
use Rattle.ob_verdict.specs.declared.outcome.Outcome.{Outcome}
use Rattle.ob_verdict.specs.declared.outcome.Outcome.TheVariants.{Created, Inserted, Changed, Deleted, Dropped, Rows, Refused}

-- what `save_top` promises of a run with `--save` that reads its input
abbrev pub SavedRun : List Text → (old new : Outside) → (keeper0 keeper1 : KeeperState) → Report
    → Type 0
SavedRun words old new keeper0 keeper1 report =
    SavedHeadline (saved_settings_of words) (flight_of saved_usage words) (IsTakenSaved words)
    (is_traced saved_usage words) old new keeper0 keeper1 report

pub record OneSaved (words : List Text) : Type 0 where
  pub old : Outside
  pub new : Outside
  pub keeper0 : KeeperState
  pub keeper1 : KeeperState
  pub report : Report
  pub run : SavedRun words old new keeper0 keeper1 report

-- a run whose statements were served is one by the words of its program, from its base and by its keys
abbrev pub saved_session : {words : List Text} {old new : Outside} {keeper0 keeper1 : KeeperState}
    {ending : KeptEnding} {answers : List Answer} {report : Report}
    → SessionSaved (saved_settings_of words) (flight_of saved_usage words) (IsTakenSaved words)
    (is_traced saved_usage words) old new keeper0 keeper1 ending answers report → SomeRun
saved_session {words = words} {old = old} {new = new} {report = report} run = record {
  base = flying (flight_of saved_usage words) run.base;
  keys = λ taken. run.keys;
  program = of_saving;
  words = words;
  tracing = is_traced saved_usage words;
  old = begun_at old run.opened run.traced;
  new = new;
  report = report;
  run = run.session;
}

-- ---- what is left, in whichever way a run ended
-- the mark that is held then is the one that was held, or `Begun` in place of a fresh one, or one of the run's own
abbrev pub MayLeave : {settings : Option Config} {flight : Option FlightSettings}
    {Takes : Type 0} {tracing : Bool} {old new : Outside} {keeper0 keeper1 : KeeperState}
    {ending : KeptEnding} {answers : List Answer} {report : Report}
    → RunSaved settings flight Takes tracing old new keeper0 keeper1 ending answers report
    → (held mark : Mark) → Type 0
MayLeave (inl run) held mark = mark ≡ held
MayLeave (inr (inl run)) held mark = (mark ≡ held) ⊎ (mark ≡ begun_mark held)
MayLeave {flight = flight} (inr (inr run)) held mark =
    (mark ≡ begun_mark held) ⊎ SavesAs run.secret run.salt (flying flight run.base) mark

-- and what rested for it under the secret, if none was served, rests
pub record Outlasts (secret : List ℕ) (held mark : Mark) (old new : StoreState) : Type 0 where
  pub rests : IsTrue old.tells → new.lie ≡ None → (tables : Tables)
      → RestsAt secret held old.kept tables → RestsAt secret mark new.kept tables

abbrev pub StillRests : {settings : Option Config} {flight : Option FlightSettings}
    {Takes : Type 0} {tracing : Bool} {old new : Outside} {keeper0 keeper1 : KeeperState}
    {ending : KeptEnding} {answers : List Answer} {report : Report}
    → RunSaved settings flight Takes tracing old new keeper0 keeper1 ending answers report
    → (held mark : Mark) → Type 0
StillRests {old = old} {new = new} (inl run) held mark = (secret : List ℕ)
    → Outlasts secret held mark old.store new.store
StillRests {old = old} {new = new} (inr (inl run)) held mark =
    Outlasts run.secret held mark old.store new.store
StillRests (inr (inr run)) held mark = ⊤

pub record LeavesHeld {settings : Option Config} {flight : Option FlightSettings}
    {Takes : Type 0} {tracing : Bool} {old new : Outside} {keeper0 keeper1 : KeeperState}
    {ending : KeptEnding} {answers : List Answer} {report : Report}
    (ran : RunSaved settings flight Takes tracing old new keeper0 keeper1 ending answers report)
    (held : Mark) : Type 0 where
  pub mark : Mark
  pub is : keeper1.held ≡ Some mark
  pub which : MayLeave ran held mark
  pub rests : StillRests ran held mark

-- ---- what took effect
-- the answer is that the store had failed
abbrev pub has_failed : Outcome → Bool
has_failed Created = false
has_failed Inserted = false
has_failed (Changed n) = false
has_failed (Deleted n) = false
has_failed Dropped = false
has_failed (Rows k) = false
has_failed (Refused refusal) = is_store_fault refusal

-- a text that took effect, and how it was answered, if it was
pub record Effect : Type 0 where
  pub text : Spelt
  pub answer : Option Answer

-- of these texts each did, and none was answered
abbrev pub unanswered : List Spelt → List Effect
unanswered spelt = map (λ (x : Spelt). record { text = x; answer = None }) spelt

-- of texts that weren't answered: none, or the first one, and these
abbrev pub texts_more : (more : Option (List Stmt)) → List Spelt → List Spelt
texts_more None spelt = []
texts_more (Some behind) spelt = take 1 spelt ++ map Ok behind

-- of texts that were answered so: each but those that the store had failed, and one more, if that did, with these statements
-- after it
unfoldable pub effects_of : (more : Option (List Stmt)) → List Spelt → List Answer → List Effect
effects_of more spelt [] = unanswered (texts_more more spelt)
effects_of more [] (one ∷ answers) = []
effects_of more (x ∷ spelt) (one ∷ answers) =
    if has_failed one.outcome then effects_of more spelt answers
    else record { text = x; answer = Some one } ∷ effects_of more spelt answers

abbrev pub texts_of : List Effect → List Spelt
texts_of effects = map (λ (e : Effect). e.text) effects

-- ---- what a run is, by how far it came
-- its secret, where it was taken
abbrev pub saved_secret : {settings : Option Config} {flight : Option FlightSettings}
    {Takes : Type 0} {tracing : Bool} {old new : Outside} {keeper0 keeper1 : KeeperState}
    {ending : KeptEnding} {answers : List Answer} {report : Report}
    → RunSaved settings flight Takes tracing old new keeper0 keeper1 ending answers report
    → Option (List ℕ)
saved_secret (inl run) = None
saved_secret (inr (inl run)) = Some run.secret
saved_secret (inr (inr run)) = Some run.secret

-- its salt, where its statements were served: the one that its keeper drew last
abbrev pub saved_salt : {settings : Option Config} {flight : Option FlightSettings}
    {Takes : Type 0} {tracing : Bool} {old new : Outside} {keeper0 keeper1 : KeeperState}
    {ending : KeptEnding} {answers : List Answer} {report : Report}
    → RunSaved settings flight Takes tracing old new keeper0 keeper1 ending answers report
    → Option (List ℕ)
saved_salt (inl run) = None
saved_salt (inr (inl run)) = None
saved_salt {keeper1 = keeper1} (inr (inr run)) = keeper1.drawn

-- what took effect of its texts
abbrev pub saved_effects : {settings : Option Config} {flight : Option FlightSettings}
    {Takes : Type 0} {tracing : Bool} {old new : Outside} {keeper0 keeper1 : KeeperState}
    {ending : KeptEnding} {answers : List Answer} {report : Report} → (more : Option (List Stmt))
    → RunSaved settings flight Takes tracing old new keeper0 keeper1 ending answers report
    → List Effect
saved_effects more (inl run) = []
saved_effects more (inr (inl run)) = []
saved_effects more (inr (inr run)) =
    effects_of more run.session.story.spelt run.session.story.answers

-- whether one more may have, which wasn't answered, with these statements after it
abbrev pub MayHaveMore : {settings : Option Config} {flight : Option FlightSettings}
    {Takes : Type 0} {tracing : Bool} {old new : Outside} {keeper0 keeper1 : KeeperState}
    {ending : KeptEnding} {answers : List Answer} {report : Report}
    → RunSaved settings flight Takes tracing old new keeper0 keeper1 ending answers report
    → (behind : List Stmt) → Type 0
MayHaveMore (inl run) behind = ⊥
MayHaveMore (inr (inl run)) behind = ⊥
MayHaveMore (inr (inr run)) behind =
    MayTake (batch_most run.base.public) run.session.ending run.session.story behind

-- how many accesses its statements came to, counted on from where its numbers are
abbrev pub saved_count : {settings : Option Config} {flight : Option FlightSettings}
    {Takes : Type 0} {tracing : Bool} {old new : Outside} {keeper0 keeper1 : KeeperState}
    {ending : KeptEnding} {answers : List Answer} {report : Report}
    → RunSaved settings flight Takes tracing old new keeper0 keeper1 ending answers report → ℕ
saved_count (inl run) = 0
saved_count (inr (inl run)) = 0
saved_count {flight = flight} (inr (inr run)) = run.base.count
    + length (trace_of (flying flight run.base) run.session.story.entries)

-- ---- a secret that isn't that of the run before
-- the mark is one of a run that saves, with another check value than this secret has for its salt
abbrev pub IsOfOther : (secret : List ℕ) → Mark → Type 0
IsOfOther secret Fresh = ⊥
IsOfOther secret InUse = ⊥
IsOfOther secret (Closed region blocks number pack) = ⊥
IsOfOther secret Begun = ⊥
IsOfOther secret (Saved region blocks number pack salt check) =
    check ≢ check_of secret (Some salt)

-- the store was asked for nothing, and nothing is said of what lies in it
pub record IsToldWrong (ending : KeptEnding) (old new : StoreState) : Type 0 where
  pub ends : (ending ≡ OtherKey) ⊎ ((ending ≡ OtherPack) ⊎ (ending ≡ KeeperFault))
  pub unasked : new ≡ old

-- ---- runs that answer as one
-- its secret is this one, if it took one, the store tells what it holds and gave what was written, and no statement came so
-- late that it is refused for that; its calls may fail, and it may end in any way
pub record GoesHonestly {words : List Text} (secret : List ℕ) (one : OneSaved words) : Type 0 where
  pub keyed : (other : List ℕ) → saved_secret one.run.ran ≡ Some other → other ≡ secret
  pub tells : IsTrue one.old.store.tells
  pub honest : one.new.store.lie ≡ None
  pub early : saved_count one.run.ran < 2 ^ 63

-- so does each of them, over the mark and the regions that the one before it left
abbrev pub GoOnSaved : {words : List Text} → (secret : List ℕ) → (held : Option Mark)
    → (kept : ℕ → Option KeptRegion) → List (OneSaved words) → Type 0
GoOnSaved secret held kept [] = ⊤
GoOnSaved secret held kept (one ∷ runs) =
    (one.keeper0.held ≡ held) × ((q : ℕ) → one.old.store.kept q ≡ kept q)
    × GoesHonestly secret one × GoOnSaved secret one.keeper1.held one.new.store.kept runs

-- what the last of them left
abbrev pub held_by : {words : List Text} → Option Mark → List (OneSaved words) → Option Mark
held_by held [] = held
held_by held (one ∷ runs) = held_by one.keeper1.held runs

abbrev pub kept_by : {words : List Text} → (ℕ → Option KeptRegion) → List (OneSaved words)
    → ℕ → Option KeptRegion
kept_by kept [] = kept
kept_by kept (one ∷ runs) = kept_by one.new.store.kept runs

-- what took effect of all texts, where of these runs one more did, with what was served with it
abbrev pub head_more : List (Option (List Stmt)) → Option (List Stmt)
head_more [] = None
head_more (m ∷ more) = m

abbrev pub rest_more : List (Option (List Stmt)) → List (Option (List Stmt))
rest_more [] = []
rest_more (m ∷ more) = more

abbrev pub all_effects : {words : List Text} → (more : List (Option (List Stmt)))
    → List (OneSaved words) → List Effect
all_effects more [] = []
all_effects more (one ∷ runs) =
    saved_effects (head_more more) one.run.ran ++ all_effects (rest_more more) runs

-- so it is of each of these runs where one more took effect
abbrev pub MayHaveAll : {words : List Text} → (more : List (Option (List Stmt)))
    → List (OneSaved words) → Type 0
MayHaveAll more [] = ⊤
MayHaveAll more (one ∷ runs) =
    ((behind : List Stmt) → head_more more ≡ Some behind → MayHaveMore one.run.ran behind)
    × MayHaveAll (rest_more more) runs

-- from a session of the model on: a text that takes effect meets no full stash, and is answered as it is meant, if it is
abbrev pub TakesEffect : Session → Spelt → Option Answer → Type 0
TakesEffect s (Ok stmt) None = is_full_now s stmt ≡ false
TakesEffect s (Ok stmt) (Some one) = (is_full_now s stmt ≡ false) × AnswersMeant s stmt one
TakesEffect s (Err at) None = ⊤
TakesEffect s (Err at) (Some one) = one ≡ refused_at at

abbrev pub session_behind : Session → Spelt → Session
session_behind s (Ok stmt) = after Alone s stmt
session_behind s (Err at) = s

-- these texts take effect one after the other, as in one run that nothing hinders, in which each is served by itself
unfoldable pub AnsweredInOne : Session → List Effect → Type 0
AnsweredInOne s [] = ⊤
AnsweredInOne s (e ∷ effects) =
    TakesEffect s e.text e.answer × AnsweredInOne (session_behind s e.text) effects

-- the session of the model from no tables, after the texts that took effect
abbrev pub one_run : (words : List Text) → List Effect → Session
one_run words effects = after_all (start (saved_settings_of words)) (texts_of effects) []

-- in one run over the texts that took effect, of each run those that were answered otherwise than that the store had failed,
-- and maybe one more, with what was served with it, where the answer of that couldn't be written or the keeper failed, each is
-- answered as it was; and the tables that it leaves rest for the mark that is held: unless one of them comes too late there
pub record AnswerInOne {words : List Text} (secret : List ℕ) (held : Option Mark)
    (kept : ℕ → Option KeptRegion) (runs : List (OneSaved words)) : Type 0 where
  pub more : List (Option (List Stmt))
  pub may : MayHaveAll more runs
  pub answered : (one_run words (all_effects more runs)).asked < 2 ^ 63
      → AnsweredInOne (start (saved_settings_of words)) (all_effects more runs)
  pub left : (one_run words (all_effects more runs)).asked < 2 ^ 63 → (mark : Mark)
      × (held_by held runs ≡ Some mark)
      × RestsAlike secret mark (kept_by kept runs) (one_run words (all_effects more runs)).tables

-- ---- numbers over runs
-- a run by any words
pub record AnySaved : Type 0 where
  pub words : List Text
  pub one : OneSaved words

-- the keeper gave no two of these runs one salt
pub record HaveOwnSalts (runs : List AnySaved) : Type 0 where
  pub apart : (i j : ℕ) (a b : AnySaved) (salt : List ℕ) → slice_get runs i ≡ Some a
      → slice_get runs j ≡ Some b → saved_salt a.one.run.ran ≡ Some salt
      → saved_salt b.one.run.ran ≡ Some salt → i ≡ j

-- the write at this position seals a block under this salt and this number
pub record SealsOne (base : Base) (keys : KeySet) (asked : List Access) (position : ℕ)
    (salt : Option (List ℕ)) (number : ℕ) : Type 0 where
  pub region : ℕ
  pub place : ℕ
  pub wrote : Wrote asked position region place
  pub salted : salt ≡ (pair_at keys (at_of region place number)).salt
  pub numbered : number ≡ number_at base.start asked position

-- a run writes nothing before its first statement
abbrev pub Seals : {settings : Option Config} {flight : Option FlightSettings}
    {Takes : Type 0} {tracing : Bool} {old new : Outside} {keeper0 keeper1 : KeeperState}
    {ending : KeptEnding} {answers : List Answer} {report : Report}
    → RunSaved settings flight Takes tracing old new keeper0 keeper1 ending answers report
    → (position : ℕ) → (salt : Option (List ℕ)) → (number : ℕ) → Type 0
Seals (inl run) position salt number = ⊥
Seals (inr (inl run)) position salt number = ⊥
Seals {new = new} (inr (inr run)) position salt number =
    SealsOne run.base run.keys new.store.asked position salt number

-- each write goes to a region that the run made, the keys of whose blocks are those of its own salt; and over a store that
-- tells each block that lies in such a region once it ended is sealed by one of them
pub record WritesAlone {settings : Option Config} {flight : Option FlightSettings}
    {Takes : Type 0} {tracing : Bool} {old new : Outside} {keeper0 keeper1 : KeeperState}
    {ending : KeptEnding} {answers : List Answer} {report : Report}
    (run : SessionSaved settings flight Takes tracing old new keeper0 keeper1 ending answers report)
    : Type 0 where
  pub own : (position region place : ℕ) → Wrote new.store.asked position region place
      → run.base.start.region < region
  pub salted : (region place number : ℕ) → run.base.start.region < region
      → (pair_at run.keys (at_of region place number)).salt ≡ Some run.salt
  pub shown : IsTrue run.opened.tells → Shows (PassesBoth run.base.public.pack) run.keys
      run.base.start run.opened new.store

abbrev pub SealsAlone : {settings : Option Config} {flight : Option FlightSettings}
    {Takes : Type 0} {tracing : Bool} {old new : Outside} {keeper0 keeper1 : KeeperState}
    {ending : KeptEnding} {answers : List Answer} {report : Report}
    → RunSaved settings flight Takes tracing old new keeper0 keeper1 ending answers report → Type 0
SealsAlone (inl run) = ⊤
SealsAlone (inr (inl run)) = ⊤
SealsAlone (inr (inr run)) = WritesAlone run
