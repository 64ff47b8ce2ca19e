-- A run that nothing hinders is one of the plain machine: SQL over plain tables, a text after the other.
use Rattle.std.specs.Prelude.{ℕ, ◌≡◌, ◌≢◌, ◌++◌, if◌then◌else◌, true, false, List, [], ◌∷◌, Ok, Err, Option, None, Some}
use Rattle.std.specs.Io.KnownBytes.{Appends}
use Rattle.ob_base.specs.Counts.{Rises}
use Rattle.ob_headline.specs.Batches.{after_now, gathered_now, meant_seen}
use Rattle.ob_headline.specs.KeyLine.{after_line}
use Rattle.ob_headline.specs.Reruns.{SomeRun, TakesWords, asked_by, failures_of, seen_by}
use Rattle.ob_headline.specs.Settings.{limit_of}
use Rattle.ob_headline.specs.Texts.{texts_in}
use Rattle.ob_headline.specs.Tracing.{traced}
use Rattle.ob_headline.specs.Words.{Answer, IsHonest, SinksRose, any_refused, printed, refused_at}
use Rattle.ob_headline.specs.Meaning.{AnswersMeant}
use Rattle.ob_headline.specs.Status.{IsUsedUp, KeepsLimits}
use Rattle.ob_mean.specs.Batches.{Gathering}
use Rattle.ob_mean.specs.Replay.{Session, Spelt, is_full_now}
use Rattle.ob_script.specs.Trace.{trace}

-- from this session of the model on, in which so many INSERTs are gathered, these texts are answered so, each as it is meant
unfoldable pub AnsweredPlainly : Option Gathering → Session → List Spelt → List Answer → Type 0
AnsweredPlainly g s [] answers = answers ≡ []
AnsweredPlainly g s (x ∷ spelt) [] = ⊥
AnsweredPlainly g s (Err at ∷ spelt) (one ∷ more) =
    (one ≡ refused_at at) × AnsweredPlainly None s spelt more
AnsweredPlainly g s (Ok stmt ∷ spelt) (one ∷ more) =
    (is_full_now s stmt ≡ false) × AnswersMeant s stmt one
    × AnsweredPlainly (gathered_now g s stmt) (after_now g s stmt) spelt more

-- the words are taken, the input keeps to the limits, neither the source nor a sink fails, the store tells what it holds,
-- gave what was written and failed at no statement, neither memory nor the stash of an index was wanting, and, where tables
-- are saved, neither the keeper failed nor were numbers wanting
pub record IsUnhindered (one : SomeRun) (input : List ℕ) : Type 0 where
  pub takes : TakesWords one.program one.words
  pub left : one.old.left ≡ Some input
  pub limits : KeepsLimits (limit_of one.base.settings) input
  pub source : ¬ Rises one.old.faults.source one.new.faults.source
  pub sinks : ¬ SinksRose one.old.faults one.new.faults
  pub honest : IsHonest one.old.store one.new.store
  pub unfailed : failures_of one ≡ 0
  pub sound : ¬ Rises one.old.store.faults one.new.store.faults
  pub memory : one.report.status ≢ 7
  pub room : one.report.status ≢ 11
  pub keeper : one.base.public.save ≡ true → one.report.status ≢ 10
  pub numbers : ¬ IsUsedUp one.base one.new.store

-- each text of the input is answered as the plain machine answers it from this session on; it printed these answers, it
-- asked what they ask by their meaning, that is what was traced, and the status says whether a text was refused
pub record RunsPlainly (one : SomeRun) (input : List ℕ) (s : Session) : Type 0 where
  pub texts : texts_in true (after_line input) ≡ one.run.story.served
  pub answered : AnsweredPlainly None s one.run.story.spelt one.run.story.answers
  pub seen : seen_by one ≡ meant_seen s one.run.story.spelt
  pub asked : asked_by one
      ≡ one.base.before ++ trace one.base.public (meant_seen s one.run.story.spelt)
  pub printed : Appends one.old.written one.new.written (printed one.run.story.answers)
  pub traced : Appends one.old.traced one.new.traced (traced one.tracing
      (trace one.base.public (meant_seen s one.run.story.spelt)))
  pub status : one.report.status ≡ (if any_refused one.run.story.answers then 1 else 0)
