-- A run whose tables are saved over the generated text, one whose words are not read, and which of them the words ask for.
use Rattle.ob_shell.proofs.Words.{Bool, Config, false, faults_of, FlightSettings, inl, inr, IsFresh, KeeperState, KeptEnded, last_line, LineWritten, List, None, Ok, Option, Outside, outside_of, Plain, Ran, refl, refused_by, Report, Rises, Seed, SinksRose, Some, status_of, StoreState, subst, sym, true, WordsErr, ℕ, [], ◌≡◌}
use Rattle.ob_headline.proofs.StopLemmas.{unbegun_stops}
use Rattle.ob_headline.specs.SavedHeadline.{SavedHeadline}
use Rattle.ob_shell.proofs.CountLemmas.{silenced_kept, silenced_rose}
use Rattle.ob_shell.proofs.GeneratingLemmas.{trace_rose}
use Rattle.ob_shell.proofs.KeptGenLemmas.{may_keep_unread, summarized_by, unkept_line, unread_run, unread_summarized_by, whole_cause}
use Rattle.ob_shell.proofs.SaltedGenLemmas.{salted_unread, salted_unread_summarized}
use Rattle.ob_shell.proofs.SavedHeadLemmas.{saved_headed}
use Rattle.ob_shell.specs.Engaging.{IsHushed}
use Rattle.ob_shell.specs.EngagingSaved.{RanSaved, SavedGenerated}
use Rattle.ob_shell.specs.SavedSummary.{KeepsOrSaves, SavedSummarized}
use Rattle.ob_words.specs.declared.words.WordsErr.TheVariants as Words

-- ---- the run
module _ (config : Config) (flight : Option FlightSettings) (tracing : Bool) (ended : KeptEnded) (old mid : Outside) (k0 k1 : KeeperState) where
  saved_quiet : (SinksRose old.faults mid.faults → Rises old.faults.trace mid.faults.trace) → RanSaved config flight tracing ended old mid k0 k1 → IsHushed ended.quiet old.faults.trace mid.faults.trace
  saved_quiet only (inl ran) = record { rose = λ it. absurd (cc (it, ran.loud)); kept = λ it. ran.silent.1 }
  saved_quiet only (inr (inl ran)) = ran.unserved.quiet
  saved_quiet only (inr (inr ran)) = record {
    rose = λ it. only (silenced_rose ended.quiet old.faults mid.faults ran.silent it);
    kept = silenced_kept ended.quiet old.faults mid.faults ran.silent;
  }

  saved_calm : RanSaved config flight tracing ended old mid k0 k1 → (refused : Bool) → ended.ending ≡ Plain (Ran (Ok refused)) → mid.faults.trace ≡ old.faults.trace
  saved_calm (inl ran) refused is = ran.silent.1
  saved_calm (inr (inl ran)) refused is = absurd (unbegun_stops config ran.secret ended.ending _ _ _ _ _ _ refused ran.unserved.begun is)
  saved_calm (inr (inr ran)) refused is = whole_cause _ ran.result refused ended.ending old.faults mid.faults ran.ending is ran.cause

pub saved_summarized : {Takes : Type 0} {settings : Option Config} {flight : Option FlightSettings} {config : Config} {tracing : Bool} {seed : Seed} {s0 s1 : StoreState} {t0 t1 w0 w1 l : Option (List ℕ)} {gave trace0 trace1 out0 out1 : ℕ} {k0 k1 : KeeperState}
    {report : Report} (source : ℕ)
    → Takes → settings ≡ Some config → s0.asked ≡ [] → SavedGenerated config flight tracing seed t0 t1 s0 s1 trace0 trace1 k0 k1 w0 w1 out0 out1 report
    → SavedSummarized settings flight Takes tracing seed (outside_of l gave w0 t0 s0 (faults_of source out0 trace0)) (outside_of l gave w1 t1 s1 (faults_of source out1 trace1)) k0 k1 report
saved_summarized {settings = settings} {flight = flight} {config = config} {tracing = tracing} {k0 = k0} {k1 = k1} source takes set none g =
    let ended = g.ended in
    summarized_by _ _ _ source ended g.left g.gave
    (saved_headed settings flight config takes set tracing _ _ ended k0 k1 None 0 _ refl refl (λ hush. record { written = refl; faults = refl }) (λ loud. unkept_line ended.ending) none g.ran)
    g.high g.concluded (saved_quiet config flight tracing _ _ _ k0 k1 (trace_rose _ _) g.ran) (saved_calm config flight tracing _ _ _ k0 k1 g.ran)

-- ---- the words were not read
unfoldable saved_unread : {Takes : Type 0} {settings : Option Config} {flight : Option FlightSettings} {tracing : Bool} {s : StoreState} {t w0 w1 l : Option (List ℕ)} {gave source trace out0 out1 : ℕ} {k : KeeperState} {report : Report} (error : WordsErr)
    → IsFresh s → (error ≡ Words.Usage → ¬ Takes) → report.status ≡ status_of (refused_by error) → report.high ≡ 0 → LineWritten (last_line (refused_by error)) w0 w1 out0 out1
    → SavedHeadline settings flight Takes tracing (outside_of l gave w0 t s (faults_of source out0 trace)) (outside_of l gave w1 t s (faults_of source out1 trace)) k k report
saved_unread error blank not status high line = record { ending = Plain (refused_by error); status = status; answers = []; ran = inl (unread_run error blank not status high line) }

saved_unread_summarized : {Takes : Type 0} {settings : Option Config} {flight : Option FlightSettings} {tracing : Bool} {s : StoreState} {t w0 w1 l : Option (List ℕ)} {gave out0 out1 : ℕ} {k : KeeperState} {report : Report} (source trace : ℕ) (seed : Seed) (error : WordsErr)
    → IsFresh s → (error ≡ Words.Usage → ¬ Takes) → report.status ≡ status_of (refused_by error) → report.high ≡ 0 → LineWritten (last_line (refused_by error)) w0 w1 out0 out1
    → SavedSummarized settings flight Takes tracing seed (outside_of l gave w0 t s (faults_of source out0 trace)) (outside_of l gave w1 t s (faults_of source out1 trace)) k k report
unfolding saved_unread
saved_unread_summarized source trace seed error blank not status high line = unread_summarized_by _ _ _ source trace error (saved_unread error blank not refl refl (unkept_line (Plain (refused_by error)))) refl refl status high line

-- ---- whether tables are saved
pub keeps_or_saves : (settings : Option Config) (flight : Option FlightSettings) (Takes : Type 0) (tracing : Bool) (old new : Outside) (k0 k1 : KeeperState) (report : Report) (saves on : Bool) (keeps kept : Bool) (asked seed : Option Seed) → saves ≡ on → keeps ≡ kept → asked ≡ seed
    → KeepsOrSaves on kept seed settings flight Takes tracing old new k0 k1 report → KeepsOrSaves saves keeps asked settings flight Takes tracing old new k0 k1 report
keeps_or_saves settings flight Takes tracing old new k0 k1 report saves on keeps kept asked seed is held same run =
    subst (λ (b : Bool). KeepsOrSaves b keeps asked settings flight Takes tracing old new k0 k1 report) (sym is)
    (subst (λ (b : Bool). KeepsOrSaves on b asked settings flight Takes tracing old new k0 k1 report) (sym held)
    (subst (λ (s : Option Seed). KeepsOrSaves on kept s settings flight Takes tracing old new k0 k1 report) (sym same) run))

pub keeps_or_saves_unread : {Takes : Type 0} {s : StoreState} {w0 w1 : Option (List ℕ)} {out0 out1 : ℕ} {report : Report} (settings : Option Config) (flight : Option FlightSettings) (tracing : Bool) (t l : Option (List ℕ)) (gave source trace : ℕ) (k : KeeperState)
    (saves keeps : Bool) (asked : Option Seed) (error : WordsErr)
    → IsFresh s → (error ≡ Words.Usage → ¬ Takes) → report.status ≡ status_of (refused_by error) → report.high ≡ 0 → LineWritten (last_line (refused_by error)) w0 w1 out0 out1
    → KeepsOrSaves saves keeps asked settings flight Takes tracing (outside_of l gave w0 t s (faults_of source out0 trace)) (outside_of l gave w1 t s (faults_of source out1 trace)) k k report
keeps_or_saves_unread settings flight tracing t l gave source trace k false false None error blank not status high line = salted_unread error blank not status high line
keeps_or_saves_unread settings flight tracing t l gave source trace k false false (Some seed) error blank not status high line = salted_unread_summarized source trace seed error blank not status high line
keeps_or_saves_unread settings flight tracing t l gave source trace k false true asked error blank not status high line = may_keep_unread settings flight tracing t l gave source trace k true asked error blank not status high line
keeps_or_saves_unread settings flight tracing t l gave source trace k true keeps None error blank not status high line = saved_unread error blank not status high line
keeps_or_saves_unread settings flight tracing t l gave source trace k true keeps (Some seed) error blank not status high line = saved_unread_summarized source trace seed error blank not status high line
