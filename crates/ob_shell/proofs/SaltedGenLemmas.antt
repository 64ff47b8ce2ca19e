-- A run that neither keeps nor saves its tables, over the generated text, and one whose words are not read.
use Rattle.ob_shell.proofs.Words.{ap, Bool, Config, Faults, faults_of, FlightSettings, inl, inr, IsFresh, KeeperState, KeptEnded, last_line, LineWritten, List, None, Ok, Option, Outside, outside_of, Plain, Ran, refl, refused_by, Report, Rises, Seed, SinksRose, Some, status_of, StoreState, WordsErr, ℕ, [], ◌≡◌}
use Rattle.ob_headline.specs.SaltedHeadline.{SaltedHeadline}
use Rattle.ob_shell.proofs.CountLemmas.{silenced_kept, silenced_rose}
use Rattle.ob_shell.proofs.GeneratingLemmas.{trace_rose}
use Rattle.ob_shell.proofs.KeptGenLemmas.{summarized_by, unkept_line, unread_run, unread_summarized_by, whole_cause}
use Rattle.ob_shell.proofs.SaltedHeadLemmas.{salted_headed}
use Rattle.ob_shell.specs.Engaging.{IsHushed}
use Rattle.ob_shell.specs.Salting.{RanSalted, SaltedGenerated}
use Rattle.ob_shell.specs.SavedSummary.{SaltedSummarized}
use Rattle.ob_words.specs.declared.words.WordsErr.TheVariants as Words

-- ---- the run
module _ (config : Config) (flight : Option FlightSettings) (tracing : Bool) (ended : KeptEnded) (old mid : Outside) (k0 k1 : KeeperState) where
  salted_quiet : (SinksRose old.faults mid.faults → Rises old.faults.trace mid.faults.trace) → RanSalted config flight tracing ended old mid k0 k1 → IsHushed ended.quiet old.faults.trace mid.faults.trace
  salted_quiet only (inl ran) = record { rose = λ it. absurd (cc (it, ran.loud)); kept = λ it. ran.silent.1 }
  salted_quiet only (inr (inl ran)) = let loud = ran.loud in record { rose = λ it. absurd (cc (it, loud)); kept = λ it. ap (λ (f : Faults). f.trace) ran.faults }
  salted_quiet only (inr (inr ran)) = record {
    rose = λ it. only (silenced_rose ended.quiet old.faults mid.faults ran.silent it);
    kept = silenced_kept ended.quiet old.faults mid.faults ran.silent;
  }

  salted_calm : RanSalted config flight tracing ended old mid k0 k1 → (refused : Bool) → ended.ending ≡ Plain (Ran (Ok refused)) → mid.faults.trace ≡ old.faults.trace
  salted_calm (inl ran) refused is = ran.silent.1
  salted_calm (inr (inl ran)) refused is = ap (λ (f : Faults). f.trace) ran.faults
  salted_calm (inr (inr ran)) refused is = whole_cause _ ran.result refused ended.ending old.faults mid.faults ran.ending is ran.cause

pub salted_summarized : {Takes : Type 0} {settings : Option Config} {flight : Option FlightSettings} {config : Config} {tracing : Bool} {seed : Seed} {s0 s1 : StoreState} {t0 t1 w0 w1 l : Option (List ℕ)} {gave trace0 trace1 out0 out1 : ℕ} {k0 k1 : KeeperState}
    {report : Report} (source : ℕ)
    → Takes → settings ≡ Some config → s0.asked ≡ [] → SaltedGenerated config flight tracing seed t0 t1 s0 s1 trace0 trace1 k0 k1 w0 w1 out0 out1 report
    → SaltedSummarized settings flight Takes tracing seed (outside_of l gave w0 t0 s0 (faults_of source out0 trace0)) (outside_of l gave w1 t1 s1 (faults_of source out1 trace1)) k0 k1 report
salted_summarized {settings = settings} {flight = flight} {config = config} {tracing = tracing} {k0 = k0} {k1 = k1} source takes set none g =
    let ended = g.ended in
    summarized_by _ _ _ source ended g.left g.gave
    (salted_headed settings flight config takes set tracing _ _ ended k0 k1 None 0 _ refl refl (λ hush. record { written = refl; faults = refl }) (λ loud. unkept_line ended.ending) none g.ran)
    g.high g.concluded (salted_quiet config flight tracing _ _ _ k0 k1 (trace_rose _ _) g.ran) (salted_calm config flight tracing _ _ _ k0 k1 g.ran)

-- ---- the words were not read
unfoldable pub salted_unread : {Takes : Type 0} {settings : Option Config} {flight : Option FlightSettings} {tracing : Bool} {s : StoreState} {t w0 w1 l : Option (List ℕ)} {gave source trace out0 out1 : ℕ} {k : KeeperState} {report : Report} (error : WordsErr)
    → IsFresh s → (error ≡ Words.Usage → ¬ Takes) → report.status ≡ status_of (refused_by error) → report.high ≡ 0 → LineWritten (last_line (refused_by error)) w0 w1 out0 out1
    → SaltedHeadline settings flight Takes tracing (outside_of l gave w0 t s (faults_of source out0 trace)) (outside_of l gave w1 t s (faults_of source out1 trace)) k k report
salted_unread error blank not status high line = record { ending = Plain (refused_by error); status = status; answers = []; ran = inl (unread_run error blank not status high line) }

pub salted_unread_summarized : {Takes : Type 0} {settings : Option Config} {flight : Option FlightSettings} {tracing : Bool} {s : StoreState} {t w0 w1 l : Option (List ℕ)} {gave out0 out1 : ℕ} {k : KeeperState} {report : Report} (source trace : ℕ) (seed : Seed) (error : WordsErr)
    → IsFresh s → (error ≡ Words.Usage → ¬ Takes) → report.status ≡ status_of (refused_by error) → report.high ≡ 0 → LineWritten (last_line (refused_by error)) w0 w1 out0 out1
    → SaltedSummarized settings flight Takes tracing seed (outside_of l gave w0 t s (faults_of source out0 trace)) (outside_of l gave w1 t s (faults_of source out1 trace)) k k report
unfolding salted_unread
salted_unread_summarized source trace seed error blank not status high line = unread_summarized_by _ _ _ source trace error (salted_unread error blank not refl refl (unkept_line (Plain (refused_by error)))) refl refl status high line
