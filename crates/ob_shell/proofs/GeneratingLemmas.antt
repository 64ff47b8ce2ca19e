-- What a run over the generated text promises.
use Rattle.ob_shell.proofs.Words.{Access, ap, Appends, Appends-nil, arith, BadKey, Base, Bool, Config, empty_tally, Ending, Err, false, Faults, faults_of, FlightSettings, flying, fresh, inl, inr, IsFresh, keys_in, KeySet, last_line, LineWritten, List, None, Ok, Option, OutFailed, Outputs, Outputs-whole, outside_of, Ran, refl, refused_by, Report, Rises, Seed, ServesAlone, SinksRose, Some, status_of, StoreState, subst, sym, Tally, Traced, true, Usage, WordsErr, ℕ, [], ⊤, ◌∙◌, ◌≡◌, ◌≢◌, ◌≤◌}
use Rattle.std.specs.Prelude.{option_and_then}
use Rattle.clap.specs.Words.{App, Text}
use Rattle.ob_gen.specs.Generated.{generated}
use Rattle.ob_headline.specs.Settings.{generated_by}
use Rattle.ob_shell.proofs.CloseLemmas.{reported_taken, words_cause, words_end, words_shown}
use Rattle.ob_shell.proofs.CompleteLemmas.{completes}
use Rattle.ob_shell.proofs.HeadLemmas.{headlined}
use Rattle.ob_shell.proofs.TopLemmas.{loses_as, shown_line, status_cause}
use Rattle.ob_shell.proofs.TraceLemmas.{traced_none, traced_whole}
use Rattle.ob_shell.specs.Generating.{RanGenerated, ClosedBy, ConcludedBy, Concludes, StatusIs, Summarized, asked_for, conclusion}
use Rattle.ob_shell.specs.Top.{EndingCause, EndingWords, Reported, RunShown, StatusCause, TraceSink, sink_of}
use Rattle.ob_words.specs.declared.words.WordsErr.TheVariants as Words

-- ---- what was written
-- bytes that were cut by a fault of the one sink
pub cut_rose : {w0 w1 : Option (List ℕ)} {F G : Type 0} (bytes : List ℕ) → (F → G) → Outputs w0 w1 F bytes → Outputs w0 w1 G bytes
cut_rose bytes rose c = record { grown = c.grown; appends = c.appends; prefix = c.prefix; all = elim c.all [ inl whole ↦ inl whole | inr fault ↦ inr (rose fault) ] }

-- nothing, of a line, after another fault
pub nothing_written : {w0 w1 : Option (List ℕ)} {G : Type 0} (bytes : List ℕ) → w1 ≡ w0 → G → Outputs w0 w1 G bytes
nothing_written {w0 = w0} {G = G} bytes same g =
    subst (λ (w : Option (List ℕ)). Outputs w0 w G bytes) (sym same) (record { grown = []; appends = Appends-nil w0; prefix = record { lost = bytes; whole = refl }; all = inr g })

module _ (tally : Tally) (asked : List Access) (w0 w1 : Option (List ℕ)) (trace0 trace1 out0 out1 : ℕ) (report : Report) where
  abbrev before : Faults
  before = faults_of 0 out0 trace0

  abbrev after : Faults
  after = faults_of 0 out1 trace1

  closed_grew : (ending : Ending) (quiet : Bool) → ClosedBy ending quiet w0 w1 out0 out1 report.status → (quiet ≡ true → Rises trace0 trace1) → Outputs w0 w1 (SinksRose before after) (last_line ending)
  closed_grew ending true closed rose = nothing_written (last_line ending) (closed.silent refl).written (inr (rose refl))
  closed_grew ending false closed rose = cut_rose (last_line ending) (λ r. inl r) (closed.line refl).cut

  closed_later : (ending : Ending) (quiet : Bool) → ClosedBy ending quiet w0 w1 out0 out1 report.status → out0 ≤ out1
  closed_later ending true closed = let same = (closed.silent refl).faults in omega (arith, same)
  closed_later ending false closed = (closed.line refl).later

  closed_silent : (ending : Ending) (quiet : Bool) → ClosedBy ending quiet w0 w1 out0 out1 report.status → (quiet ≡ false → trace1 ≡ trace0) → trace1 ≢ trace0 → w1 ≡ w0
  closed_silent ending true closed kept other = (closed.silent refl).written
  closed_silent ending false closed kept other = absurd (other (kept refl))

  closed_by : (ending : Ending) (quiet : Bool) → ClosedBy ending quiet w0 w1 out0 out1 report.status → (quiet ≡ true → Rises trace0 trace1) → (quiet ≡ false → trace1 ≡ trace0)
      → StatusIs ending report.status (Appends w0 w1 (conclusion ending tally asked) × (out1 ≡ out0)) (Rises out0 out1) → conclusion ending tally asked ≡ last_line ending
      → Concludes ending tally asked report.high w0 w1 before after report
  closed_by ending quiet by rose kept told line = record {
    grew = subst (λ (l : List ℕ). Outputs w0 w1 (SinksRose before after) l) (sym line) (closed_grew ending quiet by rose);
    silent = closed_silent ending quiet by kept;
    status = told;
    later = closed_later ending quiet by;
    high = refl;
  }

  pub concludes_by : (ending : Ending) (quiet : Bool) → ConcludedBy ending quiet tally asked w0 w1 out0 out1 report.status → (quiet ≡ true → Rises trace0 trace1) → (quiet ≡ false → trace1 ≡ trace0)
      → (Alone : Type 0) → EndingCause Alone ending (faults_of 0 0 trace0) (faults_of 0 0 trace1) → Concludes ending tally asked report.high w0 w1 before after report
  concludes_by Usage quiet by rose kept Alone cause = closed_by Usage quiet by rose kept by.told refl
  concludes_by BadKey quiet by rose kept Alone cause = closed_by BadKey quiet by rose kept by.told refl
  concludes_by (Ran (Ok refused)) quiet by rose kept Alone cause = record {
    grew = cut_rose _ (λ r. inl r) by.cut;
    silent = λ other. absurd (other cause.trace);
    status = elim by.told [ inl whole ↦ inl (whole.0, (whole.1, whole.2)) | inr cut ↦ inr cut ];
    later = by.later;
    high = refl;
  }
  concludes_by (Ran (Err stop)) quiet by rose kept Alone cause = closed_by (Ran (Err stop)) quiet by rose kept by.told refl

pub concludes_at : {ending : Ending} {tally : Tally} {asked : List Access} {w0 w1 : Option (List ℕ)} {old new : Faults} {report : Report} (rows : ℕ)
    → report.high ≡ rows → Concludes ending tally asked report.high w0 w1 old new report → Concludes ending tally asked rows w0 w1 old new report
concludes_at rows is c = record { grew = c.grew; silent = c.silent; status = c.status; later = c.later; high = is }

-- the source has no part in it
pub with_source : {ending : Ending} {tally : Tally} {asked : List Access} {rows : ℕ} {w0 w1 : Option (List ℕ)} {trace0 trace1 out0 out1 : ℕ} {report : Report} (source : ℕ)
    → Concludes ending tally asked rows w0 w1 (faults_of 0 out0 trace0) (faults_of 0 out1 trace1) report
    → Concludes ending tally asked rows w0 w1 (faults_of source out0 trace0) (faults_of source out1 trace1) report
with_source source c = record { grew = c.grew; silent = c.silent; status = c.status; later = c.later; high = c.high }

-- ---- the run, whose answers are kept nowhere
unfoldable unkept : {Lost : Type 0} {tally : Tally} {tr : TraceSink} {Takes : Type 0} {base : Base} {keys : List ℕ → KeySet} {gave : ℕ} {l0 l1 : Option (List ℕ)} {s0 s1 : StoreState} (ending : Ending) (high : ℕ) (old new : Faults)
    → EndingWords ending Takes → RunShown tally tr base keys l0 l1 gave None None s0 s1 high ending [] Lost → EndingCause (ServesAlone base.flight base.public) ending old new → (Lost → Rises old.out new.out)
    → Reported tally tr Takes base keys l0 l1 gave None None s0 s1 old new (record { status = status_of ending; high = high })
unfolding shown_line
unkept {base = base} ending high old new takes shown cause rose =
    let causes : StatusCause (ServesAlone base.flight base.public) ending old new = status_cause (ServesAlone base.flight base.public) ending old new new cause (omega arith) refl refl (λ e. refl) in
    record {
      ending = ending;
      status = refl;
      takes = takes;
      shown = shown_line [] shown tt (Outputs-whole None None (SinksRose old new) _ tt) (λ lost. inl (rose lost));
      through = inl (record { after = []; appends = tt });
      answered = loses_as rose shown.answered;
      silent = λ rose. Outputs-whole None None (Unit {0}) _ tt;
      cause = causes;
      completes = λ t input e k a b. completes old new input shown takes causes t e k a b;
    }

pub ran_generated : {quiet : Bool} {tally : Tally} {tracing : Bool} {settings : Option Config} {flight : Option FlightSettings} {t0 t1 : Option (List ℕ)} {s0 s1 : StoreState} {gave : ℕ} {w0 w1 : Option (List ℕ)}
    (seed : Seed) (left : List ℕ) (ending : Ending) (high trace0 trace1 out0 out1 : ℕ) (report : Report)
    → EndingWords ending ⊤
    → RunShown tally (sink_of tracing t0 t1) (flying flight (fresh settings)) keys_in (Some (generated seed.start seed.rows)) (Some left) gave None None s0 s1 high ending [] (OutFailed quiet 0 0)
    → EndingCause (ServesAlone flight (fresh settings).public) ending (faults_of 0 0 trace0) (faults_of 0 0 trace1)
    → Traced tracing s0.asked s1.asked t0 t1 (SinksRose (faults_of 0 0 trace0) (faults_of 0 0 trace1))
    → Concludes ending tally s1.asked high w0 w1 (faults_of 0 out0 trace0) (faults_of 0 out1 trace1) report
    → RanGenerated seed tracing settings flight t0 t1 s0 s1 trace0 trace1 w0 w1 out0 out1 report
unfolding unkept
ran_generated {tally = tally} {gave = gave} seed left ending high trace0 trace1 out0 out1 report takes shown cause traces concludes = record {
  run = record { status = status_of ending; high = high };
  left = left;
  gave = gave;
  tally = tally;
  reported = unkept ending high (faults_of 0 0 trace0) (faults_of 0 0 trace1) takes shown cause (λ lost. lost.1);
  traces = traces;
  concludes = concludes;
}

-- ---- by the words
pub summarized : {Takes : Type 0} {settings asked : Option Config} {flight : Option FlightSettings} {tracing : Bool} {seed : Seed} {s0 s1 : StoreState} {t0 t1 w0 w1 l : Option (List ℕ)} {gave trace0 trace1 out0 out1 : ℕ} {report : Report} (source : ℕ)
    → Takes → settings ≡ asked → s0.asked ≡ [] → RanGenerated seed tracing asked flight t0 t1 s0 s1 trace0 trace1 w0 w1 out0 out1 report
    → Summarized Takes settings flight tracing seed (outside_of l gave w0 t0 s0 (faults_of source out0 trace0)) (outside_of l gave w1 t1 s1 (faults_of source out1 trace1)) report
unfolding headlined reported_taken
summarized {Takes = Takes} {settings = settings} {flight = flight} {tracing = tracing} source takes is none a =
    let r = reported_taken takes is a.reported in
    record {
      unread = record { left = refl; gave = refl; source = refl };
      run = a.run;
      left = a.left;
      gave = a.gave;
      headline = headlined Takes (flying flight (fresh settings)) tracing _ _ a.run none r a.traces;
      tally = a.tally;
      counted = r.shown.counted;
      concludes = with_source source a.concludes;
    }

-- the words were not read
unread_closed : (tally : Tally) (asked : List Access) (error : WordsErr) {w0 w1 : Option (List ℕ)} {f0 f1 status : ℕ} → ClosedBy (refused_by error) false w0 w1 f0 f1 status
    → ConcludedBy (refused_by error) false tally asked w0 w1 f0 f1 status
unread_closed tally asked Words.Usage closed = closed
unread_closed tally asked Words.NoMemory closed = closed

pub unread_summarized : {Takes : Type 0} {settings : Option Config} {flight : Option FlightSettings} {tracing : Bool} {s : StoreState} {t w0 w1 l : Option (List ℕ)} {gave out0 out1 : ℕ} {report : Report} (source trace : ℕ) (seed : Seed) (error : WordsErr)
    → IsFresh s → (error ≡ Words.Usage → ¬ Takes) → report.status ≡ status_of (refused_by error) → report.high ≡ 0 → LineWritten (last_line (refused_by error)) w0 w1 out0 out1
    → Summarized Takes settings flight tracing seed (outside_of l gave w0 t s (faults_of source out0 trace)) (outside_of l gave w1 t s (faults_of source out1 trace)) report
unfolding headlined unkept
unread_summarized {Takes = Takes} {settings = settings} {flight = flight} {tracing = tracing} {s = s} {t = t} {w0 = w0} {w1 = w1} {out0 = out0} {out1 = out1} {report = report} source trace seed error blank not status high line =
    let ending = refused_by error in
    let faults : Faults = faults_of 0 0 trace in
    let shown = words_shown {F = ⊥} {keys = keys_in} empty_tally (sink_of tracing t t) settings flight error (Some (generated seed.start seed.rows)) 0 None s blank refl in
    let r = unkept ending 0 faults faults (words_end error not) shown (words_cause _ error faults) (λ never. absurd never) in
    let closed : ClosedBy ending false w0 w1 out0 out1 report.status = record { told = status; silent = λ loud. absurd (cc loud); line = λ loud. line } in
    record {
      unread = record { left = refl; gave = refl; source = refl };
      run = record { status = status_of ending; high = 0 };
      left = generated seed.start seed.rows;
      gave = 0;
      headline = headlined Takes (flying flight (fresh settings)) tracing _ _ _ blank.unasked r (traced_whole _ (traced_none tracing s.asked t));
      tally = empty_tally;
      counted = r.shown.counted;
      concludes = with_source source (concludes_at 0 high
          (concludes_by empty_tally s.asked w0 w1 trace trace out0 out1 report ending false (unread_closed empty_tally s.asked error closed) (λ loud. absurd (cc loud)) (λ loud. refl) (Unit {0}) (words_cause (Unit {0}) error faults)));
    }

-- ---- faults
-- of the two sinks it is the trace's
pub trace_rose : (trace0 trace1 : ℕ) → SinksRose (faults_of 0 0 trace0) (faults_of 0 0 trace1) → Rises trace0 trace1
trace_rose trace0 trace1 rose = elim rose [ inl none ↦ absurd (omega (arith, none)) | inr trace ↦ trace ]

pub traced_by_fault : {tracing : Bool} {a0 a1 : List Access} {t0 t1 : Option (List ℕ)} {F G : Type 0} → (F → G) → Traced tracing a0 a1 t0 t1 F → Traced tracing a0 a1 t0 t1 G
traced_by_fault rose traced = record { seen = traced.seen; grew = traced.grew; cut = cut_rose _ rose traced.cut }

-- ---- which text is asked for
pub asked_is : (app : App) (words : List Text) {value wanted : Option Seed} → generated_by app words ≡ Some value → value ≡ wanted → asked_for app words ≡ wanted
asked_is app words is same = ap (λ (o : Option (Option Seed)). option_and_then (λ (s : Option Seed). s) o) is ∙ same

pub seed_is : (app : App) (words : List Text) {value : Option Seed} {found seed : Seed} → generated_by app words ≡ Some value → value ≡ Some found → asked_for app words ≡ Some seed → seed ≡ found
seed_is app words {found = found} {seed = seed} is same asked = let both : ◌≡◌ {A = Option Seed} (Some seed) (Some found) = sym asked ∙ asked_is app words is same in cc
