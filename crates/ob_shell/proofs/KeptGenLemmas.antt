-- A run whose tables are kept over the generated text, and one whose words are not read.
use Rattle.ob_shell.proofs.Words.{Access, Answer, Appends, arith, BadKey, Bool, Config, empty_tally, Err, false, Faults, faults_of, FlightSettings, flying, fresh, inl, inr, IsFresh, KeeperState, KeptEnded, KeptEnding, KeptTally, keys_in, last_line, LineWritten, List, None, Ok, Option, Outputs, Outputs-whole, Outside, outside_of, Plain, Ran, refl, refused_by, Report, Result, Rises, Seed, SinksRose, Some, status_of, Stop, StopCause, StoreState, subst, sym, Tally, true, Usage, WordsErr, ℕ, [], ◌≡◌, ◌≢◌, ◌≤◌}
use Rattle.ob_gen.specs.Generated.{generated}
use Rattle.ob_headline.proofs.StopLemmas.{begun_stops}
use Rattle.ob_headline.specs.Keeping.{kept_line, kept_status}
use Rattle.ob_headline.specs.KeptHeadline.{EndsUnkeyed, KeptHeadline, Unkeyed}
use Rattle.ob_headline.specs.declared.ending.KeptEnding.TheVariants.{OtherPack, OtherKey, Saved, NoMark, NotClosed as LeftOpen, KeeperFault, StoreFault}
use Rattle.ob_shell.proofs.CloseLemmas.{reported_words, words_cause, words_end, words_none, words_shown}
use Rattle.ob_shell.proofs.CompleteLemmas.{reported_line}
use Rattle.ob_shell.proofs.CountLemmas.{silenced_kept, silenced_rose}
use Rattle.ob_shell.proofs.GeneratingLemmas.{cut_rose, nothing_written, trace_rose, unread_summarized}
use Rattle.ob_shell.proofs.HeadLemmas.{headlined}
use Rattle.ob_shell.proofs.KeptLemmas.{HeadTold, ends_whole, kept_headed}
use Rattle.ob_shell.proofs.TopLemmas.{shown_line}
use Rattle.ob_shell.proofs.TraceLemmas.{traced_none, traced_whole}
use Rattle.ob_shell.specs.Engaging.{IsHushed, KeptClosedBy, KeptConcludedBy, KeptGenerated, RanKept}
use Rattle.ob_shell.specs.KeptSummary.{KeptConcludes, KeptStatusIs, KeptSummarized, MayKeep, SummarizedBy, kept_conclusion}
use Rattle.ob_shell.specs.Top.{Reported, RunShown, sink_of}
use Rattle.ob_words.specs.declared.words.WordsErr.TheVariants as Words

-- ---- what was written
module _ (tally : Tally) (asked : List Access) (w0 w1 : Option (List ℕ)) (source trace0 trace1 out0 out1 : ℕ) (report : Report) where
  abbrev before : Faults
  before = faults_of source out0 trace0

  abbrev after : Faults
  after = faults_of source out1 trace1

  line_grew : (ending : KeptEnding) (quiet : Bool) → KeptClosedBy ending quiet w0 w1 out0 out1 report.status → IsHushed quiet trace0 trace1 → Outputs w0 w1 (SinksRose before after) (kept_line ending)
  line_grew ending true by hush = nothing_written (kept_line ending) (by.silent refl).written (inr (hush.rose refl))
  line_grew ending false by hush = cut_rose (kept_line ending) (λ r. inl r) (by.line refl).cut

  line_later : (ending : KeptEnding) (quiet : Bool) → KeptClosedBy ending quiet w0 w1 out0 out1 report.status → out0 ≤ out1
  line_later ending true by = let same = (by.silent refl).faults in omega (arith, same)
  line_later ending false by = (by.line refl).later

  line_silent : (ending : KeptEnding) (quiet : Bool) → KeptClosedBy ending quiet w0 w1 out0 out1 report.status → IsHushed quiet trace0 trace1 → trace1 ≢ trace0 → w1 ≡ w0
  line_silent ending true by hush other = (by.silent refl).written
  line_silent ending false by hush other = absurd (other (hush.kept refl))

  line_concludes : (ending : KeptEnding) (quiet : Bool) → KeptClosedBy ending quiet w0 w1 out0 out1 report.status → IsHushed quiet trace0 trace1
      → KeptStatusIs ending report.status (Appends w0 w1 (kept_conclusion ending tally asked) × (out1 ≡ out0)) (Rises out0 out1) → kept_conclusion ending tally asked ≡ kept_line ending
      → KeptConcludes ending tally asked report.high w0 w1 before after report
  line_concludes ending quiet by hush told line = record {
    grew = subst (λ (l : List ℕ). Outputs w0 w1 (SinksRose before after) l) (sym line) (line_grew ending quiet by hush);
    silent = line_silent ending quiet by hush;
    status = told;
    later = line_later ending quiet by;
    high = refl;
  }

  pub kept_concludes : (ending : KeptEnding) (quiet : Bool) → KeptConcludedBy ending quiet tally asked w0 w1 out0 out1 report.status → IsHushed quiet trace0 trace1 → ((refused : Bool) → ending ≡ Plain (Ran (Ok refused)) → trace1 ≡ trace0)
      → KeptConcludes ending tally asked report.high w0 w1 before after report
  kept_concludes (Plain Usage) quiet by hush calm = line_concludes (Plain Usage) quiet by hush by.told refl
  kept_concludes (Plain BadKey) quiet by hush calm = line_concludes (Plain BadKey) quiet by hush by.told refl
  kept_concludes (Plain (Ran (Ok refused))) quiet by hush calm = record {
    grew = cut_rose _ (λ r. inl r) by.cut;
    silent = λ other. absurd (other (calm refused refl));
    status = elim by.told [ inl whole ↦ inl (whole.0, (whole.1, whole.2)) | inr cut ↦ inr cut ];
    later = by.later;
    high = refl;
  }
  kept_concludes (Plain (Ran (Err stop))) quiet by hush calm = line_concludes (Plain (Ran (Err stop))) quiet by hush by.told refl
  kept_concludes OtherPack quiet by hush calm = line_concludes OtherPack quiet by hush by.told refl
  kept_concludes OtherKey quiet by hush calm = line_concludes OtherKey quiet by hush by.told refl
  kept_concludes Saved quiet by hush calm = line_concludes Saved quiet by hush by.told refl
  kept_concludes NoMark quiet by hush calm = line_concludes NoMark quiet by hush by.told refl
  kept_concludes StoreFault quiet by hush calm = line_concludes StoreFault quiet by hush by.told refl
  kept_concludes LeftOpen quiet by hush calm = line_concludes LeftOpen quiet by hush by.told refl
  kept_concludes KeeperFault quiet by hush calm = line_concludes KeeperFault quiet by hush by.told refl

-- of another report that tells of as many rows
pub concluded_at : {ending : KeptEnding} {tally : Tally} {asked : List Access} {w0 w1 : Option (List ℕ)} {old new : Faults} {report : Report} (rows : ℕ)
    → report.high ≡ rows → KeptConcludes ending tally asked report.high w0 w1 old new report → KeptConcludes ending tally asked rows w0 w1 old new report
concluded_at rows is c = record { grew = c.grew; silent = c.silent; status = c.status; later = c.later; high = is }

-- ---- a run over the generated text, by its headline
-- the line of one of which nothing is kept
pub unkept_line : (ending : KeptEnding) → LineWritten (kept_line ending) None None 0 0
unkept_line ending = record { cut = Outputs-whole None None (Rises 0 0) (kept_line ending) tt; later = omega arith; empty = λ e. refl }

module _ (Head : (old new : Outside) → Report → Type 0) (ending_of : (old new : Outside) (report : Report) → Head old new report → KeptEnding) (answers_of : (old new : Outside) (report : Report) → Head old new report → List Answer) where
  pub summarized_by : {seed : Seed} {s0 s1 : StoreState} {t0 t1 w0 w1 l : Option (List ℕ)} {gave trace0 trace1 out0 out1 : ℕ} {report : Report} (source : ℕ) (ended : KeptEnded) (left : List ℕ) (given : ℕ)
      → HeadTold (Head (outside_of (Some (generated seed.start seed.rows)) 0 None t0 s0 (faults_of 0 0 trace0)) (outside_of (Some left) given None t1 s1 (faults_of 0 0 trace1)) (record { status = kept_status ended.ending; high = ended.high })) (ending_of _ _ _) (answers_of _ _ _) ended
      → report.high ≡ ended.high → KeptConcludedBy ended.ending ended.quiet ended.tally s1.asked w0 w1 out0 out1 report.status → IsHushed ended.quiet trace0 trace1 → ((refused : Bool) → ended.ending ≡ Plain (Ran (Ok refused)) → trace1 ≡ trace0)
      → SummarizedBy Head ending_of answers_of seed (outside_of l gave w0 t0 s0 (faults_of source out0 trace0)) (outside_of l gave w1 t1 s1 (faults_of source out1 trace1)) report
  summarized_by {s1 = s1} {w0 = w0} {w1 = w1} {trace0 = trace0} {trace1 = trace1} {out0 = out0} {out1 = out1} {report = report} source ended left given told high concluded hush calm = record {
    unread = record { left = refl; gave = refl; source = refl };
    run = record { status = kept_status ended.ending; high = ended.high };
    left = left;
    gave = given;
    headline = told.head;
    tally = ended.tally;
    counted = subst (λ (e : KeptEnding). KeptTally e (answers_of _ _ _ told.head) ended.tally) (sym told.ending) told.counted;
    concludes = subst (λ (e : KeptEnding). KeptConcludes e ended.tally s1.asked ended.high w0 w1 (faults_of source out0 trace0) (faults_of source out1 trace1) report) (sym told.ending)
        (concluded_at ended.high high (kept_concludes ended.tally s1.asked w0 w1 source trace0 trace1 out0 out1 report ended.ending ended.quiet concluded hush calm));
  }

-- ---- the run
module _ (config : Config) (flight : Option FlightSettings) (tracing : Bool) (ended : KeptEnded) (old mid : Outside) (k0 k1 : KeeperState) where
  kept_quiet : (SinksRose old.faults mid.faults → Rises old.faults.trace mid.faults.trace) → RanKept config flight tracing ended old mid k0 k1 → IsHushed ended.quiet old.faults.trace mid.faults.trace
  kept_quiet only (inl ran) = record { rose = λ it. absurd (cc (it, ran.loud)); kept = λ it. ran.silent.1 }
  kept_quiet only (inr (inl ran)) = ran.unserved.quiet
  kept_quiet only (inr (inr (inl ran))) = record {
    rose = λ it. only (silenced_rose ended.quiet old.faults mid.faults ran.silent it);
    kept = silenced_kept ended.quiet old.faults mid.faults ran.silent;
  }
  kept_quiet only (inr (inr (inr ran))) = ran.closed.quiet

  kept_calm : RanKept config flight tracing ended old mid k0 k1 → (refused : Bool) → ended.ending ≡ Plain (Ran (Ok refused)) → mid.faults.trace ≡ old.faults.trace
  kept_calm (inl ran) refused is = ran.silent.1
  kept_calm (inr (inl ran)) refused is = absurd (begun_stops config _ ended.ending _ _ _ _ _ _ refused ran.unserved.begun is)
  kept_calm (inr (inr (inl ran))) refused is = absurd (cc (ran.ending, is))
  kept_calm (inr (inr (inr ran))) refused is = (ends_whole ran.closed.tables.closes.result _ _ _ _ _ _ refused ran.closed.tables.closes.ends is).1

pub kept_summarized : {Takes : Type 0} {settings : Option Config} {flight : Option FlightSettings} {config : Config} {tracing : Bool} {seed : Seed} {s0 s1 : StoreState} {t0 t1 w0 w1 l : Option (List ℕ)} {gave trace0 trace1 out0 out1 : ℕ} {k0 k1 : KeeperState}
    {report : Report} (source : ℕ)
    → Takes → settings ≡ Some config → s0.asked ≡ [] → KeptGenerated config flight tracing seed t0 t1 s0 s1 trace0 trace1 k0 k1 w0 w1 out0 out1 report
    → KeptSummarized settings flight Takes tracing seed (outside_of l gave w0 t0 s0 (faults_of source out0 trace0)) (outside_of l gave w1 t1 s1 (faults_of source out1 trace1)) k0 k1 report
kept_summarized {settings = settings} {flight = flight} {config = config} {tracing = tracing} {k0 = k0} {k1 = k1} source takes set none g =
    let ended = g.ended in
    summarized_by _ _ _ source ended g.left g.gave
    (kept_headed settings flight config takes set tracing _ _ ended k0 k1 None 0 _ refl refl (λ hush. record { written = refl; faults = refl }) (λ loud. unkept_line ended.ending) none g.ran)
    g.high g.concluded (kept_quiet config flight tracing _ _ _ k0 k1 (trace_rose _ _) g.ran) (kept_calm config flight tracing _ _ _ k0 k1 g.ran)

-- nothing failed of one that came to its end
pub whole_cause : (Alone : Type 0) (result : Result Bool Stop) (refused : Bool) (ending : KeptEnding) (old new : Faults) → ending ≡ Plain (Ran result) → ending ≡ Plain (Ran (Ok refused)) → StopCause Alone old new result → new.trace ≡ old.trace
whole_cause Alone result refused ending old new is whole cause =
    let same : result ≡ Ok refused = cc (is, whole) in
    (subst (λ (r : Result Bool Stop). StopCause Alone old new r) same cause).trace

-- ---- the words were not read
pub unkeyed_words : (error : WordsErr) (taken : List ℕ) → taken ≡ [] → EndsUnkeyed (refused_by error) taken
unkeyed_words Words.Usage taken none = tt
unkeyed_words Words.NoMemory taken none = none

unfoldable pub unread_run : {Takes : Type 0} {settings : Option Config} {flight : Option FlightSettings} {tracing : Bool} {s : StoreState} {t w0 w1 l : Option (List ℕ)} {gave source trace out0 out1 : ℕ} {k : KeeperState} {report : Report} (error : WordsErr)
    → IsFresh s → (error ≡ Words.Usage → ¬ Takes) → report.status ≡ status_of (refused_by error) → report.high ≡ 0 → LineWritten (last_line (refused_by error)) w0 w1 out0 out1
    → Unkeyed settings flight Takes tracing (outside_of l gave w0 t s (faults_of source out0 trace)) (outside_of l gave w1 t s (faults_of source out1 trace)) k k (Plain (refused_by error)) [] report
unfolding headlined reported_line shown_line
unread_run {Takes = Takes} {settings = settings} {flight = flight} {tracing = tracing} {s = s} {t = t} {w0 = w0} {w1 = w1} {l = l} {gave = gave} {source = source} {trace = trace} {out0 = out0} {out1 = out1} {report = report} error blank not status high line =
    let ending = refused_by error in
    let tr = sink_of tracing t t in
    let old : Faults = faults_of source out0 trace in
    let new : Faults = faults_of source out1 trace in
    let shown = subst (λ (n : ℕ). (x : RunShown empty_tally tr (flying flight (fresh settings)) keys_in l l gave w0 w0 s s n ending [] ⊥) × (x.taken ≡ [])) (sym high)
    (words_shown empty_tally tr settings flight error l gave w0 s blank refl, words_none ⊥ keys_in empty_tally tr settings flight error l gave w0 s blank refl) in
    let r : Reported empty_tally tr Takes (flying flight (fresh settings)) keys_in l l gave w0 w1 s s old new report =
    reported_line ending old old new status (words_end error not) shown.0 (λ never. never) (words_cause _ error old) line.cut (λ rises. rises) line.empty line.later refl refl refl in
    record {
      headline = headlined Takes (flying flight (fresh settings)) tracing (outside_of l gave w0 t s old) (outside_of l gave w1 t s new) report blank.unasked r (traced_whole _ (traced_none tracing s.asked t));
      ends = unkeyed_words error shown.0.taken shown.1;
      is = refl;
      unanswered = refl;
      unasked = refl;
      kept = refl;
    }

unfoldable pub kept_unread : {Takes : Type 0} {settings : Option Config} {flight : Option FlightSettings} {tracing : Bool} {s : StoreState} {t w0 w1 l : Option (List ℕ)} {gave source trace out0 out1 : ℕ} {k : KeeperState} {report : Report} (error : WordsErr)
    → IsFresh s → (error ≡ Words.Usage → ¬ Takes) → report.status ≡ status_of (refused_by error) → report.high ≡ 0 → LineWritten (last_line (refused_by error)) w0 w1 out0 out1
    → KeptHeadline settings flight Takes tracing (outside_of l gave w0 t s (faults_of source out0 trace)) (outside_of l gave w1 t s (faults_of source out1 trace)) k k report
kept_unread error blank not status high line = record { ending = Plain (refused_by error); status = status; answers = []; ran = inl (unread_run error blank not status high line) }

pub words_counted : (error : WordsErr) (tally : Tally) → KeptTally (Plain (refused_by error)) [] tally
words_counted Words.Usage tally = tt
words_counted Words.NoMemory tally = tt

pub words_concluded : (error : WordsErr) (tally : Tally) (asked : List Access) (w0 w1 : Option (List ℕ)) (f0 f1 status : ℕ) → KeptClosedBy (Plain (refused_by error)) false w0 w1 f0 f1 status
    → KeptConcludedBy (Plain (refused_by error)) false tally asked w0 w1 f0 f1 status
words_concluded Words.Usage tally asked w0 w1 f0 f1 status closed = closed
words_concluded Words.NoMemory tally asked w0 w1 f0 f1 status closed = closed

-- so it ended then
abbrev pub unread_ended : WordsErr → KeptEnded
unread_ended error = record { ending = Plain (refused_by error); quiet = false; high = 0; tally = empty_tally }

module _ (Head : (old new : Outside) → Report → Type 0) (ending_of : (old new : Outside) (report : Report) → Head old new report → KeptEnding) (answers_of : (old new : Outside) (report : Report) → Head old new report → List Answer) where
  pub unread_summarized_by : {seed : Seed} {s : StoreState} {t w0 w1 l : Option (List ℕ)} {gave out0 out1 : ℕ} {report : Report} (source trace : ℕ) (error : WordsErr)
      (head : Head (outside_of (Some (generated seed.start seed.rows)) 0 None t s (faults_of 0 0 trace)) (outside_of (Some (generated seed.start seed.rows)) 0 None t s (faults_of 0 0 trace)) (record { status = status_of (refused_by error); high = 0 }))
      → ending_of _ _ _ head ≡ Plain (refused_by error) → answers_of _ _ _ head ≡ [] → report.status ≡ status_of (refused_by error) → report.high ≡ 0 → LineWritten (last_line (refused_by error)) w0 w1 out0 out1
      → SummarizedBy Head ending_of answers_of seed (outside_of l gave w0 t s (faults_of source out0 trace)) (outside_of l gave w1 t s (faults_of source out1 trace)) report
  unread_summarized_by {seed = seed} {s = s} {w0 = w0} {w1 = w1} {out0 = out0} {out1 = out1} {report = report} source trace error head ending none status high line =
      summarized_by Head ending_of answers_of source (unread_ended error) (generated seed.start seed.rows) 0
      (record { head = head; ending = ending; counted = subst (λ (a : List Answer). KeptTally (Plain (refused_by error)) a empty_tally) (sym none) (words_counted error empty_tally) }) high
      (words_concluded error empty_tally s.asked w0 w1 out0 out1 report.status (record { told = status; silent = λ loud. absurd (cc loud); line = λ loud. line }))
      (record { rose = λ loud. absurd (cc loud); kept = λ loud. refl }) (λ refused is. refl)

pub kept_unread_summarized : {Takes : Type 0} {settings : Option Config} {flight : Option FlightSettings} {tracing : Bool} {s : StoreState} {t w0 w1 l : Option (List ℕ)} {gave out0 out1 : ℕ} {k : KeeperState} {report : Report} (source trace : ℕ) (seed : Seed) (error : WordsErr)
    → IsFresh s → (error ≡ Words.Usage → ¬ Takes) → report.status ≡ status_of (refused_by error) → report.high ≡ 0 → LineWritten (last_line (refused_by error)) w0 w1 out0 out1
    → KeptSummarized settings flight Takes tracing seed (outside_of l gave w0 t s (faults_of source out0 trace)) (outside_of l gave w1 t s (faults_of source out1 trace)) k k report
unfolding kept_unread
kept_unread_summarized source trace seed error blank not status high line = unread_summarized_by _ _ _ source trace error (kept_unread error blank not refl refl (unkept_line (Plain (refused_by error)))) refl refl status high line

-- ---- whether tables are kept
pub may_keep : (settings : Option Config) (flight : Option FlightSettings) (Takes : Type 0) (tracing : Bool) (old new : Outside) (k0 k1 : KeeperState) (report : Report) (keeps on : Bool) (asked seed : Option Seed) → keeps ≡ on → asked ≡ seed
    → MayKeep on seed settings flight Takes tracing old new k0 k1 report → MayKeep keeps asked settings flight Takes tracing old new k0 k1 report
may_keep settings flight Takes tracing old new k0 k1 report keeps on asked seed is same run =
    subst (λ (b : Bool). MayKeep b asked settings flight Takes tracing old new k0 k1 report) (sym is) (subst (λ (s : Option Seed). MayKeep on s settings flight Takes tracing old new k0 k1 report) (sym same) run)

pub may_keep_unread : {Takes : Type 0} {s : StoreState} {w0 w1 : Option (List ℕ)} {out0 out1 : ℕ} {report : Report} (settings : Option Config) (flight : Option FlightSettings) (tracing : Bool) (t l : Option (List ℕ)) (gave source trace : ℕ) (k : KeeperState)
    (keeps : Bool) (asked : Option Seed) (error : WordsErr)
    → IsFresh s → (error ≡ Words.Usage → ¬ Takes) → report.status ≡ status_of (refused_by error) → report.high ≡ 0 → LineWritten (last_line (refused_by error)) w0 w1 out0 out1
    → MayKeep keeps asked settings flight Takes tracing (outside_of l gave w0 t s (faults_of source out0 trace)) (outside_of l gave w1 t s (faults_of source out1 trace)) k k report
may_keep_unread {Takes = Takes} {s = s} {out0 = out0} {out1 = out1} {report = report} settings flight tracing t l gave source trace k false None error blank not status high line = (
  headlined Takes (flying flight (fresh settings)) tracing _ _ report blank.unasked
      (reported_words empty_tally (sink_of tracing t t) error report (faults_of source out0 trace) (faults_of source out1 trace) blank refl not status high line refl refl) (traced_whole _ (traced_none tracing s.asked t)),
  refl,
)
may_keep_unread settings flight tracing t l gave source trace k false (Some seed) error blank not status high line = (unread_summarized source trace seed error blank not status high line, refl)
may_keep_unread settings flight tracing t l gave source trace k true None error blank not status high line = kept_unread error blank not status high line
may_keep_unread settings flight tracing t l gave source trace k true (Some seed) error blank not status high line = kept_unread_summarized source trace seed error blank not status high line
