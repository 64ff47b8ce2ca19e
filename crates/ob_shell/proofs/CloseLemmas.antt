-- What a run promises once its last line was written.
use Rattle.ob_shell.proofs.Words.{arith, Base, Bool, Config, drop, Ending, Err, false, Faults, FlightSettings, flying, fresh, FromEach, inl, IsFresh, IsHonest, KeySet, last_line, length, limit_of, LineWritten, List, LosesSome, Option, OutFailed, Outputs, printed, Ran, refl, refused_by, Report, Rises, ServesAlone, SinksRose, status_of, StoreState, subst, sym, Tally, Took, true, Unwritten, Usage, WordsErr, ℕ, [], ⊤, ◌++◌, ◌≡◌, ◌≢◌, ◌⊎◌}
use Rattle.ob_base.specs.declared.refusal.Stop.TheVariants.{NoMemory}
use Rattle.ob_headline.specs.Flights.{GoesOn, positions_of}
use Rattle.ob_headline.specs.Status.{IsCompleted, KeepsLimits, StoreFails}
use Rattle.ob_shell.proofs.CompleteLemmas.{reported_line, reported_quiet}
use Rattle.ob_shell.proofs.TopLemmas.{shown_unread}
use Rattle.ob_shell.specs.Top.{EndingCause, EndingWords, Reported, RunShown, TraceSink, StatusCause}
use Rattle.ob_shell.specs.declared.top.Ended.{Ended}
use Rattle.ob_words.specs.declared.words.WordsErr.TheVariants as Words

module _ {tally : Tally} {tr : TraceSink} {Takes : Type 0} {base : Base} {keys : List ℕ → KeySet} {gave : ℕ} {l0 l1 w0 w1 w2 : Option (List ℕ)} {s0 s1 : StoreState} where
  -- the last line was written, or might not be
  pub reported_closed : (ended : Ended) (report : Report) (old mid new : Faults)
      → report.status ≡ status_of ended.ending → report.high ≡ ended.high → EndingWords ended.ending Takes
      → RunShown tally tr base keys l0 l1 gave w0 w1 s0 s1 ended.high ended.ending [] (OutFailed ended.quiet old.out mid.out) → EndingCause (ServesAlone base.flight base.public) ended.ending old mid
      → (ended.quiet ≡ true → Unwritten w1 w2 mid.out new.out) → (ended.quiet ≡ false → LineWritten (last_line ended.ending) w1 w2 mid.out new.out)
      → (ended.quiet ≡ true → SinksRose old mid) → (ended.quiet ≡ false → mid.trace ≡ old.trace) → new.trace ≡ mid.trace → new.source ≡ mid.source
      → Reported tally tr Takes base keys l0 l1 gave w0 w2 s0 s1 old new report
  reported_closed ended report old mid new status high takes shown cause quiet line rose loud trace source = go ended.quiet refl
    where
      shown_high : RunShown tally tr base keys l0 l1 gave w0 w1 s0 s1 report.high ended.ending [] (OutFailed ended.quiet old.out mid.out)
      shown_high = subst (λ (n : ℕ). RunShown tally tr base keys l0 l1 gave w0 w1 s0 s1 n ended.ending [] (OutFailed ended.quiet old.out mid.out)) (sym high) shown

      go : (b : Bool) → ended.quiet ≡ b → Reported tally tr Takes base keys l0 l1 gave w0 w2 s0 s1 old new report
      go true is =
          let same : mid ≡ new = λ i. record { source = sym source i; out = sym (quiet is).faults i; trace = sym trace i } in
          subst (λ (f : Faults). Reported tally tr Takes base keys l0 l1 gave w0 w2 s0 s1 old f report) same
          (subst (λ (w : Option (List ℕ)). Reported tally tr Takes base keys l0 l1 gave w0 w s0 s1 old mid report) (sym (quiet is).written)
          (reported_quiet ended.ending old mid status takes shown_high (λ lost. lost.1) cause (rose is)))
      go false is =
          let l = line is in
          reported_line ended.ending old mid new status takes shown_high (λ lost. absurd (cc (is, lost.0))) cause l.cut (λ rises. rises) l.empty l.later trace source (loud is)

-- the words were not read
pub words_end : (error : WordsErr) {Takes : Type 0} → (error ≡ Words.Usage → ¬ Takes) → EndingWords (refused_by error) Takes
words_end Words.Usage not = not refl
words_end Words.NoMemory not = tt

pub words_cause : (Alone : Type 0) (error : WordsErr) (faults : Faults) → EndingCause Alone (refused_by error) faults faults
words_cause Alone Words.Usage faults = record { source = refl; out = refl; trace = refl }
words_cause Alone Words.NoMemory faults = ((λ alone. refl, inl refl), omega arith, omega arith)

unfoldable pub words_shown : {F : Type 0} {keys : List ℕ → KeySet} (tally : Tally) (tr : TraceSink) (settings : Option Config) (flight : Option FlightSettings) (error : WordsErr) (l : Option (List ℕ)) (gave : ℕ) (w : Option (List ℕ)) (s : StoreState) → IsFresh s → tr.new ≡ tr.old
    → RunShown tally tr (flying flight (fresh settings)) keys l l gave w w s s 0 (refused_by error) [] F
words_shown tally tr settings flight Words.Usage l gave w s fresh untraced = shown_unread tally tr settings flight l gave w s _ fresh untraced tt tt tt tt refl
words_shown tally tr settings flight Words.NoMemory l gave w s fresh untraced = shown_unread tally tr settings flight l gave w s _ fresh untraced tt tt tt tt tt

-- of which nothing is taken
pub words_none : (F : Type 0) (keys : List ℕ → KeySet) (tally : Tally) (tr : TraceSink) (settings : Option Config) (flight : Option FlightSettings) (error : WordsErr) (l : Option (List ℕ)) (gave : ℕ) (w : Option (List ℕ)) (s : StoreState) (blank : IsFresh s) (untraced : tr.new ≡ tr.old)
    → (words_shown {F = F} {keys = keys} tally tr settings flight error l gave w s blank untraced).taken ≡ []
unfolding words_shown shown_unread
words_none F keys tally tr settings flight Words.Usage l gave w s blank untraced = refl
words_none F keys tally tr settings flight Words.NoMemory l gave w s blank untraced = refl

pub reported_words : (tally : Tally) (tr : TraceSink) {Takes : Type 0} {keys : List ℕ → KeySet} {settings : Option Config} {flight : Option FlightSettings} {gave : ℕ} {l w0 w1 : Option (List ℕ)} {s : StoreState} (error : WordsErr) (report : Report) (old new : Faults) → IsFresh s → tr.new ≡ tr.old
    → (error ≡ Words.Usage → ¬ Takes) → report.status ≡ status_of (refused_by error) → report.high ≡ 0
    → LineWritten (last_line (refused_by error)) w0 w1 old.out new.out → new.trace ≡ old.trace → new.source ≡ old.source
    → Reported tally tr Takes (flying flight (fresh settings)) keys l l gave w0 w1 s s old new report
reported_words tally tr {settings = settings} {flight = flight} {gave = gave} {l = l} {w0 = w0} {s = s} error report old new fresh untraced not status high line trace source =
    reported_closed (record { ending = refused_by error; quiet = false; high = 0; tally = tally }) report old old new status high (words_end error not)
    (words_shown tally tr settings flight error l gave w0 s fresh untraced) (words_cause _ error old) (λ loud. absurd (cc loud)) (λ loud. line) (λ loud. absurd (cc loud)) (λ loud. refl) trace source

-- the words were taken
pub words_taken : (ending : Ending) {Takes : Type 0} → EndingWords ending ⊤ → Takes → EndingWords ending Takes
words_taken Usage not t = absurd (not tt)
words_taken (Ran (Err NoMemory)) taken t = tt
words_taken other taken t = t

unfoldable pub reported_taken : {tally : Tally} {tr : TraceSink} {Takes : Type 0} {keys : List ℕ → KeySet} {settings asked : Option Config} {flight : Option FlightSettings} {gave : ℕ}
    {l0 l1 w0 w1 : Option (List ℕ)} {s0 s1 : StoreState} {old new : Faults} {report : Report}
    → Takes → settings ≡ asked → Reported tally tr ⊤ (flying flight (fresh asked)) keys l0 l1 gave w0 w1 s0 s1 old new report
    → Reported tally tr Takes (flying flight (fresh settings)) keys l0 l1 gave w0 w1 s0 s1 old new report
reported_taken {tally = tally} {tr = tr} {Takes = Takes} {keys = keys} {flight = flight} {gave = gave} {l0 = l0} {l1 = l1} {w0 = w0} {w1 = w1} {s0 = s0} {s1 = s1} {old = old} {new = new} {report = report} t is r =
    let both = subst
    (λ (o : Option Config). (x : RunShown tally tr (flying flight (fresh o)) keys l0 l1 gave w0 w1 s0 s1 report.high r.ending (last_line r.ending) (SinksRose old new)) × (new.trace ≢ old.trace → Outputs w0 w1 (Unit {0}) (printed x.story.answers ++ x.story.part)) × (Took w0 w1 (printed x.story.answers ++ x.story.part) ⊎ Rises old.out new.out)
    × (GoesOn (drop (length x.story.seen) (positions_of (flying flight (fresh o)) x.story.entries)) ⊎ LosesSome (Rises old.out new.out) r.ending))
    (sym is) (r.shown, r.silent, r.through, r.answered) in
    record {
      ending = r.ending;
      status = r.status;
      takes = words_taken r.ending r.takes t;
      shown = both.0;
      through = both.2;
      answered = both.3;
      silent = both.1;
      cause = subst (λ (o : Option Config). StatusCause (ServesAlone flight (fresh o).public) r.ending old new) (sym is) r.cause;
      completes = λ taken input e keeps source sinks.
          subst (λ (o : Option Config). FromEach (flying flight (fresh o)) (λ s. IsCompleted (IsHonest s0 s1) (StoreFails (flying flight (fresh o)) s0 s1) ((fresh o).public.save ≡ true) r.ending)) (sym is)
          (r.completes tt input e (subst (λ (o : Option Config). KeepsLimits (limit_of o) input) is keeps) source sinks);
    }
