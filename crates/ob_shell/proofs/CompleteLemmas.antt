-- An input that keeps to the limits is served to its end.
use Rattle.ob_shell.proofs.Words.{ap, append-nil, Appends-nil, arith, BadKey, Base, Bool, Ending, EndsUntampered, Err, false, Faults, FromEach, inl, inr, IsHonest, KeySet, last_line, length, length-append, limit_of, List, None, Ok, Option, Outputs, Outputs-by, Outputs-fault, printed, Ran, refl, Report, Rises, ServesAlone, SinksRose, Some, status_of, StoreState, subst, Tally, true, Usage, ℕ, [], ◌++◌, ◌∙◌, ◌≡◌, ◌≤◌}
use Rattle.std.specs.Io.KnownBytes.{Consumes}
use Rattle.ob_base.specs.declared.refusal.Stop.TheVariants.{Tampered, SourceFault, SinkFault, NoMemory, InputLimit, StoreFault, StashFull, KeeperFault}
use Rattle.ob_headline.proofs.BaseLemmas.{from_each}
use Rattle.ob_headline.proofs.TextLemmas.{rest_of-append, rest_of-over, rest_of-nil}
use Rattle.ob_headline.specs.KeyLine.{line_max, has_lf, first_line, after_line, secret_of, LineTaken}
use Rattle.ob_headline.specs.Texts.{is_over, rest_of}
use Rattle.ob_headline.specs.Status.{HasSecret, KeepsLimits, IsCompleted, StoreFails}
use Rattle.ob_shell.proofs.KeyLemmas.{after_line-none, first_line-long, secret_of-long}
use Rattle.ob_shell.proofs.TookLemmas.{took_more, took_of, took_or}
use Rattle.ob_shell.proofs.TopLemmas.{first_line-more, after_line-more, loses_as, shown_line, cut_line, quiet_line, line_rose, status_cause}
use Rattle.ob_shell.specs.Top.{TraceSink, EndingSays, EndingWords, EndingCause, RunShown, StatusCause, Reported}

no_secret : (xs : List ℕ) → HasSecret xs → secret_of (first_line xs) ≡ None → ⊥
no_secret xs h e = let k = rw e at h in cc

-- the part that was taken and the rest
module _ (taken rest : List ℕ) (secret : HasSecret (taken ++ rest)) where
  with_lf : has_lf taken ≡ true → secret_of (first_line taken) ≡ None → ⊥
  with_lf lf e = no_secret (taken ++ rest) secret (ap secret_of (first_line-more taken rest lf) ∙ e)

  too_long : (t : Bool) → has_lf taken ≡ t → line_max ≤ length taken → secret_of (first_line taken) ≡ None → ⊥
  too_long true lf long e = with_lf lf e
  too_long false lf long e =
      no_secret (taken ++ rest) secret
      (secret_of-long (first_line (taken ++ rest)) (omega (arith, first_line-long taken rest lf)))

  good_key : LineTaken taken (Some rest) → secret_of (first_line taken) ≡ None → ⊥
  good_key line e =
      elim line [
        | inl lf ↦ with_lf lf e
        | inr more ↦ elim more [
          | inl long ↦ too_long (has_lf taken) refl long e
          | inr none ↦
              no_secret (taken ++ rest) secret (ap (λ (l : List ℕ). secret_of (first_line (taken ++ l))) none ∙ rw append-nil e)
        ]
      ]

  not_over : (t : Bool) → has_lf taken ≡ t → is_over (rest_of [] (after_line (taken ++ rest))) ≡ false → is_over (rest_of [] (after_line taken)) ≡ true → ⊥
  not_over true lf small over =
      let all : rest_of [] (after_line (taken ++ rest)) ≡ rest_of [] (after_line taken) =
      ap (rest_of []) (after_line-more taken rest lf) ∙ rest_of-append [] (after_line taken) rest ∙ rest_of-over _ rest over in
      let k = rw all at small in cc
  not_over false lf small over = let k = rw (after_line-none taken lf, rest_of-nil) at over in cc

limits_kept : (Alone : Type 0) (ending : Ending) (max : ℕ) (taken rest : List ℕ) (ended : Bool) (more : List (List ℕ)) (part : List ℕ) {Takes : Type 0}
    → Takes → EndingWords ending Takes
    → KeepsLimits max (taken ++ rest) → EndingSays ending max taken (Some rest) ended more part → (old new : Faults) → StatusCause Alone ending old new
    → ¬ Rises old.source new.source → ¬ SinksRose old new → {Honest Faulted Saving : Type 0} → (Honest → EndsUntampered ending) → (ending ≡ Ran (Err StoreFault) → Faulted) → (ending ≡ Ran (Err KeeperFault) → Saving) → IsCompleted Honest Faulted Saving ending
limits_kept Alone Usage max taken rest ended more part t words k says old new cause a c calm faulted saving = words t
limits_kept Alone BadKey max taken rest ended more part t words k says old new cause a c calm faulted saving = good_key taken rest k.secret says.1 says.0
limits_kept Alone (Ran (Ok refused)) max taken rest ended more part t words k says old new cause a c calm faulted saving = tt
limits_kept Alone (Ran (Err (Tampered region place))) max taken rest ended more part t words k says old new cause a c calm faulted saving = calm
limits_kept Alone (Ran (Err SourceFault)) max taken rest ended more part t words k says old new cause a c calm faulted saving = a cause
limits_kept Alone (Ran (Err SinkFault)) max taken rest ended more part t words k says old new cause a c calm faulted saving = c cause.1
limits_kept Alone (Ran (Err NoMemory)) max taken rest ended more part t words k says old new cause a c calm faulted saving = tt
limits_kept Alone (Ran (Err StoreFault)) max taken rest ended more part t words k says old new cause a c calm faulted saving = faulted refl
limits_kept Alone (Ran (Err StashFull)) max taken rest ended more part t words k says old new cause a c calm faulted saving = tt
limits_kept Alone (Ran (Err KeeperFault)) max taken rest ended more part t words k says old new cause a c calm faulted saving = saving refl
limits_kept Alone (Ran (Err InputLimit)) max taken rest ended more part t words k says old new cause a c calm faulted saving =
    elim says.limit [
      | inl over ↦ not_over taken rest k.secret (has_lf taken) refl k.texts over
      | inr full ↦ let few = k.short in absurd (omega (arith, few, full, length-append taken rest))
    ]

pub completes : {tally : Tally} {tr : TraceSink} {base : Base} {keys : List ℕ → KeySet} {gave : ℕ} {l0 l1 w0 w1 : Option (List ℕ)} {s0 s1 : StoreState} {high : ℕ} {ending : Ending} {line : List ℕ} {F Takes : Type 0} (old new : Faults) (input : List ℕ)
    → RunShown tally tr base keys l0 l1 gave w0 w1 s0 s1 high ending line F → EndingWords ending Takes → StatusCause (ServesAlone base.flight base.public) ending old new
    → Takes → l0 ≡ Some input → KeepsLimits (limit_of base.settings) input → ¬ Rises old.source new.source → ¬ SinksRose old new
    → FromEach base (λ s. IsCompleted (IsHonest s0 s1) (StoreFails base s0 s1) (base.public.save ≡ true) ending)
completes {base = base} {l1 = l1} {s0 = s0} {s1 = s1} {ending = ending} old new input shown words cause t e k a c =
    from_each base (λ s. IsHonest s0 s1 → EndsUntampered ending) (λ s. IsCompleted (IsHonest s0 s1) (StoreFails base s0 s1) (base.public.save ≡ true) ending)
    (λ tables calm. go l1 shown.says (subst (λ (l : Option (List ℕ)). Consumes l l1 shown.taken) e shown.bytes.given) calm) shown.carried.untampered
  where
    go : (l : Option (List ℕ)) → EndingSays ending (limit_of base.settings) shown.taken l shown.ended shown.story.more shown.story.part → Consumes (Some input) l shown.taken → (IsHonest s0 s1 → EndsUntampered ending)
        → IsCompleted (IsHonest s0 s1) (StoreFails base s0 s1) (base.public.save ≡ true) ending
    go None says given calm = absurd given
    go (Some rest) says given calm =
        limits_kept (ServesAlone base.flight base.public) ending (limit_of base.settings) shown.taken rest shown.ended shown.story.more shown.story.part t words (subst (KeepsLimits (limit_of base.settings)) given k) says old new cause a c
        calm shown.carried.faulted shown.carried.saving

-- the last line was written, or cut by a sink's fault
unfoldable pub reported_line : {tally : Tally} {tr : TraceSink} {Takes : Type 0} {base : Base} {keys : List ℕ → KeySet} {report : Report} (ending : Ending) (old mid new : Faults)
    {gave : ℕ} {l0 l1 w0 w1 w2 : Option (List ℕ)} {s0 s1 : StoreState} {E Lost : Type 0}
    → report.status ≡ status_of ending → EndingWords ending Takes
    → RunShown tally tr base keys l0 l1 gave w0 w1 s0 s1 report.high ending [] Lost → ¬ Lost → EndingCause (ServesAlone base.flight base.public) ending old mid
    → Outputs w1 w2 E (last_line ending) → (E → Rises mid.out new.out) → (last_line ending ≡ [] → new.out ≡ mid.out)
    → mid.out ≤ new.out → new.trace ≡ mid.trace → new.source ≡ mid.source → mid.trace ≡ old.trace
    → Reported tally tr Takes base keys l0 l1 gave w0 w2 s0 s1 old new report
unfolding shown_line
reported_line {base = base} ending old mid new {w0 = w0} {w1 = w1} status takes shown loud cause cut rose none later trace source kept =
    let causes : StatusCause (ServesAlone base.flight base.public) ending old new = status_cause (ServesAlone base.flight base.public) ending old mid new cause later trace source none in
    let whole : Outputs w0 w1 ⊥ ((printed shown.story.answers ++ shown.story.part) ++ []) = Outputs-by loud shown.grew in
    record {
      ending = ending;
      status = status;
      takes = takes;
      shown = shown_line cut.grown shown cut.appends (cut_line _ _ (λ e. line_rose (ServesAlone base.flight base.public) ending old mid new cause (rose e) later trace) whole cut) (λ lost. absurd (loud lost));
      through = inl (took_more cut.grown (took_of (subst (λ (l : List ℕ). Outputs w0 w1 ⊥ l) (append-nil (printed shown.story.answers ++ shown.story.part)) whole) (λ never. never)) cut.appends);
      answered = loses_as (λ lost. absurd (loud lost)) shown.answered;
      silent = λ other. absurd (other (trace ∙ kept));
      cause = causes;
      completes = λ t input e k a b. completes old new input shown takes causes t e k a b;
    }

-- no line may be written any more
unfoldable pub reported_quiet : {tally : Tally} {tr : TraceSink} {Takes : Type 0} {base : Base} {keys : List ℕ → KeySet} {report : Report} (ending : Ending) (old new : Faults)
    {gave : ℕ} {l0 l1 w0 w1 : Option (List ℕ)} {s0 s1 : StoreState} {Lost : Type 0}
    → report.status ≡ status_of ending → EndingWords ending Takes
    → RunShown tally tr base keys l0 l1 gave w0 w1 s0 s1 report.high ending [] Lost → (Lost → Rises old.out new.out) → EndingCause (ServesAlone base.flight base.public) ending old new → SinksRose old new
    → Reported tally tr Takes base keys l0 l1 gave w0 w1 s0 s1 old new report
unfolding shown_line
reported_quiet {base = base} ending old new {w0 = w0} {w1 = w1} {Lost = Lost} status takes shown lost cause rose =
    let causes : StatusCause (ServesAlone base.flight base.public) ending old new = status_cause (ServesAlone base.flight base.public) ending old new new cause (omega arith) refl refl (λ e. refl) in
    record {
      ending = ending;
      status = status;
      takes = takes;
      shown = shown_line [] shown (Appends-nil _) (quiet_line _ _ shown.grew rose) (λ lost. rose);
      through = took_or (subst (λ (l : List ℕ). Outputs w0 w1 Lost l) (append-nil (printed shown.story.answers ++ shown.story.part)) shown.grew) lost;
      answered = loses_as lost shown.answered;
      silent = λ other. Outputs-fault tt (subst (λ (l : List ℕ). Outputs w0 w1 Lost l) (append-nil (printed shown.story.answers ++ shown.story.part)) shown.grew);
      cause = causes;
      completes = λ t input e k a b. completes old new input shown takes causes t e k a b;
    }
