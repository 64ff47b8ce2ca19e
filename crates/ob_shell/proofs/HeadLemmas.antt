-- The headline, by what the run was reported to have done.
use Rattle.ob_shell.proofs.Words.{Access, Answer, ap, append_cancel_left, BadKey, Base, Bool, Ending, EndsUntampered, Err, FromEach, Headline, IsHonest, KeySet, List, Ok, Outputs, Outside, Ran, refl, Report, ServesAlone, SinksRose, subst, sym, Tally, Traced, traced, true, Usage, ℕ, ◌++◌, ◌∙◌, ◌≡◌}
use Rattle.ob_base.specs.declared.refusal.Stop.TheVariants.{Tampered, SourceFault, SinkFault, NoMemory, InputLimit, StoreFault, StashFull, KeeperFault}
use Rattle.ob_headline.specs.Status.{Because, EndsAtRead, StoreFails}
use Rattle.ob_shell.specs.Top.{EndingFlag, EndingSays, EndingWords, Reported, StatusCause, sink_of}

-- why it ends so
pub because : (base : Base) (ending : Ending) (Takes : Type 0) (max : ℕ) (taken : List ℕ) (ended : Bool) (more : List (List ℕ)) (answers : List Answer) (part : List ℕ) (old new : Outside)
    → EndingWords ending Takes → EndingFlag ending answers → EndingSays ending max taken new.left ended more part → StatusCause (ServesAlone base.flight base.public) ending old.faults new.faults
    → FromEach base (λ s. IsHonest old.store new.store → EndsUntampered ending) → ((region place : ℕ) → ending ≡ Ran (Err (Tampered region place)) → EndsAtRead region place new.store.asked) → (ending ≡ Ran (Err StoreFault) → StoreFails base old.store new.store) → (ending ≡ Ran (Err KeeperFault) → base.public.save ≡ true)
    → Because base ending Takes max taken ended more answers part old new
because base Usage Takes max taken ended more answers part old new takes flag says cause honest read faulted saving = (takes, says, cause)
because base BadKey Takes max taken ended more answers part old new takes flag says cause honest read faulted saving = (takes, says.0, says.1, cause)
because base (Ran (Ok refused)) Takes max taken ended more answers part old new takes flag says cause honest read faulted saving = (takes, flag, says, cause)
because base (Ran (Err (Tampered region place))) Takes max taken ended more answers part old new takes flag says cause honest read faulted saving = (takes, says, honest, read region place refl, cause)
because base (Ran (Err SourceFault)) Takes max taken ended more answers part old new takes flag says cause honest read faulted saving = (takes, says, cause)
because base (Ran (Err SinkFault)) Takes max taken ended more answers part old new takes flag says cause honest read faulted saving = (takes, says, cause.1, cause.0)
because base (Ran (Err NoMemory)) Takes max taken ended more answers part old new takes flag says cause honest read faulted saving = cause
because base (Ran (Err InputLimit)) Takes max taken ended more answers part old new takes flag says cause honest read faulted saving = (takes, says, cause)
because base (Ran (Err StoreFault)) Takes max taken ended more answers part old new takes flag says cause honest read faulted saving = (takes, says, faulted refl, cause)
because base (Ran (Err StashFull)) Takes max taken ended more answers part old new takes flag says cause honest read faulted saving = (takes, says, cause)
because base (Ran (Err KeeperFault)) Takes max taken ended more answers part old new takes flag says cause honest read faulted saving = (takes, says, saving refl, cause)

unfoldable pub headlined : {tally : Tally} {keys : List ℕ → KeySet} (Takes : Type 0) (base : Base) (tracing : Bool) (old new : Outside) (report : Report) → old.store.asked ≡ base.before
    → Reported tally (sink_of tracing old.traced new.traced) Takes base keys old.left new.left new.gave old.written new.written old.store new.store old.faults new.faults report
    → Traced tracing old.store.asked new.store.asked old.traced new.traced (SinksRose old.faults new.faults)
    → Headline base keys Takes tracing old new report
headlined Takes base tracing old new report first r traces =
    let shown = r.shown in
    let run = shown.carried in
    record {
      taken = shown.taken;
      ended = shown.ended;
      ending = r.ending;
      story = shown.story;
      bytes = shown.bytes;
      prompt = shown.prompt;
      statements = run.statements;
      output = record {
        grew = shown.grew;
        whole = shown.whole;
        through = r.through;
        answered = r.answered;
        silent = r.silent;
        traced_all = subst (λ (xs : List Access). Outputs old.traced new.traced (SinksRose old.faults new.faults) (traced tracing xs))
            (append_cancel_left base.before traces.seen _ (ap (λ (xs : List Access). xs ++ traces.seen) (sym first) ∙ sym traces.grew ∙ run.accesses.asked)) traces.cut;
        traced_whole = run.traced_whole;
      };
      accesses = run.accesses;
      answers = run.answers;
      tampering = run.tampering;
      sealing = run.sealing;
      rows = run.rows;
      status = record {
        status = r.status;
        because = because base r.ending Takes _ shown.taken shown.ended shown.story.more shown.story.answers shown.story.part old new r.takes shown.flag shown.says r.cause run.untampered run.at_read run.faulted run.saving;
        completes = r.completes;
      };
    }
