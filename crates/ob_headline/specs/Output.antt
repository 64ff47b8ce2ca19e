-- What a run wrote: the answers, and the trace.
use Rattle.std.specs.Prelude.{◌≡◌, ◌≢◌, ◌⊎◌, Bool, Err, ◌++◌, drop, length}
use Rattle.ob_base.specs.Counts.{Rises}
use Rattle.ob_base.specs.declared.refusal.Stop.TheVariants.{SinkFault, NoMemory}
use Rattle.ob_print.specs.Cuts.{Outputs}
use Rattle.ob_headline.specs.Bases.{Base}
use Rattle.ob_headline.specs.Endings.{last_line}
use Rattle.ob_headline.specs.Flights.{GoesOn, positions_of, trace_of, whole_of}
use Rattle.ob_headline.specs.Story.{Story}
use Rattle.ob_headline.specs.Tracing.{traced}
use Rattle.ob_headline.specs.Words.{Outside, SinksRose, Took, printed}
use Rattle.ob_headline.specs.declared.ending.Ending.{Ending}
use Rattle.ob_headline.specs.declared.ending.Ending.TheVariants.{Ran}

-- The answers, what was printed of the text begun, and the last line. A sink's fault ends the run: where the answers' fails,
-- the end of what was printed may be lost, and after one of the trace's the last line isn't written. Where tracing is asked
-- for the accesses are written, too, what comes before the statement begun, or its flight, whole. Of a flight that was left all
-- that had ended before are answered, unless the answers' sink failed, or the run ends for a sink's fault or for want of memory.
pub record Output (base : Base) (tracing : Bool) (ending : Ending) (story : Story)
    (old new : Outside) : Type 0 where
  pub grew : Outputs old.written new.written (SinksRose old.faults new.faults)
      ((printed story.answers ++ story.part) ++ last_line ending)
  pub whole : Took old.written new.written (printed story.answers)
  pub through : Took old.written new.written (printed story.answers ++ story.part)
      ⊎ Rises old.faults.out new.faults.out
  pub answered : GoesOn (drop (length story.seen) (positions_of base story.entries))
      ⊎ (Rises old.faults.out new.faults.out
      ⊎ ((ending ≡ Ran (Err SinkFault)) ⊎ (ending ≡ Ran (Err NoMemory))))
  pub silent : new.faults.trace ≢ old.faults.trace
      → Outputs old.written new.written (Unit {0}) (printed story.answers ++ story.part)
  pub traced_all : Outputs old.traced new.traced (SinksRose old.faults new.faults)
      (traced tracing (trace_of base story.entries))
  pub traced_whole : Took old.traced new.traced (traced tracing
      (trace_of base (whole_of (length story.seen) story.entries)))
