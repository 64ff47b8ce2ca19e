-- Of a run of which no statement flies: they are served one by one.
use Rattle.std.specs.Prelude.{◌≡◌, ◌≤◌, ◌+◌, ◌++◌, false, length, [], None}
use Rattle.ob_headline.specs.Bases.{drawing, public_with, session_at, start}
use Rattle.ob_headline.specs.Batches.{meant_seen}
use Rattle.ob_headline.specs.Disturbed.{meant_trace}
use Rattle.ob_headline.specs.Flights.{positions_alone}
use Rattle.ob_headline.specs.KeyLine.{after_line}
use Rattle.ob_headline.specs.Reruns.{SomeRun, asked_by, keys_by, positions_by, seen_by}
use Rattle.ob_headline.specs.Texts.{texts_in}
use Rattle.ob_headline.specs.Tracing.{traced}
use Rattle.ob_headline.specs.Words.{Begins, SinksRose, Took, before_read}
use Rattle.ob_print.specs.Cuts.{Outputs}
use Rattle.ob_script.specs.Trace.{trace}

-- one text at most was begun, and what each statement goes by, what they ask, what is traced of it, and what their meaning asks
-- follow from one after the other; without batches each text was answered before more was read
pub record OneByOne (one : SomeRun) : Type 0 where
  pub begun : length one.run.story.spelt ≤ length one.run.story.served + 1
  pub one_last : length one.run.story.last ≤ 1
  pub positions : positions_by one ≡ positions_alone (session_at one.base []) (seen_by one)
  pub asked : asked_by one ≡ one.base.before ++ trace one.base.public (seen_by one)
  pub traced_all : Outputs one.old.traced one.new.traced (SinksRose one.old.faults one.new.faults)
      (traced one.tracing (trace one.base.public (seen_by one)))
  pub traced_whole : Took one.old.traced one.new.traced
      (traced one.tracing (trace one.base.public one.run.story.seen))
  pub meant : meant_trace one.base (keys_by one) one.run.story.spelt
      ≡ trace (public_with one.base.settings)
      (meant_seen (drawing (keys_by one) (start one.base.settings)) one.run.story.spelt)
  pub prompt : one.base.public.batch ≡ None
      → Begins (texts_in false (after_line (before_read one.new.gave one.run.taken)))
      one.run.story.served
