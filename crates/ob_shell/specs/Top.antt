-- What a whole run promises, by its words and the bytes that its source gave.
use Rattle.std.specs.Prelude.{ℕ, ◌≡◌, ◌≢◌, ◌+◌, ◌⊎◌, Bool, true, false, List, [], ◌++◌, drop, length, Option, Some, None, Result, Ok, Err}
use Rattle.std.specs.Io.KnownBytes.{Consumes, IsAtEnd}
use Rattle.ob_base.specs.Counts.{Rises}
use Rattle.ob_base.specs.declared.refusal.Stop.{Stop}
use Rattle.ob_base.specs.declared.refusal.Stop.TheVariants.{Tampered, SourceFault, SinkFault, NoMemory, InputLimit, StoreFault, StashFull, KeeperFault}
use Rattle.ob_gen.specs.declared.tally.Tally.{Tally}
use Rattle.ob_headline.specs.Bases.{Base, FromEach}
use Rattle.ob_headline.specs.Batches.{AnsweredExcept}
use Rattle.ob_headline.specs.Endings.{last_line, status_of}
use Rattle.ob_headline.specs.Flights.{GoesOn, most_of, public_whole, positions_of, trace_of, whole_of}
use Rattle.ob_headline.specs.KeyLine.{LineTaken, first_line, secret_of}
use Rattle.ob_headline.specs.Settings.{limit_of}
use Rattle.ob_headline.specs.Texts.{texts_in}
use Rattle.ob_headline.specs.Tracing.{traced}
use Rattle.ob_headline.specs.Words.{Answer, Faults, IsHonest, NoneRose, SinksRose, Took, before_read, printed}
use Rattle.ob_headline.specs.Status.{EndsAtRead, HasSecret, IsCompleted, KeepsLimits, ReadToLimit, ReadUntilFault, ReadWhole, StaysAlone, StoreFails}
use Rattle.ob_headline.specs.declared.ending.Ending.{Ending}
use Rattle.ob_headline.specs.declared.ending.Ending.TheVariants.{Usage, BadKey, Ran}
use Rattle.ob_headline.specs.declared.ending.Report.{Report}
use Rattle.ob_mean.specs.Batches.{batch_most}
use Rattle.ob_print.specs.Cuts.{Outputs}
use Rattle.ob_seal.specs.KeySet.{KeySet}
use Rattle.ob_shell.specs.Feeding.{Fetch}
use Rattle.ob_shell.specs.Running.{CountsRows, EndsBy, FlagIs, ServesAlone, StopCause}
use Rattle.ob_shell.specs.Tallies.{TallyIs, flagged, tally_of}
use Rattle.ob_store.specs.State.{StoreState}
use Rattle.ob_vault.specs.State.{RevState}
use Rattle.ob_headline.specs.Accesses.{Accesses}
use Rattle.ob_headline.specs.Answers.{Answers}
use Rattle.ob_headline.specs.Bytes.{Bytes}
use Rattle.ob_headline.specs.OpenRows.{OpenRows}
use Rattle.ob_headline.specs.Prompt.{Prompt}
use Rattle.ob_headline.specs.Sealing.{Sealing}
use Rattle.ob_headline.specs.Statements.{Statements}
use Rattle.ob_headline.specs.Story.{Story}
use Rattle.ob_headline.specs.Tampering.{Tampering}

-- it is no end by a block
abbrev pub EndsUntampered : Ending → Type 0
EndsUntampered Usage = Unit {0}
EndsUntampered BadKey = Unit {0}
EndsUntampered (Ran (Err (Tampered region place))) = ⊥
EndsUntampered (Ran _) = Unit {0}

-- nor one by the store, for a full stash, or by the keeper
abbrev pub EndsUnfaulted : Ending → Type 0
EndsUnfaulted (Ran (Err StoreFault)) = ⊥
EndsUnfaulted (Ran (Err StashFull)) = ⊥
EndsUnfaulted (Ran (Err KeeperFault)) = ⊥
EndsUnfaulted _ = Unit {0}

-- a store of which nothing was asked
pub record IsFresh (store : StoreState) : Type 0 where
  pub unasked : store.asked ≡ []
  pub honest : store.lie ≡ None
  pub empty : (region : ℕ) → store.live region ≡ None

-- whether the accesses are traced, and what the trace's sink holds before and after
pub record TraceSink : Type 0 where
  pub on : Bool
  pub old : Option (List ℕ)
  pub new : Option (List ℕ)

abbrev pub sink_of : Bool → (old new : Option (List ℕ)) → TraceSink
sink_of on old new = record { on = on; old = old; new = new }

-- why not all that had ended may be among the answers: for this cause of the sink of the answers, or where the run ended so
abbrev pub LosesSome : (Lost : Type 0) → Ending → Type 0
LosesSome Lost ending =
    Lost ⊎ ((ending ≡ Ran (Err SinkFault)) ⊎ (ending ≡ Ran (Err NoMemory)))

-- what the texts did to the store, whose blocks are under these keys, and what was answered
pub record Carried (tr : TraceSink) (base : Base) (keys : KeySet)
    (secret : Option (List ℕ)) (store0 store1 : StoreState) (high : ℕ) (story : Story) (ending : Ending) : Type 0 where
  pub statements : Statements secret story
  pub accesses : Accesses base keys ending story store0 store1
  pub traced_whole : Took tr.old tr.new (traced tr.on
      (trace_of base (whole_of (length story.seen) story.entries)))
  pub answers : Answers base keys ending story store0 store1
  pub tampering : Tampering keys base.start ending store0 store1
  pub sealing : Sealing base keys store0 store1
  pub rows : OpenRows base.settings high store1.asked
  pub untampered : FromEach base (λ s. IsHonest store0 store1 → EndsUntampered ending)
  pub at_read : (region place : ℕ) → ending ≡ Ran (Err (Tampered region place))
      → EndsAtRead region place store1.asked
  pub faulted : ending ≡ Ran (Err StoreFault) → StoreFails base store0 store1
  pub saving : ending ≡ Ran (Err KeeperFault) → base.public.save ≡ true

-- what was done from this base after the first line, which was this secret
pub record RanAfter {R : Type 0} (state : R → RevState) (tr : TraceSink) (base : Base)
    (keys : KeySet) (secret : Option (List ℕ)) (feed0 feed1 : Fetch)
    (left0 left1 : Option (List ℕ)) (gave : ℕ) (written0 written1 : Option (List ℕ))
    (store0 store1 : StoreState) (high : ℕ) (Lost : Type 0) (result : Result Tally Stop)
    : Type 0 where
  pub piece : List ℕ
  pub consumed : Consumes left0 left1 piece
  pub taken : feed1.taken ≡ feed0.taken + length piece
  pub limit : feed1.limit ≡ feed0.limit
  pub ended : Bool
  pub at_end : ended ≡ true → IsAtEnd left1
  pub story : Story
  pub texts : texts_in ended (feed0.unread ++ piece) ≡ story.served ++ story.more
  pub prompt : AnsweredExcept (public_whole base story) (batch_most base.public) (most_of base)
      (texts_in false (before_read gave (feed0.unread ++ piece))) story.served
  pub carried : Carried tr base keys secret store0 store1 high story (Ran (flagged result))
  -- the rows that were open are those of the session's engine; where none was started, there are none
  pub rows : CountsRows state tr.on feed0 feed1 left0 left1 gave written0 written1 tr.old tr.new
      store0 store1 Lost result high ⊎ ((high ≡ 0) × (store1 ≡ store0))
  pub cut : Outputs written0 written1 Lost (printed story.answers ++ story.part)
  pub whole : Took written0 written1 (printed story.answers)
  pub answered : GoesOn (drop (length story.seen) (positions_of base story.entries))
      ⊎ LosesSome Lost (Ran (flagged result))
  pub counted : TallyIs story.answers result
  pub ends : EndsBy feed1 ended (feed0.unread ++ piece) story.more story.part (flagged result)

-- what the answer of a session says of the bytes taken
abbrev pub RanSays : Result Bool Stop → (max : ℕ) (taken : List ℕ) (ended : Bool)
    (more : List (List ℕ)) (part : List ℕ) → Type 0
RanSays (Ok refused) max taken ended more part = ReadWhole max taken ended more part
RanSays (Err (Tampered region place)) max taken ended more part = HasSecret taken
RanSays (Err SourceFault) max taken ended more part = ReadUntilFault taken ended more part
RanSays (Err SinkFault) max taken ended more part = HasSecret taken
RanSays (Err NoMemory) max taken ended more part = Unit {0}
RanSays (Err InputLimit) max taken ended more part = ReadToLimit max taken ended more part
RanSays (Err StoreFault) max taken ended more part = HasSecret taken
RanSays (Err StashFull) max taken ended more part = HasSecret taken
RanSays (Err KeeperFault) max taken ended more part = HasSecret taken

-- what each ending says of the bytes taken, where the words were taken
abbrev pub EndingSays : Ending → (max : ℕ) (taken : List ℕ) (left1 : Option (List ℕ)) (ended : Bool)
    (more : List (List ℕ)) (part : List ℕ) → Type 0
EndingSays Usage max taken left1 ended more part = taken ≡ []
EndingSays BadKey max taken left1 ended more part = (secret_of (first_line taken) ≡ None)
    × LineTaken taken left1
EndingSays (Ran ran) max taken left1 ended more part = RanSays ran max taken ended more part

-- the words are none that the program takes exactly where it says so, if memory suffices
abbrev pub RanWords : Result Bool Stop → Type 0 → Type 0
RanWords (Ok refused) Takes = Takes
RanWords (Err (Tampered region place)) Takes = Takes
RanWords (Err SourceFault) Takes = Takes
RanWords (Err SinkFault) Takes = Takes
RanWords (Err NoMemory) Takes = Unit {0}
RanWords (Err InputLimit) Takes = Takes
RanWords (Err StoreFault) Takes = Takes
RanWords (Err StashFull) Takes = Takes
RanWords (Err KeeperFault) Takes = Takes

abbrev pub EndingWords : Ending → Type 0 → Type 0
EndingWords Usage Takes = ¬ Takes
EndingWords BadKey Takes = Takes
EndingWords (Ran ran) Takes = RanWords ran Takes

-- the answers tell whether a text was refused
abbrev pub EndingFlag : Ending → List Answer → Type 0
EndingFlag Usage answers = Unit {0}
EndingFlag BadKey answers = Unit {0}
EndingFlag (Ran ran) answers = FlagIs answers ran

-- and how they were counted, where the run came to the end of its input
abbrev pub EndingTally : Ending → List Answer → Tally → Type 0
EndingTally Usage answers tally = Unit {0}
EndingTally BadKey answers tally = Unit {0}
EndingTally (Ran (Ok refused)) answers tally = tally ≡ tally_of answers
EndingTally (Ran (Err stop)) answers tally = Unit {0}

-- which counts rose, before the last line
abbrev pub EndingCause : (Alone : Type 0) → Ending → (old new : Faults) → Type 0
EndingCause Alone Usage old new = NoneRose old new
EndingCause Alone BadKey old new = NoneRose old new
EndingCause Alone (Ran ran) old new = StopCause Alone old new ran

-- which counts rose in the whole run: with a stop before, those of the sinks may have risen at the last lines, too
abbrev pub StatusCause : (Alone : Type 0) → Ending → (old new : Faults) → Type 0
StatusCause Alone Usage old new = new.source ≡ old.source
StatusCause Alone BadKey old new = new.source ≡ old.source
StatusCause Alone (Ran (Ok refused)) old new = NoneRose old new
StatusCause Alone (Ran (Err (Tampered region place))) old new = StaysAlone Alone old.source new.source
StatusCause Alone (Ran (Err SourceFault)) old new = Rises old.source new.source
StatusCause Alone (Ran (Err SinkFault)) old new =
    StaysAlone Alone old.source new.source × SinksRose old new
StatusCause Alone (Ran (Err NoMemory)) old new = StaysAlone Alone old.source new.source
StatusCause Alone (Ran (Err InputLimit)) old new = new.source ≡ old.source
StatusCause Alone (Ran (Err StoreFault)) old new = StaysAlone Alone old.source new.source
StatusCause Alone (Ran (Err StashFull)) old new = StaysAlone Alone old.source new.source
StatusCause Alone (Ran (Err KeeperFault)) old new = StaysAlone Alone old.source new.source

-- what was taken, what of it was served, under the keys that these bytes come to, and what the sink took of the answers and
-- the last line
pub record RunShown (tally : Tally) (tr : TraceSink) (base : Base) (keys : List ℕ → KeySet)
    (left0 left1 : Option (List ℕ)) (gave : ℕ) (written0 written1 : Option (List ℕ))
    (store0 store1 : StoreState) (high : ℕ)
    (ending : Ending) (line : List ℕ) (Fault : Type 0) : Type 0 where
  pub taken : List ℕ
  pub ended : Bool
  pub story : Story
  pub bytes : Bytes (limit_of base.settings) taken ended story left0 left1
  pub prompt : Prompt (public_whole base story) (batch_most base.public) (most_of base) taken
      story.served gave
  pub carried : Carried tr base (keys taken) (secret_of (first_line taken)) store0 store1 high
      story ending
  pub grew : Outputs written0 written1 Fault ((printed story.answers ++ story.part) ++ line)
  -- a sink's fault ends the run: all answers were taken whole
  pub whole : Took written0 written1 (printed story.answers)
  pub answered : GoesOn (drop (length story.seen) (positions_of base story.entries))
      ⊎ LosesSome Fault ending
  pub flag : EndingFlag ending story.answers
  pub counted : EndingTally ending story.answers tally
  pub says : EndingSays ending (limit_of base.settings) taken left1 ended story.more story.part

-- the whole run, of words that the program takes, or doesn't, from this base, with the settings that they spell
pub record Reported (tally : Tally) (tr : TraceSink) (Takes : Type 0) (base : Base)
    (keys : List ℕ → KeySet)
    (left0 left1 : Option (List ℕ)) (gave : ℕ) (written0 written1 : Option (List ℕ))
    (store0 store1 : StoreState)
    (old new : Faults) (report : Report) : Type 0 where
  pub ending : Ending
  pub status : report.status ≡ status_of ending
  pub takes : EndingWords ending Takes
  pub shown : RunShown tally tr base keys left0 left1 gave written0 written1 store0 store1
      report.high ending (last_line ending) (SinksRose old new)
  -- so was what was printed of the one that was begun, unless the sink of the answers failed
  pub through : Took written0 written1 (printed shown.story.answers ++ shown.story.part)
      ⊎ Rises old.out new.out
  pub answered : GoesOn (drop (length shown.story.seen) (positions_of base shown.story.entries))
      ⊎ LosesSome (Rises old.out new.out) ending
  pub silent : new.trace ≢ old.trace
      → Outputs written0 written1 (Unit {0}) (printed shown.story.answers ++ shown.story.part)
  pub cause : StatusCause (ServesAlone base.flight base.public) ending old new
  pub completes : Takes → (input : List ℕ) → left0 ≡ Some input
      → KeepsLimits (limit_of base.settings) input
      → ¬ Rises old.source new.source → ¬ SinksRose old new
      → FromEach base (λ s. IsCompleted (IsHonest store0 store1)
      (StoreFails base store0 store1) (base.public.save ≡ true) ending)
