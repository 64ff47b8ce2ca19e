-- What statements in flight did, and what was printed of them.
use Rattle.ob_shell.proofs.Words.{ap, arith, closing_line, Engine, Err, Event, events_text, inl, inr, length, List, Ok, Option, Outcome, printed, public_of, RanInFlight, refl, Result, RevState, RunStop, Seen, Sends, served_as, slice_get, Some, Stmt, StoreState, suc, Tally, zero, ℕ, [], ◌++◌, ◌+◌, ◌<◌, ◌∙◌, ◌∷◌, ◌≡◌, ◌≤◌, ◌⊎◌}
use Rattle.std.specs.Prelude.{MatchResult, OnOk}
use Rattle.ob_exec.specs.RanFlight.{EndsSo, IsParted, RanFlight, RanInTurns, StopsFlight, asked_by, asked_since}
use Rattle.ob_inflight.specs.Closing.{Closed, ClosesAll}
use Rattle.ob_print.proofs.SentLemmas.{Sends-then}
use Rattle.ob_shell.specs.FlightAnswers.{EmitsUntil, FlewWhole, RanTogether, WantsTogether, answers_of}
use Rattle.ob_shell.specs.Tallies.{tally_after, tally_seen, tally_with}
use Rattle.ob_store.proofs.Steps.{since_later}
use Rattle.ob_tables.specs.declared.stop.RunStop.TheVariants as Runs
use Rattle.ob_turns.proofs.Closings.{closes_sent}
use Rattle.ob_turns.specs.Kept.{IsKept, closed_text, outcomes_of}

-- ---- their answers
-- what is printed of those that have ended
pub printed_ended : (ended : List Closed) (seens : List Seen) → length ended ≤ length seens → printed (answers_of ended seens) ≡ closed_text ended
unfolding printed
printed_ended [] seens few = refl
printed_ended (one ∷ ended) [] few = absurd (omega (arith, few))
printed_ended (one ∷ ended) (seen ∷ seens) few = ap (λ (l : List ℕ). (events_text one.events ++ closing_line one.outcome) ++ l) (printed_ended ended seens (omega (arith, few)))

-- and what is counted
pub counted_ended : (ended : List Closed) (seens : List Seen) (t : Tally) → tally_after t (answers_of ended seens) ≡ tally_seen t (outcomes_of ended) seens
unfolding tally_after tally_seen
counted_ended [] seens t = refl
counted_ended (one ∷ ended) [] t = refl
counted_ended (one ∷ ended) (seen ∷ seens) t = counted_ended ended seens (tally_with t one.outcome seen.plan)

-- a place at which there is something
pub within_get : {A : Type 0} (xs : List A) (i : ℕ) (x : A) → slice_get xs i ≡ Some x → i < length xs
within_get [] i x is = absurd (cc is)
within_get (y ∷ xs) zero x is = omega arith
within_get (y ∷ xs) (suc i) x is = let rest = within_get xs i x is in omega (arith, rest)

-- the output may end within what is emitted
abbrev pub MayCut : RunStop → Type 0
MayCut stop = (stop ≡ Runs.SinkFault) ⊎ (stop ≡ Runs.NoMemory)

-- ---- which sink it is
-- what an emitter of their answers has that stays
pub record Names {E N : Type 0} (grew cut : E → E → List Event → Type 0) (closed parted : E → E → ℕ → Outcome → Type 0) (name : E → N) : Type 0 where
  pub took : (a b : E) (events : List Event) → grew a b events → name b ≡ name a
  pub ends : (a b : E) (place : ℕ) (outcome : Outcome) → closed a b place outcome → name b ≡ name a
  pub halves : (a b : E) (events : List Event) → cut a b events → name b ≡ name a
  pub parts : (a b : E) (place : ℕ) (outcome : Outcome) → parted a b place outcome → name b ≡ name a

closes_named : {E N : Type 0} {grew cut : E → E → List Event → Type 0} {closed parted : E → E → ℕ → Outcome → Type 0} {name : E → N} → Names grew cut closed parted name → (place : ℕ) (ended : List Closed) (a b : E) → ClosesAll grew closed place ended a b → name b ≡ name a
closes_named {name = name} names place [] a b same = ap name same
closes_named names place (one ∷ more) a b all =
    closes_named names (place + 1) more all.0 b all.2 ∙ names.ends all.1.between all.0 place one.outcome all.1.closes ∙ names.took a all.1.between one.events all.1.took

-- ---- what the engine did
on_ok_of : {T : Type 0} (P Q : Type 0) (r : Result T RunStop) → MatchResult r (λ x. P) (λ stop. Q) → OnOk r P
on_ok_of P Q (Ok x) p = p
on_ok_of P Q (Err stop) p = tt

module _ {R E : Type 0} (state : R → RevState) (grew cut : E → E → List Event → Type 0) (closed parted : E → E → ℕ → Outcome → Type 0) (faults : E → ℕ) (words left : ℕ → ℕ) (stmts : List Stmt) (seens : List Seen)
    (old : Engine R) (s : StoreState) (new : Engine R) (t : StoreState) (out_old out_new : E) where
  abbrev pub Called : {T : Type 0} → Result T RunStop → Type 0
  Called result = RanFlight state grew cut closed parted faults words left stmts seens result old s new t out_old out_new

  ran_together : {T : Type 0} (result : Result T RunStop) → RanInTurns state words (served_as stmts seens) result old s new t → RanTogether state words (served_as stmts seens) result old s new t
  ran_together result ran = record {
    asked = ran.asked;
    later = since_later s t ran.later;
    keys = ran.keys;
    start = ran.start;
    from_closing = ran.from_closing;
    replaced = ran.replaced;
    indexes = ran.indexes;
    drawn = ran.drawn;
    room = ran.room;
    opened = ran.opened;
    untouched = ran.untouched;
    goes_on = on_ok_of _ _ result ran.goes_on;
  }

  pub ran_in_flight : {T : Type 0} (result : Result T RunStop) (ran : Called result) → RanInFlight state words left stmts seens ran.ended result old s new t
  ran_in_flight result ran = record {
    long = ran.long;
    ran = ran_together result ran.ran;
    rest = ran.rest;
    all = ran.all;
    each = ran.each;
    emits = ran.emits;
    turn = ran.turn;
    cause = ran.cause;
    failures = ran.failures;
    seals = ran.seals;
    means = ran.means;
  }

  unfoldable pub flew_whole : (ran : Called {T = Unit {0}} (Ok tt)) → FlewWhole state words left stmts seens (answers_of ran.ended seens) old s new t
  flew_whole ran = record { ended = ran.ended; ran = ran_in_flight (Ok tt) ran; answered = refl }

  pub named_whole : {N : Type 0} (name : E → N) → (ran : Called {T = Unit {0}} (Ok tt)) → Names grew cut closed parted name → name out_new ≡ name out_old
  named_whole name ran names = closes_named names 0 ran.ended out_old out_new ran.answered

  pub named_until : {N : Type 0} (name : E → N) (stop : RunStop) → (ran : Called {T = Unit {0}} (Err stop)) → Names grew cut closed parted name → name out_new ≡ name out_old
  named_until name stop ran names = go stop ran ∙ closes_named names 0 ran.ended out_old ran.stopped.between ran.stopped.took
    where
      go : (run : RunStop) (is : Called {T = Unit {0}} (Err run)) → name out_new ≡ name is.stopped.between
      go (Runs.Tampered q x) is = names.took is.stopped.between out_new is.stopped.events is.stopped.ends
      go Runs.StoreFault is = absurd is.cause
      go Runs.StashFull is = absurd is.cause
      go Runs.KeeperFault is = absurd is.cause
      go Runs.SinkFault is = elim is.stopped.ends [
        | inl short ↦ names.halves is.stopped.between out_new is.stopped.events short
        | inr closing ↦ names.parts closing.between out_new (length is.ended) closing.outcome closing.parts ∙ names.took is.stopped.between closing.between is.stopped.events closing.took
      ]
      go Runs.NoMemory is = elim is.stopped.ends [
        | inl (inl grown) ↦ names.took is.stopped.between out_new is.stopped.events grown
        | inl (inr short) ↦ names.halves is.stopped.between out_new is.stopped.events short
        | inr closing ↦ names.parts closing.between out_new (length is.ended) closing.outcome closing.parts ∙ names.took is.stopped.between closing.between is.stopped.events closing.took
      ]

  -- no more have ended than were seen
  pub few_ended : (ran : Called {T = Unit {0}} (Ok tt)) → length ran.ended ≤ length seens
  few_ended ran = let all = ran.all in let long = ran.long in omega (arith, all, long)

  pub few_until : (stop : RunStop) (ran : Called {T = Unit {0}} (Err stop)) → length ran.ended ≤ length seens
  few_until stop ran = let below = within_get seens (length ran.ended) ran.stopped.seen ran.stopped.shown in omega (arith, below)

  -- ---- a stop
  -- how many accesses of its own the one at a place asked
  abbrev own : ℕ → ℕ
  own place = asked_by (public_of old) words stmts seens (asked_since s t) place

  -- the text that was emitted by then, and how the output ends within it
  pub record SentUntil (written : E → Option (List ℕ)) (waiting : E → List ℕ) (stop : RunStop) (ran : Called {T = Unit {0}} (Err stop)) : Type 0 where
    pub part : List ℕ
    pub emits : EmitsUntil state stmts ran.stopped.stmt ran.stopped.seen (own (length ran.ended)) part old s new t
    pub memory : stop ≡ Runs.NoMemory → WantsTogether (public_of old) words stmts seens (length ran.ended) ran.stopped.stmt ran.stopped.seen (λ events outcome. EndsSo state stmts ran.stopped.stmt ran.stopped.seen (own (length ran.ended)) events old s new t outcome) part ran.ended s t
    pub sent : Sends (written out_old) (written out_new) (waiting out_old) (waiting out_new) ⊥ (closed_text ran.ended ++ part)
        ⊎ (MayCut stop × Sends (written out_old) (written out_new) (waiting out_old) (waiting out_new) (Unit {0}) (closed_text ran.ended ++ part))

  module _ (written : E → Option (List ℕ)) (waiting : E → List ℕ) (outcomes : E → List Outcome)
      (took : (a b : E) (events : List Event) → grew a b events → Sends (written a) (written b) (waiting a) (waiting b) ⊥ (events_text events) × (outcomes b ≡ outcomes a))
      (ends : (a b : E) (place : ℕ) (outcome : Outcome) → closed a b place outcome → Sends (written a) (written b) (waiting a) (waiting b) ⊥ (closing_line outcome) × IsKept place outcome (outcomes a) (outcomes b))
      (halves : (a b : E) (events : List Event) → cut a b events → Sends (written a) (written b) (waiting a) (waiting b) (Unit {0}) (events_text events))
      (parts : (a b : E) (place : ℕ) (outcome : Outcome) → parted a b place outcome → Sends (written a) (written b) (waiting a) (waiting b) (Unit {0}) (closing_line outcome)) where
    -- those that have ended
    sent_ended : (stop : RunStop) (ran : Called {T = Unit {0}} (Err stop)) → Sends (written out_old) (written ran.stopped.between) (waiting out_old) (waiting ran.stopped.between) ⊥ (closed_text ran.ended)
    sent_ended stop ran = closes_sent grew closed written waiting outcomes took ends 0 ran.ended out_old ran.stopped.between ran.stopped.took

    -- some events of the next one, or its closing line, for want of memory or not
    module _ (stop : RunStop) (ran : Called {T = Unit {0}} (Err stop)) where
      abbrev at : StopsFlight state grew cut closed parted words stmts seens ran.ended stop old s new t out_old out_new
      at = ran.stopped

      abbrev Wants : (part : List ℕ) → Type 0
      Wants part = stop ≡ Runs.NoMemory → WantsTogether (public_of old) words stmts seens (length ran.ended) at.stmt at.seen (λ events outcome. EndsSo state stmts at.stmt at.seen (own (length ran.ended)) events old s new t outcome) part ran.ended s t

      took_events : grew at.between out_new at.events → Wants (events_text at.events) → SentUntil written waiting stop ran
      took_events grown wants = record {
        part = events_text at.events;
        emits = record { events = at.events; told = at.told; text = inl refl };
        memory = wants;
        sent = inl (Sends-then (closed_text ran.ended) (events_text at.events) (sent_ended stop ran) (took at.between out_new at.events grown).0);
      }

      cut_events : MayCut stop → cut at.between out_new at.events → Wants (events_text at.events) → SentUntil written waiting stop ran
      cut_events may short wants = record {
        part = events_text at.events;
        emits = record { events = at.events; told = at.told; text = inl refl };
        memory = wants;
        sent = inr (may, Sends-then (closed_text ran.ended) (events_text at.events) (sent_ended stop ran) (halves at.between out_new at.events short));
      }

      cut_closing : MayCut stop → (short : IsParted grew parted (EndsSo state stmts at.stmt at.seen (own (length ran.ended)) at.events old s new t) (length ran.ended) at.events at.between out_new) → Wants (events_text at.events ++ closing_line short.outcome) → SentUntil written waiting stop ran
      cut_closing may short wants =
          let line = closing_line short.outcome in
          record {
            part = events_text at.events ++ line;
            emits = record { events = at.events; told = at.told; text = inr (short.outcome, short.ends, refl) };
            memory = wants;
            sent = inr (
              may,
              Sends-then (closed_text ran.ended) (events_text at.events ++ line) (sent_ended stop ran)
                  (Sends-then (events_text at.events) line (took at.between short.between at.events short.took).0 (parts short.between out_new (length ran.ended) short.outcome short.parts)),
            );
          }

      unwanted : (stop ≡ Runs.NoMemory → ⊥) → (part : List ℕ) → Wants part
      unwanted other part is = absurd (other is)

    -- what is emitted by then, for each stop
    pub sent_until : (stop : RunStop) (ran : Called {T = Unit {0}} (Err stop)) → SentUntil written waiting stop ran
    sent_until (Runs.Tampered q x) ran = took_events (Runs.Tampered q x) ran ran.stopped.ends (unwanted (Runs.Tampered q x) ran (λ is. cc is) _)
    sent_until Runs.SinkFault ran = elim ran.stopped.ends [
      | inl short ↦ cut_events Runs.SinkFault ran (inl refl) short (unwanted Runs.SinkFault ran (λ is. cc is) _)
      | inr closing ↦ cut_closing Runs.SinkFault ran (inl refl) closing (unwanted Runs.SinkFault ran (λ is. cc is) _)
    ]
    sent_until Runs.NoMemory ran = elim (ran.stopped.memory refl) [
      | inl make ↦ emitted (λ part is. inl make)
      | inr (inl before) ↦ emitted (λ part is. inr (inl before))
      | inr (inr (inl emission)) ↦ emitted (λ part is. inr (inr (inl (emission.0, emission.1))))
      | inr (inr (inr closing)) ↦ cut_closing Runs.NoMemory ran (inr refl) closing.1 (λ is. inr (inr (inr (closing.0, (ran.stopped.events, closing.1.outcome, closing.1.ends, refl)))))
    ]
      where
        emitted : ((part : List ℕ) → Wants Runs.NoMemory ran part) → SentUntil written waiting Runs.NoMemory ran
        emitted wants = elim ran.stopped.ends [
          | inl (inl grown) ↦ took_events Runs.NoMemory ran grown (wants _)
          | inl (inr short) ↦ cut_events Runs.NoMemory ran (inr refl) short (wants _)
          | inr closing ↦ cut_closing Runs.NoMemory ran (inr refl) closing (wants _)
        ]
    sent_until other ran = absurd ran.cause
