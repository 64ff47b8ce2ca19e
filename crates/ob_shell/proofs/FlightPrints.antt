-- What a sink took of the answers of statements in flight.
use Rattle.ob_shell.proofs.Words.{ap, append-nil, arith, Bool, closing_line, Engine, Err, Event, events_text, false, inl, inr, length, List, Ok, Option, Outcome, Outputs, Outputs-by, Outputs-fault, Outputs-whole, printed, PrintsUntil, refl, RevState, RunStop, Seen, Sends, session_stop, Stmt, StoreState, subst, sym, Tally, true, ℕ, [], ◌++◌, ◌+◌, ◌∙◌, ◌≡◌, ◌⊎◌}
use Rattle.std.proofs.Math.Seq.{take_all}
use Rattle.ob_exec.specs.RanFlight.{RanFlight}
use Rattle.ob_print.proofs.SentLemmas.{Sends-cut, flushed, flushed_cut, flushed_whole}
use Rattle.ob_shell.proofs.InFlightLemmas.{SentUntil, counted_ended, few_ended, few_until, flew_whole, printed_ended, ran_in_flight, sent_until}
use Rattle.ob_shell.specs.FlightAnswers.{CutsFlight, FlewUntil, answers_of}
use Rattle.ob_shell.specs.Flying.{CountsFlight, PrintsWhole, RestsFlight}
use Rattle.ob_shell.specs.Tallies.{tally_after, tally_seen}
use Rattle.ob_tables.specs.declared.stop.RunStop.TheVariants as Runs
use Rattle.ob_turns.proofs.Closings.{closes_kept, closes_sent}
use Rattle.ob_turns.specs.Kept.{IsKept, closed_text}

-- all of it is printed
prints_all : (stop : RunStop) (text : List ℕ) → PrintsUntil (session_stop stop) text text
prints_all Runs.NoMemory text = record { lost = []; whole = sym (append-nil text) }
prints_all other text = refl

-- what is known of an emitter of their answers
pub record Knows {E : Type 0} (grew cut : E → E → List Event → Type 0) (closed parted : E → E → ℕ → Outcome → Type 0) (written : E → Option (List ℕ)) (waiting : E → List ℕ) (outcomes : E → List Outcome) : Type 0 where
  pub took : (a b : E) (events : List Event) → grew a b events → Sends (written a) (written b) (waiting a) (waiting b) ⊥ (events_text events) × (outcomes b ≡ outcomes a)
  pub ends : (a b : E) (place : ℕ) (outcome : Outcome) → closed a b place outcome → Sends (written a) (written b) (waiting a) (waiting b) ⊥ (closing_line outcome) × IsKept place outcome (outcomes a) (outcomes b)
  pub halves : (a b : E) (events : List Event) → cut a b events → Sends (written a) (written b) (waiting a) (waiting b) (Unit {0}) (events_text events)
  pub parts : (a b : E) (place : ℕ) (outcome : Outcome) → parted a b place outcome → Sends (written a) (written b) (waiting a) (waiting b) (Unit {0}) (closing_line outcome)

module _ {R E : Type 0} {state : R → RevState} {grew cut : E → E → List Event → Type 0} {closed parted : E → E → ℕ → Outcome → Type 0} {faults : E → ℕ} {words left : ℕ → ℕ} {stmts : List Stmt} {seens : List Seen}
    {old : Engine R} {s : StoreState} {new : Engine R} {t : StoreState} {out_old out_new : E} where
  module _ (written : E → Option (List ℕ)) (waiting : E → List ℕ) (outcomes : E → List Outcome) (none : waiting out_old ≡ []) where
    -- they were answered
    module _ (ran : RanFlight {T = Unit {0}} state grew cut closed parted faults words left stmts seens (Ok tt) old s new t out_old out_new) (knows : Knows grew cut closed parted written waiting outcomes) where
      sent_all : Sends (written out_old) (written out_new) (waiting out_old) (waiting out_new) ⊥ (printed (answers_of ran.ended seens))
      sent_all =
          subst (λ (l : List ℕ). Sends (written out_old) (written out_new) (waiting out_old) (waiting out_new) ⊥ l)
          (sym (printed_ended ran.ended seens (few_ended state grew cut closed parted faults words left stmts seens old s new t out_old out_new ran)))
          (closes_sent grew closed written waiting outcomes knows.took knows.ends 0 ran.ended out_old out_new ran.answered)

      pub prints_whole : {F : Type 0} {w : Option (List ℕ)} → length (outcomes out_old) ≡ length stmts → Outputs (written out_new) w F (waiting out_new) → ¬ F
          → PrintsWhole state words left stmts seens (outcomes out_new) (written out_old) w old s new t
      unfolding flew_whole
      prints_whole {w = w} long flush fine =
          let all = ran.all in
          let kept = closes_kept grew closed written waiting outcomes knows.took knows.ends 0 ran.ended out_old out_new ran.answered (omega (arith, all, long)) in
          let size = kept.0 in
          record {
            answers = answers_of ran.ended seens;
            flew = flew_whole state grew cut closed parted faults words left stmts seens old s new t out_old out_new ran;
            counted = sym (take_all (0 + length ran.ended) (outcomes out_new) (omega (arith, all, long, size))) ∙ kept.1;
            appends = flushed_whole (printed (answers_of ran.ended seens)) none sent_all flush fine;
          }

      -- and the sink failed when the rest was handed on
      pub prints_behind : {F Lost : Type 0} {w : Option (List ℕ)} → Outputs (written out_new) w F (waiting out_new) → Lost → CutsFlight state words left stmts Runs.SinkFault (written out_old) w Lost old s new t
      prints_behind flush lost = record {
        seens = seens;
        bytes = printed (answers_of ran.ended seens);
        flew = inr (refl, answers_of ran.ended seens, refl, flew_whole state grew cut closed parted faults words left stmts seens old s new t out_old out_new ran);
        cut = Outputs-fault lost (flushed_cut (printed (answers_of ran.ended seens)) none sent_all flush);
      }

    -- they were stopped
    module _ (stop : RunStop) (ran : RanFlight {T = Unit {0}} state grew cut closed parted faults words left stmts seens (Err stop) old s new t out_old out_new) (knows : Knows grew cut closed parted written waiting outcomes) where
      abbrev sent : SentUntil state grew cut closed parted faults words left stmts seens old s new t out_old out_new written waiting stop ran
      sent = sent_until state grew cut closed parted faults words left stmts seens old s new t out_old out_new written waiting outcomes knows.took knows.ends knows.halves knows.parts stop ran

      abbrev text : List ℕ
      text = closed_text ran.ended ++ sent.part

      same : text ≡ printed (answers_of ran.ended seens) ++ sent.part
      same = ap (λ (l : List ℕ). l ++ sent.part) (sym (printed_ended ran.ended seens (few_until state grew cut closed parted faults words left stmts seens old s new t out_old out_new stop ran)))

      flew_until : (bytes : List ℕ) → PrintsUntil (session_stop stop) bytes text → FlewUntil state words left stmts seens stop bytes old s new t
      flew_until bytes prints = record {
        ended = ran.ended;
        ran = ran_in_flight state grew cut closed parted faults words left stmts seens old s new t out_old out_new (Err stop) ran;
        stmt = ran.stopped.stmt;
        seen = ran.stopped.seen;
        next = ran.stopped.next;
        shown = ran.stopped.shown;
        part = sent.part;
        emits = sent.emits;
        memory = sent.memory;
        printed = subst (λ (l : List ℕ). PrintsUntil (session_stop stop) bytes l) same prints;
      }

      -- a sink failed: what it took is a first part
      pub prints_lost : {Lost : Type 0} → Lost → CutsFlight state words left stmts stop (written out_old) (written out_new) Lost old s new t
      prints_lost lost = record {
        seens = seens;
        bytes = text;
        flew = inl (flew_until text (prints_all stop text));
        cut = Outputs-fault lost (elim sent.sent [ inl all ↦ Sends-cut text none all | inr half ↦ Sends-cut text none half.1 ]);
      }

      -- the rest was handed on, unless a sink failed then
      pub prints_until : {F Lost : Type 0} {w : Option (List ℕ)} → (stop ≡ Runs.SinkFault → ⊥) → Outputs (written out_new) w F (waiting out_new) → (F → Lost) → CutsFlight state words left stmts stop (written out_old) w Lost old s new t
      prints_until {w = w} other flush lost = elim sent.sent [
        | inl all ↦ record {
          seens = seens;
          bytes = text;
          flew = inl (flew_until text (prints_all stop text));
          cut = Outputs-by lost (flushed text none all flush);
        }
        | inr half ↦
            let short = flushed_cut text none half.1 flush in
            record {
              seens = seens;
              bytes = short.grown;
              flew = inl (flew_until short.grown (elim half.0 [
                | inl sink ↦ absurd (other sink)
                | inr memory ↦ subst (λ (r : RunStop). PrintsUntil (session_stop r) short.grown text) (sym memory) short.prefix
              ]));
              cut = Outputs-whole _ _ _ _ short.appends;
            }
      ]

-- ---- after the answers
-- they were counted
pub counts_whole : {R : Type 0} {state : R → RevState} {words left : ℕ → ℕ} {stmts : List Stmt} {seens : List Seen} {outcomes : List Outcome} {w0 w1 : Option (List ℕ)} {old new : Engine R} {s t : StoreState} (tally counted : Tally) (outs : List Outcome)
    → PrintsWhole state words left stmts seens outcomes w0 w1 old s new t → counted ≡ tally_seen tally outs seens → outs ≡ outcomes → CountsFlight state words left stmts tally counted w0 w1 old s new t
counts_whole {seens = seens} tally counted outs whole is same = record {
  answers = whole.answers;
  answered = record { seens = seens; flew = whole.flew; appends = whole.appends };
  counted = is ∙ ap (λ (l : List Outcome). tally_seen tally l seens) (same ∙ whole.counted) ∙ sym (counted_ended whole.flew.ended seens tally) ∙ ap (tally_after tally) (sym whole.flew.answered);
}

-- a sink of the trace failed, and theirs took all
pub cuts_behind : {R : Type 0} {state : R → RevState} {words left : ℕ → ℕ} {stmts : List Stmt} {tally counted : Tally} {w0 w1 : Option (List ℕ)} {Lost : Type 0} {old new : Engine R} {s t : StoreState} → CountsFlight state words left stmts tally counted w0 w1 old s new t
    → CutsFlight state words left stmts Runs.SinkFault w0 w1 Lost old s new t
cuts_behind counts = record {
  seens = counts.answered.seens;
  bytes = printed counts.answers;
  flew = inr (refl, counts.answers, refl, counts.answered.flew);
  cut = Outputs-whole _ _ _ _ counts.answered.appends;
}

-- nothing was lost of what was printed
pub cuts_unlost : {R : Type 0} {state : R → RevState} {words left : ℕ → ℕ} {stmts : List Stmt} {stop : RunStop} {w0 w1 : Option (List ℕ)} {quiet : Bool} {P G : Type 0} {old new : Engine R} {s t : StoreState} → quiet ≡ false
    → RestsFlight words left stop w0 w1 old s new t ⊎ CutsFlight state words left stmts stop w0 w1 ((quiet ≡ true) × P) old s new t
    → RestsFlight words left stop w0 w1 old s new t ⊎ CutsFlight state words left stmts stop w0 w1 G old s new t
cuts_unlost not (inl rests) = inl rests
cuts_unlost not (inr cuts) = inr (record { seens = cuts.seens; bytes = cuts.bytes; flew = cuts.flew; cut = Outputs-by (λ lost. absurd (cc (not, lost.0))) cuts.cut })
