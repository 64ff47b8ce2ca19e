-- A batch of INSERTs, from the engine's own share of it and what follows that.
use Rattle.ob_exec.proofs.Words.{Agrees, Bool, by_fault, count_of, Draws, ended_at, Engine, Err, false, IfOk, is_due, is_fault, KeeperFault, KeeperState, length, List, None, Ok, Outcome, ReadsTrue, refl, Result, RevState, RunStop, SavesTables, SavingCause, Seen, SinkFault, StashFull, Stmt, StoreState, subst, sym, Tables, true, ◌-◌, ◌≡◌}
use Rattle.std.specs.Prelude.{MatchResult, ⊤}
use Rattle.ob_tables.specs.Agreeing.{public_of, replaced_of, seen_of}
use Rattle.ob_tables.specs.Batch.{AreBatch, AreServedWith, ServesBatch, outcomes_behind}
use Rattle.ob_tables.specs.Running.{IsSilent}
use Rattle.ob_tables.specs.declared.stop.RunStop.TheVariants.{NoMemory, StoreFault, Tampered}
use Rattle.ob_exec.proofs.EmittedRuns.{reads_before}
use Rattle.ob_exec.proofs.FollowedRuns.{carried_then}
use Rattle.ob_exec.proofs.Shares.{share_batch}
use Rattle.ob_exec.specs.Commits.{IsBegun, CommitsIfDue}
use Rattle.ob_exec.specs.Ran.{ShowsNothing}
use Rattle.ob_exec.specs.RanBatch.{RanBatch}
use Rattle.ob_exec.specs.declared.saving.Begun.{Begun}
use Rattle.ob_exec.specs.Saving.{MaySave}

-- tables that aren't saved are so by no emitter
silent_stop : {R : Type 0} (r : RunStop) (e : Engine R) (s t : StoreState) (k0 k1 : KeeperState) → SavingCause r e s t k0 k1 → IsSilent (Err r)
silent_stop SinkFault e s t k0 k1 cause = absurd cause
silent_stop StashFull e s t k0 k1 cause = absurd cause
silent_stop (Tampered q x) e s t k0 k1 cause = absurd cause
silent_stop other e s t k0 k1 cause = tt

module _ {R : Type 0} (state : R → RevState) (first : Stmt) (rest : List Stmt) (outcomes : List Outcome) (old : Engine R) (s : StoreState) where
  -- what they are answered, and what is seen
  record HasAnswered (result : Result Outcome RunStop) (new : Engine R) (t : StoreState) : Type 0 where
    shows : ShowsNothing result (seen_of new)
    others : IfOk result (λ outcome. AreServedWith (public_of old) (count_of old s) (is_fault outcome) rest outcomes)
    told : (tables : Tables) (d : Draws) → ReadsTrue state old s t tables → IfOk result (λ outcome. by_fault (is_fault outcome) ⊤ (outcomes ≡ outcomes_behind d (public_of old) (count_of old s) first rest tables))

  module _ (mid : Engine R) (s1 : StoreState) (begun : Begun) (result : Result Outcome RunStop) (new : Engine R) (t : StoreState) (k0 k1 : KeeperState) where
    answered_due : (outcome : Outcome) → ServesBatch state first rest (Ok outcome) outcomes old s mid s1 → (saving : Result (Unit {0}) RunStop) (last : Engine R) → SavesTables state begun.left saving mid s1 last t k0 k1
        → MatchResult saving (λ done. (result ≡ Ok outcome) × (new ≡ last)) (λ stop. (result ≡ Err stop) × (new ≡ ended_at (length t.asked - begun.accesses) last)) → HasAnswered result new t
    answered_due outcome serves (Ok done) last saves ends =
        let seen_is = saves.seen in
        subst (λ (r : Result Outcome RunStop). HasAnswered r new t) (sym ends.0)
        (subst (λ (e : Engine R). HasAnswered (Ok outcome) e t) (sym ends.1) (record {
          shows = subst (λ (x : Seen). ShowsNothing (Ok outcome) x) (sym seen_is) (record { silent = serves.serves.silent; plain = serves.serves.plain });
          others = serves.others;
          told = λ tables d reads. serves.told tables d (reads_before state old s s1 t saves.later tables reads);
        }))
    answered_due outcome serves (Err stop) last saves ends =
        subst (λ (r : Result Outcome RunStop). HasAnswered r new t) (sym ends.0)
        (subst (λ (e : Engine R). HasAnswered (Err stop) e t) (sym ends.1) (record {
          shows = record { silent = silent_stop stop mid s1 t k0 k1 saves.cause; plain = refl };
          others = tt;
          told = λ tables d reads. tt;
        }))

    answered_then : (answer : Result Outcome RunStop) (due : Bool) → is_due begun.saved answer mid.seen.end ≡ due → ServesBatch state first rest answer outcomes old s mid s1
        → CommitsIfDue state due begun answer result mid s1 new t k0 k1 → HasAnswered result new t
    answered_then answer false not serves stays =
        subst (λ (r : Result Outcome RunStop). HasAnswered r new t) (sym stays.answer_is)
        (subst (λ (e : Engine R). HasAnswered answer e t) (sym stays.engine_is)
        (subst (λ (u : StoreState). HasAnswered answer mid u) (sym stays.store_is)
        (record { shows = record { silent = serves.serves.silent; plain = serves.serves.plain }; others = serves.others; told = serves.told })))
    answered_then (Ok outcome) true due serves follows = answered_due outcome serves follows.saving follows.last follows.saves follows.ends
    answered_then (Err stop) true due serves follows = absurd (cc due)

    pub batch_then : Agrees state old s → replaced_of old ≡ None → IsBegun old.public s first begun
        → AreBatch old.public (count_of old s) first rest → (Saves : Type 0) → MaySave Saves old → (answer : Result Outcome RunStop) → ServesBatch state first rest answer outcomes old s mid s1
        → CommitsIfDue state (is_due begun.saved answer mid.seen.end) begun answer result mid s1 new t k0 k1 → RanBatch state first rest result outcomes old s new t k0 k1
    batch_then agrees settled as_begun batch Saves may answer serves behind =
        let answered = answered_then answer (is_due begun.saved answer mid.seen.end) refl serves behind in
        record {
          carried = carried_then state first rest ⊥ old s mid s1 agrees settled begun as_begun Saves may result new t k0 k1 answer (is_due begun.saved answer mid.seen.end) refl
              (share_batch state first rest answer outcomes old s mid s1 batch serves) behind;
          shows = answered.shows;
          others = answered.others;
          told = answered.told;
        }
