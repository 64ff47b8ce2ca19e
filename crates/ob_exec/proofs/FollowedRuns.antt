-- A statement, from the engine's own share of it and what follows that.
use Rattle.ob_exec.proofs.Words.{Access, Agrees, ap, arith, Bool, changes_tables, Cut, End, ended_at, Engine, Err, Event, false, HasHalted, IfErr, IfOk, is_due, is_saved, KeeperState, KeySet, length, length-append, List, None, Ok, OnOk, Option, Outcome, Public, refl, Result, RevState, run_script, RunStop, SavesTables, Serves, SinkStops, skeleton, Stmt, Stopped, StoreState, subst, sym, true, Whole, ℕ, [], ◌&&◌, ◌++◌, ◌-◌, ◌∙◌, ◌≡◌, ◌≤◌}
use Rattle.std.proofs.Common.{◌≢◌}
use Rattle.std.specs.Prelude.{MatchResult}
use Rattle.ob_base.specs.declared.refusal.Refusal.TheVariants as Refusals
use Rattle.ob_script.specs.Saved.{left_then}
use Rattle.ob_seal.specs.KeySet.{pair_of}
use Rattle.ob_tables.proofs.GivenUpLemmas.{none_left}
use Rattle.ob_tables.proofs.SavedLemmas.{waits_behind}
use Rattle.ob_tables.specs.Agreeing.{opened_from, replaced_of}
use Rattle.ob_tables.specs.Running.{RanStatement, result_end}
use Rattle.ob_tables.specs.Saving.{Waits}
use Rattle.ob_tables.specs.Serving.{Answered}
use Rattle.ob_vault.specs.State.{HasNoneFrom}
use Rattle.ob_verdict.specs.declared.outcome.Outcome.TheVariants.{Refused}
use Rattle.ob_exec.proofs.ChangedScripts.{both_are, saved_changes, saved_saves, whole_end}
use Rattle.ob_exec.proofs.EmittedRuns.{answered_then, sink_then, stopped_then}
use Rattle.ob_exec.proofs.PlainRuns.{carried_plain}
use Rattle.ob_exec.proofs.SavedRuns.{carried_halted, carried_saved, end_own, few_mid, flat_mid}
use Rattle.ob_exec.proofs.Shares.{Share, share_alone}
use Rattle.ob_exec.specs.Commits.{IsBegun, CommitsIfDue}
use Rattle.ob_exec.specs.Ran.{CarriedOut, Ran, ShowsNothing, WasNotSaved, is_whole}
use Rattle.ob_exec.specs.declared.saving.Begun.{Begun}
use Rattle.ob_exec.specs.Saving.{MayBeSaved, MaySave}

-- a list that goes on from another is no shorter
goes_longer : (first more last : List Access) → last ≡ first ++ more → length first ≤ length last
goes_longer first more last is =
    let long = ap length is in
    let parts = length-append first more in
    omega (arith, long, parts)

-- what was answered after which nothing failed is the answer
saved_so : {answer result : Result Outcome RunStop} {outcome : Outcome} (A : Type 0) (B : RunStop → Type 0) (saving : Result (Unit {0}) RunStop)
    → MatchResult saving (λ done. (result ≡ answer) × A) (λ stop. (result ≡ Err stop) × B stop) → result ≡ Ok outcome → answer ≡ Ok outcome
saved_so A B (Ok done) ends is = sym ends.0 ∙ is
saved_so A B (Err stop) ends is = absurd (cc (ends.0, is))

pub answered_so : {R : Type 0} (state : R → RevState) (due : Bool) (begun : Begun) (answer result : Result Outcome RunStop) (e : Engine R) (s : StoreState) (new : Engine R) (t : StoreState) (k0 k1 : KeeperState)
    (outcome : Outcome) → CommitsIfDue state due begun answer result e s new t k0 k1 → result ≡ Ok outcome → answer ≡ Ok outcome
answered_so state true begun answer result e s new t k0 k1 outcome follows is = saved_so _ _ follows.saving follows.ends is
answered_so state false begun answer result e s new t k0 k1 outcome stays is = sym stays.answer_is ∙ is

module _ {R : Type 0} (state : R → RevState) (stmt : Stmt) (owed : List Stmt) (Halts : Type 0) (old : Engine R) (s : StoreState) (mid : Engine R) (s1 : StoreState) (agrees : Agrees state old s)
    (settled : replaced_of old ≡ None) (begun : Begun) (as_begun : IsBegun old.public s stmt begun) where
  abbrev p : Public
  p = old.public

  -- ---- whether tables are due to be saved
  due_saved : (answer : Result Outcome RunStop) → is_due begun.saved answer mid.seen.end ≡ true → is_saved p (skeleton stmt) ≡ true
  due_saved (Ok outcome) due = sym as_begun.saved ∙ (both_are (is_whole mid.seen.end) begun.saved due).1
  due_saved (Err stop) due = absurd (cc due)

  due_whole : (answer : Result Outcome RunStop) → is_due begun.saved answer mid.seen.end ≡ true → mid.seen.end ≡ Whole
  due_whole (Ok outcome) due = whole_end mid.seen.end (both_are (is_whole mid.seen.end) begun.saved due).0
  due_whole (Err stop) due = absurd (cc due)

  not_due : (answer : Result Outcome RunStop) → is_due begun.saved answer mid.seen.end ≡ false → WasNotSaved p (skeleton stmt) answer mid.seen.end
  not_due (Ok outcome) not = ap (λ (b : Bool). is_whole mid.seen.end && b) (sym as_begun.saved) ∙ not
  not_due (Err stop) not = tt

  -- ---- what ending it asks for
  pub forgotten_then : (answer : Result Outcome RunStop) → Share state stmt owed Halts answer old s mid s1 → answer ≡ Ok (Refused Refusals.StoreFault) → HasNoneFrom begun.next (state mid.vault.revs)
  forgotten_then answer share is =
      subst (λ (q : ℕ). HasNoneFrom q (state mid.vault.revs)) (sym as_begun.next)
      (none_left state (skeleton stmt) old s mid s1 agrees (subst (λ (r : Result Outcome RunStop). RanStatement state (skeleton stmt) r old s mid s1) is share.ran))

  -- after one that the store failed no tables are due to be saved
  pub undue_then : (answer : Result Outcome RunStop) → Share state stmt owed Halts answer old s mid s1 → answer ≡ Ok (Refused Refusals.StoreFault) → is_due begun.saved answer mid.seen.end ≡ false
  undue_then answer share is =
      let ends : mid.seen.end ≡ Cut (length s1.asked - length s.asked) = share.ran.ends ∙ ap (λ (r : Result Outcome RunStop). result_end r (length s1.asked - length s.asked)) is in
      ap (λ (r : Result Outcome RunStop). is_due begun.saved r mid.seen.end) is ∙ ap (λ (e : End). is_whole e && begun.saved) ends

  pub counted_then : (answer : Result Outcome RunStop) → Share state stmt owed Halts answer old s mid s1 → begun.accesses ≤ length s1.asked
  counted_then answer share = let longer = goes_longer s.asked (run_script p (skeleton stmt) mid.seen) s1.asked share.ran.asked in let count = as_begun.accesses in omega (arith, longer, count)

  -- what is the same of an engine that goes on
  saves_mid : (outcome : Outcome) → Share state stmt owed Halts (Ok outcome) old s mid s1 → mid.public.save ≡ p.save
  saves_mid outcome share = ap (λ (q : Public). q.save) share.ran.goes_on.public

  pub saves_then : (answer : Result Outcome RunStop) → Share state stmt owed Halts answer old s mid s1 → is_due begun.saved answer mid.seen.end ≡ true → mid.public.save ≡ true
  saves_then (Ok outcome) share due = saves_mid outcome share ∙ saved_saves p (skeleton stmt) (due_saved (Ok outcome) due)
  saves_then (Err stop) share due = absurd (cc due)

  pub able_then : (answer : Result Outcome RunStop) (Saves : Type 0) → MaySave Saves old → is_due begun.saved answer mid.seen.end ≡ true → Saves
  able_then answer Saves may due = may.saves (saved_saves p (skeleton stmt) (due_saved answer due))

  -- the engine's own share is done, and it can be saved as before
  may_mid : (outcome : Outcome) (Saves Still : Type 0) → Share state stmt owed Halts (Ok outcome) old s mid s1 → MaySave Saves old → (Saves → Still) → MaySave Still mid
  may_mid outcome Saves Still share may stays =
      let on = share.ran.goes_on in
      let before : mid.public.save ≡ true → p.save ≡ true = λ is. sym (saves_mid outcome share) ∙ is in
      let next_is = ap (λ (q : Public). q.next_region) on.public in
      record {
        saves = λ is. stays (may.saves (before is));
        salted = λ is q above. subst (λ (keys : KeySet). (pair_of keys q).salt ≢ None) (sym share.ran.keys) (may.salted (before is) q (omega (arith, above, next_is)));
        listed = λ is. share.ran.from_closing ∙ may.listed (before is) ∙ sym (ap (λ (q : Public). q.closing) on.public);
      }

  pub may_then : (answer : Result Outcome RunStop) (Saves : Type 0) → Share state stmt owed Halts answer old s mid s1 → MaySave Saves old → is_due begun.saved answer mid.seen.end ≡ true → MayBeSaved state begun.left mid s1
  may_then (Ok outcome) Saves share may due =
      let sk = skeleton stmt in
      let is = due_saved (Ok outcome) due in
      let whole = due_whole (Ok outcome) due in
      let here = may_mid outcome Saves Saves share may (λ x. x) in
      let waits : left_then p sk mid.seen.end ≡ begun.left = ap (left_then p sk) whole ∙ sym as_begun.left in
      record {
        agrees = share.ran.goes_on.agrees;
        lives = share.ran.goes_on.lives;
        waits = subst (λ (q : Option ℕ). Waits state q mid s1) waits (waits_behind state old s mid s1 agrees sk (Ok outcome) share.ran settled);
        settled = share.ran.replaced ∙ settled;
        flat = flat_mid state stmt owed Halts outcome old s mid s1 agrees share is whole;
        few = few_mid state stmt owed Halts outcome old s mid s1 agrees share is whole;
        salted = here.salted (saves_then (Ok outcome) share due) mid.public.next_region (omega arith);
      }
  may_then (Err stop) Saves share may due = absurd (cc due)

  -- ---- and what is known after it
  module _ (Saves : Type 0) (may : MaySave Saves old) (result : Result Outcome RunStop) (new : Engine R) (t : StoreState) (k0 k1 : KeeperState) where
    listed : is_saved p (skeleton stmt) ≡ true → opened_from old ≡ p.closing
    listed is = may.listed (saved_saves p (skeleton stmt) is)

    -- ---- its tables are due to be saved
    module _ (outcome : Outcome) (share : Share state stmt owed Halts (Ok outcome) old s mid s1) (due : is_due begun.saved (Ok outcome) mid.seen.end ≡ true) where
      carried_due : (saving : Result (Unit {0}) RunStop) (last : Engine R) → SavesTables state begun.left saving mid s1 last t k0 k1
          → MatchResult saving (λ done. (result ≡ Ok outcome) × (new ≡ last)) (λ stop. (result ≡ Err stop) × (new ≡ ended_at (length t.asked - begun.accesses) last))
          → CarriedOut state stmt owed Halts result old s new t k0 k1
      carried_due (Ok done) last saves ends =
          let is = due_saved (Ok outcome) due in
          subst (λ (r : Result Outcome RunStop). CarriedOut state stmt owed Halts r old s new t k0 k1) (sym ends.0)
          (subst (λ (e : Engine R). CarriedOut state stmt owed Halts (Ok outcome) old s e t k0 k1) (sym ends.1)
          (carried_saved state stmt owed Halts outcome old s mid s1 agrees share is (due_whole (Ok outcome) due) done begun.left as_begun.left (listed is) last t k0 k1 saves))
      carried_due (Err stop) last saves ends =
          let is = due_saved (Ok outcome) due in
          subst (λ (r : Result Outcome RunStop). CarriedOut state stmt owed Halts r old s new t k0 k1) (sym ends.0)
          (subst (λ (e : Engine R). CarriedOut state stmt owed Halts (Err stop) old s e t k0 k1) (sym ends.1)
          (carried_halted state stmt owed Halts outcome old s mid s1 agrees share is (due_whole (Ok outcome) due) stop begun.left last t k0 k1 saves
          (length t.asked - begun.accesses) (ap (λ (n : ℕ). length t.asked - n) as_begun.accesses)))

      may_due : (Still : Type 0) (saving : Result (Unit {0}) RunStop) (last : Engine R) → SavesTables state begun.left saving mid s1 last t k0 k1
          → MatchResult saving (λ done. (result ≡ Ok outcome) × (new ≡ last)) (λ stop. (result ≡ Err stop) × (new ≡ ended_at (length t.asked - begun.accesses) last))
          → (Saves → Still) → OnOk result (MaySave Still new)
      may_due Still (Ok done) last saves ends stays =
          let here = may_mid outcome Saves Still share may stays in
          let public = saves.goes_on.public in
          let before : last.public.save ≡ true → mid.public.save ≡ true = λ is. sym (ap (λ (q : Public). q.save) public) ∙ is in
          let next_is = ap (λ (q : Public). q.next_region) public in
          let behind : MaySave Still last = record {
            saves = λ is. here.saves (before is);
            salted = λ is q above. subst (λ (keys : KeySet). (pair_of keys q).salt ≢ None) (sym saves.keys) (here.salted (before is) q (omega (arith, above, next_is)));
            listed = λ is. saves.goes_on.listed;
          } in
          subst (λ (r : Result Outcome RunStop). OnOk r (MaySave Still new)) (sym ends.0) (subst (λ (e : Engine R). MaySave Still e) (sym ends.1) behind)
      may_due Still (Err stop) last saves ends stays = subst (λ (r : Result Outcome RunStop). OnOk r (MaySave Still new)) (sym ends.0) tt

    -- ---- by whether they are
    pub carried_then : (answer : Result Outcome RunStop) (due : Bool) → is_due begun.saved answer mid.seen.end ≡ due → Share state stmt owed Halts answer old s mid s1
        → CommitsIfDue state due begun answer result mid s1 new t k0 k1 → CarriedOut state stmt owed Halts result old s new t k0 k1
    carried_then answer false not share stays =
        subst (λ (r : Result Outcome RunStop). CarriedOut state stmt owed Halts r old s new t k0 k1) (sym stays.answer_is)
        (subst (λ (e : Engine R). CarriedOut state stmt owed Halts answer old s e t k0 k1) (sym stays.engine_is)
        (subst (λ (u : StoreState). CarriedOut state stmt owed Halts answer old s mid u k0 k1) (sym stays.store_is)
        (subst (λ (k : KeeperState). CarriedOut state stmt owed Halts answer old s mid s1 k0 k) (sym stays.keeper_is)
        (carried_plain state stmt owed Halts answer old s mid s1 agrees share (not_due answer not) k0 settled))))
    carried_then (Ok outcome) true due share follows = carried_due outcome share due follows.saving follows.last follows.saves follows.ends
    carried_then (Err stop) true due share follows = absurd (cc due)

    log_due : (saving : Result (Unit {0}) RunStop) (last : Engine R) → SavesTables state begun.left saving mid s1 last t k0 k1 → t.let_go ≡ s1.let_go
    log_due (Ok done) last saves = saves.later.log
    log_due (Err stop) last saves = saves.later.log

    -- the store still lists what was asked
    pub log_then : (answer : Result Outcome RunStop) (due : Bool) → is_due begun.saved answer mid.seen.end ≡ due → Share state stmt owed Halts answer old s mid s1
        → CommitsIfDue state due begun answer result mid s1 new t k0 k1 → t.let_go ≡ s.let_go
    log_then answer false not share stays = ap (λ (u : StoreState). u.let_go) stays.store_is ∙ share.ran.later.log
    log_then (Ok outcome) true due share follows = log_due follows.saving follows.last follows.saves ∙ share.ran.later.log
    log_then (Err stop) true due share follows = absurd (cc due)

    may_alone : (Still : Type 0) (answer : Result Outcome RunStop) → Share state stmt owed Halts answer old s mid s1 → (Saves → Still) → OnOk answer (MaySave Still mid)
    may_alone Still (Ok outcome) share stays = may_mid outcome Saves Still share may stays
    may_alone Still (Err stop) share stays = tt

    pub may_behind : (Still : Type 0) (answer : Result Outcome RunStop) (due : Bool) → is_due begun.saved answer mid.seen.end ≡ due → Share state stmt owed Halts answer old s mid s1
        → CommitsIfDue state due begun answer result mid s1 new t k0 k1 → (Saves → Still) → OnOk result (MaySave Still new)
    may_behind Still answer false not share same stays =
        subst (λ (r : Result Outcome RunStop). OnOk r (MaySave Still new)) (sym same.answer_is)
        (subst (λ (e : Engine R). OnOk answer (MaySave Still e)) (sym same.engine_is) (may_alone Still answer share stays))
    may_behind Still (Ok outcome) true due share follows stays = may_due outcome share due Still follows.saving follows.last follows.saves follows.ends stays
    may_behind Still (Err stop) true due share follows stays = absurd (cc due)

-- ---- a statement that is served by itself
-- what it emitted
record HasEmitted {R E : Type 0} (state : R → RevState) (grew cut : E → E → List Event → Type 0) (faults : E → ℕ) (stmt : Stmt) (result : Result Outcome RunStop) (old : Engine R) (s : StoreState) (new : Engine R) (t : StoreState)
    (out_old out_new : E) : Type 0 where
  answered : IfOk result (λ outcome. Answered state grew stmt outcome old s t out_old out_new)
  stopped : IfErr result (λ stop. Stopped state grew cut stmt stop old s new t out_old out_new)
  sink : SinkStops result (faults out_old) (faults out_new)

module _ {R E : Type 0} (state : R → RevState) (grew cut : E → E → List Event → Type 0) (faults : E → ℕ) (stmt : Stmt) (old : Engine R) (s : StoreState) (mid : Engine R) (s1 : StoreState) (out_old out_new : E)
    (agrees : Agrees state old s) (settled : replaced_of old ≡ None) (begun : Begun) (as_begun : IsBegun old.public s stmt begun) where
  abbrev Halts : Type 0
  Halts = HasHalted cut out_old out_new

  module _ (result : Result Outcome RunStop) (new : Engine R) (t : StoreState) (k0 k1 : KeeperState) where
    abbrev Has : Result Outcome RunStop → Engine R → StoreState → Type 0
    Has r e u = HasEmitted state grew cut faults stmt r old s e u out_old out_new

    module _ (outcome : Outcome) (serves : Serves state grew cut faults stmt (Ok outcome) old s mid s1 out_old out_new) (shows : old.public.save ≡ true → changes_tables (skeleton stmt) ≡ true → ShowsNothing (Ok outcome) mid.seen)
        (due : is_due begun.saved (Ok outcome) mid.seen.end ≡ true) where
      emitted_due : (saving : Result (Unit {0}) RunStop) (last : Engine R) → SavesTables state begun.left saving mid s1 last t k0 k1
          → MatchResult saving (λ done. (result ≡ Ok outcome) × (new ≡ last)) (λ stop. (result ≡ Err stop) × (new ≡ ended_at (length t.asked - begun.accesses) last)) → Has result new t
      emitted_due (Ok done) last saves ends =
          subst (λ (r : Result Outcome RunStop). Has r new t) (sym ends.0)
          (record { answered = answered_then state grew cut stmt outcome old s s1 t out_old out_new serves.answered saves.later; stopped = tt; sink = serves.sink })
      emitted_due (Err stop) last saves ends =
          let is = due_saved state stmt [] Halts old s mid s1 agrees settled begun as_begun (Ok outcome) due in
          let whole = due_whole state stmt [] Halts old s mid s1 agrees settled begun as_begun (Ok outcome) due in
          let changes = saved_changes old.public (skeleton stmt) is in
          let silent = (shows (saved_saves old.public (skeleton stmt) is) changes).silent in
          let fine = end_own outcome _ (sym serves.ran.ends ∙ whole) in
          subst (λ (r : Result Outcome RunStop). Has r new t) (sym ends.0)
          (record {
            answered = tt;
            stopped = stopped_then state grew cut stmt outcome old s s1 t out_old out_new serves.answered changes silent fine mid new k0 k1 stop saves.cause;
            sink = sink_then state grew cut stmt outcome old s s1 t out_old out_new serves.answered changes silent fine mid new k0 k1 (faults out_old) (faults out_new) serves.sink stop saves.cause;
          })

    emitted_then : (answer : Result Outcome RunStop) (due : Bool) → is_due begun.saved answer mid.seen.end ≡ due → Serves state grew cut faults stmt answer old s mid s1 out_old out_new
        → (old.public.save ≡ true → changes_tables (skeleton stmt) ≡ true → ShowsNothing answer mid.seen) → CommitsIfDue state due begun answer result mid s1 new t k0 k1 → Has result new t
    emitted_then answer false not serves shows stays =
        subst (λ (r : Result Outcome RunStop). Has r new t) (sym stays.answer_is)
        (subst (λ (e : Engine R). Has answer e t) (sym stays.engine_is)
        (subst (λ (u : StoreState). Has answer mid u) (sym stays.store_is) (record { answered = serves.answered; stopped = serves.stopped; sink = serves.sink })))
    emitted_then (Ok outcome) true due serves shows follows = emitted_due outcome serves shows due follows.saving follows.last follows.saves follows.ends
    emitted_then (Err stop) true due serves shows follows = absurd (cc due)

    pub ran_then : (Saves : Type 0) → MaySave Saves old → (answer : Result Outcome RunStop) → Serves state grew cut faults stmt answer old s mid s1 out_old out_new
        → (old.public.save ≡ true → changes_tables (skeleton stmt) ≡ true → ShowsNothing answer mid.seen) → CommitsIfDue state (is_due begun.saved answer mid.seen.end) begun answer result mid s1 new t k0 k1
        → Ran state grew cut faults stmt result old s new t out_old out_new k0 k1
    ran_then Saves may answer serves shows behind =
        let emitted = emitted_then answer (is_due begun.saved answer mid.seen.end) refl serves shows behind in
        record {
          carried = carried_then state stmt [] Halts old s mid s1 agrees settled begun as_begun Saves may result new t k0 k1 answer (is_due begun.saved answer mid.seen.end) refl
              (share_alone state grew cut faults stmt answer old s mid s1 out_old out_new serves shows) behind;
          log = log_then state stmt [] Halts old s mid s1 agrees settled begun as_begun Saves may result new t k0 k1 answer (is_due begun.saved answer mid.seen.end) refl
              (share_alone state grew cut faults stmt answer old s mid s1 out_old out_new serves shows) behind;
          answered = emitted.answered;
          stopped = emitted.stopped;
          sink = emitted.sink;
        }
