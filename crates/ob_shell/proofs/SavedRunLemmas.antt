-- A run whose tables are saved, after its first line.
use Rattle.ob_shell.proofs.Words.{ap, arith, Base, BeginsToSave, Bool, Config, empty_tally, Engine, Err, false, Faults, faults_of, Fetch, first_public, FirstLine, flagged, Flights, flights_at, FlightSettings, flying, Halt, high_of, IfOk, inr, IsFedBy, KeeperState, KeptEnded, KeyRead, KeySet, limit_of, List, machine_of, no_flights, None, Ok, Option, OutFailed, outside_of, Plain, Public, public_of, Ran, refl, RestsOn, Result, RevState, rows_of, ServesAlone, SessionRan, Silenced, Some, Stop, StopCause, StoreState, subst, sym, Tally, Traced, true, ℕ, [], ◌++◌, ◌∙◌, ◌≡◌, ◌≤◌}
use Rattle.ob_headline.proofs.DrawnSalts.{began_drew}
use Rattle.ob_headline.specs.KeyLine.{after_line, first_line, secret_of}
use Rattle.ob_shell.proofs.CountLemmas.{same_cause}
use Rattle.ob_shell.proofs.SessionLemmas.{keeper_counts, keeper_drawn, leaves, ran_after, ran_last}
use Rattle.ob_shell.proofs.TopLemmas.{after_last, after_secret, piece_is, piece_prompt, piece_within, shown_by}
use Rattle.ob_shell.proofs.TraceLemmas.{traced_none, traced_whole}
use Rattle.ob_shell.specs.EngagingSaved.{EndsUnsaved, EngagesSaved, RanSaved, RanSession, RanUnsaved, ServesSaved, StartsSaved}
use Rattle.ob_shell.proofs.StandLemmas.{flying_each, stands_flying}
use Rattle.ob_shell.specs.Top.{Carried, sink_of}
use Rattle.ob_shell.specs.declared.key.FirstLine.TheVariants.{Secret, Last}

-- ---- texts were served
module _ {R : Type 0} (state : R → RevState) (base : Base) (config : Config) (keys : KeySet) (secret salt : List ℕ) (first last : Engine R) (k0 k1 : KeeperState) (flight : Option FlightSettings) (left : Flights) (s0 s1 : StoreState) (engages : EngagesSaved state base config keys first s0 k0)
    (ended : KeptEnded) (most : ended.high ≤ rows_of last) (is_high : ended.high ≡ high_of last) (tracing : Bool) (t0 t1 : Option (List ℕ)) (f0 f1 : Fetch) (l0 l1 : Option (List ℕ)) (gave : ℕ) (w0 w1 : Option (List ℕ)) where
  unfoldable pub serves_saved : (result : Result Tally Stop) (old new : Faults)
      → SessionRan state tracing f0 f1 l0 l1 gave w0 w1 t0 t1 (machine_of first s0 k0 (flights_at flight)) (machine_of last s1 k1 left) (OutFailed ended.quiet old.out new.out) result
      → Traced tracing s0.asked s1.asked t0 t1 (ended.quiet ≡ true) → StopCause (ServesAlone flight (public_of first)) old new result → Silenced ended.quiet old new → ended.ending ≡ Plain (Ran (flagged result)) → IfOk result (λ (t : Tally). ended.tally ≡ t)
      → ServesSaved state (flying flight base) keys secret salt tracing ended f0 f1 l0 l1 gave w0 w1 t0 t1 s0 s1 old new k0 k1 (BeginsToSave state secret salt base keys (machine_of first s0 k0 no_flights))
  unfolding ran_after
  serves_saved result old new ran traced cause silent ending counted = record {
    result = result;
    ran = ran_after (flying flight base) config keys secret first last ended.high result k0 k1 left s0 s1 (stands_flying flight engages.stands) most is_high (sink_of tracing t0 t1) f0 f1 l0 l1 gave w0 w1 ran;
    traced_all = traced;
    cause = subst (λ (p : Public). StopCause (ServesAlone flight p) old new result) engages.stands.public cause;
    silent = silent;
    ending = ending;
    counted = counted;
    keeper = keeper_counts (flying flight base) config keys secret first last ended.high result k0 k1 left s0 s1 (stands_flying flight engages.stands) most is_high (sink_of tracing t0 t1) f0 f1 l0 l1 gave w0 w1 ran;
    drawn = keeper_drawn (flying flight base) config keys secret first last ended.high result k0 k1 left s0 s1 (stands_flying flight engages.stands) most is_high (sink_of tracing t0 t1) f0 f1 l0 l1 gave w0 w1 ran;
    leaves = λ begins.
        leaves (flying flight base) config keys secret first last ended.high result k0 k1 left s0 s1 (stands_flying flight engages.stands) most is_high (sink_of tracing t0 t1) f0 f1 l0 l1 gave w0 w1 ran secret salt begins.agrees
        (ap (λ (p : Public). p.save) (sym begins.public) ∙ begins.saves) begins.of begins.salted (λ mark is. flying_each flight base (λ x. RestsOn secret mark base.public s0.kept x.tables) (begins.rests mark is));
  }

flagged_cause : (Alone : Type 0) (result : Result Tally Stop) (old new : Faults) → StopCause Alone old new result → StopCause Alone old new (flagged result)
flagged_cause Alone (Ok tally) old new cause = cause
flagged_cause Alone (Err stop) old new cause = same_cause _ Tally Bool stop old new cause

-- ---- the whole run
-- the first line came, and no statement was served
pub unsaved : (config : Config) (tracing : Bool) (f0 f1 : Fetch) (none : f0.unread ≡ []) (start : f0.taken ≡ 0) (top : f0.limit ≡ limit_of (Some config)) (l0 l1 : Option (List ℕ)) (g0 : ℕ) {gave : ℕ} {line : Result FirstLine Halt}
    (key : List ℕ) (ended : KeptEnded) (w t0 t1 : Option (List ℕ)) (s0 s1 : StoreState) (a o r0 r1 : ℕ) (k0 k1 : KeeperState) → f1.taken ≤ f1.limit → IsFedBy f1 gave
    → (read : KeyRead f0 f1 l0 l1 line) → secret_of (first_line (read.passed ++ f1.unread)) ≡ Some key → EndsUnsaved config key tracing ended s0 s1 t0 t1 r0 r1 k0 k1
    → RanUnsaved config tracing ended (outside_of l0 g0 w t0 s0 (faults_of a o r0)) (outside_of l1 gave w t1 s1 (faults_of a o r1)) k0 k1
unsaved config tracing f0 f1 none start top l0 l1 g0 key ended w t0 t1 s0 s1 a o r0 r1 k0 k1 below by read is unserved =
    let tr = sink_of tracing t0 t0 in
    record {
      taken = read.fed.piece;
      given = read.fed.consumed;
      within = piece_within empty_tally tr refl (Some config) None f0 f1 none start top below by read.fed;
      prompt = piece_prompt empty_tally tr refl (Some config) None f0 f1 none start top below by (first_public config) 1 1 (omega arith) read.fed read.ahead;
      secret = key;
      keyed = ap (λ (l : List ℕ). secret_of (first_line l)) (piece_is read.fed none) ∙ is;
      unserved = unserved;
      written = refl;
      source = refl;
      out = refl;
    }

module _ {R : Type 0} (state : R → RevState) (config : Config) (flight : Option FlightSettings) (key : List ℕ) (tracing : Bool) (f0 f1 : Fetch) (none : f0.unread ≡ []) (start : f0.taken ≡ 0) (top : f0.limit ≡ limit_of (Some config)) (l0 l1 : Option (List ℕ)) (g0 gave : ℕ)
    (e : Engine R) (s0 s1 s2 : StoreState) (t0 t1 t2 w : Option (List ℕ)) (old : Faults) (r1 : ℕ) (k0 k1 k2 : KeeperState) (starts : StartsSaved state config key tracing e s0 s1 t0 t1 old.trace r1 k0 k1) (ended : KeptEnded) where
  top_here : f0.limit ≡ limit_of starts.base.settings
  top_here = top ∙ ap limit_of (sym starts.engages.stands.settings)

  abbrev begun_faults : Faults
  begun_faults = record old { trace = r1 }

  same_faults : begun_faults ≡ old
  same_faults = λ i. record old { trace = starts.faults i }

  ran_session : (f2 : Fetch) (l2 w2 : Option (List ℕ)) (new : Faults) {line : Result FirstLine Halt} (read : KeyRead f0 f1 l0 l1 line) → f2.taken ≤ f2.limit → IsFedBy f2 gave
      → (serves : ServesSaved state (flying flight starts.base) starts.keys key starts.salt tracing ended f1 f2 l1 l2 gave w w2 t1 t2 s1 s2 begun_faults new k1 k2 (BeginsToSave state key starts.salt starts.base starts.keys (machine_of e s1 k1 no_flights)))
      → after_line (read.fed.piece ++ serves.ran.piece) ≡ f1.unread ++ serves.ran.piece → secret_of (first_line (read.fed.piece ++ serves.ran.piece)) ≡ Some key
      → RanSession config flight tracing ended (outside_of l0 g0 w t0 s0 old) (outside_of l2 gave w2 t2 s2 new) k0 k2
  unfolding shown_by
  ran_session f2 l2 w2 new read below by serves after keyed = record {
    secret = key;
    salt = starts.salt;
    keys = starts.keys;
    base = starts.base;
    opened = s1;
    traced = t1;
    begun = k1;
    began = starts.began;
    set = starts.engages.stands.settings;
    first = starts.engages.stands.asked;
    result = flagged serves.result;
    shown = shown_by {keys = λ taken. starts.keys} (flying flight starts.base) key serves.result start top_here below by read serves.ran after keyed
        (subst (λ (x : Option (List ℕ)). Carried (sink_of tracing t1 t2) (flying flight starts.base) starts.keys x s1 s2 ended.high serves.ran.story (Ran (flagged serves.result))) (sym keyed) serves.ran.carried) serves.counted;
    keyed = keyed;
    traced_all = serves.traced_all;
    cause = subst (λ (f : Faults). StopCause (ServesAlone flight starts.base.public) f new (flagged serves.result)) same_faults (flagged_cause _ serves.result begun_faults new serves.cause);
    silent = subst (λ (f : Faults). Silenced ended.quiet f new) same_faults serves.silent;
    ending = serves.ending;
    keeper = serves.keeper;
    drew = serves.drawn ∙ began_drew starts.began;
    leaves = λ held is. serves.leaves (starts.saves held is);
  }

  -- what followed it was served
  pub secret_saved : (f2 : Fetch) (l2 w2 : Option (List ℕ)) (new : Faults) → (read : KeyRead f0 f1 l0 l1 (Ok (Secret key))) → f2.taken ≤ f2.limit → IsFedBy f2 gave
      → ServesSaved state (flying flight starts.base) starts.keys key starts.salt tracing ended f1 f2 l1 l2 gave w w2 t1 t2 s1 s2 begun_faults new k1 k2 (BeginsToSave state key starts.salt starts.base starts.keys (machine_of e s1 k1 no_flights))
      → RanSaved config flight tracing ended (outside_of l0 g0 w t0 s0 old) (outside_of l2 gave w2 t2 s2 new) k0 k2
  secret_saved f2 l2 w2 new read below by serves =
      let behind = after_secret serves.ran.piece none read in
      inr (inr (ran_session f2 l2 w2 new read below by serves behind.0 behind.1))

-- the input had ended
pub last_saved : {R : Type 0} (state : R → RevState) (config : Config) (flight : Option FlightSettings) (key : List ℕ) (tracing : Bool) (f0 f1 : Fetch) (none : f0.unread ≡ []) (start : f0.taken ≡ 0) (top : f0.limit ≡ limit_of (Some config)) (l0 l1 : Option (List ℕ)) (g0 gave : ℕ)
    (e : Engine R) (s0 s1 : StoreState) (t0 t1 w : Option (List ℕ)) (old : Faults) (r1 : ℕ) (k0 k1 : KeeperState) (starts : StartsSaved state config key tracing e s0 s1 t0 t1 old.trace r1 k0 k1) (ended : KeptEnded)
    → (read : KeyRead f0 f1 l0 l1 (Ok (Last key))) → f1.taken ≤ f1.limit → IsFedBy f1 gave → ended.high ≤ rows_of e → ended.high ≡ high_of e → ended.quiet ≡ false → ended.ending ≡ Plain (Ran (flagged (Ok empty_tally))) → ended.tally ≡ empty_tally
    → RanSaved config flight tracing ended (outside_of l0 g0 w t0 s0 old) (outside_of l1 gave w t1 s1 (record old { trace = r1 })) k0 k1
unfolding serves_saved ran_after ran_last
last_saved state config flight key tracing f0 f1 none start top l0 l1 g0 gave e s0 s1 t0 t1 w old r1 k0 k1 starts ended read below by most is_high loud ending counted =
    let ends = read.ends in
    let faults : Faults = record old { trace = r1 } in
    let ran = ran_last state tracing f1 l1 gave w t1 e s1 k1 (flights_at flight) ends.4 ends.2 ends.3 in
    let silent : Silenced ended.quiet faults faults = subst (λ (b : Bool). Silenced b faults faults) (sym loud) (refl, refl) in
    let serves = serves_saved state starts.base config starts.keys key starts.salt e e k1 k1 flight (flights_at flight) s1 s1 starts.engages ended most is_high tracing t1 t1 f1 f1 l1 l1 gave w w
    (Ok empty_tally) faults faults ran (traced_whole _ (traced_none tracing s1.asked t1)) (record { source = refl; out = refl; trace = refl }) silent ending counted in
    let behind = after_last serves.ran.piece refl none read in
    inr (inr (ran_session state config flight key tracing f0 f1 none start top l0 l1 g0 gave e s0 s1 s1 t0 t1 t1 w old r1 k0 k1 k1 starts ended f1 l1 w faults read below by serves behind.0 behind.1))
