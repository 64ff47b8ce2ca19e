-- A run whose tables are kept, all except its last line.
use Rattle.ob_shell.proofs.Words.{ap, arith, BadKey, Base, Bool, Config, empty_tally, Engine, Err, false, Faults, faults_of, Fetch, first_public, FirstLine, Flights, flights_at, FlightSettings, flying, Halt, has_refused, high_of, IsFedBy, IsFresh, KeeperState, KeptEnded, KeyRead, keys_in, keys_of, limit_of, List, machine_of, Ok, Option, OutFailed, outside_of, Plain, Public, public_of, Ran, refl, Result, RevState, Rises, rows_of, ServesAlone, SessionRan, Silenced, Some, Stop, StopCause, StoreState, subst, sym, Tally, Traced, true, ℕ, [], ◌++◌, ◌∙◌, ◌≡◌, ◌≤◌}
use Rattle.ob_base.specs.declared.refusal.Stop.TheVariants.{SourceFault}
use Rattle.ob_headline.specs.KeyLine.{after_line, first_line, secret_of}
use Rattle.ob_headline.specs.Words.{keys_with}
use Rattle.ob_shell.proofs.CountLemmas.{same_cause}
use Rattle.ob_shell.proofs.SessionLemmas.{closed_behind, ran_after}
use Rattle.ob_shell.proofs.TopLemmas.{piece_is, piece_prompt, piece_within, shown_bad_key, shown_by, shown_source_fault}
use Rattle.ob_shell.specs.Engaging.{ClosedRun, ClosesRun, EndsUnserved, Engages, RanBegun, RanStopped, RanUnbegun, RanUnkeyed, RanWhole, ServesAll, StartsRun, StopsRun}
use Rattle.ob_shell.proofs.StandLemmas.{stands_flying}
use Rattle.ob_shell.specs.Top.{Carried, RanAfter, sink_of}
use Rattle.ob_shell.specs.declared.key.FirstLine.TheVariants.{Bad}

-- ---- texts were served
never_saves : (b : Bool) → (b ≡ true → ⊥) → b ≡ false
never_saves true not = absurd (not refl)
never_saves false not = refl

module _ {R : Type 0} (state : R → RevState) (base : Base) (config : Config) (key : List ℕ) (first last : Engine R) (p0 p1 : KeeperState) (flight : Option FlightSettings) (left : Flights) (s0 s1 : StoreState) (engages : Engages state base config (keys_of key) first s0)
    (high : ℕ) (most : high ≤ rows_of last) (is_high : high ≡ high_of last) (tracing : Bool) (t0 t1 : Option (List ℕ)) (f0 f1 : Fetch) (l0 l1 : Option (List ℕ)) (gave : ℕ) (w0 w1 : Option (List ℕ)) where
  -- no tables are saved
  pub unsaved : base.public.save ≡ false
  unsaved = ap (λ (p : Public). p.save) (sym engages.stands.public) ∙ never_saves (public_of first).save engages.ready.saves.saves

  pub serves_stop : (stop : Stop) (ended : KeptEnded) (k : KeeperState) (old new : Faults) → ended.high ≡ high
      → SessionRan state tracing f0 f1 l0 l1 gave w0 w1 t0 t1 (machine_of first s0 p0 (flights_at flight)) (machine_of last s1 p1 left) (OutFailed ended.quiet old.out new.out) (Err stop)
      → Traced tracing s0.asked s1.asked t0 t1 (ended.quiet ≡ true) → StopCause {T = Tally} (ServesAlone flight (public_of first)) old new (Err stop) → Silenced ended.quiet old new → ended.ending ≡ Plain (Ran (Err stop))
      → StopsRun state (flying flight base) key tracing ended f0 f1 l0 l1 gave w0 w1 t0 t1 s0 s1 old new k k
  serves_stop stop ended k old new rows ran traced cause silent ending = record {
    stop = stop;
    ran = subst (λ (n : ℕ). RanAfter state (sink_of tracing t0 t1) (flying flight base) (keys_of key) (Some key) f0 f1 l0 l1 gave w0 w1 s0 s1 n (OutFailed ended.quiet old.out new.out) (Err stop)) (sym rows)
        (ran_after (flying flight base) config (keys_of key) key first last high (Err stop) p0 p1 left s0 s1 (stands_flying flight engages.stands) most is_high (sink_of tracing t0 t1) f0 f1 l0 l1 gave w0 w1 ran);
    traced_all = traced;
    cause = subst (λ (p : Public). StopCause {T = Bool} (ServesAlone flight p) old new (Err stop)) engages.stands.public (same_cause _ Tally Bool stop old new cause);
    silent = silent;
    ending = ending;
    kept = refl;
  }

  unfoldable pub serves_all : (tally : Tally) (ended : KeptEnded) (s2 : StoreState) (t2 : Option (List ℕ)) (k0 k1 : KeeperState) (old new : Faults)
      → SessionRan state tracing f0 f1 l0 l1 gave w0 w1 t0 t1 (machine_of first s0 p0 (flights_at flight)) (machine_of last s1 p1 left) (OutFailed false old.out new.out) (Ok tally) → Traced tracing s0.asked s1.asked t0 t1 ⊥
      → new.source ≡ old.source → new.out ≡ old.out → ClosesRun state tally tracing last ended s1 s2 t1 t2 old.trace new.trace k0 k1
      → ServesAll state (flying flight base) key tracing ended f0 f1 l0 l1 gave w0 w1 t0 t2 s0 s2 old new k0 k1
  unfolding ran_after
  serves_all tally ended s2 t2 k0 k1 old new ran traced source out closes = record {
    tally = tally;
    high = high;
    served = s1;
    traced1 = t1;
    ran = ran_after (flying flight base) config (keys_of key) key first last high (Ok tally) p0 p1 left s0 s1 (stands_flying flight engages.stands) most is_high (sink_of tracing t0 t1) f0 f1 l0 l1 gave w0 w1 ran;
    traced_all = traced;
    source = source;
    out = out;
    closed = record {
      tables = closed_behind (flying flight base) config (keys_of key) key first last high (Ok tally) p0 p1 left s0 s1 (stands_flying flight engages.stands) most is_high (sink_of tracing t0 t1) f0 f1 l0 l1 gave w0 w1 ran
          tally refl unsaved engages.from s2 closes.result closes.engine tracing ended.ending t1 t2 old.trace new.trace k0 k1 closes.traced_all closes.later closes.ends;
      later = closes.later;
      quiet = closes.quiet;
      rows = closes.high ∙ sym is_high;
      counted = closes.counted;
    };
  }

-- ---- the whole run
module _ (config : Config) (flight : Option FlightSettings) (tracing : Bool) (f0 f1 : Fetch) (none : f0.unread ≡ []) (start : f0.taken ≡ 0) (top : f0.limit ≡ limit_of (Some config)) (l0 l1 : Option (List ℕ)) (g0 : ℕ) where
  -- the first line didn't come
  pub unkeyed_fault : {gave : ℕ} (w t : Option (List ℕ)) (s : StoreState) (a b o r : ℕ) (k : KeeperState) → f1.taken ≤ f1.limit → IsFedBy f1 gave → IsFresh s → KeyRead f0 f1 l0 l1 (Err Halt.SourceFault) → Rises a b
      → RanUnkeyed config flight tracing (record { ending = Plain (Ran (Err SourceFault)); quiet = false; high = 0; tally = empty_tally })
      (outside_of l0 g0 w t s (faults_of a o r)) (outside_of l1 gave w t s (faults_of b o r)) k k
  unfolding shown_source_fault
  unkeyed_fault w t s a b o r k below by fresh read rises =
      let e = piece_is read.fed none in
      let ends = rw (← e) at read.ends in
      record {
        ending = Ran (Err SourceFault);
        is = refl;
        read = λ not. absurd (cc not);
        shown = shown_source_fault empty_tally (sink_of tracing t t) refl (Some config) flight f0 f1 none start top below by w s fresh read;
        ends = ends.0;
        unanswered = refl;
        cause = (rises, refl, refl);
        loud = refl;
        silent = (refl, refl);
        traced = refl;
        unasked = refl;
        kept = refl;
      }

  -- it is no secret
  pub unkeyed_line : {gave : ℕ} (w t : Option (List ℕ)) (s : StoreState) (a o r : ℕ) (k : KeeperState) → f1.taken ≤ f1.limit → IsFedBy f1 gave → IsFresh s → KeyRead f0 f1 l0 l1 (Ok Bad)
      → RanUnkeyed config flight tracing (record { ending = Plain BadKey; quiet = false; high = 0; tally = empty_tally }) (outside_of l0 g0 w t s (faults_of a o r)) (outside_of l1 gave w t s (faults_of a o r)) k k
  unfolding shown_bad_key
  unkeyed_line w t s a o r k below by fresh read = record {
    ending = BadKey;
    is = refl;
    read = λ not. absurd (cc not);
    shown = shown_bad_key empty_tally (sink_of tracing t t) refl (Some config) flight f0 f1 none start top below by w s fresh read;
    ends = tt;
    unanswered = refl;
    cause = record { source = refl; out = refl; trace = refl };
    loud = refl;
    silent = (refl, refl);
    traced = refl;
    unasked = refl;
    kept = refl;
  }

  -- it came, and no statement was served
  pub unbegun : {gave : ℕ} {line : Result FirstLine Halt} (key : List ℕ) (ended : KeptEnded) (w t0 t1 : Option (List ℕ)) (s0 s1 : StoreState) (a o r0 r1 : ℕ) (k0 k1 : KeeperState) → f1.taken ≤ f1.limit → IsFedBy f1 gave
      → (read : KeyRead f0 f1 l0 l1 line) → secret_of (first_line (read.passed ++ f1.unread)) ≡ Some key → EndsUnserved config key tracing ended s0 s1 t0 t1 r0 r1 k0 k1
      → RanUnbegun config tracing ended (outside_of l0 g0 w t0 s0 (faults_of a o r0)) (outside_of l1 gave w t1 s1 (faults_of a o r1)) k0 k1
  unbegun key ended w t0 t1 s0 s1 a o r0 r1 k0 k1 below by read is unserved =
      let tr = sink_of tracing t0 t0 in
      record {
        taken = read.fed.piece;
        given = read.fed.consumed;
        within = piece_within empty_tally tr refl (Some config) flight f0 f1 none start top below by read.fed;
        prompt = piece_prompt empty_tally tr refl (Some config) flight f0 f1 none start top below by (first_public config) 1 1 (omega arith) read.fed read.ahead;
        secret = key;
        keyed = ap (λ (l : List ℕ). secret_of (first_line l)) (piece_is read.fed none) ∙ is;
        unserved = unserved;
        written = refl;
        source = refl;
        out = refl;
      }

  -- texts were served
  module _ {R : Type 0} (state : R → RevState) (key : List ℕ) (e : Engine R) (s0 s1 : StoreState) (t0 t1 : Option (List ℕ)) (w : Option (List ℕ)) (old : Faults) (r1 : ℕ) (k0 k1 : KeeperState)
      (starts : StartsRun state config key tracing e s0 s1 t0 t1 old.trace r1 k0 k1) where
    unfoldable ran_begun : RanBegun config tracing (outside_of l0 g0 w t0 s0 old) k0
    ran_begun = record {
      secret = key;
      base = starts.base;
      opened = s1;
      traced = t1;
      in_use = k1;
      began = starts.began;
      set = starts.engages.stands.settings;
      first = starts.engages.stands.asked;
    }

    top_here : f0.limit ≡ limit_of starts.base.settings
    top_here = top ∙ ap limit_of (sym starts.engages.stands.settings)

    abbrev begun_faults : Faults
    begun_faults = record old { trace = r1 }

    same_faults : begun_faults ≡ old
    same_faults = λ i. record old { trace = starts.faults i }

    module _ (f2 : Fetch) (gave : ℕ) (l2 w2 t2 : Option (List ℕ)) (s2 : StoreState) (ended : KeptEnded) (new : Faults) (k2 : KeeperState) (below : f2.taken ≤ f2.limit) (by : IsFedBy f2 gave)
        {line : Result FirstLine Halt} (read : KeyRead f0 f1 l0 l1 line) where
      -- until a stop
      pub ran_stopped : (stops : StopsRun state (flying flight starts.base) key tracing ended f1 f2 l1 l2 gave w w2 t1 t2 s1 s2 begun_faults new k1 k2) → after_line (read.fed.piece ++ stops.ran.piece) ≡ f1.unread ++ stops.ran.piece
          → secret_of (first_line (read.fed.piece ++ stops.ran.piece)) ≡ Some key → RanStopped config flight tracing ended (outside_of l0 g0 w t0 s0 old) (outside_of l2 gave w2 t2 s2 new) k0 k2
      unfolding ran_begun shown_by
      ran_stopped stops after keyed = record {
        begun = ran_begun;
        stop = stops.stop;
        shown = shown_by {keys = keys_in} (flying flight starts.base) key (Err stops.stop) start top_here below by read stops.ran after keyed
            (subst (λ (x : Option (List ℕ)). Carried (sink_of tracing t1 t2) (flying flight starts.base) (keys_with x) x s1 s2 ended.high stops.ran.story (Ran (Err stops.stop))) (sym keyed) stops.ran.carried) tt;
        keyed = keyed;
        traced_all = stops.traced_all;
        cause = subst (λ (f : Faults). StopCause {T = Bool} (ServesAlone flight starts.base.public) f new (Err stops.stop)) same_faults stops.cause;
        silent = subst (λ (f : Faults). Silenced ended.quiet f new) same_faults stops.silent;
        ending = stops.ending;
        kept = stops.kept;
      }

      -- to their end
      pub ran_whole : (serves : ServesAll state (flying flight starts.base) key tracing ended f1 f2 l1 l2 gave w w2 t1 t2 s1 s2 begun_faults new k1 k2) → after_line (read.fed.piece ++ serves.ran.piece) ≡ f1.unread ++ serves.ran.piece
          → secret_of (first_line (read.fed.piece ++ serves.ran.piece)) ≡ Some key → RanWhole config flight tracing ended (outside_of l0 g0 w t0 s0 old) (outside_of l2 gave w2 t2 s2 new) k0 k2
      unfolding ran_begun shown_by
      ran_whole serves after keyed =
          let ran = serves.ran in
          let flag = Ok (has_refused serves.tally) in
          let carried = subst (λ (x : Option (List ℕ)). Carried (sink_of tracing t1 serves.traced1) (flying flight starts.base) (keys_with x) x s1 serves.served serves.high ran.story (Ran flag)) (sym keyed) ran.carried in
          record {
            begun = ran_begun;
            tally = serves.tally;
            high = serves.high;
            served = serves.served;
            traced = serves.traced1;
            shown = shown_by {keys = keys_in} (flying flight starts.base) key (Ok serves.tally) start top_here below by read ran after keyed carried refl;
            keyed = keyed;
            traced_all = serves.traced_all;
            source = serves.source;
            out = serves.out;
            closed = subst (λ (n : ℕ). ClosedRun (flying flight starts.base) (keys_of key) tracing serves.tally ran.story serves.high ended s1 serves.served s2 serves.traced1 t2 n new.trace k1 k2) starts.faults serves.closed;
          }
