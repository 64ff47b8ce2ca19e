-- A run whose tables are kept, after its first line.
use Rattle.ob_shell.proofs.Words.{Bool, Config, empty_tally, Engine, Faults, Fetch, flights_at, FlightSettings, flying, high_of, inl, inr, IsFedBy, KeeperState, KeptEnded, KeyRead, limit_of, List, Ok, Option, outside_of, refl, RevState, rows_of, Some, StoreState, told_nothing, ℕ, [], ◌≡◌, ◌≤◌}
use Rattle.ob_shell.proofs.KeepLemmas.{ran_stopped, ran_whole, serves_all}
use Rattle.ob_shell.proofs.SessionLemmas.{ran_after, ran_last}
use Rattle.ob_shell.proofs.TopLemmas.{after_last, after_secret}
use Rattle.ob_shell.proofs.TraceLemmas.{traced_none, traced_whole}
use Rattle.ob_shell.specs.Engaging.{ClosesRun, RanKept, ServesRun, StartsRun}
use Rattle.ob_shell.specs.declared.key.FirstLine.TheVariants.{Secret, Last}

module _ {R : Type 0} (state : R → RevState) (config : Config) (flight : Option FlightSettings) (key : List ℕ) (tracing : Bool) (f0 f1 : Fetch) (none : f0.unread ≡ []) (start : f0.taken ≡ 0) (top : f0.limit ≡ limit_of (Some config)) (l0 l1 : Option (List ℕ)) (g0 gave : ℕ)
    (e : Engine R) (s0 s1 s2 : StoreState) (t0 t1 t2 w : Option (List ℕ)) (old : Faults) (r1 : ℕ) (k0 k1 k2 : KeeperState) (starts : StartsRun state config key tracing e s0 s1 t0 t1 old.trace r1 k0 k1) (ended : KeptEnded) where
  -- the input had ended, and the engine was closed
  pub last_ran : (read : KeyRead f0 f1 l0 l1 (Ok (Last key))) → f1.taken ≤ f1.limit → IsFedBy f1 gave → (high r2 : ℕ) → high ≤ rows_of e → high ≡ high_of e → ClosesRun state empty_tally tracing e ended s1 s2 t1 t2 r1 r2 k1 k2
      → RanKept config flight tracing ended (outside_of l0 g0 w t0 s0 old) (outside_of l1 gave w t2 s2 (record old { trace = r2 })) k0 k2
  unfolding serves_all ran_after ran_last
  last_ran read below by high r2 most is_high closes =
      let ends = read.ends in
      let ran = ran_last state tracing f1 l1 gave w t1 e s1 told_nothing (flights_at flight) ends.4 ends.2 ends.3 in
      let serves = serves_all state starts.base config key e e told_nothing told_nothing flight (flights_at flight) s1 s1 starts.engages high most is_high tracing t1 t1 f1 f1 l1 l1 gave w w
      empty_tally ended s2 t2 k1 k2 (record old { trace = r1 }) (record old { trace = r2 }) ran (traced_whole _ (traced_none tracing s1.asked t1)) refl refl closes in
      let behind = after_last serves.ran.piece refl none read in
      inr (inr (inr (ran_whole config flight tracing f0 f1 none start top l0 l1 g0 state key e s0 s1 t0 t1 w old r1 k0 k1 starts f1 gave l1 w t2 s2 ended (record old { trace = r2 }) k2 below by read serves behind.0 behind.1)))

  -- what followed it was served
  pub secret_ran : (f2 : Fetch) (l2 w2 : Option (List ℕ)) (new : Faults) → (read : KeyRead f0 f1 l0 l1 (Ok (Secret key))) → f2.taken ≤ f2.limit → IsFedBy f2 gave
      → ServesRun state (flying flight starts.base) key tracing ended f1 f2 l1 l2 gave w w2 t1 t2 s1 s2 (record old { trace = r1 }) new k1 k2
      → RanKept config flight tracing ended (outside_of l0 g0 w t0 s0 old) (outside_of l2 gave w2 t2 s2 new) k0 k2
  secret_ran f2 l2 w2 new read below by (inl stops) =
      let behind = after_secret stops.ran.piece none read in
      inr (inr (inl (ran_stopped config flight tracing f0 f1 none start top l0 l1 g0 state key e s0 s1 t0 t1 w old r1 k0 k1 starts f2 gave l2 w2 t2 s2 ended new k2 below by read stops behind.0 behind.1)))
  secret_ran f2 l2 w2 new read below by (inr serves) =
      let behind = after_secret serves.ran.piece none read in
      inr (inr (inr (ran_whole config flight tracing f0 f1 none start top l0 l1 g0 state key e s0 s1 t0 t1 w old r1 k0 k1 starts f2 gave l2 w2 t2 s2 ended new k2 below by read serves behind.0 behind.1)))
