-- A run that neither keeps nor saves its tables, after its first line.
use Rattle.ob_shell.proofs.Words.{ap, arith, Bool, Config, empty_tally, Err, false, Faults, Fetch, first_public, FirstLine, flagged, FlightSettings, flying, fresh, Halt, IfOk, inl, inr, IsFedBy, IsFresh, KeeperState, KeptEnded, KeyRead, limit_of, List, Ok, Option, OutFailed, outside_of, Plain, Ran, refl, Result, RevState, ServesAlone, Silenced, Some, Stop, StopCause, StoreState, subst, sym, Tally, Traced, true, ℕ, [], ◌++◌, ◌∙◌, ◌≡◌, ◌≤◌}
use Rattle.ob_headline.specs.KeyLine.{first_line, secret_of}
use Rattle.ob_headline.specs.SaltedHeadline.{own_keys}
use Rattle.ob_reopen.specs.Keepers.{DrawsSalt}
use Rattle.ob_shell.proofs.CountLemmas.{same_cause}
use Rattle.ob_shell.proofs.TallyLemmas.{tally_after-nil}
use Rattle.ob_shell.proofs.TopLemmas.{after_secret, piece_is, piece_prompt, piece_within, shown_by, shown_last}
use Rattle.ob_shell.proofs.TraceLemmas.{traced_none, traced_whole}
use Rattle.ob_shell.specs.Salting.{FailsToDraw, RanSalted}
use Rattle.ob_shell.specs.Top.{Carried, RanAfter, sink_of}
use Rattle.ob_shell.specs.declared.key.FirstLine.TheVariants.{Secret, Last}

flagged_cause : (Alone : Type 0) (result : Result Tally Stop) (old new : Faults) → StopCause Alone old new result → StopCause Alone old new (flagged result)
flagged_cause Alone (Ok tally) old new cause = cause
flagged_cause Alone (Err stop) old new cause = same_cause _ Tally Bool stop old new cause

module _ (config : Config) (flight : Option FlightSettings) (tracing : Bool) (f0 f1 : Fetch) (none : f0.unread ≡ []) (start : f0.taken ≡ 0) (top : f0.limit ≡ limit_of (Some config)) (l0 l1 : Option (List ℕ)) (g0 : ℕ) where
  -- the first line came, and the keeper failed at the salt
  pub undrawn : {gave : ℕ} {line : Result FirstLine Halt} (key : List ℕ) (ended : KeptEnded) (w t : Option (List ℕ)) (s : StoreState) (faults : Faults) (k0 k1 : KeeperState) → f1.taken ≤ f1.limit → IsFedBy f1 gave
      → (read : KeyRead f0 f1 l0 l1 line) → secret_of (first_line (read.passed ++ f1.unread)) ≡ Some key → FailsToDraw ended k0 k1
      → RanSalted config flight tracing ended (outside_of l0 g0 w t s faults) (outside_of l1 gave w t s faults) k0 k1
  undrawn key ended w t s faults k0 k1 below by read is fails =
      let tr = sink_of tracing t t in
      inr (inl (record {
        taken = read.fed.piece;
        given = read.fed.consumed;
        within = piece_within empty_tally tr refl (Some config) flight f0 f1 none start top below by read.fed;
        prompt = piece_prompt empty_tally tr refl (Some config) flight f0 f1 none start top below by (first_public config) 1 1 (omega arith) read.fed read.ahead;
        secret = key;
        keyed = ap (λ (l : List ℕ). secret_of (first_line l)) (piece_is read.fed none) ∙ is;
        undrawn = record { ends = ap (λ (x : KeptEnded). x.ending) fails.is; failed = fails.failed; draws = fails.draws; unasked = refl };
        loud = ap (λ (x : KeptEnded). x.quiet) fails.is;
        none_open = ap (λ (x : KeptEnded). x.high) fails.is;
        written = refl;
        traced = refl;
        faults = refl;
      }))

  -- the input had ended
  pub last_salted : {gave : ℕ} (key salt : List ℕ) (ended : KeptEnded) (w t : Option (List ℕ)) (s : StoreState) (faults : Faults) (k0 k1 : KeeperState) → f1.taken ≤ f1.limit → IsFedBy f1 gave → IsFresh s
      → KeyRead f0 f1 l0 l1 (Ok (Last key)) → DrawsSalt (Ok salt) k0 k1 → ended ≡ record { ending = Plain (Ran (Ok false)); quiet = false; high = 0; tally = empty_tally }
      → RanSalted config flight tracing ended (outside_of l0 g0 w t s faults) (outside_of l1 gave w t s faults) k0 k1
  unfolding shown_last
  last_salted {gave} key salt ended w t s faults k0 k1 below by blank read draws is =
      let e = piece_is read.fed none in
      let ends = rw (← e) at read.ends in
      subst (λ (x : KeptEnded). RanSalted config flight tracing x (outside_of l0 g0 w t s faults) (outside_of l1 gave w t s faults) k0 k1) (sym is)
      (inr (inr (record {
        secret = key;
        salt = salt;
        draws = draws;
        result = Ok false;
        shown = shown_last empty_tally (sink_of tracing t t) refl (Some config) flight f0 f1 none start top below by (sym (tally_after-nil empty_tally)) {keys = λ taken. own_keys key salt} key w s blank read;
        keyed = ends.0;
        traced_all = traced_whole _ (traced_none tracing s.asked t);
        cause = record { source = refl; out = refl; trace = refl };
        silent = (refl, refl);
        ending = refl;
      })))

  -- what followed it was served
  pub secret_salted : {R : Type 0} (state : R → RevState) {gave : ℕ} (key salt : List ℕ) (result : Result Tally Stop) (ended : KeptEnded) (f2 : Fetch) (l2 w0 w2 t0 t2 : Option (List ℕ)) (s0 s2 : StoreState) (old new : Faults) (k0 k1 : KeeperState) → f2.taken ≤ f2.limit → IsFedBy f2 gave
      → KeyRead f0 f1 l0 l1 (Ok (Secret key)) → DrawsSalt (Ok salt) k0 k1
      → RanAfter state (sink_of tracing t0 t2) (flying flight (fresh (Some config))) (own_keys key salt) (Some key) f1 f2 l1 l2 gave w0 w2 s0 s2 ended.high (OutFailed ended.quiet old.out new.out) result
      → Traced tracing s0.asked s2.asked t0 t2 (ended.quiet ≡ true) → StopCause (ServesAlone flight (first_public config)) old new result → Silenced ended.quiet old new → ended.ending ≡ Plain (Ran (flagged result)) → IfOk result (λ (t : Tally). ended.tally ≡ t)
      → RanSalted config flight tracing ended (outside_of l0 g0 w0 t0 s0 old) (outside_of l2 gave w2 t2 s2 new) k0 k1
  unfolding shown_by
  secret_salted state key salt result ended f2 l2 w0 w2 t0 t2 s0 s2 old new k0 k1 below by read draws ran traces cause silent ending counted =
      let behind = after_secret ran.piece none read in
      inr (inr (record {
        secret = key;
        salt = salt;
        draws = draws;
        result = flagged result;
        shown = shown_by {keys = λ taken. own_keys key salt} (flying flight (fresh (Some config))) key result start top below by read ran behind.0 behind.1
            (subst (λ (x : Option (List ℕ)). Carried (sink_of tracing t0 t2) (flying flight (fresh (Some config))) (own_keys key salt) x s0 s2 ended.high ran.story (Ran (flagged result))) (sym behind.1) ran.carried) counted;
        keyed = behind.1;
        traced_all = traces;
        cause = flagged_cause _ result old new cause;
        silent = silent;
        ending = ending;
      }))
