-- A run that neither keeps nor saves its tables, by a salt that its keeper draws; all except the last line.
use Rattle.std.specs.Prelude.{ℕ, ◌≡◌, ◌⊎◌, ◌≤◌, Bool, true, false, List, [], length, Option, Some, Result, Ok, Err}
use Rattle.std.specs.Io.KnownBytes.{Consumes}
use Rattle.ob_base.specs.Publics.{first_public}
use Rattle.ob_base.specs.declared.config.Config.{Config}
use Rattle.ob_base.specs.declared.fault.Failed.{Failed}
use Rattle.ob_base.specs.declared.refusal.Stop.{Stop}
use Rattle.ob_gen.specs.Tally.{empty_tally}
use Rattle.ob_headline.specs.Bases.{flying, fresh}
use Rattle.ob_headline.specs.KeyLine.{first_line, secret_of}
use Rattle.ob_headline.specs.Prompt.{Prompt}
use Rattle.ob_headline.specs.SaltedHeadline.{DrawsInVain, own_keys}
use Rattle.ob_headline.specs.Words.{Outside}
use Rattle.ob_headline.specs.declared.ending.Ending.TheVariants.{Ran}
use Rattle.ob_headline.specs.declared.ending.KeptEnding.TheVariants.{Plain, KeeperFault}
use Rattle.ob_headline.specs.declared.ending.Report.{Report}
use Rattle.ob_headline.specs.declared.flight.FlightSettings.{FlightSettings}
use Rattle.ob_headline.specs.declared.seed.Seed.{Seed}
use Rattle.ob_reopen.specs.Keepers.{DrawsSalt, KeeperState}
use Rattle.ob_shell.specs.Engaging.{GeneratedBy, RanUnkeyed}
use Rattle.ob_shell.specs.Running.{OutFailed, ServesAlone, Silenced}
use Rattle.ob_shell.specs.Top.{EndingCause, RunShown, sink_of}
use Rattle.ob_shell.specs.Traces.{Traced}
use Rattle.ob_shell.specs.declared.keeping.KeptEnded.{KeptEnded}
use Rattle.ob_store.specs.State.{StoreState}

-- the keeper failed at the salt, and the run ends for that
pub record FailsToDraw (ended : KeptEnded) (keeper0 keeper1 : KeeperState) : Type 0 where
  pub is : ended
      ≡ record { ending = KeeperFault; quiet = false; high = 0; tally = empty_tally }
  pub failed : Failed
  pub draws : DrawsSalt (Err failed) keeper0 keeper1

-- the first line was taken, and no salt was drawn
pub record RanUndrawn (config : Config) (ended : KeptEnded) (old new : Outside)
    (keeper0 keeper1 : KeeperState) : Type 0 where
  pub taken : List ℕ
  pub given : Consumes old.left new.left taken
  pub within : length taken ≤ config.max_input
  pub prompt : Prompt (first_public config) 1 1 taken [] new.gave
  pub secret : List ℕ
  pub keyed : secret_of (first_line taken) ≡ Some secret
  pub undrawn : DrawsInVain ended.ending old.store new.store keeper0 keeper1
  pub loud : ended.quiet ≡ false
  pub none_open : ended.high ≡ 0
  pub written : new.written ≡ old.written
  pub traced : new.traced ≡ old.traced
  pub faults : new.faults ≡ old.faults

-- texts were served under keys of a salt, to their end or until a stop came
pub record RanDrawn (config : Config) (flight : Option FlightSettings) (tracing : Bool)
    (ended : KeptEnded) (old new : Outside) (keeper0 keeper1 : KeeperState) : Type 0 where
  pub secret : List ℕ
  pub salt : List ℕ
  pub draws : DrawsSalt (Ok salt) keeper0 keeper1
  pub result : Result Bool Stop
  pub shown : RunShown ended.tally (sink_of tracing old.traced new.traced)
      (flying flight (fresh (Some config))) (λ taken. own_keys secret salt)
      old.left new.left new.gave old.written new.written old.store new.store ended.high
      (Ran result) [] (OutFailed ended.quiet old.faults.out new.faults.out)
  pub keyed : secret_of (first_line shown.taken) ≡ Some secret
  pub traced_all : Traced tracing old.store.asked new.store.asked old.traced new.traced
      (ended.quiet ≡ true)
  pub cause : EndingCause (ServesAlone flight (first_public config)) (Ran result)
      old.faults new.faults
  pub silent : Silenced ended.quiet old.faults new.faults
  pub ending : ended.ending ≡ Plain (Ran result)

abbrev pub RanSalted : Config → Option FlightSettings → (tracing : Bool) → KeptEnded
    → (old new : Outside) → (keeper0 keeper1 : KeeperState) → Type 0
RanSalted config flight tracing ended old new keeper0 keeper1 =
    RanUnkeyed config flight tracing ended old new keeper0 keeper1
    ⊎ (RanUndrawn config ended old new keeper0 keeper1
    ⊎ RanDrawn config flight tracing ended old new keeper0 keeper1)

-- over the text that is generated from a seed, and what was written after it
abbrev pub SaltedGenerated : (config : Config) (flight : Option FlightSettings) (tracing : Bool)
    (seed : Seed) (traced0 traced1 : Option (List ℕ)) (store0 store1 : StoreState)
    (trace0 trace1 : ℕ) (keeper0 keeper1 : KeeperState) (written0 written1 : Option (List ℕ))
    (out0 out1 : ℕ) → Report → Type 0
SaltedGenerated config flight tracing seed t0 t1 s0 s1 trace0 trace1 k0 k1 w0 w1 out0 out1 report =
    GeneratedBy (λ ended old new. RanSalted config flight tracing ended old new k0 k1) seed
    t0 t1 s0 s1 trace0 trace1 w0 w1 out0 out1 report
