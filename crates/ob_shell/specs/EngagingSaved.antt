-- The engine of a run whose tables are saved: how it is had, and what is done with it; all except the last line.
use Rattle.std.specs.Prelude.{ℕ, ◌≡◌, ◌⊎◌, ◌≤◌, ⊤, Bool, true, false, List, [], length, Option, Some, None, Result, Ok, IfErr, IfOk}
use Rattle.std.specs.Io.KnownBytes.{Consumes}
use Rattle.ob_base.specs.Counts.{Rises}
use Rattle.ob_base.specs.Publics.{first_public}
use Rattle.ob_base.specs.declared.config.Config.{Config}
use Rattle.ob_reopen.specs.declared.mark.Mark.{Mark}
use Rattle.ob_reopen.specs.declared.mark.Mark.TheVariants.{Fresh, InUse, Closed, Begun, Saved}
use Rattle.ob_base.specs.declared.refusal.Stop.{Stop}
use Rattle.ob_gen.specs.Generated.{generated}
use Rattle.ob_gen.specs.declared.tally.Tally.{Tally}
use Rattle.ob_headline.specs.Bases.{Base, flying}
use Rattle.ob_headline.specs.Keeping.{closing_named}
use Rattle.ob_headline.specs.KeyLine.{first_line, secret_of}
use Rattle.ob_headline.specs.Prompt.{Prompt}
use Rattle.ob_headline.specs.SavedHeadline.{CountsKeeper, LeavesSaved}
use Rattle.ob_headline.specs.Saving.{BeganSaved, BeginsSaved, HandsBegun, NotBegunSaved}
use Rattle.ob_headline.specs.Tracing.{traced}
use Rattle.ob_headline.specs.Words.{Faults, Outside, faults_of, outside_of}
use Rattle.ob_headline.specs.declared.ending.Ending.TheVariants.{Ran}
use Rattle.ob_headline.specs.declared.ending.KeptEnding.{KeptEnding}
use Rattle.ob_headline.specs.declared.ending.KeptEnding.TheVariants.{Plain}
use Rattle.ob_headline.specs.declared.ending.Report.{Report}
use Rattle.ob_headline.specs.declared.seed.Seed.{Seed}
use Rattle.ob_print.specs.Cuts.{Outputs}
use Rattle.ob_reopen.specs.Keepers.{DrawsSalt, GivesMark, KeeperState}
use Rattle.ob_seal.specs.KeySet.{KeySet}
use Rattle.ob_seal.specs.Sealed.{check_of, keys_salted}
use Rattle.ob_headline.specs.declared.flight.FlightSettings.{FlightSettings}
use Rattle.ob_shell.specs.Engaging.{GeneratedBy, IsHushed, KeptConcludedBy, RanUnkeyed}
use Rattle.ob_shell.specs.Feeding.{Fetch}
use Rattle.ob_shell.specs.Leaving.{BeginsToSave}
use Rattle.ob_shell.specs.Running.{OutFailed, ServesAlone, Silenced, StopCause}
use Rattle.ob_shell.specs.Standing.{StandsOn}
use Rattle.ob_shell.specs.Steps.{IsReady, machine_of, no_flights}
use Rattle.ob_shell.specs.Tallies.{flagged}
use Rattle.ob_shell.specs.Top.{EndingCause, RanAfter, RunShown, sink_of}
use Rattle.ob_shell.specs.Traces.{Traced}
use Rattle.ob_shell.specs.declared.keeping.KeptEnded.{KeptEnded}
use Rattle.ob_store.specs.State.{StoreState}
use Rattle.ob_tables.specs.Agreeing.{Agrees, AreDraws, engine_keys, engine_start, first_draws, has_ended, high_of, opened_from, public_of, replaced_of, rows_of}
use Rattle.ob_tables.specs.Saving.{OpensSaved}
use Rattle.ob_tables.specs.declared.engine.Engine.{Engine}
use Rattle.ob_vault.specs.State.{RevState, from_nothing}

-- ---- an engine by a mark
-- the pack of the tables that a mark names a closing of
abbrev pub pack_of : Mark → Option ℕ
pack_of Fresh = None
pack_of InUse = None
pack_of (Closed region blocks number pack) = Some pack
pack_of Begun = None
pack_of (Saved region blocks number pack salt check) = Some pack

-- a mark of a run that saves was left under this secret, as its check value tells; the others tell nothing of it
abbrev pub FitsSecret : (secret : List ℕ) → Mark → Type 0
FitsSecret secret Fresh = ⊤
FitsSecret secret InUse = ⊤
FitsSecret secret (Closed region blocks number pack) = ⊤
FitsSecret secret Begun = ⊤
FitsSecret secret (Saved region blocks number pack salt check) =
    check ≡ check_of secret (Some salt)

-- it was just started, with these keys: it has no tables, and belongs to each store of which nothing was asked
pub record IsStarted {R : Type 0} (state : R → RevState) (config : Config) (keys : KeySet)
    (e : Engine R) : Type 0 where
  pub agrees : (s : StoreState) → s.asked ≡ [] → Agrees state e s
  pub public : public_of e ≡ first_public config
  pub keyed : engine_keys e ≡ keys
  pub drawn : AreDraws e (first_draws keys)
  pub started : engine_start e ≡ from_nothing
  pub anew : opened_from e ≡ None
  pub settled : replaced_of e ≡ None
  pub alive : has_ended e ≡ false
  pub none_open : high_of e ≡ 0
  pub rows : rows_of e ≡ config.buffer

-- by the mark, and a salt of the run's own: it was started, or the tables of a closing were opened, where the check value of
-- a mark that has one is that of the secret
abbrev pub EngineBy : {R : Type 0} → (R → RevState) → Mark → Config → (secret salt : List ℕ)
    → Engine R → (s t : StoreState) → Type 0
EngineBy state Fresh config secret salt e s t =
    IsStarted state config (keys_salted secret salt []) e × (t ≡ s)
EngineBy state InUse config secret salt e s t = ⊥
EngineBy state (Closed region blocks number pack) config secret salt e s t =
    (pack ≡ config.pack) × OpensSaved state config secret salt None
    (closing_named region blocks number pack) (Ok e) s t
EngineBy state Begun config secret salt e s t =
    IsStarted state config (keys_salted secret salt []) e × (t ≡ s)
EngineBy state (Saved region blocks number pack closed check) config secret salt e s t =
    (pack ≡ config.pack) × (check ≡ check_of secret (Some closed))
    × OpensSaved state config secret salt (Some closed) (closing_named region blocks number pack)
    (Ok e) s t

-- ---- how a run begins
-- an engine with which a run may go on from this base that saves its tables, whose keeper has come to this
pub record EngagesSaved {R : Type 0} (state : R → RevState) (base : Base) (config : Config)
    (keys : KeySet) (e : Engine R) (s : StoreState) (keeper : KeeperState) : Type 0 where
  pub stands : StandsOn state base config keys e s
  pub ready : IsReady state ⊤ (machine_of e s keeper no_flights)
  pub high : high_of e ≤ 1

-- that of the mark that was read, under keys of a salt that was drawn; and where the keeper told the mark that it held, its
-- tables rest for the one that it holds
pub record HasSaved {R : Type 0} (state : R → RevState) (config : Config) (secret : List ℕ)
    (e : Engine R) (old new : StoreState) (keeper0 keeper1 : KeeperState) : Type 0 where
  pub mark : Mark
  pub read : KeeperState
  pub gives : GivesMark (Ok mark) keeper0 read
  pub salt : List ℕ
  pub drawn : KeeperState
  pub draws : DrawsSalt (Ok salt) read drawn
  pub hands : HandsBegun mark (Ok tt) drawn keeper1
  pub keys : KeySet
  pub base : Base
  pub begins : BeginsSaved mark config secret salt keys base old new
  pub engages : EngagesSaved state base config keys e new keeper1
  pub saves : (held : Mark) → keeper0.held ≡ Some held
      → BeginsToSave state secret salt base keys (machine_of e new keeper1 no_flights)

-- an engine was found, or how the run ended: whatever becomes of the trace
pub record FindsSaved {R : Type 0} (state : R → RevState) (config : Config) (secret : List ℕ)
    (result : Result (Engine R) KeptEnding) (old new : StoreState) (keeper0 keeper1 : KeeperState)
    : Type 0 where
  pub log : new.let_go ≡ old.let_go
  pub ok : IfOk result (λ e. HasSaved state config secret e old new keeper0 keeper1)
  pub err : IfErr result (λ ending. (fault0 fault1 : ℕ)
      → NotBegunSaved config secret ending old new fault0 fault1 keeper0 keeper1)

-- the run began
pub record StartsSaved {R : Type 0} (state : R → RevState) (config : Config) (secret : List ℕ)
    (tracing : Bool) (e : Engine R) (old new : StoreState) (traced0 traced1 : Option (List ℕ))
    (fault0 fault1 : ℕ) (keeper0 keeper1 : KeeperState) : Type 0 where
  pub salt : List ℕ
  pub keys : KeySet
  pub base : Base
  pub began : BeganSaved config secret salt keys tracing base old new traced0 traced1
      keeper0 keeper1
  pub engages : EngagesSaved state base config keys e new keeper1
  pub saves : (held : Mark) → keeper0.held ≡ Some held
      → BeginsToSave state secret salt base keys (machine_of e new keeper1 no_flights)
  pub faults : fault1 ≡ fault0

-- it didn't begin
pub record EndsUnsaved (config : Config) (secret : List ℕ) (tracing : Bool) (ended : KeptEnded)
    (old new : StoreState) (traced0 traced1 : Option (List ℕ)) (fault0 fault1 : ℕ)
    (keeper0 keeper1 : KeeperState) : Type 0 where
  pub begun : NotBegunSaved config secret ended.ending old new fault0 fault1 keeper0 keeper1
  pub traced_all : Outputs traced0 traced1 (Rises fault0 fault1) (traced tracing new.asked)
  pub quiet : IsHushed ended.quiet fault0 fault1
  pub later : fault0 ≤ fault1
  pub high : ended.high ≤ 1

-- ---- a session
-- texts were served with the engine, and nothing was done after that; where the keeper told what it held, it holds a mark
-- for which the tables rest after them
pub record ServesSaved {R : Type 0} (state : R → RevState) (base : Base) (keys : KeySet)
    (secret salt : List ℕ) (tracing : Bool) (ended : KeptEnded)
    (feed0 feed1 : Fetch) (left0 left1 : Option (List ℕ)) (gave : ℕ)
    (written0 written1 traced0 traced1 : Option (List ℕ)) (begun new : StoreState)
    (old_faults new_faults : Faults) (keeper0 keeper1 : KeeperState) (Told : Type 0)
    : Type 0 where
  pub result : Result Tally Stop
  pub ran : RanAfter state (sink_of tracing traced0 traced1) base keys (Some secret)
      feed0 feed1 left0 left1 gave written0 written1 begun new ended.high
      (OutFailed ended.quiet old_faults.out new_faults.out) result
  pub traced_all : Traced tracing begun.asked new.asked traced0 traced1 (ended.quiet ≡ true)
  pub cause : StopCause (ServesAlone base.flight base.public) old_faults new_faults result
  pub silent : Silenced ended.quiet old_faults new_faults
  pub ending : ended.ending ≡ Plain (Ran (flagged result))
  pub counted : IfOk result (λ tally. ended.tally ≡ tally)
  pub keeper : CountsKeeper (Ran (flagged result)) keeper0 keeper1
  pub drawn : keeper1.drawn ≡ keeper0.drawn
  pub leaves : Told → LeavesSaved secret salt base keys (Ran (flagged result)) ran.story
      begun new keeper0 keeper1

-- ---- the whole run, except for its last line
-- the first line was taken, and no statement was served
pub record RanUnsaved (config : Config) (tracing : Bool) (ended : KeptEnded) (old new : Outside)
    (keeper0 keeper1 : KeeperState) : Type 0 where
  pub taken : List ℕ
  pub given : Consumes old.left new.left taken
  pub within : length taken ≤ config.max_input
  pub prompt : Prompt (first_public config) 1 1 taken [] new.gave
  pub secret : List ℕ
  pub keyed : secret_of (first_line taken) ≡ Some secret
  pub unserved : EndsUnsaved config secret tracing ended old.store new.store
      old.traced new.traced old.faults.trace new.faults.trace keeper0 keeper1
  pub written : new.written ≡ old.written
  pub source : new.faults.source ≡ old.faults.source
  pub out : new.faults.out ≡ old.faults.out

-- texts were served, to their end or until a stop came
pub record RanSession (config : Config) (flight : Option FlightSettings) (tracing : Bool)
    (ended : KeptEnded) (old new : Outside) (keeper0 keeper1 : KeeperState) : Type 0 where
  pub secret : List ℕ
  pub salt : List ℕ
  pub keys : KeySet
  pub base : Base
  pub opened : StoreState
  pub traced : Option (List ℕ)
  pub begun : KeeperState
  pub began : BeganSaved config secret salt keys tracing base old.store opened old.traced traced
      keeper0 begun
  pub set : base.settings ≡ Some config
  pub first : opened.asked ≡ base.before
  pub result : Result Bool Stop
  pub shown : RunShown ended.tally (sink_of tracing traced new.traced) (flying flight base)
      (λ taken. keys) old.left new.left new.gave old.written new.written opened new.store ended.high
      (Ran result) [] (OutFailed ended.quiet old.faults.out new.faults.out)
  pub keyed : secret_of (first_line shown.taken) ≡ Some secret
  pub traced_all : Traced tracing opened.asked new.store.asked traced new.traced
      (ended.quiet ≡ true)
  pub cause : EndingCause (ServesAlone flight base.public) (Ran result) old.faults new.faults
  pub silent : Silenced ended.quiet old.faults new.faults
  pub ending : ended.ending ≡ Plain (Ran result)
  pub keeper : CountsKeeper (Ran result) begun keeper1
  -- the salt is the one that the keeper drew last
  pub drew : keeper1.drawn ≡ Some salt
  pub leaves : (held : Mark) → keeper0.held ≡ Some held
      → LeavesSaved secret salt (flying flight base) keys (Ran result) shown.story opened new.store
      begun keeper1

abbrev pub RanSaved : Config → Option FlightSettings → (tracing : Bool) → KeptEnded → (old new : Outside)
    → (keeper0 keeper1 : KeeperState) → Type 0
RanSaved config flight tracing ended old new keeper0 keeper1 =
    RanUnkeyed config flight tracing ended old new keeper0 keeper1
    ⊎ (RanUnsaved config tracing ended old new keeper0 keeper1
    ⊎ RanSession config flight tracing ended old new keeper0 keeper1)

-- over the text that is generated from a seed, and what was written after it
abbrev pub SavedGenerated : (config : Config) (flight : Option FlightSettings) (tracing : Bool)
    (seed : Seed) (traced0 traced1 : Option (List ℕ)) (store0 store1 : StoreState)
    (trace0 trace1 : ℕ) (keeper0 keeper1 : KeeperState) (written0 written1 : Option (List ℕ))
    (out0 out1 : ℕ) → Report → Type 0
SavedGenerated config flight tracing seed t0 t1 s0 s1 trace0 trace1 k0 k1 w0 w1 out0 out1 report =
    GeneratedBy (λ ended old new. RanSaved config flight tracing ended old new k0 k1) seed
    t0 t1 s0 s1 trace0 trace1 w0 w1 out0 out1 report
