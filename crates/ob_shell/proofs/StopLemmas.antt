-- Stops of the engine, and of the session.
use Rattle.ob_shell.proofs.Words.{EndsUntampered, Err, is_tampered, Ran, refl, RunStop, session_stop, Stop, ◌≡◌}
use Rattle.ob_base.specs.declared.refusal.Stop.TheVariants.{Tampered, SourceFault, SinkFault, NoMemory, InputLimit, StoreFault, StashFull, KeeperFault}
use Rattle.ob_tables.specs.Telling.{IsNotTampered, is_refused}
use Rattle.ob_tables.specs.declared.stop.RunStop.TheVariants as Runs
use Rattle.ob_shell.specs.Running.{StoppedBy}

pub only_memory : (run : RunStop) → session_stop run ≡ NoMemory → run ≡ Runs.NoMemory
only_memory Runs.NoMemory is = refl
only_memory other is = absurd (cc is)

pub only_sink : (run : RunStop) → session_stop run ≡ SinkFault → run ≡ Runs.SinkFault
only_sink Runs.SinkFault is = refl
only_sink other is = absurd (cc is)

pub only_stash : (run : RunStop) → session_stop run ≡ StashFull → run ≡ Runs.StashFull
only_stash Runs.StashFull is = refl
only_stash other is = absurd (cc is)

-- a stop at a block is one in the session, too, and no other is
pub tampered_as : (run : RunStop) → is_refused run ≡ is_tampered (Ran (Err (session_stop run)))
tampered_as (Runs.Tampered region place) = refl
tampered_as other = refl

pub stop_untampered : (run : RunStop) → IsNotTampered run → EndsUntampered (Ran (Err (session_stop run)))
stop_untampered (Runs.Tampered region place) not = absurd (cc not)
stop_untampered other not = tt

-- ---- by what stopped a session
module _ (Run : RunStop → Type 0) (AtFault AtLimit : Type 0) where
  pub stopped_as : (run : RunStop) → Run run → StoppedBy Run AtFault AtLimit (session_stop run)
  stopped_as (Runs.Tampered region place) told = told
  stopped_as other told = told

  pub by_stop : (P : Stop → Type 0) (stop : Stop) → StoppedBy Run AtFault AtLimit stop → ((run : RunStop) → Run run → P (session_stop run)) → (AtFault → P SourceFault) → (AtLimit → P InputLimit) → P stop
  by_stop P (Tampered region place) told run fault limit = run (Runs.Tampered region place) told
  by_stop P SinkFault told run fault limit = run Runs.SinkFault told
  by_stop P NoMemory told run fault limit = run Runs.NoMemory told
  by_stop P StoreFault told run fault limit = run Runs.StoreFault told
  by_stop P StashFull told run fault limit = run Runs.StashFull told
  by_stop P KeeperFault told run fault limit = run Runs.KeeperFault told
  by_stop P SourceFault told run fault limit = fault told
  by_stop P InputLimit told run fault limit = limit told
