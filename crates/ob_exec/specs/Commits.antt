-- What follows the engine's own share of a statement: its tables are saved, or nothing is done.
use Rattle.std.specs.Prelude.{◌≡◌, ◌&&◌, ◌-◌, ℕ, Bool, true, false, Result, Ok, Err, MatchResult, MatchBool, length}
use Rattle.ob_base.specs.declared.config.Public.{Public}
use Rattle.ob_base.specs.declared.seen.End.{End}
use Rattle.ob_base.specs.declared.seen.End.TheVariants.{Cut}
use Rattle.ob_exec.specs.Ran.{is_whole}
use Rattle.ob_exec.specs.Saving.{SavesTables}
use Rattle.ob_exec.specs.declared.saving.Begun.{Begun}
use Rattle.ob_mean.specs.Verdict.{ended as seen_to}
use Rattle.ob_reopen.specs.Keepers.{KeeperState}
use Rattle.ob_script.specs.Saved.{left_by}
use Rattle.ob_script.specs.Script.{is_saved}
use Rattle.ob_sql.specs.Skeleton.{skeleton}
use Rattle.ob_sql.specs.declared.stmt.Stmt.{Stmt}
use Rattle.ob_store.specs.State.{StoreState}
use Rattle.ob_tables.specs.declared.engine.Engine.{Engine}
use Rattle.ob_tables.specs.declared.stop.RunStop.{RunStop}
use Rattle.ob_vault.specs.State.{RevState}
use Rattle.ob_verdict.specs.declared.outcome.Outcome.{Outcome}

-- what is to be known of a statement before it is carried out: how many accesses were asked by then, whether tables are
-- saved after one like it, the region that it leaves then, and the first region that it may make
pub record IsBegun (p : Public) (s : StoreState) (stmt : Stmt) (begun : Begun) : Type 0 where
  pub accesses : begun.accesses ≡ length s.asked
  pub saved : begun.saved ≡ is_saved p (skeleton stmt)
  pub left : begun.left ≡ left_by p (skeleton stmt)
  pub next : begun.next ≡ p.next_region

-- tables that are saved after statements like it are after one that was answered so, and ended so
abbrev pub is_due : (saved : Bool) → Result Outcome RunStop → End → Bool
is_due saved (Ok outcome) end = is_whole end && saved
is_due saved (Err stop) end = false

-- the session has ended in a statement of which nothing is counted, after so many accesses
abbrev pub ended_at : {R : Type 0} → (accesses : ℕ) → Engine R → Engine R
ended_at accesses e = record e {
  seen = seen_to (Cut accesses);
  public = record e.public { next_region = e.vault.next };
  ended = true;
}

-- nothing is done
pub record Stays {R : Type 0} (answer result : Result Outcome RunStop) (e : Engine R)
    (s : StoreState) (new : Engine R) (t : StoreState) (old_keeper new_keeper : KeeperState)
    : Type 0 where
  pub answer_is : result ≡ answer
  pub engine_is : new ≡ e
  pub store_is : t ≡ s
  pub keeper_is : new_keeper ≡ old_keeper

-- the tables are saved, and the statement is answered; or the session has ended
pub record Follows {R : Type 0} (state : R → RevState) (begun : Begun)
    (answer result : Result Outcome RunStop) (e : Engine R) (s : StoreState) (new : Engine R)
    (t : StoreState) (old_keeper new_keeper : KeeperState) : Type 0 where
  pub saving : Result (Unit {0}) RunStop
  pub last : Engine R
  pub saves : SavesTables state begun.left saving e s last t old_keeper new_keeper
  pub ends : MatchResult saving (λ done. (result ≡ answer) × (new ≡ last))
      (λ stop. (result ≡ Err stop) × (new ≡ ended_at (length t.asked - begun.accesses) last))

-- the one where tables are due to be saved, else the other
abbrev pub CommitsIfDue : {R : Type 0} → (R → RevState) → (due : Bool) → Begun
    → (answer result : Result Outcome RunStop) → (e : Engine R) → StoreState → (new : Engine R)
    → StoreState → (old_keeper new_keeper : KeeperState) → Type 0
CommitsIfDue state due begun answer result e s new t old_keeper new_keeper =
    MatchBool due (Follows state begun answer result e s new t old_keeper new_keeper)
    (Stays answer result e s new t old_keeper new_keeper)
