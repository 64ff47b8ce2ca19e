-- What a server refers to.
use Rattle.std.specs.Prelude.{ℕ, ◌≡◌, List, Option}
use Rattle.ob_headline.specs.Words.{faults_of}
use Rattle.ob_reopen.specs.Keepers.{KeeperState}
use Rattle.ob_shell.specs.Flying.{flights_of}
use Rattle.ob_shell.specs.Here.{Here}
use Rattle.ob_shell.specs.Steps.{machine_of}
use Rattle.ob_shell.specs.declared.session.Manner.{Manner}
use Rattle.ob_shell.specs.declared.session.Server.{Server}
use Rattle.ob_shell.specs.declared.session.Session.{Session}
use Rattle.ob_store.specs.State.{StoreState}

module _ {R S B K T D : Type 0} (state : S → StoreState) (keeper : B → KeeperState)
    (written : K → Option (List ℕ)) (faults : K → ℕ) (traced : T → Option (List ℕ))
    (lost : T → ℕ) where
  -- with a session
  abbrev pub here_of : Manner → Server R S B K T D → Session → Here R
  here_of manner s session = record {
    machine = machine_of s.engine.now (state s.store.now) (keeper s.commit.now)
        (flights_of manner.flight session.turns.last);
    written = written s.out.now;
    traced = traced s.trace.now;
    faults = faults_of 0 (faults s.out.now) (lost s.trace.now);
    batch = session.batch.items;
    tally = session.tally;
  }

-- a call leaves where it writes, and how
pub record KeepsServer {R S B K T D : Type 0} (name : B → ℕ) (s t : Server R S B K T D)
    : Type 0 where
  pub engine : t.engine.ghost_name ≡ s.engine.ghost_name
  pub store : t.store.ghost_name ≡ s.store.ghost_name
  pub commit : t.commit.ghost_name ≡ s.commit.ghost_name
  pub out : t.out.ghost_name ≡ s.out.ghost_name
  pub trace : t.trace.ghost_name ≡ s.trace.ghost_name
  pub digest : t.digest.ghost_name ≡ s.digest.ghost_name
  pub keeper : name t.commit.now ≡ name s.commit.now
