use Rattle.ob_shell.proofs.Words.{count_of, flights_of, IsFedBy, IsReady, length, machine_of, public_of, TracedAll, ◌+◌, ◌-◌, ◌<◌, ◌≡◌}
use Rattle.ob_headline.specs.Texts.{text_max}
use Rattle.ob_shell.proofs.session.Server.read_texts.Given as goal
use Rattle.ob_shell.specs.Running.{SoFar}
use Rattle.ob_shell.specs.Servers.{KeepsServer}
use Rattle.ob_shell.specs.Waiting.{AreWaiting}

abbrev pub invariant-bytes : goal.invariant-bytes
invariant-bytes g l =
    record {
      so_far :
          SoFar g.R.Revisions.state l.initial.feed l.feed (g.I.Source.left l.initial.input) (g.I.Source.left l.input)
          (g.K.Sink.written l.initial.self.out.now) (g.K.Sink.written l.self.out.now) l.session.pending l.session.batch.items l.session.tally
          (machine_of l.initial.self.engine.now (g.S.BlockStore.state l.initial.self.store.now) (g.B.Commit.state l.initial.self.commit.now) (flights_of l.manner.flight l.initial.session.turns.last))
          (machine_of l.self.engine.now (g.S.BlockStore.state l.self.store.now) (g.B.Commit.state l.self.commit.now) (flights_of l.manner.flight l.session.turns.last));
      short : length l.session.pending < text_max;
      ready : IsReady g.R.Revisions.state (g.B.Commit.Saves l.self.commit.now) (machine_of l.self.engine.now (g.S.BlockStore.state l.self.store.now) (g.B.Commit.state l.self.commit.now) (flights_of l.manner.flight l.session.turns.last));
      waits : AreWaiting l.manner.flight (public_of l.self.engine.now) (count_of l.self.engine.now (g.S.BlockStore.state l.self.store.now)) l.session.batch.items;
      keeps : KeepsServer g.B.Commit.name l.initial.self l.self;
      fed_by : IsFedBy l.feed (g.I.Source.gave l.input);
      source : g.I.Source.faults l.input ≡ g.I.Source.faults l.initial.input;
      sink : g.K.Sink.faults l.self.out.now ≡ g.K.Sink.faults l.initial.self.out.now;
      trace : g.T.Sink.faults l.self.trace.now ≡ g.T.Sink.faults l.initial.self.trace.now;
      traced :
          TracedAll l.manner.tracing (g.S.BlockStore.state l.initial.self.store.now).asked (g.S.BlockStore.state l.self.store.now).asked
          (g.T.Sink.written l.initial.self.trace.now) (g.T.Sink.written l.self.trace.now);
      took : g.D.Digester.took l.self.digest.now (g.S.BlockStore.state l.self.store.now).asked;
    }

abbrev pub decreases-bytes : goal.decreases-bytes
decreases-bytes g l = (l.feed.limit - l.feed.taken) + length l.feed.unread
