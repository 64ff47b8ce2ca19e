use Rattle.ob_shell.proofs.Words.{rules}
use Rattle.ob_shell.proofs.RunLemmas.{ran_over}
use Rattle.ob_shell.proofs.TakesLemmas.{ready_with}
use Rattle.ob_shell.proofs.session.serve.Goals as goal

pub serve_feed-requires : goal.serve_feed-requires
serve_feed-requires g c = record {
  none = c.new-2.ensures.items;
  fresh = c.new.ensures;
  uncounted = c.new-3.ensures;
  ready = rw c.new-server.ensures (record { ready = ready_with c.requires.ready; took = c.requires.took });
  fed_by = c.requires.fed_by;
}

-- what the server referred to has come to what it has
pub returns-clause-ran : goal.returns-clause-ran
returns-clause-ran g c =
    ran_over g.S.BlockStore.state g.B.Commit.state g.K.Sink.written g.K.Sink.faults g.T.Sink.written _ (search rules) (search rules) (search rules) (search rules) (search rules) c.turns_of.ensures
    (rw c.new-server.ensures at c.serve_feed.ensures.ran)
