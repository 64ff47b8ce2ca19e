use Rattle.ob_tables.proofs.SettleLemmas.{former_waits, ready_then, replaced_waits, settles, spare_then}
use Rattle.ob_tables.proofs.engine.Engine.settle.Goals as goal

pub discard_left-requires-clause-waits : goal.discard_left-requires-clause-waits
discard_left-requires-clause-waits g c =
    former_waits g.R.Revisions.state c.args.self.now (g.S.BlockStore.state c.args.store.now) c.args.left c.requires.agrees c.requires.waits c.requires.spare

pub discard_left-requires-2-clause-ready : goal.discard_left-requires-2-clause-ready
discard_left-requires-2-clause-ready g c =
    ready_then g.R.Revisions.state c.args.self.now (g.S.BlockStore.state c.args.store.now) c.args.left c.requires.agrees c.requires.waits c.requires.spare
    (g.S.BlockStore.state c.discard_left.new.store) c.discard_left.ensures.drops

pub discard_left-requires-2-clause-spare : goal.discard_left-requires-2-clause-spare
discard_left-requires-2-clause-spare g c =
    spare_then g.R.Revisions.state c.args.self.now (g.S.BlockStore.state c.args.store.now) c.args.left c.requires.agrees c.requires.waits c.requires.spare
    (g.S.BlockStore.state c.discard_left.new.store) c.discard_left.ensures.drops

pub discard_left-requires-2-clause-waits : goal.discard_left-requires-2-clause-waits
discard_left-requires-2-clause-waits g c =
    replaced_waits g.R.Revisions.state c.args.self.now (g.S.BlockStore.state c.args.store.now) c.args.left c.requires.agrees c.requires.waits c.requires.spare
    (g.S.BlockStore.state c.discard_left.new.store) c.discard_left.ensures.drops

pub returns : goal.returns
returns g c =
    record {
      settles =
          settles g.R.Revisions.state c.args.self.now (g.S.BlockStore.state c.args.store.now) c.args.left c.requires.agrees c.requires.waits c.requires.spare
          (g.S.BlockStore.state c.discard_left.new.store) c.discard_left.ensures.drops (g.S.BlockStore.state c.discard_left-2.new.store) c.discard_left-2.ensures.drops;
    }
