use Rattle.ob_shell.proofs.Words.{ap, flights_of, machine_of, None, Ok, public_of, Some, ◌∙◌, ◌≡◌}
use Rattle.ob_shell.proofs.GatherLemmas.{comes_free}
use Rattle.ob_shell.proofs.RunLemmas.{at_limit_is_over}
use Rattle.ob_shell.proofs.TakesLemmas.{takes_idle, turns_by}
use Rattle.ob_shell.proofs.session.Server.take_byte.Goals as goal

pub returns-in-Ok-More-clause-takes : goal.returns-in-Ok-More-clause-takes
returns-in-Ok-More-clause-takes g c =
    let pushed = rw c.in-Ok-More.field-0-is at c.in-Ok-More.ensures in
    rw pushed.0
    (takes_idle c.args.manner.tracing c.args.session.now.batch.items c.args.session.now.tally _ _ _ (machine_of c.args.self.now.engine.now (g.S.BlockStore.state c.args.self.now.store.now) (g.B.Commit.state c.args.self.now.commit.now) (flights_of c.args.manner.flight c.args.session.now.turns.last)) _ c.requires.ready.ready c.requires.waits (λ h free. free))

pub returns-in-Err-NoMemory-clause-takes : goal.returns-in-Err-NoMemory-clause-takes
returns-in-Err-NoMemory-clause-takes g c = (
  takes_idle c.args.manner.tracing c.args.session.now.batch.items c.args.session.now.tally _ _ _ (machine_of c.args.self.now.engine.now (g.S.BlockStore.state c.args.self.now.store.now) (g.B.Commit.state c.args.self.now.commit.now) (flights_of c.args.manner.flight c.args.session.now.turns.last)) _ c.requires.ready.ready c.requires.waits
      (λ h free. comes_free c.args.manner.flight (public_of c.args.self.now.engine.now) c.args.session.now.batch.items h free),
  tt,
)

pub returns-in-Err-InputLimit-clause-takes : goal.returns-in-Err-InputLimit-clause-takes
returns-in-Err-InputLimit-clause-takes g c =
    let pushed = rw c.in-Err-InputLimit.field-0-is at c.in-Err-InputLimit.ensures in (
      takes_idle c.args.manner.tracing c.args.session.now.batch.items c.args.session.now.tally _ _ _ (machine_of c.args.self.now.engine.now (g.S.BlockStore.state c.args.self.now.store.now) (g.B.Commit.state c.args.self.now.commit.now) (flights_of c.args.manner.flight c.args.session.now.turns.last)) _ c.requires.ready.ready c.requires.waits
          (λ h free. comes_free c.args.manner.flight (public_of c.args.self.now.engine.now) c.args.session.now.batch.items h free),
      (pushed.0, at_limit_is_over _ _ pushed.1 pushed.2),
    )

pub returns-in-Ok-None-clause-takes : goal.returns-in-Ok-None-clause-takes
returns-in-Ok-None-clause-takes g c =
    let pushed = rw c.in-Ok-Whole.field-0-is at c.in-Ok-Whole.ensures in
    turns_by _ _ _ _ _ _ _ _ _ _ _ _ _ _ _ _ _ c.args.session.now.pending c.args.b c.push.new.self pushed.0 (Ok None) (rw c.in-Ok-None.field-0-is at c.in-Ok-None.ensures.takes)

pub returns-in-Ok-Some-clause-takes : goal.returns-in-Ok-Some-clause-takes
returns-in-Ok-Some-clause-takes g c =
    let pushed = rw c.in-Ok-Whole.field-0-is at c.in-Ok-Whole.ensures in
    let left : c.take_text.result ≡ Ok (Some c.in-Ok-Some.stop) = c.in-Ok-Some.is ∙ ap Ok c.in-Ok-Some.field-0-is in
    rw left at (turns_by _ _ _ _ _ _ _ _ _ _ _ _ _ _ _ _ _ c.args.session.now.pending c.args.b c.push.new.self pushed.0 c.take_text.result c.take_text.ensures.takes)

pub returns-in-Err-clause-takes : goal.returns-in-Err-clause-takes
returns-in-Err-clause-takes g c =
    let pushed = rw c.in-Ok-Whole.field-0-is at c.in-Ok-Whole.ensures in
    rw c.in-Err.is at (turns_by _ _ _ _ _ _ _ _ _ _ _ _ _ _ _ _ _ c.args.session.now.pending c.args.b c.push.new.self pushed.0 c.take_text.result c.take_text.ensures.takes)
