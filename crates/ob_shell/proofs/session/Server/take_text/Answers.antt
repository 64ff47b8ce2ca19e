use Rattle.ob_shell.proofs.Words.{Err, flights_of, List, machine_of, public_of, refl, Spells, subst, ℕ}
use Rattle.ob_parse.specs.Refusal.{IsRefused}
use Rattle.ob_parse.specs.declared.parser.ParseErr.{ParseErr}
use Rattle.ob_token.specs.Tokens.{tokens_of}
use Rattle.ob_shell.proofs.GatherLemmas.{comes_free}
use Rattle.ob_shell.proofs.TakesLemmas.{takes_idle}
use Rattle.ob_shell.proofs.session.Server.take_text.Goals as goal

pub take_misspelt-requires-clause-spells : goal.take_misspelt-requires-clause-spells
take_misspelt-requires-clause-spells g c =
    subst (λ (l : List ℕ). Spells l (Err c.in-Syntax.at)) c.text.ensures
    (subst (λ (e : ParseErr). IsRefused c.text.result.now (tokens_of c.text.result.now) e) c.in-Syntax.is c.in-Err.ensures.refused)

pub returns-in-NoMemory-clause-takes : goal.returns-in-NoMemory-clause-takes
returns-in-NoMemory-clause-takes g c = (
  takes_idle c.args.manner.tracing c.args.session.now.batch.items c.args.session.now.tally _ _ _ (machine_of c.args.self.now.engine.now (g.S.BlockStore.state c.args.self.now.store.now) (g.B.Commit.state c.args.self.now.commit.now) (flights_of c.args.manner.flight c.args.session.now.turns.last)) _ c.requires.ready.ready c.requires.waits
      (λ h free. comes_free c.args.manner.flight (public_of c.args.self.now.engine.now) c.args.session.now.batch.items h free),
  refl,
)
