use Rattle.ob_shell.proofs.Words.{ap, Bool, false, flights_of, if◌then◌else◌, List, machine_of, true, ℕ, [], ◌∷◌, ◌≡◌}
use Rattle.ob_headline.specs.Texts.{tail_text, has_words, reading_of}
use Rattle.ob_shell.proofs.TakesLemmas.{takes_idle, takes_of_text}
use Rattle.ob_shell.proofs.session.Server.finish.Goals as goal

tail_text-by : (rest : List ℕ) (b : Bool) → has_words (reading_of rest) ≡ b → tail_text rest ≡ (if b then rest ∷ [] else [])
tail_text-by rest b is = ap (λ (x : Bool). if x then rest ∷ [] else []) is

pub returns-then-not-has_words-clause-takes : goal.returns-then-not-has_words-clause-takes
returns-then-not-has_words-clause-takes g c =
    let none : has_words (reading_of c.args.session.now.pending) ≡ false = cc (c.has_words.ensures, c.if-not-has_words.true) in
    rw (tail_text-by c.args.session.now.pending false none)
    (takes_idle c.args.manner.tracing c.args.session.now.batch.items c.args.session.now.tally _ _ _ (machine_of c.args.self.now.engine.now (g.S.BlockStore.state c.args.self.now.store.now) (g.B.Commit.state c.args.self.now.commit.now) (flights_of c.args.manner.flight c.args.session.now.turns.last)) _ c.requires.ready.ready c.requires.waits (λ h free. free))

pub returns-clause-takes : goal.returns-clause-takes
returns-clause-takes g c =
    let some : has_words (reading_of c.args.session.now.pending) ≡ true = cc (c.has_words.ensures, c.if-not-has_words.false) in
    takes_of_text _ _ _ _ _ _ _ _ _ _ _ _ _ _ _ _ _ (tail_text c.args.session.now.pending) c.args.session.now.pending (tail_text-by c.args.session.now.pending true some) c.take_text.result c.take_text.ensures.takes
