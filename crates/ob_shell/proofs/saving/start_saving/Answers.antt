use Rattle.ob_shell.proofs.Words.{Access, ap, arith, Err, inr, length, List, Ok, refl, subst}
use Rattle.ob_shell.proofs.EngageLemmas.{cut_caused}
use Rattle.ob_shell.proofs.saving.start_saving.Goals as goal

pub returns-in-Err-trace_from-clause-err : goal.returns-in-Err-trace_from-clause-err
returns-in-Err-trace_from-clause-err g c =
    let has = c.in-Ok.ensures.ok in
    let traces = c.in-Err-trace_from.ensures in
    rw (c.kept_at-in-Err-trace_from.ensures, c.stopped.ensures) (record {
      begun = record {
        mark = Ok has.mark;
        read = has.read;
        gives = has.gives;
        why = inr (record {
          salt = Ok has.salt;
          drawn = has.drawn;
          draws = has.draws;
          why = inr (inr (record { ends = refl; rises = traces.cause.failed; keys = has.keys; base = has.base; begins = has.begins; hands = has.hands }));
        });
      };
      traced_all = cut_caused (Err c.in-Err-trace_from.field-0) _ _ traces.cause traces.cut;
      quiet = record { rose = λ it. traces.cause.failed; kept = λ it. absurd (cc it) };
      later = traces.cause.later;
      high = let most = has.engages.high in let value = c.high.ensures.value in omega (arith, most, value);
    })

pub trace_from-requires-clause-listed : goal.trace_from-requires-clause-listed
trace_from-requires-clause-listed g c =
    let none = ap (λ (l : List Access). length l) c.requires.fresh in
    omega (arith, c.find_saved.ensures.log, g.met.S.BlockStore.within_asked c.args.store.now, none)

pub trace_from-requires-in-Ok-clause-listed : goal.trace_from-requires-in-Ok-clause-listed
trace_from-requires-in-Ok-clause-listed g c =
    let none = ap (λ (l : List Access). length l) c.requires.fresh in
    omega (arith, c.find_saved.ensures.log, g.met.S.BlockStore.within_asked c.args.store.now, none)

pub returns-in-Err-clause-took : goal.returns-in-Err-clause-took
returns-in-Err-clause-took g c = c.trace_from.ensures.took (subst (λ (l : List Access). g.D.Digester.took c.args.digest.now l) c.requires.fresh c.requires.took)

pub returns-in-Err-trace_from-clause-took : goal.returns-in-Err-trace_from-clause-took
returns-in-Err-trace_from-clause-took g c = c.trace_from-in-Ok.ensures.took (subst (λ (l : List Access). g.D.Digester.took c.args.digest.now l) c.requires.fresh c.requires.took)

pub returns-in-Ok-trace_from-clause-took : goal.returns-in-Ok-trace_from-clause-took
returns-in-Ok-trace_from-clause-took g c = c.trace_from-in-Ok.ensures.took (subst (λ (l : List Access). g.D.Digester.took c.args.digest.now l) c.requires.fresh c.requires.took)
