use Rattle.std.proofs.Common.{arith, inl, inr, refl}
use Rattle.std.proofs.lemmas.Grind.{common_steps}
use Rattle.ob_io.proofs.sink.MemSinkSink.write.Goals as goal
use Rattle.ob_io.proofs.sink.MemSinkSink.write.Goals.{then-contains-via-then-contains, then-contains-via-else-contains+then-not-is_empty, then-self-eq0, else-self-eq0}

pub returns-then-contains-clause-fails : goal.returns-then-contains-clause-fails
returns-then-contains-clause-fails c = (
  λ _. elim c.then-contains.branch [
    | then-contains-via-then-contains w ↦ inl (grind (arith, common_steps))
    | then-contains-via-else-contains+then-not-is_empty w ↦ inr (elim w.if-self-eq0.branch [
      | then-self-eq0 v ↦ grind (arith, common_steps)
      | else-self-eq0 v ↦ grind (arith, common_steps)
    ])
  ],
  λ _. refl,
)
