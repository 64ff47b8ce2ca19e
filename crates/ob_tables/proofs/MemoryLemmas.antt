-- Where want of memory may stop a statement.
use Rattle.ob_tables.proofs.Words.{inl, inr, Public, Seen, Stmt, StoreState}
use Rattle.ob_tables.specs.Memory.{LacksMemory}

-- less may be said of the emitter
pub lacks_less : {p : Public} {stmt : Stmt} {seen : Seen} {s t : StoreState} {A B : Type 0} → (A → B) → LacksMemory p stmt seen s t A → LacksMemory p stmt seen s t B
lacks_less less lacks = record {
  done = lacks.done;
  rest = lacks.rest;
  split = lacks.split;
  asked = lacks.asked;
  place = elim lacks.place [ inl make ↦ inl make | inr other ↦ inr (elim other [ inl before ↦ inl before | inr emits ↦ inr (emits.0, less emits.1) ]) ];
}
