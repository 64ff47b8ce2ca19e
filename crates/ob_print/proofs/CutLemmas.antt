-- Bytes that were written one after the other, the last of them perhaps cut.
use Rattle.std.proofs.Common.{ℕ, List, [], ◌++◌, Option, refl, sym, ap, ◌∙◌, inl, inr, append_assoc, append-nil}
use Rattle.std.specs.Io.KnownBytes.{Appends}
use Rattle.std.proofs.KnownBytes.{Appends-trans}
use Rattle.ob_print.specs.Cuts.{Outputs}

-- what was written whole, and then what was cut
pub Outputs-after : {w0 w1 w2 : Option (List ℕ)} {F : Type 0} (a : List ℕ) {b : List ℕ} → Appends w0 w1 a → Outputs w1 w2 F b → Outputs w0 w2 F (a ++ b)
Outputs-after a {b = b} p q = record {
  grown = a ++ q.grown;
  appends = Appends-trans _ _ _ _ _ p q.appends;
  prefix = record { lost = q.prefix.lost; whole = ap (λ (l : List ℕ). a ++ l) q.prefix.whole ∙ sym (append_assoc a q.grown q.prefix.lost) };
  all = elim q.all [ inl h ↦ inl (ap (λ (l : List ℕ). a ++ l) h) | inr h ↦ inr h ];
}

-- all of it was written
pub Outputs-whole : (w0 w1 : Option (List ℕ)) (F : Type 0) (a : List ℕ) → Appends w0 w1 a → Outputs w0 w1 F a
Outputs-whole w0 w1 F a p = record { grown = a; appends = p; prefix = record { lost = []; whole = sym (append-nil a) }; all = inl refl }

-- it was cut for another reason
pub Outputs-fault : {w0 w1 : Option (List ℕ)} {F G : Type 0} {a : List ℕ} → G → Outputs w0 w1 F a → Outputs w0 w1 G a
Outputs-fault g q = record { grown = q.grown; appends = q.appends; prefix = q.prefix; all = inr g }

-- the fault has a cause of its own
pub Outputs-by : {w0 w1 : Option (List ℕ)} {F G : Type 0} {a : List ℕ} → (F → G) → Outputs w0 w1 F a → Outputs w0 w1 G a
Outputs-by by q = record { grown = q.grown; appends = q.appends; prefix = q.prefix; all = elim q.all [ inl h ↦ inl h | inr f ↦ inr (by f) ] }

-- what comes after a fault is lost
pub Outputs-more : {w0 w1 : Option (List ℕ)} {F : Type 0} {a : List ℕ} (b : List ℕ) → Outputs w0 w1 F a → F → Outputs w0 w1 F (a ++ b)
Outputs-more {a = a} b q f = record {
  grown = q.grown;
  appends = q.appends;
  prefix = record {
    lost = q.prefix.lost ++ b;
    whole = ap (λ (l : List ℕ). l ++ b) q.prefix.whole ∙ append_assoc q.grown q.prefix.lost b;
  };
  all = inr f;
}
