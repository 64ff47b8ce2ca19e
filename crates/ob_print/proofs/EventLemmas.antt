-- Events that are printed one after the other.
use Rattle.std.proofs.Common.{◌≡◌, ℕ, List, [], ◌∷◌, ◌++◌, Option, sym, ap, ◌∙◌, append_assoc, append-nil}
use Rattle.std.specs.Prelude.{Result, Ok, Err, OnErr}
use Rattle.ob_print.specs.Sent.{Sends}
use Rattle.ob_print.proofs.SentLemmas.{Sends-by, Sends-lose, Sends-then}
use Rattle.ob_base.specs.Events.{Event}
use Rattle.ob_print.specs.Rows.{event_text, events_text, Printed, PrintedCut}

pub on_err : {T E P : Type 0} (r : Result T E) → P → OnErr r P
on_err (Ok x) p = tt
on_err (Err e) p = p

events_text-push : (es : List Event) (e : Event) → events_text (es ++ e ∷ []) ≡ events_text es ++ event_text e
unfolding events_text
events_text-push [] e = append-nil (event_text e)
events_text-push (x ∷ xs) e = ap (λ (l : List ℕ). event_text x ++ l) (events_text-push xs e) ∙ sym (append_assoc (event_text x) _ _)

pub printed_push : {w0 w1 w2 : Option (List ℕ)} {q0 q1 q2 : List ℕ} (es : List Event) (e : Event) (line : List ℕ) → line ≡ event_text e → Printed w0 w1 q0 q1 es → Sends w1 w2 q1 q2 ⊥ line
    → Printed w0 w2 q0 q2 (es ++ e ∷ [])
printed_push es e line l p q = rw (events_text-push es e, ← l) (Sends-then (events_text es) line p q)

pub printed_cut : {F : Type 0} {w0 w1 w2 : Option (List ℕ)} {q0 q1 q2 : List ℕ} (es : List Event) (e : Event) (line : List ℕ) → line ≡ event_text e → Printed w0 w1 q0 q1 es → Sends w1 w2 q1 q2 F line
    → PrintedCut w0 w2 q0 q2 (es ++ e ∷ [])
printed_cut es e line l p q = rw (events_text-push es e, ← l) (Sends-then (events_text es) line p (Sends-by (λ _. tt) q))

pub printed_not : {w0 w1 : Option (List ℕ)} {q0 q1 : List ℕ} (es : List Event) (e : Event) → Printed w0 w1 q0 q1 es → PrintedCut w0 w1 q0 q1 (es ++ e ∷ [])
printed_not es e p = Sends-lose (events_text (es ++ e ∷ [])) (events_text es) (event_text e) (events_text-push es e) (Sends-by (λ _. tt) p) tt
