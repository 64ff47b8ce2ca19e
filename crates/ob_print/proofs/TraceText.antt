-- The text of accesses, one after the other.
use Rattle.std.proofs.Common.{◌≡◌, ℕ, List, [], ◌∷◌, ◌++◌, refl, sym, ap, ◌∙◌, append_assoc}
use Rattle.ob_base.specs.declared.access.Access.{Access}
use Rattle.ob_print.specs.Lines.{access_line, trace_text}

pub trace_text-append : (xs ys : List Access) → trace_text (xs ++ ys) ≡ trace_text xs ++ trace_text ys
unfolding trace_text
trace_text-append [] ys = refl
trace_text-append (x ∷ xs) ys = ap (λ (l : List ℕ). access_line x ++ l) (trace_text-append xs ys) ∙ sym (append_assoc (access_line x) _ _)
