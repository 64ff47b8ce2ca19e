-- The text of the first accesses of a list.
use Rattle.std.proofs.Common.{◌≡◌, ℕ, suc, ◌+◌, ◌≤◌, List, [], ◌∷◌, ◌++◌, length, take, Some, refl, ap, ◌∙◌, subst, append-nil, add-one}
use Rattle.std.specs.Prelude.{slice_get}
use Rattle.std.proofs.lemmas.Option.{slice_get_within, get_or_from_slice_get}
use Rattle.std.proofs.Math.Seq.{take-suc, take_all}
use Rattle.ob_base.specs.declared.access.Access.{Access}
use Rattle.ob_print.specs.Lines.{access_line, trace_text}
use Rattle.ob_print.proofs.TraceText.{trace_text-append}

-- one access more
pub text_more : (xs : List Access) (i : ℕ) (a : Access) → slice_get xs i ≡ Some a
    → trace_text (take (i + 1) xs) ≡ trace_text (take i xs) ++ access_line a
unfolding trace_text
text_more xs i a at =
    let within = slice_get_within xs i a at in
    let taken : take (i + 1) xs ≡ take i xs ++ (a ∷ []) =
    rw add-one (subst (λ (x : Access). take (suc i) xs ≡ take i xs ++ (x ∷ [])) (get_or_from_slice_get xs i a a at) (take-suc xs i a within)) in
    ap trace_text taken ∙ trace_text-append (take i xs) (a ∷ []) ∙ ap (λ (t : List ℕ). trace_text (take i xs) ++ t) (append-nil (access_line a))

-- before the first
pub text_none : (xs : List Access) → trace_text (take 0 xs) ≡ []
unfolding trace_text
text_none xs = refl

-- all of them
pub text_all : (xs : List Access) (i : ℕ) → length xs ≤ i → trace_text (take i xs) ≡ trace_text xs
text_all xs i end = ap trace_text (take_all i xs end)
