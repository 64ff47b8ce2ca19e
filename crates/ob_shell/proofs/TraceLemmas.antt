-- The text of accesses, one after the other.
use Rattle.ob_shell.proofs.Words.{Access, ap, append-nil, append_assoc, Appends-nil, Appends-trans, Bool, drop, false, inr, length, List, Option, Outputs-after, Outputs-whole, refl, slice_get, Some, subst, suc, sym, take, Traced, traced, TracedAll, true, ℕ, [], ◌++◌, ◌+◌, ◌∙◌, ◌∷◌, ◌≡◌, ◌≤◌}
use Rattle.std.proofs.Common.{drop-cons, add-one}
use Rattle.std.proofs.Math.ListN.{drop_of_length-le}
use Rattle.std.proofs.Math.Seq.{drop-append_seam}
use Rattle.std.proofs.lemmas.List.{take_at}
use Rattle.std.proofs.lemmas.Option.{slice_get_within, get_or_from_slice_get}
use Rattle.ob_print.proofs.TraceText.{trace_text-append}
use Rattle.ob_print.specs.Lines.{access_line, trace_text}

pub trace_text-nil : trace_text [] ≡ []
unfolding trace_text
trace_text-nil = refl

pub trace_text-at : (xs : List Access) (i : ℕ) (a : Access) → slice_get xs i ≡ Some a → trace_text (drop i xs) ≡ access_line a ++ trace_text (drop (i + 1) xs)
unfolding trace_text
trace_text-at xs i a h =
    let d : drop i xs ≡ a ∷ drop (i + 1) xs =
    rw add-one (subst (λ (x : Access). drop i xs ≡ x ∷ drop (suc i) xs) (get_or_from_slice_get xs i a a h) (drop-cons xs i a (slice_get_within xs i a h))) in
    ap trace_text d

pub trace_text-end : (xs : List Access) (i : ℕ) → length xs ≤ i → trace_text (drop i xs) ≡ []
trace_text-end xs i h = rw (drop_of_length-le xs h) trace_text-nil

pub trace_more : (xs : List Access) (i : ℕ) (a : Access) (line text all : List ℕ) → line ≡ access_line a → slice_get xs i ≡ Some a
    → all ≡ text ++ trace_text (drop i xs) → all ≡ (text ++ line) ++ trace_text (drop (i + 1) xs)
trace_more xs i a line text all l h e =
    e ∙ ap (λ (t : List ℕ). text ++ t) (trace_text-at xs i a h) ∙ sym (append_assoc text (access_line a) _)
    ∙ ap (λ (t : List ℕ). (text ++ t) ++ trace_text (drop (i + 1) xs)) (sym l)

pub trace_done : (xs : List Access) (i : ℕ) (text all : List ℕ) → length xs ≤ i → all ≡ text ++ trace_text (drop i xs) → text ≡ all
trace_done xs i text all h e = sym (e ∙ ap (λ (t : List ℕ). text ++ t) (trace_text-end xs i h) ∙ append-nil text)

pub traced_none : (tracing : Bool) (asked : List Access) (w : Option (List ℕ)) → TracedAll tracing asked asked w w
traced_none true asked w = record { seen = []; grew = sym (append-nil asked); appends = rw trace_text-nil (Appends-nil w) }
traced_none false asked w = record { seen = []; grew = sym (append-nil asked); appends = Appends-nil w }

pub traced-nil : (tracing : Bool) → traced tracing [] ≡ []
traced-nil true = trace_text-nil
traced-nil false = refl

pub traced-append : (tracing : Bool) (xs ys : List Access) → traced tracing (xs ++ ys) ≡ traced tracing xs ++ traced tracing ys
traced-append true xs ys = trace_text-append xs ys
traced-append false xs ys = refl

pub traced_then : {tracing : Bool} {a0 a1 a2 : List Access} {w0 w1 w2 : Option (List ℕ)} → TracedAll tracing a0 a1 w0 w1 → TracedAll tracing a1 a2 w1 w2 → TracedAll tracing a0 a2 w0 w2
traced_then {tracing = tracing} {a0 = a0} p q = record {
  seen = p.seen ++ q.seen;
  grew = q.grew ∙ ap (λ (l : List Access). l ++ q.seen) p.grew ∙ append_assoc a0 p.seen q.seen;
  appends = rw traced-append (Appends-trans _ _ _ _ _ p.appends q.appends);
}

pub traced_cut : {tracing : Bool} {a0 a1 a2 : List Access} {w0 w1 w2 : Option (List ℕ)} {F : Type 0} → TracedAll tracing a0 a1 w0 w1 → Traced tracing a1 a2 w1 w2 F → Traced tracing a0 a2 w0 w2 F
traced_cut {a0 = a0} p q = record {
  seen = p.seen ++ q.seen;
  grew = q.grew ∙ ap (λ (l : List Access). l ++ q.seen) p.grew ∙ append_assoc a0 p.seen q.seen;
  cut = rw traced-append (Outputs-after _ p.appends q.cut);
}

pub traced_whole : {tracing : Bool} {a0 a1 : List Access} {w0 w1 : Option (List ℕ)} (F : Type 0) → TracedAll tracing a0 a1 w0 w1 → Traced tracing a0 a1 w0 w1 F
traced_whole F p = record { seen = p.seen; grew = p.grew; cut = Outputs-whole _ _ F _ p.appends }

-- of what was asked nothing was traced, for this cause
pub lost_trace : {tracing : Bool} {a0 a1 : List Access} {w : Option (List ℕ)} {F : Type 0} → (seen : List Access) × (a1 ≡ a0 ++ seen) → F → Traced tracing a0 a1 w w F
lost_trace {w = w} asked fault = record { seen = asked.0; grew = asked.1; cut = record { grown = []; appends = Appends-nil w; prefix = record { lost = _; whole = refl }; all = inr fault } }

-- what was asked since the mark
pub since : (asked0 asked1 seen : List Access) (mark : ℕ) → asked1 ≡ asked0 ++ seen → mark ≡ length asked0 → drop mark asked1 ≡ seen
since asked0 asked1 seen mark e m = rw (m, e) (drop-append_seam asked0 seen)

-- what was asked before it
pub until : (asked0 asked1 seen : List Access) (mark : ℕ) → asked1 ≡ asked0 ++ seen → mark ≡ length asked0 → take mark asked1 ≡ asked0
until asked0 asked1 seen mark e m = subst (λ (l : List Access). take mark l ≡ asked0) (sym e) (take_at asked0 seen mark (sym m))
