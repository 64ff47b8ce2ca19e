-- What sinks took, one part after the other.
use Rattle.ob_shell.proofs.Words.{Access, ap, append-nil, append_assoc, append_cancel_left, Appends, Appends-trans, Bool, inl, inr, List, Option, Outputs, subst, sym, Took, traced, TracedAll, ℕ, [], ◌++◌, ◌∙◌, ◌⊎◌}
use Rattle.ob_shell.proofs.TraceLemmas.{traced-append, traced-nil}
use Rattle.ob_shell.specs.Traces.{TracedTo, Traces}

-- ---- what a sink took
pub took_whole : {w0 w1 : Option (List ℕ)} {bytes : List ℕ} → Appends w0 w1 bytes → Took w0 w1 bytes
took_whole {w0 = w0} {w1 = w1} {bytes = bytes} a =
    record { after = []; appends = subst (λ (l : List ℕ). Appends w0 w1 l) (sym (append-nil bytes)) a }

pub took_more : {w0 w1 w2 : Option (List ℕ)} {bytes : List ℕ} (more : List ℕ) → Took w0 w1 bytes → Appends w1 w2 more
    → Took w0 w2 bytes
took_more {w0 = w0} {w2 = w2} {bytes = bytes} more t b = record {
  after = t.after ++ more;
  appends = subst (λ (l : List ℕ). Appends w0 w2 l) (append_assoc bytes t.after more) (Appends-trans _ _ _ _ _ t.appends b);
}

pub took_of : {w0 w1 : Option (List ℕ)} {F : Type 0} {bytes : List ℕ} → Outputs w0 w1 F bytes → ¬ F → Took w0 w1 bytes
took_of {w0 = w0} {w1 = w1} c not = elim c.all [
  | inl e ↦ took_whole (subst (λ (l : List ℕ). Appends w0 w1 l) e c.appends)
  | inr f ↦ absurd (not f)
]

-- or an end of it was lost
pub took_or : {w0 w1 : Option (List ℕ)} {F G : Type 0} {bytes : List ℕ} → Outputs w0 w1 F bytes → (F → G) → Took w0 w1 bytes ⊎ G
took_or {w0 = w0} {w1 = w1} c by = elim c.all [
  | inl e ↦ inl (took_whole (subst (λ (l : List ℕ). Appends w0 w1 l) e c.appends))
  | inr f ↦ inr (by f)
]

pub took_after : {w0 w1 w2 : Option (List ℕ)} {bytes : List ℕ} (first : List ℕ) → Appends w0 w1 first → Took w1 w2 bytes → Took w0 w2 (first ++ bytes)
took_after {w0 = w0} {w2 = w2} {bytes = bytes} first a t = record {
  after = t.after;
  appends = subst (λ (l : List ℕ). Appends w0 w2 l) (sym (append_assoc first bytes t.after)) (Appends-trans _ _ _ _ _ a t.appends);
}

-- ---- what the trace took
pub traced_on : {on : Bool} {t0 t1 t2 : Option (List ℕ)} {a0 a1 a2 : List Access} → TracedAll on a0 a1 t0 t1 → TracedTo on a1 a2 t1 t2 → TracedTo on a0 a2 t0 t2
traced_on {on = on} {t0 = t0} {t2 = t2} {a0 = a0} all more = record {
  seen = all.seen ++ more.seen;
  grew = more.grew ∙ ap (λ (l : List Access). l ++ more.seen) all.grew ∙ append_assoc a0 all.seen more.seen;
  took = subst (λ (l : List ℕ). Took t0 t2 l) (sym (traced-append on all.seen more.seen)) (took_after (traced on all.seen) all.appends more.took);
}

pub traced_to : {on : Bool} {t0 t1 : Option (List ℕ)} {a0 a1 : List Access} → TracedAll on a0 a1 t0 t1 → TracedTo on a0 a1 t0 t1
traced_to all = record { seen = all.seen; grew = all.grew; took = took_whole all.appends }

pub traces_to : {on : Bool} {t0 t1 : Option (List ℕ)} {a0 a1 : List Access} → TracedTo on a0 a1 t0 t1 → Traces on t0 t1 a0 a1
traces_to {on = on} {t0 = t0} {t1 = t1} {a0 = a0} to = record {
  whole = λ asked is. subst (λ (l : List Access). Took t0 t1 (traced on l)) (append_cancel_left a0 to.seen asked (sym to.grew ∙ is)) to.took;
}

pub traces_all : {on : Bool} {t0 t1 : Option (List ℕ)} {a0 a1 : List Access} → TracedAll on a0 a1 t0 t1 → Traces on t0 t1 a0 a1
traces_all {on = on} {t0 = t0} {t1 = t1} {a0 = a0} all = record {
  whole = λ asked is. took_whole (subst (λ (l : List Access). Appends t0 t1 (traced on l)) (append_cancel_left a0 all.seen asked (sym all.grew ∙ is)) all.appends);
}

-- where nothing was asked nothing is traced
pub traced_to_none : (on : Bool) (a : List Access) (t0 t1 : Option (List ℕ)) (more : List ℕ) → Appends t0 t1 more → TracedTo on a a t0 t1
traced_to_none on a t0 t1 more appends = record {
  seen = [];
  grew = sym (append-nil a);
  took = record { after = more; appends = subst (λ (l : List ℕ). Appends t0 t1 (l ++ more)) (sym (traced-nil on)) appends };
}
