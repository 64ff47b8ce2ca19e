-- Bytes that wait for their sink, one piece after the other.
use Rattle.std.proofs.Common.{◌≡◌, ℕ, List, [], ◌++◌, take, drop, Option, refl, sym, ap, ◌∙◌, subst, inl, inr, append_assoc, append-nil, take-append-drop, false, true}
use Rattle.std.specs.Prelude.{Result, Ok, Err, IsErr, OnOk}
use Rattle.std.specs.Io.KnownBytes.{Appends}
use Rattle.std.proofs.KnownBytes.{Appends-nil, Appends-trans}
use Rattle.std.proofs.lemmas.List.{append_cancel_left}
use Rattle.ob_print.specs.Cuts.{Outputs}
use Rattle.ob_print.specs.Sent.{Sends}

-- none of it came
pub Sends-none : {F : Type 0} (w : Option (List ℕ)) (q bytes : List ℕ) → F → Sends w w q q F bytes
Sends-none w q bytes fault = record { sent = []; appends = Appends-nil w; lost = bytes; joined = refl; all = inr fault }

-- all of it waits
pub Sends-waits : (w : Option (List ℕ)) (q0 q1 bytes : List ℕ) → q1 ≡ q0 ++ bytes → Sends w w q0 q1 ⊥ bytes
Sends-waits w q0 q1 bytes is = record { sent = []; appends = Appends-nil w; lost = []; joined = sym (append-nil q1 ∙ is); all = inl refl }

-- all that waited was handed on, or after a fault a first part of it
pub Sends-flush : {w0 w1 : Option (List ℕ)} {F : Type 0} (q0 q1 : List ℕ) → Outputs w0 w1 F q0 → q1 ≡ [] → Sends w0 w1 q0 q1 F []
Sends-flush q0 q1 cut none = record {
  sent = cut.grown;
  appends = cut.appends;
  lost = cut.prefix.lost;
  joined = append-nil q0 ∙ cut.prefix.whole ∙ ap (λ (l : List ℕ). l ++ cut.prefix.lost) (sym (append-nil cut.grown) ∙ ap (λ (l : List ℕ). cut.grown ++ l) (sym none));
  all = elim cut.all [
    | inl same ↦ inl (append_cancel_left cut.grown cut.prefix.lost [] (sym cut.prefix.whole ∙ sym same ∙ sym (append-nil cut.grown)))
    | inr fault ↦ inr fault
  ];
}

-- nothing was lost
none_lost : {w0 w1 : Option (List ℕ)} {q0 q1 bytes : List ℕ} → (s : Sends w0 w1 q0 q1 ⊥ bytes) → s.lost ≡ []
none_lost s = elim s.all [ inl none ↦ none | inr never ↦ absurd never ]

pub Sends-then : {w0 w1 w2 : Option (List ℕ)} {q0 q1 q2 : List ℕ} {F : Type 0} (xs ys : List ℕ) → Sends w0 w1 q0 q1 ⊥ xs → Sends w1 w2 q1 q2 F ys
    → Sends w0 w2 q0 q2 F (xs ++ ys)
Sends-then {q0 = q0} {q1 = q1} {q2 = q2} xs ys p q =
    let first : q0 ++ xs ≡ p.sent ++ q1 = p.joined ∙ ap (λ (l : List ℕ). (p.sent ++ q1) ++ l) (none_lost p) ∙ append-nil (p.sent ++ q1) in
    record {
      sent = p.sent ++ q.sent;
      appends = Appends-trans _ _ _ _ _ p.appends q.appends;
      lost = q.lost;
      joined =
          sym (append_assoc q0 xs ys) ∙ ap (λ (l : List ℕ). l ++ ys) first ∙ append_assoc p.sent q1 ys ∙ ap (λ (l : List ℕ). p.sent ++ l) q.joined
          ∙ sym (append_assoc p.sent (q.sent ++ q2) q.lost) ∙ ap (λ (l : List ℕ). l ++ q.lost) (sym (append_assoc p.sent q.sent q2));
      all = q.all;
    }

-- after a fault what comes is lost
pub Sends-lose : {w0 w1 : Option (List ℕ)} {q0 q1 : List ℕ} {F : Type 0} (piece xs ys : List ℕ) → piece ≡ xs ++ ys → Sends w0 w1 q0 q1 F xs → F → Sends w0 w1 q0 q1 F piece
Sends-lose {q0 = q0} {q1 = q1} piece xs ys is s fault = record {
  sent = s.sent;
  appends = s.appends;
  lost = s.lost ++ ys;
  joined = ap (λ (l : List ℕ). q0 ++ l) is ∙ sym (append_assoc q0 xs ys) ∙ ap (λ (l : List ℕ). l ++ ys) s.joined ∙ append_assoc (s.sent ++ q1) s.lost ys;
  all = inr fault;
}

-- the fault has a cause of its own
pub Sends-by : {w0 w1 : Option (List ℕ)} {q0 q1 bytes : List ℕ} {F G : Type 0} → (F → G) → Sends w0 w1 q0 q1 F bytes → Sends w0 w1 q0 q1 G bytes
Sends-by by s = record { sent = s.sent; appends = s.appends; lost = s.lost; joined = s.joined; all = elim s.all [ inl none ↦ inl none | inr fault ↦ inr (by fault) ] }

-- without a fault nothing was lost
pub Sends-ok : {T E : Type 0} {w0 w1 : Option (List ℕ)} {q0 q1 bytes : List ℕ} (r : Result T E) → Sends w0 w1 q0 q1 (IsErr r) bytes → OnOk r (Sends w0 w1 q0 q1 ⊥ bytes)
Sends-ok (Ok x) s = Sends-by (λ (h : false ≡ true). absurd (cc)) s
Sends-ok (Err e) s = tt

-- where nothing waited, the sink took a first part
pub Sends-cut : {w0 w1 : Option (List ℕ)} {q0 q1 : List ℕ} {F : Type 0} (bytes : List ℕ) → q0 ≡ [] → Sends w0 w1 q0 q1 F bytes → Outputs w0 w1 (Unit {0}) bytes
Sends-cut {q1 = q1} bytes none s = record {
  grown = s.sent;
  appends = s.appends;
  prefix = record { lost = q1 ++ s.lost; whole = ap (λ (l : List ℕ). l ++ bytes) (sym none) ∙ s.joined ∙ append_assoc s.sent q1 s.lost };
  all = inr tt;
}

-- a front of the rest came to wait, and all that waited was flushed
pub Sends-step : {w0 w1 w2 : Option (List ℕ)} {q0 q1 q2 q3 : List ℕ} {F : Type 0} (done front : List ℕ) → Sends w0 w1 q0 q1 ⊥ done → q2 ≡ q1 ++ front → Outputs w1 w2 F q2 → q3 ≡ []
    → Sends w0 w2 q0 q3 F (done ++ front)
Sends-step {w0 = w0} {w1 = w1} {w2 = w2} {q0 = q0} {q1 = q1} {q2 = q2} {q3 = q3} {F = F} done front so_far waits cut none =
    subst (λ (l : List ℕ). Sends w0 w2 q0 q3 F (done ++ l)) (append-nil front) (Sends-then done (front ++ []) so_far (Sends-then front [] (Sends-waits w1 q1 q2 front waits) (Sends-flush q2 q3 cut none)))

-- what is left of a piece after a front of its rest
pub rest_behind : (piece done rest front later : List ℕ) (n : ℕ) → piece ≡ done ++ rest → front ≡ take n rest → later ≡ drop n rest → piece ≡ (done ++ front) ++ later
rest_behind piece done rest front later n is before after =
    is ∙ ap (λ (l : List ℕ). done ++ l) (sym (take-append-drop n rest) ∙ (λ i. sym before i ++ sym after i)) ∙ sym (append_assoc done front later)

-- ---- nothing waited before, and what waits is flushed
whole_of : {w0 w1 : Option (List ℕ)} {F : Type 0} {bytes : List ℕ} → Outputs w0 w1 F bytes → ¬ F → Appends w0 w1 bytes
whole_of {w0 = w0} {w1 = w1} cut not = elim cut.all [
  | inl same ↦ subst (λ (l : List ℕ). Appends w0 w1 l) same cut.appends
  | inr fault ↦ absurd (not fault)
]

pub flushed : {w0 w1 w2 : Option (List ℕ)} {q0 q1 : List ℕ} {F : Type 0} (bytes : List ℕ) → q0 ≡ [] → Sends w0 w1 q0 q1 ⊥ bytes → Outputs w1 w2 F q1 → Outputs w0 w2 F bytes
flushed {q0 = q0} {q1 = q1} bytes none s cut =
    let all : bytes ≡ s.sent ++ q1 = ap (λ (l : List ℕ). l ++ bytes) (sym none) ∙ s.joined ∙ ap (λ (l : List ℕ). (s.sent ++ q1) ++ l) (none_lost s) ∙ append-nil (s.sent ++ q1) in
    record {
      grown = s.sent ++ cut.grown;
      appends = Appends-trans _ _ _ _ _ s.appends cut.appends;
      prefix = record {
        lost = cut.prefix.lost;
        whole = all ∙ ap (λ (l : List ℕ). s.sent ++ l) cut.prefix.whole ∙ sym (append_assoc s.sent cut.grown cut.prefix.lost);
      };
      all = elim cut.all [ inl same ↦ inl (ap (λ (l : List ℕ). s.sent ++ l) same ∙ sym all) | inr fault ↦ inr fault ];
    }

-- all of it was taken
pub flushed_whole : {w0 w1 w2 : Option (List ℕ)} {q0 q1 : List ℕ} {F : Type 0} (bytes : List ℕ) → q0 ≡ [] → Sends w0 w1 q0 q1 ⊥ bytes → Outputs w1 w2 F q1 → ¬ F → Appends w0 w2 bytes
flushed_whole bytes none s cut not = whole_of (flushed bytes none s cut) not

pub flushed_ok : {T E : Type 0} {w0 w1 w2 : Option (List ℕ)} {q0 q1 : List ℕ} (r : Result T E) (bytes : List ℕ) → q0 ≡ [] → Sends w0 w1 q0 q1 ⊥ bytes → Outputs w1 w2 (IsErr r) q1 → OnOk r (Appends w0 w2 bytes)
flushed_ok (Ok x) bytes none s cut = flushed_whole bytes none s cut (λ (h : false ≡ true). absurd (cc))
flushed_ok (Err e) bytes none s cut = tt

-- a first part of it was taken
pub flushed_cut : {w0 w1 w2 : Option (List ℕ)} {q0 q1 : List ℕ} {F G : Type 0} (bytes : List ℕ) → q0 ≡ [] → Sends w0 w1 q0 q1 G bytes → Outputs w1 w2 F q1 → Outputs w0 w2 (Unit {0}) bytes
flushed_cut {q0 = q0} {q1 = q1} bytes none s cut = record {
  grown = s.sent ++ cut.grown;
  appends = Appends-trans _ _ _ _ _ s.appends cut.appends;
  prefix = record {
    lost = cut.prefix.lost ++ s.lost;
    whole =
        ap (λ (l : List ℕ). l ++ bytes) (sym none) ∙ s.joined ∙ ap (λ (l : List ℕ). (s.sent ++ l) ++ s.lost) cut.prefix.whole
        ∙ ap (λ (l : List ℕ). l ++ s.lost) (sym (append_assoc s.sent cut.grown cut.prefix.lost)) ∙ append_assoc (s.sent ++ cut.grown) cut.prefix.lost s.lost;
  };
  all = inr tt;
}
