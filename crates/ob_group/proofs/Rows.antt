-- The rows of groups that were emitted.
use Rattle.std.proofs.Common.{◌≡◌, ◌<◌, ◌+◌, ℕ, List, [], ◌∷◌, ◌++◌, length, take, drop, slice_index_or, Result, Ok, Err, OnOk, OnErr, refl, sym, ◌∙◌, ap, subst, arith, append_assoc}
use Rattle.std.proofs.lemmas.List.{append-nil, map-append, take_more, take-append-drop}
use Rattle.ob_base.specs.declared.shown.Shown.{Shown}
use Rattle.ob_base.specs.declared.emit.EmitErr.{EmitErr}
use Rattle.ob_base.specs.declared.schema.Kind.{Kind}
use Rattle.ob_base.specs.Events.{Event, Row, EmitCause, row_events, Leads, IsEmitted, IsHalted}
use Rattle.ob_base.proofs.EventLemmas.{emitted_head, emitted_join, halted_join}
use Rattle.ob_row.specs.declared.aggregate.Item.{Item}
use Rattle.ob_group.specs.Grouping.{Group, group_shown, groups_shown}
use Rattle.ob_group.specs.Held.{no_group}
use Rattle.ob_group.specs.Passes.{EmitsGroups}
use Rattle.ob_group.specs.Steps.{EmitsAll}

module _ (items : List Item) (gs : List Group) (i : ℕ) where
  -- one more, and those that are left
  pub shown_more : i < length gs → groups_shown items (take i gs) ++ group_shown items (slice_index_or gs i no_group) ∷ [] ≡ groups_shown items (take (i + 1) gs)
  shown_more below = sym (ap (groups_shown items) (take_more gs i no_group below) ∙ map-append (group_shown items) (take i gs) (slice_index_or gs i no_group ∷ []))

  pub shown_rest : (rest : List (List Shown)) × (groups_shown items (take i gs) ++ rest ≡ groups_shown items gs)
  shown_rest = (groups_shown items (drop i gs), sym (map-append (group_shown items) (take i gs) (drop i gs)) ∙ ap (groups_shown items) (take-append-drop i gs))

module _ {E A T R : Type 0} (grew cut : E → E → List Event → Type 0) (shown : A → List Shown) (cells : List Shown) (told : (s : A) → cells ≡ shown s) (old new : E) where
  pub one_emitted : (r : Result T R) → OnOk r (Leads grew grew old new (Row cells ∷ [])) → OnOk r (IsEmitted grew [] (λ s. shown s ∷ []) 0 1 old new)
  one_emitted (Ok x) leads = record { rows = cells ∷ []; count = omega arith; leads = leads; told = λ s. ap (λ (l : List Shown). l ∷ []) (told s) }
  one_emitted (Err e) leads = tt

  pub one_halted : (r : Result T R) → OnErr r (Leads grew cut old new (Row cells ∷ [])) → OnErr r (IsHalted grew cut (λ s. row_events (shown s ∷ [])) old new)
  one_halted (Ok x) leads = tt
  one_halted (Err e) leads = record { events = Row cells ∷ []; ends = leads; told = λ s. ([], ap (λ (l : List Shown). Row l ∷ []) (told s)) }

-- rows after their header
pub headed : {E T : Type 0} {grew cut : E → E → List Event → Type 0} {faults : E → ℕ} {kind : Kind} {items : List Item} {n : ℕ} {rows : List (List ℕ)} {a b c : E} (head : List Event)
    → Leads grew grew a b head → faults b ≡ faults a → (r : Result T EmitErr)
    → EmitsGroups grew cut faults kind items n rows [] r b c → EmitsGroups grew cut faults kind items n rows head r a c
headed {grew = grew} {items = items} {n = n} {a = a} {b = b} {c = c} head leads same (Ok x) is = record {
  emitted = emitted_join grew head (λ (s : ℕ). []) (λ s. groups_shown items s.groups) (λ s. groups_shown items s.groups) 0 0 0 n n a b c (emitted_head grew head a b leads) is.emitted (omega arith) (λ s. (0, s, refl));
  halted = tt;
  cause = is.cause ∙ same;
}
headed {T = T} {grew = grew} {cut = cut} {faults = faults} {items = items} {a = a} {b = b} {c = c} head leads same (Err e) is = record {
  emitted = tt;
  halted = halted_join grew cut head (λ (s : ℕ). []) (λ s. row_events (groups_shown items s.groups)) (λ s. head ++ row_events (groups_shown items s.groups)) 0 0 a b c (emitted_head grew head a b leads) is.halted
      (λ s.
      let events = row_events (groups_shown items s.groups) in
      (0, s, [], ap (λ (l : List Event). l ++ (events ++ [])) (append-nil head) ∙ ap (λ (l : List Event). head ++ l) (append-nil events)));
  cause = subst (λ (k : ℕ). EmitCause {T = T} (Err e) k (faults c)) same is.cause;
}

-- one row after its header, or the header alone
module _ {E T : Type 0} (grew cut : E → E → List Event → Type 0) (faults : E → ℕ) (head : List Event) (cells : List Shown) where
  pub row_emitted : (a b c : E) → Leads grew grew a b head → faults b ≡ faults a → (r : Result T EmitErr) → OnOk r (Leads grew grew b c (Row cells ∷ [])) → OnErr r (Leads grew cut b c (Row cells ∷ []))
      → EmitCause r (faults b) (faults c) → EmitsAll grew cut faults (head ++ Row cells ∷ []) r a c
  row_emitted a b c leads same (Ok x) ok err cause = record {
    ok = λ s events is. subst (grew s c) (append_assoc events head (Row cells ∷ [])) (ok s (events ++ head) (leads s events is));
    err = tt;
    cause = cause ∙ same;
  }
  row_emitted a b c leads same (Err e) ok err cause = record {
    ok = tt;
    err = (head ++ Row cells ∷ [], λ s events is. subst (cut s c) (append_assoc events head (Row cells ∷ [])) (err s (events ++ head) (leads s events is)), ([], append-nil (head ++ Row cells ∷ [])));
    cause = subst (λ (k : ℕ). EmitCause {T = T} (Err e) k (faults c)) same cause;
  }

  pub row_headless : (a b : E) (e : EmitErr) → Leads grew cut a b head → EmitCause {T = T} (Err e) (faults a) (faults b) → EmitsAll {T = T} grew cut faults (head ++ Row cells ∷ []) (Err e) a b
  row_headless a b e ends cause = record { ok = tt; err = (head, ends, (Row cells ∷ [], refl)); cause = cause }
