-- What is emitted of an answer, call by call.
use Rattle.std.proofs.Common.{◌≡◌, ℕ, List, [], ◌∷◌, ◌++◌, map, length, Result, Ok, Err, OnOk, append-nil, append_assoc, refl, sym, ◌∙◌, ap, subst}
use Rattle.std.specs.Prelude.{OnErr}
use Rattle.std.specs.List.{All}
use Rattle.std.proofs.lemmas.List.{length-map}
use Rattle.std.proofs.lemmas.List.Elements.{All-head}
use Rattle.ob_base.specs.declared.emit.EmitErr.{EmitErr}
use Rattle.ob_base.specs.declared.shown.Shown.{Shown}
use Rattle.ob_base.specs.Events.{Event, EmitCause, Leads}
use Rattle.ob_base.specs.Schemas.{Columns}
use Rattle.ob_path.specs.Access.{Got}
use Rattle.ob_row.specs.Rows.{Row}
use Rattle.ob_row.specs.Spelling.{FitsColumns}
use Rattle.ob_row.specs.Totals.{printed}
use Rattle.ob_mean.specs.Prints.{Begun}
use Rattle.ob_verdict.specs.Answering.{found}
use Rattle.ob_keyed.specs.Emitting.{AreShown, Gives, IsNumber}
use Rattle.ob_keyed.proofs.Found.{numbers_fit}

on_ok : {T E P Q : Type 0} (r : Result T E) → (P → Q) → OnOk r P → OnOk r Q
on_ok (Ok x) f h = f h
on_ok (Err e) f h = tt

on_err : {T E P Q : Type 0} (r : Result T E) → (P → Q) → OnErr r P → OnErr r Q
on_err (Ok x) f h = tt
on_err (Err e) f h = f h

-- what was emitted after something else
leads_join : {E : Type 0} (grew to : E → E → List Event → Type 0) (a b c : E) (x y : List Event) → Leads grew grew a b x → Leads grew to b c y → Leads grew to a c (x ++ y)
leads_join grew to a b c x y first second = λ s events is. subst (to s c) (append_assoc events x y) (second s (events ++ x) (first s events is))

module _ {E T : Type 0} (grew cut : E → E → List Event → Type 0) (faults : E → ℕ) where
  -- one call
  pub gives_call : (a b : E) (events : List Event) (r : Result T EmitErr) → OnOk r (Leads grew grew a b events) → OnErr r (Leads grew cut a b events) → EmitCause r (faults a) (faults b)
      → Gives grew cut faults events r a b
  gives_call a b events r ok err cause = record {
    ok = ok;
    err = on_err r (λ (leads : Leads grew cut a b events). (events, leads, ([], append-nil events))) err;
    cause = cause;
  }

  -- one that failed, before others
  pub gives_cut : (a b : E) (events more : List Event) (e : EmitErr) → Leads grew cut a b events → EmitCause {T = T} (Err e) (faults a) (faults b)
      → Gives {T = T} grew cut faults (events ++ more) (Err e) a b
  gives_cut a b events more e leads cause = record { ok = tt; err = (events, leads, (more, refl)); cause = cause }

  -- calls after one
  pub gives_under : (a b c : E) (front more : List Event) (r : Result T EmitErr) → Leads grew grew a b front → faults b ≡ faults a → Gives grew cut faults more r b c
      → Gives grew cut faults (front ++ more) r a c
  gives_under a b c front more r lead same gives = record {
    ok = on_ok r (λ (leads : Leads grew grew b c more). leads_join grew grew a b c front more lead leads) gives.ok;
    err = on_err r (λ (cut_in : (part : List Event) × Leads grew cut b c part × Begun part more). (
      front ++ cut_in.0,
      leads_join grew cut a b c front cut_in.0 lead cut_in.1,
      (cut_in.2.0, append_assoc front cut_in.0 cut_in.2.0 ∙ ap (λ (xs : List Event). front ++ xs) cut_in.2.1),
    )) gives.err;
    cause = subst (λ (n : ℕ). EmitCause r n (faults c)) same gives.cause;
  }

-- ---- the rows that are shown
pub all_shown : (columns : Columns) (cols : List ℕ) (got : Got Row) → AreShown columns cols got (map (printed cols) (found got))
all_shown columns cols got = record { count = length-map (found got) (printed cols); told = λ fits. refl }

pub none_shown : (columns : Columns) (cols : List ℕ) (got : Got Row) → found got ≡ [] → AreShown columns cols got []
none_shown columns cols got none = record {
  count = ap (λ (rows : List Row). length rows) (sym none);
  told = λ fits. ap (map (printed cols)) (sym none);
}

pub one_shown : (columns : Columns) (cols : List ℕ) (got : Got Row) (row : Row) (cells : List Shown) → found got ≡ row ∷ [] → (All IsNumber row → cells ≡ printed cols row) → AreShown columns cols got (cells ∷ [])
one_shown columns cols got row cells is told = record {
  count = ap (λ (rows : List Row). length rows) (sym is);
  told = λ fits.
      let fit = All-head (FitsColumns columns) row [] (subst (λ (rows : List Row). All (FitsColumns columns) rows) is fits) in
      ap (λ (x : List Shown). x ∷ []) (told (numbers_fit columns row fit)) ∙ ap (map (printed cols)) (sym is);
}
