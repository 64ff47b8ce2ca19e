-- Where a SELECT of rows in flight gave up.
use Rattle.ob_exec.proofs.Words.{ap, arith, Bool, count_end, drop, Event, false, headings_of, inl, inr, is_of_access, IsSome, IsTrue, length, List, None, OpErr, Option, Outcome, printed_places, refl, RowsAt, Seen, select_columns, Some, Stage, subst, suc, sym, true, whole_script, World, zero, ℕ, ◌+◌, ◌∙◌, ◌≡◌, ◌≤◌, ◌⊎◌}
use Rattle.std.specs.List.{list_all}
use Rattle.ob_flat.specs.declared.fault.OpErr.TheVariants as OpErrs
use Rattle.ob_mean.specs.Step.{select_condition}
use Rattle.ob_select.specs.Memory.{HasCounted, is_reading, starts_with_make}
use Rattle.ob_stages.specs.declared.rows.Stage.TheVariants as Stages
use Rattle.ob_stages.specs.RowsStates.{PlacedAt, is_over, is_printing, progress_of, seen_taking}
use Rattle.ob_stages.specs.RowsHolds.{EndedAt, Halts, Holds, HoldsAt, IsToEnd, seen_ended}
use Rattle.ob_exec.specs.Sources.{rows_skeleton}
use Rattle.ob_exec.proofs.FlightStage.{IsSet, LacksHere, more_asked}
use Rattle.ob_exec.proofs.StageRows.{blocks_are}

module _ (g : RowsAt) (m : ℕ) (kept : List (List ℕ)) (events : List Event) (w : World) (is : Holds g kept events w) (set : IsSet m (progress_of g)) (ending : g.q.ending ≡ 0)
    (condition : g.q.condition ≡ select_condition g.select (headings_of g.q.public.tables)) (cols : g.q.cols ≡ printed_places g.select (select_columns g.select (headings_of g.q.public.tables)))
    (within : g.asked ≤ length (whole_script g.q.public (rows_skeleton g.select) g.seen))
    (part : List Event) (e : OpErr) (v : World) (halts : Halts g events part e w v) where
  emitter_of : (e : OpErr) → is_of_access e ≡ false → (e ≡ OpErrs.Sink) ⊎ (e ≡ OpErrs.NoMemory)
  emitter_of OpErrs.Failed access = absurd (cc access)
  emitter_of (OpErrs.Tampered q x) access = absurd (cc access)
  emitter_of OpErrs.Sink access = inl refl
  emitter_of OpErrs.NoMemory access = inr refl

  pub rows_stay : is_of_access e ≡ false → count_end g.q.public (rows_skeleton g.select) ≤ g.asked
  rows_stay access =
      let counted = halts.counted (emitter_of e access) in
      let same = blocks_are g m kept events w is set ending condition cols within in
      omega (arith, counted, same)

module _ (g : RowsAt) (m : ℕ) (kept : List (List ℕ)) (events : List Event) (w : World) (is : Holds g kept events w) (set : IsSet m (progress_of g)) (ending : g.q.ending ≡ 0)
    (condition : g.q.condition ≡ select_condition g.select (headings_of g.q.public.tables)) (cols : g.q.cols ≡ printed_places g.select (select_columns g.select (headings_of g.q.public.tables)))
    (within : g.asked ≤ length (whole_script g.q.public (rows_skeleton g.select) g.seen))
    (at_make : g.stage ≡ Stages.Make → IsTrue (starts_with_make (drop g.asked (whole_script g.q.public (rows_skeleton g.select) g.seen))))
    (left : is_printing g.stage ≡ true → g.failed ≡ false → (n : ℕ) → g.asked ≤ n → IsTrue (list_all is_reading (drop n (whole_script g.q.public (rows_skeleton g.select) g.seen))))
    (open_now : g.outcome ≡ None)
    (part : List Event) (e : OpErr) (v : World) (halts : Halts g events part e w v) where
  -- it has counted where it makes, or prints
  some_taking : (k : ℕ) → g.seen ≡ seen_taking None k → IsSome g.seen.k
  some_taking k same = subst (λ (x : Seen). IsSome x.k) (sym same) refl

  counted_by : (pad : Option ℕ) (k : ℕ) → g.q.public.pad ≡ pad → g.seen ≡ seen_taking pad k → HasCounted g.q.public g.seen
  counted_by None k padded same = inl (some_taking k same)
  counted_by (Some pad) k padded same = inr (subst (λ (o : Option ℕ). IsSome o) (sym padded) refl)

  counted_ended : (pad : Option ℕ) (k : ℕ) → g.q.public.pad ≡ pad → g.seen ≡ seen_ended pad k → HasCounted g.q.public g.seen
  counted_ended None zero padded same = inl (subst (λ (x : Seen). IsSome x.k) (sym same) refl)
  counted_ended None (suc k) padded same = inl (subst (λ (x : Seen). IsSome x.k) (sym same) refl)
  counted_ended (Some pad) k padded same = inr (subst (λ (o : Option ℕ). IsSome o) (sym padded) refl)

  counted_printing : (stage : Stage) → is_printing stage ≡ true → PlacedAt stage g → HoldsAt stage g kept events w → g.failed ≡ false → HasCounted g.q.public g.seen
  counted_printing (Stages.Emit x) prints at holds failed = counted_by g.q.public.pad g.k refl at.0.counted.seen
  counted_printing Stages.Over prints at holds failed =
      let end : IsToEnd g events w = subst (λ (b : Bool). EndedAt b None g events w) failed (subst (λ (o : Option Outcome). EndedAt g.failed o g events w) open_now holds.1) in
      counted_ended g.q.public.pad g.k refl end.seen
  counted_printing other prints at holds failed = absurd (cc prints)

  counted_make : (stage : Stage) → stage ≡ Stages.Make → PlacedAt stage g → g.q.public.pad ≡ None → IsSome g.seen.k
  counted_make Stages.Make same at none = some_taking g.k (at.0.seen ∙ ap (λ (pad : Option ℕ). seen_taking pad g.k) none)
  counted_make other same at none = absurd (cc same)

  pub rows_memory : e ≡ OpErrs.NoMemory → LacksHere (progress_of g) w v
  rows_memory memory = elim (halts.memory memory).place [
    | inl (make, none, same) ↦ inr (inl (ap is_over make, same, (none, counted_make g.stage make is.placed.at none, at_make make)))
    | inr (inl (make, one)) ↦ inl (record { access = one.0; make = one.1; asked = one.2 })
    | inr (inr (prints, failed)) ↦
        inr (inr (prints, inl (counted_printing g.stage prints is.placed.at is.at failed, left prints failed (g.asked + more_asked w v) (omega arith))))
  ]
