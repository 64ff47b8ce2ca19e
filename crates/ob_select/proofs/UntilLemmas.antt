-- What is emitted of an answer until a pass gives up.
use Rattle.std.proofs.Common.{◌≡◌, ◌⊎◌, inl, inr, List, [], ◌∷◌, ◌++◌, refl, sym, ◌∙◌, ap, subst, append_assoc}
use Rattle.std.proofs.lemmas.List.{append-nil, map-append}
use Rattle.ob_base.specs.declared.shown.Shown.{Shown}
use Rattle.ob_base.specs.Events.{Event, row_events, Leads, IsBegun, IsHalted}
use Rattle.ob_flat.specs.declared.fault.OpErr.{OpErr}
use Rattle.ob_flat.specs.declared.fault.OpErr.TheVariants.{Failed, Tampered, Sink, NoMemory}
use Rattle.ob_emit.specs.Emitting.{EndsAs}
use Rattle.ob_select.specs.Halting.{TakesPart, EmitsUntil}
use Rattle.ob_select.specs.Memory.{HasHalted}

pub nothing : (xs ys : List Event) → xs ++ ys ≡ [] → xs ≡ []
nothing [] ys none = refl
nothing (x ∷ xs) ys none = absurd (cc none)

-- what is told of one source is told of another of the same events, or of one that has none
told_by : {S T : Type 0} {all : S → List Event} {more : T → List Event} (events : List Event) → (back : T → S) → ((t : T) → (all (back t) ≡ more t) ⊎ (all (back t) ≡ []))
    → ((s : S) → (rest : List Event) × (events ++ rest ≡ all s)) → (t : T) → (rest : List Event) × (events ++ rest ≡ more t)
told_by {more = more} events back same told t =
    let rest = told (back t) in
    elim (same t) [
      | inl e ↦ (rest.0, rest.1 ∙ e)
      | inr e ↦ (more t, ap (λ (l : List Event). l ++ more t) (nothing events rest.0 (rest.1 ∙ e)))
    ]

module _ {E : Type 0} (grew cut : E → E → List Event → Type 0) (head : List Event) where
  still : (a : E) → Leads grew grew a a []
  still a s events is = subst (grew s a) (sym (append-nil events)) is

  part_none : {S : Type 0} (all : S → List Event) (a : E) → TakesPart grew head all a a
  part_none all a = record { rows = []; events = []; is = inl refl; leads = still a; told = λ s. (all s, refl) }

  -- nothing was emitted, and the emitter was not asked
  pub until_none : {S : Type 0} (e : OpErr) (all : S → List Event) (a : E) → (e ≡ Sink → ⊥) → EmitsUntil grew cut e head all a a
  until_none Failed all a off = part_none all a
  until_none (Tampered q x) all a off = part_none all a
  until_none Sink all a off = absurd (off refl)
  until_none NoMemory all a off = record { events = []; ends = λ s events is. inl (still a s events is); told = λ s. (all s, refl) }

  -- the emitter gave up
  pub until_given : {S : Type 0} (e : OpErr) (all : S → List Event) (a b : E) → (e ≡ Sink) ⊎ (e ≡ NoMemory) → IsHalted grew cut all a b → EmitsUntil grew cut e head all a b
  until_given Failed all a b either is = elim either [ inl s ↦ absurd (cc s) | inr n ↦ absurd (cc n) ]
  until_given (Tampered q x) all a b either is = elim either [ inl s ↦ absurd (cc s) | inr n ↦ absurd (cc n) ]
  until_given Sink all a b either is = is
  until_given NoMemory all a b either is = record { events = is.events; ends = λ s events took. inr (is.ends s events took); told = is.told }

  -- of another source
  pub until_from : {S T : Type 0} (e : OpErr) (all : S → List Event) (more : T → List Event) (a b : E) (back : T → S) → ((t : T) → (all (back t) ≡ more t) ⊎ (all (back t) ≡ []))
      → EmitsUntil grew cut e head all a b → EmitsUntil grew cut e head more a b
  until_from Failed all more a b back same is = record { rows = is.rows; events = is.events; is = is.is; leads = is.leads; told = told_by is.events back same is.told }
  until_from (Tampered q x) all more a b back same is = record { rows = is.rows; events = is.events; is = is.is; leads = is.leads; told = told_by is.events back same is.told }
  until_from Sink all more a b back same is = record { events = is.events; ends = is.ends; told = told_by is.events back same is.told }
  until_from NoMemory all more a b back same is = record { events = is.events; ends = is.ends; told = told_by is.events back same is.told }

  part_begun : {S : Type 0} (shown : S → List (List Shown)) (a b : E) → IsBegun grew head shown a b → TakesPart grew head (λ s. head ++ row_events (shown s)) a b
  part_begun shown a b is = record {
    rows = is.rows;
    events = head ++ row_events is.rows;
    is = inr refl;
    leads = is.leads;
    told = λ s.
        let rest = is.told s in
        (row_events rest.0, append_assoc head (row_events is.rows) (row_events rest.0) ∙ ap (λ (l : List Event). head ++ l) (sym (map-append _ is.rows rest.0) ∙ ap row_events rest.1));
  }

  -- a table's rows were emitted until then
  pub until_ends : {S : Type 0} (e : OpErr) (shown : S → List (List Shown)) (a b : E) → EndsAs grew cut e head shown a b → EmitsUntil grew cut e head (λ s. head ++ row_events (shown s)) a b
  until_ends Failed shown a b is = part_begun shown a b is
  until_ends (Tampered q x) shown a b is = part_begun shown a b is
  until_ends Sink shown a b is = is
  until_ends NoMemory shown a b is = until_given NoMemory (λ s. head ++ row_events (shown s)) a b (inr refl) is

  -- want of memory in the midst of them was the emitter's
  pub ends_halted : {S : Type 0} (e : OpErr) (shown : S → List (List Shown)) (a b : E) → e ≡ NoMemory → EndsAs grew cut e head shown a b → HasHalted (Leads grew cut) a b
  ends_halted NoMemory shown a b none is = record { events = is.events; ends = is.ends }
  ends_halted other shown a b none is = absurd (cc none)

  pub until_failed : {S : Type 0} (e : OpErr) (all : S → List Event) (a b : E) → e ≡ Failed → EmitsUntil grew cut e head all a b → TakesPart grew head all a b
  until_failed Failed all a b failed is = is
  until_failed (Tampered q x) all a b failed is = is
  until_failed Sink all a b failed is = absurd (cc failed)
  until_failed NoMemory all a b failed is = absurd (cc failed)

  -- after it there is more of the answer
  pub until_more : {S : Type 0} (e : OpErr) (all last : S → List Event) (a b : E) → EmitsUntil grew cut e head all a b → EmitsUntil grew cut e head (λ s. all s ++ last s) a b
  until_more {S} e all last a b is = go e is
    where
      longer : (events : List Event) → ((s : S) → (rest : List Event) × (events ++ rest ≡ all s)) → (s : S) → (rest : List Event) × (events ++ rest ≡ all s ++ last s)
      longer events told s = let rest = told s in (rest.0 ++ last s, sym (append_assoc events rest.0 (last s)) ∙ ap (λ (l : List Event). l ++ last s) rest.1)

      go : (e : OpErr) → EmitsUntil grew cut e head all a b → EmitsUntil grew cut e head (λ s. all s ++ last s) a b
      go Failed is = record { rows = is.rows; events = is.events; is = is.is; leads = is.leads; told = longer is.events is.told }
      go (Tampered q x) is = record { rows = is.rows; events = is.events; is = is.is; leads = is.leads; told = longer is.events is.told }
      go Sink is = record { events = is.events; ends = is.ends; told = longer is.events is.told }
      go NoMemory is = record { events = is.events; ends = is.ends; told = longer is.events is.told }
