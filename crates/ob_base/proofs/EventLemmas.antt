-- Events that follow each other.
use Rattle.std.proofs.Common.{◌≡◌, ◌+◌, ℕ, List, [], ◌++◌, refl, sym, ◌∙◌, ap, subst, arith, append_assoc, length-append}
use Rattle.std.proofs.lemmas.List.{append-nil, map-append}
use Rattle.ob_base.specs.declared.shown.Shown.{Shown}
use Rattle.ob_base.specs.Events.{Event, row_events, Leads, IsEmitted, IsBegun, IsHalted}

module _ {E : Type 0} (grew : E → E → List Event → Type 0) where
  leads_join : (to : E → E → List Event → Type 0) (a b c : E) (x y : List Event) → Leads grew grew a b x → Leads grew to b c y → Leads grew to a c (x ++ y)
  leads_join to a b c x y first second = λ s events is. subst (to s c) (append_assoc events x y) (second s (events ++ x) (first s events is))

  -- nothing was emitted
  pub emitted_none : {A : Type 0} (shown : A → List (List Shown)) (n : ℕ) (a : E) → ((x : A) → [] ≡ shown x) → IsEmitted grew [] shown n n a a
  emitted_none shown n a none = record { rows = []; count = omega arith; leads = λ s events is. subst (grew s a) (sym (append-nil events)) is; told = none }

  -- rows were emitted, and then others
  pub emitted_join : {A B C : Type 0} (head : List Event) (sa : A → List (List Shown)) (sb : B → List (List Shown)) (sc : C → List (List Shown)) (from mid p q to : ℕ) (a b c : E)
      → IsEmitted grew head sa from mid a b → IsEmitted grew [] sb p q b c → to + p ≡ mid + q
      → ((x : C) → (y : A) × (z : B) × (sa y ++ sb z ≡ sc x)) → IsEmitted grew head sc from to a c
  emitted_join head sa sb sc from mid p q to a b c first second sum parts = record {
    rows = first.rows ++ second.rows;
    count = omega (arith, first.count, second.count, sum, length-append first.rows second.rows);
    leads = subst (Leads grew grew a c) (append_assoc head (row_events first.rows) (row_events second.rows) ∙ ap (λ (l : List Event). head ++ l) (sym (map-append _ first.rows second.rows)))
        (leads_join grew a b c (head ++ row_events first.rows) (row_events second.rows) first.leads second.leads);
    told = λ x. let t = parts x in ap (λ (l : List (List Shown)). l ++ second.rows) (first.told t.0) ∙ ap (λ (l : List (List Shown)). sa t.0 ++ l) (second.told t.1) ∙ t.2;
  }

  -- no row was emitted, or some were and no more
  pub begun_none : {A : Type 0} (shown : A → List (List Shown)) (a : E) → IsBegun grew [] shown a a
  begun_none shown a = record { rows = []; leads = λ s events is. subst (grew s a) (sym (append-nil events)) is; told = λ x. (shown x, refl) }

  pub begun_after : {A C : Type 0} (head : List Event) (sa : A → List (List Shown)) (all : C → List (List Shown)) (from mid : ℕ) (a b : E)
      → IsEmitted grew head sa from mid a b → ((x : C) → (y : A) × (behind : List (List Shown)) × (sa y ++ behind ≡ all x)) → IsBegun grew head all a b
  begun_after head sa all from mid a b first parts = record {
    rows = first.rows;
    leads = first.leads;
    told = λ x. let t = parts x in (t.1, ap (λ (l : List (List Shown)). l ++ t.1) (first.told t.0) ∙ t.2);
  }

  -- rows were emitted, and then some
  pub begun_join : {A B C : Type 0} (head : List Event) (sa : A → List (List Shown)) (sb : B → List (List Shown)) (all : C → List (List Shown)) (from mid : ℕ) (a b c : E)
      → IsEmitted grew head sa from mid a b → IsBegun grew [] sb b c
      → ((x : C) → (y : A) × (z : B) × (behind : List (List Shown)) × ((sa y ++ sb z) ++ behind ≡ all x)) → IsBegun grew head all a c
  begun_join head sa sb all from mid a b c first second parts = record {
    rows = first.rows ++ second.rows;
    leads = subst (Leads grew grew a c) (append_assoc head (row_events first.rows) (row_events second.rows) ∙ ap (λ (l : List Event). head ++ l) (sym (map-append _ first.rows second.rows)))
        (leads_join grew a b c (head ++ row_events first.rows) (row_events second.rows) first.leads second.leads);
    told = λ x.
        let t = parts x in
        let r = second.told t.1 in (
          r.0 ++ t.2,
          append_assoc first.rows second.rows (r.0 ++ t.2)
              ∙ ap (λ (l : List (List Shown)). first.rows ++ l) (sym (append_assoc second.rows r.0 t.2) ∙ ap (λ (l : List (List Shown)). l ++ t.2) r.1)
              ∙ ap (λ (l : List (List Shown)). l ++ (sb t.1 ++ t.2)) (first.told t.0) ∙ sym (append_assoc (sa t.0) (sb t.1) t.2) ∙ t.3,
        );
  }

  module _ (cut : E → E → List Event → Type 0) where
    -- rows were emitted, and then it halted
    pub halted_join : {A B C : Type 0} (head : List Event) (sa : A → List (List Shown)) (eb : B → List Event) (all : C → List Event) (from mid : ℕ) (a b c : E)
        → IsEmitted grew head sa from mid a b → IsHalted grew cut eb b c
        → ((x : C) → (y : A) × (z : B) × (behind : List Event) × ((head ++ row_events (sa y)) ++ (eb z ++ behind) ≡ all x)) → IsHalted grew cut all a c
    halted_join head sa eb all from mid a b c first second parts = record {
      events = (head ++ row_events first.rows) ++ second.events;
      ends = leads_join cut a b c (head ++ row_events first.rows) second.events first.leads second.ends;
      told = λ x.
          let t = parts x in
          let r = second.told t.1 in
          let behind = t.2 in
          let x0 = head ++ row_events first.rows in (
            r.0 ++ behind,
            append_assoc x0 second.events (r.0 ++ behind)
                ∙ ap (λ (l : List Event). x0 ++ l) (sym (append_assoc second.events r.0 behind) ∙ ap (λ (l : List Event). l ++ behind) r.1)
                ∙ ap (λ (l : List (List Shown)). (head ++ row_events l) ++ (eb t.1 ++ behind)) (first.told t.0) ∙ t.3,
          );
    }

  -- nothing was emitted
  pub halted_none : {C : Type 0} (all : C → List Event) (a : E) → IsHalted grew grew all a a
  halted_none all a = record { events = []; ends = λ s events is. subst (grew s a) (sym (append-nil events)) is; told = λ x. (all x, refl) }

  -- rows were emitted after their header
  pub begun_under : {A : Type 0} (head : List Event) (shown : A → List (List Shown)) (a b c : E) → Leads grew grew a b head → IsBegun grew [] shown b c → IsBegun grew head shown a c
  begun_under head shown a b c first second = record {
    rows = second.rows;
    leads = leads_join grew a b c head (row_events second.rows) first second.leads;
    told = second.told;
  }

  pub halted_under : {A : Type 0} (to : E → E → List Event → Type 0) (head : List Event) (all : A → List Event) (a b c : E) → Leads grew grew a b head → IsHalted grew to all b c → IsHalted grew to (λ s. head ++ all s) a c
  halted_under to head all a b c first second = record {
    events = head ++ second.events;
    ends = leads_join to a b c head second.events first second.ends;
    told = λ s. let r = second.told s in (r.0, append_assoc head second.events r.0 ∙ ap (λ (l : List Event). head ++ l) r.1);
  }

-- the events of rows, one part after the other
pub events_more : (a b c all : List (List Shown)) → (a ++ b) ++ c ≡ all → row_events a ++ (row_events b ++ row_events c) ≡ row_events all
events_more a b c all is =
    sym (append_assoc (row_events a) (row_events b) (row_events c)) ∙ ap (λ (l : List Event). l ++ row_events c) (sym (map-append _ a b)) ∙ sym (map-append _ (a ++ b) c) ∙ ap row_events is

-- a header was emitted, and no row
pub emitted_head : {E A : Type 0} (grew : E → E → List Event → Type 0) (head : List Event) (a b : E) → Leads grew grew a b head → IsEmitted {Source = A} grew head (λ s. []) 0 0 a b
emitted_head grew head a b leads = record { rows = []; count = refl; leads = subst (Leads grew grew a b) (sym (append-nil head)) leads; told = λ s. refl }
