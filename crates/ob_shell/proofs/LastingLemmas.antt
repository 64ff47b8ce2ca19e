-- What lasts while texts are served: the pack, the rows that may be open, and that no block lies in clear.
use Rattle.ob_shell.proofs.Words.{Answer, ap, arith, at_rest, Bool, Config, Engine, inl, inr, IsTrue, LastPart, List, Machine, more_together, None, one_more, Public, public_of, Result, RevState, rows_of, Step, Steps, StepTogether, Stop, StoreState, subst, sym, true, world_of, ℕ, ◌∙◌, ◌≡◌, ◌≤◌}
use Rattle.ob_reopen.specs.Resting.{AcceptsClosings}
use Rattle.ob_select.specs.Selecting.{AcceptsRows}
use Rattle.ob_shell.proofs.LaterLemmas.{step_later}
use Rattle.ob_shell.proofs.ReplayLemmas.{step_goes}
use Rattle.ob_shell.proofs.StepLemmas.{last_by}
use Rattle.ob_vault.specs.Tied.{AllSealed, Scope, next_fault}

-- the rows of a block, those that may be open, and whether tables are saved, are as these settings say
pub record HasSizes {R : Type 0} (config : Config) (m : Machine R) : Type 0 where
  pub pack : (public_of m.engine).pack ≡ config.pack
  pub buffer : (public_of m.engine).buffer ≡ config.buffer
  pub rows : rows_of m.engine ≡ config.buffer
  pub save : (public_of m.engine).save ≡ config.save

module _ {R : Type 0} (state : R → RevState) (config : Config) where
  step_sizes : (m0 m1 : Machine R) (text : List ℕ) (answer : Answer) → Step state m0 m1 text answer → HasSizes config m0 → HasSizes config m1
  step_sizes m0 m1 text answer step sizes = elim step.done [
    | inl still ↦ subst (λ (m : Machine R). HasSizes config m) (sym still.same) (record { pack = sizes.pack; buffer = sizes.buffer; rows = sizes.rows; save = sizes.save })
    | inr did ↦ record {
      pack = ap (λ (p : Public). p.pack) did.does.ran.goes_on.public ∙ sizes.pack;
      buffer = ap (λ (p : Public). p.buffer) did.does.ran.goes_on.public ∙ sizes.buffer;
      rows = did.does.ran.room.rows ∙ sizes.buffer;
      save = ap (λ (p : Public). p.save) did.does.ran.goes_on.public ∙ sizes.save;
    }
  ]

  -- nothing except the next region is another after a flight
  flight_sizes : (m0 m1 : Machine R) (texts : List (List ℕ)) (answers : List Answer) → StepTogether state m0 m1 texts answers → HasSizes config m0 → HasSizes config m1
  flight_sizes m0 m1 texts answers step sizes =
      let on = step.flew.ran.ran.goes_on in
      record {
        pack = ap (λ (p : Public). p.pack) on.public ∙ sizes.pack;
        buffer = ap (λ (p : Public). p.buffer) on.public ∙ sizes.buffer;
        rows = step.flew.ran.ran.room.rows ∙ sizes.buffer;
        save = ap (λ (p : Public). p.save) on.public ∙ sizes.save;
      }

  pub steps_sizes : (m0 m2 : Machine R) (texts : List (List ℕ)) (answers : List Answer) → Steps state m0 m2 texts answers → HasSizes config m0 → HasSizes config m2
  steps_sizes m0 m2 texts answers at_rest sizes = sizes
  steps_sizes m0 m2 texts answers (one_more {m1 = m1} {text = text} {one = one} {texts = more} {answers = given} step rest) sizes = steps_sizes m1 m2 more given rest (step_sizes m0 m1 text one step sizes)
  steps_sizes m0 m2 texts answers (more_together {m1 = m1} {flown = flown} {texts = more} {given = told} {answers = given} step rest) sizes = steps_sizes m1 m2 more given rest (flight_sizes m0 m1 flown told step sizes)

  pub last_rows : (m1 m2 : Machine R) (more : List (List ℕ)) (part : List ℕ) (result : Result Bool Stop) → LastPart state m1 m2 more part result → HasSizes config m1 → rows_of m2.engine ≡ config.buffer
  last_rows m1 m2 more part result last sizes =
      last_by state m1 m2 more part (rows_of m2.engine ≡ config.buffer) result last (λ is. ap (λ (m : Machine R). rows_of m.engine) is ∙ sizes.rows) (λ text run cut. cut.does.ran.room.rows ∙ sizes.buffer)
      (λ text answer step. (step_sizes m1 m2 text answer step sizes).rows) (λ texts run cut. cut.flew.ran.ran.room.rows ∙ sizes.buffer) (λ texts answers step. (flight_sizes m1 m2 texts answers step sizes).rows)

  -- ---- blocks
  module _ (good : ℕ → List ℕ → Bool) (scope : Scope) (accepts : AcceptsRows good config.pack) (single : AcceptsRows good 1) (closings : config.save ≡ true → AcceptsClosings good) where
    abbrev IsSealed : Machine R → Type 0
    IsSealed m = AllSealed good scope (world_of state m.engine m.store)

    abbrev IsBelow : Machine R → Type 0
    IsBelow m = scope.below ≤ next_fault m.store

    accepts_at : (m : Machine R) → HasSizes config m → AcceptsRows good (public_of m.engine).pack
    accepts_at m sizes = subst (λ (k : ℕ). AcceptsRows good k) (sym sizes.pack) accepts

    closings_at : (m : Machine R) → HasSizes config m → (public_of m.engine).save ≡ true → AcceptsClosings good
    closings_at m sizes saves = closings (sym sizes.save ∙ saves)

    step_sealed : (m0 m1 : Machine R) (text : List ℕ) (answer : Answer) → Step state m0 m1 text answer → HasSizes config m0 → IsBelow m0 → IsTrue m0.store.tells → IsSealed m0 → IsSealed m1
    step_sealed m0 m1 text answer step sizes few tells all = elim step.done [
      | inl still ↦ subst (λ (m : Machine R). IsSealed m) (sym still.same) all
      | inr did ↦ (did.does.seals good (accepts_at m0 sizes) single (closings_at m0 sizes)).seals scope few tells all
    ]

    pub steps_sealed : (m0 m2 : Machine R) (texts : List (List ℕ)) (answers : List Answer) → Steps state m0 m2 texts answers → HasSizes config m0 → IsBelow m0 → IsTrue m0.store.tells → IsSealed m0 → IsSealed m2
    steps_sealed m0 m2 texts answers at_rest sizes few tells all = all
    steps_sealed m0 m2 texts answers (one_more {m1 = m1} {text = text} {one = one} {texts = more} {answers = given} step rest) sizes few tells all =
        let later = step_later state m0 m1 text one step in
        steps_sealed m1 m2 more given rest (step_sizes m0 m1 text one step sizes) (omega (arith, few, later.faults)) (subst (λ (b : Bool). IsTrue b) (sym later.tells) tells)
        (step_sealed m0 m1 text one step sizes few tells all)
    steps_sealed m0 m2 texts answers (more_together {m1 = m1} {flown = flown} {texts = more} {given = told} {answers = given} step rest) sizes few tells all =
        let later = step.flew.ran.ran.later in
        steps_sealed m1 m2 more given rest (flight_sizes m0 m1 flown told step sizes) (omega (arith, few, later.faults)) (subst (λ (b : Bool). IsTrue b) (sym later.tells) tells)
        ((step.flew.ran.seals good (accepts_at m0 sizes) single).seals scope few tells all)

    pub last_sealed : (m1 m2 : Machine R) (more : List (List ℕ)) (part : List ℕ) (result : Result Bool Stop) → LastPart state m1 m2 more part result → HasSizes config m1 → IsBelow m1 → IsTrue m1.store.tells → IsSealed m1 → IsSealed m2
    last_sealed m1 m2 more part result last sizes few tells all =
        last_by state m1 m2 more part (IsSealed m2) result last (λ is. subst (λ (m : Machine R). IsSealed m) (sym is) all) (λ text run cut. (cut.does.seals good (accepts_at m1 sizes) single (closings_at m1 sizes)).seals scope few tells all)
        (λ text answer step. step_sealed m1 m2 text answer step sizes few tells all) (λ texts run cut. (cut.flew.ran.seals good (accepts_at m1 sizes) single).seals scope few tells all)
        (λ texts answers step. (step.flew.ran.seals good (accepts_at m1 sizes) single).seals scope few tells all)

module _ {R : Type 0} (state : R → RevState) where
  pub steps_tell : (m0 m2 : Machine R) (texts : List (List ℕ)) (answers : List Answer) → Steps state m0 m2 texts answers → IsTrue m0.store.tells → IsTrue m2.store.tells
  steps_tell m0 m2 texts answers at_rest tells = tells
  steps_tell m0 m2 texts answers (one_more {m1 = m1} {text = text} {one = one} {texts = more} {answers = given} step rest) tells = steps_tell m1 m2 more given rest (subst (λ (b : Bool). IsTrue b) (sym (step_goes state m0 m1 text one step.done).tells) tells)
  steps_tell m0 m2 texts answers (more_together {m1 = m1} {texts = more} {answers = given} step rest) tells = steps_tell m1 m2 more given rest (subst (λ (b : Bool). IsTrue b) (sym step.flew.ran.ran.later.tells) tells)

-- no region of these lives, and so no block does
pub none_sealed : {R : Type 0} (state : R → RevState) (good : ℕ → List ℕ → Bool) (scope : Scope) (e : Engine R) (s : StoreState) → ((q : ℕ) → scope.from ≤ q → s.live q ≡ None) → AllSealed good scope (world_of state e s)
none_sealed state good scope e s none = record { all = λ q x block from live last. absurd (live (none q from)) }
