-- What a selection means, by what was counted, planned and left out.
use Rattle.std.proofs.Common.{◌≡◌, ◌≤◌, ℕ, Bool, true, false, IsTrue, List, [], ◌∷◌, Option, None, Some, length, refl, sym, ◌∙◌, ap, arith}
use Rattle.std.specs.Prelude.{if◌then◌else◌}
use Rattle.std.specs.Option.{option_map}
use Rattle.ob_base.specs.declared.config.Plan.{Plan}
use Rattle.ob_base.specs.declared.config.Plan.TheVariants.{Small, Large, Continuous, Hash}
use Rattle.ob_base.specs.declared.config.Planner.{Planner}
use Rattle.ob_base.specs.declared.config.Planner.TheVariants.{Auto, Cheapest, Forced}
use Rattle.ob_base.specs.declared.config.Public.{Public}
use Rattle.ob_base.specs.declared.refusal.Refusal.TheVariants.{NotConsecutive, Overflow}
use Rattle.ob_base.specs.declared.seen.End.TheVariants.{Whole, AfterCount}
use Rattle.ob_base.specs.declared.shown.Shown.{Shown}
use Rattle.ob_base.specs.Plans.{choose}
use Rattle.ob_row.specs.Slots.{is_consecutive}
use Rattle.ob_mean.specs.Verdict.{counted, first_unplaced, fallback, forced_refusal, unpadded_refusal, refusal_by, rows_refusal, seen_unpadded, seen_by, seen_rows, seen_with, plan_for}
use Rattle.ob_verdict.specs.Laws.{last_plan}
use Rattle.ob_select.specs.Selecting.{shown_where}

-- results aren't padded
seen_is : (p : Public) (n : ℕ) (chosen : List ℕ) → p.pad ≡ None → seen_rows p n chosen ≡ seen_unpadded p n chosen
seen_is p n chosen unpadded = ap (λ (pad : Option ℕ). seen_by pad p n chosen) unpadded

refusal_is : (p : Public) (chosen : List ℕ) → p.pad ≡ None → rows_refusal p chosen ≡ unpadded_refusal p chosen
refusal_is p chosen unpadded = ap (λ (pad : Option ℕ). refusal_by pad p chosen) unpadded

-- at least one row is selected
seen_some : (p : Public) (n : ℕ) (chosen : List ℕ) → 1 ≤ length chosen → p.pad ≡ None → seen_rows p n chosen ≡ seen_with p (plan_for p n chosen) chosen
seen_some p n [] some unpadded = absurd (omega (arith, some))
seen_some p n (i ∷ is) some unpadded = seen_is p n (i ∷ is) unpadded

refusal_some : (p : Public) (chosen : List ℕ) → 1 ≤ length chosen → p.pad ≡ None → rows_refusal p chosen ≡ forced_refusal p p.planner chosen
refusal_some p [] some unpadded = absurd (omega (arith, some))
refusal_some p (i ∷ is) some unpadded = refusal_is p (i ∷ is) unpadded

pub shown_some : (chosen : List ℕ) (shown : List (List Shown)) → 1 ≤ length chosen → shown_where chosen shown ≡ shown
shown_some [] shown some = absurd (omega (arith, some))
shown_some (i ∷ is) shown some = refl

-- none is
pub seen_none : (p : Public) (n : ℕ) (chosen : List ℕ) → length chosen ≡ 0 → p.pad ≡ None → seen_rows p n chosen ≡ counted 0 None None Whole
seen_none p n [] none unpadded = seen_is p n [] unpadded
seen_none p n (i ∷ is) none unpadded = absurd (omega (arith, none))

pub refusal_none : (p : Public) (chosen : List ℕ) → length chosen ≡ 0 → p.pad ≡ None → rows_refusal p chosen ≡ None
refusal_none p [] none unpadded = refusal_is p [] unpadded
refusal_none p (i ∷ is) none unpadded = absurd (omega (arith, none))

pub shown_none : (chosen : List ℕ) (shown : List (List Shown)) → length chosen ≡ 0 → shown_where chosen shown ≡ []
shown_none [] shown none = refl
shown_none (i ∷ is) shown none = absurd (omega (arith, none))

-- where a plan left a row out, and nothing takes its place
side_by_side : (p : Public) (chosen : List ℕ) (b : Bool) → is_consecutive chosen ≡ b → IsTrue b → seen_with p Continuous chosen ≡ counted (length chosen) (Some Continuous) None Whole
side_by_side p chosen true same is = ap (λ (b : Bool). if b then counted (length chosen) (Some Continuous) None Whole else counted (length chosen) None None AfterCount) same
side_by_side p chosen false same is = absurd (cc is)

module _ (p : Public) (chosen : List ℕ) where
  -- the first plan's result is the last
  abbrev pub Lasts : Plan → Type 0
  Lasts plan = (plan ≡ Continuous → IsTrue (is_consecutive chosen)) × (plan ≡ Hash → fallback p.planner (first_unplaced p chosen) ≡ None)

  seen_first : (plan : Plan) → Lasts plan → seen_with p plan chosen ≡ counted (length chosen) (Some plan) None Whole
  seen_first Small is = refl
  seen_first Large is = refl
  seen_first Continuous is = side_by_side p chosen (is_consecutive chosen) refl (is.0 refl)
  seen_first Hash is = ap (λ (o : Option Plan). counted (length chosen) (Some Hash) o Whole) (is.1 refl)

  last_first : (plan : Plan) → Lasts plan → last_plan p plan chosen ≡ plan
  last_first Hash is = ap (λ (o : Option Plan). if Rattle.std.specs.Prelude.is_some o then Small else Hash) (is.1 refl)
  last_first other is = refl

  -- the plan is the one that is forced
  abbrev Follows : Planner → Plan → Type 0
  Follows Auto plan = Unit {0}
  Follows Cheapest plan = Unit {0}
  Follows (Forced forced) plan = plan ≡ forced

  follows : (planner : Planner) (plan : Plan) (pack rows n k : ℕ) (c : Bool) → plan ≡ choose planner pack rows n k c → Follows planner plan
  follows Auto plan pack rows n k c is = tt
  follows Cheapest plan pack rows n k c is = tt
  follows (Forced other) plan pack rows n k c is = is

  none_refused : (planner : Planner) (plan : Plan) → Follows planner plan → (plan ≡ Continuous → IsTrue (is_consecutive chosen)) → (plan ≡ Hash → first_unplaced p chosen ≡ None) → forced_refusal p planner chosen ≡ None
  none_refused (Forced Continuous) plan follows side room = go (is_consecutive chosen) (side follows)
    where
      go : (b : Bool) → IsTrue b → (if b then None else Some NotConsecutive) ≡ None
      go true is = refl
      go false is = absurd (cc is)
  none_refused (Forced Hash) plan follows side room = ap (option_map Overflow) (room follows)
  none_refused other plan follows side room = refl

  module _ (n : ℕ) (plan : Plan) (some : 1 ≤ length chosen) (is_plan : plan ≡ plan_for p n chosen) (unpadded : p.pad ≡ None) where
    pub seen_is_first : Lasts plan → seen_rows p n chosen ≡ counted (length chosen) (Some plan) None Whole
    seen_is_first is = seen_some p n chosen some unpadded ∙ ap (λ (x : Plan). seen_with p x chosen) (sym is_plan) ∙ seen_first plan is

    pub last_is_first : Lasts plan → last_plan p (plan_for p n chosen) chosen ≡ plan
    last_is_first is = ap (λ (x : Plan). last_plan p x chosen) (sym is_plan) ∙ last_first plan is

    pub refuses_none : (plan ≡ Continuous → IsTrue (is_consecutive chosen)) → (plan ≡ Hash → first_unplaced p chosen ≡ None) → rows_refusal p chosen ≡ None
    refuses_none side room = refusal_some p chosen some unpadded ∙ none_refused p.planner plan (follows p.planner plan p.pack p.buffer n (length chosen) (is_consecutive chosen) is_plan) side room

    pub refuses_forced : (i : ℕ) → p.planner ≡ Forced Hash → first_unplaced p chosen ≡ Some i → rows_refusal p chosen ≡ Some (Overflow i)
    refuses_forced i forced left = refusal_some p chosen some unpadded ∙ ap (λ (planner : Planner). forced_refusal p planner chosen) forced ∙ ap (option_map Overflow) left

    pub refuses_apart : p.planner ≡ Forced Continuous → is_consecutive chosen ≡ false → rows_refusal p chosen ≡ Some NotConsecutive
    refuses_apart forced apart = refusal_some p chosen some unpadded ∙ ap (λ (planner : Planner). forced_refusal p planner chosen) forced ∙ ap (λ (b : Bool). if b then None else Some NotConsecutive) apart

    pub seen_apart : plan ≡ Continuous → is_consecutive chosen ≡ false → seen_rows p n chosen ≡ counted (length chosen) None None AfterCount
    seen_apart is apart =
        seen_some p n chosen some unpadded ∙ ap (λ (x : Plan). seen_with p x chosen) (sym is_plan ∙ is)
        ∙ ap (λ (b : Bool). if b then counted (length chosen) (Some Continuous) None Whole else counted (length chosen) None None AfterCount) apart

    -- Small takes the place of a Hash that wasn't forced
    pub seen_second : (i : ℕ) → plan ≡ Hash → p.planner ≡ Auto → first_unplaced p chosen ≡ Some i → seen_rows p n chosen ≡ counted (length chosen) (Some Hash) (Some Small) Whole
    seen_second i is free left =
        seen_some p n chosen some unpadded ∙ ap (λ (x : Plan). seen_with p x chosen) (sym is_plan ∙ is)
        ∙ (λ j. counted (length chosen) (Some Hash) (fallback (free j) (left j)) Whole)

    pub last_second : (i : ℕ) → plan ≡ Hash → p.planner ≡ Auto → first_unplaced p chosen ≡ Some i → last_plan p (plan_for p n chosen) chosen ≡ Small
    last_second i is free left =
        ap (λ (x : Plan). last_plan p x chosen) (sym is_plan ∙ is) ∙ (λ j. if Rattle.std.specs.Prelude.is_some (fallback (free j) (left j)) then Small else Hash)

    pub refuses_free : p.planner ≡ Auto → rows_refusal p chosen ≡ None
    refuses_free free = refusal_some p chosen some unpadded ∙ ap (λ (planner : Planner). forced_refusal p planner chosen) free
