-- Changes that are due, were, or are not yet.
use Rattle.std.proofs.Common.{◌≡◌, ℕ, zero, suc, ◌+◌, ◌≤◌, ◌==◌, Bool, true, false, List, [], ◌∷◌, ◌++◌, length, length-append, refl, sym, ap, ◌∙◌, arith}
use Rattle.std.specs.Prelude.{if◌then◌else◌, nat_lt}
use Rattle.std.proofs.lemmas.List.Folds.{list_all-map}
use Rattle.ob_store.specs.Calls.{IsBefore}
use Rattle.ob_base.specs.declared.access.Access.{Access}
use Rattle.ob_meddle.specs.declared.meddle.Act.{Act}
use Rattle.ob_meddle.specs.declared.meddle.Act.TheVariants.{Fail, Flip, Copy, Older}
use Rattle.ob_meddle.specs.declared.meddle.Meddle.{Meddle}
use Rattle.ob_meddle.specs.Acts.{RegionRests, Stands, after_act, after_acts}
use Rattle.ob_meddle.specs.Due.{is_fail, fails_at, failed_among, has_acted, are_later, disturbance_of, disturbances}

pub more_asked : (asked : List Access) (a : Access) → length (asked ++ a ∷ []) ≡ suc (length asked)
more_asked asked a = omega (arith, length-append asked (a ∷ []))

one_of : (b : Bool) → (if b then 1 else 0) ≤ 1
one_of true = omega arith
one_of false = omega arith

-- one access more
pub failed_more : (list : List Meddle) (old new : ℕ) → new ≡ suc old → failed_among list new ≡ failed_among list old + (if fails_at list new then 1 else 0)
unfolding failed_among
failed_more list old new e = rw e refl

pub failed_few : (list : List Meddle) (n : ℕ) → failed_among list n ≤ n
unfolding failed_among
failed_few list zero = omega arith
failed_few list (suc n) = omega (arith, failed_few list n, one_of (fails_at list (suc n)))

-- what came stays
pub acted_later : (list : List Meddle) (m n : ℕ) → m ≤ n → has_acted list n ≡ false → has_acted list m ≡ false
acted_later [] m n le none = refl
acted_later (x ∷ list) m n le none = grind (arith, acted_later list m n le)

act_of_fail : (rests : RegionRests) (a : Act) (s : Stands) → is_fail a ≡ true → after_act rests a s ≡ s
act_of_fail rests Fail s is = refl
act_of_fail rests other s is = absurd (cc is)

-- where no act came, none comes now
pub none_due : (rests : RegionRests) (list : List Meddle) (number : ℕ) (s : Stands) → 1 ≤ number → has_acted list number ≡ false → after_acts rests list number s ≡ s
none_due rests [] number s some none = refl
none_due rests (x ∷ list) number s some none =
    ap (after_acts rests list number) (step (x.before == number) refl) ∙ none_due rests list number s some (grind arith) where
      step : (b : Bool) → (x.before == number) ≡ b → (if b then after_act rests x.act s else s) ≡ s
      step false is = refl
      step true is = act_of_fail rests x.act s (grind arith)

-- where all changes come later, none came
later_tail : (x : Meddle) (list : List Meddle) (n : ℕ) → are_later (x ∷ list) n ≡ true → are_later list n ≡ true
later_tail x list n later = grind arith

pub none_acted : (list : List Meddle) (n : ℕ) → are_later list n ≡ true → has_acted list n ≡ false
none_acted [] n later = refl
none_acted (x ∷ list) n later = grind (arith, none_acted list n (later_tail x list n later))

later_before : (list : List Meddle) (m n : ℕ) → m ≤ n → are_later list n ≡ true → are_later list m ≡ true
later_before [] m n le later = refl
later_before (x ∷ list) m n le later = grind (arith, later_before list m n le (later_tail x list n later))

none_fails : (list : List Meddle) (n : ℕ) → are_later list n ≡ true → fails_at list n ≡ false
none_fails [] n later = refl
none_fails (x ∷ list) n later = grind (arith, none_fails list n (later_tail x list n later))

pub none_failed : (list : List Meddle) (n : ℕ) → are_later list n ≡ true → failed_among list n ≡ 0
unfolding failed_among
none_failed list zero later = refl
none_failed list (suc n) later =
    let fails = none_fails list (suc n) later in
    let before = none_failed list n (later_before list n (suc n) (omega arith) later) in
    (λ t. before t + (if fails t then 1 else 0))

-- the same of what the store says of them
pub all_later : (list : List Meddle) (n : ℕ) → IsBefore (disturbances list) n → are_later list n ≡ true
all_later list n before = sym (list_all-map (λ d. nat_lt n d.before) disturbance_of list) ∙ before
