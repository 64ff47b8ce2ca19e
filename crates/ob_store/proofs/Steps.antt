-- How a run goes on by a call, and how runs are joined.
use Rattle.std.proofs.Common.{◌≡◌, ◌≢◌, ◌⊎◌, inl, inr, ℕ, zero, suc, ◌+◌, ◌*◌, ◌<◌, ◌≤◌, List, [], ◌∷◌, ◌++◌, ◌-◌, take, length, Option, Some, None, refl, sym, ◌∙◌, ap, subst, arith, append_assoc, length-append}
use Rattle.std.proofs.lemmas.List.{append-nil, take_at}
use Rattle.std.proofs.lemmas.Bool.{cases_eq}
use Rattle.ob_base.specs.declared.access.Access.{Access}
use Rattle.ob_store.specs.State.{FalseRead, Disturbance, StoreState}
use Rattle.ob_store.specs.Calls.{Asks, ReadGives, ChangesNothing, IsBefore}
use Rattle.ob_base.specs.Lists.{each}
use Rattle.ob_store.specs.Runs.{Did, Began, Since, Later}

pub later_refl : (s : StoreState) → Later s s
later_refl s = record { log = refl; faults = omega arith; tells = refl; lie = λ lie is. is; disturbed = refl; steady = λ steady. steady }

pub later_trans : (old mid new : StoreState) → Later old mid → Later mid new → Later old new
later_trans old mid new first second = record {
  log = second.log ∙ first.log;
  faults = omega (arith, first.faults, second.faults);
  tells = second.tells ∙ first.tells;
  lie = λ lie is. second.lie lie (first.lie lie is);
  disturbed = second.disturbed ∙ first.disturbed;
  steady = λ steady. second.steady (first.steady steady);
}

pub since_refl : (s : StoreState) → Since s s
since_refl s = record { faults = omega arith; tells = refl; lie = λ lie is. is; disturbed = refl; steady = λ steady. steady }

pub since_trans : (old mid new : StoreState) → Since old mid → Since mid new → Since old new
since_trans old mid new first second = record {
  faults = omega (arith, first.faults, second.faults);
  tells = second.tells ∙ first.tells;
  lie = λ lie is. second.lie lie (first.lie lie is);
  disturbed = second.disturbed ∙ first.disturbed;
  steady = λ steady. second.steady (first.steady steady);
}

pub since_later : (old new : StoreState) → Later old new → Since old new
since_later old new later = record { faults = later.faults; tells = later.tells; lie = later.lie; disturbed = later.disturbed; steady = later.steady }

-- one call
pub later_call : (access : Access) (old new : StoreState) → Asks access old new → Later old new
later_call access old new asks = record {
  log = asks.log;
  faults = asks.faults;
  tells = asks.tells;
  lie = asks.lie;
  disturbed = asks.disturbed;
  steady = λ steady. asks.steady;
}

-- room is made
pub later_rests : (old new : StoreState) → ChangesNothing old new → Later old new
later_rests old new rests = record {
  log = rests.log;
  faults = omega (arith, rests.faults);
  tells = rests.tells;
  lie = λ lie is. rests.lie ∙ is;
  disturbed = rests.disturbed;
  steady = λ steady. record {
    quiet = λ before. let quiet = steady.quiet (before_old (length old.asked) (subst (λ (l : List Access). IsBefore new.disturbed (length l)) rests.asked before)) in record {
      faults = rests.faults ∙ quiet.faults;
      slips = rests.slips ∙ quiet.slips;
      lie = rests.lie ∙ quiet.lie;
    };
    lied = λ lie is before. steady.lied lie (sym rests.lie ∙ is) (before_old (length lie.before + 1) before);
  };
} where
  before_old : (n : ℕ) → IsBefore new.disturbed n → IsBefore old.disturbed n
  before_old n before = subst (λ (o : Option (List Disturbance)). IsBefore o n) rests.disturbed before

-- no lie afterwards is none throughout
pub none_since : (old new : StoreState) → Since old new → new.lie ≡ None → old.lie ≡ None
none_since old new since none = none_of old.lie since.lie
  where
    none_of : (o : Option FalseRead) → ((lie : FalseRead) → o ≡ Some lie → new.lie ≡ Some lie) → o ≡ None
    none_of None stays = refl
    none_of (Some lie) stays = absurd (cc (stays lie refl, none))

pub none_before : (old new : StoreState) → Later old new → new.lie ≡ None → old.lie ≡ None
none_before old new later none = none_since old new (since_later old new later) none

pub did_none : (s : StoreState) → Did [] s s
did_none s = record { asked = sym (append-nil s.asked); faults = refl }

pub did_join : (a b : List Access) (old mid new : StoreState) → Did a old mid → Did b mid new → Did (a ++ b) old new
did_join a b old mid new first second = record {
  asked = second.asked ∙ ap (λ (l : List Access). l ++ b) first.asked ∙ append_assoc old.asked a b;
  faults = second.faults ∙ first.faults;
}

pub began_join : (a b : List Access) (old mid new : StoreState) → Did a old mid → Began b mid new → Began (a ++ b) old new
began_join a b old mid new first second = record {
  done = a ++ second.done;
  rest = second.rest;
  split = append_assoc a second.done second.rest ∙ ap (λ (l : List Access). a ++ l) second.split;
  asked = second.asked ∙ ap (λ (l : List Access). l ++ second.done) first.asked ∙ append_assoc old.asked a second.done;
}

pub began_more : (a b : List Access) (old new : StoreState) → Began a old new → Began (a ++ b) old new
began_more a b old new first = record {
  done = first.done;
  rest = first.rest ++ b;
  split = sym (append_assoc first.done first.rest b) ∙ ap (λ (l : List Access). l ++ b) first.split;
  asked = first.asked;
}

-- the first i parts and some rest
pub record Parts (part : ℕ → List Access) (n i : ℕ) : Type 0 where
  pub rest : List Access
  pub split : each n part ≡ each i part ++ part i ++ rest

pub parts : (part : ℕ → List Access) (n i : ℕ) → i < n → Parts part n i
parts part zero i below = absurd (omega arith)
parts part (suc n) i below = elim (le_cases i n (omega arith)) [
  | inl less ↦ let p = parts part n i less in record {
    rest = p.rest ++ part n;
    split = ap (λ (l : List Access). l ++ part n) p.split ∙ append_assoc (each i part ++ part i) p.rest (part n);
  }
  | inr same ↦ record { rest = []; split = ap (λ (k : ℕ). each k part ++ part k) (sym same) ∙ sym (append-nil (each i part ++ part i)) }
]
  where
    le_cases : (i n : ℕ) → i ≤ n → (i < n) ⊎ (i ≡ n)
    le_cases i n le = elim (cases_eq i n) [ inl same ↦ inr same | inr other ↦ inl (omega arith) ]

-- one call
pub did_call : (access : Access) (old new : StoreState) → Asks access old new → new.faults ≡ old.faults → Did (access ∷ []) old new
did_call access old new asks faults = record { asked = asks.asked; faults = faults }

-- two lists are equal or they aren't
pub list_cases : (a b : List ℕ) → (a ≡ b) ⊎ (a ≢ b)
list_cases [] [] = inl refl
list_cases [] (y ∷ ys) = inr (λ e. cc)
list_cases (x ∷ xs) [] = inr (λ e. cc)
list_cases (x ∷ xs) (y ∷ ys) = elim (cases_eq x y) [
  | inl head ↦ elim (list_cases xs ys) [
    | inl tail ↦ inl (cc (head, tail))
    | inr other ↦ inr (λ e. other (cc e))
  ]
  | inr other ↦ inr (λ e. other (cc e))
]

-- a read that answered while no lie is told gave what was written last
pub read_true : (region place : ℕ) (bytes : List ℕ) (old new : StoreState) → ReadGives region place bytes old new → old.lie ≡ None → new.lie ≡ None → (block : List ℕ) → old.last region place ≡ Some block → bytes ≡ block
read_true region place bytes old new gives was none block last = elim (list_cases block bytes) [
  | inl e ↦ sym e
  | inr ne ↦ absurd (cc (gives.caught block was last ne, none))
]

pub length-each : (part : ℕ → List Access) (size : ℕ) → ((i : ℕ) → length (part i) ≡ size) → (n : ℕ) → length (each n part) ≡ n * size
length-each part size sizes zero = omega arith
length-each part size sizes (suc n) = omega (arith, length-append (each n part) (part n), sizes n, length-each part size sizes n)

pub began_call : (access : Access) (old new : StoreState) → Asks access old new → Began (access ∷ []) old new
began_call access old new asks = record { done = access ∷ []; rest = []; split = refl; asked = asks.asked }

-- the first n of the script, n being how many were asked
pub began_take : (script : List Access) (old new : StoreState) → Began script old new → new.asked ≡ old.asked ++ take (length new.asked - length old.asked) script
began_take script old new began =
    let size : length new.asked - length old.asked ≡ length began.done = omega (arith, ap length began.asked, length-append old.asked began.done) in
    let front : take (length began.done) script ≡ began.done = ap (λ (l : List Access). take (length began.done) l) (sym began.split) ∙ take_at began.done began.rest (length began.done) refl in
    began.asked ∙ ap (λ (l : List Access). old.asked ++ l) (sym front) ∙ ap (λ (n : ℕ). old.asked ++ take n script) (sym size)
