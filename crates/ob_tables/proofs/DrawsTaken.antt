-- Draws, one after the other.
use Rattle.ob_tables.proofs.Words.{ap, arith, draw_at, DrawPlace, List, refl, suc, tabulate, ℕ, [], ◌%◌, ◌++◌, ◌+◌, ◌^◌, ◌∙◌, ◌∷◌, ◌≡◌}
use Rattle.ob_seal.proofs.Drawn.{draws_wrap}

-- where so many were taken: of none it is the same place, and else counted on, as draws repeat
pub record HasTaken (old new : DrawPlace) (n : ℕ) : Type 0 where
  pub key : new.key ≡ old.key
  pub place : (draw_at old.key new.next ≡ draw_at old.key (old.next + n)) × (new.next % 2 ^ 67 ≡ (old.next + n) % 2 ^ 67)
  pub some : (k : ℕ) → n ≡ suc k → new.next ≡ (old.next + n) % 2 ^ 67

pub taken_none : (old : DrawPlace) → HasTaken old old 0
taken_none old = record {
  key = refl;
  place = (let none : old.next ≡ old.next + 0 = omega (arith) in ap (draw_at old.key) none, omega (arith));
  some = λ k is. absurd (cc is);
}

-- one more
module _ (old mid new : DrawPlace) (n : ℕ) (taken : HasTaken old mid n) (next : new ≡ record mid { next = (mid.next + 1) % 2 ^ 67 }) where
  place_is : new.next ≡ (old.next + (n + 1)) % 2 ^ 67
  place_is = let last = ap (λ (p : DrawPlace). p.next) next in let before = taken.place.1 in omega (arith, last, before)

  pub taken_more : HasTaken old new (n + 1)
  taken_more = record {
    key = ap (λ (p : DrawPlace). p.key) next ∙ taken.key;
    place = (ap (draw_at old.key) place_is ∙ draws_wrap old.key (old.next + (n + 1)), let is = place_is in omega (arith, is));
    some = λ k is. place_is;
  }

  pub draws_more : (list more : List ℕ) (draw : ℕ) → list ≡ tabulate n (λ i. draw_at old.key (old.next + i)) → draw ≡ draw_at mid.key mid.next → more ≡ list ++ draw ∷ []
      → more ≡ tabulate (n + 1) (λ i. draw_at old.key (old.next + i))
  draws_more list more draw is drew pushed =
      let this : draw ≡ draw_at old.key (old.next + n) = drew ∙ (λ j. draw_at (taken.key j) mid.next) ∙ taken.place.0 in
      let count : suc n ≡ n + 1 = omega (arith) in
      pushed ∙ (λ j. is j ++ this j ∷ []) ∙ ap (λ (k : ℕ). tabulate k (λ i. draw_at old.key (old.next + i))) count

-- all of them
pub taken_all : (old new : DrawPlace) (n k : ℕ) → HasTaken old new n → n ≡ suc k → new ≡ record old { next = (old.next + n) % 2 ^ 67 }
taken_all old new n k taken is = λ j. record { key = taken.key j; next = taken.some k is j }
