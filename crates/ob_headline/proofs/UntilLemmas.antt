-- How many accesses a flight had asked when one of its statements had ended.
use Rattle.ob_headline.proofs.Words.{Access, ap, arith, Bool, cases_lt, false, if◌then◌else◌, inl, inr, length, None, Option, option_map_or, refl, slice_get, Some, subst, suc, sym, true, zero, ℕ, ◌<◌, ◌∙◌, ◌≡◌, ◌≤◌}
use Rattle.std.specs.Prelude.{slice_set}
use Rattle.std.proofs.lemmas.Bool.{cases_eq}
use Rattle.ob_headline.specs.Flights.{asked_until, has_ended}
use Rattle.ob_script.proofs.FlightLemmas.{logs_grow}
use Rattle.ob_script.proofs.ListPlaces.{get_set_other, get_set_same}
use Rattle.ob_script.specs.Flights.{Flight, Flying, acted, gates_of, next_act, picked, place_by, runnable, turn, turns}

-- ---- who has ended stays so
acted_ended : (act : Option Access) (f : Flying) → f.ended ≡ true → (acted act f).ended ≡ true
acted_ended None f is = refl
acted_ended (Some access) f is = is

ended_at : (i : ℕ) (s : Flight) (f : Flying) → slice_get s.flying i ≡ Some f → has_ended i s ≡ f.ended
ended_at i s f at = ap (λ (o : Option Flying). option_map_or (λ (g : Flying). g.ended) o false) at

picked_stays : (i j : ℕ) (o : Option Flying) (s : Flight) → slice_get s.flying j ≡ o → has_ended i s ≡ true → has_ended i (picked j o s) ≡ true
picked_stays i j None s at is = is
picked_stays i j (Some f) s at is = elim (cases_eq i j) [
  | inl here ↦
      let mine : slice_get s.flying i ≡ Some f = ap (slice_get s.flying) here ∙ at in
      let next : slice_get (slice_set s.flying j (acted (next_act s.public f) f)) i ≡ Some (acted (next_act s.public f) f) =
      ap (slice_get (slice_set s.flying j (acted (next_act s.public f) f))) here ∙ get_set_same s.flying j f (acted (next_act s.public f) f) at in
      ap (λ (o : Option Flying). option_map_or (λ (g : Flying). g.ended) o false) next ∙ acted_ended (next_act s.public f) f (sym (ended_at i s f mine) ∙ is)
  | inr off ↦ ap (λ (o : Option Flying). option_map_or (λ (g : Flying). g.ended) o false) (get_set_other s.flying j i (acted (next_act s.public f) f) off) ∙ is
]

ended_stays : (i word : ℕ) (s : Flight) → has_ended i s ≡ true → has_ended i (turn word s) ≡ true
unfolding turn
ended_stays i word s is = let j = place_by word (length s.flying) (runnable true 0 (gates_of s)) in picked_stays i j (slice_get s.flying j) s refl is

all_stay : (words : ℕ → ℕ) (i : ℕ) (s : Flight) (n k : ℕ) → n ≤ k → has_ended i (turns words n s) ≡ true → has_ended i (turns words k s) ≡ true
unfolding turns
all_stay words i s n zero le is = let none : n ≡ 0 = omega (arith, le) in subst (λ (j : ℕ). has_ended i (turns words j s) ≡ true) none is
all_stay words i s n (suc k) le is = elim (cases_lt n (suc k)) [
  | inl less ↦ ended_stays i (words k) (turns words k s) (all_stay words i s n k (omega (arith, less)) is)
  | inr at ↦ let same : n ≡ suc k = omega (arith, le, at) in subst (λ (j : ℕ). has_ended i (turns words j s) ≡ true) same is
]

-- ---- when one had ended
module _ (words : ℕ → ℕ) (i : ℕ) (s : Flight) where
  pub by_then : (k : ℕ) (ended : Bool) → has_ended i (turns words k s) ≡ ended → asked_until words i (suc k) s ≡ (if ended then asked_until words i k s else length (turns words (suc k) s).log)
  unfolding asked_until
  by_then k ended is = ap (λ (b : Bool). if b then asked_until words i k s else length (turns words (suc k) s).log) is

  pub until_ended : (n total : ℕ) → has_ended i (turns words n s) ≡ true → asked_until words i total s ≤ length (turns words n s).log
  unfolding asked_until turns
  until_ended n zero is = logs_grow words s 0 n (omega arith)
  until_ended n (suc k) is = by (until_ended n k is) (has_ended i (turns words k s)) refl
    where
      by : asked_until words i k s ≤ length (turns words n s).log → (ended : Bool) → has_ended i (turns words k s) ≡ ended → asked_until words i (suc k) s ≤ length (turns words n s).log
      by deep true at = let here = by_then k true at in omega (arith, here, deep)
      by deep false at =
          let here = by_then k false at in
          elim (cases_lt k n) [
            | inl less ↦ let grows = logs_grow words s (suc k) n (omega (arith, less)) in omega (arith, here, grows)
            | inr past ↦ absurd (cc (at, all_stay words i s n k past is))
          ]

  pub until_not : (n total : ℕ) → n < total → has_ended i (turns words n s) ≡ false → length (turns words (suc n) s).log ≤ asked_until words i total s
  until_not n zero less is = absurd (omega (arith, less))
  until_not n (suc k) less is = by (λ fewer. until_not n k fewer is) (has_ended i (turns words k s)) refl
    where
      by : (n < k → length (turns words (suc n) s).log ≤ asked_until words i k s) → (ended : Bool) → has_ended i (turns words k s) ≡ ended → length (turns words (suc n) s).log ≤ asked_until words i (suc k) s
      by deep true at = elim (cases_lt n k) [
        | inl fewer ↦ let here = by_then k true at in let rest = deep fewer in omega (arith, here, rest)
        | inr past ↦ let same : n ≡ k = omega (arith, less, past) in absurd (cc (at, sym is, ap (λ (j : ℕ). has_ended i (turns words j s)) same))
      ]
      by deep false at = let here = by_then k false at in let grows = logs_grow words s (suc n) (suc k) (omega (arith, less)) in omega (arith, here, grows)
