-- By what the statements of a flight go, and what is meant of them within some accesses.
use Rattle.ob_headline.proofs.Words.{after, Answer, AnswersMeant, ap, arith, Err, false, gathered_now, Gathering, how_now, is_full_now, length, List, may_fly, None, Ok, Option, Public, refl, seen_now, seen_or_cut, Served, Session, skeleton, slice_get, Some, Spelt, Stmt, subst, suc, true, zero, ℕ, [], ◌+◌, ◌<◌, ◌∙◌, ◌∷◌, ◌≡◌, ◌≤◌}
use Rattle.ob_headline.specs.Batches.{after_now}
use Rattle.ob_headline.specs.Disturbed.{MeantUntil}
use Rattle.ob_headline.specs.Flights.{Position, at_position, position_in_flight, positions_in_flight}
use Rattle.ob_mean.specs.Replay as Hows

-- ---- positions
module _ (p : Public) (m : ℕ) (flown : List Served) (words : ℕ → ℕ) (left : Option ℕ) where
  pub positions_long : (i n : ℕ) → length (positions_in_flight p m flown words left i n) ≡ n
  unfolding positions_in_flight
  positions_long i zero = refl
  positions_long i (suc n) = ap (λ (k : ℕ). suc k) (positions_long (i + 1) n)

  pub positions_get : (i n k : ℕ) → k < n → slice_get (positions_in_flight p m flown words left i n) k ≡ Some (position_in_flight p m flown words left (i + k))
  unfolding positions_in_flight
  positions_get i zero k less = absurd (omega (arith, less))
  positions_get i (suc n) zero less = let same : i ≡ i + 0 = omega arith in ap (λ (j : ℕ). Some (position_in_flight p m flown words left j)) same
  positions_get i (suc n) (suc k) less =
      let same : (i + 1) + k ≡ i + suc k = omega arith in
      positions_get (i + 1) n k (omega (arith, less)) ∙ ap (λ (j : ℕ). Some (position_in_flight p m flown words left j)) same

-- ---- within n accesses
-- of one that was answered: it is answered as it is meant, if it ended by then; it changes no table, and draws nothing
pub record FlownUntil (n : ℕ) (s : Session) (v : Position) (stmt : Stmt) (one : Answer) (x : Served) : Type 0 where
  pub flies : may_fly v.public (skeleton stmt) ≡ true
  pub room : v.until ≤ n → is_full_now (at_position v s) stmt ≡ false
  pub answers : v.until ≤ n → AnswersMeant (at_position v s) stmt one
  pub seen : v.until ≤ n → x.seen ≡ seen_now (at_position v s) stmt
  pub tables : (after Hows.Alone (at_position v s) stmt).tables ≡ s.tables
  pub draws : (after Hows.Alone (at_position v s) stmt).draws ≡ s.draws

-- of a session nothing except its tables and its draws tells
module _ (n : ℕ) where
  pub until_by : (s u : Session) → s.tables ≡ u.tables → s.draws ≡ u.draws → (g : Option Gathering) (positions : List Position) (spelt : List Spelt) (answers : List Answer) (seen : List Served)
      → MeantUntil n g positions s spelt answers seen → MeantUntil n g positions u spelt answers seen
  unfolding MeantUntil
  until_by s u tables draws g positions [] answers seen told = tt
  until_by s u tables draws g positions (x ∷ spelt) [] seen told = tt
  until_by s u tables draws g positions (Err at ∷ spelt) (one ∷ answers) seen told = (told.0, until_by s u tables draws None positions spelt answers seen told.1)
  until_by s u tables draws g positions (Ok stmt ∷ spelt) (one ∷ answers) [] told = absurd told
  until_by s u tables draws g [] (Ok stmt ∷ spelt) (one ∷ answers) (x ∷ seen) told = absurd told
  until_by s u tables draws g (v ∷ positions) (Ok stmt ∷ spelt) (one ∷ answers) (x ∷ seen) told =
      let same : at_position v s ≡ at_position v u = λ i. record { public = v.public; tables = tables i; asked = v.asked; draws = draws i } in
      subst (λ (w : Session). v.until ≤ n → (is_full_now w stmt ≡ false) × AnswersMeant w stmt one × (x.seen ≡ seen_or_cut (how_now g w stmt) w stmt)
      × MeantUntil n (gathered_now g w stmt) positions (after_now g w stmt) spelt answers seen) same told
