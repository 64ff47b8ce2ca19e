-- Statements that fly, each with what is known of it, as a list.
use Rattle.ob_shell.proofs.Words.{All, All-cons, All-nil, ap, arith, length, List, map, None, Option, Public, refl, Position, Seen, served_as, skeleton, slice_get, Some, Stmt, subst, suc, ℕ, [], ◌+◌, ◌∷◌, ◌≡◌}
use Rattle.ob_headline.specs.Flights.{position_in_flight, positions_in_flight}
use Rattle.ob_inflight.specs.Closing.{Closed}
use Rattle.ob_script.specs.Trace.{Served}

-- by what it goes, and what is seen of it; how many accesses of its own were asked, and how many of these carried out; and how
-- it has ended, if it has
pub record StmtInFlight : Type 0 where
  pub position : Position
  pub stmt : Stmt
  pub seen : Seen
  pub own : ℕ
  pub done : ℕ
  pub closed : Option Closed

abbrev pub served_of : StmtInFlight → Served
served_of f = record { skeleton = skeleton f.stmt; seen = f.seen }

-- what they go by, by their places
pub record Places : Type 0 where
  pub position : ℕ → Position
  pub own : ℕ → ℕ
  pub done : ℕ → ℕ

abbrev pub flown_at : Places → ℕ → Stmt → Seen → Option Closed → StmtInFlight
flown_at at i stmt seen closed = record { position = at.position i; stmt = stmt; seen = seen; own = at.own i; done = at.done i; closed = closed }

unfoldable pub flown_list : Places → (i : ℕ) → List Stmt → List Seen → List Closed → List StmtInFlight
flown_list at i [] seens ended = []
flown_list at i (stmt ∷ stmts) [] ended = []
flown_list at i (stmt ∷ stmts) (seen ∷ seens) [] = flown_at at i stmt seen None ∷ flown_list at (i + 1) stmts seens []
flown_list at i (stmt ∷ stmts) (seen ∷ seens) (one ∷ ended) = flown_at at i stmt seen (Some one) ∷ flown_list at (i + 1) stmts seens ended

abbrev pub positions_in : List StmtInFlight → List Position
positions_in fs = map (λ (f : StmtInFlight). f.position) fs

abbrev pub stmts_in : List StmtInFlight → List Stmt
stmts_in fs = map (λ (f : StmtInFlight). f.stmt) fs

abbrev pub served_in_all : List StmtInFlight → List Served
served_in_all fs = map served_of fs

pub flown_served : (at : Places) (i : ℕ) (stmts : List Stmt) (seens : List Seen) (ended : List Closed) → served_in_all (flown_list at i stmts seens ended) ≡ served_as stmts seens
unfolding flown_list
flown_served at i [] seens ended = refl
flown_served at i (stmt ∷ stmts) [] ended = refl
flown_served at i (stmt ∷ stmts) (seen ∷ seens) [] = ap (λ (l : List Served). record { skeleton = skeleton stmt; seen = seen } ∷ l) (flown_served at (i + 1) stmts seens [])
flown_served at i (stmt ∷ stmts) (seen ∷ seens) (one ∷ ended) = ap (λ (l : List Served). record { skeleton = skeleton stmt; seen = seen } ∷ l) (flown_served at (i + 1) stmts seens ended)

pub flown_stmts : (at : Places) (i : ℕ) (stmts : List Stmt) (seens : List Seen) (ended : List Closed) → length seens ≡ length stmts → stmts_in (flown_list at i stmts seens ended) ≡ stmts
unfolding flown_list
flown_stmts at i [] seens ended long = refl
flown_stmts at i (stmt ∷ stmts) [] ended long = absurd (omega (arith, long))
flown_stmts at i (stmt ∷ stmts) (seen ∷ seens) [] long = ap (λ (l : List Stmt). stmt ∷ l) (flown_stmts at (i + 1) stmts seens [] (omega (arith, long)))
flown_stmts at i (stmt ∷ stmts) (seen ∷ seens) (one ∷ ended) long = ap (λ (l : List Stmt). stmt ∷ l) (flown_stmts at (i + 1) stmts seens ended (omega (arith, long)))

-- the positions of a flight
module _ (at : Places) (p : Public) (m : ℕ) (flown : List Served) (words : ℕ → ℕ) (left : Option ℕ) (position_is : (i : ℕ) → at.position i ≡ position_in_flight p m flown words left i) where
  pub flown_positions : (i : ℕ) (stmts : List Stmt) (seens : List Seen) (ended : List Closed) → length seens ≡ length stmts → positions_in (flown_list at i stmts seens ended) ≡ positions_in_flight p m flown words left i (length stmts)
  unfolding flown_list positions_in_flight
  flown_positions i [] seens ended long = refl
  flown_positions i (stmt ∷ stmts) [] ended long = absurd (omega (arith, long))
  flown_positions i (stmt ∷ stmts) (seen ∷ seens) [] long = let rest = flown_positions (i + 1) stmts seens [] (omega (arith, long)) in λ j. position_is i j ∷ rest j
  flown_positions i (stmt ∷ stmts) (seen ∷ seens) (one ∷ ended) long = let rest = flown_positions (i + 1) stmts seens ended (omega (arith, long)) in λ j. position_is i j ∷ rest j

-- what holds at each place holds of each
module _ (at : Places) (P : StmtInFlight → Type 0) where
  first_place : (i : ℕ) → i + 0 ≡ i
  first_place i = omega arith

  next_place : (i k : ℕ) → i + suc k ≡ (i + 1) + k
  next_place i k = omega arith

  pub each_flown : (i : ℕ) (stmts : List Stmt) (seens : List Seen) (ended : List Closed)
      → ((k : ℕ) (stmt : Stmt) (seen : Seen) → slice_get stmts k ≡ Some stmt → slice_get seens k ≡ Some seen → P (flown_at at (i + k) stmt seen (slice_get ended k)))
      → All P (flown_list at i stmts seens ended)
  unfolding flown_list
  each_flown i [] seens ended facts = All-nil P
  each_flown i (stmt ∷ stmts) [] ended facts = All-nil P
  each_flown i (stmt ∷ stmts) (seen ∷ seens) [] facts =
      All-cons P (flown_at at i stmt seen None) (flown_list at (i + 1) stmts seens [])
      (subst (λ (n : ℕ). P (flown_at at n stmt seen None)) (first_place i) (facts 0 stmt seen refl refl))
      (each_flown (i + 1) stmts seens [] (λ k s x a b. subst (λ (n : ℕ). P (flown_at at n s x None)) (next_place i k) (facts (suc k) s x a b)))
  each_flown i (stmt ∷ stmts) (seen ∷ seens) (one ∷ ended) facts =
      All-cons P (flown_at at i stmt seen (Some one)) (flown_list at (i + 1) stmts seens ended)
      (subst (λ (n : ℕ). P (flown_at at n stmt seen (Some one))) (first_place i) (facts 0 stmt seen refl refl))
      (each_flown (i + 1) stmts seens ended (λ k s x a b. subst (λ (n : ℕ). P (flown_at at n s x (slice_get ended k))) (next_place i k) (facts (suc k) s x a b)))
