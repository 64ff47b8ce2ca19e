-- How texts are gathered to fly: worked examples.
use Rattle.ob_headline.proofs.Words.{arith, Bool, codes, Cut, drop, ended, Err, false, first_course, Flat, inl, inr, Lawful, List, map, meant_entries, None, Ok, Public, refl, Seen, Served, skeleton, Some, start, Static, Stmt, suc, Table, true, Whole, whole_of, zero, ℕ, [], ◌∷◌, ◌≡◌}
use Rattle.ob_headline.specs.Accesses.{FirstWants, IsLeft, cut_in_flight}
use Rattle.ob_headline.specs.Failures.{cut_off}
use Rattle.ob_headline.specs.Flights.{AreGathered, GoesOn, Position, asked_until, most_in, position_in_flight, positions, positions_in_flight, stand_at}
use Rattle.ob_mean.proofs.VerdictLemmas.{count_all}
use Rattle.ob_mean.specs.Standing.{StandsAs}
use Rattle.ob_script.specs.Flights.{Alone, Together, drawn, runnable, turn, turns, turns_for}
use Rattle.ob_sql.specs.declared.stmt.Stmt.TheVariants.{Drop as DropTable}

-- a SELECT of a table that there isn't, and another statement
select : Stmt
select = count_all (codes "a")

drop_it : Stmt
drop_it = DropTable (codes "a")

-- both are refused before any access
x : Served
x = record { skeleton = skeleton select; seen = ended Static }

y : Served
y = record { skeleton = skeleton drop_it; seen = ended Static }

-- by twos
by_twos : meant_entries 2 (drawn 0) (first_course (start None)) (Ok select ∷ Ok select ∷ Ok select ∷ Ok select ∷ Ok select ∷ []) ≡ Together (x ∷ x ∷ []) None ∷ Together (x ∷ x ∷ []) None ∷ Alone x ∷ []
unfolding meant_entries select x
by_twos = refl

-- a text that is none, another statement and the end are after what was gathered
ended_by_others : meant_entries 8 (drawn 0) (first_course (start None)) (Ok select ∷ Ok select ∷ Ok select ∷ Err 3 ∷ Ok select ∷ Ok drop_it ∷ Ok select ∷ Ok select ∷ [])
    ≡ Together (x ∷ x ∷ x ∷ []) None ∷ Alone x ∷ Alone y ∷ Together (x ∷ x ∷ []) None ∷ []
unfolding meant_entries select drop_it x y
ended_by_others = refl

-- none fly without the word
none_by_ones : meant_entries 1 (drawn 0) (first_course (start None)) (Ok select ∷ Ok select ∷ Ok drop_it ∷ []) ≡ Alone x ∷ Alone x ∷ Alone y ∷ []
unfolding meant_entries select drop_it x y
none_by_ones = refl

-- of a flight that was left nothing is whole
left_whole : whole_of 2 (Alone x ∷ Together (x ∷ x ∷ []) (Some 1) ∷ []) ≡ Alone x ∷ []
unfolding whole_of
left_whole = refl

-- no more than have their share of the rows
eight_of_many : most_in (record { most = 8; start = 0 }) (record (start None).public { buffer = 64; pack = 1 }) ≡ 8
eight_of_many = refl

two_of_wide : most_in (record { most = 8; start = 0 }) (record (start None).public { buffer = 64; pack = 8 }) ≡ 2
two_of_wide = refl

one_of_widest : most_in (record { most = 8; start = 0 }) (record (start None).public { buffer = 64; pack = 16 }) ≡ 1
one_of_widest = refl

-- two that read a table of two blocks, in turns: where the flight is left after one access it is the turn of the other one,
-- and after all of them of none
table : Table
table = record { heading = record { name = codes "a"; schema = []; capacity = 2; shape = Flat }; region = 0 }

over_one : Public
over_one = record (start None).public { pack = 1; tables = table ∷ [] }

z : Served
z = record { skeleton = skeleton select; seen = ended Whole }

turns_at : ℕ → List Bool
turns_at k = (stand_at over_one (z ∷ z ∷ []) (λ i. i) 0 k).turn ∷ (stand_at over_one (z ∷ z ∷ []) (λ i. i) 1 k).turn ∷ []

turn_of_other : turns_at 1 ≡ false ∷ true ∷ []
unfolding turns_at turns turn runnable turns_for over_one table z select
turn_of_other = refl

turn_of_none : turns_at 4 ≡ false ∷ false ∷ []
unfolding turns_at turns turn runnable turns_for over_one table z select
turn_of_none = refl

-- two of which one is refused before any access, left after so many: for that one memory isn't wanting while it waits for the
-- other's end, nor after its own; and for the other it may be, where nothing of it is left to be asked
wants_behind : ℕ → Served → Served → Type 0
wants_behind k a b = FirstWants (positions (λ i. i) 0 over_one 5 (Together (a ∷ b ∷ []) (Some k) ∷ [])) (select ∷ select ∷ []) (a ∷ b ∷ [])

none_that_waits : wants_behind 1 z x → ⊥
unfolding wants_behind FirstWants positions positions_in_flight asked_until turns turn runnable turns_for over_one table z x select
none_that_waits (inl (on, inl (turn, emits))) = cc emits
none_that_waits (inl (on, inr (end, closes))) = cc closes
none_that_waits (inr (had, rest)) = omega (arith, had)

none_that_ended : wants_behind 1 x z → ⊥
unfolding wants_behind FirstWants positions positions_in_flight asked_until turns turn runnable turns_for over_one table z x select
none_that_ended (inl (on, wants)) = omega (arith, on)
none_that_ended (inr (had, inl (on, inl (turn, emits)))) = cc emits
none_that_ended (inr (had, inl (on, inr (end, closes)))) = cc closes
none_that_ended (inr (had, inr (hads, rest))) = rest

first_that_goes_on : wants_behind 2 x z
unfolding wants_behind FirstWants positions positions_in_flight asked_until turns turn runnable turns_for over_one table z x select
first_that_goes_on = inr (omega arith, inl (omega arith, inr (refl, refl)))

-- where the first one has read all and waits while the other reads, memory isn't wanting for it in the other's turns, but it may
-- be once its end comes next
later : ℕ → ℕ
later zero = 0
later (suc zero) = 0
later (suc (suc t)) = 1

wants_later : ℕ → Type 0
wants_later k = FirstWants (positions later 0 over_one 5 (Together (z ∷ z ∷ []) (Some k) ∷ [])) (select ∷ select ∷ []) (z ∷ z ∷ [])

none_in_others_turn : wants_later 3 → ⊥
unfolding later wants_later FirstWants positions positions_in_flight asked_until turns turn runnable turns_for over_one table z select
none_in_others_turn (inl (on, inl (inl last, emits))) = omega (arith, last)
none_in_others_turn (inl (on, inl (inr next, emits))) = cc next
none_in_others_turn (inl (on, inr (end, closes))) = omega (arith, end)
none_in_others_turn (inr (had, rest)) = omega (arith, had)

in_its_end : wants_later 4
unfolding later wants_later FirstWants positions positions_in_flight asked_until turns turn runnable turns_for over_one table z select
in_its_end = inl (omega arith, inr (refl, refl))

-- the one that was refused is answered by then, if it stands first, and the other one needn't be
goes_behind : (j : ℕ) → Type 0
goes_behind j = GoesOn (drop j (positions (λ i. i) 0 over_one 5 (Together (x ∷ z ∷ []) (Some 1) ∷ [])))

not_left_out : goes_behind 0 → ⊥
unfolding goes_behind positions positions_in_flight asked_until turns turn runnable turns_for over_one table z x select
not_left_out on = omega (arith, on)

left_for_the_stop : goes_behind 1
unfolding goes_behind positions positions_in_flight asked_until turns turn runnable turns_for over_one table z x select
left_for_the_stop = omega arith

-- how many accesses were asked when each had ended, five before them and one alone after them, where all words are this one:
-- the first asks first and ends, or the second does, and waits with its answer
untils : ℕ → List ℕ
untils word = map (λ (v : Position). v.until) (positions (λ t. word) 0 over_one 5 (Together (z ∷ z ∷ []) None ∷ Alone z ∷ []))

first_ends : untils 0 ≡ 7 ∷ 9 ∷ 11 ∷ []
unfolding untils positions positions_in_flight asked_until turns turn runnable turns_for over_one table z select
first_ends = refl

second_waits : untils 1 ≡ 9 ∷ 9 ∷ 11 ∷ []
unfolding untils positions positions_in_flight asked_until turns turn runnable turns_for over_one table z select
second_waits = refl

-- by twos the third of three goes apart, and not the first
by_rule : AreGathered 2 0 (positions (drawn 0) 0 (start None).public 0 (Together (x ∷ x ∷ []) None ∷ Alone x ∷ [])) (Ok select ∷ Ok select ∷ Ok select ∷ [])
unfolding AreGathered positions positions_in_flight select x
by_rule = (refl, (refl, (refl, tt)))

against_rule : AreGathered 2 0 (positions (drawn 0) 0 (start None).public 0 (Alone x ∷ Together (x ∷ x ∷ []) None ∷ [])) (Ok select ∷ Ok select ∷ Ok select ∷ []) → ⊥
unfolding AreGathered positions positions_in_flight select x
against_rule is = cc is.1.0

-- left after three accesses, where the first asks first: it had ended, and isn't seen as one on its way, and the other one
-- hadn't
left_at : ℕ → Position
left_at i = position_in_flight over_one 5 (z ∷ z ∷ []) (λ t. 0) (Some 3) i

first_had : (Leaves : Public → Stmt → Seen → Type 0) → IsLeft Leaves (left_at 0).left (left_at 0) None select z.seen → Lawful (left_at 0).public 5 select z.seen
unfolding left_at asked_until turns turn runnable turns_for over_one table z select
first_had Leaves (inl had) = had.1
first_had Leaves (inr on) = absurd (omega (arith, on.0))

second_on : (Leaves : Public → Stmt → Seen → Type 0) → IsLeft Leaves (left_at 1).left (left_at 1) None select z.seen → StandsAs (left_at 1).public 5 1 select z.seen Whole
unfolding left_at asked_until turns turn runnable turns_for over_one table z select
second_on Leaves (inl had) = absurd (omega (arith, had.0))
second_on Leaves (inr on) = on.1

-- ---- which ones failed
-- the first of two, at its first access
failed_first : Served
failed_first = record { skeleton = skeleton select; seen = ended (Cut 1) }

-- it counts where their flight was left; one alone may be seen so after any stop
left_failed : cut_in_flight (positions (λ i. i) 0 over_one 0 (Together (failed_first ∷ z ∷ []) (Some 2) ∷ [])) (failed_first ∷ z ∷ []) ≡ 1
unfolding positions positions_in_flight asked_until turns turn runnable turns_for over_one table z select failed_first cut_off
left_failed = refl

alone_failed : cut_in_flight (positions (λ i. i) 0 over_one 0 (Alone failed_first ∷ [])) (failed_first ∷ []) ≡ 0
unfolding positions over_one table select failed_first cut_off
alone_failed = refl
