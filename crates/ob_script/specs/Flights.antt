-- Statements in flight: SELECTs without a join that ask in turns, and how their accesses are merged.
--
-- A flight (`Flight`) is what is public, the statements, each with how far it is (`Flying`), and what was asked so far and by
-- which of them. It begins with `boarding`. In a turn (`turn`) a word picks one of those that may go, and that one does its
-- next act: an access of its script, or its end. One may go that has not ended, and whose next act doesn't print unless it is
-- the first that has not ended; so the answers come in the order of the statements. The number of a region is drawn at its
-- make: until then a statement's script is taken with the next one. After `turns_of` turns all have ended, and `merge` is
-- what was asked.
--
-- `runnable`, `turn`, `turns`, `turns_for`, `trace_in` and `draw` stay shut in proofs: else a goal would show whole
-- scripts. Open them by an `unfolding` line, or take the laws: `turns_by_gates` for one turn, `flights_keep_order` for any
-- number of them, and `flights_end` for all. What else there is opens by itself.
use Rattle.std.specs.Prelude.{◌≡◌, ◌≤◌, ◌==◌, ◌||◌, ◌&&◌, ◌+◌, ◌/◌, ◌%◌, ◌*◌, ℕ, zero, suc, Bool, true, false, not, List, [], ◌∷◌, ◌++◌, length, map, filter, take, Option, Some, None, unwrap_or, slice_get, slice_set, slice_index_or, if◌then◌else◌}
use Rattle.ob_base.specs.Accesses.{makes}
use Rattle.ob_base.specs.declared.access.Access.{Access}
use Rattle.ob_base.specs.declared.access.Access.TheVariants.{Make, Read, Write, Discard, Open}
use Rattle.ob_base.specs.declared.config.Plan.TheVariants.{Small}
use Rattle.ob_base.specs.declared.config.Planner.TheVariants.{Forced}
use Rattle.ob_base.specs.declared.config.Public.{Public}
use Rattle.ob_script.specs.Script.{script}
use Rattle.ob_script.specs.Trace.{Served, next}

-- ---- what a flight goes by
-- of n statements each has the n-th part of the rows that may be open, and writes its rows by Small
abbrev pub flight_public : ℕ → Public → Public
flight_public n p = record p { buffer = p.buffer / n; planner = Forced Small }

-- one of them on its way: what is seen of it, how many accesses it asked, the region that it made, and whether it has ended
pub record Flying : Type 0 where
  pub served : Served
  pub asked : ℕ
  pub region : Option ℕ
  pub ended : Bool

abbrev pub boarded : Served → Flying
boarded x = record { served = x; asked = 0; region = None; ended = false }

-- all its accesses; a region that it is yet to make has the next number
abbrev pub accesses_of : Public → Flying → List Access
accesses_of p f =
    script (record p { next_region = unwrap_or f.region p.next_region }) f.served.skeleton f.served.seen

-- its next act: an access, or none where it ends
abbrev pub next_act : Public → Flying → Option Access
next_act p f = slice_get (accesses_of p f) f.asked

-- ---- who may be picked
-- its result is read nowhere but where it is printed, or walked in place of that
abbrev pub reads_from : Option ℕ → Access → Bool
reads_from (Some g) (Read region place) = region == g
reads_from (Some g) (Make region blocks len) = false
reads_from (Some g) (Write region place) = false
reads_from (Some g) (Discard region) = false
reads_from (Some g) (Open region blocks len) = false
reads_from None access = false

-- an act prints that reads the result, and so does the end
abbrev pub prints : Option ℕ → Option Access → Bool
prints region None = true
prints region (Some access) = reads_from region access

-- what the turns go by: whether a statement has ended, and whether its next act prints
pub record Gate : Type 0 where
  pub ended : Bool
  pub prints : Bool

abbrev pub gate_of : Public → Flying → Gate
gate_of p f = record { ended = f.ended; prints = prints f.region (next_act p f) }

-- it may be picked: it has not ended, and its next act doesn't print unless it is the first that has not
abbrev pub may_go : (first : Bool) → Gate → Bool
may_go first g = not g.ended && (first || not g.prints)

-- the places of those that may, counted from i
unfoldable pub runnable : (first : Bool) → (i : ℕ) → List Gate → List ℕ
runnable first i [] = []
runnable first i (g ∷ gates) =
    (if may_go first g then i ∷ [] else []) ++ runnable (first && g.ended) (i + 1) gates

-- the one of them at the place that the word tells, or a place of none
abbrev pub place_by : (word : ℕ) → (none : ℕ) → List ℕ → ℕ
place_by word none places = slice_index_or places (word % length places) none

-- ---- turns
-- what is public, the statements, and who asked what
pub record Flight : Type 0 where
  pub public : Public
  pub flying : List Flying
  pub log : List (ℕ × Access)

abbrev pub gates_of : Flight → List Gate
gates_of s = map (gate_of s.public) s.flying

-- the region that a statement made, and how many were, after an act
abbrev pub region_after : Option Access → Option ℕ → Option ℕ
region_after (Some (Make region blocks len)) before = Some region
region_after (Some (Read region place)) before = before
region_after (Some (Write region place)) before = before
region_after (Some (Discard region)) before = before
region_after (Some (Open region blocks len)) before = before
region_after None before = before

abbrev pub made_by : Option Access → ℕ
made_by (Some (Make region blocks len)) = 1
made_by (Some (Read region place)) = 0
made_by (Some (Write region place)) = 0
made_by (Some (Discard region)) = 0
made_by (Some (Open region blocks len)) = 0
made_by None = 0

-- a statement after its act
abbrev pub acted : Option Access → Flying → Flying
acted None f = record f { ended = true }
acted (Some access) f = record f { asked = f.asked + 1; region = region_after (Some access) f.region }

abbrev pub entry_of : ℕ → Option Access → List (ℕ × Access)
entry_of i None = []
entry_of i (Some access) = (i, access) ∷ []

-- the statement at a place goes on
abbrev pub gone_on : ℕ → Option Access → Flying → Flight → Flight
gone_on i act f s = record {
  public = record s.public { next_region = s.public.next_region + made_by act };
  flying = slice_set s.flying i (acted act f);
  log = s.log ++ entry_of i act;
}

-- if there is one
abbrev pub picked : ℕ → Option Flying → Flight → Flight
picked i None s = s
picked i (Some f) s = gone_on i (next_act s.public f) f s

unfoldable pub turn : (word : ℕ) → Flight → Flight
turn word s =
    let i = place_by word (length s.flying) (runnable true 0 (gates_of s)) in picked i (slice_get s.flying i) s

unfoldable pub turns : (words : ℕ → ℕ) → ℕ → Flight → Flight
turns words zero s = s
turns words (suc n) s = turn (words n) (turns words n s)

-- the accesses of one statement, in order
abbrev pub own : ℕ → List (ℕ × Access) → List Access
own i log = map (λ (e : ℕ × Access). e.1) (filter (λ (e : ℕ × Access). e.0 == i) log)

-- what a statement asks where its region has this number
abbrev pub asked_at : Public → ℕ → Served → List Access
asked_at p g x = script (record p { next_region = g }) x.skeleton x.seen

-- accesses by the number of a region: they make that region and no other, what comes before doesn't hang on its number,
-- nor does how many they are
pub record AreSteadyAccesses (asks : ℕ → List Access) : Type 0 where
  pub before : (n g h : ℕ) → makes (take n (asks g)) ≡ 0 → take n (asks g) ≡ take n (asks h)
  pub makes_own : (n g q blocks len : ℕ) → slice_get (asks g) n ≡ Some (Make q blocks len) → q ≡ g
  pub long : (g h : ℕ) → length (asks g) ≡ length (asks h)

-- so are those of a statement
abbrev pub IsSteady : Public → Served → Type 0
IsSteady p x = AreSteadyAccesses (λ g. asked_at p g x)

-- a statement has asked the first of its accesses, in order, and all of them where it has ended
pub record IsAhead (p : Public) (next i : ℕ) (f : Flying) (log : List (ℕ × Access)) : Type 0 where
  pub steady : IsSteady p f.served
  pub asked : own i log ≡ take f.asked (asked_at p (unwrap_or f.region next) f.served)
  pub unmade : f.region ≡ None → makes (own i log) ≡ 0
  pub within : f.asked ≤ length (asked_at p next f.served)
  pub all : f.ended ≡ true → f.asked ≡ length (asked_at p next f.served)

-- so has each
pub record InOrder (p : Public) (s : Flight) : Type 0 where
  pub same : s.public ≡ record p { next_region = s.public.next_region }
  pub each : (i : ℕ) (f : Flying) → slice_get s.flying i ≡ Some f → IsAhead p s.public.next_region i f s.log

-- after what was asked more was
pub record LogGrows (old new : Flight) : Type 0 where
  pub rest : List (ℕ × Access)
  pub log : new.log ≡ old.log ++ rest

-- ---- a whole flight
abbrev pub boarding : Public → List Served → Flight
boarding p flown = record { public = flight_public (length flown) p; flying = map boarded flown; log = [] }

-- what each asks doesn't hang on its region's number until that is made
abbrev pub AreSteady : Public → List Served → Type 0
AreSteady p flown = (i : ℕ) (x : Served) → slice_get flown i ≡ Some x → IsSteady (flight_public (length flown) p) x

-- a turn for each access, and one for each end
unfoldable pub turns_for : Public → List Served → ℕ
turns_for p [] = 0
turns_for p (x ∷ xs) = (length (script p x.skeleton x.seen) + 1) + turns_for p xs

abbrev pub turns_of : Public → List Served → ℕ
turns_of p flown = turns_for (flight_public (length flown) p) flown

abbrev pub flight : Public → List Served → (words : ℕ → ℕ) → Flight
flight p flown words = turns words (turns_of p flown) (boarding p flown)

-- how many of the first k accesses of a flight are those of the statement at a place
abbrev pub own_asked : Public → List Served → (words : ℕ → ℕ) → (k i : ℕ) → ℕ
own_asked p flown words k i = length (own i (take k (flight p flown words).log))

abbrev pub accesses_in : List (ℕ × Access) → List Access
accesses_in log = map (λ (e : ℕ × Access). e.1) log

-- the accesses of these statements, of which these things are seen, in the turns that the words tell
abbrev pub merge : Public → List Served → (words : ℕ → ℕ) → List Access
merge p flown words = accesses_in (flight p flown words).log

-- ---- traces with flights
-- one statement, or several in flight; after a stop in it, of which so many accesses were asked
pub data Entry : Type 0 where
  Alone : (x : Served) → Entry
  Together : (flown : List Served) (stopped : Option ℕ) → Entry

-- what is public after a flight: nothing except the next region has changed
abbrev pub next_flight : Public → List Served → (words : ℕ → ℕ) → Public
next_flight p flown words = record p { next_region = (flight p flown words).public.next_region }

-- the words that are left after t of them
abbrev pub words_from : (words : ℕ → ℕ) → (t : ℕ) → ℕ → ℕ
words_from words t i = words (t + i)

abbrev pub until_stop : Option ℕ → List Access → List Access
until_stop None all = all
until_stop (Some n) all = take n all

abbrev pub flight_accesses : Public → List Served → (stopped : Option ℕ) → (words : ℕ → ℕ) → List Access
flight_accesses p flown stopped words = until_stop stopped (merge p flown words)

-- the accesses of all entries; the words go on from flight to flight
unfoldable pub trace_in : (words : ℕ → ℕ) → (t : ℕ) → Public → List Entry → List Access
trace_in words t p [] = []
trace_in words t p (Alone x ∷ xs) = script p x.skeleton x.seen ++ trace_in words t (next p x.skeleton x.seen) xs
trace_in words t p (Together flown stopped ∷ xs) =
    flight_accesses p flown stopped (words_from words t)
    ++ trace_in words (t + turns_of p flown) (next_flight p flown (words_from words t)) xs

-- the statements of all entries, in order
abbrev pub served_in : Entry → List Served
served_in (Alone x) = x ∷ []
served_in (Together flown stopped) = flown

-- without flights
abbrev pub all_alone : List Served → List Entry
all_alone xs = map Alone xs

-- ---- the words of the program
abbrev pub next_draw : ℕ → ℕ
next_draw x = (x * 6364136223846793005 + 1442695040888963407) % 18446744073709551616

unfoldable pub draw : (start : ℕ) → (t : ℕ) → ℕ
draw start zero = start
draw start (suc t) = next_draw (draw start t)

-- the word of a turn, counted from 0, that is the draw after it without its low bits
abbrev pub drawn : (start : ℕ) → (t : ℕ) → ℕ
drawn start t = draw start (t + 1) / 8589934592
