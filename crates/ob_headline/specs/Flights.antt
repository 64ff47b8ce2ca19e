-- SELECTs that are served in flight: how many, in whose turns, which ones are gathered for it, and by what each goes.
use Rattle.std.specs.Prelude.{◌≡◌, ◌<◌, ◌≤◌, ◌+◌, ◌-◌, ◌*◌, ◌/◌, ◌⊎◌, ◌&&◌, ◌==◌, ℕ, zero, suc, ⊤, Bool, true, false, not, nat_le, nat_lt, max, min, if◌then◌else◌, List, [], ◌∷◌, ◌++◌, length, map, take, slice_get, Option, Some, None, Ok, Err}
use Rattle.std.specs.List.{All}
use Rattle.std.specs.Option.{option_map, option_map_or}
use Rattle.ob_base.specs.declared.access.Access.{Access}
use Rattle.ob_base.specs.declared.config.Public.{Public}
use Rattle.ob_base.specs.declared.skeleton.Skeleton.{Skeleton}
use Rattle.ob_base.specs.declared.skeleton.Skeleton.TheVariants.{Rows, Groups}
use Rattle.ob_base.specs.declared.skeleton.Source.TheVariants.{Table as OneTable}
use Rattle.ob_headline.specs.Bases.{Base}
use Rattle.ob_headline.specs.Statements.{SpellFirst}
use Rattle.ob_headline.specs.Story.{Story}
use Rattle.ob_headline.specs.declared.flight.FlightSettings.{FlightSettings}
use Rattle.ob_mean.specs.Replay.{Session, Spelt, has_index}
use Rattle.ob_script.specs.FlightLaws.{SelectsFromOne}
use Rattle.ob_script.specs.Flights.{Alone, Entry, Flight, Flying, Together, all_alone, boarding, drawn, flight, flight_accesses, flight_public, next_flight, served_in, trace_in, turns, turns_of, words_from, own_asked}
use Rattle.ob_script.specs.Script.{script}
use Rattle.ob_script.specs.Trace.{Served, next}
use Rattle.ob_sql.specs.Skeleton.{skeleton}
use Rattle.ob_sql.specs.declared.stmt.Stmt.{Stmt}

-- ---- how many, and in whose turns
-- as many fly together at most: one where none do, and else what is asked for, 8, or as many as may have three blocks and a
-- row each
abbrev pub most_in : FlightSettings → Public → ℕ
most_in f p = max 1 (min f.most (min 8 (p.buffer / (3 * p.pack + 1))))

abbrev pub most_flown : Option FlightSettings → Public → ℕ
most_flown flight p = option_map_or (λ f. most_in f p) flight 1

abbrev pub most_of : Base → ℕ
most_of base = most_flown base.flight base.public

-- each statement is served alone
abbrev pub FliesNone : Base → Type 0
FliesNone base = most_of base ≡ 1

-- the words of all turns, which go on from flight to flight
abbrev pub words_of : Base → ℕ → ℕ
words_of base = drawn (option_map_or (λ (f : FlightSettings). f.start) base.flight 0)

-- ---- which ones are gathered
-- a SELECT without a join, of a table that is no index
abbrev pub may_fly : Public → Skeleton → Bool
may_fly p (Rows (OneTable table) columns) = not (has_index p table)
may_fly p (Groups table columns key) = not (has_index p table)
may_fly p _ = false

-- how many are gathered before it, and after it
abbrev pub place_now : (most : ℕ) → Public → (gathered : ℕ) → Skeleton → ℕ
place_now most p gathered s = if may_fly p s && nat_lt gathered most then gathered else 0

abbrev pub gathered_then : Public → (place : ℕ) → Skeleton → ℕ
gathered_then p place s = if may_fly p s then place + 1 else 0

-- these texts wait to be served in flight: SELECTs that may fly, fewer than may fly together
pub record WaitToFly (p : Public) (most : ℕ) (texts : List (List ℕ)) : Type 0 where
  pub few : length texts < most
  pub stmts : List Stmt
  pub whole : length stmts ≡ length texts
  pub spell : SpellFirst texts (map Ok stmts)
  pub select : All (λ stmt. may_fly p (skeleton stmt) ≡ true) stmts

-- ---- how the statements of a run are served
unfoldable pub served_by : List Entry → List Served
served_by [] = []
served_by (e ∷ entries) = served_in e ++ served_by entries

-- the entries that have none except the first n statements
unfoldable pub whole_of : (n : ℕ) → List Entry → List Entry
whole_of n [] = []
whole_of n (e ∷ entries) =
    if nat_le (length (served_in e)) n then e ∷ whole_of (n - length (served_in e)) entries else []

-- two may fly, or more, as many as the settings let: each a SELECT without a join
pub record MayFly (most : ℕ) (flown : List Served) : Type 0 where
  pub some : 2 ≤ length flown
  pub few : length flown ≤ most
  pub select : All (λ (x : Served). SelectsFromOne x.skeleton) flown

-- a flight was left where fewer were answered than fly
abbrev pub IsEntry : (most answered : ℕ) → Entry → Type 0
IsEntry most answered (Alone x) = ⊤
IsEntry most answered (Together flown None) = MayFly most flown × (length flown ≤ answered)
IsEntry most answered (Together flown (Some asked)) =
    MayFly most flown × (answered < length flown)

-- of these statements so many were answered: all of each entry but the last
unfoldable pub AreEntries : (most answered : ℕ) → List Entry → Type 0
AreEntries most answered [] = ⊤
AreEntries most answered (e ∷ entries) =
    IsEntry most answered e × ((length (served_in e) ≤ answered) ⊎ (entries ≡ []))
    × AreEntries most (answered - length (served_in e)) entries

-- what they ask in all
abbrev pub trace_of : Base → List Entry → List Access
trace_of base entries = trace_in (words_of base) 0 base.public entries

-- what is public after them
unfoldable pub after_entries : (words : ℕ → ℕ) → (t : ℕ) → Public → List Entry → Public
after_entries words t p [] = p
after_entries words t p (Alone x ∷ entries) =
    after_entries words t (next p x.skeleton x.seen) entries
after_entries words t p (Together flown left ∷ entries) =
    after_entries words (t + turns_of p flown) (next_flight p flown (words_from words t)) entries

abbrev pub public_after : Base → List Entry → Public
public_after base entries = after_entries (words_of base) 0 base.public entries

-- and after those of which all were answered
abbrev pub public_whole : Base → Story → Public
public_whole base story = public_after base (whole_of (length story.seen) story.entries)

-- ---- by what each statement goes
-- where a flight was left: how many accesses it had asked by then, how many of these were the statement's own, and how many of
-- its own came before the last access of the flight; and whether it was its turn, as it is where the next access would have
-- been its own
pub record LeftAt : Type 0 where
  pub all : ℕ
  pub own : ℕ
  pub before : ℕ
  pub turn : Bool

-- what is public, and how many accesses were asked before it; how many were asked when it had ended; how many fly before it
-- in its flight; and where that was left, if it was
pub record Position : Type 0 where
  pub public : Public
  pub asked : ℕ
  pub until : ℕ
  pub place : ℕ
  pub left : Option LeftAt

abbrev pub position_alone : Public → (m : ℕ) → Served → Position
position_alone p m x = record {
  public = p;
  asked = m;
  until = m + length (script p x.skeleton x.seen);
  place = 0;
  left = None;
}

abbrev pub stand_at : Public → List Served → (words : ℕ → ℕ) → (i k : ℕ) → LeftAt
stand_at p flown words i k = record {
  all = k;
  own = own_asked p flown words k i;
  before = own_asked p flown words (k - 1) i;
  turn = option_map_or (λ (e : ℕ × Access). e.0 == i) (slice_get (flight p flown words).log k)
      false;
}

abbrev pub has_ended : (i : ℕ) → Flight → Bool
has_ended i s = option_map_or (λ (f : Flying). f.ended) (slice_get s.flying i) false

-- how many accesses a flight had asked in all when the statement at a place had ended, within so many turns
unfoldable pub asked_until : (words : ℕ → ℕ) → (i n : ℕ) → Flight → ℕ
asked_until words i zero s = length s.log
asked_until words i (suc n) s =
    if has_ended i (turns words n s) then asked_until words i n s
    else length (turns words (suc n) s).log

abbrev pub position_in_flight : Public → (m : ℕ) → List Served → (words : ℕ → ℕ) → (left : Option ℕ)
    → (i : ℕ) → Position
position_in_flight p m flown words left i = record {
  public = flight_public (length flown) p;
  asked = m;
  until = m + asked_until words i (turns_of p flown) (boarding p flown);
  place = i;
  left = option_map (stand_at p flown words i) left;
}

-- of as many statements of a flight, from this one on
unfoldable pub positions_in_flight : Public → (m : ℕ) → List Served → (words : ℕ → ℕ) → (left : Option ℕ)
    → (i n : ℕ) → List Position
positions_in_flight p m flown words left i zero = []
positions_in_flight p m flown words left i (suc n) =
    position_in_flight p m flown words left i ∷ positions_in_flight p m flown words left (i + 1) n

unfoldable pub positions : (words : ℕ → ℕ) → (t : ℕ) → Public → (m : ℕ) → List Entry → List Position
positions words t p m [] = []
positions words t p m (Alone x ∷ entries) =
    position_alone p m x
    ∷ positions words t (next p x.skeleton x.seen) (m + length (script p x.skeleton x.seen)) entries
positions words t p m (Together flown left ∷ entries) =
    positions_in_flight p m flown (words_from words t) left 0 (length flown)
    ++ positions words (t + turns_of p flown) (next_flight p flown (words_from words t))
    (m + length (flight_accesses p flown left (words_from words t))) entries

abbrev pub positions_of : Base → List Entry → List Position
positions_of base entries = positions (words_of base) 0 base.public base.count entries

-- each statement is served together with those right before it that may fly, as many as may, if it may itself
unfoldable pub AreGathered : (most gathered : ℕ) → List Position → List Spelt → Type 0
AreGathered most gathered positions [] = ⊤
AreGathered most gathered positions (Err at ∷ spelt) = AreGathered most 0 positions spelt
AreGathered most gathered [] (Ok stmt ∷ spelt) = ⊥
AreGathered most gathered (v ∷ positions) (Ok stmt ∷ spelt) =
    (v.place ≡ place_now most v.public gathered (skeleton stmt))
    × AreGathered most (gathered_then v.public v.place (skeleton stmt)) positions spelt

-- it had ended when its flight was left, if that was
abbrev pub EndedBy : Option LeftAt → Position → Type 0
EndedBy None v = ⊤
EndedBy (Some stand) v = v.until ≤ v.asked + stand.all

-- it hadn't ended before its flight was left, if that was
abbrev pub OnBy : Option LeftAt → Position → Type 0
OnBy None v = ⊤
OnBy (Some stand) v = v.asked + stand.all ≤ v.until

-- nor had the first of these
abbrev pub GoesOn : List Position → Type 0
GoesOn [] = ⊤
GoesOn (v ∷ positions) = OnBy v.left v

-- the entries of a story are these statements, and are served so; those that were answered had ended
pub record Entered (base : Base) (story : Story) : Type 0 where
  pub served : served_by story.entries ≡ story.seen ++ story.last
  pub entries : AreEntries (most_of base) (length story.seen) story.entries
  pub gathered : AreGathered (most_of base) 0 (positions_of base story.entries) story.spelt
  pub ended : All (λ v. EndedBy v.left v)
      (take (length story.seen) (positions_of base story.entries))

-- the session of the model from which a statement is answered: these tables and these draws, by what its position says
abbrev pub at_position : Position → Session → Session
at_position v s = record s { public = v.public; asked = v.asked }

-- by what statements go that are served from there, each alone
abbrev pub positions_alone : Session → List Served → List Position
positions_alone s seen = positions (drawn 0) 0 s.public s.asked (all_alone seen)

-- so before the next statement, if there is one
abbrev pub at_next : List Position → Session → Session
at_next [] s = s
at_next (v ∷ positions) s = at_position v s
