-- What holds of a run before others disturb its store.
use Rattle.std.specs.Prelude.{⊤, false, ◌≡◌, ◌≤◌, ◌+◌, ℕ, nat_lt, if◌then◌else◌, List, [], ◌∷◌, ◌++◌, length, map, take, Option, None, Ok, Err}
use Rattle.ob_base.specs.declared.access.Access.{Access}
use Rattle.ob_headline.specs.Bases.{Base, drawing, public_with, start}
use Rattle.ob_headline.specs.Batches.{after_now, gathered_now}
use Rattle.ob_headline.specs.Flights.{Position, at_position, may_fly, most_of, positions_of, words_of}
use Rattle.ob_headline.specs.Story.{Story}
use Rattle.ob_headline.specs.Words.{Answer, Begins, refused_at}
use Rattle.ob_headline.specs.Meaning.{AnswersMeant}
use Rattle.ob_mean.specs.Batches.{Gathering}
use Rattle.ob_mean.specs.Replay.{Session, Spelt, after, how_now, is_full_now, seen_or_cut, served, served_full}
use Rattle.ob_mean.specs.Replay as Hows
use Rattle.ob_script.specs.Flights.{Alone, Entry, Together, flight_public, merge, next_flight, trace_in, turns_of, words_from}
use Rattle.ob_script.specs.Trace.{Served}
use Rattle.ob_seal.specs.KeySet.{KeySet}
use Rattle.ob_sql.specs.Skeleton.{skeleton}
use Rattle.ob_sql.specs.declared.stmt.Stmt.{Stmt}

-- ---- how texts are served where no call fails
-- one that flies is answered, and seen, from this session
abbrev pub aloft : (n : ℕ) → Session → Session
aloft n s = record s { public = flight_public n s.public }

abbrev pub flown_meant : Session → List Stmt → List Served
flown_meant s stmts =
    map (λ (stmt : Stmt). served Hows.Alone (aloft (length stmts) s) stmt) stmts

-- statements that were gathered to fly are served so: one of them alone
abbrev pub meant_together : Session → List Stmt → List Entry
meant_together s [] = []
meant_together s (stmt ∷ []) = Alone (served Hows.Alone s stmt) ∷ []
meant_together s (stmt ∷ next ∷ more) =
    Together (flown_meant s (stmt ∷ next ∷ more)) None ∷ []

-- the session after them, and the words drawn by then
abbrev pub behind_flown : (words : ℕ → ℕ) → Session → List Served → Session
behind_flown words s flown = record s {
  public = next_flight s.public flown words;
  asked = s.asked + length (merge s.public flown words);
}

abbrev pub behind_together : (words : ℕ → ℕ) → Session → List Stmt → Session
behind_together words s [] = s
behind_together words s (stmt ∷ []) = after Hows.Alone s stmt
behind_together words s (stmt ∷ next ∷ more) =
    behind_flown words s (flown_meant s (stmt ∷ next ∷ more))

abbrev pub turns_then : (t : ℕ) → Session → List Stmt → ℕ
turns_then t s [] = t
turns_then t s (stmt ∷ []) = t
turns_then t s (stmt ∷ next ∷ more) = t + turns_of s.public (flown_meant s (stmt ∷ next ∷ more))

-- how many turns were drawn, the session of the model, the INSERTs that are gathered, and the statements that are gathered to
-- fly
pub record Course : Type 0 where
  pub turns : ℕ
  pub session : Session
  pub batch : Option Gathering
  pub waiting : List Stmt

abbrev pub first_course : Session → Course
first_course s = record { turns = 0; session = s; batch = None; waiting = [] }

-- once they have flown
abbrev pub landed : (words : ℕ → ℕ) → Course → Course
landed words c = record {
  turns = turns_then c.turns c.session c.waiting;
  session = behind_together (words_from words c.turns) c.session c.waiting;
  batch = c.batch;
  waiting = [];
}

-- one more is gathered
abbrev pub gathering : Stmt → Course → Course
gathering stmt c = record c { batch = None; waiting = c.waiting ++ stmt ∷ [] }

-- one that may fly: those that were gathered fly with it once they are enough
abbrev pub entries_with : (most : ℕ) → Course → Stmt → List Entry
entries_with most c stmt =
    if nat_lt (length c.waiting + 1) most then []
    else meant_together c.session (c.waiting ++ stmt ∷ [])

abbrev pub course_with : (most : ℕ) → (words : ℕ → ℕ) → Course → Stmt → Course
course_with most words c stmt =
    if nat_lt (length c.waiting + 1) most then gathering stmt c
    else landed words (gathering stmt c)

-- any other, after those that were gathered
abbrev pub now_alone : Course → Stmt → Served
now_alone c stmt = served (how_now c.batch c.session stmt) c.session stmt

abbrev pub course_alone : Course → Stmt → Course
course_alone c stmt = record c {
  session = after_now c.batch c.session stmt;
  batch = gathered_now c.batch c.session stmt;
}

abbrev pub entries_now : (most : ℕ) → (words : ℕ → ℕ) → Course → Stmt → List Entry
entries_now most words c stmt =
    if may_fly c.session.public (skeleton stmt) then entries_with most c stmt
    else meant_together c.session c.waiting ++ Alone (now_alone (landed words c) stmt) ∷ []

abbrev pub course_now : (most : ℕ) → (words : ℕ → ℕ) → Course → Stmt → Course
course_now most words c stmt =
    if may_fly c.session.public (skeleton stmt) then course_with most words c stmt
    else course_alone (landed words c) stmt

-- the first that meets a full stash is the last
unfoldable pub meant_entries : (most : ℕ) → (words : ℕ → ℕ) → Course → List Spelt → List Entry
meant_entries most words c [] = meant_together c.session c.waiting
meant_entries most words c (Err at ∷ spelt) =
    meant_together c.session c.waiting
    ++ meant_entries most words (record (landed words c) { batch = None }) spelt
meant_entries most words c (Ok stmt ∷ spelt) =
    if is_full_now (landed words c).session stmt
    then meant_together c.session c.waiting
    ++ Alone (served_full (landed words c).session stmt) ∷ []
    else entries_now most words c stmt
    ++ meant_entries most words (course_now most words c stmt) spelt

-- ---- until others disturb the store
-- the accesses of these statements by their meaning, from no tables, with these keys, where no call fails
abbrev pub meant_trace : Base → KeySet → List Spelt → List Access
meant_trace base keys spelt = trace_in (words_of base) 0 (public_with base.settings)
    (meant_entries (most_of base) (words_of base)
    (first_course (drawing keys (start base.settings))) spelt)

-- from a session of the model on: each of these statements that was answered within n accesses is answered as it is
-- meant, and seen so, and the store failed none
unfoldable pub MeantUntil : (n : ℕ) → Option Gathering → List Position → Session → List Spelt
    → List Answer → List Served → Type 0
MeantUntil n g positions s [] answers seen = ⊤
MeantUntil n g positions s (x ∷ spelt) [] seen = ⊤
MeantUntil n g positions s (Err at ∷ spelt) (one ∷ answers) seen =
    (one ≡ refused_at at) × MeantUntil n None positions s spelt answers seen
MeantUntil n g positions s (Ok stmt ∷ spelt) (one ∷ answers) [] = ⊥
MeantUntil n g [] s (Ok stmt ∷ spelt) (one ∷ answers) (x ∷ seen) = ⊥
MeantUntil n g (v ∷ positions) s (Ok stmt ∷ spelt) (one ∷ answers) (x ∷ seen) =
    v.until ≤ n → (is_full_now (at_position v s) stmt ≡ false) × AnswersMeant (at_position v s) stmt one
    × (x.seen ≡ seen_or_cut (how_now g (at_position v s) stmt) (at_position v s) stmt)
    × MeantUntil n (gathered_now g (at_position v s) stmt) positions (after_now g (at_position v s) stmt)
    spelt answers seen

-- over a store that others change only after n accesses: the first n accesses are a first part of those that these
-- statements ask by their meaning, each answer that came within them is as it is meant, and where the meaning asks no
-- more, no more is asked
pub record Until (base : Base) (keys : KeySet) (n : ℕ) (story : Story) (asked : List Access)
    : Type 0 where
  pub begins : Begins (take n asked) (meant_trace base keys story.spelt)
  pub meant : MeantUntil n None (positions_of base story.entries) (drawing keys (start base.settings))
      story.spelt story.answers (story.seen ++ story.last)
  pub quiet : length (meant_trace base keys story.spelt) ≤ n → length asked ≤ n
