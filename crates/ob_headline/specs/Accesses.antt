-- The accesses, over every store: those that what is seen of the statements tells.
use Rattle.std.specs.Prelude.{⊤, ℕ, ◌+◌, if◌then◌else◌, is_some, ◌≡◌, ◌⊎◌, ◌↔◌, ◌||◌, Bool, true, false, List, [], ◌∷◌, ◌++◌, length, IsTrue, Option, Some, None, Ok, Err, take, drop}
use Rattle.ob_base.specs.Events.{Event}
use Rattle.ob_base.specs.Stored.{headings_of}
use Rattle.ob_base.specs.declared.access.Access.{Access}
use Rattle.ob_base.specs.declared.config.Public.{Public}
use Rattle.ob_base.specs.declared.refusal.Refusal.{Refusal}
use Rattle.ob_base.specs.declared.refusal.Refusal.TheVariants.{StoreFault}
use Rattle.ob_base.specs.declared.refusal.Stop.TheVariants.{SinkFault, NoMemory, StashFull, StoreFault as StoreFails, KeeperFault}
use Rattle.ob_base.specs.declared.seen.Seen.{Seen}
use Rattle.ob_base.specs.declared.skeleton.Skeleton.{Skeleton}
use Rattle.ob_select.specs.Memory.{AtMake, AtResult, AtEmission, ends_with_make, starts_with_make}
use Rattle.ob_verdict.specs.Outcomes.{refusal_now, Emits, MayEmit}
use Rattle.ob_verdict.specs.declared.outcome.Outcome.TheVariants.{Refused}
use Rattle.ob_headline.specs.Closing.{closing_line}
use Rattle.ob_headline.specs.declared.ending.Ending.{Ending}
use Rattle.ob_headline.specs.declared.ending.Ending.TheVariants.{Ran}
use Rattle.ob_mean.specs.Batches.{Gathering, gathering_after, is_cut}
use Rattle.ob_mean.specs.Flats.{AreFlat}
use Rattle.ob_mean.specs.Lawful.{Lawful}
use Rattle.ob_mean.specs.Prints.{labels_of}
use Rattle.ob_mean.specs.Replay.{Spelt, is_access}
use Rattle.ob_print.specs.Rows.{events_text}
use Rattle.ob_script.specs.Script.{is_saved, script, whole_script}
use Rattle.ob_script.specs.Trace.{Served}
use Rattle.ob_seal.specs.Draws.{draw_of}
use Rattle.ob_seal.specs.KeySet.{KeySet}
use Rattle.ob_sql.specs.Skeleton.{skeleton}
use Rattle.ob_sql.specs.declared.stmt.Stmt.{Stmt}
use Rattle.ob_headline.specs.Words.{Answer, refused_as, refused_at}
use Rattle.ob_headline.specs.Bases.{Base}
use Rattle.ob_headline.specs.Batches.{Joins, is_failed}
use Rattle.ob_headline.specs.Failures.{FailsBeside, RisesBy, cut_off, failures}
use Rattle.ob_headline.specs.Flights.{EndedBy, Entered, OnBy, Position, LeftAt, positions_of, trace_of}
use Rattle.ob_headline.specs.FullStash.{ReadsFullStash}
use Rattle.ob_headline.specs.Leaves.{ReadsDraws}
use Rattle.ob_headline.specs.Statements.{statements}
use Rattle.ob_headline.specs.Story.{Story}
use Rattle.ob_store.specs.State.{StoreState}
use Rattle.ob_mean.specs.Standing.{StandsAs}

unfoldable pub any_cut : List Served → Bool
any_cut [] = false
any_cut (x ∷ seen) = is_cut x.seen.end || any_cut seen

-- an answer has the form of its outcome: its header and rows, and its line
pub record HasForm (p : Public) (stmt : Stmt) (answer : Answer) : Type 0 where
  pub events : List Event
  pub emits : Emits stmt (labels_of stmt (headings_of p.tables)) answer.outcome events
  pub bytes : answer.bytes ≡ events_text events ++ closing_line answer.outcome

-- it is the refusal that comes before any access, if there is one
abbrev pub Says : Option Refusal → Public → Stmt → Answer → Type 0
Says None p stmt answer = HasForm p stmt answer
Says (Some r) p stmt answer = answer ≡ refused_as r

-- just before the closing is made that lists the tables after it, where they are saved
abbrev pub AtClosing : Public → Stmt → (rest : List Access) → Type 0
AtClosing p stmt rest =
    (is_saved p (skeleton stmt) ≡ true) × IsTrue (starts_with_make rest)

-- a stop for want of memory comes before the first access, where a region is made, where rows are emitted, of a SELECT of
-- rows that isn't padded, just before its result is made, or, where tables are saved, just before their closing is
pub record WantsMemory (p : Public) (stmt : Stmt) (seen : Seen) : Type 0 where
  pub rest : List Access
  pub split : script p (skeleton stmt) seen ++ rest ≡ whole_script p (skeleton stmt) seen
  pub place : AtMake (script p (skeleton stmt) seen) ⊎ AtResult p stmt seen rest
      ⊎ AtEmission p stmt seen rest ⊎ AtClosing p stmt rest

-- a stop by a sink's fault cuts a statement off only where it may emit rows, unless the store had failed in it
abbrev pub MeetsSink : (Failed : Type 0) → Stmt → Seen → Type 0
MeetsSink Failed stmt seen = IsTrue (is_cut seen.end) → MayEmit stmt ⊎ Failed

-- how a run ends within a statement alone: in an access of an index the store failed, or it left more rows than the stash
-- has slots; or, while tables were saved, the store failed, or the keeper
abbrev pub ends_within : Ending → Bool
ends_within (Ran (Err StoreFails)) = true
ends_within (Ran (Err StashFull)) = true
ends_within (Ran (Err KeeperFault)) = true
ends_within _ = false

-- so it ends within such a statement
abbrev pub may_end : Ending → Public → Skeleton → Bool
may_end (Ran (Err StoreFails)) p s = is_access p s || is_saved p s
may_end (Ran (Err StashFull)) p s = is_access p s
may_end (Ran (Err KeeperFault)) p s = is_saved p s
may_end _ p s = true

-- where a run that ended so left the statement that was begun
abbrev pub StopsWithin : Ending → (Failed : Type 0) → (Full : Public → Stmt → Seen → Type 0)
    → Public → Stmt → Seen → Type 0
StopsWithin ending Failed Full p stmt seen =
    (ending ≡ Ran (Err NoMemory) → WantsMemory p stmt seen)
    × (ending ≡ Ran (Err SinkFault) → MeetsSink Failed stmt seen)
    × (ends_within ending ≡ true → may_end ending p (skeleton stmt) ≡ true)
    × (ending ≡ Ran (Err StashFull) → Full p stmt seen)

-- ---- a flight that was left
-- memory was wanting for it, in its turn, just before its result is made, if it isn't padded
abbrev pub MakesInFlight : Option LeftAt → Public → Stmt → Seen → Type 0
MakesInFlight None p stmt seen = ⊥
MakesInFlight (Some stand) p stmt seen =
    IsTrue stand.turn
    × AtResult p stmt seen (drop stand.own (whole_script p (skeleton stmt) seen))

-- for one of these
unfoldable pub OneMakes : List Position → List Stmt → List Served → Type 0
OneMakes [] stmts seen = ⊥
OneMakes (v ∷ positions) [] seen = ⊥
OneMakes (v ∷ positions) (stmt ∷ stmts) [] = ⊥
OneMakes (v ∷ positions) (stmt ∷ stmts) (x ∷ seen) =
    MakesInFlight v.left v.public stmt x.seen ⊎ OneMakes positions stmts seen

-- it has the turn: the last access of all is its own, or the next one would have been
abbrev pub HasTurn : LeftAt → Type 0
HasTurn stand = (stand.before + 1 ≡ stand.own) ⊎ IsTrue stand.turn

-- memory was wanting for it, in its turn, where its rows are emitted, or in its end, which would have come next
abbrev pub WantsInFlight : Option LeftAt → Position → Stmt → Seen → Type 0
WantsInFlight None v stmt seen = ⊥
WantsInFlight (Some stand) v stmt seen =
    (HasTurn stand × AtEmission v.public stmt seen
    (drop stand.own (whole_script v.public (skeleton stmt) seen)))
    ⊎ ((v.until ≡ v.asked + stand.all)
    × (drop stand.own (script v.public (skeleton stmt) seen) ≡ []))

-- for the first of these that hadn't ended
unfoldable pub FirstWants : List Position → List Stmt → List Served → Type 0
FirstWants [] stmts seen = ⊥
FirstWants (v ∷ positions) [] seen = ⊥
FirstWants (v ∷ positions) (stmt ∷ stmts) [] = ⊥
FirstWants (v ∷ positions) (stmt ∷ stmts) (x ∷ seen) =
    (OnBy v.left v × WantsInFlight v.left v stmt x.seen)
    ⊎ (EndedBy v.left v × FirstWants positions stmts seen)

-- a run doesn't end within one statement of a flight; memory is wanting before its first access, where a region is made, or,
-- of those that weren't answered, for one before its result, or for the first that hadn't ended
abbrev pub LeavesFlight : Option LeftAt → Ending → (asked : List Access) → (Wants : Type 0) → Type 0
LeavesFlight None ending asked Wants = ⊤
LeavesFlight (Some stand) ending asked Wants =
    (ends_within ending ≡ false) × (ending ≡ Ran (Err NoMemory)
    → (stand.all ≡ 0) ⊎ (IsTrue (ends_with_make asked) ⊎ Wants))

-- so the flight was left, if there was one, in which these were begun
abbrev pub LeavesInFlight : Ending → (asked : List Access) → List Position → List Stmt → List Served
    → Type 0
LeavesInFlight ending asked [] stmts seen = ⊤
LeavesInFlight ending asked (v ∷ positions) stmts seen =
    LeavesFlight v.left ending asked
    (OneMakes (v ∷ positions) stmts seen ⊎ FirstWants (v ∷ positions) stmts seen)

-- of those begun so many were cut off where they flew; how one alone was left is seen so, too
abbrev pub cut_in_flight : List Position → List Served → ℕ
cut_in_flight [] last = 0
cut_in_flight (v ∷ positions) last = if is_some v.left then cut_off last else 0

-- ---- all statements
-- one that was begun was left by its flight, in which it had ended, or hadn't, or alone
abbrev pub IsLeft : (Leaves : Public → Stmt → Seen → Type 0) → Option LeftAt → Position
    → Option Gathering → Stmt → Seen → Type 0
IsLeft Leaves None v g stmt seen =
    Lawful v.public v.asked stmt seen
    × (Leaves v.public stmt seen × Joins v.public v.asked g stmt seen)
IsLeft Leaves (Some stand) v g stmt seen =
    (EndedBy (Some stand) v × Lawful v.public v.asked stmt seen)
    ⊎ (OnBy (Some stand) v × StandsAs v.public v.asked stand.own stmt seen seen.end)

-- of each statement its skeleton and what is seen of it, which is lawful by what is public before it and how many accesses
-- were asked, and says that it was served with an INSERT before it exactly where it joins the batch that is gathered; its
-- answer is its early refusal, if there is one, says that the store failed exactly where it was cut off, or the batch was
-- that it joined, and has the plan that is seen. One that was begun has no answer, and was left so.
unfoldable pub AreSeen : (Leaves : Public → Stmt → Seen → Type 0) → List Position
    → Option Gathering → List Spelt → List Answer → List Served → Type 0
AreSeen Leaves positions g [] answers seen = seen ≡ []
AreSeen Leaves positions g (Err at ∷ spelt) [] seen = AreSeen Leaves positions None spelt [] seen
AreSeen Leaves positions g (Err at ∷ spelt) (one ∷ answers) seen =
    (one ≡ refused_at at) × AreSeen Leaves positions None spelt answers seen
AreSeen Leaves positions g (Ok stmt ∷ spelt) answers [] = ⊥
AreSeen Leaves [] g (Ok stmt ∷ spelt) answers (x ∷ seen) = ⊥
AreSeen Leaves (v ∷ positions) g (Ok stmt ∷ spelt) [] (x ∷ seen) =
    (x.skeleton ≡ skeleton stmt) × IsLeft Leaves v.left v g stmt x.seen
    × AreSeen Leaves positions (gathering_after v.public v.asked g stmt x.seen.end) spelt [] seen
AreSeen Leaves (v ∷ positions) g (Ok stmt ∷ spelt) (one ∷ answers) (x ∷ seen) =
    (x.skeleton ≡ skeleton stmt) × Lawful v.public v.asked stmt x.seen
    × (Says (refusal_now v.public v.asked stmt) v.public stmt one
    × (IsTrue (is_failed g x.seen.end) ↔ (one.outcome ≡ Refused StoreFault))
    × (one.plan ≡ x.seen.plan) × Joins v.public v.asked g stmt x.seen)
    × AreSeen Leaves positions (gathering_after v.public v.asked g stmt x.seen.end) spelt answers seen

-- They are those that the statements go on from, if there are any, and the trace of the skeletons and of what is seen of
-- each: of those that were answered, and of the one begun, if it is a statement, as one is where a run ends in an access of
-- an index, for a full stash only where that read too many rows, or while tables are saved. Those of a flight are merged, up
-- to where it was left. No table that they go on from is an index.
-- The leaves of indexes that are read are those of draws of the keys, none of which is read twice. Calls that discard a region
-- are counted apart, and change no answer. One failed call may cut off a batch, each text of which is answered so.
pub record Accesses (base : Base) (keys : KeySet) (ending : Ending) (story : Story)
    (old new : StoreState) : Type 0 where
  pub flat : AreFlat (headings_of base.public.tables)
  pub entered : Entered base story
  pub begun : ends_within ending ≡ true → length story.last ≡ 1
  pub each_seen : length story.seen
      ≡ length (statements (take (length story.served) story.spelt))
  pub lawful : AreSeen (StopsWithin ending (FailsBeside story.seen old.faults new.faults)
      (ReadsFullStash keys base.start new))
      (positions_of base story.entries) None story.spelt story.answers (story.seen ++ story.last)
  pub aloft : LeavesInFlight ending new.asked
      (drop (length story.seen) (positions_of base story.entries))
      (statements (drop (length story.served) story.spelt)) story.last
  pub drawn : ReadsDraws (draw_of keys) (positions_of base story.entries) (story.seen ++ story.last)
  pub asked : new.asked ≡ base.before ++ trace_of base story.entries
  pub failed : base.public.batch ≡ None → RisesBy (failures story.answers) old.faults new.faults
  pub cut : RisesBy (cut_off story.seen
      + cut_in_flight (drop (length story.seen) (positions_of base story.entries)) story.last)
      old.faults new.faults
  pub unfailed : any_cut (story.seen ++ story.last) ≡ false → new.faults ≡ old.faults
