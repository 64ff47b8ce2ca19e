-- A session that goes on from a base, and the closing after it.
use Rattle.ob_shell.proofs.Words.{Access, Agrees, All, Answer, AnsweredExcept, ap, append-nil, append_assoc, Appends-nil, AreByRegion, arith, asked_of, Base, batch_most, before_read, Begins, Bool, cases_lt, CloseErr, Closing, Config, cut_off, Draws, drop, earlier, empty_tally, Ending, EndsBy, EndsUntampered, Engine, engine_keys, engine_start, Err, false, Fetch, first_draws, flagged, Flights, flights_at, FromEach, has_refused, high_of, IfOk, indexes_of, inl, inr, IsAtEnd, IsHonest, IsTrue, KeeperState, KeptEnding, KeySet, LastPart, length, FalseRead, List, LosesSome, Machine, machine_of, Mark, most_flown, most_some, None, Ok, opened_from, Option, Outputs-whole, pair_of, Plain, Public, public_of, Read, refl, Represents, RestsOn, Result, RevState, Rises, RisesBy, rows_of, Position, Session, session_of, session_stop, SessionRan, Since, skeleton, Some, standing, Start, statements, Stop, StoreState, Story, subst, sym, Tables, take, Tally, Traced, true, World, world_of, ℕ, [], ◌++◌, ◌+◌, ◌<◌, ◌^◌, ◌∙◌, ◌∷◌, ◌≡◌, ◌≤◌, ◌⊎◌}
use Rattle.std.specs.Prelude.{MatchBool}
use Rattle.std.proofs.KnownBytes.{Consumes-nil}
use Rattle.ob_base.specs.declared.refusal.Stop.TheVariants.{Tampered, StoreFault, KeeperFault}
use Rattle.ob_tables.specs.Closing.{ClosesEngine, closing_script, next_closing}
use Rattle.ob_reopen.specs.Closed.{IsClosedAs, StaysInUse, is_used_up}
use Rattle.ob_reopen.specs.Resting.{AcceptsClosings, IsAtRest, by_name}
use Rattle.ob_select.specs.Selecting.{AcceptsRows}
use Rattle.ob_headline.proofs.BaseLemmas.{from_each}
use Rattle.ob_headline.proofs.PromptLemmas.{all_answered, prompt_all}
use Rattle.ob_headline.proofs.TextLemmas.{rest_of-nil, texts_of-nil}
use Rattle.ob_headline.specs.Bases.{Opened, drawing, session_at, start}
use Rattle.ob_headline.specs.Disturbed.{MeantUntil, meant_entries, meant_trace}
use Rattle.ob_headline.specs.Flights.{AreEntries, AreGathered, EndedBy, Entered, GoesOn, after_entries, most_of, public_after, public_whole, positions, positions_of, trace_of, whole_of, words_of}
use Rattle.ob_headline.specs.FullStash.{ReadsFullStash}
use Rattle.ob_headline.specs.Failures.{FailsBeside}
use Rattle.ob_headline.specs.Leaves.{AreDrawn}
use Rattle.ob_headline.specs.Keeping.{EndsWith, Writes, closing_behind, last_script, region_opened}
use Rattle.ob_headline.specs.KeptHeadline.{ClosesTables, PassesBoth}
use Rattle.ob_headline.specs.Texts.{texts_in}
use Rattle.ob_headline.specs.Words.{rows_in}
use Rattle.ob_headline.specs.Accesses.{AreSeen, LeavesInFlight, StopsWithin, cut_in_flight}
use Rattle.ob_headline.specs.Meaning.{AnswersFrom, session_after}
use Rattle.ob_headline.specs.SavedHeadline.{CountsKeeper, LeavesSaved}
use Rattle.ob_headline.specs.Sealing.{IsSealed, IsSealedAt, IsWriteTo, PassesFrom, PassesHere, PassesRows, PassesSaved, PassesWith, SealsOwn}
use Rattle.ob_headline.specs.Status.{EndsAtRead}
use Rattle.ob_headline.specs.declared.ending.Ending.TheVariants.{Ran as RanEnding}
use Rattle.ob_mean.specs.Replay.{Broken}
use Rattle.ob_script.specs.Flights.{trace_in}
use Rattle.ob_script.specs.Trace.{Served}
use Rattle.ob_seal.specs.Sealed.{sealed}
use Rattle.ob_shell.proofs.UntamperedLemmas.{MeetsChange, last_met, steps_calm}
use Rattle.ob_shell.proofs.LastingLemmas.{HasSizes, steps_sizes, last_rows, steps_sealed, last_sealed, steps_tell, none_sealed}
use Rattle.ob_shell.proofs.LeaveCounts.{session_counts, session_drawn}
use Rattle.ob_shell.proofs.LeaveSession.{session_leaves}
use Rattle.ob_shell.proofs.LaterLemmas.{steps_later, last_later}
use Rattle.ob_shell.proofs.LeafLemmas.{Reads, given_none}
use Rattle.ob_shell.proofs.OpenLemmas.{session_opens}
use Rattle.ob_shell.proofs.ReplayLemmas.{holds_free}
use Rattle.ob_shell.proofs.TookLemmas.{traces_all}
use Rattle.ob_shell.proofs.StepLemmas.{Steps-none, printed-nil}
use Rattle.ob_shell.proofs.TallyLemmas.{tally_after-nil}
use Rattle.ob_shell.proofs.TopLemmas.{nothing_over, took_none}
use Rattle.ob_shell.proofs.TraceLemmas.{traced_none}
use Rattle.ob_shell.proofs.FlightLast.{LastWalk}
use Rattle.ob_shell.proofs.EarlyFlights.{flies_early}
use Rattle.ob_shell.proofs.HowLemmas.{course_of, met_trace}
use Rattle.ob_shell.proofs.PromptMore.{prompt_more, whole_before}
use Rattle.ob_shell.proofs.RunLemmas.{run_ends}
use Rattle.ob_shell.proofs.WalkEntries.{most_at, positions_at}
use Rattle.ob_shell.proofs.WalkLast.{last_walk}
use Rattle.ob_shell.proofs.WalkLemmas.{EndsWhole, Walked}
use Rattle.ob_shell.proofs.WalkWhole.{walked}
use Rattle.ob_shell.specs.Standing.{IsUsed, StandsOn}
use Rattle.ob_shell.specs.Steps.{Holds, none_gathered}
use Rattle.ob_shell.specs.Tallies.{TallyIs, tally_of}
use Rattle.ob_shell.specs.Top.{TraceSink, Carried, RanAfter}
use Rattle.ob_store.proofs.Steps.{since_trans}
use Rattle.ob_store.specs.Runs.{Later}
use Rattle.ob_vault.specs.Numbers.{number_after}
use Rattle.ob_vault.specs.State.{VaultState}
use Rattle.ob_vault.specs.Tied.{AllSealed, EndsAt, TagFits, Scope, SealedAt, at_of, next_fault}
use Rattle.ob_base.proofs.AccessLemmas.{makes_few, writes_few}
use Rattle.ob_exec.proofs.ChangedScripts.{saved_saves}
use Rattle.ob_exec.specs.Ran.{RunsOut}

-- each block of a live region is sealed
sealed_at : (good : List ℕ → Bool) (v : VaultState) (first : ℕ) (s t : StoreState) (region place : ℕ) (block : List ℕ) (keys : KeySet) (start : Start) → v.start ≡ start → v.keys ≡ keys
    → SealedAt (λ r. good) (record { from = first; below = next_fault s }) (record { vault = v; store = t }) region place block → IsSealedAt good keys start s t region place block
sealed_at good v first s t region place block keys start from same at = record {
  number = at.number;
  written = subst (λ (x : Start). IsWriteTo x t.asked region place at.number) from at.went;
  newest = λ none. at.newest (elim (cases_lt t.faults (next_fault s)) [ inl below ↦ below | inr past ↦ absurd (none past) ]) ∙ ap (λ (x : Start). number_after x t.asked region place) from;
  clear = at.rows;
  sealed = at.is ∙ ap (λ (k : KeySet). sealed k (at_of region place at.number) at.rows) same;
  passes = at.fine;
}

-- a changed block that doesn't fit ends the run at its read
ends_there : (region place : ℕ) (w : World) (lie : FalseRead) → w.store.lie ≡ Some lie → EndsAt region place w
    → (RanEnding (Err (Tampered region place)) ≡ RanEnding (Err (Tampered lie.region lie.place))) × (w.store.asked ≡ lie.before ++ Read lie.region lie.place ∷ [])
ends_there region place w lie is ends =
    let same : ends.lie ≡ lie = cc (sym ends.told ∙ is) in (
      (λ i. RanEnding (Err (Tampered ((sym ends.at_region ∙ ap (λ (l : FalseRead). l.region) same) i) ((sym ends.at_place ∙ ap (λ (l : FalseRead). l.place) same) i)))),
      ends.asked ∙ ap (λ (l : FalseRead). l.before ++ Read l.region l.place ∷ []) same,
    )

meets : (result : Result Bool Stop) (w : World) (lie : FalseRead) → MeetsChange result w → w.store.lie ≡ Some lie → ¬ TagFits w.vault.keys w.vault.start lie
    → (RanEnding result ≡ RanEnding (Err (Tampered lie.region lie.place))) × (w.store.asked ≡ lie.before ++ Read lie.region lie.place ∷ [])
meets (Err (Tampered region place)) w lie (inl calm) is unfit = absurd (unfit (calm.calm lie is))
meets (Err (Tampered region place)) w lie (inr ends) is unfit = ends_there region place w lie is ends
meets other w lie calm is unfit = absurd (unfit (calm.calm lie is))

-- a session that ends as tampered ends with the read of that place
last_read : {R : Type 0} (state : R → RevState) (m1 m2 : Machine R) (more : List (List ℕ)) (part : List ℕ) (region place : ℕ) → LastPart state m1 m2 more part (Err (Tampered region place))
    → EndsAtRead region place m2.store.asked
last_read state m1 m2 [] part region place idle = absurd (cc idle.memory)
last_read state m1 m2 (text ∷ more) part region place (inl idle) = absurd (cc idle.memory)
last_read state m1 m2 (text ∷ more) part region place (inr (inl cut)) = record { before = cut.does.ran.cause.1.before; is = cut.does.ran.cause.1.asked }
last_read state m1 m2 (text ∷ more) part region place (inr (inr (inl done))) = absurd (cc done.fault)
last_read state m1 m2 (text ∷ more) part region place (inr (inr (inr (inl cut)))) = record { before = cut.flew.ran.cause.0.before; is = cut.flew.ran.cause.0.asked }
last_read state m1 m2 (text ∷ more) part region place (inr (inr (inr (inr done)))) = absurd (cc done.fault)

-- one that ends by the store's fault ends where a call failed, or where no number is left, and tables are to be saved
pub record RunsLow {R : Type 0} (p : Public) (m : Machine R) : Type 0 where
  pub saves : p.save ≡ true
  pub late : 2 ^ 63 ≤ asked_of m + 1

makes_before : {R : Type 0} (state : R → RevState) (m : Machine R) → RunsOut (world_of state m.engine m.store) → 2 ^ 63 ≤ asked_of m + 1
unfolding earlier
makes_before state m (inl region) = let few = makes_few m.store.asked in omega (arith, region, few)
makes_before state m (inr written) = let few = writes_few m.store.asked in omega (arith, written, few)

last_fault : {R : Type 0} (state : R → RevState) (m1 m2 : Machine R) (more : List (List ℕ)) (part : List ℕ) → LastPart state m1 m2 more part (Err StoreFault)
    → Rises m1.store.faults m2.store.faults ⊎ RunsLow (public_of m1.engine) m2
last_fault state m1 m2 [] part idle = absurd (cc idle.memory)
last_fault state m1 m2 (text ∷ more) part (inl idle) = absurd (cc idle.memory)
last_fault state m1 m2 (text ∷ more) part (inr (inl cut)) = elim cut.does.ran.cause.0 [
  | inl rose ↦ inl rose
  | inr lacks ↦ inr (record { saves = saved_saves (public_of m1.engine) (skeleton cut.stmt) lacks.saved; late = makes_before state m2 lacks.runs_out })
]
last_fault state m1 m2 (text ∷ more) part (inr (inr (inl done))) = absurd (cc done.fault)
last_fault state m1 m2 (text ∷ more) part (inr (inr (inr (inl cut)))) = absurd cut.flew.ran.cause
last_fault state m1 m2 (text ∷ more) part (inr (inr (inr (inr done)))) = absurd (cc done.fault)

-- one that ends by the keeper's fault ends where tables were to be saved
last_keeper : {R : Type 0} (state : R → RevState) (m1 m2 : Machine R) (more : List (List ℕ)) (part : List ℕ) → LastPart state m1 m2 more part (Err KeeperFault) → (public_of m1.engine).save ≡ true
last_keeper state m1 m2 [] part idle = absurd (cc idle.memory)
last_keeper state m1 m2 (text ∷ more) part (inl idle) = absurd (cc idle.memory)
last_keeper state m1 m2 (text ∷ more) part (inr (inl cut)) = saved_saves (public_of m1.engine) (skeleton cut.stmt) cut.does.ran.stops
last_keeper state m1 m2 (text ∷ more) part (inr (inr (inl done))) = absurd (cc done.fault)
last_keeper state m1 m2 (text ∷ more) part (inr (inr (inr (inl cut)))) = absurd cut.flew.ran.cause
last_keeper state m1 m2 (text ∷ more) part (inr (inr (inr (inr done)))) = absurd (cc done.fault)

-- what is said of a closing
writes_by : {R : Type 0} {state : R → RevState} {e : Engine R} {s t : StoreState} (r : Result Mark CloseErr) → ClosesEngine state r e s t → Writes (next_closing e s) (closing_script e s) r s t
writes_by {e = e} {s = s} {t = t} (Ok mark) closes = go (is_used_up (next_closing e s)) refl where
  go : (b : Bool) → is_used_up (next_closing e s) ≡ b → MatchBool b (StaysInUse mark s t) (IsClosedAs (next_closing e s) (closing_script e s) mark s t)
  go true is = closes.full is
  go false is = closes.ok is
writes_by {e = e} {s = s} {t = t} (Err error) closes = (go (is_used_up (next_closing e s)) refl, closes.err) where
  go : (b : Bool) → is_used_up (next_closing e s) ≡ b → is_used_up (next_closing e s) ≡ false
  go true is = absurd (closes.gives_up is)
  go false is = is

none_lies : (o : Option FalseRead) (s t : StoreState) → s.lie ≡ o → Later s t → t.lie ≡ None → s.lie ≡ None
none_lies None s t is later none = is
none_lies (Some lie) s t is later none = absurd (cc (later.lie lie is, none))

passes_from : (base : Base) (good : List ℕ → Bool) → PassesBoth base.public.pack good → PassesFrom base good
passes_from base good both = (go base.opened, λ saves. both.1) where
  go : (o : Option Opened) → PassesWith o base.public.pack good
  go None = both.0
  go (Some o) = both

-- a session over an engine that stands on a base
module _ {R : Type 0} {state : R → RevState} {Lost : Type 0} (base : Base) (config : Config) (keys : KeySet) (key : List ℕ) (first last : Engine R) (high : ℕ) (told : Result Tally Stop) (k0 k1 : KeeperState) (left : Flights) (s0 s1 : StoreState)
    (on : StandsOn state base config keys first s0) (most : high ≤ rows_of last) (opened : high ≡ high_of last)
    (tr : TraceSink) (f0 f1 : Fetch) (l0 l1 : Option (List ℕ)) (gave : ℕ) (w0 w1 : Option (List ℕ)) (ran : SessionRan state tr.on f0 f1 l0 l1 gave w0 w1 tr.old tr.new (machine_of first s0 k0 (flights_at base.flight)) (machine_of last s1 k1 left) Lost told) where
  abbrev result : Result Bool Stop
  result = flagged told

  abbrev m0 : Machine R
  m0 = machine_of first s0 k0 (flights_at base.flight)

  abbrev m2 : Machine R
  m2 = standing (machine_of last s1 k1 left) ran.owed ran.gathered

  -- what of a flight was answered that a stop left
  pub final : LastWalk state (RanEnding result) ran.middle m2 ran.more ran.part w0 w1 Lost ran.answers
  final = last_walk state ran.middle m2 ran.more ran.part w0 w1 Lost ran.answers ran.cut ran.whole result ran.follow ran.last

  pub walk : Walked state (LosesSome Lost (RanEnding result)) (RanEnding result) m0 ran.middle m2 (ran.served ++ final.held) final.rest (ran.answers ++ final.kept) final.left
  walk = walked state (flies_early state) (RanEnding result) ran.middle m2 final.held final.rest final.kept final.left final.walk m0 ran.served ran.answers ran.steps

  -- by what the statements go
  positions_are : positions_at m0 walk.entries ≡ positions_of base walk.entries
  positions_are = λ i. positions (words_of base) 0 (on.public i) (on.count i) walk.entries

  most_is : most_at m0 ≡ most_of base
  most_is = λ i. most_flown base.flight (on.public i)

  -- the store failed once more than statements were cut off
  abbrev Failed : Type 0
  Failed = FailsBeside walk.seen s0.faults s1.faults

  -- the tables that it begins with
  holds : (d : Draws) (tables : Tables) → Represents state first s0 tables → Holds state m0 d tables
  holds d tables held = holds_free state m0 d tables refl held

  abbrev all : List Served
  all = walk.seen ++ walk.last

  keys_are : last.vault.keys ≡ keys
  keys_are = walk.keys ∙ on.keyed

  start_is : engine_start last ≡ base.start
  start_is = walk.start ∙ on.start

  fits_here : (lie : FalseRead) → TagFits last.vault.keys (engine_start last) lie → TagFits keys base.start lie
  fits_here lie fits = subst (λ (k : KeySet). TagFits k base.start lie) keys_are (subst (λ (x : Start). TagFits last.vault.keys x lie) start_is fits)

  met : MeetsChange result (world_of state last s1)
  met = last_met state ran.middle m2 ran.more ran.part result ran.last (steps_calm state m0 ran.middle ran.served ran.answers ran.steps on.calm)

  sizes : HasSizes config m0
  sizes = record {
    pack = ap (λ (p : Public). p.pack) on.public ∙ on.pack;
    buffer = ap (λ (p : Public). p.buffer) on.public ∙ on.buffer;
    rows = on.rows;
    save = ap (λ (p : Public). p.save) on.public ∙ on.save;
  }

  middle_sizes : HasSizes config ran.middle
  middle_sizes = steps_sizes state config m0 ran.middle ran.served ran.answers ran.steps sizes

  tells_on : IsTrue s0.tells → IsTrue ran.middle.store.tells
  tells_on tells = steps_tell state m0 ran.middle ran.served ran.answers ran.steps tells

  abbrev AreSealed : Session → Type 0
  AreSealed x = (good : List ℕ → Bool) → PassesFrom base good → (scope : Scope) → scope.below ≤ next_fault s0 → AllSealed (λ r. good) scope (world_of state first s0)

  -- whether tables are saved stays
  save_is : (public_of ran.middle.engine).save ≡ base.public.save
  save_is = walk.save ∙ ap (λ (p : Public). p.save) on.public

  -- blocks of these regions, until a call fails
  abbrev from_on : ℕ → Scope
  from_on region = record { from = region; below = next_fault s0 }

  -- none of them is live yet, if they are those that this run makes
  own_sealed : (good : List ℕ → Bool) → AllSealed (λ r. good) (from_on (base.start.region + 1)) (world_of state first s0)
  own_sealed good = none_sealed state (λ r. good) (from_on (base.start.region + 1)) first s0 (λ q above. on.earlier q (omega (arith, above)))

  accepts_here : (good : List ℕ → Bool) → PassesRows good base.public.pack → AcceptsRows (λ r. good) config.pack
  accepts_here good passes = subst (λ (k : ℕ). AcceptsRows (λ r. good) k) on.pack passes.0

  -- where closings are written, they pass too
  closings_here : (good : List ℕ → Bool) → PassesSaved base.public.save good → config.save ≡ true → AcceptsClosings (λ r. good)
  closings_here good passes saves = passes (on.save ∙ saves)

  last_all : (good : List ℕ → Bool) (from : ℕ) → AcceptsRows (λ r. good) config.pack → AcceptsRows (λ r. good) 1 → (config.save ≡ true → AcceptsClosings (λ r. good)) → IsTrue s0.tells
      → AllSealed (λ r. good) (from_on from) (world_of state first s0) → AllSealed (λ r. good) (from_on from) (world_of state last s1)
  last_all good from accepts single closings tells sealed =
      let later = steps_later state m0 ran.middle ran.served ran.answers ran.steps in
      last_sealed state config (λ r. good) (from_on from) accepts single closings ran.middle m2 ran.more ran.part result ran.last middle_sizes (omega (arith, later.faults)) (tells_on tells)
      (steps_sealed state config (λ r. good) (from_on from) accepts single closings m0 ran.middle ran.served ran.answers ran.steps sizes (omega arith) tells sealed)

  seals_own : SealsOwn (PassesHere base) base keys s0 s1
  seals_own tells = record {
    each = λ region place block from lives held good passes.
        sealed_at good (world_of state last s1).vault (base.start.region + 1) s0 s1 region place block keys base.start start_is keys_are
        ((last_all good (base.start.region + 1) (accepts_here good passes.0) passes.0.1 (closings_here good passes.1) tells (own_sealed good)).all region place block from lives held);
  }

  all_sealed : IsTrue s0.tells → ((tables : Tables) → AreSealed (session_at base tables) → IsSealed (PassesFrom base) keys base.start 0 s0 s1)
  all_sealed tells tables sealed = record {
    each = λ region place block from lives held good passes.
        let accepts = on.passes good passes in
        sealed_at good (world_of state last s1).vault 0 s0 s1 region place block keys base.start start_is keys_are
        ((last_all good 0 accepts.0 accepts.1 (closings_here good passes.1) tells (sealed good passes (from_on 0) (omega arith))).all region place block from lives held);
  }

  -- what it draws
  abbrev d0 : Draws
  d0 = first_draws keys

  here : (tables : Tables) → session_of m0 d0 tables ≡ drawing keys (session_at base tables)
  here tables = λ i. record { public = on.public i; tables = tables; asked = on.count i; draws = d0 }

  -- the leaves that are read
  reads : Reads d0 (indexes_of first) (given_none d0 (indexes_of first) on.unindexed) (positions_at m0 walk.entries) all
  reads = walk.drawn d0 on.drawn (given_none d0 (indexes_of first) on.unindexed)

  -- what became of the texts
  abbrev pub story : Story
  story = record {
    served = ran.served ++ final.held;
    more = final.rest;
    spelt = walk.spelt;
    answers = ran.answers ++ final.kept;
    part = final.left;
    seen = walk.seen;
    last = walk.last;
    entries = walk.entries;
  }

  entered_by : Entered base story
  entered_by = record {
    served = walk.entered.served;
    entries = subst (λ (n : ℕ). AreEntries n (length walk.seen) walk.entries) most_is walk.entered.are;
    gathered = subst (λ (vs : List Position). AreGathered (most_of base) 0 vs walk.spelt) positions_are (subst (λ (n : ℕ). AreGathered n 0 (positions_at m0 walk.entries) walk.spelt) most_is walk.entered.gathers);
    ended = subst (λ (vs : List Position). All (λ (v : Position). EndedBy v.left v) (take (length walk.seen) vs)) positions_are walk.entered.ended;
  }

  -- so they are answered by their meaning
  meant_by : (tables : Tables) (broken : Broken) → AnswersFrom (RanEnding result) (positions_at m0 walk.entries) (session_of m0 d0 tables) walk.spelt broken story.answers all story.part
      → AnswersFrom (RanEnding result) (positions_of base walk.entries) (drawing keys (session_at base tables)) walk.spelt broken story.answers all story.part
  meant_by tables broken meant =
      subst (λ (vs : List Position). AnswersFrom (RanEnding result) vs (drawing keys (session_at base tables)) walk.spelt broken story.answers all story.part) positions_are
      (subst (λ (x : Session). AnswersFrom (RanEnding result) (positions_at m0 walk.entries) x walk.spelt broken story.answers all story.part) (here tables) meant)

  pub carried_by : Carried tr base keys (Some key) s0 s1 high story (RanEnding result)
  carried_by = record {
    statements = record { spells = walk.spells; reached = walk.reached; begun = walk.begun; keyed = inl refl; each = walk.each };
    accesses = record {
      flat = on.flat;
      entered = entered_by;
      begun = walk.in_access;
      each_seen = walk.each_seen;
      lawful = subst (λ (vs : List Position). AreSeen (StopsWithin (RanEnding result) Failed (ReadsFullStash keys base.start s1)) vs None walk.spelt story.answers all) positions_are
          (subst (λ (k : KeySet). AreSeen (StopsWithin (RanEnding result) Failed (ReadsFullStash k base.start s1)) (positions_at m0 walk.entries) None walk.spelt story.answers all) keys_are
          (subst (λ (x : Start). AreSeen (StopsWithin (RanEnding result) Failed (ReadsFullStash last.vault.keys x s1)) (positions_at m0 walk.entries) None walk.spelt story.answers all) start_is
          (walk.lawful (cut_off walk.seen + 1) s0.faults (λ beside. beside) d0 on.drawn (given_none d0 (indexes_of first) on.unindexed))));
      aloft = subst (λ (vs : List Position). LeavesInFlight (RanEnding result) s1.asked (drop (length walk.seen) vs) (statements (drop (length story.served) walk.spelt)) walk.last) positions_are walk.aloft;
      drawn = record { numbers = reads.numbers; are = subst (λ (vs : List Position). AreDrawn d0.draw vs all reads.numbers) positions_are reads.are; apart = reads.apart };
      asked = walk.asked ∙ (λ i. on.asked i ++ trace_in (words_of base) 0 (on.public i) walk.entries);
      failed = λ alone. walk.failed (ap (λ (p : Public). p.batch) on.public ∙ alone);
      cut = subst (λ (vs : List Position). RisesBy (cut_off walk.seen + cut_in_flight (drop (length walk.seen) vs) walk.last) s0.faults s1.faults) positions_are walk.cuts;
      unfailed = walk.unfailed;
    };
    traced_whole = ran.traced.whole (trace_of base (whole_of (length walk.seen) walk.entries)) (walk.passed ∙ ap (λ (p : Public). s0.asked ++ trace_in (words_of base) 0 p (whole_of (length walk.seen) walk.entries)) on.public);
    answers = record {
      meant = λ undeceived. from_each base (λ x. Represents state first s0 x.tables) (λ x. (broken : Broken) × AnswersFrom (RanEnding result) (positions_of base walk.entries) (drawing keys x) walk.spelt broken story.answers all story.part)
          (λ tables held.
          let from = walk.meant d0 on.drawn undeceived.tells on.calm (record { unfit = λ lie is fits. undeceived.unfit lie is (fits_here lie fits) }) tables (holds d0 tables held) in
          (from.broken, meant_by tables from.broken from.meant)) on.held;
      later = since_trans _ _ _ (steps_later state m0 ran.middle ran.served ran.answers ran.steps) (last_later state ran.middle m2 ran.more ran.part result ran.last);
      always = λ tells n before.
          let facts = on.early n before in
          let is = facts.0 in
          let from = walk.early d0 on.drawn tells is.steady [] (holds d0 [] is.nothing) refl n facts.1 (omega (arith, ap length is.unasked)) in
          let joined : s0.asked ++ met_trace (most_at m0) (words_of base) None (session_of m0 d0 []) walk.spelt ≡ meant_trace base keys walk.spelt =
          λ i. is.unasked i ++ trace_in (words_of base) 0 (is.here i).public (meant_entries (most_flown base.flight (on.public i)) (words_of base) (course_of (is.here i) None) walk.spelt) in
          record {
            meant = subst (λ (vs : List Position). MeantUntil n None vs (drawing keys (start base.settings)) walk.spelt story.answers all) positions_are (subst (λ (s : Session). MeantUntil n None (positions_at m0 walk.entries) s walk.spelt story.answers all) is.here from.meant);
            begins = subst (λ (l : List Access). Begins (take n s1.asked) l) joined from.begins;
            quiet = λ le. from.quiet (subst (λ (l : List Access). length l ≤ n) (sym joined) le);
          };
    };
    tampering = record { tampered = λ lie is unfit. meets result (world_of state last s1) lie met is (λ fits. unfit (fits_here lie fits)) };
    sealing = record {
      sealed = seals_own;
      sealed_before = λ tells. from_each base AreSealed (λ x. IsSealed (PassesFrom base) keys base.start 0 s0 s1) (all_sealed tells) (on.sealed tells);
    };
    rows = record {
      most_open = subst (λ (o : Option Config). high ≤ rows_in o) (sym on.settings)
          (subst (λ (n : ℕ). high ≤ n) (last_rows state config ran.middle m2 ran.more ran.part result ran.last middle_sizes) most);
      some_open = subst (λ (n : ℕ). IsUsed s1.asked n) (sym opened) (session_opens state m0 ran.middle m2 ran.served ran.more ran.answers ran.part result on.used ran.steps ran.last);
    };
    untampered = from_each base (λ x. Represents state first s0 x.tables) (λ x. IsHonest s0 s1 → EndsUntampered (RanEnding result))
        (λ tables held honest. walk.untampered d0 on.drawn honest.tells tables (holds d0 tables held) honest.no_lie) on.held;
    at_read = λ region place is. let stopped : result ≡ Err (Tampered region place) = cc is in
        last_read state ran.middle m2 ran.more ran.part region place (subst (λ (x : Result Bool Stop). LastPart state ran.middle m2 ran.more ran.part x) stopped ran.last);
    faulted = λ is.
        let stopped : result ≡ Err StoreFault = cc is in
        let before = (steps_later state m0 ran.middle ran.served ran.answers ran.steps).faults in
        elim (last_fault state ran.middle m2 ran.more ran.part (subst (λ (x : Result Bool Stop). LastPart state ran.middle m2 ran.more ran.part x) stopped ran.last)) [
          | inl rose ↦ inl (omega (arith, rose, before))
          | inr low ↦ inr (record { saves = sym save_is ∙ low.saves; late = subst (λ (x : Start). 2 ^ 63 ≤ earlier x + length s1.asked + 1) start_is low.late })
        ];
    saving = λ is.
        let stopped : result ≡ Err KeeperFault = cc is in
        sym save_is ∙ last_keeper state ran.middle m2 ran.more ran.part (subst (λ (x : Result Bool Stop). LastPart state ran.middle m2 ran.more ran.part x) stopped ran.last);
  }

  -- ---- the engine is closed after a session that came to its end
  last_on : (tally : Tally) → told ≡ Ok tally → m2 ≡ ran.middle
  last_on tally is = (subst (λ (r : Result Tally Stop). LastPart state ran.middle m2 ran.more ran.part (flagged r)) is ran.last).machine

  last_sizes : (tally : Tally) → told ≡ Ok tally → HasSizes config m2
  last_sizes tally is = subst (λ (m : Machine R). HasSizes config m) (sym (last_on tally is)) middle_sizes

  lasting : Since s0 s1
  lasting = since_trans _ _ _ (steps_later state m0 ran.middle ran.served ran.answers ran.steps) (last_later state ran.middle m2 ran.more ran.part result ran.last)

  ending_is : (tally : Tally) → told ≡ Ok tally → RanEnding result ≡ RanEnding (Ok (has_refused tally))
  ending_is tally is = ap (λ (r : Result Tally Stop). RanEnding (flagged r)) is

  public_is : (tally : Tally) → told ≡ Ok tally → public_of last ≡ public_after base walk.entries
  public_is tally is = walk.public (subst (λ (e : Ending). EndsWhole e) (sym (ending_is tally is)) tt) ∙ ap (λ (p : Public). after_entries (words_of base) 0 p walk.entries) on.public

  module _ (tally : Tally) (is : told ≡ Ok tally) (unsaved : base.public.save ≡ false) (from : opened_from first ≡ region_opened base.opened) (s2 : StoreState) (r : Result Mark CloseErr) (closes : ClosesEngine state r last s1 s2) where
    abbrev closing : Closing
    closing = next_closing last s1

    fits_last : (lie : FalseRead) → s2.lie ≡ Some lie → TagFits keys base.start lie
    fits_last lie told_it = fits_here lie ((closes.calm (subst (λ (x : Result Bool Stop). MeetsChange x (world_of state last s1)) (ap flagged is) met)).calm lie told_it)

    rests_last : (tables : Tables) → IsHonest s0 s2 → is_used_up closing ≡ false → (mark : Mark) → r ≡ Ok mark → Represents state first s0 tables
        → (broken : Broken) × AnswersFrom (RanEnding (Ok (has_refused tally))) (positions_of base walk.entries) (drawing keys (session_at base tables)) walk.spelt broken story.answers all story.part
        × IsAtRest keys closing s2.kept (by_name (session_after (positions_of base walk.entries) (drawing keys (session_at base tables)) walk.spelt broken).tables)
    rests_last tables honest left_over mark closed held =
        let none : s1.lie ≡ None = none_lies s1.lie s1 s2 refl closes.later honest.no_lie in
        let from_it = walk.meant d0 on.drawn honest.tells on.calm (record { unfit = λ lie it. absurd (cc (none, it)) }) tables (holds d0 tables held) in
        let whole = subst (λ (e : Ending). EndsWhole e) (sym (ending_is tally is)) tt in
        let tables_after = (session_after (positions_at m0 walk.entries) (session_of m0 d0 tables) walk.spelt from_it.broken).tables in
        let tells : IsTrue s1.tells = subst (λ (b : Bool). IsTrue b) (sym lasting.tells) honest.tells in
        let rest = subst (λ (x : Result Mark CloseErr). IfOk x (λ m. IsAtRest (engine_keys last) closing s2.kept (by_name tables_after))) closed (closes.told tells left_over tables_after (from_it.behind.whole whole)) in (
          from_it.broken,
          subst (λ (e : Ending). AnswersFrom e (positions_of base walk.entries) (drawing keys (session_at base tables)) walk.spelt from_it.broken story.answers all story.part) (ending_is tally is) (meant_by tables from_it.broken from_it.meant),
          subst (λ (k : KeySet). IsAtRest k closing s2.kept (by_name (session_after (positions_of base walk.entries) (drawing keys (session_at base tables)) walk.spelt from_it.broken).tables)) keys_are
              (subst (λ (ts : Tables). IsAtRest (engine_keys last) closing s2.kept (by_name ts)) (λ i. (session_after (positions_are i) (here tables i) walk.spelt from_it.broken).tables) rest),
        )

    sealed_last : (from : ℕ) → IsTrue s0.tells → ((good : List ℕ → Bool) → PassesBoth base.public.pack good → AllSealed (λ r. good) (from_on from) (world_of state first s0))
        → IsSealed (PassesBoth base.public.pack) keys base.start from s0 s2
    sealed_last from tells sealed = record {
      each = λ region place block above lives held good both.
          let accepts = accepts_here good both.0 in
          let pack_is : config.pack ≡ (public_of last).pack = sym (last_sizes tally is).pack in
          let accepts_last = subst (λ (k : ℕ). AcceptsRows (λ r. good) k) pack_is accepts in
          let tells_last : IsTrue s1.tells = subst (λ (b : Bool). IsTrue b) (sym lasting.tells) tells in
          sealed_at good (world_of state last s2).vault from s0 s2 region place block keys base.start start_is keys_are
          (((closes.sealed (λ r. good) accepts_last both.1).seals (from_on from) (omega (arith, lasting.faults)) tells_last
          (last_all good from accepts both.0.1 (λ saves. both.1) tells (sealed good both))).all region place block above lives held);
    }

    pub closed_behind : (tracing : Bool) (ended : KeptEnding) (t1 t2 : Option (List ℕ)) (fault1 fault2 : ℕ) (k1 k2 : KeeperState) (done : Traced tracing s1.asked s2.asked t1 t2 (Rises fault1 fault2)) → fault1 ≤ fault2
        → EndsWith r (Plain (RanEnding (Ok (has_refused tally)))) ended fault1 fault2 k1 k2
        → ClosesTables base keys tracing (has_refused tally) story s0 s1 s2 t1 t2 fault1 fault2 k1 k2 ended
    closed_behind tracing ended t1 t2 fault1 fault2 k1 k2 done later ends = record {
      closing = closing;
      is = λ i. closing_behind (public_is tally is i) (start_is i) s1.asked;
      closes = record {
        result = r;
        writes = subst (λ (o : Option ℕ). Writes closing (last_script o closing) r s1 s2) (walk.from_closing (ap (λ (p : Public). p.save) on.public ∙ unsaved) ∙ from) (writes_by r closes);
        done = done.seen;
        asked = done.grew;
        traced = done.cut;
        later = later;
        ends = ends;
      };
      later = closes.later;
      fits = fits_last;
      rests = λ honest left mark closed. from_each base (λ x. Represents state first s0 x.tables)
          (λ x. (broken : Broken) × AnswersFrom (RanEnding (Ok (has_refused tally))) (positions_of base walk.entries) (drawing keys x) walk.spelt broken story.answers all story.part
          × IsAtRest keys closing s2.kept (by_name (session_after (positions_of base walk.entries) (drawing keys x) walk.spelt broken).tables))
          (λ tables held. rests_last tables honest left mark closed held) on.held;
      sealed = λ tells. sealed_last (base.start.region + 1) tells (λ good both. own_sealed good);
      sealed_before = λ tells. from_each base AreSealed (λ x. IsSealed (PassesBoth base.public.pack) keys base.start 0 s0 s2)
          (λ tables sealed. sealed_last 0 tells (λ good both. sealed good (passes_from base good both) (from_on 0) (omega arith))) (on.sealed tells);
    }

  -- ---- where tables are saved
  -- the keeper's faults rose exactly where the session ended for that
  pub keeper_counts : CountsKeeper (RanEnding result) k0 k1
  keeper_counts = session_counts state m0 ran.middle m2 ran.served ran.more ran.answers ran.part result ran.steps ran.last

  -- and it drew no salt
  pub keeper_drawn : k1.drawn ≡ k0.drawn
  keeper_drawn = session_drawn state m0 ran.middle m2 ran.served ran.more ran.answers ran.part result ran.steps ran.last

  -- and it holds a mark for which the tables rest
  pub leaves : (secret salt : List ℕ) → Agrees state first s0 → base.public.save ≡ true → AreByRegion secret keys → ((q : ℕ) → base.start.region < q → (pair_of keys q).salt ≡ Some salt)
      → ((mark : Mark) → k0.held ≡ Some mark → FromEach base (λ x. RestsOn secret mark base.public s0.kept x.tables)) → LeavesSaved secret salt base keys (RanEnding result) story s0 s1 k0 k1
  leaves secret salt agrees saves of salted rests =
      session_leaves state (RanEnding result) m0 ran.middle m2 (ran.served ++ final.held) final.rest (ran.answers ++ final.kept) final.left walk secret salt base keys
      (record {
        free = refl;
        agrees = agrees;
        saves = ap (λ (p : Public). p.save) on.public ∙ saves;
        public = on.public;
        count = on.count;
        start = on.start;
        keyed = on.keyed;
        drawn = on.drawn;
        of = of;
        salted = salted;
        held = on.held;
        rests = rests;
      })
      refl

  -- all that had ended were answered
  pub all_ended : GoesOn (drop (length story.seen) (positions_of base story.entries)) ⊎ LosesSome Lost (RanEnding result)
  all_ended = subst (λ (vs : List Position). GoesOn (drop (length walk.seen) vs) ⊎ LosesSome Lost (RanEnding result)) positions_are walk.on

  -- what is public after those of which all were answered
  pub stands_at : public_of ran.middle.engine ≡ public_whole base story
  stands_at = walk.stands ∙ ap (λ (p : Public). after_entries (words_of base) 0 p (whole_of (length walk.seen) walk.entries)) on.public

  -- how the last part was left
  pub ends_so : EndsBy f1 ran.ended (f0.unread ++ ran.piece) final.rest final.left result
  ends_so = elim final.same [
    | inl same ↦
        let rest_is : final.rest ≡ ran.more = ap (λ (l : List (List ℕ)). l ++ final.rest) (sym same.0) ∙ sym final.parts in
        subst (λ (l : List (List ℕ)). EndsBy f1 ran.ended (f0.unread ++ ran.piece) l final.left result) (sym rest_is) (subst (λ (l : List ℕ). EndsBy f1 ran.ended (f0.unread ++ ran.piece) ran.more l result) (sym same.2) ran.ends)
    | inr by ↦
        let stopped : result ≡ Err (session_stop by.0) = let is = by.1 in cc is in
        subst (λ (r : Result Bool Stop). EndsBy f1 ran.ended (f0.unread ++ ran.piece) final.rest final.left r) (sym stopped) (run_ends f1 ran.ended (f0.unread ++ ran.piece) final.rest final.left by.0)
  ]

  pub counted_so : TallyIs story.answers told
  counted_so = go told refl ran.counted
    where
      go : (r : Result Tally Stop) → told ≡ r → TallyIs ran.answers r → TallyIs story.answers r
      go (Ok tally) is counted = elim final.same [
        | inl same ↦ subst (λ (l : List Answer). tally ≡ tally_of l) (sym (ap (λ (l : List Answer). ran.answers ++ l) same.1 ∙ append-nil ran.answers)) counted
        | inr by ↦ absurd (let stopped = by.1 in let whole = ending_is tally is in cc (stopped, whole))
      ]
      go (Err stop) is counted = tt

  pub texts_so : texts_in ran.ended (f0.unread ++ ran.piece) ≡ story.served ++ story.more
  texts_so = ran.texts ∙ ap (λ (l : List (List ℕ)). ran.served ++ l) final.parts ∙ sym (append_assoc ran.served final.held final.rest)

  unfoldable pub ran_after : RanAfter state tr base keys (Some key) f0 f1 l0 l1 gave w0 w1 s0 s1 high Lost told
  ran_after = record {
    piece = ran.piece;
    consumed = ran.consumed;
    taken = ran.taken;
    limit = ran.limit;
    ended = ran.ended;
    at_end = ran.at_end;
    story = story;
    texts = texts_so;
    prompt = prompt_more (public_whole base story) (batch_most base.public) (most_of base) (texts_in false (before_read gave (f0.unread ++ ran.piece))) ran.served final.held
        (subst (λ (p : Public). AnsweredExcept p (batch_most base.public) (most_of base) (texts_in false (before_read gave (f0.unread ++ ran.piece))) ran.served) stands_at
        (subst (λ (p : Public). AnsweredExcept (public_of ran.middle.engine) (batch_most p) (most_flown base.flight p) (texts_in false (before_read gave (f0.unread ++ ran.piece))) ran.served) on.public ran.prompt))
        final.rest (whole_before ran.ended gave (f0.unread ++ ran.piece) ((ran.served ++ final.held) ++ final.rest) texts_so);
    carried = carried_by;
    rows = inl (record { first = first; last = last; keeper0 = k0; keeper1 = k1; flights0 = flights_at base.flight; flights1 = left; ran = ran; counts = opened });
    cut = final.cut;
    whole = final.whole;
    answered = all_ended;
    counted = counted_so;
    ends = ends_so;
  }

-- nothing is served, since the input has ended
unfoldable pub ran_last : {R : Type 0} {Lost : Type 0} (state : R → RevState) (on : Bool) (f : Fetch) (l : Option (List ℕ)) (gave : ℕ) (w t : Option (List ℕ)) (e : Engine R) (s : StoreState) (k : KeeperState) (flights : Flights) → f.unread ≡ [] → IsAtEnd l → f.taken < f.limit
    → SessionRan state on f f l l gave w w t t (machine_of e s k flights) (machine_of e s k flights) Lost (Ok empty_tally)
ran_last {Lost = Lost} state on f l gave w t e s k flights none at_end below = record {
  piece = [];
  consumed = Consumes-nil l;
  taken = omega arith;
  limit = refl;
  ended = true;
  at_end = λ _. at_end;
  served = [];
  more = [];
  texts = rw (none, texts_of-nil, rest_of-nil) refl;
  prompt = all_answered (public_of e) (batch_most (public_of e)) _ _ [] (most_some (public_of e))
      (subst (λ (xs : List (List ℕ)). Begins (texts_in false (before_read gave (f.unread ++ []))) xs) (texts_of-nil [])
      (prompt_all (f.unread ++ []) [] f.unread gave (append-nil f.unread) (let few = ap length none in omega (arith, few))));
  middle = machine_of e s k flights;
  answers = [];
  steps = Steps-none state (machine_of e s k flights);
  part = [];
  owed = [];
  gathered = none_gathered;
  follow = tt;
  last = record { machine = refl; free = refl; none = refl };
  cut = rw printed-nil (Outputs-whole w w Lost [] (Appends-nil w));
  whole = took_none w;
  traced = traces_all (traced_none on s.asked t);
  counted = sym (tally_after-nil empty_tally);
  ends = (refl, refl, refl, rw none nothing_over, below);
}
