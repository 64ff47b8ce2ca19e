-- Runs whose tables are kept answer as one run does over all their texts.
use Rattle.ob_headline.proofs.Words.{Access, after_all, Answer, AnswersFrom, ap, AreAlike, AreFlat, arith, BadKey, Base, BeginsFrom, Begun, Bool, Broken, Closed, CloseErr, Closing, closing_named, Config, drawing, Ending, EndsBehind, Err, failures, false, FliesNone, FlightSettings, flying, Fresh, headings, if◌then◌else◌, inl, inr, InUse, is_used_up, IsTrue, KeeperFault, KeeperState, KeptEnding, KeptRegion, keys_of, KeySet, length, List, Mark, mark_made, mark_of, MatchBool, nat_lt, nat_tests, None, Ok, Opened, Option, option_map_or, OtherPack, Outside, Plain, plain, Public, public_with, Ran, refl, Report, Result, RunKept, Saved, positions_of, Served, Session, session_after, session_at, Some, Spelt, start, status_of, StoreState, Story, subst, sym, Tables, Text, trace, trace_of, true, Usage, words_of, ℕ, [], ⊤, ◌++◌, ◌+◌, ◌<◌, ◌^◌, ◌∙◌, ◌∷◌, ◌≡◌, ◌≤◌}
use Rattle.ob_base.specs.declared.refusal.Stop.TheVariants as Stops
use Rattle.ob_reopen.proofs.ByNameAlike.{named_alike}
use Rattle.ob_reopen.specs.Resting.{IsAtRest, by_name}
use Rattle.ob_headline.proofs.AlikeSessions.{AreAlone, GoesOn, SessionsAlike, after_alone, alone_both, answers_alone, answers_on, are_alone, grows_on, hows_of, keeps_plain}
use Rattle.ob_headline.proofs.BeginsAlike.{Begins, begins_anew, begins_reopened}
use Rattle.ob_headline.proofs.InStep.{InStep}
use Rattle.ob_headline.proofs.SettingLemmas.{kept_settings}
use Rattle.ob_headline.proofs.MarkLemmas.{marks_held}
use Rattle.ob_headline.proofs.RerunLemmas.{answered_all}
use Rattle.ob_headline.proofs.StopLemmas.{begun_stops, closing_stops}
use Rattle.ob_headline.specs.Keeping.{EndsWith, kept_status}
use Rattle.ob_headline.specs.KeptHeadline.{ClosesTables, EndsUnkeyed, IsClosed, SessionKept, begun_at}
use Rattle.ob_headline.specs.KeptMarks.{HeldAfter}
use Rattle.ob_headline.specs.KeptRuns.{AnswerAsOne, GoOn, OneRun, first_of, all_answers, all_seen, all_spelt, count_in, secret_in, seen_in, spelt_in}
use Rattle.ob_headline.specs.Settings.{IsTaken, flight_of, settings_of}
use Rattle.ob_headline.specs.Usage.{is_kept, is_traced, kept_usage}
use Rattle.ob_headline.specs.Words.{any_refused, keys_in}
use Rattle.ob_headline.proofs.AloneRuns.{RanAlone, are_of, headline_alone, meant_alone}
use Rattle.ob_headline.proofs.BaseLemmas.{from_flying, unflown}
use Rattle.ob_headline.proofs.ServedAlone.{AnswersAlone, AreOf, as_alone, behind_all, from_alone, of_both}
use Rattle.ob_headline.specs.Flights.{positions_alone}
use Rattle.ob_script.specs.Flights.{Entry, drawn}
use Rattle.ob_headline.specs.declared.ending.KeptEnding.TheVariants.{OtherKey, Saved as SavedBefore, NoMark, NotClosed as LeftOpen, StoreFault}
use Rattle.ob_store.specs.State.{FalseRead}
use Rattle.ob_verdict.proofs.AlikeTables.{alike_chained, alike_turned}

-- ---- a run that came to its end
-- by its status
well_ended : (ending : KeptEnding) → kept_status ending ≤ 1 → (refused : Bool) × (ending ≡ Plain (Ran (Ok refused)))
well_ended (Plain Usage) few = absurd (omega (arith, few))
well_ended (Plain BadKey) few = absurd (omega (arith, few))
well_ended (Plain (Ran (Ok refused))) few = (refused, refl)
well_ended (Plain (Ran (Err (Stops.Tampered region place)))) few = absurd (omega (arith, few))
well_ended (Plain (Ran (Err Stops.SourceFault))) few = absurd (omega (arith, few))
well_ended (Plain (Ran (Err Stops.SinkFault))) few = absurd (omega (arith, few))
well_ended (Plain (Ran (Err Stops.NoMemory))) few = absurd (omega (arith, few))
well_ended (Plain (Ran (Err Stops.InputLimit))) few = absurd (omega (arith, few))
well_ended (Plain (Ran (Err Stops.StoreFault))) few = absurd (omega (arith, few))
well_ended (Plain (Ran (Err Stops.StashFull))) few = absurd (omega (arith, few))
well_ended (Plain (Ran (Err Stops.KeeperFault))) few = absurd (omega (arith, few))
well_ended OtherPack few = absurd (omega (arith, few))
well_ended OtherKey few = absurd (omega (arith, few))
well_ended SavedBefore few = absurd (omega (arith, few))
well_ended NoMark few = absurd (omega (arith, few))
well_ended StoreFault few = absurd (omega (arith, few))
well_ended LeftOpen few = absurd (omega (arith, few))
well_ended KeeperFault few = absurd (omega (arith, few))

few_status : (refused : Bool) → status_of (Ran (Ok refused)) ≤ 1
few_status true = omega arith
few_status false = omega arith

unkeyed_stops : (ending : Ending) (taken : List ℕ) (kept : KeptEnding) (refused : Bool) → kept ≡ Plain ending → EndsUnkeyed ending taken → kept ≡ Plain (Ran (Ok refused)) → ⊥
unkeyed_stops Usage taken kept refused is ends well = cc (is, well)
unkeyed_stops BadKey taken kept refused is ends well = cc (is, well)
unkeyed_stops (Ran (Ok other)) taken kept refused is ends well = absurd ends
unkeyed_stops (Ran (Err stop)) taken kept refused is ends well = cc (is, well)

-- a session went on
has_session : {settings : Option Config} {flight : Option FlightSettings} {Takes : Type 0} {tracing : Bool} {old new : Outside} {k0 k1 : KeeperState} {ending : KeptEnding} {answers : List Answer} {report : Report}
    (ran : RunKept settings flight Takes tracing old new k0 k1 ending answers report) (refused : Bool) → ending ≡ Plain (Ran (Ok refused))
    → (run : SessionKept settings flight Takes tracing old new k0 k1 ending answers report) × (ran ≡ inr (inr run))
has_session (inl run) refused well = absurd (unkeyed_stops run.headline.ending run.headline.taken _ refused run.is run.ends well)
has_session (inr (inl run)) refused well = absurd (begun_stops run.config (keys_of run.secret) _ _ _ _ _ _ _ refused run.begun well)
has_session (inr (inr run)) refused well = (run, refl)

-- which came to its end, too, and whose tables were closed
comes_to_end : (ended : Ending) (base : Base) (keys : KeySet) (tracing : Bool) (story : Story) (begun served new : Outside) (run report : Report) (k0 k1 : KeeperState)
    (ending : KeptEnding) (refused : Bool) → EndsBehind ended base keys tracing story begun served new run report k0 k1 ending → ending ≡ Plain (Ran (Ok refused))
    → (other : Bool) × (ended ≡ Ran (Ok other)) × IsClosed base keys tracing other story begun served new k0 k1 ending
comes_to_end Usage base keys tracing story begun served new run report k0 k1 ending refused behind well = absurd behind
comes_to_end BadKey base keys tracing story begun served new run report k0 k1 ending refused behind well = absurd behind
comes_to_end (Ran (Ok other)) base keys tracing story begun served new run report k0 k1 ending refused behind well = (other, refl, behind)
comes_to_end (Ran (Err stop)) base keys tracing story begun served new run report k0 k1 ending refused behind well = absurd (cc (behind.is, well))

closed_well : (result : Result Mark CloseErr) (whole ending : KeptEnding) (f0 f1 : ℕ) (k0 k1 : KeeperState) (refused : Bool) → EndsWith result whole ending f0 f1 k0 k1 → ending ≡ Plain (Ran (Ok refused)) → (mark : Mark) × (result ≡ Ok mark)
closed_well (Ok mark) whole ending f0 f1 k0 k1 refused ends well = (mark, refl)
closed_well (Err error) whole ending f0 f1 k0 k1 refused ends well = absurd (closing_stops error refused (sym ends.0 ∙ well))

-- a lie stays
pub unlied : (old new : Option FalseRead) → ((lie : FalseRead) → old ≡ Some lie → new ≡ Some lie) → new ≡ None → old ≡ None
unlied None new stays none = refl
unlied (Some lie) new stays none = absurd (cc (stays lie refl, none))

-- ---- what its texts spell are the statements that are seen
run_is : {settings : Option Config} {flight : Option FlightSettings} {Takes : Type 0} {tracing : Bool} {old new : Outside} {k0 k1 : KeeperState} {ending : KeptEnding} {answers : List Answer} {report : Report}
    (ran : RunKept settings flight Takes tracing old new k0 k1 ending answers report) → flight ≡ None → AreOf (spelt_in ran) (seen_in ran)
unfolding AreOf
run_is (inl run) none = refl
run_is (inr (inl run)) none = refl
run_is {flight = flight} (inr (inr run)) none =
    are_of (flying flight run.base) (unflown flight run.base none) (keys_in run.session.taken) run.session.ending run.session.story run.opened run.served.store run.session.accesses

runs_are : (words : List Text) (flies : flight_of kept_usage words ≡ None) (runs : List (OneRun words)) → AreOf (all_spelt runs) (all_seen runs)
unfolding AreOf
runs_are words flies [] = refl
runs_are words flies (one ∷ runs) = of_both (spelt_in one.run.ran) (all_spelt runs) (seen_in one.run.ran) (all_seen runs) (run_is one.run.ran flies) (runs_are words flies runs)

-- ---- where a run begins
-- what rests at a mark are these tables, in whichever order
abbrev WaitsAt : (secret : List ℕ) → Mark → (kept : ℕ → Option KeptRegion) → Tables → Type 0
WaitsAt secret Fresh kept ts = AreAlike [] ts
WaitsAt secret InUse kept ts = ⊤
WaitsAt secret Begun kept ts = ⊤
WaitsAt secret (Saved region blocks number pack salt check) kept ts = ⊤
WaitsAt secret (Closed region blocks number pack) kept ts =
    (tables : Tables) × IsAtRest (keys_of secret) (closing_named region blocks number pack) kept tables × AreAlike tables ts

-- and what is public of a session with them has these settings
record Waits (words : List Text) (secret : List ℕ) (held : Option Mark) (kept : ℕ → Option KeptRegion) (t : Session) : Type 0 where
  mark : Mark
  is : held ≡ Some mark
  settings : plain t.public ≡ plain (public_with (settings_of kept_usage words))
  flat : AreFlat (headings t.tables)
  step : InStep t
  at : WaitsAt secret mark kept t.tables

begins_at : (mark : Mark) (settings : Option Config) (config : Config) (secret : List ℕ) (base : Base) (old new : StoreState) (t : Session) → settings ≡ Some config → BeginsFrom mark config (keys_of secret) base old new
    → WaitsAt secret mark old.kept t.tables → plain t.public ≡ plain (public_with settings) → config.keep ≡ true → AreFlat (headings t.tables) → InStep t → IsTrue old.tells → new.lie ≡ None → Begins (keys_of secret) base t
begins_at Fresh settings config secret base old new t set begins waits same kept flat step tells honest =
    begins_anew settings config set kept (keys_of secret) base t same flat step begins.0 waits
begins_at InUse settings config secret base old new t set begins waits same kept flat step tells honest = absurd begins
begins_at Begun settings config secret base old new t set begins waits same kept flat step tells honest = absurd begins
begins_at (Saved region blocks number pack salt check) settings config secret base old new t set begins waits same kept flat step tells honest = absurd begins
begins_at (Closed region blocks number pack) settings config secret base old new t set begins waits same kept flat step tells honest =
    let o : Opened = record { keys = keys_of secret; closing = closing_named region blocks number pack; listed = begins.1.listed; old = old; new = new } in
    begins_reopened settings config set kept (keys_of secret) base t same flat step o waits.0 begins.1.is (record { tells = tells; honest = honest; rests = waits.1 }) (begins.1.told tells honest waits.0 waits.1) waits.2

tells_on : (mark : Mark) (config : Config) (keys : KeySet) (base : Base) (old new : StoreState) → BeginsFrom mark config keys base old new → IsTrue old.tells → IsTrue new.tells
tells_on Fresh config keys base old new begins tells = subst (λ (s : StoreState). IsTrue s.tells) (sym begins.1) tells
tells_on InUse config keys base old new begins tells = absurd begins
tells_on Begun config keys base old new begins tells = absurd begins
tells_on (Saved region blocks number pack salt check) config keys base old new begins tells = absurd begins
tells_on (Closed region blocks number pack) config keys base old new begins tells = subst (λ (b : Bool). IsTrue b) (sym begins.1.tells) tells

-- ---- one run, and those after it
module _ (words : List Text) (secret : List ℕ) (f : Ending) (one : OneRun words) (run : SessionKept (settings_of kept_usage words) (flight_of kept_usage words) (IsTaken kept_usage words) (is_traced kept_usage words) one.old one.new one.keeper0 one.keeper1 one.run.ending one.run.answers one.report)
    (came : one.run.ran ≡ inr (inr run)) (refused : Bool) (well : one.run.ending ≡ Plain (Ran (Ok refused))) (kept : is_kept words ≡ true) (keyed : run.secret ≡ secret) (none : failures one.run.answers ≡ 0) (tells : IsTrue one.old.store.tells)
    (honest : one.new.store.lie ≡ None) (flies : flight_of kept_usage words ≡ None) (early : run.base.count + length (trace_of (flying (flight_of kept_usage words) run.base) run.session.story.entries) < 2 ^ 63)
    (held : Option Mark) (same_mark : one.keeper0.held ≡ held) (t : Session) (waits : Waits words secret held one.old.store.kept t) where
  abbrev s0 : StoreState
  s0 = one.old.store

  -- each statement is served alone
  abbrev base : Base
  base = flying (flight_of kept_usage words) run.base

  alone : FliesNone base
  alone = unflown (flight_of kept_usage words) run.base flies

  ran : RanAlone base (keys_in run.session.taken) run.session.ending run.session.story run.opened run.served.store
  ran = headline_alone alone run.session

  soon : run.base.count + length (trace run.base.public (run.session.story.seen ++ run.session.story.last)) < 2 ^ 63
  soon = subst (λ (l : List Access). run.base.count + length l < 2 ^ 63) ran.traced early

  closed : (other : Bool) × (run.session.ending ≡ Ran (Ok other))
      × IsClosed base (keys_of run.secret) (is_traced kept_usage words) other run.session.story (begun_at one.old run.opened run.traced) run.served one.new run.in_use one.keeper1 one.run.ending
  closed = comes_to_end run.session.ending base _ _ run.session.story _ run.served one.new run.run one.report run.in_use one.keeper1 one.run.ending refused run.behind well

  abbrev tables : ClosesTables base (keys_of run.secret) (is_traced kept_usage words) closed.0 run.session.story
      run.opened run.served.store one.new.store run.served.traced one.new.traced run.served.faults.trace one.new.faults.trace run.in_use one.keeper1 one.run.ending
  tables = closed.2.tables

  -- the store told the truth until then
  honest_served : run.served.store.lie ≡ None
  honest_served = unlied run.served.store.lie one.new.store.lie tables.later.lie honest

  honest_opened : run.opened.lie ≡ None
  honest_opened = unlied run.opened.lie run.served.store.lie run.session.answers.later.lie honest_served

  -- the mark that was read is the one that was held
  mark_read : run.began.mark ≡ waits.mark
  mark_read = run.began.gives.told waits.mark (same_mark ∙ waits.is)

  begins : Begins (keys_of secret) run.base t
  begins =
      subst (λ (x : List ℕ). Begins (keys_of x) run.base t) keyed
      (begins_at run.began.mark (settings_of kept_usage words) run.config run.secret run.base s0 run.opened t run.set run.began.begins
      (subst (λ (x : List ℕ). WaitsAt x run.began.mark s0.kept t.tables) (sym keyed) (subst (λ (m : Mark). WaitsAt secret m s0.kept t.tables) (sym mark_read) waits.at))
      waits.settings (kept_settings words run.config run.set ∙ kept) waits.flat waits.step tells honest_opened)

  tells_opened : IsTrue run.opened.tells
  tells_opened = tells_on run.began.mark run.config (keys_of run.secret) run.base s0 run.opened run.began.begins tells

  abbrev s : Session
  s = drawing (keys_of secret) (session_at run.base begins.tables)

  abbrev all : List Served
  all = run.session.story.seen ++ run.session.story.last

  -- it draws the numbers of the secret
  keys_are : keys_in run.session.taken ≡ keys_of secret
  keys_are = ap (λ (o : Option (List ℕ)). option_map_or keys_of o (keys_of [])) run.keyed ∙ ap keys_of keyed

  each : length run.session.story.answers ≡ length run.session.story.spelt
  each = answered_all run.session (subst (λ (n : ℕ). n ≤ 1) (sym (run.session.status.status ∙ ap status_of closed.1)) (few_status closed.0))

  are : AreOf run.session.story.spelt all
  are = are_of base alone (keys_in run.session.taken) run.session.ending run.session.story run.opened run.served.store run.session.accesses

  -- what it answered, and what rests after it where a closing could be made
  abbrev Leaves : (used : Bool) → Broken → Type 0
  Leaves used broken = MatchBool used ⊤ (IsAtRest (keys_of run.secret) tables.closing one.new.store.kept (by_name (after_all s run.session.story.spelt broken).tables))

  abbrev Meant : KeySet → Ending → Session → Type 0
  Meant keys ending u = (broken : Broken) × AnswersAlone ending (drawing keys u) run.session.story.spelt broken run.session.story.answers all run.session.story.part

  abbrev Rested : Session → Type 0
  Rested u = (broken : Broken) × AnswersFrom (Ran (Ok closed.0)) (positions_of base run.session.story.entries) (drawing (keys_of run.secret) u) run.session.story.spelt broken run.session.story.answers all run.session.story.part
      × IsAtRest (keys_of run.secret) tables.closing one.new.store.kept (by_name (session_after (positions_of base run.session.story.entries) (drawing (keys_of run.secret) u) run.session.story.spelt broken).tables)

  rested_alone : Rested (session_at run.base begins.tables) → (broken : Broken) × AnswersAlone (Ran (Ok closed.0)) (drawing (keys_of run.secret) (session_at run.base begins.tables)) run.session.story.spelt broken run.session.story.answers all run.session.story.part
      × IsAtRest (keys_of run.secret) tables.closing one.new.store.kept (by_name (after_all (drawing (keys_of run.secret) (session_at run.base begins.tables)) run.session.story.spelt broken).tables)
  rested_alone rested =
      let u : Session = drawing (keys_of run.secret) (session_at run.base begins.tables) in
      let meant =
      as_alone (words_of base) 0 (Ran (Ok closed.0)) u run.session.story.spelt rested.0 run.session.story.answers all run.session.story.part are
      (subst (λ (es : List Entry). AnswersFrom (Ran (Ok closed.0)) (positions_of base es) u run.session.story.spelt rested.0 run.session.story.answers all run.session.story.part) ran.entries rested.1) in
      let behind : session_after (positions_of base run.session.story.entries) u run.session.story.spelt rested.0 ≡ after_all u run.session.story.spelt rested.0 =
      ap (λ (es : List Entry). session_after (positions_of base es) u run.session.story.spelt rested.0) ran.entries
      ∙ behind_all (words_of base) 0 (Ran (Ok closed.0)) u run.session.story.spelt rested.0 run.session.story.answers all run.session.story.part are meant each in
      (rested.0, meant, subst (λ (v : Session). IsAtRest (keys_of run.secret) tables.closing one.new.store.kept (by_name v.tables)) behind rested.2)

  answered : (used : Bool) → is_used_up tables.closing ≡ used → (broken : Broken) × AnswersAlone (Ran (Ok closed.0)) s run.session.story.spelt broken run.session.story.answers all run.session.story.part × Leaves used broken
  answered true is =
      let meant =
      begins.from (Meant (keys_in run.session.taken) run.session.ending) (from_flying (flight_of kept_usage words) run.base (Meant (keys_in run.session.taken) run.session.ending)
      (meant_alone base alone (keys_in run.session.taken) run.session.ending run.session.story run.opened run.served.store run.session.accesses
      (run.session.answers.meant (record { tells = tells_opened; unfit = λ lie told. absurd (cc (told, honest_served)) })))) in
      let here = subst (λ (k : KeySet). AnswersAlone run.session.ending (drawing k (session_at run.base begins.tables)) run.session.story.spelt meant.0 run.session.story.answers all run.session.story.part) keys_are meant.1 in
      (meant.0, subst (λ (e : Ending). AnswersAlone e s run.session.story.spelt meant.0 run.session.story.answers all run.session.story.part) closed.1 here, tt)
  answered false is =
      let made = closed_well tables.closes.result _ one.run.ending _ _ run.in_use one.keeper1 refused tables.closes.ends well in
      let from_it = rested_alone (begins.from Rested (from_flying (flight_of kept_usage words) run.base Rested (tables.rests (record { tells = tells_opened; no_lie = honest }) is made.0 made.1))) in (
        from_it.0,
        subst (λ (x : List ℕ). AnswersAlone (Ran (Ok closed.0)) (drawing (keys_of x) (session_at run.base begins.tables)) run.session.story.spelt from_it.0 run.session.story.answers all run.session.story.part) keyed from_it.1,
        subst (λ (x : List ℕ). IsAtRest (keys_of run.secret) tables.closing one.new.store.kept (by_name (after_all (drawing (keys_of x) (session_at run.base begins.tables)) run.session.story.spelt from_it.0).tables)) keyed from_it.2,
      )

  -- what the keeper holds
  held_behind : one.keeper1.held ≡ Some (mark_made tables.closing)
  held_behind =
      let after : HeldAfter one.run.ran waits.mark = marks_held words one.old one.new one.keeper0 one.keeper1 one.report one.run waits.mark (same_mark ∙ waits.is) in
      let behind = subst (λ (r : RunKept (settings_of kept_usage words) (flight_of kept_usage words) (IsTaken kept_usage words) (is_traced kept_usage words) one.old one.new one.keeper0 one.keeper1 one.run.ending one.run.answers one.report). HeldAfter r waits.mark) came after in
      behind.whole refused well ∙ ap (λ (c : Closing). Some (mark_made c)) (sym tables.is)

  waits_made : (used : Bool) (ts : Tables) → is_used_up tables.closing ≡ used → ((used ≡ false) → WaitsAt secret (mark_of tables.closing) one.new.store.kept ts) → WaitsAt secret (mark_made tables.closing) one.new.store.kept ts
  waits_made true ts is rests = subst (λ (m : Mark). WaitsAt secret m one.new.store.kept ts) (sym (ap (λ (b : Bool). if b then InUse else mark_of tables.closing) is)) tt
  waits_made false ts is rests = subst (λ (m : Mark). WaitsAt secret m one.new.store.kept ts) (sym (ap (λ (b : Bool). if b then InUse else mark_of tables.closing) is)) (rests refl)

  waits_behind : (used : Bool) → is_used_up tables.closing ≡ used → (broken hows : Broken) → Leaves used broken → (u : Session) → u ≡ after_all t run.session.story.spelt hows → SessionsAlike (after_all s run.session.story.spelt broken) u
      → Waits words secret one.keeper1.held one.new.store.kept u
  waits_behind used is broken hows leaves u same alike = record {
    mark = mark_made tables.closing;
    is = held_behind;
    settings = ap (λ (v : Session). plain v.public) same ∙ keeps_plain t run.session.story.spelt hows ∙ waits.settings;
    flat = alike.flat_too;
    step = alike.there;
    at = waits_made used u.tables is (λ free.
        let ts = (after_all s run.session.story.spelt broken).tables in
        let rests = subst (λ (b : Bool). MatchBool b ⊤ (IsAtRest (keys_of run.secret) tables.closing one.new.store.kept (by_name ts))) free leaves in (
          by_name ts,
          subst (λ (x : List ℕ). IsAtRest (keys_of x) tables.closing one.new.store.kept (by_name ts)) keyed rests,
          alike_chained (by_name ts) ts u.tables (alike_turned ts (by_name ts) (named_alike ts alike.tables.apart)) alike.tables,
        ));
  }

  -- how its texts were served
  told : (broken : Broken) × AnswersAlone (Ran (Ok closed.0)) s run.session.story.spelt broken run.session.story.answers all run.session.story.part × Leaves (is_used_up tables.closing) broken
  told = answered (is_used_up tables.closing) refl

  abbrev hows_here : Broken
  hows_here = hows_of run.session.story.spelt told.0

  unfailed : failures run.session.story.answers ≡ 0
  unfailed = subst (λ (a : List Answer). failures a ≡ 0) run.answered none

  alone_here : t.public.batch ≡ None → AreAlone hows_here
  alone_here batchless =
      are_alone (Ran (Ok closed.0)) run.session.story.spelt s told.0 run.session.story.answers all run.session.story.part (ap (λ (p : Public). p.batch) begins.alike.settings ∙ batchless) each unfailed told.1

  -- it is answered as in one run, and the rest follows from where it waits after it
  module _ (soon_too : (after_all t run.session.story.spelt hows_here).asked < 2 ^ 63) where
    on : GoesOn s run.session.story.spelt told.0 run.session.story.answers all t
    on = answers_on _ None (Ran (Ok closed.0)) run.session.story.spelt s t told.0 run.session.story.answers all run.session.story.part begins.alike each unfailed told.1 ran.lawful soon soon_too

    waits_on : Waits words secret one.keeper1.held one.new.store.kept (after_all t run.session.story.spelt hows_here)
    waits_on = waits_behind (is_used_up tables.closing) refl told.0 hows_here told.2 (after_all t run.session.story.spelt hows_here) refl on.alike

-- ---- all of them
-- these runs are answered as one from a session on
record InOne (words : List Text) (f : Ending) (runs : List (OneRun words)) (t : Session) : Type 0 where
  hows : Broken
  alone : t.public.batch ≡ None → AreAlone hows
  answered : (after_all t (all_spelt runs) hows).asked < 2 ^ 63 → AnswersAlone f t (all_spelt runs) hows (all_answers runs) (all_seen runs) []

-- a run, and those after it: its texts spell these statements, which were answered and seen so
record FirstOf (words : List Text) (f : Ending) (t : Session) (spelt : List Spelt) (answers : List Answer) (seen : List Served) (Later : Session → Type 0) : Type 0 where
  broken : Broken
  alone : t.public.batch ≡ None → AreAlone (hows_of spelt broken)
  base : Session
  goes : (after_all t spelt (hows_of spelt broken)).asked < 2 ^ 63 → GoesOn base spelt broken answers seen t × Later (after_all t spelt (hows_of spelt broken))

is_few : (n : ℕ) → nat_lt n (2 ^ 63) ≡ true → n < 2 ^ 63
is_few n is = grind (arith, nat_tests)

is_many : (n : ℕ) → nat_lt n (2 ^ 63) ≡ false → 2 ^ 63 ≤ n
is_many n is = grind (arith, nat_tests)

module _ (words : List Text) (f : Ending) (runs : List (OneRun words)) (t : Session) (spelt : List Spelt) (answers : List Answer) (seen : List Served) (Later : Session → Type 0) (first : FirstOf words f t spelt answers seen Later) (follows : (u : Session) → Later u → InOne words f runs u) where
  abbrev here : Broken
  here = hows_of spelt first.broken

  abbrev Joined : Type 0
  Joined =
      (hows : Broken) × (t.public.batch ≡ None → AreAlone hows)
      × ((after_all t (spelt ++ all_spelt runs) hows).asked < 2 ^ 63 → AnswersAlone f t (spelt ++ all_spelt runs) hows (answers ++ all_answers runs) (seen ++ all_seen runs) [])

  go_on : (b : Bool) → nat_lt (after_all t spelt here).asked (2 ^ 63) ≡ b → Joined
  go_on true is =
      let goes = first.goes (is_few _ is) in
      let rest = follows (after_all t spelt here) goes.1 in (
        here ++ rest.hows,
        (λ batchless. alone_both here rest.hows (first.alone batchless) (rest.alone (ap (λ (p : Public). p.batch) (keeps_plain t spelt here) ∙ batchless))),
        (λ few. goes.0.on f (all_spelt runs) rest.hows (all_answers runs) (all_seen runs) (rest.answered (subst (λ (u : Session). u.asked < 2 ^ 63) (goes.0.along (all_spelt runs) rest.hows) few))),
      )
  go_on false is = (
    here ++ [],
    (λ batchless. alone_both here [] (first.alone batchless) tt),
    (λ few.
        let many = is_many _ is in
        let grown = grows_on t spelt first.broken (all_spelt runs) [] in
        absurd (omega (arith, few, many, grown))),
  )

  first_and_more : Joined
  first_and_more = go_on (nat_lt (after_all t spelt here).asked (2 ^ 63)) refl

all_as_one : (words : List Text) (keeps : is_kept words ≡ true) (flies : flight_of kept_usage words ≡ None) (secret : List ℕ) (f : Ending) (runs : List (OneRun words)) (held : Option Mark) (kept : ℕ → Option KeptRegion) (t : Session) → GoOn secret held kept runs → Waits words secret held kept t → InOne words f runs t
unfolding AnswersAlone
all_as_one words keeps flies secret f [] held kept t goes waits = record { hows = []; alone = λ batchless. tt; answered = λ few. (refl, refl) }
all_as_one words keeps flies secret f (one ∷ runs) held kept t goes waits =
    let good = goes.2 in
    let ended = well_ended one.run.ending (subst (λ (n : ℕ). n ≤ 1) one.run.status good.well.ended) in
    let found = has_session one.run.ran ended.0 ended.1 in
    let run = found.0 in
    let keyed : run.secret ≡ secret = cc (subst (λ (r : RunKept (settings_of kept_usage words) (flight_of kept_usage words) (IsTaken kept_usage words) (is_traced kept_usage words) one.old one.new one.keeper0 one.keeper1 one.run.ending one.run.answers one.report). secret_in r ≡ Some secret) found.1 good.keyed) in
    let soon = subst (λ (r : RunKept (settings_of kept_usage words) (flight_of kept_usage words) (IsTaken kept_usage words) (is_traced kept_usage words) one.old one.new one.keeper0 one.keeper1 one.run.ending one.run.answers one.report). count_in r < 2 ^ 63) found.1 good.early in
    let here = subst (λ (k : ℕ → Option KeptRegion). Waits words secret held k t) (sym (λ i q. goes.1 q i)) waits in
    let first : FirstOf words f t run.session.story.spelt run.session.story.answers (run.session.story.seen ++ run.session.story.last) (λ u. Waits words secret one.keeper1.held one.new.store.kept u) = record {
      broken = (told words secret f one run found.1 ended.0 ended.1 keeps keyed good.well.none good.tells good.honest flies soon held goes.0 t here).0;
      alone = alone_here words secret f one run found.1 ended.0 ended.1 keeps keyed good.well.none good.tells good.honest flies soon held goes.0 t here;
      base = s words secret f one run found.1 ended.0 ended.1 keeps keyed good.well.none good.tells good.honest flies soon held goes.0 t here;
      goes = λ few. (
        on words secret f one run found.1 ended.0 ended.1 keeps keyed good.well.none good.tells good.honest flies soon held goes.0 t here few,
        waits_on words secret f one run found.1 ended.0 ended.1 keeps keyed good.well.none good.tells good.honest flies soon held goes.0 t here few,
      );
    } in
    let joined =
    first_and_more words f runs t run.session.story.spelt run.session.story.answers (run.session.story.seen ++ run.session.story.last) (λ u. Waits words secret one.keeper1.held one.new.store.kept u) first
    (λ u later. all_as_one words keeps flies secret f runs one.keeper1.held one.new.store.kept u goes.3 later) in
    record {
      hows = joined.0;
      alone = joined.1;
      answered =
          subst (λ (r : RunKept (settings_of kept_usage words) (flight_of kept_usage words) (IsTaken kept_usage words) (is_traced kept_usage words) one.old one.new one.keeper0 one.keeper1 one.run.ending one.run.answers one.report).
          (after_all t (spelt_in r ++ all_spelt runs) joined.0).asked < 2 ^ 63 → AnswersAlone f t (spelt_in r ++ all_spelt runs) joined.0 (one.run.answers ++ all_answers runs) (seen_in r ++ all_seen runs) []) (sym found.1)
          (subst (λ (a : List Answer). (after_all t (run.session.story.spelt ++ all_spelt runs) joined.0).asked < 2 ^ 63
          → AnswersAlone f t (run.session.story.spelt ++ all_spelt runs) joined.0 (a ++ all_answers runs) ((run.session.story.seen ++ run.session.story.last) ++ all_seen runs) []) (sym run.answered) joined.2);
    }

-- no tables are public before the first statement
pub none_there : (settings : Option Config) → InStep (start settings)
none_there None = refl
none_there (Some config) = refl

pub answer_as_one : (words : List Text) (keeps : is_kept words ≡ true) (flies : flight_of kept_usage words ≡ None) (secret : List ℕ) (kept : ℕ → Option KeptRegion) (runs : List (OneRun words)) → GoOn secret (Some Fresh) kept runs → AnswerAsOne secret runs
answer_as_one words keeps flies secret kept runs goes = go (first_of words secret).public.batch refl
  where
    f : Ending
    f = Ran (Ok (any_refused (all_answers runs)))

    all : InOne words f runs (first_of words secret)
    all =
        all_as_one words keeps flies secret f runs (Some Fresh) kept (first_of words secret) goes
        (record { mark = Fresh; is = refl; settings = refl; flat = tt; step = none_there (settings_of kept_usage words); at = record { count = refl; found = λ name. refl; apart = refl; too = refl } })

    -- as it is said of one run, of which none flies
    said : (hows : Broken) → AnswersAlone f (first_of words secret) (all_spelt runs) hows (all_answers runs) (all_seen runs) []
        → AnswersFrom f (positions_alone (first_of words secret) (all_seen runs)) (first_of words secret) (all_spelt runs) hows (all_answers runs) (all_seen runs) []
    said hows answers = from_alone (drawn 0) 0 f (first_of words secret) (all_spelt runs) hows (all_answers runs) (all_seen runs) [] (runs_are words flies runs) answers

    go : (o : Option ℕ) → (first_of words secret).public.batch ≡ o → AnswerAsOne secret runs
    go (Some most) is = record { hows = all.hows; alone = λ none. absurd (cc (none, is)); answered = λ few. said all.hows (all.answered few) }
    go None is = record {
      hows = [];
      alone = λ none. refl;
      answered = λ few.
          said [] (answers_alone f (first_of words secret) (all_spelt runs) all.hows (all_answers runs) (all_seen runs) [] (all.alone is)
          (all.answered (subst (λ (u : Session). u.asked < 2 ^ 63) (sym (after_alone (first_of words secret) (all_spelt runs) all.hows (all.alone is))) few)));
    }
