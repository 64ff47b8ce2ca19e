-- Runs that save their tables answer as one run does over the texts that took effect, in whichever way each of them ended.
use Rattle.ob_headline.proofs.Words.{Access, after, after_all, after_room, Answer, AnswersFrom, ap, AreAlike, AreFlat, arith, Base, batch_most, Begun, Bool, Closed, Closing, closing_named, Config, drawing, Err, false, FliesNone, flying, Fresh, fresh, headings, if◌then◌else◌, inl, inr, InUse, is_full_now, IsTrue, KeptRegion, KeySet, length, List, Mark, nat_lt, nat_tests, None, Ok, Opened, Option, plain, public_with, refl, RunSaved, Saved, positions_of, Served, Session, session_at, Some, Spelt, start, Stmt, StoreState, subst, sym, Tables, Text, trace, trace_of, true, words_of, ℕ, [], ◌++◌, ◌+◌, ◌<◌, ◌^◌, ◌∙◌, ◌∷◌, ◌≡◌, ◌≤◌}
use Rattle.ob_headline.proofs.AlikeSessions.{grows, keeps_plain}
use Rattle.ob_headline.proofs.AsOne.{none_there, unlied}
use Rattle.ob_headline.proofs.BeginsAlike.{Begins, begins_anew, begins_reopened}
use Rattle.ob_headline.proofs.AloneRuns.{RanAlone, are_of, headline_alone}
use Rattle.ob_headline.proofs.BaseLemmas.{from_flying, unflown}
use Rattle.ob_headline.proofs.EffectLemmas.{effects_on, left_alone, left_is}
use Rattle.ob_headline.proofs.ServedAlone.{AnswersAlone, AreOf, as_alone}
use Rattle.ob_script.specs.Flights.{Entry}
use Rattle.ob_headline.proofs.InStep.{InStep}
use Rattle.ob_headline.proofs.SavedMarks.{begun_held, leaves_held}
use Rattle.ob_headline.proofs.SettingLemmas.{saved_settings}
use Rattle.ob_headline.specs.SavedHeadline.{LeavesMark, MayTake, RestsBehind, SessionSaved, left_by}
use Rattle.ob_headline.specs.SavedRuns.{AnswerInOne, AnsweredInOne, Effect, GoOnSaved, MayHaveAll, MayHaveMore, OneSaved, Outlasts, TakesEffect, all_effects, effects_of, held_by, kept_by, saved_count, saved_effects, saved_secret, session_behind, texts_of}
use Rattle.ob_headline.specs.Saving.{BeginsSaved, ReopensSaved, RestsAlike, RestsAt, begun_mark}
use Rattle.ob_headline.specs.Settings.{IsTakenSaved, flight_of, saved_settings_of}
use Rattle.ob_headline.specs.Usage.{is_saved, is_traced, saved_usage}
use Rattle.ob_mean.specs.Replay.{Alone}
use Rattle.ob_reopen.specs.Saved.{RestsBy}
use Rattle.ob_verdict.proofs.AlikeTables.{alike_chained}

-- ---- texts one after the other
step_is : (t : Session) (x : Spelt) (answer : Option Answer) (xs : List Spelt) → TakesEffect t x answer → after_all t (x ∷ xs) [] ≡ after_all (session_behind t x) xs []
step_is t (Ok stmt) None xs takes = after_room t stmt xs [] takes
step_is t (Ok stmt) (Some one) xs takes = after_room t stmt xs [] takes.0
step_is t (Err at) answer xs takes = refl

texts_joined : (es fs : List Effect) → texts_of (es ++ fs) ≡ texts_of es ++ texts_of fs
texts_joined [] fs = refl
texts_joined (e ∷ es) fs = ap (λ (xs : List Spelt). e.text ∷ xs) (texts_joined es fs)

after_joined : (t : Session) (es fs : List Effect) → AnsweredInOne t es → after_all t (texts_of (es ++ fs)) [] ≡ after_all (after_all t (texts_of es) []) (texts_of fs) []
unfolding AnsweredInOne
after_joined t [] fs took = refl
after_joined t (e ∷ es) fs took =
    step_is t e.text e.answer (texts_of (es ++ fs)) took.0
    ∙ after_joined (session_behind t e.text) es fs took.1
    ∙ ap (λ (u : Session). after_all u (texts_of fs) []) (sym (step_is t e.text e.answer (texts_of es) took.0))

answered_joined : (t : Session) (es fs : List Effect) → AnsweredInOne t es → AnsweredInOne (after_all t (texts_of es) []) fs → AnsweredInOne t (es ++ fs)
unfolding AnsweredInOne
answered_joined t [] fs took more = more
answered_joined t (e ∷ es) fs took more =
    (took.0, answered_joined (session_behind t e.text) es fs took.1 (subst (λ (u : Session). AnsweredInOne u fs) (step_is t e.text e.answer (texts_of es) took.0) more))

-- more texts ask no less
grows_more : (t : Session) (xs ys : List Spelt) → (after_all t xs []).asked ≤ (after_all t (xs ++ ys) []).asked
grows_more t [] ys = grows t ys []
grows_more t (Ok stmt ∷ xs) ys =
    let more = grows_more (after Alone t stmt) xs ys in
    elim (is_full_now t stmt) as (λ (full : Bool). (if full then t else after_all (after Alone t stmt) xs []).asked ≤ (if full then t else after_all (after Alone t stmt) (xs ++ ys) []).asked)
    [ true ↦ omega arith | false ↦ more ]
grows_more t (Err at ∷ xs) ys = grows_more t xs ys

-- ---- where a run begins
-- what is public of a session has the settings of these words, its tables are flat, and rest for the mark
record Waits (words : List Text) (secret : List ℕ) (held : Option Mark) (kept : ℕ → Option KeptRegion) (t : Session) : Type 0 where
  mark : Mark
  is : held ≡ Some mark
  settings : plain t.public ≡ plain (public_with (saved_settings_of words))
  flat : AreFlat (headings t.tables)
  step : InStep t
  at : RestsAlike secret mark kept t.tables

module _ (settings : Option Config) (config : Config) (set : settings ≡ Some config) (keeps : config.keep ≡ true) (secret salt : List ℕ) (keys : KeySet) (base : Base) (old new : StoreState) (t : Session)
    (same : plain t.public ≡ plain (public_with settings)) (flat : AreFlat (headings t.tables)) (step : InStep t) (tells : IsTrue old.tells) (honest : new.lie ≡ None) where
  begins_bare : (waits : RestsAlike secret Begun old.kept t.tables) → base ≡ fresh (Some config) → Begins keys base t
  begins_bare waits is = begins_anew settings config set keeps keys base t same flat step is (subst (λ (ts : Tables). AreAlike ts t.tables) waits.rests waits.alike)

  begins_on : (closed : Option (List ℕ)) (closing : Closing) (opens : ReopensSaved closed closing config secret salt keys base old new) (tables : Tables) → RestsBy secret closed closing old.kept tables
      → AreAlike tables t.tables → Begins keys base t
  begins_on closed closing opens tables rests alike =
      let stays = opens.told tells honest tables rests in
      let o : Opened = record { keys = keys; closing = closing; listed = opens.listed; old = old; new = new } in
      begins_reopened settings config set keeps keys base t same flat step o tables opens.is (record { tells = tells; honest = honest; rests = stays.under }) stays.listed alike

  begins_saved : (mark : Mark) → BeginsSaved mark config secret salt keys base old new → RestsAlike secret mark old.kept t.tables → Begins keys base t
  begins_saved Fresh begins waits = begins_bare (record { resting = waits.resting; rests = waits.rests; alike = waits.alike }) begins.0.is
  begins_saved InUse begins waits = absurd begins
  begins_saved (Closed region blocks number pack) begins waits = begins_on None (closing_named region blocks number pack) begins.1 waits.resting waits.rests waits.alike
  begins_saved Begun begins waits = begins_bare waits begins.0.is
  begins_saved (Saved region blocks number pack closed check) begins waits = begins_on (Some closed) (closing_named region blocks number pack) begins.2 waits.resting waits.rests.1 waits.alike

tells_on : (mark : Mark) (config : Config) (secret salt : List ℕ) (keys : KeySet) (base : Base) (old new : StoreState) → BeginsSaved mark config secret salt keys base old new → IsTrue old.tells → IsTrue new.tells
tells_on Fresh config secret salt keys base old new begins tells = subst (λ (b : Bool). IsTrue b) (sym (begins.1.sweeps.tells ∙ begins.1.finds.syncs.tells)) tells
tells_on InUse config secret salt keys base old new begins tells = absurd begins
tells_on (Saved region blocks number pack closed check) config secret salt keys base old new begins tells = subst (λ (b : Bool). IsTrue b) (sym begins.2.tells) tells
tells_on other config secret salt keys base old new begins tells = subst (λ (b : Bool). IsTrue b) (sym begins.1.tells) tells

-- ---- one run
-- what it leaves, unless a text comes too late in the one run: of its texts these took effect
record Leaves (words : List Text) (secret : List ℕ) (held : Option Mark) (kept : ℕ → Option KeptRegion) (t : Session) (May : List Stmt → Type 0) (effects : Option (List Stmt) → List Effect) : Type 0 where
  more : Option (List Stmt)
  may : (behind : List Stmt) → more ≡ Some behind → May behind
  took : (after_all t (texts_of (effects more)) []).asked < 2 ^ 63 → AnsweredInOne t (effects more) × Waits words secret held kept (after_all t (texts_of (effects more)) [])

-- no statement was served
leaves_none : (words : List Text) (secret : List ℕ) (held mark : Mark) (old new : StoreState) (k1 : Option Mark) (t : Session) → Waits words secret (Some held) old.kept t → k1 ≡ Some mark → IsTrue old.tells → new.lie ≡ None → Outlasts secret held mark old new
    → Leaves words secret k1 new.kept t (λ behind. ⊥) (λ more. [])
unfolding AnsweredInOne
leaves_none words secret held mark old new k1 t waits is tells honest outlasts = record {
  more = None;
  may = λ behind is_more. cc is_more;
  took = λ few. (
    tt,
    record {
      mark = mark;
      is = is;
      settings = waits.settings;
      flat = waits.flat;
      step = waits.step;
      at = record {
        resting = waits.at.resting;
        rests = outlasts.rests tells honest waits.at.resting (subst (λ (m : Mark). RestsAt secret m old.kept waits.at.resting) (sym (cc waits.is)) waits.at.rests);
        alike = waits.at.alike;
      };
    },
  );
}

module _ (words : List Text) (secret : List ℕ) (one : OneSaved words) (run : SessionSaved (saved_settings_of words) (flight_of saved_usage words) (IsTakenSaved words) (is_traced saved_usage words) one.old one.new one.keeper0 one.keeper1 one.run.ending one.run.answers one.report) (saves : is_saved words ≡ true)
    (keyed : run.secret ≡ secret) (tells : IsTrue one.old.store.tells) (honest : one.new.store.lie ≡ None) (flies : flight_of saved_usage words ≡ None) (early : run.base.count + length (trace_of (flying (flight_of saved_usage words) run.base) run.session.story.entries) < 2 ^ 63)
    (held : Mark) (same_mark : one.keeper0.held ≡ Some held) (t : Session) (waits : Waits words secret (Some held) one.old.store.kept t) where
  -- each statement is served alone
  abbrev base : Base
  base = flying (flight_of saved_usage words) run.base

  alone : FliesNone base
  alone = unflown (flight_of saved_usage words) run.base flies

  ran : RanAlone base run.keys run.session.ending run.session.story run.opened one.new.store
  ran = headline_alone alone run.session

  abbrev all : List Served
  all = run.session.story.seen ++ run.session.story.last

  are : AreOf run.session.story.spelt all
  are = are_of base alone run.keys run.session.ending run.session.story run.opened one.new.store run.session.accesses

  soon : run.base.count + length (trace run.base.public all) < 2 ^ 63
  soon = subst (λ (l : List Access). run.base.count + length l < 2 ^ 63) ran.traced early

  honest_opened : run.opened.lie ≡ None
  honest_opened = unlied run.opened.lie one.new.store.lie run.session.answers.later.lie honest

  tells_opened : IsTrue run.opened.tells
  tells_opened = tells_on run.began.mark run.config run.secret run.salt run.keys run.base one.old.store run.opened run.began.begins tells

  -- the mark that was read is the one that was held
  mark_read : run.began.mark ≡ waits.mark
  mark_read = run.began.gives.told held same_mark ∙ cc waits.is

  waits_here : RestsAlike run.secret run.began.mark one.old.store.kept t.tables
  waits_here =
      subst (λ (x : List ℕ). RestsAlike x run.began.mark one.old.store.kept t.tables) (sym keyed)
      (subst (λ (m : Mark). RestsAlike secret m one.old.store.kept t.tables) (sym mark_read) waits.at)

  begins : Begins run.keys run.base t
  begins =
      begins_saved (saved_settings_of words) run.config run.set (saved_settings words run.config saves run.set) run.secret run.salt run.keys run.base one.old.store run.opened t waits.settings waits.flat waits.step tells honest_opened
      run.began.mark run.began.begins waits_here

  abbrev s : Session
  s = drawing run.keys (session_at run.base begins.tables)

  left : (mark : Mark) × (one.keeper1.held ≡ Some mark) × LeavesMark run.secret run.salt base run.keys run.session.ending run.session.story run.opened one.new.store (begun_mark run.began.mark) mark
  left =
      (run.leaves held same_mark).told (begun_mark run.began.mark)
      (begun_held run.config run.secret run.salt run.keys (is_traced saved_usage words) run.base one.old.store run.opened one.old.traced run.traced one.keeper0 run.begun run.began held same_mark)

  abbrev Behind : Session → Type 0
  Behind u = RestsBehind base run.secret run.keys run.session.ending run.session.story left.0 one.new.store.kept u

  behind : Behind (session_at run.base begins.tables)
  behind = begins.from Behind (from_flying (flight_of saved_usage words) run.base Behind (left.2.rests (record { tells = tells_opened; no_lie = honest })))

  answered : AnswersAlone run.session.ending s run.session.story.spelt behind.broken run.session.story.answers all run.session.story.part
  answered =
      as_alone (words_of base) 0 run.session.ending s run.session.story.spelt behind.broken run.session.story.answers all run.session.story.part are
      (subst (λ (es : List Entry). AnswersFrom run.session.ending (positions_of base es) s run.session.story.spelt behind.broken run.session.story.answers all run.session.story.part) ran.entries behind.answered)

  left_tables : left_by behind.more (positions_of base run.session.story.entries) s run.session.story.spelt run.session.story.answers behind.broken ≡ left_alone behind.more s run.session.story.spelt run.session.story.answers behind.broken
  left_tables =
      ap (λ (es : List Entry). left_by behind.more (positions_of base es) s run.session.story.spelt run.session.story.answers behind.broken) ran.entries
      ∙ left_is (words_of base) 0 behind.more run.session.ending s run.session.story.spelt behind.broken run.session.story.answers all run.session.story.part are answered

  leaves_session : Leaves words secret one.keeper1.held one.new.store.kept t (MayTake (batch_most run.base.public) run.session.ending run.session.story) (λ more. effects_of more run.session.story.spelt run.session.story.answers)
  leaves_session = record {
    more = behind.more;
    may = behind.unanswered;
    took = λ few.
        let effects = effects_of behind.more run.session.story.spelt run.session.story.answers in
        let u = after_all t (texts_of effects) [] in
        let took = effects_on _ None run.session.ending behind.more run.session.story.spelt s t behind.broken run.session.story.answers all run.session.story.part begins.alike answered
        ran.lawful soon few in (
          took.0,
          record {
            mark = left.0;
            is = left.1;
            settings = keeps_plain t (texts_of effects) [] ∙ waits.settings;
            flat = took.1.flat_too;
            step = took.1.there;
            at = record {
              resting = behind.rests.resting;
              rests = subst (λ (x : List ℕ). RestsAt x left.0 one.new.store.kept behind.rests.resting) keyed behind.rests.rests;
              alike = alike_chained behind.rests.resting (left_alone behind.more s run.session.story.spelt run.session.story.answers behind.broken) u.tables
                  (subst (λ (ts : Tables). AreAlike behind.rests.resting ts) left_tables behind.rests.alike) took.1.tables;
            };
          },
        );
  }

-- whichever it is
leaves_by : (words : List Text) (secret : List ℕ) (one : OneSaved words) → is_saved words ≡ true → flight_of saved_usage words ≡ None → IsTrue one.old.store.tells → one.new.store.lie ≡ None → (held : Mark) → one.keeper0.held ≡ Some held → (t : Session) → Waits words secret (Some held) one.old.store.kept t
    → (ran : RunSaved (saved_settings_of words) (flight_of saved_usage words) (IsTakenSaved words) (is_traced saved_usage words) one.old one.new one.keeper0 one.keeper1 one.run.ending one.run.answers one.report) → ((other : List ℕ) → saved_secret ran ≡ Some other → other ≡ secret) → saved_count ran < 2 ^ 63
    → Leaves words secret one.keeper1.held one.new.store.kept t (MayHaveMore ran) (λ more. saved_effects more ran)
leaves_by words secret one saves flies tells honest held is t waits (inl run) keyed soon =
    let left = leaves_held (inl run) held is in
    leaves_none words secret held left.mark one.old.store one.new.store one.keeper1.held t waits left.is tells honest (left.rests secret)
leaves_by words secret one saves flies tells honest held is t waits (inr (inl run)) keyed soon =
    let left = leaves_held {flight = flight_of saved_usage words} (inr (inl run)) held is in
    leaves_none words secret held left.mark one.old.store one.new.store one.keeper1.held t waits left.is tells honest
    (subst (λ (x : List ℕ). Outlasts x held left.mark one.old.store one.new.store) (keyed run.secret refl) left.rests)
leaves_by words secret one saves flies tells honest held is t waits (inr (inr run)) keyed soon = leaves_session words secret one run saves (keyed run.secret refl) tells honest flies soon held is t waits

-- ---- all of them
record InOne (words : List Text) (secret : List ℕ) (held : Option Mark) (kept : ℕ → Option KeptRegion) (t : Session) (runs : List (OneSaved words)) : Type 0 where
  more : List (Option (List Stmt))
  may : MayHaveAll more runs
  took : (after_all t (texts_of (all_effects more runs)) []).asked < 2 ^ 63
      → AnsweredInOne t (all_effects more runs) × Waits words secret (held_by held runs) (kept_by kept runs) (after_all t (texts_of (all_effects more runs)) [])

is_few : (n : ℕ) → nat_lt n (2 ^ 63) ≡ true → n < 2 ^ 63
is_few n is = grind (arith, nat_tests)

is_many : (n : ℕ) → nat_lt n (2 ^ 63) ≡ false → 2 ^ 63 ≤ n
is_many n is = grind (arith, nat_tests)

-- of none one more took effect
none_have : {words : List Text} (runs : List (OneSaved words)) → MayHaveAll [] runs
none_have [] = tt
none_have (one ∷ runs) = ((λ behind is. absurd (cc is)), none_have runs)

-- a run, and those after it
module _ (words : List Text) (secret : List ℕ) (one : OneSaved words) (runs : List (OneSaved words)) (held : Option Mark) (kept : ℕ → Option KeptRegion) (t : Session) (leaves : Leaves words secret one.keeper1.held one.new.store.kept t (MayHaveMore one.run.ran) (λ more. saved_effects more one.run.ran))
    (follows : (u : Session) → Waits words secret one.keeper1.held one.new.store.kept u → InOne words secret one.keeper1.held one.new.store.kept u runs) where
  abbrev here : List Effect
  here = saved_effects leaves.more one.run.ran

  go_on : (b : Bool) → nat_lt (after_all t (texts_of here) []).asked (2 ^ 63) ≡ b → InOne words secret held kept t (one ∷ runs)
  go_on true is =
      let took = leaves.took (is_few _ is) in
      let rest = follows (after_all t (texts_of here) []) took.1 in
      let joined = after_joined t here (all_effects rest.more runs) took.0 in
      record {
        more = leaves.more ∷ rest.more;
        may = (leaves.may, rest.may);
        took = λ few.
            let later = rest.took (subst (λ (u : Session). u.asked < 2 ^ 63) joined few) in (
              answered_joined t here (all_effects rest.more runs) took.0 later.0,
              subst (λ (u : Session). Waits words secret (held_by one.keeper1.held runs) (kept_by one.new.store.kept runs) u) (sym joined) later.1,
            );
      }
  go_on false is = record {
    more = leaves.more ∷ [];
    may = (leaves.may, none_have runs);
    took = λ few.
        let many = is_many _ is in
        let grown = grows_more t (texts_of here) (texts_of (all_effects [] runs)) in
        let joined = ap (λ (xs : List Spelt). (after_all t xs []).asked) (texts_joined here (all_effects [] runs)) in
        absurd (omega (arith, few, many, grown, joined));
  }

  one_and_more : InOne words secret held kept t (one ∷ runs)
  one_and_more = go_on (nat_lt (after_all t (texts_of here) []).asked (2 ^ 63)) refl

all_in_one : (words : List Text) (saves : is_saved words ≡ true) (flies : flight_of saved_usage words ≡ None) (secret : List ℕ) (runs : List (OneSaved words)) (held : Option Mark) (kept : ℕ → Option KeptRegion) (t : Session) → GoOnSaved secret held kept runs → Waits words secret held kept t → InOne words secret held kept t runs
unfolding AnsweredInOne
all_in_one words saves flies secret [] held kept t goes waits = record { more = []; may = tt; took = λ few. (tt, waits) }
all_in_one words saves flies secret (one ∷ runs) held kept t goes waits =
    let good = goes.2 in
    let here = subst (λ (k : ℕ → Option KeptRegion). Waits words secret held k t) (sym (λ i q. goes.1 q i)) waits in
    let at = subst (λ (o : Option Mark). Waits words secret o one.old.store.kept t) waits.is here in
    let leaves = leaves_by words secret one saves flies good.tells good.honest waits.mark (goes.0 ∙ waits.is) t at one.run.ran good.keyed good.early in
    one_and_more words secret one runs held kept t leaves (λ u later. all_in_one words saves flies secret runs one.keeper1.held one.new.store.kept u goes.3 later)

pub answer_in_one : (words : List Text) (saves : is_saved words ≡ true) (flies : flight_of saved_usage words ≡ None) (secret : List ℕ) (kept : ℕ → Option KeptRegion) (runs : List (OneSaved words)) → GoOnSaved secret (Some Fresh) kept runs → AnswerInOne secret (Some Fresh) kept runs
answer_in_one words saves flies secret kept runs goes =
    let nothing : AreAlike [] [] = record { count = refl; found = λ name. refl; apart = refl; too = refl } in
    let all = all_in_one words saves flies secret runs (Some Fresh) kept (start (saved_settings_of words)) goes (record {
      mark = Fresh;
      is = refl;
      settings = refl;
      flat = tt;
      step = none_there (saved_settings_of words);
      at = record { resting = []; rests = refl; alike = nothing };
    }) in
    record {
      more = all.more;
      may = all.may;
      answered = λ few. (all.took few).0;
      left = λ few. let waits = (all.took few).1 in (waits.mark, waits.is, waits.at);
    }
