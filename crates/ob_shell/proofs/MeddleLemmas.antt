-- What the changes of a store do to a run.
use Rattle.ob_shell.proofs.Words.{Access, ap, arith, BadKey, Bool, Config, cut_off, Disturbance, Ending, EndsUntampered, Err, false, Faults, faults_of, FlightSettings, flying, fresh, Headline, inl, inr, IsBefore, IsHonest, IsSteady, IsTrue, keys_in, KeySet, length, FalseRead, List, nat_lt, None, Ok, Option, Outside, outside_of, Ran, refl, Report, RisesBy, Seed, SinksRose, Some, statements, status_of, StoreState, Story, subst, sym, take, Tally, Traced, true, Usage, ℕ, [], ⊤, ◌+◌, ◌∙◌, ◌∷◌, ◌≡◌, ◌≢◌}
use Rattle.std.proofs.Common.{not, IsSome}
use Rattle.std.proofs.lemmas.List.Folds.{list_all-map}
use Rattle.std.specs.List.{list_all}
use Rattle.clap.specs.Words.{Text}
use Rattle.ob_base.specs.declared.refusal.Stop.TheVariants.{Tampered, SourceFault, SinkFault, NoMemory, InputLimit, StoreFault, StashFull, KeeperFault}
use Rattle.ob_headline.specs.Accesses.{Accesses}
use Rattle.ob_headline.specs.Settings.{MeddleParses, ParsesChanges, flight_of, settings_of}
use Rattle.ob_headline.specs.Statements.{Statements}
use Rattle.ob_headline.specs.Usage.{is_traced, meddle_usage}
use Rattle.ob_meddle.proofs.DueLemmas.{acted_later, all_later}
use Rattle.ob_meddle.proofs.ShowLemmas.{list_same, shows}
use Rattle.ob_meddle.specs.Acts.{rests_of}
use Rattle.ob_meddle.specs.Due.{are_later, disturbance_of, disturbances, failed_among, has_acted, is_fail}
use Rattle.ob_meddle.specs.Fresh.{fresh_live, honest_start}
use Rattle.ob_meddle.specs.Shows.{Shows, list_of, state_of}
use Rattle.ob_meddle.specs.declared.meddle.Meddle.{Meddle}
use Rattle.ob_meddle.specs.declared.store.MeddledStore.{MeddledStore}
use Rattle.ob_shell.proofs.CloseLemmas.{reported_taken}
use Rattle.ob_shell.proofs.DisturbLemmas.{before_less}
use Rattle.ob_shell.proofs.FailureLemmas.{none_failed}
use Rattle.ob_shell.proofs.GeneratingLemmas.{with_source}
use Rattle.ob_shell.proofs.HeadLemmas.{headlined}
use Rattle.ob_shell.specs.Generating.{RanGenerated, MeddleRan, MeddleSummarized}
use Rattle.ob_shell.specs.Meddling.{Meddled, Undisturbed, meddle_base}
use Rattle.ob_shell.specs.Top.{Reported, TraceSink, sink_of}
use Rattle.ob_store.specs.Calls.{IsQuiet}
use Rattle.ob_store.specs.Logs.{asked_of}

-- a store says of a list what is later
before_of : (list : List Meddle) (n : ℕ) → are_later list n ≡ true → IsBefore (disturbances list) n
before_of list n later = list_all-map (λ d. nat_lt n d.before) disturbance_of list ∙ later

-- failures are no act
none_acts : (list : List Meddle) (n : ℕ) → IsTrue (list_all (λ m. is_fail m.act) list) → has_acted list n ≡ false
none_acts [] n all = refl
none_acts (m ∷ list) n all = grind (arith, none_acts list n (fail_tail m list all))
  where
    fail_tail : (m : Meddle) (list : List Meddle) → IsTrue (list_all (λ m. is_fail m.act) (m ∷ list)) → IsTrue (list_all (λ m. is_fail m.act) list)
    fail_tail m list all = grind arith

-- ---- a run that ends by no block has another status
status_not : (ending : Ending) → EndsUntampered ending → status_of ending ≢ 4
status_not Usage untampered is = absurd (omega (arith, is))
status_not BadKey untampered is = absurd (omega (arith, is))
status_not (Ran (Ok true)) untampered is = absurd (omega (arith, is))
status_not (Ran (Ok false)) untampered is = absurd (omega (arith, is))
status_not (Ran (Err (Tampered region place))) untampered is = absurd untampered
status_not (Ran (Err SourceFault)) untampered is = absurd (omega (arith, is))
status_not (Ran (Err SinkFault)) untampered is = absurd (omega (arith, is))
status_not (Ran (Err NoMemory)) untampered is = absurd (omega (arith, is))
status_not (Ran (Err InputLimit)) untampered is = absurd (omega (arith, is))
status_not (Ran (Err StoreFault)) untampered is = absurd (omega (arith, is))
status_not (Ran (Err StashFull)) untampered is = absurd (omega (arith, is))
status_not (Ran (Err KeeperFault)) untampered is = absurd (omega (arith, is))

-- one by the store alone has this status
fault_status : (ending : Ending) → status_of ending ≡ 3 → ending ≡ Ran (Err StoreFault)
fault_status Usage is = absurd (omega (arith, is))
fault_status BadKey is = absurd (omega (arith, is))
fault_status (Ran (Ok true)) is = absurd (omega (arith, is))
fault_status (Ran (Ok false)) is = absurd (omega (arith, is))
fault_status (Ran (Err (Tampered region place))) is = absurd (omega (arith, is))
fault_status (Ran (Err SourceFault)) is = absurd (omega (arith, is))
fault_status (Ran (Err SinkFault)) is = absurd (omega (arith, is))
fault_status (Ran (Err NoMemory)) is = absurd (omega (arith, is))
fault_status (Ran (Err InputLimit)) is = absurd (omega (arith, is))
fault_status (Ran (Err StoreFault)) is = refl
fault_status (Ran (Err StashFull)) is = absurd (omega (arith, is))
fault_status (Ran (Err KeeperFault)) is = absurd (omega (arith, is))

acted_or_not : (b : Bool) → (b ≡ false → ⊥) → b ≡ true
acted_or_not true not = refl
acted_or_not false not = absurd (not refl)

-- a count that stands at 0 did not rise
none_rose : (n faults : ℕ) → RisesBy n faults 0 → n ≡ 0
none_rose n faults rose = omega (arith, rose)

-- ---- the store that is handed back
failed_none : (list : List Meddle) → failed_among list 0 ≡ 0
unfolding failed_among
failed_none list = refl

-- no act came: no read lied
no_lie_by : (list : List Meddle) (s : StoreState) → Shows list s → has_acted list (length s.asked) ≡ false → s.lie ≡ None
no_lie_by list s show none = go s.lie refl where
  go : (o : Option FalseRead) → s.lie ≡ o → s.lie ≡ None
  go None is = is
  go (Some lie) is = absurd (cc (show.caused lie is, acted_later list (length lie.before + 1) (length s.asked) (omega (arith, show.asked lie is)) none))

module _ {tally : Tally} {tr : TraceSink} {Takes : Type 0} {keys : List ℕ → KeySet} {flight : Option FlightSettings} {settings : Option Config} {gave : ℕ} {l0 l1 w0 w1 : Option (List ℕ)} {s0 s1 : StoreState} {old new : Faults} {report : Report}
    (r : Reported tally tr Takes (flying flight (fresh settings)) keys l0 l1 gave w0 w1 s0 s1 old new report) where
  pub honest_status : IsHonest s0 s1 → report.status ≢ 4
  honest_status honest is = status_not r.ending (r.shown.carried.untampered honest) (sym r.status ∙ is)

  pub undisturbed : (story : Story) (secret : Option (List ℕ)) (key : KeySet) (ending : Ending) → Statements secret story → Accesses (flying flight (fresh settings)) key ending story s0 s1 → (fresh settings).public.save ≡ false → IsTrue s0.tells → IsQuiet s1
      → Undisturbed story.answers s0 s1 report
  undisturbed story secret key ending spelt accesses unsaved tells quiet =
      let honest : IsHonest s0 s1 = record { tells = tells; no_lie = quiet.lie } in
      let uncut : cut_off story.seen ≡ 0 = none_rose _ s0.faults (subst (λ (n : ℕ). RisesBy (cut_off story.seen) s0.faults n) quiet.faults (let all = accesses.cut in omega (arith, all))) in
      record {
        honest = honest;
        untampered = honest_status honest;
        sound = λ is.
            elim (r.shown.carried.faulted (fault_status r.ending (sym r.status ∙ is))) [
              | inl rose ↦ let none = quiet.faults in absurd (omega (arith, rose, none))
              | inr late ↦ absurd (cc (late.saves, unsaved))
            ];
        unfailed = none_failed _ story.spelt story.answers story.seen story.last _ _ accesses.lawful (let each = spelt.each in let reached = spelt.reached in omega (arith, each, reached))
            (accesses.each_seen ∙ ap (λ (n : ℕ). length (statements (take n story.spelt))) (sym spelt.each)) refl uncut;
      }

pub meddled : {tally : Tally} {words : List Text} {gave0 gave : ℕ} {l0 l1 w0 w1 t0 t1 : Option (List ℕ)} {old new : Faults} {report : Report}
    (m0 m1 : MeddledStore) (config : Config) (list : List Meddle) → ParsesChanges words config list → config.save ≡ false → list_of m0 ≡ list → (state_of m0).asked ≡ [] → (state_of m0).disturbed ≡ disturbances list
    → Reported tally (sink_of (is_traced meddle_usage words) t0 t1) ⊤ (flying (flight_of meddle_usage words) (fresh (Some config))) keys_in l0 l1 gave w0 w1 (state_of m0) (state_of m1) old new report
    → Traced (is_traced meddle_usage words) (state_of m0).asked (state_of m1).asked t0 t1 (SinksRose old new)
    → Meddled words (λ start. outside_of l0 gave0 w0 t0 start old) (outside_of l1 gave w1 t1 (state_of m1) new) m1 report
meddled {tally = tally} {words = words} {gave0 = gave0} {gave = gave} {l0 = l0} {l1 = l1} {w0 = w0} {w1 = w1} {t0 = t0} {t1 = t1} {old = old} {new = new} {report = report} m0 m1 config list parses unsaved same none told served traced =
    let s0 = state_of m0 in
    let s1 = state_of m1 in
    let settings = settings_of meddle_usage words in
    let r : Reported tally (sink_of (is_traced meddle_usage words) t0 t1) (MeddleParses words) (meddle_base words) keys_in l0 l1 gave w0 w1 s0 s1 old new report =
    reported_taken (config, list, parses) parses.settings.settings served in
    let later = r.shown.carried.answers.later in
    let here = list_of m1 in
    let told_first : IsSome s0.disturbed = subst (λ (o : Option (List Disturbance)). IsSome o) (sym told) refl in
    let told_last : IsSome s1.disturbed = subst (λ (o : Option (List Disturbance)). IsSome o) (sym later.disturbed) told_first in
    let first : Shows (list_of m0) s0 = shows m0 told_first in
    let there : Shows here s1 = shows m1 told_last in
    let changes : s0.disturbed ≡ disturbances here = sym later.disturbed ∙ there.disturbed in
    let kept : list ≡ here = sym same ∙ list_same (list_of m0) here (sym first.disturbed ∙ changes) in
    let counted = first.counted ∙ ap (λ (l : List Access). failed_among (list_of m0) (length l)) none ∙ failed_none (list_of m0) in
    let faults : s0.faults ≡ 0 = omega (arith, counted) in
    let before : (n : ℕ) → are_later here n ≡ true → IsBefore s0.disturbed n = λ n after. subst (λ (o : Option (List Disturbance)). IsBefore o n) (sym changes) (before_of here n after) in
    let honest : s0.lie ≡ None = honest_start m0.caught (asked_of m0.log) m0.early none in
    let steady : IsSteady s0 = record {
      quiet = λ before. first.quiet (all_later (list_of m0) (length s0.asked) (subst (λ (o : Option (List Disturbance)). IsBefore o (length s0.asked)) first.disturbed before));
      lied = λ lie is. absurd (cc (is, honest));
    } in
    let h : Headline (meddle_base words) keys_in (MeddleParses words) (is_traced meddle_usage words) (outside_of l0 gave0 w0 t0 s0 old) (outside_of l1 gave w1 t1 s1 new) report =
    headlined (MeddleParses words) (meddle_base words) (is_traced meddle_usage words) (outside_of l0 gave0 w0 t0 s0 old) (outside_of l1 gave w1 t1 s1 new) report none r traced in
    record {
      config = config;
      words_are = subst (λ (l : List Meddle). ParsesChanges words config l) kept parses;
      start = s0;
      starts = record {
        fresh = record {
          unasked = none;
          honest = honest;
          empty = λ q. fresh_live (asked_of m0.log) m0.usable m0.fresh none q (rests_of m0.regions q);
        };
        tells = refl;
        changes = changes;
        steady = steady;
      };
      shows = there;
      headline = h;
      always = λ n after. h.answers.always refl n (before n after);
      undisturbed = λ n after few.
          let within = (h.answers.always refl n (before n after)).quiet few in
          let before_there : IsBefore s1.disturbed (length s1.asked) =
          subst (λ (o : Option (List Disturbance)). IsBefore o (length s1.asked)) (sym later.disturbed) (before_less s0.disturbed (length s1.asked) n within (before n after)) in
          undisturbed r h.story _ _ _ h.statements h.accesses (subst (λ (o : Option Config). (fresh o).public.save ≡ false) (sym parses.settings.settings) unsaved) refl ((later.steady steady).quiet before_there);
      unchanged = λ all.
          let honest : IsHonest s0 s1 = record { tells = refl; no_lie = no_lie_by here s1 there (none_acts here (length s1.asked) all) } in (honest, honest_status r honest);
      cut =
          let rose = h.accesses.cut in
          let most = there.counted in
          omega (arith, rose, most, faults);
      failed = λ alone.
          let rose = h.accesses.failed alone in
          let most = there.counted in
          omega (arith, rose, most, faults);
      tampered = λ is. acted_or_not (has_acted here (length s1.asked)) (λ no. honest_status r (record { tells = refl; no_lie = no_lie_by here s1 there no }) is);
    }

-- the same over the generated text
pub meddle_summarized : {words : List Text} {seed : Seed} {t0 t1 w0 w1 l : Option (List ℕ)} {gave trace0 trace1 out0 out1 : ℕ} {report : Report} (source : ℕ) (m0 m1 : MeddledStore) (config : Config) (list : List Meddle)
    → ParsesChanges words config list → config.save ≡ false → list_of m0 ≡ list → (state_of m0).asked ≡ [] → (state_of m0).disturbed ≡ disturbances list
    → RanGenerated seed (is_traced meddle_usage words) (Some config) (flight_of meddle_usage words) t0 t1 (state_of m0) (state_of m1) trace0 trace1 w0 w1 out0 out1 report
    → MeddleSummarized words seed (λ start. outside_of l gave w0 t0 start (faults_of source out0 trace0)) (outside_of l gave w1 t1 (state_of m1) (faults_of source out1 trace1)) m1 report
unfolding meddled headlined reported_taken
meddle_summarized {words = words} source m0 m1 config list parses unsaved same none told a =
    let takes : MeddleParses words = (config, list, parses) in
    record {
      run = a.run;
      left = a.left;
      gave = a.gave;
      meddled = meddled m0 m1 config list parses unsaved same none told a.reported a.traces;
      unread = record { left = refl; gave = refl; source = refl };
      tally = a.tally;
      counted = (reported_taken takes parses.settings.settings a.reported).shown.counted;
      concludes = with_source source a.concludes;
    }

-- by what the words ask for
pub meddle_ran : (words : List Text) (asked wanted : Option Seed) (old : StoreState → Outside) (new : Outside) (store : MeddledStore) (report : Report) → asked ≡ wanted
    → MeddleRan wanted words old new store report → MeddleRan asked words old new store report
meddle_ran words asked wanted old new store report is ran = subst (λ (o : Option Seed). MeddleRan o words old new store report) (sym is) ran
