-- A run that nothing hinders answers as the plain machine does.
use Rattle.ob_headline.proofs.Words.{Access, after, after_line, Answer, AnswersIn, AnswersMeant, ap, append-nil, arith, Bool, Broken, drawing, Ending, Err, failures, false, FliesNone, FromEach, gathered_now, Gathering, gathering_after, how_now, if◌then◌else◌, inl, inr, keys_by, length, List, next, None, Ok, Opened, Option, outcome_failures, Outputs, Public, Ran, refl, script, Seen, seen_by, seen_or_cut, served, Session, session_at, Some, SomeRun, Spelt, status_of, Stmt, subst, sym, texts_in, trace, true, ℕ, [], ◌++◌, ◌+◌, ◌∙◌, ◌∷◌, ◌≡◌, ◌≤◌}
use Rattle.std.specs.Io.KnownBytes.{Appends, Consumes, IsAtEnd}
use Rattle.ob_base.specs.declared.refusal.Stop.TheVariants.{Tampered, NoMemory, StoreFault, StashFull, KeeperFault}
use Rattle.ob_headline.proofs.AloneRuns.{meant_alone, run_alone}
use Rattle.ob_headline.proofs.BatchLemmas.{IsUncut, how_is}
use Rattle.ob_headline.proofs.RerunLemmas.{answered_all, failure_is}
use Rattle.ob_headline.proofs.ServedAlone.{SeenAlone, AnswersAlone}
use Rattle.ob_headline.specs.Accesses.{StopsWithin}
use Rattle.ob_headline.specs.Bases.{HoldsFrom}
use Rattle.ob_headline.specs.Endings.{last_line}
use Rattle.ob_headline.specs.Failures.{FailsBeside}
use Rattle.ob_headline.specs.FullStash.{ReadsFullStash}
use Rattle.ob_headline.specs.Plainly.{AnsweredPlainly, IsUnhindered, RunsPlainly}
use Rattle.ob_headline.specs.Reruns.{TakesWords}
use Rattle.ob_headline.specs.Settings.{limit_of}
use Rattle.ob_headline.specs.Tracing.{traced}
use Rattle.ob_headline.specs.Words.{IsHonest, printed}
use Rattle.ob_headline.specs.Answers.{IsUndeceived}
use Rattle.ob_headline.specs.Status.{Because, IsCompleted, StoreFails}
use Rattle.ob_mean.proofs.ReplayLemmas.{served_room}
use Rattle.ob_mean.specs.Replay.{How, Alone, CutAfter, With, CutWith, all_served, head_of, hows, rest_of}
use Rattle.ob_script.specs.Trace.{Served as Entry}

-- ---- its answers
-- a text that isn't answered that the store failed is answered as it is meant
uncut_where_unfailed : (s : Session) (stmt : Stmt) (one : Answer) (how : How) → AnswersIn how s stmt one → outcome_failures one.outcome ≡ 0 → IsUncut how
uncut_where_unfailed s stmt one Alone answers none = tt
uncut_where_unfailed s stmt one (CutAfter n) answers none = let failed = failure_is one.outcome answers.outcome in absurd (omega (arith, failed, none))
uncut_where_unfailed s stmt one With answers none = tt
uncut_where_unfailed s stmt one CutWith answers none = let failed = failure_is one.outcome answers.outcome in absurd (omega (arith, failed, none))

meant_where_uncut : (s : Session) (stmt : Stmt) (one : Answer) (how : How) → AnswersIn how s stmt one → IsUncut how → AnswersMeant s stmt one
meant_where_uncut s stmt one Alone answers uncut = answers
meant_where_uncut s stmt one (CutAfter n) answers uncut = absurd uncut
meant_where_uncut s stmt one With answers uncut = answers
meant_where_uncut s stmt one CutWith answers uncut = absurd uncut

answers_plainly : (Leaves : Public → Stmt → Seen → Type 0) (ending : Ending) (g : Option Gathering) (s : Session) (spelt : List Spelt) (broken : Broken) (answers : List Answer) (seen : List Entry) (part : List ℕ)
    → AnswersAlone ending s spelt broken answers seen part → SeenAlone Leaves s.public s.asked g spelt answers seen → length answers ≡ length spelt → failures answers ≡ 0
    → AnsweredPlainly g s spelt answers × (seen ≡ all_served s spelt (hows g s spelt))
unfolding AnswersAlone AnsweredPlainly SeenAlone failures
answers_plainly Leaves ending g s [] broken answers seen part all lawful each none = (all.0, lawful)
answers_plainly Leaves ending g s (x ∷ spelt) broken [] seen part all lawful each none = absurd (omega (arith, each))
answers_plainly Leaves ending g s (Err at ∷ spelt) broken (one ∷ more) seen part all lawful each none =
    let rest = answers_plainly Leaves ending None s spelt (rest_of broken) more seen part all.1 lawful.1 (omega (arith, each)) (omega (arith, none)) in
    ((all.0, rest.0), rest.1)
answers_plainly Leaves ending g s (Ok stmt ∷ spelt) broken (one ∷ more) [] part all lawful each none = absurd all
answers_plainly Leaves ending g s (Ok stmt ∷ spelt) broken (one ∷ more) (x ∷ seen) part all lawful each none =
    let how = how_now g s stmt in
    let uncut = uncut_where_unfailed s stmt one (head_of broken) all.2 (omega (arith, none)) in
    let is : head_of broken ≡ how = how_is g s stmt (head_of broken) x.seen uncut all.3 lawful.2.3 in
    let here : x.seen ≡ seen_or_cut how s stmt = all.3 ∙ ap (λ (h : How). seen_or_cut h s stmt) is in
    let entry : x ≡ served how s stmt = λ i. record { skeleton = lawful.0 i; seen = here i } in
    let behind = subst (λ (h : How). AnswersAlone ending (after h s stmt) spelt (rest_of broken) more seen part) is all.4 in
    let later : SeenAlone Leaves (after how s stmt).public (after how s stmt).asked (gathered_now g s stmt) spelt more seen =
    subst (λ (y : Entry). SeenAlone Leaves (next s.public y.skeleton y.seen) (s.asked + length (script s.public y.skeleton y.seen)) (gathering_after s.public s.asked g stmt y.seen.end) spelt more seen) entry lawful.3 in
    let rest = answers_plainly Leaves ending (gathered_now g s stmt) (after how s stmt) spelt (rest_of broken) more seen part behind later (omega (arith, each)) (omega (arith, none)) in (
      (all.0, meant_where_uncut s stmt one (head_of broken) all.2 uncut, rest.0),
      (λ i. entry i ∷ rest.1 i) ∙ sym (served_room s stmt spelt (hows g s (Ok stmt ∷ spelt)) all.0),
    )

-- ---- it comes to its end
module _ (one : SomeRun) (input : List ℕ) (flies : FliesNone one.base) (free : IsUnhindered one input) where
  abbrev Ends : Type 0
  Ends = (refused : Bool) × (one.run.ending ≡ Ran (Ok refused))

  -- it came to its end, or was hindered
  abbrev Completes : Ending → Type 0
  Completes ending = IsCompleted (IsHonest one.old.store one.new.store) (StoreFails one.base one.old.store one.new.store) (one.base.public.save ≡ true) ending

  ends : (ending : Ending) → one.run.ending ≡ ending → Completes ending → Ends
  ends (Ran (Ok refused)) is done = (refused, is)
  ends (Ran (Err (Tampered region place))) is done = absurd (done free.honest)
  ends (Ran (Err NoMemory)) is done = absurd (free.memory (one.run.status.status ∙ ap status_of is))
  ends (Ran (Err StoreFault)) is done = elim done [ inl failed ↦ absurd (free.sound failed) | inr used ↦ absurd (free.numbers used) ]
  ends (Ran (Err StashFull)) is done = absurd (free.room (one.run.status.status ∙ ap status_of is))
  ends (Ran (Err KeeperFault)) is done = absurd (free.keeper done (one.run.status.status ∙ ap status_of is))
  ends other is done = absurd done

  undeceived : IsUndeceived (keys_by one) one.base.start one.old.store one.new.store
  undeceived = record { tells = free.honest.tells; unfit = λ lie told. let none = free.honest.no_lie in absurd (cc (told, none)) }

  status_few : (refused : Bool) → one.run.ending ≡ Ran (Ok refused) → one.report.status ≤ 1
  status_few true is = let status = one.run.status.status ∙ ap status_of is in omega (arith, status)
  status_few false is = let status = one.run.status.status ∙ ap status_of is in omega (arith, status)

  says : (refused : Bool) → one.run.ending ≡ Ran (Ok refused) → one.report.status ≡ (if refused then 1 else 0)
  says true is = one.run.status.status ∙ ap status_of is
  says false is = one.run.status.status ∙ ap status_of is

  -- what a sink took of which no call failed
  took : {written0 written1 : Option (List ℕ)} {F : Type 0} {bytes : List ℕ} → ¬ F → Outputs written0 written1 F bytes → Appends written0 written1 bytes
  took {written0} {written1} sound cut = elim cut.all [ inl all ↦ subst (λ (l : List ℕ). Appends written0 written1 l) all cut.appends | inr failed ↦ absurd (sound failed) ]

  taken_all : (left0 left1 : Option (List ℕ)) → left0 ≡ Some input → Consumes left0 left1 one.run.taken → IsAtEnd left1 → one.run.taken ≡ input
  taken_all None left1 is given end = absurd (cc is)
  taken_all (Some xs) None is given end = absurd given
  taken_all (Some xs) (Some ys) is given end =
      sym (append-nil one.run.taken) ∙ ap (λ (l : List ℕ). one.run.taken ++ l) (sym end) ∙ sym given ∙ cc is

  -- what is seen, from a session with what is public there
  abbrev Seen_at : Public → ℕ → Type 0
  Seen_at p m = SeenAlone (StopsWithin one.run.ending (FailsBeside one.run.story.seen one.old.store.faults one.new.store.faults) (ReadsFullStash (keys_by one) one.base.start one.new.store)) p m None one.run.story.spelt one.run.story.answers (seen_by one)

  lawful_at : (s : Session) → (s.public ≡ one.base.public) → (s.asked ≡ one.base.count) → Seen_at s.public s.asked
  lawful_at s public asked = subst (λ (p : Public). Seen_at p s.asked) (sym public) (subst (λ (m : ℕ). Seen_at one.base.public m) (sym asked) (run_alone one flies).lawful)

  plainly : (s : Session) (refused : Bool) → (s.public ≡ one.base.public) → (s.asked ≡ one.base.count) → one.run.ending ≡ Ran (Ok refused) → (broken : Broken)
      → AnswersAlone one.run.ending s one.run.story.spelt broken one.run.story.answers (seen_by one) one.run.story.part → RunsPlainly one input s
  plainly s refused public asked is broken all =
      let why : Because one.base (Ran (Ok refused)) (TakesWords one.program one.words) (limit_of one.base.settings) one.run.taken one.run.ended one.run.story.more one.run.story.answers one.run.story.part one.old one.new =
      subst (λ (ending : Ending). Because one.base ending (TakesWords one.program one.words) (limit_of one.base.settings) one.run.taken one.run.ended one.run.story.more one.run.story.answers one.run.story.part one.old one.new) is one.run.status.because in
      let few = status_few refused is in
      let meant = answers_plainly _ one.run.ending None s one.run.story.spelt broken one.run.story.answers (seen_by one) one.run.story.part all
      (lawful_at s public asked) (answered_all one.run few) free.unfailed in
      let whole : one.run.taken ≡ input = taken_all one.old.left one.new.left free.left one.run.bytes.given (one.run.bytes.at_end why.2.whole) in
      let line : (printed one.run.story.answers ++ one.run.story.part) ++ last_line one.run.ending ≡ printed one.run.story.answers =
      ap (λ (ending : Ending). (printed one.run.story.answers ++ one.run.story.part) ++ last_line ending) is ∙ append-nil (printed one.run.story.answers ++ one.run.story.part)
      ∙ ap (λ (l : List ℕ). printed one.run.story.answers ++ l) why.2.all.no_part ∙ append-nil (printed one.run.story.answers) in
      record {
        texts = (λ i. texts_in (sym why.2.whole i) (after_line (sym whole i))) ∙ one.run.bytes.texts ∙ ap (λ (l : List (List ℕ)). one.run.story.served ++ l) why.2.all.no_more ∙ append-nil one.run.story.served;
        answered = meant.0;
        seen = meant.1;
        asked = (run_alone one flies).asked ∙ ap (λ (xs : List Entry). one.base.before ++ trace one.base.public xs) meant.1;
        printed = subst (λ (l : List ℕ). Appends one.old.written one.new.written l) line (took free.sinks one.run.output.grew);
        traced = subst (λ (xs : List Entry). Appends one.old.traced one.new.traced (traced one.tracing (trace one.base.public xs))) meant.1
            (subst (λ (l : List Access). Appends one.old.traced one.new.traced (traced one.tracing l)) (run_alone one flies).traced (took free.sinks one.run.output.traced_all));
        status = says refused is ∙ ap (λ (b : Bool). if b then 1 else 0) why.1;
      }

  abbrev s_of : Session → Session
  s_of s = drawing (keys_by one) s

  abbrev Meant : Session → Type 0
  Meant s = (broken : Broken) × AnswersAlone one.run.ending (s_of s) one.run.story.spelt broken one.run.story.answers (seen_by one) one.run.story.part

  abbrev Done : Session → Type 0
  Done s = Completes one.run.ending

  pub runs_plainly : FromEach one.base (λ s. RunsPlainly one input (s_of s))
  runs_plainly = go one.base.opened (one.run.status.completes free.takes input free.left free.limits free.source free.sinks)
      (meant_alone one.base flies (keys_by one) one.run.ending one.run.story one.old.store one.new.store one.run.accesses (one.run.answers.meant undeceived)) where
        at : (s : Session) → (s.public ≡ one.base.public) → (s.asked ≡ one.base.count) → Done s → Meant s → RunsPlainly one input (s_of s)
        at s public asked done all = let end = ends one.run.ending refl done in plainly (s_of s) end.0 public asked end.1 all.0 all.1

        go : (o : Option Opened) → HoldsFrom o one.base Done → HoldsFrom o one.base Meant → HoldsFrom o one.base (λ s. RunsPlainly one input (s_of s))
        go None done all = at (session_at one.base []) refl refl done all
        go (Some o) done all = λ tables rested. at (session_at one.base tables) refl refl (done tables rested) (all tables rested)
