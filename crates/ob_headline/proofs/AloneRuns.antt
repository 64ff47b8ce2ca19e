-- What is promised of a run of which no statement flies, in terms of statements that are each served alone.
use Rattle.ob_headline.proofs.Words.{Access, Accesses, AnswersFrom, ap, AreEntries, AreSeen, arith, Base, Bool, Broken, drawing, Ending, FliesNone, FromEach, Headline, inl, inr, keys_by, KeySet, length, List, most_of, None, Outside, Public, Report, positions_of, Seen, Served, session_at, SomeRun, Stmt, StoreState, Story, subst, trace, trace_of, words_of, ℕ, [], ◌++◌, ◌+◌, ◌-◌, ◌∙◌, ◌∷◌, ◌≡◌, ◌≤◌}
use Rattle.ob_headline.proofs.BaseLemmas.{from_each}
use Rattle.ob_headline.proofs.ServedAlone.{AnswersAlone, AreOf, SeenAlone, as_alone, entered_alone, seen_alone, seen_of, traced_alone}
use Rattle.ob_headline.specs.Accesses.{StopsWithin}
use Rattle.ob_headline.specs.Failures.{FailsBeside}
use Rattle.ob_headline.specs.FullStash.{ReadsFullStash}
use Rattle.ob_script.specs.Flights.{Entry, all_alone}

-- what is seen of its statements, and what they asked
pub record RanAlone (base : Base) (keys : KeySet) (ending : Ending) (story : Story) (old new : StoreState) : Type 0 where
  pub lawful : SeenAlone (StopsWithin ending (FailsBeside story.seen old.faults new.faults) (ReadsFullStash keys base.start new)) base.public base.count None story.spelt story.answers (story.seen ++ story.last)
  pub asked : new.asked ≡ base.before ++ trace base.public (story.seen ++ story.last)
  pub traced : trace_of base story.entries ≡ trace base.public (story.seen ++ story.last)
  pub entries : story.entries ≡ all_alone (story.seen ++ story.last)
  pub one_last : length story.last ≤ 1

-- of statements that are each served alone one at most wasn't answered
few_begun : (most : ℕ) (seen last : List Served) → AreEntries most (length seen) (all_alone (seen ++ last)) → length last ≤ 1
unfolding AreEntries
few_begun most [] [] are = omega arith
few_begun most [] (x ∷ []) are = omega arith
few_begun most [] (x ∷ y ∷ last) are = absurd (elim are.1 [ inl some ↦ omega (arith, some) | inr none ↦ cc none ])
few_begun most (x ∷ seen) last are =
    let less : length (x ∷ seen) - 1 ≡ length seen = omega arith in
    few_begun most seen last (subst (λ (n : ℕ). AreEntries most n (all_alone (seen ++ last))) less are.2)

module _ (base : Base) (one : FliesNone base) (keys : KeySet) (ending : Ending) (story : Story) (old new : StoreState) (accesses : Accesses base keys ending story old new) where
  abbrev all : List Served
  all = story.seen ++ story.last

  entries : story.entries ≡ all_alone all
  entries = entered_alone base story one accesses.entered

  abbrev Leaves : Public → Stmt → Seen → Type 0
  Leaves = StopsWithin ending (FailsBeside story.seen old.faults new.faults) (ReadsFullStash keys base.start new)

  pub accesses_alone : RanAlone base keys ending story old new
  accesses_alone = record {
    lawful = seen_alone Leaves (words_of base) 0 base.public base.count None story.spelt story.answers all
        (subst (λ (es : List Entry). AreSeen Leaves (positions_of base es) None story.spelt story.answers all) entries accesses.lawful);
    asked = accesses.asked ∙ ap (λ (l : List Access). base.before ++ l) (traced_alone base story one accesses.entered);
    traced = traced_alone base story one accesses.entered;
    entries = entries;
    one_last = few_begun (most_of base) story.seen story.last (subst (AreEntries (most_of base) (length story.seen)) entries accesses.entered.entries);
  }

  pub are_of : AreOf story.spelt all
  are_of = seen_of Leaves base.public base.count None story.spelt story.answers all accesses_alone.lawful

  pub meant_alone : FromEach base (λ s. (broken : Broken) × AnswersFrom ending (positions_of base story.entries) (drawing keys s) story.spelt broken story.answers all story.part)
      → FromEach base (λ s. (broken : Broken) × AnswersAlone ending (drawing keys s) story.spelt broken story.answers all story.part)
  meant_alone =
      from_each base (λ s. (broken : Broken) × AnswersFrom ending (positions_of base story.entries) (drawing keys s) story.spelt broken story.answers all story.part)
      (λ s. (broken : Broken) × AnswersAlone ending (drawing keys s) story.spelt broken story.answers all story.part)
      (λ tables meant. (
        meant.0,
        as_alone (words_of base) 0 ending (drawing keys (session_at base tables)) story.spelt meant.0 story.answers all story.part are_of
            (subst (λ (es : List Entry). AnswersFrom ending (positions_of base es) (drawing keys (session_at base tables)) story.spelt meant.0 story.answers all story.part) entries meant.1),
      ))

-- the same of a headline, and of a run
pub headline_alone : {base : Base} {keys : List ℕ → KeySet} {Takes : Type 0} {tracing : Bool} {old new : Outside} {report : Report} → FliesNone base → (run : Headline base keys Takes tracing old new report)
    → RanAlone base (keys run.taken) run.ending run.story old.store new.store
headline_alone {base} {keys} {old = old} {new = new} one run = accesses_alone base one (keys run.taken) run.ending run.story old.store new.store run.accesses

pub few_spelt : {base : Base} {keys : List ℕ → KeySet} {Takes : Type 0} {tracing : Bool} {old new : Outside} {report : Report} → FliesNone base → (run : Headline base keys Takes tracing old new report)
    → length run.story.spelt ≤ length run.story.answers + 1
few_spelt one run =
    let last = (headline_alone one run).one_last in
    omega (arith, last, run.statements.begun, run.statements.each)

pub run_alone : (one : SomeRun) → FliesNone one.base → RanAlone one.base (keys_by one) one.run.ending one.run.story one.old.store one.new.store
run_alone one none = headline_alone none one.run
