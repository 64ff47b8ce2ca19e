-- What a session leaves whose tables are saved, by the walk over its texts.
use Rattle.ob_shell.proofs.Words.{Answer, Base, BeginsToSave, Ending, first_draws, KeySet, FalseRead, List, Machine, None, Option, refl, RevState, Some, Story, world_of, ℕ, ◌≡◌}
use Rattle.ob_headline.specs.Flights.{words_of}
use Rattle.ob_headline.specs.SavedHeadline.{LeavesSaved}
use Rattle.ob_shell.proofs.LeaveLemmas.{leaves_saved}
use Rattle.ob_shell.proofs.WalkLemmas.{Walked}
use Rattle.ob_vault.proofs.WorldSteps.{calm_none}

module _ {R : Type 0} {Lost : Type 0} (state : R → RevState) (ending : Ending) (m0 m1 m2 : Machine R) (texts more : List (List ℕ)) (answers : List Answer) (part : List ℕ)
    (walk : Walked state Lost ending m0 m1 m2 texts more answers part) where
  -- what became of the texts
  abbrev pub walked_story : Story
  walked_story = record {
    served = texts;
    more = more;
    spelt = walk.spelt;
    answers = answers;
    part = part;
    seen = walk.seen;
    last = walk.last;
    entries = walk.entries;
  }

  no_lie_first : (o : Option FalseRead) → m0.store.lie ≡ o → m2.store.lie ≡ None → m0.store.lie ≡ None
  no_lie_first None is none = is
  no_lie_first (Some lie) is none = let told = walk.lie lie is in absurd (cc (told, none))

  -- SELECTs fly by the words of the base
  pub session_leaves : (secret salt : List ℕ) (base : Base) (keys : KeySet) → BeginsToSave state secret salt base keys m0 → m0.flights.words ≡ words_of base
      → LeavesSaved secret salt base keys ending walked_story m0.store m2.store m0.keeper m2.keeper
  session_leaves secret salt base keys begins words =
      leaves_saved state secret salt base keys m0 m2 begins words ending walked_story walk.along walk.each walk.follow
      (λ tells none tables held.
      let from = walk.meant (first_draws keys) begins.drawn tells (calm_none (world_of state m0.engine m0.store) (no_lie_first m0.store.lie refl none))
      (record { unfit = λ lie is fits. absurd (cc (is, none)) }) tables held in
      (from.broken, from.meant, from.behind.path))
