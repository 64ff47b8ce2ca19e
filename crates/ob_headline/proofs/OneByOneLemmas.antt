-- A run of which no statement flies serves them one by one.
use Rattle.ob_headline.proofs.Words.{Access, after_line, ap, arith, batch_most, false, FliesNone, keys_by, length, List, most_of, next, Option, option_map_or, Outputs, Public, refl, script, positions_of, seen_by, Served, session_at, SomeRun, subst, texts_in, trace, trace_alone, trace_of, whole_of, words_of, ℕ, [], ◌+◌, ◌-◌, ◌∙◌, ◌∷◌, ◌≡◌, ◌≤◌}
use Rattle.std.specs.Prelude.{max, min}
use Rattle.ob_headline.proofs.AloneRuns.{few_spelt, run_alone}
use Rattle.ob_headline.proofs.PromptLemmas.{none_may}
use Rattle.ob_headline.proofs.SameAlone.{same_trace, whole_alone}
use Rattle.ob_headline.specs.Batches.{AnsweredExcept}
use Rattle.ob_headline.specs.Flights.{Position, public_whole, position_alone, positions, positions_alone}
use Rattle.ob_headline.specs.OneByOne.{OneByOne}
use Rattle.ob_headline.specs.Reruns.{positions_by}
use Rattle.ob_headline.specs.Tracing.{traced}
use Rattle.ob_headline.specs.Words.{Begins, SinksRose, Took, before_read}
use Rattle.ob_script.specs.Flights.{Entry, all_alone, drawn}

-- whatever the words
any_words : (words others : ℕ → ℕ) (t n : ℕ) (p : Public) (m : ℕ) (xs : List Served) → positions words t p m (all_alone xs) ≡ positions others n p m (all_alone xs)
unfolding positions
any_words words others t n p m [] = refl
any_words words others t n p m (x ∷ xs) =
    ap (λ (vs : List Position). position_alone p m x ∷ vs) (any_words words others t n (next p x.skeleton x.seen) (m + length (script p x.skeleton x.seen)) xs)

module _ (one : SomeRun) (flies : FliesNone one.base) where
  abbrev xs : List Served
  xs = seen_by one

  entries : one.run.story.entries ≡ all_alone xs
  entries = (run_alone one flies).entries

  sat : positions_by one ≡ positions_alone (session_at one.base []) xs
  sat = ap (λ (es : List Entry). positions_of one.base es) entries ∙ any_words (words_of one.base) (drawn 0) 0 0 one.base.public one.base.count xs

  whole : trace_of one.base (whole_of (length one.run.story.seen) one.run.story.entries) ≡ trace one.base.public one.run.story.seen
  whole =
      ap (λ (es : List Entry). trace_of one.base (whole_of (length one.run.story.seen) es)) entries
      ∙ ap (λ (es : List Entry). trace_of one.base es) (whole_alone one.run.story.seen one.run.story.last (run_alone one flies).one_last)
      ∙ trace_alone (words_of one.base) 0 one.base.public one.run.story.seen

  begun : length one.run.story.spelt ≤ length one.run.story.served + 1
  begun = let few = few_spelt flies one.run in omega (arith, few, one.run.statements.each)

  -- without batches none waits
  all_prompt : batch_most one.base.public ≡ 1 → Begins (texts_in false (after_line (before_read one.new.gave one.run.taken))) one.run.story.served
  all_prompt none =
      let p = public_whole one.base one.run.story in
      let texts = texts_in false (after_line (before_read one.new.gave one.run.taken)) in
      none_may texts one.run.story.served
      (subst (λ (n : ℕ). AnsweredExcept p 1 n texts one.run.story.served) flies (subst (λ (n : ℕ). AnsweredExcept p n (most_of one.base) texts one.run.story.served) none one.run.prompt.waits))

  pub one_by_one : OneByOne one
  one_by_one = record {
    begun = begun;
    one_last = (run_alone one flies).one_last;
    positions = sat;
    asked = (run_alone one flies).asked;
    traced_all = subst (λ (l : List Access). Outputs one.old.traced one.new.traced (SinksRose one.old.faults one.new.faults) (traced one.tracing l)) (run_alone one flies).traced one.run.output.traced_all;
    traced_whole = subst (λ (l : List Access). Took one.old.traced one.new.traced (traced one.tracing l)) whole one.run.output.traced_whole;
    meant = same_trace one.base (keys_by one) one.run.story.spelt flies;
    prompt = λ none. all_prompt (ap (λ (o : Option ℕ). option_map_or (λ m. max 1 (min m (one.base.public.buffer - one.base.public.pack))) o 1) none);
  }
