-- The whole run, from its first line and its session.
use Rattle.ob_shell.proofs.Words.{Access, All-nil, ap, append-nil, Appends, Appends-nil, arith, BadKey, Base, batch_most, before_read, Begins, Bool, Config, cut_off, drop, Ending, EndingTally, EndsBy, EndsUntampered, Err, false, Faults, Fed, Fetch, FirstLine, flagged, FlightSettings, flying, fresh, Halt, IfOk, inl, inr, IsFedBy, IsFresh, IsTrue, KeyRead, KeySet, last_line, length, length-append, limit_of, List, list_any, LosesSome, most_some, Ok, Option, Outputs, Outputs-after, Outputs-fault, Outputs-whole, printed, Public, refl, Result, RevState, Rises, Position, SinksRose, Some, SpellFirst, statements, Stop, StoreState, subst, sym, take, Tally, Took, traced, true, Usage, ℕ, [], ◌++◌, ◌∙◌, ◌∷◌, ◌≡◌, ◌≢◌, ◌≤◌, ◌⊎◌}
use Rattle.std.proofs.Common.{◌==◌}
use Rattle.std.proofs.KnownBytes.{Consumes-trans, Consumes-nil}
use Rattle.ob_base.specs.declared.refusal.Stop.TheVariants.{Tampered, SourceFault, SinkFault, NoMemory, InputLimit, StoreFault, StashFull, KeeperFault}
use Rattle.ob_select.specs.Opening.{is_of_rows}
use Rattle.ob_headline.proofs.FlatLemmas.{start_flat}
use Rattle.ob_headline.proofs.PromptLemmas.{all_answered, prompt_all, prompt_line, waits_behind}
use Rattle.ob_headline.proofs.TextLemmas.{rest_of-nil, texts_of-nil}
use Rattle.ob_headline.specs.Bases.{start}
use Rattle.ob_headline.specs.Disturbed.{MeantUntil, meant_entries}
use Rattle.ob_headline.specs.Flights.{AreEntries, AreGathered, EndedBy, GoesOn, most_of, public_whole, positions, positions_of, served_by, whole_of as entries_whole}
use Rattle.ob_headline.specs.Failures.{failures}
use Rattle.ob_headline.specs.KeyLine.{has_lf, first_line, after_line, secret_of}
use Rattle.ob_headline.specs.Texts.{is_over, rest_of, texts_of, texts_in}
use Rattle.ob_headline.specs.Accesses.{AreSeen, any_cut, ends_within}
use Rattle.ob_headline.specs.Meaning.{AnswersFrom}
use Rattle.ob_headline.specs.Status.{HasSecret, StaysAlone}
use Rattle.ob_headline.specs.declared.ending.Ending.TheVariants.{Ran as RanEnding}
use Rattle.ob_print.proofs.CutLemmas.{Outputs-more}
use Rattle.ob_script.specs.Flights.{trace_in}
use Rattle.ob_shell.proofs.CountLemmas.{rises_earlier, rises_later}
use Rattle.ob_shell.proofs.DisturbLemmas.{take_begins}
use Rattle.ob_shell.proofs.KeyLemmas.{after_line-none, has_lf-nil}
use Rattle.ob_shell.proofs.TookLemmas.{took_more, took_whole}
use Rattle.ob_shell.proofs.StepLemmas.{printed-nil}
use Rattle.ob_shell.proofs.TallyLemmas.{any_refused-nil, flag_by, tally_by}
use Rattle.ob_shell.proofs.TraceLemmas.{traced-nil}
use Rattle.ob_shell.specs.Tallies.{tally_of}
use Rattle.ob_shell.specs.Top.{EndsUnfaulted, TraceSink, RanSays, EndingSays, EndingWords, Carried, RunShown, RanAfter, EndingCause, EndingFlag, StatusCause}
use Rattle.ob_shell.specs.declared.key.FirstLine.TheVariants.{Secret, Last, Bad}
use Rattle.ob_store.proofs.Steps.{since_refl}
use Rattle.ob_headline.specs.Story.{unserved}
use Rattle.ob_headline.specs.Prompt.{Prompt}

-- ---- more bytes after the first line

first_line-step : (x : ℕ) (xs ys : List ℕ) (t : Bool) → (x == 10) ≡ t → has_lf (x ∷ xs) ≡ true
    → (has_lf xs ≡ true → first_line (xs ++ ys) ≡ first_line xs) → first_line ((x ∷ xs) ++ ys) ≡ first_line (x ∷ xs)
unfolding has_lf first_line
first_line-step x xs ys true e h deep = rw e
first_line-step x xs ys false e h deep = let k = rw e at h in rw e (ap (λ (l : List ℕ). x ∷ l) (deep k))

after_line-step : (x : ℕ) (xs ys : List ℕ) (t : Bool) → (x == 10) ≡ t → has_lf (x ∷ xs) ≡ true
    → (has_lf xs ≡ true → after_line (xs ++ ys) ≡ after_line xs ++ ys) → after_line ((x ∷ xs) ++ ys) ≡ after_line (x ∷ xs) ++ ys
unfolding has_lf after_line
after_line-step x xs ys true e h deep = rw e
after_line-step x xs ys false e h deep = let k = rw e at h in rw e (deep k)

pub first_line-more : (xs ys : List ℕ) → has_lf xs ≡ true → first_line (xs ++ ys) ≡ first_line xs
unfolding has_lf
first_line-more [] ys h = absurd (cc)
first_line-more (x ∷ xs) ys h = first_line-step x xs ys (x == 10) refl h (first_line-more xs ys)

pub after_line-more : (xs ys : List ℕ) → has_lf xs ≡ true → after_line (xs ++ ys) ≡ after_line xs ++ ys
unfolding has_lf
after_line-more [] ys h = absurd (cc)
after_line-more (x ∷ xs) ys h = after_line-step x xs ys (x == 10) refl h (after_line-more xs ys)

-- ---- nothing was served

pub nothing_over : is_over (rest_of [] []) ≡ false
nothing_over = rw rest_of-nil

-- so it ends within no statement
unfaulted_ends : (ending : Ending) → EndsUnfaulted ending → ends_within ending ≡ true → ⊥
unfaulted_ends (RanEnding (Err StoreFault)) fine ends = fine
unfaulted_ends (RanEnding (Err StashFull)) fine ends = fine
unfaulted_ends (RanEnding (Err KeeperFault)) fine ends = fine
unfaulted_ends other fine ends = cc ends

pub unstarted : {keys : KeySet} (tr : TraceSink) (settings : Option Config) (flight : Option FlightSettings) (secret : Option (List ℕ)) (s : StoreState) (more : List (List ℕ)) (ending : Ending) → IsFresh s → tr.new ≡ tr.old → EndsUntampered ending → EndsUnfaulted ending
    → Carried tr (flying flight (fresh settings)) keys secret s s 0 (unserved more) ending
unfolding SpellFirst AreSeen AnswersFrom MeantUntil failures cut_off any_cut statements served_by AreEntries AreGathered positions trace_in entries_whole meant_entries
unstarted tr settings flight secret s more ending blank untraced untampered unfaulted = record {
  statements = record { spells = tt; reached = omega arith; begun = omega arith; keyed = inr refl; each = refl };
  accesses = record {
    flat = start_flat settings;
    entered = record { served = refl; entries = tt; gathered = tt; ended = All-nil (λ (v : Position). EndedBy v.left v) };
    begun = λ ends. absurd (unfaulted_ends ending unfaulted ends);
    each_seen = refl;
    lawful = refl;
    aloft = tt;
    drawn = record { numbers = []; are = refl; apart = λ i j x before within. absurd (omega (arith, within)) };
    asked = blank.unasked;
    failed = λ alone. omega arith;
    cut = omega arith;
    unfailed = λ not. refl;
  };
  traced_whole = took_whole (subst (λ (w : Option (List ℕ)). Appends tr.old w (traced tr.on [])) (sym untraced) (rw (traced-nil) (Appends-nil tr.old)));
  answers = record {
    meant = λ undeceived. ([], (refl, refl));
    later = since_refl s;
    always = λ tells n before. record {
      meant = tt;
      begins = subst (λ (xs : List Access). Begins (take n xs) []) (sym blank.unasked) (take_begins n []);
      quiet = λ within. let none = ap length blank.unasked in omega (arith, none);
    };
  };
  tampering = record { tampered = λ lie is unfit. absurd (cc (blank.honest, is)) };
  sealing = record {
    sealed = λ tells. record { each = λ region place block from lives last good passes. absurd (lives (blank.empty region)) };
    sealed_before = λ tells. record { each = λ region place block from lives last good passes. absurd (lives (blank.empty region)) };
  };
  rows = record {
    most_open = omega arith;
    some_open = λ some. let none : IsTrue (list_any is_of_rows []) = subst (λ (xs : List Access). IsTrue (list_any is_of_rows xs)) blank.unasked some in absurd (cc none);
  };
  untampered = λ honest. untampered;
  at_read = λ region place is. absurd (subst (λ (e : Ending). EndsUntampered e) is untampered);
  faulted = λ is. absurd (subst (λ (e : Ending). EndsUnfaulted e) is unfaulted);
  saving = λ is. absurd (subst (λ (e : Ending). EndsUnfaulted e) is unfaulted);
}

-- none were begun
pub none_began : (settings : Option Config) (flight : Option FlightSettings) → GoesOn (drop 0 (positions_of (flying flight (fresh settings)) []))
unfolding positions
none_began settings flight = tt

pub took_none : (w : Option (List ℕ)) → Took w w (printed [])
took_none w = took_whole (rw printed-nil (Appends-nil w))

pub no_bytes : {F : Type 0} (w : Option (List ℕ)) → Outputs w w F ((printed [] ++ []) ++ [])
no_bytes {F} w = rw printed-nil (Outputs-whole w w F [] (Appends-nil w))

-- from a feed that had nothing unread
pub piece_is : {f0 f1 : Fetch} {l0 l1 : Option (List ℕ)} {xs : List ℕ} (fed : Fed f0 f1 l0 l1 xs) → f0.unread ≡ [] → fed.piece ≡ xs ++ f1.unread
piece_is {f1 = f1} {xs = xs} fed none = subst (λ (u : List ℕ). u ++ fed.piece ≡ xs ++ f1.unread) none fed.joined

module _ (tally : Tally) (tr : TraceSink) (untraced : tr.new ≡ tr.old) (settings : Option Config) (flight : Option FlightSettings) (f0 f1 : Fetch) (none : f0.unread ≡ [])
    (start : f0.taken ≡ 0) (top : f0.limit ≡ limit_of settings) (below : f1.taken ≤ f1.limit) {gave : ℕ} (by : IsFedBy f1 gave) where
  pub piece_within : {l0 l1 : Option (List ℕ)} {xs : List ℕ} (fed : Fed f0 f1 l0 l1 xs) → length fed.piece ≤ limit_of settings
  piece_within fed = omega (arith, fed.taken, fed.limit)

  -- no text was whole before the last read
  pub piece_prompt : {l0 l1 : Option (List ℕ)} {xs : List ℕ} (p : Public) (most flown : ℕ) → 1 ≤ most → (fed : Fed f0 f1 l0 l1 xs) → length (after_line (xs ++ f1.unread)) ≤ length f1.unread
      → Prompt p most flown fed.piece [] gave
  piece_prompt {xs = xs} p most flown some fed ahead =
      let late = by.late in
      let few = by.few in
      let same = ap (λ (l : List ℕ). length (after_line l)) (piece_is fed none) in
      record { few = omega (arith, few, fed.taken); waits = all_answered p most flown _ [] some (prompt_line gave fed.piece [] (omega (arith, late, same, ahead))) }

  -- where a run begins afresh
  pub fresh_prompt : {l0 l1 : Option (List ℕ)} {xs : List ℕ} (p : Public) (fed : Fed f0 f1 l0 l1 xs) → length (after_line (xs ++ f1.unread)) ≤ length f1.unread
      → Prompt p (batch_most (flying flight (fresh settings)).public) (most_of (flying flight (fresh settings))) fed.piece [] gave
  fresh_prompt p = piece_prompt p (batch_most (flying flight (fresh settings)).public) (most_of (flying flight (fresh settings))) (most_some (flying flight (fresh settings)).public)

  unfoldable pub shown_source_fault : {F : Type 0} {keys : List ℕ → KeySet} {l0 l1 : Option (List ℕ)} (w : Option (List ℕ)) (s : StoreState) → IsFresh s
      → KeyRead f0 f1 l0 l1 (Err Halt.SourceFault) → RunShown tally tr (flying flight (fresh settings)) keys l0 l1 gave w w s s 0 (RanEnding (Err SourceFault)) [] F
  shown_source_fault w s fresh read =
      let e = piece_is read.fed none in
      let ends = rw (← e) at read.ends in
      let after = after_line-none read.fed.piece ends.0 in
      record {
        taken = read.fed.piece;
        ended = false;
        story = unserved [];
        bytes = record {
          given = read.fed.consumed;
          within = piece_within read.fed;
          at_end = λ (h : false ≡ true). absurd (cc);
          texts = rw after (texts_of-nil []);
        };
        prompt = fresh_prompt _ read.fed read.ahead;
        carried = unstarted tr settings flight _ s [] _ fresh untraced tt tt;
        grew = no_bytes w;
        whole = took_none w;
        answered = inl (none_began settings flight);
        flag = tt;
        counted = tt;
        says = record { line = inr (ends.0, ends.1); cut = refl; all = record { no_more = refl; no_part = refl }; short = rw after nothing_over };
      }

  unfoldable pub shown_bad_key : {F : Type 0} {keys : List ℕ → KeySet} {l0 l1 : Option (List ℕ)} (w : Option (List ℕ)) (s : StoreState) → IsFresh s
      → KeyRead f0 f1 l0 l1 (Ok Bad) → RunShown tally tr (flying flight (fresh settings)) keys l0 l1 gave w w s s 0 BadKey [] F
  shown_bad_key w s fresh read =
      let e = piece_is read.fed none in
      let ends = rw (← e) at read.ends in
      record {
        taken = read.fed.piece;
        ended = false;
        story = unserved (texts_of [] (after_line read.fed.piece));
        bytes = record {
          given = read.fed.consumed;
          within = piece_within read.fed;
          at_end = λ (h : false ≡ true). absurd (cc);
          texts = refl;
        };
        prompt = fresh_prompt _ read.fed read.ahead;
        carried = unstarted tr settings flight _ s _ _ fresh untraced tt tt;
        grew = no_bytes w;
        whole = took_none w;
        answered = inl (none_began settings flight);
        flag = tt;
        counted = tt;
        says = ends;
      }

  unfoldable pub shown_last : tally ≡ tally_of [] → {F : Type 0} {keys : List ℕ → KeySet} {l0 l1 : Option (List ℕ)} (key : List ℕ) (w : Option (List ℕ)) (s : StoreState) → IsFresh s
      → KeyRead f0 f1 l0 l1 (Ok (Last key)) → RunShown tally tr (flying flight (fresh settings)) keys l0 l1 gave w w s s 0 (RanEnding (Ok false)) [] F
  shown_last blank key w s fresh read =
      let e = piece_is read.fed none in
      let ends = rw (← e) at read.ends in
      record {
        taken = read.fed.piece;
        ended = true;
        story = unserved [];
        bytes = record {
          given = read.fed.consumed;
          within = piece_within read.fed;
          at_end = λ _. ends.2;
          texts = rw (ends.1, texts_of-nil, rest_of-nil);
        };
        prompt = fresh_prompt _ read.fed read.ahead;
        carried = unstarted tr settings flight _ s [] _ fresh untraced tt tt;
        grew = no_bytes w;
        whole = took_none w;
        answered = inl (none_began settings flight);
        flag = sym any_refused-nil;
        counted = blank;
        says = record {
          secret = rw ends.0;
          whole = refl;
          all = record { no_more = refl; no_part = refl };
          short = rw ends.1 nothing_over;
          within = omega (arith, read.fed.taken, read.fed.limit, ends.3);
        };
      }

-- ---- the session after the first line

-- memory was wanting for the engine
pub ran_nothing : {R : Type 0} {state : R → RevState} {Lost : Type 0} {keys : KeySet} (tr : TraceSink) (settings : Option Config) (flight : Option FlightSettings) (secret : Option (List ℕ)) (f : Fetch)
    (l : Option (List ℕ)) (gave : ℕ) (w : Option (List ℕ)) (s : StoreState) → IsFresh s → tr.new ≡ tr.old → length f.unread ≤ gave
    → RanAfter state tr (flying flight (fresh settings)) keys secret f f l l gave w w s s 0 Lost (Err NoMemory)
ran_nothing {Lost = Lost} tr settings flight secret f l gave w s blank untraced late = record {
  piece = [];
  consumed = Consumes-nil l;
  taken = omega arith;
  limit = refl;
  ended = false;
  at_end = λ (h : false ≡ true). absurd (cc);
  story = unserved (texts_in false (f.unread ++ []));
  texts = refl;
  prompt = all_answered _ (batch_most (flying flight (fresh settings)).public) (most_of (flying flight (fresh settings))) _ [] (most_some (flying flight (fresh settings)).public)
      (subst (λ (xs : List (List ℕ)). Begins (texts_in false (before_read gave (f.unread ++ []))) xs) (texts_of-nil [])
      (prompt_all (f.unread ++ []) [] f.unread gave (append-nil f.unread) late));
  carried = unstarted tr settings flight secret s _ _ blank untraced tt tt;
  rows = inr (refl, refl);
  cut = rw printed-nil (Outputs-whole w w Lost [] (Appends-nil w));
  whole = took_none w;
  answered = inl (none_began settings flight);
  counted = tt;
  ends = tt;
}

pub says_of : (result : Result Bool Stop) (f : Fetch) (max : ℕ) (taken : List ℕ) (ended : Bool) (more : List (List ℕ)) (part : List ℕ)
    → HasSecret taken → length taken ≡ f.taken → f.limit ≡ max
    → EndsBy f ended (after_line taken) more part result → RanSays result max taken ended more part
says_of (Ok flag) f max taken ended more part h n top e = record {
  secret = h;
  whole = e.0;
  all = record { no_more = e.1; no_part = e.2 };
  short = e.3;
  within = omega (arith, e.4);
}
says_of (Err NoMemory) f max taken ended more part h n top e = tt
says_of (Err SourceFault) f max taken ended more part h n top e = record {
  line = inl h;
  cut = e.0;
  all = record { no_more = e.1; no_part = e.2 };
  short = e.3;
}
says_of (Err InputLimit) f max taken ended more part h n top e = record {
  secret = h;
  cut = e.0;
  all = record { no_more = e.1; no_part = e.2 };
  limit = elim e.3 [ inl over ↦ inl over | inr full ↦ inr (n ∙ full ∙ top) ];
}
says_of other f max taken ended more part h n top e = h

-- what follows the first line, and the secret in it
pub after_secret : {f0 f1 : Fetch} {l0 l1 : Option (List ℕ)} {key : List ℕ} (piece : List ℕ) → f0.unread ≡ [] → (read : KeyRead f0 f1 l0 l1 (Ok (Secret key)))
    → (after_line (read.fed.piece ++ piece) ≡ f1.unread ++ piece) × (secret_of (first_line (read.fed.piece ++ piece)) ≡ Some key)
after_secret piece none read =
    let e = piece_is read.fed none in
    let ends = rw (← e) at read.ends in (
      after_line-more read.fed.piece piece ends.1 ∙ ap (λ (l : List ℕ). l ++ piece) ends.2,
      ap secret_of (first_line-more read.fed.piece piece ends.1) ∙ ends.0,
    )

pub after_last : {f0 f1 : Fetch} {l0 l1 : Option (List ℕ)} {key : List ℕ} (piece : List ℕ) → piece ≡ [] → f0.unread ≡ [] → (read : KeyRead f0 f1 l0 l1 (Ok (Last key)))
    → (after_line (read.fed.piece ++ piece) ≡ f1.unread ++ piece) × (secret_of (first_line (read.fed.piece ++ piece)) ≡ Some key)
after_last {f1 = f1} piece last none read =
    let e = piece_is read.fed none in
    let ends = rw (← e) at read.ends in
    let all : read.fed.piece ++ piece ≡ read.fed.piece = ap (λ (l : List ℕ). read.fed.piece ++ l) last ∙ append-nil read.fed.piece in
    let rest : f1.unread ++ piece ≡ [] = (λ i. ends.4 i ++ last i) in (
      ap after_line all ∙ ends.1 ∙ sym rest,
      ap (λ (l : List ℕ). secret_of (first_line l)) all ∙ ends.0,
    )

-- the session after the first line, of which this was carried out
unfoldable pub shown_by : {R : Type 0} {state : R → RevState} {Lost : Type 0} {k : KeySet} {keys : List ℕ → KeySet} {tally : Tally} {tr : TraceSink} (base : Base) {f0 f1 f2 : Fetch} {gave : ℕ} {l0 l1 l2 w0 w2 : Option (List ℕ)} {s0 s2 : StoreState} {high : ℕ} {first : Result FirstLine Halt} (key : List ℕ) (result : Result Tally Stop)
    → f0.taken ≡ 0 → f0.limit ≡ limit_of base.settings → f2.taken ≤ f2.limit → IsFedBy f2 gave
    → (read : KeyRead f0 f1 l0 l1 first) (ran : RanAfter state tr base k (Some key) f1 f2 l1 l2 gave w0 w2 s0 s2 high Lost result)
    → after_line (read.fed.piece ++ ran.piece) ≡ f1.unread ++ ran.piece → secret_of (first_line (read.fed.piece ++ ran.piece)) ≡ Some key
    → Carried tr base (keys (read.fed.piece ++ ran.piece)) (secret_of (first_line (read.fed.piece ++ ran.piece))) s0 s2 high ran.story (RanEnding (flagged result))
    → IfOk result (λ t. tally ≡ t)
    → RunShown tally tr base keys l0 l2 gave w0 w2 s0 s2 high (RanEnding (flagged result)) [] Lost
shown_by {Lost = Lost} {tally = tally} base {f1 = f1} {f2 = f2} {gave = gave} {l2 = l2} {w0 = w0} {w2 = w2} {s0 = s0} {s2 = s2} {high = high} key result start top below by read ran after line carried told =
    let secret : HasSecret (read.fed.piece ++ ran.piece) = rw line in
    let count : length (read.fed.piece ++ ran.piece) ≡ f2.taken =
    omega (arith, length-append read.fed.piece ran.piece, read.fed.taken, ran.taken) in
    let limit : f2.limit ≡ limit_of base.settings = ran.limit ∙ read.fed.limit ∙ top in
    record {
      taken = read.fed.piece ++ ran.piece;
      ended = ran.ended;
      story = ran.story;
      bytes = record {
        given = Consumes-trans _ _ _ _ _ read.fed.consumed ran.consumed;
        within = omega (arith, count, limit);
        at_end = ran.at_end;
        texts = ap (texts_in ran.ended) after ∙ ran.texts;
      };
      prompt = record {
        few = let few = by.few in omega (arith, few, count);
        waits = waits_behind (public_whole base ran.story) (batch_most base.public) (most_of base) gave _ _ ran.story.served after ran.prompt;
      };
      carried = carried;
      grew = subst (λ (l : List ℕ). Outputs w0 w2 Lost l) (sym (append-nil (printed ran.story.answers ++ ran.story.part))) ran.cut;
      whole = ran.whole;
      answered = ran.answered;
      flag = flag_by result ran.story.answers ran.counted;
      counted = tally_by result ran.story.answers tally ran.counted told;
      says =
          says_of (flagged result) f2 (limit_of base.settings) _ ran.ended ran.story.more ran.story.part secret count limit
          (subst (λ (l : List ℕ). EndsBy f2 ran.ended l ran.story.more ran.story.part (flagged result)) (sym after) ran.ends);
    }

-- the keys are those that its first line comes to, or others, whatever was taken
pub shown_ran : {R : Type 0} {state : R → RevState} {Lost : Type 0} {k : KeySet} (keys : List ℕ → KeySet) {tally : Tally} {tr : TraceSink} (base : Base) {f0 f1 f2 : Fetch} {gave : ℕ} {l0 l1 l2 w0 w2 : Option (List ℕ)} {s0 s2 : StoreState} {high : ℕ} (key : List ℕ) (result : Result Tally Stop)
    → f0.unread ≡ [] → f0.taken ≡ 0 → f0.limit ≡ limit_of base.settings → f2.taken ≤ f2.limit → IsFedBy f2 gave
    → KeyRead f0 f1 l0 l1 (Ok (Secret key)) → RanAfter state tr base k (Some key) f1 f2 l1 l2 gave w0 w2 s0 s2 high Lost result
    → ((taken : List ℕ) → secret_of (first_line taken) ≡ Some key → keys taken ≡ k) → IfOk result (λ t. tally ≡ t)
    → RunShown tally tr base keys l0 l2 gave w0 w2 s0 s2 high (RanEnding (flagged result)) [] Lost
shown_ran keys {tr = tr} base {s0 = s0} {s2 = s2} {high = high} key result none start top below by read ran same told =
    let behind = after_secret ran.piece none read in
    let taken = read.fed.piece ++ ran.piece in
    let keyed = subst (λ (x : KeySet). Carried tr base x (Some key) s0 s2 high ran.story (RanEnding (flagged result))) (sym (same taken behind.1)) ran.carried in
    shown_by base key result start top below by read ran behind.0 behind.1
    (subst (λ (x : Option (List ℕ)). Carried tr base (keys taken) x s0 s2 high ran.story (RanEnding (flagged result))) (sym behind.1) keyed) told

-- ---- before the input is read

-- nothing was read
unfoldable pub shown_unread : {F : Type 0} {keys : List ℕ → KeySet} (tally : Tally) (tr : TraceSink) (settings : Option Config) (flight : Option FlightSettings) (l : Option (List ℕ)) (gave : ℕ) (w : Option (List ℕ)) (s : StoreState) (ending : Ending) → IsFresh s → tr.new ≡ tr.old → EndsUntampered ending → EndsUnfaulted ending → EndingFlag ending [] → EndingTally ending [] tally
    → EndingSays ending (limit_of settings) [] l false (texts_of [] (after_line [])) [] → RunShown tally tr (flying flight (fresh settings)) keys l l gave w w s s 0 ending [] F
shown_unread tally tr settings flight l gave w s ending blank untraced untampered unfaulted flag counted says = record {
  taken = [];
  ended = false;
  story = unserved (texts_of [] (after_line []));
  bytes = record {
    given = Consumes-nil l;
    within = omega arith;
    at_end = λ (h : false ≡ true). absurd (cc);
    texts = refl;
  };
  prompt = record {
    few = omega arith;
    waits = all_answered _ (batch_most (flying flight (fresh settings)).public) (most_of (flying flight (fresh settings))) _ [] (most_some (flying flight (fresh settings)).public)
        (prompt_line gave [] [] (rw (after_line-none [] has_lf-nil) (omega arith)));
  };
  carried = unstarted tr settings flight _ s _ _ blank untraced untampered unfaulted;
  grew = no_bytes w;
  whole = took_none w;
  answered = inl (none_began settings flight);
  flag = flag;
  counted = counted;
  says = says;
}

pub takes_of : (ending : Ending) {Takes : Type 0} → ending ≢ Usage → Takes → EndingWords ending Takes
takes_of Usage not_usage t = absurd (not_usage refl)
takes_of (RanEnding (Err NoMemory)) not_usage t = tt
takes_of other not_usage t = t

-- ---- the last line

whole_of : {w0 w1 : Option (List ℕ)} {bytes : List ℕ} → Outputs w0 w1 ⊥ bytes → Appends w0 w1 bytes
whole_of {w0 = w0} {w1 = w1} c = elim c.all [ inl e ↦ subst (λ (l : List ℕ). Appends w0 w1 l) e c.appends | inr never ↦ absurd never ]

module _ {w0 w1 w2 : Option (List ℕ)} (bytes line : List ℕ) {F G : Type 0} (rose : F → G) where
  pub cut_line : Outputs w0 w1 ⊥ (bytes ++ []) → Outputs w1 w2 F line → Outputs w0 w2 G (bytes ++ line)
  cut_line a b =
      let first : Appends w0 w1 bytes = subst (λ (l : List ℕ). Appends w0 w1 l) (append-nil bytes) (whole_of a) in
      let c = Outputs-after bytes first b in
      record { grown = c.grown; appends = c.appends; prefix = c.prefix; all = elim c.all [ inl e ↦ inl e | inr f ↦ inr (rose f) ] }

-- the sinks' counts after the last line
pub rose_with : (old mid new : Faults) → SinksRose old mid → mid.out ≤ new.out → new.trace ≡ mid.trace → SinksRose old new
rose_with old mid new r later same =
    elim r [ inl a ↦ inl (rises_later _ _ _ a later) | inr b ↦ inr (subst (λ (n : ℕ). Rises old.trace n) (sym same) b) ]

-- the last line was cut by a fault
pub line_rose : (Alone : Type 0) (ending : Ending) (old mid new : Faults) → EndingCause Alone ending old mid → Rises mid.out new.out → mid.out ≤ new.out → new.trace ≡ mid.trace → SinksRose old new
line_rose Alone Usage old mid new cause rose later trace = inl (subst (λ (n : ℕ). Rises n new.out) cause.out rose)
line_rose Alone BadKey old mid new cause rose later trace = inl (subst (λ (n : ℕ). Rises n new.out) cause.out rose)
line_rose Alone (RanEnding (Ok refused)) old mid new cause rose later trace = inl (subst (λ (n : ℕ). Rises n new.out) cause.out rose)
line_rose Alone (RanEnding (Err (Tampered region place))) old mid new cause rose later trace = inl (rises_earlier _ _ _ cause.1 rose)
line_rose Alone (RanEnding (Err SourceFault)) old mid new cause rose later trace = inl (subst (λ (n : ℕ). Rises n new.out) cause.1 rose)
line_rose Alone (RanEnding (Err SinkFault)) old mid new cause rose later trace = rose_with old mid new cause.1 later trace
line_rose Alone (RanEnding (Err NoMemory)) old mid new cause rose later trace = inl (rises_earlier _ _ _ cause.1 rose)
line_rose Alone (RanEnding (Err StoreFault)) old mid new cause rose later trace = inl (rises_earlier _ _ _ cause.1 rose)
line_rose Alone (RanEnding (Err StashFull)) old mid new cause rose later trace = inl (rises_earlier _ _ _ cause.1 rose)
line_rose Alone (RanEnding (Err KeeperFault)) old mid new cause rose later trace = inl (rises_earlier _ _ _ cause.1 rose)
line_rose Alone (RanEnding (Err InputLimit)) old mid new cause rose later trace = inl (subst (λ (n : ℕ). Rises n new.out) cause.out rose)

-- a cause holds where INSERTs may wait, too
pub cause_alone : (Alone : Type 0) (ending : Ending) (old new : Faults) → EndingCause (Unit {0}) ending old new → EndingCause Alone ending old new
cause_alone Alone Usage old new cause = cause
cause_alone Alone BadKey old new cause = cause
cause_alone Alone (RanEnding (Ok refused)) old new cause = cause
cause_alone Alone (RanEnding (Err SourceFault)) old new cause = cause
cause_alone Alone (RanEnding (Err InputLimit)) old new cause = cause
cause_alone Alone (RanEnding (Err (Tampered region place))) old new cause = ((λ alone. cause.0.0 tt, cause.0.1), cause.1, cause.2)
cause_alone Alone (RanEnding (Err SinkFault)) old new cause = ((λ alone. cause.0.0 tt, cause.0.1), cause.1)
cause_alone Alone (RanEnding (Err NoMemory)) old new cause = ((λ alone. cause.0.0 tt, cause.0.1), cause.1, cause.2)
cause_alone Alone (RanEnding (Err StoreFault)) old new cause = ((λ alone. cause.0.0 tt, cause.0.1), cause.1, cause.2)
cause_alone Alone (RanEnding (Err StashFull)) old new cause = ((λ alone. cause.0.0 tt, cause.0.1), cause.1, cause.2)
cause_alone Alone (RanEnding (Err KeeperFault)) old new cause = ((λ alone. cause.0.0 tt, cause.0.1), cause.1, cause.2)

-- the counts after the last line
pub status_cause : (Alone : Type 0) (ending : Ending) (old mid new : Faults) → EndingCause Alone ending old mid → mid.out ≤ new.out → new.trace ≡ mid.trace → new.source ≡ mid.source
    → (last_line ending ≡ [] → new.out ≡ mid.out) → StatusCause Alone ending old new
status_cause Alone Usage old mid new cause later trace source none = source ∙ cause.source
status_cause Alone BadKey old mid new cause later trace source none = source ∙ cause.source
status_cause Alone (RanEnding (Ok refused)) old mid new cause later trace source none = record {
  source = source ∙ cause.source;
  out = none refl ∙ cause.out;
  trace = trace ∙ cause.trace;
}
status_cause Alone (RanEnding (Err (Tampered region place))) old mid new cause later trace source none = subst (λ (n : ℕ). StaysAlone Alone old.source n) (sym source) cause.0
status_cause Alone (RanEnding (Err SourceFault)) old mid new cause later trace source none = subst (λ (n : ℕ). Rises old.source n) (sym source) cause.0
status_cause Alone (RanEnding (Err SinkFault)) old mid new cause later trace source none = (subst (λ (n : ℕ). StaysAlone Alone old.source n) (sym source) cause.0, rose_with old mid new cause.1 later trace)
status_cause Alone (RanEnding (Err NoMemory)) old mid new cause later trace source none = subst (λ (n : ℕ). StaysAlone Alone old.source n) (sym source) cause.0
status_cause Alone (RanEnding (Err StoreFault)) old mid new cause later trace source none = subst (λ (n : ℕ). StaysAlone Alone old.source n) (sym source) cause.0
status_cause Alone (RanEnding (Err StashFull)) old mid new cause later trace source none = subst (λ (n : ℕ). StaysAlone Alone old.source n) (sym source) cause.0
status_cause Alone (RanEnding (Err KeeperFault)) old mid new cause later trace source none = subst (λ (n : ℕ). StaysAlone Alone old.source n) (sym source) cause.0
status_cause Alone (RanEnding (Err InputLimit)) old mid new cause later trace source none = source ∙ cause.source

-- nothing more may be written
pub quiet_line : {w0 w1 : Option (List ℕ)} {F G : Type 0} (bytes line : List ℕ) → Outputs w0 w1 F (bytes ++ []) → G → Outputs w0 w1 G (bytes ++ line)
quiet_line {w0 = w0} {w1 = w1} {F = F} bytes line c g =
    Outputs-more line (Outputs-fault g (subst (λ (l : List ℕ). Outputs w0 w1 F l) (append-nil bytes) c)) g

-- the same for another cause
pub loses_as : {F H Goes : Type 0} {ending : Ending} → (F → H) → Goes ⊎ LosesSome F ending → Goes ⊎ LosesSome H ending
loses_as by (inl goes) = inl goes
loses_as by (inr (inl lost)) = inr (inl (by lost))
loses_as by (inr (inr ends)) = inr (inr ends)

unfoldable pub shown_line : {tally : Tally} {tr : TraceSink} {base : Base} {keys : List ℕ → KeySet} {gave : ℕ} {l0 l1 w0 w1 w2 : Option (List ℕ)} {s0 s1 : StoreState} {high : ℕ} {ending : Ending} {line line' : List ℕ} {F H : Type 0}
    (more : List ℕ) → (shown : RunShown tally tr base keys l0 l1 gave w0 w1 s0 s1 high ending line F) → Appends w1 w2 more → Outputs w0 w2 H ((printed shown.story.answers ++ shown.story.part) ++ line') → (F → H)
    → RunShown tally tr base keys l0 l1 gave w0 w2 s0 s1 high ending line' H
shown_line more shown after cut loses = record {
  taken = shown.taken;
  ended = shown.ended;
  story = shown.story;
  bytes = shown.bytes;
  prompt = shown.prompt;
  carried = shown.carried;
  grew = cut;
  whole = took_more more shown.whole after;
  answered = loses_as loses shown.answered;
  flag = shown.flag;
  counted = shown.counted;
  says = shown.says;
}
