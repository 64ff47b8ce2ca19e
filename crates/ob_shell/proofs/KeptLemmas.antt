-- The headline of a run whose tables are kept, by what was done until its last line.
use Rattle.ob_shell.proofs.Words.{Answer, ap, Appends-nil, arith, Base, Bool, CloseErr, Config, Ending, EndingTally, Err, false, Faults, FlightSettings, flying, fresh, has_refused, Headline, inl, inr, KeeperState, KeptEnded, KeptEnding, KeptTally, keys_in, keys_of, KeySet, LineWritten, List, Mark, Ok, Option, OutFailed, Outputs, Outputs-whole, Outside, outside_of, Plain, Ran, refl, Report, Result, Rises, ServesAlone, Silenced, SinksRose, Some, status_of, Stop, StoreState, Story, subst, sym, Tally, Traced, true, Unwritten, ℕ, [], ◌∙◌, ◌≡◌, ◌≢◌}
use Rattle.ob_base.specs.declared.fault.Failed.{Failed}
use Rattle.ob_headline.proofs.StopLemmas.{closing_stops, begun_stops}
use Rattle.ob_headline.specs.Keeping.{kept_line, kept_status, EndsWith, handed_end}
use Rattle.ob_headline.specs.KeptHeadline.{EndsBehind, EndsUnkeyed, KeptHeadline, Unkeyed, begun_at}
use Rattle.ob_headline.specs.KeyLine.{first_line, secret_of}
use Rattle.ob_shell.proofs.CloseLemmas.{words_taken}
use Rattle.ob_shell.proofs.CompleteLemmas.{reported_line, reported_quiet}
use Rattle.ob_shell.proofs.CountLemmas.{silenced_kept, silenced_rose}
use Rattle.ob_shell.proofs.GeneratingLemmas.{cut_rose, nothing_written, traced_by_fault}
use Rattle.ob_shell.proofs.HeadLemmas.{headlined}
use Rattle.ob_shell.proofs.TopLemmas.{shown_line, takes_of, cause_alone}
use Rattle.ob_shell.proofs.TraceLemmas.{traced_none, traced_whole}
use Rattle.ob_shell.specs.Engaging.{RanKept, RanStopped, RanUnbegun, RanUnkeyed, RanWhole}
use Rattle.ob_shell.specs.Top.{EndingCause, EndingWords, Reported, RunShown, sink_of}

-- what lies outside once the last line was written
abbrev pub with_line : Outside → (written : Option (List ℕ)) → (out : ℕ) → Outside
with_line mid written out = record mid { written = written; faults = record mid.faults { out = out } }

-- where it came to its end and was closed, it ends as it would without, and nothing failed
handed_whole : (whole ending : KeptEnding) (result : Result (Unit {0}) Failed) (refused : Bool) → ending ≡ handed_end whole result → ending ≡ Plain (Ran (Ok refused)) → ending ≡ whole
handed_whole whole ending (Ok done) refused ends is = ends
handed_whole whole ending (Err failed) refused ends is = absurd (cc (ends, is))

pub ends_whole : (result : Result Mark CloseErr) (whole ending : KeptEnding) (f0 f1 : ℕ) (k0 k1 : KeeperState) (refused : Bool) → EndsWith result whole ending f0 f1 k0 k1 → ending ≡ Plain (Ran (Ok refused)) → (ending ≡ whole) × (f1 ≡ f0)
ends_whole (Err error) whole ending f0 f1 k0 k1 refused ends is = absurd (closing_stops error refused (sym ends.0 ∙ is))
ends_whole (Ok mark) whole ending f0 f1 k0 k1 refused (inl sink) is = absurd (cc (sink.0, is))
ends_whole (Ok mark) whole ending f0 f1 k0 k1 refused (inr handed) is = (handed_whole whole ending handed.1.result refused handed.1.ends is, handed.0)

-- what is counted of the answers of one that came to its end
pub counted_by : (ending : KeptEnding) (answers : List Answer) (tally : Tally) → ((refused : Bool) → ending ≡ Plain (Ran (Ok refused)) → KeptTally ending answers tally) → KeptTally ending answers tally
counted_by (Plain (Ran (Ok refused))) answers tally count = count refused refl
counted_by other answers tally count = tt

-- a headline that says how a run ended, and how it was answered, by what was counted then
pub record HeadTold (H : Type 0) (ending_of : H → KeptEnding) (answers_of : H → List Answer) (ended : KeptEnded) : Type 0 where
  pub head : H
  pub ending : ending_of head ≡ ended.ending
  pub counted : KeptTally ended.ending (answers_of head) ended.tally

module _ {Takes : Type 0} (settings : Option Config) (flight : Option FlightSettings) (config : Config) (takes : Takes) (set : settings ≡ Some config) (tracing : Bool) (old mid : Outside) (ended : KeptEnded) (k0 k1 : KeeperState)
    (w2 : Option (List ℕ)) (out2 : ℕ) (report : Report) (status : report.status ≡ kept_status ended.ending) (high : report.high ≡ ended.high)
    (hushed : ended.quiet ≡ true → Unwritten mid.written w2 mid.faults.out out2) (line : ended.quiet ≡ false → LineWritten (kept_line ended.ending) mid.written w2 mid.faults.out out2) where
  abbrev new : Outside
  new = with_line mid w2 out2

  -- the last line after what the sink of the answers held at the end, none of which failed until then
  pub line_behind : (quiet : Bool) → ended.quiet ≡ quiet → (before : Option (List ℕ)) → mid.written ≡ before → (from : Faults) → mid.faults.out ≡ from.out → (quiet ≡ true → Rises from.trace mid.faults.trace)
      → Outputs before w2 (SinksRose from new.faults) (kept_line ended.ending)
  line_behind true is before same from out rose = nothing_written (kept_line ended.ending) ((hushed is).written ∙ same) (inr (rose refl))
  line_behind false is before same from out rose =
      cut_rose (kept_line ended.ending) (λ r. inl (subst (λ (n : ℕ). Rises n out2) out r)) (subst (λ (w : Option (List ℕ)). Outputs w w2 (Rises mid.faults.out out2) (kept_line ended.ending)) same (line is).cut)

  pub silent_behind : (quiet : Bool) → ended.quiet ≡ quiet → (before : Option (List ℕ)) → mid.written ≡ before → (trace : ℕ) → (quiet ≡ false → mid.faults.trace ≡ trace) → mid.faults.trace ≢ trace → w2 ≡ before
  silent_behind true is before same trace kept other = (hushed is).written ∙ same
  silent_behind false is before same trace kept other = absurd (other (kept refl))

  -- ---- the keeper was not asked
  pub unkeyed_run : old.store.asked ≡ [] → RanUnkeyed config flight tracing ended old mid k0 k1 → Unkeyed settings flight Takes tracing old new k0 k1 ended.ending [] report
  unfolding headlined reported_line shown_line
  unkeyed_run none ran =
      let tr = sink_of tracing old.traced mid.traced in
      let ending = ran.ending in
      let at_high = subst
      (λ (n : ℕ). (x : RunShown ended.tally tr (flying flight (fresh (Some config))) keys_in old.left mid.left mid.gave old.written mid.written old.store mid.store n ending [] ⊥) × EndsUnkeyed ending x.taken)
      (sym high) (ran.shown, ran.ends) in
      let shown = subst
      (λ (o : Option Config). (x : RunShown ended.tally tr (flying flight (fresh o)) keys_in old.left mid.left mid.gave old.written mid.written old.store mid.store report.high ending [] ⊥) × EndsUnkeyed ending x.taken)
      (sym set) at_high in
      let l = subst (λ (e : KeptEnding). LineWritten (kept_line e) mid.written w2 mid.faults.out out2) ran.is (line ran.loud) in
      let r : Reported ended.tally tr Takes (flying flight (fresh settings)) keys_in old.left mid.left mid.gave old.written w2 old.store mid.store old.faults new.faults report =
      reported_line ending old.faults mid.faults new.faults (status ∙ ap kept_status ran.is) (words_taken ending (takes_of ending ran.read tt) takes) shown.0 (λ never. never) (cause_alone (ServesAlone flight (fresh settings).public) ending old.faults mid.faults ran.cause) l.cut (λ rises. rises) l.empty l.later refl refl
      ran.silent.1 in
      let traces : Traced tracing old.store.asked mid.store.asked old.traced mid.traced (SinksRose old.faults new.faults) =
      subst (λ (s : StoreState). Traced tracing old.store.asked s.asked old.traced mid.traced (SinksRose old.faults new.faults)) (sym ran.unasked)
      (subst (λ (t : Option (List ℕ)). Traced tracing old.store.asked old.store.asked old.traced t (SinksRose old.faults new.faults)) (sym ran.traced) (traced_whole _ (traced_none tracing old.store.asked old.traced))) in
      record {
        headline = headlined Takes (flying flight (fresh settings)) tracing old new report none r traces;
        ends = shown.1;
        is = ran.is;
        unanswered = refl;
        unasked = ran.unasked;
        kept = ran.kept;
      }

  pub unkeyed_counted : RanUnkeyed config flight tracing ended old mid k0 k1 → KeptTally ended.ending [] ended.tally
  unkeyed_counted ran = subst (λ (e : KeptEnding). KeptTally e [] ended.tally) (sym ran.is) (subst (λ (a : List Answer). EndingTally ran.ending a ended.tally) ran.unanswered ran.shown.counted)

  -- ---- no statement was served
  kept_unbegun : RanUnbegun config tracing ended old mid k0 k1 → KeptHeadline settings flight Takes tracing old new k0 k1 report
  kept_unbegun ran = record {
    ending = ended.ending;
    status = status;
    answers = [];
    ran = inr (inl (record {
      takes = takes;
      config = config;
      set = set;
      taken = ran.taken;
      given = ran.given;
      within = ran.within;
      prompt = ran.prompt;
      secret = ran.secret;
      keyed = ran.keyed;
      begun = ran.unserved.begun;
      unanswered = refl;
      grew = line_behind ended.quiet refl old.written ran.written old.faults ran.out ran.unserved.quiet.rose;
      silent = silent_behind ended.quiet refl old.written ran.written old.faults.trace ran.unserved.quiet.kept;
      traced_all = cut_rose _ (λ r. inr r) ran.unserved.traced_all;
      source = ran.source;
      most_open = let few = ran.unserved.high in omega (arith, high, few);
    }));
  }

  -- ---- a session from this base on ended so, and this holds of its story, too
  pub record SessionTold (base : Base) (keys : List ℕ → KeySet) (opened : StoreState) (traced : Option (List ℕ)) (result : Result Bool Stop) (Also : List ℕ → Story → Type 0) (w : Option (List ℕ)) (out : ℕ) : Type 0 where
    pub r : Reported ended.tally (sink_of tracing traced mid.traced) Takes (flying flight base) keys old.left mid.left mid.gave old.written w opened mid.store old.faults (record mid.faults { out = out }) report
    pub is : r.ending ≡ Ran result
    pub also : Also r.shown.taken r.shown.story
    pub rose : ended.quiet ≡ true → SinksRose old.faults (record mid.faults { out = out })

  abbrev pub Shown : Base → (List ℕ → KeySet) → StoreState → Option (List ℕ) → Result Bool Stop → ℕ → Type 0
  Shown base keys opened traced result n =
      RunShown ended.tally (sink_of tracing traced mid.traced) (flying flight base) keys old.left mid.left mid.gave old.written mid.written opened mid.store n (Ran result) [] (OutFailed ended.quiet old.faults.out mid.faults.out)

  module _ (base : Base) (keys : List ℕ → KeySet) (opened : StoreState) (traced : Option (List ℕ)) (result : Result Bool Stop) (Also : List ℕ → Story → Type 0) (shown : Shown base keys opened traced result ended.high) (also : Also shown.taken shown.story)
      (cause : EndingCause (ServesAlone flight base.public) (Ran result) old.faults mid.faults) (silent : Silenced ended.quiet old.faults mid.faults) (ending : ended.ending ≡ Plain (Ran result)) where
    at_high : (x : Shown base keys opened traced result report.high) × Also x.taken x.story
    at_high = subst (λ (n : ℕ). (x : Shown base keys opened traced result n) × Also x.taken x.story) (sym high) (shown, also)

    words : EndingWords (Ran result) Takes
    words = takes_of (Ran result) (λ not. absurd (cc not)) takes

    is_status : report.status ≡ status_of (Ran result)
    is_status = status ∙ ap kept_status ending

    told_for : (b : Bool) → ended.quiet ≡ b → SessionTold base keys opened traced result Also w2 out2
    unfolding reported_line reported_quiet shown_line
    told_for true is =
        let rose = silenced_rose ended.quiet old.faults mid.faults silent is in
        subst (λ (w : Option (List ℕ)). SessionTold base keys opened traced result Also w out2) (sym (hushed is).written)
        (subst (λ (n : ℕ). SessionTold base keys opened traced result Also mid.written n) (sym (hushed is).faults) (record {
          r = reported_quiet (Ran result) old.faults mid.faults is_status words at_high.0 (λ lost. lost.1) cause rose;
          is = refl;
          also = at_high.1;
          rose = λ it. rose;
        }))
    told_for false is =
        let l = subst (λ (e : KeptEnding). LineWritten (kept_line e) mid.written w2 mid.faults.out out2) ending (line is) in
        record {
          r = reported_line (Ran result) old.faults mid.faults new.faults is_status words at_high.0 (λ lost. absurd (cc (is, lost.0))) cause l.cut (λ rises. rises) l.empty l.later refl refl (silenced_kept ended.quiet old.faults mid.faults silent is);
          is = refl;
          also = at_high.1;
          rose = λ it. absurd (cc (it, is));
        }

    pub session_told : SessionTold base keys opened traced result Also w2 out2
    session_told = told_for ended.quiet refl

  -- ---- a stop ended the session
  kept_stopped : RanStopped config flight tracing ended old mid k0 k1 → KeptHeadline settings flight Takes tracing old new k0 k1 report
  unfolding headlined
  kept_stopped ran =
      let told = session_told ran.begun.base keys_in ran.begun.opened ran.begun.traced (Err ran.stop) (λ taken story. secret_of (first_line taken) ≡ Some ran.begun.secret) ran.shown ran.keyed ran.cause ran.silent ran.ending in
      let begun = begun_at old ran.begun.opened ran.begun.traced in
      let traces : Traced tracing ran.begun.opened.asked mid.store.asked ran.begun.traced mid.traced (SinksRose old.faults new.faults) = traced_by_fault told.rose ran.traced_all in
      let session : Headline (flying flight ran.begun.base) keys_in Takes tracing begun new report = headlined Takes (flying flight ran.begun.base) tracing begun new report ran.begun.first told.r traces in
      record {
        ending = ended.ending;
        status = status;
        answers = session.story.answers;
        ran = inr (inr (record {
          takes = takes;
          config = config;
          set = set;
          secret = ran.begun.secret;
          base = ran.begun.base;
          opened = ran.begun.opened;
          traced = ran.begun.traced;
          in_use = ran.begun.in_use;
          began = ran.begun.began;
          served = new;
          run = report;
          session = session;
          keyed = told.also;
          answered = refl;
          high = refl;
          behind = subst (λ (e : Ending). EndsBehind e (flying flight ran.begun.base) (keys_of ran.begun.secret) tracing session.story begun new new report report ran.begun.in_use k1 ended.ending)
              (sym told.is) (record { is = ran.ending; same = refl; reports = refl; kept = ran.kept });
        }));
      }

  -- ---- it came to its end
  kept_whole : RanWhole config flight tracing ended old mid k0 k1 → KeptHeadline settings flight Takes tracing old new k0 k1 report
  unfolding headlined reported_line shown_line
  kept_whole ran =
      let begun = begun_at old ran.begun.opened ran.begun.traced in
      let ending : Ending = Ran (Ok (has_refused ran.tally)) in
      let run : Report = record { status = status_of ending; high = ran.high } in
      let served : Outside = outside_of mid.left mid.gave mid.written ran.traced ran.served old.faults in
      let r : Reported ran.tally (sink_of tracing ran.begun.traced ran.traced) Takes (flying flight ran.begun.base) keys_in old.left mid.left mid.gave old.written mid.written ran.begun.opened ran.served old.faults old.faults run =
      reported_line (Ran (Ok (has_refused ran.tally))) old.faults old.faults old.faults {E = ⊥} refl takes ran.shown (λ lost. absurd (cc lost.0)) (record { source = refl; out = refl; trace = refl }) (Outputs-whole mid.written mid.written ⊥ [] (Appends-nil mid.written))
      (λ never. absurd never) (λ empty. refl) (omega arith) refl refl refl in
      record {
        ending = ended.ending;
        status = status;
        answers = ran.shown.story.answers;
        ran = inr (inr (record {
          takes = takes;
          config = config;
          set = set;
          secret = ran.begun.secret;
          base = ran.begun.base;
          opened = ran.begun.opened;
          traced = ran.begun.traced;
          in_use = ran.begun.in_use;
          began = ran.begun.began;
          served = served;
          run = run;
          session = headlined Takes (flying flight ran.begun.base) tracing begun served run ran.begun.first r (traced_by_fault (λ never. absurd never) ran.traced_all);
          keyed = ran.keyed;
          answered = refl;
          high = high ∙ ran.closed.rows;
          behind = record {
            tables = ran.closed.tables;
            left = refl;
            gave = refl;
            source = ran.source;
            grew = line_behind ended.quiet refl mid.written refl old.faults ran.out ran.closed.quiet.rose;
            silent = silent_behind ended.quiet refl mid.written refl old.faults.trace ran.closed.quiet.kept;
          };
        }));
      }

  pub kept_headed : old.store.asked ≡ [] → RanKept config flight tracing ended old mid k0 k1 → HeadTold (KeptHeadline settings flight Takes tracing old new k0 k1 report) (λ h. h.ending) (λ h. h.answers) ended
  unfolding kept_unbegun kept_stopped kept_whole
  kept_headed none (inl ran) = record { head = record { ending = ended.ending; status = status; answers = []; ran = inl (unkeyed_run none ran) }; ending = refl; counted = unkeyed_counted ran }
  kept_headed none (inr (inl ran)) = record { head = kept_unbegun ran; ending = refl; counted = counted_by ended.ending [] ended.tally (λ refused is. absurd (begun_stops config (keys_of ran.secret) ended.ending _ _ _ _ _ _ refused ran.unserved.begun is)) }
  kept_headed none (inr (inr (inl ran))) = record { head = kept_stopped ran; ending = refl; counted = counted_by ended.ending (kept_stopped ran).answers ended.tally (λ refused is. absurd (cc (ran.ending, is))) }
  kept_headed none (inr (inr (inr ran))) = record {
    head = kept_whole ran;
    ending = refl;
    counted = counted_by ended.ending ran.shown.story.answers ended.tally (λ refused is.
        let came = ends_whole ran.closed.tables.closes.result _ _ _ _ _ _ refused ran.closed.tables.closes.ends is in
        subst (λ (e : KeptEnding). KeptTally e ran.shown.story.answers ended.tally) (sym came.0) (ran.closed.counted came.0 ∙ ran.shown.counted));
  }

  pub kept_headlined : old.store.asked ≡ [] → RanKept config flight tracing ended old mid k0 k1 → KeptHeadline settings flight Takes tracing old new k0 k1 report
  kept_headlined none ran = (kept_headed none ran).head
