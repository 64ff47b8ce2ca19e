-- The headline of a run whose tables are saved, by what was done until its last line.
use Rattle.ob_shell.proofs.Words.{ap, arith, Bool, Config, Ending, EndingTally, false, FlightSettings, flying, Headline, inl, inr, KeeperState, KeptEnded, KeptEnding, KeptTally, LineWritten, List, Mark, Option, Outside, Plain, Ran, refl, Report, SinksRose, Some, Story, subst, sym, Traced, true, Unwritten, ℕ, [], ◌∙◌, ◌≡◌}
use Rattle.ob_headline.proofs.StopLemmas.{unbegun_stops}
use Rattle.ob_headline.specs.Keeping.{kept_line, kept_status}
use Rattle.ob_headline.specs.KeptHeadline.{begun_at}
use Rattle.ob_headline.specs.KeyLine.{first_line, secret_of}
use Rattle.ob_headline.specs.SavedHeadline.{CountsKeeper, LeavesSaved, SavedHeadline, SessionSaved, UnbegunSaved}
use Rattle.ob_shell.proofs.GeneratingLemmas.{cut_rose, traced_by_fault}
use Rattle.ob_shell.proofs.HeadLemmas.{headlined}
use Rattle.ob_shell.proofs.KeptLemmas.{HeadTold, SessionTold, counted_by, line_behind, session_told, silent_behind, unkeyed_counted, unkeyed_run, with_line}
use Rattle.ob_shell.specs.EngagingSaved.{RanSaved, RanSession, RanUnsaved}

module _ {Takes : Type 0} (settings : Option Config) (flight : Option FlightSettings) (config : Config) (takes : Takes) (set : settings ≡ Some config) (tracing : Bool) (old mid : Outside) (ended : KeptEnded) (k0 k1 : KeeperState)
    (w2 : Option (List ℕ)) (out2 : ℕ) (report : Report) (status : report.status ≡ kept_status ended.ending) (high : report.high ≡ ended.high)
    (hushed : ended.quiet ≡ true → Unwritten mid.written w2 mid.faults.out out2) (line : ended.quiet ≡ false → LineWritten (kept_line ended.ending) mid.written w2 mid.faults.out out2) where
  abbrev new : Outside
  new = with_line mid w2 out2

  -- ---- no statement was served
  unserved_run : RanUnsaved config tracing ended old mid k0 k1 → UnbegunSaved settings Takes tracing old new k0 k1 ended.ending [] report
  unserved_run ran = record {
    takes = takes;
    config = config;
    set = set;
    taken = ran.taken;
    given = ran.given;
    within = ran.within;
    prompt = ran.prompt;
    secret = ran.secret;
    keyed = ran.keyed;
    begun = ran.unserved.begun;
    unanswered = refl;
    grew = line_behind settings flight config takes set tracing old mid ended k0 k1 w2 out2 report status high hushed line ended.quiet refl old.written ran.written old.faults ran.out ran.unserved.quiet.rose;
    silent = silent_behind settings flight config takes set tracing old mid ended k0 k1 w2 out2 report status high hushed line ended.quiet refl old.written ran.written old.faults.trace ran.unserved.quiet.kept;
    traced_all = cut_rose _ (λ r. inr r) ran.unserved.traced_all;
    source = ran.source;
    most_open = let few = ran.unserved.high in omega (arith, high, few);
  }

  -- ---- a session
  abbrev Leaves : RanSession config flight tracing ended old mid k0 k1 → List ℕ → Story → Type 0
  Leaves ran taken story = (secret_of (first_line taken) ≡ Some ran.secret)
      × ((held : Mark) → k0.held ≡ Some held → LeavesSaved ran.secret ran.salt (flying flight ran.base) ran.keys (Ran ran.result) story ran.opened mid.store ran.begun k1)

  saved_told : (ran : RanSession config flight tracing ended old mid k0 k1) → SessionTold settings flight config takes set tracing old mid ended k0 k1 w2 out2 report status high hushed line ran.base (λ taken. ran.keys) ran.opened ran.traced ran.result (Leaves ran) w2 out2
  saved_told ran = session_told settings flight config takes set tracing old mid ended k0 k1 w2 out2 report status high hushed line ran.base (λ taken. ran.keys) ran.opened ran.traced ran.result (Leaves ran) ran.shown (ran.keyed, ran.leaves) ran.cause ran.silent ran.ending

  session_head : (ran : RanSession config flight tracing ended old mid k0 k1) → Headline (flying flight ran.base) (λ taken. ran.keys) Takes tracing (begun_at old ran.opened ran.traced) new report
  session_head ran =
      let told = saved_told ran in
      let traces : Traced tracing ran.opened.asked mid.store.asked ran.traced mid.traced (SinksRose old.faults new.faults) = traced_by_fault told.rose ran.traced_all in
      headlined Takes (flying flight ran.base) tracing (begun_at old ran.opened ran.traced) new report ran.first told.r traces

  session_run : (ran : RanSession config flight tracing ended old mid k0 k1) → SessionSaved settings flight Takes tracing old new k0 k1 ended.ending (session_head ran).story.answers report
  unfolding headlined session_head
  session_run ran =
      let told = saved_told ran in
      record {
        takes = takes;
        config = config;
        set = set;
        secret = ran.secret;
        salt = ran.salt;
        keys = ran.keys;
        base = ran.base;
        opened = ran.opened;
        traced = ran.traced;
        begun = ran.begun;
        began = ran.began;
        session = session_head ran;
        keyed = told.also.0;
        is = ran.ending ∙ ap (λ (e : Ending). Plain e) (sym told.is);
        answered = refl;
        keeper = subst (λ (e : Ending). CountsKeeper e ran.begun k1) (sym told.is) ran.keeper;
        drew = ran.drew;
        leaves = λ held is. subst (λ (e : Ending). LeavesSaved ran.secret ran.salt (flying flight ran.base) ran.keys e told.r.shown.story ran.opened mid.store ran.begun k1) (sym told.is) (told.also.1 held is);
      }

  -- what was counted of its answers
  session_counted : (ran : RanSession config flight tracing ended old mid k0 k1) → KeptTally ended.ending (session_head ran).story.answers ended.tally
  unfolding headlined session_head
  session_counted ran =
      let told = saved_told ran in
      subst (λ (e : KeptEnding). KeptTally e told.r.shown.story.answers ended.tally) (sym ran.ending)
      (subst (λ (e : Ending). EndingTally e told.r.shown.story.answers ended.tally) told.is told.r.shown.counted)

  -- ---- the run
  pub saved_headed : old.store.asked ≡ [] → RanSaved config flight tracing ended old mid k0 k1 → HeadTold (SavedHeadline settings flight Takes tracing old new k0 k1 report) (λ h. h.ending) (λ h. h.answers) ended
  saved_headed none (inl ran) = record {
    head = record { ending = ended.ending; status = status; answers = []; ran = inl (unkeyed_run settings flight config takes set tracing old mid ended k0 k1 w2 out2 report status high hushed line none ran) };
    ending = refl;
    counted = unkeyed_counted settings flight config takes set tracing old mid ended k0 k1 w2 out2 report status high hushed line ran;
  }
  saved_headed none (inr (inl ran)) = record {
    head = record { ending = ended.ending; status = status; answers = []; ran = inr (inl (unserved_run ran)) };
    ending = refl;
    counted = counted_by ended.ending [] ended.tally (λ refused is. absurd (unbegun_stops config ran.secret ended.ending _ _ _ _ _ _ refused ran.unserved.begun is));
  }
  saved_headed none (inr (inr ran)) = record { head = record { ending = ended.ending; status = status; answers = (session_head ran).story.answers; ran = inr (inr (session_run ran)) }; ending = refl; counted = session_counted ran }

  pub saved_headlined : old.store.asked ≡ [] → RanSaved config flight tracing ended old mid k0 k1 → SavedHeadline settings flight Takes tracing old new k0 k1 report
  saved_headlined none ran = (saved_headed none ran).head
