-- The headline of a run that neither keeps nor saves its tables, by what was done until its last line.
use Rattle.ob_shell.proofs.Words.{Access, ap, Appends-nil, arith, Bool, Config, Ending, EndingTally, false, Faults, FlightSettings, flying, fresh, Headline, inl, inr, KeeperState, KeptEnded, KeptEnding, KeptTally, LineWritten, List, Option, Outputs, Outputs-whole, Outside, Plain, refl, Report, SinksRose, Some, StoreState, subst, sym, Traced, traced, true, Unwritten, ℕ, [], ◌∙◌, ◌≡◌}
use Rattle.ob_headline.specs.Keeping.{kept_line, kept_status}
use Rattle.ob_headline.specs.KeyLine.{first_line, secret_of}
use Rattle.ob_headline.specs.SaltedHeadline.{SaltedHeadline, SessionSalted, Undrawn, own_keys}
use Rattle.ob_shell.proofs.GeneratingLemmas.{traced_by_fault}
use Rattle.ob_shell.proofs.HeadLemmas.{headlined}
use Rattle.ob_shell.proofs.KeptLemmas.{HeadTold, SessionTold, counted_by, line_behind, session_told, silent_behind, unkeyed_counted, unkeyed_run, with_line}
use Rattle.ob_shell.proofs.TraceLemmas.{traced-nil}
use Rattle.ob_shell.specs.Salting.{RanDrawn, RanSalted, RanUndrawn}

module _ {Takes : Type 0} (settings : Option Config) (flight : Option FlightSettings) (config : Config) (takes : Takes) (set : settings ≡ Some config) (tracing : Bool) (old mid : Outside) (ended : KeptEnded) (k0 k1 : KeeperState)
    (w2 : Option (List ℕ)) (out2 : ℕ) (report : Report) (status : report.status ≡ kept_status ended.ending) (high : report.high ≡ ended.high)
    (hushed : ended.quiet ≡ true → Unwritten mid.written w2 mid.faults.out out2) (line : ended.quiet ≡ false → LineWritten (kept_line ended.ending) mid.written w2 mid.faults.out out2) where
  abbrev new : Outside
  new = with_line mid w2 out2

  -- ---- no salt was drawn
  undrawn_run : old.store.asked ≡ [] → RanUndrawn config ended old mid k0 k1 → Undrawn settings Takes tracing old new k0 k1 ended.ending [] report
  undrawn_run none ran =
      let text : traced tracing mid.store.asked ≡ [] = ap (λ (s : StoreState). traced tracing s.asked) ran.undrawn.unasked ∙ ap (λ (l : List Access). traced tracing l) none ∙ traced-nil tracing in
      record {
        takes = takes;
        config = config;
        set = set;
        taken = ran.taken;
        given = ran.given;
        within = ran.within;
        prompt = ran.prompt;
        secret = ran.secret;
        keyed = ran.keyed;
        begun = ran.undrawn;
        unanswered = refl;
        grew = line_behind settings flight config takes set tracing old mid ended k0 k1 w2 out2 report status high hushed line false ran.loud old.written ran.written old.faults (ap (λ (f : Faults). f.out) ran.faults) (λ it. absurd (cc it));
        silent = silent_behind settings flight config takes set tracing old mid ended k0 k1 w2 out2 report status high hushed line false ran.loud old.written ran.written old.faults.trace (λ it. ap (λ (f : Faults). f.trace) ran.faults);
        traced_all = subst (λ (l : List ℕ). Outputs old.traced mid.traced (SinksRose old.faults new.faults) l) (sym text)
            (subst (λ (w : Option (List ℕ)). Outputs old.traced w (SinksRose old.faults new.faults) []) (sym ran.traced) (Outputs-whole old.traced old.traced _ [] (Appends-nil old.traced)));
        source = ap (λ (f : Faults). f.source) ran.faults;
        most_open = let few = ran.none_open in omega (arith, high, few);
      }

  -- ---- a session
  drawn_told : (ran : RanDrawn config flight tracing ended old mid k0 k1) → SessionTold settings flight config takes set tracing old mid ended k0 k1 w2 out2 report status high hushed line (fresh (Some config)) (λ taken. own_keys ran.secret ran.salt) old.store old.traced ran.result (λ taken story. secret_of (first_line taken) ≡ Some ran.secret) w2 out2
  drawn_told ran = session_told settings flight config takes set tracing old mid ended k0 k1 w2 out2 report status high hushed line (fresh (Some config)) (λ taken. own_keys ran.secret ran.salt) old.store old.traced ran.result (λ taken story. secret_of (first_line taken) ≡ Some ran.secret) ran.shown ran.keyed ran.cause ran.silent ran.ending

  drawn_head : old.store.asked ≡ [] → (ran : RanDrawn config flight tracing ended old mid k0 k1) → Headline (flying flight (fresh (Some config))) (λ taken. own_keys ran.secret ran.salt) Takes tracing old new report
  drawn_head none ran =
      let told = drawn_told ran in
      let traces : Traced tracing old.store.asked mid.store.asked old.traced mid.traced (SinksRose old.faults new.faults) = traced_by_fault told.rose ran.traced_all in
      headlined Takes (flying flight (fresh (Some config))) tracing old new report none told.r traces

  drawn_run : (none : old.store.asked ≡ []) (ran : RanDrawn config flight tracing ended old mid k0 k1) → SessionSalted settings flight Takes tracing old new k0 k1 ended.ending (drawn_head none ran).story.answers report
  unfolding headlined drawn_head
  drawn_run none ran =
      let told = drawn_told ran in
      record {
        takes = takes;
        config = config;
        set = set;
        secret = ran.secret;
        salt = ran.salt;
        draws = ran.draws;
        session = drawn_head none ran;
        keyed = told.also;
        is = ran.ending ∙ ap (λ (e : Ending). Plain e) (sym told.is);
        answered = refl;
      }

  -- what was counted of its answers
  drawn_counted : (none : old.store.asked ≡ []) (ran : RanDrawn config flight tracing ended old mid k0 k1) → KeptTally ended.ending (drawn_head none ran).story.answers ended.tally
  unfolding headlined drawn_head
  drawn_counted none ran =
      let told = drawn_told ran in
      subst (λ (e : KeptEnding). KeptTally e told.r.shown.story.answers ended.tally) (sym ran.ending)
      (subst (λ (e : Ending). EndingTally e told.r.shown.story.answers ended.tally) told.is told.r.shown.counted)

  -- ---- the run
  pub salted_headed : old.store.asked ≡ [] → RanSalted config flight tracing ended old mid k0 k1 → HeadTold (SaltedHeadline settings flight Takes tracing old new k0 k1 report) (λ h. h.ending) (λ h. h.answers) ended
  salted_headed none (inl ran) = record {
    head = record { ending = ended.ending; status = status; answers = []; ran = inl (unkeyed_run settings flight config takes set tracing old mid ended k0 k1 w2 out2 report status high hushed line none ran) };
    ending = refl;
    counted = unkeyed_counted settings flight config takes set tracing old mid ended k0 k1 w2 out2 report status high hushed line ran;
  }
  salted_headed none (inr (inl ran)) = record {
    head = record { ending = ended.ending; status = status; answers = []; ran = inr (inl (undrawn_run none ran)) };
    ending = refl;
    counted = counted_by ended.ending [] ended.tally (λ refused is. let ends = ran.undrawn.ends in absurd (cc (ends, is)));
  }
  salted_headed none (inr (inr ran)) = record { head = record { ending = ended.ending; status = status; answers = (drawn_head none ran).story.answers; ran = inr (inr (drawn_run none ran)) }; ending = refl; counted = drawn_counted none ran }

  pub salted_headlined : old.store.asked ≡ [] → RanSalted config flight tracing ended old mid k0 k1 → SaltedHeadline settings flight Takes tracing old new k0 k1 report
  salted_headlined none ran = (salted_headed none ran).head
