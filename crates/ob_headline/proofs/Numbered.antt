-- The numbers of writes go on over all runs of one keeper.
use Rattle.ob_headline.proofs.Words.{Access, Answer, ap, arith, BadKey, Base, BeginsFrom, Bool, Closed, CloseErr, Closing, Config, each, Ending, EndsBehind, Err, false, FlightSettings, flying, Fresh, if◌then◌else◌, inl, inr, InUse, is_used_up, KeeperState, KeptEnding, keys_of, KeySet, List, Mark, mark_made, mark_of, MatchBool, None, Ok, Option, Outside, Ran, refl, Report, Result, RunKept, Some, StoreState, Story, subst, suc, sym, true, Usage, write_at, writes, zero, ℕ, [], ⊤, ◌++◌, ◌+◌, ◌∙◌, ◌∷◌, ◌≡◌, ◌≤◌}
use Rattle.ob_base.specs.Accesses.{drop_script}
use Rattle.ob_base.specs.declared.access.Access.TheVariants as A
use Rattle.ob_reopen.specs.Closed.{IsClosedAs, StaysInUse}
use Rattle.ob_headline.proofs.MarkLemmas.{held_after}
use Rattle.ob_headline.specs.Flights.{public_after}
use Rattle.ob_headline.specs.Keeping.{Writes, closing_behind, last_script}
use Rattle.ob_headline.specs.KeptRuns.{AnyRun, AreChained, GoesOnFrom, NumberOn, numbered_in}
use Rattle.ob_reopen.specs.Closings.{write_script}

-- ---- how many writes a closing takes
writes_append : (xs ys : List Access) → writes (xs ++ ys) ≡ writes xs + writes ys
unfolding writes
writes_append [] ys = omega arith
writes_append (A.Make region blocks len ∷ xs) ys = writes_append xs ys
writes_append (A.Read region place ∷ xs) ys = writes_append xs ys
writes_append (A.Write region place ∷ xs) ys = omega (arith, writes_append xs ys)
writes_append (A.Discard region ∷ xs) ys = writes_append xs ys
writes_append (A.Open region blocks len ∷ xs) ys = writes_append xs ys

writes_each : (region n : ℕ) → writes (each n (write_at region)) ≡ n
unfolding writes
writes_each region zero = refl
writes_each region (suc n) = omega (arith, writes_append (each n (write_at region)) (write_at region n), writes_each region n)

writes_dropped : (region : Option ℕ) → writes (drop_script region) ≡ 0
unfolding writes
writes_dropped None = refl
writes_dropped (Some region) = refl

writes_made : (closing : Closing) → writes (write_script closing) ≡ closing.blocks
unfolding writes
writes_made closing = writes_each closing.region closing.blocks

writes_last : (region : Option ℕ) (closing : Closing) → writes (last_script region closing) ≡ closing.blocks
writes_last region closing = writes_append (drop_script region) (write_script closing) ∙ omega (arith, writes_dropped region, writes_made closing)

-- a run that ended asks for no more of them
most_written : (closing : Closing) (region : Option ℕ) (result : Result Mark CloseErr) (s t : StoreState) → Writes closing (last_script region closing) result s t → writes t.asked ≤ writes s.asked + closing.blocks
most_written closing region (Ok mark) s t made = go (is_used_up closing) made
  where
    go : (used : Bool) → MatchBool used (StaysInUse mark s t) (IsClosedAs closing (last_script region closing) mark s t) → writes t.asked ≤ writes s.asked + closing.blocks
    go true stays = let same = ap (λ (u : StoreState). writes u.asked) stays.same in omega (arith, same)
    go false closed =
        let asked = ap writes closed.did.asked in
        omega (arith, asked, writes_append s.asked (last_script region closing), writes_last region closing)
most_written closing region (Err error) s t made =
    let began = made.1.began in
    let asked = ap writes began.asked in
    let whole = ap writes began.split in
    omega (arith, asked, whole, writes_append s.asked began.done, writes_append began.done began.rest, writes_last region closing)

most_behind : (ended : Ending) (base : Base) (keys : KeySet) (tracing : Bool) (story : Story) (begun served new : Outside) (run report : Report) (k0 k1 : KeeperState)
    (ending : KeptEnding) → EndsBehind ended base keys tracing story begun served new run report k0 k1 ending
    → writes new.store.asked ≤ writes served.store.asked + (closing_behind (public_after base story.entries) base.start served.store.asked).blocks
most_behind Usage base keys tracing story begun served new run report k0 k1 ending behind = absurd behind
most_behind BadKey base keys tracing story begun served new run report k0 k1 ending behind = absurd behind
most_behind (Ran (Err stop)) base keys tracing story begun served new run report k0 k1 ending behind =
    let same = ap (λ (o : Outside). writes o.store.asked) behind.same in omega (arith, same)
most_behind (Ran (Ok refused)) base keys tracing story begun served new run report k0 k1 ending behind =
    let t = behind.tables in
    let most = most_written t.closing _ t.closes.result served.store new.store t.closes.writes in
    let blocks = ap (λ (c : Closing). c.blocks) t.is in
    omega (arith, most, blocks)

-- ---- numbers that are at most those of a mark
abbrev Reaches : Mark → ℕ → Type 0
Reaches Fresh n = n ≡ 0
Reaches (Closed region blocks number pack) n = n + 1 ≤ number + blocks
Reaches other n = ⊤

goes_on : (mark : Mark) (config : Config) (keys : KeySet) (base : Base) (s t : StoreState) (n : ℕ) → BeginsFrom mark config keys base s t → Reaches mark n → n ≤ base.start.writes
goes_on Fresh config keys base s t n begins reaches = let start = ap (λ (b : Base). b.start.writes) begins.0 in omega (arith, start, reaches)
goes_on (Closed region blocks number pack) config keys base s t n begins reaches = let start = ap (λ (b : Base). b.start.writes) begins.1.is in omega (arith, start, reaches)
goes_on other config keys base s t n begins reaches = absurd begins

reaches_made : (closing : Closing) (n : ℕ) → n + 1 ≤ closing.number + closing.blocks → Reaches (mark_made closing) n
reaches_made closing n few =
    elim (is_used_up closing) as (λ b. Reaches (if b then InUse else mark_of closing) n)
    [ true ↦ tt | false ↦ few ]

one_goes_on : {settings : Option Config} {flight : Option FlightSettings} {Takes : Type 0} {tracing : Bool} {old new : Outside} {k0 k1 : KeeperState} {ending : KeptEnding} {answers : List Answer} {report : Report}
    (ran : RunKept settings flight Takes tracing old new k0 k1 ending answers report) (mark : Mark) (n : ℕ) → k0.held ≡ Some mark → Reaches mark n
    → GoesOnFrom n ran × (left : Mark) × (k1.held ≡ Some left) × Reaches left (numbered_in n ran)
one_goes_on (inl run) mark n is reaches = (tt, mark, held_after (inl run) mark is, reaches)
one_goes_on {flight = flight} (inr (inl run)) mark n is reaches =
    elim (held_after {flight = flight} (inr (inl run)) mark is) [
      | inl same ↦ (tt, mark, same, reaches)
      | inr used ↦ (tt, InUse, used.1, tt)
    ]
one_goes_on {flight = flight} {tracing = tracing} {old = old} {new = new} {k1 = k1} {ending = ending} {report = report} (inr (inr run)) mark n is reaches =
    let read : run.began.mark ≡ mark = run.began.gives.told mark is in
    let from = goes_on run.began.mark run.config (keys_of run.secret) run.base old.store run.opened n run.began.begins (subst (λ (m : Mark). Reaches m n) (sym read) reaches) in
    let most = most_behind run.session.ending (flying flight run.base) (keys_of run.secret) tracing run.session.story _ run.served new run.run report run.in_use k1 ending run.behind in
    let closing = closing_behind (public_after (flying flight run.base) run.session.story.entries) run.base.start run.served.store.asked in
    elim (held_after (inr (inr run)) mark is).most [
      | inl used ↦ (from, InUse, used, tt)
      | inr made ↦ (from, mark_made closing, made, reaches_made closing (run.base.start.writes + writes new.store.asked) (omega (arith, most)))
    ]

all_number_on : (runs : List AnyRun) (held : Option Mark) (mark : Mark) (n : ℕ) → held ≡ Some mark → Reaches mark n → AreChained held runs → NumberOn n runs
all_number_on [] held mark n is reaches chained = tt
all_number_on (run ∷ runs) held mark n is reaches chained =
    let here = one_goes_on run.one.run.ran mark n (chained.0 ∙ is) reaches in
    (here.0, all_number_on runs run.one.keeper1.held here.1 (numbered_in n run.one.run.ran) here.2 here.3 chained.1)

pub number_on : (runs : List AnyRun) → AreChained (Some Fresh) runs → NumberOn 0 runs
number_on runs chained = all_number_on runs (Some Fresh) Fresh 0 refl refl chained
