-- What a run begins with, where its tables are kept, and what lies in the store once it ended.
use Rattle.ob_headline.proofs.Words.{Answer, ap, arith, BadKey, Base, BeginsFrom, Bool, Closed, Closing, closing_named, Config, Ending, EndsBehind, Err, false, FlightSettings, flying, Fresh, fresh, if◌then◌else◌, inl, inr, IsSealed, KeeperState, KeptEnding, keys_of, KeySet, List, Listed, Mark, nat_tests, None, Ok, Option, option_map_or, Outside, Ran, refl, Report, RunKept, slice_get, Some, StoreState, Story, subst, suc, sym, Usage, ℕ, [], ◌&&◌, ◌+◌, ◌<◌, ◌==◌, ◌∙◌, ◌∷◌, ◌≡◌}
use Rattle.std.specs.Prelude.{ltb}
use Rattle.ob_reopen.specs.Reopened.{number_given}
use Rattle.ob_headline.proofs.LeftLemmas.{shows_all}
use Rattle.ob_headline.specs.KeptHeadline.{PassesBoth}
use Rattle.ob_headline.specs.KeyLine.{first_line, secret_of}
use Rattle.ob_headline.specs.Shown.{IsBegun, ShowsKept}
use Rattle.ob_headline.specs.Words.{keys_in}
use Rattle.ob_headline.specs.Sealing.{PassesHere, SealsOwn}
use Rattle.ob_reopen.specs.Limits.{blocks_of}

-- ---- what a run begins with
pub begun_fresh : (settings : Option Config) → IsBegun (fresh settings)
begun_fresh None = record { next = refl; fresh = λ region place own. refl }
begun_fresh (Some config) = record { next = refl; fresh = λ region place own. refl }

pub begun_flying : (flight : Option FlightSettings) (base : Base) → IsBegun base → IsBegun (flying flight base)
begun_flying flight base begun = record { next = begun.next; fresh = begun.fresh }

other_region : (q r : ℕ) → r < q → (q == r) ≡ false
other_region q r less = grind (arith, nat_tests)

pub none_given : (closing : Closing) (listed : List Listed) → ((i : ℕ) (t : Listed) → slice_get listed i ≡ Some t → t.table.region < closing.region) → (q x : ℕ) → closing.region < q → number_given closing listed q x ≡ 0
none_given closing [] earlier q x own = ap (λ (b : Bool). if b && ltb x closing.blocks then closing.number + x else 0) (other_region q closing.region own)
none_given closing (t ∷ ts) earlier q x own =
    let here : t.table.region < q = omega (arith, own, earlier 0 t refl) in
    ap (λ (b : Bool). if b && ltb x (blocks_of closing.pack t) then t.number + x else number_given closing ts q x) (other_region q t.table.region here)
    ∙ none_given closing ts (λ i u is. earlier (suc i) u is) q x own

pub begun_from : (mark : Mark) (config : Config) (keys : KeySet) (base : Base) (old new : StoreState) → BeginsFrom mark config keys base old new → IsBegun base
begun_from Fresh config keys base old new begins = subst IsBegun (sym begins.0) (begun_fresh (Some config))
begun_from (Closed region blocks number pack) config keys base old new begins =
    let opens = begins.1 in
    subst IsBegun (sym opens.is) (record {
      next = refl;
      fresh = λ q x own. none_given (closing_named region blocks number pack) opens.listed (λ i t is. (opens.catalogue.are.each i t is).listed.region_most) q x own;
    })
begun_from other config keys base old new begins = absurd begins

-- ---- what lies in the store once it ended
sealed_behind : (ended : Ending) (base : Base) (taken secret : List ℕ) (tracing : Bool) (story : Story) (begun served new : Outside) (run report : Report) (k0 k1 : KeeperState)
    (ending : KeptEnding) → secret_of (first_line taken) ≡ Some secret → EndsBehind ended base (keys_of secret) tracing story begun served new run report k0 k1 ending
    → SealsOwn (PassesHere base) base (keys_in taken) begun.store served.store → SealsOwn (PassesBoth base.public.pack) base (keys_of secret) begun.store new.store
sealed_behind Usage base taken secret tracing story begun served new run report k0 k1 ending keyed behind is = absurd behind
sealed_behind BadKey base taken secret tracing story begun served new run report k0 k1 ending keyed behind is = absurd behind
sealed_behind (Ran (Ok refused)) base taken secret tracing story begun served new run report k0 k1 ending keyed behind is = behind.tables.sealed
sealed_behind (Ran (Err stop)) base taken secret tracing story begun served new run report k0 k1 ending keyed behind is = λ tells.
    let keys : keys_in taken ≡ keys_of secret = ap (λ (o : Option (List ℕ)). option_map_or keys_of o (keys_of [])) keyed in
    let both : IsSealed (PassesBoth base.public.pack) (keys_in taken) base.start (base.start.region + 1) begun.store served.store = record {
      each = λ region place block own live last good passes. (is tells).each region place block own live last good (passes.0, λ saves. passes.1);
    } in
    subst (λ (o : Outside). IsSealed (PassesBoth base.public.pack) (keys_of secret) base.start (base.start.region + 1) begun.store o.store) (sym behind.same)
    (subst (λ (k : KeySet). IsSealed (PassesBoth base.public.pack) k base.start (base.start.region + 1) begun.store served.store) keys both)

pub kept_shown : {settings : Option Config} {flight : Option FlightSettings} {Takes : Type 0} {tracing : Bool} {old new : Outside} {k0 k1 : KeeperState} {ending : KeptEnding} {answers : List Answer} {report : Report}
    (ran : RunKept settings flight Takes tracing old new k0 k1 ending answers report) → ShowsKept ran
kept_shown (inl run) = tt
kept_shown (inr (inl run)) = tt
kept_shown {flight = flight} {tracing = tracing} {old = old} {new = new} {k1 = k1} {ending = ending} {report = report} (inr (inr run)) = λ tells.
    let begun = begun_from run.began.mark run.config (keys_of run.secret) run.base old.store run.opened run.began.begins in
    shows_all (PassesBoth run.base.public.pack) (keys_of run.secret) run.base.start run.opened new.store begun.fresh
    (sealed_behind run.session.ending (flying flight run.base) run.session.taken run.secret tracing run.session.story _ run.served new run.run report run.in_use k1 ending run.keyed run.behind
    run.session.sealing.sealed tells)
