-- How a run begins whose tables are saved, by the mark that its keeper gave.
use Rattle.ob_shell.proofs.Words.{Access, ap, AreByRegion, arith, Base, BeginsToSave, Bool, Closing, Config, count_of, earlier, Engine, engine_start, Err, fresh, headings, headings_of, held_headings, if◌then◌else◌, indexes_of, inl, inr, IsFresh, IsRead, IsSteady, IsTrue, KeeperState, KeptEnding, KeptRegion, KeySet, length, List, machine_of, map, Mark, nat_tests, no_flights, None, Ok, Option, option_map, pair_of, Public, public_of, refl, Represents, RestsOn, RevState, slice_get, Some, Start, StoreState, subst, suc, sym, Tables, true, world_of, ℕ, [], ⊤, ◌++◌, ◌<◌, ◌∙◌, ◌∷◌, ◌≡◌, ◌≢◌}
use Rattle.std.specs.Prelude.{◌==◌, MatchBool}
use Rattle.std.proofs.lemmas.Option.{slice_get-map}
use Rattle.ob_base.specs.Stored.{AreApart}
use Rattle.ob_base.specs.declared.fault.Failed.{Failed}
use Rattle.ob_reopen.specs.declared.mark.Mark.TheVariants.{Fresh, InUse, Closed, Begun, Saved}
use Rattle.ob_headline.proofs.FlatLemmas.{opened_flat}
use Rattle.ob_headline.specs.Bases.{Opened, reopened}
use Rattle.ob_headline.specs.Keeping.{closing_named, opening_end}
use Rattle.ob_headline.specs.Saving.{BeginsSaved, EndsShut, HandsBegun, IsFoundBare, LooksBare, ReopensSaved, RestsAt, StaysLocked, StaysShut, begun_mark}
use Rattle.ob_headline.specs.declared.ending.KeptEnding.TheVariants.{OtherPack}
use Rattle.ob_reopen.proofs.OutlastLemmas.{listed_last, rests_last}
use Rattle.ob_reopen.proofs.SavedLemmas.{rests_under}
use Rattle.ob_reopen.specs.Keepers.{IsMark}
use Rattle.ob_reopen.specs.Reopened.{opening_script}
use Rattle.ob_reopen.specs.Resting.{IsNeeded, IsAtRest}
use Rattle.ob_reopen.specs.Saved.{RestsBy, reopening_keys, salted_of, salted_regions}
use Rattle.ob_reopen.specs.declared.fault.OpenErr.{OpenErr}
use Rattle.ob_reopen.specs.declared.listed.Listed.{Listed}
use Rattle.ob_seal.proofs.Salts.{own_pair, salted_of_secret}
use Rattle.ob_seal.specs.Sealed.{AreBefore, keys_salted}
use Rattle.ob_seal.specs.declared.pairs.Pair.{Pair}
use Rattle.ob_shell.proofs.LeaveBegin.{rests_none}
use Rattle.ob_shell.proofs.StandLemmas.{stands_first}
use Rattle.ob_shell.proofs.SweepLemmas.{agrees_swept, calm_swept, read_stays, represents_swept, sealed_swept}
use Rattle.ob_shell.specs.EngagingSaved.{EngagesSaved, EngineBy, FitsSecret, IsStarted, pack_of}
use Rattle.ob_shell.specs.Standing.{StandsOn}
use Rattle.ob_store.specs.Calls.{Sweeps}
use Rattle.ob_tables.proofs.NamesApart.{named_apart}
use Rattle.ob_tables.proofs.OpenSavedLemmas.{own_pair as closing_pair}
use Rattle.ob_tables.specs.Reopening.{IsOpened}
use Rattle.ob_tables.specs.Saving.{IsOpenedBy, NamesClosing, OpensSaved}
use Rattle.ob_vault.specs.Tied.{TagFits}
use Rattle.ob_exec.specs.Saving.{MaySave}

-- ---- a run that has a salt of its own
salted_own : (secret salt : List ℕ) (q : ℕ) → (pair_of (keys_salted secret salt []) q).salt ≡ Some salt
salted_own secret salt q = ap (λ (p : Pair). p.salt) (own_pair secret salt [] q tt)

is_some : (x y : Option (List ℕ)) (salt : List ℕ) → x ≡ y → y ≡ Some salt → x ≢ None
is_some x y salt same is none = absurd (cc (same, is, none))

-- ---- an engine that was just started
module _ {R : Type 0} (state : R → RevState) (config : Config) (secret salt : List ℕ) (saves : config.save ≡ true) (e : Engine R) (started : IsStarted state config (keys_salted secret salt []) e)
    (t : StoreState) (blank : IsFresh t) (steady : IsSteady t) (keeper : KeeperState) where
  abbrev own_keys : KeySet
  own_keys = keys_salted secret salt []

  stands : StandsOn state (fresh (Some config)) config own_keys e t
  stands = stands_first state config own_keys e t (started.agrees t blank.unasked) started.public started.keyed started.drawn started.started started.rows blank steady

  may_save : MaySave ⊤ e
  may_save = record {
    saves = λ is. tt;
    salted = λ is q above. is_some _ _ salt (ap (λ (k : KeySet). (pair_of k q).salt) started.keyed) (salted_own secret salt q);
    listed = λ is. started.anew ∙ sym (ap (λ (p : Public). p.closing) started.public);
  }

  pub engages_started : EngagesSaved state (fresh (Some config)) config own_keys e t keeper
  engages_started = record {
    stands = stands;
    ready = record { agrees = started.agrees t blank.unasked; lives = started.alive; settled = started.settled; saves = may_save };
    high = let none = started.none_open in omega (arith, none);
  }

  pub begins_started : keeper.held ≡ Some Begun → BeginsToSave state secret salt (fresh (Some config)) own_keys (machine_of e t keeper no_flights)
  begins_started begun = record {
    free = refl;
    agrees = started.agrees t blank.unasked;
    saves = ap (λ (p : Public). p.save) started.public ∙ saves;
    public = started.public;
    count = stands.count;
    start = started.started;
    keyed = started.keyed;
    drawn = started.drawn;
    of = record { of = salted_of_secret secret salt []; ones = λ q. tt };
    salted = λ q above. salted_own secret salt q;
    held = stands.held;
    rests = λ mark is.
        let same : Begun ≡ mark = cc (begun, is) in
        subst (λ (m : Mark). RestsOn secret m (fresh (Some config)).public t.kept []) same (rests_none secret Begun (fresh (Some config)).public t.kept (λ now. refl) (omega arith));
  }

-- ---- an engine that was opened
-- the regions of the tables that a closing lists, and its own, are after those that the run makes
before_each : (closing : Closing) (listed : List Listed) → ((i : ℕ) (t : Listed) → slice_get listed i ≡ Some t → t.table.region < closing.region) → (q : ℕ) → closing.region < q → AreBefore q (map salted_of listed)
before_each closing [] each q above = tt
before_each closing (t ∷ ts) each q above =
    let first = each 0 t refl in
    (omega (arith, first, above), before_each closing ts (λ i u is. each (suc i) u is) q above)

module _ {R : Type 0} (state : R → RevState) (config : Config) (secret salt : List ℕ) (saves : config.save ≡ true) (closed : Option (List ℕ)) (closing : Closing) (pack : closing.pack ≡ config.pack)
    (e : Engine R) (s0 s1 s2 : StoreState) (none : s0.asked ≡ []) (opens : OpensSaved state config secret salt closed closing (Ok e) s0 s1) (sweeps : Sweeps s1 s2) where
  abbrev reopened_by : IsOpenedBy state config secret salt closed closing e s0 s1
  reopened_by = opens.ok

  abbrev engine : IsOpened state config reopened_by.keys closing e s0 s1
  engine = reopened_by.opened

  abbrev pub keys : KeySet
  keys = reopened_by.keys

  abbrev own : KeySet
  own = reopening_keys secret salt closed closing engine.listed

  abbrev pub opened : Opened
  opened = record { keys = keys; closing = closing; listed = engine.listed; old = s0; new = s2 }

  abbrev pub base : Base
  base = reopened config opened

  unlied : s2.lie ≡ None → s1.lie ≡ None
  unlied nolie = sym sweeps.lie ∙ nolie

  -- what rests under the secret does so under the keys that the run has
  under : IsTrue s0.tells → s1.lie ≡ None → (tables : Tables) → RestsBy secret closed closing s0.kept tables → IsAtRest keys closing s0.kept tables
  under tells nolie tables rests =
      let same : reopening_keys secret salt closed closing rests.rests.listed ≡ keys = ap (reopening_keys secret salt closed closing) (reopened_by.lists tells nolie tables rests) ∙ sym reopened_by.keyed in
      subst (λ (k : KeySet). IsAtRest k closing s0.kept tables) same (rests_under secret salt closed closing s0.kept tables rests)

  -- and the other way round
  rested_by : (tables : Tables) → IsAtRest keys closing s0.kept tables → RestsBy secret closed closing s0.kept tables
  rested_by tables rests = record {
    keys = own;
    of = salted_of_secret secret salt (salted_regions closed closing engine.listed);
    own = ap (λ (p : Pair). p.salt) (sym (closing_pair secret salt closed closing engine.listed));
    rests = subst (λ (k : KeySet). IsAtRest k closing s0.kept tables) reopened_by.keyed rests;
    ones = λ q needed. tt;
  }

  -- what is read of it is kept as it was
  read_kept : (q : ℕ) → IsRead closing.region base.public q → s2.kept q ≡ s0.kept q
  read_kept q read =
      read_stays state e s1 s2 sweeps engine.agrees closing.region engine.from_closing q (subst (λ (p : Public). IsRead closing.region p q) (sym engine.public) read) ∙ opens.kept q

  read_needed : (q : ℕ) → IsNeeded closing engine.listed q → IsRead closing.region base.public q
  read_needed q (inl here) = inl here
  read_needed q (inr of) =
      let there : slice_get base.public.tables of.0 ≡ Some of.1.table = slice_get-map (λ (t : Listed). t.table) engine.listed of.0 ∙ ap (option_map (λ (t : Listed). t.table)) of.2 in
      inr (record { place = of.0; table = of.1.table; get = there; region = sym of.3 })

  module _ (tells : IsTrue s0.tells) (nolie : s1.lie ≡ None) (tables : Tables) (rests : RestsBy secret closed closing s0.kept tables) where
    read_listed : (q : ℕ) → IsNeeded closing rests.rests.listed q → IsRead closing.region base.public q
    read_listed q needed = read_needed q (subst (λ (l : List Listed). IsNeeded closing l q) (reopened_by.lists tells nolie tables rests) needed)

    rests_while : (now : ℕ → Option KeptRegion) → ((q : ℕ) → IsRead closing.region base.public q → now q ≡ s0.kept q) → RestsBy secret closed closing now tables
    rests_while now same =
        let stay : (q : ℕ) → IsNeeded closing rests.rests.listed q → now q ≡ s0.kept q = λ q needed. same q (read_listed q needed) in
        let listed = listed_last rests.keys s0.kept now closing tables rests.rests stay in
        record {
          keys = rests.keys;
          of = rests.of;
          own = rests.own;
          rests = rests_last rests.keys s0.kept now closing tables rests.rests stay;
          ones = λ q needed. rests.ones q (subst (λ (l : List Listed). IsNeeded closing l q) listed needed);
        }

    holds : Represents state e s1 tables
    holds = opens.told tells nolie tables rests

    headed : headings tables ≡ headings_of (public_of e).tables
    headed = held_headings (public_of e).pack (indexes_of e) (public_of e).tables tables (world_of state e s1) holds.held

    apart : AreApart (headings tables)
    apart = subst AreApart (sym headed) (named_apart (public_of e).tables engine.agrees.tables.names)

    rests_on : (mark : Mark) → ((now : ℕ → Option KeptRegion) → RestsBy secret closed closing now tables → RestsAt secret mark now tables) → RestsOn secret mark base.public s2.kept tables
    rests_on mark at = record {
      region = closing.region;
      below = omega arith;
      rests = λ now same. record {
        resting = tables;
        rests = at now (rests_while now (λ q read. same q read ∙ read_kept q read));
        alike = record { count = refl; found = λ name. refl; apart = apart; too = apart };
      };
    }

  pub reopens : ReopensSaved closed closing config secret salt keys base s0 s2
  reopens = record {
    listed = engine.listed;
    catalogue = engine.catalogue;
    keyed = reopened_by.keyed;
    is = refl;
    did = record { asked = sweeps.asked ∙ engine.did.asked; faults = sweeps.faults ∙ engine.did.faults };
    tells = sweeps.tells ∙ opens.tells;
    fits = λ lie told.
        let fits = engine.calm.calm lie (sym sweeps.lie ∙ told) in
        subst (λ (x : Start). TagFits keys x lie) engine.start (subst (λ (k : KeySet). TagFits k (engine_start e) lie) engine.keyed fits);
    opened = s1;
    sweeps = sweeps;
    told = λ tells nolie tables rests. record {
      rests = rests_while tells (unlied nolie) tables rests s2.kept read_kept;
      under = under tells (unlied nolie) tables rests;
      listed = headed tells (unlied nolie) tables rests ∙ ap (λ (p : Public). headings_of p.tables) engine.public;
    };
  }

  asked_is : s2.asked ≡ opening_script closing engine.listed
  asked_is = sweeps.asked ∙ engine.did.asked ∙ ap (λ (l : List Access). l ++ opening_script closing engine.listed) none

  count_is : count_of e s2 ≡ base.count
  count_is = omega (arith, ap earlier engine.start, ap length asked_is)

  stands_opened : StandsOn state base config keys e s2
  stands_opened = record {
    settings = refl;
    public = engine.public;
    flat = opened_flat config closing engine.listed engine.catalogue;
    unindexed = engine.unindexed;
    pack = refl;
    buffer = refl;
    keep = refl;
    save = refl;
    rows = engine.rows;
    count = count_is;
    start = engine.start;
    asked = asked_is;
    keyed = engine.keyed;
    drawn = engine.drawn;
    calm = calm_swept state e s1 s2 sweeps engine.calm;
    used = λ some. let one = engine.high in omega (arith, one);
    held = λ tables rested. represents_swept state e s1 s2 sweeps engine.agrees tables (opens.told rested.tells (unlied rested.honest) tables (rested_by tables rested.rests));
    earlier = λ region above. sweeps.live region ∙ engine.earlier region above;
    sealed = λ tells tables rested good passes scope few.
        let swept = sweeps.faults in
        let asked = engine.did.faults in
        sealed_swept state e s1 s2 sweeps (λ r. good) scope
        (opens.sealed rested.tells (unlied rested.honest) tables (rested_by tables rested.rests) (λ r. good) passes.0.0.0 passes.0.1 scope (omega (arith, few, swept, asked)));
    passes = λ good passes. passes.0.0;
    early = λ n before. absurd before;
  }

  -- each region that the run makes is under its own salt
  salted : (q : ℕ) → closing.region < q → (pair_of keys q).salt ≡ Some salt
  salted q above =
      let before : AreBefore q (salted_regions closed closing engine.listed) = (above, before_each closing engine.listed (λ i t at. (engine.catalogue.are.each i t at).listed.region_most) q above) in
      ap (λ (k : KeySet). (pair_of k q).salt) reopened_by.keyed ∙ ap (λ (p : Pair). p.salt) (own_pair secret salt (salted_regions closed closing engine.listed) q before)

  may_go_on : MaySave ⊤ e
  may_go_on = record {
    saves = λ it. tt;
    salted = λ it q above.
        let next = ap (λ (p : Public). p.next_region) engine.public in
        is_some _ _ salt (ap (λ (k : KeySet). (pair_of k q).salt) engine.keyed) (salted q (omega (arith, above, next)));
    listed = λ it. engine.from_closing ∙ sym (ap (λ (p : Public). p.closing) engine.public ∙ ap (λ (b : Bool). if b then Some closing.region else None) saves);
  }

  module _ (keeper : KeeperState) where
    pub engages_opened : EngagesSaved state base config keys e s2 keeper
    engages_opened = record {
      stands = stands_opened;
      ready = record { agrees = agrees_swept state e s1 s2 sweeps engine.agrees; lives = engine.alive; settled = reopened_by.opened.settled; saves = may_go_on };
      high = let one = engine.high in omega (arith, one);
    }

    pub begins_opened : (mark : Mark) → ((now : ℕ → Option KeptRegion) (tables : Tables) → RestsBy secret closed closing now tables → RestsAt secret mark now tables) → keeper.held ≡ Some mark
        → BeginsToSave state secret salt base keys (machine_of e s2 keeper no_flights)
    begins_opened mark at held = record {
      free = refl;
      agrees = agrees_swept state e s1 s2 sweeps engine.agrees;
      saves = ap (λ (p : Public). p.save) engine.public ∙ saves;
      public = engine.public;
      count = count_is;
      start = engine.start;
      keyed = engine.keyed;
      drawn = engine.drawn;
      of = subst (AreByRegion secret) (sym reopened_by.keyed) (record { of = salted_of_secret secret salt (salted_regions closed closing engine.listed); ones = λ q. tt });
      salted = salted;
      held = stands_opened.held;
      rests = λ other is_held tables rested.
          let same : mark ≡ other = cc (held, is_held) in
          subst (λ (m : Mark). RestsOn secret m base.public s2.kept tables) same
          (rests_on rested.tells (unlied rested.honest) tables (rested_by tables rested.rests) mark (λ now rests. at now tables rests));
    }

-- ---- by the mark
-- an engine was had, and what is no region of it was given up
pub record Engaged {R : Type 0} (state : R → RevState) (mark : Mark) (config : Config) (secret salt : List ℕ) (e : Engine R) (old new : StoreState) (keeper : KeeperState) : Type 0 where
  pub keys : KeySet
  pub base : Base
  pub begins : BeginsSaved mark config secret salt keys base old new
  pub engages : EngagesSaved state base config keys e new keeper
  pub saves : keeper.held ≡ Some (begun_mark mark) → BeginsToSave state secret salt base keys (machine_of e new keeper no_flights)

module _ {R : Type 0} (state : R → RevState) (config : Config) (secret salt : List ℕ) (saves : config.save ≡ true) (e : Engine R) (old looked mid new : StoreState) (sweeps : Sweeps mid new) (none : old.asked ≡ [])
    (blank : new.asked ≡ [] → IsFresh new) (steady : new.asked ≡ [] → IsSteady new) (keeper : KeeperState) where
  engaged_opened : (mark : Mark) (closed : Option (List ℕ)) (closing : Closing) → closing.pack ≡ config.pack → looked ≡ old → OpensSaved state config secret salt closed closing (Ok e) looked mid
      → ((keys : KeySet) (base : Base) → ReopensSaved closed closing config secret salt keys base old new → BeginsSaved mark config secret salt keys base old new)
      → ((now : ℕ → Option KeptRegion) (tables : Tables) → RestsBy secret closed closing now tables → RestsAt secret (begun_mark mark) now tables)
      → Engaged state mark config secret salt e old new keeper
  engaged_opened mark closed closing pack same found begins at =
      let opens = subst (λ (s : StoreState). OpensSaved state config secret salt closed closing (Ok e) s mid) same found in
      record {
        keys = keys state config secret salt saves closed closing pack e old mid new none opens sweeps;
        base = base state config secret salt saves closed closing pack e old mid new none opens sweeps;
        begins = begins _ _ (reopens state config secret salt saves closed closing pack e old mid new none opens sweeps);
        engages = engages_opened state config secret salt saves closed closing pack e old mid new none opens sweeps keeper;
        saves = begins_opened state config secret salt saves closed closing pack e old mid new none opens sweeps keeper (begun_mark mark) at;
      }

  pub engaged : (mark : Mark) → LooksBare mark old looked → EngineBy state mark config secret salt e looked mid → Engaged state mark config secret salt e old new keeper
  engaged Fresh looks by =
      let unasked : new.asked ≡ [] = sweeps.asked ∙ ap (λ (s : StoreState). s.asked) by.1 ∙ looks.syncs.asked ∙ none in
      record {
        keys = keys_salted secret salt [];
        base = fresh (Some config);
        begins = (record { keyed = refl; is = refl }, record { looked = looked; finds = looks; sweeps = subst (λ (s : StoreState). Sweeps s new) by.1 sweeps });
        engages = engages_started state config secret salt saves e by.0 new (blank unasked) (steady unasked) keeper;
        saves = begins_started state config secret salt saves e by.0 new (blank unasked) (steady unasked) keeper;
      }
  engaged InUse looks by = absurd looks
  engaged (Closed region blocks number pack) looks by =
      engaged_opened (Closed region blocks number pack) None (closing_named region blocks number pack) by.0 looks by.1 (λ keys base reopens. (by.0, reopens)) (λ now tables rests. rests)
  engaged Begun looks by =
      let same : mid ≡ old = by.1 ∙ looks in
      let unasked : new.asked ≡ [] = sweeps.asked ∙ ap (λ (s : StoreState). s.asked) same ∙ none in
      record {
        keys = keys_salted secret salt [];
        base = fresh (Some config);
        begins = (record { keyed = refl; is = refl }, subst (λ (s : StoreState). Sweeps s new) same sweeps);
        engages = engages_started state config secret salt saves e by.0 new (blank unasked) (steady unasked) keeper;
        saves = begins_started state config secret salt saves e by.0 new (blank unasked) (steady unasked) keeper;
      }
  engaged (Saved region blocks number pack closed check) looks by =
      engaged_opened (Saved region blocks number pack closed check) (Some closed) (closing_named region blocks number pack) by.0 looks by.2 (λ keys base reopens. (by.0, by.1, reopens)) (λ now tables rests. (by.1, rests))

-- ---- an engine was had, and the keeper failed
pub looks_still : {R : Type 0} (state : R → RevState) (mark : Mark) (config : Config) (secret salt : List ℕ) (e : Engine R) (old looked mid : StoreState) (failed : Failed) (drawn keeper : KeeperState)
    → LooksBare mark old looked → EngineBy state mark config secret salt e looked mid → HandsBegun mark (Err failed) drawn keeper → LooksBare mark old mid
looks_still state Fresh config secret salt e old looked mid failed drawn keeper looks by hands = subst (λ (s : StoreState). IsFoundBare old s) (sym by.1) looks
looks_still state InUse config secret salt e old looked mid failed drawn keeper looks by hands = absurd looks
looks_still state other config secret salt e old looked mid failed drawn keeper looks by hands = absurd hands

-- ---- the closing that a mark names
-- its pack is that of the settings
packs : (a b : ℕ) → a ≡ b → (a == b) ≡ true
packs a b is = rw is (grind (arith, nat_tests))

pub named_by : (mark : Mark) (pack found : ℕ) → IsMark mark → pack_of mark ≡ Some found → found ≡ pack → (closed : Option (List ℕ)) × (closing : Closing) × NamesClosing mark pack closed closing
named_by (Closed region blocks number of) pack found within is same =
    let here : of ≡ found = cc is in
    (None, closing_named region blocks number of, (here ∙ same, refl, refl, within))
named_by (Saved region blocks number of salt check) pack found within is same =
    let here : of ≡ found = cc is in
    (Some salt, closing_named region blocks number of, (here ∙ same, refl, within.1, refl, within.0))
named_by other pack found within is same = absurd (cc is)

-- its tables weren't opened
stays_shut : {R : Type 0} (state : R → RevState) (config : Config) (secret salt : List ℕ) (closed : Option (List ℕ)) (closing : Closing) (error : OpenErr) (ending : KeptEnding) (s t : StoreState) → ending ≡ opening_end error
    → OpensSaved {R = R} state config secret salt closed closing (Err error) s t → StaysShut closed closing secret salt ending s t
stays_shut state config secret salt closed closing error ending s t is opens = record {
  error = error;
  ends = is;
  opened = opens.err;
  honest = λ tells nolie tables rests. opens.told tells nolie tables rests;
  kept = opens.kept;
}

pub shut_opened : {R : Type 0} (state : R → RevState) (mark : Mark) (config : Config) (secret salt : List ℕ) (found : ℕ) → IsMark mark → pack_of mark ≡ Some found → found ≡ config.pack
    → FitsSecret secret mark → (error : OpenErr) (ending : KeptEnding) → ending ≡ opening_end error → (s t : StoreState)
    → ((closed : Option (List ℕ)) (closing : Closing) → NamesClosing mark config.pack closed closing → OpensSaved {R = R} state config secret salt closed closing (Err error) s t)
    → EndsShut (begun_mark mark) config secret salt ending s t
shut_opened state (Closed region blocks number of) config secret salt found within is same fits error ending ends s t opens =
    let here : of ≡ found = cc is in
    let closing = closing_named region blocks number of in
    subst (λ (b : Bool). MatchBool b (StaysShut None closing secret salt ending s t) ((ending ≡ OtherPack) × (t ≡ s))) (sym (packs of config.pack (here ∙ same)))
    (stays_shut state config secret salt None closing error ending s t ends (opens None closing (here ∙ same, refl, refl, within)))
shut_opened state (Saved region blocks number of closed check) config secret salt found within is same fits error ending ends s t opens =
    let here : of ≡ found = cc is in
    let closing = closing_named region blocks number of in
    subst (λ (b : Bool). MatchBool b (StaysLocked closed check closing secret salt ending s t) ((ending ≡ OtherPack) × (t ≡ s))) (sym (packs of config.pack (here ∙ same)))
    (inl (fits, stays_shut state config secret salt (Some closed) closing error ending s t ends (opens (Some closed) closing (here ∙ same, refl, within.1, refl, within.0))))
shut_opened state other config secret salt found within is same fits error ending ends s t opens = absurd (cc is)

-- they were opened
pub engine_opened : {R : Type 0} (state : R → RevState) (mark : Mark) (config : Config) (secret salt : List ℕ) (found : ℕ) → IsMark mark → pack_of mark ≡ Some found → found ≡ config.pack
    → FitsSecret secret mark → (e : Engine R) (s t : StoreState)
    → ((closed : Option (List ℕ)) (closing : Closing) → NamesClosing mark config.pack closed closing → OpensSaved state config secret salt closed closing (Ok e) s t)
    → EngineBy state mark config secret salt e s t
engine_opened state (Closed region blocks number of) config secret salt found within is same fits e s t opens =
    let here : of ≡ found = cc is in
    (here ∙ same, opens None (closing_named region blocks number of) (here ∙ same, refl, refl, within))
engine_opened state (Saved region blocks number of closed check) config secret salt found within is same fits e s t opens =
    let here : of ≡ found = cc is in
    (here ∙ same, fits, opens (Some closed) (closing_named region blocks number of) (here ∙ same, refl, within.1, refl, within.0))
engine_opened state other config secret salt found within is same fits e s t opens = absurd (cc is)

-- ---- what the keeper holds that told its mark
pub held_then : (mark : Mark) (drawn k1 : KeeperState) (held : Mark) → HandsBegun mark (Ok tt) drawn k1 → drawn.held ≡ Some held → mark ≡ held → k1.held ≡ Some (begun_mark mark)
held_then Fresh drawn k1 held hands is same = hands.told held is
held_then InUse drawn k1 held hands is same = absurd hands
held_then other drawn k1 held hands is same = ap (λ (k : KeeperState). k.held) hands ∙ is ∙ ap (λ (m : Mark). Some m) (sym same)
