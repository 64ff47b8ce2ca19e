-- An engine goes on from what a run saved: the closing is read under keys that know no other salt than its own.
use Rattle.ob_tables.proofs.Words.{ap, append-nil, arith, Began, Bool, Closing, draw_seed_of, DrawPlace, Engine, Err, false, if◌then◌else◌, inl, inr, InUse, IsBounded, IsFree, IsHonest, IsMarked, IsTrue, KeptRegion, key_of, KeySet, length, List, Listed, map, Mark, nat_tests, None, Ok, opened_public, Option, Public, Ready, refl, ReopensTables, IsAtRest, Result, RevState, RoomState, Some, start_of, StoreState, subst, sym, Tables, true, Vault, World, ℕ, [], ◌*◌, ◌++◌, ◌+◌, ◌-◌, ◌==◌, ◌∙◌, ◌∷◌, ◌≡◌, ◌≢◌, ◌≤◌, ◌⊎◌}
use Rattle.ob_base.specs.declared.config.Config.{Config}
use Rattle.ob_reopen.specs.declared.mark.Mark.TheVariants.{Fresh, Closed, Begun, Saved}
use Rattle.ob_seal.specs.KeySet.{AreAlike, pair_in, pair_of}
use Rattle.ob_seal.specs.Sealed.{held_of, pair_by}
use Rattle.ob_seal.specs.declared.pairs.Pair.{Pair}
use Rattle.ob_store.specs.Calls.{ChangesNothing as OnlyRoom}
use Rattle.ob_vault.specs.State.{from_earlier}
use Rattle.ob_vault.specs.Places.{at}
use Rattle.ob_vault.specs.Rekeying.{rekeyed}
use Rattle.ob_vault.proofs.Rekeyed.{ready_rekeyed}
use Rattle.ob_reopen.specs.declared.fault.OpenErr.{OpenErr}
use Rattle.ob_reopen.specs.declared.fault.OpenErr.TheVariants.{Failed, NoMemory}
use Rattle.ob_reopen.specs.Closings.{KeepsRows, open_script, read_script}
use Rattle.ob_reopen.specs.Openings.{ReadsClosing}
use Rattle.ob_reopen.specs.Reopened.{NotOpened, opening_script, OpeningCause}
use Rattle.ob_reopen.specs.Saved.{RestsBy, reopening_keys, salted_of}
use Rattle.ob_reopen.specs.Spelling.{catalogue_rows}
use Rattle.ob_reopen.proofs.AlikeKeys.{ones_alike}
use Rattle.ob_reopen.proofs.ReadsRekeyed.{reads_rekeyed, rows_agree}
use Rattle.ob_reopen.proofs.SavedLemmas.{rests_under}
use Rattle.ob_tables.specs.Engines.{IsConfig}
use Rattle.ob_tables.specs.Reopening.{IsOpened, OpensEngine}
use Rattle.ob_tables.specs.Saving.{NamesClosing, OpensSaved}
use Rattle.ob_tables.proofs.OpeningLemmas.{began_all, faults_mid, fits_read, follows, not_begun, not_read, opened_as, opens_all, opens_shut, opens_unlisted, spare_tables}

-- the keys of the closing's region, whatever tables it lists
same_test : (n : ℕ) → (n == n) ≡ true
same_test n = grind (arith, nat_tests)

pub own_pair : (secret salt : List ℕ) (closed : Option (List ℕ)) (closing : Closing) (listed : List Listed) → pair_of (reopening_keys secret salt closed closing listed) closing.region ≡ pair_by secret closed
unfolding pair_in
own_pair secret salt closed closing listed =
    ap (λ (b : Bool). if b then pair_by secret closed else pair_in (pair_by secret (Some salt)) (map (held_of secret) (map salted_of listed)) closing.region) (same_test closing.region)

module _ {R : Type 0} (state : R → RevState) (config : Config) (secret salt : List ℕ) (closed : Option (List ℕ)) (closing : Closing) (marked : IsMarked closing)
    (s s1 : StoreState) (fresh : s.asked ≡ []) (honest : s.lie ≡ None) (empty : (q : ℕ) → s.live q ≡ None) (room : OnlyRoom s s1) where
  abbrev first_keys : KeySet
  first_keys = reopening_keys secret salt closed closing []

  -- it was not opened
  ends : (e : OpenErr) (t : StoreState) → NotOpened closing first_keys e s t → s.faults ≤ t.faults → t.let_go ≡ s.let_go → t.tells ≡ s.tells → ((q : ℕ) → t.kept q ≡ s.kept q)
      → (IsTrue s.tells → t.lie ≡ None → (tables : Tables) → RestsBy secret closed closing s.kept tables → (e ≡ Failed) ⊎ (e ≡ NoMemory))
      → OpensSaved {R = R} state config secret salt closed closing (Err e) s t
  ends e t shut faults log tells kept told = record {
    ok = tt;
    err = shut;
    log = log;
    faults = faults;
    tells = tells;
    kept = kept;
    told = told;
    sealed = λ tells nolie tables rests. tt;
  }

  -- nothing was asked
  pub saved_none : OpensSaved {R = R} state config secret salt closed closing (Err NoMemory) s s1
  saved_none =
      let is = not_begun state config first_keys closing marked s s1 fresh honest room in
      ends NoMemory s1 is.err is.faults is.log is.tells room.keeps.kept (λ tells nolie tables rests. inr refl)

  module _ (v0 : Vault R) (ready : (x : StoreState) → x.asked ≡ [] → Ready (at state v0 x))
      (started : start_of v0 ≡ from_earlier (closing.number + closing.blocks - 1) closing.region) (keyed : v0.keys ≡ first_keys)
      (none : (q : ℕ) → (state v0.revs).live q ≡ None) (v1 : Vault R) (s2 : StoreState) where
    abbrev fore : World
    fore = at state v0 s1

    abbrev amid : World
    amid = at state v1 s2

    read_true : IsTrue s.tells → s2.lie ≡ None → IsHonest fore amid
    read_true tells nolie = record { tells = subst IsTrue (sym room.tells) tells; nolie = nolie }

    -- the rows that rest there, under the keys that it is read under
    rows_there : (tables : Tables) (rests : RestsBy secret closed closing s.kept tables) → KeepsRows v0.keys closing (catalogue_rows closing.region rests.rests.listed) s1.kept
    rows_there tables rests =
        let pair : pair_of rests.keys closing.region ≡ pair_of first_keys closing.region =
        rests.of closing.region ∙ ap (pair_by secret) (sym rests.own) ∙ sym (own_pair secret salt closed closing []) in
        let same : AreAlike rests.keys v0.keys closing.region =
        subst (λ (k : KeySet). AreAlike rests.keys k closing.region) (sym keyed)
        (ones_alike rests.keys first_keys closing.region (rests.ones closing.region (inl refl)) tt pair) in
        let is = rows_agree rests.keys v0.keys closing (catalogue_rows closing.region rests.rests.listed) s.kept same rests.rests.closing_is.rows in
        record {
          region = is.region;
          is = room.keeps.kept closing.region ∙ is.is;
          blocks = is.blocks;
          len = is.len;
          whole = is.whole;
          count = is.count;
          sizes = is.sizes;
          holds = is.holds;
        }

    -- its closing was not read
    pub saved_unread : (e : OpenErr) → ReadsClosing closing (Err e) fore amid → OpensSaved {R = R} state config secret salt closed closing (Err e) s s2
    saved_unread e reads =
        let more = reads.opens.err.stays.faults in
        let same = room.faults in
        ends e s2 (not_read state config first_keys closing marked s s1 fresh honest room v0 ready started keyed none v1 s2 e reads) (omega (arith, more, same))
        (reads.opens.err.stays.log ∙ room.log) (reads.opens.err.stays.tells ∙ room.tells) (λ q. reads.kept q ∙ room.keeps.kept q)
        (λ tells nolie tables rests.
        (reads.told (read_true tells nolie) (catalogue_rows closing.region rests.rests.listed) (rows_there tables rests)).read rests.rests.listed rests.rests.closing_is.catalogue refl)

    module _ (listed : List Listed) (reads : ReadsClosing closing (Ok listed) fore amid) where
      -- it lists what rests there
      same_list : IsTrue s.tells → s2.lie ≡ None → (tables : Tables) (rests : RestsBy secret closed closing s.kept tables) → listed ≡ rests.rests.listed
      same_list tells nolie tables rests =
          (reads.told (read_true tells nolie) (catalogue_rows closing.region rests.rests.listed) (rows_there tables rests)).read rests.rests.listed rests.rests.closing_is.catalogue refl

      abbrev keys : KeySet
      keys = reopening_keys secret salt closed closing listed

      same_keys : AreAlike v0.keys keys closing.region
      same_keys =
          subst (λ (k : KeySet). AreAlike k keys closing.region) (sym keyed)
          (ones_alike first_keys keys closing.region tt tt (own_pair secret salt closed closing [] ∙ sym (own_pair secret salt closed closing listed)))

      -- a first part was asked of what opens its tables
      shut_by : (e : OpenErr) (t : StoreState) → Began (open_script closing.pack listed) s2 t → OpeningCause e closing s t → t.lie ≡ s2.lie → NotOpened closing first_keys e s t
      shut_by e t began cause lie_is = record {
        listed = listed;
        catalogue = inl reads.catalogue;
        began = began_all state config first_keys closing marked s s1 fresh honest room v0 ready started keyed none v1 s2 listed reads t began;
        cause = cause;
        tampered = λ lie told unfit.
            absurd (unfit (fits_read state config first_keys closing marked s s1 fresh honest room v0 ready started keyed none v1 s2 listed reads lie (sym lie_is ∙ told)));
      }

      -- no memory for the keys
      pub saved_unkeyed : OpensSaved {R = R} state config secret salt closed closing (Err NoMemory) s s2
      saved_unkeyed =
          let same = faults_mid state config first_keys closing marked s s1 fresh honest room v0 ready started keyed none v1 s2 listed reads in
          ends NoMemory s2
          (shut_by NoMemory s2 (record { done = []; rest = open_script closing.pack listed; split = refl; asked = sym (append-nil s2.asked) }) same refl)
          (omega (arith, same)) (reads.opens.ok.stays.log ∙ room.log) (reads.opens.ok.stays.tells ∙ room.tells) (λ q. reads.kept q ∙ room.keeps.kept q) (λ tells nolie tables rests. inr refl)

      module _ (v2 : Vault R) (rekeys : (x : StoreState) → at state v2 x ≡ rekeyed keys (at state v1 x)) where
        -- as if it had had these keys from the first
        abbrev from_first : Vault R
        from_first = record v0 { keys = keys }

        ready_first : (x : StoreState) → x.asked ≡ [] → Ready (at state from_first x)
        ready_first x none_asked = ready_rekeyed keys (at state v0 x) (ready x none_asked)

        pub reads_first : ReadsClosing closing (Ok listed) (at state from_first s1) (at state v2 s2)
        reads_first =
            subst (λ (w : World). ReadsClosing closing (Ok listed) (at state from_first s1) w) (sym (rekeys s2))
            (reads_rekeyed closing keys fore amid (Ok listed) same_keys reads.awaits.unasked (room.lie ∙ honest) (λ q. room.keeps.live q ∙ empty q) reads)

        pub spare_first : 2 * closing.blocks ≤ s1.spare → length listed ≤ s2.spare
        spare_first spare = spare_tables state config keys closing marked s s1 fresh honest room from_first ready_first started refl none v2 s2 listed reads_first spare

        module _ (pack_is : closing.pack ≡ config.pack) (is_config : IsConfig config) (bounded : (q : ℕ) (region : KeptRegion) → s.kept q ≡ Some region → IsBounded region) where
          -- a table stayed shut
          pub saved_shut : {T : Type 0} (e : OpenErr) (v3 : Vault R) (t : StoreState) → ReopensTables {T = T} closing listed (Err e) (at state v2 s2) (at state v3 t)
              → OpensSaved {R = R} state config secret salt closed closing (Err e) s t
          saved_shut {T} e v3 t reopens =
              let is = opens_shut state config keys closing marked pack_is is_config s s1 fresh honest empty bounded room from_first ready_first started refl none v2 s2 listed reads_first {T = T} e v3 t reopens in
              ends e t (shut_by e t reopens.opens.err.began is.err.cause reopens.lie) is.faults is.log is.tells (λ q. reopens.kept q ∙ reads.kept q ∙ room.keeps.kept q) (λ tells nolie tables rests. reopens.never)

          module _ {T : Type 0} (value : T) (t : StoreState) where
            -- no memory for the list of tables
            pub saved_unlisted : (v3 : Vault R) → ReopensTables closing listed (Ok value) (at state v2 s2) (at state v3 t)
                → OpensSaved {R = R} state config secret salt closed closing (Err NoMemory) s t
            saved_unlisted v3 reopens =
                let is = opens_unlisted state config keys closing marked pack_is is_config s s1 fresh honest empty bounded room from_first ready_first started refl none v2 s2 listed reads_first value t v3 reopens in
                let all = open_script closing.pack listed in
                ends NoMemory t (shut_by NoMemory t (record { done = all; rest = []; split = append-nil all; asked = reopens.opens.ok.did.asked }) is.err.cause reopens.lie)
                is.faults is.log is.tells (λ q. reopens.kept q ∙ reads.kept q ∙ room.keeps.kept q) (λ tells nolie tables rests. inr refl)

            -- all is open
            module _ (e : Engine R) (reopens : ReopensTables closing listed (Ok value) (at state v2 s2) (at state e.vault t))
                (public_is : e.public ≡ opened_public config closing listed) (from_is : e.closing ≡ Some closing.region) (unindexed : e.indexes.items ≡ []) (draws_are : e.draws ≡ record { key = key_of (draw_seed_of keys); next = 0 }) (alive : e.ended ≡ false)
                (free : IsFree e.public e.room) (high_is : e.room.high ≡ 1) (rows_is : e.room.rows ≡ config.buffer) where
              abbrev opened : e.replaced ≡ None → IsOpened state config keys closing e s t
              opened settled =
                  opened_as state config keys closing marked pack_is is_config s s1 fresh honest empty bounded room from_first ready_first started refl none v2 s2 listed reads_first value t e reopens
                  public_is from_is unindexed draws_are alive free high_is rows_is settled

              all_open : e.replaced ≡ None → OpensEngine state config keys closing (Ok e) s t
              all_open settled =
                  opens_all state config keys closing marked pack_is is_config s s1 fresh honest empty bounded room from_first ready_first started refl none v2 s2 listed reads_first value t e reopens
                  public_is from_is unindexed draws_are alive free high_is rows_is settled

              rests_here : IsTrue s.tells → t.lie ≡ None → (tables : Tables) → RestsBy secret closed closing s.kept tables → IsAtRest keys closing s.kept tables
              rests_here tells nolie tables rests =
                  subst (λ (l : List Listed). IsAtRest (reopening_keys secret salt closed closing l) closing s.kept tables) (sym (same_list tells (sym reopens.lie ∙ nolie) tables rests))
                  (rests_under secret salt closed closing s.kept tables rests)

              pub saved_open : e.replaced ≡ None → OpensSaved state config secret salt closed closing (Ok e) s t
              saved_open settled = record {
                ok = record {
                  keys = keys;
                  opened = opened settled;
                  keyed = refl;
                  lists = λ tells nolie tables by. sym (same_list tells (sym reopens.lie ∙ nolie) tables by);
                };
                err = tt;
                log = (all_open settled).log;
                faults = (all_open settled).faults;
                tells = (all_open settled).tells;
                kept = λ q. reopens.kept q ∙ reads.kept q ∙ room.keeps.kept q;
                told = λ tells nolie tables rests. (all_open settled).told tells nolie tables (rests_here tells nolie tables rests);
                sealed = λ tells nolie tables rests. (all_open settled).sealed tells nolie tables (rests_here tells nolie tables rests);
              }

-- the closing that a mark names
pub named_marked : (mark : Mark) (pack : ℕ) (closed : Option (List ℕ)) (closing : Closing) → NamesClosing mark pack closed closing → IsMarked closing
named_marked (Closed region blocks number of) pack closed closing is = is.3
named_marked (Saved region blocks number of salt check) pack closed closing is = is.4
named_marked other pack closed closing is = absurd is

pub named_pack : (mark : Mark) (pack : ℕ) (closed : Option (List ℕ)) (closing : Closing) → NamesClosing mark pack closed closing → closing.pack ≡ pack
named_pack (Closed region blocks number of) pack closed closing is = ap (λ (c : Closing). c.pack) is.2 ∙ is.0
named_pack (Saved region blocks number of salt check) pack closed closing is = ap (λ (c : Closing). c.pack) is.3 ∙ is.0
named_pack other pack closed closing is = absurd is

-- by the closing that was found for a mark, it is so by the one that the mark names
pub named_saved : {R : Type 0} (state : R → RevState) (config : Config) (secret salt : List ℕ) (mark : Mark) (found : Closing) (by : Option (List ℕ)) (result : Result (Engine R) OpenErr) (s t : StoreState)
    → ((pack : ℕ) (closed : Option (List ℕ)) (closing : Closing) → NamesClosing mark pack closed closing → (found ≡ closing) × (by ≡ closed))
    → (IsMarked found → found.pack ≡ config.pack → OpensSaved state config secret salt by found result s t)
    → (closed : Option (List ℕ)) (closing : Closing) → NamesClosing mark config.pack closed closing → OpensSaved state config secret salt closed closing result s t
named_saved state config secret salt mark found by result s t same opens closed closing is =
    let both = same config.pack closed closing is in
    subst (λ (x : Closing). OpensSaved state config secret salt closed x result s t) both.0
    (subst (λ (o : Option (List ℕ)). OpensSaved state config secret salt o found result s t) both.1
    (opens (subst (λ (x : Closing). IsMarked x) (sym both.0) (named_marked mark config.pack closed closing is)) (ap (λ (x : Closing). x.pack) both.0 ∙ named_pack mark config.pack closed closing is)))
