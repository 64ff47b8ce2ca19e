-- An engine is opened: what is asked, how it may end, and which tables it has.
use Rattle.ob_tables.proofs.Words.{AcceptsClosings, Access, Agrees, ap, append-nil, AreDraws, AreHeld, AreKept, AreTables, arith, Began, Bool, Untampered, cases_eq, cases_lt, Closing, Did, draw_seed_of, DrawPlace, Engine, Err, false, Index, inl, inr, InUse, IsBeside, IsBounded, IsCatalogue, IsFree, IsHonest, IsMarked, IsReopened, IsTable, IsTrue, KeptRegion, key_of, KeySet, length, length-append, length-map, FalseRead, List, Listed, makes, map, Mark, max, None, Ok, opened_public, Option, option_map, others_of, Public, Ready, refl, ReopensTables, replicate, IsAtRest, RevState, RoomState, Round, slice_get, Some, Start, start_of, StoreState, subst, suc, sym, Tables, TagFits, true, Vault, World, world_of, zero, ℕ, [], ◌*◌, ◌++◌, ◌+◌, ◌-◌, ◌<◌, ◌∙◌, ◌∷◌, ◌≡◌, ◌≢◌, ◌≤◌, ◌⊎◌}
use Rattle.ob_tables.proofs.TableLemmas.{no_entry, no_stash}
use Rattle.std.proofs.lemmas.List.{length-replicate}
use Rattle.std.proofs.lemmas.Option.{slice_get-map}
use Rattle.ob_base.specs.declared.access.Access.TheVariants.{Read}
use Rattle.ob_base.specs.declared.config.Config.{Config}
use Rattle.ob_reopen.specs.declared.mark.Mark.TheVariants.{Fresh, Closed, Begun, Saved}
use Rattle.ob_base.specs.declared.schema.Table.{Table}
use Rattle.ob_base.specs.Accesses.{read_at, region_of}
use Rattle.ob_base.specs.Counts.{Rises}
use Rattle.ob_base.specs.Lists.{each}
use Rattle.ob_base.proofs.AccessLemmas.{makes-append}
use Rattle.ob_script.proofs.Makes.{makes-count_part}
use Rattle.ob_room.specs.RoomState.{clear}
use Rattle.ob_store.specs.Calls.{ChangesNothing as OnlyRoom}
use Rattle.ob_store.proofs.Steps.{did_join, began_join, length-each}
use Rattle.ob_vault.specs.State.{from_earlier}
use Rattle.ob_vault.specs.Places.{at}
use Rattle.ob_vault.specs.Resuming.{Stays, Unasked, open_at}
use Rattle.ob_vault.specs.Tied.{AllSealed, Scope, next_fault}
use Rattle.ob_reopen.specs.declared.fault.OpenErr.{OpenErr}
use Rattle.ob_reopen.specs.declared.fault.OpenErr.TheVariants.{Failed, Tampered, NoMemory}
use Rattle.ob_reopen.specs.Closings.{KeepsRows, closing_region, open_script, read_script}
use Rattle.ob_reopen.specs.Spelling.{catalogue_rows}
use Rattle.ob_reopen.specs.Openings.{ClosingTampered, Follows, IsNumbered, IsOf, OpenCause, ReadsClosing}
use Rattle.ob_reopen.specs.Writings.{StandApart}
use Rattle.ob_reopen.proofs.TableLemmas.{is_of, table_is, tables_apart}
use Rattle.ob_tables.specs.Agreeing.{first_draws}
use Rattle.ob_select.specs.Settings.{AreSettings}
use Rattle.ob_tables.specs.Engines.{IsConfig, IsStash}
use Rattle.ob_seal.specs.Draws.{draw_of}
use Rattle.ob_tables.specs.Reopening.{IsClosed, IsOpened, OpensEngine}
use Rattle.ob_reopen.specs.Reopened.{NotOpened, OpeningCause, opened_start, opening_script}
use Rattle.ob_select.specs.Selecting.{AcceptsRows}
use Rattle.ob_tables.specs.Telling.{Represents}
use Rattle.ob_tables.proofs.GivenNumbers.{fits_as, fits_listed, start_all, start_first}
use Rattle.ob_tables.proofs.KeptLemmas.{closing_sealed, held_open, tables_sealed}

-- ---- why it ended
-- the same cause of an error, where so many calls had failed before
pub cause_opening : (closing : Closing) (e : OpenErr) (a b : World) (s : StoreState) → a.store.faults ≡ s.faults → OpenCause e a b
    → ((q p : ℕ) → e ≡ Tampered q p → (q ≡ closing.region) × (p < closing.blocks)) → OpeningCause e closing s b.store
cause_opening closing Failed a b s same cause there = subst (λ (n : ℕ). Rises n b.store.faults) same cause.0
cause_opening closing (Tampered q p) a b s same cause there = (cause.0 ∙ same, (there q p refl).0, (there q p refl).1)
cause_opening closing NoMemory a b s same cause there = cause.0 ∙ same

-- a changed block whose tag doesn't fit ended it
record EndsAtLie (e : OpenErr) (lie : FalseRead) (asked : List Access) : Type 0 where
  is : e ≡ Tampered lie.region lie.place
  last : asked ≡ lie.before ++ Read lie.region lie.place ∷ []

cut_by : (e : OpenErr) (a b : World) → OpenCause e a b → Untampered a → (lie : FalseRead) → b.store.lie ≡ Some lie → (TagFits b.vault.keys b.vault.start lie → ⊥) → EndsAtLie e lie b.store.asked
cut_by Failed a b cause calm lie told unfit = absurd (unfit ((cause.1 calm).calm lie told))
cut_by (Tampered q p) a b cause calm lie told unfit = elim (cause.2 calm) [
  | inl is ↦ absurd (unfit (is.calm lie told))
  | inr ends ↦
      let same : ends.lie ≡ lie = cc (ends.told, told) in
      record {
        is = (λ i. Tampered (sym ends.at_region i) (sym ends.at_place i)) ∙ ap (λ (l : FalseRead). Tampered l.region l.place) same;
        last = ends.asked ∙ ap (λ (l : FalseRead). l.before ++ Read l.region l.place ∷ []) same;
      }
]
cut_by NoMemory a b cause calm lie told unfit = absurd (unfit ((cause.1 calm).calm lie told))

-- ---- what is asked
unasked_at : (q : ℕ) (before : List Access) (a : Access) (rest : List Access) → Unasked q (before ++ a ∷ rest) → region_of a ≢ q
unasked_at q [] a rest off = off.0
unasked_at q (x ∷ before) a rest off = unasked_at q before a rest off.1

-- no region is made
makes_open : (q blocks width : ℕ) → makes (open_at q blocks width) ≡ 0
unfolding makes
makes_open q blocks width = refl

makes_tables : (pack : ℕ) (ts : List Listed) → makes (open_script pack ts) ≡ 0
unfolding makes
makes_tables pack [] = refl
makes_tables pack (t ∷ ts) = makes_tables pack ts

makes_read : (closing : Closing) → makes (read_script closing) ≡ 0
makes_read closing =
    let open_is = makes_open closing.region closing.blocks 1024 in
    let reads = makes-count_part closing.region closing.blocks in
    let sum = makes-append (open_at closing.region closing.blocks 1024) (each closing.blocks (read_at closing.region)) in
    omega (arith, open_is, reads, sum)

makes_opening : (closing : Closing) (listed : List Listed) → makes (opening_script closing listed) ≡ 0
makes_opening closing listed =
    let first = makes_read closing in
    let rest = makes_tables closing.pack listed in
    let sum = makes-append (read_script closing) (open_script closing.pack listed) in
    omega (arith, first, rest, sum)

length-read : (closing : Closing) → length (read_script closing) ≡ 1 + closing.blocks
length-read closing =
    let reads = length-each (read_at closing.region) 1 (λ i. refl) closing.blocks in
    let sum = length-append (open_at closing.region closing.blocks 1024) (each closing.blocks (read_at closing.region)) in
    omega (arith, reads, sum)

-- ---- a table that is listed
record Mapped (listed : List Listed) (i : ℕ) (u : Table) : Type 0 where
  table : Listed
  get : slice_get listed i ≡ Some table
  same : table.table ≡ u

mapped : (listed : List Listed) (i : ℕ) (u : Table) → slice_get (map (λ (t : Listed). t.table) listed) i ≡ Some u → Mapped listed i u
mapped [] zero u is = absurd (cc is)
mapped [] (suc i) u is = absurd (cc is)
mapped (t ∷ ts) zero u is = record { table = t; get = refl; same = cc is }
mapped (t ∷ ts) (suc i) u is = let m = mapped ts i u is in record { table = m.table; get = m.get; same = m.same }

-- two places are the same where neither comes before the other
by_order : (i j : ℕ) → (i < j → ⊥) → (j < i → ⊥) → i ≡ j
by_order i j up down = elim (cases_lt i j) [
  | inl below ↦ absurd (up below)
  | inr above ↦ elim (cases_lt j i) [
    | inl below ↦ absurd (down below)
    | inr past ↦ omega (arith, above, past)
  ]
]

-- the tables of a closing that is open, and of which each is, are those of an engine
module _ (closing : Closing) (listed : List Listed) (marked : IsMarked closing) (catalogue : IsCatalogue closing listed) (mid w : World)
    (lives : mid.vault.revs.live closing.region ≡ Some (closing_region closing))
    (none : (q : ℕ) → q ≢ closing.region → mid.vault.revs.live q ≡ None)
    (kept : (q : ℕ) → (IsOf listed q → ⊥) → w.vault.revs.live q ≡ mid.vault.revs.live q)
    (tables : (i : ℕ) (t : Listed) → slice_get listed i ≡ Some t → IsReopened closing.pack t mid w) where
  abbrev ts : List Table
  ts = map (λ (t : Listed). t.table) listed

  open_table : (i : ℕ) (t : Listed) → slice_get listed i ≡ Some t → IsTable closing.pack t.table w
  open_table i t is =
      let here = tables i t is in
      let limits = table_is closing listed catalogue i t is in
      let some = limits.number_least in
      record {
        heading = limits.heading;
        least = limits.region_least;
        live = record { shape = _; lives = here.lives };
        written = λ shape. record {
          flat = record {
            made = record { order = Round; lives = here.lives; turn = here.turn };
            written = λ p below. record { number = λ zero_is. let n = here.numbers p below in omega (arith, n, zero_is, some) };
          };
          round = here.lives;
        };
      }

  no_closing : IsOf listed closing.region → ⊥
  no_closing of = let within = (table_is closing listed catalogue of.place of.table of.is).region_most in let same = of.region in omega (arith, within, same)

  apart : (i j : ℕ) (t u : Listed) → i < j → slice_get listed i ≡ Some t → slice_get listed j ≡ Some u → StandApart closing.pack t u
  apart i j t u below is at = tables_apart closing listed catalogue i j t u below is at

  pub opened_tables : AreTables ts (others_of (Some closing.region) []) [] closing.pack w
  unfolding others_of
  opened_tables = record {
    stand = λ k x is. absurd (no_entry [] k x refl is);
    one = λ k l x y is. absurd (no_entry [] k x refl is);
    has = λ i u is shape.
        let m = mapped listed i u is in
        let flat = (table_is closing listed catalogue i m.table m.get).flat in
        let same = m.same in
        absurd (cc (shape, same, flat));
    each = λ i u is. let m = mapped listed i u is in subst (λ (x : Table). IsTable closing.pack x w) m.same (open_table i m.table m.get);
    few =
        let long = length-map listed (λ (t : Listed). t.table) in
        let count = catalogue.count in
        let most = marked.blocks_most in
        omega (arith, long, count, most);
    apart = λ i j t u is js same.
        let a = mapped listed i t is in
        let b = mapped listed j u js in
        let regions : a.table.table.region ≡ b.table.table.region = ap (λ (x : Table). x.region) a.same ∙ same ∙ ap (λ (x : Table). x.region) (sym b.same) in
        by_order i j (λ below. (apart i j a.table b.table below a.get b.get).regions regions) (λ below. (apart j i b.table a.table below b.get a.get).regions (sym regions));
    names = λ i j t u is js same.
        let a = mapped listed i t is in
        let b = mapped listed j u js in
        let names : a.table.table.heading.name ≡ b.table.table.heading.name = ap (λ (x : Table). x.heading.name) a.same ∙ same ∙ ap (λ (x : Table). x.heading.name) (sym b.same) in
        by_order i j (λ below. (apart i j a.table b.table below a.get b.get).names names) (λ below. (apart j i b.table a.table below b.get a.get).names (sym names));
    beside = λ q is. let here : closing.region ≡ q = elim is [ inl closed ↦ cc closed | inr of ↦ absurd (no_stash [] q refl of) ] in subst (λ (r : ℕ). IsBeside ts r w) here (record {
      shape = closing_region closing;
      lives = record { live = kept closing.region no_closing ∙ lives };
      off = λ of. let m = mapped listed of.place of.table of.get in no_closing (record { place = of.place; table = m.table; is = m.get; region = ap (λ (x : Table). x.region) m.same ∙ of.region });
    });
    only = λ q shape live. elim (cases_eq q closing.region) [
      | inl here ↦ inr (inl (ap (λ (r : ℕ). Some r) (sym here)))
      | inr off ↦ elim (is_of listed q) [
        | inl of ↦ inl (record {
          place = of.place;
          table = of.table.table;
          get = slice_get-map (λ (t : Listed). t.table) listed of.place ∙ ap (option_map (λ (t : Listed). t.table)) of.is;
          region = of.region;
        })
        | inr out ↦ let gone : w.vault.revs.live q ≡ None = kept q out ∙ none q off in absurd (cc (live, gone))
      ]
    ];
  }

-- ---- from the first access on
module _ {R : Type 0} (state : R → RevState) (config : Config) (keys : KeySet) (closing : Closing) (marked : IsMarked closing)
    (s s1 : StoreState) (fresh : s.asked ≡ []) (honest : s.lie ≡ None) (room : OnlyRoom s s1) where
  -- nothing was asked
  pub not_begun : OpensEngine {R = R} state config keys closing (Err NoMemory) s s1
  not_begun = record {
    ok = tt;
    err = record {
      listed = [];
      catalogue = inr refl;
      began = record { done = []; rest = opening_script closing []; split = refl; asked = room.asked ∙ sym (append-nil s.asked) };
      cause = room.faults;
      tampered = λ lie told unfit. absurd (cc (honest, room.lie, told));
    };
    faults = let same = room.faults in omega (arith, same);
    log = room.log;
    tells = room.tells;
    told = λ tells nolie tables rests. inr refl;
    sealed = λ tells nolie tables rests. tt;
  }

  module _ (v0 : Vault R) (ready : (x : StoreState) → x.asked ≡ [] → Ready (at state v0 x))
      (started : start_of v0 ≡ from_earlier (closing.number + closing.blocks - 1) closing.region) (keyed : v0.keys ≡ keys)
      (none : (q : ℕ) → (state v0.revs).live q ≡ None) where
    abbrev first : World
    first = at state v0 s1

    pub follows : 2 * closing.blocks ≤ s1.spare → Follows closing first
    follows spare = record {
      ready = ready s1 (room.asked ∙ fresh);
      start = started;
      asked = room.asked ∙ fresh;
      spare = let some = marked.blocks_least in omega (arith, spare, some);
    }

    calm_first : Untampered first
    calm_first = record {
      calm = λ lie told. absurd (cc (honest, room.lie, told));
      within = λ lie told. absurd (cc (honest, room.lie, told));
    }

    -- ---- the closing
    module _ (v1 : Vault R) (s2 : StoreState) where
      abbrev mid : World
      mid = at state v1 s2

      start_mid : Stays (λ q. q ≡ closing.region) first mid → IsNumbered closing mid → start_of v1 ≡ opened_start closing []
      start_mid stays numbered = start_first closing first mid started stays.writes stays.region stays.linked numbered

      keys_mid : Stays (λ q. q ≡ closing.region) first mid → v1.keys ≡ keys
      keys_mid stays = stays.keys ∙ keyed

      -- it was refused, or not read
      module _ (e : OpenErr) (reads : ReadsClosing closing (Err e) first mid) where
        there : (q p : ℕ) → e ≡ Tampered q p → (e ≡ Failed) ⊎ (e ≡ NoMemory) ⊎ ClosingTampered closing e mid → (q ≡ closing.region) × (p < closing.blocks)
        there q p is (inl failed) = absurd (cc (is, failed))
        there q p is (inr (inl memory)) = absurd (cc (is, memory))
        there q p is (inr (inr tampered)) =
            let same : Tampered q p ≡ Tampered closing.region tampered.place = sym is ∙ tampered.is in
            let place : p ≡ tampered.place = cc same in
            let below = tampered.below in (cc same, omega (arith, place, below))

        cut_at : (lie : FalseRead) → s2.lie ≡ Some lie → (TagFits keys (opened_start closing []) lie → ⊥) → IsNumbered closing mid ⊎ (s2.lie ≡ s1.lie) → EndsAtLie e lie s2.asked
        cut_at lie told unfit (inl numbered) =
            cut_by e first mid reads.opens.err.cause calm_first lie told
            (λ fits. unfit (fits_as v1.keys keys (start_of v1) (opened_start closing []) lie (keys_mid reads.opens.err.stays) (start_mid reads.opens.err.stays numbered) fits))
        cut_at lie told unfit (inr same) = absurd (cc (honest, room.lie, same, told))

        pub not_read : NotOpened closing keys e s s2
        not_read =
            let began = reads.opens.err.began in
            record {
              listed = [];
              catalogue = inr refl;
              began = record {
                done = began.done;
                rest = began.rest;
                split = began.split ∙ sym (append-nil (read_script closing));
                asked = began.asked ∙ ap (λ (l : List Access). l ++ began.done) room.asked;
              };
              cause = cause_opening closing e first mid s room.faults reads.opens.err.cause (λ q p is. there q p is reads.never);
              tampered = λ lie told unfit. let cut = cut_at lie told unfit reads.numbered in (cut.is, cut.last);
            }

      -- it was read
      module _ (listed : List Listed) (reads : ReadsClosing closing (Ok listed) first mid) where
        pub spare_tables : 2 * closing.blocks ≤ s1.spare → length listed ≤ s2.spare
        spare_tables spare =
            let used = reads.opens.ok.spare in
            let long = length-read closing in
            let count = reads.catalogue.count in
            omega (arith, spare, used, long, count)

        calm_mid : Untampered mid
        calm_mid = reads.opens.ok.calm calm_first

        start_read : start_of v1 ≡ opened_start closing []
        start_read = start_mid reads.opens.ok.stays reads.numbered

        -- what was read lies in the closing's region
        lie_there : (lie : FalseRead) → s2.lie ≡ Some lie → (lie.region ≡ closing.region) ⊎ (lie.region ≡ closing.region → ⊥) → lie.region ≡ closing.region
        lie_there lie told (inl here) = here
        lie_there lie told (inr off) =
            let in_asked = calm_mid.within lie told in
            absurd (unasked_at lie.region lie.before (Read lie.region lie.place) in_asked.rest (subst (Unasked lie.region) (sym in_asked.is) (reads.awaits.unasked lie.region off)) refl)

        region_below : (i : ℕ) (t : Listed) → slice_get listed i ≡ Some t → t.table.region < closing.region
        region_below i t is = (table_is closing listed reads.catalogue i t is).region_most

        pub fits_read : (lie : FalseRead) → s2.lie ≡ Some lie → TagFits keys (opened_start closing listed) lie
        fits_read lie told =
            fits_listed closing keys listed lie (lie_there lie told (cases_eq lie.region closing.region)) region_below
            (fits_as v1.keys keys (start_of v1) (opened_start closing []) lie (keys_mid reads.opens.ok.stays) start_read (calm_mid.calm lie told))

        pub faults_mid : s2.faults ≡ s.faults
        faults_mid = reads.opens.ok.did.faults ∙ room.faults

        pub began_all : (t : StoreState) → Began (open_script closing.pack listed) s2 t → Began (opening_script closing listed) s t
        began_all t began =
            let all = began_join (read_script closing) (open_script closing.pack listed) s1 s2 t reads.opens.ok.did began in
            record { done = all.done; rest = all.rest; split = all.split; asked = all.asked ∙ ap (λ (l : List Access). l ++ all.done) room.asked }

        module _ (v2 : Vault R) (t : StoreState) where
          abbrev last : World
          last = at state v2 t

          -- a table stayed shut
          module _ {T : Type 0} (e : OpenErr) (reopens : ReopensTables {T = T} closing listed (Err e) mid last) where
            nowhere : (q p : ℕ) → e ≡ Tampered q p → (e ≡ Failed) ⊎ (e ≡ NoMemory) → (q ≡ closing.region) × (p < closing.blocks)
            nowhere q p is (inl failed) = absurd (cc (is, failed))
            nowhere q p is (inr memory) = absurd (cc (is, memory))

            pub not_reopened : NotOpened closing keys e s t
            not_reopened = record {
              listed = listed;
              catalogue = inl reads.catalogue;
              began = began_all t reopens.opens.err.began;
              cause = cause_opening closing e mid last s faults_mid reopens.opens.err.cause (λ q p is. nowhere q p is reopens.never);
              tampered = λ lie told unfit. absurd (unfit (fits_read lie (sym reopens.lie ∙ told)));
            }

          -- all of them are open
          module _ {T : Type 0} (value : T) (reopens : ReopensTables closing listed (Ok value) mid last) where
            did_all : Did (opening_script closing listed) s t
            did_all =
                let all = did_join (read_script closing) (open_script closing.pack listed) s1 s2 t reads.opens.ok.did reopens.opens.ok.did in
                record {
                  asked = all.asked ∙ ap (λ (l : List Access). l ++ opening_script closing listed) room.asked;
                  faults = all.faults ∙ room.faults;
                }

            pub did_open : Did (opening_script closing listed) s t
            did_open = did_all

            pub start_last : start_of v2 ≡ opened_start closing listed
            start_last =
                start_all closing listed mid last reads.numbered reopens.opens.ok.stays.given reopens.tables start_read
                reopens.opens.ok.stays.writes reopens.opens.ok.stays.region reopens.opens.ok.stays.linked

            pub keys_last : v2.keys ≡ keys
            keys_last = reopens.opens.ok.stays.keys ∙ keys_mid reads.opens.ok.stays

            pub calm_last : Untampered last
            calm_last = reopens.opens.ok.calm calm_mid

            pub next_last : closing.region + 1 ≡ v2.next
            next_last =
                let next = reopens.opens.ok.stays.ready.tied.next in
                let region = ap (λ (x : Start). x.region) start_last in
                let asked : t.asked ≡ opening_script closing listed = did_all.asked ∙ ap (λ (l : List Access). l ++ opening_script closing listed) fresh in
                let made = ap makes asked in
                let zero_is = makes_opening closing listed in
                omega (arith, next, region, made, zero_is)

            pub tables_last : AreTables (map (λ (x : Listed). x.table) listed) (others_of (Some closing.region) []) [] closing.pack last
            tables_last =
                opened_tables closing listed marked reads.catalogue mid last reads.lives.live
                (λ q off. reads.opens.ok.stays.apart.live q off ∙ none q) reopens.opens.ok.stays.apart.live reopens.tables

            -- want of memory for the list of tables
            pub not_listed : NotOpened closing keys NoMemory s t
            not_listed = record {
              listed = listed;
              catalogue = inl reads.catalogue;
              began = record { done = opening_script closing listed; rest = []; split = append-nil (opening_script closing listed); asked = did_all.asked };
              cause = did_all.faults;
              tampered = λ lie told unfit. absurd (unfit (fits_read lie (sym reopens.lie ∙ told)));
            }

-- ---- what rests there
module _ {R : Type 0} (state : R → RevState) (config : Config) (keys : KeySet) (closing : Closing) (marked : IsMarked closing)
    (s s1 : StoreState) (fresh : s.asked ≡ []) (honest : s.lie ≡ None) (empty : (q : ℕ) → s.live q ≡ None)
    (bounded : (q : ℕ) (region : KeptRegion) → s.kept q ≡ Some region → IsBounded region) (room : OnlyRoom s s1)
    (v0 : Vault R) (keyed : v0.keys ≡ keys) (v1 : Vault R) (s2 : StoreState) where
  abbrev fore : World
  fore = at state v0 s1

  abbrev amid : World
  amid = at state v1 s2

  rows_kept : (rows : List (List ℕ)) → KeepsRows keys closing rows s.kept → KeepsRows v0.keys closing rows s1.kept
  rows_kept rows is = subst (λ (k : KeySet). KeepsRows k closing rows s1.kept) (sym keyed) (record {
    region = is.region;
    is = room.keeps.kept closing.region ∙ is.is;
    blocks = is.blocks;
    len = is.len;
    whole = is.whole;
    count = is.count;
    sizes = is.sizes;
    holds = is.holds;
  })

  read_true : IsTrue s.tells → s2.lie ≡ None → IsHonest fore amid
  read_true tells nolie = record { tells = subst IsTrue (sym room.tells) tells; nolie = nolie }

  -- it is not refused, but where the store failed or memory was wanted
  pub refused_never : (e : OpenErr) → ReadsClosing closing (Err e) fore amid → IsTrue s.tells → s2.lie ≡ None → (tables : Tables) → IsAtRest keys closing s.kept tables → (e ≡ Failed) ⊎ (e ≡ NoMemory)
  refused_never e reads tells nolie tables rests =
      (reads.told (read_true tells nolie) (catalogue_rows closing.region rests.listed) (rows_kept _ rests.closing_is.rows)).read rests.listed rests.closing_is.catalogue refl

  module _ (listed : List Listed) (reads : ReadsClosing closing (Ok listed) fore amid) (tells : IsTrue s.tells) (nolie : s2.lie ≡ None)
      (tables : Tables) (rests : IsAtRest keys closing s.kept tables) where
    -- what is read is what was listed
    same_list : listed ≡ rests.listed
    same_list = (reads.told (read_true tells nolie) (catalogue_rows closing.region rests.listed) (rows_kept _ rests.closing_is.rows)).read rests.listed rests.closing_is.catalogue refl

    are_kept : AreKept keys closing.pack listed tables s.kept
    are_kept = subst (λ (l : List Listed). AreKept keys closing.pack l tables s.kept) (sym same_list) rests.held

    tells_amid : IsTrue s2.tells
    tells_amid = subst IsTrue (sym (reads.opens.ok.stays.tells ∙ room.tells)) tells

    keys_amid : v1.keys ≡ keys
    keys_amid = reads.opens.ok.stays.keys ∙ keyed

    kept_amid : (i : ℕ) (t : Listed) → slice_get listed i ≡ Some t → s2.kept t.table.region ≡ s.kept t.table.region
    kept_amid i t is =
        let within = (table_is closing listed reads.catalogue i t is).region_most in
        reads.opens.ok.stays.apart.rests t.table.region (λ same. omega (arith, within, same)) ∙ room.keeps.kept t.table.region

    module _ {T : Type 0} (value : T) (v2 : Vault R) (t : StoreState) (reopens : ReopensTables closing listed (Ok value) amid (at state v2 t)) where
      pub held_last : AreHeld closing.pack [] (map (λ (x : Listed). x.table) listed) tables (at state v2 t)
      held_last = held_open keys closing.pack listed tables s.kept amid (at state v2 t) are_kept reopens.tables tells_amid kept_amid (reopens.opens.ok.stays.keys ∙ keys_amid)

      pub sealed_last : (good : ℕ → List ℕ → Bool) → AcceptsRows good closing.pack → AcceptsClosings good → (scope : Scope) → scope.below ≤ next_fault s → AllSealed good scope (at state v2 t)
      sealed_last good accepts closes scope few =
          let first = reads.seals good (closing_sealed good keys s.kept bounded fore keyed closes closing rests.listed rests.closing_is (room.keeps.kept closing.region)) in
          let second = reopens.seals good (tables_sealed good keys s.kept bounded amid keys_amid closing.pack marked.pack_least accepts listed tables are_kept kept_amid) in
          let few_fore : scope.below ≤ next_fault s1 = omega (arith, few, room.faults) in
          let few_amid : scope.below ≤ next_fault s2 = omega (arith, few_fore, reads.opens.ok.stays.faults) in
          second.seals scope few_amid tells_amid (first.seals scope few_fore (subst IsTrue (sym room.tells) tells)
          (record { all = λ q x block from live last. absurd (live (room.keeps.live q ∙ empty q)) }))

-- ---- the engine
module _ {R : Type 0} (state : R → RevState) (config : Config) (keys : KeySet) (closing : Closing) (marked : IsMarked closing) (pack_is : closing.pack ≡ config.pack) (is_config : IsConfig config)
    (s s1 : StoreState) (fresh : s.asked ≡ []) (honest : s.lie ≡ None) (empty : (q : ℕ) → s.live q ≡ None)
    (bounded : (q : ℕ) (region : KeptRegion) → s.kept q ≡ Some region → IsBounded region) (room : OnlyRoom s s1)
    (v0 : Vault R) (ready : (x : StoreState) → x.asked ≡ [] → Ready (at state v0 x))
    (started : start_of v0 ≡ from_earlier (closing.number + closing.blocks - 1) closing.region) (keyed : v0.keys ≡ keys)
    (none : (q : ℕ) → (state v0.revs).live q ≡ None) (v1 : Vault R) (s2 : StoreState) where
  -- its closing was not read
  pub opens_unread : (e : OpenErr) → ReadsClosing closing (Err e) (at state v0 s1) (at state v1 s2) → OpensEngine {R = R} state config keys closing (Err e) s s2
  opens_unread e reads = record {
    ok = tt;
    err = not_read state config keys closing marked s s1 fresh honest room v0 ready started keyed none v1 s2 e reads;
    faults = let more = reads.opens.err.stays.faults in let same = room.faults in omega (arith, more, same);
    log = reads.opens.err.stays.log ∙ room.log;
    tells = reads.opens.err.stays.tells ∙ room.tells;
    told = λ tells nolie tables rests. refused_never state config keys closing marked s s1 fresh honest empty bounded room v0 keyed v1 s2 e reads tells nolie tables rests;
    sealed = λ tells nolie tables rests. tt;
  }

  module _ (listed : List Listed) (reads : ReadsClosing closing (Ok listed) (at state v0 s1) (at state v1 s2)) where
    -- a table stayed shut
    pub opens_shut : {T : Type 0} (e : OpenErr) (v2 : Vault R) (t : StoreState) → ReopensTables {T = T} closing listed (Err e) (at state v1 s2) (at state v2 t)
        → OpensEngine {R = R} state config keys closing (Err e) s t
    opens_shut {T} e v2 t reopens = record {
      ok = tt;
      err = not_reopened state config keys closing marked s s1 fresh honest room v0 ready started keyed none v1 s2 listed reads v2 t {T = T} e reopens;
      faults =
          let more = reopens.opens.err.stays.faults in
          let first = reads.opens.ok.stays.faults in
          let same = room.faults in
          omega (arith, more, first, same);
      log = reopens.opens.err.stays.log ∙ reads.opens.ok.stays.log ∙ room.log;
      tells = reopens.opens.err.stays.tells ∙ reads.opens.ok.stays.tells ∙ room.tells;
      told = λ tells nolie tables rests. reopens.never;
      sealed = λ tells nolie tables rests. tt;
    }

    module _ {T : Type 0} (value : T) (t : StoreState) where
      -- no memory for the list of tables
      pub opens_unlisted : (v2 : Vault R) → ReopensTables closing listed (Ok value) (at state v1 s2) (at state v2 t) → OpensEngine {R = R} state config keys closing (Err NoMemory) s t
      opens_unlisted v2 reopens =
          let did = did_open state config keys closing marked s s1 fresh honest room v0 ready started keyed none v1 s2 listed reads v2 t value reopens in
          record {
            ok = tt;
            err = not_listed state config keys closing marked s s1 fresh honest room v0 ready started keyed none v1 s2 listed reads v2 t value reopens;
            faults = let same = did.faults in omega (arith, same);
            log = reopens.opens.ok.stays.log ∙ reads.opens.ok.stays.log ∙ room.log;
            tells = reopens.opens.ok.stays.tells ∙ reads.opens.ok.stays.tells ∙ room.tells;
            told = λ tells nolie tables rests. inr refl;
            sealed = λ tells nolie tables rests. tt;
          }

      -- all is open
      module _ (e : Engine R) (reopens : ReopensTables closing listed (Ok value) (at state v1 s2) (at state e.vault t))
          (public_is : e.public ≡ opened_public config closing listed) (from_is : e.closing ≡ Some closing.region) (unindexed : e.indexes.items ≡ []) (draws_are : e.draws ≡ record { key = key_of (draw_seed_of keys); next = 0 }) (alive : e.ended ≡ false)
          (free : IsFree e.public e.room) (high_is : e.room.high ≡ 1) (rows_is : e.room.rows ≡ config.buffer) where
        tables_are : AreTables e.public.tables (others_of e.closing e.indexes.items) e.indexes.items e.public.pack (world_of state e t)
        tables_are =
            subst (λ (xs : List Index). AreTables e.public.tables (others_of e.closing xs) xs e.public.pack (world_of state e t)) (sym unindexed)
            (subst (λ (p : Public). AreTables p.tables (others_of e.closing []) [] p.pack (world_of state e t)) (sym public_is)
            (subst (λ (o : Option ℕ). AreTables (map (λ (x : Listed). x.table) listed) (others_of o []) [] config.pack (world_of state e t)) (sym from_is)
            (subst (λ (n : ℕ). AreTables (map (λ (x : Listed). x.table) listed) (others_of (Some closing.region) []) [] n (world_of state e t)) pack_is
            (tables_last state config keys closing marked s s1 fresh honest room v0 ready started keyed none v1 s2 listed reads e.vault t value reopens))))

        pub keys_are : e.vault.keys ≡ keys
        keys_are = keys_last state config keys closing marked s s1 fresh honest room v0 ready started keyed none v1 s2 listed reads e.vault t value reopens

        pub drawn : AreDraws e (first_draws keys)
        drawn = record {
          draw = λ n. ap (λ (k : KeySet). draw_of k n) (sym keys_are);
          next = let first = ap (λ (p : DrawPlace). p.next) draws_are in omega (arith, first);
        }

        pub agrees : Agrees state e t
        agrees = record {
          ready = reopens.opens.ok.stays.ready;
          next = ap (λ (p : Public). p.next_region) public_is
              ∙ next_last state config keys closing marked s s1 fresh honest room v0 ready started keyed none v1 s2 listed reads e.vault t value reopens;
          settings = subst (λ (p : Public). AreSettings p) (sym public_is) is_config.0;
          stash = subst (λ (p : Public). IsStash p.stash) (sym public_is) is_config.1;
          room = free;
          tables = tables_are;
          fit = λ k x is. absurd (no_entry e.indexes.items k x unindexed is);
          aside = λ q closed of. no_stash e.indexes.items q unindexed of;
          seeded = ap (λ (p : DrawPlace). p.key) draws_are ∙ ap (λ (k : KeySet). key_of (draw_seed_of k)) (sym keys_are);
          kept = λ keep. unindexed;
          saved = subst (λ (p : Public). p.save ≡ true → p.keep ≡ true) (sym public_is) is_config.2;
        }

        nolie_before : t.lie ≡ None → s2.lie ≡ None
        nolie_before nolie = sym reopens.lie ∙ nolie

        represents : IsTrue s.tells → t.lie ≡ None → (tables : Tables) → IsAtRest keys closing s.kept tables → Represents state e t tables
        represents tells nolie tables rests = record {
          held =
              subst (λ (xs : List Index). AreHeld e.public.pack xs e.public.tables tables (world_of state e t)) (sym unindexed)
              (subst (λ (p : Public). AreHeld p.pack [] p.tables tables (world_of state e t)) (sym public_is)
              (subst (λ (n : ℕ). AreHeld n [] (map (λ (x : Listed). x.table) listed) tables (world_of state e t)) pack_is
              (held_last state config keys closing marked s s1 fresh honest empty bounded room v0 keyed v1 s2 listed reads tells (nolie_before nolie) tables rests value e.vault t reopens)));
          in_place = rests.in_place e.public.stash;
        }

        -- and no region above the closing's has come
        pub none_above : (q : ℕ) → closing.region < q → t.live q ≡ None
        none_above q above =
            let early : (i : ℕ) (x : Listed) → slice_get listed i ≡ Some x → x.table.region < closing.region = λ i x is. omega (arith, (table_is closing listed reads.catalogue i x is).region_most) in
            let off : IsOf listed q → ⊥ = λ of. omega (arith, early of.place of.table of.is, of.region, above) in
            reopens.opens.ok.stays.apart.kept q off ∙ reads.opens.ok.stays.apart.kept q (λ same. omega (arith, same, above)) ∙ room.keeps.live q ∙ empty q

        pub did : Did (opening_script closing listed) s t
        did = did_open state config keys closing marked s s1 fresh honest room v0 ready started keyed none v1 s2 listed reads e.vault t value reopens

        abbrev pub opened_as : e.replaced ≡ None → IsOpened state config keys closing e s t
        opened_as settled = record {
          listed = listed;
          catalogue = reads.catalogue;
          agrees = agrees;
          public = public_is;
          keyed = keys_are;
          drawn = drawn;
          unindexed = unindexed;
          start = start_last state config keys closing marked s s1 fresh honest room v0 ready started keyed none v1 s2 listed reads e.vault t value reopens;
          from_closing = from_is;
          settled = settled;
          alive = alive;
          high = high_is;
          rows = rows_is;
          did = did;
          calm = calm_last state config keys closing marked s s1 fresh honest room v0 ready started keyed none v1 s2 listed reads e.vault t value reopens;
          earlier = none_above;
        }

        pub opens_all : e.replaced ≡ None → OpensEngine state config keys closing (Ok e) s t
        opens_all settled =
            record {
              ok = opened_as settled;
              err = tt;
              faults = let same = did.faults in omega (arith, same);
              log = reopens.opens.ok.stays.log ∙ reads.opens.ok.stays.log ∙ room.log;
              tells = reopens.opens.ok.stays.tells ∙ reads.opens.ok.stays.tells ∙ room.tells;
              told = represents;
              sealed = λ tells nolie tables rests good accepts closes scope few.
                  sealed_last state config keys closing marked s s1 fresh honest empty bounded room v0 keyed v1 s2 listed reads tells (nolie_before nolie) tables rests value e.vault t reopens
                  good (subst (λ (n : ℕ). AcceptsRows good n) (sym pack_is) accepts) closes scope few;
            }

-- the room of an engine, once a closing was read into it
pub room_read : (config : Config) (public : Public) (r0 r1 : RoomState) → IsConfig config
    → r0 ≡ record { rows = config.buffer; width = 1024; pack = config.pack; free = replicate config.buffer (clear 1024); shelf = []; high = 0 }
    → r1 ≡ record r0 { high = max r0.high 1 } → public.buffer ≡ config.buffer → public.pack ≡ config.pack → IsFree public r1
room_read config public r0 r1 is new read buffer pack =
    let blocks = is.0.blocks in
    let after : r1 ≡ record { rows = config.buffer; width = 1024; pack = config.pack; free = replicate config.buffer (clear 1024); shelf = []; high = 1 } =
    read ∙ ap (λ (r : RoomState). record r { high = max r.high 1 }) new in
    subst (λ (r : RoomState). IsFree public r) (sym after) (record {
      idle = record {
        free = length-replicate config.buffer (clear 1024);
        shelf = refl;
        enough = omega (arith, blocks);
        wide = omega (arith);
      };
      rows = sym buffer;
      pack = sym pack;
    })

pub high_read : (config : Config) (r0 r1 : RoomState) → r0 ≡ record { rows = config.buffer; width = 1024; pack = config.pack; free = replicate config.buffer (clear 1024); shelf = []; high = 0 }
    → r1 ≡ record r0 { high = max r0.high 1 } → r1.high ≡ 1
high_read config r0 r1 new read = ap (λ (r : RoomState). r.high) read ∙ ap (λ (r : RoomState). max r.high 1) new

pub rows_read : (config : Config) (r0 r1 : RoomState) → r0 ≡ record { rows = config.buffer; width = 1024; pack = config.pack; free = replicate config.buffer (clear 1024); shelf = []; high = 0 }
    → r1 ≡ record r0 { high = max r0.high 1 } → r1.rows ≡ config.buffer
rows_read config r0 r1 new read = ap (λ (r : RoomState). r.rows) read ∙ ap (λ (r : RoomState). r.rows) new

-- the closing that a mark names
pub closed_marked : (mark : Mark) (pack : ℕ) (closing : Closing) → IsClosed mark pack closing → IsMarked closing
closed_marked (Closed region blocks number of) pack closing is = is.2
closed_marked other pack closing is = absurd is

pub closed_pack : (mark : Mark) (pack : ℕ) (closing : Closing) → IsClosed mark pack closing → closing.pack ≡ pack
closed_pack (Closed region blocks number of) pack closing is = ap (λ (c : Closing). c.pack) is.1 ∙ is.0
closed_pack other pack closing is = absurd is

-- what a vault goes on from that starts there
pub started_as : (closing : Closing) (start : Start) (writes region n : ℕ) → start ≡ from_earlier writes region → writes ≡ closing.number + n - 1 → n ≡ closing.blocks → region ≡ closing.region
    → start ≡ from_earlier (closing.number + closing.blocks - 1) closing.region
started_as closing start writes region n is count same last =
    let all : writes ≡ closing.number + closing.blocks - 1 = count ∙ ap (λ (k : ℕ). closing.number + k - 1) same in
    is ∙ (λ i. from_earlier (all i) (last i))
