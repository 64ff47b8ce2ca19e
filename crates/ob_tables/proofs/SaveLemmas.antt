-- The tables of an engine are listed in a closing, and it goes on.
use Rattle.ob_tables.proofs.Words.{AcceptsClosings, Access, Agrees, ap, append-nil, AreFlat, AreSalted, AreTables, arith, Began, Bool, Untampered, cases_eq, catalogue_of, Closing, count_of, draw_seed_of, Engine, Err, false, flat_of, free_after, get_or, Heading, headings_of, Index, inl, inr, IsBeside, IsCatalogue, IsClosing, IsFree, IsStashOf, IsTableRegion, IsTrue, KeepsLive, KeptRegion, key_of, KeySet, later_rests, length, List, Listed, make_at, makes, Mark, max, MayAsk, neither, None, Ok, one, Option, others_of, refl, Region, represents_lasts, IsAtRest, Result, RevState, RoomState, Seals, seals_join, seals_rests, slice_get, Some, start_of, StoreState, subst, suc, sym, Tables, true, Vault, Went, went_join, went_rests, World, world_of, WritesClosing, zero, ℕ, [], ◌++◌, ◌+◌, ◌<◌, ◌^◌, ◌∙◌, ◌∷◌, ◌≡◌, ◌≢◌, ◌≤◌, ◌⊎◌}
use Rattle.std.specs.Prelude.{nat_le}
use Rattle.std.specs.List.{All}
use Rattle.std.proofs.lemmas.Bool.{leb-false}
use Rattle.ob_base.specs.declared.schema.Table.{Table}
use Rattle.ob_base.specs.Accesses.{writes}
use Rattle.ob_script.proofs.Makes.{makes-create_part}
use Rattle.ob_script.proofs.Numbers.{length-create_part}
use Rattle.ob_seal.specs.KeySet.{pair_of}
use Rattle.ob_store.specs.State.{Shape}
use Rattle.ob_store.specs.Calls.{ChangesNothing as OnlyRoom}
use Rattle.ob_store.proofs.Steps.{later_refl}
use Rattle.ob_vault.specs.Places.{at}
use Rattle.ob_vault.specs.Calls.{Cause, CutShort}
use Rattle.ob_vault.specs.VaultCalls.{Forgets}
use Rattle.ob_vault.proofs.Runs.{cut_after, seals_none, went_none, went_spent, went_wider}
use Rattle.ob_reopen.specs.declared.fault.CloseErr.{CloseErr}
use Rattle.ob_reopen.specs.declared.fault.CloseErr.TheVariants.{Failed, NoMemory}
use Rattle.ob_reopen.specs.Closed.{ClosingCause, is_used_up}
use Rattle.ob_reopen.specs.Closings.{saved_mark, write_script}
use Rattle.ob_reopen.specs.Keepers.{AreSaltBytes, IsMark}
use Rattle.ob_reopen.specs.Resting.{IsNeeded, by_name}
use Rattle.ob_reopen.specs.Writings.{next_closing as written_closing, vault_error}
use Rattle.ob_reopen.proofs.CatalogueLaws.{catalogue_has, catalogue_is}
use Rattle.ob_reopen.proofs.OutlastLemmas.{rests_last}
use Rattle.ob_tables.specs.Closing.{next_closing}
use Rattle.ob_tables.specs.Saving.{SavesEngine, Waits, WaitsAt}
use Rattle.ob_tables.specs.Telling.{Represents}
use Rattle.ob_tables.proofs.ByNameLemmas.{named_in, named_kept, table_kept_as}
use Rattle.ob_tables.proofs.HeldLemmas.{held_headings, held_kept}
use Rattle.ob_tables.proofs.ListedLemmas.{may_list}
use Rattle.ob_tables.proofs.RunLemmas.{next_after}
use Rattle.ob_tables.proofs.TableLemmas.{flat_each, region_below, table_kept}

none_made : makes [] ≡ 0
unfolding makes
none_made = refl

-- its numbers are used up
pub saves_used : {R : Type 0} (state : R → RevState) (e : Engine R) (s : StoreState) → Agrees state e s → is_used_up (next_closing e s) ≡ true → SavesEngine state (Err Failed) e s (record e { ended = true }) s
saves_used state e s agrees used = record {
  ok = tt;
  used_up = λ full. (refl, refl);
  err = λ free. absurd (cc (used, free));
  memory = λ wants. absurd (cc wants);
  ended = refl;
  keys = refl;
  start = refl;
  draws = refl;
  seen = refl;
  indexes = refl;
  room = agrees.room;
  high = omega (arith);
  some = λ more. absurd (more refl);
  opened = tt;
  later = later_refl s;
  calm = λ calm. calm;
  kept = λ q other. refl;
  told = λ tells tables held. tt;
  sealed = λ good rows closings. seals_none good (world_of state e s);
}

module _ {R : Type 0} (state : R → RevState) (e : Engine R) (s s1 : StoreState) (agrees : Agrees state e s) (flat : AreFlat (headings_of e.public.tables)) (free : is_used_up (next_closing e s) ≡ false) (room : OnlyRoom s s1) where
  abbrev before : World
  before = world_of state e s

  abbrev fore : World
  fore = at state e.vault s1

  abbrev g : ℕ
  g = e.vault.next

  abbrev script : List Access
  script = write_script (next_closing e s)

  -- that of its region
  abbrev making : List Access
  making = make_at (next_closing e s).region (next_closing e s).blocks 1024

  abbrev listed : List Listed
  listed = catalogue_of e.vault.keys (state e.vault.revs) e.public.tables

  first : Went [] (one g) before fore
  first = went_rests _ s s1 room (one g) agrees.ready

  -- ---- before the first access
  pub saves_none : SavesEngine state (Err NoMemory) e s (record e { ended = true }) s1
  saves_none = record {
    ok = tt;
    used_up = λ full. absurd (cc (full, free));
    err = λ _. record {
      began = record { done = []; rest = script; split = refl; asked = room.asked ∙ sym (append-nil s.asked) };
      cause = room.faults;
    };
    memory = λ wants. record { done = []; rest = making; split = refl; asked = room.asked ∙ sym (append-nil s.asked) };
    ended = refl;
    keys = refl;
    start = refl;
    draws = refl;
    seen = refl;
    indexes = refl;
    room = agrees.room;
    high = omega (arith);
    some = λ more. absurd (more room.asked);
    opened = tt;
    later = later_rests s s1 room;
    calm = first.calm;
    kept = λ q other. room.keeps.kept q;
    told = λ tells tables held. tt;
    sealed = λ good rows closings. seals_rests _ s s1 room good;
  }

  -- ---- the list is a catalogue of the closing that is made
  length-listed : length listed ≡ length e.public.tables
  length-listed = (catalogue_has e.vault.keys (state e.vault.revs) e.public.tables).count

  written_is : written_closing e.room.pack listed fore ≡ next_closing e s
  written_is =
      let blocks : length listed + 1 ≡ length e.public.tables + 1 = ap (λ (n : ℕ). n + 1) length-listed in
      let number : e.vault.count + 1 ≡ (start_of e.vault).writes + writes s.asked + 1 = ap (λ (n : ℕ). n + 1) agrees.ready.tied.count in
      λ i. record { region = sym agrees.next i; blocks = blocks i; number = number i; pack = agrees.room.pack i }

  script_is : write_script (written_closing e.room.pack listed fore) ≡ script
  script_is = ap write_script written_is

  making_is : make_at e.vault.next (length listed + 1) 1024 ≡ making
  making_is = ap (λ (c : Closing). make_at c.region c.blocks 1024) written_is

  module _ (salts : AreSalted e.vault.keys e.public.tables) where
    is_catalogue : IsCatalogue (next_closing e s) listed
    is_catalogue =
        catalogue_is (next_closing e s) e.vault.keys (state e.vault.revs) e.public.tables
        (may_list (next_closing e s) e.public.tables (others_of e.closing e.indexes.items) e.indexes.items before agrees.settings.pack_least agrees.ready agrees.tables flat agrees.next
        (ap (λ (n : ℕ). n + 1) (sym agrees.ready.tied.count)) refl salts)

    -- what is asked of writing it
    pub few_rows : length listed ≤ 64
    few_rows = let same = length-listed in let few = agrees.tables.few in omega (arith, same, few)

    pub few_cells : All (λ (t : Listed). length t.table.heading.schema ≤ 16) listed
    few_cells = λ k d below.
        let is = got_or listed k d below in
        (is_catalogue.are.each k _ is).listed.heading.stored.few
      where
        got_or : (ts : List Listed) (i : ℕ) (d : Listed) → i < length ts → slice_get ts i ≡ Some (get_or ts i d)
        got_or [] i d below = absurd (omega (arith, below))
        got_or (t ∷ ts) zero d below = refl
        got_or (t ∷ ts) (suc i) d below = got_or ts i d (omega (arith, below))

    module _ (few : count_of e s < 2 ^ 63 + 2 ^ 59) (spare : 4 + length e.public.tables ≤ s1.spare) where
      pub may_save : MayAsk (2 + length listed) fore
      may_save =
          let count = went_spent (one g) [] before fore first in
          let same = length-listed in
          let tables = agrees.tables.few in
          record {
            ready = first.lasts.ready;
            spare = omega (arith, spare, same);
            few = omega (arith, count, few, same, tables);
          }

      module _ (v2 : Vault R) (room2 : RoomState) (room_is : room2 ≡ record e.room { high = max e.room.high 1 }) (t : StoreState) where
        abbrev last : World
        last = at state v2 t

        seals_all : {result : Result Closing CloseErr} → WritesClosing e.room.pack listed result fore last → (good : ℕ → List ℕ → Bool) → AcceptsClosings good → Seals good before last
        seals_all is good closings =
            seals_join good before fore last (later_rests s s1 room) (seals_rests _ s s1 room good) (is.seals good (λ p below. closings g listed p below))

        free_rows : IsFree e.public room2
        free_rows = free_after e.public e.room room2 (max e.room.high 1) agrees.room room_is

        high_is : room2.high ≡ max e.room.high 1
        high_is = ap (λ (r : RoomState). r.high) room_is

        -- the salt of the closing's region is the run's
        pub written_salt : (made : Closing) → WritesClosing e.room.pack listed (Ok made) fore last → (pair_of v2.keys made.region).salt ≡ (pair_of e.vault.keys e.public.next_region).salt
        written_salt made is =
            let keys : v2.keys ≡ e.vault.keys = is.ok.lasts.keys in
            let region : made.region ≡ e.public.next_region = ap (λ (c : Closing). c.region) is.value ∙ sym agrees.next in
            λ i. (pair_of (keys i) (region i)).salt

        -- ---- it was not written
        cause_as : (err : CloseErr) → Cause (vault_error err) before last → ClosingCause err s t × (Untampered before → Untampered last)
        cause_as Failed cause = (cause.0, cause.1)
        cause_as NoMemory cause = (cause.0, cause.1)

        off_region : (q : ℕ) → q ≢ (next_closing e s).region → one g q → ⊥
        off_region q other hit = other (hit ∙ sym agrees.next)

        pub saves_cut : (err : CloseErr) → WritesClosing e.room.pack listed (Err err) fore last → SavesEngine state (Err err) e s (record e { vault = v2; room = room2; ended = true }) t
        saves_cut err is =
            let cut : CutShort (vault_error err) (write_script (written_closing e.room.pack listed fore)) (one g) before last =
            cut_after (one g) before fore last (vault_error err) [] (write_script (written_closing e.room.pack listed fore)) first is.err in
            let why = cause_as err cut.cause in
            record {
              ok = tt;
              used_up = λ full. absurd (cc (full, free));
              err = λ _. record { began = subst (λ (x : List Access). Began x s t) script_is cut.began; cause = why.0 };
              memory = λ wants. let lacks : err ≡ NoMemory = cc wants in let first_part = is.memory (ap (λ (x : CloseErr). Err x) lacks) in record {
                done = first_part.done;
                rest = first_part.rest;
                split = first_part.split ∙ making_is;
                asked = first_part.asked ∙ ap (λ (l : List Access). l ++ first_part.done) room.asked;
              };
              ended = refl;
              keys = cut.lasts.keys;
              start = cut.lasts.start;
              draws = refl;
              seen = refl;
              indexes = refl;
              room = free_rows;
              high = let same = high_is in omega (arith, same);
              some = λ more. let same = high_is in omega (arith, same);
              opened = tt;
              later = cut.lasts.later;
              calm = why.1;
              kept = λ q other. cut.lasts.apart.rests q (off_region q other);
              told = λ tells tables held. tt;
              sealed = λ good rows closings. seals_all is good closings;
            }

        -- ---- it was written, and the one before it forgotten
        module _ (made : Closing) (is : WritesClosing e.room.pack listed (Ok made) fore last)
            (keeps : (q : ℕ) (shape : Shape) → IsTrue t.tells → t.live q ≡ Some shape → KeepsLive q shape t)
            (v3 : Vault R) (forgets : (q : ℕ) → e.closing ≡ Some q → (u : StoreState) → Forgets q (at state v2 u) (at state v3 u)) (stays : e.closing ≡ None → v3 ≡ v2) where
          abbrev after : World
          after = at state v3 t

          abbrev was : ℕ → Type 0
          was q = e.closing ≡ Some q

          abbrev both : ℕ → Type 0
          both q = (q ≡ g) ⊎ was q

          made_is : made ≡ next_closing e s
          made_is = is.value ∙ written_is

          went : Went script (one g) before last
          went = subst (λ (x : List Access). Went x (one g) before last) script_is (went_join (one g) before fore last [] (write_script (written_closing e.room.pack listed fore)) first is.ok)

          -- what becomes of the vault then
          data Left : Type 0 where
            none : (none_is : e.closing ≡ None) → Left
            some : (q : ℕ) → (some_is : e.closing ≡ Some q) → Left

          left_by : (o : Option ℕ) → e.closing ≡ o → Left
          left_by None is = none is
          left_by (Some q) is = some q is

          left : Left
          left = left_by e.closing refl

          leaves : Went [] was last after
          leaves = elim left [
            | none none_is ↦ subst (λ (v : Vault R). Went [] was last (at state v t)) (sym (stays none_is)) (went_none was last went.lasts.ready)
            | some q some_is ↦ went_wider (one q) last after was (λ r same. some_is ∙ ap (λ (n : ℕ). Some n) (sym same)) [] ((forgets q some_is t).went went.lasts.ready)
          ]

          leaves_sealed : (good : ℕ → List ℕ → Bool) → Seals good last after
          leaves_sealed good = elim left [
            | none none_is ↦ subst (λ (v : Vault R). Seals good last (at state v t)) (sym (stays none_is)) (seals_none good last)
            | some q some_is ↦ (forgets q some_is t).seals good
          ]

          gone : (q : ℕ) → e.closing ≡ Some q → (state v3.revs).live q ≡ None
          gone q is = (forgets q is t).gone

          all : Went script both before after
          all = subst (λ (x : List Access). Went x both before after) (append-nil script)
              (went_join both before last after script [] (went_wider (one g) before last both (λ q hit. inl hit) script went) (went_wider was last after both (λ q hit. inr hit) [] leaves))

          makes_one : makes script ≡ 1
          makes_one = makes-create_part (next_closing e s).region (next_closing e s).blocks 1024

          next_last : v2.next ≡ e.public.next_region + 1
          next_last =
              let next = next_after before last script agrees.ready went.lasts.ready went.lasts.start went.did.asked in
              let same = agrees.next in
              omega (arith, next, makes_one, same)

          next_now : v3.next ≡ v2.next
          next_now =
              let next = next_after last after [] went.lasts.ready leaves.lasts.ready leaves.lasts.start leaves.did.asked in
              omega (arith, next, none_made)

          -- ---- regions
          -- no table is an index
          no_index : (k : ℕ) (x : Index) → slice_get e.indexes.items k ≡ Some x → ⊥
          no_index k x get =
              let in_it = agrees.tables.stand k x get in
              let shape = flat_each e.public.tables flat in_it.place in_it.table in_it.get in
              absurd (cc (shape, in_it.of.indexed))

          no_stash : (q : ℕ) → IsStashOf e.indexes.items q → ⊥
          no_stash q of = no_index of.place of.index of.get

          closing_beside : (q : ℕ) → e.closing ≡ Some q → IsBeside e.public.tables q before
          unfolding others_of
          closing_beside q is = agrees.tables.beside q (inl is)

          closing_below : (q : ℕ) → e.closing ≡ Some q → q < g
          closing_below q is = let beside = closing_beside q is in agrees.ready.below q beside.shape beside.lives.live

          table_below : (i : ℕ) (u : Table) → slice_get e.public.tables i ≡ Some u → u.region < g
          table_below i u is = region_below e.public.pack i e.public.tables u before agrees.ready agrees.tables is

          off : (i : ℕ) (u : Table) → slice_get e.public.tables i ≡ Some u → both u.region → ⊥
          off i u is (inl fresh) = let below = table_below i u is in omega (arith, below, fresh)
          off i u is (inr closed) = (closing_beside u.region closed).off (record { place = i; table = u; get = is; region = refl })

          lives_new : (state v3.revs).live g ≡ (state v2.revs).live g
          lives_new = leaves.lasts.apart.live g (λ closed. let below = closing_below g closed in omega (arith, below))

          abbrev others_now : ℕ → Type 0
          others_now = others_of (Some made.region) e.indexes.items

          region_is : made.region ≡ g
          region_is = ap (λ (c : Closing). c.region) is.value

          only_now : (q : ℕ) (shape : Region) → (state v3.revs).live q ≡ Some shape → IsTableRegion e.public.tables q ⊎ others_now q
          unfolding others_of
          only_now q shape live = elim (cases_eq q g) [
            | inl here ↦ inr (inl (ap (λ (n : ℕ). Some n) (region_is ∙ sym here)))
            | inr away ↦ elim (agrees.tables.only q shape
                (sym (all.lasts.apart.live q (λ hit. elim hit [ inl fresh ↦ away fresh | inr closed ↦ absurd (cc (gone q closed, live)) ])) ∙ live)) [
                  | inl of ↦ inl of
                  | inr (inl closed) ↦ absurd (cc (gone q closed, live))
                  | inr (inr of) ↦ absurd (no_stash q of)
                ]
          ]

          beside_now : (q : ℕ) → others_now q → IsBeside e.public.tables q after
          unfolding others_of
          beside_now q (inl closed) =
              let same : q ≡ g = let at_it : made.region ≡ q = cc closed in sym at_it ∙ region_is in
              record {
                shape = _;
                lives = record { live = ap (state v3.revs).live same ∙ lives_new ∙ is.lives.live };
                off = λ of. let below = table_below of.place of.table of.get in let region = of.region in omega (arith, below, region, same);
              }
          beside_now q (inr of) = absurd (no_stash q of)

          tables_now : AreTables e.public.tables others_now e.indexes.items e.public.pack after
          tables_now = record {
            each = λ i u is. table_kept both e.public.pack u before after all.lasts (off i u is) (agrees.tables.each i u is);
            few = agrees.tables.few;
            apart = agrees.tables.apart;
            names = agrees.tables.names;
            beside = beside_now;
            only = only_now;
            stand = λ k x get. absurd (no_index k x get);
            has = agrees.tables.has;
            one = agrees.tables.one;
          }

          -- ---- the engine
          abbrev saved : Engine R
          saved = record e {
            vault = v3;
            room = room2;
            public = record e.public { next_region = v2.next; closing = Some made.region };
            ended = false;
            closing = Some made.region;
            replaced = e.closing;
          }

          agrees_now : Agrees state saved t
          agrees_now = record {
            ready = all.lasts.ready;
            next = sym next_now;
            settings = agrees.settings;
            stash = agrees.stash;
            room = record { idle = free_rows.idle; rows = free_rows.rows; pack = free_rows.pack };
            tables = tables_now;
            fit = λ k x get. absurd (no_index k x get);
            aside = λ q is of. no_stash q of;
            seeded = agrees.seeded ∙ ap (λ (ks : KeySet). key_of (draw_seed_of ks)) (sym all.lasts.keys);
            kept = agrees.kept;
            saved = agrees.saved;
          }

          -- ---- what waits
          waits_on : (q : ℕ) → WaitsAt state q e s → WaitsAt state q saved t
          waits_on q waits =
              let away : both q → ⊥ = λ hit. elim hit [
                | inl fresh ↦ let below = waits.below in omega (arith, below, fresh)
                | inr closed ↦ let beside = closing_beside q closed in let none = waits.forgotten in absurd (cc (none, beside.lives.live))
              ] in
              let next = all.lasts.shapes.next in
              let below = waits.below in
              record {
                live = record { shape = waits.live.shape; live = all.lasts.apart.kept q away ∙ waits.live.live };
                below = omega (arith, next, below);
                forgotten = all.lasts.apart.live q away ∙ waits.forgotten;
              }

          waits_closing : (q : ℕ) → e.closing ≡ Some q → WaitsAt state q saved t
          waits_closing q closed =
              let beside = closing_beside q closed in
              let below = closing_below q closed in
              let next = all.lasts.shapes.next in
              let lives_last : (state v2.revs).live q ≡ Some beside.shape = went.lasts.apart.live q (λ fresh. omega (arith, below, fresh)) ∙ beside.lives.live in
              record {
                live = record { shape = _; live = (went.lasts.ready.tied.live q beside.shape lives_last).live };
                below = omega (arith, next, below);
                forgotten = gone q closed;
              }

          waits_now : (left : Option ℕ) → Waits state left e s → Waits state left saved t
          waits_now left waits = record {
            former = λ q is. waits_on q (waits.former q is);
            replaced = λ q is. waits_closing q is;
            apart = λ q is closed. let beside = closing_beside q closed in let none = (waits.former q is).forgotten in absurd (cc (none, beside.lives.live));
          }

          -- ---- what rests
          abbrev rests : IsTrue s.tells → (tables : Tables) → Represents state e s tables → IsAtRest e.vault.keys (next_closing e s) t.kept (by_name tables)
          rests tells tables held =
              let tells_fore : IsTrue s1.tells = subst IsTrue (sym first.lasts.later.tells) tells in
              let tells_last : IsTrue t.tells = subst IsTrue (sym went.lasts.later.tells) tells in
              let written : IsClosing v2.keys made listed t.kept = is.told tells_fore (subst (λ (x : Closing). IsCatalogue x listed) (sym made_is) is_catalogue) in
              let away : (i : ℕ) (u : Table) → slice_get e.public.tables i ≡ Some u → one g u.region → ⊥ = λ i u at_i fresh. off i u at_i (inl fresh) in
              record {
                listed = listed;
                closing_is =
                    subst (λ (x : Closing). IsClosing e.vault.keys x listed t.kept) made_is
                    (subst (λ (k : KeySet). IsClosing k made listed t.kept) went.lasts.keys written);
                held = named_kept e.vault.keys e.public.pack t.kept (state e.vault.revs) before e.indexes.items e.public.tables tables flat held.held
                    (λ i u x at_i heading represents. record {
                      heading = heading;
                      keeps =
                          table_kept_as e.vault.keys e.public.pack (state e.vault.revs) u x.held.slots last t refl agrees.settings.pack_least went.lasts.ready
                          (table_kept (one g) e.public.pack u before last went.lasts (away i u at_i) (agrees.tables.each i u at_i)) (flat_each e.public.tables flat i u at_i)
                          (represents_lasts e.public.pack (flat_of u) (one g) before last went.lasts (away i u at_i) x.held.slots represents)
                          went.lasts.keys (went.lasts.apart.number u.region 0 (away i u at_i))
                          (λ shape live. keeps u.region shape tells_last live);
                    });
                in_place = λ stash. named_in e.public.stash stash tables
                    (subst (λ (hs : List Heading). AreFlat hs) (sym (held_headings e.public.pack e.indexes.items e.public.tables tables before held.held)) flat) held.in_place;
              }

          -- of what is listed nothing is needed but the regions of the tables
          needed : (q : ℕ) → IsNeeded (next_closing e s) listed q → (q ≡ (next_closing e s).region) ⊎ IsTableRegion e.public.tables q
          needed q (inl own) = inl own
          needed q (inr of) =
              let from = (catalogue_has e.vault.keys (state e.vault.revs) e.public.tables).only of.0 of.1 of.2 in
              inr (record { place = from.0; table = from.1; get = from.2; region = ap (λ (x : Listed). x.table.region) (sym from.3) ∙ sym of.3 })

          outlasts : (tells : IsTrue s.tells) (tables : Tables) → Represents state e s tables → (now : ℕ → Option KeptRegion)
              → ((q : ℕ) → (q ≡ (next_closing e s).region) ⊎ IsTableRegion e.public.tables q → now q ≡ t.kept q) → IsAtRest e.vault.keys (next_closing e s) now (by_name tables)
          outlasts tells tables held now same =
              rests_last e.vault.keys t.kept now (next_closing e s) (by_name tables) (rests tells tables held) (λ q at. same q (needed q at))

          holds : (tables : Tables) → Represents state e s tables → Represents state saved t tables
          holds tables held = record {
            held = held_kept both e.public.pack e.indexes.items e.public.tables tables before after all.lasts off (λ k x get. absurd (no_index k x get)) held.held;
            in_place = held.in_place;
          }

          spare_left : 2 ≤ t.spare
          spare_left =
              let used = is.ok.spare in
              let long : length (write_script (written_closing e.room.pack listed fore)) ≡ 1 + (length listed + 1) = length-create_part e.vault.next (length listed + 1) 1024 in
              let same = length-listed in
              omega (arith, used, long, same, spare)

          marked : (salt check : List ℕ) → AreSaltBytes salt × AreSaltBytes check → IsMark (saved_mark (next_closing e s) salt check)
          marked salt check bytes =
              let parts = neither (nat_le (2 ^ 63) (next_closing e s).region) (nat_le (2 ^ 63) (next_closing e s).number) free in
              let next = agrees.ready.tied.next in
              let same = agrees.next in
              let tables = agrees.tables.few in (
                record {
                  region_least = omega (arith, next, same);
                  region_most = leb-false (2 ^ 63) (next_closing e s).region parts.0;
                  blocks_least = omega (arith);
                  blocks_most = omega (arith, tables);
                  number_least = omega (arith);
                  number_most = leb-false (2 ^ 63) (next_closing e s).number parts.1;
                  pack_least = agrees.settings.pack_least;
                  pack_most = agrees.settings.pack_most;
                },
                bytes.0,
                bytes.1,
              )

          pub saves_all : (mark : Mark) (salt check : List ℕ) → AreSaltBytes salt × AreSaltBytes check → (pair_of v2.keys made.region).salt ≡ Some salt → check ≡ (pair_of v2.keys made.region).check
              → mark ≡ saved_mark made salt check → SavesEngine state (Ok mark) e s saved t
          saves_all mark salt check bytes of checks mark_is =
              let its : check ≡ (pair_of e.vault.keys (next_closing e s).region).check = checks ∙ (λ i. (pair_of (went.lasts.keys i) (made_is i).region).check) in
              let named : mark ≡ saved_mark (next_closing e s) salt (pair_of e.vault.keys (next_closing e s).region).check = mark_is ∙ (λ i. saved_mark (made_is i) salt (its i)) in
              record {
                ok = record {
                  salt = salt;
                  of = (λ i. (pair_of (sym went.lasts.keys i) (ap (λ (c : Closing). c.region) (sym made_is) i)).salt) ∙ of;
                  is = named;
                  within = subst IsMark (sym mark_is) (subst (λ (c : Closing). IsMark (saved_mark c salt check)) (sym made_is) (marked salt check bytes));
                  did = went.did;
                  agrees = agrees_now;
                  public = λ i. record e.public { next_region = next_last i; closing = Some (made_is i).region };
                  closing = ap (λ (c : Closing). Some c.region) made_is;
                  replaced = refl;
                  waits = waits_now;
                  spare = spare_left;
                };
                used_up = λ full. absurd (cc (full, free));
                err = λ _. tt;
                memory = λ wants. absurd (cc wants);
                ended = refl;
                keys = all.lasts.keys;
                start = all.lasts.start;
                draws = refl;
                seen = refl;
                indexes = refl;
                room = free_rows;
                high = let same = high_is in omega (arith, same);
                some = λ more. let same = high_is in omega (arith, same);
                opened = record { kept = let same = high_is in omega (arith, same); some = λ any. let same = high_is in omega (arith, same) };
                later = all.lasts.later;
                calm = all.calm;
                kept = λ q other. went.lasts.apart.rests q (off_region q other);
                told = λ tells tables held. (record { rests = outlasts tells tables held }, holds tables held);
                sealed = λ good rows closings. seals_join good before last after went.lasts.later (seals_all is good closings) (leaves_sealed good);
              }
