-- An engine is closed: its tables are listed, and rest in the store.
use Rattle.ob_tables.proofs.Words.{AcceptsClosings, Access, Agrees, ap, append-nil, AreFlat, AreSalted, arith, Began, Bool, Untampered, catalogue_of, Closing, count_of, Did, drop_script, Engine, Err, false, flat_of, get_or, HasBlock, Heading, headings_of, inl, inr, InUse, IsCatalogue, IsClosing, IsTrue, KeepsLive, KeySet, later_rests, length, List, Listed, Lives, makes, Mark, MayAsk, neither, None, Ok, one, Option, others_of, Ready, refl, Region, represents_lasts, IsAtRest, Result, RevState, Seals, seals_join, seals_rests, slice_get, Some, Start, start_of, StoreState, subst, suc, sym, Tables, TagFits, true, Vault, Went, went_join, went_rests, World, world_of, WritesClosing, zero, ℕ, [], ◌++◌, ◌+◌, ◌<◌, ◌^◌, ◌||◌, ◌∙◌, ◌∷◌, ◌≡◌, ◌≤◌, ◌⊎◌}
use Rattle.std.specs.Prelude.{nat_le}
use Rattle.std.specs.List.{All}
use Rattle.std.proofs.lemmas.Bool.{leb-false}
use Rattle.ob_base.specs.declared.schema.Table.{Table}
use Rattle.ob_base.specs.Accesses.{discard_at, writes}
use Rattle.ob_base.proofs.AccessLemmas.{writes_discard}
use Rattle.ob_store.specs.State.{Shape}
use Rattle.ob_store.specs.Calls.{ChangesNothing as OnlyRoom}
use Rattle.ob_store.specs.Runs.{Later}
use Rattle.ob_store.proofs.Steps.{later_refl}
use Rattle.ob_vault.specs.declared.fault.VaultErr.{VaultErr}
use Rattle.ob_vault.specs.Places.{at}
use Rattle.ob_vault.specs.Calls.{Cause, CutShort}
use Rattle.ob_vault.specs.VaultCalls.{DropsRegion}
use Rattle.ob_vault.proofs.Runs.{cut_after, lasts_wider, seals_none, went_none, went_spent, went_wider}
use Rattle.ob_vault.proofs.WorldSteps.{seals_unasked}
use Rattle.ob_reopen.specs.declared.fault.CloseErr.{CloseErr}
use Rattle.ob_reopen.specs.declared.fault.CloseErr.TheVariants.{Failed, NoMemory}
use Rattle.ob_reopen.specs.Keepers.{IsMark}
use Rattle.ob_reopen.specs.Closings.{mark_of, write_script}
use Rattle.ob_reopen.specs.Writings.{next_closing as written_closing, vault_error}
use Rattle.ob_reopen.proofs.CatalogueLaws.{catalogue_has, catalogue_is}
use Rattle.ob_tables.specs.Closing.{ClosesEngine, DropsClosing, closing_script, next_closing}
use Rattle.ob_reopen.specs.Closed.{ClosingCause, is_used_up}
use Rattle.ob_reopen.specs.Resting.{by_name}
use Rattle.ob_tables.specs.Telling.{Represents}
use Rattle.ob_tables.proofs.ByNameLemmas.{named_in, named_kept, table_kept_as}
use Rattle.ob_tables.proofs.ListedLemmas.{may_list, table_block}
use Rattle.ob_tables.proofs.RunLemmas.{next_after}
use Rattle.ob_tables.proofs.HeldLemmas.{held_headings}
use Rattle.ob_tables.proofs.TableLemmas.{flat_each, region_below, table_kept}

-- ---- the old closing
makes_drop : (o : Option ℕ) → makes (drop_script o) ≡ 0
unfolding makes
makes_drop None = refl
makes_drop (Some q) = refl

writes_drop : (o : Option ℕ) (asked : List Access) → writes (asked ++ drop_script o) ≡ writes asked
writes_drop None asked = ap writes (append-nil asked)
writes_drop (Some q) asked = writes_discard q asked

pub length-drop_script : (o : Option ℕ) → length (drop_script o) ≤ 1
length-drop_script None = omega (arith)
length-drop_script (Some q) = omega (arith)

-- there was none
pub drops_none : (closing : Option ℕ) (w : World) → closing ≡ None → Ready w → DropsClosing closing w w
drops_none closing w none ready =
    subst (λ (o : Option ℕ). DropsClosing o w w) (sym none) (record {
      went = went_none (λ q. None ≡ Some q) w ready;
      seals = record { seals = λ good. seals_none good w };
    })

-- it was there
pub drops_some : {T : Type 0} (closing : Option ℕ) (q : ℕ) (result : Result T VaultErr) (a b : World) → closing ≡ Some q → DropsRegion q result a b → DropsClosing closing a b
drops_some closing q result a b is drops =
    subst (λ (o : Option ℕ). DropsClosing o a b) (sym is) (record {
      went = went_wider (one q) a b (λ r. Some q ≡ Some r) (λ r same. ap (λ (n : ℕ). Some n) (sym same)) (discard_at q) drops.went;
      seals = record { seals = drops.seals };
    })

-- ---- before the first access
module _ {R : Type 0} (state : R → RevState) (e : Engine R) (s : StoreState) (agrees : Agrees state e s) (flat : AreFlat (headings_of e.public.tables)) where
  -- whether its numbers are used up
  pub used_is : (nat_le (2 ^ 63) e.vault.next || nat_le (2 ^ 63) (e.vault.count + 1)) ≡ is_used_up (next_closing e s)
  used_is =
      let count : e.vault.count + 1 ≡ (start_of e.vault).writes + writes s.asked + 1 = ap (λ (n : ℕ). n + 1) agrees.ready.tied.count in
      λ i. nat_le (2 ^ 63) (sym agrees.next i) || nat_le (2 ^ 63) (count i)

  pub stays_in_use : (mark : Mark) → mark ≡ InUse → is_used_up (next_closing e s) ≡ true → ClosesEngine state (Ok mark) e s s
  stays_in_use mark is used = record {
    full = λ full. record { is = is; same = refl };
    gives_up = λ full. tt;
    ok = λ free. absurd (cc (used, free));
    err = tt;
    later = later_refl s;
    calm = λ calm. calm;
    told = λ tells free. absurd (cc (used, free));
    sealed = λ good rows closings. seals_none good (world_of state e s);
  }

  -- each table has a block
  pub have_blocks : All (λ (t : Table). HasBlock t.region (state e.vault.revs)) e.public.tables
  have_blocks = λ k d below.
      let is = got_or e.public.tables k d below in
      table_block e.public.pack agrees.settings.pack_least (world_of state e s) agrees.ready _ (agrees.tables.each k _ is) (flat_each e.public.tables flat k _ is)
    where
      got_or : (ts : List Table) (i : ℕ) (d : Table) → i < length ts → slice_get ts i ≡ Some (get_or ts i d)
      got_or [] i d below = absurd (omega (arith, below))
      got_or (t ∷ ts) zero d below = refl
      got_or (t ∷ ts) (suc i) d below = got_or ts i d (omega (arith, below))

  module _ (free : is_used_up (next_closing e s) ≡ false) (s1 : StoreState) (room : OnlyRoom s s1) where
    abbrev fore : World
    fore = at state e.vault s1

    abbrev listed : List Listed
    listed = catalogue_of e.vault.keys (state e.vault.revs) e.public.tables

    wents : Went [] (λ q. e.closing ≡ Some q) (world_of state e s) fore
    wents = went_rests _ s s1 room (λ q. e.closing ≡ Some q) agrees.ready

    -- no memory before the first access
    pub closes_none : ClosesEngine state (Err NoMemory) e s s1
    closes_none = record {
      full = λ full. tt;
      gives_up = λ full. absurd (cc (full, free));
      ok = λ _. tt;
      err = record {
        began = record { done = []; rest = closing_script e s; split = refl; asked = room.asked ∙ sym (append-nil s.asked) };
        cause = room.faults;
      };
      later = later_rests s s1 room;
      calm = wents.calm;
      told = λ tells _ tables held. tt;
      sealed = λ good rows closings. seals_rests _ s s1 room good;
    }

    pub ready_fore : Ready fore
    ready_fore = wents.lasts.ready

    pub lives_fore : (q : ℕ) → e.closing ≡ Some q → (shape : Region) × Lives q shape fore
    unfolding others_of
    lives_fore q is = let beside = agrees.tables.beside q (inl is) in (beside.shape, record { live = beside.lives.live })

    -- the list is a catalogue of the closing that is made
    module _ (salts : AreSalted e.vault.keys e.public.tables) (v1 : Vault R) (s2 : StoreState) (drops : DropsClosing e.closing fore (at state v1 s2)) where
      abbrev amid : World
      amid = at state v1 s2

      first : Went (drop_script e.closing) (λ q. e.closing ≡ Some q) (world_of state e s) amid
      first = went_join (λ q. e.closing ≡ Some q) _ _ _ [] (drop_script e.closing) wents drops.went

      length-listed : length listed ≡ length e.public.tables
      length-listed = (catalogue_has e.vault.keys (state e.vault.revs) e.public.tables).count

      next_amid : v1.next ≡ e.public.next_region
      next_amid =
          let next = next_after (world_of state e s) amid (drop_script e.closing) agrees.ready first.lasts.ready first.lasts.start first.did.asked in
          let none = makes_drop e.closing in
          let same = agrees.next in
          omega (arith, next, none, same)

      count_amid : v1.count ≡ (start_of e.vault).writes + writes s.asked
      count_amid =
          let count = first.lasts.ready.tied.count in
          let asked = ap writes first.did.asked ∙ writes_drop e.closing s.asked in
          let start = ap (λ (x : Start). x.writes) first.lasts.start in
          omega (arith, count, asked, start)

      written_is : written_closing e.room.pack listed amid ≡ next_closing e s
      written_is =
          let blocks : length listed + 1 ≡ length e.public.tables + 1 = ap (λ (n : ℕ). n + 1) length-listed in
          let number : v1.count + 1 ≡ (start_of e.vault).writes + writes s.asked + 1 = ap (λ (n : ℕ). n + 1) count_amid in
          λ i. record { region = next_amid i; blocks = blocks i; number = number i; pack = agrees.room.pack i }

      is_catalogue : IsCatalogue (next_closing e s) listed
      is_catalogue =
          catalogue_is (next_closing e s) e.vault.keys (state e.vault.revs) e.public.tables
          (may_list (next_closing e s) e.public.tables (others_of e.closing e.indexes.items) e.indexes.items (world_of state e s) agrees.settings.pack_least agrees.ready agrees.tables flat agrees.next
          (ap (λ (n : ℕ). n + 1) (sym agrees.ready.tied.count)) refl salts)

      -- what is asked of writing it
      pub few_listed : length listed ≤ 64
      few_listed = let same = length-listed in let few = agrees.tables.few in omega (arith, same, few)

      pub few_columns : All (λ (t : Listed). length t.table.heading.schema ≤ 16) listed
      few_columns = λ k d below.
          let is = got_or listed k d below in
          (is_catalogue.are.each k _ is).listed.heading.stored.few
        where
          got_or : (ts : List Listed) (i : ℕ) (d : Listed) → i < length ts → slice_get ts i ≡ Some (get_or ts i d)
          got_or [] i d below = absurd (omega (arith, below))
          got_or (t ∷ ts) zero d below = refl
          got_or (t ∷ ts) (suc i) d below = got_or ts i d (omega (arith, below))

      pub may_write : count_of e s < 2 ^ 63 + 2 ^ 59 → 3 + length e.public.tables ≤ s1.spare → MayAsk (2 + length listed) amid
      may_write few spare =
          let used = drops.went.spare in
          let long = length-drop_script e.closing in
          let count = went_spent (λ q. e.closing ≡ Some q) (drop_script e.closing) (world_of state e s) amid first in
          let same = length-listed in
          let tables = agrees.tables.few in
          record {
            ready = first.lasts.ready;
            spare = omega (arith, used, long, spare, same);
            few = omega (arith, count, long, few, same, tables);
          }

      -- ---- the new closing
      module _ (v2 : Vault R) (t : StoreState) where
        abbrev last : World
        last = at state v2 t

        abbrev both : ℕ → Type 0
        both q = (e.closing ≡ Some q) ⊎ (q ≡ v1.next)

        script_is : write_script (written_closing e.room.pack listed amid) ≡ write_script (next_closing e s)
        script_is = ap write_script written_is

        seals_all : {result : Result Closing CloseErr} → WritesClosing e.room.pack listed result amid last → (good : ℕ → List ℕ → Bool) → AcceptsClosings good
            → Seals good (world_of state e s) last
        seals_all writes_it good closings =
            seals_join good (world_of state e s) fore last (later_rests s s1 room) (seals_rests _ s s1 room good)
            (seals_join good fore amid last drops.went.lasts.later (drops.seals.seals good) (writes_it.seals good (λ p below. closings v1.next listed p below)))

        -- what was sealed stays so in a vault that has the same keys and numbers
        sealed_as : (good : ℕ → List ℕ → Bool) → Later s t → v2.keys ≡ e.vault.keys → start_of v2 ≡ start_of e.vault → Seals good (world_of state e s) last → Seals good (world_of state e s) (world_of state e t)
        sealed_as good later keys start seals =
            seals_join good (world_of state e s) last (world_of state e t) later seals (seals_unasked good last (world_of state e t) (sym keys) (sym start) refl (omega arith) (record { live = λ q. refl; last = λ q x. refl; kept = λ q. refl }))

        calm_as : v2.keys ≡ e.vault.keys → start_of v2 ≡ start_of e.vault → Untampered last → Untampered (world_of state e t)
        calm_as keys start calm = record {
          calm = λ lie told. subst (λ (b : Start). TagFits e.vault.keys b lie) start (subst (λ (k : KeySet). TagFits k (start_of v2) lie) keys (calm.calm lie told));
          within = calm.within;
        }

        -- it was not written
        module _ (err : CloseErr) (is : WritesClosing e.room.pack listed (Err err) amid last) where
          cut : CutShort (vault_error err) (drop_script e.closing ++ write_script (written_closing e.room.pack listed amid)) both (world_of state e s) last
          cut =
              cut_after both (world_of state e s) amid last (vault_error err) (drop_script e.closing) (write_script (written_closing e.room.pack listed amid))
              (went_wider (λ q. e.closing ≡ Some q) (world_of state e s) amid both (λ q at_it. inl at_it) (drop_script e.closing) first)
              (record {
                lasts = lasts_wider (one v1.next) amid last both (λ q at_it. inr at_it) is.err.lasts;
                began = is.err.began;
                asks = is.err.asks;
                cause = is.err.cause;
              })

          cause_as : (err : CloseErr) → Cause (vault_error err) (world_of state e s) last → ClosingCause err s t × (Untampered (world_of state e s) → Untampered last)
          cause_as Failed cause = (cause.0, cause.1)
          cause_as NoMemory cause = (cause.0, cause.1)

          pub closes_cut : ClosesEngine state (Err err) e s t
          closes_cut = record {
            full = λ full. tt;
            gives_up = λ full. absurd (cc (full, free));
            ok = λ _. tt;
            err = record {
              began = subst (λ (x : List Access). Began (drop_script e.closing ++ x) s t) script_is cut.began;
              cause = (cause_as err cut.cause).0;
            };
            later = cut.lasts.later;
            calm = λ calm. calm_as cut.lasts.keys cut.lasts.start ((cause_as err cut.cause).1 calm);
            told = λ tells _ tables held. tt;
            sealed = λ good rows closings. sealed_as good cut.lasts.later cut.lasts.keys cut.lasts.start (seals_all is good closings);
          }

        -- it was written
        module _ (made : Closing) (is : WritesClosing e.room.pack listed (Ok made) amid last)
            (keeps : (q : ℕ) (shape : Shape) → IsTrue t.tells → t.live q ≡ Some shape → KeepsLive q shape t) where
          went : Went (drop_script e.closing ++ write_script (written_closing e.room.pack listed amid)) both (world_of state e s) last
          went =
              went_join both (world_of state e s) amid last (drop_script e.closing) (write_script (written_closing e.room.pack listed amid))
              (went_wider (λ q. e.closing ≡ Some q) (world_of state e s) amid both (λ q at_it. inl at_it) (drop_script e.closing) first)
              (went_wider (one v1.next) amid last both (λ q at_it. inr at_it) (write_script (written_closing e.room.pack listed amid)) is.ok)

          made_is : made ≡ next_closing e s
          made_is = is.value ∙ written_is

          marked : IsMark (mark_of (next_closing e s))
          marked =
              let parts = neither (nat_le (2 ^ 63) (next_closing e s).region) (nat_le (2 ^ 63) (next_closing e s).number) free in
              let region = leb-false (2 ^ 63) (next_closing e s).region parts.0 in
              let number = leb-false (2 ^ 63) (next_closing e s).number parts.1 in
              let next = agrees.ready.tied.next in
              let same = agrees.next in
              let few = agrees.tables.few in
              record {
                region_least = omega (arith, next, same);
                region_most = region;
                blocks_least = omega (arith);
                blocks_most = omega (arith, few);
                number_least = omega (arith);
                number_most = number;
                pack_least = agrees.settings.pack_least;
                pack_most = agrees.settings.pack_most;
              }

          off : (i : ℕ) (u : Table) → slice_get e.public.tables i ≡ Some u → both u.region → ⊥
          unfolding others_of
          off i u at_i (inl closed) = (agrees.tables.beside u.region (inl closed)).off (record { place = i; table = u; get = at_i; region = refl })
          off i u at_i (inr fresh) =
              let below = region_below e.public.pack i e.public.tables u (world_of state e s) agrees.ready agrees.tables at_i in
              let next = next_amid in
              let same = agrees.next in
              omega (arith, below, next, same, fresh)

          rests : IsTrue s.tells → (tables : Tables) → Represents state e s tables → IsAtRest e.vault.keys (next_closing e s) t.kept (by_name tables)
          rests tells tables held =
              let tells_amid : IsTrue s2.tells = subst IsTrue (sym first.lasts.later.tells) tells in
              let tells_last : IsTrue t.tells = subst IsTrue (sym went.lasts.later.tells) tells in
              let written : IsClosing v2.keys made listed t.kept = is.told tells_amid (subst (λ (x : Closing). IsCatalogue x listed) (sym made_is) is_catalogue) in
              record {
                listed = listed;
                closing_is =
                    subst (λ (x : Closing). IsClosing e.vault.keys x listed t.kept) made_is
                    (subst (λ (k : KeySet). IsClosing k made listed t.kept) went.lasts.keys written);
                held = named_kept e.vault.keys e.public.pack t.kept (state e.vault.revs) (world_of state e s) e.indexes.items e.public.tables tables flat held.held
                    (λ i u x at_i heading represents. record {
                      heading = heading;
                      keeps =
                          let away = off i u at_i in
                          table_kept_as e.vault.keys e.public.pack (state e.vault.revs) u x.held.slots last t refl agrees.settings.pack_least went.lasts.ready
                          (table_kept both e.public.pack u (world_of state e s) last went.lasts away (agrees.tables.each i u at_i)) (flat_each e.public.tables flat i u at_i)
                          (represents_lasts e.public.pack (flat_of u) both (world_of state e s) last went.lasts away x.held.slots represents)
                          went.lasts.keys (went.lasts.apart.number u.region 0 away)
                          (λ shape live. keeps u.region shape tells_last live);
                    });
                in_place = λ stash. named_in e.public.stash stash tables
                    (subst (λ (hs : List Heading). AreFlat hs) (sym (held_headings e.public.pack e.indexes.items e.public.tables tables (world_of state e s) held.held)) flat) held.in_place;
              }

          pub closes_all : (mark : Mark) → mark ≡ mark_of made → ClosesEngine state (Ok mark) e s t
          closes_all mark mark_is =
              let named : mark ≡ mark_of (next_closing e s) = mark_is ∙ ap mark_of made_is in
              record {
                full = λ full. absurd (cc (full, free));
                gives_up = λ full. tt;
                ok = λ _. record {
                  is = named;
                  within = subst IsMark (sym named) marked;
                  did = subst (λ (x : List Access). Did (drop_script e.closing ++ x) s t) script_is went.did;
                };
                err = tt;
                later = went.lasts.later;
                calm = λ calm. calm_as went.lasts.keys went.lasts.start (went.calm calm);
                told = λ tells _ tables held. rests tells tables held;
                sealed = λ good rows closings. sealed_as good went.lasts.later went.lasts.keys went.lasts.start (seals_all is good closings);
              }
