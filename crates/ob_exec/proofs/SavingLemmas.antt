-- An engine's tables are saved by a keeper, whatever fails.
use Rattle.ob_exec.proofs.Words.{Access, Agrees, ap, append-nil, append_assoc, arith, Bool, Untampered, ChangesNothing, Engine, Err, false, inl, inr, IsFree, KeeperFault, KeeperState, Later, length, length-append, List, none, Ok, Option, others_of, Public, ReadsIn, refl, RevState, SavesTables, SavingCause, Seals, seals_join, Some, StoreState, subst, sym, Tables, true, Went, went_rests, world_of, ℕ, [], ◌++◌, ◌∙◌, ◌≡◌, ◌≤◌, ◌⊎◌}
use Rattle.ob_base.specs.Accesses.{drop_script, make_at}
use Rattle.ob_base.specs.Counts.{Rises}
use Rattle.ob_base.specs.declared.fault.Failed.{Failed}
use Rattle.ob_reopen.specs.declared.mark.Mark.{Mark}
use Rattle.ob_reopen.specs.Closed.{ClosingCause, is_used_up}
use Rattle.ob_reopen.specs.Keepers.{SetsMark}
use Rattle.ob_reopen.specs.Resting.{AcceptsClosings, by_name}
use Rattle.ob_reopen.specs.declared.fault.CloseErr.{CloseErr}
use Rattle.ob_reopen.specs.declared.fault.CloseErr.TheVariants as CloseErrs
use Rattle.ob_script.proofs.Numbers.{length-create_part}
use Rattle.ob_script.specs.Saved.{saved_public}
use Rattle.ob_select.specs.Selecting.{AcceptsRows}
use Rattle.ob_store.proofs.Steps.{later_trans}
use Rattle.ob_store.specs.Calls.{Syncs}
use Rattle.ob_store.specs.Runs.{Began}
use Rattle.ob_store.specs.State.{KeptRegion}
use Rattle.ob_tables.proofs.HeldLemmas.{held_kept}
use Rattle.ob_tables.proofs.TableLemmas.{tables_kept}
use Rattle.ob_tables.specs.Agreeing.{draws_of, engine_keys, engine_start, has_ended, high_of, indexes_of, opened_from, public_of, replaced_of, seen_of}
use Rattle.ob_tables.specs.Closing.{next_closing}
use Rattle.ob_tables.specs.Engines.{IsBeside, IsTableRegion}
use Rattle.ob_tables.specs.Saving.{IsSaved, RestsIn, SavesEngine, SettlesEngine, Waits, WaitsAt, save_script}
use Rattle.ob_tables.specs.Telling.{Represents}
use Rattle.ob_tables.specs.declared.stop.RunStop.TheVariants.{StoreFault}
use Rattle.ob_vault.proofs.WorldSteps.{seals_unasked}
use Rattle.ob_exec.specs.Saving.{HoldsSaved, saving_stop}

-- ---- a store that waits until all lies where a crash leaves it
synced : (s t : StoreState) → Syncs s t → t.faults ≡ s.faults → ChangesNothing s t
synced s t syncs faults = record {
  spare = let same = syncs.spare in omega (arith, same);
  asked = syncs.asked;
  log = syncs.log;
  faults = faults;
  slips = syncs.slips;
  tells = syncs.tells;
  lie = syncs.lie;
  gave = syncs.gave;
  disturbed = syncs.disturbed;
  keeps = syncs.keeps;
}

later_syncs : (s t : StoreState) → Syncs s t → Later s t
later_syncs s t syncs = record {
  log = syncs.log;
  faults = syncs.faults;
  tells = syncs.tells;
  lie = λ lie is. syncs.lie ∙ is;
  disturbed = syncs.disturbed;
  steady = syncs.steady;
}

module _ {R : Type 0} (state : R → RevState) (e : Engine R) (s t : StoreState) where
  calm_syncs : Syncs s t → Untampered (world_of state e s) → Untampered (world_of state e t)
  calm_syncs syncs calm = record {
    calm = λ lie is. calm.calm lie (sym syncs.lie ∙ is);
    within = λ lie is. subst (ReadsIn lie) (sym syncs.asked) (calm.within lie (sym syncs.lie ∙ is));
  }

  seals_syncs : Syncs s t → (good : ℕ → List ℕ → Bool) → Seals good (world_of state e s) (world_of state e t)
  seals_syncs syncs good = seals_unasked good (world_of state e s) (world_of state e t) refl refl syncs.asked syncs.faults syncs.keeps

  -- an engine belongs to it as before
  module _ (agrees : Agrees state e s) (rests : ChangesNothing s t) where
    went : Went [] none (world_of state e s) (world_of state e t)
    went = went_rests _ s t rests none agrees.ready

    pub agrees_synced : Agrees state e t
    agrees_synced = record {
      ready = went.lasts.ready;
      next = agrees.next;
      settings = agrees.settings;
      stash = agrees.stash;
      room = agrees.room;
      tables = tables_kept none e.public.pack e.public.tables (others_of e.closing e.indexes.items) e.indexes.items (world_of state e s) (world_of state e t) went.lasts
          (λ i u is hit. hit) (λ q of hit. hit) (λ q shape live hit. hit) agrees.tables;
      fit = agrees.fit;
      aside = agrees.aside;
      seeded = agrees.seeded;
      kept = agrees.kept;
      saved = agrees.saved;
    }

    represents_synced : (tables : Tables) → Represents state e s tables → Represents state e t tables
    represents_synced tables held = record {
      held = held_kept none e.public.pack e.indexes.items e.public.tables tables (world_of state e s) (world_of state e t) went.lasts (λ i u is hit. hit) (λ k x get hit. hit) held.held;
      in_place = held.in_place;
    }

  waits_at : ChangesNothing s t → (q : ℕ) → WaitsAt state q e s → WaitsAt state q e t
  waits_at rests q at = record {
    live = record { shape = at.live.shape; live = rests.keeps.live q ∙ at.live.live };
    below = at.below;
    forgotten = at.forgotten;
  }

  pub waits_synced : ChangesNothing s t → (left : Option ℕ) → Waits state left e s → Waits state left e t
  waits_synced rests left waits = record {
    former = λ q is. waits_at rests q (waits.former q is);
    replaced = λ q is. waits_at rests q (waits.replaced q is);
    apart = waits.apart;
  }

-- ---- what rests while nothing that the mark needs changes
rests_on : {R : Type 0} (e : Engine R) (s : StoreState) (old new : ℕ → Option KeptRegion) (tables : Tables)
    → ((q : ℕ) → (q ≡ (next_closing e s).region) ⊎ IsTableRegion e.public.tables q → new q ≡ old q)
    → RestsIn (engine_keys e) (next_closing e s) old (by_name tables) e.public.tables → RestsIn (engine_keys e) (next_closing e s) new (by_name tables) e.public.tables
rests_on e s old new tables same rests = record { rests = λ now at. rests.rests now (λ q of. at q of ∙ same q of) }

module _ {R : Type 0} (state : R → RevState) (left : Option ℕ) (e : Engine R) (s : StoreState) where
  -- ---- the closing was not written
  unwritten_cause : (t : StoreState) (keeper : KeeperState) (err : CloseErr) → (err ≡ CloseErrs.NoMemory → Began (make_at (next_closing e s).region (next_closing e s).blocks 1024) s t)
      → ClosingCause err s t → SavingCause (saving_stop err) e s t keeper keeper
  unwritten_cause t keeper CloseErrs.Failed memory cause = (inl cause, refl)
  unwritten_cause t keeper CloseErrs.NoMemory memory cause = (memory refl, cause, refl)

  module _ (saved : Engine R) (t : StoreState) (err : CloseErr) (saves : SavesEngine state (Err err) e s saved t) (keeper : KeeperState) where
    why : (full : Bool) → is_used_up (next_closing e s) ≡ full → Began (save_script e s) s t × SavingCause (saving_stop err) e s t keeper keeper
    why true full =
        let unasked = saves.used_up full in
        let is : err ≡ CloseErrs.Failed = cc unasked.0 in (
          record { done = []; rest = save_script e s; split = refl; asked = ap (λ (x : StoreState). x.asked) unasked.1 ∙ sym (append-nil s.asked) },
          subst (λ (x : CloseErr). SavingCause (saving_stop x) e s t keeper keeper) (sym is) (inr (record { used_up = full; same = unasked.1 }), refl),
        )
    why false free =
        let unwritten = saves.err free in
        (unwritten.began, unwritten_cause t keeper err (λ is. saves.memory (ap (λ (x : CloseErr). Err x) is)) unwritten.cause)

    pub unwritten : {T : Type 0} → SavesTables {T = T} state left (Err (saving_stop err)) e s saved t keeper keeper
    unwritten = record {
      held = tt;
      stays = λ mark held. inl held;
      kept = λ q other. saves.kept q other;
      others = tt;
      asked = tt;
      began = (why (is_used_up (next_closing e s)) refl).0;
      goes_on = tt;
      counted = tt;
      drawn = refl;
      cause = (why (is_used_up (next_closing e s)) refl).1;
      keys = saves.keys;
      start = saves.start;
      draws = saves.draws;
      seen = saves.seen;
      indexes = saves.indexes;
      room = saves.room;
      high = saves.high;
      some = saves.some;
      later = saves.later;
      calm = saves.calm;
      sealed = saves.sealed;
    }

  -- ---- it was
  module _ (mark : Mark) (e1 : Engine R) (s1 : StoreState) (saves : SavesEngine state (Ok mark) e s e1 s1) (t : StoreState) (syncs : Syncs s1 t) where
    abbrev ok : IsSaved state mark e s e1 s1
    ok = saves.ok

    asked_then : t.asked ≡ s.asked ++ save_script e s
    asked_then = syncs.asked ∙ ok.did.asked

    later_then : Later s t
    later_then = later_trans s s1 t saves.later (later_syncs s1 t syncs)

    calm_then : Untampered (world_of state e s) → Untampered (world_of state e1 t)
    calm_then calm = calm_syncs state e1 s1 t syncs (saves.calm calm)

    sealed_then : (good : ℕ → List ℕ → Bool) → AcceptsRows good (public_of e).pack → AcceptsClosings good → Seals good (world_of state e s) (world_of state e1 t)
    sealed_then good rows closings =
        seals_join good (world_of state e s) (world_of state e1 s1) (world_of state e1 t) saves.later (saves.sealed good rows closings) (seals_syncs state e1 s1 t syncs good)

    some_then : (t.asked ≡ s.asked → ⊥) → 1 ≤ high_of e1
    some_then more = saves.some (λ same. more (syncs.asked ∙ same))

    began_then : Began (save_script e s) s t
    began_then = record { done = save_script e s; rest = []; split = append-nil (save_script e s); asked = asked_then }

    -- the store failed while it waited
    pub unsynced : {T : Type 0} (keeper : KeeperState) → Rises s1.faults t.faults → SavesTables {T = T} state left (Err StoreFault) e s e1 t keeper keeper
    unsynced keeper cause = record {
      held = tt;
      stays = λ held is. inl is;
      kept = λ q other. syncs.keeps.kept q ∙ saves.kept q other;
      others = tt;
      asked = tt;
      began = began_then;
      goes_on = tt;
      counted = tt;
      drawn = refl;
      cause = (inl (subst (λ (n : ℕ). Rises n t.faults) ok.did.faults cause), refl);
      keys = saves.keys;
      start = saves.start;
      draws = saves.draws;
      seen = saves.seen;
      indexes = saves.indexes;
      room = saves.room;
      high = saves.high;
      some = some_then;
      later = later_then;
      calm = calm_then;
      sealed = sealed_then;
    }

    module _ (faults : t.faults ≡ s1.faults) where
      pub rests_then : ChangesNothing s1 t
      rests_then = synced s1 t syncs faults

      faults_then : t.faults ≡ s.faults
      faults_then = faults ∙ ok.did.faults

      -- what the keeper holds, and what rests for it
      holds_mark : (u : StoreState) (keeper : KeeperState) → ((q : ℕ) → (q ≡ (next_closing e s).region) ⊎ IsTableRegion e.public.tables q → u.kept q ≡ t.kept q)
          → keeper.held ≡ Some mark → HoldsSaved state e s u keeper
      holds_mark u keeper same is = record {
        salt = ok.salt;
        of = ok.of;
        is = is ∙ ap (λ (m : Mark). Some m) ok.is;
        rests = λ tells tables held. rests_on e s s1.kept u.kept tables (λ q at. same q at ∙ syncs.keeps.kept q) (saves.told tells tables held).0;
      }

      -- the keeper failed
      pub unset : {T F : Type 0} (failed : Failed) (k0 k1 : KeeperState) → SetsMark {T = F} mark (Err failed) k0 k1 → SavesTables {T = T} state left (Err KeeperFault) e s e1 t k0 k1
      unset failed k0 k1 sets = record {
        held = tt;
        stays = λ held is. elim (sets.failed held is) [ inl same ↦ inl same | inr new ↦ inr (holds_mark t k1 (λ q at. refl) new) ];
        kept = λ q other. syncs.keeps.kept q ∙ saves.kept q other;
        others = tt;
        asked = tt;
        began = began_then;
        goes_on = tt;
        counted = tt;
        drawn = sets.drawn;
        cause = (record { asked = asked_then; faults = faults_then }, sets.cause);
        keys = saves.keys;
        start = saves.start;
        draws = saves.draws;
        seen = saves.seen;
        indexes = saves.indexes;
        room = saves.room;
        high = saves.high;
        some = some_then;
        later = later_then;
        calm = calm_then;
        sealed = sealed_then;
      }

      -- ---- and what the mark needs no more is discarded
      module _ (agrees : Agrees state e s) (waits : Waits state left e s) (settled : Engine R) (u : StoreState) (settles : SettlesEngine state left e1 t settled u) where
        left_off : (q : ℕ) → (q ≡ (next_closing e s).region) ⊎ IsTableRegion e.public.tables q → left ≡ Some q → ⊥
        left_off q (inl own) is = let below = (waits.former q is).below in let next = agrees.next in omega (arith, below, next, own)
        left_off q (inr of) is =
            let none = (waits.former q is).forgotten in
            let live = (agrees.tables.each of.place of.table of.get).live.lives.live in
            let region = of.region in
            absurd (cc (none, live, region))

        beside : (q : ℕ) → opened_from e ≡ Some q → IsBeside e.public.tables q (world_of state e s)
        unfolding others_of
        beside q is = agrees.tables.beside q (inl is)

        closing_off : (q : ℕ) → (q ≡ (next_closing e s).region) ⊎ IsTableRegion e.public.tables q → opened_from e ≡ Some q → ⊥
        closing_off q (inl own) is =
            let here = beside q is in
            let below = agrees.ready.below q here.shape here.lives.live in
            let next = agrees.next in
            omega (arith, below, next, own)
        closing_off q (inr of) is = (beside q is).off of

        kept_on : (q : ℕ) → (q ≡ (next_closing e s).region) ⊎ IsTableRegion e.public.tables q → u.kept q ≡ t.kept q
        kept_on q at = settles.kept q (left_off q at) (λ is. closing_off q at (sym ok.replaced ∙ is))

        public_then : public_of settled ≡ saved_public (public_of e)
        public_then = ap (λ (x : Engine R). public_of x) settles.is ∙ ok.public

        abbrev dropped : List Access
        dropped = drop_script left ++ drop_script (opened_from e)

        asked_all : u.asked ≡ s.asked ++ (save_script e s ++ dropped)
        asked_all =
            settles.asked ∙ (λ i. asked_then i ++ (drop_script left ++ drop_script (ok.replaced i))) ∙ append_assoc s.asked (save_script e s) dropped

        pub saved_all : {T F : Type 0} (x : T) (y : F) (k0 k1 : KeeperState) → SetsMark mark (Ok y) k0 k1 → SavesTables state left (Ok x) e s settled u k0 k1
        saved_all x y k0 k1 sets = record {
          held = λ held is. holds_mark u k1 kept_on (sets.told held is);
          stays = tt;
          kept = tt;
          others = λ q other off_left off_closing. settles.kept q off_left (λ is. off_closing (sym ok.replaced ∙ is)) ∙ syncs.keeps.kept q ∙ saves.kept q other;
          asked = record { asked = asked_all; faults = settles.faults ∙ faults_then };
          began = tt;
          goes_on = record {
            agrees = settles.agrees;
            public = public_then;
            listed = ap (λ (y : Engine R). opened_from y) settles.is ∙ ok.closing ∙ sym (ap (λ (p : Public). p.closing) public_then);
            lives = ap (λ (y : Engine R). has_ended y) settles.is ∙ saves.ended;
            settled = ap (λ (y : Engine R). replaced_of y) settles.is;
            told = λ tells tables held. settles.told tables (represents_synced state e1 s1 t ok.agrees rests_then tables (saves.told tells tables held).1);
          };
          counted = sets.cause;
          drawn = sets.drawn;
          cause = tt;
          keys = ap (λ (y : Engine R). engine_keys y) settles.is ∙ saves.keys;
          start = ap (λ (y : Engine R). engine_start y) settles.is ∙ saves.start;
          draws = ap (λ (y : Engine R). draws_of y) settles.is ∙ saves.draws;
          seen = ap (λ (y : Engine R). seen_of y) settles.is ∙ saves.seen;
          indexes = ap (λ (y : Engine R). indexes_of y) settles.is ∙ saves.indexes;
          room = subst (λ (y : Engine R). IsFree (public_of e) y.room) (sym settles.is) saves.room;
          high = let same = ap (λ (y : Engine R). high_of y) settles.is in let high = saves.high in omega (arith, same, high);
          some = λ more.
              let same = ap (λ (y : Engine R). high_of y) settles.is in
              let long = length-create_part (next_closing e s).region (next_closing e s).blocks 1024 in
              let sum = ap length ok.did.asked in
              let parts = length-append s.asked (save_script e s) in
              let one = saves.some (λ is. let short = ap length is in omega (arith, short, sum, parts, long)) in
              omega (arith, same, one);
          later = later_trans s t u later_then settles.later;
          calm = λ calm. settles.calm (calm_then calm);
          sealed = λ good rows closings.
              seals_join good (world_of state e s) (world_of state e1 t) (world_of state settled u) later_then (sealed_then good rows closings) (settles.sealed good);
        }
