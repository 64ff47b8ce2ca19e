-- A statement that changes tables, and the saving of them after it.
use Rattle.ob_exec.proofs.Words.{Access, accessed, Agrees, ap, append-nil, append_assoc, AreDraws, arith, Bool, by_fault, Untampered, changes_tables, ChangesFlat, count_of, Cut, Draws, early_held, ended_at, Engine, Err, false, headings_of, Index, inl, inr, is_access, is_fault, is_late, is_refused, is_saved, is_store_fault, IsFree, IsNotTampered, IsTrue, KeeperFault, KeeperState, KeySet, Later, Lawful, left_by, length, length-append, FalseRead, List, list_any, nat_le, nat_tests, None, none_before, of_other, Ok, Opens, Option, Outcome, outcome_end, Public, ReadsIn, ReadsTrue, refl, Refusal, refusal_now, RefusedEarly, Result, RevState, run_script, RunStop, SavesTables, SavingCause, script, seals_join, Seen, SinkFault, Skeleton, skeleton, Some, StashFull, Stmt, StoreState, subst, sym, Tables, take, true, Whole, whole_script, World, world_of, ℕ, [], ◌++◌, ◌+◌, ◌-◌, ◌<◌, ◌^◌, ◌||◌, ◌∙◌, ◌∷◌, ◌≡◌, ◌≤◌, ◌⊎◌}
use Rattle.std.proofs.Common.{◌%◌}
use Rattle.std.proofs.lemmas.List.{take_at}
use Rattle.ob_base.specs.Accesses.{drop_script, make_at, makes, write_at, writes}
use Rattle.ob_base.specs.Counts.{Rises}
use Rattle.ob_base.specs.Lists.{each}
use Rattle.ob_base.specs.declared.access.Access.TheVariants.{Make}
use Rattle.ob_base.specs.declared.refusal.Refusal.TheVariants as Refusals
use Rattle.ob_mean.proofs.FlatLemmas.{no_public_access}
use Rattle.ob_mean.specs.Flats.{AreFlat}
use Rattle.ob_mean.specs.Lawful.{height_at}
use Rattle.ob_mean.specs.Replay.{draws_taken}
use Rattle.ob_mean.specs.Batches.{settle_all}
use Rattle.ob_mean.specs.Verdict.{ended as seen_to, seen}
use Rattle.ob_script.proofs.Numbers.{length-create_part}
use Rattle.ob_script.proofs.SavedParts.{next_saved, script_saved}
use Rattle.ob_script.specs.Parts.{closing_part}
use Rattle.ob_script.specs.Saved.{run_next, saved_public, whole_run}
use Rattle.ob_script.specs.Script.{closing_behind, save_part}
use Rattle.ob_script.specs.Tables.{tables_after}
use Rattle.ob_script.specs.Trace.{next}
use Rattle.ob_seal.specs.Draws.{draw_of}
use Rattle.ob_select.proofs.LieLemmas.{lie_before}
use Rattle.ob_select.proofs.SelectRuns.{ends-more}
use Rattle.ob_select.specs.Memory.{ends_with_make}
use Rattle.ob_select.specs.Opening.{is_of_rows}
use Rattle.ob_select.specs.Selecting.{AcceptsRows}
use Rattle.ob_store.proofs.Steps.{later_trans, since_later}
use Rattle.ob_store.specs.Runs.{Began}
use Rattle.ob_tables.proofs.HeldLemmas.{held_plain}
use Rattle.ob_tables.proofs.LawfulLemmas.{leaf_none}
use Rattle.ob_tables.proofs.PlainLemmas.{IsPlain, none_stops}
use Rattle.ob_tables.proofs.TableLemmas.{tables_flat}
use Rattle.ob_tables.proofs.ToldLemmas.{cut_seen, refused_none}
use Rattle.ob_tables.specs.Agreeing.{high_of, opened_from, public_of}
use Rattle.ob_tables.specs.Closing.{next_closing}
use Rattle.ob_tables.specs.Leaves.{MovesLeaves}
use Rattle.ob_tables.specs.Refusals.{refused_end}
use Rattle.ob_tables.specs.Running.{GoesOn}
use Rattle.ob_tables.specs.Saving.{save_script}
use Rattle.ob_tables.specs.Serving.{Means}
use Rattle.ob_tables.specs.Telling.{Meant, Represents, meant_script}
use Rattle.ob_tables.specs.declared.stop.RunStop.TheVariants.{NoMemory, StoreFault, Tampered}
use Rattle.ob_vault.proofs.WorldSteps.{calm_none}
use Rattle.ob_vault.specs.State.{Start}
use Rattle.ob_verdict.proofs.SeenProof.{shows_kind_alone}
use Rattle.ob_verdict.specs.declared.outcome.Outcome.TheVariants.{Created, Inserted, Changed, Deleted, Dropped, Rows, Refused}
use Rattle.ob_exec.proofs.ChangedScripts.{changes_flat, changes_plain, closing_is, run_same, run_whole, saved_changes, saved_saves, whole_saved}
use Rattle.ob_exec.proofs.FewAsked.{few_behind}
use Rattle.ob_exec.proofs.Unread.{Unread, reads_back, unread_both, unread_closing, unread_drops, unread_first}
use Rattle.ob_exec.proofs.Shares.{Share}
use Rattle.ob_exec.specs.Ran.{CarriedOut, CountsKeeper, LacksNumber, RanWhole, RunsOut, ServedCause, StopsWhere, WantsMemory, is_saved_behind}
use Rattle.ob_exec.specs.Saving.{IsUsedUp}

-- ---- how an answer ends that came to its end
refusal_stays : (r : Refusal) (n m : ℕ) → refused_end r n ≡ Whole → refused_end r m ≡ Whole
refusal_stays Refusals.StoreFault n m is = absurd (cc is)
refusal_stays other n m is = is

end_stays : (outcome : Outcome) (n m : ℕ) → outcome_end outcome n ≡ Whole → outcome_end outcome m ≡ Whole
end_stays (Refused r) n m is = refusal_stays r n m is
end_stays other n m is = is

-- the store didn't fail
refusal_own : (r : Refusal) (n : ℕ) → refused_end r n ≡ Whole → is_store_fault r ≡ false
refusal_own Refusals.StoreFault n is = absurd (cc is)
refusal_own other n is = refl

pub end_own : (outcome : Outcome) (n : ℕ) → outcome_end outcome n ≡ Whole → is_fault outcome ≡ false
end_own (Refused r) n is = refusal_own r n is
end_own other n is = refl

-- what holds of an answer then
pub whole_of : (failed : Bool) (cut whole : Type 0) → failed ≡ false → by_fault failed cut whole → whole
whole_of true cut whole own is = absurd (cc own)
whole_of false cut whole own is = is

-- it wasn't refused before any access
early_whole : (o : Option Refusal) (result : Result Outcome RunStop) (now : Seen) → RefusedEarly o result now → now.end ≡ Whole → o ≡ None
early_whole None result now early whole = refl
early_whole (Some r) result now early whole = let static = ap (λ (x : Seen). x.end) early.1 in absurd (cc (static, whole))

-- one side of a test is true
either_true : (a b : Bool) → (a || b) ≡ true → (a ≡ true) ⊎ (b ≡ true)
either_true true b is = inl refl
either_true false b is = inr is

least : (a b : ℕ) → nat_le a b ≡ true → a ≤ b
least a b le = grind (arith, nat_tests)

-- ---- after the engine's share, which came to its end
module _ {R : Type 0} (state : R → RevState) (stmt : Stmt) (owed : List Stmt) (Halts : Type 0) (outcome : Outcome) (old : Engine R) (s : StoreState) (mid : Engine R) (s1 : StoreState)
    (agrees : Agrees state old s) (share : Share state stmt owed Halts (Ok outcome) old s mid s1) (saved : is_saved old.public (skeleton stmt) ≡ true) (whole : mid.seen.end ≡ Whole) where
  abbrev p : Public
  p = old.public

  abbrev sk : Skeleton
  sk = skeleton stmt

  abbrev m : ℕ
  m = count_of old s

  changes : changes_tables sk ≡ true
  changes = saved_changes p sk saved

  saves : p.save ≡ true
  saves = saved_saves p sk saved

  early : refusal_now p m stmt ≡ None
  early = early_whole _ (Ok outcome) mid.seen share.early whole

  flat : AreFlat (headings_of p.tables)
  flat = tables_flat (agrees.kept (agrees.saved saves)) agrees.tables

  changed : ChangesFlat p sk
  changed = changes_flat p flat (is_late m) (agrees.saved saves) stmt changes early

  unkeyed : is_access p sk ≡ false
  unkeyed = no_public_access p sk flat

  abbrev on : GoesOn state sk (run_next p sk mid.seen) old mid s1
  on = share.ran.goes_on

  plain : mid.seen ≡ seen_to Whole
  plain = (share.shows saves changes).plain ∙ ap seen_to whole

  own : is_fault outcome ≡ false
  own = end_own outcome _ (sym share.ran.ends ∙ whole)

  faults_mid : s1.faults ≡ s.faults
  faults_mid = whole_of (is_fault outcome) _ _ own share.ran.cause.0

  run_all : run_script p sk mid.seen ≡ whole_run p sk mid.seen
  run_all = run_whole p sk mid.seen whole

  -- ---- what saving asks for
  saves_mid : (public_of mid).save ≡ true
  saves_mid = ap (λ (q : Public). q.save) on.public ∙ saves

  pub flat_mid : AreFlat (headings_of (public_of mid).tables)
  flat_mid = tables_flat (on.agrees.kept (on.agrees.saved saves_mid)) on.agrees.tables

  pub few_mid : count_of mid s1 < 2 ^ 63 + 2 ^ 59
  few_mid = few_behind state old s mid s1 stmt mid.seen agrees saves flat changed changes early whole share.ran.start share.ran.asked

  -- ---- accesses
  abbrev run : List Access
  run = run_script p sk mid.seen

  abbrev closing : List Access
  closing = save_script mid s1

  abbrev saving : List Access
  saving = save_part p sk (left_by p sk)

  closing_written : closing ≡ closing_part (closing_behind p sk) (length (tables_after p sk))
  closing_written = closing_is p sk mid.seen mid.public saves changed whole on.public

  -- a changed block that was read was read by the engine's share, since saving reads nothing
  module _ (new : Engine R) (t : StoreState) (more : List Access) (unread : Unread more) (asked : t.asked ≡ s1.asked ++ more) (later : Later s1 t) (calm : Untampered (world_of state mid s1) → Untampered (world_of state new t)) where
    reads_mid : (tables : Tables) → ReadsTrue state old s t tables → ReadsTrue state old s s1 tables
    reads_mid tables reads = record { tells = reads.tells; held = reads.held; nolie = none_before s1 t later reads.nolie }

    meant_mid : (tables : Tables) (d : Draws) → AreDraws old d → ReadsTrue state old s s1 tables → Meant state stmt owed m d tables outcome old mid s1
    meant_mid tables d of reads = whole_of (is_fault outcome) _ _ own (share.means.told tables d of reads)

    begun_then : (tables : Tables) (d : Draws) → AreDraws old d → ReadsTrue state old s s tables → (lie : FalseRead) → t.lie ≡ Some lie → ReadsIn lie (s.asked ++ meant_script d p m tables stmt)
    begun_then tables d of reads lie told = elim (lie_before s1 t lie later told) [
      | inl none ↦
          let meant = meant_mid tables d of (record { tells = reads.tells; held = reads.held; nolie = none }) in
          let there = reads_back lie s1.asked more t.asked unread asked ((calm (calm_none (world_of state mid s1) none)).within lie told) in
          subst (ReadsIn lie) (share.ran.asked ∙ ap (λ (x : Seen). s.asked ++ run_script p sk x) meant.seen) there
      | inr there ↦ share.means.begun tables d of reads lie there
    ]

  -- ---- the tables were saved
  module _ {T : Type 0} (x : T) (left : Option ℕ) (left_is : left ≡ left_by p sk) (listed : opened_from old ≡ p.closing) (new : Engine R) (t : StoreState) (k0 k1 : KeeperState)
      (done : SavesTables state left (Ok x) mid s1 new t k0 k1) where
    part_is : closing ++ (drop_script left ++ drop_script (opened_from mid)) ≡ saving
    part_is =
        let closed : opened_from mid ≡ p.closing = share.ran.from_closing ∙ listed in
        λ i. closing_written i ++ (drop_script (left_is i) ++ drop_script (closed i))

    script_then : run ++ saving ≡ script p sk new.seen
    script_then = sym (script_saved p mid.seen sk saves changed whole) ∙ ap (script p sk) (sym done.seen)

    asked_then : t.asked ≡ s.asked ++ script p sk new.seen
    asked_then =
        done.asked.asked ∙ (λ i. share.ran.asked i ++ part_is i) ∙ append_assoc s.asked run saving ∙ ap (λ (l : List Access). s.asked ++ l) script_then

    more_asked : t.asked ≡ s1.asked → ⊥
    more_asked same =
        let long = length-create_part (next_closing mid s1).region (next_closing mid s1).blocks 1024 in
        let sum = ap length done.asked.asked in
        let short = ap length same in
        let parts = length-append s1.asked (closing ++ (drop_script left ++ drop_script (opened_from mid))) in
        let two = length-append closing (drop_script left ++ drop_script (opened_from mid)) in
        omega (arith, long, sum, short, parts, two)

    public_then : public_of new ≡ next p sk new.seen
    public_then =
        done.goes_on.public ∙ ap saved_public on.public ∙ sym (next_saved p mid.seen sk saves changed whole) ∙ ap (next p sk) (sym done.seen)

    drawn_then : (d : Draws) → AreDraws old d → AreDraws new (record d { drawn = d.drawn + draws_taken p sk new.seen.end })
    drawn_then d of =
        let are = on.drawn d of in
        record {
          draw = λ n. are.draw n ∙ ap (λ (k : KeySet). draw_of k n) (sym done.keys);
          next = (λ i. (done.draws i).next) ∙ are.next ∙ ap (λ (y : Seen). (d.drawn + draws_taken p sk y.end) % 2 ^ 67) (sym done.seen);
        }

    leaves_then : (d : Draws) → AreDraws old d → MovesLeaves d (draws_taken p sk new.seen.end) (height_at p sk) old.indexes.items new.seen.leaf new.ended new.indexes.items
    leaves_then d of =
        let alive : mid.ended ≡ new.ended = on.lives ∙ sym done.goes_on.lives in
        subst (λ (y : Seen). MovesLeaves d (draws_taken p sk y.end) (height_at p sk) old.indexes.items y.leaf new.ended new.indexes.items) (sym done.seen)
        (subst (λ (b : Bool). MovesLeaves d (draws_taken p sk mid.seen.end) (height_at p sk) old.indexes.items mid.seen.leaf b new.indexes.items) alive
        (subst (λ (xs : List Index). MovesLeaves d (draws_taken p sk mid.seen.end) (height_at p sk) old.indexes.items mid.seen.leaf mid.ended xs) (sym done.indexes) (share.ran.leaves d of)))

    free_then : IsFree p new.room
    free_then = let free = done.room in record { idle = free.idle; rows = free.rows ∙ ap (λ (q : Public). q.buffer) on.public; pack = free.pack ∙ ap (λ (q : Public). q.pack) on.public }

    ran_then : RanWhole state sk (Ok outcome) old s new t
    ran_then = record {
      asked = asked_then;
      later = since_later s t (later_trans s s1 t share.ran.later done.later);
      keys = done.keys ∙ share.ran.keys;
      start = done.start ∙ share.ran.start;
      from_closing = λ not. absurd (cc (not, saved));
      ends = ap (λ (y : Seen). y.end) done.seen ∙ whole ∙ sym (end_stays outcome _ _ (sym share.ran.ends ∙ whole));
      asks = λ faulted.
          let less = share.ran.asks faulted in
          let sum = ap length done.asked.asked in
          let parts = length-append s1.asked (closing ++ (drop_script left ++ drop_script (opened_from mid))) in
          omega (arith, less, sum, parts);
      cause = (
        subst (λ (n : ℕ). by_fault (is_fault outcome) (Rises s.faults n) (n ≡ s.faults)) (sym done.asked.faults) share.ran.cause.0,
        λ calm. done.calm (share.ran.cause.1 calm),
      );
      room = free_then;
      opened = let kept = share.ran.opened.kept in let high = done.high in record { kept = omega (arith, kept, high); some = λ any. done.some more_asked };
      leaves = leaves_then;
      goes_on = record { agrees = done.goes_on.agrees; public = public_then; lives = done.goes_on.lives; drawn = drawn_then };
      settled = done.goes_on.settled;
      kept = λ saves_it not. let ends = ap (λ (y : Seen). is_saved_behind p sk y.end) done.seen ∙ ap (is_saved_behind p sk) whole in absurd (cc (not, ends, saved));
      stops = tt;
    }

    unread_then : Unread (closing ++ (drop_script left ++ drop_script (opened_from mid)))
    unread_then =
        unread_both closing (drop_script left ++ drop_script (opened_from mid)) (unread_closing (next_closing mid s1).region (next_closing mid s1).blocks 1024) (unread_drops left (opened_from mid))

    abbrev dropping : List Access
    dropping = closing ++ (drop_script left ++ drop_script (opened_from mid))

    means_then : Means state stmt owed (Ok outcome) old s new t
    means_then = record {
      told = λ tables d of reads.
          let before = reads_mid new t dropping unread_then done.asked.asked done.later done.calm tables reads in
          let meant = meant_mid new t dropping unread_then done.asked.asked done.later done.calm tables d of before in
          of_other _ _ (is_fault outcome) own (record {
            answer = meant.answer;
            seen = done.seen ∙ meant.seen;
            held = done.goes_on.told (subst (λ (b : Bool). IsTrue b) (sym share.ran.later.tells) reads.tells) (settle_all d p m (stmt ∷ owed) tables) meant.held;
          });
      room = λ tables d of reads. share.means.room tables d of (reads_mid new t dropping unread_then done.asked.asked done.later done.calm tables reads);
      honest = λ tables reads. tt;
      held = λ tables d of reads. tt;
      full = λ tables d of reads. tt;
      begun = begun_then new t dropping unread_then done.asked.asked done.later done.calm;
    }

    pub carried_saved : CarriedOut state stmt owed Halts (Ok outcome) old s new t k0 k1
    carried_saved = record {
      ran = ran_then;
      early = subst (λ (y : Seen). RefusedEarly (refusal_now p m stmt) (Ok outcome) y) (sym done.seen) share.early;
      lawful = subst (λ (y : Seen). Lawful p m stmt y) (sym done.seen) share.lawful;
      memory = λ is. absurd (cc is);
      full = λ is. absurd (cc is);
      seals = λ good rows one closings.
          seals_join good (world_of state old s) (world_of state mid s1) (world_of state new t) share.ran.later (share.seals good rows one)
          (done.sealed good (subst (λ (q : Public). AcceptsRows good q.pack) (sym on.public) rows) (closings saves));
      emits = λ is. absurd (cc is);
      means = means_then;
      keeper = inr (record {
        saved = saved;
        outcome = outcome;
        engine = mid;
        store = s1;
        ran = share.ran;
        whole = whole;
        means = share.means;
        later = since_later s1 t done.later;
        public = done.goes_on.public;
        answered = refl;
        held = done.held;
        stays = tt;
        kept = tt;
      });
      counts = done.counted;
      drawn = done.drawn;
    }

  -- ---- they were not: the session has ended
  module _ {T : Type 0} (stop : RunStop) (left : Option ℕ) (last : Engine R) (t : StoreState) (k0 k1 : KeeperState) (halts : SavesTables {T = T} state left (Err stop) mid s1 last t k0 k1)
      (n : ℕ) (count : n ≡ length t.asked - length s.asked) where
    abbrev now : Seen
    now = seen_to (Cut n)

    abbrev new : Engine R
    new = ended_at n last

    abbrev begun : Began closing s1 t
    begun = halts.began

    abbrev dropped : List Access
    dropped = drop_script (left_by p sk) ++ drop_script p.closing

    -- its accesses are a first part of what it is to ask
    front : run ≡ whole_run p sk now
    front = run_all ∙ run_same p sk mid.seen now changes (ap (λ (y : Seen). y.leaf) plain)

    whole_is : run ++ (closing ++ dropped) ≡ whole_script p sk now
    whole_is = (λ i. front i ++ (closing_written i ++ dropped)) ∙ sym (whole_saved p sk now saves changed changes)

    abbrev total : Began (whole_script p sk now) s t
    total = record {
      done = run ++ begun.done;
      rest = begun.rest ++ dropped;
      split =
          append_assoc run begun.done (begun.rest ++ dropped) ∙ ap (λ (l : List Access). run ++ l) (sym (append_assoc begun.done begun.rest dropped))
          ∙ ap (λ (l : List Access). run ++ (l ++ dropped)) begun.split ∙ whole_is;
      asked = begun.asked ∙ ap (λ (l : List Access). l ++ begun.done) share.ran.asked ∙ append_assoc s.asked run begun.done;
    }

    size : n ≡ length (run ++ begun.done)
    size = let sum = ap length total.asked in let parts = length-append s.asked (run ++ begun.done) in omega (arith, count, sum, parts)

    cut_is : script p sk now ≡ run ++ begun.done
    cut_is =
        ap (λ (k : ℕ). take k (whole_script p sk now)) size ∙ ap (λ (l : List Access). take (length (run ++ begun.done)) l) (sym total.split)
        ∙ take_at (run ++ begun.done) (begun.rest ++ dropped) (length (run ++ begun.done)) refl

    asked_cut : t.asked ≡ s.asked ++ script p sk now
    asked_cut = total.asked ∙ ap (λ (l : List Access). s.asked ++ l) (sym cut_is)

    -- ---- why
    used_up : IsUsedUp mid s1 t → RunsOut (world_of state new t)
    used_up used = elim (either_true (nat_le (2 ^ 63) (next_closing mid s1).region) (nat_le (2 ^ 63) (next_closing mid s1).number) used.used_up) [
      | inl region ↦
          let large = least (2 ^ 63) (next_closing mid s1).region region in
          let next_is = on.agrees.next in
          let tied = on.agrees.ready.tied.next in
          let start = ap (λ (x : Start). x.region) halts.start in
          let made = ap (λ (x : StoreState). makes x.asked) used.same in
          inl (omega (arith, large, next_is, tied, start, made))
      | inr number ↦
          let large = least (2 ^ 63) (next_closing mid s1).number number in
          let start = ap (λ (x : Start). x.writes) halts.start in
          let written = ap (λ (x : StoreState). writes x.asked) used.same in
          inr (omega (arith, large, start, written))
    ]

    calm_cut : Untampered (world_of state old s) → Untampered (world_of state new t)
    calm_cut calm = halts.calm (share.ran.cause.1 calm)

    store_cause : Rises s1.faults t.faults ⊎ IsUsedUp mid s1 t → Rises s.faults t.faults ⊎ LacksNumber p sk (world_of state old s) (world_of state new t)
    store_cause (inl rise) = inl (subst (λ (k : ℕ). Rises k t.faults) faults_mid rise)
    store_cause (inr used) = inr (record { saved = saved; faults = ap (λ (x : StoreState). x.faults) used.same ∙ faults_mid; runs_out = used_up used })

    served : (r : RunStop) → SavingCause r mid s1 t k0 k1 → ServedCause p sk (Err r) (world_of state old s) (world_of state new t)
    served StoreFault cause = (store_cause cause.0, calm_cut)
    served NoMemory cause = (cause.1 ∙ faults_mid, calm_cut)
    served KeeperFault cause = (cause.0.faults ∙ faults_mid, calm_cut)
    served other cause = absurd cause

    counted : (r : RunStop) → SavingCause r mid s1 t k0 k1 → CountsKeeper (Err r) k0 k1
    counted StoreFault cause = ap (λ (k : KeeperState). k.faults) cause.1
    counted NoMemory cause = ap (λ (k : KeeperState). k.faults) cause.2
    counted KeeperFault cause = cause.1
    counted other cause = absurd cause

    where_stopped : (r : RunStop) → SavingCause r mid s1 t k0 k1 → StopsWhere p sk (Err r)
    where_stopped StoreFault cause = inr saved
    where_stopped NoMemory cause = tt
    where_stopped KeeperFault cause = saved
    where_stopped other cause = absurd cause

    honest_stop : (r : RunStop) → SavingCause r mid s1 t k0 k1 → IsNotTampered r
    honest_stop SinkFault cause = absurd cause
    honest_stop StashFull cause = absurd cause
    honest_stop (Tampered q x) cause = absurd cause
    honest_stop other cause = refl

    plain_stop : (r : RunStop) → SavingCause r mid s1 t k0 k1 → IsPlain r
    plain_stop SinkFault cause = absurd cause
    plain_stop StashFull cause = absurd cause
    plain_stop (Tampered q x) cause = absurd cause
    plain_stop other cause = tt

    -- ---- rows that were open
    opened_cut : Opens (script p sk now) (high_of old) (high_of last)
    opened_cut = record {
      kept = let kept = share.ran.opened.kept in let high = halts.high in omega (arith, kept, high);
      some = λ any. by_done begun.done refl (subst (λ (l : List Access). IsTrue (list_any is_of_rows l)) cut_is any);
    }
      where
        by_done : (l : List Access) → begun.done ≡ l → IsTrue (list_any is_of_rows (run ++ begun.done)) → 1 ≤ high_of last
        by_done [] is any =
            let same : run ++ begun.done ≡ run = ap (λ (l : List Access). run ++ l) is ∙ append-nil run in
            let one = share.ran.opened.some (subst (λ (l : List Access). IsTrue (list_any is_of_rows l)) same any) in
            let high = halts.high in
            omega (arith, one, high)
        by_done (x ∷ xs) is any =
            let sum = ap length begun.asked in
            let parts = length-append s1.asked begun.done in
            let long = ap length is in
            halts.some (λ same. let short = ap length same in omega (arith, sum, parts, long, short))

    free_cut : IsFree p last.room
    free_cut = let free = halts.room in record { idle = free.idle; rows = free.rows ∙ ap (λ (q : Public). q.buffer) on.public; pack = free.pack ∙ ap (λ (q : Public). q.pack) on.public }

    ran_cut : RanWhole state sk (Err stop) old s new t
    ran_cut = record {
      asked = asked_cut;
      later = since_later s t (later_trans s s1 t share.ran.later halts.later);
      keys = halts.keys ∙ share.ran.keys;
      start = halts.start ∙ share.ran.start;
      from_closing = λ not. absurd (cc (not, saved));
      ends = ap (λ (k : ℕ). Cut k) count;
      asks = λ faulted. absurd faulted;
      cause = served stop halts.cause;
      room = free_cut;
      opened = opened_cut;
      leaves = λ d of. inl (refl, λ goes. absurd (cc goes));
      goes_on = refl;
      settled = tt;
      kept = λ saves_it not q below.
          let next_is = agrees.next in
          let made = ap (λ (r : Public). r.next_region) on.public in
          halts.kept q (λ same. omega (arith, below, made, same)) ∙ share.ran.kept saves_it q (omega (arith, below, next_is));
      stops = where_stopped stop halts.cause;
    }

    -- ---- want of memory
    wants : Began (make_at (next_closing mid s1).region (next_closing mid s1).blocks 1024) s1 t → WantsMemory p stmt now s t Halts
    wants made = by_done made.done made.rest made.split made.asked
      where
        by_done : (done rest : List Access) → done ++ rest ≡ make_at (next_closing mid s1).region (next_closing mid s1).blocks 1024 → t.asked ≡ s1.asked ++ done
            → WantsMemory p stmt now s t Halts
        by_done [] rest split asked = record {
          done = run;
          rest = saving;
          split = ap (λ (l : List Access). l ++ saving) front ∙ sym (whole_saved p sk now saves changed changes);
          asked = asked ∙ append-nil s1.asked ∙ share.ran.asked;
          place = inr (inr (inr (saved, refl)));
        }
        by_done (x ∷ []) rest split asked =
            let alone : x ∷ rest ≡ Make (next_closing mid s1).region (next_closing mid s1).blocks 1056 ∷ [] = split in
            let is : x ≡ Make (next_closing mid s1).region (next_closing mid s1).blocks 1056 = cc alone in
            let writes_then = each (next_closing mid s1).blocks (write_at (next_closing mid s1).region) ++ dropped in
            record {
              done = run ++ x ∷ [];
              rest = writes_then;
              split = append_assoc run (x ∷ []) writes_then ∙ ap (λ (y : Access). run ++ y ∷ writes_then) is ∙ whole_is;
              asked = asked ∙ ap (λ (l : List Access). l ++ x ∷ []) share.ran.asked ∙ append_assoc s.asked run (x ∷ []);
              place = inl (inr (ends-more run (x ∷ []) (subst (λ (y : Access). IsTrue (ends_with_make (y ∷ []))) (sym is) refl)));
            }
        by_done (x ∷ y ∷ done) rest split asked =
            let alone : x ∷ y ∷ (done ++ rest) ≡ Make (next_closing mid s1).region (next_closing mid s1).blocks 1056 ∷ [] = split in absurd (cc alone)

    -- ---- what it means
    abbrev before : World
    before = world_of state old s

    unread_mid : (tables : Tables) → Represents state old s tables → accessed tables stmt ≡ None
    unread_mid tables held = held_plain p old.indexes.items tables before stmt held.held unkeyed

    meant_whole : (tables : Tables) (d : Draws) → Represents state old s tables → seen d p m tables stmt ≡ seen_to Whole
    meant_whole tables d held =
        shows_kind_alone d p m tables stmt (early_held p m stmt tables old.indexes.items before None held.held early) (unread_mid tables held) (changes_plain stmt changes)

    unread_begun : Unread begun.done
    unread_begun = unread_first begun.done begun.rest (subst Unread (sym begun.split) (unread_closing (next_closing mid s1).region (next_closing mid s1).blocks 1024))

    means_cut : Means state stmt owed (Err stop) old s new t
    means_cut = record {
      told = λ tables d of reads. tt;
      room = λ tables d of reads. tt;
      honest = λ tables reads. honest_stop stop halts.cause;
      held = λ tables d of reads. cut_seen (is_refused stop) p sk n _ _ (meant_whole tables d reads.held) count;
      full = λ tables d of reads. none_stops p tables stmt (unread_mid tables reads.held) d m _ stop (plain_stop stop halts.cause);
      begun = begun_then new t begun.done unread_begun begun.asked halts.later halts.calm;
    }

    lawful_cut : Lawful p m stmt now
    lawful_cut = record {
      static = (λ is. absurd (cc is), λ some. let static = share.lawful.static.1 some in absurd (cc (static, whole)));
      holds = tt;
      leaf = leaf_none p stmt None (Cut n) unkeyed refl;
      cut = let long = ap length total.split in let parts = length-append (run ++ begun.done) (begun.rest ++ dropped) in let same = size in omega (arith, long, parts, same);
    }

    as_stop : (r : RunStop) → stop ≡ r → SavingCause r mid s1 t k0 k1
    as_stop r is = subst (λ (x : RunStop). SavingCause x mid s1 t k0 k1) is halts.cause

    pub carried_halted : CarriedOut state stmt owed Halts (Err stop) old s new t k0 k1
    carried_halted = record {
      ran = ran_cut;
      early = refused_none (refusal_now p m stmt) (Err stop) now early (λ is. absurd (cc is));
      lawful = lawful_cut;
      memory = λ is. wants (as_stop NoMemory (cc is)).0;
      full = λ is. absurd (as_stop StashFull (cc is));
      seals = λ good rows one closings.
          seals_join good (world_of state old s) (world_of state mid s1) (world_of state new t) share.ran.later (share.seals good rows one)
          (halts.sealed good (subst (λ (q : Public). AcceptsRows good q.pack) (sym on.public) rows) (closings saves));
      emits = λ is. absurd (as_stop SinkFault (cc is));
      means = means_cut;
      keeper = inr (record {
        saved = saved;
        outcome = outcome;
        engine = mid;
        store = s1;
        ran = share.ran;
        whole = whole;
        means = share.means;
        later = since_later s1 t halts.later;
        public = tt;
        answered = halts.cause;
        held = tt;
        stays = halts.stays;
        kept = halts.kept;
      });
      counts = counted stop halts.cause;
      drawn = halts.drawn;
    }
