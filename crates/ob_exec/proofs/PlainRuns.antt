-- A statement after which no tables are saved: the engine's share is all of it.
use Rattle.ob_exec.proofs.Words.{Access, AfterCount, Agrees, ap, append_assoc, arith, Bool, changes_tables, ChangesFlat, count_of, Create, Cut, Delete, End, Engine, Err, false, if◌then◌else◌, inl, inr, Insert, is_access, is_late, is_saved, Batched, KeeperFault, KeeperState, left_by, length, length-append, List, None, Ok, OnOk, Opens, Option, Outcome, Public, refl, Refusal, refusal_now, RefusedEarly, Result, RevState, run_script, RunStop, script, Seen, SinkFault, Skeleton, skeleton, Some, StashFull, Static, Stmt, StoreState, subst, sym, take, true, until_end, Update, Whole, whole_script, World, world_of, ℕ, ◌&&◌, ◌++◌, ◌+◌, ◌-◌, ◌∙◌, ◌≡◌, ◌≤◌, ◌⊎◌}
use Rattle.std.proofs.lemmas.List.{length-take, take-append-le}
use Rattle.ob_base.specs.Accesses.{makes}
use Rattle.ob_mean.specs.Lawful.{Holds}
use Rattle.ob_mean.specs.Verdict.{ended as seen_to}
use Rattle.ob_script.proofs.SavedParts.{run_is, whole_is}
use Rattle.ob_script.specs.Saved.{run_next, whole_run}
use Rattle.ob_script.specs.Script.{closing_behind, closing_then, save_part}
use Rattle.ob_script.specs.Tables.{tables_then}
use Rattle.ob_script.specs.Trace.{next}
use Rattle.ob_select.specs.Memory.{AtEmission, AtMake, AtResult}
use Rattle.ob_sql.specs.declared.stmt.Stmt.TheVariants.{Drop as DropTable, SelectRows as RowsStmt, SelectTotals as TotalsStmt}
use Rattle.ob_store.proofs.Steps.{since_later}
use Rattle.ob_tables.proofs.LawfulLemmas.{ends_cut}
use Rattle.ob_tables.proofs.TableLemmas.{tables_flat}
use Rattle.ob_tables.specs.Agreeing.{high_of, replaced_of}
use Rattle.ob_tables.specs.Memory.{LacksMemory}
use Rattle.ob_tables.specs.Running.{Continues, RunCause, result_end, stops_access}
use Rattle.ob_tables.specs.declared.stop.RunStop.TheVariants.{NoMemory, StoreFault, Tampered}
use Rattle.ob_exec.proofs.ChangedScripts.{changes_flat, unsaved_whole, whole_saved}
use Rattle.ob_exec.proofs.Shares.{Share}
use Rattle.ob_exec.specs.Ran.{CarriedOut, CountsKeeper, RanWhole, ServedCause, StopsWhere, WantsMemory, WasNotSaved, is_saved_behind}

-- ---- causes and stops of the engine's share
cause_plain : (p : Public) (s : Skeleton) (result : Result Outcome RunStop) (old new : World) → RunCause result old new → ServedCause p s result old new
cause_plain p s (Err StoreFault) old new cause = (inl cause.0, cause.1)
cause_plain p s (Err KeeperFault) old new cause = absurd cause
cause_plain p s other old new cause = cause

counts_plain : (result : Result Outcome RunStop) (old new : World) (keeper : KeeperState) → RunCause result old new → CountsKeeper result keeper keeper
counts_plain (Err KeeperFault) old new keeper cause = absurd cause
counts_plain other old new keeper cause = refl

stops_plain : (p : Public) (s : Skeleton) (result : Result Outcome RunStop) (old new : World) → RunCause result old new → (stops_access result ≡ true → is_access p s ≡ true) → StopsWhere p s result
stops_plain p s (Err StoreFault) old new cause indexed = inl (indexed refl)
stops_plain p s (Err StashFull) old new cause indexed = indexed refl
stops_plain p s (Err KeeperFault) old new cause indexed = absurd cause
stops_plain p s other old new cause indexed = tt

settled_plain : {R : Type 0} (old new : Engine R) (result : Result Outcome RunStop) → replaced_of old ≡ None → replaced_of new ≡ replaced_of old → OnOk result (replaced_of new ≡ None)
settled_plain old new (Ok outcome) settled same = same ∙ settled
settled_plain old new (Err stop) settled same = tt

-- a statement that was stopped was not refused before
pub early_none : (o : Option Refusal) (stop : RunStop) (now : Seen) → RefusedEarly o (Err stop) now → o ≡ None
early_none None stop now early = refl
early_none (Some r) stop now early = absurd (cc early.0)

-- ---- its accesses
-- a first part of some is one of more
take_more : (k : ℕ) (xs more before after : List Access) → after ≡ before ++ take k xs → k ≡ length after - length before → take k xs ≡ take k (xs ++ more)
take_more k xs more before after asked count =
    let sum = ap length asked in
    let parts = length-append before (take k xs) in
    let few = length-take k xs in
    let within : k ≤ length xs = omega (arith, sum, parts, few, count) in
    sym (take-append-le k xs more within)

-- a change of flat tables wants memory at a make alone
at_make : {Halts : Type 0} (p : Public) (stmt : Stmt) (now : Seen) (done rest : List Access) → changes_tables (skeleton stmt) ≡ true → ChangesFlat p (skeleton stmt)
    → AtMake done ⊎ AtResult p stmt now rest ⊎ (AtEmission p stmt now rest × Halts) → AtMake done
at_make p (Create table columns capacity shape) now done rest changes flat (inl make) = make
at_make p (Create table columns capacity shape) now done rest changes flat (inr (inl indexed)) = let shaped = indexed.0 in absurd (cc (shaped, flat))
at_make p (Create table columns capacity shape) now done rest changes flat (inr (inr none)) = absurd none.0
at_make p (Insert table columns values) now done rest changes flat (inl make) = make
at_make p (Insert table columns values) now done rest changes flat (inr (inl none)) = absurd none
at_make p (Insert table columns values) now done rest changes flat (inr (inr none)) = absurd none.0
at_make p (Update table sets search) now done rest changes flat (inl make) = make
at_make p (Update table sets search) now done rest changes flat (inr (inl none)) = absurd none
at_make p (Update table sets search) now done rest changes flat (inr (inr none)) = absurd none.0
at_make p (Delete table search) now done rest changes flat (inl make) = make
at_make p (Delete table search) now done rest changes flat (inr (inl none)) = absurd none
at_make p (Delete table search) now done rest changes flat (inr (inr none)) = absurd none.0
at_make p (DropTable table) now done rest changes flat (inl make) = make
at_make p (DropTable table) now done rest changes flat (inr (inl none)) = absurd none
at_make p (DropTable table) now done rest changes flat (inr (inr none)) = absurd none.0
at_make p (RowsStmt q) now done rest changes flat place = absurd (cc changes)
at_make p (TotalsStmt q) now done rest changes flat place = absurd (cc changes)

-- ---- the engine's share is all of it
module _ {R : Type 0} (state : R → RevState) (stmt : Stmt) (owed : List Stmt) (Halts : Type 0) (result : Result Outcome RunStop) (old : Engine R) (s : StoreState) (new : Engine R) (t : StoreState)
    (agrees : Agrees state old s) (share : Share state stmt owed Halts result old s new t) (unsaved : WasNotSaved old.public (skeleton stmt) result new.seen.end) where
  abbrev p : Public
  p = old.public

  abbrev sk : Skeleton
  sk = skeleton stmt

  abbrev now : Seen
  now = new.seen

  -- the same are asked, and the closing stays
  record Alone : Type 0 where
    script_is : run_script p sk now ≡ script p sk now
    closing_is : closing_then p sk now.end ≡ p.closing

  -- as of a statement that ended so
  ends_at : (end : End) (xs ys : List Access) → now.end ≡ end → until_end end xs ≡ until_end end ys → until_end now.end xs ≡ until_end now.end ys
  ends_at end xs ys is same = ap (λ (e : End). until_end e xs) is ∙ same ∙ sym (ap (λ (e : End). until_end e ys) is)

  not_whole : (r : Result Outcome RunStop) (n : ℕ) {P : Type 0} → WasNotSaved p sk r now.end → now.end ≡ result_end r n → is_saved p sk ≡ true → now.end ≡ Whole → P
  not_whole (Ok outcome) n not ends saved is = let both = ap (λ (e : End). is_saved_behind p sk e) is in absurd (cc (both, not, saved))
  not_whole (Err stop) n not ends saved is = absurd (cc (ends, is))

  module _ (saves : p.save ≡ true) (changes : changes_tables sk ≡ true) (saved : is_saved p sk ≡ true) (flat : ChangesFlat p sk) where
    -- of one that changes tables no rows are counted
    not_counted : {P : Type 0} → now.end ≡ AfterCount → P
    not_counted is =
        let path : now ≡ seen_to AfterCount = (share.shows saves changes).plain ∙ ap seen_to is in
        absurd (subst (λ (x : Seen). Holds p stmt x x.k x.plan x.then) path share.lawful.holds)

    longer : whole_script p sk now ≡ whole_run p sk now ++ save_part p sk (left_by p sk)
    longer = whole_saved p sk now saves flat changes

    changed_by : (end : End) → now.end ≡ end → Alone
    changed_by Static is = record { script_is = ends_at Static (whole_run p sk now) (whole_script p sk now) is refl; closing_is = ap (closing_then p sk) is }
    changed_by Whole is = not_whole result _ unsaved share.ran.ends saved is
    changed_by AfterCount is = not_counted is
    changed_by Batched is = record { script_is = ends_at Batched (whole_run p sk now) (whole_script p sk now) is refl; closing_is = ap (closing_then p sk) is }
    changed_by (Cut k) is =
        let asked : t.asked ≡ s.asked ++ take k (whole_run p sk now) = share.ran.asked ∙ ap (λ (e : End). s.asked ++ until_end e (whole_run p sk now)) is in
        let count = ends_cut result k _ (sym is ∙ share.ran.ends) in
        record {
          script_is = ends_at (Cut k) (whole_run p sk now) (whole_script p sk now) is (take_more k (whole_run p sk now) (save_part p sk (left_by p sk)) s.asked t.asked asked count ∙ ap (take k) (sym longer));
          closing_is = ap (closing_then p sk) is;
        }

  closing_stays : (end : End) → is_saved p sk ≡ false → closing_then p sk end ≡ p.closing
  closing_stays Whole not = ap (λ (b : Bool). if b then Some (closing_behind p sk) else p.closing) not
  closing_stays other not = refl

  none_saved : (b c : Bool) → c ≡ false → (b && c) ≡ false
  none_saved true c is = is
  none_saved false c is = refl

  -- what is saved is kept, and nothing that is kept is an index
  flat_change : p.save ≡ true → changes_tables sk ≡ true → refusal_now p (count_of old s) stmt ≡ None → ChangesFlat p sk
  flat_change saves changes none =
      let kept = agrees.saved saves in changes_flat p (tables_flat (agrees.kept kept) agrees.tables) (is_late (count_of old s)) kept stmt changes none

  alone : Alone
  alone = by_save p.save refl
    where
      by_early : (o : Option Refusal) → refusal_now p (count_of old s) stmt ≡ o → p.save ≡ true → changes_tables sk ≡ true → Alone
      by_early None none saves changes =
          changed_by saves changes ((λ i. changes i && saves i)) (flat_change saves changes none) now.end refl
      by_early (Some r) refused saves changes =
          let refuses : RefusedEarly (Some r) result now = subst (λ (o : Option Refusal). RefusedEarly o result now) refused share.early in
          let is : now.end ≡ Static = ap (λ (x : Seen). x.end) refuses.1 in
          record { script_is = ends_at Static (whole_run p sk now) (whole_script p sk now) is refl; closing_is = ap (closing_then p sk) is }

      by_change : (b : Bool) → changes_tables sk ≡ b → p.save ≡ true → Alone
      by_change true changes saves = by_early (refusal_now p (count_of old s) stmt) refl saves changes
      by_change false none saves = record { script_is = ap (until_end now.end) (unsaved_whole p sk now none); closing_is = closing_stays now.end (ap (λ (b : Bool). b && p.save) none) }

      by_save : (b : Bool) → p.save ≡ b → Alone
      by_save true saves = by_change (changes_tables sk) refl saves
      by_save false not = record { script_is = run_is p sk now not; closing_is = closing_stays now.end (none_saved (changes_tables sk) p.save not) }

  next_alone : run_next p sk now ≡ next p sk now
  next_alone = λ i. record p { tables = tables_then p sk now.end; next_region = p.next_region + makes (alone.script_is i); closing = sym alone.closing_is i }

  ran_alone : replaced_of old ≡ None → RanWhole state sk result old s new t
  ran_alone settled = record {
    asked = share.ran.asked ∙ ap (λ (l : List Access). s.asked ++ l) alone.script_is;
    later = since_later s t share.ran.later;
    keys = share.ran.keys;
    start = share.ran.start;
    from_closing = λ not. share.ran.from_closing;
    ends = share.ran.ends;
    asks = share.ran.asks;
    cause = cause_plain p sk result (world_of state old s) (world_of state new t) share.ran.cause;
    room = share.ran.room;
    opened = subst (λ (l : List Access). Opens l (high_of old) (high_of new)) alone.script_is share.ran.opened;
    leaves = share.ran.leaves;
    goes_on = subst (λ (q : Public). Continues state sk q result old new t) next_alone share.ran.goes_on;
    settled = settled_plain old new result settled share.ran.replaced;
    kept = λ saves not q below. let next_is = agrees.next in share.ran.kept saves q (omega (arith, below, next_is));
    stops = stops_plain p sk result (world_of state old s) (world_of state new t) share.ran.cause share.ran.indexed;
  }

  -- ---- want of memory
  module _ (lacks : LacksMemory p stmt now s t Halts) where
    wants_same : whole_run p sk now ≡ whole_script p sk now → WantsMemory p stmt now s t Halts
    wants_same same = record {
      done = lacks.done;
      rest = lacks.rest;
      split = lacks.split ∙ same;
      asked = lacks.asked;
      place = elim lacks.place [ inl make ↦ inl make | inr (inl result) ↦ inr (inl result) | inr (inr emits) ↦ inr (inr (inl emits)) ];
    }

    wants_more : p.save ≡ true → changes_tables sk ≡ true → ChangesFlat p sk → AtMake lacks.done → WantsMemory p stmt now s t Halts
    wants_more saves changes flat make = record {
      done = lacks.done;
      rest = lacks.rest ++ save_part p sk (left_by p sk);
      split = sym (append_assoc lacks.done lacks.rest (save_part p sk (left_by p sk))) ∙ ap (λ (l : List Access). l ++ save_part p sk (left_by p sk)) lacks.split ∙ sym (whole_saved p sk now saves flat changes);
      asked = lacks.asked;
      place = inl make;
    }

    wants_then : refusal_now p (count_of old s) stmt ≡ None → WantsMemory p stmt now s t Halts
    wants_then none = by_save p.save refl
      where
        by_change : (b : Bool) → changes_tables sk ≡ b → p.save ≡ true → WantsMemory p stmt now s t Halts
        by_change true changes saves =
            let flat = flat_change saves changes none in wants_more saves changes flat (at_make p stmt now lacks.done lacks.rest changes flat lacks.place)
        by_change false not saves = wants_same (unsaved_whole p sk now not)

        by_save : (b : Bool) → p.save ≡ b → WantsMemory p stmt now s t Halts
        by_save true saves = by_change (changes_tables sk) refl saves
        by_save false not = wants_same (whole_is p sk now not)

  wants : result ≡ Err NoMemory → WantsMemory p stmt now s t Halts
  wants is =
      wants_then (share.memory is) (early_none _ NoMemory now (subst (λ (r : Result Outcome RunStop). RefusedEarly (refusal_now p (count_of old s) stmt) r now) is share.early))

  pub carried_plain : (keeper : KeeperState) → replaced_of old ≡ None → CarriedOut state stmt owed Halts result old s new t keeper keeper
  carried_plain keeper settled = record {
    ran = ran_alone settled;
    early = share.early;
    lawful = share.lawful;
    memory = wants;
    full = share.full;
    emits = share.emits;
    seals = λ good rows one closings. share.seals good rows one;
    means = share.means;
    keeper = inl (refl, unsaved);
    counts = counts_plain result (world_of state old s) (world_of state new t) keeper share.ran.cause;
    drawn = refl;
  }
