-- Each step of a SELECT of rows in flight that emits nothing.
use Rattle.std.proofs.Common.{◌≡◌, ◌⊎◌, inl, inr, ◌<◌, ◌≤◌, ◌+◌, ◌-◌, ◌*◌, ◌^◌, ◌∷◌, ◌++◌, ℕ, zero, suc, Bool, true, false, List, [], refl, sym, ◌∙◌, ap, subst, arith}
use Rattle.std.specs.Prelude.{Option, Some, None, Result, Ok, Err, if◌then◌else◌, length, min, nat_lt, take, drop}
use Rattle.std.proofs.lemmas.Grind.{div_ceil_times}
use Rattle.std.proofs.lemmas.List.{append-nil}
use Rattle.ob_base.specs.declared.access.Access.{Access}
use Rattle.ob_base.specs.declared.access.Access.TheVariants as Accesses
use Rattle.ob_base.specs.declared.config.Plan.TheVariants.{Small}
use Rattle.ob_base.specs.declared.seen.Seen.{Seen}
use Rattle.ob_base.specs.Events.{Event}
use Rattle.ob_base.specs.Schemas.{width}
use Rattle.ob_flat.specs.declared.fault.OpErr.{OpErr}
use Rattle.ob_flat.specs.declared.fault.OpErr.TheVariants.{Failed, Sink, NoMemory}
use Rattle.ob_flat.specs.Creates.{MakesTable}
use Rattle.ob_flat.specs.Discards.{Discards}
use Rattle.ob_flat.specs.Flats.{Represents}
use Rattle.ob_flat.specs.Passes.{PassCut}
use Rattle.ob_flat.proofs.Runs.{pass_after, pass_wider}
use Rattle.ob_inflight.specs.Answers.{IsHeld}
use Rattle.ob_inflight.specs.Leaving.{own_or_next}
use Rattle.ob_inflight.specs.Progress.{KeepsRegion, SealsBlocks, Steps, WentOrFailed, act_of}
use Rattle.ob_row.specs.Slots.{Slots}
use Rattle.ob_row.specs.Spelling.{Begins}
use Rattle.ob_row.specs.Truth.{is_true}
use Rattle.ob_script.specs.Trace.{Served}
use Rattle.ob_small.specs.Selection as Smalls
use Rattle.ob_small.proofs.Lengths.{product_within}
use Rattle.ob_small.specs.Steps.{CollectsBlock, WritesBlock}
use Rattle.ob_store.specs.Calls.{ChangesNothing}
use Rattle.ob_store.specs.State.{StoreState}
use Rattle.ob_vault.specs.declared.region.Order.TheVariants.{Any}
use Rattle.ob_vault.specs.Calls.{Seals, Went, none, one}
use Rattle.ob_vault.specs.Rows.{row_at}
use Rattle.ob_vault.specs.State.{VaultState, World}
use Rattle.ob_vault.specs.Words.{IsHonest}
use Rattle.ob_vault.proofs.Runs.{seals_join, went_join, went_wider}
use Rattle.ob_vault.proofs.WordLemmas.{seals_rests, went_rests}
use Rattle.ob_stages.specs.declared.rows.Stage.{Stage}
use Rattle.ob_stages.specs.declared.rows.Stage.TheVariants.{Count, Make, Read, Write, Emit, Discard, Over}
use Rattle.ob_stages.specs.Going.{GoesOn}
use Rattle.ob_stages.specs.RowsActs.{act_count, act_discard, act_make, act_read, act_write}
use Rattle.ob_stages.specs.RowsStates.{RowsAt, HasCounted, HasRegion, IsCounting, IsPlaced, MaySee, MayServe, MayTake, PlacedAt, after_read, after_write, emits_before, is_over, is_printing, kept_blocks, known, known_by, part_blocks, progress_of, reads_before, result_in, rows_skeleton, small, table_blocks, taken, taken_by, whole_length, writes_before}
use Rattle.ob_stages.specs.RowsHolds.{FitsShare, HasBegun, Holds, LacksAt, NeedsAt}
use Rattle.ob_stages.specs.RowsLaws.{goes_whole, holds_frames, own_below}
use Rattle.ob_stages.specs.RowsSteps.{Clears, ForgetsOwn, IsHeldIn, QuietStep, StepsAt, counted_to, counted_whole, gone_to, gone_wrong}
use Rattle.ob_stages.proofs.RowsEnds.{asked_cut, halts_quiet, holds_discarded, holds_failed, next_made, refused_counted}
use Rattle.ob_stages.proofs.RowsGoing.{HasFailed, HasStopped, IsBehind, IsNext, asked_few, behind_at, behind_going, failed_at, forgot, is_behind, may_behind, may_counting, own_all, see_of, steps_failed, steps_kept, stepped, stops_step, whole_most}
use Rattle.ob_stages.proofs.RowsPlaces.{booked_at, booked_counting, booked_some, counting, counting_some}
use Rattle.ob_stages.proofs.RowsStands.{holds_counted, holds_made, holds_read, holds_written}
use Rattle.ob_stages.proofs.RowsWay.{KnowsWay, shape_of, way_of}

-- ---- what they share
-- one whose region was made before
pub made_before : (g : RowsAt) (kept : List (List ℕ)) (events : List Event) (old new : World) → Holds g kept events old → is_over g.stage ≡ false → (r : ℕ) → g.region ≡ Some r → r ≡ old.vault.next → r < new.vault.next
made_before g kept events old new is going r mine next =
    absurd (not_there r old.vault.next (own_below g kept events old is.ready r g.stage is.placed.at is.at (own_all g.stage g.region going ∙ mine)) next)
  where
    not_there : (a b : ℕ) → a < b → a ≡ b → ⊥
    not_there a b less same = omega (arith, less, same)

-- the store failed it
module _ (g : RowsAt) (region : Option ℕ) (others : ℕ) (access : Access) (old mid new : World) (failed : HasFailed g region others access old mid new)
    (made : (r : ℕ) → region ≡ Some r → r ≡ old.vault.next → r < new.vault.next) where
  pub quiet_failed : {T : Type 0} (v : T) (kept after : List (List ℕ)) → QuietStep g (failed_at g region others access old mid new) others kept after (Ok v) old new
  quiet_failed v kept after = record {
    steps = steps_failed g region others access old mid new failed;
    stops = tt;
    holds = λ events held.
        subst (λ (l : List Event). Holds (failed_at g region others access old mid new) after l new) (append-nil events)
        (holds_failed g region others access old mid new kept after events [] failed held
        (subst (HasBegun g.q) (sym (append-nil events)) (shape_of g kept events old g.stage failed.going held.at))
        (λ slots is honest nolie. subst (λ (l : List Event). KnowsWay g l slots) (sym (append-nil events)) (way_of g kept events old held failed.going slots is honest))
        made);
    halts = tt;
  }

-- it gave up
module _ (g h : RowsAt) (access : Access) (e : OpErr) (old new : World) (stopped : HasStopped g h access e old new) (some : ℕ → Type 0) (within : (r : ℕ) → some r → own_or_next g.region old.vault.next r)
    (cut : PassCut e (access ∷ []) some old new) (going : is_over g.stage ≡ false)
    (honest : (slots : Slots) → Represents g.q.public.pack g.q.flat slots old → IsHonest old new → (e ≡ Sink) ⊎ (e ≡ NoMemory))
    (counted : (e ≡ Sink) ⊎ (e ≡ NoMemory) → table_blocks g.q ≤ g.asked) (memory : e ≡ NoMemory → LacksAt g old new) where
  pub quiet_stopped : {T : Type 0} (others : ℕ) (kept after : List (List ℕ)) → QuietStep {T = T} g h others kept after (Err e) old new
  quiet_stopped others kept after = record {
    steps = tt;
    stops = stops_step g h access e old new some stopped within cut;
    holds = tt;
    halts = λ events held. halts_quiet g kept events e old new held going honest counted memory;
  }

-- what may be served after a step of one that has counted might be before it
pub may_before : (g : RowsAt) → is_behind g.stage ≡ true → IsPlaced g → (done : ℕ) → HasCounted g done → (next : Stage) → ((u : ℕ) → next ≡ Count u → ⊥) → (region : Option ℕ) (n b : ℕ)
    → (x : Served) → MayServe (stepped g next region g.k n b g.seen) x → MayServe g x
may_before g behind is done at next off region n b x may = record {
  placed = is;
  same = may.same;
  second = may.second;
  may = see_of g g.stage behind x.seen (may_behind g done at next region n b x.seen g.seen off (refl, refl, refl) (goes_whole g g.asked g.seen g.q.public.pad g.k at.seen) may.may);
}

-- ---- after the make
module _ (g : RowsAt) (stage : Stage) (same : g.stage ≡ stage) (behind : is_behind stage ≡ true) (all : known stage g.q.public.pad (table_blocks g.q) (whole_length g.q g.k) ≡ whole_length g.q g.k)
    (is : IsPlaced g) (at : PlacedAt stage g) (others : ℕ) (access : Access) (old : World) (spare : others + g.booked ≤ old.store.spare)
    (next : (x : Served) → MayServe g x → act_of (progress_of g) x old.vault.next ≡ Some access) (stays : KeepsRegion access old.vault.next g.region g.region) where
  how : IsBehind g
  how = behind_at g is stage behind at

  pub behind_open : is_over g.stage ≡ false
  behind_open = ap is_over same ∙ behind_going stage behind

  behind_some : 1 ≤ g.booked
  behind_some = booked_some g stage same behind all is at

  pub behind_next : (to : Stage) → ((u : ℕ) → to ≡ Count u → ⊥) → (n : ℕ) (new : World) → IsNext g to g.k n (g.booked - 1) g.seen others access old new
  behind_next to off n new = record {
    placed = is;
    going = behind_open;
    next = next;
    may = may_before g (ap is_behind same ∙ behind) is how.done how.counted to off g.region n (g.booked - 1);
    kept = stays;
    booked = inl (omega (arith, behind_some));
    some = behind_some;
    spare = spare;
    few = omega (arith, booked_at g is stage same, all, whole_most g.q (rows_skeleton g.select) is.flown g.k how.counted.most);
  }

  module _ (some : ℕ → Type 0) (within : (r : ℕ) → some r → own_or_next g.region old.vault.next r) where
    pub behind_failed : (mid new : World) → PassCut Failed (access ∷ []) some old mid → ForgetsOwn g.region mid new → new.store ≡ mid.store → old.store.spare ≤ mid.store.spare + 1 → SealsBlocks g.q.public.pack old mid
        → HasFailed g g.region others access old mid new
    behind_failed mid new cut forgets store left seals = record {
      placed = is;
      going = behind_open;
      next = next;
      cut = pass_wider some old mid (own_or_next g.region old.vault.next) within Failed (access ∷ []) cut;
      forgets = forgets;
      store = store;
      spare = omega (arith, spare, behind_some, left);
      made = stays;
      own = λ r mine. inl mine;
      seals = seals;
    }

  pub behind_stopped : (e : OpErr) (new : World) → (e ≡ Failed → ⊥) → (e ≡ Sink → is_printing g.stage ≡ true) → SealsBlocks g.q.public.pack old new → HasStopped g g access e old new
  behind_stopped e new never emits seals = record { same = refl; next = next; never = never; emits = emits; seals = seals }

-- no region but its own is changed
pub in_own : (g : RowsAt) (own next r : ℕ) → g.region ≡ Some own → one own r → own_or_next g.region next r
in_own g own next r region same = inl (region ∙ ap (λ (n : ℕ). Some n) (sym same))

-- ---- a block is counted
module _ (g : RowsAt) (u others : ℕ) (old : World) (steps : StepsAt g (Count u) others old) (is : IsHeldIn g old) where
  count_placed : IsPlaced g
  count_placed = is.holds.placed

  count_at : IsCounting g u
  count_at = counting g count_placed u steps.at

  count_open : is_over g.stage ≡ false
  count_open = ap is_over steps.at

  count_act : (x : Served) → MayServe g x → act_of (progress_of g) x old.vault.next ≡ Some (Accesses.Read g.q.flat.region u)
  count_act x may = act_count g count_placed.flown x may.same old.vault.next u count_at (subst (λ (s : Stage). MaySee s g x.seen) steps.at may.may)

  goes_counting : GoesOn g.asked g.seen.end
  goes_counting = subst (λ (s : Seen). GoesOn g.asked s.end) (sym count_at.seen) tt

  -- what it has booked is no more than is left
  counted_most : g.k ≤ g.q.flat.capacity
  counted_most =
      let close = (div_ceil_times g.q.flat.capacity g.q.public.pack count_placed.flown.settings.pack_least).1 in
      let inside = product_within (u + 1) (table_blocks g.q) g.q.public.pack (omega (arith, count_at.below)) in
      let more : (u + 1) * g.q.public.pack ≡ u * g.q.public.pack + g.q.public.pack = grind arith in
      omega (arith, count_at.few, close, inside, more)

  booked_few : g.booked ≤ 2 ^ 59
  booked_few =
      omega (
        arith,
        booked_counting g count_placed u steps.at,
        known_most g.q.public.pad (table_blocks g.q) (whole_length g.q g.k) (omega arith),
        whole_most g.q (rows_skeleton g.select) count_placed.flown g.k (taken_most g.q.public.pad g.k counted_most),
      )
    where
      known_most : (pad : Option ℕ) (c all : ℕ) → c ≤ all → known_by pad c all ≤ all
      known_most None c all less = less
      known_most (Some pad) c all less = omega arith

      taken_most : (pad : Option ℕ) (k : ℕ) → k ≤ g.q.flat.capacity → taken_by pad g.q.flat.capacity k ≤ g.q.flat.capacity
      taken_most None k most = most
      taken_most (Some pad) k most = omega arith

  count_is_next : (stage : Stage) (k : ℕ) (seen : Seen) (new : World) → GoesOn g.asked seen.end → IsNext g stage k g.shown (g.booked - 1) seen others (Accesses.Read g.q.flat.region u) old new
  count_is_next stage k seen new goes = record {
    placed = count_placed;
    going = count_open;
    next = count_act;
    may = λ x may. record {
      placed = count_placed;
      same = may.same;
      second = may.second;
      may = subst (λ (s : Stage). MaySee s g x.seen) (sym steps.at) (may_counting g u stage g.region k g.shown (g.booked - 1) x.seen seen goes may.may);
    };
    kept = record { now = refl; makes = tt };
    booked = inl (omega (arith, counting_some g count_placed u steps.at));
    some = counting_some g count_placed u steps.at;
    spare = steps.spare;
    few = omega (arith, booked_few);
  }

  module _ (n : ℕ) (new : World) (block : CollectsBlock g.q.public.pack g.q.flat (is_true g.q.condition) u g.k 0 0 [] [] (Ok n) old new) where
    count_went : (stage : Stage) (k : ℕ) (seen : Seen) → GoesOn g.asked seen.end
        → Steps others (progress_of g) (progress_of (stepped g stage g.region k g.shown (g.booked - 1) seen)) (MayServe g) (MayServe (stepped g stage g.region k g.shown (g.booked - 1) seen))
        (NeedsAt g) (NeedsAt (stepped g stage g.region k g.shown (g.booked - 1) seen)) old new
    count_went stage k seen goes =
        steps_kept g stage k g.shown (g.booked - 1) seen others (Accesses.Read g.q.flat.region u) old new none (count_is_next stage k seen new goes) (λ r mine. absurd mine) block.ran.ok (λ good fine. block.seals.seals good)

    abbrev Counts : RowsAt → Type 0
    Counts h = Steps others (progress_of g) (progress_of h) (MayServe g) (MayServe h) (NeedsAt g) (NeedsAt h) old new

    count_ends : (pad : Option ℕ) (c : ℕ) → Counts (counted_whole pad c (record g { k = c }))
    count_ends None zero = count_went Over 0 (record g.seen { k = Some 0 }) goes_counting
    count_ends None (suc c) = count_went Make (suc c) (record g.seen { k = Some (suc c); plan = Some Small }) goes_counting
    count_ends (Some pad) c = count_went Make c g.seen goes_counting

    count_steps : (b : Bool) → Counts (if b then gone_to (Count (u + 1)) (record g { k = n }) else counted_whole g.q.public.pad (min n g.q.flat.capacity) (record g { k = min n g.q.flat.capacity }))
    count_steps true = count_went (Count (u + 1)) n g.seen goes_counting
    count_steps false = count_ends g.q.public.pad (min n g.q.flat.capacity)

    pub quiet_counted : {T : Type 0} (v : T) (kept : List (List ℕ)) → QuietStep g (counted_to u n g) others kept kept (Ok v) old new
    quiet_counted v kept = record {
      steps = count_steps (nat_lt (u + 1) (table_blocks g.q));
      stops = tt;
      holds = λ events held. holds_counted g kept events u n old new steps.at held block;
      halts = tt;
    }

  pub quiet_count_failed : {T : Type 0} (v : T) (kept : List (List ℕ)) (mid new : World) → CollectsBlock g.q.public.pack g.q.flat (is_true g.q.condition) u g.k 0 0 [] [] (Err Failed) old mid
      → old.store.spare ≤ mid.store.spare + 1 → ForgetsOwn g.region mid new → new.store ≡ mid.store → QuietStep g (gone_wrong g) others kept kept (Ok v) old new
  quiet_count_failed v kept mid new block left forgets store =
      quiet_failed g g.region others (Accesses.Read g.q.flat.region u) old mid new (record {
        placed = count_placed;
        going = count_open;
        next = count_act;
        cut = pass_wider none old mid (own_or_next g.region old.vault.next) (λ r mine. absurd mine) Failed (Accesses.Read g.q.flat.region u ∷ []) block.ran.err;
        forgets = forgets;
        store = store;
        spare = omega (arith, steps.spare, counting_some g count_placed u steps.at, left);
        made = record { now = refl; makes = tt };
        own = λ r mine. inl mine;
        seals = λ good fine. block.seals.seals good;
      }) (made_before g is.kept is.events old new is.holds count_open) v kept kept

  pub quiet_count_stopped : {T : Type 0} (kept : List (List ℕ)) (e : OpErr) (new : World) → (e ≡ Failed → ⊥) → CollectsBlock g.q.public.pack g.q.flat (is_true g.q.condition) u g.k 0 0 [] [] (Err e) old new
      → QuietStep {T = T} g g others kept kept (Err e) old new
  quiet_count_stopped kept e new never block =
      quiet_stopped g g (Accesses.Read g.q.flat.region u) e old new (record {
        same = refl;
        next = count_act;
        never = never;
        emits = λ sink. refused_counted e block.never (inl sink);
        seals = λ good fine. block.seals.seals good;
      }) none (λ r mine. absurd mine) block.ran.err count_open (λ slots held honest. absurd (never (block.told slots held honest.nolie))) (λ either. refused_counted e block.never either)
      (λ memory. refused_counted e block.never (inr memory)) others kept kept

-- ---- a block is read in a pass
module _ (g : RowsAt) (pass u seen others : ℕ) (kept : List (List ℕ)) (old : World) (steps : StepsAt g (Read pass u seen) others old) (is : IsHeld (Holds g kept) old) where
  read_placed : IsPlaced g
  read_placed = is.holds.placed

  read_there : HasRegion g (reads_before g.q pass u) × (pass < Smalls.passes (small g.q g.k)) × (u < table_blocks g.q)
  read_there = subst (λ (s : Stage). PlacedAt s g) steps.at read_placed.at

  read_act : (x : Served) → MayServe g x → act_of (progress_of g) x old.vault.next ≡ Some (Accesses.Read g.q.flat.region u)
  read_act x may =
      let takes : MayTake g x.seen = subst (λ (s : Stage). MaySee s g x.seen) steps.at may.may in
      act_read g read_placed.flown x may.same old.vault.next takes.0 takes.1 (reads_before g.q pass u) read_there.0.own read_there.0.counted read_there.0.region pass u refl read_there.1 read_there.2

  pub quiet_read : {T : Type 0} (v : T) (n : ℕ) (after : List (List ℕ)) (new : World)
      → CollectsBlock g.q.public.pack g.q.flat (is_true g.q.condition) u seen ((pass * kept_blocks g.q) * g.q.public.pack) (taken g.q g.k) kept after (Ok n) old new
      → QuietStep g (gone_to (after_read g pass u n) g) others kept after (Ok v) old new
  quiet_read v n after new block = record {
    steps = steps_kept g (after_read g pass u n) g.k g.shown (g.booked - 1) g.seen others (Accesses.Read g.q.flat.region u) old new none
        (behind_next g (Read pass u seen) steps.at refl refl read_placed read_there others (Accesses.Read g.q.flat.region u) old steps.spare read_act (record { now = refl; makes = tt })
        (after_read g pass u n) (uncounted (nat_lt (u + 1) (table_blocks g.q))) g.shown new) (λ r mine. absurd mine) block.ran.ok (λ good fine. block.seals.seals good);
    stops = tt;
    holds = λ events held. holds_read g kept after events pass u seen n old new steps.at held block;
    halts = tt;
  }
    where
      uncounted : (b : Bool) (w : ℕ) → (if b then Read pass (u + 1) n else Write pass 0) ≡ Count w → ⊥
      uncounted true w here = cc here
      uncounted false w here = cc here

  pub quiet_read_failed : {T : Type 0} (v : T) (after : List (List ℕ)) (mid new : World)
      → CollectsBlock g.q.public.pack g.q.flat (is_true g.q.condition) u seen ((pass * kept_blocks g.q) * g.q.public.pack) (taken g.q g.k) kept after (Err Failed) old mid
      → old.store.spare ≤ mid.store.spare + 1 → ForgetsOwn g.region mid new → new.store ≡ mid.store → QuietStep g (gone_wrong g) others kept after (Ok v) old new
  quiet_read_failed v after mid new block left forgets store =
      quiet_failed g g.region others (Accesses.Read g.q.flat.region u) old mid new
      (behind_failed g (Read pass u seen) steps.at refl refl read_placed read_there others (Accesses.Read g.q.flat.region u) old steps.spare read_act (record { now = refl; makes = tt }) none (λ r mine. absurd mine)
      mid new block.ran.err forgets store left (λ good fine. block.seals.seals good))
      (made_before g kept is.events old new is.holds (ap is_over steps.at)) v kept after

  pub quiet_read_stopped : {T : Type 0} (e : OpErr) (after : List (List ℕ)) (new : World) → (e ≡ Failed → ⊥)
      → CollectsBlock g.q.public.pack g.q.flat (is_true g.q.condition) u seen ((pass * kept_blocks g.q) * g.q.public.pack) (taken g.q g.k) kept after (Err e) old new
      → QuietStep {T = T} g g others kept after (Err e) old new
  quiet_read_stopped e after new never block =
      quiet_stopped g g (Accesses.Read g.q.flat.region u) e old new
      (record { same = refl; next = read_act; never = never; emits = λ sink. refused_counted e block.never (inl sink); seals = λ good fine. block.seals.seals good })
      none (λ r mine. absurd mine) block.ran.err (ap is_over steps.at) (λ slots held honest. absurd (never (block.told slots held honest.nolie))) (λ either. refused_counted e block.never either)
      (λ memory. refused_counted e block.never (inr memory)) others kept after

-- ---- a block is written
module _ (g : RowsAt) (pass x own others : ℕ) (kept : List (List ℕ)) (old : World) (steps : StepsAt g (Write pass x) others old) (is : IsHeld (Holds g kept) old) (region : g.region ≡ Some own) where
  write_placed : IsPlaced g
  write_placed = is.holds.placed

  write_there : HasRegion g (writes_before g.q pass x) × (pass < Smalls.passes (small g.q g.k)) × (x < part_blocks g.q g.k pass)
  write_there = subst (λ (s : Stage). PlacedAt s g) steps.at write_placed.at

  write_act : (y : Served) → MayServe g y → act_of (progress_of g) y old.vault.next ≡ Some (Accesses.Write own (pass * kept_blocks g.q + x))
  write_act y may =
      let takes : MayTake g y.seen = subst (λ (s : Stage). MaySee s g y.seen) steps.at may.may in
      act_write g write_placed.flown y may.same old.vault.next takes.0 takes.1 (writes_before g.q pass x) own write_there.0.counted region pass x refl write_there.1 write_there.2

  pub quiet_write : {T : Type 0} (v : T) (after : List (List ℕ)) (new : World) → FitsShare g.q kept → length after ≡ length kept → Clears (after_write g pass x) kept after
      → WritesBlock {T = Unit {0}} g.q.public.pack (result_in g.q g.k own) (pass * kept_blocks g.q + x) (take g.q.public.pack (drop (x * g.q.public.pack) kept)) (Ok tt) old new
      → QuietStep g (gone_to (after_write g pass x) g) others kept after (Ok v) old new
  quiet_write v after new fits long clears block = record {
    steps = steps_kept g (after_write g pass x) g.k g.shown (g.booked - 1) g.seen others (Accesses.Write own (pass * kept_blocks g.q + x)) old new (one own)
        (behind_next g (Write pass x) steps.at refl refl write_placed write_there others (Accesses.Write own (pass * kept_blocks g.q + x)) old steps.spare write_act (record { now = refl; makes = tt })
        (after_write g pass x) (uncounted (nat_lt (x + 1) (part_blocks g.q g.k pass)) (nat_lt (pass + 1) (Smalls.passes (small g.q g.k)))) g.shown new)
        (λ r mine. in_own g own old.vault.next r region mine) block.ran.ok (λ good fine. block.seals.seals good (fine g.q.flat.schema own));
    stops = tt;
    holds = λ events held. holds_written g kept after events pass x own old new steps.at region held fits.space block fits.wide long clears;
    halts = tt;
  }
    where
      uncounted : (b c : Bool) (w : ℕ) → (if b then Write pass (x + 1) else (if c then Read (pass + 1) 0 0 else Emit 0)) ≡ Count w → ⊥
      uncounted true c w here = cc here
      uncounted false true w here = cc here
      uncounted false false w here = cc here

  pub quiet_write_failed : {T : Type 0} (v : T) (after : List (List ℕ)) (mid new : World)
      → WritesBlock {T = Unit {0}} g.q.public.pack (result_in g.q g.k own) (pass * kept_blocks g.q + x) (take g.q.public.pack (drop (x * g.q.public.pack) kept)) (Err Failed) old mid
      → old.store.spare ≤ mid.store.spare + 1 → ForgetsOwn g.region mid new → new.store ≡ mid.store → QuietStep g (gone_wrong g) others kept after (Ok v) old new
  quiet_write_failed v after mid new block left forgets store =
      quiet_failed g g.region others (Accesses.Write own (pass * kept_blocks g.q + x)) old mid new
      (behind_failed g (Write pass x) steps.at refl refl write_placed write_there others (Accesses.Write own (pass * kept_blocks g.q + x)) old steps.spare write_act (record { now = refl; makes = tt }) (one own)
      (λ r mine. in_own g own old.vault.next r region mine) mid new block.ran.err forgets store left (λ good fine. block.seals.seals good (fine g.q.flat.schema own)))
      (made_before g kept is.events old new is.holds (ap is_over steps.at)) v kept after

-- ---- its result is discarded
module _ (g : RowsAt) (own others : ℕ) (old : World) (steps : StepsAt g Discard others old) (is : IsHeldIn g old) (region : g.region ≡ Some own) where
  discard_placed : IsPlaced g
  discard_placed = is.holds.placed

  discard_there : HasRegion g (emits_before g.q g.k (Smalls.results (small g.q g.k)))
  discard_there = subst (λ (s : Stage). PlacedAt s g) steps.at discard_placed.at

  discard_act : (y : Served) → MayServe g y → act_of (progress_of g) y old.vault.next ≡ Some (Accesses.Discard own)
  discard_act y may =
      let takes : MayTake g y.seen = subst (λ (s : Stage). MaySee s g y.seen) steps.at may.may in
      act_discard g discard_placed.flown y may.same old.vault.next takes.0 takes.1 (emits_before g.q g.k (Smalls.results (small g.q g.k))) own discard_there.counted region refl

  pub quiet_discard : {T P : Type 0} {result : Result P OpErr} (v : T) (kept : List (List ℕ)) (new : World) → Discards own result old new → QuietStep g (gone_to Over g) others kept kept (Ok v) old new
  quiet_discard v kept new block = record {
    steps = steps_kept g Over g.k g.shown (g.booked - 1) g.seen others (Accesses.Discard own) old new (one own)
        (behind_next g Discard steps.at refl refl discard_placed discard_there others (Accesses.Discard own) old steps.spare discard_act (record { now = refl; makes = tt })
        Over (λ w here. cc here) g.shown new) (λ r mine. in_own g own old.vault.next r region mine) block.went (λ good fine. block.seals.seals good);
    stops = tt;
    holds = λ events held. holds_discarded g kept events old steps.at held own new region block.went.lasts block.gone;
    halts = tt;
  }

-- ---- its result is made, after room that was taken
module _ (g : RowsAt) (others : ℕ) (kept : List (List ℕ)) (v : VaultState) (s t : StoreState) (steps : StepsAt g Make others (record { vault = v; store = s })) (is : IsHeld (Holds g kept) (record { vault = v; store = s }))
    (rests : ChangesNothing s t) where
  abbrev start : World
  start = record { vault = v; store = s }

  abbrev roomy : World
  roomy = record { vault = v; store = t }

  abbrev made_by : Access
  made_by = Accesses.Make v.next (Smalls.results (small g.q g.k)) (g.q.public.pack * width g.q.flat.schema + 32)

  make_placed : IsPlaced g
  make_placed = is.holds.placed

  make_open : is_over g.stage ≡ false
  make_open = ap is_over steps.at

  make_there : HasCounted g (table_blocks g.q) × (g.region ≡ None)
  make_there = subst (λ (st : Stage). PlacedAt st g) steps.at make_placed.at

  make_act : (y : Served) → MayServe g y → act_of (progress_of g) y v.next ≡ Some made_by
  make_act y may =
      let takes : MayTake g y.seen = subst (λ (st : Stage). MaySee st g y.seen) steps.at may.may in
      act_make g make_placed.flown y may.same v.next takes.0 takes.1 make_there.0 make_there.1

  make_whole : whole_length g.q g.k ≤ 2 ^ 50
  make_whole = whole_most g.q (rows_skeleton g.select) make_placed.flown g.k make_there.0.most

  make_rested : (some : ℕ → Type 0) → Went [] some start roomy
  make_rested some = went_rests v s t rests some steps.ready

  make_within : (r : ℕ) → one v.next r → own_or_next g.region v.next r
  make_within r same = inr same

  make_held : (events : List Event) → Holds g kept events start → Holds g kept events roomy
  make_held events held = holds_frames g kept events start roomy none (make_rested none).lasts (λ here. here) (λ own mine here. here) held

  make_seals : (new : World) → ((good : ℕ → List ℕ → Bool) → Seals good roomy new) → SealsBlocks g.q.public.pack start new
  make_seals new seals = λ good fine. seals_join good start roomy new (make_rested none).lasts.later (seals_rests v s t rests good) (seals good)

  -- there was no room
  pub quiet_no_room : {T : Type 0} → g.q.public.pad ≡ None → QuietStep {T = T} g g others kept kept (Err NoMemory) start roomy
  quiet_no_room unpadded =
      quiet_stopped g g made_by NoMemory start roomy (record {
        same = refl;
        next = make_act;
        never = λ failed. cc failed;
        emits = λ sink. absurd (cc sink);
        seals = λ good fine. seals_rests v s t rests good;
      }) none (λ r mine. absurd mine) (record {
        lasts = (make_rested none).lasts;
        began = record { done = []; rest = made_by ∷ []; split = refl; asked = (make_rested none).did.asked };
        asks = λ of. absurd (cc of);
        cause = (rests.faults, (make_rested none).calm);
      }) make_open (λ slots held honest. inr refl) (λ either. omega (arith, make_there.0.asked)) (λ memory. record { place = inl (steps.at, unpadded, rests.asked) }) others kept kept

  -- or the store has none for a region
  pub quiet_make_stopped : {T : Type 0} (e : OpErr) (new : World) → (e ≡ Failed → ⊥) → MakesTable Any g.q.public.pack (result_in g.q g.k v.next) (Err e) roomy new → QuietStep {T = T} g g others kept kept (Err e) start new
  quiet_make_stopped e new never makes =
      let memory : e ≡ NoMemory = elim makes.never [ inl failed ↦ absurd (never failed) | inr memory ↦ memory ] in
      let asked = (makes.memory.did (ap (λ (x : OpErr). Err x) memory)).asked in
      quiet_stopped g g made_by e start new (record {
        same = refl;
        next = make_act;
        never = never;
        emits = λ sink. absurd (cc (memory, sink));
        seals = make_seals new makes.seals.seals;
      }) (one v.next) make_within (pass_after (one v.next) start roomy new e [] (made_by ∷ []) (make_rested (one v.next)) makes.ran.err) make_open (λ slots held honest. inr memory)
      (λ either. omega (arith, make_there.0.asked)) (λ memory. record { place = inr (inl (steps.at, (made_by, refl, asked ∙ ap (λ (l : List Access). l ++ made_by ∷ []) rests.asked))) }) others kept kept

  module _ (n : ℕ) (enough : n ≡ whole_length g.q g.k - g.asked) (spare : others + n ≤ t.spare) (new : World) where
    pub quiet_made : {T : Type 0} (value : T) (after : List (List ℕ)) → MakesTable Any g.q.public.pack (result_in g.q g.k v.next) (Ok v.next) roomy new → ((i : ℕ) → i < length after → Begins g.q.flat.schema None (row_at after i))
        → QuietStep g (stepped g (Read 0 0 0) (Some v.next) g.k g.shown (n - 1) g.seen) others kept after (Ok value) start new
    quiet_made value after makes empty =
        let went : Went (made_by ∷ []) (one v.next) start new = went_join (one v.next) start roomy new [] (made_by ∷ []) (make_rested (one v.next)) makes.ran.ok in
        let unfailed = make_placed.unfailed make_open in
        record {
          steps = record {
            access = made_by;
            next = make_act;
            may = may_before g (ap is_behind steps.at) make_placed (table_blocks g.q) make_there.0 (Read 0 0 0) (λ w here. cc here) (Some v.next) g.shown (n - 1);
            went = subst (λ (f : Bool). WentOrFailed f made_by g.region start new) (sym unfailed) (went_wider (one v.next) start new (own_or_next g.region v.next) make_within (made_by ∷ []) went);
            course = record { stmt = refl; flat = refl; refusal = refl; public = refl };
            asked = refl;
            region = record { now = refl; makes = (refl, make_there.1) };
            unfailed = unfailed;
            outcome = refl;
            books = record {
              spare = omega (arith, spare, enough, make_there.0.asked, makes.ran.ok.spare);
              few = omega (arith, enough, make_whole);
              most = omega (arith, asked_few g make_placed g.stage make_open make_placed.at);
            };
            needs = λ r needs. elim needs [ inl table ↦ inl (inl table) | inr mine ↦ inr (let e : v.next ≡ r = cc mine in sym e) ];
            seals = make_seals new makes.seals.seals;
          };
          stops = tt;
          holds = λ events held. holds_made g kept after events (n - 1) roomy new steps.at (make_held events held) makes (omega (arith, enough)) empty;
          halts = tt;
        }

    -- the store failed that
    pub quiet_make_failed : {T : Type 0} (value : T) (mid : World) → MakesTable Any g.q.public.pack (result_in g.q g.k v.next) (Err Failed) roomy mid → t.spare ≤ mid.store.spare + 1 → ForgetsOwn (Some v.next) mid new → new.store ≡ mid.store
        → QuietStep g (gone_wrong (record g { region = Some v.next })) others kept kept (Ok value) start new
    quiet_make_failed value mid makes left forgets store =
        let cut : PassCut Failed (made_by ∷ []) (one v.next) start mid = pass_after (one v.next) start roomy mid Failed [] (made_by ∷ []) (make_rested (one v.next)) makes.ran.err in
        let failed : HasFailed g (Some v.next) others made_by start mid new = record {
          placed = make_placed;
          going = make_open;
          next = make_act;
          cut = pass_wider (one v.next) start mid (own_or_next g.region v.next) make_within Failed (made_by ∷ []) cut;
          forgets = forgets;
          store = store;
          spare = omega (arith, spare, enough, make_there.0.asked, left);
          made = record { now = refl; makes = (refl, make_there.1) };
          own = λ r mine. inr (let e : v.next ≡ r = cc mine in sym e);
          seals = make_seals mid makes.seals.seals;
        } in
        quiet_failed g (Some v.next) others made_by start mid new failed
        (λ r mine next. omega (
          arith,
          next,
          next_made v.next (Smalls.results (small g.q g.k)) (g.q.public.pack * width g.q.flat.schema + 32) (one v.next) start mid steps.ready cut.lasts (asked_cut made_by (one v.next) start mid cut),
          (forgot g mid new cut.lasts.ready (Some v.next) forgets).lasts.shapes.next,
        )) value kept kept
