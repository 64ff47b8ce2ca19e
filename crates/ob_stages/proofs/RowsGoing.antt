-- A step of a SELECT of rows in flight: what it asks, and what may turn out to be served after it.
use Rattle.std.proofs.Common.{◌≡◌, ◌⊎◌, inl, inr, ◌<◌, ◌≤◌, ◌+◌, ◌*◌, ◌^◌, ◌∷◌, ℕ, Bool, true, false, [], refl, sym, ◌∙◌, ap, subst, arith}
use Rattle.std.specs.Prelude.{Option, Some, None}
use Rattle.ob_base.specs.declared.access.Access.{Access}
use Rattle.ob_base.specs.declared.seen.End.{End}
use Rattle.ob_base.specs.declared.seen.End.TheVariants.{Static, Whole, AfterCount, Batched, Cut}
use Rattle.ob_base.specs.declared.seen.Seen.{Seen}
use Rattle.ob_base.specs.declared.skeleton.Skeleton.{Skeleton}
use Rattle.ob_base.specs.Numbers.{blocks_for}
use Rattle.ob_flat.specs.declared.fault.OpErr.{OpErr}
use Rattle.ob_flat.specs.declared.fault.OpErr.TheVariants.{Failed, Sink}
use Rattle.ob_flat.specs.Passes.{PassCut}
use Rattle.ob_flat.proofs.Runs.{pass_then, pass_wider}
use Rattle.ob_flat.proofs.Tables.{blocks_few}
use Rattle.ob_inflight.specs.Leaving.{own_or_next}
use Rattle.ob_inflight.specs.Progress.{KeepsRegion, SealsBlocks, Steps, StopsStep, WentOrFailed, act_of}
use Rattle.ob_script.specs.Trace.{Served}
use Rattle.ob_select.specs.Selecting.{Selection}
use Rattle.ob_small.specs.Selection as Smalls
use Rattle.ob_small.proofs.Lengths.{passes_few, product_few, product_within, pass_inside}
use Rattle.ob_store.specs.State.{StoreState}
use Rattle.ob_vault.specs.Calls.{Went, one, Seals}
use Rattle.ob_vault.specs.State.{World}
use Rattle.ob_vault.proofs.Runs.{seals_join, went_none, went_wider, seals_none}
use Rattle.ob_stages.specs.declared.rows.Stage.{Stage}
use Rattle.ob_stages.specs.declared.rows.Stage.TheVariants.{Count, Make, Read, Write, Emit, Discard, Over}
use Rattle.ob_stages.specs.Going.{GoesOn}
use Rattle.ob_stages.specs.RowsActs.{kept_some, takes_seen}
use Rattle.ob_stages.specs.RowsStates.{RowsAt, HasCounted, IsFlown, IsPlaced, IsSizedAt, MaySee, MayServe, MayTake, PlacedAt, Takes, all_passes, before_pass, emits_before, is_over, is_printing, kept_blocks, part_blocks, progress_of, reads_before, served_of, small, table_blocks, taken, whole_length, writes_before}
use Rattle.ob_stages.specs.RowsHolds.{NeedsAt, own_at}
use Rattle.ob_stages.specs.RowsSteps.{ForgetsOwn, gone_wrong}
use Rattle.ob_vault.specs.Tied.{Ready}

-- ---- sizes
pub sized_at : (g : RowsAt) → IsPlaced g → IsSizedAt g
sized_at g is = record { several = is.several; settings = is.flown.settings; size = is.flown.size }

pub blocks_most : (q : Selection) (n : ℕ) → 1 ≤ q.public.pack → n ≤ 16777216 → blocks_for q.public.pack n ≤ 16777216
blocks_most q n some few = omega (arith, blocks_few q.public.pack n some, few)

module _ (q : Selection) (s : Skeleton) (flown : IsFlown q s) (k : ℕ) (most : taken q k ≤ q.flat.capacity) where
  table_most : table_blocks q ≤ 16777216
  table_most = blocks_most q q.flat.capacity flown.settings.pack_least flown.size.most

  pub results_most : Smalls.results (small q k) ≤ 16777216
  results_most = blocks_most q (taken q k) flown.settings.pack_least (omega (arith, most, flown.size.most))

  pub passes_most : Smalls.passes (small q k) ≤ 16777216
  passes_most = omega (arith, passes_few (Smalls.results (small q k)) (kept_blocks q) (kept_some q s flown), results_most)

  pub fill_most : all_passes q k ≤ 281474976710656 + 16777216
  fill_most = omega (arith, results_most, product_few (Smalls.passes (small q k)) (table_blocks q) passes_most table_most)

  pub whole_most : whole_length q k ≤ 2 ^ 50
  whole_most = omega (arith, fill_most, results_most, table_most)

  -- a pass ends before all of them do
  pub pass_ends : (pass : ℕ) → pass < Smalls.passes (small q k) → before_pass q pass + table_blocks q + part_blocks q k pass ≤ all_passes q k
  pass_ends pass below =
      let blocks = table_blocks q in
      let kept = kept_blocks q in
      let inside = pass_inside (Smalls.results (small q k)) kept pass (kept_some q s flown) below in
      let first = product_within (pass + 1) (Smalls.passes (small q k)) blocks (omega (arith, below)) in
      let one : (pass + 1) * blocks ≡ pass * blocks + blocks = grind arith in
      let split : pass * (blocks + kept) ≡ pass * blocks + pass * kept = grind arith in
      omega (arith, first, one, split, inside)

-- it has counted, and has something left to ask
abbrev pub is_behind : Stage → Bool
is_behind (Count u) = false
is_behind Over = false
is_behind other = true

pub behind_going : (stage : Stage) → is_behind stage ≡ true → is_over stage ≡ false
behind_going Over is = absurd (cc is)
behind_going other is = refl

-- how far it is then
pub record IsBehind (g : RowsAt) : Type 0 where
  pub done : ℕ
  pub counted : HasCounted g done
  pub enough : table_blocks g.q ≤ done
  pub within : done + 1 ≤ whole_length g.q g.k

pub behind_at : (g : RowsAt) → IsPlaced g → (stage : Stage) → is_behind stage ≡ true → PlacedAt stage g → IsBehind g
behind_at g is (Count u) behind at = absurd (cc behind)
behind_at g is Make behind at = record { done = table_blocks g.q; counted = at.0; enough = omega arith; within = omega arith }
behind_at g is (Read pass u seen) behind at = record {
  done = reads_before g.q pass u;
  counted = at.0.counted;
  enough = omega arith;
  within = omega (arith, pass_ends g.q _ is.flown g.k at.0.counted.most pass at.1, at.2);
}
behind_at g is (Write pass x) behind at = record {
  done = writes_before g.q pass x;
  counted = at.0.counted;
  enough = omega arith;
  within = omega (arith, pass_ends g.q _ is.flown g.k at.0.counted.most pass at.1, at.2);
}
behind_at g is (Emit x) behind at = record { done = emits_before g.q g.k x; counted = at.0.counted; enough = omega arith; within = omega (arith, at.1) }
behind_at g is Discard behind at = record { done = emits_before g.q g.k (Smalls.results (small g.q g.k)); counted = at.counted; enough = omega arith; within = omega arith }
behind_at g is Over behind at = absurd (cc behind)

-- no more was asked than a flight asks of one
pub behind_few : (g : RowsAt) → IsPlaced g → IsBehind g → g.asked < 2 ^ 51
behind_few g is b = omega (arith, b.counted.asked, b.within, whole_most g.q _ is.flown g.k b.counted.most)

pub asked_few : (g : RowsAt) → IsPlaced g → (stage : Stage) → is_over stage ≡ false → PlacedAt stage g → g.asked < 2 ^ 51
asked_few g is (Count u) going at = omega (arith, at.asked, at.below, blocks_most g.q g.q.flat.capacity is.flown.settings.pack_least is.flown.size.most)
asked_few g is Make going at = behind_few g is (behind_at g is Make refl at)
asked_few g is (Read pass u seen) going at = behind_few g is (behind_at g is (Read pass u seen) refl at)
asked_few g is (Write pass x) going at = behind_few g is (behind_at g is (Write pass x) refl at)
asked_few g is (Emit x) going at = behind_few g is (behind_at g is (Emit x) refl at)
asked_few g is Discard going at = behind_few g is (behind_at g is Discard refl at)
asked_few g is Over going at = absurd (cc going)

pub few_at : (g : RowsAt) → IsPlaced g → (stage : Stage) → g.stage ≡ stage → is_over stage ≡ false → g.asked < 2 ^ 56
few_at g is stage same going = omega (arith, asked_few g is g.stage (ap is_over same ∙ going) is.at)

-- ---- its regions
pub own_all : (stage : Stage) (made : Option ℕ) → is_over stage ≡ false → own_at stage made ≡ made
own_all Over made going = absurd (cc going)
own_all other made going = refl

own_some : (stage : Stage) (made : Option ℕ) (r : ℕ) → own_at stage made ≡ Some r → made ≡ Some r
own_some Over made r is = absurd (cc is)
own_some other made r is = is

-- ---- what may turn out to be served
goes_less : (n : ℕ) (end : End) → GoesOn (n + 1) end → GoesOn n end
goes_less n Whole goes = tt
goes_less n (Cut m) goes = omega (arith, goes)
goes_less n other goes = absurd goes

-- it becomes this: one access more was asked
abbrev pub stepped : RowsAt → Stage → (region : Option ℕ) → (k shown booked : ℕ) → Seen → RowsAt
stepped g stage region k shown booked seen =
    record g { stage = stage; region = region; k = k; shown = shown; asked = g.asked + 1; booked = booked; seen = seen }

-- of one that counts
pub may_counting : (g : RowsAt) (u : ℕ) (stage : Stage) (region : Option ℕ) (k n b : ℕ) (x seen : Seen) → GoesOn g.asked seen.end → MaySee stage (stepped g stage region k n b seen) x → MaySee (Count u) g x
may_counting g u (Count v) region k n b x seen goes may = goes_less g.asked x.end may
may_counting g u Over region k n b x seen goes may = subst (λ (s : Seen). GoesOn g.asked s.end) (sym may) goes
may_counting g u other region k n b x seen goes may = goes_less g.asked x.end may.0

pub see_of : (g : RowsAt) (stage : Stage) → is_behind stage ≡ true → (x : Seen) → MayTake g x → MaySee stage g x
see_of g (Count u) behind x may = absurd (cc behind)
see_of g Over behind x may = absurd (cc behind)
see_of g other behind x may = may

-- of one that has counted, whose end is another
pub takes_same : (pad : Option ℕ) (k : ℕ) (x y : Seen) → x.k ≡ y.k → x.plan ≡ y.plan → x.then ≡ y.then → Takes pad k y → Takes pad k x
takes_same None k x y count plan second is = (count ∙ is.0, plan ∙ is.1, second ∙ is.2)
takes_same (Some pad) k x y count plan second is = tt

abbrev pub AlikeSeen : (x y : Seen) → Type 0
AlikeSeen x y = (x.k ≡ y.k) × (x.plan ≡ y.plan) × (x.then ≡ y.then)

pub may_behind : (g : RowsAt) (done : ℕ) → HasCounted g done → (stage : Stage) → (region : Option ℕ) (n b : ℕ) (x seen : Seen) → ((u : ℕ) → stage ≡ Count u → ⊥) → AlikeSeen seen g.seen → GoesOn g.asked seen.end
    → MaySee stage (stepped g stage region g.k n b seen) x → MayTake g x
may_behind g done at (Count u) region n b x seen off alike goes may = absurd (off u refl)
may_behind g done at Over region n b x seen off alike goes may =
    let taken_seen = takes_seen g.q.public.pad g.k g.seen at.seen in
    subst (λ (s : Seen). GoesOn g.asked s.end × Takes g.q.public.pad g.k s) (sym may)
    (goes, takes_same g.q.public.pad g.k seen g.seen alike.0 alike.1 alike.2 taken_seen)
may_behind g done at other region n b x seen off alike goes may = (goes_less g.asked x.end may.0, may.1)

-- ---- what was done
-- one access was asked, and its region is as it was
module _ (g : RowsAt) (stage : Stage) (k n b : ℕ) (seen : Seen) (others : ℕ) (access : Access) (old new : World) where
  abbrev h : RowsAt
  h = stepped g stage g.region k n b seen

  pub record IsNext : Type 0 where
    pub placed : IsPlaced g
    pub going : is_over g.stage ≡ false
    pub next : (x : Served) → MayServe g x → act_of (progress_of g) x old.vault.next ≡ Some access
    pub may : (x : Served) → MayServe (stepped g stage g.region k n b seen) x → MayServe g x
    pub kept : KeepsRegion access old.vault.next g.region g.region
    pub booked : (b + 1 ≤ g.booked) ⊎ (b ≡ 0)
    pub some : 1 ≤ g.booked
    pub spare : others + g.booked ≤ old.store.spare
    pub few : b ≤ 2 ^ 59

  needs_kept : is_over g.stage ≡ false → (r : ℕ) → NeedsAt h r → NeedsAt g r ⊎ (r ≡ old.vault.next)
  needs_kept going r needs = inl (elim needs [
    | inl table ↦ inl table
    | inr mine ↦ inr (own_all g.stage g.region going ∙ own_some stage g.region r mine)
  ])

  pub steps_kept : (some : ℕ → Type 0) → IsNext → ((r : ℕ) → some r → own_or_next g.region old.vault.next r) → Went (access ∷ []) some old new → SealsBlocks g.q.public.pack old new
      → Steps others (progress_of g) (progress_of h) (MayServe g) (MayServe h) (NeedsAt g) (NeedsAt h) old new
  steps_kept some is within went seals =
      let unfailed = is.placed.unfailed is.going in
      record {
        access = access;
        next = is.next;
        may = is.may;
        went = subst (λ (f : Bool). WentOrFailed f access g.region old new) (sym unfailed) (went_wider some old new (own_or_next g.region old.vault.next) within (access ∷ []) went);
        course = record { stmt = refl; flat = refl; refusal = refl; public = refl };
        asked = refl;
        region = is.kept;
        unfailed = unfailed;
        outcome = refl;
        books = record {
          spare = elim is.booked [ inl less ↦ omega (arith, less, is.spare, went.spare) | inr nothing ↦ omega (arith, nothing, is.some, is.spare, went.spare) ];
          few = is.few;
          most = omega (arith, asked_few g is.placed g.stage is.going is.placed.at);
        };
        needs = needs_kept is.going;
        seals = seals;
      }

-- ---- where the store failed
-- its region was forgotten
pub forgot : (g : RowsAt) (mid new : World) → Ready mid → (o : Option ℕ) → ForgetsOwn o mid new → Went [] (λ r. o ≡ Some r) mid new
forgot g mid new ready None is = subst (λ (w : World). Went [] (λ r. None ≡ Some r) mid w) (sym is) (went_none (λ r. None ≡ Some r) mid ready)
forgot g mid new ready (Some own) is = went_wider (one own) mid new (λ r. Some own ≡ Some r) (λ r same. ap (λ (n : ℕ). Some n) (sym same)) [] (is.went ready)

pub forgot_seals : (pack : ℕ) (mid new : World) (o : Option ℕ) → ForgetsOwn o mid new → SealsBlocks pack mid new
forgot_seals pack mid new None is = λ good fine. subst (λ (w : World). Seals good mid w) (sym is) (seals_none good mid)
forgot_seals pack mid new (Some own) is = λ good fine. is.seals good

pub forgot_gone : (mid new : World) (o : Option ℕ) (r : ℕ) → ForgetsOwn o mid new → o ≡ Some r → new.vault.revs.live r ≡ None
forgot_gone mid new None r is mine = absurd (cc mine)
forgot_gone mid new (Some own) r is mine = let same : own ≡ r = cc mine in subst (λ (n : ℕ). new.vault.revs.live n ≡ None) same is.gone

module _ (g : RowsAt) (region : Option ℕ) (others : ℕ) (access : Access) (old mid new : World) where
  -- one access was asked, which failed, and its region is gone
  pub record HasFailed : Type 0 where
    pub placed : IsPlaced g
    pub going : is_over g.stage ≡ false
    pub next : (x : Served) → MayServe g x → act_of (progress_of g) x old.vault.next ≡ Some access
    pub cut : PassCut Failed (access ∷ []) (own_or_next g.region old.vault.next) old mid
    pub forgets : ForgetsOwn region mid new
    pub store : new.store ≡ mid.store
    pub spare : others ≤ mid.store.spare
    pub made : KeepsRegion access old.vault.next g.region region
    pub own : (r : ℕ) → region ≡ Some r → own_or_next g.region old.vault.next r
    pub seals : SealsBlocks g.q.public.pack old mid

  abbrev pub failed_at : RowsAt
  failed_at = gone_wrong (record g { region = region })

  pub failed_cut : HasFailed → PassCut Failed (access ∷ []) (own_or_next g.region old.vault.next) old new
  failed_cut is =
      pass_then (own_or_next g.region old.vault.next) Failed (access ∷ []) old mid new is.cut
      (went_wider (λ r. region ≡ Some r) mid new (own_or_next g.region old.vault.next) (λ r mine. is.own r mine) [] (forgot g mid new is.cut.lasts.ready region is.forgets)) is.store

  pub failed_seals : HasFailed → SealsBlocks g.q.public.pack old new
  failed_seals is = λ good fine. seals_join good old mid new is.cut.lasts.later (is.seals good fine) (forgot_seals g.q.public.pack mid new region is.forgets good fine)

  -- only the region of its table is needed any more
  failed_needs : HasFailed → (r : ℕ) → NeedsAt failed_at r → NeedsAt g r ⊎ (r ≡ old.vault.next)
  failed_needs is r needs = inl (elim needs [ inl table ↦ inl table | inr mine ↦ absurd (cc mine) ])

  failed_take : HasFailed → IsBehind g → (x : Seen) → x ≡ (gone_wrong g).seen → MayTake g x
  failed_take is b x same =
      let goes : GoesOn g.asked (Cut (g.asked + 1)) = omega arith in
      let taken_seen = takes_seen g.q.public.pad g.k g.seen b.counted.seen in
      subst (λ (s : Seen). MayTake g s) (sym same) (goes, takes_same g.q.public.pad g.k (gone_wrong g).seen g.seen refl refl refl taken_seen)

  failed_see : HasFailed → (stage : Stage) → is_over stage ≡ false → PlacedAt stage g → (x : Seen) → x ≡ (gone_wrong g).seen → MaySee stage g x
  failed_see is (Count u) going at x same = subst (λ (s : Seen). GoesOn g.asked s.end) (sym same) (let goes : g.asked < g.asked + 1 = omega arith in goes)
  failed_see is Make going at x same = failed_take is (behind_at g is.placed Make refl at) x same
  failed_see is (Read pass u seen) going at x same = failed_take is (behind_at g is.placed (Read pass u seen) refl at) x same
  failed_see is (Write pass u) going at x same = failed_take is (behind_at g is.placed (Write pass u) refl at) x same
  failed_see is (Emit u) going at x same = failed_take is (behind_at g is.placed (Emit u) refl at) x same
  failed_see is Discard going at x same = failed_take is (behind_at g is.placed Discard refl at) x same
  failed_see is Over going at x same = absurd (cc going)

  failed_may : HasFailed → (x : Served) → MayServe failed_at x → MayServe g x
  failed_may is x may = record {
    placed = is.placed;
    same = may.same;
    second = may.second;
    may = failed_see is g.stage is.going is.placed.at x.seen may.may;
  }

  pub steps_failed : HasFailed → Steps others (progress_of g) (progress_of failed_at) (MayServe g) (MayServe failed_at) (NeedsAt g) (NeedsAt failed_at) old new
  steps_failed is = record {
    access = access;
    next = is.next;
    may = failed_may is;
    went = failed_cut is;
    course = record { stmt = refl; flat = refl; refusal = refl; public = refl };
    asked = refl;
    region = is.made;
    unfailed = is.placed.unfailed is.going;
    outcome = refl;
    books = record {
      spare = omega (arith, is.spare, ap (λ (s : StoreState). s.spare) is.store);
      few = omega arith;
      most = omega (arith, asked_few g is.placed g.stage is.going is.placed.at);
    };
    needs = failed_needs is;
    seals = failed_seals is;
  }

-- ---- where it gave up
module _ (g h : RowsAt) (access : Access) (e : OpErr) (old new : World) where
  pub record HasStopped : Type 0 where
    pub same : h ≡ record g { booked = h.booked }
    pub next : (x : Served) → MayServe g x → act_of (progress_of g) x old.vault.next ≡ Some access
    pub never : e ≡ Failed → ⊥
    pub emits : e ≡ Sink → is_printing g.stage ≡ true
    pub seals : SealsBlocks g.q.public.pack old new

  pub stops_step : (some : ℕ → Type 0) → HasStopped → ((r : ℕ) → some r → own_or_next g.region old.vault.next r) → PassCut e (access ∷ []) some old new → StopsStep e (progress_of g) (progress_of h) (MayServe g) old new
  stops_step some is within cut = record {
    access = access;
    next = is.next;
    cut = pass_wider some old new (own_or_next g.region old.vault.next) within e (access ∷ []) cut;
    never = is.never;
    emits = is.emits;
    stays = record {
      course = record {
        stmt = ap (λ (x : RowsAt). (progress_of x).stmt) is.same;
        flat = ap (λ (x : RowsAt). (progress_of x).flat) is.same;
        refusal = refl;
        public = ap (λ (x : RowsAt). (progress_of x).public) is.same;
      };
      served = ap served_of is.same;
      asked = ap (λ (x : RowsAt). x.asked) is.same;
      region = ap (λ (x : RowsAt). x.region) is.same;
      failed = ap (λ (x : RowsAt). x.failed) is.same;
      outcome = ap (λ (x : RowsAt). x.outcome) is.same;
    };
    seals = is.seals;
  }
