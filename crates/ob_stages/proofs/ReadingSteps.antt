-- A read of a SELECT of totals in flight: what it asked, and how it stands after it.
use Rattle.std.proofs.Common.{◌≡◌, ◌⊎◌, inl, inr, ◌<◌, ◌≤◌, ◌+◌, ◌++◌, ◌==◌, ℕ, Bool, true, false, List, [], Option, Some, None, Ok, Err, refl, sym, ◌∙◌, ap, subst, arith}
use Rattle.std.proofs.lemmas.Bool.{eqb-false}
use Rattle.std.proofs.lemmas.List.{append-nil}
use Rattle.std.proofs.Math.Arith.{lt_of_le-ne}
use Rattle.ob_base.specs.declared.access.Access.TheVariants.{Read}
use Rattle.ob_base.specs.declared.seen.End.{End}
use Rattle.ob_base.specs.declared.seen.End.TheVariants.{Cut}
use Rattle.ob_base.specs.Accesses.{read_at}
use Rattle.ob_base.specs.Events.{Event}
use Rattle.ob_row.specs.Slots.{Slots}
use Rattle.ob_script.specs.Trace.{Served}
use Rattle.ob_vault.specs.State.{World}
use Rattle.ob_vault.specs.Calls.{Lasts, Went, none}
use Rattle.ob_vault.specs.Words.{SealsAll}
use Rattle.ob_vault.proofs.Runs.{went_wider}
use Rattle.ob_flat.specs.declared.fault.OpErr.{OpErr}
use Rattle.ob_flat.specs.declared.fault.OpErr.TheVariants.{Failed}
use Rattle.ob_flat.specs.Flats.{Represents}
use Rattle.ob_flat.specs.declared.flat.Flat.{Flat}
use Rattle.ob_flat.specs.Passes.{PassCut, SinkCause}
use Rattle.ob_flat.specs.Words.{TamperedAt, blocks_of}
use Rattle.ob_flat.proofs.Runs.{pass_wider}
use Rattle.ob_flat.proofs.Scanning.{may_scan_lasts}
use Rattle.ob_mean.proofs.EarlyLemmas.{neither}
use Rattle.ob_verdict.specs.declared.outcome.Outcome.{Outcome}
use Rattle.ob_verdict.specs.Outcomes.{Partly}
use Rattle.ob_inflight.specs.Answers.{Tells}
use Rattle.ob_inflight.specs.Leaving.{own_or_next}
use Rattle.ob_inflight.specs.Progress.{Steps, StopsStep, WentOrFailed, act_of}
use Rattle.ob_stages.specs.declared.reading.Reading.{Reading}
use Rattle.ob_stages.specs.Reading.{Answered, EndsLater, FitsTable, HaltsTotals, IsBoarded, IsReading, MayRead, NeedsTable, is_over, places_of, reading_progress, reads_left}
use Rattle.ob_stages.specs.ReadingLaws.{next_read, reading_next}
use Rattle.ob_stages.specs.Totalling.{labels_at, totalled_answer}
use Rattle.ob_stages.proofs.TotalsLemmas.{leads_none, partly_none}

-- one more block was read, or the store failed the read
abbrev pub read_on : Reading → Reading
read_on r = record r { asked = r.asked + 1 }

abbrev pub fault_on : Reading → Reading
fault_on r = record r { asked = r.asked + 1; failed = true }

-- ---- what is left
less_left : (failed : Bool) (blocks asked : ℕ) → failed ≡ false → asked < blocks → reads_left failed blocks (asked + 1) + 1 ≡ reads_left failed blocks asked
less_left true blocks asked off below = absurd (cc off)
less_left false blocks asked off below = omega (arith, below)

few_left : (failed : Bool) (blocks asked : ℕ) → reads_left failed blocks asked ≤ blocks
few_left true blocks asked = omega arith
few_left false blocks asked = omega arith

ends_before : (failed : Bool) (asked : ℕ) (end : End) → failed ≡ false → EndsLater failed (asked + 1) end → EndsLater failed asked end
ends_before true asked end off ends = absurd (cc off)
ends_before false asked end off ends = elim ends [
  | inl whole ↦ inl whole
  | inr (n, cut, later) ↦ inr (n, cut, omega (arith, later))
]

ends_here : (failed : Bool) (asked : ℕ) (end : End) → failed ≡ false → end ≡ Cut (asked + 1) → EndsLater failed asked end
ends_here true asked end off ends = absurd (cc off)
ends_here false asked end off ends = inr (asked + 1, ends, omega arith)

module _ (r : Reading) (left : is_over r ≡ false) where
  pub unfailed : r.failed ≡ false
  unfailed = (neither r.failed (r.asked == r.blocks) left).0

  pub below : r.asked ≤ r.blocks → r.asked < r.blocks
  below within = lt_of_le-ne within (eqb-false r.asked r.blocks (neither r.failed (r.asked == r.blocks) left).1)

  pub below_all : IsBoarded r → r.asked < blocks_of r.public.now.pack r.flat
  below_all boarded = subst (λ (n : ℕ). r.asked < n) boarded.blocks (below boarded.within)

  boarded_on : IsBoarded r → IsBoarded (read_on r)
  boarded_on is = record { script = is.script; blocks = is.blocks; within = let less = below is.within in omega (arith, less); rows = is.rows; meant = is.meant; items = is.items }

  boarded_fault : IsBoarded r → IsBoarded (fault_on r)
  boarded_fault is = record { script = is.script; blocks = is.blocks; within = let less = below is.within in omega (arith, less); rows = is.rows; meant = is.meant; items = is.items }

  may_before : (x : Served) → MayRead (read_on r) x → MayRead r x
  may_before x may = record {
    boarded = let most = may.boarded.within in record { script = may.boarded.script; blocks = may.boarded.blocks; within = omega (arith, most); rows = may.boarded.rows; meant = may.boarded.meant; items = may.boarded.items };
    skeleton = may.skeleton;
    plain = may.plain;
    ends = ends_before r.failed r.asked x.seen.end unfailed may.ends;
  }

  may_fault : (x : Served) → MayRead (fault_on r) x → MayRead r x
  may_fault x may = record {
    boarded = let most = may.boarded.within in record { script = may.boarded.script; blocks = may.boarded.blocks; within = omega (arith, most); rows = may.boarded.rows; meant = may.boarded.meant; items = may.boarded.items };
    skeleton = may.skeleton;
    plain = may.plain;
    ends = ends_here r.failed r.asked x.seen.end unfailed may.ends;
  }

  -- the next access of all that may be served
  next_is : (n : ℕ) (x : Served) → MayRead r x → act_of (reading_progress r) x n ≡ Some (Read r.flat.region r.asked)
  next_is n x may = reading_next r x n may ∙ ap (next_read r.flat.region r.blocks r.asked may.boarded.within) left

  few_blocks : (events : List Event) (w : World) → IsReading r events w → r.blocks ≤ 134217728
  few_blocks events w is =
      let blocks = is.boarded.blocks in
      let most = is.table.size.blocks in
      omega (arith, blocks, most)

  module _ (others : ℕ) (events : List Event) (old new : World) (is : IsReading r events old) (spare : others + reads_left r.failed r.blocks r.asked ≤ old.store.spare) (seals : SealsAll old new) where
    less : r.asked < r.blocks
    less = below is.boarded.within

    pub steps_read : Went (read_at r.flat.region r.asked) none old new
        → Steps others (reading_progress r) (reading_progress (read_on r)) (MayRead r) (MayRead (read_on r)) (NeedsTable r) (NeedsTable (read_on r)) old new
    steps_read went =
        let gone = less_left r.failed r.blocks r.asked unfailed less in
        let some = went.spare in
        let most = few_left r.failed r.blocks (r.asked + 1) in
        let few = few_blocks events old is in
        record {
          access = Read r.flat.region r.asked;
          next = next_is old.vault.next;
          may = may_before;
          went = subst (λ (b : Bool). WentOrFailed b (Read r.flat.region r.asked) None old new) (sym unfailed)
              (went_wider none old new (own_or_next None old.vault.next) (λ q s. absurd s) (read_at r.flat.region r.asked) went);
          course = record { stmt = refl; flat = refl; refusal = refl; public = refl };
          asked = refl;
          region = record { now = refl; makes = tt };
          unfailed = unfailed;
          outcome = refl;
          books = record { spare = omega (arith, spare, gone, some); few = omega (arith, most, few); most = omega (arith, gone) };
          needs = λ q need. inl need;
          seals = λ good accepts. seals.seals good;
        }

    pub steps_fault : PassCut Failed (read_at r.flat.region r.asked) none old new → old.store.spare ≤ new.store.spare + 1
        → Steps others (reading_progress r) (reading_progress (fault_on r)) (MayRead r) (MayRead (fault_on r)) (NeedsTable r) (NeedsTable (fault_on r)) old new
    steps_fault cut some =
        let gone = less_left r.failed r.blocks r.asked unfailed less in
        record {
          access = Read r.flat.region r.asked;
          next = next_is old.vault.next;
          may = may_fault;
          went = pass_wider none old new (own_or_next None old.vault.next) (λ q s. absurd s) Failed (read_at r.flat.region r.asked) cut;
          course = record { stmt = refl; flat = refl; refusal = refl; public = refl };
          asked = refl;
          region = record { now = refl; makes = tt };
          unfailed = unfailed;
          outcome = refl;
          books = record { spare = omega (arith, spare, gone, some); few = omega arith; most = omega (arith, gone) };
          needs = λ q need. inl need;
          seals = λ good accepts. seals.seals good;
        }

    pub stops_read : (e : OpErr) → (e ≡ Failed → ⊥) → (e ≡ Failed) ⊎ TamperedAt r.public.now.pack r.flat r.asked e new → PassCut e (read_at r.flat.region r.asked) none old new
        → StopsStep e (reading_progress r) (reading_progress r) (MayRead r) old new
    stops_read e off never cut = record {
      access = Read r.flat.region r.asked;
      next = next_is old.vault.next;
      cut = pass_wider none old new (own_or_next None old.vault.next) (λ q s. absurd s) e (read_at r.flat.region r.asked) cut;
      never = off;
      emits = λ sink. elim never [ inl failed ↦ absurd (off failed) | inr there ↦ absurd (cc (sink, there.is)) ];
      stays = record { course = record { stmt = refl; flat = refl; refusal = refl; public = refl }; served = refl; asked = refl; region = refl; failed = refl; outcome = refl };
      seals = λ good accepts. seals.seals good;
    }

  -- ---- how it stands after it
  module _ (events : List Event) (old new : World) (is : IsReading r events old) (lasts : Lasts none old new) where
    silent : events ≡ []
    silent = subst (λ (o : Option Outcome). Answered o r events old) (is.going left) is.answered

    pub reads_on : IsReading (read_on r) events new
    reads_on = record {
      ready = lasts.ready;
      boarded = boarded_on is.boarded;
      table = may_scan_lasts r.public.now.pack r.flat none old new lasts (λ s. s) is.table;
      some = λ failed. absurd (cc (failed, unfailed));
      going = λ more. is.going left;
      answered = subst (λ (o : Option Outcome). Answered o (read_on r) events new) (sym (is.going left)) silent;
    }

    pub faults_on : IsReading (fault_on r) events new
    faults_on = record {
      ready = lasts.ready;
      boarded = boarded_fault is.boarded;
      table = may_scan_lasts r.public.now.pack r.flat none old new lasts (λ s. s) is.table;
      some = λ _. omega arith;
      going = λ more. is.going left;
      answered = subst (λ (o : Option Outcome). Answered o (fault_on r) events new) (sym (is.going left)) silent;
    }

    -- nothing was emitted by then
    pub halts_read : (e : OpErr) → (e ≡ Failed → ⊥) → (e ≡ Failed) ⊎ TamperedAt r.public.now.pack r.flat r.asked e new
        → ((slots : Slots) → Represents r.public.now.pack r.flat slots old → new.store.lie ≡ None → e ≡ Failed) → HaltsTotals r events [] e old new
    halts_read e off never told = record {
      told = λ q.
          let labels = labels_at r.flat.schema r.select.now in
          let answer = totalled_answer (places_of r) r.flat.schema r.select.now q.slots in
          subst (λ (l : List Event). Partly labels answer (l ++ [])) (sym silent) (partly_none labels answer);
      honest = λ q. absurd (off (told q.slots q.is q.nolie));
      emitter = λ either. elim never [
        | inl failed ↦ absurd (off failed)
        | inr there ↦ elim either [ inl sink ↦ absurd (cc (sink, there.is)) | inr memory ↦ absurd (cc (memory, there.is)) ]
      ];
    }

-- ---- a step that prints nothing
module _ {E T : Type 0} (grew cut : E → E → List Event → Type 0) (printing : Bool) (Holds_old Holds_new : List Event → World → Type 0)
    (Halts : (events part : List Event) → OpErr → (old new : World) → Type 0) (old new : World) (out : E) where
  pub tells_ok : (x : T) → ((events : List Event) → Holds_old events old → Holds_new events new) → Tells {T = T} grew cut printing Holds_old Holds_new Halts (Ok x) old new out out
  tells_ok x on = record {
    ok = λ events was. record {
      more = [];
      leads = leads_none grew out;
      quiet = λ off. (refl, refl);
      holds = subst (λ (l : List Event). Holds_new l new) (sym (append-nil events)) (on events was);
    };
    err = tt;
  }

  pub tells_err : (e : OpErr) → printing ≡ false → ((events : List Event) → Holds_old events old → Halts events [] e old new) → Tells {T = T} grew cut printing Holds_old Holds_new Halts (Err e) old new out out
  tells_err e off halts = record {
    ok = tt;
    err = λ events was. record {
      part = [];
      leads = λ prints. absurd (cc (off, prints));
      quiet = λ off. (refl, refl);
      halts = halts events was;
    };
  }

-- the rows fit it still
pub fits_on : (r : Reading) (rows : List (List ℕ)) → FitsTable r rows → FitsTable (read_on r) rows
fits_on r rows is = record { count = is.count; fit = is.fit }

pub fits_fault : (r : Reading) (rows : List (List ℕ)) → FitsTable r rows → FitsTable (fault_on r) rows
fits_fault r rows is = record { count = is.count; fit = is.fit }

-- no emitter was called
pub sink_read : {pack place : ℕ} {flat : Flat} {w : World} (T : Type 0) (e : OpErr) (k : ℕ) → (e ≡ Failed → ⊥) → (e ≡ Failed) ⊎ TamperedAt pack flat place e w → SinkCause {T = T} (Err e) k k
sink_read T e k off never = elim never [
  | inl failed ↦ absurd (off failed)
  | inr there ↦ subst (λ (x : OpErr). SinkCause {T = T} (Err x) k k) (sym there.is) refl
]
