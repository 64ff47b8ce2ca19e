-- A step of a SELECT with GROUP BY in flight.
use Rattle.std.proofs.Common.{◌≡◌, ◌≤◌, ◌+◌, ℕ, false, List, Ok, Err, sym, ◌∙◌, subst}
use Rattle.std.specs.Prelude.{Result, take, length}
use Rattle.ob_base.specs.Events.{Event}
use Rattle.ob_order.specs.Buckets.{BucketsState}
use Rattle.ob_row.specs.Spelling.{kind_at}
use Rattle.ob_row.specs.Truth.{is_true}
use Rattle.ob_vault.specs.Rows.{SameSizes}
use Rattle.ob_vault.specs.State.{World}
use Rattle.ob_flat.specs.declared.fault.OpErr.{OpErr}
use Rattle.ob_flat.specs.declared.fault.OpErr.TheVariants.{Failed}
use Rattle.ob_group.specs.Steps.{GathersAt}
use Rattle.ob_group.specs.Held.{MayGrow}
use Rattle.ob_group.proofs.Gathering.{gathered_may, gathered_next}
use Rattle.ob_sql.specs.declared.stmt.Listed.{Listed}
use Rattle.ob_inflight.specs.Answers.{Tells}
use Rattle.ob_inflight.specs.Progress.{Steps, StopsStep}
use Rattle.ob_stages.specs.declared.reading.Reading.{Reading}
use Rattle.ob_stages.specs.declared.groups.GroupsFlight.{GroupsFlight}
use Rattle.ob_stages.specs.Reading.{HaltsTotals, MayRead, NeedsTable, is_over, reading_progress, reads_left}
use Rattle.ob_stages.specs.Groups.{FitsGroups, IsGrouping, groups_refits, items_of}
use Rattle.ob_stages.proofs.ReadingSteps.{below_all, fault_on, faults_on, fits_fault, fits_on, halts_read, read_on, reads_on, steps_fault, steps_read, stops_read, tells_err, tells_ok, unfailed}

-- one more block was read, or the store failed the read
abbrev pub groups_on : GroupsFlight → BucketsState → ℕ → Reading → GroupsFlight
groups_on f buckets n r = record { reading = r; key = f.key; items = f.items; buckets = buckets; n = n }

module _ (f : GroupsFlight) (left : is_over f.reading ≡ false) (n : ℕ) (count : n ≡ f.reading.public.now.pack) (listed : List Listed) (same : listed ≡ f.reading.select.now.items)
    (kept now : List (List ℕ)) (buckets : BucketsState) (old new : World) (result : Result ℕ OpErr)
    (read : GathersAt n f.reading.flat (is_true f.reading.pred) f.key (take (length listed) f.items) f.reading.asked f.n result kept now buckets old new) where
  abbrev r : Reading
  r = f.reading

  abbrev At : Result ℕ OpErr → Type 0
  At result = GathersAt r.public.now.pack r.flat (is_true r.pred) f.key (items_of f) r.asked f.n result kept now buckets old new

  here : At result
  here =
      subst (λ (k : ℕ). GathersAt k r.flat (is_true r.pred) f.key (items_of f) r.asked f.n result kept now buckets old new) count
      (subst (λ (l : List Listed). GathersAt n r.flat (is_true r.pred) f.key (take (length l) f.items) r.asked f.n result kept now buckets old new) same read)

  abbrev Halts : List Event → List Event → OpErr → World → World → Type 0
  Halts events part e was now = HaltsTotals r events part e was now

  -- it was read
  module _ (groups : ℕ) (is_ok : result ≡ Ok groups) (most : buckets.most ≡ f.buckets.most) (then : Reading) (on : then ≡ read_on r) where
    at_ok : At (Ok groups)
    at_ok = subst At is_ok here

    pub groups_steps : (others : ℕ) (events : List Event) → IsGrouping f kept events old → others + reads_left r.failed r.blocks r.asked ≤ old.store.spare
        → Steps others (reading_progress r) (reading_progress then) (MayRead r) (MayRead then) (NeedsTable r) (NeedsTable then) old new
    groups_steps others events is spare =
        subst (λ (s : Reading). Steps others (reading_progress r) (reading_progress s) (MayRead r) (MayRead s) (NeedsTable r) (NeedsTable s) old new) (sym on)
        (steps_read r left others events old new is.reading spare at_ok.seals at_ok.ran.ok)

    groups_next : (events : List Event) → IsGrouping f kept events old → IsGrouping (groups_on f buckets groups (read_on r)) now events new
    groups_next events is = record {
      reading = reads_on r left events old new is.reading at_ok.ran.ok.lasts;
      keyed = record { key = is.keyed.key; by_key = is.keyed.by_key; place = is.keyed.place; items = is.keyed.items };
      places = at_ok.size.count ∙ is.places;
      gathered = λ whole.
          gathered_next r.public.now.pack r.flat (is_true r.pred) f.key (items_of f) r.asked f.n groups kept now f.buckets buckets old new (below_all r left is.reading.boarded) most at_ok (is.gathered whole);
    }

    pub groups_tell : {E : Type 0} (grew cut : E → E → List Event → Type 0) (out : E)
        → Tells {T = Unit {0}} grew cut (is_over r) (IsGrouping f kept) (IsGrouping (groups_on f buckets groups then) now) Halts (Ok tt) old new out out
    groups_tell grew cut out =
        subst (λ (s : Reading). Tells {T = Unit {0}} grew cut (is_over r) (IsGrouping f kept) (IsGrouping (groups_on f buckets groups s) now) Halts (Ok tt) old new out out) (sym on)
        (tells_ok grew cut (is_over r) (IsGrouping f kept) (IsGrouping (groups_on f buckets groups (read_on r)) now) Halts old new out tt groups_next)

  -- the store failed
  module _ (is_fault : result ≡ Err Failed) (then : Reading) (on : then ≡ fault_on r) where
    at_fault : At (Err Failed)
    at_fault = subst At is_fault here

    pub groups_fault_steps : (others : ℕ) (events : List Event) → IsGrouping f kept events old → others + reads_left r.failed r.blocks r.asked ≤ old.store.spare → old.store.spare ≤ new.store.spare + 1
        → Steps others (reading_progress r) (reading_progress then) (MayRead r) (MayRead then) (NeedsTable r) (NeedsTable then) old new
    groups_fault_steps others events is spare spent =
        subst (λ (s : Reading). Steps others (reading_progress r) (reading_progress s) (MayRead r) (MayRead s) (NeedsTable r) (NeedsTable s) old new) (sym on)
        (steps_fault r left others events old new is.reading spare at_fault.seals at_fault.ran.err spent)

    groups_fault : (events : List Event) → IsGrouping f kept events old → IsGrouping (groups_on f buckets f.n (fault_on r)) now events new
    groups_fault events is = record {
      reading = faults_on r left events old new is.reading at_fault.ran.err.lasts;
      keyed = record { key = is.keyed.key; by_key = is.keyed.by_key; place = is.keyed.place; items = is.keyed.items };
      places = at_fault.size.count ∙ is.places;
      gathered = λ whole. absurd (cc whole);
    }

    pub groups_fault_tell : {E : Type 0} (grew cut : E → E → List Event → Type 0) (out : E)
        → Tells {T = Unit {0}} grew cut (is_over r) (IsGrouping f kept) (IsGrouping (groups_on f buckets f.n then) now) Halts (Ok tt) old new out out
    groups_fault_tell grew cut out =
        subst (λ (s : Reading). Tells {T = Unit {0}} grew cut (is_over r) (IsGrouping f kept) (IsGrouping (groups_on f buckets f.n s) now) Halts (Ok tt) old new out out) (sym on)
        (tells_ok grew cut (is_over r) (IsGrouping f kept) (IsGrouping (groups_on f buckets f.n (fault_on r)) now) Halts old new out tt groups_fault)

  -- the block was refused
  module _ (e : OpErr) (is_err : result ≡ Err e) (off : e ≡ Failed → ⊥) where
    at_err : At (Err e)
    at_err = subst At is_err here

    pub groups_stops : (others : ℕ) (events : List Event) → IsGrouping f kept events old → others + reads_left r.failed r.blocks r.asked ≤ old.store.spare → StopsStep e (reading_progress r) (reading_progress r) (MayRead r) old new
    groups_stops others events is spare = stops_read r left others events old new is.reading spare at_err.seals e off at_err.never at_err.ran.err

    pub groups_stop_tell : {E : Type 0} (grew cut : E → E → List Event → Type 0) (Holds_new : List Event → World → Type 0) (out : E)
        → Tells {T = Unit {0}} grew cut (is_over r) (IsGrouping f kept) Holds_new Halts (Err e) old new out out
    groups_stop_tell grew cut Holds_new out =
        tells_err grew cut (is_over r) (IsGrouping f kept) Holds_new Halts old new out e left
        (λ events is. halts_read r left events old new is.reading at_err.ran.err.lasts e off at_err.never (λ slots held nolie. at_err.told slots held nolie))

-- ---- what the next read asks
-- there is room for the groups of one block more
pub grows : (f : GroupsFlight) → is_over f.reading ≡ false → (kept : List (List ℕ)) (events : List Event) (w : World) → IsGrouping f kept events w
    → MayGrow (kind_at f.reading.flat.schema f.key) (length (items_of f)) f.n f.reading.public.now.pack kept
grows f left kept events w is =
    let r = f.reading in
    gathered_may r.public.now.pack r.flat (is_true r.pred) f.key (items_of f) r.asked f.n kept f.buckets w (is.gathered (unfailed r left)) (below_all r left is.reading.boarded)

-- its rows and its share fit it still
module _ (f : GroupsFlight) (rows kept more own : List (List ℕ)) (same : SameSizes rows more) (as_many : SameSizes kept own) (fits : FitsGroups f rows kept) (buckets : BucketsState) (n : ℕ) (then : Reading) where
  again : FitsGroups f more own
  again = groups_refits f rows kept more own same as_many fits

  pub groups_fits_on : then ≡ read_on f.reading → FitsGroups (groups_on f buckets n then) more own
  groups_fits_on on = subst (λ (r : Reading). FitsGroups (groups_on f buckets n r) more own) (sym on) (record { table = fits_on f.reading more again.table; places = again.places; wide = again.wide })

  pub groups_fits_fault : then ≡ fault_on f.reading → FitsGroups (groups_on f buckets n then) more own
  groups_fits_fault on = subst (λ (r : Reading). FitsGroups (groups_on f buckets n r) more own) (sym on) (record { table = fits_fault f.reading more again.table; places = again.places; wide = again.wide })
