-- A SELECT of totals in flight: what it asks next, and that it stands whatever is done to other regions.
use Rattle.std.proofs.Common.{◌≡◌, inl, inr, ◌<◌, ◌≤◌, ◌*◌, ◌==◌, ◌||◌, ℕ, zero, suc, Bool, true, false, if◌then◌else◌, List, [], ◌∷◌, Option, Some, None, take, length, refl, sym, ◌∙◌, ap, subst, arith}
use Rattle.std.specs.Prelude.{slice_get}
use Rattle.std.proofs.lemmas.Bool.{eqb-true, eqb-false}
use Rattle.std.proofs.lemmas.Option.{slice_get_past}
use Rattle.std.proofs.Math.Arith.{lt_of_le-ne}
use Rattle.ob_base.specs.declared.access.Access.{Access}
use Rattle.ob_base.specs.declared.access.Access.TheVariants.{Read}
use Rattle.ob_base.specs.declared.seen.End.{End}
use Rattle.ob_base.specs.declared.skeleton.Skeleton.{Skeleton}
use Rattle.ob_base.specs.Events.{Event}
use Rattle.ob_script.specs.Flights.{prints}
use Rattle.ob_script.specs.Parts.{count_part}
use Rattle.ob_script.specs.Script.{until_end, whole_script}
use Rattle.ob_script.specs.Trace.{Served}
use Rattle.ob_script.proofs.Lengths.{length-count_part}
use Rattle.ob_script.proofs.Places.{at_read}
use Rattle.ob_store.proofs.Steps.{none_before}
use Rattle.ob_vault.specs.State.{World}
use Rattle.ob_vault.specs.Rows.{SameSizes}
use Rattle.ob_vault.specs.Places.{RowsFit}
use Rattle.ob_vault.proofs.Runs.{fit_same}
use Rattle.ob_base.specs.Schemas.{width}
use Rattle.ob_flat.specs.Flats.{table_region}
use Rattle.ob_flat.proofs.Scanning.{may_scan_lasts}
use Rattle.ob_flat.proofs.Tables.{represents_before}
use Rattle.ob_verdict.specs.declared.outcome.Outcome.{Outcome}
use Rattle.ob_inflight.specs.Leaving.{Leaves}
use Rattle.ob_inflight.specs.Progress.{ActsAs, act_of, numbered}
use Rattle.ob_stages.specs.declared.reading.Reading.{Reading}
use Rattle.ob_stages.specs.Reading.{Answered, EndsLater, FitsTable, IsReading, MayRead, NeedsTable, end_now, is_over, public_of, reading_progress, served_of}

-- ---- what it has seen by now may be
ends_now : (failed : Bool) (asked : ℕ) → EndsLater failed asked (end_now failed asked)
ends_now true asked = refl
ends_now false asked = inl refl

pub reading_served : (r : Reading) (events : List Event) (w : World) → IsReading r events w → MayRead r (served_of r)
reading_served r events w is = record { boarded = is.boarded; skeleton = refl; plain = refl; ends = ends_now r.failed r.asked }

-- ---- what it asks next
get_take : {A : Type 0} (xs : List A) (n i : ℕ) → i < n → slice_get (take n xs) i ≡ slice_get xs i
get_take xs zero i below = absurd (omega (arith, below))
get_take [] (suc n) i below = refl
get_take (x ∷ xs) (suc n) zero below = refl
get_take (x ∷ xs) (suc n) (suc i) below = get_take xs n i (omega (arith, below))

few_taken : {A : Type 0} (n : ℕ) (xs : List A) → length (take n xs) ≤ n
few_taken zero xs = omega arith
few_taken (suc n) [] = omega arith
few_taken (suc n) (x ∷ xs) = let rest = few_taken n xs in omega (arith, rest)

few_left : {A : Type 0} (n : ℕ) (xs : List A) → length (take n xs) ≤ length xs
few_left zero xs = omega arith
few_left (suc n) [] = omega arith
few_left (suc n) (x ∷ xs) = let rest = few_left n xs in omega (arith, rest)

module _ (region blocks asked : ℕ) (within : asked ≤ blocks) where
  abbrev reads : List Access
  reads = count_part region blocks

  size : length reads ≡ blocks
  size = length-count_part region blocks

  -- the next read, or none
  abbrev pub next_read : Bool → Option Access
  next_read over = if over then None else Some (Read region asked)

  past : (n : ℕ) → blocks ≤ asked → slice_get (take n reads) asked ≡ None
  past n all = let most = few_left n reads in slice_get_past (take n reads) asked (omega (arith, most, size, all))

  next_on : (over : Bool) (end : End) → (asked == blocks) ≡ over → EndsLater false asked end → slice_get (until_end end reads) asked ≡ next_read over
  next_on true end is ends =
      let all = eqb-true asked blocks is in
      elim ends [
        | inl whole ↦ ap (λ (e : End). slice_get (until_end e reads) asked) whole ∙ slice_get_past reads asked (omega (arith, size, all))
        | inr (n, cut, later) ↦ ap (λ (e : End). slice_get (until_end e reads) asked) cut ∙ past n (omega (arith, all))
      ]
  next_on false end is ends =
      let off = eqb-false asked blocks is in
      let here = at_read region blocks asked (lt_of_le-ne within off) in
      elim ends [
        | inl whole ↦ ap (λ (e : End). slice_get (until_end e reads) asked) whole ∙ here
        | inr (n, cut, later) ↦ ap (λ (e : End). slice_get (until_end e reads) asked) cut ∙ get_take reads n asked later ∙ here
      ]

  next_at : (failed : Bool) (end : End) → EndsLater failed asked end → slice_get (until_end end reads) asked ≡ next_read (failed || (asked == blocks))
  next_at true end ends =
      let most = few_taken asked reads in
      ap (λ (e : End). slice_get (until_end e reads) asked) ends ∙ slice_get_past (take asked reads) asked most
  next_at false end ends = next_on (asked == blocks) end refl ends

  prints_next : (over : Bool) → prints None (next_read over) ≡ over
  prints_next true = refl
  prints_next false = refl

module _ (r : Reading) (x : Served) (n : ℕ) (may : MayRead r x) where
  pub reading_next : act_of (reading_progress r) x n ≡ next_read r.flat.region r.blocks r.asked may.boarded.within (is_over r)
  reading_next =
      ap (λ (s : Skeleton). slice_get (until_end x.seen.end (whole_script (numbered n (public_of r)) s x.seen)) r.asked) may.skeleton
      ∙ ap (λ (l : List Access). slice_get (until_end x.seen.end l) r.asked) (may.boarded.script x.seen)
      ∙ next_at r.flat.region r.blocks r.asked may.boarded.within r.failed x.seen.end may.ends

  pub reading_acts : ActsAs (reading_progress r) x n
  reading_acts = record {
    prints = ap (prints None) reading_next ∙ prints_next r.flat.region r.blocks r.asked may.boarded.within (is_over r);
    over = λ over. reading_next ∙ ap (next_read r.flat.region r.blocks r.asked may.boarded.within) over;
  }

-- ---- others ask
module _ (r : Reading) (events : List Event) (w v : World) (leaves : Leaves (NeedsTable r) w v) where
  answered_frames : (outcome : Option Outcome) → Answered outcome r events w → Answered outcome r events v
  answered_frames None is = is
  answered_frames (Some outcome) is = record {
    ends = is.ends;
    emits = is.emits;
    told = λ whole q. is.told whole (record {
      slots = q.slots;
      is = represents_before r.public.now.pack r.flat _ w v leaves (λ no. no refl) q.slots q.is;
      nolie = none_before _ _ leaves.later q.nolie;
    });
  }

  pub reading_frames : IsReading r events w → IsReading r events v
  reading_frames is = record {
    ready = leaves.ready;
    boarded = is.boarded;
    table = may_scan_lasts r.public.now.pack r.flat _ w v leaves (λ no. no refl) is.table;
    some = is.some;
    going = is.going;
    answered = answered_frames r.outcome is.answered;
  }

pub reading_below : (r : Reading) (events : List Event) (w : World) (q : ℕ) → IsReading r events w → NeedsTable r q → q < w.vault.next
reading_below r events w q is here =
    subst (λ (p : ℕ). p < w.vault.next) (sym here)
    (is.ready.below r.flat.region (table_region is.table.written.order r.public.now.pack r.flat.schema r.flat.capacity) is.table.written.lives.live)

pub table_refits : (r : Reading) (rows more : List (List ℕ)) → SameSizes rows more → FitsTable r rows → FitsTable r more
table_refits r rows more same is = record {
  count = same.count ∙ is.count;
  fit = subst (λ (n : ℕ). RowsFit more (n * width r.flat.schema)) (sym same.count) (fit_same rows more _ same is.fit);
}
