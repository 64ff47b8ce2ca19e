-- What lasts of a SELECT of rows in flight, whatever is done to other regions.
use Rattle.std.proofs.Common.{◌≡◌, inl, inr, ◌<◌, ◌+◌, ◌*◌, ℕ, Bool, true, false, IsTrue, List, [], refl, sym, ◌∙◌, ap, subst, arith}
use Rattle.std.specs.Prelude.{Option, Some, None, length}
use Rattle.ob_base.specs.declared.refusal.Refusal.{Refusal}
use Rattle.ob_base.specs.declared.refusal.Refusal.TheVariants as Refusals
use Rattle.ob_base.specs.declared.seen.Seen.{Seen}
use Rattle.ob_base.specs.Events.{Event}
use Rattle.ob_emit.proofs.BlocksEmitted.{emitted_lasts}
use Rattle.ob_flat.specs.Flats.{table_region}
use Rattle.ob_flat.proofs.Rows.{wide_same}
use Rattle.ob_flat.proofs.Scanning.{may_scan_lasts}
use Rattle.ob_flat.proofs.Tables.{represents_before}
use Rattle.ob_inflight.specs.Leaving.{Leaves}
use Rattle.ob_row.specs.Slots.{Slots}
use Rattle.ob_row.specs.Truth.{is_true}
use Rattle.ob_base.specs.Schemas.{width}
use Rattle.ob_select.specs.Selecting.{Selection}
use Rattle.ob_small.specs.Selection as Small
use Rattle.ob_small.proofs.Steps.{collected_lasts, filled_lasts, unordered_lasts}
use Rattle.ob_store.proofs.Steps.{none_before}
use Rattle.ob_vault.specs.Calls.{Lasts}
use Rattle.ob_vault.specs.Places.{RowsFit}
use Rattle.ob_vault.specs.Rows.{SameSizes}
use Rattle.ob_vault.specs.State.{World}
use Rattle.ob_vault.specs.Tied.{Ready}
use Rattle.ob_vault.specs.Words.{IsHonest}
use Rattle.ob_vault.proofs.Runs.{fit_same}
use Rattle.ob_verdict.specs.declared.outcome.Outcome.{Outcome}
use Rattle.ob_verdict.specs.declared.outcome.Outcome.TheVariants as Outcomes
use Rattle.ob_stages.specs.declared.rows.RowsFlight.{RowsFlight}
use Rattle.ob_stages.specs.declared.rows.Stage.{Stage}
use Rattle.ob_stages.specs.declared.rows.Stage.TheVariants.{Count, Make, Read, Write, Emit, Discard, Over}
use Rattle.ob_stages.specs.Going.{GoesOn}
use Rattle.ob_stages.specs.RowsActs.{takes_seen}
use Rattle.ob_stages.specs.RowsStates.{RowsAt, HasCounted, MaySee, MayRows, MayTake, PlacedAt, kept_blocks, result_in, rows_at, rows_progress, seen_taking, small, table_blocks, taken}
use Rattle.ob_stages.specs.RowsHolds.{AnswersRows, AsMeant, EndedAt, FitRows, HasFilled, HasShown, Holds, HoldsAt, IsCountOf, IsCutOff, IsGone, IsToEnd, NeedsAt, RowsFits, RowsHold, RowsNeeds, all_selected, own_at}

-- ---- frames
-- an honest world was honest before
pub honest_back : (some : ℕ → Type 0) (w v : World) → Lasts some w v → IsHonest v v → IsHonest w w
honest_back some w v lasts is = record { tells = subst (λ (b : Bool). IsTrue b) lasts.later.tells is.tells; nolie = none_before _ _ lasts.later is.nolie }

module _ (g : RowsAt) (some : ℕ → Type 0) (w v : World) (lasts : Lasts some w v) (off : some g.q.flat.region → ⊥) where
  pub count_lasts : (chosen_of : Slots → Slots) → IsCountOf g w chosen_of → IsCountOf g v chosen_of
  count_lasts chosen_of is = record {
    told = λ slots held nolie. is.told slots (represents_before g.q.public.pack g.q.flat some w v lasts off slots held) (none_before _ _ lasts.later nolie);
  }

  module _ (own : ℕ) (region : g.region ≡ Some own) (other : some own → ⊥) where
    filled_at : (blocks : ℕ) (is : HasFilled g blocks w) → is.own ≡ own → HasFilled g blocks v
    filled_at blocks is same =
        let apart : some is.own → ⊥ = λ s. other (subst some same s) in
        record {
          own = is.own;
          region = is.region;
          unordered = unordered_lasts g.q.public.pack (result_in g.q g.k is.own) some w v lasts apart is.unordered;
          filled = filled_lasts (small g.q g.k) (result_in g.q g.k is.own) blocks some w v lasts off apart is.filled;
        }

    own_same : (blocks : ℕ) (is : HasFilled g blocks w) → is.own ≡ own
    own_same blocks is = cc (is.region, region)

    pub has_filled_lasts : (blocks : ℕ) → HasFilled g blocks w → HasFilled g blocks v
    has_filled_lasts blocks is = filled_at blocks is (own_same blocks is)

    pub has_shown_lasts : (blocks : ℕ) (events : List Event) → HasShown g blocks events w → HasShown g blocks events v
    unfolding has_filled_lasts filled_at
    has_shown_lasts blocks events is =
        let all = Small.results (small g.q g.k) in
        let mine = is.filled.own in
        let apart : some mine → ⊥ = λ s. other (subst some (own_same all is.filled) s) in
        record {
          rows = is.rows;
          is = is.is;
          passed = is.passed;
          filled = has_filled_lasts all is.filled;
          read = record {
            may = may_scan_lasts g.q.public.pack (result_in g.q g.k mine) some w v lasts apart is.read.may;
            emitted = λ shown. emitted_lasts g.q.public.pack (result_in g.q g.k mine) g.q.cols blocks g.shown is.rows w (is.read.emitted shown) v some lasts apart;
          };
        }

  -- of one that has nothing left to ask
  as_meant_lasts : (o : Outcome) (seen : Seen) (events : List Event) → AsMeant g.q o seen events w → AsMeant g.q o seen events v
  as_meant_lasts o seen events is = record {
    told = λ slots held honest. is.told slots (represents_before g.q.public.pack g.q.flat some w v lasts off slots held) (honest_back some w v lasts honest);
  }

  cut_lasts : (seen : Seen) (asked : ℕ) (events : List Event) → IsCutOff g.q seen asked events w → IsCutOff g.q seen asked events v
  cut_lasts seen asked events is = record {
    some = is.some;
    seen = is.seen;
    begun = is.begun;
    told = λ slots held honest. is.told slots (represents_before g.q.public.pack g.q.flat some w v lasts off slots held) (honest_back some w v lasts honest);
  }

  refused_lasts : (r : Refusal) (seen : Seen) (asked : ℕ) (events : List Event) → AnswersRows g.q (Outcomes.Refused r) seen asked events w → AnswersRows g.q (Outcomes.Refused r) seen asked events v
  refused_lasts Refusals.PadPassed seen asked events is = (is.0, as_meant_lasts (Outcomes.Refused Refusals.PadPassed) seen events is.1)
  refused_lasts Refusals.StoreFault seen asked events is = cut_lasts seen asked events is
  refused_lasts _ seen asked events is = absurd is

  answers_lasts : (o : Outcome) (seen : Seen) (asked : ℕ) (events : List Event) → AnswersRows g.q o seen asked events w → AnswersRows g.q o seen asked events v
  answers_lasts (Outcomes.Rows n) seen asked events is = (is.0, as_meant_lasts (Outcomes.Rows n) seen events is.1)
  answers_lasts (Outcomes.Refused r) seen asked events is = refused_lasts r seen asked events is
  answers_lasts _ seen asked events is = absurd is

  pub to_end_lasts : (events : List Event) → IsToEnd g events w → IsToEnd g events v
  to_end_lasts events is = record {
    seen = is.seen;
    few = is.few;
    rows = is.rows;
    is = is.is;
    count = is.count;
    told = λ slots held honest. is.told slots (represents_before g.q.public.pack g.q.flat some w v lasts off slots held) (honest_back some w v lasts honest);
  }

  ended_lasts : (failed : Bool) (o : Option Outcome) (events : List Event) → EndedAt failed o g events w → EndedAt failed o g events v
  ended_lasts true None events is = cut_lasts g.seen g.asked events is
  ended_lasts false None events is = to_end_lasts events is
  ended_lasts true (Some o) events is = answers_lasts o g.seen g.asked events is
  ended_lasts false (Some o) events is = answers_lasts o g.seen g.asked events is

  -- a region that is gone stays away
  gone_lasts : (made : Option ℕ) → IsGone made w → IsGone made v
  gone_lasts made is = record {
    below = λ r mine. let was = is.below r mine in omega (arith, was, lasts.shapes.next);
    gone = λ r mine. elim (lasts.shapes.shapes r (is.below r mine)) [ inl gone ↦ gone | inr same ↦ same ∙ is.gone r mine ];
  }

  holds_lasts : (kept : List (List ℕ)) (events : List Event) (stage : Stage) → ((own : ℕ) → own_at stage g.region ≡ Some own → some own → ⊥) → HoldsAt stage g kept events w → HoldsAt stage g kept events v
  holds_lasts kept events (Count u) other is = (is.0, collected_lasts g.q.public.pack g.q.flat (is_true g.q.condition) 0 0 u g.k [] some w v lasts off is.1)
  holds_lasts kept events Make other is = (is.0, count_lasts (all_selected g) is.1)
  holds_lasts kept events (Read pass u seen) other is =
      let own = is.3.own in (
        is.0,
        count_lasts (all_selected g) is.1,
        collected_lasts g.q.public.pack g.q.flat (is_true g.q.condition) ((pass * kept_blocks g.q) * g.q.public.pack) (taken g.q g.k) u seen kept some w v lasts off is.2,
        has_filled_lasts own is.3.region (other own is.3.region) (pass * kept_blocks g.q) is.3,
      )
  holds_lasts kept events (Write pass x) other is =
      let own = is.3.own in (
        is.0,
        count_lasts (all_selected g) is.1,
        (is.2.0, collected_lasts g.q.public.pack g.q.flat (is_true g.q.condition) ((pass * kept_blocks g.q) * g.q.public.pack) (taken g.q g.k) (table_blocks g.q) is.2.0 kept some w v lasts off is.2.1),
        has_filled_lasts own is.3.region (other own is.3.region) (pass * kept_blocks g.q + x) is.3,
      )
  holds_lasts kept events (Emit x) other is =
      let own = is.1.filled.own in (count_lasts (all_selected g) is.0, has_shown_lasts own is.1.filled.region (other own is.1.filled.region) x events is.1)
  holds_lasts kept events Discard other is =
      let own = is.1.filled.own in (count_lasts (all_selected g) is.0, has_shown_lasts own is.1.filled.region (other own is.1.filled.region) (Small.results (small g.q g.k)) events is.1)
  holds_lasts kept events Over other is = (gone_lasts g.region is.0, ended_lasts g.failed g.outcome events is.1)

-- whatever was done to other regions
pub holds_frames : (g : RowsAt) (kept : List (List ℕ)) (events : List Event) (w v : World) (some : ℕ → Type 0) → Lasts some w v → (some g.q.flat.region → ⊥) → ((own : ℕ) → own_at g.stage g.region ≡ Some own → some own → ⊥)
    → Holds g kept events w → Holds g kept events v
holds_frames g kept events w v some lasts off other is = record {
  ready = lasts.ready;
  placed = is.placed;
  table = may_scan_lasts g.q.public.pack g.q.flat some w v lasts off is.table;
  at = holds_lasts g some w v lasts off kept events g.stage other is.at;
}

pub rows_frames : (f : RowsFlight) (kept : List (List ℕ)) (events : List Event) (w v : World) → Leaves (RowsNeeds f) w v → RowsHold f kept events w → RowsHold f kept events v
rows_frames f kept events w v leaves is =
    let g = rows_at f in
    let off : (NeedsAt g g.q.flat.region → ⊥) → ⊥ = λ no. no (inl refl) in
    holds_frames g kept events w v (λ r. NeedsAt g r → ⊥) leaves off (λ own mine no. no (inr mine)) is

-- ---- its regions were made
lives_below : (w : World) → Ready w → (r own : ℕ) (shape : Rattle.ob_vault.specs.declared.region.Region.Region) → own ≡ r → w.vault.revs.live own ≡ Some shape → r < w.vault.next
lives_below w ready r own shape same live = subst (λ (q : ℕ). q < w.vault.next) same (ready.below own shape live)

module _ (g : RowsAt) (kept : List (List ℕ)) (events : List Event) (w : World) (ready : Ready w) (r : ℕ) where
  filled_below : (blocks : ℕ) → HasFilled g blocks w → g.region ≡ Some r → r < w.vault.next
  filled_below blocks is mine =
      let same : is.own ≡ r = cc (is.region, mine) in
      lives_below w ready r is.own _ same is.unordered.lives.live

  pub own_below : (stage : Stage) → PlacedAt stage g → HoldsAt stage g kept events w → own_at stage g.region ≡ Some r → r < w.vault.next
  own_below (Count u) at is mine = absurd (cc (at.region, mine))
  own_below Make at is mine = absurd (cc (at.1, mine))
  own_below (Read pass u seen) at is mine = filled_below (pass * kept_blocks g.q) is.3 mine
  own_below (Write pass x) at is mine = filled_below (pass * kept_blocks g.q + x) is.3 mine
  own_below (Emit x) at is mine = filled_below (Small.results (small g.q g.k)) is.1.filled mine
  own_below Discard at is mine = filled_below (Small.results (small g.q g.k)) is.1.filled mine
  own_below Over at is mine = absurd (cc mine)

pub rows_below : (f : RowsFlight) (kept : List (List ℕ)) (events : List Event) (w : World) (r : ℕ) → RowsHold f kept events w → RowsNeeds f r → r < w.vault.next
rows_below f kept events w r is needs = elim needs [
  | inl table ↦
      let g = rows_at f in
      let written = is.table.written in
      lives_below w is.ready r g.q.flat.region (table_region written.order g.q.public.pack g.q.flat.schema g.q.flat.capacity) (sym table) written.lives.live
  | inr mine ↦ own_below (rows_at f) kept events w is.ready r (rows_at f).stage is.placed.at is.at mine
]

-- ---- what it has seen may be
module _ (g : RowsAt) where
  pub goes_whole : (asked : ℕ) (seen : Seen) (pad : Option ℕ) (k : ℕ) → seen ≡ seen_taking pad k → GoesOn asked seen.end
  goes_whole asked seen None k is = subst (λ (s : Seen). GoesOn asked s.end) (sym is) tt
  goes_whole asked seen (Some pad) k is = subst (λ (s : Seen). GoesOn asked s.end) (sym is) tt

  counted_may : (n : ℕ) → HasCounted g n → MayTake g g.seen
  counted_may n is = (goes_whole g.asked g.seen g.q.public.pad g.k is.seen, takes_seen g.q.public.pad g.k g.seen is.seen)

  served_may : (stage : Stage) → PlacedAt stage g → MaySee stage g g.seen
  served_may (Count u) at = subst (λ (s : Seen). GoesOn g.asked s.end) (sym at.seen) tt
  served_may Make at = counted_may (table_blocks g.q) at.0
  served_may (Read pass u seen) at = counted_may _ at.0.counted
  served_may (Write pass x) at = counted_may _ at.0.counted
  served_may (Emit x) at = counted_may _ at.0.counted
  served_may Discard at = counted_may _ at.counted
  served_may Over at = refl

  none_taken : (pad : Option ℕ) (k : ℕ) (seen : Seen) → seen ≡ seen_taking pad k → seen.then ≡ None
  none_taken None k seen is = ap (λ (s : Seen). s.then) is
  none_taken (Some pad) k seen is = ap (λ (s : Seen). s.then) is

  pub served_second : (stage : Stage) → PlacedAt stage g → g.seen.then ≡ None
  served_second (Count u) at = ap (λ (s : Seen). s.then) at.seen
  served_second Make at = none_taken g.q.public.pad g.k g.seen at.0.seen
  served_second (Read pass u seen) at = none_taken g.q.public.pad g.k g.seen at.0.counted.seen
  served_second (Write pass x) at = none_taken g.q.public.pad g.k g.seen at.0.counted.seen
  served_second (Emit x) at = none_taken g.q.public.pad g.k g.seen at.0.counted.seen
  served_second Discard at = none_taken g.q.public.pad g.k g.seen at.counted.seen
  served_second Over at = at.second

pub rows_served : (f : RowsFlight) (kept : List (List ℕ)) (events : List Event) (w : World) → RowsHold f kept events w → MayRows f (rows_progress f).served
rows_served f kept events w is =
    let g = rows_at f in record { placed = is.placed; same = refl; second = served_second g g.stage is.placed.at; may = served_may g g.stage is.placed.at }

-- ---- its open rows
pub fit_again : (q : Selection) (rows kept more own : List (List ℕ)) → SameSizes rows more → SameSizes kept own → FitRows q rows kept → FitRows q more own
fit_again q rows kept more own same alike is = record {
  block = record {
    count = same.count ∙ is.block.count;
    fit = subst (λ (n : ℕ). RowsFit more (n * width q.flat.schema)) (sym same.count) (fit_same rows more (length rows * width q.flat.schema) same is.block.fit);
  };
  share = record { space = alike.count ∙ is.share.space; wide = wide_same (width q.flat.schema) kept own alike is.share.wide };
}

pub rows_refits : (f : RowsFlight) (rows kept more own : List (List ℕ)) → SameSizes rows more → SameSizes kept own → RowsFits f rows kept → RowsFits f more own
rows_refits f rows kept more own same alike is = fit_again (rows_at f).q rows kept more own same alike is
