-- What each step of a SELECT of rows in flight asks of what it calls.
use Rattle.std.proofs.Common.{◌≡◌, ◌<◌, ◌≤◌, ◌+◌, ◌-◌, ◌*◌, ◌^◌, ◌∷◌, Fits, w32, ℕ, List, [], refl, sym, subst, arith}
use Rattle.std.specs.Prelude.{None, Result, length, take, drop}
use Rattle.ob_base.specs.Events.{Event}
use Rattle.ob_base.specs.Limits.{buffered_blocks}
use Rattle.ob_flat.specs.declared.fault.OpErr.{OpErr}
use Rattle.ob_flat.specs.declared.flat.Flat.{Flat}
use Rattle.ob_flat.specs.Flats.{FitsRegion}
use Rattle.ob_flat.specs.Words.{HasSpare}
use Rattle.ob_flat.proofs.Tables.{fits_sized}
use Rattle.ob_inflight.specs.Answers.{IsHeld}
use Rattle.ob_row.specs.Truth.{is_true}
use Rattle.ob_select.specs.Selecting.{Selection}
use Rattle.ob_small.specs.Selection as Smalls
use Rattle.ob_small.specs.Steps.{CollectsBlock, WritesBlock}
use Rattle.ob_small.proofs.Lengths.{pass_inside, product_within}
use Rattle.ob_store.specs.Calls.{ChangesNothing}
use Rattle.ob_store.specs.State.{StoreState}
use Rattle.ob_vault.specs.Calls.{Went, none}
use Rattle.ob_vault.specs.Numbers.{spent}
use Rattle.ob_vault.specs.Rows.{SameSizes}
use Rattle.ob_vault.specs.State.{VaultState, World}
use Rattle.ob_vault.specs.Words.{MayAsk}
use Rattle.ob_vault.proofs.Runs.{went_spent}
use Rattle.ob_vault.proofs.WordLemmas.{ready_rests, went_rests}
use Rattle.ob_stages.specs.declared.rows.Stage.{Stage}
use Rattle.ob_stages.specs.declared.rows.Stage.TheVariants.{Make, Read, Write}
use Rattle.ob_stages.specs.RowsActs.{kept_some}
use Rattle.ob_stages.specs.RowsStates.{RowsAt, HasCounted, HasRegion, PlacedAt, kept_blocks, part_blocks, reads_before, result_in, rows_skeleton, small, table_blocks, taken, whole_length, writes_before}
use Rattle.ob_stages.specs.RowsHolds.{Collected, FitRows, FitsBlock, FitsShare, HasFilled, Holds, HoldsAt, IsCountOf, all_selected}
use Rattle.ob_stages.specs.RowsSteps.{HasPart, ShowsBlock, StepsAt}
use Rattle.ob_stages.proofs.RowsGoing.{few_at, results_most}
use Rattle.ob_stages.proofs.RowsPlaces.{booked_some}
use Rattle.ob_stages.proofs.RowsStands.{kept_inside}

-- ---- one that is read in a pass
module _ (g : RowsAt) (pass u seen others : ℕ) (kept : List (List ℕ)) (old : World) (steps : StepsAt g (Read pass u seen) others old) (is : IsHeld (Holds g kept) old) where
  reads_at : HasRegion g (reads_before g.q pass u) × (pass < Smalls.passes (small g.q g.k)) × (u < table_blocks g.q)
  reads_at = let placed = is.holds.placed in subst (λ (s : Stage). PlacedAt s g) steps.at placed.at

  pub read_some : 1 ≤ g.booked
  read_some = booked_some g (Read pass u seen) steps.at refl refl is.holds.placed reads_at

  pub read_spare : HasSpare 1 old
  read_spare = record { ready = steps.ready; spare = omega (arith, steps.spare, read_some) }

  -- the number of the first row that is kept
  pub read_first : pass * kept_blocks g.q ≤ 16777216
  read_first =
      let placed = is.holds.placed in
      let counted = reads_at.0.counted in
      omega (arith, pass_inside (Smalls.results (small g.q g.k)) (kept_blocks g.q) pass (kept_some g.q (rows_skeleton g.select) placed.flown) reads_at.1, results_most g.q (rows_skeleton g.select) placed.flown g.k counted.most)

  pub read_from : (pass * kept_blocks g.q) * g.q.public.pack ≤ 268435456
  read_from =
      let placed = is.holds.placed in
      let product = product_within (pass * kept_blocks g.q) 16777216 g.q.public.pack read_first in
      omega (arith, product, placed.flown.settings.pack_most)

-- ---- one that is written
module _ (g : RowsAt) (pass x own others : ℕ) (kept : List (List ℕ)) (old : World) (steps : StepsAt g (Write pass x) others old) (is : IsHeld (Holds g kept) old) where
  writes_at : HasRegion g (writes_before g.q pass x) × (pass < Smalls.passes (small g.q g.k)) × (x < part_blocks g.q g.k pass)
  writes_at = let placed = is.holds.placed in subst (λ (s : Stage). PlacedAt s g) steps.at placed.at

  writes_held : (is.events ≡ []) × IsCountOf g old (all_selected g) × ((seen : ℕ) × Collected g pass (table_blocks g.q) seen kept old) × HasFilled g (pass * kept_blocks g.q + x) old
  writes_held = let held = is.holds in subst (λ (s : Stage). HoldsAt s g kept is.events old) steps.at held.at

  pub write_some : 1 ≤ g.booked
  write_some = booked_some g (Write pass x) steps.at refl refl is.holds.placed writes_at

  pub write_asks : MayAsk 1 old
  write_asks = record {
    ready = steps.ready;
    spare = omega (arith, steps.spare, write_some);
    few = omega (arith, steps.few, few_at g is.holds.placed (Write pass x) steps.at refl);
  }

  pub write_part_of : FitsShare g.q kept → HasPart g.q.flat.schema g.q.public.pack x kept
  write_part_of fit =
      let placed = is.holds.placed in
      let settings = placed.flown.settings in
      let collected = writes_held.2.1 in
      record {
        some = settings.pack_least;
        few = omega (arith, fit.space, share_few g.q.public.pack g.q.public.buffer settings.pack_least, settings.most);
        inside = kept_inside g.q g.k pass x (length kept) fit.space writes_at.2;
        wide = fit.wide;
        spells = collected.spells;
      }
    where
      share_few : (pack buffer : ℕ) → 1 ≤ pack → buffered_blocks pack buffer * pack ≤ buffer
      share_few pack buffer some = grind arith

-- ---- its region
module _ (g : RowsAt) (others : ℕ) (kept : List (List ℕ)) (v : VaultState) (s t : StoreState) (steps : StepsAt g Make others (record { vault = v; store = s })) (is : IsHeld (Holds g kept) (record { vault = v; store = s }))
    (rests : ChangesNothing s t) where
  makes_at : HasCounted g (table_blocks g.q) × (g.region ≡ None)
  makes_at = let placed = is.holds.placed in subst (λ (st : Stage). PlacedAt st g) steps.at placed.at

  pub make_spare : (n : ℕ) → n ≡ whole_length g.q g.k - g.asked → others + n ≤ t.spare → HasSpare 1 (record { vault = v; store = t })
  make_spare n enough spare = record { ready = ready_rests v s t rests steps.ready; spare = omega (arith, enough, spare, makes_at.0.asked) }

  pub make_few : spent (record { vault = v; store = t }) < 2 ^ 63 + 2 ^ 60
  make_few =
      let went : Went [] none (record { vault = v; store = s }) (record { vault = v; store = t }) = went_rests v s t rests none steps.ready in
      omega (arith, steps.few, went_spent none [] (record { vault = v; store = s }) (record { vault = v; store = t }) went)

  pub make_size : FitsRegion g.q.public.pack g.q.flat.schema (taken g.q g.k)
  make_size =
      let placed = is.holds.placed in
      let size = placed.flown.size in
      let counted = makes_at.0 in
      fits_sized g.q.public.pack g.q.flat.schema (taken g.q g.k) placed.flown.settings.pack_least
      (record { some = size.some; few = size.few; wide = size.wide; least = counted.some; most = omega (arith, counted.most, size.most) })

-- ---- its open rows fit it still
pub fits_still : (g h : RowsAt) (rows kept : List (List ℕ)) → h.q.public ≡ g.q.public → h.q.flat ≡ g.q.flat → FitRows g.q rows kept → FitRows h.q rows kept
fits_still g h rows kept public flat is =
    subst (λ (q : Selection). FitRows q rows kept) (λ i. record h.q { public = sym public i; flat = sym flat i })
    (let here : FitRows (record h.q { public = g.q.public; flat = g.q.flat }) rows kept = record { block = record { count = is.block.count; fit = is.block.fit }; share = record { space = is.share.space; wide = is.share.wide } } in here)

-- ---- what came of it, in the words of the flight
-- a number of 32 bits
pub fits_as : (n m : ℕ) → n ≡ m → m ≤ 268435456 → Fits w32 n
fits_as n m same few = omega (arith, same, few)

pub collects_none : (g : RowsAt) (u : ℕ) (rows after : List (List ℕ)) (result found : Result ℕ OpErr) (old new : World) → FitsBlock g.q rows → SameSizes [] after → result ≡ found
    → CollectsBlock (length rows) g.q.flat (is_true g.q.condition) u g.k 0 0 [] after result old new → CollectsBlock g.q.public.pack g.q.flat (is_true g.q.condition) u g.k 0 0 [] [] found old new
collects_none g u rows after result found old new fit same is block =
    subst (λ (r : Result ℕ OpErr). CollectsBlock g.q.public.pack g.q.flat (is_true g.q.condition) u g.k 0 0 [] [] r old new) is
    (subst (λ (l : List (List ℕ)). CollectsBlock g.q.public.pack g.q.flat (is_true g.q.condition) u g.k 0 0 [] l result old new) (none_left after same.count)
    (subst (λ (n : ℕ). CollectsBlock n g.q.flat (is_true g.q.condition) u g.k 0 0 [] after result old new) fit.count block))
  where
    none_left : (l : List (List ℕ)) → length l ≡ 0 → l ≡ []
    none_left [] none = refl
    none_left (x ∷ l) none = absurd (omega (arith, none))

pub collects_as : (g : RowsAt) (pass u seen from k : ℕ) (rows kept after : List (List ℕ)) (result found : Result ℕ OpErr) (old new : World) → FitsBlock g.q rows → from ≡ (pass * kept_blocks g.q) * g.q.public.pack → k ≡ taken g.q g.k → result ≡ found
    → CollectsBlock (length rows) g.q.flat (is_true g.q.condition) u seen from k kept after result old new
    → CollectsBlock g.q.public.pack g.q.flat (is_true g.q.condition) u seen ((pass * kept_blocks g.q) * g.q.public.pack) (taken g.q g.k) kept after found old new
collects_as g pass u seen from k rows kept after result found old new fit from_is k_is is block =
    subst (λ (r : Result ℕ OpErr). CollectsBlock g.q.public.pack g.q.flat (is_true g.q.condition) u seen ((pass * kept_blocks g.q) * g.q.public.pack) (taken g.q g.k) kept after r old new) is
    (subst (λ (m : ℕ). CollectsBlock g.q.public.pack g.q.flat (is_true g.q.condition) u seen ((pass * kept_blocks g.q) * g.q.public.pack) m kept after result old new) k_is
    (subst (λ (m : ℕ). CollectsBlock g.q.public.pack g.q.flat (is_true g.q.condition) u seen m k kept after result old new) from_is
    (subst (λ (n : ℕ). CollectsBlock n g.q.flat (is_true g.q.condition) u seen from k kept after result old new) fit.count block)))

pub writes_as : (g : RowsAt) (pack place x there own : ℕ) (to : Flat) (kept : List (List ℕ)) (result found : Result (Unit {0}) OpErr) (old new : World) → pack ≡ g.q.public.pack → to ≡ result_in g.q g.k own → there ≡ place → result ≡ found
    → WritesBlock pack to there (take pack (drop (x * pack) kept)) result old new
    → WritesBlock g.q.public.pack (result_in g.q g.k own) place (take g.q.public.pack (drop (x * g.q.public.pack) kept)) found old new
writes_as g pack place x there own to kept result found old new pack_is to_is there_is is block =
    subst (λ (r : Result (Unit {0}) OpErr). WritesBlock g.q.public.pack (result_in g.q g.k own) place (take g.q.public.pack (drop (x * g.q.public.pack) kept)) r old new) is
    (subst (λ (m : ℕ). WritesBlock g.q.public.pack (result_in g.q g.k own) m (take g.q.public.pack (drop (x * g.q.public.pack) kept)) result old new) there_is
    (subst (λ (f : Flat). WritesBlock g.q.public.pack f there (take g.q.public.pack (drop (x * g.q.public.pack) kept)) result old new) to_is
    (subst (λ (n : ℕ). WritesBlock n to there (take n (drop (x * n) kept)) result old new) pack_is block)))

pub shows_as : {E : Type 0} (grew cut : E → E → List Event → Type 0) (faults : E → ℕ) (g : RowsAt) (x own : ℕ) (fresh : Flat) (rows : List (List ℕ)) (result found : Result ℕ OpErr) (old new : World) (out_old out_new : E) → FitsBlock g.q rows
    → fresh ≡ result_in g.q g.k own → result ≡ found → ShowsBlock grew cut faults (length rows) g fresh x result old new out_old out_new → ShowsBlock grew cut faults g.q.public.pack g (result_in g.q g.k own) x found old new out_old out_new
shows_as grew cut faults g x own fresh rows result found old new out_old out_new fit fresh_is is block =
    subst (λ (r : Result ℕ OpErr). ShowsBlock grew cut faults g.q.public.pack g (result_in g.q g.k own) x r old new out_old out_new) is
    (subst (λ (f : Flat). ShowsBlock grew cut faults g.q.public.pack g f x result old new out_old out_new) fresh_is
    (subst (λ (n : ℕ). ShowsBlock grew cut faults n g fresh x result old new out_old out_new) fit.count block))
