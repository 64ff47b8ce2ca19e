-- The next act of a SELECT of rows in flight, whatever turns out to be seen of it.
use Rattle.std.proofs.Common.{◌≡◌, ◌<◌, ◌≤◌, ◌+◌, ◌*◌, ◌==◌, ℕ, Bool, true, false, List, [], ◌++◌, refl, sym, ◌∙◌, ap}
use Rattle.std.specs.Prelude.{Option, Some, None, slice_get, unwrap_or}
use Rattle.std.specs.Option.{option_map_or}
use Rattle.std.proofs.lemmas.Bool.{eq-eqb, eqb-true}
use Rattle.ob_base.specs.declared.access.Access.{Access}
use Rattle.ob_base.specs.declared.access.Access.TheVariants as Accesses
use Rattle.ob_base.specs.declared.config.Plan.{Plan}
use Rattle.ob_base.specs.declared.config.Plan.TheVariants.{Small}
use Rattle.ob_base.specs.declared.config.Planner.{Planner}
use Rattle.ob_base.specs.declared.config.Planner.TheVariants.{Forced}
use Rattle.ob_base.specs.declared.config.Public.{Public}
use Rattle.ob_base.specs.declared.schema.Shape.{Shape}
use Rattle.ob_base.specs.declared.seen.Seen.{Seen}
use Rattle.ob_base.specs.declared.skeleton.Skeleton.{Skeleton}
use Rattle.ob_base.specs.Indexes.{by_shape}
use Rattle.ob_base.specs.Limits.{buffered_blocks}
use Rattle.ob_base.specs.Numbers.{blocks_for}
use Rattle.ob_base.specs.Plans.{choose_padded, padded_rows}
use Rattle.ob_base.specs.Schemas.{width}
use Rattle.ob_base.specs.Stored.{Stored}
use Rattle.ob_inflight.specs.Progress.{ActsAs, act_of}
use Rattle.ob_script.specs.Flights.{prints}
use Rattle.ob_script.specs.Parts.{count_part, emission_part, small_part}
use Rattle.ob_script.specs.Script.{after_count, behind_count, blocks_of, extent_of, flat_script, index_part_of, result_part, rows_width, script, select_part, table_script, until_end, whole_script}
use Rattle.ob_script.specs.Trace.{Served}
use Rattle.ob_select.specs.Selecting.{Selection, region_of}
use Rattle.ob_small.specs.Selection as Smalls
use Rattle.ob_stages.specs.declared.rows.RowsFlight.{RowsFlight}
use Rattle.ob_stages.specs.declared.rows.Stage.{Stage}
use Rattle.ob_stages.specs.declared.rows.Stage.TheVariants.{Count, Make, Read, Write, Emit, Discard, Over}
use Rattle.ob_stages.specs.Going.{GoesOn, at_going}
use Rattle.ob_stages.specs.RowsStates.{RowsAt, IsFlown, ReadsTable, IsCounting, HasCounted, HasAsked, MaySee, MayServe, MayRows, PlacedAt, Takes, emits_before, is_over, is_printing, kept_blocks, part_blocks, progress_of, reads_before, rows_at, rows_progress, rows_skeleton, seen_taking, small, table_blocks, taken_by, writes_before}
use Rattle.ob_stages.specs.SmallActs as Acts
use Rattle.ob_script.proofs.Eaches.{at_front}
use Rattle.ob_script.proofs.Places.{at_read}
use Rattle.ob_select.proofs.ResultParts.{buffered_some}

-- the settings with the region of its result
abbrev pub with_region : Selection → ℕ → Public
with_region q r = record q.public { next_region = r }

-- what is left of the list after a result: nothing
abbrev pub left_by : (pad : Option ℕ) → Public → Seen → (k r : ℕ) → Stored ℕ → List Access
left_by None p seen k r t = result_part p seen.then k (r + 1) (extent_of t) ++ []
left_by (Some pad) p seen k r t = []

-- the accesses of a statement that takes so many rows
abbrev pub small_all : (pad : Option ℕ) → Public → Stored ℕ → (k r : ℕ) → (rest : List Access) → List Access
small_all pad p t k r rest =
    count_part t.held (blocks_of p (extent_of t))
    ++ ((small_part t.held r (blocks_of p (extent_of t)) (blocks_for p.pack (taken_by pad t.heading.capacity k)) (buffered_blocks p.pack p.buffer) (rows_width p (extent_of t))
    ++ emission_part r (blocks_for p.pack (taken_by pad t.heading.capacity k))) ++ rest)

behind_small : (pad : Option ℕ) (p : Public) (seen : Seen) (r k : ℕ) (t : Stored ℕ) → p.planner ≡ Forced Small → Takes pad k seen
    → count_part t.held (blocks_of p (extent_of t)) ++ behind_count pad p seen r (extent_of t) [] ≡ small_all pad p t k r (left_by pad p seen k r t)
behind_small None p seen r k t forced takes =
    ap (λ (o : Option ℕ). count_part t.held (blocks_of p (extent_of t)) ++ after_count p seen o r (extent_of t) []) takes.0
    ∙ ap (λ (o : Option Plan). count_part t.held (blocks_of p (extent_of t)) ++ (result_part p o k r (extent_of t) ++ (result_part p seen.then k (r + 1) (extent_of t) ++ []))) takes.1
behind_small (Some pad) p seen r k t forced takes =
    let q = padded_rows pad t.heading.capacity in
    ap (λ (planner : Planner). count_part t.held (blocks_of p (extent_of t)) ++ (result_part p (Some (choose_padded planner p.pack p.buffer t.heading.capacity q)) q r (extent_of t) ++ [])) forced

pub none_left : (pad : Option ℕ) (p : Public) (seen : Seen) (k r : ℕ) (t : Stored ℕ) → Takes pad k seen → left_by pad p seen k r t ≡ []
none_left None p seen k r t takes = ap (λ (o : Option Plan). result_part p o k (r + 1) (extent_of t) ++ []) takes.2
none_left (Some pad) p seen k r t takes = refl

module _ (q : Selection) (s : Skeleton) (flown : IsFlown q s) where
  reads : ReadsTable q s
  reads = flown.reads

  -- what is asked of it
  pub whole_is : (z : Skeleton) (seen : Seen) (r : ℕ) → z ≡ s → whole_script (with_region q r) z seen ≡ select_part (with_region q r) seen r (extent_of (region_of q)) []
  whole_is z seen r same =
      let p = with_region q r in
      let table = reads.table in
      ap (λ (y : Skeleton). whole_script p y seen) (same ∙ reads.is)
      ∙ ap (λ (o : Option (Stored ℕ)). option_map_or (table_script p seen) o []) reads.found
      ∙ ap (λ (h : Shape). by_shape h (flat_script p seen table) (index_part_of p seen.leaf table)) reads.flat
      ∙ (λ i. select_part p seen r (record { region = reads.region i; slots = reads.slots i; width = width (reads.schema i) }) [])

  pub script_is : (z : Skeleton) (seen : Seen) (r : ℕ) → z ≡ s → script (with_region q r) z seen ≡ until_end seen.end (select_part (with_region q r) seen r (extent_of (region_of q)) [])
  script_is z seen r same = ap (until_end seen.end) (whole_is z seen r same)

  pub whole_takes : (z : Skeleton) (seen : Seen) (r k : ℕ) → z ≡ s → Takes q.public.pad k seen
      → whole_script (with_region q r) z seen ≡ small_all q.public.pad (with_region q r) (region_of q) k r (left_by q.public.pad (with_region q r) seen k r (region_of q))
  whole_takes z seen r k same takes = whole_is z seen r same ∙ behind_small q.public.pad (with_region q r) seen r k (region_of q) flown.planner takes

  pub script_takes : (z : Skeleton) (seen : Seen) (r k : ℕ) → z ≡ s → Takes q.public.pad k seen
      → script (with_region q r) z seen ≡ until_end seen.end (small_all q.public.pad (with_region q r) (region_of q) k r (left_by q.public.pad (with_region q r) seen k r (region_of q)))
  script_takes z seen r k same takes = ap (until_end seen.end) (whole_takes z seen r k same takes)

  pub kept_some : 1 ≤ kept_blocks q
  kept_some = buffered_some q.public flown.settings

-- what is seen of one that has counted
pub takes_seen : (pad : Option ℕ) (k : ℕ) (seen : Seen) → seen ≡ seen_taking pad k → Takes pad k seen
takes_seen None k seen is = (ap (λ (s : Seen). s.k) is, ap (λ (s : Seen). s.plan) is, ap (λ (s : Seen). s.then) is)
takes_seen (Some pad) k seen is = tt

-- ---- the act of each stage
module _ (g : RowsAt) (flown : IsFlown g.q (rows_skeleton g.select)) (x : Served) (same : x.skeleton ≡ (rows_skeleton g.select)) (n : ℕ) where
  abbrev q : Selection
  q = g.q

  -- its act, where the region has this number
  act_is : (r : ℕ) → unwrap_or g.region n ≡ r → act_of (progress_of g) x n ≡ slice_get (script (with_region q r) x.skeleton x.seen) g.asked
  act_is r is = ap (λ (m : ℕ). slice_get (script (with_region q m) x.skeleton x.seen) g.asked) is

  -- of a count whatever is seen
  pub act_count : (u : ℕ) → IsCounting g u → GoesOn g.asked x.seen.end → act_of (progress_of g) x n ≡ Some (Accesses.Read q.flat.region u)
  act_count u at goes =
      let r = unwrap_or g.region n in
      let p = with_region q r in
      act_is r refl ∙ ap (λ (l : List Access). slice_get l g.asked) (script_is q (rows_skeleton g.select) flown x.skeleton x.seen r same)
      ∙ at_going x.seen.end (select_part p x.seen r (extent_of (region_of q)) []) g.asked (Accesses.Read q.flat.region u) goes
      (ap (slice_get (select_part p x.seen r (extent_of (region_of q)) [])) at.asked
      ∙ at_front (count_part q.flat.region (table_blocks q)) (behind_count p.pad p x.seen r (extent_of (region_of q)) []) u (Accesses.Read q.flat.region u) (at_read q.flat.region (table_blocks q) u at.below))

  module _ (goes : GoesOn g.asked x.seen.end) (takes : Takes q.public.pad g.k x.seen) where
    act_of_all : (r : ℕ) (a : Access) → unwrap_or g.region n ≡ r → slice_get (small_all q.public.pad (with_region q r) (region_of q) g.k r (left_by q.public.pad (with_region q r) x.seen g.k r (region_of q))) g.asked ≡ Some a
        → act_of (progress_of g) x n ≡ Some a
    act_of_all r a is at =
        act_is r is ∙ ap (λ (l : List Access). slice_get l g.asked) (script_takes q (rows_skeleton g.select) flown x.skeleton x.seen r g.k same takes)
        ∙ at_going x.seen.end _ g.asked a goes at

    -- its region is made
    pub act_make : HasCounted g (table_blocks q) → g.region ≡ None
        → act_of (progress_of g) x n ≡ Some (Accesses.Make n (Smalls.results (small q g.k)) (q.public.pack * width q.flat.schema + 32))
    act_make at none =
        let r = unwrap_or g.region n in
        let is : r ≡ n = ap (λ (o : Option ℕ). unwrap_or o n) none in
        act_of_all n _ is
        (ap (slice_get _) at.asked
        ∙ Acts.act_at_make q.flat.region n (table_blocks q) (Smalls.results (small q g.k)) (kept_blocks q) (q.public.pack * width q.flat.schema) (kept_some q (rows_skeleton g.select) flown) _)

    module _ (done own : ℕ) (at : HasCounted g done) (region : g.region ≡ Some own) where
      own_is : unwrap_or g.region n ≡ own
      own_is = ap (λ (o : Option ℕ). unwrap_or o n) region

      pub act_read : (pass u : ℕ) → done ≡ reads_before q pass u → pass < Smalls.passes (small q g.k) → u < table_blocks q → act_of (progress_of g) x n ≡ Some (Accesses.Read q.flat.region u)
      act_read pass u is inside below =
          act_of_all own _ own_is
          (Acts.act_in_read q.flat.region own (table_blocks q) (Smalls.results (small q g.k)) (kept_blocks q) (q.public.pack * width q.flat.schema) (kept_some q (rows_skeleton g.select) flown) _ g.asked pass u inside below (at.asked ∙ is))

      pub act_write : (pass b : ℕ) → done ≡ writes_before q pass b → pass < Smalls.passes (small q g.k) → b < part_blocks q g.k pass
          → act_of (progress_of g) x n ≡ Some (Accesses.Write own (pass * kept_blocks q + b))
      act_write pass b is inside below =
          act_of_all own _ own_is
          (Acts.act_in_write q.flat.region own (table_blocks q) (Smalls.results (small q g.k)) (kept_blocks q) (q.public.pack * width q.flat.schema) (kept_some q (rows_skeleton g.select) flown) _ g.asked pass b inside below (at.asked ∙ is))

      pub act_emit : (b : ℕ) → done ≡ emits_before q g.k b → b < Smalls.results (small q g.k) → act_of (progress_of g) x n ≡ Some (Accesses.Read own b)
      act_emit b is below =
          act_of_all own _ own_is
          (Acts.act_in_emit q.flat.region own (table_blocks q) (Smalls.results (small q g.k)) (kept_blocks q) (q.public.pack * width q.flat.schema) (kept_some q (rows_skeleton g.select) flown) _ g.asked b below (at.asked ∙ is))

      pub act_discard : done ≡ emits_before q g.k (Smalls.results (small q g.k)) → act_of (progress_of g) x n ≡ Some (Accesses.Discard own)
      act_discard is =
          act_of_all own _ own_is
          (Acts.act_at_discard q.flat.region own (table_blocks q) (Smalls.results (small q g.k)) (kept_blocks q) (q.public.pack * width q.flat.schema) (kept_some q (rows_skeleton g.select) flown) _ g.asked (at.asked ∙ is))

-- ---- the law
module _ (g : RowsAt) (x : Served) (n : ℕ) where
  -- what a known act tells
  acts_some : (a : Access) (b : Bool) → act_of (progress_of g) x n ≡ Some a → prints g.region (Some a) ≡ b → (progress_of g).prints ≡ b → (progress_of g).over ≡ false → ActsAs (progress_of g) x n
  acts_some a b act print same going = record {
    prints = ap (prints g.region) act ∙ print ∙ sym same;
    over = λ over. absurd (cc (over, going));
  }

  -- an act elsewhere than at its own region, and one there
  elsewhere : (o : Option ℕ) (t u own : ℕ) → o ≡ Some own → (t ≡ own → ⊥) → prints o (Some (Accesses.Read t u)) ≡ false
  elsewhere o t u own is apart = ap (λ (r : Option ℕ). prints r (Some (Accesses.Read t u))) is ∙ apart_eq t own apart
    where
      apart_eq : (a b : ℕ) → (a ≡ b → ⊥) → (a == b) ≡ false
      apart_eq a b off = go (a == b) refl
        where
          go : (c : Bool) → (a == b) ≡ c → c ≡ false
          go false is = refl
          go true is = absurd (off (eqb-true a b is))

  nowhere : (o : Option ℕ) (t u : ℕ) → o ≡ None → prints o (Some (Accesses.Read t u)) ≡ false
  nowhere o t u none = ap (λ (r : Option ℕ). prints r (Some (Accesses.Read t u))) none

  own_read : (o : Option ℕ) (own b : ℕ) → o ≡ Some own → prints o (Some (Accesses.Read own b)) ≡ true
  own_read o own b is = ap (λ (r : Option ℕ). prints r (Some (Accesses.Read own b))) is ∙ eq-eqb own own refl

  made : (o : Option ℕ) (r b l : ℕ) → prints o (Some (Accesses.Make r b l)) ≡ false
  made None r b l = refl
  made (Some own) r b l = refl

  written : (o : Option ℕ) (r b : ℕ) → prints o (Some (Accesses.Write r b)) ≡ false
  written None r b = refl
  written (Some own) r b = refl

  discarded : (o : Option ℕ) (r : ℕ) → prints o (Some (Accesses.Discard r)) ≡ false
  discarded None r = refl
  discarded (Some own) r = refl

module _ (g : RowsAt) (x : Served) (n : ℕ) (flown : IsFlown g.q (rows_skeleton g.select)) (same : x.skeleton ≡ (rows_skeleton g.select)) where
  acts_at : (stage : Stage) → g.stage ≡ stage → PlacedAt stage g → MaySee stage g x.seen → ActsAs (progress_of g) x n
  acts_at (Count u) is at goes =
      acts_some g x n (Accesses.Read g.q.flat.region u) false (act_count g flown x same n u at goes) (nowhere g x n g.region g.q.flat.region u at.region) (ap is_printing is) (ap is_over is)
  acts_at Make is at may =
      acts_some g x n _ false (act_make g flown x same n may.0 may.1 at.0 at.1) (made g x n g.region n (Smalls.results (small g.q g.k)) (g.q.public.pack * width g.q.flat.schema + 32)) (ap is_printing is) (ap is_over is)
  acts_at (Read pass u seen) is at may =
      let own = at.0.own in
      acts_some g x n _ false (act_read g flown x same n may.0 may.1 (reads_before g.q pass u) own at.0.counted at.0.region pass u refl at.1 at.2)
      (elsewhere g x n g.region g.q.flat.region u own at.0.region at.0.apart) (ap is_printing is) (ap is_over is)
  acts_at (Write pass b) is at may =
      let own = at.0.own in
      acts_some g x n _ false (act_write g flown x same n may.0 may.1 (writes_before g.q pass b) own at.0.counted at.0.region pass b refl at.1 at.2)
      (written g x n g.region own (pass * kept_blocks g.q + b)) (ap is_printing is) (ap is_over is)
  acts_at (Emit b) is at may =
      let own = at.0.own in
      acts_some g x n _ true (act_emit g flown x same n may.0 may.1 (emits_before g.q g.k b) own at.0.counted at.0.region b refl at.1)
      (own_read g x n g.region own b at.0.region) (ap is_printing is) (ap is_over is)
  acts_at Discard is at may =
      let own = at.own in
      acts_some g x n _ false (act_discard g flown x same n may.0 may.1 (emits_before g.q g.k (Smalls.results (small g.q g.k))) own at.counted at.region refl)
      (discarded g x n g.region own) (ap is_printing is) (ap is_over is)
  acts_at Over is at may =
      let none : act_of (progress_of g) x n ≡ None = served_same at in
      record { prints = ap (prints g.region) none ∙ sym (ap is_printing is); over = λ over. none }
    where
      served_same : HasAsked g → act_of (progress_of g) x n ≡ None
      served_same at = (λ i. act_of (progress_of g) (record { skeleton = same i; seen = may i }) n) ∙ at.ended n

pub acts_placed : (g : RowsAt) (x : Served) (n : ℕ) → MayServe g x → ActsAs (progress_of g) x n
acts_placed g x n is = acts_at g x n is.placed.flown is.same g.stage refl is.placed.at is.may

pub rows_acts : (f : RowsFlight) (x : Served) (n : ℕ) → MayRows f x → ActsAs (rows_progress f) x n
rows_acts f x n is = acts_placed (rows_at f) x n is
