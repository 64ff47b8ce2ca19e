-- Where a SELECT of rows in flight is after each step.
use Rattle.std.proofs.Common.{◌≡◌, ◌<◌, ◌≤◌, ◌+◌, ◌-◌, ◌*◌, ℕ, Bool, true, false, List, [], refl, sym, ◌∙◌, ap, subst, arith, length-append}
use Rattle.std.specs.Prelude.{Option, Some, None, length, nat_lt, slice_get, unwrap_or}
use Rattle.std.proofs.lemmas.Bool.Decides.{nat_tests}
use Rattle.std.proofs.lemmas.Grind.{div_ceil_times}
use Rattle.ob_base.specs.declared.access.Access.{Access}
use Rattle.ob_base.specs.declared.seen.End.TheVariants.{Whole, Cut}
use Rattle.ob_base.specs.declared.seen.Seen.{Seen}
use Rattle.ob_base.specs.declared.skeleton.Skeleton.{Skeleton}
use Rattle.ob_base.specs.Numbers.{blocks_for}
use Rattle.ob_base.specs.Plans.{IsPadded}
use Rattle.ob_mean.specs.Verdict.{counted}
use Rattle.ob_script.specs.Parts.{count_part}
use Rattle.ob_script.specs.Script.{behind_count, extent_of, select_part, whole_script}
use Rattle.ob_script.proofs.Lengths.{length-count_part}
use Rattle.ob_select.specs.Selecting.{Selection, region_of}
use Rattle.ob_small.specs.Selection as Smalls
use Rattle.ob_small.proofs.Lengths.{pass_inside}
use Rattle.ob_stages.specs.declared.rows.Stage.{Stage}
use Rattle.ob_stages.specs.declared.rows.Stage.TheVariants.{Count, Make, Over}
use Rattle.ob_stages.specs.Going.{past_cut, past_end}
use Rattle.ob_stages.specs.RowsActs.{kept_some, left_by, none_left, script_is, script_takes, small_all, takes_seen, whole_is, whole_takes, with_region}
use Rattle.ob_stages.specs.RowsStates.{RowsAt, HasAsked, HasCounted, HasRegion, IsCounting, IsFlown, IsPlaced, PlacedAt, ShownAt, Takes, emits_before, end_by, is_over, kept_blocks, known, known_by, part_blocks, reads_before, rows_skeleton, seen_taking, small, table_blocks, taken, taken_by, whole_length, writes_before}
use Rattle.ob_stages.specs.RowsSteps.{gone_wrong}
use Rattle.ob_stages.specs.SmallActs as Acts
use Rattle.ob_stages.proofs.RowsGoing.{behind_at, is_behind, stepped}
use Rattle.ob_base.specs.Schemas.{width}

-- a test of numbers
pub less_so : (a b : ℕ) → nat_lt a b ≡ true → a < b
less_so a b is = grind (arith, nat_tests)

pub not_less : (a b : ℕ) → nat_lt a b ≡ false → b ≤ a
not_less a b is = grind (arith, nat_tests)

-- the sizes of a result
pub some_blocks : (pack n : ℕ) → 1 ≤ pack → 1 ≤ n → 1 ≤ blocks_for pack n
some_blocks pack n some enough = grind arith

pub table_some : (q : Selection) (s : Skeleton) → IsFlown q s → 1 ≤ table_blocks q
table_some q s flown = some_blocks q.public.pack q.flat.capacity flown.settings.pack_least flown.size.least

module _ (q : Selection) (s : Skeleton) (flown : IsFlown q s) (k : ℕ) (some : 1 ≤ taken q k) where
  pub results_some : 1 ≤ Smalls.results (small q k)
  results_some = some_blocks q.public.pack (taken q k) flown.settings.pack_least some

  pub passes_some : 1 ≤ Smalls.passes (small q k)
  passes_some = some_blocks (kept_blocks q) (Smalls.results (small q k)) (kept_some q s flown) results_some

-- what a padded result takes hangs on no count
pub known_same : (q : Selection) (pad : Option ℕ) (c k n : ℕ) → q.public.pad ≡ pad → known_by pad c (whole_length q k) ≡ known_by pad c (whole_length q n)
known_same q None c k n is = refl
known_same q (Some pad) c k n is =
    let same : taken q k ≡ taken q n = ap (λ (o : Option ℕ). taken_by o q.flat.capacity k) is ∙ sym (ap (λ (o : Option ℕ). taken_by o q.flat.capacity n) is) in
    ap (λ (t : ℕ). table_blocks q + 1 + Smalls.fill_length (Smalls.select_of q.public.pack (kept_blocks q) q.flat q.condition t) + Smalls.results (Smalls.select_of q.public.pack (kept_blocks q) q.flat q.condition t) + 1) same

-- after a step it is placed
module _ (g : RowsAt) (is : IsPlaced g) (going : is_over g.stage ≡ false) (stage : Stage) (region : Option ℕ) (k n b : ℕ) (seen : Seen) where
  pub placed_next : PlacedAt stage (stepped g stage region k n b seen) → ShownAt stage n → b ≡ known stage g.q.public.pad (table_blocks g.q) (whole_length g.q k) - (g.asked + 1)
      → IsPlaced (stepped g stage region k n b seen)
  placed_next at shown booked = record {
    shown = shown;
    several = is.several;
    flown = is.flown;
    own = is.own;
    at = at;
    unfailed = λ open_. is.unfailed going;
    unended = λ open_. is.unended going;
    booked = booked;
  }

-- ---- no more was asked than the statement asks
module _ (g : RowsAt) (flown : IsFlown g.q (rows_skeleton g.select)) (x : Seen) where
  pub within_count : (n : ℕ) → n ≤ table_blocks g.q → n ≤ length (whole_script g.q.public (rows_skeleton g.select) x)
  within_count n few =
      let r = g.q.public.next_region in
      let t = extent_of (region_of g.q) in
      let p = with_region g.q r in
      omega (
        arith,
        few,
        ap (λ (l : List Access). length l) (whole_is g.q (rows_skeleton g.select) flown (rows_skeleton g.select) x r refl),
        length-append (count_part g.q.flat.region (table_blocks g.q)) (behind_count p.pad p x r t []),
        length-count_part g.q.flat.region (table_blocks g.q),
      )

  pub within_takes : (k n : ℕ) → Takes g.q.public.pad k x → n ≤ whole_length g.q k → n ≤ length (whole_script g.q.public (rows_skeleton g.select) x)
  within_takes k n takes few =
      let r = g.q.public.next_region in
      let p = with_region g.q r in
      let rest = left_by g.q.public.pad p x k r (region_of g.q) in
      let long = Acts.length-all g.q.flat.region r (table_blocks g.q) (Smalls.results (small g.q k)) (kept_blocks g.q) (g.q.public.pack * width g.q.flat.schema) (kept_some g.q (rows_skeleton g.select) flown) rest
      (none_left g.q.public.pad p x k r (region_of g.q) takes) in
      omega (arith, few, long, ap (λ (l : List Access). length l) (whole_takes g.q (rows_skeleton g.select) flown (rows_skeleton g.select) x r k refl takes))

-- ---- the count
module _ (g : RowsAt) (is : IsPlaced g) (u : ℕ) (same : g.stage ≡ Count u) where
  pub counting : IsCounting g u
  counting = subst (λ (s : Stage). PlacedAt s g) same is.at

  pub booked_counting : g.booked ≡ known_by g.q.public.pad (table_blocks g.q) (whole_length g.q g.k) - g.asked
  booked_counting = is.booked ∙ ap (λ (s : Stage). known s g.q.public.pad (table_blocks g.q) (whole_length g.q g.k) - g.asked) same

  known_enough : (pad : Option ℕ) (c all : ℕ) → c ≤ all → c ≤ known_by pad c all
  known_enough None c all less = omega arith
  known_enough (Some pad) c all less = less

  pub counting_some : 1 ≤ g.booked
  counting_some = omega (arith, booked_counting, counting.asked, counting.below, known_enough g.q.public.pad (table_blocks g.q) (whole_length g.q g.k) (omega arith))

  pub counting_next : (n : ℕ) → n ≤ (u + 1) * g.q.public.pack → u + 1 < table_blocks g.q → PlacedAt (Count (u + 1)) (stepped g (Count (u + 1)) g.region n g.shown (g.booked - 1) g.seen)
  counting_next n few below = record { asked = ap (λ (m : ℕ). m + 1) counting.asked; below = below; region = counting.region; seen = counting.seen; few = few }

  pub counting_booked : (n : ℕ) → g.booked - 1 ≡ known_by g.q.public.pad (table_blocks g.q) (whole_length g.q n) - (g.asked + 1)
  counting_booked n = omega (arith, booked_counting, known_same g.q g.q.public.pad (table_blocks g.q) g.k n refl)

  -- all of it
  module _ (last : table_blocks g.q ≤ u + 1) where
    all_counted : g.asked + 1 ≡ table_blocks g.q
    all_counted = omega (arith, counting.asked, counting.below, last)

    some_taken : (pad : Option ℕ) (k : ℕ) → g.q.public.pad ≡ pad → (pad ≡ None → 1 ≤ k) → 1 ≤ taken_by pad g.q.flat.capacity k
    some_taken None k same some = some refl
    some_taken (Some pad) k same some =
        let padded = subst (λ (o : Option ℕ). IsPadded o g.q.public.planner) same is.flown.settings.padded in
        omega (arith, padded.0, is.flown.size.least)

    most_taken : (pad : Option ℕ) (k : ℕ) → k ≤ g.q.flat.capacity → taken_by pad g.q.flat.capacity k ≤ g.q.flat.capacity
    most_taken None k most = most
    most_taken (Some pad) k most = omega arith

    pub made_next : (k : ℕ) (seen : Seen) (b : ℕ) → k ≤ g.q.flat.capacity → (g.q.public.pad ≡ None → 1 ≤ k) → seen ≡ seen_taking g.q.public.pad k → PlacedAt Make (stepped g Make g.region k g.shown b seen)
    made_next k seen b most some takes = (
      record { asked = all_counted; seen = takes; some = some_taken g.q.public.pad k refl some; most = most_taken g.q.public.pad k most; few = most },
      counting.region,
    )

    -- no rows
    pub none_next : (seen : Seen) (b : ℕ) → g.q.public.pad ≡ None → seen ≡ counted 0 None None Whole → HasAsked (stepped g Over g.region 0 g.shown b seen)
    none_next seen b unpadded is_seen = record {
      ended = λ n.
          let r = unwrap_or g.region n in
          let p = with_region g.q r in
          let t = extent_of (region_of g.q) in
          ap (λ (l : List Access). slice_get l (g.asked + 1)) (script_is g.q (rows_skeleton g.select) is.flown (rows_skeleton g.select) seen r refl)
          ∙ past_end seen.end (select_part p seen r t []) (g.asked + 1) (ap (λ (s : Seen). s.end) is_seen)
          (omega (arith, all_counted, length-append (count_part g.q.flat.region (table_blocks g.q)) (behind_count g.q.public.pad p seen r t []), length-count_part g.q.flat.region (table_blocks g.q), ap (λ (l : List Access). length l) (empty p r seen is_seen unpadded)));
      counted = λ unfailed. omega (arith, all_counted);
      second = ap (λ (s : Seen). s.then) is_seen;
      within = within_count g is.flown seen (g.asked + 1) (omega (arith, all_counted));
      end = ap (λ (s : Seen). s.end) is_seen ∙ sym (ap (λ (f : Bool). end_by f (g.asked + 1)) (is.unfailed (ap is_over same)));
    }
      where
        empty : (p : Rattle.ob_base.specs.declared.config.Public.Public) (r : ℕ) (seen : Seen) → seen ≡ counted 0 None None Whole → g.q.public.pad ≡ None → behind_count g.q.public.pad p seen r (extent_of (region_of g.q)) [] ≡ []
        empty p r seen is_seen unpadded = (λ i. behind_count (unpadded i) p (is_seen i) r (extent_of (region_of g.q)) [])

-- ---- after it
module _ (g : RowsAt) (is : IsPlaced g) (stage : Stage) (same : g.stage ≡ stage) where
  pub booked_at : g.booked ≡ known stage g.q.public.pad (table_blocks g.q) (whole_length g.q g.k) - g.asked
  booked_at = is.booked ∙ ap (λ (s : Stage). known s g.q.public.pad (table_blocks g.q) (whole_length g.q g.k) - g.asked) same

-- there is room for one more
pub booked_some : (g : RowsAt) (stage : Stage) → g.stage ≡ stage → is_behind stage ≡ true → known stage g.q.public.pad (table_blocks g.q) (whole_length g.q g.k) ≡ whole_length g.q g.k → (is : IsPlaced g) → PlacedAt stage g → 1 ≤ g.booked
booked_some g stage same behind all is at =
    let how = behind_at g is stage behind at in
    omega (arith, booked_at g is stage same, all, how.counted.asked, how.within)

-- the same count, once more was asked
pub counted_on : (g : RowsAt) (done next : ℕ) (stage : Stage) (region : Option ℕ) (n b : ℕ) → HasCounted g done → done + 1 ≡ next → HasCounted (stepped g stage region g.k n b g.seen) next
counted_on g done next stage region n b is more = record { asked = ap (λ (m : ℕ). m + 1) is.asked ∙ more; seen = is.seen; some = is.some; most = is.most; few = is.few }

pub region_on : (g : RowsAt) (done next : ℕ) (stage : Stage) (n b : ℕ) → HasRegion g done → done + 1 ≡ next → HasRegion (stepped g stage g.region g.k n b g.seen) next
region_on g done next stage n b is more = record { counted = counted_on g done next stage g.region n b is.counted more; own = is.own; region = is.region; apart = is.apart }

-- the places of a pass and of the next one
pub read_next : (q : Selection) (pass u : ℕ) → reads_before q pass u + 1 ≡ reads_before q pass (u + 1)
read_next q pass u = omega arith

pub read_last : (q : Selection) (pass u : ℕ) → u + 1 ≡ table_blocks q → reads_before q pass u + 1 ≡ writes_before q pass 0
read_last q pass u last = omega (arith, last)

pub write_next : (q : Selection) (pass x : ℕ) → writes_before q pass x + 1 ≡ writes_before q pass (x + 1)
write_next q pass x = omega arith

pub pass_next : (q : Selection) (pass x : ℕ) → x + 1 ≡ kept_blocks q → writes_before q pass x + 1 ≡ reads_before q (pass + 1) 0
pass_next q pass x last =
    let more : (pass + 1) * (table_blocks q + kept_blocks q) ≡ pass * (table_blocks q + kept_blocks q) + (table_blocks q + kept_blocks q) = grind arith in
    omega (arith, more, last)

-- a pass that isn't the last is full, and the last one ends at the last block
module _ (q : Selection) (s : Skeleton) (flown : IsFlown q s) (k pass : ℕ) where
  pub part_full : pass + 1 < Smalls.passes (small q k) → part_blocks q k pass ≡ kept_blocks q
  part_full below =
      let inside = pass_inside (Smalls.results (small q k)) (kept_blocks q) (pass + 1) (kept_some q s flown) below in
      let more : (pass + 1) * kept_blocks q ≡ pass * kept_blocks q + kept_blocks q = grind arith in
      omega (arith, inside, more)

  pub part_some : pass < Smalls.passes (small q k) → 0 < part_blocks q k pass
  part_some below =
      let inside = pass_inside (Smalls.results (small q k)) (kept_blocks q) pass (kept_some q s flown) below in
      omega (arith, inside, kept_some q s flown)

  pub part_last : pass < Smalls.passes (small q k) → Smalls.passes (small q k) ≤ pass + 1 → pass * kept_blocks q + part_blocks q k pass ≡ Smalls.results (small q k)
  part_last below last =
      let whole : Smalls.passes (small q k) ≡ pass + 1 = omega (arith, below, last) in
      let reach = (div_ceil_times (Smalls.results (small q k)) (kept_blocks q) (omega (arith, kept_some q s flown))).0 in
      let inside = pass_inside (Smalls.results (small q k)) (kept_blocks q) pass (kept_some q s flown) below in
      let all : Smalls.passes (small q k) * kept_blocks q ≡ (pass + 1) * kept_blocks q = ap (λ (n : ℕ). n * kept_blocks q) whole in
      let more : (pass + 1) * kept_blocks q ≡ pass * kept_blocks q + kept_blocks q = grind arith in
      omega (arith, reach, inside, all, more)

  pub fill_last : (x : ℕ) → pass < Smalls.passes (small q k) → Smalls.passes (small q k) ≤ pass + 1 → x + 1 ≡ part_blocks q k pass → writes_before q pass x + 1 ≡ emits_before q k 0
  fill_last x below last end =
      let whole : Smalls.passes (small q k) ≡ pass + 1 = omega (arith, below, last) in
      let blocks : Smalls.passes (small q k) * table_blocks q ≡ (pass + 1) * table_blocks q = ap (λ (n : ℕ). n * table_blocks q) whole in
      let more : (pass + 1) * table_blocks q ≡ pass * table_blocks q + table_blocks q = grind arith in
      let split : pass * (table_blocks q + kept_blocks q) ≡ pass * table_blocks q + pass * kept_blocks q = grind arith in
      omega (arith, part_last below last, blocks, more, split, end)

-- ---- its end
module _ (g : RowsAt) (flown : IsFlown g.q (rows_skeleton g.select)) where
  -- its result was discarded
  pub all_asked : (b : ℕ) → g.failed ≡ false → HasCounted g (emits_before g.q g.k (Smalls.results (small g.q g.k))) → HasAsked (stepped g Over g.region g.k g.shown b g.seen)
  all_asked b unfailed at = record {
    ended = λ n.
        let r = unwrap_or g.region n in
        let p = with_region g.q r in
        let takes = takes_seen g.q.public.pad g.k g.seen at.seen in
        let rest = left_by g.q.public.pad p g.seen g.k r (region_of g.q) in
        let long = Acts.length-all g.q.flat.region r (table_blocks g.q) (Smalls.results (small g.q g.k)) (kept_blocks g.q) (g.q.public.pack * width g.q.flat.schema) (kept_some g.q (rows_skeleton g.select) flown) rest
        (none_left g.q.public.pad p g.seen g.k r (region_of g.q) takes) in
        ap (λ (l : List Access). slice_get l (g.asked + 1)) (script_takes g.q (rows_skeleton g.select) flown (rows_skeleton g.select) g.seen r g.k refl takes)
        ∙ past_end g.seen.end (small_all g.q.public.pad p (region_of g.q) g.k r rest) (g.asked + 1) (whole_end g.q.public.pad g.k g.seen at.seen) (omega (arith, long, at.asked));
    counted = λ same. omega (arith, at.asked);
    second = none_second g.q.public.pad g.k g.seen at.seen;
    within = within_takes g flown g.seen g.k (g.asked + 1) (takes_seen g.q.public.pad g.k g.seen at.seen) (omega (arith, at.asked));
    end = whole_end g.q.public.pad g.k g.seen at.seen ∙ sym (ap (λ (f : Bool). end_by f (g.asked + 1)) unfailed);
  }
    where
      whole_end : (pad : Option ℕ) (k : ℕ) (seen : Seen) → seen ≡ seen_taking pad k → seen.end ≡ Whole
      whole_end None k seen is = ap (λ (s : Seen). s.end) is
      whole_end (Some pad) k seen is = ap (λ (s : Seen). s.end) is

      none_second : (pad : Option ℕ) (k : ℕ) (seen : Seen) → seen ≡ seen_taking pad k → seen.then ≡ None
      none_second None k seen is = ap (λ (s : Seen). s.then) is
      none_second (Some pad) k seen is = ap (λ (s : Seen). s.then) is

  -- the store failed it
  pub cut_asked : (region : Option ℕ) → g.seen.then ≡ None → g.asked + 1 ≤ length (whole_script g.q.public (rows_skeleton g.select) (gone_wrong g).seen) → HasAsked (gone_wrong (record g { region = region }))
  cut_asked region second within = record {
    ended = λ n.
        let r = unwrap_or region n in
        let x : Seen = record g.seen { end = Cut (g.asked + 1) } in
        ap (λ (l : List Access). slice_get l (g.asked + 1)) (script_is g.q (rows_skeleton g.select) flown (rows_skeleton g.select) x r refl)
        ∙ past_cut (Cut (g.asked + 1)) (select_part (with_region g.q r) x r (extent_of (region_of g.q)) []) (g.asked + 1) refl;
    counted = λ unfailed. absurd (cc unfailed);
    second = second;
    end = refl;
    within = within;
  }
