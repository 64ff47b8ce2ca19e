-- What is left to ask of a SELECT of rows in flight where its result is made, and where it prints.
use Rattle.std.proofs.Common.{◌≡◌, ◌≤◌, ◌+◌, ◌*◌, ◌∷◌, ◌++◌, ℕ, zero, suc, Bool, true, false, IsTrue, List, [], refl, sym, ◌∙◌, ap, subst, arith, append-nil, append_assoc, length-append}
use Rattle.std.specs.Prelude.{None, drop, length, slice_get, unwrap_or}
use Rattle.std.specs.Int.{div_ceil}
use Rattle.std.specs.List.{list_all}
use Rattle.std.proofs.lemmas.Bool.{and_parts}
use Rattle.ob_base.specs.declared.access.Access.{Access}
use Rattle.ob_base.specs.declared.seen.End.{End}
use Rattle.ob_base.specs.declared.skeleton.Skeleton.{Skeleton}
use Rattle.ob_base.specs.Accesses.{make_at}
use Rattle.ob_base.specs.Lists.{each}
use Rattle.ob_base.specs.Schemas.{width}
use Rattle.ob_script.specs.FlightLaws.{SelectsFromOne}
use Rattle.ob_script.specs.Flights.{AreSteadyAccesses, asked_at}
use Rattle.ob_script.specs.Parts.{count_part, emission_part, small_part, small_pass}
use Rattle.ob_script.specs.Script.{until_end, whole_script}
use Rattle.ob_script.proofs.Lengths.{length-count_part, length-passes}
use Rattle.ob_script.proofs.Steady.{steady_of}
use Rattle.ob_select.specs.Memory.{is_reading, starts_with_make}
use Rattle.ob_select.specs.Selecting.{region_of}
use Rattle.ob_select.proofs.ResultParts.{all-emission, all-join}
use Rattle.ob_small.specs.Selection as Smalls
use Rattle.ob_stages.specs.declared.rows.Stage.{Stage}
use Rattle.ob_stages.specs.declared.rows.Stage.TheVariants.{Count, Make, Read, Write, Emit, Discard, Over}
use Rattle.ob_stages.specs.RowsActs.{kept_some, left_by, none_left, small_all, takes_seen, whole_takes, with_region}
use Rattle.ob_stages.specs.RowsStates.{RowsAt, HasAsked, HasCounted, IsPlaced, PlacedAt, Takes, emits_before, end_by, is_printing, kept_blocks, rows_skeleton, served_of, small, table_blocks}

-- ---- parts of a list
dropped : (xs ys : List Access) (n : ℕ) → length xs ≡ n → drop n (xs ++ ys) ≡ ys
dropped [] ys zero is = refl
dropped [] ys (suc n) is = absurd (omega (arith, is))
dropped (x ∷ xs) ys zero is = absurd (omega (arith, is))
dropped (x ∷ xs) ys (suc n) is = dropped xs ys n (omega (arith, is))

rest_reading : (ys : List Access) (n : ℕ) → IsTrue (list_all is_reading ys) → IsTrue (list_all is_reading (drop n ys))
rest_reading [] zero all = refl
rest_reading [] (suc n) all = refl
rest_reading (y ∷ ys) zero all = all
rest_reading (y ∷ ys) (suc n) all = rest_reading ys n (and_parts _ _ all).1

behind_reading : (xs ys : List Access) (n : ℕ) → length xs ≤ n → IsTrue (list_all is_reading ys) → IsTrue (list_all is_reading (drop n (xs ++ ys)))
behind_reading [] ys n few all = rest_reading ys n all
behind_reading (x ∷ xs) ys zero few all = absurd (omega (arith, few))
behind_reading (x ∷ xs) ys (suc n) few all = behind_reading xs ys n (omega (arith, few)) all

nothing_behind : (xs : List Access) (n : ℕ) → length xs ≤ n → IsTrue (list_all is_reading (drop n xs))
nothing_behind xs n few = subst (λ (l : List Access). IsTrue (list_all is_reading (drop n l))) (append-nil xs) (behind_reading xs [] n few refl)

none_at : (xs : List Access) (i : ℕ) → slice_get xs i ≡ None → length xs ≤ i
none_at [] i none = omega arith
none_at (x ∷ xs) zero none = absurd (cc none)
none_at (x ∷ xs) (suc i) none = let few = none_at xs i none in omega (arith, few)

-- ---- the accesses of a Small selection: what is asked until its result is filled, and what is left of it then
module _ (t g blocks results q width : ℕ) (some : 1 ≤ q) (rest : List Access) where
  abbrev filling : List Access
  filling = count_part t blocks ++ small_part t g blocks results q width

  filling_long : length filling ≡ blocks + 1 + (div_ceil results q * blocks + results)
  filling_long =
      omega (
        arith,
        length-append (count_part t blocks) (small_part t g blocks results q width),
        length-count_part t blocks,
        length-append (make_at g results width) (each (div_ceil results q) (small_pass t g blocks results q)),
        length-passes t g blocks results q (omega (arith, some)),
      )

  filling_is : count_part t blocks ++ ((small_part t g blocks results q width ++ emission_part g results) ++ rest) ≡ filling ++ (emission_part g results ++ rest)
  filling_is =
      ap (λ (l : List Access). count_part t blocks ++ l) (append_assoc (small_part t g blocks results q width) (emission_part g results) rest)
      ∙ sym (append_assoc (count_part t blocks) (small_part t g blocks results q width) (emission_part g results ++ rest))

  left_filled : (n : ℕ) → rest ≡ [] → blocks + 1 + (div_ceil results q * blocks + results) ≤ n
      → IsTrue (list_all is_reading (drop n (count_part t blocks ++ ((small_part t g blocks results q width ++ emission_part g results) ++ rest))))
  left_filled n none few =
      subst (λ (l : List Access). IsTrue (list_all is_reading (drop n l))) (sym filling_is)
      (behind_reading filling (emission_part g results ++ rest) n (omega (arith, filling_long, few))
      (all-join (emission_part g results) rest (all-emission g results) (subst (λ (l : List Access). IsTrue (list_all is_reading l)) (sym none) refl)))

  left_making : (n : ℕ) → n ≡ blocks
      → IsTrue (starts_with_make (drop n (count_part t blocks ++ ((small_part t g blocks results q width ++ emission_part g results) ++ rest))))
  left_making n is =
      subst (λ (l : List Access). IsTrue (starts_with_make l))
      (sym (dropped (count_part t blocks) ((small_part t g blocks results q width ++ emission_part g results) ++ rest) n (length-count_part t blocks ∙ sym is)))
      refl

-- ---- of one that has counted
module _ (g : RowsAt) (is : IsPlaced g) (done : ℕ) (at : HasCounted g done) where
  abbrev r : ℕ
  r = g.q.public.next_region

  abbrev rest : List Access
  rest = left_by g.q.public.pad (with_region g.q r) g.seen g.k r (region_of g.q)

  takes : Takes g.q.public.pad g.k g.seen
  takes = takes_seen g.q.public.pad g.k g.seen at.seen

  all_is : whole_script g.q.public (rows_skeleton g.select) g.seen ≡ small_all g.q.public.pad (with_region g.q r) (region_of g.q) g.k r rest
  all_is = whole_takes g.q (rows_skeleton g.select) is.flown (rows_skeleton g.select) g.seen r g.k refl takes

  counted_making : done ≡ table_blocks g.q → IsTrue (starts_with_make (drop g.asked (whole_script g.q.public (rows_skeleton g.select) g.seen)))
  counted_making same =
      subst (λ (l : List Access). IsTrue (starts_with_make (drop g.asked l))) (sym all_is)
      (left_making g.q.flat.region r (table_blocks g.q) (Smalls.results (small g.q g.k)) (kept_blocks g.q) (g.q.public.pack * width g.q.flat.schema)
      (kept_some g.q (rows_skeleton g.select) is.flown) rest g.asked (at.asked ∙ same))

  counted_left : (n : ℕ) → emits_before g.q g.k 0 ≤ n → IsTrue (list_all is_reading (drop n (whole_script g.q.public (rows_skeleton g.select) g.seen)))
  counted_left n few =
      subst (λ (l : List Access). IsTrue (list_all is_reading (drop n l))) (sym all_is)
      (left_filled g.q.flat.region r (table_blocks g.q) (Smalls.results (small g.q g.k)) (kept_blocks g.q) (g.q.public.pack * width g.q.flat.schema)
      (kept_some g.q (rows_skeleton g.select) is.flown) rest n (none_left g.q.public.pad (with_region g.q r) g.seen g.k r (region_of g.q) takes) (omega (arith, few)))

-- ---- of one that asked all
module _ (g : RowsAt) (is : IsPlaced g) (at : HasAsked g) (unfailed : g.failed ≡ false) where
  one_table : (s : Skeleton) → s ≡ rows_skeleton g.select → SelectsFromOne s
  one_table s same = let reads = is.flown.reads in subst (λ (x : Skeleton). SelectsFromOne x) (sym (same ∙ reads.is)) tt

  steady : AreSteadyAccesses (λ (r : ℕ). asked_at g.q.public r (served_of g))
  steady = steady_of g.q.public (served_of g) (record { skeleton = one_table (rows_skeleton g.select) refl; one_plan = at.second })

  until_is : until_end g.seen.end (whole_script g.q.public (rows_skeleton g.select) g.seen) ≡ whole_script g.q.public (rows_skeleton g.select) g.seen
  until_is =
      ap (λ (e : End). until_end e (whole_script g.q.public (rows_skeleton g.select) g.seen)) (at.end ∙ ap (λ (f : Bool). end_by f g.asked) unfailed)

  none_past : slice_get (asked_at g.q.public (unwrap_or g.region 0) (served_of g)) g.asked ≡ None
  none_past = at.ended 0

  all_asked : length (whole_script g.q.public (rows_skeleton g.select) g.seen) ≤ g.asked
  all_asked =
      omega (
        arith,
        none_at (asked_at g.q.public (unwrap_or g.region 0) (served_of g)) g.asked none_past,
        steady.long (unwrap_or g.region 0) g.q.public.next_region,
        ap (λ (l : List Access). length l) until_is,
      )

-- its region is made next
pub rows_at_make : (g : RowsAt) → IsPlaced g → g.stage ≡ Make → IsTrue (starts_with_make (drop g.asked (whole_script g.q.public (rows_skeleton g.select) g.seen)))
rows_at_make g is same =
    let at : HasCounted g (table_blocks g.q) × (g.region ≡ None) = subst (λ (s : Stage). PlacedAt s g) same is.at in
    counted_making g is (table_blocks g.q) at.0 refl

-- its result is read, or discarded, and nothing else
pub rows_left : (g : RowsAt) → IsPlaced g → is_printing g.stage ≡ true → g.failed ≡ false → (n : ℕ) → g.asked ≤ n
    → IsTrue (list_all is_reading (drop n (whole_script g.q.public (rows_skeleton g.select) g.seen)))
rows_left g is prints unfailed n most = at_stage g.stage prints is.at
  where
    at_stage : (stage : Stage) → is_printing stage ≡ true → PlacedAt stage g → IsTrue (list_all is_reading (drop n (whole_script g.q.public (rows_skeleton g.select) g.seen)))
    at_stage (Count u) prints at = absurd (cc prints)
    at_stage Make prints at = absurd (cc prints)
    at_stage (Read pass u seen) prints at = absurd (cc prints)
    at_stage (Write pass x) prints at = absurd (cc prints)
    at_stage (Emit x) prints at = counted_left g is (emits_before g.q g.k x) at.0.counted n (omega (arith, at.0.counted.asked, most))
    at_stage Discard prints at = absurd (cc prints)
    at_stage Over prints at = nothing_behind (whole_script g.q.public (rows_skeleton g.select) g.seen) n (omega (arith, all_asked g is at unfailed, most))
