-- Before it is made a SELECT doesn't hang on the number of its region.
use Rattle.std.proofs.Common.{◌≡◌, ℕ, zero, suc, ◌+◌, ◌-◌, ◌*◌, ◌/◌, ◌%◌, ◌<◌, ◌≤◌, min, List, [], ◌∷◌, ◌++◌, Some, None, Option, length, refl, sym, ◌∙◌, ap, inl, inr, arith}
use Rattle.std.specs.Prelude.{slice_get, take}
use Rattle.std.specs.Int.{div_ceil}
use Rattle.std.specs.Option.{option_map_or}
use Rattle.std.proofs.lemmas.Bool.{cases_eq, cases_lt}
use Rattle.std.proofs.lemmas.List.{length-append, length-take, take-append-le, take-take, take_all}
use Rattle.std.proofs.lemmas.Option.{slice_get_within}
use Rattle.ob_base.specs.declared.access.Access.{Access}
use Rattle.ob_base.specs.declared.access.Access.TheVariants.{Make, Read, Write, Discard, Open}
use Rattle.ob_base.specs.declared.config.Plan.{Plan}
use Rattle.ob_base.specs.declared.config.Plan.TheVariants.{Small, Large, Continuous, Hash}
use Rattle.ob_base.specs.declared.config.Public.{Public}
use Rattle.ob_base.specs.declared.schema.Shape.{Shape}
use Rattle.ob_base.specs.declared.schema.Shape.TheVariants.{Flat, Indexed}
use Rattle.ob_base.specs.declared.seen.Seen.{Seen}
use Rattle.ob_base.specs.declared.seen.End.{End}
use Rattle.ob_base.specs.declared.seen.End.TheVariants.{Static, Whole, AfterCount, Batched, Cut}
use Rattle.ob_base.specs.declared.skeleton.Source.TheVariants.{Table as OneTable, Join}
use Rattle.ob_base.specs.declared.skeleton.Skeleton.{Skeleton}
use Rattle.ob_base.specs.declared.skeleton.Skeleton.TheVariants.{Create, Insert, Update, Delete, Drop as DropTable, Rows, Groups}
use Rattle.ob_base.specs.Accesses.{makes, read_at, write_at, discard_at}
use Rattle.ob_base.specs.Indexes.{by_shape, height_of}
use Rattle.ob_base.specs.Limits.{buffered_blocks}
use Rattle.ob_base.specs.Lists.{each}
use Rattle.ob_base.specs.Numbers.{blocks_for, first_bucket, second_bucket}
use Rattle.ob_base.specs.Plans.{choose_padded, padded_rows}
use Rattle.ob_base.specs.Stored.{Stored, stored_at, stored_regions}
use Rattle.ob_base.proofs.AccessLemmas.{makes-append}
use Rattle.ob_script.specs.declared.extent.Extent.{Extent}
use Rattle.ob_script.specs.Parts.{bucket_part, continuous_block, copy_at, copy_part, count_part, emission_part, hash_block, hash_slot, slots_in, small_pass, write_from}
use Rattle.ob_script.specs.Script.{after_count, behind_count, blocks_of, extent_of, flat_script, index_part_of, result_part, rows_width, script, table_script, until_end, with_table}
use Rattle.ob_script.specs.Trace.{Served}
use Rattle.ob_script.specs.Flights.{AreSteady, AreSteadyAccesses, IsSteady, flight_public}
use Rattle.ob_script.specs.FlightLaws.{AllMayFly, MayFly, SelectsFromOne}
use Rattle.ob_script.proofs.Eaches.{at_back, get_back, get_front}
use Rattle.ob_script.proofs.ListPlaces.{get_take}
use Rattle.ob_script.proofs.Makes.{makes-access_part, makes-count_part}

-- ---- where a region is made
makes_at : (xs : List Access) (n q blocks len : ℕ) → slice_get xs n ≡ Some (Make q blocks len) → 1 ≤ makes xs
unfolding makes
makes_at [] n q blocks len h = cc
makes_at (Make a b c ∷ xs) n q blocks len h = omega arith
makes_at (Read a b ∷ xs) zero q blocks len h = cc
makes_at (Write a b ∷ xs) zero q blocks len h = cc
makes_at (Discard a ∷ xs) zero q blocks len h = cc
makes_at (Open a b c ∷ xs) zero q blocks len h = cc
makes_at (Read a b ∷ xs) (suc n) q blocks len h = makes_at xs n q blocks len h
makes_at (Write a b ∷ xs) (suc n) q blocks len h = makes_at xs n q blocks len h
makes_at (Discard a ∷ xs) (suc n) q blocks len h = makes_at xs n q blocks len h
makes_at (Open a b c ∷ xs) (suc n) q blocks len h = makes_at xs n q blocks len h

-- ---- accesses by the number of a region
-- they make none, and are as many whatever it is
record MakesNone (asks : ℕ → List Access) : Type 0 where
  none : (g : ℕ) → makes (asks g) ≡ 0
  long : (g h : ℕ) → length (asks g) ≡ length (asks h)

-- first they make it, and then no other
record MakesFirst (asks : ℕ → List Access) : Type 0 where
  blocks : ℕ
  len : ℕ
  rest : ℕ → List Access
  is : (g : ℕ) → asks g ≡ Make g blocks len ∷ rest g
  then : MakesNone rest

none_both : (xs ys : ℕ → List Access) → MakesNone xs → MakesNone ys → MakesNone (λ g. xs g ++ ys g)
none_both xs ys first second = record {
  none = λ g. makes-append (xs g) (ys g) ∙ omega (arith, first.none g, second.none g);
  long = λ g h. length-append (xs g) (ys g) ∙ (λ i. first.long g h i + second.long g h i) ∙ sym (length-append (xs h) (ys h));
}

none_each : (n : ℕ) (f : ℕ → ℕ → List Access) → ((i : ℕ) → MakesNone (λ g. f g i)) → MakesNone (λ g. each n (f g))
unfolding makes
none_each zero f all = record { none = λ g. refl; long = λ g h. refl }
none_each (suc n) f all = none_both (λ g. each n (f g)) (λ g. f g n) (none_each n f all) (all n)

none_alike : (xs : List Access) → makes xs ≡ 0 → MakesNone (λ g. xs)
none_alike xs none = record { none = λ g. none; long = λ g h. refl }

none_written : (place : ℕ) → MakesNone (λ g. write_at g place)
unfolding makes
none_written place = record { none = λ g. refl; long = λ g h. refl }

none_read : (place : ℕ) → MakesNone (λ g. read_at g place)
unfolding makes
none_read place = record { none = λ g. refl; long = λ g h. refl }

none_discarded : MakesNone discard_at
unfolding makes
none_discarded = record { none = λ g. refl; long = λ g h. refl }

none_copied : (t u : ℕ) → MakesNone (λ g. copy_at t g u)
unfolding makes
none_copied t u = record { none = λ g. refl; long = λ g h. refl }

none_renewed : (place : ℕ) → MakesNone (λ g. copy_at g g place)
unfolding makes
none_renewed place = record { none = λ g. refl; long = λ g h. refl }

none_at_all : MakesNone (λ g. [])
unfolding makes
none_at_all = record { none = λ g. refl; long = λ g h. refl }

none_from : (t u : ℕ) → MakesNone (λ g. read_at t u)
unfolding makes
none_from t u = record { none = λ g. refl; long = λ g h. refl }

none_counted : (t blocks : ℕ) → MakesNone (λ g. count_part t blocks)
none_counted t blocks = none_alike (count_part t blocks) (makes-count_part t blocks)

-- ---- what a plan asks after its first access
none_passes : (t blocks results buffered j : ℕ) → MakesNone (λ g. small_pass t g blocks results buffered j)
none_passes t blocks results buffered j =
    none_both (λ g. count_part t blocks) (λ g. each (min buffered (results - j * buffered)) (write_from g (j * buffered)))
    (none_counted t blocks) (none_each (min buffered (results - j * buffered)) (λ g. write_from g (j * buffered)) (λ x. none_written (j * buffered + x)))

none_turns : (t pack n k u : ℕ) → MakesNone (λ g. continuous_block t g pack n k u)
none_turns t pack n k u =
    none_both (λ g. read_at t u) (λ g. each (slots_in pack n u) (λ j. copy_at g g (((u * pack + j) % k) / pack)))
    (none_from t u) (none_each (slots_in pack n u) (λ g j. copy_at g g (((u * pack + j) % k) / pack)) (λ j. none_renewed (((u * pack + j) % k) / pack)))

none_bucket : (depth b : ℕ) → MakesNone (λ g. bucket_part g depth b)
none_bucket depth b = none_each depth (λ g y. copy_at g g (b * depth + y)) (λ y. none_renewed (b * depth + y))

none_slot : (k depth i : ℕ) → MakesNone (λ g. hash_slot g k depth i)
none_slot k depth i =
    none_both (λ g. bucket_part g depth (first_bucket k i)) (λ g. bucket_part g depth (second_bucket k i))
    (none_bucket depth (first_bucket k i)) (none_bucket depth (second_bucket k i))

none_hashed : (t pack n k depth u : ℕ) → MakesNone (λ g. hash_block t g pack n k depth u)
none_hashed t pack n k depth u =
    none_both (λ g. read_at t u) (λ g. each (slots_in pack n u) (λ j. hash_slot g k depth (u * pack + j)))
    (none_from t u) (none_each (slots_in pack n u) (λ g j. hash_slot g k depth (u * pack + j)) (λ j. none_slot k depth (u * pack + j)))

none_emitted : (blocks : ℕ) → MakesNone (λ g. emission_part g blocks)
none_emitted blocks = none_both (λ g. count_part g blocks) discard_at (none_each blocks (λ g. read_at g) none_read) none_discarded

-- a result is made, filled by its plan, read back and discarded
module _ (p : Public) (k : ℕ) (t : Extent) where
  abbrev result_at : Plan → ℕ → List Access
  result_at plan g = result_part (record p { next_region = g }) (Some plan) k g t ++ []

  -- with what it is filled
  first_by : (plan : Plan) (blocks : ℕ) (filled : ℕ → List Access) → MakesNone filled
      → ((g : ℕ) → result_at plan g ≡ Make g blocks (rows_width p t + 32) ∷ ((filled g ++ emission_part g blocks) ++ [])) → MakesFirst (result_at plan)
  first_by plan blocks filled none is = record {
    blocks = blocks;
    len = rows_width p t + 32;
    rest = λ g. (filled g ++ emission_part g blocks) ++ [];
    is = is;
    then = none_both (λ g. filled g ++ emission_part g blocks) (λ g. []) (none_both filled (λ g. emission_part g blocks) none (none_emitted blocks)) none_at_all;
  }

  made_first : (plan : Plan) → MakesFirst (result_at plan)
  made_first Small =
      let results = blocks_for p.pack k in
      let buffered = buffered_blocks p.pack p.buffer in
      let pass = λ (g : ℕ). small_pass t.region g (blocks_of p t) results buffered in
      first_by Small results (λ g. each (div_ceil results buffered) (pass g))
      (none_each (div_ceil results buffered) pass (none_passes t.region (blocks_of p t) results buffered)) (λ g. refl)
  made_first Large =
      let n = blocks_of p t in
      first_by Large n (λ g. copy_part t.region g n ++ copy_part g g n)
      (none_both (λ g. copy_part t.region g n) (λ g. copy_part g g n) (none_each n (λ g. copy_at t.region g) (none_copied t.region)) (none_each n (λ g. copy_at g g) none_renewed)) (λ g. refl)
  made_first Continuous =
      let n = blocks_for p.pack k in
      let turn = λ (g : ℕ). continuous_block t.region g p.pack t.slots k in
      first_by Continuous n (λ g. each n (write_at g) ++ each (blocks_for p.pack t.slots) (turn g))
      (none_both (λ g. each n (write_at g)) (λ g. each (blocks_for p.pack t.slots) (turn g)) (none_each n write_at none_written)
      (none_each (blocks_for p.pack t.slots) turn (none_turns t.region p.pack t.slots k))) (λ g. refl)
  made_first Hash =
      let n = k * p.depth in
      let block = λ (g : ℕ). hash_block t.region g p.pack t.slots k p.depth in
      first_by Hash n (λ g. each n (write_at g) ++ each (blocks_for p.pack t.slots) (block g))
      (none_both (λ g. each n (write_at g)) (λ g. each (blocks_for p.pack t.slots) (block g)) (none_each n write_at none_written)
      (none_each (blocks_for p.pack t.slots) block (none_hashed t.region p.pack t.slots k p.depth))) (λ g. refl)

-- ---- steady accesses
steady_alike : (xs : List Access) → makes xs ≡ 0 → AreSteadyAccesses (λ g. xs)
steady_alike xs none = record {
  before = λ n g h. λ e. refl;
  makes_own = λ n g q blocks len at. let one = makes_at xs n q blocks len at in absurd (omega (arith, one, none));
  long = λ g h. refl;
}

-- after accesses that make no region, some that make it first
module _ (front : List Access) (asks : ℕ → List Access) (none : makes front ≡ 0) (first : MakesFirst asks) where
  -- it is made after those
  made_at : (g : ℕ) → slice_get (front ++ asks g) (length front) ≡ Some (Make g first.blocks first.len)
  made_at g = at_back front (asks g) (length front) 0 (Make g first.blocks first.len) (omega arith) (ap (λ (l : List Access). slice_get l 0) (first.is g))

  no_later : (g n q blocks len : ℕ) → length front < n → slice_get (front ++ asks g) n ≡ Some (Make q blocks len) → ⊥
  no_later g n q blocks len behind at =
      let j = n - length front - 1 in
      let there : slice_get (asks g) (n - length front) ≡ Some (Make q blocks len) = sym (get_back front (asks g) n (omega (arith, behind))) ∙ at in
      let next : n - length front ≡ suc j = omega (arith, behind) in
      let in_rest : slice_get (first.rest g) j ≡ Some (Make q blocks len) = sym (ap (λ (l : List Access). slice_get l (suc j)) (first.is g)) ∙ sym (ap (slice_get (asks g)) next) ∙ there in
      let one = makes_at (first.rest g) j q blocks len in_rest in
      let no = first.then.none g in
      omega (arith, one, no)

  steady_made : AreSteadyAccesses (λ g. front ++ asks g)
  steady_made = record {
    before = λ n g h nothing. elim (cases_lt (length front) n) [
      | inl past ↦
          let there : slice_get (take n (front ++ asks g)) (length front) ≡ Some (Make g first.blocks first.len) = get_take (front ++ asks g) n (length front) past ∙ made_at g in
          let one = makes_at (take n (front ++ asks g)) (length front) g first.blocks first.len there in
          absurd (omega (arith, one, nothing))
      | inr within ↦ take-append-le n front (asks g) within ∙ sym (take-append-le n front (asks h) within)
    ];
    makes_own = λ n g q blocks len at. elim (cases_eq n (length front)) [
      | inl here ↦ the_same g q blocks len (sym (made_at g) ∙ ap (slice_get (front ++ asks g)) (sym here) ∙ at)
      | inr off ↦ elim (cases_lt n (length front)) [
        | inl within ↦
            let one = makes_at front n q blocks len (sym (get_front front (asks g) n within) ∙ at) in
            absurd (omega (arith, one, none))
        | inr past ↦ absurd (no_later g n q blocks len (omega (arith, past, off)) at)
      ]
    ];
    long = λ g h.
        let one = ap length (first.is g) in
        let two = ap length (first.is h) in
        let rest = first.then.long g h in
        let left = length-append front (asks g) in
        let right = length-append front (asks h) in
        omega (arith, one, two, rest, left, right);
  }
    where
      the_same : (g q blocks len : ℕ) → Some (Make g first.blocks first.len) ≡ Some (Make q blocks len) → q ≡ g
      the_same g q blocks len e = cc e

-- of steady accesses the first
steady_first : (m : ℕ) (asks : ℕ → List Access) → AreSteadyAccesses asks → AreSteadyAccesses (λ g. take m (asks g))
steady_first m asks steady = record {
  before = λ n g h nothing. elim (cases_lt m n) [
    | inl more ↦
        let all = λ (q : ℕ). take_all n (take m (asks q)) (let e = length-take m (asks q) in omega (arith, e, more)) in
        all g ∙ steady.before m g h (sym (ap makes (all g)) ∙ nothing) ∙ sym (all h)
    | inr few ↦
        let same = λ (q : ℕ). take-take n m (asks q) few in
        same g ∙ steady.before n g h (sym (ap makes (same g)) ∙ nothing) ∙ sym (same h)
  ];
  makes_own = λ n g q blocks len at. elim (cases_lt n m) [
    | inl within ↦ steady.makes_own n g q blocks len (sym (get_take (asks g) m n within) ∙ at)
    | inr past ↦
        let few = length-take m (asks g) in
        let here = slice_get_within (take m (asks g)) n (Make q blocks len) at in
        absurd (omega (arith, few, here, past))
  ];
  long = λ g h. length-take m (asks g) ∙ ap (min m) (steady.long g h) ∙ sym (length-take m (asks h));
}

-- ended in whatever way
steady_until : (end : End) (asks : ℕ → List Access) → AreSteadyAccesses asks → AreSteadyAccesses (λ g. until_end end (asks g))
unfolding makes
steady_until Static asks steady = steady_alike [] refl
steady_until Whole asks steady = steady
steady_until AfterCount asks steady = steady
steady_until Batched asks steady = steady_alike [] refl
steady_until (Cut n) asks steady = steady_first n asks steady

-- ---- a SELECT
module _ (p : Public) (seen : Seen) (no_second : seen.then ≡ None) where
  abbrev numbered : ℕ → Public
  numbered g = record p { next_region = g }

  makes_front : (t : Extent) → makes (count_part t.region (blocks_of p t) ++ []) ≡ 0
  unfolding makes
  makes_front t = makes-append (count_part t.region (blocks_of p t)) [] ∙ (let e = makes-count_part t.region (blocks_of p t) in omega (arith, e))

  -- after the count, by what is padded and what is counted
  steady_rows : (pad : Option ℕ) (t : Extent) → AreSteadyAccesses (λ g. count_part t.region (blocks_of p t) ++ behind_count pad (numbered g) seen g t [])
  steady_rows (Some pad) t =
      let q = padded_rows pad t.slots in
      steady_made (count_part t.region (blocks_of p t)) (result_at p q t (choose_padded p.planner p.pack p.buffer t.slots q))
      (makes-count_part t.region (blocks_of p t)) (made_first p q t (choose_padded p.planner p.pack p.buffer t.slots q))
  steady_rows None t = go seen.k seen.plan seen.then no_second
    where
      go : (k : Option ℕ) (plan then : Option Plan) → then ≡ None → AreSteadyAccesses (λ g. count_part t.region (blocks_of p t) ++ after_count (numbered g) (record seen { k = k; plan = plan; then = then }) k g t [])
      go k plan (Some other) only = absurd (cc only)
      go None plan None only = steady_alike (count_part t.region (blocks_of p t) ++ []) (makes_front t)
      go (Some k) None None only = steady_alike (count_part t.region (blocks_of p t) ++ []) (makes_front t)
      go (Some k) (Some plan) None only = steady_made (count_part t.region (blocks_of p t)) (result_at p k t plan) (makes-count_part t.region (blocks_of p t)) (made_first p k t plan)

  -- an index has no region of its own for a result
  steady_index : (leaf : Option ℕ) (t : Stored ℕ) → AreSteadyAccesses (λ g. index_part_of (numbered g) leaf t)
  steady_index None t = steady_alike (index_part_of p None t) (makes-count_part (t.held + 1) p.stash)
  steady_index (Some leaf) t = steady_alike (index_part_of p (Some leaf) t) (makes-access_part t.held (t.held + 1) p.stash (height_of t.heading.capacity) leaf)

  steady_shape : (shape : Shape) (t : Stored ℕ) → AreSteadyAccesses (λ g. by_shape shape (flat_script (numbered g) seen t) (index_part_of (numbered g) seen.leaf t))
  steady_shape Flat t = steady_rows p.pad (extent_of t)
  steady_shape Indexed t = steady_index seen.leaf t

  steady_table : (o : Option (Stored ℕ)) → AreSteadyAccesses (λ g. option_map_or (table_script (numbered g) seen) o [])
  unfolding makes
  steady_table None = steady_alike [] refl
  steady_table (Some t) = steady_shape t.heading.shape t

  steady_groups : (o : Option (Stored ℕ)) → AreSteadyAccesses (λ g. option_map_or (λ t. count_part t.held (blocks_of (numbered g) (extent_of t))) o [])
  unfolding makes
  steady_groups None = steady_alike [] refl
  steady_groups (Some t) = steady_alike (count_part t.held (blocks_of p (extent_of t))) (makes-count_part t.held (blocks_of p (extent_of t)))

  steady_select : (s : Skeleton) → SelectsFromOne s → AreSteadyAccesses (λ g. script (numbered g) s seen)
  steady_select (Rows (OneTable name) cs) one = steady_until seen.end (λ g. with_table name (numbered g) (table_script (numbered g) seen)) (steady_table (stored_at name (stored_regions p.tables)))
  steady_select (Groups table cs key) one =
      steady_until seen.end (λ g. with_table table (numbered g) (λ t. count_part t.held (blocks_of (numbered g) (extent_of t)))) (steady_groups (stored_at table (stored_regions p.tables)))
  steady_select other one = absurd one

-- a SELECT without a join, whatever is seen of it except for a second plan
pub steady_of : (p : Public) (x : Served) → MayFly x → IsSteady p x
steady_of p x may = steady_select p x.seen may.one_plan x.skeleton may.skeleton

-- and so is each of a flight
pub all_steady : (p : Public) (flown : List Served) → AllMayFly flown → AreSteady p flown
all_steady p flown may i x at = steady_of (flight_public (length flown) p) x (may.each i x at)
