-- Each statement that accesses no index writes to those regions alone that it makes.
use Rattle.ob_headline.proofs.Words.{Access, AfterCount, Answer, append-nil, append_assoc, arith, Bool, buffered_blocks, by_shape, columns_of, Continuous, count_part, Cut, Discard, discard_at, each, End, Err, false, Flat, FliesNone, Gathering, gathering_after, Hash, height_of, Holds, if◌then◌else◌, Indexed, insert_part, is_access, join_part, Batched, Large, Lawful, length, List, Make, next, None, Ok, Open, Option, option_map_or, Plan, Public, Read, read_at, refl, rewrite_part, script, Seen, seen_by, Shape, Skeleton, slice_get, Small, Some, SomeRun, Spelt, Static, Stmt, Stored, stored_at, stored_regions, subst, suc, sym, tables_after, take, true, Whole, Write, write_at, zero, ℕ, [], ⊤, ◌*◌, ◌++◌, ◌+◌, ◌-◌, ◌<◌, ◌∙◌, ◌∷◌, ◌≡◌, ◌≤◌}
use Rattle.std.proofs.Common.{◌/◌, ◌%◌, min}
use Rattle.std.specs.Int.{div_ceil}
use Rattle.ob_base.specs.Indexes.{tree_blocks}
use Rattle.ob_base.specs.Accesses.{drop_script, make_at, makes}
use Rattle.ob_base.specs.Joins.{joined_slots}
use Rattle.ob_base.specs.Numbers.{blocks_for, first_bucket, second_bucket}
use Rattle.ob_base.specs.Plans.{choose_padded, padded_rows}
use Rattle.ob_base.specs.Schemas.{width}
use Rattle.ob_base.specs.declared.skeleton.Skeleton.TheVariants.{Create, Insert, Update, Delete, Drop as DropTable, Rows, Groups}
use Rattle.ob_base.specs.declared.skeleton.Source.TheVariants.{Table as OneTable, Join}
use Rattle.ob_headline.proofs.IndexWrites.{writes_indexes}
use Rattle.ob_headline.specs.Shown.{WriteOwn, WritesOwn, WritesWithin}
use Rattle.ob_headline.proofs.ServedAlone.{SeenAlone}
use Rattle.ob_headline.proofs.AloneRuns.{run_alone}
use Rattle.ob_mean.specs.Refusals.{is_indexed}
use Rattle.ob_mean.specs.Replay.{has_index}
use Rattle.ob_script.specs.Parts.{bucket_part, continuous_block, continuous_part, copy_at, copy_part, create_part, emission_part, hash_block, hash_part, hash_slot, join_chunk, large_part, pair_at, read_from, slots_in, small_part, small_pass, write_from}
use Rattle.ob_script.specs.Script.{after_count, behind_change, behind_count, blocks_of, dropped_script, extent_of, flat_script, index_part_of, join_script, made_by, mutation_script, plan_part, result_blocks, result_part, rows_width, save_part, select_part, shape_script, until_end, whole_script, with_table}
use Rattle.ob_script.specs.Trace.{Served as Entry}
use Rattle.ob_verdict.proofs.LawfulProof.{region_index}

-- no region is made, and each write goes to one from the first number on and below the second
unfoldable Within : (from below : ℕ) → List Access → Type 0
Within from below [] = ⊤
Within from below (Write region place ∷ rest) = (from ≤ region) × (region < below) × Within from below rest
Within from below (Make region blocks len ∷ rest) = ⊥
Within from below (Read region place ∷ rest) = Within from below rest
Within from below (Discard region ∷ rest) = Within from below rest
Within from below (Open region blocks len ∷ rest) = Within from below rest

-- regions are made in turn, this one next, and each write goes to one from the first number on that was made before
unfoldable InTurn : (from n : ℕ) → List Access → Type 0
InTurn from n [] = ⊤
InTurn from n (Write region place ∷ rest) = (from ≤ region) × (region < n) × InTurn from n rest
InTurn from n (Make region blocks len ∷ rest) = (region ≡ n) × InTurn from (n + 1) rest
InTurn from n (Read region place ∷ rest) = InTurn from n rest
InTurn from n (Discard region ∷ rest) = InTurn from n rest
InTurn from n (Open region blocks len ∷ rest) = InTurn from n rest

nothing : (from n : ℕ) → InTurn from n []
unfolding InTurn
nothing from n = tt

both : (from below : ℕ) (xs ys : List Access) → Within from below xs → Within from below ys → Within from below (xs ++ ys)
unfolding Within
both from below [] ys a b = b
both from below (Write q x ∷ xs) ys a b = (a.0, a.1, both from below xs ys a.2 b)
both from below (Make q blocks len ∷ xs) ys a b = absurd a
both from below (Read q x ∷ xs) ys a b = both from below xs ys a b
both from below (Discard q ∷ xs) ys a b = both from below xs ys a b
both from below (Open q blocks len ∷ xs) ys a b = both from below xs ys a b

in_each : (from below m : ℕ) (f : ℕ → List Access) → ((i : ℕ) → Within from below (f i)) → Within from below (each m f)
unfolding Within
in_each from below zero f all = tt
in_each from below (suc m) f all = both from below (each m f) (f m) (in_each from below m f all) (all m)

goes_on : (from n : ℕ) (xs ys : List Access) → Within from n xs → InTurn from n ys → InTurn from n (xs ++ ys)
unfolding Within InTurn
goes_on from n [] ys a b = b
goes_on from n (Write q x ∷ xs) ys a b = (a.0, a.1, goes_on from n xs ys a.2 b)
goes_on from n (Make q blocks len ∷ xs) ys a b = absurd a
goes_on from n (Read q x ∷ xs) ys a b = goes_on from n xs ys a b
goes_on from n (Discard q ∷ xs) ys a b = goes_on from n xs ys a b
goes_on from n (Open q blocks len ∷ xs) ys a b = goes_on from n xs ys a b

first_part : (from n k : ℕ) (xs : List Access) → InTurn from n xs → InTurn from n (take k xs)
unfolding InTurn
first_part from n zero xs a = tt
first_part from n (suc k) [] a = tt
first_part from n (suc k) (Write q x ∷ xs) a = (a.0, a.1, first_part from n k xs a.2)
first_part from n (suc k) (Make q blocks len ∷ xs) a = (a.0, first_part from (n + 1) k xs a.1)
first_part from n (suc k) (Read q x ∷ xs) a = first_part from n k xs a
first_part from n (suc k) (Discard q ∷ xs) a = first_part from n k xs a
first_part from n (suc k) (Open q blocks len ∷ xs) a = first_part from n k xs a

-- so no write goes to a region that isn't made in these accesses
own_at : (from n : ℕ) (xs : List Access) (i q x : ℕ) → InTurn from n xs → slice_get xs i ≡ Some (Write q x) → (from ≤ q) × (q < n + makes xs)
unfolding InTurn makes
own_at from n [] i q x a is = absurd (cc is)
own_at from n (Write r y ∷ xs) zero q x a is = let same : r ≡ q = cc is in (omega (arith, a.0, same), omega (arith, a.1, same))
own_at from n (Make r blocks len ∷ xs) zero q x a is = absurd (cc is)
own_at from n (Read r y ∷ xs) zero q x a is = absurd (cc is)
own_at from n (Discard r ∷ xs) zero q x a is = absurd (cc is)
own_at from n (Open r blocks len ∷ xs) zero q x a is = absurd (cc is)
own_at from n (Write r y ∷ xs) (suc i) q x a is = own_at from n xs i q x a.2 is
own_at from n (Make r blocks len ∷ xs) (suc i) q x a is = let there = own_at from (n + 1) xs i q x a.1 is in (there.0, omega (arith, there.1))
own_at from n (Read r y ∷ xs) (suc i) q x a is = own_at from n xs i q x a is
own_at from n (Discard r ∷ xs) (suc i) q x a is = own_at from n xs i q x a is
own_at from n (Open r blocks len ∷ xs) (suc i) q x a is = own_at from n xs i q x a is

-- ---- parts that make no region
discards : (from below t : ℕ) → Within from below (discard_at t)
unfolding Within
discards from below t = tt

gives_up : (from below : ℕ) (region : Option ℕ) → Within from below (drop_script region)
unfolding Within
gives_up from below None = tt
gives_up from below (Some region) = tt

reads : (from below t x : ℕ) → Within from below (read_at t x)
unfolding Within
reads from below t x = tt

counts : (from below t blocks : ℕ) → Within from below (count_part t blocks)
counts from below t blocks = in_each from below blocks (read_at t) (reads from below t)

emits : (from below g blocks : ℕ) → Within from below (emission_part g blocks)
emits from below g blocks = both from below (count_part g blocks) (discard_at g) (counts from below g blocks) (discards from below g)

-- ---- parts that make region g and write to it
module _ (n g : ℕ) (from : n ≤ g) where
  least : g < g + 1
  least = omega arith

  wrote : (x : ℕ) → Within n (g + 1) (write_at g x)
  unfolding Within
  wrote x = (from, least, tt)

  copied : (t x : ℕ) → Within n (g + 1) (copy_at t g x)
  unfolding Within
  copied t x = (from, least, tt)

  paired : (b rights q v : ℕ) → Within n (g + 1) (pair_at b g rights q v)
  unfolding Within
  paired b rights q v = (from, least, tt)

  -- the region is made, then it is written, and then the rest follows
  made : (blocks width : ℕ) (body rest : List Access) → Within n (g + 1) body → InTurn n (g + 1) rest → InTurn n g ((make_at g blocks width ++ body) ++ rest)
  unfolding InTurn
  made blocks width body rest a b = (refl, goes_on n (g + 1) body rest a b)

  copies : (t blocks : ℕ) → Within n (g + 1) (copy_part t g blocks)
  copies t blocks = in_each n (g + 1) blocks (copy_at t g) (copied t)

  fills : (blocks : ℕ) → Within n (g + 1) (each blocks (write_at g))
  fills blocks = in_each n (g + 1) blocks (write_at g) wrote

  passes : (t blocks results few j : ℕ) → Within n (g + 1) (small_pass t g blocks results few j)
  passes t blocks results few j =
      let m = min few (results - j * few) in
      both n (g + 1) (count_part t blocks) (each m (write_from g (j * few))) (counts n (g + 1) t blocks) (in_each n (g + 1) m (write_from g (j * few)) (λ x. wrote (j * few + x)))

  turns : (t pack slots k u : ℕ) → Within n (g + 1) (continuous_block t g pack slots k u)
  turns t pack slots k u =
      let m = slots_in pack slots u in
      let f = λ (j : ℕ). copy_at g g (((u * pack + j) % k) / pack) in
      both n (g + 1) (read_at t u) (each m f) (reads n (g + 1) t u) (in_each n (g + 1) m f (λ j. copied g (((u * pack + j) % k) / pack)))

  buckets : (depth b : ℕ) → Within n (g + 1) (bucket_part g depth b)
  buckets depth b = in_each n (g + 1) depth (λ y. copy_at g g (b * depth + y)) (λ y. copied g (b * depth + y))

  slots_of : (k depth i : ℕ) → Within n (g + 1) (hash_slot g k depth i)
  slots_of k depth i = both n (g + 1) (bucket_part g depth (first_bucket k i)) (bucket_part g depth (second_bucket k i)) (buckets depth (first_bucket k i)) (buckets depth (second_bucket k i))

  hashed : (t pack slots k depth u : ℕ) → Within n (g + 1) (hash_block t g pack slots k depth u)
  hashed t pack slots k depth u =
      let m = slots_in pack slots u in
      let f = λ (j : ℕ). hash_slot g k depth (u * pack + j) in
      both n (g + 1) (read_at t u) (each m f) (reads n (g + 1) t u) (in_each n (g + 1) m f (λ j. slots_of k depth (u * pack + j)))

  chunks : (a b lefts rights few q : ℕ) → Within n (g + 1) (join_chunk a b g lefts rights few q)
  chunks a b lefts rights few q =
      let m = min few (lefts - q * few) in
      both n (g + 1) (each m (read_from a (q * few))) (each rights (pair_at b g rights q)) (in_each n (g + 1) m (read_from a (q * few)) (λ x. reads n (g + 1) a (q * few + x))) (in_each n (g + 1) rights (pair_at b g rights q) (paired b rights q))

  module _ (rest : List Access) (onward : InTurn n (g + 1) rest) where
    creates : (blocks width : ℕ) → InTurn n g (create_part g blocks width ++ rest)
    creates blocks width = made blocks width (each blocks (write_at g)) rest (fills blocks) onward

    inserts : (t blocks width : ℕ) → InTurn n g (insert_part t g blocks width rest)
    inserts t blocks width =
        subst (λ (xs : List Access). InTurn n g (make_at g blocks width ++ xs)) (append_assoc (count_part t blocks) (copy_part t g blocks) rest)
        (made blocks width (count_part t blocks ++ copy_part t g blocks) rest
        (both n (g + 1) (count_part t blocks) (copy_part t g blocks) (counts n (g + 1) t blocks) (copies t blocks)) onward)

    rewrites : (t blocks width : ℕ) → InTurn n g (rewrite_part t g blocks width rest)
    rewrites t blocks width = made blocks width (copy_part t g blocks) rest (copies t blocks) onward

    smalls : (t blocks results few width : ℕ) → InTurn n g (small_part t g blocks results few width ++ rest)
    smalls t blocks results few width =
        made results width (each (div_ceil results few) (small_pass t g blocks results few)) rest
        (in_each n (g + 1) (div_ceil results few) (small_pass t g blocks results few) (passes t blocks results few)) onward

    larges : (t blocks width : ℕ) → InTurn n g (large_part t g blocks width ++ rest)
    larges t blocks width =
        made blocks width (copy_part t g blocks ++ copy_part g g blocks) rest (both n (g + 1) (copy_part t g blocks) (copy_part g g blocks) (copies t blocks) (copies g blocks)) onward

    continuous : (t pack slots k width : ℕ) → InTurn n g (continuous_part t g pack slots k width ++ rest)
    continuous t pack slots k width =
        let filled = each (blocks_for pack k) (write_at g) in
        let turned = each (blocks_for pack slots) (continuous_block t g pack slots k) in
        made (blocks_for pack k) width (filled ++ turned) rest
        (both n (g + 1) filled turned (fills (blocks_for pack k)) (in_each n (g + 1) (blocks_for pack slots) (continuous_block t g pack slots k) (turns t pack slots k))) onward

    hashes : (t pack slots k depth width : ℕ) → InTurn n g (hash_part t g pack slots k depth width ++ rest)
    hashes t pack slots k depth width =
        let filled = each (k * depth) (write_at g) in
        let turned = each (blocks_for pack slots) (hash_block t g pack slots k depth) in
        made (k * depth) width (filled ++ turned) rest
        (both n (g + 1) filled turned (fills (k * depth)) (in_each n (g + 1) (blocks_for pack slots) (hash_block t g pack slots k depth) (hashed t pack slots k depth))) onward

    joins : (a b lefts rights few width : ℕ) → InTurn n g (join_part a b g lefts rights few width ++ rest)
    joins a b lefts rights few width =
        made (div_ceil lefts few * rights) width (each (div_ceil lefts few) (join_chunk a b g lefts rights few)) rest
        (in_each n (g + 1) (div_ceil lefts few) (join_chunk a b g lefts rights few) (chunks a b lefts rights few)) onward

    -- ---- a SELECT of rows, whose result is in region g
    plans : (p : Public) (plan : Plan) (k : ℕ) (t : Stored ℕ) → InTurn n g (plan_part p plan k g (extent_of t) ++ rest)
    plans p Small k t = smalls t.held (blocks_of p (extent_of t)) (blocks_for p.pack k) (buffered_blocks p.pack p.buffer) (rows_width p (extent_of t))
    plans p Large k t = larges t.held (blocks_of p (extent_of t)) (rows_width p (extent_of t))
    plans p Continuous k t = continuous t.held p.pack t.heading.capacity k (rows_width p (extent_of t))
    plans p Hash k t = hashes t.held p.pack t.heading.capacity k p.depth (rows_width p (extent_of t))

  results : (rest : List Access) → InTurn n (g + 1) rest → (p : Public) (plan : Plan) (k : ℕ) (t : Stored ℕ) → InTurn n g (result_part p (Some plan) k g (extent_of t) ++ rest)
  results rest onward p plan k t =
      let part = plan_part p plan k g (extent_of t) in
      let emitted = emission_part g (result_blocks p plan k (extent_of t)) in
      subst (InTurn n g) (sym (append_assoc part emitted rest)) (plans (emitted ++ rest) (goes_on n (g + 1) emitted rest (emits n (g + 1) g (result_blocks p plan k (extent_of t))) onward) p plan k t)

-- a second plan comes after a first one alone
abbrev pub InOrder : Option Plan → Option Plan → Type 0
InOrder None (Some second) = ⊥
InOrder None None = ⊤
InOrder (Some plan) second = ⊤

-- what follows is in turn wherever it begins
abbrev Anywhere : ℕ → List Access → Type 0
Anywhere n ending = (g : ℕ) → InTurn n g ending

after : (n g : ℕ) → n ≤ g → (p : Public) (seen : Seen) (k : Option ℕ) (t : Stored ℕ) (ending : List Access) → InOrder seen.plan seen.then → Anywhere n ending → InTurn n g (after_count p seen k g (extent_of t) ending)
after n g from p seen None t ending order a = nothing n g
after n g from p seen (Some k) t ending order a = go seen.plan seen.then order
  where
    go : (plan second : Option Plan) → InOrder plan second → InTurn n g (result_part p plan k g (extent_of t) ++ (result_part p second k (g + 1) (extent_of t) ++ ending))
    go None None order = a g
    go None (Some second) order = absurd order
    go (Some plan) None order = results n g from ending (a (g + 1)) p plan k t
    go (Some plan) (Some second) order =
        results n g from (result_part p (Some second) k (g + 1) (extent_of t) ++ ending) (results n (g + 1) (omega (arith, from)) ending (a (g + 1 + 1)) p second k t) p plan k t

behind : (n g : ℕ) → n ≤ g → (pad : Option ℕ) (p : Public) (seen : Seen) (t : Stored ℕ) (ending : List Access) → InOrder seen.plan seen.then → Anywhere n ending → InTurn n g (behind_count pad p seen g (extent_of t) ending)
behind n g from None p seen t ending order a = after n g from p seen seen.k t ending order a
behind n g from (Some pad) p seen t ending order a =
    let q = padded_rows pad t.heading.capacity in results n g from ending (a (g + 1)) p (choose_padded p.planner p.pack p.buffer t.heading.capacity q) q t

selects : (n g : ℕ) → n ≤ g → (p : Public) (seen : Seen) (t : Stored ℕ) (ending : List Access) → InOrder seen.plan seen.then → Anywhere n ending → InTurn n g (select_part p seen g (extent_of t) ending)
selects n g from p seen t ending order a =
    goes_on n g (count_part t.held (blocks_of p (extent_of t))) (behind_count p.pad p seen g (extent_of t) ending) (counts n g t.held (blocks_of p (extent_of t))) (behind n g from p.pad p seen t ending order a)

-- ---- all statements
found : (n g : ℕ) (f : Stored ℕ → List Access) → ((t : Stored ℕ) → InTurn n g (f t)) → (name : List ℕ) (p : Public) → InTurn n g (with_table name p f)
found n g f all name p = elim (stored_at name (stored_regions p.tables)) as (λ o. InTurn n g (option_map_or f o [])) [ None ↦ nothing n g | Some t ↦ all t ]

-- where no index has the name
found_flat : (n g : ℕ) (leaf : Option ℕ) (f : Stored ℕ → List Access) → ((t : Stored ℕ) → InTurn n g (f t)) → (name : List ℕ) (p : Public) → has_index p name ≡ false → InTurn n g (with_table name p (shape_script p leaf f))
found_flat n g leaf f all name p flat = go (stored_at name (stored_regions p.tables)) refl
  where
    of_shape : (t : Stored ℕ) (shape : Shape) → is_indexed shape ≡ false → InTurn n g (by_shape shape (f t) (index_part_of p leaf t))
    of_shape t Flat none = all t
    of_shape t Indexed none = absurd (cc none)

    go : (o : Option (Stored ℕ)) → stored_at name (stored_regions p.tables) ≡ o → InTurn n g (option_map_or (shape_script p leaf f) o [])
    go None none = nothing n g
    go (Some t) is = of_shape t t.heading.shape (sym (region_index p name t is) ∙ flat)

ends : (n g : ℕ) (xs : List Access) → InTurn n g (xs ++ []) → InTurn n g xs
ends n g xs a = subst (InTurn n g) (append-nil xs) a

ending : (n g : ℕ) (xs : List Access) → Within n g xs → InTurn n g xs
ending n g xs a = ends n g xs (goes_on n g xs [] a (nothing n g))

module _ (p : Public) (seen : Seen) (order : InOrder seen.plan seen.then) where
  same : p.next_region ≤ p.next_region
  same = omega arith

  none : InTurn p.next_region (p.next_region + 1) []
  none = nothing p.next_region (p.next_region + 1)

  joined : (left right : Stored ℕ) → InTurn p.next_region p.next_region (join_script p seen left right)
  joined left right =
      let t : Stored ℕ = record {
        heading = record { name = []; schema = left.heading.schema ++ right.heading.schema; capacity = joined_slots p.pack p.buffer left.heading.capacity right.heading.capacity; shape = Flat };
        held = p.next_region;
      } in
      joins p.next_region p.next_region same (select_part p seen (p.next_region + 1) (extent_of t) (discard_at p.next_region))
      (selects p.next_region (p.next_region + 1) (omega arith) p seen t (discard_at p.next_region) order (λ g. ending p.next_region g (discard_at p.next_region) (discards p.next_region g p.next_region)))
      left.held right.held (blocks_of p (extent_of left)) (blocks_of p (extent_of right)) (buffered_blocks p.pack p.buffer) (rows_width p (extent_of t))

  joins_all : (a b : List ℕ) → InTurn p.next_region p.next_region (with_table a p (λ left. with_table b p (λ right. join_script p seen left right)))
  joins_all a b =
      found p.next_region p.next_region (λ left. with_table b p (λ right. join_script p seen left right)) (λ left. found p.next_region p.next_region (λ right. join_script p seen left right) (joined left) b p) a p

  -- ---- what follows a change of tables
  -- the closing is the next region that is made
  saves : (s : Skeleton) (left : Option ℕ) → InTurn p.next_region (p.next_region + made_by s) (save_part p s left)
  saves s left =
      let g = p.next_region + made_by s in
      creates p.next_region g (omega arith) (drop_script left ++ drop_script p.closing)
      (ending p.next_region (g + 1) (drop_script left ++ drop_script p.closing)
      (both p.next_region (g + 1) (drop_script left) (drop_script p.closing) (gives_up p.next_region (g + 1) left) (gives_up p.next_region (g + 1) p.closing)))
      (length (tables_after p s) + 1) 1024

  follows : (s : Skeleton) (left : Option ℕ) → InTurn p.next_region (p.next_region + made_by s) (behind_change p s left)
  follows s left =
      elim p.save as (λ (b : Bool). InTurn p.next_region (p.next_region + made_by s) (if b then save_part p s left else drop_script left))
      [ true ↦ saves s left | false ↦ ending p.next_region (p.next_region + made_by s) (drop_script left) (gives_up p.next_region (p.next_region + made_by s) left) ]

  -- a region is given up, and of an index two are
  drops : (table : List ℕ) (t : Stored ℕ) (shape : Shape)
      → InTurn p.next_region p.next_region (by_shape shape (behind_change p (DropTable table) (Some t.held)) (discard_at t.held ++ discard_at (t.held + 1)))
  drops table t Flat =
      subst (λ (g : ℕ). InTurn p.next_region g (behind_change p (DropTable table) (Some t.held))) (omega arith) (follows (DropTable table) (Some t.held))
  drops table t Indexed =
      ending p.next_region p.next_region (discard_at t.held ++ discard_at (t.held + 1))
      (both p.next_region p.next_region (discard_at t.held) (discard_at (t.held + 1)) (discards p.next_region p.next_region t.held) (discards p.next_region p.next_region (t.held + 1)))

  -- a table lies in the next region then
  inserts_all : (table : List ℕ) (cs : Option (List (List ℕ))) (t : Stored ℕ)
      → InTurn p.next_region p.next_region (mutation_script p insert_part (behind_change p (Insert table cs)) t)
  inserts_all table cs t =
      inserts p.next_region p.next_region same (behind_change p (Insert table cs) (Some t.held)) (follows (Insert table cs) (Some t.held)) t.held (blocks_of p (extent_of t)) (rows_width p (extent_of t))

  rewrites_all : (s : Skeleton) (t : Stored ℕ) → made_by s ≡ 1 → InTurn p.next_region p.next_region (mutation_script p rewrite_part (behind_change p s) t)
  rewrites_all s t one =
      rewrites p.next_region p.next_region same (behind_change p s (Some t.held))
      (subst (λ (g : ℕ). InTurn p.next_region g (behind_change p s (Some t.held))) (omega (arith, one)) (follows s (Some t.held)))
      t.held (blocks_of p (extent_of t)) (rows_width p (extent_of t))

  wholes : (s : Skeleton) → is_access p s ≡ false → InTurn p.next_region p.next_region (whole_script p s seen)
  wholes (Create table cs capacity Flat) flat =
      let s = Create table cs capacity Flat in
      creates p.next_region p.next_region same (behind_change p s None) (follows s None) (blocks_for p.pack capacity) (p.pack * width (columns_of table cs))
  wholes (Create table cs capacity Indexed) flat =
      let wide = width (columns_of table cs) in
      let stash : InTurn p.next_region (p.next_region + 1) (create_part (p.next_region + 1) p.stash wide) =
      ends p.next_region (p.next_region + 1) _ (creates p.next_region (p.next_region + 1) (omega arith) [] (nothing p.next_region (p.next_region + 1 + 1)) p.stash wide) in
      creates p.next_region p.next_region same (create_part (p.next_region + 1) p.stash wide) stash (tree_blocks (height_of capacity)) wide
  wholes (Insert table cs) flat =
      found_flat p.next_region p.next_region seen.leaf (mutation_script p insert_part (behind_change p (Insert table cs))) (inserts_all table cs) table p flat
  wholes (Update table cs) flat =
      let s = Update table cs in
      found_flat p.next_region p.next_region seen.leaf (mutation_script p rewrite_part (behind_change p s)) (λ t. rewrites_all s t refl) table p flat
  wholes (Delete table) flat =
      let s = Delete table in
      found_flat p.next_region p.next_region seen.leaf (mutation_script p rewrite_part (behind_change p s)) (λ t. rewrites_all s t refl) table p flat
  wholes (DropTable table) flat =
      found p.next_region p.next_region (dropped_script (behind_change p (DropTable table))) (λ t. drops table t t.heading.shape) table p
  wholes (Rows (OneTable name) cs) flat = found_flat p.next_region p.next_region seen.leaf (flat_script p seen) (λ t. selects p.next_region p.next_region same p seen t [] order (nothing p.next_region)) name p flat
  wholes (Rows (Join a b on equals) cs) flat = joins_all a b
  wholes (Groups table cs key) flat =
      found p.next_region p.next_region (λ t. count_part t.held (blocks_of p (extent_of t))) (λ t. ending p.next_region p.next_region _ (counts p.next_region p.next_region t.held (blocks_of p (extent_of t)))) table p

  until : (end : End) (all : List Access) → InTurn p.next_region p.next_region all → InTurn p.next_region p.next_region (until_end end all)
  until Static all a = nothing p.next_region p.next_region
  until Whole all a = a
  until AfterCount all a = a
  until Batched all a = nothing p.next_region p.next_region
  until (Cut k) all a = first_part p.next_region p.next_region k all a

  scripts : (s : Skeleton) → is_access p s ≡ false → InTurn p.next_region p.next_region (script p s seen)
  scripts s flat = until seen.end (whole_script p s seen) (wholes s flat)

  writes_within : (s : Skeleton) → InTurn p.next_region p.next_region (script p s seen) → WritesWithin p.next_region (next p s seen).next_region (script p s seen)
  writes_within s turn = record { each = λ i q x wrote. own_at p.next_region p.next_region (script p s seen) i q x turn wrote.is }

-- ---- what is lawful is in order
pub in_order : (p : Public) (stmt : Stmt) (seen : Seen) (k : Option ℕ) (plan second : Option Plan) → Holds p stmt seen k plan second → InOrder plan second
in_order p stmt seen k (Some plan) second holds = tt
in_order p stmt seen k None None holds = tt
in_order p stmt seen None None (Some second) holds = absurd holds
in_order p stmt seen (Some k) None (Some second) holds = absurd holds

pub ordered_own : (p : Public) (x : Entry) → InOrder x.seen.plan x.seen.then → WritesOwn p x
ordered_own p x order = record { own = λ flat. writes_within p x.seen order x.skeleton (scripts p x.seen order x.skeleton flat); index = writes_indexes p x.skeleton x.seen }

lawful_own : (p : Public) (m : ℕ) (stmt : Stmt) (x : Entry) → Lawful p m stmt x.seen → WritesOwn p x
lawful_own p m stmt x lawful = ordered_own p x (in_order p stmt x.seen x.seen.k x.seen.plan x.seen.then lawful.holds)

-- ---- a whole run
pub write_own : (Leaves : Public → Stmt → Seen → Type 0) (spelt : List Spelt) (answers : List Answer) (p : Public) (m : ℕ) (g : Option Gathering) (seen : List Entry) → SeenAlone Leaves p m g spelt answers seen → WriteOwn p seen
unfolding SeenAlone WriteOwn
write_own Leaves [] answers p m g seen lawful = subst (λ (xs : List Entry). WriteOwn p xs) (sym lawful) tt
write_own Leaves (Err at ∷ spelt) [] p m g seen lawful = write_own Leaves spelt [] p m None seen lawful
write_own Leaves (Err at ∷ spelt) (one ∷ answers) p m g seen lawful = write_own Leaves spelt answers p m None seen lawful.1
write_own Leaves (Ok stmt ∷ spelt) [] p m g [] lawful = absurd lawful
write_own Leaves (Ok stmt ∷ spelt) (one ∷ answers) p m g [] lawful = absurd lawful
write_own Leaves (Ok stmt ∷ spelt) [] p m g (x ∷ seen) lawful =
    (lawful_own p m stmt x lawful.1, write_own Leaves spelt [] (next p x.skeleton x.seen) (m + length (script p x.skeleton x.seen)) (gathering_after p m g stmt x.seen.end) seen lawful.3)
write_own Leaves (Ok stmt ∷ spelt) (one ∷ answers) p m g (x ∷ seen) lawful =
    (lawful_own p m stmt x lawful.1, write_own Leaves spelt answers (next p x.skeleton x.seen) (m + length (script p x.skeleton x.seen)) (gathering_after p m g stmt x.seen.end) seen lawful.3)

pub runs_write_own : (one : SomeRun) → FliesNone one.base → WriteOwn one.base.public (seen_by one)
runs_write_own one alone = write_own _ one.run.story.spelt one.run.story.answers one.base.public one.base.count None (seen_by one) (run_alone one alone).lawful
