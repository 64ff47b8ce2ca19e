-- No statement asks 2^49 accesses or more.
use Rattle.std.proofs.Common.{◌≡◌, ℕ, suc, ◌+◌, ◌-◌, ◌*◌, ◌/◌, ◌^◌, ◌≤◌, ◌<◌, List, [], ◌∷◌, ◌++◌, length, ◌≢◌, ◌∙◌, ap, inl, inr, refl, arith}
use Rattle.std.specs.Prelude.{Option, Some, None, IfSome, All, Bool, true, false, not, bytes_eq, if◌then◌else◌}
use Rattle.std.specs.Option.{option_map_or}
use Rattle.ob_base.specs.declared.access.Access.{Access}
use Rattle.ob_base.specs.declared.schema.Table.{Table}
use Rattle.ob_base.specs.declared.seen.Seen.{Seen}
use Rattle.ob_base.specs.declared.seen.End.{End}
use Rattle.ob_base.specs.declared.seen.End.TheVariants.{Static, Whole, AfterCount, Batched, Cut}
use Rattle.ob_base.specs.declared.skeleton.Source.{Source}
use Rattle.ob_base.specs.declared.skeleton.Source.TheVariants.{Table as OneTable, Join}
use Rattle.ob_base.specs.declared.skeleton.Skeleton.{Skeleton}
use Rattle.ob_base.specs.declared.skeleton.Skeleton.TheVariants.{Create, Insert, Update, Delete, Drop as DropTable, Rows, Groups}
use Rattle.ob_base.specs.declared.schema.Shape.{Shape}
use Rattle.ob_base.specs.declared.schema.Shape.TheVariants.{Flat, Indexed}
use Rattle.ob_base.specs.Accesses.{discard_at, drop_script}
use Rattle.ob_base.specs.Indexes.{by_shape, height_of}
use Rattle.ob_base.proofs.IndexLemmas.{is_height_of}
use Rattle.ob_base.specs.Schemas.{width, columns_of}
use Rattle.ob_script.proofs.Joined.{few_blocks}
use Rattle.ob_base.specs.Stored.{Stored, stored_at, stored_regions}
use Rattle.std.specs.Int.{div_ceil}
use Rattle.std.proofs.lemmas.Bool.{cases_lt}
use Rattle.std.proofs.lemmas.List.{length-append, length-map, length-take}
use Rattle.std.proofs.lemmas.List.Sums.{count_by-le-length, length-filter}
use Rattle.std.proofs.lemmas.Grind.{div_ceil_times}
use Rattle.std.proofs.Math.Nat.{mul-le-mul, mul-le-mul_right, mul-le-mul_left, le-div_iff_mul-le}
use Rattle.ob_base.specs.declared.config.Public.{Public}
use Rattle.ob_base.specs.declared.config.Plan.{Plan}
use Rattle.ob_base.specs.declared.config.Plan.TheVariants.{Small, Large, Continuous, Hash}
use Rattle.ob_base.specs.Limits.{buffered_blocks}
use Rattle.ob_base.specs.Plans.{choose_padded, padded_rows}
use Rattle.ob_base.specs.Numbers.{blocks_for}
use Rattle.ob_script.specs.declared.extent.Extent.{Extent}
use Rattle.ob_script.specs.Parts.{closing_part, count_part, create_part, insert_part, rewrite_part, emission_part, join_part}
use Rattle.ob_script.specs.Script.{FollowUp, behind_change, closing_behind, created_script, dropped_script, extent_of, flat_script, index_part_of, shape_script, with_table, mutation_script, joined_extent, table_script, join_script, source_script, whole_script, until_end, save_part, script, select_part, after_count, behind_count, padded_part, plan_part, result_part, result_blocks, blocks_of, rows_width}
use Rattle.ob_script.specs.Tables.{moved, moved_to, tables_after}
use Rattle.ob_script.specs.Sizes.{IfFlat, IsHeld, IsPublic, IsCounted, IsTable, IfTable, IsSourceCounted, IsWithin}
use Rattle.ob_script.proofs.Leaves.{blocks_few as tree_few}
use Rattle.ob_script.proofs.Lengths.{length-count_part}
use Rattle.ob_script.proofs.Numbers.{ceil-ceil, length-access_part, length-closing_part, length-index_part, length-create_part, length-insert_part, length-rewrite_part, length-join_part, length-small_part, length-large_part, length-continuous_part, length-hash_part, length-emission_part}

-- at least one block may be buffered, and at least two rows
pub buffer_some : (p : Public) → IsPublic p → 1 ≤ buffered_blocks p.pack p.buffer
buffer_some p h =
    let a = h.pack_some in let b = h.buffer_some in
    (le-div_iff_mul-le {k = p.pack} {x = 1} {y = p.buffer - 2 * p.pack} a).1 (omega arith)

buffer_two : (p : Public) → IsPublic p → 2 ≤ p.pack * buffered_blocks p.pack p.buffer
buffer_two p h = elim (cases_lt 1 p.pack) [ inl more ↦ two more | inr one ↦ one_row one ] where
  two : 1 < p.pack → 2 ≤ p.pack * buffered_blocks p.pack p.buffer
  two more = let m : 2 * 1 ≤ p.pack * buffered_blocks p.pack p.buffer = mul-le-mul more (buffer_some p h) in omega arith

  one_row : p.pack ≤ 1 → 2 ≤ p.pack * buffered_blocks p.pack p.buffer
  one_row one =
      let is : p.pack ≡ 1 = let a = h.pack_some in omega arith in
      let b : 2 ≤ (p.buffer - 2 * p.pack) / p.pack = (le-div_iff_mul-le {k = p.pack} {x = 2} {y = p.buffer - 2 * p.pack} h.pack_some).1 (let c = h.buffer_some in omega arith) in
      let m : 1 * 2 ≤ p.pack * buffered_blocks p.pack p.buffer = mul-le-mul h.pack_some b in omega arith

blocks_few : (pack n : ℕ) → 1 ≤ pack → n ≤ 2 ^ 24 → blocks_for pack n ≤ 2 ^ 24
blocks_few pack n some few =
    let d = div_ceil_times n pack some in
    elim (cases_lt n (blocks_for pack n)) [ inl more ↦ absurd (let m : suc n * 1 ≤ blocks_for pack n * pack = mul-le-mul more some in let e : suc n * pack ≤ blocks_for pack n * pack = mul-le-mul_right pack more in let f : suc n * pack ≡ n * pack + pack = omega arith in let g : n * 1 ≤ n * pack = mul-le-mul_left n some in omega (arith, d.1)) | inr ok ↦ omega arith ]

-- two rows or more are written in each pass
passes_few : (p : Public) (k : ℕ) → IsPublic p → k ≤ 2 ^ 24 → div_ceil (blocks_for p.pack k) (buffered_blocks p.pack p.buffer) ≤ 2 ^ 23
passes_few p k h few =
    let s = p.pack * buffered_blocks p.pack p.buffer in
    let two : 2 ≤ s = buffer_two p h in
    let d = div_ceil_times k s (omega arith) in
    let by_rows = ceil-ceil k p.pack (buffered_blocks p.pack p.buffer) h.pack_some (buffer_some p h) in
    elim (cases_lt (2 ^ 23) (div_ceil k s)) [
      | inl more ↦ absurd (let m : suc (2 ^ 23) * s ≤ div_ceil k s * s = mul-le-mul_right s more in let e : suc (2 ^ 23) * s ≡ 2 ^ 23 * s + s = omega arith in let f : 2 ^ 23 * 2 ≤ 2 ^ 23 * s = mul-le-mul_left (2 ^ 23) two in omega (arith, d.1))
      | inr ok ↦ omega (arith, by_rows)
    ]

-- a result, with what it is read back by
result_few : (p : Public) (plan : Option Plan) (k g : ℕ) (t : Extent) → IsPublic p → k ≤ 2 ^ 24 → t.slots ≤ 2 ^ 24 → length (result_part p plan k g t) ≤ 2 ^ 47 + 2 ^ 31
result_few p None k g t h few slots = omega arith
result_few p (Some plan) k g t h few slots = go plan where
  blocks : blocks_of p t ≤ 2 ^ 24
  blocks = blocks_few p.pack t.slots h.pack_some slots

  rows : blocks_for p.pack k ≤ 2 ^ 24
  rows = blocks_few p.pack k h.pack_some few

  deep : k * p.depth ≤ 2 ^ 24 * 8
  deep = mul-le-mul few h.depth_few

  both : (plan : Plan) → length (plan_part p plan k g t ++ emission_part g (result_blocks p plan k t)) ≡ length (plan_part p plan k g t) + (result_blocks p plan k t + 1)
  both plan = length-append (plan_part p plan k g t) (emission_part g (result_blocks p plan k t)) ∙ ap (λ n. length (plan_part p plan k g t) + n) (length-emission_part g (result_blocks p plan k t))

  go : (plan : Plan) → length (plan_part p plan k g t ++ emission_part g (result_blocks p plan k t)) ≤ 2 ^ 47 + 2 ^ 31
  go Small =
      let q = buffered_blocks p.pack p.buffer in
      let e = length-small_part t.region g (blocks_of p t) (blocks_for p.pack k) q (rows_width p t) (buffer_some p h) in
      let m : div_ceil (blocks_for p.pack k) q * blocks_of p t ≤ 2 ^ 23 * 2 ^ 24 = mul-le-mul (passes_few p k h few) blocks in
      omega (arith, both Small, blocks, rows, deep)
  go Large = let e = length-large_part t.region g (blocks_of p t) (rows_width p t) in omega (arith, both Large, blocks, rows, deep)
  go Continuous = let e = length-continuous_part t.region g p.pack t.slots k (rows_width p t) h.pack_some in omega (arith, both Continuous, blocks, rows, deep)
  go Hash =
      let e = length-hash_part t.region g p.pack t.slots k p.depth (rows_width p t) h.pack_some in
      let m : 4 * p.depth * t.slots ≤ 4 * 8 * 2 ^ 24 = mul-le-mul (mul-le-mul_left 4 h.depth_few) slots in
      omega (arith, both Hash, blocks, rows, deep)

-- the count, both results, and what ends the statement
select_few : (p : Public) (seen : Seen) (g : ℕ) (t : Extent) (ending : List Access) → IsPublic p → IsCounted seen t → length ending ≤ 1 →
    length (select_part p seen g t ending) ≤ 2 ^ 48 + 2 ^ 33
select_few p seen g t ending h c one = either p.pad where
  blocks : blocks_of p t ≤ 2 ^ 24
  blocks = blocks_few p.pack t.slots h.pack_some c.slots

  go : (k : Option ℕ) → IfSome k (λ k. k ≤ t.slots) → length (count_part t.region (blocks_of p t) ++ after_count p seen k g t ending) ≤ 2 ^ 48 + 2 ^ 33
  go None few =
      let m = blocks in
      let a = length-append (count_part t.region (blocks_of p t)) [] in let b = length-count_part t.region (blocks_of p t) in omega (arith, a)
  go (Some k) few =
      let m = blocks in
      let slots = c.slots in
      let x = result_few p seen.plan k g t h (omega arith) slots in
      let y = result_few p seen.then k (g + 1) t h (omega arith) slots in
      let a = length-append (count_part t.region (blocks_of p t)) (after_count p seen (Some k) g t ending) in
      let b = length-count_part t.region (blocks_of p t) in
      let d = length-append (result_part p seen.plan k g t) (result_part p seen.then k (g + 1) t ++ ending) in
      let e = length-append (result_part p seen.then k (g + 1) t) ending in
      omega (arith, a, d, e)

  either : (pad : Option ℕ) → length (count_part t.region (blocks_of p t) ++ behind_count pad p seen g t ending) ≤ 2 ^ 48 + 2 ^ 33
  either None = go seen.k c.count
  either (Some pad) =
      let m = blocks in
      let q = padded_rows pad t.slots in
      let least : q ≤ t.slots = omega arith in
      let few : q ≤ 2 ^ 24 = let slots = c.slots in omega arith in
      let x = result_few p (Some (choose_padded p.planner p.pack p.buffer t.slots q)) q g t h few c.slots in
      let a = length-append (count_part t.region (blocks_of p t)) (padded_part p pad g t ++ ending) in
      let b = length-count_part t.region (blocks_of p t) in
      let d = length-append (padded_part p pad g t) ending in
      omega (arith, a, b, d, x)

-- a table that there is is within its limits
record IsStored (t : Stored ℕ) : Type 0 where
  capacity : t.heading.capacity ≤ 2 ^ 20

stored-sized : (name : List ℕ) (ts : List Table) → All IsTable ts → IfSome (stored_at name (stored_regions ts)) IsStored
stored-sized name [] h = tt
stored-sized name (t ∷ ts) h = split (bytes_eq t.heading.name name) (stored-sized name ts (λ k d l. h (suc k) d (omega arith))) where
  split : (b : Bool) → IfSome (stored_at name (stored_regions ts)) IsStored → IfSome (if b then Some (record { heading = t.heading; held = t.region }) else stored_at name (stored_regions ts)) IsStored
  split true rest = record { capacity = (h 0 t (omega arith)).capacity }
  split false rest = rest

both_some : {A : Type 0} (o : Option A) (P Q : A → Type 0) → IfSome o P → IfSome o Q → IfSome o (λ x. P x × Q x)
both_some None P Q p q = tt
both_some (Some x) P Q p q = (p, q)

of_table : (name : List ℕ) (p : Public) (f : Stored ℕ → List Access) (n : ℕ) (P : Stored ℕ → Type 0) → IfSome (stored_at name (stored_regions p.tables)) P →
    ((t : Stored ℕ) → P t → length (f t) ≤ n) → length (with_table name p f) ≤ n
of_table name p f n P given h = go (stored_at name (stored_regions p.tables)) given where
  go : (o : Option (Stored ℕ)) → IfSome o P → length (option_map_or f o []) ≤ n
  go None given = omega arith
  go (Some t) given = h t given

-- ---- what follows a change of tables
-- it adds one table at most
moved_few : (name : List ℕ) (p : Public) → length (moved name p.next_region p.tables) ≤ length p.tables + 1
moved_few name p =
    let same = length-map p.tables (λ (t : Table). if bytes_eq t.heading.name name then moved_to p.next_region t else t) in omega (arith, same)

tables_few : (p : Public) (s : Skeleton) → length (tables_after p s) ≤ length p.tables + 1
tables_few p (Create table cs n shape) =
    let e = length-append p.tables (record { heading = record { name = table; schema = columns_of table cs; capacity = n; shape = shape }; region = p.next_region } ∷ []) in omega (arith, e)
tables_few p (Insert table cs) = moved_few table p
tables_few p (Update table cs) = moved_few table p
tables_few p (Delete table) = moved_few table p
tables_few p (DropTable table) =
    let others = λ (t : Table). not (bytes_eq t.heading.name table) in
    omega (arith, length-filter others p.tables, count_by-le-length others p.tables)
tables_few p (Rows source cs) = omega arith
tables_few p (Groups table cs key) = omega arith

dropped_one : (o : Option ℕ) → length (drop_script o) ≤ 1
dropped_one None = omega arith
dropped_one (Some region) = omega arith

behind_few : (p : Public) (s : Skeleton) (left : Option ℕ) → IsPublic p → length (behind_change p s left) ≤ 2 ^ 12
behind_few p s left h = go p.save refl
  where
    go : (b : Bool) → p.save ≡ b → length (if b then save_part p s left else drop_script left) ≤ 2 ^ 12
    go false is = let e = dropped_one left in omega (arith, e)
    go true is =
        let all = length-append (closing_part (closing_behind p s) (length (tables_after p s))) (drop_script left ++ drop_script p.closing) in
        let closing = length-closing_part (closing_behind p s) (length (tables_after p s)) in
        let discards = length-append (drop_script left) (drop_script p.closing) in
        let few = tables_few p s in
        let listed = h.listed is in
        let one = dropped_one left in
        let two = dropped_one p.closing in
        omega (arith, all, closing, discards, few, listed, one, two)

rewrite_few : (p : Public) (behind : FollowUp) (t : Stored ℕ) → IsPublic p → IsStored t → length (behind (Some t.held)) ≤ 2 ^ 12 → length (mutation_script p rewrite_part behind t) ≤ 2 ^ 40
rewrite_few p behind t h few less =
    let e = length-rewrite_part t.held p.next_region (blocks_of p (extent_of t)) (rows_width p (extent_of t)) (behind (Some t.held)) in
    let b = blocks_few p.pack t.heading.capacity h.pack_some (let c = few.capacity in omega arith) in omega arith

insert_few : (p : Public) (behind : FollowUp) (t : Stored ℕ) → IsPublic p → IsStored t → length (behind (Some t.held)) ≤ 2 ^ 12 → length (mutation_script p insert_part behind t) ≤ 2 ^ 40
insert_few p behind t h few less =
    let e = length-insert_part t.held p.next_region (blocks_of p (extent_of t)) (rows_width p (extent_of t)) (behind (Some t.held)) in
    let b = blocks_few p.pack t.heading.capacity h.pack_some (let c = few.capacity in omega arith) in omega arith

join_few : (p : Public) (seen : Seen) (left right : Stored ℕ) → IsPublic p → IsStored left → IsStored right → IsCounted seen (joined_extent p left.heading right.heading) →
    length (join_script p seen left right) ≤ 2 ^ 48 + 2 ^ 34
join_few p seen left right h l r c =
    let t = joined_extent p left.heading right.heading in
    let q = buffered_blocks p.pack p.buffer in
    let lefts = blocks_of p (extent_of left) in
    let rights = blocks_of p (extent_of right) in
    let first = join_part left.held right.held p.next_region lefts rights q (rows_width p t) in
    let rest = select_part p seen (p.next_region + 1) t (discard_at p.next_region) in
    let a = length-append first rest in
    let b = length-join_part left.held right.held p.next_region lefts rights q (rows_width p t) (buffer_some p h) in
    let d = select_few p seen (p.next_region + 1) t (discard_at p.next_region) h c (omega arith) in
    let e = blocks_few p.pack left.heading.capacity h.pack_some (let f = l.capacity in omega arith) in
    let pairs : div_ceil lefts q * rights ≤ 2 ^ 24 = few_blocks (div_ceil lefts q * rights) p.pack (2 ^ 24) h.pack_some c.slots in
    let twice : div_ceil lefts q * (2 * rights) ≡ 2 * (div_ceil lefts q * rights) = omega arith in
    omega (arith, a, b, d, twice)

-- ---- an index
height_few : (n : ℕ) → n ≤ 2 ^ 20 → height_of n ≤ 24
height_few n few = (is_height_of n).least 24 (omega arith)

-- an access asks for its stash and a path, twice
index_few : (p : Public) (leaf : Option ℕ) (t : Stored ℕ) → IsPublic p → IsStored t → length (index_part_of p leaf t) ≤ 2 ^ 12
index_few p None t h few = let e = length-count_part (t.held + 1) p.stash in let s = h.stash in omega arith
index_few p (Some leaf) t h few =
    let e = length-access_part t.held (t.held + 1) p.stash (height_of t.heading.capacity) leaf in
    let s = h.stash in
    let low = height_few t.heading.capacity few.capacity in omega arith

-- what is asked of a flat table, where it is one, and of an index
by_few : (shape : Shape) (xs ys : List Access) (n : ℕ) (flat indexed : Type 0) → IfFlat shape flat indexed → (flat → length xs ≤ n) → length ys ≤ n → length (by_shape shape xs ys) ≤ n
by_few Flat xs ys n flat indexed given a b = a given
by_few Indexed xs ys n flat indexed given a b = b

either_few : (shape : Shape) (xs ys : List Access) (n : ℕ) → length xs ≤ n → length ys ≤ n → length (by_shape shape xs ys) ≤ n
either_few Flat xs ys n a b = a
either_few Indexed xs ys n a b = b

mutation_few : (p : Public) (leaf : Option ℕ) (table : List ℕ) (f : Stored ℕ → List Access) → IsPublic p
    → ((t : Stored ℕ) → IsStored t → length (f t) ≤ 2 ^ 40) → length (with_table table p (shape_script p leaf f)) ≤ 2 ^ 40
mutation_few p leaf table f h flat =
    of_table table p (shape_script p leaf f) (2 ^ 40) IsStored (stored-sized table p.tables h.tables)
    (λ t few. either_few t.heading.shape (f t) (index_part_of p leaf t) (2 ^ 40) (flat t few) (let e = index_few p leaf t h few in omega arith))

created_few : (p : Public) (n width : ℕ) (behind : FollowUp) (shape : Shape) → IsPublic p → n ≤ 2 ^ 20 → length (behind None) ≤ 2 ^ 12 → length (created_script p n width behind shape) < 2 ^ 49
created_few p n width behind Flat h few less =
    let a = length-append (create_part p.next_region (blocks_for p.pack n) (p.pack * width)) (behind None) in
    let e = length-create_part p.next_region (blocks_for p.pack n) (p.pack * width) in
    let b = blocks_few p.pack n h.pack_some (omega arith) in omega (arith, a, e, b, less)
created_few p n width behind Indexed h few less =
    let e = length-index_part p.next_region (p.next_region + 1) p.stash (height_of n) width in
    let s = h.stash in
    let b = tree_few (height_of n) (height_few n few) in omega arith

dropped_few : (behind : FollowUp) (t : Stored ℕ) → length (behind (Some t.held)) ≤ 2 ^ 12 → length (dropped_script behind t) ≤ 2 ^ 12
dropped_few behind t less = either_few t.heading.shape (behind (Some t.held)) (discard_at t.held ++ discard_at (t.held + 1)) (2 ^ 12) less (omega arith)

source_few : (p : Public) (source : Source) (seen : Seen) → IsPublic p → IsSourceCounted p seen source → length (source_script p seen source) < 2 ^ 49
source_few p (OneTable name) seen h w =
    let m = of_table name p (table_script p seen) (2 ^ 48 + 2 ^ 34) (λ t. IsStored t × IsHeld p seen (IsCounted seen (extent_of t)) t)
    (both_some (stored_at name (stored_regions p.tables)) IsStored _ (stored-sized name p.tables h.tables) w)
    (λ t c. by_few t.heading.shape (flat_script p seen t) (index_part_of p seen.leaf t) (2 ^ 48 + 2 ^ 34) (IsCounted seen (extent_of t)) _ c.1
    (λ counted. let d = select_few p seen p.next_region (extent_of t) [] h counted (omega arith) in omega arith)
    (let e = index_few p seen.leaf t h c.0 in omega arith)) in omega arith
source_few p (Join a b on equals) seen h w =
    let m = of_table a p (λ left. with_table b p (λ right. join_script p seen left right)) (2 ^ 48 + 2 ^ 34)
    (λ left. IsStored left × IfTable b p (λ right. IsCounted seen (joined_extent p left.heading right.heading)))
    (both_some (stored_at a (stored_regions p.tables)) IsStored _ (stored-sized a p.tables h.tables) w)
    (λ left l. of_table b p (join_script p seen left) (2 ^ 48 + 2 ^ 34) (λ right. IsStored right × IsCounted seen (joined_extent p left.heading right.heading))
    (both_some (stored_at b (stored_regions p.tables)) IsStored _ (stored-sized b p.tables h.tables) l.1) (λ right r. join_few p seen left right h l.0 r.0 r.1)) in
    omega arith

-- any statement that is not refused before
whole_few : (p : Public) (s : Skeleton) (seen : Seen) → IsPublic p → IsWithin p s seen → length (whole_script p s seen) < 2 ^ 49
whole_few p (Create table cs n shape) seen h w =
    created_few p n (width (columns_of table cs)) (behind_change p (Create table cs n shape)) shape h w.0 (behind_few p (Create table cs n shape) None h)
whole_few p (Insert table cs) seen h w =
    let behind = behind_change p (Insert table cs) in
    let m = mutation_few p seen.leaf table (mutation_script p insert_part behind) h (λ t few. insert_few p behind t h few (behind_few p (Insert table cs) (Some t.held) h)) in omega arith
whole_few p (Update table cs) seen h w =
    let behind = behind_change p (Update table cs) in
    let m = mutation_few p seen.leaf table (mutation_script p rewrite_part behind) h (λ t few. rewrite_few p behind t h few (behind_few p (Update table cs) (Some t.held) h)) in omega arith
whole_few p (Delete table) seen h w =
    let behind = behind_change p (Delete table) in
    let m = mutation_few p seen.leaf table (mutation_script p rewrite_part behind) h (λ t few. rewrite_few p behind t h few (behind_few p (Delete table) (Some t.held) h)) in omega arith
whole_few p (DropTable table) seen h w =
    let behind = behind_change p (DropTable table) in
    let m = of_table table p (dropped_script behind) (2 ^ 40) IsStored (stored-sized table p.tables h.tables)
    (λ t few. let e = dropped_few behind t (behind_few p (DropTable table) (Some t.held) h) in omega arith) in omega arith
whole_few p (Rows source cs) seen h w = source_few p source seen h w
whole_few p (Groups table cs key) seen h w =
    let m = of_table table p (λ t. count_part t.held (blocks_of p (extent_of t))) (2 ^ 40) IsStored (stored-sized table p.tables h.tables)
    (λ t few. let e = length-count_part t.held (blocks_of p (extent_of t)) in let b = blocks_few p.pack t.heading.capacity h.pack_some (let c = few.capacity in omega arith) in omega arith) in
    omega arith

pub script_few : (p : Public) (s : Skeleton) (seen : Seen) → IsPublic p → (seen.end ≢ Static → IsWithin p s seen) → length (script p s seen) < 2 ^ 49
script_few p s seen h w = go seen.end w where
  go : (end : End) → (end ≢ Static → IsWithin p s seen) → length (until_end end (whole_script p s seen)) < 2 ^ 49
  go Static w = omega arith
  go Whole w = whole_few p s seen h (w (λ e. cc))
  go AfterCount w = whole_few p s seen h (w (λ e. cc))
  go Batched w = omega arith
  go (Cut n) w = let m = whole_few p s seen h (w (λ e. cc)) in omega (arith, length-take n (whole_script p s seen))
