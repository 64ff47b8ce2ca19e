-- A statement that was cut off asks a first part of what it asks whole.
use Rattle.ob_headline.proofs.Words.{Access, ap, append-nil, append_assoc, arith, Bool, buffered_blocks, by_shape, count_part, Cut, discard_at, drop, each, End, false, Flat, height_of, Indexed, inl, inr, insert_part, join_part, length, length-append, List, nat_le, nat_lt, nat_tests, None, Option, option_map_or, path_read, path_write, Plan, Public, refl, rewrite_part, Seen, Shape, Skeleton, Some, Stored, stored_at, stored_regions, subst, sym, take, take-append-drop, take-append-le, true, Whole, write_at, ℕ, [], ◌*◌, ◌++◌, ◌+◌, ◌-◌, ◌<◌, ◌∙◌, ◌≡◌, ◌≤◌, ◌⊎◌}
use Rattle.ob_base.specs.declared.skeleton.Skeleton.TheVariants.{Create, Insert, Update, Delete, Drop as DropTable, Rows, Groups}
use Rattle.ob_base.specs.declared.skeleton.Source.TheVariants.{Table as OneTable, Join}
use Rattle.ob_headline.specs.Words.{Begins}
use Rattle.ob_mean.specs.Replay.{cut_at, count_end, done_of, ending_len, held_if, walk_end}
use Rattle.ob_script.specs.Script.{behind_change, behind_count, blocks_of, extent_of, join_script, joined_extent, padded_part, result_part, rows_width, flat_script, index_part_of, mutation_script, shape_script, table_script, whole_script}

take_begins : (n : ℕ) (part rest : List Access) → Begins (take n part) (part ++ rest)
take_begins n part rest = record {
  rest = drop n part ++ rest;
  joined = ap (λ (l : List Access). l ++ rest) (sym (take-append-drop n part)) ∙ append_assoc (take n part) (drop n part) rest;
}

take_all_begins : (n : ℕ) (all : List Access) → Begins (take n all) all
take_all_begins n all = record { rest = drop n all; joined = sym (take-append-drop n all) }

-- the leaf that was read, and how it ended
abbrev Last : Type 0
Last = Option ℕ × End

-- what is held, and how it ended
abbrev holding : Option ℕ → (plan second : Option Plan) → Last → Seen
holding k plan second last = record { k = k; plan = plan; then = second; leaf = last.0; end = last.1 }

-- the accesses by what is held: the same whatever it is, or the count, the results of both plans, and an end of this size
record ByCount (script : Option ℕ → Option Plan → Option Plan → Last → List Access) (size : ℕ) : Type 0 where
  front : List Access
  first : Option Plan → ℕ → List Access
  second : Option Plan → ℕ → List Access
  ending : List Access
  sized : length ending ≡ size
  unsecond : (k : ℕ) → second None k ≡ []
  uncounted : (plan then : Option Plan) (end : Last) → script None plan then end ≡ front
  counted : (k : ℕ) (plan then : Option Plan) (end : Last) → script (Some k) plan then end ≡ front ++ (first plan k ++ (second then k ++ ending))

record Fixed (script : Option ℕ → Option Plan → Option Plan → Last → List Access) : Type 0 where
  all : List Access
  is : (k : Option ℕ) (plan then : Option Plan) (end : Last) → script k plan then end ≡ all

-- or the stash that is read before a leaf is known, and what follows that
record ByLeaf (script : Option ℕ → Option Plan → Option Plan → Last → List Access) : Type 0 where
  front : List Access
  rest : ℕ → List Access
  unread : (k : Option ℕ) (plan then : Option Plan) (end : End) → script k plan then (None, end) ≡ front
  read : (k : Option ℕ) (plan then : Option Plan) (leaf : ℕ) (end : End) → script k plan then (Some leaf, end) ≡ front ++ rest leaf

abbrev Parts : (script : Option ℕ → Option Plan → Option Plan → Last → List Access) → (size : ℕ) → Type 0
Parts script size = Fixed script ⊎ (ByCount script size ⊎ ByLeaf script)

abbrev HasParts : Public → Skeleton → Type 0
HasParts p sk = Parts (λ k plan then end. whole_script p sk (holding k plan then end)) (ending_len sk)

-- the same of accesses that are the same
fixed_as : {f g : Option ℕ → Option Plan → Option Plan → Last → List Access} → ((k : Option ℕ) (plan then : Option Plan) (end : Last) → f k plan then end ≡ g k plan then end) → Fixed g → Fixed f
fixed_as same fixed = record { all = fixed.all; is = λ k plan then end. same k plan then end ∙ fixed.is k plan then end }

count_as : {f g : Option ℕ → Option Plan → Option Plan → Last → List Access} {size : ℕ} → ((k : Option ℕ) (plan then : Option Plan) (end : Last) → f k plan then end ≡ g k plan then end) → ByCount g size → ByCount f size
count_as same by = record {
  front = by.front;
  first = by.first;
  second = by.second;
  ending = by.ending;
  sized = by.sized;
  unsecond = by.unsecond;
  uncounted = λ plan then end. same None plan then end ∙ by.uncounted plan then end;
  counted = λ k plan then end. same (Some k) plan then end ∙ by.counted k plan then end;
}

-- what an access asks after the reads of its stash
abbrev access_rest : (tree stash slots height leaf : ℕ) → List Access
access_rest tree stash slots height leaf =
    each (4 * (height + 1)) (path_read tree height leaf) ++ (each (4 * (height + 1)) (path_write tree height leaf) ++ each slots (write_at stash))

-- an access of an index
indexed_parts : (p : Public) (t : Stored ℕ) (flat : Option ℕ → Option Plan → Option Plan → Last → List Access) → t.heading.shape ≡ Indexed
    → ByLeaf (λ k plan then end. by_shape t.heading.shape (flat k plan then end) (index_part_of p end.0 t))
indexed_parts p t flat indexed = record {
  front = count_part (t.held + 1) p.stash;
  rest = λ leaf. access_rest t.held (t.held + 1) p.stash (height_of t.heading.capacity) leaf;
  unread = λ k plan then end. ap (λ (s : Shape). by_shape s (flat k plan then (None, end)) (index_part_of p None t)) indexed;
  read = λ k plan then leaf end. ap (λ (s : Shape). by_shape s (flat k plan then (Some leaf, end)) (index_part_of p (Some leaf) t)) indexed;
}

-- a SELECT of rows after these accesses; where results are padded, it is the same whatever is held
select_parts : (pad : Option ℕ) (p : Public) (before : List Access) (g : ℕ) (t : _) (ending : List Access)
    → Fixed (λ k plan then end. before ++ (count_part t.region (blocks_of p t) ++ behind_count pad p (holding k plan then end) g t ending))
    ⊎ ByCount (λ k plan then end. before ++ (count_part t.region (blocks_of p t) ++ behind_count pad p (holding k plan then end) g t ending)) (length ending)
select_parts (Some pad) p before g t ending = inl (record { all = before ++ (count_part t.region (blocks_of p t) ++ (padded_part p pad g t ++ ending)); is = λ k plan then end. refl })
select_parts None p before g t ending =
    let count = count_part t.region (blocks_of p t) in
    inr (record {
      front = before ++ count;
      first = λ plan k. result_part p plan k g t;
      second = λ plan k. result_part p plan k (g + 1) t;
      ending = ending;
      sized = refl;
      unsecond = λ k. refl;
      uncounted = λ plan then end. ap (λ (l : List Access). before ++ l) (append-nil count);
      counted = λ k plan then end. sym (append_assoc before count _);
    })

table_parts : (p : Public) (o : Option (Stored ℕ)) → Parts (λ k plan then end. option_map_or (table_script p (holding k plan then end)) o []) 0
table_parts p None = inl (record { all = []; is = λ k plan then end. refl })
table_parts p (Some t) = go t.heading.shape refl
  where
    go : (shape : Shape) → t.heading.shape ≡ shape → Parts (λ k plan then end. table_script p (holding k plan then end) t) 0
    go Flat flat =
        let same = λ (k : Option ℕ) (plan then : Option Plan) (end : Last). ap (λ (s : Shape). by_shape s (flat_script p (holding k plan then end) t) (index_part_of p end.0 t)) flat in
        elim (select_parts p.pad p [] p.next_region (extent_of t) []) [ inl fixed ↦ inl (fixed_as same fixed) | inr by ↦ inr (inl (count_as same by)) ]
    go Indexed indexed = inr (inr (indexed_parts p t (λ k plan then end. flat_script p (holding k plan then end) t) indexed))

-- a mutation of a table
mutation_parts : (p : Public) (f : Stored ℕ → List Access) (o : Option (Stored ℕ)) → Parts (λ k plan then end. option_map_or (shape_script p end.0 f) o []) 0
mutation_parts p f None = inl (record { all = []; is = λ k plan then end. refl })
mutation_parts p f (Some t) = go t.heading.shape refl
  where
    go : (shape : Shape) → t.heading.shape ≡ shape → Parts (λ k plan then end. shape_script p end.0 f t) 0
    go Flat flat = inl (record {
      all = f t;
      is = λ k plan then end. ap (λ (s : Shape). by_shape s (f t) (index_part_of p end.0 t)) flat;
    })
    go Indexed indexed = inr (inr (indexed_parts p t (λ k plan then end. f t) indexed))

join_parts : (p : Public) (l r : Option (Stored ℕ))
    → Fixed (λ k plan then end. option_map_or (λ left. option_map_or (λ right. join_script p (holding k plan then end) left right) r []) l [])
    ⊎ ByCount (λ k plan then end. option_map_or (λ left. option_map_or (λ right. join_script p (holding k plan then end) left right) r []) l []) 1
join_parts p None r = inl (record { all = []; is = λ k plan then end. refl })
join_parts p (Some left) None = inl (record { all = []; is = λ k plan then end. refl })
join_parts p (Some left) (Some right) =
    let from = joined_extent p left.heading right.heading in
    let pairs =
    join_part left.held right.held p.next_region (blocks_of p (extent_of left)) (blocks_of p (extent_of right)) (buffered_blocks p.pack p.buffer) (rows_width p from) in
    select_parts p.pad p pairs (p.next_region + 1) from (discard_at p.next_region)

parts : (p : Public) (sk : Skeleton) → HasParts p sk
parts p (Create table cs n shape) = inl (record { all = whole_script p (Create table cs n shape) (holding None None None (None, Whole)); is = λ k plan then end. refl })
parts p (Insert table cs) = mutation_parts p (mutation_script p insert_part (behind_change p (Insert table cs))) (stored_at table (stored_regions p.tables))
parts p (Update table cs) = mutation_parts p (mutation_script p rewrite_part (behind_change p (Update table cs))) (stored_at table (stored_regions p.tables))
parts p (Delete table) = mutation_parts p (mutation_script p rewrite_part (behind_change p (Delete table))) (stored_at table (stored_regions p.tables))
parts p (DropTable table) = inl (record { all = whole_script p (DropTable table) (holding None None None (None, Whole)); is = λ k plan then end. refl })
parts p (Groups table cs key) = inl (record { all = whole_script p (Groups table cs key) (holding None None None (None, Whole)); is = λ k plan then end. refl })
parts p (Rows (OneTable name) cs) = table_parts p (stored_at name (stored_regions p.tables))
parts p (Rows (Join a b on equals) cs) =
    elim (join_parts p (stored_at a (stored_regions p.tables)) (stored_at b (stored_regions p.tables))) [ inl fixed ↦ inl fixed | inr by ↦ inr (inl by) ]

-- what was asked of a statement, and what it asks whole
record CutsOff (part whole : List Access) (n : ℕ) : Type 0 where
  begins : Begins (take n part) whole
  shorter : length part ≤ length whole

cuts_same : (n : ℕ) (part whole all : List Access) → part ≡ all → whole ≡ all → CutsOff part whole n
cuts_same n part whole all a b = record {
  begins = subst (λ (l : List Access). Begins (take n part) l) (a ∙ sym b) (take_all_begins n part);
  shorter = omega (arith, ap length (a ∙ sym b));
}

-- the first part is short enough, or goes to its own end
cuts_front : (n : ℕ) (part whole front rest : List Access) → part ≡ front → whole ≡ front ++ rest → CutsOff part whole n
cuts_front n part whole front rest a b = record {
  begins = subst (λ (l : List Access). Begins (take n part) l) (sym b) (subst (λ (l : List Access). Begins (take n l) (front ++ rest)) (sym a) (take_begins n front rest));
  shorter = omega (arith, ap length a, ap length b, length-append front rest);
}

cuts_within : (n : ℕ) (part whole front mid rest : List Access) → part ≡ front ++ mid → whole ≡ front ++ rest → n ≤ length front → length mid ≤ length rest → CutsOff part whole n
cuts_within n part whole front mid rest a b few less = record {
  begins = subst (λ (l : List Access). Begins (take n part) l) (sym b)
      (subst (λ (l : List Access). Begins l (front ++ rest)) (sym (ap (take n) a ∙ take-append-le n front mid few)) (take_begins n front rest));
  shorter = omega (arith, ap length a, ap length b, length-append front mid, length-append front rest, less);
}

module _ (script : Option ℕ → Option Plan → Option Plan → Last → List Access) (size : ℕ) (by : ByCount script size) (n done : ℕ) (leaf : Option ℕ) (last : n ≤ done + 1) where
  split : (k : ℕ) (plan then : Option Plan) (end : Last) → script (Some k) plan then end ≡ (by.front ++ by.first plan k) ++ (by.second then k ++ by.ending)
  split k plan then end = by.counted k plan then end ∙ sym (append_assoc by.front (by.first plan k) (by.second then k ++ by.ending))

  -- the result of the first plan was not read back
  unwalked : (k : ℕ) (plan then : Option Plan) (end : Last) → done < length (script (Some k) plan None end) - (size + 1) → CutsOff (script (Some k) plan None (leaf, Cut n)) (script (Some k) plan then end) n
  unwalked k plan then end less =
      let front = by.front ++ by.first plan k in
      let none : by.second None k ++ by.ending ≡ by.ending = ap (λ (l : List Access). l ++ by.ending) (by.unsecond k) in
      let long : length (script (Some k) plan None end) ≡ length front + size =
      ap length (split k plan None end ∙ ap (λ (l : List Access). front ++ l) none) ∙ length-append front by.ending ∙ ap (λ (m : ℕ). length front + m) by.sized in
      cuts_within n (script (Some k) plan None (leaf, Cut n)) (script (Some k) plan then end) front (by.second None k ++ by.ending) (by.second then k ++ by.ending)
      (split k plan None (leaf, Cut n)) (split k plan then end) (omega (arith, last, less, long))
      (omega (arith, ap length none, length-append (by.second then k) by.ending))

  cutting : (held walked : Bool) (k : Option ℕ) (plan then : Option Plan) (end : Last) → (walked ≡ false → done < length (script k plan None end) - (size + 1))
      → CutsOff (script (held_if held k) (held_if held plan) (held_if walked then) (leaf, Cut n)) (script k plan then end) n
  cutting false walked None plan then end short = cuts_same n _ _ by.front (by.uncounted None (held_if walked then) (leaf, Cut n)) (by.uncounted plan then end)
  cutting false walked (Some k) plan then end short =
      cuts_front n _ _ by.front (by.first plan k ++ (by.second then k ++ by.ending)) (by.uncounted None (held_if walked then) (leaf, Cut n)) (by.counted k plan then end)
  cutting true walked None plan then end short = cuts_same n _ _ by.front (by.uncounted plan (held_if walked then) (leaf, Cut n)) (by.uncounted plan then end)
  cutting true true (Some k) plan then end short =
      cuts_same n _ _ (by.front ++ (by.first plan k ++ (by.second then k ++ by.ending))) (by.counted k plan then (leaf, Cut n)) (by.counted k plan then end)
  cutting true false (Some k) plan then end short = unwalked k plan then end (short refl)

above : (m done : ℕ) → nat_le m done ≡ false → done < m
above m done e = grind (arith, nat_tests)

last_done : (failed : Bool) (n : ℕ) → n ≤ done_of failed n + 1
last_done true n = omega arith
last_done false n = omega arith

-- an access whose leaf is not known yet reads a first part of its stash
reading : (script : Option ℕ → Option Plan → Option Plan → Last → List Access) (by : ByLeaf script) (n : ℕ) (known : Bool) (k k1 : Option ℕ) (plan plan1 then then1 : Option Plan) (leaf : Option ℕ) (end end1 : End)
    → CutsOff (script k1 plan1 then1 (held_if known leaf, end1)) (script k plan then (leaf, end)) n
reading script by n known k k1 plan plan1 then then1 None end end1 =
    elim known as (λ b. CutsOff (script k1 plan1 then1 (held_if b None, end1)) (script k plan then (None, end)) n) [
      | true ↦ cuts_same n _ _ by.front (by.unread k1 plan1 then1 end1) (by.unread k plan then end)
      | false ↦ cuts_same n _ _ by.front (by.unread k1 plan1 then1 end1) (by.unread k plan then end)
    ]
reading script by n true k k1 plan plan1 then then1 (Some leaf) end end1 = cuts_same n _ _ (by.front ++ by.rest leaf) (by.read k1 plan1 then1 leaf end1) (by.read k plan then leaf end)
reading script by n false k k1 plan plan1 then then1 (Some leaf) end end1 = cuts_front n _ _ by.front (by.rest leaf) (by.unread k1 plan1 then1 end1) (by.read k plan then leaf end)

module _ (failed : Bool) (n : ℕ) (p : Public) (sk : Skeleton) (x : Seen) where
  cut_off : CutsOff (whole_script p sk (cut_at failed n p sk x)) (whole_script p sk x) n
  cut_off = elim (parts p sk) [
    | inl fixed ↦ cuts_same n _ _ fixed.all (fixed.is _ _ _ _) (fixed.is x.k x.plan x.then (x.leaf, x.end))
    | inr (inl by) ↦ cutting (λ k plan then end. whole_script p sk (holding k plan then end)) (ending_len sk) by n (done_of failed n) (held_if (nat_lt p.stash n) x.leaf) (last_done failed n)
        (nat_le (count_end p sk) (done_of failed n)) (nat_le (walk_end p sk x) (done_of failed n)) x.k x.plan x.then (x.leaf, x.end) (λ short. above _ _ short)
    | inr (inr by) ↦ reading (λ k plan then end. whole_script p sk (holding k plan then end)) by n (nat_lt p.stash n) x.k _ x.plan _ x.then _ x.leaf x.end (Cut n)
  ]

  -- it asks a first part of what it asks whole, and would ask no more
  pub cut_begins : Begins (take n (whole_script p sk (cut_at failed n p sk x))) (whole_script p sk x)
  cut_begins = cut_off.begins

  pub cut_shorter : length (whole_script p sk (cut_at failed n p sk x)) ≤ length (whole_script p sk x)
  cut_shorter = cut_off.shorter
