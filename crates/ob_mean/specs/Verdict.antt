-- What the engine answers, and what a watcher sees of it.
use Rattle.std.specs.Prelude.{◌≡◌, ℕ, ◌+◌, ◌*◌, ◌^◌, nat_le, nat_lt, Bool, false, List, [], ◌∷◌, ◌++◌, map, length, take, drop, Option, Some, None, is_some, if◌then◌else◌}
use Rattle.std.specs.Option.{is_none, option_and_then, option_map_or, option_map, option_or}
use Rattle.ob_base.specs.declared.config.Public.{Public}
use Rattle.ob_base.specs.declared.config.Plan.{Plan}
use Rattle.ob_base.specs.declared.config.Plan.TheVariants.{Small, Large, Continuous, Hash}
use Rattle.ob_base.specs.declared.config.Planner.{Planner}
use Rattle.ob_base.specs.declared.config.Planner.TheVariants.{Auto, Cheapest, Forced}
use Rattle.ob_base.specs.declared.seen.Seen.{Seen}
use Rattle.ob_base.specs.declared.seen.End.{End}
use Rattle.ob_base.specs.declared.seen.End.TheVariants.{Static, Whole, AfterCount}
use Rattle.ob_base.specs.declared.refusal.Refusal.{Refusal}
use Rattle.ob_base.specs.declared.refusal.Refusal.TheVariants.{NotConsecutive, Overflow, PadPassed}
use Rattle.ob_base.specs.declared.skeleton.Source.{Source}
use Rattle.ob_base.specs.declared.skeleton.Source.TheVariants.{Table as OneTable, Join}
use Rattle.ob_base.specs.declared.schema.Heading.{Heading}
use Rattle.ob_base.specs.Indexes.{by_shape, height_of, leaf_of_draw, tree_blocks}
use Rattle.ob_base.specs.Lists.{tabulate}
use Rattle.ob_base.specs.Plans.{choose}
use Rattle.ob_base.specs.Schemas.{key_place}
use Rattle.ob_base.specs.Stored.{Stored, changed_at, headings, stored_at}
use Rattle.ob_path.specs.Access.{Went, access, key_of, leaf_read}
use Rattle.ob_path.specs.States.{State, Stands}
use Rattle.ob_row.specs.Keys.{key_at, key_in}
use Rattle.ob_row.specs.Rows.{Row}
use Rattle.ob_row.specs.Slots.{Slots, rows, selected, is_consecutive}
use Rattle.ob_row.specs.Truth.{is_true}
use Rattle.ob_sql.specs.declared.stmt.SelectRows.{SelectRows}
use Rattle.ob_sql.specs.declared.stmt.Stmt.{Stmt}
use Rattle.ob_sql.specs.declared.stmt.Stmt.TheVariants.{SelectRows as RowsStmt}
use Rattle.ob_mean.specs.declared.answer.Answer.{Answer}
use Rattle.ob_mean.specs.Refusals.{early_refusal, limits_of}
use Rattle.ob_mean.specs.Keyed.{Ask, ask_of, keyed_name, op_of}
use Rattle.ob_mean.specs.Step.{Database, join_places, select_condition, refusal_of, accepted_answer, answered}
use Rattle.ob_row.specs.Results.{joined, unplaced}

-- what a table in place holds: its slots, and of an index, whose slots are those of its tree and after them those of its
-- stash, the leaf of each key
pub record Held : Type 0 where
  pub slots : Slots
  pub leaves : List ℕ

-- a change of its slots alone
abbrev pub in_slots : (Slots → Slots) → Held → Held
in_slots f held = record { slots = f held.slots; leaves = held.leaves }

-- the tables in place
abbrev pub Tables : Type 0
Tables = List (Stored Held)

-- the same tables as bags
abbrev pub database : Tables → Database
database ts = map (λ t. record { heading = t.heading; held = rows t.held.slots }) ts

abbrev pub slots_at : List ℕ → Tables → Slots
slots_at name ts = option_map_or (λ t. t.held.slots) (stored_at name ts) []

-- ---- an index among them
-- the blocks of its tree
abbrev pub tree_size : Heading → ℕ
tree_size h = tree_blocks (height_of h.capacity)

-- what it holds, apart
abbrev pub index_of : Heading → Held → State Row
index_of h held = record { tree = take (tree_size h) held.slots; stash = drop (tree_size h) held.slots; leaves = held.leaves }

abbrev pub held_as : State Row → Held
held_as s = record { slots = s.tree ++ s.stash; leaves = s.leaves }

-- it has a primary key and a leaf for each key, and stands
pub record IsIndexed (t : Stored Held) : Type 0 where
  pub primary : key_place t.heading.schema ≡ Some (key_at t.heading.schema)
  pub leaves : length t.held.leaves ≡ t.heading.capacity
  pub stands : Stands (key_in t.heading) (height_of t.heading.capacity) (index_of t.heading t.held)

-- the table that a statement reads or changes by a key
abbrev pub keyed_table : Tables → Stmt → Option (Stored Held)
keyed_table ts stmt = option_and_then (λ name. stored_at name ts) (keyed_name stmt)

-- an index that a statement accesses, and what it asks of it
pub record Accessed : Type 0 where
  pub table : Stored Held
  pub ask : Ask

abbrev pub access_of : Stmt → Stored Held → Option Accessed
access_of stmt t = by_shape t.heading.shape None (option_map (λ ask. record { table = t; ask = ask }) (ask_of t.heading stmt))

-- what it accesses, where it is not refused before
abbrev pub accessed : Tables → Stmt → Option Accessed
accessed ts stmt = option_and_then (access_of stmt) (keyed_table ts stmt)

-- the numbers that a session draws, and how many it has drawn
pub record Draws : Type 0 where
  pub draw : ℕ → ℕ
  pub drawn : ℕ

abbrev pub next_draw : Draws → ℕ
next_draw d = d.draw d.drawn

-- the next n of them, and a leaf of each
abbrev pub next_draws : Draws → (n : ℕ) → List ℕ
next_draws d n = tabulate n (λ i. d.draw (d.drawn + i))

abbrev pub leaves_drawn : Draws → (n : ℕ) → List ℕ
leaves_drawn d n = map (leaf_of_draw (height_of n)) (next_draws d n)

-- the access of a key by a draw; none is the stop at a full stash
abbrev pub went : (draw : ℕ) → Stored Held → Ask → Option (Went Row)
went draw t ask = access (key_in t.heading) (height_of t.heading.capacity) (index_of t.heading t.held) (op_of t.heading.capacity ask) draw

abbrev pub gone : Draws → Accessed → Option (Went Row)
gone d a = went (next_draw d) a.table a.ask

-- the leaf that it reads
abbrev pub leaf_gone : Draws → Accessed → ℕ
leaf_gone d a =
    let h = a.table.heading in
    leaf_read (height_of h.capacity) (index_of h a.table.held) (key_of (key_in h) (op_of h.capacity a.ask)) (next_draw d)

-- the tables after it
abbrev pub access_settled : Tables → Stored Held → Went Row → Tables
access_settled ts t w = changed_at t.heading.name (λ held. held_as w.state) ts

-- ---- the slots of a SELECT
-- the slots over which a SELECT of rows runs
abbrev pub source_slots : Public → Source → Tables → Slots
source_slots p (OneTable name) ts = slots_at name ts
source_slots p (Join a b on equals) ts =
    let places = join_places (Join a b on equals) (headings ts) in joined places.0 places.1 p.pack p.buffer (slots_at a ts) (slots_at b ts)

abbrev pub selected_places : Public → SelectRows → Tables → List ℕ
selected_places p q ts = selected (is_true (select_condition q (headings ts))) (source_slots p q.source ts)

-- the plan for these selected places of n
abbrev pub plan_for : Public → (n : ℕ) → List ℕ → Plan
plan_for p n places = choose p.planner p.pack p.buffer n (length places) (is_consecutive places)

-- the slots of a bucket, and the first place with no bucket
abbrev pub bucket_size : Public → ℕ
bucket_size p = p.depth * p.pack

abbrev pub first_unplaced : Public → List ℕ → Option ℕ
first_unplaced p places = unplaced (length places) (bucket_size p) places

-- a plan that is forced refuses: Continuous where the places are not consecutive, Hash where a place finds no bucket
abbrev pub forced_refusal : Public → Planner → List ℕ → Option Refusal
forced_refusal p Auto places = None
forced_refusal p Cheapest places = None
forced_refusal p (Forced Small) places = None
forced_refusal p (Forced Large) places = None
forced_refusal p (Forced Continuous) places = if is_consecutive places then None else Some NotConsecutive
forced_refusal p (Forced Hash) places = option_map Overflow (first_unplaced p places)

-- none for no rows
abbrev pub unpadded_refusal : Public → List ℕ → Option Refusal
unpadded_refusal p [] = None
unpadded_refusal p (i ∷ is) = forced_refusal p p.planner (i ∷ is)

-- where results are padded, more places than that are refused
abbrev pub padded_refusal : (pad : ℕ) → List ℕ → Option Refusal
padded_refusal pad places = if nat_lt pad (length places) then Some PadPassed else None

abbrev pub refusal_by : (pad : Option ℕ) → Public → List ℕ → Option Refusal
refusal_by None p places = unpadded_refusal p places
refusal_by (Some pad) p places = padded_refusal pad places

abbrev pub rows_refusal : Public → List ℕ → Option Refusal
rows_refusal p places = refusal_by p.pad p places

abbrev pub last_refusal : Public → Tables → Stmt → Option Refusal
last_refusal p ts (RowsStmt q) = if is_some (accessed ts (RowsStmt q)) then None else rows_refusal p (selected_places p q ts)
last_refusal p ts _ = None

-- so many accesses were asked that no statement is served
abbrev pub is_late : ℕ → Bool
is_late m = nat_le (2 ^ 63) m

-- the refusal of a statement, where m accesses were asked before
abbrev pub refusal : Public → (m : ℕ) → Tables → Stmt → Option Refusal
refusal p m ts stmt = option_or (refusal_of (is_late m) (limits_of p) (database ts) stmt) (last_refusal p ts stmt)

abbrev pub verdict : Public → (m : ℕ) → Tables → Stmt → Answer
verdict p m ts stmt = answered (refusal p m ts stmt) (accepted_answer (database ts) stmt)

-- ---- what is seen
abbrev pub ended : End → Seen
ended end = record { k = None; plan = None; then = None; leaf = None; end = end }

abbrev pub counted : (k : ℕ) → (plan second : Option Plan) → End → Seen
counted k plan second end = record { k = Some k; plan = plan; then = second; leaf = None; end = end }

-- after a Hash that wasn't forced and left a place out, Small is taken
abbrev pub fallback : Planner → (left : Option ℕ) → Option Plan
fallback Auto None = None
fallback Auto (Some i) = Some Small
fallback Cheapest left = None
fallback (Forced plan) left = None

-- after the count: no plan for no rows, none for Continuous where it refuses
abbrev pub seen_with : Public → Plan → List ℕ → Seen
seen_with p Small places = counted (length places) (Some Small) None Whole
seen_with p Large places = counted (length places) (Some Large) None Whole
seen_with p Continuous places =
    if is_consecutive places then counted (length places) (Some Continuous) None Whole else counted (length places) None None AfterCount
seen_with p Hash places = counted (length places) (Some Hash) (fallback p.planner (first_unplaced p places)) Whole

abbrev pub seen_unpadded : Public → (n : ℕ) → List ℕ → Seen
seen_unpadded p n [] = counted 0 None None Whole
seen_unpadded p n (i ∷ is) = seen_with p (plan_for p n (i ∷ is)) (i ∷ is)

-- where results are padded, neither how many are selected nor a plan
abbrev pub seen_by : (pad : Option ℕ) → Public → (n : ℕ) → List ℕ → Seen
seen_by None p n places = seen_unpadded p n places
seen_by (Some pad) p n places = ended Whole

abbrev pub seen_rows : Public → (n : ℕ) → List ℕ → Seen
seen_rows p n places = seen_by p.pad p n places

abbrev pub seen_started : Public → Tables → Stmt → Seen
seen_started p ts (RowsStmt q) = seen_rows p (length (source_slots p q.source ts)) (selected_places p q ts)
seen_started p ts _ = ended Whole

-- an access shows its leaf, also where a duplicate key or one that is none of the index refuses it
abbrev pub seen_access : Draws → Accessed → Seen
seen_access d a = record (ended Whole) { leaf = Some (leaf_gone d a) }

abbrev pub seen_served : Draws → Option Accessed → Public → Tables → Stmt → Seen
seen_served d None p ts stmt = seen_started p ts stmt
seen_served d (Some a) p ts stmt = seen_access d a

abbrev pub seen : Draws → Public → (m : ℕ) → Tables → Stmt → Seen
seen d p m ts stmt =
    if is_some (early_refusal (is_late m) (limits_of p) (headings ts) stmt) then ended Static else seen_served d (accessed ts stmt) p ts stmt

-- ---- a full stash
-- what it accesses, if it does
abbrev pub accessed_now : Public → (m : ℕ) → Tables → Stmt → Option Accessed
accessed_now p m ts stmt = if is_some (early_refusal (is_late m) (limits_of p) (headings ts) stmt) then None else accessed ts stmt

-- the stash has no room for the rows that its access leaves: it has no answer, and nothing is served after it
abbrev pub is_full : Draws → Public → (m : ℕ) → Tables → Stmt → Bool
is_full d p m ts stmt = option_map_or (λ a. is_none (gone d a)) (accessed_now p m ts stmt) false
