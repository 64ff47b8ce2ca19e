-- The accesses of small sessions, computed.
use Rattle.std.proofs.Common.{◌≡◌, ℕ, List, [], ◌∷◌, ◌++◌, refl}
use Rattle.std.specs.Prelude.{Option, Some, None, false, codes}
use Rattle.ob_base.specs.declared.access.Access.{Access}
use Rattle.ob_base.specs.declared.access.Access.TheVariants.{Make, Read, Write, Discard}
use Rattle.ob_base.specs.Accesses.{makes, write_at}
use Rattle.ob_base.specs.Lists.{each}
use Rattle.ob_base.specs.declared.config.Public.{Public}
use Rattle.ob_base.specs.declared.config.Plan.{Plan}
use Rattle.ob_base.specs.declared.config.Plan.TheVariants.{Small, Large, Continuous, Hash}
use Rattle.ob_base.specs.declared.config.Planner.TheVariants.{Auto}
use Rattle.ob_base.specs.declared.schema.Shape.TheVariants.{Flat, Indexed}
use Rattle.ob_base.specs.declared.seen.End.TheVariants.{Whole, AfterCount, Batched, Cut}
use Rattle.ob_base.specs.declared.skeleton.NewKind.TheVariants.{Int as NewInt}
use Rattle.ob_base.specs.declared.skeleton.NewColumn.{NewColumn}
use Rattle.ob_base.specs.declared.skeleton.ColumnName.{ColumnName}
use Rattle.ob_base.specs.declared.skeleton.Source.TheVariants.{Table as OneTable, Join}
use Rattle.ob_base.specs.declared.skeleton.Skeleton.{Skeleton}
use Rattle.ob_base.specs.declared.skeleton.Skeleton.TheVariants.{Create, Insert, Update, Drop as DropTable, Rows, Groups}
use Rattle.ob_script.specs.Script.{script}
use Rattle.ob_script.specs.Trace.{trace, after_all, Served}

abbrev start_with : (pack buffer depth : ℕ) → Public
start_with pack buffer depth = record { tables = []; next_region = 1; buffer = buffer; depth = depth; pack = pack; planner = Auto; pad = None; stash = 32; keep = false; save = false; batch = None; closing = None }

abbrev column : List ℕ → ℕ → NewColumn
column name keys = record { name = name; kind = NewInt; keys = keys }

abbrev whole : Skeleton → Served
whole s = record { skeleton = s; seen = record { k = None; plan = None; then = None; leaf = None; end = Whole } }

abbrev counted : Skeleton → ℕ → Option Plan → Option Plan → Served
counted s k plan then = record { skeleton = s; seen = record { k = Some k; plan = plan; then = then; leaf = None; end = Whole } }

-- CREATE TABLE t (id INT PRIMARY KEY, v INT) CAPACITY 4, and CREATE TABLE u (k INT, w INT) CAPACITY 3
abbrev create_t : Served
create_t = whole (Create (codes "t") (column (codes "id") 1 ∷ column (codes "v") 0 ∷ []) 4 Flat)

abbrev create_u : Served
create_u = whole (Create (codes "u") (column (codes "k") 0 ∷ column (codes "w") 0 ∷ []) 3 Flat)

abbrev insert_in : List ℕ → Served
insert_in name = whole (Insert name None)

abbrev joined_in : List ℕ → Served
joined_in name = record { skeleton = Insert name None; seen = record { k = None; plan = None; then = None; leaf = None; end = Batched } }

-- with four inserts in t, and two in u
abbrev four : List Served
four = create_t ∷ insert_in (codes "t") ∷ insert_in (codes "t") ∷ insert_in (codes "t") ∷ insert_in (codes "t") ∷ []

abbrev with_u : List Served
with_u = four ++ (create_u ∷ insert_in (codes "u") ∷ insert_in (codes "u") ∷ [])

abbrev rows_of_t : Skeleton
rows_of_t = Rows (OneTable (codes "t")) None

abbrev named : List ℕ → List ℕ → ColumnName
named table column = record { table = Some table; column = column }

abbrev pairs_of_t_and_u : Skeleton
pairs_of_t_and_u = Rows (Join (codes "t") (codes "u") (named (codes "t") (codes "id")) (named (codes "u") (codes "k"))) None

abbrev after_setup : Public → List Served → Served → List Access
after_setup p setup x = script (after_all p setup) x.skeleton x.seen

created : trace (start_with 1 4 5) (create_t ∷ []) ≡ Make 1 4 49 ∷ Write 1 0 ∷ Write 1 1 ∷ Write 1 2 ∷ Write 1 3 ∷ []
created = refl

inserted_and_counted : trace (start_with 1 4 5) (create_t ∷ insert_in (codes "t") ∷ whole (Groups (codes "t") [] None) ∷ []) ≡
    Make 1 4 49 ∷ Write 1 0 ∷ Write 1 1 ∷ Write 1 2 ∷ Write 1 3 ∷
    Make 2 4 49 ∷ Read 1 0 ∷ Read 1 1 ∷ Read 1 2 ∷ Read 1 3 ∷ Read 1 0 ∷ Write 2 0 ∷ Read 1 1 ∷ Write 2 1 ∷ Read 1 2 ∷ Write 2 2 ∷ Read 1 3 ∷ Write 2 3 ∷ Discard 1 ∷
    Read 2 0 ∷ Read 2 1 ∷ Read 2 2 ∷ Read 2 3 ∷ []
unfolding makes
inserted_and_counted = refl

-- an INSERT that was served with the one before it
inserted_together : trace (start_with 1 4 5) (create_t ∷ insert_in (codes "t") ∷ joined_in (codes "t") ∷ whole (Groups (codes "t") [] None) ∷ []) ≡
    trace (start_with 1 4 5) (create_t ∷ insert_in (codes "t") ∷ whole (Groups (codes "t") [] None) ∷ [])
unfolding makes
inserted_together = refl

selected_by_small : after_setup (start_with 1 4 5) four (counted rows_of_t 2 (Some Small) None) ≡
    Read 5 0 ∷ Read 5 1 ∷ Read 5 2 ∷ Read 5 3 ∷ Make 6 2 49 ∷ Read 5 0 ∷ Read 5 1 ∷ Read 5 2 ∷ Read 5 3 ∷ Write 6 0 ∷ Write 6 1 ∷ Read 6 0 ∷ Read 6 1 ∷ Discard 6 ∷ []
unfolding makes
selected_by_small = refl

selected_by_small_in_two_passes : after_setup (start_with 1 4 5) four (counted rows_of_t 4 (Some Small) None) ≡
    Read 5 0 ∷ Read 5 1 ∷ Read 5 2 ∷ Read 5 3 ∷ Make 6 4 49 ∷ Read 5 0 ∷ Read 5 1 ∷ Read 5 2 ∷ Read 5 3 ∷ Write 6 0 ∷ Write 6 1 ∷
    Read 5 0 ∷ Read 5 1 ∷ Read 5 2 ∷ Read 5 3 ∷ Write 6 2 ∷ Write 6 3 ∷ Read 6 0 ∷ Read 6 1 ∷ Read 6 2 ∷ Read 6 3 ∷ Discard 6 ∷ []
unfolding makes
selected_by_small_in_two_passes = refl

selected_by_large : after_setup (start_with 1 4 5) four (counted rows_of_t 2 (Some Large) None) ≡
    Read 5 0 ∷ Read 5 1 ∷ Read 5 2 ∷ Read 5 3 ∷ Make 6 4 49 ∷ Read 5 0 ∷ Write 6 0 ∷ Read 5 1 ∷ Write 6 1 ∷ Read 5 2 ∷ Write 6 2 ∷ Read 5 3 ∷ Write 6 3 ∷
    Read 6 0 ∷ Write 6 0 ∷ Read 6 1 ∷ Write 6 1 ∷ Read 6 2 ∷ Write 6 2 ∷ Read 6 3 ∷ Write 6 3 ∷ Read 6 0 ∷ Read 6 1 ∷ Read 6 2 ∷ Read 6 3 ∷ Discard 6 ∷ []
unfolding makes
selected_by_large = refl

selected_by_continuous : after_setup (start_with 1 4 5) four (counted rows_of_t 3 (Some Continuous) None) ≡
    Read 5 0 ∷ Read 5 1 ∷ Read 5 2 ∷ Read 5 3 ∷ Make 6 3 49 ∷ Write 6 0 ∷ Write 6 1 ∷ Write 6 2 ∷ Read 5 0 ∷ Read 6 0 ∷ Write 6 0 ∷ Read 5 1 ∷ Read 6 1 ∷ Write 6 1 ∷
    Read 5 2 ∷ Read 6 2 ∷ Write 6 2 ∷ Read 5 3 ∷ Read 6 0 ∷ Write 6 0 ∷ Read 6 0 ∷ Read 6 1 ∷ Read 6 2 ∷ Discard 6 ∷ []
unfolding makes
selected_by_continuous = refl

refused_after_the_count : after_setup (start_with 1 4 5) four (record { skeleton = rows_of_t; seen = record { k = Some 2; plan = None; then = None; leaf = None; end = AfterCount } }) ≡
    Read 5 0 ∷ Read 5 1 ∷ Read 5 2 ∷ Read 5 3 ∷ []
unfolding makes
refused_after_the_count = refl

selected_by_hash : after_setup (start_with 1 4 1) four (counted rows_of_t 2 (Some Hash) None) ≡
    Read 5 0 ∷ Read 5 1 ∷ Read 5 2 ∷ Read 5 3 ∷ Make 6 2 49 ∷ Write 6 0 ∷ Write 6 1 ∷ Read 5 0 ∷ Read 6 0 ∷ Write 6 0 ∷ Read 6 0 ∷ Write 6 0 ∷
    Read 5 1 ∷ Read 6 1 ∷ Write 6 1 ∷ Read 6 1 ∷ Write 6 1 ∷ Read 5 2 ∷ Read 6 0 ∷ Write 6 0 ∷ Read 6 0 ∷ Write 6 0 ∷ Read 5 3 ∷ Read 6 1 ∷ Write 6 1 ∷ Read 6 1 ∷ Write 6 1 ∷
    Read 6 0 ∷ Read 6 1 ∷ Discard 6 ∷ []
unfolding makes
selected_by_hash = refl

joined : after_setup (start_with 1 4 5) with_u (counted pairs_of_t_and_u 2 (Some Small) None) ≡
    Make 9 6 65 ∷ Read 5 0 ∷ Read 5 1 ∷ Read 8 0 ∷ Write 9 0 ∷ Read 8 1 ∷ Write 9 1 ∷ Read 8 2 ∷ Write 9 2 ∷ Read 5 2 ∷ Read 5 3 ∷ Read 8 0 ∷ Write 9 3 ∷ Read 8 1 ∷ Write 9 4 ∷ Read 8 2 ∷ Write 9 5 ∷
    Read 9 0 ∷ Read 9 1 ∷ Read 9 2 ∷ Read 9 3 ∷ Read 9 4 ∷ Read 9 5 ∷ Make 10 2 65 ∷ Read 9 0 ∷ Read 9 1 ∷ Read 9 2 ∷ Read 9 3 ∷ Read 9 4 ∷ Read 9 5 ∷ Write 10 0 ∷ Write 10 1 ∷
    Read 10 0 ∷ Read 10 1 ∷ Discard 10 ∷ Discard 9 ∷ []
unfolding makes
joined = refl

updated : after_setup (start_with 1 4 5) four (whole (Update (codes "t") (codes "v" ∷ []))) ≡
    Make 6 4 49 ∷ Read 5 0 ∷ Write 6 0 ∷ Read 5 1 ∷ Write 6 1 ∷ Read 5 2 ∷ Write 6 2 ∷ Read 5 3 ∷ Write 6 3 ∷ Discard 5 ∷ []
unfolding makes
updated = refl

-- the fourth access fails
cut : after_setup (start_with 1 4 5) (create_t ∷ []) (record { skeleton = Insert (codes "t") None; seen = record { k = None; plan = None; then = None; leaf = None; end = Cut 4 } }) ≡
    Make 2 4 49 ∷ Read 1 0 ∷ Read 1 1 ∷ Read 1 2 ∷ []
unfolding makes
cut = refl

-- a table of the same name again has a region of its own
created_again : trace (start_with 1 4 5) (create_t ∷ whole (DropTable (codes "t")) ∷ create_t ∷ []) ≡
    Make 1 4 49 ∷ Write 1 0 ∷ Write 1 1 ∷ Write 1 2 ∷ Write 1 3 ∷ Discard 1 ∷ Make 2 4 49 ∷ Write 2 0 ∷ Write 2 1 ∷ Write 2 2 ∷ Write 2 3 ∷ []
unfolding makes
created_again = refl

-- ---- two rows in a block
created_by_two : trace (start_with 2 7 5) (create_t ∷ []) ≡ Make 1 2 66 ∷ Write 1 0 ∷ Write 1 1 ∷ []
created_by_two = refl

inserted_by_two : trace (start_with 2 7 5) (create_t ∷ insert_in (codes "t") ∷ whole (Groups (codes "t") [] None) ∷ []) ≡
    Make 1 2 66 ∷ Write 1 0 ∷ Write 1 1 ∷ Make 2 2 66 ∷ Read 1 0 ∷ Read 1 1 ∷ Read 1 0 ∷ Write 2 0 ∷ Read 1 1 ∷ Write 2 1 ∷ Discard 1 ∷ Read 2 0 ∷ Read 2 1 ∷ []
unfolding makes
inserted_by_two = refl

small_by_two : after_setup (start_with 2 7 5) four (counted rows_of_t 2 (Some Small) None) ≡
    Read 5 0 ∷ Read 5 1 ∷ Make 6 1 66 ∷ Read 5 0 ∷ Read 5 1 ∷ Write 6 0 ∷ Read 6 0 ∷ Discard 6 ∷ []
unfolding makes
small_by_two = refl

joined_by_two : after_setup (start_with 2 7 5) with_u (counted pairs_of_t_and_u 2 (Some Small) None) ≡
    Make 9 4 98 ∷ Read 5 0 ∷ Read 8 0 ∷ Write 9 0 ∷ Read 8 1 ∷ Write 9 1 ∷ Read 5 1 ∷ Read 8 0 ∷ Write 9 2 ∷ Read 8 1 ∷ Write 9 3 ∷ Read 9 0 ∷ Read 9 1 ∷ Read 9 2 ∷ Read 9 3 ∷
    Make 10 1 98 ∷ Read 9 0 ∷ Read 9 1 ∷ Read 9 2 ∷ Read 9 3 ∷ Write 10 0 ∷ Read 10 0 ∷ Discard 10 ∷ Discard 9 ∷ []
unfolding makes
joined_by_two = refl

continuous_by_two : after_setup (start_with 2 7 5) four (counted rows_of_t 3 (Some Continuous) None) ≡
    Read 5 0 ∷ Read 5 1 ∷ Make 6 2 66 ∷ Write 6 0 ∷ Write 6 1 ∷ Read 5 0 ∷ Read 6 0 ∷ Write 6 0 ∷ Read 6 0 ∷ Write 6 0 ∷ Read 5 1 ∷ Read 6 1 ∷ Write 6 1 ∷ Read 6 0 ∷ Write 6 0 ∷
    Read 6 0 ∷ Read 6 1 ∷ Discard 6 ∷ []
unfolding makes
continuous_by_two = refl

hash_by_two : after_setup (start_with 2 7 1) four (counted rows_of_t 2 (Some Hash) None) ≡
    Read 5 0 ∷ Read 5 1 ∷ Make 6 2 66 ∷ Write 6 0 ∷ Write 6 1 ∷ Read 5 0 ∷ Read 6 0 ∷ Write 6 0 ∷ Read 6 0 ∷ Write 6 0 ∷ Read 6 1 ∷ Write 6 1 ∷ Read 6 1 ∷ Write 6 1 ∷
    Read 5 1 ∷ Read 6 0 ∷ Write 6 0 ∷ Read 6 0 ∷ Write 6 0 ∷ Read 6 1 ∷ Write 6 1 ∷ Read 6 1 ∷ Write 6 1 ∷ Read 6 0 ∷ Read 6 1 ∷ Discard 6 ∷ []
unfolding makes
hash_by_two = refl

large_by_two : after_setup (start_with 2 7 5) four (counted rows_of_t 2 (Some Large) None) ≡
    Read 5 0 ∷ Read 5 1 ∷ Make 6 2 66 ∷ Read 5 0 ∷ Write 6 0 ∷ Read 5 1 ∷ Write 6 1 ∷ Read 6 0 ∷ Write 6 0 ∷ Read 6 1 ∷ Write 6 1 ∷ Read 6 0 ∷ Read 6 1 ∷ Discard 6 ∷ []
unfolding makes
large_by_two = refl

-- ---- CREATE TABLE o (id INT PRIMARY KEY, v INT) CAPACITY 4 INDEXED, with a stash of two slots
abbrev with_stash : Public
with_stash = record (start_with 1 16 5) { stash = 2 }

abbrev create_o : Served
create_o = whole (Create (codes "o") (column (codes "id") 1 ∷ column (codes "v") 0 ∷ []) 4 Indexed)

abbrev access_o : ℕ → Served
access_o leaf = record { skeleton = Insert (codes "o") None; seen = record { k = None; plan = None; then = None; leaf = Some leaf; end = Whole } }

index_created : trace with_stash (create_o ∷ []) ≡ Make 1 28 49 ∷ (each 28 (write_at 1) ++ (Make 2 2 49 ∷ (Write 2 0 ∷ Write 2 1 ∷ [])))
index_created = refl

-- the path of leaf 2 has buckets 0, 2 and 5
index_accessed : after_setup with_stash (create_o ∷ []) (access_o 2) ≡
    Read 2 0 ∷ Read 2 1
    ∷ Read 1 0 ∷ Read 1 1 ∷ Read 1 2 ∷ Read 1 3 ∷ Read 1 8 ∷ Read 1 9 ∷ Read 1 10 ∷ Read 1 11 ∷ Read 1 20 ∷ Read 1 21 ∷ Read 1 22 ∷ Read 1 23
    ∷ Write 1 0 ∷ Write 1 1 ∷ Write 1 2 ∷ Write 1 3 ∷ Write 1 8 ∷ Write 1 9 ∷ Write 1 10 ∷ Write 1 11 ∷ Write 1 20 ∷ Write 1 21 ∷ Write 1 22 ∷ Write 1 23
    ∷ Write 2 0 ∷ Write 2 1 ∷ []
unfolding makes
index_accessed = refl

-- it lies where it lay, and the next table after both of its regions
index_stays : after_setup with_stash (create_o ∷ access_o 2 ∷ create_t ∷ []) (whole (DropTable (codes "o"))) ≡ Discard 1 ∷ Discard 2 ∷ []
unfolding makes
index_stays = refl

behind_index : after_setup with_stash (create_o ∷ access_o 2 ∷ []) create_t ≡ Make 3 4 49 ∷ Write 3 0 ∷ Write 3 1 ∷ Write 3 2 ∷ Write 3 3 ∷ []
unfolding makes
behind_index = refl

-- a read of the stash failed, or gave what was not written there
index_cut : after_setup with_stash (create_o ∷ []) (record { skeleton = Insert (codes "o") None; seen = record { k = None; plan = None; then = None; leaf = None; end = Cut 1 } }) ≡ Read 2 0 ∷ []
unfolding makes
index_cut = refl
