-- The accesses of small flights, computed.
use Rattle.std.proofs.Common.{◌≡◌, ℕ, List, [], ◌∷◌, ◌%◌, refl}
use Rattle.std.specs.Prelude.{Option, Some, None, codes, false}
use Rattle.ob_base.specs.declared.access.Access.TheVariants.{Make, Read, Write, Discard}
use Rattle.ob_base.specs.Accesses.{makes}
use Rattle.ob_base.specs.declared.config.Public.{Public}
use Rattle.ob_base.specs.declared.config.Plan.TheVariants.{Small}
use Rattle.ob_base.specs.declared.config.Planner.TheVariants.{Auto}
use Rattle.ob_base.specs.declared.schema.Shape.TheVariants.{Flat}
use Rattle.ob_base.specs.declared.seen.End.TheVariants.{Whole, Cut, Static}
use Rattle.ob_base.specs.declared.skeleton.NewKind.TheVariants.{Int as NewInt}
use Rattle.ob_base.specs.declared.skeleton.NewColumn.{NewColumn}
use Rattle.ob_base.specs.declared.skeleton.Source.TheVariants.{Table as OneTable}
use Rattle.ob_base.specs.declared.skeleton.Skeleton.{Skeleton}
use Rattle.ob_base.specs.declared.skeleton.Skeleton.TheVariants.{Create, Insert, Rows, Groups}
use Rattle.ob_script.specs.Trace.{after_all, Served}
use Rattle.ob_script.specs.Flights.{draw, drawn, flight, merge, own, runnable, turn, turns, turns_for, turns_of}

abbrev start_with : (pack buffer : ℕ) → (pad : Option ℕ) → Public
start_with pack buffer pad = record { tables = []; next_region = 1; buffer = buffer; depth = 5; pack = pack; planner = Auto; pad = pad; stash = 32; keep = false; save = false; batch = None; closing = None }

abbrev column : List ℕ → ℕ → NewColumn
column name keys = record { name = name; kind = NewInt; keys = keys }

abbrev whole : Skeleton → Served
whole s = record { skeleton = s; seen = record { k = None; plan = None; then = None; leaf = None; end = Whole } }

abbrev four : List Served
four = whole (Create (codes "t") (column (codes "id") 1 ∷ column (codes "v") 0 ∷ []) 4 Flat) ∷ whole (Insert (codes "t") None) ∷ whole (Insert (codes "t") None) ∷ whole (Insert (codes "t") None) ∷ whole (Insert (codes "t") None) ∷ []

abbrev two : Served
two = record { skeleton = Rows (OneTable (codes "t")) None; seen = record { k = Some 2; plan = Some Small; then = None; leaf = None; end = Whole } }

abbrev none : Served
none = record { skeleton = Rows (OneTable (codes "t")) None; seen = record { k = Some 0; plan = None; then = None; leaf = None; end = Whole } }

abbrev before : Public
before = after_all (start_with 1 8 None) four

-- two SELECTs of two rows each, the first and the second in turn
pub one_and_other : merge before (two ∷ two ∷ []) (λ t. t % 2) ≡
    Read 5 0 ∷ Read 5 0 ∷ Read 5 1 ∷ Read 5 1 ∷ Read 5 2 ∷ Read 5 2 ∷ Read 5 3 ∷ Read 5 3 ∷
    Make 6 2 49 ∷ Make 7 2 49 ∷
    Read 5 0 ∷ Read 5 0 ∷ Read 5 1 ∷ Read 5 1 ∷ Read 5 2 ∷ Read 5 2 ∷ Read 5 3 ∷ Read 5 3 ∷
    Write 6 0 ∷ Write 7 0 ∷ Write 6 1 ∷ Write 7 1 ∷
    Read 6 0 ∷ Read 6 1 ∷ Discard 6 ∷ Read 7 0 ∷ Read 7 1 ∷ Discard 7 ∷ []
unfolding makes runnable turn turns turns_for
one_and_other = refl

-- the same by the words of the program from 0, of which the first is odd: the second statement asks first, and makes its result first
pub by_draws : merge before (two ∷ two ∷ []) (drawn 0) ≡
    Read 5 0 ∷ Read 5 0 ∷ Read 5 1 ∷ Read 5 1 ∷ Read 5 2 ∷ Read 5 3 ∷ Read 5 2 ∷ Make 6 2 49 ∷ Read 5 3 ∷ Read 5 0 ∷ Read 5 1 ∷ Make 7 2 49 ∷ Read 5 0 ∷ Read 5 2 ∷ Read 5 1 ∷ Read 5 2 ∷ Read 5 3 ∷ Read 5 3 ∷ Write 6 0 ∷ Write 6 1 ∷ Write 7 0 ∷ Write 7 1 ∷ Read 7 0 ∷ Read 7 1 ∷ Discard 7 ∷ Read 6 0 ∷ Read 6 1 ∷ Discard 6 ∷ []
unfolding makes runnable turn turns turns_for draw
by_draws = refl

-- three: of three rows, of none, and of totals
abbrev three : Served
three = record { skeleton = Rows (OneTable (codes "t")) None; seen = record { k = Some 3; plan = Some Small; then = None; leaf = None; end = Whole } }

pub of_three : merge (after_all (start_with 1 12 None) four) (three ∷ none ∷ whole (Groups (codes "t") [] None) ∷ []) (drawn 7) ≡
    Read 5 0 ∷ Read 5 1 ∷ Read 5 0 ∷ Read 5 2 ∷ Read 5 0 ∷ Read 5 3 ∷ Read 5 1 ∷ Read 5 2 ∷ Read 5 1 ∷ Read 5 3 ∷ Read 5 2 ∷ Read 5 3 ∷ Make 6 3 49 ∷ Read 5 0 ∷ Read 5 1 ∷ Read 5 2 ∷ Read 5 3 ∷ Write 6 0 ∷ Write 6 1 ∷ Read 5 0 ∷ Read 5 1 ∷ Read 5 2 ∷ Read 5 3 ∷ Write 6 2 ∷ Read 6 0 ∷ Read 6 1 ∷ Read 6 2 ∷ Discard 6 ∷ []
unfolding makes runnable turn turns turns_for draw
of_three = refl

-- three whose results are padded to two rows: one that is, or is walked; one that the store cut off; one that is refused
abbrev any : Served
any = whole (Rows (OneTable (codes "t")) None)

abbrev broken : Served
broken = record { skeleton = Rows (OneTable (codes "t")) None; seen = record { k = None; plan = None; then = None; leaf = None; end = Cut 7 } }

abbrev refused : Served
refused = record { skeleton = Rows (OneTable (codes "t")) None; seen = record { k = None; plan = None; then = None; leaf = None; end = Static } }

pub of_padded : merge (after_all (start_with 1 12 (Some 2)) four) (any ∷ broken ∷ refused ∷ []) (drawn 3) ≡
    Read 5 0 ∷ Read 5 1 ∷ Read 5 2 ∷ Read 5 0 ∷ Read 5 1 ∷ Read 5 3 ∷ Make 6 2 49 ∷ Read 5 0 ∷ Read 5 1 ∷ Read 5 2 ∷ Read 5 3 ∷ Make 7 2 49 ∷ Read 5 0 ∷ Read 5 1 ∷ Read 5 2 ∷ Read 5 3 ∷ Write 7 0 ∷ Write 7 1 ∷ Read 7 0 ∷ Read 7 1 ∷ Discard 7 ∷ []
unfolding makes runnable turn turns turns_for draw
of_padded = refl

-- ---- four, each with a fourth of the rows that may be open
abbrev totals : Served
totals = whole (Groups (codes "t") [] None)

-- one of three rows, which the store failed at its seventh access, after its count and its make
abbrev failed : Served
failed = record { skeleton = Rows (OneTable (codes "t")) None; seen = record { k = Some 3; plan = Some Small; then = None; leaf = None; end = Cut 7 } }

abbrev roomy : Option ℕ → Public
roomy pad = after_all (start_with 1 16 pad) four

-- one that is refused, one of no rows, one of totals, and that one: each except the first counts, and the last makes a region
pub of_four : merge (roomy None) (refused ∷ none ∷ totals ∷ failed ∷ []) (drawn 11) ≡
    Read 5 0 ∷ Read 5 0 ∷ Read 5 0 ∷ Read 5 1 ∷ Read 5 2 ∷ Read 5 3 ∷ Read 5 1 ∷ Read 5 2 ∷ Read 5 1 ∷ Read 5 2 ∷ Read 5 3 ∷ Read 5 3 ∷ Make 6 3 49 ∷ Read 5 0 ∷ Read 5 1 ∷ []
unfolding makes runnable turn turns turns_for draw
of_four = refl

-- of those each asked its own, the one that is refused nothing, and one region more was made
pub own_of_four : own 3 (flight (roomy None) (refused ∷ none ∷ totals ∷ failed ∷ []) (drawn 11)).log ≡
    Read 5 0 ∷ Read 5 1 ∷ Read 5 2 ∷ Read 5 3 ∷ Make 6 3 49 ∷ Read 5 0 ∷ Read 5 1 ∷ []
unfolding makes runnable turn turns turns_for draw
own_of_four = refl

pub next_of_four : (flight (roomy None) (refused ∷ none ∷ totals ∷ failed ∷ []) (drawn 11)).public.next_region ≡ 7
unfolding makes runnable turn turns turns_for draw
next_of_four = refl

-- 15 accesses and four ends
pub turns_of_four : turns_of (roomy None) (refused ∷ none ∷ totals ∷ failed ∷ []) ≡ 19
unfolding makes turns_for
turns_of_four = refl

-- in another order: the rows of the third are read back once the first two have ended, and the refused one ends last
pub of_four_in_order : merge (roomy None) (failed ∷ totals ∷ two ∷ refused ∷ []) (drawn 11) ≡
    Read 5 0 ∷ Read 5 1 ∷ Read 5 0 ∷ Read 5 0 ∷ Read 5 2 ∷ Read 5 3 ∷ Read 5 1 ∷ Read 5 1 ∷ Read 5 2 ∷ Read 5 2 ∷ Read 5 3 ∷ Make 6 2 49 ∷ Read 5 3 ∷ Read 5 0 ∷ Read 5 1 ∷ Read 5 2 ∷ Make 7 3 49 ∷ Read 5 3 ∷ Write 6 0 ∷ Write 6 1 ∷ Read 5 0 ∷ Read 5 1 ∷ Read 6 0 ∷ Read 6 1 ∷ Discard 6 ∷ []
unfolding makes runnable turn turns turns_for draw
of_four_in_order = refl

-- the same with padded results: one that is, totals, which aren't, one that the store failed, and one that is refused
pub of_four_padded : merge (roomy (Some 2)) (any ∷ totals ∷ broken ∷ refused ∷ []) (drawn 5) ≡
    Read 5 0 ∷ Read 5 0 ∷ Read 5 1 ∷ Read 5 2 ∷ Read 5 3 ∷ Read 5 1 ∷ Read 5 2 ∷ Read 5 3 ∷ Read 5 0 ∷ Read 5 1 ∷ Make 6 2 49 ∷ Read 5 2 ∷ Read 5 3 ∷ Read 5 0 ∷ Read 5 1 ∷ Make 7 2 49 ∷ Read 5 0 ∷ Read 5 1 ∷ Read 5 2 ∷ Read 5 3 ∷ Write 7 0 ∷ Write 7 1 ∷ Read 7 0 ∷ Read 7 1 ∷ Discard 7 ∷ []
unfolding makes runnable turn turns turns_for draw
of_four_padded = refl
