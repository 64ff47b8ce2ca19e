-- Statements on small indexes that the checker computes: what they answer, which leaf is seen, and what they leave.
use Rattle.std.proofs.Common.{◌≡◌, ℕ, List, [], ◌∷◌, Some, None, true, false, refl}
use Rattle.std.specs.Prelude.{◌++◌, Option, codes, pos, replicate}
use Rattle.ob_base.specs.declared.config.Planner.TheVariants.{Auto}
use Rattle.ob_base.specs.declared.config.Public.{Public}
use Rattle.ob_base.specs.declared.comparison.ComparisonOperator.TheVariants.{Equal}
use Rattle.ob_base.specs.declared.refusal.Refusal.TheVariants.{Duplicate, KeyRange}
use Rattle.ob_base.specs.declared.schema.Heading.{Heading}
use Rattle.ob_base.specs.declared.schema.Shape.TheVariants.{Indexed}
use Rattle.ob_base.specs.declared.seen.End.TheVariants.{Whole}
use Rattle.ob_base.specs.declared.seen.Seen.{Seen}
use Rattle.ob_base.specs.declared.skeleton.NewKind.TheVariants.{Int as NewInt}
use Rattle.ob_base.specs.Publics.{first_public}
use Rattle.ob_base.specs.Schemas.{columns_of}
use Rattle.ob_row.specs.declared.cell.Cell.TheVariants.{Int}
use Rattle.ob_row.specs.Rows.{Row}
use Rattle.ob_row.specs.Slots.{Slots}
use Rattle.ob_sql.specs.declared.stmt.Against.TheVariants.{Literal as LiteralAgainst}
use Rattle.ob_sql.specs.declared.stmt.Literal.TheVariants.{Int as IntLiteral}
use Rattle.ob_sql.specs.declared.stmt.Stmt.{Stmt}
use Rattle.ob_sql.specs.declared.stmt.Stmt.TheVariants.{Insert, Delete}
use Rattle.ob_sql.specs.Search.{Compare}
use Rattle.ob_sql.specs.Skeleton.{skeleton}
use Rattle.ob_mean.specs.declared.answer.Answer.TheVariants.{Done, Changed, Refused}
use Rattle.ob_mean.specs.Replay.{cut_at}
use Rattle.ob_mean.specs.Settle.{new_held, settle}
use Rattle.ob_mean.specs.Verdict.{Draws, Tables, ended, is_full, seen, verdict}

abbrev t : List ℕ
t = codes "t"

abbrev k : List ℕ
k = codes "k"

-- with a stash of one row
abbrev by_one : Public
by_one = first_public (record { buffer = 64; depth = 5; pack = 1; planner = Auto; pad = None; stash = 1; keep = false; save = false; batch = None; max_input = 1048576 })

-- the next draw is this number
abbrev drawing : ℕ → Draws
drawing x = record { draw = λ n. n; drawn = x }

abbrev row : ℕ → Row
row x = Int (pos x) ∷ []

-- an index of so many keys that holds this
abbrev heading : (keys : ℕ) → Heading
heading keys = record { name = t; schema = columns_of t (record { name = k; kind = NewInt; keys = 1 } ∷ []); capacity = keys; shape = Indexed }

abbrev index : (keys : ℕ) → Slots → (leaves : List ℕ) → Tables
index keys slots leaves = record { heading = heading keys; held = record { slots = slots; leaves = leaves } } ∷ []

-- of two keys: twelve blocks and the stash, of which the root has this slot
abbrev with_root : Option Row → (leaves : List ℕ) → Tables
with_root slot leaves = index 2 (slot ∷ replicate 12 None) leaves

abbrev insert : ℕ → Stmt
insert x = Insert t None (IntLiteral (pos x) ∷ [])

abbrev delete : ℕ → Stmt
delete x = Delete t (Some (Compare (record { table = None; column = k }) Equal (LiteralAgainst (IntLiteral (pos x)))))

abbrev showing : ℕ → Seen
showing leaf = record (ended Whole) { leaf = Some leaf }

-- the key's leaf is seen and the draw's is its next
put_left : settle (drawing 1) by_one 0 (with_root None (0 ∷ 1 ∷ [])) (insert 0) ≡ with_root (Some (row 0)) (1 ∷ 1 ∷ [])
put_left = refl

put_seen : seen (drawing 1) by_one 0 (with_root None (0 ∷ 1 ∷ [])) (insert 0) ≡ showing 0
put_seen = refl

put_answer : verdict by_one 0 (with_root None (0 ∷ 1 ∷ [])) (insert 0) ≡ Done
put_answer = refl

-- a duplicate is refused, and its row moves down the path of its next leaf
again_left : settle (drawing 3) by_one 0 (with_root (Some (row 0)) (1 ∷ 1 ∷ [])) (insert 0) ≡ index 2 (replicate 8 None ++ Some (row 0) ∷ replicate 4 None) (1 ∷ 1 ∷ [])
again_left = refl

again_seen : seen (drawing 3) by_one 0 (with_root (Some (row 0)) (1 ∷ 1 ∷ [])) (insert 0) ≡ showing 1
again_seen = refl

again_answer : verdict by_one 0 (with_root (Some (row 0)) (1 ∷ 1 ∷ [])) (insert 0) ≡ Refused Duplicate
again_answer = refl

-- a key that is none of the index shows the draw's leaf
outside_seen : seen (drawing 1) by_one 0 (with_root None (0 ∷ 0 ∷ [])) (insert 2) ≡ showing 1
outside_seen = refl

outside_answer : verdict by_one 0 (with_root None (0 ∷ 0 ∷ [])) (insert 2) ≡ Refused KeyRange
outside_answer = refl

taken_left : settle (drawing 0) by_one 0 (with_root (Some (row 0)) (1 ∷ 1 ∷ [])) (delete 0) ≡ with_root None (0 ∷ 1 ∷ [])
taken_left = refl

taken_answer : verdict by_one 0 (with_root (Some (row 0)) (1 ∷ 1 ∷ [])) (delete 0) ≡ Changed 1
taken_answer = refl

-- a new index takes a draw for each key: of three keys there are four leaves
new_leaves : new_held (drawing 2) 1 (heading 3) ≡ record { slots = replicate 29 None; leaves = 2 ∷ 3 ∷ 0 ∷ [] }
new_leaves = refl

-- ---- an access that was cut off
-- the leaf is held once more was asked than the stash, also where the last call failed
cut_in_stash : (cut_at true 1 by_one (skeleton (insert 0)) (showing 0)).leaf ≡ None
cut_in_stash = refl

cut_on_path : (cut_at true 2 by_one (skeleton (insert 0)) (showing 0)).leaf ≡ Some 0
cut_on_path = refl

-- ---- a full stash
-- five keys have leaf 0, of which the path of leaf 7 has the root alone: it is full, and so is the stash
abbrev crowded : Tables
crowded = index 8 (Some (row 0) ∷ Some (row 1) ∷ Some (row 2) ∷ Some (row 3) ∷ replicate 56 None ++ Some (row 4) ∷ []) (replicate 5 0 ++ replicate 3 7)

full : is_full (drawing 0) by_one 0 crowded (insert 5) ≡ true
full = refl

full_left : settle (drawing 0) by_one 0 crowded (insert 5) ≡ crowded
full_left = refl

-- with another leaf drawn the row has a place below
room : is_full (drawing 7) by_one 0 crowded (insert 5) ≡ false
room = refl

-- what is refused before its first access meets no full stash
refused_before : is_full (drawing 0) by_one 0 crowded (Insert t None []) ≡ false
refused_before = refl
