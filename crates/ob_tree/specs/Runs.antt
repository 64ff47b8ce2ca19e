-- Lists of accesses, each with its draw.
use Rattle.std.specs.Prelude.{◌≡◌, ℕ, zero, suc, ◌+◌, ◌-◌, ◌*◌, ◌%◌, ◌^◌, Bool, true, false, ◌==◌, ◌&&◌, List, [], ◌∷◌, ◌++◌, length, take, map, replicate, Option, Some, None, slice_index_or, slice_set, if◌then◌else◌}
use Rattle.ob_path.specs.States.{State, Represents}
use Rattle.ob_path.specs.Access.{Op, Get, Insert, Change, Remove, Got, Went, key_of, after, answer, access, leaf_read}
use Rattle.std.specs.Prelude.{nat_lt}

-- an index with no row, its leaves drawn
abbrev pub created : {R : Type 0} → ℕ → ℕ → List ℕ → State R
created h t leaves = record { tree = replicate (4 * (2 ^ (h + 1) - 1)) None; stash = replicate t None; leaves = leaves }

-- the answers until the first full stash, whether there was one, and the index then
pub record Ran (R : Type 0) : Type 0 where
  pub gots : List (Got R)
  pub full : Bool
  pub state : State R

abbrev pub goes : {R : Type 0} → State R → (State R → Ran R) → Option (Went R) → Ran R
goes s next None = record { gots = []; full = true; state = s }
goes s next (Some w) = record (next w.state) { gots = w.got ∷ (next w.state).gots }

abbrev pub run : {R : Type 0} → (R → ℕ) → ℕ → State R → List (Op R × ℕ) → Ran R
run key h s [] = record { gots = []; full = false; state = s }
run key h s (x ∷ rest) = goes s (λ to. run key h to rest) (access key h s x.0 x.1)

-- a map after an operation: that of keys 0 to n - 1
abbrev pub map_after : {R : Type 0} → (R → ℕ) → ℕ → Op R → (ℕ → Option R) → ℕ → Option R
map_after key n op m k = if (nat_lt (key_of key op) n && (k == key_of key op)) then after op (m k) else m k

abbrev pub map_answer : {R : Type 0} → (R → ℕ) → ℕ → Op R → (ℕ → Option R) → Got R
map_answer key n op m = answer n (key_of key op) op (m (key_of key op))

-- what a map answers to a list of operations
abbrev pub map_answers : {R : Type 0} → (R → ℕ) → ℕ → (ℕ → Option R) → List (Op R × ℕ) → List (Got R)
map_answers key n m [] = []
map_answers key n m (x ∷ rest) = map_answer key n x.0 m ∷ map_answers key n (map_after key n x.0 m) rest

-- a change leaves a row its key
abbrev pub KeepsKey : {R : Type 0} → (R → ℕ) → Op R → Type 0
KeepsKey {R} key (Get k) = Unit {0}
KeepsKey {R} key (Insert row) = Unit {0}
KeepsKey {R} key (Change k f) = (row : R) → key (f row) ≡ key row
KeepsKey {R} key (Remove k) = Unit {0}

-- the map after a list of operations
abbrev pub maps_after : {R : Type 0} → (R → ℕ) → ℕ → (ℕ → Option R) → List (Op R × ℕ) → ℕ → Option R
maps_after key n m [] = m
maps_after key n m (x ∷ rest) = maps_after key n (map_after key n x.0 m) rest

abbrev pub AllKeep : {R : Type 0} → (R → ℕ) → List (Op R × ℕ) → Type 0
AllKeep key [] = Unit {0}
AllKeep key (x ∷ rest) = KeepsKey key x.0 × AllKeep key rest

-- a run answers as the map does, to the end or to a full stash, and stands for the map then
pub record RunsAsMap {R : Type 0} (key : R → ℕ) (h n : ℕ) (m : ℕ → Option R) (ops : List (Op R × ℕ)) (r : Ran R) : Type 0 where
  pub more : List (Got R)
  pub gots : r.gots ++ more ≡ map_answers key n m ops
  pub whole : r.full ≡ false → more ≡ []
  pub represents : Represents key h r.state (maps_after key n m (take (length r.gots) ops))

-- the leaf of a draw
abbrev pub leaf_at : ℕ → (ℕ → ℕ) → ℕ → ℕ
leaf_at h d n = d n % 2 ^ h

-- the numbers of the draws that gave the leaves read, the next draw's number being next, where for each key the number of the draw that gave its leaf is known
abbrev pub draws_read : ℕ → List ℕ → List ℕ → List ℕ
draws_read next given [] = []
draws_read next given (k ∷ ks) = slice_index_or given k next ∷ draws_read (suc next) (slice_set given k next) ks

-- the leaves that a run reads
abbrev pub then_leaves : {R : Type 0} → (State R → List ℕ) → Option (Went R) → List ℕ
then_leaves next None = []
then_leaves next (Some w) = next w.state

abbrev pub run_leaves : {R : Type 0} → (R → ℕ) → ℕ → State R → List (Op R × ℕ) → List ℕ
run_leaves key h s [] = []
run_leaves key h s (x ∷ rest) = leaf_read h s (key_of key x.0) x.1 ∷ then_leaves (λ to. run_leaves key h to rest) (access key h s x.0 x.1)

-- each operation with its draw, the first with that of this number
abbrev pub with_draws : {R : Type 0} → (ℕ → ℕ) → ℕ → List (Op R) → List (Op R × ℕ)
with_draws d next [] = []
with_draws d next (op ∷ ops) = (op, d next) ∷ with_draws d (suc next) ops

-- the leaves that a run reads are those of these draws, as far as it goes
pub record ReadsDraws {R : Type 0} (key : R → ℕ) (h : ℕ) (s : State R) (d : ℕ → ℕ) (next : ℕ) (given : List ℕ) (ops : List (Op R)) : Type 0 where
  pub more : List ℕ
  pub leaves : run_leaves key h s (with_draws d next ops) ++ more ≡ map (leaf_at h d) (draws_read next given (map (key_of key) ops))
  pub whole : (run key h s (with_draws d next ops)).full ≡ false → more ≡ []

-- the number of the draw that key k had at its last access among these, or else was
abbrev pub last_given : ℕ → ℕ → ℕ → List ℕ → ℕ
last_given next k was [] = was
last_given next k was (j ∷ js) = last_given (suc next) k (if (j == k) then next else was) js

-- n inserts of rows that are keys alone, from key k on, with draws 0
abbrev pub insert_from : ℕ → ℕ → List (Op ℕ × ℕ)
insert_from k zero = []
insert_from k (suc n) = (Insert k, 0) ∷ insert_from (suc k) n

-- key 3 is put in and looked for, 4 is out of range, 3 is there already, 9 is out of range
abbrev pub small_ops : List (Op ℕ × ℕ)
small_ops = (Insert 3, 2) ∷ (Get 3, 1) ∷ (Insert 4, 0) ∷ (Insert 3, 7) ∷ (Get 9, 5) ∷ []
