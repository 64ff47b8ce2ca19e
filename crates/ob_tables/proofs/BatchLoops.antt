-- The rows and the outcomes of a batch, one after the other.
use Rattle.ob_tables.proofs.Words.{ap, append-nil, append_assoc, arith, Bool, Columns, drop, failed_by, get_or, given_all, inserted_as, length, length-append, List, map, None, Option, Outcome, Public, refl, Refusal, refusal_by, rows_in, slice_set, Some, Stmt, sym, take, ℕ, [], ◌++◌, ◌+◌, ◌<◌, ◌^◌, ◌∙◌, ◌∷◌, ◌≡◌, ◌≤◌}
use Rattle.std.specs.List.{cons_option}
use Rattle.std.proofs.lemmas.List.{drop_all, drop_more, map_more, take_all, take_more, take_more_set}
use Rattle.std.proofs.lemmas.List.Elements.{filter_map-append}
use Rattle.ob_mutate.specs.declared.inserting.Inserted.{Inserted}
use Rattle.ob_row.specs.Rows.{Row}
use Rattle.ob_verdict.specs.declared.outcome.Outcome.TheVariants.{Inserted as InsertedOut}
use Rattle.ob_tables.specs.Batch.{answers_behind, given_next, row_of, row_unless}

-- ---- the rows
-- an INSERT that is refused before any access adds none
pub none_added : (r : Refusal) (o : Option Refusal) (rows : List Row) (row : Row) → Some r ≡ o → rows ≡ rows ++ cons_option (row_unless o row) []
none_added r o rows row is = sym (append-nil rows) ∙ ap (λ (x : Option Refusal). rows ++ cons_option (row_unless x row) []) is

-- each other one adds its own
pub one_added : (o : Option Refusal) (rows more : List Row) (row : Row) → None ≡ o → more ≡ rows ++ row ∷ [] → more ≡ rows ++ cons_option (row_unless o row) []
one_added o rows more row is added = added ∙ ap (λ (x : Option Refusal). rows ++ cons_option (row_unless x row) []) is

-- one more of them
pub rows_more : (late : Bool) (p : Public) (cs : Columns) (rest : List Stmt) (j : ℕ) (d : Stmt) → j < length rest → (before rows more : List Row) → rows ≡ before ++ rows_in late p cs (take j rest)
    → more ≡ rows ++ rows_in late p cs (get_or rest j d ∷ []) → more ≡ before ++ rows_in late p cs (take (j + 1) rest)
rows_more late p cs rest j d inside before rows more so_far added =
    let last = rows_in late p cs (get_or rest j d ∷ []) in
    added
    ∙ ap (λ (l : List Row). l ++ last) so_far
    ∙ append_assoc before (rows_in late p cs (take j rest)) last
    ∙ ap (λ (l : List Row). before ++ l) (sym (filter_map-append (λ (stmt : Stmt). row_unless (refusal_by late p stmt) (row_of cs stmt)) (take j rest) (get_or rest j d ∷ [])))
    ∙ ap (λ (l : List Stmt). before ++ rows_in late p cs l) (sym (take_more rest j d inside))

-- and of how they are refused
pub refusals_more : (late : Bool) (p : Public) (rest : List Stmt) (j : ℕ) (d : Stmt) → j < length rest → (refusals more : List (Option Refusal)) (refusal : Option Refusal) → refusals ≡ map (refusal_by late p) (take j rest)
    → more ≡ refusals ++ refusal ∷ [] → refusal ≡ refusal_by late p (get_or rest j d) → more ≡ map (refusal_by late p) (take (j + 1) rest)
refusals_more late p rest j d inside refusals more refusal so_far added is = added ∙ (λ i. so_far i ++ (is i ∷ [])) ∙ sym (map_more (refusal_by late p) rest j d inside)

-- all of them
pub rows_all : (late : Bool) (p : Public) (cs : Columns) (rest : List Stmt) (j : ℕ) → length rest ≤ j → (before rows : List Row) → rows ≡ before ++ rows_in late p cs (take j rest) → rows ≡ before ++ rows_in late p cs rest
rows_all late p cs rest j past before rows so_far = so_far ∙ ap (λ (l : List Stmt). before ++ rows_in late p cs l) (take_all j rest past)

-- there are no more of them than INSERTs
pub rows_few : (late : Bool) (p : Public) (cs : Columns) (rest : List Stmt) → length (rows_in late p cs rest) ≤ length rest
rows_few late p cs [] = omega (arith)
rows_few late p cs (stmt ∷ stmts) = go (refusal_by late p stmt) (rows_few late p cs stmts)
  where
    go : (o : Option Refusal) → length (rows_in late p cs stmts) ≤ length stmts → length (cons_option (row_unless o (row_of cs stmt)) (rows_in late p cs stmts)) ≤ length (stmt ∷ stmts)
    go None few = omega (arith, few)
    go (Some r) few = omega (arith, few)

-- those of a batch are few
pub batch_few : (late : Bool) (p : Public) (cs : Columns) (rest : List Stmt) (row : Row) (rows one : List Row) → one ≡ row ∷ [] → rows ≡ one ++ rows_in late p cs rest → length rest < 65536 → length rows < 2 ^ 32
batch_few late p cs rest row rows one alone is few =
    let all = ap length is in
    let parts = length-append one (rows_in late p cs rest) in
    let first = ap length alone in
    let others = rows_few late p cs rest in
    omega (arith, all, parts, first, others, few)

-- ---- the outcomes
module _ (answers : List Inserted) (given : ℕ) where
  -- while there is an answer
  pub given_here : (x : Inserted) → given < length answers → x ≡ get_or answers given x → inserted_as x ≡ given_next None (drop given answers)
  given_here x inside is = ap inserted_as is ∙ ap (given_next None) (sym (drop_more answers given x inside))

  pub behind_here : (d : Inserted) → given < length answers → drop (given + 1) answers ≡ answers_behind None (drop given answers)
  behind_here d inside = ap (answers_behind None) (sym (drop_more answers given d inside))

  -- and once there is none
  pub given_none : length answers ≤ given → InsertedOut ≡ given_next None (drop given answers)
  given_none past = ap (given_next None) (sym (drop_all given answers past))

  pub behind_none : length answers ≤ given → drop given answers ≡ answers_behind None (drop given answers)
  behind_none past = drop_all given answers past ∙ ap (answers_behind None) (sym (drop_all given answers past))

-- an answer was given to the next, or not
pub one_given : (all : List Outcome) (answers : List Inserted) (given behind j : ℕ) (refusals : List (Option Refusal)) (outcomes : List Outcome) (o : Outcome) (d : Option Refusal) → j < length refusals → j < length outcomes
    → o ≡ given_next (get_or refusals j d) (drop given answers) → drop behind answers ≡ answers_behind (get_or refusals j d) (drop given answers)
    → all ≡ take j outcomes ++ given_all (drop given answers) (drop j refusals)
    → all ≡ take (j + 1) (slice_set outcomes j o) ++ given_all (drop behind answers) (drop (j + 1) refusals)
one_given all answers given behind j refusals outcomes o d inside within is next so_far =
    so_far
    ∙ ap (λ (l : List (Option Refusal)). take j outcomes ++ given_all (drop given answers) l) (drop_more refusals j d inside)
    ∙ (λ i. take j outcomes ++ (sym is i ∷ given_all (sym next i) (drop (j + 1) refusals)))
    ∙ sym (append_assoc (take j outcomes) (o ∷ []) (given_all (drop behind answers) (drop (j + 1) refusals)))
    ∙ ap (λ (l : List Outcome). l ++ given_all (drop behind answers) (drop (j + 1) refusals)) (sym (take_more_set outcomes j o within))

pub all_given_to : (all : List Outcome) (answers : List Inserted) (given j : ℕ) (refusals : List (Option Refusal)) (outcomes : List Outcome) → length refusals ≤ j → length outcomes ≤ j
    → all ≡ take j outcomes ++ given_all (drop given answers) (drop j refusals) → outcomes ≡ all
all_given_to all answers given j refusals outcomes past most so_far =
    sym (so_far ∙ ap (λ (l : List (Option Refusal)). take j outcomes ++ given_all (drop given answers) l) (drop_all j refusals past) ∙ append-nil (take j outcomes) ∙ take_all j outcomes most)

-- the next failed with the store
pub one_failed : (j : ℕ) (refusals : List (Option Refusal)) (outcomes : List Outcome) (o : Outcome) (d : Option Refusal) → j < length refusals → j < length outcomes → o ≡ failed_by (get_or refusals j d)
    → take j outcomes ≡ map failed_by (take j refusals) → take (j + 1) (slice_set outcomes j o) ≡ map failed_by (take (j + 1) refusals)
one_failed j refusals outcomes o d inside within is so_far = take_more_set outcomes j o within ∙ (λ i. so_far i ++ (is i ∷ [])) ∙ sym (map_more failed_by refusals j d inside)

pub all_failed_with : (j : ℕ) (refusals : List (Option Refusal)) (outcomes : List Outcome) → length refusals ≤ j → length outcomes ≤ j → take j outcomes ≡ map failed_by (take j refusals) → outcomes ≡ map failed_by refusals
all_failed_with j refusals outcomes past most so_far = sym (take_all j outcomes most) ∙ so_far ∙ ap (map failed_by) (take_all j refusals past)
