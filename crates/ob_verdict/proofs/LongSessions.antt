-- Longer sessions, computed.
use Rattle.std.proofs.Common.{◌≡◌, ℕ, zero, suc, List, [], ◌∷◌, ◌++◌, refl}
use Rattle.std.specs.Prelude.{Option, Some, None, Ok, codes, map}
use Rattle.ob_base.specs.declared.config.Public.{Public}
use Rattle.ob_base.specs.declared.config.Plan.{Plan}
use Rattle.ob_base.specs.declared.config.Plan.TheVariants.{Small, Large, Hash}
use Rattle.ob_base.specs.declared.config.Planner.TheVariants.{Auto, Cheapest, Forced}
use Rattle.ob_base.specs.declared.seen.End.TheVariants.{Whole}
use Rattle.ob_base.specs.declared.seen.Seen.{Seen}
use Rattle.ob_base.specs.declared.skeleton.Source.TheVariants.{Table as OneTable, Join}
use Rattle.ob_base.specs.Accesses.{makes}
use Rattle.ob_base.specs.declared.comparison.ComparisonOperator.TheVariants.{Equal, NotEqual, Greater, LessOrEqual}
use Rattle.ob_sql.specs.declared.stmt.Listed.TheVariants.{Column as ListedColumn, CountAll, Sum}
use Rattle.ob_sql.specs.declared.stmt.Stmt.TheVariants.{Create, Insert, Update, Delete, Drop as DropTable, SelectRows as RowsStmt, SelectTotals as TotalsStmt}
use Rattle.ob_sql.specs.Search.{Search, Or}
use Rattle.ob_mean.specs.declared.answer.Answer.{Answer}
use Rattle.ob_mean.specs.declared.answer.Answer.TheVariants.{Done, Changed, Rows}
use Rattle.ob_mean.specs.Replay.{Spelt, Session, after_all, all_served, first_session, seen_now}
use Rattle.ob_verdict.proofs.Sessions.{by_settings, id, v, col, of_table, int, compare, column, insert, answers_of, asked_by, ints}
use Rattle.ob_base.specs.declared.schema.Shape.TheVariants.{Flat}

abbrev g : List ℕ
g = codes "g"

abbrev h : List ℕ
h = codes "h"

abbrev from_g : Search → Spelt
from_g c = Ok (RowsStmt (record { list = None; source = OneTable g; cond = Some c }))

abbrev column_of_g : List ℕ → Search → Spelt
column_of_g x c = Ok (RowsStmt (record { list = Some (col x ∷ []); source = OneTable g; cond = Some c }))

-- the generated input of one row
abbrev generated : List Spelt
generated =
    Ok (Create g (column id 1 ∷ column v 0 ∷ []) 1 Flat) ∷ insert g 1 7
    ∷ from_g (compare v Equal 3) ∷ column_of_g id (compare id Greater 0) ∷ column_of_g v (compare v NotEqual 9)
    ∷ Ok (TotalsStmt (record { items = ListedColumn (col v) ∷ CountAll ∷ []; table = g; cond = None; group = Some (col v) }))
    ∷ Ok (Update g (record { column = v; value = int 10 } ∷ []) (Some (compare v Equal 1)))
    ∷ Ok (Delete g (Some (compare v Equal 2)))
    ∷ Ok (Create h (column (codes "k") 0 ∷ []) 4 Flat) ∷ Ok (Insert h None (int 1 ∷ []))
    ∷ Ok (RowsStmt (record { list = None; source = Join g h (of_table g id) (of_table h (codes "k")); cond = None }))
    ∷ Ok (TotalsStmt (record { items = CountAll ∷ Sum (col v) ∷ []; table = g; cond = None; group = None }))
    ∷ Ok (DropTable g) ∷ Ok (DropTable h) ∷ []

-- five rows in all
abbrev its_answers : List Answer
its_answers =
    Done ∷ Done ∷ Rows [] ∷ Rows (ints (1 ∷ []) ∷ []) ∷ Rows (ints (7 ∷ []) ∷ []) ∷ Rows (ints (7 ∷ 1 ∷ []) ∷ []) ∷ Changed 0 ∷ Changed 0 ∷ Done ∷ Done
    ∷ Rows (ints (1 ∷ 7 ∷ 1 ∷ []) ∷ []) ∷ Rows (ints (1 ∷ 7 ∷ []) ∷ []) ∷ Done ∷ Done ∷ []

generated_answers : answers_of (by_settings 64 5 1 Auto None) generated ≡ its_answers
unfolding makes
generated_answers = refl

generated_total : asked_by (by_settings 64 5 1 Auto None) generated ≡ 74
unfolding makes
generated_total = refl

-- with room for four rows, of which a pass buffers two
generated_answers_of_four : answers_of (by_settings 4 5 1 Auto None) generated ≡ its_answers
unfolding makes
generated_answers_of_four = refl

generated_total_of_four : asked_by (by_settings 4 5 1 Auto None) generated ≡ 74
unfolding makes
generated_total_of_four = refl

abbrev plans_of : Public → List Spelt → List (Option Plan)
plans_of p texts = map (λ s. s.seen.plan) (all_served (first_session p) texts [])

generated_plans_of_four : plans_of (by_settings 4 5 1 Auto None) generated ≡
    None ∷ None ∷ None ∷ Some Small ∷ Some Small ∷ None ∷ None ∷ None ∷ None ∷ None ∷ Some Small ∷ None ∷ None ∷ None ∷ []
unfolding makes
generated_plans_of_four = refl

generated_by_large : asked_by (by_settings 64 5 1 (Forced Large) None) generated ≡ 92
unfolding makes
generated_by_large = refl

generated_by_hash : asked_by (by_settings 64 5 1 (Forced Hash) None) generated ≡ 218
unfolding makes
generated_by_hash = refl

generated_in_pairs : asked_by (by_settings 64 5 2 Auto None) generated ≡ 58
unfolding makes
generated_in_pairs = refl

-- ---- Hash finds no bucket for a row, and Small is taken after it
abbrev c : List ℕ
c = codes "c"

abbrev inserts : ℕ → List Spelt
inserts zero = []
inserts (suc n) = inserts n ++ Ok (Insert c None (int (suc n) ∷ [])) ∷ []

abbrev thirteen : List Spelt
thirteen = Ok (Create c (column id 1 ∷ []) 13 Flat) ∷ inserts 13

abbrev nine_of_them : Spelt
nine_of_them = Ok (RowsStmt (record { list = None; source = OneTable c; cond = Some (Or (compare id LessOrEqual 8) (compare id Equal 10)) }))

abbrev seen_in : Session → Spelt → Option Seen
seen_in s (Ok stmt) = Some (seen_now s stmt)
seen_in s _ = None

fallback_seen : seen_in (after_all (first_session (by_settings 4 1 1 Auto None)) thirteen []) nine_of_them ≡ Some (record { k = Some 9; plan = Some Hash; then = Some Small; leaf = None; end = Whole })
unfolding makes
fallback_seen = refl

fallback_total : asked_by (by_settings 4 1 1 Auto None) (thirteen ++ nine_of_them ∷ []) ≡ 730
unfolding makes
fallback_total = refl

-- where the shortest script is taken, it is Large's: 67 accesses, and Small asks 85
cheapest_seen : seen_in (after_all (first_session (by_settings 4 1 1 Cheapest None)) thirteen []) nine_of_them ≡ Some (record { k = Some 9; plan = Some Large; then = None; leaf = None; end = Whole })
unfolding makes
cheapest_seen = refl

cheapest_total : asked_by (by_settings 4 1 1 Cheapest None) (thirteen ++ nine_of_them ∷ []) ≡ 627
unfolding makes
cheapest_total = refl
