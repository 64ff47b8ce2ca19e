-- Small sessions, computed: what they answer, what they ask, and what their results hold.
use Rattle.std.proofs.Common.{◌≡◌, ℕ, List, [], ◌∷◌, ◌++◌, refl}
use Rattle.std.specs.Prelude.{Some, None, Ok, Err, codes, pos, map, true, false}
use Rattle.ob_base.specs.declared.access.Access.{Access}
use Rattle.ob_base.specs.declared.access.Access.TheVariants.{Make, Read, Write, Discard}
use Rattle.ob_base.specs.declared.config.Public.{Public}
use Rattle.ob_base.specs.declared.config.Plan.TheVariants.{Small, Large, Continuous, Hash}
use Rattle.ob_base.specs.declared.config.Planner.TheVariants.{Auto, Cheapest, Forced}
use Rattle.ob_base.specs.declared.refusal.Refusal.TheVariants.{Syntax, Duplicate, Full, TooManyGroups, NotConsecutive, Overflow, NameTaken, NoColumn, WrongType, KeyRule, JoinKey, StoreFault, PadPassed}
use Rattle.ob_base.specs.declared.shown.Shown.TheVariants.{Int as I, Null}
use Rattle.ob_base.specs.declared.skeleton.ColumnName.{ColumnName}
use Rattle.ob_base.specs.declared.skeleton.Source.TheVariants.{Join}
use Rattle.ob_base.specs.Accesses.{makes}
use Rattle.ob_base.specs.Numbers.{first_bucket, second_bucket}
use Rattle.ob_base.specs.Plans.{choose, choose_padded}
use Rattle.ob_base.specs.declared.comparison.ComparisonOperator.TheVariants.{Equal, Less, GreaterOrEqual}
use Rattle.ob_sql.specs.declared.stmt.Listed.TheVariants.{Column as ListedColumn, CountAll, Sum, Min, Max}
use Rattle.ob_sql.specs.declared.stmt.Literal.TheVariants.{Text as TextLiteral}
use Rattle.ob_sql.specs.declared.stmt.Stmt.TheVariants.{Insert, Update, Delete, Drop as DropTable, SelectRows as RowsStmt}
use Rattle.ob_sql.specs.Search.{Search, Not, Or}
use Rattle.ob_mean.specs.declared.answer.Answer.TheVariants.{Done, Changed, Rows, Refused}
use Rattle.ob_mean.specs.Replay.{Alone, CutAfter, Spelt, first_session, answers}
use Rattle.ob_verdict.proofs.Sessions.{by_settings, t, u, id, v, col, of_table, int, compare, create_t, insert, four_rows, two_tables, select_where, select_columns, select_items, join_on, update_v, by_four, forced, in_pairs, trace_of, answers_of, asked_by, last_answers, last_trace, result_after, row_of, ints}
use Rattle.std.specs.Prelude.{Option}

abbrev count_all : Spelt
count_all = select_items (CountAll ∷ []) None None

abbrev count_v : ℕ → Spelt
count_v x = select_items (CountAll ∷ []) (Some (compare v Equal x)) None

abbrev by_v : Spelt
by_v = select_items (ListedColumn (col v) ∷ CountAll ∷ Sum (col id) ∷ []) None (Some (col v))

abbrev t_id : ColumnName
t_id = of_table t id

abbrev u_k : ColumnName
u_k = of_table u (codes "k")

abbrev join_all : Option (List ColumnName) → Option Search → Spelt
join_all xs c = join_on t_id u_k xs c

created : last_answers by_four [] (create_t ∷ []) ≡ Done ∷ []
unfolding makes
created = refl

created_trace : last_trace by_four [] (create_t ∷ []) ≡ Make 1 4 49 ∷ Write 1 0 ∷ Write 1 1 ∷ Write 1 2 ∷ Write 1 3 ∷ []
unfolding makes
created_trace = refl

created_total : asked_by by_four ([] ++ (create_t ∷ [])) ≡ 5
unfolding makes
created_total = refl

counted_after_insert : last_answers by_four [] (create_t ∷ insert t 1 10 ∷ count_all ∷ []) ≡ Done ∷ Done ∷ Rows (ints (1 ∷ []) ∷ []) ∷ []
unfolding makes
counted_after_insert = refl

counted_after_insert_trace : last_trace by_four [] (create_t ∷ insert t 1 10 ∷ count_all ∷ []) ≡ Make 1 4 49 ∷ Write 1 0 ∷ Write 1 1 ∷ Write 1 2 ∷ Write 1 3 ∷ Make 2 4 49 ∷ Read 1 0 ∷ Read 1 1 ∷ Read 1 2 ∷ Read 1 3 ∷ Read 1 0 ∷ Write 2 0 ∷ Read 1 1 ∷ Write 2 1 ∷ Read 1 2 ∷ Write 2 2 ∷ Read 1 3 ∷ Write 2 3 ∷ Discard 1 ∷ Read 2 0 ∷ Read 2 1 ∷ Read 2 2 ∷ Read 2 3 ∷ []
unfolding makes
counted_after_insert_trace = refl

counted_after_insert_total : asked_by by_four ([] ++ (create_t ∷ insert t 1 10 ∷ count_all ∷ [])) ≡ 23
unfolding makes
counted_after_insert_total = refl

duplicate : last_answers by_four (create_t ∷ []) (insert t 1 10 ∷ insert t 1 99 ∷ []) ≡ Done ∷ Refused Duplicate ∷ []
unfolding makes
duplicate = refl

duplicate_trace : last_trace by_four (create_t ∷ []) (insert t 1 10 ∷ insert t 1 99 ∷ []) ≡ Make 2 4 49 ∷ Read 1 0 ∷ Read 1 1 ∷ Read 1 2 ∷ Read 1 3 ∷ Read 1 0 ∷ Write 2 0 ∷ Read 1 1 ∷ Write 2 1 ∷ Read 1 2 ∷ Write 2 2 ∷ Read 1 3 ∷ Write 2 3 ∷ Discard 1 ∷ Make 3 4 49 ∷ Read 2 0 ∷ Read 2 1 ∷ Read 2 2 ∷ Read 2 3 ∷ Read 2 0 ∷ Write 3 0 ∷ Read 2 1 ∷ Write 3 1 ∷ Read 2 2 ∷ Write 3 2 ∷ Read 2 3 ∷ Write 3 3 ∷ Discard 2 ∷ []
unfolding makes
duplicate_trace = refl

duplicate_total : asked_by by_four ((create_t ∷ []) ++ (insert t 1 10 ∷ insert t 1 99 ∷ [])) ≡ 33
unfolding makes
duplicate_total = refl

full : last_answers by_four four_rows (insert t 5 50 ∷ insert t 1 50 ∷ []) ≡ Refused Full ∷ Refused Duplicate ∷ []
unfolding makes
full = refl

full_trace : last_trace by_four four_rows (insert t 5 50 ∷ insert t 1 50 ∷ []) ≡ Make 6 4 49 ∷ Read 5 0 ∷ Read 5 1 ∷ Read 5 2 ∷ Read 5 3 ∷ Read 5 0 ∷ Write 6 0 ∷ Read 5 1 ∷ Write 6 1 ∷ Read 5 2 ∷ Write 6 2 ∷ Read 5 3 ∷ Write 6 3 ∷ Discard 5 ∷ Make 7 4 49 ∷ Read 6 0 ∷ Read 6 1 ∷ Read 6 2 ∷ Read 6 3 ∷ Read 6 0 ∷ Write 7 0 ∷ Read 6 1 ∷ Write 7 1 ∷ Read 6 2 ∷ Write 7 2 ∷ Read 6 3 ∷ Write 7 3 ∷ Discard 6 ∷ []
unfolding makes
full_trace = refl

full_total : asked_by by_four (four_rows ++ (insert t 5 50 ∷ insert t 1 50 ∷ [])) ≡ 89
unfolding makes
full_total = refl

none_selected : last_answers by_four four_rows (select_where (Some (compare v Equal 99)) ∷ []) ≡ Rows [] ∷ []
unfolding makes
none_selected = refl

none_selected_trace : last_trace by_four four_rows (select_where (Some (compare v Equal 99)) ∷ []) ≡ Read 5 0 ∷ Read 5 1 ∷ Read 5 2 ∷ Read 5 3 ∷ []
unfolding makes
none_selected_trace = refl

none_selected_total : asked_by by_four (four_rows ++ (select_where (Some (compare v Equal 99)) ∷ [])) ≡ 65
unfolding makes
none_selected_total = refl

small : last_answers by_four four_rows (select_where (Some (compare v Equal 10)) ∷ []) ≡ Rows (ints (1 ∷ 10 ∷ []) ∷ ints (3 ∷ 10 ∷ []) ∷ []) ∷ []
unfolding makes
small = refl

small_trace : last_trace by_four four_rows (select_where (Some (compare v Equal 10)) ∷ []) ≡ Read 5 0 ∷ Read 5 1 ∷ Read 5 2 ∷ Read 5 3 ∷ Make 6 2 49 ∷ Read 5 0 ∷ Read 5 1 ∷ Read 5 2 ∷ Read 5 3 ∷ Write 6 0 ∷ Write 6 1 ∷ Read 6 0 ∷ Read 6 1 ∷ Discard 6 ∷ []
unfolding makes
small_trace = refl

small_total : asked_by by_four (four_rows ++ (select_where (Some (compare v Equal 10)) ∷ [])) ≡ 75
unfolding makes
small_total = refl

small_result : result_after by_four four_rows (select_where (Some (compare v Equal 10))) ≡ Some (row_of 1 10) ∷ Some (row_of 3 10) ∷ []
unfolding makes
small_result = refl

small_of_other_rows : last_answers by_four four_rows (select_where (Some (compare v Equal 20)) ∷ []) ≡ Rows (ints (2 ∷ 20 ∷ []) ∷ ints (4 ∷ 20 ∷ []) ∷ []) ∷ []
unfolding makes
small_of_other_rows = refl

small_of_other_rows_total : asked_by by_four (four_rows ++ (select_where (Some (compare v Equal 20)) ∷ [])) ≡ 75
unfolding makes
small_of_other_rows_total = refl

small_in_passes : last_answers by_four four_rows (select_where None ∷ []) ≡ Rows (ints (1 ∷ 10 ∷ []) ∷ ints (2 ∷ 20 ∷ []) ∷ ints (3 ∷ 10 ∷ []) ∷ ints (4 ∷ 20 ∷ []) ∷ []) ∷ []
unfolding makes
small_in_passes = refl

small_in_passes_trace : last_trace by_four four_rows (select_where None ∷ []) ≡ Read 5 0 ∷ Read 5 1 ∷ Read 5 2 ∷ Read 5 3 ∷ Make 6 4 49 ∷ Read 5 0 ∷ Read 5 1 ∷ Read 5 2 ∷ Read 5 3 ∷ Write 6 0 ∷ Write 6 1 ∷ Read 5 0 ∷ Read 5 1 ∷ Read 5 2 ∷ Read 5 3 ∷ Write 6 2 ∷ Write 6 3 ∷ Read 6 0 ∷ Read 6 1 ∷ Read 6 2 ∷ Read 6 3 ∷ Discard 6 ∷ []
unfolding makes
small_in_passes_trace = refl

small_in_passes_total : asked_by by_four (four_rows ++ (select_where None ∷ [])) ≡ 83
unfolding makes
small_in_passes_total = refl

small_in_passes_result : result_after by_four four_rows (select_where None) ≡ Some (row_of 1 10) ∷ Some (row_of 2 20) ∷ Some (row_of 3 10) ∷ Some (row_of 4 20) ∷ []
unfolding makes
small_in_passes_result = refl

large : last_answers (forced Large 5) four_rows (select_where (Some (compare v Equal 10)) ∷ []) ≡ Rows (ints (1 ∷ 10 ∷ []) ∷ ints (3 ∷ 10 ∷ []) ∷ []) ∷ []
unfolding makes
large = refl

large_trace : last_trace (forced Large 5) four_rows (select_where (Some (compare v Equal 10)) ∷ []) ≡ Read 5 0 ∷ Read 5 1 ∷ Read 5 2 ∷ Read 5 3 ∷ Make 6 4 49 ∷ Read 5 0 ∷ Write 6 0 ∷ Read 5 1 ∷ Write 6 1 ∷ Read 5 2 ∷ Write 6 2 ∷ Read 5 3 ∷ Write 6 3 ∷ Read 6 0 ∷ Write 6 0 ∷ Read 6 1 ∷ Write 6 1 ∷ Read 6 2 ∷ Write 6 2 ∷ Read 6 3 ∷ Write 6 3 ∷ Read 6 0 ∷ Read 6 1 ∷ Read 6 2 ∷ Read 6 3 ∷ Discard 6 ∷ []
unfolding makes
large_trace = refl

large_total : asked_by (forced Large 5) (four_rows ++ (select_where (Some (compare v Equal 10)) ∷ [])) ≡ 87
unfolding makes
large_total = refl

large_result : result_after (forced Large 5) four_rows (select_where (Some (compare v Equal 10))) ≡ Some (row_of 1 10) ∷ None ∷ Some (row_of 3 10) ∷ None ∷ []
unfolding makes
large_result = refl

-- results padded to two rows: the count and the result of two, whatever is selected
abbrev padded : Public
padded = by_settings 4 5 1 Auto (Some 2)

-- of a table of four slots with three rows
abbrev three_rows : List Spelt
three_rows = create_t ∷ insert t 1 10 ∷ insert t 2 20 ∷ insert t 3 10 ∷ []

abbrev padded_script : List Access
padded_script = Read 4 0 ∷ Read 4 1 ∷ Read 4 2 ∷ Read 4 3 ∷ Make 5 2 49 ∷ Read 4 0 ∷ Read 4 1 ∷ Read 4 2 ∷ Read 4 3 ∷ Write 5 0 ∷ Write 5 1 ∷ Read 5 0 ∷ Read 5 1 ∷ Discard 5 ∷ []

padded_none : last_answers padded three_rows (select_where (Some (compare v Equal 99)) ∷ []) ≡ Rows [] ∷ []
unfolding makes
padded_none = refl

padded_none_trace : last_trace padded three_rows (select_where (Some (compare v Equal 99)) ∷ []) ≡ padded_script
unfolding makes
padded_none_trace = refl

padded_two : last_answers padded three_rows (select_where (Some (compare v Equal 10)) ∷ []) ≡ Rows (ints (1 ∷ 10 ∷ []) ∷ ints (3 ∷ 10 ∷ []) ∷ []) ∷ []
unfolding makes
padded_two = refl

padded_two_trace : last_trace padded three_rows (select_where (Some (compare v Equal 10)) ∷ []) ≡ padded_script
unfolding makes
padded_two_trace = refl

padded_two_result : result_after padded three_rows (select_where (Some (compare v Equal 10))) ≡ Some (row_of 1 10) ∷ Some (row_of 3 10) ∷ []
unfolding makes
padded_two_result = refl

padded_passed : last_answers padded three_rows (select_where None ∷ []) ≡ Refused PadPassed ∷ []
unfolding makes
padded_passed = refl

padded_passed_trace : last_trace padded three_rows (select_where None ∷ []) ≡ padded_script
unfolding makes
padded_passed_trace = refl

-- forced Large, of all slots
padded_large_trace : last_trace (by_settings 4 5 1 (Forced Large) (Some 2)) three_rows (select_where (Some (compare v Equal 99)) ∷ []) ≡ Read 4 0 ∷ Read 4 1 ∷ Read 4 2 ∷ Read 4 3 ∷ Make 5 4 49 ∷ Read 4 0 ∷ Write 5 0 ∷ Read 4 1 ∷ Write 5 1 ∷ Read 4 2 ∷ Write 5 2 ∷ Read 4 3 ∷ Write 5 3 ∷ Read 5 0 ∷ Write 5 0 ∷ Read 5 1 ∷ Write 5 1 ∷ Read 5 2 ∷ Write 5 2 ∷ Read 5 3 ∷ Write 5 3 ∷ Read 5 0 ∷ Read 5 1 ∷ Read 5 2 ∷ Read 5 3 ∷ Discard 5 ∷ []
unfolding makes
padded_large_trace = refl

continuous_trace : last_trace (forced Continuous 5) four_rows (select_where (Some (compare id GreaterOrEqual 2)) ∷ []) ≡ Read 5 0 ∷ Read 5 1 ∷ Read 5 2 ∷ Read 5 3 ∷ Make 6 3 49 ∷ Write 6 0 ∷ Write 6 1 ∷ Write 6 2 ∷ Read 5 0 ∷ Read 6 0 ∷ Write 6 0 ∷ Read 5 1 ∷ Read 6 1 ∷ Write 6 1 ∷ Read 5 2 ∷ Read 6 2 ∷ Write 6 2 ∷ Read 5 3 ∷ Read 6 0 ∷ Write 6 0 ∷ Read 6 0 ∷ Read 6 1 ∷ Read 6 2 ∷ Discard 6 ∷ []
unfolding makes
continuous_trace = refl

continuous_total : asked_by (forced Continuous 5) (four_rows ++ (select_where (Some (compare id GreaterOrEqual 2)) ∷ [])) ≡ 85
unfolding makes
continuous_total = refl

continuous_result : result_after (forced Continuous 5) four_rows (select_where (Some (compare id GreaterOrEqual 2))) ≡ Some (row_of 4 20) ∷ Some (row_of 2 20) ∷ Some (row_of 3 10) ∷ []
unfolding makes
continuous_result = refl

not_consecutive : last_answers (forced Continuous 5) four_rows (select_where (Some (compare v Equal 10)) ∷ []) ≡ Refused NotConsecutive ∷ []
unfolding makes
not_consecutive = refl

not_consecutive_trace : last_trace (forced Continuous 5) four_rows (select_where (Some (compare v Equal 10)) ∷ []) ≡ Read 5 0 ∷ Read 5 1 ∷ Read 5 2 ∷ Read 5 3 ∷ []
unfolding makes
not_consecutive_trace = refl

not_consecutive_total : asked_by (forced Continuous 5) (four_rows ++ (select_where (Some (compare v Equal 10)) ∷ [])) ≡ 65
unfolding makes
not_consecutive_total = refl

overflow : last_answers (forced Hash 1) four_rows (select_where (Some (compare v Equal 10)) ∷ []) ≡ Refused (Overflow 2) ∷ []
unfolding makes
overflow = refl

overflow_trace : last_trace (forced Hash 1) four_rows (select_where (Some (compare v Equal 10)) ∷ []) ≡ Read 5 0 ∷ Read 5 1 ∷ Read 5 2 ∷ Read 5 3 ∷ Make 6 2 49 ∷ Write 6 0 ∷ Write 6 1 ∷ Read 5 0 ∷ Read 6 0 ∷ Write 6 0 ∷ Read 6 0 ∷ Write 6 0 ∷ Read 5 1 ∷ Read 6 1 ∷ Write 6 1 ∷ Read 6 1 ∷ Write 6 1 ∷ Read 5 2 ∷ Read 6 0 ∷ Write 6 0 ∷ Read 6 0 ∷ Write 6 0 ∷ Read 5 3 ∷ Read 6 1 ∷ Write 6 1 ∷ Read 6 1 ∷ Write 6 1 ∷ Read 6 0 ∷ Read 6 1 ∷ Discard 6 ∷ []
unfolding makes
overflow_trace = refl

overflow_total : asked_by (forced Hash 1) (four_rows ++ (select_where (Some (compare v Equal 10)) ∷ [])) ≡ 91
unfolding makes
overflow_total = refl

hash_total : asked_by (forced Hash 1) (four_rows ++ (select_where (Some (Or (compare id Equal 2) (compare id Equal 3))) ∷ [])) ≡ 91
unfolding makes
hash_total = refl

hash_result : result_after (forced Hash 1) four_rows (select_where (Some (Or (compare id Equal 2) (compare id Equal 3)))) ≡ Some (row_of 3 10) ∷ Some (row_of 2 20) ∷ []
unfolding makes
hash_result = refl

groups : last_answers by_four four_rows (by_v ∷ []) ≡ Rows (ints (10 ∷ 2 ∷ 4 ∷ []) ∷ ints (20 ∷ 2 ∷ 6 ∷ []) ∷ []) ∷ []
unfolding makes
groups = refl

groups_trace : last_trace by_four four_rows (by_v ∷ []) ≡ Read 5 0 ∷ Read 5 1 ∷ Read 5 2 ∷ Read 5 3 ∷ []
unfolding makes
groups_trace = refl

groups_total : asked_by by_four (four_rows ++ (by_v ∷ [])) ≡ 65
unfolding makes
groups_total = refl

too_many_groups : last_answers by_four four_rows (update_v 30 (Some (compare id Equal 4)) ∷ by_v ∷ []) ≡ Changed 1 ∷ Refused TooManyGroups ∷ []
unfolding makes
too_many_groups = refl

too_many_groups_trace : last_trace by_four four_rows (update_v 30 (Some (compare id Equal 4)) ∷ by_v ∷ []) ≡ Make 6 4 49 ∷ Read 5 0 ∷ Write 6 0 ∷ Read 5 1 ∷ Write 6 1 ∷ Read 5 2 ∷ Write 6 2 ∷ Read 5 3 ∷ Write 6 3 ∷ Discard 5 ∷ Read 6 0 ∷ Read 6 1 ∷ Read 6 2 ∷ Read 6 3 ∷ []
unfolding makes
too_many_groups_trace = refl

too_many_groups_total : asked_by by_four (four_rows ++ (update_v 30 (Some (compare id Equal 4)) ∷ by_v ∷ [])) ≡ 75
unfolding makes
too_many_groups_total = refl

groups_in_larger_buffer : last_answers (by_settings 5 5 1 Auto None) four_rows (update_v 30 (Some (compare id Equal 4)) ∷ by_v ∷ []) ≡ Changed 1 ∷ Rows (ints (10 ∷ 2 ∷ 4 ∷ []) ∷ ints (20 ∷ 1 ∷ 2 ∷ []) ∷ ints (30 ∷ 1 ∷ 4 ∷ []) ∷ []) ∷ []
unfolding makes
groups_in_larger_buffer = refl

groups_in_larger_buffer_total : asked_by (by_settings 5 5 1 Auto None) (four_rows ++ (update_v 30 (Some (compare id Equal 4)) ∷ by_v ∷ [])) ≡ 75
unfolding makes
groups_in_larger_buffer_total = refl

pairs : last_answers by_four two_tables (join_all None None ∷ []) ≡ Rows (ints (1 ∷ 10 ∷ 1 ∷ 7 ∷ []) ∷ ints (1 ∷ 10 ∷ 1 ∷ 8 ∷ []) ∷ []) ∷ []
unfolding makes
pairs = refl

pairs_trace : last_trace by_four two_tables (join_all None None ∷ []) ≡ Make 9 6 65 ∷ Read 5 0 ∷ Read 5 1 ∷ Read 8 0 ∷ Write 9 0 ∷ Read 8 1 ∷ Write 9 1 ∷ Read 8 2 ∷ Write 9 2 ∷ Read 5 2 ∷ Read 5 3 ∷ Read 8 0 ∷ Write 9 3 ∷ Read 8 1 ∷ Write 9 4 ∷ Read 8 2 ∷ Write 9 5 ∷ Read 9 0 ∷ Read 9 1 ∷ Read 9 2 ∷ Read 9 3 ∷ Read 9 4 ∷ Read 9 5 ∷ Make 10 2 65 ∷ Read 9 0 ∷ Read 9 1 ∷ Read 9 2 ∷ Read 9 3 ∷ Read 9 4 ∷ Read 9 5 ∷ Write 10 0 ∷ Write 10 1 ∷ Read 10 0 ∷ Read 10 1 ∷ Discard 10 ∷ Discard 9 ∷ []
unfolding makes
pairs_trace = refl

pairs_total : asked_by by_four (two_tables ++ (join_all None None ∷ [])) ≡ 123
unfolding makes
pairs_total = refl

pairs_in_order : last_answers by_four two_tables (join_all (Some (col (codes "w") ∷ col id ∷ [])) None ∷ []) ≡ Rows (ints (7 ∷ 1 ∷ []) ∷ ints (8 ∷ 1 ∷ []) ∷ []) ∷ []
unfolding makes
pairs_in_order = refl

pairs_in_order_total : asked_by by_four (two_tables ++ (join_all (Some (col (codes "w") ∷ col id ∷ [])) None ∷ [])) ≡ 123
unfolding makes
pairs_in_order_total = refl

totals_of_nothing : last_answers by_four (create_t ∷ []) (select_items (CountAll ∷ Sum (col v) ∷ Min (col v) ∷ Max (col v) ∷ []) None None ∷ []) ≡ Rows ((I (pos 0) ∷ Null ∷ Null ∷ Null ∷ []) ∷ []) ∷ []
unfolding makes
totals_of_nothing = refl

totals_of_nothing_trace : last_trace by_four (create_t ∷ []) (select_items (CountAll ∷ Sum (col v) ∷ Min (col v) ∷ Max (col v) ∷ []) None None ∷ []) ≡ Read 1 0 ∷ Read 1 1 ∷ Read 1 2 ∷ Read 1 3 ∷ []
unfolding makes
totals_of_nothing_trace = refl

totals_of_nothing_total : asked_by by_four ((create_t ∷ []) ++ (select_items (CountAll ∷ Sum (col v) ∷ Min (col v) ∷ Max (col v) ∷ []) None None ∷ [])) ≡ 9
unfolding makes
totals_of_nothing_total = refl

deleted_slot_filled_trace : last_trace by_four four_rows (Ok (Delete t (Some (compare v Equal 10))) ∷ insert t 5 50 ∷ select_where None ∷ []) ≡ Make 6 4 49 ∷ Read 5 0 ∷ Write 6 0 ∷ Read 5 1 ∷ Write 6 1 ∷ Read 5 2 ∷ Write 6 2 ∷ Read 5 3 ∷ Write 6 3 ∷ Discard 5 ∷ Make 7 4 49 ∷ Read 6 0 ∷ Read 6 1 ∷ Read 6 2 ∷ Read 6 3 ∷ Read 6 0 ∷ Write 7 0 ∷ Read 6 1 ∷ Write 7 1 ∷ Read 6 2 ∷ Write 7 2 ∷ Read 6 3 ∷ Write 7 3 ∷ Discard 6 ∷ Read 7 0 ∷ Read 7 1 ∷ Read 7 2 ∷ Read 7 3 ∷ Make 8 3 49 ∷ Read 7 0 ∷ Read 7 1 ∷ Read 7 2 ∷ Read 7 3 ∷ Write 8 0 ∷ Write 8 1 ∷ Read 7 0 ∷ Read 7 1 ∷ Read 7 2 ∷ Read 7 3 ∷ Write 8 2 ∷ Read 8 0 ∷ Read 8 1 ∷ Read 8 2 ∷ Discard 8 ∷ []
unfolding makes
deleted_slot_filled_trace = refl

deleted_slot_filled_total : asked_by by_four (four_rows ++ (Ok (Delete t (Some (compare v Equal 10))) ∷ insert t 5 50 ∷ select_where None ∷ [])) ≡ 105
unfolding makes
deleted_slot_filled_total = refl

deleted_slot_filled_result : result_after by_four (four_rows ++ Ok (Delete t (Some (compare v Equal 10))) ∷ insert t 5 50 ∷ []) (select_where None) ≡ Some (row_of 5 50) ∷ Some (row_of 2 20) ∷ Some (row_of 4 20) ∷ []
unfolding makes
deleted_slot_filled_result = refl

created_anew : answers_of by_four (create_t ∷ insert t 1 10 ∷ Ok (DropTable t) ∷ create_t ∷ count_all ∷ []) ≡ Done ∷ Done ∷ Done ∷ Done ∷ Rows (ints (0 ∷ []) ∷ []) ∷ []
unfolding makes
created_anew = refl

created_anew_total : asked_by by_four (create_t ∷ insert t 1 10 ∷ Ok (DropTable t) ∷ create_t ∷ count_all ∷ []) ≡ 29
unfolding makes
created_anew_total = refl

pairs_selected : last_answers by_four two_tables (join_on u_k t_id None (Some (compare (codes "w") Equal 8)) ∷ []) ≡ Rows (ints (1 ∷ 10 ∷ 1 ∷ 8 ∷ []) ∷ []) ∷ []
unfolding makes
pairs_selected = refl

pairs_selected_trace : last_trace by_four two_tables (join_on u_k t_id None (Some (compare (codes "w") Equal 8)) ∷ []) ≡ Make 9 6 65 ∷ Read 5 0 ∷ Read 5 1 ∷ Read 8 0 ∷ Write 9 0 ∷ Read 8 1 ∷ Write 9 1 ∷ Read 8 2 ∷ Write 9 2 ∷ Read 5 2 ∷ Read 5 3 ∷ Read 8 0 ∷ Write 9 3 ∷ Read 8 1 ∷ Write 9 4 ∷ Read 8 2 ∷ Write 9 5 ∷ Read 9 0 ∷ Read 9 1 ∷ Read 9 2 ∷ Read 9 3 ∷ Read 9 4 ∷ Read 9 5 ∷ Make 10 1 65 ∷ Read 9 0 ∷ Read 9 1 ∷ Read 9 2 ∷ Read 9 3 ∷ Read 9 4 ∷ Read 9 5 ∷ Write 10 0 ∷ Read 10 0 ∷ Discard 10 ∷ Discard 9 ∷ []
unfolding makes
pairs_selected_trace = refl

pairs_selected_total : asked_by by_four (two_tables ++ (join_on u_k t_id None (Some (compare (codes "w") Equal 8)) ∷ [])) ≡ 121
unfolding makes
pairs_selected_total = refl

updated : last_answers by_four four_rows (update_v 5 (Some (Not (Or (compare id Less 3) (compare v Equal 20)))) ∷ count_v 5 ∷ []) ≡ Changed 1 ∷ Rows (ints (1 ∷ []) ∷ []) ∷ []
unfolding makes
updated = refl

updated_trace : last_trace by_four four_rows (update_v 5 (Some (Not (Or (compare id Less 3) (compare v Equal 20)))) ∷ count_v 5 ∷ []) ≡ Make 6 4 49 ∷ Read 5 0 ∷ Write 6 0 ∷ Read 5 1 ∷ Write 6 1 ∷ Read 5 2 ∷ Write 6 2 ∷ Read 5 3 ∷ Write 6 3 ∷ Discard 5 ∷ Read 6 0 ∷ Read 6 1 ∷ Read 6 2 ∷ Read 6 3 ∷ []
unfolding makes
updated_trace = refl

updated_total : asked_by by_four (four_rows ++ (update_v 5 (Some (Not (Or (compare id Less 3) (compare v Equal 20)))) ∷ count_v 5 ∷ [])) ≡ 75
unfolding makes
updated_total = refl

deleted : last_answers by_four four_rows (Ok (Delete t (Some (compare v Equal 10))) ∷ count_all ∷ []) ≡ Changed 2 ∷ Rows (ints (2 ∷ []) ∷ []) ∷ []
unfolding makes
deleted = refl

deleted_total : asked_by by_four (four_rows ++ (Ok (Delete t (Some (compare v Equal 10))) ∷ count_all ∷ [])) ≡ 75
unfolding makes
deleted_total = refl

created_in_pairs_trace : last_trace (in_pairs Auto 5) [] (create_t ∷ []) ≡ Make 1 2 66 ∷ Write 1 0 ∷ Write 1 1 ∷ []
unfolding makes
created_in_pairs_trace = refl

created_in_pairs_total : asked_by (in_pairs Auto 5) ([] ++ (create_t ∷ [])) ≡ 3
unfolding makes
created_in_pairs_total = refl

inserted_in_pairs : last_answers (in_pairs Auto 5) [] (create_t ∷ insert t 1 10 ∷ count_all ∷ []) ≡ Done ∷ Done ∷ Rows (ints (1 ∷ []) ∷ []) ∷ []
unfolding makes
inserted_in_pairs = refl

inserted_in_pairs_trace : last_trace (in_pairs Auto 5) [] (create_t ∷ insert t 1 10 ∷ count_all ∷ []) ≡ Make 1 2 66 ∷ Write 1 0 ∷ Write 1 1 ∷ Make 2 2 66 ∷ Read 1 0 ∷ Read 1 1 ∷ Read 1 0 ∷ Write 2 0 ∷ Read 1 1 ∷ Write 2 1 ∷ Discard 1 ∷ Read 2 0 ∷ Read 2 1 ∷ []
unfolding makes
inserted_in_pairs_trace = refl

inserted_in_pairs_total : asked_by (in_pairs Auto 5) ([] ++ (create_t ∷ insert t 1 10 ∷ count_all ∷ [])) ≡ 13
unfolding makes
inserted_in_pairs_total = refl

small_in_pairs : last_answers (in_pairs Auto 5) four_rows (select_where (Some (compare v Equal 10)) ∷ []) ≡ Rows (ints (1 ∷ 10 ∷ []) ∷ ints (3 ∷ 10 ∷ []) ∷ []) ∷ []
unfolding makes
small_in_pairs = refl

small_in_pairs_trace : last_trace (in_pairs Auto 5) four_rows (select_where (Some (compare v Equal 10)) ∷ []) ≡ Read 5 0 ∷ Read 5 1 ∷ Make 6 1 66 ∷ Read 5 0 ∷ Read 5 1 ∷ Write 6 0 ∷ Read 6 0 ∷ Discard 6 ∷ []
unfolding makes
small_in_pairs_trace = refl

small_in_pairs_total : asked_by (in_pairs Auto 5) (four_rows ++ (select_where (Some (compare v Equal 10)) ∷ [])) ≡ 43
unfolding makes
small_in_pairs_total = refl

small_in_pairs_result : result_after (in_pairs Auto 5) four_rows (select_where (Some (compare v Equal 10))) ≡ Some (row_of 1 10) ∷ Some (row_of 3 10) ∷ []
unfolding makes
small_in_pairs_result = refl

pairs_in_pairs : last_answers (in_pairs Auto 5) two_tables (join_all None None ∷ []) ≡ Rows (ints (1 ∷ 10 ∷ 1 ∷ 7 ∷ []) ∷ ints (1 ∷ 10 ∷ 1 ∷ 8 ∷ []) ∷ []) ∷ []
unfolding makes
pairs_in_pairs = refl

pairs_in_pairs_trace : last_trace (in_pairs Auto 5) two_tables (join_all None None ∷ []) ≡ Make 9 4 98 ∷ Read 5 0 ∷ Read 8 0 ∷ Write 9 0 ∷ Read 8 1 ∷ Write 9 1 ∷ Read 5 1 ∷ Read 8 0 ∷ Write 9 2 ∷ Read 8 1 ∷ Write 9 3 ∷ Read 9 0 ∷ Read 9 1 ∷ Read 9 2 ∷ Read 9 3 ∷ Make 10 1 98 ∷ Read 9 0 ∷ Read 9 1 ∷ Read 9 2 ∷ Read 9 3 ∷ Write 10 0 ∷ Read 10 0 ∷ Discard 10 ∷ Discard 9 ∷ []
unfolding makes
pairs_in_pairs_trace = refl

pairs_in_pairs_total : asked_by (in_pairs Auto 5) (two_tables ++ (join_all None None ∷ [])) ≡ 78
unfolding makes
pairs_in_pairs_total = refl

continuous_in_pairs_trace : last_trace (in_pairs (Forced Continuous) 5) four_rows (select_where (Some (compare id GreaterOrEqual 2)) ∷ []) ≡ Read 5 0 ∷ Read 5 1 ∷ Make 6 2 66 ∷ Write 6 0 ∷ Write 6 1 ∷ Read 5 0 ∷ Read 6 0 ∷ Write 6 0 ∷ Read 6 0 ∷ Write 6 0 ∷ Read 5 1 ∷ Read 6 1 ∷ Write 6 1 ∷ Read 6 0 ∷ Write 6 0 ∷ Read 6 0 ∷ Read 6 1 ∷ Discard 6 ∷ []
unfolding makes
continuous_in_pairs_trace = refl

continuous_in_pairs_total : asked_by (in_pairs (Forced Continuous) 5) (four_rows ++ (select_where (Some (compare id GreaterOrEqual 2)) ∷ [])) ≡ 53
unfolding makes
continuous_in_pairs_total = refl

continuous_in_pairs_result : result_after (in_pairs (Forced Continuous) 5) four_rows (select_where (Some (compare id GreaterOrEqual 2))) ≡ Some (row_of 4 20) ∷ Some (row_of 2 20) ∷ Some (row_of 3 10) ∷ []
unfolding makes
continuous_in_pairs_result = refl

hash_in_pairs : last_answers (in_pairs (Forced Hash) 1) four_rows (select_where (Some (compare v Equal 10)) ∷ []) ≡ Rows (ints (1 ∷ 10 ∷ []) ∷ ints (3 ∷ 10 ∷ []) ∷ []) ∷ []
unfolding makes
hash_in_pairs = refl

hash_in_pairs_trace : last_trace (in_pairs (Forced Hash) 1) four_rows (select_where (Some (compare v Equal 10)) ∷ []) ≡ Read 5 0 ∷ Read 5 1 ∷ Make 6 2 66 ∷ Write 6 0 ∷ Write 6 1 ∷ Read 5 0 ∷ Read 6 0 ∷ Write 6 0 ∷ Read 6 0 ∷ Write 6 0 ∷ Read 6 1 ∷ Write 6 1 ∷ Read 6 1 ∷ Write 6 1 ∷ Read 5 1 ∷ Read 6 0 ∷ Write 6 0 ∷ Read 6 0 ∷ Write 6 0 ∷ Read 6 1 ∷ Write 6 1 ∷ Read 6 1 ∷ Write 6 1 ∷ Read 6 0 ∷ Read 6 1 ∷ Discard 6 ∷ []
unfolding makes
hash_in_pairs_trace = refl

hash_in_pairs_total : asked_by (in_pairs (Forced Hash) 1) (four_rows ++ (select_where (Some (compare v Equal 10)) ∷ [])) ≡ 61
unfolding makes
hash_in_pairs_total = refl

hash_in_pairs_result : result_after (in_pairs (Forced Hash) 1) four_rows (select_where (Some (compare v Equal 10))) ≡ Some (row_of 1 10) ∷ Some (row_of 3 10) ∷ None ∷ None ∷ []
unfolding makes
hash_in_pairs_result = refl

large_in_pairs : last_answers (in_pairs (Forced Large) 5) four_rows (select_where (Some (compare v Equal 10)) ∷ []) ≡ Rows (ints (1 ∷ 10 ∷ []) ∷ ints (3 ∷ 10 ∷ []) ∷ []) ∷ []
unfolding makes
large_in_pairs = refl

large_in_pairs_trace : last_trace (in_pairs (Forced Large) 5) four_rows (select_where (Some (compare v Equal 10)) ∷ []) ≡ Read 5 0 ∷ Read 5 1 ∷ Make 6 2 66 ∷ Read 5 0 ∷ Write 6 0 ∷ Read 5 1 ∷ Write 6 1 ∷ Read 6 0 ∷ Write 6 0 ∷ Read 6 1 ∷ Write 6 1 ∷ Read 6 0 ∷ Read 6 1 ∷ Discard 6 ∷ []
unfolding makes
large_in_pairs_trace = refl

large_in_pairs_total : asked_by (in_pairs (Forced Large) 5) (four_rows ++ (select_where (Some (compare v Equal 10)) ∷ [])) ≡ 49
unfolding makes
large_in_pairs_total = refl

large_in_pairs_result : result_after (in_pairs (Forced Large) 5) four_rows (select_where (Some (compare v Equal 10))) ≡ Some (row_of 1 10) ∷ None ∷ Some (row_of 3 10) ∷ None ∷ []
unfolding makes
large_in_pairs_result = refl

-- the buckets of two
buckets_of_two : (map (first_bucket 2) (0 ∷ 1 ∷ 2 ∷ 3 ∷ []) ≡ 0 ∷ 1 ∷ 0 ∷ 1 ∷ []) × (map (second_bucket 2) (0 ∷ 1 ∷ 2 ∷ 3 ∷ []) ≡ 0 ∷ 1 ∷ 0 ∷ 1 ∷ [])
buckets_of_two = (refl, refl)

chosen : (choose Auto 1 4 10 8 true ≡ Small) × (choose Auto 1 4 10 9 true ≡ Continuous) × (choose Auto 1 4 10 9 false ≡ Large) × (choose Auto 1 4 100 9 false ≡ Hash)
chosen = (refl, refl, refl, refl)

-- by the lengths of scripts: for 6 of 10 rows Small's 44 accesses are Continuous's, too, and for 10 Large's 52 are
cheapest : (choose Cheapest 1 4 10 6 true ≡ Small) × (choose Cheapest 1 4 10 7 true ≡ Continuous) × (choose Cheapest 1 4 10 10 true ≡ Continuous) × (choose Cheapest 1 4 10 6 false ≡ Small) × (choose Cheapest 1 4 10 7 false ≡ Large)
cheapest = (refl, refl, refl, refl, refl)

-- with two rows in a block, Continuous is longer than Large
cheapest_in_pairs : (choose Cheapest 2 7 10 6 true ≡ Small) × (choose Cheapest 2 7 10 7 true ≡ Large)
cheapest_in_pairs = (refl, refl)

cheapest_padded : (choose_padded Cheapest 1 4 10 6 ≡ Small) × (choose_padded Cheapest 1 4 10 7 ≡ Large) × (choose_padded Cheapest 2 7 10 7 ≡ Large)
cheapest_padded = (refl, refl, refl)

-- refused before any access
refused_early : last_answers by_four four_rows
    (select_items (ListedColumn (col v) ∷ ListedColumn (col id) ∷ []) None (Some (col v)) ∷ select_columns (col (codes "x") ∷ [])
    ∷ Ok (Update t (record { column = id; value = int 9 } ∷ []) None) ∷ Ok (RowsStmt (record { list = None; source = Join t t t_id t_id; cond = None }))
    ∷ Ok (Insert t None (TextLiteral (codes "a") ∷ int 1 ∷ [])) ∷ []) ≡
    Refused NoColumn ∷ Refused NoColumn ∷ Refused KeyRule ∷ Refused NameTaken ∷ Refused WrongType ∷ []
unfolding makes
refused_early = refl

off_key : last_answers by_four two_tables (Ok (RowsStmt (record { list = None; source = Join u t u_k t_id; cond = None })) ∷ []) ≡ Refused JoinKey ∷ []
unfolding makes
off_key = refl

-- the store fails at the fourth access of the INSERT, and the table is as it was
store_fault : answers (first_session by_four) (create_t ∷ insert t 1 10 ∷ count_all ∷ []) (Alone ∷ CutAfter 4 ∷ []) ≡ Done ∷ Refused StoreFault ∷ Rows (ints (0 ∷ []) ∷ []) ∷ []
unfolding makes
store_fault = refl

store_fault_trace : trace_of by_four (create_t ∷ insert t 1 10 ∷ count_all ∷ []) (Alone ∷ CutAfter 4 ∷ []) ≡
    Make 1 4 49 ∷ Write 1 0 ∷ Write 1 1 ∷ Write 1 2 ∷ Write 1 3 ∷ Make 2 4 49 ∷ Read 1 0 ∷ Read 1 1 ∷ Read 1 2 ∷ Read 1 0 ∷ Read 1 1 ∷ Read 1 2 ∷ Read 1 3 ∷ []
unfolding makes
store_fault_trace = refl

-- a text that spells no statement
misspelt : last_answers by_four two_tables (Err 23 ∷ []) ≡ Refused (Syntax 23) ∷ []
unfolding makes
misspelt = refl

misspelt_trace : last_trace by_four two_tables (Err 23 ∷ []) ≡ []
unfolding makes
misspelt_trace = refl

misspelt_total : asked_by by_four (two_tables ++ (Err 23 ∷ [])) ≡ 87
unfolding makes
misspelt_total = refl
