-- What UPDATE and DELETE make of a table.
use Rattle.ob_tables.proofs.Words.{accepted_answer, Access, ap, arith, Changed, changed_at, Columns, columns_at, copy_part, count_by, database, Deleted, followed, Heading, heading-stored, heading_at, headings, headings_of, Held, in_slots, is_late, is_true, IsSet, limits_of, List, map, None, Option, option_map, option_map_or, outcome_of, Public, refl, Refusal, refusal, refusal_now, refused_late, rewrite_part, rows, settled, Some, Stored, stored_at, subst, suc, sym, Tables, ℕ, [], ◌++◌, ◌∙◌, ◌∷◌, ◌≡◌}
use Rattle.std.specs.List.{All}
use Rattle.ob_row.specs.declared.cell.Cell.{Cell}
use Rattle.ob_row.specs.Condition.{Condition}
use Rattle.ob_row.specs.Rows.{Row}
use Rattle.ob_row.specs.Slots.{emptied}
use Rattle.ob_row.specs.Truth.{updated}
use Rattle.ob_sql.specs.declared.stmt.Set.{Set}
use Rattle.ob_sql.specs.declared.stmt.Stmt.TheVariants.{Update, Delete}
use Rattle.ob_sql.specs.Search.{Search}
use Rattle.ob_names.specs.Names.{place_of, unqualified}
use Rattle.ob_mean.specs.Conditions.{literal_cell, where_at}
use Rattle.ob_mutate.specs.Changing.{FitsSets}
use Rattle.ob_verdict.specs.Accepted.{SetFits}
use Rattle.ob_verdict.proofs.AcceptedProof.{sets_fit}
use Rattle.ob_mean.specs.Step.{answered, rows_at, set_cells}
use Rattle.ob_mean.proofs.VerdictLemmas.{headings-database, stored-database}
use Rattle.ob_tables.proofs.MutateLemmas.{Alters}
use Rattle.ob_tables.proofs.PlainLemmas.{settle_is}

-- the columns and the rows of a table in place
columns_found : (name : List ℕ) (tables : Tables) (x : Stored Held) → stored_at name tables ≡ Some x → columns_at name (headings tables) ≡ x.heading.schema
columns_found name tables x found =
    ap (λ (o : Option Heading). option_map_or (λ (h : Heading). h.schema) o []) (heading-stored name tables ∙ ap (option_map (λ (u : Stored Held). u.heading)) found)

rows_found : (name : List ℕ) (tables : Tables) (x : Stored Held) → stored_at name tables ≡ Some x → rows_at name (database tables) ≡ rows x.held.slots
rows_found name tables x found =
    ap (λ (o : Option (Stored (List Row))). option_map_or (λ (u : Stored (List Row)). u.held) o [])
    (stored-database name tables ∙ ap (option_map (λ (u : Stored Held). record { heading = u.heading; held = rows u.held.slots })) found)

-- how many of its rows make the condition true
count_found : (name : List ℕ) (cond : Option Search) (tables : Tables) (x : Stored Held) → stored_at name tables ≡ Some x
    → count_by (is_true (where_at cond (columns_at name (headings (database tables))))) (rows_at name (database tables)) ≡ count_by (is_true (where_at cond x.heading.schema)) (rows x.held.slots)
count_found name cond tables x found =
    ap (λ (cs : Columns). count_by (is_true (where_at cond cs)) (rows_at name (database tables))) (ap (columns_at name) (headings-database tables) ∙ columns_found name tables x found)
    ∙ ap (count_by (is_true (where_at cond x.heading.schema))) (rows_found name tables x found)

pub update_alters : (p : Public) (m : ℕ) (name : List ℕ) (sets : List Set) (cond : Option Search) (heading : Heading) (pred : Condition) (cells : List (ℕ × Cell))
    → pred ≡ where_at cond heading.schema → cells ≡ set_cells sets heading.schema
    → Alters p m (Update name sets cond) [] name heading rewrite_part Changed (λ slots. count_by (is_true pred) (rows slots)) (map (option_map (updated pred cells)))
update_alters p m name sets cond heading pred cells pred_is cells_is = record {
  script = λ end. refl;
  leaves = refl;
  more = λ t g blocks size behind. copy_part t g blocks ++ behind;
  makes = λ t g blocks size behind. refl;
  tables = refl;
  answers = λ n. record { whole = λ k. refl; own = refl };
  silent = λ n. tt;
  plain = refl;
  makes_none = tt;
  unindexed = λ none. none;
  meant = λ tables x headed unread early found size is.
      let stmt = Update name sets cond in
      let none : refusal p m tables stmt ≡ None = refused_late p m tables stmt early in
      let condition : pred ≡ where_at cond x.heading.schema = pred_is ∙ ap (λ (h : Heading). where_at cond h.schema) (sym is) in
      let count : count_by (is_true pred) (rows x.held.slots) ≡ count_by (is_true (where_at cond (columns_at name (headings (database tables))))) (rows_at name (database tables)) =
      ap (λ (c : Condition). count_by (is_true c) (rows x.held.slots)) condition ∙ sym (count_found name cond tables x found) in
      record {
        to = map (option_map (updated pred cells));
        answered = ap Changed count ∙ ap (λ (o : Option Refusal). outcome_of stmt (answered o (accepted_answer (database tables) stmt))) (sym none);
        settles = λ d. settle_is p tables stmt unread d m
            ∙ ap (λ (o : Option Refusal). followed o (settled d p tables stmt) tables) none
            ∙ ap (λ (cs : Columns). changed_at name (in_slots (map (option_map (updated (where_at cond cs) (set_cells sets cs))))) tables) (columns_found name tables x found ∙ ap (λ (h : Heading). h.schema) is)
            ∙ (λ i. changed_at name (in_slots (map (option_map (updated (sym pred_is i) (sym cells_is i))))) tables);
        here = refl;
      };
}

pub delete_alters : (p : Public) (m : ℕ) (name : List ℕ) (cond : Option Search) (heading : Heading) (pred : Condition) → pred ≡ where_at cond heading.schema
    → Alters p m (Delete name cond) [] name heading rewrite_part Deleted (λ slots. count_by (is_true pred) (rows slots)) (map (emptied (is_true pred)))
delete_alters p m name cond heading pred pred_is = record {
  script = λ end. refl;
  leaves = refl;
  more = λ t g blocks size behind. copy_part t g blocks ++ behind;
  makes = λ t g blocks size behind. refl;
  tables = refl;
  answers = λ n. record { whole = λ k. refl; own = refl };
  silent = λ n. tt;
  plain = refl;
  makes_none = tt;
  unindexed = λ none. none;
  meant = λ tables x headed unread early found size is.
      let stmt = Delete name cond in
      let none : refusal p m tables stmt ≡ None = refused_late p m tables stmt early in
      let condition : pred ≡ where_at cond x.heading.schema = pred_is ∙ ap (λ (h : Heading). where_at cond h.schema) (sym is) in
      let count : count_by (is_true pred) (rows x.held.slots) ≡ count_by (is_true (where_at cond (columns_at name (headings (database tables))))) (rows_at name (database tables)) =
      ap (λ (c : Condition). count_by (is_true c) (rows x.held.slots)) condition ∙ sym (count_found name cond tables x found) in
      record {
        to = map (emptied (is_true pred));
        answered = ap Deleted count ∙ ap (λ (o : Option Refusal). outcome_of stmt (answered o (accepted_answer (database tables) stmt))) (sym none);
        settles = λ d. settle_is p tables stmt unread d m
            ∙ ap (λ (o : Option Refusal). followed o (settled d p tables stmt) tables) none
            ∙ ap (λ (cs : Columns). changed_at name (in_slots (map (emptied (is_true (where_at cond cs))))) tables) (columns_found name tables x found ∙ ap (λ (h : Heading). h.schema) is)
            ∙ (λ i. changed_at name (in_slots (map (emptied (is_true (sym pred_is i))))) tables);
        here = refl;
      };
}

-- the cells that are set, where each value fits its column
sets_hold : (cs : Columns) (sets : List Set) → All (SetFits cs) sets → All IsSet (set_cells sets cs) → FitsSets cs (set_cells sets cs)
sets_hold cs [] fit held = tt
sets_hold cs (s ∷ sets) fit held = (
  fit 0 s (omega (arith)) (held 0 (place_of (unqualified s.column) cs, literal_cell s.value) (omega (arith))),
  sets_hold cs sets (λ k d less. fit (suc k) d (omega (arith, less))) (λ k d less. held (suc k) d (omega (arith, less))),
)

pub sets_found : (p : Public) (m : ℕ) (name : List ℕ) (sets : List Set) (cond : Option Search) (heading : Heading) (cs : Columns) (cells : List (ℕ × Cell))
    → refusal_now p m (Update name sets cond) ≡ None → heading_at name (headings_of p.tables) ≡ Some heading → cs ≡ heading.schema → cells ≡ set_cells sets cs → All IsSet cells → FitsSets cs cells
sets_found p m name sets cond heading cs cells now found schema_is cells_is held =
    let columns_is : columns_at name (headings_of p.tables) ≡ cs = ap (λ (o : Option Heading). option_map_or (λ (h : Heading). h.schema) o []) found ∙ sym schema_is in
    let fit = subst (λ (c : Columns). All (SetFits c) sets) columns_is (sets_fit (is_late m) (limits_of p) (headings_of p.tables) name sets cond now) in
    subst (λ (xs : List (ℕ × Cell)). FitsSets cs xs) (sym cells_is) (sets_hold cs sets fit (subst (λ (xs : List (ℕ × Cell)). All IsSet xs) cells_is held))
