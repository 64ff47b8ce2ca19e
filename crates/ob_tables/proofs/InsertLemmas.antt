-- What an INSERT makes of a table.
use Rattle.ob_tables.proofs.Words.{accessed, ap, Bool, changed_at, Columns, columns_at, copy_part, count_part, Done, Draws, early_refusal, false, followed, HasNoRows, Heading, heading-stored, headings, Held, if◌then◌else◌, in_slots, insert_part, inserted_as, is_late, length, limits_of, List, None, Option, option_map, option_map_or, outcome_of, Public, refl, Refusal, refusal, refused_late, rows, settle, settled, Some, Stmt, Stored, stored_at, sym, Tables, true, verdict, ℕ, [], ◌++◌, ◌==◌, ◌∙◌, ◌≡◌}
use Rattle.std.specs.Option.{option_or}
use Rattle.ob_base.specs.declared.refusal.Refusal.TheVariants as R
use Rattle.ob_base.specs.declared.schema.Shape.TheVariants.{Flat}
use Rattle.ob_base.specs.Schemas.{key_place}
use Rattle.ob_row.specs.Rows.{Row, has_key}
use Rattle.ob_row.specs.Slots.{fill_first}
use Rattle.ob_mutate.specs.declared.inserting.Inserted.{Inserted as InsertedAs}
use Rattle.ob_mutate.specs.declared.inserting.Inserted.TheVariants.{Duplicate, Full}
use Rattle.ob_mutate.specs.Inserting.{insert_answer, slots_after}
use Rattle.ob_sql.specs.declared.stmt.Literal.{Literal}
use Rattle.ob_sql.specs.declared.stmt.Stmt.TheVariants.{Insert as InsertStmt}
use Rattle.ob_mean.specs.declared.answer.Answer.TheVariants as A
use Rattle.ob_mean.specs.Step.{new_row, insert_refusal, answered}
use Rattle.ob_mean.proofs.VerdictLemmas.{flat_refusal, stored-database}
use Rattle.ob_verdict.specs.declared.outcome.Outcome.TheVariants.{Inserted}
use Rattle.ob_verdict.specs.Outcomes.{done_of}
use Rattle.ob_tables.proofs.HeldLemmas.{changed_same}
use Rattle.ob_tables.proofs.MutateLemmas.{Alters}
use Rattle.ob_tables.proofs.PlainLemmas.{settle_is}
use Rattle.ob_tables.proofs.RunLemmas.{IsAnswered}

-- ---- what an INSERT means that is not refused early
abbrev answered_as : (a b : Bool) → InsertedAs
answered_as a b = if a then Duplicate else (if b then Full else Done)

abbrev refused_as : (a b : Bool) → Option Refusal
refused_as a b = if a then Some R.Duplicate else (if b then Some R.Full else None)

outcome_plain : (a b : Bool) (stmt : Stmt) → done_of stmt ≡ Inserted → inserted_as (answered_as a b) ≡ outcome_of stmt (answered (option_or (refused_as a b) None) A.Done)
outcome_plain true b stmt is = refl
outcome_plain false true stmt is = refl
outcome_plain false false stmt is = sym is

settle_plain : (a b : Bool) (name : List ℕ) (row : Row) (tables : Tables)
    → followed (option_or (refused_as a b) None) (changed_at name (in_slots (fill_first row)) tables) tables ≡ changed_at name (in_slots (λ slots. slots_after (answered_as a b) row slots)) tables
settle_plain true b name row tables = sym (changed_same name tables)
settle_plain false true name row tables = sym (changed_same name tables)
settle_plain false false name row tables = refl

pub insert_meant : (p : Public) (m : ℕ) (tables : Tables) (name : List ℕ) (columns : Option (List (List ℕ))) (values : List Literal) (x : Stored Held) (row : Row) (answer : InsertedAs)
    → accessed tables (InsertStmt name columns values) ≡ None → early_refusal (is_late m) (limits_of p) (headings tables) (InsertStmt name columns values) ≡ None → stored_at name tables ≡ Some x → length x.held.slots ≡ x.heading.capacity
    → x.heading.shape ≡ Flat → row ≡ new_row x.heading.schema columns values → answer ≡ insert_answer x.heading.schema row x.held.slots
    → (inserted_as answer ≡ outcome_of (InsertStmt name columns values) (verdict p m tables (InsertStmt name columns values)))
    × ((d : Draws) → settle d p m tables (InsertStmt name columns values) ≡ changed_at name (in_slots (λ slots. slots_after answer row slots)) tables)
insert_meant p m tables name columns values x row answer unread early found size flat row_is is =
    let stmt = InsertStmt name columns values in
    let a = has_key (key_place x.heading.schema) row (rows x.held.slots) in
    let b = length (rows x.held.slots) == length x.held.slots in
    let refusal_is : refusal p m tables stmt ≡ option_or (refused_as a b) None =
    refused_late p m tables stmt early
    ∙ ap (λ (o : Option (Stored (List Row))). option_or (option_map_or (λ (t : Stored (List Row)). insert_refusal t (new_row t.heading.schema columns values)) o None) None)
    (stored-database name tables ∙ ap (option_map (λ (u : Stored Held). record { heading = u.heading; held = rows u.held.slots })) found)
    ∙ ap (λ (r : Row). option_or (insert_refusal (record { heading = x.heading; held = rows x.held.slots }) r) None) (sym row_is)
    ∙ ap (λ (o : Option Refusal). option_or o None) (flat_refusal (record { heading = x.heading; held = rows x.held.slots }) row flat)
    ∙ ap (λ (n : ℕ). option_or (if a then Some R.Duplicate else (if length (rows x.held.slots) == n then Some R.Full else None)) None) (sym size) in
    let schema_is : columns_at name (headings tables) ≡ x.heading.schema =
    ap (λ (o : Option Heading). option_map_or (λ (h : Heading). h.schema) o []) (heading-stored name tables ∙ ap (option_map (λ (u : Stored Held). u.heading)) found) in (
      ap inserted_as is ∙ outcome_plain a b stmt refl ∙ ap (λ (o : Option Refusal). outcome_of stmt (answered o A.Done)) (sym refusal_is),
      λ d. settle_is p tables stmt unread d m
          ∙ ap (λ (o : Option Refusal). followed o (settled d p tables stmt) tables) refusal_is
          ∙ ap (λ (r : Row). followed (option_or (refused_as a b) None) (changed_at name (in_slots (fill_first r)) tables) tables) (ap (λ (cs : Columns). new_row cs columns values) schema_is ∙ sym row_is)
          ∙ settle_plain a b name row tables
          ∙ ap (λ (k : InsertedAs). changed_at name (in_slots (λ slots. slots_after k row slots)) tables) (sym is),
    )

pub is_answered : (answer : InsertedAs) → IsAnswered (inserted_as answer)
is_answered Done = record { whole = λ n. refl; own = refl }
is_answered other = record { whole = λ n. refl; own = refl }

-- it emits nothing
pub silent_inserted : (answer : InsertedAs) → HasNoRows (inserted_as answer)
silent_inserted Done = tt
silent_inserted other = tt

pub insert_alters : (p : Public) (m : ℕ) (name : List ℕ) (columns : Option (List (List ℕ))) (values : List Literal) (heading : Heading) (cs : Columns) (row : Row)
    → heading.shape ≡ Flat → cs ≡ heading.schema → row ≡ new_row heading.schema columns values
    → Alters p m (InsertStmt name columns values) [] name heading insert_part inserted_as (insert_answer cs row) (λ slots. slots_after (insert_answer cs row slots) row slots)
insert_alters p m name columns values heading cs row flat schema_is row_is = record {
  script = λ end. refl;
  leaves = refl;
  more = λ t g blocks size behind. count_part t blocks ++ (copy_part t g blocks ++ behind);
  makes = λ t g blocks size behind. refl;
  tables = refl;
  answers = is_answered;
  silent = silent_inserted;
  plain = refl;
  makes_none = tt;
  unindexed = λ none. none;
  meant = λ tables x headed unread early found size is.
      let cs_is : cs ≡ x.heading.schema = schema_is ∙ ap (λ (h : Heading). h.schema) (sym is) in
      let meant = insert_meant p m tables name columns values x row (insert_answer cs row x.held.slots) unread early found size
      (ap (λ (h : Heading). h.shape) is ∙ flat) (row_is ∙ ap (λ (h : Heading). new_row h.schema columns values) (sym is)) (ap (λ (d : Columns). insert_answer d row x.held.slots) cs_is) in
      record { to = λ slots. slots_after (insert_answer cs row x.held.slots) row slots; answered = meant.0; settles = meant.1; here = refl };
}
