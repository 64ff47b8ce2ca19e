-- The table of a name, at the front of the tables or behind.
use Rattle.std.proofs.Common.{◌≡◌, ℕ, Bool, true, false, Option, List, [], ◌∷◌, ◌++◌, count_by, bytes_eq, sym, ◌∙◌, ap}
use Rattle.std.specs.Option.{option_map_or}
use Rattle.std.specs.Prelude.{None, Some, Result, Ok, Err, IfOk, OnErr}
use Rattle.ob_base.specs.declared.schema.Heading.{Heading}
use Rattle.ob_base.specs.declared.refusal.Refusal.{Refusal}
use Rattle.ob_base.specs.Schemas.{Columns}
use Rattle.ob_base.specs.Stored.{Stored, headings, stored_at, changed_at}
use Rattle.ob_row.specs.Rows.{Row}
use Rattle.ob_row.specs.Truth.{is_true}
use Rattle.ob_sql.specs.declared.stmt.Cond.{Cond}
use Rattle.ob_sql.specs.declared.stmt.Literal.{Literal}
use Rattle.ob_sql.specs.declared.stmt.Stmt.TheVariants.{Insert}
use Rattle.ob_mean.specs.declared.answer.Answer.TheVariants.{Changed}
use Rattle.ob_names.specs.Names.{columns_at}
use Rattle.ob_mean.specs.Conditions.{where_at}
use Rattle.ob_mean.specs.Step.{Database, rows_at, new_row, insert_refusal, late_refusal, followed, accepted_next}

-- what was compared is the table's name
pub same_name : {b : Bool} {h k : Heading} {x y name : List ℕ} → b ≡ bytes_eq x y → x ≡ h.name → h ≡ k → y ≡ name → bytes_eq k.name name ≡ b
same_name {h = h} {y = y} {name = name} is first heading second =
    sym (is ∙ ap (λ z. bytes_eq z y) first ∙ ap (λ z. bytes_eq h.name z) second ∙ ap (λ (z : Heading). bytes_eq z.name name) heading)

module _ (name : List ℕ) (t : Stored (List Row)) (ts : Database) where
  pub stored_here : bytes_eq t.heading.name name ≡ true → stored_at name (t ∷ ts) ≡ Some t
  stored_here is = simp is

  pub stored_behind : bytes_eq t.heading.name name ≡ false → stored_at name (t ∷ ts) ≡ stored_at name ts
  stored_behind is = simp is

  pub rows_here : bytes_eq t.heading.name name ≡ true → rows_at name (t ∷ ts) ≡ t.held
  rows_here is = simp is

  pub columns_here : bytes_eq t.heading.name name ≡ true → columns_at name (headings (t ∷ ts)) ≡ t.heading.schema
  columns_here is = simp is

  pub changed_here : (f : List Row → List Row) → bytes_eq t.heading.name name ≡ true → changed_at name f (t ∷ ts) ≡ record { heading = t.heading; held = f t.held } ∷ ts
  changed_here f is = simp is

  pub rows_behind : bytes_eq t.heading.name name ≡ false → rows_at name (t ∷ ts) ≡ rows_at name ts
  rows_behind is = simp is

  pub columns_behind : bytes_eq t.heading.name name ≡ false → columns_at name (headings (t ∷ ts)) ≡ columns_at name (headings ts)
  columns_behind is = simp is

  pub changed_behind : (f : List Row → List Row) → bytes_eq t.heading.name name ≡ false → changed_at name f (t ∷ ts) ≡ t ∷ changed_at name f ts
  changed_behind f is = simp is

-- how many rows a WHERE selects of the table
abbrev pub counted : List ℕ → Option Cond → Database → ℕ
counted name cond db = count_by (is_true (where_at cond (columns_at name (headings db)))) (rows_at name db)

module _ (name : List ℕ) (cond : Option Cond) (t : Stored (List Row)) (ts : Database) {db : Database} {n : ℕ} (split : db ≡ t ∷ ts) where
  pub counted_here : bytes_eq t.heading.name name ≡ true → n ≡ count_by (is_true (where_at cond t.heading.schema)) t.held → Changed n ≡ Changed (counted name cond db)
  counted_here is count =
      ap Changed (count ∙ sym (
      ap (λ d. counted name cond d) split
      ∙ ap (λ cs. count_by (is_true (where_at cond cs)) (rows_at name (t ∷ ts))) (columns_here name t ts is)
      ∙ ap (λ rows. count_by (is_true (where_at cond t.heading.schema)) rows) (rows_here name t ts is)))

  pub counted_behind : bytes_eq t.heading.name name ≡ false → Changed n ≡ Changed (counted name cond ts) → Changed n ≡ Changed (counted name cond db)
  counted_behind is count =
      count ∙ sym (
      ap (λ d. Changed (counted name cond d)) split
      ∙ ap (λ cs. Changed (count_by (is_true (where_at cond cs)) (rows_at name (t ∷ ts)))) (columns_behind name t ts is)
      ∙ ap (λ rows. Changed (count_by (is_true (where_at cond (columns_at name (headings ts)))) rows)) (rows_behind name t ts is))

-- the tables after a change of the rows that goes by the table's columns
module _ (name : List ℕ) (f : Columns → List Row → List Row) (t : Stored (List Row)) (ts : Database) {db : Database} (split : db ≡ t ∷ ts) where
  pub put_here : {u : Stored (List Row)} → bytes_eq t.heading.name name ≡ true → u ≡ record { heading = t.heading; held = f t.heading.schema t.held } → u ∷ ts ≡ changed_at name (f (columns_at name (headings db))) db
  put_here is put =
      ap (λ v. v ∷ ts) put ∙ sym (
      ap (λ d. changed_at name (f (columns_at name (headings d))) d) split
      ∙ ap (λ cs. changed_at name (f cs) (t ∷ ts)) (columns_here name t ts is)
      ∙ changed_here name t ts (f t.heading.schema) is)

  pub put_behind : {us : Database} → bytes_eq t.heading.name name ≡ false → us ≡ changed_at name (f (columns_at name (headings ts))) ts → t ∷ us ≡ changed_at name (f (columns_at name (headings db))) db
  put_behind is put =
      ap (λ vs. t ∷ vs) put ∙ sym (
      ap (λ d. changed_at name (f (columns_at name (headings d))) d) split
      ∙ ap (λ cs. changed_at name (f cs) (t ∷ ts)) (columns_behind name t ts is)
      ∙ changed_behind name t ts (f (columns_at name (headings ts))) is)

-- the tables after an INSERT that is refused, or is not, or has no memory
pub insert_here : (name : List ℕ) (names : Option (List (List ℕ))) (values : List Literal) (t : Stored (List Row)) (ts : Database) (u : Stored (List Row)) {db : Database} {E : Type 0} (r : Result (Option Refusal) E) → db ≡ t ∷ ts → bytes_eq t.heading.name name ≡ true
    → IfOk r (λ why. u ≡ followed why (record { heading = t.heading; held = t.held ++ new_row t.heading.schema names values ∷ [] }) t)
    → IfOk r (λ why. u ∷ ts ≡ followed why (accepted_next db (Insert name names values)) db)
insert_here name names values t ts u (Ok None) split is put = put_here name (λ cs rows. rows ++ new_row cs names values ∷ []) t ts split is put
insert_here name names values t ts u (Ok (Some why)) split is put = ap (λ v. v ∷ ts) put ∙ sym split
insert_here name names values t ts u (Err e) split is put = tt

pub insert_behind : (name : List ℕ) (names : Option (List (List ℕ))) (values : List Literal) (t : Stored (List Row)) (ts : Database) {db us : Database} (why : Option Refusal) → db ≡ t ∷ ts → bytes_eq t.heading.name name ≡ false
    → us ≡ followed why (accepted_next ts (Insert name names values)) ts
    → t ∷ us ≡ followed why (accepted_next db (Insert name names values)) db
insert_behind name names values t ts None split is put = put_behind name (λ cs rows. rows ++ new_row cs names values ∷ []) t ts split is put
insert_behind name names values t ts (Some why) split is put = ap (λ vs. t ∷ vs) put ∙ sym split

-- why it is refused
pub refused_here : (name : List ℕ) (names : Option (List (List ℕ))) (values : List Literal) (t : Stored (List Row)) (ts : Database) {db : Database} {E : Type 0} (r : Result (Option Refusal) E) → db ≡ t ∷ ts → bytes_eq t.heading.name name ≡ true
    → IfOk r (λ why. why ≡ insert_refusal t (new_row t.heading.schema names values))
    → IfOk r (λ why. why ≡ late_refusal 0 db (Insert name names values))
refused_here name names values t ts (Ok why) split is put =
    put ∙ sym (ap (λ d. late_refusal 0 d (Insert name names values)) split ∙ ap (λ s. option_map_or (λ t. insert_refusal t (new_row t.heading.schema names values)) s None) (stored_here name t ts is))
refused_here name names values t ts (Err e) split is put = tt

pub refused_behind : (name : List ℕ) (names : Option (List (List ℕ))) (values : List Literal) (t : Stored (List Row)) (ts : Database) {db : Database} {why : Option Refusal} → db ≡ t ∷ ts → bytes_eq t.heading.name name ≡ false
    → why ≡ late_refusal 0 ts (Insert name names values)
    → why ≡ late_refusal 0 db (Insert name names values)
refused_behind name names values t ts split is put =
    put ∙ sym (ap (λ d. late_refusal 0 d (Insert name names values)) split ∙ ap (λ s. option_map_or (λ t. insert_refusal t (new_row t.heading.schema names values)) s None) (stored_behind name t ts is))

-- without memory they stay
pub kept_here : (t u : Stored (List Row)) (ts : Database) {db : Database} {E : Type 0} (r : Result (Option Refusal) E) → db ≡ t ∷ ts → OnErr r (u ≡ t) → OnErr r (u ∷ ts ≡ db)
kept_here t u ts (Ok why) split kept = tt
kept_here t u ts (Err e) split kept = ap (λ v. v ∷ ts) kept ∙ sym split

pub kept_behind : {t : Stored (List Row)} {ts us db : Database} → db ≡ t ∷ ts → us ≡ ts → t ∷ us ≡ db
kept_behind {t} split kept = ap (λ vs. t ∷ vs) kept ∙ sym split
