-- The row that a SELECT by a key finds, and what is printed of it.
use Rattle.std.proofs.Common.{◌≡◌, ℕ, ℤ, List, [], ◌∷◌, ◌++◌, map, Some, None, length, sym, ◌∙◌, ap, subst}
use Rattle.std.specs.List.{All}
use Rattle.std.proofs.lemmas.List.Elements.{All-nil, All-cons, All-head, All-tail, All-append, All-filter}
use Rattle.ob_base.specs.declared.schema.Kind.{Kind}
use Rattle.ob_base.specs.declared.schema.Kind.TheVariants.{Int as IntKind, Varchar}
use Rattle.ob_base.specs.declared.shown.Shown.{Shown}
use Rattle.ob_base.specs.Events.{Head, Close, row_events}
use Rattle.ob_base.specs.Schemas.{Columns}
use Rattle.ob_base.specs.Stored.{Stored}
use Rattle.ob_flat.specs.Slots.{FitsSlot}
use Rattle.ob_path.specs.Access.{Went, access}
use Rattle.ob_path.specs.States.{State, Stands, held}
use Rattle.ob_row.specs.declared.cell.Cell.{Cell}
use Rattle.ob_row.specs.declared.cell.Cell.TheVariants.{Int, Text}
use Rattle.ob_row.specs.Bags.{Same}
use Rattle.ob_row.specs.Keys.{row_key}
use Rattle.ob_row.specs.Rows.{Row}
use Rattle.ob_row.specs.Slots.{Slots, rows}
use Rattle.ob_row.specs.Spelling.{FitsColumns, FitsKind}
use Rattle.ob_row.specs.Totals.{printed}
use Rattle.ob_row.specs.Truth.{is_true}
use Rattle.ob_row.proofs.BagLemmas.{Same-refl}
use Rattle.ob_mean.specs.declared.answer.Answer.{Answer}
use Rattle.ob_mean.specs.Keyed.{Find, op_of}
use Rattle.ob_mean.specs.Prints.{Prints}
use Rattle.ob_mean.specs.Step.{rows_answer}
use Rattle.ob_mean.specs.Verdict.{Held, index_of}
use Rattle.ob_oram.specs.declared.index.Index.{Index}
use Rattle.ob_oram.specs.Indexes.{LiesAs}
use Rattle.ob_vault.specs.State.{World}
use Rattle.ob_verdict.specs.Answering.{found}
use Rattle.ob_verdict.specs.Asking.{key_is}
use Rattle.ob_verdict.proofs.GotProof.{answers}
use Rattle.ob_keyed.specs.Emitting.{IsNumber, PrintsFound, answer_events}
use Rattle.ob_keyed.specs.Meaning.{IsIndexOf}

-- ---- cells
number_of : (k : Kind) (x : Cell) → FitsKind k x → IsNumber x
number_of IntKind (Int z) fits = fits
number_of IntKind (Text t) fits = tt
number_of (Varchar n) (Int z) fits = absurd fits
number_of (Varchar n) (Text t) fits = tt

pub numbers_fit : (columns : Columns) (row : Row) → FitsColumns columns row → All IsNumber row
numbers_fit [] [] fits = All-nil IsNumber
numbers_fit [] (x ∷ row) fits = absurd fits
numbers_fit (c ∷ columns) [] fits = absurd fits
numbers_fit (c ∷ columns) (x ∷ row) fits = All-cons IsNumber x row (number_of c.kind x fits.0) (numbers_fit columns row fits.1)

-- ---- rows
rows_fit : (columns : Columns) (slots : Slots) → All (FitsSlot columns) slots → All (FitsColumns columns) (rows slots)
rows_fit columns [] fits = All-nil (FitsColumns columns)
rows_fit columns (None ∷ slots) fits = rows_fit columns slots (All-tail (FitsSlot columns) None slots fits)
rows_fit columns (Some row ∷ slots) fits =
    All-cons (FitsColumns columns) row (rows slots) (All-head (FitsSlot columns) (Some row) slots fits) (rows_fit columns slots (All-tail (FitsSlot columns) (Some row) slots fits))

-- those of an index in a store
pub held_fit : (t : Stored Held) (index : Index) (w : World) → IsIndexOf t.heading index → LiesAs index (index_of t.heading t.held) w → All (FitsColumns t.heading.schema) (held (index_of t.heading t.held))
held_fit t index w is lies =
    let s : State Row = index_of t.heading t.held in
    subst (λ (cs : Columns). All (FitsColumns cs) (held s)) is.schema
    (All-append (FitsColumns index.schema) (rows s.tree) (rows s.stash) (rows_fit index.schema s.tree lies.tree.fits) (rows_fit index.schema s.stash lies.stash.fits))

-- one of which is found
pub found_fits : (n i h draw : ℕ) (s : State Row) (z : ℤ) (w : Went Row) (columns : Columns) → length s.leaves ≡ n → Stands (row_key n i) h s → access (row_key n i) h s (op_of n (Find z)) draw ≡ Some w
    → All (FitsColumns columns) (held s) → All (FitsColumns columns) (found w.got)
found_fits n i h draw s z w columns leaves stands goes fits =
    subst (λ (all : List Row). All (FitsColumns columns) all) (answers n i h draw s (Find z) w leaves stands goes) (All-filter (is_true (key_is i z)) (FitsColumns columns) (held s) fits)

-- ---- what is printed
pub prints_found : PrintsFound
prints_found labels answer q columns cols got rows shown fits cols_is is =
    let rows_is : rows ≡ rows_answer q columns (found got) = shown.told fits ∙ ap (λ (c : List ℕ). map (printed c) (found got)) cols_is in
    subst (λ (x : Answer). Prints labels x (answer_events labels rows)) (sym is)
    (record {
      printed = rows;
      same = subst (λ (xs : List (List Shown)). Same rows xs) rows_is (Same-refl rows);
      is = ap (λ (xs : List (List Shown)). Head labels ∷ (row_events rows ++ Close (length xs) ∷ [])) rows_is;
    })
