-- Which INSERTs begin a batch.
use Rattle.ob_exec.proofs.Words.{ap, arith, Bool, Create, Delete, early_refusal, false, headings_of, Insert, is_some, le-leb, limits_of, List, nat_le, None, not, Option, Public, refl, Refusal, skeleton, Some, Stmt, sym, true, Update, ℕ, ◌&&◌, ◌+◌, ◌-◌, ◌<◌, ◌^◌, ◌∙◌, ◌≡◌, ◌≤◌}
use Rattle.std.specs.Prelude.{is_none}
use Rattle.std.proofs.Common.{min}
use Rattle.std.proofs.lemmas.Bool.{le-ltb, lt-leb, lt-ltb}
use Rattle.ob_mean.specs.Batches.{batch_most, begins_batch, inserts_flat, is_unrefused, leaves_room}
use Rattle.ob_mean.specs.Refusals.{is_index}
use Rattle.ob_sql.specs.declared.stmt.Literal.{Literal}
use Rattle.ob_sql.specs.declared.stmt.Stmt.TheVariants.{Drop as DropTable, SelectRows as RowsStmt, SelectTotals as TotalsStmt}

-- one of four is false
second : (a b c d : Bool) → b ≡ false → (a && b && c && d) ≡ false
second true b c d is = rw is refl
second false b c d is = refl

third : (a b c d : Bool) → c ≡ false → (a && b && c && d) ≡ false
third true true c d is = rw is refl
third true false c d is = refl
third false b c d is = refl

-- a refusal that isn't some is none
pub none_is : (r : Option Refusal) (b : Bool) → is_some r ≡ not b → b ≡ is_none r
none_is None true is = refl
none_is None false is = absurd (cc is)
none_is (Some r) true is = absurd (cc is)
none_is (Some r) false is = refl

module _ (p : Public) (m : ℕ) (stmt : Stmt) where
  -- too few may be served together
  pub begins_none : batch_most p < 2 → begins_batch p m stmt ≡ false
  begins_none few = ap (λ (b : Bool). b && leaves_room m && inserts_flat p (skeleton stmt) && is_unrefused p m stmt) (lt-leb 2 (batch_most p) few)

  -- so many accesses were asked that one might be late
  pub begins_late : (n : ℕ) → n ≡ min m (2 ^ 64 - 1) → 2 ^ 63 - 2 ^ 50 ≤ n → begins_batch p m stmt ≡ false
  begins_late n count late = second (nat_le 2 (batch_most p)) (leaves_room m) (inserts_flat p (skeleton stmt)) (is_unrefused p m stmt) (le-ltb (m + 2 ^ 50) (2 ^ 63) (omega (arith, count, late)))

  -- it is no INSERT into a flat table
  pub begins_kept : inserts_flat p (skeleton stmt) ≡ false → begins_batch p m stmt ≡ false
  begins_kept is = third (nat_le 2 (batch_most p)) (leaves_room m) (inserts_flat p (skeleton stmt)) (is_unrefused p m stmt) is

  -- else it is asked whether it is refused
  pub begins_unrefused : (n : ℕ) (r : Option Refusal) → 2 ≤ batch_most p → n ≡ min m (2 ^ 64 - 1) → n < 2 ^ 63 - 2 ^ 50 → inserts_flat p (skeleton stmt) ≡ true → r ≡ early_refusal false (limits_of p) (headings_of p.tables) stmt → is_none r ≡ begins_batch p m stmt
  begins_unrefused n r most count early flat is =
      let first = le-leb 2 (batch_most p) most in
      let room = lt-ltb (m + 2 ^ 50) (2 ^ 63) (omega (arith, count, early)) in
      let late = lt-leb (2 ^ 63) m (omega (arith, count, early)) in
      ap is_none is ∙ ap (λ (b : Bool). is_none (early_refusal b (limits_of p) (headings_of p.tables) stmt)) (sym late)
      ∙ sym (λ i. first i && room i && flat i && is_unrefused p m stmt)

-- of a statement that is no INSERT
pub no_insert : (p : Public) (stmt : Stmt) → ((table : List ℕ) (columns : Option (List (List ℕ))) (values : List Literal) → stmt ≡ Insert table columns values → ⊥) → inserts_flat p (skeleton stmt) ≡ false
no_insert p (Insert table columns values) not = absurd (not table columns values refl)
no_insert p other not = refl

-- of one whose table has an index, or hasn't
pub flat_insert : (p : Public) (stmt : Stmt) (table : List ℕ) (columns : Option (List (List ℕ))) (values : List Literal) (b : Bool) → stmt ≡ Insert table columns values → is_index (headings_of p.tables) table ≡ b → inserts_flat p (skeleton stmt) ≡ not b
flat_insert p stmt table columns values b is index = ap (λ (s : Stmt). inserts_flat p (skeleton s)) is ∙ ap not index
