-- What a statement that accesses an index leaves of what is public, and what it draws.
use Rattle.ob_tables.proofs.Words.{ap, arith, Bool, by_shape, bytes_eq, cond, drawn_by, false, has_index, Heading, heading_at, headings_of, if◌then◌else◌, Indexed, is_access, is_index, IsAt, Join, List, None, Option, option_map_or, Public, refl, skeleton, slice_get, Some, Source, Stmt, suc, sym, true, ℕ, [], ◌%◌, ◌+◌, ◌^◌, ◌∙◌, ◌∷◌, ◌≡◌}
use Rattle.ob_base.specs.declared.schema.Shape.{Shape}
use Rattle.ob_base.specs.declared.schema.Shape.TheVariants.{Flat as FlatShape}
use Rattle.ob_base.specs.declared.schema.Table.{Table}
use Rattle.ob_base.specs.declared.skeleton.Source.TheVariants.{Table as OneTable}
use Rattle.ob_base.specs.declared.skeleton.Skeleton.TheVariants.{Rows as RowsSkeleton}
use Rattle.ob_script.specs.Tables.{moved, moved_to, tables_after}
use Rattle.ob_sql.specs.declared.stmt.Stmt.TheVariants.{Create, Insert, Update, Delete, Drop as DropTable, SelectRows as RowsStmt, SelectTotals as TotalsStmt}
use Rattle.ob_mean.specs.Keyed.{keyed_name, one_table}
use Rattle.ob_mean.specs.Refusals.{is_indexed}
use Rattle.ob_tables.proofs.FoundLemmas.{heading_found}
use Rattle.ob_tables.proofs.TableLemmas.{AreNamed, named}

-- ---- whether a statement accesses an index
-- by the table whose rows it reads or changes by a key
pub access_is : (p : Public) (name : List ℕ) (stmt : Stmt) → keyed_name stmt ≡ Some name → is_access p (skeleton stmt) ≡ has_index p name
access_is p name (Insert table columns values) is = let same : table ≡ name = cc is in ap (has_index p) same
access_is p name (Update table sets cond) is = let same : table ≡ name = cc is in ap (has_index p) same
access_is p name (Delete table cond) is = let same : table ≡ name = cc is in ap (has_index p) same
access_is p name (RowsStmt q) is = of q.source is
  where
    of : (source : Source) → one_table source ≡ Some name → is_access p (RowsSkeleton source q.list) ≡ has_index p name
    of (OneTable n) is = let same : n ≡ name = cc is in ap (has_index p) same
    of (Join a b on equals) is = absurd (cc is)
access_is p name other is = absurd (cc is)

-- without one it accesses none
pub access_none : (p : Public) (stmt : Stmt) → keyed_name stmt ≡ None → is_access p (skeleton stmt) ≡ false
access_none p (Insert table columns values) is = absurd (cc is)
access_none p (Update table sets cond) is = absurd (cc is)
access_none p (Delete table cond) is = absurd (cc is)
access_none p (RowsStmt q) is = of q.source is
  where
    of : (source : Source) → one_table source ≡ None → is_access p (RowsSkeleton source q.list) ≡ false
    of (OneTable n) is = absurd (cc is)
    of (Join a b on equals) is = refl
access_none p other is = refl

-- no table has the name
pub no_index_named : (name : List ℕ) (ts : List Table) → ((i : ℕ) (t : Table) → IsAt name i t ts → ⊥) → is_index (headings_of ts) name ≡ false
no_index_named name [] none = refl
no_index_named name (t ∷ ts) none = head (bytes_eq t.heading.name name) refl (no_index_named name ts (λ i u is. none (suc i) u (record { get = is.get; named = is.named })))
  where
    head : (b : Bool) → bytes_eq t.heading.name name ≡ b → is_index (headings_of ts) name ≡ false → is_index (headings_of (t ∷ ts)) name ≡ false
    head true is rest = absurd (none 0 t (record { get = refl; named = named t.heading.name name is }))
    head false is rest =
        ap (λ (b : Bool). option_map_or (λ (h : Heading). is_indexed h.shape) (cond b (Some t.heading) (heading_at name (headings_of ts))) false) is ∙ rest

-- the one of that name is flat
pub no_index_flat : (name : List ℕ) (ts : List Table) (i : ℕ) (t : Table) → AreNamed ts → IsAt name i t ts → t.heading.shape ≡ FlatShape → is_index (headings_of ts) name ≡ false
no_index_flat name ts i t names at flat =
    ap (λ (o : Option Heading). option_map_or (λ (h : Heading). is_indexed h.shape) o false) (heading_found name ts i t names at.get at.named) ∙ ap is_indexed flat

-- ---- an index stays where it is
stay_head : (g : ℕ) (t : Table) (b : Bool) → (b ≡ true → t.heading.shape ≡ Indexed) → (if b then moved_to g t else t) ≡ t
stay_head g t true is = ap (λ (shape : Shape). by_shape shape (record t { region = g }) t) (is refl)
stay_head g t false is = refl

all_stay : (name : List ℕ) (g : ℕ) (ts : List Table) → ((j : ℕ) (u : Table) → slice_get ts j ≡ Some u → u.heading.name ≡ name → u.heading.shape ≡ Indexed) → moved name g ts ≡ ts
all_stay name g [] each = refl
all_stay name g (t ∷ ts) each =
    let first = stay_head g t (bytes_eq t.heading.name name) (λ hit. each 0 t refl (named t.heading.name name hit)) in
    let rest = all_stay name g ts (λ j u is. each (suc j) u is) in
    λ i. first i ∷ rest i

module _ (p : Public) (i : ℕ) (t : Table) (name : List ℕ) (names : AreNamed p.tables) (at : slice_get p.tables i ≡ Some t) (of_name : t.heading.name ≡ name) (indexed : t.heading.shape ≡ Indexed) where
  stays : (g : ℕ) → moved name g p.tables ≡ p.tables
  stays g = all_stay name g p.tables (λ j u is same.
      let here : j ≡ i = names j i u t is at (same ∙ sym of_name) in
      let one : u ≡ t = cc (is, at, here) in
      ap (λ (v : Table). v.heading.shape) one ∙ indexed)

  pub has_one : has_index p name ≡ true
  has_one = ap (λ (o : Option Heading). option_map_or (λ (h : Heading). is_indexed h.shape) o false) (heading_found name p.tables i t names at of_name) ∙ ap is_indexed indexed

  pub tables_stay : (stmt : Stmt) → keyed_name stmt ≡ Some name → p.tables ≡ tables_after p (skeleton stmt)
  tables_stay (Insert table columns values) is = let same : table ≡ name = cc is in sym (ap (λ (n : List ℕ). moved n p.next_region p.tables) same ∙ stays p.next_region)
  tables_stay (Update table sets cond) is = let same : table ≡ name = cc is in sym (ap (λ (n : List ℕ). moved n p.next_region p.tables) same ∙ stays p.next_region)
  tables_stay (Delete table cond) is = let same : table ≡ name = cc is in sym (ap (λ (n : List ℕ). moved n p.next_region p.tables) same ∙ stays p.next_region)
  tables_stay (RowsStmt q) is = refl
  tables_stay other is = absurd (cc is)

  -- it accesses an index, and draws one number
  pub access_by : (stmt : Stmt) → keyed_name stmt ≡ Some name → is_access p (skeleton stmt) ≡ true
  access_by stmt is = access_is p name stmt is ∙ has_one

  pub drew_one : (stmt : Stmt) → keyed_name stmt ≡ Some name → drawn_by p (skeleton stmt) ≡ 1
  drew_one (Insert table columns values) is = ap (λ (b : Bool). if b then 1 else 0) (access_by (Insert table columns values) is)
  drew_one (Update table sets cond) is = ap (λ (b : Bool). if b then 1 else 0) (access_by (Update table sets cond) is)
  drew_one (Delete table cond) is = ap (λ (b : Bool). if b then 1 else 0) (access_by (Delete table cond) is)
  drew_one (RowsStmt q) is = ap (λ (b : Bool). if b then 1 else 0) (access_by (RowsStmt q) is)
  drew_one other is = absurd (cc is)

-- the place of the draws after it
pub next_place : (place drawn n : ℕ) → place ≡ drawn % 2 ^ 67 → (place + n) % 2 ^ 67 ≡ (drawn + n) % 2 ^ 67
next_place place drawn n is = omega (arith, is)
