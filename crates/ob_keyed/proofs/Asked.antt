-- What an accepted statement asks of its index.
use Rattle.std.proofs.Common.{◌≡◌, ◌<◌, ℕ, ℤ, true, false, List, [], ◌∷◌, Option, Some, None, length, refl, sym, ◌∙◌, ap, subst}
use Rattle.std.specs.Prelude.{◌&&◌, IsSomeAnd, slice_get}
use Rattle.std.specs.List.{All}
use Rattle.std.specs.Option.{is_none, option_map, option_map_or}
use Rattle.std.proofs.lemmas.List.Elements.{All-nil, All-cons, All-head, All-tail}
use Rattle.std.proofs.lemmas.Option.{slice_get_within}
use Rattle.ob_base.specs.declared.config.Public.{Public}
use Rattle.ob_base.specs.declared.schema.Column.{Column}
use Rattle.ob_base.specs.declared.schema.Heading.{Heading}
use Rattle.ob_base.specs.declared.schema.Kind.TheVariants.{Int as IntKind}
use Rattle.ob_base.specs.declared.skeleton.Source.{Source}
use Rattle.ob_base.specs.declared.skeleton.Source.TheVariants.{Table as OneTable, Join}
use Rattle.ob_base.specs.Schemas.{Columns, key_place}
use Rattle.ob_base.specs.Stored.{Stored, heading_at, headings_of}
use Rattle.ob_row.specs.declared.cell.Cell.{Cell}
use Rattle.ob_row.specs.Rows.{Row}
use Rattle.ob_row.specs.Spelling.{FitsColumns, FitsKind, IsCell, kind_at}
use Rattle.ob_sql.specs.declared.stmt.Literal.{Literal}
use Rattle.ob_sql.specs.declared.stmt.SelectRows.{SelectRows}
use Rattle.ob_sql.specs.declared.stmt.Set.{Set as SetStmt}
use Rattle.ob_sql.specs.declared.stmt.Stmt.{Stmt}
use Rattle.ob_sql.specs.declared.stmt.Stmt.TheVariants.{Insert, Update, Delete, SelectRows as RowsStmt}
use Rattle.ob_sql.specs.Search.{Search}
use Rattle.ob_names.specs.Names.{columns_at, place_of, unqualified}
use Rattle.ob_mean.specs.Conditions.{literal_cell}
use Rattle.ob_mean.specs.Keyed.{keyed_name, one_table}
use Rattle.ob_mean.specs.Refusals.{is_indexed, key_asked, lacks_key, limits_of, sets_key, source_lacks_key}
use Rattle.ob_mean.specs.Replay.{has_index}
use Rattle.ob_mean.specs.Step.{new_row, set_cells}
use Rattle.ob_mean.specs.Verdict.{is_late}
use Rattle.ob_mean.proofs.EarlyLemmas.{allowed, neither}
use Rattle.ob_mean.proofs.InsertLemmas.{insert_fits}
use Rattle.ob_verdict.specs.Accepted.{SetFits}
use Rattle.ob_verdict.proofs.AcceptedProof.{sets_fit}
use Rattle.ob_verdict.proofs.AccessedProof.{off_key}
use Rattle.ob_verdict.proofs.LawfulProof.{heading_region, region_index}
use Rattle.ob_oram.specs.declared.index.Index.{Index}
use Rattle.ob_oram.specs.Ops.{FitsSet}
use Rattle.ob_keyed.specs.Asking.{IsKeyed, IsSet}

abbrev pub AsksKey : Index → Option Search → Type 0
AsksKey index cond = (z : ℤ) × (key_asked index.schema cond ≡ Some z)

-- ---- the table that it names
module _ (p : Public) (m : ℕ) (stmt : Stmt) (index : Index) (on : IsKeyed p m stmt index) where
  pub heading_is : heading_at on.name (headings_of p.tables) ≡ Some on.table.heading
  heading_is = heading_region p on.name ∙ ap (option_map (λ (u : Stored ℕ). u.heading)) on.found

  pub columns_is : columns_at on.name (headings_of p.tables) ≡ index.schema
  columns_is = ap (λ (o : Option Heading). option_map_or (λ (h : Heading). h.schema) o []) heading_is ∙ sym on.is.schema

  pub index_is : has_index p on.name ≡ true
  index_is = region_index p on.name on.table on.found ∙ ap is_indexed on.shaped

  -- its WHERE asks for a key
  asks_key : (cond : Option Search) → lacks_key (headings_of p.tables) on.name cond ≡ false → AsksKey index cond
  asks_key cond keyed = go (key_asked index.schema cond) refl
    where
      go : (o : Option ℤ) → key_asked index.schema cond ≡ o → AsksKey index cond
      go (Some z) is = (z, is)
      go None none =
          let asked : key_asked (columns_at on.name (headings_of p.tables)) cond ≡ None = ap (λ (cs : Columns). key_asked cs cond) columns_is ∙ none in
          let both : true ≡ false = (λ j. sym index_is j && is_none (sym asked j)) ∙ keyed in
          absurd (cc both)

  -- it names one
  pub is_named : keyed_name stmt ≡ None → ⊥
  is_named none = absurd (cc (none, on.keyed))

source_key : (hs : List Heading) (source : Source) (cond : Option Search) (name : List ℕ) → one_table source ≡ Some name → source_lacks_key hs source cond ≡ false → lacks_key hs name cond ≡ false
source_key hs (OneTable table) cond name is keyed = let same : table ≡ name = cc is in subst (λ (n : List ℕ). lacks_key hs n cond ≡ false) same keyed
source_key hs (Join a b on equals) cond name is keyed = absurd (cc is)

module _ (p : Public) (m : ℕ) (index : Index) where
  pub update_asks : (table : List ℕ) (sets : List SetStmt) (cond : Option Search) → IsKeyed p m (Update table sets cond) index → AsksKey index cond
  update_asks table sets cond on =
      let free = allowed (is_late m) (limits_of p) (headings_of p.tables) (Update table sets cond) on.accepted in
      let same : table ≡ on.name = cc on.keyed in
      asks_key p m (Update table sets cond) index on cond (subst (λ (n : List ℕ). lacks_key (headings_of p.tables) n cond ≡ false) same free.keyed)

  pub delete_asks : (table : List ℕ) (cond : Option Search) → IsKeyed p m (Delete table cond) index → AsksKey index cond
  delete_asks table cond on =
      let free = allowed (is_late m) (limits_of p) (headings_of p.tables) (Delete table cond) on.accepted in
      let same : table ≡ on.name = cc on.keyed in
      asks_key p m (Delete table cond) index on cond (subst (λ (n : List ℕ). lacks_key (headings_of p.tables) n cond ≡ false) same free.keyed)

  pub rows_ask : (q : SelectRows) → IsKeyed p m (RowsStmt q) index → AsksKey index q.cond
  rows_ask q on =
      let free = allowed (is_late m) (limits_of p) (headings_of p.tables) (RowsStmt q) on.accepted in
      asks_key p m (RowsStmt q) index on q.cond (source_key (headings_of p.tables) q.source q.cond on.name on.keyed free.keyed)

  -- ---- the row that it puts in
  pub put_fits : (table : List ℕ) (columns : Option (List (List ℕ))) (values : List Literal) (cells : Row) → IsKeyed p m (Insert table columns values) index
      → cells ≡ new_row index.schema columns values → All IsCell cells → FitsColumns index.schema cells
  put_fits table columns values cells on is held =
      let same : table ≡ on.name = cc on.keyed in
      let found : heading_at table (headings_of p.tables) ≡ Some on.table.heading =
      subst (λ (n : List ℕ). heading_at n (headings_of p.tables) ≡ Some on.table.heading) (sym same) (heading_is p m (Insert table columns values) index on) in
      let row_is : cells ≡ new_row on.table.heading.schema columns values = is ∙ ap (λ (cs : Columns). new_row cs columns values) on.is.schema in
      let fits = insert_fits (is_late m) (limits_of p) (headings_of p.tables) table on.table.heading columns values on.accepted found on.distinct (subst (λ (r : Row). All IsCell r) row_is held) in
      subst (λ (cs : Columns). FitsColumns cs cells) (sym on.is.schema) (subst (λ (r : Row). FitsColumns on.table.heading.schema r) (sym row_is) fits)

-- ---- the cells that it sets
set_at : (cs : Columns) (i : ℕ) (x : Cell) → IsSomeAnd (slice_get cs i) (λ (c : Column). FitsKind c.kind x) → (i < length cs) × FitsKind (kind_at cs i) x
set_at cs i x = go (slice_get cs i) refl
  where
    go : (o : Option Column) → slice_get cs i ≡ o → IsSomeAnd o (λ (c : Column). FitsKind c.kind x) → (i < length cs) × FitsKind (kind_at cs i) x
    go None is fit = absurd fit
    go (Some c) is fit = (slice_get_within cs i c is, subst (λ (o : Option Column). FitsKind (option_map_or (λ (d : Column). d.kind) o IntKind) x) (sym is) fit)

sets_each : (cs : Columns) (i : ℕ) → key_place cs ≡ Some i → (sets : List SetStmt) → All (SetFits cs) sets → All IsSet (set_cells sets cs) → sets_key cs sets ≡ false → All (FitsSet cs i) (set_cells sets cs)
sets_each cs i key [] fit held rule = All-nil (FitsSet cs i)
sets_each cs i key (s ∷ sets) fit held rule =
    let at : ℕ = place_of (unqualified s.column) cs in
    let x : Cell = literal_cell s.value in
    let both = neither (option_map_or (λ (c : Column). c.key) (slice_get cs at) false) (sets_key cs sets) rule in
    let here = set_at cs at x (All-head (SetFits cs) s sets fit (All-head IsSet (at, x) (set_cells sets cs) held)) in
    All-cons (FitsSet cs i) (at, x) (set_cells sets cs)
    (record { within = here.0; fits = here.1; off = off_key cs at i key both.0 })
    (sets_each cs i key sets (All-tail (SetFits cs) s sets fit) (All-tail IsSet (at, x) (set_cells sets cs) held) both.1)

pub change_fits : (p : Public) (m : ℕ) (index : Index) (table : List ℕ) (sets : List SetStmt) (cond : Option Search) (cells : List (ℕ × Cell)) → IsKeyed p m (Update table sets cond) index
    → cells ≡ set_cells sets index.schema → All IsSet cells → All (FitsSet index.schema index.key) cells
change_fits p m index table sets cond cells on is held =
    let hs = headings_of p.tables in
    let free = allowed (is_late m) (limits_of p) hs (Update table sets cond) on.accepted in
    let same : table ≡ on.name = cc on.keyed in
    let columns : columns_at table hs ≡ index.schema = subst (λ (n : List ℕ). columns_at n hs ≡ index.schema) (sym same) (columns_is p m (Update table sets cond) index on) in
    let fit = subst (λ (cs : Columns). All (SetFits cs) sets) columns (sets_fit (is_late m) (limits_of p) hs table sets cond on.accepted) in
    let rule : sets_key index.schema sets ≡ false = ap (λ (cs : Columns). sets_key cs sets) (sym columns) ∙ free.keys in
    subst (λ (xs : List (ℕ × Cell)). All (FitsSet index.schema index.key) xs) (sym is)
    (sets_each index.schema index.key on.is.shaped.key.primary sets fit (subst (λ (xs : List (ℕ × Cell)). All IsSet xs) is held) rule)
