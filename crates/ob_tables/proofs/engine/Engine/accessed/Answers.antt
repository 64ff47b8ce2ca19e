use Rattle.ob_tables.proofs.Words.{arith, IsAt, List, refl, slice_get, slice_get_read, slice_get_within, Some, subst, sym, ◌∙◌, ◌≡◌}
use Rattle.ob_base.specs.declared.schema.Shape.TheVariants.{Flat as FlatShape}
use Rattle.ob_base.specs.declared.schema.Table.{Table}
use Rattle.ob_tables.proofs.IndexKinds.{access_is, no_index_flat, no_index_named}
use Rattle.ob_tables.proofs.TableLemmas.{index_at}
use Rattle.ob_tables.proofs.engine.Engine.accessed.Goals as goal

pub returns-in_default-find_table-clause-none : goal.returns-in_default-find_table-clause-none
returns-in_default-find_table-clause-none g c =
    let p = c.args.self.now.public in
    access_is p c.in-Some.name.now c.args.stmt.now c.in-Some.ensures.some
    ∙ no_index_named c.in-Some.name.now p.tables (λ i t is. c.in_default-find_table.ensures.none i t (subst (λ (ts : List Table). IsAt c.in-Some.name.now i t ts) (sym c.as_slice-tables.ensures) is))

pub offset_bounds-tables-i : goal.offset_bounds-tables-i
offset_bounds-tables-i g c =
    let found = c.in-Some-find_table.ensures.found in
    let within = slice_get_within c.args.self.now.public.tables c.in-Some-find_table.i found.0 (subst (λ (ts : List Table). slice_get ts c.in-Some-find_table.i ≡ Some found.0) c.as_slice-tables.ensures found.1.get) in
    let few = c.requires.agrees.1.tables.few in
    omega (arith, within, few)

pub bounds-tables-i : goal.bounds-tables-i
bounds-tables-i g c = let found = c.in-Some-find_table.ensures.found in slice_get_within c.as_slice-tables.result.now c.in-Some-find_table.i found.0 found.1.get

pub index_of-requires : goal.index_of-requires
index_of-requires g c =
    let found = c.in-Some-find_table.ensures.found in
    let i = c.in-Some-find_table.i in
    let all = c.as_slice-tables.result.now in
    let read = slice_get_read all _ i _ refl (slice_get_within all i found.0 found.1.get) c.index-tables-i.is in
    c.requires.agrees.1.tables.has i c.index-tables-i.result (subst (λ (ts : List Table). slice_get ts i ≡ Some c.index-tables-i.result) c.as_slice-tables.ensures read) c.in-Indexed.is

pub returns-in-Flat-clause-none : goal.returns-in-Flat-clause-none
returns-in-Flat-clause-none g c =
    let found = c.in-Some-find_table.ensures.found in
    let i = c.in-Some-find_table.i in
    let p = c.args.self.now.public in
    let all = c.as_slice-tables.result.now in
    let read = slice_get_read all _ i _ refl (slice_get_within all i found.0 found.1.get) c.index-tables-i.is in
    let here = found.1.get in
    let same : found.0 ≡ c.index-tables-i.result = cc (here, read) in
    let at = subst (λ (ts : List Table). IsAt c.in-Some.name.now i found.0 ts) c.as_slice-tables.ensures found.1 in
    access_is p c.in-Some.name.now c.args.stmt.now c.in-Some.ensures.some
    ∙ no_index_flat c.in-Some.name.now p.tables i found.0 c.requires.agrees.1.tables.names at (subst (λ (t : Table). t.heading.shape ≡ FlatShape) (sym same) c.in-Flat.is)

pub returns-in-Indexed-clause-some : goal.returns-in-Indexed-clause-some
returns-in-Indexed-clause-some g c =
    let found = c.in-Some-find_table.ensures.found in
    let i = c.in-Some-find_table.i in
    let all = c.as_slice-tables.result.now in
    let read = slice_get_read all _ i _ refl (slice_get_within all i found.0 found.1.get) c.index-tables-i.is in
    let here = found.1.get in
    let same : found.0 ≡ c.index-tables-i.result = cc (here, read) in
    let at = subst (λ (t : Table). IsAt c.in-Some.name.now i t c.args.self.now.public.tables) same (subst (λ (ts : List Table). IsAt c.in-Some.name.now i found.0 ts) c.as_slice-tables.ensures found.1) in
    let index = c.index_of.ensures in
    record {
      name = c.in-Some.name.now;
      keyed = c.in-Some.ensures.some;
      place = i;
      is = index_at c.requires.agrees.1.tables c.in-Some.name.now i c.index-tables-i.result at c.index_of.result index.0 index.1 index.2;
    }
