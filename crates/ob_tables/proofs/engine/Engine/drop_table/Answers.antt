use Rattle.ob_tables.proofs.Words.{ap, IsTreeOf, List, slice_get, subst, sym, ◌∙◌}
use Rattle.ob_base.specs.declared.schema.Table.{Table}
use Rattle.ob_flat.specs.declared.flat.Flat.{Flat}
use Rattle.ob_tables.proofs.TableLemmas.{got_or, index_at}
use Rattle.ob_tables.proofs.engine.Engine.drop_table.Goals as goal

pub drop_flat-requires-clause-at : goal.drop_flat-requires-clause-at
drop_flat-requires-clause-at g c =
    let found = c.table_at-i.ensures in
    let here = got_or c.as_slice.result.now c.table_at-i.result.0 found.table _ (ap (λ (ts : List Table). slice_get ts c.table_at-i.result.0) c.as_slice.ensures ∙ found.here.get) in
    record {
      table = found.table;
      here = record { get = found.here.get; named = found.here.named };
      shape = ap (λ (t : Table). t.heading.shape) (sym here) ∙ c.in-Flat.is;
      is = found.is;
    }

pub index_of-k-requires : goal.index_of-k-requires
index_of-k-requires g c =
    let found = c.table_at-i.ensures in
    let here = got_or c.as_slice.result.now c.table_at-i.result.0 found.table _ (ap (λ (ts : List Table). slice_get ts c.table_at-i.result.0) c.as_slice.ensures ∙ found.here.get) in
    subst (IsTreeOf c.args.self.now.indexes.items) (sym (ap (λ (f : Flat). f.region) found.is))
    (c.requires.agrees.tables.has c.table_at-i.result.0 found.table found.here.get (ap (λ (t : Table). t.heading.shape) (sym here) ∙ c.in-Indexed.is))

pub drop_index-requires-clause-at : goal.drop_index-requires-clause-at
drop_index-requires-clause-at g c =
    let found = c.table_at-i.ensures in
    let at = c.index_of-k.ensures in
    index_at c.requires.agrees.tables c.args.table.now c.table_at-i.result.0 found.table found.here c.index_of-k.result at.0 at.1 (at.2 ∙ ap (λ (f : Flat). f.region) found.is)
