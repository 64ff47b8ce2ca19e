use Rattle.ob_tables.proofs.Words.{ap, refl, slice_get_read, slice_get_within, Some, sym, ◌∙◌, ◌≡◌}
use Rattle.ob_base.specs.declared.schema.Table.{Table}
use Rattle.ob_tables.proofs.SavedLemmas.{region_first, region_none}
use Rattle.ob_tables.proofs.TableLemmas.{got_or}
use Rattle.ob_tables.proofs.saving.region_of.Goals as goal

pub bounds-tables-i : goal.bounds-tables-i
bounds-tables-i c = let found = c.in-Some.ensures.found in slice_get_within c.args.tables.now c.in-Some.i found.0 found.1.get

pub returns-in-Some : goal.returns-in-Some
returns-in-Some c =
    let found = c.in-Some.ensures.found in
    let read = slice_get_read c.args.tables.now _ c.in-Some.i _ refl (slice_get_within c.args.tables.now c.in-Some.i found.0 found.1.get) c.index-tables-i.is in
    let here = found.1.get in
    let same : found.0 ≡ c.index-tables-i.result = cc (here, read) in
    ap (λ (t : Table). Some t.region) (got_or c.args.tables.now c.in-Some.i c.index-tables-i.result c.index-tables-i.result read)
    ∙ sym (region_first c.args.name.now c.args.tables.now c.in-Some.i c.index-tables-i.result read (ap (λ (t : Table). t.heading.name) (sym same) ∙ found.1.named)
    (λ j u below at named. c.in-Some.ensures.first j u below (record { get = at; named = named })))

pub returns-in-None : goal.returns-in-None
returns-in-None c = sym (region_none c.args.name.now c.args.tables.now (λ j u at named. c.in-None.ensures.none j u (record { get = at; named = named })))
