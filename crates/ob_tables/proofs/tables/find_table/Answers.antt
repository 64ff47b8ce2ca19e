use Rattle.ob_tables.proofs.Words.{ap, arith, bytes_eq-Decides, cases_eq, inl, inr, refl, slice_get_read, slice_get_within, sym, ◌∙◌, ◌≡◌}
use Rattle.ob_base.specs.declared.schema.Table.{Table}
use Rattle.ob_tables.proofs.tables.find_table.Goals as goal

pub returns-then-eq-clause-found : goal.returns-then-eq-clause-found
returns-then-eq-clause-found c = (
  c.index-tables-i.result,
  record {
    get = slice_get_read c.args.tables.now _ c.loop-i.i _ refl (omega arith) c.index-tables-i.is;
    named = (bytes_eq-Decides c.index-tables-i.result.heading.name c.args.name.now).0 (sym c.eq.ensures ∙ c.if-eq.true);
  },
)

pub returns-then-eq-clause-first : goal.returns-then-eq-clause-first
returns-then-eq-clause-first c = λ j t below at. c.loop-i.invariant j t below at.get at.named

pub loop-i-preserved : goal.loop-i-preserved
loop-i-preserved c = λ j t less is same. elim (cases_eq j c.loop-i.i) [
  | inl here ↦
      let read = slice_get_read c.args.tables.now _ c.loop-i.i _ refl (omega arith) c.index-tables-i.is in
      let one : t ≡ c.index-tables-i.result = cc (is, here, read) in
      let name = ap (λ (x : Table). x.heading.name) one in
      let hit = (bytes_eq-Decides c.index-tables-i.result.heading.name c.args.name.now).1 (sym name ∙ same) in
      absurd (cc (hit, c.eq.ensures, c.if-eq.false))
  | inr off ↦ c.loop-i.invariant j t (omega arith) is same
]

pub returns-clause-none : goal.returns-clause-none
returns-clause-none c = λ i t at. let within = slice_get_within c.args.tables.now i t at.get in c.loop-i.invariant i t (omega arith) at.get at.named
