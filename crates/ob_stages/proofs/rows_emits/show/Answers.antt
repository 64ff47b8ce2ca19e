use Rattle.std.proofs.Common.{sym, ◌∙◌}
use Rattle.ob_stages.specs.RowsStates.{rows_at}
use Rattle.ob_stages.proofs.RowsEmits.{shows_head, shows_head_short}
use Rattle.ob_stages.proofs.rows_emits.show.Goals as goal

pub returns-in-Err-Failed-clause-shows : goal.returns-in-Err-Failed-clause-shows
returns-in-Err-Failed-clause-shows g c =
    shows_head g.E.Emit.grew g.E.Emit.cut g.E.Emit.faults _ (rows_at c.args.flight.now) c.args.fresh.now c.args.place _ c.args.out.now c.begin.new.out (sym c.passes_pad.ensures ∙ c.if-passes_pad.false) c.in-Err-Failed.field-0 c.in-Err-Failed.ensures c.in-Err-Failed.field-0-is

pub returns-in-Err-NoMemory-clause-shows : goal.returns-in-Err-NoMemory-clause-shows
returns-in-Err-NoMemory-clause-shows g c =
    shows_head_short g.E.Emit.grew g.E.Emit.cut g.E.Emit.faults _ (rows_at c.args.flight.now) c.args.fresh.now c.args.place _ c.args.out.now c.begin.new.out (sym c.passes_pad.ensures ∙ c.if-passes_pad.false) c.in-Err-NoMemory.field-0 c.in-Err-NoMemory.ensures c.in-Err-NoMemory.field-0-is
