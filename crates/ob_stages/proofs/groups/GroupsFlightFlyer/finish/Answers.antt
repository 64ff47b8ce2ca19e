use Rattle.std.proofs.Common.{List, length, take, Ok, Err, sym, subst}
use Rattle.ob_row.specs.Spelling.{kind_at}
use Rattle.ob_group.specs.Held.{HasGroups}
use Rattle.ob_group.specs.Labels.{header}
use Rattle.ob_group.specs.Passes.{EmitsGroups}
use Rattle.ob_sql.specs.declared.stmt.Listed.{Listed}
use Rattle.ob_stages.proofs.GroupsEnds.{has_groups}
use Rattle.ob_stages.proofs.GroupsFinish.{finishes_failed, finishes_groups, finishes_many, finishes_midst, finishes_number}
use Rattle.ob_stages.proofs.groups.GroupsFlightFlyer.finish.Goals as goal

pub returns-then-self-clause-finishes : goal.returns-then-self-clause-finishes
returns-then-self-clause-finishes g c =
    let emit = g.E.Emit in
    finishes_failed emit.grew emit.cut emit.faults c.args.self.now c.args.kept.now c.requires.over c.requires.going c.args.out.now c.end.result c.end.new.self c.end.ensures.answer c.end.ensures.ends c.if-self.true

pub returns-then-self-kept-clause-finishes : goal.returns-then-self-kept-clause-finishes
returns-then-self-kept-clause-finishes g c =
    let emit = g.E.Emit in
    finishes_many emit.grew emit.cut emit.faults c.args.self.now c.args.kept.now c.requires.over c.requires.going c.if-self.false c.args.out.now
    c.end-then-self-kept.result c.end-then-self-kept.new.self c.end-then-self-kept.ensures.answer c.end-then-self-kept.ensures.ends c.if-self-kept.true

pub emit_groups-requires-clause-held : goal.emit_groups-requires-clause-held
emit_groups-requires-clause-held g c =
    let f = c.args.self.now in
    let kept = c.args.kept.now in
    let held = c.requires.holds.held in
    subst (λ (l : List Listed). HasGroups (kind_at f.reading.flat.schema f.key) (length (take (length l) f.items)) f.n kept) (sym c.as_slice-count.ensures)
    (has_groups f kept held.events c.requires.holds.world held.holds c.requires.over c.requires.going c.if-self.false)

pub returns-in-Ok-close-clause-finishes : goal.returns-in-Ok-close-clause-finishes
returns-in-Ok-close-clause-finishes g c =
    let emit = g.E.Emit in
    let f = c.args.self.now in
    let cs = f.reading.flat.schema in
    let given = subst (λ (l : List Listed). EmitsGroups {T = Unit {0}} emit.grew emit.cut emit.faults (kind_at cs f.key) (take (length l) f.items) f.n c.args.kept.now (header cs f.key (take (length l) f.items)) (Ok tt) c.args.out.now c.emit_groups.new.out) c.as_slice-count.ensures c.in-Ok.ensures in
    finishes_groups emit.grew emit.cut emit.faults f c.args.kept.now c.requires.over c.requires.going c.if-self.false c.if-self-kept.false c.args.out.now c.emit_groups.new.out c.close.new.self
    c.end-in-Ok-close.result c.end-in-Ok-close.new.self c.end-in-Ok-close.ensures.answer c.end-in-Ok-close.ensures.ends given c.in-Ok-close.ensures.ok

pub returns-in-Err-close-clause-finishes : goal.returns-in-Err-close-clause-finishes
returns-in-Err-close-clause-finishes g c =
    let emit = g.E.Emit in
    let f = c.args.self.now in
    let cs = f.reading.flat.schema in
    let given = subst (λ (l : List Listed). EmitsGroups {T = Unit {0}} emit.grew emit.cut emit.faults (kind_at cs f.key) (take (length l) f.items) f.n c.args.kept.now (header cs f.key (take (length l) f.items)) (Ok tt) c.args.out.now c.emit_groups.new.out) c.as_slice-count.ensures c.in-Ok.ensures in
    finishes_number emit.grew emit.cut emit.faults f c.args.kept.now c.requires.over c.requires.going c.if-self.false c.if-self-kept.false c.args.out.now c.emit_groups.new.out c.close.new.self
    c.in-Err-close.e given c.in-Err-close.ensures.err

pub returns-in-Err-clause-finishes : goal.returns-in-Err-clause-finishes
returns-in-Err-clause-finishes g c =
    let emit = g.E.Emit in
    let f = c.args.self.now in
    let cs = f.reading.flat.schema in
    let given = subst (λ (l : List Listed). EmitsGroups {T = Unit {0}} emit.grew emit.cut emit.faults (kind_at cs f.key) (take (length l) f.items) f.n c.args.kept.now (header cs f.key (take (length l) f.items)) (Err c.in-Err.e) c.args.out.now c.emit_groups.new.out) c.as_slice-count.ensures c.in-Err.ensures in
    finishes_midst emit.grew emit.cut emit.faults f c.args.kept.now c.requires.over c.requires.going c.if-self.false c.if-self-kept.false c.args.out.now c.emit_groups.new.out
    c.in-Err.e given
