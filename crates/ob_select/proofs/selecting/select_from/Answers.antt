use Rattle.std.proofs.Common.{sym, ◌∙◌, Ok, Err}
use Rattle.std.proofs.lemmas.Result.{err_from_is_err_and}
use Rattle.ob_select.specs.declared.selecting.Selected.TheVariants.{Rows, Refused}
use Rattle.ob_select.specs.Selecting.{selection_of}
use Rattle.ob_select.proofs.SelectEnds.{end_uncounted, end_none, end_refused, end_first, end_second_at, counts_at, some_of, planned_first, planned_second, hashed_first}
use Rattle.ob_select.proofs.SelectPadded.{pad_some, planned_padded, spare_padded, end_padded}
use Rattle.ob_select.proofs.selecting.select_from.Goals as goal
use Rattle.ob_select.proofs.RoomLemmas.{free_after}

pub returns-in_err-counted-clause-selects : goal.returns-in_err-counted-clause-selects
returns-in_err-counted-clause-selects g c =
    let q = selection_of c.args.public.now c.args.query.now in
    let may = c.requires.may in
    let p = err_from_is_err_and c.from_residual.result c.from_residual.ensures.1 in
    rw (p.1, p.2, c.requires.fresh) (end_uncounted g.E.Emit.grew g.E.Emit.cut g.E.Emit.faults q c.args.room.now _ _ may _ _ (counts_at q _ _ _ _ may.free.pack c.in_err-counted.ensures.counts))

pub returns-then-counted-eq0-clause-selects : goal.returns-then-counted-eq0-clause-selects
returns-then-counted-eq0-clause-selects g c =
    let q = selection_of c.args.public.now c.args.query.now in
    let may = c.requires.may in
    rw (c.requires.fresh, c.from.ensures) (end_none g.E.Emit.grew g.E.Emit.cut g.E.Emit.faults q c.args.room.now _ _ may c.in_default.is c.in_ok-counted.counted.k c.in_ok-counted.counted.consecutive (counts_at q _ _ _ _ may.free.pack c.in_ok-counted.ensures.counts) _ _ _ c.if-counted-eq0.true c.emit_none.ensures)

pub returns-in_default-plan_of-clause-selects : goal.returns-in_default-plan_of-clause-selects
returns-in_default-plan_of-clause-selects g c =
    let q = selection_of c.args.public.now c.args.query.now in
    let may = c.requires.may in
    let k = c.in_ok-counted.counted.k in
    let c1 = c.in_ok-counted.counted.consecutive in
    let counts = counts_at q _ _ _ _ may.free.pack c.in_ok-counted.ensures.counts in
    let least = some_of k c.if-counted-eq0.false in
    let none = c.plan_of.ensures.none c.in_default-plan_of.is in
    rw (c.requires.fresh, c.from.ensures) (end_refused g.E.Emit.grew g.E.Emit.cut g.E.Emit.faults q c.args.room.now _ _ may c.in_default.is k c1 counts c.args.out.now least none.0 none.1)

pub select_by-requires-clause-may : goal.select_by-requires-clause-may
select_by-requires-clause-may g c =
    let q = selection_of c.args.public.now c.args.query.now in
    let may = c.requires.may in
    let k = c.in_ok-counted.counted.k in
    let c1 = c.in_ok-counted.counted.consecutive in
    let counts = counts_at q _ _ _ _ may.free.pack c.in_ok-counted.ensures.counts in
    let least = some_of k c.if-counted-eq0.false in
    planned_first q c.args.room.now _ _ may k c1 counts least c.count.new.room (free_after _ _ _ _ may.free c.count.ensures.room) c.in-Some-plan_of.plan

pub returns-in_err-n-clause-selects : goal.returns-in_err-n-clause-selects
returns-in_err-n-clause-selects g c =
    let q = selection_of c.args.public.now c.args.query.now in
    let may = c.requires.may in
    let k = c.in_ok-counted.counted.k in
    let c1 = c.in_ok-counted.counted.consecutive in
    let counts = counts_at q _ _ _ _ may.free.pack c.in_ok-counted.ensures.counts in
    let least = some_of k c.if-counted-eq0.false in
    let chosen = c.in-Some-plan_of.ensures.some in
    let p = err_from_is_err_and c.from_residual-in_err-n.result c.from_residual-in_err-n.ensures.1 in
    rw (p.1, p.2, c.requires.fresh, c.from.ensures) (end_first g.E.Emit.grew g.E.Emit.cut g.E.Emit.faults q c.args.room.now _ _ may c.in_default.is k c1 counts c.in-Some-plan_of.plan chosen.1 least chosen.0 (Err c.in_err-n.field-0.0) _ _ _ tt c.in_err-n.ensures.selects)

pub returns-in-Rows-clause-selects : goal.returns-in-Rows-clause-selects
returns-in-Rows-clause-selects g c =
    let q = selection_of c.args.public.now c.args.query.now in
    let may = c.requires.may in
    let k = c.in_ok-counted.counted.k in
    let c1 = c.in_ok-counted.counted.consecutive in
    let counts = counts_at q _ _ _ _ may.free.pack c.in_ok-counted.ensures.counts in
    let least = some_of k c.if-counted-eq0.false in
    let chosen = c.in-Some-plan_of.ensures.some in
    let rows = rw c.in-Rows.is at c.in_ok-n.ensures.selects in
    rw (c.requires.fresh, c.from.ensures) (end_first g.E.Emit.grew g.E.Emit.cut g.E.Emit.faults q c.args.room.now _ _ may c.in_default.is k c1 counts c.in-Some-plan_of.plan chosen.1 least chosen.0 (Ok (Rows c.in-Rows.n)) _ _ _ tt rows)

pub returns-then-is_last-clause-selects : goal.returns-then-is_last-clause-selects
returns-then-is_last-clause-selects g c =
    let q = selection_of c.args.public.now c.args.query.now in
    let may = c.requires.may in
    let k = c.in_ok-counted.counted.k in
    let c1 = c.in_ok-counted.counted.consecutive in
    let counts = counts_at q _ _ _ _ may.free.pack c.in_ok-counted.ensures.counts in
    let least = some_of k c.if-counted-eq0.false in
    let chosen = c.in-Some-plan_of.ensures.some in
    let refused = rw c.in-Refused.is at c.in_ok-n.ensures.selects in
    rw (c.requires.fresh, c.from.ensures) (end_first g.E.Emit.grew g.E.Emit.cut g.E.Emit.faults q c.args.room.now _ _ may c.in_default.is k c1 counts c.in-Some-plan_of.plan chosen.1 least chosen.0 (Ok (Refused c.in-Refused.refusal)) _ _ _ (c.is_last.ensures.last c.if-is_last.true) refused)

pub select_by-requires-in-Refused-clause-may : goal.select_by-requires-in-Refused-clause-may
select_by-requires-in-Refused-clause-may g c =
    let q = selection_of c.args.public.now c.args.query.now in
    let may = c.requires.may in
    let k = c.in_ok-counted.counted.k in
    let c1 = c.in_ok-counted.counted.consecutive in
    let counts = counts_at q _ _ _ _ may.free.pack c.in_ok-counted.ensures.counts in
    let least = some_of k c.if-counted-eq0.false in
    let refused = rw c.in-Refused.is at c.in_ok-n.ensures.selects in
    let first = hashed_first g.E.Emit.grew g.E.Emit.cut g.E.Emit.faults q c.in-Some-plan_of.plan k c.in-Refused.refusal _ _ _ _ refused in
    planned_second q c.args.room.now _ _ may k c1 counts least c.select_by.new.room (free_after _ _ _ _ (free_after _ _ _ _ may.free c.count.ensures.room) c.select_by.ensures.room.same) _ first.3.ran.ok

pub returns-else-is_last-clause-selects : goal.returns-else-is_last-clause-selects
returns-else-is_last-clause-selects g c =
    let q = selection_of c.args.public.now c.args.query.now in
    let may = c.requires.may in
    let k = c.in_ok-counted.counted.k in
    let c1 = c.in_ok-counted.counted.consecutive in
    let counts = counts_at q _ _ _ _ may.free.pack c.in_ok-counted.ensures.counts in
    let least = some_of k c.if-counted-eq0.false in
    let chosen = c.in-Some-plan_of.ensures.some in
    let refused = rw c.in-Refused.is at c.in_ok-n.ensures.selects in
    let first = hashed_first g.E.Emit.grew g.E.Emit.cut g.E.Emit.faults q c.in-Some-plan_of.plan k c.in-Refused.refusal _ _ _ _ refused in
    let free = c.is_last.ensures.followed c.if-is_last.false in
    rw (c.requires.fresh, c.from.ensures, first.1) (end_second_at g.E.Emit.grew g.E.Emit.cut g.E.Emit.faults q c.args.room.now _ _ may c.in_default.is k c1 counts least free (sym first.1 ∙ chosen.0) first.0 _ c.args.out.now first.3 c.select_by-in-Refused.result _ _ _ first.2 c.select_by-in-Refused.ensures.selects)

pub select_padded-requires-clause-may : goal.select_padded-requires-clause-may
select_padded-requires-clause-may g c =
    let q = selection_of c.args.public.now c.args.query.now in
    let may = c.requires.may in
    let counts = counts_at q _ _ _ _ may.free.pack c.in_ok-counted.ensures.counts in
    planned_padded q c.in-Some.pad c.in-Some.is c.in_ok-counted.counted.k c.in_ok-counted.counted.consecutive _ _ counts (pad_some q c.in-Some.pad c.in-Some.is may.settings.padded).1 c.args.room.now may c.count.new.room
    (free_after _ _ _ _ may.free c.count.ensures.room)

pub select_padded-requires-clause-spare : goal.select_padded-requires-clause-spare
select_padded-requires-clause-spare g c =
    let q = selection_of c.args.public.now c.args.query.now in
    let may = c.requires.may in
    let counts = counts_at q _ _ _ _ may.free.pack c.in_ok-counted.ensures.counts in
    spare_padded q c.in-Some.pad c.in-Some.is c.in_ok-counted.counted.k c.in_ok-counted.counted.consecutive _ _ counts (pad_some q c.in-Some.pad c.in-Some.is may.settings.padded).1 c.args.room.now may

pub select_padded-requires-clause-plan : goal.select_padded-requires-clause-plan
select_padded-requires-clause-plan g c = let q = selection_of c.args.public.now c.args.query.now in (pad_some q c.in-Some.pad c.in-Some.is c.requires.may.settings.padded).1

pub returns-in-Some-clause-selects : goal.returns-in-Some-clause-selects
returns-in-Some-clause-selects g c =
    let q = selection_of c.args.public.now c.args.query.now in
    let may = c.requires.may in
    let counts = counts_at q _ _ _ _ may.free.pack c.in_ok-counted.ensures.counts in
    rw c.requires.fresh (end_padded q c.in-Some.pad c.in-Some.is c.in_ok-counted.counted.k c.in_ok-counted.counted.consecutive _ _ counts (pad_some q c.in-Some.pad c.in-Some.is may.settings.padded).1
    g.E.Emit.grew g.E.Emit.cut g.E.Emit.faults c.args.room.now may c.select_padded.result _ _ _ c.select_padded.ensures.selects)
