use Rattle.std.proofs.Common.{◌≡◌, refl, sym, ◌∙◌, ap, subst, arith, length}
use Rattle.std.proofs.lemmas.Result.{err_from_is_err_and}
use Rattle.ob_base.specs.declared.config.Plan.{Plan}
use Rattle.ob_base.specs.declared.config.Planner.TheVariants.{Forced}
use Rattle.ob_base.specs.declared.refusal.Refusal.TheVariants.{PadPassed}
use Rattle.ob_base.specs.Plans.{MayPad}
use Rattle.ob_vault.specs.Places.{at}
use Rattle.ob_room.specs.RoomState.{RoomState}
use Rattle.ob_flat.specs.declared.flat.Flat.{Flat}
use Rattle.ob_emit.specs.Emitting.{AreColumns}
use Rattle.ob_select.specs.Selecting.{selection_of, places}
use Rattle.ob_select.specs.Results.{Planned, fresh_flat, make_part, padded_to}
use Rattle.ob_select.proofs.ResultPadded.{may_choose, padded_at, made_at, padded_goes, padded_fits, pad_holds, pad_passed, written_at, idle_at}
use Rattle.ob_select.proofs.ResultSteps.{whole-length, by_make, by_emit_ok, by_emit_err, by_walk_ok, by_walk_err, emits_at, walks_at, spare_made, spare_at, fits_fresh, fits_at, blocks_some}
use Rattle.ob_select.proofs.results.select_padded.Goals as goal

pub make_padded-requires-clause-may : goal.make_padded-requires-clause-may
make_padded-requires-clause-may g c =
    let may = c.requires.may in
    let rows = c.min-rows.ensures in
    record {
      settings = may.settings;
      free = may.free;
      ready = may.ready;
      few = may.few;
      flat = may.flat;
      size = may.size;
      columns = may.columns;
      some = omega (arith, may.some, rows);
      most = omega (arith, may.most, rows);
    }

pub make_padded-requires-clause-spare : goal.make_padded-requires-clause-spare
make_padded-requires-clause-spare g c =
    let q = selection_of c.args.public.now c.args.query.now in
    let g0 = c.args.vault.now.next in
    let same = padded_at q c.padded_plan-plan.result c.min-rows.result c.args.pad c.args.k c.min-rows.ensures c.padded_plan-plan.ensures in
    omega (arith, ap (λ (r : Planned). length (make_part r g0)) same, whole-length (padded_to q c.args.pad c.args.k) g0 c.requires.may.settings.pack_least, c.requires.spare)

pub make_padded-requires-clause-plan : goal.make_padded-requires-clause-plan
make_padded-requires-clause-plan g c =
    let p = c.args.public.now in
    let q = selection_of p c.args.query.now in
    subst (λ (x : Plan). MayPad (Forced x)) (sym c.padded_plan-plan.ensures) (may_choose p.planner p.pack p.buffer q.flat.capacity c.min-rows.result c.requires.plan)

pub returns-in_err-fresh-clause-selects : goal.returns-in_err-fresh-clause-selects
returns-in_err-fresh-clause-selects g c =
    let may = c.requires.may in
    let p = err_from_is_err_and c.from_residual.result c.from_residual.ensures.1 in
    let q = selection_of c.args.public.now c.args.query.now in
    let r = padded_to q c.args.pad c.args.k in
    let v = (at g.R.Revisions.state c.args.vault.now (g.S.BlockStore.state c.args.store.now)).vault in
    let some = may.settings.pack_least in
    let blocks = blocks_some r v.next (fits_fresh r v.next may.settings may.size may.some may.most) some in
    let same = padded_at q c.padded_plan-plan.result c.min-rows.result c.args.pad c.args.k c.min-rows.ensures c.padded_plan-plan.ensures in
    let made = made_at q _ _ c.args.pad c.args.k _ _ _ same (c.in_err-fresh.ensures.makes c.args.pad c.args.k) in
    rw (p.1, p.2) (by_make g.E.Emit.grew g.E.Emit.cut g.E.Emit.faults r _ _ some _ _ blocks made)

pub walk_result-requires-clause-spare : goal.walk_result-requires-clause-spare
walk_result-requires-clause-spare g c =
    let may = c.requires.may in
    let q = selection_of c.args.public.now c.args.query.now in
    let r = padded_to q c.args.pad c.args.k in
    let v = (at g.R.Revisions.state c.args.vault.now (g.S.BlockStore.state c.args.store.now)).vault in
    let pack : c.make_padded.new.room.pack ≡ r.selection.public.pack = ap (λ (x : RoomState). x.pack) c.make_padded.ensures.room.same ∙ may.free.pack in
    let same = padded_at q c.padded_plan-plan.result c.min-rows.result c.args.pad c.args.k c.min-rows.ensures c.padded_plan-plan.ensures in
    let made = made_at q _ _ c.args.pad c.args.k _ _ _ same (c.in_ok-fresh.ensures.makes c.args.pad c.args.k) in
    spare_at _ _ _ (fresh_flat r v.next) _ pack made.value (spare_made r _ _ r.selection.ending may.settings.pack_least c.requires.spare made.ran.ok)

pub walk_result-requires-clause-written : goal.walk_result-requires-clause-written
walk_result-requires-clause-written g c =
    let may = c.requires.may in
    let q = selection_of c.args.public.now c.args.query.now in
    let r = padded_to q c.args.pad c.args.k in
    let v = (at g.R.Revisions.state c.args.vault.now (g.S.BlockStore.state c.args.store.now)).vault in
    let pack : c.make_padded.new.room.pack ≡ r.selection.public.pack = ap (λ (x : RoomState). x.pack) c.make_padded.ensures.room.same ∙ may.free.pack in
    let same = padded_at q c.padded_plan-plan.result c.min-rows.result c.args.pad c.args.k c.min-rows.ensures c.padded_plan-plan.ensures in
    let made = made_at q _ _ c.args.pad c.args.k _ _ _ same (c.in_ok-fresh.ensures.makes c.args.pad c.args.k) in
    written_at _ _ _ (fresh_flat r v.next) _ pack made.value made.written

pub walk_result-requires-clause-size : goal.walk_result-requires-clause-size
walk_result-requires-clause-size g c =
    let may = c.requires.may in
    let q = selection_of c.args.public.now c.args.query.now in
    let r = padded_to q c.args.pad c.args.k in
    let v = (at g.R.Revisions.state c.args.vault.now (g.S.BlockStore.state c.args.store.now)).vault in
    let pack : c.make_padded.new.room.pack ≡ r.selection.public.pack = ap (λ (x : RoomState). x.pack) c.make_padded.ensures.room.same ∙ may.free.pack in
    let same = padded_at q c.padded_plan-plan.result c.min-rows.result c.args.pad c.args.k c.min-rows.ensures c.padded_plan-plan.ensures in
    let made = made_at q _ _ c.args.pad c.args.k _ _ _ same (c.in_ok-fresh.ensures.makes c.args.pad c.args.k) in
    fits_at _ _ _ (fresh_flat r v.next) pack made.value (fits_fresh r v.next may.settings may.size may.some may.most)

pub walk_result-requires-clause-room : goal.walk_result-requires-clause-room
walk_result-requires-clause-room g c =
    let may = c.requires.may in
    let q = selection_of c.args.public.now c.args.query.now in
    let same = padded_at q c.padded_plan-plan.result c.min-rows.result c.args.pad c.args.k c.min-rows.ensures c.padded_plan-plan.ensures in
    let made = made_at q _ _ c.args.pad c.args.k _ _ _ same (c.in_ok-fresh.ensures.makes c.args.pad c.args.k) in
    idle_at c.args.room.now _ _ _ c.make_padded.ensures.room.same made.value may.size.wide may.free.idle

pub emit_result-requires-clause-spare : goal.emit_result-requires-clause-spare
emit_result-requires-clause-spare g c =
    let may = c.requires.may in
    let q = selection_of c.args.public.now c.args.query.now in
    let r = padded_to q c.args.pad c.args.k in
    let v = (at g.R.Revisions.state c.args.vault.now (g.S.BlockStore.state c.args.store.now)).vault in
    let pack : c.make_padded.new.room.pack ≡ r.selection.public.pack = ap (λ (x : RoomState). x.pack) c.make_padded.ensures.room.same ∙ may.free.pack in
    let same = padded_at q c.padded_plan-plan.result c.min-rows.result c.args.pad c.args.k c.min-rows.ensures c.padded_plan-plan.ensures in
    let made = made_at q _ _ c.args.pad c.args.k _ _ _ same (c.in_ok-fresh.ensures.makes c.args.pad c.args.k) in
    spare_at _ _ _ (fresh_flat r v.next) _ pack made.value (spare_made r _ _ r.selection.ending may.settings.pack_least c.requires.spare made.ran.ok)

pub emit_result-requires-clause-written : goal.emit_result-requires-clause-written
emit_result-requires-clause-written g c =
    let may = c.requires.may in
    let q = selection_of c.args.public.now c.args.query.now in
    let r = padded_to q c.args.pad c.args.k in
    let v = (at g.R.Revisions.state c.args.vault.now (g.S.BlockStore.state c.args.store.now)).vault in
    let pack : c.make_padded.new.room.pack ≡ r.selection.public.pack = ap (λ (x : RoomState). x.pack) c.make_padded.ensures.room.same ∙ may.free.pack in
    let same = padded_at q c.padded_plan-plan.result c.min-rows.result c.args.pad c.args.k c.min-rows.ensures c.padded_plan-plan.ensures in
    let made = made_at q _ _ c.args.pad c.args.k _ _ _ same (c.in_ok-fresh.ensures.makes c.args.pad c.args.k) in
    written_at _ _ _ (fresh_flat r v.next) _ pack made.value made.written

pub emit_result-requires-clause-size : goal.emit_result-requires-clause-size
emit_result-requires-clause-size g c =
    let may = c.requires.may in
    let q = selection_of c.args.public.now c.args.query.now in
    let r = padded_to q c.args.pad c.args.k in
    let v = (at g.R.Revisions.state c.args.vault.now (g.S.BlockStore.state c.args.store.now)).vault in
    let pack : c.make_padded.new.room.pack ≡ r.selection.public.pack = ap (λ (x : RoomState). x.pack) c.make_padded.ensures.room.same ∙ may.free.pack in
    let same = padded_at q c.padded_plan-plan.result c.min-rows.result c.args.pad c.args.k c.min-rows.ensures c.padded_plan-plan.ensures in
    let made = made_at q _ _ c.args.pad c.args.k _ _ _ same (c.in_ok-fresh.ensures.makes c.args.pad c.args.k) in
    fits_at _ _ _ (fresh_flat r v.next) pack made.value (fits_fresh r v.next may.settings may.size may.some may.most)

pub emit_result-requires-clause-room : goal.emit_result-requires-clause-room
emit_result-requires-clause-room g c =
    let may = c.requires.may in
    let q = selection_of c.args.public.now c.args.query.now in
    let same = padded_at q c.padded_plan-plan.result c.min-rows.result c.args.pad c.args.k c.min-rows.ensures c.padded_plan-plan.ensures in
    let made = made_at q _ _ c.args.pad c.args.k _ _ _ same (c.in_ok-fresh.ensures.makes c.args.pad c.args.k) in
    idle_at c.args.room.now _ _ _ c.make_padded.ensures.room.same made.value may.size.wide may.free.idle

pub emit_result-requires-clause-columns : goal.emit_result-requires-clause-columns
emit_result-requires-clause-columns g c =
    let q = selection_of c.args.public.now c.args.query.now in
    let same = padded_at q c.padded_plan-plan.result c.min-rows.result c.args.pad c.args.k c.min-rows.ensures c.padded_plan-plan.ensures in
    let made = made_at q _ _ c.args.pad c.args.k _ _ _ same (c.in_ok-fresh.ensures.makes c.args.pad c.args.k) in
    subst (λ (f : Flat). AreColumns f.schema c.args.query.now.cols.now) (sym made.value) c.requires.may.columns

pub returns-in_err-walk_result-clause-selects : goal.returns-in_err-walk_result-clause-selects
returns-in_err-walk_result-clause-selects g c =
    let may = c.requires.may in
    let q = selection_of c.args.public.now c.args.query.now in
    let r = padded_to q c.args.pad c.args.k in
    let v = (at g.R.Revisions.state c.args.vault.now (g.S.BlockStore.state c.args.store.now)).vault in
    let pack : c.make_padded.new.room.pack ≡ r.selection.public.pack = ap (λ (x : RoomState). x.pack) c.make_padded.ensures.room.same ∙ may.free.pack in
    let same = padded_at q c.padded_plan-plan.result c.min-rows.result c.args.pad c.args.k c.min-rows.ensures c.padded_plan-plan.ensures in
    let made = made_at q _ _ c.args.pad c.args.k _ _ _ same (c.in_ok-fresh.ensures.makes c.args.pad c.args.k) in
    let p = err_from_is_err_and c.from_residual-in_err-walk_result.result c.from_residual-in_err-walk_result.ensures.1 in
    rw (p.1, p.2) (by_walk_err g.E.Emit.grew g.E.Emit.cut g.E.Emit.faults r _ _ may.settings.pack_least _ _ made _ _ (walks_at _ _ _ (fresh_flat r v.next) _ _ _ pack made.value c.in_err-walk_result.ensures.walks))

pub returns-then-k-pad-clause-selects : goal.returns-then-k-pad-clause-selects
returns-then-k-pad-clause-selects g c =
    let may = c.requires.may in
    let q = selection_of c.args.public.now c.args.query.now in
    let r = padded_to q c.args.pad c.args.k in
    let v = (at g.R.Revisions.state c.args.vault.now (g.S.BlockStore.state c.args.store.now)).vault in
    let pack : c.make_padded.new.room.pack ≡ r.selection.public.pack = ap (λ (x : RoomState). x.pack) c.make_padded.ensures.room.same ∙ may.free.pack in
    let same = padded_at q c.padded_plan-plan.result c.min-rows.result c.args.pad c.args.k c.min-rows.ensures c.padded_plan-plan.ensures in
    let made = made_at q _ _ c.args.pad c.args.k _ _ _ same (c.in_ok-fresh.ensures.makes c.args.pad c.args.k) in
    by_walk_ok g.E.Emit.grew g.E.Emit.cut g.E.Emit.faults r _ _ may.settings.pack_least _ _ made _ _ PadPassed refl (λ s. pad_passed c.args.pad c.args.k (places q s.slots) s.suits.count c.if-k-pad.true) c.requires.spare (walks_at _ _ _ (fresh_flat r v.next) _ _ _ pack made.value c.in_ok-walk_result.ensures.walks)

pub returns-in_err-n-clause-selects : goal.returns-in_err-n-clause-selects
returns-in_err-n-clause-selects g c =
    let may = c.requires.may in
    let q = selection_of c.args.public.now c.args.query.now in
    let r = padded_to q c.args.pad c.args.k in
    let v = (at g.R.Revisions.state c.args.vault.now (g.S.BlockStore.state c.args.store.now)).vault in
    let pack : c.make_padded.new.room.pack ≡ r.selection.public.pack = ap (λ (x : RoomState). x.pack) c.make_padded.ensures.room.same ∙ may.free.pack in
    let same = padded_at q c.padded_plan-plan.result c.min-rows.result c.args.pad c.args.k c.min-rows.ensures c.padded_plan-plan.ensures in
    let made = made_at q _ _ c.args.pad c.args.k _ _ _ same (c.in_ok-fresh.ensures.makes c.args.pad c.args.k) in
    let p = err_from_is_err_and c.from_residual-in_err-n.result c.from_residual-in_err-n.ensures.1 in
    rw (p.1, p.2) (by_emit_err g.E.Emit.grew g.E.Emit.cut g.E.Emit.faults r _ _ may.settings.pack_least _ _ made _ _ (λ s. (made.told s).0)
    (λ s. pad_holds c.args.pad c.args.k (places q s.slots) s.suits.count c.if-k-pad.false) (padded_goes q c.args.pad c.args.k c.requires.plan)
    (λ s padded. padded_fits c.args.pad q.flat.capacity c.args.k c.if-k-pad.false c.requires.count)
    _ (emits_at g.E.Emit.grew g.E.Emit.cut g.E.Emit.faults _ _ _ (fresh_flat r v.next) _ _ _ _ _ _ pack made.value c.in_err-n.ensures.emits))

pub returns-clause-selects : goal.returns-clause-selects
returns-clause-selects g c =
    let may = c.requires.may in
    let q = selection_of c.args.public.now c.args.query.now in
    let r = padded_to q c.args.pad c.args.k in
    let v = (at g.R.Revisions.state c.args.vault.now (g.S.BlockStore.state c.args.store.now)).vault in
    let pack : c.make_padded.new.room.pack ≡ r.selection.public.pack = ap (λ (x : RoomState). x.pack) c.make_padded.ensures.room.same ∙ may.free.pack in
    let same = padded_at q c.padded_plan-plan.result c.min-rows.result c.args.pad c.args.k c.min-rows.ensures c.padded_plan-plan.ensures in
    let made = made_at q _ _ c.args.pad c.args.k _ _ _ same (c.in_ok-fresh.ensures.makes c.args.pad c.args.k) in
    by_emit_ok g.E.Emit.grew g.E.Emit.cut g.E.Emit.faults r _ _ may.settings.pack_least _ _ made _ _ (λ s. (made.told s).0)
    (λ s. pad_holds c.args.pad c.args.k (places q s.slots) s.suits.count c.if-k-pad.false) (padded_goes q c.args.pad c.args.k c.requires.plan)
    (λ s padded. padded_fits c.args.pad q.flat.capacity c.args.k c.if-k-pad.false c.requires.count)
    _ c.requires.spare (emits_at g.E.Emit.grew g.E.Emit.cut g.E.Emit.faults _ _ _ (fresh_flat r v.next) _ _ _ _ _ _ pack made.value c.in_ok-n.ensures.emits)
