use Rattle.std.proofs.Common.{◌≡◌, refl, sym, ◌∙◌, ap, arith, length}
use Rattle.std.specs.Option.{option_map}
use Rattle.ob_base.specs.declared.refusal.Refusal.TheVariants.{Overflow}
use Rattle.ob_select.proofs.ResultRows.{rows_some}
use Rattle.std.proofs.lemmas.Result.{err_from_is_err_and}
use Rattle.ob_vault.specs.Places.{at}
use Rattle.ob_vault.proofs.WordLemmas.{ready_rests}
use Rattle.ob_flat.proofs.Resting.{flat_rests}
use Rattle.ob_room.specs.RoomState.{RoomState}
use Rattle.ob_select.specs.Selecting.{selection_of}
use Rattle.ob_select.specs.Results.{planned, fresh_flat}
use Rattle.ob_select.proofs.ResultSteps.{whole-length, by_none, by_rests, by_make, by_emit_ok, by_emit_err, by_walk_ok, by_walk_err, emits_at, walks_at, spare_made, spare_at, fits_fresh, fits_at, blocks_some, room_made}
use Rattle.ob_select.proofs.results.select_by.Goals as goal

pub make_result-requires-clause-may : goal.make_result-requires-clause-may
make_result-requires-clause-may g c =
    let may = c.requires.may in
    let rests = c.reserve.ensures.rests in
    let v = (at g.R.Revisions.state c.args.vault.now (g.S.BlockStore.state c.args.store.now)).vault in
    record {
      settings = may.settings;
      free = may.free;
      ready = ready_rests v _ _ rests may.ready;
      few = omega (arith, may.few, ap length rests.asked);
      flat = flat_rests v _ _ rests _ _ may.flat;
      size = may.size;
      columns = may.columns;
      some = may.some;
      most = may.most;
    }

pub make_result-requires-clause-spare : goal.make_result-requires-clause-spare
make_result-requires-clause-spare g c =
    let r = planned (selection_of c.args.public.now c.args.query.now) c.args.plan c.args.k in
    let next = c.args.vault.now.next in
    let long = c.result_length.ensures.length r.selection refl refl next in
    let enough = room_made c.reserve.result (sym c.is_err.ensures.value ∙ c.if-is_err.false) c.reserve.ensures.spare in
    omega (arith, long, enough, whole-length r next c.requires.may.settings.pack_least)

pub returns-then-is_err-clause-selects : goal.returns-then-is_err-clause-selects
returns-then-is_err-clause-selects g c =
    let may = c.requires.may in
    let v = (at g.R.Revisions.state c.args.vault.now (g.S.BlockStore.state c.args.store.now)).vault in
    by_none g.E.Emit.grew g.E.Emit.cut g.E.Emit.faults (planned (selection_of c.args.public.now c.args.query.now) c.args.plan c.args.k) v _ _ c.reserve.ensures.rests c.args.out.now refl may.ready may.settings.pack_least

pub returns-in_err-fresh-clause-selects : goal.returns-in_err-fresh-clause-selects
returns-in_err-fresh-clause-selects g c =
    let may = c.requires.may in
    let p = err_from_is_err_and c.from_residual.result c.from_residual.ensures.1 in
    let r = planned (selection_of c.args.public.now c.args.query.now) c.args.plan c.args.k in
    let v = (at g.R.Revisions.state c.args.vault.now (g.S.BlockStore.state c.args.store.now)).vault in
    let some = may.settings.pack_least in
    let blocks = blocks_some r v.next (fits_fresh r v.next may.settings may.size may.some may.most) some in
    rw (p.1, p.2) (by_rests g.E.Emit.grew g.E.Emit.cut g.E.Emit.faults r v _ _ c.reserve.ensures.rests _ _ _ _ may.ready
    (by_make g.E.Emit.grew g.E.Emit.cut g.E.Emit.faults r _ _ some _ _ blocks c.in_err-fresh.ensures.makes))

pub emit_result-requires-clause-spare : goal.emit_result-requires-clause-spare
emit_result-requires-clause-spare g c =
    let may = c.requires.may in
    let r = planned (selection_of c.args.public.now c.args.query.now) c.args.plan c.args.k in
    let v = (at g.R.Revisions.state c.args.vault.now (g.S.BlockStore.state c.args.store.now)).vault in
    let pack : c.make_result.new.room.pack ≡ r.selection.public.pack = ap (λ (x : RoomState). x.pack) c.make_result.ensures.room.same ∙ may.free.pack in
    let made = rw c.in-Done.is at c.in_ok-fresh.ensures.makes in
    let long = c.result_length.ensures.length r.selection refl refl v.next in
    let enough = room_made c.reserve.result (sym c.is_err.ensures.value ∙ c.if-is_err.false) c.reserve.ensures.spare in
    spare_at _ _ _ (fresh_flat r v.next) _ pack made.value (spare_made r _ _ r.selection.ending may.settings.pack_least (omega (arith, long, enough)) made.ran.ok)

pub emit_result-requires-clause-size : goal.emit_result-requires-clause-size
emit_result-requires-clause-size g c =
    let may = c.requires.may in
    let r = planned (selection_of c.args.public.now c.args.query.now) c.args.plan c.args.k in
    let v = (at g.R.Revisions.state c.args.vault.now (g.S.BlockStore.state c.args.store.now)).vault in
    let pack : c.make_result.new.room.pack ≡ r.selection.public.pack = ap (λ (x : RoomState). x.pack) c.make_result.ensures.room.same ∙ may.free.pack in
    let made = rw c.in-Done.is at c.in_ok-fresh.ensures.makes in
    fits_at _ _ _ (fresh_flat r v.next) pack made.value (fits_fresh r v.next may.settings may.size may.some may.most)

pub walk_result-requires-clause-spare : goal.walk_result-requires-clause-spare
walk_result-requires-clause-spare g c =
    let may = c.requires.may in
    let r = planned (selection_of c.args.public.now c.args.query.now) c.args.plan c.args.k in
    let v = (at g.R.Revisions.state c.args.vault.now (g.S.BlockStore.state c.args.store.now)).vault in
    let pack : c.make_result.new.room.pack ≡ r.selection.public.pack = ap (λ (x : RoomState). x.pack) c.make_result.ensures.room.same ∙ may.free.pack in
    let made = rw c.in-Overflow.is at c.in_ok-fresh.ensures.makes in
    let long = c.result_length.ensures.length r.selection refl refl v.next in
    let enough = room_made c.reserve.result (sym c.is_err.ensures.value ∙ c.if-is_err.false) c.reserve.ensures.spare in
    spare_at _ _ _ (fresh_flat r v.next) _ pack made.value (spare_made r _ _ r.selection.ending may.settings.pack_least (omega (arith, long, enough)) made.ran.ok)

pub walk_result-requires-clause-size : goal.walk_result-requires-clause-size
walk_result-requires-clause-size g c =
    let may = c.requires.may in
    let r = planned (selection_of c.args.public.now c.args.query.now) c.args.plan c.args.k in
    let v = (at g.R.Revisions.state c.args.vault.now (g.S.BlockStore.state c.args.store.now)).vault in
    let pack : c.make_result.new.room.pack ≡ r.selection.public.pack = ap (λ (x : RoomState). x.pack) c.make_result.ensures.room.same ∙ may.free.pack in
    let made = rw c.in-Overflow.is at c.in_ok-fresh.ensures.makes in
    fits_at _ _ _ (fresh_flat r v.next) pack made.value (fits_fresh r v.next may.settings may.size may.some may.most)

pub returns-in_err-n-in-Done-clause-selects : goal.returns-in_err-n-in-Done-clause-selects
returns-in_err-n-in-Done-clause-selects g c =
    let may = c.requires.may in
    let r = planned (selection_of c.args.public.now c.args.query.now) c.args.plan c.args.k in
    let v = (at g.R.Revisions.state c.args.vault.now (g.S.BlockStore.state c.args.store.now)).vault in
    let pack : c.make_result.new.room.pack ≡ r.selection.public.pack = ap (λ (x : RoomState). x.pack) c.make_result.ensures.room.same ∙ may.free.pack in
    let made = rw c.in-Done.is at c.in_ok-fresh.ensures.makes in
    let p = err_from_is_err_and c.from_residual-in_err-n-in-Done.result c.from_residual-in_err-n-in-Done.ensures.1 in
    rw (p.1, p.2) (by_rests g.E.Emit.grew g.E.Emit.cut g.E.Emit.faults r v _ _ c.reserve.ensures.rests _ _ _ _ may.ready
    (by_emit_err g.E.Emit.grew g.E.Emit.cut g.E.Emit.faults r _ _ may.settings.pack_least _ _ made _ _ (λ s. (made.told s).0) (λ s. ap (option_map Overflow) (made.told s).0) (rows_some c.args.plan c.args.k may.some) (λ s padded. absurd (cc padded)) _ (emits_at g.E.Emit.grew g.E.Emit.cut g.E.Emit.faults _ _ _ (fresh_flat r v.next) _ _ _ _ _ _ pack made.value c.in_err-n-in-Done.ensures.emits)))

pub returns-in_ok-n-in-Done-clause-selects : goal.returns-in_ok-n-in-Done-clause-selects
returns-in_ok-n-in-Done-clause-selects g c =
    let may = c.requires.may in
    let r = planned (selection_of c.args.public.now c.args.query.now) c.args.plan c.args.k in
    let v = (at g.R.Revisions.state c.args.vault.now (g.S.BlockStore.state c.args.store.now)).vault in
    let pack : c.make_result.new.room.pack ≡ r.selection.public.pack = ap (λ (x : RoomState). x.pack) c.make_result.ensures.room.same ∙ may.free.pack in
    let made = rw c.in-Done.is at c.in_ok-fresh.ensures.makes in
    let long = c.result_length.ensures.length r.selection refl refl v.next in
    let enough = room_made c.reserve.result (sym c.is_err.ensures.value ∙ c.if-is_err.false) c.reserve.ensures.spare in
    by_rests g.E.Emit.grew g.E.Emit.cut g.E.Emit.faults r v _ _ c.reserve.ensures.rests _ _ _ _ may.ready
    (by_emit_ok g.E.Emit.grew g.E.Emit.cut g.E.Emit.faults r _ _ may.settings.pack_least _ _ made _ _ (λ s. (made.told s).0) (λ s. ap (option_map Overflow) (made.told s).0) (rows_some c.args.plan c.args.k may.some) (λ s padded. absurd (cc padded)) _ (omega (arith, long, enough)) (emits_at g.E.Emit.grew g.E.Emit.cut g.E.Emit.faults _ _ _ (fresh_flat r v.next) _ _ _ _ _ _ pack made.value c.in_ok-n-in-Done.ensures.emits))

pub returns-in_err-walk_result-in-Overflow-clause-selects : goal.returns-in_err-walk_result-in-Overflow-clause-selects
returns-in_err-walk_result-in-Overflow-clause-selects g c =
    let may = c.requires.may in
    let r = planned (selection_of c.args.public.now c.args.query.now) c.args.plan c.args.k in
    let v = (at g.R.Revisions.state c.args.vault.now (g.S.BlockStore.state c.args.store.now)).vault in
    let pack : c.make_result.new.room.pack ≡ r.selection.public.pack = ap (λ (x : RoomState). x.pack) c.make_result.ensures.room.same ∙ may.free.pack in
    let made = rw c.in-Overflow.is at c.in_ok-fresh.ensures.makes in
    let p = err_from_is_err_and c.from_residual-in_err-walk_result-in-Overflow.result c.from_residual-in_err-walk_result-in-Overflow.ensures.1 in
    rw (p.1, p.2) (by_rests g.E.Emit.grew g.E.Emit.cut g.E.Emit.faults r v _ _ c.reserve.ensures.rests _ _ _ _ may.ready
    (by_walk_err g.E.Emit.grew g.E.Emit.cut g.E.Emit.faults r _ _ may.settings.pack_least _ _ made _ _ (walks_at _ _ _ (fresh_flat r v.next) _ _ _ pack made.value c.in_err-walk_result-in-Overflow.ensures.walks)))

pub returns-in_ok-walk_result-in-Overflow-clause-selects : goal.returns-in_ok-walk_result-in-Overflow-clause-selects
returns-in_ok-walk_result-in-Overflow-clause-selects g c =
    let may = c.requires.may in
    let r = planned (selection_of c.args.public.now c.args.query.now) c.args.plan c.args.k in
    let v = (at g.R.Revisions.state c.args.vault.now (g.S.BlockStore.state c.args.store.now)).vault in
    let pack : c.make_result.new.room.pack ≡ r.selection.public.pack = ap (λ (x : RoomState). x.pack) c.make_result.ensures.room.same ∙ may.free.pack in
    let made = rw c.in-Overflow.is at c.in_ok-fresh.ensures.makes in
    let long = c.result_length.ensures.length r.selection refl refl v.next in
    let enough = room_made c.reserve.result (sym c.is_err.ensures.value ∙ c.if-is_err.false) c.reserve.ensures.spare in
    by_rests g.E.Emit.grew g.E.Emit.cut g.E.Emit.faults r v _ _ c.reserve.ensures.rests _ _ _ _ may.ready
    (by_walk_ok g.E.Emit.grew g.E.Emit.cut g.E.Emit.faults r _ _ may.settings.pack_least _ _ made _ _ _ (made.left refl, refl) (λ s. ap (option_map Overflow) (made.told s).0) (omega (arith, long, enough)) (walks_at _ _ _ (fresh_flat r v.next) _ _ _ pack made.value c.in_ok-walk_result-in-Overflow.ensures.walks))
