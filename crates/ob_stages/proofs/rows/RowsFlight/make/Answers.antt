use Rattle.std.proofs.Common.{◌-◌, ◌≤◌, ℕ, Some, Ok, Err, sym, ◌∙◌, subst, refl, arith}
use Rattle.ob_flat.specs.Flats.{FitsRegion}
use Rattle.ob_vault.specs.Places.{at}
use Rattle.ob_stages.specs.declared.rows.RowsFlight.{RowsFlight}
use Rattle.ob_stages.specs.declared.rows.Stage.TheVariants.{Make, Read}
use Rattle.ob_stages.specs.RowsStates.{rows_at}
use Rattle.ob_stages.specs.RowsSteps.{ForgetsOwn, QuietStep, gone_wrong}
use Rattle.ob_stages.proofs.RowsAsks.{make_few, make_size, make_spare}
use Rattle.ob_stages.proofs.FaultLemmas.{failed_by, not_fault}
use Rattle.ob_stages.proofs.RowsGoing.{few_at, sized_at, stepped}
use Rattle.ob_stages.proofs.RowsPlaces.{booked_at}
use Rattle.ob_stages.proofs.RowsQuiet.{quiet_made, quiet_make_failed, quiet_make_stopped, quiet_no_room}
use Rattle.ob_stages.proofs.RowsRoom.{made_from, makes_as, makes_next, room_none, room_taken}
use Rattle.ob_stages.proofs.rows.RowsFlight.make.Goals as goal

pub take_room-requires : goal.take_room-requires
take_room-requires g c =
    let flight = rows_at c.args.self.now in
    let placed = c.requires.held.holds.placed in
    let counted = (made_from flight placed c.requires.steps.at).0 in
    record {
      sized = sized_at flight placed;
      few = counted.few;
      asked = counted.asked;
      others = c.requires.steps.beside;
      booked = booked_at flight placed Make c.requires.steps.at;
      spare = c.requires.steps.spare;
    }

pub make_table-requires : goal.make_table-requires
make_table-requires g c =
    let flight = rows_at c.args.self.now in
    let v = (at g.R.Revisions.state c.args.vault.now (g.S.BlockStore.state c.args.store.now)).vault in
    let s = g.S.BlockStore.state c.args.store.now in
    let t = g.S.BlockStore.state c.take_room.new.store in
    let placed = c.requires.held.holds.placed in
    let settings = placed.flown.settings in
    let did = room_taken flight c.args.others c.in-Ok.booked c.take_room.result s t c.in-Ok.is c.take_room.ensures in
    let size = make_size flight c.args.others c.args.kept.now v s t c.requires.steps c.requires.held c.take_room.ensures.rests in
    record {
      spare = make_spare flight c.args.others c.args.kept.now v s t c.requires.steps c.requires.held c.take_room.ensures.rests c.in-Ok.booked did.0 did.1;
      few = make_few flight c.args.others c.args.kept.now v s t c.requires.steps c.requires.held c.take_room.ensures.rests;
      size = subst (λ (n : ℕ). FitsRegion n flight.q.flat.schema c.taken-capacity.result) (sym c.pack-pack.ensures) (subst (λ (n : ℕ). FitsRegion flight.q.public.pack flight.q.flat.schema n) (sym c.taken-capacity.ensures) size);
      pack = subst (λ (n : ℕ). (1 ≤ n) × (n ≤ 16)) (sym c.pack-pack.ensures) (settings.pack_least, settings.pack_most);
    }

pub go-requires : goal.go-requires
go-requires g c =
    let flight = rows_at c.args.self.now in
    let placed = c.requires.held.holds.placed in
    let did = room_taken flight c.args.others c.in-Ok.booked c.take_room.result (g.S.BlockStore.state c.args.store.now) (g.S.BlockStore.state c.take_room.new.store) c.in-Ok.is c.take_room.ensures in
    record {
      few = few_at flight placed Make c.requires.steps.at refl;
      some = omega (arith, did.0, (made_from flight placed c.requires.steps.at).0.asked);
    }

pub fail-requires : goal.fail-requires
fail-requires g c = record { few = few_at (rows_at c.args.self.now) c.requires.held.holds.placed Make c.requires.steps.at refl }

pub returns-in_default-clause-quiet : goal.returns-in_default-clause-quiet
returns-in_default-clause-quiet g c =
    let flight = rows_at c.args.self.now in
    let s = g.S.BlockStore.state c.args.store.now in
    let t = g.S.BlockStore.state c.take_room.new.store in
    let unpadded = room_none flight c.args.others c.in_default.field-0 c.take_room.result s t c.in_default.is c.take_room.ensures in
    quiet_no_room flight c.args.others c.args.kept.now (at g.R.Revisions.state c.args.vault.now s).vault s t c.requires.steps c.requires.held c.take_room.ensures.rests unpadded

pub returns-in-Ok-make_table-clause-quiet : goal.returns-in-Ok-make_table-clause-quiet
returns-in-Ok-make_table-clause-quiet g c =
    let flight = rows_at c.args.self.now in
    let old = at g.R.Revisions.state c.args.vault.now (g.S.BlockStore.state c.args.store.now) in
    let t = g.S.BlockStore.state c.take_room.new.store in
    let mid = at g.R.Revisions.state c.args.vault.now t in
    let new = at g.R.Revisions.state c.make_table.new.vault (g.S.BlockStore.state c.make_table.new.store) in
    let next = old.vault.next in
    let after = c.clear_rows.new.rows in
    let share = c.requires.fit in
    let did = room_taken flight c.args.others c.in-Ok.booked c.take_room.result old.store t c.in-Ok.is c.take_room.ensures in
    let block =
    makes_next flight next c.in-Ok-make_table.field-0 mid new
    (makes_as flight c.pack-pack.result c.taken-capacity.result next c.make_table.result (Ok c.in-Ok-make_table.field-0) mid new c.pack-pack.ensures c.taken-capacity.ensures c.in-Ok-make_table.is c.make_table.ensures.makes) in
    subst (λ (h : RowsFlight). QuietStep {T = Unit {0}} flight (rows_at h) c.args.others c.args.kept.now after (Ok tt) old new) (sym c.go.ensures)
    (subst (λ (r : ℕ). QuietStep {T = Unit {0}} flight (stepped flight (Read 0 0 0) (Some r) flight.k flight.shown (c.in-Ok.booked - 1) flight.seen) c.args.others c.args.kept.now after (Ok tt) old new) (sym c.next_region-region.ensures)
    (quiet_made flight c.args.others c.args.kept.now old.vault old.store t c.requires.steps c.requires.held c.take_room.ensures.rests c.in-Ok.booked did.0 did.1 new tt after block
    (λ i below. c.clear_rows.ensures.none flight.q.flat.schema share.wide i (omega (arith, below, c.clear_rows.ensures.size.count)))))

pub returns-then-is_fault-clause-quiet : goal.returns-then-is_fault-clause-quiet
returns-then-is_fault-clause-quiet g c =
    let flight = rows_at c.args.self.now in
    let old = at g.R.Revisions.state c.args.vault.now (g.S.BlockStore.state c.args.store.now) in
    let t = g.S.BlockStore.state c.take_room.new.store in
    let roomy = at g.R.Revisions.state c.args.vault.now t in
    let mid = at g.R.Revisions.state c.make_table.new.vault (g.S.BlockStore.state c.make_table.new.store) in
    let new = at g.R.Revisions.state c.fail.new.vault (g.S.BlockStore.state c.make_table.new.store) in
    let next = old.vault.next in
    let did = room_taken flight c.args.others c.in-Ok.booked c.take_room.result old.store t c.in-Ok.is c.take_room.ensures in
    let block =
    makes_as flight c.pack-pack.result c.taken-capacity.result next c.make_table.result _ roomy mid c.pack-pack.ensures c.taken-capacity.ensures (failed_by c.make_table.result c.in-Err.error c.in-Err.is (sym c.is_fault.ensures ∙ c.if-is_fault.true)) c.make_table.ensures.makes in
    subst (λ (h : RowsFlight). QuietStep {T = Unit {0}} flight (rows_at h) c.args.others c.args.kept.now c.args.kept.now (Ok tt) old new) (sym c.fail.ensures.is)
    (subst (λ (r : ℕ). QuietStep {T = Unit {0}} flight (gone_wrong (record flight { region = Some r })) c.args.others c.args.kept.now c.args.kept.now (Ok tt) old new) (sym c.next_region-region.ensures)
    (quiet_make_failed flight c.args.others c.args.kept.now old.vault old.store t c.requires.steps c.requires.held c.take_room.ensures.rests c.in-Ok.booked did.0 did.1 new tt mid block c.make_table.ensures.spent
    (subst (λ (r : ℕ). ForgetsOwn (Some r) mid new) c.next_region-region.ensures (c.fail.ensures.forgets (g.S.BlockStore.state c.make_table.new.store))) refl))

pub returns-else-is_fault : goal.returns-else-is_fault
returns-else-is_fault g c =
    let flight = rows_at c.args.self.now in
    let old = at g.R.Revisions.state c.args.vault.now (g.S.BlockStore.state c.args.store.now) in
    let t = g.S.BlockStore.state c.take_room.new.store in
    let mid = at g.R.Revisions.state c.args.vault.now t in
    let new = at g.R.Revisions.state c.make_table.new.vault (g.S.BlockStore.state c.make_table.new.store) in
    let block =
    makes_as flight c.pack-pack.result c.taken-capacity.result old.vault.next c.make_table.result (Err c.in-Err.error) mid new c.pack-pack.ensures c.taken-capacity.ensures c.in-Err.is c.make_table.ensures.makes in
    record {
      kept = record { count = refl; sizes = λ j. refl };
      quiet = quiet_make_stopped flight c.args.others c.args.kept.now old.vault old.store t c.requires.steps c.requires.held c.take_room.ensures.rests c.in-Err.error new (not_fault c.in-Err.error (sym c.is_fault.ensures ∙ c.if-is_fault.false)) block;
    }
