use Rattle.std.proofs.Common.{ℕ, List, ap, refl}
use Rattle.ob_vault.specs.Places.{at}
use Rattle.ob_vault.specs.Rows.{SameSizes}
use Rattle.ob_stages.specs.RowsLaws.{fit_again}
use Rattle.ob_stages.specs.RowsStates.{is_printing, rows_at}
use Rattle.ob_stages.proofs.RowsEmits.{loud_fits, loud_tells, quiet_fits, quiet_sink, tells_quiet}
use Rattle.ob_stages.proofs.rows.RowsFlightFlyer.step.Goals as goal

same_rows : (rows : List (List ℕ)) → SameSizes rows rows
same_rows rows = record { count = refl; sizes = λ j. refl }

pub returns-in-Count : goal.returns-in-Count
returns-in-Count g c =
    let flight = rows_at c.args.self.now in
    let after = rows_at c.count.new.self in
    let old = at g.R.Revisions.state c.args.vault.now (g.S.BlockStore.state c.args.store.now) in
    let new = at g.R.Revisions.state c.count.new.vault (g.S.BlockStore.state c.count.new.store) in
    let emit = g.E.Emit in
    let kept = c.args.kept.now in
    let did = c.count.ensures.quiet c.args.kept.now in
    let fit = fit_again flight.q c.args.rows.now kept c.count.new.rows c.args.kept.now c.count.ensures.rows (same_rows c.args.kept.now) c.requires.fits in
    let unprinted = ap is_printing c.in-Count.is in
    record {
      rows = c.count.ensures.rows;
      kept = same_rows c.args.kept.now;
      fits = quiet_fits flight after c.args.others kept c.args.kept.now old new c.count.result c.count.new.rows c.args.kept.now did fit;
      steps = did.steps;
      stops = did.stops;
      tells = tells_quiet emit.grew emit.cut flight after c.args.others kept c.args.kept.now c.count.result old new c.args.out.now unprinted did;
      sink = quiet_sink flight after c.args.others kept c.args.kept.now old new c.count.result (emit.faults c.args.out.now) unprinted did;
    }

pub returns-in-Make : goal.returns-in-Make
returns-in-Make g c =
    let flight = rows_at c.args.self.now in
    let after = rows_at c.make.new.self in
    let old = at g.R.Revisions.state c.args.vault.now (g.S.BlockStore.state c.args.store.now) in
    let new = at g.R.Revisions.state c.make.new.vault (g.S.BlockStore.state c.make.new.store) in
    let emit = g.E.Emit in
    let kept = c.args.kept.now in
    let did = c.make.ensures.quiet in
    let fit = fit_again flight.q c.args.rows.now kept c.args.rows.now c.make.new.kept (same_rows c.args.rows.now) c.make.ensures.kept c.requires.fits in
    let unprinted = ap is_printing c.in-Make.is in
    record {
      rows = same_rows c.args.rows.now;
      kept = c.make.ensures.kept;
      fits = quiet_fits flight after c.args.others kept c.make.new.kept old new c.make.result c.args.rows.now c.make.new.kept did fit;
      steps = did.steps;
      stops = did.stops;
      tells = tells_quiet emit.grew emit.cut flight after c.args.others kept c.make.new.kept c.make.result old new c.args.out.now unprinted did;
      sink = quiet_sink flight after c.args.others kept c.make.new.kept old new c.make.result (emit.faults c.args.out.now) unprinted did;
    }

pub returns-in-Read : goal.returns-in-Read
returns-in-Read g c =
    let flight = rows_at c.args.self.now in
    let after = rows_at c.read.new.self in
    let old = at g.R.Revisions.state c.args.vault.now (g.S.BlockStore.state c.args.store.now) in
    let new = at g.R.Revisions.state c.read.new.vault (g.S.BlockStore.state c.read.new.store) in
    let emit = g.E.Emit in
    let kept = c.args.kept.now in
    let did = c.read.ensures.quiet in
    let fit = fit_again flight.q c.args.rows.now kept c.read.new.rows c.read.new.kept c.read.ensures.rows c.read.ensures.kept c.requires.fits in
    let unprinted = ap is_printing c.in-Read.is in
    record {
      rows = c.read.ensures.rows;
      kept = c.read.ensures.kept;
      fits = quiet_fits flight after c.args.others kept c.read.new.kept old new c.read.result c.read.new.rows c.read.new.kept did fit;
      steps = did.steps;
      stops = did.stops;
      tells = tells_quiet emit.grew emit.cut flight after c.args.others kept c.read.new.kept c.read.result old new c.args.out.now unprinted did;
      sink = quiet_sink flight after c.args.others kept c.read.new.kept old new c.read.result (emit.faults c.args.out.now) unprinted did;
    }

pub returns-in-Write : goal.returns-in-Write
returns-in-Write g c =
    let flight = rows_at c.args.self.now in
    let after = rows_at c.write.new.self in
    let old = at g.R.Revisions.state c.args.vault.now (g.S.BlockStore.state c.args.store.now) in
    let new = at g.R.Revisions.state c.write.new.vault (g.S.BlockStore.state c.write.new.store) in
    let emit = g.E.Emit in
    let kept = c.args.kept.now in
    let did = c.write.ensures.quiet in
    let fit = fit_again flight.q c.args.rows.now kept c.args.rows.now c.write.new.kept (same_rows c.args.rows.now) c.write.ensures.kept c.requires.fits in
    let unprinted = ap is_printing c.in-Write.is in
    record {
      rows = same_rows c.args.rows.now;
      kept = c.write.ensures.kept;
      fits = quiet_fits flight after c.args.others kept c.write.new.kept old new c.write.result c.args.rows.now c.write.new.kept did fit;
      steps = did.steps;
      stops = did.stops;
      tells = tells_quiet emit.grew emit.cut flight after c.args.others kept c.write.new.kept c.write.result old new c.args.out.now unprinted did;
      sink = quiet_sink flight after c.args.others kept c.write.new.kept old new c.write.result (emit.faults c.args.out.now) unprinted did;
    }

pub returns-in-Discard : goal.returns-in-Discard
returns-in-Discard g c =
    let flight = rows_at c.args.self.now in
    let after = rows_at c.discard.new.self in
    let old = at g.R.Revisions.state c.args.vault.now (g.S.BlockStore.state c.args.store.now) in
    let new = at g.R.Revisions.state c.discard.new.vault (g.S.BlockStore.state c.discard.new.store) in
    let emit = g.E.Emit in
    let kept = c.args.kept.now in
    let did = c.discard.ensures.quiet c.args.kept.now in
    let fit = fit_again flight.q c.args.rows.now kept c.args.rows.now c.args.kept.now (same_rows c.args.rows.now) (same_rows c.args.kept.now) c.requires.fits in
    let unprinted = ap is_printing c.in-Discard.is in
    record {
      rows = same_rows c.args.rows.now;
      kept = same_rows c.args.kept.now;
      fits = quiet_fits flight after c.args.others kept c.args.kept.now old new c.discard.result c.args.rows.now c.args.kept.now did fit;
      steps = did.steps;
      stops = did.stops;
      tells = tells_quiet emit.grew emit.cut flight after c.args.others kept c.args.kept.now c.discard.result old new c.args.out.now unprinted did;
      sink = quiet_sink flight after c.args.others kept c.args.kept.now old new c.discard.result (emit.faults c.args.out.now) unprinted did;
    }

pub returns-in-Emit : goal.returns-in-Emit
returns-in-Emit g c =
    let flight = rows_at c.args.self.now in
    let after = rows_at c.emit.new.self in
    let old = at g.R.Revisions.state c.args.vault.now (g.S.BlockStore.state c.args.store.now) in
    let new = at g.R.Revisions.state c.emit.new.vault (g.S.BlockStore.state c.emit.new.store) in
    let emit = g.E.Emit in
    let kept = c.args.kept.now in
    let did = c.emit.ensures.loud kept in
    let fit = fit_again flight.q c.args.rows.now kept c.emit.new.rows kept c.emit.ensures.rows (same_rows kept) c.requires.fits in
    record {
      rows = c.emit.ensures.rows;
      kept = same_rows kept;
      fits = loud_fits emit.grew emit.cut emit.faults flight after c.args.others kept old new c.args.out.now c.emit.new.out c.emit.result c.emit.new.rows kept did fit;
      steps = did.steps;
      stops = did.stops;
      tells = loud_tells emit.grew emit.cut emit.faults flight after c.args.others kept old new c.args.out.now c.emit.new.out c.emit.result (ap is_printing c.in-Emit.is) did;
      sink = did.sink;
    }
