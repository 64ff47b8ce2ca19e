use Rattle.std.proofs.Common.{refl, subst}
use Rattle.ob_flat.specs.declared.flat.Flat.{Flat}
use Rattle.ob_flat.specs.Discards.{Discards}
use Rattle.ob_vault.specs.Places.{at}
use Rattle.ob_stages.specs.declared.rows.Stage.TheVariants.{Discard}
use Rattle.ob_stages.specs.RowsStates.{rows_at}
use Rattle.ob_stages.proofs.RowsGoing.{few_at}
use Rattle.ob_stages.proofs.RowsQuiet.{quiet_discard}
use Rattle.ob_stages.proofs.rows.RowsFlight.discard.Goals as goal

pub go-requires-clause-few : goal.go-requires-clause-few
go-requires-clause-few g c = few_at (rows_at c.args.self.now) c.requires.held.holds.placed Discard c.requires.steps.at refl

pub returns : goal.returns
returns g c =
    let old = at g.R.Revisions.state c.args.vault.now (g.S.BlockStore.state c.args.store.now) in
    let new = at g.R.Revisions.state c.discard.new.vault (g.S.BlockStore.state c.discard.new.store) in
    let gone = subst (λ (f : Flat). Discards f.region c.discard.result old new) c.result.ensures c.discard.ensures.discards in
    rw c.go.ensures (record { quiet = λ kept. quiet_discard (rows_at c.args.self.now) c.in-Some.region c.args.others old c.requires.steps c.requires.held c.in-Some.is tt kept new gone })
