use Rattle.std.proofs.Common.{◌≡◌, ◌+◌, ℕ}
use Rattle.ob_vault.specs.Places.{at}
use Rattle.ob_vault.specs.Rows.{SameSizes}
use Rattle.ob_inflight.specs.Kinds.{kind_of, moment, taker_of}
use Rattle.ob_inflight.specs.Parts.{HasTurned, left_to}
use Rattle.ob_inflight.proofs.flying.fly.Given as goal

abbrev pub invariant-loop-ended : goal.invariant-loop-ended
invariant-loop-ended g l =
    let kind = kind_of g.F.Flyer.progress g.F.Flyer.May g.F.Flyer.Needs g.F.Flyer.Fits g.F.Flyer.Holds g.F.Flyer.Halts in
    let taker = taker_of g.E.Emit.grew g.E.Emit.cut g.E.FlightOut.closed g.E.FlightOut.parted in
    let start = moment l.initial.flyers l.initial.kept (at g.R.Revisions.state l.initial.vault (g.S.BlockStore.state l.initial.store)) in
    let now = moment l.flyers l.kept (at g.R.Revisions.state l.vault (g.S.BlockStore.state l.store)) in
    record {
      rows : SameSizes l.initial.rows l.rows;
      kept : SameSizes l.initial.kept l.kept;
      sink : g.E.Emit.faults l.out ≡ g.E.Emit.faults l.initial.out;
      turned : (n : ℕ) × HasTurned kind taker (g.T.Turns.word l.initial.turns) n l.share l.ended l.rows start now l.initial.out l.out
          × ((t : ℕ) → g.T.Turns.word l.turns t ≡ g.T.Turns.word l.initial.turns (n + t));
    }

abbrev pub decreases-loop-ended : goal.decreases-loop-ended
decreases-loop-ended g l = left_to (kind_of g.F.Flyer.progress g.F.Flyer.May g.F.Flyer.Needs g.F.Flyer.Fits g.F.Flyer.Holds g.F.Flyer.Halts) l.ended l.flyers
