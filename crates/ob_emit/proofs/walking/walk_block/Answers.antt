use Rattle.std.proofs.Common.{◌≡◌}
use Rattle.ob_flat.specs.declared.fault.OpErr.TheVariants.{Failed}
use Rattle.ob_emit.proofs.Halting.{if_err}
use Rattle.ob_emit.proofs.walking.walk_block.Goals as goal

pub scan_block-requires : goal.scan_block-requires
scan_block-requires g c = record { spare = c.requires.spare; table = c.requires.table; within = c.requires.within; fit = c.requires.fit; suits = tt }

pub returns-clause-rows : goal.returns-clause-rows
returns-clause-rows g c = c.scan_block.ensures.rows

pub returns-clause-spent : goal.returns-clause-spent
returns-clause-spent g c = c.scan_block.ensures.spent

pub returns-clause-walks : goal.returns-clause-walks
returns-clause-walks g c =
    let scans = c.scan_block.ensures.scans in
    record {
      ran = scans.ran;
      never = scans.never;
      seals = scans.seals;
      told = λ slots is nolie. if_err _ (λ e. e ≡ Failed) c.scan_block.result (scans.told slots is nolie);
    }
