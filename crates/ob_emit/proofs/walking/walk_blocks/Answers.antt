use Rattle.std.proofs.Common.{◌≡◌}
use Rattle.ob_flat.specs.declared.fault.OpErr.TheVariants.{Failed}
use Rattle.ob_vault.specs.Calls.{none}
use Rattle.ob_flat.proofs.Tables.{written_lasts}
use Rattle.ob_flat.proofs.WordLemmas.{ran_lasts}
use Rattle.ob_emit.proofs.Halting.{if_err}
use Rattle.ob_emit.proofs.walking.walk_blocks.Goals as goal

pub scan_blocks-requires : goal.scan_blocks-requires
scan_blocks-requires g c = record { spare = c.requires.spare; table = c.requires.table; fit = c.requires.fit; suits = tt }

pub returns-clause-rows : goal.returns-clause-rows
returns-clause-rows g c = c.scan_blocks.ensures.rows

pub returns-clause-walks : goal.returns-clause-walks
returns-clause-walks g c =
    let scans = c.scan_blocks.ensures.scans in
    record {
      ran = scans.ran;
      never = scans.never;
      seals = scans.seals;
      source = written_lasts _ c.args.flat.now none _ _ (ran_lasts c.scan_blocks.result scans.ran) (λ s. s) c.requires.table.written;
      told = λ slots is nolie. if_err _ (λ e. e ≡ Failed) c.scan_blocks.result (scans.told slots is nolie);
    }
