use Rattle.std.proofs.Common.{Option, refl, ap, arith}
use Rattle.std.specs.BTreeSet.{contains}
use Rattle.std.specs.Ordering.{nat_cmp}
use Rattle.ob_store.specs.Memory.{kept_of, last_of}
use Rattle.ob_store.specs.declared.blocks.Blocks.{Blocks}
use Rattle.ob_store.proofs.SweepLemmas.{region_goes, region_stays, shape_stays}
use Rattle.ob_store.proofs.memory.MemStoreSaving.sweep.Goals as goal

pub returns : goal.returns
returns c =
    let live = c.args.self.now.live in
    record {
      sweeps = record {
        asked = refl;
        log = refl;
        spare = refl;
        faults = refl;
        slips = omega arith;
        tells = refl;
        lie = refl;
        disturbed = refl;
        live = λ q. shape_stays (contains nat_cmp live q) _ _ (c.keep_live.ensures q);
        last = λ q x off. ap (λ (b : Option Blocks). last_of b x) (region_stays (contains nat_cmp live q) _ _ off (c.keep_live.ensures q));
        kept = λ q off. ap kept_of (region_stays (contains nat_cmp live q) _ _ off (c.keep_live.ensures q));
        gone = λ q none. region_goes (contains nat_cmp live q) _ _ none (c.keep_live.ensures q);
        steady = λ steady. record {
          quiet = λ early. let quiet = steady.quiet early in record { faults = quiet.faults; slips = quiet.slips; lie = quiet.lie };
          lied = steady.lied;
        };
      };
      same = refl;
    }
