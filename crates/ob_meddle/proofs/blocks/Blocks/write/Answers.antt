use Rattle.std.proofs.Common.{◌≡◌, ◌+◌, ◌*◌, ◌-◌, ◌≤◌, length, ap, arith}
use Rattle.ob_store.proofs.Ranges.{block_other, rows_apart}
use Rattle.ob_meddle.proofs.blocks.Blocks.write.Goals as goal

pub returns-clause-others : goal.returns-clause-others
returns-clause-others c = λ x off.
    let old = c.args.self.now in
    let inside : c.args.place * old.len + old.len ≤ length old.bytes.items = omega (arith, rows_apart c.args.place old.count old.len c.requires.place, old.sized, old.bytes.ok.0) in
    let size : length c.copy_from_slice.new.self ≡ c.args.place * old.len + old.len - c.args.place * old.len = omega (arith, ap length c.copy_from_slice.ensures.after, c.requires.len) in
    block_other old.bytes c.deref_mut.result.now c.copy_from_slice.new.self c.args.place x old.len _ c.deref_mut.ensures.value off (omega arith) inside size
