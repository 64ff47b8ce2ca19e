use Rattle.std.proofs.Common.{◌≡◌, drop, ap, arith, length-append}
use Rattle.ob_io.specs.Memory.{SourceState}
use Rattle.ob_io.proofs.Memory.{moved, none_left}
use Rattle.ob_io.proofs.source.MemSourceSource.read.Goals as goal

pub returns-clause-bytes : goal.returns-clause-bytes
returns-clause-bytes c =
    let left : drop c.self.inside.at c.self.inside.bytes.items ≡ c.args.self.now.left = ap (λ (s : SourceState). s.left) c.self.view_is in (
      rw (← left) (moved _ _ _ _ _ _ _ c.as_slice.ensures.value c.min-n.ensures c.copy_from_slice.ensures.after),
      λ none some. none_left _ _ _ _ _ c.as_slice.ensures.value c.min-n.ensures none (omega (arith, length-append c.copy_from_slice.new.self (drop c.min-n.result c.args.buf.now), c.copy_from_slice.ensures.len)),
    )
