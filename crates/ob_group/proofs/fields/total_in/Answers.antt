use Rattle.std.proofs.Common.{◌∙◌, ap}
use Rattle.std.specs.Int.{w128, from_be_bytes, cast_signed}
use Rattle.ob_group.proofs.TotalBytes.{none_read, some_read}
use Rattle.ob_group.proofs.fields.total_in.Goals as goal

pub returns-then-x : goal.returns-then-x
returns-then-x c = λ total few is.
    none_read total few c.from_be_bytes-x.result (c.from_be_bytes-x.ensures ∙ ap (λ bs. cast_signed w128 (from_be_bytes w128 bs)) (c.copy_from_slice.ensures.after ∙ is)) c.if-x.true

pub returns-else-x : goal.returns-else-x
returns-else-x c = λ total few is.
    some_read total few c.from_be_bytes-x.result (c.from_be_bytes-x.ensures ∙ ap (λ bs. cast_signed w128 (from_be_bytes w128 bs)) (c.copy_from_slice.ensures.after ∙ is)) c.if-x.false
