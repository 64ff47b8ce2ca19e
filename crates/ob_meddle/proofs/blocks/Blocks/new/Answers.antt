use Rattle.std.proofs.Common.{◌∙◌, ◌*◌, ap, take, drop, arith}
use Rattle.std.specs.Prelude.{List, ℕ}
use Rattle.std.proofs.lemmas.List.{drop-replicate, take-replicate}
use Rattle.ob_store.proofs.Ranges.{rows_apart}
use Rattle.ob_meddle.proofs.blocks.Blocks.new.Goals as goal

pub returns-clause-zeros : goal.returns-clause-zeros
returns-clause-zeros c = λ place within.
    let n = c.args.count * c.args.len in
    let len = c.args.len in
    ap (λ (bytes : List ℕ). take len (drop (place * len) bytes)) (c.in_ok-vec.ensures.items_if_clones_equal (λ y h. h))
    ∙ ap (λ (bytes : List ℕ). take len bytes) (drop-replicate (place * len) n 0)
    ∙ take-replicate len _ 0 (omega (arith, rows_apart place c.args.count len within))
