use Rattle.std.proofs.Common.{◌≡◌, ◌<◌, ◌+◌, ℕ, List, suc, Some, length, take, slice_set, slice_index_or, rules, ◌∙◌, sym, ap, subst, arith}
use Rattle.std.proofs.lemmas.List.{take_all, length-set}
use Rattle.ob_base.specs.Labels.{column_label}
use Rattle.ob_emit.specs.Emitting
use Rattle.ob_emit.proofs.Printed.{take_put, label_is, labels_size}
use Rattle.ob_emit.proofs.head.labels_of.Goals as goal

pub returns-clause-value : goal.returns-clause-value
returns-clause-value c =
    let columns = c.args.schema.now in
    let cols = c.args.cols.now in
    let last : c.loop-i.i ≡ length cols = omega arith in
    ap (λ n. take n c.loop-i.labels) (sym last) ∙ c.loop-i.invariant.told ∙ take_all c.loop-i.i (Emitting.labels_of columns cols) (omega (arith, labels_size columns cols, last))

pub loop-i-preserved : goal.loop-i-preserved
loop-i-preserved c =
    let i = c.loop-i.i in
    let labels = c.loop-i.labels in
    let columns = c.args.schema.now in
    let cols = c.args.cols.now in
    let next : suc i ≡ i + 1 = omega arith in
    let inside : i < length labels = omega (arith, c.loop-i.invariant.size, c.requires.few) in
    let column = c.index-columns-from.result in
    let place = slice_index_or cols i 0 in
    let within : place < length columns = c.requires.within i 0 (omega arith) in
    let here = label_is (Emitting.is_joined columns) columns cols i 0 column (omega arith) within in
    let new : c.label_of.result ≡ column_label (Emitting.is_joined columns) (slice_index_or columns place column) = search rules in
    record {
      size = length-set labels i c.label_of.result ∙ c.loop-i.invariant.size;
      told = subst (λ k. take k (slice_set labels i c.label_of.result) ≡ take k (Emitting.labels_of columns cols)) next
          (take_put labels (Emitting.labels_of columns cols) i c.label_of.result inside c.loop-i.invariant.told (here ∙ ap (λ (l : List ℕ). Some l) (sym new)));
    }
