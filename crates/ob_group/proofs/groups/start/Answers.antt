use Rattle.std.proofs.Common.{ℕ, List, Some, length, sym, ◌∙◌, ap, subst, arith}
use Rattle.ob_group.specs.Running.{starts}
use Rattle.ob_group.specs.Grouping.{Group, aggs_of}
use Rattle.ob_group.specs.Held.{HoldsGroup}
use Rattle.ob_group.proofs.GroupBytes.{written, holds_more}
use Rattle.ob_group.proofs.groups.start.Goals as goal

pub add-requires-clause-held : goal.add-requires-clause-held
add-requires-clause-held c =
    let n = length c.args.items.now in
    let x = c.requires.field.0 in
    let g : Group = (Some x, starts (aggs_of c.args.items.now)) in
    let held = subst (HoldsGroup c.args.kind 0 n g) (sym (written c.args.group.now c.start_bytes.new.bytes (c.start_bytes.ensures.size ∙ ap (λ (l : List ℕ). length l) c.bytes_mut.ensures.value))) (c.start_bytes.ensures.held x c.requires.field.1) in
    record { group = g; is = holds_more c.args.kind 0 n g _ held 2147483648 (omega arith) }

pub returns-clause-told : goal.returns-clause-told
returns-clause-told c = λ cells begins x field.
    let n = length c.args.items.now in
    let g : Group = (Some x, starts (aggs_of c.args.items.now)) in
    let held = subst (HoldsGroup c.args.kind 0 n g) (sym (written c.args.group.now c.start_bytes.new.bytes (c.start_bytes.ensures.size ∙ ap (λ (l : List ℕ). length l) c.bytes_mut.ensures.value))) (c.start_bytes.ensures.held x field) in
    c.add.ensures.told cells begins g 0 (omega arith) held
