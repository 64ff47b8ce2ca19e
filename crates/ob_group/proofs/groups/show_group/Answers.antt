use Rattle.std.proofs.Common.{◌≡◌, length, sym, ◌∙◌, subst, arith}
use Rattle.std.proofs.lemmas.List.{take_at}
use Rattle.ob_group.specs.Held.{HoldsGroup}
use Rattle.ob_group.proofs.groups.show_group.Goals as goal

pub show_bytes-requires-clause-held : goal.show_bytes-requires-clause-held
show_bytes-requires-clause-held c = rw c.bytes.ensures c.requires.held

pub returns-clause-told : goal.returns-clause-told
returns-clause-told c = λ s.
    let n = length c.args.items.now in
    let size : length c.show_bytes.new.cells ≡ n = omega (arith, c.show_bytes.auto.cells, c.split_at_mut-front.ensures.front_len) in
    take_at c.show_bytes.new.cells c.split_at_mut-front.result.1.now n size
    ∙ c.show_bytes.ensures (record { group = s.group; is = subst (HoldsGroup c.args.kind 2147483648 n s.group) (sym c.bytes.ensures) s.is })
