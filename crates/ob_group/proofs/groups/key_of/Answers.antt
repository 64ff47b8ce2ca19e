use Rattle.std.proofs.Common.{◌≡◌, ℕ, take, ◌∙◌, ap}
use Rattle.ob_base.specs.Schemas.{kind_width}
use Rattle.ob_group.proofs.GroupBytes.{found_key}
use Rattle.ob_group.proofs.groups.key_of.Goals as goal

pub returns : goal.returns
returns c = λ x held.
    let front : c.split_at.result.0.now ≡ take (kind_width c.args.kind) c.args.bytes.now = c.split_at.ensures.front ∙ ap (λ (w : ℕ). take w c.args.bytes.now) c.width.ensures.value in
    found_key c.args.kind x c.args.bytes.now held c.unwrap.result c.cell_in.result c.split_at.result.0.now front c.cell_in.ensures.some c.unwrap.ensures
