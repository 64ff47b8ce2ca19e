-- Widths and keys.
use Rattle.std.proofs.Common.{◌≡◌, ◌+◌, ◌-◌, ◌++◌, sym, ◌∙◌, arith}
use Rattle.std.specs.Prelude.{position}
use Rattle.std.proofs.lemmas.List.Sums.{sum_by-append}
use Rattle.std.proofs.lemmas.Iterator.Adapters.{position_from-zero}
use Rattle.ob_base.specs.declared.schema.Column.{Column}
use Rattle.ob_base.specs.Schemas.{Columns, width, kind_width, key_place}
use Rattle.ob_names.proofs.NameLemmas.{first-places}

-- a joined row has one mark
pub width_both : (a b : Columns) → width (a ++ b) ≡ width a + width b - 1
width_both a b = let e = sum_by-append (λ (c : Column). kind_width c.kind) a b in omega arith

pub key_position : (cs : Columns) → key_place cs ≡ position (λ (c : Column). c.key) cs
key_position cs = first-places 0 (λ (c : Column). c.key) cs ∙ sym (position_from-zero (λ (c : Column). c.key) cs)
