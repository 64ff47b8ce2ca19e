-- A mark's file without the line of a store isn't one with it.
use Rattle.std.proofs.Common.{◌≡◌, List, None, Option, Some, ap, ℕ}
use Rattle.std.specs.Option.{option_map_or}
use Rattle.ob_mark.specs.declared.identity.Held.{Held}
use Rattle.ob_reopen.specs.declared.mark.Mark.{Mark}

pub unnamed : (held : Held) (mark : Mark) (id : List ℕ) → held.id ≡ None → ◌≡◌ {A = Option Held} (Some held) (Some (record { mark = mark; id = Some id })) → ⊥
unnamed held mark id none is =
    let same : held.id ≡ Some id = ap (λ (h : Option Held). option_map_or (λ (x : Held). x.id) h None) is in
    cc (none, same)
