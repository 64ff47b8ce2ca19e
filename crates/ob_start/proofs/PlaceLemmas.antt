-- Paths in a folder.
use Rattle.std.proofs.Common.{◌≡◌, ◌∙◌, ℕ, Bool, true, false, ◌&&◌, List, ap, drop, length, nat_eq, sym, take}
use Rattle.std.specs.Cmp.Lexicographic.{pointwise}
use Rattle.ob_mark.specs.Marks.{begins}
use Rattle.ob_start.specs.Places.{is_inside, is_within}

-- by the bytes of both
tested : (path folder p f : List ℕ) (b : Bool) → p ≡ path → f ≡ folder → pointwise nat_eq (take (length f) p) f ≡ b → begins folder path ≡ b
tested path folder p f b is at same = sym (λ i. begins (at i) (is i)) ∙ same

pub goes_on : (path folder p f rest : List ℕ) → p ≡ path → f ≡ folder → pointwise nat_eq (take (length f) p) f ≡ true
    → rest ≡ drop (length f) p → is_within rest ≡ is_inside path folder
goes_on path folder p f rest is at same dropped =
    let behind : rest ≡ drop (length folder) path = dropped ∙ (λ i. drop (length (at i)) (is i)) in
    ap is_within behind ∙ sym (ap (λ (b : Bool). b && is_within (drop (length folder) path)) (tested path folder p f true is at same))

pub goes_elsewhere : (path folder p f : List ℕ) → p ≡ path → f ≡ folder → pointwise nat_eq (take (length f) p) f ≡ false
    → false ≡ is_inside path folder
goes_elsewhere path folder p f is at same =
    sym (ap (λ (b : Bool). b && is_within (drop (length folder) path)) (tested path folder p f false is at same))
