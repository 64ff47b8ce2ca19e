-- A text that begins with another.
use Rattle.std.proofs.Common.{◌≡◌, ◌∙◌, ℕ, true, List, ◌++◌, length, take, drop, nat_eq, refl, sym, ap}
use Rattle.std.proofs.lemmas.List.{drop_at, take-append-drop, take_at}
use Rattle.std.specs.Cmp.Lexicographic.{bytes_decides, pointwise}

-- it is that one and the rest
pub stripped : (s p x : List ℕ) → pointwise nat_eq (take (length p) s) p ≡ true → x ≡ drop (length p) s → s ≡ p ++ x
stripped s p x same is =
    sym (take-append-drop (length p) s) ∙ (λ i. (bytes_decides (take (length p) s) p).0 same i ++ sym is i)

pub is_first : (s p x : List ℕ) → s ≡ p ++ x → pointwise nat_eq (take (length p) s) p ≡ true
is_first s p x is = (bytes_decides (take (length p) s) p).1 (ap (take (length p)) is ∙ take_at p x (length p) refl)

pub rest_is : (s p x : List ℕ) → s ≡ p ++ x → drop (length p) s ≡ x
rest_is s p x is = ap (drop (length p)) is ∙ drop_at p x (length p) refl
