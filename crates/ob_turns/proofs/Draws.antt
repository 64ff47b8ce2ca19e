-- The words of the program go on.
use Rattle.std.proofs.Common.{◌≡◌, ◌+◌, ◌/◌, ℕ, zero, suc, refl, sym, ap, ◌∙◌, arith}
use Rattle.ob_script.specs.Flights.{draw, drawn, next_draw}

draw_behind : (x n : ℕ) → draw (next_draw x) n ≡ draw x (suc n)
unfolding draw
draw_behind x zero = refl
draw_behind x (suc n) = ap next_draw (draw_behind x n)

first_draw : (x : ℕ) → draw x (0 + 1) ≡ next_draw x
unfolding draw
first_draw x = refl

pub first_word : (x y : ℕ) → y ≡ next_draw x → y / 8589934592 ≡ drawn x 0
first_word x y is = ap (λ (n : ℕ). n / 8589934592) (is ∙ sym (first_draw x))

pub words_behind : (x y : ℕ) → y ≡ next_draw x → (t : ℕ) → drawn y t ≡ drawn x (t + 1)
words_behind x y is t =
    let next : suc (t + 1) ≡ (t + 1) + 1 = omega arith in
    ap (λ (n : ℕ). n / 8589934592) (ap (λ (z : ℕ). draw z (t + 1)) is ∙ draw_behind x (t + 1) ∙ ap (draw x) next)
