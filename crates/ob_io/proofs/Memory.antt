-- Bytes that are moved to the front of a buffer.
use Rattle.std.proofs.Common.{◌≡◌, ℕ, ◌+◌, ◌-◌, ◌<◌, ◌≤◌, min, List, [], ◌++◌, length, take, drop, sym, ap, ◌∙◌, arith, length-take, length-drop}
use Rattle.std.proofs.lemmas.List.{take_at, take-append-drop, drop-drop}
use Rattle.std.proofs.Math.Seq.{take_all}
use Rattle.std.proofs.Math.ListN.{drop_of_length-le}

tail_whole : (bytes slice : List ℕ) (at : ℕ) → slice ≡ bytes → take (length slice - at) (drop at slice) ≡ drop at bytes
tail_whole bytes slice at e = rw e (take_all _ _ (rw length-drop (omega arith)))

-- what was moved and what is still to come
pub moved : (bytes slice part tail : List ℕ) (at n room : ℕ) → slice ≡ bytes
    → n ≡ min room (length (take (length slice - at) (drop at slice)))
    → part ≡ take n (take (length slice - at) (drop at slice))
    → drop at bytes ≡ take n (part ++ tail) ++ drop (at + n) bytes
moved bytes slice part tail at n room e count copied =
    let whole = tail_whole bytes slice at e in
    let count' = rw whole at count in
    let copied' = rw whole at copied in
    let fits : n ≤ length (drop at bytes) = omega (arith, count') in
    let size : length part ≡ n = ap length copied' ∙ rw length-take (omega arith) in
    sym (take-append-drop n (drop at bytes))
    ∙ ap (λ (l : List ℕ). l ++ drop n (drop at bytes)) (sym copied' ∙ sym (take_at part tail n size))
    ∙ ap (λ (l : List ℕ). take n (part ++ tail) ++ l) (drop-drop n at bytes)

-- no byte is moved into a buffer with room only at the end
pub none_left : (bytes slice : List ℕ) (at n room : ℕ) → slice ≡ bytes
    → n ≡ min room (length (take (length slice - at) (drop at slice))) → n ≡ 0 → 0 < room → drop (at + n) bytes ≡ []
none_left bytes slice at n room e count none some =
    let whole = tail_whole bytes slice at e in
    let count' = rw whole at count in
    let left : length (drop at bytes) ≡ 0 = omega (arith, count') in
    drop_of_length-le bytes (omega (arith, left, length-drop at bytes))
