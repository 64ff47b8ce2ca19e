-- The bytes of a chunk, one at a time.
use Rattle.ob_shell.proofs.Words.{ap, append-nil, append_assoc, arith, drop, Fed, Fetch, length, length-append, List, Option, refl, suc, sym, take, take-append-le, ℕ, [], ◌++◌, ◌+◌, ◌-◌, ◌<◌, ◌∙◌, ◌∷◌, ◌≡◌, ◌≤◌}
use Rattle.std.proofs.Common.{get_or, drop-cons, add-one}
use Rattle.std.proofs.KnownBytes.{Consumes-trans, Consumes-nil}

pub held_byte : (chunk : List ℕ) (from to : ℕ) → from ≤ to → (from ≡ to → ⊥) → to ≤ length chunk
    → take (to - from) (drop from chunk) ++ [] ≡ get_or chunk from 0 ∷ take (to - (from + 1)) (drop (from + 1) chunk)
held_byte chunk from to h ne fits =
    let d : drop from chunk ≡ get_or chunk from 0 ∷ drop (from + 1) chunk = rw add-one (drop-cons chunk from 0 (omega arith)) in
    let k : to - from ≡ suc (to - (from + 1)) = omega arith in
    append-nil _ ∙ rw (k, d)

read_first : (new post : List ℕ) (n : ℕ) → n ≤ length new → (n ≡ 0 → ⊥)
    → take n new ≡ get_or (new ++ post) 0 0 ∷ take (n - (0 + 1)) (drop (0 + 1) (new ++ post))
read_first [] post n fits ne = absurd (ne (omega arith))
read_first (x ∷ xs) post n fits ne =
    let k : n ≡ suc (n - 1) = omega arith in
    let below : n - 1 ≤ length xs = omega arith in
    ap (λ (m : ℕ). take m (x ∷ xs)) k ∙ ap (λ (l : List ℕ). x ∷ l) (sym (take-append-le (n - 1) xs post below))

pub read_byte : (chunk : List ℕ) (from to : ℕ) (new post : List ℕ) (n : ℕ) → from ≡ to → n ≤ length new → (n ≡ 0 → ⊥)
    → take (to - from) (drop from chunk) ++ take n new ≡ get_or (new ++ post) 0 0 ∷ take (n - (0 + 1)) (drop (0 + 1) (new ++ post))
read_byte chunk from to new post n same fits ne =
    let k : to - from ≡ 0 = omega arith in
    rw k (read_first new post n fits ne)

-- what a feed handed on, one piece after the other
pub Fed-then : {a b c : Fetch} {l0 l1 l2 : Option (List ℕ)} {xs ys : List ℕ} → Fed a b l0 l1 xs → Fed b c l1 l2 ys → Fed a c l0 l2 (xs ++ ys)
Fed-then {a = a} {b = b} {c = c} {xs = xs} {ys = ys} p q = record {
  piece = p.piece ++ q.piece;
  consumed = Consumes-trans _ _ _ _ _ p.consumed q.consumed;
  joined =
      sym (append_assoc a.unread p.piece q.piece) ∙ ap (λ (l : List ℕ). l ++ q.piece) p.joined ∙ append_assoc xs b.unread q.piece
      ∙ ap (λ (l : List ℕ). xs ++ l) q.joined ∙ sym (append_assoc xs ys c.unread);
  taken = omega (arith, p.taken, q.taken, length-append p.piece q.piece);
  limit = q.limit ∙ p.limit;
}

pub Fed-none : (f : Fetch) (l : Option (List ℕ)) → Fed f f l l []
Fed-none f l = record { piece = []; consumed = Consumes-nil l; joined = append-nil f.unread; taken = omega arith; limit = refl }

-- with each byte that was handed on fewer are left
pub fed_smaller : {a b : Fetch} {l0 l1 : Option (List ℕ)} (x : ℕ) → Fed a b l0 l1 (x ∷ []) → b.taken ≤ b.limit
    → (b.limit - b.taken) + length b.unread < (a.limit - a.taken) + length a.unread
fed_smaller {a = a} {b = b} x fed within =
    let lengths : length a.unread + length fed.piece ≡ 1 + length b.unread =
    sym (length-append a.unread fed.piece) ∙ ap length fed.joined ∙ length-append (x ∷ []) b.unread in
    omega (arith, fed.taken, fed.limit, lengths)
