-- What a read of the generated text gives.
use Rattle.std.proofs.Common.{◌≡◌, ℕ, ◌+◌, ◌-◌, ◌<◌, ◌≤◌, ◌⊎◌, min, List, [], ◌∷◌, ◌++◌, length, take, drop, ap, ◌∙◌, inl, inr, arith, append_assoc, length-append, length-take, length-drop}
use Rattle.std.proofs.Math.ListN.{drop_of_length-le}
use Rattle.std.specs.List.{concat}
use Rattle.ob_io.proofs.Memory.{moved}

-- of a line from a place on, and of the lines after it
abbrev pub rest_of : (line : List ℕ) (at : ℕ) (left : List (List ℕ)) → List ℕ
rest_of line at left = drop at line ++ concat left

-- this is left, and there is something of the line, or nothing at all
pub record IsAtHand (all line : List ℕ) (at : ℕ) (left : List (List ℕ)) : Type 0 where
  pub same : all ≡ rest_of line at left
  pub some : (at < length line) ⊎ ((length line ≤ at) × (left ≡ []))

-- the next line was taken
pub line_taken : (all line next : List ℕ) (at : ℕ) (left more : List (List ℕ)) → all ≡ rest_of line at left → length line ≤ at → left ≡ next ∷ more → 0 < length next
    → IsAtHand all next 0 more
line_taken all line next at left more is end first some = record { same = is ∙ rw (drop_of_length-le line end, first); some = inl some }

-- there was something of the line
pub line_goes_on : (all line : List ℕ) (at : ℕ) (left : List (List ℕ)) → all ≡ rest_of line at left → at ≤ length line → (at ≡ length line → ⊥) → IsAtHand all line at left
line_goes_on all line at left is within not = record { same = is; some = inl (omega arith) }

-- what is read is the front of what was left, and nothing only where there is no room or nothing is left
pub read_gives : (all line slice part buf : List ℕ) (at n : ℕ) (left : List (List ℕ)) → IsAtHand all line at left → slice ≡ line
    → n ≡ min (length buf) (length (take (length slice - at) (drop at slice)))
    → part ≡ take n (take (length slice - at) (drop at slice))
    → (all ≡ take n (part ++ drop n buf) ++ rest_of line (at + n) left) × (n ≡ 0 → 0 < length (part ++ drop n buf) → rest_of line (at + n) left ≡ [])
read_gives all line slice part buf at n left hand same count copied =
    let tail = drop n buf in (
      hand.same ∙ ap (λ (l : List ℕ). l ++ concat left) (moved line slice part tail at n (length buf) same count copied)
          ∙ append_assoc (take n (part ++ tail)) (drop (at + n) line) (concat left),
      λ none room. elim hand.some [
        | inl within ↦ absurd (omega (
          arith,
          ap length same,
          ap length copied,
          length-append part tail,
          length-drop n buf,
          length-drop at slice,
          length-take (length slice - at) (drop at slice),
          length-take n (take (length slice - at) (drop at slice)),
        ))
        | inr end ↦ rw (drop_of_length-le line {i = at + n} (omega (arith, end.0)), end.1)
      ],
    )
