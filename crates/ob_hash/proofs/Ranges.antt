-- The blocks of a bucket, one after the other.
use Rattle.std.proofs.Common.{◌≡◌, ◌≤◌, ◌+◌, ◌*◌, ℕ, Bool, [], ◌++◌, Option, length, take, drop, sym, ◌∙◌, ap, arith, length-append, append_assoc}
use Rattle.std.proofs.lemmas.List.{take_at, drop_at, drop-drop, length-take, length-drop, take-append-drop}
use Rattle.std.proofs.Math.Seq.{take-add}
use Rattle.ob_row.specs.Rows.{Row}
use Rattle.ob_row.specs.Slots.{Slots}
use Rattle.ob_blocks.specs.Blocks.{block_at, with_block}
use Rattle.ob_hash.specs.Waiting.{waits_after, filled_with}
use Rattle.ob_hash.specs.Bucketed.{bucket_waits, bucket_after}
use Rattle.ob_hash.proofs.Waiting.{waits_after-append, filled_with-append, length-filled_with}

-- y blocks from block f on
abbrev pub blocks_from : ℕ → ℕ → ℕ → Slots → Slots
blocks_from r f y all = take (y * r) (drop (f * r) all)

-- these were shown to a row
abbrev pub shown : ℕ → ℕ → ℕ → Bool → Option Row → Slots → Slots
shown r f y waits own all = take (f * r) all ++ (filled_with waits own (blocks_from r f y all) ++ drop ((f + y) * r) all)

-- none yet
pub shown_none : (r f : ℕ) (waits : Bool) (own : Option Row) (all : Slots) → shown r f 0 waits own all ≡ all
shown_none r f waits own all =
    let none : 0 * r ≡ 0 = omega arith in
    let here : (f + 0) * r ≡ f * r = grind arith in
    ap (λ (n : ℕ). take (f * r) all ++ (filled_with waits own (take n (drop (f * r) all)) ++ drop ((f + 0) * r) all)) none
    ∙ ap (λ (n : ℕ). take (f * r) all ++ drop n all) here ∙ take-append-drop (f * r) all

pub waits_none : (r f : ℕ) (waits : Bool) (all : Slots) → waits_after waits (blocks_from r f 0 all) ≡ waits
waits_none r f waits all = let none : 0 * r ≡ 0 = omega arith in ap (λ (n : ℕ). waits_after waits (take n (drop (f * r) all))) none

-- a list in three parts, of which the first two are whole blocks
module _ (r p : ℕ) (first middle rest made : Slots) (size : length first + length middle ≡ p * r) where
  seam : length (first ++ middle) ≡ p * r
  seam = length-append first middle ∙ size

  split : first ++ (middle ++ rest) ≡ (first ++ middle) ++ rest
  split = sym (append_assoc first middle rest)

  at_seam : block_at r (first ++ (middle ++ rest)) p ≡ take r rest
  at_seam = ap (λ (l : Slots). take r (drop (p * r) l)) split ∙ ap (take r) (drop_at (first ++ middle) rest (p * r) seam)

  put_seam : with_block r (first ++ (middle ++ rest)) p made ≡ first ++ ((middle ++ made) ++ drop r rest)
  put_seam =
      let next : (p + 1) * r ≡ p * r + r = grind arith in
      let past : drop ((p + 1) * r) ((first ++ middle) ++ rest) ≡ drop r rest =
      ap (λ (n : ℕ). drop n ((first ++ middle) ++ rest)) next ∙ sym (drop-drop r (p * r) ((first ++ middle) ++ rest)) ∙ ap (drop r) (drop_at (first ++ middle) rest (p * r) seam) in
      ap (λ (l : Slots). with_block r l p made) split
      ∙ ap (λ (l : Slots). l ++ (made ++ drop ((p + 1) * r) ((first ++ middle) ++ rest))) (take_at (first ++ middle) rest (p * r) seam)
      ∙ ap (λ (l : Slots). (first ++ middle) ++ (made ++ l)) past
      ∙ append_assoc first middle (made ++ drop r rest) ∙ ap (λ (l : Slots). first ++ l) (sym (append_assoc middle made (drop r rest)))

-- one block more
module _ (r f y : ℕ) (waits : Bool) (own : Option Row) (all : Slots) (inside : (f + y) * r ≤ length all) where
  sum : (f + y) * r ≡ f * r + y * r
  sum = grind arith

  seam_size : length (take (f * r) all) + length (filled_with waits own (blocks_from r f y all)) ≡ (f + y) * r
  seam_size = omega (arith, inside, sum, length-take (f * r) all, length-filled_with waits own (blocks_from r f y all), length-take (y * r) (drop (f * r) all), length-drop (f * r) all)

  -- it is as it was
  pub block_here : block_at r (shown r f y waits own all) (f + y) ≡ take r (drop ((f + y) * r) all)
  block_here = at_seam r (f + y) (take (f * r) all) (filled_with waits own (blocks_from r f y all)) (drop ((f + y) * r) all) [] seam_size

  next_blocks : blocks_from r f (y + 1) all ≡ blocks_from r f y all ++ take r (drop ((f + y) * r) all)
  next_blocks =
      let next : (y + 1) * r ≡ y * r + r = grind arith in
      ap (λ (n : ℕ). take n (drop (f * r) all)) next ∙ take-add (y * r) r (drop (f * r) all)
      ∙ ap (λ (l : Slots). blocks_from r f y all ++ take r l) (drop-drop (y * r) (f * r) all ∙ ap (λ (n : ℕ). drop n all) (sym sum))

  pub waits_next : waits_after (waits_after waits (blocks_from r f y all)) (block_at r (shown r f y waits own all) (f + y)) ≡ waits_after waits (blocks_from r f (y + 1) all)
  waits_next =
      ap (waits_after (waits_after waits (blocks_from r f y all))) block_here
      ∙ sym (waits_after-append waits (blocks_from r f y all) (take r (drop ((f + y) * r) all))) ∙ ap (waits_after waits) (sym next_blocks)

  pub shown_next : with_block r (shown r f y waits own all) (f + y) (filled_with (waits_after waits (blocks_from r f y all)) own (block_at r (shown r f y waits own all) (f + y))) ≡ shown r f (y + 1) waits own all
  shown_next =
      let first = take (f * r) all in
      let before = blocks_from r f y all in
      let rest = drop ((f + y) * r) all in
      let later = waits_after waits before in
      let made : filled_with waits own before ++ filled_with later own (take r rest) ≡ filled_with waits own (blocks_from r f (y + 1) all) =
      sym (filled_with-append waits own before (take r rest)) ∙ ap (filled_with waits own) (sym next_blocks) in
      let past : drop r rest ≡ drop ((f + (y + 1)) * r) all = drop-drop r ((f + y) * r) all ∙ ap (λ (n : ℕ). drop n all) (grind arith) in
      ap (λ (l : Slots). with_block r (shown r f y waits own all) (f + y) (filled_with later own l)) block_here
      ∙ put_seam r (f + y) first (filled_with waits own before) rest (filled_with later own (take r rest)) seam_size
      ∙ ap (λ (l : Slots). first ++ (l ++ drop r rest)) made ∙ ap (λ (l : Slots). first ++ (filled_with waits own (blocks_from r f (y + 1) all) ++ l)) past

-- all blocks of a bucket
module _ (r depth b y : ℕ) (waits : Bool) (own : Option Row) (all : Slots) (last : y ≡ depth) where
  from : (b * depth) * r ≡ b * (depth * r)
  from = grind arith

  pub waits_all : waits_after waits (blocks_from r (b * depth) y all) ≡ bucket_waits (depth * r) waits all b
  waits_all = ap (λ (k : ℕ). waits_after waits (take (k * r) (drop ((b * depth) * r) all))) last ∙ ap (λ (n : ℕ). waits_after waits (take (depth * r) (drop n all))) from

  pub shown_all : shown r (b * depth) y waits own all ≡ bucket_after (depth * r) waits own all b
  shown_all =
      let past : (b * depth + depth) * r ≡ (b + 1) * (depth * r) = grind arith in
      ap (λ (k : ℕ). shown r (b * depth) k waits own all) last
      ∙ ap (λ (n : ℕ). take n all ++ (filled_with waits own (take (depth * r) (drop n all)) ++ drop ((b * depth + depth) * r) all)) from
      ∙ ap (λ (n : ℕ). take (b * (depth * r)) all ++ (filled_with waits own (block_at (depth * r) all b) ++ drop n all)) past
