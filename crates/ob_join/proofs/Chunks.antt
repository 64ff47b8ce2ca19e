-- The blocks of the joined slots.
use Rattle.std.proofs.Common.{◌≡◌, ◌≤◌, ◌<◌, ◌+◌, ◌*◌, ℕ, List, [], ◌∷◌, Option, None, length, map, nat_lt, if◌then◌else◌, refl, ◌∙◌, ap, arith}
use Rattle.std.proofs.lemmas.Bool.Decides.{nat_tests}
use Rattle.ob_row.specs.Rows.{Row}
use Rattle.ob_row.specs.Slots.{Slots, rows}
use Rattle.ob_row.specs.Results.{joined_slot, joined_chunk}
use Rattle.ob_base.specs.Lists.{each}
use Rattle.ob_base.specs.Numbers.{blocks_for}
use Rattle.ob_store.proofs.Steps.{length-each}
use Rattle.ob_script.specs.Parts.{pair_at}
use Rattle.ob_blocks.specs.Blocks.{up_to, block_at, map_at}
use Rattle.ob_blocks.proofs.Changes.{block-map_at, map_at-up_to}
use Rattle.ob_flat.specs.Flats.{whole_blocks}
use Rattle.ob_join.specs.Joining.{joined_below}

inside : (i n : ℕ) (o : Option Row) → i < n → (if nat_lt i n then o else None) ≡ o
inside i n o below = grind (arith, nat_tests)

behind : (i n : ℕ) (o : Option Row) → n ≤ i → (if nat_lt i n then o else None) ≡ None
behind i n o past = grind (arith, nat_tests)

map_below : (i j : ℕ) (left : List Row) (capacity first : ℕ) (slots : Slots) → first + length slots ≤ capacity → map_at (joined_below i j left capacity) first slots ≡ map (joined_slot i j left) slots
map_below i j left capacity first [] fits = refl
map_below i j left capacity first (slot ∷ slots) fits =
    ap (λ (s : Option Row). s ∷ map_at (joined_below i j left capacity) (first + 1) slots) (inside first capacity (joined_slot i j left slot) (omega (arith, fits)))
    ∙ ap (λ (l : Slots). joined_slot i j left slot ∷ l) (map_below i j left capacity (first + 1) slots (omega (arith, fits)))

-- what becomes of right block v is block v of the chunk's slots
pub chunk_block : (i j pack capacity v : ℕ) (left right : Slots) → length right ≡ capacity
    → map_at (joined_below i j (rows left) capacity) (v * pack) (block_at pack (whole_blocks pack capacity right) v) ≡ block_at pack (joined_chunk i j (blocks_for pack capacity * pack) left right) v
chunk_block i j pack capacity v left right size =
    let f = joined_below i j (rows left) capacity in
    let n = blocks_for pack capacity * pack in
    block-map_at f pack v (whole_blocks pack capacity right)
    ∙ ap (λ (l : Slots). block_at pack l v) (map_at-up_to f n right (λ k past. behind k capacity (joined_slot i j (rows left) None) (omega (arith, past, size))) ∙ ap (up_to n) (map_below i j (rows left) capacity 0 right (omega (arith, size))))

-- how many accesses the pairs of a chunk are
pub pairs_length : (b g rights q n : ℕ) → length (each n (pair_at b g rights q)) ≡ 2 * n
pairs_length b g rights q n = length-each (pair_at b g rights q) 2 (λ i. refl) n ∙ omega arith
