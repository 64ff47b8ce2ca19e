-- The rows of some blocks among those that are kept.
use Rattle.std.proofs.Common.{◌≡◌, ◌≤◌, ◌<◌, ◌+◌, ◌-◌, ◌*◌, ℕ, min, Fits, w32, w64, List, [], ◌++◌, Option, None, length, take, drop, replicate, slice_index_or, refl, inl, inr, sym, ◌∙◌, ap, subst, arith, length-append}
use Rattle.std.proofs.lemmas.List.{get_or-take, get_or-drop, get_or-replicate, get_or_append_left, length-take, length-drop, length-replicate}
use Rattle.std.proofs.Math.Seq.{get_or-append_right}
use Rattle.std.proofs.lemmas.Bool.{cases_lt}
use Rattle.std.specs.Int.{div_ceil}
use borrow.Rule.Slice.PartMut.{put_mid}
use Rattle.ob_base.specs.Lists.{each}
use Rattle.ob_base.specs.Numbers.{blocks_for}
use Rattle.ob_base.specs.Schemas.{Columns}
use Rattle.ob_store.proofs.Steps.{length-each}
use Rattle.ob_script.specs.Parts.{read_from}
use Rattle.ob_room.specs.RoomState.{clear}
use Rattle.ob_vault.specs.Rows.{row_at, SameSizes, Wide}
use Rattle.ob_vault.specs.Places.{RowsFit}
use Rattle.ob_row.specs.Rows.{Row}
use Rattle.ob_row.specs.Slots.{Slots}
use Rattle.ob_row.specs.Spelling.{Begins}
use Rattle.ob_blocks.specs.Blocks.{block_at}
use Rattle.ob_blocks.proofs.Blocks.{block-element}
use Rattle.ob_flat.proofs.Tables.{blocks_few, index_fits}
use Rattle.ob_flat.specs.Slots.{Spelt}
use Rattle.ob_flat.specs.Flats.{whole_blocks}
use Rattle.ob_join.specs.Joining.{blocks_from}

-- how many accesses the reads are
pub reads_from : (q first n : ℕ) → length (each n (read_from q first)) ≡ n
reads_from q first n = length-each (read_from q first) 1 (λ i. refl) n ∙ omega arith

pub within : (a r : ℕ) → (a + r) - a ≡ r
within a r = omega arith

pub part_within : (a r : ℕ) → a ≤ a + r
part_within a r = omega arith

-- before the first block, in a turn, and after the last
pub none_below : (j r : ℕ) → j < 0 * r → ⊥
none_below j r less = omega arith

pub nearer : {x n : ℕ} → x < n → n - (x + 1) < n - x
nearer less = omega arith

pub all_done : {x n : ℕ} → x ≤ n → n ≤ x → x ≡ n
all_done less more = omega arith

-- where the rows of a block lie among those of all
module _ (pack capacity first n x : ℕ) (some : 1 ≤ pack) (few : pack ≤ 16) (most : capacity ≤ 16777216) (inside : first + n ≤ blocks_for pack capacity) (less : x < n) where
  ends : x * pack + pack ≤ 16777232
  ends = index_fits pack capacity x some few most (omega (arith, inside, less))

  pub row_fits : Fits w32 (x * pack)
  row_fits = omega (arith, ends)

  pub row_small : Fits w64 (x * pack)
  row_small = omega (arith, ends)

  pub rows_small : Fits w64 (x * pack + pack)
  rows_small = omega (arith, ends)

  pub bytes_small : Fits w64 (x * pack * 24)
  bytes_small = omega (arith, ends)

  pub place_fits : Fits w32 (first + x)
  place_fits = omega (arith, inside, less, blocks_few pack capacity some, most)

-- r rows from number a on
module _ (a r : ℕ) (rows : List (List ℕ)) (fits : a + r ≤ length rows) where
  pub part_at : (z : ℕ) → z < r → row_at (take r (drop a rows)) z ≡ row_at rows (a + z)
  part_at z below = get_or-take r (drop a rows) z [] below ∙ get_or-drop a rows z []

  pub part_long : length (take r (drop a rows)) ≡ r
  part_long = omega (arith, length-take r (drop a rows), length-drop a rows)

  pub part_wide : (w : ℕ) → Wide w rows → Wide w (take r (drop a rows))
  part_wide w wide = record {
    wide = λ z below.
        let less : z < r = omega (arith, below, part_long) in
        subst (λ (row : List ℕ). w ≤ length row) (sym (part_at z less)) (wide.wide (a + z) (omega (arith, less, fits)));
  }

  -- they fit a block
  pub part_fit : (w : ℕ) → 1 ≤ r → Wide w rows → RowsFit (take r (drop a rows)) (r * w)
  part_fit w some wide = record { each = w; whole = ap (λ (n : ℕ). n * w) part_long; some = omega (arith, part_long, some); wide = part_wide w wide }

  -- others are put in their place
  module _ (part : List (List ℕ)) (size : length part ≡ r) where
    pub put_before : (j : ℕ) → j < a → row_at (put_mid a r rows part) j ≡ row_at rows j
    put_before j less = get_or_append_left (take a rows) (part ++ drop r (drop a rows)) [] j (omega (arith, less, fits, length-take a rows)) ∙ get_or-take a rows j [] less

    pub put_at : (z : ℕ) → z < r → row_at (put_mid a r rows part) (a + z) ≡ row_at part z
    put_at z less =
        let first : length (take a rows) ≡ a = omega (arith, fits, length-take a rows) in
        let back : a + z - length (take a rows) ≡ z = omega (arith, first) in
        get_or-append_right (take a rows) (part ++ drop r (drop a rows)) (a + z) [] (omega (arith, first))
        ∙ ap (row_at (part ++ drop r (drop a rows))) back ∙ get_or_append_left part (drop r (drop a rows)) [] z (omega (arith, size, less))

    put_behind : (j : ℕ) → a + r ≤ j → row_at (put_mid a r rows part) j ≡ row_at rows j
    put_behind j more =
        let first : length (take a rows) ≡ a = omega (arith, fits, length-take a rows) in
        let back : a + (r + (j - length (take a rows) - length part)) ≡ j = omega (arith, first, size, more) in
        get_or-append_right (take a rows) (part ++ drop r (drop a rows)) j [] (omega (arith, first, more))
        ∙ get_or-append_right part (drop r (drop a rows)) (j - length (take a rows)) [] (omega (arith, first, size, more))
        ∙ get_or-drop r (drop a rows) (j - length (take a rows) - length part) [] ∙ get_or-drop a rows (r + (j - length (take a rows) - length part)) []
        ∙ ap (row_at rows) back

    put_long : length (put_mid a r rows part) ≡ length rows
    put_long = omega (arith, fits, size, length-append (take a rows) (part ++ drop r (drop a rows)), length-append part (drop r (drop a rows)), length-drop r (drop a rows), length-drop a rows, length-take a rows)

    -- what holds of those before and of these
    pub put_more : (P : ℕ → List ℕ → Type 0) → ((j : ℕ) → j < a → P j (row_at rows j)) → ((z : ℕ) → z < r → P (a + z) (row_at part z)) → (j : ℕ) → j < a + r → P j (row_at (put_mid a r rows part) j)
    put_more P before these j below = elim (cases_lt j a) [
      | inl less ↦ subst (P j) (sym (put_before j less)) (before j less)
      | inr more ↦
          let is : a + (j - a) ≡ j = omega (arith, more) in
          let less : j - a < r = omega (arith, more, below) in
          subst (λ (i : ℕ). P i (row_at (put_mid a r rows part) i)) is (subst (P (a + (j - a))) (sym (put_at (j - a) less)) (these (j - a) less))
    ]

    pub put_sizes : SameSizes (take r (drop a rows)) part → SameSizes rows (put_mid a r rows part)
    put_sizes same = record {
      count = put_long;
      sizes = λ j. elim (cases_lt j a) [
        | inl less ↦ ap length (put_before j less)
        | inr more ↦ elim (cases_lt j (a + r)) [
          | inl below ↦
              let is : a + (j - a) ≡ j = omega (arith, more) in
              let less : j - a < r = omega (arith, more, below) in
              subst (λ (i : ℕ). length (row_at (put_mid a r rows part) i) ≡ length (row_at rows i)) is
              (ap length (put_at (j - a) less) ∙ same.sizes (j - a) ∙ ap length (part_at (j - a) less))
          | inr past ↦ ap length (put_behind j past)
        ]
      ];
    }

-- cleared rows are as wide as those of the room
pub clear_wide : (w v k n : ℕ) (rows : List (List ℕ)) → w ≤ v → rows ≡ drop k (replicate n (clear v)) → Wide w rows
clear_wide w v k n rows narrow is =
    let all : Wide w (drop k (replicate n (clear v))) = record {
      wide = λ j below.
          let less : k + j < n = omega (arith, below, length-drop k (replicate n (clear v)), length-replicate n (clear v)) in
          omega (arith, narrow, ap length (get_or-drop k (replicate n (clear v)) j [] ∙ get_or-replicate n (k + j) (clear v) [] less), length-replicate {A = ℕ} v 0);
    } in
    subst (Wide w) (sym is) all

-- the rows of a block that was read are those of the next slots
pub read_next : (columns : Columns) (r first x : ℕ) (all : Slots) (rows : List (List ℕ)) → length rows ≡ r → Spelt columns (block_at r all (first + x)) rows
    → (z : ℕ) → z < r → Begins columns (slice_index_or all (first * r + (x * r + z)) None) (row_at rows z)
read_next columns r first x all rows size spelt z below =
    let index : (first + x) * r + z ≡ first * r + (x * r + z) = grind arith in
    subst (λ (s : Option Row). Begins columns s (row_at rows z)) (block-element r (first + x) z all None below ∙ ap (λ (i : ℕ). slice_index_or all i None) index) (spelt.each z (omega (arith, size, below)))

pub product_within : (a b r : ℕ) → a ≤ b → a * r ≤ b * r
product_within a b r fits = grind arith

-- a chunk is no longer than what is kept
pub kept_within : {n lefts : ℕ} (first capacity q pack : ℕ) → lefts ≡ div_ceil capacity pack → n ≡ min q (lefts - first) → n * pack ≤ min q (div_ceil capacity pack) * pack
kept_within {n} {lefts} first capacity q pack whole is = product_within n (min q (div_ceil capacity pack)) pack (omega (arith, whole, is))

pub sum_room : (first n m r : ℕ) → first + n ≤ m → first * r + n * r ≤ m * r
sum_room first n m r fits =
    let sum : (first + n) * r ≡ first * r + n * r = grind arith in
    let less : (first + n) * r ≤ m * r = product_within (first + n) m r fits in
    omega (arith, sum, less)

-- the rows of all blocks that were read
pub spelt_from : (columns : Columns) (r capacity first n : ℕ) (slots : Slots) (rows : List (List ℕ)) → length (whole_blocks r capacity slots) ≡ blocks_for r capacity * r → first + n ≤ blocks_for r capacity → length rows ≡ n * r
    → ((j : ℕ) → j < n * r → Begins columns (slice_index_or (whole_blocks r capacity slots) (first * r + j) None) (row_at rows j)) → Spelt columns (blocks_from r capacity first n slots) rows
spelt_from columns r capacity first n slots rows size inside long spell =
    let all = whole_blocks r capacity slots in
    let room : first * r + n * r ≤ blocks_for r capacity * r = sum_room first n (blocks_for r capacity) r inside in
    record {
      count = omega (arith, size, long, room, length-take (n * r) (drop (first * r) all), length-drop (first * r) all);
      each = λ j below.
          let less : j < n * r = omega (arith, below, long) in
          subst (λ (s : Option Row). Begins columns s (row_at rows j)) (sym (get_or-take (n * r) (drop (first * r) all) j None less ∙ get_or-drop (first * r) all j None)) (spell j less);
    }

-- the first place of a chunk, and the others
module _ {blocks rights : ℕ} (chunk pack capacity : ℕ) (some : 1 ≤ pack) (most : capacity ≤ 16777216) (inside : chunk * rights + rights ≤ blocks_for pack capacity) (is : blocks ≡ rights) where
  first_is : chunk * blocks ≡ chunk * rights
  first_is = ap (λ (n : ℕ). chunk * n) is

  pub first_fits : Fits w32 (chunk * blocks)
  first_fits = omega (arith, first_is, inside, blocks_few pack capacity some, most)

  pub next_fits : {v : ℕ} → v < blocks → Fits w32 (chunk * blocks + v)
  next_fits less = omega (arith, first_is, is, less, inside, blocks_few pack capacity some, most)
