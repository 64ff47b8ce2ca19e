-- Tables in the vault and its store.
use Rattle.std.proofs.Common.{◌≡◌, ◌≢◌, ◌≤◌, ◌<◌, ◌+◌, ◌*◌, ◌/◌, ◌==◌, if◌then◌else◌, inl, inr, ℕ, Bool, IsTrue, List, Option, None, Fits, w32, mul-le-mul, length, refl, sym, ◌∙◌, ap, subst, arith}
use Rattle.std.proofs.lemmas.Grind.{div_ceil_times}
use Rattle.std.specs.List.{All}
use Rattle.ob_base.specs.Lists.{each}
use Rattle.ob_base.specs.Numbers.{blocks_for}
use Rattle.ob_base.specs.Accesses.{read_at}
use Rattle.ob_script.specs.Parts.{copy_at}
use Rattle.ob_row.specs.Rows.{Row}
use Rattle.ob_vault.specs.declared.region.Region.{Region}
use Rattle.ob_vault.specs.declared.region.Order.{Order}
use Rattle.ob_vault.specs.Tied.{Holds, Lives, OnTurn, Written}
use Rattle.ob_base.specs.Schemas.{Columns, width}
use Rattle.ob_store.proofs.Steps.{length-each}
use Rattle.ob_vault.specs.State.{World}
use Rattle.ob_vault.specs.Calls.{Lasts, Only}
use Rattle.ob_vault.specs.Rows.{joined, Wide}
use Rattle.ob_vault.proofs.RowsLemmas.{rows_room}
use Rattle.ob_vault.proofs.Runs.{own_lasts, lives_lasts, written_lasts as place_lasts, holds_lasts, turn_lasts, holds_only, holds_rows}
use Rattle.std.proofs.lemmas.List.{length-replicate}
use Rattle.std.proofs.lemmas.List.Elements.{All-replicate}
use Rattle.ob_blocks.specs.Blocks.{block_at, with_block, map_at, none_of}
use Rattle.ob_blocks.proofs.Changes.{length-map_at, all-map_at, map_at-up_to}
use Rattle.ob_blocks.proofs.Blocks.{length-up_to, length-block, all_up_to, all_block, block_none, length-with_block, all_with_block, block_same, block_before, block_after}
use Rattle.std.proofs.lemmas.Bool.{cases_eq, cases_lt}
use Rattle.std.proofs.lemmas.Bool.Decides.{nat_tests}
use Rattle.ob_flat.specs.declared.flat.Flat.{Flat}
use Rattle.ob_row.specs.Slots.{Slots, empty_slots}
use Rattle.ob_flat.specs.Slots.{FitsSlot, Spelt, AreSlots, block_bytes}
use Rattle.ob_flat.specs.Flats.{IsSized, FitsRegion, IsAtFirst, IsMade, IsFlat, IsWritten, HoldsSlots, HoldsBlock, HoldsRows, Represents, Accepts, table_region, whole_blocks}
use Rattle.ob_flat.proofs.Rows.{spelt_joined, joined_spelt, spelt_fits, width_each, block_size}

-- how many accesses the reads of a table are
pub reads : (q n : ℕ) → length (each n (read_at q)) ≡ n
reads q n = length-each (read_at q) 1 (λ i. refl) n ∙ omega arith

pub blocks_hold : (pack capacity : ℕ) → 1 ≤ pack → capacity ≤ blocks_for pack capacity * pack
blocks_hold pack capacity some = (div_ceil_times capacity pack (omega arith)).0

-- there are no more blocks than slots
pub blocks_few : (pack capacity : ℕ) → 1 ≤ pack → blocks_for pack capacity ≤ capacity
blocks_few pack capacity some = grind arith

-- and their slots are fewer than a block's more
pub blocks_end : (pack capacity : ℕ) → 1 ≤ pack → blocks_for pack capacity * pack < capacity + pack
blocks_end pack capacity some = (div_ceil_times capacity pack (omega arith)).1

-- the place that is in turn after so many, which may be the last
pub not_last : (i n : ℕ) → i < n → (if i == n then 0 else i) ≡ i
not_last i n below = grind (arith, nat_tests)

pub at_last : (i n : ℕ) → i ≡ n → (if i == n then 0 else i) ≡ 0
at_last i n same = grind (arith, nat_tests)

-- a table of which no block was written, or that wasn't touched
module _ (pack : ℕ) (flat : Flat) (some : ℕ → Type 0) (a b : World) (lasts : Lasts some a b) (off : some flat.region → ⊥) where
  pub made_lasts : IsMade pack flat a → IsMade pack flat b
  made_lasts is = record { own = own_lasts some a b lasts flat.region is.own; order = is.order; lives = lives_lasts some a b lasts _ _ off is.lives; turn = turn_lasts some a b lasts _ _ off is.turn }

  first_lasts : IsAtFirst pack flat a → IsAtFirst pack flat b
  first_lasts is = record { order = is.order; lives = lives_lasts some a b lasts _ _ off is.lives; turn = turn_lasts some a b lasts _ _ off is.turn }

  pub flat_lasts : IsFlat pack flat a → IsFlat pack flat b
  flat_lasts is = record { made = first_lasts is.made; written = λ p below. place_lasts some a b lasts flat.region p off (is.written p below) }

  pub written_lasts : IsWritten pack flat a → IsWritten pack flat b
  written_lasts is = record { order = is.order; lives = lives_lasts some a b lasts _ _ off is.lives; written = λ p below. place_lasts some a b lasts flat.region p off (is.written p below) }

  pub slots_lasts : (slots : Slots) → HoldsSlots pack flat slots a → HoldsSlots pack flat slots b
  slots_lasts slots is = record { size = is.size; fits = is.fits; holds = λ p below. holds_lasts some a b lasts flat.region p _ off (is.holds p below) }

  pub represents_lasts : (slots : Slots) → Represents pack flat slots a → Represents pack flat slots b
  represents_lasts slots is = record { size = is.size; fits = is.fits; holds = λ p below. holds_lasts some a b lasts flat.region p _ off (is.holds p below) }

  -- and those that it has now it had before
  pub represents_before : (slots : Slots) → Represents pack flat slots b → Represents pack flat slots a
  represents_before slots is = record {
    size = is.size;
    fits = is.fits;
    holds = λ p below.
        let here = (is.holds p below).last in
        let last = lasts.apart.last flat.region p off in
        let number = lasts.apart.number flat.region p off in
        let keys = lasts.keys in
        record { last = cc (here, last, number, keys) };
  }

  pub rows_lasts : HoldsRows pack flat a → HoldsRows pack flat b
  rows_lasts is = record { each = λ p below. let here = is.each p below in record { slots = here.slots; size = here.size; fits = here.fits; holds = holds_lasts some a b lasts flat.region p _ off here.holds } }

-- a block of rows or dummies that wasn't touched
pub block_lasts : (pack : ℕ) (columns : Columns) (some : ℕ → Type 0) (a b : World) (q x : ℕ) → Lasts some a b → (some q → ⊥) → HoldsBlock pack columns q x a → HoldsBlock pack columns q x b
block_lasts pack columns some a b q x lasts off is = record { slots = is.slots; size = is.size; fits = is.fits; holds = holds_lasts some a b lasts q x _ off is.holds }

pub block_only : (pack : ℕ) (columns : Columns) (a b : World) (r y q x : ℕ) → Only r y a b → (q ≡ r → x ≡ y → ⊥) → HoldsBlock pack columns q x a → HoldsBlock pack columns q x b
block_only pack columns a b r y q x only off is = record { slots = is.slots; size = is.size; fits = is.fits; holds = holds_only _ _ _ _ only q x _ off is.holds }

-- a table's slots fit a region
pub fits_sized : (pack : ℕ) (columns : Columns) (capacity : ℕ) → 1 ≤ pack → IsSized columns capacity → FitsRegion pack columns capacity
fits_sized pack columns capacity some is = record { some = is.some; few = is.few; wide = is.wide; least = is.least; blocks = omega (arith, blocks_few pack capacity some, is.most) }

-- and so do the indices of the slots of a block
pub index_in : (pack blocks u : ℕ) → pack ≤ 16 → blocks ≤ 134217728 → u < blocks → u * pack + pack ≤ 2147483648
index_in pack blocks u few most below =
    let room : u * pack + pack ≤ blocks * pack = rows_room u blocks pack below in
    let all : blocks * pack ≤ 134217728 * 16 = grind arith in
    omega (arith, room, all)

-- a table may be read
pub written_flat : (pack : ℕ) (flat : Flat) (w : World) → IsFlat pack flat w → IsWritten pack flat w
written_flat pack flat w is = record { order = is.made.order; lives = is.made.lives; written = is.written }

-- the blocks of a region that has these slots
module _ (pack : ℕ) (flat : Flat) (slots : Slots) (w : World) (is : HoldsSlots pack flat slots w) (some : 1 ≤ pack) where
  -- a block has `pack` slots, and the bytes of as many rows
  pub slots_block : (u : ℕ) → u < blocks_for pack flat.capacity → length (block_at pack slots u) ≡ pack
  slots_block u below = length-block pack slots u _ below is.size

  pub slots_fit : (u : ℕ) → All (FitsSlot flat.schema) (block_at pack slots u)
  slots_fit u = all_block (FitsSlot flat.schema) pack slots u is.fits

  pub slots_long : (u : ℕ) → u < blocks_for pack flat.capacity → length (block_bytes flat.schema (block_at pack slots u)) ≡ pack * width flat.schema
  slots_long u below = block_size flat.schema _ (slots_fit u) ∙ ap (λ (n : ℕ). n * width flat.schema) (slots_block u below)

  -- each block is one of rows or dummies
  pub slots_rows : HoldsRows pack flat w
  slots_rows = record { each = λ p below. record { slots = block_at pack slots p; size = slots_block p below; fits = slots_fit p; holds = is.holds p below } }

  -- the rows of a block that was read spell its slots
  pub slots_got : (u n : ℕ) (rows : List (List ℕ)) → u < blocks_for pack flat.capacity → n ≡ pack → length rows ≡ pack → Wide (width flat.schema) rows
      → joined ((pack * width flat.schema) / n) rows ≡ block_bytes flat.schema (block_at pack slots u) → Spelt flat.schema (block_at pack slots u) rows
  slots_got u n rows below same size wide bytes =
      let each : (pack * width flat.schema) / n ≡ width flat.schema = ap (λ (k : ℕ). (pack * width flat.schema) / k) same ∙ width_each pack (width flat.schema) some in
      spelt_joined flat.schema _ rows wide (slots_block u below ∙ sym size) (slots_fit u) (ap (λ (w : ℕ). joined w rows) (sym each) ∙ bytes)

  -- another block was written
  pub slots_put : (v : World) (place : ℕ) (block : Slots) → place < blocks_for pack flat.capacity → length block ≡ pack → All (FitsSlot flat.schema) block
      → Only flat.region place w v → Holds flat.region place (block_bytes flat.schema block) v → HoldsSlots pack flat (with_block pack slots place block) v
  slots_put v place block below whole fits only here = record {
    size = length-with_block pack _ slots is.size place below block whole;
    fits = all_with_block pack _ slots is.size place below block whole (FitsSlot flat.schema) is.fits fits;
    holds = λ p inside. elim (cases_eq p place) [
      | inl same ↦ subst (λ (x : ℕ). Holds flat.region x (block_bytes flat.schema (block_at pack (with_block pack slots place block) x)) v) (sym same)
          (holds_rows _ _ _ _ _ (ap (block_bytes flat.schema) (sym (block_same pack _ slots is.size place below block whole))) here)
      | inr other ↦
          let was = holds_only _ _ _ _ only flat.region p _ (λ _ at. other at) (is.holds p inside) in
          holds_rows _ _ _ _ _ (ap (block_bytes flat.schema) (sym (elsewhere p other))) was
    ];
  }
    where
      elsewhere : (p : ℕ) → p ≢ place → block_at pack (with_block pack slots place block) p ≡ block_at pack slots p
      elsewhere p other = elim (cases_lt p place) [
        | inl earlier ↦ block_before pack _ slots is.size place below block whole p earlier
        | inr later ↦ block_after pack _ slots is.size place below block whole p (omega (arith, later, other))
      ]

-- the slots of a table and of its region
pub holds_whole : (pack : ℕ) (flat : Flat) (slots : Slots) (w : World) → 1 ≤ pack → Represents pack flat slots w → HoldsSlots pack flat (whole_blocks pack flat.capacity slots) w
holds_whole pack flat slots w some is = record {
  size = length-up_to _ slots (omega (arith, is.size, blocks_hold pack flat.capacity some));
  fits = all_up_to (FitsSlot flat.schema) _ slots tt is.fits;
  holds = is.holds;
}

pub represents_whole : (pack : ℕ) (flat : Flat) (slots : Slots) (w : World) → length slots ≡ flat.capacity → All (FitsSlot flat.schema) slots → HoldsSlots pack flat (whole_blocks pack flat.capacity slots) w → Represents pack flat slots w
represents_whole pack flat slots w size fits is = record { size = size; fits = fits; holds = is.holds }

module _ (pack : ℕ) (flat : Flat) (slots : Slots) (w : World) (is : Represents pack flat slots w) (some : 1 ≤ pack) where
  pub whole_size : length (whole_blocks pack flat.capacity slots) ≡ blocks_for pack flat.capacity * pack
  whole_size = (holds_whole pack flat slots w some is).size

  pub block_slots : (u : ℕ) → u < blocks_for pack flat.capacity → length (block_at pack (whole_blocks pack flat.capacity slots) u) ≡ pack
  block_slots u below = slots_block pack flat _ w (holds_whole pack flat slots w some is) some u below

  pub block_long : (u : ℕ) → u < blocks_for pack flat.capacity → length (block_bytes flat.schema (block_at pack (whole_blocks pack flat.capacity slots) u)) ≡ pack * width flat.schema
  block_long u below = slots_long pack flat _ w (holds_whole pack flat slots w some is) some u below

  pub got : (u n : ℕ) (rows : List (List ℕ)) → u < blocks_for pack flat.capacity → n ≡ pack → length rows ≡ pack → Wide (width flat.schema) rows
      → joined ((pack * width flat.schema) / n) rows ≡ block_bytes flat.schema (block_at pack (whole_blocks pack flat.capacity slots) u)
      → Spelt flat.schema (block_at pack (whole_blocks pack flat.capacity slots) u) rows
  got u n rows below same size wide bytes = slots_got pack flat _ w (holds_whole pack flat slots w some is) some u n rows below same size wide bytes

-- the accesses of a copy
pub copies : (q g n : ℕ) → length (each n (copy_at q g)) ≡ 2 * n
copies q g n = length-each (copy_at q g) 2 (λ i. refl) n ∙ omega arith

-- the slots of a block have indices below 2^31
pub index_fits : (pack capacity u : ℕ) → 1 ≤ pack → pack ≤ 16 → capacity ≤ 16777216 → u < blocks_for pack capacity → u * pack + pack ≤ 16777232
index_fits pack capacity u some few most below =
    let end = blocks_end pack capacity some in
    let fits : u * pack + pack ≤ blocks_for pack capacity * pack = rows_room u (blocks_for pack capacity) pack below in
    omega (arith, end, fits)

-- the changed slots of a table are those that its new region has
pub represents_changed : (pack : ℕ) (flat : Flat) (to : ℕ) (f : ℕ → Option Row → Option Row) (slots : Slots) (old new : World) → 1 ≤ pack → Represents pack flat slots old
    → ((i : ℕ) → flat.capacity ≤ i → f i None ≡ None) → ((i : ℕ) (slot : Option Row) → FitsSlot flat.schema slot → FitsSlot flat.schema (f i slot))
    → ((p : ℕ) → p < blocks_for pack flat.capacity → Holds to p (block_bytes flat.schema (block_at pack (map_at f 0 (whole_blocks pack flat.capacity slots)) p)) new)
    → Represents pack (record flat { region = to }) (map_at f 0 slots) new
represents_changed pack flat to f slots old new some is past keeps holds = record {
  size = length-map_at f 0 slots ∙ is.size;
  fits = all-map_at f (FitsSlot flat.schema) 0 slots keeps is.fits;
  holds = λ p below. subst (λ (l : Slots). Holds to p (block_bytes flat.schema (block_at pack l p)) new) (map_at-up_to f (blocks_for pack flat.capacity * pack) slots (λ i beyond. past i (omega (arith, is.size, beyond)))) (holds p below);
}

-- the bytes of a block's rows
pub joined_block : (pack : ℕ) (columns : Columns) (slots : Slots) (rows : List (List ℕ)) → 1 ≤ pack → length rows ≡ pack → Spelt columns slots rows → joined ((pack * width columns) / length rows) rows ≡ block_bytes columns slots
joined_block pack columns slots rows some size spelt =
    let each : (pack * width columns) / length rows ≡ width columns = ap (λ (k : ℕ). (pack * width columns) / k) size ∙ width_each pack (width columns) some in
    ap (λ (w : ℕ). joined w rows) each ∙ joined_spelt columns slots rows spelt

pub accepted : (good : ℕ → List ℕ → Bool) (pack region : ℕ) (columns : Columns) (rows : List (List ℕ)) → 1 ≤ pack → length rows ≡ pack → Accepts good pack columns region → AreSlots columns rows
    → IsTrue (good region (joined ((pack * width columns) / length rows) rows))
accepted good pack region columns rows some size fine is =
    subst (λ (bytes : List ℕ). IsTrue (good region bytes)) (sym (joined_block pack columns is.slots rows some size is.spelt))
    (fine.accepts is.slots (is.spelt.count ∙ size) (spelt_fits columns is.slots rows is.spelt))

-- the rows of a block were written
pub block_put : (pack : ℕ) (columns : Columns) (rows : List (List ℕ)) (q x : ℕ) (w : World) → 1 ≤ pack → length rows ≡ pack → AreSlots columns rows
    → Holds q x (joined ((pack * width columns) / length rows) rows) w → HoldsBlock pack columns q x w
block_put pack columns rows q x w some size is holds = record {
  slots = is.slots;
  size = is.spelt.count ∙ size;
  fits = spelt_fits columns is.slots rows is.spelt;
  holds = holds_rows _ _ _ _ _ (joined_block pack columns is.slots rows some size is.spelt) holds;
}

-- a table with no rows
pub represents_none : (pack : ℕ) (flat : Flat) (w : World) → 1 ≤ pack
    → ((p : ℕ) → p < blocks_for pack flat.capacity → Holds flat.region p (block_bytes flat.schema (none_of pack)) w) → Represents pack flat (empty_slots flat.capacity) w
represents_none pack flat w some holds =
    let none : Option Row = None in
    let fits : flat.capacity ≤ blocks_for pack flat.capacity * pack = blocks_hold pack flat.capacity some in
    record {
      size = length-replicate flat.capacity none;
      fits = All-replicate (FitsSlot flat.schema) flat.capacity none tt;
      holds = λ p below. subst (λ (l : Slots). Holds flat.region p (block_bytes flat.schema l) w) (sym (block_none pack flat.capacity (blocks_for pack flat.capacity) p fits below)) (holds p below);
    }

-- the bytes of a block's rows are few
pub block_w32 : {pack columns_width w : ℕ} → pack ≤ 16 → columns_width ≤ 1024 → w ≡ columns_width → Fits w32 (pack * w)
block_w32 {pack} {columns_width} {w} few wide same =
    let each : w ≤ 1024 = subst (λ (k : ℕ). k ≤ 1024) (sym same) wide in
    let all : pack * w ≤ 16 * 1024 = mul-le-mul few each in
    omega (arith, all)

-- a region of the same parts
pub same_region : {n m w v : ℕ} (order : Order) (pack : ℕ) → n ≡ m → w ≡ v → ◌≡◌ {A = Region} (record { blocks = n; width = pack * w; order = order }) (record { blocks = m; width = pack * v; order = order })
same_region {n} {m} {w} {v} order pack blocks each =
    ap (λ (k : ℕ). record { blocks = k; width = pack * w; order = order }) blocks ∙ ap (λ (k : ℕ). record { blocks = m; width = pack * k; order = order }) each

-- a region of the vault, and a write to it that is in turn, under another name
pub lives_as : {p q : ℕ} {r s : Region} {w : World} → p ≡ q → r ≡ s → Lives q s w → Lives p r w
lives_as {p} {q} {r} {s} {w} number same is = subst (λ (k : ℕ). Lives k r w) (sym number) (subst (λ (x : Region). Lives q x w) (sym same) is)

pub turn_as : {p q x : ℕ} {r s : Region} {w : World} → p ≡ q → r ≡ s → OnTurn q s x w → OnTurn p r x w
turn_as {p} {q} {x} {r} {s} {w} number same is = subst (λ (k : ℕ). OnTurn k r x w) (sym number) (subst (λ (y : Region). OnTurn q y x w) (sym same) is)

-- a table all of whose blocks were written
pub flat_filled : {p : ℕ} {r : Region} {w : World} (order : Order) (pack : ℕ) (flat : Flat) → p ≡ flat.region → r ≡ table_region order pack flat.schema flat.capacity → Lives p r w → OnTurn p r 0 w
    → ((x : ℕ) → x < r.blocks → Written p x w) → IsFlat pack flat w
flat_filled {p} {r} {w} order pack flat number same lives turn written = record {
  made = record { order = order; lives = lives_as (sym number) (sym same) lives; turn = turn_as (sym number) (sym same) turn };
  written = λ x below. subst (λ (q : ℕ). Written q x w) number (written x (subst (λ (k : ℕ). x < k) (sym (ap (λ (y : Region). y.blocks) same)) below));
}

-- a table, by its parts
pub flat_is : {s z : Columns} {n m q r : ℕ} → s ≡ z → n ≡ m → q ≡ r → ◌≡◌ {A = Flat} (record { schema = s; capacity = n; region = q }) (record { schema = z; capacity = m; region = r })
flat_is schema capacity region = cc
