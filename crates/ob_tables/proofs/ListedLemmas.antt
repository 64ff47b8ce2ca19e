-- The tables of an engine may be listed in a closing: their numbers are those of the places' last writes.
use Rattle.ob_tables.proofs.Words.{Access, ap, AreFlat, AreSalted, AreTables, arith, blocks_for, Bool, cases_lt, Closing, false, HasBlock, headings_of, if◌then◌else◌, Index, inl, inr, IsTable, length, List, Ready, refl, Region, Round, subst, suc, sym, table_region, true, World, zero, ℕ, [], ◌&&◌, ◌*◌, ◌+◌, ◌-◌, ◌<◌, ◌==◌, ◌∙◌, ◌∷◌, ◌≡◌, ◌≢◌, ◌≤◌, ◌⊎◌}
use Rattle.std.proofs.lemmas.Grind.{div_ceil_times}
use Rattle.ob_base.specs.declared.access.Access.TheVariants.{Make, Read, Write, Discard, Open}
use Rattle.ob_base.specs.declared.schema.Table.{Table}
use Rattle.ob_base.specs.Accesses.{number_from, writes}
use Rattle.ob_vault.specs.Numbers.{IsNumber, last_number}
use Rattle.ob_vault.specs.Tied.{OnTurn}
use Rattle.ob_vault.proofs.LawLemmas.{last_is, numbers_alone}
use Rattle.ob_vault.proofs.Runs.{numbers_run}
use Rattle.ob_reopen.specs.Writings.{MayList}
use Rattle.ob_base.specs.declared.schema.Shape.TheVariants.{Flat as FlatShape}
use Rattle.ob_tables.specs.Engines.{IsWrittenRound}
use Rattle.ob_tables.proofs.TableLemmas.{flat_each, region_below}

-- ---- no number is above the count of writes
own_most : (b : Bool) (n found : ℕ) → found ≤ n → (if b then n + 1 else found) ≤ n + 1
own_most true n found few = omega (arith)
own_most false n found few = omega (arith, few)

number_within : (n found q x : ℕ) (asked : List Access) → found ≤ n → number_from n found q x asked ≤ n + writes asked
unfolding number_from writes
number_within n found q x [] few = omega (arith, few)
number_within n found q x (Make a b c ∷ rest) few = number_within n found q x rest few
number_within n found q x (Read a b ∷ rest) few = number_within n found q x rest few
number_within n found q x (Discard a ∷ rest) few = number_within n found q x rest few
number_within n found q x (Open a b c ∷ rest) few = number_within n found q x rest few
number_within n found q x (Write a b ∷ rest) few =
    let more = number_within (n + 1) (if (a == q) && (b == x) then n + 1 else found) q x rest (own_most ((a == q) && (b == x)) n found few) in
    omega (arith, more)

last_within : (w : World) → Ready w → (q x : ℕ) → last_number w q x ≤ w.vault.count
last_within w ready q x =
    let most = number_within w.vault.start.writes (w.vault.start.given q x) q x w.store.asked (ready.tied.start.within q x) in
    let count = ready.tied.count in
    omega (arith, most, count)

-- ---- the places of a table
blocks_some : (pack n : ℕ) → 1 ≤ pack → 1 ≤ n → 1 ≤ blocks_for pack n
blocks_some pack n some least = positive (blocks_for pack n) ((div_ceil_times n pack (omega (arith, some))).0)
  where
    positive : (k : ℕ) → n ≤ k * pack → 1 ≤ k
    positive zero low = absurd (omega (arith, low, least))
    positive (suc k) low = omega (arith)

module _ (pack : ℕ) (some : 1 ≤ pack) (w : World) (ready : Ready w) (t : Table) (is : IsTable pack t w) (flat : t.heading.shape ≡ FlatShape) where
  abbrev shape : Region
  shape = table_region Round pack t.heading.schema t.heading.capacity

  abbrev written : IsWrittenRound pack t w
  written = is.written flat

  pub table_blocks : 1 ≤ blocks_for pack t.heading.capacity
  table_blocks = blocks_some pack t.heading.capacity some is.heading.stored.least

  -- its region is written from its first place on
  turned : OnTurn t.region shape 0 w
  turned = record {
    turn = λ round.
        let same : table_region written.flat.made.order pack t.heading.schema t.heading.capacity ≡ shape = cc (written.flat.made.lives.live, written.round.live) in
        written.flat.made.turn.turn (ap (λ (r : Region). r.order) same);
    run = λ round off. absurd (off refl);
  }

  -- each of its places has the number after that of the one before it
  pub table_numbers : (x : ℕ) → x < blocks_for pack t.heading.capacity → w.vault.revs.number t.region x ≡ w.vault.revs.number t.region 0 + x
  table_numbers x below =
      numbers_run t.region shape w ready written.round refl turned (written.flat.written 0 table_blocks) x below

  -- which is that of a write to it, and to no other place
  pub table_number : (x : ℕ) → x < blocks_for pack t.heading.capacity → IsNumber w t.region x (w.vault.revs.number t.region x)
  table_number x below =
      let same = ready.tied.numbers t.region x shape written.round.live below in
      subst (IsNumber w t.region x) (sym same) (last_is w t.region x (λ zero_is. (written.flat.written x below).number (same ∙ zero_is)))

  pub table_within : (x : ℕ) → x < blocks_for pack t.heading.capacity → w.vault.revs.number t.region x ≤ w.vault.count
  table_within x below =
      let same = ready.tied.numbers t.region x shape written.round.live below in
      let most = last_within w ready t.region x in
      omega (arith, same, most)

  pub table_end : w.vault.revs.number t.region 0 + blocks_for pack t.heading.capacity ≤ w.vault.count + 1
  table_end =
      let n = blocks_for pack t.heading.capacity in
      let least = table_blocks in
      let last : n - 1 < n = omega (arith, least) in
      let number = table_numbers (n - 1) last in
      let most = table_within (n - 1) last in
      omega (arith, least, number, most)

  pub table_first : 1 ≤ w.vault.revs.number t.region 0
  table_first = positive (w.vault.revs.number t.region 0) (written.flat.written 0 table_blocks).number
    where
      positive : (n : ℕ) → n ≢ 0 → 1 ≤ n
      positive zero off = absurd (off refl)
      positive (suc n) off = omega (arith)

  pub table_block : HasBlock t.region w.vault.revs
  table_block = record { shape = shape; live = written.round.live; some = table_blocks }

-- ---- two tables
module _ (pack : ℕ) (some : 1 ≤ pack) (w : World) (ready : Ready w) (t u : Table) (is : IsTable pack t w) (at : IsTable pack u w) (flat : t.heading.shape ≡ FlatShape) (other_flat : u.heading.shape ≡ FlatShape) (off : t.region ≢ u.region) where
  abbrev a : ℕ
  a = w.vault.revs.number t.region 0

  abbrev b : ℕ
  b = w.vault.revs.number u.region 0

  abbrev m : ℕ
  m = blocks_for pack t.heading.capacity

  abbrev n : ℕ
  n = blocks_for pack u.heading.capacity

  -- no number is one of both
  meet : (x y : ℕ) → x < m → y < n → a + x ≡ b + y → ⊥
  meet x y below within same =
      let one = table_number pack some w ready t is flat x below in
      let other = table_number pack some w ready u at other_flat y within in
      let number : w.vault.revs.number u.region y ≡ w.vault.revs.number t.region x =
      table_numbers pack some w ready u at other_flat y within ∙ sym same ∙ sym (table_numbers pack some w ready t is flat x below) in
      off ((numbers_alone w t.region x u.region y (w.vault.revs.number t.region x) ready.tied one (subst (IsNumber w u.region y) number other)).0)

  pub numbers_off : (a + m ≤ b) ⊎ (b + n ≤ a)
  numbers_off = elim (cases_lt b (a + m)) [
    | inr before ↦ inl before
    | inl low ↦ elim (cases_lt a (b + n)) [
      | inr behind ↦ inr behind
      | inl high ↦ elim (cases_lt a b) [
        | inl less ↦ absurd (meet (b - a) 0 (omega (arith, low, less)) (table_blocks pack some w ready u at other_flat) (omega (arith, less)))
        | inr more ↦ absurd (meet 0 (a - b) (table_blocks pack some w ready t is flat) (omega (arith, high, more)) (omega (arith, more)))
      ]
    ]
  ]

-- ---- all of them
pub may_list : (closing : Closing) (tables : List Table) (other : ℕ → Type 0) (indexes : List Index) (w : World) → 1 ≤ closing.pack → Ready w → AreTables tables other indexes closing.pack w → AreFlat (headings_of tables)
    → closing.region ≡ w.vault.next → closing.number ≡ w.vault.count + 1 → closing.blocks ≡ length tables + 1 → AreSalted w.vault.keys tables → MayList closing w.vault.keys w.vault.revs tables
may_list closing tables other indexes w some ready are flat next number blocks salts = record {
  each = λ i t is.
      let table = are.each i t is in
      let below = region_below closing.pack i tables t w ready are is in
      let ends = table_end closing.pack some w ready t table (flat_each tables flat i t is) in
      record {
        heading = table.heading;
        flat = flat_each tables flat i t is;
        region_least = table.least;
        region_most = omega (arith, below, next);
        number_least = table_first closing.pack some w ready t table (flat_each tables flat i t is);
        number_most = omega (arith, ends, number);
        salt = salts i t is;
      };
  apart = λ i j t u is at off.
      let regions : t.region ≢ u.region = λ same. off (are.apart i j t u is at same) in
      record {
        names = λ same. off (are.names i j t u is at same);
        regions = regions;
        numbers = numbers_off closing.pack some w ready t u (are.each i t is) (are.each j u at) (flat_each tables flat i t is) (flat_each tables flat j u at) regions;
      };
  count = sym blocks;
}
