-- What stands of a result while it is written.
use Rattle.std.proofs.Common.{◌≡◌, ◌≤◌, ◌<◌, ◌+◌, ◌-◌, ◌*◌, ◌%◌, ◌/◌, ◌==◌, min, ℕ, Bool, List, Some, length, inl, inr, if◌then◌else◌, refl, sym, ◌∙◌, ap, subst, arith}
use Rattle.std.proofs.lemmas.List.{take_at}
use Rattle.std.proofs.lemmas.List.Elements as elements
use Rattle.std.proofs.Math.Nat.{div-one, zero-div, mod-add-mod, mod-eq_of_lt, mod-lt, mod_self}
use Rattle.std.proofs.lemmas.Grind.{div_ceil_times}
use Rattle.std.proofs.lemmas.Bool.{cases_eq}
use Rattle.std.specs.List.{All}
use Rattle.ob_base.specs.declared.access.Access.{Access}
use Rattle.ob_base.specs.Numbers.{blocks_for}
use Rattle.ob_vault.specs.declared.region.Order.{Order}
use Rattle.ob_vault.specs.declared.region.Order.TheVariants.{Round, Any}
use Rattle.ob_vault.specs.State.{World}
use Rattle.ob_vault.specs.declared.region.Region.{Region}
use Rattle.ob_vault.specs.Tied.{IsOwn, Lives, OnTurn}
use Rattle.ob_vault.specs.Calls.{Went, none}
use Rattle.ob_vault.proofs.Runs.{turn_any, lives_went, own_lasts, written_went}
use Rattle.ob_row.specs.Slots.{Slots}
use Rattle.ob_blocks.specs.Blocks.{none_of}
use Rattle.ob_flat.specs.declared.flat.Flat.{Flat}
use Rattle.ob_flat.specs.Slots.{FitsSlot}
use Rattle.ob_flat.specs.Flats.{IsInTurn, IsFlat, HoldsSlots, Represents, table_region, whole_blocks}
use Rattle.ob_flat.proofs.Tables.{represents_whole, not_last, at_last}
use Rattle.ob_cont.specs.Putting.{order_for}
use Rattle.ob_cont.proofs.Places.{other_test}

-- the place after place i of k, round and round
next_place : (k i : ℕ) → 1 ≤ k → (if (i % k) / 1 + 1 == blocks_for 1 k then 0 else (i % k) / 1 + 1) ≡ ((i + 1) % k) / 1
next_place k i some =
    let ones : (i % k) / 1 + 1 ≡ i % k + 1 = omega (arith, div-one (i % k)) in
    let all : blocks_for 1 k ≡ k = omega (arith, div_ceil_times k 1 (omega arith)) in
    let end : ((i + 1) % k) / 1 ≡ (i % k + 1) % k = div-one ((i + 1) % k) ∙ sym (mod-add-mod i k 1) in
    ap (λ (x : ℕ). if x == blocks_for 1 k then 0 else x) ones ∙ ap (λ (n : ℕ). if i % k + 1 == n then 0 else i % k + 1) all
    ∙ elim (cases_eq (i % k + 1) k) [
      | inl same ↦ at_last (i % k + 1) k same ∙ sym (ap (λ (n : ℕ). n % k) same ∙ mod_self k)
      | inr other ↦
          let below : i % k + 1 < k = omega (arith, other, mod-lt i some) in
          not_last (i % k + 1) k below ∙ sym (mod-eq_of_lt below)
    ] ∙ sym end

-- the place of the next slot is in turn
pub turn_more : (pack i : ℕ) (to : Flat) (w : World) → 1 ≤ to.capacity
    → IsInTurn (order_for pack) pack to (if (i % to.capacity) / pack + 1 == blocks_for pack to.capacity then 0 else (i % to.capacity) / pack + 1) w
    → IsInTurn (order_for pack) pack to (((i + 1) % to.capacity) / pack) w
turn_more pack i to w some is = elim (cases_eq pack 1) [
  | inl one ↦
      subst (λ (n : ℕ). IsInTurn (order_for n) n to (if (i % to.capacity) / n + 1 == blocks_for n to.capacity then 0 else (i % to.capacity) / n + 1) w → IsInTurn (order_for n) n to (((i + 1) % to.capacity) / n) w) (sym one)
      (λ turn. subst (λ (place : ℕ). IsInTurn (order_for 1) 1 to place w) (next_place to.capacity i some) turn) is
  | inr more ↦
      let any : order_for pack ≡ Any = ap (λ (b : Bool). if b then Round else Any) (other_test pack 1 more) in
      record { own = is.own; lives = is.lives; turn = turn_any to.region (table_region (order_for pack) pack to.schema to.capacity) (((i + 1) % to.capacity) / pack) w any; written = is.written }
]

-- so is that of the first one in a new table
pub in_turn : (order : Order) (pack : ℕ) (to : Flat) (w : World) → IsOwn to.region w → Lives to.region (table_region order pack to.schema to.capacity) w → IsFlat pack to w → IsInTurn order pack to 0 w
in_turn order pack to w own lives is = record {
  own = own;
  lives = lives;
  turn = subst (λ (shape : Region). OnTurn to.region shape 0 w) (same _ _ (sym is.made.lives.live ∙ lives.live)) is.made.turn;
  written = is.written;
}
  where
    same : (a b : Region) → Some a ≡ Some b → a ≡ b
    same a b some = cc

-- as that of the first one is
pub due_first : (pack n : ℕ) (to : Flat) (w : World) → 1 ≤ to.capacity → IsInTurn (order_for pack) pack to 0 w → IsInTurn (order_for pack) pack to ((min (0 * pack) n % to.capacity) / pack) w
due_first pack n to w least is = subst (λ (x : ℕ). IsInTurn (order_for pack) pack to x w) (sym first) is
  where
    none : min (0 * pack) n ≡ 0
    none = omega arith

    first : (min (0 * pack) n % to.capacity) / pack ≡ 0
    first = ap (λ (i : ℕ). (i % to.capacity) / pack) none ∙ ap (λ (i : ℕ). i / pack) (mod-eq_of_lt least) ∙ zero-div pack

-- a read leaves it so
pub due_read : (order : Order) (pack place : ℕ) (to : Flat) (a b : World) (x : List Access) → Went x none a b → ((q y : ℕ) (shape : Region) → OnTurn q shape y a → OnTurn q shape y b)
    → IsInTurn order pack to place a → IsInTurn order pack to place b
due_read order pack place to a b x went turns is = record {
  own = own_lasts none a b went.lasts to.region is.own;
  lives = lives_went none a b x to.region (table_region order pack to.schema to.capacity) went (λ s. s) is.lives;
  turn = turns to.region place (table_region order pack to.schema to.capacity) is.turn;
  written = λ p below. written_went none a b x to.region p went (λ s. s) (is.written p below);
}

-- its blocks are those of its slots, and of empty ones after them
pub represents_held : (pack : ℕ) (to : Flat) (slots : Slots) (w : World) → length slots ≡ to.capacity → HoldsSlots pack to (whole_blocks pack to.capacity slots) w → Represents pack to slots w
represents_held pack to slots w size is =
    let all = whole_blocks pack to.capacity slots in
    represents_whole pack to slots w size (subst (All (FitsSlot to.schema)) (take_at slots (none_of (blocks_for pack to.capacity * pack - length slots)) (length slots) refl) (elements.All-take (FitsSlot to.schema) (length slots) all is.fits)) is
