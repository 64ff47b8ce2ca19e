-- The bytes of a total are read as they were written.
use Rattle.std.proofs.Common.{◌≡◌, ◌<◌, ◌≤◌, ◌*◌, ◌^◌, ℕ, suc, ℤ, pos, negsuc, nat_abs, List, [], ◌∷◌, ◌++◌, length, take, drop, Option, Some, None, IfSome, refl, sym, ◌∙◌, ap, arith, length-append}
use Rattle.std.proofs.lemmas.List.{take_at, drop_at}
use Rattle.std.proofs.Math.Facts.{Fits-of_z, Fits-lt-pow}
use Rattle.std.proofs.lemmas.Int.{to_z-of_z}
use Rattle.std.specs.Prelude.{FitsSigned}
use Rattle.std.specs.Int.{w128, from_be_bytes, cast_signed, cast_unsigned}
use Rattle.ob_group.specs.Running.{Sums}
use Rattle.ob_group.specs.Held.{total_int, total_bytes, totals_bytes, HoldTotals}
use Rattle.ob_group.proofs.Wide.{from_be_bytes-to_be_bytes_16}

int_fits : (x : ℤ) → nat_abs x < 2 ^ 127 → FitsSigned w128 x
int_fits (pos n) h = omega (arith, h)
int_fits (negsuc n) h = omega (arith, h)

total_fits : (t : Option ℤ) → IfSome t (λ x. nat_abs x < 2 ^ 127) → FitsSigned w128 (total_int t)
total_fits None h = omega arith
total_fits (Some x) h = int_fits x h

total_read : (t : Option ℤ) → IfSome t (λ x. nat_abs x < 2 ^ 127) → cast_signed w128 (from_be_bytes w128 (total_bytes t)) ≡ total_int t
total_read t h =
    let fits = total_fits t h in
    ap (cast_signed w128) (from_be_bytes-to_be_bytes_16 (cast_unsigned w128 (total_int t)) (Fits-lt-pow (Fits-of_z fits))) ∙ to_z-of_z w128 (total_int t) fits

not_least : (x : ℤ) → nat_abs x < 2 ^ 127 → cast_unsigned w128 x ≡ 2 ^ 127 → ⊥
not_least (pos n) h e = omega (arith, h, e)
not_least (negsuc n) h e = omega (arith, h, e)

module _ (t : Option ℤ) (few : IfSome t (λ x. nat_abs x < 2 ^ 127)) (x : ℤ) (is : x ≡ cast_signed w128 (from_be_bytes w128 (total_bytes t))) where
  same : x ≡ total_int t
  same = is ∙ total_read t few

  pub none_read : cast_unsigned w128 x ≡ 2 ^ 127 → None ≡ t
  none_read e = go t few (sym (ap (cast_unsigned w128) same) ∙ e)
    where
      go : (t : Option ℤ) → IfSome t (λ x. nat_abs x < 2 ^ 127) → cast_unsigned w128 (total_int t) ≡ 2 ^ 127 → None ≡ t
      go None few e = refl
      go (Some y) few e = absurd (not_least y few e)

  pub some_read : (cast_unsigned w128 x ≡ 2 ^ 127 → ⊥) → Some (cast_signed w128 (cast_unsigned w128 x)) ≡ t
  some_read off = go t few same
    where
      go : (t : Option ℤ) → IfSome t (λ x. nat_abs x < 2 ^ 127) → x ≡ total_int t → Some (cast_signed w128 (cast_unsigned w128 x)) ≡ t
      go None few e = absurd (off (ap (cast_unsigned w128) e))
      go (Some y) few e = ap (λ (z : ℤ). Some (cast_signed w128 (cast_unsigned w128 z))) e ∙ ap Some (to_z-of_z w128 y (int_fits y few))

-- the first total and the others, of bytes that hold some
pub record Parted (m count : ℕ) (totals : Sums) (bytes : List ℕ) : Type 0 where
  pub first : Option ℤ
  pub others : Sums
  pub is : totals ≡ first ∷ others
  pub few : IfSome first (λ x. nat_abs x ≤ m * 2 ^ 63)
  pub enough : 16 ≤ length bytes
  pub front : take 16 bytes ≡ total_bytes first
  pub back : HoldTotals m count others (drop 16 bytes)

pub parted : (m count : ℕ) (totals : Sums) (bytes : List ℕ) → HoldTotals m (suc count) totals bytes → Parted m count totals bytes
parted m count [] bytes held = absurd (omega (arith, held.size))
parted m count (t ∷ ts) bytes held = record {
  first = t;
  others = ts;
  is = refl;
  few = held.few.0;
  enough = omega (arith, ap (λ (l : List ℕ). length l) held.is, length-append (total_bytes t) (totals_bytes ts));
  front = ap (take 16) held.is ∙ take_at (total_bytes t) (totals_bytes ts) 16 refl;
  back = record { size = omega (arith, held.size); few = held.few.1; is = ap (drop 16) held.is ∙ drop_at (total_bytes t) (totals_bytes ts) 16 refl };
}

pub refilled : (m count : ℕ) (t : Option ℤ) (ts : Sums) (field bytes : List ℕ) → IfSome t (λ x. nat_abs x ≤ m * 2 ^ 63) → field ≡ total_bytes t → HoldTotals m count ts bytes
    → HoldTotals m (suc count) (t ∷ ts) (field ++ bytes)
refilled m count t ts field bytes few is held = record {
  size = ap suc held.size;
  few = (few, held.few);
  is = ap (λ (l : List ℕ). l ++ bytes) is ∙ ap (λ (l : List ℕ). total_bytes t ++ l) held.is;
}

-- totals of so many rows are far within 128 bits
pub within : (m : ℕ) (t : Option ℤ) → m ≤ 2147483648 → IfSome t (λ x. nat_abs x ≤ m * 2 ^ 63) → IfSome t (λ x. nat_abs x < 2 ^ 127)
within m None most few = tt
within m (Some x) most few = omega (arith, most, few)
