-- Eight bytes spell an integer, and a text of its column's width spells one.
use Rattle.std.proofs.Common.{◌≡◌, ℕ, ◌-◌, ◌<◌, ◌≤◌, ◌^◌, ℤ, List, ◌∷◌, ◌++◌, replicate, length, get_or, Fits, w8, refl, sym, ◌∙◌, ap, subst, arith}
use Rattle.std.specs.Prelude.{Option, Some, None, is_some, FitsSigned, IfSome}
use Rattle.std.specs.Bool.{OnTrue}
use Rattle.std.specs.Int.{from_be_bytes, cast_unsigned, cast_signed, w64}
use Rattle.std.proofs.Math.Facts.{sfits_to_z, Fits-of_lt, Fits-lt-pow}
use Rattle.std.proofs.lemmas.Nat.{be_bytes_8}
use Rattle.std.proofs.lemmas.Int.{to_z-of_z, of_z-to_z}
use Rattle.ob_base.specs.declared.schema.Kind.{Kind}
use Rattle.ob_base.specs.declared.schema.Kind.TheVariants.{Int as IntKind, Varchar}
use Rattle.ob_base.specs.Schemas.{kind_width}
use Rattle.ob_row.specs.declared.cell.Cell.{Cell}
use Rattle.ob_row.specs.declared.cell.Cell.TheVariants.{Int, Text}
use Rattle.ob_row.specs.Fields.{HoldsText, HoldsCell}

abbrev pub AreBytes : List ℕ → Type 0
AreBytes bs = (i : ℕ) → Fits w8 (get_or bs i 0)

below : (bs : List ℕ) → AreBytes bs → (i : ℕ) → get_or bs i 0 < 256
below bs h i = Fits-lt-pow {w = w8} (h i)

from_be_bytes-few : (bs : List ℕ) → AreBytes bs → from_be_bytes w64 bs < 2 ^ 64
from_be_bytes-few bs h =
    let b = below bs h in
    let t = b 0 in let u = b 1 in let v = b 2 in let w = b 3 in let x = b 4 in let y = b 5 in let z = b 6 in let last = b 7 in omega arith

pub holds_int : (kind : Kind) (bs : List ℕ) (x : ℤ) → kind ≡ IntKind → length bs ≡ 8 → AreBytes bs →
    x ≡ cast_signed w64 (from_be_bytes w64 bs) → HoldsCell kind (Int (cast_signed w64 (cast_unsigned w64 x))) bs
holds_int kind bs x k l h e =
    subst (λ k. HoldsCell k (Int (cast_signed w64 (cast_unsigned w64 x))) bs) (sym k)
    (subst (λ z. HoldsCell IntKind (Int z) bs) (sym (to_z-of_z w64 x fits)) (record { fits = fits; is = sym (be_bytes_8 bs (cast_unsigned w64 x) l (below bs h) back) }))
  where
    few : from_be_bytes w64 bs < 2 ^ 64
    few = from_be_bytes-few bs h

    fits : FitsSigned w64 x
    fits = subst (FitsSigned w64) (sym e) (sfits_to_z {w = w64} (Fits-of_lt few))

    back : cast_unsigned w64 x ≡ from_be_bytes w64 bs
    back = ap (cast_unsigned w64) e ∙ of_z-to_z w64 (from_be_bytes w64 bs) few

-- eight bytes always do
pub some_int : (kind : Kind) (bs : List ℕ) → kind ≡ IntKind → length bs ≡ kind_width kind → AreBytes bs → (x : Cell) × HoldsCell kind x bs
some_int kind bs k l h = (_, holds_int kind bs (cast_signed w64 (from_be_bytes w64 bs)) k (l ∙ ap kind_width k) h refl)

wide : (kind : Kind) (n : ℕ) (bs : List ℕ) → length bs ≡ kind_width kind → kind ≡ Varchar n → length bs - 1 ≡ n
wide kind n bs l k = let e = l ∙ ap kind_width k in omega arith

-- a text that fills its field is a cell
pub holds_text : (kind : Kind) (n : ℕ) (t bs : List ℕ) → kind ≡ Varchar n → length bs ≡ kind_width kind → HoldsText t bs → HoldsCell kind (Text t) bs
holds_text kind n t bs k l h =
    let w = wide kind n bs l k in
    subst (λ k. HoldsCell k (Text t) bs) (sym k) (record { fits = (subst (λ m. length t ≤ m) w h.fits.0, h.fits.1); is = h.is ∙ ap (λ m. length t ∷ (t ++ replicate (m - length t) 0)) w })

-- whether one was found
pub some_text : {A : Type 0} (now : A → List ℕ) (kind : Kind) (n : ℕ) (bs : List ℕ) → kind ≡ Varchar n → length bs ≡ kind_width kind →
    (found : Option A) → IfSome found (λ t. HoldsText (now t) bs) → OnTrue (is_some found) ((x : Cell) × HoldsCell kind x bs)
some_text now kind n bs k l None h = tt
some_text now kind n bs k l (Some t) h = (Text (now t), holds_text kind n (now t) bs k l h)

-- what spells no text is no cell
pub no_text : (kind : Kind) (n : ℕ) (bs : List ℕ) → kind ≡ Varchar n → length bs ≡ kind_width kind →
    ((t : List ℕ) → HoldsText t bs → ⊥) → (x : Cell) → HoldsCell kind x bs → ⊥
no_text kind n bs k l none x h = go n l x (subst (λ k. HoldsCell k x bs) k h) k
  where
    go : (n : ℕ) → length bs ≡ kind_width kind → (x : Cell) → HoldsCell (Varchar n) x bs → kind ≡ Varchar n → ⊥
    go n l (Int x) h k = h.fits
    go n l (Text t) h k = none t (record { fits = (subst (λ m. length t ≤ m) (sym (wide kind n bs l k)) h.fits.0, h.fits.1); is = h.is ∙ ap (λ m. length t ∷ (t ++ replicate (m - length t) 0)) (sym (wide kind n bs l k)) })
