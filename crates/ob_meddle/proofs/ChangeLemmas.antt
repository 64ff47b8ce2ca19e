-- One change of a text, and the rest.
use Rattle.std.proofs.Common.{◌≡◌, ◌≢◌, ℕ, zero, suc, ◌-◌, List, [], ◌∷◌, ◌++◌, Option, Some, None, refl, ap, ◌∙◌, sym, append_assoc, arith}
use Rattle.std.specs.Prelude.{Result, Ok, Err, OnOk}
use Rattle.std.specs.Option.{option_map_or}
use Rattle.ob_meddle.specs.declared.meddle.Meddle.{Meddle}
use Rattle.ob_meddle.specs.Changes.{front, rest, comma, change, joined, changes, Extends}

one_and_rest : (n : ℕ) (text : List ℕ) → n ≢ 0 → changes n text ≡ joined (change (front comma text)) (option_map_or (changes (n - 1)) (rest comma text) (Some []))
unfolding changes
one_and_rest zero text some = absurd (some refl)
one_and_rest (suc n) text some =
    let e : n ≡ suc n - 1 = omega arith in
    ap (λ (k : ℕ). joined (change (front comma text)) (option_map_or (changes k) (rest comma text) (Some []))) e

pub extends_one : (n : ℕ) (text : List ℕ) (m : Meddle) (old new : List Meddle) → n ≢ 0 → change (front comma text) ≡ Some m → rest comma text ≡ None → new ≡ old ++ m ∷ [] → Extends old new (changes n text)
extends_one n text m old new some first none is = rw (one_and_rest n text some) (rw first (rw none is))

add_one : (m : Meddle) (old mid new : List Meddle) (o : Option (List Meddle)) → mid ≡ old ++ m ∷ [] → Extends mid new o → Extends old new (joined (Some m) o)
add_one m old mid new None is more = more
add_one m old mid new (Some list) is more = more ∙ ap (λ (l : List Meddle). l ++ list) is ∙ append_assoc old (m ∷ []) list

pub extends_more : {T E : Type 0} (r : Result T E) (n : ℕ) (text more : List ℕ) (m : Meddle) (old mid new : List Meddle) → n ≢ 0 → change (front comma text) ≡ Some m → rest comma text ≡ Some more
    → mid ≡ old ++ m ∷ [] → OnOk r (Extends mid new (changes (n - 1) more)) → OnOk r (Extends old new (changes n text))
extends_more (Ok t) n text more m old mid new some first after is then =
    rw (one_and_rest n text some) (rw first (rw after (add_one m old mid new (changes (n - 1) more) is then)))
extends_more (Err e) n text more m old mid new some first after is then = then

pub from_none : (old new : List Meddle) (o : Option (List Meddle)) → old ≡ [] → Extends old new o → o ≡ Some new
from_none old new None none more = absurd more
from_none old new (Some list) none more = ap Some (sym (more ∙ ap (λ (l : List Meddle). l ++ list) none))

-- ---- a text that spells none
pub no_changes : (n : ℕ) (text : List ℕ) → n ≡ 0 → changes n text ≡ None
unfolding changes
no_changes n text none = rw none refl

pub bad_first : (n : ℕ) (text : List ℕ) → n ≢ 0 → change (front comma text) ≡ None → changes n text ≡ None
bad_first n text some first = one_and_rest n text some ∙ ap (λ (m : Option Meddle). joined m (option_map_or (changes (n - 1)) (rest comma text) (Some []))) first

joined_none : (m : Option Meddle) → joined m None ≡ None
joined_none None = refl
joined_none (Some m) = refl

pub bad_rest : (n : ℕ) (text more : List ℕ) → n ≢ 0 → rest comma text ≡ Some more → changes (n - 1) more ≡ None → changes n text ≡ None
bad_rest n text more some after none =
    one_and_rest n text some
    ∙ ap (λ (r : Option (List ℕ)). joined (change (front comma text)) (option_map_or (changes (n - 1)) r (Some []))) after
    ∙ ap (λ (list : Option (List Meddle)). joined (change (front comma text)) list) none
    ∙ joined_none (change (front comma text))
