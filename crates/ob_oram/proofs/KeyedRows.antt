-- Rows as the buffer has them.
use Rattle.std.proofs.Common.{◌≡◌, ◌≤◌, ℕ, List, Option, Some, None, cond, length, replicate, refl, sym, ◌∙◌, ap, subst}
use Rattle.std.proofs.lemmas.Bool.{le-ltb}
use Rattle.ob_base.specs.Schemas.{width}
use Rattle.ob_row.specs.Rows.{Row}
use Rattle.ob_row.specs.Spelling.{Begins}
use Rattle.ob_row.proofs.SpellingLemmas.{zeros-begin}
use Rattle.ob_oram.specs.declared.held.Remap.{Remap}
use Rattle.ob_oram.specs.declared.index.Index.{Index}
use Rattle.ob_oram.specs.Indexes.{key_of}
use Rattle.ob_oram.specs.Opens.{OpensRow, keyed_slot}

-- a row that has no key of the index is left out
pub keyed_out : (index : Index) (slot : Option Row) (row : Row) → slot ≡ Some row → index.capacity ≤ key_of index row → keyed_slot index slot ≡ None
keyed_out index slot row is past =
    let test = le-ltb (key_of index row) index.capacity past in
    ap (keyed_slot index) is ∙ ap (λ b. cond b (Some row) None) test

-- and zeros are no row
pub opens_zeros : (index : Index) (remap : Remap) (slot : Option Row) (bytes old : List ℕ) → keyed_slot index slot ≡ None → bytes ≡ replicate (length old) 0 → width index.schema ≤ length old
    → OpensRow index remap (keyed_slot index slot) None bytes
opens_zeros index remap slot bytes old out zeros wide =
    subst (λ (s : Option Row). OpensRow index remap s None bytes) (sym out)
    (record { begins = subst (Begins index.schema None) (sym zeros) (zeros-begin index.schema (length old) wide); held_is = refl })
