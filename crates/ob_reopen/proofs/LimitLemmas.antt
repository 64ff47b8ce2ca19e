-- What the limits say of a table's parts.
use Rattle.std.proofs.Common.{◌≡◌, ◌<◌, ◌≤◌, ◌^◌, Bool, ◌&&◌, List, length, get_or, refl, sym, ◌∙◌, ap, arith}
use Rattle.std.proofs.lemmas.Bool.{and_parts, leb-true, le-leb}
use Rattle.std.proofs.lemmas.List.Recursion.{and_at}
use Rattle.std.specs.Prelude.{nat_le}
use Rattle.std.specs.List.{All, list_all}
use Rattle.ob_base.specs.declared.schema.Column.{Column}
use Rattle.ob_base.specs.declared.schema.Heading.{Heading}
use Rattle.ob_reopen.specs.declared.closing.Closing.{Closing}
use Rattle.ob_reopen.specs.declared.listed.Listed.{Listed}
use Rattle.ob_reopen.specs.Limits.{IsMarked, AreListed, IsHeading, IsListed, end_of, is_column, is_kind}
use Rattle.ob_reopen.proofs.Lists.{got_or}
use Rattle.ob_reopen.specs.Spelling.{FitsColumn, FitsText}

-- the name of a column has at most 32 bytes
pub column_is : (c : Column) (r : Bool) → length c.name ≤ 32 → r ≡ is_kind c.kind → r ≡ is_column c
column_is c r few same = same ∙ ap (λ (b : Bool). b && is_kind c.kind) (sym (le-leb (length c.name) 32 few))

-- the numbers of tables that are listed are below the closing's
pub ends_few : (closing : Closing) (before : List Listed) → IsMarked closing → AreListed closing before → All (λ (t : Listed). end_of closing.pack t < 2 ^ 64) before
ends_few closing before marked are k d below =
    let most = (are.each k (get_or before k d) (got_or before k d below)).listed.number_most in
    omega (arith, most, marked.number_most)

-- the names of a table's columns fit their bytes
pub fits_columns : (h : Heading) → IsHeading h → All (FitsColumn h.name) h.schema
fits_columns h is = λ k d below. record {
  name = leb-true (length (get_or h.schema k d).name) 32
      (and_parts (nat_le (length (get_or h.schema k d).name) 32) (is_kind (get_or h.schema k d).kind)
      (and_at (list_all is_column) is_column refl (λ x xs. refl) h.schema k d below is.columns)).0;
  table_is = is.stored.table k d below;
}

-- a table that may be listed fits its bytes
pub fits_text : (closing : Closing) (t : Listed) → IsMarked closing → IsListed closing t → FitsText t
fits_text closing t marked is = record {
  name = is.heading.name;
  few = is.heading.stored.few;
  columns = fits_columns t.table.heading is.heading;
  region = omega (arith, is.region_most, marked.region_most);
  capacity = omega (arith, is.heading.stored.most);
  number = omega (arith, is.number_most, marked.number_most);
  flat = is.flat;
  salt = is.salt;
}
