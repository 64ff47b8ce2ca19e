-- What a closing may list.
use Rattle.std.specs.Prelude.{◌≡◌, ◌≤◌, ◌<◌, ◌+◌, ℕ, Bool, true, false, IsTrue, not, ◌&&◌, ◌||◌, ◌==◌, nat_le, List, length, map, take, count_by, bytes_eq, Some, slice_get}
use Rattle.std.specs.Int.{is_in_range}
use Rattle.std.specs.List.{list_all}
use Rattle.std.specs.Ordering.{is_lt, nat_cmp}
use Rattle.std.specs.Cmp.Lexicographic.{slice_cmp}
use Rattle.ob_base.specs.declared.schema.Kind.{Kind}
use Rattle.ob_base.specs.declared.schema.Kind.TheVariants.{Int, Varchar}
use Rattle.ob_base.specs.declared.schema.Column.{Column}
use Rattle.ob_base.specs.declared.schema.Heading.{Heading}
use Rattle.ob_base.specs.declared.schema.Shape.TheVariants.{Flat}
use Rattle.ob_base.specs.Lists.{has_repeats}
use Rattle.ob_base.specs.Numbers.{blocks_for}
use Rattle.ob_base.specs.Schemas.{width}
use Rattle.ob_base.specs.Stored.{NamesTable}
use Rattle.ob_reopen.specs.declared.closing.Closing.{Closing}
use Rattle.ob_reopen.specs.declared.listed.Listed.{Listed}
use Rattle.ob_reopen.specs.Keepers.{AreMarked}
use Rattle.ob_seal.specs.Sealed.{IsSalt}

-- a closing that a mark may name
abbrev pub IsMarked : Closing → Type 0
IsMarked c = AreMarked c.region c.blocks c.number c.pack

-- an integer, or a text of 1 to 255 bytes at most
abbrev pub is_kind : Kind → Bool
is_kind Int = true
is_kind (Varchar n) = is_in_range 1 255 n

-- and a name of at most 32 bytes
abbrev pub is_column : Column → Bool
is_column c = nat_le (length c.name) 32 && is_kind c.kind

-- a table's schema and capacity are within their limits, and its columns have distinct names and name it
pub record IsStored (h : Heading) : Type 0 where
  pub some : 1 ≤ length h.schema
  pub few : length h.schema ≤ 16
  pub wide : width h.schema ≤ 1024
  pub least : 1 ≤ h.capacity
  pub most : h.capacity ≤ 1048576
  pub names : has_repeats bytes_eq (map (λ (c : Column). c.name) h.schema) ≡ false
  pub table : NamesTable h

-- the same, each column is within its limits, and at most one of them is the primary key
pub record IsHeading (h : Heading) : Type 0 where
  pub stored : IsStored h
  pub name : length h.name ≤ 32
  pub columns : IsTrue (list_all is_column h.schema)
  pub keys : count_by (λ (c : Column). c.key) h.schema ≤ 1

-- how many blocks a table has, and the number after that of the last of them
abbrev pub blocks_of : (pack : ℕ) → Listed → ℕ
blocks_of pack t = blocks_for pack t.table.heading.capacity

abbrev pub end_of : (pack : ℕ) → Listed → ℕ
end_of pack t = t.number + blocks_of pack t

-- a flat table within its limits, whose region and numbers come before those of the closing
pub record IsListed (closing : Closing) (t : Listed) : Type 0 where
  pub heading : IsHeading t.table.heading
  pub flat : t.table.heading.shape ≡ Flat
  pub region_least : 1 ≤ t.table.region
  pub region_most : t.table.region < closing.region
  pub number_least : 1 ≤ t.number
  pub number_most : end_of closing.pack t ≤ closing.number
  pub salt : IsSalt t.salt

-- the first has the smaller name, and they have neither a region nor a number together
abbrev pub are_apart : (pack : ℕ) → Listed → Listed → Bool
are_apart pack t u =
    is_lt (slice_cmp nat_cmp t.table.heading.name u.table.heading.name)
    && not (t.table.region == u.table.region)
    && (nat_le (end_of pack t) u.number || nat_le (end_of pack u) t.number)

-- a table that may be listed after these
pub record GoesOn (closing : Closing) (before : List Listed) (t : Listed) : Type 0 where
  pub listed : IsListed closing t
  pub apart : IsTrue (list_all (λ u. are_apart closing.pack u t) before)

-- each may be listed after those before it
pub record AreListed (closing : Closing) (listed : List Listed) : Type 0 where
  pub each : (i : ℕ) (t : Listed) → slice_get listed i ≡ Some t → GoesOn closing (take i listed) t

-- and they are as many as the closing has blocks beside its head
pub record IsCatalogue (closing : Closing) (listed : List Listed) : Type 0 where
  pub are : AreListed closing listed
  pub count : length listed + 1 ≡ closing.blocks
