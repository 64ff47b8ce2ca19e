-- How a closing is spelled: blocks of one row of 1,024 bytes, the first of them its head, and one for each table.
use Rattle.std.specs.Prelude.{◌≡◌, ◌≤◌, ◌<◌, ◌+◌, ◌-◌, ◌^◌, ℕ, Bool, List, [], ◌∷◌, ◌++◌, Option, Some, None, length, map, replicate, codes, if◌then◌else◌}
use Rattle.std.specs.Int.{to_be_bytes, w32, w64}
use Rattle.std.specs.List.{All}
use Rattle.ob_base.specs.declared.schema.Kind.{Kind}
use Rattle.ob_base.specs.declared.schema.Kind.TheVariants.{Int, Varchar}
use Rattle.ob_base.specs.declared.schema.Column.{Column}
use Rattle.ob_base.specs.declared.schema.Shape.TheVariants.{Flat}
use Rattle.ob_base.specs.Schemas.{Columns}
use Rattle.ob_seal.specs.Sealed.{IsSalt}
use Rattle.ob_reopen.specs.declared.listed.Listed.{Listed}

-- a name after its length, with zeros up to 32 bytes
abbrev pub name_text : List ℕ → List ℕ
name_text name = length name ∷ (name ++ replicate (32 - length name) 0)

-- what a column holds, and the most bytes of a text
abbrev pub kind_text : Kind → List ℕ
kind_text Int = 0 ∷ 0 ∷ []
kind_text (Varchar n) = 1 ∷ n ∷ []

-- whether it is the primary key
abbrev pub key_text : Bool → List ℕ
key_text key = (if key then 1 else 0) ∷ []

abbrev pub column_text : Column → List ℕ
column_text c = name_text c.name ++ (kind_text c.kind ++ key_text c.key)

-- columns, 36 bytes each, with zeros up to n bytes
abbrev pub columns_text : ℕ → Columns → List ℕ
columns_text n [] = replicate n 0
columns_text n (c ∷ cs) = column_text c ++ columns_text (n - 36) cs

-- whether a table's run had a salt, and the salt
abbrev pub salt_text : Option (List ℕ) → List ℕ
salt_text None = replicate 17 0
salt_text (Some salt) = 1 ∷ salt

-- a table: its name, region and capacity, the write number of its first block, its columns after their number, and the
-- salt of its run; where that had none the row is what it was before there were salts
unfoldable pub table_text : Listed → List ℕ
table_text t =
    name_text t.table.heading.name ++ (to_be_bytes w64 t.table.region
    ++ (to_be_bytes w32 t.table.heading.capacity ++ (to_be_bytes w64 t.number
    ++ (length t.table.heading.schema
    ∷ (columns_text 953 t.table.heading.schema ++ salt_text t.salt)))))

-- the head: the number of the next region, and how many tables there are
unfoldable pub head_text : (next count : ℕ) → List ℕ
head_text next count =
    codes "oblidb-c" ++ (to_be_bytes w64 next ++ (to_be_bytes w32 count ++ replicate 1004 0))

-- the rows of the closing in this region
abbrev pub catalogue_rows : (region : ℕ) → List Listed → List (List ℕ)
catalogue_rows region listed = head_text (region + 1) (length listed) ∷ map table_text listed

-- a column that is spelled so: its table isn't, since it is the one that it stands in
pub record FitsColumn (table : List ℕ) (c : Column) : Type 0 where
  pub name : length c.name ≤ 32
  pub table_is : c.table ≡ table

-- a flat table each of whose parts fits its bytes
pub record FitsText (t : Listed) : Type 0 where
  pub name : length t.table.heading.name ≤ 32
  pub few : length t.table.heading.schema ≤ 16
  pub columns : All (FitsColumn t.table.heading.name) t.table.heading.schema
  pub region : t.table.region < 2 ^ 64
  pub capacity : t.table.heading.capacity < 2 ^ 32
  pub number : t.number < 2 ^ 64
  pub flat : t.table.heading.shape ≡ Flat
  pub salt : IsSalt t.salt
