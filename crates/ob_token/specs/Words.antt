-- Keywords and signs.
use Rattle.std.specs.Prelude.{ℕ, List, ◌&&◌, ◌==◌, Option, Some, None, codes, if◌then◌else◌}
use Rattle.std.specs.Str.{bytes_eq}
use Rattle.std.specs.Option.{option_or}
use Rattle.ob_token.specs.declared.token.Mark.{Mark}
use Rattle.ob_token.specs.declared.token.Mark.TheVariants as M

abbrev pub statement_word : List ℕ → Option Mark
statement_word w =
    if bytes_eq w (codes "select") then Some M.Select
    else if bytes_eq w (codes "insert") then Some M.Insert
    else if bytes_eq w (codes "update") then Some M.Update
    else if bytes_eq w (codes "delete") then Some M.Delete
    else if bytes_eq w (codes "create") then Some M.Create
    else if bytes_eq w (codes "drop") then Some M.Drop
    else if bytes_eq w (codes "into") then Some M.Into
    else if bytes_eq w (codes "values") then Some M.Values
    else if bytes_eq w (codes "set") then Some M.Set
    else None

abbrev pub clause_word : List ℕ → Option Mark
clause_word w =
    if bytes_eq w (codes "from") then Some M.From
    else if bytes_eq w (codes "where") then Some M.Where
    else if bytes_eq w (codes "group") then Some M.Group
    else if bytes_eq w (codes "by") then Some M.By
    else if bytes_eq w (codes "inner") then Some M.Inner
    else if bytes_eq w (codes "join") then Some M.Join
    else if bytes_eq w (codes "on") then Some M.On
    else if bytes_eq w (codes "and") then Some M.And
    else if bytes_eq w (codes "or") then Some M.Or
    else None

abbrev pub column_word : List ℕ → Option Mark
column_word w =
    if bytes_eq w (codes "not") then Some M.Not
    else if bytes_eq w (codes "null") then Some M.Null
    else if bytes_eq w (codes "table") then Some M.Table
    else if bytes_eq w (codes "primary") then Some M.Primary
    else if bytes_eq w (codes "key") then Some M.Key
    else if bytes_eq w (codes "int") then Some M.Int
    else if bytes_eq w (codes "integer") then Some M.Integer
    else if bytes_eq w (codes "varchar") then Some M.Varchar
    else if bytes_eq w (codes "capacity") then Some M.Capacity
    else if bytes_eq w (codes "indexed") then Some M.Indexed
    else None

abbrev pub aggregate_word : List ℕ → Option Mark
aggregate_word w =
    if bytes_eq w (codes "count") then Some M.Count
    else if bytes_eq w (codes "sum") then Some M.Sum
    else if bytes_eq w (codes "min") then Some M.Min
    else if bytes_eq w (codes "max") then Some M.Max
    else None

-- the keyword of these letters, which are in lower case
abbrev pub keyword : List ℕ → Option Mark
keyword w = option_or (statement_word w) (option_or (clause_word w) (option_or (column_word w) (aggregate_word w)))

-- the sign of two bytes
abbrev pub pair_sign : ℕ → ℕ → Option Mark
pair_sign a b =
    if a == 60 && b == 62 then Some M.NotEqual
    else if a == 33 && b == 61 then Some M.NotEqual
    else if a == 60 && b == 61 then Some M.LessOrEqual
    else if a == 62 && b == 61 then Some M.GreaterOrEqual
    else None

-- the sign of one byte
abbrev pub lone_sign : ℕ → Option Mark
lone_sign a =
    if a == 40 then Some M.Open
    else if a == 41 then Some M.Close
    else if a == 44 then Some M.Comma
    else if a == 59 then Some M.Semicolon
    else if a == 46 then Some M.Dot
    else if a == 42 then Some M.Star
    else if a == 61 then Some M.Equal
    else if a == 60 then Some M.Less
    else if a == 62 then Some M.Greater
    else if a == 43 then Some M.Plus
    else if a == 45 then Some M.Minus
    else None
