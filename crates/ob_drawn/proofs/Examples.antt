-- What is refused before any access, of a table of a key id and a number v, and which plan is chosen, worked out.
use Rattle.std.proofs.Common.{◌≡◌, ℕ, List, [], ◌∷◌, Some, None, true, false, refl}
use Rattle.std.specs.Prelude.{Bool, Option, codes, pos}
use Rattle.ob_base.specs.declared.comparison.ComparisonOperator.TheVariants.{Equal}
use Rattle.ob_base.specs.declared.config.Plan.TheVariants.{Small, Large, Continuous, Hash}
use Rattle.ob_base.specs.declared.config.Planner.TheVariants.{Auto, Cheapest, Forced}
use Rattle.ob_base.specs.declared.refusal.Refusal.{Refusal}
use Rattle.ob_base.specs.declared.refusal.Refusal.TheVariants.{KeyRule, Limit, NoColumn, NoTable}
use Rattle.ob_base.specs.declared.schema.Heading.{Heading}
use Rattle.ob_base.specs.declared.schema.Shape.TheVariants.{Flat}
use Rattle.ob_base.specs.declared.skeleton.NewKind.TheVariants.{Int as NewInt}
use Rattle.ob_base.specs.Plans.{choose, choose_padded}
use Rattle.ob_base.specs.Publics.{first_public}
use Rattle.ob_base.specs.Schemas.{columns_of}
use Rattle.ob_sql.specs.declared.stmt.Against.TheVariants.{Literal as LiteralAgainst}
use Rattle.ob_sql.specs.declared.stmt.Literal.TheVariants.{Int as IntLiteral}
use Rattle.ob_sql.specs.declared.stmt.Stmt.{Stmt}
use Rattle.ob_sql.specs.declared.stmt.Stmt.TheVariants.{Delete, Drop as DropTable, Update}
use Rattle.ob_sql.specs.Search.{Compare}
use Rattle.ob_mean.specs.Refusals.{early_refusal, limits_of}

abbrev t : List ℕ
t = codes "t"

abbrev id : List ℕ
id = codes "id"

abbrev heading : Heading
heading = record { name = t; schema = columns_of t (record { name = id; kind = NewInt; keys = 1 } ∷ record { name = codes "v"; kind = NewInt; keys = 0 } ∷ []); capacity = 4; shape = Flat }

-- where four rows may be open
abbrev refusal : (late : Bool) → Stmt → Option Refusal
refusal late stmt =
    early_refusal late (limits_of (first_public (record { buffer = 4; depth = 5; pack = 1; planner = Auto; pad = None; stash = 32; keep = false; save = false; batch = None; max_input = 1024 }))) (heading ∷ []) stmt

abbrev set_key : Stmt
set_key = Update t (record { column = id; value = IntLiteral (pos 9) } ∷ []) None

no_table : refusal false (DropTable (codes "u")) ≡ Some NoTable
no_table = refl

no_column : refusal false (Delete t (Some (Compare (record { table = None; column = codes "x" }) Equal (LiteralAgainst (IntLiteral (pos 10)))))) ≡ Some NoColumn
no_column = refl

key_rule : refusal false set_key ≡ Some KeyRule
key_rule = refl

-- the limit comes before the key
late : refusal true set_key ≡ Some Limit
late = refl

-- ---- the plan
-- of one row a block and four that may be open, two are buffered
few : choose Auto 1 4 10 8 false ≡ Small
few = refl

side_by_side : choose Auto 1 4 10 9 true ≡ Continuous
side_by_side = refl

most : choose Auto 1 4 10 9 false ≡ Large
most = refl

some_of_many : choose Auto 1 4 100 9 false ≡ Hash
some_of_many = refl

forced : choose (Forced Large) 1 4 10 8 false ≡ Large
forced = refl

padded_few : choose_padded Auto 1 4 10 8 ≡ Small
padded_few = refl

padded_more : choose_padded Auto 1 4 10 9 ≡ Large
padded_more = refl

padded_forced : choose_padded (Forced Large) 1 4 10 8 ≡ Large
padded_forced = refl

-- by the lengths of scripts: where Small's is as short as another, it is taken, and then Continuous
shortest : choose Cheapest 1 4 10 6 true ≡ Small
shortest = refl

shortest_side_by_side : choose Cheapest 1 4 10 10 true ≡ Continuous
shortest_side_by_side = refl

shortest_apart : choose Cheapest 1 4 10 7 false ≡ Large
shortest_apart = refl

-- of four rows a block, Large's is the shorter one for rows side by side, too
shortest_in_fours : choose Cheapest 4 16 100 60 true ≡ Large
shortest_in_fours = refl

padded_shortest : choose_padded Cheapest 1 4 10 6 ≡ Small
padded_shortest = refl

padded_shortest_of_more : choose_padded Cheapest 1 4 10 7 ≡ Large
padded_shortest_of_more = refl
