-- What batches become of, on small tables.
use Rattle.std.proofs.Common.{◌≡◌, ℕ, true, false, [], ◌∷◌, List, Some, None, refl}
use Rattle.std.specs.Prelude.{pos}
use Rattle.ob_base.specs.declared.schema.Kind.TheVariants as Kinds
use Rattle.ob_base.specs.Schemas.{Columns}
use Rattle.ob_row.specs.declared.cell.Cell.TheVariants.{Int}
use Rattle.ob_row.specs.Rows.{Row}
use Rattle.ob_row.specs.Slots.{Slots}
use Rattle.ob_mutate.specs.declared.inserting.Inserted.TheVariants.{Done, Duplicate, Full}
use Rattle.ob_mutate.specs.Batches.{frees_from, insert_answers, inserted_all, put_into, taken_all}

abbrev keyed : Columns
keyed = record { table = []; name = []; kind = Kinds.Int; key = true } ∷ []

abbrev free : Columns
free = record { table = []; name = []; kind = Kinds.Int; key = false } ∷ []

abbrev one : ℕ → Row
one x = Int (pos x) ∷ []

abbrev some : Slots
some = None ∷ Some (one 1) ∷ None ∷ []

-- a key that was refused as Full is no Duplicate
abbrev many : List Row
many = one 2 ∷ one 1 ∷ one 2 ∷ one 3 ∷ one 4 ∷ one 4 ∷ one 3 ∷ []

keyed_answers : insert_answers keyed many some ≡ Done ∷ Duplicate ∷ Duplicate ∷ Done ∷ Full ∷ Full ∷ Duplicate ∷ []
keyed_answers = refl

keyed_slots : inserted_all keyed many some ≡ Some (one 2) ∷ Some (one 1) ∷ Some (one 3) ∷ []
keyed_slots = refl

-- without a primary key the first ones are taken
free_answers : insert_answers free (one 1 ∷ one 1 ∷ one 5 ∷ []) some ≡ Done ∷ Done ∷ Full ∷ []
free_answers = refl

free_slots : inserted_all free (one 1 ∷ one 1 ∷ one 5 ∷ []) some ≡ Some (one 1) ∷ Some (one 1) ∷ Some (one 1) ∷ []
free_slots = refl

-- the rows that are taken, each at its slot
taken : taken_all keyed many some ≡ one 2 ∷ one 3 ∷ []
taken = refl

put : put_into (frees_from 0 some) (taken_all keyed many some) 2 None ≡ Some (one 3)
put = refl
