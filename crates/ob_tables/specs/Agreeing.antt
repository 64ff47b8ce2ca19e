-- What contracts see of an engine, and how it and its store belong together.
use Rattle.std.specs.Prelude.{◌≡◌, ◌+◌, ◌%◌, ◌^◌, ℕ, Bool, true, List, [], Option, Some, length, slice_get}
use Rattle.rand_chacha.specs.ChaCha.{key_of}
use Rattle.ob_base.specs.declared.config.Public.{Public}
use Rattle.ob_base.specs.declared.seen.Seen.{Seen}
use Rattle.ob_mean.specs.Verdict.{Draws}
use Rattle.ob_oram.specs.declared.index.Index.{Index}
use Rattle.ob_seal.specs.Draws.{DrawPlace, draw_of}
use Rattle.ob_seal.specs.KeySet.{KeySet, draw_seed_of}
use Rattle.ob_store.specs.State.{StoreState}
use Rattle.ob_vault.specs.State.{RevState, Start, World, earlier}
use Rattle.ob_vault.specs.Tied.{Ready}
use Rattle.ob_vault.specs.Places.{at, start_of}
use Rattle.ob_tables.specs.declared.engine.Engine.{Engine}
use Rattle.ob_select.specs.Settings.{AreSettings, IsFree}
use Rattle.ob_tables.specs.Engines.{AreTables, FitsSettings, IsStash, IsStashOf, others_of}

-- what is public
abbrev pub public_of : {R : Type 0} → Engine R → Public
public_of e = e.public

-- the keys that its blocks are sealed with
abbrev pub engine_keys : {R : Type 0} → Engine R → KeySet
engine_keys e = e.vault.keys

-- what its numbers go on from
abbrev pub engine_start : {R : Type 0} → Engine R → Start
engine_start e = start_of e.vault

-- what was seen of the last statement
abbrev pub seen_of : {R : Type 0} → Engine R → Seen
seen_of e = e.seen

-- the region of the closing that it was opened from, until it is closed, or that its tables were saved in last
abbrev pub opened_from : {R : Type 0} → Engine R → Option ℕ
opened_from e = e.closing

-- the closing before the last, until it is discarded
abbrev pub replaced_of : {R : Type 0} → Engine R → Option ℕ
replaced_of e = e.replaced

-- its indexes
abbrev pub indexes_of : {R : Type 0} → Engine R → List Index
indexes_of e = e.indexes.items

-- where its draws stand
abbrev pub draws_of : {R : Type 0} → Engine R → DrawPlace
draws_of e = e.draws

-- whether a stop has ended the session
abbrev pub has_ended : {R : Type 0} → Engine R → Bool
has_ended e = e.ended

-- the greatest number of rows that were open at once
abbrev pub high_of : {R : Type 0} → Engine R → ℕ
high_of e = e.room.high

-- how many rows may be open
abbrev pub rows_of : {R : Type 0} → Engine R → ℕ
rows_of e = e.room.rows

-- its vault and the store
abbrev pub world_of : {R : Type 0} → (R → RevState) → Engine R → StoreState → World
world_of state e s = at state e.vault s

-- the accesses so far, counted on from where an earlier run's numbers are
abbrev pub count_of : {R : Type 0} → Engine R → StoreState → ℕ
count_of e s = earlier (engine_start e) + length s.asked

-- the next draws of the meaning are those that the engine draws next: of its keys, from the same number on, of which it
-- keeps no more than it needs, since they repeat
pub record AreDraws {R : Type 0} (e : Engine R) (d : Draws) : Type 0 where
  pub draw : (n : ℕ) → d.draw n ≡ draw_of e.vault.keys n
  pub next : e.draws.next ≡ d.drawn % 2 ^ 67

-- the first draws of some keys
abbrev pub first_draws : KeySet → Draws
first_draws keys = record { draw = draw_of keys; drawn = 0 }

-- what every statement asks of an engine and its store, and leaves
pub record Agrees {R : Type 0} (state : R → RevState) (e : Engine R) (s : StoreState) : Type 0 where
  pub ready : Ready (world_of state e s)
  pub next : e.public.next_region ≡ e.vault.next
  pub settings : AreSettings e.public
  pub stash : IsStash e.public.stash
  pub room : IsFree e.public e.room
  pub tables : AreTables e.public.tables (others_of e.closing e.indexes.items) e.indexes.items e.public.pack (world_of state e s)
  pub fit : (k : ℕ) (x : Index) → slice_get e.indexes.items k ≡ Some x → FitsSettings e.public x
  -- the closing that it was opened from lies in no stash
  pub aside : (q : ℕ) → e.closing ≡ Some q → IsStashOf e.indexes.items q → ⊥
  -- draws come of the keys
  pub seeded : e.draws.key ≡ key_of (draw_seed_of e.vault.keys)
  -- where tables are kept none is an index, and those that are saved are kept
  pub kept : e.public.keep ≡ true → e.indexes.items ≡ []
  pub saved : e.public.save ≡ true → e.public.keep ≡ true
