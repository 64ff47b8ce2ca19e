-- A SELECT of the rows of a join, once the joined region is gone.
use Rattle.ob_exec.proofs.Words.{ap, AreHeld, arith, at, blocks_for, Bool, buffered_blocks, EndsRows, Engine, Err, Event, from, HaltsRows, Heading, heading_at, headings, Held, held_at, Index, IsTrue, later_rests, left_place, length, List, None, Ok, OpErr, Option, option_map_or, refl, Result, RevState, seals_join, seals_rests, SealsRows, Seen, Selected, SelectsFrom, Slots, slots_of, Source, source_slots, Stored, stored_at, StoreState, subst, sym, Tables, Went, went_rests, width, World, world_of, ℕ, [], ◌*◌, ◌++◌, ◌+◌, ◌∙◌, ◌≡◌}
use Rattle.ob_script.proofs.Makes.{makes-join_part}
use Rattle.ob_row.specs.Results.{joined}
use Rattle.ob_vault.specs.Calls.{one}
use Rattle.ob_vault.specs.VaultCalls.{Forgets}
use Rattle.ob_vault.proofs.Runs.{went_join, went_wider}
use Rattle.ob_flat.specs.declared.flat.Flat.{Flat}
use Rattle.ob_flat.specs.Discards.{Discards}
use Rattle.ob_flat.specs.Flats.{Accepts, Represents}
use Rattle.ob_names.specs.Names.{right_place}
use Rattle.ob_sql.specs.declared.stmt.SelectRows.{SelectRows}
use Rattle.ob_tables.proofs.HeldLemmas.{held_headings}
use Rattle.ob_exec.proofs.RowsBehind.{behind_ends, behind_halts}
use Rattle.ob_exec.proofs.RowsJoin.{IsPaired, JoinOf, found_a, found_b, held_left, held_right, join_asks, join_count, join_least, join_walk, joins, q, table_is, flat_a, flat_b}
use Rattle.ob_tables.proofs.RunLemmas.{next_after}

module _ {R : Type 0} {state : R → RevState} {old : Engine R} {s s1 : StoreState} {select : SelectRows} {y : JoinOf state old s select} {lcol rcol : ℕ} {flat : Flat} {after : World}
    (z : IsPaired y lcol rcol s1 (Ok flat) after) where
  abbrev before : World
  before = world_of state old s

  abbrev ready : World
  ready = at state old.vault s1

  abbrev g : ℕ
  g = old.vault.next

  region_is : flat.region ≡ g
  region_is = ap (λ (f : Flat). f.region) z.paired.makes.value

  -- ---- its slots
  source_is : (indexes : List Index) (tables : Tables) → AreHeld old.public.pack indexes old.public.tables tables before → (first second : Slots)
      → option_map_or (λ (z : Stored Held). z.held.slots) (stored_at y.a tables) [] ≡ first → option_map_or (λ (z : Stored Held). z.held.slots) (stored_at y.b tables) [] ≡ second
      → joined lcol rcol old.room.pack old.room.rows first second ≡ slots_of old.public select tables
  source_is indexes tables held first second left_held right_held =
      let same = held_headings old.public.pack indexes old.public.tables tables before held in
      let one : option_map_or (λ (h : Heading). h.schema) (heading_at y.a (headings tables)) [] ≡ y.left.schema =
      ap (λ (o : Option Heading). option_map_or (λ (h : Heading). h.schema) o []) (ap (heading_at y.a) same ∙ found_a y) ∙ ap (λ (f : Flat). f.schema) (sym y.one.is) in
      let two : option_map_or (λ (h : Heading). h.schema) (heading_at y.b (headings tables)) [] ≡ y.right.schema =
      ap (λ (o : Option Heading). option_map_or (λ (h : Heading). h.schema) o []) (ap (heading_at y.b) same ∙ found_b y) ∙ ap (λ (f : Flat). f.schema) (sym y.two.is) in
      (λ k. joined (z.lcol_is k) (z.rcol_is k) (y.agrees.room.pack k) (y.agrees.room.rows k) first second)
      ∙ sym (ap (λ (source : Source). source_slots old.public source tables) y.of_join
      ∙ (λ k. joined (left_place (length (one k)) (one k ++ two k) y.on y.equals) (right_place (length (one k)) (one k ++ two k) y.on y.equals) old.public.pack old.public.buffer (left_held k) (right_held k)))

  slots_are : (indexes : List Index) (tables : Tables) → AreHeld old.public.pack indexes old.public.tables tables before → IsTrue before.store.tells → after.store.lie ≡ None
      → Represents old.public.pack (q y).flat (slots_of old.public select tables) after
  slots_are indexes tables held tells nolie =
      let one = held_at old.public.pack indexes y.a old.public.tables tables y.i y.one.table before y.agrees.tables.names held y.one.here.get y.one.here.named (flat_a y) in
      let two = held_at old.public.pack indexes y.b old.public.tables tables y.j y.two.table before y.agrees.tables.names held y.two.here.get y.two.here.named (flat_b y) in
      let is = z.told.told (record { tells = subst (λ (x : Bool). IsTrue x) (sym z.rests.tells) tells; nolie = nolie }) one.table.held.slots two.table.held.slots
      (held_left y s1 one.table.held.slots z.rests one.represents) (held_right y s1 two.table.held.slots z.rests two.represents) in
      subst (λ (slots : Slots). Represents old.public.pack (q y).flat slots after)
      (source_is indexes tables held one.table.held.slots two.table.held.slots (ap (λ (o : Option (Stored Held)). option_map_or (λ (z : Stored Held). z.held.slots) o []) one.found) (ap (λ (o : Option (Stored Held)). option_map_or (λ (z : Stored Held). z.held.slots) o []) two.found))
      (subst (λ (f : Flat). Represents old.public.pack f (joined lcol rcol old.room.pack old.room.rows one.table.held.slots two.table.held.slots) after) (z.paired.makes.value ∙ table_is y lcol rcol)
      (subst (λ (n : ℕ). Represents n flat (joined lcol rcol old.room.pack old.room.rows one.table.held.slots two.table.held.slots) after) y.agrees.room.pack is))

  -- ---- the accesses that made it
  made : Went (joins y lcol rcol) (from g) before after
  made =
      went_join (from g) before ready after [] (joins y lcol rcol) (went_rests _ s s1 z.rests (from g) y.agrees.ready)
      (went_wider (one g) ready after (from g) (λ r here. omega (arith, here)) _ z.paired.ran.ok)

  next : after.vault.next ≡ g + 1
  next =
      next_after before after (joins y lcol rcol) y.agrees.ready made.lasts.ready made.lasts.start made.did.asked
      ∙ ap (λ (n : ℕ). g + n)
      (makes-join_part y.left.region y.right.region g (blocks_for old.room.pack y.left.capacity) (blocks_for old.room.pack y.right.capacity)
      (buffered_blocks old.room.pack old.room.rows) (old.room.pack * width (y.left.schema ++ y.right.schema)))

  sealed : SealsRows old.public.pack before after
  sealed good accepts =
      seals_join good before ready after (later_rests s s1 z.rests) (seals_rests _ s s1 z.rests good)
      (z.paired.makes.seals.seals good (subst (λ (n : ℕ). Accepts good n (y.left.schema ++ y.right.schema) g) (sym y.agrees.room.pack) (accepts (y.left.schema ++ y.right.schema) g)))

  -- ---- what the statement does
  module _ {E : Type 0} (grew cut : E → E → List Event → Type 0) (faults : E → ℕ) (now : Seen) (out_old out_new : E) (c d : World) where
    pub join_halts : (e : OpErr) → SelectsFrom grew cut faults (q y) (Err e) now after c out_old out_new → Forgets flat.region c d → d.store ≡ c.store
        → HaltsRows grew cut old.public select e now before d out_old out_new
    join_halts e is forgets same =
        let forgot = subst (λ (r : ℕ). Forgets r c d) region_is forgets in
        behind_halts old.public select g (joins y lcol rcol) before after made refl next sealed (join_least y) (join_asks y lcol rcol) (join_count y lcol rcol) (join_walk y lcol rcol)
        slots_are grew cut faults now out_old out_new c d e is (forgot.went is.ran.err.lasts.ready) same forgot.gone forgot.seals

    pub join_ends : {T : Type 0} (answer : Selected) (result : Result T OpErr) → SelectsFrom grew cut faults (q y) (Ok answer) now after c out_old out_new
        → Discards flat.region result c d → EndsRows grew old.public select answer now before d out_old out_new
    join_ends answer result is discards =
        behind_ends old.public select g (joins y lcol rcol) before after made refl next sealed (join_least y) (join_asks y lcol rcol) (join_count y lcol rcol) (join_walk y lcol rcol)
        slots_are grew cut faults now out_old out_new c d answer result is (subst (λ (r : ℕ). Discards r result c d) region_is discards)
