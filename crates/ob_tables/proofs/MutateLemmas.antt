-- INSERT, UPDATE and DELETE: a table's slots change, and it lies in a fresh region.
use Rattle.ob_tables.proofs.Words.{Access, accessed, Agrees, answer_of, ap, AreHeld, AreTables, arith, behind_run, blocks_for, Bool, cases_eq, changed_at, count_of, Cut, Draws, early_refusal, End, Engine, Err, false, flat_of, Former, former_of, has_index, HasNoRows, Heading, headings, headings_of, Held, in_slots, Index, inl, inr, is_access, is_late, is_stop, IsAt, IsFlat, IsHonest, IsTable, IsTrue, left_region, length, limits_of, List, make_at, MakesFlat, None, Ok, OpErr, Option, option_map, option_map_or, others_of, Outcome, outcome_of, Public, ReadsTrue, refl, refusal_now, Result, RevState, RoomState, Round, RunStop, selects_rows, ServesSilently, settle_all, skeleton, slice_get, slice_set, Slots, Some, Stmt, Stored, stored_at, stored_region, stored_regions, StoreState, subst, sym, table_region, Tables, two, UsesRoom, Vault, verdict, went_join, went_rests, Whole, whole_run, width, with_table, World, world_of, ℕ, [], ◌*◌, ◌++◌, ◌-◌, ◌∙◌, ◌∷◌, ◌≡◌}
use Rattle.ob_base.specs.declared.schema.Table.{Table}
use Rattle.ob_store.specs.Calls.{ChangesNothing}
use Rattle.ob_vault.specs.Places.{at}
use Rattle.ob_script.specs.Saved.{region_at}
use Rattle.ob_script.specs.Script.{mutation_script, shape_script}
use Rattle.ob_script.specs.Tables.{moved, tables_after}
use Rattle.ob_flat.specs.declared.flat.Flat.{Flat}
use Rattle.ob_flat.specs.Flats.{Represents as FlatRepresents}
use Rattle.ob_flat.proofs.Resting.{represents_rests}
use Rattle.ob_mutate.specs.Mutating.{Mutates, former_script}
use Rattle.ob_mean.proofs.FlatLemmas.{shape_is}
use Rattle.ob_base.specs.declared.schema.Shape.TheVariants.{Flat as FlatShape}
use Rattle.ob_mean.specs.Verdict.{ended as seen_to}
use Rattle.ob_tables.specs.Telling.{Represents}
use Rattle.ob_tables.proofs.FormerLemmas.{former_is, kept_former, left_stays}
use Rattle.ob_tables.proofs.HeldLemmas.{Beside, held_at, held_headings, held_plain, held_moved}
use Rattle.ob_tables.proofs.FoundLemmas.{named_flat, shape_found}
use Rattle.ob_tables.proofs.PlainLemmas.{none_drawn}
use Rattle.ob_tables.proofs.RunLemmas.{IsAnswered, engine_after, ran_done}
use Rattle.ob_tables.proofs.SealLemmas.{keeps_pass}
use Rattle.ob_tables.proofs.SilentLemmas.{cut_off, finished, serves_as}
use Rattle.ob_tables.proofs.TableLemmas.{beside_below, region_below, set_moved, shifted, shifted_is, stored_found, tables_moved}
use Rattle.ob_tables.proofs.ToldLemmas.{early_held, fault_made, silent_pass}

-- what a statement makes of the slots of the table of a name, with others that are served with it
pub record MeansFor {T : Type 0} (p : Public) (m : ℕ) (stmt : Stmt) (owed : List Stmt) (name : List ℕ) (outcome : T → Outcome) (answer : Slots → T) (after : Slots → Slots) (tables : Tables) (slots : Slots) : Type 0 where
  pub to : Slots → Slots
  pub answered : outcome (answer slots) ≡ outcome_of stmt (verdict p m tables stmt)
  pub settles : (d : Draws) → settle_all d p m (stmt ∷ owed) tables ≡ changed_at name (in_slots to) tables
  pub here : to slots ≡ after slots

-- a statement that changes the slots of the table of a name
pub record Alters {T : Type 0} (p : Public) (m : ℕ) (stmt : Stmt) (owed : List Stmt) (name : List ℕ) (heading : Heading) (part : ℕ → ℕ → ℕ → ℕ → List Access → List Access)
    (outcome : T → Outcome) (answer : Slots → T) (after : Slots → Slots) : Type 0 where
  pub script : (end : End) → whole_run p (skeleton stmt) (seen_to end) ≡ with_table name p (shape_script p None (mutation_script p part (behind_run p)))
  pub leaves : left_region p (skeleton stmt) ≡ region_at name p
  pub more : ℕ → ℕ → ℕ → ℕ → List Access → List Access
  pub makes : (t g blocks size : ℕ) (behind : List Access) → part t g blocks size behind ≡ make_at g blocks size ++ more t g blocks size behind
  pub tables : tables_after p (skeleton stmt) ≡ moved name p.next_region p.tables
  pub answers : (x : T) → IsAnswered (outcome x)
  pub silent : (x : T) → HasNoRows (outcome x)
  pub plain : selects_rows stmt ≡ false
  pub makes_none : MakesFlat (skeleton stmt)
  pub unindexed : is_access p (skeleton stmt) ≡ false → has_index p name ≡ false
  pub meant : (tables : Tables) (x : Stored Held) → headings tables ≡ headings_of p.tables → accessed tables stmt ≡ None → early_refusal (is_late m) (limits_of p) (headings tables) stmt ≡ None → stored_at name tables ≡ Some x
      → length x.held.slots ≡ x.heading.capacity → x.heading ≡ heading → MeansFor p m stmt owed name outcome answer after tables x.held.slots

module _ {R T : Type 0} {owed : List Stmt} (state : R → RevState) (stmt : Stmt) (name : List ℕ) (part : ℕ → ℕ → ℕ → ℕ → List Access → List Access) (outcome : T → Outcome) (answer : Slots → T) (after : Slots → Slots)
    (old : Engine R) (s s1 : StoreState) (v : Vault R) (room : RoomState) (t : StoreState) (i : ℕ) (table : Table) (flat left : Flat)
    (agrees : Agrees state old s) (rests : ChangesNothing s s1) (uses : UsesRoom old.room room)
    (here : IsAt name i table old.public.tables) (flat_is : flat ≡ flat_of table) (now : refusal_now old.public (count_of old s) stmt ≡ None) (none : is_access old.public (skeleton stmt) ≡ false)
    (alters : Alters old.public (count_of old s) stmt owed name table.heading part outcome answer after) where
  abbrev before : World
  before = at state old.vault s1

  abbrev done : World
  done = at state v t

  abbrev g : ℕ
  g = old.vault.next

  abbrev kept : Former
  kept = former_of old.public

  abbrev x : List Access
  x = part table.region g (blocks_for old.room.pack table.heading.capacity) (old.room.pack * width table.heading.schema) (former_script kept table.region)

  abbrev pub asks : Former → Flat → List Access
  asks former f = part f.region old.vault.next (blocks_for old.room.pack f.capacity) (old.room.pack * width f.schema) (former_script former f.region)

  shape_is_flat : table.heading.shape ≡ FlatShape
  shape_is_flat = shape_found name old.public.tables i table agrees.tables.names here.get here.named (alters.unindexed none)

  found_region : stored_at name (stored_regions old.public.tables) ≡ Some (stored_region table)
  found_region = stored_found name old.public.tables i table agrees.tables.names here.get here.named

  script_is : (end : End) → whole_run old.public (skeleton stmt) (seen_to end) ≡ x
  script_is end =
      alters.script end
      ∙ ap (λ (o : Option (Stored ℕ)). option_map_or (shape_script old.public None (mutation_script old.public part (behind_run old.public))) o []) found_region
      ∙ shape_is old.public None (mutation_script old.public part (behind_run old.public)) (stored_region table) shape_is_flat
      ∙ (λ j. part table.region (agrees.next j) (blocks_for (sym agrees.room.pack j) table.heading.capacity) (sym agrees.room.pack j * width table.heading.schema) (sym (former_is old.public table.region) j))

  -- the table in place beside it, and its slots where room was made
  beside : (tables : Tables) → Represents state old s tables → Beside old.public.pack name table tables (world_of state old s)
  beside tables held = held_at old.public.pack old.indexes.items name old.public.tables tables i table (world_of state old s) agrees.tables.names held.held here.get here.named shape_is_flat

  slots_before : (tables : Tables) (held : Represents state old s tables) → FlatRepresents old.room.pack (flat_of table) (beside tables held).table.held.slots before
  slots_before tables held =
      represents_rests _ s s1 rests old.room.pack (flat_of table) (beside tables held).table.held.slots
      (subst (λ (k : ℕ). FlatRepresents k (flat_of table) (beside tables held).table.held.slots (world_of state old s)) (sym agrees.room.pack) (beside tables held).represents)

  honest : (tables : Tables) → ReadsTrue state old s t tables → IsHonest before done
  honest tables reads = record { tells = subst (λ (b : Bool). IsTrue b) (sym rests.tells) reads.tells; nolie = reads.nolie }

  abbrev moved_table : Table
  moved_table = record table { region = old.vault.next }

  apart_moved : (j : ℕ) (u : Table) → slice_get old.public.tables j ≡ Some u → (j ≡ i → ⊥) → two table.region old.vault.next u.region → ⊥
  apart_moved j u is off (inl same) = off (agrees.tables.apart j i u table is here.get same)
  apart_moved j u is off (inr same) = let less = region_below old.public.pack j old.public.tables u _ agrees.ready agrees.tables is in omega (arith, less, same)

  -- a stash is neither of the two
  apart_stash : (k : ℕ) (w : Index) → slice_get old.indexes.items k ≡ Some w → two table.region old.vault.next w.stash → ⊥
  apart_stash k w get (inl same) = (agrees.tables.beside w.stash (agrees.tables.stand k w get).beside).off (record { place = i; table = table; get = here.get; region = sym same })
  apart_stash k w get (inr same) =
      let less = beside_below old.public.pack old.public.tables (others_of old.closing old.indexes.items) w.stash _ agrees.ready agrees.tables (agrees.tables.stand k w get).beside in
      omega (arith, less, same)

  changed : (y : T) → Mutates kept old.room.pack (flat_of table) left x answer after (Ok y) before done → old.ended ≡ false
      → ServesSilently state stmt owed (Ok (outcome y)) old s (engine_after old v room (slice_set old.public.tables i moved_table) Whole old.ended) t
  changed y mutates lives =
      let r = table.region in
      let all = went_join (two r g) _ _ _ [] x (went_rests _ s s1 rests (two r g) agrees.ready) mutates.ok in
      let flat_now : IsFlat old.room.pack (flat_of moved_table) done = subst (λ (f : Flat). IsFlat old.room.pack f done) mutates.moves mutates.table in
      let is_table : IsTable old.public.pack moved_table done = record {
        heading = (agrees.tables.each i table here.get).heading;
        least = let number = agrees.ready.tied.next in omega (arith, number);
        live = record { shape = _; lives = record { live = mutates.lives.live } };
        written = λ shape. record {
          flat = subst (λ (k : ℕ). IsFlat k (flat_of moved_table) done) agrees.room.pack flat_now;
          round = record { live = mutates.lives.live ∙ (λ j. Some (table_region Round (agrees.room.pack j) table.heading.schema table.heading.capacity)) };
        };
      } in
      let set = set_moved name g old.public.tables i table agrees.tables.names here.get here.named in
      let ran = ran_done state (skeleton stmt) old s v room t agrees uses (none_drawn old.public (skeleton stmt) none alters.makes_none) (two r g) (slice_set old.public.tables i moved_table) x (outcome y) lives (alters.answers y) all (script_is Whole)
      (set ∙ ap (λ (n : ℕ). shifted name n old.public.tables) (sym agrees.next) ∙ sym (shifted_is name old.public.next_region old.public.tables (named_flat name old.public.tables agrees.tables.names (alters.unindexed none))) ∙ sym alters.tables)
      (subst (λ (ts : List Table). AreTables ts (others_of old.closing old.indexes.items) old.indexes.items old.public.pack done) (sym set)
      (tables_moved old.public.pack g r name old.public.tables (others_of old.closing old.indexes.items) old.indexes.items table i _ _ all.lasts agrees.ready refl agrees.tables here.get here.named refl shape_is_flat is_table
      (λ shape live. absurd (cc (live, mutates.gone))) (λ q z. cases_eq q z)))
      (λ q is. left_stays old.public.save r s s1 t (left_region old.public (skeleton stmt)) q (state v.revs).live (alters.leaves ∙ ap (option_map (λ (u : Stored ℕ). u.held)) found_region) rests mutates.stays mutates.gone is)
      (λ saves q below. elim (cases_eq q r) [
        | inl same ↦ kept_former old.public.save r s s1 t q saves same rests mutates.stays
        | inr off ↦ all.lasts.apart.rests q (λ hit. elim hit [ inl same ↦ off same | inr same ↦ omega (arith, below, same) ])
      ]) in
      finished state stmt old s agrees now alters.plain none alters.makes_none v room t (slice_set old.public.tables i moved_table) (outcome y) (alters.answers y) (alters.silent y) ran
      (keeps_pass state old s s1 rests agrees (engine_after old v room (slice_set old.public.tables i moved_table) Whole old.ended) t done refl (λ good accepts. mutates.seals.seals good (accepts _ _)))
      (λ tables d reads.
      let told = mutates.told (honest tables reads) (beside tables reads.held).table.held.slots (slots_before tables reads.held) in
      let early = early_held old.public (count_of old s) stmt tables old.indexes.items (world_of state old s) None reads.held.held now in
      let found = (beside tables reads.held).found in
      let size : length (beside tables reads.held).table.held.slots ≡ (beside tables reads.held).table.heading.capacity =
      (beside tables reads.held).represents.size ∙ ap (λ (h : Heading). h.capacity) (sym (beside tables reads.held).heading) in
      let unread = held_plain old.public old.indexes.items tables (world_of state old s) stmt reads.held.held none in
      let meant = alters.meant tables (beside tables reads.held).table (held_headings old.public.pack old.indexes.items old.public.tables tables (world_of state old s) reads.held.held) unread early found size (beside tables reads.held).heading in
      let slots_now : FlatRepresents old.public.pack (flat_of moved_table) (meant.to (beside tables reads.held).table.held.slots) done =
      subst (λ (slots : Slots). FlatRepresents old.public.pack (flat_of moved_table) slots done) (sym meant.here)
      (subst (λ (k : ℕ). FlatRepresents k (flat_of moved_table) (after (beside tables reads.held).table.held.slots) done) agrees.room.pack
      (subst (λ (f : Flat). FlatRepresents old.room.pack f (after (beside tables reads.held).table.held.slots) done) mutates.moves told.1)) in
      let moved_are = held_moved old.public.pack g old.indexes.items name meant.to done old.public.tables tables i table (two r g) (world_of state old s) agrees.tables.names reads.held.held all.lasts apart_moved apart_stash
      here.get here.named shape_is_flat
      (λ z at_z. let same : (beside tables reads.held).table ≡ z = cc (found, at_z) in
      subst (λ (u : Stored Held). FlatRepresents old.public.pack (flat_of moved_table) (meant.to u.held.slots) done) same slots_now) in (
        ap outcome told.0 ∙ meant.answered,
        subst (λ (ts : Tables). AreHeld old.public.pack old.indexes.items (slice_set old.public.tables i moved_table) ts done) (sym (meant.settles d))
            (subst (λ (ts : List Table). AreHeld old.public.pack old.indexes.items ts (changed_at name (in_slots meant.to) tables) done) (sym set) moved_are),
      ))

  unchanged : (e : OpErr) (n : ℕ) → Mutates kept old.room.pack (flat_of table) left x answer after (Err e) before done → n ≡ length t.asked - length s.asked
      → ServesSilently state stmt owed (answer_of e) old s (engine_after old v room old.public.tables (Cut n) (is_stop (answer_of e))) t
  unchanged e n mutates count =
      cut_off state stmt old s agrees now alters.plain none alters.makes_none s1 v room t rests uses x _ _ _ n e script_is (alters.makes _ _ _ _ _) mutates.err count mutates.gone
      (λ is. mutates.memory.did (ap (λ (z : OpErr). Err z) is)) (silent_pass e mutates.never)
      (λ tables reads. fault_made e (mutates.told (honest tables reads) (beside tables reads.held).table.held.slots (slots_before tables reads.held)).0)
      (λ good accepts. mutates.seals.seals good (accepts _ _))

  of_kept : (former : Former) → former ≡ kept → (result : Result T OpErr) → Mutates former old.room.pack flat left (asks former flat) answer after result before done
      → Mutates kept old.room.pack (flat_of table) left x answer after result before done
  of_kept former former_is result mutates =
      subst (λ (f : Flat). Mutates kept old.room.pack f left (asks kept f) answer after result before done) flat_is
      (subst (λ (k : Former). Mutates k old.room.pack flat left (asks k flat) answer after result before done) former_is mutates)

  -- what was answered is of the slots that the table in place had
  pub told_slots : (former : Former) → former ≡ kept → (y : T) → Mutates former old.room.pack flat left (asks former flat) answer after (Ok y) before done → (tables : Tables) → ReadsTrue state old s t tables
      → (stood : Beside old.public.pack name table tables (world_of state old s)) × (y ≡ answer stood.table.held.slots)
  told_slots former former_is y mutates tables reads =
      (beside tables reads.held, ((of_kept former former_is (Ok y) mutates).told (honest tables reads) (beside tables reads.held).table.held.slots (slots_before tables reads.held)).0)

  -- the table was changed
  pub mutated : (former : Former) → former ≡ kept → (y : T) (new : Engine R) (result : Result Outcome RunStop) → Mutates former old.room.pack flat left (asks former flat) answer after (Ok y) before done → old.ended ≡ false
      → result ≡ Ok (outcome y) → new ≡ engine_after old v room (slice_set old.public.tables i (record table { region = left.region })) Whole old.ended
      → ServesSilently state stmt owed result old s new t
  mutated former former_is y new result mutates lives answered is =
      let all = of_kept former former_is (Ok y) mutates in
      let region : left.region ≡ g = ap (λ (f : Flat). f.region) all.moves in
      serves_as state stmt old s t _ _ _ _ answered
      (is ∙ ap (λ (n : ℕ). engine_after old v room (slice_set old.public.tables i (record table { region = n })) Whole old.ended) region) (changed y all lives)

  -- it was not
  pub unmutated : (former : Former) → former ≡ kept → (e : OpErr) (n : ℕ) (new : Engine R) (result : Result Outcome RunStop) → Mutates former old.room.pack flat left (asks former flat) answer after (Err e) before done
      → n ≡ length t.asked - length s.asked → result ≡ answer_of e → new ≡ engine_after old v room old.public.tables (Cut n) (is_stop (answer_of e))
      → ServesSilently state stmt owed result old s new t
  unmutated former former_is e n new result mutates count answered is =
      serves_as state stmt old s t _ _ _ _ answered is
      (unchanged e n (of_kept former former_is (Err e) mutates) count)
