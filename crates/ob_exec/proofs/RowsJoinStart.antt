-- A SELECT of the rows of a join, until the region of its rows is made.
use Rattle.ob_exec.proofs.Words.{Access, allowed, ap, arith, at, blocks_few, blocks_for, Bool, buffered_blocks, cases_eq, count_of, counted_after, discard_at, div_ceil, Engine, Err, Event, from, headings_of, held_at, inl, inr, is_late, IsFlat, IsSized, IsTrue, later_rests, LeavesNone, left_place, length, length-append, limits_of, List, MaySelect, None, Ok, OpErr, PassCut, refl, rests_refl, RevState, RoomState, seals_join, seals_rests, SealsRows, Seen, Selected, Selection, selection_script, SinkCause, some_buffered, SourceToEnd, StoreState, subst, sym, went_rests, Whole, width, World, world_of, ℕ, [], ◌*◌, ◌++◌, ◌+◌, ◌∙◌, ◌∷◌, ◌≡◌, ◌≤◌, ◌⊎◌}
use Rattle.ob_base.specs.declared.access.Access.TheVariants.{Make}
use Rattle.ob_base.specs.Joins.{joined_blocks, joined_slots}
use Rattle.ob_script.specs.Parts.{join_part}
use Rattle.ob_script.proofs.Lengths.{length-pairs}
use Rattle.ob_store.specs.Runs.{Did}
use Rattle.ob_vault.specs.State.{earlier}
use Rattle.ob_vault.specs.Calls.{one}
use Rattle.ob_flat.specs.declared.fault.OpErr.TheVariants as OpErrs
use Rattle.ob_flat.specs.declared.flat.Flat.{Flat}
use Rattle.ob_flat.specs.Flats.{Accepts}
use Rattle.ob_flat.proofs.Runs.{pass_after, pass_wider}
use Rattle.ob_emit.specs.Emitting.{AreColumns}
use Rattle.ob_join.specs.Join.{blocks, fill_script}
use Rattle.ob_join.proofs.Lengths.{product_least}
use Rattle.ob_join.proofs.Results.{whole_product}
use Rattle.ob_names.specs.Names.{right_place}
use Rattle.ob_mean.specs.Verdict.{ended as seen_to}
use Rattle.ob_sql.specs.declared.stmt.SelectRows.{SelectRows}
use Rattle.ob_sql.specs.declared.stmt.Stmt.TheVariants.{SelectRows as RowsStmt}
use Rattle.ob_verdict.proofs.AcceptedProof.{places_fit}
use Rattle.ob_select.specs.Selecting.{padded_after}
use Rattle.ob_exec.specs.Sources.{SelectsRows}
use Rattle.ob_exec.proofs.RowsBehind.{ending_for}
use Rattle.ob_exec.proofs.RowsJoin.{IsPaired, JoinOf, asked_for, both_slots, held_left, held_right, join_asks, join_count, join_least, join_may, joins, pass, q, slots_few, table_is, flat_a, flat_b, join_plain}
use Rattle.ob_exec.proofs.RowsNothing.{leaves_ready}
use Rattle.ob_exec.proofs.RowsPairs.{pairs_halt}
use Rattle.ob_exec.proofs.RowsTable.{not_late}
use Rattle.ob_tables.proofs.SourceColumns.{listed_few}
use Rattle.ob_select.proofs.RoomLemmas.{free_after}

-- what is left of the room of a join once it was made
still_spare : (lefts pairs padded n spare now x : ℕ) → n ≡ lefts + 3 * pairs + 2 → n + padded ≤ spare → spare ≤ now + x → x ≡ 1 + (2 * pairs + lefts) → pairs + padded + 1 ≤ now
still_spare lefts pairs padded n spare now x is within left long = omega arith

twice_each : (chunks rights : ℕ) → chunks * (2 * rights) ≡ 2 * (chunks * rights)
twice_each chunks rights = grind arith

-- a join never fails for its emitter
no_sink : (e : OpErr) (n : ℕ) → (e ≡ OpErrs.Sink → ⊥) → SinkCause {T = Selected} (Err e) n n
no_sink OpErrs.Sink n never = absurd (never refl)
no_sink other n never = refl

module _ {R : Type 0} {state : R → RevState} {old : Engine R} {s : StoreState} {select : SelectRows} (y : JoinOf state old s select) where
  -- ---- what a selection of the joined rows asks
  join_size : IsSized (q y).flat.schema (q y).flat.capacity
  join_size =
      let left_at = left_place (length y.left.schema) (y.left.schema ++ y.right.schema) y.on y.equals in
      let right_at = right_place (length y.left.schema) (y.left.schema ++ y.right.schema) y.on y.equals in
      subst (λ (f : Flat). IsSized f.schema f.capacity) (table_is y left_at right_at) (join_may y s left_at right_at (rests_refl s) refl refl).sized

  join_columns : AreColumns (q y).flat.schema (q y).cols
  join_columns =
      let fit = places_fit (is_late (count_of old s)) (limits_of old.public) (headings_of old.public.tables) select y.free in
      record { few = listed_few select.list (q y).flat.schema fit.few join_size.few; within = fit.printed }

  script_long : (lcol rcol : ℕ) → length (joins y lcol rcol) ≡ 1 + (2 * joined_blocks old.public.pack old.public.buffer y.left.capacity y.right.capacity + blocks_for old.public.pack y.left.capacity)
  script_long lcol rcol =
      let lefts = blocks_for old.public.pack y.left.capacity in
      let rights = blocks_for old.public.pack y.right.capacity in
      let kept = buffered_blocks old.public.pack old.public.buffer in
      let enough = some_buffered old.public.pack old.public.buffer y.agrees.settings.pack_least y.agrees.settings.blocks in
      let is : length (joins y lcol rcol) ≡ length (join_part y.left.region y.right.region old.vault.next lefts rights kept (old.public.pack * width (y.left.schema ++ y.right.schema))) =
      λ k. length (join_part y.left.region y.right.region old.vault.next (blocks_for (y.agrees.room.pack k) y.left.capacity) (blocks_for (y.agrees.room.pack k) y.right.capacity)
      (buffered_blocks (y.agrees.room.pack k) (y.agrees.room.rows k)) (y.agrees.room.pack k * width (y.left.schema ++ y.right.schema))) in
      let long = length-pairs y.left.region y.right.region old.vault.next lefts rights kept enough in
      let twice = twice_each (div_ceil lefts kept) rights in
      is ∙ omega (arith, long, twice)

  pub join_selects : {s1 : StoreState} {lcol rcol : ℕ} {joined : Flat} {after : World} (room : RoomState) (high n padded : ℕ) → IsPaired y lcol rcol s1 (Ok joined) after → room ≡ record old.room { high = high } → n ≡ asked_for y
      → ((x : Selection) → x.public ≡ old.public → x.flat.capacity ≡ joined_slots old.public.pack old.public.buffer y.left.capacity y.right.capacity → padded_after x.public.pad x ≡ padded)
      → n + padded ≤ s1.spare → MaySelect (q y) room after
  join_selects {s1} {lcol} {rcol} {joined} {after} room high n padded z room_is is of_size spare =
      let padded_is = of_size (q y) refl (sym (both_slots y)) in
      let idle = y.agrees.room.idle in
      let went = z.paired.ran.ok in
      let long = script_long lcol rcol in
      let lefts = blocks_for old.public.pack y.left.capacity in
      let pairs = joined_blocks old.public.pack old.public.buffer y.left.capacity y.right.capacity in
      let counted : counted_after (q y) ≡ pairs = ap (blocks_for old.public.pack) (sym (both_slots y)) ∙ whole_product pairs old.public.pack y.agrees.settings.pack_least in
      let enough = still_spare lefts pairs padded n s1.spare after.store.spare (length (joins y lcol rcol)) is spare went.spare long in
      let asked = ap length went.did.asked in
      let begun = ap earlier went.lasts.start in
      let sum = length-append s1.asked (joins y lcol rcol) in
      let same = ap length z.rests.asked in
      let early = not_late (count_of old s) (allowed (is_late (count_of old s)) (limits_of old.public) (headings_of old.public.tables) (RowsStmt select) y.free).early in
      let most = slots_few y in
      let within = product_least pairs old.public.pack y.agrees.settings.pack_least in
      let few = blocks_few old.public.pack y.left.capacity y.agrees.settings.pack_least in
      let small = (y.agrees.tables.each y.i y.one.table y.one.here.get).heading.stored.most in
      let left_is = ap (λ (f : Flat). f.capacity) y.one.is in
      record {
        settings = y.agrees.settings;
        free = free_after old.public old.room room high y.agrees.room room_is;
        ready = went.lasts.ready;
        spare = omega (arith, counted, padded_is, enough);
        short = omega arith;
        few = omega (arith, asked, sum, same, begun, early, long, most, within, few, small, left_is);
        flat = subst (λ (k : ℕ). IsFlat k (q y).flat after) y.agrees.room.pack (subst (λ (f : Flat). IsFlat old.room.pack f after) (z.paired.makes.value ∙ table_is y lcol rcol) z.paired.makes.flat);
        size = join_size;
        columns = join_columns;
      }

  -- ---- where the join gave up
  module _ {s1 : StoreState} {lcol rcol : ℕ} {e : OpErr} {after : World} (z : IsPaired y lcol rcol s1 (Err e) after) where
    abbrev before : World
    before = world_of state old s

    abbrev ready : World
    ready = at state old.vault s1

    cut_all : PassCut e (joins y lcol rcol) (from old.vault.next) before after
    cut_all =
        pass_after (from old.vault.next) before ready after e [] (joins y lcol rcol) (went_rests _ s s1 z.rests (from old.vault.next) y.agrees.ready)
        (pass_wider (one old.vault.next) ready after (from old.vault.next) (λ r here. omega (arith, here)) e (joins y lcol rcol) z.paired.ran.err)

    gone_by : (r : ℕ) → old.vault.next ≤ r → (r ≡ old.vault.next) ⊎ (r ≡ old.vault.next → ⊥) → after.vault.revs.live r ≡ None
    gone_by r above (inl here) = ap after.vault.revs.live here ∙ z.paired.makes.gone
    gone_by r above (inr off) = z.paired.ran.err.lasts.apart.live r off ∙ (leaves_ready _ s s1 y.agrees.ready).gone r above

    none_left : LeavesNone before after
    none_left = record { gone = λ r above. gone_by r above (cases_eq r old.vault.next) }

    sealed_rows : SealsRows old.public.pack before after
    sealed_rows = λ good accepts.
        seals_join good before ready after (later_rests s s1 z.rests) (seals_rests _ s s1 z.rests good)
        (z.paired.makes.seals.seals good (subst (λ (n : ℕ). Accepts good n (y.left.schema ++ y.right.schema) old.vault.next) (sym y.agrees.room.pack) (accepts (y.left.schema ++ y.right.schema) old.vault.next)))

    no_emitter : e ≡ OpErrs.Sink → ⊥
    no_emitter sink = elim z.paired.never [
      | inl failed ↦ absurd (cc (failed, sink))
      | inr other ↦ elim other [
        | inl wanted ↦ absurd (cc (wanted, sink))
        | inr changed ↦ elim changed [ inl left ↦ let is = left.is in absurd (cc (is, sink)) | inr right ↦ let is = right.is in absurd (cc (is, sink)) ]
      ]
    ]

    abbrev made : Access
    made = Make old.vault.next (blocks (pass y lcol rcol)) (old.room.pack * width (y.left.schema ++ y.right.schema) + 32)

    lacked : e ≡ OpErrs.NoMemory → Did (made ∷ []) before.store after.store
    lacked wanted =
        let did = z.paired.memory.did (λ k. Err (wanted k)) in
        record { asked = did.asked ∙ ap (λ (x : List Access). x ++ made ∷ []) z.rests.asked; faults = did.faults ∙ z.rests.faults }

    told_honest : SourceToEnd old.public before after → (e ≡ OpErrs.Failed) ⊎ (e ≡ OpErrs.NoMemory)
    told_honest x =
        let left = held_at old.public.pack x.indexes y.a old.public.tables x.tables y.i y.one.table before y.agrees.tables.names x.held y.one.here.get y.one.here.named (flat_a y) in
        let right = held_at old.public.pack x.indexes y.b old.public.tables x.tables y.j y.two.table before y.agrees.tables.names x.held y.two.here.get y.two.here.named (flat_b y) in
        z.told.told (record { tells = subst (λ (b : Bool). IsTrue b) (sym z.rests.tells) x.tells; nolie = x.nolie }) left.table.held.slots right.table.held.slots
        (held_left y s1 left.table.held.slots z.rests left.represents) (held_right y s1 right.table.held.slots z.rests right.represents)

    pub join_stops : {E : Type 0} (grew cut : E → E → List Event → Type 0) (faults : E → ℕ) (now : Seen) (out : E) → now ≡ seen_to Whole → SelectsRows grew cut faults old.public select (Err e) now before after out out
    join_stops grew cut faults now out fresh =
        let counts = join_count y lcol rcol in
        let least = join_least y in
        record {
          ended = tt;
          halted = pairs_halt grew cut old.public select now before after out (joins y lcol rcol) (selection_script (q y) now (old.vault.next + 1) ++ ending_for old.public.pad now.k (discard_at old.vault.next)) made
              (fill_script (pass y lcol rcol) old.vault.next) e (join_asks y lcol rcol now) (λ x. (_, join_asks y lcol rcol x)) refl refl cut_all none_left sealed_rows fresh (omega (arith, counts, least)) lacked no_emitter told_honest (join_plain y);
          sink = no_sink e (faults out) no_emitter;
        }
