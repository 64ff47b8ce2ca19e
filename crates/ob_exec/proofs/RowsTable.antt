-- A SELECT of the rows of a table.
use Rattle.ob_exec.proofs.Words.{Access, Agrees, allowed, answer_events, ap, append-nil, AreHeld, arith, at, Bool, ChangesNothing, Columns, Condition, count_end, count_of, counted_after, div_ceil, EndsRows, Engine, Err, Event, false, flat_of, from, HaltsRows, header, headings_of, HoldsRows, HoldsSeen, Index, inl, is_access, is_late, is_of_access, IsFlat, IsSized, IsTrue, later_rests, length, limits_of, List, MaySelect, nat_tests, None, Ok, OpErr, PassCut, printed_places, Public, ReadsIn, refl, refusal_now, region_below, Result, RevState, rows_script, Seals, seals_join, seals_rests, Seen, Selected, Selection, selection, selection_script, selection_seen, SelectsFrom, Shown, slice_get, Slots, slots_of, Some, SourceToEnd, SourceToHalt, stated, StoreState, subst, sym, Tables, Vault, walk_end, Went, went_rests, where_at, World, world_of, ℕ, [], ◌++◌, ◌+◌, ◌-◌, ◌<◌, ◌∙◌, ◌≡◌, ◌≤◌}
use Rattle.ob_base.specs.declared.schema.Table.{Table}
use Rattle.ob_base.specs.declared.skeleton.Source.TheVariants.{Table as OneTable}
use Rattle.ob_base.specs.Events.{IsEmitted}
use Rattle.ob_vault.proofs.Runs.{went_join}
use Rattle.ob_vault.proofs.WordLemmas.{ready_rests}
use Rattle.ob_flat.specs.declared.flat.Flat.{Flat}
use Rattle.ob_flat.specs.Flats.{Represents}
use Rattle.ob_emit.specs.Emitting.{AreColumns}
use Rattle.ob_select.proofs.UntilLemmas.{until_from}
use Rattle.ob_flat.proofs.Resting.{represents_rests}
use Rattle.ob_flat.proofs.Runs.{pass_after}
use Rattle.ob_mean.specs.Refusals.{listed}
use Rattle.ob_verdict.proofs.AcceptedProof.{places_fit}
use Rattle.ob_sql.specs.declared.stmt.SelectRows.{SelectRows}
use Rattle.ob_sql.specs.declared.stmt.Stmt.TheVariants.{SelectRows as RowsStmt}
use Rattle.ob_select.specs.declared.selecting.Selected.TheVariants.{Rows, Refused}
use Rattle.ob_select.specs.Selecting.{SelectsToEnd, SelectsToHalt, EmitsSelected, padded_after, walked_after}
use Rattle.ob_exec.specs.Sources.{EmitsRows, ReadsMeant, SelectsRows, rows_skeleton}
use Rattle.ob_exec.proofs.RowsOfTable.{capacity_of, count_of_table, rows_of_held, schema_of, script_of_table, shape_of, slots_held, walk_of_table}
use Rattle.ob_exec.proofs.RowsStated.{ends_stated, may_stated}
use Rattle.ob_tables.proofs.TableLemmas.{flat_kept}
use Rattle.ob_tables.proofs.SourceColumns.{listed_few}

pub not_late : (m : ℕ) → is_late m ≡ false → m < 9223372036854775808
not_late m early = grind (arith, nat_tests)

-- ---- of one source for another
pub emitted_from : {E A B : Type 0} {grew : E → E → List Event → Type 0} {head : List Event} {from to : ℕ} {a b : E} (sa : A → List (List Shown)) (sb : B → List (List Shown)) (f : B → A) → ((x : B) → sa (f x) ≡ sb x)
    → IsEmitted grew head sa from to a b → IsEmitted grew head sb from to a b
emitted_from sa sb f same is = record { rows = is.rows; count = is.count; leads = is.leads; told = λ x. is.told (f x) ∙ same x }

pub stated_is : (p : Public) (select : SelectRows) (flat : Flat) (condition : Condition) (cols : List ℕ) (ending : ℕ) → flat.schema ≡ (selection p select).flat.schema → flat.capacity ≡ (selection p select).flat.capacity
    → condition ≡ (selection p select).condition → cols ≡ (selection p select).cols
    → ◌≡◌ {A = Selection} (record { public = p; flat = flat; condition = condition; cols = cols; ending = ending }) (stated p select flat.region ending)
stated_is p select flat condition cols ending schema capacity condition_is cols_is = λ i. record {
  public = p;
  flat = record { schema = schema i; capacity = capacity i; region = flat.region };
  condition = condition_is i;
  cols = cols_is i;
  ending = ending;
}

pub an_error : {x y : OpErr} → x ≡ y → ◌≡◌ {A = Result Selected OpErr} (Err x) (Err y)
an_error is = λ i. Err (is i)

pub some_of : (n q : ℕ) → 1 ≤ q → 1 ≤ n → 1 ≤ div_ceil n q
some_of n q some least = grind arith

module _ {R : Type 0} (state : R → RevState) (old : Engine R) (s s1 : StoreState) (i : ℕ) (t : Table) (name : List ℕ) (select : SelectRows)
    (agrees : Agrees state old s) (get : slice_get old.public.tables i ≡ Some t) (named : t.heading.name ≡ name) (of_table : select.source ≡ OneTable name) (unkeyed : is_access old.public (rows_skeleton select) ≡ false) where
  -- what is known of its table by what is public
  schema_is : t.heading.schema ≡ (selection old.public select).flat.schema
  schema_is = schema_of old.public i t name select agrees.tables.names get named of_table unkeyed

  capacity_is : t.heading.capacity ≡ (selection old.public select).flat.capacity
  capacity_is = capacity_of old.public i t name select agrees.tables.names get named of_table unkeyed

  abbrev pub q : Selection
  q = stated old.public select t.region 0

  script_is : (now : Seen) → selection_script q now old.vault.next ≡ rows_script old.public select now
  script_is now =
      ap (λ (n : ℕ). selection_script q now n) (sym agrees.next)
      ∙ script_of_table old.public i t name select agrees.tables.names get named of_table unkeyed now

  count_is : count_end old.public (rows_skeleton select) ≡ counted_after q
  count_is = count_of_table old.public i t name select agrees.tables.names get named of_table unkeyed

  walk_is : (now : Seen) → walk_end old.public (rows_skeleton select) now ≡ walked_after q now
  walk_is now = walk_of_table old.public i t name select agrees.tables.names get named of_table unkeyed agrees.settings.pack_least agrees.settings.blocks now

  pub counts_some : 1 ≤ count_end old.public (rows_skeleton select)
  counts_some =
      let least = (agrees.tables.each i t get).heading.stored.least in
      let blocks : 1 ≤ div_ceil (selection old.public select).flat.capacity old.public.pack =
      subst (λ (n : ℕ). 1 ≤ div_ceil n old.public.pack) capacity_is (some_of t.heading.capacity old.public.pack agrees.settings.pack_least least) in
      subst (λ (n : ℕ). 1 ≤ n) (sym count_is) blocks

  module _ (v : Vault R) (u : StoreState) (rests : ChangesNothing s s1) where
    abbrev before : World
    before = world_of state old s

    abbrev ready : World
    ready = at state old.vault s1

    abbrev after : World
    after = at state v u

    holds_slots : (indexes : List Index) (tables : Tables) → AreHeld old.public.pack indexes old.public.tables tables before → Represents old.public.pack q.flat (slots_of old.public select tables) ready
    holds_slots indexes tables held =
        let flat_is : flat_of t ≡ q.flat = λ j. record { schema = schema_is j; capacity = capacity_is j; region = t.region } in
        subst (λ (flat : Flat). Represents old.public.pack flat (slots_of old.public select tables) ready) flat_is
        (represents_rests _ s s1 rests old.public.pack (flat_of t) (slots_of old.public select tables)
        (slots_held old.public i t name select agrees.tables.names get named of_table unkeyed indexes tables before held))

    abbrev to_end : SourceToEnd old.public before after → SelectsToEnd q ready after
    to_end x = record { tells = subst (λ (b : Bool). IsTrue b) (sym rests.tells) x.tells; slots = slots_of old.public select x.tables; is = holds_slots x.indexes x.tables x.held; nolie = x.nolie }

    abbrev to_halt : SourceToHalt old.public before after → SelectsToHalt q ready after
    to_halt x = record {
      tells = subst (λ (b : Bool). IsTrue b) (sym rests.tells) x.tells;
      slots = slots_of old.public select x.tables;
      is = holds_slots x.indexes x.tables x.held;
      nolie = rests.lie ∙ x.nolie;
      unfit = x.unfit;
    }

    seals_both : (good : ℕ → List ℕ → Bool) → Seals good ready after → Seals good before after
    seals_both good seals = seals_join good before ready after (later_rests s s1 rests) (seals_rests _ s s1 rests good) seals

    length_is : length u.asked - length s1.asked ≡ length u.asked - length s.asked
    length_is = λ j. length u.asked - length (rests.asked j)

    module _ {E : Type 0} (grew cut : E → E → List Event → Type 0) (faults : E → ℕ) (now : Seen) (out_old out_new : E) where
      table_emits : (answer : Selected) → EmitsSelected grew q answer ready after out_old out_new → EmitsRows grew old.public select answer before after out_old out_new
      table_emits (Rows k) is = emitted_from _ _ to_end (λ x. refl) is
      table_emits (Refused r) is = is

      table_begun : {result : Result Selected OpErr} → SelectsFrom grew cut faults q result now ready after out_old out_new → ReadsMeant old.public select before after
      table_begun is x lie told =
          let slots = slots_of old.public select x.tables in
          subst (ReadsIn lie) (λ j. rests.asked j ++ script_is (selection_seen q slots) j)
          (is.begun (record { tells = subst (λ (b : Bool). IsTrue b) (sym rests.tells) x.tells; slots = slots; is = holds_slots x.indexes x.tables x.held; nolie = rests.lie ∙ x.nolie }) lie told)

      table_ends : (answer : Selected) → SelectsFrom grew cut faults q (Ok answer) now ready after out_old out_new → EndsRows grew old.public select answer now before after out_old out_new
      table_ends answer is = record {
        ran = subst (λ (x : List Access). Went x (from old.vault.next) before after) (script_is now)
            (went_join (from old.vault.next) before ready after [] (selection_script q now old.vault.next) (went_rests _ s s1 rests (from old.vault.next) agrees.ready) is.ran.ok);
        leaves = record { gone = is.gone };
        seals = λ good accepts. seals_both good (is.seals good accepts);
        holds = may_stated old.public select t.region 0 now.k now.plan now.then is.holds;
        leaf = is.leaf;
        ended = ends_stated old.public select t.region 0 answer now is.ended;
        emitted = table_emits answer is.emitted;
        told = λ x. is.told (to_end x);
        begun = table_begun is;
      }

      table_holds : (failed : Bool) (slots : Slots) → HoldsSeen q slots failed (length u.asked - length s1.asked) now → HoldsRows old.public select slots failed (length u.asked - length s.asked) now
      table_holds failed slots is =
          rows_of_held old.public i t name select agrees.tables.names get named of_table unkeyed agrees.settings.pack_least agrees.settings.blocks slots failed (length u.asked - length s.asked) now
          (subst (λ (n : ℕ). HoldsSeen q slots failed n now) length_is is)

      table_halts : (e : OpErr) → SelectsFrom grew cut faults q (Err e) now ready after out_old out_new → HaltsRows grew cut old.public select e now before after out_old out_new
      table_halts e is = record {
        ran = subst (λ (x : List Access). PassCut e x (from old.vault.next) before after) (script_is now)
            (pass_after (from old.vault.next) before ready after e [] (selection_script q now old.vault.next) (went_rests _ s s1 rests (from old.vault.next) agrees.ready) is.ran.err);
        leaves = record { gone = is.gone };
        seals = λ good accepts. seals_both good (is.seals good accepts);
        holds = may_stated old.public select t.region 0 now.k now.plan now.then is.holds;
        leaf = is.leaf;
        reached = record {
          count = λ some. let within = is.reached.count some in let same = count_is in let long = length_is in omega (arith, within, same, long);
          walk = λ some. let within = is.reached.walk some in let same = walk_is now in let long = length_is in omega (arith, within, same, long);
        };
        memory = λ wanted.
            let lacks = is.memory (an_error wanted) in
            record { done = lacks.done; rest = lacks.rest; split = lacks.split ∙ script_is now; asked = lacks.asked ∙ ap (λ (x : List Access). x ++ lacks.done) rests.asked; place = lacks.place };
        halted = until_from grew cut (header q.flat.schema q.cols) e (λ x. answer_events q x.slots) (λ x. answer_events q (slots_of old.public select x.tables)) out_old out_new to_halt (λ x. inl refl) is.halted;
        honest = λ x. is.told (to_end x);
        held = λ x. table_holds (is_of_access e) (slots_of old.public select x.tables) (is.held (to_halt x));
        begun = table_begun is;
      }

      -- it is a SELECT of the rows of a source
      pub table_selects : (result : Result Selected OpErr) → SelectsFrom grew cut faults q result now ready after out_old out_new
          → SelectsRows grew cut faults old.public select result now before after out_old out_new
      table_selects (Ok answer) is = record { ended = table_ends answer is; halted = tt; sink = is.sink }
      table_selects (Err e) is = record { ended = tt; halted = table_halts e is; sink = is.sink }

  -- ---- what a selection of the table asks
  pub table_query : (flat : Flat) (condition : Condition) (cols : List ℕ) (columns : Columns) → flat ≡ flat_of t → columns ≡ flat.schema → condition ≡ where_at select.cond (columns ++ [])
      → cols ≡ printed_places select (columns ++ []) → ◌≡◌ {A = Selection} (record { public = old.public; flat = flat; condition = condition; cols = cols; ending = 0 }) q
  table_query flat condition cols columns flat_is columns_are condition_is cols_are =
      let schema = ap (λ (f : Flat). f.schema) flat_is ∙ schema_is in
      let all = append-nil columns ∙ columns_are ∙ schema in
      stated_is old.public select flat condition cols 0 schema (ap (λ (f : Flat). f.capacity) flat_is ∙ capacity_is)
      (condition_is ∙ ap (where_at select.cond) all) (cols_are ∙ ap (printed_places select) all)
      ∙ ap (λ (f : Flat). stated old.public select f.region 0) flat_is

  module _ (free : refusal_now old.public (count_of old s) (RowsStmt select) ≡ None) where
    pub few_listed : length (listed select) ≤ 32
    few_listed = (places_fit (is_late (count_of old s)) (limits_of old.public) (headings_of old.public.tables) select free).few

    table_columns : AreColumns q.flat.schema q.cols
    table_columns =
        let stored = (agrees.tables.each i t get).heading.stored in
        let few = stored.few in
        let wide : length (selection old.public select).flat.schema ≤ 32 = subst (λ (cs : Columns). length cs ≤ 32) schema_is (omega (arith, few)) in
        record {
          few = listed_few select.list q.flat.schema few_listed wide;
          within = (places_fit (is_late (count_of old s)) (limits_of old.public) (headings_of old.public.tables) select free).printed;
        }

    table_size : IsSized q.flat.schema q.flat.capacity
    table_size =
        let stored = (agrees.tables.each i t get).heading.stored in
        let few = stored.few in
        let most = stored.most in
        subst (λ (cs : Columns). IsSized cs q.flat.capacity) schema_is
        (subst (λ (n : ℕ). IsSized t.heading.schema n) capacity_is
        (record { some = stored.some; few = omega (arith, few); wide = stored.wide; least = stored.least; most = omega (arith, most) }))

    early_asked : count_of old s < 9223372036854775808
    early_asked = not_late (count_of old s) (allowed (is_late (count_of old s)) (limits_of old.public) (headings_of old.public.tables) (RowsStmt select) free).early

    pub table_may : (rests : ChangesNothing s s1) (blocks padded : ℕ) → blocks ≡ div_ceil t.heading.capacity old.public.pack
        → ((x : Selection) → x.public ≡ old.public → x.flat.capacity ≡ t.heading.capacity → padded_after x.public.pad x ≡ padded) → blocks + padded ≤ s1.spare
        → MaySelect q old.room (at state old.vault s1)
    table_may rests blocks padded blocks_are of_size spare =
        let padded_is = of_size q refl (sym capacity_is) in
        let same = ap length rests.asked in
        let below = early_asked in
        let enough : div_ceil (selection old.public select).flat.capacity old.public.pack + padded ≤ s1.spare =
        subst (λ (n : ℕ). div_ceil n old.public.pack + padded ≤ s1.spare) capacity_is (omega (arith, blocks_are, spare)) in
        let flat_is : flat_of t ≡ q.flat = λ j. record { schema = schema_is j; capacity = capacity_is j; region = t.region } in
        record {
          settings = agrees.settings;
          free = agrees.room;
          ready = ready_rests _ s s1 rests agrees.ready;
          spare = omega (arith, enough, padded_is);
          short = omega arith;
          few = omega (arith, same, below);
          flat = subst (λ (f : Flat). IsFlat old.public.pack f (at state old.vault s1)) flat_is
              (flat_kept (from old.vault.next) old.public.pack (flat_of t) (world_of state old s) (at state old.vault s1) (went_rests _ s s1 rests (from old.vault.next) agrees.ready).lasts
              (λ above. let below = region_below old.public.pack i old.public.tables t _ agrees.ready agrees.tables get in omega (arith, below, above))
              ((agrees.tables.each i t get).written (shape_of old.public i t name select agrees.tables.names get named of_table unkeyed)).flat);
          size = table_size;
          columns = table_columns;
        }
