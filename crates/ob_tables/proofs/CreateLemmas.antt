-- CREATE TABLE, after its pass.
use Rattle.ob_tables.proofs.Words.{accepted_answer, Access, Agrees, All-head, All-tail, allowed, answer_of, ap, AreHeld, arith, behind_run, blocks_for, Bool, bytes_eq, bytes_eq-Decides, cases_eq, Column, Columns, columns_of, cond, count_by, count_of, Created, Cut, database, End, Engine, Err, false, followed, has_repeats, has_table, headings_of, Held, HoldsTable, inr, is_late, is_stop, IsAt, IsFlat, IsTable, IsTrue, length, length-map, limits_of, List, Lives, map, max, nat_lt, nat_tests, neither, None, not, Ok, one, OpErr, Option, others_of, Outcome, outcome_of, Public, refl, Refusal, refusal, refusal_now, refused_late, Result, RevState, RoomState, Round, RunStop, ServesSilently, settle, settled, Some, StoreState, subst, suc, sym, table_region, Tables, true, UsesRoom, Vault, Went, went_join, went_rests, Whole, whole_run, width, World, world_of, zero, ℕ, [], ◌&&◌, ◌*◌, ◌++◌, ◌-◌, ◌<◌, ◌∙◌, ◌∷◌, ◌≡◌, ◌≤◌}
use Rattle.std.proofs.lemmas.Bool.{le-leb, not-false}
use Rattle.std.proofs.lemmas.List.Elements.{All-map}
use Rattle.std.proofs.lemmas.List.Sums.{sum_by-cons}
use Rattle.std.specs.List.{All, list_all, list_any}
use Rattle.std.specs.Prelude.{MatchOption, sum_by}
use Rattle.ob_base.specs.declared.schema.Shape.{Shape}
use Rattle.ob_base.specs.declared.schema.Shape.TheVariants.{Flat as FlatShape}
use Rattle.ob_base.specs.declared.schema.Table.{Table}
use Rattle.ob_base.specs.declared.skeleton.NewColumn.{NewColumn}
use Rattle.ob_base.specs.declared.skeleton.NewKind.{NewKind}
use Rattle.ob_base.specs.declared.skeleton.NewKind.TheVariants.{Int as NewInt, Varchar as NewVarchar}
use Rattle.ob_base.specs.declared.skeleton.Skeleton.TheVariants.{Create}
use Rattle.ob_base.specs.Schemas.{kind_of, new_column}
use Rattle.ob_blocks.specs.Idle.{IsIdle}
use Rattle.ob_store.specs.Calls.{ChangesNothing}
use Rattle.ob_vault.specs.Places.{at}
use Rattle.ob_script.specs.Parts.{create_part}
use Rattle.ob_script.specs.Script.{created_script}
use Rattle.ob_flat.specs.Flats.{IsSized, Represents as FlatRepresents}
use Rattle.ob_flat.specs.declared.flat.Flat.{Flat}
use Rattle.ob_flat.specs.Creates.{Creates, table_of}
use Rattle.ob_flat.specs.Words.{SealsTable}
use Rattle.ob_row.specs.Slots.{empty_slots}
use Rattle.ob_sql.specs.declared.stmt.Stmt.TheVariants.{Create as CreateStmt}
use Rattle.ob_mean.specs.Refusals.{is_size}
use Rattle.ob_mean.specs.Step.{answered as answered_by}
use Rattle.ob_mean.proofs.FlatLemmas.{created_flat}
use Rattle.ob_mean.specs.Verdict.{ended as seen_to}
use Rattle.ob_mean.proofs.EarlyLemmas.{within, IsWithin}
use Rattle.ob_reopen.specs.Limits.{IsHeading, IsStored, is_column, is_kind}
use Rattle.ob_tables.specs.Telling.{Represents}
use Rattle.ob_tables.proofs.TableLemmas.{beside_below, tables_added, region_below}
use Rattle.ob_tables.proofs.HeldLemmas.{held_kept, held_added}
use Rattle.ob_tables.proofs.PlainLemmas.{none_drawn, settle_is}
use Rattle.ob_tables.proofs.FormerLemmas.{alone_behind}
use Rattle.ob_tables.proofs.SealLemmas.{keeps_pass}
use Rattle.ob_tables.proofs.SilentLemmas.{cut_off, finished, serves_as}
use Rattle.ob_tables.proofs.ToldLemmas.{early_held, fault_made, silent_fault}
use Rattle.ob_tables.proofs.RunLemmas.{IsAnswered, early_few, engine_after, leaves_none, none_by, ran_done}

-- ---- what is known of a CREATE that is not refused early
named_alike : (table : List ℕ) (columns : List NewColumn) → map (λ (c : Column). c.name) (columns_of table columns) ≡ map (λ (c : NewColumn). c.name) columns
named_alike table [] = refl
named_alike table (c ∷ cs) = ap (λ (names : List (List ℕ)). c.name ∷ names) (named_alike table cs)

names_table : (table : List ℕ) (columns : List NewColumn) → All (λ (c : Column). c.table ≡ table) (columns_of table columns)
names_table table columns = All-map (λ (c : Column). c.table ≡ table) (new_column table) columns (λ k d less. refl)

no_table : (name : List ℕ) (ts : List Table) (i : ℕ) (t : Table) → has_table name (headings_of ts) ≡ false → IsAt name i t ts → ⊥
no_table name [] zero t none is = absurd (cc is.get)
no_table name [] (suc i) t none is = absurd (cc is.get)
no_table name (x ∷ xs) zero t none is =
    let same : x ≡ t = cc is.get in
    let hit = (bytes_eq-Decides x.heading.name name).1 (ap (λ (u : Table). u.heading.name) same ∙ is.named) in
    absurd (cc (hit, (neither (bytes_eq x.heading.name name) _ none).0))
no_table name (x ∷ xs) (suc i) t none is = no_table name xs i t (neither (bytes_eq x.heading.name name) _ none).1 (record { get = is.get; named = is.named })

-- each column of a new table is within its limits
kind_within : (kind : NewKind) → is_size kind ≡ true → is_kind (kind_of kind) ≡ true
kind_within NewInt sized = refl
kind_within (NewVarchar n) sized = sized

column_within : (table : List ℕ) (c : NewColumn) → length c.name ≤ 32 → is_size c.kind ≡ true → is_column (new_column table c) ≡ true
column_within table c short sized = ap (λ (b : Bool). b && is_kind (kind_of c.kind)) (le-leb (length c.name) 32 short) ∙ kind_within c.kind sized

abbrev pub IsShort : NewColumn → Type 0
IsShort c = length c.name ≤ 32

columns_within : (table : List ℕ) (columns : List NewColumn) → All IsShort columns → list_any (λ (c : NewColumn). not (is_size c.kind)) columns ≡ false
    → list_all is_column (columns_of table columns) ≡ true
columns_within table [] short sizes = refl
columns_within table (c ∷ cs) short sizes =
    let both = neither (not (is_size c.kind)) (list_any (λ (d : NewColumn). not (is_size d.kind)) cs) sizes in
    ap (λ (b : Bool). b && list_all is_column (columns_of table cs)) (column_within table c (All-head IsShort c cs short) (not-false (is_size c.kind) both.0))
    ∙ columns_within table cs (All-tail IsShort c cs short) both.1

-- at most one of them is the primary key
counted_once : (n : ℕ) → cond (nat_lt 0 n) 1 0 ≤ n
counted_once n = grind (arith, nat_tests)

keys_few : (table : List ℕ) (columns : List NewColumn) → count_by (λ (c : Column). c.key) (columns_of table columns) ≤ sum_by (λ (c : NewColumn). c.keys) columns
keys_few table [] = omega (arith)
keys_few table (c ∷ cs) =
    let first = sum_by-cons (λ (d : Column). cond d.key 1 0) (new_column table c) (columns_of table cs) in
    let written = sum_by-cons (λ (d : NewColumn). d.keys) c cs in
    let rest = keys_few table cs in
    let one = counted_once c.keys in
    omega (arith, first, written, rest, one)

at_most_one : (n : ℕ) → nat_lt 1 n ≡ false → n ≤ 1
at_most_one n is = grind (arith, nat_tests)

module _ (p : Public) (m : ℕ) (table : List ℕ) (columns : List NewColumn) (capacity : ℕ) (shape : Shape) (now : refusal_now p m (CreateStmt table columns capacity shape) ≡ None) where
  pub new_stored : IsStored (record { name = table; schema = columns_of table columns; capacity = capacity; shape = shape })
  new_stored =
      let free = allowed (is_late m) (limits_of p) (headings_of p.tables) (CreateStmt table columns capacity shape) now in
      let size = within (limits_of p) (headings_of p.tables) table columns capacity shape free.limits in
      let same = length-map columns (new_column table) in
      record {
        some = omega (arith, size.some, same);
        few = omega (arith, size.few, same);
        wide = size.wide;
        least = size.least;
        most = size.most;
        names = ap (has_repeats bytes_eq) (named_alike table columns) ∙ (neither (has_table table (headings_of p.tables)) _ free.names).1;
        table = names_table table columns;
      }

  pub new_heading : length table ≤ 32 → All IsShort columns → IsHeading (record { name = table; schema = columns_of table columns; capacity = capacity; shape = shape })
  new_heading short names =
      let free = allowed (is_late m) (limits_of p) (headings_of p.tables) (CreateStmt table columns capacity shape) now in
      let size = within (limits_of p) (headings_of p.tables) table columns capacity shape free.limits in
      record {
        stored = new_stored;
        name = short;
        columns = columns_within table columns names size.sizes;
        keys = let few = keys_few table columns in let one = at_most_one (sum_by (λ (c : NewColumn). c.keys) columns) (neither (nat_lt 1 (sum_by (λ (c : NewColumn). c.keys) columns)) _ free.keys).0 in omega (arith, few, one);
      }

  pub new_name : (i : ℕ) (t : Table) → IsAt table i t p.tables → ⊥
  new_name i t is =
      let free = allowed (is_late m) (limits_of p) (headings_of p.tables) (CreateStmt table columns capacity shape) now in
      no_table table p.tables i t (neither (has_table table (headings_of p.tables)) _ free.names).0 is

  pub new_within : IsWithin (limits_of p) (headings_of p.tables) table columns capacity shape
  new_within = within (limits_of p) (headings_of p.tables) table columns capacity shape (allowed (is_late m) (limits_of p) (headings_of p.tables) (CreateStmt table columns capacity shape) now).limits

  pub new_place : length p.tables < 64
  new_place = let fewer = new_within.tables in let same = length-map p.tables (λ (t : Table). t.heading) in omega (arith, fewer, same)

  pub new_few : length columns ≤ 32
  new_few = let few = new_within.few in omega (arith, few)

  pub new_asked : (n : ℕ) → n ≡ m → n < 9799832789158199296
  new_asked n same = early_few m n (allowed (is_late m) (limits_of p) (headings_of p.tables) (CreateStmt table columns capacity shape) now).early same

  pub new_size : (schema : Columns) → schema ≡ columns_of table columns → IsSized schema capacity
  new_size schema is =
      let few = new_stored.few in
      let most = new_stored.most in
      subst (λ (cs : Columns). IsSized cs capacity) (sym is)
      (record { some = new_stored.some; few = omega (arith, few); wide = new_stored.wide; least = new_stored.least; most = omega (arith, most) })

  pub new_idle : (schema : Columns) (room : RoomState) → schema ≡ columns_of table columns → IsIdle 1024 room → IsIdle (width schema) room
  new_idle schema room is idle =
      let wide = new_stored.wide in
      let wider = idle.wide in
      subst (λ (cs : Columns). IsIdle (width cs) room) (sym is) (record { free = idle.free; shelf = idle.shelf; enough = idle.enough; wide = omega (arith, wide, wider) })

module _ {R : Type 0} (state : R → RevState) (old : Engine R) (s s1 : StoreState) (v : Vault R) (room : RoomState) (t : StoreState)
    (table : List ℕ) (columns : List NewColumn) (schema : Columns) (capacity : ℕ) (shape : Shape)
    (agrees : Agrees state old s) (rests : ChangesNothing s s1) (uses : UsesRoom old.room room) (schema_is : schema ≡ columns_of table columns)
    (now : refusal_now old.public (count_of old s) (CreateStmt table columns capacity shape) ≡ None) (flat_shape : shape ≡ FlatShape) where
  abbrev before : World
  before = at state old.vault s1

  abbrev done : World
  done = at state v t

  abbrev part : List Access
  part = create_part old.vault.next (blocks_for old.room.pack capacity) (old.room.pack * width schema)

  script_is : (end : End) → whole_run old.public (Create table columns capacity shape) (seen_to end) ≡ part
  script_is end =
      ap (λ (x : Shape). created_script old.public capacity (width (columns_of table columns)) (behind_run old.public) x) flat_shape
      ∙ alone_behind old.public (create_part old.public.next_region (blocks_for old.public.pack capacity) (old.public.pack * width (columns_of table columns)))
      ∙ (λ i. create_part (agrees.next i) (blocks_for (sym agrees.room.pack i) capacity) (sym agrees.room.pack i * width (sym schema_is i)))

  abbrev new_table : Table
  new_table = record { heading = record { name = table; schema = schema; capacity = capacity; shape = shape }; region = old.public.next_region }

  heading_is : length table ≤ 32 → All IsShort columns → IsHeading new_table.heading
  heading_is short names =
      subst (λ (cs : Columns). IsHeading (record { name = table; schema = cs; capacity = capacity; shape = shape })) (sym schema_is)
      (new_heading old.public (count_of old s) table columns capacity shape now short names)

  abbrev fresh : Flat
  fresh = table_of schema capacity old.vault.next

  no_refusal : (tables : Tables) → Represents state old s tables → refusal old.public (count_of old s) tables (CreateStmt table columns capacity shape) ≡ None
  no_refusal tables held =
      refused_late old.public (count_of old s) tables (CreateStmt table columns capacity shape) (early_held old.public (count_of old s) (CreateStmt table columns capacity shape) tables old.indexes.items (world_of state old s) None held.held now)

  made : length table ≤ 32 → All IsShort columns → Went part (one old.vault.next) before done → IsFlat old.room.pack fresh done
      → Lives old.vault.next (table_region Round old.room.pack schema capacity) done → (IsTrue s.tells → FlatRepresents old.room.pack fresh (empty_slots capacity) done)
      → SealsTable old.room.pack schema old.vault.next before done → old.ended ≡ false
      → ServesSilently state (CreateStmt table columns capacity shape) [] (Ok Created) old s (engine_after old v room (old.public.tables ++ new_table ∷ []) Whole old.ended) t
  made short names went flat round told seals lives =
      let stmt = CreateStmt table columns capacity shape in
      let all = went_join (one old.vault.next) _ _ _ [] part (went_rests _ s s1 rests (one old.vault.next) agrees.ready) went in
      let is_table : IsTable old.public.pack new_table done = record {
        heading = heading_is short names;
        least = let number = agrees.ready.tied.next in let same = agrees.next in omega (arith, number, same);
        live = record { shape = _; lives = record { live = ap (state v.revs).live agrees.next ∙ round.live } };
        written = λ is_flat. record {
          flat = subst (λ (g : ℕ). IsFlat old.public.pack (table_of schema capacity g) done) (sym agrees.next) (subst (λ (k : ℕ). IsFlat k fresh done) agrees.room.pack flat);
          round = record { live = ap (state v.revs).live agrees.next ∙ round.live ∙ (λ i. Some (table_region Round (agrees.room.pack i) schema capacity)) };
        };
      } in
      let answered : IsAnswered Created = record { whole = λ n. refl; own = refl } in
      let unnamed = new_name old.public (count_of old s) table columns capacity shape now in
      let ran = ran_done state (Create table columns capacity shape) old s v room t agrees uses (none_drawn old.public (Create table columns capacity shape) refl flat_shape) (one old.vault.next)
      (old.public.tables ++ new_table ∷ []) part Created lives answered all (script_is Whole)
      (ap (λ (c : Columns). old.public.tables ++ record { heading = record { name = table; schema = c; capacity = capacity; shape = shape }; region = old.public.next_region } ∷ []) schema_is)
      (tables_added old.public.pack old.vault.next old.public.tables (others_of old.closing old.indexes.items) old.indexes.items new_table _ _ all.lasts agrees.ready refl agrees.tables
      (new_place old.public (count_of old s) table columns capacity shape now) agrees.next flat_shape is_table
      (λ i u is same. unnamed i u (record { get = is; named = same })) (λ q. cases_eq q old.vault.next))
      (λ q left. leaves_none old.public (Create table columns capacity shape) Whole q _ (none_by old.public.save None (inr refl)) left)
      (λ saves q below. all.lasts.apart.rests q (λ same. omega (arith, below, same))) in
      finished state stmt old s agrees now refl refl flat_shape v room t (old.public.tables ++ new_table ∷ []) Created answered tt ran
      (keeps_pass state old s s1 rests agrees (engine_after old v room (old.public.tables ++ new_table ∷ []) Whole old.ended) t done refl (λ good accepts. seals.seals good (accepts _ _)))
      (λ tables d reads.
      let none = no_refusal tables reads.held in
      let slots = subst (λ (g : ℕ). FlatRepresents old.public.pack (table_of schema capacity g) (empty_slots capacity) done) (sym agrees.next)
      (subst (λ (k : ℕ). FlatRepresents k fresh (empty_slots capacity) done) agrees.room.pack (told reads.tells)) in
      let kept = held_kept (one old.vault.next) old.public.pack old.indexes.items old.public.tables tables _ _ all.lasts
      (λ i u here same. let less = region_below old.public.pack i old.public.tables u _ agrees.ready agrees.tables here in omega (arith, less, same))
      (λ k x get same.
      let less = beside_below old.public.pack old.public.tables (others_of old.closing old.indexes.items) x.stash _ agrees.ready agrees.tables (agrees.tables.stand k x get).beside in
      omega (arith, less, same)) reads.held.held in
      let held_now : Held = record { slots = empty_slots capacity; leaves = [] } in
      let added = held_added old.public.pack old.indexes.items old.public.tables tables new_table held_now done kept
      (subst (λ (x : Shape). HoldsTable x old.public.pack old.indexes.items new_table (record { heading = new_table.heading; held = held_now }) done) (sym flat_shape) slots) in
      let settles : settle d old.public (count_of old s) tables stmt ≡ tables ++ record { heading = new_table.heading; held = record { slots = empty_slots capacity; leaves = [] } } ∷ [] =
      settle_is old.public tables stmt refl d (count_of old s)
      ∙ ap (λ (o : Option Refusal). followed o (settled d old.public tables stmt) tables) none
      ∙ created_flat d old.public tables table columns capacity shape flat_shape
      ∙ (λ i. tables ++ record { heading = record { name = table; schema = sym schema_is i; capacity = capacity; shape = shape }; held = record { slots = empty_slots capacity; leaves = [] } } ∷ []) in (
        sym (ap (λ (o : Option Refusal). outcome_of stmt (answered_by o (accepted_answer (database tables) stmt))) none),
        subst (λ (ts : Tables). AreHeld old.public.pack old.indexes.items (old.public.tables ++ new_table ∷ []) ts done) (sym settles) added,
      ))

  -- the table was made
  pub created : length table ≤ 32 → All IsShort columns → (flat : Flat) (new : Engine R) (result : Result Outcome RunStop) → Creates Round old.room.pack fresh (Ok flat) before done → old.ended ≡ false
      → result ≡ Ok Created → new ≡ engine_after old v room (old.public.tables ++ new_table ∷ []) Whole old.ended → ServesSilently state (CreateStmt table columns capacity shape) [] result old s new t
  created short names flat new result creates lives answered is =
      serves_as state (CreateStmt table columns capacity shape) old s t _ _ _ _ answered is
      (made short names creates.ran.ok (subst (λ (f : Flat). IsFlat old.room.pack f done) creates.makes.value creates.makes.flat)
      creates.makes.lives (λ tells. subst (λ (f : Flat). FlatRepresents old.room.pack f (empty_slots capacity) done) creates.makes.value (creates.told (subst (λ (b : Bool). IsTrue b) (sym rests.tells) tells)))
      creates.makes.seals lives)

  -- it was not
  pub not_created : (e : OpErr) (n : ℕ) (new : Engine R) (result : Result Outcome RunStop) → Creates Round old.room.pack fresh (Err e) before done
      → n ≡ length t.asked - length s.asked → result ≡ answer_of e → new ≡ engine_after old v room old.public.tables (Cut n) (is_stop (answer_of e))
      → ServesSilently state (CreateStmt table columns capacity shape) [] result old s new t
  not_created e n new result creates count answered is =
      serves_as state (CreateStmt table columns capacity shape) old s t _ _ _ _ answered is
      (cut_off state (CreateStmt table columns capacity shape) old s agrees now refl refl flat_shape s1 v room t rests uses part _ _ _ n e script_is refl creates.ran.err count creates.makes.gone
      (λ is. creates.memory.did (ap (λ (z : OpErr). Err z) is)) (silent_fault e creates.never) (λ tables reads. fault_made e creates.never)
      (λ good accepts. creates.makes.seals.seals good (accepts _ _)))

snoc_front : {A : Type 0} (xs ys : List A) (x y : A) → xs ++ x ∷ [] ≡ ys ++ y ∷ [] → xs ≡ ys
snoc_front [] [] x y e = refl
snoc_front [] (z ∷ []) x y e = absurd (cc e)
snoc_front [] (z ∷ w ∷ ws) x y e = absurd (cc e)
snoc_front (z ∷ []) [] x y e = absurd (cc e)
snoc_front (z ∷ w ∷ ws) [] x y e = absurd (cc e)
snoc_front (z ∷ xs) (w ∷ ys) x y e =
    let head : z ≡ w = cc e in
    let rest : xs ++ x ∷ [] ≡ ys ++ y ∷ [] = cc e in
    let same = snoc_front xs ys x y rest in
    cc (head, same)

-- the tables after the last was taken away
pub popped : (o : Option Table) (before after ts : List Table) (t : Table) → MatchOption o ((before ≡ []) × (after ≡ [])) (λ x. before ≡ after ++ x ∷ []) → before ≡ ts ++ t ∷ [] → after ≡ ts
popped None before after [] t pop is = pop.1
popped None before after (x ∷ ts) t pop is = absurd (cc (pop.0, is))
popped (Some x) before after ts t pop is = snoc_front after ts x t (sym pop ∙ is)
