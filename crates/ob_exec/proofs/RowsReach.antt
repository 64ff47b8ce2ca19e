-- A SELECT of rows whose rows were emitted, and that was stopped at their number.
use Rattle.ob_exec.proofs.Words.{Access, answer_events, ap, append-nil, append_assoc, arith, Bool, buffered_blocks, Untampered, closing, count_end, count_part, discard_at, End, EndsRows, Event, extent_of, false, header, held_if, HoldsRows, inl, inr, is_access, is_of_access, Leads, length, length-append, List, MayHold, nat_le, nat_tests, None, OpErr, Option, option_map_or, Plan, Public, refl, Refusal, row_events, rows_script, Seen, Selected, Selection, selection, selection_answer, slots_of, Some, Source, SourceToEnd, SourceToHalt, Stored, stored_at, subst, sym, true, unfit_none, walk_end, Whole, World, ℕ, [], ◌++◌, ◌+◌, ◌-◌, ◌∙◌, ◌≡◌, ◌≤◌, ◌⊎◌}
use Rattle.ob_base.specs.declared.schema.Shape.TheVariants.{Flat as FlatShape}
use Rattle.ob_base.specs.declared.skeleton.Source.TheVariants.{Table as OneTable, Join}
use Rattle.ob_base.specs.Joins.{joined_slots}
use Rattle.ob_base.specs.Stored.{stored_regions}
use Rattle.ob_script.specs.Parts.{join_part}
use Rattle.ob_mean.proofs.FlatLemmas.{shape_is}
use Rattle.ob_tables.proofs.PlainLemmas.{table_is}
use Rattle.ob_mean.specs.Replay.{has_index}
use Rattle.ob_script.specs.Script.{after_count, behind_count, blocks_of, flat_script, join_script, joined_extent, result_part, rows_width, select_part, table_script, with_table}
use Rattle.ob_vault.proofs.WorldSteps.{calm_none}
use Rattle.ob_flat.specs.declared.fault.OpErr.TheVariants as OpErrs
use Rattle.ob_flat.specs.Passes.{PassCause}
use Rattle.ob_select.proofs.UntilLemmas.{until_given}
use Rattle.ob_sql.specs.declared.stmt.SelectRows.{SelectRows}
use Rattle.ob_mean.specs.Verdict.{ended as seen_to}
use Rattle.ob_select.specs.declared.selecting.Selected.TheVariants.{Rows, Refused}
use Rattle.ob_select.specs.Selecting.{EndsSelected, emitted_unless, selected_as, shown_rows}
use Rattle.ob_exec.specs.Sources.{rows_skeleton}
use Rattle.ob_select.specs.Memory.{HasCounted}
use Rattle.ob_exec.proofs.RowsLawful.{seen_as, uncounted, unread}
use Rattle.ob_exec.proofs.RowsStops.{StopsRows}

-- ---- no more than is asked
module _ (p : Public) (g : ℕ) (t : Stored ℕ) (pre ending : List Access) where
  abbrev pub part : Seen → List Access
  part now = pre ++ select_part p now g (extent_of t) ending

  abbrev pub count : List Access
  count = count_part t.held (blocks_of p (extent_of t))

  pub part_length : (now : Seen) → length (part now) ≡ length pre + (length count + length (behind_count p.pad p now g (extent_of t) ending))
  part_length now =
      length-append pre (select_part p now g (extent_of t) ending)
      ∙ ap (λ (n : ℕ). length pre + n) (length-append count (behind_count p.pad p now g (extent_of t) ending))

  after_short : (now : Seen) (k : Option ℕ)
      → length (after_count p (record now { then = None }) k g (extent_of t) ending) ≤ length (after_count p now k g (extent_of t) ending)
  after_short now None = omega arith
  after_short now (Some k) =
      let first = result_part p now.plan k g (extent_of t) in
      let next = result_part p now.then k (g + 1) (extent_of t) in
      let c = length-append first ending in
      let d = length-append first (next ++ ending) in
      let e = length-append next ending in
      omega (arith, c, d, e)

  behind_short : (pad : Option ℕ) (now : Seen)
      → length (behind_count pad p (record now { then = None }) g (extent_of t) ending) ≤ length (behind_count pad p now g (extent_of t) ending)
  behind_short (Some pad) now = omega arith
  behind_short None now = after_short now now.k

  pub walk_short : (now : Seen) → length (part (record now { then = None })) ≤ length (part now)
  walk_short now =
      let a = part_length (record now { then = None }) in
      let b = part_length now in
      let c = behind_short p.pad now in
      omega (arith, a, b, c)

-- where results aren't padded
abbrev pub unpadded : Public → Public
unpadded p = record p { pad = None }

-- the count alone
pub count_length : (p : Public) (g : ℕ) (t : Stored ℕ) (pre ending : List Access)
    → length (part (unpadded p) g t pre ending (seen_to Whole)) ≡ length pre + length (count p g t pre ending)
count_length p g t pre ending = let a = part_length (unpadded p) g t pre ending (seen_to Whole) in omega (arith, a)

count_short : (p : Public) (g : ℕ) (t : Stored ℕ) (pre ending : List Access) (now : Seen)
    → length (part (unpadded p) g t pre ending (seen_to Whole)) ≤ length (part p g t pre ending now)
count_short p g t pre ending now = let a = count_length p g t pre ending in let b = part_length p g t pre ending now in omega (arith, a, b)

-- the joined region as a table's, whatever its name
abbrev pub joined_stored : Public → (left right : Stored ℕ) → Stored ℕ
joined_stored p left right = record {
  heading = record {
    name = [];
    schema = left.heading.schema ++ right.heading.schema;
    capacity = joined_slots p.pack p.buffer left.heading.capacity right.heading.capacity;
    shape = FlatShape;
  };
  held = p.next_region;
}

abbrev pub joined_part : Public → (left right : Stored ℕ) → List Access
joined_part p left right =
    join_part left.held right.held p.next_region (blocks_of p (extent_of left)) (blocks_of p (extent_of right)) (buffered_blocks p.pack p.buffer)
    (rows_width p (joined_extent p left.heading right.heading))

module _ (p : Public) (now : Seen) where
  table_count : (o : Option (Stored ℕ)) → length (option_map_or (flat_script (unpadded p) (seen_to Whole)) o []) ≤ length (option_map_or (flat_script p now) o [])
  table_count None = omega arith
  table_count (Some t) = count_short p p.next_region t [] [] now

  join_count : (o q : Option (Stored ℕ)) → length (option_map_or (λ left. option_map_or (λ right. join_script (unpadded p) (seen_to Whole) left right) q []) o [])
      ≤ length (option_map_or (λ left. option_map_or (λ right. join_script p now left right) q []) o [])
  join_count None q = omega arith
  join_count (Some left) None = omega arith
  join_count (Some left) (Some right) =
      count_short p (p.next_region + 1) (joined_stored p left right) (joined_part p left right) (discard_at p.next_region) now

module _ (p : Public) (now : Seen) where
  table_walk : (o : Option (Stored ℕ)) → length (option_map_or (flat_script p (record now { then = None })) o []) ≤ length (option_map_or (flat_script p now) o [])
  table_walk None = omega arith
  table_walk (Some t) = walk_short p p.next_region t [] [] now

  join_walk : (o q : Option (Stored ℕ)) → length (option_map_or (λ left. option_map_or (λ right. join_script p (record now { then = None }) left right) q []) o [])
      ≤ length (option_map_or (λ left. option_map_or (λ right. join_script p now left right) q []) o [])
  join_walk None q = omega arith
  join_walk (Some left) None = omega arith
  join_walk (Some left) (Some right) =
      walk_short p (p.next_region + 1) (joined_stored p left right) (joined_part p left right) (discard_at p.next_region) now

-- what a SELECT of a table's rows asks, where it is flat
pub table_asks : (p : Public) (name : List ℕ) (now : Seen) → has_index p name ≡ false → with_table name p (table_script p now) ≡ with_table name p (flat_script p now)
table_asks p name now flat = table_is p name (table_script p now) (flat_script p now) flat (λ t is. shape_is p now.leaf (flat_script p now) t is)

counts_within : (p : Public) (select : SelectRows) (now : Seen) → is_access p (rows_skeleton select) ≡ false → count_end p (rows_skeleton select) ≤ length (rows_script p select now)
counts_within p select now unkeyed = go select.source unkeyed
  where
    go : (source : Source) → is_access p (Rattle.ob_base.specs.declared.skeleton.Skeleton.TheVariants.Rows source select.list) ≡ false → count_end p (Rattle.ob_base.specs.declared.skeleton.Skeleton.TheVariants.Rows source select.list)
        ≤ length (Rattle.ob_script.specs.Script.whole_script p (Rattle.ob_base.specs.declared.skeleton.Skeleton.TheVariants.Rows source select.list) now)
    go (OneTable name) flat =
        subst (λ (l : List Access). length l ≤ length (with_table name p (table_script p now))) (sym (table_asks (unpadded p) name (seen_to Whole) flat))
        (subst (λ (l : List Access). length (with_table name (unpadded p) (flat_script (unpadded p) (seen_to Whole))) ≤ length l) (sym (table_asks p name now flat))
        (table_count p now (stored_at name (stored_regions p.tables))))
    go (Join a b on equals) flat = join_count p now (stored_at a (stored_regions p.tables)) (stored_at b (stored_regions p.tables))

less_than : (n m k : ℕ) → n ≤ m → n - k ≤ m
less_than n m k is = omega arith

walks_within : (p : Public) (select : SelectRows) (now : Seen) → is_access p (rows_skeleton select) ≡ false → walk_end p (rows_skeleton select) now ≤ length (rows_script p select now)
walks_within p select now unkeyed = go select.source unkeyed
  where
    go : (source : Source) → is_access p (Rattle.ob_base.specs.declared.skeleton.Skeleton.TheVariants.Rows source select.list) ≡ false → walk_end p (Rattle.ob_base.specs.declared.skeleton.Skeleton.TheVariants.Rows source select.list) now
        ≤ length (Rattle.ob_script.specs.Script.whole_script p (Rattle.ob_base.specs.declared.skeleton.Skeleton.TheVariants.Rows source select.list) now)
    go (OneTable name) flat =
        less_than _ _ _ (subst (λ (l : List Access). length l ≤ length (with_table name p (table_script p now))) (sym (table_asks p name (record now { then = None }) flat))
        (subst (λ (l : List Access). length (with_table name p (flat_script p (record now { then = None }))) ≤ length l) (sym (table_asks p name now flat))
        (table_walk p now (stored_at name (stored_regions p.tables)))))
    go (Join a b on equals) flat = less_than _ _ _ (join_walk p now (stored_at a (stored_regions p.tables)) (stored_at b (stored_regions p.tables)))

-- ---- what is held of it
held_all : {A : Type 0} (o : Option A) (m n : ℕ) → m ≤ n → o ≡ held_if (nat_le m n) o
held_all o m n within = sym (ap (λ (b : Bool). held_if b o) reached)
  where
    reached : nat_le m n ≡ true
    reached = grind (arith, nat_tests)

counted_as : (q : Selection) (answer : Selected) (k : Option ℕ) (plan second : Option Plan) (end : End) → MayHold q k plan second → EndsSelected q answer (seen_as k plan second end)
    → HasCounted q.public (seen_as k plan second end)
counted_as q answer (Some k) plan second end may is = inl refl
counted_as q answer None (Some plan) second end may is = absurd may
counted_as q answer None None (Some second) end may is = absurd may
counted_as q answer None None None end may is = inr (uncounted q answer end is).padded

pub counted_some : (q : Selection) (answer : Selected) (now : Seen) → now.leaf ≡ None → MayHold q now.k now.plan now.then → EndsSelected q answer now → HasCounted q.public now
counted_some q answer now leaf may is = counted_as q answer now.k now.plan now.then now.end may (subst (EndsSelected q answer) (unread now leaf) is)

closing_cause : (e : OpErr) (a b : World) → (e ≡ OpErrs.Sink) ⊎ (e ≡ OpErrs.NoMemory) → b.store.faults ≡ a.store.faults → (Untampered a → Untampered b) → PassCause e a b
closing_cause e a b never faults calm = elim never [
  | inl is ↦ subst (λ (x : OpErr). PassCause x a b) (sym is) (faults, calm)
  | inr is ↦ subst (λ (x : OpErr). PassCause x a b) (sym is) (faults, calm)
]

no_access : (e : OpErr) → (e ≡ OpErrs.Sink) ⊎ (e ≡ OpErrs.NoMemory) → is_of_access e ≡ false
no_access e never = elim never [ inl is ↦ ap is_of_access is | inr is ↦ ap is_of_access is ]

pub as_rows : (r : Option Refusal) (n k : ℕ) → Rows k ≡ selected_as r n → r ≡ None
as_rows None n k is = refl
as_rows (Some r) n k is = absurd (cc is)

pub as_refused : (r : Option Refusal) (n : ℕ) (q : Refusal) → Refused q ≡ selected_as r n → r ≡ Some q
as_refused None n q is = absurd (cc is)
as_refused (Some r) n q is = let same : r ≡ q = sym (cc is) in ap (λ (x : Refusal). Some x) same

module _ {E : Type 0} (grew cut : E → E → List Event → Type 0) (p : Public) (select : SelectRows) (now : Seen) (old new : World) (out_old out_mid out_new : E) (unkeyed : is_access p (rows_skeleton select) ≡ false) where
  -- the events until the end of the answer
  abbrev Ends : Selected → Type 0
  Ends answer = EndsRows grew p select answer now old new out_old out_mid

  abbrev All : SourceToHalt p old new → List Event
  All s = answer_events (selection p select) (slots_of p select s.tables) ++ closing (selection_answer (selection p select) (slots_of p select s.tables))

  at_end : (answer : Selected) → Ends answer → SourceToHalt p old new → SourceToEnd p old new
  at_end answer is s = record {
    tells = s.tells;
    tables = s.tables;
    indexes = s.indexes;
    held = s.held;
    in_place = s.in_place;
    nolie = unfit_none new (is.ran.calm (calm_none _ s.nolie)) s.unfit;
  }

  closing_events : (answer : Selected) → Ends answer → Leads grew cut out_mid out_new (closing answer) → Rattle.ob_base.specs.Events.IsHalted grew cut All out_old out_new
  unfolding at_end
  closing_events (Rows k) is closes =
      let head = header (selection p select).flat.schema (selection p select).cols in
      record {
        events = (head ++ row_events is.emitted.rows) ++ closing (Rows k);
        ends = λ e events took. subst (λ (all : List Event). cut e out_new all) (append_assoc events (head ++ row_events is.emitted.rows) (closing (Rows k)))
            (closes e (events ++ (head ++ row_events is.emitted.rows)) (is.emitted.leads e events took));
        told = λ (s : SourceToHalt p old new).
            let told = is.told (at_end (Rows k) is s) in
            let none = as_rows (Rattle.ob_mean.specs.Verdict.rows_refusal p (Rattle.ob_select.specs.Selecting.places (selection p select) (slots_of p select s.tables))) _ k told.0 in
            let rows_are : is.emitted.rows ≡ shown_rows (selection p select) (slots_of p select s.tables) = is.emitted.told (at_end (Rows k) is s) in (
              [],
              append-nil ((head ++ row_events is.emitted.rows) ++ closing (Rows k))
                  ∙ (λ i. emitted_unless (sym none i) (head ++ row_events (rows_are i)) ++ closing (told.0 i)),
            );
      }
  closing_events (Refused r) is closes =
      let head = header (selection p select).flat.schema (selection p select).cols in
      record {
        events = [];
        ends = subst (λ (e : E). Leads grew cut e out_new []) is.emitted closes;
        told = λ (s : SourceToHalt p old new).
            let told = is.told (at_end (Refused r) is s) in
            let refused = as_refused (Rattle.ob_mean.specs.Verdict.rows_refusal p (Rattle.ob_select.specs.Selecting.places (selection p select) (slots_of p select s.tables))) _ r told.0 in (
              [],
              (λ i. emitted_unless (sym refused i) (head ++ row_events (shown_rows (selection p select) (slots_of p select s.tables))) ++ closing (told.0 i)),
            );
      }

  holds_all : (answer : Selected) (is : Ends answer) (s : SourceToHalt p old new) → HoldsRows p select (slots_of p select s.tables) false (length new.store.asked - length old.store.asked) now
  unfolding at_end
  holds_all answer is s =
      let told = is.told (at_end answer is s) in
      let n = length new.store.asked - length old.store.asked in
      let asked = ap length is.ran.did.asked in
      let sum = length-append old.store.asked (rows_script p select now) in
      let counts = counts_within p select now unkeyed in
      let walks = walks_within p select now unkeyed in
      record {
        k = held_all now.k (count_end p (rows_skeleton select)) n (omega (arith, asked, sum, counts)) ∙ ap (λ (x : Seen). held_if (nat_le (count_end p (rows_skeleton select)) n) x.k) told.1;
        plan = held_all now.plan (count_end p (rows_skeleton select)) n (omega (arith, asked, sum, counts)) ∙ ap (λ (x : Seen). held_if (nat_le (count_end p (rows_skeleton select)) n) x.plan) told.1;
        second = held_all now.then (walk_end p (rows_skeleton select) now) n (omega (arith, asked, sum, walks))
            ∙ ap (λ (x : Seen). held_if (nat_le (walk_end p (rows_skeleton select) x) n) x.then) told.1;
      }

  -- it was stopped at the number of its rows
  pub stops_closing : (answer : Selected) (e : OpErr) → (e ≡ OpErrs.Sink) ⊎ (e ≡ OpErrs.NoMemory) → Ends answer → Leads grew cut out_mid out_new (closing answer)
      → StopsRows grew cut p select e now old new out_old out_new
  stops_closing answer e never is closes =
      let all = rows_script p select now in
      let asked = ap length is.ran.did.asked in
      let sum = length-append old.store.asked all in
      let counts = counts_within p select now unkeyed in
      let walks = walks_within p select now unkeyed in
      let ends = closing_events answer is closes in
      record {
        ran = record {
          lasts = is.ran.lasts;
          began = record { done = all; rest = []; split = append-nil all; asked = is.ran.did.asked };
          asks = λ is. let none : is_of_access e ≡ false = elim never [ inl sink ↦ ap is_of_access sink | inr memory ↦ ap is_of_access memory ] in absurd (cc (none, is));
          cause = closing_cause e old new never is.ran.did.faults is.ran.calm;
        };
        leaves = is.leaves;
        seals = is.seals;
        holds = is.holds;
        leaf = is.leaf;
        reached = record { count = λ some. omega (arith, asked, sum, counts); walk = λ some. omega (arith, asked, sum, walks) };
        memory = λ wanted. record {
          done = all;
          rest = [];
          split = append-nil all;
          asked = is.ran.did.asked;
          place = inr (inr (counted_some (selection p select) answer now is.leaf is.holds is.ended, refl, record { events = ends.events; ends = ends.ends }));
        };
        halted = until_given grew cut (header (selection p select).flat.schema (selection p select).cols) e All out_old out_new never ends;
        failed = λ failed. absurd (elim never [ inl is ↦ cc (is, failed) | inr is ↦ cc (is, failed) ]);
        honest = λ s. inr never;
        begun = is.begun;
        held = λ s. subst (λ (b : Bool). HoldsRows p select (slots_of p select s.tables) b (length new.store.asked - length old.store.asked) now) (sym (no_access e never)) (holds_all answer is s);
      }
