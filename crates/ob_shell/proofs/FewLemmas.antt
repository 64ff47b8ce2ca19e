-- Fewer accesses are asked than there are numbers.
use Rattle.ob_shell.proofs.Words.{Access, Agrees, All, Answer, ap, arith, asked_of, at_rest, Bool, count_of, Does, earlier, early_refusal, Engine, false, Fetch, FlightSettings, Heading, headings_of, if◌then◌else◌, inl, inr, inserts_into, is_late, IsFlown, length, limits_of, List, Machine, more_together, most_flown, nat_tests, None, Ok, one_more, Option, option_map, option_map_or, Outcome, Plan, Public, public_of, refl, Refusal, refusal_now, RefusedEarly, Result, RevState, RunStop, script, Seen, seen_of, served_as, served_long, SessionRan, Skeleton, skeleton, slice_get, Some, Start, Step, Steps, StepTogether, Stmt, StoreState, subst, suc, sym, Table, Tally, true, whole_script, world_of, zero, ℕ, [], ⊤, ◌++◌, ◌+◌, ◌<◌, ◌^◌, ◌∙◌, ◌∷◌, ◌≡◌, ◌≤◌, ◌⊎◌}
use Rattle.std.specs.Prelude.{IfSome, IsSome, bytes_eq}
use Rattle.std.proofs.Common.{◌*◌, ◌/◌, get_or}
use Rattle.std.proofs.lemmas.Option.{slice_get-get_or}
use Rattle.ob_base.proofs.AccessLemmas.{makes_few}
use Rattle.ob_base.specs.Accesses.{discard_at}
use Rattle.ob_base.specs.Indexes.{by_shape, height_of}
use Rattle.ob_base.specs.Joins.{joined_slots}
use Rattle.ob_base.specs.Limits.{buffered_blocks}
use Rattle.ob_base.specs.Plans.{choose_padded, padded_rows, IsPadded}
use Rattle.ob_base.specs.Schemas.{width}
use Rattle.ob_base.specs.Stored.{Stored, heading_at, stored_at, stored_regions}
use Rattle.ob_base.specs.declared.config.Plan.TheVariants.{Small, Large, Continuous, Hash}
use Rattle.ob_base.specs.declared.schema.Shape.{Shape}
use Rattle.ob_base.specs.declared.schema.Shape.TheVariants.{Flat, Indexed}
use Rattle.ob_base.specs.declared.skeleton.Skeleton.TheVariants as K
use Rattle.ob_base.specs.declared.skeleton.Source.{Source}
use Rattle.ob_base.specs.declared.skeleton.Source.TheVariants.{Table as OneTable, Join}
use Rattle.ob_tables.proofs.TableLemmas.{region_below, tables_flat}
use Rattle.ob_headline.proofs.FlatLemmas.{IsFlat}
use Rattle.ob_mean.proofs.EarlyLemmas.{allowed, within}
use Rattle.ob_mean.proofs.FlatLemmas.{MakesFlat, flat_whole, headings-regions, makes_flat, region_flat, script_is}
use Rattle.ob_mean.proofs.VerdictLemmas.{heading-stored}
use Rattle.ob_mean.specs.Lawful.{Holds, IsCount, counted_slots, statement_slots}
use Rattle.ob_mean.specs.Refusals.{is_indexed}
use Rattle.ob_reopen.specs.Limits.{IsStored}
use Rattle.ob_script.proofs.Few.{script_few}
use Rattle.ob_script.specs.Parts.{count_part, insert_part, join_part}
use Rattle.ob_script.specs.Script.{after_count, behind_change, behind_count, blocks_of, extent_of, joined_extent, mutation_script, result_part, rows_width, shape_script, until_end, with_table}
use Rattle.ob_script.specs.Sizes.{SeesLeaf, IfFlat, IfTable, IsCounted, IsHeld, IsPublic, IsSourceCounted, IsTable, IsWithin}
use Rattle.std.proofs.Math.Nat.{div-le_self}
use Rattle.std.proofs.lemmas.Nat.{div-add-mod', le-div}
use Rattle.ob_base.specs.declared.config.Planner.{Planner}
use Rattle.ob_base.specs.declared.config.Planner.TheVariants.{Forced}
use Rattle.ob_exec.specs.InFlight.{EndsAs}
use Rattle.ob_inflight.specs.Closing.{Closed}
use Rattle.ob_script.proofs.FlightEnds.{ends_whole}
use Rattle.ob_script.specs.FlightLaws.{accesses_for}
use Rattle.ob_script.specs.Flights.{flight_public, merge}
use Rattle.ob_shell.proofs.InFlightLemmas.{within_get}
use Rattle.ob_shell.proofs.FlightSteady.{steady_flown}
use Rattle.ob_shell.proofs.ReplayLemmas.{counts_on}
use Rattle.ob_sql.specs.declared.stmt.SelectRows.{SelectRows}
use Rattle.ob_sql.specs.declared.stmt.Stmt.TheVariants.{Create, Insert, Update, Delete, Drop as DropTable, SelectRows as RowsStmt, SelectTotals as TotalsStmt}
use Rattle.ob_vault.specs.Places.{start_of}
use Rattle.ob_mean.specs.Replay.{is_access}
use Rattle.ob_verdict.proofs.LawfulProof.{region_index}
use Rattle.ob_verdict.proofs.AcceptedProof.{joins_fit}

-- ---- what is public is within its limits
region_few : (start : Start) → start.region ≤ earlier start
unfolding earlier
region_few start = omega arith

tables_are : (ts : List Table) → ((i : ℕ) (t : Table) → slice_get ts i ≡ Some t → IsStored t.heading × (t.region ≤ 2 ^ 63 + 2 ^ 60)) → All IsTable ts
tables_are ts each = λ i d below. let one = each i (get_or ts i d) (slice_get-get_or ts i d below) in record { capacity = one.0.most; width = one.0.wide; region = one.1 }

-- the slots of a stash are none of a flat table's
abbrev stashless : Public → Public
stashless p = record p { stash = 0 }

public_is : {R : Type 0} (state : R → RevState) (e : Engine R) (s : StoreState) → Agrees state e s → count_of e s < 2 ^ 63 → IsPublic (stashless (public_of e))
public_is state e s agrees few =
    let set = agrees.settings in
    let next = agrees.next in
    let tied = agrees.ready.tied.next in
    let made = makes_few s.asked in
    let region = region_few (start_of e.vault) in
    record {
      pack_some = set.pack_least;
      pack_few = set.pack_most;
      buffer_some = set.blocks;
      buffer_few = set.most;
      depth_some = set.depth_least;
      depth_few = set.depth_most;
      next = omega (arith, next, tied, made, region, few);
      padded = set.padded;
      stash = omega arith;
      tables = tables_are e.public.tables (λ i t is.
          let below = region_below e.public.pack i e.public.tables t (world_of state e s) agrees.ready agrees.tables is in
          ((agrees.tables.each i t is).heading.stored, omega (arith, below, tied, made, region, few)));
      listed = λ saves. agrees.tables.few;
    }

-- ---- a table that there is
record IsSized (t : Stored ℕ) : Type 0 where
  capacity : t.heading.capacity ≤ 2 ^ 20
  width : width t.heading.schema ≤ 1024

sized : (name : List ℕ) (ts : List Table) → All IsTable ts → IfSome (stored_at name (stored_regions ts)) IsSized
sized name [] h = tt
sized name (t ∷ ts) h = split (bytes_eq t.heading.name name) (sized name ts (λ k d l. h (suc k) d (omega arith))) where
  split : (b : Bool) → IfSome (stored_at name (stored_regions ts)) IsSized → IfSome (if b then Some (record { heading = t.heading; held = t.region }) else stored_at name (stored_regions ts)) IsSized
  split true rest = let one = h 0 t (omega arith) in record { capacity = one.capacity; width = one.width }
  split false rest = rest

heading_is : (name : List ℕ) (ts : List Table) (t : Stored ℕ) → stored_at name (stored_regions ts) ≡ Some t → heading_at name (headings_of ts) ≡ Some t.heading
heading_is name ts t is =
    ap (heading_at name) (sym (headings-regions ts)) ∙ heading-stored name (stored_regions ts) ∙ ap (λ (o : Option (Stored ℕ)). option_map (λ (x : Stored ℕ). x.heading) o) is

-- ---- what is seen of a statement is within the limits
record CountedAs (p : Public) (stmt : Stmt) (k : Option ℕ) (plan second : Option Plan) : Type 0 where
  count : IfSome k (λ n. IsCount p stmt n)
  plan_some : IfSome plan (λ x. IfSome k (λ n. 1 ≤ n))
  second_some : IfSome second (λ x. IfSome k (λ n. 1 ≤ n))

counted_as : (p : Public) (stmt : Stmt) (seen : Seen) (k : Option ℕ) (plan second : Option Plan) → Holds p stmt seen k plan second → CountedAs p stmt k plan second
counted_as p stmt seen None None None h = record { count = tt; plan_some = tt; second_some = tt }
counted_as p stmt seen None None (Some s) h = absurd h
counted_as p stmt seen None (Some plan) None h = absurd h
counted_as p stmt seen None (Some plan) (Some s) h = absurd h
counted_as p stmt seen (Some k) None None h = record { count = h.0; plan_some = tt; second_some = tt }
counted_as p stmt seen (Some k) None (Some s) h = absurd h
counted_as p stmt seen (Some k) (Some plan) None h = record { count = h.0; plan_some = h.1.some; second_some = tt }
counted_as p stmt seen (Some k) (Some Small) (Some s) h = absurd h
counted_as p stmt seen (Some k) (Some Large) (Some s) h = absurd h
counted_as p stmt seen (Some k) (Some Continuous) (Some s) h = absurd h
counted_as p stmt seen (Some k) (Some Hash) (Some Small) h = record { count = h.0; plan_some = h.1.some; second_some = h.1.some }
counted_as p stmt seen (Some k) (Some Hash) (Some Large) h = absurd h
counted_as p stmt seen (Some k) (Some Hash) (Some Continuous) h = absurd h
counted_as p stmt seen (Some k) (Some Hash) (Some Hash) h = absurd h

-- over so many slots
slots_as : (p : Public) (stmt : Stmt) (k : Option ℕ) (n : ℕ) → IfSome k (λ x. IsCount p stmt x) → statement_slots p stmt ≡ n → IfSome k (λ x. x ≤ n)
slots_as p stmt None n count is = tt
slots_as p stmt (Some k) n count is = let most = count.most in omega (arith, most, is)

held_flat : (p : Public) (seen : Seen) (A : Type 0) (t : Stored ℕ) → t.heading.shape ≡ Flat → A → IsHeld p seen A t
held_flat p seen A t flat a = subst (λ (shape : Shape). IfFlat shape A (SeesLeaf p.stash (height_of t.heading.capacity) seen.leaf seen.end)) (sym flat) a

table_held : (p : Public) (seen : Seen) (name : List ℕ) → IsFlat p → IfTable name p (IsHeld p seen ⊤)
table_held p seen name flat = go (stored_at name (stored_regions p.tables)) refl
  where
    go : (o : Option (Stored ℕ)) → stored_at name (stored_regions p.tables) ≡ o → IfSome o (IsHeld p seen ⊤)
    go None is = tt
    go (Some t) is = held_flat p seen ⊤ t (region_flat name p.tables t flat is) tt

module _ (p : Public) (late : Bool) (q : SelectRows) (seen : Seen) (public : IsPublic (stashless p)) (flat : IsFlat p) (accepted : early_refusal late (limits_of p) (headings_of p.tables) (RowsStmt q) ≡ None)
    (told : CountedAs p (RowsStmt q) seen.k seen.plan seen.then) where
  table_counted : (name : List ℕ) → counted_slots p q.source ≡ counted_slots p (OneTable name) → IsSourceCounted (stashless p) seen (OneTable name)
  table_counted name same = go (stored_at name (stored_regions p.tables)) refl (sized name p.tables public.tables)
    where
      go : (o : Option (Stored ℕ)) → stored_at name (stored_regions p.tables) ≡ o → IfSome o IsSized → IfSome o (λ t. IsHeld (stashless p) seen (IsCounted seen (extent_of t)) t)
      go None is size = tt
      go (Some t) is size =
          let slots = same ∙ ap (λ (o : Option Heading). option_map_or (λ (h : Heading). h.capacity) o 0) (heading_is name p.tables t is) in
          held_flat (stashless p) seen (IsCounted seen (extent_of t)) t (region_flat name p.tables t flat is) (record {
            slots = let few = size.capacity in omega (arith, few);
            width = size.width;
            count = slots_as p (RowsStmt q) seen.k t.heading.capacity told.count slots;
            plan = told.plan_some;
            then = told.second_some;
          })

source_counted : (p : Public) (late : Bool) (q : SelectRows) (seen : Seen) → IsPublic (stashless p) → IsFlat p → early_refusal late (limits_of p) (headings_of p.tables) (RowsStmt q) ≡ None → CountedAs p (RowsStmt q) seen.k seen.plan seen.then
    → IsSourceCounted (stashless p) seen q.source
source_counted p late q seen public flat accepted told = go q.source refl
  where
    join_counted : (a b : List ℕ) (on equals : _) → q.source ≡ Join a b on equals → IsSourceCounted (stashless p) seen (Join a b on equals)
    join_counted a b on equals is = left (stored_at a (stored_regions p.tables)) refl
      where
        accepted_join : early_refusal late (limits_of p) (headings_of p.tables) (RowsStmt (record { list = q.list; source = Join a b on equals; cond = q.cond })) ≡ None
        accepted_join = subst (λ (s : Source). early_refusal late (limits_of p) (headings_of p.tables) (RowsStmt (record { list = q.list; source = s; cond = q.cond })) ≡ None) is accepted

        right : (l : Stored ℕ) → stored_at a (stored_regions p.tables) ≡ Some l → (o : Option (Stored ℕ)) → stored_at b (stored_regions p.tables) ≡ o → IfSome o (λ r. IsCounted seen (joined_extent p l.heading r.heading))
        right l l_is None r_is = tt
        right l l_is (Some r) r_is =
            let la = heading_is a p.tables l l_is in
            let rb = heading_is b p.tables r r_is in
            let fits = joins_fit late (limits_of p) (headings_of p.tables) q.list a b on equals q.cond l.heading r.heading la rb accepted_join in
            let cap : Option Heading → ℕ = λ o. option_map_or (λ (h : Heading). h.capacity) o 0 in
            let slots : statement_slots p (RowsStmt q) ≡ (joined_extent p l.heading r.heading).slots =
            ap (counted_slots p) is ∙ (λ i. joined_slots p.pack p.buffer (cap (la i)) (cap (rb i))) in
            record {
              slots = let few = fits.slots in omega (arith, few);
              width = fits.wide;
              count = slots_as p (RowsStmt q) seen.k (joined_extent p l.heading r.heading).slots told.count slots;
              plan = told.plan_some;
              then = told.second_some;
            }

        left : (o : Option (Stored ℕ)) → stored_at a (stored_regions p.tables) ≡ o → IfSome o (λ l. IfSome (stored_at b (stored_regions p.tables)) (λ r. IsCounted seen (joined_extent p l.heading r.heading)))
        left None is_none = tt
        left (Some l) l_is = right l l_is (stored_at b (stored_regions p.tables)) refl

    go : (s : Source) → q.source ≡ s → IsSourceCounted (stashless p) seen q.source
    go (OneTable name) is = subst (λ (s : Source). IsSourceCounted (stashless p) seen s) (sym is) (table_counted p late q seen public flat accepted told name (ap (counted_slots p) is))
    go (Join a b on equals) is = subst (λ (s : Source). IsSourceCounted (stashless p) seen s) (sym is) (join_counted a b on equals is)

within_limits : (p : Public) (late : Bool) (stmt : Stmt) (seen : Seen) → IsPublic (stashless p) → IsFlat p → early_refusal late (limits_of p) (headings_of p.tables) stmt ≡ None → Holds p stmt seen seen.k seen.plan seen.then
    → IsWithin (stashless p) (skeleton stmt) seen
within_limits p late (Create table columns capacity shape) seen public flat accepted holds =
    let free = allowed late (limits_of p) (headings_of p.tables) (Create table columns capacity shape) accepted in
    let new = within (limits_of p) (headings_of p.tables) table columns capacity shape free.limits in
    (new.most, new.wide)
within_limits p late (Insert table columns values) seen public flat accepted holds = table_held (stashless p) seen table flat
within_limits p late (Update table sets cond) seen public flat accepted holds = table_held (stashless p) seen table flat
within_limits p late (Delete table cond) seen public flat accepted holds = table_held (stashless p) seen table flat
within_limits p late (DropTable table) seen public flat accepted holds = tt
within_limits p late (TotalsStmt s) seen public flat accepted holds = tt
within_limits p late (RowsStmt q) seen public flat accepted holds = source_counted p late q seen public flat accepted (counted_as p (RowsStmt q) seen seen.k seen.plan seen.then holds)

-- ---- a statement on flat tables asks the same whatever the slots of a stash are
result_same : (p : Public) (plan : Option Plan) (k g : ℕ) (t : _) → result_part (stashless p) plan k g t ≡ result_part p plan k g t
result_same p None k g t = refl
result_same p other k g t = refl

behind_same : (p : Public) (seen : Seen) (pad k : Option ℕ) (g : ℕ) (t : _) (ending : List Access) → seen.k ≡ k → behind_count pad (stashless p) seen g t ending ≡ behind_count pad p seen g t ending
behind_same p seen (Some pad) k g t ending is =
    let q = padded_rows pad t.slots in ap (λ (l : List Access). l ++ ending) (result_same p (Some (choose_padded p.planner p.pack p.buffer t.slots q)) q g t)
behind_same p seen None k g t ending is = ap (λ (o : Option ℕ). after_count (stashless p) seen o g t ending) is ∙ go k ∙ sym (ap (λ (o : Option ℕ). after_count p seen o g t ending) is)
  where
    go : (o : Option ℕ) → after_count (stashless p) seen o g t ending ≡ after_count p seen o g t ending
    go None = refl
    go (Some n) = λ i. result_same p seen.plan n g t i ++ (result_same p seen.then n (g + 1) t i ++ ending)

whole_same : (p : Public) (s : Skeleton) (seen : Seen) → flat_whole (stashless p) s seen ≡ flat_whole p s seen
whole_same p (K.Rows (OneTable name) cs) seen =
    λ i. with_table name p (λ t. count_part t.held (blocks_of p (extent_of t)) ++ behind_same p seen p.pad seen.k p.next_region (extent_of t) [] refl i)
whole_same p (K.Rows (Join a b on equals) cs) seen =
    λ i. with_table a p (λ left. with_table b p (λ right.
    let t = joined_extent p left.heading right.heading in
    join_part left.held right.held p.next_region (blocks_of p (extent_of left)) (blocks_of p (extent_of right)) (buffered_blocks p.pack p.buffer) (rows_width p t)
    ++ (count_part t.region (blocks_of p t) ++ behind_same p seen p.pad seen.k (p.next_region + 1) t (discard_at p.next_region) refl i)))
whole_same p other seen = refl

script_same : (p : Public) (s : Skeleton) (seen : Seen) → IsFlat p → MakesFlat s → script (stashless p) s seen ≡ script p s seen
script_same p s seen flat made = ap (until_end seen.end) (script_is (stashless p) flat s seen made ∙ whole_same p s seen ∙ sym (script_is p flat s seen made))

-- ---- a statement asks few accesses, or none where many were asked before
late_or_not : (m : ℕ) (late : Bool) → is_late m ≡ late → late ≡ false → m < 2 ^ 63
late_or_not m true is not = absurd (cc not)
late_or_not m false is not = grind (arith, nat_tests)

-- ---- an INSERT into a flat table, whatever else there is
by_flat : {A : Type 0} (shape : Shape) (flat indexed : A) → is_indexed shape ≡ false → by_shape shape flat indexed ≡ flat
by_flat Flat flat indexed is = refl
by_flat Indexed flat indexed is = absurd (cc is)

module _ (p : Public) (table : List ℕ) (columns : Option (List (List ℕ))) (seen : Seen) (apart : is_access p (K.Insert table columns) ≡ false) where
  insert_same : script (stashless p) (K.Insert table columns) seen ≡ script p (K.Insert table columns) seen
  insert_same = ap (until_end seen.end) (go (stored_at table (stored_regions p.tables)) refl)
    where
      at : Public → Stored ℕ → List Access
      at q t = shape_script q seen.leaf (mutation_script q insert_part (behind_change q (K.Insert table columns))) t

      go : (o : Option (Stored ℕ)) → stored_at table (stored_regions p.tables) ≡ o → whole_script (stashless p) (K.Insert table columns) seen ≡ whole_script p (K.Insert table columns) seen
      go None is = ap (λ (o : Option (Stored ℕ)). option_map_or (at (stashless p)) o []) is ∙ sym (ap (λ (o : Option (Stored ℕ)). option_map_or (at p) o []) is)
      go (Some t) is =
          let flat = sym (region_index p table t is) ∙ apart in
          ap (λ (o : Option (Stored ℕ)). option_map_or (at (stashless p)) o []) is ∙ by_flat t.heading.shape _ _ flat ∙ sym (by_flat t.heading.shape _ _ flat)
          ∙ sym (ap (λ (o : Option (Stored ℕ)). option_map_or (at p) o []) is)

  insert_within : IsWithin (stashless p) (K.Insert table columns) seen
  insert_within = go (stored_at table (stored_regions p.tables)) refl
    where
      flat_is : (shape : Shape) → is_indexed shape ≡ false → shape ≡ Flat
      flat_is Flat is = refl
      flat_is Indexed is = absurd (cc is)

      go : (o : Option (Stored ℕ)) → stored_at table (stored_regions p.tables) ≡ o → IfSome o (IsHeld (stashless p) seen ⊤)
      go None is = tt
      go (Some t) is = held_flat (stashless p) seen ⊤ t (flat_is t.heading.shape (sym (region_index p table t is) ∙ apart)) tt

pub insert_few : {R : Type 0} (state : R → RevState) (e : Engine R) (s : StoreState) (outline : Skeleton) (seen : Seen) → Agrees state e s → count_of e s < 2 ^ 63 → IsSome (inserts_into outline) → is_access (public_of e) outline ≡ false
    → length (script (public_of e) outline seen) < 2 ^ 49
insert_few state e s (K.Insert table columns) seen agrees small inserts apart =
    subst (λ (l : List Access). length l < 2 ^ 49) (insert_same (public_of e) table columns seen apart)
    (script_few (stashless (public_of e)) (K.Insert table columns) seen (public_is state e s agrees small) (λ started. insert_within (public_of e) table columns seen apart))
insert_few state e s other seen agrees small inserts apart = absurd (cc inserts)

-- the tables are kept for the next run
abbrev pub IsKept : {R : Type 0} → Machine R → Type 0
IsKept m = (public_of m.engine).keep ≡ true

does_few : {R : Type 0} (state : R → RevState) (m0 m1 : Machine R) (stmt : Stmt) (result : Result Outcome RunStop) → Agrees state m0.engine m0.store → IsKept m0 → Does state m0 m1 stmt result
    → asked_of m0 < 2 ^ 63 + 2 ^ 59 → asked_of m1 < 2 ^ 63 + 2 ^ 59
does_few state m0 m1 stmt result agrees kept does few = go (refusal_now p (asked_of m0) stmt) refl
  where
    p : Public
    p = public_of m0.engine

    go : (o : Option Refusal) → refusal_now (public_of m0.engine) (asked_of m0) stmt ≡ o → asked_of m1 < 2 ^ 63 + 2 ^ 59
    go (Some r) is =
        let early : RefusedEarly (Some r) result (seen_of m1.engine) = subst (λ (o : Option Refusal). RefusedEarly o result (seen_of m1.engine)) is does.early in
        let none : length (script (public_of m0.engine) (skeleton stmt) (seen_of m1.engine)) ≡ 0 = ap (λ (x : Seen). length (script (public_of m0.engine) (skeleton stmt) x)) early.1 in
        let on = counts_on m0 m1 (script (public_of m0.engine) (skeleton stmt) (seen_of m1.engine)) does.ran.start does.ran.asked in
        omega (arith, on, none, few)
    go None is =
        let free = allowed (is_late (asked_of m0)) (limits_of (public_of m0.engine)) (headings_of (public_of m0.engine).tables) stmt is in
        let small = late_or_not (asked_of m0) (is_late (asked_of m0)) refl free.early in
        let public = public_is state m0.engine m0.store agrees small in
        let flat = tables_flat (agrees.kept kept) agrees.tables in
        let made = makes_flat (is_late (asked_of m0)) (limits_of (public_of m0.engine)) (headings_of (public_of m0.engine).tables) stmt kept is in
        let same = script_same (public_of m0.engine) (skeleton stmt) (seen_of m1.engine) flat made in
        let short : length (script (public_of m0.engine) (skeleton stmt) (seen_of m1.engine)) < 2 ^ 49 =
        subst (λ (l : List Access). length l < 2 ^ 49) same (script_few (stashless (public_of m0.engine)) (skeleton stmt) (seen_of m1.engine) public
        (λ started. within_limits (public_of m0.engine) (is_late (asked_of m0)) stmt (seen_of m1.engine) public flat is does.lawful.holds)) in
        let on = counts_on m0 m1 (script (public_of m0.engine) (skeleton stmt) (seen_of m1.engine)) does.ran.start does.ran.asked in
        omega (arith, on, short, small)

-- ---- several in flight
product_within : (a b r : ℕ) → a ≤ b → a * r ≤ b * r
product_within a b r fits = grind arith

-- each has its share of the rows that may be open
share_some : (n pack buffer : ℕ) → 1 ≤ n → n ≤ buffer / (3 * pack + 1) → 3 * pack + 1 ≤ buffer / n
share_some n pack buffer some few =
    let least : 1 ≤ 3 * pack + 1 = omega arith in
    let times = product_within n (buffer / (3 * pack + 1)) (3 * pack + 1) few in
    let whole = div-add-mod' buffer (3 * pack + 1) in
    let turned : (3 * pack + 1) * n ≡ n * (3 * pack + 1) = grind arith in
    le-div (3 * pack + 1) buffer n some (omega (arith, times, whole, turned))

flown_parts : (settings : Option FlightSettings) (p : Public) (n : ℕ) → 2 ≤ n → n ≤ most_flown settings p → (n ≤ p.buffer / (3 * p.pack + 1)) × (n ≤ 8)
flown_parts None p n some few = absurd (omega (arith, some, few))
flown_parts (Some f) p n some few = (omega (arith, some, few), omega (arith, some, few))

-- by what is public in flight
padded_so : (pad : Option ℕ) (planner : Planner) → IsPadded pad planner → IsPadded pad (Forced Small)
padded_so None planner padded = tt
padded_so (Some rows) planner padded = (padded.0, padded.1, tt)

flight_is : (n : ℕ) (p : Public) → IsPublic (stashless p) → 1 ≤ n → n ≤ p.buffer / (3 * p.pack + 1) → IsPublic (stashless (flight_public n p))
flight_is n p public some few = record {
  pack_some = public.pack_some;
  pack_few = public.pack_few;
  buffer_some = share_some n p.pack p.buffer some few;
  buffer_few = let most = public.buffer_few in let less = div-le_self p.buffer n in omega (arith, most, less);
  depth_some = public.depth_some;
  depth_few = public.depth_few;
  next = public.next;
  padded = padded_so p.pad p.planner public.padded;
  stash = public.stash;
  tables = public.tables;
  listed = public.listed;
}

-- one of them asks few accesses, or none where many were asked before
module _ {R : Type 0} (state : R → RevState) (m0 : Machine R) (n : ℕ) (some : 1 ≤ n) (parts : n ≤ (public_of m0.engine).buffer / (3 * (public_of m0.engine).pack + 1)) (agrees : Agrees state m0.engine m0.store) (kept : IsKept m0) where
  abbrev fp : Public
  fp = flight_public n (public_of m0.engine)

  one_few : (stmt : Stmt) (seen : Seen) (outcome : Outcome) (own : ℕ) → EndsAs fp (asked_of m0) own stmt seen outcome → (length (script fp (skeleton stmt) seen) ≡ 0) ⊎ ((asked_of m0 < 2 ^ 63) × (length (script fp (skeleton stmt) seen) ≤ 2 ^ 49))
  one_few stmt seen outcome own ends = go (refusal_now fp (asked_of m0) stmt) refl
    where
      go : (o : Option Refusal) → refusal_now fp (asked_of m0) stmt ≡ o → (length (script fp (skeleton stmt) seen) ≡ 0) ⊎ ((asked_of m0 < 2 ^ 63) × (length (script fp (skeleton stmt) seen) ≤ 2 ^ 49))
      go (Some r) is =
          let early : RefusedEarly (Some r) (Ok outcome) seen = subst (λ (o : Option Refusal). RefusedEarly o (Ok outcome) seen) is ends.early in
          inl (ap (λ (x : Seen). length (script fp (skeleton stmt) x)) early.1)
      go None is =
          let free = allowed (is_late (asked_of m0)) (limits_of fp) (headings_of fp.tables) stmt is in
          let small = late_or_not (asked_of m0) (is_late (asked_of m0)) refl free.early in
          let public = flight_is n (public_of m0.engine) (public_is state m0.engine m0.store agrees small) some parts in
          let flat = tables_flat (agrees.kept kept) agrees.tables in
          let made = makes_flat (is_late (asked_of m0)) (limits_of fp) (headings_of fp.tables) stmt kept is in
          let same = script_same fp (skeleton stmt) seen flat made in
          let short : length (script fp (skeleton stmt) seen) < 2 ^ 49 =
          subst (λ (l : List Access). length l < 2 ^ 49) same (script_few (stashless fp) (skeleton stmt) seen public (λ started. within_limits fp (is_late (asked_of m0)) stmt seen public flat is ends.lawful.holds)) in
          inr (small, omega (arith, short))

  all_few : (stmts : List Stmt) (seens : List Seen) → ((i : ℕ) (stmt : Stmt) (seen : Seen) → slice_get stmts i ≡ Some stmt → slice_get seens i ≡ Some seen → (length (script fp (skeleton stmt) seen) ≡ 0) ⊎ ((asked_of m0 < 2 ^ 63) × (length (script fp (skeleton stmt) seen) ≤ 2 ^ 49)))
      → (accesses_for fp (served_as stmts seens) ≡ 0) ⊎ ((asked_of m0 < 2 ^ 63) × (accesses_for fp (served_as stmts seens) ≤ 2 ^ 49 * length stmts))
  unfolding accesses_for
  all_few [] seens each = inl refl
  all_few (stmt ∷ stmts) [] each = inl refl
  all_few (stmt ∷ stmts) (seen ∷ seens) each = go (each 0 stmt seen refl refl) (all_few stmts seens (λ i x y get shown. each (suc i) x y get shown))
    where
      a : ℕ
      a = length (script fp (skeleton stmt) seen)

      b : ℕ
      b = accesses_for fp (served_as stmts seens)

      go : (a ≡ 0) ⊎ ((asked_of m0 < 2 ^ 63) × (a ≤ 2 ^ 49)) → (b ≡ 0) ⊎ ((asked_of m0 < 2 ^ 63) × (b ≤ 2 ^ 49 * length stmts)) → (a + b ≡ 0) ⊎ ((asked_of m0 < 2 ^ 63) × (a + b ≤ 2 ^ 49 * suc (length stmts)))
      go (inl none) (inl rest) = inl (omega (arith, none, rest))
      go (inl none) (inr rest) = inr (rest.0, let most = rest.1 in omega (arith, none, most))
      go (inr one) (inl rest) = inr (one.0, let few = one.1 in omega (arith, few, rest))
      go (inr one) (inr rest) = inr (one.0, let few = one.1 in let most = rest.1 in omega (arith, few, most))

ended_as : (q : Public) (m n : ℕ) (stmt : Stmt) (seen : Seen) (ended : List Closed) (i : ℕ) → i < length ended → IsFlown q m n stmt seen (slice_get ended i) → (outcome : Outcome) × EndsAs q m n stmt seen outcome
ended_as q m n stmt seen [] i below flown = absurd (omega (arith, below))
ended_as q m n stmt seen (one ∷ ended) zero below flown = (one.outcome, flown)
ended_as q m n stmt seen (one ∷ ended) (suc i) below flown = ended_as q m n stmt seen ended i (omega (arith, below)) flown

pub flight_few : {R : Type 0} (state : R → RevState) (m0 m1 : Machine R) (texts : List (List ℕ)) (answers : List Answer) → StepTogether state m0 m1 texts answers → Agrees state m0.engine m0.store → IsKept m0 → asked_of m0 < 2 ^ 63 + 2 ^ 59 → asked_of m1 < 2 ^ 63 + 2 ^ 59
flight_few state m0 m1 texts answers step agrees kept few =
    let p = public_of m0.engine in
    let flown = served_as step.stmts step.seens in
    let some = step.may.some in
    let parts = flown_parts m0.flights.settings p (length step.stmts) some step.may.few in
    let ran = step.flew.ran in
    let steady = steady_flown state m0 m1 step.stmts step.seens step.flew.ended (Ok tt) step.may ran in
    let on = counts_on m0 m1 (merge p flown m0.flights.words) ran.ran.start ran.ran.asked in
    let size : length flown ≡ length step.stmts = served_long step.stmts step.seens ran.long in
    let long : length (merge p flown m0.flights.words) ≡ accesses_for (flight_public (length step.stmts) p) flown =
    (ends_whole p flown m0.flights.words steady).long ∙ ap (λ (k : ℕ). accesses_for (flight_public k p) flown) size in
    let each = λ (i : ℕ) (stmt : Stmt) (seen : Seen) (get : slice_get step.stmts i ≡ Some stmt) (shown : slice_get step.seens i ≡ Some seen).
    let below = within_get step.stmts i stmt get in
    let all = ran.all in
    let ends = ended_as (flight_public (length step.stmts) p) (asked_of m0) _ stmt seen step.flew.ended i (omega (arith, below, all)) (ran.each i stmt seen get shown) in
    one_few state m0 (length step.stmts) (omega (arith, some)) parts.0 agrees kept stmt seen ends.0 _ ends.1 in
    elim (all_few state m0 (length step.stmts) (omega (arith, some)) parts.0 agrees kept step.stmts step.seens each) [
      | inl none ↦ omega (arith, on, long, none, few)
      | inr most ↦ let below = most.0 in let within = most.1 in let eight = parts.1 in omega (arith, on, long, below, within, eight)
    ]

module _ {R : Type 0} (state : R → RevState) where
  step_ready : (m0 m1 : Machine R) (text : List ℕ) (answer : Answer) → Step state m0 m1 text answer → Agrees state m0.engine m0.store → Agrees state m1.engine m1.store
  step_ready m0 m1 text answer step agrees = elim step.done [
    | inl bad ↦ subst (λ (m : Machine R). Agrees state m.engine m.store) (sym bad.same) agrees
    | inr did ↦ did.does.ran.goes_on.agrees
  ]

  step_kept : (m0 m1 : Machine R) (text : List ℕ) (answer : Answer) → Step state m0 m1 text answer → IsKept m0 → IsKept m1
  step_kept m0 m1 text answer step kept = elim step.done [
    | inl bad ↦ subst (λ (m : Machine R). IsKept m) (sym bad.same) kept
    | inr did ↦ ap (λ (p : Public). p.keep) did.does.ran.goes_on.public ∙ kept
  ]

  step_few : (m0 m1 : Machine R) (text : List ℕ) (answer : Answer) → Step state m0 m1 text answer → Agrees state m0.engine m0.store → IsKept m0 → asked_of m0 < 2 ^ 63 + 2 ^ 59 → asked_of m1 < 2 ^ 63 + 2 ^ 59
  step_few m0 m1 text answer step agrees kept few = elim step.done [
    | inl bad ↦ subst (λ (m : Machine R). asked_of m < 2 ^ 63 + 2 ^ 59) (sym bad.same) few
    | inr did ↦ does_few state m0 m1 did.stmt (Ok answer.outcome) agrees kept did.does few
  ]

  -- texts that were answered leave numbers for a closing, and flat tables
  pub record Closable (m : Machine R) : Type 0 where
    pub few : asked_of m < 2 ^ 63 + 2 ^ 59
    pub flat : IsFlat (public_of m.engine)

  steps_few : (m0 m2 : Machine R) (texts : List (List ℕ)) (answers : List Answer) → Steps state m0 m2 texts answers → Agrees state m0.engine m0.store → IsKept m0 → asked_of m0 < 2 ^ 63 + 2 ^ 59 → Closable m2
  steps_few m0 m2 texts answers at_rest agrees kept few = record { few = few; flat = tables_flat (agrees.kept kept) agrees.tables }
  steps_few m0 m2 texts answers (one_more {m1 = m1} {text = text} {one = one} {texts = more} {answers = given} step rest) agrees kept few = steps_few m1 m2 more given rest (step_ready m0 m1 text one step agrees) (step_kept m0 m1 text one step kept) (step_few m0 m1 text one step agrees kept few)
  steps_few m0 m2 texts answers (more_together {m1 = m1} {texts = more} {answers = given} step rest) agrees kept few =
      let on = step.flew.ran.ran.goes_on in
      steps_few m1 m2 more given rest on.agrees (ap (λ (p : Public). p.keep) on.public ∙ kept) (flight_few state m0 m1 _ _ step agrees kept few)

-- so does a session that came to its end
pub session_few : {R : Type 0} (state : R → RevState) {Lost : Type 0} {on : Bool} {f0 f1 : Fetch} {l0 l1 : Option (List ℕ)} {gave : ℕ} {w0 w1 t0 t1 : Option (List ℕ)} (m0 m2 : Machine R) (tally : Tally)
    → SessionRan state on f0 f1 l0 l1 gave w0 w1 t0 t1 m0 m2 Lost (Ok tally) → Agrees state m0.engine m0.store → IsKept m0 → asked_of m0 < 2 ^ 63 + 2 ^ 59 → Closable state m2
session_few {R = R} state m0 m2 tally ran agrees kept few =
    let all = steps_few state m0 ran.middle ran.served ran.answers ran.steps agrees kept few in
    let same = ran.last.machine in
    record {
      few = subst (λ (m : Machine R). asked_of m < 2 ^ 63 + 2 ^ 59) (sym same) all.few;
      flat = subst (λ (m : Machine R). IsFlat (public_of m.engine)) (sym same) all.flat;
    }
