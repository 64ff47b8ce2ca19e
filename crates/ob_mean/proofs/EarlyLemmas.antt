-- A statement that is not refused before any access.
use Rattle.std.proofs.Common.{◌≡◌, ℕ, ◌≤◌, ◌<◌, Bool, true, false, List, [], ◌∷◌, length, refl, arith}
use Rattle.std.specs.Prelude.{None, not, ◌||◌, nat_lt, nat_le}
use Rattle.std.specs.List.{list_any}
use Rattle.std.proofs.lemmas.Bool.Decides.{nat_tests}
use Rattle.ob_base.specs.declared.refusal.Refusal.{Refusal}
use Rattle.ob_base.specs.declared.refusal.Refusal.TheVariants.{NoTable, NameTaken, NoColumn, WrongType, ValueRange, Limit, KeyRule, JoinKey, NeedsKey}
use Rattle.ob_base.specs.declared.schema.Heading.{Heading}
use Rattle.ob_base.specs.declared.schema.Shape.{Shape}
use Rattle.ob_base.specs.declared.schema.Shape.TheVariants.{Flat, Indexed}
use Rattle.ob_base.specs.declared.skeleton.NewColumn.{NewColumn}
use Rattle.std.specs.Int.{is_in_range}
use Rattle.ob_base.specs.Indexes.{by_shape, height_of, rows_open}
use Rattle.ob_base.specs.Schemas.{width, columns_of}
use Rattle.ob_sql.specs.declared.stmt.Stmt.{Stmt}
use Rattle.ob_mean.specs.Refusals.{first_holding, early_refusal, is_size, creates_past, is_past_limit, lacks_table, takes_name, lacks_column, has_wrong_type, is_out_of_range, breaks_key_rule, joins_off_key, needs_key, index_past, Limits}

-- none of the conditions holds
pub record Allowed (late : Bool) (given : Limits) (hs : List Heading) (stmt : Stmt) : Type 0 where
  pub tables : lacks_table hs stmt ≡ false
  pub names : takes_name hs stmt ≡ false
  pub columns : lacks_column hs stmt ≡ false
  pub types : has_wrong_type hs stmt ≡ false
  pub values : is_out_of_range hs stmt ≡ false
  pub limits : is_past_limit given hs stmt ≡ false
  pub early : late ≡ false
  pub keys : breaks_key_rule hs stmt ≡ false
  pub joins : joins_off_key hs stmt ≡ false
  pub keyed : needs_key hs stmt ≡ false

-- the first of a list that has no true condition, and the others
none_of : (a : Bool) (r : Refusal) (xs : List (Bool × Refusal)) → first_holding ((a, r) ∷ xs) ≡ None → (a ≡ false) × (first_holding xs ≡ None)
none_of true r xs h = cc
none_of false r xs h = (refl, h)

pub neither : (a b : Bool) → (a || b) ≡ false → (a ≡ false) × (b ≡ false)
neither true b h = cc
neither false true h = cc
neither false false h = (refl, refl)

-- the nine conditions over plain values
nine : (a b c d e f g h i : Bool) (r1 r2 r3 r4 r5 r6 r7 r8 r9 : Refusal) →
    first_holding ((a, r1) ∷ (b, r2) ∷ (c, r3) ∷ (d, r4) ∷ (e, r5) ∷ (f, r6) ∷ (g, r7) ∷ (h, r8) ∷ (i, r9) ∷ []) ≡ None →
    (a ≡ false) × (b ≡ false) × (c ≡ false) × (d ≡ false) × (e ≡ false) × (f ≡ false) × (g ≡ false) × (h ≡ false) × (i ≡ false)
nine a b c d e f g h i r1 r2 r3 r4 r5 r6 r7 r8 r9 none =
    let first = none_of a r1 ((b, r2) ∷ (c, r3) ∷ (d, r4) ∷ (e, r5) ∷ (f, r6) ∷ (g, r7) ∷ (h, r8) ∷ (i, r9) ∷ []) none in
    let second = none_of b r2 ((c, r3) ∷ (d, r4) ∷ (e, r5) ∷ (f, r6) ∷ (g, r7) ∷ (h, r8) ∷ (i, r9) ∷ []) first.1 in
    let third = none_of c r3 ((d, r4) ∷ (e, r5) ∷ (f, r6) ∷ (g, r7) ∷ (h, r8) ∷ (i, r9) ∷ []) second.1 in
    let fourth = none_of d r4 ((e, r5) ∷ (f, r6) ∷ (g, r7) ∷ (h, r8) ∷ (i, r9) ∷ []) third.1 in
    let fifth = none_of e r5 ((f, r6) ∷ (g, r7) ∷ (h, r8) ∷ (i, r9) ∷ []) fourth.1 in
    let sixth = none_of f r6 ((g, r7) ∷ (h, r8) ∷ (i, r9) ∷ []) fifth.1 in
    let seventh = none_of g r7 ((h, r8) ∷ (i, r9) ∷ []) sixth.1 in
    let eighth = none_of h r8 ((i, r9) ∷ []) seventh.1 in
    let last = none_of i r9 [] eighth.1 in
    (first.0, second.0, third.0, fourth.0, fifth.0, sixth.0, seventh.0, eighth.0, last.0)

pub allowed : (late : Bool) (limits : Limits) (hs : List Heading) (stmt : Stmt) → early_refusal late limits hs stmt ≡ None → Allowed late limits hs stmt
allowed late limits hs stmt none =
    let all = nine (lacks_table hs stmt) (takes_name hs stmt) (lacks_column hs stmt) (has_wrong_type hs stmt) (is_out_of_range hs stmt)
    (is_past_limit limits hs stmt || late) (breaks_key_rule hs stmt) (joins_off_key hs stmt) (needs_key hs stmt) NoTable NameTaken NoColumn WrongType ValueRange Limit KeyRule JoinKey NeedsKey none in
    let both = neither (is_past_limit limits hs stmt) late all.5 in
    record {
      tables = all.0;
      names = all.1;
      columns = all.2;
      types = all.3;
      values = all.4;
      limits = both.0;
      early = both.1;
      keys = all.6;
      joins = all.7;
      keyed = all.8;
    }

-- a new table is within the limits, flat where the tables are kept, and no access of an index has more rows open than may be
pub record IsWithin (limits : Limits) (hs : List Heading) (table : List ℕ) (columns : List NewColumn) (capacity : ℕ) (shape : Shape) : Type 0 where
  pub least : 1 ≤ capacity
  pub most : capacity ≤ 1048576
  pub some : 1 ≤ length columns
  pub few : length columns ≤ 16
  pub sizes : list_any (λ (c : NewColumn). not (is_size c.kind)) columns ≡ false
  pub wide : width (columns_of table columns) ≤ 1024
  pub tables : length hs < 64
  pub flat : limits.keep ≡ true → shape ≡ Flat
  pub room : shape ≡ Indexed → rows_open (height_of capacity) limits.stash ≤ limits.buffer

bounds : (low high n : ℕ) → not (is_in_range low high n) ≡ false → (low ≤ n) × (n ≤ high)
bounds low high n h = (grind (arith, nat_tests), grind (arith, nat_tests))

at_most : (n m : ℕ) → nat_lt n m ≡ false → m ≤ n
at_most n m h = grind (arith, nat_tests)

less : (n m : ℕ) → nat_le n m ≡ false → m < n
less n m h = grind (arith, nat_tests)

-- five conditions over plain values
five : (a b c d e : Bool) → (a || b || c || d || e) ≡ false → (a ≡ false) × (b ≡ false) × (c ≡ false) × (d ≡ false) × (e ≡ false)
five true b c d e h = cc
five false true c d e h = cc
five false false true d e h = cc
five false false false true e h = cc
five false false false false true h = cc
five false false false false false h = (refl, refl, refl, refl, refl)

-- no index is made where the tables are kept
not_indexed : (limits : Limits) (capacity : ℕ) (shape : Shape) → by_shape shape false (index_past limits capacity) ≡ false → limits.keep ≡ true → shape ≡ Flat
not_indexed limits capacity Flat h kept = refl
not_indexed limits capacity Indexed h kept =
    let free = (neither limits.keep (nat_lt limits.buffer (rows_open (height_of capacity) limits.stash)) h).0 in absurd (cc (free, kept))

index_room : (limits : Limits) (capacity : ℕ) (shape : Shape) → by_shape shape false (index_past limits capacity) ≡ false → shape ≡ Indexed
    → rows_open (height_of capacity) limits.stash ≤ limits.buffer
index_room limits capacity Flat h indexed = absurd (cc indexed)
index_room limits capacity Indexed h indexed =
    at_most limits.buffer (rows_open (height_of capacity) limits.stash) (neither limits.keep (nat_lt limits.buffer (rows_open (height_of capacity) limits.stash)) h).1

pub within : (limits : Limits) (hs : List Heading) (table : List ℕ) (columns : List NewColumn) (capacity : ℕ) (shape : Shape)
    → (creates_past hs table columns capacity || by_shape shape false (index_past limits capacity)) ≡ false
    → IsWithin limits hs table columns capacity shape
within limits hs table columns capacity shape h =
    let both = neither (creates_past hs table columns capacity) (by_shape shape false (index_past limits capacity)) h in
    let all = five (not (is_in_range 1 1048576 capacity)) (not (is_in_range 1 16 (length columns))) (list_any (λ (c : NewColumn). not (is_size c.kind)) columns)
    (nat_lt 1024 (width (columns_of table columns))) (nat_le 64 (length hs)) both.0 in
    let capacity_is = bounds 1 1048576 capacity all.0 in
    let length_is = bounds 1 16 (length columns) all.1 in
    record {
      least = capacity_is.0;
      most = capacity_is.1;
      some = length_is.0;
      few = length_is.1;
      sizes = all.2;
      wide = at_most 1024 (width (columns_of table columns)) all.3;
      tables = less 64 (length hs) all.4;
      flat = not_indexed limits capacity shape both.1;
      room = index_room limits capacity shape both.1;
    }

-- its keys are few
pub keys_few : (hs : List Heading) (table : List ℕ) (columns : List NewColumn) (capacity : ℕ) → creates_past hs table columns capacity ≡ false → capacity ≤ 16777216
keys_few hs table columns capacity h =
    let all = five (not (is_in_range 1 1048576 capacity)) (not (is_in_range 1 16 (length columns))) (list_any (λ (c : NewColumn). not (is_size c.kind)) columns)
    (nat_lt 1024 (width (columns_of table columns))) (nat_le 64 (length hs)) h in
    let bound = bounds 1 1048576 capacity all.0 in
    omega (arith, bound.1)
