-- The primary key of a new index.
use Rattle.ob_tables.proofs.Words.{ap, arith, Bool, Column, Columns, columns_of, cond, false, length, List, nat_lt, nat_tests, refl, Some, suc, sym, true, zero, ℕ, [], ◌&&◌, ◌+◌, ◌<◌, ◌||◌, ◌∙◌, ◌∷◌, ◌≡◌, ◌≤◌}
use Rattle.std.specs.Prelude.{sum_by}
use Rattle.std.proofs.lemmas.List.Sums.{sum_by-cons}
use Rattle.ob_base.specs.declared.schema.Kind.TheVariants.{Int as IntKind}
use Rattle.ob_base.specs.declared.skeleton.NewColumn.{NewColumn}
use Rattle.ob_base.specs.declared.skeleton.NewKind.{NewKind}
use Rattle.ob_base.specs.declared.skeleton.NewKind.TheVariants.{Int as NewInt, Varchar as NewVarchar}
use Rattle.ob_base.specs.Lists.{first, places_from}
use Rattle.ob_base.specs.Schemas.{kind_of}
use Rattle.ob_mean.specs.Refusals.{has_int_key, is_int}
use Rattle.ob_oram.specs.Keys.{IsIntKey}
use Rattle.ob_row.specs.Spelling.{kind_at}

abbrev keys_of : List NewColumn → ℕ
keys_of columns = sum_by (λ (c : NewColumn). c.keys) columns

-- the first key of these columns stands at a place, counted on from n, and is an INT
record IsKeyFrom (n : ℕ) (columns : Columns) : Type 0 where
  number : ℕ
  place : ℕ
  is : first (places_from n (λ (c : Column). c.key) columns) ≡ Some number
  sum : number ≡ n + place
  within : place < length columns
  int : kind_at columns place ≡ IntKind

int_kind : (kind : NewKind) → is_int kind ≡ true → kind_of kind ≡ IntKind
int_kind NewInt is = refl
int_kind (NewVarchar n) is = absurd (cc is)

-- without a key none is an INT
no_int : (columns : List NewColumn) → keys_of columns ≡ 0 → has_int_key columns ≡ false
no_int [] none = refl
no_int (c ∷ cs) none =
    let sum = sum_by-cons (λ (d : NewColumn). d.keys) c cs in
    let rest = no_int cs (omega (arith, sum, none)) in
    let own : c.keys ≡ 0 = omega (arith, sum, none) in
    let off : nat_lt 0 c.keys ≡ false = grind (arith, nat_tests) in
    ap (λ (b : Bool). (b && is_int c.kind) || has_int_key cs) off ∙ rest

key_from : (table : List ℕ) (n : ℕ) (columns : List NewColumn) → has_int_key columns ≡ true → keys_of columns ≤ 1 → IsKeyFrom n (columns_of table columns)
key_from table n [] has few = absurd (cc has)
key_from table n (c ∷ cs) has few =
    head (nat_lt 0 c.keys) refl (λ there less. key_from table (suc n) cs there less)
  where
    sum : keys_of (c ∷ cs) ≡ c.keys + keys_of cs
    sum = sum_by-cons (λ (d : NewColumn). d.keys) c cs

    -- the first is a key: no other is, so it is the INT
    own : nat_lt 0 c.keys ≡ true → is_int c.kind ≡ true
    own key =
        let some : 1 ≤ c.keys = grind (arith, nat_tests) in
        let none = no_int cs (omega (arith, sum, few, some)) in
        by (is_int c.kind) (sym (ap (λ (b : Bool). (b && is_int c.kind) || has_int_key cs) key) ∙ has) none
      where
        by : (b : Bool) → (b || has_int_key cs) ≡ true → has_int_key cs ≡ false → b ≡ true
        by true both none = refl
        by false both none = absurd (cc (both, none))

    others : nat_lt 0 c.keys ≡ false → has_int_key cs ≡ true
    others off = sym (ap (λ (b : Bool). (b && is_int c.kind) || has_int_key cs) off) ∙ has

    head : (b : Bool) → nat_lt 0 c.keys ≡ b → (has_int_key cs ≡ true → keys_of cs ≤ 1 → IsKeyFrom (suc n) (columns_of table cs)) → IsKeyFrom n (columns_of table (c ∷ cs))
    head true key more = record {
      number = n;
      place = zero;
      is = ap (λ (b : Bool). first (cond b (n ∷ places_from (suc n) (λ (d : Column). d.key) (columns_of table cs)) (places_from (suc n) (λ (d : Column). d.key) (columns_of table cs)))) key;
      sum = omega (arith);
      within = omega (arith);
      int = int_kind c.kind (own key);
    }
    head false off more =
        let rest = more (others off) (omega (arith, sum, few)) in
        record {
          number = rest.number;
          place = suc rest.place;
          is =
              ap (λ (b : Bool). first (cond b (n ∷ places_from (suc n) (λ (d : Column). d.key) (columns_of table cs)) (places_from (suc n) (λ (d : Column). d.key) (columns_of table cs)))) off
              ∙ rest.is;
          sum = let more = rest.sum in omega (arith, more);
          within = let less = rest.within in omega (arith, less);
          int = rest.int;
        }

-- an INT primary key and no other key is the index's
pub int_key : (table : List ℕ) (columns : List NewColumn) → has_int_key columns ≡ true → keys_of columns ≤ 1 → (place : ℕ) × IsIntKey (columns_of table columns) place
int_key table columns has few =
    let found = key_from table 0 columns has few in
    let same : found.number ≡ found.place = let sum = found.sum in omega (arith, sum) in (
      found.place,
      record { primary = found.is ∙ ap (λ (k : ℕ). Some k) same; within = found.within; int = found.int },
    )
