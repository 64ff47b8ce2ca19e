-- Where the parts of a closing's rows lie, and what they are read as.
use Rattle.std.proofs.Common.{◌≡◌, ◌≢◌, ◌==◌, ℕ, zero, suc, ◌+◌, ◌-◌, ◌*◌, ◌≤◌, Bool, true, false, List, [], ◌∷◌, ◌++◌, Option, Some, None, length, replicate, take, drop, get_or, refl, sym, ◌∙◌, ap, arith, length-append}
use Rattle.std.proofs.lemmas.List.{take_at, drop_at, length-replicate}
use Rattle.std.specs.Int.{to_be_bytes, w32, w64}
use Rattle.std.specs.List.{All, between}
use Rattle.ob_base.specs.declared.schema.Kind.{Kind}
use Rattle.ob_base.specs.declared.schema.Kind.TheVariants.{Int, Varchar}
use Rattle.ob_base.specs.declared.schema.Column.{Column}
use Rattle.ob_base.specs.Schemas.{Columns}
use Rattle.ob_seal.specs.Sealed.{IsSalt}
use Rattle.ob_reopen.specs.declared.listed.Listed.{Listed}
use Rattle.ob_reopen.specs.Spelling.{name_text, kind_text, key_text, column_text, columns_text, salt_text, table_text, head_text, FitsColumn, FitsText}

-- ---- lengths
pub length-name_text : (name : List ℕ) → length name ≤ 32 → length (name_text name) ≡ 33
length-name_text name few = simp (length-append, length-replicate) (omega arith)

pub length-kind_text : (kind : Kind) → length (kind_text kind) ≡ 2
length-kind_text Int = refl
length-kind_text (Varchar n) = refl

pub length-column_text : (c : Column) → length c.name ≤ 32 → length (column_text c) ≡ 36
length-column_text c few = omega (
  arith,
  length-append (name_text c.name) (kind_text c.kind ++ key_text c.key),
  length-append (kind_text c.kind) (key_text c.key),
  length-name_text c.name few,
  length-kind_text c.kind,
)

length-salt_text : (salt : Option (List ℕ)) → IsSalt salt → length (salt_text salt) ≡ 17
length-salt_text None is = length-replicate {A = ℕ} 17 0
length-salt_text (Some salt) is = omega (arith, is)

length-columns_text : (table : List ℕ) (n : ℕ) (cs : Columns) → All (FitsColumn table) cs → 36 * length cs ≤ n → length (columns_text n cs) ≡ n
length-columns_text table n [] fits few = length-replicate n 0
length-columns_text table n (c ∷ cs) fits few =
    let here = length-column_text c (fits 0 c (omega arith)).name in
    let rest = length-columns_text table (n - 36) cs (λ k d below. fits (suc k) d (omega (arith, below))) (omega (arith, few)) in
    omega (arith, length-append (column_text c) (columns_text (n - 36) cs), here, rest, few)

-- ---- a list in two parts
pub record InTwo (n : ℕ) (whole xs ys : List ℕ) : Type 0 where
  pub front : take n whole ≡ xs
  pub back : drop n whole ≡ ys

pub cut : (n : ℕ) (whole xs ys : List ℕ) → length xs ≡ n → whole ≡ xs ++ ys → InTwo n whole xs ys
cut n whole xs ys size is = record {
  front = ap (take n) is ∙ take_at xs ys n size;
  back = ap (drop n) is ∙ drop_at xs ys n size;
}

-- ---- names
pub name_len : (name field : List ℕ) → field ≡ name_text name → get_or field 0 0 ≡ length name
name_len name field is = ap (λ (l : List ℕ). get_or l 0 0) is

pub name_bytes : (name field : List ℕ) (n : ℕ) → field ≡ name_text name → n ≡ length name → between 1 (n + 1) field ≡ name
name_bytes name field n is len =
    let rest : List ℕ = replicate (32 - length name) 0 in
    let one : n + 1 - 1 ≡ length name = omega (arith, len) in
    (λ i. take (one i) (drop 1 (is i))) ∙ take_at name rest (length name) refl

-- ---- columns
pub kind_first : (kind : Kind) (a b : ℕ) → kind_text kind ≡ a ∷ b ∷ [] → a ≡ 0 → kind ≡ Int
kind_first Int a b is none = refl
kind_first (Varchar n) a b is none = absurd (cc (is, none))

pub kind_second : (kind : Kind) (a b : ℕ) → kind_text kind ≡ a ∷ b ∷ [] → a ≢ 0 → kind ≡ Varchar b
kind_second Int a b is off = absurd (off (cc is))
kind_second (Varchar n) a b is off = cc is

pub key_is : (key : Bool) (b : ℕ) → key_text key ≡ b ∷ [] → (b == 1) ≡ key
key_is true b is = let e : b ≡ 1 = cc is in ap (λ (n : ℕ). n == 1) e
key_is false b is = let e : b ≡ 0 = cc is in ap (λ (n : ℕ). n == 1) e

-- the last three bytes of a column
pub record LastParts (kind : Kind) (key : Bool) (rest : List ℕ) : Type 0 where
  pub kind_is : kind_text kind ≡ get_or rest 0 0 ∷ get_or rest 1 0 ∷ []
  pub key_at : key_text key ≡ get_or rest 2 0 ∷ []

pub last_parts : (kind : Kind) (key : Bool) (rest : List ℕ) → rest ≡ kind_text kind ++ key_text key → LastParts kind key rest
last_parts Int key rest is = record {
  kind_is = λ i. get_or (sym is i) 0 0 ∷ get_or (sym is i) 1 0 ∷ [];
  key_at = λ i. get_or (sym is i) 2 0 ∷ [];
}
last_parts (Varchar n) key rest is = record {
  kind_is = λ i. get_or (sym is i) 0 0 ∷ get_or (sym is i) 1 0 ∷ [];
  key_at = λ i. get_or (sym is i) 2 0 ∷ [];
}

pub record ColumnParts (c : Column) (name rest : List ℕ) : Type 0 where
  pub name_is : name ≡ name_text c.name
  pub rest_is : LastParts c.kind c.key rest

pub column_parts : (c : Column) (field name rest : List ℕ) → length c.name ≤ 32 → field ≡ column_text c → name ≡ take 33 field → rest ≡ drop 33 field → ColumnParts c name rest
column_parts c field name rest few is front back =
    let parts = cut 33 field (name_text c.name) (kind_text c.kind ++ key_text c.key) (length-name_text c.name few) is in
    record { name_is = front ∙ parts.front; rest_is = last_parts c.kind c.key rest (back ∙ parts.back) }

-- columns: the first of them, and the others after it
pub record FirstColumn (table : List ℕ) (n : ℕ) (cs : Columns) (field fields : List ℕ) : Type 0 where
  pub column : Column
  pub others : Columns
  pub split : cs ≡ column ∷ others
  pub fits : FitsColumn table column
  pub fit : All (FitsColumn table) others
  pub field_is : field ≡ column_text column
  pub fields_are : fields ≡ columns_text (n - 36) others

pub first_column : (table : List ℕ) (n : ℕ) (cs : Columns) (all field fields : List ℕ) → 1 ≤ length cs → All (FitsColumn table) cs → all ≡ columns_text n cs → field ≡ take 36 all → fields ≡ drop 36 all → FirstColumn table n cs field fields
first_column table n [] all field fields some fits is front back = absurd (omega (arith, some))
first_column table n (c ∷ cs) all field fields some fits is front back =
    let here = fits 0 c (omega arith) in
    let parts = cut 36 all (column_text c) (columns_text (n - 36) cs) (length-column_text c here.name) is in
    record {
      column = c;
      others = cs;
      split = refl;
      fits = here;
      fit = λ k d below. fits (suc k) d (omega (arith, below));
      field_is = front ∙ parts.front;
      fields_are = back ∙ parts.back;
    }

pub all_added : (table : List ℕ) (cs : Columns) (c : Column) → c.table ≡ table → All (λ (d : Column). d.table ≡ table) cs → All (λ (d : Column). d.table ≡ table) (cs ++ c ∷ [])
all_added table [] c here all zero d below = here
all_added table [] c here all (suc k) d below = absurd (omega (arith, below))
all_added table (x ∷ cs) c here all zero d below = all 0 x (omega arith)
all_added table (x ∷ cs) c here all (suc k) d below = all_added table cs c here (λ j e less. all (suc j) e (omega (arith, less))) k d (omega (arith, below))

-- ---- a table
pub record TableParts (t : Listed) (name region capacity number count fields salt : List ℕ) : Type 0 where
  pub name_is : name ≡ name_text t.table.heading.name
  pub region_is : region ≡ to_be_bytes w64 t.table.region
  pub capacity_is : capacity ≡ to_be_bytes w32 t.table.heading.capacity
  pub number_is : number ≡ to_be_bytes w64 t.number
  pub count_is : count ≡ length t.table.heading.schema ∷ []
  pub fields_is : fields ≡ columns_text 953 t.table.heading.schema
  pub salt_is : salt ≡ salt_text t.salt

pub table_parts : (t : Listed) (text name r1 region r2 capacity r3 number r4 count r5 fields salt : List ℕ) → FitsText t → text ≡ table_text t
    → name ≡ take 33 text → r1 ≡ drop 33 text → region ≡ take 8 r1 → r2 ≡ drop 8 r1 → capacity ≡ take 4 r2 → r3 ≡ drop 4 r2
    → number ≡ take 8 r3 → r4 ≡ drop 8 r3 → count ≡ take 1 r4 → r5 ≡ drop 1 r4 → fields ≡ take 953 r5 → salt ≡ drop 953 r5
    → TableParts t name region capacity number count fields salt
unfolding table_text
table_parts t text name r1 region r2 capacity r3 number r4 count r5 fields salt fits is e1 b1 e2 b2 e3 b3 e4 b4 e5 b5 e6 b6 =
    let columns = t.table.heading.schema in
    let few = fits.few in
    let t5 = columns_text 953 columns ++ salt_text t.salt in
    let t4 = length columns ∷ t5 in
    let t3 = to_be_bytes w64 t.number ++ t4 in
    let t2 = to_be_bytes w32 t.table.heading.capacity ++ t3 in
    let t1 = to_be_bytes w64 t.table.region ++ t2 in
    let c1 = cut 33 text (name_text t.table.heading.name) t1 (length-name_text t.table.heading.name fits.name) is in
    let c2 = cut 8 r1 (to_be_bytes w64 t.table.region) t2 refl (b1 ∙ c1.back) in
    let c3 = cut 4 r2 (to_be_bytes w32 t.table.heading.capacity) t3 refl (b2 ∙ c2.back) in
    let c4 = cut 8 r3 (to_be_bytes w64 t.number) t4 refl (b3 ∙ c3.back) in
    let c5 = cut 1 r4 (length columns ∷ []) t5 refl (b4 ∙ c4.back) in
    let c6 = cut 953 r5 (columns_text 953 columns) (salt_text t.salt) (length-columns_text t.table.heading.name 953 columns fits.columns (omega (arith, few))) (b5 ∙ c5.back) in
    record {
      name_is = e1 ∙ c1.front;
      region_is = e2 ∙ c2.front;
      capacity_is = e3 ∙ c3.front;
      number_is = e4 ∙ c4.front;
      count_is = e5 ∙ c5.front;
      fields_is = e6 ∙ c6.front;
      salt_is = b6 ∙ c6.back;
    }

-- ---- how long the rows are
pub length-table_text : (t : Listed) → length t.table.heading.name ≤ 32 → length t.table.heading.schema ≤ 16 → All (FitsColumn t.table.heading.name) t.table.heading.schema → IsSalt t.salt → length (table_text t) ≡ 1024
unfolding table_text
length-table_text t short few fits long =
    let columns = t.table.heading.schema in
    let name = length-name_text t.table.heading.name short in
    let fields = length-columns_text t.table.heading.name 953 columns fits (omega (arith, few)) in
    let salt = length-salt_text t.salt long in
    omega (
      arith,
      length-append (name_text t.table.heading.name) (to_be_bytes w64 t.table.region ++ (to_be_bytes w32 t.table.heading.capacity ++ (to_be_bytes w64 t.number ++ (length columns ∷ (columns_text 953 columns ++ salt_text t.salt))))),
      length-append (columns_text 953 columns) (salt_text t.salt),
      name,
      fields,
      salt,
    )

pub length-head_text : (next count : ℕ) → length (head_text next count) ≡ 1024
unfolding head_text
length-head_text next count = let n : length (replicate {A = ℕ} 1004 0) ≡ 1004 = length-replicate {A = ℕ} 1004 0 in omega (arith, n)
