-- The tables of an engine, after a pass.
use Rattle.ob_tables.proofs.Words.{ap, AreFlat, AreTables, arith, Bool, by_shape, bytes_eq, bytes_eq-Decides, cond, false, flat_of, get_or, headings_of, if◌then◌else◌, Index, index_kept, Indexed, inl, inr, IsAt, IsBeside, IsFlat, IsIndexIn, IsIndexOfTable, IsStashOf, IsTable, IsTableRegion, IsTreeOf, Lasts, length, length-append, length-map, List, map, None, none, one, Option, option_map, others_of, Ready, refl, Region, slice_get, slice_set, Some, Stored, stored_at, stored_regions, subst, suc, sym, true, two, World, zero, ℕ, [], ◌++◌, ◌<◌, ◌∙◌, ◌∷◌, ◌≡◌, ◌≤◌, ◌⊎◌}
use Rattle.std.proofs.lemmas.Option.{slice_get-map}
use Rattle.ob_base.specs.declared.schema.Shape.{Shape}
use Rattle.ob_base.specs.declared.schema.Shape.TheVariants.{Flat as FlatShape}
use Rattle.ob_base.specs.declared.schema.Table.{Table}
use Rattle.ob_script.specs.Tables.{moved}
use Rattle.ob_flat.specs.declared.flat.Flat.{Flat}
use Rattle.ob_tables.specs.Engines.{IsIndexAt}
use Rattle.ob_reopen.proofs.Lists.{got_last}

pub no_entry : {A : Type 0} (xs : List A) (i : ℕ) (x : A) → xs ≡ [] → slice_get xs i ≡ Some x → ⊥
no_entry [] zero x none is = absurd (cc is)
no_entry [] (suc i) x none is = absurd (cc is)
no_entry (y ∷ ys) i x none is = absurd (cc none)

-- without an index, only the closing is none of a table
pub no_stash : (indexes : List Index) (q : ℕ) → indexes ≡ [] → IsStashOf indexes q → ⊥
no_stash indexes q none of = no_entry indexes of.place of.index none of.get

-- no table, no index, and no region
pub no_tables : (pack : ℕ) (w : World) (ts : List Table) (indexes : List Index) → ts ≡ [] → indexes ≡ [] → ((q : ℕ) → w.vault.revs.live q ≡ None) → AreTables ts (others_of None indexes) indexes pack w
unfolding others_of
no_tables pack w ts indexes none unindexed empty = record {
  each = λ i t is. absurd (no_entry ts i t none is);
  few = let long = ap length none in omega (arith, long);
  apart = λ i j t u is. absurd (no_entry ts i t none is);
  names = λ i j t u is. absurd (no_entry ts i t none is);
  beside = λ q is. elim is [ inl closed ↦ absurd (cc closed) | inr of ↦ absurd (no_stash indexes q unindexed of) ];
  only = λ q shape live. absurd (cc (live, empty q));
  stand = λ k x is. absurd (no_entry indexes k x unindexed is);
  has = λ i t is. absurd (no_entry ts i t none is);
  one = λ k l x y is. absurd (no_entry indexes k x unindexed is);
}

-- what stands at a place of a list, whatever it has elsewhere
pub got_or : {A : Type 0} (xs : List A) (i : ℕ) (x d : A) → slice_get xs i ≡ Some x → get_or xs i d ≡ x
got_or [] zero x d is = absurd (cc is)
got_or [] (suc i) x d is = absurd (cc is)
got_or (y ∷ ys) zero x d is = cc is
got_or (y ∷ ys) (suc i) x d is = got_or ys i x d is

-- ---- tables of which each is flat
each_flat : (ts : List Table) → ((i : ℕ) (t : Table) → slice_get ts i ≡ Some t → t.heading.shape ≡ FlatShape) → AreFlat (headings_of ts)
each_flat [] each = tt
each_flat (t ∷ ts) each = (each 0 t refl, each_flat ts (λ i u is. each (suc i) u is))

pub flat_each : (ts : List Table) → AreFlat (headings_of ts) → (i : ℕ) (t : Table) → slice_get ts i ≡ Some t → t.heading.shape ≡ FlatShape
flat_each [] flat zero t is = absurd (cc is)
flat_each [] flat (suc i) t is = absurd (cc is)
flat_each (u ∷ ts) flat zero t is = let same : u ≡ t = cc is in subst (λ (v : Table). v.heading.shape ≡ FlatShape) same flat.0
flat_each (u ∷ ts) flat (suc i) t is = flat_each ts flat.1 i t is

-- as they are without an index
pub tables_flat : {ts : List Table} {other : ℕ → Type 0} {indexes : List Index} {pack : ℕ} {w : World} → indexes ≡ [] → AreTables ts other indexes pack w → AreFlat (headings_of ts)
tables_flat {ts} {other} {indexes} none tables = each_flat ts (λ i t is. shaped t.heading.shape refl (tables.has i t is))
  where
    shaped : {region : ℕ} (shape : Shape) → {now : Shape} → now ≡ shape → (now ≡ Indexed → IsTreeOf indexes region) → now ≡ FlatShape
    shaped FlatShape is has = is
    shaped Indexed is has = let of = has is in absurd (no_entry indexes of.place of.index none of.get)

-- an index whose tree lies in the region of a table is that of the table
pub index_of_table : {ts : List Table} {other : ℕ → Type 0} {indexes : List Index} {pack : ℕ} {w : World} → AreTables ts other indexes pack w → (i : ℕ) (t : Table) → slice_get ts i ≡ Some t
    → (k : ℕ) (x : Index) → slice_get indexes k ≡ Some x → x.tree ≡ t.region → IsIndexOfTable t x
index_of_table tables i t at k x get tree =
    let here = tables.stand k x get in
    let same : here.place ≡ i = tables.apart here.place i here.table t here.get at (sym here.of.tree ∙ tree) in
    let one_table : here.table ≡ t = cc (here.get, at, same) in
    subst (λ (u : Table). IsIndexOfTable u x) one_table here.of

pub index_at : {ts : List Table} {other : ℕ → Type 0} {indexes : List Index} {pack : ℕ} {w : World} → AreTables ts other indexes pack w → (name : List ℕ) (i : ℕ) (t : Table) → IsAt name i t ts
    → (k : ℕ) (x : Index) → slice_get indexes k ≡ Some x → x.tree ≡ t.region → IsIndexAt name i k ts indexes
index_at tables name i t at k x get tree = record {
  table = t;
  index = x;
  here = record { get = at.get; named = at.named };
  get = get;
  of = index_of_table tables i t at.get k x get tree;
}

-- ---- by the shape of the one of a name
-- the one of a name that a statement changes lies in another region, where none of that name is an index
abbrev pub shifted : List ℕ → ℕ → List Table → List Table
shifted name region ts = map (λ (t : Table). if bytes_eq t.heading.name name then record t { region = region } else t) ts

-- tables of which none of a name is an index
abbrev pub NamedFlat : List ℕ → List Table → Type 0
NamedFlat name ts = (i : ℕ) (t : Table) → slice_get ts i ≡ Some t → t.heading.name ≡ name → t.heading.shape ≡ FlatShape

shift_head : (g : ℕ) (t : Table) (b : Bool) → (b ≡ true → t.heading.shape ≡ FlatShape) → (if b then by_shape t.heading.shape (record t { region = g }) t else t) ≡ (if b then record t { region = g } else t)
shift_head g t true flat = ap (λ (shape : Shape). by_shape shape (record t { region = g }) t) (flat refl)
shift_head g t false flat = refl

pub shifted_is : (name : List ℕ) (g : ℕ) (ts : List Table) → NamedFlat name ts → moved name g ts ≡ shifted name g ts
shifted_is name g [] flat = refl
shifted_is name g (t ∷ ts) flat =
    let first = shift_head g t (bytes_eq t.heading.name name) (λ hit. flat 0 t refl ((bytes_eq-Decides t.heading.name name).0 hit)) in
    let rest = shifted_is name g ts (λ i u is. flat (suc i) u is) in
    λ i. first i ∷ rest i

-- a table whose region has not changed
pub flat_kept : (some : ℕ → Type 0) (pack : ℕ) (flat : Flat) (old new : World) → Lasts some old new → (some flat.region → ⊥) → IsFlat pack flat old → IsFlat pack flat new
flat_kept some pack flat old new lasts apart is = record {
  made = record {
    order = is.made.order;
    lives = record { live = lasts.apart.live flat.region apart ∙ is.made.lives.live };
    turn = record {
      turn = λ round. is.made.turn.turn round ∙ sym (lasts.apart.turn flat.region apart);
      run = λ round off. absurd (off refl);
    };
  };
  written = λ p less. record { number = λ zero_is. (is.written p less).number (sym (lasts.apart.number flat.region p apart) ∙ zero_is) };
}

pub table_kept : (some : ℕ → Type 0) (pack : ℕ) (t : Table) (old new : World) → Lasts some old new → (some t.region → ⊥) → IsTable pack t old → IsTable pack t new
table_kept some pack t old new lasts apart is = record {
  heading = is.heading;
  least = is.least;
  live = record { shape = is.live.shape; lives = record { live = lasts.apart.live t.region apart ∙ is.live.lives.live } };
  written = λ shape. let was = is.written shape in record {
    flat = flat_kept some pack (flat_of t) old new lasts apart was.flat;
    round = record { live = lasts.apart.live t.region apart ∙ was.round.live };
  };
}

-- the region of a table is below the next
pub region_below : (pack i : ℕ) (ts : List Table) {other : ℕ → Type 0} {indexes : List Index} (t : Table) (w : World) → Ready w → AreTables ts other indexes pack w → slice_get ts i ≡ Some t → t.region < w.vault.next
region_below pack i ts t w ready tables is = ready.below t.region _ (tables.each i t is).live.lives.live

-- so is that of a closing
pub beside_below : (pack : ℕ) (ts : List Table) (other : ℕ → Type 0) {indexes : List Index} (q : ℕ) (w : World) → Ready w → AreTables ts other indexes pack w → other q → q < w.vault.next
beside_below pack ts other q w ready tables is = let beside = tables.beside q is in ready.below q beside.shape beside.lives.live

-- a closing whose region has not changed, beside tables of which none lies there
pub beside_kept : (some : ℕ → Type 0) (ts us : List Table) (q : ℕ) (old new : World) → Lasts some old new → (some q → ⊥) → (IsTableRegion us q → IsTableRegion ts q) → IsBeside ts q old → IsBeside us q new
beside_kept some ts us q old new lasts apart was beside = record {
  shape = beside.shape;
  lives = record { live = lasts.apart.live q apart ∙ beside.lives.live };
  off = λ of. beside.off (was of);
}

-- after a pass that changed no table's region, and left none of its own
pub tables_kept : (some : ℕ → Type 0) (pack : ℕ) (ts : List Table) (other : ℕ → Type 0) (indexes : List Index) (old new : World) → Lasts some old new
    → ((i : ℕ) (t : Table) → slice_get ts i ≡ Some t → some t.region → ⊥)
    → ((q : ℕ) → other q → some q → ⊥)
    → ((q : ℕ) (shape : Region) → new.vault.revs.live q ≡ Some shape → some q → ⊥)
    → AreTables ts other indexes pack old → AreTables ts other indexes pack new
tables_kept some pack ts other indexes old new lasts apart off gone tables = record {
  stand = λ k x is. let at = tables.stand k x is in record {
    place = at.place;
    table = at.table;
    get = at.get;
    of = at.of;
    beside = at.beside;
    stands = index_kept some old new lasts x (λ hit. apart at.place at.table at.get (subst some at.of.tree hit)) (off x.stash at.beside) at.stands;
  };
  has = tables.has;
  one = tables.one;
  each = λ i t is. table_kept some pack t old new lasts (apart i t is) (tables.each i t is);
  few = tables.few;
  apart = tables.apart;
  names = tables.names;
  beside = λ q is. beside_kept some ts ts q old new lasts (off q is) (λ of. of) (tables.beside q is);
  only = λ q shape live. tables.only q shape (sym (lasts.apart.live q (gone q shape live)) ∙ live);
}

-- ---- one table more
-- an element of a longer list is one of the list, or the last
pub get_more : {A : Type 0} (xs : List A) (x y : A) (i : ℕ) → slice_get (xs ++ x ∷ []) i ≡ Some y → (slice_get xs i ≡ Some y) ⊎ ((i ≡ length xs) × (y ≡ x))
get_more [] x y zero is = inr (refl, cc is)
get_more [] x y (suc i) is = absurd (cc is)
get_more (z ∷ xs) x y zero is = inl is
get_more (z ∷ xs) x y (suc i) is = elim (get_more xs x y i is) [ inl here ↦ inl here | inr last ↦ inr (ap suc last.0, last.1) ]

pub get_front : {A : Type 0} (xs : List A) (x y : A) (i : ℕ) → slice_get xs i ≡ Some y → slice_get (xs ++ x ∷ []) i ≡ Some y
get_front [] x y zero is = absurd (cc is)
get_front [] x y (suc i) is = absurd (cc is)
get_front (z ∷ xs) x y zero is = is
get_front (z ∷ xs) x y (suc i) is = get_front xs x y i is

-- its region, the next, and maybe one more after it were made, and what stands beside the tables then
pub record Beyond (ts : List Table) (other after : ℕ → Type 0) (indexes more : List Index) (new_table : Table) (new : World) : Type 0 where
  pub keeps : (q : ℕ) → other q → after q
  pub beside : (q : ℕ) → after q → other q ⊎ IsBeside (ts ++ new_table ∷ []) q new
  pub stand : (k : ℕ) (x : Index) → slice_get more k ≡ Some x → (slice_get indexes k ≡ Some x) ⊎ IsIndexIn (ts ++ new_table ∷ []) after x new
  pub has : (q : ℕ) → IsTreeOf indexes q → IsTreeOf more q
  pub new_has : new_table.heading.shape ≡ Indexed → IsTreeOf more new_table.region
  pub one : (k l : ℕ) (x y : Index) → slice_get more k ≡ Some x → slice_get more l ≡ Some y → x.tree ≡ y.tree → k ≡ l

module _ (pack g : ℕ) (some : ℕ → Type 0) (ts : List Table) (other after : ℕ → Type 0) (indexes more : List Index) (new_table : Table) (old new : World) (lasts : Lasts some old new) (ready : Ready old)
    (next : g ≡ old.vault.next) (above : (q : ℕ) → some q → g ≤ q)
    (tables : AreTables ts other indexes pack old) (room : length ts < 64) (fresh : new_table.region ≡ g) (is_table : IsTable pack new_table new)
    (unnamed : (i : ℕ) (t : Table) → slice_get ts i ≡ Some t → t.heading.name ≡ new_table.heading.name → ⊥)
    (beyond : Beyond ts other after indexes more new_table new) where
  below : (i : ℕ) (t : Table) → slice_get ts i ≡ Some t → t.region < g
  below i t is = let less = region_below pack i ts t old ready tables is in omega (arith, less, next)

  apart_new : (i : ℕ) (t : Table) → slice_get ts i ≡ Some t → some t.region → ⊥
  apart_new i t is hit = let high = above t.region hit in let low = below i t is in omega (arith, high, low)

  apart_beside : (q : ℕ) → other q → some q → ⊥
  apart_beside q is hit = let high = above q hit in let low = beside_below pack ts other q old ready tables is in omega (arith, high, low, next)

  added_each : (i : ℕ) (t : Table) → slice_get (ts ++ new_table ∷ []) i ≡ Some t → IsTable pack t new
  added_each i t is = elim (get_more ts new_table t i is) [
    | inl here ↦ table_kept some pack t old new lasts (apart_new i t here) (tables.each i t here)
    | inr last ↦ subst (λ (u : Table). IsTable pack u new) (sym last.1) is_table
  ]

  added_apart : (i j : ℕ) (t u : Table) → slice_get (ts ++ new_table ∷ []) i ≡ Some t → slice_get (ts ++ new_table ∷ []) j ≡ Some u → t.region ≡ u.region → i ≡ j
  added_apart i j t u is js same = elim (get_more ts new_table t i is) [
    | inl here ↦ elim (get_more ts new_table u j js) [
      | inl there ↦ tables.apart i j t u here there same
      | inr last ↦ absurd (omega (arith, below i t here, same, ap (λ (x : Table). x.region) last.1, fresh))
    ]
    | inr last ↦ elim (get_more ts new_table u j js) [
      | inl there ↦ absurd (omega (arith, below j u there, same, ap (λ (x : Table). x.region) last.1, fresh))
      | inr other ↦ last.0 ∙ sym other.0
    ]
  ]

  added_names : (i j : ℕ) (t u : Table) → slice_get (ts ++ new_table ∷ []) i ≡ Some t → slice_get (ts ++ new_table ∷ []) j ≡ Some u → t.heading.name ≡ u.heading.name → i ≡ j
  added_names i j t u is js same = elim (get_more ts new_table t i is) [
    | inl here ↦ elim (get_more ts new_table u j js) [
      | inl there ↦ tables.names i j t u here there same
      | inr last ↦ absurd (unnamed i t here (same ∙ ap (λ (x : Table). x.heading.name) last.1))
    ]
    | inr last ↦ elim (get_more ts new_table u j js) [
      | inl there ↦ absurd (unnamed j u there (sym same ∙ ap (λ (x : Table). x.heading.name) last.1))
      | inr other ↦ last.0 ∙ sym other.0
    ]
  ]

  added_few : length (ts ++ new_table ∷ []) ≤ 64
  added_few = let long = length-append ts (new_table ∷ []) in omega (arith, long, room)

  old_beside : (q : ℕ) → other q → IsBeside (ts ++ new_table ∷ []) q new
  old_beside q is =
      let less = beside_below pack ts other q old ready tables is in
      beside_kept some ts (ts ++ new_table ∷ []) q old new lasts (apart_beside q is)
      (λ of. elim (get_more ts new_table of.table of.place of.get) [
        | inl here ↦ record { place = of.place; table = of.table; get = here; region = of.region }
        | inr last ↦ absurd (omega (arith, less, next, of.region, ap (λ (x : Table). x.region) last.1, fresh))
      ]) (tables.beside q is)

  added_only : (q : ℕ) (shape : Region) → new.vault.revs.live q ≡ Some shape → (q ≡ g) ⊎ after q ⊎ (some q → ⊥) → IsTableRegion (ts ++ new_table ∷ []) q ⊎ after q
  added_only q shape live (inl here) = inl (record { place = length ts; table = new_table; get = got_last ts new_table; region = fresh ∙ sym here })
  added_only q shape live (inr (inl beside)) = inr beside
  added_only q shape live (inr (inr off)) = elim (tables.only q shape (sym (lasts.apart.live q off) ∙ live)) [
    | inl of ↦ inl (record { place = of.place; table = of.table; get = get_front ts new_table of.table of.place of.get; region = of.region })
    | inr was ↦ inr (beyond.keeps q was)
  ]

  old_index : (k : ℕ) (x : Index) → slice_get indexes k ≡ Some x → IsIndexIn (ts ++ new_table ∷ []) after x new
  old_index k x is =
      let at = tables.stand k x is in
      record {
        place = at.place;
        table = at.table;
        get = get_front ts new_table at.table at.place at.get;
        of = at.of;
        beside = beyond.keeps x.stash at.beside;
        stands = index_kept some old new lasts x (λ hit. apart_new at.place at.table at.get (subst some at.of.tree hit)) (apart_beside x.stash at.beside) at.stands;
      }

  pub tables_more : ((q : ℕ) → (q ≡ g) ⊎ after q ⊎ (some q → ⊥)) → AreTables (ts ++ new_table ∷ []) after more pack new
  tables_more cases = record {
    each = added_each;
    few = added_few;
    apart = added_apart;
    names = added_names;
    beside = λ q is. elim (beyond.beside q is) [ inl was ↦ old_beside q was | inr new_is ↦ new_is ];
    only = λ q shape live. added_only q shape live (cases q);
    stand = λ k x is. elim (beyond.stand k x is) [ inl was ↦ old_index k x was | inr new_is ↦ new_is ];
    has = λ i t is shape. elim (get_more ts new_table t i is) [
      | inl here ↦ beyond.has t.region (tables.has i t here shape)
      | inr last ↦ subst (λ (u : Table). IsTreeOf more u.region) (sym last.1) (beyond.new_has (sym (ap (λ (u : Table). u.heading.shape) last.1) ∙ shape))
    ];
    one = beyond.one;
  }

-- one flat table more
pub tables_added : (pack g : ℕ) (ts : List Table) (other : ℕ → Type 0) (indexes : List Index) (new_table : Table) (old new : World) → Lasts (one g) old new → Ready old → g ≡ old.vault.next
    → AreTables ts other indexes pack old → length ts < 64 → new_table.region ≡ g → new_table.heading.shape ≡ FlatShape → IsTable pack new_table new
    → ((i : ℕ) (t : Table) → slice_get ts i ≡ Some t → t.heading.name ≡ new_table.heading.name → ⊥)
    → ((q : ℕ) → (q ≡ g) ⊎ (q ≡ g → ⊥)) → AreTables (ts ++ new_table ∷ []) other indexes pack new
tables_added pack g ts other indexes new_table old new lasts ready next tables room fresh flat is_table unnamed cases =
    tables_more pack g (one g) ts other other indexes indexes new_table old new lasts ready next (λ q same. omega (arith, same)) tables room fresh is_table unnamed
    (record {
      keeps = λ q is. is;
      beside = λ q is. inl is;
      stand = λ k x is. inl is;
      has = λ q of. of;
      new_has = λ shape. absurd (cc (flat, shape));
      one = tables.one;
    })
    (λ q. elim (cases q) [ inl here ↦ inl here | inr off ↦ inr (inr off) ])

-- ---- a table that lies in another region
-- the test of a name
pub named : (a b : List ℕ) → (bytes_eq a b ≡ true) → a ≡ b
named a b is = (bytes_eq-Decides a b).0 is

module _ (pack g r : ℕ) (name : List ℕ) (ts : List Table) (other : ℕ → Type 0) (indexes : List Index) (t : Table) (i : ℕ) (old new : World) (lasts : Lasts (two r g) old new) (ready : Ready old) (next : g ≡ old.vault.next)
    (tables : AreTables ts other indexes pack old) (at_i : slice_get ts i ≡ Some t) (name_is : t.heading.name ≡ name) (region_is : t.region ≡ r)
    (flat : t.heading.shape ≡ FlatShape) (is_table : IsTable pack (record t { region = g }) new)
    (gone : (shape : Region) → new.vault.revs.live r ≡ Some shape → ⊥) where
  -- what stands at a place of the moved tables: the one that was moved, or another, as it was
  data MovedAt (j : ℕ) (u : Table) : Type 0 where
    this : (at : j ≡ i) → (is : u ≡ record t { region = g }) → MovedAt j u
    that : (off : j ≡ i → ⊥) → (was : slice_get ts j ≡ Some u) → MovedAt j u

  t_named : bytes_eq t.heading.name name ≡ true
  t_named = (bytes_eq-Decides t.heading.name name).1 name_is

  by_name : (j : ℕ) (u v : Table) → slice_get ts j ≡ Some v → (b : Bool) → bytes_eq v.heading.name name ≡ b → (if b then record v { region = g } else v) ≡ u → MovedAt j u
  by_name j u v was true is end =
      let same : j ≡ i = tables.names j i v t was at_i (named v.heading.name name is ∙ sym name_is) in
      let one_table : v ≡ t = cc (was, at_i, same) in
      this same (sym end ∙ ap (λ (x : Table). record x { region = g }) one_table)
  by_name j u v was false is end =
      that (λ same. let one_table : v ≡ t = cc (was, at_i, same) in absurd (cc (is, one_table, t_named)))
      (was ∙ ap (λ (x : Table). Some x) end)

  at_some : (j : ℕ) (u : Table) (o : Option Table) → slice_get ts j ≡ o → option_map (λ (v : Table). if bytes_eq v.heading.name name then record v { region = g } else v) o ≡ Some u → MovedAt j u
  at_some j u None was is = absurd (cc is)
  at_some j u (Some v) was is = by_name j u v was (bytes_eq v.heading.name name) refl (cc is)

  moved_at : (j : ℕ) (u : Table) → slice_get (shifted name g ts) j ≡ Some u → MovedAt j u
  moved_at j u is = at_some j u (slice_get ts j) refl (sym (slice_get-map (λ (v : Table). if bytes_eq v.heading.name name then record v { region = g } else v) ts j) ∙ is)

  get_this : slice_get (shifted name g ts) i ≡ Some (record t { region = g })
  get_this =
      slice_get-map (λ (v : Table). if bytes_eq v.heading.name name then record v { region = g } else v) ts i
      ∙ ap (option_map (λ (v : Table). if bytes_eq v.heading.name name then record v { region = g } else v)) at_i
      ∙ ap (λ (b : Bool). Some (if b then record t { region = g } else t)) t_named

  kept_by : (j : ℕ) (v : Table) → slice_get ts j ≡ Some v → (j ≡ i → ⊥) → (b : Bool) → bytes_eq v.heading.name name ≡ b → (if b then record v { region = g } else v) ≡ v
  kept_by j v was off true is = absurd (off (tables.names j i v t was at_i (named v.heading.name name is ∙ sym name_is)))
  kept_by j v was off false is = refl

  get_that : (j : ℕ) (v : Table) → slice_get ts j ≡ Some v → (j ≡ i → ⊥) → slice_get (shifted name g ts) j ≡ Some v
  get_that j v was off =
      slice_get-map (λ (u : Table). if bytes_eq u.heading.name name then record u { region = g } else u) ts j
      ∙ ap (option_map (λ (u : Table). if bytes_eq u.heading.name name then record u { region = g } else u)) was
      ∙ ap (λ (x : Table). Some x) (kept_by j v was off (bytes_eq v.heading.name name) refl)

  moved_below : (j : ℕ) (u : Table) → slice_get ts j ≡ Some u → u.region < g
  moved_below j u is = let less = region_below pack j ts u old ready tables is in omega (arith, less, next)

  moved_each : (j : ℕ) (u : Table) → slice_get (shifted name g ts) j ≡ Some u → IsTable pack u new
  moved_each j u is = elim (moved_at j u is) [
    | this at end ↦ subst (λ (x : Table). IsTable pack x new) (sym end) is_table
    | that off was ↦ table_kept (two r g) pack u old new lasts
        (λ hit. elim hit [
          | inl same ↦ off (tables.apart j i u t was at_i (same ∙ sym region_is))
          | inr same ↦ omega (arith, moved_below j u was, same)
        ]) (tables.each j u was)
  ]

  moved_apart : (j k : ℕ) (u v : Table) → slice_get (shifted name g ts) j ≡ Some u → slice_get (shifted name g ts) k ≡ Some v → u.region ≡ v.region → j ≡ k
  moved_apart j k u v js ks same = elim (moved_at j u js) [
    | this at end ↦ elim (moved_at k v ks) [
      | this at' end' ↦ at ∙ sym at'
      | that off was ↦ absurd (omega (arith, moved_below k v was, same, ap (λ (x : Table). x.region) end))
    ]
    | that off was ↦ elim (moved_at k v ks) [
      | this at end ↦ absurd (omega (arith, moved_below j u was, same, ap (λ (x : Table). x.region) end))
      | that off' was' ↦ tables.apart j k u v was was' same
    ]
  ]

  moved_names : (j k : ℕ) (u v : Table) → slice_get (shifted name g ts) j ≡ Some u → slice_get (shifted name g ts) k ≡ Some v → u.heading.name ≡ v.heading.name → j ≡ k
  moved_names j k u v js ks same = elim (moved_at j u js) [
    | this at end ↦ elim (moved_at k v ks) [
      | this at' end' ↦ at ∙ sym at'
      | that off was ↦ absurd (off (tables.names k i v t was at_i (sym same ∙ ap (λ (x : Table). x.heading.name) end)))
    ]
    | that off was ↦ elim (moved_at k v ks) [
      | this at end ↦ absurd (off (tables.names j i u t was at_i (same ∙ ap (λ (x : Table). x.heading.name) end)))
      | that off' was' ↦ tables.names j k u v was was' same
    ]
  ]

  in_old : (q : ℕ) → (q ≡ r → ⊥) → (j : ℕ) (v : Table) → slice_get ts j ≡ Some v → v.region ≡ q → j ≡ i → ⊥
  in_old q off j v was is same = let one_table : v ≡ t = cc (was, at_i, same) in off (sym is ∙ ap (λ (x : Table). x.region) one_table ∙ region_is)

  moved_few : length (shifted name g ts) ≤ 64
  moved_few =
      let same = length-map ts (λ (v : Table). if bytes_eq v.heading.name name then record v { region = g } else v) in
      let few = tables.few in
      omega (arith, same, few)

  moved_beside : (q : ℕ) → other q → IsBeside (shifted name g ts) q new
  moved_beside q is =
      let less = beside_below pack ts other q old ready tables is in
      let beside = tables.beside q is in
      beside_kept (two r g) ts (shifted name g ts) q old new lasts
      (λ hit. elim hit [
        | inl same ↦ beside.off (record { place = i; table = t; get = at_i; region = region_is ∙ sym same })
        | inr same ↦ omega (arith, less, next, same)
      ])
      (λ of. elim (moved_at of.place of.table of.get) [
        | this at end ↦ absurd (omega (arith, less, next, of.region, ap (λ (x : Table). x.region) end))
        | that off was ↦ record { place = of.place; table = of.table; get = was; region = of.region }
      ]) beside

  moved_only : ((q x : ℕ) → (q ≡ x) ⊎ (q ≡ x → ⊥)) → (q : ℕ) (shape : Region) → new.vault.revs.live q ≡ Some shape → IsTableRegion (shifted name g ts) q ⊎ other q
  moved_only cases q shape live = elim (cases q g) [
    | inl here ↦ inl (record { place = i; table = record t { region = g }; get = get_this; region = sym here })
    | inr off ↦ elim (cases q r) [
      | inl there ↦ absurd (gone shape (sym (ap new.vault.revs.live there) ∙ live))
      | inr off' ↦ elim (tables.only q shape (sym (lasts.apart.live q (λ hit. elim hit [ inl same ↦ off' same | inr same ↦ off same ])) ∙ live)) [
        | inl of ↦ inl (record { place = of.place; table = of.table; get = get_that of.place of.table of.get (in_old q off' of.place of.table of.get of.region); region = of.region })
        | inr closed ↦ inr closed
      ]
    ]
  ]

  -- an index is another table's
  not_this : (j : ℕ) (u : Table) → slice_get ts j ≡ Some u → u.heading.shape ≡ Indexed → j ≡ i → ⊥
  not_this j u was shape same = let one_table : u ≡ t = cc (was, at_i, same) in absurd (cc (one_table, shape, flat))

  moved_index : (k : ℕ) (x : Index) → slice_get indexes k ≡ Some x → IsIndexIn (shifted name g ts) other x new
  moved_index k x is =
      let at = tables.stand k x is in
      let off = not_this at.place at.table at.get at.of.indexed in
      let less = moved_below at.place at.table at.get in
      let under = beside_below pack ts other x.stash old ready tables at.beside in
      let beside = tables.beside x.stash at.beside in
      let tree = at.of.tree in
      record {
        place = at.place;
        table = at.table;
        get = get_that at.place at.table at.get off;
        of = at.of;
        beside = at.beside;
        stands = index_kept (two r g) old new lasts x
            (λ hit. elim hit [
              | inl same ↦ off (tables.apart at.place i at.table t at.get at_i (sym tree ∙ same ∙ sym region_is))
              | inr same ↦ omega (arith, less, tree, same)
            ])
            (λ hit. elim hit [
              | inl same ↦ beside.off (record { place = i; table = t; get = at_i; region = region_is ∙ sym same })
              | inr same ↦ omega (arith, under, next, same)
            ]) at.stands;
      }

  moved_has : (j : ℕ) (u : Table) → slice_get (shifted name g ts) j ≡ Some u → u.heading.shape ≡ Indexed → IsTreeOf indexes u.region
  moved_has j u is shape = elim (moved_at j u is) [
    | this at end ↦ absurd (cc (ap (λ (x : Table). x.heading.shape) end, shape, flat))
    | that off was ↦ tables.has j u was shape
  ]

  pub tables_moved : ((q x : ℕ) → (q ≡ x) ⊎ (q ≡ x → ⊥)) → AreTables (shifted name g ts) other indexes pack new
  tables_moved cases = record {
    each = moved_each;
    few = moved_few;
    apart = moved_apart;
    names = moved_names;
    beside = moved_beside;
    only = moved_only cases;
    stand = moved_index;
    has = moved_has;
    one = tables.one;
  }

-- ---- a table by its name
abbrev pub AreNamed : List Table → Type 0
AreNamed ts = (j k : ℕ) (u v : Table) → slice_get ts j ≡ Some u → slice_get ts k ≡ Some v → u.heading.name ≡ v.heading.name → j ≡ k

at_test : (name : List ℕ) (x : Table) (xs : List Table) (b : Bool) → bytes_eq x.heading.name name ≡ b → (found : Option (Stored ℕ))
    → (b ≡ true → Some (record { heading = x.heading; held = x.region }) ≡ found) → (b ≡ false → stored_at name (stored_regions xs) ≡ found)
    → stored_at name (stored_regions (x ∷ xs)) ≡ found
at_test name x xs true is found hit miss = ap (λ (t : Bool). cond t (Some (record { heading = x.heading; held = x.region })) (stored_at name (stored_regions xs))) is ∙ hit refl
at_test name x xs false is found hit miss = ap (λ (t : Bool). cond t (Some (record { heading = x.heading; held = x.region })) (stored_at name (stored_regions xs))) is ∙ miss refl

-- the table of a name is found by it, where the names are distinct
pub stored_found : (name : List ℕ) (ts : List Table) (i : ℕ) (t : Table) → AreNamed ts → slice_get ts i ≡ Some t → t.heading.name ≡ name
    → stored_at name (stored_regions ts) ≡ Some (record { heading = t.heading; held = t.region })
stored_found name [] zero t names at is = absurd (cc at)
stored_found name [] (suc i) t names at is = absurd (cc at)
stored_found name (x ∷ xs) zero t names at is =
    let same : x ≡ t = cc at in
    at_test name x xs (bytes_eq x.heading.name name) refl _
    (λ hit. ap (λ (u : Table). Some (record { heading = u.heading; held = u.region })) same)
    (λ miss. let hit = (bytes_eq-Decides x.heading.name name).1 (ap (λ (u : Table). u.heading.name) same ∙ is) in absurd (cc (hit, miss)))
stored_found name (x ∷ xs) (suc i) t names at is =
    at_test name x xs (bytes_eq x.heading.name name) refl _
    (λ hit. absurd (omega (arith, names 0 (suc i) x t refl at (named x.heading.name name hit ∙ sym is))))
    (λ miss. stored_found name xs i t (λ j k u v js ks same. omega (arith, names (suc j) (suc k) u v js ks same)) at is)

-- tables of other names stay where they are
pub unmoved : (name : List ℕ) (g : ℕ) (ts : List Table) → ((j : ℕ) (u : Table) → slice_get ts j ≡ Some u → u.heading.name ≡ name → ⊥) → shifted name g ts ≡ ts
unmoved name g [] off = refl
unmoved name g (x ∷ xs) off = head (unmoved name g xs (λ j u js same. off (suc j) u js same)) (bytes_eq x.heading.name name) refl
  where
    head : shifted name g xs ≡ xs → (b : Bool) → bytes_eq x.heading.name name ≡ b → shifted name g (x ∷ xs) ≡ x ∷ xs
    head rest true is = absurd (off 0 x refl (named x.heading.name name is))
    head rest false is =
        ap (λ (b : Bool). (if b then record x { region = g } else x) ∷ shifted name g xs) is ∙ ap (λ (ys : List Table). x ∷ ys) rest

-- the one table of a name, in another region
pub set_moved : (name : List ℕ) (g : ℕ) (ts : List Table) (i : ℕ) (t : Table) → AreNamed ts → slice_get ts i ≡ Some t → t.heading.name ≡ name
    → slice_set ts i (record t { region = g }) ≡ shifted name g ts
set_moved name g [] zero t names at is = absurd (cc at)
set_moved name g [] (suc i) t names at is = absurd (cc at)
set_moved name g (x ∷ xs) zero t names at is =
    let same : x ≡ t = cc at in
    let hit = (bytes_eq-Decides x.heading.name name).1 (ap (λ (u : Table). u.heading.name) same ∙ is) in
    let rest = unmoved name g xs (λ j u js of_name. omega (arith, names 0 (suc j) x u refl js (ap (λ (v : Table). v.heading.name) same ∙ is ∙ sym of_name))) in
    ap (λ (u : Table). record u { region = g } ∷ xs) (sym same) ∙ ap (λ (ys : List Table). record x { region = g } ∷ ys) (sym rest)
    ∙ ap (λ (b : Bool). (if b then record x { region = g } else x) ∷ shifted name g xs) (sym hit)
set_moved name g (x ∷ xs) (suc i) t names at is =
    head (set_moved name g xs i t (λ j k u v js ks same. omega (arith, names (suc j) (suc k) u v js ks same)) at is) (bytes_eq x.heading.name name) refl
  where
    head : slice_set xs i (record t { region = g }) ≡ shifted name g xs → (b : Bool) → bytes_eq x.heading.name name ≡ b
        → x ∷ slice_set xs i (record t { region = g }) ≡ shifted name g (x ∷ xs)
    head rest true hit = absurd (omega (arith, names 0 (suc i) x t refl at (named x.heading.name name hit ∙ sym is)))
    head rest false miss =
        ap (λ (ys : List Table). x ∷ ys) rest
        ∙ ap (λ (b : Bool). (if b then record x { region = g } else x) ∷ shifted name g xs) (sym miss)
