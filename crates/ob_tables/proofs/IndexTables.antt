-- The tables of an engine, after an access of one of its indexes, and after one is made or dropped.
use Rattle.ob_tables.proofs.Words.{ap, AreTables, arith, cases_eq, Index, index_kept, inl, inr, IsBeside, IsIndex, IsIndexIn, IsIndexOfTable, IsStashOf, IsTable, IsTableRegion, IsTreeOf, Lasts, length, List, Lives, Option, others_of, Ready, refl, Region, remove, Round, slice_get, slice_set, Some, subst, suc, sym, table_region, two, World, zero, ℕ, [], ◌++◌, ◌+◌, ◌<◌, ◌∙◌, ◌∷◌, ◌≡◌, ◌⊎◌}
use Rattle.ob_base.specs.declared.schema.Table.{Table}
use Rattle.ob_oram.specs.Indexes.{stash_of, tree_of}
use Rattle.ob_vault.specs.declared.region.Order.TheVariants.{Any}
use Rattle.ob_reopen.proofs.Lists.{got_last}
use Rattle.ob_tables.proofs.DropLemmas.{left_at, origin, origin_off, same_origin, tables_without}
use Rattle.ob_tables.proofs.TableLemmas.{beside_kept, get_front, get_more, region_below, table_kept, tables_more}

-- ---- a list of which one element was set
pub set_here : {A : Type 0} (xs : List A) (k : ℕ) (x y : A) → slice_get xs k ≡ Some x → slice_get (slice_set xs k y) k ≡ Some y
set_here [] zero x y is = absurd (cc is)
set_here [] (suc k) x y is = absurd (cc is)
set_here (z ∷ xs) zero x y is = refl
set_here (z ∷ xs) (suc k) x y is = set_here xs k x y is

pub set_there : {A : Type 0} (xs : List A) (k l : ℕ) (y z : A) → (l ≡ k → ⊥) → slice_get xs l ≡ Some z → slice_get (slice_set xs k y) l ≡ Some z
set_there [] k zero y z off is = absurd (cc is)
set_there [] k (suc l) y z off is = absurd (cc is)
set_there (x ∷ xs) zero zero y z off is = absurd (off refl)
set_there (x ∷ xs) zero (suc l) y z off is = is
set_there (x ∷ xs) (suc k) zero y z off is = is
set_there (x ∷ xs) (suc k) (suc l) y z off is = set_there xs k l y z (λ same. off (ap suc same)) is

-- what stands at a place of it: what was set, or what was there
pub data SetAt {A : Type 0} (xs : List A) (k : ℕ) (y : A) (l : ℕ) (z : A) : Type 0 where
  this : (at : l ≡ k) → (is : z ≡ y) → SetAt xs k y l z
  that : (off : l ≡ k → ⊥) → (was : slice_get xs l ≡ Some z) → SetAt xs k y l z

pub set_at : {A : Type 0} (xs : List A) (k : ℕ) (y : A) (l : ℕ) (z : A) → slice_get (slice_set xs k y) l ≡ Some z → SetAt xs k y l z
set_at [] zero y zero z is = absurd (cc is)
set_at [] zero y (suc l) z is = absurd (cc is)
set_at [] (suc k) y zero z is = absurd (cc is)
set_at [] (suc k) y (suc l) z is = absurd (cc is)
set_at (x ∷ xs) zero y zero z is = this refl (let same : y ≡ z = cc is in sym same)
set_at (x ∷ xs) zero y (suc l) z is = that (λ same. omega (arith, same)) is
set_at (x ∷ xs) (suc k) y zero z is = that (λ same. omega (arith, same)) is
set_at (x ∷ xs) (suc k) y (suc l) z is = elim (set_at xs k y l z is) [
  | this at same ↦ this (ap suc at) same
  | that off was ↦ that (λ same. off (omega (arith, same))) was
]

-- ---- one of the indexes
module _ (pack k : ℕ) (ts : List Table) (closing : Option ℕ) (indexes : List Index) (x : Index) (old : World)
    (tables : AreTables ts (others_of closing indexes) indexes pack old) (get : slice_get indexes k ≡ Some x) where
  pub x_in : IsIndexIn ts (others_of closing indexes) x old
  x_in = tables.stand k x get

  -- another table lies in neither of its regions
  pub apart_table : (i : ℕ) (t : Table) → slice_get ts i ≡ Some t → (i ≡ x_in.place → ⊥) → two x.tree x.stash t.region → ⊥
  apart_table i t at off (inl same) = off (tables.apart i x_in.place t x_in.table at x_in.get (same ∙ x_in.of.tree))
  apart_table i t at off (inr same) = (tables.beside x.stash x_in.beside).off (record { place = i; table = t; get = at; region = same })

  -- nor does another index
  pub apart_tree : (l : ℕ) (z : Index) → slice_get indexes l ≡ Some z → (l ≡ k → ⊥) → two x.tree x.stash z.tree → ⊥
  apart_tree l z was off (inl same) = off (tables.one l k z x was get same)
  apart_tree l z was off (inr same) =
      let at = tables.stand l z was in
      (tables.beside x.stash x_in.beside).off (record { place = at.place; table = at.table; get = at.get; region = sym at.of.tree ∙ same })

  pub apart_stash : (l : ℕ) (z : Index) → slice_get indexes l ≡ Some z → (l ≡ k → ⊥) → two x.tree x.stash z.stash → ⊥
  apart_stash l z was off (inl same) =
      let at = tables.stand l z was in
      (tables.beside z.stash at.beside).off (record { place = x_in.place; table = x_in.table; get = x_in.get; region = sym x_in.of.tree ∙ sym same })
  apart_stash l z was off (inr same) =
      let at = tables.stand l z was in
      let stash = at.of.stash in
      let other = x_in.of.stash in
      let tree = at.of.tree in
      let other_tree = x_in.of.tree in
      off (tables.one l k z x was get (omega (arith, same, stash, other, tree, other_tree)))

  -- nor anything beside the tables but its stash
  pub apart_beside : (q : ℕ) → others_of closing indexes q → q ≡ x.tree → ⊥
  apart_beside q is same = (tables.beside q is).off (record { place = x_in.place; table = x_in.table; get = x_in.get; region = sym x_in.of.tree ∙ sym same })

  -- the table of another place is another's
  pub same_table : (i : ℕ) (t : Table) → slice_get ts i ≡ Some t → i ≡ x_in.place → t ≡ x_in.table
  same_table i t at here = let there = x_in.get in cc (at, there, here)

-- ---- after an access
module _ (pack k : ℕ) (ts : List Table) (closing : Option ℕ) (indexes : List Index) (x y : Index) (old new : World) (lasts : Lasts (two x.tree x.stash) old new)
    (tables : AreTables ts (others_of closing indexes) indexes pack old) (get : slice_get indexes k ≡ Some x)
    (same : y ≡ record x { leaves = y.leaves; buffer = y.buffer }) (stands : IsIndex y new) where
  abbrev left : List Index
  left = slice_set indexes k y

  abbrev here : IsIndexIn ts (others_of closing indexes) x old
  here = x_in pack k ts closing indexes x old tables get

  abbrev tree_shape : Region
  tree_shape = table_region Any 1 (tree_of y).schema (tree_of y).capacity

  abbrev stash_shape : Region
  stash_shape = table_region Round 1 (stash_of y).schema (stash_of y).capacity

  tree_is : y.tree ≡ x.tree
  tree_is = ap (λ (i : Index). i.tree) same

  stash_is : y.stash ≡ x.stash
  stash_is = ap (λ (i : Index). i.stash) same

  y_of : IsIndexOfTable here.table y
  y_of = record {
    indexed = here.of.indexed;
    schema = ap (λ (i : Index). i.schema) same ∙ here.of.schema;
    capacity = ap (λ (i : Index). i.capacity) same ∙ here.of.capacity;
    tree = tree_is ∙ here.of.tree;
    stash = stash_is ∙ here.of.stash;
  }

  stash_to : (q : ℕ) → IsStashOf indexes q → IsStashOf left q
  stash_to q of = elim (cases_eq of.place k) [
    | inl at ↦
        let was : of.index ≡ x = let got = of.get in cc (got, get, at) in
        record { place = k; index = y; get = set_here indexes k x y get; stash = stash_is ∙ ap (λ (i : Index). i.stash) (sym was) ∙ of.stash }
    | inr off ↦ record { place = of.place; index = of.index; get = set_there indexes k of.place y of.index off of.get; stash = of.stash }
  ]

  stash_from : (q : ℕ) → IsStashOf left q → IsStashOf indexes q
  stash_from q of = elim (set_at indexes k y of.place of.index of.get) [
    | this at is ↦ record { place = k; index = x; get = get; stash = sym stash_is ∙ ap (λ (i : Index). i.stash) (sym is) ∙ of.stash }
    | that off was ↦ record { place = of.place; index = of.index; get = was; stash = of.stash }
  ]

  tree_to : (q : ℕ) → IsTreeOf indexes q → IsTreeOf left q
  tree_to q of = elim (cases_eq of.place k) [
    | inl at ↦
        let was : of.index ≡ x = let got = of.get in cc (got, get, at) in
        record { place = k; index = y; get = set_here indexes k x y get; tree = tree_is ∙ ap (λ (i : Index). i.tree) (sym was) ∙ of.tree }
    | inr off ↦ record { place = of.place; index = of.index; get = set_there indexes k of.place y of.index off of.get; tree = of.tree }
  ]

  others_to : (q : ℕ) → others_of closing indexes q → others_of closing left q
  unfolding others_of
  others_to q (inl closed) = inl closed
  others_to q (inr of) = inr (stash_to q of)

  others_from : (q : ℕ) → others_of closing left q → others_of closing indexes q
  unfolding others_of
  others_from q (inl closed) = inl closed
  others_from q (inr of) = inr (stash_from q of)

  accessed_each : (i : ℕ) (t : Table) → slice_get ts i ≡ Some t → IsTable pack t new
  accessed_each i t at = elim (cases_eq i here.place) [
    | inl place ↦
        let is : t ≡ here.table = same_table pack k ts closing indexes x old tables get i t at place in
        let region : y.tree ≡ t.region = y_of.tree ∙ ap (λ (u : Table). u.region) (sym is) in
        let indexed = here.of.indexed in
        record {
          heading = (tables.each i t at).heading;
          least = (tables.each i t at).least;
          live = record { shape = tree_shape; lives = subst (λ (q : ℕ). Lives q tree_shape new) region stands.stored.tree.lives };
          written = λ flat. absurd (cc (flat, is, indexed));
        }
    | inr off ↦ table_kept (two x.tree x.stash) pack t old new lasts (apart_table pack k ts closing indexes x old tables get i t at off) (tables.each i t at)
  ]

  accessed_beside : (q : ℕ) → others_of closing left q → IsBeside ts q new
  accessed_beside q is = elim (cases_eq q x.stash) [
    | inl at ↦ subst (λ (r : ℕ). IsBeside ts r new) (sym at) (record {
      shape = stash_shape;
      lives = subst (λ (r : ℕ). Lives r stash_shape new) stash_is stands.stored.stash.lives;
      off = (tables.beside x.stash here.beside).off;
    })
    | inr off ↦
        let was = others_from q is in
        beside_kept (two x.tree x.stash) ts ts q old new lasts
        (λ hit. elim hit [ inl tree ↦ apart_beside pack k ts closing indexes x old tables get q was tree | inr stash ↦ off stash ]) (λ of. of) (tables.beside q was)
  ]

  accessed_only : (q : ℕ) (shape : Region) → new.vault.revs.live q ≡ Some shape → IsTableRegion ts q ⊎ others_of closing left q
  accessed_only q shape live = elim (cases_eq q x.tree) [
    | inl at ↦ inl (record { place = here.place; table = here.table; get = here.get; region = sym here.of.tree ∙ sym at })
    | inr off ↦ elim (cases_eq q x.stash) [
      | inl at ↦ inr (subst (λ (r : ℕ). others_of closing left r) (sym at) (others_to x.stash here.beside))
      | inr off' ↦ elim (tables.only q shape (sym (lasts.apart.live q (λ hit. elim hit [ inl tree ↦ off tree | inr stash ↦ off' stash ])) ∙ live)) [
        | inl of ↦ inl of
        | inr was ↦ inr (others_to q was)
      ]
    ]
  ]

  y_in : IsIndexIn ts (others_of closing left) y new
  y_in = record {
    place = here.place;
    table = here.table;
    get = here.get;
    of = y_of;
    beside = subst (λ (r : ℕ). others_of closing left r) (sym stash_is) (others_to x.stash here.beside);
    stands = stands;
  }

  accessed_stand : (l : ℕ) (z : Index) → slice_get left l ≡ Some z → IsIndexIn ts (others_of closing left) z new
  accessed_stand l z is = elim (set_at indexes k y l z is) [
    | this at same_index ↦ subst (λ (i : Index). IsIndexIn ts (others_of closing left) i new) (sym same_index) y_in
    | that off was ↦
        let at = tables.stand l z was in
        record {
          place = at.place;
          table = at.table;
          get = at.get;
          of = at.of;
          beside = others_to z.stash at.beside;
          stands = index_kept (two x.tree x.stash) old new lasts z (apart_tree pack k ts closing indexes x old tables get l z was off) (apart_stash pack k ts closing indexes x old tables get l z was off) at.stands;
        }
  ]

  accessed_one : (l m : ℕ) (z w : Index) → slice_get left l ≡ Some z → slice_get left m ≡ Some w → z.tree ≡ w.tree → l ≡ m
  accessed_one l m z w ls ms trees = elim (set_at indexes k y l z ls) [
    | this at is ↦ elim (set_at indexes k y m w ms) [
      | this at' is' ↦ at ∙ sym at'
      | that off was ↦ at ∙ sym (tables.one m k w x was get (sym trees ∙ ap (λ (i : Index). i.tree) is ∙ tree_is))
    ]
    | that off was ↦ elim (set_at indexes k y m w ms) [
      | this at' is' ↦ tables.one l k z x was get (trees ∙ ap (λ (i : Index). i.tree) is' ∙ tree_is) ∙ sym at'
      | that off' was' ↦ tables.one l m z w was was' trees
    ]
  ]

  pub tables_accessed : AreTables ts (others_of closing left) left pack new
  tables_accessed = record {
    each = accessed_each;
    few = tables.few;
    apart = tables.apart;
    names = tables.names;
    beside = accessed_beside;
    only = accessed_only;
    stand = accessed_stand;
    has = λ i t at shape. tree_to t.region (tables.has i t at shape);
    one = accessed_one;
  }

-- ---- one more
module _ (pack g : ℕ) (ts : List Table) (closing : Option ℕ) (indexes : List Index) (x : Index) (new_table : Table) (old new : World) (lasts : Lasts (two g (g + 1)) old new) (ready : Ready old)
    (next : g ≡ old.vault.next) (tables : AreTables ts (others_of closing indexes) indexes pack old) (room : length ts < 64) (fresh : new_table.region ≡ g) (is_table : IsTable pack new_table new)
    (unnamed : (i : ℕ) (t : Table) → slice_get ts i ≡ Some t → t.heading.name ≡ new_table.heading.name → ⊥)
    (of : IsIndexOfTable new_table x) (stands : IsIndex x new) where
  abbrev more : List Index
  more = indexes ++ x ∷ []

  last_of : IsStashOf more x.stash
  last_of = record { place = length indexes; index = x; get = got_last indexes x; stash = refl }

  keeps : (q : ℕ) → others_of closing indexes q → others_of closing more q
  unfolding others_of
  keeps q (inl closed) = inl closed
  keeps q (inr was) = inr (record { place = was.place; index = was.index; get = get_front indexes x was.index was.place was.get; stash = was.stash })

  more_stash : x.stash ≡ g + 1
  more_stash = let stash = of.stash in omega (arith, stash, fresh)

  stash_beside : IsBeside (ts ++ new_table ∷ []) x.stash new
  stash_beside = record {
    shape = table_region Round 1 (stash_of x).schema (stash_of x).capacity;
    lives = stands.stored.stash.lives;
    off = λ at. let region = at.region in let number = more_stash in elim (get_more ts new_table at.table at.place at.get) [
      | inl here ↦ let less = region_below pack at.place ts at.table old ready tables here in omega (arith, less, next, region, number)
      | inr last ↦ let same = ap (λ (t : Table). t.region) last.1 in omega (arith, same, fresh, region, number)
    ];
  }

  beside : (q : ℕ) → others_of closing more q → others_of closing indexes q ⊎ IsBeside (ts ++ new_table ∷ []) q new
  unfolding others_of
  beside q (inl closed) = inl (inl closed)
  beside q (inr at) = elim (get_more indexes x at.index at.place at.get) [
    | inl here ↦ inl (inr (record { place = at.place; index = at.index; get = here; stash = at.stash }))
    | inr last ↦ inr (subst (λ (r : ℕ). IsBeside (ts ++ new_table ∷ []) r new) (ap (λ (i : Index). i.stash) (sym last.1) ∙ at.stash) stash_beside)
  ]

  x_here : IsIndexIn (ts ++ new_table ∷ []) (others_of closing more) x new
  unfolding others_of
  x_here = record {
    place = length ts;
    table = new_table;
    get = got_last ts new_table;
    of = of;
    beside = inr last_of;
    stands = stands;
  }

  low_tree : (l : ℕ) (z : Index) → slice_get indexes l ≡ Some z → z.tree < g
  low_tree l z get =
      let at = tables.stand l z get in
      let less = region_below pack at.place ts at.table old ready tables at.get in
      let tree = at.of.tree in
      omega (arith, less, next, tree)

  one_more : (l m : ℕ) (z w : Index) → slice_get more l ≡ Some z → slice_get more m ≡ Some w → z.tree ≡ w.tree → l ≡ m
  one_more l m z w ls ms trees = elim (get_more indexes x z l ls) [
    | inl here ↦ elim (get_more indexes x w m ms) [
      | inl there ↦ tables.one l m z w here there trees
      | inr last ↦
          let less = low_tree l z here in
          let same = ap (λ (i : Index). i.tree) last.1 in
          let tree = of.tree in
          absurd (omega (arith, less, same, tree, fresh, trees))
    ]
    | inr last ↦ elim (get_more indexes x w m ms) [
      | inl there ↦
          let less = low_tree m w there in
          let same = ap (λ (i : Index). i.tree) last.1 in
          let tree = of.tree in
          absurd (omega (arith, less, same, tree, fresh, trees))
      | inr other ↦ last.0 ∙ sym other.0
    ]
  ]

  some_cases : (q : ℕ) → (q ≡ g) ⊎ others_of closing more q ⊎ (two g (g + 1) q → ⊥)
  unfolding others_of
  some_cases q = elim (cases_eq q g) [
    | inl here ↦ inl here
    | inr off ↦ elim (cases_eq q (g + 1)) [
      | inl there ↦ inr (inl (inr (record { place = length indexes; index = x; get = got_last indexes x; stash = more_stash ∙ sym there })))
      | inr off' ↦ inr (inr (λ hit. elim hit [ inl same ↦ off same | inr same ↦ off' same ]))
    ]
  ]

  pub tables_indexed : AreTables (ts ++ new_table ∷ []) (others_of closing more) more pack new
  tables_indexed =
      tables_more pack g (two g (g + 1)) ts (others_of closing indexes) (others_of closing more) indexes more new_table old new lasts ready next
      (λ q hit. elim hit [ inl same ↦ omega (arith, same) | inr same ↦ omega (arith, same) ]) tables room fresh is_table unnamed
      (record {
        keeps = keeps;
        beside = beside;
        stand = λ k z is. elim (get_more indexes x z k is) [
          | inl here ↦ inl here
          | inr last ↦ inr (subst (λ (i : Index). IsIndexIn (ts ++ new_table ∷ []) (others_of closing more) i new) (sym last.1) x_here)
        ];
        has = λ q was. record { place = was.place; index = was.index; get = get_front indexes x was.index was.place was.get; tree = was.tree };
        new_has = λ shape. record { place = length indexes; index = x; get = got_last indexes x; tree = of.tree };
        one = one_more;
      }) some_cases

-- ---- one less
module _ (pack k : ℕ) (ts : List Table) (closing : Option ℕ) (indexes : List Index) (x : Index) (old new : World) (lasts : Lasts (two x.tree x.stash) old new)
    (tables : AreTables ts (others_of closing indexes) indexes pack old) (get : slice_get indexes k ≡ Some x) (aside : (q : ℕ) → closing ≡ Some q → IsStashOf indexes q → ⊥)
    (gone : (q : ℕ) (shape : Region) → new.vault.revs.live q ≡ Some shape → two x.tree x.stash q → ⊥) where
  abbrev fewer : List Index
  fewer = remove indexes k

  abbrev it : IsIndexIn ts (others_of closing indexes) x old
  it = x_in pack k ts closing indexes x old tables get

  was_of : (q : ℕ) (at : IsStashOf fewer q) → IsStashOf indexes q
  was_of q at = let o = origin indexes k at.place at.index at.get in record { place = o.from; index = at.index; get = o.get; stash = at.stash }

  off_both : (q : ℕ) → others_of closing fewer q → two x.tree x.stash q → ⊥
  unfolding others_of
  off_both q (inl closed) (inl tree) = apart_beside pack k ts closing indexes x old tables get q (inl closed) tree
  off_both q (inl closed) (inr stash) = aside q closed (record { place = k; index = x; get = get; stash = sym stash })
  off_both q (inr at) (inl tree) = apart_beside pack k ts closing indexes x old tables get q (inr (was_of q at)) tree
  off_both q (inr at) (inr stash) =
      let o = origin indexes k at.place at.index at.get in
      apart_stash pack k ts closing indexes x old tables get o.from at.index o.get (origin_off indexes k at.place at.index o) (inr (at.stash ∙ stash))

  others_was : (q : ℕ) → others_of closing fewer q → others_of closing indexes q
  unfolding others_of
  others_was q (inl closed) = inl closed
  others_was q (inr at) = inr (was_of q at)

  still : (q : ℕ) → others_of closing indexes q → (two x.tree x.stash q → ⊥) → others_of closing fewer q
  unfolding others_of
  still q (inl closed) off = inl closed
  still q (inr at) off =
      let other_place : at.place ≡ k → ⊥ = λ same. let got = at.get in let one_index : at.index ≡ x = cc (got, get, same) in off (inr (sym at.stash ∙ ap (λ (i : Index). i.stash) one_index)) in
      let place = left_at indexes k at.place at.index at.get other_place in
      inr (record { place = place.0; index = at.index; get = place.1; stash = at.stash })

  tree_still : (q : ℕ) → (q ≡ it.table.region → ⊥) → IsTreeOf indexes q → IsTreeOf fewer q
  tree_still q off at =
      let other_place : at.place ≡ k → ⊥ = λ same. let got = at.get in let one_index : at.index ≡ x = cc (got, get, same) in off (sym at.tree ∙ ap (λ (i : Index). i.tree) one_index ∙ it.of.tree) in
      let place = left_at indexes k at.place at.index at.get other_place in
      record { place = place.0; index = at.index; get = place.1; tree = at.tree }

  pub tables_unindexed : AreTables (remove ts it.place) (others_of closing fewer) fewer pack new
  tables_unindexed =
      tables_without pack (two x.tree x.stash) ts (others_of closing indexes) (others_of closing fewer) indexes fewer it.table it.place old new lasts tables it.get (inl (sym it.of.tree))
      (λ i u at off. apart_table pack k ts closing indexes x old tables get i u at off) gone
      (record {
        was = λ q is. (others_was q is, off_both q is);
        still = still;
        stood = λ j z is.
            let o = origin indexes k j z is in
            let off = origin_off indexes k j z o in (
              o.from,
              o.get,
              λ same. apart_tree pack k ts closing indexes x old tables get o.from z o.get off (inl (same ∙ sym it.of.tree)),
              apart_stash pack k ts closing indexes x old tables get o.from z o.get off,
            );
        has = tree_still;
        one = λ j l z w js ls trees.
            let a = origin indexes k j z js in
            let b = origin indexes k l w ls in
            same_origin indexes k j l z w a b (tables.one a.from b.from z w a.get b.get trees);
      })
