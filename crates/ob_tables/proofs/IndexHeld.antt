-- The tables in place beside those of an engine, after an access of one of its indexes.
use Rattle.ob_tables.proofs.Words.{ap, AreHeld, AreTables, arith, Bool, bytes_eq, bytes_eq-Decides, changed_at, cond, false, flat_of, Heading, Held, HoldsTable, if◌then◌else◌, Index, index_of, Indexed, inl, Lasts, IsStoredAs, List, Option, others_of, refl, represents_lasts, slice_get, slice_set, Some, Stored, stored_at, subst, suc, sym, Tables, true, two, World, zero, ℕ, [], ◌∙◌, ◌∷◌, ◌≡◌}
use Rattle.ob_base.specs.declared.schema.Shape.{Shape}
use Rattle.ob_base.specs.declared.schema.Shape.TheVariants.{Flat as FlatShape}
use Rattle.ob_base.specs.declared.schema.Table.{Table}
use Rattle.ob_oram.proofs.Lasting.{lies_kept}
use Rattle.ob_tables.proofs.IndexTables.{this, that, apart_stash, apart_table, set_at, x_in}
use Rattle.ob_tables.proofs.TableLemmas.{AreNamed, named}

-- an index of the list after that lies in a table's region was one of the list before, and lies as it did
abbrev IsSame : (some : ℕ → Type 0) → List Index → List Index → ℕ → Type 0
IsSame some indexes more region =
    (l : ℕ) (z : Index) → slice_get more l ≡ Some z → z.tree ≡ region → (m : ℕ) × (slice_get indexes m ≡ Some z) × (some z.stash → ⊥)

holds_same : (shape : Shape) (some : ℕ → Type 0) (pack : ℕ) (indexes more : List Index) (t : Table) (x : Stored Held) (a b : World) → Lasts some a b → (some t.region → ⊥)
    → (shape ≡ Indexed → IsSame some indexes more t.region) → HoldsTable shape pack indexes t x a → HoldsTable shape pack more t x b
holds_same FlatShape some pack indexes more t x a b lasts apart same is = represents_lasts pack (flat_of t) some a b lasts apart x.held.slots is
holds_same Indexed some pack indexes more t x a b lasts apart same is = λ l z get tree.
    let was = same refl l z get tree in
    let lay = is was.0 z was.1 tree in
    record {
      lies = lies_kept some a b lasts z (λ hit. apart (subst some tree hit)) was.2 (index_of x.heading x.held) lay.lies;
      stands = lay.stands;
    }

module _ (some : ℕ → Type 0) (pack : ℕ) (indexes more : List Index) (a b : World) (lasts : Lasts some a b) where
  -- tables that weren't accessed
  held_same : (ts : List Table) (tables : Tables) → ((j : ℕ) (u : Table) → slice_get ts j ≡ Some u → some u.region → ⊥)
      → ((j : ℕ) (u : Table) → slice_get ts j ≡ Some u → u.heading.shape ≡ Indexed → IsSame some indexes more u.region)
      → AreHeld pack indexes ts tables a → AreHeld pack more ts tables b
  held_same [] [] apart same held = tt
  held_same [] (x ∷ xs) apart same held = absurd held
  held_same (t ∷ ts) [] apart same held = absurd held
  held_same (t ∷ ts) (x ∷ xs) apart same held = (
    held.0,
    holds_same t.heading.shape some pack indexes more t x a b lasts (apart 0 t refl) (same 0 t refl) held.1,
    held_same ts xs (λ j u at. apart (suc j) u at) (λ j u at. same (suc j) u at) held.2,
  )

  -- the head of both lists, by whether it has the name
  changed_head : (name : List ℕ) (f : Held → Held) (t : Table) (ts : List Table) (x : Stored Held) (xs : Tables) (hit : Bool) → x.heading ≡ t.heading → bytes_eq t.heading.name name ≡ hit
      → (hit ≡ true → AreHeld pack more (t ∷ ts) (record { heading = x.heading; held = f x.held } ∷ xs) b)
      → (hit ≡ false → AreHeld pack more (t ∷ ts) (x ∷ changed_at name f xs) b)
      → AreHeld pack more (t ∷ ts) (changed_at name f (x ∷ xs)) b
  changed_head name f t ts x xs true same is named_so named_off =
      subst (λ (c : Bool). AreHeld pack more (t ∷ ts) (if c then record { heading = x.heading; held = f x.held } ∷ xs else x ∷ changed_at name f xs) b)
      (sym (ap (λ (h : Heading). bytes_eq h.name name) same ∙ is)) (named_so refl)
  changed_head name f t ts x xs false same is named_so named_off =
      subst (λ (c : Bool). AreHeld pack more (t ∷ ts) (if c then record { heading = x.heading; held = f x.held } ∷ xs else x ∷ changed_at name f xs) b)
      (sym (ap (λ (h : Heading). bytes_eq h.name name) same ∙ is)) (named_off refl)

  -- the table of a name holds something else
  pub held_changed : (name : List ℕ) (f : Held → Held) (ts : List Table) (tables : Tables) (i : ℕ) (t : Table) → AreNamed ts → AreHeld pack indexes ts tables a
      → ((j : ℕ) (u : Table) → slice_get ts j ≡ Some u → (j ≡ i → ⊥) → some u.region → ⊥)
      → ((j : ℕ) (u : Table) → slice_get ts j ≡ Some u → (j ≡ i → ⊥) → u.heading.shape ≡ Indexed → IsSame some indexes more u.region)
      → slice_get ts i ≡ Some t → t.heading.name ≡ name
      → ((x : Stored Held) → stored_at name tables ≡ Some x → x.heading ≡ t.heading → HoldsTable t.heading.shape pack more t (record { heading = x.heading; held = f x.held }) b)
      → AreHeld pack more ts (changed_at name f tables) b
  held_changed name f [] [] zero t names held apart same at is new = absurd (cc at)
  held_changed name f [] [] (suc i) t names held apart same at is new = absurd (cc at)
  held_changed name f [] (x ∷ xs) i t names held apart same at is new = absurd held
  held_changed name f (u ∷ ts) [] i t names held apart same at is new = absurd held
  held_changed name f (u ∷ ts) (x ∷ xs) zero t names held apart same at is new =
      let one : u ≡ t = cc at in
      let of_name : u.heading.name ≡ name = ap (λ (v : Table). v.heading.name) one ∙ is in
      let hit = (bytes_eq-Decides u.heading.name name).1 of_name in
      let x_hit = (bytes_eq-Decides x.heading.name name).1 (ap (λ (h : Heading). h.name) held.0 ∙ of_name) in
      let found : stored_at name (x ∷ xs) ≡ Some x = ap (λ (c : Bool). cond c (Some x) (stored_at name xs)) x_hit in
      changed_head name f u ts x xs (bytes_eq u.heading.name name) held.0 refl
      (λ _. (
        held.0,
        subst (λ (v : Table). HoldsTable v.heading.shape pack more v (record { heading = x.heading; held = f x.held }) b) (sym one) (new x found (held.0 ∙ ap (λ (v : Table). v.heading) one)),
        held_same ts xs (λ j v js. apart (suc j) v js (λ off. omega (arith, off))) (λ j v js. same (suc j) v js (λ off. omega (arith, off))) held.2,
      ))
      (λ miss. absurd (cc (hit, miss)))
  held_changed name f (u ∷ ts) (x ∷ xs) (suc i) t names held apart same at is new =
      changed_head name f u ts x xs (bytes_eq u.heading.name name) held.0 refl
      (λ hit. absurd (omega (arith, names 0 (suc i) u t refl at (named u.heading.name name hit ∙ sym is))))
      (λ miss. (
        held.0,
        holds_same u.heading.shape some pack indexes more u x a b lasts (apart 0 u refl (λ off. omega (arith, off))) (same 0 u refl (λ off. omega (arith, off))) held.1,
        held_changed name f ts xs i t (λ j k v z js ks names_same. omega (arith, names (suc j) (suc k) v z js ks names_same)) held.2
            (λ j v js off. apart (suc j) v js (λ e. off (omega (arith, e)))) (λ j v js off. same (suc j) v js (λ e. off (omega (arith, e)))) at is
            (λ y found. new y (ap (λ (c : Bool). cond c (Some x) (stored_at name xs)) (ap (λ (h : Heading). bytes_eq h.name name) held.0 ∙ miss) ∙ found)),
      ))

-- ---- after an access
module _ (pack k : ℕ) (ts : List Table) (closing : Option ℕ) (indexes : List Index) (x y : Index) (old new : World) (lasts : Lasts (two x.tree x.stash) old new)
    (tables : AreTables ts (others_of closing indexes) indexes pack old) (get : slice_get indexes k ≡ Some x) (trees : y.tree ≡ x.tree) where
  -- no other table has the index that was accessed
  others_same : (j : ℕ) (u : Table) → slice_get ts j ≡ Some u → (j ≡ (x_in pack k ts closing indexes x old tables get).place → ⊥) → IsSame (two x.tree x.stash) indexes (slice_set indexes k y) u.region
  others_same j u at off l z is tree = elim (set_at indexes k y l z is) [
    | this here same ↦
        let region : two x.tree x.stash u.region = inl (sym tree ∙ ap (λ (i : Index). i.tree) same ∙ trees) in
        absurd (apart_table pack k ts closing indexes x old tables get j u at off region)
    | that other was ↦ (l, was, apart_stash pack k ts closing indexes x old tables get l z was other)
  ]

  pub held_accessed : (name : List ℕ) (after : Held) (held_tables : Tables) (i : ℕ) (t : Table) → AreNamed ts → AreHeld pack indexes ts held_tables old
      → slice_get ts i ≡ Some t → t.heading.name ≡ name → t.heading.shape ≡ Indexed → t.region ≡ x.tree
      → ((h : Heading) → h ≡ t.heading → IsStoredAs y (index_of h after) new)
      → AreHeld pack (slice_set indexes k y) ts (changed_at name (λ held. after) held_tables) new
  held_accessed name after held_tables i t names held at is indexed region lies =
      let here = x_in pack k ts closing indexes x old tables get in
      let place : i ≡ here.place = tables.apart i here.place t here.table at here.get (region ∙ here.of.tree) in
      held_changed (two x.tree x.stash) pack indexes (slice_set indexes k y) old new lasts name (λ held. after) ts held_tables i t names held
      (λ j u js off. apart_table pack k ts closing indexes x old tables get j u js (λ same. off (same ∙ sym place)))
      (λ j u js off shape. others_same j u js (λ same. off (same ∙ sym place))) at is
      (λ z found heading.
      subst (λ (shape : Shape). HoldsTable shape pack (slice_set indexes k y) t (record { heading = z.heading; held = after }) new) (sym indexed)
      (λ l w got tree. elim (set_at indexes k y l w got) [
        | this there same ↦ subst (λ (j : Index). IsStoredAs j (index_of z.heading after) new) (sym same) (lies z.heading heading)
        | that off was ↦ absurd (off (tables.one l k w x was get (tree ∙ region)))
      ]))
