-- The tables in place beside the tables of an engine, after a pass.
use Rattle.ob_tables.proofs.Words.{accessed, ap, AreHeld, arith, Bool, by_shape, bytes_eq, bytes_eq-Decides, changed_at, cond, false, flat_of, Heading, heading-stored, heading_at, headings, headings_of, Held, HoldsTable, if◌then◌else◌, in_slots, Index, index_of, Indexed, is_access, is_index, Join, Lasts, List, None, Option, option_map, option_map_or, Public, refl, represents_lasts, skeleton, slice_get, Slots, Some, Source, Stmt, Stored, stored_at, subst, suc, sym, Tables, true, World, zero, ℕ, [], ◌++◌, ◌∙◌, ◌∷◌, ◌≡◌}
use Rattle.std.specs.Option.{option_and_then}
use Rattle.ob_base.specs.declared.schema.Shape.{Shape}
use Rattle.ob_base.specs.declared.schema.Shape.TheVariants.{Flat as FlatShape}
use Rattle.ob_base.specs.declared.schema.Table.{Table}
use Rattle.ob_base.specs.declared.skeleton.Source.TheVariants.{Table as OneTable}
use Rattle.ob_flat.specs.Flats.{Represents}
use Rattle.ob_oram.proofs.Lasting.{lies_kept}
use Rattle.ob_sql.specs.declared.stmt.Stmt.TheVariants.{Create, Insert, Update, Delete, Drop as DropTable, SelectRows as RowsStmt, SelectTotals as TotalsStmt}
use Rattle.ob_mean.specs.Keyed.{Ask, ask_of, keyed_name}
use Rattle.ob_mean.specs.Refusals.{is_indexed}
use Rattle.ob_mean.specs.Verdict.{access_of}
use Rattle.ob_tables.proofs.TableLemmas.{AreNamed, named, shifted, unmoved}

-- they have the same headings
pub held_headings : (pack : ℕ) (indexes : List Index) (ts : List Table) (tables : Tables) (w : World) → AreHeld pack indexes ts tables w → headings tables ≡ headings_of ts
held_headings pack indexes [] [] w held = refl
held_headings pack indexes [] (x ∷ xs) w held = absurd held
held_headings pack indexes (t ∷ ts) [] w held = absurd held
held_headings pack indexes (t ∷ ts) (x ∷ xs) w held = λ i. held.0 i ∷ held_headings pack indexes ts xs w held.2 i

-- ---- a table that is no index, by its name
shape_flat : (shape : Shape) → is_indexed shape ≡ false → shape ≡ FlatShape
shape_flat FlatShape none = refl
shape_flat Indexed none = absurd (cc none)

pub heading_flat : (name : List ℕ) (hs : List Heading) (h : Heading) → is_index hs name ≡ false → heading_at name hs ≡ Some h → h.shape ≡ FlatShape
heading_flat name hs h none is = shape_flat h.shape (sym (ap (λ (o : Option Heading). option_map_or (λ (g : Heading). is_indexed g.shape) o false) is) ∙ none)

pub stored_flat : {A : Type 0} (name : List ℕ) (ts : List (Stored A)) (t : Stored A) → is_index (headings ts) name ≡ false → stored_at name ts ≡ Some t → t.heading.shape ≡ FlatShape
stored_flat {A} name ts t none is = heading_flat name (headings ts) t.heading none (heading-stored name ts ∙ ap (option_map (λ (u : Stored A). u.heading)) is)

-- ---- a statement that accesses no index
module _ (ts : Tables) (stmt : Stmt) where
  unread : (name : List ℕ) → is_index (headings ts) name ≡ false → (o : Option (Stored Held)) → stored_at name ts ≡ o → option_and_then (access_of stmt) o ≡ None
  unread name none None is = refl
  unread name none (Some t) is =
      ap (λ (shape : Shape). by_shape shape None (option_map (λ (ask : Ask). record { table = t; ask = ask }) (ask_of t.heading stmt))) (stored_flat name ts t none is)

  pub unread_at : (name : List ℕ) → is_index (headings ts) name ≡ false → option_and_then (access_of stmt) (stored_at name ts) ≡ None
  unread_at name none = unread name none (stored_at name ts) refl

pub not_accessed : (p : Public) (ts : Tables) (stmt : Stmt) → headings ts ≡ headings_of p.tables → is_access p (skeleton stmt) ≡ false → accessed ts stmt ≡ None
not_accessed p ts (Insert table columns values) same none = unread_at ts (Insert table columns values) table (ap (λ (hs : List Heading). is_index hs table) same ∙ none)
not_accessed p ts (Update table sets search) same none = unread_at ts (Update table sets search) table (ap (λ (hs : List Heading). is_index hs table) same ∙ none)
not_accessed p ts (Delete table search) same none = unread_at ts (Delete table search) table (ap (λ (hs : List Heading). is_index hs table) same ∙ none)
not_accessed p ts (RowsStmt q) same none = of_source q.source refl none
  where
    of_source : (source : Source) → q.source ≡ source → is_access p (skeleton (RowsStmt (record q { source = source }))) ≡ false → accessed ts (RowsStmt q) ≡ None
    of_source (OneTable name) is none =
        ap (λ (x : Source). option_and_then (access_of (RowsStmt q)) (option_and_then (λ n. stored_at n ts) (keyed_name (RowsStmt (record q { source = x }))))) is
        ∙ unread_at ts (RowsStmt q) name (ap (λ (hs : List Heading). is_index hs name) same ∙ none)
    of_source (Join a b on equals) is none =
        ap (λ (x : Source). option_and_then (access_of (RowsStmt q)) (option_and_then (λ n. stored_at n ts) (keyed_name (RowsStmt (record q { source = x }))))) is
not_accessed p ts other same none = refl

-- so it is over the tables in place
pub held_plain : (p : Public) (indexes : List Index) (tables : Tables) (w : World) (stmt : Stmt) → AreHeld p.pack indexes p.tables tables w → is_access p (skeleton stmt) ≡ false → accessed tables stmt ≡ None
held_plain p indexes tables w stmt held none = not_accessed p tables stmt (held_headings p.pack indexes p.tables tables w held) none

-- ---- what a table holds, after a pass that changed neither its region nor a stash
pub holds_kept : (shape : Shape) (some : ℕ → Type 0) (pack : ℕ) (indexes : List Index) (t : Table) (x : Stored Held) (a b : World) → Lasts some a b → (some t.region → ⊥)
    → ((k : ℕ) (i : Index) → slice_get indexes k ≡ Some i → some i.stash → ⊥) → HoldsTable shape pack indexes t x a → HoldsTable shape pack indexes t x b
holds_kept FlatShape some pack indexes t x a b lasts apart off is = represents_lasts pack (flat_of t) some a b lasts apart x.held.slots is
holds_kept Indexed some pack indexes t x a b lasts apart off is = λ k i get tree. let was = is k i get tree in record {
  lies = lies_kept some a b lasts i (λ hit. apart (subst some tree hit)) (off k i get) (index_of x.heading x.held) was.lies;
  stands = was.stands;
}

-- and by other indexes, where those of its tree are the same
holds_among : (shape : Shape) (pack : ℕ) (indexes more : List Index) (t : Table) (x : Stored Held) (w : World)
    → ((k : ℕ) (i : Index) → slice_get more k ≡ Some i → i.tree ≡ t.region → (l : ℕ) × (slice_get indexes l ≡ Some i)) → HoldsTable shape pack indexes t x w → HoldsTable shape pack more t x w
holds_among FlatShape pack indexes more t x w same is = is
holds_among Indexed pack indexes more t x w same is = λ k i get tree. let was = same k i get tree in is was.0 i was.1 tree

-- after a pass that changed no table's region
pub held_kept : (some : ℕ → Type 0) (pack : ℕ) (indexes : List Index) (ts : List Table) (tables : Tables) (a b : World) → Lasts some a b
    → ((i : ℕ) (t : Table) → slice_get ts i ≡ Some t → some t.region → ⊥) → ((k : ℕ) (i : Index) → slice_get indexes k ≡ Some i → some i.stash → ⊥)
    → AreHeld pack indexes ts tables a → AreHeld pack indexes ts tables b
held_kept some pack indexes [] [] a b lasts apart off held = tt
held_kept some pack indexes [] (x ∷ xs) a b lasts apart off held = absurd held
held_kept some pack indexes (t ∷ ts) [] a b lasts apart off held = absurd held
held_kept some pack indexes (t ∷ ts) (x ∷ xs) a b lasts apart off held = (
  held.0,
  holds_kept t.heading.shape some pack indexes t x a b lasts (apart 0 t refl) off held.1,
  held_kept some pack indexes ts xs a b lasts (λ i u at. apart (suc i) u at) off held.2,
)

-- by other indexes
pub held_among : (pack : ℕ) (indexes more : List Index) (ts : List Table) (tables : Tables) (w : World)
    → ((k : ℕ) (i : Index) → slice_get more k ≡ Some i → (j : ℕ) (t : Table) → slice_get ts j ≡ Some t → i.tree ≡ t.region → (l : ℕ) × (slice_get indexes l ≡ Some i))
    → AreHeld pack indexes ts tables w → AreHeld pack more ts tables w
held_among pack indexes more [] [] w same held = tt
held_among pack indexes more [] (x ∷ xs) w same held = absurd held
held_among pack indexes more (t ∷ ts) [] w same held = absurd held
held_among pack indexes more (t ∷ ts) (x ∷ xs) w same held = (
  held.0,
  holds_among t.heading.shape pack indexes more t x w (λ k i get tree. same k i get 0 t refl tree) held.1,
  held_among pack indexes more ts xs w (λ k i get j u at tree. same k i get (suc j) u at tree) held.2,
)

-- one table more
pub held_added : (pack : ℕ) (indexes : List Index) (ts : List Table) (tables : Tables) (t : Table) (held : Held) (w : World) → AreHeld pack indexes ts tables w
    → HoldsTable t.heading.shape pack indexes t (record { heading = t.heading; held = held }) w
    → AreHeld pack indexes (ts ++ t ∷ []) (tables ++ record { heading = t.heading; held = held } ∷ []) w
held_added pack indexes [] [] t held w are is = (refl, is, tt)
held_added pack indexes [] (x ∷ xs) t held w are is = absurd are
held_added pack indexes (u ∷ ts) [] t held w are is = absurd are
held_added pack indexes (u ∷ ts) (x ∷ xs) t held w are is = (are.0, are.1, held_added pack indexes ts xs t held w are.2 is)

-- ---- the table of a name
-- the table in place beside a table
pub record Stood (pack : ℕ) (indexes : List Index) (name : List ℕ) (t : Table) (tables : Tables) (w : World) : Type 0 where
  pub table : Stored Held
  pub found : stored_at name tables ≡ Some table
  pub heading : table.heading ≡ t.heading
  pub holds : HoldsTable t.heading.shape pack indexes t table w

-- the same of a flat one
pub record Beside (pack : ℕ) (name : List ℕ) (t : Table) (tables : Tables) (w : World) : Type 0 where
  pub table : Stored Held
  pub found : stored_at name tables ≡ Some table
  pub heading : table.heading ≡ t.heading
  pub represents : Represents pack (flat_of t) table.held.slots w

-- what is found after a table of another name is found
behind : (pack : ℕ) (indexes : List Index) (name : List ℕ) (t : Table) (x : Stored Held) (xs : Tables) (w : World) → (b : Bool) → bytes_eq x.heading.name name ≡ b → b ≡ false
    → Stood pack indexes name t xs w → Stood pack indexes name t (x ∷ xs) w
behind pack indexes name t x xs w b is miss stood = record {
  table = stood.table;
  found = ap (λ (c : Bool). cond c (Some x) (stored_at name xs)) (is ∙ miss) ∙ stood.found;
  heading = stood.heading;
  holds = stood.holds;
}

pub stood_at : (pack : ℕ) (indexes : List Index) (name : List ℕ) (ts : List Table) (tables : Tables) (i : ℕ) (t : Table) (w : World) → AreNamed ts → AreHeld pack indexes ts tables w
    → slice_get ts i ≡ Some t → t.heading.name ≡ name → Stood pack indexes name t tables w
stood_at pack indexes name [] [] zero t w names held at is = absurd (cc at)
stood_at pack indexes name [] [] (suc i) t w names held at is = absurd (cc at)
stood_at pack indexes name [] (x ∷ xs) i t w names held at is = absurd held
stood_at pack indexes name (u ∷ ts) [] i t w names held at is = absurd held
stood_at pack indexes name (u ∷ ts) (x ∷ xs) zero t w names held at is =
    let same : u ≡ t = cc at in
    let of_name : x.heading.name ≡ name = ap (λ (h : Heading). h.name) held.0 ∙ ap (λ (v : Table). v.heading.name) same ∙ is in
    record {
      table = x;
      found = ap (λ (c : Bool). cond c (Some x) (stored_at name xs)) ((bytes_eq-Decides x.heading.name name).1 of_name);
      heading = held.0 ∙ ap (λ (v : Table). v.heading) same;
      holds = subst (λ (v : Table). HoldsTable v.heading.shape pack indexes v x w) same held.1;
    }
stood_at pack indexes name (u ∷ ts) (x ∷ xs) (suc i) t w names held at is =
    behind pack indexes name t x xs w (bytes_eq x.heading.name name) refl (miss (bytes_eq x.heading.name name) refl)
    (stood_at pack indexes name ts xs i t w (λ j k v z js ks same. omega (arith, names (suc j) (suc k) v z js ks same)) held.2 at is)
  where
    miss : (b : Bool) → bytes_eq x.heading.name name ≡ b → b ≡ false
    miss true hit = absurd (omega (arith, names 0 (suc i) u t refl at (ap (λ (h : Heading). h.name) (sym held.0) ∙ named x.heading.name name hit ∙ sym is)))
    miss false off = refl

pub held_at : (pack : ℕ) (indexes : List Index) (name : List ℕ) (ts : List Table) (tables : Tables) (i : ℕ) (t : Table) (w : World) → AreNamed ts → AreHeld pack indexes ts tables w
    → slice_get ts i ≡ Some t → t.heading.name ≡ name → t.heading.shape ≡ FlatShape → Beside pack name t tables w
held_at pack indexes name ts tables i t w names held at is flat =
    let stood = stood_at pack indexes name ts tables i t w names held at is in
    record {
      table = stood.table;
      found = stood.found;
      heading = stood.heading;
      represents = subst (λ (shape : Shape). HoldsTable shape pack indexes t stood.table w) flat stood.holds;
    }

-- ---- a flat table that lies in another region, with other slots
module _ (pack g : ℕ) (indexes : List Index) (name : List ℕ) (f : Slots → Slots) (w : World) where
  -- the head of both lists, by whether it has the name
  moved_head : (u : Table) (ts : List Table) (x : Stored Held) (xs : Tables) (b : Bool) → x.heading ≡ u.heading → bytes_eq u.heading.name name ≡ b
      → (b ≡ true → AreHeld pack indexes (record u { region = g } ∷ shifted name g ts) (record { heading = x.heading; held = in_slots f x.held } ∷ xs) w)
      → (b ≡ false → AreHeld pack indexes (u ∷ shifted name g ts) (x ∷ changed_at name (in_slots f) xs) w)
      → AreHeld pack indexes (shifted name g (u ∷ ts)) (changed_at name (in_slots f) (x ∷ xs)) w
  moved_head u ts x xs true same is hit miss =
      subst (λ (b : Bool). AreHeld pack indexes ((if b then record u { region = g } else u) ∷ shifted name g ts) (changed_at name (in_slots f) (x ∷ xs)) w) (sym is)
      (subst (λ (b : Bool). AreHeld pack indexes (record u { region = g } ∷ shifted name g ts) (if b then record { heading = x.heading; held = in_slots f x.held } ∷ xs else x ∷ changed_at name (in_slots f) xs) w)
      (sym (ap (λ (h : Heading). bytes_eq h.name name) same ∙ is)) (hit refl))
  moved_head u ts x xs false same is hit miss =
      subst (λ (b : Bool). AreHeld pack indexes ((if b then record u { region = g } else u) ∷ shifted name g ts) (changed_at name (in_slots f) (x ∷ xs)) w) (sym is)
      (subst (λ (b : Bool). AreHeld pack indexes (u ∷ shifted name g ts) (if b then record { heading = x.heading; held = in_slots f x.held } ∷ xs else x ∷ changed_at name (in_slots f) xs) w)
      (sym (ap (λ (h : Heading). bytes_eq h.name name) same ∙ is)) (miss refl))

  -- the others' regions hold what they held
  pub held_moved : (ts : List Table) (tables : Tables) (i : ℕ) (t : Table) (some : ℕ → Type 0) (a : World) → AreNamed ts → AreHeld pack indexes ts tables a
      → Lasts some a w → ((j : ℕ) (u : Table) → slice_get ts j ≡ Some u → (j ≡ i → ⊥) → some u.region → ⊥) → ((k : ℕ) (x : Index) → slice_get indexes k ≡ Some x → some x.stash → ⊥)
      → slice_get ts i ≡ Some t → t.heading.name ≡ name → t.heading.shape ≡ FlatShape
      → ((x : Stored Held) → stored_at name tables ≡ Some x → Represents pack (flat_of (record t { region = g })) (f x.held.slots) w)
      → AreHeld pack indexes (shifted name g ts) (changed_at name (in_slots f) tables) w
  held_moved [] [] zero t some a names held lasts apart off at is flat new = absurd (cc at)
  held_moved [] [] (suc i) t some a names held lasts apart off at is flat new = absurd (cc at)
  held_moved [] (x ∷ xs) i t some a names held lasts apart off at is flat new = absurd held
  held_moved (u ∷ ts) [] i t some a names held lasts apart off at is flat new = absurd held
  held_moved (u ∷ ts) (x ∷ xs) zero t some a names held lasts apart off at is flat new =
      let same : u ≡ t = cc at in
      let of_name : u.heading.name ≡ name = ap (λ (v : Table). v.heading.name) same ∙ is in
      let hit = (bytes_eq-Decides u.heading.name name).1 of_name in
      let x_hit = (bytes_eq-Decides x.heading.name name).1 (ap (λ (h : Heading). h.name) held.0 ∙ of_name) in
      let found : stored_at name (x ∷ xs) ≡ Some x = ap (λ (c : Bool). cond c (Some x) (stored_at name xs)) x_hit in
      let rest = unmoved name g ts (λ j v js of_other. omega (arith, names 0 (suc j) u v refl js (of_name ∙ sym of_other))) in
      let y : Stored Held = record { heading = x.heading; held = in_slots f x.held } in
      moved_head u ts x xs (bytes_eq u.heading.name name) held.0 refl
      (λ _. (
        held.0,
        subst (λ (v : Table). HoldsTable v.heading.shape pack indexes (record v { region = g }) y w) (sym same)
            (subst (λ (shape : Shape). HoldsTable shape pack indexes (record t { region = g }) y w) (sym flat) (new x found)),
        subst (λ (vs : List Table). AreHeld pack indexes vs xs w) (sym rest)
            (held_kept some pack indexes ts xs a w lasts (λ j v js hits. apart (suc j) v js (λ off. omega (arith, off)) hits) off held.2),
      ))
      (λ miss. absurd (cc (hit, miss)))
  held_moved (u ∷ ts) (x ∷ xs) (suc i) t some a names held lasts apart off at is flat new =
      moved_head u ts x xs (bytes_eq u.heading.name name) held.0 refl
      (λ hit. absurd (omega (arith, names 0 (suc i) u t refl at (named u.heading.name name hit ∙ sym is))))
      (λ miss. (
        held.0,
        holds_kept u.heading.shape some pack indexes u x a w lasts (apart 0 u refl (λ same. omega (arith, same))) off held.1,
        held_moved ts xs i t some a (λ j k v z js ks same. omega (arith, names (suc j) (suc k) v z js ks same)) held.2 lasts
            (λ j v js other. apart (suc j) v js (λ same. other (omega (arith, same)))) off at is flat
            (λ y found. new y (ap (λ (c : Bool). cond c (Some x) (stored_at name xs)) (ap (λ (h : Heading). bytes_eq h.name name) held.0 ∙ miss) ∙ found)),
      ))

-- no slots change where f changes none
pub changed_same : (name : List ℕ) (tables : Tables) → changed_at name (in_slots (λ slots. slots)) tables ≡ tables
changed_same name [] = refl
changed_same name (x ∷ xs) = head (bytes_eq x.heading.name name) refl (changed_same name xs)
  where
    head : (b : Bool) → bytes_eq x.heading.name name ≡ b → changed_at name (in_slots (λ slots. slots)) xs ≡ xs → changed_at name (in_slots (λ slots. slots)) (x ∷ xs) ≡ x ∷ xs
    head true is rest = ap (λ (c : Bool). if c then record { heading = x.heading; held = x.held } ∷ xs else x ∷ changed_at name (in_slots (λ slots. slots)) xs) is
    head false is rest = ap (λ (c : Bool). if c then record { heading = x.heading; held = x.held } ∷ xs else x ∷ changed_at name (in_slots (λ slots. slots)) xs) is ∙ ap (λ (ys : Tables). x ∷ ys) rest
