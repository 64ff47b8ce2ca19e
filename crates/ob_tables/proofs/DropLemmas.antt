-- DROP TABLE.
use Rattle.ob_tables.proofs.Words.{accepted_answer, Agrees, ap, AreHeld, AreTables, arith, behind_run, Bool, bytes_eq, bytes_eq-Decides, cases_eq, count_of, database, Dropped, End, Engine, false, flat_of, followed, Former, former_of, Heading, if◌then◌else◌, Index, index_kept, Indexed, inl, inr, IsAt, IsBeside, IsIndexIn, IsTable, IsTableRegion, IsTreeOf, Lasts, length, List, Lives, None, not, Ok, one, Opens, Option, option_map, option_map_or, others_of, Outcome, outcome_of, refl, Refusal, refusal, refusal_now, refused_late, Region, remove, Result, RevState, RunStop, ServesSilently, settle, settled, slice_get, Some, Stored, stored_at, stored_region, stored_regions, StoreState, subst, suc, sym, Tables, true, Vault, went_join, went_rests, Whole, whole_run, World, world_of, zero, ℕ, [], ◌<◌, ◌∙◌, ◌∷◌, ◌≡◌, ◌≤◌, ◌⊎◌}
use Rattle.std.specs.Prelude.{filter}
use Rattle.ob_base.specs.declared.schema.Shape.TheVariants.{Flat as FlatShape}
use Rattle.ob_base.specs.declared.schema.Table.{Table}
use Rattle.ob_base.specs.declared.skeleton.Skeleton.TheVariants.{Drop as DropSkeleton}
use Rattle.ob_base.specs.Stored.{dropped_at}
use Rattle.ob_store.specs.Calls.{ChangesNothing}
use Rattle.ob_vault.specs.Places.{at}
use Rattle.ob_flat.specs.declared.flat.Flat.{Flat}
use Rattle.ob_mutate.specs.declared.settling.Former.TheVariants.{Discard, Keep}
use Rattle.ob_mutate.specs.Mutating.{LeavesFormer, former_script}
use Rattle.ob_mean.proofs.FlatLemmas.{dropped_is}
use Rattle.ob_script.specs.Saved.{region_at}
use Rattle.ob_script.specs.Script.{dropped_script}
use Rattle.ob_sql.specs.declared.stmt.Stmt.TheVariants.{Drop as DropTable}
use Rattle.ob_mean.specs.Step.{answered as answered_by}
use Rattle.ob_mean.specs.Verdict.{ended as seen_to}
use Rattle.ob_tables.proofs.FormerLemmas.{former_is, kept_former, left_stays}
use Rattle.ob_tables.proofs.HeldLemmas.{held_kept, holds_kept}
use Rattle.ob_tables.proofs.PlainLemmas.{settle_is}
use Rattle.ob_tables.proofs.RunLemmas.{IsAnswered, engine_after, ran_whole}
use Rattle.ob_tables.proofs.SealLemmas.{keeps_pass}
use Rattle.ob_tables.proofs.SilentLemmas.{finished, serves_as}
use Rattle.ob_tables.proofs.TableLemmas.{AreNamed, beside_kept, named, stored_found, table_kept}
use Rattle.ob_tables.proofs.ToldLemmas.{early_held}

-- ---- a list without the element at a place
-- where an element of it stood: before that place, or after it
pub record Origin {A : Type 0} (xs : List A) (i j : ℕ) (y : A) : Type 0 where
  pub from : ℕ
  pub get : slice_get xs from ≡ Some y
  pub place : ((from ≡ j) × (from < i)) ⊎ ((from ≡ suc j) × (i < from))

pub origin : {A : Type 0} (xs : List A) (i j : ℕ) (y : A) → slice_get (remove xs i) j ≡ Some y → Origin xs i j y
origin [] zero zero y is = absurd (cc is)
origin [] zero (suc j) y is = absurd (cc is)
origin [] (suc i) zero y is = absurd (cc is)
origin [] (suc i) (suc j) y is = absurd (cc is)
origin (x ∷ xs) zero j y is = record { from = suc j; get = is; place = inr (refl, omega (arith)) }
origin (x ∷ xs) (suc i) zero y is = record { from = zero; get = is; place = inl (refl, omega (arith)) }
origin (x ∷ xs) (suc i) (suc j) y is =
    let rest = origin xs i j y is in
    record {
      from = suc rest.from;
      get = rest.get;
      place = elim rest.place [ inl low ↦ inl (ap suc low.0, omega (arith, low.1)) | inr high ↦ inr (ap suc high.0, omega (arith, high.1)) ];
    }

pub origin_off : {A : Type 0} (xs : List A) (i j : ℕ) (y : A) → (a : Origin xs i j y) → a.from ≡ i → ⊥
origin_off xs i j y a same = elim a.place [ inl low ↦ omega (arith, low.1, same) | inr high ↦ omega (arith, high.1, same) ]

pub same_origin : {A : Type 0} (xs : List A) (i j k : ℕ) (y z : A) → (a : Origin xs i j y) (b : Origin xs i k z) → a.from ≡ b.from → j ≡ k
same_origin xs i j k y z a b same =
    elim a.place [
      | inl low ↦ elim b.place [ inl low' ↦ omega (arith, low.0, low'.0, same) | inr high ↦ omega (arith, low.1, high.1, same) ]
      | inr high ↦ elim b.place [ inl low ↦ omega (arith, low.1, high.1, same) | inr high' ↦ omega (arith, high.0, high'.0, same) ]
    ]

-- an element that stood elsewhere is left
pub left_at : {A : Type 0} (xs : List A) (i k : ℕ) (y : A) → slice_get xs k ≡ Some y → (k ≡ i → ⊥) → (j : ℕ) × (slice_get (remove xs i) j ≡ Some y)
left_at [] i zero y is off = absurd (cc is)
left_at [] i (suc k) y is off = absurd (cc is)
left_at (x ∷ xs) zero zero y is off = absurd (off refl)
left_at (x ∷ xs) zero (suc k) y is off = (k, is)
left_at (x ∷ xs) (suc i) zero y is off = (zero, is)
left_at (x ∷ xs) (suc i) (suc k) y is off =
    let rest = left_at xs i k y is (λ same. off (ap suc same)) in (suc rest.0, rest.1)

remove_few : {A : Type 0} (xs : List A) (i : ℕ) → length (remove xs i) ≤ length xs
remove_few [] zero = omega (arith)
remove_few [] (suc i) = omega (arith)
remove_few (x ∷ xs) zero = omega (arith)
remove_few (x ∷ xs) (suc i) = let rest = remove_few xs i in omega (arith, rest)

-- ---- the tables without the one of a name
no_others : (name : List ℕ) (ts : List Table) → ((j : ℕ) (u : Table) → slice_get ts j ≡ Some u → u.heading.name ≡ name → ⊥) → filter (λ (t : Table). not (bytes_eq t.heading.name name)) ts ≡ ts
no_others name [] off = refl
no_others name (x ∷ xs) off = head (no_others name xs (λ j u js same. off (suc j) u js same)) (bytes_eq x.heading.name name) refl
  where
    head : filter (λ (t : Table). not (bytes_eq t.heading.name name)) xs ≡ xs → (b : Bool) → bytes_eq x.heading.name name ≡ b
        → filter (λ (t : Table). not (bytes_eq t.heading.name name)) (x ∷ xs) ≡ x ∷ xs
    head rest true is = absurd (off 0 x refl (named x.heading.name name is))
    head rest false is =
        ap (λ (b : Bool). if not b then x ∷ filter (λ (t : Table). not (bytes_eq t.heading.name name)) xs else filter (λ (t : Table). not (bytes_eq t.heading.name name)) xs) is
        ∙ ap (λ (ys : List Table). x ∷ ys) rest

pub removed_is : (name : List ℕ) (ts : List Table) (i : ℕ) (t : Table) → AreNamed ts → slice_get ts i ≡ Some t → t.heading.name ≡ name
    → remove ts i ≡ filter (λ (t : Table). not (bytes_eq t.heading.name name)) ts
removed_is name [] zero t names at is = absurd (cc at)
removed_is name [] (suc i) t names at is = absurd (cc at)
removed_is name (x ∷ xs) zero t names at is =
    let same : x ≡ t = cc at in
    let of_name : x.heading.name ≡ name = ap (λ (u : Table). u.heading.name) same ∙ is in
    let hit = (bytes_eq-Decides x.heading.name name).1 of_name in
    sym (no_others name xs (λ j u js of_other. omega (arith, names 0 (suc j) x u refl js (of_name ∙ sym of_other))))
    ∙ ap (λ (b : Bool). if not b then x ∷ filter (λ (t : Table). not (bytes_eq t.heading.name name)) xs else filter (λ (t : Table). not (bytes_eq t.heading.name name)) xs) (sym hit)
removed_is name (x ∷ xs) (suc i) t names at is =
    head (removed_is name xs i t (λ j k u v js ks same. omega (arith, names (suc j) (suc k) u v js ks same)) at is) (bytes_eq x.heading.name name) refl
  where
    head : remove xs i ≡ filter (λ (t : Table). not (bytes_eq t.heading.name name)) xs → (b : Bool) → bytes_eq x.heading.name name ≡ b
        → x ∷ remove xs i ≡ filter (λ (t : Table). not (bytes_eq t.heading.name name)) (x ∷ xs)
    head rest true hit = absurd (omega (arith, names 0 (suc i) x t refl at (named x.heading.name name hit ∙ sym is)))
    head rest false miss =
        ap (λ (ys : List Table). x ∷ ys) rest
        ∙ ap (λ (b : Bool). if not b then x ∷ filter (λ (t : Table). not (bytes_eq t.heading.name name)) xs else filter (λ (t : Table). not (bytes_eq t.heading.name name)) xs) (sym miss)

-- some regions are gone, the table's and maybe that of its stash, and what stands beside the tables then
pub record Without (ts : List Table) (other after : ℕ → Type 0) (indexes left : List Index) (t : Table) (some : ℕ → Type 0) : Type 0 where
  pub was : (q : ℕ) → after q → other q × (some q → ⊥)
  pub still : (q : ℕ) → other q → (some q → ⊥) → after q
  pub stood : (k : ℕ) (x : Index) → slice_get left k ≡ Some x → (l : ℕ) × (slice_get indexes l ≡ Some x) × (x.tree ≡ t.region → ⊥) × (some x.stash → ⊥)
  pub has : (q : ℕ) → (q ≡ t.region → ⊥) → IsTreeOf indexes q → IsTreeOf left q
  pub one : (k l : ℕ) (x y : Index) → slice_get left k ≡ Some x → slice_get left l ≡ Some y → x.tree ≡ y.tree → k ≡ l

module _ (pack : ℕ) (some : ℕ → Type 0) (ts : List Table) (other after : ℕ → Type 0) (indexes left : List Index) (t : Table) (i : ℕ) (old new : World) (lasts : Lasts some old new)
    (tables : AreTables ts other indexes pack old) (at_i : slice_get ts i ≡ Some t) (here : some t.region) (elsewhere : (k : ℕ) (u : Table) → slice_get ts k ≡ Some u → (k ≡ i → ⊥) → some u.region → ⊥)
    (gone : (q : ℕ) (shape : Region) → new.vault.revs.live q ≡ Some shape → some q → ⊥)
    (without : Without ts other after indexes left t some) where
  removed_each : (j : ℕ) (u : Table) → slice_get (remove ts i) j ≡ Some u → IsTable pack u new
  removed_each j u is =
      let o = origin ts i j u is in
      table_kept some pack u old new lasts (elsewhere o.from u o.get (origin_off ts i j u o)) (tables.each o.from u o.get)

  removed_apart : (j k : ℕ) (u v : Table) → slice_get (remove ts i) j ≡ Some u → slice_get (remove ts i) k ≡ Some v → u.region ≡ v.region → j ≡ k
  removed_apart j k u v js ks same =
      let a = origin ts i j u js in
      let b = origin ts i k v ks in
      same_origin ts i j k u v a b (tables.apart a.from b.from u v a.get b.get same)

  removed_names : (j k : ℕ) (u v : Table) → slice_get (remove ts i) j ≡ Some u → slice_get (remove ts i) k ≡ Some v → u.heading.name ≡ v.heading.name → j ≡ k
  removed_names j k u v js ks same =
      let a = origin ts i j u js in
      let b = origin ts i k v ks in
      same_origin ts i j k u v a b (tables.names a.from b.from u v a.get b.get same)

  removed_beside : (q : ℕ) → after q → IsBeside (remove ts i) q new
  removed_beside q is =
      let was = without.was q is in
      beside_kept some ts (remove ts i) q old new lasts was.1
      (λ of. let o = origin ts i of.place of.table of.get in record { place = o.from; table = of.table; get = o.get; region = of.region }) (tables.beside q was.0)

  left_region : (q : ℕ) → (q ≡ t.region → ⊥) → IsTableRegion ts q → IsTableRegion (remove ts i) q
  left_region q off of =
      let other_place : of.place ≡ i → ⊥ = λ same. let one_table : of.table ≡ t = cc (of.get, at_i, same) in off (sym of.region ∙ ap (λ (x : Table). x.region) one_table) in
      let at = left_at ts i of.place of.table of.get other_place in
      record { place = at.0; table = of.table; get = at.1; region = of.region }

  removed_only : (q : ℕ) (shape : Region) → new.vault.revs.live q ≡ Some shape → (some q → ⊥) → (q ≡ t.region → ⊥) → IsTableRegion (remove ts i) q ⊎ after q
  removed_only q shape live off off' = elim (tables.only q shape (sym (lasts.apart.live q off) ∙ live)) [
    | inl of ↦ inl (left_region q off' of)
    | inr beside ↦ inr (without.still q beside off)
  ]

  removed_index : (k : ℕ) (x : Index) → slice_get left k ≡ Some x → IsIndexIn (remove ts i) after x new
  removed_index k x is =
      let stood = without.stood k x is in
      let at = tables.stand stood.0 x stood.1 in
      let off = stood.2 in
      let other_place : at.place ≡ i → ⊥ = λ same. let one_table : at.table ≡ t = cc (at.get, at_i, same) in off (at.of.tree ∙ ap (λ (u : Table). u.region) one_table) in
      let place = left_at ts i at.place at.table at.get other_place in
      record {
        place = place.0;
        table = at.table;
        get = place.1;
        of = at.of;
        beside = without.still x.stash at.beside stood.3;
        stands = index_kept some old new lasts x (λ hit. elsewhere at.place at.table at.get other_place (subst some at.of.tree hit)) stood.3 at.stands;
      }

  removed_has : (j : ℕ) (u : Table) → slice_get (remove ts i) j ≡ Some u → u.heading.shape ≡ Indexed → IsTreeOf left u.region
  removed_has j u is shape =
      let o = origin ts i j u is in
      without.has u.region (λ same. origin_off ts i j u o (tables.apart o.from i u t o.get at_i same)) (tables.has o.from u o.get shape)

  pub tables_without : AreTables (remove ts i) after left pack new
  tables_without = record {
    each = removed_each;
    few = let fewer = remove_few ts i in let few = tables.few in omega (arith, fewer, few);
    apart = removed_apart;
    names = removed_names;
    beside = removed_beside;
    only = λ q shape live. removed_only q shape live (gone q shape live) (λ same. gone q shape live (subst some (sym same) here));
    stand = removed_index;
    has = removed_has;
    one = without.one;
  }

-- a flat one is gone
tables_removed : (pack r : ℕ) (ts : List Table) (other : ℕ → Type 0) (indexes : List Index) (t : Table) (i : ℕ) (old new : World) → Lasts (one r) old new → AreTables ts other indexes pack old
    → slice_get ts i ≡ Some t → t.region ≡ r → t.heading.shape ≡ FlatShape → ((shape : Region) → new.vault.revs.live r ≡ Some shape → ⊥) → AreTables (remove ts i) other indexes pack new
tables_removed pack r ts other indexes t i old new lasts tables at_i region_is flat gone =
    let off_beside : (q : ℕ) → other q → one r q → ⊥ = λ q is same. (tables.beside q is).off (record { place = i; table = t; get = at_i; region = region_is ∙ sym same }) in
    tables_without pack (one r) ts other other indexes indexes t i old new lasts tables at_i region_is
    (λ k u is off same. off (tables.apart k i u t is at_i (same ∙ sym region_is)))
    (λ q shape live same. gone shape (ap new.vault.revs.live (sym same) ∙ live))
    (record {
      was = λ q is. (is, off_beside q is);
      still = λ q is off. is;
      stood = λ k x is.
          let at = tables.stand k x is in (
            k,
            is,
            λ same. let place = tables.apart at.place i at.table t at.get at_i (sym at.of.tree ∙ same) in
                let one_table : at.table ≡ t = cc (at.get, at_i, place) in
                let indexed = at.of.indexed in
                absurd (cc (one_table, indexed, flat)),
            off_beside x.stash at.beside,
          );
      has = λ q off of. of;
      one = tables.one;
    })

-- the tables in place beside them
pub held_removed : (pack : ℕ) (some : ℕ → Type 0) (indexes : List Index) (name : List ℕ) (ts : List Table) (tables : Tables) (i : ℕ) (t : Table) (old new : World) → AreNamed ts → AreHeld pack indexes ts tables old → Lasts some old new
    → ((j : ℕ) (u : Table) → slice_get ts j ≡ Some u → (j ≡ i → ⊥) → some u.region → ⊥) → ((k : ℕ) (x : Index) → slice_get indexes k ≡ Some x → some x.stash → ⊥)
    → slice_get ts i ≡ Some t → t.heading.name ≡ name
    → AreHeld pack indexes (remove ts i) (dropped_at name tables) new
held_removed pack some indexes name [] [] zero t old new names held lasts apart stashes at is = absurd (cc at)
held_removed pack some indexes name [] [] (suc i) t old new names held lasts apart stashes at is = absurd (cc at)
held_removed pack some indexes name [] (x ∷ xs) i t old new names held lasts apart stashes at is = absurd held
held_removed pack some indexes name (u ∷ ts) [] i t old new names held lasts apart stashes at is = absurd held
held_removed pack some indexes name (u ∷ ts) (x ∷ xs) zero t old new names held lasts apart stashes at is =
    let same : u ≡ t = cc at in
    let of_name : x.heading.name ≡ name = ap (λ (h : Heading). h.name) held.0 ∙ ap (λ (v : Table). v.heading.name) same ∙ is in
    let hit = (bytes_eq-Decides x.heading.name name).1 of_name in
    subst (λ (b : Bool). AreHeld pack indexes ts (if b then xs else x ∷ dropped_at name xs) new) (sym hit)
    (held_kept some pack indexes ts xs old new lasts (λ j v js hits. apart (suc j) v js (λ off. omega (arith, off)) hits) stashes held.2)
held_removed pack some indexes name (u ∷ ts) (x ∷ xs) (suc i) t old new names held lasts apart stashes at is =
    head (bytes_eq x.heading.name name) refl
    (held_removed pack some indexes name ts xs i t old new (λ j k v z js ks same. omega (arith, names (suc j) (suc k) v z js ks same)) held.2 lasts
    (λ j v js off. apart (suc j) v js (λ same. off (omega (arith, same)))) stashes at is)
  where
    head : (b : Bool) → bytes_eq x.heading.name name ≡ b → AreHeld pack indexes (remove ts i) (dropped_at name xs) new → AreHeld pack indexes (u ∷ remove ts i) (dropped_at name (x ∷ xs)) new
    head true hit rest = absurd (omega (arith, names 0 (suc i) u t refl at (ap (λ (h : Heading). h.name) (sym held.0) ∙ named x.heading.name name hit ∙ sym is)))
    head false miss rest =
        subst (λ (b : Bool). AreHeld pack indexes (u ∷ remove ts i) (if b then xs else x ∷ dropped_at name xs) new) (sym miss)
        (held.0, holds_kept u.heading.shape some pack indexes u x old new lasts (apart 0 u refl (λ off. omega (arith, off))) stashes held.1, rest)

-- its region is live
pub lives_found : {R : Type 0} (state : R → RevState) (old : Engine R) (s s1 : StoreState) (i : ℕ) (table : Table) (flat : Flat) → Agrees state old s → slice_get old.public.tables i ≡ Some table
    → flat ≡ flat_of table → (shape : Region) × Lives flat.region shape (at state old.vault s1)
lives_found state old s s1 i table flat agrees get is =
    let lives = (agrees.tables.each i table get).live.lives.live in (_, record { live = ap (λ (f : Flat). (state old.vault.revs).live f.region) is ∙ lives })

-- nothing was opened
opens_former : (former : Former) (r high : ℕ) → Opens (former_script former r) high high
opens_former Discard r high = record { kept = omega (arith); some = λ none. absurd (cc none) }
opens_former Keep r high = record { kept = omega (arith); some = λ none. absurd (cc none) }

module _ {R : Type 0} (state : R → RevState) (old : Engine R) (s s1 : StoreState) (v : Vault R) (t : StoreState) (name : List ℕ) (i : ℕ) (table : Table)
    (agrees : Agrees state old s) (rests : ChangesNothing s s1) (here : IsAt name i table old.public.tables) (shape : table.heading.shape ≡ FlatShape) (now : refusal_now old.public (count_of old s) (DropTable name) ≡ None) where
  found : stored_at name (stored_regions old.public.tables) ≡ Some (stored_region table)
  found = stored_found name old.public.tables i table agrees.tables.names here.get here.named

  script_is : (end : End) → whole_run old.public (DropSkeleton name) (seen_to end) ≡ former_script (former_of old.public) table.region
  script_is end =
      ap (λ (o : Option (Stored ℕ)). option_map_or (dropped_script (behind_run old.public)) o []) found
      ∙ dropped_is (behind_run old.public) (stored_region table) shape
      ∙ sym (former_is old.public table.region)

  -- the table was dropped, whatever the store answered
  pub dropped : (region : ℕ) (former : Former) (new : Engine R) (result : Result Outcome RunStop) → region ≡ table.region → former ≡ former_of old.public
      → LeavesFormer former region (at state old.vault s1) (at state v t) → old.ended ≡ false → result ≡ Ok Dropped
      → new ≡ engine_after old v old.room (remove old.public.tables i) Whole old.ended → ServesSilently state (DropTable name) [] result old s new t
  dropped region former new result region_is former_is leaves_it lives answered is =
      let stmt = DropTable name in
      let r = table.region in
      let part = former_script (former_of old.public) r in
      let leaves : LeavesFormer (former_of old.public) r (at state old.vault s1) (at state v t) =
      subst (λ (f : Former). LeavesFormer f r (at state old.vault s1) (at state v t)) former_is (subst (λ (q : ℕ). LeavesFormer former q (at state old.vault s1) (at state v t)) region_is leaves_it) in
      let all = went_join (one r) _ _ _ [] part (went_rests _ s s1 rests (one r) agrees.ready) leaves.went in
      let apart : (j : ℕ) (u : Table) → slice_get old.public.tables j ≡ Some u → (j ≡ i → ⊥) → one r u.region → ⊥ = λ j u js off same. off (agrees.tables.apart j i u table js here.get same) in
      let removed = removed_is name old.public.tables i table agrees.tables.names here.get here.named in
      let is_answered : IsAnswered Dropped = record { whole = λ n. refl; own = refl } in
      let ran = ran_whole state (DropSkeleton name) old s v old.room t agrees agrees.room refl (one r) (remove old.public.tables i) part Dropped lives is_answered (opens_former (former_of old.public) r old.room.high) all
      (script_is Whole) removed
      (tables_removed old.public.pack r old.public.tables (others_of old.closing old.indexes.items) old.indexes.items table i _ _ all.lasts agrees.tables here.get refl shape (λ region live. absurd (cc (live, leaves.gone))))
      (λ q is. left_stays old.public.save table.region s s1 t (region_at name old.public) q (state v.revs).live (ap (option_map (λ (u : Stored ℕ). u.held)) found) rests leaves.stays leaves.gone is)
      (λ saves q below. elim (cases_eq q r) [
        | inl same ↦ kept_former old.public.save r s s1 t q saves same rests leaves.stays
        | inr off ↦ all.lasts.apart.rests q off
      ]) in
      serves_as state stmt old s t _ _ _ _ answered is
      (finished state stmt old s agrees now refl refl tt v old.room t (remove old.public.tables i) Dropped is_answered tt ran
      (keeps_pass state old s s1 rests agrees (engine_after old v old.room (remove old.public.tables i) Whole old.ended) t (at state v t) refl (λ good accepts. leaves.seals.seals good))
      (λ tables d reads.
      let early = early_held old.public (count_of old s) stmt tables old.indexes.items (world_of state old s) None reads.held.held now in
      let none : refusal old.public (count_of old s) tables stmt ≡ None = refused_late old.public (count_of old s) tables stmt early in
      let settles : settle d old.public (count_of old s) tables stmt ≡ dropped_at name tables =
      settle_is old.public tables stmt refl d (count_of old s) ∙ ap (λ (o : Option Refusal). followed o (settled d old.public tables stmt) tables) none in (
        sym (ap (λ (o : Option Refusal). outcome_of stmt (answered_by o (accepted_answer (database tables) stmt))) none),
        subst (λ (ts : Tables). AreHeld old.public.pack old.indexes.items (remove old.public.tables i) ts (at state v t)) (sym settles)
            (held_removed old.public.pack (one r) old.indexes.items name old.public.tables tables i table _ _ agrees.tables.names reads.held.held all.lasts apart
            (λ k x get same. (agrees.tables.beside x.stash (agrees.tables.stand k x get).beside).off (record { place = i; table = table; get = here.get; region = sym same })) here.get here.named),
      )))
