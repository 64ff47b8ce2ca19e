-- DROP TABLE of an index.
use Rattle.ob_tables.proofs.Words.{accepted_answer, Access, Agrees, ap, AreHeld, AreTables, arith, behind_run, by_shape, count_of, database, Dropped, End, Engine, false, followed, Global, Index, inl, inr, IsAt, IsIndexIn, IsIndexOfTable, left_region, List, None, none, Ok, Opens, OpErr, Option, option_map_or, others_of, outcome_of, RanStatement, refl, Refusal, refusal, refusal_now, refused_late, Region, remove, Result, RevState, ServesSilently, settle, settled, slice_get, Some, Stored, StoreState, subst, sym, Tables, two, Vault, Vec, Went, went_join, went_rests, Whole, whole_run, world_of, ℕ, [], ◌%◌, ◌++◌, ◌+◌, ◌^◌, ◌∙◌, ◌≡◌}
use Rattle.ob_base.specs.declared.schema.Shape.{Shape}
use Rattle.ob_base.specs.declared.schema.Table.{Table}
use Rattle.ob_base.specs.declared.skeleton.Skeleton.TheVariants.{Drop as DropSkeleton}
use Rattle.ob_base.specs.Accesses.{discard_at}
use Rattle.ob_base.specs.Stored.{dropped_at}
use Rattle.ob_store.specs.Calls.{ChangesNothing}
use Rattle.ob_vault.specs.Places.{at}
use Rattle.ob_oram.specs.Discards.{DiscardsIndex}
use Rattle.ob_oram.specs.Indexes.{IsStored}
use Rattle.ob_oram.proofs.Lasting.{stored_kept}
use Rattle.ob_script.specs.Script.{dropped_script}
use Rattle.ob_sql.specs.declared.stmt.Stmt.TheVariants.{Drop as DropTable}
use Rattle.ob_mean.specs.Step.{answered as answered_by}
use Rattle.ob_mean.specs.Verdict.{ended as seen_to}
use Rattle.ob_tables.proofs.DropLemmas.{held_removed, origin, origin_off, removed_is}
use Rattle.ob_tables.proofs.HeldLemmas.{held_among}
use Rattle.ob_tables.proofs.IndexTables.{apart_stash, apart_table, tables_unindexed, x_in}
use Rattle.ob_tables.proofs.RunLemmas.{MayHave, asks_none, engine_left, leaves_none, left_on, none_by, unsaved}
use Rattle.ob_tables.proofs.TableLemmas.{no_entry, stored_found}
use Rattle.ob_tables.proofs.PlainLemmas.{settle_is}
use Rattle.ob_tables.proofs.SealLemmas.{keeps_pass}
use Rattle.ob_tables.proofs.SilentLemmas.{finished_left}
use Rattle.ob_tables.proofs.ToldLemmas.{early_held}

-- an index of the engine is stored
pub stored_now : {R : Type 0} (state : R → RevState) (old : Engine R) (s s1 : StoreState) (k : ℕ) (index : Index) → Agrees state old s → ChangesNothing s s1 → slice_get old.indexes.items k ≡ Some index → IsStored index (at state old.vault s1)
stored_now state old s s1 k index agrees rests get =
    stored_kept none (world_of state old s) (at state old.vault s1) (went_rests _ s s1 rests none agrees.ready).lasts index (λ off. off) (λ off. off) (agrees.tables.stand k index get).stands.stored

module _ {R : Type 0} (state : R → RevState) (old : Engine R) (s s1 : StoreState) (v : Vault R) (t : StoreState) (name : List ℕ) (i k : ℕ) (table : Table) (index : Index) (left : Vec Index Global)
    (agrees : Agrees state old s) (rests : ChangesNothing s s1) (here : IsAt name i table old.public.tables) (of : IsIndexOfTable table index)
    (taken : slice_get old.indexes.items k ≡ Some index) (left_is : left.items ≡ remove old.indexes.items k) (now : refusal_now old.public (count_of old s) (DropTable name) ≡ None) where
  abbrev part : List Access
  part = discard_at index.tree ++ discard_at index.stash

  unsaved_here : old.public.save ≡ false
  unsaved_here = unsaved state old s k index agrees taken

  script_is : (end : End) → whole_run old.public (DropSkeleton name) (seen_to end) ≡ part
  script_is end =
      let tree = of.tree in
      let stash : index.stash ≡ table.region + 1 = of.stash in
      ap (λ (o : Option (Stored ℕ)). option_map_or (dropped_script (behind_run old.public)) o []) (stored_found name old.public.tables i table agrees.tables.names here.get here.named)
      ∙ ap (λ (shape : Shape). by_shape shape (behind_run old.public (Some table.region)) (discard_at table.region ++ discard_at (table.region + 1))) of.indexed
      ∙ (λ j. discard_at (sym tree j) ++ discard_at (sym stash j))

  abbrev it : IsIndexIn old.public.tables (others_of old.closing old.indexes.items) index (world_of state old s)
  it = x_in old.public.pack k old.public.tables old.closing old.indexes.items index (world_of state old s) agrees.tables taken

  place_is : i ≡ it.place
  place_is = agrees.tables.apart i it.place table it.table here.get it.get (sym of.tree ∙ it.of.tree)

  may : MayHave old left.items
  may = record {
    fit = λ l z get.
        let o = origin old.indexes.items k l z (subst (λ (is : List Index). slice_get is l ≡ Some z) left_is get) in agrees.fit o.from z o.get;
    aside = λ q closed at.
        let o = origin old.indexes.items k at.place at.index (subst (λ (is : List Index). slice_get is at.place ≡ Some at.index) left_is at.get) in
        agrees.aside q closed (record { place = o.from; index = at.index; get = o.get; stash = at.stash });
    kept = λ keep. let none = agrees.kept keep in absurd (no_entry old.indexes.items k index none taken);
  }

  module _ (answer : Result Unit OpErr) (discards : DiscardsIndex index answer (at state old.vault s1) (at state v t)) (lives : old.ended ≡ false) where
    all : Went part (two index.tree index.stash) (world_of state old s) (at state v t)
    all = went_join (two index.tree index.stash) _ _ _ [] part (went_rests _ s s1 rests (two index.tree index.stash) agrees.ready) discards.went

    gone : (q : ℕ) (shape : Region) → (state v.revs).live q ≡ Some shape → two index.tree index.stash q → ⊥
    gone q shape live (inl same) = let none = ap (state v.revs).live same ∙ discards.gone in absurd (cc (live, none))
    gone q shape live (inr same) = let none = ap (state v.revs).live same ∙ discards.gone_stash in absurd (cc (live, none))

    abbrev new : Engine R
    new = engine_left old left old.draws v old.room (remove old.public.tables i) (seen_to Whole) old.ended

    are : AreTables (remove old.public.tables i) (others_of old.closing left.items) left.items old.public.pack (at state v t)
    are =
        subst (λ (is : List Index). AreTables (remove old.public.tables i) (others_of old.closing is) is old.public.pack (at state v t)) (sym left_is)
        (subst (λ (n : ℕ). AreTables (remove old.public.tables n) (others_of old.closing (remove old.indexes.items k)) (remove old.indexes.items k) old.public.pack (at state v t)) (sym place_is)
        (tables_unindexed old.public.pack k old.public.tables old.closing old.indexes.items index (world_of state old s) (at state v t) all.lasts agrees.tables taken agrees.aside gone))

    pub ran_dropped : RanStatement state (DropSkeleton name) (Ok Dropped) old s new t
    ran_dropped = record {
      asked = all.did.asked ∙ ap (λ (y : List Access). s.asked ++ y) (sym (script_is Whole));
      later = all.lasts.later;
      keys = all.lasts.keys;
      start = all.lasts.start;
      from_closing = refl;
      replaced = refl;
      ends = refl;
      asks = asks_none Dropped _ refl;
      cause = (all.did.faults, all.calm);
      room = agrees.room;
      opened = subst (λ (y : List Access). Opens y old.room.high old.room.high) (sym (script_is Whole)) (record { kept = omega (arith); some = λ none. absurd (cc none) });
      leaves = λ d of_d. inr (inr (inl (refl, record { place = k; becomes = left_is })));
      goes_on = left_on state (DropSkeleton name) old s v old.room t agrees agrees.room left old.draws (remove old.public.tables i) (seen_to Whole) part old.ended lives all.lasts.ready all.lasts.start all.lasts.keys
          all.did.asked (script_is Whole) (removed_is name old.public.tables i table agrees.tables.names here.get here.named) are may refl
          (λ d of_d. let sum : d.drawn ≡ d.drawn + 0 = omega (arith) in of_d.next ∙ ap (λ (n : ℕ). n % 2 ^ 67) sum);
      stays = λ q is. leaves_none old.public (DropSkeleton name) Whole q _ (none_by old.public.save (left_region old.public (DropSkeleton name)) (inl unsaved_here)) is;
      kept = λ saves. let not = unsaved_here in absurd (cc (saves, not));
      indexed = λ stops. absurd (cc stops);
    }

    -- what the others hold stays
    pub held_dropped : (tables : Tables) → AreHeld old.public.pack old.indexes.items old.public.tables tables (world_of state old s)
        → AreHeld old.public.pack left.items (remove old.public.tables i) (dropped_at name tables) (at state v t)
    held_dropped tables held =
        subst (λ (is : List Index). AreHeld old.public.pack is (remove old.public.tables i) (dropped_at name tables) (at state v t)) (sym left_is)
        (held_removed old.public.pack (two index.tree index.stash) (remove old.indexes.items k) name old.public.tables tables i table (world_of state old s) (at state v t) agrees.tables.names
        (held_among old.public.pack old.indexes.items (remove old.indexes.items k) old.public.tables tables (world_of state old s)
        (λ l z get j u at tree. let o = origin old.indexes.items k l z get in (o.from, o.get)) held) all.lasts
        (λ j u at off. apart_table old.public.pack k old.public.tables old.closing old.indexes.items index (world_of state old s) agrees.tables taken j u at (λ same. off (same ∙ sym place_is)))
        (λ l z get.
        let o = origin old.indexes.items k l z get in
        apart_stash old.public.pack k old.public.tables old.closing old.indexes.items index (world_of state old s) agrees.tables taken o.from z o.get (origin_off old.indexes.items k l z o))
        here.get here.named)

    -- the table was dropped, whatever the store answered
    pub dropped_index : ServesSilently state (DropTable name) [] (Ok Dropped) old s new t
    dropped_index =
        finished_left state (DropTable name) old s agrees now refl refl left old.draws v old.room t (remove old.public.tables i) Dropped (record { whole = λ n. refl; own = refl }) tt ran_dropped
        (keeps_pass state old s s1 rests agrees new t (at state v t) refl (λ good accepts. discards.seals.seals good))
        (λ tables d of_d reads.
        let stmt = DropTable name in
        let early = early_held old.public (count_of old s) stmt tables old.indexes.items (world_of state old s) None reads.held.held now in
        let none : refusal old.public (count_of old s) tables stmt ≡ None = refused_late old.public (count_of old s) tables stmt early in
        let settles : settle d old.public (count_of old s) tables stmt ≡ dropped_at name tables =
        settle_is old.public tables stmt refl d (count_of old s) ∙ ap (λ (o : Option Refusal). followed o (settled d old.public tables stmt) tables) none in (
          sym (ap (λ (o : Option Refusal). outcome_of stmt (answered_by o (accepted_answer (database tables) stmt))) none),
          subst (λ (ts : Tables). AreHeld old.public.pack left.items (remove old.public.tables i) ts (at state v t)) (sym settles) (held_dropped tables reads.held.held),
        ))
