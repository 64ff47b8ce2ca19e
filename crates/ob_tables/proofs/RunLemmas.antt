-- How a statement of an engine ends.
use Rattle.ob_tables.proofs.Words.{Access, AfterCount, Agrees, answer_of, ap, append-nil, AreDraws, AreTables, arith, Began, Bool, by_fault, Cut, draw_seed_of, drawn_by, DrawPlace, Draws, draws_taken, End, Engine, Err, false, free_after, Global, if◌then◌else◌, Index, inl, inr, is_fault, is_late, is_stop, is_store_fault, IsFree, IsStashOf, IsTrue, Batched, key_of, KeySet, later_rests, length, length-append, List, makes, max, nat_tests, None, Ok, Opens, OpErr, Option, others_of, Outcome, PassCut, Public, RanStatement, Ready, refl, Refusal, Refused, refused_end, Result, RevState, RoomState, run_script, RunCause, RunStop, Seen, Skeleton, slice_get, Some, Start, start_of, Static, StoreState, subst, sym, take, true, UsesRoom, Vault, Vec, Went, Whole, whole_run, World, world_of, ℕ, [], ◌%◌, ◌++◌, ◌+◌, ◌-◌, ◌<◌, ◌^◌, ◌∙◌, ◌≡◌, ◌≤◌, ◌⊎◌}
use Rattle.std.proofs.Common.{OnOk}
use Rattle.ob_tables.specs.declared.stop.RunStop.TheVariants as Stops
use Rattle.ob_base.proofs.AccessLemmas.{makes-append}
use Rattle.ob_store.specs.Calls.{ChangesNothing}
use Rattle.ob_store.proofs.Steps.{began_take, later_refl}
use Rattle.ob_vault.specs.State.{VaultState}
use Rattle.ob_vault.specs.Tied.{ReadsIn}
use Rattle.ob_flat.specs.declared.fault.OpErr.TheVariants as OpErrs
use Rattle.ob_flat.specs.Passes.{PassCause, is_of_access}
use Rattle.ob_mutate.specs.Mutating.{StaysStored}
use Rattle.ob_script.specs.Saved.{left_by, left_then, run_next}
use Rattle.std.specs.Result.{is_err}
use Rattle.ob_script.specs.Tables.{tables_after, tables_then}
use Rattle.ob_base.specs.declared.schema.Table.{Table}
use Rattle.ob_vault.specs.Places.{at}
use Rattle.ob_mean.specs.Verdict.{ended as seen_to}
use Rattle.ob_seal.specs.Draws.{draw_of}
use Rattle.ob_tables.specs.Engines.{FitsSettings}
use Rattle.ob_tables.specs.Refusals.{IsNoFault}
use Rattle.ob_tables.specs.Running.{outcome_end, result_end, stops_access, GoesOn, Continues, IsFaulted}
use Rattle.ob_tables.proofs.TableLemmas.{no_entry}

abbrev pub world : VaultState → StoreState → World
world v s = record { vault = v; store = s }

-- the next region after some accesses
pub next_after : (a b : World) (x : List Access) → Ready a → Ready b → b.vault.start ≡ a.vault.start → b.store.asked ≡ a.store.asked ++ x → b.vault.next ≡ a.vault.next + makes x
next_after a b x was is start asked =
    let sum = makes-append a.store.asked x in
    let all = ap makes asked in
    omega (arith, was.tied.next, is.tied.next, ap (λ (s : Start). s.region) start, sum, all)

-- what holds at an `Ok`, where there is no `Err`
pub at_ok : {T E : Type 0} (r : Result T E) (P : Type 0) → is_err r ≡ false → OnOk r P → P
at_ok (Ok x) P ok h = h
at_ok (Err e) P ok h = absurd (cc ok)

makes_none : makes [] ≡ 0
unfolding makes
makes_none = refl

-- of what holds by whether the store failed, where it didn't
pub of_other : (cut whole : Type 0) (failed : Bool) → failed ≡ false → whole → by_fault failed cut whole
of_other cut whole true e h = absurd (cc e)
of_other cut whole false e h = h

-- a refusal before any access is none by the store
pub record IsEarly (r : Refusal) : Type 0 where
  pub static : (n : ℕ) → refused_end r n ≡ Static
  pub own : IsNoFault r

-- nothing was asked
pub opens_none : (high : ℕ) → Opens [] high high
opens_none high = record { kept = omega (arith); some = λ none. absurd (cc none) }

-- a row was open, whatever was asked
pub opens_some : (part : List Access) (old pack : ℕ) → 1 ≤ pack → Opens part old (max old pack)
opens_some part old pack some = record { kept = omega (arith); some = λ any. omega (arith, some) }

-- an answer that is none by the store
pub asks_none : (outcome : Outcome) (P : Type 0) → is_fault outcome ≡ false → IsFaulted (Ok outcome) → P
asks_none outcome P well faulted = absurd (cc (well, faulted))

-- want of memory alone is answered as such
pub only_memory : (e : OpErr) → answer_of e ≡ Err Stops.NoMemory → e ≡ OpErrs.NoMemory
only_memory OpErrs.NoMemory is = refl
only_memory other is = absurd (cc is)

-- no pass over a flat table ends the session as an access of an index does
pub no_access : (e : OpErr) → stops_access (answer_of e) ≡ true → ⊥
no_access OpErrs.Failed stops = cc stops
no_access other stops = cc stops

-- an access that failed was asked
pub asks_cut : (e : OpErr) (s t : StoreState) → (IsTrue (is_of_access e) → length s.asked < length t.asked) → IsFaulted (answer_of e) → length s.asked < length t.asked
asks_cut OpErrs.Failed s t asks faulted = asks refl
asks_cut other s t asks faulted = absurd faulted

-- ---- what a statement leaves in the store
-- nothing, where it leaves no region
pub leaves_none : (p : Public) (s : Skeleton) (end : End) (q : ℕ) (P : Type 0) → left_by p s ≡ None → left_then p s end ≡ Some q → P
leaves_none p s Static q P none is = absurd (cc is)
leaves_none p s Whole q P none is = absurd (cc (none, is))
leaves_none p s AfterCount q P none is = absurd (cc is)
leaves_none p s Batched q P none is = absurd (cc is)
leaves_none p s (Cut n) q P none is = absurd (cc is)

-- as where tables aren't saved, or none is changed
pub none_by : (saves : Bool) (o : Option ℕ) → (saves ≡ false) ⊎ (o ≡ None) → (if saves then o else None) ≡ None
none_by true o (inl not) = absurd (cc not)
none_by true o (inr none) = none
none_by false o why = refl

-- where there is an index tables aren't saved
pub unsaved : {R : Type 0} (state : R → RevState) (old : Engine R) (s : StoreState) (k : ℕ) (x : Index) → Agrees state old s → slice_get old.indexes.items k ≡ Some x → old.public.save ≡ false
unsaved state old s k x agrees get = go old.public.save refl
  where
    go : (b : Bool) → old.public.save ≡ b → old.public.save ≡ false
    go true saves = absurd (no_entry old.indexes.items k x (agrees.kept (agrees.saved saves)) get)
    go false not = not

-- ---- indexes and draws beside the tables
-- an engine may go on with these indexes
pub record MayHave {R : Type 0} (old : Engine R) (indexes : List Index) : Type 0 where
  pub fit : (k : ℕ) (x : Index) → slice_get indexes k ≡ Some x → FitsSettings old.public x
  pub aside : (q : ℕ) → old.closing ≡ Some q → IsStashOf indexes q → ⊥
  pub kept : old.public.keep ≡ true → indexes ≡ []

pub may_have : {R : Type 0} (state : R → RevState) (old : Engine R) (s : StoreState) → Agrees state old s → MayHave old old.indexes.items
may_have state old s agrees = record { fit = agrees.fit; aside = agrees.aside; kept = agrees.kept }

-- nothing is drawn, however a statement ends
pub taken_none : (p : Public) (s : Skeleton) → drawn_by p s ≡ 0 → (end : End) → draws_taken p s end ≡ 0
taken_none p s none Static = refl
taken_none p s none Batched = refl
taken_none p s none other = none

-- the same draws, where none was taken
pub draws_same : {R : Type 0} (old new : Engine R) (d : Draws) (n : ℕ) → n ≡ 0 → new.vault.keys ≡ old.vault.keys → new.draws ≡ old.draws → AreDraws old d → AreDraws new (record d { drawn = d.drawn + n })
draws_same old new d n none keys same are =
    let sum : d.drawn + n ≡ d.drawn = omega (arith, none) in
    record {
      draw = λ k. are.draw k ∙ ap (λ (ks : KeySet). draw_of ks k) (sym keys);
      next = ap (λ (q : DrawPlace). q.next) same ∙ are.next ∙ ap (λ (k : ℕ). k % 2 ^ 67) (sym sum);
    }

module _ {R : Type 0} (state : R → RevState) (skeleton : Skeleton) (old : Engine R) (s : StoreState) (agrees : Agrees state old s) (lives : old.ended ≡ false) where
  -- a refusal before any access
  pub ran_refused : (r : Refusal) → IsEarly r → RanStatement state skeleton (Ok (Refused r)) old s (record old { seen = seen_to Static }) s
  ran_refused r early = record {
    asked = sym (append-nil s.asked);
    later = later_refl s;
    keys = refl;
    start = refl;
    from_closing = refl;
    replaced = refl;
    ends = sym (early.static _);
    asks = asks_none (Refused r) _ early.own;
    cause = (of_other _ _ (is_store_fault r) early.own refl, λ calm. calm);
    room = agrees.room;
    opened = opens_none old.room.high;
    leaves = λ d of. inl (refl, λ goes. refl);
    goes_on = record {
      agrees = record {
        ready = agrees.ready;
        next = agrees.next;
        settings = agrees.settings;
        stash = agrees.stash;
        room = agrees.room;
        tables = agrees.tables;
        fit = agrees.fit;
        aside = agrees.aside;
        seeded = agrees.seeded;
        kept = agrees.kept;
        saved = agrees.saved;
      };
      public = let same : old.public.next_region ≡ old.public.next_region + makes [] = omega (arith, makes_none) in λ i. record old.public { next_region = same i };
      lives = lives;
      drawn = λ d are. draws_same old (record old { seen = seen_to Static }) d 0 refl refl refl are;
    };
    stays = λ q is. absurd (cc is);
    kept = λ saves q below. refl;
    indexed = λ stops. absurd (cc stops);
  }

-- an answer after all accesses
pub record IsAnswered (outcome : Outcome) : Type 0 where
  pub whole : (n : ℕ) → outcome_end outcome n ≡ Whole
  pub own : is_fault outcome ≡ false

-- an engine after a statement: its indexes, its draws, its vault, its room and its tables may be others
abbrev pub engine_left : {R : Type 0} → Engine R → Vec Index Global → DrawPlace → Vault R → RoomState → List Table → Seen → Bool → Engine R
engine_left old indexes draws v room tables seen ended = record old {
  indexes = indexes;
  draws = draws;
  vault = v;
  room = room;
  public = record old.public { tables = tables; next_region = v.next };
  seen = seen;
  ended = ended;
}

-- after one that accesses and makes no index
abbrev pub engine_after : {R : Type 0} → Engine R → Vault R → RoomState → List Table → End → Bool → Engine R
engine_after old v room tables end ended = engine_left old old.indexes old.draws v room tables (seen_to end) ended

module _ {R : Type 0} (state : R → RevState) (skeleton : Skeleton) (old : Engine R) (s : StoreState) (v : Vault R) (room : RoomState) (t : StoreState)
    (agrees : Agrees state old s) (free : IsFree old.public room) where
  pub left_on : (indexes : Vec Index Global) (draws : DrawPlace) (tables : List Table) (seen : Seen) (x : List Access) (ended : Bool) → ended ≡ false → Ready (at state v t)
      → start_of v ≡ start_of old.vault → v.keys ≡ old.vault.keys → t.asked ≡ s.asked ++ x
      → run_script old.public skeleton seen ≡ x → tables ≡ tables_then old.public skeleton seen.end → AreTables tables (others_of old.closing indexes.items) indexes.items old.public.pack (at state v t)
      → MayHave old indexes.items → draws.key ≡ old.draws.key
      → ((d : Draws) → AreDraws old d → draws.next ≡ (d.drawn + draws_taken old.public skeleton seen.end) % 2 ^ 67)
      → GoesOn state skeleton (run_next old.public skeleton seen) old (engine_left old indexes draws v room tables seen ended) t
  left_on indexes draws tables seen x ended lives ready start keys asked is same are may key drawn =
      let number = next_after (world_of state old s) (at state v t) x agrees.ready ready start asked in
      let region : v.next ≡ old.public.next_region + makes (run_script old.public skeleton seen) =
      number ∙ ap (λ (n : ℕ). n + makes x) (sym agrees.next) ∙ ap (λ (y : List Access). old.public.next_region + makes y) (sym is) in
      record {
        agrees = record {
          ready = ready;
          next = refl;
          settings = agrees.settings;
          stash = agrees.stash;
          room = record { idle = free.idle; rows = free.rows; pack = free.pack };
          tables = are;
          fit = λ k i get. let fits = may.fit k i get in record { slots = fits.slots; rows = fits.rows };
          aside = may.aside;
          seeded = key ∙ agrees.seeded ∙ ap (λ (ks : KeySet). key_of (draw_seed_of ks)) (sym keys);
          kept = may.kept;
          saved = agrees.saved;
        };
        public = λ i. record old.public { tables = same i; next_region = region i };
        lives = lives;
        drawn = λ d of. record { draw = λ k. of.draw k ∙ ap (λ (ks : KeySet). draw_of ks k) (sym keys); next = drawn d of };
      }

  cut_ends : (e : OpErr) (n : ℕ) → Cut n ≡ result_end (answer_of e) n
  cut_ends OpErrs.Failed n = refl
  cut_ends other n = refl

  cut_cause : (e : OpErr) (a b : World) → PassCause e a b → RunCause (answer_of e) a b
  cut_cause OpErrs.Failed a b cause = cause
  cut_cause other a b cause = cause

  cut_on : (e : OpErr) (indexes : Vec Index Global) (draws : DrawPlace) (n : ℕ) → GoesOn state skeleton (run_next old.public skeleton (seen_to (Cut n))) old (engine_left old indexes draws v room old.public.tables (seen_to (Cut n)) false) t
      → Continues state skeleton (run_next old.public skeleton (seen_to (Cut n))) (answer_of e) old (engine_left old indexes draws v room old.public.tables (seen_to (Cut n)) (is_stop (answer_of e))) t
  cut_on OpErrs.Failed indexes draws n on = on
  cut_on other indexes draws n on = refl

  -- a pass gave up, which left the indexes, and the regions that there were
  pub stopped_left : (indexes : Vec Index Global) (draws : DrawPlace) (some : ℕ → Type 0) (n : ℕ) (x : List Access) (e : OpErr) → indexes.items ≡ old.indexes.items
      → Opens (run_script old.public skeleton (seen_to (Cut n))) old.room.high room.high → PassCut e x some (world_of state old s) (at state v t)
      → whole_run old.public skeleton (seen_to (Cut n)) ≡ x → n ≡ length t.asked - length s.asked → AreTables old.public.tables (others_of old.closing indexes.items) indexes.items old.public.pack (at state v t)
      → MayHave old indexes.items → draws.key ≡ old.draws.key → ((d : Draws) → AreDraws old d → draws.next ≡ (d.drawn + drawn_by old.public skeleton) % 2 ^ 67)
      → ((q : ℕ) → q < old.vault.next → some q → ⊥)
      → RanStatement state skeleton (answer_of e) old s (engine_left old indexes draws v room old.public.tables (seen_to (Cut n)) (is_stop (answer_of e))) t
  stopped_left indexes draws some n x e same opens cut is count are may key drawn fresh =
      let first : t.asked ≡ s.asked ++ take n x = began_take x _ _ cut.began ∙ ap (λ (k : ℕ). s.asked ++ take k x) (sym count) in
      record {
        asked = first ∙ ap (λ (y : List Access). s.asked ++ take n y) (sym is);
        later = cut.lasts.later;
        keys = cut.lasts.keys;
        start = cut.lasts.start;
        from_closing = refl;
        replaced = refl;
        ends = cut_ends e n ∙ ap (result_end (answer_of e)) count;
        asks = asks_cut e s t cut.asks;
        cause = cut_cause e _ _ cut.cause;
        room = free;
        opened = opens;
        leaves = λ d of. inl (refl, λ goes. same);
        goes_on = cut_on e indexes draws n (left_on indexes draws old.public.tables (seen_to (Cut n)) (take n x) false refl cut.lasts.ready cut.lasts.start cut.lasts.keys first (ap (take n) is) refl are may key drawn);
        stays = λ q is. absurd (cc is);
        kept = λ saves q below. cut.lasts.apart.rests q (fresh q below);
        indexed = λ stops. absurd (no_access e stops);
      }

module _ {R : Type 0} (state : R → RevState) (skeleton : Skeleton) (old : Engine R) (s : StoreState) (v : Vault R) (room : RoomState) (t : StoreState)
    (agrees : Agrees state old s) (free : IsFree old.public room) (undrawn : drawn_by old.public skeleton ≡ 0) where
  went_on : (tables : List Table) (end : End) (x : List Access) (ended : Bool) → ended ≡ false → Ready (at state v t) → start_of v ≡ start_of old.vault → v.keys ≡ old.vault.keys → t.asked ≡ s.asked ++ x
      → run_script old.public skeleton (seen_to end) ≡ x → tables ≡ tables_then old.public skeleton end → AreTables tables (others_of old.closing old.indexes.items) old.indexes.items old.public.pack (at state v t)
      → GoesOn state skeleton (run_next old.public skeleton (seen_to end)) old (engine_after old v room tables end ended) t
  went_on tables end x ended lives ready start keys asked is same are =
      left_on state skeleton old s v room t agrees free old.indexes old.draws tables (seen_to end) x ended lives ready start keys asked is same are (may_have state old s agrees) refl
      (λ d of. let none = taken_none old.public skeleton undrawn end in
      let sum : d.drawn ≡ d.drawn + draws_taken old.public skeleton end = omega (arith, none) in
      of.next ∙ ap (λ (k : ℕ). k % 2 ^ 67) sum)

  -- all of it was asked
  pub ran_whole : (some : ℕ → Type 0) (tables : List Table) (x : List Access) (outcome : Outcome) → old.ended ≡ false → IsAnswered outcome → Opens x old.room.high room.high
      → Went x some (world_of state old s) (at state v t) → whole_run old.public skeleton (seen_to Whole) ≡ x → tables ≡ tables_after old.public skeleton
      → AreTables tables (others_of old.closing old.indexes.items) old.indexes.items old.public.pack (at state v t) → ((q : ℕ) → left_by old.public skeleton ≡ Some q → StaysStored q s t × ((state v.revs).live q ≡ None))
      → (old.public.save ≡ true → (q : ℕ) → q < old.vault.next → t.kept q ≡ s.kept q)
      → RanStatement state skeleton (Ok outcome) old s (engine_after old v room tables Whole old.ended) t
  ran_whole some tables x outcome lives answered opens went is same are stays kept = record {
    asked = went.did.asked ∙ ap (λ (y : List Access). s.asked ++ y) (sym is);
    later = went.lasts.later;
    keys = went.lasts.keys;
    start = went.lasts.start;
    from_closing = refl;
    replaced = refl;
    ends = sym (answered.whole _);
    asks = asks_none outcome _ answered.own;
    cause = (of_other _ _ (is_fault outcome) answered.own went.did.faults, went.calm);
    room = free;
    opened = subst (λ (y : List Access). Opens y old.room.high room.high) (sym is) opens;
    leaves = λ d of. inl (refl, λ goes. refl);
    goes_on = went_on tables Whole x old.ended lives went.lasts.ready went.lasts.start went.lasts.keys went.did.asked is same are;
    stays = λ q is. let left = stays q is in record { stored = left.0; forgotten = left.1 };
    kept = kept;
    indexed = λ stops. absurd (cc stops);
  }

  -- a pass gave up
  pub ran_stopped : (some : ℕ → Type 0) (n : ℕ) (x : List Access) (e : OpErr) → Opens (run_script old.public skeleton (seen_to (Cut n))) old.room.high room.high → PassCut e x some (world_of state old s) (at state v t)
      → whole_run old.public skeleton (seen_to (Cut n)) ≡ x → n ≡ length t.asked - length s.asked → AreTables old.public.tables (others_of old.closing old.indexes.items) old.indexes.items old.public.pack (at state v t)
      → ((q : ℕ) → q < old.vault.next → some q → ⊥)
      → RanStatement state skeleton (answer_of e) old s (engine_after old v room old.public.tables (Cut n) (is_stop (answer_of e))) t
  ran_stopped some n x e opens cut is count are fresh =
      stopped_left state skeleton old s v room t agrees free old.indexes old.draws some n x e refl opens cut is count are (may_have state old s agrees) refl
      (λ d of. let sum : d.drawn ≡ d.drawn + drawn_by old.public skeleton = omega (arith, undrawn) in of.next ∙ ap (λ (k : ℕ). k % 2 ^ 67) sum) fresh

-- as many rows of the room were open as a block has, or more
pub opens_rows : {R : Type 0} {state : R → RevState} {old : Engine R} {s : StoreState} {room : RoomState} (most : ℕ) → Agrees state old s → old.room.pack ≤ most → room ≡ record old.room { high = max old.room.high most } → UsesRoom old.room room
opens_rows {old = old} most agrees least is =
    let high = ap (λ (r : RoomState). r.high) is in
    let some = agrees.settings.pack_least in
    let same = agrees.room.pack in
    record { same = is ∙ (λ i. record old.room { high = sym high i }); kept = omega (arith, high); some = omega (arith, high, some, same, least) }

pub opens_block : {R : Type 0} {state : R → RevState} {old : Engine R} {s : StoreState} {room : RoomState} → Agrees state old s → room ≡ record old.room { high = max old.room.high old.room.pack } → UsesRoom old.room room
opens_block {old = old} agrees is = opens_rows old.room.pack agrees (omega (arith)) is

module _ {R : Type 0} (state : R → RevState) (skeleton : Skeleton) (old : Engine R) (s : StoreState) (v : Vault R) (room : RoomState) (t : StoreState)
    (agrees : Agrees state old s) (uses : UsesRoom old.room room) (undrawn : drawn_by old.public skeleton ≡ 0) where
  free : IsFree old.public room
  free = free_after old.public old.room room _ agrees.room uses.same

  opened : (part : List Access) → Opens part old.room.high room.high
  opened part = record { kept = uses.kept; some = λ any. uses.some }

  -- all of a pass over the room was asked
  pub ran_done : (some : ℕ → Type 0) (tables : List Table) (x : List Access) (outcome : Outcome) → old.ended ≡ false → IsAnswered outcome → Went x some (world_of state old s) (at state v t)
      → whole_run old.public skeleton (seen_to Whole) ≡ x → tables ≡ tables_after old.public skeleton → AreTables tables (others_of old.closing old.indexes.items) old.indexes.items old.public.pack (at state v t)
      → ((q : ℕ) → left_by old.public skeleton ≡ Some q → StaysStored q s t × ((state v.revs).live q ≡ None))
      → (old.public.save ≡ true → (q : ℕ) → q < old.vault.next → t.kept q ≡ s.kept q)
      → RanStatement state skeleton (Ok outcome) old s (engine_after old v room tables Whole old.ended) t
  ran_done some tables x outcome lives answered went is same are stays kept =
      ran_whole state skeleton old s v room t agrees free undrawn some tables x outcome lives answered (opened x) went is same are stays kept

  -- a pass over the room gave up
  pub ran_cut : (some : ℕ → Type 0) (n : ℕ) (x : List Access) (e : OpErr) → PassCut e x some (world_of state old s) (at state v t)
      → whole_run old.public skeleton (seen_to (Cut n)) ≡ x → n ≡ length t.asked - length s.asked → AreTables old.public.tables (others_of old.closing old.indexes.items) old.indexes.items old.public.pack (at state v t)
      → ((q : ℕ) → q < old.vault.next → some q → ⊥)
      → RanStatement state skeleton (answer_of e) old s (engine_after old v room old.public.tables (Cut n) (is_stop (answer_of e))) t
  ran_cut some n x e cut is count are fresh = ran_stopped state skeleton old s v room t agrees free undrawn some n x e (opened _) cut is count are fresh

-- the same, of an equal answer and an equal engine
pub ran_as : {R : Type 0} (state : R → RevState) (skeleton : Skeleton) (old : Engine R) (s : StoreState) (t : StoreState) (r q : Result Outcome RunStop) (new same : Engine R)
    → r ≡ q → new ≡ same → RanStatement state skeleton q old s same t → RanStatement state skeleton r old s new t
ran_as {R} state skeleton old s t r q new same answer is ran =
    subst (λ (e : Engine R). RanStatement state skeleton r old s e t) (sym is) (subst (λ (a : Result Outcome RunStop). RanStatement state skeleton a old s same t) (sym answer) ran)

-- a statement that is not late begins below the last access of a pass
pub early_few : (m n : ℕ) → is_late m ≡ false → n ≡ m → n < 9799832789158199296
early_few m n late same =
    let small : m < 9223372036854775808 = grind (arith, nat_tests) in
    omega (arith, small, same)

-- a count of accesses falls in no pass
pub count_rises : (a b : ℕ) (x : List Access) (old mid new : StoreState) → a ≡ length old.asked → ChangesNothing old mid → Began x mid new → b ≡ length new.asked → a ≤ b
count_rises a b x old mid new before rests began after =
    let more : length new.asked ≡ length mid.asked + length began.done = ap length began.asked ∙ length-append mid.asked began.done in
    let same : length mid.asked ≡ length old.asked = ap length rests.asked in
    omega (arith, before, after, more, same)

-- memory was wanted before the first access, also once numbers were drawn: nothing was asked
pub ran_unasked : {R : Type 0} (state : R → RevState) (skeleton : Skeleton) (old : Engine R) (s t : StoreState) (indexes : Vec Index Global) (draws : DrawPlace) (tables : List Table) → Agrees state old s → ChangesNothing s t
    → RanStatement state skeleton (Err Stops.NoMemory) old s (engine_left old indexes draws old.vault old.room tables (seen_to (Cut 0)) true) t
ran_unasked state skeleton old s t indexes draws tables agrees rests =
    let same : length t.asked ≡ length s.asked = ap length rests.asked in
    let none : 0 ≡ length t.asked - length s.asked = omega (arith, same) in
    record {
      asked = rests.asked ∙ sym (append-nil s.asked);
      later = later_rests s t rests;
      keys = refl;
      start = refl;
      from_closing = refl;
      replaced = refl;
      ends = ap (λ (n : ℕ). Cut n) none;
      asks = λ faulted. absurd faulted;
      cause = (rests.faults, λ calm. record { calm = λ lie is. calm.calm lie (sym rests.lie ∙ is); within = λ lie is. subst (ReadsIn lie) (sym rests.asked) (calm.within lie (sym rests.lie ∙ is)) });
      room = agrees.room;
      opened = opens_none old.room.high;
      leaves = λ d of. inl (refl, λ goes. absurd (cc goes));
      goes_on = refl;
      stays = λ q is. absurd (cc is);
      kept = λ saves q below. rests.keeps.kept q;
      indexed = λ stops. absurd (cc stops);
    }

-- no room for the accesses
pub ran_no_room : {R : Type 0} (state : R → RevState) (skeleton : Skeleton) (old : Engine R) (s t : StoreState) (tables : List Table) → Agrees state old s → ChangesNothing s t
    → RanStatement state skeleton (Err Stops.NoMemory) old s (engine_after old old.vault old.room tables (Cut 0) true) t
ran_no_room state skeleton old s t tables agrees rests = ran_unasked state skeleton old s t old.indexes old.draws tables agrees rests

-- a store that no call was made on
pub rests_refl : (s : StoreState) → ChangesNothing s s
rests_refl s = record { spare = omega (arith); asked = refl; log = refl; gave = refl; faults = refl; slips = refl; tells = refl; lie = refl; disturbed = refl; keeps = record { live = λ q. refl; last = λ q x. refl; kept = λ q. refl } }
