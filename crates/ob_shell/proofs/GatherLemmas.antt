-- One more statement that waits, and those that are as many as are served together then.
use Rattle.ob_shell.proofs.Words.{All, All-cons, All-head, All-nil, Answer, ap, append-nil, AreBatch, AreSpelt, arith, asked_of, at_rest, batch_most, begins, begins_batch, Bool, bytes_eq-Decides, Err, false, Faults, FlightSettings, Gathered, if◌then◌else◌, inl, inr, inserts_into, is_err, IsReady, length, length-append, List, Machine, may_fly, more_together, most_flown, most_some, nat_le, None, Ok, one_more, Option, option_map_or, OutFailed, Public, public_of, refl, Result, RevState, Skeleton, skeleton, Some, Spells, standing, Steps, Stmt, subst, sym, Tally, TextHalted, true, ℕ, [], ◌++◌, ◌+◌, ◌<◌, ◌||◌, ◌∙◌, ◌∷◌, ◌≡◌, ◌≤◌, ◌⊎◌}
use Rattle.std.specs.Prelude.{IsSome, OnOk, bytes_eq, is_ok}
use Rattle.std.proofs.lemmas.Bool.{and_parts}
use Rattle.std.proofs.lemmas.List.Elements.{All-push}
use Rattle.ob_base.specs.declared.skeleton.Skeleton.TheVariants.{Groups, Insert as InsertSkeleton, Rows}
use Rattle.ob_shell.proofs.TraceLemmas.{traced_none}
use Rattle.ob_shell.proofs.WaitLemmas.{so_idle}
use Rattle.ob_shell.specs.Serving.{TakesTexts}
use Rattle.ob_shell.specs.Steps.{IsApartFrom}
use Rattle.ob_shell.specs.Waiting.{AreBatched, AreWaiting, AwaitsMore, BreaksIn, ComesFree, GoesAlong, IsApart, IsClosed, IsFree, ServedSo, are_alike, begins as waits_first, begins_flight, gather_most, goes_along}

-- ---- which ones wait
-- as many as may be in flight are one at least
pub flown_some : (settings : Option FlightSettings) (p : Public) → 1 ≤ most_flown settings p
flown_some None p = omega arith
flown_some (Some f) p = omega arith

-- those that wait are a batch, or fly
pub are_batched : (settings : Option FlightSettings) (p : Public) (m : ℕ) (batch : List Stmt) → AreWaiting settings p m batch → AreBatched settings p m batch
are_batched settings p m [] waits = tt
are_batched settings p m (first ∷ rest) (inl more) = inl more.batch
are_batched settings p m (first ∷ rest) (inr more) = inr (record { fly = more.fly; few = let room = more.room in omega (arith, room) })

-- those to which one comes wait
pub waits_by : (settings : Option FlightSettings) (p : Public) (m : ℕ) (batch : List Stmt) (stmt : Stmt) → GoesAlong settings p m batch stmt → AreWaiting settings p m batch
waits_by settings p m [] stmt goes = tt
waits_by settings p m (first ∷ rest) stmt (inl goes) = inl goes.0
waits_by settings p m (first ∷ rest) stmt (inr goes) = inr goes.0

-- a statement that begins a flight may fly
pub begins_flying : (settings : Option FlightSettings) (p : Public) (outline : Skeleton) → begins_flight settings p outline ≡ true → may_fly p outline ≡ true
begins_flying settings p outline begins = (and_parts (nat_le 2 (most_flown settings p)) (may_fly p outline) begins).1

abbrev Alike : Stmt → Stmt → Type 0
Alike first s = inserts_into (skeleton s) ≡ inserts_into (skeleton first)

abbrev Fly : Public → Stmt → Type 0
Fly p s = may_fly p (skeleton s) ≡ true

batch_first : (p : Public) (m : ℕ) (stmt : Stmt) → begins_batch p m stmt ≡ true → AreBatch p m stmt []
batch_first p m stmt goes = record { begins = goes; alike = All-nil (Alike stmt); few = let some = most_some p in omega (arith, some) }

batch_push : (p : Public) (m : ℕ) (first : Stmt) (rest : List Stmt) (stmt : Stmt) → AwaitsMore p m first rest → Alike first stmt → AreBatch p m first (rest ++ stmt ∷ [])
batch_push p m first rest stmt waits same = record {
  begins = waits.batch.begins;
  alike = All-push (Alike first) rest stmt waits.batch.alike same;
  few = let room = waits.room in let long = length-append rest (stmt ∷ []) in omega (arith, room, long);
}

fly_first : (settings : Option FlightSettings) (p : Public) (stmt : Stmt) → begins_flight settings p (skeleton stmt) ≡ true → All (Fly p) (stmt ∷ [])
fly_first settings p stmt goes = All-cons (Fly p) stmt [] (begins_flying settings p (skeleton stmt) goes) (All-nil (Fly p))

map_some : {A : Type 0} (o : Option (List ℕ)) (x d : A) → IsSome o → option_map_or (λ (table : List ℕ). x) o d ≡ x
map_some (Some table) x d some = refl
map_some None x d some = absurd (cc some)

-- as many are served together as an INSERT begins, or a SELECT
gather_insert : (settings : Option FlightSettings) (p : Public) (outline : Skeleton) → IsSome (inserts_into outline) → gather_most settings p outline ≡ batch_most p
gather_insert settings p outline some = map_some (inserts_into outline) (batch_most p) (most_flown settings p) some

pub no_insert : (p : Public) (outline : Skeleton) → may_fly p outline ≡ true → inserts_into outline ≡ None
no_insert p (InsertSkeleton table columns) may = absurd (cc may)
no_insert p other may = refl

gather_select : (settings : Option FlightSettings) (p : Public) (outline : Skeleton) → may_fly p outline ≡ true → gather_most settings p outline ≡ most_flown settings p
gather_select settings p outline may = ap (λ (o : Option (List ℕ)). option_map_or (λ (table : List ℕ). batch_most p) o (most_flown settings p)) (no_insert p outline may)

-- one more may come to them
pub batch_more : (settings : Option FlightSettings) (p : Public) (m : ℕ) (batch : List Stmt) (stmt : Stmt) → GoesAlong settings p m batch stmt → AreBatched settings p m (batch ++ stmt ∷ [])
batch_more settings p m [] stmt (inl goes) = inl (batch_first p m stmt goes)
batch_more settings p m [] stmt (inr goes) = inr (record { fly = fly_first settings p stmt goes; few = let some = flown_some settings p in omega (arith, some) })
batch_more settings p m (first ∷ rest) stmt (inl goes) = inl (batch_push p m first rest stmt goes.0 goes.1)
batch_more settings p m (first ∷ rest) stmt (inr goes) = inr (record {
  fly = All-push (Fly p) (first ∷ rest) stmt goes.0.fly goes.1;
  few = let room = goes.0.room in let long = length-append (first ∷ rest) (stmt ∷ []) in omega (arith, room, long);
})

-- and still fewer than are served together
pub gathered_more : (settings : Option FlightSettings) (p : Public) (m : ℕ) (batch : List Stmt) (stmt : Stmt) → GoesAlong settings p m batch stmt → length (batch ++ stmt ∷ []) < gather_most settings p (skeleton stmt)
    → AreWaiting settings p m (batch ++ stmt ∷ [])
gathered_more settings p m [] stmt (inl goes) few =
    let most = gather_insert settings p (skeleton stmt) (begins p m stmt goes).inserts in inl (record { batch = batch_first p m stmt goes; room = omega (arith, few, most) })
gathered_more settings p m [] stmt (inr goes) few =
    let most = gather_select settings p (skeleton stmt) (begins_flying settings p (skeleton stmt) goes) in inr (record { fly = fly_first settings p stmt goes; room = omega (arith, few, most) })
gathered_more settings p m (first ∷ rest) stmt (inl goes) few =
    let some = (begins p m first goes.0.batch.begins).inserts in
    let most = gather_insert settings p (skeleton stmt) (subst (λ (o : Option (List ℕ)). IsSome o) (sym goes.1) some) in
    let long = length-append rest (stmt ∷ []) in inl (record { batch = batch_push p m first rest stmt goes.0 goes.1; room = omega (arith, few, most) })
gathered_more settings p m (first ∷ rest) stmt (inr goes) few =
    let most = gather_select settings p (skeleton stmt) goes.1 in inr (record { fly = All-push (Fly p) (first ∷ rest) stmt goes.0.fly goes.1; room = omega (arith, few, most) })

-- the table that the first of them names
same_name : (a b : Option (List ℕ)) → option_map_or (λ (t : List ℕ). option_map_or (bytes_eq t) b false) a false ≡ true → b ≡ a
same_name (Some a) (Some b) is = ap Some (sym ((bytes_eq-Decides a b).0 is))
same_name (Some a) None is = absurd (cc is)
same_name None b is = absurd (cc is)

other_name : (a b : Option (List ℕ)) (t : List ℕ) → a ≡ Some t → option_map_or (λ (u : List ℕ). option_map_or (bytes_eq u) b false) a false ≡ false → b ≡ a → ⊥
other_name a b t named other same =
    let there : bytes_eq t t ≡ false = subst (λ (x : Option (List ℕ)). option_map_or (bytes_eq t) x false ≡ false) (same ∙ named) (subst (λ (x : Option (List ℕ)). option_map_or (λ (u : List ℕ). option_map_or (bytes_eq u) b false) x false ≡ false) named other) in
    let hit = (bytes_eq-Decides t t).1 refl in cc (there, hit)

some_name : (o : Option (List ℕ)) → IsSome o → (t : List ℕ) × (o ≡ Some t)
some_name (Some t) some = (t, refl)
some_name None some = absurd (cc some)

-- by what goes along with the first
along_insert : (p : Public) (first stmt : Stmt) (rest : List Stmt) → IsSome (inserts_into (skeleton first)) → goes_along p (first ∷ rest) stmt ≡ are_alike (skeleton first) (skeleton stmt)
along_insert p first stmt rest some = map_some (inserts_into (skeleton first)) (are_alike (skeleton first) (skeleton stmt)) (may_fly p (skeleton stmt)) some

along_select : (p : Public) (first stmt : Stmt) (rest : List Stmt) → may_fly p (skeleton first) ≡ true → goes_along p (first ∷ rest) stmt ≡ may_fly p (skeleton stmt)
along_select p first stmt rest may = ap (λ (o : Option (List ℕ)). option_map_or (λ (table : List ℕ). are_alike (skeleton first) (skeleton stmt)) o (may_fly p (skeleton stmt))) (no_insert p (skeleton first) may)

first_flies : (p : Public) (first : Stmt) (rest : List Stmt) → All (Fly p) (first ∷ rest) → Fly p first
first_flies p first rest all = All-head (Fly p) first rest all

-- a statement goes along with them
pub goes_more : (settings : Option FlightSettings) (p : Public) (m : ℕ) (batch : List Stmt) (stmt : Stmt) → AreWaiting settings p m batch → goes_along p batch stmt ≡ true → GoesAlong settings p m batch stmt
goes_more settings p m [] stmt waits goes = absurd (cc goes)
goes_more settings p m (first ∷ rest) stmt (inl waits) goes =
    inl (waits, same_name (inserts_into (skeleton first)) (inserts_into (skeleton stmt)) (sym (along_insert p first stmt rest (begins p m first waits.batch.begins).inserts) ∙ goes))
goes_more settings p m (first ∷ rest) stmt (inr waits) goes = inr (waits, sym (along_select p first stmt rest (first_flies p first rest waits.fly)) ∙ goes)

-- then they come as free as they did before
pub free_more : (settings : Option FlightSettings) (p : Public) (batch : List Stmt) (stmt : Stmt) (g : Gathered) → goes_along p batch stmt ≡ true → IsFree settings p batch g → IsFree settings p (batch ++ stmt ∷ []) g
free_more settings p [] stmt g goes free = absurd (cc goes)
free_more settings p (first ∷ rest) stmt g goes free = free

-- or doesn't, and comes free after them, once they were served
pub not_flying : (p : Public) (outline : Skeleton) → IsSome (inserts_into outline) → may_fly p outline ≡ false
not_flying p (Rows source columns) some = absurd (cc some)
not_flying p (Groups table columns key) some = absurd (cc some)
not_flying p other some = refl

none_or : (a b : Option (List ℕ)) → a ≡ None → (b ≡ None) ⊎ (b ≡ a → ⊥)
none_or a None is = inl refl
none_or a (Some t) is = inr (λ same. cc (same, is))

pub is_apart : (settings : Option FlightSettings) (p : Public) (m : ℕ) (first : Stmt) (rest : List Stmt) (stmt : Stmt) → AreWaiting settings p m (first ∷ rest) → goes_along p (first ∷ rest) stmt ≡ false → IsApart settings p first rest (skeleton stmt)
is_apart settings p m first rest stmt (inl waits) apart =
    let some = (begins p m first waits.batch.begins).inserts in
    let name = some_name (inserts_into (skeleton first)) some in
    record {
      batch = inr (inl (other_name (inserts_into (skeleton first)) (inserts_into (skeleton stmt)) name.0 name.1 (sym (along_insert p first stmt rest some) ∙ apart)));
      flown = inr (inl (not_flying p (skeleton first) some));
    }
is_apart settings p m first rest stmt (inr waits) apart =
    let flies = first_flies p first rest waits.fly in
    record {
      batch = elim (none_or (inserts_into (skeleton first)) (inserts_into (skeleton stmt)) (no_insert p (skeleton first) flies)) [ inl none ↦ inl none | inr other ↦ inr (inl other) ];
      flown = inl (sym (along_select p first stmt rest flies) ∙ apart);
    }

pub free_behind : (settings : Option FlightSettings) (p0 p1 : Public) (m : ℕ) (batch : List Stmt) (stmt : Stmt) (g h : Gathered) → AreWaiting settings p0 m batch → goes_along p0 batch stmt ≡ false → (batch ≡ [] → p1 ≡ p0) → IsFree settings p0 batch g → IsClosed settings p0 p1 batch g h
    → IsFree settings p1 (stmt ∷ []) h
free_behind settings p0 p1 m [] stmt g h waits apart same free closed =
    subst (λ (x : Gathered). IsApartFrom settings p1 x (skeleton stmt)) (sym closed) (subst (λ (p : Public). IsApartFrom settings p g (skeleton stmt)) (sym (same refl)) (free (skeleton stmt)))
free_behind settings p0 p1 m (first ∷ rest) stmt g h waits apart same free closed = closed (skeleton stmt) (is_apart settings p0 m first rest stmt waits apart)

-- what comes free is free
pub comes_free : (settings : Option FlightSettings) (p : Public) (batch : List Stmt) (g : Gathered) → IsFree settings p batch g → ComesFree settings p batch g
comes_free settings p [] g free = tt
comes_free settings p (first ∷ rest) g free = free

-- also where one more comes to them
pub comes_before : (settings : Option FlightSettings) (p : Public) (batch : List Stmt) (stmt : Stmt) (g : Gathered) → IsFree settings p (batch ++ stmt ∷ []) g → ComesFree settings p batch g
comes_before settings p [] stmt g free = tt
comes_before settings p (first ∷ rest) stmt g free = free

-- ---- one more waits
spelt_more : (held : List (List ℕ)) (batch : List Stmt) (text : List ℕ) (stmt : Stmt) → AreSpelt held batch → Spells text (Ok stmt) → AreSpelt (held ++ text ∷ []) (batch ++ stmt ∷ [])
spelt_more [] [] text stmt spelt spells = (spells, tt)
spelt_more [] (one ∷ batch) text stmt spelt spells = absurd spelt
spelt_more (x ∷ held) [] text stmt spelt spells = absurd spelt
spelt_more (x ∷ held) (one ∷ batch) text stmt spelt spells = (spelt.0, spelt_more held batch text stmt spelt.1 spells)

-- as many as are served together are: INSERTs, or SELECTs
pub data AreFull (settings : Option FlightSettings) (p : Public) (first : Stmt) (rest : List Stmt) : Type 0 where
  inserts : IsSome (inserts_into (skeleton first)) → batch_most p ≤ length rest + 1 → AreFull settings p first rest
  selects : inserts_into (skeleton first) ≡ None → most_flown settings p ≤ length rest + 1 → AreFull settings p first rest

full_apart : (settings : Option FlightSettings) (p : Public) (first : Stmt) (rest : List Stmt) → AreFull settings p first rest → (outline : Skeleton) → IsApart settings p first rest outline
full_apart settings p first rest (inserts some most) outline = record { batch = inr (inr most); flown = inr (inl (not_flying p (skeleton first) some)) }
full_apart settings p first rest (selects none most) outline = record {
  batch = elim (none_or (inserts_into (skeleton first)) (inserts_into outline) none) [ inl other ↦ inl other | inr other ↦ inr (inl other) ];
  flown = inr (inr most);
}

abbrev pub IsFull : Option FlightSettings → Public → List Stmt → Type 0
IsFull settings p [] = ⊥
IsFull settings p (first ∷ rest) = AreFull settings p first rest

closed_all : (settings : Option FlightSettings) (p0 p1 : Public) (xs : List Stmt) (g h : Gathered) → IsFull settings p0 xs → IsClosed settings p0 p1 xs g h → (outline : Skeleton) → IsApartFrom settings p1 h outline
closed_all settings p0 p1 [] g h full closed outline = absurd full
closed_all settings p0 p1 (first ∷ rest) g h full closed outline = closed outline (full_apart settings p0 first rest full outline)

so_full : {R : Type 0} {state : R → RevState} (batch : List Stmt) (stmt : Stmt) (text : List ℕ) {b1 : List Stmt} {t0 t1 : Tally} {w0 w1 : Option (List ℕ)} (m0 : Machine R) {m1 : Machine R} (settings : Option FlightSettings)
    → IsFull settings (public_of m0.engine) (batch ++ stmt ∷ []) → (g : Gathered) (held : List (List ℕ)) → b1 ≡ []
    → ServedSo state w0 w1 ((held ++ text ∷ []) ++ []) b1 (IsClosed settings (public_of m0.engine) (public_of m1.engine) (batch ++ stmt ∷ []) g) t0 t1 (standing m0 [] g) m1
    → ServedSo state w0 w1 (held ++ text ∷ []) b1 (IsFree settings (public_of m1.engine) b1) t0 t1 (standing m0 [] g) m1
so_full {state = state} batch stmt text m0 {m1 = m1} settings full g held none so = record {
  served = so.served;
  held = so.held;
  parts = sym (append-nil (held ++ text ∷ [])) ∙ so.parts;
  spelt = so.spelt;
  gathered = so.gathered;
  then = subst (λ (l : List Stmt). IsFree settings (public_of m1.engine) l so.gathered) (sym none) (closed_all settings (public_of m0.engine) (public_of m1.engine) (batch ++ stmt ∷ []) g so.gathered full so.then);
  answers = so.answers;
  steps = so.steps;
  appends = so.appends;
  counted = so.counted;
}

-- ---- what a list is after a push, by whether that failed
pub pushed : {T E X : Type 0} (r : Result T E) (failed : Bool) (ys : X) {xs zs : X} → failed ≡ is_err r → failed ≡ false → zs ≡ (if is_ok r then xs else ys) → zs ≡ xs
pushed (Ok x) failed ys is not new = new
pushed (Err e) failed ys is not new = absurd (cc (is, not))

pub unpushed : {T E X : Type 0} (r : Result T E) (failed : Bool) (xs : X) {ys zs : X} → failed ≡ is_err r → failed ≡ true → zs ≡ (if is_ok r then xs else ys) → zs ≡ ys
unpushed (Ok x) failed xs is full new = absurd (cc (is, full))
unpushed (Err e) failed xs is full new = new

-- as many as the kind of the one that came has
pub full_by : (settings : Option FlightSettings) (p : Public) (m : ℕ) (batch : List Stmt) (stmt : Stmt) → GoesAlong settings p m batch stmt → gather_most settings p (skeleton stmt) ≤ length (batch ++ stmt ∷ []) → IsFull settings p (batch ++ stmt ∷ [])
full_by settings p m [] stmt (inl goes) most =
    let some = (begins p m stmt goes).inserts in let is = gather_insert settings p (skeleton stmt) some in inserts some (omega (arith, most, is))
full_by settings p m [] stmt (inr goes) most =
    let flies = begins_flying settings p (skeleton stmt) goes in let is = gather_select settings p (skeleton stmt) flies in selects (no_insert p (skeleton stmt) flies) (omega (arith, most, is))
full_by settings p m (first ∷ rest) stmt (inl goes) most =
    let some = (begins p m first goes.0.batch.begins).inserts in
    let is = gather_insert settings p (skeleton stmt) (subst (λ (o : Option (List ℕ)). IsSome o) (sym goes.1) some) in inserts some (omega (arith, most, is))
full_by settings p m (first ∷ rest) stmt (inr goes) most = let is = gather_select settings p (skeleton stmt) goes.1 in selects (no_insert p (skeleton first) (first_flies p first rest goes.0.fly)) (omega (arith, most, is))

module _ {R : Type 0} {state : R → RevState} {Saves : Type 0} {on : Bool} (batch : List Stmt) (stmt : Stmt) (text : List ℕ) (spells : Spells text (Ok stmt)) where
  pub takes_gathered : {T : Type 0} (tally : Tally) (w t : Option (List ℕ)) (old : Faults) (m : Machine R) (x : T) → IsReady state Saves m → AreWaiting m.flights.settings (public_of m.engine) (asked_of m) (batch ++ stmt ∷ [])
      → TakesTexts state Saves on (IsFree m.flights.settings (public_of m.engine) (batch ++ stmt ∷ [])) (λ old new. IsFree m.flights.settings (public_of m.engine) (batch ++ stmt ∷ []) new) batch (batch ++ stmt ∷ []) (text ∷ []) tally tally w w t t old old m m (Ok x)
  takes_gathered tally w t old m x ready waits = record {
    ready = ready;
    waits = waits;
    done = λ g held comes spelt.
        so_idle w (held ++ text ∷ []) (held ++ text ∷ []) (batch ++ stmt ∷ []) (λ old new. IsFree m.flights.settings (public_of m.engine) (batch ++ stmt ∷ []) new) tally m g refl (spelt_more held batch text stmt spelt spells) comes;
    stopped = tt;
    traced = traced_none on m.store.asked t;
    traced_stop = tt;
    cause = record { source = refl; out = refl; trace = refl };
    quiet = (refl, refl);
  }

  -- ---- as many as are served together were, and were served
  module _ {b1 : List Stmt} {t0 t1 : Tally} {w0 w1 s0 s1 : Option (List ℕ)} {old new : Faults} {m0 m1 : Machine R} (full : IsFull m1.flights.settings (public_of m0.engine) (batch ++ stmt ∷ [])) where
    pub takes_full : {T : Type 0} (result : Result T TextHalted) → OnOk result (b1 ≡ []) → TakesTexts state Saves on (ComesFree m0.flights.settings (public_of m0.engine) (batch ++ stmt ∷ [])) (IsClosed m1.flights.settings (public_of m0.engine) (public_of m1.engine) (batch ++ stmt ∷ [])) (batch ++ stmt ∷ []) b1 [] t0 t1 w0 w1 s0 s1 old new m0 m1 result
        → TakesTexts state Saves on (IsFree m0.flights.settings (public_of m0.engine) (batch ++ stmt ∷ [])) (λ old new. IsFree m1.flights.settings (public_of m1.engine) b1 new) batch b1 (text ∷ []) t0 t1 w0 w1 s0 s1 old new m0 m1 result
    takes_full (Ok x) none takes = record {
      ready = takes.ready;
      waits = takes.waits;
      done = λ g held comes spelt. so_full batch stmt text m0 m1.flights.settings full g held none (takes.done g (held ++ text ∷ []) (comes_free m0.flights.settings (public_of m0.engine) (batch ++ stmt ∷ []) g comes) (spelt_more held batch text stmt spelt spells));
      stopped = tt;
      traced = takes.traced;
      traced_stop = tt;
      cause = takes.cause;
      quiet = takes.quiet;
    }
    takes_full (Err halted) none takes = record {
      ready = tt;
      waits = tt;
      done = tt;
      stopped = λ g held comes spelt. subst (λ (l : List (List ℕ)). BreaksIn state on w0 w1 s0 s1 (OutFailed halted.quiet old.out new.out) l halted.stop (standing m0 [] g) m1) (append-nil (held ++ text ∷ []))
          (takes.stopped g (held ++ text ∷ []) (comes_free m0.flights.settings (public_of m0.engine) (batch ++ stmt ∷ []) g comes) (spelt_more held batch text stmt spelt spells));
      traced = tt;
      traced_stop = takes.traced_stop;
      cause = takes.cause;
      quiet = takes.quiet;
    }

-- where none waited the engine is as it was
none_served : (xs ys : List (List ℕ)) → [] ≡ xs ++ ys → xs ≡ []
none_served [] ys is = refl
none_served (x ∷ xs) ys is = absurd (cc is)

none_spelt : (texts : List (List ℕ)) (stmts : List Stmt) → AreSpelt texts stmts → texts ≡ [] → stmts ≡ []
none_spelt [] [] spelt is = refl
none_spelt [] (stmt ∷ stmts) spelt is = absurd spelt
none_spelt (text ∷ texts) stmts spelt is = absurd (cc is)

same_public : {R : Type 0} (state : R → RevState) (m0 m1 : Machine R) (served : List (List ℕ)) (answers : List Answer) → served ≡ [] → Steps state m0 m1 served answers → public_of m1.engine ≡ public_of m0.engine
same_public state m0 m1 served answers is at_rest = refl
same_public state m0 m1 served answers is (one_more step rest) = absurd (cc is)
same_public state m0 m1 served answers is (more_together {flown = flown} {texts = texts} step rest) =
    let none = none_spelt flown step.stmts step.spelt (none_served flown texts (sym is)) in let some = step.may.some in absurd (let long = ap length none in omega (arith, some, long))

pub idle_public : {R T : Type 0} {state : R → RevState} {Saves : Type 0} {on : Bool} {May : Gathered → Type 0} {Then : (old new : Gathered) → Type 0} {b0 b1 : List Stmt} {t0 t1 : Tally} {w0 w1 s0 s1 : Option (List ℕ)} {old new : Faults} {m0 m1 : Machine R} {x : T}
    → TakesTexts state Saves on May Then b0 b1 [] t0 t1 w0 w1 s0 s1 old new m0 m1 (Ok x) → (g : Gathered) → May g → b0 ≡ [] → public_of m1.engine ≡ public_of m0.engine
idle_public {state = state} {m0 = m0} {m1 = m1} takes g comes none =
    let so = takes.done g [] comes (subst (λ (l : List Stmt). AreSpelt [] l) (sym none) tt) in
    same_public state (standing m0 [] g) (standing m1 [] so.gathered) so.served so.answers (none_served so.served so.held so.parts) so.steps

-- ---- one that waits for others
pub begins_so : (settings : Option FlightSettings) (p : Public) (m : ℕ) (stmt : Stmt) → waits_first settings p m stmt ≡ true → GoesAlong settings p m [] stmt
begins_so settings p m stmt is = go (begins_batch p m stmt) (begins_flight settings p (skeleton stmt)) refl refl is
  where
    go : (a b : Bool) → begins_batch p m stmt ≡ a → begins_flight settings p (skeleton stmt) ≡ b → (a || b) ≡ true → GoesAlong settings p m [] stmt
    go true b batch flight is = inl batch
    go false true batch flight is = inr flight
    go false false batch flight is = absurd (cc is)

pub begins_none : (settings : Option FlightSettings) (p : Public) (m : ℕ) (stmt : Stmt) → waits_first settings p m stmt ≡ false → (begins_batch p m stmt ≡ false) × (begins_flight settings p (skeleton stmt) ≡ false)
begins_none settings p m stmt is = go (begins_batch p m stmt) (begins_flight settings p (skeleton stmt)) refl refl is
  where
    go : (a b : Bool) → begins_batch p m stmt ≡ a → begins_flight settings p (skeleton stmt) ≡ b → (a || b) ≡ false → (begins_batch p m stmt ≡ false) × (begins_flight settings p (skeleton stmt) ≡ false)
    go true b batch flight is = absurd (cc is)
    go false true batch flight is = absurd (cc is)
    go false false batch flight is = (batch, flight)
