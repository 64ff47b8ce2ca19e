-- SELECTs that waited, once they flew.
use Rattle.ob_shell.proofs.Words.{All, All-head, All-weaker, ap, AreBatch, AreSpelt, arith, begins, begins_batch, Bool, Engine, engine_keys, Err, false, Faults, flights_of, FlightSettings, Gathered, inl, inr, inserts_into, is_some, IsReady, KeeperState, KeySet, length, List, Machine, machine_of, may_fly, MayFly, most_flown, no_flights, None, Ok, opened_from, Option, Outputs, Outputs-whole, pair_of, PartlyAt, Public, public_of, refl, Result, RevState, RunStop, SelectsFromOne, served_as, Skeleton, skeleton, slice_get, Some, standing, Stmt, StoreState, subst, sym, Tally, TextHalted, Took, Traced, TracedAll, true, turns_of, ℕ, [], ◌++◌, ◌+◌, ◌<◌, ◌∙◌, ◌∷◌, ◌≡◌, ◌≤◌}
use Rattle.std.specs.Prelude.{◌*◌, ◌/◌, OnErr, OnOk, max, min, not}
use Rattle.std.proofs.Common.{get_or}
use Rattle.ob_base.specs.declared.skeleton.Skeleton.TheVariants.{Create as CreateSkeleton, Delete as DeleteSkeleton, Drop as DropSkeleton, Groups, Insert as InsertSkeleton, Rows, Update as UpdateSkeleton}
use Rattle.ob_base.specs.declared.skeleton.Source.TheVariants.{Table as OneTable, Join}
use Rattle.ob_exec.specs.InFlight.{AreFlight, Flies}
use Rattle.ob_exec.specs.Saving.{MaySave}
use Rattle.ob_mean.specs.Replay.{has_index, is_access}
use Rattle.ob_script.proofs.FlightLemmas.{next_after}
use Rattle.ob_script.specs.Flights.{drawn}
use Rattle.ob_shell.proofs.GatherLemmas.{no_insert}
use Rattle.ob_shell.proofs.StepLemmas.{PartlyAt-rests, Steps-none, printed-nil, steps_together}
use Rattle.ob_shell.proofs.PlaceLemmas.{place_other, place_past, same_fly}
use Rattle.ob_shell.proofs.TookLemmas.{took_whole, traced_to_none}
use Rattle.ob_shell.specs.FlightAnswers.{CutsFlight}
use Rattle.ob_shell.specs.Flying.{RestsFlight, RunsFlight}
use Rattle.ob_shell.specs.Running.{IsQuiet, halted_of}
use Rattle.ob_shell.specs.Serving.{ServesBatch, TakesTexts}
use Rattle.ob_shell.specs.Steps.{IsApartFrom}
use Rattle.ob_shell.specs.Waiting.{AreBatched, AreFlown, BreaksIn, ComesFree, IsClosed}

-- ---- which may fly
flies_one : (p : Public) (m : ℕ) (stmt : Stmt) → may_fly p (skeleton stmt) ≡ true → Flies p m stmt
flies_one p m stmt may = record { selects = selects (skeleton stmt) may; flat = λ fine. flat (skeleton stmt) may }
  where
    selects : (s : Skeleton) → may_fly p s ≡ true → SelectsFromOne s
    selects (Rows (OneTable table) columns) may = tt
    selects (Rows (Join left right on equals) columns) may = absurd (cc may)
    selects (Groups table columns key) may = tt
    selects (CreateSkeleton table columns n shape) may = absurd (cc may)
    selects (InsertSkeleton table columns) may = absurd (cc may)
    selects (UpdateSkeleton table columns) may = absurd (cc may)
    selects (DeleteSkeleton table) may = absurd (cc may)
    selects (DropSkeleton table) may = absurd (cc may)

    flat : (s : Skeleton) → may_fly p s ≡ true → is_access p s ≡ false
    flat (Rows (OneTable table) columns) may = not_true (has_index p table) may
      where
        not_true : (b : Bool) → not b ≡ true → b ≡ false
        not_true true is = absurd (cc is)
        not_true false is = refl
    flat (Groups table columns key) may = refl
    flat other may = absurd (cc may)

pub are_flight : (p : Public) (m : ℕ) (stmts : List Stmt) → All (λ (stmt : Stmt). may_fly p (skeleton stmt) ≡ true) stmts → 2 ≤ length stmts → length stmts ≤ max 1 (min 8 (p.buffer / (3 * p.pack + 1))) → AreFlight p m stmts
are_flight p m stmts fly some few = record {
  each = All-weaker (λ (stmt : Stmt). may_fly p (skeleton stmt) ≡ true) (Flies p m) (λ stmt may. flies_one p m stmt may) stmts fly;
  some = some;
  few = omega (arith, some, few);
}

-- as many as the settings let are as many as may be
pub flown_few : (settings : Option FlightSettings) (p : Public) (n : ℕ) → n ≤ most_flown settings p → n ≤ max 1 (min 8 (p.buffer / (3 * p.pack + 1)))
flown_few None p n few = omega (arith, few)
flown_few (Some f) p n few = omega (arith, few)

-- ---- after them
-- what tables are saved with
saves_on : {R : Type 0} {Saves : Type 0} (e0 e1 : Engine R) → engine_keys e1 ≡ engine_keys e0 → opened_from e1 ≡ opened_from e0 → (public_of e1).save ≡ (public_of e0).save → (public_of e1).closing ≡ (public_of e0).closing → (public_of e0).next_region ≤ (public_of e1).next_region
    → MaySave Saves e0 → MaySave Saves e1
saves_on e0 e1 keys from save closing next may = record {
  saves = λ is. may.saves (sym save ∙ is);
  salted = λ is q above none. may.salted (sym save ∙ is) q (omega (arith, next, above)) (ap (λ (k : KeySet). (pair_of k q).salt) (sym keys) ∙ none);
  listed = λ is. from ∙ may.listed (sym save ∙ is) ∙ sym closing;
}

-- nothing else flies with them
flight_closed : (settings : Option FlightSettings) (p0 p1 : Public) (stmts : List Stmt) (g : Gathered) → All (λ (stmt : Stmt). may_fly p0 (skeleton stmt) ≡ true) stmts → 2 ≤ length stmts → p1.tables ≡ p0.tables → most_flown settings p1 ≡ most_flown settings p0
    → IsClosed settings p0 p1 stmts g (record { batch = None; flown = length stmts })
flight_closed settings p0 p1 [] g fly some tables same = absurd (omega (arith, some))
flight_closed settings p0 p1 (first ∷ rest) g fly some tables same = λ outline apart. record {
  batch = refl;
  flown = elim apart.flown [
    | inl other ↦ place_other (most_flown settings p1) (length (first ∷ rest)) p1 outline (same_fly p0 p1 outline tables ∙ other)
    | inr (inl not) ↦ absurd (let flies = All-head (λ (stmt : Stmt). may_fly p0 (skeleton stmt) ≡ true) first rest fly in cc (flies, not))
    | inr (inr most) ↦ place_past (most_flown settings p1) (length (first ∷ rest)) p1 outline (omega (arith, most, same))
  ];
}

first_free : (settings : Option FlightSettings) (p : Public) (stmts : List Stmt) (g : Gathered) → ComesFree settings p stmts g → (first : Stmt) → slice_get stmts 0 ≡ Some first → IsApartFrom settings p g (skeleton first)
first_free settings p [] g free first is = absurd (cc is)
first_free settings p (one ∷ rest) g free first is = subst (λ (s : Stmt). IsApartFrom settings p g (skeleton s)) (cc is) free

module _ {R : Type 0} (state : R → RevState) (Saves : Type 0) (on : Bool) (settings : Option FlightSettings) (last0 last1 : ℕ) (stmts : List Stmt) (tally : Tally) (e0 e1 : Engine R) (s0 s1 : StoreState) (k : KeeperState)
    (some : 2 ≤ length stmts) (flown : AreFlown settings (public_of e0) stmts) (ready : IsReady state Saves (machine_of e0 s0 k no_flights)) where
  abbrev m0 : Machine R
  m0 = machine_of e0 s0 k (flights_of settings last0)

  abbrev m1 : Machine R
  m1 = machine_of e1 s1 k (flights_of settings last1)

  abbrev behind : Gathered
  behind = record { batch = None; flown = length stmts }

  may : (g : Gathered) → ComesFree settings (public_of e0) stmts g → MayFly state (standing m0 [] g) (standing m1 [] behind) stmts
  may g free = record {
    free = refl;
    owed = refl;
    fly = flown.fly;
    some = some;
    few = flown.few;
    begins = λ first is. first_free settings (public_of e0) stmts g free first is;
    gathered = refl;
    settings = refl;
    keeper = refl;
    agrees = ready.agrees;
  }

  module _ {w0 w1 t0 t1 : Option (List ℕ)} where
    -- a stop came
    breaks_at : (stop : RunStop) {Lost Fault : Type 0} (g : Gathered) (held : List (List ℕ)) → ComesFree settings (public_of e0) stmts g → AreSpelt held stmts → CutsFlight state (drawn last0) (drawn last1) stmts stop w0 w1 Lost e0 s0 e1 s1 → Traced on s0.asked s1.asked t0 t1 Fault
        → BreaksIn state on w0 w1 t0 t1 Lost (held ++ []) stop (standing m0 [] g) m1
    breaks_at stop {Lost} g held comes spelt cuts traced = record {
      served = [];
      more = held ++ [];
      parts = refl;
      answers = [];
      middle = standing m0 [] g;
      steps = Steps-none state (standing m0 [] g);
      owed = [];
      gathered = behind;
      follow = tt;
      bytes = cuts.bytes;
      partly = by_held held spelt;
      cut = subst (λ (l : List ℕ). Outputs w0 w1 Lost (l ++ cuts.bytes)) (sym printed-nil) cuts.cut;
      whole = subst (λ (l : List ℕ). Took w0 w1 l) (sym printed-nil) (record { after = cuts.cut.grown; appends = cuts.cut.appends });
      traced = traced_to_none on s0.asked t0 t1 traced.cut.grown traced.cut.appends;
    }
      where
        by_held : (texts : List (List ℕ)) → AreSpelt texts stmts → PartlyAt state (standing m0 [] g) (standing m1 [] behind) (texts ++ []) stop cuts.bytes
        by_held [] spelt = absurd (none stmts some spelt)
          where
            none : (xs : List Stmt) → 2 ≤ length xs → AreSpelt [] xs → ⊥
            none [] few spelt = omega (arith, few)
            none (x ∷ xs) few spelt = spelt
        by_held (text ∷ texts) spelt = elim cuts.flew [
          | inl flew ↦ inr (inr (inr (inl (record { flown = text ∷ texts; more = []; parts = refl; stmts = stmts; spelt = spelt; may = may g comes; seens = cuts.seens; flew = flew }))))
          | inr whole ↦ inr (inr (inr (inr (record {
            flown = text ∷ texts;
            more = [];
            parts = refl;
            answers = whole.1;
            step = record { stmts = stmts; spelt = spelt; may = may g comes; seens = cuts.seens; flew = whole.3 };
            whole = whole.2;
            fault = whole.0;
          }))))
        ]

    rests_at : (stop : RunStop) {Lost Fault : Type 0} (g : Gathered) (held : List (List ℕ)) → RestsFlight (drawn last0) (drawn last1) stop w0 w1 e0 s0 e1 s1 → Traced on s0.asked s1.asked t0 t1 Fault → BreaksIn state on w0 w1 t0 t1 Lost (held ++ []) stop (standing m0 [] g) m1
    rests_at stop {Lost} g held rests traced = record {
      served = [];
      more = held ++ [];
      parts = refl;
      answers = [];
      middle = standing m0 [] g;
      steps = Steps-none state (standing m0 [] g);
      owed = [];
      gathered = g;
      follow = tt;
      bytes = [];
      partly = PartlyAt-rests state (standing m0 [] g) (standing m1 [] g) (held ++ []) stop [] (record {
        rests = record { machine = λ i. standing (machine_of (rests.engine i) (rests.store i) k (record { settings = settings; words = rests.undrawn i })) [] g; free = refl; none = refl };
        memory = rests.memory;
      });
      cut = subst (λ (l : List ℕ). Outputs w0 w1 Lost (l ++ [])) (sym printed-nil) (Outputs-whole w0 w1 Lost [] rests.none);
      whole = subst (λ (l : List ℕ). Took w0 w1 l) (sym printed-nil) (took_whole rests.none);
      traced = traced_to_none on s0.asked t0 t1 traced.cut.grown traced.cut.appends;
    }

    module _ {old new : Faults} where
      -- they were answered
      pub flight_taken : (counted : Tally) → RunsFlight state (drawn last0) (drawn last1) stmts tally w0 w1 old new e0 s0 e1 s1 (Ok counted) → TracedAll on s0.asked s1.asked t0 t1
          → TakesTexts state Saves on (ComesFree settings (public_of e0) stmts) (IsClosed settings (public_of e0) (public_of e1) stmts) stmts [] [] tally counted w0 w1 t0 t1 old new m0 m1 (Ok counted)
      flight_taken counted runs traced =
          let flew = runs.done.answered.flew in
          let ran = flew.ran.ran in
          let on_public = ran.goes_on.public in
          record {
            ready = record {
              agrees = ran.goes_on.agrees;
              lives = ran.goes_on.lives;
              settled = ran.replaced ∙ ready.settled;
              saves = saves_on e0 e1 ran.keys ran.from_closing (ap (λ (p : Public). p.save) on_public) (ap (λ (p : Public). p.closing) on_public)
                  (let next = ap (λ (p : Public). p.next_region) on_public in
                  let after = next_after (public_of e0) (served_as stmts runs.done.answered.seens) (drawn last0) (turns_of (public_of e0) (served_as stmts runs.done.answered.seens)) in
                  omega (arith, next, after)) ready.saves;
            };
            waits = tt;
            done = λ g held comes spelt. record {
              served = held;
              held = [];
              parts = refl;
              spelt = tt;
              gathered = behind;
              then = flight_closed settings (public_of e0) (public_of e1) stmts g flown.fly some (ap (λ (p : Public). p.tables) on_public) (ap (most_flown settings) on_public);
              answers = runs.done.answers;
              steps = steps_together (standing m0 [] g) (standing m1 [] behind) held runs.done.answers (record { stmts = stmts; spelt = spelt; may = may g comes; seens = runs.done.answered.seens; flew = flew });
              appends = runs.done.answered.appends;
              counted = runs.done.counted;
            };
            stopped = tt;
            traced = traced;
            traced_stop = tt;
            cause = runs.cause;
            quiet = runs.quiet;
          }

      pub flight_broken : (halted : TextHalted) → RunsFlight state (drawn last0) (drawn last1) stmts tally w0 w1 old new e0 s0 e1 s1 (Err halted) → Traced on s0.asked s1.asked t0 t1 (IsQuiet (halted_of {T = Tally} (Err halted)))
          → TakesTexts {T = Tally} state Saves on (ComesFree settings (public_of e0) stmts) (IsClosed settings (public_of e0) (public_of e1) stmts) stmts [] [] tally tally w0 w1 t0 t1 old new m0 m1 (Err halted)
      flight_broken halted runs traced = record {
        ready = tt;
        waits = tt;
        done = tt;
        stopped = λ g held comes spelt. elim runs.stopped [ inl rests ↦ rests_at halted.stop g held rests traced | inr cuts ↦ breaks_at halted.stop g held comes spelt cuts traced ];
        traced = tt;
        traced_stop = traced;
        cause = runs.cause;
        quiet = runs.quiet;
      }

      pub flight_served : (result : Result Tally TextHalted) → RunsFlight state (drawn last0) (drawn last1) stmts tally w0 w1 old new e0 s0 e1 s1 result → OnOk result (TracedAll on s0.asked s1.asked t0 t1) → OnErr result (Traced on s0.asked s1.asked t0 t1 (IsQuiet (halted_of result)))
          → ServesBatch state Saves on stmts tally w0 w1 t0 t1 old new m0 m1 result
      flight_served (Ok counted) runs traced stop = flight_taken counted runs traced
      flight_served (Err halted) runs traced stop = flight_broken halted runs stop

-- ---- one of them alone
-- it is no INSERT
pub single_begins : (p : Public) (m : ℕ) (stmt : Stmt) → may_fly p (skeleton stmt) ≡ true → begins_batch p m stmt ≡ false
single_begins p m stmt flies = go (begins_batch p m stmt) refl
  where
    go : (b : Bool) → begins_batch p m stmt ≡ b → b ≡ false
    go false is = refl
    go true is = absurd (let some = (begins p m stmt is).inserts in let none = no_insert p (skeleton stmt) flies in cc (some, ap is_some none))

-- the first may fly
pub first_may : (p : Public) (stmts : List Stmt) (stmt : Stmt) → All (λ (s : Stmt). may_fly p (skeleton s) ≡ true) stmts → slice_get stmts 0 ≡ Some stmt → may_fly p (skeleton stmt) ≡ true
first_may p [] stmt fly is = absurd (cc is)
first_may p (first ∷ rest) stmt fly is = subst (λ (s : Stmt). may_fly p (skeleton s) ≡ true) (cc is) (All-head (λ (s : Stmt). may_fly p (skeleton s) ≡ true) first rest fly)

pub only_one : (stmts : List Stmt) (stmt : Stmt) → length stmts < 2 → slice_get stmts 0 ≡ Some stmt → stmts ≡ stmt ∷ []
only_one [] stmt few is = absurd (cc is)
only_one (first ∷ []) stmt few is = ap (λ (s : Stmt). s ∷ []) (cc is)
only_one (first ∷ (more ∷ rest)) stmt few is = absurd (omega (arith, few))

pub first_at : (stmts : List Stmt) (one : Stmt) → 1 ≤ length stmts → one ≡ get_or stmts 0 one → slice_get stmts 0 ≡ Some one
first_at [] one some is = absurd (omega (arith, some))
first_at (first ∷ rest) one some is = ap Some (sym is)

-- ---- by the first of them
pub batch_of : (settings : Option FlightSettings) (p : Public) (m : ℕ) (first : Stmt) (rest : List Stmt) → AreBatched settings p m (first ∷ rest) → is_some (inserts_into (skeleton first)) ≡ true → AreBatch p m first rest
batch_of settings p m first rest (inl batch) inserts = batch
batch_of settings p m first rest (inr flown) inserts =
    absurd (let none = no_insert p (skeleton first) (All-head (λ (s : Stmt). may_fly p (skeleton s) ≡ true) first rest flown.fly) in let not = ap is_some none in cc (inserts, not))

pub flown_of : (settings : Option FlightSettings) (p : Public) (m : ℕ) (first : Stmt) (rest : List Stmt) → AreBatched settings p m (first ∷ rest) → is_some (inserts_into (skeleton first)) ≡ false → AreFlown settings p (first ∷ rest)
flown_of settings p m first rest (inl batch) not = absurd (let some = (begins p m first batch.begins).inserts in cc (some, not))
flown_of settings p m first rest (inr flown) not = flown
