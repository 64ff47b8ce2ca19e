-- Where a sink failed within the answers of a flight, or after them.
use Rattle.ob_shell.proofs.Words.{Access, All, Answer, ap, append-nil, append_assoc, append_cancel_left, Appends, arith, asked_of, Bool, done_of, drop, Ending, Err, false, FinishedTogether, if◌then◌else◌, inl, inr, is_tampered, length, length-append, length-map, List, Machine, None, Ok, Option, Outputs, printed, PrintsUntil, public_of, Ran, RanInFlight, refl, RevState, RunStop, Position, Seen, served_as, Session, session_stop, slice_get, Some, Stmt, subst, suc, sym, take, take-append-drop, Took, true, turns_of, zero, ℕ, [], ◌++◌, ◌+◌, ◌<◌, ◌∙◌, ◌∷◌, ◌≡◌, ◌≤◌, ◌⊎◌}
use Rattle.ob_base.specs.declared.refusal.Stop.TheVariants as Stops
use Rattle.ob_headline.proofs.FlightLeft.{ended_left}
use Rattle.ob_headline.proofs.TakenLemmas.{LosesSo, taken_answers}
use Rattle.ob_headline.specs.Accesses.{FirstWants, LeavesInFlight, LeavesFlight, OneMakes, ends_within}
use Rattle.ob_headline.specs.Flights.{EndedBy, LeftAt, asked_until, has_ended}
use Rattle.ob_inflight.specs.Closing.{Closed}
use Rattle.ob_script.proofs.FlightLemmas.{logs_grow}
use Rattle.ob_script.specs.Flights.{Flight, boarding, merge, turns}
use Rattle.ob_script.specs.Trace.{Served as Entry}
use Rattle.ob_shell.proofs.FlightEnd.{all_fs, aloft, in_all, left_walked, spelt_left, turn_of}
use Rattle.ob_shell.proofs.FlightFacts.{ByThen, first_answered, past_none, places, positions_are}
use Rattle.ob_shell.proofs.FlightLast.{LastWalk}
use Rattle.ob_shell.proofs.FlightMeant.{BeginsSo, Means, meant_so}
use Rattle.ob_shell.proofs.FlightSeen.{FirstAnswered, IsAnswerOf, IsIn, Stood}
use Rattle.ob_shell.proofs.FlownLists.{StmtInFlight, positions_in}
use Rattle.ob_shell.proofs.StopLemmas.{stop_untampered}
use Rattle.ob_shell.proofs.WalkLemmas.{EarlyAt}
use Rattle.ob_shell.specs.FlightAnswers.{answers_of}
use Rattle.ob_tables.specs.Telling.{is_refused}
use Rattle.ob_tables.specs.declared.stop.RunStop.TheVariants as Runs

-- ---- what a sink took after answers that it took whole
printed_both : (xs ys : List Answer) → printed (xs ++ ys) ≡ printed xs ++ printed ys
unfolding printed
printed_both [] ys = refl
printed_both (x ∷ xs) ys = ap (λ (l : List ℕ). x.bytes ++ l) (printed_both xs ys) ∙ sym (append_assoc x.bytes (printed xs) (printed ys))

pub record TakenOn (w0 w1 : Option (List ℕ)) (Lost : Type 0) (first answers : List Answer) (bytes : List ℕ) : Type 0 where
  pub kept : List Answer
  pub lost : List Answer
  pub parts : answers ≡ kept ++ lost
  pub took : Took w0 w1 (printed (first ++ kept))
  pub loses : LosesSo w0 w1 Lost (first ++ kept) lost bytes

module _ (a b : List ℕ) (Lost : Type 0) (first : List Answer) where
  back : (kept : List Answer) (bytes : List ℕ) → Outputs (Some (a ++ printed first)) (Some b) Lost (printed kept ++ bytes) → Outputs (Some a) (Some b) Lost (printed (first ++ kept) ++ bytes)
  back kept bytes out =
      let same : printed (first ++ kept) ++ bytes ≡ printed first ++ (printed kept ++ bytes) = ap (λ (l : List ℕ). l ++ bytes) (printed_both first kept) ∙ append_assoc (printed first) (printed kept) bytes in
      record {
        grown = printed first ++ out.grown;
        appends = out.appends ∙ append_assoc a (printed first) out.grown;
        prefix = record { lost = out.prefix.lost; whole = same ∙ ap (λ (l : List ℕ). printed first ++ l) out.prefix.whole ∙ sym (append_assoc (printed first) out.grown out.prefix.lost) };
        all = elim out.all [
          | inl is ↦ inl (ap (λ (l : List ℕ). printed first ++ l) is ∙ sym same)
          | inr lost ↦ inr lost
        ];
      }

  back_lost : (kept lost : List Answer) (bytes : List ℕ) → LosesSo (Some (a ++ printed first)) (Some b) Lost kept lost bytes → LosesSo (Some a) (Some b) Lost (first ++ kept) lost bytes
  back_lost kept [] bytes out = back kept bytes out
  back_lost kept (one ∷ lost) bytes both = (both.0, back kept one.bytes both.1)

  took_on : (kept : List Answer) → Took (Some (a ++ printed first)) (Some b) (printed kept) → Took (Some a) (Some b) (printed (first ++ kept))
  took_on kept took = record {
    after = took.after;
    appends =
        took.appends ∙ append_assoc a (printed first) (printed kept ++ took.after)
        ∙ ap (λ (l : List ℕ). a ++ l) (sym (append_assoc (printed first) (printed kept) took.after) ∙ ap (λ (l : List ℕ). l ++ took.after) (sym (printed_both first kept)));
  }

pub taken_on : (w0 w1 : Option (List ℕ)) (Lost : Type 0) (first answers : List Answer) (bytes : List ℕ) → Outputs w0 w1 Lost (printed first ++ (printed answers ++ bytes)) → Took w0 w1 (printed first) → TakenOn w0 w1 Lost first answers bytes
taken_on None w1 Lost first answers bytes out whole = record {
  kept = answers;
  lost = [];
  parts = sym (append-nil answers);
  took = record { after = []; appends = tt };
  loses = record {
    grown = printed (first ++ answers) ++ bytes;
    appends = tt;
    prefix = record { lost = []; whole = sym (append-nil (printed (first ++ answers) ++ bytes)) };
    all = inl refl;
  };
}
taken_on (Some a) None Lost first answers bytes out whole = absurd out.appends
taken_on (Some a) (Some b) Lost first answers bytes out whole =
    let grown : out.grown ≡ printed first ++ whole.after = append_cancel_left a _ _ (sym out.appends ∙ whole.appends) in
    let on = taken_answers (Some (a ++ printed first)) (Some b) Lost answers bytes (record {
      grown = whole.after;
      appends = whole.appends ∙ sym (append_assoc a (printed first) whole.after);
      prefix = record {
        lost = out.prefix.lost;
        whole = append_cancel_left (printed first) _ _ (out.prefix.whole ∙ ap (λ (l : List ℕ). l ++ out.prefix.lost) grown ∙ append_assoc (printed first) whole.after out.prefix.lost);
      };
      all = elim out.all [
        | inl is ↦ inl (append_cancel_left (printed first) _ _ (sym grown ∙ is))
        | inr lost ↦ inr lost
      ];
    }) in
    record {
      kept = on.kept;
      lost = on.lost;
      parts = on.parts;
      took = took_on a b Lost first on.kept on.took;
      loses = back_lost a b Lost first on.kept on.lost bytes on.loses;
    }

-- ---- all were answered: the last that was lost, or the last of them
pub record LosesOne (w0 w1 : Option (List ℕ)) (Lost : Type 0) (first answers : List Answer) : Type 0 where
  pub kept : List Answer
  pub one : Answer
  pub lost : List Answer
  pub parts : answers ≡ kept ++ (one ∷ lost)
  pub took : Took w0 w1 (printed (first ++ kept))
  pub cut : Outputs w0 w1 Lost (printed (first ++ kept) ++ one.bytes)

record HasLast (answers : List Answer) : Type 0 where
  kept : List Answer
  one : Answer
  parts : answers ≡ kept ++ (one ∷ [])

last_of : (answers : List Answer) → 1 ≤ length answers → HasLast answers
last_of [] some = absurd (omega (arith, some))
last_of (x ∷ []) some = record { kept = []; one = x; parts = refl }
last_of (x ∷ (y ∷ xs)) some = let rest = last_of (y ∷ xs) (omega arith) in record { kept = x ∷ rest.kept; one = rest.one; parts = ap (λ (l : List Answer). x ∷ l) rest.parts }

printed_last : (first kept : List Answer) (one : Answer) → printed (first ++ (kept ++ (one ∷ []))) ≡ printed (first ++ kept) ++ one.bytes
unfolding printed
printed_last first kept one =
    ap printed (sym (append_assoc first kept (one ∷ []))) ∙ printed_both (first ++ kept) (one ∷ []) ∙ ap (λ (l : List ℕ). printed (first ++ kept) ++ l) (append-nil one.bytes)

pub loses_one : (w0 w1 : Option (List ℕ)) (Lost : Type 0) (first answers : List Answer) → 1 ≤ length answers → (kept lost : List Answer) → answers ≡ kept ++ lost → Took w0 w1 (printed (first ++ kept)) → LosesSo w0 w1 Lost (first ++ kept) lost [] → LosesOne w0 w1 Lost first answers
loses_one w0 w1 Lost first answers some kept (one ∷ lost) parts took loses = record { kept = kept; one = one; lost = lost; parts = parts; took = took; cut = loses.1 }
loses_one w0 w1 Lost first answers some kept [] parts took loses =
    let end = last_of answers some in
    let all : printed (first ++ kept) ≡ printed (first ++ end.kept) ++ end.one.bytes = ap (λ (l : List Answer). printed (first ++ l)) (sym (parts ∙ append-nil kept) ∙ end.parts) ∙ printed_last first end.kept end.one in
    record {
      kept = end.kept;
      one = end.one;
      lost = [];
      parts = end.parts;
      took = record {
        after = end.one.bytes ++ took.after;
        appends = subst (λ (l : List ℕ). Appends w0 w1 l) (ap (λ (l : List ℕ). l ++ took.after) all ∙ append_assoc (printed (first ++ end.kept)) end.one.bytes took.after) took.appends;
      };
      cut = subst (λ (l : List ℕ). Outputs w0 w1 Lost l) (append-nil (printed (first ++ kept)) ∙ all) loses;
    }

-- ---- what is left of them
-- neither within one of them nor for want of memory
leaves_at : (ending : Ending) (asked : List Access) (Wants : Type 0) (o : Option LeftAt) → ends_within ending ≡ false → (ending ≡ Ran (Err Stops.NoMemory) → ⊥) → LeavesFlight o ending asked Wants
leaves_at ending asked Wants None off not = tt
leaves_at ending asked Wants (Some stand) off not = (off, λ is. absurd (not is))

pub leaves_otherwise : (ending : Ending) (asked : List Access) (positions : List Position) (stmts : List Stmt) (seen : List Entry) → ends_within ending ≡ false → (ending ≡ Ran (Err Stops.NoMemory) → ⊥) → LeavesInFlight ending asked positions stmts seen
leaves_otherwise ending asked [] stmts seen off not = tt
leaves_otherwise ending asked (v ∷ positions) stmts seen off not = leaves_at ending asked (OneMakes (v ∷ positions) stmts seen ⊎ FirstWants (v ∷ positions) stmts seen) v.left off not

pub prints_whole : (run : RunStop) (xs : List ℕ) → PrintsUntil (session_stop run) xs xs
prints_whole Runs.NoMemory xs = record { lost = []; whole = sym (append-nil xs) }
prints_whole other xs = refl

-- the one after those that were kept
pub nth_answered : (xs : List StmtInFlight) (kept : List Answer) (one : Answer) (lost : List Answer) (f : StmtInFlight) → FirstAnswered xs (kept ++ (one ∷ lost)) → slice_get xs (length kept) ≡ Some f → IsAnswerOf f one
nth_answered [] kept one lost f first is = absurd (cc is)
nth_answered (x ∷ xs) [] one lost f first is = let same : x ≡ f = cc is in subst (λ (y : StmtInFlight). IsAnswerOf y one) same first.0
nth_answered (x ∷ xs) (k ∷ kept) one lost f first is = nth_answered xs kept one lost f first.1 is

pub begins_answered : (run : RunStop) (s : Session) (f : StmtInFlight) (one : Answer) → Stood f → IsIn f → IsAnswerOf f one → Means s f → BeginsSo (Ran (Err (session_stop run))) s f one.bytes
begins_answered run s f one stood at answer means =
    let own = meant_so s f one stood answer means in
    record { stand = at.stand; left = at.left; emits = inr (record { how = own.how; cuts = own.cuts; seen = own.seen; answer = one; answers = own.answer; printed = prints_whole run one.bytes }) }

-- all had ended by then
until_start : (words : ℕ → ℕ) (i : ℕ) (s : Flight) → asked_until words i 0 s ≤ length (turns words 0 s).log
unfolding asked_until turns
until_start words i s = omega arith

until_by : (words : ℕ → ℕ) (i n : ℕ) (s : Flight) (b : Bool) → has_ended i (turns words n s) ≡ b → asked_until words i (suc n) s ≡ (if b then asked_until words i n s else length (turns words (suc n) s).log)
unfolding asked_until
until_by words i n s b is = ap (λ (x : Bool). if x then asked_until words i n s else length (turns words (suc n) s).log) is

until_most : (words : ℕ → ℕ) (i n : ℕ) (s : Flight) → asked_until words i n s ≤ length (turns words n s).log
until_most words i zero s = until_start words i s
until_most words i (suc n) s = by (until_most words i n s) (has_ended i (turns words n s)) refl
  where
    by : asked_until words i n s ≤ length (turns words n s).log → (b : Bool) → has_ended i (turns words n s) ≡ b → asked_until words i (suc n) s ≤ length (turns words (suc n) s).log
    by before true is = let here = until_by words i n s true is in let grows = logs_grow words s n (suc n) (omega arith) in omega (arith, here, before, grows)
    by before false is = let here = until_by words i n s false is in omega (arith, here)

-- ---- the whole of it
module _ {R : Type 0} (state : R → RevState) (m1 m2 : Machine R) (more : List (List ℕ)) (part : List ℕ) (w0 w1 : Option (List ℕ)) (Lost : Type 0) (first : List Answer) (run : RunStop) (done : FinishedTogether state m1 m2 more run part) where
  abbrev ran : RanInFlight {T = Unit {0}} state m1.flights.words m2.flights.words done.step.stmts done.step.seens done.step.flew.ended (Ok tt) m1.engine m1.store m2.engine m2.store
  ran = done.step.flew.ran

  abbrev pub fs_done : List StmtInFlight
  fs_done = all_fs state m1 m2 done.step.stmts done.step.seens done.step.flew.ended (Ok tt) done.step.may ran

  abbrev total : ℕ
  total = in_all state m1 m2 done.step.stmts done.step.seens done.step.flew.ended (Ok tt) done.step.may ran

  abbrev flown : List Entry
  flown = served_as done.step.stmts done.step.seens

  most : length (merge (public_of m1.engine) flown m1.flights.words) ≤ total
  most =
      let long = ap length ran.ran.asked in
      let both = length-append m1.store.asked (merge (public_of m1.engine) flown m1.flights.words) in
      omega (arith, long, both)

  ended_then : (k : ℕ) → asked_until m1.flights.words k (turns_of (public_of m1.engine) flown) (boarding (public_of m1.engine) flown) ≤ total
  ended_then k =
      let turned = turns m1.flights.words (turns_of (public_of m1.engine) flown) (boarding (public_of m1.engine) flown) in
      let here = until_most m1.flights.words k (turns_of (public_of m1.engine) flown) (boarding (public_of m1.engine) flown) in
      let mapped = length-map turned.log (λ (e : ℕ × Access). e.1) in
      let all = most in
      omega (arith, here, mapped, all)

  by_then : (k : ℕ) → k < length done.step.stmts → (o : Option Closed) → slice_get done.step.flew.ended k ≡ o → ByThen o (asked_until m1.flights.words k (turns_of (public_of m1.engine) flown) (boarding (public_of m1.engine) flown)) total
  by_then k less (Some one) is = ended_then k
  by_then k less None is = absurd (let past = past_none done.step.flew.ended k is in let all = ran.all in omega (arith, past, less, all))

  had : (j : ℕ) → All (λ (v : Position). EndedBy v.left v) (take j (positions_in fs_done))
  had j = subst (λ (vs : List Position). All (λ (v : Position). EndedBy v.left v) (take j vs)) (sym (positions_are state m1 m2 done.step.stmts done.step.seens done.step.flew.ended (Ok tt) done.step.may ran (Some total)))
      (ended_left m1.flights.words (public_of m1.engine) (asked_of m1) flown total 0 (length flown) j (λ k less. ended_then (0 + k)))

  answered : (kept lost : List Answer) → done.answers ≡ kept ++ lost → FirstAnswered fs_done kept
  answered kept lost parts = first_answered (places state m1 m2 done.step.stmts done.step.seens done.step.flew.ended (Ok tt) done.step.may ran (Some total)) 0 done.step.stmts done.step.seens done.step.flew.ended kept lost ran.long
      (let all = ran.all in omega (arith, all)) (sym done.step.flew.answered ∙ parts)

  answers_long : (stmts : List Stmt) (ended : List Closed) (seens : List Seen) → length seens ≡ length stmts → length ended ≡ length stmts → length (answers_of ended seens) ≡ length stmts
  answers_long [] [] seens long all = refl
  answers_long [] (one ∷ ended) seens long all = absurd (omega (arith, all))
  answers_long (stmt ∷ stmts) [] seens long all = absurd (omega (arith, all))
  answers_long (stmt ∷ stmts) (one ∷ ended) [] long all = absurd (omega (arith, long))
  answers_long (stmt ∷ stmts) (one ∷ ended) (seen ∷ seens) long all = ap (λ (n : ℕ). suc n) (answers_long stmts ended seens (omega (arith, long)) (omega (arith, all)))

  long_answers : length done.answers ≡ length done.step.stmts
  long_answers = ap length done.step.flew.answered ∙ answers_long done.step.stmts done.step.flew.ended done.step.seens ran.long ran.all

  pub finished_last : Outputs w0 w1 Lost (printed first ++ part) → Took w0 w1 (printed first)
      → ((kept : List Answer) → FirstAnswered fs_done kept
      → EarlyAt state m1 m2 (turn_of state m1 m2 done.step.stmts done.step.seens done.step.flew.ended (Ok tt) done.step.may ran ∷ []) (spelt_left state m1 m2 done.step.stmts done.step.seens done.step.flew.ended (Ok tt) done.step.may ran) kept
      (take (length kept) (aloft state m1 m2 done.step.stmts done.step.seens done.step.flew.ended (Ok tt) done.step.may ran) ++ drop (length kept) (aloft state m1 m2 done.step.stmts done.step.seens done.step.flew.ended (Ok tt) done.step.may ran)))
      → LastWalk state (Ran (Err (session_stop run))) m1 m2 more part w0 w1 Lost first
  finished_last out whole early =
      let all : Outputs w0 w1 Lost (printed first ++ (printed done.answers ++ [])) = subst (λ (l : List ℕ). Outputs w0 w1 Lost (printed first ++ l)) (done.whole ∙ sym (append-nil (printed done.answers))) out in
      let on = taken_on w0 w1 Lost first done.answers [] all whole in
      let some = done.step.may.some in
      let end = loses_one w0 w1 Lost first done.answers (omega (arith, some, long_answers)) on.kept on.lost on.parts on.took on.loses in
      let n = length end.kept in
      let sum = ap length end.parts ∙ length-append end.kept (end.one ∷ end.lost) in
      let short : n < length done.step.stmts = omega (arith, sum, long_answers) in
      let each = answered (end.kept ++ (end.one ∷ end.lost)) [] (end.parts ∙ sym (append-nil (end.kept ++ (end.one ∷ end.lost)))) in
      let ends : (P : Ending → Type 0) → P (Ran (Err (session_stop Runs.SinkFault))) → P (Ran (Err (session_stop run))) = λ P at. subst (λ (r : RunStop). P (Ran (Err (session_stop r)))) (sym done.fault) at in
      record {
        held = take n done.flown;
        rest = drop n done.flown ++ done.more;
        parts = done.parts ∙ ap (λ (l : List (List ℕ)). l ++ done.more) (sym (take-append-drop n done.flown)) ∙ append_assoc (take n done.flown) (drop n done.flown) done.more;
        kept = end.kept;
        left = end.one.bytes;
        walk = left_walked state m1 m2 done.step.stmts done.step.seens done.step.flew.ended (Ok tt) done.step.may ran run done.flown done.more done.step.spelt
            (subst (λ (r : RunStop). total ≡ done_of (is_tampered (Ran (Err (session_stop r)))) total) (sym done.fault) refl)
            (λ within. cc (within, ends (λ (e : Ending). ends_within e ≡ false) refl))
            end.kept (answered end.kept (end.one ∷ end.lost) end.parts) short (had n) (λ k less. by_then k less (slice_get done.step.flew.ended k) refl) end.one.bytes
            (λ d drawn tables reads f is stood at means. begins_answered run _ f end.one stood at (nth_answered fs_done end.kept end.one end.lost f each is) means)
            (leaves_otherwise _ _ _ _ _ (ends (λ (e : Ending). ends_within e ≡ false) refl) (λ is. cc (is, ap (λ (r : RunStop). Ran (Err (session_stop r))) done.fault)))
            (inr (inr (inl (ap (λ (r : RunStop). Ran (Err (session_stop r))) done.fault))))
            (λ d drawn tells tables held honest. stop_untampered run (ap is_refused done.fault))
            (early end.kept (answered end.kept (end.one ∷ end.lost) end.parts));
        cut = end.cut;
        whole = end.took;
        same = inr (run, refl);
      }
