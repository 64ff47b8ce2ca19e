-- What statements mean that fly: each over the tables before, which stay.
use Rattle.ob_shell.proofs.Words.{after, All, All-head, All-tail, Answer, answer_of, ap, arith, Bool, Cut, drop, early_refusal, Emitted, Ending, Err, false, Heading, headings, headings_of, How, if◌then◌else◌, inl, inr, is_fault, is_full_now, is_late, length, limits_of, List, map, may_fly, None, Ok, Option, Outcome, refl, Refusal, refusal_now, RefusedEarly, Result, RunStop, Position, Seen, seen_or_cut, Session, skeleton, Some, Spelt, Stmt, subst, sym, Tables, true, whole_script, ℕ, [], ⊤, ◌++◌, ◌∙◌, ◌∷◌, ◌≡◌, ◌≤◌, ◌⊎◌}
use Rattle.ob_exec.specs.InFlight.{EndsMeant, IsMeant}
use Rattle.ob_headline.proofs.CutLemmas.{cut_shorter}
use Rattle.ob_headline.specs.Flights.{LeftAt, at_next, at_position}
use Rattle.ob_headline.specs.Meaning.{AnswersFrom, AnswersIn, BeginsAnswer, BeginsAt, EmitsAll, EmitsPart, StandBehind, StandsIn, StandsThere, done_in, session_after}
use Rattle.ob_inflight.specs.Closing.{Closed}
use Rattle.ob_mean.specs.Lawful.{CutUpTo}
use Rattle.ob_mean.specs.Replay.{Alone, Broken, CutAfter, IsCutOff, cut_at, head_of, rest_of, seen_now}
use Rattle.ob_script.specs.Trace.{Served}
use Rattle.ob_shell.proofs.FlightSeen.{GoesBy, IsAnswerOf, IsIn, Stood, by_stand, flown_bytes, flown_early, flown_ended, flown_lawful}
use Rattle.ob_shell.proofs.FlownLists.{StmtInFlight, positions_in, served_in_all, served_of, stmts_in}
use Rattle.ob_shell.proofs.ReplayLemmas.{outcome_cases}
use Rattle.ob_shell.proofs.SelectLemmas.{IsOwn, LeavesAll, leaves_all, room_flown, unkeyed_flown}
use Rattle.ob_mean.specs.Standing.{StandsMeant}

-- ---- a session of which the tables and the draws are another's
pub at_same : (v : Position) (s t : Session) → t.tables ≡ s.tables → t.draws ≡ s.draws → at_position v t ≡ at_position v s
at_same v s t ts ds = λ i. record { public = v.public; tables = ts i; asked = v.asked; draws = ds i }

module _ (ending : Ending) (s t : Session) (ts : t.tables ≡ s.tables) (ds : t.draws ≡ s.draws) where
  stand_same : (positions : List Position) (spelt : List Spelt) (seen : List Served) → StandBehind ending positions s spelt seen → StandBehind ending positions t spelt seen
  unfolding StandBehind
  stand_same positions [] seen stands = tt
  stand_same positions (Err at ∷ spelt) seen stands = absurd stands
  stand_same [] (Ok stmt ∷ spelt) seen stands = absurd stands
  stand_same (v ∷ positions) (Ok stmt ∷ spelt) [] stands = absurd stands
  stand_same (v ∷ positions) (Ok stmt ∷ spelt) (x ∷ seen) stands =
      (subst (λ (y : Session). StandsThere v.left ending v y stmt x.seen) (sym (at_same v s t ts ds)) stands.0, stand_same positions spelt seen stands.1)

  begins_with : (o : Option LeftAt) (v : Position) (y : Session) (stmt : Stmt) (here : Seen) (part : List ℕ) (P Q : Type 0) → (P → Q) → BeginsAt o ending v y stmt here part P → BeginsAt o ending v y stmt here part Q
  begins_with None v y stmt here part P Q on begins = begins
  begins_with (Some stand) v y stmt here part P Q on begins = (begins.0, begins.1, on begins.2)

  begins_same : (positions : List Position) (x : Spelt) (behind : List Spelt) (seen : List Served) (part : List ℕ) → BeginsAnswer ending positions s x behind seen part → BeginsAnswer ending positions t x behind seen part
  begins_same positions (Err at) behind seen part begins = begins
  begins_same [] (Ok stmt) behind seen part begins = absurd begins
  begins_same (v ∷ positions) (Ok stmt) behind [] part begins = absurd begins
  begins_same (v ∷ positions) (Ok stmt) behind (x ∷ seen) part begins =
      begins_with v.left v (at_position v t) stmt x.seen part (StandBehind ending positions s behind seen) (StandBehind ending positions t behind seen) (stand_same positions behind seen)
      (subst (λ (y : Session). BeginsAt v.left ending v y stmt x.seen part (StandBehind ending positions s behind seen)) (sym (at_same v s t ts ds)) begins)

  pub answers_same : (positions : List Position) (spelt : List Spelt) (broken : Broken) (answers : List Answer) (seen : List Served) (part : List ℕ) → AnswersFrom ending positions s spelt broken answers seen part → AnswersFrom ending positions t spelt broken answers seen part
  unfolding AnswersFrom
  answers_same positions [] broken answers seen part all = all
  answers_same positions (x ∷ spelt) broken [] seen part all = begins_same positions x spelt seen part all
  answers_same positions (Err at ∷ spelt) broken (one ∷ more) seen part all = (all.0, answers_same positions spelt (rest_of broken) more seen part all.1)
  answers_same positions (Ok stmt ∷ spelt) broken (one ∷ more) [] part all = absurd all
  answers_same [] (Ok stmt ∷ spelt) broken (one ∷ more) (x ∷ seen) part all = absurd all
  answers_same (v ∷ positions) (Ok stmt ∷ spelt) broken (one ∷ more) (x ∷ seen) part all =
      subst (λ (y : Session). (is_full_now y stmt ≡ false) × IsCutOff (head_of broken) y stmt × AnswersIn (head_of broken) y stmt one × (x.seen ≡ seen_or_cut (head_of broken) y stmt)
      × AnswersFrom ending positions (after (head_of broken) y stmt) spelt (rest_of broken) more seen part) (sym (at_same v s t ts ds)) all

  -- the tables after the texts are the same, too
  next_same : (positions : List Position) → (at_next positions t).tables ≡ (at_next positions s).tables
  next_same [] = ts
  next_same (v ∷ positions) = ts

  pub behind_same : (positions : List Position) (spelt : List Spelt) (broken : Broken) → (session_after positions t spelt broken).tables ≡ (session_after positions s spelt broken).tables
  unfolding session_after
  behind_same positions [] broken = next_same positions
  behind_same positions (Err at ∷ spelt) broken = behind_same positions spelt (rest_of broken)
  behind_same [] (Ok stmt ∷ spelt) broken = ts
  behind_same (v ∷ positions) (Ok stmt ∷ spelt) broken =
      ap (λ (y : Session). (if is_full_now y stmt then y else session_after positions (after (head_of broken) y stmt) spelt (rest_of broken)).tables) (at_same v s t ts ds)

-- ---- one that was answered
-- as it means, from a session
pub record Means (s : Session) (f : StmtInFlight) : Type 0 where
  pub listed : headings s.tables ≡ headings_of f.position.public.tables
  pub told : IsMeant s.draws f.position.public f.position.asked f.own f.done s.tables f.stmt f.seen f.closed
  pub emitted : (one : Closed) → f.closed ≡ Some one → Emitted f.stmt f.position.public f.position.asked s.tables one.outcome one.events

-- so it was served, over the session at its position
pub record MeantSo (f : StmtInFlight) (one : Answer) (s : Session) : Type 0 where
  pub how : How
  pub own : IsOwn how
  pub listed : headings s.tables ≡ headings_of s.public.tables
  pub fly : may_fly s.public (skeleton f.stmt) ≡ true
  pub room : is_full_now s f.stmt ≡ false
  pub cuts : IsCutOff how s f.stmt
  pub answer : AnswersIn how s f.stmt one
  pub seen : f.seen ≡ seen_or_cut how s f.stmt

not_early : (o : Option Refusal) (result : Result Outcome RunStop) (here : Seen) (n : ℕ) → RefusedEarly o result here → here.end ≡ Cut n → o ≡ None
not_early None result here n early is = refl
not_early (Some r) result here n early is = absurd (cc (is, ap (λ (x : Seen). x.end) early.1))

module _ (s : Session) (f : StmtInFlight) (one : Answer) (stood : Stood f) (answer : IsAnswerOf f one) (means : Means s f) where
  abbrev here : Session
  here = at_position f.position s

  told_so : EndsMeant s.draws f.position.public f.position.asked f.own s.tables f.stmt f.seen answer.how.outcome
  told_so = subst (λ (o : Option Closed). IsMeant s.draws f.position.public f.position.asked f.own f.done s.tables f.stmt f.seen o) answer.closed means.told

  outcome_is : one.outcome ≡ answer.how.outcome
  outcome_is = ap (λ (a : Answer). a.outcome) answer.is

  -- where the store failed it
  module _ (cut : f.seen ≡ cut_at true f.own f.position.public (skeleton f.stmt) (seen_now here f.stmt)) where
    ends_there : f.seen.end ≡ Cut f.own
    ends_there = ap (λ (x : Seen). x.end) cut

    early_there : early_refusal (is_late f.position.asked) (limits_of f.position.public) (headings s.tables) f.stmt ≡ None
    early_there =
        ap (λ (hs : List Heading). early_refusal (is_late f.position.asked) (limits_of f.position.public) hs f.stmt) means.listed
        ∙ not_early (refusal_now f.position.public f.position.asked f.stmt) (Ok one.outcome) f.seen f.own (flown_early f one stood answer) ends_there

    within_there : f.own ≤ length (whole_script f.position.public (skeleton f.stmt) (seen_now here f.stmt))
    within_there =
        let p = f.position.public in
        let sk = skeleton f.stmt in
        let most : f.own ≤ length (whole_script p sk (cut_at true f.own p sk (seen_now here f.stmt))) =
        subst (λ (x : Seen). CutUpTo (length (whole_script p sk x)) x.end) cut (flown_lawful f one stood answer).cut in
        let less = cut_shorter true f.own p sk (seen_now here f.stmt) in
        omega (arith, most, less)

  pub meant_so : MeantSo f one here
  meant_so = elim (outcome_cases answer.how.outcome _ _ _ _ told_so (means.emitted answer.how answer.closed)) [
    | inl both ↦ record {
      how = Alone;
      own = tt;
      listed = means.listed;
      fly = stood.fly;
      room = room_flown f.position.public f.position.asked s.tables means.listed f.stmt stood.fly s.draws;
      cuts = tt;
      answer = record { outcome = outcome_is ∙ both.0.0; events = answer.how.events; prints = both.1; bytes = flown_bytes f one stood answer };
      seen = both.0.1;
    }
    | inr by ↦ record {
      how = CutAfter f.own;
      own = tt;
      listed = means.listed;
      fly = stood.fly;
      room = room_flown f.position.public f.position.asked s.tables means.listed f.stmt stood.fly s.draws;
      cuts = (
        early_there by.told,
        unkeyed_flown f.position.public f.position.asked s.tables means.listed f.stmt stood.fly (early_there by.told),
        (flown_ended f one stood answer).asks (ap is_fault by.is),
        within_there by.told,
      );
      answer = record { outcome = outcome_is ∙ by.is; events = answer.how.events; unfinished = by.too; bytes = flown_bytes f one stood answer };
      seen = by.told;
    }
  ]

-- ---- all of them were answered
abbrev pub AllMean : Session → List StmtInFlight → List Answer → Type 0
AllMean s [] [] = ⊤
AllMean s [] (one ∷ given) = ⊥
AllMean s (f ∷ fs) [] = ⊥
AllMean s (f ∷ fs) (one ∷ given) = MeantSo f one (at_position f.position s) × AllMean s fs given

-- from a session on these are answered so, and the tables behind are such
pub record Told (ending : Ending) (positions : List Position) (s : Session) (spelt : List Spelt) (answers : List Answer) (seen : List Served) (part : List ℕ) (Behind : Broken → Tables → Type 0) : Type 0 where
  pub broken : Broken
  pub meant : AnswersFrom ending positions s spelt broken answers seen part
  pub behind : Behind broken (session_after positions s spelt broken).tables

pub told_same : (ending : Ending) (s t : Session) → t.tables ≡ s.tables → t.draws ≡ s.draws → (positions : List Position) (spelt : List Spelt) (answers : List Answer) (seen : List Served) (part : List ℕ) (Behind : Broken → Tables → Type 0)
    → Told ending positions s spelt answers seen part Behind → Told ending positions t spelt answers seen part Behind
told_same ending s t ts ds positions spelt answers seen part Behind told = record {
  broken = told.broken;
  meant = answers_same ending s t ts ds positions spelt told.broken answers seen part told.meant;
  behind = subst (Behind told.broken) (sym (behind_same ending s t ts ds positions spelt told.broken)) told.behind;
}

pub told_as : (ending : Ending) (positions : List Position) (s : Session) (spelt : List Spelt) (answers : List Answer) (seen : List Served) (part : List ℕ) (Behind Other : Broken → Tables → Type 0) → ((broken : Broken) (ts : Tables) → Behind broken ts → Other broken ts)
    → Told ending positions s spelt answers seen part Behind → Told ending positions s spelt answers seen part Other
told_as ending positions s spelt answers seen part Behind Other on told = record { broken = told.broken; meant = told.meant; behind = on told.broken _ told.behind }

pub one_told : (ending : Ending) (v : Position) (s : Session) (stmt : Stmt) (how : How) (one : Answer) (x : Served) (positions : List Position) (spelt : List Spelt) (answers : List Answer) (seen : List Served) (part : List ℕ) (Behind Other : Broken → Tables → Type 0)
    → is_full_now (at_position v s) stmt ≡ false → IsCutOff how (at_position v s) stmt → AnswersIn how (at_position v s) stmt one → x.seen ≡ seen_or_cut how (at_position v s) stmt
    → Told ending positions (after how (at_position v s) stmt) spelt answers seen part Behind → ((broken : Broken) (ts : Tables) → Behind broken ts → Other (how ∷ broken) ts)
    → Told ending (v ∷ positions) s (Ok stmt ∷ spelt) (one ∷ answers) (x ∷ seen) part Other
unfolding AnswersFrom session_after
one_told ending v s stmt how one x positions spelt answers seen part Behind Other room cuts answer here rest on = record {
  broken = how ∷ rest.broken;
  meant = (room, cuts, answer, here, rest.meant);
  behind = subst (λ (b : Bool). Other (how ∷ rest.broken) (if b then at_position v s else session_after positions (after how (at_position v s) stmt) spelt rest.broken).tables) (sym room) (on rest.broken _ rest.behind);
}

-- so one was served that leaves tables and draws
pub record IsStill (how : How) (s : Session) (stmt : Stmt) : Type 0 where
  pub room : is_full_now s stmt ≡ false
  pub leaves : LeavesAll how s stmt

-- so those were that were answered
abbrev pub AreStill : Session → List StmtInFlight → List Answer → Broken → Type 0
AreStill s fs [] broken = ⊤
AreStill s [] (one ∷ given) broken = ⊥
AreStill s (f ∷ fs) (one ∷ given) broken = IsStill (head_of broken) (at_position f.position s) f.stmt × AreStill s fs given (rest_of broken)

still_at : (s t : Session) → t.tables ≡ s.tables → t.draws ≡ s.draws → (v : Position) (stmt : Stmt) (how : How) → is_full_now (at_position v t) stmt ≡ false → LeavesAll how (at_position v t) stmt → IsStill how (at_position v s) stmt
still_at s t ts ds v stmt how room leaves = subst (λ (y : Session). IsStill how y stmt) (at_same v s t ts ds) (record { room = room; leaves = leaves })

module _ (ending : Ending) (s : Session) (positions : List Position) (spelt : List Spelt) (answers : List Answer) (seen : List Served) (part : List ℕ) (Behind : Broken → Tables → Type 0)
    (rest : (t : Session) → t.tables ≡ s.tables → t.draws ≡ s.draws → Told ending positions t spelt answers seen part Behind) where
  -- after these it goes on
  abbrev BehindAll : List StmtInFlight → List Answer → Broken → Tables → Type 0
  BehindAll fs given broken ts = AreStill s fs given broken × Behind (drop (length fs) broken) ts

  pub whole_meant : (fs : List StmtInFlight) (given : List Answer) → AllMean s fs given → (t : Session) → t.tables ≡ s.tables → t.draws ≡ s.draws
      → Told ending (positions_in fs ++ positions) t (map Ok (stmts_in fs) ++ spelt) (given ++ answers) (served_in_all fs ++ seen) part (BehindAll fs given)
  whole_meant [] [] all t ts ds = told_as ending positions t spelt answers seen part Behind (BehindAll [] []) (λ broken us behind. (tt, behind)) (rest t ts ds)
  whole_meant [] (one ∷ given) all t ts ds = absurd all
  whole_meant (f ∷ fs) [] all t ts ds = absurd all
  whole_meant (f ∷ fs) (one ∷ given) all t ts ds =
      let v = f.position in
      let own : MeantSo f one (at_position v t) = subst (λ (y : Session). MeantSo f one y) (sym (at_same v s t ts ds)) all.0 in
      let stays = leaves_all own.how (at_position v t) f.stmt own.own own.listed own.fly in
      one_told ending v t f.stmt own.how one (served_of f) (positions_in fs ++ positions) (map Ok (stmts_in fs) ++ spelt) (given ++ answers) (served_in_all fs ++ seen) part (BehindAll fs given) (BehindAll (f ∷ fs) (one ∷ given))
      own.room own.cuts own.answer own.seen (whole_meant fs given all.1 (after own.how (at_position v t) f.stmt) (stays.tables ∙ ts) (stays.draws ∙ ds))
      (λ broken us behind. ((still_at s t ts ds v f.stmt own.how own.room stays, behind.0), behind.1))

-- ---- their flight was left
-- one that was not answered stands where it may
pub record StandsSo (ending : Ending) (s : Session) (f : StmtInFlight) : Type 0 where
  pub stand : LeftAt
  pub left : f.position.left ≡ Some stand
  pub stands : StandsIn ending f.position stand (at_position f.position s) f.stmt f.seen

-- and of the first of these this was printed
pub record BeginsSo (ending : Ending) (s : Session) (f : StmtInFlight) (part : List ℕ) : Type 0 where
  pub stand : LeftAt
  pub left : f.position.left ≡ Some stand
  pub emits : EmitsPart ending f.position stand (at_position f.position s) f.stmt part ⊎ EmitsAll ending (at_position f.position s) f.stmt f.seen part

pub stands_so : (ending : Ending) (s : Session) (f : StmtInFlight) → Stood f → (left : IsIn f) → f.done ≡ done_in ending left.stand → Means s f → StandsSo ending s f
stands_so ending s f stood left done means = record { stand = left.stand; left = left.left; stands = by_closed f.closed refl }
  where
    goes : (o : Option Closed) → f.closed ≡ o → GoesBy o (Some left.stand) f.position
    goes o is = subst (λ (x : Option Closed). GoesBy x (Some left.stand) f.position) is (by_stand f left)

    by_closed : (o : Option Closed) → f.closed ≡ o → StandsIn ending f.position left.stand (at_position f.position s) f.stmt f.seen
    by_closed (Some how) is =
        let own = meant_so s f (answer_of how f.seen) stood (record { how = how; closed = is; is = refl }) means in
        inl (goes (Some how) is, record { how = own.how; cuts = own.cuts; seen = own.seen })
    by_closed None is = inr (
      goes None is,
      let here = subst (λ (o : Option Closed). IsMeant s.draws f.position.public f.position.asked f.own f.done s.tables f.stmt f.seen o) is means.told in
          let stands : (n done : ℕ) → Type 0 = λ (n done : ℕ). StandsMeant s.draws f.position.public f.position.asked n done s.tables f.stmt f.seen f.seen.end in
          subst (λ (n : ℕ). stands left.stand.own n) done (subst (λ (n : ℕ). stands n f.done) (sym left.own) here),
    )

abbrev pub LeftMean : Ending → Session → (part : List ℕ) → List StmtInFlight → List Answer → Type 0
LeftMean ending s part [] kept = ⊥
LeftMean ending s part (f ∷ fs) [] = BeginsSo ending s f part × All (StandsSo ending s) (f ∷ fs)
LeftMean ending s part (f ∷ fs) (one ∷ kept) = MeantSo f one (at_position f.position s) × LeftMean ending s part fs kept

module _ (ending : Ending) (s : Session) (part : List ℕ) where
  stands_at : (f : StmtInFlight) (t : Session) → t.tables ≡ s.tables → t.draws ≡ s.draws → StandsSo ending s f → StandsThere f.position.left ending f.position (at_position f.position t) f.stmt f.seen
  stands_at f t ts ds so =
      subst (λ (o : Option LeftAt). StandsThere o ending f.position (at_position f.position t) f.stmt f.seen) (sym so.left)
      (subst (λ (y : Session). StandsIn ending f.position so.stand y f.stmt f.seen) (sym (at_same f.position s t ts ds)) so.stands)

  stand_behind : (fs : List StmtInFlight) (t : Session) → t.tables ≡ s.tables → t.draws ≡ s.draws → All (StandsSo ending s) fs → StandBehind ending (positions_in fs) t (map Ok (stmts_in fs)) (served_in_all fs)
  unfolding StandBehind
  stand_behind [] t ts ds all = tt
  stand_behind (f ∷ fs) t ts ds all = (stands_at f t ts ds (All-head (StandsSo ending s) f fs all), stand_behind fs t ts ds (All-tail (StandsSo ending s) f fs all))

  begins_at : (f : StmtInFlight) (fs : List StmtInFlight) (t : Session) → t.tables ≡ s.tables → t.draws ≡ s.draws → BeginsSo ending s f part → All (StandsSo ending s) (f ∷ fs)
      → BeginsAt f.position.left ending f.position (at_position f.position t) f.stmt f.seen part (StandBehind ending (positions_in fs) t (map Ok (stmts_in fs)) (served_in_all fs))
  begins_at f fs t ts ds begins all =
      let own = stands_at f t ts ds (All-head (StandsSo ending s) f fs all) in
      let here = sym (at_same f.position s t ts ds) in
      subst (λ (o : Option LeftAt). BeginsAt o ending f.position (at_position f.position t) f.stmt f.seen part (StandBehind ending (positions_in fs) t (map Ok (stmts_in fs)) (served_in_all fs))) (sym begins.left) (
        subst (λ (o : Option LeftAt). StandsThere o ending f.position (at_position f.position t) f.stmt f.seen) begins.left own,
        subst (λ (y : Session). EmitsPart ending f.position begins.stand y f.stmt part ⊎ EmitsAll ending y f.stmt f.seen part) here begins.emits,
        stand_behind fs t ts ds (All-tail (StandsSo ending s) f fs all),
      )

  pub left_meant : (fs : List StmtInFlight) (kept : List Answer) → LeftMean ending s part fs kept → (t : Session) → t.tables ≡ s.tables → t.draws ≡ s.draws
      → (broken : Broken) × AnswersFrom ending (positions_in fs) t (map Ok (stmts_in fs)) broken kept (served_in_all fs) part × AreStill s fs kept broken
  unfolding AnswersFrom
  left_meant [] kept all t ts ds = absurd all
  left_meant (f ∷ fs) [] all t ts ds = ([], begins_at f fs t ts ds all.0 all.1, tt)
  left_meant (f ∷ fs) (one ∷ kept) all t ts ds =
      let v = f.position in
      let own : MeantSo f one (at_position v t) = subst (λ (y : Session). MeantSo f one y) (sym (at_same v s t ts ds)) all.0 in
      let stays = leaves_all own.how (at_position v t) f.stmt own.own own.listed own.fly in
      let rest = left_meant fs kept all.1 (after own.how (at_position v t) f.stmt) (stays.tables ∙ ts) (stays.draws ∙ ds) in
      (own.how ∷ rest.0, (own.room, own.cuts, own.answer, own.seen, rest.1), (still_at s t ts ds v f.stmt own.how own.room stays, rest.2))
