-- What is seen of statements that fly, and how they are gathered.
use Rattle.ob_shell.proofs.Words.{All, All-cons, All-head, All-tail, Answer, answer_labels, answer_of, ap, arith, closing_line, cut_off, end_cut, events_text, gathered_then, Gathering, if◌then◌else◌, inl, inr, is_cut, IsFlown, length, List, map, may_fly, nat_lt, None, Ok, Option, place_now, Public, refl, refusal_now, RefusedEarly, Position, Seen, skeleton, Some, Spelt, StandsAs, Stmt, subst, suc, sym, take, true, ℕ, [], ⊤, ◌&&◌, ◌++◌, ◌+◌, ◌<◌, ◌∙◌, ◌∷◌, ◌≡◌, ◌≤◌, ◌⊎◌}
use Rattle.ob_exec.specs.InFlight.{EndsAs}
use Rattle.ob_headline.specs.Accesses.{AreSeen, IsLeft}
use Rattle.ob_headline.specs.Flights.{AreGathered, EndedBy, OnBy, LeftAt}
use Rattle.ob_inflight.specs.Closing.{Closed}
use Rattle.ob_mean.specs.Lawful.{Lawful}
use Rattle.ob_script.specs.Trace.{Served}
use Rattle.ob_shell.proofs.EndLemmas.{alone_joins, failed_by, says}
use Rattle.ob_shell.proofs.FlownLists.{StmtInFlight, Places, flown_list, positions_in, served_in_all, served_of, stmts_in}
use Rattle.ob_shell.proofs.SelectLemmas.{flown_apart, flown_gathers}
use Rattle.ob_tables.specs.Running.{outcome_end}
use Rattle.ob_verdict.specs.Outcomes.{Emits}

-- ---- one of them
pub record Stood (f : StmtInFlight) : Type 0 where
  pub fly : may_fly f.position.public (skeleton f.stmt) ≡ true
  pub flown : IsFlown f.position.public f.position.asked f.own f.stmt f.seen f.closed
  pub emits : (one : Closed) → f.closed ≡ Some one → Emits f.stmt (answer_labels f.stmt f.position.public) one.outcome one.events

-- it has ended with this answer
pub record IsAnswerOf (f : StmtInFlight) (one : Answer) : Type 0 where
  pub how : Closed
  pub closed : f.closed ≡ Some how
  pub is : one ≡ answer_of how f.seen

-- it has ended, and had when its flight was left, or else it hadn't
abbrev pub GoesBy : Option Closed → Option LeftAt → Position → Type 0
GoesBy (Some one) left v = EndedBy left v
GoesBy None left v = OnBy left v

-- its flight was left
pub record IsIn (f : StmtInFlight) : Type 0 where
  pub stand : LeftAt
  pub left : f.position.left ≡ Some stand
  pub own : stand.own ≡ f.own
  pub by : GoesBy f.closed f.position.left f.position

pub by_stand : (f : StmtInFlight) (left : IsIn f) → GoesBy f.closed (Some left.stand) f.position
by_stand f left = subst (λ (o : Option LeftAt). GoesBy f.closed o f.position) left.left left.by

-- each has, or the first of them have
abbrev pub AllAnswered : List StmtInFlight → List Answer → Type 0
AllAnswered [] [] = ⊤
AllAnswered [] (one ∷ given) = ⊥
AllAnswered (f ∷ fs) [] = ⊥
AllAnswered (f ∷ fs) (one ∷ given) = IsAnswerOf f one × AllAnswered fs given

abbrev pub FirstAnswered : List StmtInFlight → List Answer → Type 0
FirstAnswered fs [] = ⊤
FirstAnswered [] (one ∷ given) = ⊥
FirstAnswered (f ∷ fs) (one ∷ given) = IsAnswerOf f one × FirstAnswered fs given

pub answered_long : (fs : List StmtInFlight) (given : List Answer) → AllAnswered fs given → length given ≡ length fs
answered_long [] [] all = refl
answered_long [] (one ∷ given) all = absurd all
answered_long (f ∷ fs) [] all = absurd all
answered_long (f ∷ fs) (one ∷ given) all = ap (λ (n : ℕ). suc n) (answered_long fs given all.1)

module _ (f : StmtInFlight) (one : Answer) (stood : Stood f) (answer : IsAnswerOf f one) where
  abbrev p : Public
  p = f.position.public

  abbrev m : ℕ
  m = f.position.asked

  pub flown_ended : EndsAs p m f.own f.stmt f.seen answer.how.outcome
  flown_ended = subst (λ (o : Option Closed). IsFlown p m f.own f.stmt f.seen o) answer.closed stood.flown

  outcome_is : one.outcome ≡ answer.how.outcome
  outcome_is = ap (λ (a : Answer). a.outcome) answer.is

  pub flown_lawful : Lawful p m f.stmt f.seen
  flown_lawful = flown_ended.lawful

  pub flown_early : RefusedEarly (refusal_now p m f.stmt) (Ok one.outcome) f.seen
  flown_early = subst (λ o. RefusedEarly (refusal_now p m f.stmt) (Ok o) f.seen) (sym outcome_is) flown_ended.early

  pub flown_ends : f.seen.end ≡ outcome_end one.outcome f.own
  flown_ends = flown_ended.ends ∙ ap (λ o. outcome_end o f.own) (sym outcome_is)

  pub flown_bytes : one.bytes ≡ events_text answer.how.events ++ closing_line one.outcome
  flown_bytes = ap (λ (a : Answer). a.bytes) answer.is ∙ ap (λ o. events_text answer.how.events ++ closing_line o) (sym outcome_is)

  pub flown_plan : one.plan ≡ f.seen.plan
  flown_plan = ap (λ (a : Answer). a.plan) answer.is

  flown_emits : Emits f.stmt (answer_labels f.stmt p) one.outcome answer.how.events
  flown_emits = subst (λ o. Emits f.stmt (answer_labels f.stmt p) o answer.how.events) (sym outcome_is) (stood.emits answer.how answer.closed)

  -- what is seen of it, and then of the others
  pub seen_flown : (Leaves : Public → Stmt → Seen → Type 0) (positions : List Position) (g : Option Gathering) (spelt : List Spelt) (answers : List Answer) (seen : List Served) → AreSeen Leaves positions None spelt answers seen
      → AreSeen Leaves (f.position ∷ positions) g (Ok f.stmt ∷ spelt) (one ∷ answers) (served_of f ∷ seen)
  unfolding AreSeen
  seen_flown Leaves positions g spelt answers seen rest = (
    refl,
    flown_ended.lawful,
    (
      says (refusal_now p m f.stmt) p f.stmt one f.seen answer.how.events flown_early flown_emits flown_bytes (ap is_cut flown_ends ∙ end_cut one.outcome f.own) flown_plan,
      failed_by g one.outcome f.seen.end f.own flown_ends,
      flown_plan,
      alone_joins p m g f.stmt f.seen (Ok one.outcome) f.own (flown_apart p g (skeleton f.stmt) stood.fly) flown_ends,
    ),
    subst (λ (o : Option Gathering). AreSeen Leaves positions o spelt answers seen) (sym (flown_gathers p m g f.stmt f.seen.end stood.fly)) rest,
  )

-- ---- all of them were answered
abbrev pub spelt_in : List StmtInFlight → List Spelt
spelt_in fs = map Ok (stmts_in fs)

pub whole_seen : (Leaves : Public → Stmt → Seen → Type 0) (positions : List Position) (spelt : List Spelt) (answers : List Answer) (seen : List Served) → AreSeen Leaves positions None spelt answers seen
    → (fs : List StmtInFlight) (given : List Answer) (g : Option Gathering) → (fs ≡ [] → g ≡ None) → All Stood fs → AllAnswered fs given
    → AreSeen Leaves (positions_in fs ++ positions) g (spelt_in fs ++ spelt) (given ++ answers) (served_in_all fs ++ seen)
whole_seen Leaves positions spelt answers seen rest [] [] g none stood all = subst (λ (o : Option Gathering). AreSeen Leaves positions o spelt answers seen) (sym (none refl)) rest
whole_seen Leaves positions spelt answers seen rest [] (one ∷ given) g none stood all = absurd all
whole_seen Leaves positions spelt answers seen rest (f ∷ fs) [] g none stood all = absurd all
whole_seen Leaves positions spelt answers seen rest (f ∷ fs) (one ∷ given) g none stood all =
    seen_flown f one (All-head Stood f fs stood) all.0 Leaves (positions_in fs ++ positions) g (spelt_in fs ++ spelt) (given ++ answers) (served_in_all fs ++ seen)
    (whole_seen Leaves positions spelt answers seen rest fs given None (λ is. refl) (All-tail Stood f fs stood) all.1)

-- ---- their flight was left
abbrev SeenWhenLeft : LeftAt → Position → (n : ℕ) → Stmt → Seen → Type 0
SeenWhenLeft stand v n stmt seen =
    (EndedBy (Some stand) v × Lawful v.public v.asked stmt seen) ⊎ (OnBy (Some stand) v × StandsAs v.public v.asked n stmt seen seen.end)

stands_in : (stand : LeftAt) (v : Position) (n : ℕ) (stmt : Stmt) (seen : Seen) (o : Option Closed) → GoesBy o (Some stand) v → IsFlown v.public v.asked n stmt seen o → SeenWhenLeft stand v n stmt seen
stands_in stand v n stmt seen (Some one) by flown = inl (by, flown.lawful)
stands_in stand v n stmt seen None by flown = inr (by, flown)

left_by : (Leaves : Public → Stmt → Seen → Type 0) (f : StmtInFlight) (g : Option Gathering) → Stood f → (left : IsIn f) → IsLeft Leaves f.position.left f.position g f.stmt f.seen
left_by Leaves f g stood left =
    subst (λ (o : Option LeftAt). IsLeft Leaves o f.position g f.stmt f.seen) (sym left.left)
    (subst (λ (n : ℕ). SeenWhenLeft left.stand f.position n f.stmt f.seen) (sym left.own) (stands_in left.stand f.position f.own f.stmt f.seen f.closed (by_stand f left) stood.flown))

pub left_seen : (Leaves : Public → Stmt → Seen → Type 0) (fs : List StmtInFlight) (kept : List Answer) (g : Option Gathering) → All Stood fs → All IsIn fs → FirstAnswered fs kept
    → AreSeen Leaves (positions_in fs) g (spelt_in fs) kept (served_in_all fs)
unfolding AreSeen
left_seen Leaves [] [] g stood left all = refl
left_seen Leaves [] (one ∷ kept) g stood left all = absurd all
left_seen Leaves (f ∷ fs) [] g stood left all =
    let own = All-head Stood f fs stood in (
      refl,
      left_by Leaves f g own (All-head IsIn f fs left),
      subst (λ (o : Option Gathering). AreSeen Leaves (positions_in fs) o (spelt_in fs) [] (served_in_all fs)) (sym (flown_gathers f.position.public f.position.asked g f.stmt f.seen.end own.fly))
          (left_seen Leaves fs [] None (All-tail Stood f fs stood) (All-tail IsIn f fs left) tt),
    )
left_seen Leaves (f ∷ fs) (one ∷ kept) g stood left all =
    seen_flown f one (All-head Stood f fs stood) all.0 Leaves (positions_in fs) g (spelt_in fs) kept (served_in_all fs)
    (left_seen Leaves fs kept None (All-tail Stood f fs stood) (All-tail IsIn f fs left) all.1)

-- ---- how they are gathered
-- their places go on from this one
abbrev pub PlacesFrom : ℕ → List StmtInFlight → Type 0
PlacesFrom i [] = ⊤
PlacesFrom i (f ∷ fs) = (f.position.place ≡ i) × PlacesFrom (i + 1) fs

pub flown_places : (at : Places) → ((i : ℕ) → (at.position i).place ≡ i) → (i : ℕ) (stmts : List Stmt) (seens : List Seen) (ended : List Closed) → PlacesFrom i (flown_list at i stmts seens ended)
unfolding flown_list
flown_places at places i [] seens _ = tt
flown_places at places i (stmt ∷ stmts) [] ended = tt
flown_places at places i (stmt ∷ stmts) (seen ∷ seens) [] = (places i, flown_places at places (i + 1) stmts seens [])
flown_places at places i (stmt ∷ stmts) (seen ∷ seens) (one ∷ ended) = (places i, flown_places at places (i + 1) stmts seens ended)

goes_with : (most i : ℕ) (p : Public) (stmt : Stmt) → may_fly p (skeleton stmt) ≡ true → i < most → place_now most p i (skeleton stmt) ≡ i
goes_with most i p stmt fly less =
    let room : nat_lt i most ≡ true = grind arith in
    λ j. if fly j && room j then i else 0

then_one : (p : Public) (stmt : Stmt) (place i : ℕ) → may_fly p (skeleton stmt) ≡ true → place ≡ i → gathered_then p place (skeleton stmt) ≡ i + 1
then_one p stmt place i fly is = λ j. if fly j then is j + 1 else 0

module _ (most : ℕ) (positions : List Position) (spelt : List Spelt) where
  gathers_on : (i : ℕ) (fs : List StmtInFlight) → All Stood fs → PlacesFrom i fs → i + length fs ≤ most → AreGathered most (i + length fs) positions spelt → AreGathered most i (positions_in fs ++ positions) (spelt_in fs ++ spelt)
  unfolding AreGathered
  gathers_on i [] stood places few rest = let same : i + 0 ≡ i = omega arith in subst (λ (n : ℕ). AreGathered most n positions spelt) same rest
  gathers_on i (f ∷ fs) stood places few rest =
      let own = All-head Stood f fs stood in
      let behind : i + suc (length fs) ≡ i + 1 + length fs = omega arith in (
        places.0 ∙ sym (goes_with most i f.position.public f.stmt own.fly (omega (arith, few))),
        subst (λ (n : ℕ). AreGathered most n (positions_in fs ++ positions) (spelt_in fs ++ spelt)) (sym (then_one f.position.public f.stmt f.position.place i own.fly places.0))
            (gathers_on (i + 1) fs (All-tail Stood f fs stood) places.1 (omega (arith, few)) (subst (λ (n : ℕ). AreGathered most n positions spelt) behind rest)),
      )

  -- the first goes into nothing that was gathered before
  pub gathers_flown : (g : ℕ) (f : StmtInFlight) (fs : List StmtInFlight) → All Stood (f ∷ fs) → PlacesFrom 0 (f ∷ fs) → length (f ∷ fs) ≤ most → place_now most f.position.public g (skeleton f.stmt) ≡ 0
      → AreGathered most (length (f ∷ fs)) positions spelt → AreGathered most g (positions_in (f ∷ fs) ++ positions) (spelt_in (f ∷ fs) ++ spelt)
  unfolding AreGathered
  gathers_flown g f fs stood places few begins rest =
      let own = All-head Stood f fs stood in
      let behind : suc (length fs) ≡ 0 + 1 + length fs = omega arith in (
        places.0 ∙ sym begins,
        subst (λ (n : ℕ). AreGathered most n (positions_in fs ++ positions) (spelt_in fs ++ spelt)) (sym (then_one f.position.public f.stmt f.position.place 0 own.fly places.0))
            (gathers_on (0 + 1) fs (All-tail Stood f fs stood) places.1 (omega (arith, few)) (subst (λ (n : ℕ). AreGathered most n positions spelt) behind rest)),
      )

-- ---- each that was answered had ended
pub whole_ended : (fs : List StmtInFlight) (positions : List Position) (n : ℕ) → All (λ (f : StmtInFlight). f.position.left ≡ None) fs → All (λ (v : Position). EndedBy v.left v) (take n positions)
    → All (λ (v : Position). EndedBy v.left v) (take (length fs + n) (positions_in fs ++ positions))
whole_ended [] positions n none rest = let same : n ≡ 0 + n = omega arith in subst (λ (k : ℕ). All (λ (v : Position). EndedBy v.left v) (take k positions)) same rest
whole_ended (f ∷ fs) positions n none rest =
    let same : suc (length fs + n) ≡ suc (length fs) + n = omega arith in
    subst (λ (k : ℕ). All (λ (v : Position). EndedBy v.left v) (take k (f.position ∷ (positions_in fs ++ positions)))) same
    (All-cons (λ (v : Position). EndedBy v.left v) f.position (take (length fs + n) (positions_in fs ++ positions))
    (subst (λ (o : Option LeftAt). EndedBy o f.position) (sym (All-head (λ (f : StmtInFlight). f.position.left ≡ None) f fs none)) tt)
    (whole_ended fs positions n (All-tail (λ (f : StmtInFlight). f.position.left ≡ None) f fs none) rest))

-- ---- how many the store cut off
pub cut_more : (xs ys : List Served) → cut_off (xs ++ ys) ≡ cut_off xs + cut_off ys
unfolding cut_off
cut_more [] ys = omega arith
cut_more (x ∷ xs) ys = let rest = cut_more xs ys in omega (arith, rest)
