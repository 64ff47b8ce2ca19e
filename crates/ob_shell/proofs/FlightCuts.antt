-- How many statements of a flight the store cut off.
use Rattle.ob_shell.proofs.Words.{All, All-head, All-tail, Answer, ap, arith, Bool, cut_off, end_cut, false, if◌then◌else◌, is_cut, is_fault, length, List, Outcome, refl, Refused, Seen, served_as, Stmt, sym, true, ℕ, [], ◌++◌, ◌+◌, ◌||◌, ◌∙◌, ◌∷◌, ◌≡◌}
use Rattle.ob_exec.specs.RanFlight.{cut_off as cut_among}
use Rattle.ob_headline.specs.Accesses.{any_cut}
use Rattle.ob_headline.specs.Failures.{failures, outcome_failures}
use Rattle.ob_script.specs.FlightLaws.{one_if, total}
use Rattle.ob_script.specs.Trace.{Served}
use Rattle.ob_shell.proofs.FlightSeen.{AllAnswered, Stood, flown_ends}
use Rattle.ob_shell.proofs.FlownLists.{StmtInFlight, served_in_all}
use Rattle.ob_shell.proofs.WalkLemmas.{or_first, or_rest}

one_of : (b : Bool) → one_if b ≡ (if b then 1 else 0)
one_of true = refl
one_of false = refl

pub cut_same : (stmts : List Stmt) (seens : List Seen) → length seens ≡ length stmts → cut_off (served_as stmts seens) ≡ cut_among seens
unfolding cut_off total
cut_same [] [] long = refl
cut_same [] (seen ∷ seens) long = absurd (omega (arith, long))
cut_same (stmt ∷ stmts) [] long = absurd (omega (arith, long))
cut_same (stmt ∷ stmts) (seen ∷ seens) long = let rest = cut_same stmts seens (omega (arith, long)) in let one = one_of (is_cut seen.end) in omega (arith, rest, one)

pub any_first : (xs ys : List Served) → any_cut (xs ++ ys) ≡ false → any_cut xs ≡ false
unfolding any_cut
any_first [] ys not = refl
any_first (x ∷ xs) ys not =
    let own = or_first (is_cut x.seen.end) (any_cut (xs ++ ys)) not in
    let rest = any_first xs ys (or_rest (is_cut x.seen.end) (any_cut (xs ++ ys)) not) in
    (λ i. own i || any_cut xs) ∙ rest

pub any_rest : (xs ys : List Served) → any_cut (xs ++ ys) ≡ false → any_cut ys ≡ false
unfolding any_cut
any_rest [] ys not = not
any_rest (x ∷ xs) ys not = any_rest xs ys (or_rest (is_cut x.seen.end) (any_cut (xs ++ ys)) not)

pub none_cut : (xs : List Served) → any_cut xs ≡ false → cut_off xs ≡ 0
unfolding any_cut cut_off
none_cut [] not = refl
none_cut (x ∷ xs) not =
    let own : ◌≡◌ {A = ℕ} (if is_cut x.seen.end then 1 else 0) 0 = ap (λ (b : Bool). if b then 1 else 0) (or_first (is_cut x.seen.end) (any_cut xs) not) in
    let rest = none_cut xs (or_rest (is_cut x.seen.end) (any_cut xs) not) in
    omega (arith, own, rest)

-- so many answers are that it had
by_fault_one : (o : Outcome) → outcome_failures o ≡ (if is_fault o then 1 else 0)
by_fault_one (Refused r) = refl
by_fault_one other = refl

pub failed_same : (fs : List StmtInFlight) (given : List Answer) → All Stood fs → AllAnswered fs given → failures given ≡ cut_off (served_in_all fs)
unfolding failures cut_off
failed_same [] [] stood all = refl
failed_same [] (one ∷ given) stood all = absurd all
failed_same (f ∷ fs) [] stood all = absurd all
failed_same (f ∷ fs) (one ∷ given) stood all =
    let own : outcome_failures one.outcome ≡ (if is_cut f.seen.end then 1 else 0) =
    by_fault_one one.outcome ∙ ap (λ (b : Bool). if b then 1 else 0) (sym (ap is_cut (flown_ends f one (All-head Stood f fs stood) all.0) ∙ end_cut one.outcome f.own)) in
    let rest = failed_same fs given (All-tail Stood f fs stood) all.1 in
    omega (arith, own, rest)

pub failures_more : (xs ys : List Answer) → failures (xs ++ ys) ≡ failures xs + failures ys
unfolding failures
failures_more [] ys = omega arith
failures_more (x ∷ xs) ys = let rest = failures_more xs ys in omega (arith, rest)
