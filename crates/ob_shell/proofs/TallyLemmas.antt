-- What is counted of answers, one after the other.
use Rattle.ob_shell.proofs.Words.{Answer, ap, arith, Bool, empty_tally, Ending, EndingTally, Err, false, Faults, flagged, has_refused, IfOk, KeptEnding, List, nat_lt, nat_tests, None, Ok, Option, Plain, Plan, Ran, refl, Result, Some, Stop, stop_of, StopCause, sym, Tally, true, ℕ, [], ◌++◌, ◌||◌, ◌∙◌, ◌∷◌, ◌≡◌}
use Rattle.std.specs.Prelude.{OnOk}
use Rattle.ob_base.specs.declared.config.Plan.TheVariants.{Small, Large, Continuous, Hash}
use Rattle.ob_base.specs.declared.refusal.Stop.TheVariants.{Tampered, SourceFault, SinkFault, NoMemory, InputLimit, StoreFault, StashFull, KeeperFault}
use Rattle.ob_gen.specs.Tally.{one_if, raised, with_plan}
use Rattle.ob_headline.specs.Closing.{is_refused}
use Rattle.ob_headline.specs.Words.{any_refused}
use Rattle.ob_shell.specs.Running.{FlagIs}
use Rattle.ob_shell.specs.Tallies.{TallyIs, tally_after, tally_with}
use Rattle.ob_shell.specs.declared.session.Halted.{Halted}

pub tally_after-nil : (t : Tally) → tally_after t [] ≡ t
unfolding tally_after
tally_after-nil t = refl

pub tally_after-one : (t : Tally) (answer : Answer) → tally_after t (answer ∷ []) ≡ tally_with t answer.outcome answer.plan
unfolding tally_after
tally_after-one t answer = refl

pub tally_after-append : (t : Tally) (xs ys : List Answer) → tally_after t (xs ++ ys) ≡ tally_after (tally_after t xs) ys
unfolding tally_after
tally_after-append t [] ys = refl
tally_after-append t (x ∷ xs) ys = tally_after-append (tally_with t x.outcome x.plan) xs ys

-- answers that follow others which were counted
pub tally_more : (t0 t1 t2 : Tally) (xs ys : List Answer) → t1 ≡ tally_after t0 xs → t2 ≡ tally_after t1 ys → t2 ≡ tally_after t0 (xs ++ ys)
tally_more t0 t1 t2 xs ys first second = second ∙ ap (λ (t : Tally). tally_after t ys) first ∙ sym (tally_after-append t0 xs ys)

-- ---- whether a text was refused
plan_keeps : (t : Tally) (plan : Option Plan) → (with_plan t plan).refused ≡ t.refused
plan_keeps t None = refl
plan_keeps t (Some Small) = refl
plan_keeps t (Some Large) = refl
plan_keeps t (Some Continuous) = refl
plan_keeps t (Some Hash) = refl

one_counts : (n : ℕ) (b : Bool) → nat_lt 0 (raised n (one_if b)) ≡ (nat_lt 0 n || b)
one_counts n true = grind (arith, nat_tests)
one_counts n false = grind (arith, nat_tests)

or_none : (b : Bool) → b ≡ (b || false)
or_none true = refl
or_none false = refl

or_assoc : (a b c : Bool) → ((a || b) || c) ≡ (a || (b || c))
or_assoc true b c = refl
or_assoc false b c = refl

refused_after : (t : Tally) (answers : List Answer) → has_refused (tally_after t answers) ≡ (has_refused t || any_refused answers)
unfolding tally_after any_refused
refused_after t [] = or_none (has_refused t)
refused_after t (x ∷ xs) =
    let here : has_refused (tally_with t x.outcome x.plan) ≡ (has_refused t || is_refused x.outcome) =
    ap (nat_lt 0) (plan_keeps _ x.plan) ∙ one_counts t.refused (is_refused x.outcome) in
    refused_after (tally_with t x.outcome x.plan) xs ∙ ap (λ (b : Bool). b || any_refused xs) here ∙ or_assoc (has_refused t) (is_refused x.outcome) (any_refused xs)

pub flag_by : (result : Result Tally Stop) (answers : List Answer) → TallyIs answers result → FlagIs answers (flagged result)
flag_by (Ok tally) answers is = ap has_refused is ∙ refused_after empty_tally answers
flag_by (Err stop) answers is = tt

pub any_refused-nil : any_refused [] ≡ false
unfolding any_refused
any_refused-nil = refl

-- the tally of a run
pub tally_by : (result : Result Tally Stop) (answers : List Answer) (tally : Tally) → TallyIs answers result → IfOk result (λ t. tally ≡ t) → EndingTally (Ran (flagged result)) answers tally
tally_by (Ok t) answers tally is same = same ∙ is
tally_by (Err stop) answers tally is same = tt

-- the stop has the same cause
pub cause_flagged : (Alone : Type 0) (old new : Faults) (result : Result Tally Stop) → StopCause Alone old new result → StopCause Alone old new (flagged result)
cause_flagged Alone old new (Ok tally) cause = cause
cause_flagged Alone old new (Err (Tampered region place)) cause = cause
cause_flagged Alone old new (Err SourceFault) cause = cause
cause_flagged Alone old new (Err SinkFault) cause = cause
cause_flagged Alone old new (Err NoMemory) cause = cause
cause_flagged Alone old new (Err InputLimit) cause = cause
cause_flagged Alone old new (Err StoreFault) cause = cause
cause_flagged Alone old new (Err StashFull) cause = cause
cause_flagged Alone old new (Err KeeperFault) cause = cause

-- what holds where a session came to its end, where it did
pub took_whole : {P : Type 0} (ran : Result Tally Halted) (refused : Bool) → Ran (flagged (stop_of ran)) ≡ Ran (Ok refused) → OnOk ran P → P
took_whole (Ok tally) refused is took = took
took_whole (Err halted) refused is took = absurd (cc is)

pub plain_whole : {P : Type 0} (ran : Result Tally Halted) (ended : Ending) (ending : KeptEnding) (refused : Bool) → ended ≡ Ran (flagged (stop_of ran)) → ending ≡ Plain ended → ending ≡ Plain (Ran (Ok refused)) → OnOk ran P → P
plain_whole ran ended ending refused of plain is took = let same : ended ≡ Ran (Ok refused) = cc (plain, is) in took_whole ran refused (sym of ∙ same) took
