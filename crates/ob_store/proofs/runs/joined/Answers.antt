use Rattle.std.proofs.Common.{◌≡◌, ◌==◌, ◌-◌, ◌<◌, ℕ, true, false, length, arith, sym, ◌∙◌, ap, List, refl}
use Rattle.std.proofs.lemmas.Bool.Decides.{nat_tests}
use Rattle.ob_base.specs.declared.access.Access.{Access}
use Rattle.ob_store.specs.Kept.{start_of}
use Rattle.ob_store.specs.Logs.{is_next, goes_on, comes_round}
use Rattle.ob_store.proofs.KeptLemmas.{begins_at, joins_none, joins_by, goes_by, length-range, runs_in}
use Rattle.ob_store.proofs.runs.joined.Goals as goal
use Rattle.ob_store.proofs.runs.joined.Goals.{After-is_next}

none_of : (n : ℕ) → (n == 0) ≡ true → n ≡ 0
none_of n is = grind (arith, nat_tests)

some_of : (n : ℕ) → (n == 0) ≡ false → 0 < n
some_of n is = grind (arith, nat_tests)

pub returns-then-is_empty : goal.returns-then-is_empty
returns-then-is_empty c = joins_none _ _ _ _ _ _ (none_of _ (sym c.is_empty.ensures ∙ c.if-is_empty.true))

pub part-cycle-requires : goal.part-cycle-requires
part-cycle-requires c =
    let some = some_of _ (sym c.is_empty.ensures ∙ c.if-is_empty.false) in
    let b = begins_at c.args.starts.now (length c.args.starts.now - 1) _ _ _ c.requires.sound (omega (arith, some)) in
    (omega (arith, b.cycles), omega arith)

pub overflow_sub-count : goal.overflow_sub-count
overflow_sub-count c =
    let some = some_of _ (sym c.is_empty.ensures ∙ c.if-is_empty.false) in
    let b = begins_at c.args.starts.now (length c.args.starts.now - 1) _ _ _ c.requires.sound (omega (arith, some)) in
    omega (arith, b.before)

pub is_next-requires : goal.is_next-requires
is_next-requires c =
    let some = some_of _ (sym c.is_empty.ensures ∙ c.if-is_empty.false) in
    let b = begins_at c.args.starts.now (length c.args.starts.now - 1) _ _ _ c.requires.sound (omega (arith, some)) in
    omega (arith, b.cycles, some, ap length c.part-cycle.ensures, length-range c.args.cycles.now (start_of c.args.starts.now (length c.args.starts.now - 1)).cycle (length c.args.cycles.now) (omega arith))

goes_is : (c : After-is_next) → goes_on c.args.access (runs_in c.args.cycles.now c.args.starts.now c.args.count) ≡ c.is_next.result
goes_is c =
    let some = some_of _ (sym c.is_empty.ensures ∙ c.if-is_empty.false) in
    let last = length c.args.starts.now - 1 in
    goes_by c.args.cycles.now c.args.starts.now (length c.args.starts.now) (length c.args.cycles.now) c.args.count last c.args.access (omega (arith, some))
    ∙ sym (c.is_next.ensures ∙ ap (λ (l : List Access). is_next l (c.args.count - (start_of c.args.starts.now last).access) c.args.access) c.part-cycle.ensures)

pub returns-then-is_next : goal.returns-then-is_next
returns-then-is_next c =
    let b = (goal.at.returns-then-is_next c).After-is_next in
    joins_by c.args.access (runs_in c.args.cycles.now c.args.starts.now c.args.count) true (comes_round 2 c.args.access (runs_in c.args.cycles.now c.args.starts.now c.args.count)) (comes_round 3 c.args.access (runs_in c.args.cycles.now c.args.starts.now c.args.count)) (goes_is b ∙ c.if-is_next.true) refl refl

pub returns-then-comes_round : goal.returns-then-comes_round
returns-then-comes_round c =
    let b = (goal.at.returns-then-comes_round c).After-is_next in
    joins_by c.args.access (runs_in c.args.cycles.now c.args.starts.now c.args.count) false true (comes_round 3 c.args.access (runs_in c.args.cycles.now c.args.starts.now c.args.count)) (goes_is b ∙ c.if-is_next.false) (sym c.comes_round.ensures ∙ c.if-comes_round.true) refl

pub returns-then-comes_round-2 : goal.returns-then-comes_round-2
returns-then-comes_round-2 c =
    let b = (goal.at.returns-then-comes_round-2 c).After-is_next in
    joins_by c.args.access (runs_in c.args.cycles.now c.args.starts.now c.args.count) false false true (goes_is b ∙ c.if-is_next.false) (sym c.comes_round.ensures ∙ c.if-comes_round.false) (sym c.comes_round-else-comes_round.ensures ∙ c.if-comes_round-2.true)

pub returns-else-comes_round-2 : goal.returns-else-comes_round-2
returns-else-comes_round-2 c =
    let b = (goal.at.returns-else-comes_round-2 c).After-is_next in
    joins_by c.args.access (runs_in c.args.cycles.now c.args.starts.now c.args.count) false false false (goes_is b ∙ c.if-is_next.false) (sym c.comes_round.ensures ∙ c.if-comes_round.false) (sym c.comes_round-else-comes_round.ensures ∙ c.if-comes_round-2.false)
