use Rattle.std.proofs.Common.{◌≡◌, ◌≢◌, ◌≤◌, ◌<◌, ◌+◌, ◌-◌, ◌^◌, ℕ, suc, List, [], ◌∷◌, ◌++◌, length, take, sym, ◌∙◌, ap, subst, arith}
use Rattle.ob_base.specs.declared.access.Access.{Access}
use Rattle.ob_store.specs.declared.runs.Start.{Start}
use Rattle.ob_store.specs.Kept.{Sound, place_of}
use Rattle.ob_store.specs.Logs.{joins, lengthened, added}
use Rattle.ob_store.proofs.KeptLemmas.{runs_in, new_sound, new_runs, joined_sound, joined_runs, joins_few, length-runs_of, log_by}
use Rattle.ob_store.proofs.runs.lengthen.Goals as goal
use Rattle.ob_store.proofs.runs.lengthen.Goals.{After-joined-runs, After-push_reserved-then-runs-eq0, After-truncate}

joins_is : (c : After-joined-runs) → c.joined-runs.result ≡ joins c.args.access (runs_in c.args.cycles.now.items c.args.starts.now.items c.args.count)
joins_is c =
    c.joined-runs.ensures ∙ ap (λ (l : List Access). joins c.args.access (runs_in l c.deref-2.result.now c.args.count)) c.deref.ensures.value
    ∙ ap (λ (l : List Start). joins c.args.access (runs_in c.args.cycles.now.items l c.args.count)) c.deref-2.ensures.value

few : (c : After-joined-runs) → c.joined-runs.result ≤ length c.args.starts.now.items
few c =
    omega (
      arith,
      joins_is c,
      joins_few c.args.access (runs_in c.args.cycles.now.items c.args.starts.now.items c.args.count),
      length-runs_of c.args.cycles.now.items c.args.starts.now.items (length c.args.starts.now.items) (length c.args.cycles.now.items) c.args.count,
    )

place_is : (c : After-joined-runs) → place_of c.args.access < 2 ^ 32
place_is c = omega (arith, c.place_of-place.ensures, c.place_of-place.type_inv)

pub overflow_sub-len : goal.overflow_sub-len
overflow_sub-len c = omega (arith, few (goal.at.overflow_sub-len c).After-joined-runs, c.args.starts.now.ok.0)

abbrev start : ℕ → ℕ → Start
start count n = record { access = count; cycle = n }

length_is : (c : After-push_reserved-then-runs-eq0) → c.len.result ≡ length c.args.cycles.now.items
length_is c = omega (arith, c.len.ensures, c.args.cycles.now.ok.0)

new_is : (c : After-push_reserved-then-runs-eq0) → 0 ≡ joins c.args.access (runs_in c.args.cycles.now.items c.args.starts.now.items c.args.count)
    → runs_in c.push_reserved-then-runs-eq0.new.self.items c.push_reserved.new.self.items (c.args.count + 1) ≡ added c.args.access (runs_in c.args.cycles.now.items c.args.starts.now.items c.args.count)
new_is c none =
    let a = c.args.access in
    let runs = runs_in c.args.cycles.now.items c.args.starts.now.items c.args.count in
    ap (λ (l : List Access). runs_in l c.push_reserved.new.self.items (c.args.count + 1)) c.push_reserved-then-runs-eq0.ensures.items
    ∙ ap (λ (l : List Start). runs_in (c.args.cycles.now.items ++ a ∷ []) l (c.args.count + 1)) c.push_reserved.ensures.items
    ∙ new_runs c.args.cycles.now.items c.args.starts.now.items c.args.count a (start c.args.count c.len.result) (ap (start c.args.count) (length_is c)) c.requires.log.sound
    ∙ ap (λ (n : ℕ). lengthened n a runs) none

pub returns-then-runs-eq0-clause-runs : goal.returns-then-runs-eq0-clause-runs
returns-then-runs-eq0-clause-runs c = new_is c (sym c.if-runs-eq0.true ∙ joins_is (goal.at.returns-then-runs-eq0-clause-runs c).After-joined-runs)

pub returns-then-runs-eq0-clause-log : goal.returns-then-runs-eq0-clause-log
returns-then-runs-eq0-clause-log c =
    let a = c.args.access in
    let j = (goal.at.returns-then-runs-eq0-clause-log c).After-joined-runs in
    let sound = new_sound c.args.cycles.now.items c.args.starts.now.items c.args.count a (start c.args.count c.len.result) (ap (start c.args.count) (length_is c)) c.requires.log.sound in
    let first = subst (λ (l : List Start). Sound l (length l) (length (c.args.cycles.now.items ++ a ∷ [])) (c.args.count + 1)) (sym c.push_reserved.ensures.items) sound in
    let both = subst (λ (l : List Access). Sound c.push_reserved.new.self.items (length c.push_reserved.new.self.items) (length l) (c.args.count + 1)) (sym c.push_reserved-then-runs-eq0.ensures.items) first in
    log_by a _ _ _ _ c.args.count c.requires.log (place_is j) both (new_is c (sym c.if-runs-eq0.true ∙ joins_is j))

-- the last runs as one, where their number is one more than n
joined_is : (cycles : List Access) (starts others : List Start) (count j : ℕ) (a : Access) → Sound starts (length starts) (length cycles) count → j ≢ 0 → j ≤ length starts → j ≡ joins a (runs_in cycles starts count)
    → others ≡ take (length starts + 1 - j) starts
    → Sound others (length others) (length cycles) (count + 1) × (runs_in cycles others (count + 1) ≡ added a (runs_in cycles starts count))
joined_is cycles starts others count j a sound some few joins' is =
    let n = j - 1 in
    let i = length starts - j in
    let size : suc n ≡ joins a (runs_in cycles starts count) = omega (arith, joins') in
    let keep : length starts + 1 - j ≡ i + 1 = omega arith in
    let cut : others ≡ take (i + 1) starts = is ∙ ap (λ (m : ℕ). take m starts) keep in (
      subst (λ (l : List Start). Sound l (length l) (length cycles) (count + 1)) (sym cut) (joined_sound cycles starts count i sound (omega arith)),
      ap (λ (l : List Start). runs_in cycles l (count + 1)) cut ∙ joined_runs cycles starts count n i a sound (omega arith) ∙ ap (λ (m : ℕ). lengthened m a (runs_in cycles starts count)) size,
    )

cut_is : (c : After-truncate) → c.joined-runs.result ≤ length c.args.starts.now.items → c.joined-runs.result ≡ joins c.args.access (runs_in c.args.cycles.now.items c.args.starts.now.items c.args.count)
    → Sound c.truncate.new.self.items (length c.truncate.new.self.items) (length c.args.cycles.now.items) (c.args.count + 1)
    × (runs_in c.args.cycles.now.items c.truncate.new.self.items (c.args.count + 1) ≡ added c.args.access (runs_in c.args.cycles.now.items c.args.starts.now.items c.args.count))
cut_is c few is =
    let keep : c.len-else-runs-eq0.result + 1 - c.joined-runs.result ≡ length c.args.starts.now.items + 1 - c.joined-runs.result = omega (arith, c.len-else-runs-eq0.ensures, c.args.starts.now.ok.0) in
    joined_is _ _ _ _ c.joined-runs.result _ c.requires.log.sound c.if-runs-eq0.false few is (c.truncate.ensures.items ∙ ap (λ (m : ℕ). take m c.args.starts.now.items) keep)

pub returns-else-runs-eq0-clause-runs : goal.returns-else-runs-eq0-clause-runs
returns-else-runs-eq0-clause-runs c = let j = (goal.at.returns-else-runs-eq0-clause-runs c).After-joined-runs in (cut_is c (few j) (joins_is j)).1

pub returns-else-runs-eq0-clause-log : goal.returns-else-runs-eq0-clause-log
returns-else-runs-eq0-clause-log c =
    let j = (goal.at.returns-else-runs-eq0-clause-log c).After-joined-runs in
    let cut = cut_is c (few j) (joins_is j) in
    log_by c.args.access _ _ _ _ c.args.count c.requires.log (place_is j) cut.0 cut.1
