use Rattle.ob_exec.proofs.Words.{Access, ap, arith, Bool, End, ended_at, Err, is_due, length, length-append, List, Ok, Outcome, refl, Result, RunStop, SavesTables, Seen, StoreState, subst, sym, ℕ, ◌&&◌, ◌++◌, ◌-◌, ◌∙◌, ◌≡◌, ◌≤◌}
use Rattle.ob_exec.specs.Commits.{CommitsIfDue}
use Rattle.ob_exec.specs.Ran.{is_whole}
use Rattle.ob_exec.specs.Saving.{MayBeSaved}
use Rattle.ob_exec.proofs.saving.finish.Goals as goal

-- whether tables are due to be saved after a statement that was answered
due_is : (saved now : Bool) (answer : Result Outcome RunStop) (outcome : Outcome) (end : End) → answer ≡ Ok outcome → now ≡ (is_whole end && saved) → is_due saved answer end ≡ now
due_is saved now answer outcome end is now_is = ap (λ (a : Result Outcome RunStop). is_due saved a end) is ∙ sym now_is

-- a list that goes on from another of some length
longer : (n : ℕ) (first more last : List Access) → n ≤ length first → last ≡ first ++ more → n ≤ length last
longer n first more last within is =
    let long = ap length is in
    let parts = length-append first more in
    omega (arith, within, long, parts)

pub returns-in-Err-clause-commits : goal.returns-in-Err-clause-commits
returns-in-Err-clause-commits g c =
    let e = c.args.engine.now in
    let s = g.S.BlockStore.state c.args.store.now in
    let k = g.B.Commit.state c.args.commit.now in
    subst (λ (a : Result Outcome RunStop). CommitsIfDue g.R.Revisions.state (is_due c.args.begun.saved a e.seen.end) c.args.begun a (Err c.in-Err.stop) e s e s k k) (sym c.in-Err.is)
    (record { answer_is = refl; engine_is = refl; store_is = refl; keeper_is = refl })

pub leave_forgotten-requires : goal.leave_forgotten-requires
leave_forgotten-requires g c = record { forgotten = λ is. c.requires.forgotten (c.in-Ok.is ∙ ap (λ (o : Outcome). Ok o) is) }

pub returns-then-not-is_saved_behind-clause-commits : goal.returns-then-not-is_saved_behind-clause-commits
returns-then-not-is_saved_behind-clause-commits g c =
    let e = c.args.engine.now in
    let s = g.S.BlockStore.state c.args.store.now in
    let k = g.B.Commit.state c.args.commit.now in
    let t = g.S.BlockStore.state c.leave_forgotten.new.store in
    let now_is : c.is_saved_behind.result ≡ (is_whole e.seen.end && c.args.begun.saved) = c.is_saved_behind.ensures ∙ ap (λ (x : Seen). is_whole x.end && c.args.begun.saved) c.seen.ensures in
    let due = due_is c.args.begun.saved c.is_saved_behind.result c.args.answer c.in-Ok.outcome e.seen.end c.in-Ok.is now_is ∙ c.if-not-is_saved_behind.true in
    subst (λ (b : Bool). CommitsIfDue g.R.Revisions.state b c.args.begun c.args.answer (Ok c.in-Ok.outcome) e s e t k k) (sym due)
    (record { answer_is = sym c.in-Ok.is; engine_is = refl; store_is = c.leave_forgotten.ensures.same; keeper_is = refl })

pub save-requires : goal.save-requires
save-requires g c =
    let e = c.args.engine.now in
    let now_is : c.is_saved_behind.result ≡ (is_whole e.seen.end && c.args.begun.saved) = c.is_saved_behind.ensures ∙ ap (λ (x : Seen). is_whole x.end && c.args.begun.saved) c.seen.ensures in
    let due = due_is c.args.begun.saved c.is_saved_behind.result c.args.answer c.in-Ok.outcome e.seen.end c.in-Ok.is now_is ∙ c.if-not-is_saved_behind.false in
    record {
      may = subst (λ (t : StoreState). MayBeSaved g.R.Revisions.state c.args.begun.left e t) (sym c.leave_forgotten.ensures.same) (c.requires.may due);
      saves = λ is. c.requires.saves due;
    }

pub returns-in-Ok-save-clause-commits : goal.returns-in-Ok-save-clause-commits
returns-in-Ok-save-clause-commits g c =
    let e = c.args.engine.now in
    let s = g.S.BlockStore.state c.args.store.now in
    let k0 = g.B.Commit.state c.args.commit.now in
    let k1 = g.B.Commit.state c.save.new.self in
    let t = g.S.BlockStore.state c.save.new.store in
    let last = c.save.new.engine in
    let now_is : c.is_saved_behind.result ≡ (is_whole e.seen.end && c.args.begun.saved) = c.is_saved_behind.ensures ∙ ap (λ (x : Seen). is_whole x.end && c.args.begun.saved) c.seen.ensures in
    let due = due_is c.args.begun.saved c.is_saved_behind.result c.args.answer c.in-Ok.outcome e.seen.end c.in-Ok.is now_is ∙ c.if-not-is_saved_behind.false in
    subst (λ (b : Bool). CommitsIfDue g.R.Revisions.state b c.args.begun c.args.answer (Ok c.in-Ok.outcome) e s last t k0 k1) (sym due)
    (record {
      saving = Ok c.in-Ok-save.field-0;
      last = last;
      saves = subst (λ (u : StoreState). SavesTables {T = Unit {0}} g.R.Revisions.state c.args.begun.left (Ok c.in-Ok-save.field-0) e u last t k0 k1) c.leave_forgotten.ensures.same (c.in-Ok-save.ensures.saves (c.requires.wants due));
      ends = (sym c.in-Ok.is, refl);
    })

pub overflow_sub-accesses : goal.overflow_sub-accesses
overflow_sub-accesses g c =
    let e = c.args.engine.now in
    let now_is : c.is_saved_behind.result ≡ (is_whole e.seen.end && c.args.begun.saved) = c.is_saved_behind.ensures ∙ ap (λ (x : Seen). is_whole x.end && c.args.begun.saved) c.seen.ensures in
    let due = due_is c.args.begun.saved c.is_saved_behind.result c.args.answer c.in-Ok.outcome e.seen.end c.in-Ok.is now_is ∙ c.if-not-is_saved_behind.false in
    let began = (c.in-Err-save.ensures.saves (c.requires.wants due)).began in
    let same = ap (λ (t : StoreState). length t.asked) c.leave_forgotten.ensures.same in
    let counted = c.requires.counted in
    let count = c.count.ensures in
    let grown = longer c.args.begun.accesses (g.S.BlockStore.state c.leave_forgotten.new.store).asked began.done (g.S.BlockStore.state c.save.new.store).asked (omega (arith, counted, same)) began.asked in
    omega (arith, grown, count)

pub returns-in-Err-save-clause-commits : goal.returns-in-Err-save-clause-commits
returns-in-Err-save-clause-commits g c =
    let e = c.args.engine.now in
    let s = g.S.BlockStore.state c.args.store.now in
    let k0 = g.B.Commit.state c.args.commit.now in
    let k1 = g.B.Commit.state c.save.new.self in
    let t = g.S.BlockStore.state c.save.new.store in
    let last = c.save.new.engine in
    let now_is : c.is_saved_behind.result ≡ (is_whole e.seen.end && c.args.begun.saved) = c.is_saved_behind.ensures ∙ ap (λ (x : Seen). is_whole x.end && c.args.begun.saved) c.seen.ensures in
    let due = due_is c.args.begun.saved c.is_saved_behind.result c.args.answer c.in-Ok.outcome e.seen.end c.in-Ok.is now_is ∙ c.if-not-is_saved_behind.false in
    subst (λ (b : Bool). CommitsIfDue g.R.Revisions.state b c.args.begun c.args.answer (Err c.in-Err-save.stop) e s c.end_at.new.engine t k0 k1) (sym due)
    (record {
      saving = Err c.in-Err-save.stop;
      last = last;
      saves = subst (λ (u : StoreState). SavesTables {T = Unit {0}} g.R.Revisions.state c.args.begun.left (Err c.in-Err-save.stop) e u last t k0 k1) c.leave_forgotten.ensures.same (c.in-Err-save.ensures.saves (c.requires.wants due));
      ends = (refl, c.end_at.ensures ∙ ap (λ (n : ℕ). ended_at (n - c.args.begun.accesses) last) c.count.ensures);
    })

-- ---- what is given up
pub returns-in-Err-clause-given_up : goal.returns-in-Err-clause-given_up
returns-in-Err-clause-given_up g c = λ undue is. absurd (cc is)

pub returns-then-not-is_saved_behind-clause-given_up : goal.returns-then-not-is_saved_behind-clause-given_up
returns-then-not-is_saved_behind-clause-given_up g c = λ undue is. c.leave_forgotten.ensures.given_up (cc is)

pub returns-in-Ok-save-clause-given_up : goal.returns-in-Ok-save-clause-given_up
returns-in-Ok-save-clause-given_up g c = λ undue is.
    let e = c.args.engine.now in
    let now_is : c.is_saved_behind.result ≡ (is_whole e.seen.end && c.args.begun.saved) = c.is_saved_behind.ensures ∙ ap (λ (x : Seen). is_whole x.end && c.args.begun.saved) c.seen.ensures in
    let due = due_is c.args.begun.saved c.is_saved_behind.result c.args.answer c.in-Ok.outcome e.seen.end c.in-Ok.is now_is ∙ c.if-not-is_saved_behind.false in
    absurd (cc (due, undue))

pub returns-in-Err-save-clause-given_up : goal.returns-in-Err-save-clause-given_up
returns-in-Err-save-clause-given_up g c = λ undue is. absurd (cc is)
