use Rattle.ob_exec.proofs.Words.{ap, Engine, engine_behind, false, length, Ok, Public, RanFlight, Some, StoreState, subst, sym, ℕ, ◌∙◌, ◌≡◌}
use Rattle.ob_tables.proofs.GivenUpLemmas.{none_more}
use Rattle.ob_vault.specs.State.{HasNoneFrom}
use Rattle.ob_exec.proofs.flying.run_flight.Goals as goal

-- after a flight that nothing stopped the vault has none of the regions that it made
pub give_up-requires : goal.give_up-requires
give_up-requires g c =
    let old = c.args.engine.now in
    let s = g.S.BlockStore.state c.args.store.now in
    let t = g.S.BlockStore.state c.fly_all.new.store in
    let mid = engine_behind old c.fly_all.new.engine.vault c.fly_all.new.engine.room false in
    let ran = c.in-Ok.ensures.ran.ran in
    let none = none_more g.R.Revisions.state old s mid t c.requires.agrees ran.goes_on.agrees ran.from_closing (ap (λ (p : Public). p.tables) ran.goes_on.public) in
    let from : c.public.result.now.next_region ≡ old.public.next_region = ap (λ (p : Public). p.next_region) c.public.ensures in
    let last = ap (λ (e : Engine g.row.R.Denot). e.vault.revs) c.end_flight.ensures in
    record { forgotten = subst (λ (q : ℕ). HasNoneFrom q (g.R.Revisions.state c.end_flight.new.self.vault.revs)) (sym from) (λ q least. ap (λ r. (g.R.Revisions.state r).live q) last ∙ none q least) }

pub returns-in-Ok : goal.returns-in-Ok
returns-in-Ok g c =
    let frame = c.in-Ok.ensures.frame in
    let same = c.give_up.ensures.same in
    let from : c.public.result.now.next_region ≡ c.args.engine.now.public.next_region = ap (λ (p : Public). p.next_region) c.public.ensures in
    record {
      ran =
          subst (λ (t : StoreState). RanFlight {T = Unit {0}} g.R.Revisions.state g.E.Emit.grew g.E.Emit.cut g.E.FlightOut.closed g.E.FlightOut.parted g.E.Emit.faults (g.T.Turns.word c.args.turns.now)
          (g.T.Turns.word c.fly_all.new.turns) c.args.stmts.now c.fly_all.new.seens (Ok tt) c.args.engine.now (g.S.BlockStore.state c.args.store.now) c.end_flight.new.self t c.args.out.now c.fly_all.new.out)
          (sym same)
          (subst (λ (e : Engine g.row.R.Denot). RanFlight {T = Unit {0}} g.R.Revisions.state g.E.Emit.grew g.E.Emit.cut g.E.FlightOut.closed g.E.FlightOut.parted g.E.Emit.faults (g.T.Turns.word c.args.turns.now)
          (g.T.Turns.word c.fly_all.new.turns) c.args.stmts.now c.fly_all.new.seens (Ok tt) c.args.engine.now (g.S.BlockStore.state c.args.store.now) e (g.S.BlockStore.state c.fly_all.new.store) c.args.out.now c.fly_all.new.out)
          (sym (c.end_flight.ensures ∙ (λ i. record (frame i) { public = record (frame i).public { next_region = c.fly_all.new.engine.vault.next }; ended = false }))) c.in-Ok.ensures.ran);
      given_up = c.give_up.ensures.given_up ∙ (λ i. Some (record { from = from i; asked = length (sym same i).asked }));
    }
