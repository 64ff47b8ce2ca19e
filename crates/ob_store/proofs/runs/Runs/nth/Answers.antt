use Rattle.std.proofs.Common.{◌≡◌, ◌<◌, ◌-◌, ◌^◌, List, length, Some, slice_get, slice_range, sym, ◌∙◌, ap, subst, arith}
use Rattle.std.proofs.lemmas.Option.{slice_get-get_or}
use Rattle.ob_base.specs.declared.access.Access.{Access}
use Rattle.ob_base.specs.declared.access.Access.TheVariants.{Make}
use Rattle.ob_store.specs.declared.runs.Start.{Start}
use Rattle.ob_store.specs.Kept.{start_of, place_of, Sound}
use Rattle.ob_store.specs.Logs.{RunsState, access_at, entry, spelt}
use Rattle.ob_store.proofs.KeptLemmas.{Found, found, runs_in, length-spelt, length-range, some_run, starts_at_none}
use Rattle.ob_store.proofs.runs.Runs.nth.Goals as goal
use Rattle.ob_store.proofs.runs.Runs.nth.Goals.{After-as_slice-cycles, After-cycle_end-to, After-part-cycle}

below : (c : After-as_slice-cycles) → c.args.i < c.self.inside.count
below c = omega (arith, c.requires, ap (λ (s : RunsState). length (spelt s.runs)) c.self.view_is, length-spelt c.self.inside.cycles.items _ _ _ _ c.self.invariant.sound)

pub run_at-run-requires-clause-some : goal.run_at-run-requires-clause-some
run_at-run-requires-clause-some c = omega (arith, ap length c.as_slice-starts.ensures.value, some_run _ _ _ _ c.args.i c.self.invariant.sound (below c))

pub run_at-run-requires-clause-first : goal.run_at-run-requires-clause-first
run_at-run-requires-clause-first c =
    omega (arith, ap (λ (l : List Start). (start_of l 0).access) c.as_slice-starts.ensures.value, starts_at_none _ _ _ _ c.self.invariant.sound (some_run _ _ _ _ c.args.i c.self.invariant.sound (below c)))

found_is : (c : After-cycle_end-to) → Found c.self.inside.cycles.items c.as_slice-starts.result.now (length c.as_slice-starts.result.now) (length c.self.inside.cycles.items) c.self.inside.count c.run_at-run.result c.args.i c.cycle_end-to.result
found_is c =
    let same = c.as_slice-starts.ensures.value in
    let b : c.args.i < c.self.inside.count = omega (arith, c.requires, ap (λ (s : RunsState). length (spelt s.runs)) c.self.view_is, length-spelt c.self.inside.cycles.items _ _ _ _ c.self.invariant.sound) in
    let sound = subst (λ (l : List Start). Sound l (length l) (length c.self.inside.cycles.items) c.self.inside.count) (sym same) c.self.invariant.sound in
    found _ _ _ _ _ _ _ _ sound c.run_at-run.ensures.within c.run_at-run.ensures.begins (λ h. b) c.run_at-run.ensures.last (λ h. c.cycle_end-to.ensures.last h ∙ ap length c.as_slice-cycles.ensures.value) c.cycle_end-to.ensures.next

pub part-cycle-requires : goal.part-cycle-requires
part-cycle-requires c = let f = found_is c in (omega (arith, f.some), omega (arith, f.inside, ap length c.as_slice-cycles.ensures.value))

pub entry_of-requires-clause-some : goal.entry_of-requires-clause-some
entry_of-requires-clause-some c =
    let f = found_is (goal.at.entry_of-requires-clause-some c).After-cycle_end-to in
    omega (arith, f.some, f.inside, ap length c.as_slice-cycles.ensures.value, ap length c.part-cycle.ensures, length-range c.as_slice-cycles.result.now (start_of c.as_slice-starts.result.now c.run_at-run.result).cycle c.cycle_end-to.result (omega (arith, f.inside, ap length c.as_slice-cycles.ensures.value)))

-- the access that is found is entry of its run
entry_is : (c : After-part-cycle) → Found c.self.inside.cycles.items c.as_slice-starts.result.now (length c.as_slice-starts.result.now) (length c.self.inside.cycles.items) c.self.inside.count c.run_at-run.result c.args.i c.cycle_end-to.result
    → access_at (spelt (runs_in c.self.inside.cycles.items c.self.inside.starts.items c.self.inside.count)) c.args.i ≡ entry c.part-cycle.result.now (c.args.i - (start_of c.as_slice-starts.result.now c.run_at-run.result).access)
entry_is c f =
    let s = start_of c.as_slice-starts.result.now c.run_at-run.result in
    ap (λ (l : List Start). access_at (spelt (runs_in c.self.inside.cycles.items l c.self.inside.count)) c.args.i) (sym c.as_slice-starts.ensures.value)
    ∙ f.is
    ∙ sym (ap (λ (l : List Access). entry l (c.args.i - s.access)) (c.part-cycle.ensures ∙ ap (λ (l : List Access). slice_range l s.cycle c.cycle_end-to.result) c.as_slice-cycles.ensures.value))

pub entry_of-requires-clause-place : goal.entry_of-requires-clause-place
entry_of-requires-clause-place c =
    let f = found_is (goal.at.entry_of-requires-clause-place c).After-cycle_end-to in
    subst (λ (x : Access). place_of x < 2 ^ 32) (entry_is (goal.at.entry_of-requires-clause-place c).After-part-cycle f) (c.self.invariant.places c.args.i f.below)

pub returns : goal.returns
returns c =
    let f = found_is (goal.at.returns c).After-cycle_end-to in
    let runs = runs_in c.self.inside.cycles.items c.self.inside.starts.items c.self.inside.count in
    ap (λ (s : RunsState). slice_get (spelt s.runs) c.args.i) (sym c.self.view_is)
    ∙ slice_get-get_or (spelt runs) c.args.i (Make 0 0 0) (omega (arith, f.below, length-spelt c.self.inside.cycles.items _ _ _ _ c.self.invariant.sound))
    ∙ ap (λ (x : Access). Some x) (entry_is (goal.at.returns c).After-part-cycle f ∙ sym c.entry_of.ensures)
