use Rattle.std.proofs.Common.{◌-◌, length, arith, sym, ◌∙◌, ap, List}
use Rattle.ob_base.specs.declared.access.Access.{Access}
use Rattle.ob_store.specs.Logs.{is_turn}
use Rattle.ob_store.proofs.KeptLemmas.{begins_at, reach, comes_short, late, round, length-range}
use Rattle.ob_store.proofs.runs.comes_round.Goals as goal

pub returns-then-starts-size : goal.returns-then-starts-size
returns-then-starts-size c = sym (comes_short _ _ _ _ _ _ _ c.if-starts-size.true)

pub overflow_sub-count : goal.overflow_sub-count
overflow_sub-count c =
    let b = begins_at c.args.starts.now (length c.args.starts.now - c.args.size) _ _ _ c.requires.log.sound (omega arith) in
    omega (arith, b.before)

pub overflow_sub-cycles : goal.overflow_sub-cycles
overflow_sub-cycles c = omega (arith, (reach _ _ _ _ c.requires.log.sound).0)

pub is_turn-requires : goal.is_turn-requires
is_turn-requires c =
    omega (arith, ap length c.part-cycle.ensures, length-range c.args.cycles.now (length c.args.cycles.now - c.args.size) (length c.args.cycles.now) (omega arith), (reach _ _ _ _ c.requires.log.sound).0)

pub returns-then-count-first : goal.returns-then-count-first
returns-then-count-first c = sym (late _ _ _ _ _ _ (length c.args.starts.now - c.args.size) _ c.requires.log.sound c.requires.some (omega arith) c.if-count-first.true)

pub returns : goal.returns
returns c =
    c.is_turn.ensures ∙ ap (λ (l : List Access). is_turn l c.args.access) c.part-cycle.ensures
    ∙ sym (round _ _ _ _ _ _ (length c.args.starts.now - c.args.size) _ c.requires.log.sound c.requires.some (omega arith) c.if-count-first.false)
