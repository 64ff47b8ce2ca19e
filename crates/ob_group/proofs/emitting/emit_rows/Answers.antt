use Rattle.std.proofs.Common.{◌<◌, ◌+◌, [], ◌∷◌, ◌++◌, List, length, take, slice_index_or, ◌∙◌, ap, subst, arith}
use Rattle.std.proofs.lemmas.List.{take_all}
use Rattle.ob_base.specs.declared.shown.Shown.{Shown}
use Rattle.ob_base.specs.Events.{row_events}
use Rattle.ob_base.proofs.EventLemmas.{emitted_join, halted_join, events_more}
use Rattle.ob_vault.proofs.RowsLemmas.{same_at}
use Rattle.ob_group.specs.Grouping.{group_shown, groups_shown}
use Rattle.ob_group.specs.Held.{HoldsGroup, no_group}
use Rattle.ob_group.proofs.Rows.{shown_more, shown_rest}
use Rattle.ob_group.proofs.emitting.emit_rows.Goals as goal

pub emit_group-requires-clause-held : goal.emit_group-requires-clause-held
emit_group-requires-clause-held g c =
    let i = c.loop-i.i in
    let inside : i < length c.args.groups.now = omega (arith, c.requires.most, c.loop-i-test.true) in
    let row = same_at c.args.groups.now i c.index-groups-i.result inside c.index-groups-i.is in
    let one = slice_index_or c.requires.held.groups i no_group in
    record { group = one; is = subst (HoldsGroup c.args.kind 2147483648 (length c.args.items.now) one) row (c.requires.held.are.each c.requires.most i c.loop-i-test.true) }

pub returns-in-Err : goal.returns-in-Err
returns-in-Err g c =
    let i = c.loop-i.i in
    let items = c.args.items.now in
    let inside : i < length c.args.groups.now = omega (arith, c.requires.most, c.loop-i-test.true) in
    let row = same_at c.args.groups.now i c.index-groups-i.result inside c.index-groups-i.is in
    let group = c.in-Err.ensures.emits in
    record {
      emitted = tt;
      halted = halted_join g.E.Emit.grew g.E.Emit.cut [] (λ s. groups_shown items (take i s.groups)) (λ s. row_events (group_shown items s.group ∷ [])) (λ s. row_events (groups_shown items s.groups)) 0 i _ _ _
          c.loop-i.invariant.emitted group.halted
          (λ s.
          let gs = s.groups in
          let below : i < length gs = omega (arith, s.are.all c.requires.most, c.loop-i-test.true) in
          let one = slice_index_or gs i no_group in
          let rest = shown_rest items gs (i + 1) in (
            s,
            record { group = one; is = subst (HoldsGroup c.args.kind 2147483648 (length items) one) row (s.are.each c.requires.most i c.loop-i-test.true) },
            row_events rest.0,
            events_more (groups_shown items (take i gs)) (group_shown items one ∷ []) rest.0 (groups_shown items gs) (ap (λ (l : List (List Shown)). l ++ rest.0) (shown_more items gs i below) ∙ rest.1),
          ));
      cause = rw (← c.loop-i.invariant.faults) group.cause;
    }

pub loop-i-preserved : goal.loop-i-preserved
loop-i-preserved g c =
    let i = c.loop-i.i in
    let items = c.args.items.now in
    let inside : i < length c.args.groups.now = omega (arith, c.requires.most, c.loop-i-test.true) in
    let row = same_at c.args.groups.now i c.index-groups-i.result inside c.index-groups-i.is in
    let group = c.in-Ok.ensures.emits in
    record {
      emitted = emitted_join g.E.Emit.grew [] (λ s. groups_shown items (take i s.groups)) (λ s. group_shown items s.group ∷ []) (λ s. groups_shown items (take (i + 1) s.groups)) 0 i 0 1 (i + 1) _ _ _
          c.loop-i.invariant.emitted group.emitted (omega arith)
          (λ s.
          let gs = s.groups in
          let below : i < length gs = omega (arith, s.are.all c.requires.most, c.loop-i-test.true) in
          let one = slice_index_or gs i no_group in
          (s, record { group = one; is = subst (HoldsGroup c.args.kind 2147483648 (length items) one) row (s.are.each c.requires.most i c.loop-i-test.true) }, shown_more items gs i below));
      size = c.emit_group.ensures.size ∙ c.loop-i.invariant.size;
      faults = group.cause ∙ c.loop-i.invariant.faults;
    }

pub returns : goal.returns
returns g c =
    let e = c.loop-i.invariant.emitted in
    record {
      emitted = record {
        rows = e.rows;
        count = omega (arith, e.count, c.loop-i-test.false);
        leads = e.leads;
        told = λ s. e.told s ∙ ap (groups_shown c.args.items.now) (take_all c.loop-i.i s.groups (omega (arith, s.are.all c.requires.most, c.loop-i-test.false)));
      };
      halted = tt;
      cause = c.loop-i.invariant.faults;
    }
