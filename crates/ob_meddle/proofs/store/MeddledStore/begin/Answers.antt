use Rattle.std.proofs.Common.{rules, refl, ◌≡◌, ◌+◌, ◌∙◌, sym, ap, length, true, false, arith}
use Rattle.ob_store.specs.Logs.{asked_of}
use Rattle.ob_meddle.specs.Acts.{RegionRests, rests_of, stands_of, after_acts}
use Rattle.ob_meddle.specs.Due.{fails_at}
use Rattle.ob_meddle.proofs.DueLemmas.{more_asked}
use Rattle.ob_meddle.proofs.StoreLemmas.{fresh_more, counted_more, honest_more, early_more}
use Rattle.ob_meddle.proofs.ShowLemmas.{steady_as}
use Rattle.ob_meddle.proofs.store.MeddledStore.begin.Goals as goal

pub returns-then-not-fails_at-clause-rests : goal.returns-then-not-fails_at-clause-rests
returns-then-not-fails_at-clause-rests c = λ q. ap (λ (r : RegionRests). r q) c.do_acts.ensures.rests

pub returns-then-matches-clause-rests : goal.returns-then-matches-clause-rests
returns-then-matches-clause-rests c = λ q. ap (λ (r : RegionRests). r q) c.do_acts.ensures.rests

pub returns-else-matches-clause-rests : goal.returns-else-matches-clause-rests
returns-else-matches-clause-rests c = λ q. ap (λ (r : RegionRests). r q) c.do_acts.ensures.rests

pub overflow_add-self : goal.overflow_add-self
overflow_add-self c =
    let old = c.args.self.now in
    omega (arith, old.few, c.count-number.ensures, c.count-number.type_inv, ap length c.push.ensures.asked, more_asked (asked_of old.log) c.args.access)

pub overflow_add-self-else-matches : goal.overflow_add-self-else-matches
overflow_add-self-else-matches c =
    let old = c.args.self.now in
    omega (arith, old.few, c.count-number.ensures, c.count-number.type_inv, ap length c.push.ensures.asked, more_asked (asked_of old.log) c.args.access)

pub invariant_of-self : goal.invariant_of-self
invariant_of-self c =
    let old = c.args.self.now in
    let before = asked_of old.log in
    let more = asked_of c.push.new.self in
    let e = c.push.ensures.asked in
    let value : c.fails_at.result ≡ false = grind (arith, c.if-not-fails_at.true) in
    let fails : false ≡ fails_at old.list (length more) = sym value ∙ c.fails_at.ensures ∙ (λ t. fails_at (c.as_slice-2.ensures t) (c.count-number.ensures t)) in
    let stands : stands_of c.do_acts.new.regions ≡ after_acts (rests_of old.regions) old.list (length more) (stands_of old.regions) =
    c.do_acts.ensures.stands ∙ (λ t. after_acts (rests_of old.regions) (c.as_slice.ensures t) (c.count-number.ensures t) (stands_of old.regions)) in
    record {
      fresh = fresh_more old.list before more c.args.access e old.usable;
      few = omega (arith, old.few, ap length e, more_asked before c.args.access);
      counted = λ still. omega (arith, counted_more old.list before more c.args.access e (old.faults + old.slips) false (old.counted still) fails);
      honest = λ still. honest_more old.list before more c.args.access e old.regions c.do_acts.new.regions (old.honest still) c.do_acts.ensures.rests stands;
      early = early_more old.list before more c.args.access e old.caught old.early;
      caused = old.caused;
    }

pub invariant_of-self-then-matches : goal.invariant_of-self-then-matches
invariant_of-self-then-matches c =
    let old = c.args.self.now in
    let before = asked_of old.log in
    let more = asked_of c.push.new.self in
    let e = c.push.ensures.asked in
    let value : c.fails_at.result ≡ true = grind (arith, c.if-not-fails_at.false) in
    let fails : true ≡ fails_at old.list (length more) = sym value ∙ c.fails_at.ensures ∙ (λ t. fails_at (c.as_slice-2.ensures t) (c.count-number.ensures t)) in
    let stands : stands_of c.do_acts.new.regions ≡ after_acts (rests_of old.regions) old.list (length more) (stands_of old.regions) =
    c.do_acts.ensures.stands ∙ (λ t. after_acts (rests_of old.regions) (c.as_slice.ensures t) (c.count-number.ensures t) (stands_of old.regions)) in
    record {
      fresh = fresh_more old.list before more c.args.access e old.usable;
      few = omega (arith, old.few, ap length e, more_asked before c.args.access);
      counted = λ still. omega (arith, counted_more old.list before more c.args.access e (old.faults + old.slips) true (old.counted still) fails);
      honest = λ still. honest_more old.list before more c.args.access e old.regions c.do_acts.new.regions (old.honest still) c.do_acts.ensures.rests stands;
      early = early_more old.list before more c.args.access e old.caught old.early;
      caused = old.caused;
    }

pub invariant_of-self-else-matches : goal.invariant_of-self-else-matches
invariant_of-self-else-matches c =
    let old = c.args.self.now in
    let before = asked_of old.log in
    let more = asked_of c.push.new.self in
    let e = c.push.ensures.asked in
    let value : c.fails_at.result ≡ true = grind (arith, c.if-not-fails_at.false) in
    let fails : true ≡ fails_at old.list (length more) = sym value ∙ c.fails_at.ensures ∙ (λ t. fails_at (c.as_slice-2.ensures t) (c.count-number.ensures t)) in
    let stands : stands_of c.do_acts.new.regions ≡ after_acts (rests_of old.regions) old.list (length more) (stands_of old.regions) =
    c.do_acts.ensures.stands ∙ (λ t. after_acts (rests_of old.regions) (c.as_slice.ensures t) (c.count-number.ensures t) (stands_of old.regions)) in
    record {
      fresh = fresh_more old.list before more c.args.access e old.usable;
      few = omega (arith, old.few, ap length e, more_asked before c.args.access);
      counted = λ still. omega (arith, counted_more old.list before more c.args.access e (old.faults + old.slips) true (old.counted still) fails);
      honest = λ still. honest_more old.list before more c.args.access e old.regions c.do_acts.new.regions (old.honest still) c.do_acts.ensures.rests stands;
      early = early_more old.list before more c.args.access e old.caught old.early;
      caused = old.caused;
    }

pub returns-then-not-fails_at-clause-steady : goal.returns-then-not-fails_at-clause-steady
returns-then-not-fails_at-clause-steady c = let old = c.args.self.now in steady_as old.reopened _ old.list old.caught refl (search rules) refl (search rules) (search rules)

pub returns-then-matches-clause-steady : goal.returns-then-matches-clause-steady
returns-then-matches-clause-steady c = let old = c.args.self.now in steady_as old.reopened _ old.list old.caught refl (search rules) refl (search rules) (search rules)

pub returns-else-matches-clause-steady : goal.returns-else-matches-clause-steady
returns-else-matches-clause-steady c = let old = c.args.self.now in steady_as old.reopened _ old.list old.caught refl (search rules) refl (search rules) (search rules)
