use Rattle.std.proofs.Common.{◌≡◌, inl, inr, ℕ, List, length, take, refl, sym, ◌∙◌, ap, subst, arith}
use Rattle.std.specs.Prelude.{Ok, Err, slice_index_or}
use Rattle.std.proofs.lemmas.Option.{get_or_from_slice_get, slice_get-get_or}
use Rattle.ob_flat.specs.declared.fault.OpErr.{OpErr}
use Rattle.ob_vault.proofs.RowsLemmas.{rows_room}
use Rattle.ob_verdict.specs.declared.outcome.Outcome.{Outcome}
use Rattle.ob_inflight.specs.Answers.{Finishes}
use Rattle.ob_inflight.specs.Kinds.{share_at}
use Rattle.ob_inflight.proofs.Emitting.{sink_behind, sink_error}
use Rattle.ob_inflight.proofs.flying.end_at.Goals as goal

pub overflow_mul-place : goal.overflow_mul-place
overflow_mul-place g c =
    let less = c.requires.within in
    let room = rows_room c.args.place 8 c.args.share (omega (arith, less, c.requires.may.several)) in
    omega (arith, room, c.requires.may.narrow)

pub split_at-requires : goal.split_at-requires
split_at-requires g c =
    let less = c.requires.within in
    omega (arith, rows_room c.args.place (length c.args.flyers.now) c.args.share less, c.requires.may.shares)

pub split_at-requires-2 : goal.split_at-requires-2
split_at-requires-2 g c =
    let less = c.requires.within in
    omega (arith, rows_room c.args.place (length c.args.flyers.now) c.args.share less, c.requires.may.shares, c.split_at.ensures.back_len)

pub finish-requires-clause-over : goal.finish-requires-clause-over
finish-requires-clause-over g c =
    ap (λ f. (g.F.Flyer.progress f).over) (get_or_from_slice_get c.args.flyers.now c.args.place c.requires.may.flyer c.index-flyers-place.result c.requires.may.at) ∙ c.requires.may.over

pub finish-requires-clause-going : goal.finish-requires-clause-going
finish-requires-clause-going g c =
    ap (λ f. (g.F.Flyer.progress f).outcome) (get_or_from_slice_get c.args.flyers.now c.args.place c.requires.may.flyer c.index-flyers-place.result c.requires.may.at) ∙ c.requires.may.going

pub finish-requires-clause-holds : goal.finish-requires-clause-holds
finish-requires-clause-holds g c =
    let same = get_or_from_slice_get c.args.flyers.now c.args.place c.requires.may.flyer c.index-flyers-place.result c.requires.may.at in
    let own = c.split_at-2.ensures.front ∙ ap (take c.args.share) c.split_at.ensures.back in
    record {
      world = c.requires.may.held.world;
      held = record {
        events = c.requires.may.held.held.events;
        holds = subst (λ f. g.F.Flyer.Holds f c.split_at-2.result.0.now c.requires.may.held.held.events c.requires.may.held.world) (sym same)
            (subst (λ (l : List (List ℕ)). g.F.Flyer.Holds c.requires.may.flyer l c.requires.may.held.held.events c.requires.may.held.world) (sym own) c.requires.may.held.held.holds);
      };
    }

pub overflow_cast-place : goal.overflow_cast-place
overflow_cast-place g c =
    let less = c.requires.within in
    omega (arith, less, c.requires.may.several)

pub ended-requires : goal.ended-requires
ended-requires g c = record { few = c.in-Ok.ensures.few }

pub returns-in-Err-clause-ends : goal.returns-in-Err-clause-ends
returns-in-Err-clause-ends g c =
    let less = c.requires.within in
    let before = slice_index_or c.args.flyers.now c.args.place c.index-flyers-place.result in
    let own : c.split_at-2.result.0.now ≡ share_at c.args.share c.args.place c.args.kept.now = c.split_at-2.ensures.front ∙ ap (take c.args.share) c.split_at.ensures.back in
    let finishes = subst (λ (l : List (List ℕ)). Finishes {T = Outcome} g.E.Emit.grew g.E.Emit.cut (g.F.Flyer.Holds before l) (g.F.Flyer.Holds c.finish.new.self l) (g.F.Flyer.Halts before) (Err c.in-Err.e) c.args.out.now c.finish.new.out) own c.in-Err.ensures.finishes in
    record {
      before = slice_index_or c.args.flyers.now c.args.place c.index-flyers-place.result;
      after = c.finish.new.self;
      at = slice_get-get_or c.args.flyers.now c.args.place c.index-flyers-place.result less;
      flyers = refl;
      needs = c.finish.ensures.needs;
      may = c.finish.ensures.may;
      ends = inl (record {
        same = c.in-Err.ensures.ends.err;
        error = c.in-Err.e;
        is = c.op_error.ensures;
        finishes = λ events w holds.
            let part = finishes.err events w holds in
            record {
              part = part.part;
              leads = part.leads;
              quiet = part.quiet;
              halts = subst (λ (e : OpErr). g.F.Flyer.Halts before events part.part e w w) (sym c.op_error.ensures) part.halts;
            };
      });
    }

pub returns-in-Ok-ended-clause-ends : goal.returns-in-Ok-ended-clause-ends
returns-in-Ok-ended-clause-ends g c =
    let less = c.requires.within in
    let before = slice_index_or c.args.flyers.now c.args.place c.index-flyers-place.result in
    let own : c.split_at-2.result.0.now ≡ share_at c.args.share c.args.place c.args.kept.now = c.split_at-2.ensures.front ∙ ap (take c.args.share) c.split_at.ensures.back in
    let finishes = subst (λ (l : List (List ℕ)). Finishes {T = Outcome} g.E.Emit.grew g.E.Emit.cut (g.F.Flyer.Holds before l) (g.F.Flyer.Holds c.finish.new.self l) (g.F.Flyer.Halts before) (Ok c.in-Ok.outcome) c.args.out.now c.finish.new.out) own c.in-Ok.ensures.finishes in
    record {
      before = slice_index_or c.args.flyers.now c.args.place c.index-flyers-place.result;
      after = c.finish.new.self;
      at = slice_get-get_or c.args.flyers.now c.args.place c.index-flyers-place.result less;
      flyers = refl;
      needs = c.finish.ensures.needs;
      may = c.finish.ensures.may;
      ends = record {
        outcome = c.in-Ok.outcome;
        answered = c.in-Ok.ensures.ends.ok;
        between = c.finish.new.out;
        finishes = finishes.ok;
        closes = c.in-Ok-ended.ensures.ok;
      };
    }

pub returns-in-Err-ended-clause-ends : goal.returns-in-Err-ended-clause-ends
returns-in-Err-ended-clause-ends g c =
    let less = c.requires.within in
    let before = slice_index_or c.args.flyers.now c.args.place c.index-flyers-place.result in
    let own : c.split_at-2.result.0.now ≡ share_at c.args.share c.args.place c.args.kept.now = c.split_at-2.ensures.front ∙ ap (take c.args.share) c.split_at.ensures.back in
    let finishes = subst (λ (l : List (List ℕ)). Finishes {T = Outcome} g.E.Emit.grew g.E.Emit.cut (g.F.Flyer.Holds before l) (g.F.Flyer.Holds c.finish.new.self l) (g.F.Flyer.Halts before) (Ok c.in-Ok.outcome) c.args.out.now c.finish.new.out) own c.in-Ok.ensures.finishes in
    record {
      before = slice_index_or c.args.flyers.now c.args.place c.index-flyers-place.result;
      after = c.finish.new.self;
      at = slice_get-get_or c.args.flyers.now c.args.place c.index-flyers-place.result less;
      flyers = refl;
      needs = c.finish.ensures.needs;
      may = c.finish.ensures.may;
      ends = inr (record {
        outcome = c.in-Ok.outcome;
        answered = c.in-Ok.ensures.ends.ok;
        error = c.in-Err-ended.e;
        is = c.op_error-in-Err-ended.ensures;
        between = c.finish.new.out;
        finishes = finishes.ok;
        parted = c.in-Err-ended.ensures.err;
      });
    }

pub returns-in-Err-clause-sink : goal.returns-in-Err-clause-sink
returns-in-Err-clause-sink g c = sink_error Outcome (Unit {0}) c.in-Err.e c.op_error.result (g.E.Emit.faults c.args.out.now) (g.E.Emit.faults c.finish.new.out) c.op_error.ensures c.in-Err.ensures.sink

pub returns-in-Ok-ended-clause-sink : goal.returns-in-Ok-ended-clause-sink
returns-in-Ok-ended-clause-sink g c = c.in-Ok-ended.ensures.cause ∙ c.in-Ok.ensures.sink

pub returns-in-Err-ended-clause-sink : goal.returns-in-Err-ended-clause-sink
returns-in-Err-ended-clause-sink g c =
    sink_behind (Unit {0}) (Unit {0}) c.in-Err-ended.e c.op_error-in-Err-ended.result (g.E.Emit.faults c.args.out.now) (g.E.Emit.faults c.finish.new.out) (g.E.Emit.faults c.ended.new.self)
    c.op_error-in-Err-ended.ensures c.in-Ok.ensures.sink c.in-Err-ended.ensures.cause
