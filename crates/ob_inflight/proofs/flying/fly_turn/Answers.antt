use Rattle.std.proofs.Common.{length, sym, ◌∙◌, arith}
use Rattle.std.specs.Prelude.{slice_index_or}
use Rattle.std.proofs.lemmas.Option.{slice_get-get_or}
use Rattle.ob_vault.specs.Places.{at}
use Rattle.ob_inflight.specs.Kinds.{kind_of, moment, taker_of}
use Rattle.ob_inflight.proofs.Turning.{Laws}
use Rattle.ob_inflight.proofs.Turn.{ends_less, may_end, may_step, picked_by, steps_less, takes_end, takes_end_stop, takes_step, takes_stop}
use Rattle.ob_inflight.proofs.flying.fly_turn.Goals as goal

pub picked-place-requires-clause-few : goal.picked-place-requires-clause-few
picked-place-requires-clause-few g c = c.requires.stand.several

pub picked-place-requires-clause-some : goal.picked-place-requires-clause-some
picked-place-requires-clause-some g c = omega (arith, c.requires.counts, c.requires.some)

pub bounds-flyers-place : goal.bounds-flyers-place
bounds-flyers-place g c = c.picked-place.ensures.within

pub overflow_add-result : goal.overflow_add-result
overflow_add-result g c = omega (arith, c.requires.counts, c.requires.some, c.requires.stand.several)

pub end_at-requires-clause-may : goal.end_at-requires-clause-may
end_at-requires-clause-may g c =
    let laws : Laws (kind_of g.F.Flyer.progress g.F.Flyer.May g.F.Flyer.Needs g.F.Flyer.Fits g.F.Flyer.Holds g.F.Flyer.Halts) = record { served = g.met.F.Flyer.served; acts = g.met.F.Flyer.acts; frames = g.met.F.Flyer.frames; below = g.met.F.Flyer.below; refits = g.met.F.Flyer.refits } in
    may_end (kind_of g.F.Flyer.progress g.F.Flyer.May g.F.Flyer.Needs g.F.Flyer.Fits g.F.Flyer.Holds g.F.Flyer.Halts) laws c.requires.public c.args.share c.args.rows.now c.requires.ended c.requires.current (moment c.args.flyers.now c.args.kept.now (at g.R.Revisions.state c.args.vault.now (g.S.BlockStore.state c.args.store.now)))
    c.requires.stand c.requires.fit c.picked-place.result (slice_index_or c.args.flyers.now c.picked-place.result c.index-flyers-place.result) (slice_get-get_or c.args.flyers.now c.picked-place.result c.index-flyers-place.result c.picked-place.ensures.within) (picked_by (kind_of g.F.Flyer.progress g.F.Flyer.May g.F.Flyer.Needs g.F.Flyer.Fits g.F.Flyer.Holds g.F.Flyer.Halts) c.args.word c.args.ended (length c.requires.ended) c.picked-place.result c.args.flyers.now c.requires.counts (omega (arith, c.requires.counts, c.requires.some)) c.picked-place.ensures.within c.picked-place.ensures.place).after (sym c.is_over.ensures ∙ c.if-is_over.true)

pub step_at-requires-clause-may : goal.step_at-requires-clause-may
step_at-requires-clause-may g c =
    let laws : Laws (kind_of g.F.Flyer.progress g.F.Flyer.May g.F.Flyer.Needs g.F.Flyer.Fits g.F.Flyer.Holds g.F.Flyer.Halts) = record { served = g.met.F.Flyer.served; acts = g.met.F.Flyer.acts; frames = g.met.F.Flyer.frames; below = g.met.F.Flyer.below; refits = g.met.F.Flyer.refits } in
    may_step (kind_of g.F.Flyer.progress g.F.Flyer.May g.F.Flyer.Needs g.F.Flyer.Fits g.F.Flyer.Holds g.F.Flyer.Halts) laws c.requires.public c.args.share c.args.rows.now c.requires.ended c.requires.current (moment c.args.flyers.now c.args.kept.now (at g.R.Revisions.state c.args.vault.now (g.S.BlockStore.state c.args.store.now)))
    c.requires.stand c.requires.fit c.picked-place.result (slice_index_or c.args.flyers.now c.picked-place.result c.index-flyers-place.result) (slice_get-get_or c.args.flyers.now c.picked-place.result c.index-flyers-place.result c.picked-place.ensures.within) (picked_by (kind_of g.F.Flyer.progress g.F.Flyer.May g.F.Flyer.Needs g.F.Flyer.Fits g.F.Flyer.Holds g.F.Flyer.Halts) c.args.word c.args.ended (length c.requires.ended) c.picked-place.result c.args.flyers.now c.requires.counts (omega (arith, c.requires.counts, c.requires.some)) c.picked-place.ensures.within c.picked-place.ensures.place).after (sym c.is_over.ensures ∙ c.if-is_over.false)

pub returns-in-Ok-clause-turn : goal.returns-in-Ok-clause-turn
returns-in-Ok-clause-turn g c =
    let laws : Laws (kind_of g.F.Flyer.progress g.F.Flyer.May g.F.Flyer.Needs g.F.Flyer.Fits g.F.Flyer.Holds g.F.Flyer.Halts) = record { served = g.met.F.Flyer.served; acts = g.met.F.Flyer.acts; frames = g.met.F.Flyer.frames; below = g.met.F.Flyer.below; refits = g.met.F.Flyer.refits } in
    takes_end (kind_of g.F.Flyer.progress g.F.Flyer.May g.F.Flyer.Needs g.F.Flyer.Fits g.F.Flyer.Holds g.F.Flyer.Halts) (taker_of g.E.Emit.grew g.E.Emit.cut g.E.FlightOut.closed g.E.FlightOut.parted) laws c.args.word c.args.share c.args.ended c.args.rows.now c.args.rows.now (moment c.args.flyers.now c.args.kept.now (at g.R.Revisions.state c.args.vault.now (g.S.BlockStore.state c.args.store.now))) c.args.out.now c.end_at.new.out c.picked-place.result c.picked-place.ensures.place c.picked-place.ensures.within (omega (arith, c.requires.counts, c.requires.some))
    c.end_at.new.flyers (slice_index_or c.args.flyers.now c.picked-place.result c.index-flyers-place.result) (slice_get-get_or c.args.flyers.now c.picked-place.result c.index-flyers-place.result c.picked-place.ensures.within) (sym c.is_over.ensures ∙ c.if-is_over.true) _ g.met.E.Emit.starts c.in-Ok.ensures.ends

pub returns-in-Err-clause-turn : goal.returns-in-Err-clause-turn
returns-in-Err-clause-turn g c =
    let laws : Laws (kind_of g.F.Flyer.progress g.F.Flyer.May g.F.Flyer.Needs g.F.Flyer.Fits g.F.Flyer.Holds g.F.Flyer.Halts) = record { served = g.met.F.Flyer.served; acts = g.met.F.Flyer.acts; frames = g.met.F.Flyer.frames; below = g.met.F.Flyer.below; refits = g.met.F.Flyer.refits } in
    takes_end_stop (kind_of g.F.Flyer.progress g.F.Flyer.May g.F.Flyer.Needs g.F.Flyer.Fits g.F.Flyer.Holds g.F.Flyer.Halts) (taker_of g.E.Emit.grew g.E.Emit.cut g.E.FlightOut.closed g.E.FlightOut.parted) laws c.args.word c.args.share c.args.ended c.args.rows.now c.args.rows.now (moment c.args.flyers.now c.args.kept.now (at g.R.Revisions.state c.args.vault.now (g.S.BlockStore.state c.args.store.now))) c.args.out.now c.end_at.new.out c.picked-place.result c.picked-place.ensures.place c.picked-place.ensures.within (omega (arith, c.requires.counts, c.requires.some))
    c.end_at.new.flyers (slice_index_or c.args.flyers.now c.picked-place.result c.index-flyers-place.result) (slice_get-get_or c.args.flyers.now c.picked-place.result c.index-flyers-place.result c.picked-place.ensures.within) (sym c.is_over.ensures ∙ c.if-is_over.true) _ c.in-Err.ensures.ends

pub returns-in-Ok-step_at-clause-turn : goal.returns-in-Ok-step_at-clause-turn
returns-in-Ok-step_at-clause-turn g c =
    let laws : Laws (kind_of g.F.Flyer.progress g.F.Flyer.May g.F.Flyer.Needs g.F.Flyer.Fits g.F.Flyer.Holds g.F.Flyer.Halts) = record { served = g.met.F.Flyer.served; acts = g.met.F.Flyer.acts; frames = g.met.F.Flyer.frames; below = g.met.F.Flyer.below; refits = g.met.F.Flyer.refits } in
    takes_step (kind_of g.F.Flyer.progress g.F.Flyer.May g.F.Flyer.Needs g.F.Flyer.Fits g.F.Flyer.Holds g.F.Flyer.Halts) (taker_of g.E.Emit.grew g.E.Emit.cut g.E.FlightOut.closed g.E.FlightOut.parted) laws c.args.word c.args.share c.args.ended c.args.rows.now c.step_at.new.rows (moment c.args.flyers.now c.args.kept.now (at g.R.Revisions.state c.args.vault.now (g.S.BlockStore.state c.args.store.now))) c.args.out.now c.step_at.new.out c.picked-place.result c.picked-place.ensures.place c.picked-place.ensures.within (omega (arith, c.requires.counts, c.requires.some))
    (moment c.step_at.new.flyers c.step_at.new.kept (at g.R.Revisions.state c.step_at.new.vault (g.S.BlockStore.state c.step_at.new.store))) c.in-Ok-step_at.ensures.rows _ c.in-Ok-step_at.ensures.kept.count c.in-Ok-step_at.ensures.steps

pub returns-in-Err-step_at-clause-turn : goal.returns-in-Err-step_at-clause-turn
returns-in-Err-step_at-clause-turn g c =
    let laws : Laws (kind_of g.F.Flyer.progress g.F.Flyer.May g.F.Flyer.Needs g.F.Flyer.Fits g.F.Flyer.Holds g.F.Flyer.Halts) = record { served = g.met.F.Flyer.served; acts = g.met.F.Flyer.acts; frames = g.met.F.Flyer.frames; below = g.met.F.Flyer.below; refits = g.met.F.Flyer.refits } in
    takes_stop (kind_of g.F.Flyer.progress g.F.Flyer.May g.F.Flyer.Needs g.F.Flyer.Fits g.F.Flyer.Holds g.F.Flyer.Halts) (taker_of g.E.Emit.grew g.E.Emit.cut g.E.FlightOut.closed g.E.FlightOut.parted) laws c.args.word c.args.share c.args.ended c.args.rows.now c.step_at.new.rows (moment c.args.flyers.now c.args.kept.now (at g.R.Revisions.state c.args.vault.now (g.S.BlockStore.state c.args.store.now))) c.args.out.now c.step_at.new.out c.picked-place.result c.picked-place.ensures.place c.picked-place.ensures.within (omega (arith, c.requires.counts, c.requires.some))
    (moment c.step_at.new.flyers c.step_at.new.kept (at g.R.Revisions.state c.step_at.new.vault (g.S.BlockStore.state c.step_at.new.store))) c.in-Err-step_at.ensures.rows _ c.in-Err-step_at.ensures.steps

pub returns-in-Ok-clause-less : goal.returns-in-Ok-clause-less
returns-in-Ok-clause-less g c =
    ends_less (kind_of g.F.Flyer.progress g.F.Flyer.May g.F.Flyer.Needs g.F.Flyer.Fits g.F.Flyer.Holds g.F.Flyer.Halts) (taker_of g.E.Emit.grew g.E.Emit.cut g.E.FlightOut.closed g.E.FlightOut.parted) c.args.ended c.picked-place.result _ _ c.args.flyers.now c.end_at.new.flyers c.args.out.now c.end_at.new.out (omega (arith, c.requires.counts, c.requires.some)) c.in-Ok.ensures.ends

pub returns-in-Ok-step_at-clause-less : goal.returns-in-Ok-step_at-clause-less
returns-in-Ok-step_at-clause-less g c =
    steps_less (kind_of g.F.Flyer.progress g.F.Flyer.May g.F.Flyer.Needs g.F.Flyer.Fits g.F.Flyer.Holds g.F.Flyer.Halts) (taker_of g.E.Emit.grew g.E.Emit.cut g.E.FlightOut.closed g.E.FlightOut.parted) c.args.share c.args.ended c.picked-place.result _ c.step_at.new.rows (moment c.args.flyers.now c.args.kept.now (at g.R.Revisions.state c.args.vault.now (g.S.BlockStore.state c.args.store.now))) (moment c.step_at.new.flyers c.step_at.new.kept (at g.R.Revisions.state c.step_at.new.vault (g.S.BlockStore.state c.step_at.new.store))) c.args.out.now c.step_at.new.out c.in-Ok-step_at.ensures.steps
