use Rattle.std.proofs.Common.{◌≡◌, ◌+◌, ℕ, refl, sym, ◌∙◌, ap, subst, arith}
use Rattle.std.specs.Prelude.{Err}
use Rattle.ob_vault.specs.Places.{at}
use Rattle.ob_inflight.specs.Kinds.{kind_of, moment, taker_of}
use Rattle.ob_flat.specs.Passes.{SinkCause}
use Rattle.ob_vault.proofs.RowsLemmas.{sizes_trans}
use Rattle.ob_inflight.proofs.Emitting.{sink_as}
use Rattle.ob_inflight.proofs.Turn.{has_flown, may_turn, turned_first}
use Rattle.ob_inflight.proofs.flying.fly.Goals as goal

pub loop-ended-init : goal.loop-ended-init
loop-ended-init g c = record {
  rows = record { count = refl; sizes = λ j. refl };
  kept = record { count = refl; sizes = λ j. refl };
  sink = refl;
  turned = (
    0,
    turned_first (kind_of g.F.Flyer.progress g.F.Flyer.May g.F.Flyer.Needs g.F.Flyer.Fits g.F.Flyer.Holds g.F.Flyer.Halts) (taker_of g.E.Emit.grew g.E.Emit.cut g.E.FlightOut.closed g.E.FlightOut.parted) g.met.E.Emit.starts (g.T.Turns.word c.args.turns.now) c.args.share c.args.rows.now (moment c.args.flyers.now c.args.kept.now (at g.R.Revisions.state c.args.vault.now (g.S.BlockStore.state c.args.store.now))) c.args.out.now c.requires.boarded,
    λ t. ap (g.T.Turns.word c.args.turns.now) (omega arith),
  );
}

-- the word of this turn
word_now : (words now : ℕ → ℕ) (n word : ℕ) → word ≡ now 0 → ((t : ℕ) → now t ≡ words (n + t)) → words n ≡ word
word_now words now n word is rest = let e : n + 0 ≡ n = omega arith in sym (is ∙ rest 0 ∙ ap words e)

words_next : (words old new : ℕ → ℕ) (n : ℕ) → ((t : ℕ) → new t ≡ old (t + 1)) → ((t : ℕ) → old t ≡ words (n + t)) → (t : ℕ) → new t ≡ words (n + 1 + t)
words_next words old new n next rest t = let e : n + (t + 1) ≡ n + 1 + t = omega arith in next t ∙ rest (t + 1) ∙ ap words e

pub loop-ended-preserved : goal.loop-ended-preserved
loop-ended-preserved g c =
    let before = c.loop-ended.invariant in
    let turned = before.turned in
    record {
      rows = sizes_trans c.args.rows.now c.loop-ended.rows c.fly_turn.new.rows before.rows c.in-Ok.ensures.rows;
      kept = sizes_trans c.args.kept.now c.loop-ended.kept c.fly_turn.new.kept before.kept c.in-Ok.ensures.kept;
      sink = c.in-Ok.ensures.sink ∙ before.sink;
      turned = (
        turned.0 + 1,
        c.in-Ok.ensures.turn (g.T.Turns.word c.args.turns.now) turned.0 (moment c.args.flyers.now c.args.kept.now (at g.R.Revisions.state c.args.vault.now (g.S.BlockStore.state c.args.store.now))) c.args.out.now
            (word_now (g.T.Turns.word c.args.turns.now) (g.T.Turns.word c.loop-ended.turns) turned.0 c.next-word.result c.next-word.ensures.value turned.2) turned.1,
        words_next (g.T.Turns.word c.args.turns.now) (g.T.Turns.word c.loop-ended.turns) (g.T.Turns.word c.next-word.new.self) turned.0 c.next-word.ensures.rest turned.2,
      );
    }

pub fly_turn-requires : goal.fly_turn-requires
fly_turn-requires g c =
    let turned = c.loop-ended.invariant.turned in
    may_turn (kind_of g.F.Flyer.progress g.F.Flyer.May g.F.Flyer.Needs g.F.Flyer.Fits g.F.Flyer.Holds g.F.Flyer.Halts) (taker_of g.E.Emit.grew g.E.Emit.cut g.E.FlightOut.closed g.E.FlightOut.parted) (g.T.Turns.word c.args.turns.now) turned.0 c.args.share c.loop-ended.ended c.loop-ended.rows (moment c.args.flyers.now c.args.kept.now (at g.R.Revisions.state c.args.vault.now (g.S.BlockStore.state c.args.store.now))) (moment c.loop-ended.flyers c.loop-ended.kept (at g.R.Revisions.state c.loop-ended.vault (g.S.BlockStore.state c.loop-ended.store))) c.args.out.now c.loop-ended.out turned.1 c.loop-ended-test.true

pub returns-clause-flown : goal.returns-clause-flown
returns-clause-flown g c =
    let turned = c.loop-ended.invariant.turned in
    has_flown (kind_of g.F.Flyer.progress g.F.Flyer.May g.F.Flyer.Needs g.F.Flyer.Fits g.F.Flyer.Holds g.F.Flyer.Halts) (taker_of g.E.Emit.grew g.E.Emit.cut g.E.FlightOut.closed g.E.FlightOut.parted) (g.T.Turns.word c.args.turns.now) (g.T.Turns.word c.loop-ended.turns) turned.0 c.args.share c.loop-ended.ended c.loop-ended.rows (moment c.args.flyers.now c.args.kept.now (at g.R.Revisions.state c.args.vault.now (g.S.BlockStore.state c.args.store.now))) (moment c.loop-ended.flyers c.loop-ended.kept (at g.R.Revisions.state c.loop-ended.vault (g.S.BlockStore.state c.loop-ended.store))) c.args.out.now c.loop-ended.out
    turned.1 c.loop-ended-test.false turned.2

pub returns-in-Err-clause-stopped : goal.returns-in-Err-clause-stopped
returns-in-Err-clause-stopped g c =
    let turned = c.loop-ended.invariant.turned in
    c.in-Err.ensures.turn (g.T.Turns.word c.args.turns.now) turned.0 (moment c.args.flyers.now c.args.kept.now (at g.R.Revisions.state c.args.vault.now (g.S.BlockStore.state c.args.store.now))) c.args.out.now
    (word_now (g.T.Turns.word c.args.turns.now) (g.T.Turns.word c.loop-ended.turns) turned.0 c.next-word.result c.next-word.ensures.value turned.2) turned.1

pub returns-in-Err-clause-rows : goal.returns-in-Err-clause-rows
returns-in-Err-clause-rows g c = sizes_trans c.args.rows.now c.loop-ended.rows c.fly_turn.new.rows c.loop-ended.invariant.rows c.in-Err.ensures.rows

pub returns-in-Err-clause-kept : goal.returns-in-Err-clause-kept
returns-in-Err-clause-kept g c = sizes_trans c.args.kept.now c.loop-ended.kept c.fly_turn.new.kept c.loop-ended.invariant.kept c.in-Err.ensures.kept

pub returns-in-Err-clause-sink : goal.returns-in-Err-clause-sink
returns-in-Err-clause-sink g c = subst (λ (n : ℕ). SinkCause {T = Unit {0}} (Err c.in-Err.e) n (g.E.Emit.faults c.fly_turn.new.out)) c.loop-ended.invariant.sink
    (sink_as ℕ (Unit {0}) c.in-Err.e (g.E.Emit.faults c.loop-ended.out) (g.E.Emit.faults c.fly_turn.new.out) c.in-Err.ensures.sink)

pub returns-clause-rows : goal.returns-clause-rows
returns-clause-rows g c = c.loop-ended.invariant.rows

pub returns-clause-kept : goal.returns-clause-kept
returns-clause-kept g c = c.loop-ended.invariant.kept

pub returns-clause-sink : goal.returns-clause-sink
returns-clause-sink g c = c.loop-ended.invariant.sink
