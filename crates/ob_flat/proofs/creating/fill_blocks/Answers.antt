use Rattle.std.proofs.Common.{◌≡◌, ◌==◌, if◌then◌else◌, ℕ, length, refl, sym, ◌∙◌, arith, below_more}
use Rattle.std.proofs.lemmas.Result.{err_from_is_err_and}
use Rattle.ob_base.specs.Accesses.{write_at}
use Rattle.ob_base.specs.Lists.{each}
use Rattle.ob_store.proofs.Steps.{length-each}
use Rattle.ob_vault.specs.Calls.{one}
use Rattle.ob_vault.proofs.Runs.{went_each, cut_each, lives_only, written_only, holds_only, own_lasts, tells_went, may_put, seals_join, seals_none, went_none, next_turn}
use Rattle.ob_vault.proofs.WordLemmas.{asks_after}
use Rattle.ob_flat.proofs.Loops.{below_all, at_end, nearer, no_less, first_place, went_all}
use Rattle.ob_flat.proofs.Tables.{not_last, at_last}
use Rattle.ob_flat.proofs.creating.fill_blocks.Goals as goal

size : (q n : ℕ) → length (each n (write_at q)) ≡ n
size q n = length-each (write_at q) 1 (λ i. refl) n ∙ omega arith

pub loop-u-init : goal.loop-u-init
loop-u-init g c = record {
  went = went_none (one c.args.region) _ c.requires.asks.ready;
  seals = λ good fine. seals_none good _;
  lives = c.requires.lives;
  turn = rw (first_place c.args.shape.blocks) c.requires.turn;
  written = λ p below. absurd (no_less p below);
  told = λ tells p below. absurd (no_less p below);
}

pub put-requires : goal.put-requires
put-requires g c =
    let u = c.loop-u.u in
    let shape = c.args.shape in
    let before = c.loop-u.invariant in
    let asks = asks_after {m = 1} c.requires.asks before.went (omega (arith, size c.args.region u, c.loop-u-test.true)) in
    let here : (if u == shape.blocks then 0 else u) ≡ u = not_last u shape.blocks c.loop-u-test.true in
    let turned = before.turn in
    record {
      ready = asks.ready;
      spare = asks.spare;
      few = omega (arith, asks.few);
      place = may_put _ u shape _ _ (own_lasts _ _ _ before.went.lasts c.args.region c.requires.own) before.lives c.loop-u-test.true c.requires.fit (rw here at turned);
    }

pub returns-in_err-put : goal.returns-in_err-put
returns-in_err-put g c =
    let p = err_from_is_err_and c.from_residual.result c.from_residual.ensures.1 in
    let q = c.args.region in
    let before = c.loop-u.invariant in
    let put = c.in_err-put.ensures.puts in
    rw (p.1, p.2) (record {
      fills = record {
        ok = tt;
        err = cut_each (one q) (write_at q) _ _ _ _ c.args.shape.blocks c.loop-u.u c.loop-u-test.true before.went put.err;
        never = put.never;
        seals = λ good fine. seals_join good _ _ _ before.went.lasts.later (before.seals good fine) (c.put.ensures.puts.seals good c.args.shape before.lives fine);
        filled = tt;
        told = tt;
      };
    })

pub loop-u-preserved : goal.loop-u-preserved
loop-u-preserved g c =
    let before = c.loop-u.invariant in
    let shape = c.args.shape in
    record {
      went = went_each (one c.args.region) (write_at c.args.region) _ _ _ c.loop-u.u before.went c.in_ok-put.ensures.puts.ok;
      seals = λ good fine. seals_join good _ _ _ before.went.lasts.later (before.seals good fine) (c.put.ensures.puts.seals good shape before.lives fine);
      lives = lives_only _ _ _ _ c.put.ensures.puts.only _ _ before.lives;
      turn = next_turn c.args.region c.loop-u.u shape _ (c.put.ensures.puts.turn shape before.lives);
      written = below_more _ _
          (λ p h. written_only _ _ _ _ c.put.ensures.puts.only _ p (λ _ at. absurd (omega (arith, at, h))) (before.written p h))
          c.put.ensures.puts.written;
      told = λ tells. below_more _ _
          (λ p h. holds_only _ _ _ _ c.put.ensures.puts.only _ p _ (λ _ at. absurd (omega (arith, at, h))) (before.told tells p h))
          (c.in_ok-put.ensures.puts.told (tells_went _ _ _ _ before.went tells) shape before.lives);
    }

pub loop-u-smaller : goal.loop-u-smaller
loop-u-smaller g c = nearer c.loop-u.u c.args.shape.blocks c.loop-u-test.true

pub returns : goal.returns
returns g c =
    let all = c.loop-u.invariant in
    let blocks = c.args.shape.blocks in
    let last : c.loop-u.u ≡ blocks = at_end c.loop-u.auto.u-end c.loop-u-test.false refl in
    let turned = all.turn in
    record {
      fills = record {
        ok = went_all (write_at c.args.region) last all.went;
        err = tt;
        never = tt;
        seals = all.seals;
        filled = record {
          lives = all.lives;
          turn = rw (at_last c.loop-u.u blocks last) at turned;
          written = λ p below. all.written p (below_all below (sym last));
        };
        told = λ tells p below. all.told tells p (below_all below (sym last));
      };
    }
