use Rattle.std.proofs.Common.{◌≡◌, ◌==◌, if◌then◌else◌, ℕ, length, refl, ◌∙◌, arith, below_more}
use Rattle.ob_base.specs.Accesses.{write_at}
use Rattle.ob_base.specs.Lists.{each}
use Rattle.ob_base.specs.Schemas.{width}
use Rattle.ob_store.proofs.Steps.{length-each}
use Rattle.ob_vault.specs.declared.region.Order.TheVariants.{Round}
use Rattle.ob_vault.specs.Calls.{one}
use Rattle.ob_vault.proofs.Runs.{went_spent, went_each, lives_only, written_only, fit_same, fit_trans, may_put, next_turn, own_lasts}
use Rattle.ob_flat.specs.Flats.{table_region}
use Rattle.ob_flat.proofs.Rows.{wide_fit, wide_same}
use Rattle.ob_flat.proofs.Tables.{index_fits, not_last}
use Rattle.ob_pass_bench.proofs.filling.fill_table.Goals as goal

size : (q n : ℕ) → length (each n (write_at q)) ≡ n
size q n = length-each (write_at q) 1 (λ i. refl) n ∙ omega arith

pub overflow_mul-u : goal.overflow_mul-u
overflow_mul-u g c = omega (arith, index_fits (length c.args.rows.now) c.args.flat.now.capacity c.loop-u.u c.requires.pack.0 c.requires.pack.1 c.requires.size.most (omega arith))

pub fill_rows-requires-clause-wide : goal.fill_rows-requires-clause-wide
fill_rows-requires-clause-wide g c = wide_same _ _ _ c.loop-u.invariant.sizes (wide_fit (width c.args.flat.now.schema) c.args.rows.now c.requires.fit)

pub fill_rows-requires-clause-index : goal.fill_rows-requires-clause-index
fill_rows-requires-clause-index g c =
    omega (arith, c.loop-u.invariant.sizes.count, index_fits (length c.args.rows.now) c.args.flat.now.capacity c.loop-u.u c.requires.pack.0 c.requires.pack.1 c.requires.size.most (omega arith))

pub put-requires-clause-spare : goal.put-requires-clause-spare
put-requires-clause-spare g c = omega (arith, c.requires.asks.spare, c.loop-u.invariant.went.spare, size c.args.flat.now.region c.loop-u.u)

pub put-requires-clause-few : goal.put-requires-clause-few
put-requires-clause-few g c = omega (arith, c.requires.asks.few, went_spent _ _ _ _ c.loop-u.invariant.went, size c.args.flat.now.region c.loop-u.u)

pub put-requires-clause-place : goal.put-requires-clause-place
put-requires-clause-place g c =
    let u = c.loop-u.u in
    let shape = table_region Round (length c.args.rows.now) c.args.flat.now.schema c.args.flat.now.capacity in
    let here : (if u == shape.blocks then 0 else u) ≡ u = not_last u shape.blocks (omega arith) in
    let turned = c.loop-u.invariant.turn in
    let same = fit_trans _ _ _ c.loop-u.invariant.sizes c.fill_rows.ensures in
    may_put _ u shape _ _ (own_lasts _ _ _ c.loop-u.invariant.went.lasts c.args.flat.now.region c.requires.own) c.loop-u.invariant.lives (omega arith) (fit_same _ _ _ same c.requires.fit) (rw here at turned)

pub loop-u-preserved : goal.loop-u-preserved
loop-u-preserved g c =
    let before = c.loop-u.invariant in
    let q = c.args.flat.now.region in
    let shape = table_region Round (length c.args.rows.now) c.args.flat.now.schema c.args.flat.now.capacity in
    record {
      sizes = fit_trans _ _ _ before.sizes c.fill_rows.ensures;
      went = went_each (one q) (write_at q) _ _ _ c.loop-u.u before.went c.in_ok-put.ensures.puts.ok;
      lives = lives_only _ _ _ _ c.put.ensures.puts.only _ _ before.lives;
      turn = next_turn q c.loop-u.u shape _ (c.put.ensures.puts.turn shape before.lives);
      written = below_more _ _
          (λ p h. written_only _ _ _ _ c.put.ensures.puts.only _ p (λ _ at. absurd (omega (arith, at, h))) (before.written p h))
          c.put.ensures.puts.written;
    }
