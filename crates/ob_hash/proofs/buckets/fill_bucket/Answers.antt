use Rattle.std.proofs.Common.{◌≡◌, ◌≤◌, ◌<◌, ◌+◌, ◌*◌, ℕ, Fits, w32, Bool, inl, inr, Option, length, refl, sym, ◌∙◌, ap, subst, arith}
use Rattle.std.proofs.lemmas.Result.{err_from_is_err_and}
use Rattle.ob_base.specs.Schemas.{width}
use Rattle.ob_vault.specs.declared.region.Order.TheVariants.{Any}
use Rattle.ob_vault.specs.Places.{at, RowsFit}
use Rattle.ob_vault.proofs.Runs.{fit_same, fit_trans}
use Rattle.ob_vault.proofs.WordLemmas.{asks_after, honest_before, honest_after}
use Rattle.ob_row.specs.Rows.{Row}
use Rattle.ob_row.specs.Slots.{Slots}
use Rattle.ob_row.specs.Spelling.{Begins}
use Rattle.ob_row.proofs.SpellingLemmas.{slots-same}
use Rattle.ob_blocks.specs.Blocks.{block_at, with_block}
use Rattle.ob_flat.specs.Reworks.{MayRework}
use Rattle.ob_flat.proofs.Rooms.{same_rows}
use Rattle.ob_flat.proofs.WordLemmas.{tampered_in}
use Rattle.ob_hash.specs.Waiting.{waits_after, filled_with}
use Rattle.ob_hash.specs.Hashing.{block_part, layout_of}
use Rattle.ob_hash.proofs.Alike.{holds_alike, any_turn}
use Rattle.ob_hash.proofs.Kept.{keeps_none, keeps_block, keeps_next, keeps_cut, keeps_all}
use Rattle.ob_hash.proofs.Ranges.{blocks_from, shown, shown_none, waits_none, waits_next, shown_next, waits_all, shown_all}
use Rattle.ob_hash.proofs.Sizes.{nearer, result_blocks, result_few, result_place, place_in, product_within, touches}
use Rattle.ob_hash.proofs.buckets.fill_bucket.Goals as goal

-- the first place of a bucket
start_fits : (k depth b y : ℕ) → b < k → y < depth → k * depth ≤ 134217728 → Fits w32 (b * depth)
start_fits k depth b y below inside few = omega (arith, few, place_in k depth b y below inside)

-- all blocks
all_done : {y n : ℕ} → y ≤ n → n ≤ y → y ≡ n
all_done less more = omega arith

pub overflow_mul-place : goal.overflow_mul-place
overflow_mul-place g c = start_fits c.args.hashed.now.k c.args.hashed.now.depth c.args.bucket c.loop-y.y c.requires.bucket c.loop-y-test.true (result_few c.requires.hashed)

pub overflow_add-place : goal.overflow_add-place
overflow_add-place g c =
    let hashed = c.args.hashed.now in
    omega (arith, place_in hashed.k hashed.depth c.args.bucket c.loop-y.y c.requires.bucket c.loop-y-test.true, result_few c.requires.hashed)

pub loop-y-smaller : goal.loop-y-smaller
loop-y-smaller g c = nearer c.loop-y-test.true

pub loop-y-init : goal.loop-y-init
loop-y-init g c =
    let pack = length c.args.block.now in
    let hashed = c.args.hashed.now in
    let first = c.args.bucket * hashed.depth in
    let waits = c.args.waits in
    record {
      keeps = keeps_none (layout_of pack hashed) _ c.requires.asks.ready c.requires.live;
      same = same_rows c.args.block.now;
      row = c.requires.row;
      told = λ honest slots own is begins. (refl, sym (waits_none pack first waits slots), holds_alike pack hashed.flat.now _ _ _ (sym (shown_none pack first waits own slots)) is);
    }

pub rework_block-requires : goal.rework_block-requires
rework_block-requires g c =
    let hashed = c.args.hashed.now in
    let flat = hashed.flat.now in
    let pack = length c.args.block.now in
    let y = c.loop-y.y in
    let place = c.args.bucket * hashed.depth + y in
    let before = c.loop-y.invariant in
    let count = before.same.count in
    let now = at g.R.Revisions.state c.loop-y.vault (g.S.BlockStore.state c.loop-y.store) in
    let asks = asks_after {m = 2} c.requires.asks before.keeps.ran.ok (omega (arith, touches flat.region hashed.depth c.args.bucket y, c.loop-y-test.true)) in
    let may : MayRework pack flat place now = record {
      some = c.requires.hashed.some;
      most = c.requires.hashed.most;
      size = c.requires.hashed.size;
      within = result_place c.requires.hashed c.requires.bucket c.loop-y-test.true;
      order = Any;
      turn = any_turn pack 0 place flat now before.keeps.stays;
    } in
    record {
      spare = record { ready = asks.ready; spare = asks.spare };
      few = omega (arith, asks.few);
      table = subst (λ (n : ℕ). MayRework n flat place now) (sym count) may;
      fit = subst (λ (n : ℕ). RowsFit c.loop-y.block (n * width flat.schema)) (sym count) (fit_same c.args.block.now c.loop-y.block _ before.same c.requires.fit);
      suits = before.row;
    }

pub returns-in_err-rework_block-clause-block : goal.returns-in_err-rework_block-clause-block
returns-in_err-rework_block-clause-block g c = fit_trans _ _ _ c.loop-y.invariant.same c.rework_block.ensures.rows

pub returns-in_err-rework_block-clause-fills : goal.returns-in_err-rework_block-clause-fills
returns-in_err-rework_block-clause-fills g c =
    let p = err_from_is_err_and c.from_residual.result c.from_residual.ensures.1 in
    let hashed = c.args.hashed.now in
    let pack = length c.args.block.now in
    let q = hashed.flat.now.region in
    let y = c.loop-y.y in
    let before = c.loop-y.invariant in
    let reworks = rw before.same.count at c.in_err-rework_block.ensures.reworks in
    let keeps = keeps_block (layout_of pack hashed) (c.args.bucket * hashed.depth + y) _ _ _ _ _ before.keeps.stays reworks in
    rw (p.1, p.2) (record {
      keeps = keeps_cut (block_part q hashed.depth c.args.bucket) hashed.depth y _ c.loop-y-test.true before.keeps keeps;
      never = elim reworks.never [ inl failed ↦ inl failed | inr there ↦ inr (tampered_in (result_place c.requires.hashed c.requires.bucket c.loop-y-test.true) there) ];
      told = λ honest slots own is begins.
          let was = before.told (honest_before reworks.ran.err.lasts honest) slots own is begins in
          reworks.told (honest_after before.keeps.ran.ok honest) _ was.2;
    })

pub loop-y-preserved : goal.loop-y-preserved
loop-y-preserved g c =
    let hashed = c.args.hashed.now in
    let flat = hashed.flat.now in
    let pack = length c.args.block.now in
    let q = flat.region in
    let y = c.loop-y.y in
    let first = c.args.bucket * hashed.depth in
    let place = first + y in
    let waits = c.args.waits in
    let before = c.loop-y.invariant in
    let reworks = rw before.same.count at c.in_ok-rework_block.ensures.reworks in
    let keeps = keeps_block (layout_of pack hashed) place _ _ _ _ _ before.keeps.stays reworks in
    record {
      keeps = keeps_next (block_part q hashed.depth c.args.bucket) y before.keeps keeps;
      same = fit_trans _ _ _ before.same c.rework_block.ensures.rows;
      row = reworks.suits;
      told = λ honest slots own is begins.
          let was = before.told (honest_before reworks.ran.ok.lasts honest) slots own is begins in
          let all = shown pack first y waits own slots in
          let told = reworks.told (honest_after before.keeps.ran.ok honest) all was.2 in
          let fills = told.1 in
          let same_own : fills.own ≡ own = slots-same flat.schema fills.own own _ fills.begins (subst (Begins flat.schema own) (sym was.0) begins) in
          let later = waits_after waits (blocks_from pack first y slots) in
          let made : told.0 ≡ filled_with later own (block_at pack all place) =
          fills.after ∙ ap (λ (b : Bool). filled_with b fills.own (block_at pack all place)) was.1 ∙ ap (λ (o : Option Row). filled_with later o (block_at pack all place)) same_own in
          let inside : place * pack ≤ length slots =
          omega (
            arith,
            is.size,
            ap (λ (n : ℕ). n * pack) (result_blocks c.requires.hashed),
            product_within place (hashed.k * hashed.depth) pack (omega (arith, place_in hashed.k hashed.depth c.args.bucket y c.requires.bucket c.loop-y-test.true)),
          ) in (
            fills.row ∙ was.0,
            fills.waits ∙ ap (λ (b : Bool). waits_after b (block_at pack all place)) was.1 ∙ waits_next pack first y waits own slots inside,
            holds_alike pack flat _ _ _ (ap (λ (l : Slots). with_block pack all place l) made ∙ shown_next pack first y waits own slots inside) told.2,
          );
    }

pub returns-clause-block : goal.returns-clause-block
returns-clause-block g c = c.loop-y.invariant.same

pub returns-clause-fills : goal.returns-clause-fills
returns-clause-fills g c =
    let hashed = c.args.hashed.now in
    let pack = length c.args.block.now in
    let all = c.loop-y.invariant in
    let last : c.loop-y.y ≡ hashed.depth = all_done c.loop-y.auto.y-end c.loop-y-test.false in
    record {
      keeps = keeps_all _ (block_part hashed.flat.now.region hashed.depth c.args.bucket) last all.keeps;
      never = tt;
      told = λ honest slots own is begins.
          let was = all.told honest slots own is begins in (
            was.1 ∙ waits_all pack hashed.depth c.args.bucket c.loop-y.y c.args.waits own slots last,
            holds_alike pack hashed.flat.now _ _ _ (shown_all pack hashed.depth c.args.bucket c.loop-y.y c.args.waits own slots last) was.2,
          );
    }
