use Rattle.std.proofs.Common.{◌≡◌, ◌<◌, ◌*◌, ℕ, length, refl, sym, subst, arith}
use Rattle.std.proofs.lemmas.Result.{err_from_is_err_and, MatchResult-weaker}
use Rattle.ob_base.specs.Numbers.{first_bucket, second_bucket}
use Rattle.ob_base.specs.Schemas.{width}
use Rattle.ob_vault.specs.Places.{RowsFit}
use Rattle.ob_vault.proofs.Runs.{fit_same, fit_trans}
use Rattle.ob_vault.proofs.WordLemmas.{asks_fewer, asks_after, honest_before, honest_after}
use Rattle.ob_row.specs.Slots.{slot_at}
use Rattle.ob_flat.specs.declared.fault.OpErr.{OpErr}
use Rattle.ob_flat.specs.declared.fault.OpErr.TheVariants.{Failed}
use Rattle.ob_flat.proofs.WordLemmas.{ran_lasts}
use Rattle.ob_hash.specs.Bucketed.{spread, bucket_after}
use Rattle.ob_hash.specs.Hashing.{layout_of, bucket_script}
use Rattle.ob_hash.proofs.Alike.{second_shown}
use Rattle.ob_hash.proofs.Both.{shown_both}
use Rattle.ob_hash.proofs.Kept.{keeps_more, keeps_after}
use Rattle.ob_hash.proofs.Sizes.{touches}
use Rattle.ob_hash.proofs.buckets.fill_buckets.Goals as goal

pub fill_bucket-requires-clause-asks : goal.fill_bucket-requires-clause-asks
fill_bucket-requires-clause-asks g c = asks_fewer c.requires.asks (omega arith)

pub returns-in_err-still-clause-block : goal.returns-in_err-still-clause-block
returns-in_err-still-clause-block g c = c.fill_bucket.ensures.block

pub returns-in_err-still-clause-fills : goal.returns-in_err-still-clause-fills
returns-in_err-still-clause-fills g c =
    let p = err_from_is_err_and c.from_residual.result c.from_residual.ensures.1 in
    let hashed = c.args.hashed.now in
    let l = layout_of (length c.args.block.now) hashed in
    let fills = rw c.first_bucket-first.ensures.value at c.in_err-still.ensures.fills in
    rw (p.1, p.2) (record {
      keeps = keeps_more (bucket_script l (first_bucket hashed.k c.args.i)) (bucket_script l (second_bucket hashed.k c.args.i)) fills.keeps;
      never = fills.never;
      told = λ honest slots buckets are is begins some. fills.told honest _ (slot_at slots c.args.i) is begins;
    })

pub fill_bucket-requires-2-clause-asks : goal.fill_bucket-requires-2-clause-asks
fill_bucket-requires-2-clause-asks g c =
    let hashed = c.args.hashed.now in
    asks_after c.requires.asks c.in_ok-still.ensures.fills.keeps.ran.ok (omega (arith, touches hashed.flat.now.region hashed.depth c.first_bucket-first.result hashed.depth))

pub fill_bucket-requires-2-clause-fit : goal.fill_bucket-requires-2-clause-fit
fill_bucket-requires-2-clause-fit g c =
    let block = c.fill_bucket.new.block in
    subst (λ (n : ℕ). RowsFit block (n * width c.args.hashed.now.flat.now.schema)) (sym c.fill_bucket.ensures.block.count) (fit_same _ _ _ c.fill_bucket.ensures.block c.requires.fit)

pub fill_bucket-requires-2-clause-hashed : goal.fill_bucket-requires-2-clause-hashed
fill_bucket-requires-2-clause-hashed g c = rw c.fill_bucket.ensures.block.count c.requires.hashed

pub fill_bucket-requires-2-clause-live : goal.fill_bucket-requires-2-clause-live
fill_bucket-requires-2-clause-live g c = rw c.fill_bucket.ensures.block.count c.in_ok-still.ensures.fills.keeps.stays

pub returns-clause-block : goal.returns-clause-block
returns-clause-block g c = fit_trans _ _ _ c.fill_bucket.ensures.block c.fill_bucket-2.ensures.block

pub returns-clause-fills : goal.returns-clause-fills
returns-clause-fills g c =
    let hashed = c.args.hashed.now in
    let i = c.args.i in
    let l = layout_of (length c.args.block.now) hashed in
    let b1 = first_bucket hashed.k i in
    let b2 = second_bucket hashed.k i in
    let one = c.first_bucket-first.ensures in
    let two = c.second_bucket-second.ensures in
    let first = rw one.value at c.in_ok-still.ensures.fills in
    let second = rw (c.fill_bucket.ensures.block.count, two.value) at c.fill_bucket-2.ensures.fills in
    record {
      keeps = keeps_after (bucket_script l b1) (bucket_script l b2) c.fill_bucket-2.result first.keeps second.keeps;
      never = second.never;
      told = λ honest slots buckets are is begins some.
          let own = slot_at slots i in
          let n = l.depth * l.pack in
          let once = first.told (honest_before (ran_lasts c.fill_bucket-2.result second.keeps.ran) honest) (spread n slots buckets) own is begins in
          let twice = second.told (honest_after first.keeps.ran.ok honest) (bucket_after n c.args.waits own (spread n slots buckets) b1) own once.1 begins in
          let within1 : b1 < hashed.k = subst (λ (b : ℕ). b < hashed.k) one.value one.within in
          let within2 : b2 < hashed.k = subst (λ (b : ℕ). b < hashed.k) two.value two.within in
          let both = shown_both hashed.k n i slots own buckets are within1 within2 c.args.waits (λ waits. (refl, some waits)) in
          MatchResult-weaker {Y = OpErr} c.fill_bucket-2.result twice (λ last told. second_shown l i _ slots buckets own c.args.waits c.in_ok-still.still last once.0 both told) (λ (e : OpErr) (failed : e ≡ Failed). failed);
    }
