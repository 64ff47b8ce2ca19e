use Rattle.std.proofs.Common.{◌≡◌, ◌<◌, ◌*◌, ℕ, Bool, List, Result, inl, inr, length, refl, sym, ◌∙◌, subst, arith}
use Rattle.ob_base.specs.Accesses.{read_at}
use Rattle.ob_base.specs.Schemas.{kind_width, width}
use Rattle.ob_order.specs.Buckets.{BucketsState}
use Rattle.ob_row.specs.declared.aggregate.Item.{Item}
use Rattle.ob_row.specs.Rows.{Row}
use Rattle.ob_row.specs.Spelling.{kind_at}
use Rattle.ob_row.specs.Truth.{is_true}
use Rattle.ob_vault.specs.Calls.{none}
use Rattle.ob_vault.specs.Places.{RowsFit, at}
use Rattle.ob_vault.specs.State.{World}
use Rattle.ob_vault.proofs.Runs.{went_none, went_each, fit_same, fit_trans, seals_none}
use Rattle.ob_flat.specs.declared.fault.OpErr.{OpErr}
use Rattle.ob_flat.specs.declared.flat.Flat.{Flat}
use Rattle.ob_flat.specs.Scans.{MayScan}
use Rattle.ob_flat.specs.Words.{IsTable, blocks_of}
use Rattle.ob_flat.proofs.Loops.{below_all, at_end, spare_more, went_all}
use Rattle.ob_flat.proofs.Rooms.{same_rows}
use Rattle.ob_flat.proofs.Runs.{pass_each}
use Rattle.ob_flat.proofs.Tables.{reads, fits_sized, written_flat, flat_lasts, represents_lasts}
use Rattle.ob_flat.proofs.WordLemmas.{sealed_after, tampered_in}
use Rattle.ob_group.specs.Held.{MayGrow}
use Rattle.ob_group.specs.Steps.{GathersAt}
use Rattle.ob_group.proofs.Gathering.{gathered_none, gathered_may, gathered_next, gathered_are, gathered_all}
use Rattle.ob_group.proofs.reading.group_blocks.Goals as goal

may_scan : (pack : ℕ) (flat : Flat) (w : World) → IsTable pack flat w → MayScan pack flat w
may_scan pack flat w is = record { some = is.some; most = is.most; size = fits_sized pack flat.schema flat.capacity is.some is.size; written = written_flat pack flat w is.written }

-- of as many rows
gathers_as : {flat : Flat} {p : Row → Bool} {key : ℕ} {items : List Item} {place seen : ℕ} {result : Result ℕ OpErr} {a b : List (List ℕ)} {buckets : BucketsState} {old new : World} (n m : ℕ)
    → n ≡ m → GathersAt n flat p key items place seen result a b buckets old new → GathersAt m flat p key items place seen result a b buckets old new
gathers_as {flat} {p} {key} {items} {place} {seen} {result} {a} {b} {buckets} {old} {new} n m same is = subst (λ (k : ℕ). GathersAt k flat p key items place seen result a b buckets old new) same is

pub loop-u-init : goal.loop-u-init
loop-u-init g c =
    let groups = c.args.groups.now in
    let kind = kind_at c.args.flat.now.schema c.args.key in
    record {
      went = went_none none _ c.requires.spare.ready;
      seals = record { seals = λ good. seals_none good _ };
      same = same_rows c.args.rows.now;
      kept = same_rows groups;
      most = refl;
      held = gathered_none (length c.args.rows.now) c.args.flat.now (is_true c.args.pred.now) c.args.key c.args.items.now groups c.clear.new.self _ (may_scan _ _ _ c.requires.table) c.requires.places (omega (arith, c.clear.ensures.most, c.requires.most))
          (c.clear.ensures.empty 0 (kind_width kind) groups);
    }

pub group_block-requires-clause-spare : goal.group_block-requires-clause-spare
group_block-requires-clause-spare g c = record {
  ready = c.loop-u.invariant.went.lasts.ready;
  spare = spare_more c.requires.spare.spare c.loop-u.invariant.went.spare (reads c.args.flat.now.region c.loop-u.u) (below_all c.loop-u-test.true c.div_ceil-blocks.ensures);
}

pub group_block-requires-clause-table : goal.group_block-requires-clause-table
group_block-requires-clause-table g c =
    let before = c.loop-u.invariant in
    let flat = c.args.flat.now in
    let now = at g.R.Revisions.state c.loop-u.vault (g.S.BlockStore.state c.loop-u.store) in
    subst (λ (n : ℕ). MayScan n flat now) (sym before.same.count) before.held.table

pub group_block-requires-clause-within : goal.group_block-requires-clause-within
group_block-requires-clause-within g c =
    subst (λ (n : ℕ). c.loop-u.u < blocks_of n c.args.flat.now) (sym c.loop-u.invariant.same.count) (below_all c.loop-u-test.true c.div_ceil-blocks.ensures)

pub group_block-requires-clause-fit : goal.group_block-requires-clause-fit
group_block-requires-clause-fit g c =
    let same = c.loop-u.invariant.same in
    subst (λ (n : ℕ). RowsFit c.loop-u.rows (n * width c.args.flat.now.schema)) (sym same.count) (fit_same _ _ _ same c.requires.fit)

pub group_block-requires-clause-items : goal.group_block-requires-clause-items
group_block-requires-clause-items g c = c.requires.items

pub group_block-requires-clause-places : goal.group_block-requires-clause-places
group_block-requires-clause-places g c = c.loop-u.invariant.held.places

pub group_block-requires-clause-held : goal.group_block-requires-clause-held
group_block-requires-clause-held g c =
    let before = c.loop-u.invariant in
    let pack = length c.args.rows.now in
    let flat = c.args.flat.now in
    let now = at g.R.Revisions.state c.loop-u.vault (g.S.BlockStore.state c.loop-u.store) in
    subst (λ (n : ℕ). MayGrow (kind_at flat.schema c.args.key) (length c.args.items.now) c.loop-u.n n c.loop-u.groups) (sym before.same.count)
    (gathered_may pack flat (is_true c.args.pred.now) c.args.key c.args.items.now c.loop-u.u c.loop-u.n c.loop-u.groups c.loop-u.buckets now before.held (below_all c.loop-u-test.true c.div_ceil-blocks.ensures))

pub group_block-requires-clause-kept : goal.group_block-requires-clause-kept
group_block-requires-clause-kept g c = c.loop-u.invariant.held.kept

pub group_block-requires-clause-most : goal.group_block-requires-clause-most
group_block-requires-clause-most g c = c.loop-u.invariant.held.most

pub returns-in-Err-clause-most : goal.returns-in-Err-clause-most
returns-in-Err-clause-most g c = c.group_block.ensures.most ∙ c.loop-u.invariant.most ∙ c.clear.ensures.most

pub returns-in-Err-clause-rows : goal.returns-in-Err-clause-rows
returns-in-Err-clause-rows g c = fit_trans _ _ _ c.loop-u.invariant.same c.group_block.ensures.rows

pub returns-in-Err-clause-groups : goal.returns-in-Err-clause-groups
returns-in-Err-clause-groups g c = fit_trans _ _ _ c.loop-u.invariant.kept c.group_block.ensures.gathers.size

pub returns-in-Err-clause-gathers : goal.returns-in-Err-clause-gathers
returns-in-Err-clause-gathers g c =
    let pack = length c.args.rows.now in
    let flat = c.args.flat.now in
    let u = c.loop-u.u in
    let below : u < blocks_of pack flat = below_all c.loop-u-test.true c.div_ceil-blocks.ensures in
    let before = c.loop-u.invariant in
    let block = gathers_as (length c.loop-u.rows) pack before.same.count c.in-Err.ensures.gathers in
    let ended = pass_each none (read_at flat.region) _ _ _ _ (blocks_of pack flat) u below before.went block.ran.err in
    record {
      ran = record { ok = tt; err = ended };
      never = elim block.never [ inl failed ↦ inl failed | inr there ↦ inr (tampered_in below there) ];
      seals = sealed_after before.went.lasts before.seals block.seals.seals;
      source = flat_lasts pack flat none _ _ ended.lasts (λ s. s) c.requires.table.written;
      held = tt;
      told = λ slots is nolie. block.told slots (represents_lasts pack flat none _ _ before.went.lasts (λ s. s) slots is) nolie;
    }

pub loop-u-preserved : goal.loop-u-preserved
loop-u-preserved g c =
    let pack = length c.args.rows.now in
    let flat = c.args.flat.now in
    let u = c.loop-u.u in
    let below : u < blocks_of pack flat = below_all c.loop-u-test.true c.div_ceil-blocks.ensures in
    let before = c.loop-u.invariant in
    let now = at g.R.Revisions.state c.loop-u.vault (g.S.BlockStore.state c.loop-u.store) in
    let block = gathers_as (length c.loop-u.rows) pack before.same.count c.in-Ok.ensures.gathers in
    record {
      went = went_each none (read_at flat.region) _ _ _ u before.went block.ran.ok;
      seals = sealed_after before.went.lasts before.seals block.seals.seals;
      same = fit_trans _ _ _ before.same c.group_block.ensures.rows;
      kept = fit_trans _ _ _ before.kept block.size;
      most = c.group_block.ensures.most ∙ before.most;
      held = gathered_next pack flat (is_true c.args.pred.now) c.args.key c.args.items.now u c.loop-u.n c.in-Ok.more c.loop-u.groups c.group_block.new.groups c.loop-u.buckets c.group_block.new.buckets now _ below c.group_block.ensures.most block before.held;
    }

pub returns-clause-most : goal.returns-clause-most
returns-clause-most g c = c.loop-u.invariant.most ∙ c.clear.ensures.most

pub returns-clause-gathers : goal.returns-clause-gathers
returns-clause-gathers g c =
    let pack = length c.args.rows.now in
    let flat = c.args.flat.now in
    let p = is_true c.args.pred.now in
    let u = c.loop-u.u in
    let last : u ≡ blocks_of pack flat = at_end c.loop-u.auto.u-end c.loop-u-test.false c.div_ceil-blocks.ensures in
    let all = c.loop-u.invariant in
    let now = at g.R.Revisions.state c.loop-u.vault (g.S.BlockStore.state c.loop-u.store) in
    record {
      ran = record { ok = went_all (read_at flat.region) last all.went; err = tt };
      never = tt;
      seals = all.seals;
      source = flat_lasts pack flat none _ _ all.went.lasts (λ s. s) c.requires.table.written;
      held = record {
        seen = all.held.seen;
        are = gathered_are pack flat p c.args.key c.args.items.now u c.loop-u.n c.loop-u.groups c.loop-u.buckets now last all.held;
        told = λ slots is nolie.
            gathered_all pack flat p c.args.key c.args.items.now u c.loop-u.n c.loop-u.groups c.loop-u.buckets now last all.held slots
            (represents_lasts pack flat none _ _ all.went.lasts (λ s. s) slots is) nolie;
      };
      told = λ slots is nolie. tt;
    }
