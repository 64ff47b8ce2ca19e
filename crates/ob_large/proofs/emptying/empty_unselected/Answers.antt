use Rattle.std.proofs.Common.{◌≡◌, ◌<◌, ◌*◌, if◌then◌else◌, ℕ, Bool, true, false, inl, inr, length, map, refl, sym, ◌∙◌, ap, subst, arith}
use Rattle.std.proofs.lemmas.List.{length-map}
use Rattle.std.proofs.lemmas.Result.{err_from_is_err_and}
use Rattle.ob_base.specs.Schemas.{width}
use Rattle.ob_script.specs.Parts.{copy_at}
use Rattle.ob_vault.specs.Calls.{one}
use Rattle.ob_vault.specs.Places.{at, RowsFit}
use Rattle.ob_vault.proofs.Runs.{tells_went, went_each, went_none, fit_same, fit_trans, seals_none}
use Rattle.ob_blocks.specs.Blocks.{with_block, up_to}
use Rattle.ob_blocks.proofs.Changes.{map_at-map, map_at-up_to, all-map_at}
use Rattle.ob_row.specs.Slots.{Slots, kept}
use Rattle.ob_row.specs.Truth.{is_true}
use Rattle.std.specs.List.{All}
use Rattle.ob_flat.specs.Slots.{FitsSlot}
use Rattle.ob_large.specs.Keeping.{kept_fits}
use Rattle.ob_flat.specs.Flats.{IsInTurn, HoldsSlots, whole_blocks}
use Rattle.ob_flat.specs.Words.{blocks_of}
use Rattle.ob_flat.specs.Reworks.{MayRework}
use Rattle.ob_flat.proofs.Runs.{pass_each}
use Rattle.ob_flat.proofs.Tables.{not_last, at_last, copies, fits_sized, holds_whole, represents_whole, whole_size}
use Rattle.ob_vault.proofs.WordLemmas.{asks_after, honest_before, honest_after}
use Rattle.ob_flat.proofs.WordLemmas.{seals_any, seals_after, tampered_in}
use Rattle.ob_large.proofs.Halfway.{half, half-none, half-block, half-next, half-all}
use Rattle.ob_large.proofs.emptying.empty_unselected.Goals as goal

either : (b : Bool) (x : ℕ) → (if b then x else x) ≡ x
either true x = refl
either false x = refl

pub loop-u-init : goal.loop-u-init
loop-u-init g c =
    let pack = length c.args.rows.now in
    let flat = c.args.flat.now in
    let old = at g.R.Revisions.state c.args.vault.now (g.S.BlockStore.state c.args.store.now) in
    let is = c.requires.table.written in
    record {
      went = went_none _ _ c.requires.asks.ready;
      seals = seals_any (λ good. seals_none good _);
      order = is.made.order;
      turn = subst (λ (n : ℕ). IsInTurn is.made.order pack flat n old) (sym (either _ 0)) (record { own = c.requires.own; lives = is.made.lives; turn = is.made.turn; written = is.written });
      same = record { count = refl; sizes = λ j. refl };
      holds = λ tells is. is;
      told = λ honest slots here.
          subst (λ (l : Slots). HoldsSlots pack flat l old) (sym (half-none (kept (is_true c.args.pred.now)) pack (whole_blocks pack flat.capacity slots))) (holds_whole pack flat slots old c.requires.table.some here);
    }

pub rework_block-requires : goal.rework_block-requires
rework_block-requires g c =
    let flat = c.args.flat.now in
    let q = flat.region in
    let u = c.loop-u.u in
    let pack = length c.args.rows.now in
    let before = c.loop-u.invariant in
    let now = at g.R.Revisions.state c.loop-u.vault (g.S.BlockStore.state c.loop-u.store) in
    let below : u < blocks_of pack flat = omega (arith, c.div_ceil-blocks.ensures) in
    let asks = asks_after {m = 2} c.requires.asks before.went (omega (arith, copies q q u, below)) in
    let here = subst (λ (n : ℕ). IsInTurn before.order pack flat n now) (not_last u (blocks_of pack flat) below) before.turn in
    let count = before.same.count in
    let may : MayRework pack flat u now = record {
      some = c.requires.table.some;
      most = c.requires.table.most;
      size = fits_sized pack flat.schema flat.capacity c.requires.table.some c.requires.table.size;
      within = below;
      order = before.order;
      turn = here;
    } in
    record {
      spare = record { ready = asks.ready; spare = asks.spare };
      few = omega (arith, asks.few);
      table = subst (λ (n : ℕ). MayRework n flat u now) (sym count) may;
      fit = subst (λ (n : ℕ). RowsFit c.loop-u.rows (n * width flat.schema)) (sym count) (fit_same c.args.rows.now c.loop-u.rows _ before.same c.requires.fit);
      suits = tt;
    }

pub returns-in_err-rework_block-clause-rows : goal.returns-in_err-rework_block-clause-rows
returns-in_err-rework_block-clause-rows g c = fit_trans _ _ _ c.loop-u.invariant.same c.rework_block.ensures.rows

pub returns-in_err-rework_block-clause-empties : goal.returns-in_err-rework_block-clause-empties
returns-in_err-rework_block-clause-empties g c =
    let p = err_from_is_err_and c.from_residual.result c.from_residual.ensures.1 in
    let pack = length c.args.rows.now in
    let flat = c.args.flat.now in
    let q = flat.region in
    let before = c.loop-u.invariant in
    let count = before.same.count in
    let now = at g.R.Revisions.state c.loop-u.vault (g.S.BlockStore.state c.loop-u.store) in
    let reworks = rw count at c.in_err-rework_block.ensures.reworks in
    let cut = reworks.ran.err in
    let below : c.loop-u.u < blocks_of pack flat = omega (arith, c.div_ceil-blocks.ensures) in
    rw (p.1, p.2) (record {
      ran = record { ok = tt; err = pass_each (one q) (copy_at q q) _ _ _ _ (blocks_of pack flat) c.loop-u.u below before.went cut };
      never = elim reworks.never [ inl e ↦ inl e | inr there ↦ inr (tampered_in below there) ];
      seals = seals_after before.went.lasts before.seals reworks.seals;
      table = tt;
      holds = tt;
      told = λ honest slots is.
          reworks.told (honest_after before.went honest) (half (kept (is_true c.args.pred.now)) pack c.loop-u.u (whole_blocks pack flat.capacity slots)) (before.told (honest_before cut.lasts honest) slots is);
    })

pub loop-u-preserved : goal.loop-u-preserved
loop-u-preserved g c =
    let pack = length c.args.rows.now in
    let flat = c.args.flat.now in
    let q = flat.region in
    let u = c.loop-u.u in
    let blocks = blocks_of pack flat in
    let below : u < blocks = omega (arith, c.div_ceil-blocks.ensures) in
    let before = c.loop-u.invariant in
    let count = before.same.count in
    let f = kept (is_true c.args.pred.now) in
    let now = at g.R.Revisions.state c.loop-u.vault (g.S.BlockStore.state c.loop-u.store) in
    let new = at g.R.Revisions.state c.rework_block.new.vault (g.S.BlockStore.state c.rework_block.new.store) in
    let reworks = rw count at c.in_ok-rework_block.ensures.reworks in
    record {
      went = went_each (one q) (copy_at q q) _ _ _ u before.went reworks.ran.ok;
      seals = seals_after before.went.lasts before.seals reworks.seals;
      order = before.order;
      turn = reworks.turn.moves before.order (subst (λ (n : ℕ). IsInTurn before.order pack flat n now) (not_last u blocks below) before.turn);
      same = fit_trans _ _ _ before.same c.rework_block.ensures.rows;
      told = λ honest slots is.
          let whole = whole_blocks pack flat.capacity slots in
          let size = whole_size pack flat slots _ is c.requires.table.some in
          let all = half f pack u whole in
          let was = before.told (honest_before reworks.ran.ok.lasts honest) slots is in
          let made = reworks.told (honest_after before.went honest) all was in
          let is_made = made.1 ∙ ap (map f) (half-block f pack blocks whole size u below) in
          subst (λ (l : Slots). HoldsSlots pack flat l new) (ap (with_block pack all u) is_made ∙ half-next f pack blocks whole size u below) made.2;
      holds = λ tells is. reworks.holds (tells_went _ _ _ _ before.went tells) (before.holds tells is);
    }

pub returns-clause-rows : goal.returns-clause-rows
returns-clause-rows g c = c.loop-u.invariant.same

pub returns-clause-empties : goal.returns-clause-empties
returns-clause-empties g c =
    let pack = length c.args.rows.now in
    let flat = c.args.flat.now in
    let q = flat.region in
    let blocks = blocks_of pack flat in
    let all = c.loop-u.invariant in
    let last : c.loop-u.u ≡ blocks = omega (arith, c.div_ceil-blocks.ensures) in
    let f = kept (is_true c.args.pred.now) in
    let now = at g.R.Revisions.state c.loop-u.vault (g.S.BlockStore.state c.loop-u.store) in
    let is = subst (λ (n : ℕ). IsInTurn all.order pack flat n now) (at_last c.loop-u.u blocks last) all.turn in
    record {
      ran = record { ok = Rattle.ob_flat.proofs.Loops.went_all (copy_at q q) last all.went; err = tt };
      never = tt;
      seals = all.seals;
      table = record { made = record { order = all.order; lives = is.lives; turn = is.turn }; written = is.written };
      holds = all.holds;
      told = λ honest slots is.
          let whole = whole_blocks pack flat.capacity slots in
          let same = half-all f pack blocks whole (whole_size pack flat slots _ is c.requires.table.some) c.loop-u.u last
          ∙ sym (map_at-map f 0 whole) ∙ map_at-up_to (λ k x. f x) (blocks * pack) slots (λ k past. refl) ∙ ap (up_to (blocks * pack)) (map_at-map f 0 slots) in
          let here = subst (λ (l : Slots). HoldsSlots pack flat l now) same (all.told honest slots is) in
          let fits = subst (All (FitsSlot flat.schema)) (map_at-map f 0 slots) (all-map_at (λ k x. f x) (FitsSlot flat.schema) 0 slots (λ k x fit. kept_fits flat.schema (is_true c.args.pred.now) x fit) is.fits) in
          represents_whole pack flat (map f slots) now (length-map slots f ∙ is.size) fits here;
    }
