use Rattle.ob_tables.proofs.Words.{ap, arith, count_of, Cut, drop, Index, IsDone, length, List, refl, Seen, seen_cut, slice_get, slice_get_read, slice_get_within, slice_index_or, Some, subst, sym, take, ℕ, ◌++◌, ◌-◌, ◌∙◌, ◌≡◌, ◌≤◌}
use Rattle.ob_oram.specs.Scripts.{script_length}
use Rattle.ob_oram.proofs.WalkRows.{height_few}
use Rattle.ob_vault.specs.Places.{at}
use Rattle.ob_tables.specs.Indexed.{MayEmitGot}
use Rattle.ob_tables.proofs.IndexArms.{arm_halted, arm_stopped, arm_whole}
use Rattle.ob_tables.proofs.IndexFound.{after_at, idle_width, keyed_on, may_emit, rows_fit, schema_left, serves_unasked, serves_unasked_at, stands_now, stands_old, starts_access, written_back}
use Rattle.ob_tables.proofs.RunLemmas.{at_ok}
use Rattle.ob_tables.proofs.ServeLemmas.{serves_same}
use Rattle.ob_tables.proofs.engine.Engine.serve_index.Goals as goal

pub accesses-requires : goal.accesses-requires
accesses-requires g c =
    let old = c.args.self.now in
    let found = c.requires.index.is in
    let s = g.S.BlockStore.state c.args.store.now in
    let shaped = (stands_old g.R.Revisions.state c.args.stmt.now old s c.args.k c.requires.agrees c.requires.allowed c.requires.index).stored.shaped in
    let read = slice_get_read old.indexes.items _ c.args.k _ refl (slice_get_within old.indexes.items c.args.k found.index found.get) c.index.ensures in
    let got = found.get in
    let same : found.index ≡ c.index.result.now = cc (read, got) in
    subst (λ (x : Index). (x.height ≤ 24) × (x.slots ≤ 1024)) same (height_few found.index shaped, shaped.few)

pub returns-then-is_err : goal.returns-then-is_err
returns-then-is_err g c =
    let old = c.args.self.now in
    let s = g.S.BlockStore.state c.args.store.now in
    let s1 = g.S.BlockStore.state c.reserve.new.self in
    record {
      serves =
          serves_same g.R.Revisions.state g.E.Emit.grew g.E.Emit.cut g.E.Emit.faults c.args.stmt.now old s s1 c.args.out.now c.args.out.now _ _ _ _ c.cut.ensures.answer c.cut.ensures.seen
          (serves_unasked g.R.Revisions.state c.args.stmt.now old s c.args.k c.requires.agrees c.requires.allowed c.requires.index s1 c.reserve.ensures.rests old.indexes old.draws
          g.E.Emit.grew g.E.Emit.cut g.E.Emit.faults c.args.out.now (g.met.E.Emit.starts c.args.out.now));
    }

pub access_at-requires : goal.access_at-requires
access_at-requires g c =
    let state = g.R.Revisions.state in
    let stmt = c.args.stmt.now in
    let old = c.args.self.now in
    let s = g.S.BlockStore.state c.args.store.now in
    let s1 = g.S.BlockStore.state c.reserve.new.self in
    let found = c.requires.index.is in
    let read = slice_get_read old.indexes.items _ c.args.k _ refl (slice_get_within old.indexes.items c.args.k found.index found.get) c.index.ensures in
    let got = found.get in
    let same : c.index.result.now ≡ found.index = cc (read, got) in
    let room = at_ok c.reserve.result _ (sym c.is_err.ensures.value ∙ c.if-is_err.false) c.reserve.ensures.spare in
    let spare = subst (λ (n : ℕ). n ≤ s1.spare) (c.accesses.ensures ∙ ap script_length same) room in
    record {
      at = (
        found.index,
        subst (λ (xs : List Index). slice_get xs c.args.k ≡ Some found.index) (sym c.as_mut_slice.ensures.value) found.get,
        starts_access state stmt old s c.args.k c.requires.agrees c.requires.allowed c.requires.index s1 c.reserve.ensures.rests spare,
        stands_now state stmt old s c.args.k c.requires.agrees c.requires.allowed c.requires.index s1 c.reserve.ensures.rests,
        (old.public, count_of old s, keyed_on state stmt old s c.args.k c.requires.agrees c.requires.allowed c.requires.index),
        idle_width state stmt old s c.args.k c.requires.agrees c.requires.allowed c.requires.index,
        rows_fit state stmt old s c.args.k c.requires.agrees c.requires.allowed c.requires.index,
      );
    }

pub returns-in_default : goal.returns-in_default
returns-in_default g c =
    let old = c.args.self.now in
    let s = g.S.BlockStore.state c.args.store.now in
    let s1 = g.S.BlockStore.state c.reserve.new.self in
    let t = g.S.BlockStore.state c.access_at.new.store in
    let same = c.in_default.ensures.memory in
    record {
      serves =
          serves_same g.R.Revisions.state g.E.Emit.grew g.E.Emit.cut g.E.Emit.faults c.args.stmt.now old s t c.args.out.now c.args.out.now _ _ _ _ c.cut-in_default.ensures.answer c.cut-in_default.ensures.seen
          (serves_unasked_at g.R.Revisions.state c.args.stmt.now old s c.args.k c.requires.agrees c.requires.allowed c.requires.index s1 c.reserve.ensures.rests _ c.next-draw.new.self
          g.E.Emit.grew g.E.Emit.cut g.E.Emit.faults c.args.out.now (g.met.E.Emit.starts c.args.out.now) c.access_at.new.vault c.access_at.new.room t same.2 same.1 (ap g.S.BlockStore.state same.3));
    }

pub index-requires-in-Ok-result : goal.index-requires-in-Ok-result
index-requires-in-Ok-result g c =
    let found = c.requires.index.is in
    let within = slice_get_within c.args.self.now.indexes.items c.args.k found.index found.get in
    omega (arith, within, c.args.self.now.indexes.ok)

pub emit_got-requires : goal.emit_got-requires
emit_got-requires g c =
    let state = g.R.Revisions.state in
    let stmt = c.args.stmt.now in
    let old = c.args.self.now in
    let s = g.S.BlockStore.state c.args.store.now in
    let before = at state old.vault (g.S.BlockStore.state c.reserve.new.self) in
    let after = at state c.access_at.new.vault (g.S.BlockStore.state c.access_at.new.store) in
    let left = c.access_at.new.indexes in
    let done = subst (λ (xs : List Index). IsDone stmt c.args.k c.next-draw.result c.in-Ok.keyed xs left old.room c.access_at.new.room before after) c.as_mut_slice.ensures.value c.in-Ok.ensures.done in
    let whole = written_back old.indexes.len c.args.k left old.indexes.items done.after done.set (omega (arith, old.indexes.ok)) in
    let here = after_at state stmt old s c.args.k c.requires.agrees c.requires.allowed c.requires.index c.next-draw.result c.in-Ok.keyed left c.access_at.new.room before after done in
    let read = slice_get_read left _ c.args.k _ refl (slice_get_within left c.args.k done.after here) (c.index-in-Ok-result.ensures ∙ ap (λ (xs : List Index). slice_index_or xs c.args.k c.index-in-Ok-result.result.now) whole) in
    let same : done.after ≡ c.index-in-Ok-result.result.now = cc (here, read) in
    subst (λ (x : Index). MayEmitGot stmt x.schema) same
    (may_emit state stmt old s c.args.k c.requires.agrees c.requires.allowed c.requires.index c.next-draw.result c.in-Ok.keyed left c.access_at.new.room before after done c.in-Ok-result.got c.in-Ok-result.is)

pub returns-in-Ok-emit_got : goal.returns-in-Ok-emit_got
returns-in-Ok-emit_got g c =
    let state = g.R.Revisions.state in
    let stmt = c.args.stmt.now in
    let old = c.args.self.now in
    let s = g.S.BlockStore.state c.args.store.now in
    let s1 = g.S.BlockStore.state c.reserve.new.self in
    let t = g.S.BlockStore.state c.access_at.new.store in
    let v = c.access_at.new.vault in
    let room = c.access_at.new.room in
    let left = c.access_at.new.indexes in
    let keyed = c.in-Ok.keyed in
    let draw = c.next-draw.result in
    let before = at state old.vault s1 in
    let after = at state v t in
    let done = subst (λ (xs : List Index). IsDone stmt c.args.k draw keyed xs left old.room room before after) c.as_mut_slice.ensures.value c.in-Ok.ensures.done in
    let whole = written_back old.indexes.len c.args.k left old.indexes.items done.after done.set (omega (arith, old.indexes.ok)) in
    let back = subst (λ (xs : List Index). IsDone stmt c.args.k draw keyed old.indexes.items xs old.room room before after) (sym whole) done in
    let all = take old.indexes.len (left ++ drop (length left) old.indexes.items) in
    let here = after_at state stmt old s c.args.k c.requires.agrees c.requires.allowed c.requires.index draw keyed all room before after back in
    let read = slice_get_read all _ c.args.k _ refl (slice_get_within all c.args.k back.after here) c.index-in-Ok-result.ensures in
    let same : c.index-in-Ok-result.result.now ≡ back.after = cc (here, read) in
    let columns = ap (λ (x : Index). x.schema) same ∙ schema_left state stmt old s c.args.k c.requires.agrees c.requires.allowed c.requires.index draw keyed all room before after back c.in-Ok-result.got c.in-Ok-result.is in
    record {
      serves =
          serves_same state g.E.Emit.grew g.E.Emit.cut g.E.Emit.faults stmt old s t c.args.out.now c.emit_got.new.out _ _ _ _ refl c.finish_seen.ensures.seen
          (arm_whole state stmt old s s1 v room t c.args.k draw keyed _ c.next-draw.new.self c.requires.agrees c.reserve.ensures.rests c.requires.allowed c.requires.index back
          c.next-draw.ensures.value c.next-draw.ensures.next g.E.Emit.grew g.E.Emit.cut g.E.Emit.faults g.met.E.Emit.starts c.args.out.now c.emit_got.new.out
          c.in-Ok-result.got c.in-Ok-result.is c.requires.lives _ columns c.in-Ok-emit_got.ensures c.seen_whole.result c.seen_whole.ensures c.finish_seen.result (c.finish_seen.ensures.answer ∙ c.outcome_of_got-outcome.ensures));
    }

pub returns-in-Err-emit_got : goal.returns-in-Err-emit_got
returns-in-Err-emit_got g c =
    let state = g.R.Revisions.state in
    let stmt = c.args.stmt.now in
    let old = c.args.self.now in
    let s = g.S.BlockStore.state c.args.store.now in
    let s1 = g.S.BlockStore.state c.reserve.new.self in
    let t = g.S.BlockStore.state c.access_at.new.store in
    let v = c.access_at.new.vault in
    let room = c.access_at.new.room in
    let left = c.access_at.new.indexes in
    let keyed = c.in-Ok.keyed in
    let draw = c.next-draw.result in
    let n = c.count.result - c.count-before.result in
    let before = at state old.vault s1 in
    let after = at state v t in
    let done = subst (λ (xs : List Index). IsDone stmt c.args.k draw keyed xs left old.room room before after) c.as_mut_slice.ensures.value c.in-Ok.ensures.done in
    let whole = written_back old.indexes.len c.args.k left old.indexes.items done.after done.set (omega (arith, old.indexes.ok)) in
    let back = subst (λ (xs : List Index). IsDone stmt c.args.k draw keyed old.indexes.items xs old.room room before after) (sym whole) done in
    let all = take old.indexes.len (left ++ drop (length left) old.indexes.items) in
    let here = after_at state stmt old s c.args.k c.requires.agrees c.requires.allowed c.requires.index draw keyed all room before after back in
    let read = slice_get_read all _ c.args.k _ refl (slice_get_within all c.args.k back.after here) c.index-in-Ok-result.ensures in
    let same : c.index-in-Ok-result.result.now ≡ back.after = cc (here, read) in
    let columns = ap (λ (x : Index). x.schema) same ∙ schema_left state stmt old s c.args.k c.requires.agrees c.requires.allowed c.requires.index draw keyed all room before after back c.in-Ok-result.got c.in-Ok-result.is in
    let seen = c.seen_cut-cut.ensures ∙ ap (λ (m : ℕ). seen_cut m keyed.leaf n) c.from.ensures in
    record {
      serves =
          serves_same state g.E.Emit.grew g.E.Emit.cut g.E.Emit.faults stmt old s t c.args.out.now c.emit_got.new.out _ _ _ _ c.cut_seen.ensures.answer c.cut_seen.ensures.seen
          (arm_halted state stmt old s s1 v room t c.args.k draw keyed _ c.next-draw.new.self c.requires.agrees c.reserve.ensures.rests c.requires.allowed c.requires.index back
          c.next-draw.ensures.value c.next-draw.ensures.next g.E.Emit.grew g.E.Emit.cut g.E.Emit.faults g.met.E.Emit.starts c.args.out.now c.emit_got.new.out
          c.in-Ok-result.got c.in-Ok-result.is n (λ i. c.count.ensures i - c.count-before.ensures i) _ columns c.in-Err-emit_got.error c.in-Err-emit_got.ensures _ (ap (λ (x : Seen). record x { end = Cut n }) seen) c.error_of.result c.error_of.ensures);
    }

pub returns-in-Err : goal.returns-in-Err
returns-in-Err g c =
    let state = g.R.Revisions.state in
    let stmt = c.args.stmt.now in
    let old = c.args.self.now in
    let s = g.S.BlockStore.state c.args.store.now in
    let s1 = g.S.BlockStore.state c.reserve.new.self in
    let t = g.S.BlockStore.state c.access_at.new.store in
    let v = c.access_at.new.vault in
    let room = c.access_at.new.room in
    let left = c.access_at.new.indexes in
    let keyed = c.in-Ok.keyed in
    let draw = c.next-draw.result in
    let n = c.count.result - c.count-before.result in
    let before = at state old.vault s1 in
    let after = at state v t in
    let done = subst (λ (xs : List Index). IsDone stmt c.args.k draw keyed xs left old.room room before after) c.as_mut_slice.ensures.value c.in-Ok.ensures.done in
    let whole = written_back old.indexes.len c.args.k left old.indexes.items done.after done.set (omega (arith, old.indexes.ok)) in
    let back = subst (λ (xs : List Index). IsDone stmt c.args.k draw keyed old.indexes.items xs old.room room before after) (sym whole) done in
    record {
      serves =
          serves_same state g.E.Emit.grew g.E.Emit.cut g.E.Emit.faults stmt old s t c.args.out.now c.args.out.now _ _ _ _ refl c.stop_access.ensures.seen
          (arm_stopped state stmt old s s1 v room t c.args.k draw keyed _ c.next-draw.new.self c.requires.agrees c.reserve.ensures.rests c.requires.allowed c.requires.index back
          c.next-draw.ensures.value c.next-draw.ensures.next g.E.Emit.grew g.E.Emit.cut g.E.Emit.faults g.met.E.Emit.starts c.args.out.now c.args.out.now
          c.in-Err.error c.in-Err.is n (λ i. c.count.ensures i - c.count-before.ensures i) c.seen_cut-cut.result (c.seen_cut-cut.ensures ∙ ap (λ (m : ℕ). seen_cut m keyed.leaf n) c.from.ensures) c.stop_access.result c.stop_access.ensures.answer);
    }
