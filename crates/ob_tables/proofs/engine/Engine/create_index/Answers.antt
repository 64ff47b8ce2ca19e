use Rattle.ob_tables.proofs.Words.{Access, answer_of, ap, arith, count_of, Cut, earlier, Engine, engine_start, height_of, Index, Indexed, is_stop, length, List, none, Ok, Outcome, refl, sym, true, went_rests, Whole, ℕ, [], ◌++◌, ◌+◌, ◌-◌, ◌∙◌, ◌∷◌}
use Rattle.ob_base.specs.declared.schema.Table.{Table}
use Rattle.ob_base.specs.Indexes.{tree_blocks}
use Rattle.ob_base.proofs.IndexLemmas.{is_height_of}
use Rattle.ob_sql.specs.declared.stmt.Stmt.TheVariants.{Create}
use Rattle.ob_mean.specs.Verdict.{ended as seen_to}
use Rattle.ob_tables.proofs.CreateIndex.{length_drawn, made_index, new_key, new_spare, not_made}
use Rattle.ob_tables.proofs.CreateLemmas.{new_asked, new_size, popped}
use Rattle.ob_tables.proofs.RunLemmas.{at_ok, count_rises, engine_left}
use Rattle.ob_tables.proofs.SilentLemmas.{serves_as, unasked_left}
use Rattle.ob_tables.proofs.engine.Engine.create_index.Goals as goal
use Rattle.ob_tables.proofs.engine.Engine.create_index.Goals.{then-is_err-via-then-is_err, then-is_err-via-else-is_err+then-is_err-2}

pub returns-then-is_err : goal.returns-then-is_err
returns-then-is_err g c =
    let state = g.R.Revisions.state in
    let old = c.args.self.now in
    let s = g.S.BlockStore.state c.args.store.now in
    let s1 = g.S.BlockStore.state c.reserve.new.self in
    let stmt = Create c.args.table.now c.args.columns.now c.args.capacity Indexed in
    elim c.then-is_err.branch [
      | then-is_err-via-then-is_err w ↦ record {
        serves =
            serves_as state stmt old s s1 _ _ _ _ c.cut.ensures.answer
            (c.cut.ensures.seen ∙ ap (λ (e : Engine g.row.R.Denot). record e { seen = seen_to (Cut 0); public = record e.public { next_region = e.vault.next }; ended = true }) w.self-is)
            (unasked_left state stmt old s c.requires.agrees c.requires.allowed refl refl s1 old.indexes old.draws old.public.tables c.reserve.ensures.rests);
      }
      | then-is_err-via-else-is_err+then-is_err-2 w ↦ record {
        serves =
            serves_as state stmt old s s1 _ _ _ _ c.cut.ensures.answer
            (c.cut.ensures.seen ∙ ap (λ (e : Engine g.row.R.Denot). record e { seen = seen_to (Cut 0); public = record e.public { next_region = e.vault.next }; ended = true }) w.self-is)
            (unasked_left state stmt old s c.requires.agrees c.requires.allowed refl refl s1 w.reserve-else-is_err.new.self old.draws old.public.tables c.reserve.ensures.rests);
      }
    ]

pub returns-in_default : goal.returns-in_default
returns-in_default g c =
    let old = c.args.self.now in
    let s = g.S.BlockStore.state c.args.store.now in
    let s1 = g.S.BlockStore.state c.reserve.new.self in
    let stmt = Create c.args.table.now c.args.columns.now c.args.capacity Indexed in
    record {
      serves =
          serves_as g.R.Revisions.state stmt old s s1 _ _ _ _ c.cut-in_default.ensures.answer c.cut-in_default.ensures.seen
          (unasked_left g.R.Revisions.state stmt old s c.requires.agrees c.requires.allowed refl refl s1 c.reserve-else-is_err.new.self c.next_draws.new.draws old.public.tables c.reserve.ensures.rests);
    }

pub returns-then-is_err-3 : goal.returns-then-is_err-3
returns-then-is_err-3 g c =
    let old = c.args.self.now in
    let s = g.S.BlockStore.state c.args.store.now in
    let s1 = g.S.BlockStore.state c.reserve.new.self in
    let stmt = Create c.args.table.now c.args.columns.now c.args.capacity Indexed in
    record {
      serves =
          serves_as g.R.Revisions.state stmt old s s1 _ _ _ _ c.cut-then-is_err-3.ensures.answer c.cut-then-is_err-3.ensures.seen
          (unasked_left g.R.Revisions.state stmt old s c.requires.agrees c.requires.allowed refl refl s1 c.reserve-else-is_err.new.self c.next_draws.new.draws c.push.new.self c.reserve.ensures.rests);
    }

pub create-requires-clause-starts : goal.create-requires-clause-starts
create-requires-clause-starts g c = λ height is.
    let s1 = g.S.BlockStore.state c.reserve.new.self in
    let old = c.args.self.now in
    record {
      ready = (went_rests _ (g.S.BlockStore.state c.args.store.now) s1 c.reserve.ensures.rests none c.requires.agrees.ready).lasts.ready;
      spare =
          let room = at_ok c.reserve.result _ (sym c.is_err.ensures.value ∙ c.if-is_err.false) c.reserve.ensures.spare in
          new_spare c.args.capacity height c.from-slots.result c.from.result s1.spare is (c.from.ensures ∙ c.tree_blocks.ensures ∙ ap tree_blocks c.tree_height.ensures.value) (omega (arith, room, c.from-2.ensures));
      few = new_asked old.public (count_of old (g.S.BlockStore.state c.args.store.now)) c.args.table.now c.args.columns.now c.args.capacity Indexed c.requires.allowed _ (ap (λ (l : List Access). earlier (engine_start old) + length l) c.reserve.ensures.rests.asked);
    }

pub create-requires-clause-size : goal.create-requires-clause-size
create-requires-clause-size g c = new_size c.args.self.now.public (count_of c.args.self.now (g.S.BlockStore.state c.args.store.now)) c.args.table.now c.args.columns.now c.args.capacity Indexed c.requires.allowed c.new_schema-schema.result c.new_schema-schema.ensures.value

pub create-requires-clause-key : goal.create-requires-clause-key
create-requires-clause-key g c = new_key c.args.self.now.public (count_of c.args.self.now (g.S.BlockStore.state c.args.store.now)) c.args.table.now c.args.columns.now c.args.capacity c.requires.allowed c.new_schema-schema.result c.new_schema-schema.ensures.value

pub create-requires-clause-draws : goal.create-requires-clause-draws
create-requires-clause-draws g c = ap (λ (l : List ℕ). length l) (c.as_slice.ensures.value ∙ c.in-Ok.ensures.list) ∙ length_drawn c.args.capacity _

pub returns-in-Ok-create : goal.returns-in-Ok-create
returns-in-Ok-create g c =
    let old = c.args.self.now in
    let s = g.S.BlockStore.state c.args.store.now in
    let s1 = g.S.BlockStore.state c.reserve.new.self in
    let t = g.S.BlockStore.state c.create.new.store in
    let v = c.create.new.vault in
    let room = c.create.new.room in
    let indexes = c.push_reserved.new.self in
    let draws = c.next_draws.new.draws in
    let stmt = Create c.args.table.now c.args.columns.now c.args.capacity Indexed in
    let more = at_ok c.push.result _ (sym c.is_err-2.ensures.value ∙ c.if-is_err-3.false) c.push.ensures.ok in
    let tables = more ∙ ap (λ (u : Table). old.public.tables ++ u ∷ []) c.new_table-new.ensures.value in
    let pushed = c.push_reserved.ensures.items ∙ ap (λ (is : List Index). is ++ c.in-Ok-create.index ∷ []) c.reserve-else-is_err.ensures.items in
    record {
      serves =
          serves_as g.R.Revisions.state stmt old s t _ _ _ _ (ap (λ (o : Outcome). Ok o) c.finish.ensures.answer)
          (c.finish.ensures.seen ∙ ap (λ (ts : List Table). engine_left old indexes draws v room ts (seen_to Whole) old.ended) tables)
          (made_index g.R.Revisions.state old s s1 v room t indexes draws c.as_slice.result.now c.args.table.now c.args.columns.now c.new_schema-schema.result c.args.capacity c.from-slots.result
          c.requires.agrees c.reserve.ensures.rests c.create.ensures.room c.new_schema-schema.ensures.value c.from-slots.ensures c.requires.allowed c.in-Ok.ensures.next (c.as_slice.ensures.value ∙ c.in-Ok.ensures.list)
          c.in-Ok-create.index c.in-Ok-create.ensures.creates pushed c.new_table-new.ensures.short c.new_schema-schema.ensures.names c.requires.lives);
    }

pub overflow_sub-count : goal.overflow_sub-count
overflow_sub-count g c =
    let regions = c.in-Err.ensures.creates.regions (height_of c.args.capacity) (is_height_of c.args.capacity) in
    count_rises c.count-before.result c.count.result _ (g.S.BlockStore.state c.args.store.now) (g.S.BlockStore.state c.reserve.new.self) (g.S.BlockStore.state c.create.new.store) c.count-before.ensures c.reserve.ensures.rests regions.ran.err.began c.count.ensures

pub returns : goal.returns
returns g c =
    let old = c.args.self.now in
    let s = g.S.BlockStore.state c.args.store.now in
    let s1 = g.S.BlockStore.state c.reserve.new.self in
    let t = g.S.BlockStore.state c.create.new.store in
    let v = c.create.new.vault in
    let room = c.create.new.room in
    let indexes = c.reserve-else-is_err.new.self in
    let draws = c.next_draws.new.draws in
    let error = c.in-Err.error in
    let n = c.count.result - c.count-before.result in
    let stmt = Create c.args.table.now c.args.columns.now c.args.capacity Indexed in
    let more = at_ok c.push.result _ (sym c.is_err-2.ensures.value ∙ c.if-is_err-3.false) c.push.ensures.ok in
    let tables = popped c.pop.result _ _ old.public.tables _ c.pop.ensures more in
    record {
      serves =
          serves_as g.R.Revisions.state stmt old s t _ _ _ _ c.cut-in-Err.ensures.answer
          (c.cut-in-Err.ensures.seen ∙ ap (λ (ts : List Table). engine_left old indexes draws v room ts (seen_to (Cut n)) (is_stop (answer_of error))) tables)
          (not_made g.R.Revisions.state old s s1 v room t indexes draws c.as_slice.result.now c.args.table.now c.args.columns.now c.new_schema-schema.result c.args.capacity c.from-slots.result
          c.requires.agrees c.reserve.ensures.rests c.create.ensures.room c.new_schema-schema.ensures.value c.from-slots.ensures c.requires.allowed c.in-Ok.ensures.next (c.as_slice.ensures.value ∙ c.in-Ok.ensures.list)
          error c.in-Err.ensures.creates c.reserve-else-is_err.ensures.items n (λ i. c.count.ensures i - c.count-before.ensures i));
    }
