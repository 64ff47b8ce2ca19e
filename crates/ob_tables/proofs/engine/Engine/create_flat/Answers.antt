use Rattle.ob_tables.proofs.Words.{Access, answer_of, ap, arith, blocks_for, count_of, Cut, earlier, engine_start, is_stop, length, List, none, Ok, Outcome, refl, subst, sym, went_rests, Whole, ℕ, [], ◌++◌, ◌+◌, ◌-◌, ◌∙◌, ◌∷◌, ◌≤◌}
use Rattle.ob_base.specs.declared.schema.Shape.TheVariants.{Flat as FlatShape}
use Rattle.ob_base.specs.declared.schema.Table.{Table}
use Rattle.ob_sql.specs.declared.stmt.Stmt.TheVariants.{Create}
use Rattle.ob_tables.proofs.RunLemmas.{at_ok, count_rises, engine_after, opens_block}
use Rattle.ob_tables.proofs.SilentLemmas.{serves_as, unasked}
use Rattle.ob_tables.proofs.CreateLemmas.{created, not_created, new_within, new_few, new_asked, new_size, new_idle, popped}
use Rattle.ob_tables.proofs.engine.Engine.create_flat.Goals as goal

pub returns-then-is_err : goal.returns-then-is_err
returns-then-is_err g c = record {
  serves =
      serves_as g.R.Revisions.state (Create c.args.table.now c.args.columns.now c.args.capacity FlatShape) c.args.self.now (g.S.BlockStore.state c.args.store.now) (g.S.BlockStore.state c.reserve.new.self) _ _ _ _
      c.cut.ensures.answer c.cut.ensures.seen
      (unasked g.R.Revisions.state (Create c.args.table.now c.args.columns.now c.args.capacity FlatShape) c.args.self.now (g.S.BlockStore.state c.args.store.now) c.requires.agrees c.requires.allowed refl refl refl
      (g.S.BlockStore.state c.reserve.new.self) c.args.self.now.public.tables c.reserve.ensures.rests);
}

pub returns-then-is_err-2 : goal.returns-then-is_err-2
returns-then-is_err-2 g c = record {
  serves =
      serves_as g.R.Revisions.state (Create c.args.table.now c.args.columns.now c.args.capacity FlatShape) c.args.self.now (g.S.BlockStore.state c.args.store.now) (g.S.BlockStore.state c.reserve.new.self) _ _ _ _
      c.cut-then-is_err-2.ensures.answer c.cut-then-is_err-2.ensures.seen
      (unasked g.R.Revisions.state (Create c.args.table.now c.args.columns.now c.args.capacity FlatShape) c.args.self.now (g.S.BlockStore.state c.args.store.now) c.requires.agrees c.requires.allowed refl refl refl
      (g.S.BlockStore.state c.reserve.new.self) c.push.new.self c.reserve.ensures.rests);
}

pub returns-in-Ok : goal.returns-in-Ok
returns-in-Ok g c =
    let old = c.args.self.now in
    let v = c.create.new.vault in
    let room = c.create.new.room in
    let pushed = at_ok c.push.result _ (sym c.is_err-2.ensures.value ∙ c.if-is_err-2.false) c.push.ensures.ok in
    let tables = pushed ∙ ap (λ (t : Table). old.public.tables ++ t ∷ []) c.new_table-new.ensures.value in
    record {
      serves =
          created g.R.Revisions.state old (g.S.BlockStore.state c.args.store.now) (g.S.BlockStore.state c.reserve.new.self) v room (g.S.BlockStore.state c.create.new.store) c.args.table.now c.args.columns.now
          c.new_schema-schema.result c.args.capacity FlatShape c.requires.agrees c.reserve.ensures.rests (opens_block c.requires.agrees c.create.ensures.room) c.new_schema-schema.ensures.value c.requires.allowed refl
          c.new_table-new.ensures.short c.new_schema-schema.ensures.names _ _ _ c.in-Ok.ensures.creates c.requires.lives (ap (λ (o : Outcome). Ok o) c.finish.ensures.answer)
          (c.finish.ensures.seen ∙ ap (λ (ts : List Table). engine_after old v room ts Whole old.ended) tables);
    }

pub returns-in-Err : goal.returns-in-Err
returns-in-Err g c =
    let old = c.args.self.now in
    let v = c.create.new.vault in
    let room = c.create.new.room in
    let error = c.in-Err.error in
    let n = c.count.result - c.count-before.result in
    let pushed = at_ok c.push.result _ (sym c.is_err-2.ensures.value ∙ c.if-is_err-2.false) c.push.ensures.ok in
    let tables = popped c.pop.result _ _ old.public.tables _ c.pop.ensures pushed in
    record {
      serves =
          not_created g.R.Revisions.state old (g.S.BlockStore.state c.args.store.now) (g.S.BlockStore.state c.reserve.new.self) v room (g.S.BlockStore.state c.create.new.store) c.args.table.now c.args.columns.now
          c.new_schema-schema.result c.args.capacity FlatShape c.requires.agrees c.reserve.ensures.rests (opens_block c.requires.agrees c.create.ensures.room) c.new_schema-schema.ensures.value c.requires.allowed refl
          error n _ _ c.in-Err.ensures.creates (λ i. c.count.ensures i - c.count-before.ensures i) c.cut-in-Err.ensures.answer
          (c.cut-in-Err.ensures.seen ∙ ap (λ (ts : List Table). engine_after old v room ts (Cut n) (is_stop (answer_of error))) tables);
    }

pub new_schema-schema-requires-clause-few : goal.new_schema-schema-requires-clause-few
new_schema-schema-requires-clause-few g c = new_few c.args.self.now.public (count_of c.args.self.now (g.S.BlockStore.state c.args.store.now)) c.args.table.now c.args.columns.now c.args.capacity FlatShape c.requires.allowed

pub new_schema-schema-requires-clause-sizes : goal.new_schema-schema-requires-clause-sizes
new_schema-schema-requires-clause-sizes g c = (new_within c.args.self.now.public (count_of c.args.self.now (g.S.BlockStore.state c.args.store.now)) c.args.table.now c.args.columns.now c.args.capacity FlatShape c.requires.allowed).sizes

pub div_ceil-blocks-requires : goal.div_ceil-blocks-requires
div_ceil-blocks-requires g c = omega (arith, c.from.ensures, c.requires.agrees.settings.pack_least)

pub overflow_add-from : goal.overflow_add-from
overflow_add-from g c = omega (arith, c.from-2.ensures, c.div_ceil-blocks.type_inv)

pub create-requires-clause-starts : goal.create-requires-clause-starts
create-requires-clause-starts g c =
    let spare = (g.S.BlockStore.state c.reserve.new.self).spare in
    record {
      ready = (went_rests _ (g.S.BlockStore.state c.args.store.now) (g.S.BlockStore.state c.reserve.new.self) c.reserve.ensures.rests none c.requires.agrees.ready).lasts.ready;
      spare = subst (λ (n : ℕ). 1 + n ≤ spare) (c.from-2.ensures ∙ c.div_ceil-blocks.ensures ∙ ap (λ (k : ℕ). blocks_for k c.args.capacity) (c.from.ensures ∙ sym c.requires.agrees.room.pack))
          (at_ok c.reserve.result _ (sym c.is_err.ensures.value ∙ c.if-is_err.false) c.reserve.ensures.spare);
      few = new_asked c.args.self.now.public (count_of c.args.self.now (g.S.BlockStore.state c.args.store.now)) c.args.table.now c.args.columns.now c.args.capacity FlatShape c.requires.allowed _ (ap (λ (l : List Access). earlier (engine_start c.args.self.now) + length l) c.reserve.ensures.rests.asked);
    }

pub create-requires-clause-size : goal.create-requires-clause-size
create-requires-clause-size g c = new_size c.args.self.now.public (count_of c.args.self.now (g.S.BlockStore.state c.args.store.now)) c.args.table.now c.args.columns.now c.args.capacity FlatShape c.requires.allowed c.new_schema-schema.result c.new_schema-schema.ensures.value

pub create-requires-clause-room : goal.create-requires-clause-room
create-requires-clause-room g c = new_idle c.args.self.now.public (count_of c.args.self.now (g.S.BlockStore.state c.args.store.now)) c.args.table.now c.args.columns.now c.args.capacity FlatShape c.requires.allowed c.new_schema-schema.result c.args.self.now.room c.new_schema-schema.ensures.value c.requires.agrees.room.idle

pub overflow_sub-count : goal.overflow_sub-count
overflow_sub-count g c = count_rises c.count-before.result c.count.result _ (g.S.BlockStore.state c.args.store.now) (g.S.BlockStore.state c.reserve.new.self) (g.S.BlockStore.state c.create.new.store) c.count-before.ensures c.reserve.ensures.rests c.in-Err.ensures.creates.ran.err.began c.count.ensures
