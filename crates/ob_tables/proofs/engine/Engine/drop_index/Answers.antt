use Rattle.ob_tables.proofs.Words.{ap, Engine, Index, length, List, Ok, Outcome, refl, remove, slice_get_within, subst, sym, Vault, Whole, ◌<◌, ◌∙◌, ◌≡◌}
use Rattle.ob_oram.specs.Discards.{DiscardsIndex}
use Rattle.ob_oram.specs.Indexes.{IsStored}
use Rattle.ob_base.specs.declared.schema.Table.{Table}
use Rattle.ob_vault.specs.Places.{at as at_world}
use Rattle.ob_sql.specs.declared.stmt.Stmt.TheVariants.{Drop as DropTable}
use Rattle.ob_mean.specs.Verdict.{ended as seen_to}
use Rattle.ob_tables.proofs.DropIndex.{dropped_index, stored_now}
use Rattle.ob_tables.proofs.SilentLemmas.{serves_as, unasked}
use Rattle.ob_tables.proofs.engine.Engine.drop_index.Goals as goal

pub take_index-index-requires : goal.take_index-index-requires
take_index-index-requires g c = let at = c.requires.at in slice_get_within c.args.self.now.indexes.items c.args.k at.index at.get

pub remove_table-requires : goal.remove_table-requires
remove_table-requires g c =
    let at = c.requires.at in
    subst (λ (ts : List Table). c.args.i < length ts) (sym (ap (λ (e : Engine g.row.R.Denot). e.public.tables) c.take_index-index.ensures.rest)) (slice_get_within c.args.self.now.public.tables c.args.i at.table at.here.get)

pub discard-requires-clause-stored : goal.discard-requires-clause-stored
discard-requires-clause-stored g c =
    subst (λ (v : Vault g.row.R.Denot). IsStored c.take_index-index.result (at_world g.R.Revisions.state v (g.S.BlockStore.state c.reserve.new.self))) (sym (ap (λ (e : Engine g.row.R.Denot). e.vault) c.take_index-index.ensures.rest))
    (stored_now g.R.Revisions.state c.args.self.now (g.S.BlockStore.state c.args.store.now) (g.S.BlockStore.state c.reserve.new.self) c.args.k c.take_index-index.result c.requires.agrees c.reserve.ensures.rests c.take_index-index.ensures.taken)

pub returns-then-is_err : goal.returns-then-is_err
returns-then-is_err g c = record {
  serves =
      serves_as g.R.Revisions.state (DropTable c.args.table.now) c.args.self.now (g.S.BlockStore.state c.args.store.now) (g.S.BlockStore.state c.reserve.new.self) _ _ _ _
      c.cut.ensures.answer c.cut.ensures.seen
      (unasked g.R.Revisions.state (DropTable c.args.table.now) c.args.self.now (g.S.BlockStore.state c.args.store.now) c.requires.agrees c.requires.allowed refl refl tt
      (g.S.BlockStore.state c.reserve.new.self) c.args.self.now.public.tables c.reserve.ensures.rests);
}

pub returns : goal.returns
returns g c =
    let old = c.args.self.now in
    let at = c.requires.at in
    let s = g.S.BlockStore.state c.args.store.now in
    let v = c.discard.new.vault in
    let taken = c.take_index-index.ensures in
    let index = at.index in
    let same : index ≡ c.take_index-index.result = let got = at.get in let here = taken.taken in cc (got, here) in
    let discards = subst (λ (w : Vault g.row.R.Denot). DiscardsIndex c.take_index-index.result c.discard.result (at_world g.R.Revisions.state w (g.S.BlockStore.state c.reserve.new.self)) (at_world g.R.Revisions.state v (g.S.BlockStore.state c.discard.new.store)))
    (ap (λ (e : Engine g.row.R.Denot). e.vault) taken.rest) c.discard.ensures.discards in
    record {
      serves =
          serves_as g.R.Revisions.state (DropTable c.args.table.now) old s (g.S.BlockStore.state c.discard.new.store) _ _ _ _
          (ap (λ (o : Outcome). Ok o) c.finish.ensures.answer)
          (c.finish.ensures.seen
          ∙ ap (λ (e : Engine g.row.R.Denot). record e { seen = seen_to Whole; public = record e.public { next_region = e.vault.next } }) c.remove_table.ensures
          ∙ ap (λ (e : Engine g.row.R.Denot). record e { vault = v; seen = seen_to Whole; public = record e.public { tables = remove e.public.tables c.args.i; next_region = v.next } }) taken.rest)
          (dropped_index g.R.Revisions.state old s (g.S.BlockStore.state c.reserve.new.self) v (g.S.BlockStore.state c.discard.new.store) c.args.table.now c.args.i c.args.k at.table index
          c.take_index-index.new.self.indexes c.requires.agrees c.reserve.ensures.rests at.here at.of at.get taken.left c.requires.allowed c.discard.result
          (subst (λ (x : Index). DiscardsIndex x c.discard.result (at_world g.R.Revisions.state old.vault (g.S.BlockStore.state c.reserve.new.self)) (at_world g.R.Revisions.state v (g.S.BlockStore.state c.discard.new.store))) (sym same) discards) c.requires.lives);
    }
