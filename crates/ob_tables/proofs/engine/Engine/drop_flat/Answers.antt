use Rattle.ob_tables.proofs.Words.{ap, Engine, Ok, Outcome, refl, slice_get_within, Whole, ◌∙◌}
use Rattle.ob_flat.specs.declared.flat.Flat.{Flat}
use Rattle.ob_sql.specs.declared.stmt.Stmt.TheVariants.{Drop as DropTable}
use Rattle.ob_mean.specs.Verdict.{ended as seen_to}
use Rattle.ob_tables.proofs.DropLemmas.{dropped, lives_found}
use Rattle.ob_tables.proofs.SilentLemmas.{serves_as, unasked}
use Rattle.ob_tables.proofs.engine.Engine.drop_flat.Goals as goal

pub remove_table-requires : goal.remove_table-requires
remove_table-requires g c = slice_get_within c.args.self.now.public.tables c.args.i c.requires.at.table c.requires.at.here.get

pub leave-requires-clause-lives : goal.leave-requires-clause-lives
leave-requires-clause-lives g c =
    let found = c.requires.at in
    lives_found g.R.Revisions.state c.args.self.now (g.S.BlockStore.state c.args.store.now) (g.S.BlockStore.state c.reserve.new.self) c.args.i found.table c.args.flat.now c.requires.agrees found.here.get found.is

pub returns-then-is_err : goal.returns-then-is_err
returns-then-is_err g c = record {
  serves =
      serves_as g.R.Revisions.state (DropTable c.args.table.now) c.args.self.now (g.S.BlockStore.state c.args.store.now) (g.S.BlockStore.state c.reserve.new.self) _ _ _ _
      c.cut.ensures.answer c.cut.ensures.seen
      (unasked g.R.Revisions.state (DropTable c.args.table.now) c.args.self.now (g.S.BlockStore.state c.args.store.now) c.requires.agrees c.requires.allowed refl refl tt
      (g.S.BlockStore.state c.reserve.new.self) c.args.self.now.public.tables c.reserve.ensures.rests);
}

pub returns : goal.returns
returns g c =
    let found = c.requires.at in
    record {
      serves =
          dropped g.R.Revisions.state c.args.self.now (g.S.BlockStore.state c.args.store.now) (g.S.BlockStore.state c.reserve.new.self) c.leave.new.vault (g.S.BlockStore.state c.leave.new.store) c.args.table.now
          c.args.i found.table c.requires.agrees c.reserve.ensures.rests found.here found.shape c.requires.allowed _ c.former-former.result _ _ (ap (λ (f : Flat). f.region) found.is) c.former-former.ensures
          c.leave.ensures.leaves c.requires.lives (ap (λ (o : Outcome). Ok o) c.finish.ensures.answer)
          (c.finish.ensures.seen
          ∙ ap (λ (e : Engine g.row.R.Denot). record e { seen = seen_to Whole; public = record e.public { next_region = e.vault.next } }) c.remove_table.ensures);
    }
