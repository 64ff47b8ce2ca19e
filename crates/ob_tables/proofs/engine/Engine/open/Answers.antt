use Rattle.ob_tables.proofs.Words.{ap, arith, Closing, Engine, Err, false, IsMarked, key_of, length, List, Listed, None, Ok, opened_public, Public, refl, ReopensTables, replicate, Some, subst, sym, ℕ, [], ◌*◌, ◌∙◌, ◌≡◌, ◌≤◌}
use Rattle.std.proofs.lemmas.Result.{err_from_is_err_and}
use Rattle.ob_room.specs.RoomState.{clear}
use Rattle.ob_vault.specs.Places.{at}
use Rattle.ob_reopen.specs.declared.fault.OpenErr.TheVariants.{NoMemory}
use Rattle.ob_tables.specs.Reopening.{OpensEngine}
use Rattle.ob_tables.proofs.RunLemmas.{at_ok}
use Rattle.ob_tables.proofs.OpeningLemmas.{closed_marked, closed_pack, follows, high_read, not_begun, opens_all, opens_shut, opens_unlisted, opens_unread, room_read, rows_read, spare_tables, started_as}
use Rattle.ob_tables.proofs.engine.Engine.open.Goals as goal

pub returns-then-is_err : goal.returns-then-is_err
returns-then-is_err g c =
    record {
      opens = λ closing is.
          let same = c.closing_of-closing.ensures c.args.config.pack closing is in
          let marked : IsMarked c.closing_of-closing.result = subst (λ (x : Closing). IsMarked x) (sym same) (closed_marked c.args.mark.now c.args.config.pack closing is) in
          let pack : c.closing_of-closing.result.pack ≡ c.args.config.pack = ap (λ (x : Closing). x.pack) same ∙ closed_pack c.args.mark.now c.args.config.pack closing is in
          subst (λ (x : Closing). OpensEngine {R = g.row.R.Denot} g.R.Revisions.state c.args.config c.args.keys x (Err NoMemory) (g.S.BlockStore.state c.args.store.now) (g.S.BlockStore.state c.reserve.new.self)) same
          (not_begun g.R.Revisions.state c.args.config c.args.keys c.closing_of-closing.result marked (g.S.BlockStore.state c.args.store.now) (g.S.BlockStore.state c.reserve.new.self) c.requires.fresh (g.met.S.BlockStore.starts_honest c.args.store.now c.requires.fresh) c.reserve.ensures.rests);
    }

pub returns-in_default : goal.returns-in_default
returns-in_default g c =
    record {
      opens = λ closing is.
          let same = c.closing_of-closing.ensures c.args.config.pack closing is in
          let marked : IsMarked c.closing_of-closing.result = subst (λ (x : Closing). IsMarked x) (sym same) (closed_marked c.args.mark.now c.args.config.pack closing is) in
          let pack : c.closing_of-closing.result.pack ≡ c.args.config.pack = ap (λ (x : Closing). x.pack) same ∙ closed_pack c.args.mark.now c.args.config.pack closing is in
          subst (λ (x : Closing). OpensEngine {R = g.row.R.Denot} g.R.Revisions.state c.args.config c.args.keys x (Err NoMemory) (g.S.BlockStore.state c.args.store.now) (g.S.BlockStore.state c.reserve.new.self)) same
          (not_begun g.R.Revisions.state c.args.config c.args.keys c.closing_of-closing.result marked (g.S.BlockStore.state c.args.store.now) (g.S.BlockStore.state c.reserve.new.self) c.requires.fresh (g.met.S.BlockStore.starts_honest c.args.store.now c.requires.fresh) c.reserve.ensures.rests);
    }

pub read_closing-requires-clause-marked : goal.read_closing-requires-clause-marked
read_closing-requires-clause-marked g c =
    let closed = c.requires.closed in
    let same = c.closing_of-closing.ensures c.args.config.pack closed.0 closed.1 in
    subst (λ (x : Closing). IsMarked x) (sym same) (closed_marked c.args.mark.now c.args.config.pack closed.0 closed.1)

pub read_closing-requires-clause-follows : goal.read_closing-requires-clause-follows
read_closing-requires-clause-follows g c =
    let closed = c.requires.closed in
    let same = c.closing_of-closing.ensures c.args.config.pack closed.0 closed.1 in
    let marked : IsMarked c.closing_of-closing.result = subst (λ (x : Closing). IsMarked x) (sym same) (closed_marked c.args.mark.now c.args.config.pack closed.0 closed.1) in
    let made : 2 * c.from.result ≤ (g.S.BlockStore.state c.reserve.new.self).spare = at_ok c.reserve.result _ (sym c.is_err.ensures.value ∙ c.if-is_err.false) c.reserve.ensures.spare in
    follows g.R.Revisions.state c.args.config c.args.keys c.closing_of-closing.result marked (g.S.BlockStore.state c.args.store.now) (g.S.BlockStore.state c.reserve.new.self) c.requires.fresh (g.met.S.BlockStore.starts_honest c.args.store.now c.requires.fresh) c.reserve.ensures.rests
    c.start_at-vault.result c.start_at-vault.ensures.ready (started_as c.closing_of-closing.result _ _ _ c.from-3.result c.start_at-vault.ensures.started refl c.from-3.ensures (omega arith))
    c.start_at-vault.ensures.keyed c.start_at-vault.ensures.empty (subst (λ (n : ℕ). 2 * n ≤ (g.S.BlockStore.state c.reserve.new.self).spare) c.from.ensures made)

pub returns-in_err-listed : goal.returns-in_err-listed
returns-in_err-listed g c =
    let p = err_from_is_err_and c.from_residual.result c.from_residual.ensures.1 in
    rw (p.1, p.2) (record {
      opens = λ closing is.
          let same = c.closing_of-closing.ensures c.args.config.pack closing is in
          let marked : IsMarked c.closing_of-closing.result = subst (λ (x : Closing). IsMarked x) (sym same) (closed_marked c.args.mark.now c.args.config.pack closing is) in
          let pack : c.closing_of-closing.result.pack ≡ c.args.config.pack = ap (λ (x : Closing). x.pack) same ∙ closed_pack c.args.mark.now c.args.config.pack closing is in
          subst (λ (x : Closing). OpensEngine {R = g.row.R.Denot} g.R.Revisions.state c.args.config c.args.keys x (Err c.in_err-listed.field-0.0) (g.S.BlockStore.state c.args.store.now) (g.S.BlockStore.state c.read_closing.new.store)) same
          (opens_unread g.R.Revisions.state c.args.config c.args.keys c.closing_of-closing.result marked pack c.requires.config (g.S.BlockStore.state c.args.store.now) (g.S.BlockStore.state c.reserve.new.self) c.requires.fresh (g.met.S.BlockStore.starts_honest c.args.store.now c.requires.fresh)
          (λ q. g.met.S.BlockStore.starts_empty c.args.store.now q c.requires.fresh) (λ q region kept. g.met.S.BlockStore.keeps_within c.args.store.now q region kept) c.reserve.ensures.rests
          c.start_at-vault.result c.start_at-vault.ensures.ready (started_as c.closing_of-closing.result _ _ _ c.from-3.result c.start_at-vault.ensures.started refl c.from-3.ensures (omega arith))
          c.start_at-vault.ensures.keyed c.start_at-vault.ensures.empty c.read_closing.new.vault (g.S.BlockStore.state c.read_closing.new.store) c.in_err-listed.field-0.0 c.in_err-listed.ensures.reads);
    })

pub reopen_tables-requires-clause-marked : goal.reopen_tables-requires-clause-marked
reopen_tables-requires-clause-marked g c =
    let closed = c.requires.closed in
    let same = c.closing_of-closing.ensures c.args.config.pack closed.0 closed.1 in
    subst (λ (x : Closing). IsMarked x) (sym same) (closed_marked c.args.mark.now c.args.config.pack closed.0 closed.1)

pub reopen_tables-requires-clause-spare : goal.reopen_tables-requires-clause-spare
reopen_tables-requires-clause-spare g c =
    let closed = c.requires.closed in
    let same = c.closing_of-closing.ensures c.args.config.pack closed.0 closed.1 in
    let marked : IsMarked c.closing_of-closing.result = subst (λ (x : Closing). IsMarked x) (sym same) (closed_marked c.args.mark.now c.args.config.pack closed.0 closed.1) in
    let made : 2 * c.from.result ≤ (g.S.BlockStore.state c.reserve.new.self).spare = at_ok c.reserve.result _ (sym c.is_err.ensures.value ∙ c.if-is_err.false) c.reserve.ensures.spare in
    subst (λ (l : List Listed). length l ≤ (g.S.BlockStore.state c.read_closing.new.store).spare) (sym c.as_slice.ensures)
    (spare_tables g.R.Revisions.state c.args.config c.args.keys c.closing_of-closing.result marked (g.S.BlockStore.state c.args.store.now) (g.S.BlockStore.state c.reserve.new.self) c.requires.fresh (g.met.S.BlockStore.starts_honest c.args.store.now c.requires.fresh) c.reserve.ensures.rests
    c.start_at-vault.result c.start_at-vault.ensures.ready (started_as c.closing_of-closing.result _ _ _ c.from-3.result c.start_at-vault.ensures.started refl c.from-3.ensures (omega arith))
    c.start_at-vault.ensures.keyed c.start_at-vault.ensures.empty c.read_closing.new.vault (g.S.BlockStore.state c.read_closing.new.store) c.in_ok-listed.listed c.in_ok-listed.ensures.reads
    (subst (λ (n : ℕ). 2 * n ≤ (g.S.BlockStore.state c.reserve.new.self).spare) c.from.ensures made))

pub returns-in_err-reopen_tables : goal.returns-in_err-reopen_tables
returns-in_err-reopen_tables g c =
    let p = err_from_is_err_and c.from_residual-in_err-reopen_tables.result c.from_residual-in_err-reopen_tables.ensures.1 in
    let mid = at g.R.Revisions.state c.read_closing.new.vault (g.S.BlockStore.state c.read_closing.new.store) in
    let last = at g.R.Revisions.state c.reopen_tables.new.vault (g.S.BlockStore.state c.reopen_tables.new.store) in
    let reopens = subst (λ (l : List Listed). ReopensTables {T = Unit {0}} c.closing_of-closing.result l (Err c.in_err-reopen_tables.field-0.0) mid last) c.as_slice.ensures c.in_err-reopen_tables.ensures.reopens in
    rw (p.1, p.2) (record {
      opens = λ closing is.
          let same = c.closing_of-closing.ensures c.args.config.pack closing is in
          let marked : IsMarked c.closing_of-closing.result = subst (λ (x : Closing). IsMarked x) (sym same) (closed_marked c.args.mark.now c.args.config.pack closing is) in
          let pack : c.closing_of-closing.result.pack ≡ c.args.config.pack = ap (λ (x : Closing). x.pack) same ∙ closed_pack c.args.mark.now c.args.config.pack closing is in
          subst (λ (x : Closing). OpensEngine {R = g.row.R.Denot} g.R.Revisions.state c.args.config c.args.keys x (Err c.in_err-reopen_tables.field-0.0) (g.S.BlockStore.state c.args.store.now) (g.S.BlockStore.state c.reopen_tables.new.store)) same
          (opens_shut g.R.Revisions.state c.args.config c.args.keys c.closing_of-closing.result marked pack c.requires.config (g.S.BlockStore.state c.args.store.now) (g.S.BlockStore.state c.reserve.new.self) c.requires.fresh (g.met.S.BlockStore.starts_honest c.args.store.now c.requires.fresh)
          (λ q. g.met.S.BlockStore.starts_empty c.args.store.now q c.requires.fresh) (λ q region kept. g.met.S.BlockStore.keeps_within c.args.store.now q region kept) c.reserve.ensures.rests
          c.start_at-vault.result c.start_at-vault.ensures.ready (started_as c.closing_of-closing.result _ _ _ c.from-3.result c.start_at-vault.ensures.started refl c.from-3.ensures (omega arith))
          c.start_at-vault.ensures.keyed c.start_at-vault.ensures.empty c.read_closing.new.vault (g.S.BlockStore.state c.read_closing.new.store) c.in_ok-listed.listed c.in_ok-listed.ensures.reads c.in_err-reopen_tables.field-0.0 c.reopen_tables.new.vault (g.S.BlockStore.state c.reopen_tables.new.store) reopens);
    })

pub returns-in_default-tables_of : goal.returns-in_default-tables_of
returns-in_default-tables_of g c =
    let mid = at g.R.Revisions.state c.read_closing.new.vault (g.S.BlockStore.state c.read_closing.new.store) in
    let last = at g.R.Revisions.state c.reopen_tables.new.vault (g.S.BlockStore.state c.reopen_tables.new.store) in
    let reopens = subst (λ (l : List Listed). ReopensTables c.closing_of-closing.result l (Ok c.in_ok-reopen_tables.field-0) mid last) c.as_slice.ensures c.in_ok-reopen_tables.ensures.reopens in
    record {
      opens = λ closing is.
          let same = c.closing_of-closing.ensures c.args.config.pack closing is in
          let marked : IsMarked c.closing_of-closing.result = subst (λ (x : Closing). IsMarked x) (sym same) (closed_marked c.args.mark.now c.args.config.pack closing is) in
          let pack : c.closing_of-closing.result.pack ≡ c.args.config.pack = ap (λ (x : Closing). x.pack) same ∙ closed_pack c.args.mark.now c.args.config.pack closing is in
          subst (λ (x : Closing). OpensEngine {R = g.row.R.Denot} g.R.Revisions.state c.args.config c.args.keys x (Err NoMemory) (g.S.BlockStore.state c.args.store.now) (g.S.BlockStore.state c.reopen_tables.new.store)) same
          (opens_unlisted g.R.Revisions.state c.args.config c.args.keys c.closing_of-closing.result marked pack c.requires.config (g.S.BlockStore.state c.args.store.now) (g.S.BlockStore.state c.reserve.new.self) c.requires.fresh (g.met.S.BlockStore.starts_honest c.args.store.now c.requires.fresh)
          (λ q. g.met.S.BlockStore.starts_empty c.args.store.now q c.requires.fresh) (λ q region kept. g.met.S.BlockStore.keeps_within c.args.store.now q region kept) c.reserve.ensures.rests
          c.start_at-vault.result c.start_at-vault.ensures.ready (started_as c.closing_of-closing.result _ _ _ c.from-3.result c.start_at-vault.ensures.started refl c.from-3.ensures (omega arith))
          c.start_at-vault.ensures.keyed c.start_at-vault.ensures.empty c.read_closing.new.vault (g.S.BlockStore.state c.read_closing.new.store) c.in_ok-listed.listed c.in_ok-listed.ensures.reads c.in_ok-reopen_tables.field-0 (g.S.BlockStore.state c.reopen_tables.new.store) c.reopen_tables.new.vault reopens);
    }

pub returns : goal.returns
returns g c =
    let mid = at g.R.Revisions.state c.read_closing.new.vault (g.S.BlockStore.state c.read_closing.new.store) in
    let last = at g.R.Revisions.state c.reopen_tables.new.vault (g.S.BlockStore.state c.reopen_tables.new.store) in
    let reopens = subst (λ (l : List Listed). ReopensTables c.closing_of-closing.result l (Ok c.in_ok-reopen_tables.field-0) mid last) c.as_slice.ensures c.in_ok-reopen_tables.ensures.reopens in
    let e : Engine g.row.R.Denot = record {
      alloc = c.args.alloc;
      vault = c.reopen_tables.new.vault;
      room = c.read_closing.new.room;
      public = c.public_at.result;
      seen = c.seen_to_end.result;
      ended = false;
      closing = Some c.closing_of-closing.result.region;
      replaced = None;
      indexes = c.new-2.result;
      draws = c.new-draws.result;
    } in
    let public : e.public ≡ opened_public c.args.config c.closing_of-closing.result c.in_ok-listed.listed = c.public_at.ensures c.in_ok-listed.listed c.in-Ok-tables_of.ensures in
    let new : c.in-Ok.room ≡ record { rows = c.args.config.buffer; width = 1024; pack = c.args.config.pack; free = replicate c.args.config.buffer (clear 1024); shelf = []; high = 0 } =
    c.in-Ok.ensures ∙ (λ i. record { rows = c.args.config.buffer; width = 1024; pack = c.from-2.ensures i; free = replicate c.args.config.buffer (clear 1024); shelf = []; high = 0 }) in
    record {
      opens = λ closing is.
          let same = c.closing_of-closing.ensures c.args.config.pack closing is in
          let marked : IsMarked c.closing_of-closing.result = subst (λ (x : Closing). IsMarked x) (sym same) (closed_marked c.args.mark.now c.args.config.pack closing is) in
          let pack : c.closing_of-closing.result.pack ≡ c.args.config.pack = ap (λ (x : Closing). x.pack) same ∙ closed_pack c.args.mark.now c.args.config.pack closing is in
          subst (λ (x : Closing). OpensEngine {R = g.row.R.Denot} g.R.Revisions.state c.args.config c.args.keys x (Ok e) (g.S.BlockStore.state c.args.store.now) (g.S.BlockStore.state c.reopen_tables.new.store)) same
          (opens_all g.R.Revisions.state c.args.config c.args.keys c.closing_of-closing.result marked pack c.requires.config (g.S.BlockStore.state c.args.store.now) (g.S.BlockStore.state c.reserve.new.self) c.requires.fresh (g.met.S.BlockStore.starts_honest c.args.store.now c.requires.fresh)
          (λ q. g.met.S.BlockStore.starts_empty c.args.store.now q c.requires.fresh) (λ q region kept. g.met.S.BlockStore.keeps_within c.args.store.now q region kept) c.reserve.ensures.rests
          c.start_at-vault.result c.start_at-vault.ensures.ready (started_as c.closing_of-closing.result _ _ _ c.from-3.result c.start_at-vault.ensures.started refl c.from-3.ensures (omega arith))
          c.start_at-vault.ensures.keyed c.start_at-vault.ensures.empty c.read_closing.new.vault (g.S.BlockStore.state c.read_closing.new.store) c.in_ok-listed.listed c.in_ok-listed.ensures.reads c.in_ok-reopen_tables.field-0 (g.S.BlockStore.state c.reopen_tables.new.store) e reopens public refl c.new-2.ensures.items (c.new-draws.ensures ∙ (λ i. record { key = key_of (c.draw_seed.ensures i); next = 0 })) refl (room_read c.args.config e.public c.in-Ok.room c.read_closing.new.room c.requires.config new c.read_closing.ensures.room (ap (λ (p : Public). p.buffer) public) (ap (λ (p : Public). p.pack) public)) (high_read c.args.config c.in-Ok.room c.read_closing.new.room new c.read_closing.ensures.room) (rows_read c.args.config c.in-Ok.room c.read_closing.new.room new c.read_closing.ensures.room) refl);
    }
