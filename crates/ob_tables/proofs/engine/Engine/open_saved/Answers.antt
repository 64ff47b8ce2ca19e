use Rattle.ob_tables.proofs.Words.{ap, arith, Closing, draw_seed_of, DrawPlace, Engine, Err, false, IsCatalogue, IsMarked, key_of, KeySet, length, List, Listed, None, Ok, opened_public, Public, refl, ReopensTables, replicate, Some, subst, sym, ℕ, [], ◌*◌, ◌∙◌, ◌≡◌, ◌≤◌}
use Rattle.std.proofs.lemmas.Result.{err_from_is_err_and}
use Rattle.ob_room.specs.RoomState.{clear}
use Rattle.ob_vault.specs.Places.{at}
use Rattle.ob_vault.specs.Rekeying.{rekeyed}
use Rattle.ob_reopen.specs.declared.fault.OpenErr.TheVariants.{NoMemory}
use Rattle.ob_reopen.specs.Saved.{reopening_keys}
use Rattle.ob_tables.proofs.RunLemmas.{at_ok}
use Rattle.ob_tables.proofs.OpeningLemmas.{follows, high_read, room_read, rows_read, started_as}
use Rattle.ob_tables.proofs.OpenSavedLemmas.{named_marked, named_saved, reads_first, saved_none, saved_open, saved_shut, saved_unkeyed, saved_unlisted, saved_unread, spare_first}
use Rattle.ob_tables.proofs.engine.Engine.open_saved.Goals as goal

pub returns-then-is_err : goal.returns-then-is_err
returns-then-is_err g c =
    record {
      opens = named_saved {R = g.row.R.Denot} g.R.Revisions.state c.args.config c.args.secret.now c.args.salt.now c.args.mark.now c.closing_of-closed.result.0 c.closing_of-closed.result.1 (Err NoMemory) (g.S.BlockStore.state c.args.store.now) (g.S.BlockStore.state c.reserve.new.self) c.closing_of-closed.ensures
          (λ marked pack. saved_none g.R.Revisions.state c.args.config c.args.secret.now c.args.salt.now c.closing_of-closed.result.1 c.closing_of-closed.result.0 marked (g.S.BlockStore.state c.args.store.now) (g.S.BlockStore.state c.reserve.new.self) c.requires.fresh (g.met.S.BlockStore.starts_honest c.args.store.now c.requires.fresh) (λ q. g.met.S.BlockStore.starts_empty c.args.store.now q c.requires.fresh) c.reserve.ensures.rests);
    }

pub returns-in_default : goal.returns-in_default
returns-in_default g c =
    record {
      opens = named_saved {R = g.row.R.Denot} g.R.Revisions.state c.args.config c.args.secret.now c.args.salt.now c.args.mark.now c.closing_of-closed.result.0 c.closing_of-closed.result.1 (Err NoMemory) (g.S.BlockStore.state c.args.store.now) (g.S.BlockStore.state c.reserve.new.self) c.closing_of-closed.ensures
          (λ marked pack. saved_none g.R.Revisions.state c.args.config c.args.secret.now c.args.salt.now c.closing_of-closed.result.1 c.closing_of-closed.result.0 marked (g.S.BlockStore.state c.args.store.now) (g.S.BlockStore.state c.reserve.new.self) c.requires.fresh (g.met.S.BlockStore.starts_honest c.args.store.now c.requires.fresh) (λ q. g.met.S.BlockStore.starts_empty c.args.store.now q c.requires.fresh) c.reserve.ensures.rests);
    }

pub returns-in_default-keys_from : goal.returns-in_default-keys_from
returns-in_default-keys_from g c =
    record {
      opens = named_saved {R = g.row.R.Denot} g.R.Revisions.state c.args.config c.args.secret.now c.args.salt.now c.args.mark.now c.closing_of-closed.result.0 c.closing_of-closed.result.1 (Err NoMemory) (g.S.BlockStore.state c.args.store.now) (g.S.BlockStore.state c.reserve.new.self) c.closing_of-closed.ensures
          (λ marked pack. saved_none g.R.Revisions.state c.args.config c.args.secret.now c.args.salt.now c.closing_of-closed.result.1 c.closing_of-closed.result.0 marked (g.S.BlockStore.state c.args.store.now) (g.S.BlockStore.state c.reserve.new.self) c.requires.fresh (g.met.S.BlockStore.starts_honest c.args.store.now c.requires.fresh) (λ q. g.met.S.BlockStore.starts_empty c.args.store.now q c.requires.fresh) c.reserve.ensures.rests);
    }

pub read_closing-requires-clause-marked : goal.read_closing-requires-clause-marked
read_closing-requires-clause-marked g c =
    let closed = c.requires.closed in
    let same = c.closing_of-closed.ensures c.args.config.pack closed.0 closed.1 closed.2 in
    let marked : IsMarked c.closing_of-closed.result.0 = subst (λ (x : Closing). IsMarked x) (sym same.0) (named_marked c.args.mark.now c.args.config.pack closed.0 closed.1 closed.2) in
    marked

pub read_closing-requires-clause-follows : goal.read_closing-requires-clause-follows
read_closing-requires-clause-follows g c =
    let closed = c.requires.closed in
    let same = c.closing_of-closed.ensures c.args.config.pack closed.0 closed.1 closed.2 in
    let marked : IsMarked c.closing_of-closed.result.0 = subst (λ (x : Closing). IsMarked x) (sym same.0) (named_marked c.args.mark.now c.args.config.pack closed.0 closed.1 closed.2) in
    let made : 2 * c.from.result ≤ (g.S.BlockStore.state c.reserve.new.self).spare = at_ok c.reserve.result _ (sym c.is_err.ensures.value ∙ c.if-is_err.false) c.reserve.ensures.spare in
    follows g.R.Revisions.state c.args.config (reopening_keys c.args.secret.now c.args.salt.now c.closing_of-closed.result.1 c.closing_of-closed.result.0 []) c.closing_of-closed.result.0 marked (g.S.BlockStore.state c.args.store.now) (g.S.BlockStore.state c.reserve.new.self) c.requires.fresh (g.met.S.BlockStore.starts_honest c.args.store.now c.requires.fresh) c.reserve.ensures.rests
    c.start_at-vault.result c.start_at-vault.ensures.ready (started_as c.closing_of-closed.result.0 _ _ _ c.from-3.result c.start_at-vault.ensures.started refl c.from-3.ensures (omega arith))
    (c.start_at-vault.ensures.keyed ∙ c.in-Ok-keys_from.ensures) c.start_at-vault.ensures.empty (subst (λ (n : ℕ). 2 * n ≤ (g.S.BlockStore.state c.reserve.new.self).spare) c.from.ensures made)

pub returns-in_err-listed : goal.returns-in_err-listed
returns-in_err-listed g c =
    let p = err_from_is_err_and c.from_residual.result c.from_residual.ensures.1 in
    rw (p.1, p.2) (record {
      opens = named_saved {R = g.row.R.Denot} g.R.Revisions.state c.args.config c.args.secret.now c.args.salt.now c.args.mark.now c.closing_of-closed.result.0 c.closing_of-closed.result.1 (Err c.in_err-listed.field-0.0) (g.S.BlockStore.state c.args.store.now) (g.S.BlockStore.state c.read_closing.new.store) c.closing_of-closed.ensures
          (λ marked pack. saved_unread g.R.Revisions.state c.args.config c.args.secret.now c.args.salt.now c.closing_of-closed.result.1 c.closing_of-closed.result.0 marked (g.S.BlockStore.state c.args.store.now) (g.S.BlockStore.state c.reserve.new.self) c.requires.fresh (g.met.S.BlockStore.starts_honest c.args.store.now c.requires.fresh) (λ q. g.met.S.BlockStore.starts_empty c.args.store.now q c.requires.fresh) c.reserve.ensures.rests c.start_at-vault.result c.start_at-vault.ensures.ready (started_as c.closing_of-closed.result.0 _ _ _ c.from-3.result c.start_at-vault.ensures.started refl c.from-3.ensures (omega arith)) (c.start_at-vault.ensures.keyed ∙ c.in-Ok-keys_from.ensures) c.start_at-vault.ensures.empty c.read_closing.new.vault (g.S.BlockStore.state c.read_closing.new.store) c.in_err-listed.field-0.0 c.in_err-listed.ensures.reads);
    })

pub returns-in_default-keys_from-2 : goal.returns-in_default-keys_from-2
returns-in_default-keys_from-2 g c =
    record {
      opens = named_saved {R = g.row.R.Denot} g.R.Revisions.state c.args.config c.args.secret.now c.args.salt.now c.args.mark.now c.closing_of-closed.result.0 c.closing_of-closed.result.1 (Err NoMemory) (g.S.BlockStore.state c.args.store.now) (g.S.BlockStore.state c.read_closing.new.store) c.closing_of-closed.ensures
          (λ marked pack. saved_unkeyed g.R.Revisions.state c.args.config c.args.secret.now c.args.salt.now c.closing_of-closed.result.1 c.closing_of-closed.result.0 marked (g.S.BlockStore.state c.args.store.now) (g.S.BlockStore.state c.reserve.new.self) c.requires.fresh (g.met.S.BlockStore.starts_honest c.args.store.now c.requires.fresh) (λ q. g.met.S.BlockStore.starts_empty c.args.store.now q c.requires.fresh) c.reserve.ensures.rests c.start_at-vault.result c.start_at-vault.ensures.ready (started_as c.closing_of-closed.result.0 _ _ _ c.from-3.result c.start_at-vault.ensures.started refl c.from-3.ensures (omega arith)) (c.start_at-vault.ensures.keyed ∙ c.in-Ok-keys_from.ensures) c.start_at-vault.ensures.empty c.read_closing.new.vault (g.S.BlockStore.state c.read_closing.new.store) c.in_ok-listed.listed c.in_ok-listed.ensures.reads);
    }

pub reopen_tables-requires-clause-marked : goal.reopen_tables-requires-clause-marked
reopen_tables-requires-clause-marked g c =
    let closed = c.requires.closed in
    let same = c.closing_of-closed.ensures c.args.config.pack closed.0 closed.1 closed.2 in
    let marked : IsMarked c.closing_of-closed.result.0 = subst (λ (x : Closing). IsMarked x) (sym same.0) (named_marked c.args.mark.now c.args.config.pack closed.0 closed.1 closed.2) in
    marked

pub reopen_tables-requires-clause-catalogue : goal.reopen_tables-requires-clause-catalogue
reopen_tables-requires-clause-catalogue g c =
    subst (λ (l : List Listed). IsCatalogue c.closing_of-closed.result.0 l) (sym c.as_slice-2.ensures) c.in_ok-listed.ensures.reads.catalogue

pub reopen_tables-requires-clause-awaits : goal.reopen_tables-requires-clause-awaits
reopen_tables-requires-clause-awaits g c =
    let closed = c.requires.closed in
    let same = c.closing_of-closed.ensures c.args.config.pack closed.0 closed.1 closed.2 in
    let marked : IsMarked c.closing_of-closed.result.0 = subst (λ (x : Closing). IsMarked x) (sym same.0) (named_marked c.args.mark.now c.args.config.pack closed.0 closed.1 closed.2) in
    let keyed : c.in-Ok-keys_from-2.keys ≡ reopening_keys c.args.secret.now c.args.salt.now c.closing_of-closed.result.1 c.closing_of-closed.result.0 c.in_ok-listed.listed =
    c.in-Ok-keys_from-2.ensures ∙ ap (reopening_keys c.args.secret.now c.args.salt.now c.closing_of-closed.result.1 c.closing_of-closed.result.0) c.as_slice.ensures in
    (reads_first g.R.Revisions.state c.args.config c.args.secret.now c.args.salt.now c.closing_of-closed.result.1 c.closing_of-closed.result.0 marked (g.S.BlockStore.state c.args.store.now) (g.S.BlockStore.state c.reserve.new.self) c.requires.fresh (g.met.S.BlockStore.starts_honest c.args.store.now c.requires.fresh) (λ q. g.met.S.BlockStore.starts_empty c.args.store.now q c.requires.fresh) c.reserve.ensures.rests c.start_at-vault.result c.start_at-vault.ensures.ready (started_as c.closing_of-closed.result.0 _ _ _ c.from-3.result c.start_at-vault.ensures.started refl c.from-3.ensures (omega arith)) (c.start_at-vault.ensures.keyed ∙ c.in-Ok-keys_from.ensures) c.start_at-vault.ensures.empty c.read_closing.new.vault (g.S.BlockStore.state c.read_closing.new.store) c.in_ok-listed.listed c.in_ok-listed.ensures.reads c.rekey.new.self (λ x. c.rekey.ensures x ∙ ap (λ (k : KeySet). rekeyed k (at g.R.Revisions.state c.read_closing.new.vault x)) keyed)).awaits

pub reopen_tables-requires-clause-spare : goal.reopen_tables-requires-clause-spare
reopen_tables-requires-clause-spare g c =
    let closed = c.requires.closed in
    let same = c.closing_of-closed.ensures c.args.config.pack closed.0 closed.1 closed.2 in
    let marked : IsMarked c.closing_of-closed.result.0 = subst (λ (x : Closing). IsMarked x) (sym same.0) (named_marked c.args.mark.now c.args.config.pack closed.0 closed.1 closed.2) in
    let made : 2 * c.from.result ≤ (g.S.BlockStore.state c.reserve.new.self).spare = at_ok c.reserve.result _ (sym c.is_err.ensures.value ∙ c.if-is_err.false) c.reserve.ensures.spare in
    let keyed : c.in-Ok-keys_from-2.keys ≡ reopening_keys c.args.secret.now c.args.salt.now c.closing_of-closed.result.1 c.closing_of-closed.result.0 c.in_ok-listed.listed =
    c.in-Ok-keys_from-2.ensures ∙ ap (reopening_keys c.args.secret.now c.args.salt.now c.closing_of-closed.result.1 c.closing_of-closed.result.0) c.as_slice.ensures in
    subst (λ (l : List Listed). length l ≤ (g.S.BlockStore.state c.read_closing.new.store).spare) (sym c.as_slice-2.ensures)
    (spare_first g.R.Revisions.state c.args.config c.args.secret.now c.args.salt.now c.closing_of-closed.result.1 c.closing_of-closed.result.0 marked (g.S.BlockStore.state c.args.store.now) (g.S.BlockStore.state c.reserve.new.self) c.requires.fresh (g.met.S.BlockStore.starts_honest c.args.store.now c.requires.fresh) (λ q. g.met.S.BlockStore.starts_empty c.args.store.now q c.requires.fresh) c.reserve.ensures.rests c.start_at-vault.result c.start_at-vault.ensures.ready (started_as c.closing_of-closed.result.0 _ _ _ c.from-3.result c.start_at-vault.ensures.started refl c.from-3.ensures (omega arith)) (c.start_at-vault.ensures.keyed ∙ c.in-Ok-keys_from.ensures) c.start_at-vault.ensures.empty c.read_closing.new.vault (g.S.BlockStore.state c.read_closing.new.store) c.in_ok-listed.listed c.in_ok-listed.ensures.reads c.rekey.new.self (λ x. c.rekey.ensures x ∙ ap (λ (k : KeySet). rekeyed k (at g.R.Revisions.state c.read_closing.new.vault x)) keyed) (subst (λ (n : ℕ). 2 * n ≤ (g.S.BlockStore.state c.reserve.new.self).spare) c.from.ensures made))

pub returns-in_err-reopen_tables : goal.returns-in_err-reopen_tables
returns-in_err-reopen_tables g c =
    let p = err_from_is_err_and c.from_residual-in_err-reopen_tables.result c.from_residual-in_err-reopen_tables.ensures.1 in
    let keyed : c.in-Ok-keys_from-2.keys ≡ reopening_keys c.args.secret.now c.args.salt.now c.closing_of-closed.result.1 c.closing_of-closed.result.0 c.in_ok-listed.listed =
    c.in-Ok-keys_from-2.ensures ∙ ap (reopening_keys c.args.secret.now c.args.salt.now c.closing_of-closed.result.1 c.closing_of-closed.result.0) c.as_slice.ensures in
    let mid = at g.R.Revisions.state c.rekey.new.self (g.S.BlockStore.state c.read_closing.new.store) in
    let last = at g.R.Revisions.state c.reopen_tables.new.vault (g.S.BlockStore.state c.reopen_tables.new.store) in
    let reopens = subst (λ (l : List Listed). ReopensTables {T = Unit {0}} c.closing_of-closed.result.0 l (Err c.in_err-reopen_tables.field-0.0) mid last) c.as_slice-2.ensures c.in_err-reopen_tables.ensures.reopens in
    rw (p.1, p.2) (record {
      opens = named_saved {R = g.row.R.Denot} g.R.Revisions.state c.args.config c.args.secret.now c.args.salt.now c.args.mark.now c.closing_of-closed.result.0 c.closing_of-closed.result.1 (Err c.in_err-reopen_tables.field-0.0) (g.S.BlockStore.state c.args.store.now) (g.S.BlockStore.state c.reopen_tables.new.store) c.closing_of-closed.ensures
          (λ marked pack. saved_shut g.R.Revisions.state c.args.config c.args.secret.now c.args.salt.now c.closing_of-closed.result.1 c.closing_of-closed.result.0 marked (g.S.BlockStore.state c.args.store.now) (g.S.BlockStore.state c.reserve.new.self) c.requires.fresh (g.met.S.BlockStore.starts_honest c.args.store.now c.requires.fresh) (λ q. g.met.S.BlockStore.starts_empty c.args.store.now q c.requires.fresh) c.reserve.ensures.rests c.start_at-vault.result c.start_at-vault.ensures.ready (started_as c.closing_of-closed.result.0 _ _ _ c.from-3.result c.start_at-vault.ensures.started refl c.from-3.ensures (omega arith)) (c.start_at-vault.ensures.keyed ∙ c.in-Ok-keys_from.ensures) c.start_at-vault.ensures.empty c.read_closing.new.vault (g.S.BlockStore.state c.read_closing.new.store) c.in_ok-listed.listed c.in_ok-listed.ensures.reads c.rekey.new.self (λ x. c.rekey.ensures x ∙ ap (λ (k : KeySet). rekeyed k (at g.R.Revisions.state c.read_closing.new.vault x)) keyed) pack c.requires.config (λ q region kept. g.met.S.BlockStore.keeps_within c.args.store.now q region kept) c.in_err-reopen_tables.field-0.0 c.reopen_tables.new.vault (g.S.BlockStore.state c.reopen_tables.new.store) reopens);
    })

pub returns-in_default-tables_of : goal.returns-in_default-tables_of
returns-in_default-tables_of g c =
    let keyed : c.in-Ok-keys_from-2.keys ≡ reopening_keys c.args.secret.now c.args.salt.now c.closing_of-closed.result.1 c.closing_of-closed.result.0 c.in_ok-listed.listed =
    c.in-Ok-keys_from-2.ensures ∙ ap (reopening_keys c.args.secret.now c.args.salt.now c.closing_of-closed.result.1 c.closing_of-closed.result.0) c.as_slice.ensures in
    let mid = at g.R.Revisions.state c.rekey.new.self (g.S.BlockStore.state c.read_closing.new.store) in
    let last = at g.R.Revisions.state c.reopen_tables.new.vault (g.S.BlockStore.state c.reopen_tables.new.store) in
    let reopens = subst (λ (l : List Listed). ReopensTables c.closing_of-closed.result.0 l (Ok c.in_ok-reopen_tables.field-0) mid last) c.as_slice-2.ensures c.in_ok-reopen_tables.ensures.reopens in
    record {
      opens = named_saved {R = g.row.R.Denot} g.R.Revisions.state c.args.config c.args.secret.now c.args.salt.now c.args.mark.now c.closing_of-closed.result.0 c.closing_of-closed.result.1 (Err NoMemory) (g.S.BlockStore.state c.args.store.now) (g.S.BlockStore.state c.reopen_tables.new.store) c.closing_of-closed.ensures
          (λ marked pack. saved_unlisted g.R.Revisions.state c.args.config c.args.secret.now c.args.salt.now c.closing_of-closed.result.1 c.closing_of-closed.result.0 marked (g.S.BlockStore.state c.args.store.now) (g.S.BlockStore.state c.reserve.new.self) c.requires.fresh (g.met.S.BlockStore.starts_honest c.args.store.now c.requires.fresh) (λ q. g.met.S.BlockStore.starts_empty c.args.store.now q c.requires.fresh) c.reserve.ensures.rests c.start_at-vault.result c.start_at-vault.ensures.ready (started_as c.closing_of-closed.result.0 _ _ _ c.from-3.result c.start_at-vault.ensures.started refl c.from-3.ensures (omega arith)) (c.start_at-vault.ensures.keyed ∙ c.in-Ok-keys_from.ensures) c.start_at-vault.ensures.empty c.read_closing.new.vault (g.S.BlockStore.state c.read_closing.new.store) c.in_ok-listed.listed c.in_ok-listed.ensures.reads c.rekey.new.self (λ x. c.rekey.ensures x ∙ ap (λ (k : KeySet). rekeyed k (at g.R.Revisions.state c.read_closing.new.vault x)) keyed) pack c.requires.config (λ q region kept. g.met.S.BlockStore.keeps_within c.args.store.now q region kept) c.in_ok-reopen_tables.field-0 (g.S.BlockStore.state c.reopen_tables.new.store) c.reopen_tables.new.vault reopens);
    }

pub returns : goal.returns
returns g c =
    let keyed : c.in-Ok-keys_from-2.keys ≡ reopening_keys c.args.secret.now c.args.salt.now c.closing_of-closed.result.1 c.closing_of-closed.result.0 c.in_ok-listed.listed =
    c.in-Ok-keys_from-2.ensures ∙ ap (reopening_keys c.args.secret.now c.args.salt.now c.closing_of-closed.result.1 c.closing_of-closed.result.0) c.as_slice.ensures in
    let mid = at g.R.Revisions.state c.rekey.new.self (g.S.BlockStore.state c.read_closing.new.store) in
    let last = at g.R.Revisions.state c.reopen_tables.new.vault (g.S.BlockStore.state c.reopen_tables.new.store) in
    let reopens = subst (λ (l : List Listed). ReopensTables c.closing_of-closed.result.0 l (Ok c.in_ok-reopen_tables.field-0) mid last) c.as_slice-2.ensures c.in_ok-reopen_tables.ensures.reopens in
    let e : Engine g.row.R.Denot = record {
      alloc = c.args.alloc;
      vault = c.reopen_tables.new.vault;
      room = c.read_closing.new.room;
      public = c.public_at.result;
      seen = c.seen_to_end.result;
      ended = false;
      closing = Some c.closing_of-closed.result.0.region;
      replaced = None;
      indexes = c.new-2.result;
      draws = c.new-draws.result;
    } in
    let public : e.public ≡ opened_public c.args.config c.closing_of-closed.result.0 c.in_ok-listed.listed = c.public_at.ensures c.in_ok-listed.listed c.in-Ok-tables_of.ensures in
    let new : c.in-Ok.room ≡ record { rows = c.args.config.buffer; width = 1024; pack = c.args.config.pack; free = replicate c.args.config.buffer (clear 1024); shelf = []; high = 0 } =
    c.in-Ok.ensures ∙ (λ i. record { rows = c.args.config.buffer; width = 1024; pack = c.from-2.ensures i; free = replicate c.args.config.buffer (clear 1024); shelf = []; high = 0 }) in
    let drawn : e.draws ≡ record { key = key_of (draw_seed_of (reopening_keys c.args.secret.now c.args.salt.now c.closing_of-closed.result.1 c.closing_of-closed.result.0 c.in_ok-listed.listed)); next = 0 } =
    c.new-draws.ensures ∙ (λ i. record { key = key_of (c.draw_seed.ensures i); next = 0 }) ∙ ap (λ (k : KeySet). let place : DrawPlace = record { key = key_of (draw_seed_of k); next = 0 } in place) keyed in
    record {
      opens = named_saved {R = g.row.R.Denot} g.R.Revisions.state c.args.config c.args.secret.now c.args.salt.now c.args.mark.now c.closing_of-closed.result.0 c.closing_of-closed.result.1 (Ok e) (g.S.BlockStore.state c.args.store.now) (g.S.BlockStore.state c.reopen_tables.new.store) c.closing_of-closed.ensures
          (λ marked pack. saved_open g.R.Revisions.state c.args.config c.args.secret.now c.args.salt.now c.closing_of-closed.result.1 c.closing_of-closed.result.0 marked (g.S.BlockStore.state c.args.store.now) (g.S.BlockStore.state c.reserve.new.self) c.requires.fresh (g.met.S.BlockStore.starts_honest c.args.store.now c.requires.fresh) (λ q. g.met.S.BlockStore.starts_empty c.args.store.now q c.requires.fresh) c.reserve.ensures.rests c.start_at-vault.result c.start_at-vault.ensures.ready (started_as c.closing_of-closed.result.0 _ _ _ c.from-3.result c.start_at-vault.ensures.started refl c.from-3.ensures (omega arith)) (c.start_at-vault.ensures.keyed ∙ c.in-Ok-keys_from.ensures) c.start_at-vault.ensures.empty c.read_closing.new.vault (g.S.BlockStore.state c.read_closing.new.store) c.in_ok-listed.listed c.in_ok-listed.ensures.reads c.rekey.new.self (λ x. c.rekey.ensures x ∙ ap (λ (k : KeySet). rekeyed k (at g.R.Revisions.state c.read_closing.new.vault x)) keyed) pack c.requires.config (λ q region kept. g.met.S.BlockStore.keeps_within c.args.store.now q region kept) c.in_ok-reopen_tables.field-0 (g.S.BlockStore.state c.reopen_tables.new.store) e reopens public refl c.new-2.ensures.items drawn refl
          (room_read c.args.config e.public c.in-Ok.room c.read_closing.new.room c.requires.config new c.read_closing.ensures.room (ap (λ (p : Public). p.buffer) public) (ap (λ (p : Public). p.pack) public))
          (high_read c.args.config c.in-Ok.room c.read_closing.new.room new c.read_closing.ensures.room) (rows_read c.args.config c.in-Ok.room c.read_closing.new.room new c.read_closing.ensures.room) refl);
    }
