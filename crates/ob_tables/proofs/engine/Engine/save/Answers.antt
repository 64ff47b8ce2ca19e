use Rattle.ob_tables.proofs.Words.{ap, AreSalted, catalogue_of, Engine, Err, false, HasBlock, length, List, Listed, MayAsk, Ok, subst, sym, WritesClosing, ◌+◌, ◌∙◌, ◌≤◌}
use Rattle.std.specs.List.{All}
use Rattle.ob_base.specs.declared.schema.Table.{Table}
use Rattle.ob_vault.specs.Places.{at}
use Rattle.ob_tables.specs.Saving.{SavesEngine}
use Rattle.ob_tables.proofs.ClosedLemmas.{have_blocks, used_is}
use Rattle.ob_tables.proofs.RunLemmas.{at_ok}
use Rattle.ob_tables.proofs.SaveLemmas.{few_cells, few_rows, may_save, saves_all, saves_cut, saves_none, saves_used, written_salt}
use Rattle.ob_tables.proofs.engine.Engine.save.Goals as goal

pub returns-then-is_used_up : goal.returns-then-is_used_up
returns-then-is_used_up g c =
    let old = c.args.self.now in
    let s = g.S.BlockStore.state c.args.store.now in
    record {
      saves = saves_used g.R.Revisions.state old s c.requires.agrees (sym (used_is g.R.Revisions.state old s c.requires.agrees c.requires.flat) ∙ sym c.is_used_up.ensures ∙ c.if-is_used_up.true);
    }

pub returns-then-is_err : goal.returns-then-is_err
returns-then-is_err g c =
    let old = c.args.self.now in
    let s = g.S.BlockStore.state c.args.store.now in
    record {
      saves = saves_none g.R.Revisions.state old s (g.S.BlockStore.state c.reserve.new.self) c.requires.agrees c.requires.flat (sym (used_is g.R.Revisions.state old s c.requires.agrees c.requires.flat) ∙ sym c.is_used_up.ensures ∙ c.if-is_used_up.false) c.reserve.ensures.rests;
    }

pub list_tables-requires : goal.list_tables-requires
list_tables-requires g c =
    let old = c.args.self.now in
    subst (λ (ts : List Table). All (λ (t : Table). HasBlock t.region (g.R.Revisions.state old.vault.revs)) ts) (sym c.as_slice-tables.ensures)
    (have_blocks g.R.Revisions.state old (g.S.BlockStore.state c.args.store.now) c.requires.agrees c.requires.flat)

pub returns-in_default : goal.returns-in_default
returns-in_default g c =
    let old = c.args.self.now in
    let s = g.S.BlockStore.state c.args.store.now in
    record {
      saves = saves_none g.R.Revisions.state old s (g.S.BlockStore.state c.reserve.new.self) c.requires.agrees c.requires.flat (sym (used_is g.R.Revisions.state old s c.requires.agrees c.requires.flat) ∙ sym c.is_used_up.ensures ∙ c.if-is_used_up.false) c.reserve.ensures.rests;
    }

pub write_closing-requires-clause-asks : goal.write_closing-requires-clause-asks
write_closing-requires-clause-asks g c =
    let old = c.args.self.now in
    let s = g.S.BlockStore.state c.args.store.now in
    let listed = c.as_slice.ensures ∙ c.in-Ok.ensures.listed ∙ ap (catalogue_of old.vault.keys (g.R.Revisions.state old.vault.revs)) c.as_slice-tables.ensures in
    let salts = subst (AreSalted old.vault.keys) c.as_slice-tables.ensures c.in-Ok.ensures.salts in
    let spare : 4 + length old.public.tables ≤ (g.S.BlockStore.state c.reserve.new.self).spare = subst (λ (ts : List Table). 4 + length ts ≤ (g.S.BlockStore.state c.reserve.new.self).spare) c.as_slice-tables.ensures
    (at_ok c.reserve.result _ (sym c.is_err.ensures.value ∙ c.if-is_err.false) c.reserve.ensures.spare) in
    subst (λ (l : List Listed). MayAsk (2 + length l) (at g.R.Revisions.state old.vault (g.S.BlockStore.state c.reserve.new.self))) (sym listed)
    (may_save g.R.Revisions.state old s (g.S.BlockStore.state c.reserve.new.self) c.requires.agrees c.requires.flat (sym (used_is g.R.Revisions.state old s c.requires.agrees c.requires.flat) ∙ sym c.is_used_up.ensures ∙ c.if-is_used_up.false) c.reserve.ensures.rests salts c.requires.few spare)

pub write_closing-requires-clause-few : goal.write_closing-requires-clause-few
write_closing-requires-clause-few g c =
    let old = c.args.self.now in
    let s = g.S.BlockStore.state c.args.store.now in
    let listed = c.as_slice.ensures ∙ c.in-Ok.ensures.listed ∙ ap (catalogue_of old.vault.keys (g.R.Revisions.state old.vault.revs)) c.as_slice-tables.ensures in
    let salts = subst (AreSalted old.vault.keys) c.as_slice-tables.ensures c.in-Ok.ensures.salts in
    subst (λ (l : List Listed). length l ≤ 64) (sym listed)
    (few_rows g.R.Revisions.state old s (g.S.BlockStore.state c.reserve.new.self) c.requires.agrees c.requires.flat (sym (used_is g.R.Revisions.state old s c.requires.agrees c.requires.flat) ∙ sym c.is_used_up.ensures ∙ c.if-is_used_up.false) c.reserve.ensures.rests salts)

pub write_closing-requires-clause-columns : goal.write_closing-requires-clause-columns
write_closing-requires-clause-columns g c =
    let old = c.args.self.now in
    let s = g.S.BlockStore.state c.args.store.now in
    let listed = c.as_slice.ensures ∙ c.in-Ok.ensures.listed ∙ ap (catalogue_of old.vault.keys (g.R.Revisions.state old.vault.revs)) c.as_slice-tables.ensures in
    let salts = subst (AreSalted old.vault.keys) c.as_slice-tables.ensures c.in-Ok.ensures.salts in
    subst (λ (l : List Listed). All (λ (t : Listed). length t.table.heading.schema ≤ 16) l) (sym listed)
    (few_cells g.R.Revisions.state old s (g.S.BlockStore.state c.reserve.new.self) c.requires.agrees c.requires.flat (sym (used_is g.R.Revisions.state old s c.requires.agrees c.requires.flat) ∙ sym c.is_used_up.ensures ∙ c.if-is_used_up.false) c.reserve.ensures.rests salts)

pub unreachable-requires : goal.unreachable-requires
unreachable-requires g c =
    let old = c.args.self.now in
    let s = g.S.BlockStore.state c.args.store.now in
    let listed = c.as_slice.ensures ∙ c.in-Ok.ensures.listed ∙ ap (catalogue_of old.vault.keys (g.R.Revisions.state old.vault.revs)) c.as_slice-tables.ensures in
    let salts = subst (AreSalted old.vault.keys) c.as_slice-tables.ensures c.in-Ok.ensures.salts in
    let spare : 4 + length old.public.tables ≤ (g.S.BlockStore.state c.reserve.new.self).spare = subst (λ (ts : List Table). 4 + length ts ≤ (g.S.BlockStore.state c.reserve.new.self).spare) c.as_slice-tables.ensures
    (at_ok c.reserve.result _ (sym c.is_err.ensures.value ∙ c.if-is_err.false) c.reserve.ensures.spare) in
    let fore = at g.R.Revisions.state old.vault (g.S.BlockStore.state c.reserve.new.self) in
    let last = at g.R.Revisions.state c.write_closing.new.vault (g.S.BlockStore.state c.write_closing.new.store) in
    let made = c.in-Ok-write_closing.written in
    let writes = subst (λ (l : List Listed). WritesClosing old.room.pack l (Ok made) fore last) listed c.in-Ok-write_closing.ensures.writes in
    let same = written_salt g.R.Revisions.state old s (g.S.BlockStore.state c.reserve.new.self) c.requires.agrees c.requires.flat (sym (used_is g.R.Revisions.state old s c.requires.agrees c.requires.flat) ∙ sym c.is_used_up.ensures ∙ c.if-is_used_up.false) c.reserve.ensures.rests salts c.requires.few spare
    c.write_closing.new.vault c.write_closing.new.room c.write_closing.ensures.room (g.S.BlockStore.state c.write_closing.new.store) made writes in
    absurd (c.requires.salted (sym same ∙ sym c.in_default-salt_of.ensures.value))

pub returns-in-Ok-write_closing : goal.returns-in-Ok-write_closing
returns-in-Ok-write_closing g c =
    let old = c.args.self.now in
    let s = g.S.BlockStore.state c.args.store.now in
    let listed = c.as_slice.ensures ∙ c.in-Ok.ensures.listed ∙ ap (catalogue_of old.vault.keys (g.R.Revisions.state old.vault.revs)) c.as_slice-tables.ensures in
    let salts = subst (AreSalted old.vault.keys) c.as_slice-tables.ensures c.in-Ok.ensures.salts in
    let spare : 4 + length old.public.tables ≤ (g.S.BlockStore.state c.reserve.new.self).spare = subst (λ (ts : List Table). 4 + length ts ≤ (g.S.BlockStore.state c.reserve.new.self).spare) c.as_slice-tables.ensures
    (at_ok c.reserve.result _ (sym c.is_err.ensures.value ∙ c.if-is_err.false) c.reserve.ensures.spare) in
    let fore = at g.R.Revisions.state old.vault (g.S.BlockStore.state c.reserve.new.self) in
    let last = at g.R.Revisions.state c.write_closing.new.vault (g.S.BlockStore.state c.write_closing.new.store) in
    let made = c.in-Ok-write_closing.written in
    let writes = subst (λ (l : List Listed). WritesClosing old.room.pack l (Ok made) fore last) listed c.in-Ok-write_closing.ensures.writes in
    let t = g.S.BlockStore.state c.write_closing.new.store in
    record {
      saves =
          subst (λ (e : Engine g.row.R.Denot). SavesEngine g.R.Revisions.state (Ok c.mark_of.result) old s e t) (sym (ap (λ (e : Engine g.row.R.Denot). record e { ended = false }) c.list_in.ensures.listed))
          (saves_all g.R.Revisions.state old s (g.S.BlockStore.state c.reserve.new.self) c.requires.agrees c.requires.flat (sym (used_is g.R.Revisions.state old s c.requires.agrees c.requires.flat) ∙ sym c.is_used_up.ensures ∙ c.if-is_used_up.false) c.reserve.ensures.rests salts c.requires.few spare
          c.write_closing.new.vault c.write_closing.new.room c.write_closing.ensures.room t made writes
          (λ q shape tells live. g.met.S.BlockStore.keeps_live c.write_closing.new.store q shape tells live)
          c.list_in.new.self.vault c.list_in.ensures.forgets c.list_in.ensures.stays
          c.mark_of.result c.in-Some.salt c.check_of-check.result c.mark_of.ensures.bytes (sym c.in-Some.ensures.value) c.check_of-check.ensures c.mark_of.ensures.named);
    }

pub returns : goal.returns
returns g c =
    let old = c.args.self.now in
    let s = g.S.BlockStore.state c.args.store.now in
    let listed = c.as_slice.ensures ∙ c.in-Ok.ensures.listed ∙ ap (catalogue_of old.vault.keys (g.R.Revisions.state old.vault.revs)) c.as_slice-tables.ensures in
    let salts = subst (AreSalted old.vault.keys) c.as_slice-tables.ensures c.in-Ok.ensures.salts in
    let spare : 4 + length old.public.tables ≤ (g.S.BlockStore.state c.reserve.new.self).spare = subst (λ (ts : List Table). 4 + length ts ≤ (g.S.BlockStore.state c.reserve.new.self).spare) c.as_slice-tables.ensures
    (at_ok c.reserve.result _ (sym c.is_err.ensures.value ∙ c.if-is_err.false) c.reserve.ensures.spare) in
    let fore = at g.R.Revisions.state old.vault (g.S.BlockStore.state c.reserve.new.self) in
    let last = at g.R.Revisions.state c.write_closing.new.vault (g.S.BlockStore.state c.write_closing.new.store) in
    record {
      saves =
          saves_cut g.R.Revisions.state old s (g.S.BlockStore.state c.reserve.new.self) c.requires.agrees c.requires.flat (sym (used_is g.R.Revisions.state old s c.requires.agrees c.requires.flat) ∙ sym c.is_used_up.ensures ∙ c.if-is_used_up.false) c.reserve.ensures.rests salts c.requires.few spare
          c.write_closing.new.vault c.write_closing.new.room c.write_closing.ensures.room (g.S.BlockStore.state c.write_closing.new.store) c.in-Err.e
          (subst (λ (l : List Listed). WritesClosing old.room.pack l (Err c.in-Err.e) fore last) listed c.in-Err.ensures.writes);
    }
