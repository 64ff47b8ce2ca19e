use Rattle.ob_tables.proofs.Words.{ap, AreSalted, catalogue_of, Err, HasBlock, length, List, Listed, MayAsk, Ok, StoreState, subst, sym, WritesClosing, ℕ, ◌+◌, ◌∙◌, ◌≤◌}
use Rattle.std.specs.List.{All}
use Rattle.ob_base.specs.declared.schema.Table.{Table}
use Rattle.ob_vault.specs.Places.{at}
use Rattle.ob_tables.proofs.GivenUpLemmas.{none_behind}
use Rattle.ob_tables.proofs.RunLemmas.{at_ok}
use Rattle.ob_vault.specs.State.{HasNoneFrom}
use Rattle.ob_tables.specs.Closing.{ClosesEngine}
use Rattle.ob_tables.proofs.ClosedLemmas.{closes_all, closes_cut, closes_none, few_columns, few_listed, have_blocks, lives_fore, may_write, ready_fore, used_is}
use Rattle.ob_tables.proofs.engine.Engine.close.Goals as goal

pub returns-then-is_err : goal.returns-then-is_err
returns-then-is_err g c =
    let old = c.args.self in
    let s = g.S.BlockStore.state c.args.store.now in
    record {
      closes =
          closes_none g.R.Revisions.state old s c.requires.agrees c.requires.flat (sym (used_is g.R.Revisions.state old s c.requires.agrees c.requires.flat) ∙ sym c.is_used_up.ensures ∙ c.if-is_used_up.false)
          (g.S.BlockStore.state c.reserve.new.self) c.reserve.ensures.rests;
    }

pub list_tables-requires : goal.list_tables-requires
list_tables-requires g c =
    let old = c.args.self in
    subst (λ (ts : List Table). All (λ (t : Table). HasBlock t.region (g.R.Revisions.state old.vault.revs)) ts) (sym c.as_slice-tables.ensures)
    (have_blocks g.R.Revisions.state old (g.S.BlockStore.state c.args.store.now) c.requires.agrees c.requires.flat)

pub returns-in_default : goal.returns-in_default
returns-in_default g c =
    let old = c.args.self in
    let s = g.S.BlockStore.state c.args.store.now in
    record {
      closes =
          closes_none g.R.Revisions.state old s c.requires.agrees c.requires.flat (sym (used_is g.R.Revisions.state old s c.requires.agrees c.requires.flat) ∙ sym c.is_used_up.ensures ∙ c.if-is_used_up.false)
          (g.S.BlockStore.state c.reserve.new.self) c.reserve.ensures.rests;
    }

pub drop_closing-requires-clause-ready : goal.drop_closing-requires-clause-ready
drop_closing-requires-clause-ready g c =
    let old = c.args.self in
    let s = g.S.BlockStore.state c.args.store.now in
    ready_fore g.R.Revisions.state old s c.requires.agrees c.requires.flat (sym (used_is g.R.Revisions.state old s c.requires.agrees c.requires.flat) ∙ sym c.is_used_up.ensures ∙ c.if-is_used_up.false)
    (g.S.BlockStore.state c.reserve.new.self) c.reserve.ensures.rests

pub drop_closing-requires-clause-lives : goal.drop_closing-requires-clause-lives
drop_closing-requires-clause-lives g c =
    let old = c.args.self in
    let s = g.S.BlockStore.state c.args.store.now in
    lives_fore g.R.Revisions.state old s c.requires.agrees c.requires.flat (sym (used_is g.R.Revisions.state old s c.requires.agrees c.requires.flat) ∙ sym c.is_used_up.ensures ∙ c.if-is_used_up.false)
    (g.S.BlockStore.state c.reserve.new.self) c.reserve.ensures.rests

pub write_closing-requires-clause-asks : goal.write_closing-requires-clause-asks
write_closing-requires-clause-asks g c =
    let old = c.args.self in
    let s = g.S.BlockStore.state c.args.store.now in
    let s1 = g.S.BlockStore.state c.reserve.new.self in
    let listed = c.as_slice.ensures ∙ c.in-Ok.ensures.listed ∙ ap (catalogue_of old.vault.keys (g.R.Revisions.state old.vault.revs)) c.as_slice-tables.ensures in
    let salts = subst (AreSalted old.vault.keys) c.as_slice-tables.ensures c.in-Ok.ensures.salts in
    let spare : 3 + length old.public.tables ≤ s1.spare = subst (λ (ts : List Table). 3 + length ts ≤ s1.spare) c.as_slice-tables.ensures
    (at_ok c.reserve.result _ (sym c.is_err.ensures.value ∙ c.if-is_err.false) c.reserve.ensures.spare) in
    subst (λ (l : List Listed). MayAsk (2 + length l) (at g.R.Revisions.state c.drop_closing.new.vault (g.S.BlockStore.state c.drop_closing.new.store))) (sym listed)
    (may_write g.R.Revisions.state old s c.requires.agrees c.requires.flat (sym (used_is g.R.Revisions.state old s c.requires.agrees c.requires.flat) ∙ sym c.is_used_up.ensures ∙ c.if-is_used_up.false) s1 c.reserve.ensures.rests salts
    c.drop_closing.new.vault (g.S.BlockStore.state c.drop_closing.new.store) c.drop_closing.ensures.drops c.requires.few spare)

pub write_closing-requires-clause-few : goal.write_closing-requires-clause-few
write_closing-requires-clause-few g c =
    let old = c.args.self in
    let s = g.S.BlockStore.state c.args.store.now in
    let listed = c.as_slice.ensures ∙ c.in-Ok.ensures.listed ∙ ap (catalogue_of old.vault.keys (g.R.Revisions.state old.vault.revs)) c.as_slice-tables.ensures in
    let salts = subst (AreSalted old.vault.keys) c.as_slice-tables.ensures c.in-Ok.ensures.salts in
    subst (λ (l : List Listed). length l ≤ 64) (sym listed)
    (few_listed g.R.Revisions.state old s c.requires.agrees c.requires.flat (sym (used_is g.R.Revisions.state old s c.requires.agrees c.requires.flat) ∙ sym c.is_used_up.ensures ∙ c.if-is_used_up.false)
    (g.S.BlockStore.state c.reserve.new.self) c.reserve.ensures.rests salts c.drop_closing.new.vault (g.S.BlockStore.state c.drop_closing.new.store) c.drop_closing.ensures.drops)

pub write_closing-requires-clause-columns : goal.write_closing-requires-clause-columns
write_closing-requires-clause-columns g c =
    let old = c.args.self in
    let s = g.S.BlockStore.state c.args.store.now in
    let listed = c.as_slice.ensures ∙ c.in-Ok.ensures.listed ∙ ap (catalogue_of old.vault.keys (g.R.Revisions.state old.vault.revs)) c.as_slice-tables.ensures in
    let salts = subst (AreSalted old.vault.keys) c.as_slice-tables.ensures c.in-Ok.ensures.salts in
    subst (λ (l : List Listed). All (λ (t : Listed). length t.table.heading.schema ≤ 16) l) (sym listed)
    (few_columns g.R.Revisions.state old s c.requires.agrees c.requires.flat (sym (used_is g.R.Revisions.state old s c.requires.agrees c.requires.flat) ∙ sym c.is_used_up.ensures ∙ c.if-is_used_up.false)
    (g.S.BlockStore.state c.reserve.new.self) c.reserve.ensures.rests salts c.drop_closing.new.vault (g.S.BlockStore.state c.drop_closing.new.store) c.drop_closing.ensures.drops)

pub give_up-requires : goal.give_up-requires
give_up-requires g c =
    let mid = at g.R.Revisions.state c.drop_closing.new.vault (g.S.BlockStore.state c.drop_closing.new.store) in
    let last = at g.R.Revisions.state c.write_closing.new.vault (g.S.BlockStore.state c.write_closing.new.store) in
    let writes = c.in-Err.ensures.writes in
    record {
      forgotten =
          subst (λ (from : ℕ). HasNoneFrom from (g.R.Revisions.state c.write_closing.new.vault.revs)) (sym c.next_region-from.ensures)
          (none_behind mid last c.drop_closing.ensures.drops.went.lasts.ready writes.err.lasts writes.gone);
    }

pub returns : goal.returns
returns g c =
    let old = c.args.self in
    let s = g.S.BlockStore.state c.args.store.now in
    let listed = c.as_slice.ensures ∙ c.in-Ok.ensures.listed ∙ ap (catalogue_of old.vault.keys (g.R.Revisions.state old.vault.revs)) c.as_slice-tables.ensures in
    let salts = subst (AreSalted old.vault.keys) c.as_slice-tables.ensures c.in-Ok.ensures.salts in
    let mid = at g.R.Revisions.state c.drop_closing.new.vault (g.S.BlockStore.state c.drop_closing.new.store) in
    let last = at g.R.Revisions.state c.write_closing.new.vault (g.S.BlockStore.state c.write_closing.new.store) in
    record {
      closes =
          subst (λ (t : StoreState). ClosesEngine g.R.Revisions.state (Err c.in-Err.e) old s t) (sym c.give_up.ensures.same)
          (closes_cut g.R.Revisions.state old s c.requires.agrees c.requires.flat (sym (used_is g.R.Revisions.state old s c.requires.agrees c.requires.flat) ∙ sym c.is_used_up.ensures ∙ c.if-is_used_up.false)
          (g.S.BlockStore.state c.reserve.new.self) c.reserve.ensures.rests salts c.drop_closing.new.vault (g.S.BlockStore.state c.drop_closing.new.store) c.drop_closing.ensures.drops
          c.write_closing.new.vault (g.S.BlockStore.state c.write_closing.new.store) c.in-Err.e
          (subst (λ (l : List Listed). WritesClosing old.room.pack l (Err c.in-Err.e) mid last) listed c.in-Err.ensures.writes));
    }

pub returns-in-Ok-write_closing : goal.returns-in-Ok-write_closing
returns-in-Ok-write_closing g c =
    let old = c.args.self in
    let s = g.S.BlockStore.state c.args.store.now in
    let listed = c.as_slice.ensures ∙ c.in-Ok.ensures.listed ∙ ap (catalogue_of old.vault.keys (g.R.Revisions.state old.vault.revs)) c.as_slice-tables.ensures in
    let salts = subst (AreSalted old.vault.keys) c.as_slice-tables.ensures c.in-Ok.ensures.salts in
    let mid = at g.R.Revisions.state c.drop_closing.new.vault (g.S.BlockStore.state c.drop_closing.new.store) in
    let last = at g.R.Revisions.state c.write_closing.new.vault (g.S.BlockStore.state c.write_closing.new.store) in
    record {
      closes =
          closes_all g.R.Revisions.state old s c.requires.agrees c.requires.flat (sym (used_is g.R.Revisions.state old s c.requires.agrees c.requires.flat) ∙ sym c.is_used_up.ensures ∙ c.if-is_used_up.false)
          (g.S.BlockStore.state c.reserve.new.self) c.reserve.ensures.rests salts c.drop_closing.new.vault (g.S.BlockStore.state c.drop_closing.new.store) c.drop_closing.ensures.drops
          c.write_closing.new.vault (g.S.BlockStore.state c.write_closing.new.store) c.in-Ok-write_closing.written
          (subst (λ (l : List Listed). WritesClosing old.room.pack l (Ok c.in-Ok-write_closing.written) mid last) listed c.in-Ok-write_closing.ensures.writes)
          (λ q shape tells live. g.met.S.BlockStore.keeps_live c.write_closing.new.store q shape tells live) c.mark_of.result c.mark_of.ensures;
    }
