use Rattle.std.proofs.Common.{◌≡◌, ◌∙◌, inl, inr, Bool, if◌then◌else◌, Some, arith, take, subst, sym, ap}
use Rattle.std.specs.Prelude.{slice_get}
use Rattle.std.specs.List.{insert, prefix_len}
use Rattle.std.proofs.lemmas.Bool.{cases_lt}
use Rattle.std.proofs.lemmas.List.{take_all}
use Rattle.ob_base.specs.declared.schema.Table.{Table}
use Rattle.ob_seal.specs.KeySet.{pair_of}
use Rattle.ob_seal.specs.Sealed.{IsSalt}
use Rattle.ob_reopen.specs.declared.listed.Listed.{Listed}
use Rattle.ob_reopen.specs.Writings.{catalogue_of, is_before, listed_of}
use Rattle.ob_reopen.proofs.Lists.{got_or, got_within, took_more}
use Rattle.ob_reopen.proofs.ListLemmas.{placed_next}
use Rattle.ob_reopen.proofs.catalogue.list_tables.Goals as goal

pub loop-table-init : goal.loop-table-init
loop-table-init g c = record {
  listed = c.in-Ok.ensures.items;
  salts = λ k u below. absurd (omega (arith, below));
}

pub loop-table-preserved : goal.loop-table-preserved
loop-table-preserved g c =
    let tables = c.args.tables.now in
    let i = c.loop-table.table-index in
    let revs = g.R.Revisions.state c.args.vault.now.revs in
    let keys = c.args.vault.now.keys in
    let old = c.loop-table.listed.items in
    let t = c.table-item.result in
    let n = c.place_of-place.result in
    let x : Listed = record { table = c.copied.result; number = c.number.result; salt = c.salt_of.result } in
    let at : slice_get tables i ≡ Some t = got_or tables i t c.loop-table-test.true ∙ ap Some (sym c.table-item.is) in
    let is : x ≡ listed_of keys revs t = λ k. record { table = c.copied.ensures k; number = c.number.ensures k; salt = c.salt_of.ensures.value k } in
    let place : n ≡ prefix_len (is_before x) old = c.place_of-place.ensures.value ∙ ap (prefix_len (is_before x)) c.deref.ensures.value in
    let put : c.insert.new.self.items ≡ insert old n x = c.insert.ensures.items ∙ ap (λ (b : Bool). if b then insert old n x else old) c.if-is_err.ensures.negation in
    record {
      listed = placed_next keys revs (take i tables) t old c.insert.new.self.items x n c.loop-table.invariant.listed is place put ∙ ap (catalogue_of keys revs) (sym (took_more tables i t at));
      salts = λ k u below got. elim (cases_lt k i) [
        | inl before ↦ c.loop-table.invariant.salts k u before got
        | inr past ↦
            let here : k ≡ i = omega (arith, below, past) in
            let same : t ≡ u = cc (at, got, here) in
            subst (λ (y : Table). IsSalt (pair_of keys y.region).salt) same (subst IsSalt c.salt_of.ensures.value c.salt_of.ensures.long)
      ];
    }

pub returns-clause-salts : goal.returns-clause-salts
returns-clause-salts g c = λ k u got.
    c.loop-table.invariant.salts k u (let within = got_within c.args.tables.now k u got in omega (arith, within, c.loop-table-test.false)) got

pub returns-clause-listed : goal.returns-clause-listed
returns-clause-listed g c =
    let revs = g.R.Revisions.state c.args.vault.now.revs in
    let keys = c.args.vault.now.keys in
    c.from_vec.ensures ∙ c.loop-table.invariant.listed ∙ ap (catalogue_of keys revs) (take_all c.loop-table.table-index c.args.tables.now c.loop-table-test.false)
