use Rattle.std.proofs.Common.{[], ◌≡◌, inl, ℕ, None, Result, Ok, Err, length, refl, ◌∙◌, ap, subst, arith}
use Rattle.std.proofs.lemmas.Result.{err_from_is_err_and}
use Rattle.ob_base.specs.Accesses.{write_at}
use Rattle.ob_base.specs.Lists.{each}
use Rattle.ob_vault.specs.Calls.{Went, one}
use Rattle.ob_vault.specs.Places.{at}
use Rattle.ob_vault.proofs.Runs.{own_made, tells_went, holds_rows, went_join}
use Rattle.ob_vault.proofs.WordLemmas.{asks_start, asks_after}
use Rattle.ob_blocks.specs.Blocks.{none_of}
use Rattle.ob_flat.specs.declared.fault.OpErr.{OpErr}
use Rattle.ob_flat.specs.declared.fault.OpErr.TheVariants.{NoMemory}
use Rattle.ob_flat.specs.Passes.{pass_error}
use Rattle.ob_flat.specs.Words.{SealsTable, blocks_of}
use Rattle.ob_flat.specs.Creates.{table_of, make_script}
use Rattle.ob_flat.proofs.Loops.{pack_fits}
use Rattle.ob_flat.proofs.Runs.{pass_of, pass_after, pass_then, not_memory}
use Rattle.ob_flat.proofs.Tables.{accepted, joined_block, represents_none, flat_filled}
use Rattle.ob_flat.proofs.WordLemmas.{ran_more, seals_any, seals_after}
use Rattle.ob_flat.proofs.creating.create_blocks.Goals as goal

pub overflow_cast-pack : goal.overflow_cast-pack
overflow_cast-pack g c = pack_fits (length c.args.rows.now) c.requires.pack.1

pub make_table-requires : goal.make_table-requires
make_table-requires g c = record {
  spare = record { ready = c.requires.starts.ready; spare = omega (arith, c.requires.starts.spare) };
  few = omega (arith, c.requires.starts.few);
  size = c.requires.size;
  pack = c.requires.pack;
}

pub returns-in_err-region : goal.returns-in_err-region
returns-in_err-region g c =
    let p = err_from_is_err_and c.from_residual.result c.from_residual.ensures.1 in
    let pack = length c.args.rows.now in
    let flat = table_of c.args.schema.now c.args.capacity c.args.vault.now.next in
    let makes = c.in_err-region.ensures.makes in
    rw (p.1, p.2) (record {
      creates = record {
        ran = ran_more (make_script pack flat) (each (blocks_of pack flat) (write_at flat.region)) makes.ran.err;
        never = makes.never;
        memory = record { did = λ is. makes.memory.did (cc is) };
        number = tt;
        lives = tt;
        table = tt;
        gone = makes.gone;
        seals = seals_any makes.seals.seals;
        told = tt;
      };
    })

pub region_of_table-requires : goal.region_of_table-requires
region_of_table-requires g c = record { size = c.requires.size; pack = c.requires.pack }

pub fill_blocks-requires : goal.fill_blocks-requires
fill_blocks-requires g c =
    let pack = length c.args.rows.now in
    let makes = c.in_ok-region.ensures.makes in
    let asks = asks_after {m = blocks_of pack (table_of c.args.schema.now c.args.capacity 0)} (asks_start c.requires.starts (omega (arith, c.requires.size.blocks))) makes.ran.ok (omega arith) in
    let own = own_made _ _ _ makes.ran.ok.lasts c.args.vault.now.next c.requires.starts.ready refl in
    rw (makes.number, c.region_of_table.ensures) (record { asks = asks; own = own; lives = makes.lives; turn = makes.turn; fit = c.requires.fit })

-- it was no want of memory
no_error : {P : Type 0} (region : ℕ) → ◌≡◌ {A = Result ℕ OpErr} (Ok region) (Err NoMemory) → P
no_error region is = absurd (cc is)

pub returns-in-Ok : goal.returns-in-Ok
returns-in-Ok g c =
    let rows = c.args.rows.now in
    let pack = length rows in
    let flat = table_of c.args.schema.now c.args.capacity c.args.vault.now.next in
    let makes = c.in_ok-region.ensures.makes in
    let fills = rw (makes.number, c.region_of_table.ensures) at c.in-Ok.ensures.fills in
    let mid = at g.R.Revisions.state c.make_table.new.vault (g.S.BlockStore.state c.make_table.new.store) in
    let new = at g.R.Revisions.state c.fill_blocks.new.vault (g.S.BlockStore.state c.fill_blocks.new.store) in
    let sealed : SealsTable pack flat.schema flat.region mid new = record { seals = λ good fine. fills.seals good (accepted good pack flat.region flat.schema rows c.requires.pack.0 refl fine (record { slots = none_of pack; spelt = c.requires.dummies })) } in
    let bytes = joined_block pack flat.schema (none_of pack) rows c.requires.pack.0 refl c.requires.dummies in
    record {
      creates = record {
        ran = record { ok = went_join (one flat.region) _ _ _ (make_script pack flat) (each (blocks_of pack flat) (write_at flat.region)) makes.ran.ok fills.ok; err = tt };
        never = tt;
        memory = record { did = λ is. no_error _ is };
        number = makes.number;
        lives = fills.filled.lives;
        table = flat_filled c.args.order pack flat refl refl fills.filled.lives fills.filled.turn fills.filled.written;
        gone = tt;
        seals = seals_after makes.ran.ok.lasts (seals_any makes.seals.seals) sealed;
        told = λ tells. represents_none pack flat new c.requires.pack.0 (λ p below. holds_rows _ _ _ _ _ bytes (fills.told (tells_went _ _ _ _ makes.ran.ok tells) p below));
      };
    }

pub returns-in-Err : goal.returns-in-Err
returns-in-Err g c =
    let rows = c.args.rows.now in
    let pack = length rows in
    let flat = table_of c.args.schema.now c.args.capacity c.args.vault.now.next in
    let makes = c.in_ok-region.ensures.makes in
    let fills = rw (makes.number, c.region_of_table.ensures) at c.in-Err.ensures.fills in
    let forgets = c.forget.ensures.forgets (g.S.BlockStore.state c.fill_blocks.new.store) in
    let failed = c.from.ensures ∙ ap pass_error fills.never in
    let mid = at g.R.Revisions.state c.make_table.new.vault (g.S.BlockStore.state c.make_table.new.store) in
    let late = at g.R.Revisions.state c.fill_blocks.new.vault (g.S.BlockStore.state c.fill_blocks.new.store) in
    let new = at g.R.Revisions.state c.forget.new.self (g.S.BlockStore.state c.fill_blocks.new.store) in
    let forgot = subst (λ (q : ℕ). Went [] (one q) late new) makes.number (forgets.went fills.err.lasts.ready) in
    let gone = subst (λ (q : ℕ). new.vault.revs.live q ≡ None) makes.number forgets.gone in
    let sealed : SealsTable pack flat.schema flat.region mid late = record { seals = λ good fine. fills.seals good (accepted good pack flat.region flat.schema rows c.requires.pack.0 refl fine (record { slots = none_of pack; spelt = c.requires.dummies })) } in
    record {
      creates = record {
        ran = record {
          ok = tt;
          err = rw c.from.ensures (pass_then (one flat.region) _ _ _ _ _ (pass_after (one flat.region) _ _ _ _ (make_script pack flat) (each (blocks_of pack flat) (write_at flat.region)) makes.ran.ok (pass_of _ _ _ _ _ fills.err)) forgot refl);
        };
        never = inl failed;
        memory = record { did = λ is. not_memory failed is };
        number = tt;
        lives = tt;
        table = tt;
        gone = gone;
        seals = seals_after makes.ran.ok.lasts (seals_any makes.seals.seals) (seals_after fills.err.lasts sealed (seals_any forgets.seals));
        told = tt;
      };
    }
