use Rattle.std.proofs.Common.{◌≡◌, ◌+◌, ◌*◌, ◌≤◌, ℕ, inl, inr, [], length, refl, sym, ap, subst, arith}
use Rattle.std.proofs.lemmas.Result.{err_from_is_err_and}
use Rattle.ob_base.specs.Schemas.{width}
use Rattle.ob_base.proofs.EventLemmas.{begun_none}
use Rattle.ob_vault.specs.Calls.{none}
use Rattle.ob_vault.proofs.Runs.{may_get, went_none}
use Rattle.ob_blocks.specs.Blocks.{block_at}
use Rattle.ob_flat.specs.Emission.{SlotsToEnd, SlotsToHalt}
use Rattle.ob_flat.specs.Flats.{table_region, whole_blocks}
use Rattle.ob_flat.specs.Passes.{pass_error}
use Rattle.ob_flat.specs.Slots.{AreSlots}
use Rattle.ob_flat.specs.Words.{blocks_of}
use Rattle.ob_flat.proofs.Loops.{pack_fits, index_w32}
use Rattle.ob_flat.proofs.Rows.{wide_fit, wide_same}
use Rattle.ob_flat.proofs.Runs.{pass_of}
use Rattle.ob_flat.proofs.Sinks.{none_before, sink_vault}
use Rattle.ob_flat.proofs.Tables.{block_long, got, index_in}
use Rattle.ob_flat.proofs.WordLemmas.{get_refused, rows_malformed}
use Rattle.ob_emit.specs.Emitting.{block_shown, halt_error, slots_shown}
use Rattle.ob_emit.proofs.Halting.{emitted_of, ends_as, ends_of, ends_read, halt_never, halt_told, pass_halted, sink_halted}
use Rattle.ob_emit.proofs.emitting.emit_block.Goals as goal

pub overflow_cast-first : goal.overflow_cast-first
overflow_cast-first g c = pack_fits (length c.args.rows.now) c.requires.table.most

pub overflow_mul-first : goal.overflow_mul-first
overflow_mul-first g c =
    let table = c.requires.table in
    let pack = length c.args.rows.now in
    index_w32 c.args.place pack (index_in pack (blocks_of pack c.args.flat.now) c.args.place table.most table.size.blocks c.requires.within)

pub get-requires : goal.get-requires
get-requires g c =
    let table = c.requires.table.written in
    let flat = c.args.flat.now in
    let u = c.args.place in
    let shape = table_region table.order (length c.args.rows.now) flat.schema flat.capacity in
    record {
      ready = c.requires.spare.ready;
      spare = c.requires.spare.spare;
      place = may_get _ u shape _ _ table.lives c.requires.within c.requires.fit (table.written u c.requires.within);
    }

pub returns-in_err-get-clause-rows : goal.returns-in_err-get-clause-rows
returns-in_err-get-clause-rows g c = c.get.ensures.rows

pub returns-in_err-get-clause-spent : goal.returns-in_err-get-clause-spent
returns-in_err-get-clause-spent g c = c.get.ensures.spent

pub returns-in_err-get-clause-emits : goal.returns-in_err-get-clause-emits
returns-in_err-get-clause-emits g c =
    let p = err_from_is_err_and c.from_residual.result c.from_residual.ensures.1 in
    let table = c.requires.table in
    let pack = length c.args.rows.now in
    let flat = c.args.flat.now in
    let u = c.args.place in
    let read = c.in_err-get.ensures.gets in
    let shape = table_region table.written.order pack flat.schema flat.capacity in
    let refused = get_refused pack flat u _ read.err read.never in
    rw (p.1, p.2) (record {
      ran = record { ok = tt; err = pass_of _ _ _ _ _ read.err };
      never = elim refused [ inl failed ↦ inl failed | inr there ↦ inr (inr (inr there)) ];
      seals = record { seals = c.get.ensures.gets.seals };
      most = tt;
      emitted = tt;
      halted = ends_read g.E.Emit.grew g.E.Emit.cut [] (λ (s : SlotsToHalt pack flat _ _). block_shown pack flat c.args.cols.now u s.slots) _ refused (begun_none g.E.Emit.grew _ _);
      cause = sink_vault ℕ _ _ _ refl;
      told = λ slots is nolie. inl (ap pass_error (read.told _ shape table.written.lives (block_long pack flat slots _ is table.some u c.requires.within) (is.holds u c.requires.within) nolie));
    })

pub emit_rows-requires : goal.emit_rows-requires
emit_rows-requires g c =
    let table = c.requires.table in
    let pack = length c.args.rows.now in
    let u = c.args.place in
    let same = c.get.ensures.rows in
    record {
      wide = wide_same _ _ _ same (wide_fit (width c.args.flat.now.schema) c.args.rows.now c.requires.fit);
      index = subst (λ (n : ℕ). u * pack + n ≤ 2147483648) (sym same.count) (index_in pack (blocks_of pack c.args.flat.now) u table.most table.size.blocks c.requires.within);
      seen = c.requires.seen;
      few = c.requires.few;
      within = c.requires.columns.within;
    }

pub returns-in-Ok-clause-rows : goal.returns-in-Ok-clause-rows
returns-in-Ok-clause-rows g c = c.get.ensures.rows

pub returns-in-Ok-clause-spent : goal.returns-in-Ok-clause-spent
returns-in-Ok-clause-spent g c = c.get.ensures.spent

pub returns-in-Ok-clause-emits : goal.returns-in-Ok-clause-emits
returns-in-Ok-clause-emits g c =
    let table = c.requires.table in
    let pack = length c.args.rows.now in
    let flat = c.args.flat.now in
    let cols = c.args.cols.now in
    let u = c.args.place in
    let below = c.requires.within in
    let read = c.in_ok-get.ensures.gets in
    let emits = c.in-Ok.ensures.emits in
    let same = c.get.ensures.rows in
    let wide = wide_same (width flat.schema) _ _ same (wide_fit (width flat.schema) c.args.rows.now c.requires.fit) in
    let shape = table_region table.written.order pack flat.schema flat.capacity in
    record {
      ran = record { ok = read.ok; err = tt };
      never = tt;
      seals = record { seals = c.get.ensures.gets.seals };
      most = (more u pack c.in-Ok.n (length c.get.new.rows) same.count emits.most.0, emits.most.1);
      emitted = emitted_of g.E.Emit.grew [] (λ (s : AreSlots flat.schema c.get.new.rows). slots_shown flat.capacity cols (u * pack) s.slots) (λ (s : SlotsToEnd pack flat _ _). block_shown pack flat cols u s.slots) c.args.seen c.in-Ok.n _ _ emits.emitted
          (λ s.
          let bytes = read.told _ shape table.written.lives (block_long pack flat s.slots _ s.is table.some u below) (s.is.holds u below) s.nolie in
          (record { slots = block_at pack (whole_blocks pack flat.capacity s.slots) u; spelt = got pack flat s.slots _ s.is table.some u pack c.get.new.rows below refl same.count wide bytes }, refl));
      halted = tt;
      cause = emits.cause;
      told = λ slots is nolie. tt;
    }
  where
    more : (u pack n m : ℕ) → m ≡ pack → n ≤ u * pack + m → n ≤ (u + 1) * pack
    more u pack n m same most = let next : (u + 1) * pack ≡ u * pack + pack = grind arith in omega (arith, next, same, most)

pub returns-in-Err-clause-rows : goal.returns-in-Err-clause-rows
returns-in-Err-clause-rows g c = c.get.ensures.rows

pub returns-in-Err-clause-spent : goal.returns-in-Err-clause-spent
returns-in-Err-clause-spent g c = c.get.ensures.spent

pub returns-in-Err-clause-emits : goal.returns-in-Err-clause-emits
returns-in-Err-clause-emits g c =
    let table = c.requires.table in
    let pack = length c.args.rows.now in
    let flat = c.args.flat.now in
    let cols = c.args.cols.now in
    let u = c.args.place in
    let below = c.requires.within in
    let halt = c.in-Err.halt in
    let read = c.in_ok-get.ensures.gets in
    let emits = c.in-Err.ensures.emits in
    let same = c.get.ensures.rows in
    let wide = wide_same (width flat.schema) _ _ same (wide_fit (width flat.schema) c.args.rows.now c.requires.fit) in
    let shape = table_region table.written.order pack flat.schema flat.capacity in
    rw c.error.ensures (record {
      ran = record { ok = tt; err = pass_halted _ _ _ flat.region u halt read.ok };
      never = halt_never halt pack flat u _
          (λ bad. rows_malformed pack c.get.new.rows table.some refl same.count wide (read.opened shape table.written.lives) (λ slots is. emits.malformed bad (record { slots = slots; spelt = is })));
      seals = record { seals = c.get.ensures.gets.seals };
      most = tt;
      emitted = tt;
      halted = ends_of g.E.Emit.grew g.E.Emit.cut (halt_error halt flat.region u) [] (λ (s : AreSlots flat.schema c.get.new.rows). slots_shown flat.capacity cols (u * pack) s.slots)
          (λ (s : SlotsToHalt pack flat _ _). block_shown pack flat cols u s.slots) _ _ (ends_as g.E.Emit.grew g.E.Emit.cut halt flat.region u (λ (s : AreSlots flat.schema c.get.new.rows). slots_shown flat.capacity cols (u * pack) s.slots) _ _ emits.halted)
          (λ s.
          let nolie = none_before none none _ _ _ _ read.ok (went_none none _ read.ok.lasts.ready).lasts s.nolie s.unfit in
          let bytes = read.told _ shape table.written.lives (block_long pack flat s.slots _ s.is table.some u below) (s.is.holds u below) nolie in
          (record { slots = block_at pack (whole_blocks pack flat.capacity s.slots) u; spelt = got pack flat s.slots _ s.is table.some u pack c.get.new.rows below refl same.count wide bytes }, refl));
      cause = sink_halted ℕ ℕ flat.region u halt _ _ _ refl emits.cause;
      told = λ slots is nolie.
          let bytes = read.told _ shape table.written.lives (block_long pack flat slots _ is table.some u below) (is.holds u below) nolie in
          let spelt = got pack flat slots _ is table.some u pack c.get.new.rows below refl same.count wide bytes in
          halt_told halt flat.region u (λ bad. emits.malformed bad (record { slots = block_at pack (whole_blocks pack flat.capacity slots) u; spelt = spelt }));
    })
