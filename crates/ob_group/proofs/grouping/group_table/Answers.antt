use Rattle.std.proofs.Common.{inl, inr, length, refl, sym, ◌∙◌, arith}
use Rattle.ob_row.specs.Truth.{is_true}
use Rattle.ob_group.specs.declared.grouping.Grouped.{Grouped}
use Rattle.ob_group.specs.Grouping.{groups_of}
use Rattle.ob_group.proofs.Answering.{seen_shown, seen_number, too_many, so_many, gave_up, unasked, not_sink}
use Rattle.ob_group.proofs.grouping.group_table.Goals as goal

pub emit_groups-requires-clause-held : goal.emit_groups-requires-clause-held
emit_groups-requires-clause-held g c = record { groups = groups_of (is_true c.args.pred.now) c.args.key c.args.items.now c.in-Ok.ensures.gathers.held.seen; are = c.in-Ok.ensures.gathers.held.are }

pub returns-then-n-groups-clause-rows : goal.returns-then-n-groups-clause-rows
returns-then-n-groups-clause-rows g c = c.group_blocks.ensures.rows

pub returns-then-n-groups-clause-groups : goal.returns-then-n-groups-clause-groups
returns-then-n-groups-clause-groups g c = c.group_blocks.ensures.groups

pub returns-then-n-groups-clause-answers : goal.returns-then-n-groups-clause-answers
returns-then-n-groups-clause-answers g c =
    let flat = c.args.flat.now in
    let all = c.in-Ok.ensures.gathers in
    let held = all.held in
    let many = held.are.more (omega arith) in
    record {
      ran = record { ok = all.ran.ok; err = tt };
      never = tt;
      seals = all.seals;
      source = all.source;
      most = tt;
      emitted = refl;
      halted = tt;
      cause = refl;
      before = tt;
      after = tt;
      few = tt;
      told = λ slots is nolie.
          let number = seen_number (is_true c.args.pred.now) c.args.key c.args.items.now flat.schema _ slots held.seen c.requires.items.key is.fits (held.told slots is nolie) in
          too_many (length c.args.groups.now) _ (omega (arith, many, number, c.group_blocks.ensures.groups.count));
    }

pub returns-in-Ok-emit_groups-clause-rows : goal.returns-in-Ok-emit_groups-clause-rows
returns-in-Ok-emit_groups-clause-rows g c = c.group_blocks.ensures.rows

pub returns-in-Ok-emit_groups-clause-groups : goal.returns-in-Ok-emit_groups-clause-groups
returns-in-Ok-emit_groups-clause-groups g c = c.group_blocks.ensures.groups

pub returns-in-Ok-emit_groups-clause-answers : goal.returns-in-Ok-emit_groups-clause-answers
returns-in-Ok-emit_groups-clause-answers g c =
    let flat = c.args.flat.now in
    let p = is_true c.args.pred.now in
    let key = c.args.key in
    let items = c.args.items.now in
    let all = c.in-Ok.ensures.gathers in
    let held = all.held in
    let size = held.are.all (omega arith) in
    let answer = c.in-Ok-emit_groups.ensures in
    let e = answer.emitted in
    record {
      ran = record { ok = all.ran.ok; err = tt };
      never = tt;
      seals = all.seals;
      source = all.source;
      most = omega (arith, c.group_blocks.ensures.groups.count);
      emitted = record {
        rows = e.rows;
        count = e.count;
        leads = e.leads;
        told = λ s.
            e.told (record { groups = groups_of p key items held.seen; are = held.are })
            ∙ seen_shown p key items flat.schema _ s.slots held.seen c.requires.items.key s.is.fits (held.told s.slots s.is s.nolie);
      };
      halted = tt;
      cause = answer.cause;
      before = tt;
      after = tt;
      few = tt;
      told = λ slots is nolie.
          let number = seen_number p key items flat.schema _ slots held.seen c.requires.items.key is.fits (held.told slots is nolie) in
          so_many (length c.args.groups.now) c.in-Ok.n _ (sym size ∙ number) (omega (arith, size, number, c.group_blocks.ensures.groups.count));
    }

pub returns-in-Err-Failed-clause-rows : goal.returns-in-Err-Failed-clause-rows
returns-in-Err-Failed-clause-rows g c = c.group_blocks.ensures.rows

pub returns-in-Err-Failed-clause-groups : goal.returns-in-Err-Failed-clause-groups
returns-in-Err-Failed-clause-groups g c = c.group_blocks.ensures.groups

pub returns-in-Err-Failed-clause-answers : goal.returns-in-Err-Failed-clause-answers
returns-in-Err-Failed-clause-answers g c =
    let answer = c.in-Err-Failed.ensures in
    gave_up _ (inl refl) (omega arith) c.group_blocks.ensures.groups.count c.requires.items.key c.in-Ok.ensures.gathers answer.halted (rw c.in-Err-Failed.field-0-is at answer.cause)

pub returns-in-Err-NoMemory-clause-rows : goal.returns-in-Err-NoMemory-clause-rows
returns-in-Err-NoMemory-clause-rows g c = c.group_blocks.ensures.rows

pub returns-in-Err-NoMemory-clause-groups : goal.returns-in-Err-NoMemory-clause-groups
returns-in-Err-NoMemory-clause-groups g c = c.group_blocks.ensures.groups

pub returns-in-Err-NoMemory-clause-answers : goal.returns-in-Err-NoMemory-clause-answers
returns-in-Err-NoMemory-clause-answers g c =
    let answer = c.in-Err-NoMemory.ensures in
    gave_up _ (inr refl) (omega arith) c.group_blocks.ensures.groups.count c.requires.items.key c.in-Ok.ensures.gathers answer.halted (rw c.in-Err-NoMemory.field-0-is at answer.cause)

pub returns-in-Err-clause-rows : goal.returns-in-Err-clause-rows
returns-in-Err-clause-rows g c = c.group_blocks.ensures.rows

pub returns-in-Err-clause-groups : goal.returns-in-Err-clause-groups
returns-in-Err-clause-groups g c = c.group_blocks.ensures.groups

pub returns-in-Err-clause-answers : goal.returns-in-Err-clause-answers
returns-in-Err-clause-answers g c =
    let all = c.in-Err.ensures.gathers in
    record {
      ran = record { ok = tt; err = all.ran.err };
      never = elim all.never [ inl failed ↦ inl failed | inr there ↦ inr (inr (inr there)) ];
      seals = all.seals;
      source = all.source;
      most = tt;
      emitted = tt;
      halted = λ either. not_sink all.never either;
      cause = unasked Grouped _ _ all.never;
      before = λ is. refl;
      after = λ either. not_sink all.never either;
      few = λ either. not_sink all.never either;
      told = λ slots is nolie. inl (all.told slots is nolie);
    }
