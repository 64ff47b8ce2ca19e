use Rattle.std.proofs.Common.{◌<◌, ◌^◌, ℕ, Option, sym, ◌∙◌, ap, subst, arith}
use Rattle.ob_mutate.specs.Batches.{AreListed, start_notes}
use Rattle.ob_mutate.proofs.Keys.{key_inside}
use Rattle.ob_mutate.proofs.batch.fill_fresh.Goals as goal

pub keep_rows-requires : goal.keep_rows-requires
keep_rows-requires g c = record { wide = c.requires.batch.wide; count = c.requires.batch.count; fit = c.requires.batch.fit }

pub list_rows-requires : goal.list_rows-requires
list_rows-requires g c =
    let may = c.requires.batch in
    let count = c.keep_rows.ensures.sizes.count ∙ may.count in
    record {
      within = key_inside c.args.flat.now.schema c.key_place.result c.key_place.ensures;
      room = omega (arith, count, may.places);
      few = subst (λ (n : ℕ). n < 2 ^ 32) (sym count) may.few;
    }

pub insert_blocks-requires : goal.insert_blocks-requires
insert_blocks-requires g c =
    let may = c.requires.batch in
    let count = c.keep_rows.ensures.sizes.count ∙ may.count in
    record {
      asks = c.requires.asks;
      table = c.requires.table;
      made = c.requires.made;
      apart = c.requires.apart;
      fit = c.requires.fit;
      batch = may.fit;
      kept = c.keep_rows.ensures.kept;
      few = subst (λ (n : ℕ). n < 2 ^ 32) (sym count) may.few;
      listed = subst (λ (k : Option ℕ). AreListed c.args.flat.now.schema k c.keep_rows.new.kept c.list_rows.new.order) c.key_place.ensures c.list_rows.ensures.listed;
      notes = c.requires.notes ∙ ap start_notes (sym count);
      out = c.requires.out ∙ sym count;
    }

pub returns : goal.returns
returns g c = record {
  rows = c.insert_blocks.ensures.rows;
  kept = c.keep_rows.ensures.sizes;
  most = c.list_rows.ensures.most;
  out = c.insert_blocks.ensures.out;
  fills = c.insert_blocks.ensures.fills;
}
