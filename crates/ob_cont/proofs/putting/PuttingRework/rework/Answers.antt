use Rattle.std.proofs.Common.{Bool, Option, sym, ap, subst}
use Rattle.ob_row.specs.Rows.{Row}
use Rattle.ob_row.proofs.SpellingLemmas.{slots-same}
use Rattle.ob_flat.specs.Slots.{Spelt}
use Rattle.ob_cont.specs.Putting.{put_if}
use Rattle.ob_cont.proofs.putting.PuttingRework.rework.Goals as goal

pub returns-then-self-clause-told : goal.returns-then-self-clause-told
returns-then-self-clause-told c = λ slots spelt.
    let columns = c.args.schema.now in
    let work = c.args.self.now in
    let row = c.requires.suits in (
      put_if work.selected work.slot row.slot slots,
      λ there begins. ap (λ (s : Option Row). put_if work.selected work.slot s slots) (slots-same columns row.slot there _ row.begins begins),
      subst (λ (b : Bool). Spelt columns (put_if b work.slot row.slot slots) c.put_in_block.new.rows) (sym c.if-self.true) (c.put_in_block.ensures.told row.slot slots row.begins spelt),
    )
