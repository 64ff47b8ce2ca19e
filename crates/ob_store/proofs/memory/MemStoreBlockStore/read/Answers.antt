use Rattle.std.proofs.Common.{◌∙◌, ap, sym, Option}
use Rattle.ob_store.specs.Memory.{bytes_of}
use Rattle.ob_store.specs.declared.blocks.Blocks.{Blocks}
use Rattle.ob_store.proofs.GaveLemmas.{gave_read}
use Rattle.ob_store.proofs.memory.MemStoreBlockStore.read.Goals as goal

pub returns-clause-gave : goal.returns-clause-gave
returns-clause-gave c = gave_read _ _ _ _ _ c.push.ensures.asked ∙ ap (λ (b : Option Blocks). bytes_of b c.args.place) (sym c.in-Some.ensures.value) ∙ sym c.read.ensures
