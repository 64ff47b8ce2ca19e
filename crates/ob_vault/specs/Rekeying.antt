-- A vault that goes on under other keys.
use Rattle.ob_seal.specs.KeySet.{KeySet}
use Rattle.ob_vault.specs.State.{World}

-- the same with these keys
abbrev pub rekeyed : KeySet → World → World
rekeyed keys w = record w { vault = record w.vault { keys = keys } }
