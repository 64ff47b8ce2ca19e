use Rattle.ob_vault.specs.Calls.{two}
use Rattle.ob_oram.proofs.Lasting.{index_kept, lies_kept}
use Rattle.ob_oram.proofs.laws.index_lasts.Goals as goal

pub returns-clause-stands : goal.returns-clause-stands
returns-clause-stands c = λ q r index old new lasts tree stash is. index_kept (two q r) old new lasts index tree stash is

pub returns-clause-lies : goal.returns-clause-lies
returns-clause-lies c = λ q r index old new s lasts tree stash lies. lies_kept (two q r) old new lasts index tree stash s lies
