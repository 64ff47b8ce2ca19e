use Rattle.ob_reopen.proofs.CatalogueLaws.{catalogue_is, catalogue_has}
use Rattle.ob_reopen.proofs.laws.lists_are_catalogues.Goals as goal

pub returns-clause-catalogue : goal.returns-clause-catalogue
returns-clause-catalogue c = λ closing keys revs tables may. catalogue_is closing keys revs tables may

pub returns-clause-all : goal.returns-clause-all
returns-clause-all c = λ keys revs tables. catalogue_has keys revs tables
