use Rattle.ob_vault.proofs.LawLemmas.{writes_apart, writes_own, write_is, last_is, numbers_alone, writes_salted}
use Rattle.ob_vault.proofs.laws.numbers_are_apart.Goals as goal

pub returns-clause-writes : goal.returns-clause-writes
returns-clause-writes c = writes_apart

pub returns-clause-named : goal.returns-clause-named
returns-clause-named c = write_is

pub returns-clause-last : goal.returns-clause-last
returns-clause-last c = last_is

pub returns-clause-alone : goal.returns-clause-alone
returns-clause-alone c = numbers_alone

pub returns-clause-own : goal.returns-clause-own
returns-clause-own c = writes_own

pub returns-clause-salted : goal.returns-clause-salted
returns-clause-salted c = writes_salted
