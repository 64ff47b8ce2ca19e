use Rattle.ob_seal.proofs.Labels.{checks_apart, ciphers_apart, cipher_or_check, cipher_or_draw, cipher_or_tag, draws_apart, draw_or_check, tag_or_check, tag_or_draw, tags_apart}
use Rattle.ob_seal.proofs.laws.labels_are_apart.Goals as goal

pub returns-clause-ciphers : goal.returns-clause-ciphers
returns-clause-ciphers c = ciphers_apart

pub returns-clause-tags : goal.returns-clause-tags
returns-clause-tags c = tags_apart

pub returns-clause-draws : goal.returns-clause-draws
returns-clause-draws c = draws_apart

pub returns-clause-purposes : goal.returns-clause-purposes
returns-clause-purposes c = λ s t is_s is_t. (cipher_or_tag s t is_s is_t, cipher_or_draw s t is_s is_t, tag_or_draw s t is_s is_t)

pub returns-clause-checks : goal.returns-clause-checks
returns-clause-checks c = checks_apart

pub returns-clause-unchecked : goal.returns-clause-unchecked
returns-clause-unchecked c = λ s t is_s is_t. (cipher_or_check s t is_s is_t, tag_or_check s t is_s is_t, draw_or_check s t is_s is_t)
