use Rattle.std.proofs.Common.{lit<}
use Rattle.std.proofs.lemmas.Str.Pattern.{split_after}
use Rattle.ob_mark.proofs.mark.word.Goals as goal

pub returns-clause-read : goal.returns-clause-read
returns-clause-read c = λ head rest one is. split_after 32 c.args.text.now head rest c.split_once.result c.split_once.ensures.cases (lit< tt) is one
