use Rattle.std.proofs.Common.{None, Some, lit<}
use Rattle.std.proofs.lemmas.Str.Pattern.{rfind_char}
use Rattle.ob_file.proofs.PathLemmas.{behind_slash, no_slash}
use Rattle.ob_file.proofs.folder.split_path.Goals as goal

pub returns-in-Some-clause-folder : goal.returns-in-Some-clause-folder
returns-in-Some-clause-folder c =
    let found = rfind_char 47 c.args.path.now (Some c.in-Some.slash) c.in-Some.ensures.cases (lit< tt) in
    (behind_slash c.args.path.now _ _ c.in-Some.slash found.0 found.1 found.2 c.split_at.ensures.front c.split_at.ensures.back).0

pub returns-in-Some-clause-name : goal.returns-in-Some-clause-name
returns-in-Some-clause-name c =
    let found = rfind_char 47 c.args.path.now (Some c.in-Some.slash) c.in-Some.ensures.cases (lit< tt) in
    (behind_slash c.args.path.now _ _ c.in-Some.slash found.0 found.1 found.2 c.split_at.ensures.front c.split_at.ensures.back).1

pub returns-in-None-clause-folder : goal.returns-in-None-clause-folder
returns-in-None-clause-folder c = (no_slash c.args.path.now (rfind_char 47 c.args.path.now None c.in-None.ensures.cases (lit< tt))).0

pub returns-in-None-clause-name : goal.returns-in-None-clause-name
returns-in-None-clause-name c = (no_slash c.args.path.now (rfind_char 47 c.args.path.now None c.in-None.ensures.cases (lit< tt))).1
