use Rattle.std.proofs.Common.{◌++◌, ◌∷◌, [], ◌∙◌, List, ap, append_assoc, sym}
use Rattle.ob_base.specs.declared.access.Access.{Access}
use Rattle.ob_store.specs.Logs.{LogState, asked_of, spelt}
use Rattle.ob_store.proofs.log.Log.push.Goals as goal

pub returns-clause-asked : goal.returns-clause-asked
returns-clause-asked c =
    let past = c.self.inside.past.accesses in
    ap (λ (l : List Access). past ++ l) c.push.ensures.asked
    ∙ sym (append_assoc past (spelt c.self.inside.runs.runs) (c.args.access ∷ []))
    ∙ ap (λ (s : LogState). asked_of s ++ c.args.access ∷ []) c.self.view_is
