use Rattle.std.proofs.Common.{sym, ◌∙◌, ap, ◌+◌, nat_eq, count_by}
use Rattle.ob_names.specs.Names.{is_named}
use Rattle.ob_names.proofs.NameLemmas.{meant_length}
use Rattle.ob_names.proofs.names.means_one.Goals as goal

pub returns : goal.returns
returns c =
    let name = c.args.name.now in
    let scope = c.args.scope.now in
    let left = c.count_named.ensures ∙ ap (count_by (is_named name)) c.left-left.ensures.value in
    let right = c.count_named-2.ensures ∙ ap (count_by (is_named name)) c.right-right.ensures.value in
    (λ t. nat_eq (left t + right t) 1) ∙ sym (ap (λ n. nat_eq n 1) (meant_length name scope.left scope.right))
