use Rattle.std.proofs.Common.{ap, ap₂, codes, ◌≡◌, ◌∙◌}
use Rattle.clap.specs.Simple.{app_of_fields}
use Rattle.clap.specs.Words.{app_of, with_rule}
use Rattle.ob_headline.specs.Usage.{common, flag, nameless, valued}
use Rattle.ob_words.proofs.words.saved_command.Goals as goal

pub returns : goal.returns
returns c =
    let named : app_of c.in_ok-arg.field-0 ≡ with_rule (common (codes "oblidb")) (valued (codes "store")) =
    c.in_ok-arg.ensures.shape c.valued.ensures.local ∙ ap₂ with_rule c.in_ok-common.ensures c.valued.ensures.rule in
    let kept : app_of c.in_ok-arg-2.field-0 ≡ with_rule (with_rule (common (codes "oblidb")) (valued (codes "store"))) (flag (codes "keep")) =
    c.in_ok-arg-2.ensures.shape c.flag.ensures.local ∙ ap₂ with_rule named c.flag.ensures.rule in
    let marked : app_of c.in_ok-arg-3.field-0
    ≡ with_rule (with_rule (with_rule (common (codes "oblidb")) (valued (codes "store"))) (flag (codes "keep"))) (valued (codes "mark")) =
    c.in_ok-arg-3.ensures.shape c.valued-2.ensures.local ∙ ap₂ with_rule kept c.valued-2.ensures.rule in
    let saved : app_of c.in_ok-command.command
    ≡ with_rule (with_rule (with_rule (with_rule (common (codes "oblidb")) (valued (codes "store"))) (flag (codes "keep"))) (valued (codes "mark"))) (flag (codes "save")) =
    c.in_ok-command.ensures.shape c.flag-2.ensures.local ∙ ap₂ with_rule marked c.flag-2.ensures.rule in
    ap app_of_fields c.no_binary_name.ensures ∙ ap nameless saved
