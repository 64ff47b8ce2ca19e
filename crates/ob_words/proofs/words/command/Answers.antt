use Rattle.std.proofs.Common.{ap, ap₂, codes, ◌≡◌, ◌∙◌}
use Rattle.clap.specs.Simple.{app_of_fields}
use Rattle.clap.specs.Words.{app_of, with_rule}
use Rattle.ob_headline.specs.Usage.{common, nameless, valued}
use Rattle.ob_words.proofs.words.command.Goals as goal

pub returns : goal.returns
returns c =
    let named : app_of c.in_ok-command.command ≡ with_rule (common (codes "oblidb")) (valued (codes "store")) =
    c.in_ok-command.ensures.shape c.valued.ensures.local ∙ ap₂ with_rule c.in_ok-common.ensures c.valued.ensures.rule in
    ap app_of_fields c.no_binary_name.ensures ∙ ap nameless named
