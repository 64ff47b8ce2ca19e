use Rattle.std.proofs.Common.{ap₂, codes, ◌≡◌, ◌∙◌}
use Rattle.clap.specs.Words.{App, app_of, new_app, with_rule}
use Rattle.ob_headline.specs.Usage.{flag, valued}
use Rattle.ob_words.proofs.WordLemmas.{adds_last}
use Rattle.ob_words.proofs.words.common.Goals as goal

pub returns : goal.returns
returns c =
    let one : App = with_rule (new_app c.args.name.now) (flag (codes "trace")) in
    let two : App = with_rule one (valued (codes "buffer")) in
    let three : App = with_rule two (valued (codes "depth")) in
    let four : App = with_rule three (valued (codes "plan")) in
    let first : app_of c.in_ok-arg.field-0 ≡ one =
    c.in_ok-arg.ensures.shape c.flag.ensures.local ∙ ap₂ with_rule c.new.ensures.app c.flag.ensures.rule in
    let second : app_of c.in_ok-arg-2.field-0 ≡ two =
    c.in_ok-arg-2.ensures.shape c.valued.ensures.local ∙ ap₂ with_rule first c.valued.ensures.rule in
    let third : app_of c.in_ok-arg-3.field-0 ≡ three =
    c.in_ok-arg-3.ensures.shape c.valued-2.ensures.local ∙ ap₂ with_rule second c.valued-2.ensures.rule in
    let fourth : app_of c.in_ok-arg-4.field-0 ≡ four =
    c.in_ok-arg-4.ensures.shape c.valued-3.ensures.local ∙ ap₂ with_rule third c.valued-3.ensures.rule in
    let five : App = with_rule four (valued (codes "pack")) in
    let fifth : app_of c.in_ok-arg-5.field-0 ≡ five =
    c.in_ok-arg-5.ensures.shape c.valued-4.ensures.local ∙ ap₂ with_rule fourth c.valued-4.ensures.rule in
    let six : App = with_rule five (valued (codes "pad")) in
    let sixth : app_of c.in_ok-arg-6.field-0 ≡ six =
    c.in_ok-arg-6.ensures.shape c.valued-5.ensures.local ∙ ap₂ with_rule fifth c.valued-5.ensures.rule in
    let seven : App = with_rule six (valued (codes "stash")) in
    let seventh : app_of c.in_ok-arg-7.field-0 ≡ seven =
    c.in_ok-arg-7.ensures.shape c.valued-6.ensures.local ∙ ap₂ with_rule sixth c.valued-6.ensures.rule in
    let eight : App = with_rule seven (valued (codes "batch")) in
    let eighth : app_of c.in_ok-arg-8.field-0 ≡ eight =
    c.in_ok-arg-8.ensures.shape c.valued-7.ensures.local ∙ ap₂ with_rule seventh c.valued-7.ensures.rule in
    let nine : App = with_rule eight (valued (codes "flight")) in
    let ninth : app_of c.in_ok-arg-9.field-0 ≡ nine =
    c.in_ok-arg-9.ensures.shape c.valued-8.ensures.local ∙ ap₂ with_rule eighth c.valued-8.ensures.rule in
    let ten : App = with_rule nine (valued (codes "max-input")) in
    let tenth : app_of c.in_ok-arg-10.field-0 ≡ ten =
    c.in_ok-arg-10.ensures.shape c.valued-9.ensures.local ∙ ap₂ with_rule ninth c.valued-9.ensures.rule in
    adds_last c.arg-11.result _ _ _ c.valued-10.ensures.local (ap₂ with_rule tenth c.valued-10.ensures.rule) c.arg-11.ensures
