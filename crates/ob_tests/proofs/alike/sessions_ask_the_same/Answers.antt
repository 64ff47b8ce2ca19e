use Rattle.std.proofs.Common.{refl, inl, inr}
use Rattle.ob_headline.proofs.BaseLemmas.{unflown}
use Rattle.ob_headline.specs.Reruns.{shell_run}
use Rattle.ob_tests.proofs.alike.sessions_ask_the_same.Goals as goal

pub returns : goal.returns
returns g c read =
    let first = c.shell_top-first.ensures.headline read in
    let second = c.shell_top-second.ensures.headline read in
    let run = shell_run first in
    let run_too = shell_run second in (
      first,
      second,
      λ none_fly well well_too plain alike. elim plain [
        | inl none ↦ c.reruns_ask_the_same.ensures run run_too (unflown _ run.base none_fly) (unflown _ run_too.base none_fly) (record { public = refl; count = refl; before = refl }) well well_too none alike
        | inr padded ↦ c.padded_reruns_ask_the_same.ensures run run_too (unflown _ run.base none_fly) (unflown _ run_too.base none_fly) (record { public = refl; count = refl; before = refl }) well well_too padded alike
      ],
    )
