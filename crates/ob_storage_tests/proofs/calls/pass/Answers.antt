use Rattle.std.proofs.Common.{◌∙◌, ◌≢◌, ◌<◌, ℕ, arith}
use Rattle.ob_storage_tests.proofs.calls.pass.Goals as goal

apart : (n m : ℕ) → n < m → n ≢ m
apart n m less same = absurd (omega (arith, less, same))

pub returns : goal.returns
returns g c =
    let other = apart _ _ c.requires.above in
    record { region = record { live = c.in_ok-discard.ensures.others.live _ other ∙ (c.in_ok-make.ensures.ok.others.live _ other ∙ (c.reserve.ensures.rests.keeps.live _ ∙ c.requires.region.live)) } }
