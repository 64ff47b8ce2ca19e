use Rattle.std.proofs.Common.{◌≡◌, ◌∙◌}
use Rattle.ob_start.proofs.PlaceLemmas.{goes_elsewhere, goes_on}
use Rattle.ob_start.proofs.place.is_inside.Goals as goal

pub returns-in-Some : goal.returns-in-Some
returns-in-Some c =
    c.is_within.ensures ∙ goes_on c.args.path.now c.args.folder.now c.as_bytes.result.now c.as_bytes-2.result.now c.in-Some.rest.now
    c.as_bytes.ensures.value c.as_bytes-2.ensures.value c.in-Some.ensures.cases.0 c.in-Some.ensures.cases.1

pub returns-in-None : goal.returns-in-None
returns-in-None c =
    goes_elsewhere c.args.path.now c.args.folder.now c.as_bytes.result.now c.as_bytes-2.result.now
    c.as_bytes.ensures.value c.as_bytes-2.ensures.value c.in-None.ensures.cases
