use Rattle.ob_keyed.proofs.Ran.{keyed_cut, keyed_ran}
use Rattle.ob_keyed.proofs.Seen.{cuts_alike, shows_script}
use Rattle.ob_keyed.proofs.laws.keyed_shows.Goals as goal

pub returns : goal.returns
returns c = record {
  script = λ p m stmt index leaf on below. shows_script p m stmt index on leaf below;
  cut = cuts_alike;
  ran = keyed_ran;
  emitted = keyed_cut;
}
