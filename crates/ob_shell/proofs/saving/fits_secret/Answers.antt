use Rattle.ob_shell.proofs.Words.{bytes_eq-Decides, subst, sym, ◌∙◌}
use Rattle.ob_shell.specs.EngagingSaved.{FitsSecret}
use Rattle.ob_shell.proofs.saving.fits_secret.Goals as goal

pub returns-in-Saved-clause-fits : goal.returns-in-Saved-clause-fits
returns-in-Saved-clause-fits c = λ same.
    subst (FitsSecret c.args.secret.now) (sym c.in-Saved.is) ((bytes_eq-Decides c.in-Saved.check c.check_value.result).0 (sym c.eq.ensures ∙ same) ∙ c.check_value.ensures)
