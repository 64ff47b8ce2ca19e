use Rattle.std.proofs.Common.{◌∙◌, ap, length}
use Rattle.ob_store.specs.Logs.{LogState}
use Rattle.ob_store.proofs.log.Log.gone.Goals as goal

pub returns : goal.returns
returns c = c.self.invariant.count ∙ ap (λ (s : LogState). length s.past) c.self.view_is
