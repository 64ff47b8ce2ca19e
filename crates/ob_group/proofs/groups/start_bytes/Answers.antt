use Rattle.std.proofs.Common.{sym, subst}
use Rattle.ob_row.specs.Fields.{HoldsCell}
use Rattle.ob_group.proofs.GroupBytes.{started}
use Rattle.ob_group.proofs.groups.start_bytes.Goals as goal

pub returns-clause-held : goal.returns-clause-held
returns-clause-held c = λ x held. started c.args.kind x c.args.items.now _ _ _ (subst (HoldsCell c.args.kind x) (sym c.copy_from_slice.ensures.after) held) c.start_totals.ensures
