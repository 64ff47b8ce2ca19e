use Rattle.std.proofs.Common.{sym, w64}
use Rattle.std.proofs.lemmas.Int.{to_z-of_z}
use Rattle.ob_keyed.proofs.Arms.{remove_gone}
use Rattle.ob_keyed.proofs.Asked.{delete_asks}
use Rattle.ob_keyed.proofs.serving.delete_row.Goals as goal

pub sought_key-key-requires : goal.sought_key-key-requires
sought_key-key-requires g c = delete_asks _ _ c.args.index.now c.requires.stmt.0 c.args.cond.now c.requires.stmt.1.2

pub returns-clause-gone : goal.returns-clause-gone
returns-clause-gone g c = λ table.
    remove_gone c.args.index.now c.access.new.index c.args.draw c.access.result _ _ _ tt c.access.ensures.gone table c.args.cond.now c.sought_key-key.result c.sought_key-key.ensures (sym (to_z-of_z w64 c.sought_key-key.result (record { sfits = c.sought_key-key.type_inv })))
