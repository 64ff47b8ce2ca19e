use Rattle.std.proofs.Common.{◌∙◌, ap, get_or}
use Rattle.ob_oram.specs.declared.held.Remap.{Remap}
use Rattle.ob_oram.specs.Indexes.{leaves_of}
use Rattle.ob_oram.proofs.WalkRows.{height_few}
use Rattle.ob_oram.proofs.index.Index.leaf_of.Goals as goal

pub remap_for-requires : goal.remap_for-requires
remap_for-requires c = height_few c.args.self.now c.requires

pub returns : goal.returns
returns c =
    c.leaf_before.ensures ∙ ap (λ (r : Remap). get_or (leaves_of c.args.self.now) r.key r.leaf) c.remap_for.ensures
