-- The accesses of an index.
use Rattle.std.specs.Prelude.{◌+◌, ◌*◌, ℕ, List, map}
use Rattle.ob_base.specs.declared.access.Access.{Access}
use Rattle.ob_base.specs.declared.access.Access.TheVariants.{Read, Write}
use Rattle.ob_tree.specs.Scripts as Tree
use Rattle.ob_tree.specs.Scripts.{Touch, ReadStash, ReadTree, WriteTree, WriteStash}
use Rattle.ob_oram.specs.declared.index.Index.{Index}
use Rattle.ob_base.specs.Indexes.{path_blocks}

-- the accesses of the model, asked of the index's regions
abbrev pub access_in : Index → Touch → Access
access_in index (ReadStash x) = Read index.stash x
access_in index (ReadTree x) = Read index.tree x
access_in index (WriteTree x) = Write index.tree x
access_in index (WriteStash x) = Write index.stash x

-- the stash is read, and then the path from the root down; the path is written, and then the stash
abbrev pub read_script : Index → ℕ → List Access
read_script index leaf =
    map (access_in index) (Tree.read_script index.slots index.height leaf)

abbrev pub write_script : Index → ℕ → List Access
write_script index leaf =
    map (access_in index) (Tree.write_script index.slots index.height leaf)

abbrev pub access_script : Index → ℕ → List Access
access_script index leaf =
    map (access_in index) (Tree.access_script index.slots index.height leaf)

abbrev pub script_length : Index → ℕ
script_length index = 2 * index.slots + 2 * path_blocks index.height
