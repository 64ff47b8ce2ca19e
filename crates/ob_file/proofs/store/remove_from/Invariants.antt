use Rattle.std.specs.BTreeMap.{btree_map_len}
use Rattle.ob_file.proofs.store.remove_from.Given as goal

-- how many files are open
abbrev pub decreases-files : goal.decreases-files
decreases-files g l = btree_map_len l.opened
