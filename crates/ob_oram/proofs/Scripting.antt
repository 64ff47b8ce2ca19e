-- The accesses of an index, part by part.
use Rattle.std.proofs.Common.{◌≡◌, ◌<◌, ◌+◌, ◌*◌, ◌^◌, ◌++◌, ℕ, refl, sym, ◌∙◌}
use Rattle.std.proofs.lemmas.List.{append_assoc}
use Rattle.ob_oram.specs.declared.index.Index.{Index}
use Rattle.ob_oram.specs.Scripts.{access_script}
use Rattle.ob_oram.specs.Halves.{leaf_blocks, stash_blocks}
use Rattle.ob_oram.proofs.AccessRuns.{access_parts}
use Rattle.ob_oram.proofs.IndexReads.{reads_two}
use Rattle.ob_oram.proofs.IndexWrites.{writes_two}
use Rattle.ob_oram.proofs.WalkScripts.{reads_each, writes_each}
use Rattle.ob_base.specs.Accesses.{write_at}
use Rattle.ob_base.specs.Lists.{each}
use Rattle.ob_script.specs.Parts.{access_part, count_part, path_read, path_write}

pub scripts_join : (index : Index) (leaf : ℕ) → leaf < 2 ^ index.height → access_script index leaf ≡ access_part index.tree index.stash index.slots index.height leaf
scripts_join index leaf below =
    let blocks : ℕ = 4 * (index.height + 1) in
    access_parts index leaf
    ∙ (λ j. reads_two index leaf j ++ writes_two index leaf j)
    ∙ (λ j. (sym (reads_each index (stash_blocks index) (refl, refl)) j ++ sym (reads_each index (leaf_blocks index leaf) (refl, below)) j)
    ++ (sym (writes_each index (leaf_blocks index leaf) (refl, below)) j ++ sym (writes_each index (stash_blocks index) (refl, refl)) j))
    ∙ append_assoc (count_part index.stash index.slots) (each blocks (path_read index.tree index.height leaf))
    (each blocks (path_write index.tree index.height leaf) ++ each index.slots (write_at index.stash))
