use Rattle.std.proofs.Common.{◌≡◌, ◌∙◌, ℕ, Ok, Err, refl, ap, subst, length}
use Rattle.std.proofs.lemmas.List.{length-replicate}
use Rattle.ob_vault.specs.Places.{at}
use Rattle.ob_oram.specs.declared.index.Index.{Index}
use Rattle.ob_base.specs.Indexes.{rows_open}
use Rattle.ob_base.proofs.IndexLemmas.{height_is}
use Rattle.ob_oram.specs.Creating.{CreatesRegions, IsFresh, new_tree, new_stash}
use Rattle.ob_oram.proofs.Regions.{regions_never}
use Rattle.ob_oram.proofs.Made.{one_height, tree_fits, made_index, made_lies, made_map, regions_ok, regions_err}
use Rattle.ob_oram.proofs.creating.create_index.Goals as goal

pub returns-in-Err : goal.returns-in-Err
returns-in-Err g c =
    let old = at g.R.Revisions.state c.args.vault.now (g.S.BlockStore.state c.args.store.now) in
    let ready = (c.requires.starts c.tree_height-height.result (height_is c.args.capacity c.tree_height-height.result c.tree_height-height.ensures.value)).ready in
    rw c.in-Err.ensures.never (record {
      creates = record {
        regions = λ h is. regions_never (new_tree c.args.schema.now h c.args.vault.now.next) (new_stash c.args.schema.now c.args.stash c.args.vault.now.next) old ready refl refl;
        fresh = tt;
        index = tt;
        told = tt;
        empty = tt;
      };
    })

pub returns-in-Err-empty_buffer : goal.returns-in-Err-empty_buffer
returns-in-Err-empty_buffer g c =
    let old = at g.R.Revisions.state c.args.vault.now (g.S.BlockStore.state c.args.store.now) in
    let ready = (c.requires.starts c.tree_height-height.result (height_is c.args.capacity c.tree_height-height.result c.tree_height-height.ensures.value)).ready in
    rw c.in-Err-empty_buffer.ensures.never (record {
      creates = record {
        regions = λ h is. regions_never (new_tree c.args.schema.now h c.args.vault.now.next) (new_stash c.args.schema.now c.args.stash c.args.vault.now.next) old ready refl refl;
        fresh = tt;
        index = tt;
        told = tt;
        empty = tt;
      };
    })

pub create_regions-made-requires-clause-starts : goal.create_regions-made-requires-clause-starts
create_regions-made-requires-clause-starts g c = c.requires.starts c.tree_height-height.result (height_is c.args.capacity c.tree_height-height.result c.tree_height-height.ensures.value)

pub create_regions-made-requires-clause-size : goal.create_regions-made-requires-clause-size
create_regions-made-requires-clause-size g c = tree_fits c.args.schema.now c.args.capacity c.tree_height-height.result c.requires.size c.tree_height-height.ensures.few

pub returns-in-Ok-made : goal.returns-in-Ok-made
returns-in-Ok-made g c =
    let columns = c.args.schema.now in
    let h = c.tree_height-height.result in
    let next = c.args.vault.now.next in
    let old = at g.R.Revisions.state c.args.vault.now (g.S.BlockStore.state c.args.store.now) in
    let new = at g.R.Revisions.state c.create_regions-made.new.vault (g.S.BlockStore.state c.create_regions-made.new.store) in
    let index : Index = record {
      schema = c.copied.result;
      capacity = c.args.capacity;
      key = c.key_place.result;
      slots = c.args.stash;
      height = h;
      tree = c.in-Ok-made.regions.0;
      stash = c.in-Ok-made.regions.1;
      leaves = c.in-Ok.leaves;
      buffer = c.in-Ok-empty_buffer.buffer;
    } in
    let made = c.in-Ok-made.ensures.made in
    let fresh : IsFresh columns c.args.capacity c.args.stash next c.args.draws.now index = record {
      has_schema = c.copied.ensures;
      has_capacity = refl;
      has_slots = refl;
      has_tree = made.tree_region;
      has_stash = made.stash_region;
      has_leaves = c.in-Ok.ensures.leaves;
    } in
    let size : length c.in-Ok-empty_buffer.buffer.items ≡ rows_open h c.args.stash = ap length c.in-Ok-empty_buffer.ensures.buffer ∙ length-replicate (rows_open h c.args.stash) _ in
    let is = (height_is c.args.capacity c.tree_height-height.result c.tree_height-height.ensures.value) in
    record {
      creates = record {
        regions = λ lower least. subst (λ (n : ℕ). CreatesRegions (new_tree columns n next) (new_stash columns c.args.stash next) (Ok index) old new) (one_height c.args.capacity h lower is least)
            (regions_ok c.in-Ok-made.regions index c.in-Ok-made.ensures.creates);
        fresh = fresh;
        index = made_index index columns c.args.capacity c.args.stash next c.args.draws.now fresh c.requires.size c.key_place.ensures is c.requires.draws c.requires.stash.0 c.requires.stash.1 size _ old new made;
        told = made_lies index columns c.args.capacity c.args.stash next c.args.draws.now fresh c.requires.size c.key_place.ensures is c.requires.draws c.requires.stash.0 c.requires.stash.1 size _ old new made;
        empty = made_map index columns c.args.capacity c.args.stash next c.args.draws.now fresh c.requires.size c.key_place.ensures is c.requires.draws c.requires.stash.0 c.requires.stash.1 size _ old new made;
      };
    }

pub returns-in-Err-made : goal.returns-in-Err-made
returns-in-Err-made g c =
    let columns = c.args.schema.now in
    let h = c.tree_height-height.result in
    let next = c.args.vault.now.next in
    let old = at g.R.Revisions.state c.args.vault.now (g.S.BlockStore.state c.args.store.now) in
    let new = at g.R.Revisions.state c.create_regions-made.new.vault (g.S.BlockStore.state c.create_regions-made.new.store) in
    record {
      creates = record {
        regions = λ lower least. subst (λ (n : ℕ). CreatesRegions {T = Index} (new_tree columns n next) (new_stash columns c.args.stash next) (Err c.in-Err-made.e) old new) (one_height c.args.capacity h lower (height_is c.args.capacity c.tree_height-height.result c.tree_height-height.ensures.value) least)
            (regions_err c.in-Err-made.e c.in-Err-made.ensures.creates);
        fresh = tt;
        index = tt;
        told = tt;
        empty = tt;
      };
    }
