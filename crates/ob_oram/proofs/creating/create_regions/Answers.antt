use Rattle.std.proofs.Common.{◌≡◌, ◌≤◌, ◌+◌, ◌^◌, ℕ, Ok, Err, refl, sym, subst, arith}
use Rattle.ob_vault.specs.Places.{at}
use Rattle.ob_vault.proofs.WordLemmas.{asks_start, asks_after, asks_fewer}
use Rattle.ob_vault.specs.VaultCalls.{Forgets}
use Rattle.ob_flat.specs.Flats.{FitsRegion}
use Rattle.ob_flat.specs.Creates.{CreatesRegion, table_of}
use Rattle.ob_vault.specs.declared.region.Order.TheVariants.{Round}
use Rattle.ob_base.specs.Indexes.{tree_blocks}
use Rattle.ob_oram.specs.Creating.{new_tree, new_stash}
use Rattle.ob_oram.proofs.Heights.{blocks_few}
use Rattle.ob_oram.proofs.Creates.{one_each}
use Rattle.ob_oram.proofs.Regions.{length-create, next_after, regions_first, regions_second, regions_both}
use Rattle.ob_oram.proofs.creating.create_regions.Goals as goal

most : (h slots : ℕ) → h ≤ 24 → slots ≤ 1024 → 2 + tree_blocks h + slots ≤ 2 ^ 59
most h slots few small = omega (arith, blocks_few h few, small)

pub create_region-first-requires-clause-asks : goal.create_region-first-requires-clause-asks
create_region-first-requires-clause-asks g c =
    asks_fewer (asks_start c.requires.starts (most c.args.height c.args.slots c.requires.height c.requires.slots.1))
    (omega (arith, one_each c.tree_size-blocks.result, c.tree_size-blocks.ensures))

pub create_region-first-requires-clause-size : goal.create_region-first-requires-clause-size
create_region-first-requires-clause-size g c = subst (λ (n : ℕ). FitsRegion 1 c.args.schema.now n) (sym c.tree_size-blocks.ensures) c.requires.size

pub create_region-second-requires-clause-asks : goal.create_region-second-requires-clause-asks
create_region-second-requires-clause-asks g c =
    let tree = new_tree c.args.schema.now c.args.height c.args.vault.now.next in
    let first = rw c.tree_size-blocks.ensures at c.in-Ok.ensures.creates in
    asks_after (asks_start c.requires.starts (most c.args.height c.args.slots c.requires.height c.requires.slots.1)) first.ran.ok
    (omega (arith, one_each c.args.slots, length-create tree))

pub create_region-second-requires-clause-size : goal.create_region-second-requires-clause-size
create_region-second-requires-clause-size g c = record {
  some = c.requires.size.some;
  few = c.requires.size.few;
  wide = c.requires.size.wide;
  least = c.requires.slots.0;
  blocks = omega (arith, one_each c.args.slots, c.requires.slots.1);
}

pub returns-in-Ok-second-clause-creates : goal.returns-in-Ok-second-clause-creates
returns-in-Ok-second-clause-creates g c =
    let old = at g.R.Revisions.state c.args.vault.now (g.S.BlockStore.state c.args.store.now) in
    let mid = at g.R.Revisions.state c.create_region-first.new.vault (g.S.BlockStore.state c.create_region-first.new.store) in
    let new = at g.R.Revisions.state c.create_region-second.new.vault (g.S.BlockStore.state c.create_region-second.new.store) in
    let tree = new_tree c.args.schema.now c.args.height c.args.vault.now.next in
    let stash = new_stash c.args.schema.now c.args.slots c.args.vault.now.next in
    let first = rw c.tree_size-blocks.ensures at c.in-Ok.ensures.creates in
    let next : c.create_region-first.new.vault.next ≡ c.args.vault.now.next + 1 = next_after tree old mid c.requires.starts.ready first.ran.ok in
    let second = subst (λ (n : ℕ). CreatesRegion Round 1 (table_of c.args.schema.now c.args.slots n) (Ok c.in-Ok-second.stash) mid new) next c.in-Ok-second.ensures.creates in
    (regions_both tree stash old c.requires.starts.ready refl refl mid _ first _ new second).0

pub returns-in-Ok-second-clause-made : goal.returns-in-Ok-second-clause-made
returns-in-Ok-second-clause-made g c =
    let old = at g.R.Revisions.state c.args.vault.now (g.S.BlockStore.state c.args.store.now) in
    let mid = at g.R.Revisions.state c.create_region-first.new.vault (g.S.BlockStore.state c.create_region-first.new.store) in
    let new = at g.R.Revisions.state c.create_region-second.new.vault (g.S.BlockStore.state c.create_region-second.new.store) in
    let tree = new_tree c.args.schema.now c.args.height c.args.vault.now.next in
    let stash = new_stash c.args.schema.now c.args.slots c.args.vault.now.next in
    let first = rw c.tree_size-blocks.ensures at c.in-Ok.ensures.creates in
    let next : c.create_region-first.new.vault.next ≡ c.args.vault.now.next + 1 = next_after tree old mid c.requires.starts.ready first.ran.ok in
    let second = subst (λ (n : ℕ). CreatesRegion Round 1 (table_of c.args.schema.now c.args.slots n) (Ok c.in-Ok-second.stash) mid new) next c.in-Ok-second.ensures.creates in
    (regions_both tree stash old c.requires.starts.ready refl refl mid _ first _ new second).1

pub returns-in-Err-second-clause-creates : goal.returns-in-Err-second-clause-creates
returns-in-Err-second-clause-creates g c =
    let old = at g.R.Revisions.state c.args.vault.now (g.S.BlockStore.state c.args.store.now) in
    let mid = at g.R.Revisions.state c.create_region-first.new.vault (g.S.BlockStore.state c.create_region-first.new.store) in
    let late = at g.R.Revisions.state c.create_region-second.new.vault (g.S.BlockStore.state c.create_region-second.new.store) in
    let new = at g.R.Revisions.state c.forget.new.self (g.S.BlockStore.state c.create_region-second.new.store) in
    let tree = new_tree c.args.schema.now c.args.height c.args.vault.now.next in
    let stash = new_stash c.args.schema.now c.args.slots c.args.vault.now.next in
    let first = rw c.tree_size-blocks.ensures at c.in-Ok.ensures.creates in
    let next : c.create_region-first.new.vault.next ≡ c.args.vault.now.next + 1 = next_after tree old mid c.requires.starts.ready first.ran.ok in
    let second = subst (λ (n : ℕ). CreatesRegion Round 1 (table_of c.args.schema.now c.args.slots n) (Err c.in-Err-second.e) mid late) next c.in-Err-second.ensures.creates in
    let forgets = subst (λ (q : ℕ). Forgets q late new) first.number (c.forget.ensures.forgets (g.S.BlockStore.state c.create_region-second.new.store)) in
    regions_second tree stash old c.requires.starts.ready refl refl mid _ first _ late new second forgets refl

pub returns-in-Err-clause-creates : goal.returns-in-Err-clause-creates
returns-in-Err-clause-creates g c =
    let old = at g.R.Revisions.state c.args.vault.now (g.S.BlockStore.state c.args.store.now) in
    let new = at g.R.Revisions.state c.create_region-first.new.vault (g.S.BlockStore.state c.create_region-first.new.store) in
    let tree = new_tree c.args.schema.now c.args.height c.args.vault.now.next in
    let stash = new_stash c.args.schema.now c.args.slots c.args.vault.now.next in
    let first = rw c.tree_size-blocks.ensures at c.in-Err.ensures.creates in
    regions_first tree stash old c.requires.starts.ready refl refl _ new first
