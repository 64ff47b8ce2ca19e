use Rattle.std.proofs.Common.{◌≡◌, ◌≤◌, ◌+◌, ◌*◌, ◌/◌, ◌%◌, ℕ, Bool, Option, Result, Ok, Err, MatchResult, length, ◌∙◌, ap, subst, arith}
use Rattle.ob_row.specs.Rows.{Row}
use Rattle.ob_vault.specs.State.{World}
use Rattle.ob_flat.specs.declared.flat.Flat.{Flat}
use Rattle.std.proofs.Math.Nat.{mod-lt}
use Rattle.std.proofs.lemmas.Result.{on_ok_weaker}
use Rattle.ob_vault.specs.Places.{at}
use Rattle.ob_vault.proofs.RowsLemmas.{rows_room}
use Rattle.ob_row.specs.Slots.{Slots}
use Rattle.ob_blocks.specs.Blocks.{block_at, with_block}
use Rattle.ob_flat.specs.Flats.{HoldsSlots}
use Rattle.ob_flat.specs.Words.{blocks_of}
use Rattle.ob_cont.specs.Putting.{order_for, put_if}
use Rattle.ob_cont.proofs.Puts.{with_put, place_within}
use Rattle.ob_cont.proofs.Due.{turn_more}
use Rattle.ob_cont.proofs.putting.put_row.Goals as goal

match_weaker : {T E : Type 0} (r : Result T E) (P Q : T → Type 0) (F : E → Type 0) → ((x : T) → P x → Q x) → MatchResult r P F → MatchResult r Q F
match_weaker (Ok x) P Q F more is = more x is
match_weaker (Err e) P Q F more is = is

-- the block with the slot's place is written again
held : (pack : ℕ) (to : Flat) (b : Bool) (x : ℕ) (there : Option Row) (made block : Slots) (w : World) → 1 ≤ pack → (x / pack) * pack + pack ≤ length made
    → block ≡ put_if b (x % pack) there (block_at pack made (x / pack)) → HoldsSlots pack to (with_block pack made (x / pack) block) w → HoldsSlots pack to (put_if b x there made) w
held pack to b x there made block w some fits same is =
    let all : with_block pack made (x / pack) block ≡ put_if b x there made = ap (with_block pack made (x / pack)) same ∙ with_put b pack made x there some fits in
    subst (λ (l : Slots). HoldsSlots pack to l w) all is

pub rework_block-requires : goal.rework_block-requires
rework_block-requires g c =
    let due = c.requires.due in
    let to = c.args.to.now in
    record {
      spare = c.requires.spare;
      few = c.requires.few;
      table = record {
        some = due.some;
        most = due.most;
        size = due.size;
        within = place_within (length c.args.held.now) to.capacity (c.args.i % to.capacity) due.some (mod-lt c.args.i due.size.least);
        order = order_for (length c.args.held.now);
        turn = due.turn;
      };
      fit = c.requires.fit;
      suits = c.requires.row;
    }

pub returns-clause-puts : goal.returns-clause-puts
returns-clause-puts g c =
    let pack = length c.args.held.now in
    let due = c.requires.due in
    let to = c.args.to.now in
    let slot = c.args.i % to.capacity in
    let reworks = c.rework_block.ensures.reworks in
    let new = at g.R.Revisions.state c.rework_block.new.vault (g.S.BlockStore.state c.rework_block.new.store) in
    let within = place_within pack to.capacity slot due.some (mod-lt c.args.i due.size.least) in
    record {
      ran = reworks.ran;
      never = reworks.never;
      seals = reworks.seals;
      turn = on_ok_weaker c.rework_block.result (λ turn. turn_more pack c.args.i to new due.size.least (turn.moves (order_for pack) due.turn)) reworks.turn;
      rows = reworks.holds;
      told = λ honest there made begins holds.
          let fits : (slot / pack) * pack + pack ≤ length made = omega (arith, holds.size, rows_room (slot / pack) (blocks_of pack to) pack within) in
          match_weaker c.rework_block.result _ _ _ (λ _ all. held pack to c.args.selected slot there made all.0 new due.some fits (all.1 there begins) all.2) (reworks.told honest made holds);
    }
