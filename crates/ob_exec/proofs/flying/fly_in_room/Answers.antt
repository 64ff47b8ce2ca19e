use Rattle.std.proofs.Common.{◌+◌, ◌*◌, ℕ, List, ◌++◌, length, max, sym, ◌∙◌, ap, subst, arith}
use Rattle.ob_flat.proofs.Rooms.{opened_closed, opened_wide}
use Rattle.ob_vault.proofs.RowsLemmas.{sizes_join}
use Rattle.ob_vault.specs.Rows.{SameSizes}
use Rattle.ob_exec.proofs.flying.fly_in_room.Goals as goal

pub overflow_cast-flyers : goal.overflow_cast-flyers
overflow_cast-flyers g c = omega (arith, c.requires.few)

pub overflow_mul-flyers : goal.overflow_mul-flyers
overflow_mul-flyers g c = omega (arith, c.requires.rows, c.requires.most)

pub overflow_add-pack : goal.overflow_add-pack
overflow_add-pack g c = omega (arith, c.requires.rows, c.requires.most, c.pack-pack.ensures.value)

pub clear_shelf-requires-clause-wide : goal.clear_shelf-requires-clause-wide
clear_shelf-requires-clause-wide g c =
    let all = c.open-open.result.now in
    let ends = c.fly-flown.new.rows ++ c.fly-flown.new.kept in
    let same = subst (λ (l : List (List ℕ)). SameSizes l ends) (sym c.split_at_mut-rows.ensures.value) (sizes_join _ _ _ _ c.fly-flown.ensures.rows c.fly-flown.ensures.kept) in
    opened_wide 1024 (c.pack-pack.result + length c.args.flyers.now * c.args.share) c.args.room.now all ends c.requires.room (omega (arith, c.requires.rows, c.pack-pack.ensures.value)) c.open-open.ensures.value same

pub returns-clause-room : goal.returns-clause-room
returns-clause-room g c =
    let all = c.open-open.result.now in
    let ends = c.fly-flown.new.rows ++ c.fly-flown.new.kept in
    let same = subst (λ (l : List (List ℕ)). SameSizes l ends) (sym c.split_at_mut-rows.ensures.value) (sizes_join _ _ _ _ c.fly-flown.ensures.rows c.fly-flown.ensures.kept) in
    c.clear_shelf.ensures
    ∙ opened_closed 1024 (c.pack-pack.result + length c.args.flyers.now * c.args.share) c.args.room.now all ends c.requires.room (omega (arith, c.requires.rows, c.pack-pack.ensures.value)) c.open-open.ensures.value same c.pack-pack.ensures.sound
    ∙ ap (λ (k : ℕ). record c.args.room.now { high = max c.args.room.now.high (k + length c.args.flyers.now * c.args.share) }) c.pack-pack.ensures.value
