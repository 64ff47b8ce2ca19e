use Rattle.std.proofs.Common.{◌≡◌, ◌++◌, ℕ, List, length, take, drop, replicate, refl, ◌∙◌, ap, arith}
use Rattle.ob_room.specs.RoomState.{clear, RoomState}
use Rattle.ob_room.proofs.Opening.{opens}
use Rattle.ob_room.proofs.room.RowBuffer.open.Goals as goal

pub returns : goal.returns
returns c =
    let shelf = c.self.inside.shelf in
    let size : shelf.len ≡ length shelf.items = omega (arith, shelf.ok.0) in
    let view = Rattle.ob_room.specs.contracts.room.RowBuffer.the_view c.self.inside in (
      (
        refl,
        λ w.
            ap (λ (k : ℕ). record view { shelf = take k (w ++ drop (length w) shelf.items) }) size
            ∙ ap (λ (s : RoomState). record s { shelf = take (length s.shelf) (w ++ drop (length w) s.shelf) }) c.self.view_is
            ∙ opens c.args.n c.args.self.now c.shelve_clear.new.self c.shelve_clear.ensures c.requires.shelf w,
      ),
      record { writes_back = tt; value = c.as_mut_slice.ensures.value ∙ ap (λ (s : RoomState). s.shelf) c.self.view_is ∙ c.shelve_clear.ensures.shelf ∙ ap (λ (l : List (List ℕ)). l ++ replicate c.args.n (clear c.args.self.now.width)) c.requires.shelf },
    )
