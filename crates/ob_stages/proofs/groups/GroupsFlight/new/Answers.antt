use Rattle.std.proofs.Common.{◌≡◌, List, length, map, take, refl, ◌∙◌, ap, subst, arith, append-nil}
use Rattle.ob_names.specs.Names.{place_of}
use Rattle.ob_mean.specs.Step.{item_of}
use Rattle.ob_sql.specs.declared.stmt.Listed.{Listed}
use Rattle.ob_stages.proofs.Starts.{groups_start}
use Rattle.ob_stages.proofs.groups.GroupsFlight.new.Goals as goal

pub returns : goal.returns
returns c =
    let items = c.items_at-items.result in
    groups_start c.args.public.now c.args.flown c.args.select.now c.args.flat c.args.pred c.requires.board
    (record { reading = c.new.result; key = c.place_of-place.result; items = items; buckets = c.clear.new.self; n = 0 }) c.args.key.now c.new.ensures c.requires.grouped
    (c.place_of-place.ensures.value ∙ ap (place_of c.args.key.now) (append-nil c.as_slice-3.result.now ∙ c.as_slice-3.ensures.value))
    (subst (λ (l : List Listed). take (length l) items ≡ map (item_of c.args.flat.schema) l) c.as_slice.ensures (c.items_at-items.ensures.value ∙ (λ i. map (item_of (c.as_slice-2.ensures.value i)) c.as_slice.result.now)))
    refl (omega (arith, c.clear.ensures.most, c.requires.places)) c.clear.ensures.empty
