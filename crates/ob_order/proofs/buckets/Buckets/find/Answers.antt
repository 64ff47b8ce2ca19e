use Rattle.std.proofs.Common.{◌≡◌, ◌≢◌, ◌<◌, ◌+◌, ◌-◌, ◌%◌, ◌^◌, ℕ, List, length, slice_index_or, sym, ◌∙◌, ap, subst, arith}
use Rattle.std.specs.Cmp.Lexicographic.{bytes_decides}
use Rattle.std.proofs.lemmas.List.{get_or_default}
use Rattle.ob_order.specs.Orders.{field_at}
use Rattle.ob_order.specs.Buckets.{BucketsState, low_hash}
use Rattle.ob_order.proofs.BucketLemmas.{Walks, walk_goes_on, walk_inside}
use Rattle.ob_order.proofs.buckets.Buckets.find.Goals.{else-index-low-via-then-index-low+else-eq, else-index-low-via-else-index-low}
use Rattle.ob_order.proofs.buckets.Buckets.find.Goals as goal

pub loop-link-preserved : goal.loop-link-preserved
loop-link-preserved c =
    let place = c.loop-link.link - 1 in
    let walks = c.loop-link.invariant in
    let is : c.loop-link.link ≡ place + 1 = omega (arith, c.loop-link-test.true) in
    let inside = walk_inside c.args.at c.args.field.now c.args.rows.now c.args.self.now c.requires c.loop-link.link place walks is in
    let links : c.self.inside.next.items ≡ c.args.self.now.next = ap (λ (s : BucketsState). s.next) c.self.view_is in
    let not : field_at c.args.at (length c.args.field.now) c.args.rows.now place ≢ c.args.field.now =
    λ same. elim c.else-index-low.branch [
      | else-index-low-via-then-index-low+else-eq w ↦ absurd (cc (sym w.if-eq.false ∙ w.eq.ensures ∙ (bytes_decides w.field_at.result.now c.args.field.now).1 (w.field_at.ensures ∙ same)))
      | else-index-low-via-else-index-low w ↦
          let hashes : c.self.inside.hashes.items ≡ c.args.self.now.hashes = ap (λ (s : BucketsState). s.hashes) c.self.view_is in
          let many : place < length c.args.self.now.hashes = omega (arith, inside, ap length hashes, c.self.inside.hashes.ok.0, c.self.invariant.hashes, ap length links, c.self.inside.next.ok.0) in
          let noted : c.index.result.now ≡ low_hash (field_at c.args.at (length c.args.field.now) c.args.rows.now place) =
          c.index.ensures ∙ ap (λ (l : List ℕ). slice_index_or l place c.index.result.now) hashes ∙ get_or_default c.args.self.now.hashes place c.index.result.now 0 many ∙ c.requires.hashes place inside in
          let low : c.low_half-low.result ≡ low_hash c.args.field.now = c.low_half-low.ensures ∙ ap (λ (h : ℕ). h % 2 ^ 32) c.hash_of-hash.ensures in
          absurd (w.if-index-low.false (noted ∙ ap low_hash same ∙ sym low))
    ] in
    let next : c.index-link.result.now ≡ slice_index_or c.args.self.now.next place 0 =
    c.index-link.ensures ∙ ap (λ (l : List ℕ). slice_index_or l place c.index-link.result.now) links ∙ get_or_default c.args.self.now.next place c.index-link.result.now 0 inside in
    subst (Walks c.args.at c.args.field.now c.args.rows.now c.args.self.now) (sym next)
    (walk_goes_on c.args.at c.args.field.now c.args.rows.now c.args.self.now c.requires c.loop-link.link place walks is not)
