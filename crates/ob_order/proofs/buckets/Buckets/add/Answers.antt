use Rattle.std.proofs.Common.{◌≡◌, ◌+◌, ◌*◌, ◌/◌, ◌%◌, ◌^◌, ◌++◌, ◌∷◌, [], ◌<◌, ℕ, length, slice_index_or, slice_set, vec_len, ◌∙◌, ap, subst, arith}
use Rattle.std.proofs.lemmas.List.{get_or_default}
use Rattle.ob_order.specs.Buckets.{BucketsState, hash_of, low_hash, bucket_of}
use Rattle.ob_order.proofs.BucketLemmas.{one_more}
use Rattle.ob_order.proofs.buckets.Buckets.add.Goals as goal

pub returns-clause-adds : goal.returns-clause-adds
returns-clause-adds c = λ at n rows are none has.
    let self = c.args.self.now in
    let field = c.args.field.now in
    let bucket = c.bucket_of-bucket.result in
    let heads : c.self.inside.heads.items ≡ self.heads = ap (λ (s : BucketsState). s.heads) c.self.view_is in
    let next : c.self.inside.next.items ≡ self.next = ap (λ (s : BucketsState). s.next) c.self.view_is in
    let most = ap (λ (s : BucketsState). s.most) c.self.view_is in
    let long : vec_len c.self.inside.heads ≡ length c.self.inside.heads.items = omega (arith, c.self.inside.heads.ok.0) in
    let size : c.len.result ≡ length self.heads = c.len.ensures ∙ long ∙ ap length heads in
    let hash : c.hash_of-hash.result ≡ hash_of field = c.hash_of-hash.ensures in
    let here : bucket ≡ bucket_of (length self.heads) field =
    c.bucket_of-bucket.ensures.value ∙ (λ i. ((hash i / 2 ^ 32) * size i) / 2 ^ 32) in
    let low : c.low_half.result ≡ low_hash field = c.low_half.ensures ∙ ap (λ (h : ℕ). h % 2 ^ 32) hash in
    let hashes : c.self.inside.hashes.items ≡ self.hashes = ap (λ (s : BucketsState). s.hashes) c.self.view_is in
    let many : length self.hashes ≡ n = omega (arith, ap length hashes, c.self.inside.hashes.ok.0, c.self.invariant.hashes, ap length next, c.self.inside.next.ok.0, are.count) in
    let noted : c.push_reserved.new.self.items ≡ self.hashes ++ low_hash field ∷ [] = c.push_reserved.ensures.items ∙ (λ i. hashes i ++ low i ∷ []) in
    let some : 0 < c.len.result = omega (arith, c.len.ensures, c.requires, most, c.self.invariant.count) in
    let inside : bucket < length self.heads = omega (arith, c.bucket_of-bucket.ensures.below some, size) in
    let head : c.index.result.now ≡ slice_index_or self.heads (bucket_of (length self.heads) field) 0 =
    c.index.ensures ∙ (λ i. slice_index_or (heads i) (here i) c.index.result.now) ∙ get_or_default self.heads _ c.index.result.now 0 (subst (λ (k : ℕ). k < length self.heads) here inside) in
    let links : c.push_reserved-2.new.self.items ≡ self.next ++ slice_index_or self.heads (bucket_of (length self.heads) field) 0 ∷ [] =
    c.push_reserved-2.ensures.items ∙ (λ i. next i ++ head i ∷ []) in
    let last : c.len-2.result ≡ n + 1 = omega (arith, c.len-2.ensures, c.push_reserved-2.ensures.len, ap length next, c.self.inside.next.ok.0, are.count) in
    let put : slice_set c.self.inside.heads.items bucket c.len-2.result ≡ slice_set self.heads (bucket_of (length self.heads) field) (n + 1) =
    λ i. slice_set (heads i) (here i) (last i) in
    one_more at field rows self n are none has (subst (λ (k : ℕ). k < length self.heads) here inside) _ put links many noted
