use Rattle.std.proofs.Common.{◌≡◌, ◌∙◌, ℕ, ◌++◌, length, replicate, codes, rules, arith, ap}
use Rattle.std.specs.Int.{to_be_bytes, w32, w64}
use Rattle.ob_reopen.specs.Spelling.{head_text}
use Rattle.ob_reopen.proofs.spelling.put_head.Goals as goal

pub returns : goal.returns
unfolding head_text
returns c =
    let mark : c.copy_from_slice.new.self ≡ codes "oblidb-c" = search rules in
    let region : c.copy_from_slice-2.new.self ≡ to_be_bytes w64 c.args.next = search rules in
    let tables : c.copy_from_slice-3.new.self ≡ to_be_bytes w32 c.args.count = search rules in
    let long : length c.split_at_mut-tables.result.1.now ≡ 1004 = omega (
      arith,
      c.requires,
      c.split_at_mut-mark.ensures.back_len,
      c.split_at_mut-region.ensures.back_len,
      c.split_at_mut-tables.ensures.back_len,
    ) in
    let zeros : c.fill.new.self ≡ replicate (length c.split_at_mut-tables.result.1.now) 0 = search rules in
    λ i. mark i ++ (region i ++ (tables i ++ (zeros ∙ ap (λ (n : ℕ). replicate n 0) long) i))
