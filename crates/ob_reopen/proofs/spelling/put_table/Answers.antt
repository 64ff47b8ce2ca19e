use Rattle.std.proofs.Common.{◌≡◌, [], ◌∷◌, ◌++◌, length, rules, arith, ◌∙◌}
use Rattle.std.specs.Int.{to_be_bytes, w32, w64}
use Rattle.ob_reopen.specs.Spelling.{name_text, columns_text, salt_text, table_text}
use Rattle.ob_reopen.proofs.spelling.put_table.Goals as goal

pub returns : goal.returns
unfolding table_text
returns c =
    let t = c.args.listed.now in
    let columns = t.table.heading.schema in
    let name : c.put_name.new.field ≡ name_text t.table.heading.name = search rules in
    let region : c.copy_from_slice.new.self ≡ to_be_bytes w64 t.table.region = search rules in
    let capacity : c.copy_from_slice-2.new.self ≡ to_be_bytes w32 t.table.heading.capacity = search rules in
    let number : c.copy_from_slice-3.new.self ≡ to_be_bytes w64 t.number = search rules in
    let count : c.fill.new.self ≡ length columns ∷ [] = search rules in
    let long : length c.split_at_mut-fields.result.0.now ≡ 953 = omega (
      arith,
      c.requires.size,
      c.split_at_mut-name.ensures.back_len,
      c.split_at_mut-region.ensures.back_len,
      c.split_at_mut-capacity.ensures.back_len,
      c.split_at_mut-number.ensures.back_len,
      c.split_at_mut-count.ensures.back_len,
      c.split_at_mut-fields.ensures.front_len,
    ) in
    let fields : c.put_columns.new.fields ≡ columns_text 953 columns = c.put_columns.ensures ∙ (λ i. columns_text (long i) (c.as_slice-columns.ensures.value i)) in
    let salt : c.put_salt.new.field ≡ salt_text t.salt = search rules in
    λ i. name i ++ (region i ++ (capacity i ++ (number i ++ (count i ++ (fields i ++ salt i)))))
