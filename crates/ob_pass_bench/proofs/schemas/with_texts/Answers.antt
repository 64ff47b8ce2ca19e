use Rattle.std.proofs.Common.{◌≡◌, ◌+◌, ℕ, subst, arith}
use Rattle.ob_pass_bench.specs.Tables.{HasColumns}
use Rattle.ob_pass_bench.proofs.schemas.with_texts.Goals as goal

pub returns : goal.returns
returns c =
    let made = c.with_text.ensures 5 785 (c.with_text-schema-3.ensures 4 529 (c.with_text-schema-2.ensures 3 273 (c.with_text-schema.ensures 2 17 c.two_numbers.ensures))) in
    let same : 785 + (c.args.n + 1) ≡ 786 + c.args.n = omega arith in
    subst (λ (w : ℕ). HasColumns 6 w c.with_text.result) same made
