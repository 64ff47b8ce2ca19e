use Rattle.std.proofs.Common.{◌≡◌, ◌-◌, ◌∷◌, [], ◌++◌, length, sym, ◌∙◌, ap, arith, append_assoc}
use Rattle.std.proofs.Common.{ℕ, subst}
use Rattle.std.specs.List.{All}
use Rattle.ob_base.specs.declared.schema.Column.{Column}
use Rattle.ob_base.specs.Schemas.{Columns}
use Rattle.ob_reopen.specs.Spelling.{columns_text}
use Rattle.ob_reopen.proofs.Parts.{all_added, first_column}
use Rattle.ob_reopen.proofs.parsing.+add_columns.Goals as goal

pub returns-in-None-clause-told : goal.returns-in-None-clause-told
returns-in-None-clause-told t c = λ cs size fits is.
    let first = first_column c.args.table.now (length c.args.fields.now) cs c.args.fields.now _ _ (omega (arith, size, c.if-count-eq0.false)) fits is c.split_at.ensures.front c.split_at.ensures.back in
    absurd (cc (c.column_in.ensures.told first.column first.fits first.field_is, c.in-None.is))

pub returns-in-Some-clause-table : goal.returns-in-Some-clause-table
returns-in-Some-clause-table t c = λ all.
    c.add_columns.ensures.table (subst (λ (l : Columns). All (λ (d : Column). d.table ≡ c.args.table.now) l) (sym c.push.ensures) (all_added c.args.table.now c.args.schema.now c.in-Some.column c.in-Some.ensures.table all))

pub returns-in-Some-clause-told : goal.returns-in-Some-clause-told
returns-in-Some-clause-told t c = λ cs size fits is.
    let n = length c.args.fields.now in
    let first = first_column c.args.table.now n cs c.args.fields.now _ _ (omega (arith, size, c.if-count-eq0.false)) fits is c.split_at.ensures.front c.split_at.ensures.back in
    let column : c.in-Some.column ≡ first.column = cc (c.column_in.ensures.told first.column first.fits first.field_is, c.in-Some.is) in
    let long : length c.split_at.result.1.now ≡ n - 36 = omega (arith, c.split_at.ensures.back_len) in
    let count : length first.others ≡ c.args.count - 1 = omega (arith, size, ap (λ (l : Columns). length l) first.split) in
    let rest = c.add_columns.ensures.told first.others count first.fit (first.fields_are ∙ ap (λ (k : ℕ). columns_text k first.others) (sym long)) in
    let pushed : c.push.new.self ≡ c.args.schema.now ++ first.column ∷ [] = c.push.ensures ∙ ap (λ (d : Column). c.args.schema.now ++ d ∷ []) column in (
      rest.0,
      rest.1 ∙ ap (λ (l : Columns). l ++ first.others) pushed ∙ append_assoc c.args.schema.now (first.column ∷ []) first.others ∙ ap (λ (l : Columns). c.args.schema.now ++ l) (sym first.split),
    )
