use Rattle.std.proofs.Common.{◌≡◌, ◌==◌, Some, get_or, sym, ◌∙◌}
use Rattle.ob_reopen.proofs.Parts.{column_parts, key_is}
use Rattle.ob_reopen.proofs.parsing.column_in.Goals as goal

pub returns-in_err-name-clause-told : goal.returns-in_err-name-clause-told
returns-in_err-name-clause-told c = λ column fits is.
    let parts = column_parts column c.args.field.now _ _ fits.name is c.split_at.ensures.front c.split_at.ensures.back in
    absurd (cc (c.name_in.ensures column.name fits.name parts.name_is, c.in_err-name.was))

pub returns-clause-told : goal.returns-clause-told
returns-clause-told c = λ column fits is.
    let rest = c.split_at.result.1.now in
    let parts = column_parts column c.args.field.now _ rest fits.name is c.split_at.ensures.front c.split_at.ensures.back in
    let table : c.copied.result ≡ column.table = c.copied.ensures ∙ sym fits.table_is in
    let name : c.in_ok-name.name ≡ column.name = cc (c.name_in.ensures column.name fits.name parts.name_is, c.in_ok-name.was) in
    let kind : c.kind_in.result ≡ column.kind = c.kind_in.ensures column.kind parts.rest_is.kind_is in
    let key : (get_or rest 2 0 == 1) ≡ column.key = key_is column.key (get_or rest 2 0) parts.rest_is.key_at in
    λ i. Some (record { table = table i; name = name i; kind = kind i; key = key i })
