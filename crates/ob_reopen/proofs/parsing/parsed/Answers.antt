use Rattle.std.proofs.Common.{◌≡◌, List, ℕ, Some, get_or, sym, ap, subst}
use Rattle.std.specs.List.{All}
use Rattle.ob_reopen.specs.Spelling.{FitsColumn}
use Rattle.ob_reopen.proofs.Parts.{table_parts}
use Rattle.ob_reopen.proofs.parsing.parsed.Goals as goal

pub returns-in_err-name-clause-told : goal.returns-in_err-name-clause-told
returns-in_err-name-clause-told c = λ t fits is.
    let parts = table_parts t c.args.text.now _ _ _ _ _ _ _ _ _ _ _ _ fits is c.split_at.ensures.front c.split_at.ensures.back c.split_at-2.ensures.front c.split_at-2.ensures.back
    c.split_at-3.ensures.front c.split_at-3.ensures.back c.split_at-4.ensures.front c.split_at-4.ensures.back c.split_at-5.ensures.front c.split_at-5.ensures.back c.split_at-6.ensures.front c.split_at-6.ensures.back in
    absurd (cc (c.name_in.ensures t.table.heading.name fits.name parts.name_is, c.in_err-name.was))

pub returns-in_err-schema-clause-told : goal.returns-in_err-schema-clause-told
returns-in_err-schema-clause-told c = λ t fits is.
    let parts = table_parts t c.args.text.now _ _ _ _ _ _ _ _ _ _ _ _ fits is c.split_at.ensures.front c.split_at.ensures.back c.split_at-2.ensures.front c.split_at-2.ensures.back
    c.split_at-3.ensures.front c.split_at-3.ensures.back c.split_at-4.ensures.front c.split_at-4.ensures.back c.split_at-5.ensures.front c.split_at-5.ensures.back c.split_at-6.ensures.front c.split_at-6.ensures.back in
    let name : c.in_ok-name.name ≡ t.table.heading.name = cc (c.name_in.ensures t.table.heading.name fits.name parts.name_is, c.in_ok-name.was) in
    let columns = subst (λ (n : List ℕ). All (FitsColumn n) t.table.heading.schema) (sym name) fits.columns in
    let count = sym (ap (λ (l : List ℕ). get_or l 0 0) parts.count_is) in
    absurd (cc (c.columns_in.ensures.told t.table.heading.schema fits.few count columns parts.fields_is, c.in_err-schema.was))

pub returns-clause-told : goal.returns-clause-told
returns-clause-told c = λ t fits is.
    let parts = table_parts t c.args.text.now _ _ _ _ _ _ _ _ _ _ _ _ fits is c.split_at.ensures.front c.split_at.ensures.back c.split_at-2.ensures.front c.split_at-2.ensures.back
    c.split_at-3.ensures.front c.split_at-3.ensures.back c.split_at-4.ensures.front c.split_at-4.ensures.back c.split_at-5.ensures.front c.split_at-5.ensures.back c.split_at-6.ensures.front c.split_at-6.ensures.back in
    let name : c.in_ok-name.name ≡ t.table.heading.name = cc (c.name_in.ensures t.table.heading.name fits.name parts.name_is, c.in_ok-name.was) in
    let columns = subst (λ (n : List ℕ). All (FitsColumn n) t.table.heading.schema) (sym name) fits.columns in
    let count = sym (ap (λ (l : List ℕ). get_or l 0 0) parts.count_is) in
    let schema : c.in_ok-schema.schema ≡ t.table.heading.schema = cc (c.columns_in.ensures.told t.table.heading.schema fits.few count columns parts.fields_is, c.in_ok-schema.was) in
    let region : c.long_in.result ≡ t.table.region = c.long_in.ensures t.table.region fits.region parts.region_is in
    let capacity : c.int_in.result ≡ t.table.heading.capacity = c.int_in.ensures t.table.heading.capacity fits.capacity parts.capacity_is in
    let number : c.long_in-2.result ≡ t.number = c.long_in-2.ensures t.number fits.number parts.number_is in
    let salt : c.salt_in.result ≡ t.salt = c.salt_in.ensures.told t.salt fits.salt parts.salt_is in
    λ i. Some (record { table = record { heading = record { name = name i; schema = schema i; capacity = capacity i; shape = sym fits.flat i }; region = region i }; number = number i; salt = salt i })
