use Rattle.std.proofs.Common.{[], ◌∷◌, ◌∙◌, ap, false}
use Rattle.std.specs.Prelude.{◌||◌}
use Rattle.std.specs.Option.{option_map_or}
use Rattle.ob_base.specs.declared.refusal.Refusal.TheVariants.{NoTable, NameTaken, NoColumn, WrongType, ValueRange, Limit, KeyRule, JoinKey, NeedsKey}
use Rattle.ob_base.specs.Stored.{headings_of}
use Rattle.ob_mean.specs.Refusals.{first_holding, select_lacks_column, limits_of, needs_key}
use Rattle.ob_mean.specs.Parts.{parts_of}
use Rattle.ob_mean.specs.Scopes.{scope_in, missing_in, takes_in, lacks_in, mistypes_by, mistypes_in, overflows_by, overflows_in, exceeds_in, breaks_key_in, off_key_in}
use Rattle.ob_mean.proofs.RefusalLemmas.{both_are, lacks_is, others_are}
use Rattle.ob_mean.proofs.early.early_refusal.Goals as goal

pub returns : goal.returns
returns c =
    let stmt = c.args.stmt.now in
    let given = limits_of c.args.public.now in
    let all = headings_of c.args.public.now.tables in
    let source = (parts_of stmt).source in
    let others = others_are stmt given all in
    let hs = ap headings_of c.as_slice-tables.ensures in
    let parts = c.parts_of-parts.ensures in
    let scope = c.scope_of-scope.ensures ∙ (λ t. scope_in (hs t) (parts t).source) in
    let missing = c.lacks_table.ensures ∙ (λ t. missing_in (hs t) (parts t).source) ∙ others.0 in
    let taken = c.takes_name.ensures ∙ (λ t. takes_in (hs t) (parts t)) ∙ others.1 in
    let lacking = c.lacks_column.ensures ∙ (λ t. lacks_in (scope t) (parts t)) ∙ lacks_is stmt all ∙ (λ t. others.2 t || select_lacks_column all stmt) in
    let wrong = c.mistypes_any.ensures ∙ (λ t. mistypes_in (scope t) (parts t)) ∙ (λ t. mistypes_by (both_are source all t) (scope_in all source).left (parts_of stmt)) ∙ others.3 in
    let range = c.overflows_any.ensures ∙ (λ t. overflows_in (scope t) (parts t)) ∙ (λ t. overflows_by (both_are source all t) (scope_in all source).left (parts_of stmt)) ∙ others.4 in
    let past = c.meets_limit.ensures ∙ (λ t. exceeds_in given all (parts t) || c.args.late) ∙ (λ t. others.5 t || c.args.late) in
    let rule = c.breaks_key_rule.ensures ∙ (λ t. breaks_key_in (scope t) (parts t)) ∙ others.6 in
    let key = c.joins_off_key.ensures ∙ (λ t. option_map_or (off_key_in (scope t)) (parts t).source false) ∙ others.7 in
    let keyed = c.needs_key.ensures ∙ (λ t. needs_key (hs t) stmt) in
    c.first_of.ensures
    ∙ (λ t. first_holding ((missing t, NoTable) ∷ (taken t, NameTaken) ∷ (lacking t, NoColumn) ∷ (wrong t, WrongType) ∷ (range t, ValueRange) ∷ (past t, Limit) ∷ (rule t, KeyRule) ∷ (key t, JoinKey) ∷ (keyed t, NeedsKey) ∷ []))
