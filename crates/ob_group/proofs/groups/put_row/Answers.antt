use Rattle.std.proofs.Common.{◌≡◌, ◌<◌, ◌≤◌, ◌+◌, ◌∙◌, ℕ, [], Option, length, take, get_or-set_same, slice_index_or, slice_set, refl, sym, ap, subst, arith}
use Rattle.ob_base.specs.declared.schema.Kind.{Kind}
use Rattle.ob_base.specs.Schemas.{kind_width}
use Rattle.ob_order.specs.Buckets.{AreBucketed}
use Rattle.ob_row.specs.declared.cell.Cell.{Cell}
use Rattle.ob_row.specs.Fields.{HoldsCell}
use Rattle.ob_row.specs.Spelling.{kind_at}
use Rattle.ob_vault.specs.Rows.{row_at}
use Rattle.ob_flat.proofs.Rows.{row_is}
use Rattle.ob_group.specs.Running.{starts, grown_all}
use Rattle.ob_group.specs.Grouping.{aggs_of, group_with}
use Rattle.ob_group.specs.Held.{HoldsKey, HoldsGroup, no_group}
use Rattle.ob_group.proofs.GroupBytes.{holds_key, holds_more}
use Rattle.ob_group.proofs.Keyed.{begins_with, bucketed_beside, bucketed_same, key_stays, none_beside}
use Rattle.ob_group.proofs.Putting.{groups_past, groups_old, groups_new, groups_full}
use Rattle.ob_group.proofs.groups.put_row.Goals as goal

pub returns-then-n-groups-clause-told : goal.returns-then-n-groups-clause-told
returns-then-n-groups-clause-told c = λ cells begins gs m few are.
    groups_past c.args.key (aggs_of c.args.items.now) cells _ m (length c.args.items.now) c.args.n gs c.args.groups.now are (omega arith)

pub place_of-i-requires-clause-field : goal.place_of-i-requires-clause-field
place_of-i-requires-clause-field c =
    let is = c.field_of-field.ensures.told c.requires.row.cells c.requires.row.is in
    (is.0, subst (λ (k : Kind). HoldsCell k is.0 c.field_of-field.result.now) (sym c.kind_at-kind.ensures) is.2)

pub place_of-i-requires-clause-keys : goal.place_of-i-requires-clause-keys
place_of-i-requires-clause-keys c = λ i below.
    let held = c.requires.held in
    let one = held.are.each (omega arith) i below in
    (one.key, subst (λ (k : Kind). HoldsKey k one.key (row_at c.args.groups.now i)) (sym c.kind_at-kind.ensures) (holds_key _ held.m (length c.args.items.now) _ _ one))

pub place_of-i-requires-clause-kept : goal.place_of-i-requires-clause-kept
place_of-i-requires-clause-kept c =
    subst (λ (w : ℕ). AreBucketed 0 w c.args.n c.args.groups.now c.args.buckets.now) (sym c.field_of-field.ensures.len) (c.requires.kept (omega arith))

pub add-requires-clause-held : goal.add-requires-clause-held
add-requires-clause-held c =
    let held = c.requires.held in
    let i = c.place_of-i.result in
    let below : i < c.args.n = omega arith in
    let inside : i < length c.args.groups.now = omega arith in
    let g = slice_index_or held.groups i no_group in
    let one = holds_more _ held.m (length c.args.items.now) g _ (held.are.each (omega arith) i below) 2147483648 (omega (arith, held.room)) in
    let there = subst (HoldsGroup (kind_at c.args.schema.now c.args.key) 2147483648 (length c.args.items.now) g) (sym (row_is c.args.groups.now i c.index-groups-i.result inside)) one in
    record { group = g; is = subst (λ (k : Kind). HoldsGroup k 2147483648 (length c.args.items.now) g (slice_index_or c.args.groups.now i c.index-groups-i.result)) (sym c.kind_at-kind.ensures) there }

pub start-requires-clause-key : goal.start-requires-clause-key
start-requires-clause-key c = c.field_of-field.ensures.len ∙ ap kind_width (sym c.kind_at-kind.ensures)

pub start-requires-clause-field : goal.start-requires-clause-field
start-requires-clause-field c =
    let is = c.field_of-field.ensures.told c.requires.row.cells c.requires.row.is in
    (is.0, subst (λ (k : Kind). HoldsCell k is.0 c.field_of-field.result.now) (sym c.kind_at-kind.ensures) is.2)

pub returns-then-i-n-clause-told : goal.returns-then-i-n-clause-told
returns-then-i-n-clause-told c = λ cells begins gs m few are.
    let kind = kind_at c.args.schema.now c.args.key in
    let n = length c.args.items.now in
    let i = c.place_of-i.result in
    let below : i < c.args.n = omega arith in
    let most : c.args.n ≤ length c.args.groups.now = omega arith in
    let inside : i < length c.args.groups.now = omega arith in
    let cell = c.field_of-field.ensures.told cells begins in
    let field = subst (λ (k : Kind). HoldsCell k cell.0 c.field_of-field.result.now) (sym c.kind_at-kind.ensures) cell.2 in
    let g = slice_index_or gs i no_group in
    let there = subst (HoldsGroup kind m n g) (sym (row_is c.args.groups.now i c.index-groups-i.result inside)) (are.each most i below) in
    let there' = subst (λ (k : Kind). HoldsGroup k m n g (slice_index_or c.args.groups.now i c.index-groups-i.result)) (sym c.kind_at-kind.ensures) there in
    let held = rw c.kind_at-kind.ensures at (c.add.ensures.told cells begins g m (omega (arith, few)) there') in
    groups_old c.args.key (aggs_of c.args.items.now) cells kind m n c.args.n gs c.args.groups.now are most cell.0 cell.1 i c.add.new.group below
    (λ j h. rw c.kind_at-kind.ensures at (c.place_of-i.ensures.off cell.0 field j h)) (rw c.kind_at-kind.ensures at (c.place_of-i.ensures.on cell.0 field below)) held

pub returns-then-n-groups-2-clause-told : goal.returns-then-n-groups-2-clause-told
returns-then-n-groups-2-clause-told c = λ cells begins gs m few are.
    let kind = kind_at c.args.schema.now c.args.key in
    let n = length c.args.items.now in
    let most : c.args.n ≤ length c.args.groups.now = omega arith in
    let cell = c.field_of-field.ensures.told cells begins in
    let field = subst (λ (k : Kind). HoldsCell k cell.0 c.field_of-field.result.now) (sym c.kind_at-kind.ensures) cell.2 in
    let here : c.place_of-i.result ≡ c.args.n = omega (arith, c.place_of-i.ensures.most) in
    let held = rw c.kind_at-kind.ensures at (c.start.ensures.told cells begins cell.0 field) in
    let aggs = aggs_of c.args.items.now in
    let held' = subst (λ (k : Option Cell). HoldsGroup kind 1 n (k, grown_all aggs cells (starts aggs)) c.start.new.group) (sym cell.1) held in
    groups_new c.args.key aggs cells kind m n c.args.n gs c.args.groups.now are most cell.0 cell.1
    (λ j h. rw c.kind_at-kind.ensures at (c.place_of-i.ensures.off cell.0 field j (omega (arith, h, here)))) c.start.new.group (omega arith) held'

pub returns-else-n-groups-2-clause-told : goal.returns-else-n-groups-2-clause-told
returns-else-n-groups-2-clause-told c = λ cells begins gs m few are.
    let kind = kind_at c.args.schema.now c.args.key in
    let n = length c.args.items.now in
    let most : c.args.n ≤ length c.args.groups.now = omega arith in
    let cell = c.field_of-field.ensures.told cells begins in
    let field = subst (λ (k : Kind). HoldsCell k cell.0 c.field_of-field.result.now) (sym c.kind_at-kind.ensures) cell.2 in
    let here : c.place_of-i.result ≡ c.args.n = omega (arith, c.place_of-i.ensures.most) in
    groups_full c.args.key (aggs_of c.args.items.now) cells kind m n c.args.n gs c.args.groups.now are most cell.0 cell.1
    (λ j h. rw c.kind_at-kind.ensures at (c.place_of-i.ensures.off cell.0 field j (omega (arith, h, here)))) (omega arith)

-- ---- the buckets of the groups
pub returns-then-n-groups-clause-kept : goal.returns-then-n-groups-clause-kept
returns-then-n-groups-clause-kept c = λ most. absurd (omega (arith, most))

pub returns-then-i-n-clause-kept : goal.returns-then-i-n-clause-kept
returns-then-i-n-clause-kept c = λ most.
    let held = c.requires.held in
    let kind = kind_at c.args.schema.now c.args.key in
    let n = length c.args.items.now in
    let i = c.place_of-i.result in
    let below : i < c.args.n = omega arith in
    let fits : c.args.n ≤ length c.args.groups.now = omega arith in
    let inside : i < length c.args.groups.now = omega arith in
    let g = slice_index_or held.groups i no_group in
    let one = held.are.each fits i below in
    let there = subst (HoldsGroup kind held.m n g) (sym (row_is c.args.groups.now i c.index-groups-i.result inside)) one in
    let there' = subst (λ (k : Kind). HoldsGroup k held.m n g (slice_index_or c.args.groups.now i c.index-groups-i.result)) (sym c.kind_at-kind.ensures) there in
    let grown = rw c.kind_at-kind.ensures at (c.add.ensures.told c.requires.row.cells c.requires.row.is g held.m (omega (arith, held.room)) there') in
    let stays = key_stays kind held.m (held.m + 1) n g (group_with (aggs_of c.args.items.now) c.requires.row.cells g) (row_at c.args.groups.now i) c.add.new.group one grown refl in
    bucketed_same (kind_width kind) c.args.n c.args.groups.now c.args.buckets.now (c.requires.kept fits) i c.add.new.group inside stays

pub add-requires-then-n-groups-2 : goal.add-requires-then-n-groups-2
add-requires-then-n-groups-2 c = let kept = c.requires.kept (omega arith) in omega (arith, kept.count, c.requires.most)

pub returns-then-n-groups-2-clause-kept : goal.returns-then-n-groups-2-clause-kept
returns-then-n-groups-2-clause-kept c = λ most.
    let kind = kind_at c.args.schema.now c.args.key in
    let n = c.args.n in
    let field = c.field_of-field.result.now in
    let old = c.args.groups.now in
    let rows = slice_set old n c.start.new.group in
    let kept = subst (λ (w : ℕ). AreBucketed 0 w n rows c.args.buckets.now) (sym c.field_of-field.ensures.len) (bucketed_beside (kind_width kind) n old c.args.buckets.now (c.requires.kept (omega arith)) c.start.new.group) in
    let none = none_beside field n old c.start.new.group (c.place_of-i.ensures.new (omega arith)) in
    let cell = c.field_of-field.ensures.told c.requires.row.cells c.requires.row.is in
    let held = subst (λ (k : Kind). HoldsCell k cell.0 field) (sym c.kind_at-kind.ensures) cell.2 in
    let first = c.start.ensures.told c.requires.row.cells c.requires.row.is cell.0 held in
    let begins = begins_with c.kind_at-kind.result 1 (length c.args.items.now) cell.0 _ field c.start.new.group first held in
    let has = ap (take (length field)) (get_or-set_same old n c.start.new.group [] (omega arith)) ∙ begins in
    subst (λ (w : ℕ). AreBucketed 0 w (n + 1) rows c.add-then-n-groups-2.new.self) c.field_of-field.ensures.len (c.add-then-n-groups-2.ensures.adds 0 n rows kept none has)

pub returns-else-n-groups-2-clause-kept : goal.returns-else-n-groups-2-clause-kept
returns-else-n-groups-2-clause-kept c = λ most. absurd (omega (arith, most))
