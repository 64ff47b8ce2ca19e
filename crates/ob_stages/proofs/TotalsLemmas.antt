-- A SELECT of totals: what its pass did is what it means.
use Rattle.std.proofs.Common.{◌≡◌, ◌≤◌, ◌<◌, ℕ, Bool, true, false, if◌then◌else◌, List, [], ◌∷◌, ◌++◌, length, map, Option, Some, None, refl, sym, ◌∙◌, ap, subst, arith, append_assoc}
use Rattle.std.specs.Prelude.{IfSome, filter_map, not, ◌==◌, nat_lt}
use Rattle.std.specs.List.{All, list_any, flat_map}
use Rattle.std.proofs.lemmas.Bool.Decides.{nat_tests}
use Rattle.std.proofs.lemmas.List.{append-nil, length-map}
use Rattle.std.proofs.lemmas.List.Elements.{All-head, All-tail}
use Rattle.ob_base.specs.declared.refusal.Refusal.TheVariants.{TooManyGroups}
use Rattle.ob_base.specs.declared.schema.Heading.{Heading}
use Rattle.ob_base.specs.declared.shown.Shown.{Shown}
use Rattle.ob_base.specs.declared.skeleton.ColumnName.{ColumnName}
use Rattle.ob_base.specs.Events.{Event, Head, Row as RowEvent, Close, row_events, Leads}
use Rattle.ob_base.specs.Schemas.{Columns}
use Rattle.ob_row.specs.declared.aggregate.Agg.{Agg}
use Rattle.ob_row.specs.declared.aggregate.Agg.TheVariants as Aggs
use Rattle.ob_row.specs.declared.aggregate.Item.{Item}
use Rattle.ob_row.specs.Slots.{Slots}
use Rattle.ob_row.specs.Totals.{totals, grouped, group_heads}
use Rattle.ob_row.proofs.BagLemmas.{Same-refl}
use Rattle.ob_group.specs.declared.grouping.Grouped.{Grouped}
use Rattle.ob_group.specs.declared.grouping.Grouped.TheVariants.{Groups, TooMany}
use Rattle.ob_group.specs.Grouping.{aggs_of}
use Rattle.ob_group.specs.Passes.{AreAggs, AreItems}
use Rattle.ob_group.specs.Labels as G
use Rattle.ob_group.specs.Running.{AreWithin}
use Rattle.ob_sql.specs.declared.stmt.Listed.{Listed}
use Rattle.ob_sql.specs.declared.stmt.Listed.TheVariants.{Column as ListedColumn, CountAll, Count, Sum, Min, Max}
use Rattle.ob_sql.specs.declared.stmt.SelectTotals.{SelectTotals}
use Rattle.ob_sql.specs.declared.stmt.Stmt.TheVariants.{SelectTotals as TotalsStmt}
use Rattle.ob_mean.specs.declared.answer.Answer.{Answer}
use Rattle.ob_mean.specs.declared.answer.Answer.TheVariants as A
use Rattle.ob_names.specs.Kinds.{plain_columns}
use Rattle.ob_names.specs.Names.{place_of}
use Rattle.ob_mean.specs.Prints.{Prints, Begun, item_label}
use Rattle.ob_mean.specs.Refusals.{is_group, Limits, early_refusal}
use Rattle.ob_mean.specs.Step.{agg_of, item_of, answered, overgroups, total_rows, totals_columns}
use Rattle.ob_mean.proofs.EarlyLemmas.{allowed, neither}
use Rattle.ob_verdict.specs.Accepted.{IsPlace, agg_places}
use Rattle.ob_verdict.proofs.AcceptedProof.{totals_places_fit}
use Rattle.ob_verdict.specs.declared.outcome.Outcome.{Outcome}
use Rattle.ob_verdict.specs.declared.outcome.Outcome.TheVariants.{Rows, Refused}
use Rattle.ob_verdict.specs.Outcomes.{outcome_of, IsAnswer, Partly}
use Rattle.ob_stages.specs.Totalling.{TotalsFit, agg_at, labels_at, totalled, totalled_answer}
use Rattle.ob_verdict.proofs.RowEvents.{are_rows}

-- ---- the items
module _ (cs : Columns) where
  -- without a plain column each item is an aggregate
  pub plain_aggs : (items : List Listed) → list_any (λ name. not (is_group cs None name)) (flat_map plain_columns items) ≡ false → map (agg_at cs) items ≡ filter_map (agg_of cs) items
  plain_aggs [] h = refl
  plain_aggs (ListedColumn c ∷ items) h = absurd (cc h)
  plain_aggs (CountAll ∷ items) h = ap (λ (l : List Agg). Aggs.CountAll ∷ l) (plain_aggs items h)
  plain_aggs (Count c ∷ items) h = ap (λ (l : List Agg). Aggs.Count (place_of c cs) ∷ l) (plain_aggs items h)
  plain_aggs (Sum c ∷ items) h = ap (λ (l : List Agg). Aggs.Sum (place_of c cs) ∷ l) (plain_aggs items h)
  plain_aggs (Min c ∷ items) h = ap (λ (l : List Agg). Aggs.Min (place_of c cs) ∷ l) (plain_aggs items h)
  plain_aggs (Max c ∷ items) h = ap (λ (l : List Agg). Aggs.Max (place_of c cs) ∷ l) (plain_aggs items h)

  pub plain_labels : (items : List Listed) → list_any (λ name. not (is_group cs None name)) (flat_map plain_columns items) ≡ false
      → map (G.agg_label cs) (map (agg_at cs) items) ≡ map (item_label cs) items
  plain_labels [] h = refl
  plain_labels (ListedColumn c ∷ items) h = absurd (cc h)
  plain_labels (CountAll ∷ items) h = ap (λ (l : List (List ℕ)). item_label cs CountAll ∷ l) (plain_labels items h)
  plain_labels (Count c ∷ items) h = ap (λ (l : List (List ℕ)). item_label cs (Count c) ∷ l) (plain_labels items h)
  plain_labels (Sum c ∷ items) h = ap (λ (l : List (List ℕ)). item_label cs (Sum c) ∷ l) (plain_labels items h)
  plain_labels (Min c ∷ items) h = ap (λ (l : List (List ℕ)). item_label cs (Min c) ∷ l) (plain_labels items h)
  plain_labels (Max c ∷ items) h = ap (λ (l : List (List ℕ)). item_label cs (Max c) ∷ l) (plain_labels items h)

  -- beside GROUP BY each plain column is its column
  is_same : (a b : ℕ) → not (a == b) ≡ false → a ≡ b
  is_same a b h = grind (arith, nat_tests)

  pub group_labels : (key : ColumnName) (items : List Listed) → list_any (λ name. not (is_group cs (Some key) name)) (flat_map plain_columns items) ≡ false
      → map (G.item_label cs (place_of key cs)) (map (item_of cs) items) ≡ map (item_label cs) items
  group_labels key [] h = refl
  group_labels key (ListedColumn c ∷ items) h =
      let both = neither (not (place_of c cs == place_of key cs)) (list_any (λ name. not (is_group cs (Some key) name)) (flat_map plain_columns items)) h in
      let same = is_same (place_of c cs) (place_of key cs) both.0 in
      let rest = group_labels key items both.1 in
      λ i. G.label_at cs (sym same i) ∷ rest i
  group_labels key (CountAll ∷ items) h = ap (λ (l : List (List ℕ)). item_label cs CountAll ∷ l) (group_labels key items h)
  group_labels key (Count c ∷ items) h = ap (λ (l : List (List ℕ)). item_label cs (Count c) ∷ l) (group_labels key items h)
  group_labels key (Sum c ∷ items) h = ap (λ (l : List (List ℕ)). item_label cs (Sum c) ∷ l) (group_labels key items h)
  group_labels key (Min c ∷ items) h = ap (λ (l : List (List ℕ)). item_label cs (Min c) ∷ l) (group_labels key items h)
  group_labels key (Max c ∷ items) h = ap (λ (l : List (List ℕ)). item_label cs (Max c) ∷ l) (group_labels key items h)

  -- the columns are there
  pub items_within : (n : ℕ) (items : List Listed) → AreWithin n (filter_map (agg_of cs) items) → AreWithin n (aggs_of (map (item_of cs) items))
  items_within n [] h = tt
  items_within n (ListedColumn c ∷ items) h = (tt, items_within n items h)
  items_within n (CountAll ∷ items) h = (h.0, items_within n items h.1)
  items_within n (Count c ∷ items) h = (h.0, items_within n items h.1)
  items_within n (Sum c ∷ items) h = (h.0, items_within n items h.1)
  items_within n (Min c ∷ items) h = (h.0, items_within n items h.1)
  items_within n (Max c ∷ items) h = (h.0, items_within n items h.1)

  abbrev Places : Agg → Type 0
  Places agg = All (IsPlace cs) (agg_places agg)

  are_within : (aggs : List Agg) → All Places aggs → AreWithin (length cs) aggs
  are_within [] h = tt
  are_within (Aggs.CountAll ∷ aggs) h = (tt, are_within aggs (All-tail Places Aggs.CountAll aggs h))
  are_within (Aggs.Count i ∷ aggs) h = (tt, are_within aggs (All-tail Places (Aggs.Count i) aggs h))
  are_within (Aggs.Sum i ∷ aggs) h = (All-head (IsPlace cs) i [] (All-head Places (Aggs.Sum i) aggs h), are_within aggs (All-tail Places (Aggs.Sum i) aggs h))
  are_within (Aggs.Min i ∷ aggs) h = (All-head (IsPlace cs) i [] (All-head Places (Aggs.Min i) aggs h), are_within aggs (All-tail Places (Aggs.Min i) aggs h))
  are_within (Aggs.Max i ∷ aggs) h = (All-head (IsPlace cs) i [] (All-head Places (Aggs.Max i) aggs h), are_within aggs (All-tail Places (Aggs.Max i) aggs h))

-- a SELECT that is not refused before any access
pub totals_fit : (late : Bool) (limits : Limits) (hs : List Heading) (s : SelectTotals) → early_refusal late limits hs (TotalsStmt s) ≡ None → TotalsFit (totals_columns s hs) s
totals_fit late limits hs s accepted =
    let fit = totals_places_fit late limits hs s accepted in
    let free = allowed late limits hs (TotalsStmt s) accepted in
    record { few = fit.few; within = are_within (totals_columns s hs) (filter_map (agg_of (totals_columns s hs)) s.items) fit.aggregates; key = fit.key; own = (neither _ _ free.columns).1 }

-- ---- the answer
module _ (places : ℕ) (cs : Columns) (s : SelectTotals) (slots : Slots) where
  pub answer_plain : s.group ≡ None → totalled_answer places cs s slots ≡ A.Rows (totals (filter_map (agg_of cs) s.items) (totalled cs s slots) ∷ [])
  answer_plain none =
      ap (λ (g : Option ColumnName). answered (if overgroups places g cs (totalled cs s slots) then Some TooManyGroups else None) (A.Rows (total_rows g cs s.items (totalled cs s slots)))) none

  abbrev pub heads : ColumnName → ℕ
  heads key = length (group_heads (place_of key cs) (totalled cs s slots))

  abbrev pub group_rows : ColumnName → List (List Shown)
  group_rows key = grouped (place_of key cs) (map (item_of cs) s.items) (totalled cs s slots)

  pub answer_grouped : (key : ColumnName) → s.group ≡ Some key → totalled_answer places cs s slots ≡ answered (if nat_lt places (heads key) then Some TooManyGroups else None) (A.Rows (group_rows key))
  answer_grouped key some =
      ap (λ (g : Option ColumnName). answered (if overgroups places g cs (totalled cs s slots) then Some TooManyGroups else None) (A.Rows (total_rows g cs s.items (totalled cs s slots)))) some

-- ---- an answer of one row
module _ (cs : Columns) (s : SelectTotals) (aggs : List Agg) (fit : TotalsFit cs s) (ungrouped : s.group ≡ None) (aggs_are : aggs ≡ map (agg_at cs) s.items) where
  plain : list_any (λ name. not (is_group cs None name)) (flat_map plain_columns s.items) ≡ false
  plain = subst (λ (group : Option ColumnName). list_any (λ name. not (is_group cs group name)) (flat_map plain_columns s.items) ≡ false) ungrouped fit.own

  aggs_is : aggs ≡ filter_map (agg_of cs) s.items
  aggs_is = aggs_are ∙ plain_aggs cs s.items plain

  pub aggs_fit : AreAggs cs aggs
  aggs_fit =
      let size : length aggs ≡ length s.items = ap length aggs_are ∙ length-map s.items (agg_at cs) in
      let few = fit.few in
      record { few = omega (arith, size, few); within = subst (AreWithin (length cs)) (sym aggs_is) fit.within }

  pub aggs_labels : map (G.agg_label cs) aggs ≡ labels_at cs s
  aggs_labels = ap (map (G.agg_label cs)) aggs_are ∙ plain_labels cs s.items plain

  pub one_row : (places : ℕ) (slots : Slots) → totalled_answer places cs s slots ≡ A.Rows (totals aggs (totalled cs s slots) ∷ [])
  one_row places slots = answer_plain places cs s slots ungrouped ∙ ap (λ (l : List Agg). A.Rows (totals l (totalled cs s slots) ∷ [])) (sym aggs_is)

-- ---- a row for each group
module _ (cs : Columns) (s : SelectTotals) (key : ColumnName) (items : List Item) (place : ℕ) (fit : TotalsFit cs s) (by_key : s.group ≡ Some key)
    (items_are : items ≡ map (item_of cs) s.items) (place_is : place ≡ place_of key cs) where
  own : list_any (λ name. not (is_group cs (Some key) name)) (flat_map plain_columns s.items) ≡ false
  own = subst (λ (group : Option ColumnName). list_any (λ name. not (is_group cs group name)) (flat_map plain_columns s.items) ≡ false) by_key fit.own

  pub items_fit : AreItems cs place items
  items_fit =
      let size : length items ≡ length s.items = ap length items_are ∙ length-map s.items (item_of cs) in
      let few = fit.few in
      let within = subst (λ (group : Option ColumnName). IfSome group (λ k. place_of k cs < length cs)) by_key fit.key in
      record {
        key = omega (arith, place_is, within);
        few = omega (arith, size, few);
        within = subst (λ (xs : List Item). AreWithin (length cs) (aggs_of xs)) (sym items_are) (items_within cs (length cs) s.items fit.within);
      }

  pub items_labels : map (G.item_label cs place) items ≡ labels_at cs s
  items_labels = (λ i. map (G.item_label cs (place_is i)) (items_are i)) ∙ group_labels cs key s.items own

  pub by_count : (places : ℕ) (slots : Slots) → let found = totalled cs s slots in
      totalled_answer places cs s slots ≡ answered (if nat_lt places (length (group_heads place found)) then Some TooManyGroups else None) (A.Rows (grouped place items found))
  by_count places slots =
      answer_grouped places cs s slots key by_key
      ∙ (λ i.
      let found = totalled cs s slots in
      answered (if nat_lt places (length (group_heads (sym place_is i) found)) then Some TooManyGroups else None) (A.Rows (grouped (sym place_is i) (sym items_are i) found)))

abbrev pub outcome_as : Grouped → Outcome
outcome_as (Groups n) = Rows n
outcome_as TooMany = Refused TooManyGroups

module _ (s : SelectTotals) (n : ℕ) (rows : List (List Shown)) (count : length rows ≡ n) where
  abbrev by_many : Bool → Answer
  by_many b = answered (if b then Some TooManyGroups else None) (A.Rows rows)

  pub grouped_as : (b : Bool) (answer : Grouped) → answer ≡ (if b then TooMany else Groups n) → outcome_as answer ≡ outcome_of (TotalsStmt s) (by_many b)
  grouped_as true answer is = ap outcome_as is
  grouped_as false answer is = ap outcome_as is ∙ ap Rows (sym count)

  -- so many groups are not too many
  pub not_many : (b : Bool) (k : ℕ) → Groups k ≡ (if b then TooMany else Groups n) → (by_many b ≡ A.Rows rows) × (k ≡ n)
  not_many true k is = absurd (cc is)
  not_many false k is = (refl, cc is)

  pub are_many : (b : Bool) → TooMany ≡ (if b then TooMany else Groups n) → by_many b ≡ A.Refused TooManyGroups
  are_many true is = refl
  are_many false is = absurd (cc is)

-- ---- what is emitted
pub leads_join : {E : Type 0} (grew to : E → E → List Event → Type 0) (a b c : E) (x y : List Event) → Leads grew grew a b x → Leads grew to b c y → Leads grew to a c (x ++ y)
leads_join grew to a b c x y first second = λ s events is. subst (to s c) (append_assoc events x y) (second s (events ++ x) (first s events is))

pub leads_none : {E : Type 0} (grew : E → E → List Event → Type 0) (a : E) → Leads grew grew a a []
leads_none grew a = λ s events is. subst (grew s a) (sym (append-nil events)) is

-- the events of rows
abbrev pub all_events : List (List ℕ) → List (List Shown) → List Event
all_events labels rows = Head labels ∷ (row_events rows ++ Close (length rows) ∷ [])

pub prints_rows : (labels : List (List ℕ)) (rows : List (List Shown)) → Prints labels (A.Rows rows) (all_events labels rows)
prints_rows labels rows = record { printed = rows; same = Same-refl rows; is = refl }

-- nothing is a first part of every answer
pub partly_none : (labels : List (List ℕ)) (answer : Answer) → Partly labels answer []
partly_none labels (A.Rows rows) = record { whole = all_events labels rows; prints = prints_rows labels rows; begun = (all_events labels rows, refl) }
partly_none labels other = record { whole = []; prints = refl; begun = ([], refl) }

-- a first part of its events
pub partly_rows : (labels : List (List ℕ)) (answer : Answer) (rows : List (List Shown)) (events : List Event) → answer ≡ A.Rows rows → Begun events (all_events labels rows) → Partly labels answer events
partly_rows labels answer rows events is begun =
    subst (λ (a : Answer). Partly labels a events) (sym is) (record { whole = all_events labels rows; prints = prints_rows labels rows; begun = begun })

-- those before the number are a first part of it too
pub begun_rows : (labels : List (List ℕ)) (rows : List (List Shown)) (events : List Event) → Begun events (Head labels ∷ row_events rows) → Begun events (all_events labels rows)
begun_rows labels rows events begun =
    (begun.0 ++ Close (length rows) ∷ [], sym (append_assoc events begun.0 (Close (length rows) ∷ [])) ∙ ap (λ (l : List Event). l ++ Close (length rows) ∷ []) begun.1)

pub is_answer : (labels : List (List ℕ)) (rows : List (List Shown)) (k : ℕ) → k ≡ length rows → k ≤ 65536 → IsAnswer labels k (all_events labels rows)
is_answer labels rows k count few = record {
  rows = row_events rows;
  are_rows = are_rows rows;
  count = length-map rows RowEvent ∙ sym count;
  few = omega (arith, few);
  is = ap (λ (n : ℕ). Head labels ∷ (row_events rows ++ Close n ∷ [])) (sym count);
}
