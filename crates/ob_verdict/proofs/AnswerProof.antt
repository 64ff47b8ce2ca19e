-- What a SELECT of rows prints from its result is its answer.
use Rattle.std.proofs.Common.{◌≡◌, ℕ, ◌<◌, Bool, true, false, List, [], ◌∷◌, map, length, refl, sym, ◌∙◌, ap, subst, cond, inl, inr, ◌⊎◌, ◌*◌, ◌≤◌, arith}
use Rattle.std.proofs.lemmas.Bool.Decides.{Decides-eqb}
use Rattle.std.specs.Prelude.{Option, Some, None, filter, not, bytes_eq, ◌==◌, is_some, nat_le, if◌then◌else◌}
use Rattle.std.specs.Option.{option_map_or, option_map, option_or}
use Rattle.ob_base.specs.declared.config.Public.{Public}
use Rattle.ob_base.specs.declared.config.Plan.{Plan}
use Rattle.ob_base.specs.declared.config.Plan.TheVariants.{Small, Large, Continuous, Hash}
use Rattle.ob_base.specs.declared.config.Planner.{Planner}
use Rattle.ob_base.specs.declared.config.Planner.TheVariants.{Auto, Cheapest, Forced}
use Rattle.ob_base.specs.declared.refusal.Refusal.{Refusal}
use Rattle.ob_base.specs.declared.refusal.Refusal.TheVariants.{Overflow, NotConsecutive}
use Rattle.ob_base.specs.declared.schema.Heading.{Heading}
use Rattle.ob_base.specs.declared.skeleton.Source.{Source}
use Rattle.ob_base.specs.declared.skeleton.Source.TheVariants.{Table as OneTable, Join}
use Rattle.ob_base.specs.Limits.{buffered, buffered_blocks}
use Rattle.ob_base.specs.Plans.{IsPadded, MayPad, choose, choose_padded, large_length, padded_rows, small_length}
use Rattle.ob_base.proofs.PlanLemmas.{continuous_by, hash_by}
use Rattle.ob_base.specs.Schemas.{key_place}
use Rattle.ob_base.specs.Stored.{Stored, headings, stored_at, heading_at}
use Rattle.ob_row.specs.Bags.{Same}
use Rattle.ob_row.specs.Rows.{Row, AreDistinct, pairs, keys_repeat}
use Rattle.ob_row.specs.Truth.{is_true}
use Rattle.ob_row.proofs.BagLemmas.{Same-refl, Same-trans, Same-map, Same-filter}
use Rattle.ob_row.specs.Slots.{Slots, rows, selected, is_consecutive}
use Rattle.ob_row.specs.Results.{result_slots, unplaced}
use Rattle.ob_verdict.proofs.ResultLemmas.{rows-small_slots, rows-large_slots}
use Rattle.ob_verdict.proofs.HashLemmas.{rows-hash_slots}
use Rattle.ob_verdict.proofs.TurnLemmas.{rows-continuous_slots}
use Rattle.ob_verdict.proofs.JoinLemmas.{rows-joined}
use Rattle.ob_sql.specs.declared.stmt.SelectRows.{SelectRows}
use Rattle.ob_sql.specs.declared.stmt.Stmt.TheVariants.{SelectRows as RowsStmt}
use Rattle.ob_names.specs.Names.{columns_at}
use Rattle.ob_mean.specs.Refusals.{early_refusal, is_key, joins_off_key_at, limits_of, Limits}
use Rattle.ob_mean.proofs.EarlyLemmas.{allowed}
use Rattle.ob_mean.proofs.VerdictLemmas.{headings-database}
use Rattle.ob_mean.specs.Step.{rows_at, source_rows, join_places, select_columns, select_condition, printed_places}
use Rattle.ob_row.specs.Totals.{printed}
use Rattle.ob_mean.specs.Verdict.{Accessed, Held, Tables, rows_refusal, selected_places, database, slots_at, source_slots, plan_for, bucket_size, first_unplaced, fallback, forced_refusal, unpadded_refusal, refusal_by, last_refusal, is_late}
use Rattle.ob_verdict.specs.Laws.{last_plan, result_plan}
use Rattle.ob_verdict.specs.Laws.{result_of, printed_rows, AreInPlace, PrintsAnswer}

-- the plan finds a place for each of these
abbrev PlanFits : Plan → ℕ → List ℕ → Type 0
PlanFits Small n places = Unit {0}
PlanFits Large n places = Unit {0}
PlanFits Continuous n places = is_consecutive places ≡ true
PlanFits Hash n places = unplaced (length places) n places ≡ None

-- the rows of a result are the selected rows, where the plan finds a place for each
result-same : (plan : Plan) (n : ℕ) (p : Row → Bool) (slots : Slots) → 0 < length (selected p slots) → PlanFits plan n (selected p slots) →
    Same (filter p (rows slots)) (rows (result_slots plan (length (selected p slots)) n p slots))
result-same Small n p slots h r = subst (λ w. Same (filter p (rows slots)) w) (sym (rows-small_slots p slots)) (Same-refl _)
result-same Large n p slots h r = subst (λ w. Same (filter p (rows slots)) w) (sym (rows-large_slots p slots)) (Same-refl _)
result-same Continuous n p slots h r = rows-continuous_slots (length (selected p slots)) p slots h (omega arith) r
result-same Hash n p slots h r = rows-hash_slots (length (selected p slots)) n p slots h r

consecutive : (b : Bool) → cond b None (Some NotConsecutive) ≡ None → b ≡ true
consecutive true h = refl
consecutive false h = cc

no_overflow : (o : Option ℕ) → option_map Overflow o ≡ None → o ≡ None
no_overflow None h = refl
no_overflow (Some i) h = cc

-- Continuous is planned for places that are consecutive, or forced, and then refuses others
consecutive_if : (p : Public) (pack rows n k : ℕ) (places : List ℕ) (planner : Planner) → choose planner pack rows n k (is_consecutive places) ≡ Continuous →
    forced_refusal p planner places ≡ None → is_consecutive places ≡ true
consecutive_if p pack rows n k places planner e r = elim (continuous_by planner pack rows n k (is_consecutive places) e) [
  | inl forced ↦ consecutive (is_consecutive places) (sym (ap (λ (x : Planner). forced_refusal p x places) forced) ∙ r)
  | inr side ↦ side
]

-- Hash that is forced refuses where it leaves a place out
placed_if : (p : Public) (pack rows n k : ℕ) (places : List ℕ) (planner : Planner) → choose planner pack rows n k (is_consecutive places) ≡ Hash →
    forced_refusal p planner places ≡ None → (planner ≡ Auto) ⊎ (first_unplaced p places ≡ None)
placed_if p pack rows n k places planner e r = elim (hash_by planner pack rows n k (is_consecutive places) e) [
  | inl forced ↦ inr (no_overflow (first_unplaced p places) (sym (ap (λ (x : Planner). forced_refusal p x places) forced) ∙ r))
  | inr auto ↦ inl auto
]

-- after Hash, Small where it left a place out
hash_fits : (n : ℕ) (places : List ℕ) (planner : Planner) (left : Option ℕ) → (planner ≡ Auto) ⊎ (left ≡ None) → (left ≡ None → PlanFits Hash n places) →
    PlanFits (cond (is_some (fallback planner left)) Small Hash) n places
hash_fits n places Auto None h fits = fits refl
hash_fits n places Auto (Some i) h fits = tt
hash_fits n places Cheapest left (inl e) fits = absurd (cc e)
hash_fits n places Cheapest left (inr e) fits = fits e
hash_fits n places (Forced plan) left (inl e) fits = absurd (cc e)
hash_fits n places (Forced plan) left (inr e) fits = fits e

last_fits : (p : Public) (n : ℕ) (places : List ℕ) (plan : Plan) → plan_for p n places ≡ plan → forced_refusal p p.planner places ≡ None → PlanFits (last_plan p plan places) (bucket_size p) places
last_fits p n places Small e r = tt
last_fits p n places Large e r = tt
last_fits p n places Continuous e r = consecutive_if p p.pack p.buffer n (length places) places p.planner e r
last_fits p n places Hash e r =
    hash_fits (bucket_size p) places p.planner (first_unplaced p places) (placed_if p p.pack p.buffer n (length places) places p.planner e r) (λ f. f)

rows-slots_at : (name : List ℕ) (ts : Tables) → rows_at name (database ts) ≡ rows (slots_at name ts)
rows-slots_at name [] = refl
rows-slots_at name (t ∷ ts) =
    elim (bytes_eq t.heading.name name) as (λ b. option_map_or (λ (x : Stored (List Row)). x.held) (cond b (Some (record { heading = t.heading; held = rows t.held.slots })) (stored_at name (database ts))) [] ≡ rows (option_map_or (λ (x : Stored Held). x.held.slots) (cond b (Some t) (stored_at name ts)) []))
    [ true ↦ refl | false ↦ rows-slots_at name ts ]

keys-distinct : (stash : ℕ) (name : List ℕ) (ts : Tables) → AreInPlace stash ts → keys_repeat (key_place (columns_at name (headings ts))) (rows (slots_at name ts)) ≡ false
keys-distinct stash name [] h = refl
keys-distinct stash name (t ∷ ts) h =
    elim (bytes_eq t.heading.name name) as (λ b. keys_repeat (key_place (option_map_or (λ (g : Heading). g.schema) (cond b (Some t.heading) (heading_at name (headings ts))) [])) (rows (option_map_or (λ (x : Stored Held). x.held.slots) (cond b (Some t) (stored_at name ts)) [])) ≡ false)
    [ true ↦ h.0.keys | false ↦ keys-distinct stash name ts h.1 ]

key_is : (o : Option ℕ) (i : ℕ) → option_map_or (λ j. i == j) o false ≡ true → o ≡ Some i
key_is None i h = cc
key_is (Some j) i h = ap Some (sym ((Decides-eqb i j).0 h))

distinct_at : (stash : ℕ) (name : List ℕ) (ts : Tables) (i : ℕ) → AreInPlace stash ts → is_key (columns_at name (headings ts)) i ≡ true → AreDistinct i (rows (slots_at name ts))
distinct_at stash name ts i h k =
    subst (λ o. keys_repeat o (rows (slots_at name ts)) ≡ false) (key_is (key_place (columns_at name (headings ts))) i k) (keys-distinct stash name ts h)

on_key : (b : Bool) (limits : Limits) (hs : List Heading) (q : SelectRows) → early_refusal b limits hs (RowsStmt q) ≡ None → joins_off_key_at hs q.source ≡ false
on_key b limits hs q h = (allowed b limits hs (RowsStmt q) h).joins

not_false : (b : Bool) → not b ≡ false → b ≡ true
not_false true h = refl
not_false false h = cc

source-same : (p : Public) (ts : Tables) (source : Source) → 1 ≤ p.pack → 1 ≤ buffered_blocks p.pack p.buffer → AreInPlace p.stash ts → joins_off_key_at (headings ts) source ≡ false →
    Same (source_rows source (database ts)) (rows (source_slots p source ts))
source-same p ts (OneTable name) one h k j = subst (λ w. Same (rows_at name (database ts)) w) (rows-slots_at name ts) (Same-refl _)
source-same p ts (Join a b on equals) one h k j =
    let places = join_places (Join a b on equals) (headings ts) in
    let distinct : AreDistinct places.0 (rows (slots_at a ts)) = distinct_at p.stash a ts places.0 k (not_false _ j) in
    let e = headings-database ts in
    subst (λ w. Same w (rows (source_slots p (Join a b on equals) ts)))
    (λ t. pairs (join_places (Join a b on equals) (sym e t)).0 (join_places (Join a b on equals) (sym e t)).1 (sym (rows-slots_at a ts) t) (sym (rows-slots_at b ts) t))
    (rows-joined places.0 places.1 p.pack p.buffer (slots_at a ts) (slots_at b ts) distinct one h)

pub both_none : (a b : Option Refusal) → option_or a b ≡ None → (a ≡ None) × (b ≡ None)
both_none None b h = (refl, h)
both_none (Some x) b h = absurd (cc)

not_empty : (p : Public) (places : List ℕ) → 0 < length places → unpadded_refusal p places ≡ None → forced_refusal p p.planner places ≡ None
not_empty p [] h r = absurd (omega arith)
not_empty p (i ∷ is) h r = r

-- a padded result is one of Small or Large
padded_fits : (planner : Planner) (pack rows slots q n : ℕ) (places : List ℕ) → MayPad planner → PlanFits (choose_padded planner pack rows slots q) n places
padded_fits (Forced Small) pack rows slots q n places h = tt
padded_fits (Forced Large) pack rows slots q n places h = tt
padded_fits (Forced Continuous) pack rows slots q n places h = absurd h
padded_fits (Forced Hash) pack rows slots q n places h = absurd h
padded_fits Auto pack rows slots q n places h =
    elim (nat_le q (4 * buffered pack rows)) as (λ b. PlanFits (cond b Small Large) n places) [ true ↦ tt | false ↦ tt ]
padded_fits Cheapest pack rows slots q n places h =
    elim (nat_le (small_length pack rows slots q) (large_length pack slots)) as (λ b. PlanFits (cond b Small Large) n places) [ true ↦ tt | false ↦ tt ]

result_fits : (pad : Option ℕ) (p : Public) (n : ℕ) (places : List ℕ) → IsPadded pad p.planner → 0 < length places → refusal_by pad p places ≡ None →
    PlanFits (result_plan pad p n places) (bucket_size p) places
result_fits None p n places h some r = last_fits p n places (plan_for p n places) refl (not_empty p places some r)
result_fits (Some pad) p n places h some r = padded_fits p.planner p.pack p.buffer n (padded_rows pad n) (bucket_size p) places h.2

pub prints_answer : PrintsAnswer
prints_answer p m ts q one s padded k unkeyed r h =
    let both = both_none _ (last_refusal p ts (RowsStmt q)) r in
    let planned : rows_refusal p (selected_places p q ts) ≡ None =
    sym (ap (λ (o : Option Accessed). if is_some o then None else rows_refusal p (selected_places p q ts)) unkeyed) ∙ both.1 in
    let early = (both_none (early_refusal (is_late m) (limits_of p) (headings (database ts)) (RowsStmt q)) _ both.0).0 in
    let key = on_key (is_late m) (limits_of p) (headings ts) q (subst (λ hs. early_refusal (is_late m) (limits_of p) hs (RowsStmt q) ≡ None) (headings-database ts) early) in
    let slots = source_slots p q.source ts in
    let test = is_true (select_condition q (headings ts)) in
    let places = selected test slots in
    let same : Same (filter test (source_rows q.source (database ts))) (rows (result_of p ts q)) =
    Same-trans _ _ _ (Same-filter test _ _ (source-same p ts q.source one s k key))
    (result-same (result_plan p.pad p (length slots) places) (bucket_size p) test slots h (result_fits p.pad p (length slots) places padded h planned)) in
    subst (λ hs. Same (map (printed (printed_places q (select_columns q hs))) (filter (is_true (select_condition q hs)) (source_rows q.source (database ts)))) (printed_rows p ts q)) (sym (headings-database ts))
    (Same-map (printed (printed_places q (select_columns q (headings ts)))) _ _ same)
