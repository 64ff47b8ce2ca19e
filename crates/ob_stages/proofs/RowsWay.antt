-- What is known of a SELECT of rows in flight on its way.
use Rattle.std.proofs.Common.{◌≡◌, ◌⊎◌, inl, inr, ◌<◌, ◌≤◌, ◌+◌, ◌-◌, ◌++◌, ℕ, zero, suc, Bool, true, false, not, List, [], refl, sym, ◌∙◌, ap, subst, arith, append_assoc}
use Rattle.std.specs.Prelude.{Option, Some, None, length, nat_le, nat_lt}
use Rattle.std.proofs.lemmas.Bool.Decides.{nat_tests}
use Rattle.std.proofs.lemmas.List.{map-append}
use Rattle.ob_base.specs.declared.config.Plan.{Plan}
use Rattle.ob_base.specs.declared.config.Plan.TheVariants.{Small}
use Rattle.ob_base.specs.declared.seen.Seen.{Seen}
use Rattle.ob_base.specs.declared.seen.End.TheVariants.{Whole}
use Rattle.ob_base.specs.declared.skeleton.Skeleton.{Skeleton}
use Rattle.ob_base.specs.declared.shown.Shown.{Shown}
use Rattle.ob_base.specs.Events.{Event, row_events}
use Rattle.ob_emit.proofs.BlocksEmitted.{blocks_rest}
use Rattle.ob_flat.specs.Flats.{Represents}
use Rattle.ob_flat.specs.Emission.{SlotsToEnd}
use Rattle.ob_mean.specs.Prints.{Begun}
use Rattle.ob_mean.specs.Replay.{held_if}
use Rattle.ob_mean.specs.Verdict.{ended as seen_to}
use Rattle.ob_row.specs.Slots.{Slots}
use Rattle.ob_select.specs.Selecting.{Selection, HoldsSeen, answer_events, counted_after, places, selection_seen, shown_rows, walked_after}
use Rattle.ob_select.proofs.SelectHeld.{counted_held, held_empty, nothing_held}
use Rattle.ob_small.specs.Selection as Smalls
use Rattle.ob_small.proofs.Steps.{filled_whole}
use Rattle.ob_vault.specs.State.{World}
use Rattle.ob_vault.specs.Words.{IsHonest}
use Rattle.ob_stages.specs.declared.rows.Stage.{Stage}
use Rattle.ob_stages.specs.declared.rows.Stage.TheVariants.{Count, Make, Read, Write, Emit, Discard, Over}
use Rattle.ob_stages.specs.RowsStates.{RowsAt, HasCounted, IsFlown, PlacedAt, emits_before, is_over, is_passed, passes_pad, reads_before, result_in, seen_taking, small, table_blocks, writes_before, taken_by}
use Rattle.ob_stages.specs.RowsHolds.{HasBegun, HasShown, Holds, HoldsAt, IsCountOf, all_selected, events_if, head_of, is_shown, seen_ended}
use Rattle.ob_stages.proofs.RowsMeans.{count_places, events_meant, result_shown, seen_meant}

-- ---- what is held of what is seen
none_seen : (pad : Option ℕ) (k : ℕ) → (seen_ended pad k).then ≡ None
none_seen None zero = refl
none_seen None (suc k) = refl
none_seen (Some pad) k = refl

module _ (q : Selection) (s : Skeleton) (flown : IsFlown q s) (slots : Slots) where
  pub second_none : (selection_seen q slots).then ≡ None
  second_none = ap (λ (x : Seen). x.then) (seen_meant q flown.planner slots) ∙ none_seen q.public.pad (length (places q slots))

  -- before it has counted
  early : (n : ℕ) (o : Option ℕ) → n < table_blocks q → None ≡ held_if (nat_le (table_blocks q) n) o
  early n o less = ap (λ (b : Bool). held_if b o) (sym (not_le (table_blocks q) n less))
    where
      not_le : (a b : ℕ) → b < a → nat_le a b ≡ false
      not_le a b lt = grind (arith, nat_tests)

  early_plan : (n : ℕ) (o : Option Plan) → n < table_blocks q → None ≡ held_if (nat_le (table_blocks q) n) o
  early_plan n o less = ap (λ (b : Bool). held_if b o) (sym (not_le (table_blocks q) n less))
    where
      not_le : (a b : ℕ) → b < a → nat_le a b ≡ false
      not_le a b lt = grind (arith, nat_tests)

  pub early_held : (n : ℕ) (seen : Seen) → seen ≡ seen_to Whole → n < table_blocks q → HoldsSeen q slots false n seen
  early_held n seen is less = record {
    k = ap (λ (x : Seen). x.k) is ∙ early n (selection_seen q slots).k less;
    plan = ap (λ (x : Seen). x.plan) is ∙ early_plan n (selection_seen q slots).plan less;
    second = ap (λ (x : Seen). x.then) is ∙ held_empty (nat_le (walked_after q (selection_seen q slots)) n) (selection_seen q slots).then second_none;
  }

  -- after its count
  late_held_by : (pad : Option ℕ) (k n : ℕ) (seen : Seen) → q.public.pad ≡ pad → k ≡ length (places q slots) → 1 ≤ k ⊎ (pad ≡ None → ⊥) → seen ≡ seen_taking pad k → table_blocks q ≤ n → HoldsSeen q slots false n seen
  late_held_by None zero n seen is same some taking enough = absurd (elim some [ inl more ↦ omega (arith, more) | inr padded ↦ padded refl ])
  late_held_by None (suc k) n seen is same some taking enough =
      subst (HoldsSeen q slots false n) (sym taking)
      (counted_held q slots (suc k) (Some Small) false n (seen_meant q flown.planner slots ∙ (λ i. seen_ended (is i) (sym same i))) enough)
  late_held_by (Some pad) k n seen is same some taking enough =
      subst (HoldsSeen q slots false n) (sym taking)
      (nothing_held q slots false n (seen_meant q flown.planner slots ∙ ap (λ (o : Option ℕ). seen_ended o (length (places q slots))) is))

-- one access more was asked, and failed
pub held_failed : (q : Selection) (slots : Slots) (n : ℕ) (seen then_ : Seen) → then_.k ≡ seen.k → then_.plan ≡ seen.plan → then_.then ≡ seen.then → HoldsSeen q slots false n seen → HoldsSeen q slots true (n + 1) then_
held_failed q slots n seen then_ k plan second is =
    let one : n + 1 - 1 ≡ n = omega arith in
    record {
      k = k ∙ is.k ∙ ap (λ (m : ℕ). held_if (nat_le (counted_after q) m) (selection_seen q slots).k) (sym one);
      plan = plan ∙ is.plan ∙ ap (λ (m : ℕ). held_if (nat_le (counted_after q) m) (selection_seen q slots).plan) (sym one);
      second = second ∙ is.second ∙ ap (λ (m : ℕ). held_if (nat_le (walked_after q (selection_seen q slots)) m) (selection_seen q slots).then) (sym one);
    }

-- ---- its stages
module _ (g : RowsAt) (w : World) where
  -- how many accesses it has asked
  pub behind_count : (n : ℕ) → HasCounted g n → table_blocks g.q ≤ n → table_blocks g.q ≤ g.asked
  behind_count n is less = omega (arith, is.asked, less)

  some_rows : (n : ℕ) → HasCounted g n → (pad : Option ℕ) → g.q.public.pad ≡ pad → 1 ≤ g.k ⊎ (pad ≡ None → ⊥)
  some_rows n is None same = inl (subst (λ (o : Option ℕ). 1 ≤ taken_by o g.q.flat.capacity g.k) same is.some)
  some_rows n is (Some pad) same = inr (λ none. cc none)

  module _ (s : Skeleton) (flown : IsFlown g.q s) (slots : Slots) (held : Represents g.q.public.pack g.q.flat slots w) (nolie : w.store.lie ≡ None) where
    -- after the count it is that of these slots
    pub count_is : IsCountOf g w (all_selected g) → g.k ≡ length (places g.q slots)
    count_is is = is.told slots held nolie ∙ count_places g.q slots

    pub late_held : (n : ℕ) → HasCounted g n → table_blocks g.q ≤ n → IsCountOf g w (all_selected g) → HoldsSeen g.q slots false g.asked g.seen
    late_held n at less is =
        late_held_by g.q s flown slots g.q.public.pad g.k g.asked g.seen refl (count_is is) (some_rows n at g.q.public.pad refl) at.seen (behind_count n at less)

    held_at : (kept : List (List ℕ)) (events : List Event) (stage : Stage) → is_over stage ≡ false → PlacedAt stage g → HoldsAt stage g kept events w → HoldsSeen g.q slots false g.asked g.seen
    held_at kept events (Count u) going at is = early_held g.q s flown slots g.asked g.seen at.seen (omega (arith, at.asked, at.below))
    held_at kept events Make going at is = late_held (table_blocks g.q) at.0 (omega arith) is.1
    held_at kept events (Read pass u seen) going at is = late_held (reads_before g.q pass u) at.0.counted (omega arith) is.1
    held_at kept events (Write pass x) going at is = late_held (writes_before g.q pass x) at.0.counted (omega arith) is.1
    held_at kept events (Emit x) going at is = late_held (emits_before g.q g.k x) at.0.counted (omega arith) is.0
    held_at kept events Discard going at is = late_held (emits_before g.q g.k (Smalls.results (small g.q g.k))) at.counted (omega arith) is.0
    held_at kept events Over going at is = absurd (cc going)

-- ---- events
-- a first part of what follows
pub begun_none : (events all : List Event) → events ≡ [] → Begun events all
begun_none events all none = (all, ap (λ (l : List Event). l ++ all) none)

pub begun_more : (events all more : List Event) → Begun events all → Begun events (all ++ more)
begun_more events all more is = (is.0 ++ more, sym (append_assoc events is.0 more) ∙ ap (λ (l : List Event). l ++ more) is.1)

-- some rows of an answer, or none yet, or of one that is refused
pub begun_if : (passed : Bool) (x : ℕ) (q : Selection) (rows rest all : List (List Shown)) → rows ++ rest ≡ all → Begun (events_if (is_shown passed x) q rows) (events_if (not passed) q all)
begun_if true x q rows rest all is = ([], refl)
begun_if false x q rows rest all is = go (nat_lt 0 x)
  where
    go : (b : Bool) → Begun (events_if b q rows) (events_if true q all)
    go false = (events_if true q all, refl)
    go true = (
      row_events rest,
      append_assoc (head_of q) (row_events rows) (row_events rest)
          ∙ ap (λ (l : List Event). head_of q ++ l) (sym (map-append _ rows rest) ∙ ap row_events is),
    )

module _ (g : RowsAt) (s : Skeleton) (flown : IsFlown g.q s) (w : World) (slots : Slots) (held : Represents g.q.public.pack g.q.flat slots w) (honest : IsHonest w w) where
  -- the slots of its result
  pub result_held : (x : ℕ) (events : List Event) (is : HasShown g x events w) → Represents g.q.public.pack (result_in g.q g.k is.filled.own) (Smalls.result_slots (small g.q g.k) slots) w
  result_held x events is =
      filled_whole (small g.q g.k) (result_in g.q g.k is.filled.own) (Smalls.results (small g.q g.k)) w refl refl is.filled.filled honest slots held

  module _ (x : ℕ) (events : List Event) (is : HasShown g x events w) (count : IsCountOf g w (all_selected g)) where
    here : SlotsToEnd g.q.public.pack (result_in g.q g.k is.filled.own) w w
    here = record { slots = Smalls.result_slots (small g.q g.k) slots; is = result_held x events is; nolie = honest.nolie }

    same_count : g.k ≡ length (places g.q slots)
    same_count = count_is g w s flown slots held honest.nolie count

    -- they are the first of those that are meant
    pub rows_begun : (passes_pad g ≡ false) → (rest : List (List Shown)) × (is.rows ++ rest ≡ shown_rows g.q slots)
    unfolding here
    rows_begun unpassed =
        let told = (is.read.emitted unpassed).told here in
        let more = blocks_rest g.q.public.pack (result_in g.q g.k is.filled.own) g.q.cols (Smalls.result_slots (small g.q g.k) slots) w (result_held x events is) x in (
          more.0,
          ap (λ (l : List (List Shown)). l ++ more.0) told ∙ more.1 ∙ result_shown g.q flown.planner slots g.k same_count held.size unpassed,
        )

    passed_or : (b : Bool) → passes_pad g ≡ b → Begun (events_if (is_shown b x) g.q is.rows) (events_if (not b) g.q (shown_rows g.q slots))
    passed_or true passed = ([], refl)
    passed_or false unpassed = let r = rows_begun unpassed in begun_if false x g.q is.rows r.0 (shown_rows g.q slots) r.1

    pub shown_begun : Begun events (answer_events g.q slots)
    shown_begun =
        let whole : events_if (not (passes_pad g)) g.q (shown_rows g.q slots) ≡ answer_events g.q slots =
        ap (λ (n : ℕ). events_if (not (is_passed g.q.public.pad n)) g.q (shown_rows g.q slots)) same_count ∙ sym (events_meant g.q flown.planner slots) in
        subst (λ (l : List Event). Begun l (answer_events g.q slots)) (sym is.is)
        (subst (Begun (events_if (is_shown (passes_pad g) x) g.q is.rows)) whole (passed_or (passes_pad g) refl))

  begun_at : (kept : List (List ℕ)) (events : List Event) (stage : Stage) → is_over stage ≡ false → HoldsAt stage g kept events w → Begun events (answer_events g.q slots)
  begun_at kept events (Emit x) going is = shown_begun x events is.1 is.0
  begun_at kept events Discard going is = shown_begun (Smalls.results (small g.q g.k)) events is.1 is.0
  begun_at kept events Over going is = absurd (cc going)
  begun_at kept events other going is = begun_none events (answer_events g.q slots) is.0

-- what is known of one on its way
pub record KnowsWay (g : RowsAt) (events : List Event) (slots : Slots) : Type 0 where
  pub held : HoldsSeen g.q slots false g.asked g.seen
  pub begun : Begun events (answer_events g.q slots)

pub way_of : (g : RowsAt) (kept : List (List ℕ)) (events : List Event) (w : World) → Holds g kept events w → is_over g.stage ≡ false → (slots : Slots) → Represents g.q.public.pack g.q.flat slots w → IsHonest w w → KnowsWay g events slots
way_of g kept events w is going slots held honest =
    let flown = is.placed.flown in
    record {
      held = held_at g w _ flown slots held honest.nolie kept events g.stage going is.placed.at is.at;
      begun = begun_at g _ flown w slots held honest kept events g.stage going is.at;
    }

-- whatever the store gave: nothing was emitted, or the header and some rows
begun_shape : (b : Bool) (q : Selection) (rows : List (List Shown)) (events : List Event) → events ≡ events_if b q rows → HasBegun q events
begun_shape true q rows events is = inr (rows, is)
begun_shape false q rows events is = inl is

pub shape_of : (g : RowsAt) (kept : List (List ℕ)) (events : List Event) (w : World) (stage : Stage) → is_over stage ≡ false → HoldsAt stage g kept events w → HasBegun g.q events
shape_of g kept events w (Emit x) going is = begun_shape (is_shown (passes_pad g) x) g.q is.1.rows events is.1.is
shape_of g kept events w Discard going is = begun_shape (is_shown (passes_pad g) (Smalls.results (small g.q g.k))) g.q is.1.rows events is.1.is
shape_of g kept events w Over going is = absurd (cc going)
shape_of g kept events w other going is = inl is.0
