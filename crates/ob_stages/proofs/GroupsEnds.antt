-- The answer of a SELECT with GROUP BY in flight.
use Rattle.std.proofs.Common.{◌≡◌, inl, inr, ◌++◌, ◌≤◌, ◌<◌, ◌/◌, ℕ, Bool, true, false, if◌then◌else◌, List, [], ◌∷◌, length, map, Some, None, refl, sym, ◌∙◌, ap, subst, arith, append-nil}
use Rattle.std.specs.Prelude.{nat_lt}
use Rattle.std.proofs.lemmas.Bool.Decides.{nat_tests}
use Rattle.std.proofs.lemmas.List.{length-map}
use Rattle.ob_base.specs.declared.emit.EmitErr.{EmitErr}
use Rattle.ob_base.specs.declared.refusal.Refusal.TheVariants.{StoreFault, TooManyGroups}
use Rattle.ob_base.specs.declared.shown.Shown.{Shown}
use Rattle.ob_base.specs.Events.{Event, Head, Close, row_events}
use Rattle.ob_base.specs.Limits.{buffered}
use Rattle.ob_base.specs.Schemas.{Columns}
use Rattle.ob_row.specs.declared.aggregate.Item.{Item}
use Rattle.ob_row.specs.Condition.{Condition}
use Rattle.ob_row.specs.Rows.{Row}
use Rattle.ob_row.specs.Spelling.{kind_at}
use Rattle.ob_row.specs.Totals.{grouped, group_heads}
use Rattle.ob_row.specs.Truth.{is_true}
use Rattle.ob_vault.specs.State.{World}
use Rattle.ob_flat.specs.Emission.{SlotsToEnd}
use Rattle.ob_flat.specs.Words.{blocks_of}
use Rattle.ob_group.specs.declared.grouping.Grouped.TheVariants.{Groups, TooMany}
use Rattle.ob_group.specs.Held.{HasGroups}
use Rattle.ob_group.specs.Labels.{header}
use Rattle.ob_group.specs.Labels as G
use Rattle.ob_group.specs.Passes.{AreItems}
use Rattle.ob_group.specs.Steps.{AreGathered}
use Rattle.ob_group.proofs.Gathering.{gathered_answer, gathered_has}
use Rattle.ob_mean.specs.declared.answer.Answer.{Answer}
use Rattle.ob_mean.specs.declared.answer.Answer.TheVariants as A
use Rattle.ob_mean.specs.Conditions.{where_at}
use Rattle.ob_mean.specs.Prints.{Prints, Begun}
use Rattle.ob_mean.specs.Step.{answered}
use Rattle.ob_sql.specs.declared.stmt.SelectTotals.{SelectTotals}
use Rattle.ob_verdict.specs.declared.outcome.Outcome.{Outcome}
use Rattle.ob_verdict.specs.declared.outcome.Outcome.TheVariants.{Rows, Refused}
use Rattle.ob_verdict.specs.Outcomes.{IsAnswer, Partly}
use Rattle.ob_inflight.specs.Answers.{error_of}
use Rattle.ob_stages.specs.declared.reading.Reading.{Reading}
use Rattle.ob_stages.specs.declared.groups.GroupsFlight.{GroupsFlight}
use Rattle.ob_stages.specs.Reading.{AnswersTotals, EndsAs, HaltsTotals, is_over, places_of}
use Rattle.ob_stages.specs.Groups.{IsGrouping, items_of}
use Rattle.ob_stages.specs.Totalling.{labels_at, outcome_at, totalled, totalled_answer}
use Rattle.ob_stages.proofs.ReadingEnds.{all_read, answered_by, fault_answered, last_read, of_emitter, reading_ends, silent}
use Rattle.ob_stages.proofs.TotalsLemmas.{all_events, are_many, begun_rows, by_count, grouped_as, is_answer, items_fit, items_labels, not_many, partly_rows, prints_rows}

-- it was answered
abbrev pub ended_by : Outcome → GroupsFlight → GroupsFlight
ended_by outcome f = record f { reading = answered_by outcome f.reading }

pub buffered_few : (pack rows : ℕ) → rows ≤ 65536 → buffered pack rows ≤ 65536
buffered_few pack rows few = grind (arith, few)

pub share_few : (rows n : ℕ) → rows ≤ 65536 → rows / n ≤ 65536
share_few rows n few = grind (arith, few)

module _ (f : GroupsFlight) (kept : List (List ℕ)) (events : List Event) (w : World) (is : IsGrouping f kept events w) (over : is_over f.reading ≡ true) (going : f.reading.outcome ≡ None) where
  abbrev r : Reading
  r = f.reading

  abbrev cs : Columns
  cs = r.flat.schema

  abbrev s : SelectTotals
  s = r.select.now

  abbrev labels : List (List ℕ)
  labels = labels_at cs s

  abbrev items : List Item
  items = items_of f

  abbrev test : Row → Bool
  test = is_true (where_at s.cond cs)

  groups_on : (outcome : Outcome) (more : List Event) → AnswersTotals (places_of r) r.public.now.pack r.flat s r.failed outcome more w → IsGrouping (ended_by outcome f) kept (events ++ more) w
  groups_on outcome more given = record {
    reading = reading_ends r events w is.reading over going outcome more given;
    keyed = record { key = is.keyed.key; by_key = is.keyed.by_key; place = is.keyed.place; items = is.keyed.items };
    places = is.places;
    gathered = is.gathered;
  }

  pub groups_failed : r.failed ≡ true → IsGrouping (ended_by (Refused StoreFault) f) kept (events ++ []) w
  groups_failed failed = groups_on (Refused StoreFault) [] (fault_answered r events w is.reading over going failed)

  -- ---- all was read
  module _ (whole : r.failed ≡ false) where
    pub fits : AreItems cs f.key items
    fits = items_fit cs s is.keyed.key items f.key is.reading.boarded.items is.keyed.by_key is.keyed.items is.keyed.place

    pub gathered : AreGathered r.public.now.pack r.flat test f.key items r.asked f.n kept f.buckets w
    gathered = subst (λ (c : Condition). AreGathered r.public.now.pack r.flat (is_true c) f.key items r.asked f.n kept f.buckets w) is.reading.boarded.meant (is.gathered whole)

    pub all : r.asked ≡ blocks_of r.public.now.pack r.flat
    all = all_read r events w is.reading over going whole

    pub has_groups : HasGroups (kind_at cs f.key) (length items) f.n kept
    has_groups = gathered_has r.public.now.pack r.flat test f.key items r.asked f.n kept f.buckets w all gathered

    few : length kept ≤ 65536
    few =
        let places = is.places in
        let share = buffered_few r.public.now.pack _ (share_few r.public.now.buffer r.flown is.reading.boarded.rows) in
        omega (arith, places, share)

    -- ---- what it means
    module _ (q : SlotsToEnd r.public.now.pack r.flat w w) where
      abbrev count : ℕ
      count = length (group_heads f.key (totalled cs s q.slots))

      abbrev shown : List (List Shown)
      shown = grouped f.key items (totalled cs s q.slots)

      counted : length shown ≡ count
      counted = length-map (group_heads f.key (totalled cs s q.slots)) _

      answer_is : totalled_answer (places_of r) cs s q.slots ≡ answered (if nat_lt (places_of r) count then Some TooManyGroups else None) (A.Rows shown)
      answer_is = by_count cs s is.keyed.key items f.key is.reading.boarded.items is.keyed.by_key is.keyed.items is.keyed.place (places_of r) q.slots

      found : (b : Bool) → nat_lt (length kept) f.n ≡ b → (if b then TooMany else Groups f.n) ≡ (if nat_lt (places_of r) count then TooMany else Groups count)
      found b by =
          ap (λ (b : Bool). if b then TooMany else Groups f.n) (sym by)
          ∙ gathered_answer r.public.now.pack r.flat test f.key items r.asked f.n kept f.buckets w all gathered fits.key q.slots q.is q.nolie
          ∙ ap (λ (m : ℕ). if nat_lt m count then TooMany else Groups count) is.places

    more_tests : length kept < f.n → nat_lt (length kept) f.n ≡ true
    more_tests more = grind (arith, nat_tests)

    few_tests : f.n ≤ length kept → nat_lt (length kept) f.n ≡ false
    few_tests most = grind (arith, nat_tests)

    -- more groups than rows
    pub groups_many : length kept < f.n → IsGrouping (ended_by (Refused TooManyGroups) f) kept (events ++ []) w
    groups_many more = groups_on (Refused TooManyGroups) [] (record {
      ends = subst (λ (b : Bool). EndsAs b (Refused TooManyGroups)) (sym whole) (inr refl);
      emits = refl;
      told = λ _ q.
          let is_many = found q true (more_tests more) in
          record {
            answer = grouped_as s (count q) (shown q) (counted q) (nat_lt (places_of r) (count q)) TooMany is_many ∙ ap (outcome_at s) (sym (answer_is q));
            prints = subst (λ (x : Answer). Prints labels x []) (sym (answer_is q ∙ are_many s (count q) (shown q) (counted q) (nat_lt (places_of r) (count q)) is_many)) refl;
          };
    })

    -- ---- few enough
    module _ (most : f.n ≤ length kept) where
      few_is : (q : SlotsToEnd r.public.now.pack r.flat w w) → (totalled_answer (places_of r) cs s q.slots ≡ A.Rows (shown q)) × (f.n ≡ count q)
      few_is q =
          let few = not_many s (count q) (shown q) (counted q) (nat_lt (places_of r) (count q)) f.n (found q false (few_tests most)) in
          (answer_is q ∙ few.0, few.1)

      labelled : map (G.item_label cs f.key) items ≡ labels
      labelled = items_labels cs s is.keyed.key items f.key is.reading.boarded.items is.keyed.by_key is.keyed.items is.keyed.place

      pub halts_midst : (e : EmitErr) (part : List Event) → ((q : SlotsToEnd r.public.now.pack r.flat w w) → Begun part (header cs f.key items ++ row_events (shown q))) → HaltsTotals r events part (error_of e) w w
      halts_midst e part begun = record {
        told = λ q.
            let here : SlotsToEnd r.public.now.pack r.flat w w = record { slots = q.slots; is = q.is; nolie = q.nolie } in
            let answer = totalled_answer (places_of r) cs s q.slots in
            subst (λ (l : List Event). Partly labels answer (l ++ part)) (sym (silent r events w is.reading over going))
            (partly_rows labels answer (shown here) part (few_is here).0
            (begun_rows labels (shown here) part (subst (λ (l : List (List ℕ)). Begun part (Head l ∷ row_events (shown here))) labelled (begun here))));
        honest = λ _. of_emitter e;
        emitter = λ _. (whole, last_read r events w is.reading over going whole);
      }

      module _ (given : List (List Shown)) (number : f.n ≡ length given) (told : (q : SlotsToEnd r.public.now.pack r.flat w w) → given ≡ shown q) where
        abbrev pub group_events : List Event
        group_events = header cs f.key items ++ row_events given ++ Close f.n ∷ []

        events_are : group_events ≡ all_events labels given
        events_are = λ i. Head (labelled i) ∷ (row_events given ++ Close (number i) ∷ [])

        rows_are : (q : SlotsToEnd r.public.now.pack r.flat w w) → totalled_answer (places_of r) cs s q.slots ≡ A.Rows given
        rows_are q = (few_is q).0 ∙ ap A.Rows (sym (told q))

        pub groups_whole : IsGrouping (ended_by (Rows f.n) f) kept (events ++ group_events) w
        groups_whole = groups_on (Rows f.n) group_events (record {
          ends = subst (λ (b : Bool). EndsAs b (Rows f.n)) (sym whole) (inl (f.n, refl));
          emits = subst (λ (l : List Event). IsAnswer labels f.n l) (sym events_are) (let rows_few = few in is_answer labels given f.n number (omega (arith, most, rows_few)));
          told = λ _ q. record {
            answer = grouped_as s (count q) (shown q) (counted q) (nat_lt (places_of r) (count q)) (Groups f.n) (found q false (few_tests most)) ∙ ap (outcome_at s) (sym (answer_is q));
            prints =
                subst (λ (l : List Event). Prints labels (totalled_answer (places_of r) cs s q.slots) l) (sym events_are)
                (subst (λ (x : Answer). Prints labels x (all_events labels given)) (sym (rows_are q)) (prints_rows labels given));
          };
        })

        pub halts_number : (e : EmitErr) → HaltsTotals r events group_events (error_of e) w w
        halts_number e = record {
          told = λ q.
              let here : SlotsToEnd r.public.now.pack r.flat w w = record { slots = q.slots; is = q.is; nolie = q.nolie } in
              let answer = totalled_answer (places_of r) cs s q.slots in
              subst (λ (l : List Event). Partly labels answer (l ++ group_events)) (sym (silent r events w is.reading over going))
              (partly_rows labels answer given group_events (rows_are here) ([], append-nil group_events ∙ events_are));
          honest = λ _. of_emitter e;
          emitter = λ _. (whole, last_read r events w is.reading over going whole);
        }
