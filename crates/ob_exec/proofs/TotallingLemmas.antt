-- What a pass found of a table's totals, and what was emitted of it.
use Rattle.ob_exec.proofs.Words.{Access, Answer, answered, ap, append-nil, arith, Bool, buffered, Close, Columns, Condition, count_part, EmitErr, Err, Event, false, Head, if◌then◌else◌, inl, inr, IsUnfit, Leads, length, length-map, List, map, nat_lt, nat_tests, None, none, Ok, OpErr, Outcome, partly_none, PassCut, Prints, refl, Result, row_events, rows, Shown, SinkCause, Slots, Some, subst, sym, unfit_none, Went, where_at, World, ℕ, [], ◌++◌, ◌∙◌, ◌∷◌, ◌≡◌, ◌≤◌, ◌⊎◌}
use Rattle.std.proofs.Common.{filter}
use Rattle.ob_base.specs.declared.emit.EmitErr.TheVariants as EmitErrs
use Rattle.ob_base.specs.declared.refusal.Refusal.TheVariants.{TooManyGroups}
use Rattle.ob_base.specs.declared.skeleton.ColumnName.{ColumnName}
use Rattle.ob_base.specs.Events.{EmitCause, Row as RowEvent}
use Rattle.ob_row.specs.declared.aggregate.Agg.{Agg}
use Rattle.ob_row.specs.declared.aggregate.Item.{Item}
use Rattle.ob_row.specs.Rows.{Row}
use Rattle.ob_row.specs.Totals.{totals, grouped, group_heads}
use Rattle.ob_row.specs.Truth.{is_true}
use Rattle.ob_vault.proofs.WorldSteps.{calm_none}
use Rattle.ob_flat.specs.declared.fault.OpErr.TheVariants.{Failed, Tampered, Sink, NoMemory}
use Rattle.ob_flat.specs.declared.flat.Flat.{Flat}
use Rattle.ob_flat.specs.Emission.{SlotsToEnd}
use Rattle.ob_flat.specs.Flats.{Represents}
use Rattle.ob_flat.specs.Words.{TamperedIn, blocks_of}
use Rattle.ob_group.specs.declared.grouping.Grouped.{Grouped}
use Rattle.ob_group.specs.declared.grouping.Grouped.TheVariants.{Groups, TooMany}
use Rattle.ob_group.specs.Labels as G
use Rattle.ob_group.specs.Passes.{Aggregates, GroupsRows}
use Rattle.ob_group.specs.Steps.{EmitsAll}
use Rattle.ob_sql.specs.declared.stmt.SelectTotals.{SelectTotals}
use Rattle.ob_mean.specs.declared.answer.Answer.TheVariants as A
use Rattle.ob_names.specs.Names.{place_of}
use Rattle.ob_mean.specs.Prints.{Begun}
use Rattle.ob_mean.specs.Step.{item_of}
use Rattle.ob_verdict.specs.declared.outcome.Outcome.TheVariants.{Rows, Refused}
use Rattle.ob_exec.specs.Totalling.{HaltsTotals, Totals, ends_by}
use Rattle.ob_stages.specs.Totalling.{TotalsFit, agg_at, labels_at, outcome_at, totalled_answer}
use Rattle.ob_tables.specs.Stops.{error_of}
use Rattle.ob_stages.proofs.TotalsLemmas.{all_events, are_many, begun_rows, grouped_as, is_answer, items_labels, leads_join, leads_none, not_many, partly_rows, prints_rows}
use Rattle.ob_stages.proofs.TotalsLemmas as S

-- ---- the emitter's failures
-- after all was asked
cut_whole : (e : EmitErr) (x : List Access) (a b : World) → Went x none a b → PassCut (error_of e) x none a b
cut_whole EmitErrs.Failed x a b went = record { lasts = went.lasts; began = record { done = x; rest = []; split = append-nil x; asked = went.did.asked }; asks = λ is. absurd (cc is); cause = (went.did.faults, went.calm) }
cut_whole EmitErrs.NoMemory x a b went = record { lasts = went.lasts; began = record { done = x; rest = []; split = append-nil x; asked = went.did.asked }; asks = λ is. absurd (cc is); cause = (went.did.faults, went.calm) }

is_sink : (e : EmitErr) (a b : ℕ) → EmitCause {T = Unit {0}} (Err e) a b → SinkCause {T = Outcome} (Err (error_of e)) a b
is_sink EmitErrs.Failed a b is = is
is_sink EmitErrs.NoMemory a b is = is

abbrev stopped_by : OpErr → Result Outcome OpErr
stopped_by e = Err e

no_fault : (P : Type 0) (e : EmitErr) → stopped_by (error_of e) ≡ Err Failed → P
no_fault P EmitErrs.Failed is = absurd (cc is)
no_fault P EmitErrs.NoMemory is = absurd (cc is)

of_emitter : (e : EmitErr) → (error_of e ≡ Failed) ⊎ (error_of e ≡ Sink) ⊎ (error_of e ≡ NoMemory)
of_emitter EmitErrs.Failed = inr (inl refl)
of_emitter EmitErrs.NoMemory = inr (inr refl)

-- the same cause, whatever there would have been
sink_any : (T U : Type 0) (e : OpErr) (a b : ℕ) → SinkCause {T = T} (Err e) a b → SinkCause {T = U} (Err e) a b
sink_any T U Failed a b is = is
sink_any T U (Tampered q x) a b is = is
sink_any T U Sink a b is = is
sink_any T U NoMemory a b is = is

-- no changed block was read in a whole run, where none was before and none that doesn't fit
halt_none : (x : List Access) (a b : World) → Went x none a b → a.store.lie ≡ None → IsUnfit b → b.store.lie ≡ None
halt_none x a b went none_is unfit = unfit_none b (went.calm (calm_none a none_is)) unfit

-- the groups that are kept fit the room
pub buffered_few : (pack rows : ℕ) → 1 ≤ pack → rows ≤ 65536 → buffered pack rows ≤ 65536
buffered_few pack rows some few = grind (arith, some, few)

-- ---- all of it
module _ {E : Type 0} (grew cut : E → E → List Event → Type 0) (faults : E → ℕ) (places pack : ℕ) (flat : Flat) (q : SelectTotals) (condition : Condition) (old new : World)
    (fit : TotalsFit flat.schema q) (meant : condition ≡ where_at q.cond flat.schema) where
  abbrev cs : Columns
  cs = flat.schema

  abbrev reads : List Access
  reads = count_part flat.region (blocks_of pack flat)

  abbrev chosen : Slots → List Row
  chosen slots = filter (is_true condition) (rows slots)

  abbrev HaltsIn : (E → E → List Event → Type 0) → E → E → Type 0
  HaltsIn to a b = HaltsTotals grew to places pack flat q old new a b

  -- nothing was emitted
  halts_none : (a b : E) → b ≡ a → HaltsTotals grew grew places pack flat q old new a b
  halts_none a b same = record {
    events = [];
    ends = subst (λ (x : E). Leads grew grew a x []) (sym same) (leads_none grew a);
    told = λ s. partly_none (labels_at cs q) (totalled_answer places cs q s.slots);
  }

  -- by the error
  halts_given : {a b : E} (e : EmitErr) → HaltsTotals grew cut places pack flat q old new a b → HaltsTotals grew (ends_by grew cut (error_of e)) places pack flat q old new a b
  halts_given EmitErrs.Failed is = is
  halts_given EmitErrs.NoMemory is = is

  halts_by : {a b : E} (e : OpErr) → (e ≡ Sink) ⊎ (e ≡ NoMemory) → HaltsTotals grew cut places pack flat q old new a b → HaltsTotals grew (ends_by grew cut e) places pack flat q old new a b
  halts_by Failed either is = elim either [ inl sink ↦ absurd (cc sink) | inr memory ↦ absurd (cc memory) ]
  halts_by (Tampered r x) either is = elim either [ inl sink ↦ absurd (cc sink) | inr memory ↦ absurd (cc memory) ]
  halts_by Sink either is = is
  halts_by NoMemory either is = is

  halts_read : {a b : E} (e : OpErr) → (e ≡ Failed) ⊎ TamperedIn pack flat e new
      → HaltsIn grew a b → HaltsIn (ends_by grew cut e) a b
  halts_read Failed either is = is
  halts_read (Tampered r x) either is = is
  halts_read Sink either is = elim either [ inl failed ↦ absurd (cc failed) | inr there ↦ absurd (cc there.is) ]
  halts_read NoMemory either is = elim either [ inl failed ↦ absurd (cc failed) | inr there ↦ absurd (cc there.is) ]

  -- ---- an answer of one row
  module _ (aggs : List Agg) (ungrouped : q.group ≡ None) (aggs_are : aggs ≡ map (agg_at cs) q.items) where
    one_row : (slots : Slots) → totalled_answer places cs q slots ≡ A.Rows (totals aggs (chosen slots) ∷ [])
    one_row slots = S.one_row cs q aggs fit ungrouped aggs_are places slots ∙ (λ i. A.Rows (totals aggs (filter (is_true (sym meant i)) (rows slots)) ∷ []))

    row_is : (slots : Slots) (accs : List Shown) → accs ≡ totals aggs (chosen slots) → totalled_answer places cs q slots ≡ A.Rows (accs ∷ [])
    row_is slots accs is = one_row slots ∙ ap (λ (r : List Shown). A.Rows (r ∷ [])) (sym is)

    pub totals_row : (accs : List Shown) (labels : List (List ℕ)) (a b : E) → labels ≡ labels_at cs q → Aggregates pack flat (is_true condition) aggs (Ok accs) old new
        → Leads grew grew a b (Head labels ∷ RowEvent accs ∷ Close 1 ∷ []) → faults b ≡ faults a → Totals grew cut faults places pack flat q (Ok (Rows 1)) old new a b
    totals_row accs labels a b labels_are all leads same = record {
      ran = record { ok = all.ran.ok; err = tt };
      seals = all.seals;
      whole = inl (1, refl);
      emitted = record {
        events = all_events (labels_at cs q) (accs ∷ []);
        leads = subst (λ (l : List (List ℕ)). Leads grew grew a b (Head l ∷ RowEvent accs ∷ Close 1 ∷ [])) labels_are leads;
        emits = is_answer (labels_at cs q) (accs ∷ []) 1 refl (omega arith);
        told = λ s.
            subst (λ (x : Answer). Prints (labels_at cs q) x (all_events (labels_at cs q) (accs ∷ []))) (sym (row_is s.slots accs (all.told s.slots s.is s.nolie)))
            (prints_rows (labels_at cs q) (accs ∷ []));
      };
      halted = tt;
      failed = λ is. absurd (cc is);
      after = λ is. absurd (cc is);
      sink = same;
      told = λ s. ap (outcome_at q) (sym (one_row s.slots));
    }

    -- the emitter failed
    pub totals_row_cut : (accs : List Shown) (labels : List (List ℕ)) (e : EmitErr) (a b : E) → labels ≡ labels_at cs q → Aggregates pack flat (is_true condition) aggs (Ok accs) old new
        → EmitsAll {T = Unit {0}} grew cut faults (Head labels ∷ RowEvent accs ∷ Close 1 ∷ []) (Err e) a b → Totals grew cut faults places pack flat q (Err (error_of e)) old new a b
    totals_row_cut accs labels e a b labels_are all given =
        let part = given.err in
        record {
          ran = record { ok = tt; err = cut_whole e reads old new all.ran.ok };
          seals = all.seals;
          whole = tt;
          emitted = tt;
          halted = halts_given e (record {
            events = part.0;
            ends = part.1;
            told = λ s.
                partly_rows (labels_at cs q) (totalled_answer places cs q s.slots) (accs ∷ []) part.0
                (row_is s.slots accs (all.told s.slots s.is (halt_none reads old new all.ran.ok s.nolie s.unfit)))
                (subst (λ (l : List (List ℕ)). Begun part.0 (Head l ∷ RowEvent accs ∷ Close 1 ∷ [])) labels_are part.2);
          });
          failed = no_fault _ e;
          after = λ is. all.ran.ok;
          sink = is_sink e (faults a) (faults b) given.cause;
          told = λ s. of_emitter e;
        }

    -- the pass gave up
    pub totals_none : (e : OpErr) (a : E) → Aggregates pack flat (is_true condition) aggs (Err e) old new → Totals grew cut faults places pack flat q (Err e) old new a a
    totals_none e a all = record {
      ran = record { ok = tt; err = all.ran.err };
      seals = all.seals;
      whole = tt;
      emitted = tt;
      halted = halts_read e all.never (halts_none a a refl);
      failed = λ is. refl;
      after = λ is. elim all.never [ inl failed ↦ absurd (cc (is, failed)) | inr there ↦ absurd (cc (is, there.is)) ];
      sink = elim all.never [
        | inl failed ↦ subst (λ (x : OpErr). SinkCause {T = Outcome} (Err x) (faults a) (faults a)) (sym failed) refl
        | inr there ↦ subst (λ (x : OpErr). SinkCause {T = Outcome} (Err x) (faults a) (faults a)) (sym there.is) refl
      ];
      told = λ s. inl (all.told s.slots s.is s.nolie);
    }

  -- ---- a row for each group
  module _ (key : ColumnName) (items : List Item) (place : ℕ) (by_key : q.group ≡ Some key) (items_are : items ≡ map (item_of cs) q.items) (place_is : place ≡ place_of key cs) where
    labelled : map (G.item_label cs place) items ≡ labels_at cs q
    labelled = items_labels cs q key items place fit by_key items_are place_is

    abbrev group_rows : Slots → List (List Shown)
    group_rows slots = grouped place items (chosen slots)

    abbrev count : Slots → ℕ
    count slots = length (group_heads place (chosen slots))

    counted : (slots : Slots) → length (group_rows slots) ≡ count slots
    counted slots = length-map (group_heads place (chosen slots)) _

    by_count : (slots : Slots) → totalled_answer places cs q slots ≡ answered (if nat_lt places (count slots) then Some TooManyGroups else None) (A.Rows (group_rows slots))
    by_count slots =
        S.by_count cs q key items place fit by_key items_are place_is places slots
        ∙ (λ i.
        let found = filter (is_true (sym meant i)) (rows slots) in
        answered (if nat_lt places (length (group_heads place found)) then Some TooManyGroups else None) (A.Rows (grouped place items found)))

    abbrev Grouping : Result Grouped OpErr → E → E → Type 0
    Grouping result a b = GroupsRows grew cut faults places pack flat (is_true condition) place items result old new a b

    -- more groups than are kept
    pub totals_many : (a b : E) → Grouping (Ok TooMany) a b → Totals grew cut faults places pack flat q (Ok (Refused TooManyGroups)) old new a b
    totals_many a b all = record {
      ran = record { ok = all.ran.ok; err = tt };
      seals = all.seals;
      whole = inr refl;
      emitted = record {
        events = [];
        leads = subst (λ (x : E). Leads grew grew a x []) (sym all.emitted) (leads_none grew a);
        emits = refl;
        told = λ s.
            subst (λ (x : Answer). Prints (labels_at cs q) x [])
            (sym (by_count s.slots ∙ are_many q (count s.slots) (group_rows s.slots) (counted s.slots) (nat_lt places (count s.slots)) (all.told s.slots s.is s.nolie))) refl;
      };
      halted = tt;
      failed = λ is. absurd (cc is);
      after = λ is. absurd (cc is);
      sink = all.cause;
      told = λ s.
          grouped_as q (count s.slots) (group_rows s.slots) (counted s.slots) (nat_lt places (count s.slots)) TooMany (all.told s.slots s.is s.nolie)
          ∙ ap (outcome_at q) (sym (by_count s.slots));
    }

    module _ (n : ℕ) (a b c : E) (all : Grouping (Ok (Groups n)) a b) where
      abbrev given : List (List Shown)
      given = all.emitted.rows

      n_is : n ≡ length given
      n_is = omega (arith, all.emitted.count)

      -- the rows are those of the groups, which are few
      rows_are : (s : SlotsToEnd pack flat old new) → totalled_answer places cs q s.slots ≡ A.Rows given
      rows_are s =
          let few = not_many q (count s.slots) (group_rows s.slots) (counted s.slots) (nat_lt places (count s.slots)) n (all.told s.slots s.is s.nolie) in
          by_count s.slots ∙ few.0 ∙ ap A.Rows (sym (all.emitted.told s))

      pub totals_groups : places ≤ 65536 → Leads grew grew b c (Close n ∷ []) → faults c ≡ faults b → Totals grew cut faults places pack flat q (Ok (Rows n)) old new a c
      totals_groups some last same =
          let most = all.most in
          record {
            ran = record { ok = all.ran.ok; err = tt };
            seals = all.seals;
            whole = inl (n, refl);
            emitted = record {
              events = all_events (labels_at cs q) given;
              leads = subst (Leads grew grew a c) (λ i. Head (labelled i) ∷ (row_events given ++ Close (n_is i) ∷ []))
                  (leads_join grew grew a b c (Head (map (G.item_label cs place) items) ∷ row_events given) (Close n ∷ []) all.emitted.leads last);
              emits = is_answer (labels_at cs q) given n n_is (omega (arith, most, some));
              told = λ s. subst (λ (x : Answer). Prints (labels_at cs q) x (all_events (labels_at cs q) given)) (sym (rows_are s)) (prints_rows (labels_at cs q) given);
            };
            halted = tt;
            failed = λ is. absurd (cc is);
            after = λ is. absurd (cc is);
            sink = same ∙ all.cause;
            told = λ s.
                grouped_as q (count s.slots) (group_rows s.slots) (counted s.slots) (nat_lt places (count s.slots)) (Groups n) (all.told s.slots s.is s.nolie)
                ∙ ap (outcome_at q) (sym (by_count s.slots));
          }

      -- the emitter failed at their number
      pub totals_groups_cut : (e : EmitErr) → Leads grew cut b c (Close n ∷ []) → EmitCause {T = Unit {0}} (Err e) (faults b) (faults c)
          → Totals grew cut faults places pack flat q (Err (error_of e)) old new a c
      totals_groups_cut e last cause = record {
        ran = record { ok = tt; err = cut_whole e reads old new all.ran.ok };
        seals = all.seals;
        whole = tt;
        emitted = tt;
        halted = halts_given e (record {
          events = all_events (labels_at cs q) given;
          ends = subst (Leads grew cut a c) (λ i. Head (labelled i) ∷ (row_events given ++ Close (n_is i) ∷ []))
              (leads_join grew cut a b c (Head (map (G.item_label cs place) items) ∷ row_events given) (Close n ∷ []) all.emitted.leads last);
          told = λ s.
              partly_rows (labels_at cs q) (totalled_answer places cs q s.slots) given _
              (rows_are (record { slots = s.slots; is = s.is; nolie = halt_none reads old new all.ran.ok s.nolie s.unfit })) ([], append-nil _);
        });
        failed = no_fault _ e;
        after = λ is. all.ran.ok;
        sink = subst (λ (k : ℕ). SinkCause {T = Outcome} (Err (error_of e)) k (faults c)) all.cause (is_sink e (faults b) (faults c) cause);
        told = λ s. of_emitter e;
      }

    -- the pass gave up, before it emitted, or in the midst of a header and rows
    few_groups : (n : ℕ) → n ≤ places → nat_lt places n ≡ false
    few_groups n most = grind (arith, nat_tests)

    module _ (e : OpErr) (a b : E) (all : Grouping (Err e) a b)
        (few : (e ≡ Sink) ⊎ (e ≡ NoMemory) → (slots : Slots) → Represents pack flat slots old → new.store.lie ≡ None → count slots ≤ places) where
      halts_midst : (is : (e ≡ Sink) ⊎ (e ≡ NoMemory)) → HaltsTotals grew cut places pack flat q old new a b
      halts_midst is =
          let given = all.halted is in
          record {
            events = given.events;
            ends = given.ends;
            told = λ s.
                let nolie = halt_none reads old new (all.after is) s.nolie s.unfit in
                let part = given.told s in
                let shown = group_rows s.slots in
                partly_rows (labels_at cs q) (totalled_answer places cs q s.slots) shown given.events
                (by_count s.slots ∙ ap (λ (b : Bool). answered (if b then Some TooManyGroups else None) (A.Rows shown)) (few_groups (count s.slots) (few is s.slots s.is nolie)))
                (begun_rows (labels_at cs q) shown given.events (part.0, part.1 ∙ (λ i. Head (labelled i) ∷ row_events shown)));
          }

      pub totals_gave_up : Totals grew cut faults places pack flat q (Err e) old new a b
      totals_gave_up = record {
        ran = record { ok = tt; err = all.ran.err };
        seals = all.seals;
        whole = tt;
        emitted = tt;
        halted = elim all.never [
          | inl failed ↦ halts_read e (inl failed) (halts_none a b (all.before (inl failed)))
          | inr others ↦ elim others [
            | inl sink ↦ halts_by e (inl sink) (halts_midst (inl sink))
            | inr others ↦ elim others [
              | inl memory ↦ halts_by e (inr memory) (halts_midst (inr memory))
              | inr there ↦ halts_read e (inr there) (halts_none a b (all.before (inr (flat.region, there.place, there.is))))
            ]
          ]
        ];
        failed = λ is. all.before (inl (cc is));
        after = λ is. all.after (inr (cc is));
        sink = sink_any Grouped Outcome e (faults a) (faults b) all.cause;
        told = λ s. all.told s.slots s.is s.nolie;
      }
