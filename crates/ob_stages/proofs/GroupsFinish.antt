-- The end of a SELECT with GROUP BY in flight.
use Rattle.std.proofs.Common.{◌≡◌, ◌++◌, ◌≤◌, ◌<◌, ◌+◌, ℕ, Bool, true, false, List, [], ◌∷◌, length, filter, None, Ok, Err, Result, sym, subst, arith}
use Rattle.ob_base.specs.declared.emit.EmitErr.{EmitErr}
use Rattle.ob_base.specs.declared.refusal.Refusal.TheVariants.{StoreFault, TooManyGroups}
use Rattle.ob_base.specs.Events.{Event, Close, row_events, Leads, IsEmitted, IsHalted}
use Rattle.ob_row.specs.Rows.{Row}
use Rattle.ob_row.specs.Slots.{rows as rows_in}
use Rattle.ob_row.specs.Spelling.{kind_at}
use Rattle.ob_row.specs.Totals.{grouped}
use Rattle.ob_row.specs.Truth.{is_true}
use Rattle.ob_vault.specs.State.{World}
use Rattle.ob_flat.specs.declared.fault.OpErr.{OpErr}
use Rattle.ob_flat.specs.Emission.{SlotsToEnd}
use Rattle.ob_group.specs.Labels.{header}
use Rattle.ob_group.specs.Passes.{EmitsGroups}
use Rattle.ob_group.proofs.Gathering.{gathered_emitted, gathered_halted}
use Rattle.ob_mean.specs.Conditions.{where_at}
use Rattle.ob_verdict.specs.declared.outcome.Outcome.{Outcome}
use Rattle.ob_verdict.specs.declared.outcome.Outcome.TheVariants.{Rows, Refused}
use Rattle.ob_inflight.specs.Answers.{Finishes}
use Rattle.ob_stages.specs.declared.reading.Reading.{Reading}
use Rattle.ob_stages.specs.declared.groups.GroupsFlight.{GroupsFlight}
use Rattle.ob_stages.specs.Reading.{HaltsTotals, is_over}
use Rattle.ob_stages.specs.Groups.{IsGrouping, items_of}
use Rattle.ob_stages.proofs.GroupsEnds.{all, ended_by, fits, gathered, groups_failed, groups_many, groups_whole, halts_midst, halts_number}
use Rattle.ob_stages.proofs.ReadingEnds.{answered_by, finishes_ok}
use Rattle.ob_stages.proofs.TotalsLemmas.{leads_join, leads_none}

-- after its answer
abbrev pub groups_then : GroupsFlight → Reading → GroupsFlight
groups_then f r = record { reading = r; key = f.key; items = f.items; buckets = f.buckets; n = f.n }

module _ {E : Type 0} (grew cut : E → E → List Event → Type 0) (faults : E → ℕ) (f : GroupsFlight) (kept : List (List ℕ)) (over : is_over f.reading ≡ true) (going : f.reading.outcome ≡ None) where
  abbrev Halts : List Event → List Event → OpErr → World → World → Type 0
  Halts events part e old new = HaltsTotals f.reading events part e old new

  abbrev Done : E → E → Outcome → Reading → Type 0
  Done a b outcome after = Finishes {T = Outcome} grew cut (IsGrouping f kept) (IsGrouping (groups_then f after) kept) Halts (Ok outcome) a b

  abbrev Gave : E → E → EmitErr → Type 0
  Gave a b e = Finishes {T = Outcome} grew cut (IsGrouping f kept) (IsGrouping f kept) Halts (Err e) a b

  done_as : (a b : E) (outcome o : Outcome) (after : Reading) → outcome ≡ o → after ≡ answered_by o f.reading → Done a b o (answered_by o f.reading) → Done a b outcome after
  done_as a b outcome o after is on done = subst (λ (x : Outcome). Done a b x after) (sym is) (subst (λ (r : Reading). Done a b o r) (sym on) done)

  silent_end : (a : E) (o : Outcome) → ((events : List Event) (w : World) → IsGrouping f kept events w → IsGrouping (ended_by o f) kept (events ++ []) w) → Done a a o (answered_by o f.reading)
  silent_end a o on = finishes_ok grew cut (IsGrouping f kept) (IsGrouping (ended_by o f) kept) Halts a a o [] (leads_none grew a) on

  pub finishes_failed : (a : E) (outcome : Outcome) (after : Reading) → outcome ≡ Refused StoreFault → after ≡ answered_by (Refused StoreFault) f.reading → f.reading.failed ≡ true → Done a a outcome after
  finishes_failed a outcome after is on failed =
      done_as a a outcome (Refused StoreFault) after is on (silent_end a (Refused StoreFault) (λ events w is. groups_failed f kept events w is over going failed))

  module _ (whole : f.reading.failed ≡ false) where
    pub finishes_many : (a : E) (outcome : Outcome) (after : Reading) → outcome ≡ Refused TooManyGroups → after ≡ answered_by (Refused TooManyGroups) f.reading → length kept < f.n → Done a a outcome after
    finishes_many a outcome after is on more =
        done_as a a outcome (Refused TooManyGroups) after is on (silent_end a (Refused TooManyGroups) (λ events w is. groups_many f kept events w is over going whole more))

    module _ (most : f.n ≤ length kept) (a b : E) where
      abbrev heads : List Event
      heads = header f.reading.flat.schema f.key (items_of f)

      abbrev Given : Result (Unit {0}) EmitErr → Type 0
      Given result = EmitsGroups grew cut faults (kind_at f.reading.flat.schema f.key) (items_of f) f.n kept heads result a b

      number : (k n : ℕ) → k ≡ 0 + n → k ≡ n
      number k n is = omega (arith, is)

      module _ (events : List Event) (w : World) (is : IsGrouping f kept events w) where
        abbrev r : Reading
        r = f.reading

        abbrev test : Row → Bool
        test = is_true (where_at r.select.now.cond r.flat.schema)

        emitted : Given (Ok tt) → IsEmitted grew heads (λ (q : SlotsToEnd r.public.now.pack r.flat w w). grouped f.key (items_of f) (filter test (rows_in q.slots))) 0 f.n a b
        emitted given =
            gathered_emitted r.public.now.pack r.flat test f.key (items_of f) r.asked f.n kept f.buckets w (all f kept events w is over going whole) (gathered f kept events w is over going whole)
            (fits f kept events w is over going whole).key grew cut faults a b tt given

        halted : (e : EmitErr) → Given (Err e) → IsHalted grew cut (λ (q : SlotsToEnd r.public.now.pack r.flat w w). heads ++ row_events (grouped f.key (items_of f) (filter test (rows_in q.slots)))) a b
        halted e given =
            gathered_halted r.public.now.pack r.flat test f.key (items_of f) r.asked f.n kept f.buckets w (all f kept events w is over going whole) (gathered f kept events w is over going whole)
            (fits f kept events w is over going whole).key {T = Unit {0}} grew cut faults a b e given

      pub finishes_groups : (c : E) (outcome : Outcome) (after : Reading) → outcome ≡ Rows f.n → after ≡ answered_by (Rows f.n) f.reading → Given (Ok tt) → Leads grew grew b c (Close f.n ∷ []) → Done a c outcome after
      finishes_groups c outcome after is on given last =
          done_as a c outcome (Rows f.n) after is on (record {
            ok = λ events w was.
                let e = emitted events w was given in
                record {
                  more = heads ++ row_events e.rows ++ Close f.n ∷ [];
                  leads = leads_join grew grew a b c (heads ++ row_events e.rows) (Close f.n ∷ []) e.leads last;
                  quiet = λ off. absurd (cc off);
                  holds = groups_whole f kept events w was over going whole most e.rows (number f.n (length e.rows) e.count) e.told;
                };
            err = tt;
          })

      pub finishes_number : (c : E) (e : EmitErr) → Given (Ok tt) → Leads grew cut b c (Close f.n ∷ []) → Gave a c e
      finishes_number c e given last = record {
        ok = tt;
        err = λ events w was.
            let g = emitted events w was given in
            record {
              part = heads ++ row_events g.rows ++ Close f.n ∷ [];
              leads = λ _. leads_join grew cut a b c (heads ++ row_events g.rows) (Close f.n ∷ []) g.leads last;
              quiet = λ off. absurd (cc off);
              halts = halts_number f kept events w was over going whole most g.rows (number f.n (length g.rows) g.count) g.told e;
            };
      }

      pub finishes_midst : (e : EmitErr) → Given (Err e) → Gave a b e
      finishes_midst e given = record {
        ok = tt;
        err = λ events w was.
            let h = halted events w was e given in
            record {
              part = h.events;
              leads = λ _. h.ends;
              quiet = λ off. absurd (cc off);
              halts = halts_midst f kept events w was over going whole most e h.events h.told;
            };
      }
