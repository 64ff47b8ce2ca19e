-- A step of a SELECT of rows in flight that emits rows.
use Rattle.std.proofs.Common.{◌≡◌, ◌⊎◌, inl, inr, ◌<◌, ◌≤◌, ◌-◌, ◌==◌, ◌++◌, ℕ, true, false, List, [], refl, sym, ◌∙◌, ap, subst, arith}
use Rattle.std.specs.Prelude.{Some, None, Ok, Err}
use Rattle.std.proofs.lemmas.List.{append-nil, map-append}
use Rattle.ob_base.specs.declared.shown.Shown.{Shown}
use Rattle.ob_base.specs.Events.{Event, IsBegun, Leads, row_events}
use Rattle.ob_emit.specs.Emitting.{EndsAs, block_shown}
use Rattle.ob_emit.proofs.BlocksEmitted.{emitted_next}
use Rattle.ob_flat.specs.declared.fault.OpErr.{OpErr}
use Rattle.ob_flat.specs.declared.fault.OpErr.TheVariants.{Failed, Tampered, Sink, NoMemory}
use Rattle.ob_flat.specs.Emission.{SlotsToHalt}
use Rattle.ob_flat.specs.Flats.{Represents}
use Rattle.ob_inflight.specs.Answers.{EndsBy, More, Part}
use Rattle.ob_mean.specs.Prints.{Begun}
use Rattle.ob_row.specs.Slots.{Slots}
use Rattle.ob_select.specs.Selecting.{answer_events}
use Rattle.ob_small.specs.Selection as Smalls
use Rattle.ob_vault.specs.Calls.{Lasts, none}
use Rattle.ob_vault.specs.State.{World}
use Rattle.ob_vault.specs.Tied.{IsUnfit}
use Rattle.ob_vault.specs.Words.{IsHonest}
use Rattle.ob_stages.specs.declared.rows.Stage.TheVariants.{Emit}
use Rattle.ob_stages.specs.RowsStates.{RowsAt, after_emit, is_over, is_printing, passes_pad, result_in, small, table_blocks}
use Rattle.ob_stages.specs.RowsHolds.{Halts, HasBegun, Holds, left_of}
use Rattle.ob_stages.specs.RowsSteps.{ShowsBehind, StopsHead, WalksInstead}
use Rattle.ob_stages.proofs.RowsGoing.{behind_at, stepped}
use Rattle.ob_stages.proofs.RowsShown.{emit_at, emit_read, events_next, events_passed, held_now, holds_emitted, leads_both, leads_none, part_begun, shape_next, shown}
use Rattle.ob_stages.proofs.RowsWay.{KnowsWay, begun_more, way_of}
use Rattle.ob_store.proofs.Steps.{none_before}
use Rattle.ob_flat.specs.Words.{TamperedAt}

-- what an emitter took of a block that gave up, and how its output ends
record EndsPart {E Source : Type 0} (to : E → E → List Event → Type 0) (grew : E → E → List Event → Type 0) (all : Source → List (List Shown)) (mid out : E) : Type 0 where
  part : List Event
  leads : Leads grew to mid out part
  told : (s : Source) → (rest : List Event) × (part ++ rest ≡ row_events (all s))

begun_part : {E Source : Type 0} (grew : E → E → List Event → Type 0) (all : Source → List (List Shown)) (mid out : E) → IsBegun grew [] all mid out → EndsPart grew grew all mid out
begun_part grew all mid out is = record {
  part = row_events is.rows;
  leads = is.leads;
  told = λ s. let r = is.told s in (row_events r.0, sym (map-append _ is.rows r.0) ∙ ap row_events r.1);
}

ends_part : {E Source : Type 0} (grew cut : E → E → List Event → Type 0) (e : OpErr) (all : Source → List (List Shown)) (mid out : E) → EndsAs grew cut e [] all mid out → EndsPart (EndsBy grew cut e) grew all mid out
ends_part grew cut Failed all mid out is = begun_part grew all mid out is
ends_part grew cut (Tampered q p) all mid out is = begun_part grew all mid out is
ends_part grew cut Sink all mid out is = record { part = is.events; leads = is.ends; told = is.told }
ends_part grew cut NoMemory all mid out is = record { part = is.events; leads = is.ends; told = is.told }

-- where the emitter gave up its output ends within
cut_by : {E : Type 0} (grew cut : E → E → List Event → Type 0) (e : OpErr) (a b : E) (l : List Event) → (e ≡ Sink) ⊎ (e ≡ NoMemory) → Leads grew cut a b l → Leads grew (EndsBy grew cut e) a b l
cut_by grew cut e a b l either is = elim either [
  | inl sink ↦ subst (λ (x : OpErr). Leads grew (EndsBy grew cut x) a b l) (sym sink) is
  | inr memory ↦ subst (λ (x : OpErr). Leads grew (EndsBy grew cut x) a b l) (sym memory) is
]

-- no emitter was asked
grew_by : {E : Type 0} (grew cut : E → E → List Event → Type 0) (e : OpErr) (a b : E) → (e ≡ Sink → ⊥) → (e ≡ NoMemory → ⊥) → b ≡ a → Leads grew (EndsBy grew cut e) a b []
grew_by grew cut Failed a b sink memory same = leads_none grew a b same
grew_by grew cut (Tampered q p) a b sink memory same = leads_none grew a b same
grew_by grew cut Sink a b sink memory same = absurd (sink refl)
grew_by grew cut NoMemory a b sink memory same = absurd (memory refl)

module _ {E : Type 0} (grew cut : E → E → List Event → Type 0) (faults : E → ℕ) (g : RowsAt) (kept : List (List ℕ)) (x own : ℕ) (old new : World) (out_old out_new : E) (same : g.stage ≡ Emit x) (region : g.region ≡ Some own) where
  emit_going : is_over g.stage ≡ false
  emit_going = ap is_over same

  emit_prints : is_printing g.stage ≡ true
  emit_prints = ap is_printing same

  -- ---- a block went well
  pub walked_more : (n : ℕ) (events : List Event) → passes_pad g ≡ true → WalksInstead g.q.public.pack (result_in g.q g.k own) x (Ok n) old new out_old out_new → Holds g kept events old
      → More grew true (Holds (stepped g (after_emit g x) g.region g.k n (g.booked - 1) g.seen) kept) events new out_old out_new
  walked_more n events passed walked is = record {
    more = [];
    leads = leads_none grew out_old out_new walked.quiet;
    quiet = λ unprinted. absurd (cc unprinted);
    holds = holds_emitted grew cut faults g kept events x own old same region is n [] (shown grew cut faults g kept events x own old same region is).rows new walked.walks.ran.ok.lasts (λ p. walked.none)
        (events_passed grew cut faults g kept events x own old same region is passed) (λ unpassed. absurd (cc (passed, unpassed)));
  }

  pub shown_more : (n : ℕ) (events : List Event) → passes_pad g ≡ false → ShowsBehind grew cut faults g.q.public.pack g (result_in g.q g.k own) x (Ok n) old new out_old out_new → Holds g kept events old
      → More grew true (Holds (stepped g (after_emit g x) g.region g.k n (g.booked - 1) g.seen) kept) events new out_old out_new
  shown_more n events unpassed shows is =
      let block = shows.block in
      let rows = block.emitted.rows in
      let before = shown grew cut faults g kept events x own old same region is in
      record {
        more = left_of (x == 0) g.q ++ row_events rows;
        leads = leads_both grew grew out_old shows.mid out_new (left_of (x == 0) g.q) (row_events rows) shows.begun block.emitted.leads;
        quiet = λ unprinted. absurd (cc unprinted);
        holds = holds_emitted grew cut faults g kept events x own old same region is n (left_of (x == 0) g.q ++ row_events rows) (before.rows ++ rows) new block.ran.ok.lasts (λ passed. absurd (cc (passed, unpassed)))
            (events_next grew cut faults g kept events x own old same region is rows unpassed)
            (λ p. emitted_next g.q.public.pack (result_in g.q g.k own) g.q.cols x g.shown before.rows old ((emit_read grew cut faults g kept events x own old same region is).emitted unpassed) n new shows.mid out_new
            (below_of events is) block);
      }
    where
      below_of : (events : List Event) → Holds g kept events old → x < Smalls.results (small g.q g.k)
      below_of events is = (emit_at grew cut faults g kept events x own old same region is).1

  -- ---- it gave up
  counted_by : (events : List Event) → Holds g kept events old → table_blocks g.q ≤ g.asked
  counted_by events is =
      let b = behind_at g is.placed (Emit x) refl (emit_at grew cut faults g kept events x own old same region is) in omega (arith, b.counted.asked, b.enough)

  halts_loud : (events part : List Event) (e : OpErr) → Holds g kept events old → ((slots : Slots) → Represents g.q.public.pack g.q.flat slots old → IsHonest old old → IsUnfit new → Begun (events ++ part) (answer_events g.q slots))
      → ((slots : Slots) → Represents g.q.public.pack g.q.flat slots old → IsHonest old new → (e ≡ Sink) ⊎ (e ≡ NoMemory)) → Halts g events part e old new
  halts_loud events part e is begun honest = record {
    told = λ slots held was unfit.
        record {
          held = (way_of g kept events old is emit_going slots held was).held;
          begun = begun_more (events ++ part) (answer_events g.q slots) _ (begun slots held was unfit);
        };
    honest = honest;
    counted = λ either. counted_by events is;
    memory = λ memory. record { place = inr (inr (emit_prints, is.placed.unfailed emit_going)) };
  }

  -- an error that isn't the store's
  not_failed : (e : OpErr) → (e ≡ Failed → ⊥) → (e ≡ Failed) ⊎ (e ≡ Sink) ⊎ (e ≡ NoMemory) → (e ≡ Sink) ⊎ (e ≡ NoMemory)
  not_failed e never is = elim is [
    | inl failed ↦ absurd (never failed)
    | inr other ↦ elim other [ inl sink ↦ inl sink | inr memory ↦ inr memory ]
  ]

  before_honest : (slots : Slots) → Represents g.q.public.pack g.q.flat slots old → IsHonest old new → Lasts none old new → IsHonest old old
  before_honest slots held honest lasts = record { tells = honest.tells; nolie = none_before _ _ lasts.later honest.nolie }

  pub walked_part : (e : OpErr) (events : List Event) → passes_pad g ≡ true → (e ≡ Failed → ⊥) → WalksInstead g.q.public.pack (result_in g.q g.k own) x (Err e) old new out_old out_new → Holds g kept events old
      → Part grew (EndsBy grew cut e) true (λ events part. Halts g events part e old new) events out_old out_new
  walked_part e events passed never walked is =
      let refused = walked.walks.never in
      record {
        part = [];
        leads = λ printing. grew_by grew cut e out_old out_new (no_sink e refused) (no_memory e refused) walked.quiet;
        quiet = λ unprinted. absurd (cc unprinted);
        halts = halts_loud events [] e is
            (λ slots held was unfit. subst (λ (l : List Event). Begun l (answer_events g.q slots)) (sym (append-nil events)) (way_of g kept events old is emit_going slots held was).begun)
            (λ slots held honest. absurd (never (walked.walks.told _ (held_now grew cut faults g kept events x own old same region is slots held (before_honest slots held honest walked.walks.ran.err.lasts)) honest.nolie)));
      }
    where
      no_sink : (e : OpErr) → (e ≡ Failed) ⊎ TamperedAt g.q.public.pack (result_in g.q g.k own) x e new → e ≡ Sink → ⊥
      no_sink e refused sink = elim refused [ inl failed ↦ absurd (cc (failed, sink)) | inr there ↦ let is = there.is in absurd (cc (is, sink)) ]

      no_memory : (e : OpErr) → (e ≡ Failed) ⊎ TamperedAt g.q.public.pack (result_in g.q g.k own) x e new → e ≡ NoMemory → ⊥
      no_memory e refused memory = elim refused [ inl failed ↦ absurd (cc (failed, memory)) | inr there ↦ let is = there.is in absurd (cc (is, memory)) ]

  pub shown_part : (e : OpErr) (events : List Event) → passes_pad g ≡ false → (e ≡ Failed → ⊥) → ShowsBehind grew cut faults g.q.public.pack g (result_in g.q g.k own) x (Err e) old new out_old out_new → Holds g kept events old
      → Part grew (EndsBy grew cut e) true (λ events part. Halts g events part e old new) events out_old out_new
  shown_part e events unpassed never shows is =
      let ends = ends_part grew cut e (λ (s : SlotsToHalt g.q.public.pack (result_in g.q g.k own) old new). block_shown g.q.public.pack (result_in g.q g.k own) g.q.cols x s.slots) shows.mid out_new shows.block.halted in
      record {
        part = left_of (x == 0) g.q ++ ends.part;
        leads = λ printing. leads_both grew (EndsBy grew cut e) out_old shows.mid out_new (left_of (x == 0) g.q) ends.part shows.begun ends.leads;
        quiet = λ unprinted. absurd (cc unprinted);
        halts = halts_loud events (left_of (x == 0) g.q ++ ends.part) e is
            (λ slots held was unfit. part_begun grew cut faults g kept events x own old same region is new ends.part slots held was unfit unpassed ends.told)
            (λ slots held honest. not_failed e never (shows.block.told _ (held_now grew cut faults g kept events x own old same region is slots held (before_honest slots held honest shows.block.ran.err.lasts)) honest.nolie));
      }

  pub head_part : (e : OpErr) (events : List Event) → passes_pad g ≡ false → StopsHead grew cut faults g x (Err e) old new out_old out_new → Holds g kept events old
      → Part grew (EndsBy grew cut e) true (λ events part. Halts g events part e old new) events out_old out_new
  head_part e events unpassed stops is = record {
    part = left_of (x == 0) g.q;
    leads = λ printing. cut_by grew cut e out_old out_new (left_of (x == 0) g.q) stops.either stops.leads;
    quiet = λ unprinted. absurd (cc unprinted);
    halts = halts_loud events (left_of (x == 0) g.q) e is
        (λ slots held was unfit.
        let begun = part_begun grew cut faults g kept events x own old same region is new [] slots held was unfit unpassed (λ s. (row_events (block_shown g.q.public.pack (result_in g.q g.k own) g.q.cols x s.slots), refl)) in
        subst (λ (l : List Event). Begun (events ++ l) (answer_events g.q slots)) (append-nil (left_of (x == 0) g.q)) begun)
        (λ slots held honest. stops.either);
  }

  -- ---- the store failed it
  pub failed_shape : (events : List Event) → passes_pad g ≡ false → (shows : ShowsBehind grew cut faults g.q.public.pack g (result_in g.q g.k own) x (Err Failed) old new out_old out_new) → Holds g kept events old
      → HasBegun g.q (events ++ (left_of (x == 0) g.q ++ row_events shows.block.halted.rows))
  failed_shape events unpassed shows is = shape_next grew cut faults g kept events x own old same region is shows.block.halted.rows unpassed

  pub failed_way : (events : List Event) → passes_pad g ≡ false → (shows : ShowsBehind grew cut faults g.q.public.pack g (result_in g.q g.k own) x (Err Failed) old new out_old out_new) → Holds g kept events old
      → (slots : Slots) → Represents g.q.public.pack g.q.flat slots old → IsHonest old old → new.store.lie ≡ None → KnowsWay g (events ++ (left_of (x == 0) g.q ++ row_events shows.block.halted.rows)) slots
  unfolding begun_part
  failed_way events unpassed shows is slots held was nolie =
      let unfit : IsUnfit new = record { unfit = λ lie told. absurd (cc (told, nolie)) } in
      let ends = begun_part grew (λ (s : SlotsToHalt g.q.public.pack (result_in g.q g.k own) old new). block_shown g.q.public.pack (result_in g.q g.k own) g.q.cols x s.slots) shows.mid out_new shows.block.halted in
      record {
        held = (way_of g kept events old is emit_going slots held was).held;
        begun = part_begun grew cut faults g kept events x own old same region is new (row_events shows.block.halted.rows) slots held was unfit unpassed ends.told;
      }

  pub failed_leads : (shows : ShowsBehind grew cut faults g.q.public.pack g (result_in g.q g.k own) x (Err Failed) old new out_old out_new)
      → Leads grew grew out_old out_new (left_of (x == 0) g.q ++ row_events shows.block.halted.rows)
  failed_leads shows = leads_both grew grew out_old shows.mid out_new (left_of (x == 0) g.q) (row_events shows.block.halted.rows) shows.begun shows.block.halted.leads
