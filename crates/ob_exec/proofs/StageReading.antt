-- A SELECT of totals in flight.
use Rattle.ob_exec.proofs.Words.{Answer, answer_labels, ap, append-nil, arith, Bool, by_fault, Columns, count_end, Cut, cut_at, Draws, early_held, Emits, Emitted, End, Event, false, Heading, heading_found, headings_of, held_at, Index, inl, inr, is_access, is_cut, is_fault, is_of_access, IsSome, IsUnfit, Lawful, length, length-count_part, List, None, Ok, OpErr, Option, option_map_or, Outcome, outcome_end, Partly, partly_none, Prints, Public, refl, Refusal, refusal_now, RefusedEarly, Seen, skeleton, Some, Static, Stmt, subst, sym, Tables, true, Unfinished, verdict, Whole, whole_script, World, ℕ, [], ◌++◌, ◌+◌, ◌||◌, ◌∙◌, ◌∷◌, ◌≡◌, ◌≤◌, ◌⊎◌}
use Rattle.std.proofs.Common.{◌==◌}
use Rattle.std.proofs.lemmas.Bool.{eq-eqb}
use Rattle.std.proofs.lemmas.List.{drop_all}
use Rattle.ob_base.specs.declared.refusal.Refusal.TheVariants.{StoreFault}
use Rattle.ob_flat.specs.Emission.{SlotsToEnd}
use Rattle.ob_flat.specs.Flats.{Represents}
use Rattle.ob_flat.specs.declared.fault.OpErr.TheVariants as OpErrs
use Rattle.ob_flat.specs.declared.flat.Flat.{Flat}
use Rattle.ob_mean.specs.Lawful.{CutUpTo, EndsUncounted}
use Rattle.ob_mean.specs.Verdict.{ended, seen as seen_by}
use Rattle.ob_names.specs.Names.{columns_at}
use Rattle.ob_tables.proofs.HeldLemmas.{Beside}
use Rattle.ob_tables.proofs.ToldLemmas.{cut_seen, started_seen}
use Rattle.ob_verdict.specs.Outcomes.{outcome_of}
use Rattle.ob_verdict.specs.declared.outcome.Outcome.TheVariants.{Refused}
use Rattle.ob_stages.specs.declared.reading.Reading.{Reading}
use Rattle.ob_stages.specs.Reading.{Answered, EndsAs, EndsLater, HaltsTotals, IsReading, MayRead, end_now, is_over, places_of, public_of, reading_progress, stmt_of}
use Rattle.ob_stages.specs.Totalling.{IsTotalled, labels_at, totalled_answer}
use Rattle.ob_exec.specs.InFlight as F
use Rattle.ob_exec.proofs.FlightStage.{HasTable, HoldNow, IsSet, LacksHere, closed_of, more_asked, shown_of, whole_of}
use Rattle.ob_exec.proofs.TotalsServed.{unfinished_none, verdict_is}

-- ---- how it ends
pub cut_now : (failed : Bool) (n : ℕ) → is_cut (end_now failed n) ≡ failed
cut_now true n = refl
cut_now false n = refl

ended_plain : (p : Public) (m : ℕ) (stmt : Stmt) (end : End) → refusal_now p m stmt ≡ None → is_access p (skeleton stmt) ≡ false
    → (end ≡ Static → ⊥) → EndsUncounted p stmt end → CutUpTo (length (whole_script p (skeleton stmt) (ended end))) end
    → Lawful p m stmt (ended end)
ended_plain p m stmt end now plain going holds few = record {
  static = ((λ is. absurd (going is)), (λ some. absurd (let is = subst (λ (o : Option Refusal). IsSome o) now some in cc is)));
  holds = holds;
  leaf = λ keyed. absurd (cc (keyed, plain));
  cut = few;
}

totalled_ends : (o : Outcome) (n : ℕ) → IsTotalled o → Whole ≡ outcome_end o n
totalled_ends o n (inl (k, is)) = sym (ap (λ (x : Outcome). outcome_end x n) is)
totalled_ends o n (inr is) = sym (ap (λ (x : Outcome). outcome_end x n) is)

totalled_well : (o : Outcome) → IsTotalled o → is_fault o ≡ false
totalled_well o (inl (k, is)) = ap is_fault is
totalled_well o (inr is) = ap is_fault is

pub head_is : (a b : List ℕ) → a ∷ [] ≡ b ∷ [] → a ≡ b
head_is a b is = cc is

pub of_fault : (b : Bool) (x y : Type 0) → b ≡ true → x → by_fault b x y
of_fault true x y is one = one
of_fault false x y is one = absurd (cc is)

pub not_fault : (b : Bool) (x y : Type 0) → b ≡ false → y → by_fault b x y
not_fault true x y is one = absurd (cc is)
not_fault false x y is one = one

module _ (r : Reading) (m : ℕ) (events : List Event) (w : World) (is : IsReading r events w) (set : IsSet m (reading_progress r)) where
  abbrev p : Public
  p = public_of r

  abbrev stmt : Stmt
  stmt = stmt_of r

  now : refusal_now p m stmt ≡ None
  now = sym set.refusal

  table : HasTable (reading_progress r)
  table = set.table refl

  script_long : (seen : Seen) → length (whole_script p (skeleton stmt) seen) ≡ r.blocks
  script_long seen = ap length (is.boarded.script seen) ∙ length-count_part r.flat.region r.blocks

  lawful_cut : Lawful p m stmt (ended (Cut r.asked))
  lawful_cut =
      ended_plain p m stmt (Cut r.asked) now table.plain (λ static. cc static) tt
      (let n = script_long (ended (Cut r.asked)) in let within = is.boarded.within in omega (arith, n, within))

  lawful_whole : Lawful p m stmt (ended Whole)
  lawful_whole = ended_plain p m stmt Whole now table.plain (λ static. cc static) (inl refl) tt

  stands_by : (failed : Bool) (o : Option Outcome) → r.failed ≡ failed → r.outcome ≡ o → Answered o r events w
      → F.IsFlown p m r.asked stmt (ended (end_now failed r.asked)) (closed_of o events)
  stands_by false None failed outcome answered = lawful_cut
  stands_by true None failed outcome answered = (refl, is.some failed, lawful_cut)
  stands_by false (Some o) failed outcome answered =
      let ends : IsTotalled o = subst (λ (b : Bool). EndsAs b o) failed answered.ends in
      record {
        early = subst (λ (x : Option Refusal). RefusedEarly x (Ok o) (ended Whole)) (sym now) (λ static. cc static);
        lawful = lawful_whole;
        ends = totalled_ends o r.asked ends;
        asks = λ fault. absurd (let well = totalled_well o ends in cc (fault, well));
      }
  stands_by true (Some o) failed outcome answered =
      let ends : o ≡ Refused StoreFault = subst (λ (b : Bool). EndsAs b o) failed answered.ends in
      record {
        early = subst (λ (x : Option Refusal). RefusedEarly x (Ok o) (ended (Cut r.asked))) (sym now) (λ static. cc static);
        lawful = lawful_cut;
        ends = sym (ap (λ (x : Outcome). outcome_end x r.asked) ends);
        asks = λ fault. is.some failed;
      }

  pub reading_stands : F.IsFlown p m r.asked stmt (ended (end_now r.failed r.asked)) (closed_of r.outcome events)
  reading_stands = stands_by r.failed r.outcome refl refl is.answered

  -- its table's columns
  named : r.select.now.table ≡ table.name
  named = head_is r.select.now.table table.name table.reads

  schema_is : columns_at r.select.now.table (headings_of p.tables) ≡ r.flat.schema
  schema_is =
      ap (λ (o : Option Heading). option_map_or (λ (h : Heading). h.schema) o [])
      (heading_found r.select.now.table p.tables table.place table.table table.names table.here.get (table.here.named ∙ sym named))
      ∙ sym (ap (λ (f : Flat). f.schema) table.is)

  labels_are : answer_labels stmt p ≡ labels_at r.flat.schema r.select.now
  labels_are = ap (λ (c : Columns). labels_at c r.select.now) schema_is

  pub reading_emits : (o : Outcome) → r.outcome ≡ Some o → Emits stmt (answer_labels stmt p) o events
  reading_emits o outcome =
      let answered : Answered (Some o) r events w = subst (λ (x : Option Outcome). Answered x r events w) outcome is.answered in
      subst (λ (labels : List (List ℕ)). Emits stmt labels o events) (sym labels_are) answered.emits

  module _ (indexes : List Index) (tables : Tables) (held : HoldNow p indexes tables w) where
    abbrev beside : Beside p.pack r.select.now.table table.table tables w
    beside =
        held_at p.pack indexes r.select.now.table p.tables tables table.place table.table w table.names held.held table.here.get (table.here.named ∙ sym named) table.shape

    abbrev slots : SlotsToEnd r.public.now.pack r.flat w w
    slots = record {
      slots = beside.table.held.slots;
      is = subst (λ (f : Flat). Represents r.public.now.pack f beside.table.held.slots w) (sym table.is) beside.represents;
      nolie = held.nolie;
    }

    verdict_at : verdict p m tables stmt ≡ totalled_answer (places_of r) r.flat.schema r.select.now beside.table.held.slots
    verdict_at =
        verdict_is p m tables r.select.now beside.table (early_held p m stmt tables indexes w None held.held now) beside.found
        ∙ (λ j. totalled_answer (places_of r) ((ap (λ (h : Heading). h.schema) beside.heading ∙ sym (ap (λ (f : Flat). f.schema) table.is)) j) r.select.now beside.table.held.slots)

    whole_is : (d : Draws) → seen_by d p m tables stmt ≡ ended Whole
    whole_is d = started_seen p m stmt now tables d indexes w table.plain held.held

    cut_is : (failed : Bool) (d : Draws) (n : ℕ) → ended (Cut n) ≡ cut_at failed n p (skeleton stmt) (seen_by d p m tables stmt)
    cut_is failed d n = cut_seen failed p (skeleton stmt) n n (seen_by d p m tables stmt) (whole_is d) refl

    told_by : (failed : Bool) (o : Option Outcome) (d : Draws) → r.failed ≡ failed → Answered o r events w
        → F.IsMeant d p m r.asked r.asked tables stmt (ended (end_now failed r.asked)) (closed_of o events)
    told_by false None d failed answered = ap (λ (x : Seen). record x { end = Whole }) (cut_is false d r.asked)
    told_by true None d failed answered = cut_is true d r.asked
    told_by false (Some o) d failed answered =
        let ends : IsTotalled o = subst (λ (b : Bool). EndsAs b o) failed answered.ends in
        let told = answered.told failed slots in
        not_fault (is_fault o) _ _ (totalled_well o ends) (told.answer ∙ ap (outcome_of stmt) (sym verdict_at), sym (whole_is d))
    told_by true (Some o) d failed answered =
        let ends : o ≡ Refused StoreFault = subst (λ (b : Bool). EndsAs b o) failed answered.ends in
        of_fault (is_fault o) _ _ (ap is_fault ends) (cut_is true d r.asked)

    pub reading_told : (d : Draws) → F.IsMeant d p m r.asked r.asked tables stmt (ended (end_now r.failed r.asked)) (closed_of r.outcome events)
    reading_told d = told_by r.failed r.outcome d refl is.answered

    -- what was emitted
    prints_at : (o : Outcome) → r.failed ≡ false → Answered (Some o) r events w → Prints (answer_labels stmt p) (verdict p m tables stmt) events
    prints_at o failed answered =
        let told = answered.told failed slots in
        subst (λ (labels : List (List ℕ)). Prints labels (verdict p m tables stmt) events) (sym labels_are)
        (subst (λ (a : Answer). Prints (labels_at r.flat.schema r.select.now) a events) (sym verdict_at) told.prints)

    silent_at : (o : Outcome) → r.failed ≡ true → Answered (Some o) r events w → events ≡ []
    silent_at o failed answered =
        let ends : o ≡ Refused StoreFault = subst (λ (b : Bool). EndsAs b o) failed answered.ends in
        subst (λ (x : Outcome). Emits stmt (labels_at r.flat.schema r.select.now) x events) ends answered.emits

    emitted_by : (failed : Bool) (o : Outcome) → r.failed ≡ failed → Answered (Some o) r events w → Emitted stmt p m tables o events
    emitted_by false o failed answered =
        let ends : IsTotalled o = subst (λ (b : Bool). EndsAs b o) failed answered.ends in
        not_fault (is_fault o) _ _ (totalled_well o ends) (prints_at o failed answered)
    emitted_by true o failed answered =
        let ends : o ≡ Refused StoreFault = subst (λ (b : Bool). EndsAs b o) failed answered.ends in
        of_fault (is_fault o) _ _ (ap is_fault ends)
        (subst (λ (es : List Event). Unfinished (answer_labels stmt p) (verdict p m tables stmt) es) (sym (silent_at o failed answered)) (unfinished_none _ _))

    pub reading_emitted : (o : Outcome) → r.outcome ≡ Some o → Emitted stmt p m tables o events
    reading_emitted o outcome = emitted_by r.failed o refl (subst (λ (x : Option Outcome). Answered x r events w) outcome is.answered)

    partly_by : (failed : Bool) (o : Option Outcome) → r.failed ≡ failed → Answered o r events w → Partly (answer_labels stmt p) (verdict p m tables stmt) events
    partly_by failed None is answered = subst (λ (es : List Event). Partly (answer_labels stmt p) (verdict p m tables stmt) es) (sym answered) (partly_none _ _)
    partly_by false (Some o) failed answered = record { whole = events; prints = prints_at o failed answered; begun = ([], append-nil events) }
    partly_by true (Some o) failed answered = subst (λ (es : List Event). Partly (answer_labels stmt p) (verdict p m tables stmt) es) (sym (silent_at o failed answered)) (partly_none _ _)

    pub reading_partly : Partly (answer_labels stmt p) (verdict p m tables stmt) events
    reading_partly = partly_by r.failed r.outcome refl is.answered

    -- its meaning may turn out to be served
    shown_by : (failed : Bool) (d : Draws) → shown_of failed d m tables (reading_progress r) ≡ ended (end_now failed r.asked)
    shown_by false d = whole_is d
    shown_by true d = sym (cut_is true d r.asked)

    ends_later : (failed : Bool) (n : ℕ) → EndsLater failed n (end_now failed n)
    ends_later true n = refl
    ends_later false n = inl refl

    pub reading_means : (d : Draws) → MayRead r (record { skeleton = skeleton stmt; seen = shown_of r.failed d m tables (reading_progress r) })
    reading_means d = record {
      boarded = is.boarded;
      skeleton = refl;
      plain = shown_by r.failed d ∙ ap (λ (x : Seen). ended x.end) (sym (shown_by r.failed d));
      ends = subst (λ (x : Seen). EndsLater r.failed r.asked x.end) (sym (shown_by r.failed d)) (ends_later r.failed r.asked);
    }

    -- ---- where it gave up
    module _ (part : List Event) (e : OpErr) (v : World) (halts : HaltsTotals r events part e w v) where
      pub reading_halted : IsUnfit v → Partly (answer_labels stmt p) (verdict p m tables stmt) (events ++ part)
      reading_halted unfit =
          subst (λ (labels : List (List ℕ)). Partly labels (verdict p m tables stmt) (events ++ part)) (sym labels_are)
          (subst (λ (a : Answer). Partly (labels_at r.flat.schema r.select.now) a (events ++ part)) (sym verdict_at)
          (halts.told (record { slots = slots.slots; is = slots.is; nolie = held.nolie; unfit = unfit })))

      pub reading_honest : (q x : ℕ) → e ≡ OpErrs.Tampered q x → v.store.lie ≡ None → ⊥
      reading_honest q x tampered nolie = elim (halts.honest (record { slots = slots.slots; is = slots.is; nolie = nolie })) [
        | inl sink ↦ cc (tampered, sink)
        | inr memory ↦ cc (tampered, memory)
      ]

  -- whatever the tables hold
  module _ (part : List Event) (e : OpErr) (v : World) (halts : HaltsTotals r events part e w v) where
    emitter_of : (e : OpErr) → is_of_access e ≡ false → (e ≡ OpErrs.Sink) ⊎ (e ≡ OpErrs.NoMemory)
    emitter_of OpErrs.Failed access = absurd (cc access)
    emitter_of (OpErrs.Tampered q x) access = absurd (cc access)
    emitter_of OpErrs.Sink access = inl refl
    emitter_of OpErrs.NoMemory access = inr refl

    pub reading_stays : is_of_access e ≡ false → count_end p (skeleton stmt) ≤ r.asked
    reading_stays access =
        let all = (halts.emitter (emitter_of e access)).1 in
        let n = script_long (ended Whole) in
        omega (arith, all, n)

    pub reading_memory : e ≡ OpErrs.NoMemory → LacksHere (reading_progress r) w v
    reading_memory memory =
        let left = halts.emitter (inr memory) in
        let over : is_over r ≡ true = ap (λ (b : Bool). b || (r.asked == r.blocks)) left.0 ∙ eq-eqb r.asked r.blocks left.1 in
        let n = script_long (ended (end_now r.failed r.asked)) in
        let all = left.1 in
        inr (inr (over, drop_all (r.asked + more_asked w v) (whole_of (reading_progress r)) (omega (arith, n, all))))
