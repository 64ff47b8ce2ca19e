-- A SELECT of rows in flight that the store failed, that gave up, or that has asked all.
use Rattle.std.proofs.Common.{◌≡◌, ◌⊎◌, inl, inr, ◌<◌, ◌≤◌, ◌+◌, ◌-◌, ◌∷◌, ◌++◌, ℕ, zero, suc, Bool, true, false, not, List, [], refl, sym, ◌∙◌, ap, subst, arith, length-append}
use Rattle.std.specs.Prelude.{Option, Some, None, length, nat_lt}
use Rattle.std.proofs.lemmas.Bool.Decides.{nat_tests}
use Rattle.std.proofs.lemmas.List.{append-nil}
use Rattle.ob_base.specs.declared.access.Access.{Access}
use Rattle.ob_base.specs.declared.access.Access.TheVariants as Accesses
use Rattle.ob_base.specs.declared.seen.End.TheVariants.{Cut}
use Rattle.ob_base.specs.declared.seen.Seen.{Seen}
use Rattle.ob_base.specs.declared.shown.Shown.{Shown}
use Rattle.ob_base.specs.Accesses.{makes}
use Rattle.ob_base.specs.Events.{Event}
use Rattle.ob_base.proofs.AccessLemmas.{makes-append}
use Rattle.ob_emit.proofs.BlocksEmitted.{emitted_whole}
use Rattle.ob_flat.specs.declared.fault.OpErr.{OpErr}
use Rattle.ob_flat.specs.declared.fault.OpErr.TheVariants.{Failed, Sink, NoMemory}
use Rattle.ob_flat.specs.declared.flat.Flat.{Flat}
use Rattle.ob_flat.specs.Flats.{Represents}
use Rattle.ob_flat.specs.Passes.{PassCut}
use Rattle.ob_flat.specs.Words.{TamperedAt}
use Rattle.ob_flat.proofs.Scanning.{may_scan_lasts}
use Rattle.ob_flat.proofs.Tables.{represents_before}
use Rattle.ob_inflight.specs.Leaving.{own_or_next}
use Rattle.ob_mean.specs.Prints.{Begun}
use Rattle.ob_row.specs.Slots.{Slots}
use Rattle.ob_script.specs.Script.{whole_script}
use Rattle.ob_select.specs.Selecting.{answer_events, places, shown_rows}
use Rattle.ob_small.specs.Selection as Smalls
use Rattle.ob_store.specs.State.{StoreState}
use Rattle.ob_vault.specs.Calls.{Lasts, one}
use Rattle.ob_vault.specs.State.{Start, World}
use Rattle.ob_vault.specs.Tied.{Ready}
use Rattle.ob_vault.specs.Words.{IsHonest}
use Rattle.ob_stages.specs.declared.rows.Stage.{Stage}
use Rattle.ob_stages.specs.declared.rows.Stage.TheVariants.{Count, Make, Read, Write, Emit, Discard, Over}
use Rattle.ob_stages.specs.RowsActs.{takes_seen}
use Rattle.ob_stages.specs.RowsStates.{RowsAt, HasRegion, PlacedAt, emits_before, is_over, is_passed, passes_pad, result_in, rows_skeleton, seen_taking, small, table_blocks, taken_by}
use Rattle.ob_stages.specs.RowsHolds.{Halts, HasBegun, HasShown, Holds, HoldsAt, IsCountOf, IsCutOff, IsToEnd, LacksAt, MayBeCut, all_selected, events_if, is_headless, is_shown, left_of, meant_events, outcome_of, seen_ended}
use Rattle.ob_stages.specs.RowsLaws.{honest_back, own_below, served_second, to_end_lasts}
use Rattle.ob_stages.specs.RowsSteps.{gone_wrong}
use Rattle.ob_stages.proofs.RowsGoing.{HasFailed, IsBehind, behind_at, failed_at, failed_cut, forgot_gone, own_all, stepped, takes_same}
use Rattle.ob_stages.proofs.RowsMeans.{events_meant, outcome_meant, result_shown, seen_meant, shown_count}
use Rattle.ob_stages.proofs.RowsPlaces.{all_asked, booked_at, cut_asked, placed_next, results_some, within_count, within_takes}
use Rattle.ob_stages.proofs.RowsStands.{ended_cut, ended_to, table_apart}
use Rattle.ob_stages.proofs.RowsWay.{KnowsWay, begun_more, count_is, held_failed, result_held, way_of}

-- ---- its regions
-- that of its table is none that an act may change
region_apart : (g : RowsAt) (stage : Stage) → is_over stage ≡ false → PlacedAt stage g → g.region ≡ Some g.q.flat.region → ⊥
region_apart g (Count u) going at mine = absurd (cc (at.region, mine))
region_apart g Make going at mine = absurd (cc (at.1, mine))
region_apart g Discard going at mine = at.apart (let e : g.q.flat.region ≡ at.own = cc (mine, at.region) in e)
region_apart g Over going at mine = absurd (cc going)
region_apart g other going at mine = at.0.apart (let e : g.q.flat.region ≡ at.0.own = cc (mine, at.0.region) in e)

pub table_off : (g : RowsAt) (kept : List (List ℕ)) (events : List Event) (w : World) → Holds g kept events w → is_over g.stage ≡ false → own_or_next g.region w.vault.next g.q.flat.region → ⊥
table_off g kept events w is going mine = elim mine [
  | inl own ↦ region_apart g g.stage going is.placed.at own
  | inr next ↦ table_apart g w is.ready is.table next
]

-- the access that failed was asked
pub asked_cut : (access : Access) (some : ℕ → Type 0) (old new : World) → PassCut Failed (access ∷ []) some old new → new.store.asked ≡ old.store.asked ++ access ∷ []
asked_cut access some old new cut = go cut.began.done cut.began.rest cut.began.split cut.began.asked (cut.asks refl)
  where
    go : (done rest : List Access) → done ++ rest ≡ access ∷ [] → new.store.asked ≡ old.store.asked ++ done → length old.store.asked < length new.store.asked → new.store.asked ≡ old.store.asked ++ access ∷ []
    go [] rest split asked more = absurd (omega (arith, more, ap (λ (l : List Access). length l) asked, length-append old.store.asked []))
    go (a ∷ []) rest split asked more = let same : a ≡ access = cc split in asked ∙ ap (λ (x : Access). old.store.asked ++ x ∷ []) same
    go (a ∷ b ∷ done) rest split asked more = absurd (cc split)

-- a region that was made uses up a number
pub next_made : (q blocks len : ℕ) (some : ℕ → Type 0) (old new : World) → Ready old → Lasts some old new → new.store.asked ≡ old.store.asked ++ Accesses.Make q blocks len ∷ [] → new.vault.next ≡ old.vault.next + 1
unfolding makes
next_made q blocks len some old new ready lasts asked =
    omega (arith, ready.tied.next, lasts.ready.tied.next, ap (λ (s : Start). s.region) lasts.start, ap makes asked, makes-append old.store.asked (Accesses.Make q blocks len ∷ []))

-- ---- where the store failed
module _ (g : RowsAt) (region : Option ℕ) (others : ℕ) (access : Access) (old mid new : World) (kept after : List (List ℕ)) (events more : List Event)
    (failed : HasFailed g region others access old mid new) (is : Holds g kept events old)
    (begun : HasBegun g.q (events ++ more))
    (way : (slots : Slots) → Represents g.q.public.pack g.q.flat slots old → IsHonest old old → mid.store.lie ≡ None → KnowsWay g (events ++ more) slots) where
  cut : PassCut Failed (access ∷ []) (own_or_next g.region old.vault.next) old new
  cut = failed_cut g region others access old mid new failed

  some : ℕ → Type 0
  some = own_or_next g.region old.vault.next

  off : own_or_next g.region old.vault.next g.q.flat.region → ⊥
  off = table_off g kept events old is failed.going

  behind_seen : IsBehind g → MayBeCut g.q (g.asked + 1) (gone_wrong g).seen
  behind_seen b = inr (record {
    k = g.k;
    few = b.counted.few;
    some = b.counted.some;
    behind = omega (arith, b.enough, b.counted.asked);
    is = ap (λ (s : Seen). record s { end = Cut (g.asked + 1) }) b.counted.seen;
  })

  cut_seen : (stage : Stage) → is_over stage ≡ false → PlacedAt stage g → MayBeCut g.q (g.asked + 1) (gone_wrong g).seen
  cut_seen (Count u) going at = inl (ap (λ (s : Seen). record s { end = Cut (g.asked + 1) }) at.seen)
  cut_seen Make going at = behind_seen (behind_at g is.placed Make refl at)
  cut_seen (Read pass u s) going at = behind_seen (behind_at g is.placed (Read pass u s) refl at)
  cut_seen (Write pass x) going at = behind_seen (behind_at g is.placed (Write pass x) refl at)
  cut_seen (Emit x) going at = behind_seen (behind_at g is.placed (Emit x) refl at)
  cut_seen Discard going at = behind_seen (behind_at g is.placed Discard refl at)
  cut_seen Over going at = absurd (cc going)

  -- no more was asked than it asks
  within_behind : IsBehind g → g.asked + 1 ≤ length (whole_script g.q.public (rows_skeleton g.select) (gone_wrong g).seen)
  within_behind b =
      within_takes g is.placed.flown (gone_wrong g).seen g.k (g.asked + 1)
      (takes_same g.q.public.pad g.k (gone_wrong g).seen g.seen refl refl refl (takes_seen g.q.public.pad g.k g.seen b.counted.seen)) (omega (arith, b.counted.asked, b.within))

  cut_within : (stage : Stage) → is_over stage ≡ false → PlacedAt stage g → g.asked + 1 ≤ length (whole_script g.q.public (rows_skeleton g.select) (gone_wrong g).seen)
  cut_within (Count u) going at = within_count g is.placed.flown (gone_wrong g).seen (g.asked + 1) (omega (arith, at.asked, at.below))
  cut_within Make going at = within_behind (behind_at g is.placed Make refl at)
  cut_within (Read pass u s) going at = within_behind (behind_at g is.placed (Read pass u s) refl at)
  cut_within (Write pass x) going at = within_behind (behind_at g is.placed (Write pass x) refl at)
  cut_within (Emit x) going at = within_behind (behind_at g is.placed (Emit x) refl at)
  cut_within Discard going at = within_behind (behind_at g is.placed Discard refl at)
  cut_within Over going at = absurd (cc going)

  cut_off : IsCutOff g.q (gone_wrong g).seen (g.asked + 1) (events ++ more) new
  cut_off = record {
    some = omega arith;
    seen = cut_seen g.stage failed.going is.placed.at;
    begun = begun;
    told = λ slots held honest.
        let was = represents_before g.q.public.pack g.q.flat (own_or_next g.region old.vault.next) old new cut.lasts off slots held in
        let gone : mid.store.lie ≡ None = sym (ap (λ (s : StoreState). s.lie) failed.store) ∙ honest.nolie in
        let known = way slots was (honest_back (own_or_next g.region old.vault.next) old new cut.lasts honest) gone in
        (held_failed g.q slots g.asked g.seen (gone_wrong g).seen refl refl refl known.held, known.begun);
  }

  -- its region was made, and is gone
  made_below : (r : ℕ) → region ≡ Some r → own_or_next g.region old.vault.next r → (r ≡ old.vault.next → r < new.vault.next) → r < new.vault.next
  made_below r mine own made = elim own [
    | inl before ↦
        let below = own_below g kept events old is.ready r g.stage is.placed.at is.at (own_all g.stage g.region failed.going ∙ before) in
        omega (arith, below, cut.lasts.shapes.next)
    | inr next ↦ made next
  ]

  pub holds_failed : ((r : ℕ) → region ≡ Some r → r ≡ old.vault.next → r < new.vault.next) → Holds (failed_at g region others access old mid new) after (events ++ more) new
  holds_failed made = record {
    ready = cut.lasts.ready;
    placed = record {
      several = is.placed.several;
      flown = is.placed.flown;
      own = is.placed.own;
      at = cut_asked g is.placed.flown region (served_second g g.stage is.placed.at) (cut_within g.stage failed.going is.placed.at);
      shown = tt;
      unfailed = λ going. absurd (cc going);
      unended = λ going. absurd (cc going);
      booked = omega arith;
    };
    table = may_scan_lasts g.q.public.pack g.q.flat (own_or_next g.region old.vault.next) old new cut.lasts off is.table;
    at = (
      record {
        below = λ r mine. made_below r mine (failed.own r mine) (made r mine);
        gone = λ r mine. forgot_gone mid new region r failed.forgets mine;
      },
      ended_cut (gone_wrong (record g { region = region })) (events ++ more) new refl (is.placed.unended failed.going) cut_off,
    );
  }

-- ---- where it gave up
-- one that emitted nothing more
pub halts_quiet : (g : RowsAt) (kept : List (List ℕ)) (events : List Event) (e : OpErr) (old new : World) → Holds g kept events old → is_over g.stage ≡ false
    → ((slots : Slots) → Represents g.q.public.pack g.q.flat slots old → IsHonest old new → (e ≡ Sink) ⊎ (e ≡ NoMemory)) → ((e ≡ Sink) ⊎ (e ≡ NoMemory) → table_blocks g.q ≤ g.asked) → (e ≡ NoMemory → LacksAt g old new)
    → Halts g events [] e old new
halts_quiet g kept events e old new is going honest counted memory = record {
  told = λ slots held was unfit.
      let known = way_of g kept events old is going slots held was in
      record {
        held = known.held;
        begun = subst (λ (l : List Event). Begun l (meant_events g.q slots)) (sym (append-nil events)) (begun_more events (answer_events g.q slots) _ known.begun);
      };
  honest = honest;
  counted = counted;
  memory = memory;
}

-- a read that gave up for its block gave up for no emitter
pub refused_counted : {P : Type 0} {pack place : ℕ} {flat : Flat} {w : World} (e : OpErr) → (e ≡ Failed) ⊎ TamperedAt pack flat place e w → (e ≡ Sink) ⊎ (e ≡ NoMemory) → P
refused_counted e never either = elim never [
  | inl failed ↦ elim either [ inl sink ↦ absurd (cc (failed, sink)) | inr memory ↦ absurd (cc (failed, memory)) ]
  | inr there ↦ let is = there.is in elim either [ inl sink ↦ absurd (cc (is, sink)) | inr memory ↦ absurd (cc (is, memory)) ]
]

-- ---- where all was asked
module _ (g : RowsAt) (kept : List (List ℕ)) (events : List Event) (old : World) (same : g.stage ≡ Discard) (is : Holds g kept events old) where
  discard_at_ : HasRegion g (emits_before g.q g.k (Smalls.results (small g.q g.k)))
  discard_at_ = subst (λ (s : Stage). PlacedAt s g) same is.placed.at

  discard_held : IsCountOf g old (all_selected g) × HasShown g (Smalls.results (small g.q g.k)) events old
  discard_held = subst (λ (s : Stage). HoldsAt s g kept events old) same is.at

  all_shown : (b : Bool) → is_shown b (Smalls.results (small g.q g.k)) ≡ not b
  all_shown true = refl
  all_shown false = less_is (Smalls.results (small g.q g.k)) (results_some g.q (rows_skeleton g.select) is.placed.flown g.k discard_at_.counted.some)
    where
      less_is : (n : ℕ) → 1 ≤ n → nat_lt 0 n ≡ true
      less_is n some = grind (arith, nat_tests)

  headed : (pad : Option ℕ) (k : ℕ) → 1 ≤ taken_by pad g.q.flat.capacity k → is_headless pad k ≡ false
  headed None zero some = absurd (omega (arith, some))
  headed None (suc k) some = refl
  headed (Some pad) k some = refl

  no_head : is_headless g.q.public.pad g.k ≡ false
  no_head = headed g.q.public.pad g.k discard_at_.counted.some

  seen_same : (pad : Option ℕ) (k : ℕ) → 1 ≤ taken_by pad g.q.flat.capacity k → seen_taking pad k ≡ seen_ended pad k
  seen_same None zero some = absurd (omega (arith, some))
  seen_same None (suc k) some = refl
  seen_same (Some pad) k some = refl

  events_all : events ++ left_of (is_headless g.q.public.pad g.k) g.q ≡ events_if (not (passes_pad g)) g.q discard_held.1.rows
  events_all =
      ap (λ (b : Bool). events ++ left_of b g.q) no_head ∙ append-nil events ∙ discard_held.1.is
      ∙ ap (λ (b : Bool). events_if b g.q discard_held.1.rows) (all_shown (passes_pad g))

  shown_few : (b : Bool) → passes_pad g ≡ b → g.shown ≤ g.q.flat.capacity
  shown_few true passed = omega (arith, discard_held.1.passed passed)
  shown_few false unpassed = omega (arith, (discard_held.1.read.emitted unpassed).most.1, discard_at_.counted.most)

  module _ (slots : Slots) (held : Represents g.q.public.pack g.q.flat slots old) (honest : IsHonest old old) where
    count : g.k ≡ length (places g.q slots)
    count = count_is g old (rows_skeleton g.select) is.placed.flown slots held honest.nolie discard_held.0

    passed_is : passes_pad g ≡ is_passed g.q.public.pad (length (places g.q slots))
    passed_is = ap (is_passed g.q.public.pad) count

    -- its rows are all that are meant
    rows_all : passes_pad g ≡ false → discard_held.1.rows ≡ shown_rows g.q slots
    rows_all unpassed =
        let shown = discard_held.1 in
        emitted_whole g.q.public.pack (result_in g.q g.k shown.filled.own) g.q.cols (Smalls.results (small g.q g.k)) g.shown shown.rows old (shown.read.emitted unpassed) refl
        (record { slots = Smalls.result_slots (small g.q g.k) slots; is = result_held g (rows_skeleton g.select) is.placed.flown old slots held honest (Smalls.results (small g.q g.k)) events shown; nolie = honest.nolie })
        ∙ result_shown g.q is.placed.flown.planner slots g.k count held.size unpassed

    outcome_told : (b : Bool) → passes_pad g ≡ b → outcome_of b g.shown ≡ outcome_of b (length (places g.q slots))
    outcome_told true passed = refl
    outcome_told false unpassed =
        ap (outcome_of false) ((discard_held.1.read.emitted unpassed).count ∙ ap (λ (l : List (List Shown)). length l) (rows_all unpassed) ∙ shown_count g.q is.placed.flown.planner slots)

    events_told : (b : Bool) → passes_pad g ≡ b → events_if (not b) g.q discard_held.1.rows ≡ events_if (not b) g.q (shown_rows g.q slots)
    events_told true passed = refl
    events_told false unpassed = ap (events_if true g.q) (rows_all unpassed)

  ends_here : IsToEnd (stepped g Over g.region g.k g.shown (g.booked - 1) g.seen) events old
  ends_here = record {
    seen = discard_at_.counted.seen ∙ seen_same g.q.public.pad g.k discard_at_.counted.some;
    few = (discard_at_.counted.few, shown_few (passes_pad g) refl);
    rows = discard_held.1.rows;
    is = events_all;
    count = λ unpassed. (discard_held.1.read.emitted unpassed).count;
    told = λ slots held honest.
        let passed = passed_is slots held honest in (
          outcome_told slots held honest (passes_pad g) refl ∙ ap (λ (b : Bool). outcome_of b (length (places g.q slots))) passed ∙ sym (outcome_meant g.q is.placed.flown.planner slots),
          discard_at_.counted.seen ∙ seen_same g.q.public.pad g.k discard_at_.counted.some ∙ ap (seen_ended g.q.public.pad) (count slots held honest) ∙ sym (seen_meant g.q is.placed.flown.planner slots),
          events_all ∙ events_told slots held honest (passes_pad g) refl ∙ ap (λ (b : Bool). events_if (not b) g.q (shown_rows g.q slots)) passed ∙ sym (events_meant g.q is.placed.flown.planner slots),
        );
  }

  pub holds_discarded : (own : ℕ) (new : World) → g.region ≡ Some own → Lasts (one own) old new → new.vault.revs.live own ≡ None → Holds (stepped g Over g.region g.k g.shown (g.booked - 1) g.seen) kept events new
  holds_discarded own new region lasts gone =
      let off : one own g.q.flat.region → ⊥ = λ here. discard_at_.apart (here ∙ (let e : own ≡ discard_at_.own = cc (region, discard_at_.region) in e)) in
      record {
        ready = lasts.ready;
        placed = placed_next g is.placed (ap is_over same) Over g.region g.k g.shown (g.booked - 1) g.seen (all_asked g is.placed.flown (g.booked - 1) (is.placed.unfailed (ap is_over same)) discard_at_.counted) tt
            (omega (arith, booked_at g is.placed Discard same, discard_at_.counted.asked));
        table = may_scan_lasts g.q.public.pack g.q.flat (one own) old new lasts off is.table;
        at = (
          record {
            below = λ r mine.
                let below = own_below g kept events old is.ready r g.stage is.placed.at is.at (own_all g.stage g.region (ap is_over same) ∙ mine) in
                omega (arith, below, lasts.shapes.next);
            gone = λ r mine. let e : own ≡ r = cc (region, mine) in subst (λ (n : ℕ). new.vault.revs.live n ≡ None) e gone;
          },
          ended_to (stepped g Over g.region g.k g.shown (g.booked - 1) g.seen) events new (is.placed.unfailed (ap is_over same)) (is.placed.unended (ap is_over same))
              (to_end_lasts (stepped g Over g.region g.k g.shown (g.booked - 1) g.seen) (one own) old new lasts off events ends_here),
        );
      }
