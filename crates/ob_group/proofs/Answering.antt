-- What the groups of a table's slots answer.
use Rattle.std.proofs.Common.{◌≡◌, ◌⊎◌, inl, inr, Ok, Err, ◌++◌, ◌≤◌, ◌<◌, ◌-◌, ℕ, zero, suc, Bool, true, false, IsTrue, nat_lt, List, [], ◌∷◌, Some, None, length, cond, if◌then◌else◌, refl, sym, ◌∙◌, ap, arith}
use Rattle.std.specs.List.{All}
use Rattle.std.specs.Prelude.{filter, slice_get}
use Rattle.std.proofs.lemmas.Bool.Decides.{nat_tests}
use Rattle.std.proofs.lemmas.List.Sums.{fold-append}
use Rattle.std.proofs.lemmas.List.{append-nil}
use Rattle.ob_base.specs.declared.access.Access.{Access}
use Rattle.ob_base.specs.declared.shown.Shown.{Shown}
use Rattle.ob_base.specs.Events.{Event, row_events, IsHalted}
use Rattle.ob_base.specs.Schemas.{Columns}
use Rattle.ob_vault.specs.State.{World}
use Rattle.ob_vault.specs.Calls.{Went, none}
use Rattle.ob_vault.proofs.Runs.{went_none}
use Rattle.ob_flat.proofs.Sinks.{none_before}
use Rattle.ob_row.specs.declared.aggregate.Item.{Item}
use Rattle.ob_row.specs.Rows.{Row, options_eq}
use Rattle.ob_row.specs.Slots.{Slots, rows}
use Rattle.ob_row.specs.Spelling.{FitsColumns, kind_at}
use Rattle.ob_row.specs.Totals.{group_heads, grouped}
use Rattle.ob_blocks.specs.Blocks.{none_of, up_to}
use Rattle.ob_blocks.proofs.Blocks.{all_first, all_rest}
use Rattle.ob_flat.specs.declared.flat.Flat.{Flat}
use Rattle.ob_flat.specs.declared.fault.OpErr.{OpErr}
use Rattle.ob_flat.specs.declared.fault.OpErr.TheVariants.{Failed, Tampered, Sink, NoMemory}
use Rattle.ob_flat.specs.Slots.{FitsSlot}
use Rattle.ob_flat.specs.Passes.{is_of_access, PassCause, PassCut, SinkCause}
use Rattle.ob_flat.specs.Words.{TamperedIn}
use Rattle.ob_group.specs.declared.grouping.Grouped.{Grouped}
use Rattle.ob_group.specs.declared.grouping.Grouped.TheVariants.{Groups, TooMany}
use Rattle.ob_group.specs.Answers.{answer_of}
use Rattle.ob_group.specs.Held.{HasGroups}
use Rattle.ob_group.specs.Labels.{header}
use Rattle.ob_group.specs.Passes.{Gathers, GroupsRows}
use Rattle.ob_group.specs.Grouping.{Group, put_slot, aggs_of, groups_with, groups_of, groups_shown}
use Rattle.ob_group.proofs.Heads.{cell_eq-refl}
use Rattle.ob_group.proofs.Taking.{AreKeyed, groups-grouped, groups-number}

-- a row has a cell at each place of its columns
own_key : (columns : Columns) (row : Row) (key : ℕ) → FitsColumns columns row → key < length columns → options_eq (slice_get row key) (slice_get row key) ≡ true
own_key [] row key fits below = absurd (omega (arith, below))
own_key (c ∷ columns) [] key fits below = absurd fits
own_key (c ∷ columns) (x ∷ row) zero fits below = cell_eq-refl x
own_key (c ∷ columns) (x ∷ row) (suc key) fits below = own_key columns row key fits.1 (omega (arith, below))

pub keyed_rows : (p : Row → Bool) (columns : Columns) (key : ℕ) (slots : Slots) → key < length columns → All (FitsSlot columns) slots → AreKeyed key (filter p (rows slots))
keyed_rows p columns key [] below fits = tt
keyed_rows p columns key (None ∷ slots) below fits = keyed_rows p columns key slots below (all_rest (FitsSlot columns) None slots fits)
keyed_rows p columns key (Some row ∷ slots) below fits =
    let first = own_key columns row key (all_first (FitsSlot columns) (Some row) slots fits) below in
    let rest = keyed_rows p columns key slots below (all_rest (FitsSlot columns) (Some row) slots fits) in
    elim (p row) as (λ (b : Bool). AreKeyed key (cond b (row ∷ filter p (rows slots)) (filter p (rows slots)))) [ true ↦ (first, rest) | false ↦ rest ]

module _ (p : Row → Bool) (key : ℕ) (items : List Item) where
  none_more : (gs : List Group) (n : ℕ) → groups_with p key (aggs_of items) gs (none_of n) ≡ gs
  none_more gs zero = refl
  none_more gs (suc n) = none_more gs n

  -- empty slots after the others are nothing
  groups-up_to : (n : ℕ) (slots : Slots) → groups_of p key items (up_to n slots) ≡ groups_of p key items slots
  groups-up_to n slots = fold-append (put_slot p key (aggs_of items)) [] slots (none_of (n - length slots)) ∙ none_more (groups_of p key items slots) (n - length slots)

  module _ (columns : Columns) (n : ℕ) (slots seen : Slots) (below : key < length columns) (fits : All (FitsSlot columns) slots) (is : seen ≡ up_to n slots) where
    same : groups_of p key items seen ≡ groups_of p key items slots
    same = ap (groups_of p key items) is ∙ groups-up_to n slots

    pub seen_shown : groups_shown items (groups_of p key items seen) ≡ grouped key items (filter p (rows slots))
    seen_shown = ap (groups_shown items) same ∙ groups-grouped p key items slots (keyed_rows p columns key slots below fits)

    pub seen_number : length (groups_of p key items seen) ≡ length (group_heads key (filter p (rows slots)))
    seen_number = ap (λ (gs : List Group). length gs) same ∙ groups-number p key items slots (keyed_rows p columns key slots below fits)

-- the answers
pub too_many : (most n : ℕ) → most < n → TooMany ≡ answer_of most n
too_many most n h = let is : nat_lt most n ≡ true = grind (arith, nat_tests) in ap (λ (b : Bool). if b then TooMany else Groups n) (sym is)

pub so_many : (most k n : ℕ) → k ≡ n → n ≤ most → Groups k ≡ answer_of most n
so_many most k n same h =
    let is : nat_lt most n ≡ false = grind (arith, nat_tests) in
    ap Groups same ∙ ap (λ (b : Bool). if b then TooMany else Groups n) (sym is)

-- all was asked, and then the emitter gave up
pub read_all : {e : OpErr} {x : List Access} {a b : World} → (e ≡ Sink) ⊎ (e ≡ NoMemory) → Went x none a b → PassCut e x none a b
read_all {e} {x} {a} {b} either went = record {
  lasts = went.lasts;
  began = record { done = x; rest = []; split = append-nil x; asked = went.did.asked };
  asks = asked e either;
  cause = go e either;
}
  where
    asked : (e : OpErr) → (e ≡ Sink) ⊎ (e ≡ NoMemory) → IsTrue (is_of_access e) → length a.store.asked < length b.store.asked
    asked Failed either is = elim either [ inl sink ↦ absurd (cc sink) | inr memory ↦ absurd (cc memory) ]
    asked (Tampered q p) either is = elim either [ inl sink ↦ absurd (cc sink) | inr memory ↦ absurd (cc memory) ]
    asked Sink either is = absurd (cc is)
    asked NoMemory either is = absurd (cc is)

    go : (e : OpErr) → (e ≡ Sink) ⊎ (e ≡ NoMemory) → PassCause e a b
    go Failed either = elim either [ inl sink ↦ absurd (cc sink) | inr memory ↦ absurd (cc memory) ]
    go (Tampered q p) either = elim either [ inl sink ↦ absurd (cc sink) | inr memory ↦ absurd (cc memory) ]
    go Sink either = (went.did.faults, went.calm)
    go NoMemory either = (went.did.faults, went.calm)

-- the emitter wasn't asked
pub unasked : (T : Type 0) {pack : ℕ} {flat : Flat} {w : World} (n : ℕ) (e : OpErr) → (e ≡ Failed) ⊎ TamperedIn pack flat e w → SinkCause {T = T} (Err e) n n
unasked T n Failed either = refl
unasked T n (Tampered q p) either = refl
unasked T n Sink either = elim either [ inl failed ↦ absurd (cc failed) | inr there ↦ absurd (cc there.is) ]
unasked T n NoMemory either = refl

pub not_sink : {P : Type 0} {pack : ℕ} {flat : Flat} {w : World} {e : OpErr} → (e ≡ Failed) ⊎ TamperedIn pack flat e w → (e ≡ Sink) ⊎ (e ≡ NoMemory) → P
not_sink either other = elim either [
  | inl failed ↦ elim other [ inl sink ↦ absurd (cc (failed, sink)) | inr memory ↦ absurd (cc (failed, memory)) ]
  | inr there ↦ elim other [ inl sink ↦ absurd (cc (there.is, sink)) | inr memory ↦ absurd (cc (there.is, memory)) ]
]

-- all was asked and the groups kept, and then the emitter gave up
module _ {E : Type 0} {grew cut : E → E → List Event → Type 0} {faults : E → ℕ} {places pack : ℕ} {flat : Flat} {p : Row → Bool} {key : ℕ} {items : List Item} {groups : List (List ℕ)} {n : ℕ} {old new : World} {a b : E} where
  pub gave_up : (e : OpErr) → (e ≡ Sink) ⊎ (e ≡ NoMemory) → n ≤ length groups → length groups ≡ places → key < length flat.schema → Gathers pack flat p key items groups (Ok n) old new
      → IsHalted grew cut (λ (s : HasGroups (kind_at flat.schema key) (length items) n groups). header flat.schema key items ++ row_events (groups_shown items s.groups)) a b
      → SinkCause {T = Grouped} (Err e) (faults a) (faults b) → GroupsRows grew cut faults places pack flat p key items (Err e) old new a b
  gave_up e either most count below all halted cause =
      let went = all.ran.ok in
      record {
        ran = record { ok = tt; err = read_all either went };
        never = elim either [ inl sink ↦ inr (inl sink) | inr memory ↦ inr (inr (inl memory)) ];
        seals = all.seals;
        source = all.source;
        most = tt;
        emitted = tt;
        halted = λ is. record {
          events = halted.events;
          ends = halted.ends;
          told = λ s.
              let held = all.held in
              let nolie = none_before none none _ _ _ _ went (went_none none _ went.lasts.ready).lasts s.nolie s.unfit in
              let r = halted.told (record { groups = groups_of p key items held.seen; are = held.are }) in
              (r.0, r.1 ∙ ap (λ (l : List (List Shown)). header flat.schema key items ++ row_events l) (seen_shown p key items flat.schema _ s.slots held.seen below s.is.fits (held.told s.slots s.is nolie)));
        };
        cause = cause;
        before = λ other. elim either [
          | inl sink ↦ elim other [ inl failed ↦ absurd (cc (failed, sink)) | inr there ↦ absurd (cc (there.2, sink)) ]
          | inr memory ↦ elim other [ inl failed ↦ absurd (cc (failed, memory)) | inr there ↦ absurd (cc (there.2, memory)) ]
        ];
        after = λ is. went;
        few = λ is slots rep nolie.
            let held = all.held in
            let size = held.are.all most in
            let number = seen_number p key items flat.schema _ slots held.seen below rep.fits (held.told slots rep nolie) in
            omega (arith, size, number, most, count);
        told = λ slots is nolie. inr either;
      }
