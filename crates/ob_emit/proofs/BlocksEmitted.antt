-- An emission that goes on block by block, while other calls are made between its reads.
use Rattle.std.proofs.Common.{◌≡◌, inl, inr, ◌+◌, ◌*◌, ◌<◌, ◌≤◌, ◌++◌, ℕ, List, [], None, Ok, Err, take, refl, sym, ◌∙◌, ap, subst, arith, length-append, append_assoc}
use Rattle.std.proofs.lemmas.List.{map-append, take_all}
use Rattle.ob_base.specs.declared.shown.Shown.{Shown}
use Rattle.ob_base.specs.Accesses.{read_at}
use Rattle.ob_base.specs.Events.{Event, row_events, Leads, IsEmitted}
use Rattle.ob_base.specs.Lists.{each}
use Rattle.ob_base.proofs.EventLemmas.{events_more}
use Rattle.ob_row.specs.Slots.{Slots}
use Rattle.ob_store.proofs.Steps as Stores
use Rattle.ob_vault.specs.State.{World}
use Rattle.ob_vault.specs.Calls.{Lasts, Went, none}
use Rattle.ob_vault.specs.Words.{SealsAll}
use Rattle.ob_blocks.proofs.Blocks.{length-before}
use Rattle.ob_flat.specs.declared.flat.Flat.{Flat}
use Rattle.ob_flat.specs.declared.fault.OpErr.{OpErr}
use Rattle.ob_flat.specs.Emission.{SlotsToEnd, SlotsToHalt}
use Rattle.ob_flat.specs.Flats.{Represents, whole_blocks}
use Rattle.ob_flat.specs.Passes.{SinkCause}
use Rattle.ob_flat.specs.Scans.{MayScan}
use Rattle.ob_flat.specs.Words.{blocks_of}
use Rattle.ob_flat.proofs.Loops.{went_all, zero_times}
use Rattle.ob_flat.proofs.Runs.{pass_each}
use Rattle.ob_flat.proofs.Scanning.{may_scan_lasts}
use Rattle.ob_flat.proofs.Sinks.{none_before}
use Rattle.ob_flat.proofs.Tables.{represents_before, represents_lasts, whole_size}
use Rattle.ob_flat.proofs.WordLemmas.{sealed_after, tampered_in}
use Rattle.ob_emit.specs.Emitting.{EmitsBlock, Emits, EndsAs, HasEmitted, block_shown, blocks_shown, slots_shown, table_shown}
use Rattle.ob_emit.proofs.Events.{shown-block, shown-rest, shown-table}
use Rattle.ob_emit.proofs.Halting.{ends_after, ends_of}

-- the rows of a table, by its blocks
module _ (pack : ℕ) (flat : Flat) (cols : List ℕ) (slots : Slots) (w : World) (is : Represents pack flat slots w) where
  pub blocks_rest : (done : ℕ) → (rest : List (List Shown)) × (blocks_shown pack flat cols done slots ++ rest ≡ table_shown cols slots)
  blocks_rest done =
      let rest = shown-rest flat.capacity cols 0 (done * pack) (whole_blocks pack flat.capacity slots) in
      (rest.0, rest.1 ∙ shown-table flat.capacity cols (blocks_of pack flat * pack) slots is.size)

  module _ (some : 1 ≤ pack) where
    pub blocks_more : (done : ℕ) → done < blocks_of pack flat → blocks_shown pack flat cols done slots ++ block_shown pack flat cols done slots ≡ blocks_shown pack flat cols (done + 1) slots
    blocks_more done below =
        let whole = whole_blocks pack flat.capacity slots in
        shown-block flat.capacity cols pack done whole (length-before pack whole done (blocks_of pack flat) (omega (arith, below)) (whole_size pack flat slots w is some))

    pub blocks_all : (done : ℕ) → done ≡ blocks_of pack flat → blocks_shown pack flat cols done slots ≡ table_shown cols slots
    blocks_all done last =
        let blocks = blocks_of pack flat in
        let whole = whole_blocks pack flat.capacity slots in
        ap (λ (n : ℕ). slots_shown flat.capacity cols 0 (take (n * pack) whole)) last
        ∙ ap (slots_shown flat.capacity cols 0) (take_all (blocks * pack) whole (omega (arith, whole_size pack flat slots w is some)))
        ∙ shown-table flat.capacity cols (blocks * pack) slots is.size

-- what an emitter took by then
emitted_now : {E : Type 0} {pack done k : ℕ} {flat : Flat} {cols : List ℕ} {shown : List (List Shown)} {w : World} (grew : E → E → List Event → Type 0) (head : List Event) (a b : E)
    → HasEmitted pack flat cols done k shown w → Leads grew grew a b (head ++ row_events shown) → IsEmitted grew head (λ (s : SlotsToEnd pack flat w w). blocks_shown pack flat cols done s.slots) 0 k a b
emitted_now {shown = shown} grew head a b is leads = record { rows = shown; count = omega (arith, is.count); leads = leads; told = is.told }

module _ (pack : ℕ) (flat : Flat) (cols : List ℕ) where
  -- no block was read
  pub emitted_begins : (w : World) → MayScan pack flat w → HasEmitted pack flat cols 0 0 [] w
  emitted_begins w may = record {
    table = may;
    most = (omega arith, omega arith);
    count = refl;
    told = λ s. ap (λ (n : ℕ). slots_shown flat.capacity cols 0 (take n (whole_blocks pack flat.capacity s.slots))) (zero_times pack);
  }

  module _ (done k : ℕ) (shown : List (List Shown)) (w : World) (is : HasEmitted pack flat cols done k shown w) where
    -- the table was left as it was
    pub emitted_stays : (later : World) → MayScan pack flat later → ((slots : Slots) → Represents pack flat slots later → Represents pack flat slots w) → (later.store.lie ≡ None → w.store.lie ≡ None)
        → HasEmitted pack flat cols done k shown later
    emitted_stays later may before none_told = record { table = may; most = is.most; count = is.count; told = λ s. is.told (record { slots = s.slots; is = before s.slots s.is; nolie = none_told s.nolie }) }

    -- calls for other regions were made
    pub emitted_lasts : (later : World) (some : ℕ → Type 0) → Lasts some w later → (some flat.region → ⊥) → HasEmitted pack flat cols done k shown later
    emitted_lasts later some lasts off =
        emitted_stays later (may_scan_lasts pack flat some w later lasts off is.table) (represents_before pack flat some w later lasts off) (Stores.none_before _ _ lasts.later)

    -- of each block
    pub emitted_whole : done ≡ blocks_of pack flat → (s : SlotsToEnd pack flat w w) → shown ≡ table_shown cols s.slots
    emitted_whole last s = is.told s ∙ blocks_all pack flat cols s.slots w s.is is.table.some done last

    -- a part of the next block's rows is a part of the table's
    pub emitted_part : (later : World) → done < blocks_of pack flat → (s : SlotsToHalt pack flat w later) (part : List Event)
        → (rest : List Event) × (part ++ rest ≡ row_events (block_shown pack flat cols done s.slots))
        → (rest : List Event) × ((row_events shown ++ part) ++ rest ≡ row_events (table_shown cols s.slots))
    emitted_part later below s part (rest, told) =
        let own = block_shown pack flat cols done s.slots in
        let behind = blocks_rest pack flat cols s.slots w s.is (done + 1) in
        let was = is.told (record { slots = s.slots; is = s.is; nolie = s.nolie }) in
        let all = ap (λ (l : List (List Shown)). (l ++ own) ++ behind.0) was ∙ ap (λ (l : List (List Shown)). l ++ behind.0) (blocks_more pack flat cols s.slots w s.is is.table.some done below) ∙ behind.1 in (
          rest ++ row_events behind.0,
          append_assoc (row_events shown) part (rest ++ row_events behind.0)
              ∙ ap (λ (l : List Event). row_events shown ++ l) (sym (append_assoc part rest (row_events behind.0)) ∙ ap (λ (l : List Event). l ++ row_events behind.0) told)
              ∙ events_more shown own behind.0 (table_shown cols s.slots) all,
        )

    module _ {E : Type 0} {grew cut : E → E → List Event → Type 0} {faults : E → ℕ} where
      -- the next block was read, and its rows emitted
      pub emitted_next : (n : ℕ) (later : World) (b c : E) → done < blocks_of pack flat → (block : EmitsBlock grew cut faults pack flat cols done k (Ok n) w later b c)
          → HasEmitted pack flat cols (done + 1) n (shown ++ block.emitted.rows) later
      emitted_next n later b c below block =
          let lasts = block.ran.ok.lasts in
          let more = block.emitted.rows in
          record {
            table = may_scan_lasts pack flat none w later lasts (λ s. s) is.table;
            most = block.most;
            count = omega (arith, block.emitted.count, is.count, length-append shown more);
            told = λ s.
                let held = represents_before pack flat none w later lasts (λ x. x) s.slots s.is in
                ap (λ (l : List (List Shown)). l ++ more) (is.told (record { slots = s.slots; is = held; nolie = Stores.none_before _ _ lasts.later s.nolie }))
                ∙ ap (λ (l : List (List Shown)). blocks_shown pack flat cols done s.slots ++ l) (block.emitted.told (record { slots = s.slots; is = held; nolie = s.nolie }))
                ∙ blocks_more pack flat cols s.slots w held is.table.some done below;
          }

      -- what an emitter took after a header
      module _ (head : List Event) (a b : E) (leads : Leads grew grew a b (head ++ row_events shown)) where
        -- it gave up in the next block
        pub emitted_ends : (e : OpErr) (later : World) (c : E) → done < blocks_of pack flat → EmitsBlock grew cut faults pack flat cols done k (Err e) w later b c
            → EndsAs grew cut e head (λ (s : SlotsToHalt pack flat w later). table_shown cols s.slots) a c
        emitted_ends e later c below block =
            ends_after grew cut e head (λ (s : SlotsToEnd pack flat w w). blocks_shown pack flat cols done s.slots) (λ (s : SlotsToHalt pack flat w later). block_shown pack flat cols done s.slots)
            (λ (s : SlotsToHalt pack flat w later). table_shown cols s.slots) 0 k a b c (emitted_now grew head a b is leads) block.halted
            (λ s.
            let rest = blocks_rest pack flat cols s.slots w s.is (done + 1) in (
              record { slots = s.slots; is = s.is; nolie = s.nolie },
              s,
              rest.0,
              ap (λ (l : List (List Shown)). l ++ rest.0) (blocks_more pack flat cols s.slots w s.is is.table.some done below) ∙ rest.1,
            ))

        -- as one pass, where nothing else was asked
        module _ (old : World) (went : Went (each done (read_at flat.region)) none old w) (seals : SealsAll old w) (same : faults b ≡ faults a) where
          pub emits_ended : (e : OpErr) (later : World) (c : E) → done < blocks_of pack flat → EmitsBlock grew cut faults pack flat cols done k (Err e) w later b c
              → Emits grew cut faults pack flat cols head (Err e) old later a c
          emits_ended e later c below block =
              let lasts = block.ran.err.lasts in
              record {
                ran = record { ok = tt; err = pass_each none (read_at flat.region) _ _ _ _ (blocks_of pack flat) done below went block.ran.err };
                never = elim block.never [
                  | inl failed ↦ inl failed
                  | inr other ↦ inr (elim other [ inl sink ↦ inl sink | inr last ↦ inr (elim last [ inl memory ↦ inl memory | inr there ↦ inr (tampered_in below there) ]) ])
                ];
                seals = sealed_after went.lasts seals block.seals.seals;
                source = (may_scan_lasts pack flat none w later lasts (λ s. s) is.table).written;
                most = tt;
                emitted = tt;
                halted = ends_of grew cut e head (λ (s : SlotsToHalt pack flat w later). table_shown cols s.slots) (λ (s : SlotsToHalt pack flat old later). table_shown cols s.slots) a c
                    (emitted_ends e later c below block)
                    (λ s. (
                      record { slots = s.slots; is = represents_lasts pack flat none old w went.lasts (λ x. x) s.slots s.is; nolie = none_before none none _ old w later went lasts s.nolie s.unfit; unfit = s.unfit },
                      refl,
                    ));
                cause = subst (λ (n : ℕ). SinkCause {T = ℕ} (Err e) n (faults c)) same block.cause;
                told = λ slots held nolie. block.told slots (represents_lasts pack flat none old w went.lasts (λ x. x) slots held) nolie;
              }

          pub emits_whole : done ≡ blocks_of pack flat → Emits grew cut faults pack flat cols head (Ok k) old w a b
          emits_whole last = record {
            ran = record { ok = went_all (read_at flat.region) last went; err = tt };
            never = tt;
            seals = seals;
            source = is.table.written;
            most = is.most.1;
            emitted = record {
              rows = shown;
              count = omega (arith, is.count);
              leads = leads;
              told = λ s. emitted_whole last (record { slots = s.slots; is = represents_lasts pack flat none old w went.lasts (λ x. x) s.slots s.is; nolie = s.nolie });
            };
            halted = tt;
            cause = same;
            told = λ slots held nolie. tt;
          }

-- rows were emitted, and more after them
pub leads_more : {E : Type 0} (grew : E → E → List Event → Type 0) (head : List Event) (shown more : List (List Shown)) (a b c : E)
    → Leads grew grew a b (head ++ row_events shown) → Leads grew grew b c (row_events more) → Leads grew grew a c (head ++ row_events (shown ++ more))
leads_more grew head shown more a b c first second = λ s events is.
    subst (grew s c)
    (append_assoc events (head ++ row_events shown) (row_events more)
    ∙ ap (λ (l : List Event). events ++ l) (append_assoc head (row_events shown) (row_events more) ∙ ap (λ (l : List Event). head ++ l) (sym (map-append _ shown more))))
    (second s (events ++ (head ++ row_events shown)) (first s events is))
