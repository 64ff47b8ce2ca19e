-- The steps of one result join.
use Rattle.std.proofs.Common.{◌≡◌, ◌⊎◌, inl, inr, ◌≤◌, ◌<◌, ◌+◌, ◌-◌, ◌*◌, zero, suc, mul-le-mul, ℕ, Bool, false, IsTrue, List, [], ◌∷◌, ◌++◌, Option, None, Some, Result, Ok, Err, length, refl, sym, ◌∙◌, ap, subst, arith, append_assoc, length-append}
use Rattle.ob_base.specs.declared.config.Plan.{Plan}
use Rattle.std.proofs.Math.Nat.{zero-mul}
use Rattle.std.specs.Result.{is_err}
use Rattle.ob_hash.proofs.Sizes.{blocks_whole}
use Rattle.ob_flat.proofs.Tables.{fits_sized, blocks_hold}
use Rattle.ob_select.specs.Settings.{AreSettings}
use Rattle.std.specs.Prelude.{IsSome, OnOk, IfErr, IfOk, map}
use Rattle.std.specs.List.{list_all}
use Rattle.ob_base.specs.declared.access.Access.{Access}
use Rattle.ob_base.specs.declared.config.Plan.TheVariants.{Small, Large, Continuous, Hash}
use Rattle.ob_base.specs.declared.refusal.Refusal.{Refusal}
use Rattle.ob_base.specs.declared.shown.Shown.{Shown}
use Rattle.ob_base.specs.Events.{Event, row_events}
use Rattle.ob_row.specs.Rows.{Row}
use Rattle.ob_row.specs.Slots.{rows}
use Rattle.ob_row.specs.Totals.{printed}
use Rattle.ob_script.specs.Parts.{count_part, emission_part}
use Rattle.ob_script.proofs.Lengths.{length-count_part}
use Rattle.ob_script.proofs.Numbers.{length-emission_part}
use Rattle.ob_store.specs.State.{StoreState}
use Rattle.ob_store.specs.Calls.{ChangesNothing}
use Rattle.ob_store.specs.Runs.{Began}
use Rattle.ob_vault.specs.State.{VaultState, World}
use Rattle.ob_vault.specs.Tied.{Ready}
use Rattle.ob_vault.specs.declared.region.Region.{Region}
use Rattle.ob_vault.specs.Calls.{Went, Lasts, Seals, one}
use Rattle.ob_vault.proofs.Runs.{went_length, seals_join}
use Rattle.ob_vault.proofs.WordLemmas.{went_rests, seals_rests, honest_before}
use Rattle.ob_flat.specs.declared.fault.OpErr.{OpErr}
use Rattle.ob_flat.specs.declared.fault.OpErr.TheVariants.{Failed, Tampered, Sink, NoMemory}
use Rattle.ob_flat.specs.declared.flat.Flat.{Flat}
use Rattle.ob_flat.specs.Emission.{SlotsToEnd, SlotsToHalt}
use Rattle.ob_flat.specs.Flats.{IsSized, FitsRegion, Represents}
use Rattle.ob_flat.specs.Passes.{SinkCause, is_of_access}
use Rattle.ob_flat.specs.Words.{HasSpare, PassRan, SealsTable, blocks_of}
use Rattle.ob_flat.proofs.Resting.{represents_rests}
use Rattle.ob_flat.proofs.Sinks.{none_before}
use Rattle.ob_flat.proofs.WordLemmas.{ran_more, ran_after, ran_lasts}
use Rattle.ob_hash.specs.declared.selecting.Placed.{Placed}
use Rattle.ob_mean.specs.Replay.{done_of}
use Rattle.ob_select.specs.declared.selecting.Selected.{Selected}
use Rattle.ob_select.specs.declared.selecting.Selected.TheVariants.{Rows, Refused}
use Rattle.ob_select.specs.Memory.{is_reading, starts_with_make, ends_with_make}
use Rattle.ob_select.specs.Selecting.{SealsRows, emitted_unless, selected_as}
use Rattle.ob_select.specs.Results.{Planned, PlannedToEnd, PlannedToHalt, MakesResult, EmitsResult, WalksResult, SelectsBy, EmitsHeld, slots_for, MayAnswer, fresh_flat, make_part, whole_part, left_out, refused_for, held_slots, stored_slots, held_shown, held_events, head_of}
use Rattle.ob_select.proofs.ResultParts.{whole_is, starts-make, starts-more, rest-reading}
use Rattle.ob_select.proofs.ResultReads.{emitted_from}
use Rattle.ob_select.proofs.UntilLemmas.{until_none, until_from, until_ends, ends_halted}
use Rattle.ob_emit.specs.Emitting.{table_shown}
use Rattle.ob_select.proofs.ResultRows.{held_count, stored_rows}
use Rattle.ob_script.specs.Sizes.{HasRows}

many_shown : (cols : List ℕ) (is : List Row) → length (map (printed cols) is) ≡ length is
many_shown cols [] = refl
many_shown cols (x ∷ is) = ap suc (many_shown cols is)

-- slots are in a block
pub first_block : (n blocks pack : ℕ) → 1 ≤ n → n ≤ blocks * pack → 1 ≤ blocks
first_block n zero pack some fits = absurd (let none : zero * pack ≡ 0 = zero-mul pack in omega (arith, some, fits, none))
first_block n (suc blocks) pack some fits = omega arith

-- no region of the next number is there
pub none_next : (w : World) → Ready w → w.vault.revs.live w.vault.next ≡ None
none_next w ready = go (w.vault.revs.live w.vault.next) refl
  where
    go : (o : Option Region) → w.vault.revs.live w.vault.next ≡ o → w.vault.revs.live w.vault.next ≡ None
    go None is = is
    go (Some shape) is = absurd (omega (arith, ready.below w.vault.next shape is))

pub sink_as : (A B : Type 0) (e : OpErr) (old new : ℕ) → SinkCause {T = A} (Err e) old new → SinkCause {T = B} (Err e) old new
sink_as A B Failed old new is = is
sink_as A B (Tampered q x) old new is = is
sink_as A B Sink old new is = is
sink_as A B NoMemory old new is = is

pub sink_none : (A : Type 0) (e : OpErr) (n : ℕ) → (e ≡ Sink → ⊥) → SinkCause {T = A} (Err e) n n
sink_none A Failed n off = refl
sink_none A (Tampered q x) n off = refl
sink_none A Sink n off = absurd (off refl)
sink_none A NoMemory n off = refl

-- the length of a list that begins with a make
some-first : (xs : List Access) → IsTrue (starts_with_make xs) → 1 ≤ length xs
some-first [] is = absurd (cc is)
some-first (x ∷ xs) is = omega arith

pub make-some : (r : Planned) (g : ℕ) → 1 ≤ length (make_part r g)
make-some r g = some-first (make_part r g) (starts-make r g)

pub whole-length : (r : Planned) (g : ℕ) → 1 ≤ r.selection.public.pack
    → length (whole_part r g) ≡ length (make_part r g) + (blocks_of r.selection.public.pack (fresh_flat r g) + 1)
whole-length r g some =
    let n = blocks_of r.selection.public.pack (fresh_flat r g) in
    ap length (sym (whole_is r g some)) ∙ length-append (make_part r g) (emission_part g n) ∙ ap (λ (k : ℕ). length (make_part r g) + k) (length-emission_part g n)

-- how many accesses a first part has
pub began-few : (x : List Access) (a b : World) → Began x a.store b.store → (length b.store.asked - length a.store.asked ≤ length x) × (length a.store.asked ≤ length b.store.asked)
began-few x a b began =
    let e = ap length began.asked in
    let f = length-append a.store.asked began.done in
    let s = ap length began.split in
    let t = length-append began.done began.rest in
    (omega (arith, e, f, s, t), omega (arith, e, f))

pub if_err_map : {T F : Type 0} {P Q : F → Type 0} (x : Result T F) → ((e : F) → P e → Q e) → IfErr x P → IfErr x Q
if_err_map (Ok v) f h = tt
if_err_map (Err e) f h = f e h

pub if_ok_map : {T F : Type 0} {P Q : T → Type 0} (x : Result T F) → ((v : T) → P v → Q v) → IfOk x P → IfOk x Q
if_ok_map (Ok v) f h = f v h
if_ok_map (Err e) f h = tt

pub err_is : {A : Type 0} {e f : OpErr} → ◌≡◌ {A = Result A OpErr} (Err e) (Err f) → e ≡ f
err_is same = cc

place_more : {Rooms Halts : Type 0} (done rest more : List Access) → IsTrue (ends_with_make done) ⊎ (⊥ × IsTrue (starts_with_make rest)) ⊎ (IsTrue (list_all is_reading rest) × ⊥)
    → IsTrue (ends_with_make done) ⊎ (Rooms × IsTrue (starts_with_make (rest ++ more))) ⊎ (IsTrue (list_all is_reading (rest ++ more)) × Halts)
place_more done rest more place = elim place [
  | inl ends ↦ inl ends
  | inr other ↦ elim other [
    | inl room ↦ absurd room.0
    | inr all ↦ absurd all.1
  ]
]

-- how many were carried out
done_few : (e : OpErr) (n m : ℕ) → n + 1 < m → done_of (is_of_access e) n + 1 < m
done_few Failed n m h = omega arith
done_few other n m h = omega arith

done_access : (e : OpErr) (n m : ℕ) → (e ≡ Sink → ⊥) × (e ≡ NoMemory → ⊥) → n < m → 1 ≤ n → done_of (is_of_access e) n + 1 < m
done_access Failed n m never h some = omega arith
done_access (Tampered q x) n m never h some = omega arith
done_access Sink n m never h some = absurd (never.0 refl)
done_access NoMemory n m never h some = absurd (never.1 refl)

left_none : (o : Option ℕ) → None ≡ o → IsSome o → ⊥
left_none None is some = cc some
left_none (Some i) is some = absurd (cc is)

module _ {E : Type 0} (grew cut : E → E → List Event → Type 0) (faults : E → ℕ) (r : Planned) where
  abbrev pub pack : ℕ
  pack = r.selection.public.pack

  module _ (v : VaultState) (s t : StoreState) (rests : ChangesNothing s t) where
    -- no room for its accesses
    pub by_none : (out : E) → r.pad ≡ None → Ready (record { vault = v; store = s }) → 1 ≤ pack → SelectsBy grew cut faults r (Err NoMemory) (record { vault = v; store = s }) (record { vault = v; store = t }) out out
    by_none out unpadded ready some =
        let went = went_rests v s t rests (one v.next) ready in
        record {
          ran = record {
            ok = tt;
            err = record { lasts = went.lasts; began = record { done = []; rest = whole_part r v.next; split = refl; asked = went.did.asked }; asks = λ is. absurd (cc is); cause = (rests.faults, went.calm) };
          };
          some = λ access. absurd (cc access);
          gone = none_next (record { vault = v; store = s }) ready;
          spare = tt;
          seals = λ good fine. seals_rests v s t rests good;
          may = tt;
          memory = λ is. record { done = []; rest = whole_part r v.next; split = refl; asked = went.did.asked; place = inr (inl (unpadded, starts-more (make_part r v.next) _ (starts-make r v.next))) };
          emitted = tt;
          halted = until_none grew cut (head_of r.selection) NoMemory _ out (λ is. cc is);
          sink = refl;
          told = λ s. inr (inr refl);
          before = λ s left. let e = ap length rests.asked in omega (arith, e, whole-length r v.next some, make-some r v.next);
        }

    -- room was made before
    abbrev end_rests : (new : World) → PlannedToEnd r (record { vault = v; store = s }) new → PlannedToEnd r (record { vault = v; store = t }) new
    end_rests new p = record { honest = record { tells = subst (λ (b : Bool). IsTrue b) (sym rests.tells) p.honest.tells; nolie = p.honest.nolie }; slots = p.slots; is = represents_rests v s t rests _ _ _ p.is; suits = p.suits }

    abbrev halt_rests : (new : World) → PlannedToHalt r (record { vault = v; store = s }) new → PlannedToHalt r (record { vault = v; store = t }) new
    halt_rests new p = record { tells = subst (λ (b : Bool). IsTrue b) (sym rests.tells) p.tells; slots = p.slots; is = represents_rests v s t rests _ _ _ p.is; suits = p.suits; nolie = rests.lie ∙ p.nolie; unfit = p.unfit }

    rests_held : (answer : Selected) (new : World) (out_old out_new : E)
        → EmitsHeld grew r answer (record { vault = v; store = t }) new out_old out_new → EmitsHeld grew r answer (record { vault = v; store = s }) new out_old out_new
    rests_held (Rows n) new out_old out_new is = emitted_from (end_rests new) (λ p. refl) is
    rests_held (Refused why) new out_old out_new is = is

    pub by_rests : (result : Result Selected OpErr) (new : World) (out_old out_new : E) → Ready (record { vault = v; store = s })
        → SelectsBy grew cut faults r result (record { vault = v; store = t }) new out_old out_new → SelectsBy grew cut faults r result (record { vault = v; store = s }) new out_old out_new
    by_rests result new out_old out_new ready is =
        let went = went_rests v s t rests (one v.next) ready in
        let same : length t.asked ≡ length s.asked = ap length rests.asked in
        record {
          ran = ran_after result [] (whole_part r v.next) went is.ran;
          some = if_err_map result (λ e h access. omega (arith, same, h access)) is.some;
          gone = is.gone;
          spare = is.spare;
          seals = λ good fine. seals_join good _ _ _ went.lasts.later (seals_rests v s t rests good) (is.seals good fine);
          may = is.may;
          memory = λ e. let m = is.memory e in record { done = m.done; rest = m.rest; split = m.split; asked = m.asked ∙ ap (λ (l : List Access). l ++ m.done) rests.asked; place = m.place };
          emitted = if_ok_map result (λ answer h. rests_held answer new out_old out_new h) is.emitted;
          halted = if_err_map result (λ e h. until_from grew cut (head_of r.selection) e (λ p. held_events r p.slots) (λ p. held_events r p.slots) out_old out_new (halt_rests new) (λ p. inl refl) h) is.halted;
          sink = is.sink;
          told = λ p. is.told (end_rests new p);
          before = λ p left. if_err_map result (λ e h. subst (λ (n : ℕ). done_of (is_of_access e) (length new.store.asked - n) + 1 < length (whole_part r v.next)) same h) (is.before (halt_rests new p) left);
        }

  module _ (old mid : World) (some : 1 ≤ pack) where
    abbrev pub g : ℕ
    g = old.vault.next

    abbrev pub fresh : Flat
    fresh = fresh_flat r g

    abbrev pub script : List Access
    script = emission_part g (blocks_of pack fresh)

    -- the seals of the steps
    seals_first : (accepts : SealsTable pack r.selection.flat.schema g old mid) → SealsRows pack old mid
    seals_first sealed good fine = sealed.seals good (fine r.selection.flat.schema g)

    -- the result was not made
    pub by_make : (e : OpErr) (out : E) → 1 ≤ blocks_of pack fresh → MakesResult r (Err e) old mid → SelectsBy grew cut faults r (Err e) old mid out out
    by_make e out least is = record {
      ran = subst (λ (x : List Access). PassRan {T = Selected} x (one g) (Err e) old mid) (whole_is r g some) (ran_more (make_part r g) script is.ran.err);
      some = is.some;
      gone = is.gone;
      spare = tt;
      seals = seals_first is.seals;
      may = tt;
      memory = λ none.
          let m = is.memory (ap Err (err_is none)) in
          record { done = m.done; rest = m.rest ++ script; split = sym (append_assoc m.done m.rest script) ∙ ap (λ (x : List Access). x ++ script) m.split ∙ whole_is r g some; asked = m.asked; place = place_more m.done m.rest script m.place };
      emitted = tt;
      halted = until_none grew cut (head_of r.selection) e _ out (λ sink. is.never (ap Err sink));
      sink = sink_none Selected e _ (λ sink. is.never (ap Err sink));
      told = λ s. elim (is.told s) [ inl f ↦ inl f | inr n ↦ inr (inr n) ];
      before = λ s left. let few = began-few (make_part r g) old mid is.ran.err.began in done_few e _ _ (omega (arith, few.0, whole-length r g some, least));
    }

    module _ (new : World) (placed : Placed) (made : MakesResult r (Ok placed) old mid) where
      joined : {T : Type 0} (result : Result T OpErr) → PassRan script (one g) result mid new → PassRan (whole_part r g) (one g) result old new
      joined result ran = subst (λ (x : List Access). PassRan x (one g) result old new) (whole_is r g some) (ran_after result (make_part r g) script made.ran.ok ran)

      abbrev end_mid : {T : Type 0} (result : Result T OpErr) → PassRan script (one g) result mid new → PlannedToEnd r old new → PlannedToEnd r old mid
      end_mid result ran s = record { honest = honest_before (ran_lasts result ran) s.honest; slots = s.slots; is = s.is; suits = s.suits }

      abbrev halt_mid : {T : Type 0} (result : Result T OpErr) → PassRan script (one g) result mid new → PlannedToHalt r old new → PlannedToEnd r old mid
      halt_mid result ran s = record {
        honest = record { tells = s.tells; nolie = none_before (one g) (one g) (make_part r g) old mid new made.ran.ok (ran_lasts result ran) s.nolie s.unfit };
        slots = s.slots;
        is = s.is;
        suits = s.suits;
      }

      all_seals : {some : ℕ → Type 0} → Lasts some old mid → ((good : ℕ → List ℕ → Bool) → Seals good mid new) → SealsRows pack old new
      all_seals lasts more good fine = seals_join good old mid new lasts.later (seals_first made.seals good fine) (more good)

      grown : {T : Type 0} (e : OpErr) → PassRan {T = T} script (one g) (Err e) mid new → length old.store.asked < length new.store.asked
      grown e ran = let few = began-few script mid new ran.err.began in omega (arith, few.1, went_length (one g) (make_part r g) old mid made.ran.ok, make-some r g)

      -- it was read back, and emitted
      module _ (out_old out_new : E) (is_left : (s : PlannedToEnd r old mid) → None ≡ left_out r s.slots) (is_done : (s : PlannedToEnd r old mid) → None ≡ refused_for r s.slots)
          (k_some : HasRows r.plan r.k) (fits : (s : PlannedToEnd r old mid) → IsSome r.pad → r.k ≤ r.taken) where
        held : (s : PlannedToEnd r old mid) → Represents pack fresh (stored_slots r s.slots) mid
        held s = (made.told s).1

        same_shown : (s : PlannedToEnd r old mid) → table_shown r.selection.cols (stored_slots r s.slots) ≡ held_shown r s.slots
        same_shown s = ap (map (printed r.selection.cols)) (stored_rows r s.slots s.suits (fits s))

        same_events : (s : PlannedToEnd r old mid) → head_of r.selection ++ row_events (table_shown r.selection.cols (stored_slots r s.slots)) ≡ held_events r s.slots
        same_events s =
            ap (λ (l : List (List Shown)). head_of r.selection ++ row_events l) (same_shown s)
            ∙ ap (λ (o : Option Refusal). emitted_unless o (head_of r.selection ++ row_events (held_shown r s.slots))) (is_done s)

        pub by_emit_ok : (n : ℕ) → r.selection.ending + length (whole_part r g) ≤ old.store.spare → EmitsResult grew cut faults pack fresh r.selection.cols (Ok n) mid new out_old out_new
            → SelectsBy grew cut faults r (Ok (Rows n)) old new out_old out_new
        by_emit_ok n spare is =
            let ran = joined (Ok n) is.ran in
            let back : PlannedToEnd r old new → SlotsToEnd pack fresh mid new = λ s. let t = end_mid (Ok n) is.ran s in record { slots = stored_slots r s.slots; is = held t; nolie = s.honest.nolie } in
            record {
              ran = record { ok = ran.ok; err = tt };
              some = tt;
              gone = is.gone;
              spare = omega (arith, spare, ran.ok.spare);
              seals = all_seals made.ran.ok.lasts is.seals.seals;
              may = tt;
              memory = λ none. absurd (cc none);
              emitted = emitted_from back (λ s. same_shown (end_mid (Ok n) is.ran s)) is.emitted;
              halted = tt;
              sink = is.sink;
              told = λ s.
                  let t = end_mid (Ok n) is.ran s in
                  let shown : length is.emitted.rows ≡ length (held_shown r s.slots) = ap (λ (l : List (List Shown)). length l) (is.emitted.told (back s) ∙ same_shown t) in
                  let many : n ≡ r.k = omega (arith, is.emitted.count, shown, many_shown r.selection.cols (rows (held_slots r s.slots)), held_count r s.slots s.suits k_some (is_left t)) in
                  ap (λ (m : ℕ). Rows m) many ∙ ap (λ (o : Option Refusal). selected_as o r.k) (is_done t);
              before = λ s left. tt;
            }

        pub by_emit_err : (e : OpErr) → EmitsResult grew cut faults pack fresh r.selection.cols (Err e) mid new out_old out_new
            → SelectsBy grew cut faults r (Err e) old new out_old out_new
        by_emit_err e is =
            let ran = joined {T = ℕ} (Err e) is.ran in
            let back : PlannedToHalt r old new → SlotsToHalt pack fresh mid new = λ s. let t = halt_mid {T = ℕ} (Err e) is.ran s in record { slots = stored_slots r s.slots; is = held t; nolie = t.honest.nolie; unfit = s.unfit } in
            record {
              ran = record { ok = tt; err = ran.err };
              some = λ access. grown {T = ℕ} e is.ran;
              gone = is.gone;
              spare = tt;
              seals = all_seals made.ran.ok.lasts is.seals.seals;
              may = tt;
              memory = λ none.
                  let b = is.ran.err.began in
                  record {
                    done = make_part r g ++ b.done;
                    rest = b.rest;
                    split = append_assoc (make_part r g) b.done b.rest ∙ ap (λ (x : List Access). make_part r g ++ x) b.split ∙ whole_is r g some;
                    asked = b.asked ∙ ap (λ (x : List Access). x ++ b.done) made.ran.ok.did.asked ∙ append_assoc old.store.asked (make_part r g) b.done;
                    place = inr (inr (rest-reading g (blocks_of pack fresh) b.done b.rest b.split, ends_halted grew cut (head_of r.selection) e (λ s. table_shown r.selection.cols s.slots) out_old out_new (err_is none) is.halted));
                  };
              emitted = tt;
              halted = until_from grew cut (head_of r.selection) e (λ s. head_of r.selection ++ row_events (table_shown r.selection.cols s.slots)) (λ s. held_events r s.slots) out_old out_new back
                  (λ s. inl (same_events (halt_mid {T = ℕ} (Err e) is.ran s))) (until_ends grew cut (head_of r.selection) e (λ s. table_shown r.selection.cols s.slots) out_old out_new is.halted);
              sink = sink_as ℕ Selected e _ _ is.sink;
              told = λ s. let t = end_mid {T = ℕ} (Err e) is.ran s in is.told (stored_slots r s.slots) (held t) s.honest.nolie;
              before = λ s left. absurd (left_none _ (is_left (halt_mid {T = ℕ} (Err e) is.ran s)) left);
            }

      -- it was read back, and nothing emitted
      module _ (out : E) where
        pub by_walk_ok : {T : Type 0} (v : T) (why : Refusal) → MayAnswer r.plan r.pad (Refused why) → ((s : PlannedToEnd r old mid) → Some why ≡ refused_for r s.slots) → r.selection.ending + length (whole_part r g) ≤ old.store.spare
            → WalksResult {T = T} pack fresh (Ok v) mid new → SelectsBy grew cut faults r (Ok (Refused why)) old new out out
        by_walk_ok v why answers left spare is =
            let ran = joined (Ok v) is.ran in
            record {
              ran = record { ok = ran.ok; err = tt };
              some = tt;
              gone = is.gone;
              spare = omega (arith, spare, ran.ok.spare);
              seals = all_seals made.ran.ok.lasts is.seals.seals;
              may = answers;
              memory = λ none. absurd (cc none);
              emitted = refl;
              halted = tt;
              sink = refl;
              told = λ s. ap (λ (o : Option Refusal). selected_as o r.k) (left (end_mid (Ok v) is.ran s));
              before = λ s some. tt;
            }

        pub by_walk_err : {T : Type 0} (e : OpErr) → WalksResult {T = T} pack fresh (Err e) mid new → SelectsBy grew cut faults r (Err e) old new out out
        by_walk_err {T} e is =
            let ran = joined {T = T} (Err e) is.ran in
            record {
              ran = record { ok = tt; err = ran.err };
              some = λ access. grown {T = T} e is.ran;
              gone = is.gone;
              spare = tt;
              seals = all_seals made.ran.ok.lasts is.seals.seals;
              may = tt;
              memory = λ none. absurd (is.never.1 (err_is none));
              emitted = tt;
              halted = until_none grew cut (head_of r.selection) e _ out is.never.0;
              sink = sink_none Selected e _ is.never.0;
              told = λ s. let t = end_mid {T = T} (Err e) is.ran s in inl (is.told (stored_slots r s.slots) (made.told t).1 s.honest.nolie);
              before = λ s left.
                  let few = began-few (count_part g (blocks_of pack fresh)) mid new is.cut in
                  let long = went_length (one g) (make_part r g) old mid made.ran.ok in
                  let more = grown {T = T} e is.ran in
                  done_access e _ _ is.never (omega (arith, few.0, few.1, long, length-count_part g (blocks_of pack fresh), whole-length r g some)) (omega (arith, more));
            }

-- the same of an equal pack and an equal region
pub emits_at : {E : Type 0} (grew cut : E → E → List Event → Type 0) (faults : E → ℕ) (p q : ℕ) (f h : Flat) (cols : List ℕ) (result : Result ℕ OpErr) (old new : World) (out_old out_new : E)
    → p ≡ q → f ≡ h → EmitsResult grew cut faults p f cols result old new out_old out_new → EmitsResult grew cut faults q h cols result old new out_old out_new
emits_at grew cut faults p q f h cols result old new out_old out_new pack same is =
    subst (λ (x : Flat). EmitsResult grew cut faults q x cols result old new out_old out_new) same (subst (λ (n : ℕ). EmitsResult grew cut faults n f cols result old new out_old out_new) pack is)

pub walks_at : {T : Type 0} (p q : ℕ) (f h : Flat) (result : Result T OpErr) (old new : World) → p ≡ q → f ≡ h → WalksResult p f result old new → WalksResult q h result old new
walks_at p q f h result old new pack same is = subst (λ (x : Flat). WalksResult q x result old new) same (subst (λ (n : ℕ). WalksResult n f result old new) pack is)

-- what is left to read a result back
pub spare_made : (r : Planned) (old mid : World) (n : ℕ) → 1 ≤ r.selection.public.pack → n + length (whole_part r old.vault.next) ≤ old.store.spare → Went (make_part r old.vault.next) (one old.vault.next) old mid
    → HasSpare (blocks_of r.selection.public.pack (fresh_flat r old.vault.next) + 1) mid
spare_made r old mid n some spare went = record { ready = went.lasts.ready; spare = omega (arith, spare, went.spare, whole-length r old.vault.next some) }

pub spare_at : (p q : ℕ) (f h : Flat) (w : World) → p ≡ q → f ≡ h → HasSpare (blocks_of q h + 1) w → HasSpare (blocks_of p f + 1) w
spare_at p q f h w pack same is = subst (λ (x : Flat). HasSpare (blocks_of p x + 1) w) (sym same) (subst (λ (n : ℕ). HasSpare (blocks_of n h + 1) w) (sym pack) is)

-- the sizes of a result
fits-plan : (r : Planned) (plan : Plan) → AreSettings r.selection.public → IsSized r.selection.flat.schema r.selection.flat.capacity → 1 ≤ r.taken → r.taken ≤ r.selection.flat.capacity
    → FitsRegion r.selection.public.pack r.selection.flat.schema (slots_for r plan)
fits-plan r Small settings size some most =
    fits_sized _ _ _ settings.pack_least (record { some = size.some; few = size.few; wide = size.wide; least = some; most = omega (arith, most, size.most) })
fits-plan r Large settings size some most = fits_sized _ _ _ settings.pack_least size
fits-plan r Continuous settings size some most =
    fits_sized _ _ _ settings.pack_least (record { some = size.some; few = size.few; wide = size.wide; least = some; most = omega (arith, most, size.most) })
fits-plan r Hash settings size some most =
    let blocks = blocks_whole r.selection.public.pack (r.taken * r.selection.public.depth) settings.pack_least in
    let k_few : r.taken ≤ 16777216 = omega (arith, most, size.most) in
    let few : r.taken * r.selection.public.depth ≤ 16777216 * 8 = mul-le-mul k_few settings.depth_most in
    let least : 1 * 1 ≤ r.taken * r.selection.public.depth = mul-le-mul some settings.depth_least in
    let one_least : 1 ≤ r.taken * r.selection.public.depth = omega (arith, least) in
    let all : 1 * 1 ≤ (r.taken * r.selection.public.depth) * r.selection.public.pack = mul-le-mul one_least settings.pack_least in
    record { some = size.some; few = size.few; wide = size.wide; least = omega (arith, all); blocks = omega (arith, blocks, few) }

pub fits_fresh : (r : Planned) (g : ℕ) → AreSettings r.selection.public → IsSized r.selection.flat.schema r.selection.flat.capacity → 1 ≤ r.taken → r.taken ≤ r.selection.flat.capacity
    → FitsRegion r.selection.public.pack (fresh_flat r g).schema (fresh_flat r g).capacity
fits_fresh r g settings size some most = fits-plan r r.plan settings size some most

pub fits_at : (p q : ℕ) (f h : Flat) → p ≡ q → f ≡ h → FitsRegion q h.schema h.capacity → FitsRegion p f.schema f.capacity
fits_at p q f h pack same is = subst (λ (x : Flat). FitsRegion p x.schema x.capacity) (sym same) (subst (λ (n : ℕ). FitsRegion n h.schema h.capacity) (sym pack) is)

pub blocks_some : (r : Planned) (g : ℕ) → FitsRegion r.selection.public.pack (fresh_flat r g).schema (fresh_flat r g).capacity → 1 ≤ r.selection.public.pack → 1 ≤ blocks_of r.selection.public.pack (fresh_flat r g)
blocks_some r g fits some = let hold = blocks_hold r.selection.public.pack (fresh_flat r g).capacity some in first_block _ _ _ fits.least hold

-- room was made
pub room_made : {T F P : Type 0} (x : Result T F) → is_err x ≡ false → OnOk x P → P
room_made (Ok v) ok h = h
room_made (Err e) ok h = absurd (cc ok)
