-- A SELECT of the rows of a fresh region, which other accesses made and one more discards.
use Rattle.ob_exec.proofs.Words.{Access, answer_events, ap, append-nil, append_assoc, AreHeld, arith, Bool, cases_eq, count_end, count_part, counted_after, discard_at, done_of, End, EndsRows, Err, Event, extent_of, false, from, HaltsRows, HasHalted, header, held_empty, held_if, HoldsRows, HoldsSeen, Index, inl, inr, is_of_access, IsSome, IsTrue, IsUnfit, KeySet, Lasts, Later, Leads, LeavesNone, length, length-append, length-count_part, FalseRead, List, MayHold, nat_le, nat_tests, None, none_before, Ok, OpErr, Option, PassCut, places, Plan, Public, ReadsIn, refl, Result, rows_script, Seals, seals_join, SealsRows, Seen, Selected, Selection, selection_script, selection_seen, SelectsFrom, Slots, slots_of, Some, SourceToEnd, SourceToHalt, stated, StoreState, subst, sym, Tables, true, walk_end, Went, World, ℕ, [], ◌++◌, ◌+◌, ◌-◌, ◌∙◌, ◌∷◌, ◌≡◌, ◌≤◌, ◌⊎◌}
use Rattle.std.specs.List.{list_all}
use Rattle.ob_script.specs.Script.{blocks_of}
use Rattle.ob_exec.proofs.RowsLawful.{seen_as}
use Rattle.ob_exec.proofs.RowsNothing.{part_late}
use Rattle.ob_vault.specs.State.{Start}
use Rattle.ob_vault.specs.Tied.{TagFits}
use Rattle.ob_vault.proofs.WorldSteps.{calm_none, reads_on}
use Rattle.ob_vault.specs.Calls.{one}
use Rattle.ob_vault.proofs.Runs.{went_join, went_wider}
use Rattle.ob_flat.specs.declared.fault.OpErr.TheVariants as OpErrs
use Rattle.ob_flat.specs.Discards.{Discards}
use Rattle.ob_flat.specs.Flats.{Represents}
use Rattle.ob_flat.proofs.Runs.{pass_after, pass_more, pass_then, pass_wider}
use Rattle.ob_sql.specs.declared.stmt.SelectRows.{SelectRows}
use Rattle.ob_select.specs.declared.selecting.Selected.TheVariants.{Rows, Refused}
use Rattle.ob_select.specs.Memory.{AtMake, HasCounted, is_reading}
use Rattle.ob_select.specs.Selecting.{EmitsSelected, SelectsToEnd, SelectsToHalt, region_of, walked_after}
use Rattle.ob_exec.specs.Sources.{EmitsRows, LacksRowMemory, rows_skeleton}
use Rattle.ob_exec.proofs.RowsSeconded.{Seconded, alone, followed, rows_seconded}
use Rattle.ob_exec.proofs.RowsReach.{counted_some}
use Rattle.ob_exec.proofs.RowsStated.{ends_stated, may_stated}
use Rattle.ob_exec.proofs.RowsTable.{an_error, emitted_from}
use Rattle.ob_select.proofs.UntilLemmas.{until_from}
use Rattle.ob_select.proofs.LieLemmas.{lie_before, went_in}
use Rattle.ob_tables.proofs.EmitLemmas.{lie_none}
use Rattle.ob_select.proofs.ResultParts.{starts-more}
use Rattle.ob_select.proofs.SelectRuns.{ends-more}

-- ---- where want of memory comes
reads_too : (rest more : List Access) → IsTrue (list_all is_reading more) → IsTrue (list_all is_reading rest) → IsTrue (list_all is_reading (rest ++ more))
reads_too [] more last all = last
reads_too (a ∷ rest) more last all = by_first (is_reading a) all (λ later. reads_too rest more last later)
  where
    by_first : (b : Bool) → IsTrue (Rattle.std.specs.Prelude.◌&&◌ b (list_all is_reading rest)) → (IsTrue (list_all is_reading rest) → IsTrue (list_all is_reading (rest ++ more)))
        → IsTrue (Rattle.std.specs.Prelude.◌&&◌ b (list_all is_reading (rest ++ more)))
    by_first true all later = later all
    by_first false all later = absurd (cc all)

place_behind : (x done : List Access) → (done ≡ [] → ⊥) → AtMake done → AtMake (x ++ done)
place_behind x done some place = elim place [ inl none ↦ absurd (some none) | inr ends ↦ inr (ends-more x done ends) ]

-- ---- what is held so many accesses later
shifted : (failed : Bool) (x c n : ℕ) → 1 ≤ c → nat_le (x + c) (done_of failed (x + n)) ≡ nat_le c (done_of failed n)
shifted true x c n some = grind (arith, nat_tests)
shifted false x c n some = grind (arith, nat_tests)

-- a block that fits none, after a call that left the store
unfit_before : (some : ℕ → Type 0) (a b : World) → Lasts some a b → b.store ≡ a.store → IsUnfit b → IsUnfit a
unfit_before some a b lasts same unfit = record {
  unfit = λ lie is fits.
      let told = ap (λ (s : StoreState). s.lie) same ∙ is in
      unfit.unfit lie told
      (subst (λ (keys : KeySet). TagFits keys b.vault.start lie) (sym lasts.keys) (subst (λ (start : Start). TagFits a.vault.keys start lie) (sym lasts.start) fits));
}

planned_count : (q : Selection) (k : Option ℕ) (plan second : Option Plan) → MayHold q k plan second → IsSome second → IsSome k
planned_count q None None (Some s) may some = absurd may
planned_count q None (Some p) (Some s) may some = absurd may
planned_count q (Some k) plan (Some s) may some = refl
planned_count q k plan None may some = absurd (cc some)

-- the last access, where there is a count, or results are padded
abbrev pub ending_for : (pad k : Option ℕ) → List Access → List Access
ending_for (Some pad) k ending = ending
ending_for None None ending = []
ending_for None (Some k) ending = ending

reading_for : (pad k : Option ℕ) (g : ℕ) → IsTrue (list_all is_reading (ending_for pad k (discard_at g)))
reading_for (Some pad) k g = refl
reading_for None None g = refl
reading_for None (Some k) g = refl

ending_whole : (pad k : Option ℕ) (ending : List Access) → IsSome k ⊎ IsSome pad → ending_for pad k ending ≡ ending
ending_whole (Some pad) k ending counted = refl
ending_whole None (Some k) ending counted = refl
ending_whole None None ending (inl some) = absurd (cc some)
ending_whole None None ending (inr some) = absurd (cc some)

-- the first result is read back after the count
walks_late : (p : Public) (select : SelectRows) (g k : ℕ) (plan second : Plan) (end : End) (now : Seen) → now ≡ seen_as (Some k) (Some plan) (Some second) end
    → counted_after (stated p select g 1) ≤ walked_after (stated p select g 1) now
walks_late p select g k plan second end now two =
    let count = count_part g (blocks_of p (extent_of (region_of (stated p select g 1)))) in
    let late = part_late p k plan (Some second) end 0 (region_of (stated p select g 1)) [] [] in
    let same = ap (walked_after (stated p select g 1)) two in
    let long = ap length (append-nil count) ∙ length-count_part g (blocks_of p (extent_of (region_of (stated p select g 1)))) in
    omega (arith, late, same, long)

module _ (p : Public) (select : SelectRows) (g : ℕ) (x : List Access) (a b : World) (made : Went x (from g) a b) (next : a.vault.next ≡ g) (after : b.vault.next ≡ g + 1)
    (seals : SealsRows p.pack a b)
    (least : 1 ≤ counted_after (stated p select g 1)) (script_is : (now : Seen) → rows_script p select now ≡ x ++ (selection_script (stated p select g 1) now (g + 1) ++ ending_for p.pad now.k (discard_at g)))
    (count_is : count_end p (rows_skeleton select) ≡ length x + counted_after (stated p select g 1))
    (walk_is : (now : Seen) → IsSome now.k → walk_end p (rows_skeleton select) now ≡ length x + walked_after (stated p select g 1) now)
    (slots_are : (indexes : List Index) (tables : Tables) → AreHeld p.pack indexes p.tables tables a → IsTrue a.store.tells → b.store.lie ≡ None → Represents p.pack (stated p select g 1).flat (slots_of p select tables) b) where
  abbrev q : Selection
  q = stated p select g 1

  -- a changed block that was read by the end of the selection
  reads_by : (c : World) → Later b.store c.store → ((y : SelectsToEnd q b b) (lie : FalseRead) → c.store.lie ≡ Some lie → ReadsIn lie (b.store.asked ++ selection_script q (selection_seen q y.slots) b.vault.next))
      → (y : SourceToEnd p a a) (lie : FalseRead) → c.store.lie ≡ Some lie → ReadsIn lie (a.store.asked ++ rows_script p select (selection_seen q (slots_of p select y.tables)))
  reads_by c later begun y lie told =
      let slots = slots_of p select y.tables in
      let meant = selection_seen q slots in
      let part = selection_script q meant (g + 1) in
      let last = ending_for p.pad meant.k (discard_at g) in
      let all = ap (λ (l : List Access). a.store.asked ++ l) (sym (script_is meant)) in
      elim (lie_before b.store c.store lie later told) [
        | inl nolie ↦
            reads_on lie (b.store.asked ++ part) last _
            (sym all ∙ sym (append_assoc a.store.asked x (part ++ last)) ∙ ap (λ (l : List Access). l ++ (part ++ last)) (sym made.did.asked) ∙ sym (append_assoc b.store.asked part last))
            (subst (λ (n : ℕ). ReadsIn lie (b.store.asked ++ selection_script q meant n)) after
            (begun (record { tells = subst (λ (t : Bool). IsTrue t) (sym made.lasts.later.tells) y.tells; slots = slots; is = slots_are y.indexes y.tables y.held y.tells nolie; nolie = nolie }) lie told))
        | inr early ↦ subst (ReadsIn lie) all (went_in x (part ++ last) a b lie made y.nolie early)
      ]

  -- its region was forgotten after an error
  module _ {E : Type 0} (grew cut : E → E → List Event → Type 0) (faults : E → ℕ) (now : Seen) (out_old out_new : E) (c d : World) (e : OpErr)
      (is : SelectsFrom grew cut faults q (Err e) now b c out_old out_new) (forgot : Went [] (one g) c d) (same : d.store ≡ c.store) (gone : d.vault.revs.live g ≡ None)
      (kept : (good : ℕ → List ℕ → Bool) → Seals good c d) where
    cut_from : PassCut e (selection_script q now b.vault.next) (from g) b d
    cut_from =
        pass_then (from g) e (selection_script q now b.vault.next) b c d
        (pass_wider (from b.vault.next) b c (from g) (λ r above. omega (arith, after, above)) e _ is.ran.err)
        (went_wider (one g) c d (from g) (λ r here. omega (arith, here)) [] forgot) same

    ran_all : PassCut e (rows_script p select now) (from g) a d
    ran_all =
        let part = selection_script q now (g + 1) in
        let last = ending_for p.pad now.k (discard_at g) in
        subst (λ (all : List Access). PassCut e all (from g) a d) (append_assoc x part last ∙ sym (script_is now))
        (pass_more (from g) a d e (x ++ part) last
        (pass_after (from g) a b d e x part made (subst (λ (n : ℕ). PassCut e (selection_script q now n) (from g) b d) after cut_from)))

    gone_by : (r : ℕ) → a.vault.next ≤ r → (r ≡ g) ⊎ (r ≡ g → ⊥) → d.vault.revs.live r ≡ None
    gone_by r above (inl here) = ap d.vault.revs.live here ∙ gone
    gone_by r above (inr off) = forgot.lasts.apart.live r off ∙ is.gone r (omega (arith, above, off, next, after))

    none_left : LeavesNone a d
    none_left = record { gone = λ r above. gone_by r above (cases_eq r g) }

    abbrev to_end : SourceToEnd p a d → SelectsToEnd q b c
    to_end y = record {
      tells = subst (λ (t : Bool). IsTrue t) (sym made.lasts.later.tells) y.tells;
      slots = slots_of p select y.tables;
      is = slots_are y.indexes y.tables y.held y.tells (none_before b.store c.store is.ran.err.lasts.later (ap (λ (t : StoreState). t.lie) (sym same) ∙ y.nolie));
      nolie = ap (λ (t : StoreState). t.lie) (sym same) ∙ y.nolie;
    }

    abbrev to_halt : SourceToHalt p a d → SelectsToHalt q b c
    to_halt y =
        let unfit = unfit_before (one g) c d forgot.lasts same y.unfit in
        let nolie = lie_none (from g) b d cut_from.lasts (made.calm (calm_none a y.nolie)) y.unfit in
        record { tells = subst (λ (t : Bool). IsTrue t) (sym made.lasts.later.tells) y.tells; slots = slots_of p select y.tables; is = slots_are y.indexes y.tables y.held y.tells nolie; nolie = nolie; unfit = unfit }

    length_is : length d.store.asked - length a.store.asked ≡ length x + (length c.store.asked - length b.store.asked)
    length_is =
        let grown = ap length made.did.asked in
        let sum = length-append a.store.asked x in
        let still = ap (λ (t : StoreState). length t.asked) same in
        let more = ap length is.ran.err.began.asked in
        let parts = length-append b.store.asked is.ran.err.began.done in
        omega (arith, grown, sum, still, more, parts)

    second_holds : (failed : Bool) (slots : Slots) → HoldsSeen q slots failed (length c.store.asked - length b.store.asked) now → Seconded (selection_seen q slots)
        → now.then ≡ held_if (nat_le (walk_end p (rows_skeleton select) (selection_seen q slots)) (done_of failed (length x + (length c.store.asked - length b.store.asked)))) (selection_seen q slots).then
    second_holds failed slots held (alone empty) = held.second ∙ sym (held_empty _ _ empty) ∙ held_empty _ _ empty
    second_holds failed slots held (followed k plan second end two) =
        let counted : IsSome (selection_seen q slots).k = subst (λ (o : Option ℕ). IsSome o) (sym (ap (λ (y : Seen). y.k) two)) refl in
        let n = length c.store.asked - length b.store.asked in
        let late = walks_late p select g k plan second end (selection_seen q slots) two in
        held.second
        ∙ (λ j. held_if (sym (shifted failed (length x) (walked_after q (selection_seen q slots)) n (omega (arith, least, late))) j) (selection_seen q slots).then)
        ∙ (λ j. held_if (nat_le (sym (walk_is (selection_seen q slots) counted) j) (done_of failed (length x + n))) (selection_seen q slots).then)

    all_holds : (failed : Bool) (slots : Slots) → HoldsSeen q slots failed (length c.store.asked - length b.store.asked) now
        → HoldsRows p select slots failed (length x + (length c.store.asked - length b.store.asked)) now
    all_holds failed slots held =
        let n = length c.store.asked - length b.store.asked in
        let same_count = sym (shifted failed (length x) (counted_after q) n least) ∙ ap (λ (m : ℕ). nat_le m (done_of failed (length x + n))) (sym count_is) in
        record {
          k = held.k ∙ ap (λ (b : Bool). held_if b (selection_seen q slots).k) same_count;
          plan = held.plan ∙ ap (λ (b : Bool). held_if b (selection_seen q slots).plan) same_count;
          second = second_holds failed slots held (rows_seconded p (length slots) (places q slots));
        }

    -- want of memory after the accesses that made it
    lacks_all : e ≡ OpErrs.NoMemory → LacksRowMemory p select now a d (HasHalted (Leads grew cut) out_old out_new)
    lacks_all wanted =
        let lacks = is.memory (an_error wanted) in
        let last = ending_for p.pad now.k (discard_at g) in
        record {
          done = x ++ lacks.done;
          rest = lacks.rest ++ last;
          split = append_assoc x lacks.done (lacks.rest ++ last)
              ∙ ap (λ (y : List Access). x ++ y) (sym (append_assoc lacks.done lacks.rest last)
              ∙ ap (λ (y : List Access). y ++ last) (lacks.split ∙ ap (selection_script q now) after))
              ∙ sym (script_is now);
          asked = ap (λ (t : StoreState). t.asked) same ∙ lacks.asked ∙ ap (λ (y : List Access). y ++ lacks.done) made.did.asked ∙ append_assoc a.store.asked x lacks.done;
          place = elim lacks.place [
            | inl make ↦ inl (place_behind x lacks.done lacks.some make)
            | inr other ↦ inr (elim other [
              | inl room ↦ inl (room.0, room.1, starts-more lacks.rest last room.2)
              | inr emits ↦ inr (emits.0, reads_too lacks.rest last (reading_for p.pad now.k g) emits.1, emits.2)
            ])
          ];
        }

    pub behind_halts : HaltsRows grew cut p select e now a d out_old out_new
    behind_halts = record {
      ran = subst (λ (n : ℕ). PassCut e (rows_script p select now) (from n) a d) (sym next) ran_all;
      leaves = none_left;
      seals = λ good accepts. seals_join good a b d made.lasts.later (seals good accepts) (seals_join good b c d is.ran.err.lasts.later (is.seals good accepts) (kept good));
      holds = may_stated p select g 1 now.k now.plan now.then is.holds;
      leaf = is.leaf;
      reached = record {
        count = λ some. let within = is.reached.count some in let long = length_is in omega (arith, within, long, count_is);
        walk = λ some.
            let within = is.reached.walk some in
            let long = length_is in
            let walks = walk_is now (planned_count q now.k now.plan now.then is.holds some) in
            omega (arith, within, long, walks);
      };
      memory = lacks_all;
      halted = until_from grew cut (header q.flat.schema q.cols) e (λ y. answer_events q y.slots) (λ y. answer_events q (slots_of p select y.tables)) out_old out_new to_halt (λ y. inl refl) is.halted;
      honest = λ y. is.told (to_end y);
      begun = λ y lie told. reads_by c is.ran.err.lasts.later is.begun y lie (sym (ap (λ (t : StoreState). t.lie) same) ∙ told);
      held = λ y. subst (λ (n : ℕ). HoldsRows p select (slots_of p select y.tables) (is_of_access e) n now) (sym length_is) (all_holds (is_of_access e) (slots_of p select y.tables) (is.held (to_halt y)));
    }

  -- it was discarded at the end
  module _ {E T : Type 0} (grew cut : E → E → List Event → Type 0) (faults : E → ℕ) (now : Seen) (out_old out_new : E) (c d : World) (answer : Selected) (result : Result T OpErr)
      (is : SelectsFrom grew cut faults q (Ok answer) now b c out_old out_new) (discards : Discards g result c d) where
    left_by : (r : ℕ) → a.vault.next ≤ r → (r ≡ g) ⊎ (r ≡ g → ⊥) → d.vault.revs.live r ≡ None
    left_by r above (inl here) = ap d.vault.revs.live here ∙ discards.gone
    left_by r above (inr off) = discards.went.lasts.apart.live r off ∙ is.gone r (omega (arith, above, off, next, after))

    abbrev at_end : SourceToEnd p a d → SelectsToEnd q b c
    at_end y =
        let nolie = none_before c.store d.store discards.went.lasts.later y.nolie in
        record {
          tells = subst (λ (t : Bool). IsTrue t) (sym made.lasts.later.tells) y.tells;
          slots = slots_of p select y.tables;
          is = slots_are y.indexes y.tables y.held y.tells (none_before b.store c.store is.ran.ok.lasts.later nolie);
          nolie = nolie;
        }

    behind_emits : (chosen : Selected) → EmitsSelected grew q chosen b c out_old out_new → EmitsRows grew p select chosen a d out_old out_new
    behind_emits (Rows k) emits = emitted_from _ _ at_end (λ y. refl) emits
    behind_emits (Refused r) emits = emits

    went_all : HasCounted p now → Went (rows_script p select now) (from g) a d
    went_all counted =
        let part = selection_script q now (g + 1) in
        let whole = ap (λ (last : List Access). x ++ (part ++ last)) (sym (ending_whole p.pad now.k (discard_at g) counted)) ∙ sym (script_is now) in
        let second = subst (λ (n : ℕ). Went (selection_script q now n) (from g) b c) after (went_wider (from b.vault.next) b c (from g) (λ r above. omega (arith, after, above)) _ is.ran.ok) in
        let last = went_wider (one g) c d (from g) (λ r here. omega (arith, here)) (discard_at g) discards.went in
        subst (λ (all : List Access). Went all (from g) a d) whole
        (went_join (from g) a b d x (part ++ discard_at g) made (went_join (from g) b c d part (discard_at g) second last))

    pub behind_ends : EndsRows grew p select answer now a d out_old out_new
    behind_ends =
        let counted = counted_some q answer now is.leaf is.holds is.ended in
        record {
          ran = subst (λ (n : ℕ). Went (rows_script p select now) (from n) a d) (sym next) (went_all counted);
          leaves = record { gone = λ r above. left_by r above (cases_eq r g) };
          seals = λ good accepts. seals_join good a b d made.lasts.later (seals good accepts) (seals_join good b c d is.ran.ok.lasts.later (is.seals good accepts) (discards.seals.seals good));
          holds = may_stated p select g 1 now.k now.plan now.then is.holds;
          leaf = is.leaf;
          ended = ends_stated p select g 1 answer now is.ended;
          emitted = behind_emits answer is.emitted;
          told = λ y. is.told (at_end y);
          begun = λ y lie told. elim (lie_before c.store d.store lie discards.went.lasts.later told) [
            | inl nolie ↦
                let before = none_before b.store c.store is.ran.ok.lasts.later nolie in
                let slots = slots_of p select y.tables in
                let ends : SelectsToEnd q b c
                = record { tells = subst (λ (t : Bool). IsTrue t) (sym made.lasts.later.tells) y.tells; slots = slots; is = slots_are y.indexes y.tables y.held y.tells before; nolie = nolie } in
                let meant = (is.told ends).1 in
                subst (λ (x : Seen). ReadsIn lie (a.store.asked ++ rows_script p select x)) meant
                (subst (λ (l : List Access). ReadsIn lie (a.store.asked ++ l)) (append-nil (rows_script p select now)) (went_in (rows_script p select now) [] a d lie (went_all counted) y.nolie told))
            | inr early ↦ reads_by c is.ran.ok.lasts.later is.begun y lie early
          ];
        }
