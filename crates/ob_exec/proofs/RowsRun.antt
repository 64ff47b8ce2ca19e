-- What a SELECT of rows leaves, whatever the store does.
use Rattle.ob_exec.proofs.Words.{Access, AfterCount, Agrees, answer_of, ap, arith, at, Bool, Cut, End, EndsRows, Engine, Event, false, from, inl, inr, is_access, is_fault, is_stop, IsFree, Batched, Lasts, LeavesNone, length, length-append, List, None, of_other, Ok, Opens, OpErr, others_of, PassCut, Public, refl, region_below, RevState, RoomState, rows_script, run_script, same_script, Seen, Selected, selected_outcome, selection, Static, StoreState, subst, sym, take, UsesRoomFor, Vault, Whole, World, world_of, ℕ, [], ◌++◌, ◌+◌, ◌-◌, ◌^◌, ◌∙◌, ◌∷◌, ◌≡◌}
use Rattle.std.proofs.Common.{◌%◌}
use Rattle.ob_store.proofs.Steps.{began_take}
use Rattle.ob_script.specs.Saved.{run_next}
use Rattle.ob_script.specs.Tables.{tables_then}
use Rattle.ob_vault.specs.Tied.{Ready}
use Rattle.ob_vault.specs.Places.{start_of}
use Rattle.ob_flat.specs.declared.fault.OpErr.TheVariants as OpErrs
use Rattle.ob_flat.specs.Passes.{PassCause}
use Rattle.ob_sql.specs.declared.stmt.SelectRows.{SelectRows}
use Rattle.ob_tables.specs.Engines.{AreTables}
use Rattle.ob_tables.specs.Running.{RanStatement, RunCause, GoesOn, Continues, result_end}
use Rattle.ob_exec.specs.Sources.{rows_skeleton}
use Rattle.ob_tables.proofs.RunLemmas.{asks_cut, asks_none, leaves_none, left_on, may_have, no_access, none_by, taken_none}
use Rattle.ob_tables.proofs.PlainLemmas.{none_drawn}
use Rattle.ob_mean.specs.Replay.{draws_taken}
use Rattle.ob_exec.proofs.RowsLawful.{ended_end, ended_whole, ended_well}
use Rattle.ob_tables.proofs.TableLemmas.{beside_below, tables_kept}
use Rattle.ob_select.proofs.RoomLemmas.{free_after}

-- an engine after a SELECT
abbrev pub rows_after : {R : Type 0} → Engine R → Vault R → RoomState → Seen → Bool → Engine R
rows_after old v room seen ended = record old {
  vault = v;
  room = room;
  public = record old.public { next_region = v.next };
  seen = seen;
  ended = ended;
}

same_tables : (p : Public) (select : SelectRows) (end : End) → p.tables ≡ tables_then p (rows_skeleton select) end
same_tables p select Static = refl
same_tables p select other = refl

cut_ends : (e : OpErr) (n : ℕ) → Cut n ≡ result_end (answer_of e) n
cut_ends OpErrs.Failed n = refl
cut_ends other n = refl

cut_cause : (e : OpErr) (a b : World) → PassCause e a b → RunCause (answer_of e) a b
cut_cause OpErrs.Failed a b cause = cause
cut_cause other a b cause = cause

module _ {R : Type 0} (state : R → RevState) (old : Engine R) (s : StoreState) (v : Vault R) (room : RoomState) (t : StoreState) (select : SelectRows)
    (agrees : Agrees state old s) (used : UsesRoomFor old.room room (world_of state old s) (at state v t)) where
  -- the tables stay where they are
  pub rows_tables : Lasts (from old.vault.next) (world_of state old s) (at state v t) → LeavesNone (world_of state old s) (at state v t) → AreTables old.public.tables (others_of old.closing old.indexes.items) old.indexes.items old.public.pack (at state v t)
  rows_tables lasts leaves =
      tables_kept (from old.vault.next) old.public.pack old.public.tables (others_of old.closing old.indexes.items) old.indexes.items _ _ lasts
      (λ i u here above. let below = region_below old.public.pack i old.public.tables u _ agrees.ready agrees.tables here in omega (arith, below, above))
      (λ q is above. let below = beside_below old.public.pack old.public.tables (others_of old.closing old.indexes.items) q _ agrees.ready agrees.tables is in omega (arith, below, above))
      (λ q shape live above. let none = leaves.gone q above in cc (live, none)) agrees.tables

  rows_free : IsFree old.public room
  rows_free = free_after old.public old.room room room.high agrees.room used.same

  opens_by : (part : List Access) → t.asked ≡ s.asked ++ part → Opens part old.room.high room.high
  opens_by [] asked = record { kept = used.kept; some = λ any. absurd (cc any) }
  opens_by (x ∷ xs) asked = record {
    kept = used.kept;
    some = λ any. used.some (λ same. let l = ap length same in let m = ap length asked in let n = length-append s.asked (x ∷ xs) in omega (arith, l, m, n));
  }

  rows_on : (seen : Seen) (x : List Access) (ended : Bool) → is_access old.public (rows_skeleton select) ≡ false → ended ≡ false → Ready (at state v t) → start_of v ≡ start_of old.vault
      → v.keys ≡ old.vault.keys → t.asked ≡ s.asked ++ x
      → run_script old.public (rows_skeleton select) seen ≡ x → AreTables old.public.tables (others_of old.closing old.indexes.items) old.indexes.items old.public.pack (at state v t)
      → GoesOn state (rows_skeleton select) (run_next old.public (rows_skeleton select) seen) old (rows_after old v room seen ended) t
  rows_on seen x ended unkeyed lives ready start keys asked is are =
      left_on state (rows_skeleton select) old s v room t agrees rows_free old.indexes old.draws old.public.tables seen x ended lives ready start keys asked is (same_tables old.public select seen.end) are
      (may_have state old s agrees) refl
      (λ d of.
      let none = taken_none old.public (rows_skeleton select) (none_drawn old.public (rows_skeleton select) unkeyed tt) seen.end in
      let sum : d.drawn ≡ d.drawn + draws_taken old.public (rows_skeleton select) seen.end = omega (arith, none) in
      of.next ∙ ap (λ (k : ℕ). k % 2 ^ 67) sum)

  -- all of it was asked
  pub rows_ran : {E : Type 0} {grew : E → E → List Event → Type 0} {out_old out_new : E} → is_access old.public (rows_skeleton select) ≡ false → (answer : Selected) (seen : Seen) → old.ended ≡ false
      → EndsRows grew old.public select answer seen (world_of state old s) (at state v t) out_old out_new
      → RanStatement state (rows_skeleton select) (Ok (selected_outcome answer)) old s (rows_after old v room seen old.ended) t
  rows_ran unkeyed answer seen lives is =
      let all = rows_script old.public select seen in
      let whole : run_script old.public (rows_skeleton select) seen ≡ all = ended_whole (selection old.public select) answer seen all is.ended in
      record {
        asked = is.ran.did.asked ∙ ap (λ (y : List Access). s.asked ++ y) (sym whole);
        later = is.ran.lasts.later;
        keys = is.ran.lasts.keys;
        start = is.ran.lasts.start;
        from_closing = refl;
        replaced = refl;
        ends = ended_end (selection old.public select) answer seen _ is.ended;
        asks = asks_none (selected_outcome answer) _ (ended_well (selection old.public select) answer seen is.ended);
        cause = (of_other _ _ (is_fault (selected_outcome answer)) (ended_well (selection old.public select) answer seen is.ended) is.ran.did.faults, is.ran.calm);
        room = rows_free;
        opened = subst (λ (y : List Access). Opens y old.room.high room.high) (sym whole) (opens_by all is.ran.did.asked);
        leaves = λ d of. inl (is.leaf, λ goes. refl);
        goes_on = rows_on seen all old.ended unkeyed lives is.ran.lasts.ready is.ran.lasts.start is.ran.lasts.keys is.ran.did.asked whole (rows_tables is.ran.lasts is.leaves);
        stays = λ q left. leaves_none old.public (rows_skeleton select) seen.end q _ (none_by old.public.save None (inr refl)) left;
        kept = λ saves q below. is.ran.lasts.apart.rests q (λ above. omega (arith, below, above));
        indexed = λ stops. absurd (cc stops);
      }

  cut_on : (e : OpErr) (seen : Seen) → GoesOn state (rows_skeleton select) (run_next old.public (rows_skeleton select) seen) old (rows_after old v room seen false) t
      → Continues state (rows_skeleton select) (run_next old.public (rows_skeleton select) seen) (answer_of e) old (rows_after old v room seen (is_stop (answer_of e))) t
  cut_on OpErrs.Failed seen on = on
  cut_on other seen on = refl

  -- it was cut off
  pub rows_cut : is_access old.public (rows_skeleton select) ≡ false → (e : OpErr) (seen : Seen) (n : ℕ) → seen.leaf ≡ None → n ≡ length t.asked - length s.asked
      → PassCut e (rows_script old.public select seen) (from old.vault.next) (world_of state old s) (at state v t) → LeavesNone (world_of state old s) (at state v t)
      → RanStatement state (rows_skeleton select) (answer_of e) old s (rows_after old v room (record seen { end = Cut n }) (is_stop (answer_of e))) t
  rows_cut unkeyed e seen n leaf count cut_short leaves =
      let all = rows_script old.public select (record seen { end = Cut n }) in
      let cut : PassCut e all (from old.vault.next) (world_of state old s) (at state v t) =
      subst (λ (l : List Access). PassCut e l (from old.vault.next) (world_of state old s) (at state v t)) (same_script old.public (rows_skeleton select) seen (Cut n)) cut_short in
      let first : t.asked ≡ s.asked ++ take n all = began_take all _ _ cut.began ∙ ap (λ (k : ℕ). s.asked ++ take k all) (sym count) in
      record {
        asked = first;
        later = cut.lasts.later;
        keys = cut.lasts.keys;
        start = cut.lasts.start;
        from_closing = refl;
        replaced = refl;
        ends = cut_ends e n ∙ ap (result_end (answer_of e)) count;
        asks = asks_cut e s t cut.asks;
        cause = cut_cause e _ _ cut.cause;
        room = rows_free;
        opened = opens_by (take n all) first;
        leaves = λ d of. inl (leaf, λ goes. refl);
        goes_on = cut_on e (record seen { end = Cut n })
            (rows_on (record seen { end = Cut n }) (take n all) false unkeyed refl cut.lasts.ready cut.lasts.start cut.lasts.keys first refl (rows_tables cut.lasts leaves));
        stays = λ q left. absurd (cc left);
        kept = λ saves q below. cut.lasts.apart.rests q (λ above. omega (arith, below, above));
        indexed = λ stops. absurd (no_access e stops);
      }
