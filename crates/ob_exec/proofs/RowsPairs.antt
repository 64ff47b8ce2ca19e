-- A SELECT of a join that its pairing stopped.
use Rattle.ob_exec.proofs.Words.{Access, answer_events, ap, append_assoc, arith, Bool, count_end, done_of, Event, false, from, HaltsRows, header, inl, inr, is_access, is_of_access, IsSome, LeavesNone, length, length-append, List, MayHold, OpErr, PassCut, Public, ReadsIn, rows_script, SealsRows, Seen, selection, selection_seen, slots_of, SourceToEnd, SourceToHalt, subst, sym, true, Whole, World, ℕ, [], ◌++◌, ◌-◌, ◌<◌, ◌∙◌, ◌∷◌, ◌≡◌, ◌≤◌, ◌⊎◌}
use Rattle.ob_select.proofs.UntilLemmas.{until_none}
use Rattle.ob_store.specs.Runs.{Did}
use Rattle.ob_flat.specs.declared.fault.OpErr.TheVariants as OpErrs
use Rattle.ob_flat.proofs.Runs.{pass_more}
use Rattle.ob_mean.specs.Verdict.{ended as seen_to}
use Rattle.ob_sql.specs.declared.stmt.SelectRows.{SelectRows}
use Rattle.ob_select.specs.Memory.{is_make}
use Rattle.ob_select.proofs.LieLemmas.{cut_in}
use Rattle.ob_exec.specs.Sources.{rows_skeleton}
use Rattle.ob_exec.proofs.RowsNothing.{holds_nothing}

done_within : (failed : Bool) (n : ℕ) → done_of failed n ≤ n
done_within true n = omega arith
done_within false n = omega arith

module _ {E : Type 0} (grew cut : E → E → List Event → Type 0) (p : Public) (select : SelectRows) (now : Seen) (a b : World) (out : E) (x more : List Access) (make : Access) (fill : List Access) (e : OpErr)
    (script_is : rows_script p select now ≡ x ++ more) (begins : (y : Seen) → (behind : List Access) × (rows_script p select y ≡ x ++ behind)) (makes : x ≡ (make ∷ []) ++ fill) (is_one : is_make make ≡ true) (halts : PassCut e x (from a.vault.next) a b) (leaves : LeavesNone a b) (seals : SealsRows p.pack a b)
    (fresh : now ≡ seen_to Whole) (counts : length x < count_end p (rows_skeleton select)) (memory : e ≡ OpErrs.NoMemory → Did (make ∷ []) a.store b.store)
    (no_sink : e ≡ OpErrs.Sink → ⊥) (honest : SourceToEnd p a b → (e ≡ OpErrs.Failed) ⊎ (e ≡ OpErrs.NoMemory)) (unkeyed : is_access p (rows_skeleton select) ≡ false) where
  short : length b.store.asked - length a.store.asked ≤ length x
  short =
      let asked = ap length halts.began.asked in
      let sum = length-append a.store.asked halts.began.done in
      let split = ap length halts.began.split in
      let parts = length-append halts.began.done halts.began.rest in
      omega (arith, asked, sum, split, parts)

  -- nothing was counted or emitted by then
  pub pairs_halt : HaltsRows grew cut p select e now a b out out
  pairs_halt = record {
    ran = subst (λ (all : List Access). PassCut e all (from a.vault.next) a b) (sym script_is) (pass_more (from a.vault.next) a b e x more halts);
    leaves = leaves;
    seals = seals;
    holds = subst (λ (y : Seen). MayHold (selection p select) y.k y.plan y.then) (sym fresh) tt;
    leaf = ap (λ (y : Seen). y.leaf) fresh;
    reached = record {
      count = λ some. let is = subst (λ (y : Seen). IsSome y.k) fresh some in absurd (cc is);
      walk = λ some. let is = subst (λ (y : Seen). IsSome y.then) fresh some in absurd (cc is);
    };
    memory = λ wanted. record {
      done = make ∷ [];
      rest = fill ++ more;
      split = sym (append_assoc (make ∷ []) fill more) ∙ ap (λ (y : List Access). y ++ more) (sym makes) ∙ sym script_is;
      asked = (memory wanted).asked;
      place = inl (inr is_one);
    };
    halted = until_none grew cut (header (selection p select).flat.schema (selection p select).cols) e (λ (y : SourceToHalt p a b). answer_events (selection p select) (slots_of p select y.tables)) out no_sink;
    begun = λ y lie told.
        let meant = begins (selection_seen (selection p select) (slots_of p select y.tables)) in
        subst (ReadsIn lie) (ap (λ (l : List Access). a.store.asked ++ l) (sym meant.1)) (cut_in e x meant.0 a b lie halts y.nolie told);
    honest = λ y. elim (honest y) [ inl failed ↦ inl failed | inr wanted ↦ inr (inr wanted) ];
    held = λ y.
        let n = length b.store.asked - length a.store.asked in
        let within = done_within (is_of_access e) n in
        let few = short in
        holds_nothing p select (slots_of p select y.tables) (is_of_access e) n now fresh (omega (arith, within, few, counts)) unkeyed;
  }
