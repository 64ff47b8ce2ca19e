-- What is seen of a SELECT of rows is lawful, whatever the store does.
use Rattle.ob_exec.proofs.Words.{Access, AfterCount, ap, arith, Cut, End, false, Hash, inl, inr, is_access, is_fault, IsSome, Lawful, length, List, MayHold, None, not, Option, outcome_end, PadPassed, Plan, Public, refl, Refusal, refusal_now, rows_script, same_script, Seen, Selected, selected_outcome, Selection, selection, Small, Some, Static, Stmt, subst, sym, until_end, Whole, ℕ, ◌+◌, ◌-◌, ◌≡◌, ◌≤◌, ◌⊎◌}
use Rattle.ob_base.specs.declared.refusal.Refusal.TheVariants.{NotConsecutive, Overflow}
use Rattle.ob_sql.specs.declared.stmt.SelectRows.{SelectRows}
use Rattle.ob_sql.specs.declared.stmt.Stmt.TheVariants.{SelectRows as RowsStmt}
use Rattle.ob_mean.specs.Lawful.{Holds, EndsUncounted, EndsUnplanned as Unplanned, EndsFrom, CutUpTo}
use Rattle.ob_select.specs.declared.selecting.Selected.TheVariants.{Rows, Refused}
use Rattle.ob_select.specs.Selecting.{EndsSelected, EndsCounted, EndsPadded}
use Rattle.ob_mean.specs.Replay.{ending_len}
use Rattle.ob_tables.proofs.LawfulLemmas.{leaf_none}
use Rattle.ob_exec.specs.Sources.{rows_skeleton, ReachesRows}

-- ---- how it ends
whole_padded : (q : Selection) (seen : Seen) → EndsPadded q seen → seen.end ≡ Whole
whole_padded q seen is = ap (λ (x : Seen). x.end) is.nothing

whole_rows : (q : Selection) (seen : Seen) → EndsCounted seen ⊎ EndsPadded q seen → seen.end ≡ Whole
whole_rows q seen (inl is) = is.end
whole_rows q seen (inr is) = whole_padded q seen is

pub ended_end : (q : Selection) (answer : Selected) (seen : Seen) (n : ℕ) → EndsSelected q answer seen → seen.end ≡ outcome_end (selected_outcome answer) n
ended_end q (Rows k) seen n is = whole_rows q seen is
ended_end q (Refused PadPassed) seen n is = whole_padded q seen is
ended_end q (Refused NotConsecutive) seen n is = is.end
ended_end q (Refused (Overflow i)) seen n is = is.end
ended_end q (Refused r) seen n is = absurd is

pub ended_whole : (q : Selection) (answer : Selected) (seen : Seen) (all : List Access) → EndsSelected q answer seen → until_end seen.end all ≡ all
ended_whole q (Rows k) seen all is = ap (λ (e : End). until_end e all) (whole_rows q seen is)
ended_whole q (Refused PadPassed) seen all is = ap (λ (e : End). until_end e all) (whole_padded q seen is)
ended_whole q (Refused NotConsecutive) seen all is = ap (λ (e : End). until_end e all) is.end
ended_whole q (Refused (Overflow i)) seen all is = ap (λ (e : End). until_end e all) is.end
ended_whole q (Refused r) seen all is = absurd is

pub ended_well : (q : Selection) (answer : Selected) (seen : Seen) → EndsSelected q answer seen → is_fault (selected_outcome answer) ≡ false
ended_well q (Rows k) seen is = refl
ended_well q (Refused PadPassed) seen is = refl
ended_well q (Refused NotConsecutive) seen is = refl
ended_well q (Refused (Overflow i)) seen is = refl
ended_well q (Refused r) seen is = absurd is

whole_static : (e : End) → e ≡ Whole → e ≡ Static → ⊥
whole_static e is other = cc

after_static : (e : End) → e ≡ AfterCount → e ≡ Static → ⊥
after_static e is other = cc

pub ended_late : (q : Selection) (answer : Selected) (seen : Seen) → EndsSelected q answer seen → seen.end ≡ Static → ⊥
ended_late q (Rows k) seen is static = whole_static seen.end (whole_rows q seen is) static
ended_late q (Refused PadPassed) seen is static = whole_static seen.end (whole_padded q seen is) static
ended_late q (Refused NotConsecutive) seen is static = after_static seen.end is.end static
ended_late q (Refused (Overflow i)) seen is static = whole_static seen.end is.end static
ended_late q (Refused r) seen is static = absurd is

pub ended_uncut : (q : Selection) (answer : Selected) (seen : Seen) (m : ℕ) → EndsSelected q answer seen → CutUpTo m seen.end
ended_uncut q (Rows k) seen m is = subst (λ (e : End). CutUpTo m e) (sym (whole_rows q seen is)) tt
ended_uncut q (Refused PadPassed) seen m is = subst (λ (e : End). CutUpTo m e) (sym (whole_padded q seen is)) tt
ended_uncut q (Refused NotConsecutive) seen m is = subst (λ (e : End). CutUpTo m e) (sym is.end) tt
ended_uncut q (Refused (Overflow i)) seen m is = subst (λ (e : End). CutUpTo m e) (sym is.end) tt
ended_uncut q (Refused r) seen m is = absurd is

-- ---- what is held together
abbrev pub seen_as : Option ℕ → (plan second : Option Plan) → End → Seen
seen_as k plan second end = record { k = k; plan = plan; then = second; leaf = None; end = end }

-- as it is, where no leaf was read
pub unread : (seen : Seen) → seen.leaf ≡ None → seen ≡ seen_as seen.k seen.plan seen.then seen.end
unread seen leaf = λ i. record { k = seen.k; plan = seen.plan; then = seen.then; leaf = leaf i; end = seen.end }

-- without a count where results are padded alone
pub uncounted : (q : Selection) (answer : Selected) (end : End) → EndsSelected q answer (seen_as None None None end) → EndsPadded q (seen_as None None None end)
uncounted q (Rows k) end (inl is) = let none : None ≡ Some is.counted = is.count in absurd (cc)
uncounted q (Rows k) end (inr is) = is
uncounted q (Refused PadPassed) end is = is
uncounted q (Refused NotConsecutive) end is = let none : None ≡ Some is.k = is.count in absurd (cc)
uncounted q (Refused (Overflow i)) end is = let none : None ≡ Some Hash = is.plan in absurd (cc)
uncounted q (Refused r) end is = absurd is

ends_uncounted : (p : Public) (stmt : Stmt) (end : End) → end ≡ Whole → IsSome p.pad → EndsUncounted p stmt end
ends_uncounted p stmt end is padded = subst (λ (e : End). EndsUncounted p stmt e) (sym is) (inr padded)

planned : (q : Selection) (answer : Selected) (k : ℕ) (plan : Plan) (second : Option Plan) (end : End) → EndsSelected q answer (seen_as (Some k) (Some plan) second end) → end ≡ Whole
planned q (Rows n) k plan second end is = whole_rows q (seen_as (Some k) (Some plan) second end) is
planned q (Refused PadPassed) k plan second end is = whole_padded q (seen_as (Some k) (Some plan) second end) is
planned q (Refused NotConsecutive) k plan second end is = let none : Some plan ≡ None = is.plan in absurd (cc)
planned q (Refused (Overflow i)) k plan second end is = is.end
planned q (Refused r) k plan second end is = absurd is

some_none : (k : ℕ) → Some k ≡ None → ⊥
some_none k is = cc

unplanned : (q : Selection) (answer : Selected) (k m : ℕ) (end : End) → EndsSelected q answer (seen_as (Some k) None None end) → Unplanned q.public k m end
unplanned q (Rows n) k m end (inr is) = absurd (some_none k (ap (λ (x : Seen). x.k) is.nothing))
unplanned q (Refused PadPassed) k m end is = absurd (some_none k (ap (λ (x : Seen). x.k) is.nothing))
unplanned q (Rows n) k m end (inl is) =
    let same : Some k ≡ Some is.counted = is.count in
    let zero_is : k ≡ 0 = omega (arith, unwrapped k is.counted same, is.none refl) in
    subst (λ (e : End). Unplanned q.public k m e) (sym is.end) zero_is
  where
    unwrapped : (a b : ℕ) → Some a ≡ Some b → a ≡ b
    unwrapped a b same = cc
unplanned q (Refused NotConsecutive) k m end is =
    let same : Some k ≡ Some is.k = is.count in
    let some : 1 ≤ k = omega (arith, is.some, unwrapped k is.k same) in
    subst (λ (e : End). Unplanned q.public k m e) (sym is.end) (some, is.forced)
  where
    unwrapped : (a b : ℕ) → Some a ≡ Some b → a ≡ b
    unwrapped a b same = cc
unplanned q (Refused (Overflow i)) k m end is = let none : None ≡ Some Hash = is.plan in absurd (cc)
unplanned q (Refused r) k m end is = absurd is

from_whole : (m : ℕ) (end : End) → end ≡ Whole → EndsFrom m end
from_whole m end is = subst (λ (e : End). EndsFrom m e) (sym is) tt

module _ (p : Public) (select : SelectRows) (unkeyed : is_access p (rows_skeleton select) ≡ false) where
  abbrev Holding : Option ℕ → (plan second : Option Plan) → End → Type 0
  Holding k plan second end = Holds p (RowsStmt select) (seen_as k plan second end) k plan second

  -- of one that came to its end, or was refused for its rows
  holds_ended : (answer : Selected) (k : Option ℕ) (plan second : Option Plan) (end : End) → MayHold (selection p select) k plan second
      → EndsSelected (selection p select) answer (seen_as k plan second end) → Holding k plan second end
  holds_ended answer None None None end may is =
      let padded = uncounted (selection p select) answer end is in
      ends_uncounted p (RowsStmt select) end (whole_padded (selection p select) (seen_as None None None end) padded) padded.padded
  holds_ended answer None None (Some second) end may is = absurd may
  holds_ended answer None (Some plan) second end may is = absurd may
  holds_ended answer (Some k) None None end may is = (record { counted = ap not unkeyed; unpadded = may.0.unpadded; most = may.0.most }, unplanned (selection p select) answer k _ end is)
  holds_ended answer (Some k) None (Some second) end may is = absurd may
  holds_ended answer (Some k) (Some plan) None end may is = (
    record { counted = ap not unkeyed; unpadded = may.0.unpadded; most = may.0.most },
    record { some = may.1.some; chosen = (may.1.consecutive, may.1.chosen) },
    from_whole _ end (planned (selection p select) answer k plan None end is),
  )
  holds_ended answer (Some k) (Some Hash) (Some Small) end may is = (
    record { counted = ap not unkeyed; unpadded = may.0.unpadded; most = may.0.most },
    record { some = may.1.some; chosen = (may.1.consecutive, may.1.chosen) },
    from_whole _ end (planned (selection p select) answer k Hash (Some Small) end is),
    may.2,
  )
  holds_ended answer (Some k) (Some plan) (Some second) end may is = absurd may

  -- of one that was cut off after n accesses
  holds_cut : (k : Option ℕ) (plan second : Option Plan) (end : End) (n : ℕ) → MayHold (selection p select) k plan second
      → ReachesRows p select (seen_as k plan second end) n → Holding k plan second (Cut n)
  holds_cut None None None end n may reached = tt
  holds_cut None None (Some second) end n may reached = absurd may
  holds_cut None (Some plan) second end n may reached = absurd may
  holds_cut (Some k) None None end n may reached = (record { counted = ap not unkeyed; unpadded = may.0.unpadded; most = may.0.most }, (reached.count refl, may.1))
  holds_cut (Some k) None (Some second) end n may reached = absurd may
  holds_cut (Some k) (Some plan) None end n may reached = (
    record { counted = ap not unkeyed; unpadded = may.0.unpadded; most = may.0.most },
    record { some = may.1.some; chosen = (may.1.consecutive, may.1.chosen) },
    reached.count refl,
  )
  holds_cut (Some k) (Some Hash) (Some Small) end n may reached = (
    record { counted = ap not unkeyed; unpadded = may.0.unpadded; most = may.0.most },
    record { some = may.1.some; chosen = (may.1.consecutive, may.1.chosen) },
    subst (λ (l : List Access). length l - (ending_len (rows_skeleton select) + 1) ≤ n) (same_script p (rows_skeleton select) (seen_as (Some k) (Some Hash) None end) (Cut n)) (reached.walk refl),
    may.2,
  )
  holds_cut (Some k) (Some plan) (Some second) end n may reached = absurd may

  module _ (m : ℕ) (now : refusal_now p m (RowsStmt select) ≡ None) where
    none_early : IsSome (refusal_now p m (RowsStmt select)) → ⊥
    none_early some = let is = subst (λ (o : Option Refusal). IsSome o) now some in cc is

    pub lawful_ended : (answer : Selected) (seen : Seen) → MayHold (selection p select) seen.k seen.plan seen.then → seen.leaf ≡ None
        → EndsSelected (selection p select) answer seen → Lawful p m (RowsStmt select) seen
    lawful_ended answer seen may leaf is = record {
      static = (λ static. absurd (ended_late (selection p select) answer seen is static), λ some. absurd (none_early some));
      holds = subst (λ (x : Seen). Holds p (RowsStmt select) x seen.k seen.plan seen.then) (sym (unread seen leaf))
          (holds_ended answer seen.k seen.plan seen.then seen.end may (subst (EndsSelected (selection p select) answer) (unread seen leaf) is));
      leaf = leaf_none p (RowsStmt select) seen.leaf seen.end unkeyed leaf;
      cut = ended_uncut (selection p select) answer seen _ is;
    }

    cut_static : (n : ℕ) → Cut n ≡ Static → ⊥
    cut_static n is = cc

    pub lawful_cut : (seen : Seen) (n : ℕ) → MayHold (selection p select) seen.k seen.plan seen.then → seen.leaf ≡ None → ReachesRows p select seen n
        → n ≤ length (rows_script p select seen) → Lawful p m (RowsStmt select) (record seen { end = Cut n })
    lawful_cut seen n may leaf reached most = record {
      static = (λ static. absurd (cut_static n static), λ some. absurd (none_early some));
      holds = subst (λ (x : Seen). Holds p (RowsStmt select) x seen.k seen.plan seen.then) (sym (unread (record seen { end = Cut n }) leaf))
          (holds_cut seen.k seen.plan seen.then seen.end n may (subst (λ (x : Seen). ReachesRows p select x n) (unread seen leaf) reached));
      leaf = leaf_none p (RowsStmt select) seen.leaf (Cut n) unkeyed leaf;
      cut = subst (λ (l : List Access). n ≤ length l) (same_script p (rows_skeleton select) seen (Cut n)) most;
    }
