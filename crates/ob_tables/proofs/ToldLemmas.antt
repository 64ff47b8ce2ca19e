-- What a statement did is what it means.
use Rattle.ob_tables.proofs.Words.{allowed, answer_of, ap, AreHeld, arith, Bool, by_fault, cases_lt, Cut, Draws, early_refusal, End, false, followed, Heading, headings, headings_of, Index, inl, inr, is_access, is_fault, is_late, is_store_fault, IsSilent, limits_of, List, nat_lt, None, Ok, OpErr, Option, Outcome, Public, refl, Refusal, refusal_now, Refused, refused_end, Result, RunStop, Seen, seen, Skeleton, skeleton, Some, Static, Stmt, subst, sym, Tables, true, Whole, World, ℕ, [], ◌-◌, ◌<◌, ◌^◌, ◌∙◌, ◌∷◌, ◌≡◌, ◌⊎◌}
use Rattle.std.proofs.Common.{min}
use Rattle.std.proofs.lemmas.Bool.{le-leb, lt-leb}
use Rattle.std.specs.Prelude.{nat_le, ⊤}
use Rattle.ob_base.specs.declared.refusal.Refusal.TheVariants.{NoTable, NameTaken, NoColumn, WrongType, ValueRange, Limit, KeyRule, JoinKey, NeedsKey}
use Rattle.ob_flat.specs.declared.fault.OpErr.TheVariants as OpErrs
use Rattle.ob_mean.specs.Refusals.{first_holding, early_conditions}
use Rattle.ob_mean.specs.Step.{answered}
use Rattle.ob_mean.proofs.VerdictLemmas.{seen_flat}
use Rattle.ob_mean.specs.Replay.{done_of, cut_at, count_end, walk_end}
use Rattle.ob_mean.specs.Verdict.{seen_started, ended as seen_to}
use Rattle.ob_flat.specs.declared.flat.Flat.{Flat}
use Rattle.ob_flat.specs.Words.{TamperedIn}
use Rattle.ob_tables.specs.Running.{RefusedEarly}
use Rattle.ob_tables.proofs.HeldLemmas.{held_headings, held_plain}
use Rattle.ob_tables.proofs.RunLemmas.{of_other, IsAnswered, IsEarly, early_few}
use Rattle.ob_select.proofs.SelectHeld.{held_empty}

pub followed_same : (o : Option Refusal) (tables : Tables) → followed o tables tables ≡ tables
followed_same None tables = refl
followed_same (Some r) tables = refl

-- the refusal by what is public is that by the tables in place
pub early_held : (p : Public) (m : ℕ) (stmt : Stmt) (tables : Tables) (indexes : List Index) (w : World) (o : Option Refusal) → AreHeld p.pack indexes p.tables tables w → refusal_now p m stmt ≡ o
    → early_refusal (is_late m) (limits_of p) (headings tables) stmt ≡ o
early_held p m stmt tables indexes w o held now =
    ap (λ (hs : List Heading). early_refusal (is_late m) (limits_of p) hs stmt) (held_headings p.pack indexes p.tables tables w held) ∙ now

-- a statement that is not refused before any access
module _ (p : Public) (m : ℕ) (stmt : Stmt) (now : refusal_now p m stmt ≡ None) where
  pub started_seen : (tables : Tables) (d : Draws) (indexes : List Index) (w : World) → is_access p (skeleton stmt) ≡ false → AreHeld p.pack indexes p.tables tables w → seen d p m tables stmt ≡ seen_started p tables stmt
  started_seen tables d indexes w none held =
      seen_flat p m tables stmt (early_held p m stmt tables indexes w None held now) d (held_plain p indexes tables w stmt held none)

  pub few_asked : (n : ℕ) → n ≡ m → n < 9799832789158199296
  few_asked n same = early_few m n (allowed (is_late m) (limits_of p) (headings_of p.tables) stmt now).early same

-- an answer that is none by the store
pub told_whole : (outcome : Outcome) (whole cut : Type 0) → IsAnswered outcome → whole → by_fault (is_fault outcome) cut whole
told_whole outcome whole cut answered is = of_other cut whole (is_fault outcome) answered.own is

-- nothing except the end is seen of a statement without a count that was cut off
pub cut_seen : (failed : Bool) (p : Public) (s : Skeleton) (n k : ℕ) (now : Seen) → now ≡ seen_to Whole → n ≡ k → seen_to (Cut n) ≡ cut_at failed k p s now
cut_seen failed p s n k now whole same =
    (λ i. record {
      k = held_empty (nat_le (count_end p s) (done_of failed k)) (seen_to (Cut k)).k refl i;
      plan = held_empty (nat_le (count_end p s) (done_of failed k)) (seen_to (Cut k)).plan refl i;
      then = held_empty (nat_le (walk_end p s (seen_to Whole)) (done_of failed k)) (seen_to (Cut k)).then refl i;
      leaf = held_empty (nat_lt p.stash k) (seen_to (Cut k)).leaf refl i;
      end = Cut (same i);
    })
    ∙ ap (cut_at failed k p s) (sym whole)

-- nothing except its end is seen of a statement
pub plain_as : (now : Seen) (end : End) → now ≡ seen_to end → now ≡ seen_to now.end
plain_as now end is = is ∙ ap (λ (x : Seen). seen_to x.end) (sym is)

-- a statement that was not refused before any access
pub started_whole : (now : Seen) → now ≡ seen_to Whole → now.end ≡ Static → ⊥
started_whole now is here = let ends : Whole ≡ Static = sym (ap (λ (x : Seen). x.end) is) ∙ here in absurd (cc ends)

pub started_cut : (now : Seen) (n : ℕ) → now ≡ seen_to (Cut n) → now.end ≡ Static → ⊥
started_cut now n is here = let ends : Cut n ≡ Static = sym (ap (λ (x : Seen). x.end) is) ∙ here in absurd (cc ends)

-- the block was not refused
abbrev pub IsFault : OpErr → Type 0
IsFault (OpErrs.Tampered q x) = ⊥
IsFault other = Unit {0}

-- an error that the store or want of memory made
pub fault_made : (e : OpErr) → (e ≡ OpErrs.Failed) ⊎ (e ≡ OpErrs.NoMemory) → IsFault e
fault_made e (inl is) = subst (λ (x : OpErr). IsFault x) (sym is) tt
fault_made e (inr is) = subst (λ (x : OpErr). IsFault x) (sym is) tt

-- a fault of the store, or want of memory, emits nothing
pub silent_fault : (e : OpErr) → (e ≡ OpErrs.Failed) ⊎ (e ≡ OpErrs.NoMemory) → IsSilent (answer_of e)
silent_fault e (inl is) = subst (λ (x : OpErr). IsSilent (answer_of x)) (sym is) tt
silent_fault e (inr is) = subst (λ (x : OpErr). IsSilent (answer_of x)) (sym is) tt

-- nor does any error of an INSERT's pass
pub silent_pass : {pack : ℕ} {flat : Flat} {w : World} (e : OpErr) → (e ≡ OpErrs.Failed) ⊎ (e ≡ OpErrs.NoMemory) ⊎ TamperedIn pack flat e w → IsSilent (answer_of e)
silent_pass e (inl is) = silent_fault e (inl is)
silent_pass e (inr (inl is)) = silent_fault e (inr is)
silent_pass e (inr (inr there)) = subst (λ (x : OpErr). IsSilent (answer_of x)) (sym there.is) tt

-- ---- a refusal before any access
abbrev AreEarly : List (Bool × Refusal) → Type 0
AreEarly [] = ⊤
AreEarly (x ∷ xs) = IsEarly x.1 × AreEarly xs

holding_early : (xs : List (Bool × Refusal)) (r : Refusal) → AreEarly xs → first_holding xs ≡ Some r → IsEarly r
holding_early [] r early is = absurd (cc is)
holding_early ((true, q) ∷ xs) r early is = let same : q ≡ r = cc is in subst (λ (x : Refusal). IsEarly x) same early.0
holding_early ((false, q) ∷ xs) r early is = holding_early xs r early.1 is

plain_early : (r : Refusal) → ((n : ℕ) → refused_end r n ≡ Static) → is_store_fault r ≡ false → IsEarly r
plain_early r static own = record { static = static; own = own }

pub early_is : (p : Public) (m : ℕ) (stmt : Stmt) (r : Refusal) → refusal_now p m stmt ≡ Some r → IsEarly r
early_is p m stmt r is = holding_early (early_conditions (is_late m) (limits_of p) (headings_of p.tables) stmt) r (
  plain_early NoTable (λ n. refl) refl,
  (
    plain_early NameTaken (λ n. refl) refl,
    (
      plain_early NoColumn (λ n. refl) refl,
      (
        plain_early WrongType (λ n. refl) refl,
        (plain_early ValueRange (λ n. refl) refl, (plain_early Limit (λ n. refl) refl, (plain_early KeyRule (λ n. refl) refl, (plain_early JoinKey (λ n. refl) refl, (plain_early NeedsKey (λ n. refl) refl, tt))))),
      ),
    ),
  ),
) is

pub refused_none : (o : Option Refusal) (result : Result Outcome RunStop) (now : Seen) → o ≡ None → (now.end ≡ Static → ⊥) → RefusedEarly o result now
refused_none None result now is started = started
refused_none (Some r) result now is started = absurd (cc is)

-- a refusal that was found is the answer
pub refused_some : (o : Option Refusal) (r : Refusal) (result : Result Outcome RunStop) (now : Seen) → o ≡ Some r → result ≡ Ok (Refused r) → now ≡ seen_to Static → RefusedEarly o result now
refused_some o r result now is answer seen = subst (λ (x : Option Refusal). RefusedEarly x result now) (sym is) (answer, seen)

-- a refusal that was found is that of the statement
pub now_is : (p : Public) (m n : ℕ) (stmt : Stmt) (o q : Option Refusal) → n ≡ min m (2 ^ 64 - 1) → o ≡ refusal_now p n stmt → o ≡ q → refusal_now p m stmt ≡ q
now_is p m n stmt o q count found is = ap (λ (late : Bool). early_refusal late (limits_of p) (headings_of p.tables) stmt) (late_as m n count) ∙ sym found ∙ is
  where
    -- a count that stands at the last value of a u64 is late
    late_as : (m n : ℕ) → n ≡ min m (2 ^ 64 - 1) → is_late m ≡ is_late n
    late_as m n count = elim (cases_lt m (2 ^ 63)) [
      | inl early ↦ lt-leb (2 ^ 63) m early ∙ sym (lt-leb (2 ^ 63) n (omega (arith, early, count)))
      | inr late ↦ le-leb (2 ^ 63) m late ∙ sym (le-leb (2 ^ 63) n (omega (arith, late, count)))
    ]
