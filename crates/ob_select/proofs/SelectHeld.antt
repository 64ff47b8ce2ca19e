-- What is held of a selection that was cut off.
use Rattle.std.proofs.Common.{◌≡◌, ◌⊎◌, inl, inr, ◌≤◌, ◌<◌, ◌+◌, ◌-◌, ℕ, Bool, true, false, IsTrue, List, [], ◌∷◌, ◌++◌, Option, None, Some, length, refl, sym, ◌∙◌, ap, subst, arith, length-append}
use Rattle.std.specs.Prelude.{nat_le, if◌then◌else◌}
use Rattle.std.proofs.lemmas.Bool.Decides.{nat_tests}
use Rattle.ob_base.specs.declared.config.Plan.{Plan}
use Rattle.ob_base.specs.declared.config.Plan.TheVariants.{Small, Large, Continuous, Hash}
use Rattle.ob_base.specs.declared.config.Public.{Public}
use Rattle.ob_base.specs.declared.seen.Seen.{Seen}
use Rattle.ob_base.specs.declared.seen.End.TheVariants.{Whole, AfterCount}
use Rattle.ob_row.specs.Slots.{Slots, is_consecutive}
use Rattle.ob_script.specs.Script.{after_count, extent_of}
use Rattle.ob_script.proofs.Lengths.{length-count_part}
use Rattle.ob_flat.specs.declared.fault.OpErr.{OpErr}
use Rattle.ob_flat.specs.declared.fault.OpErr.TheVariants.{Failed, Tampered, Sink, NoMemory}
use Rattle.ob_mean.specs.Verdict.{counted, ended as seen_to, seen_by, seen_rows, seen_with, plan_for}
use Rattle.ob_mean.specs.Replay.{done_of, held_if}
use Rattle.ob_flat.specs.Passes.{is_of_access}
use Rattle.ob_select.specs.Settings.{AreSettings}
use Rattle.ob_select.specs.Selecting.{Selection, HoldsSeen, region_of, counted_after, walked_after, selection_seen, places}
use Rattle.ob_select.specs.Results.{planned, whole_part}
use Rattle.ob_select.proofs.ResultParts.{length_hash}
use Rattle.ob_base.specs.declared.access.Access.{Access}
use Rattle.ob_select.proofs.SelectRuns.{counts_of, script_is}

is_le : (a b : ℕ) → a ≤ b → nat_le a b ≡ true
is_le a b le = grind (arith, nat_tests)

not_le : (a b : ℕ) → b < a → nat_le a b ≡ false
not_le a b lt = grind (arith, nat_tests)

held_so : {A : Type 0} (b : Bool) (o p : Option A) → b ≡ true → o ≡ p → o ≡ held_if b p
held_so true o p is same = same
held_so false o p is same = absurd (cc is)

not_held : {A : Type 0} (b : Bool) (o : Option A) → b ≡ false → None ≡ held_if b o
not_held false o is = refl
not_held true o is = absurd (cc is)

pub held_empty : {A : Type 0} (b : Bool) (o : Option A) → o ≡ None → None ≡ held_if b o
held_empty true o is = sym is
held_empty false o is = refl

-- a second plan is seen only after a Hash
record IsHashed (pad : Option ℕ) (seen : Seen) (n : ℕ) : Type 0 where
  unpadded : pad ≡ None
  k : seen.k ≡ Some n
  plan : seen.plan ≡ Some Hash

then_with : (p : Public) (plan : Plan) (chosen : List ℕ) → ((seen_with p plan chosen).then ≡ None) ⊎ IsHashed None (seen_with p plan chosen) (length chosen)
then_with p Small chosen = inl refl
then_with p Large chosen = inl refl
then_with p Hash chosen = inr (record { unpadded = refl; k = refl; plan = refl })
then_with p Continuous chosen = go (is_consecutive chosen)
  where
    go : (b : Bool) → ((if b then counted (length chosen) (Some Continuous) None Whole else counted (length chosen) None None AfterCount).then ≡ None)
        ⊎ IsHashed None (if b then counted (length chosen) (Some Continuous) None Whole else counted (length chosen) None None AfterCount) (length chosen)
    go true = inl refl
    go false = inl refl

then_by : (pad : Option ℕ) (p : Public) (n : ℕ) (chosen : List ℕ) → ((seen_by pad p n chosen).then ≡ None) ⊎ IsHashed pad (seen_by pad p n chosen) (length chosen)
then_by None p n [] = inl refl
then_by None p n (i ∷ is) = then_with p (plan_for p n (i ∷ is)) (i ∷ is)
then_by (Some pad) p n chosen = inl refl

then_rows : (p : Public) (n : ℕ) (chosen : List ℕ) → ((seen_rows p n chosen).then ≡ None) ⊎ IsHashed p.pad (seen_rows p n chosen) (length chosen)
then_rows p n chosen = then_by p.pad p n chosen

-- the accesses until a Hash's result was read back
pub walked_hash : (q : Selection) (k : ℕ) → AreSettings q.public → q.public.pad ≡ None → walked_after q (counted k (Some Hash) (Some Small) Whole) + 1 ≡ counted_after q + length (whole_part (planned q Hash k) 0)
walked_hash q k settings unpadded =
    omega (arith, ap (λ (xs : List Access). length xs) (script_is q (counted k (Some Hash) None Whole) 0 unpadded), length-append (counts_of q) (whole_part (planned q Hash k) 0 ++ []), length-count_part q.flat.region (counted_after q), length-append (whole_part (planned q Hash k) 0) [], length_hash q k 0 settings)

walked_same : (q : Selection) (seen : Seen) (n : ℕ) → IsHashed q.public.pad seen n → walked_after q seen ≡ walked_after q (counted n (Some Hash) (Some Small) Whole)
walked_same q seen n is =
    ap (λ (xs : List Access). length xs - 1) (script_is q (record seen { then = None }) 0 is.unpadded)
    ∙ (λ i. length (counts_of q ++ after_count q.public (record { k = is.k i; plan = is.plan i; then = None; leaf = seen.leaf; end = seen.end }) (is.k i) 0 (extent_of (region_of q)) []) - 1)
    ∙ sym (ap (λ (xs : List Access). length xs - 1) (script_is q (counted n (Some Hash) None Whole) 0 is.unpadded))

walked_long : (q : Selection) (seen : Seen) (n : ℕ) → AreSettings q.public → IsHashed q.public.pad seen n → counted_after q + 1 ≤ walked_after q seen
walked_long q seen n settings is = omega (arith, walked_same q seen n is, walked_hash q n settings is.unpadded, length_hash q n 0 settings)

few_done : (e : OpErr) (n m : ℕ) → is_of_access e ≡ true → n ≤ m → 1 ≤ m → done_of (is_of_access e) n < m
few_done Failed n m is le some = omega (arith, le, some)
few_done (Tampered r x) n m is le some = omega (arith, le, some)
few_done Sink n m is le some = absurd (cc is)
few_done NoMemory n m is le some = absurd (cc is)

-- the count was cut off
pub uncounted_held : (q : Selection) (slots : Slots) (e : OpErr) (n : ℕ) → AreSettings q.public → is_of_access e ≡ true → n ≤ counted_after q → 1 ≤ counted_after q
    → HoldsSeen q slots (is_of_access e) n (seen_to Whole)
uncounted_held q slots e n settings is few some =
    let less = few_done e n (counted_after q) is few some in
    record {
      k = not_held _ (selection_seen q slots).k (not_le _ _ less);
      plan = not_held _ (selection_seen q slots).plan (not_le _ _ less);
      second = elim (then_rows q.public (length slots) (places q slots)) [
        | inl none ↦ held_empty _ (selection_seen q slots).then none
        | inr hashed ↦ not_held _ (selection_seen q slots).then (not_le _ _ (omega (arith, less, walked_long q (selection_seen q slots) (length (places q slots)) settings hashed)))
      ];
    }

-- after the count
pub counted_held : (q : Selection) (slots : Slots) (k : ℕ) (plan : Option Plan) (failed : Bool) (n : ℕ) → selection_seen q slots ≡ counted k plan None Whole → counted_after q ≤ done_of failed n
    → HoldsSeen q slots failed n (counted k plan None Whole)
counted_held q slots k plan failed n seen enough = record {
  k = held_so _ _ (selection_seen q slots).k (is_le _ _ enough) (sym (ap (λ (s : Seen). s.k) seen));
  plan = held_so _ _ (selection_seen q slots).plan (is_le _ _ enough) (sym (ap (λ (s : Seen). s.plan) seen));
  second = held_empty _ (selection_seen q slots).then (ap (λ (s : Seen). s.then) seen);
}

-- before a Hash's result was read back
pub walking_held : (q : Selection) (slots : Slots) (k : ℕ) (failed : Bool) (n : ℕ) → selection_seen q slots ≡ counted k (Some Hash) (Some Small) Whole → counted_after q ≤ done_of failed n
    → done_of failed n < walked_after q (counted k (Some Hash) (Some Small) Whole)
    → HoldsSeen q slots failed n (counted k (Some Hash) None Whole)
walking_held q slots k failed n seen enough less = record {
  k = held_so _ _ (selection_seen q slots).k (is_le _ _ enough) (sym (ap (λ (s : Seen). s.k) seen));
  plan = held_so _ _ (selection_seen q slots).plan (is_le _ _ enough) (sym (ap (λ (s : Seen). s.plan) seen));
  second = not_held _ (selection_seen q slots).then (not_le _ _ (subst (λ (s : Seen). done_of failed n < walked_after q s) (sym seen) less));
}

-- and after it
pub walked_held : (q : Selection) (slots : Slots) (k : ℕ) (failed : Bool) (n : ℕ) → selection_seen q slots ≡ counted k (Some Hash) (Some Small) Whole → counted_after q ≤ done_of failed n
    → walked_after q (counted k (Some Hash) (Some Small) Whole) ≤ done_of failed n
    → HoldsSeen q slots failed n (counted k (Some Hash) (Some Small) Whole)
walked_held q slots k failed n seen enough walked = record {
  k = held_so _ _ (selection_seen q slots).k (is_le _ _ enough) (sym (ap (λ (s : Seen). s.k) seen));
  plan = held_so _ _ (selection_seen q slots).plan (is_le _ _ enough) (sym (ap (λ (s : Seen). s.plan) seen));
  second = held_so _ _ (selection_seen q slots).then (is_le _ _ (subst (λ (s : Seen). walked_after q s ≤ done_of failed n) (sym seen) walked)) (sym (ap (λ (s : Seen). s.then) seen));
}

-- of a selection of which nothing is seen
pub nothing_held : (q : Selection) (slots : Slots) (failed : Bool) (n : ℕ) → selection_seen q slots ≡ seen_to Whole → HoldsSeen q slots failed n (seen_to Whole)
nothing_held q slots failed n is = record {
  k = held_empty _ (selection_seen q slots).k (ap (λ (s : Seen). s.k) is);
  plan = held_empty _ (selection_seen q slots).plan (ap (λ (s : Seen). s.plan) is);
  second = held_empty _ (selection_seen q slots).then (ap (λ (s : Seen). s.then) is);
}

-- how many were carried out, of those after the first m
pub done_behind : (e : OpErr) (n m : ℕ) → m ≤ n → (IsTrue (is_of_access e) → m < n) → m ≤ done_of (is_of_access e) n
done_behind Failed n m le lt = omega (arith, lt refl)
done_behind (Tampered r x) n m le lt = omega (arith, lt refl)
done_behind Sink n m le lt = le
done_behind NoMemory n m le lt = le

pub done_within : (e : OpErr) (n m d w : ℕ) → d ≡ n + m → 1 ≤ n → done_of (is_of_access e) m + 1 < w → done_of (is_of_access e) d + 1 < n + w
done_within Failed n m d w is some lt = omega (arith, is, some, lt)
done_within other n m d w is some lt = omega (arith, is, some, lt)
