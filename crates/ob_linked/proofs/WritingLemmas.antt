-- The blocks of a path, written one by one.
use Rattle.std.proofs.Common.{◌≡◌, ◌≤◌, ◌<◌, ◌≢◌, ℕ, suc, ◌+◌, ◌*◌, true, false, ◌==◌, ◌||◌, ◌⊎◌, inl, inr, List, [], ◌∷◌, Some, Result, Ok, Err, OnOk, refl, sym, ap, ◌∙◌, arith}
use Rattle.std.specs.Prelude.{not, map, if◌then◌else◌}
use Rattle.std.proofs.lemmas.Bool.{cases_eq, cases_Bool, ne_eqb, eq-eqb, eqb-true, or_left, or_right, or_from, true≢false}
use Rattle.ob_path.specs.Paths.{above}
use Rattle.ob_linked.specs.declared.version.Version.{Version}
use Rattle.ob_linked.specs.declared.writing.Step.{Step}
use Rattle.ob_linked.specs.declared.writing.Failed.{Failed}
use Rattle.ob_linked.specs.Linked.{Block, Cells, Tree, IsStoredIn, place_of, place_at, spare_at, block_at, blocks_of, is_among, with_block, with_blocks, turned, GoesUp, OnlySpares}
use Rattle.ob_linked.specs.Writing.{sealed_as, Puts, Spoils, buckets_of, rows_in, numbers_in, child_version, block_of, blocks_from, IsOther, KeepsOthers, Writes, Follows, FromRoot, IsStepOf, AreStepsOf, IsPathOf}
use Rattle.ob_linked.proofs.LinkedLemmas.{stays, new_lies, version_off, made_of}

-- ---- one write after the other
same_cells : (bs : List (Block ℕ)) (old new : Cells ℕ) → ((x : ℕ) → old x ≡ new x) → (x : ℕ) → with_blocks old bs x ≡ with_blocks new bs x
same_cells [] old new same x = same x
same_cells (b ∷ bs) old new same x = same_cells bs (with_block old b) (with_block new b) (λ y. ap (λ c. if y == b.at then Some b else c) (same y)) x

now_of : Step → ℕ → ℕ → Version
now_of s run number = record { side = not s.version.side; run = run; number = number }

other_first : (s : Step) (below : List Step) (x : ℕ) → x ≡ place_of s.bucket (not s.version.side) → IsOther (s ∷ below) x
other_first s below x is = inl is

other_more : (s : Step) (below : List Step) (x : ℕ) → IsOther below x → IsOther (s ∷ below) x
other_more s below x other = inr other

module _ (s : Step) (below : List Step) (run number : ℕ) (old mid new : Cells ℕ) (left right : Version)
    (left_is : left ≡ child_version (2 * s.bucket + 1) s.left below run (suc number)) (right_is : right ≡ child_version (2 * s.bucket + 2) s.right below run (suc number))
    (puts : Puts s.bucket (record { side = not s.version.side; run = run; number = number }) s.rows left right old mid) where
  put_is : (x : ℕ) → mid x ≡ with_block old (block_of s below run number) x
  put_is x =
      puts.is x
      ∙ ap (λ v. with_block old (sealed_as s.bucket (record { side = not s.version.side; run = run; number = number }) s.rows v right) x) left_is
      ∙ ap (λ v. with_block old (sealed_as s.bucket (record { side = not s.version.side; run = run; number = number }) s.rows (child_version (2 * s.bucket + 1) s.left below run (suc number)) v) x) right_is

  pub writes_more : (result : Result (Unit {0}) Failed) → Writes below run (suc number) result mid new → Writes (s ∷ below) run number result old new
  writes_more result w = record {
    keeps = record {
      others = λ x off. w.keeps.others x (λ o. off (other_more s below x o)) ∙ put_is x
          ∙ ap (λ test. if test then Some (block_of s below run number) else old x) (ne_eqb x (place_of s.bucket (not s.version.side)) (λ is. off (other_first s below x is)));
    };
    ok = by result w.ok;
  }
    where
      by : (r : Result (Unit {0}) Failed) → OnOk r ((x : ℕ) → new x ≡ with_blocks mid (blocks_from below run (suc number)) x) → OnOk r ((x : ℕ) → new x ≡ with_blocks old (blocks_from (s ∷ below) run number) x)
      by (Ok u) all = λ x. all x ∙ same_cells (blocks_from below run (suc number)) mid (with_block old (block_of s below run number)) put_is x
      by (Err e) none = tt

pub writes_spoiled : (s : Step) (below : List Step) (run number : ℕ) (old new : Cells ℕ) (e : Failed) → Spoils s.bucket (record { side = not s.version.side; run = run; number = number }) old new → Writes {T = Unit {0}} (s ∷ below) run number (Err e) old new
writes_spoiled s below run number old new e spoils = record {
  keeps = record { others = λ x off. spoils.others x (λ is. off (other_first s below x is)) };
  ok = tt;
}

-- ---- a path of a tree
below_more : (b c : ℕ) → 1 ≤ b → c ≢ 0 → above c ≡ b → 2 * b + 1 ≤ c
below_more b c some one is = omega (arith, some, one, is)

none_among : (b c : ℕ) (path : List Step) → 1 ≤ b → c ≤ 2 * b → Follows b path → is_among (buckets_of path) c ≡ false
none_among b c [] some less follows = refl
none_among b c (s ∷ path) some less (one, is, follows) =
    let more = below_more b s.bucket some one is in
    or_from (s.bucket == c) (is_among (buckets_of path) c) (ne_eqb s.bucket c (omega (arith, more, less))) (none_among s.bucket c path (omega (arith, more)) (omega (arith, more, less)) follows)

up_or_first : (b c : ℕ) (path : List Step) → Follows b path → c ≢ 0 → is_among (buckets_of path) c ≡ true → (above c ≡ b) ⊎ (is_among (buckets_of path) (above c) ≡ true)
up_or_first b c [] follows some none = absurd (true≢false (sym none))
up_or_first b c (s ∷ path) (one, is, follows) some there = elim (cases_Bool (s.bucket == c)) [
  | inl here ↦ inl (ap above (sym (eqb-true s.bucket c here)) ∙ is)
  | inr off ↦ by_rest (up_or_first s.bucket c path follows some (sym (ap (λ t. t || is_among (buckets_of path) c) off) ∙ there))
]
  where
    by_rest : (above c ≡ s.bucket) ⊎ (is_among (buckets_of path) (above c) ≡ true) → (above c ≡ b) ⊎ (is_among (buckets_of (s ∷ path)) (above c) ≡ true)
    by_rest (inl first) = inr (or_left (s.bucket == above c) (is_among (buckets_of path) (above c)) (eq-eqb s.bucket (above c) (sym first)))
    by_rest (inr more) = inr (or_right (s.bucket == above c) (is_among (buckets_of path) (above c)) more)

pub goes_up : (path : List Step) → FromRoot path → GoesUp (buckets_of path)
goes_up [] root c some none = absurd (true≢false (sym none))
goes_up (s ∷ path) (first, follows) c some there = elim (cases_Bool (s.bucket == c)) [
  | inl here ↦ absurd (some (sym (eqb-true s.bucket c here) ∙ first))
  | inr off ↦ by_rest (up_or_first s.bucket c path follows some (sym (ap (λ t. t || is_among (buckets_of path) c) off) ∙ there))
]
  where
    by_rest : (above c ≡ s.bucket) ⊎ (is_among (buckets_of path) (above c) ≡ true) → is_among (buckets_of (s ∷ path)) (above c) ≡ true
    by_rest (inl is) = or_left (s.bucket == above c) (is_among (buckets_of path) (above c)) (eq-eqb s.bucket (above c) (sym is))
    by_rest (inr more) = or_right (s.bucket == above c) (is_among (buckets_of path) (above c)) more

module _ (t : Tree ℕ) (run : ℕ) where
  abbrev pub later : List Step → ℕ → Tree ℕ
  later path number = turned t (buckets_of path) (rows_in path) run (numbers_in number path)

  -- of buckets below the first of a path it is as with the rest of that path
  version_rest : (s : Step) (path : List Step) (number x : ℕ) → s.bucket < x → (later (s ∷ path) number).version x ≡ (later path (suc number)).version x
  version_rest s path number x less =
      let off : (s.bucket == x) ≡ false = ne_eqb s.bucket x (omega (arith, less)) in
      ap (λ test. if (test || is_among (buckets_of path) x) then (record { side = not (t.version x).side; run = run; number = if test then number else numbers_in (suc number) path x }) else t.version x) off

  rows_rest : (s : Step) (path : List Step) (number x : ℕ) → s.bucket < x → (later (s ∷ path) number).rows x ≡ (later path (suc number)).rows x
  rows_rest s path number x less =
      let off : (s.bucket == x) ≡ false = ne_eqb s.bucket x (omega (arith, less)) in
      ap (λ test. if (test || is_among (buckets_of path) x) then (if test then s.rows else rows_in path x) else t.rows x) off

  version_first : (s : Step) (path : List Step) (number : ℕ) → (later (s ∷ path) number).version s.bucket ≡ record { side = not (t.version s.bucket).side; run = run; number = number }
  version_first s path number =
      ap (λ test. if (test || is_among (buckets_of path) s.bucket) then (record { side = not (t.version s.bucket).side; run = run; number = if test then number else numbers_in (suc number) path s.bucket }) else t.version s.bucket) (eq-eqb s.bucket s.bucket refl)

  rows_first : (s : Step) (path : List Step) (number : ℕ) → (later (s ∷ path) number).rows s.bucket ≡ s.rows
  rows_first s path number =
      ap (λ test. if (test || is_among (buckets_of path) s.bucket) then (if test then s.rows else rows_in path s.bucket) else t.rows s.bucket) (eq-eqb s.bucket s.bucket refl)

  -- a child of the bucket above a path
  child_is : (b c : ℕ) (was : Version) (path : List Step) (number : ℕ) → c ≢ 0 → above c ≡ b → was ≡ t.version c → Follows b path → AreStepsOf t path → child_version c was path run number ≡ (later path number).version c
  child_is b c was [] number some is same follows steps = same
  child_is b c was (u ∷ us) number some is same (one, up, follows) (step, steps) = elim (cases_eq u.bucket c) [
    | inl here ↦
        ap (λ test. if test then (record { side = not u.version.side; run = run; number = number }) else was) (eq-eqb u.bucket c here)
        ∙ ap (λ (v : Version). record { side = not v.side; run = run; number = number }) step.version
        ∙ sym (version_first u us number)
        ∙ ap (later (u ∷ us) number).version here
    | inr off ↦
        ap (λ test. if test then (record { side = not u.version.side; run = run; number = number }) else was) (ne_eqb u.bucket c off)
        ∙ same
        ∙ sym (version_off t (buckets_of (u ∷ us)) (rows_in (u ∷ us)) (λ b. record { side = not (t.version b).side; run = run; number = numbers_in number (u ∷ us) b }) c
        (or_from (u.bucket == c) (is_among (buckets_of us) c) (ne_eqb u.bucket c off) (none_among u.bucket c us (omega (arith, one)) (omega (arith, one, up, some, is)) follows)))
  ]

  -- the block of the first is that of the tree behind
  first_block : (s : Step) (path : List Step) (number : ℕ) → Follows s.bucket path → IsStepOf t s → AreStepsOf t path → block_of s path run number ≡ block_at (later (s ∷ path) number) s.bucket
  first_block s path number follows step steps =
      let b = s.bucket in
      let now = later (s ∷ path) number in
      let v : record { side = not s.version.side; run = run; number = number } ≡ now.version b = ap (λ (v : Version). record { side = not v.side; run = run; number = number }) step.version ∙ sym (version_first s path number) in
      let l = child_is b (2 * b + 1) s.left path (suc number) (λ e. omega (arith, e)) (omega arith) step.left follows steps ∙ sym (version_rest s path number (2 * b + 1) (omega arith)) in
      let r = child_is b (2 * b + 2) s.right path (suc number) (λ e. omega (arith, e)) (omega arith) step.right follows steps ∙ sym (version_rest s path number (2 * b + 2) (omega arith)) in
      ap (λ x. made_of b s.rows x (child_version (2 * b + 1) s.left path run (suc number)) (child_version (2 * b + 2) s.right path run (suc number))) v
      ∙ ap (λ x. made_of b x (now.version b) (child_version (2 * b + 1) s.left path run (suc number)) (child_version (2 * b + 2) s.right path run (suc number))) (sym (rows_first s path number))
      ∙ ap (λ x. made_of b (now.rows b) (now.version b) x (child_version (2 * b + 2) s.right path run (suc number))) l
      ∙ ap (λ x. made_of b (now.rows b) (now.version b) (now.version (2 * b + 1)) x) r

  block_rest : (s : Step) (path : List Step) (number b : ℕ) → s.bucket < b → block_at (later path (suc number)) b ≡ block_at (later (s ∷ path) number) b
  block_rest s path number b less =
      let now = later (s ∷ path) number in
      let was = later path (suc number) in
      ap (λ x. made_of b x (was.version b) (was.version (2 * b + 1)) (was.version (2 * b + 2))) (sym (rows_rest s path number b less))
      ∙ ap (λ x. made_of b (now.rows b) x (was.version (2 * b + 1)) (was.version (2 * b + 2))) (sym (version_rest s path number b less))
      ∙ ap (λ x. made_of b (now.rows b) (now.version b) x (was.version (2 * b + 2))) (sym (version_rest s path number (2 * b + 1) (omega (arith, less))))
      ∙ ap (λ x. made_of b (now.rows b) (now.version b) (now.version (2 * b + 1)) x) (sym (version_rest s path number (2 * b + 2) (omega (arith, less))))

  blocks_rest : (s : Step) (all : List Step) (number b : ℕ) (path : List Step) → s.bucket ≤ b → Follows b path → map (block_at (later all (suc number))) (buckets_of path) ≡ map (block_at (later (s ∷ all) number)) (buckets_of path)
  blocks_rest s all number b [] less follows = refl
  blocks_rest s all number b (u ∷ path) less (one, up, follows) =
      ap (λ x. x ∷ map (block_at (later all (suc number))) (buckets_of path)) (block_rest s all number u.bucket (omega (arith, less, one, up)))
      ∙ ap (λ xs. block_at (later (s ∷ all) number) u.bucket ∷ xs) (blocks_rest s all number u.bucket path (omega (arith, less, one, up)) follows)

  blocks_are : (s : Step) (path : List Step) (number : ℕ) → Follows s.bucket path → IsStepOf t s → AreStepsOf t path → blocks_from (s ∷ path) run number ≡ blocks_of (later (s ∷ path) number) (buckets_of (s ∷ path))
  blocks_are s [] number follows step steps = ap (λ x. x ∷ []) (first_block s [] number follows step steps)
  blocks_are s (u ∷ path) number (one, up, follows) step (next, steps) =
      ap (λ x. x ∷ blocks_from (u ∷ path) run (suc number)) (first_block s (u ∷ path) number (one, up, follows) step (next, steps))
      ∙ ap (λ xs. block_at (later (s ∷ u ∷ path) number) s.bucket ∷ xs) (blocks_are u path (suc number) follows next steps ∙ blocks_rest s (u ∷ path) number s.bucket (u ∷ path) (omega arith) (one, up, follows))

  pub path_blocks : (path : List Step) (number : ℕ) → IsPathOf t path → blocks_from path run number ≡ blocks_of (later path number) (buckets_of path)
  path_blocks [] number is = refl
  path_blocks (s ∷ path) number is = blocks_are s path number is.root.1 is.steps.0 is.steps.1

  -- each other place of a path is the spare one of a bucket of it
  other_spare : (path : List Step) (x : ℕ) → AreStepsOf t path → IsOther path x → (b : ℕ) × (is_among (buckets_of path) b ≡ true) × (x ≡ spare_at t b)
  other_spare [] x steps none = absurd none
  other_spare (s ∷ path) x (step, steps) (inl is) =
      (s.bucket, or_left (s.bucket == s.bucket) (is_among (buckets_of path) s.bucket) (eq-eqb s.bucket s.bucket refl), is ∙ ap (λ (v : Version). place_of s.bucket (not v.side)) step.version)
  other_spare (s ∷ path) x (step, steps) (inr other) =
      let rest = other_spare path x steps other in
      (rest.0, or_right (s.bucket == rest.0) (is_among (buckets_of path) rest.0) rest.1, rest.2)

  pub only_spares : (path : List Step) (old new : Cells ℕ) → AreStepsOf t path → KeepsOthers path old new → OnlySpares t (buckets_of path) old new
  only_spares path old new steps keeps = record { others = λ x off. keeps.others x (λ other. let spare = other_spare path x steps other in off spare.0 spare.1 spare.2) }

  pub lies_before : (path : List Step) (n : ℕ) (old new : Cells ℕ) → IsPathOf t path → KeepsOthers path old new → IsStoredIn n t old → IsStoredIn n t new
  lies_before path n old new is keeps lies = stays t n (buckets_of path) old new lies (only_spares path old new is.steps keeps)

  pub lies_behind : (path : List Step) (number n : ℕ) (old new : Cells ℕ) → IsPathOf t path → ((x : ℕ) → new x ≡ with_blocks old (blocks_from path run number) x) → IsStoredIn n t old → IsStoredIn n (later path number) new
  lies_behind path number n old new is all lies =
      let behind = new_lies t (buckets_of path) (rows_in path) (λ b. record { side = not (t.version b).side; run = run; number = numbers_in number path b }) n old lies (goes_up path is.root) in
      record {
        each = λ b within.
            all (place_at (later path number) b)
            ∙ ap (λ bs. with_blocks old bs (place_at (later path number) b)) (path_blocks path number is)
            ∙ behind.each b within;
      }

pub behind_ok : (run number : ℕ) (path : List Step) (old new : Cells ℕ) (result : Result (Unit {0}) Failed) → OnOk result ((x : ℕ) → new x ≡ with_blocks old (blocks_from path run number) x)
    → OnOk result ((n : ℕ) (t : Tree ℕ) → IsPathOf t path → IsStoredIn n t old → IsStoredIn n (turned t (buckets_of path) (rows_in path) run (numbers_in number path)) new)
behind_ok run number path old new (Ok u) all = λ n t is lies. lies_behind t run path number n old new is all lies
behind_ok run number path old new (Err e) none = tt
