-- The blocks of a closing, and what may be asked once they were read.
use Rattle.std.proofs.Common.{◌≡◌, ◌≢◌, ◌⊎◌, inl, inr, ℕ, zero, suc, ◌+◌, ◌-◌, ◌*◌, ◌<◌, ◌≤◌, ◌^◌, max, IsTrue, List, [], ◌∷◌, ◌++◌, length, take, set, get_or, Some, None, refl, sym, ◌∙◌, ap, subst, arith}
use Rattle.std.proofs.lemmas.Bool.{cases_eq, cases_lt}
use Rattle.std.proofs.lemmas.List.{append-nil}
use Rattle.std.proofs.Math.Nat.{div-one}
use Rattle.std.specs.Prelude.{◌/◌}
use Rattle.std.specs.Prelude.{slice_index_or}
use Rattle.ob_base.specs.declared.access.Access.{Access}
use Rattle.ob_base.specs.Accesses.{read_at}
use Rattle.ob_base.specs.Lists.{each}
use Rattle.ob_store.proofs.Steps.{length-each}
use Rattle.ob_seal.specs.Sealed.{sealed}
use Rattle.ob_vault.specs.State.{Start, World, earlier, from_earlier}
use Rattle.ob_vault.specs.Numbers.{spent}
use Rattle.ob_vault.specs.Rows.{joined, row_at, SameSizes}
use Rattle.ob_vault.specs.Tied.{at_of}
use Rattle.ob_vault.specs.Calls.{none, one}
use Rattle.ob_vault.specs.Places.{RowsFit}
use Rattle.ob_vault.specs.Resuming.{Unasked, MayResume, Reopened, open_at}
use Rattle.ob_vault.proofs.Resumed.{unasked_append, unasked_none, written_opened, holds_opened}
use Rattle.ob_reopen.specs.declared.closing.Closing.{Closing}
use Rattle.ob_reopen.specs.Limits.{IsMarked}
use Rattle.ob_reopen.specs.Closings.{KeepsRows, closing_region}
use Rattle.ob_reopen.specs.Openings.{OpensAll, Follows, IsOpen, AwaitsTables, HoldsRows}

-- ---- a row
-- the bytes of a block of one row
pub joined_one : (w n : ℕ) (rows : List (List ℕ)) → n ≡ 1 → length rows ≡ 1 → joined (w / n) rows ≡ take w (row_at rows 0)
joined_one w n [] one size = absurd (cc size)
joined_one w n (row ∷ []) one size = append-nil (take (w / n) row) ∙ ap (λ (k : ℕ). take k row) (ap (λ (k : ℕ). w / k) one ∙ div-one w)
joined_one w n (row ∷ more ∷ rows) one size = absurd (omega (arith, size))

-- the one that is there
pub row_same : (rows : List (List ℕ)) (d : List ℕ) → length rows ≡ 1 → get_or rows 0 d ≡ row_at rows 0
row_same [] d one = absurd (cc one)
row_same (row ∷ rows) d one = refl

-- it is written anew
pub set_sizes : (rows : List (List ℕ)) (r : List ℕ) → length rows ≡ 1 → length r ≡ length (row_at rows 0) → SameSizes rows (set rows 0 r)
set_sizes [] r one same = absurd (cc one)
set_sizes (row ∷ rows) r one same = record { count = refl; sizes = sizes }
  where
    sizes : (j : ℕ) → length (row_at (r ∷ rows) j) ≡ length (row_at (row ∷ rows) j)
    sizes zero = same
    sizes (suc j) = refl

pub set_row : (rows : List (List ℕ)) (r : List ℕ) → length rows ≡ 1 → row_at (set rows 0 r) 0 ≡ r
set_row [] r one = absurd (cc one)
set_row (row ∷ rows) r one = refl

-- rows that were only read
pub same_rows : (rows : List (List ℕ)) → SameSizes rows rows
same_rows rows = record { count = refl; sizes = λ j. refl }

-- it is as wide as a row of the closing
pub row_wide : (rows : List (List ℕ)) → length rows ≡ 1 → RowsFit rows 1024 → 1024 ≤ length (row_at rows 0)
row_wide rows size fit =
    let each : fit.each ≡ 1024 = omega (arith, fit.whole, ap (λ (n : ℕ). n * fit.each) size, one_times fit.each) in
    omega (arith, fit.wide.wide 0 (omega (arith, size)), each)
  where
    one_times : (n : ℕ) → 1 * n ≡ n
    one_times n = omega arith

-- ---- the closing
pub spent_first : (closing : Closing) (w : World) → IsMarked closing → w.vault.start ≡ from_earlier (closing.number + closing.blocks - 1) closing.region → w.store.asked ≡ [] → spent w < 2 ^ 63 + 65
unfolding earlier
spent_first closing w marked start asked =
    let s : earlier w.vault.start ≡ max (closing.number + closing.blocks - 1) closing.region = ap earlier start in
    let n : length w.store.asked ≡ 0 = ap (λ (l : List Access). length l) asked in
    omega (arith, s, n, marked.number_most, marked.blocks_most, marked.region_most)

pub earlier_same : (s t : Start) → t.writes ≡ s.writes → t.region ≡ s.region → earlier t ≡ earlier s
unfolding earlier
earlier_same s t writes region i = max (writes i) (region i)

pub may_open : (closing : Closing) (w : World) → IsMarked closing → Follows closing w → w.store.live closing.region ≡ None → MayResume closing.region closing.blocks closing.number w
may_open closing w marked follows gone =
    let writes : w.vault.start.writes ≡ closing.number + closing.blocks - 1 = ap (λ (s : Start). s.writes) follows.start in
    let region : w.vault.start.region ≡ closing.region = ap (λ (s : Start). s.region) follows.start in
    record {
      earlier = omega (arith, region);
      unasked = unasked_none closing.region w.store.asked follows.asked;
      gone = gone;
      some = marked.number_least;
      within = omega (arith, writes, marked.number_least, marked.blocks_least);
      apart = λ q x from to. let given : w.vault.start.given q x ≡ 0 = ap (λ (s : Start). s.given q x) follows.start in omega (arith, given, from, marked.number_least);
    }

-- no access of these is at another region
unasked_reads : (q region n : ℕ) → q ≢ region → Unasked q (each n (read_at region))
unasked_reads q region zero off = tt
unasked_reads q region (suc n) off = unasked_append q (each n (read_at region)) (read_at region n) (unasked_reads q region n off) (λ same. off (sym same), tt)

module _ (closing : Closing) (marked : IsMarked closing) (a b : World) (opened : Reopened closing.region (closing_region closing) closing.number a b) where
  pub is_open : OpensAll (open_at closing.region closing.blocks 1024) (one closing.region) a b → Follows closing a → IsOpen closing b
  is_open all follows = record {
    ready = all.stays.ready;
    lives = opened.lives;
    written = λ p below. written_opened closing.region closing.number (closing_region closing) a b opened marked.number_least p below;
    spare = omega (arith, follows.spare, all.spare);
  }

  -- its blocks are those that were kept
  pub holds_kept : (rows : List (List ℕ)) → b.vault.keys ≡ a.vault.keys → IsTrue a.store.tells → KeepsRows a.vault.keys closing rows a.store.kept → HoldsRows closing rows b
  holds_kept rows keys tells kept = record {
    count = kept.count;
    sizes = kept.sizes;
    holds = λ p below. holds_opened closing.region closing.number (closing_region closing) a b opened kept.region p (slice_index_or rows p []) tells kept.is below
        (kept.holds p below ∙ (λ i. Some (sealed (sym keys i) (at_of closing.region p (closing.number + p)) (slice_index_or rows p []))));
  }

  -- once they were read the tables may be opened
  pub awaits : (c : World) → Follows closing a → ((q : ℕ) → a.store.live q ≡ None) → OpensAll (open_at closing.region closing.blocks 1024) (one closing.region) a b
      → OpensAll (each closing.blocks (read_at closing.region)) none b c → AwaitsTables closing c
  awaits c follows gone first second =
      let writes : c.vault.start.writes ≡ closing.number + closing.blocks - 1 = second.stays.writes ∙ first.stays.writes ∙ ap (λ (s : Start). s.writes) follows.start in
      let region : c.vault.start.region ≡ closing.region = second.stays.region ∙ first.stays.region ∙ ap (λ (s : Start). s.region) follows.start in
      let start = spent_first closing a marked follows.start follows.asked in
      let same : earlier c.vault.start ≡ earlier a.vault.start = earlier_same a.vault.start c.vault.start (second.stays.writes ∙ first.stays.writes) (second.stays.region ∙ first.stays.region) in
      let reads = each closing.blocks (read_at closing.region) in
      let asked : c.store.asked ≡ open_at closing.region closing.blocks 1024 ++ reads =
      second.did.asked ∙ ap (λ (l : List Access). l ++ reads) (first.did.asked ∙ ap (λ (l : List Access). l ++ open_at closing.region closing.blocks 1024) follows.asked) in
      let many : length c.store.asked ≡ 1 + closing.blocks = ap (λ (l : List Access). length l) asked ∙ omega (arith, length-each (read_at closing.region) 1 (λ i. refl) closing.blocks) in
      record {
        ready = second.stays.ready;
        region = region;
        writes = omega (arith, writes, marked.number_least, marked.blocks_least);
        few = omega (arith, start, same, many, marked.blocks_most);
        given = λ q x. given_at c follows second q x;
        unasked = λ q off. subst (Unasked q) (sym asked) (λ same. off (sym same), unasked_reads q closing.region closing.blocks off);
        gone = λ q off. second.stays.apart.kept q (λ s. s) ∙ first.stays.apart.kept q off ∙ gone q;
      }
    where
      given_at : (c : World) → Follows closing a → OpensAll (each closing.blocks (read_at closing.region)) none b c → (q x : ℕ) → (c.vault.start.given q x ≡ 0) ⊎ (closing.number ≤ c.vault.start.given q x)
      given_at c follows second q x =
          let kept : c.vault.start.given q x ≡ b.vault.start.given q x = second.stays.given q x (λ s. s) in
          let was : a.vault.start.given q x ≡ 0 = ap (λ (s : Start). s.given q x) follows.start in
          elim (cases_eq q closing.region) [
            | inl here ↦ elim (cases_lt x closing.blocks) [
              | inl below ↦ let is = subst (λ (r : ℕ). b.vault.start.given r x ≡ closing.number + x) (sym here) (opened.gives.here x below) in inr (omega (arith, kept, is))
              | inr past ↦ inl (kept ∙ opened.gives.others q x (λ same below. absurd (omega (arith, past, below))) ∙ was)
            ]
            | inr off ↦ inl (kept ∙ opened.gives.others q x (λ same below. off same) ∙ was)
          ]
