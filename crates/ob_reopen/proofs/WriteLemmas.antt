-- Writing the rows of a closing, one after the other.
use Rattle.std.proofs.Common.{◌≡◌, ◌≢◌, ◌⊎◌, ◌==◌, if◌then◌else◌, inl, inr, ℕ, zero, suc, ◌+◌, ◌-◌, ◌/◌, ◌<◌, IsTrue, List, [], ◌++◌, length, append_assoc, Some, Ok, Err, refl, sym, ◌∙◌, ap, subst, arith, below_more}
use Rattle.std.specs.Prelude.{slice_get, Bool}
use Rattle.ob_base.specs.declared.access.Access.{Access}
use Rattle.ob_base.specs.Accesses.{writes, make_at, write_at}
use Rattle.ob_base.specs.Counts.{Rises}
use Rattle.ob_base.specs.Lists.{each}
use Rattle.ob_base.proofs.AccessLemmas.{writes_write, writes_make}
use Rattle.ob_seal.specs.Sealed.{sealed}
use Rattle.ob_store.specs.State.{Shape, StoreState}
use Rattle.ob_store.specs.Calls.{KeepsLive}
use Rattle.ob_store.specs.Runs.{Began}
use Rattle.ob_vault.specs.declared.fault.VaultErr.{VaultErr}
use Rattle.ob_vault.specs.declared.fault.VaultErr.TheVariants as VaultErrs
use Rattle.ob_vault.specs.State.{World}
use Rattle.ob_vault.specs.Rows.{joined}
use Rattle.ob_vault.specs.Tied.{Ready, Lives, OnTurn, Holds, at_of}
use Rattle.ob_vault.specs.Calls.{Went, CutShort, Seals, one}
use Rattle.ob_vault.specs.VaultCalls.{Puts}
use Rattle.std.proofs.lemmas.List.{append-nil}
use Rattle.std.proofs.lemmas.Bool.Decides.{nat_tests}
use Rattle.ob_vault.specs.declared.region.Region.{Region}
use Rattle.ob_vault.proofs.Runs.{went_none, went_each, cut_each, lives_only, holds_only, tells_went, seals_join, seals_none, next_turn, lasts_trans}
use Rattle.ob_reopen.specs.declared.closing.Closing.{Closing}
use Rattle.ob_reopen.specs.declared.listed.Listed.{Listed}
use Rattle.ob_reopen.specs.Limits.{IsCatalogue}
use Rattle.ob_reopen.specs.Spelling.{table_text, head_text, catalogue_rows}
use Rattle.ob_reopen.specs.Closings.{KeepsRows, region_of, row_of}
use Rattle.ob_reopen.specs.Writings.{FillsClosing, close_error, vault_error}
use Rattle.ob_reopen.proofs.Lists.{got_some, mapped_at, length-mapped}
use Rattle.ob_reopen.proofs.LimitLemmas.{fits_columns}
use Rattle.ob_reopen.proofs.Parts.{length-head_text, length-table_text}

-- ---- the number of a write
writes_each : (region n : ℕ) (asked : List Access) → writes (asked ++ each n (write_at region)) ≡ writes asked + n
writes_each region zero asked = ap writes (append-nil asked) ∙ omega arith
writes_each region (suc n) asked =
    ap writes (sym (append_assoc asked (each n (write_at region)) (write_at region n)))
    ∙ writes_write region n (asked ++ each n (write_at region))
    ∙ omega (arith, writes_each region n asked)

count_each : (region n : ℕ) (some : ℕ → Type 0) (old now : World) → Ready old → Went (each n (write_at region)) some old now → now.vault.count ≡ old.vault.count + n
count_each region n some old now ready went =
    let asked = ap writes went.did.asked ∙ writes_each region n old.store.asked in
    let start = ap (λ s. s.writes) went.lasts.start in
    omega (arith, went.lasts.ready.tied.count, ready.tied.count, asked, start)

pub count_made : (region blocks width : ℕ) (some : ℕ → Type 0) (old now : World) → Ready old → Went (make_at region blocks width) some old now → now.vault.count ≡ old.vault.count
count_made region blocks width some old now ready went =
    let asked = ap writes went.did.asked ∙ writes_make region blocks (width + 32) old.store.asked in
    let start = ap (λ s. s.writes) went.lasts.start in
    omega (arith, went.lasts.ready.tied.count, ready.tied.count, asked, start)

-- ---- so many rows were written
pub record WrittenSoFar (region : ℕ) (listed : List Listed) (place : ℕ) (old now : World) : Type 0 where
  pub went : Went (each place (write_at region)) (one region) old now
  pub seals : (good : ℕ → List ℕ → Bool) → ((p : ℕ) → p < length listed + 1 → IsTrue (good region (row_of region listed p))) → Seals good old now
  pub lives : Lives region (region_of (length listed + 1)) now
  pub turn : OnTurn region (region_of (length listed + 1)) (if place == length listed + 1 then 0 else place) now
  pub numbers : (p : ℕ) → p < place → now.vault.revs.number region p ≡ old.vault.count + 1 + p
  pub told : IsTrue old.store.tells → (p : ℕ) → p < place → Holds region p (row_of region listed p) now

pub written_none : (region : ℕ) (listed : List Listed) (w : World) → Ready w → Lives region (region_of (length listed + 1)) w → OnTurn region (region_of (length listed + 1)) 0 w → WrittenSoFar region listed 0 w w
written_none region listed w ready lives turn = record {
  went = went_none (one region) w ready;
  seals = λ good fine. seals_none good w;
  lives = lives;
  turn = subst (λ (n : ℕ). OnTurn region (region_of (length listed + 1)) n w) (first (length listed)) turn;
  numbers = λ p below. absurd (omega (arith, below));
  told = λ tells p below. absurd (omega (arith, below));
}
  where
    first : (n : ℕ) → ◌≡◌ {A = ℕ} 0 (if 0 == n + 1 then 0 else 0)
    first n = grind (arith, nat_tests)

module _ (region : ℕ) (listed : List Listed) (place : ℕ) (rows : List (List ℕ)) (old now new : World) (ready : Ready old) (below : place < length listed + 1)
    (is : joined (1024 / length rows) rows ≡ row_of region listed place) (so_far : WrittenSoFar region listed place old now) where
  sealed_on : ((good : ℕ → List ℕ → Bool) (shape : Region) → Lives region shape now → IsTrue (good region (joined (shape.width / length rows) rows)) → Seals good now new)
      → (good : ℕ → List ℕ → Bool) → ((p : ℕ) → p < length listed + 1 → IsTrue (good region (row_of region listed p))) → Seals good old new
  sealed_on seals good fine =
      seals_join good old now new so_far.went.lasts.later (so_far.seals good fine)
      (seals good (region_of (length listed + 1)) so_far.lives (subst (λ (b : List ℕ). IsTrue (good region b)) (sym is) (fine place below)))

  pub written_next : {T : Type 0} (value : T) → Puts region place rows (Ok value) now new → WrittenSoFar region listed (place + 1) old new
  written_next value puts = record {
    went = went_each (one region) (write_at region) old now new place so_far.went puts.ok;
    seals = sealed_on puts.seals;
    lives = lives_only region place now new puts.only region (region_of (length listed + 1)) so_far.lives;
    turn = next_turn region place (region_of (length listed + 1)) new (puts.turn (region_of (length listed + 1)) so_far.lives);
    numbers = below_more (λ (p : ℕ). new.vault.revs.number region p ≡ old.vault.count + 1 + p) place
        (λ p less. puts.only.number region p (λ q at. absurd (omega (arith, at, less))) ∙ so_far.numbers p less)
        (omega (arith, puts.number, count_each region place (one region) old now ready so_far.went));
    told = λ tells. below_more (λ (p : ℕ). Holds region p (row_of region listed p) new) place
        (λ p less. holds_only region place now new puts.only region p (row_of region listed p) (λ q at. absurd (omega (arith, at, less))) (so_far.told tells p less))
        (subst (λ (b : List ℕ). Holds region place b new) is (puts.told (tells_went (one region) (each place (write_at region)) old now so_far.went tells) (region_of (length listed + 1)) so_far.lives));
  }

  pub fills_cut : {T : Type 0} (e : VaultErr) → Puts {T = T} region place rows (Err e) now new → FillsClosing {T = T} region listed (Err e) old new
  fills_cut e puts = record {
    ok = tt;
    err = cut_each (one region) (write_at region) old now new e (length listed + 1) place below so_far.went puts.err;
    never = puts.never;
    seals = sealed_on puts.seals;
    lives = tt;
    numbers = tt;
    told = tt;
  }

pub fills_all : {T : Type 0} (value : T) (region : ℕ) (listed : List Listed) (place : ℕ) (old new : World) → place ≡ length listed + 1 → WrittenSoFar region listed place old new → FillsClosing region listed (Ok value) old new
fills_all value region listed place old new end so_far = record {
  ok = subst (λ (n : ℕ). Went (each n (write_at region)) (one region) old new) end so_far.went;
  err = tt;
  never = tt;
  seals = so_far.seals;
  lives = so_far.lives;
  numbers = λ p below. so_far.numbers p (omega (arith, below, end));
  told = λ tells p below. so_far.told tells p (omega (arith, below, end));
}

-- ---- the rows of a catalogue
pub rows_long : (closing : Closing) (listed : List Listed) → IsCatalogue closing listed → (p : ℕ) → p < length listed + 1 → length (row_of closing.region listed p) ≡ 1024
rows_long closing listed catalogue zero below = length-head_text (closing.region + 1) (length listed)
rows_long closing listed catalogue (suc p) below =
    let at = got_some listed p (omega (arith, below)) in
    let listed_as = (catalogue.are.each p at.0 at.1).listed in
    let heading = listed_as.heading in
    ap (λ (l : List ℕ). length l) (mapped_at table_text listed p at.0 at.1)
    ∙ length-table_text at.0 heading.name heading.stored.few (fits_columns at.0.table.heading heading) listed_as.salt

-- what is kept of a closing that is live
pub keeps_rows : (closing : Closing) (listed : List Listed) (w : World) → IsCatalogue closing listed → w.store.live closing.region ≡ Some (record { blocks = closing.blocks; len = 1056 })
    → KeepsLive closing.region (record { blocks = closing.blocks; len = 1056 }) w.store
    → ((p : ℕ) → p < length listed + 1 → w.vault.revs.number closing.region p ≡ closing.number + p)
    → ((p : ℕ) → p < length listed + 1 → Holds closing.region p (row_of closing.region listed p) w)
    → KeepsRows w.vault.keys closing (catalogue_rows closing.region listed) w.store.kept
keeps_rows closing listed w catalogue live keeps numbers holds = record {
  region = keeps.region;
  is = keeps.is;
  blocks = ap (λ (s : Shape). s.blocks) keeps.same;
  len = ap (λ (s : Shape). s.len) keeps.same;
  whole = keeps.whole;
  count = omega (arith, length-mapped table_text listed, catalogue.count);
  sizes = λ p below. rows_long closing listed catalogue p (omega (arith, below, catalogue.count));
  holds = λ p below.
      let less : p < length listed + 1 = omega (arith, below, catalogue.count) in
      keeps.last p ∙ (holds p less).last
      ∙ ap (λ (n : ℕ). Some (sealed w.vault.keys (at_of closing.region p n) (row_of closing.region listed p))) (numbers p less);
}

-- ---- errors
pub same_error : (e : VaultErr) → (e ≡ VaultErrs.Failed) ⊎ (e ≡ VaultErrs.NoMemory) → vault_error (close_error e) ≡ e
same_error e (inl failed) = ap (λ (d : VaultErr). vault_error (close_error d)) failed ∙ sym failed
same_error e (inr memory) = ap (λ (d : VaultErr). vault_error (close_error d)) memory ∙ sym memory

-- after an error of the store the region is forgotten
pub cut_forgot : (x : List Access) (some : ℕ → Type 0) (a b c : World) → CutShort VaultErrs.Failed x some a b → Went [] some b c → c.store ≡ b.store → CutShort VaultErrs.Failed x some a c
cut_forgot x some a b c cut went same = record {
  lasts = lasts_trans some a b c cut.lasts went.lasts;
  began = subst (λ (s : StoreState). Began x a.store s) (sym same) cut.began;
  asks = λ off. subst (λ (s : StoreState). length a.store.asked < length s.asked) (sym same) (cut.asks off);
  cause = (subst (λ (s : StoreState). Rises a.store.faults s.faults) (sym same) cut.cause.0, λ was. went.calm (cut.cause.1 was));
}

-- the place that is in turn, before the last one was written
pub not_last : (i n : ℕ) → i < n → (if i == n then 0 else i) ≡ i
not_last i n below = grind (arith, nat_tests)

-- ---- what stands at a place
pub row_first : (region : ℕ) (listed : List Listed) (p : ℕ) → p ≡ 0 → row_of region listed p ≡ head_text (region + 1) (length listed)
row_first region listed p first = ap (row_of region listed) first

pub row_later : (region : ℕ) (listed : List Listed) (p : ℕ) (t : Listed) → p ≢ 0 → slice_get listed (p - 1) ≡ Some t → row_of region listed p ≡ table_text t
row_later region listed zero t off is = absurd (off refl)
row_later region listed (suc p) t off is =
    let pre : suc p - 1 ≡ p = omega arith in
    mapped_at table_text listed p t (sym (ap (slice_get listed) pre) ∙ is)
