-- Opening the tables of a closing, one after the other.
use Rattle.std.proofs.Common.{◌≡◌, ◌≢◌, ◌⊎◌, inl, inr, ℕ, zero, suc, ◌+◌, ◌*◌, ◌<◌, ◌≤◌, ◌^◌, Bool, true, false, IsTrue, mul-le-mul, List, [], ◌∷◌, ◌++◌, length, length-append, take, drop, Some, Ok, Err, refl, sym, ◌∙◌, ap, subst, arith}
use Rattle.std.proofs.lemmas.Bool.{cases_eq, cases_lt, and_parts, or_cases, not-true, eq-eqb, leb-true, false≢true}
use Rattle.std.proofs.lemmas.List.{append_assoc, take_all, take-append-drop, length-take-le}
use Rattle.std.proofs.lemmas.Cmp.{nat_list_cmp_total, tied_itself}
use Rattle.std.specs.Cmp.Lexicographic.{slice_cmp}
use Rattle.std.specs.Ordering.{is_lt, nat_cmp}
use Rattle.std.specs.Prelude.{slice_get}
use Rattle.std.specs.List.{list_all}
use Rattle.ob_base.specs.declared.access.Access.{Access}
use Rattle.std.proofs.lemmas.Grind.{div_ceil_times}
use Rattle.ob_base.specs.Numbers.{blocks_for}
use Rattle.ob_base.specs.Schemas.{width}
use Rattle.ob_seal.specs.KeySet.{KeySet}
use Rattle.ob_seal.specs.Sealed.{sealed}
use Rattle.ob_vault.specs.declared.region.Region.{Region}
use Rattle.ob_vault.specs.declared.region.Order.TheVariants.{Round}
use Rattle.ob_vault.specs.declared.fault.VaultErr.{VaultErr}
use Rattle.ob_vault.specs.State.{World, earlier}
use Rattle.ob_vault.specs.Numbers.{spent}
use Rattle.ob_vault.specs.Tied.{Ready, at_of, next_fault}
use Rattle.ob_vault.specs.Calls.{Seals, one}
use Rattle.ob_vault.specs.Resuming.{Unasked, MayResume, Stays, KeptSealed, ResumesRegion}
use Rattle.ob_vault.proofs.Resumed.{unasked_append}
use Rattle.ob_vault.proofs.Runs.{went_none, seals_none}
use Rattle.ob_reopen.specs.declared.closing.Closing.{Closing}
use Rattle.ob_reopen.specs.declared.listed.Listed.{Listed}
use Rattle.ob_reopen.specs.Limits.{IsMarked, IsListed, IsCatalogue, blocks_of, are_apart}
use Rattle.ob_reopen.specs.Closings.{listed_region, open_table, open_script}
use Rattle.ob_reopen.specs.Writings.{StandApart}
use Rattle.ob_reopen.specs.Openings.{open_error, OpensAll, OpensPart, AwaitsTables, IsOf, IsReopened, ReopensTables}
use Rattle.ob_reopen.proofs.Lists.{got_within, took_more}
use Rattle.ob_reopen.proofs.OpenLemmas.{earlier_same}
use Rattle.ob_reopen.proofs.Runs.{opens_went, opens_join, opens_after, opens_more, opens_region, opens_shut, all_wider, part_wider}

-- ---- lists
pub got_taken : {A : Type 0} (xs : List A) (i j : ℕ) → i < j → slice_get (take j xs) i ≡ slice_get xs i
got_taken [] i zero below = absurd (omega (arith, below))
got_taken (x ∷ xs) i zero below = absurd (omega (arith, below))
got_taken [] i (suc j) below = refl
got_taken (x ∷ xs) zero (suc j) below = refl
got_taken (x ∷ xs) (suc i) (suc j) below = got_taken xs i j (omega (arith, below))

pub got_early : {A : Type 0} (xs : List A) (j i : ℕ) (x : A) → slice_get (take j xs) i ≡ Some x → (i < j) × (slice_get xs i ≡ Some x)
got_early xs zero i x is = absurd (cc is)
got_early [] (suc j) i x is = absurd (cc is)
got_early (y ∷ xs) (suc j) zero x is = (omega arith, is)
got_early (y ∷ xs) (suc j) (suc i) x is = let (below, at) = got_early xs j i x is in (omega (arith, below), at)

passes_at : {A : Type 0} (p : A → Bool) (xs : List A) (i : ℕ) (x : A) → list_all p xs ≡ true → slice_get xs i ≡ Some x → p x ≡ true
passes_at p [] i x all is = absurd (cc is)
passes_at p (y ∷ xs) zero x all is = let here = (and_parts (p y) (list_all p xs) all).0 in let same : y ≡ x = cc is in subst (λ z. p z ≡ true) same here
passes_at p (y ∷ xs) (suc i) x all is = passes_at p xs i x (and_parts (p y) (list_all p xs) all).1 is

open_more : (pack : ℕ) (ts : List Listed) (t : Listed) → open_script pack (ts ++ t ∷ []) ≡ open_script pack ts ++ open_table pack t
open_more pack [] t = refl
open_more pack (u ∷ ts) t = ap (λ (l : List Access). open_table pack u ++ l) (open_more pack ts t) ∙ sym (append_assoc (open_table pack u) (open_script pack ts) (open_table pack t))

open_parts : (pack : ℕ) (ts us : List Listed) → open_script pack (ts ++ us) ≡ open_script pack ts ++ open_script pack us
open_parts pack [] us = refl
open_parts pack (t ∷ ts) us = ap (λ (l : List Access). open_table pack t ++ l) (open_parts pack ts us) ∙ sym (append_assoc (open_table pack t) (open_script pack ts) (open_script pack us))

-- ---- two tables of a catalogue
apart_is : (pack : ℕ) (t u : Listed) → are_apart pack t u ≡ true → StandApart pack t u
apart_is pack t u is =
    let both = and_parts _ _ is in
    let first = and_parts _ _ both.0 in
    let own : is_lt (slice_cmp nat_cmp t.table.heading.name t.table.heading.name) ≡ false = ap is_lt (tied_itself nat_list_cmp_total t.table.heading.name) in
    record {
      names = λ same. false≢true (sym own ∙ ap (λ (n : List ℕ). is_lt (slice_cmp nat_cmp t.table.heading.name n)) same ∙ first.0);
      regions = λ same. false≢true (sym (not-true _ first.1) ∙ eq-eqb _ _ same);
      numbers = elim (or_cases _ _ both.1) [
        | inl before ↦ inl (leb-true _ _ before)
        | inr behind ↦ inr (leb-true _ _ behind)
      ];
    }

module _ (closing : Closing) (listed : List Listed) (catalogue : IsCatalogue closing listed) where
  pub tables_apart : (i j : ℕ) (t u : Listed) → i < j → slice_get listed i ≡ Some t → slice_get listed j ≡ Some u → StandApart closing.pack t u
  tables_apart i j t u below first second =
      apart_is closing.pack t u (passes_at (λ (v : Listed). are_apart closing.pack v u) (take j listed) i t (catalogue.are.each j u second).apart (got_taken listed i j below ∙ first))

  pub table_is : (i : ℕ) (t : Listed) → slice_get listed i ≡ Some t → IsListed closing t
  table_is i t is = (catalogue.are.each i t is).listed

  -- the next table's region is none of those before it
  pub not_before : (i : ℕ) (t : Listed) → slice_get listed i ≡ Some t → IsOf (take i listed) t.table.region → ⊥
  not_before i t is of =
      let (below, at) = got_early listed i of.place of.table of.is in
      (tables_apart of.place i of.table t below at is).regions of.region

-- ---- regions of tables
pub is_of : (ts : List Listed) (q : ℕ) → IsOf ts q ⊎ (IsOf ts q → ⊥)
is_of [] q = inr (λ of. cc of.is)
is_of (t ∷ ts) q = elim (cases_eq t.table.region q) [
  | inl here ↦ inl (record { place = 0; table = t; is = refl; region = here })
  | inr off ↦ elim (is_of ts q) [
    | inl of ↦ inl (record { place = suc of.place; table = of.table; is = of.is; region = of.region })
    | inr none ↦ inr (λ of. neither of.place of.table of.is of.region off none)
  ]
]
  where
    neither : (place : ℕ) (u : Listed) → slice_get (t ∷ ts) place ≡ Some u → u.table.region ≡ q → (t.table.region ≡ q → ⊥) → (IsOf ts q → ⊥) → ⊥
    neither zero u is same off none = let one : t ≡ u = cc is in off (ap (λ (v : Listed). v.table.region) one ∙ same)
    neither (suc place) u is same off none = none (record { place = place; table = u; is = is; region = same })

unasked_tables : (pack q : ℕ) (ts : List Listed) → (IsOf ts q → ⊥) → Unasked q (open_script pack ts)
unasked_tables pack q [] off = tt
unasked_tables pack q (t ∷ ts) off = (
  λ same. off (record { place = 0; table = t; is = refl; region = same }),
  unasked_tables pack q ts (λ of. off (record { place = suc of.place; table = of.table; is = of.is; region = of.region })),
)

-- ---- the size of a table
blocks_few : (pack n : ℕ) → 1 ≤ pack → blocks_for pack n ≤ n
blocks_few pack n some = grind arith

blocks_some : (pack n : ℕ) → 1 ≤ pack → 1 ≤ n → 1 ≤ blocks_for pack n
blocks_some pack n some least = positive (blocks_for pack n) ((div_ceil_times n pack (omega arith)).0)
  where
    positive : (k : ℕ) → n ≤ k * pack → 1 ≤ k
    positive zero low = absurd (omega (arith, low, least))
    positive (suc k) low = omega arith

-- a block of it is no wider than a block may be
pub block_fits : {n w : ℕ} (closing : Closing) (t : Listed) → IsMarked closing → IsListed closing t → n ≡ closing.pack → w ≡ width t.table.heading.schema → (1 ≤ n * w) × (n * w ≤ 16384)
block_fits {n} {w} closing t marked is pack same =
    let all : closing.pack * width t.table.heading.schema ≤ 16 * 1024 = mul-le-mul marked.pack_most is.heading.stored.wide in
    let one : 1 ≤ width t.table.heading.schema = omega arith in
    let least : 1 * 1 ≤ closing.pack * width t.table.heading.schema = mul-le-mul marked.pack_least one in
    let size : n * w ≡ closing.pack * width t.table.heading.schema = λ i. pack i * same i in
    (omega (arith, least, size), omega (arith, all, size))

-- it has blocks, and no more than a region may have
pub blocks_fit : (closing : Closing) (t : Listed) → IsMarked closing → IsListed closing t → (1 ≤ blocks_of closing.pack t) × (blocks_of closing.pack t ≤ 134217728)
blocks_fit closing t marked is =
    let stored = is.heading.stored in
    let few = blocks_few closing.pack t.table.heading.capacity marked.pack_least in
    (blocks_some closing.pack t.table.heading.capacity marked.pack_least stored.least, omega (arith, few, stored.most))

pub same_region : {n m v : ℕ} (pack : ℕ) (t : Listed) → n ≡ blocks_of pack t → m ≡ pack → v ≡ width t.table.heading.schema → ◌≡◌ {A = Region} (record { blocks = n; width = m * v; order = Round }) (listed_region pack t)
same_region pack t blocks each wide i = record { blocks = blocks i; width = each i * wide i; order = Round }

-- ---- so many tables were opened
pub record OpenedUpTo (closing : Closing) (listed : List Listed) (i : ℕ) (old now : World) : Type 0 where
  pub all : OpensAll (open_script closing.pack (take i listed)) (IsOf (take i listed)) old now
  pub lie : now.store.lie ≡ old.store.lie
  pub kept : (q : ℕ) → now.store.kept q ≡ old.store.kept q
  pub given : (j : ℕ) (t : Listed) → j < i → slice_get listed j ≡ Some t → (x : ℕ) → x < blocks_of closing.pack t
      → now.vault.start.given t.table.region x ≡ t.number + x
  pub beyond : (j : ℕ) (t : Listed) → j < i → slice_get listed j ≡ Some t → (x : ℕ) → blocks_of closing.pack t ≤ x
      → now.vault.start.given t.table.region x ≡ old.vault.start.given t.table.region x
  pub tables : (j : ℕ) (t : Listed) → j < i → slice_get listed j ≡ Some t → IsReopened closing.pack t old now
  pub seals : (good : ℕ → List ℕ → Bool) → ((j : ℕ) (t : Listed) → slice_get listed j ≡ Some t
      → KeptSealed good t.table.region t.number old) → Seals good old now

module _ (closing : Closing) (listed : List Listed) (catalogue : IsCatalogue closing listed) (old now : World) (awaits : AwaitsTables closing old) (i : ℕ) (t : Listed) (is : slice_get listed i ≡ Some t)
    (opened : OpenedUpTo closing listed i old now) where
  off_closing : t.table.region ≢ closing.region
  off_closing same = let within = (table_is closing listed catalogue i t is).region_most in absurd (omega (arith, within, same))

  apart_given : (q x : ℕ) → t.number ≤ now.vault.start.given q x → now.vault.start.given q x < t.number + blocks_of closing.pack t → ⊥
  apart_given q x from to =
      let listed_t = table_is closing listed catalogue i t is in
      let early : now.vault.start.given q x ≡ old.vault.start.given q x → ⊥ = λ same. elim (awaits.given q x) [
        | inl none ↦ absurd (omega (arith, same, none, from, listed_t.number_least))
        | inr late ↦ absurd (omega (arith, same, late, to, listed_t.number_most))
      ] in
      elim (is_of (take i listed) q) [
        | inr off ↦ early (opened.all.stays.given q x off)
        | inl of ↦
            let (below, at) = got_early listed i of.place of.table of.is in
            let u = of.table in
            elim (cases_lt x (blocks_of closing.pack u)) [
              | inl here ↦
                  let g : now.vault.start.given q x ≡ u.number + x = subst (λ (r : ℕ). now.vault.start.given r x ≡ u.number + x) of.region (opened.given of.place u below at x here) in
                  elim (tables_apart closing listed catalogue of.place i u t below at is).numbers [
                    | inl before ↦ absurd (omega (arith, g, before, here, from))
                    | inr behind ↦ absurd (omega (arith, g, behind, to))
                  ]
              | inr past ↦ early (subst (λ (r : ℕ). now.vault.start.given r x ≡ old.vault.start.given r x) of.region (opened.beyond of.place u below at x past))
            ]
      ]

  pub may_table : MayResume t.table.region (blocks_of closing.pack t) t.number now
  may_table =
      let off = not_before closing listed catalogue i t is in
      let listed_t = table_is closing listed catalogue i t is in
      record {
        earlier = omega (arith, listed_t.region_most, awaits.region, opened.all.stays.region);
        unasked = subst (Unasked t.table.region) (sym opened.all.did.asked)
            (unasked_append t.table.region old.store.asked (open_script closing.pack (take i listed)) (awaits.unasked t.table.region off_closing) (unasked_tables closing.pack t.table.region (take i listed) off));
        gone = opened.all.stays.apart.kept t.table.region off ∙ awaits.gone t.table.region off_closing;
        some = listed_t.number_least;
        within = omega (arith, listed_t.number_most, awaits.writes, opened.all.stays.writes);
        apart = apart_given;
      }

-- none was opened yet
pub opened_none : (closing : Closing) (listed : List Listed) (w : World) → Ready w → OpenedUpTo closing listed 0 w w
opened_none closing listed w ready = record {
  all = opens_went [] (IsOf []) w w (went_none (IsOf []) w ready);
  lie = refl;
  kept = λ q. refl;
  given = λ j t below is x within. absurd (omega (arith, below));
  beyond = λ j t below is x past. absurd (omega (arith, below));
  tables = λ j t below is. absurd (omega (arith, below));
  seals = λ good kept. seals_none good w;
}

-- what lasts of a table that is open
reopened_stays : (pack : ℕ) (u : Listed) (some : ℕ → Type 0) (old now new : World) → Stays some now new → (some u.table.region → ⊥) → IsReopened pack u old now → IsReopened pack u old new
reopened_stays pack u some old now new stays off is = record {
  lives = record { live = stays.apart.live u.table.region off ∙ is.lives.live };
  turn = record { turn = λ round. is.turn.turn round ∙ sym (stays.apart.turn u.table.region off); run = λ round nonzero. absurd (nonzero refl) };
  numbers = λ x below. stays.apart.number u.table.region x off ∙ is.numbers x below;
  given = λ x below. stays.given u.table.region x off ∙ is.given x below;
  beyond = λ x past. stays.given u.table.region x off ∙ is.beyond x past;
  last = λ region tells kept x. stays.apart.last u.table.region x off ∙ is.last region tells kept x;
}

-- one more was opened
module _ {T : Type 0} (value : T) (closing : Closing) (listed : List Listed) (catalogue : IsCatalogue closing listed) (old now new : World) (i : ℕ) (t : Listed) (is : slice_get listed i ≡ Some t)
    (opened : OpenedUpTo closing listed i old now) (resumes : ResumesRegion t.table.region (listed_region closing.pack t) t.number (Ok value) now new) where
  off : IsOf (take i listed) t.table.region → ⊥
  off = not_before closing listed catalogue i t is

  up : (q : ℕ) → IsOf (take i listed) q → IsOf (take (i + 1) listed) q
  up q of = let (below, at) = got_early listed i of.place of.table of.is in record { place = of.place; table = of.table; is = got_taken listed of.place (i + 1) (omega (arith, below)) ∙ at; region = of.region }

  this : (q : ℕ) → one t.table.region q → IsOf (take (i + 1) listed) q
  this q same = record { place = i; table = t; is = got_taken listed i (i + 1) (omega arith) ∙ is; region = sym same }

  -- one before it has another region
  other : (j : ℕ) (u : Listed) → j < i → slice_get listed j ≡ Some u → u.table.region ≢ t.table.region
  other j u below at = (tables_apart closing listed catalogue j i u t below at is).regions

  either : (j : ℕ) (u : Listed) → j < i + 1 → slice_get listed j ≡ Some u → (j < i) ⊎ (u ≡ t)
  either j u below at = elim (cases_lt j i) [
    | inl before ↦ inl before
    | inr past ↦ let same : j ≡ i = omega (arith, past, below) in let found = subst (λ (k : ℕ). slice_get listed k ≡ Some u) same at in inr (cc (found, is))
  ]

  script : open_script closing.pack (take i listed) ++ open_table closing.pack t ≡ open_script closing.pack (take (i + 1) listed)
  script = sym (open_more closing.pack (take i listed) t) ∙ ap (open_script closing.pack) (sym (took_more listed i t is))

  kept_now : (good : ℕ → List ℕ → Bool) → KeptSealed good t.table.region t.number old → KeptSealed good t.table.region t.number now
  kept_now good kept = record {
    kept = kept.kept;
    is = opened.all.stays.apart.rests t.table.region off ∙ kept.is;
    all = λ x block last.
        let s = kept.all x block last in
        record { rows = s.rows; is = s.is ∙ ap (λ (keys : KeySet). sealed keys (at_of t.table.region x (t.number + x)) s.rows) (sym opened.all.stays.keys); fine = s.fine };
  }

  pub opened_more : OpenedUpTo closing listed (i + 1) old new
  opened_more = record {
    all = subst (λ (l : List Access). OpensAll l (IsOf (take (i + 1) listed)) old new) script
        (opens_join (IsOf (take (i + 1) listed)) old now new (open_script closing.pack (take i listed)) (open_table closing.pack t)
        (all_wider (IsOf (take i listed)) old now (IsOf (take (i + 1) listed)) up (open_script closing.pack (take i listed)) opened.all)
        (all_wider (one t.table.region) now new (IsOf (take (i + 1) listed)) this (open_table closing.pack t) (opens_region t.table.region t.number (listed_region closing.pack t) now new value resumes)));
    lie = resumes.lie ∙ opened.lie;
    kept = λ q. resumes.kept q ∙ opened.kept q;
    given = λ j u below at x within. elim (either j u below at) [
      | inl before ↦ resumes.ok.gives.others u.table.region x (λ same here. absurd (other j u before at same)) ∙ opened.given j u before at x within
      | inr same ↦
          let here : new.vault.start.given t.table.region x ≡ t.number + x = resumes.ok.gives.here x (subst (λ (v : Listed). x < blocks_of closing.pack v) same within) in
          subst (λ (v : Listed). new.vault.start.given v.table.region x ≡ v.number + x) (sym same) here
    ];
    beyond = λ j u below at x past. elim (either j u below at) [
      | inl before ↦ resumes.ok.gives.others u.table.region x (λ same here. absurd (other j u before at same)) ∙ opened.beyond j u before at x past
      | inr same ↦
          let far : blocks_of closing.pack t ≤ x = subst (λ (v : Listed). blocks_of closing.pack v ≤ x) same past in
          let kept : new.vault.start.given t.table.region x ≡ now.vault.start.given t.table.region x = resumes.ok.gives.others t.table.region x (λ one here. absurd (omega (arith, far, here))) in
          subst (λ (v : Listed). new.vault.start.given v.table.region x ≡ old.vault.start.given v.table.region x) (sym same) (kept ∙ opened.all.stays.given t.table.region x off)
    ];
    tables = λ j u below at. elim (either j u below at) [
      | inl before ↦ reopened_stays closing.pack u (one t.table.region) old now new resumes.stays (other j u before at) (opened.tables j u before at)
      | inr same ↦ subst (λ (v : Listed). IsReopened closing.pack v old new) (sym same) (record {
        lives = resumes.ok.lives;
        turn = resumes.ok.turn;
        numbers = resumes.ok.numbers;
        given = resumes.ok.gives.here;
        beyond = λ x past. resumes.ok.gives.others t.table.region x (λ here below. absurd (omega (arith, past, below))) ∙ opened.all.stays.given t.table.region x off;
        last = λ region tells kept x. resumes.ok.resumes.last region (subst IsTrue (sym opened.all.stays.tells) tells) (opened.all.stays.apart.rests t.table.region off ∙ kept) x;
      })
    ];
    seals = λ good kept. record {
      seals = λ scope few tells all.
          let few_now : scope.below ≤ next_fault now.store = omega (arith, few, opened.all.stays.faults) in
          (resumes.seals good (kept_now good (kept i t is))).seals scope few_now (subst IsTrue (sym opened.all.stays.tells) tells) ((opened.seals good kept).seals scope few tells all);
    };
  }

-- the next one stays shut
module _ {T : Type 0} (e : VaultErr) (closing : Closing) (listed : List Listed) (old now new : World) (i : ℕ) (t : Listed) (is : slice_get listed i ≡ Some t)
    (opened : OpenedUpTo closing listed i old now) (resumes : ResumesRegion {T = T} t.table.region (listed_region closing.pack t) t.number (Err e) now new) where
  early : (q : ℕ) → IsOf (take i listed) q → IsOf listed q
  early q of = record { place = of.place; table = of.table; is = (got_early listed i of.place of.table of.is).1; region = of.region }

  last : (q : ℕ) → one t.table.region q → IsOf listed q
  last q same = record { place = i; table = t; is = is; region = sym same }

  abbrev rest : List Access
  rest = open_script closing.pack (drop (i + 1) listed)

  whole : (open_script closing.pack (take i listed) ++ open_table closing.pack t) ++ rest ≡ open_script closing.pack listed
  whole =
      ap (λ (l : List Access). l ++ rest) (sym (open_more closing.pack (take i listed) t) ∙ ap (open_script closing.pack) (sym (took_more listed i t is)))
      ∙ sym (open_parts closing.pack (take (i + 1) listed) (drop (i + 1) listed))
      ∙ ap (open_script closing.pack) (take-append-drop (i + 1) listed)

  pub opened_part : OpensPart (open_error e) (open_script closing.pack listed) (IsOf listed) old new
  opened_part = subst (λ (l : List Access). OpensPart (open_error e) l (IsOf listed) old new) whole
      (opens_more (IsOf listed) old new (open_error e) (open_script closing.pack (take i listed) ++ open_table closing.pack t) rest
      (opens_after (IsOf listed) old now new (open_error e) (open_script closing.pack (take i listed)) (open_table closing.pack t)
      (all_wider (IsOf (take i listed)) old now (IsOf listed) early (open_script closing.pack (take i listed)) opened.all)
      (part_wider (one t.table.region) now new (IsOf listed) last (open_error e) (open_table closing.pack t) (opens_shut {T = T} t.table.region t.number (listed_region closing.pack t) now new e resumes))))

-- all of them were opened
pub opened_all : (closing : Closing) (listed : List Listed) (old new : World) (i : ℕ) → length listed ≤ i → OpenedUpTo closing listed i old new → OpensAll (open_script closing.pack listed) (IsOf listed) old new
opened_all closing listed old new i end opened = subst (λ (l : List Listed). OpensAll (open_script closing.pack l) (IsOf l) old new) (take_all i listed end) opened.all

-- ---- what may be asked
module _ (closing : Closing) (listed : List Listed) (i : ℕ) (old now : World) (awaits : AwaitsTables closing old) (opened : OpenedUpTo closing listed i old now) where
  length-script : (pack : ℕ) (ts : List Listed) → length (open_script pack ts) ≡ length ts
  length-script pack [] = refl
  length-script pack (t ∷ ts) = ap suc (length-script pack ts)

  asked_few : i < length listed → length (open_script closing.pack (take i listed)) ≡ i
  asked_few below = length-script closing.pack (take i listed) ∙ length-take-le i listed (omega (arith, below))

  pub spare_opened : i < length listed → length listed ≤ old.store.spare → 1 ≤ now.store.spare
  spare_opened below enough = omega (arith, below, enough, opened.all.spare, asked_few below)

  pub spent_opened : IsMarked closing → length listed + 1 ≡ closing.blocks → i < length listed → spent now < 2 ^ 63 + 2 ^ 60
  spent_opened marked count below =
      let asked : length now.store.asked ≡ length old.store.asked + i = ap (λ (l : List Access). length l) opened.all.did.asked ∙ length-append old.store.asked (open_script closing.pack (take i listed)) ∙ ap (λ (n : ℕ). length old.store.asked + n) (asked_few below) in
      let same : earlier now.vault.start ≡ earlier old.vault.start = earlier_same old.vault.start now.vault.start opened.all.stays.writes opened.all.stays.region in
      omega (arith, asked, same, awaits.few, below, count, marked.blocks_most)

-- ---- what was done
pub tables_cut : {T U : Type 0} (e : VaultErr) (closing : Closing) (listed : List Listed) (catalogue : IsCatalogue closing listed) (old now new : World) (i : ℕ) (t : Listed) (is : slice_get listed i ≡ Some t)
    → OpenedUpTo closing listed i old now → ResumesRegion {T = T} t.table.region (listed_region closing.pack t) t.number (Err e) now new → ReopensTables {T = U} closing listed (Err (open_error e)) old new
tables_cut {T} e closing listed catalogue old now new i t is opened resumes = record {
  opens = record { ok = tt; err = opened_part e closing listed old now new i t is opened resumes };
  never = elim resumes.never [
    | inl failed ↦ inl (ap open_error failed)
    | inr memory ↦ inr (ap open_error memory)
  ];
  lie = resumes.lie ∙ opened.lie;
  kept = λ q. resumes.kept q ∙ opened.kept q;
  tables = tt;
  seals = λ good kept. record {
    seals = λ scope few tells all.
        let few_now : scope.below ≤ next_fault now.store = omega (arith, few, opened.all.stays.faults) in
        (resumes.unsealed good).seals scope few_now (subst IsTrue (sym opened.all.stays.tells) tells) ((opened.seals good kept).seals scope few tells all);
  };
}

pub tables_all : {T : Type 0} (value : T) (closing : Closing) (listed : List Listed) (old new : World) (i : ℕ) → length listed ≤ i → OpenedUpTo closing listed i old new → ReopensTables closing listed (Ok value) old new
tables_all value closing listed old new i end opened = record {
  opens = record { ok = opened_all closing listed old new i end opened; err = tt };
  never = tt;
  lie = opened.lie;
  kept = opened.kept;
  tables = λ j t is. opened.tables j t (omega (arith, end, got_within listed j t is)) is;
  seals = opened.seals;
}
