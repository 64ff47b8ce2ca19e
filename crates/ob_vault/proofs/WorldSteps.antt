-- What each call of a vault does to it and its store.
use Rattle.std.proofs.Common.{◌≡◌, ◌≢◌, ◌==◌, if◌then◌else◌, true, false, Result, Ok, Err, OnOk, OnErr, Option, ◌⊎◌, inl, inr, ℕ, ◌+◌, ◌-◌, ◌<◌, ◌≤◌, List, [], ◌∷◌, ◌++◌, Some, None, Bool, IsTrue, refl, sym, ◌∙◌, ap, subst, arith, append_assoc, length, length-append}
use Rattle.std.specs.Result.{is_err}
use Rattle.std.proofs.lemmas.Bool.{cases_eq}
use Rattle.std.proofs.lemmas.Bool.Decides.{nat_tests}
use Rattle.std.proofs.lemmas.List.{append-nil}
use Rattle.ob_base.specs.declared.access.Access.{Access}
use Rattle.ob_base.specs.declared.access.Access.TheVariants.{Make, Read, Write, Discard, Open}
use Rattle.ob_store.specs.State.{FalseRead, StoreState}
use Rattle.ob_base.specs.Counts.{Rises}
use Rattle.ob_store.specs.Calls.{IsRegion, Asks, Keeps, OnlyAt, OnlyRegion, Makes}
use Rattle.ob_store.specs.Runs.{Later}
use Rattle.ob_store.proofs.Steps.{later_call, later_refl, did_none, did_call, began_call}
use Rattle.ob_seal.specs.KeySet.{KeySet}
use Rattle.ob_seal.specs.Sealed.{sealed}
use Rattle.ob_vault.specs.declared.region.Region.{Region}
use Rattle.ob_vault.specs.declared.fault.VaultErr.TheVariants as VaultErrs
use Rattle.ob_vault.specs.Revs.{OtherRegions, Begins, Wrote, turn_after, place_after}
use Rattle.ob_vault.specs.declared.region.Order.{Order}
use Rattle.ob_vault.specs.declared.region.Order.TheVariants.{Round, Any}
use Rattle.ob_vault.specs.State.{Start, RevState, VaultState, World, from_earlier, earlier}
use Rattle.ob_base.specs.Accesses.{writes, makes, nth_write, discard_at, read_at, write_at}
use Rattle.ob_base.specs.Accesses.{AllBelow}
use Rattle.ob_vault.specs.Numbers.{MayWrite, number_after, last_number, IsNumber, IsStart, WritesBehind}
use Rattle.ob_vault.specs.Tied.{InLaps, IsOwn, Ready, Scope, SealedAt, AllSealed, TagFits, ReadsIn, Untampered, OnTurn, Holds, at_of}
use Rattle.ob_vault.specs.Calls.{Apart, Only, Lasts, Seals, Went, CutShort, none, one}
use Rattle.ob_vault.specs.VaultCalls.{Forgets}
use Rattle.ob_base.proofs.AccessLemmas.{number_read, number_make, number_discard, number_write_here, number_write_other, writes_read, writes_write, writes_make, writes_discard, makes_more, below_more, below_up, number_fresh, went_on, went_last}

-- the number of a write is one after more accesses too
pub number_stays : (old new : World) (more : List Access) (q x n : ℕ) → new.vault.start ≡ old.vault.start → new.store.asked ≡ old.store.asked ++ more → IsNumber old q x n → IsNumber new q x n
number_stays old new more q x n start asked is = elim is [
  | inl went ↦ inl ((λ i. nth_write (n - (start i).writes) (asked i)) ∙ went_on (n - old.vault.start.writes) old.store.asked more (q, x) went)
  | inr given ↦ inr (given.0 ∙ ap (λ (s : Start). s.given q x) (sym start), given.1)
]

-- what stood at a place of a live region stands there, and unless a call failed no write was made to it
pub record StoodAt (scope : Scope) (old new : World) (q x : ℕ) (b : List ℕ) : Type 0 where
  pub live : old.store.live q ≡ None → ⊥
  pub last : old.store.last q x ≡ Some b
  pub number : new.store.faults < scope.below → last_number new q x ≡ last_number old q x

module _ (good : ℕ → List ℕ → Bool) (scope : Scope) (old new : World) (more : List Access) (keys : new.vault.keys ≡ old.vault.keys) (start : new.vault.start ≡ old.vault.start)
    (asked : new.store.asked ≡ old.store.asked ++ more) (faults : old.store.faults ≤ new.store.faults) where
  kept_at : (q x : ℕ) (b : List ℕ) → (new.store.faults < scope.below → last_number new q x ≡ last_number old q x) → SealedAt good scope old q x b → SealedAt good scope new q x b
  kept_at q x b same s = record {
    number = s.number;
    rows = s.rows;
    is = s.is ∙ ap (λ (k : KeySet). sealed k (at_of q x s.number) s.rows) (sym keys);
    went = number_stays old new more q x s.number start asked s.went;
    newest = λ few. s.newest (omega (arith, few, faults)) ∙ sym (same few);
    fine = s.fine;
  }

  pub sealed_kept : ((q x : ℕ) (b : List ℕ) → (new.store.live q ≡ None → ⊥) → new.store.last q x ≡ Some b → SealedAt good scope new q x b ⊎ StoodAt scope old new q x b) → AllSealed good scope old → AllSealed good scope new
  sealed_kept each all = record { all = λ q x b from live at. elim (each q x b live at) [ inl s ↦ s | inr o ↦ kept_at q x b o.number (all.all q x b from o.live o.last) ] }

  -- over a call that makes no write
  module _ (numbers : (q x : ℕ) → last_number new q x ≡ last_number old q x) where
    pub sealed_keeps : Keeps old.store new.store → AllSealed good scope old → AllSealed good scope new
    sealed_keeps keeps = sealed_kept (λ q x b live at. inr (record { live = λ n. live (keeps.live q ∙ n); last = sym (keeps.last q x) ∙ at; number = λ few. numbers q x }))

    -- except for a region that is gone, or has no block
    pub sealed_except : (g : ℕ) → OnlyRegion g old.store new.store → ((new.store.live g ≡ None) ⊎ ((x : ℕ) → new.store.last g x ≡ None)) → AllSealed good scope old → AllSealed good scope new
    sealed_except g only gone = sealed_kept (λ q x b live at. elim (cases_eq q g) [
      | inl here ↦ absurd (elim gone [
        | inl left ↦ live (ap new.store.live here ∙ left)
        | inr empty ↦ cc (sym at ∙ ap (λ (k : ℕ). new.store.last k x) here ∙ empty x)
      ])
      | inr off ↦ inr (record { live = λ n. live (only.live q off ∙ n); last = sym (only.last q x off) ∙ at; number = λ few. numbers q x })
    ])

-- where nothing was asked, and the vault has the same keys and start
pub seals_unasked : (good : ℕ → List ℕ → Bool) (old new : World) → new.vault.keys ≡ old.vault.keys → new.vault.start ≡ old.vault.start → new.store.asked ≡ old.store.asked
    → old.store.faults ≤ new.store.faults → Keeps old.store new.store → Seals good old new
seals_unasked good old new keys start asked faults keeps = record {
  seals = λ scope few tells all. sealed_keeps good scope old new [] keys start (asked ∙ sym (append-nil old.store.asked)) faults (λ q x i. number_after (start i) (asked i) q x) keeps all;
}

-- numbers and the next place that stay as they were
pub laps_same : (q : ℕ) (shape : Region) (a b : RevState) → ((x : ℕ) → b.number q x ≡ a.number q x) → b.turn q ≡ a.turn q → InLaps q shape a → InLaps q shape b
laps_same q shape a b numbers turn laps = record {
  runs = λ x below next some.
      numbers (x + 1) ∙ laps.runs x below (λ same. next (same ∙ sym turn)) (λ none. some (numbers x ∙ none)) ∙ ap (λ (n : ℕ). n + 1) (sym (numbers x));
}

-- writes after a region, and one access more
pub behind_more : (start : Start) (asked : List Access) (a : Access) → WritesBehind start asked → WritesBehind start (a ∷ []) → WritesBehind start (asked ++ a ∷ [])
behind_more start [] a all last = last
behind_more start (Make q blocks len ∷ rest) a all last = behind_more start rest a all last
behind_more start (Read q x ∷ rest) a all last = behind_more start rest a all last
behind_more start (Write q x ∷ rest) a all last = (all.0, behind_more start rest a all.1 last)
behind_more start (Discard q ∷ rest) a all last = behind_more start rest a all last
behind_more start (Open q blocks len ∷ rest) a all last = behind_more start rest a all last

behind_asked : (start : Start) (a : Access) (old new : StoreState) → Asks a old new → WritesBehind start old.asked → WritesBehind start (a ∷ []) → WritesBehind start new.asked
behind_asked start a old new asks all last = subst (WritesBehind start) (sym asks.asked) (behind_more start old.asked a all last)

-- a call that may have changed one region, and no number
pub record Moved (g : ℕ) (old new : World) : Type 0 where
  pub keys : new.vault.keys ≡ old.vault.keys
  pub start : new.vault.start ≡ old.vault.start
  pub count : new.vault.count ≡ new.vault.start.writes + writes new.store.asked
  pub next : new.vault.next ≡ new.vault.start.region + 1 + makes new.store.asked
  pub above : AllBelow new.vault.next new.store.asked
  pub own : WritesBehind new.vault.start new.store.asked
  pub up : old.vault.next ≤ new.vault.next
  pub revs : OtherRegions g old.vault.revs new.vault.revs
  pub only : OnlyRegion g old.store new.store
  pub numbers : (q x : ℕ) → last_number new q x ≡ last_number old q x
  pub here_shape : (new.vault.revs.live g ≡ None) ⊎ (old.vault.next ≤ g)
  pub here_live : (shape : Region) → new.vault.revs.live g ≡ Some shape → IsRegion g shape.blocks (shape.width + 32) new.store
  pub here_number : (shape : Region) → new.vault.revs.live g ≡ Some shape → (x : ℕ) → new.vault.revs.number g x ≡ last_number new g x
  pub here_below : (shape : Region) → new.vault.revs.live g ≡ Some shape → g < new.vault.next
  pub here_fits : (shape : Region) → new.vault.revs.live g ≡ Some shape → (1 ≤ shape.width) × (shape.width ≤ 16384)
  pub here_laps : (shape : Region) → new.vault.revs.live g ≡ Some shape → InLaps g shape new.vault.revs

pub ready_moved : (g : ℕ) (old new : World) → Ready old → Moved g old new → Ready new
ready_moved g old new ready m = record {
  tied = record {
    start = subst IsStart (sym m.start) ready.tied.start;
    count = m.count;
    next = m.next;
    above = m.above;
    own = m.own;
    live = λ q shape l. elim (cases_eq q g) [
      | inl here ↦ subst (λ (k : ℕ). IsRegion k shape.blocks (shape.width + 32) new.store) (sym here) (m.here_live shape (sym (ap new.vault.revs.live here) ∙ l))
      | inr off ↦ record { live = m.only.live q off ∙ (ready.tied.live q shape (sym (m.revs.live q off) ∙ l)).live }
    ];
    numbers = λ q x shape l h. elim (cases_eq q g) [
      | inl here ↦ ap (λ (k : ℕ). new.vault.revs.number k x) here ∙ m.here_number shape (sym (ap new.vault.revs.live here) ∙ l) x ∙ sym (ap (λ (k : ℕ). last_number new k x) here)
      | inr off ↦ m.revs.number q x off ∙ ready.tied.numbers q x shape (sym (m.revs.live q off) ∙ l) h ∙ sym (m.numbers q x)
    ];
  };
  below = λ q shape l. elim (cases_eq q g) [
    | inl here ↦ subst (λ (k : ℕ). k < new.vault.next) (sym here) (m.here_below shape (sym (ap new.vault.revs.live here) ∙ l))
    | inr off ↦ omega (arith, ready.below q shape (sym (m.revs.live q off) ∙ l), m.up)
  ];
  fits = λ q shape l. elim (cases_eq q g) [
    | inl here ↦ m.here_fits shape (sym (ap new.vault.revs.live here) ∙ l)
    | inr off ↦ ready.fits q shape (sym (m.revs.live q off) ∙ l)
  ];
  laps = λ q shape l round. elim (cases_eq q g) [
    | inl here ↦ subst (λ (k : ℕ). InLaps k shape new.vault.revs) (sym here) (m.here_laps shape (sym (ap new.vault.revs.live here) ∙ l))
    | inr off ↦ laps_same q shape old.vault.revs new.vault.revs (λ x. m.revs.number q x off) (m.revs.turn q off) (ready.laps q shape (sym (m.revs.live q off) ∙ l) round)
  ];
}

pub apart_moved : (g : ℕ) (old new : World) → Moved g old new → Apart (one g) old new
apart_moved g old new m = record {
  live = λ q off. m.revs.live q off;
  number = λ q x off. m.revs.number q x off;
  turn = λ q off. m.revs.turn q off;
  kept = λ q off. m.only.live q off;
  last = λ q x off. m.only.last q x off;
  rests = λ q off. m.only.kept q off;
}

pub lasts_moved : (g : ℕ) (old new : World) → Ready old → Moved g old new → Later old.store new.store → Lasts (one g) old new
lasts_moved g old new ready m later = record {
  ready = ready_moved g old new ready m;
  later = later;
  keys = m.keys;
  start = m.start;
  shapes = record {
    next = m.up;
    shapes = λ q below. elim (cases_eq q g) [
      | inl here ↦ elim m.here_shape [
        | inl gone ↦ inl (ap new.vault.revs.live here ∙ gone)
        | inr fresh ↦ absurd (omega (arith, here, below, fresh))
      ]
      | inr off ↦ inr (m.revs.live q off)
    ];
  };
  apart = apart_moved g old new m;
}

abbrev pub world : VaultState → StoreState → World
world v s = record { vault = v; store = s }

-- over a call whose read told no lie
pub fits_lasts : (some : ℕ → Type 0) (old new : World) (lie : FalseRead) → Lasts some old new → TagFits old.vault.keys old.vault.start lie → TagFits new.vault.keys new.vault.start lie
fits_lasts some old new lie lasts fits = subst (λ (k : KeySet). TagFits k new.vault.start lie) (sym lasts.keys) (subst (λ (s : Start). TagFits old.vault.keys s lie) (sym lasts.start) fits)

pub reads_on : (lie : FalseRead) (asked more all : List Access) → all ≡ asked ++ more → ReadsIn lie asked → ReadsIn lie all
reads_on lie asked more all is reads = record {
  rest = reads.rest ++ more;
  is = sym (append_assoc lie.before (Read lie.region lie.place ∷ reads.rest) more) ∙ ap (λ (l : List Access). l ++ more) reads.is ∙ sym is;
}

pub calm_lasts : (some : ℕ → Type 0) (old new : World) (more : List Access) → Lasts some old new → new.store.asked ≡ old.store.asked ++ more → new.store.lie ≡ old.store.lie → Untampered old → Untampered new
calm_lasts some old new more lasts asked same calm = record {
  calm = λ lie is. fits_lasts some old new lie lasts (calm.calm lie (sym same ∙ is));
  within = λ lie is. reads_on lie old.store.asked more new.store.asked asked (calm.within lie (sym same ∙ is));
}

-- before the first lie
pub calm_none : (w : World) → w.store.lie ≡ None → Untampered w
calm_none w none = record { calm = λ lie told. absurd (cc (told, none)); within = λ lie told. absurd (cc (told, none)) }

-- no call
pub lasts_none : (some : ℕ → Type 0) (w : World) → Ready w → Lasts some w w
lasts_none some w ready = record {
  ready = ready;
  later = later_refl w.store;
  keys = refl;
  start = refl;
  shapes = record { next = omega arith; shapes = λ q below. inr refl };
  apart = record { live = λ q off. refl; number = λ q x off. refl; turn = λ q off. refl; kept = λ q off. refl; last = λ q x off. refl; rests = λ q off. refl };
}

-- a read
pub lasts_read : (v : VaultState) (old new : StoreState) (q x : ℕ) (shape : Region) → Ready (world v old) → v.revs.live q ≡ Some shape → Asks (Read q x) old new → Keeps old new → Lasts none (world v old) (world v new)
lasts_read v old new q x shape ready lives asks keeps =
    let tied = ready.tied in
    let numbers : (r y : ℕ) → number_after v.start new.asked r y ≡ number_after v.start old.asked r y =
    λ r y. ap (λ (l : List Access). number_after v.start l r y) asks.asked ∙ number_read v.start.writes (v.start.given r y) r y q x old.asked in
    record {
      ready = record {
        tied = record {
          start = tied.start;
          count = tied.count ∙ sym (ap (λ (l : List Access). v.start.writes + writes l) asks.asked ∙ ap (λ (n : ℕ). v.start.writes + n) (writes_read q x old.asked));
          next = omega (arith, tied.next, ap makes asks.asked, makes_more old.asked (Read q x));
          above = subst (AllBelow v.next) (sym asks.asked) (below_more v.next old.asked (Read q x) tied.above (ready.below q shape lives));
          own = behind_asked v.start (Read q x) old new asks tied.own tt;
          live = λ r s l. record { live = keeps.live r ∙ (tied.live r s l).live };
          numbers = λ r y s l h. tied.numbers r y s l h ∙ sym (numbers r y);
        };
        below = ready.below;
        fits = ready.fits;
        laps = ready.laps;
      };
      later = later_call _ _ _ asks;
      keys = refl;
      start = refl;
      shapes = record { next = omega arith; shapes = λ r below. inr refl };
      apart = record {
        live = λ r off. refl;
        number = λ r y off. refl;
        turn = λ r off. refl;
        kept = λ r off. keeps.live r;
        last = λ r y off. keeps.last r y;
        rests = λ r off. keeps.kept r;
      };
    }

-- a discard of a region that was made, or is one of an earlier run
pub lasts_discard : (v : VaultState) (revs : RevState) (old new : StoreState) (g : ℕ) → Ready (world v old) → g < v.next → OtherRegions g v.revs revs → revs.live g ≡ None
    → Asks (Discard g) old new → OnlyRegion g old new → (new.live g ≡ None) ⊎ Keeps old new → Lasts (one g) (world v old) (world (record v { revs = revs }) new)
lasts_discard v revs old new g ready below others gone asks only left =
    let tied = ready.tied in
    let was = world v old in
    let now = world (record v { revs = revs }) new in
    lasts_moved g was now ready (record {
      keys = refl;
      start = refl;
      count = tied.count ∙ sym (ap (λ (l : List Access). v.start.writes + writes l) asks.asked ∙ ap (λ (n : ℕ). v.start.writes + n) (writes_discard g old.asked));
      next = omega (arith, tied.next, ap makes asks.asked, makes_more old.asked (Discard g));
      above = subst (AllBelow v.next) (sym asks.asked) (below_more v.next old.asked (Discard g) tied.above below);
      own = behind_asked v.start (Discard g) old new asks tied.own tt;
      up = omega arith;
      revs = others;
      only = only;
      numbers = λ q x. ap (λ (l : List Access). number_after v.start l q x) asks.asked ∙ number_discard v.start.writes (v.start.given q x) q x g old.asked;
      here_shape = inl gone;
      here_live = λ s l. absurd (cc (l, gone));
      here_number = λ s l x. absurd (cc (l, gone));
      here_below = λ s l. absurd (cc (l, gone));
      here_fits = λ s l. absurd (cc (l, gone));
      here_laps = λ s l. absurd (cc (l, gone));
    }) (later_call _ _ _ asks)

-- of one that is live in the vault
pub lasts_drop : (v : VaultState) (revs : RevState) (old new : StoreState) (g : ℕ) (shape : Region) → Ready (world v old) → v.revs.live g ≡ Some shape → OtherRegions g v.revs revs → revs.live g ≡ None
    → Asks (Discard g) old new → OnlyRegion g old new → (new.live g ≡ None) ⊎ Keeps old new → Lasts (one g) (world v old) (world (record v { revs = revs }) new)
lasts_drop v revs old new g shape ready lives others gone asks only left = lasts_discard v revs old new g ready (ready.below g shape lives) others gone asks only left

-- a region that the vault alone forgets
pub lasts_forget : (v : VaultState) (revs : RevState) (s : StoreState) (g : ℕ) → Ready (world v s) → OtherRegions g v.revs revs → revs.live g ≡ None → Lasts (one g) (world v s) (world (record v { revs = revs }) s)
lasts_forget v revs s g ready others gone =
    let tied = ready.tied in
    lasts_moved g (world v s) (world (record v { revs = revs }) s) ready (record {
      keys = refl;
      start = refl;
      count = tied.count;
      next = tied.next;
      above = tied.above;
      own = tied.own;
      up = omega arith;
      revs = others;
      only = record { live = λ q off. refl; last = λ q x off. refl; kept = λ q off. refl };
      numbers = λ q x. refl;
      here_shape = inl gone;
      here_live = λ s l. absurd (cc (l, gone));
      here_number = λ s l x. absurd (cc (l, gone));
      here_below = λ s l. absurd (cc (l, gone));
      here_fits = λ s l. absurd (cc (l, gone));
      here_laps = λ s l. absurd (cc (l, gone));
    }) (later_refl s)

pub forgets_region : (v : VaultState) (revs : RevState) (s : StoreState) (g : ℕ) → OtherRegions g v.revs revs → revs.live g ≡ None → Forgets g (world v s) (world (record v { revs = revs }) s)
forgets_region v revs s g others gone = record {
  went = λ ready. let lasts = lasts_forget v revs s g ready others gone in record {
    lasts = lasts;
    did = did_none s;
    spare = omega arith;
    calm = calm_lasts _ _ _ [] lasts (sym (append-nil s.asked)) refl;
  };
  seals = λ good. seals_unasked good _ _ refl refl refl (omega arith) (record { live = λ q. refl; last = λ q x. refl; kept = λ q. refl });
  gone = gone;
}

pub seals_drop : (good : ℕ → List ℕ → Bool) (v : VaultState) (revs : RevState) (old new : StoreState) (g : ℕ) → Asks (Discard g) old new → OnlyRegion g old new → (new.live g ≡ None) ⊎ Keeps old new
    → Seals good (world v old) (world (record v { revs = revs }) new)
seals_drop good v revs old new g asks only left =
    let was = world v old in
    let now = world (record v { revs = revs }) new in
    let numbers : (q x : ℕ) → number_after v.start new.asked q x ≡ number_after v.start old.asked q x =
    λ q x. ap (λ (l : List Access). number_after v.start l q x) asks.asked ∙ number_discard v.start.writes (v.start.given q x) q x g old.asked in
    record {
      seals = λ scope few tells all. elim left [
        | inl left ↦ sealed_except good scope was now (discard_at g) refl refl asks.asked asks.faults numbers g only (inl left) all
        | inr keeps ↦ sealed_keeps good scope was now (discard_at g) refl refl asks.asked asks.faults numbers keeps all
      ];
    }

pub seals_read : (good : ℕ → List ℕ → Bool) (v : VaultState) (old new : StoreState) (q x : ℕ) → Asks (Read q x) old new → Keeps old new → Seals good (world v old) (world v new)
seals_read good v old new q x asks keeps =
    let numbers : (r y : ℕ) → number_after v.start new.asked r y ≡ number_after v.start old.asked r y =
    λ r y. ap (λ (l : List Access). number_after v.start l r y) asks.asked ∙ number_read v.start.writes (v.start.given r y) r y q x old.asked in
    record { seals = λ scope few tells all. sealed_keeps good scope (world v old) (world v new) (read_at q x) refl refl asks.asked asks.faults numbers keeps all }

-- no number changes by a make
numbers_make : (v : VaultState) (old new : StoreState) (g blocks len : ℕ) → Asks (Make g blocks len) old new → (q x : ℕ) → number_after v.start new.asked q x ≡ number_after v.start old.asked q x
numbers_make v old new g blocks len asks q x = ap (λ (l : List Access). number_after v.start l q x) asks.asked ∙ number_make v.start.writes (v.start.given q x) q x g blocks len old.asked

-- a make: nothing lies in its region, if that is there
pub seals_make : (good : ℕ → List ℕ → Bool) (v : VaultState) (revs : RevState) (old new : StoreState) (g blocks len : ℕ) → Asks (Make g blocks len) old new → Makes g blocks len old new
    → Seals good (world v old) (world (record v { next = v.next + 1; revs = revs }) new)
seals_make good v revs old new g blocks len asks makes' =
    let numbers = numbers_make v old new g blocks len asks in
    record { seals = λ scope few tells all. sealed_except good scope (world v old) (world (record v { next = v.next + 1; revs = revs }) new) (Make g blocks len ∷ []) refl refl asks.asked asks.faults numbers g makes'.others (inr makes'.empty) all }

pub seals_unmade : (good : ℕ → List ℕ → Bool) (v : VaultState) (revs : RevState) (old new : StoreState) (g blocks len : ℕ) → Asks (Make g blocks len) old new → Keeps old new
    → Seals good (world v old) (world (record v { next = v.next + 1; revs = revs }) new)
seals_unmade good v revs old new g blocks len asks keeps =
    let numbers = numbers_make v old new g blocks len asks in
    record { seals = λ scope few tells all. sealed_keeps good scope (world v old) (world (record v { next = v.next + 1; revs = revs }) new) (Make g blocks len ∷ []) refl refl asks.asked asks.faults numbers keeps all }

pub only_keeps : (g : ℕ) (old new : StoreState) → Keeps old new → OnlyRegion g old new
only_keeps g old new keeps = record { live = λ q off. keeps.live q; last = λ q x off. keeps.last q x; kept = λ q off. keeps.kept q }

-- a call that answered
pub went_call : (a : Access) (some : ℕ → Type 0) (old new : World) → Lasts some old new → Asks a old.store new.store → new.store.faults ≡ old.store.faults → new.store.lie ≡ old.store.lie → Went (a ∷ []) some old new
went_call a some old new lasts asks faults lie = record {
  lasts = lasts;
  did = did_call a old.store new.store asks faults;
  spare = asks.spare;
  calm = calm_lasts some old new (a ∷ []) lasts asks.asked lie;
}

module _ (v : VaultState) (revs : RevState) (old new : StoreState) (q x : ℕ) (shape : Region) (ready : Ready (world v old)) (lives : v.revs.live q ≡ Some shape)
    (own : MayWrite v.start q) (in_turn : OnTurn q shape x (world v old)) (wrote : Wrote q shape x (v.count + 1) v.revs revs) (asks : Asks (Write q x) old new) (only : OnlyAt q x old new) where
  number_here : number_after v.start new.asked q x ≡ v.count + 1
  number_here = ap (λ (l : List Access). number_after v.start l q x) asks.asked ∙ number_write_here v.start.writes (v.start.given q x) q x old.asked ∙ ap (λ (n : ℕ). n + 1) (sym ready.tied.count)

  number_other : (r y : ℕ) → (r ≡ q → y ≡ x → ⊥) → number_after v.start new.asked r y ≡ number_after v.start old.asked r y
  number_other r y off = ap (λ (l : List Access). number_after v.start l r y) asks.asked ∙ number_write_other v.start.writes (v.start.given r y) r y q x old.asked off

  -- after the last place the first one is next, and after any other the one after it
  next_place : (n : ℕ) → n + 1 < shape.blocks → (if n + 1 == shape.blocks then 0 else n + 1) ≡ n + 1
  next_place n below = grind (arith, nat_tests)

  next_turn : (o : Order) → o ≡ Round → x + 1 < shape.blocks → place_after o shape.blocks x ≡ x + 1
  next_turn Round round below = next_place x below
  next_turn Any round below = absurd (cc round)

  kept_number : (y : ℕ) → y ≢ x → revs.number q y ≡ v.revs.number q y
  kept_number y off = wrote.others q y (λ _ same. off same)

  laps_here : shape.order ≡ Round → InLaps q shape revs
  laps_here round = record {
    runs = λ y below next some. elim (cases_eq (y + 1) x) [
      | inl last ↦
          let here : revs.number q (y + 1) ≡ v.count + 1 = ap (revs.number q) last ∙ wrote.here in
          let kept : revs.number q y ≡ v.revs.number q y = kept_number y (λ same. absurd (omega (arith, last, same))) in
          let before : v.revs.number q y ≡ v.count = ap (v.revs.number q) (omega (arith, last)) ∙ in_turn.run round (λ zero. absurd (omega (arith, last, zero))) in
          omega (arith, here, kept, before)
      | inr off ↦ elim (cases_eq y x) [
        | inl here ↦ absurd (next (ap (λ (n : ℕ). n + 1) here ∙ sym (wrote.turn ∙ next_turn shape.order round (omega (arith, here, below)))))
        | inr away ↦
            kept_number (y + 1) off
            ∙ (ready.laps q shape lives round).runs y below (λ same. off (same ∙ sym (in_turn.turn round))) (λ none. some (kept_number y away ∙ none))
            ∙ ap (λ (n : ℕ). n + 1) (sym (kept_number y away))
      ]
    ];
  }

  now_laps : (r : ℕ) (s : Region) → revs.live r ≡ Some s → s.order ≡ Round → InLaps r s revs
  now_laps r s l round = elim (cases_eq r q) [
    | inl here ↦
        let same : shape ≡ s = cc (lives, sym (ap v.revs.live here) ∙ sym (wrote.live r) ∙ l) in
        subst (λ (k : ℕ). InLaps k s revs) (sym here) (subst (λ (k : Region). InLaps q k revs) same (laps_here (ap (λ (k : Region). k.order) same ∙ round)))
    | inr off ↦ laps_same r s v.revs revs (λ y. wrote.others r y (λ same _. off same)) (wrote.turns r off) (ready.laps r s (sym (wrote.live r) ∙ l) round)
  ]

  now_ready : Ready (world (record v { count = v.count + 1; revs = revs }) new)
  now_ready =
      let tied = ready.tied in
      record {
        tied = record {
          start = tied.start;
          count = omega (arith, tied.count, ap writes asks.asked, writes_write q x old.asked);
          next = omega (arith, tied.next, ap makes asks.asked, makes_more old.asked (Write q x));
          above = subst (AllBelow v.next) (sym asks.asked) (below_more v.next old.asked (Write q x) tied.above (ready.below q shape lives));
          own = behind_asked v.start (Write q x) old new asks tied.own (own, tt);
          live = λ r s l. record { live = only.live r ∙ (tied.live r s (sym (wrote.live r) ∙ l)).live };
          numbers = λ r y s l h. elim (cases_eq r q) [
            | inl in_region ↦ elim (cases_eq y x) [
              | inl here ↦ (λ i. revs.number (in_region i) (here i)) ∙ wrote.here ∙ sym number_here ∙ sym (λ i. number_after v.start new.asked (in_region i) (here i))
              | inr off ↦ wrote.others r y (λ _ same. off same) ∙ tied.numbers r y s (sym (wrote.live r) ∙ l) h ∙ sym (number_other r y (λ _ same. off same))
            ]
            | inr off ↦ wrote.others r y (λ same _. off same) ∙ tied.numbers r y s (sym (wrote.live r) ∙ l) h ∙ sym (number_other r y (λ same _. off same))
          ];
        };
        below = λ r s l. ready.below r s (sym (wrote.live r) ∙ l);
        fits = λ r s l. ready.fits r s (sym (wrote.live r) ∙ l);
        laps = now_laps;
      }

  -- the block is there, or the store failed and what was there stands
  now_sealed : (good : ℕ → List ℕ → Bool) (scope : Scope) (block rows : List ℕ) → IsTrue (good q rows) → block ≡ sealed v.keys (at_of q x (v.count + 1)) rows
      → ((scope.below ≤ new.faults) × (new.last q x ≡ old.last q x)) ⊎ (new.last q x ≡ Some block) → AllSealed good scope (world v old) → AllSealed good scope (world (record v { count = v.count + 1; revs = revs }) new)
  now_sealed good scope block rows fine is left all = sealed_kept good scope (world v old) (world (record v { count = v.count + 1; revs = revs }) new) (write_at q x) refl refl asks.asked asks.faults each all
    where
      now : World
      now = world (record v { count = v.count + 1; revs = revs }) new

      Goal : ℕ → ℕ → List ℕ → Type 0
      Goal r y b = SealedAt good scope now r y b ⊎ StoodAt scope (world v old) now r y b

      at_place : (b : List ℕ) → (new.live q ≡ None → ⊥) → new.last q x ≡ Some b → ((scope.below ≤ new.faults) × (new.last q x ≡ old.last q x)) ⊎ (new.last q x ≡ Some block) → Goal q x b
      at_place b live at (inl same) = inr (record { live = λ n. live (only.live q ∙ n); last = sym same.1 ∙ at; number = λ few. absurd (omega (arith, few, same.0)) })
      at_place b live at (inr put) =
          let same : b ≡ block = cc (at, put) in
          inl (record {
            number = v.count + 1;
            rows = rows;
            is = same ∙ is;
            fine = fine;
            went = inl (ap (nth_write (v.count + 1 - v.start.writes)) asks.asked ∙ went_last (v.count + 1 - v.start.writes) q x old.asked (omega (arith, ready.tied.count)));
            newest = λ few. sym number_here;
          })

      elsewhere : (r y : ℕ) (b : List ℕ) → (new.live r ≡ None → ⊥) → new.last r y ≡ Some b → (r ≡ q → y ≡ x → ⊥) → Goal r y b
      elsewhere r y b live at off = inr (record { live = λ n. live (only.live r ∙ n); last = sym (only.elsewhere r y off) ∙ at; number = λ few. number_other r y off })

      each : (r y : ℕ) (b : List ℕ) → (new.live r ≡ None → ⊥) → new.last r y ≡ Some b → Goal r y b
      each r y b live at = elim (cases_eq r q) [
        | inl in_region ↦ elim (cases_eq y x) [
          | inl here ↦
              let r' = sym in_region in
              let h' = sym here in
              let there : new.last q x ≡ Some b = (λ i. new.last (r' i) (h' i)) ∙ at in
              let alive : new.live q ≡ None → ⊥ = λ n. live (ap new.live in_region ∙ n) in
              subst (λ (k : ℕ). Goal k y b) r' (subst (λ (k : ℕ). Goal q k b) h' (at_place b alive there left))
          | inr off ↦ elsewhere r y b live at (λ _ same. off same)
        ]
        | inr off ↦ elsewhere r y b live at (λ same _. off same)
      ]

  pub lasts_write : Lasts (one q) (world v old) (world (record v { count = v.count + 1; revs = revs }) new)
  lasts_write = record {
    ready = now_ready;
    later = later_call _ _ _ asks;
    keys = refl;
    start = refl;
    shapes = record { next = omega arith; shapes = λ r below. inr (wrote.live r) };
    apart = record {
      live = λ r off. wrote.live r;
      number = λ r y off. wrote.others r y (λ same _. off same);
      turn = λ r off. wrote.turns r off;
      kept = λ r off. only.live r;
      last = λ r y off. only.elsewhere r y (λ same _. off same);
      rests = λ r off. only.kept r off;
    };
  }

  pub seals_write : (good : ℕ → List ℕ → Bool) (block rows : List ℕ) → IsTrue (good q rows) → block ≡ sealed v.keys (at_of q x (v.count + 1)) rows
      → (IsTrue old.tells → (Rises old.faults new.faults × (new.last q x ≡ old.last q x)) ⊎ (new.last q x ≡ Some block)) → Seals good (world v old) (world (record v { count = v.count + 1; revs = revs }) new)
  seals_write good block rows fine is left = record {
    seals = λ scope few tells all. now_sealed good scope block rows fine is (elim (left tells) [ inl failed ↦ inl (omega (arith, few, failed.0), failed.1) | inr put ↦ inr put ]) all;
  }

  pub only_write : Only q x (world v old) (world (record v { count = v.count + 1; revs = revs }) new)
  only_write = record {
    keys = refl;
    start = refl;
    live = wrote.live;
    number = wrote.others;
    last = only.elsewhere;
  }

  -- the next place of a round region
  pub turn_write : OnTurn q shape (turn_after shape x) (world (record v { count = v.count + 1; revs = revs }) new)
  turn_write = record {
    turn = λ round. sym wrote.turn;
    run = λ round some. ap (revs.number q) (before shape.order round some) ∙ wrote.here;
  }
    where
      back : (t : Bool) → (if t then 0 else x + 1) ≢ 0 → (if t then 0 else x + 1) - 1 ≡ x
      back true some = absurd (some refl)
      back false some = omega arith

      before : (o : Order) → o ≡ Round → place_after o shape.blocks x ≢ 0 → place_after o shape.blocks x - 1 ≡ x
      before Round round some = back (x + 1 == shape.blocks) some
      before Any round some = absurd (cc round)

  pub holds_write : (rows block : List ℕ) → block ≡ sealed v.keys (at_of q x (v.count + 1)) rows → new.last q x ≡ Some block → Holds q x rows (world (record v { count = v.count + 1; revs = revs }) new)
  holds_write rows block is last = record { last = last ∙ ap (λ (b : List ℕ). Some b) (is ∙ ap (λ (n : ℕ). sealed v.keys (at_of q x n) rows) (sym wrote.here)) }

-- a call asks an access
pub asked_call : (a : Access) (old new : StoreState) → Asks a old new → length old.asked < length new.asked
asked_call a old new asks =
    let n = ap (λ (l : List Access). length l) asks.asked ∙ length-append old.asked (a ∷ []) in
    omega (arith, n)

-- a call that failed
pub cut_call : (a : Access) (some : ℕ → Type 0) (old new : World) → Lasts some old new → Asks a old.store new.store → Rises old.store.faults new.store.faults → new.store.lie ≡ old.store.lie → CutShort VaultErrs.Failed (a ∷ []) some old new
cut_call a some old new lasts asks rises lie = record {
  lasts = lasts;
  began = began_call a old.store new.store asks;
  asks = λ some. asked_call a old.store new.store asks;
  cause = (rises, calm_lasts some old new (a ∷ []) lasts asks.asked lie);
}

-- a region that was made
pub lasts_make : (v : VaultState) (revs : RevState) (old new : StoreState) (shape : Region) → Ready (world v old) → (1 ≤ shape.width) × (shape.width ≤ 16384) → Begins v.next shape v.revs revs
    → Asks (Make v.next shape.blocks (shape.width + 32)) old new → Makes v.next shape.blocks (shape.width + 32) old new → Lasts (one v.next) (world v old) (world (record v { next = v.next + 1; revs = revs }) new)
lasts_make v revs old new shape ready wide begins asks makes' =
    let tied = ready.tied in
    let g = v.next in
    let access = Make g shape.blocks (shape.width + 32) in
    let was = world v old in
    let now = world (record v { next = v.next + 1; revs = revs }) new in
    let numbers = numbers_make v old new g shape.blocks (shape.width + 32) asks in
    lasts_moved g was now ready (record {
      keys = refl;
      start = refl;
      count = omega (arith, tied.count, ap writes asks.asked, writes_make g shape.blocks (shape.width + 32) old.asked);
      next = omega (arith, tied.next, ap makes asks.asked, makes_more old.asked access);
      above = subst (AllBelow (v.next + 1)) (sym asks.asked) (below_more (v.next + 1) old.asked access (below_up v.next (v.next + 1) old.asked (omega arith) tied.above) (omega arith));
      own = behind_asked v.start access old new asks tied.own tt;
      up = omega arith;
      revs = begins.others;
      only = makes'.others;
      numbers = numbers;
      here_shape = inr (omega arith);
      here_live = λ s l. let same : shape ≡ s = cc (begins.here, l) in subst (λ (k : Region). IsRegion g k.blocks (k.width + 32) new) same makes'.here;
      here_number = λ s l x. begins.unwritten x ∙ sym (tied.start.fresh g x (omega (arith, tied.next))) ∙ sym (number_fresh v.start.writes (v.start.given g x) g x old.asked tied.above) ∙ sym (numbers g x);
      here_below = λ s l. omega arith;
      here_fits = λ s l. let same : shape ≡ s = cc (begins.here, l) in subst (λ (k : Region). (1 ≤ k.width) × (k.width ≤ 16384)) same wide;
      here_laps = λ s l. record { runs = λ x below next some. absurd (some (begins.unwritten x)) };
    }) (later_call _ _ _ asks)

-- no region has the next number
pub next_none : (o : Option Region) → ((shape : Region) → o ≡ Some shape → ⊥) → o ≡ None
next_none None off = refl
next_none (Some shape) off = absurd (off shape refl)

pub next_gone : (v : VaultState) (s : StoreState) → Ready (world v s) → v.revs.live v.next ≡ None
next_gone v s ready = next_none (v.revs.live v.next) (λ shape is. absurd (omega (arith, ready.below v.next shape is)))

others_same : (g : ℕ) (revs : RevState) → OtherRegions g revs revs
others_same g revs = record { live = λ q off. refl; number = λ q x off. refl; turn = λ q off. refl }

-- one that was not, or of which the vault took no note
pub lasts_unmade : (v : VaultState) (revs : RevState) (old new : StoreState) (blocks len : ℕ) → Ready (world v old) → revs ≡ v.revs
    → Asks (Make v.next blocks len) old new → OnlyRegion v.next old new → Lasts (one v.next) (world v old) (world (record v { next = v.next + 1; revs = revs }) new)
lasts_unmade v revs old new blocks len ready same asks only =
    let tied = ready.tied in
    let g = v.next in
    let access = Make g blocks len in
    let was = world v old in
    let now = world (record v { next = v.next + 1; revs = revs }) new in
    let gone : revs.live g ≡ None = ap (λ (r : RevState). r.live g) same ∙ next_gone v old ready in
    lasts_moved g was now ready (record {
      keys = refl;
      start = refl;
      count = omega (arith, tied.count, ap writes asks.asked, writes_make g blocks len old.asked);
      next = omega (arith, tied.next, ap makes asks.asked, makes_more old.asked access);
      above = subst (AllBelow (v.next + 1)) (sym asks.asked) (below_more (v.next + 1) old.asked access (below_up v.next (v.next + 1) old.asked (omega arith) tied.above) (omega arith));
      own = behind_asked v.start access old new asks tied.own tt;
      up = omega arith;
      revs = subst (OtherRegions g v.revs) (sym same) (others_same g v.revs);
      only = only;
      numbers = numbers_make v old new g blocks len asks;
      here_shape = inl gone;
      here_live = λ s l. absurd (cc (l, gone));
      here_number = λ s l x. absurd (cc (l, gone));
      here_below = λ s l. absurd (cc (l, gone));
      here_fits = λ s l. absurd (cc (l, gone));
      here_laps = λ s l. absurd (cc (l, gone));
    }) (later_call _ _ _ asks)

pub others_twice : (g : ℕ) (a b c : RevState) → OtherRegions g a b → OtherRegions g b c → OtherRegions g a c
others_twice g a b c first second = record {
  live = λ q off. second.live q off ∙ first.live q off;
  number = λ q x off. second.number q x off ∙ first.number q x off;
  turn = λ q off. second.turn q off ∙ first.turn q off;
}

-- a make for which the store or the vault had no memory
pub cut_call_none : (a : Access) (some : ℕ → Type 0) (old new : World) → Lasts some old new → Asks a old.store new.store → new.store.faults ≡ old.store.faults → new.store.lie ≡ old.store.lie → CutShort VaultErrs.NoMemory (a ∷ []) some old new
cut_call_none a some old new lasts asks faults lie = record {
  lasts = lasts;
  began = began_call a old.store new.store asks;
  asks = λ some. absurd (some refl);
  cause = (faults, calm_lasts some old new (a ∷ []) lasts asks.asked lie);
}

-- no region of an earlier run was opened
pub start_earlier : (writes region : ℕ) → IsStart (from_earlier writes region)
start_earlier writes region = record { fresh = λ q x above. refl; within = λ q x. omega arith; alone = λ q x r y same some. absurd (some refl) }

-- what holds at an `Ok`, where there is no `Err`, and at an `Err`
pub at_ok : {T E : Type 0} (r : Result T E) (P : Type 0) → false ≡ is_err r → OnOk r P → P
at_ok (Ok x) P ok h = h
at_ok (Err e) P ok h = absurd (cc ok)

pub at_err : {T E : Type 0} (r : Result T E) (P : Type 0) → true ≡ is_err r → OnErr r P → P
at_err (Ok x) P bad h = absurd (cc bad)
at_err (Err e) P bad h = h

-- no number of an earlier run is above where its numbers are
pub earlier_writes : (start : Start) → start.writes ≤ earlier start
unfolding earlier
earlier_writes start = omega arith

pub earlier_region : (start : Start) → start.region ≤ earlier start
unfolding earlier
earlier_region start = omega arith

-- before the first access
pub ready_new : (w : World) → w.store.asked ≡ [] → IsStart w.vault.start → w.vault.count ≡ w.vault.start.writes → w.vault.next ≡ w.vault.start.region + 1 → ((q : ℕ) → w.vault.revs.live q ≡ None) → Ready w
unfolding writes makes
ready_new w none start count next empty = record {
  tied = record {
    start = start;
    count = omega (arith, count, ap writes none);
    next = omega (arith, next, ap makes none);
    above = subst (AllBelow w.vault.next) (sym none) tt;
    own = subst (WritesBehind w.vault.start) (sym none) tt;
    live = λ q s l. absurd (cc (l, empty q));
    numbers = λ q x s l h. absurd (cc (l, empty q));
  };
  below = λ q s l. absurd (cc (l, empty q));
  fits = λ q s l. absurd (cc (l, empty q));
  laps = λ q s l. absurd (cc (l, empty q));
}
