-- How an earlier run's region is opened, and what lasts over it.
use Rattle.std.proofs.Common.{◌≡◌, ◌≢◌, ◌⊎◌, ◌==◌, ◌&&◌, ◌+◌, ◌-◌, ◌<◌, ◌≤◌, inl, inr, ℕ, Bool, IsTrue, ltb, if◌then◌else◌, List, [], ◌∷◌, ◌++◌, Option, Some, None, MatchOption, Result, Ok, Err, length, length-append, take, refl, sym, ◌∙◌, ap, subst, arith}
use Rattle.std.proofs.lemmas.Bool.{cases_eq, cases_lt}
use Rattle.std.proofs.lemmas.Bool.Decides.{nat_tests}
use Rattle.std.proofs.lemmas.List.{append-nil, take_at}
use Rattle.ob_base.specs.Counts.{Rises}
use Rattle.ob_base.specs.declared.access.Access.{Access}
use Rattle.ob_base.specs.declared.access.Access.TheVariants.{Make, Read, Write, Discard, Open}
use Rattle.ob_base.specs.Accesses.{AllBelow, region_of, writes, makes, number_from, nth_write}
use Rattle.ob_base.proofs.AccessLemmas.{number_open, writes_open, makes_more, below_more, went_on}
use Rattle.ob_store.specs.State.{KeptRegion, Disturbance, Shape, StoreState}
use Rattle.ob_store.specs.Calls.{IsBounded, IsRegion, IsBefore, IsSteady, Keeps, KeepsLive, Reopens, Resumes}
use Rattle.ob_store.specs.Runs.{Began}
use Rattle.ob_seal.specs.Sealed.{sealed, tag_of}
use Rattle.ob_vault.specs.declared.earlier.Earlier.{Earlier}
use Rattle.ob_vault.specs.declared.region.Region.{Region}
use Rattle.ob_vault.specs.declared.fault.VaultErr.{VaultErr}
use Rattle.ob_vault.specs.declared.fault.VaultErr.TheVariants.{Failed, NoMemory}
use Rattle.ob_vault.specs.Revs.{OtherRegions, Resumes as Numbered}
use Rattle.ob_vault.specs.State.{Start, RevState, VaultState, World, from_earlier}
use Rattle.std.specs.List.{list_any}
use Rattle.ob_vault.specs.Numbers.{number_after, IsNumber, IsStart, WritesBehind}
use Rattle.ob_vault.specs.Places.{given_from}
use Rattle.ob_vault.specs.Tied.{InLaps, Ready, Written, Holds, Scope, SealedAt, AllSealed, Untampered, at_of}
use Rattle.ob_vault.specs.Calls.{Apart, Lasts, Seals, one}
use Rattle.ob_vault.specs.Resuming.{Unasked, MayResume, Gives, Stays, Reopened, KeptSealed, ResumesRegion, open_at}
use Rattle.ob_vault.proofs.WorldSteps.{world, Moved, behind_more, laps_same, ready_moved, apart_moved, next_none, lasts_forget, reads_on, sealed_keeps, seals_unasked}

-- ---- regions that no access was at
pub unasked_append : (q : ℕ) (a b : List Access) → Unasked q a → Unasked q b → Unasked q (a ++ b)
unasked_append q [] b first second = second
unasked_append q (x ∷ rest) b first second = (first.0, unasked_append q rest b first.1 second)

pub unasked_none : (q : ℕ) (asked : List Access) → asked ≡ [] → Unasked q asked
unasked_none q asked none = subst (Unasked q) (sym none) tt

unasked_at : (q : ℕ) (before : List Access) (a : Access) (rest : List Access) → Unasked q (before ++ a ∷ rest) → region_of a ≢ q
unasked_at q [] a rest off = off.0
unasked_at q (x ∷ before) a rest off = unasked_at q before a rest off.1

-- such a region's places have the numbers that they were found with
number_unasked : (n found q x : ℕ) (asked : List Access) → Unasked q asked → number_from n found q x asked ≡ found
unfolding number_from
number_unasked n found q x [] off = refl
number_unasked n found q x (Make a b c ∷ rest) off = number_unasked n found q x rest off.1
number_unasked n found q x (Read a b ∷ rest) off = number_unasked n found q x rest off.1
number_unasked n found q x (Discard a ∷ rest) off = number_unasked n found q x rest off.1
number_unasked n found q x (Open a b c ∷ rest) off = number_unasked n found q x rest off.1
number_unasked n found q x (Write a b ∷ rest) off =
    number_unasked (n + 1) (if (a == q) && (b == x) then n + 1 else found) q x rest off.1 ∙ other (n + 1) found off.0
  where
    other : (u v : ℕ) → a ≢ q → (if (a == q) && (b == x) then u else v) ≡ v
    other u v na = grind (arith, nat_tests)

-- ---- numbers that are given
given_put : (found : ℕ) (l : List Earlier) (e : Earlier) (q x : ℕ) → given_from found (l ++ e ∷ []) q x ≡ (if (e.region == q) && ltb x e.blocks then e.first + x else given_from found l q x)
given_put found [] e q x = refl
given_put found (f ∷ l) e q x = given_put (if (f.region == q) && ltb x f.blocks then f.first + x else found) l e q x

-- where a vault keeps no region of an earlier run, and where it keeps one more
abbrev pub kept_start : ℕ → ℕ → (trees : List ℕ) → List Earlier → Start
kept_start writes region trees l = record { writes = writes; region = region; given = λ q x. given_from 0 l q x; linked = λ q. list_any (λ r. r == q) trees }

pub start_empty : (writes region : ℕ) (trees : List ℕ) (l : List Earlier) → trees ≡ [] → l ≡ [] → kept_start writes region trees l ≡ from_earlier writes region
start_empty writes region trees l bare none = λ i. kept_start writes region (bare i) (none i)

pub gives_put : (writes region : ℕ) (trees : List ℕ) (l more : List Earlier) (e : Earlier) → more ≡ l ++ e ∷ [] → Gives e.first e.region e.blocks (kept_start writes region trees l) (kept_start writes region trees more)
gives_put writes region trees l more e is = record {
  linked = λ r. refl;
  writes = refl;
  region = refl;
  here = λ x below. ap (λ (k : List Earlier). given_from 0 k e.region x) is ∙ given_put 0 l e e.region x ∙ inside x (given_from 0 l e.region x) below;
  others = λ r x off. ap (λ (k : List Earlier). given_from 0 k r x) is ∙ given_put 0 l e r x ∙ outside r x (given_from 0 l r x) off;
}
  where
    inside : (x v : ℕ) → x < e.blocks → (if (e.region == e.region) && ltb x e.blocks then e.first + x else v) ≡ e.first + x
    inside x v below = grind (arith, nat_tests)

    apart : (r x v : ℕ) → r ≢ e.region → (if (e.region == r) && ltb x e.blocks then e.first + x else v) ≡ v
    apart r x v off = grind (arith, nat_tests)

    beyond : (r x v : ℕ) → e.blocks ≤ x → (if (e.region == r) && ltb x e.blocks then e.first + x else v) ≡ v
    beyond r x v past = grind (arith, nat_tests)

    outside : (r x v : ℕ) → (r ≡ e.region → x < e.blocks → ⊥) → (if (e.region == r) && ltb x e.blocks then e.first + x else v) ≡ v
    outside r x v off = elim (cases_eq r e.region) [
      | inl here ↦ elim (cases_lt x e.blocks) [ inl below ↦ absurd (off here below) | inr past ↦ beyond r x v past ]
      | inr other ↦ apart r x v other
    ]

behind_gives : (number q blocks : ℕ) (old new : Start) → Gives number q blocks old new → (asked : List Access) → WritesBehind old asked → WritesBehind new asked
behind_gives number q blocks old new gives [] all = tt
behind_gives number q blocks old new gives (Write r x ∷ rest) (inl own, all) = (inl (subst (λ n. n < r) (sym gives.region) own), behind_gives number q blocks old new gives rest all)
behind_gives number q blocks old new gives (Write r x ∷ rest) (inr linked, all) = (inr (gives.linked r ∙ linked), behind_gives number q blocks old new gives rest all)
behind_gives number q blocks old new gives (Make r n len ∷ rest) all = behind_gives number q blocks old new gives rest all
behind_gives number q blocks old new gives (Read r x ∷ rest) all = behind_gives number q blocks old new gives rest all
behind_gives number q blocks old new gives (Discard r ∷ rest) all = behind_gives number q blocks old new gives rest all
behind_gives number q blocks old new gives (Open r n len ∷ rest) all = behind_gives number q blocks old new gives rest all

module _ (number q blocks : ℕ) (old new : Start) (gives : Gives number q blocks old new) where
  -- one of them, or none
  given_cases : (r x : ℕ) → ((r ≡ q) × (x < blocks)) ⊎ (r ≡ q → x < blocks → ⊥)
  given_cases r x = elim (cases_eq r q) [
    | inl here ↦ elim (cases_lt x blocks) [ inl below ↦ inl (here, below) | inr past ↦ inr (λ _ below. absurd (omega (arith, below, past))) ]
    | inr other ↦ inr (λ same _. other same)
  ]

  given_here : (r x : ℕ) → (r ≡ q) × (x < blocks) → new.given r x ≡ number + x
  given_here r x is = ap (λ (k : ℕ). new.given k x) is.0 ∙ gives.here x is.1

  -- they are those of earlier writes, and of no other place
  start_gives : IsStart old → q ≤ old.region → number + blocks ≤ old.writes + 1 → ((r x : ℕ) → number ≤ old.given r x → old.given r x < number + blocks → ⊥) → IsStart new
  start_gives start early few none = record {
    fresh = λ r x above. gives.others r x (λ same _. absurd (omega (arith, same, above, early, gives.region))) ∙ start.fresh r x (omega (arith, above, gives.region));
    within = λ r x. elim (given_cases r x) [
      | inl is ↦ omega (arith, given_here r x is, is.1, few, gives.writes)
      | inr off ↦ omega (arith, gives.others r x off, start.within r x, gives.writes)
    ];
    alone = λ r x s y same some. elim (given_cases r x) [
      | inl is ↦ elim (given_cases s y) [
        | inl at ↦ (is.0 ∙ sym at.0, omega (arith, same, given_here r x is, given_here s y at))
        | inr off ↦ absurd (none s y (omega (arith, same, given_here r x is, gives.others s y off)) (omega (arith, same, given_here r x is, gives.others s y off, is.1)))
      ]
      | inr off ↦ elim (given_cases s y) [
        | inl at ↦ absurd (none r x (omega (arith, same, given_here s y at, gives.others r x off)) (omega (arith, same, given_here s y at, gives.others r x off, at.1)))
        | inr out ↦ start.alone r x s y (sym (gives.others r x off) ∙ same ∙ gives.others s y out) (λ zero. some (gives.others r x off ∙ zero))
      ]
    ];
  }

  -- the numbers elsewhere
  number_gives : (asked : List Access) (r x : ℕ) → r ≢ q → number_after new asked r x ≡ number_after old asked r x
  number_gives asked r x off = λ i. number_from (gives.writes i) (gives.others r x (λ same _. off same) i) r x asked

-- ---- a region that is opened
module _ (v : VaultState) (revs : RevState) (start : Start) (old new : StoreState) (q number : ℕ) (shape : Region)
    (ready : Ready (world v old)) (may : MayResume q shape.blocks number (world v old)) (asked : new.asked ≡ old.asked ++ open_at q shape.blocks shape.width) where
  abbrev access : Access
  access = Open q shape.blocks (shape.width + 32)

  abbrev was : World
  was = world v old

  -- the accesses go on, and no number changes by that
  number_on : (s : Start) (r x : ℕ) → number_after s new.asked r x ≡ number_after s old.asked r x
  number_on s r x = ap (λ (l : List Access). number_after s l r x) asked ∙ number_open s.writes (s.given r x) r x q shape.blocks (shape.width + 32) old.asked

  above_on : AllBelow v.next new.asked
  above_on = subst (AllBelow v.next) (sym asked) (below_more v.next old.asked access ready.tied.above (omega (arith, may.earlier, ready.tied.next)))

  own_on : WritesBehind v.start new.asked
  own_on = subst (WritesBehind v.start) (sym asked) (behind_more v.start old.asked access ready.tied.own tt)

  count_on : v.count ≡ v.start.writes + writes new.asked
  count_on = omega (arith, ready.tied.count, ap writes asked, writes_open q shape.blocks (shape.width + 32) old.asked)

  next_on : v.next ≡ v.start.region + 1 + makes new.asked
  next_on = omega (arith, ready.tied.next, ap makes asked, makes_more old.asked access)

  -- a lie that was told stays one that fits
  calm_on : new.lie ≡ old.lie → ((l : List Access) (r x : ℕ) → r ≢ q → number_after start l r x ≡ number_after v.start l r x) → Untampered was → Untampered (world (record v { start = start; revs = revs }) new)
  calm_on same numbers calm = record {
    calm = λ lie is.
        let reads = calm.within lie (sym same ∙ is) in
        let off : lie.region ≢ q = unasked_at q lie.before (Read lie.region lie.place) reads.rest (subst (Unasked q) (sym reads.is) may.unasked) in
        let number : number_after v.start lie.before lie.region lie.place ≡ number_after start lie.before lie.region lie.place = sym (numbers lie.before lie.region lie.place off) in
        let fits = calm.calm lie (sym same ∙ is) in
        record { tag = fits.tag ∙ ap (λ (n : ℕ). tag_of v.keys (at_of lie.region lie.place n) (take (length lie.bytes - 32) lie.bytes)) number };
    within = λ lie is. reads_on lie old.asked (access ∷ []) new.asked asked (calm.within lie (sym same ∙ is));
  }

  module _ (gives : Gives number q shape.blocks v.start start) (numbered : Numbered q shape number v.revs revs) (resumes : Resumes q shape.blocks (shape.width + 32) old new) where
    abbrev now : World
    now = world (record v { start = start; revs = revs }) new

    number_here : (x : ℕ) → x < shape.blocks → revs.number q x ≡ number_after start new.asked q x
    number_here x below = numbered.numbers x below ∙ sym (gives.here x below) ∙ sym (number_unasked start.writes (start.given q x) q x old.asked may.unasked) ∙ sym (number_on start q x)

    laps_opened : InLaps q shape revs
    laps_opened = record { runs = λ x below next some. omega (arith, numbered.numbers x (omega (arith, below)), numbered.numbers (x + 1) below) }

    ready_opened : (1 ≤ shape.width) × (shape.width ≤ 16384) → Ready now
    ready_opened wide =
        let tied = ready.tied in
        record {
          tied = record {
            start = start_gives number q shape.blocks v.start start gives tied.start may.earlier may.within may.apart;
            count = omega (arith, count_on, gives.writes);
            next = omega (arith, next_on, gives.region);
            above = above_on;
            own = behind_gives number q shape.blocks v.start start gives new.asked own_on;
            live = λ r s l. elim (cases_eq r q) [
              | inl here ↦
                  let same : shape ≡ s = cc (numbered.here, sym (ap revs.live here) ∙ l) in
                  subst (λ (k : ℕ). IsRegion k s.blocks (s.width + 32) new) (sym here) (subst (λ (k : Region). IsRegion q k.blocks (k.width + 32) new) same resumes.here)
              | inr off ↦ record { live = resumes.others.live r off ∙ (tied.live r s (sym (numbered.others.live r off) ∙ l)).live }
            ];
            numbers = λ r x s l h. elim (cases_eq r q) [
              | inl here ↦
                  let same : shape ≡ s = cc (numbered.here, sym (ap revs.live here) ∙ l) in
                  ap (λ (k : ℕ). revs.number k x) here ∙ number_here x (omega (arith, h, ap (λ (k : Region). k.blocks) same)) ∙ sym (ap (λ (k : ℕ). number_after start new.asked k x) here)
              | inr off ↦ numbered.others.number r x off ∙ tied.numbers r x s (sym (numbered.others.live r off) ∙ l) h
                  ∙ sym (number_on start r x ∙ number_gives number q shape.blocks v.start start gives old.asked r x off)
            ];
          };
          below = λ r s l. elim (cases_eq r q) [
            | inl here ↦ omega (arith, here, may.earlier, tied.next)
            | inr off ↦ ready.below r s (sym (numbered.others.live r off) ∙ l)
          ];
          fits = λ r s l. elim (cases_eq r q) [
            | inl here ↦
                let same : shape ≡ s = cc (numbered.here, sym (ap revs.live here) ∙ l) in
                subst (λ (k : Region). (1 ≤ k.width) × (k.width ≤ 16384)) same wide
            | inr off ↦ ready.fits r s (sym (numbered.others.live r off) ∙ l)
          ];
          laps = λ r s l round. elim (cases_eq r q) [
            | inl here ↦
                let same : shape ≡ s = cc (numbered.here, sym (ap revs.live here) ∙ l) in
                subst (λ (k : ℕ). InLaps k s revs) (sym here) (subst (λ (k : Region). InLaps q k revs) same laps_opened)
            | inr off ↦ laps_same r s v.revs revs (λ x. numbered.others.number r x off) (numbered.others.turn r off) (ready.laps r s (sym (numbered.others.live r off) ∙ l) round)
          ];
        }

    apart_opened : Apart (one q) was now
    apart_opened = record {
      live = numbered.others.live;
      number = numbered.others.number;
      turn = numbered.others.turn;
      kept = resumes.others.live;
      last = resumes.others.last;
      rests = resumes.others.kept;
    }

    -- a number of an earlier write, or of one of this run, is one still
    went_opened : (r x n : ℕ) → r ≢ q → IsNumber was r x n → IsNumber now r x n
    went_opened r x n off is = elim is [
      | inl went ↦ inl ((λ i. nth_write (n - gives.writes i) (asked i)) ∙ went_on (n - v.start.writes) old.asked (access ∷ []) (r, x) went)
      | inr given ↦ inr (given.0 ∙ sym (gives.others r x (λ same _. off same)), given.1)
    ]

    sealed_opened : (good : ℕ → List ℕ → Bool) (scope : Scope) → old.faults ≤ new.faults → IsTrue old.tells → ((x : ℕ) (b : List ℕ) → new.last q x ≡ Some b → x < shape.blocks)
        → KeptSealed good q number was → AllSealed good scope was → AllSealed good scope now
    sealed_opened good scope faults tells within under all = record {
      all = λ r x b from live at. elim (cases_eq r q) [
        | inl here ↦
            let stands : new.last q x ≡ Some b = ap (λ (k : ℕ). new.last k x) (sym here) ∙ at in
            let last : under.kept.last x ≡ Some b = sym (resumes.last under.kept tells under.is x) ∙ stands in
            let is = under.all x b last in
            subst (λ (k : ℕ). SealedAt good scope now k x b) (sym here) (record {
              number = number + x;
              rows = is.rows;
              is = is.is;
              went = inr (sym (gives.here x (within x b stands)), λ zero. absurd (omega (arith, zero, may.some)));
              newest = λ few. sym (numbered.numbers x (within x b stands)) ∙ number_here x (within x b stands);
              fine = is.fine;
            })
        | inr off ↦
            let is = all.all r x b from (λ none. live (resumes.others.live r off ∙ none)) (sym (resumes.others.last r x off) ∙ at) in
            let same = number_on start r x ∙ number_gives number q shape.blocks v.start start gives old.asked r x off in
            record { number = is.number; rows = is.rows; is = is.is; went = went_opened r x is.number off is.went; newest = λ few. is.newest (omega (arith, few, faults)) ∙ sym same; fine = is.fine }
      ];
    }

  -- one that stays shut
  module _ (others : OtherRegions q v.revs revs) (gone : revs.live q ≡ None) (keeps : Keeps old new) where
    moved_shut : Moved q was (world (record v { revs = revs }) new)
    moved_shut = record {
      keys = refl;
      start = refl;
      count = count_on;
      next = next_on;
      above = above_on;
      own = own_on;
      up = omega arith;
      revs = others;
      only = record { live = λ r off. keeps.live r; last = λ r x off. keeps.last r x; kept = λ r off. keeps.kept r };
      numbers = number_on v.start;
      here_shape = inl gone;
      here_live = λ s l. absurd (cc (l, gone));
      here_number = λ s l x. absurd (cc (l, gone));
      here_below = λ s l. absurd (cc (l, gone));
      here_fits = λ s l. absurd (cc (l, gone));
      here_laps = λ s l. absurd (cc (l, gone));
    }

-- ---- what lasts
pub stays_lasts : {some : ℕ → Type 0} {a b : World} → Lasts some a b → Stays some a b
stays_lasts lasts = record {
  ready = lasts.ready;
  keys = lasts.keys;
  writes = ap (λ (s : Start). s.writes) lasts.start;
  region = ap (λ (s : Start). s.region) lasts.start;
  given = λ q x off. ap (λ (s : Start). s.given q x) lasts.start;
  linked = λ q. ap (λ (s : Start). s.linked q) lasts.start;
  next = lasts.shapes.next;
  log = lasts.later.log;
  faults = lasts.later.faults;
  tells = lasts.later.tells;
  lie = lasts.later.lie;
  steady = lasts.later.steady;
  apart = lasts.apart;
}

pub stays_trans : {some : ℕ → Type 0} {a b c : World} → Stays some a b → Stays some b c → Stays some a c
stays_trans first second = record {
  ready = second.ready;
  keys = second.keys ∙ first.keys;
  writes = second.writes ∙ first.writes;
  region = second.region ∙ first.region;
  given = λ q x off. second.given q x off ∙ first.given q x off;
  linked = λ q. second.linked q ∙ first.linked q;
  next = omega (arith, first.next, second.next);
  log = second.log ∙ first.log;
  faults = omega (arith, first.faults, second.faults);
  tells = second.tells ∙ first.tells;
  lie = λ lie is. second.lie lie (first.lie lie is);
  steady = λ steady. second.steady (first.steady steady);
  apart = record {
    live = λ q off. second.apart.live q off ∙ first.apart.live q off;
    number = λ q x off. second.apart.number q x off ∙ first.apart.number q x off;
    turn = λ q off. second.apart.turn q off ∙ first.apart.turn q off;
    kept = λ q off. second.apart.kept q off ∙ first.apart.kept q off;
    last = λ q x off. second.apart.last q x off ∙ first.apart.last q x off;
    rests = λ q off. second.apart.rests q off ∙ first.apart.rests q off;
  };
}

pub stays_wider : {some : ℕ → Type 0} {a b : World} (more : ℕ → Type 0) → ((q : ℕ) → some q → more q) → Stays some a b → Stays more a b
stays_wider more within stays = record {
  ready = stays.ready;
  keys = stays.keys;
  writes = stays.writes;
  region = stays.region;
  given = λ q x off. stays.given q x (λ s. off (within q s));
  linked = stays.linked;
  next = stays.next;
  log = stays.log;
  faults = stays.faults;
  tells = stays.tells;
  lie = stays.lie;
  steady = stays.steady;
  apart = record {
    live = λ q off. stays.apart.live q (λ s. off (within q s));
    number = λ q x off. stays.apart.number q x (λ s. off (within q s));
    turn = λ q off. stays.apart.turn q (λ s. off (within q s));
    kept = λ q off. stays.apart.kept q (λ s. off (within q s));
    last = λ q x off. stays.apart.last q x (λ s. off (within q s));
    rests = λ q off. stays.apart.rests q (λ s. off (within q s));
  };
}

-- a block of a live region lies at one of its places
pub within_live : (s : StoreState) (q : ℕ) (shape : Shape) → KeepsLive q shape s → ((region : KeptRegion) → s.kept q ≡ Some region → IsBounded region)
    → (x : ℕ) (b : List ℕ) → s.last q x ≡ Some b → x < shape.blocks
within_live s q shape kept bounded x b at =
    let below = (bounded kept.region kept.is).below x b (kept.last x ∙ at) in
    omega (arith, below, ap (λ (s : Shape). s.blocks) kept.same)

-- ---- the call
module _ (v : VaultState) (revs : RevState) (old new : StoreState) (q number : ℕ) (shape : Region)
    (ready : Ready (world v old)) (may : MayResume q shape.blocks number (world v old)) (asks : Reopens (Open q shape.blocks (shape.width + 32)) old new) where
  -- nothing is said any more of what others do
  steady_open : IsSteady old → IsSteady new
  steady_open steady = record {
    quiet = λ before. absurd (subst (λ (o : Option (List Disturbance)). IsBefore o (length new.asked)) asks.disturbed before);
    lied = λ lie is before. absurd (subst (λ (o : Option (List Disturbance)). IsBefore o (length lie.before + 1)) asks.disturbed before);
  }

  -- it answered
  pub resumes_ok : {T : Type 0} (value : T) (start : Start) → (1 ≤ shape.width) × (shape.width ≤ 16384) → Gives number q shape.blocks v.start start → Numbered q shape number v.revs revs
      → Resumes q shape.blocks (shape.width + 32) old new → new.faults ≡ old.faults
      → (IsTrue old.tells → (x : ℕ) (b : List ℕ) → new.last q x ≡ Some b → x < shape.blocks)
      → ResumesRegion q shape number (Ok value) (world v old) (world (record v { start = start; revs = revs }) new)
  resumes_ok value start wide gives numbered resumes faults within = record {
    stays = record {
      ready = ready_opened v revs start old new q number shape ready may asks.asked gives numbered resumes wide;
      keys = refl;
      writes = gives.writes;
      region = gives.region;
      given = λ r x off. gives.others r x (λ same _. off same);
      linked = gives.linked;
      next = omega arith;
      log = asks.log;
      faults = asks.faults;
      tells = asks.tells;
      lie = λ lie is. asks.lie ∙ is;
      steady = steady_open;
      apart = apart_opened v revs start old new q number shape ready may asks.asked gives numbered resumes;
    };
    lie = asks.lie;
    kept = asks.kept;
    spare = asks.spare;
    next = refl;
    calm = calm_on v revs start old new q number shape ready may asks.asked asks.lie (number_gives number q shape.blocks v.start start gives);
    ok = record {
      did = record { asked = asks.asked; faults = faults };
      gives = gives;
      lives = record { live = numbered.here };
      numbers = numbered.numbers;
      turn = record { turn = λ round. sym numbered.turn; run = λ round some. absurd (some refl) };
      resumes = resumes;
    };
    err = tt;
    never = tt;
    seals = λ good under. record {
      seals = λ scope few tells all. sealed_opened v revs start old new q number shape ready may asks.asked gives numbered resumes good scope asks.faults tells (within tells) under all;
    };
    unsealed = tt;
  }

  module _ (others : OtherRegions q v.revs revs) (gone : revs.live q ≡ None) (keeps : Keeps old new) where
    calm_shut : Untampered (world v old) → Untampered (world (record v { revs = revs }) new)
    calm_shut = calm_on v revs v.start old new q number shape ready may asks.asked asks.lie (λ l r x off. refl)

    shut_seals : (good : ℕ → List ℕ → Bool) → Seals good (world v old) (world (record v { revs = revs }) new)
    shut_seals good = record {
      seals = λ scope few tells all. sealed_keeps good scope (world v old) (world (record v { revs = revs }) new) (open_at q shape.blocks shape.width) refl refl asks.asked asks.faults
          (number_on v revs v.start old new q number shape ready may asks.asked v.start) keeps all;
    }

    shut_stays : Stays (one q) (world v old) (world (record v { revs = revs }) new)
    shut_stays =
        let moved = moved_shut v revs v.start old new q number shape ready may asks.asked others gone keeps in
        record {
          ready = ready_moved q _ _ ready moved;
          keys = refl;
          writes = refl;
          region = refl;
          given = λ r x off. refl;
          linked = λ r. refl;
          next = omega arith;
          log = asks.log;
          faults = asks.faults;
          tells = asks.tells;
          lie = λ lie is. asks.lie ∙ is;
          steady = steady_open;
          apart = apart_moved q _ _ moved;
        }

    shut_began : Began (open_at q shape.blocks shape.width) old new
    shut_began = record { done = open_at q shape.blocks shape.width; rest = []; split = refl; asked = asks.asked }

    shut_asked : length old.asked < length new.asked
    shut_asked = omega (arith, ap (λ (l : List Access). length l) asks.asked, length-append old.asked (open_at q shape.blocks shape.width))

    -- the store failed
    pub resumes_failed : {T : Type 0} → Rises old.faults new.faults → ResumesRegion {T = T} q shape number (Err Failed) (world v old) (world (record v { revs = revs }) new)
    resumes_failed rises = record {
      stays = shut_stays;
      lie = asks.lie;
      kept = asks.kept;
      spare = asks.spare;
      next = refl;
      calm = calm_shut;
      ok = tt;
      err = record { began = shut_began; asks = λ some. shut_asked; cause = (rises, calm_shut); start = refl; gone = gone; keeps = keeps };
      never = inl refl;
      seals = λ good under. shut_seals good;
      unsealed = shut_seals;
    }

    -- or had no memory
    pub resumes_none : {T : Type 0} → new.faults ≡ old.faults → ResumesRegion {T = T} q shape number (Err NoMemory) (world v old) (world (record v { revs = revs }) new)
    resumes_none faults = record {
      stays = shut_stays;
      lie = asks.lie;
      kept = asks.kept;
      spare = asks.spare;
      next = refl;
      calm = calm_shut;
      ok = tt;
      err = record { began = shut_began; asks = λ some. shut_asked; cause = (faults, calm_shut); start = refl; gone = gone; keeps = keeps };
      never = inr refl;
      seals = λ good under. shut_seals good;
      unsealed = shut_seals;
    }

-- the vault had no memory
pub resumes_unasked : {T : Type 0} (v : VaultState) (revs : RevState) (s : StoreState) (q number : ℕ) (shape : Region) → Ready (world v s) → OtherRegions q v.revs revs → revs.live q ≡ None
    → ResumesRegion {T = T} q shape number (Err NoMemory) (world v s) (world (record v { revs = revs }) s)
resumes_unasked v revs s q number shape ready others gone = record {
  stays = stays_lasts (lasts_forget v revs s q ready others gone);
  lie = refl;
  kept = λ r. refl;
  spare = omega arith;
  next = refl;
  calm = calm_same;
  ok = tt;
  err = record {
    began = record { done = []; rest = open_at q shape.blocks shape.width; split = refl; asked = sym (append-nil s.asked) };
    asks = λ some. absurd (some refl);
    cause = (refl, calm_same);
    start = refl;
    gone = gone;
    keeps = record { live = λ r. refl; last = λ r x. refl; kept = λ r. refl };
  };
  never = inr refl;
  seals = λ good under. seals_same good;
  unsealed = seals_same;
} where
  calm_same : Untampered (world v s) → Untampered (world (record v { revs = revs }) s)
  calm_same calm = record { calm = λ lie is. let fits = calm.calm lie is in record { tag = fits.tag }; within = calm.within }

  seals_same : (good : ℕ → List ℕ → Bool) → Seals good (world v s) (world (record v { revs = revs }) s)
  seals_same good = seals_unasked good _ _ refl refl refl (omega arith) (record { live = λ r. refl; last = λ r x. refl; kept = λ r. refl })

-- where its revisions stayed as they were
pub resumes_unchanged : {T : Type 0} (v : VaultState) (revs : RevState) (s : StoreState) (q number : ℕ) (shape : Region) → Ready (world v s) → MayResume q shape.blocks number (world v s) → revs ≡ v.revs
    → ResumesRegion {T = T} q shape number (Err NoMemory) (world v s) (world (record v { revs = revs }) s)
resumes_unchanged {T} v revs s q number shape ready may same =
    let gone = next_none (v.revs.live q) (λ other is. absurd (cc ((ready.tied.live q other is).live, may.gone))) in
    subst (λ (r : RevState). ResumesRegion {T = T} q shape number (Err NoMemory) (world v s) (world (record v { revs = r }) s)) (sym same)
    (resumes_unasked v v.revs s q number shape ready (record { live = λ r off. refl; number = λ r x off. refl; turn = λ r off. refl }) gone)

-- the same of a list of regions that was kept
pub resumes_kept : {T : Type 0} (q number : ℕ) (shape : Region) (result : Result T VaultErr) (v : VaultState) (old new : StoreState) (revs : RevState) (writes region : ℕ) (trees : List ℕ) (l more : List Earlier)
    → v.start ≡ kept_start writes region trees l → more ≡ l → ResumesRegion q shape number result (world v old) (world (record v { revs = revs }) new)
    → ResumesRegion q shape number result (world v old) (world (record v { start = kept_start writes region trees more; revs = revs }) new)
resumes_kept q number shape result v old new revs writes region trees l more start same is =
    subst (λ (s : Start). ResumesRegion q shape number result (world v old) (world (record v { start = s; revs = revs }) new)) (start ∙ sym (ap (kept_start writes region trees) same)) is

-- the last of a list that one was added to is taken away again
pub popped : {T : Type 0} (l more left : List T) (x : T) (taken : Option T) → more ≡ l ++ x ∷ [] → MatchOption taken ((more ≡ []) × (left ≡ [])) (λ y. more ≡ left ++ y ∷ []) → left ≡ l
popped l more left x None is none = absurd (omega (arith, ap length is, ap length none.0, length-append l (x ∷ [])))
popped l more left x (Some y) is both =
    let same : length left ≡ length l = omega (arith, ap length is, ap length both, length-append l (x ∷ []), length-append left (y ∷ [])) in
    sym (take_at left (y ∷ []) (length left) refl) ∙ ap (take (length left)) (sym both ∙ is) ∙ take_at l (x ∷ []) (length left) (sym same)

-- ---- what an opened region has
module _ (q number : ℕ) (shape : Region) (old new : World) (opened : Reopened q shape number old new) where
  pub written_opened : 1 ≤ number → (x : ℕ) → x < shape.blocks → Written q x new
  written_opened some x below = record { number = λ zero. absurd (omega (arith, zero, opened.numbers x below, some)) }

  -- at a place the rows that were kept there
  pub holds_opened : (kept : KeptRegion) (x : ℕ) (rows : List ℕ) → IsTrue old.store.tells → old.store.kept q ≡ Some kept → x < shape.blocks
      → kept.last x ≡ Some (sealed new.vault.keys (at_of q x (number + x)) rows) → Holds q x rows new
  holds_opened kept x rows tells is below last = record {
    last = opened.resumes.last kept tells is x ∙ last ∙ ap (λ (n : ℕ). Some (sealed new.vault.keys (at_of q x n) rows)) (sym (opened.numbers x below));
  }
