-- What one act does to the world.
use Rattle.std.proofs.Common.{◌≡◌, inl, inr, ℕ, ◌+◌, ◌<◌, ◌≤◌, Bool, true, false, List, [], ◌∷◌, ◌++◌, Some, None, Option, length, length-append, refl, sym, ◌∙◌, ap, subst, arith}
use Rattle.ob_base.specs.Accesses.{makes}
use Rattle.ob_base.specs.declared.access.Access.{Access}
use Rattle.ob_base.specs.declared.access.Access.TheVariants.{Make, Read, Write, Discard, Open}
use Rattle.ob_base.proofs.AccessLemmas.{made, makes_more}
use Rattle.ob_flat.specs.declared.fault.OpErr.{OpErr}
use Rattle.ob_flat.specs.declared.fault.OpErr.TheVariants.{Failed, Tampered, Sink, NoMemory}
use Rattle.ob_flat.specs.Passes.{PassCut, PassCause}
use Rattle.ob_script.specs.Flights.{made_by}
use Rattle.ob_store.specs.State.{FalseRead}
use Rattle.ob_vault.specs.Calls.{Lasts}
use Rattle.ob_vault.specs.Numbers.{spent}
use Rattle.ob_vault.specs.State.{Start, World, earlier}
use Rattle.ob_vault.specs.Tied.{Untampered, EndsAt, ReadsIn, Ready}
use Rattle.ob_inflight.specs.Closing.{RisesBy}
use Rattle.ob_inflight.specs.Leaving.{own_or_next}
use Rattle.ob_script.specs.FlightLaws.{one_if}
use Rattle.ob_inflight.specs.Progress.{KeepsRegion, WentOrFailed}

-- a first part of one access, which was asked, is that access
one_of : (done rest : List Access) (a : Access) → done ++ rest ≡ a ∷ [] → 1 ≤ length done → done ≡ a ∷ []
one_of [] rest a is some = absurd (omega (arith, some))
one_of (x ∷ []) rest a is some = cc is
one_of (x ∷ (y ∷ done)) rest a is some = absurd (cc is)

module _ (access : Access) (own : Option ℕ) (w v : World) where
  pub step_lasts : (failed : Bool) → WentOrFailed failed access own w v → Lasts (own_or_next own w.vault.next) w v
  step_lasts false went = went.lasts
  step_lasts true cut = cut.lasts

  pub step_asked : (failed : Bool) → WentOrFailed failed access own w v → v.store.asked ≡ w.store.asked ++ access ∷ []
  step_asked false went = went.did.asked
  step_asked true cut =
      let more = cut.asks refl in
      let long : length v.store.asked ≡ length w.store.asked + length cut.began.done = ap (λ (l : List Access). length l) cut.began.asked ∙ length-append w.store.asked cut.began.done in
      cut.began.asked ∙ ap (λ (l : List Access). w.store.asked ++ l) (one_of cut.began.done cut.began.rest access cut.began.split (omega (arith, more, long)))

  pub step_faults : (failed : Bool) → WentOrFailed failed access own w v → RisesBy (one_if failed) w.store.faults v.store.faults
  step_faults false went = let e = went.did.faults in record { least = omega (arith, e); none = λ no. e }
  step_faults true cut = let e = cut.cause.0 in record { least = e; none = λ no. absurd (omega (arith, no)) }

  pub step_calm : (failed : Bool) → WentOrFailed failed access own w v → Untampered w → Untampered v
  step_calm false went = went.calm
  step_calm true cut = cut.cause.1

-- ---- numbers of regions
pub made_same : (a : Access) → made a ≡ made_by (Some a)
made_same (Make q blocks len) = refl
made_same other = refl

pub next_made : (a : Access) (w v : World) → Ready w → Ready v → v.vault.start ≡ w.vault.start → v.store.asked ≡ w.store.asked ++ a ∷ [] → v.vault.next ≡ w.vault.next + made_by (Some a)
next_made a w v before after start asked =
    let e : makes v.store.asked ≡ makes w.store.asked + made_by (Some a) = ap makes asked ∙ makes_more w.store.asked a ∙ ap (λ (n : ℕ). makes w.store.asked + n) (made_same a) in
    let s : v.vault.start.region ≡ w.vault.start.region = ap (λ (s : Start). s.region) start in
    omega (arith, before.tied.next, after.tied.next, e, s)

pub spent_more : (a : Access) (w v : World) → v.vault.start ≡ w.vault.start → v.store.asked ≡ w.store.asked ++ a ∷ [] → spent v ≡ spent w + 1
spent_more a w v start asked =
    let long : length v.store.asked ≡ length w.store.asked + 1 = ap (λ (l : List Access). length l) asked ∙ length-append w.store.asked (a ∷ []) in
    let s : earlier v.vault.start ≡ earlier w.vault.start = ap earlier start in
    omega (arith, long, s)

module _ (next : ℕ) (before after : Option ℕ) where
  -- the region after an access is that before it, or the next one, which was made in it
  pub data Region : Access → Type 0 where
    Same : {a : Access} → after ≡ before → made_by (Some a) ≡ 0 → Region a
    Next : {a : Access} → before ≡ None → after ≡ Some next → made_by (Some a) ≡ 1 → Region a

  pub region_cases : (a : Access) → KeepsRegion a next before after → Region a
  region_cases (Make q blocks len) keeps = Next keeps.makes.1 (keeps.now ∙ ap Some keeps.makes.0) refl
  region_cases other keeps = Same keeps.now refl

  pub region_own : (a : Access) → KeepsRegion a next before after → (q : ℕ) → after ≡ Some q → own_or_next before next q
  region_own a keeps q is = elim (region_cases a keeps) [
    | Same same none ↦ inl (sym same ∙ is)
    | Next unmade now one ↦ inr (cc (now, is))
  ]

  pub region_stays : (a : Access) → KeepsRegion a next before after → (q : ℕ) → before ≡ Some q → after ≡ Some q
  region_stays a keeps q is = elim (region_cases a keeps) [
    | Same same none ↦ same ∙ is
    | Next unmade now one ↦ absurd (cc (unmade, is))
  ]

  pub region_below : (a : Access) → KeepsRegion a next before after → (q : ℕ) → ((before ≡ Some q) → q < next) → after ≡ Some q → q < next + made_by (Some a)
  region_below a keeps q less is = elim (region_cases a keeps) [
    | Same same none ↦ let e = less (sym same ∙ is) in omega (arith, e)
    | Next unmade now one ↦ let e : next ≡ q = cc (now, is) in omega (arith, e, one)
  ]

  -- one that is new is the next one, and its own
  pub region_new : (a : Access) → KeepsRegion a next before after → (q : ℕ) → next ≤ q → q < next + made_by (Some a) → after ≡ Some q
  region_new a keeps q least less = elim (region_cases a keeps) [
    | Same same none ↦ absurd (omega (arith, least, less, none))
    | Next unmade now one ↦ let e : next ≡ q = omega (arith, least, less, one) in now ∙ ap Some e
  ]

-- ---- faults
pub rises_none : (a : ℕ) → RisesBy 0 a a
rises_none a = record { least = omega arith; none = λ no. refl }

pub rises_join : (n m sum a b c : ℕ) → sum ≡ n + m → RisesBy n a b → RisesBy m b c → RisesBy sum a c
rises_join n m sum a b c is first second = record {
  least = omega (arith, is, first.least, second.least);
  none = λ no. second.none (omega (arith, is, no)) ∙ first.none (omega (arith, is, no));
}

-- ---- the first block that is not what was written
-- no lie is told: the vault is calm
pub calm_none : (w : World) → w.store.lie ≡ None → Untampered w
calm_none w none = record { calm = λ lie is. absurd (cc (none, is)); within = λ lie is. absurd (cc (none, is)) }

pub reads_calm : (v : World) (lie : FalseRead) → v.store.lie ≡ Some lie → Untampered v → ReadsIn lie v.store.asked
reads_calm v lie is calm = calm.within lie is

pub reads_ends : (v : World) (lie : FalseRead) (q x : ℕ) → v.store.lie ≡ Some lie → EndsAt q x v → ReadsIn lie v.store.asked
reads_ends v lie q x is ends =
    let same : ends.lie ≡ lie = cc (ends.told, is) in
    subst (λ (l : FalseRead). ReadsIn l v.store.asked) same (record { rest = []; is = sym ends.asked })

-- it came in a step that gave up, so that step read it
pub reads_cut : (e : OpErr) (access : List Access) (some : ℕ → Type 0) (w v : World) (lie : FalseRead) → w.store.lie ≡ None → v.store.lie ≡ Some lie → PassCut e access some w v → ReadsIn lie v.store.asked
reads_cut e access some w v lie none is cut = go e cut.cause
  where
    go : (e : OpErr) → PassCause e w v → ReadsIn lie v.store.asked
    go Failed cause = reads_calm v lie is (cause.1 (calm_none w none))
    go (Tampered q x) cause = elim (cause.2 (calm_none w none)) [
      | inl calm ↦ reads_calm v lie is calm
      | inr ends ↦ reads_ends v lie q x is ends
    ]
    go Sink cause = reads_calm v lie is (cause.1 (calm_none w none))
    go NoMemory cause = reads_calm v lie is (cause.1 (calm_none w none))

pub reads_more : (lie : FalseRead) (asked more : List Access) → ReadsIn lie asked → ReadsIn lie (asked ++ more)
reads_more lie asked more is = record {
  rest = is.rest ++ more;
  is = sym (append_one lie.before (Read lie.region lie.place) is.rest more) ∙ ap (λ (l : List Access). l ++ more) is.is;
}
  where
    append_one : (xs : List Access) (a : Access) (ys zs : List Access) → (xs ++ a ∷ ys) ++ zs ≡ xs ++ a ∷ (ys ++ zs)
    append_one [] a ys zs = refl
    append_one (x ∷ xs) a ys zs = ap (λ (l : List Access). x ∷ l) (append_one xs a ys zs)

-- a fault of the store is none where a step gave up by anything else
pub stops_faults : (e : OpErr) (w v : World) → (e ≡ Failed → ⊥) → PassCause e w v → v.store.faults ≡ w.store.faults
stops_faults Failed w v never cause = absurd (never refl)
stops_faults other w v never cause = cause.0
