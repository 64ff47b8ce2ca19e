-- How calls of a vault join to runs, and what is kept over them.
use Rattle.std.proofs.Common.{◌≡◌, ◌≢◌, ◌==◌, if◌then◌else◌, inl, inr, ℕ, zero, suc, ◌*◌, ◌+◌, ◌<◌, List, [], ◌++◌, Some, None, Bool, IsTrue, length, length-append, refl, sym, ◌∙◌, ap, subst, arith}
use Rattle.ob_base.specs.declared.access.Access.{Access}
use Rattle.ob_store.specs.State.{StoreState}
use Rattle.ob_base.specs.Counts.{Rises}
use Rattle.ob_base.specs.Lists.{each}
use Rattle.ob_store.specs.Runs.{Later}
use Rattle.ob_store.proofs.Steps.{later_trans, did_none, did_join, began_join, began_more, parts, none_before}
use Rattle.ob_seal.specs.Sealed.{sealed}
use Rattle.ob_vault.specs.declared.region.Region.{Region}
use Rattle.ob_vault.specs.declared.region.Order.{Order}
use Rattle.ob_vault.specs.declared.region.Order.TheVariants.{Round, Any}
use Rattle.ob_vault.specs.Revs.{turn_after, place_after}
use Rattle.ob_vault.specs.declared.fault.VaultErr.{VaultErr}
use Rattle.ob_vault.specs.declared.fault.VaultErr.TheVariants.{Failed, Tampered, NoMemory}
use Rattle.ob_vault.specs.State.{Start, VaultState, World, earlier}
use Rattle.ob_vault.specs.Numbers.{spent}
use Rattle.ob_vault.specs.Tied.{IsOwn, Ready, Lives, Written, OnTurn, Holds, at_of}
use Rattle.ob_vault.specs.Rows.{SameSizes}
use Rattle.ob_vault.specs.Places.{RowsFit, MayGet, MayPut}
use Rattle.ob_vault.proofs.WorldSteps.{lasts_none}
use Rattle.ob_vault.specs.Calls.{Apart, Only, KeepsShapes, Lasts, Seals, Went, CutShort, Cause}

module _ (some : ℕ → Type 0) (a b c : World) where
  pub apart_trans : Apart some a b → Apart some b c → Apart some a c
  apart_trans first second = record {
    live = λ q off. second.live q off ∙ first.live q off;
    number = λ q x off. second.number q x off ∙ first.number q x off;
    turn = λ q off. second.turn q off ∙ first.turn q off;
    kept = λ q off. second.kept q off ∙ first.kept q off;
    last = λ q x off. second.last q x off ∙ first.last q x off;
    rests = λ q off. second.rests q off ∙ first.rests q off;
  }

  shapes_trans : KeepsShapes a b → KeepsShapes b c → KeepsShapes a c
  shapes_trans first second = record {
    next = omega (arith, first.next, second.next);
    shapes = λ q below. elim (second.shapes q (omega (arith, below, first.next))) [
      | inl gone ↦ inl gone
      | inr same ↦ elim (first.shapes q below) [
        | inl gone ↦ inl (same ∙ gone)
        | inr kept ↦ inr (same ∙ kept)
      ]
    ];
  }

  pub lasts_trans : Lasts some a b → Lasts some b c → Lasts some a c
  lasts_trans first second = record {
    ready = second.ready;
    later = later_trans _ _ _ first.later second.later;
    keys = second.keys ∙ first.keys;
    start = second.start ∙ first.start;
    shapes = shapes_trans first.shapes second.shapes;
    apart = apart_trans first.apart second.apart;
  }

  pub went_join : (x y : List Access) → Went x some a b → Went y some b c → Went (x ++ y) some a c
  went_join x y first second = record {
    lasts = lasts_trans first.lasts second.lasts;
    did = did_join x y _ _ _ first.did second.did;
    spare = omega (arith, first.spare, second.spare, length-append x y);
    calm = λ calm. second.calm (first.calm calm);
  }

  cause_after : (e : VaultErr) (x : List Access) → Went x some a b → Cause e b c → Cause e a c
  cause_after Failed x first (rises, calm) = (subst (λ (n : ℕ). Rises n c.store.faults) first.did.faults rises, λ was. calm (first.calm was))
  cause_after (Tampered q p) x first (same, ends, unfit, calm) = (same ∙ first.did.faults, ends, unfit, λ was. calm (first.calm was))
  cause_after NoMemory x first (same, calm) = (same ∙ first.did.faults, λ was. calm (first.calm was))

  -- more was asked after some accesses
  pub asked_after : (x : List Access) → Went x some a b → length b.store.asked < length c.store.asked → length a.store.asked < length c.store.asked
  asked_after x first more =
      let n = ap (λ (l : List Access). length l) first.did.asked ∙ length-append a.store.asked x in
      omega (arith, n, more)

  -- a run that was cut in its second part
  pub cut_after : (e : VaultErr) (x y : List Access) → Went x some a b → CutShort e y some b c → CutShort e (x ++ y) some a c
  cut_after e x y first second = record {
    lasts = lasts_trans first.lasts second.lasts;
    began = began_join x y _ _ _ first.did second.began;
    asks = λ some. asked_after x first (second.asks some);
    cause = cause_after e x first second.cause;
  }

module _ (some : ℕ → Type 0) (a b : World) where
  -- in its first part
  pub cut_more : (e : VaultErr) (x y : List Access) → CutShort e x some a b → CutShort e (x ++ y) some a b
  cut_more e x y first = record { lasts = first.lasts; began = began_more x y _ _ first.began; asks = first.asks; cause = first.cause }

  pub lasts_wider : (more : ℕ → Type 0) → ((q : ℕ) → some q → more q) → Lasts some a b → Lasts more a b
  lasts_wider more within lasts = record {
    ready = lasts.ready;
    later = lasts.later;
    keys = lasts.keys;
    start = lasts.start;
    shapes = lasts.shapes;
    apart = record {
      live = λ q off. lasts.apart.live q (λ s. off (within q s));
      number = λ q x off. lasts.apart.number q x (λ s. off (within q s));
      turn = λ q off. lasts.apart.turn q (λ s. off (within q s));
      kept = λ q off. lasts.apart.kept q (λ s. off (within q s));
      last = λ q x off. lasts.apart.last q x (λ s. off (within q s));
      rests = λ q off. lasts.apart.rests q (λ s. off (within q s));
    };
  }

  -- a region that lives still has the shape that it had
  pub shape_lasts : (q : ℕ) (shape other : Region) → Ready a → Lasts some a b → Lives q shape a → Lives q other b → Lives q shape b
  shape_lasts q shape other ready lasts was is = elim (lasts.shapes.shapes q (ready.below q shape was.live)) [
    | inl gone ↦ absurd (cc (gone, is.live))
    | inr same ↦ record { live = same ∙ was.live }
  ]

  pub went_wider : (more : ℕ → Type 0) → ((q : ℕ) → some q → more q) → (x : List Access) → Went x some a b → Went x more a b
  went_wider more within x went = record { lasts = lasts_wider more within went.lasts; did = went.did; spare = went.spare; calm = went.calm }

  pub lives_went : (x : List Access) (q : ℕ) (shape : Region) → Went x some a b → (some q → ⊥) → Lives q shape a → Lives q shape b
  lives_went x q shape went off is = record { live = went.lasts.apart.live q off ∙ is.live }

  pub written_went : (x : List Access) (q p : ℕ) → Went x some a b → (some q → ⊥) → Written q p a → Written q p b
  written_went x q p went off is = record { number = λ zero. is.number (sym (went.lasts.apart.number q p off) ∙ zero) }

  -- what stood at a place of another region stands there
  pub holds_went : (x : List Access) (q p : ℕ) (rows : List ℕ) → Went x some a b → (some q → ⊥) → Holds q p rows a → Holds q p rows b
  holds_went x q p rows went off is = record {
    last = went.lasts.apart.last q p off ∙ is.last
        ∙ (λ i. Some (sealed (sym went.lasts.keys i) (at_of q p (sym (went.lasts.apart.number q p off) i)) rows));
  }

  pub none_went : (x : List Access) → Went x some a b → b.store.lie ≡ None → a.store.lie ≡ None
  none_went x went none = none_before _ _ went.lasts.later none

-- the same over a write to one place
module _ (r y : ℕ) (a b : World) (only : Only r y a b) where
  pub own_only : (q : ℕ) → IsOwn q a → IsOwn q b
  own_only q own = record { above = subst (λ (s : Start). s.region < q) (sym only.start) own.above }

  pub lives_only : (q : ℕ) (shape : Region) → Lives q shape a → Lives q shape b
  lives_only q shape is = record { live = only.live q ∙ is.live }

  pub written_only : (q p : ℕ) → (q ≡ r → p ≡ y → ⊥) → Written q p a → Written q p b
  written_only q p off is = record { number = λ zero. is.number (sym (only.number q p off) ∙ zero) }

  pub holds_only : (q p : ℕ) (rows : List ℕ) → (q ≡ r → p ≡ y → ⊥) → Holds q p rows a → Holds q p rows b
  holds_only q p rows off is = record {
    last = only.last q p off ∙ is.last
        ∙ (λ i. Some (sealed (sym only.keys i) (at_of q p (sym (only.number q p off) i)) rows));
  }

pub seals_join : (good : ℕ → List ℕ → Bool) (a b c : World) → Later a.store b.store → Seals good a b → Seals good b c → Seals good a c
seals_join good a b c later first second = record {
  seals = λ scope few tells all. second.seals scope (omega (arith, few, later.faults)) (subst (λ (t : Bool). IsTrue t) (sym later.tells) tells) (first.seals scope few tells all);
}

pub seals_none : (good : ℕ → List ℕ → Bool) (w : World) → Seals good w w
seals_none good w = record { seals = λ scope few tells all. all }

-- a vault that has not changed keeps all shapes
pub shapes_none : (v : VaultState) (s t : StoreState) → KeepsShapes (record { vault = v; store = s }) (record { vault = v; store = t })
shapes_none v s t = record { next = omega arith; shapes = λ q below. inr refl }

-- no call
pub went_none : (some : ℕ → Type 0) (w : World) → Ready w → Went [] some w w
went_none some w ready = record {
  lasts = lasts_none some w ready;
  did = did_none w.store;
  spare = omega arith;
  calm = λ calm. calm;
}

module _ (some : ℕ → Type 0) (part : ℕ → List Access) (a b c : World) where
  -- one more part
  pub went_each : (i : ℕ) → Went (each i part) some a b → Went (part i) some b c → Went (each (i + 1) part) some a c
  went_each i first second =
      let next : suc i ≡ i + 1 = omega arith in
      subst (λ (k : ℕ). Went (each k part) some a c) next (went_join some a b c (each i part) (part i) first second)

  -- a run that was cut in one of its parts
  pub cut_each : (e : VaultErr) (n i : ℕ) → i < n → Went (each i part) some a b → CutShort e (part i) some b c → CutShort e (each n part) some a c
  cut_each e n i below first second =
      let p = parts part n i below in
      subst (λ (l : List Access). CutShort e l some a c) (sym p.split)
      (cut_more some a c e (each i part ++ part i) p.rest (cut_after some a b c e (each i part) (part i) first second))

pub went_length : (some : ℕ → Type 0) (x : List Access) (a b : World) → Went x some a b → length b.store.asked ≡ length a.store.asked + length x
went_length some x a b went = ap length went.did.asked ∙ length-append a.store.asked x

-- so the count goes on
pub went_spent : (some : ℕ → Type 0) (x : List Access) (a b : World) → Went x some a b → spent b ≡ spent a + length x
went_spent some x a b went = omega (arith, went_length some x a b went, ap earlier went.lasts.start)

pub tells_went : (some : ℕ → Type 0) (x : List Access) (a b : World) → Went x some a b → IsTrue a.store.tells → IsTrue b.store.tells
tells_went some x a b went tells = subst (λ (t : Bool). IsTrue t) (sym went.lasts.later.tells) tells

pub holds_rows : (q p : ℕ) (rows other : List ℕ) (w : World) → rows ≡ other → Holds q p rows w → Holds q p other w
holds_rows q p rows other w same is = subst (λ (l : List ℕ). Holds q p l w) same is

-- no live region has the next number
pub lives_apart : (q : ℕ) (shape : Region) (w : World) → Ready w → Lives q shape w → q ≡ w.vault.next → ⊥
lives_apart q shape w ready is same = absurd (omega (arith, same, ready.below q shape is.live))

-- rows of the same sizes fit as well
pub fit_same : (a b : List (List ℕ)) (width : ℕ) → SameSizes a b → RowsFit a width → RowsFit b width
fit_same a b width same fit = record {
  each = fit.each;
  whole = ap (λ (n : ℕ). n * fit.each) same.count ∙ fit.whole;
  some = omega (arith, same.count, fit.some);
  wide = record { wide = λ j h. omega (arith, same.sizes j, fit.wide.wide j (omega (arith, same.count))) };
}

pub fit_trans : (a b c : List (List ℕ)) → SameSizes a b → SameSizes b c → SameSizes a c
fit_trans a b c first second = record { count = second.count ∙ first.count; sizes = λ j. second.sizes j ∙ first.sizes j }

-- a read may be made, and a write
pub may_get : (q x : ℕ) (shape : Region) (rows : List (List ℕ)) (w : World) → Lives q shape w → x < shape.blocks → RowsFit rows shape.width → Written q x w → MayGet q x rows w
may_get q x shape rows w lives within fit written = record { place = record { shape = shape; lives = lives; within = within; fit = fit }; written = written }

pub may_put : (q x : ℕ) (shape : Region) (rows : List (List ℕ)) (w : World) → IsOwn q w → Lives q shape w → x < shape.blocks → RowsFit rows shape.width → OnTurn q shape x w → MayPut q x rows w
may_put q x shape rows w own lives within fit turn = record { own = inl own.above; place = record { shape = shape; lives = lives; within = within; fit = fit }; turn = turn }

-- the region that is made next is one of this run
pub own_next : (w : World) → Ready w → IsOwn w.vault.next w
own_next w ready = record { above = omega (arith, ready.tied.next) }

-- a write to any place of a region without order is in turn
pub turn_any : (q : ℕ) (shape : Region) (x : ℕ) (w : World) → shape.order ≡ Any → OnTurn q shape x w
turn_any q shape x w any = record { turn = λ round. absurd (cc (any, round)); run = λ round off. absurd (cc (any, round)) }

-- where a round region was written to its end, its places have numbers in order
pub numbers_run : (q : ℕ) (shape : Region) (w : World) → Ready w → Lives q shape w → shape.order ≡ Round → OnTurn q shape 0 w → Written q 0 w
    → (x : ℕ) → x < shape.blocks → w.vault.revs.number q x ≡ w.vault.revs.number q 0 + x
numbers_run q shape w ready lives round turn written zero below = omega arith
numbers_run q shape w ready lives round turn written (suc x) below =
    let before = numbers_run q shape w ready lives round turn written x (omega (arith, below)) in
    let some : w.vault.revs.number q x ≢ 0 = λ none. absurd (written.number (omega (arith, before, none))) in
    let next = (ready.laps q shape lives.live round).runs x (omega (arith, below)) (λ same. absurd (omega (arith, same, turn.turn round))) some in
    let step : suc x ≡ x + 1 = omega arith in
    ap (w.vault.revs.number q) step ∙ omega (arith, before, next)

-- in whichever order, the next place may be written next
pub next_turn : (q u : ℕ) (shape : Region) (w : World) → OnTurn q shape (turn_after shape u) w → OnTurn q shape (if u + 1 == shape.blocks then 0 else u + 1) w
next_turn q u shape w turn = go shape.order refl
  where
    go : (o : Order) → shape.order ≡ o → OnTurn q shape (if u + 1 == shape.blocks then 0 else u + 1) w
    go Round is = subst (λ (n : ℕ). OnTurn q shape n w) (ap (λ (o : Order). place_after o shape.blocks u) is) turn
    go Any is = turn_any q shape (if u + 1 == shape.blocks then 0 else u + 1) w is

-- the same after any answer
module _ (some : ℕ → Type 0) (a b : World) (lasts : Lasts some a b) where
  pub own_lasts : (q : ℕ) → IsOwn q a → IsOwn q b
  own_lasts q own = record { above = subst (λ (s : Start). s.region < q) (sym lasts.start) own.above }

  -- a region that was made before a call, or by it
  pub own_made : (q : ℕ) → Ready a → q ≡ a.vault.next → IsOwn q b
  own_made q ready next = own_lasts q (subst (λ (r : ℕ). IsOwn r a) (sym next) (own_next a ready))

  pub lives_lasts : (q : ℕ) (shape : Region) → (some q → ⊥) → Lives q shape a → Lives q shape b
  lives_lasts q shape off is = record { live = lasts.apart.live q off ∙ is.live }

  pub written_lasts : (q p : ℕ) → (some q → ⊥) → Written q p a → Written q p b
  written_lasts q p off is = record { number = λ zero. is.number (sym (lasts.apart.number q p off) ∙ zero) }

  pub holds_lasts : (q p : ℕ) (rows : List ℕ) → (some q → ⊥) → Holds q p rows a → Holds q p rows b
  holds_lasts q p rows off is = record {
    last = lasts.apart.last q p off ∙ is.last
        ∙ (λ i. Some (sealed (sym lasts.keys i) (at_of q p (sym (lasts.apart.number q p off) i)) rows));
  }

  pub turn_lasts : (q : ℕ) (shape : Region) → (some q → ⊥) → OnTurn q shape 0 a → OnTurn q shape 0 b
  turn_lasts q shape off is = record { turn = λ round. is.turn round ∙ sym (lasts.apart.turn q off); run = λ round nonzero. absurd (nonzero refl) }
