-- What lies in a store that tells, once a run ended and after each of its statements, is sealed under the number of a write
-- of the run that no other has.
use Rattle.ob_headline.proofs.Words.{Access, ap, arith, asked_by, at_of, Base, Bool, get_front, inl, inr, IsSealed, IsTrue, keys_by, KeySet, length, List, Public, refl, slice_get, Some, SomeRun, Start, StoreState, sym, take, take-append-le, true, words_of, Write, writes, ℕ, ◌++◌, ◌+◌, ◌-◌, ◌<◌, ◌∙◌, ◌≡◌}
use Rattle.std.proofs.lemmas.Option.{slice_get_within}
use Rattle.ob_base.specs.Counts.{Rises}
use Rattle.ob_headline.proofs.AloneLemmas.{At, alone, no_later, position_of}
use Rattle.ob_headline.proofs.FlightWrites.{run_ordered, written_by}
use Rattle.ob_headline.specs.Shown.{AreNumberedAlike, AskedTheSame, IsBegun, IsBetween, IsShown, OfIndex, ShowNumbersAlike, Shows, ShowsBehind, ShowsBetween, ShowsSealed, Wrote, asked_behind, number_at, public_behind}
use Rattle.ob_headline.specs.Sealing.{IsSealedAt, PassesHere}
use Rattle.ob_seal.specs.Sealed.{sealed}

-- ---- one block
module _ (good : List ℕ → Bool) (keys : KeySet) (start : Start) (old new : StoreState) (region place : ℕ) (block : List ℕ) (fresh : start.given region place ≡ 0) (is : IsSealedAt good keys start old new region place block) where
  shown_at : At (is.number - start.writes) new.asked region place → IsShown good keys start (Rises old.faults new.faults) new.asked region place block
  shown_at at =
      let same : is.number ≡ number_at start new.asked at.position = omega (arith, at.number) in
      record {
        position = at.position;
        wrote = record { is = at.is };
        alone = alone start new.asked at.position region place at.is;
        latest = λ unrisen i one. no_later start.writes (start.given region place) region place new.asked at.position i at.is one.is (sym same ∙ is.newest unrisen);
        clear = is.clear;
        sealed = is.sealed ∙ ap (λ (n : ℕ). sealed keys (at_of region place n) is.clear) same;
        passes = is.passes;
      }

  pub shown : IsShown good keys start (Rises old.faults new.faults) new.asked region place block
  shown = elim is.written [
    | inl went ↦ shown_at (position_of (is.number - start.writes) new.asked region place went)
    | inr given ↦ absurd (given.1 (given.0 ∙ fresh))
  ]

-- a block that was written in a first part is shown after it
shown_earlier : (good : List ℕ → Bool) (keys : KeySet) (start : Start) (Failed : Type 0) (first rest all : List Access) (region place : ℕ) (block : List ℕ) → all ≡ first ++ rest
    → (is : IsShown good keys start Failed all region place block) → is.position < length first → IsShown good keys start Failed first region place block
shown_earlier good keys start Failed first rest all region place block whole is less =
    let here : slice_get first is.position ≡ Some (Write region place) = sym (get_front first rest is.position less) ∙ ap (λ (l : List Access). slice_get l is.position) (sym whole) ∙ is.wrote.is in
    let before : take is.position all ≡ take is.position first = ap (take is.position) whole ∙ take-append-le is.position first rest (omega (arith, less)) in
    let same : number_at start all is.position ≡ number_at start first is.position = ap (λ (l : List Access). start.writes + (writes l + 1)) before in
    record {
      position = is.position;
      wrote = record { is = here };
      alone = alone start first is.position region place here;
      latest = λ unfailed i one. is.latest unfailed i (record {
        is = ap (λ (l : List Access). slice_get l i) whole ∙ get_front first rest i (slice_get_within first i (Write region place) one.is) ∙ one.is;
      });
      clear = is.clear;
      sealed = is.sealed ∙ ap (λ (n : ℕ). sealed keys (at_of region place n) is.clear) same;
      passes = is.passes;
    }

-- ---- one run
pub shows_all : (Passes : (List ℕ → Bool) → Type 0) (keys : KeySet) (start : Start) (old new : StoreState) → ((region place : ℕ) → start.region < region → start.given region place ≡ 0)
    → IsSealed Passes keys start (start.region + 1) old new → Shows Passes keys start old new
shows_all Passes keys start old new fresh is = record {
  each = λ region place block own live last good passes.
      shown good keys start old new region place block (fresh region place own) (is.each region place block (omega (arith, own)) live last good passes);
}

pub shows_sealed : (one : SomeRun) → IsBegun one.base → ShowsSealed one
shows_sealed one begun tells = shows_all (PassesHere one.base) (keys_by one) one.base.start one.old.store one.new.store begun.fresh (one.run.sealing.sealed tells)

-- a write to a region that was made by then, and is no index's, came by then
pub written_behind : (one : SomeRun) (k i region place : ℕ) → region < (public_behind one k).next_region → (OfIndex (public_behind one k).tables region → ⊥) → Wrote (asked_by one) i region place → i < length (asked_behind one k)
written_behind one k i region place made off wrote =
    let ordered = run_ordered one.base (keys_by one) one.run.ending one.run.story one.old.store one.new.store one.run.accesses in
    written_by (words_of one.base) k 0 one.base.public one.run.story.entries ordered one.base.before i region place (ap (λ (l : List Access). slice_get l i) (sym one.run.accesses.asked) ∙ wrote.is) made off

module _ (one : SomeRun) (begun : IsBegun one.base) (tells : IsTrue one.old.store.tells) (between : StoreState) (is : IsBetween one between) where
  pub shows_between : ShowsBetween one between
  shows_between = record {
    each = λ region place block mine lives last left good passes.
        let at_end = (shows_sealed one begun tells).each region place block mine lives.now (is.stays region place lives left ∙ last) good passes in
        shown_earlier good (keys_by one) one.base.start (Rises one.old.store.faults one.new.store.faults) between.asked is.begins.rest (asked_by one) region place block is.begins.joined at_end
        (left at_end.position at_end.wrote);
  }

  pub shows_behind : (k : ℕ) → between.asked ≡ asked_behind one k → ShowsBehind one k between
  shows_behind k asked = record {
    each = λ region place block mine made off lives last.
        shows_between.each region place block mine lives last (λ i wrote. omega (arith, written_behind one k i region place made off wrote, ap length asked));
  }

-- ---- two runs
-- the last write to a place is one
one_last : (keys0 keys1 : KeySet) (start0 start1 : Start) (good : List ℕ → Bool) (Failed0 Failed1 : Type 0) (asked0 asked1 : List Access) (region place : ℕ) (block0 block1 : List ℕ) → ¬ Failed0 → ¬ Failed1
    → start0.writes ≡ start1.writes → asked0 ≡ asked1 → IsShown good keys0 start0 Failed0 asked0 region place block0 → IsShown good keys1 start1 Failed1 asked1 region place block1
    → AreNumberedAlike keys0 keys1 region place block0 block1
one_last keys0 keys1 start0 start1 good Failed0 Failed1 asked0 asked1 region place block0 block1 none0 none1 writes_same same is at =
    let up = at.latest none1 is.position (record { is = ap (λ (l : List Access). slice_get l is.position) (sym same) ∙ is.wrote.is }) in
    let down = is.latest none0 at.position (record { is = ap (λ (l : List Access). slice_get l at.position) same ∙ at.wrote.is }) in
    let position : at.position ≡ is.position = omega (arith, up, down) in
    let number : number_at start1 asked1 at.position ≡ number_at start0 asked0 is.position = λ i. sym writes_same i + (writes (take (position i) (sym same i)) + 1) in
    record {
      number = number_at start0 asked0 is.position;
      clear0 = is.clear;
      clear1 = at.clear;
      sealed0 = is.sealed;
      sealed1 = at.sealed ∙ ap (λ (n : ℕ). sealed keys1 (at_of region place n) at.clear) number;
    }

-- every block passes a test that refuses none
no_test : List ℕ → Bool
no_test block = true

none_refused : (base : Base) → PassesHere base no_test
unfolding no_test
none_refused base = (
  ((λ columns region. record { accepts = λ slots size fits. refl }), (λ columns region. record { accepts = λ slots size fits. refl })),
  λ saves region listed p less. refl,
)

pub numbers_alike : (a b : SomeRun) → AskedTheSame a b → ShowNumbersAlike a b
numbers_alike a b same = record {
  each = λ region place block0 block1 own live0 last0 live1 last1.
      let next = ap (λ (p : Public). p.next_region) same.from.public in
      let own_too : b.base.start.region < region = omega (arith, own, next, same.told.begun.next, same.told_too.begun.next) in
      one_last (keys_by a) (keys_by b) a.base.start b.base.start no_test _ _ (asked_by a) (asked_by b) region place block0 block1 same.told.unfailed same.told_too.unfailed same.writes same.asked
      ((shows_sealed a same.told.begun same.told.tells).each region place block0 own live0 last0 no_test (none_refused a.base))
      ((shows_sealed b same.told_too.begun same.told_too.tells).each region place block1 own_too live1 last1 no_test (none_refused b.base));
}
