-- What each call does to what stands in a store that others change, beside what every store says of it: first the acts
-- before its access are done, and then, where it is not to fail, the call.
use Rattle.std.specs.Prelude.{◌≡◌, ◌≢◌, ◌<◌, ◌||◌, not, ℕ, true, false, List, Some, None, replicate, Result, Err, OnOk, OnErr, is_err}
use Rattle.ob_base.specs.declared.fault.StoreErr.{StoreErr}
use Rattle.ob_base.specs.declared.fault.StoreErr.TheVariants.{Failed}
use Rattle.ob_store.specs.Calls.{is_failed, is_kept}
use Rattle.ob_store.specs.State.{KeptRegion}
use Rattle.ob_meddle.specs.declared.store.MeddledStore.{MeddledStore}
use Rattle.ob_meddle.specs.Acts.{OnlyStand, OtherStands, OtherRests, before_at, len_at, has_place}
use Rattle.ob_meddle.specs.Shows.{list_of, state_of, keeps_gone, standing, standing_next, held, fails_next}

-- a new region stands as zeros; `Failed` comes exactly where the access was to fail
pub record Made {T : Type 0} (region blocks len : ℕ) (result : Result T StoreErr)
    (old new : MeddledStore) : Type 0 where
  pub list : list_of new ≡ list_of old
  pub fails : fails_next old ≡ true → result ≡ Err Failed
  pub does : fails_next old ≡ false → result ≢ Err Failed
  pub zeros : OnOk result ((x : ℕ) → x < blocks → standing new region x ≡ replicate len 0)
  pub others : OnOk result (OtherStands region (standing_next old) (standing new))
  pub stays : OnErr result ((q x : ℕ) → standing new q x ≡ standing_next old q x)
  pub rests : OnOk result (OtherRests region (held old) (held new))
  pub rests_stay : OnErr result ((q : ℕ) → held new q ≡ held old q)

-- a read gives what stands
pub record Gave {T E : Type 0} (region place : ℕ) (bytes : List ℕ) (result : Result T E)
    (old new : MeddledStore) : Type 0 where
  pub list : list_of new ≡ list_of old
  pub fails : is_err result ≡ fails_next old
  pub gives : OnOk result (bytes ≡ standing_next old region place)
  pub stays : standing new ≡ standing_next old
  pub rests : (q : ℕ) → held new q ≡ held old q

-- a block stands at its place, and what stood there is what stood before it
pub record Wrote {T E : Type 0} (region place : ℕ) (block : List ℕ) (result : Result T E)
    (old new : MeddledStore) : Type 0 where
  pub list : list_of new ≡ list_of old
  pub fails : is_err result ≡ fails_next old
  pub here : OnOk result (standing new region place ≡ block)
  pub others : OnlyStand region place (standing_next old) (standing new)
  pub stays : OnErr result (standing new region place ≡ standing_next old region place)
  pub rests : OtherRests region (held old) (held new)
  pub rests_stay : OnErr result (held new region ≡ held old region)
  pub before : OnOk result
      (before_at (held new region) place ≡ standing_next old region place)
  pub befores : (x : ℕ) → x ≢ place
      → before_at (held new region) x ≡ before_at (held old region) x

-- a region is gone; where its blocks are kept they stand as they stood
pub record Retired {T E : Type 0} (region : ℕ) (result : Result T E)
    (old new : MeddledStore) : Type 0 where
  pub list : list_of new ≡ list_of old
  pub fails : is_err result ≡ fails_next old
  pub kept : keeps_gone old region ≡ true → standing new ≡ standing_next old
  pub elsewhere : OtherStands region (standing_next old) (standing new)
  pub stays : OnErr result (standing new ≡ standing_next old)
  pub rests : OtherRests region (held old) (held new)
  pub rests_stay : OnErr result (held new region ≡ held old region)
  pub len : keeps_gone old region ≡ true
      → len_at (held new region) ≡ len_at (held old region)
  pub places : keeps_gone old region ≡ true
      → (x : ℕ) → has_place x (held new region) ≡ has_place x (held old region)

-- a region of an earlier run holds what it held; `Failed` comes exactly where the access was to fail, or where no
-- region is kept with this size, or one that was given up
pub record Resumed {T : Type 0} (region blocks len : ℕ) (result : Result T StoreErr)
    (old new : MeddledStore) : Type 0 where
  pub list : list_of new ≡ list_of old
  pub fails : is_failed result
      ≡ (fails_next old || not (is_kept blocks len ((state_of old).kept region)))
  pub stays : standing new ≡ standing_next old
  pub rests : (q : ℕ) → held new q ≡ held old q

-- what is live stands as it stood; what is kept for use and isn't live is gone with its blocks, and
-- no later act finds it
pub record Swept (old new : MeddledStore) : Type 0 where
  pub list : list_of new ≡ list_of old
  pub stays : (q x : ℕ) → (state_of old).live q ≢ None → standing new q x ≡ standing old q x
  pub rests : (q : ℕ) → (state_of old).live q ≢ None → held new q ≡ held old q
  pub gone : (q : ℕ) (region : KeptRegion) → (state_of old).live q ≡ None
      → (state_of old).kept q ≡ Some region → region.given_up ≡ false → held new q ≡ None
