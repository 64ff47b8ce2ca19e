-- What contracts see of a keeper, and what its calls do.
use Rattle.std.specs.Prelude.{◌≡◌, ◌⊎◌, ◌↔◌, ◌==◌, ◌≤◌, ◌<◌, ◌+◌, ◌-◌, ◌^◌, ℕ, min, List, [], Option, Some, None, Vec, Result, Ok, Err, IsErr, IsTrue, IfOk, OnOk, OnErr, ⊤, length, slice_index}
use Rattle.std.specs.List.{list_any}
use Rattle.ob_base.specs.declared.fault.Failed.{Failed}
use Rattle.ob_reopen.specs.declared.mark.Mark.{Mark}
use Rattle.ob_reopen.specs.declared.mark.Mark.TheVariants.{Fresh, InUse, Closed, Begun, Saved}
use Rattle.ob_base.specs.Counts.{Rises}

pub record KeeperState : Type 0 where
  -- the mark that is held, where that is told
  pub held : Option Mark
  -- how often a call failed
  pub faults : ℕ
  -- the salt that was drawn last, if one was
  pub drawn : Option (List ℕ)

-- the numbers of a closing that a mark may name
pub record AreMarked (region blocks number pack : ℕ) : Type 0 where
  pub region_least : 1 ≤ region
  pub region_most : region < 2 ^ 63
  pub blocks_least : 1 ≤ blocks
  pub blocks_most : blocks ≤ 65
  pub number_least : 1 ≤ number
  pub number_most : number < 2 ^ 63
  pub pack_least : 1 ≤ pack
  pub pack_most : pack ≤ 16

-- the bytes of a salt, or of a check value, that a mark may name
pub record AreSaltBytes (salt : List ℕ) : Type 0 where
  pub long : length salt ≡ 16
  pub each : (i : ℕ) → slice_index salt i < 256

-- a mark within its limits
abbrev pub IsMark : Mark → Type 0
IsMark Fresh = ⊤
IsMark InUse = ⊤
IsMark (Closed region blocks number pack) = AreMarked region blocks number pack
IsMark Begun = ⊤
IsMark (Saved region blocks number pack salt check) =
    AreMarked region blocks number pack × AreSaltBytes salt × AreSaltBytes check

-- `Failed` comes only where the count rose, and any other answer leaves it
abbrev pub CountsFault : {T : Type 0} → Result T Failed → KeeperState → KeeperState → Type 0
CountsFault (Ok _) old new = new.faults ≡ old.faults
CountsFault (Err _) old new = Rises old.faults new.faults

-- the mark was asked for: it is the one that is held, where that is told, and stays
pub record GivesMark (result : Result Mark Failed) (old new : KeeperState) : Type 0 where
  pub cause : CountsFault result old new
  pub faults : old.faults ≤ new.faults
  pub within : IfOk result IsMark
  pub told : IfOk result (λ mark. (held : Mark) → old.held ≡ Some held → mark ≡ held)
  pub stays : new.held ≡ old.held
  pub drawn : new.drawn ≡ old.drawn

-- a mark was handed over: it is held, or what was held stays
pub record SetsMark {T : Type 0} (mark : Mark) (result : Result T Failed)
    (old new : KeeperState) : Type 0 where
  pub cause : CountsFault result old new
  pub faults : old.faults ≤ new.faults
  pub told : OnOk result ((held : Mark) → old.held ≡ Some held → new.held ≡ Some mark)
  pub failed : OnErr result ((held : Mark) → old.held ≡ Some held
      → (new.held ≡ Some held) ⊎ (new.held ≡ Some mark))
  pub drawn : new.drawn ≡ old.drawn

-- the salt that was drawn last: this one, or after a failed call the one before
abbrev pub drawn_by : Result (List ℕ) Failed → Option (List ℕ) → Option (List ℕ)
drawn_by (Ok salt) last = Some salt
drawn_by (Err failed) last = last

-- a salt was drawn, and the mark stays
pub record DrawsSalt (result : Result (List ℕ) Failed) (old new : KeeperState) : Type 0 where
  pub cause : CountsFault result old new
  pub faults : old.faults ≤ new.faults
  pub within : IfOk result AreSaltBytes
  pub stays : new.held ≡ old.held
  pub drawn : new.drawn ≡ drawn_by result old.drawn

-- ---- a keeper in memory
pub record MemoryState : Type 0 where
  pub mark : Mark
  -- the numbers of the calls that fail, from 1
  pub fail : List ℕ
  -- the calls so far, and how many of them failed
  pub calls : ℕ
  pub faults : ℕ
  -- the salts that are left, the last of them the next; the one that was drawn last
  pub salts : List (List ℕ)
  pub drawn : Option (List ℕ)

abbrev pub salts_in : {A : Type 0} → Option (Vec (List ℕ) A) → List (List ℕ)
salts_in None = []
salts_in (Some salts) = salts.items

-- it tells
abbrev pub told_by : MemoryState → KeeperState
told_by m = record { held = Some m.mark; faults = m.faults; drawn = m.drawn }

-- one call more was made, which failed where its number is listed
pub record Calls {T : Type 0} (result : Result T Failed) (old new : MemoryState) : Type 0 where
  pub fail : new.fail ≡ old.fail
  pub salts : new.salts ≡ old.salts
  pub drawn : new.drawn ≡ old.drawn
  pub calls : new.calls ≡ min (old.calls + 1) (2 ^ 64 - 1)
  pub fails : IsErr result ↔ IsTrue (list_any (λ n. n == new.calls) old.fail)
