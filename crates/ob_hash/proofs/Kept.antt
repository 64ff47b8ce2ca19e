-- What parts of a run leave of a result, from one to the next.
use Rattle.std.proofs.Common.{◌≡◌, ◌<◌, ◌+◌, ◌++◌, ℕ, Bool, List, [], Result, Ok, Err}
use Rattle.std.specs.Prelude.{⊤}
use Rattle.std.proofs.lemmas.Result.{on_ok_weaker}
use Rattle.ob_base.specs.declared.access.Access.{Access}
use Rattle.ob_base.specs.Accesses.{read_at}
use Rattle.ob_base.specs.Lists.{each}
use Rattle.ob_script.specs.Parts.{copy_at}
use Rattle.ob_vault.specs.State.{World}
use Rattle.ob_vault.specs.Tied.{Ready}
use Rattle.ob_vault.specs.Calls.{Went, Seals, none, one}
use Rattle.ob_vault.specs.declared.region.Order.TheVariants.{Any}
use Rattle.ob_vault.proofs.Runs.{went_none, went_each, went_wider, tells_went, seals_none}
use Rattle.ob_row.specs.Slots.{Slots}
use Rattle.ob_flat.specs.declared.fault.OpErr.{OpErr}
use Rattle.ob_flat.specs.Passes.{PassCut}
use Rattle.ob_flat.specs.Reworks.{Reworks}
use Rattle.ob_flat.proofs.Loops.{went_all}
use Rattle.ob_flat.proofs.Runs.{pass_each, pass_wider}
use Rattle.ob_flat.proofs.Tables.{rows_lasts}
use Rattle.ob_flat.proofs.WordLemmas.{ran_after, ran_more, seals_any, seals_after}
use Rattle.ob_hash.specs.Hashing.{Layout, IsOpen}
use Rattle.ob_hash.specs.Selecting.{KeepsBuckets}
use Rattle.ob_hash.proofs.Alike.{any_turn, open_went}

-- so far
abbrev pub Kept : Layout → List Access → World → World → Type 0
Kept l script a b = KeepsBuckets {T = ⊤} l script (Ok tt) a b

-- nothing was asked
pub keeps_none : (l : Layout) (w : World) → Ready w → IsOpen l w → Kept l [] w w
keeps_none l w ready is = record {
  ran = record { ok = went_none (one l.table.region) w ready; err = tt };
  seals = seals_any (λ good. seals_none good w);
  stays = is;
  rows = λ tells rows. rows;
}

module _ {T : Type 0} {l : Layout} {a b c : World} where
  -- one part, and then another
  pub keeps_after : {U : Type 0} {u : U} (x y : List Access) (r : Result T OpErr) → KeepsBuckets l x (Ok u) a b → KeepsBuckets l y r b c → KeepsBuckets l (x ++ y) r a c
  keeps_after x y r first second = record {
    ran = ran_after r x y first.ran.ok second.ran;
    seals = seals_after first.ran.ok.lasts first.seals second.seals;
    stays = second.stays;
    rows = on_ok_weaker r (λ more tells rows. more (tells_went _ _ _ _ first.ran.ok tells) (first.rows tells rows)) second.rows;
  }

  -- one round more
  pub keeps_next : {t : T} (part : ℕ → List Access) (i : ℕ) → Kept l (each i part) a b → KeepsBuckets l (part i) (Ok t) b c → Kept l (each (i + 1) part) a c
  keeps_next part i first second = record {
    ran = record { ok = went_each (one l.table.region) part _ _ _ i first.ran.ok second.ran.ok; err = tt };
    seals = seals_after first.ran.ok.lasts first.seals second.seals;
    stays = second.stays;
    rows = λ tells rows. second.rows (tells_went _ _ _ _ first.ran.ok tells) (first.rows tells rows);
  }

  -- or a part of one
  pub keeps_cut : {U : Type 0} (part : ℕ → List Access) (n i : ℕ) (e : OpErr) → i < n → Kept l (each i part) a b → KeepsBuckets {T = T} l (part i) (Err e) b c → KeepsBuckets {T = U} l (each n part) (Err e) a c
  keeps_cut part n i e below first second = record {
    ran = record { ok = tt; err = pass_each (one l.table.region) part _ _ _ e n i below first.ran.ok second.ran.err };
    seals = seals_after first.ran.ok.lasts first.seals second.seals;
    stays = tt;
    rows = tt;
  }

-- or the first part was
pub keeps_more : {T U : Type 0} {l : Layout} {a b : World} {e : OpErr} (x y : List Access) → KeepsBuckets {T = T} l x (Err e) a b → KeepsBuckets {T = U} l (x ++ y) (Err e) a b
keeps_more x y first = record { ran = ran_more x y first.ran.err; seals = first.seals; stays = tt; rows = tt }

-- all rounds
pub keeps_all : {T : Type 0} {l : Layout} {a b : World} (t : T) (part : ℕ → List Access) {i n : ℕ} → i ≡ n → Kept l (each i part) a b → KeepsBuckets l (each n part) (Ok t) a b
keeps_all t part last first = record { ran = record { ok = went_all part last first.ran.ok; err = tt }; seals = first.seals; stays = first.stays; rows = first.rows }

-- a block of the buckets was changed in place
pub keeps_block : {T : Type 0} (l : Layout) (place : ℕ) (Makes : ℕ → Slots → Slots → Type 0) (Suits : Type 0) (r : Result T OpErr) (a b : World) → IsOpen l a → Reworks l.pack l.table place Makes Suits r a b
    → KeepsBuckets l (copy_at l.table.region l.table.region place) r a b
keeps_block l place Makes Suits r a b is reworks = record {
  ran = reworks.ran;
  seals = reworks.seals;
  stays = on_ok_weaker r (λ moves. any_turn l.pack _ 0 l.table b (moves.moves Any (any_turn l.pack 0 place l.table a is))) reworks.turn;
  rows = reworks.holds;
}

-- a block of another table was read
pub keeps_read : (l : Layout) (q x : ℕ) (a b : World) → ((good : ℕ → List ℕ → Bool) → Seals good a b) → Went (read_at q x) none a b → IsOpen l a → Kept l (read_at q x) a b
keeps_read l q x a b seals went is = record {
  ran = record { ok = went_wider none _ _ (one l.table.region) (λ q s. absurd s) _ went; err = tt };
  seals = seals_any seals;
  stays = open_went l.pack 0 l.table none _ _ _ went (λ s. s) is;
  rows = λ tells rows. rows_lasts l.pack l.table none _ _ went.lasts (λ s. s) rows;
}

-- or refused
pub keeps_refused : {T : Type 0} (l : Layout) (q x : ℕ) (a b : World) → ((good : ℕ → List ℕ → Bool) → Seals good a b) → (e : OpErr) → PassCut e (read_at q x) none a b → KeepsBuckets {T = T} l (read_at q x) (Err e) a b
keeps_refused l q x a b seals e cut = record {
  ran = record { ok = tt; err = pass_wider none _ _ (one l.table.region) (λ q s. absurd s) _ _ cut };
  seals = seals_any seals;
  stays = tt;
  rows = tt;
}
