-- A walk that is written block by block from a buffer.
use Rattle.std.proofs.Common.{◌≡◌, ◌≢◌, ◌⊎◌, ◌≤◌, ◌<◌, ◌+◌, ◌*◌, ◌/◌, ◌==◌, if◌then◌else◌, inl, inr, ℕ, zero, suc, IsTrue, List, [], ◌∷◌, Option, None, Result, Ok, Err, length, get_or, below_more, refl, sym, ◌∙◌, ap, subst, arith}
use Rattle.std.proofs.lemmas.Bool.{cases_eq}
use Rattle.std.proofs.lemmas.List.{length-take}
use Rattle.ob_base.specs.Numbers.{blocks_for}
use Rattle.ob_base.specs.Schemas.{Columns, width}
use Rattle.ob_base.specs.declared.access.Access.{Access}
use Rattle.ob_base.specs.Accesses.{write_at}
use Rattle.ob_base.specs.Lists.{each}
use Rattle.ob_store.proofs.Steps.{length-each}
use Rattle.ob_vault.specs.declared.region.Region.{Region}
use Rattle.ob_vault.specs.declared.region.Order.TheVariants.{Round}
use Rattle.ob_vault.specs.declared.fault.VaultErr.{VaultErr}
use Rattle.ob_vault.specs.Revs.{turn_after}
use Rattle.ob_vault.specs.State.{World}
use Rattle.ob_vault.specs.Tied.{OnTurn, Holds, Written}
use Rattle.ob_vault.specs.Rows.{joined, row_at}
use Rattle.ob_vault.specs.Places.{MayPut, RowsFit}
use Rattle.ob_vault.specs.Calls.{Went, one}
use Rattle.ob_vault.specs.VaultCalls.{Puts}
use Rattle.ob_vault.specs.Words.{MayAsk}
use Rattle.ob_vault.proofs.Runs.{went_each, went_none, may_put, holds_rows, holds_only, lives_only, own_only, written_only, turn_any, next_turn, tells_went, seals_none}
use Rattle.ob_vault.proofs.WordLemmas.{asks_after}
use Rattle.ob_row.specs.Rows.{Row}
use Rattle.ob_row.specs.Slots.{Slots}
use Rattle.ob_row.specs.Spelling.{Begins, slot_bytes}
use Rattle.ob_flat.specs.declared.flat.Flat.{Flat}
use Rattle.ob_flat.specs.declared.fault.OpErr.TheVariants as OpErrs
use Rattle.ob_flat.specs.Flats.{IsInTurn, table_region}
use Rattle.ob_flat.specs.Passes.{PassCut, pass_error}
use Rattle.ob_flat.specs.Slots.{Spelt, AreSlots}
use Rattle.ob_flat.specs.Words.{SealsTable}
use Rattle.ob_flat.proofs.Rows.{slot_size}
use Rattle.ob_flat.proofs.Runs.{pass_of, pass_each}
use Rattle.ob_flat.proofs.Tables.{accepted, not_last, at_last}
use Rattle.ob_flat.proofs.Loops.{first_place}
use Rattle.ob_flat.proofs.WordLemmas.{seals_after, seals_any}
use Rattle.ob_tree.proofs.WalkLemmas.{path_place_apart}
use Rattle.ob_oram.specs.declared.fault.OramErr.{OramErr}
use Rattle.ob_oram.specs.declared.fault.OramErr.TheVariants.{Failed}
use Rattle.ob_oram.specs.declared.index.Index.{Index}
use Rattle.ob_oram.specs.declared.walk.Walk.{Walk}
use Rattle.ob_oram.specs.declared.walk.Walk.TheVariants.{Stash, Path}
use Rattle.ob_oram.specs.Indexes.{IsShaped}
use Rattle.ob_oram.specs.Walks.{blocks_in, place_in, slot_in}
use Rattle.ob_oram.specs.Walking.{IsWalkOf, WritesRow, WritesWalk, order_in, region_in, table_in}
use Rattle.ob_oram.proofs.Creates.{one_each}
use Rattle.ob_oram.proofs.WalkRows.{place_below, one_row_fits, one_joined}
use Rattle.ob_oram.proofs.WalkScripts.{writes_each}
use Rattle.ob_oram.proofs.WalkReads.{schema_is}

-- bytes that begin with a slot's are as wide
pub begins_wide : (columns : Columns) (slot : Option Row) (bytes : List ℕ) → Begins columns slot bytes → width columns ≤ length bytes
begins_wide columns slot bytes begins = omega (arith, ap length begins.is, slot_size columns slot begins.fits, length-take (width columns) bytes)

-- one row spells one slot
pub one_spelt : (columns : Columns) (slot : Option Row) (bytes : List ℕ) → Begins columns slot bytes → AreSlots columns (bytes ∷ [])
one_spelt columns slot bytes begins = record { slots = slot ∷ []; spelt = record { count = refl; each = only } }
  where
    only : (j : ℕ) → j < 1 → Begins columns (get_or (slot ∷ []) j None) (get_or (bytes ∷ []) j [])
    only zero below = begins
    only (suc j) below = absurd (omega (arith, below))

-- a call of the vault by other names
pub puts_as : {T : Type 0} {p q x y : ℕ} {a b : List (List ℕ)} (r : Result T VaultErr) (old new : World) → p ≡ q → x ≡ y → a ≡ b → Puts p x a r old new → Puts q y b r old new
puts_as {q = q} {x = x} {y = y} {a = a} {b = b} r old new region place rows is =
    subst (λ (l : List (List ℕ)). Puts q y l r old new) rows
    (subst (λ (k : ℕ). Puts q k a r old new) place (subst (λ (k : ℕ). Puts k x a r old new) region is))

module _ (index : Index) (walk : Walk) (c : ℕ) (shaped : IsShaped index) (is : IsWalkOf index walk) (within : c < blocks_in walk) (old : World) (turn : IsInTurn (order_in walk) 1 (table_in index walk) (place_in walk c) old) where
  abbrev q : ℕ
  q = region_in index walk

  abbrev x : ℕ
  x = place_in walk c

  abbrev flat : Flat
  flat = table_in index walk

  abbrev shape : Region
  shape = table_region (order_in walk) 1 flat.schema flat.capacity

  pub may_write : (slot : Option Row) (row : List ℕ) → Begins index.schema slot row → MayPut q x (row ∷ []) old
  may_write slot row begins =
      may_put q x shape (row ∷ []) old turn.own turn.lives (omega (arith, place_below index walk c is within, one_each flat.capacity))
      (subst (λ s. RowsFit (row ∷ []) (1 * width s)) (sym (schema_is index walk)) (one_row_fits (width index.schema) row (begins_wide index.schema slot row begins)))
      turn.turn

  module _ (new : World) (row : List ℕ) (spells : (slot : Option Row) × Begins index.schema slot row) where
    width_is : 1 * width flat.schema ≡ 1 * width index.schema
    width_is = ap (λ s. 1 * width s) (schema_is index walk)

    write_seals : {T : Type 0} (r : Result T VaultErr) → Puts q x (row ∷ []) r old new → SealsTable 1 index.schema q old new
    write_seals r puts = record {
      seals = λ good fine.
          puts.seals good shape turn.lives
          (subst (λ w. IsTrue (good q (joined (w / 1) (row ∷ [])))) (sym width_is)
          (accepted good 1 q index.schema (row ∷ []) (omega arith) refl fine (one_spelt index.schema spells.0 row spells.1)));
    }

    pub row_written : (v : Unit {0}) → Puts q x (row ∷ []) (Ok v) old new → WritesRow {T = Unit {0}} index walk c row (Ok tt) old new
    row_written v puts = record {
      ok = puts.ok;
      err = tt;
      only = puts.only;
      seals = write_seals (Ok v) puts;
      written = puts.written;
      turn = puts.turn;
      told = λ tells slot begins.
          holds_rows _ _ _ _ _ (ap (λ w. joined (w / 1) (row ∷ [])) width_is ∙ one_joined index slot row begins) (puts.told tells shape turn.lives);
    }

    pub row_failed : (e : VaultErr) → Puts {T = Unit {0}} q x (row ∷ []) (Err e) old new → WritesRow {T = Unit {0}} index walk c row (Err Failed) old new
    row_failed e puts = record {
      ok = tt;
      err = (refl, subst (λ (v : VaultErr). PassCut (pass_error v) (write_at q x) (one q) old new) puts.never (pass_of e (write_at q x) (one q) old new puts.err));
      only = puts.only;
      seals = write_seals {T = Unit {0}} (Err e) puts;
      written = puts.written;
      turn = puts.turn;
      told = tt;
    }

-- the place that is in turn after c blocks: any in a tree
pub next_place : Walk → ℕ → ℕ
next_place (Stash slots height) c = if c == slots then 0 else c
next_place (Path height leaf) c = 0

-- the first c blocks of a walk were written
pub record WritesFirst (index : Index) (walk : Walk) (rows : List (List ℕ)) (c : ℕ) (old now : World) : Type 0 where
  pub went : Went (each c (λ d. write_at (region_in index walk) (place_in walk d))) (one (region_in index walk)) old now
  pub seals : SealsTable 1 index.schema (region_in index walk) old now
  pub turn : IsInTurn (order_in walk) 1 (table_in index walk) (next_place walk c) now
  pub told : IsTrue old.store.tells → (slots : Slots) → Spelt index.schema slots rows → (d : ℕ) → d < c
      → Holds (region_in index walk) (place_in walk d) (slot_bytes index.schema (get_or slots (slot_in walk d) None)) now
  pub others : (p : ℕ) (bytes : List ℕ) → ((d : ℕ) → d < c → place_in walk d ≢ p) → Holds (region_in index walk) p bytes old → Holds (region_in index walk) p bytes now

-- the places of a walk are apart
place_apart : (walk : Walk) (index : Index) (c d : ℕ) → IsWalkOf index walk → c < d → d < blocks_in walk → place_in walk c ≢ place_in walk d
place_apart (Stash slots height) index c d is less within = λ same. absurd (omega (arith, less, same))
place_apart (Path height leaf) index c d is less within = λ same. absurd (omega (arith, same, path_place_apart height leaf is.1 c d less within))

-- each place of a tree is in turn, and the first place of a stash after its last
first_in_turn : (index : Index) (walk : Walk) (w : World) → IsInTurn (order_in walk) 1 (table_in index walk) 0 w → IsInTurn (order_in walk) 1 (table_in index walk) (next_place walk 0) w
unfolding next_place
first_in_turn index (Stash slots height) w is = subst (λ p. IsInTurn Round 1 (table_in index (Stash slots height)) p w) (sym (first_place slots)) is
first_in_turn index (Path height leaf) w is = is

last_in_turn : (index : Index) (walk : Walk) (c : ℕ) (w : World) → c ≡ blocks_in walk → IsInTurn (order_in walk) 1 (table_in index walk) (next_place walk c) w → IsInTurn (order_in walk) 1 (table_in index walk) 0 w
unfolding next_place
last_in_turn index (Stash slots height) c w last is = subst (λ p. IsInTurn Round 1 (table_in index (Stash slots height)) p w) (at_last c slots last) is
last_in_turn index (Path height leaf) c w last is = is

place_in_turn : (index : Index) (walk : Walk) (c : ℕ) (w : World) → c < blocks_in walk → IsInTurn (order_in walk) 1 (table_in index walk) (next_place walk c) w → IsInTurn (order_in walk) 1 (table_in index walk) (place_in walk c) w
unfolding next_place
place_in_turn index (Stash slots height) c w within is = subst (λ p. IsInTurn Round 1 (table_in index (Stash slots height)) p w) (not_last c slots within) is
place_in_turn index (Path height leaf) c w within is = record { own = is.own; lives = is.lives; turn = turn_any _ _ _ w refl; written = is.written }

behind_in_turn : (index : Index) (walk : Walk) (c : ℕ) (w : World) → IsWalkOf index walk
    → OnTurn (region_in index walk) (table_region (order_in walk) 1 (table_in index walk).schema (table_in index walk).capacity)
    (turn_after (table_region (order_in walk) 1 (table_in index walk).schema (table_in index walk).capacity) (place_in walk c)) w
    → OnTurn (region_in index walk) (table_region (order_in walk) 1 (table_in index walk).schema (table_in index walk).capacity) (next_place walk (c + 1)) w
unfolding next_place
behind_in_turn index (Stash slots height) c w is turn =
    let blocks : blocks_for 1 index.slots ≡ slots = one_each index.slots ∙ sym is.0 in
    subst (λ n. OnTurn index.stash (table_region Round 1 index.schema index.slots) (if c + 1 == n then 0 else c + 1) w) blocks
    (next_turn index.stash c (table_region Round 1 index.schema index.slots) w turn)
behind_in_turn index (Path height leaf) c w is turn = turn_any _ _ _ w refl

-- nothing was written yet
pub writes_none : (index : Index) (walk : Walk) (rows : List (List ℕ)) (n : ℕ) (w : World) → MayAsk n w → IsInTurn (order_in walk) 1 (table_in index walk) 0 w → WritesFirst index walk rows 0 w w
writes_none index walk rows n w asks turn = record {
  went = went_none (one (region_in index walk)) w asks.ready;
  seals = seals_any (λ good. seals_none good w);
  turn = first_in_turn index walk w turn;
  told = λ tells slots spelt d below. absurd (omega (arith, below));
  others = λ p bytes off holds. holds;
}

module _ (index : Index) (walk : Walk) (rows : List (List ℕ)) (c : ℕ) (is : IsWalkOf index walk) (within : c < blocks_in walk) (old mid : World) (before : WritesFirst index walk rows c old mid) where
  abbrev part : ℕ → List Access
  part d = write_at (region_in index walk) (place_in walk d)

  -- there are accesses left for the others
  pub asks_one : MayAsk (blocks_in walk) old → MayAsk 1 mid
  asks_one asks = asks_after {m = 1} asks before.went (omega (arith, length-each part 1 (λ d. refl) c, within))

  pub next_in_turn : IsInTurn (order_in walk) 1 (table_in index walk) (place_in walk c) mid
  next_in_turn = place_in_turn index walk c mid within before.turn

  module _ (new : World) (bytes : List ℕ) where
    -- one more is written
    pub writes_more : WritesRow {T = Unit {0}} index walk c bytes (Ok tt) mid new → bytes ≡ row_at rows (slot_in walk c) → slot_in walk c < length rows → WritesFirst index walk rows (c + 1) old new
    writes_more row is_row inside = record {
      went = went_each (one (region_in index walk)) part old mid new c before.went row.ok;
      seals = seals_after before.went.lasts before.seals row.seals;
      turn = record {
        own = own_only _ _ _ _ row.only (table_in index walk).region before.turn.own;
        lives = lives_only _ _ _ _ row.only _ _ before.turn.lives;
        turn = behind_in_turn index walk c new is (row.turn _ before.turn.lives);
        written = λ p below. written_at p below (cases_eq p (place_in walk c));
      };
      told = λ tells slots spelt. below_more _ _
          (λ d below. holds_only _ _ _ _ row.only _ (place_in walk d) _ (λ _ at. place_apart walk index d c is below within at) (before.told tells slots spelt d below))
          (row.told (tells_went _ _ _ _ before.went tells) (get_or slots (slot_in walk c) None) (subst (Begins index.schema (get_or slots (slot_in walk c) None)) (sym is_row) (spelt.each (slot_in walk c) inside)));
      others = λ p block off holds.
          holds_only _ _ _ _ row.only _ p _ (λ _ at. off c (omega arith) (sym at)) (before.others p block (λ d below. off d (omega (arith, below))) holds);
    }
      where
        written_at : (p : ℕ) → p < blocks_for 1 (table_in index walk).capacity → (p ≡ place_in walk c) ⊎ (p ≢ place_in walk c) → Written (region_in index walk) p new
        written_at p below (inl here) = subst (λ x. Written (region_in index walk) x new) (sym here) row.written
        written_at p below (inr other) = written_only _ _ _ _ row.only _ p (λ _ at. other at) (before.turn.written p below)

    -- or the store fails
    pub writes_ended : (e : OramErr) → WritesRow {T = Unit {0}} index walk c bytes (Err e) mid new → WritesWalk {T = Unit {0}} index walk rows (Err e) old new
    writes_ended e row = record {
      ok = tt;
      err = (
        row.err.0,
        subst (λ l. PassCut OpErrs.Failed l (one (region_in index walk)) old new) (writes_each index walk is)
            (pass_each (one (region_in index walk)) part old mid new OpErrs.Failed (blocks_in walk) c within before.went row.err.1),
      );
      seals = seals_after before.went.lasts before.seals row.seals;
      turn = tt;
      written = record {
        order = order_in walk;
        lives = lives_only _ _ _ _ row.only _ _ before.turn.lives;
        written = λ p below. written_there p below (cases_eq p (place_in walk c));
      };
      told = tt;
      others = tt;
    }
      where
        written_there : (p : ℕ) → p < blocks_for 1 (table_in index walk).capacity → (p ≡ place_in walk c) ⊎ (p ≢ place_in walk c) → Written (region_in index walk) p new
        written_there p below (inl here) = subst (λ x. Written (region_in index walk) x new) (sym here) row.written
        written_there p below (inr other) = written_only _ _ _ _ row.only _ p (λ _ at. other at) (before.turn.written p below)

-- all were
pub writes_all : (index : Index) (walk : Walk) (rows : List (List ℕ)) (c : ℕ) (old new : World) → IsWalkOf index walk → c ≡ blocks_in walk → WritesFirst index walk rows c old new → WritesWalk {T = Unit {0}} index walk rows (Ok tt) old new
writes_all index walk rows c old new is last all = record {
  ok = subst (λ l. Went l (one (region_in index walk)) old new) (writes_each index walk is)
      (subst (λ n. Went (each n (λ d. write_at (region_in index walk) (place_in walk d))) (one (region_in index walk)) old new) last all.went);
  err = tt;
  seals = all.seals;
  turn = last_in_turn index walk c new last all.turn;
  written = record { order = order_in walk; lives = all.turn.lives; written = all.turn.written };
  told = λ tells slots spelt d below. all.told tells slots spelt d (omega (arith, below, last));
  others = λ p bytes off holds. all.others p bytes (λ d below. off d (omega (arith, below, last))) holds;
}
