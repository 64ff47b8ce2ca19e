-- The blocks of a walk, and what reading and writing one of them does.
use Rattle.std.proofs.Common.{◌≡◌, ◌≢◌, ◌⊎◌, ◌≤◌, ◌<◌, ◌+◌, ◌-◌, ◌*◌, ◌/◌, ◌^◌, inl, inr, ℕ, zero, suc, List, [], ◌∷◌, Option, None, Result, Ok, Err, length, get_or, set, get_or-set_same, get_or-set_other, refl, sym, ◌∙◌, ap, subst, arith}
use Rattle.std.specs.Prelude.{MatchResult}
use Rattle.std.proofs.lemmas.Bool.{cases_eq}
use Rattle.std.proofs.lemmas.List.{append-nil, get_or_default, length-set}
use Rattle.ob_base.specs.Numbers.{blocks_for}
use Rattle.ob_base.specs.Schemas.{width}
use Rattle.ob_base.specs.Accesses.{read_at}
use Rattle.ob_vault.specs.declared.region.Region.{Region}
use Rattle.ob_vault.specs.declared.region.Order.{Order}
use Rattle.ob_vault.specs.declared.fault.VaultErr.{VaultErr}
use Rattle.ob_vault.specs.declared.fault.VaultErr.TheVariants as VaultErrs
use Rattle.ob_vault.specs.State.{World}
use Rattle.ob_vault.specs.Tied.{Lives, Holds}
use Rattle.ob_vault.specs.Rows.{SameSizes, joined, row_at, Wide}
use Rattle.ob_vault.specs.Places.{RowsFit, MayGet}
use Rattle.ob_vault.specs.Calls.{Unsealed, none}
use Rattle.ob_vault.specs.VaultCalls.{Gets}
use Rattle.ob_vault.proofs.Runs.{may_get}
use Rattle.ob_row.specs.Rows.{Row}
use Rattle.ob_row.specs.Spelling.{Begins, slot_bytes}
use Rattle.ob_flat.specs.declared.flat.Flat.{Flat}
use Rattle.ob_flat.specs.Flats.{IsWritten, table_region}
use Rattle.ob_flat.specs.Passes.{PassCut, pass_error}
use Rattle.ob_flat.specs.Slots.{FitsSlot}
use Rattle.ob_flat.specs.Words.{TamperedAt}
use Rattle.ob_flat.proofs.Rows.{slot_size}
use Rattle.ob_flat.proofs.Runs.{pass_of, pass_malformed}
use Rattle.ob_flat.proofs.WordLemmas.{get_refused, rows_malformed}
use Rattle.ob_tree.proofs.WalkLemmas.{path_place_below}
use Rattle.ob_oram.specs.declared.fault.OramErr.TheVariants.{Failed, Tampered}
use Rattle.ob_oram.specs.declared.held.Held.{Held}
use Rattle.ob_oram.specs.declared.held.Remap.{Remap}
use Rattle.ob_oram.specs.declared.index.Index.{Index}
use Rattle.ob_oram.specs.declared.walk.Walk.{Walk}
use Rattle.ob_oram.specs.declared.walk.Walk.TheVariants.{Stash, Path}
use Rattle.ob_oram.specs.Walks.{IsWalk, blocks_in, place_in}
use Rattle.ob_oram.specs.Indexes.{IsShaped}
use Rattle.ob_oram.specs.Opens.{OpensRow, keyed_slot}
use Rattle.ob_oram.specs.Walking.{IsWalkOf, OpensBlock, ReadsRow, region_in, table_in}
use Rattle.ob_oram.proofs.Creates.{one_each}

-- a tree of an index is low
pub height_few : (index : Index) → IsShaped index → index.height ≤ 24
height_few index shaped = shaped.height.least 24 (omega (arith, shaped.size.most, sixteen))
  where
    sixteen : 2 ^ 24 ≡ 16777216
    sixteen = omega arith

pub walk_is : (index : Index) (walk : Walk) → IsShaped index → IsWalkOf index walk → IsWalk walk
walk_is index (Stash slots height) shaped is = (omega (arith, is.0, shaped.few), omega (arith, is.1, height_few index shaped))
walk_is index (Path height leaf) shaped is = (omega (arith, is.0, height_few index shaped), is.1)

pub place_below : (index : Index) (walk : Walk) (c : ℕ) → IsWalkOf index walk → c < blocks_in walk → place_in walk c < (table_in index walk).capacity
place_below index (Stash slots height) c is within = omega (arith, is.0, within)
place_below index (Path height leaf) c is within = omega (arith, path_place_below height leaf is.1 c within, ap (λ (h : ℕ). 4 * (2 ^ (h + 1) - 1)) is.0)

-- one row of a block
pub one_wide : (w : ℕ) (row : List ℕ) → w ≤ length row → Wide w (row ∷ [])
one_wide w row wide = record { wide = only }
  where
    only : (j : ℕ) → j < 1 → w ≤ length (row_at (row ∷ []) j)
    only zero below = wide
    only (suc j) below = absurd (omega (arith, below))

pub one_row_fits : (w : ℕ) (row : List ℕ) → w ≤ length row → RowsFit (row ∷ []) (1 * w)
one_row_fits w row wide = record { each = w; whole = refl; some = omega arith; wide = one_wide w row wide }

each_width : (w : ℕ) → (1 * w) / 1 ≡ w
each_width w = omega arith

-- its bytes are those of the slot that it spells, and the other way round
pub one_joined : (index : Index) (slot : Option Row) (row : List ℕ) → Begins index.schema slot row → joined ((1 * width index.schema) / 1) (row ∷ []) ≡ slot_bytes index.schema slot
one_joined index slot row begins = ap (λ w. joined w (row ∷ [])) (each_width (width index.schema)) ∙ append-nil _ ∙ begins.is

pub one_begins : (index : Index) (slot : Option Row) (row : List ℕ) → FitsSlot index.schema slot → joined ((1 * width index.schema) / 1) (row ∷ []) ≡ slot_bytes index.schema slot → Begins index.schema slot row
one_begins index slot row fits is = record { fits = fits; is = sym (ap (λ w. joined w (row ∷ [])) (each_width (width index.schema)) ∙ append-nil _) ∙ is }

pub one_list : (rows : List (List ℕ)) (d : List ℕ) → length rows ≡ 1 → rows ≡ get_or rows 0 d ∷ []
one_list [] d count = absurd (omega (arith, count))
one_list (row ∷ []) d count = refl
one_list (row ∷ other ∷ rows) d count = absurd (omega (arith, count))

-- and it is as long as it was
pub one_size : {rows after : List (List ℕ)} (row : List ℕ) → rows ≡ row ∷ [] → SameSizes rows after → length (get_or after 0 row) ≡ length row
one_size {rows} {after} row is same =
    ap length (get_or_default after 0 row [] (omega (arith, same.count, ap length is))) ∙ same.sizes 0 ∙ ap (λ (l : List (List ℕ)). length (row_at l 0)) is

-- a list in which one row was written
pub sizes_set : (rows list : List (List ℕ)) (i : ℕ) (d bytes : List ℕ) → SameSizes rows list → i < length list → length bytes ≡ length (get_or list i d) → SameSizes rows (set list i bytes)
sizes_set rows list i d bytes same inside size = record { count = length-set list i bytes ∙ same.count; sizes = λ j. at j (cases_eq j i) }
  where
    at : (j : ℕ) → (j ≡ i) ⊎ (j ≢ i) → length (row_at (set list i bytes) j) ≡ length (row_at rows j)
    at j (inl here) =
        ap (λ k. length (row_at (set list i bytes) k)) here ∙ ap length (get_or-set_same list i bytes [] inside) ∙ size
        ∙ ap length (get_or_default list i d [] inside) ∙ same.sizes i ∙ ap (λ k. length (row_at rows k)) (sym here)
    at j (inr other) = ap length (get_or-set_other list i j bytes [] other) ∙ same.sizes j

-- a call of the vault by other names
pub gets_as : {T : Type 0} {p q x y : ℕ} {a b c d : List (List ℕ)} (r : Result T VaultErr) (old new : World) → p ≡ q → x ≡ y → a ≡ b → c ≡ d → Gets p x a c r old new → Gets q y b d r old new
gets_as {q = q} {x = x} {y = y} {a = a} {b = b} {c = c} {d = d} r old new region place before after is =
    subst (λ (l : List (List ℕ)). Gets q y b l r old new) after
    (subst (λ (l : List (List ℕ)). Gets q y l c r old new) before
    (subst (λ (k : ℕ). Gets q k a c r old new) place (subst (λ (k : ℕ). Gets k x a c r old new) region is)))

module _ (index : Index) (remap : Remap) (walk : Walk) (c : ℕ) (shaped : IsShaped index) (is : IsWalkOf index walk) (within : c < blocks_in walk) where
  abbrev q : ℕ
  q = region_in index walk

  abbrev x : ℕ
  x = place_in walk c

  abbrev flat : Flat
  flat = table_in index walk

  schema_is : (table_in index walk).schema ≡ index.schema
  schema_is = of_walk walk
    where
      of_walk : (w : Walk) → (table_in index w).schema ≡ index.schema
      of_walk (Stash slots height) = refl
      of_walk (Path height leaf) = refl

  in_blocks : x < blocks_for 1 flat.capacity
  in_blocks = omega (arith, place_below index walk c is within, one_each flat.capacity)

  abbrev shape : Order → Region
  shape order = table_region order 1 flat.schema flat.capacity

  pub may_read : (old : World) (row : List ℕ) → IsWritten 1 flat old → width index.schema ≤ length row → MayGet q x (row ∷ []) old
  may_read old row written wide =
      may_get q x (shape written.order) (row ∷ []) old written.lives in_blocks
      (subst (λ s. RowsFit (row ∷ []) (1 * width s)) (sym schema_is) (one_row_fits (width index.schema) row wide)) (written.written x in_blocks)

  module _ (old new : World) (written : IsWritten 1 flat old) (row bytes : List ℕ) where
    lives : Lives q (shape written.order) old
    lives = written.lives

    width_is : 1 * width flat.schema ≡ 1 * width index.schema
    width_is = ap (λ s. 1 * width s) schema_is

    -- what was told of a read
    told_bytes : (r : Result (Unit {0}) VaultErr) → Gets q x (row ∷ []) (bytes ∷ []) r old new → (slot : Option Row) → FitsSlot index.schema slot → Holds q x (slot_bytes index.schema slot) old → new.store.lie ≡ None
        → MatchResult r (λ _. joined ((1 * width index.schema) / 1) (bytes ∷ []) ≡ slot_bytes index.schema slot) (λ e. e ≡ VaultErrs.Failed)
    told_bytes r gets slot fits holds nolie =
        let long : length (slot_bytes index.schema slot) ≡ 1 * width flat.schema = omega (arith, slot_size index.schema slot fits, width_is) in
        subst (λ w. MatchResult r (λ _. joined (w / 1) (bytes ∷ []) ≡ slot_bytes index.schema slot) (λ e. e ≡ VaultErrs.Failed)) width_is
        (gets.told (slot_bytes index.schema slot) (shape written.order) lives long holds nolie)

    -- the vault refused it
    pub reads_failed : {T : Type 0} (e : VaultErr) → Gets {T = T} q x (row ∷ []) (bytes ∷ []) (Err e) old new → (e ≡ VaultErrs.Failed) → ReadsRow index remap walk c (Err Failed) bytes old new
    reads_failed e gets failed = record {
      ok = tt;
      err = subst (λ (v : VaultErr). PassCut (pass_error v) (read_at q x) none old new) failed (pass_of e (read_at q x) none old new gets.err);
      seals = record { seals = gets.seals };
      opens = tt;
      told = λ slot fits holds nolie. refl;
    }

    pub reads_tampered : (e : VaultErr) (a b : ℕ) → e ≡ VaultErrs.Tampered a b → Gets {T = Unit {0}} q x (row ∷ []) (bytes ∷ []) (Err e) old new → ReadsRow index remap walk c (Err (Tampered q x)) bytes old new
    reads_tampered e a b other gets = let tampered : e ≡ VaultErrs.Tampered q x = elim gets.never [ inl failed ↦ absurd (cc (failed, other)) | inr is ↦ is ] in record {
      ok = tt;
      err = (
        subst (λ (v : VaultErr). PassCut (pass_error v) (read_at q x) none old new) tampered (pass_of e (read_at q x) none old new gets.err),
        elim (get_refused 1 flat x e gets.err gets.never) [
          | inl failed ↦ absurd (cc (failed, tampered))
          | inr there ↦ subst (λ (v : VaultErr). TamperedAt 1 flat x (pass_error v) new) tampered there
        ],
      );
      seals = record { seals = gets.seals };
      opens = tt;
      told = λ slot fits holds nolie. absurd (cc (told_bytes (Err e) gets slot fits holds nolie, tampered));
    }

    -- or gave the block of a slot
    opened_slot : Gets {T = Unit {0}} q x (row ∷ []) (bytes ∷ []) (Ok tt) old new → (slot : Option Row) → Begins index.schema slot bytes → OpensBlock index walk c (keyed_slot index slot) old new
    opened_slot gets slot begins = record {
      went = gets.ok;
      gives = gets.gave (λ no. absurd (cc no));
      slot = slot;
      fits = begins.fits;
      opened = subst (λ (l : List ℕ). Unsealed q x l new) (ap (λ (w : ℕ). joined (w / 1) (bytes ∷ [])) width_is ∙ one_joined index slot bytes begins) (gets.opened (shape written.order) lives);
      is = refl;
    }

    -- of a row, or of a dummy
    pub reads_row : (held : Option Held) (after : List ℕ) → Gets {T = Unit {0}} q x (row ∷ []) (bytes ∷ []) (Ok tt) old new
        → ((slot : Option Row) × Begins index.schema slot bytes) → ((slot : Option Row) → Begins index.schema slot bytes → OpensRow index remap (keyed_slot index slot) held after)
        → ReadsRow index remap walk c (Ok held) after old new
    reads_row held after gets real opens = record {
      ok = gets.ok;
      err = tt;
      seals = record { seals = gets.seals };
      opens = (real.0, opens real.0 real.1, opened_slot gets real.0 real.1);
      told = λ slot fits holds nolie. opens slot (one_begins index slot bytes fits (told_bytes (Ok (tt {0})) gets slot fits holds nolie));
    }

    -- or a malformed one
    pub reads_malformed : (after : List ℕ) → Gets {T = Unit {0}} q x (row ∷ []) (bytes ∷ []) (Ok tt) old new → width index.schema ≤ length bytes → ((slot : Option Row) → Begins index.schema slot bytes → ⊥)
        → ReadsRow index remap walk c (Err (Tampered q x)) after old new
    reads_malformed after gets wide opens = record {
      ok = tt;
      err = (
        pass_malformed none old new q x gets.ok,
        rows_malformed 1 (bytes ∷ []) (omega arith) refl refl (one_wide (width flat.schema) bytes (subst (λ s. width s ≤ length bytes) (sym schema_is) wide)) (gets.opened (shape written.order) lives)
            (λ slots spelt. opens (get_or slots 0 None) (subst (λ s. Begins s (get_or slots 0 None) bytes) schema_is (spelt.each 0 (omega arith)))),
      );
      seals = record { seals = gets.seals };
      opens = tt;
      told = λ slot fits holds nolie. absurd (opens slot (one_begins index slot bytes fits (told_bytes (Ok (tt {0})) gets slot fits holds nolie)));
    }
