-- A new table stands in place, flat or an index.
use Rattle.std.proofs.Common.{◌≡◌, ℕ, zero, suc, ◌+◌, ◌<◌, Bool, true, false, List, [], ◌∷◌, map, length, Option, Some, None, refl, sym, ◌∙◌, ap, subst, cond, get_or, arith}
use Rattle.std.specs.Prelude.{is_some, not, nat_lt, unwrap_or, ◌&&◌, ◌||◌, ◌^◌}
use Rattle.std.proofs.lemmas.List.{get_or-map, length-append, length-map, length-replicate, replicate-append-replicate}
use Rattle.std.proofs.lemmas.List.Elements.{All-map}
use Rattle.std.proofs.lemmas.Nat.{pow_pos}
use Rattle.std.proofs.Math.Nat.{mod-lt}
use Rattle.ob_base.specs.declared.schema.Column.{Column}
use Rattle.ob_base.specs.declared.schema.Heading.{Heading}
use Rattle.ob_base.specs.declared.schema.Shape.{Shape}
use Rattle.ob_base.specs.declared.schema.Shape.TheVariants.{Flat, Indexed}
use Rattle.ob_base.specs.declared.skeleton.NewColumn.{NewColumn}
use Rattle.ob_base.specs.Indexes.{height_of, leaf_of_draw, slots_in_place, tree_blocks}
use Rattle.ob_base.specs.Lists.{first, places_from, tabulate}
use Rattle.ob_base.specs.Schemas.{columns_of, key_place, new_column}
use Rattle.ob_path.specs.States.{State, Stands}
use Rattle.ob_row.specs.Keys.{key_in}
use Rattle.ob_row.specs.Rows.{Row, keys_repeat}
use Rattle.ob_tree.specs.Runs.{created}
use Rattle.ob_tree.proofs.PlaceLemmas.{stands_too}
use Rattle.ob_tree.proofs.RunLemmas.{created_represents}
use Rattle.ob_mean.specs.Refusals.{has_int_key, has_wrong_keys, is_int}
use Rattle.ob_mean.specs.Settle.{new_held}
use Rattle.ob_mean.specs.Verdict.{Draws, held_as, index_of, leaves_drawn, next_draws}
use Rattle.ob_mean.proofs.EarlyLemmas.{neither}
use Rattle.ob_mean.proofs.VerdictLemmas.{index_again}
use Rattle.ob_verdict.proofs.SlotLemmas.{rows-empty_slots}
use Rattle.ob_verdict.specs.Laws.{HoldsByShape, IsInPlace}

no_keys : (o : Option ℕ) → keys_repeat o [] ≡ false
no_keys None = refl
no_keys (Some i) = refl

-- ---- its primary key
some_key : (table : List ℕ) (n : ℕ) (columns : List NewColumn) → has_int_key columns ≡ true → is_some (first (places_from n (λ (c : Column). c.key) (columns_of table columns))) ≡ true
some_key table n [] has = absurd (cc has)
some_key table n (c ∷ cs) has = go (nat_lt 0 c.keys) has (some_key table (suc n) cs)
  where
    go : (b : Bool) → ((b && is_int c.kind) || has_int_key cs) ≡ true → (has_int_key cs ≡ true → is_some (first (places_from (suc n) (λ (c : Column). c.key) (columns_of table cs))) ≡ true)
        → is_some (first (cond b (n ∷ places_from (suc n) (λ (c : Column). c.key) (columns_of table cs)) (places_from (suc n) (λ (c : Column). c.key) (columns_of table cs)))) ≡ true
    go true has rest = refl
    go false has rest = rest has

there : (o : Option ℕ) → is_some o ≡ true → o ≡ Some (unwrap_or o 0)
there None some = absurd (cc some)
there (Some i) some = refl

not_false : (b : Bool) → not b ≡ false → b ≡ true
not_false true none = refl
not_false false none = absurd (cc none)

-- ---- its leaves
length-tabulate : {A : Type 0} (n : ℕ) (f : ℕ → A) → length (tabulate n f) ≡ n
length-tabulate zero f = refl
length-tabulate (suc n) f = let more = length-append (tabulate n f) (f n ∷ []) in let same = length-tabulate n f in omega (arith, more, same)

leaves_low : (height : ℕ) (draws : List ℕ) (k : ℕ) → k < length (map (leaf_of_draw height) draws) → get_or (map (leaf_of_draw height) draws) k 0 < 2 ^ height
leaves_low height draws k low =
    let same = length-map draws (leaf_of_draw height) in
    let inside : k < length draws = omega (arith, low, same) in
    subst (λ leaf. leaf < 2 ^ height) (sym (get_or-map (leaf_of_draw height) draws k 0 0 inside)) (mod-lt (get_or draws k 0) (pow_pos height))

module _ (d : Draws) (stash : ℕ) (table : List ℕ) (columns : List NewColumn) (capacity : ℕ) where
  abbrev heading : Shape → Heading
  heading shape = record { name = table; schema = columns_of table columns; capacity = capacity; shape = shape }

  abbrev height : ℕ
  height = height_of capacity

  -- the tree and the stash without a row
  abbrev empty : State Row
  empty = created height stash (leaves_drawn d capacity)

  held_is : new_held d stash (heading Indexed) ≡ held_as empty
  held_is = λ i. record { slots = sym (replicate-append-replicate (tree_blocks height) stash None) i; leaves = leaves_drawn d capacity }

  index_is : index_of (heading Indexed) (new_held d stash (heading Indexed)) ≡ empty
  index_is = ap (index_of (heading Indexed)) held_is ∙ index_again (heading Indexed) empty (length-replicate {A = Option Row} (tree_blocks height) None)

  stands : Stands (key_in (heading Indexed)) height (index_of (heading Indexed) (new_held d stash (heading Indexed)))
  stands = subst (Stands (key_in (heading Indexed)) height) (sym index_is)
      (stands_too (key_in (heading Indexed)) height empty (λ k. None) (created_represents (key_in (heading Indexed)) height stash (leaves_drawn d capacity) (leaves_low height (next_draws d capacity))))

  shaped : (shape : Shape) → has_wrong_keys columns shape ≡ false → HoldsByShape shape (record { heading = heading shape; held = new_held d stash (heading shape) })
  shaped Flat rule = refl
  shaped Indexed rule =
      let has = not_false (has_int_key columns) (neither _ (not (has_int_key columns)) rule).1 in
      record {
        primary = there (key_place (columns_of table columns)) (some_key table 0 columns has);
        leaves = length-map (next_draws d capacity) (leaf_of_draw height) ∙ length-tabulate capacity (λ i. d.draw (d.drawn + i));
        stands = stands;
      }

  pub created_in_place : (shape : Shape) → has_wrong_keys columns shape ≡ false → IsInPlace stash (record { heading = heading shape; held = new_held d stash (heading shape) })
  created_in_place shape rule =
      let size = slots_in_place stash (heading shape) in
      record {
        slots = length-replicate {A = Option Row} size None;
        keys = ap (keys_repeat (key_place (columns_of table columns))) (rows-empty_slots size) ∙ no_keys (key_place (columns_of table columns));
        named = All-map (λ (c : Column). c.table ≡ table) (new_column table) columns (λ k d h. refl);
        shaped = shaped shape rule;
      }
