-- The accesses of a walk, one after the other and as a list of places.
use Rattle.std.proofs.Common.{◌≡◌, ◌<◌, ◌≤◌, ◌⊎◌, inl, inr, ℕ, zero, suc, List, [], ◌∷◌, length, map, get_or, refl, sym, ◌∙◌, ap, arith}
use Rattle.std.proofs.lemmas.Bool.{cases_lt}
use Rattle.std.proofs.lemmas.List.{ext_get_or, get_or_append_left, get_or_push, length-map, get_or-map}
use Rattle.ob_base.specs.declared.access.Access.{Access}
use Rattle.ob_base.specs.declared.access.Access.TheVariants.{Read, Write}
use Rattle.ob_base.specs.Accesses.{read_at, write_at}
use Rattle.ob_base.specs.Lists.{each, tabulate}
use Rattle.ob_store.proofs.Steps.{length-each}
use Rattle.ob_tree.proofs.RunLemmas.{length-numbers, get_or-numbers, length-path_places}
use Rattle.ob_tree.proofs.WalkLemmas.{path_place_at}
use Rattle.ob_oram.specs.declared.index.Index.{Index}
use Rattle.ob_oram.specs.declared.walk.Walk.{Walk}
use Rattle.ob_oram.specs.declared.walk.Walk.TheVariants.{Stash, Path}
use Rattle.ob_oram.specs.Walks.{blocks_in, place_in}
use Rattle.ob_oram.specs.Walking.{IsWalkOf, region_in, places_in, walk_reads, walk_writes}

-- one access for each number
module _ (f : ℕ → Access) where
  length-tabulate : (n : ℕ) → length (tabulate n f) ≡ n
  length-tabulate n = length-each (λ i. f i ∷ []) 1 (λ i. refl) n ∙ omega arith

  get_or-tabulate : (n i : ℕ) (d : Access) → i < n → get_or (tabulate n f) i d ≡ f i
  get_or-tabulate zero i d below = absurd (omega (arith, below))
  get_or-tabulate (suc n) i d below = by_end (get_or-tabulate n i d) (cases_lt i n)
    where
      by_end : (i < n → get_or (tabulate n f) i d ≡ f i) → (i < n) ⊎ (n ≤ i) → get_or (tabulate (suc n) f) i d ≡ f i
      by_end rest (inl earlier) = get_or_append_left (tabulate n f) (f n ∷ []) d i (omega (arith, earlier, length-tabulate n)) ∙ rest earlier
      by_end rest (inr last) =
          let here : i ≡ n = omega (arith, below, last) in
          get_or_push (tabulate n f) (f n) d i (length-tabulate n ∙ sym here) ∙ ap f (sym here)

each_place : (f : ℕ → Access) (n : ℕ) (places : List ℕ) (place : ℕ → ℕ) → length places ≡ n → ((c : ℕ) → c < n → get_or places c 0 ≡ place c) → each n (λ c. f (place c) ∷ []) ≡ map f places
each_place f n places place size is =
    ext_get_or (f 0) (tabulate n (λ c. f (place c))) (map f places) (length-tabulate (λ c. f (place c)) n ∙ sym size ∙ sym (length-map places f))
    (λ i inside.
    let below : i < n = omega (arith, inside, length-tabulate (λ c. f (place c)) n) in
    get_or-tabulate (λ c. f (place c)) n i (f 0) below
    ∙ ap f (sym (is i below))
    ∙ sym (get_or-map f places i 0 (f 0) (omega (arith, below, size))))

pub length-places_in : (walk : Walk) → length (places_in walk) ≡ blocks_in walk
length-places_in (Stash slots height) = length-numbers 0 slots
length-places_in (Path height leaf) = length-path_places height leaf

place_at : (index : Index) (walk : Walk) → IsWalkOf index walk → (c : ℕ) → c < blocks_in walk → get_or (places_in walk) c 0 ≡ place_in walk c
place_at index (Stash slots height) is c within = get_or-numbers slots 0 c 0 within ∙ omega arith
place_at index (Path height leaf) is c within = path_place_at height leaf is.1 c within

pub reads_each : (index : Index) (walk : Walk) → IsWalkOf index walk → each (blocks_in walk) (λ c. read_at (region_in index walk) (place_in walk c)) ≡ walk_reads index walk
reads_each index walk is = each_place (λ x. Read (region_in index walk) x) (blocks_in walk) (places_in walk) (place_in walk) (length-places_in walk) (place_at index walk is)

pub writes_each : (index : Index) (walk : Walk) → IsWalkOf index walk → each (blocks_in walk) (λ c. write_at (region_in index walk) (place_in walk c)) ≡ walk_writes index walk
writes_each index walk is = each_place (λ x. Write (region_in index walk) x) (blocks_in walk) (places_in walk) (place_in walk) (length-places_in walk) (place_at index walk is)
