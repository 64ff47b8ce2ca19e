-- Places of rows, in order of the field that each row has.
use Rattle.std.specs.Prelude.{◌≡◌, ◌≢◌, ◌≤◌, ◌<◌, ◌-◌, ◌==◌, ◌&&◌, ◌||◌, ℕ, Bool, true, false, if◌then◌else◌, map, List, [], ◌∷◌, length, take, drop, slice_index_or, slice_set, bytes_eq, Option, Some, None}
use Rattle.std.specs.List.{Contains, position}
use Rattle.std.specs.List.Sorted.{IsSortedBy}
use Rattle.std.specs.declared.cmp.Ordering.{Ordering}
use Rattle.std.specs.Ordering.{is_lt, nat_cmp, ordering_then}
use Rattle.std.specs.Cmp.Lexicographic.{slice_cmp}
use Rattle.ob_order.specs.declared.admitting.Admitted.{Admitted}
use Rattle.ob_order.specs.declared.admitting.Admitted.TheVariants.{Done, Duplicate, Full}

-- the field of the row at this place: so many of its bytes, from one on
abbrev pub field_at : (at len : ℕ) → (rows : List (List ℕ)) → (place : ℕ) → List ℕ
field_at at len rows place = take len (drop at (slice_index_or rows place []))

-- by the fields' bytes, and of equal fields the one at the lesser place comes first
abbrev pub place_cmp : (at len : ℕ) → (rows : List (List ℕ)) → (p q : ℕ) → Ordering
place_cmp at len rows p q =
    ordering_then (slice_cmp nat_cmp (field_at at len rows p) (field_at at len rows q)) (nat_cmp p q)

-- whether the row at this place has a lesser field
abbrev pub has_lesser : (at : ℕ) → (field : List ℕ) → (rows : List (List ℕ)) → (place : ℕ) → Bool
has_lesser at field rows place =
    is_lt (slice_cmp nat_cmp (field_at at (length field) rows place) field)

-- the places stand in this order
abbrev pub AreInOrder : (at len : ℕ) → (rows : List (List ℕ)) → List ℕ → Type 0
AreInOrder at len rows = IsSortedBy (λ p q. is_lt (place_cmp at len rows p q))

-- of these places it is the first one whose row has this field
pub record IsFirst (at : ℕ) (field : List ℕ) (rows : List (List ℕ)) (places : List ℕ) (place : ℕ)
    : Type 0 where
  pub listed : Contains places place
  pub has : field_at at (length field) rows place ≡ field
  pub first : (q : ℕ) → Contains places q → field_at at (length field) rows q ≡ field → place ≤ q

-- none of them has it
abbrev pub HasNone : (at : ℕ) → (field : List ℕ) → (rows : List (List ℕ)) → List ℕ → Type 0
HasNone at field rows places =
    (q : ℕ) → Contains places q → field_at at (length field) rows q ≢ field

-- whether the bytes have a row's mark
abbrev pub is_marked : List ℕ → Bool
is_marked bytes = slice_index_or bytes 0 0 == 1

-- these are the places of the rows, dummies left out, in this order
pub record Lists (at len : ℕ) (rows : List (List ℕ)) (places : List ℕ) : Type 0 where
  pub sorted : AreInOrder at len rows places
  pub each : (i : ℕ) → Contains places i
      → (i < length rows) × (is_marked (slice_index_or rows i []) ≡ true)
  pub all : (i : ℕ) → i < length rows → is_marked (slice_index_or rows i []) ≡ true
      → Contains places i

-- whether the bytes have a row's mark, and this field at a place
abbrev pub has_field : (at : ℕ) → (field bytes : List ℕ) → Bool
has_field at field bytes = is_marked bytes && bytes_eq (take (length field) (drop at bytes)) field

-- the first of these rows that has it is the one at this place
pub record IsFirstRow (at : ℕ) (field : List ℕ) (rows : List (List ℕ)) (i : ℕ) : Type 0 where
  pub inside : i < length rows
  pub has : has_field at field (slice_index_or rows i []) ≡ true
  pub before : (j : ℕ) → j < i → has_field at field (slice_index_or rows j []) ≡ false

-- none of them has it
abbrev pub NoRowHas : (at : ℕ) → (field : List ℕ) → (rows : List (List ℕ)) → Type 0
NoRowHas at field rows =
    (j : ℕ) → j < length rows → has_field at field (slice_index_or rows j []) ≡ false

-- ---- what contracts see of an order
pub record OrderState : Type 0 where
  pub places : List ℕ
  -- how many it may have
  pub most : ℕ

-- ---- rows that are admitted one by one
-- the first row with the field of the row at place i
pub record IsFirstAlike (at len : ℕ) (rows : List (List ℕ)) (i j : ℕ) : Type 0 where
  pub inside : j < length rows
  pub same : field_at at len rows j ≡ field_at at len rows i
  pub first : (q : ℕ) → q < length rows → field_at at len rows q ≡ field_at at len rows i → j ≤ q

-- whether a key is one of these
abbrev pub has_key : List ℕ → List (List ℕ) → Bool
has_key k [] = false
has_key k (t ∷ ts) = bytes_eq k t || has_key k ts

-- at the first row with its field each row says whether a table with these keys has it
pub record KnowsKeys (at len : ℕ) (rows keys : List (List ℕ)) (there : List Bool) : Type 0 where
  pub size : length there ≡ length rows
  pub knows : (i j : ℕ) → i < length rows → IsFirstAlike at len rows i j
      → slice_index_or there j false ≡ has_key (field_at at len rows i) keys

-- the first row with this key, if there is one, is told that the table has it
abbrev pub mark_at : Option ℕ → List Bool → List Bool
mark_at None there = there
mark_at (Some place) there = slice_set there place true

abbrev pub noted : (at : ℕ) → (key : List ℕ) → (rows : List (List ℕ)) → List Bool → List Bool
noted at key rows there = mark_at (position (has_field at key) rows) there

-- what a row with this key is answered, where so many slots are free, and the keys after it
abbrev pub admitted : (key : List ℕ) → (keys : List (List ℕ)) → (free : ℕ) → Admitted
admitted key keys free =
    if has_key key keys then Duplicate else (if free == 0 then Full else Done)

abbrev pub keys_after : (key : List ℕ) → (keys : List (List ℕ)) → (free : ℕ) → List (List ℕ)
keys_after key keys free =
    if has_key key keys then keys else (if free == 0 then keys else key ∷ keys)

-- how many slots are free after it
abbrev pub free_after : Admitted → ℕ → ℕ
free_after Done free = free - 1
free_after Duplicate free = free
free_after Full free = free

-- each row in turn
abbrev pub admitted_all : (keys : List (List ℕ)) → (free : ℕ) → List (List ℕ) → List Admitted
admitted_all keys free [] = []
admitted_all keys free (k ∷ ks) = admitted k keys free
    ∷ admitted_all (keys_after k keys free) (free_after (admitted k keys free) free) ks

-- the fields of rows
abbrev pub fields : (at len : ℕ) → List (List ℕ) → List (List ℕ)
fields at len rows = map (λ (row : List ℕ). take len (drop at row)) rows
